use Rattle.std.proofs.Common.{◌≡◌, ◌∙◌, sym, ap, refl, Bool, true, false, Option, Some, None, is_none, is_some, not}
use Rattle.inst_journal.specs.Opened.{takes_live}
use Rattle.inst_journal.proofs.booked.takes_live.Goals as goal

none_is : {A : Type 0} (o : Option A) (b : Bool) → is_some o ≡ not b → b ≡ is_none o
none_is None true e = refl
none_is None false e = cc
none_is (Some x) true e = cc
none_is (Some x) false e = refl

pub returns-in-Taken : goal.returns-in-Taken
returns-in-Taken c =
    none_is c.booked.result c.is_none.result c.is_none.ensures ∙ ap is_none c.booked.ensures
    ∙ ap (takes_live c.args.who c.args.booking.now) (sym c.in-Taken.is)
