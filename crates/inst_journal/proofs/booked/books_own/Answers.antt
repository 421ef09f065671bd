use Rattle.std.proofs.Common.{◌≡◌, ap, sym, ◌∙◌, cond, Bool, true, false, Some, None, refl}
use Rattle.std.specs.Bool.{then_some}
use Rattle.inst_journal.specs.Booked.{books_own}
use Rattle.inst_journal.proofs.booked.books_own.Goals as goal

then_some-cond : {A : Type 0} (b : Bool) (x : A) → then_some b x ≡ cond b (Some x) None
then_some-cond true x = refl
then_some-cond false x = refl

pub returns-in-Booked : goal.returns-in-Booked
returns-in-Booked c =
    c.then_some.ensures ∙ ap (λ b. then_some b c.in-Booked.outcome) c.is_own.ensures ∙ then_some-cond _ c.in-Booked.outcome
    ∙ sym (ap (books_own c.args.events.now c.args.id.now) c.in-Booked.is)
