use Rattle.std.proofs.Common.{◌≡◌, ℕ, ◌<◌, List, length, Option, None, Some, OnSome, IsSome, sym, ◌∙◌, ap, arith}
use Rattle.std.specs.Prelude.{slice_get}
use Rattle.std.specs.List.{remove}
use Rattle.std.proofs.lemmas.Bool.{false≢true}
use Rattle.std.proofs.lemmas.Option.{slice_get_within}
use Rattle.inst_due.proofs.Pairs.{takes_out, takes_out_none, not_there, there_at}
use Rattle.inst_due.proofs.due.Due.take_out.Goals as goal

on_some : {X P : Type 0} (r : Option X) → IsSome r → OnSome r P → P
on_some None some holds = absurd (false≢true some)
on_some (Some x) some holds = holds

pub returns-in-Err-clause-there : goal.returns-in-Err-clause-there
returns-in-Err-clause-there c = sym (not_there c.args.self.now (c.args.deadline, c.args.index) c.in-Err.field-0 c.in-Err.ensures)

pub returns-in-Err-clause-taken_out : goal.returns-in-Err-clause-taken_out
returns-in-Err-clause-taken_out c =
    takes_out_none c.args.self.now c.args.deadline c.args.index (not_there c.args.self.now (c.args.deadline, c.args.index) c.in-Err.field-0 c.in-Err.ensures)

stands : (c : goal.After-is_some-in-Ok) → slice_get c.self.inside.pairs.items c.in-Ok.place ≡ Some (c.args.deadline, c.args.index)
stands c = ap (λ (pairs : List (ℕ × ℕ)). slice_get pairs c.in-Ok.place) c.self.view_is ∙ c.in-Ok.ensures

was_there : (c : goal.After-is_some-in-Ok) → IsSome c.remove.result
was_there c =
    let row = c.self.inside.pairs in
    let within : c.in-Ok.place < length row.items = slice_get_within row.items c.in-Ok.place (c.args.deadline, c.args.index) (stands c) in
    c.remove.ensures.variant.1 (omega (arith, row.ok.0))

pub returns-in-Ok-clause-there : goal.returns-in-Ok-clause-there
returns-in-Ok-clause-there c =
    c.is_some-in-Ok.ensures ∙ was_there c ∙ sym (there_at c.args.self.now c.in-Ok.place (c.args.deadline, c.args.index) c.in-Ok.ensures)

pub returns-in-Ok-clause-taken_out : goal.returns-in-Ok-clause-taken_out
returns-in-Ok-clause-taken_out c =
    let row = c.self.inside.pairs.items in
    let items : c.remove.new.self.items ≡ remove row c.in-Ok.place = on_some c.remove.result (was_there c) c.remove.ensures.items in
    rw (items, ← c.self.view_is) (takes_out row c.in-Ok.place c.args.deadline c.args.index c.self.invariant (stands c))

pub returns-in-Ok-eq0-clause-taken_out : goal.returns-in-Ok-eq0-clause-taken_out
returns-in-Ok-eq0-clause-taken_out c =
    let row = c.self.inside.pairs.items in
    let at : slice_get row 0 ≡ Some (c.args.deadline, c.args.index) =
    ap (λ (pairs : List (ℕ × ℕ)). slice_get pairs 0) c.self.view_is ∙ ap (λ (n : ℕ). slice_get c.args.self.now n) (sym c.in-Ok-eq0.field-0-test) ∙ c.in-Ok-eq0.ensures in
    rw (c.pop_front.ensures.rest, ← c.self.view_is) (takes_out row 0 c.args.deadline c.args.index c.self.invariant at)
