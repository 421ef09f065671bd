use Rattle.std.proofs.Common.{◌≡◌, ℕ, List, [], ◌++◌, refl, subst, sym, ap, ◌∙◌, arith}
use Rattle.std.proofs.lemmas.List.{nil_from_length}
use Rattle.inst_agenda.specs.Agenda.{Agenda}
use Rattle.inst_agenda.specs.inner.Agenda.{AreInOrder, NothingIsDue}
use Rattle.inst_agenda.proofs.Agendas.{in_order_rest, none_is_due, none_is_due_alone, zero_unless}
use Rattle.inst_agenda.proofs.agenda.Agenda.take_due.Goals as goal

pub invariant_of-self : goal.invariant_of-self
invariant_of-self c = in_order_rest _ _ (subst AreInOrder c.in-Some.ensures.0 c.self.invariant)

pub returns-in_err-moment : goal.returns-in_err-moment
returns-in_err-moment c =
    let row = c.self.inside.row.items in
    let others = c.self.inside.others.keys in
    let next = c.self.inside.next.keys in
    let popped = c.in_default.ensures in
    let empty : others ≡ [] = nil_from_length others (zero_unless _ c.in_err-moment.ensures.variant.1) in
    rw c.from_residual.ensures (
      ap (λ (items : List (ℕ × (ℕ × ℕ))). record { waiting = items ++ others; next = next }) popped.0 ∙ c.self.view_is,
      subst (λ (agenda : Agenda). NothingIsDue agenda c.args.at) c.self.view_is (none_is_due_alone next row others c.args.at popped.1 empty),
    )

pub returns-then-not-is_due : goal.returns-then-not-is_due
returns-then-not-is_due c =
    let row = c.self.inside.row.items in
    let others = c.self.inside.others in
    let next = c.self.inside.next.keys in
    let popped = c.in_default.ensures in (
      ap (λ (items : List (ℕ × (ℕ × ℕ))). record { waiting = items ++ others.keys; next = next }) popped.0 ∙ c.self.view_is,
      subst (λ (agenda : Agenda). NothingIsDue agenda c.args.at) c.self.view_is
          (none_is_due next row others c.in_ok-moment.field-0.now c.args.at popped.1 c.in_ok-moment.ensures.least (sym c.is_due.ensures ∙ c.if-not-is_due.true)),
    )
