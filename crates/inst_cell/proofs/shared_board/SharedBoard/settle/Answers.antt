use Rattle.std.proofs.Common.{rules, ◌+◌, ◌<◌, ℕ, ap, refl, sym, subst, ◌∙◌, ⊎_elim, inl, inr}
use Rattle.inst_board.specs.Plain.{place_number}
use Rattle.inst_cell.specs.declared.view.View.{View}
use Rattle.inst_cell.specs.View.{count}
use Rattle.inst_cell.specs.Held.{settings_of, roles_of}
use Rattle.inst_cell.proofs.RuleAllowsEachStep.{allows_decides}
use Rattle.inst_cell.proofs.Numbers.{below, owner_is}
use Rattle.inst_cell.proofs.FactsLearntFromStep.{hit, missed}
use Rattle.inst_cell.proofs.shared_board.SharedBoard.settle.Goals as goal

pub compare_exchange-found-requires : goal.compare_exchange-found-requires
compare_exchange-found-requires c =
    let s = settings_of c.args.self.now in
    let w = c.requires.terms in (
      search rules,
      search rules,
      rw (c.deref.ensures, c.first_word-word.ensures.value) (allows_decides s _ _ _ _ (below s c.args.place c.requires.due.0) c.args.self.now.based c.args.self.now.bounded w.0 c.args.deadline _ _ c.args.outcome.now c.args.at c.pending_word-pending.ensures.value c.decided_word-decided.ensures.value c.decided_word-decided.ensures.word c.requires.in_time c.requires.due.1 w.1.1 w.2
          (⊎_elim (λ mine. inl (subst (λ (n : ℕ). 0 < count n (roles_of c.args.self.now)) (sym (owner_is s c.args.place c.requires.due.0)) mine)) (λ its. inr its) w.3)),
    )

pub invariant_of-self-clause-based : goal.invariant_of-self-clause-based
invariant_of-self-clause-based c =
    let k = place_number (settings_of c.args.self.now) c.args.place in
    ap (λ (v : View). v.places) (c.compare_exchange-found.ensures.2.0 k (ap (λ (x : ℕ). x + 5) c.first_word-word.ensures.value)).learns ∙ c.args.self.now.based

pub invariant_of-self-clause-bounded : goal.invariant_of-self-clause-bounded
invariant_of-self-clause-bounded c =
    let k = place_number (settings_of c.args.self.now) c.args.place in
    ap (λ (v : View). v.margin) (c.compare_exchange-found.ensures.2.0 k (ap (λ (x : ℕ). x + 5) c.first_word-word.ensures.value)).learns ∙ c.args.self.now.bounded

pub invariant_of-self-clause-one : goal.invariant_of-self-clause-one
invariant_of-self-clause-one c =
    let k = place_number (settings_of c.args.self.now) c.args.place in
    (c.compare_exchange-found.ensures.2.0 k (ap (λ (x : ℕ). x + 5) c.first_word-word.ensures.value)).one

pub returns-then-found-pending-clause-stays : goal.returns-then-found-pending-clause-stays
returns-then-found-pending-clause-stays c =
    let k = place_number (settings_of c.args.self.now) c.args.place in
    record { settings = refl; table = c.compare_exchange-found.ensures.0; roles = ap (λ (v : View). v.roles) (c.compare_exchange-found.ensures.2.0 k (ap (λ (x : ℕ). x + 5) c.first_word-word.ensures.value)).learns }

pub returns-then-found-pending-clause-shows : goal.returns-then-found-pending-clause-shows
returns-then-found-pending-clause-shows c =
    let k = place_number (settings_of c.args.self.now) c.args.place in
    let s = c.compare_exchange-found.ensures.2.0 k (ap (λ (x : ℕ). x + 5) c.first_word-word.ensures.value) in
    hit _ _ _ _ _ _ _ c.if-found-pending.true c.decided_word-decided.ensures.value s

pub returns-else-found-pending-clause-stays : goal.returns-else-found-pending-clause-stays
returns-else-found-pending-clause-stays c =
    let k = place_number (settings_of c.args.self.now) c.args.place in
    record { settings = refl; table = c.compare_exchange-found.ensures.0; roles = ap (λ (v : View). v.roles) (c.compare_exchange-found.ensures.2.0 k (ap (λ (x : ℕ). x + 5) c.first_word-word.ensures.value)).learns }

pub returns-else-found-pending-clause-shows : goal.returns-else-found-pending-clause-shows
returns-else-found-pending-clause-shows c =
    let k = place_number (settings_of c.args.self.now) c.args.place in
    let s = c.compare_exchange-found.ensures.2.0 k (ap (λ (x : ℕ). x + 5) c.first_word-word.ensures.value) in
    missed _ _ _ _ _ _ _ c.if-found-pending.false s
