use Rattle.std.proofs.Common.{rules, ◌<◌, ◌+◌, ℕ, subst, sym, ap, refl, ◌∙◌}
use Rattle.inst_board.specs.Plain.{place_number}
use Rattle.inst_cell.specs.declared.view.View.{View}
use Rattle.inst_cell.specs.View.{count}
use Rattle.inst_cell.specs.Held.{settings_of, view_of}
use Rattle.inst_cell.proofs.RuleAllowsEachStep.{allows_opens}
use Rattle.inst_cell.proofs.Numbers.{below, owner_is}
use Rattle.inst_cell.proofs.shared_board.SharedBoard.put.Goals as goal

pub store-requires : goal.store-requires
store-requires c =
    let s = settings_of c.args.self.now in
    let own = subst (λ (p : ℕ). 0 < count p (view_of c.args.self.now).roles) (sym (owner_is s c.args.place c.requires.place)) c.requires.own in
    let w = c.requires.written in
    (search rules, search rules, rw (c.deref.ensures, c.first_word-word.ensures.value) (allows_opens s _ _ _ _ (below s c.args.place c.requires.place) c.args.self.now.based c.args.self.now.bounded w.0 c.args.deadline _ c.pending_word-pending.ensures.value w.1.1 (c.requires.deadline, c.pending_word-pending.ensures.moment) w.1.2 own (λ h. c.requires.unused (c.requires.place, h))))

pub invariant_of-self-clause-based : goal.invariant_of-self-clause-based
invariant_of-self-clause-based c =
    let k = place_number (settings_of c.args.self.now) c.args.place in
    let w = c.requires.written in
    let p = c.store.ensures.2.0 k w.0 c.args.deadline (ap (λ (x : ℕ). x + 5) c.first_word-word.ensures.value) w.1.1 w.1.2 c.pending_word-pending.ensures.value in
    ap (λ (v : View). v.places) p.0 ∙ c.args.self.now.based

pub invariant_of-self-clause-bounded : goal.invariant_of-self-clause-bounded
invariant_of-self-clause-bounded c =
    let k = place_number (settings_of c.args.self.now) c.args.place in
    let w = c.requires.written in
    let p = c.store.ensures.2.0 k w.0 c.args.deadline (ap (λ (x : ℕ). x + 5) c.first_word-word.ensures.value) w.1.1 w.1.2 c.pending_word-pending.ensures.value in
    ap (λ (v : View). v.margin) p.0 ∙ c.args.self.now.bounded

pub invariant_of-self-clause-one : goal.invariant_of-self-clause-one
invariant_of-self-clause-one c =
    let k = place_number (settings_of c.args.self.now) c.args.place in
    let w = c.requires.written in
    let p = c.store.ensures.2.0 k w.0 c.args.deadline (ap (λ (x : ℕ). x + 5) c.first_word-word.ensures.value) w.1.1 w.1.2 c.pending_word-pending.ensures.value in
    p.1

pub returns-clause-stays : goal.returns-clause-stays
returns-clause-stays c =
    let k = place_number (settings_of c.args.self.now) c.args.place in
    let w = c.requires.written in
    let p = c.store.ensures.2.0 k w.0 c.args.deadline (ap (λ (x : ℕ). x + 5) c.first_word-word.ensures.value) w.1.1 w.1.2 c.pending_word-pending.ensures.value in
    record { settings = refl; table = c.store.ensures.0; roles = ap (λ (v : View). v.roles) p.0 }

pub returns-clause-learns : goal.returns-clause-learns
returns-clause-learns c = λ t w.
    let k = place_number (settings_of c.args.self.now) c.args.place in
    (c.store.ensures.2.0 k t c.args.deadline (ap (λ (x : ℕ). x + 5) c.first_word-word.ensures.value) w.1 w.2 c.pending_word-pending.ensures.value).0

pub returns-clause-new : goal.returns-clause-new
returns-clause-new c = λ a h.
    let k = place_number (settings_of c.args.self.now) c.args.place in
    let w = c.requires.written in
    (c.store.ensures.2.0 k w.0 c.args.deadline (ap (λ (x : ℕ). x + 5) c.first_word-word.ensures.value) w.1.1 w.1.2 c.pending_word-pending.ensures.value).2 a h.1
