use Rattle.std.proofs.Common.{rules, ◌∙◌, ◌+◌, ℕ, ap, refl}
use Rattle.inst_board.specs.Plain.{place_number}
use Rattle.inst_cell.specs.declared.view.View.{View}
use Rattle.inst_cell.specs.Held.{settings_of}
use Rattle.inst_cell.proofs.RuleAllowsEachStep.{allows_loads}
use Rattle.inst_cell.proofs.Numbers.{below}
use Rattle.inst_cell.proofs.shared_board.SharedBoard.load.Goals as goal

pub load-requires : goal.load-requires
load-requires c =
    let b = c.args.self.now in
    let s = settings_of b in
    (search rules, search rules, rw (c.deref.ensures, c.first_word-word.ensures.value) (allows_loads s _ _ _ _ (below s c.args.place c.requires) b.based b.bounded))

pub invariant_of-self-clause-based : goal.invariant_of-self-clause-based
invariant_of-self-clause-based c =
    let k = place_number (settings_of c.args.self.now) c.args.place in
    ap (λ (v : View). v.places) (c.load.ensures.2.0 k (ap (λ (x : ℕ). x + 5) c.first_word-word.ensures.value)).learns ∙ c.args.self.now.based

pub invariant_of-self-clause-bounded : goal.invariant_of-self-clause-bounded
invariant_of-self-clause-bounded c =
    let k = place_number (settings_of c.args.self.now) c.args.place in
    ap (λ (v : View). v.margin) (c.load.ensures.2.0 k (ap (λ (x : ℕ). x + 5) c.first_word-word.ensures.value)).learns ∙ c.args.self.now.bounded

pub invariant_of-self-clause-one : goal.invariant_of-self-clause-one
invariant_of-self-clause-one c =
    let k = place_number (settings_of c.args.self.now) c.args.place in
    (c.load.ensures.2.0 k (ap (λ (x : ℕ). x + 5) c.first_word-word.ensures.value)).one

pub returns-clause-stays : goal.returns-clause-stays
returns-clause-stays c =
    let k = place_number (settings_of c.args.self.now) c.args.place in
    record {
      settings = refl;
      table = c.load.ensures.0;
      roles = ap (λ (v : View). v.roles) (c.load.ensures.2.0 k (ap (λ (x : ℕ). x + 5) c.first_word-word.ensures.value)).learns;
    }
