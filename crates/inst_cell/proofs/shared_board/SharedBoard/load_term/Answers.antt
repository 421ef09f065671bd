use Rattle.std.proofs.Common.{rules, ◌+◌, ℕ, ap}
use Rattle.inst_board.specs.Plain.{place_number}
use Rattle.inst_cell.specs.Held.{settings_of}
use Rattle.inst_cell.proofs.RuleAllowsEachStep.{allows_loads_term}
use Rattle.inst_cell.proofs.Numbers.{below}
use Rattle.inst_cell.proofs.shared_board.SharedBoard.load_term.Goals as goal

pub load-requires : goal.load-requires
load-requires c =
    let b = c.args.self.now in
    let s = settings_of b in
    (search rules, search rules, rw (c.deref.ensures, c.first_word.ensures.value) (allows_loads_term s _ _ _ _ (below s c.args.place c.requires.opened.0) b.based b.bounded c.args.index c.requires.index))

pub returns-clause-term : goal.returns-clause-term
returns-clause-term c = λ t h.
    let k = place_number (settings_of c.args.self.now) c.args.place in
    c.load.ensures.2.0 k c.args.index t (ap (λ (x : ℕ). x + c.args.index) c.first_word.ensures.value) c.requires.index h.1
