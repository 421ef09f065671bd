use Rattle.std.proofs.Common.{rules, ◌<◌, ℕ, subst, sym}
use Rattle.inst_cell.specs.View.{count}
use Rattle.inst_cell.specs.Held.{settings_of, view_of}
use Rattle.inst_cell.proofs.RuleAllowsEachStep.{allows_notes}
use Rattle.inst_cell.proofs.Numbers.{below, owner_is}
use Rattle.inst_cell.proofs.shared_board.SharedBoard.store_term.Goals as goal

pub store-requires : goal.store-requires
store-requires c =
    let s = settings_of c.args.self.now in
    let own = subst (λ (p : ℕ). 0 < count p (view_of c.args.self.now).roles) (sym (owner_is s c.args.place c.requires.place)) c.requires.own in
    (search rules, search rules, rw (c.deref.ensures, c.first_word.ensures.value) (allows_notes s _ _ _ _ (below s c.args.place c.requires.place) c.args.self.now.based c.args.self.now.bounded c.args.index c.args.value c.requires.index own (λ h. c.requires.unused (c.requires.place, h))))
