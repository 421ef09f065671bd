use Rattle.std.proofs.Common.{refl, ◌+◌, List, sym, subst, arith}
use Rattle.inst_cell.specs.declared.shared_board.SharedBoard.{SharedBoard}
use Rattle.inst_cell.proofs.BoardsAtOpening.{Dealt, dealt_more}
use Rattle.inst_cell.proofs.RuleAllowsEachStep.{hands_over}
use Rattle.inst_cell.proofs.shared_board.SharedBoard.deal.Goals as goal

pub beside-requires : goal.beside-requires
beside-requires c = record {
  splits = λ hub id view. hands_over hub id view;
  places = λ view. (refl, refl);
  margin = λ view. (refl, refl);
  one = λ view one. (one, one);
}

pub loop-next-preserved : goal.loop-next-preserved
loop-next-preserved c =
    let n = c.in_ok-board.ensures.new in
    let o = c.in_ok-board.ensures.old in
    let all = c.args.self in
    let more = dealt_more all all.participants c.loop-next._next c.loop-next.all c.beside.new.self c.in_ok-board.board c.loop-next.boards.items c.loop-next.invariant (omega arith) n.0 n.1 o.0 o.1 in
    subst (λ (l : List SharedBoard). Dealt all all.participants (c.loop-next._next + 1) c.beside.new.self l) (sym c.in_ok-push.ensures.items) more
