use Rattle.std.proofs.Common.{refl, ◌≡◌, ◌+◌, List, ap, sym, subst, ◌∙◌}
use Rattle.inst_cell.specs.declared.sight.Sight.{Sight}
use Rattle.inst_cell.specs.declared.shared_board.SharedBoard.{SharedBoard}
use Rattle.inst_cell.specs.View.{informed_view}
use Rattle.inst_cell.specs.Held.{view_of, AtOneTable}
use Rattle.inst_cell.proofs.BoardsAtOpening.{Seated, seated_more}
use Rattle.inst_cell.proofs.RuleAllowsEachStep.{tells}
use Rattle.inst_cell.proofs.shared_board.SharedBoard.admit.Goals as goal

pub beside-requires : goal.beside-requires
beside-requires c = record {
  splits = λ hub id view. tells hub id view;
  places = λ view. (refl, refl);
  margin = λ view. (refl, refl);
  one = λ view one. (one, one);
}

pub loop-next-preserved : goal.loop-next-preserved
loop-next-preserved c =
    let all = c.loop-next.self in
    let n = c.in_ok-board.ensures.new in
    let o = c.in_ok-board.ensures.old in
    let t1 : AtOneTable all c.of.result.board = subst (λ (b : SharedBoard). AtOneTable all b) (sym c.of.ensures) n.0 in
    let v1 : view_of c.of.result.board ≡ informed_view (view_of all) = ap view_of c.of.ensures ∙ n.1 in
    let more = seated_more c.args.self.now c.loop-next._next all c.beside.new.self c.of.result c.loop-next.all.items c.requires c.loop-next.invariant t1 v1 o.0 o.1 in
    subst (λ (l : List Sight). Seated c.args.self.now (c.loop-next._next + 1) c.beside.new.self l) (sym c.in_ok-push.ensures.items) more
