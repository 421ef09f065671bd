use Rattle.std.proofs.Common.{◌≡◌, ℕ, ◌<◌, length, Some, sym, ap, subst, ◌∙◌, arith}
use Rattle.std.proofs.lemmas.Option.{slice_get-get_or}
use Rattle.std.proofs.lemmas.List.FromFn.{length-enumerate_from, get_or-enumerate_from}
use Rattle.std.proofs.lemmas.Iterator.Adapters.{YieldsList-from_vec}
use Rattle.std.proofs.lemmas.Iterator.Consumers.{YieldsList-from_enumerate, YieldsList-turn}
use Rattle.inst_cell.specs.declared.shared_board.SharedBoard.{SharedBoard}
use Rattle.inst_cell.specs.Opening.{IsOpened}
use Rattle.inst_loads.proofs.race.opening.seated.Goals as goal

pub open-requires : goal.open-requires
open-requires c =
    let all = c.args.boards.items in
    let n = length c.loop-who.yielded in
    let board = c.in-Some.board in
    let into = c.into_iter-who-iterator.ensures.into_iter_gives in
    let from = ap (λ e. e.iter) into ∙ c.enumerate-who-items.ensures.source in
    let boards = YieldsList-from_vec {s = c.into_iter-who-iterator.result.iter} all
    (ap (λ b. b.rest.items) from ∙ c.into_iter.ensures.rest)
    (ap (λ b. b.rest.len) from ∙ c.into_iter.ensures.len ∙ c.args.boards.ok.0) in
    let numbered = YieldsList-from_enumerate {s = c.into_iter-who-iterator.result} boards (ap (λ e. e.count) into ∙ c.enumerate-who-items.ensures.count) in
    let next = YieldsList-turn numbered c.loop-who.yielded c.loop-who.who-iterator c.loop-who.yielded_by c.next.result c.next.new.self (c.in-Some.who, board) c.in-Some.is c.next.ensures.steps in
    let below : n < length all = omega (arith, next.0, length-enumerate_from 0 all) in
    let is = next.1 ∙ get_or-enumerate_from 0 all n (c.in-Some.who, board) below in
    let number : n ≡ c.in-Some.who = omega (arith, ap (λ p. p.0) is) in
    let opened = c.requires.opened.1 in
    let there = slice_get-get_or all n board below ∙ ap (λ (b : SharedBoard). Some b) (sym (ap (λ p. p.1) is)) in
    (opened.table, subst (λ (who : ℕ). IsOpened c.args.settings.now opened.table who board) number (opened.board n board there))
