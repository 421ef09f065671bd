use Rattle.std.proofs.Common.{rules, ap, ◌∙◌, sym, subst, ◌+◌, ◌∷◌, [], ◌++◌, List, length-append, append_assoc, arith}
use Rattle.std.proofs.lemmas.Grind.{common_steps}
use Rattle.std.specs.Prelude.{Option}
use Rattle.std.specs.Vec.Iter.{into_iter_items}
use Rattle.inst_participant.specs.declared.participant.Participant.{Participant}
use Rattle.inst_hub.specs.inner.Opening.{unboxed, AreParticipants}
use Rattle.inst_hub.proofs.BoardsAndTellersOfNewHub.{next_board, byte_of, next_left, one_more, unboxed_push}
use Rattle.inst_hub.proofs.hub.opening.participants.Goals as goal

pub overflow_cast-who : goal.overflow_cast-who
overflow_cast-who c =
    let i = c.loop-board.invariant in
    let left = next_left c.args.settings.now c.requires.0 c.args.boards.items c.requires.1 c.loop-board.yielded (into_iter_items c.loop-board.board-iterator) (into_iter_items c.next.new.self) c.in-Some.board i.3 c.in-Some.ensures.steps.0 in
    let b = byte_of c.args.settings.now c.requires.0 c.args.boards.items c.requires.1 c.loop-board.yielded (into_iter_items c.next.new.self) c.in-Some.board c.loop-board.who i.2 left in search rules

pub participant-requires : goal.participant-requires
participant-requires c =
    let i = c.loop-board.invariant in
    let left = next_left c.args.settings.now c.requires.0 c.args.boards.items c.requires.1 c.loop-board.yielded (into_iter_items c.loop-board.board-iterator) (into_iter_items c.next.new.self) c.in-Some.board i.3 c.in-Some.ensures.steps.0 in
    (c.requires.0, next_board c.args.settings.now c.requires.0 c.args.boards.items c.requires.1 c.loop-board.yielded (into_iter_items c.next.new.self) c.in-Some.board c.loop-board.who i.2 left)

pub loop-board-preserved : goal.loop-board-preserved
loop-board-preserved c =
    let i = c.loop-board.invariant in
    let left = next_left c.args.settings.now c.requires.0 c.args.boards.items c.requires.1 c.loop-board.yielded (into_iter_items c.loop-board.board-iterator) (into_iter_items c.next.new.self) c.in-Some.board i.3 c.in-Some.ensures.steps.0 in (
      tt,
      tt,
      ap (λ n. n + 1) i.2 ∙ sym (length-append c.loop-board.yielded (c.in-Some.board ∷ [])),
      append_assoc c.loop-board.yielded (c.in-Some.board ∷ []) (into_iter_items c.next.new.self) ∙ left,
      subst (λ (l : List (Option Participant)). AreParticipants (c.loop-board.yielded ++ c.in-Some.board ∷ []) l) (sym (ap unboxed c.in_ok-push.ensures.items ∙ unboxed_push c.loop-board.all.items c.in_ok-participant.field-0))
          (one_more c.loop-board.yielded (unboxed c.loop-board.all.items) c.in-Some.board c.loop-board.who c.in_ok-participant.field-0.value i.4 i.2 c.in_ok-participant.ensures.ok c.in_ok-participant.ensures.new),
    )

pub returns : goal.returns
returns c = grind (arith, common_steps)
