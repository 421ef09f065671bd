use Rattle.std.proofs.Common.{◌∙◌, ap, ◌*◌, ℕ, List, get_or}
use Rattle.inst_cell.proofs.RuleAllowsEachStep.{starts}
use Rattle.inst_cell.proofs.BoardsAtOpening.{zeros, sized_as}
use Rattle.inst_cell.proofs.shared_board.SharedBoard.whole.Goals as goal

pub of_words-requires : goal.of_words-requires
of_words-requires c =
    let h = c.in_ok-words.ensures in
    starts c.of-key.result.value c.as_slice.result.now
    (sized_as _ c.from.result c.from-2.result c.of-key.result.value c.args.settings.now (c.as_slice.ensures.len ∙ h.len) (c.from.ensures ∙ c.places-places.ensures.value) (c.from-2.ensures ∙ c.participants-participants.ensures.value) c.of-key.ensures)
    (λ x. ap (λ (l : List ℕ). get_or l x 0) (c.as_slice.ensures.value ∙ h.items_if_clones_equal (λ y e. e)) ∙ zeros (c.from.result * c.from-2.result * 6) x)
