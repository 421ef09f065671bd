use Rattle.inst_board.proofs.PlainSteps.{shows_its_words}
use Rattle.inst_board.proofs.laws.a_place_shows_its_words.Goals as goal

pub returns : goal.returns
returns c = shows_its_words
