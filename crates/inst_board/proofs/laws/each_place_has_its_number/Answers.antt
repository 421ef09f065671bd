use Rattle.inst_board.proofs.Places.{number_below, same_of_number}
use Rattle.inst_board.proofs.laws.each_place_has_its_number.Goals as goal

pub returns : goal.returns
returns c = λ s j k hj hk. (number_below s j hj, same_of_number s j k hj hk)
