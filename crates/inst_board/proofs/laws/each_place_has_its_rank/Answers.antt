use Rattle.inst_board.proofs.Places.{rank_below, same_of_rank}
use Rattle.inst_board.proofs.laws.each_place_has_its_rank.Goals as goal

pub returns : goal.returns
returns c = λ s j k hj hk. (rank_below s j hj, same_of_rank s j k hj hk)
