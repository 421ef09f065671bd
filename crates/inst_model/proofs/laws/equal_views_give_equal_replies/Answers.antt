use Rattle.inst_model.proofs.RepliesFromViewAlone.{isolated}
use Rattle.inst_model.proofs.laws.equal_views_give_equal_replies.Goals as goal

pub returns : goal.returns
returns c = isolated
