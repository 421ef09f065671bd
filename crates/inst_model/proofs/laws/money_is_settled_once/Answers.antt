use Rattle.inst_model.proofs.MoneySettledAtMostOnce.{money_is_settled_once}
use Rattle.inst_model.proofs.laws.money_is_settled_once.Goals as goal

pub returns : goal.returns
returns c = money_is_settled_once
