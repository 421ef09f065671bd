use Rattle.inst_model.proofs.ConservationOfMoney.{money_is_conserved}
use Rattle.inst_model.proofs.laws.money_is_conserved.Goals as goal

pub returns : goal.returns
returns c = money_is_conserved
