use Rattle.inst_model.proofs.HistoriesFitOneAnother.{histories_are_sound, histories_fit}
use Rattle.inst_model.proofs.laws.histories_are_sound_and_fit.Goals as goal

pub returns : goal.returns
returns c = record { sound = histories_are_sound; fit = histories_fit }
