use Rattle.inst_model.proofs.LiveTransfersHavePlaces.{the_live_have_their_places}
use Rattle.inst_model.proofs.laws.the_live_have_their_places.Goals as goal

pub returns : goal.returns
returns c = the_live_have_their_places
