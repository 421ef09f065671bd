use Rattle.inst_slot.proofs.ForwardedTransfersHavePlaces.{begins}
use Rattle.inst_slot.proofs.laws.new_books_are_lawful.Goals as goal

pub returns : goal.returns
returns g c = begins g.B.Board.settings g.B.Board.knows g.B.Board.has_role
