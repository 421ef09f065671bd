use Rattle.inst_cell.specs.Held.{settings_of}
use Rattle.inst_cell.proofs.Numbers.{room}
use Rattle.inst_cell.proofs.shared_board.SharedBoard.first_word.Goals as goal

pub returns-clause-within : goal.returns-clause-within
returns-clause-within c =
    let b = c.args.self.now in
    rw (c.from.ensures, c.from-2.ensures, c.from-3.ensures) (room (settings_of b) c.args.place b.participants b.places c.requires b.participants_is b.places_is)
