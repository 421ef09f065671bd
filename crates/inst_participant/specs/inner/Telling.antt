-- What a teller learns of a transfer with a ticket.
use Rattle.std.specs.Prelude.{◌≡◌, ℕ, List, Option, Some, None}
use Rattle.inst_board.specs.declared.about.Fact.{Fact}
use Rattle.inst_command.specs.declared.place.Place.{Place}
use Rattle.inst_cell.specs.declared.sight.Sight.{Sight}
use Rattle.inst_cell.specs.Held.{knows}
use Rattle.inst_cell.specs.Seen.{sight_knows}
use Rattle.inst_command.specs.declared.reply.Reply.{Reply}
use Rattle.inst_model.specs.TransferTold.{TransferTold, transfer_told, tells_taken, tells_state}
use Rattle.inst_model.specs.TransferTold.{tells_nothing}
use Rattle.inst_slot.specs.Book.{place_of}
use Rattle.inst_participant.specs.declared.participant.Participant.{Participant}

-- The ticket is the place of this transfer, if it has one, and the teller then knows all that the
-- board knows.
abbrev pub IsToldOf : Participant → ℕ → List ℕ → Sight → Option Place → Type 0
IsToldOf x from id u ticket = (ticket ≡ place_of x.slot from id)
    × ((k : Place) → ticket ≡ Some k → (f : Fact) → knows x.board f → sight_knows u f)

-- The same for the transfer that a reply to participant `who` concerns, if any.
abbrev pub IsToldFor : Participant → ℕ → TransferTold → Sight → Option Place → Type 0
IsToldFor x who (tells_taken id deadline) u ticket = IsToldOf x who id u ticket
IsToldFor x who (tells_state from id state) u ticket = IsToldOf x from id u ticket
IsToldFor x who tells_nothing u ticket = ticket ≡ None

-- The same for the reply itself.
abbrev pub IsToldBy : Participant → ℕ → Reply → Sight → Option Place → Type 0
IsToldBy x who reply u ticket = IsToldFor x who (transfer_told reply) u ticket
