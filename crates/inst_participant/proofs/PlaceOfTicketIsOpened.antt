-- A ticket names a place that its holder knows opened.
use Rattle.std.proofs.Common.{ℕ, List, Some}
use Rattle.inst_settings.specs.Settings.{HubSettings}
use Rattle.inst_command.specs.declared.command.Command.{Command}
use Rattle.inst_command.specs.declared.command.Command.TheVariants.{Fund, Defund, Submit, Confirm, Reject, Investigate, Fetch, Query}
use Rattle.inst_command.specs.declared.place.Place.{Place}
use Rattle.inst_command.specs.declared.reply.Reply.{Reply}
use Rattle.inst_board.specs.declared.about.About.TheVariants.{Opened}
use Rattle.inst_board.specs.declared.about.Fact.{Fact}
use Rattle.inst_board.specs.Standing.{about}
use Rattle.inst_journal.specs.declared.event.Event.{Event}
use Rattle.inst_model.specs.TransferTold.{TransferTold, transfer_told, tells_taken, tells_state, tells_nothing}
use Rattle.inst_participant.specs.Answers.{IsTicket, IsTicketOf, IsSubmitted}

submitted_opened : (sees : Fact → Type 0) (s : HubSettings) (command : Command) (k : Place) → IsSubmitted sees s command k → sees (about k Opened)
submitted_opened sees s (Submit x) k h = h.0
submitted_opened sees s (Fund funding) k h = absurd h
submitted_opened sees s (Defund funding) k h = absurd h
submitted_opened sees s (Confirm p i) k h = absurd h
submitted_opened sees s (Reject p i r) k h = absurd h
submitted_opened sees s (Investigate i) k h = absurd h
submitted_opened sees s (Fetch n) k h = absurd h
submitted_opened sees s (Query query) k h = absurd h

told_opened : (sees : Fact → Type 0) (s : HubSettings) (who : ℕ) (command : Command) (K : List Event) (told : TransferTold) (k : Place) → IsTicketOf sees s who command K told (Some k) → sees (about k Opened)
told_opened sees s who command K (tells_taken id deadline) k h = submitted_opened sees s command k h.2
told_opened sees s who command K (tells_state from id state) k h = h.2.opened
told_opened sees s who command K tells_nothing k h = let never : ⊥ = cc in absurd never

pub ticket_opened : (sees : Fact → Type 0) (s : HubSettings) (who : ℕ) (command : Command) (K : List Event) (reply : Reply) (k : Place) → IsTicket sees s who command K reply (Some k) → sees (about k Opened)
ticket_opened sees s who command K reply k h = told_opened sees s who command K (transfer_told reply) k h
