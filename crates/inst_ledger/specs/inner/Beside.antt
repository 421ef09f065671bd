-- Fundings by kind, and the statement lines of booked transfers.
use Rattle.std.specs.Prelude.{◌≡◌, ℕ, ◌+◌, Option, Some, None, Bool, true, false, not, ◌&&◌, ◌==◌}
use Rattle.std.specs.Prelude.{List, Result}
use Rattle.inst_base.specs.declared.fault.Fault.{Fault}
use Rattle.inst_settings.specs.Settings.{HubSettings}
use Rattle.inst_command.specs.declared.funding.Funding.{Funding}
use Rattle.inst_command.specs.declared.outcome.Outcome.{Outcome}
use Rattle.inst_journal.specs.declared.event.Event.{Event}
use Rattle.inst_journal.specs.declared.event.Event.TheVariants.{Funded, Defunded}
use Rattle.inst_journal.specs.declared.handle.Handled.{Handled}
use Rattle.inst_journal.specs.Keys.{is_fund_repeat, is_defund_repeat}
use Rattle.inst_journal.specs.Reply.{fund, defund}
use Rattle.inst_ledger.specs.declared.references.KeptFunding.{KeptFunding}
use Rattle.inst_ledger.specs.declared.totals.Totals.{Totals}
use Rattle.inst_transfers.specs.declared.transfer.Side.{Side}
use Rattle.inst_transfers.specs.declared.transfer.Side.TheVariants.{Own, Other}
use Rattle.inst_transfers.specs.declared.transfer.Transfer.{Transfer}
use Rattle.inst_command.specs.declared.line.LineKind.TheVariants.{Received, Paid}
use Rattle.inst_command.specs.declared.line.LineKind.TheVariants.{Funded as FundedKind}
use Rattle.inst_command.specs.declared.line.LineKind.TheVariants.{Defunded as DefundedKind}
use Rattle.inst_command.specs.declared.outcome.Outcome.TheVariants.{Accepted, Rejected, TimedOut}
use Rattle.inst_statement.specs.declared.movement.Movement.{Movement}
use Rattle.inst_statement.specs.KeptStatement.{Stated, MayAdd, AddsLine}

-- The event of a fund or defund command.
abbrev pub funding_event : Bool → Funding → Event
funding_event false funding = Funded funding
funding_event true funding = Defunded funding

-- The movement of a fund or defund command.
abbrev pub funding_movement : Bool → ℕ → Movement
funding_movement false cents = record { kind = FundedKind; other = None; cents = cents }
funding_movement true cents = record { kind = DefundedKind; other = None; cents = cents }

-- The totals with this amount funded or defunded.
abbrev pub totals_with : Bool → ℕ → Totals → Totals
totals_with false cents t = record { funded = t.funded + cents; defunded = t.defunded }
totals_with true cents t = record { funded = t.funded; defunded = t.defunded + cents }

-- True if both are defundings, or neither.
abbrev pub same_kind : Bool → Bool → Bool
same_kind true other = other
same_kind false other = not other

-- True if the funding found has this kind and amount.
abbrev pub is_funding_of : Bool → ℕ → Option KeptFunding → Bool
is_funding_of is_defunding cents (Some funding) =
    same_kind funding.is_defunding is_defunding && (funding.cents == cents)
is_funding_of is_defunding cents None = false

-- True if this funding, of this kind and amount, is in the history.
abbrev pub is_funding_repeat : Bool → Funding → List Event → Bool
is_funding_repeat false funding J = is_fund_repeat funding J
is_funding_repeat true funding J = is_defund_repeat funding J

-- The reply to a fund or defund command, and its event.
abbrev pub handle_funding : Bool → HubSettings → List Event → Funding → Result Handled Fault
handle_funding false s J funding = fund s J funding
handle_funding true s J funding = defund s J funding

-- The movement of an accepted transfer: paid to its beneficiary, or received from its originator.
abbrev pub movement_by : ℕ → ℕ → Side → Movement
movement_by from cents (Own to stamp) = record { kind = Paid; other = Some to; cents = cents }
movement_by from cents (Other deadline) =
    record { kind = Received; other = Some from; cents = cents }

-- The movement of a booked transfer, if it was accepted.
abbrev pub movement_booked : ℕ → Transfer → Outcome → Option Movement
movement_booked from transfer Accepted = Some (movement_by from transfer.cents transfer.side)
movement_booked from transfer (Rejected reason) = None
movement_booked from transfer TimedOut = None

-- The line of a movement, if there is one, may be added to the statement.
abbrev pub MayAddIf : Stated → Option Movement → Type 0
MayAddIf stated None = Unit {0}
MayAddIf stated (Some movement) = MayAdd stated movement

-- The line of a movement, if there is one, was added by the event of this index.
abbrev pub AddsIf : Stated → ℕ → Option Movement → Stated → Type 0
AddsIf before event None after = (after.lines ≡ before.lines) × (after.begun ≡ before.begun)
AddsIf before event (Some movement) after = AddsLine before event movement after
