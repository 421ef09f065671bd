-- Details read off a ledger's tables.
use Rattle.std.specs.Prelude.{ℕ, Bool, false, ◌&&◌, ◌==◌, List, Option, Some, None}
use Rattle.inst_command.specs.declared.outcome.Outcome.{Outcome}
use Rattle.inst_command.specs.declared.submission.Submission.{Submission}
use Rattle.inst_journal.specs.declared.event.Event.{Event}
use Rattle.inst_journal.specs.Booked.{books}
use Rattle.inst_ledger.specs.declared.sending.Forwarding.{Forwarding}
use Rattle.inst_ledger.specs.declared.sending.Sending.{Sending}

-- True if the details found are those of the submission.
abbrev pub is_sending : Submission → Option Sending → Bool
is_sending x (Some sending) =
    (sending.to == x.to) && (sending.cents == x.cents) && (sending.stamp == x.stamp)
is_sending x None = false

-- The amount of an own transfer, or 0.
abbrev pub cents_sent : Option Sending → ℕ
cents_sent (Some sending) = sending.cents
cents_sent None = 0

-- The amount of a forwarded transfer, or 0.
abbrev pub credit_of : Option Forwarding → ℕ
credit_of (Some forwarding) = forwarding.cents
credit_of None = 0

-- The outcome that the event books for the transfer of this key.
abbrev pub outcome_in_event : ℕ × List ℕ → Event → Option Outcome
outcome_in_event key event = books key.0 key.1 event
