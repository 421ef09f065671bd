-- Repeats of kept commands, and keys that are kept with other contents. The key of a transfer is
-- its originator and identifier; the key of a funding is its reference, in a separate key space. A
-- choice of this hub.
use Rattle.std.specs.Prelude.{ℕ, Bool, true, false, ◌&&◌, ◌==◌, List, count_by}
use Rattle.std.specs.List.{list_any}
use Rattle.inst_settings.specs.Settings.{same_text}
use Rattle.inst_command.specs.declared.funding.Funding.{Funding}
use Rattle.inst_command.specs.declared.submission.Submission.{Submission}
use Rattle.inst_journal.specs.declared.event.Event.{Event}
use Rattle.inst_journal.specs.Opened.{current}
use Rattle.inst_journal.specs.declared.event.Event.TheVariants.{Funded, Defunded, Taken}

-- True if the event is exactly this funding.
abbrev pub is_this_fund : Funding → Event → Bool
is_this_fund funding (Funded other) =
    same_text other.reference funding.reference && (other.cents == funding.cents)
is_this_fund funding _ = false

-- True if the event is exactly this defunding.
abbrev pub is_this_defund : Funding → Event → Bool
is_this_defund funding (Defunded other) =
    same_text other.reference funding.reference && (other.cents == funding.cents)
is_this_defund funding _ = false

-- True if the event is exactly this submission.
abbrev pub is_this_submission : Submission → Event → Bool
is_this_submission x (Taken id to cents stamp) =
    same_text id x.id && (to == x.to) && (cents == x.cents) && (stamp == x.stamp)
is_this_submission x _ = false

-- True if the event is a fund or defund command with this reference.
abbrev pub refers : List ℕ → Event → Bool
refers reference (Funded funding) = same_text funding.reference reference
refers reference (Defunded funding) = same_text funding.reference reference
refers reference _ = false

-- True if the event is a fund or defund command.
abbrev pub is_funding : Event → Bool
is_funding (Funded funding) = true
is_funding (Defunded funding) = true
is_funding _ = false

-- True if the command is a repeat: its event is in the history.
abbrev pub is_fund_repeat : Funding → List Event → Bool
is_fund_repeat funding J = list_any (is_this_fund funding) J

-- The same for a defund command.
abbrev pub is_defund_repeat : Funding → List Event → Bool
is_defund_repeat funding J = list_any (is_this_defund funding) J

-- The same for a submission.
abbrev pub is_submission_repeat : Submission → List Event → Bool
is_submission_repeat x J = list_any (is_this_submission x) J

-- True if a fund or defund command of the history has this reference.
abbrev pub has_reference : List ℕ → List Event → Bool
has_reference reference J = list_any (refers reference) J

-- The number of fund and defund commands since the last Opened.
abbrev pub fundings : List Event → ℕ
fundings J = count_by is_funding (current J)
