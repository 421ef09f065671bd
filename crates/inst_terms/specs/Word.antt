-- The outcome word of a place: 0 while the place is unused, else a moment in milliseconds since the
-- base, a reason and a kind. Pending, accepted and rejected are the scheme's states of a transfer
-- (EPC004-16, chapter 4: processing flow); that these and the time-out share one number is a choice
-- of this hub.
use Rattle.std.specs.Prelude.{ℕ, ◌+◌, ◌*◌, ◌^◌, ◌≤◌, IsTrue}
use Rattle.inst_base.specs.Moment.{is_moment}
use Rattle.inst_base.specs.Text.{is_reason}
use Rattle.inst_command.specs.declared.outcome.Outcome.{Outcome}
use Rattle.inst_command.specs.declared.outcome.Outcome.TheVariants.{Accepted, Rejected, TimedOut}
use Rattle.inst_terms.specs.declared.word.Word.{Word}
use Rattle.inst_terms.specs.declared.word.Word.TheVariants.{Unused, Pending, Decided}
use Rattle.inst_terms.specs.Reason.{reason_number}

-- One more than the largest number of a reason.
abbrev pub reason_room : ℕ
reason_room = 2 ^ 21

-- The number of kinds of word.
abbrev pub kinds : ℕ
kinds = 4

-- A moment, a reason and a kind in one number.
abbrev pub number : ℕ → ℕ → ℕ → ℕ
number moment reason kind = (moment * reason_room + reason) * kinds + kind

-- The number of an outcome that was decided at this moment.
abbrev pub outcome_number : Outcome → ℕ → ℕ
outcome_number Accepted moment = number moment 0 1
outcome_number (Rejected reason) moment = number moment (reason_number reason) 2
outcome_number TimedOut moment = number moment 0 3

-- The number of an outcome word.
abbrev pub word_number : Word → ℕ
word_number Unused = 0
word_number (Pending deadline) = number deadline 0 0
word_number (Decided outcome moment) = outcome_number outcome moment

-- The outcome's reason, if it has one, is well formed.
abbrev pub IsOutcome : Outcome → Type 0
IsOutcome Accepted = Unit {0}
IsOutcome (Rejected reason) = IsTrue (is_reason reason)
IsOutcome TimedOut = Unit {0}

-- The moments of a word are in range, and its reason, if it has one, is well formed.
abbrev pub HasWordForm : Word → Type 0
HasWordForm Unused = Unit {0}
HasWordForm (Pending deadline) = IsTrue (is_moment deadline)
HasWordForm (Decided outcome moment) = IsOutcome outcome × IsTrue (is_moment moment)

-- A word that a place can have: the same, and a pending deadline is at least 1.
abbrev pub IsWord : Word → Type 0
IsWord Unused = Unit {0}
IsWord (Pending deadline) = (1 ≤ deadline) × IsTrue (is_moment deadline)
IsWord (Decided outcome moment) = IsOutcome outcome × IsTrue (is_moment moment)
