-- The changes of a place's outcome word: once from unused to pending, then once to a decided word,
-- which stays. A transfer is accepted or rejected before its deadline and timed out from it on, as
-- in the rulebook (EPC004-16, chapter 4: time cycle); the margin for acceptances, and that one word
-- decides, are choices of this hub.
use Rattle.std.specs.Prelude.{◌≡◌, ◌⊎◌, ℕ, ◌≤◌, List, [], ◌∷◌, IsTrue}
use Rattle.inst_base.specs.TimeLimit.{is_in_time, is_in_time_to_accept, is_due}
use Rattle.inst_command.specs.declared.outcome.Outcome.{Outcome}
use Rattle.inst_command.specs.declared.outcome.Outcome.TheVariants.{Accepted, Rejected, TimedOut}
use Rattle.inst_command.specs.declared.outcome.State.{State}
use Rattle.inst_command.specs.declared.outcome.State.TheVariants.{Unused as SeenUnused}
use Rattle.inst_command.specs.declared.outcome.State.TheVariants.{Pending as SeenPending, Decided}
use Rattle.inst_terms.specs.declared.word.Word.{Word}
use Rattle.inst_terms.specs.declared.word.Word.TheVariants.{Unused, Pending, Decided as DecidedWord}

-- The outcome of a transfer with this deadline, decided at this moment, is in time with this
-- margin.
abbrev pub InTime : ℕ → Outcome → ℕ → ℕ → Type 0
InTime margin Accepted deadline moment = IsTrue (is_in_time_to_accept margin deadline moment)
InTime margin (Rejected reason) deadline moment = IsTrue (is_in_time deadline moment)
InTime margin TimedOut deadline moment = IsTrue (is_due deadline moment)

-- One compare-and-exchange may change the first word to the second.
abbrev pub MovesWord : ℕ → Word → Word → Type 0
MovesWord margin Unused Unused = ⊥
MovesWord margin Unused (Pending deadline) = 1 ≤ deadline
MovesWord margin Unused (DecidedWord outcome moment) = ⊥
MovesWord margin (Pending deadline) Unused = ⊥
MovesWord margin (Pending deadline) (Pending other) = ⊥
MovesWord margin (Pending deadline) (DecidedWord outcome moment) =
    InTime margin outcome deadline moment
MovesWord margin (DecidedWord outcome moment) word = ⊥

-- The words of a place, one after another, after the word `before`: each is equal to the one before
-- it, or one move from it.
abbrev pub Follow : ℕ → Word → List Word → Type 0
Follow margin before [] = Unit {0}
Follow margin before (word ∷ words) =
    ((word ≡ before) ⊎ MovesWord margin before word) × Follow margin word words

-- The words of a place since the hub was opened.
abbrev pub AreLawful : ℕ → List Word → Type 0
AreLawful margin words = Follow margin Unused words

-- The state that a word shows.
abbrev pub word_state : Word → State
word_state Unused = SeenUnused
word_state (Pending deadline) = SeenPending
word_state (DecidedWord outcome moment) = Decided outcome

-- The later state is at least the earlier one.
abbrev pub IsAtLeast : State → State → Type 0
IsAtLeast later SeenUnused = Unit {0}
IsAtLeast SeenUnused SeenPending = ⊥
IsAtLeast SeenPending SeenPending = Unit {0}
IsAtLeast (Decided outcome) SeenPending = Unit {0}
IsAtLeast later (Decided outcome) = later ≡ Decided outcome
