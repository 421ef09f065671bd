-- The laws of a place's words: different values have different words, and among all words of a
-- place at most one outcome is decided, in time, and no visible state goes back. Promises of this
-- hub.
use Rattle.std.specs.Prelude.{◌≡◌, ◌≢◌, ◌↔◌, ℕ, ◌+◌, ◌<◌, ◌≤◌, List, [], ◌∷◌, Some, slice_get}
use Rattle.inst_command.specs.declared.outcome.Outcome.{Outcome}
use Rattle.inst_command.specs.declared.outcome.Outcome.TheVariants.{Accepted, Rejected, TimedOut}
use Rattle.inst_command.specs.declared.outcome.State.{State}
use Rattle.inst_command.specs.declared.outcome.State.TheVariants.{Unused as SeenUnused}
use Rattle.inst_command.specs.declared.outcome.State.TheVariants.{Pending as SeenPending, Decided}
use Rattle.inst_terms.specs.declared.terms.Terms.{Terms}
use Rattle.inst_terms.specs.declared.word.Word.{Word}
use Rattle.inst_terms.specs.declared.word.Word.TheVariants.{Unused, Pending, Decided as DecidedWord}
use Rattle.inst_terms.specs.Terms.{IsTerms, words_of}
use Rattle.inst_terms.specs.Word.{IsWord, word_number}
use Rattle.inst_terms.specs.WordLaw.{InTime, AreLawful, word_state, IsAtLeast}

-- Terms with the same words are the same.
abbrev pub DifferentTermsHaveDifferentWords : Type 0
DifferentTermsHaveDifferentWords =
    (a b : Terms) → IsTerms a → IsTerms b → words_of a ≡ words_of b → a ≡ b

-- Outcome words with the same number are the same.
abbrev pub DifferentWordsHaveDifferentNumbers : Type 0
DifferentWordsHaveDifferentNumbers =
    (v w : Word) → IsWord v → IsWord w → word_number v ≡ word_number w → v ≡ w

-- A place has at most one decided word.
abbrev pub OneDecidedWord : Type 0
OneDecidedWord =
    (margin : ℕ) (words : List Word) → AreLawful margin words →
    (i j : ℕ) (o p : Outcome) (t u : ℕ) →
    slice_get words i ≡ Some (DecidedWord o t) → slice_get words j ≡ Some (DecidedWord p u) →
    DecidedWord o t ≡ DecidedWord p u

-- A place has one deadline as long as it is pending.
abbrev pub OneDeadline : Type 0
OneDeadline = (margin : ℕ) (words : List Word) → AreLawful margin words → (i j deadline other : ℕ) →
    slice_get words i ≡ Some (Pending deadline) → slice_get words j ≡ Some (Pending other) →
    deadline ≡ other

-- A later word shows at least the state of an earlier one.
abbrev pub NothingSeenGoesBack : Type 0
NothingSeenGoesBack =
    (margin : ℕ) (words : List Word) → AreLawful margin words → (i j : ℕ) → i ≤ j → (v w : Word) →
    slice_get words i ≡ Some v → slice_get words j ≡ Some w →
    IsAtLeast (word_state w) (word_state v)

-- A decided word follows a pending one, and its outcome is in time for that deadline.
abbrev pub EachDecidedWordIsInTime : Type 0
EachDecidedWordIsInTime =
    (margin : ℕ) (words : List Word) → AreLawful margin words → (i : ℕ) (o : Outcome) (t : ℕ) →
    slice_get words i ≡ Some (DecidedWord o t) →
    (j : ℕ) × (d : ℕ) × (j < i) × (slice_get words j ≡ Some (Pending d)) × (1 ≤ d)
    × InTime margin o d t

-- The conditions of being in time, in numbers.
pub record TellsInTime (margin deadline moment : ℕ) : Type 0 where
  pub accepted : InTime margin Accepted deadline moment ↔ (moment + margin < deadline)
  pub rejected : (reason : List ℕ) → InTime margin (Rejected reason) deadline moment ↔
      (moment < deadline)
  pub timed_out : InTime margin TimedOut deadline moment ↔ (deadline ≤ moment)

abbrev pub WhatIsInTime : Type 0
WhatIsInTime = (margin deadline moment : ℕ) → TellsInTime margin deadline moment

-- A place may have each outcome that is in time, and keep it.
abbrev pub EachOutcomeInTimeMayStand : Type 0
EachOutcomeInTimeMayStand =
    (margin : ℕ) (o : Outcome) (deadline moment : ℕ) → 1 ≤ deadline →
    InTime margin o deadline moment →
    AreLawful margin (Unused ∷ Pending deadline ∷ Pending deadline ∷ DecidedWord o moment
    ∷ DecidedWord o moment ∷ [])

-- The states that may follow a state: any after unused, any but unused after pending, only itself
-- after decided.
pub record GoesOnFrom (later : State) : Type 0 where
  pub nothing : IsAtLeast later SeenUnused
  pub pending : IsAtLeast later SeenPending ↔ (later ≢ SeenUnused)
  pub decided : (o : Outcome) → IsAtLeast later (Decided o) ↔ (later ≡ Decided o)

-- The state that each word shows.
pub record WordsShow : Type 0 where
  pub unused : word_state Unused ≡ SeenUnused
  pub pending : (deadline : ℕ) → word_state (Pending deadline) ≡ SeenPending
  pub decided : (o : Outcome) (moment : ℕ) → word_state (DecidedWord o moment) ≡ Decided o

abbrev pub WhatIsSeen : Type 0
WhatIsSeen = WordsShow × ((later : State) → GoesOnFrom later)
