-- The rule that holds of the words of all places and of what all seats know, between any two steps
-- of any number of threads. An outcome word goes from unused to pending, then once to decided, in
-- time, and stays; the terms words of an opened place stay; what a seat knows is true of the words.
-- How transfers are accepted, rejected and timed out is the rulebook's (EPC004-16, chapter 4:
-- processing flow); the words, roles and seats are a choice of this hub.
use Rattle.std.specs.Prelude.{◌≡◌, ◌⊎◌, ℕ, ◌+◌, ◌*◌, ◌/◌, ◌<◌, ◌≤◌, List, [], ◌∷◌, length}
use Rattle.std.specs.Prelude.{slice_index, Contains, Some}
use mathlib.Core.Option.{some}
use lib.ListN.{get_elem?}
use Rattle.atomic_table.specs.Table.{State}
use Rattle.inst_command.specs.declared.outcome.Outcome.{Outcome}
use Rattle.inst_command.specs.declared.outcome.Outcome.TheVariants.{TimedOut}
use Rattle.inst_settings.specs.Settings.{HubSettings, participants}
use Rattle.inst_terms.specs.declared.terms.Terms.{Terms}
use Rattle.inst_terms.specs.declared.word.Word.TheVariants.{Pending, Decided as DecidedWord}
use Rattle.inst_terms.specs.Terms.{IsTerms, words_of}
use Rattle.inst_terms.specs.Word.{IsWord, word_number}
use Rattle.inst_terms.specs.WordLaw.{InTime}
use Rattle.inst_board.specs.declared.about.About.{About}
use Rattle.inst_board.specs.declared.about.About.TheVariants.{Opened, HasTerms, Decided, DecidedAt}
use Rattle.inst_board.specs.Standing.{Standing, unused, pending, decided, Says, word_of}
use Rattle.inst_board.specs.Learning.{IsOfOpening, IsAnswer}
use Rattle.inst_cell.specs.declared.view.Known.{Known}
use Rattle.inst_cell.specs.declared.view.View.{View}
use Rattle.inst_cell.specs.View.{known, all_that_is_known, count, note}

-- The outcome word of a place as a number.
abbrev pub encode : Standing → ℕ
encode p = word_number (word_of p)

-- The standings that six words can show, decided in time for this margin.
abbrev pub IsShowable : ℕ → Standing → Type 0
IsShowable margin unused = Unit {0}
IsShowable margin (pending terms deadline) = IsTerms terms × IsWord (Pending deadline)
IsShowable margin (decided terms deadline outcome at) =
    IsTerms terms × (1 ≤ deadline) × InTime margin outcome deadline at
    × IsWord (DecidedWord outcome at)

-- How often all seats together have the role of p.
abbrev pub seats_with_role : ℕ → List View → ℕ
seats_with_role p [] = 0
seats_with_role p (v ∷ vs) = count p v.roles + seats_with_role p vs

-- The number of places.
abbrev pub count_of_places : HubSettings → ℕ
count_of_places s = s.places * participants s

-- Each seat with the role of p learnt the fact by its own step.
abbrev pub AllLearnt : List View → ℕ → Known → Type 0
AllLearnt views p f =
    (id : ℕ) (v : View) → get_elem? views id ≡ some v → 0 < count p v.roles → Contains v.facts f

-- The rule of the table.
-- - world: the standing of each place.
-- - sized, shown, written: the words encode these standings; only `noted` binds the terms words of
-- an unused place.
-- - showable: each standing is one that a place may have.
-- - honest: what a seat knows is true.
-- - whole: a seat with the originator's role knows what is opened, with terms and deadline.
-- - answered: a seat with the beneficiary's role knows, with the terms, what was accepted or
-- rejected.
-- - ended: each seat with the originator's role, or each with the beneficiary's, learnt of a
-- time-out by its own step.
-- - decided: each seat with one of these two roles learnt the clock reading of a decision by its
-- own step.
-- - noted: a seat that noted a terms word has the originator's role, and while the place is unused
-- the word is as noted.
-- - alone: no two seats have one role.
pub record KeepsBoard (s : HubSettings) (words : List ℕ) (views : List View) : Type 0 where
  pub world : ℕ → Standing
  pub sized : length words ≡ count_of_places s * 6
  pub shown : (k : ℕ) → k < count_of_places s → slice_index words (k * 6 + 5) ≡ encode (world k)
  pub written : (k i : ℕ) (t : Terms) → k < count_of_places s → i < 5 →
      Says (world k) (HasTerms t) →
      slice_index words (k * 6 + i) ≡ slice_index (words_of t) i
  pub showable : (k : ℕ) → IsShowable s.margin (world k)
  pub honest : (id : ℕ) (v : View) → get_elem? views id ≡ some v → (f : Known) →
      Contains (all_that_is_known v) f →
      Says (world f.place) f.about
  pub whole : (id : ℕ) (v : View) → get_elem? views id ≡ some v → (k : ℕ) →
      0 < count (k / s.places) v.roles →
      (a : About) → IsOfOpening a → Says (world k) a → Contains v.facts (known k a)
  pub answered : (id : ℕ) (v : View) → get_elem? views id ≡ some v → (k : ℕ) (t : Terms) →
      Says (world k) (HasTerms t) → 0 < count t.to v.roles → (o : Outcome) → IsAnswer o →
      Says (world k) (Decided o) →
      Contains v.facts (known k (HasTerms t)) × Contains v.facts (known k (Decided o))
  pub ended : (k : ℕ) (t : Terms) → Says (world k) (HasTerms t) →
      Says (world k) (Decided TimedOut) →
      AllLearnt views (k / s.places) (known k (Decided TimedOut))
      ⊎ AllLearnt views t.to (known k (Decided TimedOut))
  pub decided : (k : ℕ) (t : Terms) (at : ℕ) → Says (world k) (HasTerms t) →
      Says (world k) (DecidedAt at) →
      AllLearnt views (k / s.places) (known k (DecidedAt at))
      ⊎ AllLearnt views t.to (known k (DecidedAt at))
  pub noted : (id : ℕ) (v : View) → get_elem? views id ≡ some v → (k i n : ℕ) →
      k < count_of_places s →
      i < 5 →
      note v.notes (k * 6 + i) ≡ Some n →
      (0 < count (k / s.places) v.roles)
      × (¬ Says (world k) Opened → slice_index words (k * 6 + i) ≡ n)
  pub alone : (p : ℕ) → seats_with_role p views ≤ 1

-- The rule as a predicate on a state of the table.
abbrev pub IsKeptBoard : HubSettings → State (Unit {0}) View → Type 0
IsKeptBoard s st = KeepsBoard s st.words st.views
