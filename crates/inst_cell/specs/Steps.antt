-- What each kind of step on the shared words shows to the seat that takes it, and what the seat
-- then knows. A compare-exchange that finds another word than the pending one has no effect, and
-- returns what it found. A choice of this hub.
use Rattle.std.specs.Prelude.{◌≡◌, ◌⊎◌, Bool, true, false, ℕ, ◌+◌, ◌*◌, ◌/◌, ◌<◌, ◌==◌, slice_index}
use Rattle.std.specs.Prelude.{Contains}
use prog.Atomic.{either}
use Rattle.atomic_table.specs.Table.{Me, Step}
use Rattle.inst_command.specs.declared.outcome.Outcome.{Outcome}
use Rattle.inst_terms.specs.declared.terms.Terms.{Terms}
use Rattle.inst_terms.specs.declared.word.Word.TheVariants.{Pending}
use Rattle.inst_terms.specs.Terms.{IsTerms, words_of}
use Rattle.inst_terms.specs.Word.{word_number}
use Rattle.inst_board.specs.declared.about.About.{About}
use Rattle.inst_board.specs.declared.about.About.TheVariants.{HasTerms, Decided}
use Rattle.inst_board.specs.Standing.{Standing, pending, Says}
use Rattle.inst_board.specs.Learning.{IsOfOpening, IsAnswer}
use Rattle.inst_cell.specs.declared.view.Known.{Known}
use Rattle.inst_cell.specs.declared.view.View.{View}
use Rattle.inst_cell.specs.View.{known, all_that_is_known, count, view_after_learning, with_note}
use Rattle.inst_cell.specs.View.{HasNoted}
use Rattle.inst_cell.specs.View.{KnowsOne}
use Rattle.inst_cell.specs.Rule.{encode, IsShowable}

-- A seat's view, with what the table adds to it.
abbrev pub SeatedView : Type 0
SeatedView = Me (Unit {0}) View

-- A seat with the originator's role knew the opening.
abbrev pub KnewOpening : ℕ → View → Standing → Type 0
KnewOpening k v p =
    0 < count (k / v.places) v.roles → (a : About) → IsOfOpening a → Says p a →
    Contains v.facts (known k a)

-- A seat with the beneficiary's role knew its answer.
abbrev pub KnewAnswer : ℕ → View → Standing → Type 0
KnewAnswer k v p =
    (t : Terms) → Says p (HasTerms t) → 0 < count t.to v.roles → (o : Outcome) → IsAnswer o →
    Says p (Decided o) →
    Contains v.facts (known k (HasTerms t)) × Contains v.facts (known k (Decided o))

-- A seat with both roles knew the outcome.
abbrev pub KnewEnd : ℕ → View → Standing → Type 0
KnewEnd k v p =
    0 < count (k / v.places) v.roles → (t : Terms) → Says p (HasTerms t) → 0 < count t.to v.roles →
    (o : Outcome) → Says p (Decided o) → Contains v.facts (known k (Decided o))

-- The outcome word n shows the standing of place k to a seat with view v before and w after.
-- - standing, is: the standing that the word encodes.
-- - showable: a place may have it.
-- - agrees: all that the seat knew is true of it.
-- - mine, learns: the seat learns what is true of the standing, and the deciding clock reading if
-- this step decided it.
-- - one: what the seat knows is true of one standing.
-- - before: this step changed the word (`own`), or the seat already knew what only its roles can
-- do.
pub record ShowsWord (own : Type 0) (k : ℕ) (v : View) (n : ℕ) (w : View) : Type 0 where
  pub standing : Standing
  pub is : n ≡ encode standing
  pub showable : IsShowable v.margin standing
  pub agrees : (a : About) → Contains (all_that_is_known v) (known k a) → Says standing a
  pub mine : Bool
  pub learns : w ≡ view_after_learning v k standing mine
  pub one : KnowsOne w
  pub before : (own × (mine ≡ true))
      ⊎ ((mine ≡ false) × KnewOpening k v standing × KnewAnswer k v standing × KnewEnd k v standing)

-- What the seat knows is true of the places. What only its roles can do, it learnt by its own
-- steps.
-- - world, showable: the standings, each of which a place may have.
-- - honest: what is known is true.
-- - own: a seat with the originator's role learnt the opening by its own step.
-- - answered: a seat with the beneficiary's role learnt an acceptance or rejection, with the terms,
-- by its own steps.
pub record Vouched (v : View) : Type 0 where
  pub world : ℕ → Standing
  pub showable : (k : ℕ) → IsShowable v.margin (world k)
  pub honest : (f : Known) → Contains (all_that_is_known v) f → Says (world f.place) f.about
  pub own : (k : ℕ) → 0 < count (k / v.places) v.roles → (a : About) → IsOfOpening a →
      Contains (all_that_is_known v) (known k a) → Contains v.facts (known k a)
  pub answered : (k : ℕ) (t : Terms) (o : Outcome) → 0 < count t.to v.roles → IsAnswer o →
      Contains (all_that_is_known v) (known k (HasTerms t)) →
      Contains (all_that_is_known v) (known k (Decided o)) →
      Contains v.facts (known k (HasTerms t)) × Contains v.facts (known k (Decided o))

-- A load of an outcome word.
abbrev pub loads : Step (Unit {0}) → SeatedView → ℕ → SeatedView → Type 0
loads st m n m' = ((k : ℕ) → st.word ≡ k * 6 + 5 → ShowsWord ⊥ k m.0 n m'.0) × (m'.1 ≡ m.1)

-- A load of a terms word: if the terms of the place are known, the word is theirs.
abbrev pub loads_term : Step (Unit {0}) → SeatedView → ℕ → SeatedView → Type 0
loads_term st m n m' =
    ((k i : ℕ) (t : Terms) → st.word ≡ k * 6 + i → i < 5 →
    Contains (all_that_is_known m.0) (known k (HasTerms t)) →
    IsTerms t × (n ≡ slice_index (words_of t) i)) × (m' ≡ m)

-- A load that teaches nothing new, but shows that what is known is true.
abbrev pub vouches : Step (Unit {0}) → SeatedView → ℕ → SeatedView → Type 0
vouches st m n m' = Vouched m.0 × (m' ≡ m)

-- The store of a terms word.
abbrev pub notes_term : Step (Unit {0}) → SeatedView → ℕ → SeatedView → Type 0
notes_term st m n m' = (m'.0 ≡ with_note m.0 st.word n) × (m'.1 ≡ m.1)

-- The opening of a place whose terms were noted. Nothing was known of the place before; afterwards
-- all that is true of it is known.
abbrev pub opens : Step (Unit {0}) → SeatedView → ℕ → SeatedView → Type 0
opens st m n m' =
    ((k : ℕ) (t : Terms) (d : ℕ) → st.word ≡ k * 6 + 5 → IsTerms t → HasNoted m.0 k t →
    n ≡ word_number (Pending d) →
    (m'.0 ≡ view_after_learning m.0 k (pending t d) false) × KnowsOne m'.0
    × ((a : About) → ¬ Contains (all_that_is_known m.0) (known k a))) × (m'.1 ≡ m.1)

-- The exchange of the pending word for a decided one.
abbrev pub decides_word : Step (Unit {0}) → SeatedView → ℕ → SeatedView → Type 0
decides_word st m n m' = ((k : ℕ) → st.word ≡ k * 6 + 5 →
    ShowsWord (n ≡ st.first) k m.0 (either (n == st.first) st.second n) m'.0) × (m'.1 ≡ m.1)
