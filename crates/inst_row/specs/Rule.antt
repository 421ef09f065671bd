-- The rule that holds of a row of locks and of all its seats between any two steps. Keeping a
-- participant's books behind a lock is a choice of this hub.
use Rattle.std.specs.Prelude.{◌≡◌, ℕ, zero, suc, ◌<◌, List, [], length, slice_index, Contains}
use Rattle.std.specs.Prelude.{Option, Some}
use mathlib.Core.Option.{some}
use mathlib.Core.List.{IsPrefix}
use lib.ListN.{get_elem?}
use Rattle.atomic_table.specs.Table.{State}
use Rattle.inst_row.specs.declared.view.Front.{Front}
use Rattle.inst_row.specs.declared.view.RowView.{RowView}
use Rattle.inst_row.specs.Place.{place}
use Rattle.inst_row.specs.View.{front, seats_with_lock, parts}
use Rattle.inst_row.specs.declared.row.TheConstants.{MOST_SEATS}

-- How many seats have a lock with this word: none at 0, else one.
abbrev pub takers : ℕ → ℕ
takers zero = 0
takers (suc n) = 1

-- A seat with a part has seen this prefix of the history behind lock p.
pub record IsSeen {E K : Type 0} (views : List (RowView E K)) (p : ℕ) (h : List E) : Type 0 where
  pub id : ℕ
  pub view : RowView E K
  pub there : get_elem? views id ≡ some view
  pub part : 0 < view.parts
  pub sees : Contains view.fronts (front p h)

-- The rule of a row. Each lock has a latest history.
-- - sized: there is a slot for each word.
-- - counted: one seat has the lock if its word is not 0, else none.
-- - home: if no seat has the lock, the value is in its slot, keeps its law and has the latest
-- history.
-- - seen: and a seat with a part has seen that history.
-- - known: what a seat has seen is a prefix of the latest history.
-- - mine: a seat that has a lock found its latest history.
-- - dealt: all seats together have all parts.
-- - holder: a seat without parts has no lock.
-- - named: the key that a seat knows is the row's.
pub record Guarded {T E K : Type 0} (law : K → ℕ → T → Type 0) (history : T → List E) (key : K)
    (s : State (Option T) (RowView E K)) : Type 0 where
  pub latest : ℕ → List E
  pub sized : length s.homes ≡ length s.words
  pub counted : (p : ℕ) → seats_with_lock p s.views ≡ takers (slice_index s.words (place p))
  pub home : (p : ℕ) → place p < length s.words → slice_index s.words (place p) ≡ 0 →
      (x : T) × (get_elem? s.homes (place p) ≡ some (some (Some x))) × law key p x
      × (history x ≡ latest p)
  pub seen : (p : ℕ) → place p < length s.words → slice_index s.words (place p) ≡ 0 →
      IsSeen s.views p (latest p)
  pub known : (id : ℕ) (v : RowView E K) → get_elem? s.views id ≡ some v → (f : Front E) →
      Contains v.fronts f →
      IsPrefix f.history (latest f.lock)
  pub mine : (id : ℕ) (v : RowView E K) → get_elem? s.views id ≡ some v → (f : Front E) →
      Contains v.held f →
      f.history ≡ latest f.lock
  pub dealt : parts s.views ≡ MOST_SEATS
  pub holder : (id : ℕ) (v : RowView E K) → get_elem? s.views id ≡ some v → v.parts ≡ 0 →
      v.held ≡ []
  pub named : (id : ℕ) (v : RowView E K) → get_elem? s.views id ≡ some v → (k : K) →
      v.about ≡ Some k →
      k ≡ key
