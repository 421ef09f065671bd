-- A seat of a row as its holder knows it: free, or with one lock. No seat waits for a lock while it
-- has one. A choice of this hub.
use Rattle.std.specs.Prelude.{◌≡◌, ◌⊎◌, ◌↔◌, ℕ, ◌+◌, ◌<◌, List, [], ◌∷◌, ◌++◌, Contains, Some, None}
use mathlib.Core.List.{IsPrefix}
use Rattle.atomic_table.specs.Seated.{TableId}
use Rattle.inst_row.specs.declared.view.RowView.{RowView}
use Rattle.inst_row.specs.declared.seat.RowSeat.{RowSeat}
use Rattle.inst_row.specs.Place.{place}
use Rattle.inst_row.specs.View.{front}
use Rattle.inst_row.specs.declared.row.TheConstants.{MOST_SEATS}

module _ {T E K : Type 0} where
  -- What the seat has and has seen.
  abbrev pub view_of : RowSeat T E K → RowView E K
  view_of s = s.seat.me.0

  -- The seat belongs to the row with this identity and key.
  pub record IsOn (id : TableId) (key : K) (s : RowSeat T E K) : Type 0 where
    pub row : s.seat.table_id ≡ id
    pub about : (view_of s).about ≡ Some key

  -- The seat has no lock.
  pub record IsIdle (s : RowSeat T E K) : Type 0 where
    pub hands : s.seat.me.1 ≡ []
    pub no_lock : (view_of s).held ≡ []

  -- The seat has no lock, and may take one.
  pub record IsFree (s : RowSeat T E K) : Type 0 where
    pub idle : IsIdle s
    pub part : 0 < (view_of s).parts

  -- The seat has lock p and no other. It found the history h there.
  pub record Has (p : ℕ) (h : List E) (s : RowSeat T E K) : Type 0 where
    pub hands : s.seat.me.1 ≡ (place p, None) ∷ []
    pub lock : (view_of s).held ≡ front p h ∷ []
    pub part : 0 < (view_of s).parts

  -- The seat has seen this prefix of the history behind lock p.
  abbrev pub HasSeen : ℕ → List E → RowSeat T E K → Type 0
  HasSeen p h s = Contains (view_of s).fronts (front p h)

  -- The history extends all that the seat has seen of lock p.
  abbrev pub GoesOn : ℕ → List E → RowSeat T E K → Type 0
  GoesOn p h s = (seen : List E) → HasSeen p seen s → IsPrefix seen h

  -- The seat keeps its parts, and has now seen h behind lock p too.
  pub record Sees (p : ℕ) (h : List E) (old new : RowSeat T E K) : Type 0 where
    pub parts : (view_of new).parts ≡ (view_of old).parts
    pub seen : (view_of new).fronts ≡ (view_of old).fronts ++ front p h ∷ []

  -- What a seat finds behind lock p: a value that keeps its law, with a history that extends all
  -- that the seat has seen of it.
  pub record IsFoundBehind (law : K → ℕ → T → Type 0) (history : T → List E) (key : K)
      (p : ℕ) (x : T) (s : RowSeat T E K) : Type 0 where
    pub lawful : law key p x
    pub goes_on : GoesOn p (history x) s

  -- The seat has taken lock p, and found the history h.
  pub record HasTaken (id : TableId) (key : K) (p : ℕ) (h : List E) (old new : RowSeat T E K)
      : Type 0 where
    pub on : IsOn id key new
    pub has : Has p h new
    pub sees : Sees p h old new

  -- The seat has given lock p back, and left the history h.
  pub record HasGivenBack (id : TableId) (key : K) (p : ℕ) (h : List E) (old new : RowSeat T E K)
      : Type 0 where
    pub on : IsOn id key new
    pub free : IsFree new
    pub sees : Sees p h old new

  -- The seat is free and has all parts of the row.
  pub record HasAll (s : RowSeat T E K) : Type 0 where
    pub free : IsFree s
    pub parts : (view_of s).parts ≡ MOST_SEATS

  -- A seat that gave one part to a new seat, which has seen as much.
  pub record Halves (old new other : RowSeat T E K) : Type 0 where
    pub idle : IsIdle new
    pub parts : (view_of new).parts + 1 ≡ (view_of old).parts
    pub seen : (view_of new).fronts ≡ (view_of old).fronts
    pub free : IsFree other
    pub part : (view_of other).parts ≡ 1
    pub told : (view_of other).fronts ≡ (view_of old).fronts

  -- The seat has seen exactly what either of these had seen.
  abbrev pub SeesBoth : RowSeat T E K → RowSeat T E K → RowSeat T E K → Type 0
  SeesBoth old other new =
      (p : ℕ) (h : List E) → HasSeen p h new ↔ (HasSeen p h old ⊎ HasSeen p h other)

  -- The seat has the parts of both, and has seen what either had seen.
  pub record HasJoined (id : TableId) (key : K) (old other new : RowSeat T E K) : Type 0 where
    pub on : IsOn id key new
    pub idle : IsIdle new
    pub parts : (view_of new).parts ≡ (view_of old).parts + (view_of other).parts
    pub sees : SeesBoth old other new

  -- The seat keeps its parts, and has seen what either had seen.
  pub record HasMet (id : TableId) (key : K) (old other new : RowSeat T E K) : Type 0 where
    pub on : IsOn id key new
    pub free : IsFree new
    pub parts : (view_of new).parts ≡ (view_of old).parts
    pub sees : SeesBoth old other new
