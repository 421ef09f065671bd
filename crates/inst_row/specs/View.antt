-- What a seat of a row of locks has and has seen. A caller sees what it saw before, or more. A
-- choice of this hub.
use Rattle.std.specs.Prelude.{ℕ, suc, ◌+◌, ◌-◌, min, cond, ◌==◌, List, [], ◌∷◌, ◌++◌, Option, Some}
use Rattle.std.specs.Prelude.{None}
use Rattle.inst_row.specs.declared.view.Front.{Front}
use Rattle.inst_row.specs.declared.view.RowView.{RowView}
use Rattle.inst_row.specs.declared.row.TheConstants.{MOST_SEATS}

-- The prefix h of the history behind lock p.
abbrev pub front : {E : Type 0} → ℕ → List E → Front E
front p h = record { lock = p; history = h }

-- How often lock p is among these.
abbrev pub fronts_at : {E : Type 0} → ℕ → List (Front E) → ℕ
fronts_at p [] = 0
fronts_at p (f ∷ fs) = cond (f.lock == p) 1 0 + fronts_at p fs

-- How many seats have lock p.
abbrev pub seats_with_lock : {E K : Type 0} → ℕ → List (RowView E K) → ℕ
seats_with_lock p [] = 0
seats_with_lock p (v ∷ vs) = fronts_at p v.held + seats_with_lock p vs

-- The parts of all seats.
abbrev pub parts : {E K : Type 0} → List (RowView E K) → ℕ
parts [] = 0
parts (v ∷ vs) = v.parts + parts vs

-- All but the first.
abbrev pub fronts_below : {E : Type 0} → List (Front E) → List (Front E)
fronts_below [] = []
fronts_below (f ∷ fs) = fs

-- The histories of these values, each with the number of its lock, from p on.
abbrev pub fronts_of : {T E : Type 0} → (T → List E) → ℕ → List (Option T) → List (Front E)
fronts_of history p [] = []
fronts_of history p (None ∷ xs) = fronts_of history (suc p) xs
fronts_of history p (Some x ∷ xs) = front p (history x) ∷ fronts_of history (suc p) xs

-- The first seat: it has all parts and has seen the history of each value.
abbrev pub first_row_view : {T E K : Type 0} → (T → List E) → K → List (Option T) → RowView E K
first_row_view history key values =
    record { about = Some key; parts = MOST_SEATS; held = []; fronts = fronts_of history 0 values }

module _ {E K : Type 0} where
  -- The view after lock p was taken with the history h.
  abbrev pub took : RowView E K → ℕ → List E → RowView E K
  took v p h =
      record {
        about = v.about;
        parts = v.parts;
        held = front p h ∷ v.held;
        fronts =
            v.fronts ++ front p h ∷ [];
      }

  -- The view after the lock taken last was given back with the history h.
  abbrev pub gave : RowView E K → ℕ → List E → RowView E K
  gave v p h =
      record {
        about = v.about;
        parts = v.parts;
        held = fronts_below v.held;
        fronts =
            v.fronts ++ front p h ∷ [];
      }

  -- The view of a new seat that was split off.
  abbrev pub informed_row_view : RowView E K → RowView E K
  informed_row_view v =
      record { about = v.about; parts = min 1 v.parts; held = []; fronts = v.fronts }

  -- The view of the old seat after the split.
  abbrev pub left_of : RowView E K → RowView E K
  left_of v = record { about = v.about; parts = v.parts - 1; held = v.held; fronts = v.fronts }

  -- The view of two seats joined into one.
  abbrev pub united_row_view : RowView E K → RowView E K → RowView E K
  united_row_view v w =
      record {
        about = v.about;
        parts = v.parts + w.parts;
        held = v.held ++ w.held;
        fronts =
            v.fronts ++ w.fronts;
      }

  -- The view of a seat that was joined into another.
  abbrev pub nobody : RowView E K
  nobody = record { about = None; parts = 0; held = []; fronts = [] }
