-- The arrivals at the spots of a slot: they stay as its participant's table grows, and each is found by its position.
use Rattle.std.proofs.Common.{◌≡◌, ℕ, zero, suc, ◌+◌, ◌<◌, ◌≤◌, arith, Bool, true, false, cond, ◌&&◌, ◌==◌, ◌⊎◌, List, [], ◌∷◌, ◌++◌, length, length-append, get_or, set, refl, sym, ap, ◌∙◌, subst, Option, Some, None, is_some, is_none, not, count_by, Ok, Err, inl, inr}
use Rattle.std.specs.Prelude.{slice_get}
use Rattle.std.specs.List.{cons_option, list_any}
use Rattle.std.specs.List.Sorted.{IsBinarySearchResult, IsSearchInRange, IsNonDecreasingBy}
use Rattle.std.specs.Ordering.{nat_cmp, ordering_index}
use Rattle.std.specs.Cmp.Lexicographic.{same_text as text_same}
use Rattle.std.specs.Map.{keys_of}
use Rattle.std.proofs.lemmas.Bool.{and_parts, eqb-true, eq-eqb, true≢false}
use Rattle.std.proofs.lemmas.Bool.Decides.{nat_tests}
use Rattle.std.proofs.lemmas.Cmp.{ranked}
use Rattle.std.proofs.lemmas.List.{map-append, length-map}
use Rattle.std.proofs.lemmas.List.Sorted.{IsNonDecreasingBy-from_default}
use Rattle.std.proofs.lemmas.Map.Made.{is_some-lookup}
use Rattle.std.proofs.lemmas.Option.{slice_get-get_or, slice_get_within, get_or_from_slice_get}
use Rattle.inst_settings.specs.Settings.{same_text}
use Rattle.inst_settings.proofs.CodeTellsNumber.{same_text_refl}
use Rattle.inst_command.specs.declared.entry.Entry.{Entry}
use Rattle.inst_command.specs.declared.outcome.Outcome.{Outcome}
use Rattle.inst_journal.specs.declared.event.Event.{Event}
use Rattle.inst_journal.specs.declared.event.Event.TheVariants.{Forwarded}
use Rattle.inst_journal.specs.Booked.{booked}
use Rattle.inst_transfers.specs.declared.transfer.Found.{Found}
use Rattle.inst_transfers.specs.declared.transfer.Transfer.{Transfer}
use Rattle.inst_transfers.specs.State.{Key, same_key, row_of, outcome_in}
use Rattle.inst_transfers.specs.Held.{Held, state_in, found_at, row_in, rows_in, AreApart, AreWithin, AreRising, IsFound}
use Rattle.inst_transfers.proofs.Rows.{within_more, within_last, rising_push, rising_all, same_index, row_there, keys_equiv}
use Rattle.inst_ledger.specs.Book.{LedgerBook as Kept, ledger_with_event}
use Rattle.inst_ledger.specs.Right.{IsRight}
use Rattle.inst_ledger.proofs.Inbox.{get_still, get_next}
use Rattle.inst_ledger.proofs.TableStaysRight.{rows_push}
use Rattle.inst_slot.specs.declared.arrival.Arrival.{Arrival}
use Rattle.inst_slot.specs.declared.arrivals.Spot.{Spot}
use Rattle.inst_slot.specs.inner.Answering.{book_with_arrivals, book_with_spots}
use Rattle.inst_slot.specs.Arrived.{unbooked_place, NoneUnbooked}
use Rattle.inst_slot.specs.Book.{Book, arrived_at, place_with_index}
use Rattle.inst_slot.specs.Opening.{is_arrival_of}
use Rattle.inst_slot.specs.Spots.{rows_of, no_entry, arrival_of, arrivals_of, positions_of, AreSpots}
use Rattle.inst_slot.specs.inner.Spots.{FindsSpot, IsSpotAt}
use Rattle.inst_slot.proofs.ArrivalsOfOneTransfer.{none_counted, counted_once, none_arrived, arrived_there}
use Rattle.inst_slot.proofs.ElementAtIndex.{none_there}

-- one event more
abbrev lying : Option ℕ → Entry → Arrival
lying index entry = record { entry = entry; index = index }

pub arrivals_still : (rows more : List Entry) (S : List Spot) → AreWithin (length rows) (positions_of S) → arrivals_of (rows ++ more) S ≡ arrivals_of rows S
arrivals_still rows more [] within = refl
arrivals_still rows more (s ∷ S) within =
    let here : arrival_of (rows ++ more) s ≡ arrival_of rows s = ap (lying s.index) (get_still rows more s.position no_entry within.0) in
    let rest : arrivals_of (rows ++ more) S ≡ arrivals_of rows S = arrivals_still rows more S within.1 in
    λ i. here i ∷ rest i

pub spots_still : (rows more : List Entry) (S : List Spot) → AreSpots rows S → AreSpots (rows ++ more) S
spots_still rows more S are = (within_more (length rows) (length (rows ++ more)) (positions_of S) (omega (arith, length-append rows more)) are.0, are.1)

spots_after : (who : ℕ) (J : List Event) (e : Event) (S : List Spot) → AreSpots (rows_of who J) S → AreSpots (rows_of who (J ++ e ∷ [])) S
spots_after who J e S are = subst (λ (rows : List Entry). AreSpots rows S) (sym (rows_push who J e)) (spots_still (rows_of who J) (cons_option (row_of who e) []) S are)

pub spots_over : (old new : Kept) (e : Event) (S : List Spot) → new ≡ ledger_with_event old e → AreSpots (rows_of old.who old.events) S → AreSpots (rows_of new.who new.events) S
spots_over old new e S is are = subst (λ (x : Kept). AreSpots (rows_of x.who x.events) S) (sym is) (spots_after old.who old.events e S are)

pub over_after : (old new : Kept) (e : Event) (S : List Spot) → new ≡ ledger_with_event old e → AreSpots (rows_of old.who old.events) S → book_with_spots new S ≡ book_with_arrivals (ledger_with_event old e) (arrivals_of (rows_of old.who old.events) S)
over_after old new e S is are =
    ap (λ (x : Kept). book_with_spots x S) is
    ∙ ap (λ (rows : List Entry). book_with_arrivals (ledger_with_event old e) (arrivals_of rows S)) (rows_push old.who old.events e)
    ∙ ap (book_with_arrivals (ledger_with_event old e)) (arrivals_still (rows_of old.who old.events) (cons_option (row_of old.who e) []) S are.0)

-- one spot more, at the position of a row that comes
pub spots_next : (rows : List Entry) (entry : Entry) (S : List Spot) (s : Spot) → s.position ≡ length rows → AreSpots rows S → AreSpots (rows ++ entry ∷ []) (S ++ s ∷ [])
spots_next rows entry S s at are =
    let more : positions_of (S ++ s ∷ []) ≡ positions_of S ++ length rows ∷ [] = map-append (λ (x : Spot). x.position) S (s ∷ []) ∙ ap (λ (n : ℕ). positions_of S ++ n ∷ []) at in
    subst (λ (l : List ℕ). AreWithin (length (rows ++ entry ∷ [])) l × AreRising l) (sym more)
    (within_last (length rows) (length (rows ++ entry ∷ [])) (positions_of S) (omega (arith, length-append rows (entry ∷ []))) are.0, rising_push (positions_of S) (length rows) are.1 are.0)

pub arrivals_next : (rows : List Entry) (entry : Entry) (S : List Spot) (s : Spot) → s.position ≡ length rows → AreSpots rows S → arrivals_of (rows ++ entry ∷ []) (S ++ s ∷ []) ≡ arrivals_of rows S ++ lying s.index entry ∷ []
arrivals_next rows entry S s at are =
    map-append (arrival_of (rows ++ entry ∷ [])) S (s ∷ [])
    ∙ ap (λ (l : List Arrival). l ++ arrival_of (rows ++ entry ∷ []) s ∷ []) (arrivals_still rows (entry ∷ []) S are.0)
    ∙ ap (λ (e : Entry). arrivals_of rows S ++ lying s.index e ∷ []) (ap (λ (n : ℕ). get_or (rows ++ entry ∷ []) n no_entry) at ∙ get_next rows entry no_entry)

-- an arrival is at a spot
pub spot_of : (rows : List Entry) (S : List Spot) (i : ℕ) (x : Arrival) → slice_get (arrivals_of rows S) i ≡ Some x → (s : Spot) × (slice_get S i ≡ Some s) × (arrival_of rows s ≡ x)
spot_of rows [] i x there = absurd (true≢false (sym (ap is_some there)))
spot_of rows (s ∷ S) zero x there = let same : arrival_of rows s ≡ x = cc in (s, refl, same)
spot_of rows (s ∷ S) (suc i) x there = spot_of rows S i x there

pub arrival_there : (rows : List Entry) (S : List Spot) (i : ℕ) (s : Spot) → slice_get S i ≡ Some s → slice_get (arrivals_of rows S) i ≡ Some (arrival_of rows s)
arrival_there rows [] i s there = absurd (true≢false (sym (ap is_some there)))
arrival_there rows (x ∷ S) zero s there = let same : x ≡ s = cc in ap (λ (y : Spot). Some (arrival_of rows y)) same
arrival_there rows (x ∷ S) (suc i) s there = arrival_there rows S i s there

pub within_there : (n : ℕ) (S : List Spot) (i : ℕ) (s : Spot) → AreWithin n (positions_of S) → slice_get S i ≡ Some s → s.position < n
within_there n [] i s within there = absurd (true≢false (sym (ap is_some there)))
within_there n (x ∷ S) zero s within there = let same : x ≡ s = cc in omega (arith, within.0, ap (λ (y : Spot). y.position) same)
within_there n (x ∷ S) (suc i) s within there = within_there n S i s within.1 there

position_there : (S : List Spot) (i : ℕ) (s : Spot) → slice_get S i ≡ Some s → slice_get (positions_of S) i ≡ Some s.position
position_there [] i s there = absurd (true≢false (sym (ap is_some there)))
position_there (x ∷ S) zero s there = let same : x ≡ s = cc in ap (λ (y : Spot). Some y.position) same
position_there (x ∷ S) (suc i) s there = position_there S i s there

one_spot : (S : List Spot) (i j : ℕ) (s t : Spot) → AreRising (positions_of S) → slice_get S i ≡ Some s → slice_get S j ≡ Some t → s.position ≡ t.position → i ≡ j
one_spot S i j s t rising here there same =
    let first = position_there S i s here in
    same_index (positions_of S) i j s.position rising (slice_get_within (positions_of S) i s.position first) (get_or_from_slice_get (positions_of S) i s.position 0 first) (position_there S j t there ∙ ap (λ (n : ℕ). Some n) (sym same))

-- the spot at a position
module _ (S : List Spot) (rising : AreRising (positions_of S)) (position : ℕ) where
  position_at : (S : List Spot) (i : ℕ) → i < length S → (d : Spot) → get_or (positions_of S) i 0 ≡ (get_or S i d).position
  position_at [] i below d = absurd (omega (arith, below))
  position_at (s ∷ S) zero below d = refl
  position_at (s ∷ S) (suc i) below d = position_at S i (omega (arith, below)) d

  first_spot : Spot
  first_spot = record { position = 0; index = None }

  spots_rise : IsNonDecreasingBy (λ (s : Spot). ordering_index (nat_cmp s.position position)) S
  spots_rise = IsNonDecreasingBy-from_default (λ (s : Spot). ordering_index (nat_cmp s.position position)) S first_spot (λ i j le below.
      let up : (get_or S i first_spot).position ≤ (get_or S j first_spot).position = omega (
        arith,
        position_at S i (omega (arith, le, below)) first_spot,
        position_at S j below first_spot,
        rising_all (positions_of S) rising i j le (omega (arith, below, length-map S (λ (s : Spot). s.position))),
      ) in
      grind (arith, nat_tests))

  pub spot_found : (k : ℕ) → IsSearchInRange (Ok k) (length S) → IsBinarySearchResult (λ (s : Spot). nat_cmp s.position position) S (Ok k) → IsSpotAt S position k
  spot_found k within equal = record { spot = get_or S k first_spot; there = slice_get-get_or S k first_spot within; is = ranked _ position _ (sym (equal first_spot)) }

  pub no_spot : (k : ℕ) → IsBinarySearchResult (λ (s : Spot). nat_cmp s.position position) S (Err k) → FindsSpot S position None
  no_spot k parted j s there same =
      let below : j < length S = slice_get_within S j s there in
      let here : get_or S j first_spot ≡ s = get_or_from_slice_get S j s first_spot there in
      let at : (get_or S j first_spot).position ≡ position = ap (λ (x : Spot). x.position) here ∙ same in
      elsewhere j below at
    where
      elsewhere : (j : ℕ) → j < length S → (get_or S j first_spot).position ≡ position → ⊥
      elsewhere j below at = by (j_cases j k)
        where
          j_cases : (j k : ℕ) → (j < k) ⊎ (k ≤ j)
          j_cases zero zero = inr (omega arith)
          j_cases zero (suc k) = inl (omega arith)
          j_cases (suc j) zero = inr (omega arith)
          j_cases (suc j) (suc k) = elim (j_cases j k) [
            | inl less ↦ inl (omega (arith, less))
            | inr more ↦ inr (omega (arith, more))
          ]

          by : (j < k) ⊎ (k ≤ j) → ⊥
          by (inl less) =
              let under : (get_or S j first_spot).position < position = ranked _ position _ (sym ((parted spots_rise).0 j first_spot (omega (arith, below)) less)) in
              omega (arith, under, at)
          by (inr more) =
              let above : position < (get_or S j first_spot).position = ranked _ position _ (sym ((parted spots_rise).1 j first_spot more below)) in
              omega (arith, above, at)

-- by what names the transfer
named : (from : ℕ) (id : List ℕ) (x : Arrival) → is_arrival_of from id x ≡ true → (x.entry.from ≡ from) × (x.entry.id ≡ id)
named from id x mine =
    let parts = and_parts (x.entry.from == from) (same_text x.entry.id id) mine in
    (eqb-true x.entry.from from parts.0, text_same x.entry.id id (sym parts.1))

module _ (rows : List Entry) (S : List Spot) (apart : AreApart rows) (are : AreSpots rows S) (from : ℕ) (id : List ℕ) where
  row_at : (i : ℕ) (s : Spot) → slice_get S i ≡ Some s → slice_get rows s.position ≡ Some (arrival_of rows s).entry
  row_at i s there = slice_get-get_or rows s.position no_entry (within_there (length rows) S i s are.0 there)

  -- an arrival of the transfer is at a spot of its position
  at_position : (p : ℕ) (e : Entry) → slice_get rows p ≡ Some e → e.from ≡ from → e.id ≡ id → (j : ℕ) (y : Arrival) → slice_get (arrivals_of rows S) j ≡ Some y → is_arrival_of from id y ≡ true
      → (s : Spot) × (slice_get S j ≡ Some s) × (s.position ≡ p)
  at_position p e row from_is id_is j y there mine =
      let s = spot_of rows S j y there in
      let n = named from id y mine in
      let here : slice_get rows s.0.position ≡ Some y.entry = row_at j s.0 s.1 ∙ ap (λ (x : Arrival). Some x.entry) s.2 in
      (s.0, s.1, apart s.0.position p y.entry e here row (n.0 ∙ sym from_is) (n.1 ∙ sym id_is))

  unique : (i j : ℕ) (x y : Arrival) → slice_get (arrivals_of rows S) i ≡ Some x → slice_get (arrivals_of rows S) j ≡ Some y → is_arrival_of from id x ≡ true → is_arrival_of from id y ≡ true → i ≡ j
  unique i j x y here there mine yours =
      let s = spot_of rows S i x here in
      let n = named from id x mine in
      let t = at_position s.0.position x.entry (row_at i s.0 s.1 ∙ ap (λ (z : Arrival). Some z.entry) s.2) n.0 n.1 j y there yours in
      one_spot S i j s.0 t.0 are.1 s.1 t.1 (sym t.2)

  pub arrives_once : count_by (is_arrival_of from id) (arrivals_of rows S) ≤ 1
  arrives_once = counted_once (is_arrival_of from id) (arrivals_of rows S) unique

  module _ (p : ℕ) (e : Entry) (row : slice_get rows p ≡ Some e) (from_is : e.from ≡ from) (id_is : e.id ≡ id) where
    pub is_here : (k : ℕ) (at : IsSpotAt S p k) → (arrival_of rows at.spot).entry ≡ e
    is_here k at = ap (λ (n : ℕ). get_or rows n no_entry) at.is ∙ get_or_from_slice_get rows p e no_entry row

    pub is_named : (k : ℕ) (at : IsSpotAt S p k) → is_arrival_of from id (arrival_of rows at.spot) ≡ true
    is_named k at =
        ap (λ (x : Entry). (x.from == from) && same_text x.id id) (is_here k at)
        ∙ ap (λ (b : Bool). b && same_text e.id id) (eq-eqb e.from from from_is) ∙ ap (λ (l : List ℕ). same_text l id) id_is ∙ same_text_refl id

    pub arrived_here : (k : ℕ) (at : IsSpotAt S p k) → arrived_at from id (arrivals_of rows S) ≡ at.spot.index
    arrived_here k at =
        let there = arrival_there rows S k at.spot at.there in
        let mine = is_named k at in
        arrived_there from id (arrivals_of rows S) k (arrival_of rows at.spot) there mine (λ j y here yours. unique k j (arrival_of rows at.spot) y there here mine yours)

    none_here : FindsSpot S p None → (j : ℕ) (y : Arrival) → slice_get (arrivals_of rows S) j ≡ Some y → is_arrival_of from id y ≡ true → ⊥
    none_here none j y there mine =
        let s = at_position p e row from_is id_is j y there mine in
        absurd (none j s.0 s.1 s.2)

    pub not_here : FindsSpot S p None → arrived_at from id (arrivals_of rows S) ≡ None
    not_here none = none_arrived from id (arrivals_of rows S) (none_here none)

    pub counted_none : FindsSpot S p None → count_by (is_arrival_of from id) (arrivals_of rows S) ≡ 0
    counted_none none = none_counted (is_arrival_of from id) (arrivals_of rows S) (none_here none)

-- what the table doesn't find hasn't arrived
module _ (es : List (Key × Transfer)) (rows : List Entry) (S : List Spot) (same : rows_in es ≡ rows) (are : AreSpots rows S) (from : ℕ) (id : List ℕ) (none : found_at es (from, id) ≡ None) where
  key_there : (es : List (Key × Transfer)) (p : ℕ) (x : Entry) → slice_get (rows_in es) p ≡ Some x → slice_get (keys_of es) p ≡ Some (x.from, x.id)
  key_there [] p x there = absurd (true≢false (sym (ap is_some there)))
  key_there (e ∷ es) zero x there = let same : row_in e ≡ x = cc in ap (λ (y : Entry). Some (y.from, y.id)) same
  key_there (e ∷ es) (suc p) x there = key_there es p x there

  absent : (j : ℕ) (y : Arrival) → slice_get (arrivals_of rows S) j ≡ Some y → is_arrival_of from id y ≡ true → ⊥
  absent j y there mine =
      let s = spot_of rows S j y there in
      let n = named from id y mine in
      let row : slice_get rows s.0.position ≡ Some y.entry = slice_get-get_or rows s.0.position no_entry (within_there (length rows) S j s.0 are.0 s.1) ∙ ap (λ (x : Arrival). Some x.entry) s.2 in
      let key : slice_get (keys_of es) s.0.position ≡ Some (from, id) =
      key_there es s.0.position y.entry (ap (λ (l : List Entry). slice_get l s.0.position) same ∙ row) ∙ ap (λ (f : ℕ). Some (f, y.entry.id)) n.0 ∙ ap (λ (i : List ℕ). Some (from, i)) n.1 in
      let any : list_any (same_key (from, id)) (keys_of es) ≡ false = sym (is_some-lookup (same_key (from, id)) es) ∙ ap is_some none in
      true≢false (sym (keys_equiv.refl (from, id)) ∙ none_there (same_key (from, id)) (keys_of es) s.0.position (from, id) any key)

  pub unknown_here : arrived_at from id (arrivals_of rows S) ≡ None
  unknown_here = none_arrived from id (arrivals_of rows S) absent

  pub unknown_counted : count_by (is_arrival_of from id) (arrivals_of rows S) ≡ 0
  unknown_counted = none_counted (is_arrival_of from id) (arrivals_of rows S) absent

-- what was found stands in the rows of the history
pub found_row : (who : ℕ) (J : List Event) (h : Held) (f : Found) → IsRight who J (state_in h) → IsFound h f → slice_get (rows_of who J) f.position ≡ Some (row_in ((f.from, f.id), f.transfer))
found_row who J h f right found = ap (λ (rows : List Entry). slice_get rows f.position) (sym right.rows) ∙ row_there h.entries f.position ((f.from, f.id), f.transfer) found.row

-- a spot whose index was written
pub arrivals_set : (rows : List Entry) (S : List Spot) (i : ℕ) (s : Spot) → arrivals_of rows (set S i s) ≡ set (arrivals_of rows S) i (arrival_of rows s)
arrivals_set rows [] i s = refl
arrivals_set rows (x ∷ S) zero s = refl
arrivals_set rows (x ∷ S) (suc i) s = ap (λ (l : List Arrival). arrival_of rows x ∷ l) (arrivals_set rows S i s)

pub positions_set : (S : List Spot) (i : ℕ) (s t : Spot) → slice_get S i ≡ Some s → t.position ≡ s.position → positions_of (set S i t) ≡ positions_of S
positions_set [] i s t there same = refl
positions_set (x ∷ S) zero s t there same = let here : x ≡ s = cc in ap (λ (n : ℕ). n ∷ positions_of S) (same ∙ ap (λ (y : Spot). y.position) (sym here))
positions_set (x ∷ S) (suc i) s t there same = ap (λ (l : List ℕ). x.position ∷ l) (positions_set S i s t there same)

-- after a transfer was forwarded
pub spots_forwarded : (old new : Kept) (entry : Entry) (S : List Spot) (s : Spot) → new ≡ ledger_with_event old (Forwarded entry.from entry.id entry.cents entry.deadline) → s.position ≡ length (rows_of old.who old.events) → AreSpots (rows_of old.who old.events) S
    → AreSpots (rows_of new.who new.events) (S ++ s ∷ [])
spots_forwarded old new entry S s is at are =
    subst (λ (x : Kept). AreSpots (rows_of x.who x.events) (S ++ s ∷ [])) (sym is)
    (subst (λ (rows : List Entry). AreSpots rows (S ++ s ∷ [])) (sym (rows_push old.who old.events (Forwarded entry.from entry.id entry.cents entry.deadline))) (spots_next (rows_of old.who old.events) entry S s at are))

pub over_forwarded : (old new : Kept) (entry : Entry) (S : List Spot) (s : Spot) → new ≡ ledger_with_event old (Forwarded entry.from entry.id entry.cents entry.deadline) → s.position ≡ length (rows_of old.who old.events) → AreSpots (rows_of old.who old.events) S
    → book_with_spots new (S ++ s ∷ []) ≡ book_with_arrivals (ledger_with_event old (Forwarded entry.from entry.id entry.cents entry.deadline)) (arrivals_of (rows_of old.who old.events) S ++ lying s.index entry ∷ [])
over_forwarded old new entry S s is at are =
    let e : Event = Forwarded entry.from entry.id entry.cents entry.deadline in
    ap (λ (x : Kept). book_with_spots x (S ++ s ∷ [])) is
    ∙ ap (λ (rows : List Entry). book_with_arrivals (ledger_with_event old e) (arrivals_of rows (S ++ s ∷ []))) (rows_push old.who old.events e)
    ∙ ap (book_with_arrivals (ledger_with_event old e)) (arrivals_next (rows_of old.who old.events) entry S s at are)

-- what is booked of the arrival at a spot
pub unbooked_is : (book : Book) (h : Held) (f : Found) (s : Spot) → IsRight book.who book.events (state_in h) → IsFound h f → f.position ≡ s.position
    → unbooked_place book (arrival_of (rows_of book.who book.events) s) ≡ cond (is_none f.transfer.outcome) (place_with_index f.from s.index) None
unbooked_is book h f s right found at =
    let row = found_row book.who book.events h f right found in
    let here : get_or (rows_of book.who book.events) s.position no_entry ≡ row_in ((f.from, f.id), f.transfer) =
    get_or_from_slice_get (rows_of book.who book.events) s.position _ no_entry (ap (slice_get (rows_of book.who book.events)) (sym at) ∙ row) in
    let outcome : booked f.from f.id book.events ≡ f.transfer.outcome = sym (right.booked (f.from, f.id)) ∙ ap outcome_in found.transfer in
    ap (λ (e : Entry). unbooked_place book (lying s.index e)) here ∙ ap (λ (o : Option Outcome). cond (is_none o) (place_with_index f.from s.index) None) outcome

pub is_unbooked : (o : Option Outcome) (b : Bool) → is_some o ≡ b → is_none o ≡ not b
is_unbooked None b e = ap not e
is_unbooked (Some x) b e = ap not e

-- one arrival more that is passed over
pub none_more : (book : Book) (rows : List Entry) (S : List Spot) (position at : ℕ) (s : Spot) → arrivals_of rows S ≡ book.arrivals → NoneUnbooked book position at → slice_get S at ≡ Some s → unbooked_place book (arrival_of rows s) ≡ None
    → NoneUnbooked book position (at + 1)
none_more book rows S position at s same none there passed i arrival from before here = by (less_cases i at before)
  where
    less_cases : (i at : ℕ) → i < at + 1 → (i < at) ⊎ (i ≡ at)
    less_cases zero zero h = inr refl
    less_cases zero (suc at) h = inl (omega arith)
    less_cases (suc i) zero h = absurd (omega (arith, h))
    less_cases (suc i) (suc at) h = elim (less_cases i at (omega (arith, h))) [
      | inl less ↦ inl (omega (arith, less))
      | inr is ↦ inr (ap suc is)
    ]

    by : (i < at) ⊎ (i ≡ at) → unbooked_place book arrival ≡ None
    by (inl less) = none i arrival from less here
    by (inr is) =
        let both : Some (arrival_of rows s) ≡ Some arrival = sym (arrival_there rows S at s there) ∙ ap (λ (A : List Arrival). slice_get A at) same ∙ ap (slice_get book.arrivals) (sym is) ∙ here in
        let one : arrival_of rows s ≡ arrival = cc in
        ap (unbooked_place book) (sym one) ∙ passed
