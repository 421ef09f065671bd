-- The spots of what a history carries over an opening, as far as it is walked.
use Rattle.std.proofs.Common.{◌≡◌, ℕ, ◌+◌, ◌<◌, arith, get_or, take, drop, take-append-drop, List, [], ◌∷◌, ◌++◌, length, length-append, refl, sym, ap, ◌∙◌, subst, Option, Some, None}
use Rattle.std.specs.List.{cons_option}
use Rattle.std.proofs.lemmas.List.Elements.{filter_map-append}
use Rattle.inst_command.specs.declared.entry.Entry.{Entry}
use Rattle.inst_journal.specs.declared.event.Event.{Event}
use Rattle.inst_journal.specs.declared.event.Event.TheVariants.{Funded, Defunded, Taken, Forwarded, Booked, Fetched, Opened}
use Rattle.inst_transfers.specs.State.{row_of}
use Rattle.inst_ledger.proofs.Inbox.{get_still, get_next}
use Rattle.inst_ledger.proofs.TableStaysRight.{rows_push}
use Rattle.inst_slot.specs.declared.arrival.Arrival.{Arrival}
use Rattle.inst_slot.specs.declared.arrivals.Spot.{Spot}
use Rattle.inst_slot.specs.Opening.{arrival_without_place}
use Rattle.inst_slot.specs.Spots.{rows_of, no_entry, arrivals_of, AreSpots}
use Rattle.inst_slot.proofs.SlotOpensAgain.{arrived_of}
use Rattle.inst_slot.proofs.Spots.{arrivals_still, spots_still, arrivals_next, spots_next}

abbrev pub AreWalked : ℕ → List Event → List Event → List Spot → ℕ → Type 0
AreWalked who J K S position = (arrivals_of (rows_of who K) S ≡ arrived_of J K) × AreSpots (rows_of who K) S × (position ≡ length (rows_of who K))

-- an event of which nothing is carried
pub walked_by : (who : ℕ) (J K L : List Event) (x : Event) (S : List Spot) (position next : ℕ) → L ≡ K ++ x ∷ [] → arrived_of J L ≡ arrived_of J K → next ≡ position + length (cons_option (row_of who x) []) → AreWalked who J K S position
    → AreWalked who J L S next
walked_by who J K L x S position next whole still count walked =
    let rows : rows_of who L ≡ rows_of who K ++ cons_option (row_of who x) [] = ap (rows_of who) whole ∙ rows_push who K x in (
      ap (λ (l : List Entry). arrivals_of l S) rows ∙ arrivals_still (rows_of who K) (cons_option (row_of who x) []) S walked.1.0 ∙ walked.0 ∙ sym still,
      subst (λ (l : List Entry). AreSpots l S) (sym rows) (spots_still (rows_of who K) (cons_option (row_of who x) []) S walked.1),
      count ∙ ap (λ (n : ℕ). n + length (cons_option (row_of who x) [])) walked.2 ∙ sym (ap length rows ∙ length-append (rows_of who K) (cons_option (row_of who x) [])),
    )

-- one that is carried
pub walked_to : (who : ℕ) (J K L : List Event) (x : Event) (e : Entry) (S : List Spot) (position : ℕ) → L ≡ K ++ x ∷ [] → row_of who x ≡ Some e → arrived_of J L ≡ arrived_of J K ++ arrival_without_place e ∷ [] → AreWalked who J K S position
    → AreWalked who J L (S ++ record { position = position; index = None } ∷ []) (position + 1)
walked_to who J K L x e S position whole row more walked =
    let s : Spot = record { position = position; index = None } in
    let rows : rows_of who L ≡ rows_of who K ++ e ∷ [] = ap (rows_of who) whole ∙ rows_push who K x ∙ ap (λ (o : Option Entry). rows_of who K ++ cons_option o []) row in (
      ap (λ (l : List Entry). arrivals_of l (S ++ s ∷ [])) rows ∙ arrivals_next (rows_of who K) e S s walked.2 walked.1 ∙ ap (λ (l : List Arrival). l ++ arrival_without_place e ∷ []) walked.0 ∙ sym more,
      subst (λ (l : List Entry). AreSpots l (S ++ s ∷ [])) (sym rows) (spots_next (rows_of who K) e S s walked.2 walked.1),
      omega (arith, walked.2, ap length rows, length-append (rows_of who K) (e ∷ [])),
    )

-- one that brings no transfer
pub rows_none : (who : ℕ) (x : Event) → ((id : List ℕ) (to cents stamp : ℕ) → x ≡ Taken id to cents stamp → ⊥) → ((from : ℕ) (id : List ℕ) (cents deadline : ℕ) → x ≡ Forwarded from id cents deadline → ⊥) → row_of who x ≡ None
rows_none who (Taken id to cents stamp) taken forwarded = absurd (taken id to cents stamp refl)
rows_none who (Forwarded from id cents deadline) taken forwarded = absurd (forwarded from id cents deadline refl)
rows_none who (Funded funding) taken forwarded = refl
rows_none who (Defunded funding) taken forwarded = refl
rows_none who (Booked from id outcome) taken forwarded = refl
rows_none who (Fetched count) taken forwarded = refl
rows_none who Opened taken forwarded = refl

-- the row of an event that brings a transfer stands where the rows of the events before it end
pub row_here : (who : ℕ) (J : List Event) (i : ℕ) (x : Event) (e : Entry) (n : ℕ) → take (i + 1) J ≡ take i J ++ x ∷ [] → row_of who x ≡ Some e → n ≡ length (rows_of who (take i J)) → (get_or (rows_of who J) n no_entry ≡ e) × (n < length (rows_of who J))
row_here who J i x e n more row at =
    let K : List Event = take i J in
    let R : List Entry = rows_of who (drop (i + 1) J) in
    let first : rows_of who (take (i + 1) J) ≡ rows_of who K ++ e ∷ [] = ap (rows_of who) more ∙ rows_push who K x ∙ ap (λ (o : Option Entry). rows_of who K ++ cons_option o []) row in
    let whole : rows_of who J ≡ (rows_of who K ++ e ∷ []) ++ R =
    ap (rows_of who) (sym (take-append-drop (i + 1) J)) ∙ filter_map-append (row_of who) (take (i + 1) J) (drop (i + 1) J) ∙ ap (λ (l : List Entry). l ++ R) first in
    let below : n < length (rows_of who K ++ e ∷ []) = omega (arith, at, length-append (rows_of who K) (e ∷ [])) in (
      ap (λ (l : List Entry). get_or l n no_entry) whole ∙ get_still (rows_of who K ++ e ∷ []) R n no_entry below ∙ ap (λ (m : ℕ). get_or (rows_of who K ++ e ∷ []) m no_entry) at ∙ get_next (rows_of who K) e no_entry,
      omega (arith, below, ap length whole, length-append (rows_of who K ++ e ∷ []) R),
    )
