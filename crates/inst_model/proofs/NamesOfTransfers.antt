-- A place and an identifier name a transfer alike.
use Rattle.std.proofs.Common.{◌≡◌, ℕ, zero, suc, Bool, true, false, cond, is_none, refl, List, [], ◌∷◌, ◌++◌, Some, ap, ◌∙◌}
use Rattle.std.specs.List.{slice_get, cons_option, filter}
use Rattle.inst_model.specs.Opening.{Opening}
use Rattle.inst_settings.specs.Settings.{HubSettings}
use Rattle.inst_command.specs.declared.step.Step.{Step}
use Rattle.inst_journal.specs.declared.event.Event.{Event}
use Rattle.inst_journal.specs.Booked.{booked}
use Rattle.inst_journal.specs.Opened.{is_opening, carried, is_live}
use Rattle.inst_journal.proofs.EventsCarriedOverOpening.{carried_push}
use Rattle.inst_model.specs.Transfer.{Transfer, terms, transfers, live_transfers, at_place}
use Rattle.inst_model.specs.Hub.{history, outcome_of}
use Rattle.inst_model.specs.Places.{PlacesName, IdentifiersName}
use Rattle.inst_model.proofs.Histories.{persists_step_within}
use Rattle.inst_model.proofs.Transfers.{transfers_push, transfer_id, place_found, live_place}
use Rattle.inst_model.proofs.AllHistoriesTogether.{together}
use Rattle.inst_model.proofs.Events.{stands_somewhere}

slice_get-append : {A : Type 0} (xs ys : List A) (k : ℕ) (x : A) → slice_get xs k ≡ Some x → slice_get (xs ++ ys) k ≡ Some x
slice_get-append [] ys k x e = absurd cc
slice_get-append (y ∷ xs) ys zero x e = e
slice_get-append (y ∷ xs) ys (suc k) x e = slice_get-append xs ys k x e

filter-append : (p : Transfer → Bool) (xs ys : List Transfer) → filter p (xs ++ ys) ≡ filter p xs ++ filter p ys
filter-append p [] ys = refl
filter-append p (x ∷ xs) ys = go (filter-append p xs ys) (p x)
  where
    go : filter p (xs ++ ys) ≡ filter p xs ++ filter p ys → (b : Bool) → cond b (x ∷ filter p (xs ++ ys)) (filter p (xs ++ ys)) ≡ cond b (x ∷ filter p xs) (filter p xs) ++ filter p ys
    go later true = ap (λ rest. x ∷ rest) later
    go later false = later

-- within an opening an event leaves the live transfers as they are, and may add one at their end
pub live_grown : (p : ℕ) (J : List Event) (event : Event) → is_opening event ≡ false → live_transfers p (J ++ event ∷ []) ≡ live_transfers p J ++ filter (λ (y : Transfer). is_live p y.id J) (cons_option (terms event) [])
live_grown p J event no_opening =
    let live : List Event → Transfer → Bool = λ C y. is_none (booked p y.id C) in
    let new : List Transfer = cons_option (terms event) [] in
    ap (λ C. filter (live C) (transfers (J ++ event ∷ []))) (carried_push J event no_opening) ∙ ap (filter (live (carried J))) (transfers_push J event) ∙ filter-append (live (carried J)) (transfers J) new

place_kept : (p k : ℕ) (x : Transfer) (J : List Event) (event : Event) → is_opening event ≡ false → at_place p J k ≡ Some x → at_place p (J ++ event ∷ []) k ≡ Some x
place_kept p k x J event no_opening e =
    ap (λ U. slice_get U k) (live_grown p J event no_opening)
    ∙ slice_get-append (live_transfers p J) (filter (λ (y : Transfer). is_live p y.id J) (cons_option (terms event) [])) k x e

place_stays : (s : HubSettings) (O : Opening) (later L : List Step) (p k : ℕ) (x : Transfer) → at_place p (history s O L p) k ≡ Some x → at_place p (history s O (later ++ L) p) k ≡ Some x
place_stays s O [] L p k x e = e
place_stays s O (step ∷ later) L p k x e = persists_step_within s O step (later ++ L) p (λ K. at_place p K k ≡ Some x) (place_kept p k x) (place_stays s O later L p k x e)

pub places_name : PlacesName
places_name s O opened L p index x steps e = record {
  by_identifier = place_found s p (history s O L p) index x ((together s O opened L steps).sound p) e;
  outcome_is = ap (outcome_of s O L p) e;
  for_good = λ later. place_stays s O later L p index x e;
}

pub identifiers_name : IdentifiersName
identifiers_name s O L p id x e live =
    let found = stands_somewhere id (history s O L p) x e in
    let named : x.id ≡ id = transfer_id id (history s O L p) x e in
    let index = live_place p (history s O L p) found.0 x found.1 (ap (λ (i : List ℕ). is_live p i (history s O L p)) named ∙ live) in
    (index.0, index.1, named)
