-- What a booking of a transfer that was found leaves of what waits, and where a transfer of the participant's own lies.
use Rattle.std.proofs.Common.{◌≡◌, ℕ, zero, suc, ◌≤◌, arith, Bool, true, false, not, ◌&&◌, ◌==◌, cond, List, [], ◌∷◌, ⊎_elim, refl, sym, ap, ◌∙◌, Option, Some, None, count_by}
use Rattle.std.specs.Prelude.{slice_get, nat_eq}
use Rattle.std.proofs.lemmas.Bool.{eqb-true, cases_Bool}
use Rattle.inst_command.specs.declared.outcome.Outcome.{Outcome}
use Rattle.inst_due.specs.Due.{has}
use Rattle.inst_settings.proofs.CodeTellsNumber.{same_text_refl}
use Rattle.inst_journal.specs.declared.event.Event.{Event}
use Rattle.inst_journal.specs.declared.event.Event.TheVariants.{Funded, Defunded, Taken, Forwarded, Booked, Fetched, Opened}
use Rattle.inst_journal.specs.Booked.{takes}
use Rattle.inst_journal.specs.Opened.{carried, takes_live, live_taken}
use Rattle.inst_journal.specs.Sound.{IsSound, Fits}
use Rattle.inst_journal.proofs.KeyOnce.{taken_once}
use Rattle.inst_ledger.specs.Book.{LedgerBook as Kept, ledger_with_event}
use Rattle.inst_slot.specs.inner.Answering.{IsOwnAt}
use Rattle.inst_slot.specs.Book.{place_at}
use Rattle.inst_ledger.specs.Right.{own_ids}
use Rattle.inst_slot.specs.Telling.{taken_by}
use Rattle.inst_slot.specs.Waiting.{Deadlines, IsRightSlot}
use Rattle.inst_slot.proofs.OwnTransfersThatWait.{books_at, books_another}
use Rattle.inst_slot.proofs.ArrivalGetsItsPlace.{step, fewer, counted}
use Rattle.inst_slot.proofs.OwnIds.{keeps_right, re_listed, own_taken}

-- one of the own waits no more
pub own_booked : (old new : Kept) (w v : Deadlines) (from : ℕ) (id : List ℕ) (index : ℕ) (o : Outcome) → IsRightSlot old.settings old.who old.events (own_ids old.who old.events) w → Fits old.settings old.who old.events (Booked from id o)
    → new ≡ ledger_with_event old (Booked from id o) → from ≡ old.who → IsOwnAt old id (place_at from index) → v.deadlines ≡ w.deadlines → ((d k : ℕ) → has v.pairs d k ≡ (has w.pairs d k && not (nat_eq k index)))
    → IsRightSlot new.settings new.who new.events (own_ids new.who new.events) v
own_booked old new w v from id index o right fits ok mine at same out =
    let ids = own_ids old.who old.events in
    re_listed (keeps_right old new ids w v (Booked from id o) right fits refl ok same old.who refl
    (books_at old.who (Booked from id o) from id o ids index w.pairs v.pairs refl mine at.at at.only out))

apart : (a b : ℕ) → (a ≡ b → ⊥) → (a == b) ≡ false
apart a b other = ⊎_elim (λ yes. absurd (other (eqb-true a b yes))) (λ no. no) (cases_Bool (a == b))

-- all of the own wait as before
pub another_booked : (old new : Kept) (w : Deadlines) (from : ℕ) (id : List ℕ) (o : Outcome) → IsRightSlot old.settings old.who old.events (own_ids old.who old.events) w → Fits old.settings old.who old.events (Booked from id o)
    → new ≡ ledger_with_event old (Booked from id o) → (from ≡ old.who → ⊥) → IsRightSlot new.settings new.who new.events (own_ids new.who new.events) w
another_booked old new w from id o right fits ok other =
    let ids = own_ids old.who old.events in
    re_listed (keeps_right old new ids w w (Booked from id o) right fits refl ok refl old.who refl
    (books_another old.who (Booked from id o) from id o ids w.pairs refl (apart from old.who other)))

-- what is counted at most once stands at one index
one_index : {X : Type 0} (p : X → Bool) (xs : List X) (i j : ℕ) (x y : X) → count_by p xs ≤ 1 → slice_get xs i ≡ Some x → slice_get xs j ≡ Some y → p x ≡ true → p y ≡ true → i ≡ j
one_index p [] i j x y once here there first second = let no : ⊥ = cc in absurd no
one_index p (z ∷ xs) zero zero x y once here there first second = refl
one_index p (z ∷ xs) zero (suc j) x y once here there first second =
    let same : z ≡ x = cc in
    let one : cond (p z) 1 0 ≡ 1 = ap {B = ℕ} (λ (b : Bool). cond b 1 0) (ap p same ∙ first) in
    absurd (omega (arith, once, step p z xs, one, counted p xs j y there second))
one_index p (z ∷ xs) (suc i) zero x y once here there first second =
    let same : z ≡ y = cc in
    let one : cond (p z) 1 0 ≡ 1 = ap {B = ℕ} (λ (b : Bool). cond b 1 0) (ap p same ∙ second) in
    absurd (omega (arith, once, step p z xs, one, counted p xs i x here first))
one_index p (z ∷ xs) (suc i) (suc j) x y once here there first second = ap suc (one_index p xs i j x y (omega (arith, once, step p z xs)) here there first second)

-- the submission whose identifier stands at an index
taken_there : (id : List ℕ) (o : Option Event) → taken_by o ≡ Some id → (x : Event) × (o ≡ Some x) × (takes id x ≡ true)
taken_there id None e = let no : ⊥ = cc in absurd no
taken_there id (Some (Taken other to cents stamp)) e = let same : other ≡ id = cc in (Taken other to cents stamp, refl, ap (λ (i : List ℕ). takes id (Taken i to cents stamp)) same ∙ same_text_refl id)
taken_there id (Some (Funded funding)) e = let no : ⊥ = cc in absurd no
taken_there id (Some (Defunded funding)) e = let no : ⊥ = cc in absurd no
taken_there id (Some (Forwarded from other cents d)) e = let no : ⊥ = cc in absurd no
taken_there id (Some (Booked from other o)) e = let no : ⊥ = cc in absurd no
taken_there id (Some (Fetched n)) e = let no : ⊥ = cc in absurd no
taken_there id (Some Opened) e = let no : ⊥ = cc in absurd no

-- an own transfer lies at one index
pub own_at : (book : Kept) (id : List ℕ) (index : ℕ) → IsSound book.settings book.who book.events → slice_get (own_ids book.who book.events) index ≡ Some id → IsOwnAt book id (place_at book.who index)
own_at book id index sound at = record {
  own = refl;
  at = at;
  only = λ k there.
      let L : List Event = live_taken book.who book.events in
      let x = taken_there id (slice_get L index) (sym (own_taken book.who book.events index) ∙ at) in
      let y = taken_there id (slice_get L k) (sym (own_taken book.who book.events k) ∙ there) in
      one_index (takes id) L index k x.0 y.0 (omega (arith, fewer (takes id) (takes_live book.who (carried book.events)) book.events, taken_once book.settings book.who id book.events sound)) x.1 y.1 x.2 y.2;
}

pub own_taken_at : (book : Kept) (id : List ℕ) (index : ℕ) (to cents stamp : ℕ) → IsSound book.settings book.who book.events → slice_get (live_taken book.who book.events) index ≡ Some (Taken id to cents stamp) → IsOwnAt book id (place_at book.who index)
own_taken_at book id index to cents stamp sound there = own_at book id index sound (own_taken book.who book.events index ∙ ap taken_by there)
