-- What waits of a participant's own live transfers, as its history grows.
use Rattle.std.proofs.Common.{◌≡◌, ℕ, zero, suc, arith, Bool, true, false, not, ◌&&◌, ◌||◌, ◌==◌, cond, List, [], ◌∷◌, ◌++◌, length, ⊎_elim, refl, sym, ap, ◌∙◌, Option, Some, None, is_none}
use Rattle.std.specs.Prelude.{slice_get, map, nat_eq}
use Rattle.std.specs.List.{filter}
use Rattle.std.proofs.lemmas.Bool.{false≢true, cases_Bool, eqb-true, eq-eqb}
use Rattle.std.proofs.lemmas.Bool.Decides.{nat_tests}
use Rattle.std.specs.Cmp.Lexicographic.{same_text as text_same}
use Rattle.inst_base.specs.TimeLimit.{deadline_of}
use Rattle.inst_settings.specs.Settings.{HubSettings, same_text}
use Rattle.inst_settings.proofs.CodeTellsNumber.{same_text_refl}
use Rattle.inst_command.specs.declared.outcome.Outcome.{Outcome}
use Rattle.inst_due.specs.Due.{has}
use Rattle.inst_journal.specs.declared.event.Event.{Event}
use Rattle.inst_journal.specs.declared.event.Event.TheVariants.{Funded, Defunded, Taken, Forwarded, Booked, Fetched, Opened}
use Rattle.inst_journal.specs.Booked.{booked, books, or_else}
use Rattle.inst_journal.specs.Opened.{takes_live}
use Rattle.inst_journal.proofs.OneMoreElement.{first_some_push}
use Rattle.inst_slot.specs.Telling.{taken_by}
use Rattle.inst_slot.specs.Waiting.{takes_waiting, deadline_in}
use Rattle.inst_journal.proofs.OwnBookings.{and-false}

-- whether the event books the own transfer with this identifier
abbrev pub books_own : ℕ → Event → Option (List ℕ) → Bool
books_own who (Booked from id outcome) (Some other) = (from == who) && same_text id other
books_own who event other = false

-- what one more event leaves of what waits
none_or : (a b : Option Outcome) → is_none (or_else a b) ≡ (is_none a && is_none b)
none_or None b = refl
none_or (Some x) b = refl

none_if : (b : Bool) (o : Outcome) → is_none (cond b (Some o) None) ≡ not b
none_if true o = refl
none_if false o = refl

own_books : (who : ℕ) (id : List ℕ) (e : Event) → is_none (books who id e) ≡ not (books_own who e (Some id))
own_books who id (Booked from other o) = none_if ((from == who) && same_text other id) o
own_books who id (Funded funding) = refl
own_books who id (Defunded funding) = refl
own_books who id (Taken other to cents stamp) = refl
own_books who id (Forwarded from other cents d) = refl
own_books who id (Fetched n) = refl
own_books who id Opened = refl

last_and : (a b c : Bool) → ((a && b) && c) ≡ ((a && c) && b)
last_and true true true = refl
last_and true true false = refl
last_and true false true = refl
last_and true false false = refl
last_and false b c = refl

pub waiting_after : (s : HubSettings) (who : ℕ) (J : List Event) (e : Event) (d : ℕ) (o : Option Event) → takes_waiting s who (J ++ e ∷ []) d o ≡ (takes_waiting s who J d o && not (books_own who e (taken_by o)))
waiting_after s who J e d None = refl
waiting_after s who J e d (Some (Taken id to cents stamp)) =
    let t : Bool = nat_eq d (deadline_of s.limit stamp) in
    ap (λ (x : Option Outcome). is_none x && t) (first_some_push (books who id) J e)
    ∙ ap (λ (b : Bool). b && t) (none_or (booked who id J) (books who id e) ∙ ap (λ (b : Bool). is_none (booked who id J) && b) (own_books who id e))
    ∙ last_and (is_none (booked who id J)) (not (books_own who e (Some id))) t
waiting_after s who J e d (Some (Funded funding)) = refl
waiting_after s who J e d (Some (Defunded funding)) = refl
waiting_after s who J e d (Some (Forwarded from other cents x)) = refl
waiting_after s who J e d (Some (Booked from other o)) = refl
waiting_after s who J e d (Some (Fetched n)) = refl
waiting_after s who J e d (Some Opened) = refl

same_number : (a b : ℕ) → a ≡ b → nat_eq a b ≡ true
same_number a b e = eq-eqb a b e

-- a booking takes out what it books
pub books_step : (who : ℕ) (from : ℕ) (id : List ℕ) (ids : List (List ℕ)) (index : ℕ) (outcome : Outcome) → from ≡ who → slice_get ids index ≡ Some id → ((k : ℕ) → slice_get ids k ≡ Some id → index ≡ k)
    → (k : ℕ) (o : Option (List ℕ)) → slice_get ids k ≡ o → nat_eq k index ≡ books_own who (Booked from id outcome) o
books_step who from id ids index outcome own at only k None e = ⊎_elim
    (λ yes. let both : None ≡ Some id = sym e ∙ ap (slice_get ids) (eqb-true k index yes) ∙ at in let no : ⊥ = cc in absurd no)
    (λ no. no)
    (cases_Bool (nat_eq k index))
books_step who from id ids index outcome own at only k (Some other) e = ⊎_elim
    (λ yes.
    let both : Some other ≡ Some id = sym e ∙ ap (slice_get ids) (eqb-true k index yes) ∙ at in
    let same : other ≡ id = cc in
    yes ∙ sym (ap (λ (l : List ℕ). (from == who) && same_text id l) same ∙ ap (λ (b : Bool). (from == who) && b) (same_text_refl id) ∙ ap (λ (b : Bool). b && true) (same_number from who own)))
    (λ no. no ∙ sym (ap (λ (b : Bool). (from == who) && b) (differs no) ∙ and_no (from == who)))
    (cases_Bool (nat_eq k index))
  where
    and_no : (b : Bool) → (b && false) ≡ false
    and_no true = refl
    and_no false = refl

    differs : nat_eq k index ≡ false → same_text id other ≡ false
    differs elsewhere = ⊎_elim
        (λ yes.
        let here : slice_get ids k ≡ Some id = e ∙ ap (λ (l : List ℕ). Some l) (sym (text_same id other (sym yes))) in
        absurd (false≢true (sym elsewhere ∙ same_number k index (sym (only k here)))))
        (λ other_one. other_one)
        (cases_Bool (same_text id other))

pub books_at : (who : ℕ) (event : Event) (from : ℕ) (id : List ℕ) (outcome : Outcome) (ids : List (List ℕ)) (index : ℕ) (old new : List (ℕ × ℕ)) → event ≡ Booked from id outcome → from ≡ who → slice_get ids index ≡ Some id
    → ((k : ℕ) → slice_get ids k ≡ Some id → index ≡ k) → ((d k : ℕ) → has new d k ≡ (has old d k && not (nat_eq k index)))
    → (d k : ℕ) → has new d k ≡ (has old d k && not (books_own who event (slice_get ids k)))
books_at who event from id outcome ids index old new is own at only out d k =
    out d k ∙ ap (λ (b : Bool). has old d k && not b) (books_step who from id ids index outcome own at only k (slice_get ids k) refl)
    ∙ ap (λ (e : Event). has old d k && not (books_own who e (slice_get ids k))) (sym is)

and_true : (h b : Bool) → b ≡ false → h ≡ (h && not b)
and_true true b e = sym (ap not e)
and_true false b e = refl

own_none : (who : ℕ) (event : Event) (o : Option (List ℕ)) → ((from : ℕ) (id : List ℕ) (outcome : Outcome) → event ≡ Booked from id outcome → ⊥) → books_own who event o ≡ false
own_none who (Booked from id outcome) o other = absurd (other from id outcome refl)
own_none who (Funded funding) o other = refl
own_none who (Defunded funding) o other = refl
own_none who (Taken id to cents stamp) o other = refl
own_none who (Forwarded from id cents d) o other = refl
own_none who (Fetched n) o other = refl
own_none who Opened o other = refl

-- no booking
pub books_nothing : (who : ℕ) (event : Event) (ids : List (List ℕ)) (old : List (ℕ × ℕ)) → ((from : ℕ) (id : List ℕ) (outcome : Outcome) → event ≡ Booked from id outcome → ⊥)
    → (d k : ℕ) → has old d k ≡ (has old d k && not (books_own who event (slice_get ids k)))
books_nothing who event ids old other d k = and_true (has old d k) (books_own who event (slice_get ids k)) (own_none who event (slice_get ids k) other)

other_own : (who from : ℕ) (id : List ℕ) (outcome : Outcome) (o : Option (List ℕ)) → (from == who) ≡ false → books_own who (Booked from id outcome) o ≡ false
other_own who from id outcome None other = refl
other_own who from id outcome (Some x) other = ap (λ (b : Bool). b && same_text id x) other

-- a booking of another's transfer
pub books_another : (who : ℕ) (event : Event) (from : ℕ) (id : List ℕ) (outcome : Outcome) (ids : List (List ℕ)) (old : List (ℕ × ℕ)) → event ≡ Booked from id outcome → (from == who) ≡ false
    → (d k : ℕ) → has old d k ≡ (has old d k && not (books_own who event (slice_get ids k)))
books_another who event from id outcome ids old is other d k =
    and_true (has old d k) (books_own who event (slice_get ids k)) (ap (λ (e : Event). books_own who e (slice_get ids k)) is ∙ other_own who from id outcome (slice_get ids k) other)

-- the end of a list
pub and_true_is : (b : Bool) → b ≡ (b && true)
and_true_is true = refl
and_true_is false = refl

or_false_is : (b : Bool) → b ≡ (b || false)
or_false_is true = refl
or_false_is false = refl

pub taken_books_none : (who : ℕ) (id : List ℕ) (to cents stamp : ℕ) (o : Option (List ℕ)) → books_own who (Taken id to cents stamp) o ≡ false
taken_books_none who id to cents stamp o = refl

zero_apart : (n : ℕ) → nat_eq 0 (suc n) ≡ false
zero_apart n = grind (arith, nat_tests)

suc_apart : (n : ℕ) → nat_eq (suc n) 0 ≡ false
suc_apart n = grind (arith, nat_tests)

suc_same : (m n : ℕ) → nat_eq (suc m) (suc n) ≡ nat_eq m n
suc_same m n = grind (arith, nat_tests)

pub at_end : (s : HubSettings) (who : ℕ) (K : List Event) (d : ℕ) (e : Event) (L : List Event) (k : ℕ)
    → takes_waiting s who K d (slice_get (L ++ e ∷ []) k) ≡ (takes_waiting s who K d (slice_get L k) || (takes_waiting s who K d (Some e) && nat_eq k (length L)))
at_end s who K d e [] zero = and_true_is (takes_waiting s who K d (Some e))
at_end s who K d e [] (suc k) = sym (ap (λ (b : Bool). takes_waiting s who K d (Some e) && b) (suc_apart k) ∙ and-false (takes_waiting s who K d (Some e)))
at_end s who K d e (x ∷ L) zero =
    or_false_is (takes_waiting s who K d (Some x))
    ∙ ap (λ (b : Bool). takes_waiting s who K d (Some x) || b) (sym (ap (λ (b : Bool). takes_waiting s who K d (Some e) && b) (zero_apart (length L)) ∙ and-false (takes_waiting s who K d (Some e))))
at_end s who K d e (x ∷ L) (suc k) =
    at_end s who K d e L k ∙ ap (λ (b : Bool). takes_waiting s who K d (slice_get L k) || (takes_waiting s who K d (Some e) && b)) (sym (suc_same k (length L)))

-- whether the deadline is this one
abbrev pub at_deadline : ℕ → Option ℕ → Bool
at_deadline d None = false
at_deadline d (Some x) = nat_eq d x

pub deadline_more : (d x : ℕ) (D : List ℕ) (k : ℕ) → at_deadline d (slice_get (D ++ x ∷ []) k) ≡ (at_deadline d (slice_get D k) || (nat_eq d x && nat_eq k (length D)))
deadline_more d x [] zero = and_true_is (nat_eq d x)
deadline_more d x [] (suc k) = sym (ap (λ (b : Bool). nat_eq d x && b) (suc_apart k) ∙ and-false (nat_eq d x))
deadline_more d x (y ∷ D) zero =
    or_false_is (nat_eq d y) ∙ ap (λ (b : Bool). nat_eq d y || b) (sym (ap (λ (b : Bool). nat_eq d x && b) (zero_apart (length D)) ∙ and-false (nat_eq d x)))
deadline_more d x (y ∷ D) (suc k) = deadline_more d x D k ∙ ap (λ (b : Bool). at_deadline d (slice_get D k) || (nat_eq d x && b)) (sym (suc_same k (length D)))

live_step : (s : HubSettings) (who : ℕ) (J : List Event) (d : ℕ) (e : Event) (L : List Event) (b : Bool) → (b ≡ true → nat_eq d (deadline_in s e) ≡ takes_waiting s who J d (Some e))
    → ((k : ℕ) → at_deadline d (slice_get (map (deadline_in s) L) k) ≡ takes_waiting s who J d (slice_get L k))
    → (k : ℕ) → at_deadline d (slice_get (map (deadline_in s) (cond b (e ∷ L) L)) k) ≡ takes_waiting s who J d (slice_get (cond b (e ∷ L) L) k)
live_step s who J d e L false here rest k = rest k
live_step s who J d e L true here rest zero = here refl
live_step s who J d e L true here rest (suc k) = rest k

-- what is carried over an opening waits
pub carried_waits : (s : HubSettings) (who : ℕ) (J : List Event) (d : ℕ) (K : List Event) (k : ℕ)
    → at_deadline d (slice_get (map (deadline_in s) (filter (takes_live who J) K)) k) ≡ takes_waiting s who J d (slice_get (filter (takes_live who J) K) k)
carried_waits s who J d [] k = refl
carried_waits s who J d (Taken id to cents stamp ∷ K) k = live_step s who J d (Taken id to cents stamp) (filter (takes_live who J) K) (is_none (booked who id J))
    (λ none. ap (λ (b : Bool). b && nat_eq d (deadline_of s.limit stamp)) (sym none)) (carried_waits s who J d K) k
carried_waits s who J d (Funded funding ∷ K) k = carried_waits s who J d K k
carried_waits s who J d (Defunded funding ∷ K) k = carried_waits s who J d K k
carried_waits s who J d (Forwarded from other cents x ∷ K) k = carried_waits s who J d K k
carried_waits s who J d (Booked from other o ∷ K) k = carried_waits s who J d K k
carried_waits s who J d (Fetched n ∷ K) k = carried_waits s who J d K k
carried_waits s who J d (Opened ∷ K) k = carried_waits s who J d K k
