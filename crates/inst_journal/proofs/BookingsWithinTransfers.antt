-- A sound history has no more bookings than taken and forwarded transfers.
use Rattle.std.proofs.Common.{◌≡◌, ℕ, ◌+◌, ◌≤◌, Bool, true, false, ◌==◌, cond, List, [], ◌∷◌, ◌++◌, inl, inr, Option, Some, None, sum_by, count_by, refl, sym, ap, ◌∙◌, subst, arith}
use Rattle.std.specs.List.{list_any}
use Rattle.std.specs.Cmp.Lexicographic.{same_text as text_same}
use Rattle.std.proofs.lemmas.Bool.{eqb-true, eq-eqb, and_parts, and_from, or_cases, false≢true}
use Rattle.std.proofs.lemmas.List.Sums.{sum_by-cons, sum_by-le-sum_by}
use Rattle.inst_settings.specs.Settings.{HubSettings, same_text}
use Rattle.inst_settings.proofs.CodeTellsNumber.{same_text_refl}
use Rattle.inst_command.specs.declared.outcome.Outcome.{Outcome}
use Rattle.inst_journal.specs.declared.event.Event.{Event}
use Rattle.inst_journal.specs.declared.event.Event.TheVariants.{Funded, Defunded, Taken, Forwarded, Booked, Fetched, Opened}
use Rattle.inst_journal.specs.Booked.{or_else, takes, is_taken, forwards, books, booked, own_booked, is_forwarding}
use Rattle.inst_journal.specs.Sums.{amount_unbooked}
use Rattle.inst_journal.specs.Sound.{Fits, IsSound}
use Rattle.inst_journal.proofs.OneMoreElement.{sum_by_push, first_some_push}
use Rattle.inst_journal.proofs.Soundness.{sound_induction}
use Rattle.inst_journal.proofs.OwnBookings.{own_booked-booked}
use Rattle.inst_journal.proofs.PaidAndReservedIsCovered.{own_push}
use Rattle.inst_journal.proofs.CountsOfEvents.{count_push, is_submission, submissions}

-- whether the event books anything
abbrev pub is_booking : Event → Bool
is_booking (Booked from id outcome) = true
is_booking _ = false

-- 1 for a transfer of the history with nothing booked
abbrev open_at : List Event → Event → ℕ
open_at J (Taken id to cents stamp) = amount_unbooked (own_booked id J) 1
open_at J (Forwarded from id cents deadline) = amount_unbooked (booked from id J) 1
open_at J (Funded funding) = 0
open_at J (Defunded funding) = 0
open_at J (Booked from id outcome) = 0
open_at J (Fetched count) = 0
open_at J Opened = 0

unbooked_le : (o : Option Outcome) → amount_unbooked o 1 ≤ 1
unbooked_le None = omega arith
unbooked_le (Some outcome) = omega arith

closed_le : (before new : Option Outcome) → amount_unbooked (or_else before new) 1 ≤ amount_unbooked before 1
closed_le None new = unbooked_le new
closed_le (Some outcome) new = omega arith

open_push : (s : HubSettings) (who : ℕ) (J : List Event) (new : Event) → IsSound s who J → Fits s who J new → (event : Event) → open_at (J ++ new ∷ []) event ≤ open_at J event
open_push s who J new sound fits (Taken id to cents stamp) =
    subst (λ (o : Option Outcome). amount_unbooked o 1 ≤ amount_unbooked (own_booked id J) 1) (sym (own_push s who J new id sound fits)) (closed_le (own_booked id J) (books who id new))
open_push s who J new sound fits (Forwarded from id cents deadline) =
    subst (λ (o : Option Outcome). amount_unbooked o 1 ≤ amount_unbooked (booked from id J) 1) (sym (first_some_push (books from id) J new)) (closed_le (booked from id J) (books from id new))
open_push s who J new sound fits (Funded funding) = omega arith
open_push s who J new sound fits (Defunded funding) = omega arith
open_push s who J new sound fits (Booked from id outcome) = omega arith
open_push s who J new sound fits (Fetched count) = omega arith
open_push s who J new sound fits Opened = omega arith

-- a sum that is smaller at some element that passes a test
smaller : (f g : Event → ℕ) (p : Event → Bool) (xs : List Event) → ((x : Event) → f x ≤ g x) → ((x : Event) → p x ≡ true → f x + 1 ≤ g x) → list_any p xs ≡ true → sum_by f xs + 1 ≤ sum_by g xs
smaller f g p [] le less any = absurd (false≢true any)
smaller f g p (x ∷ xs) le less any = elim (or_cases (p x) (list_any p xs) any) [
  | inl here ↦ omega (arith, sum_by-cons f x xs, sum_by-cons g x xs, less x here, sum_by-le-sum_by f g xs le)
  | inr later ↦ omega (arith, sum_by-cons f x xs, sum_by-cons g x xs, le x, smaller f g p xs le less later)
]

closing : (before new : Option Outcome) (outcome : Outcome) → before ≡ None → new ≡ Some outcome → amount_unbooked (or_else before new) 1 + 1 ≤ amount_unbooked before 1
closing before new outcome none some = rw (none, some) (omega arith)

pub books_itself : (from : ℕ) (id : List ℕ) (outcome : Outcome) → books from id (Booked from id outcome) ≡ Some outcome
books_itself from id outcome = ap (λ b. cond b (Some outcome) None) (and_from (from == from) (same_text id id) (eq-eqb from from refl) (same_text_refl id))

-- a booking closes the taken transfer that it is of
taken_closed : (s : HubSettings) (who : ℕ) (J : List Event) (id : List ℕ) (outcome : Outcome) → IsSound s who J → Fits s who J (Booked who id outcome)
    → (event : Event) → takes id event ≡ true → open_at (J ++ Booked who id outcome ∷ []) event + 1 ≤ open_at J event
taken_closed s who J id outcome sound fits (Taken other to cents stamp) same =
    let key : other ≡ id = text_same other id (sym same) in
    let nothing : own_booked other J ≡ None = ap (λ i. own_booked i J) key ∙ own_booked-booked s who J id sound ∙ fits.new in
    let new : books who other (Booked who id outcome) ≡ Some outcome = ap (λ i. books who i (Booked who id outcome)) key ∙ books_itself who id outcome in
    subst (λ (o : Option Outcome). amount_unbooked o 1 + 1 ≤ amount_unbooked (own_booked other J) 1) (sym (own_push s who J (Booked who id outcome) other sound fits))
    (closing (own_booked other J) (books who other (Booked who id outcome)) outcome nothing new)
taken_closed s who J id outcome sound fits (Forwarded from other cents deadline) same = absurd (false≢true same)
taken_closed s who J id outcome sound fits (Funded funding) same = absurd (false≢true same)
taken_closed s who J id outcome sound fits (Defunded funding) same = absurd (false≢true same)
taken_closed s who J id outcome sound fits (Booked from other o) same = absurd (false≢true same)
taken_closed s who J id outcome sound fits (Fetched count) same = absurd (false≢true same)
taken_closed s who J id outcome sound fits Opened same = absurd (false≢true same)

-- a booking closes the forwarded transfer that it is of
forwarded_closed : (s : HubSettings) (who : ℕ) (J : List Event) (from : ℕ) (id : List ℕ) (outcome : Outcome) → Fits s who J (Booked from id outcome)
    → (event : Event) → forwards from id event ≡ true → open_at (J ++ Booked from id outcome ∷ []) event + 1 ≤ open_at J event
forwarded_closed s who J from id outcome fits (Forwarded other_from other cents deadline) same =
    let key = and_parts (other_from == from) (same_text other id) same in
    let originator : other_from ≡ from = eqb-true other_from from key.0 in
    let text : other ≡ id = text_same other id (sym key.1) in
    let nothing : booked other_from other J ≡ None = ap (λ f. booked f other J) originator ∙ ap (λ i. booked from i J) text ∙ fits.new in
    let new : books other_from other (Booked from id outcome) ≡ Some outcome =
    ap (λ f. books f other (Booked from id outcome)) originator ∙ ap (λ i. books from i (Booked from id outcome)) text ∙ books_itself from id outcome in
    subst (λ (o : Option Outcome). amount_unbooked o 1 + 1 ≤ amount_unbooked (booked other_from other J) 1) (sym (first_some_push (books other_from other) J (Booked from id outcome)))
    (closing (booked other_from other J) (books other_from other (Booked from id outcome)) outcome nothing new)
forwarded_closed s who J from id outcome fits (Taken other to cents stamp) same = absurd (false≢true same)
forwarded_closed s who J from id outcome fits (Funded funding) same = absurd (false≢true same)
forwarded_closed s who J from id outcome fits (Defunded funding) same = absurd (false≢true same)
forwarded_closed s who J from id outcome fits (Booked other_from other o) same = absurd (false≢true same)
forwarded_closed s who J from id outcome fits (Fetched count) same = absurd (false≢true same)
forwarded_closed s who J from id outcome fits Opened same = absurd (false≢true same)

own_closes : (s : HubSettings) (who : ℕ) (J : List Event) (from : ℕ) (id : List ℕ) (outcome : Outcome) → IsSound s who J → Fits s who J (Booked from id outcome) → from ≡ who → is_taken id J ≡ true
    → sum_by (open_at (J ++ Booked from id outcome ∷ [])) J + 1 ≤ sum_by (open_at J) J
own_closes s who J from id outcome sound fits own taken =
    let Claim : ℕ → Type 0 = λ f. Fits s who J (Booked f id outcome) → sum_by (open_at (J ++ Booked f id outcome ∷ [])) J + 1 ≤ sum_by (open_at J) J in
    subst Claim (sym own)
    (λ fits'. smaller _ _ (takes id) J (open_push s who J (Booked who id outcome) sound fits') (taken_closed s who J id outcome sound fits') taken) fits

-- what a booking closes
booking_closes : (s : HubSettings) (who : ℕ) (J : List Event) (from : ℕ) (id : List ℕ) (outcome : Outcome) → IsSound s who J → Fits s who J (Booked from id outcome)
    → sum_by (open_at (J ++ Booked from id outcome ∷ [])) J + 1 ≤ sum_by (open_at J) J
booking_closes s who J from id outcome sound fits = elim fits.party [
  | inl own ↦ own_closes s who J from id outcome sound fits own.0 own.1
  | inr forwarded ↦
      smaller _ _ (forwards from id) J (open_push s who J (Booked from id outcome) sound fits) (forwarded_closed s who J from id outcome fits) forwarded
]

-- bookings and what is open make no more than the transfers there are
abbrev IsCounted : List Event → Type 0
IsCounted J = count_by is_booking J + sum_by (open_at J) J ≤ submissions J + count_by is_forwarding J

counted_new : (s : HubSettings) (who : ℕ) (J : List Event) (event : Event) → IsSound s who J → Fits s who J event
    → cond (is_booking event) 1 0 + (sum_by (open_at (J ++ event ∷ [])) J + open_at (J ++ event ∷ []) event) ≤ sum_by (open_at J) J + (cond (is_submission event) 1 0 + cond (is_forwarding event) 1 0)
counted_new s who J (Booked from id outcome) sound fits = omega (arith, booking_closes s who J from id outcome sound fits)
counted_new s who J (Taken id to cents stamp) sound fits =
    omega (arith, unbooked_le (own_booked id (J ++ Taken id to cents stamp ∷ [])), sum_by-le-sum_by _ _ J (open_push s who J (Taken id to cents stamp) sound fits))
counted_new s who J (Forwarded from id cents deadline) sound fits =
    omega (arith, unbooked_le (booked from id (J ++ Forwarded from id cents deadline ∷ [])), sum_by-le-sum_by _ _ J (open_push s who J (Forwarded from id cents deadline) sound fits))
counted_new s who J (Funded funding) sound fits = omega (arith, sum_by-le-sum_by _ _ J (open_push s who J (Funded funding) sound fits))
counted_new s who J (Defunded funding) sound fits = omega (arith, sum_by-le-sum_by _ _ J (open_push s who J (Defunded funding) sound fits))
counted_new s who J (Fetched count) sound fits = omega (arith, sum_by-le-sum_by _ _ J (open_push s who J (Fetched count) sound fits))
counted_new s who J Opened sound fits = omega (arith, sum_by-le-sum_by _ _ J (open_push s who J Opened sound fits))

-- no more bookings than taken and forwarded transfers
pub bookings_within : (s : HubSettings) (who : ℕ) (J : List Event) → IsSound s who J → IsCounted J
bookings_within s who = sound_induction s who IsCounted (omega arith)
    (λ J event sound fits before.
    omega (
      arith,
      count_push is_booking J event,
      count_push is_submission J event,
      count_push is_forwarding J event,
      sum_by_push (open_at (J ++ event ∷ [])) J event,
      counted_new s who J event sound fits,
    ))
