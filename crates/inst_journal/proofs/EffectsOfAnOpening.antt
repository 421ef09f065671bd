-- What an opening leaves as it was, and what it gives back.
use Rattle.std.proofs.Common.{◌≡◌, ℕ, ◌+◌, ◌-◌, Bool, false, ◌||◌, ◌&&◌, not, cond, List, [], ◌∷◌, ◌++◌, Some, None, is_none, sum_by, count_by, refl, ap, ◌∙◌, add-zero}
use Rattle.std.specs.List.{list_any}
use Rattle.std.proofs.lemmas.Bool.{eq-eqb}
use Rattle.inst_settings.specs.Settings.{HubSettings, same_text}
use Rattle.inst_journal.specs.declared.event.Event.{Event}
use Rattle.inst_journal.specs.declared.event.Event.TheVariants.{Funded, Defunded, Taken, Forwarded, Booked, Fetched, Opened}
use Rattle.inst_journal.specs.Booked.{first_some, takes, is_forwarded, forwards, books, booked, books_own, own_booked}
use Rattle.inst_journal.specs.Keys.{is_this_fund, is_this_defund, is_this_submission, refers, is_funding}
use Rattle.inst_journal.specs.Living.{IsLivingWithin, SameMoney, SameKeys, BeginsAnew}
use Rattle.inst_journal.specs.Money.{reserved, position}
use Rattle.inst_journal.specs.Opened.{carried}
use Rattle.inst_journal.specs.Sound.{IsSound}
use Rattle.inst_journal.specs.Sums.{funding, defunding, funded, defunded, if_accepted, amount_unbooked, credit, debit, reservation, credits, debits}
use Rattle.inst_journal.proofs.EventsCarriedOverOpening.{carried_opened, current_opened, carried_unbooked}
use Rattle.inst_journal.proofs.CountsOfEvents.{submissions_within, forwarded_within}
use Rattle.inst_journal.proofs.OneMoreElement.{list_any_push, sum_by_push, first_some_push, or-false, or_else-none}

-- what isn't booked is live, and no more than there are places
pub living_within : (s : HubSettings) (who : ℕ) (J : List Event) → IsSound s who J → IsLivingWithin s who J
living_within s who J sound = record {
  unbooked = λ from id none. ap is_none (carried_unbooked from id J none);
  counts_taken = λ id to cents stamp. refl;
  counts_forwarded = λ from id cents deadline. ap (λ b. b && is_none (booked from id (carried J))) (eq-eqb from from refl);
  submissions = submissions_within s who J sound;
  forwarded = λ from. forwarded_within s who from J sound;
}

-- a test that an opening doesn't pass, and a sum that it doesn't raise
tested : (p : Event → Bool) (J : List Event) → p Opened ≡ false → list_any p (J ++ Opened ∷ []) ≡ list_any p J
tested p J not_it = list_any_push p J Opened ∙ ap (λ b. list_any p J || b) not_it ∙ or-false (list_any p J)

summed : (f : Event → ℕ) (J : List Event) → f Opened ≡ 0 → sum_by f (J ++ Opened ∷ []) ≡ sum_by f J
summed f J nothing = sum_by_push f J Opened ∙ ap (λ n. sum_by f J + n) nothing ∙ add-zero (sum_by f J)

booked_opened : (from : ℕ) (id : List ℕ) (J : List Event) → booked from id (J ++ Opened ∷ []) ≡ booked from id J
booked_opened from id J = first_some_push (books from id) J Opened ∙ or_else-none (booked from id J)

forwarded_opened : (from : ℕ) (id : List ℕ) (J : List Event) → is_forwarded from id (J ++ Opened ∷ []) ≡ is_forwarded from id J
forwarded_opened from id J = tested (forwards from id) J refl

books_own_opened : (id : List ℕ) (J : List Event) (event : Event) → books_own (J ++ Opened ∷ []) id event ≡ books_own J id event
books_own_opened id J (Booked from other outcome) = ap (λ b. cond (same_text other id && not b) (Some outcome) None) (forwarded_opened from other J)
books_own_opened id J (Funded funding) = refl
books_own_opened id J (Defunded funding) = refl
books_own_opened id J (Taken other to cents stamp) = refl
books_own_opened id J (Forwarded from other cents deadline) = refl
books_own_opened id J (Fetched count) = refl
books_own_opened id J Opened = refl

own_opened : (id : List ℕ) (J : List Event) → own_booked id (J ++ Opened ∷ []) ≡ own_booked id J
own_opened id J =
    let same : books_own (J ++ Opened ∷ []) id ≡ books_own J id = λ k event. books_own_opened id J event k in
    ap (λ f. first_some f (J ++ Opened ∷ [])) same ∙ first_some_push (books_own J id) J Opened ∙ or_else-none (own_booked id J)

credit_opened : (J : List Event) (event : Event) → credit (J ++ Opened ∷ []) event ≡ credit J event
credit_opened J (Forwarded from id cents deadline) = ap (λ o. if_accepted o cents) (booked_opened from id J)
credit_opened J (Funded funding) = refl
credit_opened J (Defunded funding) = refl
credit_opened J (Taken id to cents stamp) = refl
credit_opened J (Booked from id outcome) = refl
credit_opened J (Fetched count) = refl
credit_opened J Opened = refl

debit_opened : (J : List Event) (event : Event) → debit (J ++ Opened ∷ []) event ≡ debit J event
debit_opened J (Taken id to cents stamp) = ap (λ o. if_accepted o cents) (own_opened id J)
debit_opened J (Funded funding) = refl
debit_opened J (Defunded funding) = refl
debit_opened J (Forwarded from id cents deadline) = refl
debit_opened J (Booked from id outcome) = refl
debit_opened J (Fetched count) = refl
debit_opened J Opened = refl

reservation_opened : (J : List Event) (event : Event) → reservation (J ++ Opened ∷ []) event ≡ reservation J event
reservation_opened J (Taken id to cents stamp) = ap (λ o. amount_unbooked o cents) (own_opened id J)
reservation_opened J (Funded funding) = refl
reservation_opened J (Defunded funding) = refl
reservation_opened J (Forwarded from id cents deadline) = refl
reservation_opened J (Booked from id outcome) = refl
reservation_opened J (Fetched count) = refl
reservation_opened J Opened = refl

-- a sum of what each event is, over a history and over it opened again
same_sum : (f g : Event → ℕ) (J : List Event) → ((event : Event) → f event ≡ g event) → g Opened ≡ 0 → sum_by f (J ++ Opened ∷ []) ≡ sum_by g J
same_sum f g J same nothing =
    let all : f ≡ g = λ k event. same event k in
    ap (λ h. sum_by h (J ++ Opened ∷ [])) all ∙ summed g J nothing

position_opened : (J : List Event) → position (J ++ Opened ∷ []) ≡ position J
position_opened J =
    let K : List Event = J ++ Opened ∷ [] in
    ap (λ f. f + credits K - (defunded K + debits K)) (summed funding J refl)
    ∙ ap (λ c. funded J + c - (defunded K + debits K)) (same_sum (credit K) (credit J) J (credit_opened J) refl)
    ∙ ap (λ d. funded J + credits J - (d + debits K)) (summed defunding J refl)
    ∙ ap (λ b. funded J + credits J - (defunded J + b)) (same_sum (debit K) (debit J) J (debit_opened J) refl)

reserved_opened : (J : List Event) → reserved (J ++ Opened ∷ []) ≡ reserved J
reserved_opened J = same_sum (reservation (J ++ Opened ∷ [])) (reservation J) J (reservation_opened J) refl

-- an opening moves no money
pub same_money : (J : List Event) → SameMoney J (J ++ Opened ∷ [])
same_money J = record {
  position = position_opened J;
  reserved = reserved_opened J;
  available =
      ap (λ p. p - reserved (J ++ Opened ∷ [])) (position_opened J) ∙ ap (λ r. position J - r) (reserved_opened J);
}

-- an opening keeps the keys
pub same_keys : (J : List Event) → SameKeys J (J ++ Opened ∷ [])
same_keys J = record {
  taken = λ id. tested (takes id) J refl;
  forwarded = λ from id. forwarded_opened from id J;
  booked = λ from id. booked_opened from id J;
  reference = λ reference. tested (refers reference) J refl;
  submission = λ x. tested (is_this_submission x) J refl;
  fund = λ funding. tested (is_this_fund funding) J refl;
  defund = λ funding. tested (is_this_defund funding) J refl;
}

-- an opening gives back what is settled
pub begins_anew : (J : List Event) → BeginsAnew J (J ++ Opened ∷ [])
begins_anew J = record {
  live = λ from id. ap (λ C. is_none (booked from id C)) (carried_opened J) ∙ ap is_none (booked_opened from id J);
  fundings = ap (count_by is_funding) (current_opened J);
}
