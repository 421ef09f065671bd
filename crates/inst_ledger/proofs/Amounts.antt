-- What one more event that fits does to each sum of a sound history.
use Rattle.std.proofs.Common.{◌≡◌, ℕ, ◌+◌, Bool, true, false, ◌==◌, ◌||◌, ◌&&◌, cond, List, [], ◌∷◌, ◌++◌, ◌⊎◌, inl, inr, Option, Some, None, sum_by, refl, sym, ap, ◌∙◌, arith, add-zero}
use Rattle.std.specs.Cmp.{nat_eq_equiv}
use Rattle.std.specs.Cmp.Lexicographic.{same_text as text_same, nat_list_eq_equiv}
use Rattle.std.proofs.lemmas.Bool.{eqb-true, eq-eqb, true≢false}
use Rattle.std.proofs.lemmas.List.Sums.{sum_by-cons}
use Rattle.inst_settings.specs.Settings.{HubSettings, same_text}
use Rattle.inst_command.specs.declared.outcome.Outcome.{Outcome}
use Rattle.inst_command.specs.declared.submission.Submission.{Submission}
use Rattle.inst_command.specs.declared.outcome.Outcome.TheVariants.{Accepted, Rejected, TimedOut}
use Rattle.inst_journal.specs.declared.event.Event.{Event}
use Rattle.inst_journal.specs.declared.event.Event.TheVariants.{Funded, Defunded, Taken, Forwarded, Booked, Fetched, Opened}
use Rattle.inst_journal.specs.Booked.{or_else, first_some, takes, is_taken, forwards, is_forwarded, books, booked, own_booked}
use Rattle.inst_journal.specs.Sums.{if_accepted, amount_unbooked, credit, debit, reservation, credits, debits}
use Rattle.inst_journal.specs.Keys.{is_this_submission, is_submission_repeat}
use Rattle.inst_journal.specs.Money.{reserved}
use Rattle.inst_journal.specs.Sound.{Fits, IsSound}
use Rattle.inst_journal.proofs.OneMoreElement.{sum_by_push, sum_by-both, first_some_push, list_any_push, or_else-none}
use Rattle.inst_journal.proofs.Soundness.{sound_induction}
use Rattle.inst_journal.proofs.OwnBookings.{own_unforwarded, own_booked-booked}
use Rattle.inst_journal.proofs.PaidAndReservedIsCovered.{own_push}
use Rattle.inst_journal.proofs.PlacesOfTakenAmounts.{sum_same}
use Rattle.inst_ledger.specs.declared.sending.Sending.{Sending}
use Rattle.inst_ledger.specs.Kept.{sending_of}
use Rattle.inst_ledger.specs.inner.Kept.{cents_sent, is_sending}
use Rattle.inst_ledger.proofs.Tables.{sending_absent}

-- an event that books nothing of the participant's own leaves what each taken transfer counts for
module _ (s : HubSettings) (who : ℕ) (J : List Event) (new : Event) (sound : IsSound s who J) (fits : Fits s who J new) (quiet : (id : List ℕ) → books who id new ≡ None) where
  pub quiet_own : (id : List ℕ) → own_booked id (J ++ new ∷ []) ≡ own_booked id J
  quiet_own id = own_push s who J new id sound fits ∙ ap (or_else (own_booked id J)) (quiet id) ∙ or_else-none (own_booked id J)

  quiet_debit : (event : Event) → debit (J ++ new ∷ []) event ≡ debit J event
  quiet_debit (Taken id to cents stamp) = ap (λ o. if_accepted o cents) (quiet_own id)
  quiet_debit (Forwarded from id cents deadline) = refl
  quiet_debit (Funded funding) = refl
  quiet_debit (Defunded funding) = refl
  quiet_debit (Booked from id outcome) = refl
  quiet_debit (Fetched count) = refl
  quiet_debit Opened = refl

  quiet_reservation : (event : Event) → reservation (J ++ new ∷ []) event ≡ reservation J event
  quiet_reservation (Taken id to cents stamp) = ap (λ o. amount_unbooked o cents) (quiet_own id)
  quiet_reservation (Forwarded from id cents deadline) = refl
  quiet_reservation (Funded funding) = refl
  quiet_reservation (Defunded funding) = refl
  quiet_reservation (Booked from id outcome) = refl
  quiet_reservation (Fetched count) = refl
  quiet_reservation Opened = refl

  pub quiet_debits : debits (J ++ new ∷ []) ≡ debits J + debit (J ++ new ∷ []) new
  quiet_debits = sum_by_push (debit (J ++ new ∷ [])) J new ∙ ap (λ n. n + debit (J ++ new ∷ []) new) (sum_same _ _ J quiet_debit)

  pub quiet_reserved : reserved (J ++ new ∷ []) ≡ reserved J + reservation (J ++ new ∷ []) new
  quiet_reserved = sum_by_push (reservation (J ++ new ∷ [])) J new ∙ ap (λ n. n + reservation (J ++ new ∷ []) new) (sum_same _ _ J quiet_reservation)

-- an event that books nothing leaves what each forwarded transfer counts for
module _ (J : List Event) (new : Event) (quiet : (from : ℕ) (id : List ℕ) → books from id new ≡ None) where
  pub quiet_booked : (from : ℕ) (id : List ℕ) → booked from id (J ++ new ∷ []) ≡ booked from id J
  quiet_booked from id = first_some_push (books from id) J new ∙ ap (or_else (booked from id J)) (quiet from id) ∙ or_else-none (booked from id J)

  quiet_credit : (event : Event) → credit (J ++ new ∷ []) event ≡ credit J event
  quiet_credit (Forwarded from id cents deadline) = ap (λ o. if_accepted o cents) (quiet_booked from id)
  quiet_credit (Taken id to cents stamp) = refl
  quiet_credit (Funded funding) = refl
  quiet_credit (Defunded funding) = refl
  quiet_credit (Booked from id outcome) = refl
  quiet_credit (Fetched count) = refl
  quiet_credit Opened = refl

  pub quiet_credits : credits (J ++ new ∷ []) ≡ credits J + credit (J ++ new ∷ []) new
  quiet_credits = sum_by_push (credit (J ++ new ∷ [])) J new ∙ ap (λ n. n + credit (J ++ new ∷ []) new) (sum_same _ _ J quiet_credit)

-- nothing is booked of an own transfer that isn't taken
unbooked_new : (s : HubSettings) (who : ℕ) (id : List ℕ) (J : List Event) (event : Event) → IsSound s who J → Fits s who J event → is_taken id J ≡ false → books who id event ≡ None
unbooked_new s who id J (Booked from other outcome) sound fits untaken = elim fits.party [
  | inl own ↦ other_key own.1 (same_text other id) refl
  | inr forwarded ↦ other_from (from == who) refl forwarded
]
  where
    pick : Bool → Option Outcome
    pick b = cond b (Some outcome) None

    off : (b : Bool) → (b && false) ≡ false
    off true = refl
    off false = refl

    other_key : is_taken other J ≡ true → (b : Bool) → same_text other id ≡ b → pick ((from == who) && same_text other id) ≡ None
    other_key taken true same = absurd (true≢false (sym taken ∙ ap (λ i. is_taken i J) (text_same other id (sym same)) ∙ untaken))
    other_key taken false same = ap (λ b. pick ((from == who) && b)) same ∙ ap pick (off (from == who))

    other_from : (b : Bool) → (from == who) ≡ b → is_forwarded from other J ≡ true → pick ((from == who) && same_text other id) ≡ None
    other_from true own forwarded = absurd (true≢false (sym forwarded ∙ ap (λ f. is_forwarded f other J) (eqb-true from who own) ∙ own_unforwarded s who other J sound))
    other_from false own forwarded = ap (λ b. pick (b && same_text other id)) own
unbooked_new s who id J (Taken other to cents stamp) sound fits untaken = refl
unbooked_new s who id J (Funded funding) sound fits untaken = refl
unbooked_new s who id J (Defunded funding) sound fits untaken = refl
unbooked_new s who id J (Forwarded from other cents deadline) sound fits untaken = refl
unbooked_new s who id J (Fetched count) sound fits untaken = refl
unbooked_new s who id J Opened sound fits untaken = refl

pub or_parts : (a b : Bool) → (a || b) ≡ false → (a ≡ false) × (b ≡ false)
or_parts true b h = absurd (true≢false h)
or_parts false b h = (refl, h)

pub untaken_unbooked : (s : HubSettings) (who : ℕ) (id : List ℕ) (J : List Event) → IsSound s who J → is_taken id J ≡ false → booked who id J ≡ None
untaken_unbooked s who id = sound_induction s who (λ J. is_taken id J ≡ false → booked who id J ≡ None) (λ _. refl)
    (λ J event sound fits before untaken.
    let parts = or_parts (is_taken id J) (takes id event) (sym (list_any_push (takes id) J event) ∙ untaken) in
    first_some_push (books who id) J event ∙ ap (λ o. or_else o (books who id event)) (before parts.0) ∙ unbooked_new s who id J event sound fits parts.0)

-- the amounts of all events that take an identifier are the amount of the first
abbrev pub at : List ℕ → Event → ℕ
at id event = cents_sent (sending_of id event)

cents_or : (o p : Option Sending) → (p ≡ None) ⊎ (o ≡ None) → cents_sent (or_else o p) ≡ cents_sent o + cents_sent p
cents_or o p either = elim either [
  | inl none ↦
      ap (λ p'. cents_sent (or_else o p')) none ∙ ap cents_sent (or_else-none o) ∙ sym (add-zero (cents_sent o)) ∙ ap (λ p'. cents_sent o + cents_sent p') (sym none)
  | inr none ↦ ap (λ o'. cents_sent (or_else o' p)) none ∙ omega (arith, ap cents_sent none)
]

pub once_new : (s : HubSettings) (who : ℕ) (id : List ℕ) (J : List Event) (event : Event) → Fits s who J event → (sending_of id event ≡ None) ⊎ (first_some (sending_of id) J ≡ None)
once_new s who id J (Taken other to cents stamp) fits = by (same_text other id) refl
  where
    by : (b : Bool) → same_text other id ≡ b → (sending_of id (Taken other to cents stamp) ≡ None) ⊎ (first_some (sending_of id) J ≡ None)
    by true same = inr (sending_absent other id J fits.new same)
    by false same = inl (ap (λ b. cond {A = Option Sending} b (Some (record { to = to; cents = cents; stamp = stamp })) None) same)
once_new s who id J (Funded funding) fits = inl refl
once_new s who id J (Defunded funding) fits = inl refl
once_new s who id J (Forwarded from other cents deadline) fits = inl refl
once_new s who id J (Booked from other outcome) fits = inl refl
once_new s who id J (Fetched count) fits = inl refl
once_new s who id J Opened fits = inl refl

pub taken_once : (s : HubSettings) (who : ℕ) (id : List ℕ) (J : List Event) → IsSound s who J → sum_by (at id) J ≡ cents_sent (first_some (sending_of id) J)
taken_once s who id = sound_induction s who (λ J. sum_by (at id) J ≡ cents_sent (first_some (sending_of id) J)) refl
    (λ J event sound fits before.
    sum_by_push (at id) J event ∙ ap (λ n. n + at id event) before
    ∙ sym (ap cents_sent (first_some_push (sending_of id) J event) ∙ cents_or (first_some (sending_of id) J) (sending_of id event) (once_new s who id J event fits)))

-- a submission is a repeat where the very same is found to be sent
repeat_or : (x : Submission) (o p : Option Sending) → (p ≡ None) ⊎ (o ≡ None) → (is_sending x o || is_sending x p) ≡ is_sending x (or_else o p)
repeat_or x o p either = elim either [
  | inl none ↦ ap (λ p'. is_sending x o || is_sending x p') none ∙ off (is_sending x o) ∙ sym (ap (λ p'. is_sending x (or_else o p')) none ∙ ap (is_sending x) (or_else-none o))
  | inr none ↦ ap (λ o'. is_sending x o' || is_sending x p) none ∙ sym (ap (λ o'. is_sending x (or_else o' p)) none)
]
  where
    off : (b : Bool) → (b || false) ≡ b
    off true = refl
    off false = refl

repeats_sending : (x : Submission) (event : Event) → is_this_submission x event ≡ is_sending x (sending_of x.id event)
repeats_sending x (Taken other other_to other_cents other_stamp) = by (same_text other x.id)
  where
    by : (b : Bool) → (b && (other_to == x.to) && (other_cents == x.cents) && (other_stamp == x.stamp)) ≡ is_sending x (cond b (Some (record { to = other_to; cents = other_cents; stamp = other_stamp })) None)
    by true = refl
    by false = refl
repeats_sending x (Funded funding) = refl
repeats_sending x (Defunded funding) = refl
repeats_sending x (Forwarded from other amount deadline) = refl
repeats_sending x (Booked from other outcome) = refl
repeats_sending x (Fetched count) = refl
repeats_sending x Opened = refl

pub repeat_found : (s : HubSettings) (who : ℕ) (x : Submission) (J : List Event) → IsSound s who J → is_submission_repeat x J ≡ is_sending x (first_some (sending_of x.id) J)
repeat_found s who x = sound_induction s who (λ J. is_submission_repeat x J ≡ is_sending x (first_some (sending_of x.id) J)) refl
    (λ J event sound fits before.
    list_any_push (is_this_submission x) J event ∙ ap (λ b. b || is_this_submission x event) before
    ∙ ap (λ b. is_sending x (first_some (sending_of x.id) J) || b) (repeats_sending x event)
    ∙ repeat_or x (first_some (sending_of x.id) J) (sending_of x.id event) (once_new s who x.id J event fits)
    ∙ ap (is_sending x) (sym (first_some_push (sending_of x.id) J event)))

pub accepted_none : (outcome : Outcome) → if_accepted (Some outcome) 0 ≡ 0
accepted_none Accepted = refl
accepted_none (Rejected reason) = refl
accepted_none TimedOut = refl

sum_zero : (xs : List Event) → sum_by (λ e. 0) xs ≡ 0
sum_zero [] = refl
sum_zero (x ∷ xs) = omega (arith, sum_by-cons (λ e. 0) x xs, sum_zero xs)

pub sum_accepted : (outcome : Outcome) (f : Event → ℕ) (xs : List Event) → sum_by (λ e. if_accepted (Some outcome) (f e)) xs ≡ if_accepted (Some outcome) (sum_by f xs)
sum_accepted Accepted f xs = refl
sum_accepted (Rejected reason) f xs = sum_zero xs
sum_accepted TimedOut f xs = sum_zero xs

eq_flip : (a b : ℕ) → (a == b) ≡ (b == a)
eq_flip a b = nat_eq_equiv.symm a b

-- the participant books the outcome of an own transfer
module _ (s : HubSettings) (who : ℕ) (J : List Event) (id : List ℕ) (outcome : Outcome) (sound : IsSound s who J) (fits : Fits s who J (Booked who id outcome)) where
  abbrev new : Event
  new = Booked who id outcome

  abbrev pick : Bool → Option Outcome
  pick b = cond b (Some outcome) None

  nothing : own_booked id J ≡ None
  nothing = own_booked-booked s who J id sound ∙ fits.new

  books_key : (other : List ℕ) → books who other new ≡ pick (same_text other id)
  books_key other = ap (λ b. pick (b && same_text id other)) (eq-eqb who who refl) ∙ ap pick (nat_list_eq_equiv.symm id other)

  own_after : (other : List ℕ) → own_booked other (J ++ new ∷ []) ≡ or_else (own_booked other J) (pick (same_text other id))
  own_after other = own_push s who J new other sound fits ∙ ap (or_else (own_booked other J)) (books_key other)

  reserved_at : (other : List ℕ) (cents : ℕ) (b : Bool) → (b ≡ true → own_booked other J ≡ None) → amount_unbooked (own_booked other J) cents ≡ amount_unbooked (or_else (own_booked other J) (pick b)) cents + cond b cents 0
  reserved_at other cents true none = rw (none refl) (omega arith)
  reserved_at other cents false none = rw (or_else-none (own_booked other J)) (omega arith)

  debited_at : (other : List ℕ) (cents : ℕ) (b : Bool) → (b ≡ true → own_booked other J ≡ None) → if_accepted (or_else (own_booked other J) (pick b)) cents ≡ if_accepted (own_booked other J) cents + if_accepted (Some outcome) (cond b cents 0)
  debited_at other cents true none = rw (none refl) (omega arith)
  debited_at other cents false none = rw (or_else-none (own_booked other J), accepted_none outcome) (omega arith)

  none_at : (other : List ℕ) → same_text other id ≡ true → own_booked other J ≡ None
  none_at other same = ap (λ i. own_booked i J) (text_same other id (sym same)) ∙ nothing

  at_cond : (other : List ℕ) (to cents stamp : ℕ) → cond (same_text other id) cents 0 ≡ at id (Taken other to cents stamp)
  at_cond other to cents stamp = by (same_text other id)
    where
      by : (b : Bool) → cond b cents 0 ≡ cents_sent (cond b (Some (record { to = to; cents = cents; stamp = stamp })) None)
      by true = refl
      by false = refl

  released : (event : Event) → reservation J event ≡ reservation (J ++ new ∷ []) event + at id event
  released (Taken other to cents stamp) =
      reserved_at other cents (same_text other id) (none_at other)
      ∙ ap (λ o. amount_unbooked o cents + cond (same_text other id) cents 0) (sym (own_after other))
      ∙ ap (λ n. amount_unbooked (own_booked other (J ++ new ∷ [])) cents + n) (at_cond other to cents stamp)
  released (Funded funding) = refl
  released (Defunded funding) = refl
  released (Forwarded from other cents deadline) = refl
  released (Booked from other o) = refl
  released (Fetched count) = refl
  released Opened = refl

  debited : (event : Event) → debit (J ++ new ∷ []) event ≡ debit J event + if_accepted (Some outcome) (at id event)
  debited (Taken other to cents stamp) =
      ap (λ o. if_accepted o cents) (own_after other) ∙ debited_at other cents (same_text other id) (none_at other)
      ∙ ap (λ n. if_accepted (own_booked other J) cents + if_accepted (Some outcome) n) (at_cond other to cents stamp)
  debited (Funded funding) = omega (arith, accepted_none outcome)
  debited (Defunded funding) = omega (arith, accepted_none outcome)
  debited (Forwarded from other cents deadline) = omega (arith, accepted_none outcome)
  debited (Booked from other o) = omega (arith, accepted_none outcome)
  debited (Fetched count) = omega (arith, accepted_none outcome)
  debited Opened = omega (arith, accepted_none outcome)

  pub own_reserved : reserved J ≡ reserved (J ++ new ∷ []) + cents_sent (first_some (sending_of id) J)
  own_reserved =
      let pushed : reserved (J ++ new ∷ []) ≡ sum_by (reservation (J ++ new ∷ [])) J + 0 = sum_by_push (reservation (J ++ new ∷ [])) J new in
      let same : reserved J ≡ sum_by (λ e. reservation (J ++ new ∷ []) e + at id e) J = sum_same _ _ J released in
      let both : sum_by (λ e. reservation (J ++ new ∷ []) e + at id e) J ≡ sum_by (reservation (J ++ new ∷ [])) J + sum_by (at id) J = sum_by-both (reservation (J ++ new ∷ [])) (at id) J in
      omega (arith, pushed, same, both, taken_once s who id J sound)

  pub own_debits : debits (J ++ new ∷ []) ≡ debits J + if_accepted (Some outcome) (cents_sent (first_some (sending_of id) J))
  own_debits =
      let pushed : debits (J ++ new ∷ []) ≡ sum_by (debit (J ++ new ∷ [])) J + 0 = sum_by_push (debit (J ++ new ∷ [])) J new in
      let same : sum_by (debit (J ++ new ∷ [])) J ≡ sum_by (λ e. debit J e + if_accepted (Some outcome) (at id e)) J = sum_same _ _ J debited in
      let both : sum_by (λ e. debit J e + if_accepted (Some outcome) (at id e)) J ≡ debits J + sum_by (λ e. if_accepted (Some outcome) (at id e)) J = sum_by-both (debit J) (λ e. if_accepted (Some outcome) (at id e)) J in
      let all : sum_by (λ e. if_accepted (Some outcome) (at id e)) J ≡ if_accepted (Some outcome) (cents_sent (first_some (sending_of id) J)) = sum_accepted outcome (at id) J ∙ ap (if_accepted (Some outcome)) (taken_once s who id J sound) in
      omega (arith, pushed, same, both, all)

  uncredited : (xs : List Event) → is_forwarded who id xs ≡ false → sum_by (credit (J ++ new ∷ [])) xs ≡ sum_by (credit J) xs
  uncredited [] none = refl
  uncredited (Forwarded from other cents deadline ∷ xs) none =
      let parts = or_parts (forwards who id (Forwarded from other cents deadline)) (is_forwarded who id xs) none in
      let key : ((who == from) && same_text id other) ≡ false = ap (λ b. b && same_text id other) (eq_flip who from) ∙ ap (λ b. (from == who) && b) (nat_list_eq_equiv.symm id other) ∙ parts.0 in
      let here : booked from other (J ++ new ∷ []) ≡ booked from other J = first_some_push (books from other) J new ∙ ap (λ b. or_else (booked from other J) (pick b)) key ∙ or_else-none (booked from other J) in
      let same : credit (J ++ new ∷ []) (Forwarded from other cents deadline) ≡ credit J (Forwarded from other cents deadline) = ap (λ o. if_accepted o cents) here in
      omega (arith, sum_by-cons (credit (J ++ new ∷ [])) (Forwarded from other cents deadline) xs, sum_by-cons (credit J) (Forwarded from other cents deadline) xs, same, uncredited xs parts.1)
  uncredited (Taken other to cents stamp ∷ xs) none = uncredited xs none
  uncredited (Funded funding ∷ xs) none = uncredited xs none
  uncredited (Defunded funding ∷ xs) none = uncredited xs none
  uncredited (Booked from other o ∷ xs) none = uncredited xs none
  uncredited (Fetched count ∷ xs) none = uncredited xs none
  uncredited (Opened ∷ xs) none = uncredited xs none

  pub own_credits : credits (J ++ new ∷ []) ≡ credits J
  own_credits =
      let pushed : credits (J ++ new ∷ []) ≡ sum_by (credit (J ++ new ∷ [])) J + 0 = sum_by_push (credit (J ++ new ∷ [])) J new in
      omega (arith, pushed, uncredited J (own_unforwarded s who id J sound))
