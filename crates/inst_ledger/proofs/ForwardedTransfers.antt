-- What is found of forwarded transfers, and what one more event does to the credits.
use Rattle.std.proofs.Common.{◌≡◌, ◌≢◌, ℕ, ◌+◌, Bool, true, false, ◌==◌, ◌&&◌, cond, List, [], ◌∷◌, ◌++◌, ◌⊎◌, inl, inr, Option, Some, None, is_some, sum_by, refl, sym, ap, ◌∙◌, arith}
use Rattle.std.specs.Cmp.{nat_eq_equiv}
use Rattle.std.specs.Cmp.Lexicographic.{same_text as text_same, nat_list_eq_equiv}
use Rattle.std.proofs.lemmas.Bool.{eqb-true, and_parts, true≢false}
use Rattle.inst_settings.specs.Settings.{HubSettings, same_text}
use Rattle.inst_command.specs.declared.outcome.Outcome.{Outcome}
use Rattle.inst_journal.specs.declared.event.Event.{Event}
use Rattle.inst_journal.specs.declared.event.Event.TheVariants.{Funded, Defunded, Taken, Forwarded, Booked, Fetched, Opened}
use Rattle.inst_journal.specs.Booked.{or_else, first_some, forwards, is_forwarded, books, booked}
use Rattle.inst_journal.specs.Sums.{if_accepted, credit, credits}
use Rattle.inst_journal.specs.Sound.{Fits, IsSound}
use Rattle.inst_journal.proofs.OneMoreElement.{sum_by_push, sum_by-both, first_some_push, list_any_push, or_else-none}
use Rattle.inst_journal.proofs.Soundness.{sound_induction}
use Rattle.inst_ledger.specs.declared.sending.Forwarding.{Forwarding}
use Rattle.inst_ledger.specs.Kept.{forwarding_of}
use Rattle.inst_ledger.specs.inner.Kept.{credit_of}
use Rattle.inst_ledger.specs.inner.Transfers.{same_key}
use Rattle.inst_journal.proofs.PlacesOfTakenAmounts.{sum_same}
use Rattle.inst_ledger.proofs.Amounts.{or_parts, accepted_none, sum_accepted}
use Rattle.inst_statement.proofs.AmountAndTermsInHistory.{some_cond, none_of, any_first}

pub key_is : (x y : ℕ × List ℕ) → same_key x y ≡ true → (x.0 ≡ y.0) × (x.1 ≡ y.1)
key_is x y same = let key = and_parts (x.0 == y.0) (same_text x.1 y.1) same in (eqb-true x.0 y.0 key.0, text_same x.1 y.1 (sym key.1))

forwards_forwarding : (key : ℕ × List ℕ) (event : Event) → forwards key.0 key.1 event ≡ is_some (forwarding_of key event)
forwards_forwarding key (Forwarded from id cents deadline) = some_cond {A = Forwarding} (same_key (from, id) key) (record { cents = cents; deadline = deadline })
forwards_forwarding key (Taken other to cents stamp) = refl
forwards_forwarding key (Funded funding) = refl
forwards_forwarding key (Defunded funding) = refl
forwards_forwarding key (Booked from other outcome) = refl
forwards_forwarding key (Fetched count) = refl
forwards_forwarding key Opened = refl

pub forwarded_found : (key : ℕ × List ℕ) (J : List Event) → is_forwarded key.0 key.1 J ≡ is_some (first_some (forwarding_of key) J)
forwarded_found key J = any_first (forwards key.0 key.1) (forwarding_of key) (forwards_forwarding key) J

same_forwarded : (x y : ℕ × List ℕ) (J : List Event) → same_key x y ≡ true → is_forwarded x.0 x.1 J ≡ is_forwarded y.0 y.1 J
same_forwarded x y J same = let key = key_is x y same in ap (λ f. is_forwarded f x.1 J) key.0 ∙ ap (λ i. is_forwarded y.0 i J) key.1

pub forwarding_absent : (x y : ℕ × List ℕ) (J : List Event) → is_forwarded x.0 x.1 J ≡ false → same_key x y ≡ true → first_some (forwarding_of y) J ≡ None
forwarding_absent x y J new same = none_of _ (sym (forwarded_found y J) ∙ sym (same_forwarded x y J same) ∙ new)

-- nothing is booked of another's transfer that isn't forwarded
unbooked_new : (s : HubSettings) (who : ℕ) (key : ℕ × List ℕ) (J : List Event) (event : Event) → key.0 ≢ who → Fits s who J event → is_forwarded key.0 key.1 J ≡ false → books key.0 key.1 event ≡ None
unbooked_new s who key J (Booked from other outcome) another fits unforwarded = by (same_key (from, other) key) refl
  where
    by : (b : Bool) → same_key (from, other) key ≡ b → cond {A = Option Outcome} (same_key (from, other) key) (Some outcome) None ≡ None
    by false same = ap (λ b. cond {A = Option Outcome} b (Some outcome) None) same
    by true same = elim fits.party [
      | inl own ↦ absurd (another (sym (key_is (from, other) key same).0 ∙ own.0))
      | inr forwarded ↦ absurd (true≢false (sym forwarded ∙ same_forwarded (from, other) key J same ∙ unforwarded))
    ]
unbooked_new s who key J (Taken other to cents stamp) another fits unforwarded = refl
unbooked_new s who key J (Funded funding) another fits unforwarded = refl
unbooked_new s who key J (Defunded funding) another fits unforwarded = refl
unbooked_new s who key J (Forwarded from other cents deadline) another fits unforwarded = refl
unbooked_new s who key J (Fetched count) another fits unforwarded = refl
unbooked_new s who key J Opened another fits unforwarded = refl

pub unforwarded_unbooked : (s : HubSettings) (who : ℕ) (key : ℕ × List ℕ) → key.0 ≢ who → (J : List Event) → IsSound s who J → is_forwarded key.0 key.1 J ≡ false → booked key.0 key.1 J ≡ None
unforwarded_unbooked s who key another = sound_induction s who (λ J. is_forwarded key.0 key.1 J ≡ false → booked key.0 key.1 J ≡ None) (λ _. refl)
    (λ J event sound fits before unforwarded.
    let parts = or_parts (is_forwarded key.0 key.1 J) (forwards key.0 key.1 event) (sym (list_any_push (forwards key.0 key.1) J event) ∙ unforwarded) in
    first_some_push (books key.0 key.1) J event ∙ ap (λ o. or_else o (books key.0 key.1 event)) (before parts.0) ∙ unbooked_new s who key J event another fits parts.0)

abbrev at : ℕ × List ℕ → Event → ℕ
at key event = credit_of (forwarding_of key event)

credit_or : (o p : Option Forwarding) → (p ≡ None) ⊎ (o ≡ None) → credit_of (or_else o p) ≡ credit_of o + credit_of p
credit_or o p either = elim either [
  | inl none ↦ rw (none, or_else-none o) (omega arith)
  | inr none ↦ rw none (omega arith)
]

once_new : (s : HubSettings) (who : ℕ) (key : ℕ × List ℕ) (J : List Event) (event : Event) → Fits s who J event → (forwarding_of key event ≡ None) ⊎ (first_some (forwarding_of key) J ≡ None)
once_new s who key J (Forwarded from id cents deadline) fits = by (same_key (from, id) key) refl
  where
    by : (b : Bool) → same_key (from, id) key ≡ b → (forwarding_of key (Forwarded from id cents deadline) ≡ None) ⊎ (first_some (forwarding_of key) J ≡ None)
    by true same = inr (forwarding_absent (from, id) key J fits.new same)
    by false same = inl (ap (λ b. cond {A = Option Forwarding} b (Some (record { cents = cents; deadline = deadline })) None) same)
once_new s who key J (Taken other to cents stamp) fits = inl refl
once_new s who key J (Funded funding) fits = inl refl
once_new s who key J (Defunded funding) fits = inl refl
once_new s who key J (Booked from other outcome) fits = inl refl
once_new s who key J (Fetched count) fits = inl refl
once_new s who key J Opened fits = inl refl

pub forwarded_once : (s : HubSettings) (who : ℕ) (key : ℕ × List ℕ) (J : List Event) → IsSound s who J → sum_by (at key) J ≡ credit_of (first_some (forwarding_of key) J)
forwarded_once s who key = sound_induction s who (λ J. sum_by (at key) J ≡ credit_of (first_some (forwarding_of key) J)) refl
    (λ J event sound fits before.
    sum_by_push (at key) J event ∙ ap (λ n. n + at key event) before
    ∙ sym (ap credit_of (first_some_push (forwarding_of key) J event) ∙ credit_or (first_some (forwarding_of key) J) (forwarding_of key event) (once_new s who key J event fits)))

-- the participant books the outcome of a transfer
module _ (s : HubSettings) (who : ℕ) (J : List Event) (from : ℕ) (id : List ℕ) (outcome : Outcome) (sound : IsSound s who J) (unbooked : booked from id J ≡ None) where
  abbrev new : Event
  new = Booked from id outcome

  abbrev pick : Bool → Option Outcome
  pick b = cond b (Some outcome) None

  flip : (x y : ℕ × List ℕ) → same_key x y ≡ same_key y x
  flip x y = ap (λ b. b && same_text x.1 y.1) (nat_eq_equiv.symm x.0 y.0) ∙ ap (λ b. (y.0 == x.0) && b) (nat_list_eq_equiv.symm x.1 y.1)

  credited_at : (o : Option Outcome) (cents : ℕ) (b : Bool) → (b ≡ true → o ≡ None) → if_accepted (or_else o (pick b)) cents ≡ if_accepted o cents + if_accepted (Some outcome) (cond b cents 0)
  credited_at o cents true none = rw (none refl) (omega arith)
  credited_at o cents false none = rw (or_else-none o, accepted_none outcome) (omega arith)

  at_cond : (b : Bool) (cents deadline : ℕ) → cond b cents 0 ≡ credit_of (cond b (Some (record { cents = cents; deadline = deadline })) None)
  at_cond true cents deadline = refl
  at_cond false cents deadline = refl

  none_at : (x : ℕ × List ℕ) → same_key (from, id) x ≡ true → booked x.0 x.1 J ≡ None
  none_at x same = let key = key_is (from, id) x same in ap (λ f. booked f x.1 J) (sym key.0) ∙ ap (λ i. booked from i J) (sym key.1) ∙ unbooked

  credited : (event : Event) → credit (J ++ new ∷ []) event ≡ credit J event + if_accepted (Some outcome) (at (from, id) event)
  credited (Forwarded other_from other cents deadline) =
      let x : ℕ × List ℕ = (other_from, other) in
      let after : booked other_from other (J ++ new ∷ []) ≡ or_else (booked other_from other J) (pick (same_key (from, id) x)) = first_some_push (books other_from other) J new in
      ap (λ o. if_accepted o cents) after ∙ credited_at (booked other_from other J) cents (same_key (from, id) x) (none_at x)
      ∙ ap (λ b. if_accepted (booked other_from other J) cents + if_accepted (Some outcome) (cond b cents 0)) (flip (from, id) x)
      ∙ ap (λ n. if_accepted (booked other_from other J) cents + if_accepted (Some outcome) n) (at_cond (same_key x (from, id)) cents deadline)
  credited (Taken other to cents stamp) = omega (arith, accepted_none outcome)
  credited (Funded funding) = omega (arith, accepted_none outcome)
  credited (Defunded funding) = omega (arith, accepted_none outcome)
  credited (Booked other_from other o) = omega (arith, accepted_none outcome)
  credited (Fetched count) = omega (arith, accepted_none outcome)
  credited Opened = omega (arith, accepted_none outcome)

  pub booked_credits : credits (J ++ new ∷ []) ≡ credits J + if_accepted (Some outcome) (credit_of (first_some (forwarding_of (from, id)) J))
  booked_credits =
      let pushed : credits (J ++ new ∷ []) ≡ sum_by (credit (J ++ new ∷ [])) J + 0 = sum_by_push (credit (J ++ new ∷ [])) J new in
      let same : sum_by (credit (J ++ new ∷ [])) J ≡ sum_by (λ e. credit J e + if_accepted (Some outcome) (at (from, id) e)) J = sum_same _ _ J credited in
      let both : sum_by (λ e. credit J e + if_accepted (Some outcome) (at (from, id) e)) J ≡ credits J + sum_by (λ e. if_accepted (Some outcome) (at (from, id) e)) J = sum_by-both (credit J) (λ e. if_accepted (Some outcome) (at (from, id) e)) J in
      let all : sum_by (λ e. if_accepted (Some outcome) (at (from, id) e)) J ≡ if_accepted (Some outcome) (credit_of (first_some (forwarding_of (from, id)) J)) =
      sum_accepted outcome (at (from, id)) J ∙ ap (if_accepted (Some outcome)) (forwarded_once s who (from, id) J sound) in
      omega (arith, pushed, same, both, all)
