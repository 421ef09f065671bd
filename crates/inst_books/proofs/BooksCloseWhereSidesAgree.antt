-- Sound books are closed exactly where both sides of each transfer agree.
use Rattle.std.proofs.Common.{◌≡◌, ℕ, zero, Bool, true, false, cond, List, [], ◌∷◌, ◌++◌, Option, Some, None, is_some, ◌⊎◌, inl, inr, refl, sym, ap, ◌∙◌, subst, arith, Contains}
use Rattle.std.specs.List.{All}
use Rattle.std.specs.Cmp.Lexicographic.{same_text as text_same}
use Rattle.std.proofs.lemmas.Bool.{true≢false}
use Rattle.std.proofs.lemmas.List.Elements.{Contains-append_right, Contains-push_cases, All-contains, All-contains_itself}
use Rattle.std.proofs.lemmas.Option.{cond_some}
use Rattle.inst_base.specs.TimeLimit.{deadline_of}
use Rattle.inst_settings.specs.Settings.{HubSettings, same_text}
use Rattle.inst_settings.proofs.CodeTellsNumber.{same_text_refl}
use Rattle.inst_command.specs.declared.outcome.Outcome.{Outcome}
use Rattle.inst_command.specs.declared.outcome.Outcome.TheVariants.{Accepted, Rejected, TimedOut}
use Rattle.inst_journal.specs.declared.event.Event.{Event}
use Rattle.inst_journal.specs.declared.event.Event.TheVariants.{Funded, Defunded, Taken, Forwarded, Booked, Fetched, Opened}
use Rattle.inst_journal.specs.Booked.{or_else, first_some, booked, same_transfer}
use Rattle.inst_journal.specs.Sound.{Fits, IsSound}
use Rattle.inst_journal.proofs.TestOfOneThingFindsIt.{nothing_there}
use Rattle.inst_journal.proofs.OneMoreElement.{first_some_push}
use Rattle.inst_journal.proofs.Soundness.{sound_induction}
use Rattle.inst_model.specs.Fit.{BooksFit, BooksAreClosed}
use Rattle.inst_model.proofs.TextsTestsAndFirstThings.{or_else_kept, or_else_cases, same_transfer-true, same_transfer_refl}
use Rattle.inst_model.proofs.BookingsAreOfParties.{booked_party, booked_found}
use Rattle.inst_model.proofs.Events.{booked_there}
use Rattle.inst_model.proofs.MirrorOfFittingHistories.{forwarding_there}
use Rattle.inst_ledger.specs.declared.sending.Forwarding.{Forwarding}
use Rattle.inst_ledger.specs.declared.sending.Sending.{Sending}
use Rattle.inst_ledger.specs.Kept.{sending_of, forwarding_of}
use Rattle.inst_ledger.specs.inner.Transfers.{same_key}
use Rattle.inst_ledger.proofs.ForwardedTransfers.{forwarding_absent, forwarded_found}
use Rattle.inst_world.proofs.PromisesFollowFromLaws.{fitting}
use Rattle.inst_books.specs.inner.Agreeing.{IsReleased, IsReceived, IsSent, Agrees}
use Rattle.inst_ledger.proofs.Amounts.{once_new}

-- what is found first is what one of the elements gives
first_there : {A B : Type 0} (f : A → Option B) (xs : List A) (y : B) → first_some f xs ≡ Some y → (x : A) × Contains xs x × (f x ≡ Some y)
first_there f [] y e = absurd cc
first_there f (x ∷ xs) y e = elim (or_else_cases (f x) (first_some f xs) y e) [
  | inl here ↦ (x, (zero, omega arith, refl), here)
  | inr rest ↦ let found = first_there f xs y rest.1 in (found.0, Contains-append_right (x ∷ []) xs found.0 found.1, found.2)
]

-- what an event of a sound history gives is found, where no event before it gave anything
module _ (s : HubSettings) (who : ℕ) {V : Type 0} (gives : Event → Option V) (fresh : (J : List Event) (event : Event) → Fits s who J event → (gives event ≡ None) ⊎ (first_some gives J ≡ None))
    (event : Event) (v : V) (is : gives event ≡ Some v) where
  newest : (J : List Event) (last : Event) → last ≡ event → (gives last ≡ None) ⊎ (first_some gives J ≡ None) → first_some gives (J ++ last ∷ []) ≡ Some v
  newest J last now (inl none) = let clash : None ≡ Some v = sym none ∙ ap gives now ∙ is in absurd cc
  newest J last now (inr none) = first_some_push gives J last ∙ ap (λ o. or_else o (gives last)) none ∙ ap gives now ∙ is

  pub first_found : (J : List Event) → IsSound s who J → Contains J event → first_some gives J ≡ Some v
  first_found = sound_induction s who (λ J. Contains J event → first_some gives J ≡ Some v) (λ there. absurd (nothing_there event there))
      (λ J last sound fits before there. elim (Contains-push_cases J last event there) [
        | inl earlier ↦ first_some_push gives J last ∙ or_else_kept (first_some gives J) (gives last) v (before earlier)
        | inr now ↦ newest J last now (fresh J last fits)
      ])

-- a submission is found by its identifier
sending_found : (s : HubSettings) (who : ℕ) (J : List Event) (id : List ℕ) (to cents stamp : ℕ) → IsSound s who J → Contains J (Taken id to cents stamp) → first_some (sending_of id) J ≡ Some (record { to = to; cents = cents; stamp = stamp })
sending_found s who J id to cents stamp sound there =
    first_found s who (sending_of id) (once_new s who id) (Taken id to cents stamp) (record { to = to; cents = cents; stamp = stamp })
    (ap (λ b. cond {A = Option Sending} b (Some (record { to = to; cents = cents; stamp = stamp })) None) (same_text_refl id)) J sound there

sending_event : (id : List ℕ) (event : Event) (t : Sending) → sending_of id event ≡ Some t → event ≡ Taken id t.to t.cents t.stamp
sending_event id (Taken other to cents stamp) t e =
    let parts = cond_some (same_text other id) (record { to = to; cents = cents; stamp = stamp }) t e in
    ap (λ (i : List ℕ). Taken i to cents stamp) (text_same other id (sym parts.0)) ∙ ap (λ (t : Sending). Taken id t.to t.cents t.stamp) parts.1
sending_event id (Funded funding) t e = absurd cc
sending_event id (Defunded funding) t e = absurd cc
sending_event id (Forwarded from other cents deadline) t e = absurd cc
sending_event id (Booked from other outcome) t e = absurd cc
sending_event id (Fetched count) t e = absurd cc
sending_event id Opened t e = absurd cc

-- what is found to be sent was submitted
sending_there : (id : List ℕ) (J : List Event) (t : Sending) → first_some (sending_of id) J ≡ Some t → Contains J (Taken id t.to t.cents t.stamp)
sending_there id J t e =
    let found = first_there (sending_of id) J t e in
    subst (λ (event : Event). Contains J event) (sending_event id found.0 t found.2) found.1

came_fresh : (s : HubSettings) (who from : ℕ) (id : List ℕ) (J : List Event) (event : Event) → Fits s who J event → (forwarding_of (from, id) event ≡ None) ⊎ (first_some (forwarding_of (from, id)) J ≡ None)
came_fresh s who from id J (Forwarded other_from other cents deadline) fits = by (same_key (other_from, other) (from, id)) refl
  where
    by : (b : Bool) → same_key (other_from, other) (from, id) ≡ b → (forwarding_of (from, id) (Forwarded other_from other cents deadline) ≡ None) ⊎ (first_some (forwarding_of (from, id)) J ≡ None)
    by true same = inr (forwarding_absent (other_from, other) (from, id) J fits.new same)
    by false same = inl (ap (λ b. cond {A = Option Forwarding} b (Some (record { cents = cents; deadline = deadline })) None) same)
came_fresh s who from id J (Taken other to cents stamp) fits = inl refl
came_fresh s who from id J (Funded funding) fits = inl refl
came_fresh s who from id J (Defunded funding) fits = inl refl
came_fresh s who from id J (Booked other_from other outcome) fits = inl refl
came_fresh s who from id J (Fetched count) fits = inl refl
came_fresh s who from id J Opened fits = inl refl

-- what came is found by its originator and identifier
came_found : (s : HubSettings) (who : ℕ) (J : List Event) (from : ℕ) (id : List ℕ) (cents deadline : ℕ) → IsSound s who J → Contains J (Forwarded from id cents deadline) → first_some (forwarding_of (from, id)) J ≡ Some (record { cents = cents; deadline = deadline })
came_found s who J from id cents deadline sound there =
    first_found s who (forwarding_of (from, id)) (came_fresh s who from id) (Forwarded from id cents deadline) (record { cents = cents; deadline = deadline })
    (ap (λ b. cond {A = Option Forwarding} b (Some (record { cents = cents; deadline = deadline })) None) (same_transfer_refl from id)) J sound there

came_event : (from : ℕ) (id : List ℕ) (event : Event) (f : Forwarding) → forwarding_of (from, id) event ≡ Some f → event ≡ Forwarded from id f.cents f.deadline
came_event from id (Forwarded other_from other cents deadline) f e =
    let parts = cond_some (same_transfer from id other_from other) (record { cents = cents; deadline = deadline }) f e in
    let same = same_transfer-true from id other_from other parts.0 in
    ap (λ (q : ℕ). Forwarded q other cents deadline) same.0 ∙ ap (λ (i : List ℕ). Forwarded from i cents deadline) same.1 ∙ ap (λ (f : Forwarding). Forwarded from id f.cents f.deadline) parts.1
came_event from id (Taken other to cents stamp) f e = absurd cc
came_event from id (Funded funding) f e = absurd cc
came_event from id (Defunded funding) f e = absurd cc
came_event from id (Booked other_from other outcome) f e = absurd cc
came_event from id (Fetched count) f e = absurd cc
came_event from id Opened f e = absurd cc

-- what is found to have come was forwarded
came_there : (from : ℕ) (id : List ℕ) (J : List Event) (f : Forwarding) → first_some (forwarding_of (from, id)) J ≡ Some f → Contains J (Forwarded from id f.cents f.deadline)
came_there from id J f e =
    let found = first_there (forwarding_of (from, id)) J f e in
    subst (λ (event : Event). Contains J event) (came_event from id found.0 f found.2) found.1

same_value : {A : Type 0} (one other : A) (o : Option A) → o ≡ Some one → o ≡ Some other → one ≡ other
same_value one other o e f = let g : Some one ≡ Some other = sym e ∙ f in cc

module _ (s : HubSettings) (J : ℕ → List Event) (sound : (p : ℕ) → IsSound s p (J p)) where
  -- books that agree
  module _ (all : (p : ℕ) → All (Agrees s.limit J p) (J p)) where
    agrees : (p : ℕ) (event : Event) → Contains (J p) event → Agrees s.limit J p event
    agrees p event there = All-contains (Agrees s.limit J p) (J p) event (all p) there

    sent_as : (p from : ℕ) (id : List ℕ) (cents deadline : ℕ) (o : Option Sending) → first_some (sending_of id) (J from) ≡ o → IsSent s.limit p cents deadline o →
        (stamp : ℕ) × Contains (J from) (Taken id p cents stamp) × (deadline_of s.limit stamp ≡ deadline)
    sent_as p from id cents deadline None found is = absurd is
    sent_as p from id cents deadline (Some t) found is =
        (t.stamp, subst (λ (c : ℕ). Contains (J from) (Taken id p c t.stamp)) is.1 (subst (λ (q : ℕ). Contains (J from) (Taken id q t.cents t.stamp)) is.0 (sending_there id (J from) t found)), is.2)

    sent : (p from : ℕ) (id : List ℕ) (cents deadline : ℕ) → Contains (J p) (Forwarded from id cents deadline) →
        (stamp : ℕ) × Contains (J from) (Taken id p cents stamp) × (deadline_of s.limit stamp ≡ deadline)
    sent p from id cents deadline there =
        sent_as p from id cents deadline (first_some (sending_of id) (J from)) refl (agrees p (Forwarded from id cents deadline) there)

    -- where a transfer came both have booked the same
    both : (p from : ℕ) (id : List ℕ) (cents deadline : ℕ) → Contains (J p) (Forwarded from id cents deadline) → booked from id (J p) ≡ booked from id (J from)
    both p from id cents deadline there =
        let was = sent p from id cents deadline there in
        let received : IsReceived cents (deadline_of s.limit was.0) (booked from id (J from)) (booked from id (J p)) (first_some (forwarding_of (from, id)) (J p)) = agrees from (Taken id p cents was.0) was.1 in
        let found : IsReceived cents (deadline_of s.limit was.0) (booked from id (J from)) (booked from id (J p)) (Some (record { cents = cents; deadline = deadline })) =
        subst (λ (o : Option Forwarding). IsReceived cents (deadline_of s.limit was.0) (booked from id (J from)) (booked from id (J p)) o) (came_found s p (J p) from id cents deadline (sound p) there) received in
        found.2

    -- what anyone has booked its originator has
    own : (q from : ℕ) (id : List ℕ) (o : Outcome) → Contains (J q) (Booked from id o) → booked from id (J from) ≡ Some o
    own q from id o there =
        let here : booked from id (J q) ≡ Some o = booked_found s q (J q) from id o (sound q) there in
        elim (booked_party s q from id o (J q) (sound q) here) [
          | inl ours ↦ ap (λ (p : ℕ). booked from id (J p)) ours.0 ∙ here
          | inr came ↦ let event = forwarding_there from id (J q) came in sym (both q from id event.0 event.1 event.2) ∙ here
        ]

    paid_as : (from : ℕ) (id : List ℕ) (to cents deadline : ℕ) (o : Option Forwarding) → booked from id (J from) ≡ Some Accepted →
        IsReceived cents deadline (booked from id (J from)) (booked from id (J to)) o → Contains (J to) (Booked from id Accepted)
    paid_as from id to cents deadline None paid is = absurd (subst IsReleased paid is)
    paid_as from id to cents deadline (Some f) paid is = booked_there from id Accepted (J to) (is.2 ∙ paid)

    pending_as : (from : ℕ) (id : List ℕ) (to cents deadline : ℕ) (o : Option Forwarding) → first_some (forwarding_of (from, id)) (J to) ≡ o → booked from id (J from) ≡ None →
        IsReceived cents deadline (booked from id (J from)) (booked from id (J to)) o → Contains (J to) (Forwarded from id cents deadline)
    pending_as from id to cents deadline None found none is = absurd (subst IsReleased none is)
    pending_as from id to cents deadline (Some f) found none is =
        subst (λ (d : ℕ). Contains (J to) (Forwarded from id cents d)) is.1 (subst (λ (c : ℕ). Contains (J to) (Forwarded from id c f.deadline)) is.0 (came_there from id (J to) f found))

    unbooked : (from : ℕ) (id : List ℕ) (o : Option Outcome) → booked from id (J from) ≡ o → ((p : ℕ) (outcome : Outcome) → Contains (J p) (Booked from id outcome) → ⊥) → o ≡ None
    unbooked from id None e nobody = refl
    unbooked from id (Some o) e nobody = absurd (nobody from o (booked_there from id o (J from) e))

    fit : BooksFit s J
    fit = record {
      forwarded_is_taken = sent;
      both_book_the_same = λ p q from id one other here there. same_value one other (booked from id (J from)) (own p from id one here) (own q from id other there);
      paid_is_received = λ from id to cents stamp taken paid.
          paid_as from id to cents (deadline_of s.limit stamp) (first_some (forwarding_of (from, id)) (J to)) (own from from id Accepted paid) (agrees from (Taken id to cents stamp) taken);
    }

    pub agreement_closes : BooksAreClosed s J
    agreement_closes = record {
      fit = fit;
      originator_booked = λ from id to cents stamp p o taken there. booked_there from id o (J from) (own p from id o there);
      beneficiary_booked = λ from id to cents deadline p o came there. booked_there from id o (J to) (both to from id cents deadline came ∙ own p from id o there);
      pending_is_forwarded = λ from id to cents stamp taken nobody.
          pending_as from id to cents (deadline_of s.limit stamp) (first_some (forwarding_of (from, id)) (J to)) refl (unbooked from id (booked from id (J from)) refl nobody)
          (agrees from (Taken id to cents stamp) taken);
    }

  -- books that are closed
  module _ (closed : BooksAreClosed s J) where
    -- where a transfer came both have booked the same
    module _ (p : ℕ) (id : List ℕ) (to cents stamp : ℕ) (taken : Contains (J p) (Taken id to cents stamp)) (amount deadline : ℕ) (came : Contains (J to) (Forwarded p id amount deadline)) where
      same_booked : (one other : Option Outcome) → booked p id (J to) ≡ one → booked p id (J p) ≡ other → one ≡ other
      same_booked None None e f = refl
      same_booked (Some o) other e f =
          sym (booked_found s p (J p) p id o (sound p) (closed.originator_booked p id to cents stamp to o taken (booked_there p id o (J to) e))) ∙ f
      same_booked None (Some o) e f =
          sym e ∙ booked_found s to (J to) p id o (sound to) (closed.beneficiary_booked p id to amount deadline p o came (booked_there p id o (J p) f))

      same_sending : (stamp_there : ℕ) → Contains (J p) (Taken id to amount stamp_there) → (amount ≡ cents) × (stamp_there ≡ stamp)
      same_sending stamp_there there =
          let one : Sending = record { to = to; cents = amount; stamp = stamp_there } in
          let other : Sending = record { to = to; cents = cents; stamp = stamp } in
          let same : one ≡ other =
          same_value one other (first_some (sending_of id) (J p)) (sending_found s p (J p) id to amount stamp_there (sound p) there) (sending_found s p (J p) id to cents stamp (sound p) taken) in
          (ap (λ (t : Sending). t.cents) same, ap (λ (t : Sending). t.stamp) same)

      agrees_there : (amount ≡ cents) × (deadline ≡ deadline_of s.limit stamp) × (booked p id (J to) ≡ booked p id (J p))
      agrees_there =
          let was = closed.fit.forwarded_is_taken to p id amount deadline came in
          let same = same_sending was.0 was.1 in
          (same.0, sym was.2 ∙ ap (deadline_of s.limit) same.1, same_booked (booked p id (J to)) (booked p id (J p)) refl refl)

    not_come : (p : ℕ) (id : List ℕ) (to cents stamp : ℕ) → Contains (J p) (Taken id to cents stamp) → first_some (forwarding_of (p, id)) (J to) ≡ None → (o : Option Outcome) → booked p id (J p) ≡ o → IsReleased o
    not_come p id to cents stamp taken none None e =
        let nobody : (q : ℕ) (o : Outcome) → Contains (J q) (Booked p id o) → ⊥ = λ q o there.
        let some : None ≡ Some o = sym e ∙ booked_found s p (J p) p id o (sound p) (closed.originator_booked p id to cents stamp q o taken there) in cc in
        let clash = sym none ∙ came_found s to (J to) p id cents (deadline_of s.limit stamp) (sound to) (closed.pending_is_forwarded p id to cents stamp taken nobody) in
        cc
    not_come p id to cents stamp taken none (Some Accepted) e =
        let received : booked p id (J to) ≡ Some Accepted = booked_found s to (J to) p id Accepted (sound to) (closed.fit.paid_is_received p id to cents stamp taken (booked_there p id Accepted (J p) e)) in
        elim (booked_party s to p id Accepted (J to) (sound to) received) [
          | inl itself ↦ (fitting s p (J p) (sound p) (Taken id to cents stamp) taken).1.another (sym itself.0)
          | inr came ↦ true≢false (sym came ∙ forwarded_found (p, id) (J to) ∙ ap is_some none)
        ]
    not_come p id to cents stamp taken none (Some (Rejected reason)) e = tt
    not_come p id to cents stamp taken none (Some TimedOut) e = tt

    received : (p : ℕ) (id : List ℕ) (to cents stamp : ℕ) → Contains (J p) (Taken id to cents stamp) → (o : Option Forwarding) → first_some (forwarding_of (p, id)) (J to) ≡ o →
        IsReceived cents (deadline_of s.limit stamp) (booked p id (J p)) (booked p id (J to)) o
    received p id to cents stamp taken None none = not_come p id to cents stamp taken none (booked p id (J p)) refl
    received p id to cents stamp taken (Some f) found = agrees_there p id to cents stamp taken f.cents f.deadline (came_there p id (J to) f found)

    each : (p : ℕ) (event : Event) → Contains (J p) event → Agrees s.limit J p event
    each p (Taken id to cents stamp) taken = received p id to cents stamp taken (first_some (forwarding_of (p, id)) (J to)) refl
    each p (Forwarded from id cents deadline) came =
        let was = closed.fit.forwarded_is_taken p from id cents deadline came in
        subst (λ (o : Option Sending). IsSent s.limit p cents deadline o) (sym (sending_found s from (J from) id p cents was.0 (sound from) was.1)) (refl, refl, was.2)
    each p (Funded funding) there = tt
    each p (Defunded funding) there = tt
    each p (Booked from id outcome) there = tt
    each p (Fetched count) there = tt
    each p Opened there = tt

    pub closed_agree : (p : ℕ) → All (Agrees s.limit J p) (J p)
    closed_agree p = λ k d below. each p _ (All-contains_itself (J p) k d below)
