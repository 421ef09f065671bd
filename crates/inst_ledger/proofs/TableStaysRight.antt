-- Each event that fits changes the table of a history as its definition says, and leaves it right.
use Rattle.std.proofs.Common.{◌≡◌, ◌≢◌, ℕ, ◌+◌, Bool, true, false, ◌&&◌, cond, List, [], ◌∷◌, ◌++◌, Option, Some, None, is_some, is_none, refl, sym, ap, ◌∙◌, subst, arith, inl, inr, append-nil}
use Rattle.std.specs.List.{filter, cons_option}
use Rattle.std.proofs.lemmas.Bool.{eq-eqb, ne_eqb, true≢false, false≢true}
use Rattle.std.proofs.lemmas.List.Elements.{filter_map-append}
use Rattle.std.proofs.lemmas.List.Sums.{fold-append}
use Rattle.inst_settings.specs.Settings.{HubSettings, same_text}
use Rattle.inst_command.specs.declared.entry.Entry.{Entry}
use Rattle.inst_command.specs.declared.outcome.Outcome.{Outcome}
use Rattle.inst_journal.specs.declared.event.Event.{Event}
use Rattle.inst_journal.specs.declared.event.Event.TheVariants.{Funded, Defunded, Taken, Forwarded, Booked, Fetched, Opened}
use Rattle.inst_journal.specs.Booked.{first_some, is_taken, is_forwarded, books, booked, own_booked}
use Rattle.inst_journal.specs.Opened.{is_opening, carried, takes_live}
use Rattle.inst_journal.specs.Sums.{if_accepted, amount_unbooked, credit, debit, reservation, credits, debits}
use Rattle.inst_journal.specs.Sound.{Fits, IsSound}
use Rattle.inst_journal.proofs.OwnBookings.{own_unforwarded, own_booked-booked}
use Rattle.inst_journal.proofs.Soundness.{sound_induction}
use Rattle.inst_ledger.specs.Kept.{sending_of, forwarding_of}
use Rattle.inst_ledger.specs.inner.Kept.{cents_sent, credit_of, outcome_in_event}
use Rattle.inst_ledger.proofs.Amounts.{quiet_own, quiet_debits, quiet_reserved, quiet_booked, quiet_credits, untaken_unbooked, own_reserved, own_debits, own_credits}
use Rattle.inst_ledger.proofs.ForwardedTransfers.{key_is, forwarding_absent, unforwarded_unbooked, forwarded_found, booked_credits}
use Rattle.inst_ledger.proofs.NewSubmissionIsLive.{new_lives}
use Rattle.inst_ledger.proofs.Tables.{table_put, table_keep, taken_found, sending_absent}
use Rattle.inst_transfers.specs.declared.transfer.Side.{Side}
use Rattle.inst_transfers.specs.declared.transfer.Side.TheVariants.{Own, Other}
use Rattle.inst_transfers.specs.declared.transfer.Transfer.{Transfer}
use Rattle.inst_transfers.specs.State.{Key, same_key, table_with, State, empty_table, with_outcome, table_after_outcome, booked_in, outcome_in, waits_in, step, table_of_history, row_of, rows_of}
use Rattle.inst_ledger.specs.Right.{sending_in, forwarding_in, IsRight}
use Rattle.inst_ledger.proofs.OwnIds.{own_same, own_more, own_opened}

-- what is kept for good, after one event more
pub rows_push : (who : ℕ) (J : List Event) (new : Event) → rows_of who (J ++ new ∷ []) ≡ rows_of who J ++ cons_option (row_of who new) []
rows_push who J new = filter_map-append (row_of who) J (new ∷ [])

rows_same : (who : ℕ) (J : List Event) (new : Event) → row_of who new ≡ None → rows_of who (J ++ new ∷ []) ≡ rows_of who J
rows_same who J new none = rows_push who J new ∙ ap (λ (o : Option Entry). rows_of who J ++ cons_option o []) none ∙ append-nil (rows_of who J)

-- what a table that was put at one key gives
put_in : {A : Type 0} (f : Option Transfer → A) (b : Bool) (x : Transfer) (o : Option Transfer) → f (cond b (Some x) o) ≡ cond b (f (Some x)) (f o)
put_in f true x o = refl
put_in f false x o = refl

same_in : {A : Type 0} (f : Option Transfer → A) (b : Bool) (x : Transfer) (o : Option Transfer) → (b ≡ true → f (Some x) ≡ f o) → f (cond b (Some x) o) ≡ f o
same_in f true x o same = same refl
same_in f false x o same = refl

own_key : (who : ℕ) (id q : List ℕ) → same_key (who, id) (who, q) ≡ same_text id q
own_key who id q = ap (λ e. e && same_text id q) (eq-eqb who who refl)

at_key : (f : Key → Option Transfer) (x y : Key) → same_key x y ≡ true → f y ≡ f x
at_key f x y same = let key = key_is x y same in sym (ap (λ (from : ℕ). f (from, x.1)) key.0 ∙ ap (λ (id : List ℕ). f (y.0, id)) key.1)

booked_at : (J : List Event) (x y : Key) → same_key x y ≡ true → booked y.0 y.1 J ≡ booked x.0 x.1 J
booked_at J x y same = let key = key_is x y same in sym (ap (λ (from : ℕ). booked from x.1 J) key.0 ∙ ap (λ (id : List ℕ). booked y.0 id J) key.1)

module _ (s : HubSettings) (who : ℕ) (J : List Event) (st : State) (sound : IsSound s who J) (is : IsRight who J st) where
  -- an event that takes, forwards and books nothing, and opens nothing
  quiet_right : (new : Event) → Fits s who J new → is_opening new ≡ false → takes_live who (carried J) new ≡ false → ((from : ℕ) (id : List ℕ) → books from id new ≡ None)
      → ((K : List Event) → credit K new ≡ 0) → ((K : List Event) → debit K new ≡ 0) → ((K : List Event) → reservation K new ≡ 0) → ((id : List ℕ) → sending_of id new ≡ None) → ((key : Key) → forwarding_of key new ≡ None) → row_of who new ≡ None
      → IsRight who (J ++ new ∷ []) st
  quiet_right new fits other lives quiet no_credit no_debit no_reservation no_sending no_forwarding no_row = record {
    taken = table_keep sending_of J new (λ id. sending_in (st.found (who, id))) is.taken no_sending;
    others = is.others;
    forwarded = table_keep forwarding_of J new (λ key. forwarding_in (st.found key)) is.forwarded no_forwarding;
    booked = table_keep outcome_in_event J new (λ key. outcome_in (st.found key)) is.booked (λ key. quiet key.0 key.1);
    rows = is.rows ∙ sym (rows_same who J new no_row);
    own = is.own ∙ sym (own_same who J new other lives);
    reserved = omega (arith, is.reserved, quiet_reserved s who J new sound fits (quiet who), no_reservation (J ++ new ∷ []));
    credits = omega (arith, is.credits, quiet_credits J new quiet, no_credit (J ++ new ∷ []));
    debits = omega (arith, is.debits, quiet_debits s who J new sound fits (quiet who), no_debit (J ++ new ∷ []));
  }

  taken_right : (id : List ℕ) (to cents stamp : ℕ) → Fits s who J (Taken id to cents stamp) → IsRight who (J ++ Taken id to cents stamp ∷ []) (step who st (Taken id to cents stamp))
  taken_right id to cents stamp fits =
      let new : Event = Taken id to cents stamp in
      let x : Transfer = record { cents = cents; side = Own to stamp; outcome = None } in
      let stranger : is_forwarded who id J ≡ false = own_unforwarded s who id J sound in
      let unbooked : booked who id J ≡ None = untaken_unbooked s who id J sound fits.new in
      let nothing_own : own_booked id (J ++ new ∷ []) ≡ None = quiet_own s who J new sound fits (λ _. refl) id ∙ own_booked-booked s who J id sound ∙ unbooked in
      record {
        taken = table_put same_text sending_of J new id (record { to = to; cents = cents; stamp = stamp }) (λ q. sending_in (st.found (who, q))) (λ q. sending_in (table_with st.found (who, id) x (who, q))) is.taken
            (λ q. put_in sending_in (same_key (who, id) (who, q)) x (st.found (who, q)) ∙ ap (λ e. cond e (sending_in (Some x)) (sending_in (st.found (who, q)))) (own_key who id q))
            (λ _. refl) (λ q same. sending_absent id q J fits.new same);
        others = λ q another. same_in sending_in (same_key (who, id) q) x (st.found q) (λ same. absurd (another (sym (key_is (who, id) q same).0))) ∙ is.others q another;
        forwarded = λ q. same_in forwarding_in (same_key (who, id) q) x (st.found q) (λ same. sym (is.forwarded q ∙ forwarding_absent (who, id) q J stranger same))
            ∙ table_keep forwarding_of J new (λ key. forwarding_in (st.found key)) is.forwarded (λ _. refl) q;
        booked = λ q. same_in outcome_in (same_key (who, id) q) x (st.found q) (λ same. sym (is.booked q ∙ booked_at J (who, id) q same ∙ unbooked))
            ∙ table_keep outcome_in_event J new (λ key. outcome_in (st.found key)) is.booked (λ _. refl) q;
        rows = ap (λ (l : List Entry). l ++ record { from = who; id = id; cents = cents; deadline = stamp } ∷ []) is.rows ∙ sym (rows_push who J new);
        own = ap (λ (l : List (List ℕ)). l ++ id ∷ []) is.own ∙ sym (own_more who J id to cents stamp (new_lives s who J id to cents stamp sound fits.new));
        reserved = omega (arith, is.reserved, quiet_reserved s who J new sound fits (λ _. refl), ap (λ o. amount_unbooked o cents) nothing_own);
        credits = omega (arith, is.credits, quiet_credits J new (λ _ _. refl));
        debits = omega (arith, is.debits, quiet_debits s who J new sound fits (λ _. refl), ap (λ o. if_accepted o cents) nothing_own);
      }

  forwarded_right : (from : ℕ) (id : List ℕ) (cents deadline : ℕ) → Fits s who J (Forwarded from id cents deadline) → IsRight who (J ++ Forwarded from id cents deadline ∷ []) (step who st (Forwarded from id cents deadline))
  forwarded_right from id cents deadline fits =
      let new : Event = Forwarded from id cents deadline in
      let x : Transfer = record { cents = cents; side = Other deadline; outcome = None } in
      let unbooked : booked from id J ≡ None = unforwarded_unbooked s who (from, id) fits.another J sound fits.new in
      let nothing_after : booked from id (J ++ new ∷ []) ≡ None = quiet_booked J new (λ _ _. refl) from id ∙ unbooked in
      record {
        taken = λ q. same_in sending_in (same_key (from, id) (who, q)) x (st.found (who, q)) (λ same. absurd (fits.another (key_is (from, id) (who, q) same).0))
            ∙ table_keep sending_of J new (λ id. sending_in (st.found (who, id))) is.taken (λ _. refl) q;
        others = λ q another. same_in sending_in (same_key (from, id) q) x (st.found q) (λ same. sym (is.others q another)) ∙ is.others q another;
        forwarded = table_put same_key forwarding_of J new (from, id) (record { cents = cents; deadline = deadline }) (λ q. forwarding_in (st.found q)) (λ q. forwarding_in (table_with st.found (from, id) x q)) is.forwarded
            (λ q. put_in forwarding_in (same_key (from, id) q) x (st.found q)) (λ _. refl) (λ q same. forwarding_absent (from, id) q J fits.new same);
        booked = λ q. same_in outcome_in (same_key (from, id) q) x (st.found q) (λ same. sym (is.booked q ∙ booked_at J (from, id) q same ∙ unbooked))
            ∙ table_keep outcome_in_event J new (λ key. outcome_in (st.found key)) is.booked (λ _. refl) q;
        rows = ap (λ (l : List Entry). l ++ record { from = from; id = id; cents = cents; deadline = deadline } ∷ []) is.rows ∙ sym (rows_push who J new);
        own = is.own ∙ sym (own_same who J new refl refl);
        reserved = omega (arith, is.reserved, quiet_reserved s who J new sound fits (λ _. refl));
        credits = omega (arith, is.credits, quiet_credits J new (λ _ _. refl), ap (λ o. if_accepted o cents) nothing_after);
        debits = omega (arith, is.debits, quiet_debits s who J new sound fits (λ _. refl));
      }

  -- the outcomes, where one is put at the key of a transfer with nothing booked
  outcomes_put : (from : ℕ) (id : List ℕ) (outcome : Outcome) (t : Transfer) → booked from id J ≡ None → (q : Key) → outcome_in (table_with st.found (from, id) (with_outcome t outcome) q) ≡ booked q.0 q.1 (J ++ Booked from id outcome ∷ [])
  outcomes_put from id outcome t unbooked = table_put same_key outcome_in_event J (Booked from id outcome) (from, id) outcome (λ q. outcome_in (st.found q)) (λ q. outcome_in (table_with st.found (from, id) (with_outcome t outcome) q)) is.booked
      (λ q. put_in outcome_in (same_key (from, id) q) (with_outcome t outcome) (st.found q)) (λ _. refl) (λ q same. booked_at J (from, id) q same ∙ unbooked)

  -- a booked transfer that is the participant's own there was taken
  pub own_party : (from : ℕ) (id : List ℕ) (outcome : Outcome) (cents to stamp : ℕ) (o : Option Outcome) → Fits s who J (Booked from id outcome) → st.found (from, id) ≡ Some (record { cents = cents; side = Own to stamp; outcome = o })
      → (from ≡ who) × (is_taken id J ≡ true)
  own_party from id outcome cents to stamp o fits there = elim fits.party [
    | inl own ↦ own
    | inr forwarded ↦ absurd (false≢true (sym (ap (λ x. is_some (forwarding_in x)) there) ∙ ap is_some (is.forwarded (from, id)) ∙ sym (forwarded_found (from, id) J) ∙ forwarded))
  ]

  -- and one that is another's was forwarded
  pub other_party : (from : ℕ) (id : List ℕ) (cents deadline : ℕ) (o : Option Outcome) → st.found (from, id) ≡ Some (record { cents = cents; side = Other deadline; outcome = o }) → is_forwarded from id J ≡ true
  other_party from id cents deadline o there = forwarded_found (from, id) J ∙ sym (ap is_some (is.forwarded (from, id))) ∙ ap (λ x. is_some (forwarding_in x)) there

  own_settled : (id : List ℕ) (outcome : Outcome) (cents to stamp : ℕ) (o : Option Outcome) → Fits s who J (Booked who id outcome) → is_taken id J ≡ true → st.found (who, id) ≡ Some (record { cents = cents; side = Own to stamp; outcome = o })
      → IsRight who (J ++ Booked who id outcome ∷ []) (table_after_outcome st (who, id) (record { cents = cents; side = Own to stamp; outcome = o }) outcome (Own to stamp))
  own_settled id outcome cents to stamp o fits taken there =
      let new : Event = Booked who id outcome in
      let t : Transfer = record { cents = cents; side = Own to stamp; outcome = o } in
      let x : Transfer = with_outcome t outcome in
      let amount : cents ≡ cents_sent (first_some (sending_of id) J) = ap cents_sent (sym (ap sending_in there) ∙ is.taken id) in
      record {
        taken = λ q. same_in sending_in (same_key (who, id) (who, q)) x (st.found (who, q)) (λ same. sym (ap sending_in (at_key st.found (who, id) (who, q) same ∙ there)))
            ∙ table_keep sending_of J new (λ id. sending_in (st.found (who, id))) is.taken (λ _. refl) q;
        others = λ q another. same_in sending_in (same_key (who, id) q) x (st.found q) (λ same. absurd (another (sym (key_is (who, id) q same).0))) ∙ is.others q another;
        forwarded = λ q. same_in forwarding_in (same_key (who, id) q) x (st.found q) (λ same. sym (ap forwarding_in (at_key st.found (who, id) q same ∙ there)))
            ∙ table_keep forwarding_of J new (λ key. forwarding_in (st.found key)) is.forwarded (λ _. refl) q;
        booked = outcomes_put who id outcome t fits.new;
        rows = is.rows ∙ sym (rows_same who J new refl);
        own = is.own ∙ sym (own_same who J new refl refl);
        reserved = omega (arith, is.reserved, own_reserved s who J id outcome sound fits, amount);
        credits = is.credits ∙ sym (own_credits s who J id outcome sound fits);
        debits = ap (λ n. n + if_accepted (Some outcome) cents) is.debits ∙ ap (λ n. debits J + if_accepted (Some outcome) n) amount ∙ sym (own_debits s who J id outcome sound fits);
      }

  other_settled : (from : ℕ) (id : List ℕ) (outcome : Outcome) (cents deadline : ℕ) (o : Option Outcome) → Fits s who J (Booked from id outcome) → st.found (from, id) ≡ Some (record { cents = cents; side = Other deadline; outcome = o })
      → IsRight who (J ++ Booked from id outcome ∷ []) (table_after_outcome st (from, id) (record { cents = cents; side = Other deadline; outcome = o }) outcome (Other deadline))
  other_settled from id outcome cents deadline o fits there =
      let new : Event = Booked from id outcome in
      let t : Transfer = record { cents = cents; side = Other deadline; outcome = o } in
      let x : Transfer = with_outcome t outcome in
      let forwarded_is : is_forwarded from id J ≡ true = other_party from id cents deadline o there in
      let another : from ≢ who = λ own. true≢false (sym forwarded_is ∙ ap (λ f. is_forwarded f id J) own ∙ own_unforwarded s who id J sound) in
      let quiet : (q : List ℕ) → books who q new ≡ None = λ q. ap (λ b. cond {A = Option Outcome} (b && same_text id q) (Some outcome) None) (ne_eqb from who another) in
      let amount : cents ≡ credit_of (first_some (forwarding_of (from, id)) J) = ap credit_of (sym (ap forwarding_in there) ∙ is.forwarded (from, id)) in
      record {
        taken = λ q. same_in sending_in (same_key (from, id) (who, q)) x (st.found (who, q)) (λ same. absurd (another (key_is (from, id) (who, q) same).0))
            ∙ table_keep sending_of J new (λ id. sending_in (st.found (who, id))) is.taken (λ _. refl) q;
        others = λ q another. same_in sending_in (same_key (from, id) q) x (st.found q) (λ same. sym (is.others q another)) ∙ is.others q another;
        forwarded = λ q. same_in forwarding_in (same_key (from, id) q) x (st.found q) (λ same. sym (ap forwarding_in (at_key st.found (from, id) q same ∙ there)))
            ∙ table_keep forwarding_of J new (λ key. forwarding_in (st.found key)) is.forwarded (λ _. refl) q;
        booked = outcomes_put from id outcome t fits.new;
        rows = is.rows ∙ sym (rows_same who J new refl);
        own = is.own ∙ sym (own_same who J new refl refl);
        reserved = omega (arith, is.reserved, quiet_reserved s who J new sound fits quiet);
        credits = ap (λ n. n + if_accepted (Some outcome) cents) is.credits ∙ ap (λ n. credits J + if_accepted (Some outcome) n) amount ∙ sym (booked_credits s who J from id outcome sound fits.new);
        debits = omega (arith, is.debits, quiet_debits s who J new sound fits quiet);
      }

  -- a booking finds its transfer
  pub booked_there : (from : ℕ) (id : List ℕ) (outcome : Outcome) → Fits s who J (Booked from id outcome) → is_some (st.found (from, id)) ≡ true
  booked_there from id outcome fits = elim fits.party [
    | inl own ↦ sending_there (st.found (from, id)) (ap (λ f. is_some (sending_in (st.found (f, id)))) own.0 ∙ ap is_some (is.taken id) ∙ sym (taken_found id J) ∙ own.1)
    | inr forwarded ↦ forwarding_there (st.found (from, id)) (ap is_some (is.forwarded (from, id)) ∙ sym (forwarded_found (from, id) J) ∙ forwarded)
  ]
    where
      sending_there : (o : Option Transfer) → is_some (sending_in o) ≡ true → is_some o ≡ true
      sending_there None h = h
      sending_there (Some x) h = refl

      forwarding_there : (o : Option Transfer) → is_some (forwarding_in o) ≡ true → is_some o ≡ true
      forwarding_there None h = h
      forwarding_there (Some x) h = refl

  booked_right : (from : ℕ) (id : List ℕ) (outcome : Outcome) → Fits s who J (Booked from id outcome) → IsRight who (J ++ Booked from id outcome ∷ []) (step who st (Booked from id outcome))
  booked_right from id outcome fits = by (st.found (from, id)) refl
    where
      own_from : (cents to stamp : ℕ) (o : Option Outcome) → st.found (from, id) ≡ Some (record { cents = cents; side = Own to stamp; outcome = o }) → (f : ℕ) → f ≡ who → f ≡ from
          → IsRight who (J ++ Booked from id outcome ∷ []) (table_after_outcome st (from, id) (record { cents = cents; side = Own to stamp; outcome = o }) outcome (Own to stamp))
      own_from cents to stamp o there f own same =
          let taken : is_taken id J ≡ true = (own_party from id outcome cents to stamp o fits there).1 in
          let here : from ≡ who = sym same ∙ own in
          subst (λ (g : ℕ). Fits s who J (Booked g id outcome) → st.found (g, id) ≡ Some (record { cents = cents; side = Own to stamp; outcome = o }) → IsRight who (J ++ Booked g id outcome ∷ []) (table_after_outcome st (g, id) (record { cents = cents; side = Own to stamp; outcome = o }) outcome (Own to stamp)))
          (sym here) (λ fits' there'. own_settled id outcome cents to stamp o fits' taken there') fits there

      by_side : (cents : ℕ) (side : Side) (o : Option Outcome) → st.found (from, id) ≡ Some (record { cents = cents; side = side; outcome = o })
          → IsRight who (J ++ Booked from id outcome ∷ []) (table_after_outcome st (from, id) (record { cents = cents; side = side; outcome = o }) outcome side)
      by_side cents (Own to stamp) o there = own_from cents to stamp o there from (own_party from id outcome cents to stamp o fits there).0 refl
      by_side cents (Other deadline) o there = other_settled from id outcome cents deadline o fits there

      by : (found : Option Transfer) → st.found (from, id) ≡ found → IsRight who (J ++ Booked from id outcome ∷ []) (booked_in st (from, id) outcome found)
      by None none = absurd (false≢true (sym (ap is_some none) ∙ booked_there from id outcome fits))
      by (Some t) there = by_side t.cents t.side t.outcome there

  opened_right : Fits s who J Opened → IsRight who (J ++ Opened ∷ []) (step who st Opened)
  opened_right fits = record {
    taken = table_keep sending_of J Opened (λ id. sending_in (st.found (who, id))) is.taken (λ _. refl);
    others = is.others;
    forwarded = table_keep forwarding_of J Opened (λ key. forwarding_in (st.found key)) is.forwarded (λ _. refl);
    booked = table_keep outcome_in_event J Opened (λ key. outcome_in (st.found key)) is.booked (λ _. refl);
    rows = is.rows ∙ sym (rows_same who J Opened refl);
    own = ap (filter (waits_in who st)) is.own ∙ own_opened who J (waits_in who st) (λ id. ap is_none (is.booked (who, id)));
    reserved = omega (arith, is.reserved, quiet_reserved s who J Opened sound fits (λ _. refl));
    credits = omega (arith, is.credits, quiet_credits J Opened (λ _ _. refl));
    debits = omega (arith, is.debits, quiet_debits s who J Opened sound fits (λ _. refl));
  }

  -- one event more
  pub right_push : (event : Event) → Fits s who J event → IsRight who (J ++ event ∷ []) (step who st event)
  right_push (Taken id to cents stamp) fits = taken_right id to cents stamp fits
  right_push (Forwarded from id cents deadline) fits = forwarded_right from id cents deadline fits
  right_push (Booked from id outcome) fits = booked_right from id outcome fits
  right_push Opened fits = opened_right fits
  right_push (Funded funding) fits = quiet_right (Funded funding) fits refl refl (λ _ _. refl) (λ _. refl) (λ _. refl) (λ _. refl) (λ _. refl) (λ _. refl) refl
  right_push (Defunded funding) fits = quiet_right (Defunded funding) fits refl refl (λ _ _. refl) (λ _. refl) (λ _. refl) (λ _. refl) (λ _. refl) (λ _. refl) refl
  right_push (Fetched count) fits = quiet_right (Fetched count) fits refl refl (λ _ _. refl) (λ _. refl) (λ _. refl) (λ _. refl) (λ _. refl) (λ _. refl) refl

pub right_begun : (who : ℕ) → IsRight who [] empty_table
right_begun who = record { taken = λ _. refl; others = λ _ _. refl; forwarded = λ _. refl; booked = λ _. refl; rows = refl; own = refl; reserved = refl; credits = refl; debits = refl }

-- the table of a history is the table of the events before it, with one event more
pub state_push : (who : ℕ) (J : List Event) (event : Event) → table_of_history who (J ++ event ∷ []) ≡ step who (table_of_history who J) event
state_push who J event = fold-append (step who) empty_table J (event ∷ [])

-- the table of a sound history is right of it
pub right_of : (s : HubSettings) (who : ℕ) (J : List Event) → IsSound s who J → IsRight who J (table_of_history who J)
right_of s who = sound_induction s who (λ J. IsRight who J (table_of_history who J)) (right_begun who)
    (λ J event sound fits before. subst (λ (st : State). IsRight who (J ++ event ∷ []) st) (sym (state_push who J event)) (right_push s who J (table_of_history who J) sound before event fits))
