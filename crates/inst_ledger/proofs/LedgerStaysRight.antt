-- What a ledger keeps beside its history stays right through each event that fits.
use Rattle.std.proofs.Common.{◌≡◌, ◌≢◌, ℕ, ◌+◌, ◌≤◌, ◌<◌, ◌^◌, Bool, true, false, cond, List, [], ◌∷◌, ◌++◌, length, length-append, Option, Some, None, is_some, sum_by, refl, sym, ap, ◌∙◌, subst, arith}
use Rattle.std.proofs.lemmas.Bool.{true≢false, false≢true}
use Rattle.std.proofs.lemmas.List.{length-map}
use Rattle.std.proofs.lemmas.List.Sums.{sum_by-le-sum_by, length-filter}
use Rattle.inst_base.specs.declared.cents.TheConstants.{MOST_CENTS}
use Rattle.inst_settings.specs.Lawful.{IsSettings}
use Rattle.inst_settings.specs.Settings.{HubSettings, same_text}
use Rattle.inst_command.specs.declared.funding.Funding.{Funding}
use Rattle.inst_command.specs.declared.outcome.Outcome.{Outcome}
use Rattle.inst_command.specs.declared.outcome.Outcome.TheVariants.{Accepted, Rejected, TimedOut}
use Rattle.inst_journal.specs.declared.event.Event.{Event}
use Rattle.inst_journal.specs.declared.event.Event.TheVariants.{Funded, Defunded, Taken, Forwarded, Booked, Fetched, Opened}
use Rattle.inst_journal.specs.Booked.{first_some, is_taken, is_forwarded, is_forwarding, booked}
use Rattle.inst_journal.specs.Keys.{is_funding, fundings}
use Rattle.inst_journal.specs.Money.{position, available}
use Rattle.inst_journal.specs.Opened.{is_opening, carried, takes_live, live_taken}
use Rattle.inst_journal.specs.Reply.{inbox, handed_out}
use Rattle.inst_journal.specs.Sound.{Fits, IsSound}
use Rattle.inst_journal.specs.Sums.{if_accepted, funding, funded, defunding, credit, credits}
use Rattle.inst_journal.proofs.CountsOfEvents.{position_fits, submissions_within, fundings_step, fundings_opened}
use Rattle.inst_journal.proofs.PaidAndReservedIsCovered.{covered}
use Rattle.inst_journal.proofs.OwnBookings.{own_unforwarded}
use Rattle.inst_journal.proofs.OneMoreElement.{sum_by_push, sum_by-both}
use Rattle.inst_journal.proofs.Soundness.{sound_push}
use Rattle.inst_transfers.specs.declared.transfer.Found.{Found}
use Rattle.inst_transfers.specs.declared.transfer.Side.{Side}
use Rattle.inst_transfers.specs.declared.transfer.Side.TheVariants.{Own, Other}
use Rattle.inst_transfers.specs.declared.transfer.Transfer.{Transfer}
use Rattle.inst_transfers.specs.State.{State, step, table_after_outcome, booked_in, rows_of}
use Rattle.inst_transfers.specs.Held.{Held, found_at, state_in, IsFound, IsLookedUp, CoversEntry, CoversSide}
use Rattle.inst_ledger.specs.declared.references.KeptFunding.{KeptFunding}
use Rattle.inst_ledger.specs.declared.totals.Totals.{Totals}
use Rattle.inst_ledger.specs.inner.Beside.{funding_event, totals_with}
use Rattle.inst_ledger.specs.Beside.{funding_of, amount_of, most_of, IsBeside}
use Rattle.inst_ledger.specs.Book.{BookAndRoom}
use Rattle.inst_ledger.specs.Inbox.{IsRead}
use Rattle.inst_ledger.specs.Kept.{sending_of, IsTable}
use Rattle.inst_ledger.specs.inner.Kept.{cents_sent}
use Rattle.inst_ledger.specs.Right.{sending_in, forwarding_in, own_ids, id_of, IsRight}
use Rattle.inst_ledger.proofs.Amounts.{own_reserved}
use Rattle.inst_ledger.proofs.ForwardedTransfers.{forwarded_found}
use Rattle.inst_ledger.proofs.FundingsByReference.{funded_put, defunded_put}
use Rattle.inst_ledger.proofs.Inbox.{read_same, read_on, read_more}
use Rattle.inst_ledger.proofs.TableStaysRight.{right_push, booked_there, own_party}
use Rattle.inst_ledger.proofs.Tables.{table_keep, taken_found}
use Rattle.inst_statement.proofs.AmountAndTermsInHistory.{none_of}
use Rattle.inst_statement.proofs.Indices.{index_fits}

longer : (J : List Event) (event : Event) → length (J ++ event ∷ []) ≡ length J + 1
longer J event = length-append J (event ∷ [])

-- the amounts after an event
amounts_push : (J : List Event) (event : Event) → amount_of event ≤ cond (is_funding event) MOST_CENTS 0 + cond (is_forwarding event) MOST_CENTS 0 → sum_by amount_of J ≤ most_of J → sum_by amount_of (J ++ event ∷ []) ≤ most_of (J ++ event ∷ [])
amounts_push J event small before =
    omega (arith, before, small, sum_by_push amount_of J event, sum_by_push (λ e. cond (is_funding e) MOST_CENTS 0) J event, sum_by_push (λ e. cond (is_forwarding e) MOST_CENTS 0) J event)

-- the position of a sound history has 64 bits
pub position_below : (s : HubSettings) (who : ℕ) (J : List Event) → IsSettings s → IsSound s who J → sum_by amount_of J ≤ most_of J → position J < 2 ^ 64
position_below s who J lawful sound amounts =
    let both : sum_by (λ e. funding e + credit J e) J ≡ funded J + credits J = sum_by-both funding (credit J) J in
    omega (arith, both, sum_by-le-sum_by (λ e. funding e + credit J e) amount_of J added, amounts, position_fits s who J lawful sound)
  where
    accepted_le : (o : Option Outcome) (cents : ℕ) → if_accepted o cents ≤ cents
    accepted_le None cents = omega arith
    accepted_le (Some Accepted) cents = omega arith
    accepted_le (Some (Rejected reason)) cents = omega arith
    accepted_le (Some TimedOut) cents = omega arith

    added : (event : Event) → funding event + credit J event ≤ amount_of event
    added (Funded funding) = omega arith
    added (Defunded funding) = omega arith
    added (Taken id to cents stamp) = omega arith
    added (Forwarded from id cents deadline) = omega (arith, accepted_le (booked from id J) cents)
    added (Booked from id outcome) = omega arith
    added (Fetched count) = omega arith
    added Opened = omega arith

-- what fits a ledger's book fits the fields of the ledger
pub fits_at : {b c : BookAndRoom} → b ≡ c → (event : Event) → Fits c.book.settings c.book.who c.book.events event → Fits b.book.settings b.book.who b.book.events event
fits_at same event fits = subst (λ (x : BookAndRoom). Fits x.book.settings x.book.who x.book.events event) (sym same) fits

-- an event that is pushed after room was made
pub pushed : {J K L : List Event} (event : Event) → K ≡ J → L ≡ K ++ event ∷ [] → L ≡ J ++ event ∷ []
pushed event same is = is ∙ ap (λ E. E ++ event ∷ []) same

-- the same by other names: the table may have made room
pub beside_same : {s : HubSettings} {who : ℕ} {J K : List Event} {t : Totals} {table other : Held} {R S : List ℕ → Option KeptFunding} {since : ℕ} {positions others : List ℕ} {read : ℕ}
    → K ≡ J → (room : ℕ) → other ≡ record table { room = room } → ((reference : List ℕ) → S reference ≡ R reference) → others ≡ positions → IsBeside s who J t table R since positions read → IsBeside s who K t other S since others read
beside_same {s} {who} {J} {K} {t} {table} {other} {R} {S} {since} {positions} {others} {read} events room same references inbox b =
    subst (λ (E : List Event). IsBeside s who E t other S since others read) (sym events)
    (subst (λ (F : List ℕ). IsBeside s who J t other S since F read) (sym inbox)
    (subst (λ (h : Held). IsBeside s who J t h S since positions read) (sym same)
    (record {
      lawful = b.lawful;
      sound = b.sound;
      whose = b.whose;
      right = b.right;
      funded = b.funded;
      defunded = b.defunded;
      within = b.within;
      referred = λ q. references q ∙ b.referred q;
      fundings = b.fundings;
      inboxed = b.inboxed;
      amounts = b.amounts;
    })))

pub beside_at : {s : HubSettings} {who : ℕ} {J K : List Event} {t : Totals} {table : Held} {R : List ℕ → Option KeptFunding} {since : ℕ} {positions : List ℕ} {read : ℕ} → K ≡ J → IsBeside s who J t table R since positions read → IsBeside s who K t table R since positions read
beside_at {s} {who} {J} {K} {t} {table} {R} {since} {positions} {read} events b = subst (λ (E : List Event). IsBeside s who E t table R since positions read) (sym events) b

module _ (s : HubSettings) (who : ℕ) (J : List Event) (t : Totals) (table : Held) (R : List ℕ → Option KeptFunding) (since : ℕ) (positions : List ℕ) (read : ℕ) (b : IsBeside s who J t table R since positions read) where
  -- what was paid out and what is reserved is covered
  pub within : t.defunded + table.debits + table.reserved ≤ t.funded + table.credits
  within = omega (arith, covered s who J b.sound, b.funded, b.defunded, b.right.credits, b.right.debits, b.right.reserved)

  -- a history is far shorter than 64 bits tell
  pub short : length J < 2 ^ 32
  short = index_fits s who J b.lawful b.sound

  -- the sums have far fewer than 128 bits
  pub sums_small : t.funded + table.credits < 2 ^ 127
  sums_small = omega (arith, b.within, short)

  -- what is paid or reserved was there, so it has 64 bits
  pub paid_small : (cents : ℕ) → cents ≤ available J → cents < 2 ^ 64
  paid_small cents cover = omega (arith, cover, position_below s who J b.lawful b.sound b.amounts)

  -- one event more, with the table after it
  pub pushes : (event : Event) (u : Totals) (after : Held) (S : List ℕ → Option KeptFunding) (since' : ℕ) (positions' : List ℕ) (read' : ℕ) → Fits s who J event → after.who ≡ table.who → state_in after ≡ step table.who (state_in table) event
      → u.funded ≡ t.funded + funding event → u.defunded ≡ t.defunded + defunding event → u.funded + after.credits ≤ t.funded + table.credits + MOST_CENTS → IsTable funding_of (J ++ event ∷ []) S → since' ≡ fundings (J ++ event ∷ [])
      → IsRead who (J ++ event ∷ []) positions' read' → amount_of event ≤ cond (is_funding event) MOST_CENTS 0 + cond (is_forwarding event) MOST_CENTS 0 → IsBeside s who (J ++ event ∷ []) u after S since' positions' read'
  pushes event u after S since' positions' read' fits same is funds defunds few referred counted inboxed small = record {
    lawful = b.lawful;
    sound = sound_push s who J event b.sound fits;
    whose = same ∙ b.whose;
    right = subst (λ (st : State). IsRight who (J ++ event ∷ []) st) (sym (is ∙ ap (λ (w : ℕ). step w (state_in table) event) b.whose)) (right_push s who J (state_in table) b.sound b.right event fits);
    funded = omega (arith, funds, b.funded, sum_by_push funding J event);
    defunded = omega (arith, defunds, b.defunded, sum_by_push defunding J event);
    within = omega (arith, few, b.within, longer J event);
    referred = referred;
    fundings = counted;
    inboxed = inboxed;
    amounts = amounts_push J event small b.amounts;
  }

  -- one that funds nothing, forwards nothing and hands out nothing
  pub quiet_pushes : (event : Event) (after : Held) → Fits s who J event → after.who ≡ table.who → state_in after ≡ step table.who (state_in table) event → after.credits ≤ table.credits + MOST_CENTS → funding event ≡ 0 → defunding event ≡ 0
      → ((q : List ℕ) → funding_of q event ≡ None) → is_opening event ≡ false → is_funding event ≡ false → is_forwarding event ≡ false → handed_out event ≡ 0 → amount_of event ≡ 0
      → IsBeside s who (J ++ event ∷ []) t after R since positions read
  quiet_pushes event after fits same is few no_funds no_defunds no_reference other no_funding no_forwarding none no_amount =
      pushes event t after R since positions read fits same is (omega (arith, no_funds)) (omega (arith, no_defunds)) (omega (arith, few)) (table_keep funding_of J event R b.referred no_reference)
      (omega (arith, b.fundings, fundings_step J event other, ap (λ (x : Bool). cond {A = ℕ} x 1 0) no_funding)) (read_same who J event positions read no_forwarding none b.inboxed) (omega (arith, no_amount))

  pub taken_beside : (id : List ℕ) (to cents stamp : ℕ) (after : Held) → Fits s who J (Taken id to cents stamp) → after.who ≡ table.who → state_in after ≡ step table.who (state_in table) (Taken id to cents stamp)
      → IsBeside s who (J ++ Taken id to cents stamp ∷ []) t after R since positions read
  taken_beside id to cents stamp after fits same is =
      quiet_pushes (Taken id to cents stamp) after fits same is (omega (arith, ap (λ (st : State). st.credits) is)) refl refl (λ _. refl) refl refl refl refl refl

  pub forwarded_beside : (from : ℕ) (id : List ℕ) (cents deadline : ℕ) (position : ℕ) (after : Held) → position ≡ length table.entries → Fits s who J (Forwarded from id cents deadline) → cents ≤ MOST_CENTS → after.who ≡ table.who → state_in after ≡ step table.who (state_in table) (Forwarded from id cents deadline)
      → IsBeside s who (J ++ Forwarded from id cents deadline ∷ []) t after R since (positions ++ position ∷ []) read
  forwarded_beside from id cents deadline position after at fits most same is =
      let event : Event = Forwarded from id cents deadline in
      let last : position ≡ length (rows_of who J) = at ∙ sym (length-map table.entries _) ∙ ap length b.right.rows in
      pushes event t after R since (positions ++ position ∷ []) read fits same is (omega arith) (omega arith) (omega (arith, ap (λ (st : State). st.credits) is)) (table_keep funding_of J event R b.referred (λ _. refl))
      (omega (arith, b.fundings, fundings_step J event refl))
      (read_more who J from id cents deadline position positions read last b.inboxed)
      (omega (arith, most))

  pub fetched_beside : (count : ℕ) → Fits s who J (Fetched count) → IsBeside s who (J ++ Fetched count ∷ []) t table R since positions (read + count)
  fetched_beside count fits =
      let event : Event = Fetched count in
      pushes event t table R since positions (read + count) fits refl refl (omega arith) (omega arith) (omega arith) (table_keep funding_of J event R b.referred (λ _. refl)) (omega (arith, b.fundings, fundings_step J event refl))
      (read_on who J count positions read b.inboxed) (omega arith)

  pub opened_beside : (after : Held) → Fits s who J Opened → after.who ≡ table.who → state_in after ≡ step table.who (state_in table) Opened → IsBeside s who (J ++ Opened ∷ []) t after R 0 positions read
  opened_beside after fits same is =
      pushes Opened t after R 0 positions read fits same is (omega arith) (omega arith) (omega (arith, ap (λ (st : State). st.credits) is)) (table_keep funding_of J Opened R b.referred (λ _. refl)) (sym (fundings_opened J))
      (read_same who J Opened positions read refl refl b.inboxed) (omega arith)

  funded_beside : (funding : Funding) (added : ℕ) (after : List ℕ → Option KeptFunding) → added ≡ funding.cents → Fits s who J (Funded funding) → funding.cents ≤ MOST_CENTS
      → ((q : List ℕ) → after q ≡ cond (same_text funding.reference q) (Some (record { is_defunding = false; cents = funding.cents })) (R q))
      → IsBeside s who (J ++ Funded funding ∷ []) (record { funded = t.funded + added; defunded = t.defunded }) table after (since + 1) positions read
  funded_beside funding added after same fits most put =
      let event : Event = Funded funding in
      pushes event _ table after (since + 1) positions read fits refl refl (omega (arith, same)) (omega arith) (omega (arith, same, most)) (funded_put J funding R after fits.new b.referred put)
      (omega (arith, b.fundings, fundings_step J event refl)) (read_same who J event positions read refl refl b.inboxed) (omega (arith, most))

  defunded_beside : (funding : Funding) (added : ℕ) (after : List ℕ → Option KeptFunding) → added ≡ funding.cents → Fits s who J (Defunded funding)
      → ((q : List ℕ) → after q ≡ cond (same_text funding.reference q) (Some (record { is_defunding = true; cents = funding.cents })) (R q))
      → IsBeside s who (J ++ Defunded funding ∷ []) (record { funded = t.funded; defunded = t.defunded + added }) table after (since + 1) positions read
  defunded_beside funding added after same fits put =
      let event : Event = Defunded funding in
      pushes event _ table after (since + 1) positions read fits refl refl (omega arith) (omega (arith, same)) (omega arith) (defunded_put J funding R after fits.funding.new b.referred put)
      (omega (arith, b.fundings, fundings_step J event refl)) (read_same who J event positions read refl refl b.inboxed) (omega arith)

  funding_kept : (is_defunding : Bool) (funding : Funding) (added : ℕ) (after : List ℕ → Option KeptFunding) → added ≡ funding.cents → Fits s who J (funding_event is_defunding funding) → funding.cents ≤ MOST_CENTS
      → ((q : List ℕ) → after q ≡ cond (same_text funding.reference q) (Some (record { is_defunding = is_defunding; cents = funding.cents })) (R q))
      → IsBeside s who (J ++ funding_event is_defunding funding ∷ []) (totals_with is_defunding added t) table after (since + 1) positions read
  funding_kept false funding added after same fits most put = funded_beside funding added after same fits most put
  funding_kept true funding added after same fits most put = defunded_beside funding added after same fits put

  pub funding_beside : (is_defunding : Bool) (funding : Funding) (added : ℕ) (u : Totals) (after : List ℕ → Option KeptFunding) → u ≡ totals_with is_defunding added t → added ≡ funding.cents → Fits s who J (funding_event is_defunding funding) → funding.cents ≤ MOST_CENTS
      → ((q : List ℕ) → after q ≡ cond (same_text funding.reference q) (Some (record { is_defunding = is_defunding; cents = funding.cents })) (R q))
      → IsBeside s who (J ++ funding_event is_defunding funding ∷ []) u table after (since + 1) positions read
  funding_beside is_defunding funding added u after totals same fits most put =
      subst (λ (x : Totals). IsBeside s who (J ++ funding_event is_defunding funding ∷ []) x table after (since + 1) positions read) (sym totals) (funding_kept is_defunding funding added after same fits most put)

  -- a transfer that was neither taken nor forwarded isn't in the table
  unknown : (o : Option Transfer) → sending_in o ≡ None → forwarding_in o ≡ None → o ≡ None
  unknown None no_sending no_forwarding = refl
  unknown (Some x) no_sending no_forwarding = absurd (by x.side no_sending no_forwarding)
    where
      by : (side : Side) → sending_in (Some (record { cents = x.cents; side = side; outcome = x.outcome })) ≡ None → forwarding_in (Some (record { cents = x.cents; side = side; outcome = x.outcome })) ≡ None → ⊥
      by (Own to stamp) h g = true≢false (ap is_some h)
      by (Other deadline) h g = true≢false (ap is_some g)

  pub taken_absent : (id : List ℕ) → is_taken id J ≡ false → found_at table.entries (table.who, id) ≡ None
  taken_absent id new =
      ap (λ (w : ℕ). found_at table.entries (w, id)) b.whose
      ∙ unknown (found_at table.entries (who, id)) (b.right.taken id ∙ none_of _ (sym (taken_found id J) ∙ new))
      (b.right.forwarded (who, id) ∙ none_of _ (sym (forwarded_found (who, id) J) ∙ own_unforwarded s who id J b.sound))

  pub forwarded_absent : (from : ℕ) (id : List ℕ) → from ≢ who → is_forwarded from id J ≡ false → found_at table.entries (from, id) ≡ None
  forwarded_absent from id another new =
      unknown (found_at table.entries (from, id)) (b.right.others (from, id) another) (b.right.forwarded (from, id) ∙ none_of _ (sym (forwarded_found (from, id) J) ∙ new))

  -- the live ones are no more than there are places
  pub few_live : length table.positions < 2 ^ 16
  few_live =
      let ids : length table.positions ≡ length (own_ids who J) = sym (length-map table.positions _) ∙ ap length b.right.own in
      let lives : length (own_ids who J) ≡ length (live_taken who J) = length-map (live_taken who J) id_of in
      omega (arith, ids, lives, length-filter (takes_live who (carried J)) J, submissions_within s who J b.sound, b.lawful.places_most)

  own_holds : (id : List ℕ) (outcome : Outcome) (cents to stamp : ℕ) (o : Option Outcome) → Fits s who J (Booked who id outcome) → is_taken id J ≡ true → found_at table.entries (who, id) ≡ Some (record { cents = cents; side = Own to stamp; outcome = o })
      → cents ≤ table.reserved
  own_holds id outcome cents to stamp o fits taken there =
      let amount : cents ≡ cents_sent (first_some (sending_of id) J) = ap cents_sent (sym (ap sending_in there) ∙ b.right.taken id) in
      omega (arith, amount, b.right.reserved, own_reserved s who J id outcome b.sound fits)

  own_waits : (from : ℕ) (id : List ℕ) (outcome : Outcome) (cents to stamp : ℕ) (o : Option Outcome) → Fits s who J (Booked from id outcome) → found_at table.entries (from, id) ≡ Some (record { cents = cents; side = Own to stamp; outcome = o })
      → cents ≤ table.reserved
  own_waits from id outcome cents to stamp o fits there =
      let own = own_party s who J (state_in table) b.sound b.right from id outcome cents to stamp o fits there in
      subst (λ (f : ℕ). Fits s who J (Booked f id outcome) → found_at table.entries (f, id) ≡ Some (record { cents = cents; side = Own to stamp; outcome = o }) → cents ≤ table.reserved) (sym own.0)
      (λ fits' there'. own_holds id outcome cents to stamp o fits' own.1 there') fits there

  -- the sums hold what a booking moves
  pub covers : (f : Found) (outcome : Outcome) → IsFound table f → Fits s who J (Booked f.from f.id outcome) → f.transfer.cents ≤ MOST_CENTS → length J < 2 ^ 64 → CoversEntry (state_in table) f.transfer
  covers f outcome found fits most long = by f.transfer.side found.transfer
    where
      by : (side : Side) → found_at table.entries (f.from, f.id) ≡ Some (record { cents = f.transfer.cents; side = side; outcome = f.transfer.outcome }) → CoversSide (state_in table) f.transfer.cents side
      by (Own to stamp) there =
          let holds = own_waits f.from f.id outcome f.transfer.cents to stamp f.transfer.outcome fits there in
          (holds, omega (arith, holds, within, b.within, long))
      by (Other deadline) there = omega (arith, most, b.within, long)

  -- a booking adds no more than an amount to what came
  pub credited_few : (f : Found) (outcome : Outcome) (after : Held) → IsFound table f → f.transfer.cents ≤ MOST_CENTS → state_in after ≡ step table.who (state_in table) (Booked f.from f.id outcome) → after.credits ≤ table.credits + MOST_CENTS
  credited_few f outcome after found most is =
      let credits_are : after.credits ≡ (table_after_outcome (state_in table) (f.from, f.id) f.transfer outcome f.transfer.side).credits =
      ap (λ (st : State). st.credits) is ∙ ap (λ (o : Option Transfer). (booked_in (state_in table) (f.from, f.id) outcome o).credits) found.transfer in
      omega (arith, credits_are, by f.transfer.side)
    where
      little : (o : Outcome) (cents : ℕ) → if_accepted (Some o) cents ≤ cents
      little Accepted cents = omega arith
      little (Rejected reason) cents = omega arith
      little TimedOut cents = omega arith

      by : (side : Side) → (table_after_outcome (state_in table) (f.from, f.id) f.transfer outcome side).credits ≤ table.credits + MOST_CENTS
      by (Own to stamp) = omega arith
      by (Other deadline) = omega (arith, little outcome f.transfer.cents, most)

  pub booked_beside : (f : Found) (outcome : Outcome) (after : Held) → IsFound table f → Fits s who J (Booked f.from f.id outcome) → f.transfer.cents ≤ MOST_CENTS → after.who ≡ table.who → state_in after ≡ step table.who (state_in table) (Booked f.from f.id outcome)
      → IsBeside s who (J ++ Booked f.from f.id outcome ∷ []) t after R since positions read
  booked_beside f outcome after found fits most same is =
      quiet_pushes (Booked f.from f.id outcome) after fits same is (credited_few f outcome after found most is) refl refl (λ _. refl) refl refl refl refl refl

  -- the position has 64 bits
  pub position_small : position J < 2 ^ 64
  position_small = position_below s who J b.lawful b.sound b.amounts

  -- the position after one event more has 64 bits
  pub position_next : (event : Event) → Fits s who J event → amount_of event ≤ cond (is_funding event) MOST_CENTS 0 + cond (is_forwarding event) MOST_CENTS 0 → position (J ++ event ∷ []) < 2 ^ 64
  position_next event fits small = position_below s who (J ++ event ∷ []) b.lawful (sound_push s who J event b.sound fits) (amounts_push J event small b.amounts)

-- a booking finds its transfer, by the look for it
pub booking_finds : (s : HubSettings) (who : ℕ) (J : List Event) (table : Held) (from : ℕ) (id : List ℕ) (outcome : Outcome) (r : Option Found) → IsSound s who J → IsRight who J (state_in table) → Fits s who J (Booked from id outcome) → IsLookedUp table from id r → is_some r ≡ true
booking_finds s who J table from id outcome None sound right fits finds = absurd (false≢true (sym (ap is_some finds) ∙ booked_there s who J (state_in table) sound right from id outcome fits))
booking_finds s who J table from id outcome (Some f) sound right fits finds = refl

-- and what fits it fits what was found
pub fits_found : (s : HubSettings) (who : ℕ) (J : List Event) (table : Held) (from : ℕ) (id : List ℕ) (outcome : Outcome) (r : Option Found) (f : Found) → Fits s who J (Booked from id outcome) → IsLookedUp table from id r → r ≡ Some f → Fits s who J (Booked f.from f.id outcome)
fits_found s who J table from id outcome r f fits finds is =
    let keys = subst (λ (o : Option Found). IsLookedUp table from id o) is finds in
    subst (λ (g : ℕ). Fits s who J (Booked g f.id outcome)) (sym keys.0) (subst (λ (i : List ℕ). Fits s who J (Booked from i outcome)) (sym keys.1) fits)
