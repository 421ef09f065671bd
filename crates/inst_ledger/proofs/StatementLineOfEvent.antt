-- What the statement beside a history gains with an event: the line of what the event moves.
use Rattle.std.proofs.Common.{◌≡◌, ℕ, ◌+◌, ◌^◌, ◌<◌, ◌≤◌, Bool, true, false, cond, List, [], ◌∷◌, ◌++◌, length, Option, Some, None, refl, sym, ap, subst, ◌∙◌, arith}
use Rattle.std.specs.Option.{option_map}
use Rattle.inst_settings.specs.Settings.{HubSettings, same_text}
use Rattle.inst_command.specs.declared.funding.Funding.{Funding}
use Rattle.inst_command.specs.declared.outcome.Outcome.{Outcome}
use Rattle.inst_command.specs.declared.outcome.Outcome.TheVariants.{Accepted, Rejected, TimedOut}
use Rattle.inst_journal.specs.declared.event.Event.{Event}
use Rattle.inst_journal.specs.declared.event.Event.TheVariants.{Funded, Defunded, Taken, Forwarded, Booked, Fetched, Opened}
use Rattle.inst_journal.specs.Booked.{first_some, is_forwarded, is_forwarding, same_transfer}
use Rattle.inst_journal.specs.Lines.{raised, lowered}
use Rattle.inst_journal.specs.Money.{position}
use Rattle.inst_journal.specs.Sound.{Fits}
use Rattle.inst_journal.proofs.OwnBookings.{own_unforwarded}
use Rattle.inst_ledger.specs.declared.references.KeptFunding.{KeptFunding}
use Rattle.inst_ledger.specs.declared.totals.Totals.{Totals}
use Rattle.inst_transfers.specs.declared.transfer.Side.{Side}
use Rattle.inst_transfers.specs.declared.transfer.Side.TheVariants.{Own, Other}
use Rattle.inst_transfers.specs.declared.transfer.Transfer.{Transfer}
use Rattle.inst_transfers.specs.Held.{Held, found_at, state_in}
use Rattle.inst_ledger.specs.Right.{sending_in, forwarding_in}
use Rattle.inst_ledger.proofs.TableStaysRight.{own_party}
use Rattle.inst_ledger.specs.declared.sending.Forwarding.{Forwarding}
use Rattle.inst_ledger.specs.declared.sending.Sending.{Sending}
use Rattle.inst_ledger.specs.Beside.{amount_of, IsBeside, IsLedger}
use Rattle.inst_ledger.specs.inner.Beside.{funding_event, funding_movement, movement_by, movement_booked, MayAddIf, AddsIf}
use Rattle.inst_ledger.specs.Kept.{sending_of, forwarding_of}
use Rattle.inst_ledger.proofs.LedgerStaysRight.{beside_same, position_small, position_next}
use Rattle.inst_statement.specs.declared.movement.Movement.{Movement}
use Rattle.inst_statement.specs.KeptStatement.{Stated, MayAdd, IsStatementOf}
use Rattle.inst_statement.specs.inner.Movement.{came, sent, movement_of_accepted, accepted_movement, movement_of}
use Rattle.inst_statement.proofs.AmountAndTermsInHistory.{not_come}
use Rattle.inst_statement.proofs.Movements.{map_cond, first_mapped}
use Rattle.inst_statement.proofs.KeptStatementStaysRight.{stated_same, covers_movement, moved_to, line_added, line_less, number_fits}
use Rattle.inst_command.specs.declared.line.LineKind.{LineKind}
use Rattle.inst_command.specs.declared.line.LineKind.TheVariants.{Funded as FundedKind, Defunded as DefundedKind, Received, Paid}
use Rattle.inst_base.specs.declared.cents.TheConstants.{MOST_CENTS}
use Rattle.inst_journal.specs.Keys.{is_funding}

-- the same events by another name
pub stated_at : {J K : List Event} {stated : Stated} → K ≡ J → IsStatementOf J stated → IsStatementOf K stated
stated_at {J} {K} {stated} same of = subst (λ (E : List Event). IsStatementOf E stated) (sym same) of

-- the same ledger by other names
pub ledger_same : {s : HubSettings} {who : ℕ} {J K : List Event} {t : Totals} {table other : Held} {R S : List ℕ → Option KeptFunding} {since : ℕ} {positions others : List ℕ} {read : ℕ} {before after : Stated}
    → K ≡ J → (room : ℕ) → other ≡ record table { room = room } → ((reference : List ℕ) → S reference ≡ R reference) → others ≡ positions → after.lines ≡ before.lines → after.begun ≡ before.begun
    → IsLedger s who J t table R since positions read before → IsLedger s who K t other S since others read after
ledger_same events room same references inbox lines begun l = record {
  beside = beside_same events room same references inbox l.beside;
  lines = stated_at events (stated_same _ _ lines begun l.lines);
}

-- a movement leads from a position of 64 bits to one
raised_fits : (m : Movement) (before after : ℕ) → after + lowered m.kind m.cents ≡ before + raised m.kind m.cents → before < 2 ^ 64 → after < 2 ^ 64 → before + raised m.kind m.cents < 2 ^ 64
raised_fits m before after leads small next = by m.kind leads
  where
    by : (kind : LineKind) → after + lowered kind m.cents ≡ before + raised kind m.cents → before + raised kind m.cents < 2 ^ 64
    by FundedKind leads' = omega (arith, leads', next)
    by DefundedKind leads' = omega (arith, leads', small)
    by Received leads' = omega (arith, leads', next)
    by Paid leads' = omega (arith, leads', small)

sent_sending : (id : List ℕ) (event : Event) → sent id event ≡ option_map (λ (t : Sending). (t.to, t.cents)) (sending_of id event)
sent_sending id (Taken other to cents stamp) = map_cond (λ (t : Sending). (t.to, t.cents)) (same_text other id) (record { to = to; cents = cents; stamp = stamp })
sent_sending id (Funded funding) = refl
sent_sending id (Defunded funding) = refl
sent_sending id (Forwarded from other cents deadline) = refl
sent_sending id (Booked from other outcome) = refl
sent_sending id (Fetched count) = refl
sent_sending id Opened = refl

came_forwarding : (from : ℕ) (id : List ℕ) (event : Event) → came from id event ≡ option_map (λ (f : Forwarding). f.cents) (forwarding_of (from, id) event)
came_forwarding from id (Forwarded other_from other cents deadline) =
    map_cond (λ (f : Forwarding). f.cents) (same_transfer from id other_from other) (record { cents = cents; deadline = deadline })
came_forwarding from id (Funded funding) = refl
came_forwarding from id (Defunded funding) = refl
came_forwarding from id (Taken other to cents stamp) = refl
came_forwarding from id (Booked other_from other outcome) = refl
came_forwarding from id (Fetched count) = refl
came_forwarding from id Opened = refl

module _ (s : HubSettings) (who : ℕ) (J : List Event) (t : Totals) (table : Held) (R : List ℕ → Option KeptFunding) (since : ℕ) (positions : List ℕ) (read : ℕ) (b : IsBeside s who J t table R since positions read) where
  accepted_by : (from : ℕ) (id : List ℕ) (cents : ℕ) (side : Side) (old : Option Outcome) → Fits s who J (Booked from id Accepted) → found_at table.entries (from, id) ≡ Some (record { cents = cents; side = side; outcome = old })
      → accepted_movement J from id ≡ Some (movement_by from cents side)
  accepted_by from id cents (Own to stamp) old fits there =
      let own = own_party s who J (state_in table) b.sound b.right from id Accepted cents to stamp old fits there in
      let none : first_some (came from id) J ≡ None = not_come from id J (ap (λ f. is_forwarded f id J) own.0 ∙ own_unforwarded s who id J b.sound) in
      let at_who : found_at table.entries (who, id) ≡ Some (record { cents = cents; side = Own to stamp; outcome = old }) = ap (λ (f : ℕ). found_at table.entries (f, id)) (sym own.0) ∙ there in
      let found : first_some (sending_of id) J ≡ Some (record { to = to; cents = cents; stamp = stamp }) = sym (b.right.taken id) ∙ ap sending_in at_who in
      let gone : first_some (sent id) J ≡ Some (to, cents) =
      first_mapped (sent id) (sending_of id) (λ (t : Sending). (t.to, t.cents)) (sent_sending id) J ∙ ap (option_map (λ (t : Sending). (t.to, t.cents))) found in
      ap (λ o. movement_of_accepted from o (first_some (sent id) J)) none ∙ ap (movement_of_accepted from None) gone
  accepted_by from id cents (Other deadline) old fits there =
      let found : first_some (forwarding_of (from, id)) J ≡ Some (record { cents = cents; deadline = deadline }) = sym (b.right.forwarded (from, id)) ∙ ap forwarding_in there in
      let come : first_some (came from id) J ≡ Some cents =
      first_mapped (came from id) (forwarding_of (from, id)) (λ (f : Forwarding). f.cents) (came_forwarding from id) J ∙ ap (option_map (λ (f : Forwarding). f.cents)) found in
      ap (λ o. movement_of_accepted from o (first_some (sent id) J)) come

  -- a booking moves what the transfer in the table tells
  pub booking_moves : (from : ℕ) (id : List ℕ) (outcome : Outcome) (t : Transfer) → Fits s who J (Booked from id outcome) → found_at table.entries (from, id) ≡ Some t → movement_of J (Booked from id outcome) ≡ movement_booked from t outcome
  booking_moves from id Accepted t fits there = accepted_by from id t.cents t.side t.outcome fits there
  booking_moves from id (Rejected reason) t fits there = refl
  booking_moves from id TimedOut t fits there = refl

  -- the line of a movement may be added where there is room
  pub may_add : (event : Event) (m : Movement) (stated : Stated) → movement_of J event ≡ Some m → Fits s who J event → amount_of event ≤ cond (is_funding event) MOST_CENTS 0 + cond (is_forwarding event) MOST_CENTS 0
      → IsStatementOf J stated → 0 < stated.room → MayAdd stated m
  may_add event m stated is fits small of room = record {
    room = room;
    covered = covers_movement s who J event b.sound fits m stated is of;
    fits = subst (λ (p : ℕ). p + raised m.kind m.cents < 2 ^ 64) (sym of.is_position)
        (raised_fits m (position J) (position (J ++ event ∷ [])) (moved_to s who J event b.sound fits m is) (position_small s who J t table R since positions read b) (position_next s who J t table R since positions read b event fits small));
    few = number_fits s who J stated b.lawful b.sound of;
  }

  pub may_add_if : (from : ℕ) (id : List ℕ) (outcome : Outcome) (o : Option Movement) (stated : Stated) → movement_of J (Booked from id outcome) ≡ o → Fits s who J (Booked from id outcome) → IsStatementOf J stated → 0 < stated.room → MayAddIf stated o
  may_add_if from id outcome None stated is fits of room = tt
  may_add_if from id outcome (Some m) stated is fits of room = may_add (Booked from id outcome) m stated is fits (omega arith) of room

  pub added_if : (from : ℕ) (id : List ℕ) (outcome : Outcome) (index : ℕ) (o : Option Movement) (before after : Stated) → movement_of J (Booked from id outcome) ≡ o → Fits s who J (Booked from id outcome) → index ≡ length J → IsStatementOf J before → AddsIf before index o after
      → IsStatementOf (J ++ Booked from id outcome ∷ []) after
  added_if from id outcome index None before after is fits last of same = line_less s who J (Booked from id outcome) b.sound fits before after is refl same.0 same.1 of
  added_if from id outcome index (Some m) before after is fits last of adds = line_added s who J (Booked from id outcome) b.sound fits m index before after is last of adds

-- what a fund or defund command moves, and adds to the position at most
pub movement_is : (J : List Event) (is_defunding : Bool) (funding : Funding) → movement_of J (funding_event is_defunding funding) ≡ Some (funding_movement is_defunding funding.cents)
movement_is J false funding = refl
movement_is J true funding = refl

pub amount_small : (is_defunding : Bool) (funding : Funding) → funding.cents ≤ MOST_CENTS
    → amount_of (funding_event is_defunding funding) ≤ cond (is_funding (funding_event is_defunding funding)) MOST_CENTS 0 + cond (is_forwarding (funding_event is_defunding funding)) MOST_CENTS 0
amount_small false funding most = omega (arith, most)
amount_small true funding most = omega arith
