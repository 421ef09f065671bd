-- The ticket that goes with a reply: the place that the slot tells of its transfer.
use Rattle.std.proofs.Common.{◌≡◌, ℕ, ◌≤◌, Bool, true, false, ◌||◌, ◌==◌, cond, List, ◌++◌, count_by, inl, inr, ◌⊎◌, ⊎_elim, refl, sym, ap, ◌∙◌, subst, arith, Option, Some, None, is_none, is_some}
use Rattle.std.specs.Prelude.{Contains, position}
use Rattle.std.specs.List.{list_any}
use Rattle.std.specs.Cmp.Lexicographic.{same_text as text_same}
use Rattle.std.proofs.lemmas.Bool.{false≢true, eqb-true, eq-eqb}
use Rattle.std.proofs.lemmas.List.Folds.{list_any-append}
use Rattle.std.proofs.lemmas.Map.Views.{any-filter_same}
use Rattle.inst_base.specs.TimeLimit.{deadline_of}
use Rattle.inst_settings.specs.Settings.{HubSettings}
use Rattle.inst_settings.proofs.CodeTellsNumber.{same_text_refl}
use Rattle.inst_command.specs.declared.command.Command.{Command}
use Rattle.inst_command.specs.declared.command.Command.TheVariants.{Submit}
use Rattle.inst_command.specs.declared.outcome.Outcome.{Outcome}
use Rattle.inst_command.specs.declared.outcome.State.{State as StateValue}
use Rattle.inst_command.specs.declared.outcome.State.TheVariants.{Decided as IsDecided}
use Rattle.inst_command.specs.declared.submission.Submission.{Submission}
use Rattle.inst_terms.specs.declared.terms.Terms.{Terms}
use Rattle.inst_command.specs.declared.place.Place.{Place}
use Rattle.inst_board.specs.declared.about.About.TheVariants.{Opened, HasTerms, Due, Decided}
use Rattle.inst_board.specs.declared.about.Fact.{Fact}
use Rattle.inst_board.specs.Standing.{about}
use Rattle.inst_journal.specs.declared.event.Event.{Event}
use Rattle.inst_journal.specs.declared.event.Event.TheVariants.{Funded, Defunded, Taken, Forwarded, Booked, Fetched, Opened as OpenedEvent}
use Rattle.inst_journal.specs.Booked.{takes, is_taken, forwards, is_forwarded, booked}
use Rattle.inst_journal.specs.Opened.{carried, is_live, takes_live, live_taken}
use Rattle.inst_journal.specs.Repeats.{taken_of}
use Rattle.inst_journal.specs.Sound.{IsSound}
use Rattle.inst_journal.specs.Reply.{handle, reply_result, kept_events}
use Rattle.inst_journal.proofs.TestOfOneThingFindsIt.{there_is_found}
use Rattle.inst_journal.proofs.KeyOnce.{taken_once}
use Rattle.inst_journal.proofs.OwnBookings.{own_unforwarded}
use Rattle.inst_model.specs.Trace.{as_reply}
use Rattle.inst_model.specs.TransferTold.{TransferTold, transfer_told, tells_taken, tells_state}
use Rattle.inst_slot.specs.Book.{Book, place_at, terms_to, arrived_at, place_with_index, place_of}
use Rattle.inst_slot.specs.LawfulBoard.{LiesAt, IsLawfulBoard, AllAreAdopted}
use Rattle.inst_slot.proofs.ForwardedTransfersHavePlaces.{is_adopted}
use Rattle.inst_slot.proofs.SlotMayDecideWhatIsAsked.{position_found, taken_at_position}
use Rattle.inst_slot.proofs.LiveTransfersAfterEvent.{filtered}
use Rattle.inst_slot.proofs.BoardStaysLawful.{arrival_at, lying}
use Rattle.inst_slot.proofs.ResolutionFitsBooks.{arrival_forwarded, taken_contains}
use Rattle.inst_participant.specs.Answers.{IsInState, IsTicketOf}
use Rattle.inst_participant.proofs.EachTransferOnce.{same_index, same_one, counted_kept}
use Rattle.inst_participant.proofs.ReplyTellsOfHistory.{taken_told, state_told}

-- what is told of a transfer is what the model replies of it to a command on the history J that finds this, and the book is that after it
pub record IsReplied (s : HubSettings) (J : List Event) (command : Command) (at : ℕ) (found : Option Outcome) (told : TransferTold) (book : Book) : Type 0 where
  pub settings_are : book.settings ≡ s
  pub told_is : told ≡ transfer_told (as_reply (reply_result (handle s book.who J command at found)))
  pub kept : book.events ≡ J ++ kept_events (handle s book.who J command at found)
  pub sound : IsSound s book.who book.events

-- what takes a transfer that isn't booked takes a live one
takes_one : (who : ℕ) (C : List Event) (id : List ℕ) → booked who id C ≡ None → (e : Event) → takes id e ≡ true → takes_live who C e ≡ true
takes_one who C id none (Taken other to cents stamp) h = ap is_none (ap (λ (i : List ℕ). booked who i C) (text_same other id (sym h)) ∙ none)
takes_one who C id none (Funded funding) h = absurd (false≢true h)
takes_one who C id none (Defunded funding) h = absurd (false≢true h)
takes_one who C id none (Forwarded from other cents d) h = absurd (false≢true h)
takes_one who C id none (Booked from other o) h = absurd (false≢true h)
takes_one who C id none (Fetched n) h = absurd (false≢true h)
takes_one who C id none OpenedEvent h = absurd (false≢true h)

-- a taken transfer without a place isn't live
own_unlive : (who : ℕ) (K : List Event) (id : List ℕ) → is_taken id K ≡ true → position (takes id) (live_taken who K) ≡ None → is_live who id K ≡ false
own_unlive who K id taken nowhere = go (booked who id (carried K)) refl
  where
    go : (o : Option Outcome) → booked who id (carried K) ≡ o → is_none (booked who id (carried K)) ≡ false
    go (Some o) e = ap is_none e
    go None e = absurd (false≢true (sym (ap is_some nowhere) ∙ position_found (takes id) (live_taken who K)
        ∙ any-filter_same (takes id) (takes_live who (carried K)) true (takes_one who (carried K) id e) K ∙ taken))

-- what a history has it has later
still_there : (p : Event → Bool) (J X K : List Event) → K ≡ J ++ X → list_any p J ≡ true → list_any p K ≡ true
still_there p J X K e there = ap (list_any p) e ∙ list_any-append p J X ∙ ap (λ (b : Bool). b || list_any p X) there

taken_once_live : (s : HubSettings) (who : ℕ) (id : List ℕ) (K : List Event) → IsSound s who K → count_by (takes id) (live_taken who K) ≤ 1
taken_once_live s who id K sound = omega (arith, counted_kept (takes id) (takes_live who (carried K)) K, taken_once s who id K sound)

module _ {B : Type 0} (settings : B → HubSettings) (knows : B → Fact → Type 0) (has_role : B → ℕ → Type 0) where
  -- where a forwarded transfer lies, it was forwarded, and is live
  arrived_live : (b : B) (book : Book) (from : ℕ) (id : List ℕ) (index : ℕ) → IsLawfulBoard settings knows has_role b book → arrived_at from id book.arrivals ≡ Some index
      → (is_forwarded from id book.events ≡ true) × (is_live from id book.events ≡ true)
  arrived_live b book from id index lawful at =
      let x = arrival_at from id index book.arrivals at in
      let f = arrival_forwarded settings knows has_role b book x.arrival lawful x.there in
      subst (λ (i : List ℕ). (is_forwarded from i book.events ≡ true) × (is_live from i book.events ≡ true)) x.id_is
      (subst (λ (p : ℕ). (is_forwarded p x.arrival.entry.id book.events ≡ true) × (is_live p x.arrival.entry.id book.events ≡ true)) x.from_is f)

  -- what lies at a place is live
  lies_live : (b : B) (book : Book) (from : ℕ) (id : List ℕ) (index : ℕ) → IsLawfulBoard settings knows has_role b book → LiesAt book from id index → is_live from id book.events ≡ true
  lies_live b book from id index lawful lies = ⊎_elim
      (λ own.
      let t = own.1 in
      ap (λ (p : ℕ). is_live p id book.events) own.0 ∙ (filtered (takes_live book.who (carried book.events)) book.events index (Taken id t.to t.cents t.stamp) t.there).1)
      (λ at. (arrived_live b book from id index lawful at).1)
      lies

  submitted : (b : B) (book : Book) (s : HubSettings) (id : List ℕ) (deadline : ℕ) (x : Submission) (ticket : Option Place) (sees : Fact → Type 0)
      → IsLawfulBoard settings knows has_role b book → book.settings ≡ s → IsSound s book.who book.events → x.id ≡ id → Contains book.events (Taken id x.to x.cents x.stamp)
      → ((k : Place) → ticket ≡ Some k → (f : Fact) → knows b f → sees f) → (o : Option ℕ) → position (takes id) (live_taken book.who book.events) ≡ o → ticket ≡ place_with_index book.who o
      → IsTicketOf sees s book.who (Submit x) book.events (tells_taken id deadline) ticket
  submitted b book s id deadline x ticket sees lawful same sound id_is there seen None e is =
      subst (IsTicketOf sees s book.who (Submit x) book.events (tells_taken id deadline)) (sym is)
      (own_unlive book.who book.events id (there_is_found (takes id) (Taken id x.to x.cents x.stamp) book.events (same_text_refl id) there) e)
  submitted b book s id deadline x ticket sees lawful same sound id_is there seen (Some index) e is =
      let t = taken_at_position book id index e in
      let k : Place = place_at book.who index in
      let event : Taken id t.to t.cents t.stamp ≡ Taken id x.to x.cents x.stamp =
      same_one (takes id) book.events (Taken id t.to t.cents t.stamp) (Taken id x.to x.cents x.stamp) (taken_once s book.who id book.events sound) (taken_contains book id index t) there (same_text_refl id) (same_text_refl id) in
      let to_is : t.to ≡ x.to = cc in
      let cents_is : t.cents ≡ x.cents = cc in
      let stamp_is : t.stamp ≡ x.stamp = cc in
      let terms_are : terms_to t.to t.cents id ≡ terms_to x.to x.cents x.id =
      ap (λ (n : ℕ). terms_to n t.cents id) to_is ∙ ap (λ (n : ℕ). terms_to x.to n id) cents_is ∙ ap (λ (i : List ℕ). terms_to x.to x.cents i) (sym id_is) in
      let due_is : deadline_of book.settings.limit t.stamp ≡ deadline_of s.limit x.stamp = ap (deadline_of book.settings.limit) stamp_is ∙ ap (λ (h : HubSettings). deadline_of h.limit x.stamp) same in
      let known = lawful.taken_known index id t.to t.cents t.stamp t.there in
      let saw = seen k is in
      subst (IsTicketOf sees s book.who (Submit x) book.events (tells_taken id deadline)) (sym is) (
        refl,
        lies_live b book book.who id index lawful (inl (refl, t)),
        (
          saw (about k Opened) known.opened,
          saw (about k (HasTerms (terms_to x.to x.cents x.id))) (subst (λ (u : Terms). knows b (about k (HasTerms u))) terms_are known.terms),
          saw (about k (Due (deadline_of s.limit x.stamp))) (subst (λ (d : ℕ). knows b (about k (Due d))) due_is known.due),
        ),
      )

  -- a taken transfer's ticket
  pub ticket_taken : (b : B) (book : Book) (s : HubSettings) (J : List Event) (command : Command) (at : ℕ) (found : Option Outcome) (id : List ℕ) (deadline : ℕ) (ticket : Option Place) (sees : Fact → Type 0) →
      IsLawfulBoard settings knows has_role b book → AllAreAdopted book → IsReplied s J command at found (tells_taken id deadline) book →
      ticket ≡ place_of book book.who id → ((k : Place) → ticket ≡ Some k → (f : Fact) → knows b f → sees f) →
      IsTicketOf sees s book.who command book.events (tells_taken id deadline) ticket
  ticket_taken b book s J command at found id deadline ticket sees lawful adopted replied is seen =
      let t = taken_told s book.who J command at found id deadline replied.told_is in
      let kept : Contains book.events (taken_of t.x) = subst (λ (K : List Event). Contains K (taken_of t.x)) (sym replied.kept) t.kept in
      let named = subst (λ (i : List ℕ). Contains book.events (Taken i t.x.to t.x.cents t.x.stamp)) t.id_is kept in
      let own : ticket ≡ place_with_index book.who (position (takes id) (live_taken book.who book.events)) =
      is ∙ ap (λ (c : Bool). place_with_index book.who (cond c (position (takes id) (live_taken book.who book.events)) (arrived_at book.who id book.arrivals))) (eq-eqb book.who book.who refl) in
      subst (λ (c : Command). IsTicketOf sees s book.who c book.events (tells_taken id deadline) ticket) (sym t.command_is)
      (submitted b book s id deadline t.x ticket sees lawful replied.settings_are replied.sound t.id_is named seen (position (takes id) (live_taken book.who book.events)) refl own)

  -- an own transfer was not forwarded
  own_or_forwarded : (b : B) (book : Book) (s : HubSettings) (from : ℕ) (id : List ℕ) → IsSound s book.who book.events → from ≡ book.who → is_forwarded from id book.events ≡ true → ⊥
  own_or_forwarded b book s from id sound own forwarded = false≢true (sym (own_unforwarded s book.who id book.events sound) ∙ ap (λ (p : ℕ). is_forwarded p id book.events) (sym own) ∙ forwarded)

  -- a transfer lies at one place
  lies_once : (b : B) (book : Book) (s : HubSettings) (from : ℕ) (id : List ℕ) (i j : ℕ) → IsLawfulBoard settings knows has_role b book → IsSound s book.who book.events → LiesAt book from id i → LiesAt book from id j → i ≡ j
  lies_once b book s from id i j lawful sound (inl (own, t)) (inl (same, u)) =
      same_index (takes id) (live_taken book.who book.events) i j (Taken id t.to t.cents t.stamp) (Taken id u.to u.cents u.stamp) (taken_once_live s book.who id book.events sound) t.there u.there (same_text_refl id) (same_text_refl id)
  lies_once b book s from id i j lawful sound (inl (own, t)) (inr at) = absurd (own_or_forwarded b book s from id sound own (arrived_live b book from id j lawful at).0)
  lies_once b book s from id i j lawful sound (inr at) (inl (own, t)) = absurd (own_or_forwarded b book s from id sound own (arrived_live b book from id i lawful at).0)
  lies_once b book s from id i j lawful sound (inr here) (inr there) = let same : Some i ≡ Some j = sym here ∙ there in cc

  -- what is known of the place where a transfer lies
  in_state : (b : B) (book : Book) (s : HubSettings) (from : ℕ) (id : List ℕ) (index : ℕ) (state : StateValue) (sees : Fact → Type 0) → IsLawfulBoard settings knows has_role b book → IsSound s book.who book.events
      → LiesAt book from id index → ((f : Fact) → knows b f → sees f) → ((o : Outcome) → state ≡ IsDecided o → booked from id book.events ≡ Some o) → IsInState sees id state (place_at from index)
  in_state b book s from id index state sees lawful sound lies saw outcome =
      let k : Place = place_at from index in
      let l = lying settings knows has_role b book from id index lawful lies in
      record {
        terms = l.terms;
        id_is = l.id_is;
        opened = saw (about k Opened) l.known.opened;
        has_terms = saw (about k (HasTerms l.terms)) l.known.terms;
        outcome = λ o decided.
            let end = lawful.booked_known from id o (outcome o decided) (lies_live b book from id index lawful lies) in
            saw (about k (Decided o)) (subst (λ (n : ℕ). knows b (about (place_at from n) (Decided o))) (lies_once b book s from id end.index index lawful sound end.lies lies) end.known);
      }

  -- a transfer of the participant's without a place isn't live
  unplaced : (b : B) (book : Book) (s : HubSettings) (from : ℕ) (id : List ℕ) → IsLawfulBoard settings knows has_role b book → AllAreAdopted book → IsSound s book.who book.events
      → ((from ≡ book.who) × (is_taken id book.events ≡ true)) ⊎ (is_forwarded from id book.events ≡ true)
      → (own : Bool) → (from == book.who) ≡ own → cond own (position (takes id) (live_taken book.who book.events)) (arrived_at from id book.arrivals) ≡ None → is_live from id book.events ≡ false
  unplaced b book s from id lawful adopted sound (inl (own, taken)) true mine nowhere = ap (λ (p : ℕ). is_live p id book.events) own ∙ own_unlive book.who book.events id taken nowhere
  unplaced b book s from id lawful adopted sound (inl (own, taken)) false mine nowhere = absurd (false≢true (sym mine ∙ eq-eqb from book.who own))
  unplaced b book s from id lawful adopted sound (inr forwarded) true mine nowhere = absurd (own_or_forwarded b book s from id sound (eqb-true from book.who mine) forwarded)
  unplaced b book s from id lawful adopted sound (inr forwarded) false mine nowhere = go (is_live from id book.events) refl
    where
      go : (live : Bool) → is_live from id book.events ≡ live → is_live from id book.events ≡ false
      go false e = e
      go true e = absurd (false≢true (sym (ap is_some nowhere) ∙ is_adopted settings knows has_role b book from id lawful adopted forwarded e))

  lies_there : (book : Book) (from : ℕ) (id : List ℕ) (index : ℕ) (own : Bool) → (from == book.who) ≡ own → cond own (position (takes id) (live_taken book.who book.events)) (arrived_at from id book.arrivals) ≡ Some index → LiesAt book from id index
  lies_there book from id index true mine e = inl (eqb-true from book.who mine, taken_at_position book id index e)
  lies_there book from id index false mine e = inr e

  -- the ticket of a transfer whose state is told
  pub ticket_state : (b : B) (book : Book) (s : HubSettings) (J : List Event) (command : Command) (at : ℕ) (found : Option Outcome) (from : ℕ) (id : List ℕ) (state : StateValue) (ticket : Option Place) (sees : Fact → Type 0) →
      IsLawfulBoard settings knows has_role b book → AllAreAdopted book → IsReplied s J command at found (tells_state from id state) book →
      ticket ≡ place_of book from id → ((k : Place) → ticket ≡ Some k → (f : Fact) → knows b f → sees f) →
      IsTicketOf sees s book.who command book.events (tells_state from id state) ticket
  ticket_state b book s J command at found from id state ticket sees lawful adopted replied is seen =
      go (cond (from == book.who) (position (takes id) (live_taken book.who book.events)) (arrived_at from id book.arrivals)) refl is
    where
      X : List Event
      X = kept_events (handle s book.who J command at found)

      party : ((from ≡ book.who) × (is_taken id book.events ≡ true)) ⊎ (is_forwarded from id book.events ≡ true)
      party = ⊎_elim
          (λ own. inl (own.0, still_there (takes id) J X book.events replied.kept own.1))
          (λ forwarded. inr (still_there (forwards from id) J X book.events replied.kept forwarded))
          (state_told s book.who J command at found from id state replied.told_is).party

      outcome : (o : Outcome) → state ≡ IsDecided o → booked from id book.events ≡ Some o
      outcome o decided = ap (booked from id) replied.kept ∙ (state_told s book.who J command at found from id state replied.told_is).outcome o decided

      go : (o : Option ℕ) → cond (from == book.who) (position (takes id) (live_taken book.who book.events)) (arrived_at from id book.arrivals) ≡ o → ticket ≡ place_with_index from o
          → IsTicketOf sees s book.who command book.events (tells_state from id state) ticket
      go None e told = subst (IsTicketOf sees s book.who command book.events (tells_state from id state)) (sym told) (unplaced b book s from id lawful adopted replied.sound party (from == book.who) refl e)
      go (Some index) e told = subst (IsTicketOf sees s book.who command book.events (tells_state from id state)) (sym told)
          (let lies = lies_there book from id index (from == book.who) refl e in
          (refl, lies_live b book from id index lawful lies, in_state b book s from id index state sees lawful replied.sound lies (seen (place_at from index) told) outcome))
