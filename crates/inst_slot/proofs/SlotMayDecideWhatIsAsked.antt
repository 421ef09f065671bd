-- What a command asks the board to decide, the slot may decide; and what it finds is booked.
use Rattle.std.proofs.Common.{◌≡◌, ◌⊎◌, ℕ, suc, arith, ◌+◌, Bool, true, false, not, ◌||◌, ◌&&◌, cond, List, [], ◌∷◌, length, inl, inr, refl, sym, ap, ◌∙◌, subst, Option, Some, None, is_none, is_some}
use Rattle.std.specs.Prelude.{slice_get, position, get_or, nat_lt, Result, Err}
use Rattle.std.specs.List.{list_any, filter, position_or_len}
use Rattle.std.specs.Cmp.Lexicographic.{same_text as text_same}
use Rattle.std.proofs.lemmas.Bool.{false≢true, true≢false}
use Rattle.std.proofs.lemmas.Bool.Decides.{nat_tests}
use Rattle.std.proofs.lemmas.List.Quantifiers.{position-Some}
use Rattle.std.proofs.lemmas.Option.{slice_get-get_or}
use Rattle.inst_base.specs.TimeLimit.{deadline_of}
use Rattle.inst_base.specs.declared.fault.Fault.{Fault}
use Rattle.inst_base.specs.declared.fault.Fault.TheVariants.{UnknownTransfer, Expired}
use Rattle.inst_settings.specs.Settings.{HubSettings, same_text}
use Rattle.inst_command.specs.declared.command.Command.{Command}
use Rattle.inst_command.specs.declared.command.Command.TheVariants.{Fund, Defund, Submit, Confirm, Reject, Investigate, Fetch, Query}
use Rattle.inst_command.specs.declared.outcome.Outcome.{Outcome}
use Rattle.inst_terms.specs.declared.terms.Terms.{Terms}
use Rattle.inst_command.specs.declared.place.Place.{Place}
use Rattle.inst_board.specs.declared.wish.Wish.{Wish}
use Rattle.inst_board.specs.declared.wish.Wish.TheVariants.{Accept, Reject as WishReject, Expire}
use Rattle.inst_board.specs.declared.about.Fact.{Fact}
use Rattle.inst_board.specs.Laws.{KnowsOpening}
use Rattle.inst_board.specs.Learning.{MayDecide, IsParty}
use Rattle.inst_journal.specs.declared.event.Event.{Event}
use Rattle.inst_journal.specs.declared.event.Event.TheVariants.{Funded, Defunded, Taken, Forwarded, Booked, Fetched, Opened as OpenedEvent}
use Rattle.inst_journal.specs.declared.handle.Handled.{Handled}
use Rattle.inst_journal.specs.Booked.{takes, is_taken, is_forwarded, booked}
use Rattle.inst_journal.specs.Opened.{carried, takes_live, live_taken}
use Rattle.inst_journal.specs.Reply.{handle, kept_event, kept_events, state_reply, still_pending}
use Rattle.inst_journal.proofs.EventsCarriedOverOpening.{carried_unbooked}
use Rattle.inst_slot.specs.Book.{Book, place_at, terms_to, arrived_at}
use Rattle.inst_slot.specs.LawfulBoard.{IsTakenAt, LiesAt, IsLawfulBoard, IsAdopted}
use Rattle.inst_slot.specs.Asking.{wish_for, request, decides, AsksAdopted}
use Rattle.inst_slot.specs.Telling.{booking}
use Rattle.inst_slot.specs.inner.Answering.{decided_id, is_expiry, pending_for}
use Rattle.inst_slot.proofs.BoardStaysLawful.{arrival_at}
use Rattle.inst_slot.proofs.ResolutionFitsBooks.{taken_is, arrival_forwarded}

-- a wish for a place is for one with nothing booked
pub record IsWished (wish : Wish) (owner : ℕ) (outcome : Option Outcome) (found : Option ℕ) (asked : Place × Wish) : Type 0 where
  pub index : ℕ
  pub none : outcome ≡ None
  pub at : found ≡ Some index
  pub asked_is : asked ≡ (place_at owner index, wish)

pub wished : (wish : Wish) (owner : ℕ) (outcome : Option Outcome) (found : Option ℕ) (asked : Place × Wish) → wish_for wish owner outcome found ≡ Some asked → IsWished wish owner outcome found asked
wished wish owner None (Some index) asked e = let same : asked ≡ (place_at owner index, wish) = cc in record { index = index; none = refl; at = refl; asked_is = same }
wished wish owner None None asked e = let no : ⊥ = cc in absurd no
wished wish owner (Some outcome) found asked e = let no : ⊥ = cc in absurd no

-- the event at the first index that passes
pub position_at : (p : Event → Bool) (xs : List Event) (i : ℕ) → position p xs ≡ Some i → (x : Event) × (slice_get xs i ≡ Some x) × (p x ≡ true)
position_at p xs i e =
    let first = position-Some p xs i OpenedEvent e in
    (get_or xs i OpenedEvent, slice_get-get_or xs i OpenedEvent first.0, first.1)

takes_it : (who : ℕ) (C : List Event) (id : List ℕ) (e : Event) → takes id e ≡ true → (to : ℕ) × (cents : ℕ) × (stamp : ℕ) × (e ≡ Taken id to cents stamp)
takes_it who C id (Taken other to cents stamp) h = (to, cents, stamp, ap (λ (i : List ℕ). Taken i to cents stamp) (text_same other id (sym h)))
takes_it who C id (Funded funding) h = absurd (false≢true h)
takes_it who C id (Defunded funding) h = absurd (false≢true h)
takes_it who C id (Forwarded from other cents d) h = absurd (false≢true h)
takes_it who C id (Booked from other o) h = absurd (false≢true h)
takes_it who C id (Fetched n) h = absurd (false≢true h)
takes_it who C id OpenedEvent h = absurd (false≢true h)

pub taken_at_position : (book : Book) (id : List ℕ) (index : ℕ) → position (takes id) (live_taken book.who book.events) ≡ Some index → IsTakenAt book id index
taken_at_position book id index e =
    let x = position_at (takes id) (live_taken book.who book.events) index e in
    let t = takes_it book.who [] id x.0 x.2 in
    record { to = t.0; cents = t.1; stamp = t.2; there = x.1 ∙ ap (λ (y : Event). Some y) t.3 }

-- what a side with nothing booked keeps
standing_kept : (from : ℕ) (id : List ℕ) (pending : Result Handled Fault) (known found : Option Outcome) (b : Bool) → b ≡ true → known ≡ None → kept_events pending ≡ []
    → kept_events (cond b (state_reply from id pending known found) (Err UnknownTransfer)) ≡ kept_event (booking from id found)
standing_kept from id pending None None true yes_is none nothing = nothing
standing_kept from id pending None (Some o) true yes_is none nothing = refl
standing_kept from id pending (Some o) found true yes_is none nothing = let no : ⊥ = cc in absurd no
standing_kept from id pending known found false yes_is none nothing = absurd (false≢true yes_is)

-- what a side with nothing booked is answered
standing_answered : (from : ℕ) (id : List ℕ) (pending : Result Handled Fault) (known found : Option Outcome) (b : Bool) → b ≡ true → known ≡ None
    → cond b (state_reply from id pending known found) (Err UnknownTransfer) ≡ state_reply from id pending None found
standing_answered from id pending known found b yes_is none =
    ap (λ (b : Bool). cond b (state_reply from id pending known found) (Err UnknownTransfer)) yes_is ∙ ap (λ (k : Option Outcome). state_reply from id pending k found) none

module _ {B : Type 0} (settings : B → HubSettings) (knows : B → Fact → Type 0) (has_role : B → ℕ → Type 0) where
  -- what a command asks of the board: a place of the books where nothing is booked, which the slot may decide
  pub record IsAsked (b : B) (book : Book) (command : Command) (asked : Place × Wish) : Type 0 where
    pub id : List ℕ
    pub lies : LiesAt book asked.0.owner id asked.0.index
    pub none : booked asked.0.owner id book.events ≡ None
    pub may : MayDecide knows has_role b asked.0 asked.1
    pub mine : (asked.1 ≡ Expire) ⊎ (may.terms.to ≡ book.who)
    pub kept : (at : ℕ) (found : Option Outcome) → kept_events (handle book.settings book.who book.events command at found) ≡ kept_event (booking asked.0.owner id found)
    pub id_is : id ≡ decided_id command
    pub answered : (at : ℕ) (found : Option Outcome) → handle book.settings book.who book.events command at found ≡ state_reply asked.0.owner id (pending_for asked.1 asked.0.owner id) None found
    pub answers : is_expiry asked.1 ≡ false → is_forwarded asked.0.owner id book.events ≡ true

  may_answer : (b : B) (book : Book) (from : ℕ) (id : List ℕ) (index : ℕ) (wish : Wish) → IsLawfulBoard settings knows has_role b book → arrived_at from id book.arrivals ≡ Some index
      → ((t : Terms) → t.to ≡ book.who → has_role b t.to → IsParty (has_role b) wish (place_at from index) t) → MayDecide knows has_role b (place_at from index) wish
  may_answer b book from id index wish was at party =
      let x = arrival_at from id index book.arrivals at in
      let t : Terms = terms_to book.who x.arrival.entry.cents x.arrival.entry.id in
      let kn = subst (λ (n : ℕ). KnowsOpening knows b (place_at n index) t x.arrival.entry.deadline) x.from_is (was.forwarded_known x.arrival index x.there x.index_is) in
      record { terms = t; deadline = x.arrival.entry.deadline; opened = kn.opened; has_terms = kn.terms; due = kn.due; party = party t refl was.role }

  mine_answer : (b : B) (book : Book) (from : ℕ) (id : List ℕ) (index : ℕ) (wish : Wish) (was : IsLawfulBoard settings knows has_role b book) (at : arrived_at from id book.arrivals ≡ Some index)
      (party : (t : Terms) → t.to ≡ book.who → has_role b t.to → IsParty (has_role b) wish (place_at from index) t) → (may_answer b book from id index wish was at party).terms.to ≡ book.who
  unfolding may_answer
  mine_answer b book from id index wish was at party = refl

  pub may_expire : (b : B) (book : Book) (id : List ℕ) (index : ℕ) → IsLawfulBoard settings knows has_role b book → IsTakenAt book id index → MayDecide knows has_role b (place_at book.who index) Expire
  may_expire b book id index was t =
      let kn = was.taken_known index id t.to t.cents t.stamp t.there in
      record { terms = terms_to t.to t.cents id; deadline = deadline_of book.settings.limit t.stamp; opened = kn.opened; has_terms = kn.terms; due = kn.due; party = inl was.role }

  forwarded_at : (b : B) (book : Book) (from : ℕ) (id : List ℕ) (index : ℕ) → IsLawfulBoard settings knows has_role b book → arrived_at from id book.arrivals ≡ Some index → is_forwarded from id book.events ≡ true
  forwarded_at b book from id index was at =
      let x = arrival_at from id index book.arrivals at in
      let f = (arrival_forwarded settings knows has_role b book x.arrival was x.there).0 in
      subst (λ (i : List ℕ). is_forwarded from i book.events ≡ true) x.id_is (subst (λ (p : ℕ). is_forwarded p x.arrival.entry.id book.events ≡ true) x.from_is f)

  pub asked : (b : B) (book : Book) (command : Command) (k : Place × Wish) → IsLawfulBoard settings knows has_role b book → request book command ≡ Some k → IsAsked b book command k
  asked b book (Confirm from id) k was e =
      let w = wished Accept from (booked from id book.events) (arrived_at from id book.arrivals) k e in
      let r : IsAsked b book (Confirm from id) (place_at from w.index, Accept) = record {
        id = id;
        lies = inr w.at;
        none = w.none;
        may = may_answer b book from id w.index Accept was w.at (λ t to role. role);
        mine = inr (mine_answer b book from id w.index Accept was w.at (λ t to role. role));
        kept = λ at found. standing_kept from id (Err Expired) (booked from id book.events) found (is_forwarded from id book.events) (forwarded_at b book from id w.index was w.at) w.none refl;
        id_is = refl;
        answered = λ at found. standing_answered from id (Err Expired) (booked from id book.events) found (is_forwarded from id book.events) (forwarded_at b book from id w.index was w.at) w.none;
        answers = λ h. forwarded_at b book from id w.index was w.at;
      } in
      subst (λ (x : Place × Wish). IsAsked b book (Confirm from id) x) (sym w.asked_is) r
  asked b book (Reject from id reason) k was e =
      let w = wished (WishReject reason) from (booked from id book.events) (arrived_at from id book.arrivals) k e in
      let r : IsAsked b book (Reject from id reason) (place_at from w.index, WishReject reason) = record {
        id = id;
        lies = inr w.at;
        none = w.none;
        may = may_answer b book from id w.index (WishReject reason) was w.at (λ t to role. role);
        mine = inr (mine_answer b book from id w.index (WishReject reason) was w.at (λ t to role. role));
        kept = λ at found. standing_kept from id (still_pending from id) (booked from id book.events) found (is_forwarded from id book.events) (forwarded_at b book from id w.index was w.at) w.none refl;
        id_is = refl;
        answered = λ at found. standing_answered from id (still_pending from id) (booked from id book.events) found (is_forwarded from id book.events) (forwarded_at b book from id w.index was w.at) w.none;
        answers = λ h. forwarded_at b book from id w.index was w.at;
      } in
      subst (λ (x : Place × Wish). IsAsked b book (Reject from id reason) x) (sym w.asked_is) r
  asked b book (Investigate id) k was e =
      let w = wished Expire book.who (booked book.who id book.events) (position (takes id) (live_taken book.who book.events)) k e in
      let t = taken_at_position book id w.index w.at in
      let r : IsAsked b book (Investigate id) (place_at book.who w.index, Expire) = record {
        id = id;
        lies = inl (refl, t);
        none = w.none;
        may = may_expire b book id w.index was t;
        mine = inl refl;
        kept = λ at found. standing_kept book.who id (still_pending book.who id) (booked book.who id book.events) found (is_taken id book.events) (taken_is book id w.index t) w.none refl;
        id_is = refl;
        answered = λ at found. standing_answered book.who id (still_pending book.who id) (booked book.who id book.events) found (is_taken id book.events) (taken_is book id w.index t) w.none;
        answers = λ h. absurd (true≢false h);
      } in
      subst (λ (x : Place × Wish). IsAsked b book (Investigate id) x) (sym w.asked_is) r
  asked b book (Fund funding) k was e = let no : ⊥ = cc in absurd no
  asked b book (Defund funding) k was e = let no : ⊥ = cc in absurd no
  asked b book (Submit x) k was e = let no : ⊥ = cc in absurd no
  asked b book (Fetch max) k was e = let no : ⊥ = cc in absurd no
  asked b book (Query query) k was e = let no : ⊥ = cc in absurd no

next_less : (a b : ℕ) → nat_lt (1 + a) (suc b) ≡ nat_lt a b
next_less a b = grind (arith, nat_tests)

zero_less : (b : ℕ) → nat_lt 0 (suc b) ≡ true
zero_less b = grind (arith, nat_tests)

-- an index is found exactly where something passes
first_within : (p : Event → Bool) (xs : List Event) → nat_lt (position_or_len p xs) (length xs) ≡ list_any p xs
first_within p [] = refl
first_within p (x ∷ xs) = elim (p x) as (λ (b : Bool). nat_lt (cond (not b) (1 + position_or_len p xs) 0) (suc (length xs)) ≡ (b || list_any p xs)) [
  | true ↦ zero_less (length xs)
  | false ↦ next_less (position_or_len p xs) (length xs) ∙ first_within p xs
]

some_if : (b : Bool) (i : ℕ) → is_some (cond b (Some i) None) ≡ b
some_if true i = refl
some_if false i = refl

pub position_found : (p : Event → Bool) (xs : List Event) → is_some (position p xs) ≡ list_any p xs
position_found p xs = some_if (nat_lt (position_or_len p xs) (length xs)) (position_or_len p xs) ∙ first_within p xs

live_step : (who : ℕ) (C : List Event) (id other : List ℕ) (to cents stamp : ℕ) (J L : List Event) → booked who id C ≡ None → list_any (takes id) L ≡ list_any (takes id) J
    → (l : Bool) → is_none (booked who other C) ≡ l → (t : Bool) → same_text other id ≡ t → list_any (takes id) (cond l (Taken other to cents stamp ∷ L) L) ≡ (same_text other id || list_any (takes id) J)
live_step who C id other to cents stamp J L none rest true live t same = ap (λ (b : Bool). same_text other id || b) rest
live_step who C id other to cents stamp J L none rest false live true same =
    absurd (false≢true (sym live ∙ ap (λ (i : List ℕ). is_none (booked who i C)) (text_same other id (sym same)) ∙ ap is_none none))
live_step who C id other to cents stamp J L none rest false live false same = rest ∙ sym (ap (λ (b : Bool). b || list_any (takes id) J) same)

-- what was taken and isn't booked is live
taken_live : (who : ℕ) (C : List Event) (id : List ℕ) → booked who id C ≡ None → (J : List Event) → list_any (takes id) (filter (takes_live who C) J) ≡ list_any (takes id) J
taken_live who C id none [] = refl
taken_live who C id none (Taken other to cents stamp ∷ J) =
    live_step who C id other to cents stamp J (filter (takes_live who C) J) none (taken_live who C id none J) (is_none (booked who other C)) refl (same_text other id) refl
taken_live who C id none (Funded funding ∷ J) = taken_live who C id none J
taken_live who C id none (Defunded funding ∷ J) = taken_live who C id none J
taken_live who C id none (Forwarded from other cents d ∷ J) = taken_live who C id none J
taken_live who C id none (Booked from other o ∷ J) = taken_live who C id none J
taken_live who C id none (Fetched n ∷ J) = taken_live who C id none J
taken_live who C id none (OpenedEvent ∷ J) = taken_live who C id none J

wish_some : (wish : Wish) (owner : ℕ) (known : Option Outcome) (found : Option ℕ) (there : Bool) → (known ≡ None → is_some found ≡ there) → is_some (wish_for wish owner known found) ≡ (there && is_none known)
wish_some wish owner None (Some index) there same = same refl ∙ sym (and_yes there)
  where
    and_yes : (b : Bool) → (b && true) ≡ b
    and_yes true = refl
    and_yes false = refl
wish_some wish owner None None there same = same refl ∙ sym (and_yes there)
  where
    and_yes : (b : Bool) → (b && true) ≡ b
    and_yes true = refl
    and_yes false = refl
wish_some wish owner (Some o) found there same = sym (and_no there)
  where
    and_no : (b : Bool) → (b && false) ≡ false
    and_no true = refl
    and_no false = refl

module _ {B : Type 0} (settings : B → HubSettings) (knows : B → Fact → Type 0) (has_role : B → ℕ → Type 0) where
  adopted_found : (b : B) (book : Book) (from : ℕ) (id : List ℕ) → IsLawfulBoard settings knows has_role b book → IsAdopted book from id → booked from id book.events ≡ None
      → is_some (arrived_at from id book.arrivals) ≡ is_forwarded from id book.events
  adopted_found b book from id was adopted none = go (is_forwarded from id book.events) refl (arrived_at from id book.arrivals) refl
    where
      go : (f : Bool) → is_forwarded from id book.events ≡ f → (o : Option ℕ) → arrived_at from id book.arrivals ≡ o → is_some o ≡ f
      go true there (Some index) e = refl
      go true there None e = ap is_some (sym e) ∙ adopted there (ap is_none (carried_unbooked from id book.events none))
      go false there (Some index) e = absurd (false≢true (sym there ∙ forwarded_at settings knows has_role b book from id index was e))
      go false there None e = refl

  -- a place is asked for exactly where the command decides
  pub asks_where_it_decides : (b : B) (book : Book) (command : Command) → IsLawfulBoard settings knows has_role b book → AsksAdopted book command → is_some (request book command) ≡ decides book command
  asks_where_it_decides b book (Confirm from id) was adopted =
      wish_some Accept from (booked from id book.events) (arrived_at from id book.arrivals) (is_forwarded from id book.events) (adopted_found b book from id was adopted)
  asks_where_it_decides b book (Reject from id reason) was adopted =
      wish_some (WishReject reason) from (booked from id book.events) (arrived_at from id book.arrivals) (is_forwarded from id book.events) (adopted_found b book from id was adopted)
  asks_where_it_decides b book (Investigate id) was adopted =
      wish_some Expire book.who (booked book.who id book.events) (position (takes id) (live_taken book.who book.events)) (is_taken id book.events)
      (λ none. position_found (takes id) (live_taken book.who book.events) ∙ taken_live book.who (carried book.events) id (carried_unbooked book.who id book.events none) book.events)
  asks_where_it_decides b book (Fund funding) was adopted = refl
  asks_where_it_decides b book (Defund funding) was adopted = refl
  asks_where_it_decides b book (Submit x) was adopted = refl
  asks_where_it_decides b book (Fetch max) was adopted = refl
  asks_where_it_decides b book (Query query) was adopted = refl
