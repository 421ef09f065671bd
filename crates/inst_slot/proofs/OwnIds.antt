-- The identifiers of a participant's own live transfers, and what the table of their indexes tells of the history.
use Rattle.std.proofs.Common.{◌≡◌, ℕ, zero, suc, Bool, true, false, not, ◌&&◌, ◌||◌, cond, List, [], ◌∷◌, ◌++◌, length, refl, sym, ap, ◌∙◌, subst, Option, Some, None, is_none, is_some}
use Rattle.std.specs.Prelude.{slice_get, position, map, nat_eq}
use Rattle.std.specs.List.{filter}
use Rattle.std.specs.Cmp.Lexicographic.{same_text as text_same}
use Rattle.std.proofs.lemmas.List.{map-append, length-map}
use Rattle.std.proofs.lemmas.Option.{same_Some}
use Rattle.std.proofs.lemmas.Bool.{false≢true, true≢false}
use Rattle.inst_base.specs.TimeLimit.{deadline_of}
use Rattle.inst_due.specs.Due.{is_of, has, comes_after, Adds, IsLeast}
use Rattle.inst_settings.specs.Settings.{HubSettings, same_text}
use Rattle.inst_settings.proofs.CodeTellsNumber.{same_text_refl}
use Rattle.inst_command.specs.declared.outcome.Outcome.{Outcome}
use Rattle.inst_command.specs.declared.outcome.State.TheVariants.{Unused}
use Rattle.inst_journal.specs.declared.event.Event.{Event}
use Rattle.inst_journal.specs.declared.event.Event.TheVariants.{Funded, Defunded, Taken, Forwarded, Booked, Fetched, Opened}
use Rattle.inst_journal.specs.Booked.{takes, booked}
use Rattle.inst_journal.specs.Opened.{carried, is_opening, takes_live, live_taken}
use Rattle.inst_journal.specs.Sound.{Fits, IsSound}
use Rattle.inst_journal.proofs.CountsOfEvents.{stranger_unbooked}
use Rattle.inst_journal.proofs.OwnBookings.{own_unforwarded}
use Rattle.inst_journal.proofs.Soundness.{sound_push}
use Rattle.inst_ledger.specs.Book.{LedgerBook as Kept, ledger_with_event}
use Rattle.inst_slot.specs.Book.{Book}
use Rattle.inst_slot.specs.Telling.{taken_by, if_unbooked, unbooked_at}
use Rattle.inst_ledger.specs.Right.{id_of, own_ids}
use Rattle.inst_slot.specs.inner.Indexed.{is_id}
use Rattle.inst_slot.specs.OwnState.{booked_state, state_of_taken, own_state}
use Rattle.inst_slot.specs.Waiting.{Deadlines, IsRightSlot, IsWaiting, GivesNextDue, waits, takes_waiting, deadline_in}
use Rattle.inst_slot.specs.inner.Waiting.{is_apart}
use Rattle.inst_slot.proofs.OwnTransfersThatWait.{books_own, waiting_after, and_true_is, taken_books_none, at_end}
use Rattle.inst_slot.proofs.CommandsThatDecideNothing.{takes_the_next}
use Rattle.inst_slot.proofs.LiveTransfersAfterEvent.{live_taken_still}
use Rattle.inst_slot.proofs.ElementAtIndex.{is_found}
use Rattle.inst_slot.proofs.Positions.{later, position_cons, passes_at}
use Rattle.inst_ledger.proofs.OwnIds.{live_taken_push}

same : (a b : List ℕ) → same_text a b ≡ true → a ≡ b
same a b h = text_same a b (sym h)

-- by the identifiers, an own live transfer stands where it stands by its submission
named_step : (id : List ℕ) (e : Event) (L : List Event) (b : Bool) → (b ≡ true → is_id id (id_of e) ≡ takes id e) → position (is_id id) (map id_of L) ≡ position (takes id) L
    → position (is_id id) (map id_of (cond b (e ∷ L) L)) ≡ position (takes id) (cond b (e ∷ L) L)
named_step id e L false here rest = rest
named_step id e L true here rest =
    position_cons (is_id id) (id_of e) (map id_of L) ∙ ap (λ (b : Bool). cond b (Some 0) (later (is_id id) (position (is_id id) (map id_of L)))) (here refl)
    ∙ ap (λ (o : Option ℕ). cond (takes id e) (Some 0) (shifted o)) rest ∙ sym (position_cons (takes id) e L)
  where
    shifted : Option ℕ → Option ℕ
    shifted o = later (takes id) o

own_position_in : (who : ℕ) (C : List Event) (id : List ℕ) (J : List Event) → position (is_id id) (map id_of (filter (takes_live who C) J)) ≡ position (takes id) (filter (takes_live who C) J)
own_position_in who C id [] = refl
own_position_in who C id (Taken other to cents stamp ∷ J) = named_step id (Taken other to cents stamp) (filter (takes_live who C) J) (is_none (booked who other C)) (λ h. refl) (own_position_in who C id J)
own_position_in who C id (Funded funding ∷ J) = own_position_in who C id J
own_position_in who C id (Defunded funding ∷ J) = own_position_in who C id J
own_position_in who C id (Forwarded from other cents d ∷ J) = own_position_in who C id J
own_position_in who C id (Booked from other o ∷ J) = own_position_in who C id J
own_position_in who C id (Fetched n ∷ J) = own_position_in who C id J
own_position_in who C id (Opened ∷ J) = own_position_in who C id J

pub own_position : (who : ℕ) (J : List Event) (id : List ℕ) → position (is_id id) (own_ids who J) ≡ position (takes id) (live_taken who J)
own_position who J id = own_position_in who (carried J) id J

-- the identifier at an index is that of the submission there
taken_step : (e : Event) (L : List Event) (b : Bool) → (b ≡ true → taken_by (Some e) ≡ Some (id_of e)) → ((i : ℕ) → slice_get (map id_of L) i ≡ taken_by (slice_get L i))
    → (i : ℕ) → slice_get (map id_of (cond b (e ∷ L) L)) i ≡ taken_by (slice_get (cond b (e ∷ L) L) i)
taken_step e L false here rest i = rest i
taken_step e L true here rest zero = sym (here refl)
taken_step e L true here rest (suc i) = rest i

own_taken_in : (who : ℕ) (C : List Event) (J : List Event) (i : ℕ) → slice_get (map id_of (filter (takes_live who C) J)) i ≡ taken_by (slice_get (filter (takes_live who C) J) i)
own_taken_in who C [] i = refl
own_taken_in who C (Taken other to cents stamp ∷ J) i = taken_step (Taken other to cents stamp) (filter (takes_live who C) J) (is_none (booked who other C)) (λ h. refl) (own_taken_in who C J) i
own_taken_in who C (Funded funding ∷ J) i = own_taken_in who C J i
own_taken_in who C (Defunded funding ∷ J) i = own_taken_in who C J i
own_taken_in who C (Forwarded from other cents d ∷ J) i = own_taken_in who C J i
own_taken_in who C (Booked from other o ∷ J) i = own_taken_in who C J i
own_taken_in who C (Fetched n ∷ J) i = own_taken_in who C J i
own_taken_in who C (Opened ∷ J) i = own_taken_in who C J i

pub own_taken : (who : ℕ) (J : List Event) (i : ℕ) → slice_get (own_ids who J) i ≡ taken_by (slice_get (live_taken who J) i)
own_taken who J i = own_taken_in who (carried J) J i

-- what is found at an index, by the identifiers
pub one_there : (book : Book) (ids : List (List ℕ)) (i : ℕ) (id : List ℕ) (o : Option Outcome) (b : Bool) → ids ≡ own_ids book.who book.events → slice_get ids i ≡ Some id → o ≡ booked book.who id book.events → is_some o ≡ b
    → unbooked_at book i ≡ cond b None (Some id)
one_there book ids i id o b same there known here =
    ap (if_unbooked book) (sym (own_taken book.who book.events i) ∙ ap (λ (l : List (List ℕ)). slice_get l i) (sym same) ∙ there)
    ∙ ap (λ (x : Option Outcome). cond (is_none x) (Some id) None) (sym known) ∙ either o b here
  where
    either : (o : Option Outcome) (b : Bool) → is_some o ≡ b → cond (is_none o) (Some id) None ≡ cond b None (Some id)
    either None b h = ap (λ (b : Bool). cond b None (Some id)) h
    either (Some x) b h = ap (λ (b : Bool). cond b None (Some id)) h

-- the state at an index, by the identifiers
pub unused_there : (who : ℕ) (J : List Event) (ids : List (List ℕ)) (i : ℕ) → ids ≡ own_ids who J → slice_get ids i ≡ None → own_state who J i ≡ Unused
unused_there who J ids i same none =
    of (slice_get (live_taken who J) i) (sym (own_taken who J i) ∙ ap (λ (l : List (List ℕ)). slice_get l i) (sym same) ∙ none)
  where
    of : (e : Option Event) → taken_by e ≡ None → state_of_taken who J e ≡ Unused
    of None h = refl
    of (Some (Taken id to cents stamp)) h = cc
    of (Some (Funded funding)) h = refl
    of (Some (Defunded funding)) h = refl
    of (Some (Forwarded from id cents d)) h = refl
    of (Some (Booked from id o)) h = refl
    of (Some (Fetched n)) h = refl
    of (Some Opened) h = refl

pub used_there : (who : ℕ) (J : List Event) (ids : List (List ℕ)) (i : ℕ) (id : List ℕ) → ids ≡ own_ids who J → slice_get ids i ≡ Some id → own_state who J i ≡ booked_state (booked who id J)
used_there who J ids i id same there =
    of (slice_get (live_taken who J) i) (sym (own_taken who J i) ∙ ap (λ (l : List (List ℕ)). slice_get l i) (sym same) ∙ there)
  where
    of : (e : Option Event) → taken_by e ≡ Some id → state_of_taken who J e ≡ booked_state (booked who id J)
    of None h = cc
    of (Some (Taken other to cents stamp)) h = ap (λ (x : List ℕ). booked_state (booked who x J)) (same_Some other id h)
    of (Some (Funded funding)) h = cc
    of (Some (Defunded funding)) h = cc
    of (Some (Forwarded from other cents d)) h = cc
    of (Some (Booked from other o)) h = cc
    of (Some (Fetched n)) h = cc
    of (Some Opened) h = cc

-- whether the event leaves the own live transfers as they are
abbrev pub moves_none : Event → Bool
moves_none (Taken id to cents stamp) = false
moves_none Opened = false
moves_none _ = true

-- an event of money or of the inbox moves and books no transfer
pub apart_moves_none : (e : Event) → is_apart e ≡ true → moves_none e ≡ true
apart_moves_none (Funded funding) apart = refl
apart_moves_none (Defunded funding) apart = refl
apart_moves_none (Fetched count) apart = refl
apart_moves_none (Taken id to cents stamp) apart = absurd (false≢true apart)
apart_moves_none (Forwarded from id cents d) apart = refl
apart_moves_none (Booked from id outcome) apart = refl
apart_moves_none Opened apart = absurd (false≢true apart)

pub apart_books_none : (e : Event) → is_apart e ≡ true → (from : ℕ) (id : List ℕ) (outcome : Outcome) → e ≡ Booked from id outcome → ⊥
apart_books_none e apart from id outcome is = false≢true (sym (ap is_apart is) ∙ apart)

pub still_taken : (who : ℕ) (J : List Event) (e : Event) → moves_none e ≡ true → live_taken who (J ++ e ∷ []) ≡ live_taken who J
still_taken who J e still = live_taken_still who J e (kinds e still).0 (kinds e still).1
  where
    kinds : (e : Event) → moves_none e ≡ true → (is_opening e ≡ false) × (takes_live who (carried J) e ≡ false)
    kinds (Funded funding) h = (refl, refl)
    kinds (Defunded funding) h = (refl, refl)
    kinds (Forwarded from other cents d) h = (refl, refl)
    kinds (Booked from other o) h = (refl, refl)
    kinds (Fetched n) h = (refl, refl)
    kinds (Taken other to cents stamp) h = absurd (true≢false (sym h))
    kinds Opened h = absurd (true≢false (sym h))

pub more_taken : (s : HubSettings) (who : ℕ) (J : List Event) (id : List ℕ) (to cents stamp : ℕ) → IsSound s who J → Fits s who J (Taken id to cents stamp) → live_taken who (J ++ Taken id to cents stamp ∷ []) ≡ live_taken who J ++ Taken id to cents stamp ∷ []
more_taken s who J id to cents stamp sound fits = live_taken_push who J (Taken id to cents stamp) true refl (takes_the_next s who J id to cents stamp sound fits)

-- what waits, by what waited: one event more that moves none
waits_still : (s : HubSettings) (who : ℕ) (J : List Event) (e : Event) (ids : List (List ℕ)) (w v : Deadlines) → ids ≡ own_ids who J → IsWaiting s who J w → moves_none e ≡ true → v.deadlines ≡ w.deadlines
    → ((d k : ℕ) → has v.pairs d k ≡ (has w.pairs d k && not (books_own who e (slice_get ids k)))) → IsWaiting s who (J ++ e ∷ []) v
waits_still s who J e ids w v held was still same out = record {
  deadlines = same ∙ was.deadlines ∙ ap (map (deadline_in s)) (sym (still_taken who J e still));
  pairs = λ d k.
      let o : Option Event = slice_get (live_taken who J) k in
      out d k ∙ ap (λ (b : Bool). b && not (books_own who e (slice_get ids k))) (was.pairs d k)
      ∙ ap (λ (x : Option (List ℕ)). takes_waiting s who J d o && not (books_own who e x)) (ap (λ (l : List (List ℕ)). slice_get l k) held ∙ own_taken who J k)
      ∙ sym (waiting_after s who J e d o)
      ∙ ap (λ (l : List Event). takes_waiting s who (J ++ e ∷ []) d (slice_get l k)) (sym (still_taken who J e still));
}

pub keeps_right : (old new : Kept) (ids : List (List ℕ)) (w v : Deadlines) (e : Event) → IsRightSlot old.settings old.who old.events ids w → Fits old.settings old.who old.events e → moves_none e ≡ true → new ≡ ledger_with_event old e
    → v.deadlines ≡ w.deadlines → (who : ℕ) → who ≡ old.who → ((d k : ℕ) → has v.pairs d k ≡ (has w.pairs d k && not (books_own who e (slice_get ids k)))) → IsRightSlot new.settings new.who new.events ids v
keeps_right old new ids w v e right fits still ok same who own out =
    subst (λ (x : Kept). IsRightSlot x.settings x.who x.events ids v) (sym ok) (
      right.0,
      sound_push old.settings old.who old.events e right.1 fits,
      right.2 ∙ ap (map id_of) (sym (still_taken old.who old.events e still)),
      waits_still old.settings old.who old.events e ids w v right.2 right.3 still same (subst (λ (n : ℕ). (d k : ℕ) → has v.pairs d k ≡ (has w.pairs d k && not (books_own n e (slice_get ids k)))) own out),
    )

-- one submission more
waits_more : (s : HubSettings) (who : ℕ) (J : List Event) (id : List ℕ) (to cents stamp : ℕ) (w v : Deadlines) → IsSound s who J → Fits s who J (Taken id to cents stamp) → IsWaiting s who J w → v.deadlines ≡ w.deadlines ++ deadline_of s.limit stamp ∷ []
    → Adds w.pairs v.pairs (deadline_of s.limit stamp) (length w.deadlines) → IsWaiting s who (J ++ Taken id to cents stamp ∷ []) v
waits_more s who J id to cents stamp w v sound fits was more adds =
    let e : Event = Taken id to cents stamp in
    let L : List Event = live_taken who J in
    let new : live_taken who (J ++ e ∷ []) ≡ L ++ e ∷ [] = more_taken s who J id to cents stamp sound fits in
    let none : booked who id J ≡ None = stranger_unbooked s who who id J sound (λ own. fits.new) (own_unforwarded s who id J sound) in
    let long : length w.deadlines ≡ length L = ap length was.deadlines ∙ length-map L (deadline_in s) in
    record {
      deadlines = more ∙ ap (λ (l : List ℕ). l ++ deadline_of s.limit stamp ∷ []) was.deadlines ∙ sym (ap (map (deadline_in s)) new ∙ map-append (deadline_in s) L (e ∷ []));
      pairs = λ d k.
          let now : Event → Bool = λ x. takes_waiting s who (J ++ e ∷ []) d (Some x) in
          let first : takes_waiting s who J d (slice_get L k) ≡ takes_waiting s who (J ++ e ∷ []) d (slice_get L k) =
          and_true_is (takes_waiting s who J d (slice_get L k)) ∙ ap (λ (b : Bool). takes_waiting s who J d (slice_get L k) && not b) (sym (taken_books_none who id to cents stamp (taken_by (slice_get L k)))) ∙ sym (waiting_after s who J e d (slice_get L k)) in
          let last : nat_eq d (deadline_of s.limit stamp) ≡ takes_waiting s who (J ++ e ∷ []) d (Some e) =
          ap (λ (o : Option Outcome). is_none o && nat_eq d (deadline_of s.limit stamp)) (sym none) ∙ and_true_is (takes_waiting s who J d (Some e)) ∙ sym (waiting_after s who J e d (Some e)) in
          adds d k ∙ ap (λ (b : Bool). b || is_of (deadline_of s.limit stamp) (length w.deadlines) (d, k)) (was.pairs d k ∙ first)
          ∙ ap (λ (n : ℕ). takes_waiting s who (J ++ e ∷ []) d (slice_get L k) || (nat_eq d (deadline_of s.limit stamp) && nat_eq k n)) long
          ∙ ap (λ (b : Bool). takes_waiting s who (J ++ e ∷ []) d (slice_get L k) || (b && nat_eq k (length L))) last
          ∙ sym (at_end s who (J ++ e ∷ []) d e L k)
          ∙ ap (λ (l : List Event). takes_waiting s who (J ++ e ∷ []) d (slice_get l k)) (sym new);
    }

pub own_more : (s : HubSettings) (who : ℕ) (J : List Event) (id : List ℕ) (to cents stamp : ℕ) → IsSound s who J → Fits s who J (Taken id to cents stamp) → own_ids who (J ++ Taken id to cents stamp ∷ []) ≡ own_ids who J ++ id ∷ []
own_more s who J id to cents stamp sound fits =
    ap (map id_of) (live_taken_push who J (Taken id to cents stamp) true refl (takes_the_next s who J id to cents stamp sound fits))
    ∙ map-append id_of (live_taken who J) (Taken id to cents stamp ∷ [])

pub takes_right : (old new : Kept) (ids more : List (List ℕ)) (w v : Deadlines) (id : List ℕ) (to cents stamp : ℕ) → IsRightSlot old.settings old.who old.events ids w → Fits old.settings old.who old.events (Taken id to cents stamp)
    → more ≡ ids ++ id ∷ [] → v.deadlines ≡ w.deadlines ++ deadline_of old.settings.limit stamp ∷ [] → Adds w.pairs v.pairs (deadline_of old.settings.limit stamp) (length w.deadlines) → new ≡ ledger_with_event old (Taken id to cents stamp)
    → IsRightSlot new.settings new.who new.events more v
takes_right old new ids more w v id to cents stamp right fits added longer adds ok =
    let e : Event = Taken id to cents stamp in
    subst (λ (x : Kept). IsRightSlot x.settings x.who x.events more v) (sym ok) (
      right.0,
      sound_push old.settings old.who old.events e right.1 fits,
      added ∙ ap (λ (l : List (List ℕ)). l ++ id ∷ []) right.2 ∙ sym (own_more old.settings old.who old.events id to cents stamp right.1 fits),
      waits_more old.settings old.who old.events id to cents stamp w v right.1 fits right.3 longer adds,
    )

-- what comes next of what waits
pub next_due : (book : Book) (pairs : List (ℕ × ℕ)) (pair : Option (ℕ × ℕ)) (next : Option (ℕ × ℕ)) → ((d k : ℕ) → has pairs d k ≡ waits book.settings book.who book.events d k) → IsLeast pairs (comes_after pair) next → GivesNextDue book pair next
next_due book pairs pair None same least = λ d k there. least d k (same d k ∙ there)
next_due book pairs pair (Some first) same least = record {
  there = sym (same first.0 first.1) ∙ least.there;
  passing = least.passing;
  least = λ d k there after. least.least d k (same d k ∙ there) after;
}

-- what is right by the identifiers that are the history's own
pub re_listed : {s : HubSettings} {who : ℕ} {J : List Event} {ids : List (List ℕ)} {w : Deadlines} → IsRightSlot s who J ids w → IsRightSlot s who J (own_ids who J) w
re_listed h = (h.0, h.1, refl, h.3)

pub keeps_over : (old new : Kept) (w v : Deadlines) (e : Event) → IsRightSlot old.settings old.who old.events (own_ids old.who old.events) w → Fits old.settings old.who old.events e → moves_none e ≡ true → new ≡ ledger_with_event old e
    → v.deadlines ≡ w.deadlines → (who : ℕ) → who ≡ old.who → ((d k : ℕ) → has v.pairs d k ≡ (has w.pairs d k && not (books_own who e (slice_get (own_ids new.who new.events) k)))) → IsRightSlot new.settings new.who new.events (own_ids new.who new.events) v
keeps_over old new w v e right fits still ok same who own out =
    let ids : own_ids new.who new.events ≡ own_ids old.who old.events = ap (λ (x : Kept). own_ids x.who x.events) ok ∙ ap (map id_of) (still_taken old.who old.events e still) in
    re_listed (keeps_right old new (own_ids old.who old.events) w v e right fits still ok same who own
    (λ d k. out d k ∙ ap (λ (l : List (List ℕ)). has w.pairs d k && not (books_own who e (slice_get l k))) ids))

pub takes_over : (old new : Kept) (w v : Deadlines) (id : List ℕ) (to cents stamp : ℕ) → IsRightSlot old.settings old.who old.events (own_ids old.who old.events) w → Fits old.settings old.who old.events (Taken id to cents stamp)
    → v.deadlines ≡ w.deadlines ++ deadline_of old.settings.limit stamp ∷ [] → Adds w.pairs v.pairs (deadline_of old.settings.limit stamp) (length w.deadlines) → new ≡ ledger_with_event old (Taken id to cents stamp)
    → IsRightSlot new.settings new.who new.events (own_ids new.who new.events) v
takes_over old new w v id to cents stamp right fits longer adds ok =
    re_listed (takes_right old new (own_ids old.who old.events) (own_ids old.who old.events ++ id ∷ []) w v id to cents stamp right fits refl longer adds ok)

pub own_index_is : (id : List ℕ) (ids : List (List ℕ)) (r : Option ℕ) → ((k : ℕ) → slice_get ids k ≡ Some id → r ≡ Some k) → ((k : ℕ) → r ≡ Some k → slice_get ids k ≡ Some id) → r ≡ position (is_id id) ids
own_index_is id ids r at only = go (position (is_id id) ids) refl r refl
  where
    go : (o : Option ℕ) → position (is_id id) ids ≡ o → (f : Option ℕ) → r ≡ f → r ≡ o
    go (Some i) there f e = let x = passes_at (is_id id) ids i there in at i (x.1 ∙ ap (λ (y : List ℕ). Some y) (same x.0 id x.2))
    go None there None e = e
    go None there (Some i) e = absurd (is_found (is_id id) ids i id (only i e) (same_text_refl id) there)
