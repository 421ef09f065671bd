-- After a sweep no own transfer that is due at its reading waits any more: after each expiry nothing that waits up to its
-- pair is due, and what comes or is learnt afterwards adds nothing to what waits.
use Rattle.std.proofs.Common.{◌≡◌, ℕ, Bool, true, false, not, ◌&&◌, cond, List, [], ◌∷◌, ◌++◌, append-nil, append_assoc, arith, ⊎_elim, refl, sym, ap, ◌∙◌, subst, Option, Some, None, is_none}
use Rattle.std.specs.Prelude.{Contains, slice_get, nat_eq, Ok}
use Rattle.std.proofs.lemmas.Bool.{false≢true, and_parts, cases_Bool, eqb-true, eq-eqb}
use Rattle.std.proofs.lemmas.Bool.Decides.{nat_tests}
use Rattle.std.proofs.lemmas.List.Elements.{Contains-append_right}
use Rattle.inst_base.specs.TimeLimit.{deadline_of, is_due}
use Rattle.inst_settings.specs.Settings.{HubSettings, same_text}
use Rattle.inst_settings.proofs.CodeTellsNumber.{same_text_refl}
use Rattle.inst_due.specs.Due.{comes_before, comes_after}
use Rattle.inst_command.specs.declared.outcome.Outcome.{Outcome}
use Rattle.inst_command.specs.declared.outcome.Outcome.TheVariants.{TimedOut}
use Rattle.inst_command.specs.declared.place.Place.{Place}
use Rattle.inst_board.specs.declared.wish.Wish.TheVariants.{Expire}
use Rattle.inst_board.specs.declared.about.About.TheVariants.{Due}
use Rattle.inst_board.specs.declared.about.Fact.{Fact}
use Rattle.inst_board.specs.Standing.{about}
use Rattle.inst_journal.specs.declared.event.Event.{Event}
use Rattle.inst_journal.specs.declared.event.Event.TheVariants.{Funded, Defunded, Taken, Forwarded, Booked, Fetched, Opened}
use Rattle.inst_journal.specs.Booked.{booked}
use Rattle.inst_journal.specs.Opened.{carried, is_opening, takes_live, live_taken}
use Rattle.inst_slot.specs.Asking.{Finds}
use Rattle.inst_slot.specs.Book.{Book, place_at}
use Rattle.inst_slot.specs.Telling.{booking, with_event, taken_by, if_unbooked, unbooked_at, ExpiresFor}
use Rattle.inst_slot.specs.Waiting.{waits, takes_waiting, IsNextDue}
use Rattle.inst_slot.proofs.OwnTransfersThatWait.{books_own, waiting_after}
use Rattle.inst_slot.proofs.LiveTransfersAfterEvent.{live_taken_still}
use Rattle.inst_cell.specs.Held.{settings_of, knows, has_role, stood, Stays}
use Rattle.inst_participant.specs.declared.participant.Participant.{Participant}
use Rattle.inst_participant.specs.LockLaw.{IsReady, IsLater}
use Rattle.inst_participant.specs.Told.{TellsOfTransfer}
use Rattle.inst_participant.specs.Told.{IsToldAll}
use Rattle.inst_participant.specs.Sweeping.{LetsExpire, NothingDue}
use Rattle.inst_participant.specs.Sweeping.LetsExpire.{none_left, then_next}
use Rattle.inst_participant.proofs.AnswerByHistoryAlone.{nothing_wanted}
use Rattle.inst_slot.proofs.DeliveryFitsBooks.{not_true}

-- what waits after one more event waited before it, and isn't what the event books
waited : (s : HubSettings) (who : ℕ) (J : List Event) (e : Event) (d k : ℕ) → is_opening e ≡ false → takes_live who (carried J) e ≡ false → waits s who (J ++ e ∷ []) d k ≡ true
    → (waits s who J d k ≡ true) × (books_own who e (taken_by (slice_get (live_taken who J) k)) ≡ false)
waited s who J e d k other still waits_now =
    let o : Option Event = slice_get (live_taken who J) k in
    let same : slice_get (live_taken who (J ++ e ∷ [])) k ≡ o = ap (λ (L : List Event). slice_get L k) (live_taken_still who J e other still) in
    let there : takes_waiting s who (J ++ e ∷ []) d o ≡ true = sym (ap (takes_waiting s who (J ++ e ∷ []) d) same) ∙ waits_now in
    let parts = and_parts (takes_waiting s who J d o) (not (books_own who e (taken_by o))) (sym (waiting_after s who J e d o) ∙ there) in
    (parts.0, not_true (books_own who e (taken_by o)) parts.1)

told_one : (s : HubSettings) (who : ℕ) (J : List Event) (e : Event) (d k : ℕ) → TellsOfTransfer e → waits s who (J ++ e ∷ []) d k ≡ true → waits s who J d k ≡ true
told_one s who J (Forwarded from id cents x) d k told waits_now = (waited s who J (Forwarded from id cents x) d k refl refl waits_now).0
told_one s who J (Booked from id outcome) d k told waits_now = (waited s who J (Booked from id outcome) d k refl refl waits_now).0
told_one s who J (Funded funding) d k told waits_now = absurd told
told_one s who J (Defunded funding) d k told waits_now = absurd told
told_one s who J (Taken id to cents stamp) d k told waits_now = absurd told
told_one s who J (Fetched n) d k told waits_now = absurd told
told_one s who J Opened d k told waits_now = absurd told

-- what comes or is learnt adds nothing to what waits
told_all : (s : HubSettings) (who : ℕ) (J more : List Event) (d k : ℕ) → ((e : Event) → Contains more e → TellsOfTransfer e) → waits s who (J ++ more) d k ≡ true → waits s who J d k ≡ true
told_all s who J [] d k told waits_now = subst (λ (L : List Event). waits s who L d k ≡ true) (append-nil J) waits_now
told_all s who J (e ∷ more) d k told waits_now =
    told_one s who J e d k (told e (0, omega arith, refl))
    (told_all s who (J ++ e ∷ []) more d k (λ x h. told x (Contains-append_right (e ∷ []) more x h))
    (subst (λ (L : List Event). waits s who L d k ≡ true) (sym (append_assoc J (e ∷ []) more)) waits_now))

-- the own transfer that waits at an index
record IsThere (book : Book) (d k : ℕ) : Type 0 where
  pub id : List ℕ
  pub to : ℕ
  pub cents : ℕ
  pub stamp : ℕ
  pub there : slice_get (live_taken book.who book.events) k ≡ Some (Taken id to cents stamp)
  pub deadline : d ≡ deadline_of book.settings.limit stamp
  pub unbooked : unbooked_at book k ≡ Some id

is_there_at : (book : Book) (d k : ℕ) (o : Option Event) → slice_get (live_taken book.who book.events) k ≡ o → takes_waiting book.settings book.who book.events d o ≡ true → IsThere book d k
is_there_at book d k (Some (Taken id to cents stamp)) there h =
    let parts = and_parts (is_none (booked book.who id book.events)) (nat_eq d (deadline_of book.settings.limit stamp)) h in
    record {
      id = id;
      to = to;
      cents = cents;
      stamp = stamp;
      there = there;
      deadline = eqb-true d (deadline_of book.settings.limit stamp) parts.1;
      unbooked = ap (λ (x : Option Event). if_unbooked book (taken_by x)) there ∙ ap (λ (b : Bool). cond b (Some id) None) parts.0;
    }
is_there_at book d k None there h = absurd (false≢true h)
is_there_at book d k (Some (Funded funding)) there h = absurd (false≢true h)
is_there_at book d k (Some (Defunded funding)) there h = absurd (false≢true h)
is_there_at book d k (Some (Forwarded from id cents x)) there h = absurd (false≢true h)
is_there_at book d k (Some (Booked from id outcome)) there h = absurd (false≢true h)
is_there_at book d k (Some (Fetched n)) there h = absurd (false≢true h)
is_there_at book d k (Some Opened) there h = absurd (false≢true h)

is_there : (book : Book) (d k : ℕ) → waits book.settings book.who book.events d k ≡ true → IsThere book d k
is_there book d k h = is_there_at book d k (slice_get (live_taken book.who book.events) k) refl h

-- neither of two pairs comes before the other only where they are one
one_pair : (d k e i : ℕ) → comes_before (d, k) (e, i) ≡ false → comes_before (e, i) (d, k) ≡ false → (d ≡ e) × (k ≡ i)
one_pair d k e i first second = (grind (arith, nat_tests), grind (arith, nat_tests))

not_expired : (b : Bool) → cond b (Some TimedOut) None ≡ None → b ≡ false
not_expired false h = refl
not_expired true h = let no : ⊥ = cc in absurd no

books_it : (who : ℕ) (id : List ℕ) (outcome : Outcome) → books_own who (Booked who id outcome) (Some id) ≡ true
books_it who id outcome = ap (λ (b : Bool). b && same_text id id) (eq-eqb who who refl) ∙ same_text_refl id

-- of what waits, nothing that doesn't come after this pair is due
abbrev NotDueUntil : ℕ → Option (ℕ × ℕ) → Book → Type 0
NotDueUntil t after book = (d k : ℕ) → waits book.settings book.who book.events d k ≡ true → comes_after after (d, k) ≡ false → is_due d t ≡ false

-- the deadline of each own transfer is known
record KnowsDeadlines {B : Type 0} (knows : B → Fact → Type 0) (b : B) (book : Book) : Type 0 where
  pub due : (index : ℕ) (id : List ℕ) (to cents stamp : ℕ) → slice_get (live_taken book.who book.events) index ≡ Some (Taken id to cents stamp)
      → knows b (about (place_at book.who index) (Due (deadline_of book.settings.limit stamp)))

-- what the next expiry needs, once this pair was let expire
record IsAfter {B : Type 0} (knows : B → Fact → Type 0) (t : ℕ) (pair : ℕ × ℕ) (b : B) (book : Book) : Type 0 where
  pub known : KnowsDeadlines knows b book
  pub passed : NotDueUntil t (Some pair) book

module _ {B : Type 0} (margin : ℕ) (knows : B → Fact → Type 0) (has_role : B → ℕ → Type 0) (stood : B → Place → Outcome → Type 0) (stays : B → B → Type 0) where
  -- where nothing is booked of the pair, it isn't due
  left_pending : (b c : B) (book : Book) (t d k : ℕ) → KnowsDeadlines knows b book → IsThere book d k → Finds margin knows has_role stood stays b (place_at book.who k) Expire t None c → is_due d t ≡ false
  left_pending b c book t d k known w finds =
      let e : ℕ = deadline_of book.settings.limit w.stamp in
      let place : Place = place_at book.who k in
      let due = known.due k w.id w.to w.cents w.stamp w.there in
      let says = finds.decides.learns.agrees (Due e) (finds.looks.learns.kept (about place (Due e)) due) in
      let wants = nothing_wanted margin (stood finds.between place) Expire t finds.decides.standing None e finds.decides.answers says refl in
      ap (λ (n : ℕ). is_due n t) w.deadline ∙ not_expired (is_due e t) wants

  known_later : (b c : B) (book : Book) (place : Place) (t : ℕ) (found : Option Outcome) → KnowsDeadlines knows b book → Finds margin knows has_role stood stays b place Expire t found c → KnowsDeadlines knows c book
  known_later b c book place t found known finds = record {
    due = λ index id to cents stamp there.
        let fact : Fact = about (place_at book.who index) (Due (deadline_of book.settings.limit stamp)) in
        finds.decides.learns.kept fact (finds.looks.learns.kept fact (known.due index id to cents stamp there));
  }

  -- the expiry found nothing: the pair at the cursor waits still, and isn't due
  none_found : (b c : B) (book : Book) (t : ℕ) (after : Option (ℕ × ℕ)) (pair : ℕ × ℕ) → KnowsDeadlines knows b book → NotDueUntil t after book → IsNextDue book after pair
      → Finds margin knows has_role stood stays b (place_at book.who pair.1) Expire t None c → IsAfter knows t pair c book
  none_found b c book t after pair known passed next finds = record {
    known = known_later b c book (place_at book.who pair.1) t None known finds;
    passed = λ d k waits_now isnt_after. ⊎_elim
        (λ is_after.
        let same = one_pair d k pair.0 pair.1 (next.least d k waits_now is_after) isnt_after in
        ap (λ (n : ℕ). is_due n t) same.0 ∙ left_pending b c book t pair.0 pair.1 known (is_there book pair.0 pair.1 next.there) finds)
        (λ isnt. passed d k waits_now isnt)
        (cases_Bool (comes_after after (d, k)));
  }

  -- it found an outcome: that is booked, so the pair waits no more
  one_found : (b c : B) (book : Book) (t : ℕ) (after : Option (ℕ × ℕ)) (pair : ℕ × ℕ) (id : List ℕ) (outcome : Outcome) → KnowsDeadlines knows b book → NotDueUntil t after book → IsNextDue book after pair
      → taken_by (slice_get (live_taken book.who book.events) pair.1) ≡ Some id
      → Finds margin knows has_role stood stays b (place_at book.who pair.1) Expire t (Some outcome) c → IsAfter knows t pair c (with_event book (Some (Booked book.who id outcome)))
  one_found b c book t after pair id outcome known passed next named finds = record {
    known = record {
      due = λ index other to cents stamp there.
          (known_later b c book (place_at book.who pair.1) t (Some outcome) known finds).due index other to cents stamp
          (sym (ap (λ (L : List Event). slice_get L index) (live_taken_still book.who book.events (Booked book.who id outcome) refl refl)) ∙ there);
    };
    passed = λ d k waits_now isnt_after.
        let was = waited book.settings book.who book.events (Booked book.who id outcome) d k refl refl waits_now in
        ⊎_elim
        (λ is_after.
        let same = one_pair d k pair.0 pair.1 (next.least d k was.0 is_after) isnt_after in
        let here : taken_by (slice_get (live_taken book.who book.events) k) ≡ Some id = ap (λ (n : ℕ). taken_by (slice_get (live_taken book.who book.events) n)) same.1 ∙ named in
        absurd (false≢true (sym was.1 ∙ (ap (books_own book.who (Booked book.who id outcome)) here ∙ books_it book.who id outcome))))
        (λ isnt. passed d k was.0 isnt)
        (cases_Bool (comes_after after (d, k)));
  }

  after_found : (b c : B) (book : Book) (t : ℕ) (after : Option (ℕ × ℕ)) (pair : ℕ × ℕ) (id : List ℕ) (found : Option Outcome) → KnowsDeadlines knows b book → NotDueUntil t after book → IsNextDue book after pair
      → taken_by (slice_get (live_taken book.who book.events) pair.1) ≡ Some id
      → Finds margin knows has_role stood stays b (place_at book.who pair.1) Expire t found c → IsAfter knows t pair c (with_event book (booking book.who id found))
  after_found b c book t after pair id None known passed next named finds = none_found b c book t after pair known passed next finds
  after_found b c book t after pair id (Some outcome) known passed next named finds = one_found b c book t after pair id outcome known passed next named finds

  -- the next pair was let expire
  after_one : (b c : B) (book new : Book) (t : ℕ) (after : Option (ℕ × ℕ)) (pair : ℕ × ℕ) (is_new : Bool) → KnowsDeadlines knows b book → NotDueUntil t after book → IsNextDue book after pair
      → ExpiresFor margin knows has_role stood stays b book pair.1 t (unbooked_at book pair.1) (Ok is_new) c new → IsAfter knows t pair c new
  after_one b c book new t after pair is_new known passed next expires =
      let w = is_there book pair.0 pair.1 next.there in
      let named : taken_by (slice_get (live_taken book.who book.events) pair.1) ≡ Some w.id = ap taken_by w.there in
      ⊎_elim
      (λ done. subst (λ (x : Book). IsAfter knows t pair c x) (sym done.2) (after_found b c book t after pair w.id done.0 known passed next named done.3))
      (λ refused. let r = refused.0 in let no : ⊥ = cc in absurd no)
      (subst (λ (o : Option (List ℕ)). ExpiresFor margin knows has_role stood stays b book pair.1 t o (Ok is_new) c new) w.unbooked expires)

-- so after all of them nothing is due
none_left_due : {t : ℕ} {after : Option (ℕ × ℕ)} {x y : Participant} → LetsExpire t after true x y → KnowsDeadlines knows x.board x.slot → NotDueUntil t after x.slot → NothingDue t y
none_left_due (none_left after x none) known passed = λ d k waits_now. passed d k waits_now (none d k waits_now)
none_left_due {t = t} (then_next after pair is_new whole x z y next may rest) known passed =
    let a = after_one (settings_of x.board).margin knows has_role stood Stays x.board z.board x.slot z.slot t after pair is_new known passed next may in
    none_left_due rest a.known a.passed

-- what waits waited before more came and was learnt
waited_before : (x y : Participant) (d k : ℕ) → IsLater x y → IsToldAll x.slot.events y.slot.events → waits y.slot.settings y.slot.who y.slot.events d k ≡ true
    → waits x.slot.settings x.slot.who x.slot.events d k ≡ true
waited_before x y d k later told waits_now =
    told_all x.slot.settings x.slot.who x.slot.events told.0 d k told.2
    (subst (λ (J : List Event). waits x.slot.settings x.slot.who J d k ≡ true) told.1
    (subst (λ (n : ℕ). waits x.slot.settings n y.slot.events d k ≡ true) later.who
    (subst (λ (s : HubSettings). waits s y.slot.who y.slot.events d k ≡ true) later.settings waits_now)))

-- nor is anything due then
pub due_after : (t : ℕ) (x y z : Participant) → IsReady x → LetsExpire t None true x y → IsLater y z → IsToldAll y.slot.events z.slot.events → NothingDue t z
due_after t x y z ready expires later told d k waits_now =
    let known : KnowsDeadlines knows x.board x.slot = record { due = λ index id to cents stamp there. (ready.lawful.taken_known index id to cents stamp there).due } in
    none_left_due expires known (λ e i _ no. absurd (false≢true (sym no))) d k (waited_before y z d k later told waits_now)
