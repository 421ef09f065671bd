-- What a command that decides nothing keeps of what the books have to do with the board: a submission that is taken
-- opens the next place, and what else is kept moves no transfer.
use Rattle.std.proofs.Common.{◌≡◌, ℕ, ◌<◌, arith, Bool, true, false, ◌&&◌, ◌||◌, ◌==◌, cond, List, [], ◌∷◌, ◌++◌, length, length-append, append-nil, inl, inr, ⊎_elim, refl, sym, ap, ◌∙◌, subst, Option, Some, None, is_none}
use Rattle.std.specs.Prelude.{slice_get, take, Result, Ok, Err, nat_le, nat_lt}
use Rattle.std.specs.List.{list_all}
use Rattle.std.proofs.lemmas.Bool.{false≢true, and_parts}
use Rattle.std.proofs.lemmas.List.Sums.{length-filter}
use Rattle.inst_base.proofs.Lists.{snoc_cases}
use Rattle.inst_base.specs.Fault.{IsUnlessMemory}
use Rattle.inst_base.specs.TimeLimit.{deadline_of, is_due, is_ahead}
use Rattle.inst_base.specs.declared.fault.Fault.{Fault}
use Rattle.inst_base.specs.declared.fault.Fault.TheVariants.{Expired, Memory}
use Rattle.inst_settings.specs.Settings.{HubSettings}
use Rattle.inst_command.specs.Ask.{command_fits}
use Rattle.inst_command.specs.declared.ask.Ask.{Ask}
use Rattle.inst_command.specs.declared.command.Command.{Command}
use Rattle.inst_command.specs.declared.command.Command.TheVariants.{Fund, Defund, Submit, Confirm, Reject, Investigate, Fetch, Query}
use Rattle.inst_command.specs.declared.query.Query.TheVariants.{Position}
use Rattle.inst_command.specs.declared.entry.Entry.{Entry}
use Rattle.inst_command.specs.declared.funding.Funding.{Funding}
use Rattle.inst_command.specs.declared.outcome.Outcome.{Outcome}
use Rattle.inst_command.specs.declared.reply.Reply.{Reply}
use Rattle.inst_command.specs.declared.reply.Reply.TheVariants.{Position as PositionReply}
use Rattle.inst_command.specs.declared.submission.Submission.{Submission}
use Rattle.inst_command.specs.declared.place.Place.{Place}
use Rattle.inst_board.specs.declared.about.About.TheVariants.{Opened, HasTerms, Due, Decided}
use Rattle.inst_board.specs.declared.about.Fact.{Fact}
use Rattle.inst_board.specs.Standing.{about, pending}
use Rattle.inst_board.specs.Laws.{KnowsOpening}
use Rattle.inst_board.specs.Learning.{Learns}
use Rattle.inst_journal.specs.declared.event.Event.{Event}
use Rattle.inst_journal.specs.declared.event.Event.TheVariants.{Funded, Defunded, Taken, Forwarded, Booked, Fetched, Opened as OpenedEvent}
use Rattle.inst_journal.specs.declared.handle.Handled.{Handled}
use Rattle.inst_journal.specs.Booked.{is_taken, is_forwarded, booked, books}
use Rattle.inst_journal.specs.Keys.{is_fund_repeat, is_defund_repeat, is_submission_repeat}
use Rattle.inst_journal.specs.Money.{position, reserved, available}
use Rattle.inst_journal.specs.Opened.{is_opening, carried, takes_live, live_taken, live_submissions}
use Rattle.inst_journal.specs.Reply.{entry_of, funding, is_new_funding, state_reply, still_pending, unread, hand_out, handle, submit, copies, reply_result, kept_event, kept_events}
use Rattle.inst_journal.specs.Sound.{Fits, FitAfter, IsSound}
use Rattle.inst_journal.proofs.EventsCarriedOverOpening.{carried_unbooked}
use Rattle.inst_journal.proofs.CountsOfEvents.{stranger_unbooked}
use Rattle.inst_journal.proofs.KeptEventsFit.{handled_kept}
use Rattle.inst_journal.proofs.OwnBookings.{own_unforwarded}
use Rattle.inst_slot.specs.Book.{Book, place_at, terms_to}
use Rattle.inst_slot.specs.LawfulBoard.{IsLawfulBoard}
use Rattle.inst_slot.specs.Asking.{handle_ask, Opens, Enters}
use Rattle.inst_slot.specs.inner.Entering.{EntersAlone}
use Rattle.inst_slot.specs.inner.Waiting.{is_apart}
use Rattle.inst_ledger.specs.Book.{submission_result, submission_event}
use Rattle.inst_slot.proofs.LiveTransfersAfterEvent.{live_inbox_still, live_push, still_booked, booked_cases}
use Rattle.inst_slot.proofs.BoardStaysLawful.{kept_opening, with_events, same_after, moved, learnt_truly, learnt_answer, lies_after_taking}
use Rattle.inst_ledger.proofs.OwnIds.{live_taken_push}

-- whether the event may be kept of a command that decides nothing
abbrev enters : Event → Bool
enters (Funded funding) = true
enters (Defunded funding) = true
enters (Taken id to cents stamp) = true
enters (Fetched count) = true
enters (Forwarded from id cents d) = false
enters (Booked from id o) = false
enters OpenedEvent = false

-- each event that is kept is such a one
abbrev KeepsOnly : (Event → Bool) → Result Handled Fault → Type 0
KeepsOnly p r = list_all p (kept_events r) ≡ true

one : (p : Event → Bool) (e : Event) → p e ≡ true → list_all p (e ∷ []) ≡ true
one p e is = ap (λ (b : Bool). b && true) is

either : (p : Event → Bool) (b : Bool) (x y : Result Handled Fault) → KeepsOnly p x → KeepsOnly p y → KeepsOnly p (cond b x y)
either p true x y first second = first
either p false x y first second = second

funding_keeps : (p : Event → Bool) (reference : List ℕ) (new : Result Handled Fault) (r : Result Bool Fault) → KeepsOnly p new → KeepsOnly p (funding reference new r)
funding_keeps p reference new (Err fault) all = refl
funding_keeps p reference new (Ok true) all = all
funding_keeps p reference new (Ok false) all = refl

standing_keeps : (p : Event → Bool) (from : ℕ) (id : List ℕ) (waiting : Result Handled Fault) (known : Option Outcome) → KeepsOnly p waiting → KeepsOnly p (state_reply from id waiting known None)
standing_keeps p from id waiting None all = all
standing_keeps p from id waiting (Some o) all = refl

handed_keeps : (p : Event → Bool) (entries : List Entry) → ((count : ℕ) → p (Fetched count) ≡ true) → KeepsOnly p (hand_out entries)
handed_keeps p [] fetched = refl
handed_keeps p (entry ∷ entries) fetched = one p (Fetched (length (entry ∷ entries))) (fetched (length (entry ∷ entries)))

-- what is kept of a command that decides nothing: a funding, a defunding, a submission that is taken, or that entries
-- were handed out
keeps_only : (p : Event → Bool) → ((funding : Funding) → p (Funded funding) ≡ true) → ((funding : Funding) → p (Defunded funding) ≡ true) → ((count : ℕ) → p (Fetched count) ≡ true)
    → (s : HubSettings) (who : ℕ) (J : List Event) (command : Command) (at : ℕ) → ((x : Submission) → command ≡ Submit x → p (submission_event x) ≡ true) → KeepsOnly p (handle s who J command at None)
keeps_only p funded defunded fetched s who J (Fund funding) at new = funding_keeps p funding.reference _ (is_new_funding s J funding.reference (is_fund_repeat funding J)) (one p (Funded funding) (funded funding))
keeps_only p funded defunded fetched s who J (Defund funding) at new = funding_keeps p funding.reference _ (is_new_funding s J funding.reference (is_defund_repeat funding J)) (either p (nat_lt (available J) funding.cents) _ _ refl (one p (Defunded funding) (defunded funding)))
keeps_only p funded defunded fetched s who J (Submit x) at new =
    either p (x.to == who) _ _ refl
    (either p (is_submission_repeat x J) _ _ refl
    (either p (is_taken x.id J) _ _ refl
    (either p (is_ahead s.ahead x.stamp at) _ _ refl
    (either p (is_due (deadline_of s.limit x.stamp) at) _ _ refl
    (either p (nat_le s.places (live_submissions who J)) _ _ refl
    (either p (nat_lt (available J) x.cents) _ _ refl (one p (submission_event x) (new x refl))))))))
keeps_only p funded defunded fetched s who J (Confirm from id) at new = either p (is_forwarded from id J) _ _ (standing_keeps p from id (Err Expired) (booked from id J) refl) refl
keeps_only p funded defunded fetched s who J (Reject from id reason) at new = either p (is_forwarded from id J) _ _ (standing_keeps p from id (still_pending from id) (booked from id J) refl) refl
keeps_only p funded defunded fetched s who J (Investigate id) at new = either p (is_taken id J) _ _ (standing_keeps p who id (still_pending who id) (booked who id J) refl) refl
keeps_only p funded defunded fetched s who J (Fetch max) at new = handed_keeps p (take max (unread J)) fetched
keeps_only p funded defunded fetched s who J (Query query) at new = refl

all_enter : (s : HubSettings) (who : ℕ) (J : List Event) (command : Command) (at : ℕ) → KeepsOnly enters (handle s who J command at None)
all_enter s who J command at = keeps_only enters (λ funding. refl) (λ funding. refl) (λ count. refl) s who J command at (λ x is. refl)

-- a command that is no submission and decides nothing keeps no event of a transfer
others_apart : (s : HubSettings) (who : ℕ) (J : List Event) (command : Command) (at : ℕ) → ((x : Submission) → command ≡ Submit x → ⊥) → list_all is_apart (kept_events (handle s who J command at None)) ≡ true
others_apart s who J command at other = keeps_only is_apart (λ funding. refl) (λ funding. refl) (λ count. refl) s who J command at (λ x is. absurd (other x is))

-- such an event opens no place
pub opens_none : {B : Type 0} (margin : ℕ) (knows : B → Fact → Type 0) (book : Book) (b : B) (r : Result Handled Fault) → list_all is_apart (kept_events r) ≡ true → Opens margin knows book (kept_events r) b b
opens_none margin knows book b (Err fault) none = refl
opens_none margin knows book b (Ok handled) none = of handled.kept none
  where
    of : (kept : Option Event) → list_all is_apart (kept_event kept) ≡ true → Opens margin knows book (kept_event kept) b b
    of None none' = refl
    of (Some (Funded funding)) none' = refl
    of (Some (Defunded funding)) none' = refl
    of (Some (Forwarded from id cents deadline)) none' = absurd (false≢true none')
    of (Some (Booked from id outcome)) none' = absurd (false≢true none')
    of (Some (Fetched count)) none' = refl
    of (Some OpenedEvent) none' = absurd (false≢true none')
    of (Some (Taken id to cents stamp)) none' = absurd (false≢true none')

or_true : (a : Bool) → (a || true) ≡ true
or_true true = refl
or_true false = refl

pub next_index : (who : ℕ) (J : List Event) → length (live_taken who J) ≡ live_submissions who J
next_index who J = length-filter (takes_live who (carried J)) J

pub takes_the_next : (s : HubSettings) (who : ℕ) (J : List Event) (id : List ℕ) (to cents stamp : ℕ) → IsSound s who J → Fits s who J (Taken id to cents stamp) → takes_live who (carried J) (Taken id to cents stamp) ≡ true
takes_the_next s who J id to cents stamp sound fits = ap is_none (carried_unbooked who id J (stranger_unbooked s who who id J sound (λ own. fits.new) (own_unforwarded s who id J sound)))

module _ {B : Type 0} (settings : B → HubSettings) (knows : B → Fact → Type 0) (has_role : B → ℕ → Type 0) where
  -- the next place is opened
  opened_next : (margin : ℕ) (b c : B) (book : Book) (id : List ℕ) (to cents stamp : ℕ) → settings c ≡ settings b → margin ≡ (settings b).margin → (has_role b book.who → has_role c book.who)
      → IsSound book.settings book.who book.events → Fits book.settings book.who book.events (Taken id to cents stamp)
      → Learns margin knows b (place_at book.who (live_submissions book.who book.events)) (pending (terms_to to cents id) (deadline_of book.settings.limit stamp)) c
      → IsLawfulBoard settings knows has_role b book → IsLawfulBoard settings knows has_role c (with_events book (book.events ++ Taken id to cents stamp ∷ []))
  opened_next margin b c book id to cents stamp same margins role sound fits l was =
      let e : Event = Taken id to cents stamp in
      let J : List Event = book.events ++ e ∷ [] in
      let who : ℕ = book.who in
      let L : List Event = live_taken who book.events in
      let next = next_index who book.events in
      let d : ℕ = deadline_of book.settings.limit stamp in
      let more : live_taken who J ≡ L ++ e ∷ [] = live_taken_push who book.events e true refl (takes_the_next book.settings who book.events id to cents stamp sound fits) in
      let len = length-append L (e ∷ []) in
      let k : Place = place_at who (live_submissions who book.events) in
      record {
        same_settings = same ∙ was.same_settings;
        role = role was.role;
        truly = learnt_truly settings knows has_role margin b c (place_at book.who (live_submissions book.who book.events)) (pending (terms_to to cents id) (deadline_of book.settings.limit stamp)) l book margins was;
        taken_known = λ index name other amount moment f. ⊎_elim
            (λ old. kept_opening settings knows has_role b c l.kept (place_at who index) (terms_to other amount name) (deadline_of book.settings.limit moment) (was.taken_known index name other amount moment old))
            (λ new.
            let here : KnowsOpening knows c (place_at who (live_submissions who book.events)) (terms_to to cents id) d = record { opened = l.shown Opened tt; terms = l.shown (HasTerms (terms_to to cents id)) refl; due = l.shown (Due d) refl } in
            let at : live_submissions who book.events ≡ index = sym (new.0 ∙ next) in
            let name_is : id ≡ name = cc in
            let other_is : to ≡ other = cc in
            let amount_is : cents ≡ amount = cc in
            let moment_is : stamp ≡ moment = cc in
            subst (λ (n : ℕ). KnowsOpening knows c (place_at who n) (terms_to other amount name) (deadline_of book.settings.limit moment)) at
            (subst (λ (n : ℕ). KnowsOpening knows c k (terms_to other amount name) (deadline_of book.settings.limit n)) moment_is
            (subst (λ (n : ℕ). KnowsOpening knows c k (terms_to other n name) d) amount_is
            (subst (λ (n : ℕ). KnowsOpening knows c k (terms_to n cents name) d) other_is
            (subst (λ (n : List ℕ). KnowsOpening knows c k (terms_to to cents n) d) name_is here)))))
            (snoc_cases L e (Taken name other amount moment) index (ap (λ (x : List Event). slice_get x index) (sym more) ∙ f));
        only_taken = λ index kn. subst (λ (x : List Event). index < length x) (sym more) (⊎_elim
            (λ old. let less = was.only_taken index old in let r : index < length (L ++ e ∷ []) = omega arith in r)
            (λ new. let at : index ≡ live_submissions who book.events = ap (λ (q : Place). q.index) new.0 in let r : index < length (L ++ e ∷ []) = omega arith in r)
            (l.only (about (place_at who index) Opened) kn));
        arrived = was.arrived ∙ sym (live_inbox_still book.events e refl refl);
        forwarded_known = λ x index there is.
            kept_opening settings knows has_role b c l.kept (place_at x.entry.from index) (terms_to book.who x.entry.cents x.entry.id) x.entry.deadline (was.forwarded_known x index there is);
        booked_known = λ from name o f live. ⊎_elim
            (λ old.
            let end = was.booked_known from name o old (sym (live_push from name book.events e refl) ∙ live) in
            record { index = end.index; lies = lies_after_taking book e from name end.index more end.lies; known = l.kept (about (place_at from end.index) (Decided o)) end.known })
            (λ new. let none : ⊥ = cc in absurd none)
            (booked_cases from name book.events e o f);
        answered = λ j t o mine an kt kd. ⊎_elim
            (λ old. still_booked j.owner t.id book.events e o (was.answered j t o mine an old.0 old.1))
            (λ new. absurd new.2)
            (learnt_answer settings knows has_role margin b c k (pending (terms_to to cents id) d) l j t o kt kd);
      }

  -- an event that moves no transfer
  kept_other : (b : B) (book : Book) (e : Event) → enters e ≡ true → takes_live book.who (carried book.events) e ≡ false → IsLawfulBoard settings knows has_role b book → IsLawfulBoard settings knows has_role b (with_events book (book.events ++ e ∷ []))
  kept_other b book e ok still was =
      let fits = plain e ok in
      moved settings knows has_role b b book (book.events ++ e ∷ []) refl was.truly (λ r. r) (λ f h. h) (λ index h. h)
      (same_after book.who book.events e fits.0 still fits.1)
      (λ from id o f. ⊎_elim (λ old. inl old) (λ new. absurd (fits.2 from id o new)) (booked_cases from id book.events e o f))
      (λ k t o mine an kt kd. still_booked k.owner t.id book.events e o (was.answered k t o mine an kt kd))
      was
    where
      plain : (e : Event) → enters e ≡ true → (is_opening e ≡ false) × (entry_of e ≡ None) × ((from : ℕ) (id : List ℕ) (o : Outcome) → books from id e ≡ Some o → ⊥)
      plain (Funded funding) ok = (refl, refl, λ from id o f. cc)
      plain (Defunded funding) ok = (refl, refl, λ from id o f. cc)
      plain (Taken id to cents stamp) ok = (refl, refl, λ from name o f. cc)
      plain (Fetched count) ok = (refl, refl, λ from id o f. cc)
      plain (Forwarded from id cents d) ok = absurd (false≢true ok)
      plain (Booked from id o) ok = absurd (false≢true ok)
      plain OpenedEvent ok = absurd (false≢true ok)

  entered : (margin : ℕ) (b c : B) (book : Book) (e : Event) → enters e ≡ true → settings c ≡ settings b → margin ≡ (settings b).margin → (has_role b book.who → has_role c book.who)
      → IsSound book.settings book.who book.events → Fits book.settings book.who book.events e → Opens margin knows book (e ∷ []) b c
      → IsLawfulBoard settings knows has_role b book → IsLawfulBoard settings knows has_role c (with_events book (book.events ++ e ∷ []))
  entered margin b c book (Taken id to cents stamp) ok same margins role sound fits opens was = opened_next margin b c book id to cents stamp same margins role sound fits opens was
  entered margin b c book (Funded funding) ok same margins role sound fits opens was = subst (λ (x : B). IsLawfulBoard settings knows has_role x (with_events book (book.events ++ Funded funding ∷ []))) (sym opens) (kept_other b book (Funded funding) refl refl was)
  entered margin b c book (Defunded funding) ok same margins role sound fits opens was = subst (λ (x : B). IsLawfulBoard settings knows has_role x (with_events book (book.events ++ Defunded funding ∷ []))) (sym opens) (kept_other b book (Defunded funding) refl refl was)
  entered margin b c book (Fetched count) ok same margins role sound fits opens was = subst (λ (x : B). IsLawfulBoard settings knows has_role x (with_events book (book.events ++ Fetched count ∷ []))) (sym opens) (kept_other b book (Fetched count) refl refl was)
  entered margin b c book (Forwarded from id cents d) ok same margins role sound fits opens was = absurd (false≢true ok)
  entered margin b c book (Booked from id o) ok same margins role sound fits opens was = absurd (false≢true ok)
  entered margin b c book OpenedEvent ok same margins role sound fits opens was = absurd (false≢true ok)

  all_entered : (margin : ℕ) (b c : B) (book : Book) (kept : Option Event) → list_all enters (kept_event kept) ≡ true → settings c ≡ settings b → margin ≡ (settings b).margin → (has_role b book.who → has_role c book.who)
      → IsSound book.settings book.who book.events → FitAfter book.settings book.who book.events (kept_event kept) → Opens margin knows book (kept_event kept) b c
      → IsLawfulBoard settings knows has_role b book → IsLawfulBoard settings knows has_role c (with_events book (book.events ++ kept_event kept))
  all_entered margin b c book None all same margins role sound fits opens was =
      subst (λ (x : B). IsLawfulBoard settings knows has_role x (with_events book (book.events ++ []))) (sym opens)
      (subst (λ (l : List Event). IsLawfulBoard settings knows has_role b (with_events book l)) (sym (append-nil book.events)) was)
  all_entered margin b c book (Some e) all same margins role sound fits opens was = entered margin b c book e (and_parts (enters e) true all).0 same margins role sound fits.0 opens was

  kept_entered : (margin : ℕ) (b c : B) (book : Book) (r : Result Handled Fault) → KeepsOnly enters r → settings c ≡ settings b → margin ≡ (settings b).margin → (has_role b book.who → has_role c book.who)
      → IsSound book.settings book.who book.events → FitAfter book.settings book.who book.events (kept_events r) → Opens margin knows book (kept_events r) b c
      → IsLawfulBoard settings knows has_role b book → IsLawfulBoard settings knows has_role c (with_events book (book.events ++ kept_events r))
  kept_entered margin b c book (Ok handled) all same margins role sound fits opens was = all_entered margin b c book handled.kept all same margins role sound fits opens was
  kept_entered margin b c book (Err fault) all same margins role sound fits opens was = all_entered margin b c book None all same margins role sound fits opens was

  pub enters_keep : (margin : ℕ) (b c : B) (book : Book) (ask : Ask) (result : Result Reply Fault) (new : Book) → settings c ≡ settings b → margin ≡ (settings b).margin → (has_role b book.who → has_role c book.who)
      → IsSound book.settings book.who book.events → command_fits book.settings ask.command ≡ true
      → Enters margin knows b book ask result c new → IsLawfulBoard settings knows has_role b book → IsLawfulBoard settings knows has_role c new
  enters_keep margin b c book ask result new same margins role sound fits e was = ⊎_elim
      (λ answered. subst (λ (x : Book). IsLawfulBoard settings knows has_role c x) (sym answered.1)
      (kept_entered margin b c book (handle_ask book ask None) (all_enter book.settings book.who book.events ask.command ask.at) same margins role sound
      (handled_kept book.settings book.who book.events ask.command ask.at None fits) answered.2 was))
      (λ refused. subst (λ (x : Book). IsLawfulBoard settings knows has_role c x) (sym refused.1) (subst (λ (x : B). IsLawfulBoard settings knows has_role x book) (sym refused.2) was))
      e

-- the next place isn't opened yet
pub next_unused : {B : Type 0} (settings : B → HubSettings) (knows : B → Fact → Type 0) (has_role : B → ℕ → Type 0) (b : B) (book : Book) → IsLawfulBoard settings knows has_role b book
    → ¬ knows b (about (place_at book.who (live_submissions book.who book.events)) Opened)
next_unused settings knows has_role b book was kn =
    let below = was.only_taken (live_submissions book.who book.events) kn in
    let count = next_index book.who book.events in
    absurd (omega arith)

module _ {B : Type 0} (knows : B → Fact → Type 0) (margin : ℕ) (book : Book) (ask : Ask) where
  -- an ask that is handled so, and keeps this
  pub enters_as : (b c : B) (h : Result Handled Fault) (result : Result Reply Fault) (new : Book) → handle_ask book ask None ≡ h → result ≡ reply_result h
      → new ≡ with_events book (book.events ++ kept_events h) → Opens margin knows book (kept_events h) b c → Enters margin knows b book ask result c new
  enters_as b c h result new is replied kept opens = inl (
    replied ∙ ap reply_result (sym is),
    kept ∙ ap (λ (r : Result Handled Fault). with_events book (book.events ++ kept_events r)) (sym is),
    subst (λ (r : Result Handled Fault). Opens margin knows book (kept_events r) b c) (sym is) opens,
  )

  -- an ask that is handled so, and keeps nothing
  pub enters_quietly : (b : B) (h : Result Handled Fault) (result : Result Reply Fault) → handle_ask book ask None ≡ h → kept_events h ≡ [] → result ≡ reply_result h → Enters margin knows b book ask result b book
  enters_quietly b h result is none replied =
      enters_as b b h result book is replied
      (sym (ap (λ (K : List Event). with_events book (book.events ++ K)) none ∙ ap (λ (J : List Event). with_events book J) (append-nil book.events)))
      (subst (λ (K : List Event). Opens margin knows book K b b) (sym none) refl)

  -- an ask that was to keep something, for which memory was refused
  pub enters_in_want : (b : B) (h : Result Handled Fault) (e : Event) → handle_ask book ask None ≡ h → kept_events h ≡ e ∷ [] → (result : Result Reply Fault) → result ≡ Err Memory → (new : Book) → new ≡ book → (c : B) → c ≡ b → Enters margin knows b book ask result c new
  enters_in_want b h e is some result refused new left c same =
      inr (refused, left, same, ap (λ (r : Result Handled Fault). copies book.events ask.command || nat_lt 0 (length (kept_events r))) is ∙ ap (λ (K : List Event). copies book.events ask.command || nat_lt 0 (length K)) some ∙ or_true (copies book.events ask.command))

-- how a submission is handled, by whether it is new
pub submission_as : (kept book : Book) (ask : Ask) (x : Submission) (new : Result Bool Fault) → kept ≡ book → ask.command ≡ Submit x → submit kept.settings kept.who kept.events ask.at x ≡ submission_result kept.settings x new → handle_ask book ask None ≡ submission_result book.settings x new
submission_as kept book ask x new same is answer =
    ap (λ (command : Command). handle book.settings book.who book.events command ask.at None) is
    ∙ subst (λ (k : Book). submit k.settings k.who k.events ask.at x ≡ submission_result k.settings x new) same answer

-- a command in which the board has no part leaves it as it is
pub entered_alone : {B : Type 0} (knows : B → Fact → Type 0) (margin : ℕ) (b : B) (book : Book) (ask : Ask) (result : Result Reply Fault) (new : Book) → EntersAlone book ask result new → Enters margin knows b book ask result b new
entered_alone knows margin b book ask result new e = ⊎_elim
    (λ answered. inl (answered.0, answered.1, opens_none margin knows book b (handle_ask book ask None) answered.2))
    (λ refused. inr (refused.0, refused.1, refl, refused.2))
    e

-- what was handled without want of memory
pub handled_as : (book : Book) (ask : Ask) (handled : Handled) → IsUnlessMemory (Ok handled) (handle_ask book ask None) → handle_ask book ask None ≡ Ok handled
handled_as book ask handled is = ⊎_elim (λ refused. let none : ⊥ = cc in absurd none) (λ same. sym same) is

module _ (book : Book) (ask : Ask) (handled : Handled) (other : (x : Submission) → ask.command ≡ Submit x → ⊥) (is : handle_ask book ask None ≡ Ok handled) where
  -- an event that is kept of a command that is no submission is of money or of the inbox alone
  pub kept_apart : (e : Event) → handled.kept ≡ Some e → is_apart e ≡ true
  kept_apart e kept =
      (and_parts (is_apart e) true
      (subst (λ (o : Option Event). list_all is_apart (kept_event o) ≡ true) kept
      (subst (λ (r : Result Handled Fault). list_all is_apart (kept_events r) ≡ true) is (others_apart book.settings book.who book.events ask.command ask.at other)))).0

  -- such a command is answered as it was handled, and what is to be kept is kept
  pub alone_as : (new : Book) → new ≡ with_events book (book.events ++ kept_event handled.kept) → EntersAlone book ask (Ok handled.reply) new
  alone_as new kept = inl (
    ap reply_result (sym is),
    kept ∙ ap (λ (r : Result Handled Fault). with_events book (book.events ++ kept_events r)) (sym is),
    others_apart book.settings book.who book.events ask.command ask.at other,
  )

-- a position is told, and nothing is kept
pub position_alone : (book : Book) (ask : Ask) → ask.command ≡ Query Position → EntersAlone book ask (Ok (PositionReply (position book.events) (reserved book.events) (available book.events))) book
position_alone book ask is =
    let J : List Event = book.events in
    let handled : Handled = record { reply = PositionReply (position J) (reserved J) (available J); kept = None } in
    let handles : handle_ask book ask None ≡ Ok handled = ap (λ (command : Command). handle book.settings book.who J command ask.at None) is in
    alone_as book ask handled (λ x submits. let none : ⊥ = cc in none) handles book (sym (ap (λ (L : List Event). with_events book L) (append-nil J)))
