-- What a slot's ask is answered over a board, said of its history alone.
use Rattle.std.proofs.Common.{◌≡◌, ◌≢◌, ◌⊎◌, inl, inr, ℕ, true, false, List, ⊎_elim, refl, sym, ap, ◌∙◌, subst, Option, Some, None, is_none, is_some}
use Rattle.std.specs.Prelude.{Contains, position, Result, Err}
use Rattle.std.proofs.lemmas.Bool.{false≢true, and_from}
use Rattle.inst_base.specs.TimeLimit.{deadline_of}
use Rattle.inst_base.specs.declared.fault.Fault.{Fault}
use Rattle.inst_base.specs.declared.fault.Fault.TheVariants.{Memory}
use Rattle.inst_settings.specs.Settings.{HubSettings}
use Rattle.inst_settings.proofs.CodeTellsNumber.{same_text_refl}
use Rattle.inst_command.specs.declared.ask.Ask.{Ask}
use Rattle.inst_command.specs.declared.command.Command.{Command}
use Rattle.inst_command.specs.declared.command.Command.TheVariants.{Fund, Defund, Submit, Confirm, Reject, Investigate, Fetch, Query}
use Rattle.inst_command.specs.declared.outcome.Outcome.{Outcome}
use Rattle.inst_command.specs.declared.reply.Reply.{Reply}
use Rattle.inst_command.specs.declared.place.Place.{Place}
use Rattle.inst_board.specs.declared.wish.Wish.{Wish}
use Rattle.inst_board.specs.declared.wish.Wish.TheVariants.{Accept, Reject as WishReject, Expire}
use Rattle.inst_board.specs.declared.about.About.TheVariants.{HasTerms, Due, Decided}
use Rattle.inst_board.specs.declared.about.Fact.{Fact}
use Rattle.inst_board.specs.Standing.{Standing, unused, pending, decided, Says, about}
use Rattle.inst_board.specs.Learning.{IsAnswer, AnswersWish}
use Rattle.inst_board.specs.Wish.{wanted}
use Rattle.inst_journal.specs.declared.event.Event.{Event}
use Rattle.inst_journal.specs.declared.event.Event.TheVariants.{Taken, Forwarded}
use Rattle.inst_journal.specs.Booked.{takes, forwards, is_taken, is_forwarded, booked}
use Rattle.inst_journal.specs.Opened.{live_taken}
use Rattle.inst_journal.specs.Sound.{IsSound}
use Rattle.inst_journal.proofs.TestOfOneThingFindsIt.{there_is_found}
use Rattle.inst_journal.proofs.KeyOnce.{forwarded_once, taken_once}
use Rattle.inst_model.specs.Trace.{as_reply}
use Rattle.inst_terms.specs.declared.terms.Terms.{Terms}
use Rattle.inst_slot.specs.Book.{Book, place_at, terms_to, arrived_at}
use Rattle.inst_slot.specs.LawfulBoard.{IsLawfulBoard}
use Rattle.inst_slot.specs.Asking.{request, decides, Finds, Enters, Settles, AppliesTo, Applies}
use Rattle.inst_slot.proofs.BoardStaysLawful.{arrival_at}
use Rattle.inst_slot.proofs.ResolutionFitsBooks.{itself_forwards, taken_contains}
use Rattle.inst_slot.proofs.SlotMayDecideWhatIsAsked.{wished, taken_at_position}
use Rattle.inst_participant.specs.Answers.{DecidesUntil, Answered}
use Rattle.inst_participant.proofs.EachTransferOnce.{same_one, arrival_contained}

-- a command that decides a transfer until a deadline decides one
decides_it : (book : Book) (command : Command) (wish : Wish) (deadline : ℕ) → DecidesUntil book.settings book.who book.events command wish deadline → decides book command ≡ true
decides_it book (Confirm from id) wish deadline (same, none, (cents, there)) =
    and_from (is_forwarded from id book.events) (is_none (booked from id book.events))
    (there_is_found (forwards from id) (Forwarded from id cents deadline) book.events (itself_forwards from id cents deadline) there) (ap is_none none)
decides_it book (Reject from id reason) wish deadline (same, none, (cents, there)) =
    and_from (is_forwarded from id book.events) (is_none (booked from id book.events))
    (there_is_found (forwards from id) (Forwarded from id cents deadline) book.events (itself_forwards from id cents deadline) there) (ap is_none none)
decides_it book (Investigate id) wish deadline (same, none, (to, cents, stamp, there, due)) =
    and_from (is_taken id book.events) (is_none (booked book.who id book.events))
    (there_is_found (takes id) (Taken id to cents stamp) book.events (same_text_refl id) there) (ap is_none none)
decides_it book (Fund funding) wish deadline never = absurd never
decides_it book (Defund funding) wish deadline never = absurd never
decides_it book (Submit x) wish deadline never = absurd never
decides_it book (Fetch max) wish deadline never = absurd never
decides_it book (Query query) wish deadline never = absurd never

-- a place that is known to be for the participant, and of which nothing is booked
pub record IsUnansweredFor {B : Type 0} (knows : B → Fact → Type 0) (b : B) (book : Book) (k : Place) : Type 0 where
  pub terms : Terms
  pub mine : terms.to ≡ book.who
  pub known : knows b (about k (HasTerms terms))
  pub unbooked : booked k.owner terms.id book.events ≡ None

-- a place that is known due at the deadline until which the command decides its transfer, by this wish
pub record IsAskedUntil {B : Type 0} (knows : B → Fact → Type 0) (b : B) (book : Book) (command : Command) (asked : Place × Wish) : Type 0 where
  pub deadline : ℕ
  pub decided : DecidesUntil book.settings book.who book.events command asked.1 deadline
  pub due : knows b (about asked.0 (Due deadline))
  pub only : (wish : Wish) (other : ℕ) → DecidesUntil book.settings book.who book.events command wish other → (wish ≡ asked.1) × (other ≡ deadline)
  pub own : asked.1 ≢ Expire → IsUnansweredFor knows b book asked.0

module _ {B : Type 0} (settings : B → HubSettings) (knows : B → Fact → Type 0) (has_role : B → ℕ → Type 0) where
  -- where a forwarded transfer lies, it is known due at the deadline with which it was forwarded
  record IsDueThere (b : B) (book : Book) (from : ℕ) (id : List ℕ) (index : ℕ) : Type 0 where
    pub cents : ℕ
    pub deadline : ℕ
    pub there : Contains book.events (Forwarded from id cents deadline)
    pub due : knows b (about (place_at from index) (Due deadline))
    pub terms : knows b (about (place_at from index) (HasTerms (terms_to book.who cents id)))
    pub only : (amount other : ℕ) → Contains book.events (Forwarded from id amount other) → other ≡ deadline

  due_there : (b : B) (book : Book) (from : ℕ) (id : List ℕ) (index : ℕ) → IsLawfulBoard settings knows has_role b book → IsSound book.settings book.who book.events → arrived_at from id book.arrivals ≡ Some index
      → IsDueThere b book from id index
  due_there b book from id index lawful sound at =
      let x = arrival_at from id index book.arrivals at in
      let n : ℕ = x.arrival.entry.cents in
      let d : ℕ = x.arrival.entry.deadline in
      let known = lawful.forwarded_known x.arrival index x.there x.index_is in
      let event : Forwarded x.arrival.entry.from x.arrival.entry.id n d ≡ Forwarded from id n d = ap (λ (f : ℕ). Forwarded f x.arrival.entry.id n d) x.from_is ∙ ap (λ (i : List ℕ). Forwarded from i n d) x.id_is in
      let there : Contains book.events (Forwarded from id n d) = subst (Contains book.events) event (arrival_contained settings knows has_role b book x.arrival lawful x.there) in
      record {
        cents = n;
        deadline = d;
        there = there;
        due = subst (λ (f : ℕ). knows b (about (place_at f index) (Due d))) x.from_is known.due;
        terms = subst (λ (i : List ℕ). knows b (about (place_at from index) (HasTerms (terms_to book.who n i)))) x.id_is
            (subst (λ (f : ℕ). knows b (about (place_at f index) (HasTerms (terms_to book.who n x.arrival.entry.id)))) x.from_is known.terms);
        only = λ amount other again.
            let same : Forwarded from id amount other ≡ Forwarded from id n d = same_one (forwards from id) book.events (Forwarded from id amount other) (Forwarded from id n d)
            (forwarded_once book.settings book.who from id book.events sound) again there (itself_forwards from id amount other) (itself_forwards from id n d) in
            cc;
      }

  asked_until : (b : B) (book : Book) (command : Command) (k : Place × Wish) → IsLawfulBoard settings knows has_role b book → IsSound book.settings book.who book.events → request book command ≡ Some k
      → IsAskedUntil knows b book command k
  asked_until b book (Confirm from id) k lawful sound e =
      let w = wished Accept from (booked from id book.events) (arrived_at from id book.arrivals) k e in
      let x = due_there b book from id w.index lawful sound w.at in
      let r : IsAskedUntil knows b book (Confirm from id) (place_at from w.index, Accept) = record {
        deadline = x.deadline;
        decided = (refl, w.none, (x.cents, x.there));
        due = x.due;
        only = λ wish other d. (d.0, x.only d.2.0 other d.2.1);
        own = λ _. record { terms = terms_to book.who x.cents id; mine = refl; known = x.terms; unbooked = w.none };
      } in
      subst (IsAskedUntil knows b book (Confirm from id)) (sym w.asked_is) r
  asked_until b book (Reject from id reason) k lawful sound e =
      let w = wished (WishReject reason) from (booked from id book.events) (arrived_at from id book.arrivals) k e in
      let x = due_there b book from id w.index lawful sound w.at in
      let r : IsAskedUntil knows b book (Reject from id reason) (place_at from w.index, WishReject reason) = record {
        deadline = x.deadline;
        decided = (refl, w.none, (x.cents, x.there));
        due = x.due;
        only = λ wish other d. (d.0, x.only d.2.0 other d.2.1);
        own = λ _. record { terms = terms_to book.who x.cents id; mine = refl; known = x.terms; unbooked = w.none };
      } in
      subst (IsAskedUntil knows b book (Reject from id reason)) (sym w.asked_is) r
  asked_until b book (Investigate id) k lawful sound e =
      let w = wished Expire book.who (booked book.who id book.events) (position (takes id) (live_taken book.who book.events)) k e in
      let t = taken_at_position book id w.index w.at in
      let event : Event = Taken id t.to t.cents t.stamp in
      let there = taken_contains book id w.index t in
      let r : IsAskedUntil knows b book (Investigate id) (place_at book.who w.index, Expire) = record {
        deadline = deadline_of book.settings.limit t.stamp;
        decided = (refl, w.none, (t.to, t.cents, t.stamp, there, refl));
        due = (lawful.taken_known w.index id t.to t.cents t.stamp t.there).due;
        only = λ wish other d.
            let again : Event = Taken id d.2.0 d.2.1 d.2.2 in
            let same : again ≡ event = same_one (takes id) book.events again event (taken_once book.settings book.who id book.events sound) d.2.3 there (same_text_refl id) (same_text_refl id) in
            let moment : d.2.2 ≡ t.stamp = cc in
            (d.0, d.2.4 ∙ ap (deadline_of book.settings.limit) moment);
        own = λ ne. absurd (ne refl);
      } in
      subst (IsAskedUntil knows b book (Investigate id)) (sym w.asked_is) r
  asked_until b book (Fund funding) k lawful sound e = let no : ⊥ = cc in absurd no
  asked_until b book (Defund funding) k lawful sound e = let no : ⊥ = cc in absurd no
  asked_until b book (Submit x) k lawful sound e = let no : ⊥ = cc in absurd no
  asked_until b book (Fetch max) k lawful sound e = let no : ⊥ = cc in absurd no
  asked_until b book (Query query) k lawful sound e = let no : ⊥ = cc in absurd no

-- where nothing is answered of a place, nothing is wanted of it by its deadline
pub nothing_wanted : (margin : ℕ) (stood : Outcome → Type 0) (wish : Wish) (at : ℕ) (p : Standing) (found : Option Outcome) (deadline : ℕ) → AnswersWish margin stood wish at p found → Says p (Due deadline) → found ≡ None
    → wanted margin wish deadline at ≡ None
nothing_wanted margin stood wish at unused found deadline answers says none = absurd says
nothing_wanted margin stood wish at (pending t d) found deadline answers says none = ap (λ (e : ℕ). wanted margin wish e at) says ∙ answers.1
nothing_wanted margin stood wish at (decided t d o m) found deadline answers says none = let f = answers.0 in let no : ⊥ = cc in absurd no

-- what is answered of a place stood there before, or is what was wanted of it by its deadline
answered_so : (margin : ℕ) (Stood : Outcome → Type 0) (wish : Wish) (at : ℕ) (p : Standing) (found : Option Outcome) (deadline : ℕ) (o : Outcome) → AnswersWish margin Stood wish at p found → Says p (Due deadline)
    → found ≡ Some o → Stood o ⊎ (wanted margin wish deadline at ≡ Some o)
answered_so margin Stood wish at unused found deadline o answers says is = absurd says
answered_so margin Stood wish at (pending t d) found deadline o answers says is = let f = answers.0 in let no : ⊥ = cc in absurd no
answered_so margin Stood wish at (decided t d end m) found deadline o answers says is =
    let f = answers.0 in
    let same : end ≡ o = cc in
    ⊎_elim (λ before. inl (subst Stood same before))
    (λ own. inr (ap (λ (e : ℕ). wanted margin wish e at) says ∙ (own.0 ∙ ap (λ (x : Outcome). Some x) same)))
    answers.1

-- The holders are such that an acceptance or rejection which stood before is known to who has the beneficiary's role, and
-- that roles stay
pub record KnowsOwn {B : Type 0} (knows : B → Fact → Type 0) (has_role : B → ℕ → Type 0) (stood : B → Place → Outcome → Type 0) (stays : B → B → Type 0) : Type 0 where
  pub stood_known : (b : B) (k : Place) (t : Terms) (o : Outcome) → IsAnswer o → stood b k o → knows b (about k (HasTerms t)) → has_role b t.to → knows b (about k (Decided o))
  pub role_stays : (b c : B) (p : ℕ) → stays b c → has_role b p → has_role c p

module _ {B : Type 0} (settings : B → HubSettings) (knows : B → Fact → Type 0) (has_role : B → ℕ → Type 0)
    (stood : B → Place → Outcome → Type 0) (stays : B → B → Type 0) (own : KnowsOwn knows has_role stood stays) where
  -- an acceptance or rejection of a place of which the beneficiary has nothing booked didn't stand before
  never_stood : (b : B) (book : Book) (margin : ℕ) (k : Place) (wish : Wish) (at : ℕ) (found : Option Outcome) (c : B) (o : Outcome) → IsLawfulBoard settings knows has_role b book
      → IsUnansweredFor knows b book k → (f : Finds margin knows has_role stood stays b k wish at found c) → IsAnswer o → stood f.between k o → ⊥
  never_stood b book margin k wish at found c o lawful mine f answer before =
      let role : has_role b mine.terms.to = subst (has_role b) (sym mine.mine) lawful.role in
      let known = own.stood_known f.between k mine.terms o answer before (f.looks.learns.kept (about k (HasTerms mine.terms)) mine.known) (own.role_stays b f.between mine.terms.to f.same_holder role) in
      let never : knows b (about k (Decided o)) → ⊥ = λ old.
      (let is = lawful.answered k mine.terms o mine.mine answer mine.known old in let none = mine.unbooked in let no : ⊥ = cc in no) in
      ⊎_elim never
      (λ shown. never (f.looks.answered mine.terms (f.looks.learns.agrees (HasTerms mine.terms) mine.known) role o answer shown.1).1)
      (f.looks.learns.only (about k (Decided o)) known)

  entered : (b c : B) (book : Book) (ask : Ask) (result : Result Reply Fault) (new : Book) → false ≡ decides book ask.command
      → Enters (settings b).margin knows b book ask result c new → result ≢ Err Memory → Answered book.settings book.who book.events ask (as_reply result) new.events
  entered b c book ask result new undecided enters served = ⊎_elim
      (λ done. record {
        found = None;
        reply_is = ap as_reply done.0;
        kept = ap (λ (x : Book). x.events) done.1;
        none = λ wish deadline until _. absurd (false≢true (undecided ∙ decides_it book ask.command wish deadline until));
        own = λ wish deadline until _ o _ _. absurd (false≢true (undecided ∙ decides_it book ask.command wish deadline until));
        other = λ _. refl;
      })
      (λ refused. absurd (served refused.0)) enters

  settled : (b c : B) (book : Book) (ask : Ask) (k : Place × Wish) (result : Result Reply Fault) (new : Book) → IsLawfulBoard settings knows has_role b book → IsSound book.settings book.who book.events
      → request book ask.command ≡ Some k → Settles (settings b).margin knows has_role stood stays b book ask k.0 k.1 result c new → result ≢ Err Memory
      → Answered book.settings book.who book.events ask (as_reply result) new.events
  settled b c book ask k result new lawful sound e settles served = ⊎_elim
      (λ done.
      let found : Option Outcome = done.0 in
      let f = done.3 in
      let u = asked_until settings knows has_role b book ask.command k lawful sound e in
      let margin : (settings b).margin ≡ book.settings.margin = ap (λ (s : HubSettings). s.margin) lawful.same_settings in
      let r : Answered book.settings book.who book.events ask (as_reply result) new.events = record {
        found = found;
        reply_is = ap as_reply done.1;
        kept = ap (λ (x : Book). x.events) done.2;
        none = λ wish deadline until nothing.
            let same = u.only wish deadline until in
            let says = f.decides.learns.agrees (Due u.deadline) (f.looks.learns.kept (about k.0 (Due u.deadline)) u.due) in
            let wants = nothing_wanted (settings b).margin (stood f.between k.0) k.1 ask.at f.decides.standing found u.deadline f.decides.answers says nothing in
            ap (λ (w : Wish). wanted book.settings.margin w deadline ask.at) same.0 ∙ ap (λ (d : ℕ). wanted book.settings.margin k.1 d ask.at) same.1
            ∙ ap (λ (m : ℕ). wanted m k.1 u.deadline ask.at) (sym margin) ∙ wants;
        own = λ wish deadline until answers o answer is.
            let same = u.only wish deadline until in
            let says = f.decides.learns.agrees (Due u.deadline) (f.looks.learns.kept (about k.0 (Due u.deadline)) u.due) in
            let mine = u.own (λ e. answers (same.0 ∙ e)) in
            let wants : wanted (settings b).margin k.1 u.deadline ask.at ≡ Some o = ⊎_elim
            (λ before. absurd (never_stood b book (settings b).margin k.0 k.1 ask.at found c o lawful mine f answer before))
            (λ w. w)
            (answered_so (settings b).margin (stood f.between k.0) k.1 ask.at f.decides.standing found u.deadline o f.decides.answers says is) in
            ap (λ (w : Wish). wanted book.settings.margin w deadline ask.at) same.0 ∙ ap (λ (d : ℕ). wanted book.settings.margin k.1 d ask.at) same.1
            ∙ ap (λ (m : ℕ). wanted m k.1 u.deadline ask.at) (sym margin) ∙ wants;
        other = λ undecided. absurd (undecided k.1 u.deadline u.decided);
      } in r)
      (λ refused. absurd (served refused.0)) settles

  pub answered : (b c : B) (book : Book) (ask : Ask) (result : Result Reply Fault) (new : Book) →
      IsLawfulBoard settings knows has_role b book → IsSound book.settings book.who book.events →
      is_some (request book ask.command) ≡ decides book ask.command →
      Applies (settings b).margin knows has_role stood stays b book ask result c new → result ≢ Err Memory →
      Answered book.settings book.who book.events ask (as_reply result) new.events
  answered b c book ask result new lawful sound asks applies served = go (request book ask.command) refl applies
    where
      go : (o : Option (Place × Wish)) → request book ask.command ≡ o → AppliesTo (settings b).margin knows has_role stood stays b book ask o result c new
          → Answered book.settings book.who book.events ask (as_reply result) new.events
      go None e enters = entered b c book ask result new (sym (ap is_some e) ∙ asks) enters served
      go (Some k) e settles = settled b c book ask k result new lawful sound e settles served
