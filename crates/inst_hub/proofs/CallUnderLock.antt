-- A call under a lock: what lies behind it stays lawful, and what the caller has then seen.
use Rattle.std.proofs.Common.{◌≡◌, ℕ, ◌<◌, true, ltb-true, IfSome, List, [], ◌∷◌, sym, refl, ◌∙◌, subst, Option, Some, None, ◌++◌, append_assoc, append-nil, ap}
use Rattle.std.specs.Prelude.{Bool, Contains, Result, Ok, Err, IfOk, OnErr}
use Rattle.std.proofs.lemmas.List.Elements.{Contains-append_left}
use Rattle.inst_settings.specs.Settings.{HubSettings, participants, is_participant}
use Rattle.inst_command.specs.declared.ask.Ask.{Ask}
use Rattle.inst_command.specs.declared.command.Command.{Command}
use Rattle.inst_command.specs.declared.command.Command.TheVariants.{Fund, Defund, Submit, Confirm, Reject, Investigate, Fetch, Query}
use Rattle.inst_command.specs.declared.reply.Reply.{Reply}
use Rattle.inst_model.specs.TransferTold.{TransferTold, transfer_told, tells_taken, tells_state, tells_nothing}
use Rattle.inst_command.specs.declared.place.Place.{Place}
use Rattle.inst_board.specs.declared.about.Fact.{Fact}
use Rattle.std.specs.Global.{Box}
use Rattle.std.specs.declared.alloc.AllocError.{AllocError}
use Rattle.inst_hub.specs.declared.initial_state.InitialState.{InitialState}
use Rattle.inst_cell.specs.declared.sight.Sight.{Sight}
use Rattle.inst_cell.specs.Seen.{sight_knows}
use Rattle.inst_journal.specs.declared.event.Event.{Event}
use Rattle.inst_journal.specs.Sound.{IsSound}
use Rattle.inst_row.specs.declared.view.Front.{Front}
use Rattle.inst_row.specs.declared.seat.RowSeat.{RowSeat}
use Rattle.inst_row.specs.View.{front}
use Rattle.inst_row.specs.Row.{key_of, size}
use Rattle.inst_row.specs.Seated.{view_of, Has, HasSeen, GoesOn, Sees}
use Rattle.inst_participant.specs.declared.participant.Participant.{Participant}
use Rattle.inst_hub.specs.declared.hub.Hub.{Hub}
use Rattle.inst_hub.specs.declared.teller.Teller.{Teller}
use Rattle.inst_participant.specs.LockLaw.{IsLater}
use Rattle.inst_participant.specs.Answers.{Answered, IsSubmitted, IsTicket, IsTicketOf}
use Rattle.inst_participant.specs.declared.follow_up.FollowUp.{FollowUp}
use Rattle.inst_participant.specs.Following.{follow_up_of, follow_up_after, Does}
use Rattle.inst_participant.specs.Serving.{AnswersWithTicket, LeavesUnanswered}
use Rattle.inst_hub.specs.Calls.{IsCall, Calls, IsLeftUnanswered, TellerKnowsMore, IsFollowed, knows_of, fronts_seen}
use Rattle.inst_hub.specs.Founding.{IsSince}
use Rattle.inst_hub.specs.inner.Calls.{Asks, Follows}

abbrev Seat : Type 0
Seat = RowSeat (Box Participant) Event InitialState

-- what was found behind the lock p: it keeps the law, and the seat has it and has seen its history
pub record IsFound (key : InitialState) (p : ℕ) (s mid : Seat) (x : Participant) : Type 0 where
  pub law : IsSince key p x
  pub goes_on : GoesOn p x.slot.events s
  pub has : Has p x.slot.events mid
  pub sees : Sees p x.slot.events s mid

-- the same out of its box
pub out_of_box : (key : InitialState) (p : ℕ) (s mid : Seat) (b : Box Participant) (x : Participant) → x ≡ b.value → IsSince key p b.value → GoesOn p b.value.slot.events s
    → Has p b.value.slot.events mid → Sees p b.value.slot.events s mid → IsFound key p s mid x
out_of_box key p s mid b x is law goes_on has sees =
    let found : IsFound key p s mid b.value = record { law = law; goes_on = goes_on; has = has; sees = sees } in
    subst (λ (y : Participant). IsFound key p s mid y) (sym is) found

module _ {T E K : Type 0} where
  pub seen_still : (p q : ℕ) (h l : List E) (s t : RowSeat T E K) → Sees p h s t → HasSeen q l s → HasSeen q l t
  seen_still p q h l s t sight_knows c = subst (λ (fs : List (Front E)). Contains fs (front q l)) (sym sight_knows.seen)
      (Contains-append_left (view_of s).fronts (front p h ∷ []) (front q l) c)

-- who took a lock and gave it back knows what it knew
pub still_knows : (t : Teller) (mid : Seat) (sight : Sight) (last : Seat) (p : ℕ) (h l : List Event) → ((f : Fact) → sight_knows t.sight f → sight_knows sight f)
    → Sees p h t.seat mid → Sees p l mid last → TellerKnowsMore t record { sight = sight; seat = last }
still_knows t mid sight last p h l kept first second = record {
  facts = kept;
  fronts = λ q J seen. seen_still p q l J mid last second (seen_still p q h J t.seat mid first seen);
  parts = second.parts ∙ first.parts;
}

-- what was answered under the lock of the asker
pub call_of : (h : Hub) (t u : Teller) (ask : Ask) (answer : Reply × Option Place) (x y : Participant) → IsSince (key_of h.row) ask.who x
    → GoesOn ask.who x.slot.events t.seat → fronts_seen u ≡ fronts_seen t ++ front ask.who x.slot.events ∷ front ask.who y.slot.events ∷ []
    → IsSound x.slot.settings x.slot.who x.slot.events → AnswersWithTicket x ask answer (sight_knows u.sight) y
    → IsCall h t ask answer [] u
call_of h t u ask answer x y behind goes_on seen sound answers =
    let settled : x.slot.settings ≡ h.settings = sym behind.behind.ready.lawful.same_settings ∙ (behind.behind.one.1 ∙ h.same) in record {
      found = x;
      left = y;
      behind = behind;
      sound = subst (λ (s : HubSettings). IsSound s ask.who x.slot.events) settled (subst (λ (n : ℕ). IsSound x.slot.settings n x.slot.events) behind.behind.who sound);
      goes_on = goes_on;
      seen = seen;
      serves = answers.serves;
      answered = subst (λ (s : HubSettings). Answered s ask.who x.slot.events ask answer.0 y.slot.events) settled
          (subst (λ (n : ℕ). Answered x.slot.settings n x.slot.events ask answer.0 y.slot.events) behind.behind.who answers.answered);
      ticket = subst (λ (s : HubSettings). IsTicket (sight_knows u.sight) s ask.who ask.command y.slot.events answer.0 answer.1) settled
          (subst (λ (n : ℕ). IsTicket (sight_knows u.sight) x.slot.settings n ask.command y.slot.events answer.0 answer.1) behind.behind.who answers.ticket);
    }

-- the same at the lock p, which is the asker's
pub call_at : (h : Hub) (t u : Teller) (ask : Ask) (answer : Reply × Option Place) (x y : Participant) (p : ℕ) → p ≡ ask.who → IsSince (key_of h.row) p x
    → GoesOn p x.slot.events t.seat → fronts_seen u ≡ fronts_seen t ++ front p x.slot.events ∷ front p y.slot.events ∷ []
    → IsSound x.slot.settings x.slot.who x.slot.events → AnswersWithTicket x ask answer (sight_knows u.sight) y
    → IsCall h t ask answer [] u
call_at h t u ask answer x y p is behind goes_on seen sound answers =
    call_of h t u ask answer x y (subst (λ (n : ℕ). IsSince (key_of h.row) n x) is behind) (subst (λ (n : ℕ). GoesOn n x.slot.events t.seat) is goes_on)
    (subst (λ (n : ℕ). fronts_seen u ≡ fronts_seen t ++ front n x.slot.events ∷ front n y.slot.events ∷ []) is seen) sound answers

-- the same, with what is to follow
pub asks_at : (h : Hub) (t u : Teller) (ask : Ask) (answer : Reply × Option Place) (f : Option FollowUp) (x y : Participant) (p : ℕ) → p ≡ ask.who → IsSince (key_of h.row) p x
    → GoesOn p x.slot.events t.seat → fronts_seen u ≡ fronts_seen t ++ front p x.slot.events ∷ front p y.slot.events ∷ []
    → IsSound x.slot.settings x.slot.who x.slot.events → AnswersWithTicket x ask answer (sight_knows u.sight) y
    → f ≡ follow_up_of y.slot.events ask.command answer.0 answer.1 → Asks h t ask (answer, f) u
unfolding call_at call_of
asks_at h t u ask answer f x y p is behind goes_on seen sound answers follows =
    (call_at h t u ask answer x y p is behind goes_on seen sound answers, follows)

-- who follows up is one of the hub's participants, and so has a lock
pub lock_of : (h : Hub) (p : ℕ) (x y : Participant) (f : Option FollowUp) → IsSince (key_of h.row) p x → IsLater x y → IfSome f (λ g. is_participant y.slot.settings g.who ≡ true) → IfSome f (λ g. g.who < size h.row)
lock_of h p x y None behind later fits = tt
lock_of h p x y (Some g) behind later fits =
    let same : y.slot.settings ≡ h.settings = later.settings ∙ (sym behind.behind.ready.lawful.same_settings ∙ (behind.behind.one.1 ∙ h.same)) in
    let below : g.who < participants h.settings = ltb-true g.who (participants h.settings) (ap (λ (s : HubSettings). is_participant s g.who) (sym same) ∙ fits) in
    subst (λ (n : ℕ). g.who < n) (sym h.sized) below

-- what was left where memory was refused
pub left_at : (h : Hub) (t u : Teller) (ask : Ask) (x y : Participant) (p : ℕ) → p ≡ ask.who → IsSince (key_of h.row) p x
    → GoesOn p x.slot.events t.seat → fronts_seen u ≡ fronts_seen t ++ front p x.slot.events ∷ front p y.slot.events ∷ []
    → LeavesUnanswered x ask y → IsLeftUnanswered h t ask u
left_at h t u ask x y p is behind goes_on seen leaves = record {
  found = x;
  left = y;
  behind = subst (λ (n : ℕ). IsSince (key_of h.row) n x) is behind;
  goes_on = subst (λ (n : ℕ). GoesOn n x.slot.events t.seat) is goes_on;
  seen = subst (λ (n : ℕ). fronts_seen u ≡ fronts_seen t ++ front n x.slot.events ∷ front n y.slot.events ∷ []) is seen;
  serves = leaves.serves;
  same = leaves.same;
}

-- who took a lock and gave it back has seen what was found and what was left
pub seen_both : (s mid last : Seat) (p : ℕ) (h l : List Event) → Sees p h s mid → Sees p l mid last → (view_of last).fronts ≡ (view_of s).fronts ++ front p h ∷ front p l ∷ []
seen_both s mid last p h l first second =
    second.seen ∙ (ap (λ (fs : List (Front Event)). fs ++ front p l ∷ []) first.seen ∙ append_assoc (view_of s).fronts (front p h ∷ []) (front p l ∷ []))

pub follows_one : (h : Hub) (f : FollowUp) (t : Teller) (mid last : Seat) (x y : Participant) (result : Result Bool AllocError) → IsSince (key_of h.row) f.who x
    → GoesOn f.who x.slot.events t.seat → Sees f.who x.slot.events t.seat mid → Sees f.who y.slot.events mid last → Does f.kind x f.place result y
    → Follows h (Some f) t record { sight = t.sight; seat = last }
follows_one h f t mid last x y result behind goes_on first second does = record {
  fronts = front f.who x.slot.events ∷ front f.who y.slot.events ∷ [];
  followed = record { found = x; left = y; behind = behind; goes_on = goes_on; does = (result, does); seen = refl };
  seen = seen_both t.seat mid last f.who x.slot.events y.slot.events first second;
}

-- what followed goes on from what was seen before the call
followed_from : (h : Hub) (f : Option FollowUp) (t u : Teller) (fronts : List (Front Event)) → TellerKnowsMore t u → IsFollowed h f u fronts → IsFollowed h f t fronts
followed_from h None t u fronts more done = done
followed_from h (Some f) t u fronts more done = record {
  found = done.found;
  left = done.left;
  behind = done.behind;
  goes_on = λ J seen. done.goes_on J (more.fronts f.who J seen);
  does = done.does;
  seen = done.seen;
}

-- what was answered, or left
pub asks_of : (h : Hub) (t u : Teller) (ask : Ask) (r : Result (Reply × Option Place) AllocError) (f : Option FollowUp) (x y : Participant) (p : ℕ) → p ≡ ask.who → IsSince (key_of h.row) p x
    → GoesOn p x.slot.events t.seat → fronts_seen u ≡ fronts_seen t ++ front p x.slot.events ∷ front p y.slot.events ∷ []
    → IsSound x.slot.settings x.slot.who x.slot.events → IfOk r (λ answer. AnswersWithTicket x ask answer (sight_knows u.sight) y)
    → f ≡ follow_up_after y.slot.events ask.command r → IfOk r (λ answer. Asks h t ask (answer, f) u)
asks_of h t u ask (Ok answer) f x y p is behind goes_on seen sound answers follows = asks_at h t u ask answer f x y p is behind goes_on seen sound answers follows
asks_of h t u ask (Err fault) f x y p is behind goes_on seen sound answers follows = tt

pub left_of : (h : Hub) (t u : Teller) (ask : Ask) (r : Result (Reply × Option Place) AllocError) (x y : Participant) (p : ℕ) → p ≡ ask.who → IsSince (key_of h.row) p x
    → GoesOn p x.slot.events t.seat → fronts_seen u ≡ fronts_seen t ++ front p x.slot.events ∷ front p y.slot.events ∷ []
    → OnErr r (LeavesUnanswered x ask y) → OnErr r (IsLeftUnanswered h t ask u)
left_of h t u ask (Ok answer) x y p is behind goes_on seen leaves = tt
left_of h t u ask (Err fault) x y p is behind goes_on seen leaves = left_at h t u ask x y p is behind goes_on seen leaves

-- nothing follows where memory was refused
pub none_after : (J : List Event) (command : Command) (r : Result (Reply × Option Place) AllocError) (f : Option FollowUp) → f ≡ follow_up_after J command r → OnErr r (f ≡ None)
none_after J command (Ok answer) f follows = tt
none_after J command (Err fault) f follows = follows

-- what a teller knows stays known
pub knows_twice : (t u v : Teller) → TellerKnowsMore t u → TellerKnowsMore u v → TellerKnowsMore t v
knows_twice t u v first second = record {
  facts = λ f k. second.facts f (first.facts f k);
  fronts = λ p J k. second.fronts p J (first.fronts p J k);
  parts = second.parts ∙ first.parts;
}

submitted_more : (S S' : Fact → Type 0) → ((f : Fact) → S f → S' f) → (s : HubSettings) (command : Command) (k : Place) → IsSubmitted S s command k → IsSubmitted S' s command k
submitted_more S S' more s (Submit x) k h = (more _ h.0, more _ h.1, more _ h.2)
submitted_more S S' more s (Fund funding) k h = absurd h
submitted_more S S' more s (Defund funding) k h = absurd h
submitted_more S S' more s (Confirm p i) k h = absurd h
submitted_more S S' more s (Reject p i r) k h = absurd h
submitted_more S S' more s (Investigate i) k h = absurd h
submitted_more S S' more s (Fetch n) k h = absurd h
submitted_more S S' more s (Query query) k h = absurd h

ticket_more : (S S' : Fact → Type 0) → ((f : Fact) → S f → S' f) → (s : HubSettings) (who : ℕ) (command : Command) (K : List Event) (told : TransferTold) (ticket : Option Place)
    → IsTicketOf S s who command K told ticket → IsTicketOf S' s who command K told ticket
ticket_more S S' more s who command K (tells_taken id d) (Some k) h = (h.0, h.1, submitted_more S S' more s command k h.2)
ticket_more S S' more s who command K (tells_taken id d) None h = h
ticket_more S S' more s who command K (tells_state from id state) (Some k) h = (
  h.0,
  h.1,
  record {
    terms = h.2.terms;
    id_is = h.2.id_is;
    opened = more _ h.2.opened;
    has_terms = more _ h.2.has_terms;
    outcome = λ o e. more _ (h.2.outcome o e);
  },
)
ticket_more S S' more s who command K (tells_state from id state) None h = h
ticket_more S S' more s who command K tells_nothing ticket h = h

-- a call, and what followed
pub call_more : (h : Hub) (t u v : Teller) (ask : Ask) (r : (Reply × Option Place) × Option FollowUp) → Asks h t ask r u → TellerKnowsMore t u → TellerKnowsMore u v → Follows h r.1 u v → Calls h t ask r.0 v
call_more h t u v ask r asks known more follows =
    let c = asks.0 in
    let call : IsCall h t ask r.0 follows.fronts v = record {
      found = c.found;
      left = c.left;
      behind = c.behind;
      sound = c.sound;
      goes_on = c.goes_on;
      seen = follows.seen ∙ (ap (λ (fs : List (Front Event)). fs ++ follows.fronts) c.seen
          ∙ append_assoc (fronts_seen t) (front ask.who c.found.slot.events ∷ front ask.who c.left.slot.events ∷ []) follows.fronts);
      serves = c.serves;
      answered = c.answered;
      ticket = ticket_more (knows_of u) (knows_of v) more.facts h.settings ask.who ask.command c.left.slot.events (transfer_told r.0.0) r.0.1 c.ticket;
    } in
    (follows.fronts, call, subst (λ (f : Option FollowUp). IsFollowed h f t follows.fronts) asks.1 (followed_from h r.1 t u follows.fronts known follows.followed))

pub calls_of : (h : Hub) (t u v : Teller) (ask : Ask) (r : Result (Reply × Option Place) AllocError) (f : Option FollowUp) → IfOk r (λ answer. Asks h t ask (answer, f) u) → TellerKnowsMore t u → TellerKnowsMore u v
    → Follows h f u v → IfOk r (λ answer. Calls h t ask answer v)
calls_of h t u v ask (Ok answer) f asks known more follows = call_more h t u v ask (answer, f) asks known more follows
calls_of h t u v ask (Err fault) f asks known more follows = tt

-- nothing followed, so nothing else was seen
left_still : (h : Hub) (t u v : Teller) (ask : Ask) (f : Option FollowUp) → IsLeftUnanswered h t ask u → f ≡ None → Follows h f u v → IsLeftUnanswered h t ask v
left_still h t u v ask None left none follows = record {
  found = left.found;
  left = left.left;
  behind = left.behind;
  goes_on = left.goes_on;
  seen = follows.seen ∙ (ap (λ (fs : List (Front Event)). fronts_seen u ++ fs) follows.followed ∙ (append-nil (fronts_seen u) ∙ left.seen));
  serves = left.serves;
  same = left.same;
}
left_still h t u v ask (Some g) left none follows = absurd (cc (none))

pub left_after : (h : Hub) (t u v : Teller) (ask : Ask) (r : Result (Reply × Option Place) AllocError) (f : Option FollowUp) → OnErr r (IsLeftUnanswered h t ask u) → OnErr r (f ≡ None) → Follows h f u v
    → OnErr r (IsLeftUnanswered h t ask v)
left_after h t u v ask (Ok answer) f left none follows = tt
left_after h t u v ask (Err fault) f left none follows = left_still h t u v ask f left none follows
