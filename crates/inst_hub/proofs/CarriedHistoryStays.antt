-- What a history carries stays what it was: no call of a participant leaves an opening.
use Rattle.std.proofs.Common.{arith, ◌≡◌, ℕ, ◌<◌, List, [], ◌∷◌, ◌++◌, append-nil, append_assoc, length, refl, sym, ap, ◌∙◌, subst, ⊎_elim, Option, Some, false}
use Rattle.std.specs.Prelude.{Contains, Result, Ok, Err, IfOk, OnErr, slice_get}
use Rattle.std.proofs.lemmas.List.Elements.{Contains-append_right}
use Rattle.std.specs.Global.{Box}
use Rattle.std.specs.declared.alloc.AllocError.{AllocError}
use Rattle.inst_settings.specs.Settings.{HubSettings}
use Rattle.inst_command.specs.declared.ask.Ask.{Ask}
use Rattle.inst_command.specs.declared.command.Command.{Command}
use Rattle.inst_command.specs.declared.outcome.Outcome.{Outcome}
use Rattle.inst_command.specs.declared.reply.Reply.{Reply}
use Rattle.inst_command.specs.declared.place.Place.{Place}
use Rattle.inst_cell.specs.declared.shared_board.SharedBoard.{SharedBoard}
use Rattle.inst_board.specs.declared.about.Fact.{Fact}
use Rattle.inst_journal.specs.declared.event.Event.{Event}
use Rattle.inst_journal.specs.declared.event.Event.TheVariants.{Funded, Defunded, Taken, Forwarded, Booked, Fetched, Opened}
use Rattle.inst_journal.specs.Opened.{is_opening, carried}
use Rattle.inst_journal.specs.Reply.{handle, kept_events}
use Rattle.inst_journal.proofs.EventsCarriedOverOpening.{carried_push}
use Rattle.inst_model.proofs.KeptCases.{kept_cases}
use Rattle.inst_hub.specs.declared.initial_state.InitialState.{InitialState}
use Rattle.inst_participant.specs.declared.participant.Participant.{Participant}
use Rattle.inst_participant.specs.Serving.{AnswersWithTicket, LeavesUnanswered}
use Rattle.inst_participant.specs.LockLaw.{IsBehind}
use Rattle.inst_participant.specs.Told.{TellsOfTransfer, IsToldMore}
use Rattle.inst_hub.specs.Founding.{IsSince, history_in, outset_of}
use Rattle.inst_hub.specs.inner.Opening.{unboxed, AreBehind}
use Rattle.inst_participant.specs.Told.{IsToldAll}
use Rattle.inst_hub.proofs.BoardsAndTellersOfNewHub.{behind_values}

told_is_none : (e : Event) → TellsOfTransfer e → is_opening e ≡ false
told_is_none (Forwarded from id cents deadline) t = refl
told_is_none (Booked from id outcome) t = refl
told_is_none (Funded funding) t = absurd t
told_is_none (Defunded funding) t = absurd t
told_is_none (Taken id to cents stamp) t = absurd t
told_is_none (Fetched count) t = absurd t
told_is_none Opened t = absurd t

pub told_carries : (J K : List Event) → IsToldMore J K → carried K ≡ carried J
told_carries J K told = ⊎_elim
    (λ same. ap carried same)
    (λ more. ap carried more.2 ∙ carried_push J more.0 (told_is_none more.0 more.1))
    told

more_carries : (J more : List Event) → ((e : Event) → Contains more e → TellsOfTransfer e) → carried (J ++ more) ≡ carried J
more_carries J [] told = ap carried (append-nil J)
more_carries J (e ∷ more) told =
    ap carried (sym (append_assoc J (e ∷ []) more))
    ∙ (more_carries (J ++ e ∷ []) more (λ x h. told x (later x h)) ∙ carried_push J e (told_is_none e (told e (first_in e more))))
  where
    first_in : (x : Event) (xs : List Event) → Contains (x ∷ xs) x
    first_in x xs = (0, omega arith, refl)

    later : (x : Event) → Contains more x → Contains (e ∷ more) x
    later x h = Contains-append_right (e ∷ []) more x h

pub all_carries : (J K : List Event) → IsToldAll J K → carried K ≡ carried J
all_carries J K told = ap carried told.1 ∙ more_carries J told.0 told.2

pub kept_carries : (s : HubSettings) (who : ℕ) (J : List Event) (command : Command) (at : ℕ) (found : Option Outcome) → carried (J ++ kept_events (handle s who J command at found)) ≡ carried J
kept_carries s who J command at found = kept_cases s who J command at found (λ events. carried (J ++ events) ≡ carried J) (record {
  nothing = ap carried (append-nil J);
  funds = λ funding is why. carried_push J (Funded funding) refl;
  defunds = λ funding is why cover. carried_push J (Defunded funding) refl;
  takes = λ x is why. carried_push J (Taken x.id x.to x.cents x.stamp) refl;
  books = λ from id outcome why. carried_push J (Booked from id outcome) refl;
  hands_out = λ max entry entries is some. carried_push J (Fetched (length (entry ∷ entries))) refl;
})

-- a participant that served an ask
pub serve_carries : (ask : Ask) (sees : Fact → Type 0) (x y : Participant) (r : Result (Reply × Option Place) AllocError)
    → IfOk r (λ answer. AnswersWithTicket x ask answer sees y) → OnErr r (LeavesUnanswered x ask y)
    → carried y.slot.events ≡ carried x.slot.events
serve_carries ask sees x y (Ok answer) answers leaves = ap carried answers.answered.kept ∙ kept_carries x.slot.settings x.slot.who x.slot.events ask.command ask.at answers.answered.found
serve_carries ask sees x y (Err fault) answers leaves = ap (λ b. carried b.events) leaves.same

-- what was found behind a lock, and what is left there
pub since_later : (key : InitialState) (p : ℕ) (b : Box Participant) (x y : Participant) → x ≡ b.value → IsSince key p b.value → IsBehind key.words.value p y → carried y.slot.events ≡ carried x.slot.events → IsSince key p y
since_later key p b x y is since behind carries = record {
  behind = behind;
  carries = carries ∙ (ap (λ (z : Participant). carried z.slot.events) is ∙ since.carries);
}

-- the values of a hub that opens carry what they do
pub first_since : (key : InitialState) (w : SharedBoard) (n : ℕ) (histories : ℕ → List Event) (all : List (Option (Box Participant))) → AreBehind w n histories (unboxed all)
    → key.words.value ≡ w → key.all.value.items ≡ all
    → (p : ℕ) → p < length all → (x : Box Participant) × (slice_get all p ≡ Some (Some x)) × IsSince key p x.value
first_since key w n histories all are words same p below =
    let v = behind_values w n histories all are p below in
    let here : history_in (slice_get key.all.value.items p) ≡ v.0.value.slot.events = ap (λ (l : List (Option (Box Participant))). history_in (slice_get l p)) same ∙ ap history_in v.1 in (
      v.0,
      v.1,
      record {
        behind = subst (λ (b : SharedBoard). IsBehind b p v.0.value) (sym words) v.2;
        carries = sym (ap carried here);
      },
    )

-- and these are the histories that it opens with
pub first_carried : (key : InitialState) (w : SharedBoard) (n : ℕ) (histories : ℕ → List Event) (all : List (Option (Box Participant))) → AreBehind w n histories (unboxed all)
    → key.all.value.items ≡ all → (p : ℕ) → p < length all → outset_of key p ≡ carried (histories p)
first_carried key w n histories all are same p below =
    let v = behind_values w n histories all are p below in
    ap carried (ap (λ (l : List (Option (Box Participant))). history_in (slice_get l p)) same ∙ (ap history_in v.1 ∙ v.3))
