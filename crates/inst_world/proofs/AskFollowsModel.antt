-- An ask, over a board that has the model's outcomes, is answered and kept as the model says.
use Rattle.std.proofs.Common.{◌≡◌, ℕ, ◌<◌, Bool, true, false, cond, ltb, ◌&&◌, ◌||◌, List, [], ◌∷◌, ◌++◌, length, Option, Some, None, is_none, is_some, Result, Err, refl, sym, ap, subst, ◌∙◌, inl, inr, ◌⊎◌, append-nil, arith, length-append}
use Rattle.std.proofs.lemmas.Bool.{cases_eq, cond-true, false≢true, ltb-true}
use Rattle.inst_base.specs.TimeLimit.{deadline_of}
use Rattle.inst_base.specs.declared.fault.Fault.{Fault}
use Rattle.inst_base.specs.declared.fault.Fault.TheVariants.{Memory, UnknownTransfer, Expired}
use Rattle.inst_settings.specs.Settings.{HubSettings}
use Rattle.inst_command.specs.declared.ask.Ask.{Ask as AskValue}
use Rattle.inst_command.specs.declared.command.Command.{Command}
use Rattle.inst_command.specs.declared.command.Command.TheVariants.{Fund, Defund, Submit, Confirm, Reject, Investigate, Fetch, Query}
use Rattle.inst_command.specs.declared.outcome.Outcome.{Outcome}
use Rattle.inst_command.specs.declared.reply.Reply.{Reply}
use Rattle.inst_command.specs.declared.submission.Submission.{Submission}
use Rattle.inst_command.specs.declared.step.Step.{Step}
use Rattle.inst_command.specs.declared.step.Step.TheVariants.{Ask}
use Rattle.inst_command.specs.declared.place.Place.{Place}
use Rattle.inst_board.specs.declared.wish.Wish.{Wish}
use Rattle.inst_board.specs.Wish.{wanted}
use Rattle.inst_board.specs.Standing.{pending, look_of}
use Rattle.inst_board.specs.Learning.{Learns}
use Rattle.inst_board.specs.Plain.{Contents, standing_at, plain_knows, plain_stood}
use Rattle.inst_board.proofs.PromisesExactOnPlainBoard.{opens_exactly}
use Rattle.inst_journal.specs.declared.event.Event.{Event}
use Rattle.inst_journal.specs.declared.event.Event.TheVariants.{Funded, Defunded, Taken, Booked, Fetched}
use Rattle.inst_journal.specs.declared.handle.Handled.{Handled}
use Rattle.inst_journal.specs.Booked.{booked, is_taken, is_forwarded, or_else}
use Rattle.inst_journal.specs.Opened.{carried, is_live, live_submissions}
use Rattle.inst_journal.specs.Reply.{handle, reply_result, kept_events, state_reply, still_pending, copies}
use Rattle.inst_journal.proofs.EventsCarriedOverOpening.{carried_unbooked}
use Rattle.inst_model.specs.Opening.{Opening, IsOpening}
use Rattle.inst_model.specs.Interleaving.{IsInterleaving}
use Rattle.inst_model.specs.Transfer.{Transfer, live_transfers, deadline}
use Rattle.inst_model.specs.View.{Seen}
use Rattle.inst_model.specs.View.Seen.{Asked}
use Rattle.inst_model.specs.Found.{found}
use Rattle.inst_model.specs.Hub.{outcome, history}
use Rattle.inst_model.proofs.KeptCases.{TakenKept, kept_cases}
use Rattle.inst_model.proofs.LiveForwardedTransfers.{length_live}
use Rattle.inst_model.proofs.NamesOfTransfers.{live_grown}
use Rattle.inst_model.proofs.AllHistoriesTogether.{together}
use Rattle.inst_model.proofs.Transfers.{transfer_none}
use Rattle.inst_slot.specs.Book.{Book, place_at, terms_to}
use Rattle.inst_slot.specs.Asking.{decides, request, handle_ask, book_after, Finds, Opens, takes_memory, Enters, Settles, AppliesTo, Applies}
use Rattle.inst_world.specs.HasRun.{StandsWith, StandsFor, terms_of, IsBoardOf, IsMember, NeedsMemory}
use Rattle.inst_world.proofs.PlaceOfKnownTransfer.{say_pending, finds_settle, looked, wish_finds}
use Rattle.inst_world.proofs.PlacesOfLiveTransfers.{sees_this, if_own, others_stay, untaken_unbooked, untaken_undecided}
use Rattle.inst_world.proofs.BoardOutcomesAfterStep.{SameLive, board_stays, board_settles, board_opens}
use Rattle.inst_world.proofs.DeliveryAndResolutionFollowModel.{Ran, looked_still}
use Rattle.inst_world.proofs.AskThatDecidesNothing.{unfound, undecided}
use Rattle.inst_world.proofs.WishOfAnAsk.{Decides, decides_this}
use Rattle.inst_model.proofs.StepsThatOnlyTell.{none_taken}

-- the events leave the live transfers, and open no place
pub record OpensNothing (who : ℕ) (J E : List Event) : Type 0 where
  pub live : live_transfers who (J ++ E) ≡ live_transfers who J
  pub board : (margin : ℕ) (book : Book) (b c : Contents) → Opens margin plain_knows book E b c → c ≡ b

-- the events take a submission
pub record TakesOne (s : HubSettings) (who : ℕ) (J : List Event) (command : Command) (E : List Event) : Type 0 where
  pub submission : Submission
  pub events_are : E ≡ Taken submission.id submission.to submission.cents submission.stamp ∷ []
  pub why : TakenKept s who J submission.id submission.to submission.cents
  pub command_is : command ≡ Submit submission

kind_of : (s : HubSettings) (who : ℕ) (J : List Event) (command : Command) (at : ℕ) (o : Option Outcome)
    → OpensNothing who J (kept_events (handle s who J command at o)) ⊎ TakesOne s who J command (kept_events (handle s who J command at o))
kind_of s who J command at o = kept_cases s who J command at o (λ E. OpensNothing who J E ⊎ TakesOne s who J command E) (record {
  nothing = inl (record { live = ap (live_transfers who) (append-nil J); board = λ margin book b c e. e });
  funds = λ funding is why. inl (record { live = none_taken who J (Funded funding) refl refl; board = λ margin book b c e. e });
  defunds = λ funding is why cover. inl (record { live = none_taken who J (Defunded funding) refl refl; board = λ margin book b c e. e });
  takes = λ x is why. inr (record { submission = x; events_are = refl; why = why; command_is = is });
  books = λ from id z why. inl (record { live = none_taken who J (Booked from id z) refl refl; board = λ margin book b c e. e });
  hands_out = λ max entry entries is some. inl (record { live = none_taken who J (Fetched (length (entry ∷ entries))) refl refl; board = λ margin book b c e. e });
})

either_true : (a c : Bool) → (a || c) ≡ true → (a ≡ true) ⊎ (c ≡ true)
either_true true c is = inl refl
either_true false c is = inr is

-- what is found for a command that decides a transfer is kept
kept_of : (party : Bool) (from : ℕ) (id : List ℕ) (else_so : Result Handled Fault) (before : Option Outcome) (o : Outcome) → (party && is_none before) ≡ true
    → 0 < length (kept_events (cond party (state_reply from id else_so before (Some o)) (Err UnknownTransfer)))
kept_of true from id else_so None o decided = omega arith
kept_of true from id else_so (Some z) o decided = absurd (false≢true decided)
kept_of false from id else_so before o decided = absurd (false≢true decided)

found_is_kept : (book : Book) (command : Command) (at : ℕ) (o : Outcome) → decides book command ≡ true → 0 < length (kept_events (handle book.settings book.who book.events command at (Some o)))
found_is_kept book (Fund funding) at o decided = absurd (false≢true decided)
found_is_kept book (Defund funding) at o decided = absurd (false≢true decided)
found_is_kept book (Submit x) at o decided = absurd (false≢true decided)
found_is_kept book (Confirm from id) at o decided = kept_of (is_forwarded from id book.events) from id (Err Expired) (booked from id book.events) o decided
found_is_kept book (Reject from id reason) at o decided = kept_of (is_forwarded from id book.events) from id (still_pending from id) (booked from id book.events) o decided
found_is_kept book (Investigate id) at o decided = kept_of (is_taken id book.events) book.who id (still_pending book.who id) (booked book.who id book.events) o decided
found_is_kept book (Fetch max) at o decided = absurd (false≢true decided)
found_is_kept book (Query query) at o decided = absurd (false≢true decided)

module _ (s : HubSettings) (O : Opening) (opening : IsOpening s O) (L : List Step) (steps : IsInterleaving s L) (b : Contents) (board : IsBoardOf s O L b) where
  module _ (ask : AskValue) (book : Book) (member : IsMember s b ask.who book) (events : book.events ≡ history s O L ask.who) where
    -- what it is answered in the model, and what is kept of it
    abbrev pub model_handles : Result Handled Fault
    model_handles = handle s ask.who (history s O L ask.who) ask.command ask.at (found (outcome s O (Ask ask ∷ L)) ask.who (history s O L ask.who) ask.command)

    history_is : history s O (Ask ask ∷ L) ask.who ≡ history s O L ask.who ++ kept_events model_handles
    history_is =
        let V : List Seen = Asked ask.command ask.at (found (outcome s O (Ask ask ∷ L)) ask.who (history s O L ask.who) ask.command) ∷ [] in
        let seen = sees_this s O (Ask ask) L ask.who V (if_own ask.who V) in
        seen.history_is

    live_same : live_transfers ask.who (history s O L ask.who ++ kept_events model_handles) ≡ live_transfers ask.who (history s O L ask.who) → SameLive s O (Ask ask) L
    live_same same p = elim (cases_eq p ask.who) [
      | inl own ↦ subst (λ (q : ℕ). live_transfers q (history s O (Ask ask ∷ L) q) ≡ live_transfers q (history s O L q)) (sym own) (ap (live_transfers ask.who) history_is ∙ same)
      | inr other ↦ ap (live_transfers p) (others_stay s O (Ask ask) L p other)
    ]

    -- the slot's books handle an ask as the model's histories do
    handled_alike : (o : Option Outcome) → handle_ask book ask o ≡ handle s ask.who (history s O L ask.who) ask.command ask.at o
    handled_alike o =
        ap (λ (t : HubSettings). handle t book.who book.events ask.command ask.at o) member.settings_are
        ∙ ap (λ (w : ℕ). handle s w book.events ask.command ask.at o) member.who_is
        ∙ ap (λ (E : List Event). handle s ask.who E ask.command ask.at o) events

    events_after : (o : Option Outcome) (new : Book) → new ≡ book_after book ask o → handle_ask book ask o ≡ model_handles → new.events ≡ history s O (Ask ask ∷ L) ask.who
    events_after o new is same =
        ap (λ (n : Book). n.events) is ∙ ap (λ (h : Result Handled Fault). book.events ++ kept_events h) same
        ∙ ap (λ (E : List Event). E ++ kept_events model_handles) events ∙ sym history_is

    -- the ask was run: it is answered as in the model; or memory was refused that it needs, and nothing changed
    abbrev pub AskRanOrNot : Result Reply Fault → Book → Contents → Type 0
    AskRanOrNot result new c =
        ((result ≡ reply_result model_handles) × Ran s O (Ask ask) L new c) ⊎ ((result ≡ Err Memory) × (new ≡ book) × IsBoardOf s O L c × NeedsMemory s O L (Ask ask))

    -- an ask whose event is kept needs memory
    keeping_needs : (h : Result Handled Fault) → h ≡ model_handles → 0 < length (kept_events h) → NeedsMemory s O L (Ask ask)
    keeping_needs h same kept =
        let kept_too : 0 < length (kept_events model_handles) = subst (λ (r : Result Handled Fault). 0 < length (kept_events r)) same kept in
        inr (omega (arith, ap length history_is, length-append (history s O L ask.who) (kept_events model_handles), kept_too))

    module _ (none : decides book ask.command ≡ false) where
      outcomes_stay : (p : ℕ) (id : List ℕ) → outcome s O (Ask ask ∷ L) p id ≡ outcome s O L p id
      outcomes_stay p id = undecided s O opening L ask.who book member.who_is events ask.command ask.at p id none

      handled_none : handle_ask book ask None ≡ model_handles
      handled_none =
          sym (unfound book (outcome s O (Ask ask ∷ L)) ask.command ask.at none)
          ∙ handled_alike (found (outcome s O (Ask ask ∷ L)) book.who book.events ask.command)
          ∙ ap (λ (w : ℕ). handle s ask.who (history s O L ask.who) ask.command ask.at (found (outcome s O (Ask ask ∷ L)) w book.events ask.command)) member.who_is
          ∙ ap (λ (E : List Event). handle s ask.who (history s O L ask.who) ask.command ask.at (found (outcome s O (Ask ask ∷ L)) ask.who E ask.command)) events

      opens_one : (margin : ℕ) (c : Contents) → TakesOne s ask.who (history s O L ask.who) ask.command (kept_events model_handles)
          → Opens margin plain_knows book (kept_events model_handles) b c → IsBoardOf s O (Ask ask ∷ L) c
      opens_one margin c one opens =
          let x : Submission = one.submission in
          let J : List Event = history s O L ask.who in
          let t : Transfer = record { id = x.id; to = x.to; cents = x.cents; stamp = x.stamp } in
          let sound = (together s O opening L steps).sound ask.who in
          let learns : Learns margin plain_knows b (place_at book.who (live_submissions book.who book.events)) (pending (terms_to x.to x.cents x.id) (deadline_of book.settings.limit x.stamp)) c =
          subst (λ (E : List Event). Opens margin plain_knows book E b c) one.events_are opens in
          let place_is : place_at book.who (live_submissions book.who book.events) ≡ place_at ask.who (length (live_transfers ask.who J)) =
          ap (λ (w : ℕ). place_at w (live_submissions w book.events)) member.who_is
          ∙ ap (λ (E : List Event). place_at ask.who (live_submissions ask.who E)) events
          ∙ ap (place_at ask.who) (sym (length_live ask.who J)) in
          let here : Learns margin plain_knows b (place_at ask.who (length (live_transfers ask.who J))) (pending (terms_of t) (deadline s t)) c =
          subst (λ (h : HubSettings). Learns margin plain_knows b (place_at ask.who (length (live_transfers ask.who J))) (pending (terms_of t) (deadline_of h.limit x.stamp)) c) member.settings_are
          (subst (λ (k : Place). Learns margin plain_knows b k (pending (terms_to x.to x.cents x.id) (deadline_of book.settings.limit x.stamp)) c) place_is learns) in
          let stands = opens_exactly margin b c (place_at ask.who (length (live_transfers ask.who J))) (terms_of t) (deadline s t) here in
          let unlive : booked ask.who x.id (carried J) ≡ None = carried_unbooked ask.who x.id J (untaken_unbooked s ask.who x.id J sound (transfer_none x.id J one.why.new)) in
          let live : is_live ask.who x.id J ≡ true = ap (λ (o : Option Outcome). is_none o) unlive in
          let grown : live_transfers ask.who (history s O (Ask ask ∷ L) ask.who) ≡ live_transfers ask.who J ++ t ∷ [] =
          ap (live_transfers ask.who) (history_is ∙ ap (λ (E : List Event). J ++ E) one.events_are)
          ∙ live_grown ask.who J (Taken x.id x.to x.cents x.stamp) refl
          ∙ ap (λ (T : List Transfer). live_transfers ask.who J ++ T) (cond-true (is_live ask.who x.id J) (t ∷ []) [] live) in
          board_opens s O opening L steps (Ask ask) b c board ask.who t grown
          (λ p other. ap (live_transfers p) (others_stay s O (Ask ask) L p other))
          (say_pending (standing_at c (place_at ask.who (length (live_transfers ask.who J)))) (terms_of t) (deadline s t) stands.here)
          (λ j other. stands.elsewhere j other)
          (outcomes_stay ask.who x.id ∙ untaken_undecided s O opening L ask.who x.id (transfer_none x.id J one.why.new))
          (λ p index y is. outcomes_stay p y.id)

      board_after : (margin : ℕ) (c : Contents) → Opens margin plain_knows book (kept_events model_handles) b c
          → OpensNothing ask.who (history s O L ask.who) (kept_events model_handles) ⊎ TakesOne s ask.who (history s O L ask.who) ask.command (kept_events model_handles)
          → IsBoardOf s O (Ask ask ∷ L) c
      board_after margin c opens (inr one) = opens_one margin c one opens
      board_after margin c opens (inl nothing) =
          subst (λ (d : Contents). IsBoardOf s O (Ask ask ∷ L) d) (sym (nothing.board margin book b c opens))
          (board_stays s O opening L steps (Ask ask) b b board (live_same nothing.live) (λ j a. (λ h. h, λ h. h)) (λ p index y is. outcomes_stay p y.id))

      entering_needs : takes_memory book ask ≡ true → NeedsMemory s O L (Ask ask)
      entering_needs takes = elim (either_true (copies book.events ask.command) (ltb 0 (length (kept_events (handle_ask book ask None)))) takes) [
        | inl copied ↦ inl (ap (λ (E : List Event). copies E ask.command) (sym events) ∙ copied)
        | inr kept ↦ keeping_needs (handle_ask book ask None) handled_none (ltb-true 0 (length (kept_events (handle_ask book ask None))) kept)
      ]

      enters_run : (margin : ℕ) (c : Contents) (result : Result Reply Fault) (new : Book) → Enters margin plain_knows b book ask result c new → AskRanOrNot result new c
      enters_run margin c result new did = elim did [
        | inl done ↦ inl (
          done.0 ∙ ap reply_result handled_none,
          record {
            events = events_after None new done.1 handled_none;
            board = board_after margin c (subst (λ (h : Result Handled Fault). Opens margin plain_knows book (kept_events h) b c) handled_none done.2)
                (kind_of s ask.who (history s O L ask.who) ask.command ask.at (found (outcome s O (Ask ask ∷ L)) ask.who (history s O L ask.who) ask.command));
          },
        )
        | inr refused ↦ inr (refused.0, refused.1, subst (λ (d : Contents). IsBoardOf s O L d) (sym refused.2) board, entering_needs refused.3)
      ]

    module _ (asked : Place × Wish) (d : Decides s O L ask asked) where
      takes_no_place : OpensNothing ask.who (history s O L ask.who) (kept_events model_handles) ⊎ TakesOne s ask.who (history s O L ask.who) ask.command (kept_events model_handles)
          → live_transfers ask.who (history s O L ask.who ++ kept_events model_handles) ≡ live_transfers ask.who (history s O L ask.who)
      takes_no_place (inl nothing) = nothing.live
      takes_no_place (inr one) = absurd (d.no_submission one.submission one.command_is)

      settles_run : decides book ask.command ≡ true → (margin : ℕ) (stays : Contents → Contents → Type 0) (c : Contents) (result : Result Reply Fault) (new : Book) → margin ≡ s.margin
          → Settles margin plain_knows (λ _ _. Unit {0}) plain_stood stays b book ask asked.0 asked.1 result c new → AskRanOrNot result new c
      settles_run decided margin stays c result new margin_is did = elim did [
        | inl done ↦
            let x : Transfer = d.transfer in
            let o : Option Outcome = done.0 in
            let k : Place = place_at d.from d.index in
            let finds : Finds margin plain_knows (λ _ _. Unit {0}) plain_stood stays b k asked.1 ask.at o c =
            subst (λ (j : Place). Finds margin plain_knows (λ _ _. Unit {0}) plain_stood stays b j asked.1 ask.at o c) d.place_is done.3 in
            let settled = finds_settle margin b c k asked.1 ask.at o (outcome s O L d.from x.id) (terms_of x) (deadline s x) stays stands finds in
            let after_is : outcome s O (Ask ask ∷ L) d.from x.id ≡ o =
            d.wants ∙ ap (λ (m : ℕ). or_else (outcome s O L d.from x.id) (wanted m asked.1 (deadline s x) ask.at)) (sym margin_is) ∙ sym settled.found_is in
            let same : handle_ask book ask o ≡ model_handles =
            handled_alike o ∙ ap (handle s ask.who (history s O L ask.who) ask.command ask.at) (sym (d.found_is ∙ after_is)) in
            inl (
              done.1 ∙ ap reply_result same,
              record {
                events = events_after o new done.2 same;
                board = board_settles s O opening L steps (Ask ask) b c board
                    (live_same (takes_no_place (kind_of s ask.who (history s O L ask.who) ask.command ask.at (found (outcome s O (Ask ask ∷ L)) ask.who (history s O L ask.who) ask.command))))
                    d.from d.index x d.there (subst (λ (z : Option Outcome). StandsWith (terms_of x) (deadline s x) z (standing_at c k)) (sym after_is) settled.here) settled.elsewhere
                    (λ p id other. d.others p id other);
              },
            )
        | inr refused ↦
            let x : Transfer = d.transfer in
            let shown : refused.2.look ≡ look_of (standing_at b (place_at d.from d.index)) =
            (looked margin b c asked.0 refused.2.look refused.2.looks).0 ∙ ap (λ (j : Place). look_of (standing_at b j)) d.place_is in
            let z = wish_finds margin asked.1 ask.at (terms_of x) (deadline s x) (outcome s O L d.from x.id) (standing_at b (place_at d.from d.index)) refused.2.look stands shown refused.2.books in
            let after_is : outcome s O (Ask ask ∷ L) d.from x.id ≡ Some z.0 =
            d.wants ∙ ap (λ (m : ℕ). or_else (outcome s O L d.from x.id) (wanted m asked.1 (deadline s x) ask.at)) (sym margin_is) ∙ z.1 in
            let same : handle_ask book ask (Some z.0) ≡ model_handles =
            handled_alike (Some z.0) ∙ ap (handle s ask.who (history s O L ask.who) ask.command ask.at) (sym (d.found_is ∙ after_is)) in
            inr (
              refused.0,
              refused.1,
              looked_still s O opening L steps b board margin c asked.0 refused.2.look refused.2.looks,
              keeping_needs (handle_ask book ask (Some z.0)) same (found_is_kept book ask.command ask.at z.0 decided),
            )
      ]
        where
          stands : StandsWith (terms_of d.transfer) (deadline s d.transfer) (outcome s O L d.from d.transfer.id) (standing_at b (place_at d.from d.index))
          stands = subst (λ (X : Option Transfer). StandsFor s (outcome s O L d.from) X (standing_at b (place_at d.from d.index))) d.there (board d.from d.index)

    by_request : (margin : ℕ) (stays : Contents → Contents → Type 0) (c : Contents) (result : Result Reply Fault) (new : Book) → margin ≡ s.margin
        → (r : Option (Place × Wish)) → request book ask.command ≡ r → is_some r ≡ decides book ask.command
        → AppliesTo margin plain_knows (λ _ _. Unit {0}) plain_stood stays b book ask r result c new → AskRanOrNot result new c
    by_request margin stays c result new margin_is None is decided did = enters_run (sym decided) margin c result new did
    by_request margin stays c result new margin_is (Some asked) is decided did =
        settles_run asked (decides_this s O opening L steps b board ask.who book member events ask.at ask.command asked is) (sym decided) margin stays c result new margin_is did

    pub applies_run : (margin : ℕ) (stays : Contents → Contents → Type 0) (c : Contents) (result : Result Reply Fault) (new : Book) → margin ≡ s.margin
        → is_some (request book ask.command) ≡ decides book ask.command
        → Applies margin plain_knows (λ _ _. Unit {0}) plain_stood stays b book ask result c new → AskRanOrNot result new c
    applies_run margin stays c result new margin_is decided did = by_request margin stays c result new margin_is (request book ask.command) refl decided did
