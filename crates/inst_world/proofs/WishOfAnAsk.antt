-- What an ask that decides a transfer wants, in the model and at its slot.
use Rattle.std.proofs.Common.{◌≡◌, ◌≢◌, ℕ, Bool, true, false, cond, ◌&&◌, ◌==◌, List, ◌∷◌, Option, Some, None, refl, sym, ap, ◌∙◌, inl, inr, ◌⊎◌}
use Rattle.std.specs.Prelude.{slice_get, position}
use Rattle.std.proofs.lemmas.Bool.{cases_Bool, cond-true}
use Rattle.inst_settings.specs.Settings.{HubSettings}
use Rattle.inst_command.specs.Deciding.{confirmed, rejected, expired}
use Rattle.inst_command.specs.declared.ask.Ask.{Ask as AskValue}
use Rattle.inst_command.specs.declared.command.Command.{Command}
use Rattle.inst_command.specs.declared.command.Command.TheVariants.{Fund, Defund, Submit, Confirm, Reject, Investigate, Fetch, Query}
use Rattle.inst_command.specs.declared.outcome.Outcome.{Outcome}
use Rattle.inst_command.specs.declared.submission.Submission.{Submission}
use Rattle.inst_command.specs.declared.step.Step.{Step}
use Rattle.inst_command.specs.declared.step.Step.TheVariants.{Ask}
use Rattle.inst_command.specs.declared.place.Place.{Place}
use Rattle.inst_board.specs.declared.wish.Wish.{Wish}
use Rattle.inst_board.specs.declared.wish.Wish.TheVariants.{Accept, Reject as WishReject, Expire}
use Rattle.inst_board.specs.Wish.{wanted}
use Rattle.inst_board.specs.Plain.{Contents}
use Rattle.inst_journal.specs.declared.event.Event.{Event}
use Rattle.inst_journal.specs.Booked.{takes, is_taken, booked, is_forwarded, or_else, same_transfer}
use Rattle.inst_journal.specs.Opened.{live_taken}
use Rattle.inst_model.specs.Opening.{Opening, IsOpening}
use Rattle.inst_model.specs.Interleaving.{IsInterleaving}
use Rattle.inst_model.specs.Transfer.{Transfer, at_place, deadline}
use Rattle.inst_model.specs.Found.{found}
use Rattle.inst_model.specs.Wants.{is_addressed, ask_wants, taken_wants}
use Rattle.inst_model.specs.Hub.{outcome, history}
use Rattle.inst_model.proofs.TextsTestsAndFirstThings.{same_transfer-true, same_transfer_refl, eqb_refl}
use Rattle.inst_model.proofs.Histories.{at_place_taken}
use Rattle.inst_model.proofs.AllHistoriesTogether.{together}
use Rattle.inst_model.proofs.Transfers.{place_found}
use Rattle.inst_slot.specs.Book.{Book, place_at, arrived_at}
use Rattle.inst_slot.specs.LawfulBoard.{IsTakenAt}
use Rattle.inst_slot.specs.Asking.{request}
use Rattle.inst_slot.proofs.SlotMayDecideWhatIsAsked.{IsWished, wished, taken_at_position}
use Rattle.inst_world.specs.HasRun.{IsBoardOf, IsMember}
use Rattle.inst_world.proofs.PlacesOfLiveTransfers.{at_taken, terms_in}
use Rattle.inst_world.proofs.PlacesKnownToBooks.{came_from, came_forwarded}
use Rattle.inst_world.proofs.AskThatDecidesNothing.{unwanted}

-- the transfer x that the ask decides lies at the place that its slot asks the board for, and the ask wants for it what the
-- slot wishes; of no other transfer does it want anything
pub record Decides (s : HubSettings) (O : Opening) (L : List Step) (ask : AskValue) (asked : Place × Wish) : Type 0 where
  pub from : ℕ
  pub index : ℕ
  pub transfer : Transfer
  pub there : at_place from (history s O L from) index ≡ Some transfer
  pub place_is : asked.0 ≡ place_at from index
  pub wants : outcome s O (Ask ask ∷ L) from transfer.id ≡ or_else (outcome s O L from transfer.id) (wanted s.margin asked.1 (deadline s transfer) ask.at)
  pub others : (p : ℕ) (id : List ℕ) → (p ≢ from) ⊎ (id ≢ transfer.id) → outcome s O (Ask ask ∷ L) p id ≡ outcome s O L p id
  pub found_is : found (outcome s O (Ask ask ∷ L)) ask.who (history s O L ask.who) ask.command ≡ outcome s O (Ask ask ∷ L) from transfer.id
  pub no_submission : (y : Submission) → ask.command ≡ Submit y → ⊥

another_transfer : (p from : ℕ) (id other name : List ℕ) → other ≡ name → (p ≢ from) ⊎ (id ≢ name) → same_transfer p id from other ≡ false
another_transfer p from id other name same differs = elim (cases_Bool (same_transfer p id from other)) [
  | inl named ↦
      let key = same_transfer-true p id from other named in
      elim differs [ inl owner ↦ absurd (owner (sym key.0)) | inr text ↦ absurd (text (sym key.1 ∙ same)) ]
  | inr not_named ↦ not_named
]

module _ (s : HubSettings) (O : Opening) (opening : IsOpening s O) (L : List Step) (steps : IsInterleaving s L) (b : Contents) (board : IsBoardOf s O L b) where
  module _ (who : ℕ) (book : Book) (member : IsMember s b who book) (events : book.events ≡ history s O L who) (at : ℕ) where
    wanted_of : (ask : AskValue) (from index : ℕ) (x : Transfer) → at_place from (history s O L from) index ≡ Some x
        → outcome s O (Ask ask ∷ L) from x.id ≡ or_else (outcome s O L from x.id) (ask_wants s (history s O L) ask.who ask.command ask.at from x.id x)
    wanted_of ask from index x there =
        ap (λ (X : Option Transfer). or_else (outcome s O L from x.id) (taken_wants s (history s O L) (Ask ask) from x.id X))
        (place_found s from (history s O L from) index x ((together s O opening L steps).sound from) there)

    answers : (command : Command) (from : ℕ) (other : List ℕ) (wish : Wish) (o : Transfer → Option Outcome) (asked : Place × Wish)
        → ((p : ℕ) (id : List ℕ) (x : Transfer) → ask_wants s (history s O L) who command at p id x ≡ cond (is_addressed (history s O L) who from other p id x) (o x) None)
        → ((x : Transfer) → o x ≡ wanted s.margin wish (deadline s x) at)
        → ((after : ℕ → List ℕ → Option Outcome) → found after who (history s O L who) command ≡ cond (is_forwarded from other (history s O L who)) (after from other) None)
        → ((y : Submission) → command ≡ Submit y → ⊥)
        → IsWished wish from (booked from other book.events) (arrived_at from other book.arrivals) asked
        → Decides s O L (record { who = who; command = command; at = at }) asked
    answers command from other wish o asked wants as_wished finds no_submission w =
        let ask : AskValue = record { who = who; command = command; at = at } in
        let y = came_from s O opening L steps b board who book member events from other w.index w.at in
        let x : Transfer = y.0 in
        let name : x.id ≡ other = y.2 in
        let came : is_forwarded from other (history s O L who) ≡ true = ap (is_forwarded from other) (sym events) ∙ came_forwarded s O opening L steps b board who book member events from other w.index w.at in
        let addressed : is_addressed (history s O L) who from other from x.id x ≡ true =
        ap (λ (i : List ℕ). same_transfer from i from other && (who == x.to) && is_forwarded from i (history s O L who)) name
        ∙ ap (λ (n : ℕ). same_transfer from other from other && (who == n) && is_forwarded from other (history s O L who)) y.3
        ∙ all_true (same_transfer from other from other) (who == who) (is_forwarded from other (history s O L who)) (same_transfer_refl from other) (eqb_refl who) came in
        record {
          from = from;
          index = w.index;
          transfer = x;
          there = y.1;
          place_is = ap (λ (a : Place × Wish). a.0) w.asked_is;
          wants = wanted_of ask from w.index x y.1
              ∙ ap (or_else (outcome s O L from x.id)) (wants from x.id x ∙ cond-true (is_addressed (history s O L) who from other from x.id x) (o x) None addressed ∙ as_wished x)
              ∙ ap (λ (a : Place × Wish). or_else (outcome s O L from x.id) (wanted s.margin a.1 (deadline s x) at)) (sym w.asked_is);
          others = λ p id differs. unwanted s O opening L ask p id (λ z is. wants p id z
              ∙ ap (λ (c : Bool). cond (c && (who == z.to) && is_forwarded p id (history s O L who)) (o z) None) (another_transfer p from id other x.id (sym name) differs));
          found_is = finds (outcome s O (Ask ask ∷ L)) ∙ cond-true (is_forwarded from other (history s O L who)) (outcome s O (Ask ask ∷ L) from other) None came
              ∙ ap (λ (i : List ℕ). outcome s O (Ask ask ∷ L) from i) (sym name);
          no_submission = no_submission;
        }
      where
        all_true : (e f g : Bool) → e ≡ true → f ≡ true → g ≡ true → (e && f && g) ≡ true
        all_true e f g p q r = ap (λ (h : Bool). h && f && g) p ∙ ap (λ (h : Bool). h && g) q ∙ r

    investigates : (other : List ℕ) (asked : Place × Wish)
        → IsWished Expire book.who (booked book.who other book.events) (position (takes other) (live_taken book.who book.events)) asked
        → Decides s O L (record { who = who; command = Investigate other; at = at }) asked
    investigates other asked w =
        let ask : AskValue = record { who = who; command = Investigate other; at = at } in
        let t : IsTakenAt book other w.index = taken_at_position book other w.index w.at in
        let x : Transfer = record { id = other; to = t.to; cents = t.cents; stamp = t.stamp } in
        let there : at_place who (history s O L who) w.index ≡ Some x =
        at_taken who (history s O L who) w.index
        ∙ ap (λ (E : List Event). terms_in (slice_get (live_taken who E) w.index)) (sym events)
        ∙ ap (λ (n : ℕ). terms_in (slice_get (live_taken n book.events) w.index)) (sym member.who_is)
        ∙ ap terms_in t.there in
        record {
          from = who;
          index = w.index;
          transfer = x;
          there = there;
          place_is = ap (λ (a : Place × Wish). a.0) w.asked_is ∙ ap (λ (n : ℕ). place_at n w.index) member.who_is;
          wants = wanted_of ask who w.index x there
              ∙ ap (λ (c : Bool). or_else (outcome s O L who other) (cond c (expired (deadline s x) at) None)) (same_transfer_refl who other)
              ∙ ap (λ (a : Place × Wish). or_else (outcome s O L who other) (wanted s.margin a.1 (deadline s x) at)) (sym w.asked_is);
          others = λ p id differs. unwanted s O opening L ask p id (λ z is. ap (λ (c : Bool). cond c (expired (deadline s z) at) None) (another_transfer p who id other other refl differs));
          found_is = cond-true (is_taken other (history s O L who)) (outcome s O (Ask ask ∷ L) who other) None (at_place_taken who (history s O L who) w.index x there);
          no_submission = λ y e. let no : ⊥ = cc in no;
        }

    pub decides_this : (command : Command) (asked : Place × Wish) → request book command ≡ Some asked → Decides s O L (record { who = who; command = command; at = at }) asked
    decides_this (Confirm from other) asked e =
        answers (Confirm from other) from other Accept (λ x. confirmed s.margin (deadline s x) at) asked (λ p id x. refl) (λ x. refl) (λ after. refl) (λ y is. let no : ⊥ = cc in no)
        (wished Accept from (booked from other book.events) (arrived_at from other book.arrivals) asked e)
    decides_this (Reject from other reason) asked e =
        answers (Reject from other reason) from other (WishReject reason) (λ x. rejected reason (deadline s x) at) asked (λ p id x. refl) (λ x. refl) (λ after. refl) (λ y is. let no : ⊥ = cc in no)
        (wished (WishReject reason) from (booked from other book.events) (arrived_at from other book.arrivals) asked e)
    decides_this (Investigate other) asked e = investigates other asked (wished Expire book.who (booked book.who other book.events) (position (takes other) (live_taken book.who book.events)) asked e)
    decides_this (Fund funding) asked e = let no : ⊥ = cc in absurd no
    decides_this (Defund funding) asked e = let no : ⊥ = cc in absurd no
    decides_this (Submit y) asked e = let no : ⊥ = cc in absurd no
    decides_this (Fetch max) asked e = let no : ⊥ = cc in absurd no
    decides_this (Query query) asked e = let no : ⊥ = cc in absurd no
