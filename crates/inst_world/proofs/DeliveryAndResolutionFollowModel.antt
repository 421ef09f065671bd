-- A delivery, a resolution and an expiry, over a board that has the model's outcomes, do what the model says.
use Rattle.std.proofs.Common.{◌≡◌, ◌≢◌, ℕ, Bool, true, List, ◌∷◌, Option, is_some, Result, Ok, Err, refl, sym, ap, subst, ◌∙◌, inl, inr, ◌⊎◌, alloc_error}
use Rattle.std.proofs.lemmas.Bool.{cases_eq}
use Rattle.std.specs.declared.alloc.AllocError.{AllocError}
use Rattle.inst_settings.specs.Settings.{HubSettings}
use Rattle.inst_command.specs.declared.ask.Ask.{Ask as AskValue}
use Rattle.inst_command.specs.declared.step.Step.{Step}
use Rattle.inst_command.specs.declared.step.Step.TheVariants.{Ask, Deliver, Learn, Expire}
use Rattle.inst_command.specs.declared.place.Place.{Place}
use Rattle.inst_board.specs.declared.look.Look.{Look}
use Rattle.inst_board.specs.Learning.{Looks}
use Rattle.inst_board.specs.Plain.{Contents, standing_at, plain_knows, plain_stood}
use Rattle.inst_board.specs.Laws.{SayTheSame, Stands}
use Rattle.inst_journal.specs.declared.event.Event.{Event}
use Rattle.inst_journal.specs.declared.event.Event.TheVariants.{Forwarded, Booked}
use Rattle.inst_model.specs.Opening.{Opening, IsOpening}
use Rattle.inst_model.specs.Interleaving.{IsInterleaving}
use Rattle.inst_model.specs.Transfer.{Transfer, live_transfers, at_place, deadline}
use Rattle.inst_model.specs.View.{Seen, comes, tells}
use Rattle.inst_model.specs.Kept.{with_entries}
use Rattle.inst_model.specs.Hub.{outcome, history}
use Rattle.inst_model.specs.Trace.{is_seen, is_some_entry}
use Rattle.inst_model.proofs.Histories.{by_step}
use Rattle.inst_model.proofs.StepsThatOnlyTell.{same_outcome, none_taken}
use Rattle.inst_slot.specs.Book.{Book, place_at}
use Rattle.inst_slot.specs.Telling.{delivery, with_delivery, resolution, with_event, Keeps}
use Rattle.inst_world.specs.HasRun.{IsBoardOf, IsMember}
use Rattle.inst_world.proofs.PlaceOfKnownTransfer.{IsTheSame, same_for, looked}
use Rattle.inst_world.proofs.PlacesOfLiveTransfers.{Sees, sees_this, if_own, actor}
use Rattle.inst_world.proofs.SlotAgreesWithModel.{Adds, delivery_comes, resolution_tells}
use Rattle.inst_world.proofs.PlacesKnownToBooks.{arrived_there}
use Rattle.inst_world.proofs.BoardOutcomesAfterStep.{SameLive, board_stays}

-- a step that is no ask takes nothing
pub takes_none : (s : HubSettings) (O : Opening) (step : Step) (L : List Step) → ((ask : AskValue) → step ≡ Ask ask → ⊥) → SameLive s O step L
takes_none s O step L no_ask p =
    let J : List Event = history s O L p in
    by_step s O step L p (λ K. live_transfers p K ≡ live_transfers p J) (record {
      nothing = refl;
      funds = λ ask funding is command why. absurd (no_ask ask is);
      defunds = λ ask funding is command why cover. absurd (no_ask ask is);
      takes = λ ask id to cents stamp is command why. absurd (no_ask ask is);
      forwards = λ from index x is why. none_taken p J (Forwarded from x.id x.cents (deadline s x)) refl refl;
      books = λ from id o why. none_taken p J (Booked from id o) refl refl;
      hands_out = λ ask max entry entries is command some. absurd (no_ask ask is);
    })

-- the same place, or another
place_cases : (j k : Place) → (j ≡ k) ⊎ (j ≢ k)
place_cases j k = elim (cases_eq j.owner k.owner) [
  | inr other ↦ inr (λ same. other (ap (λ (p : Place). p.owner) same))
  | inl owner ↦ elim (cases_eq j.index k.index) [
    | inr other ↦ inr (λ same. other (ap (λ (p : Place). p.index) same))
    | inl index ↦ inl (ap (λ (r : ℕ × ℕ). place_at r.0 r.1) (λ i. (owner i, index i)))
  ]
]

-- a look leaves the board
pub board_looked : (b c : Contents) (k : Place) → Stands b k (standing_at b k) c → IsTheSame b c
board_looked b c k s j = elim (place_cases j k) [
  | inl same ↦ subst (λ (i : Place). SayTheSame (standing_at c i) (standing_at b i)) (sym same) s.here
  | inr other ↦ s.elsewhere j other
]

-- the step was run: the actor's book and the board are those after it
pub record Ran (s : HubSettings) (O : Opening) (step : Step) (L : List Step) (new : Book) (c : Contents) : Type 0 where
  pub events : new.events ≡ history s O (step ∷ L) (actor step)
  pub board : IsBoardOf s O (step ∷ L) c

-- a step that is answered by whether there is something new was run; or memory was refused for that, and nothing changed
abbrev pub RanOrNot : HubSettings → Opening → Step → List Step → Book → Result Bool AllocError → Book → Contents → Type 0
RanOrNot s O step L book result new c =
    ((result ≡ Ok (is_seen s O L step (actor step))) × Ran s O step L new c)
    ⊎ ((result ≡ Err alloc_error) × (new ≡ book) × IsBoardOf s O L c × (is_seen s O L step (actor step) ≡ true))

pub no_ask_deliver : (from index to : ℕ) (ask : AskValue) → Deliver from index to ≡ Ask ask → ⊥
no_ask_deliver from index to ask e = let no : ⊥ = cc in no

pub no_ask_learn : (who from index : ℕ) (ask : AskValue) → Learn who from index ≡ Ask ask → ⊥
no_ask_learn who from index ask e = let no : ⊥ = cc in no

pub no_ask_expire : (who index at : ℕ) (ask : AskValue) → Expire who index at ≡ Ask ask → ⊥
no_ask_expire who index at ask e = let no : ⊥ = cc in no

module _ (s : HubSettings) (O : Opening) (opening : IsOpening s O) (L : List Step) (steps : IsInterleaving s L) (b : Contents) (board : IsBoardOf s O L b) where
  still : (c : Contents) → IsTheSame b c → IsBoardOf s O L c
  still c same p index = same_for s (outcome s O L p) (at_place p (history s O L p) index) (standing_at b (place_at p index)) (standing_at c (place_at p index)) (same (place_at p index)) (board p index)

  pub looked_still : (margin : ℕ) (c : Contents) (k : Place) (look : Look) → Looks margin plain_knows (λ _ _. Unit {0}) plain_stood b k look c → IsBoardOf s O L c
  looked_still margin c k look h = still c (board_looked b c k (looked margin b c k look h).1)

  module _ (q : ℕ) (book : Book) (member : IsMember s b q book) (events : book.events ≡ history s O L q) where
    -- what is seen and what is added agree
    pub added : (step : Step) → actor step ≡ q → (f : ℕ → List Event → List Seen) → Sees s O step L q (f q (history s O L q)) → (new : Book) (is_new : Bool) → Adds s book (f book.who book.events) new is_new
        → (new.events ≡ history s O (step ∷ L) q) × (is_new ≡ is_seen s O L step q)
    added step acts f seen new is_new adds = (
      adds.events
          ∙ ap (λ (w : ℕ). with_entries s w book.events (f w book.events)) member.who_is
          ∙ ap (λ (E : List Event). with_entries s q E (f q E)) events
          ∙ sym seen.history_is,
      adds.is_new_is ∙ ap (λ (w : ℕ). is_some_entry (f w book.events)) member.who_is ∙ ap (λ (E : List Event). is_some_entry (f q E)) events ∙ sym seen.is_seen_is,
    )

    pub delivers_run : (margin from index : ℕ) (look : Look) (c : Contents) (result : Result Bool AllocError) (new : Book)
        → Looks margin plain_knows (λ _ _. Unit {0}) plain_stood b (place_at from index) look c
        → Keeps (is_some (delivery book (place_at from index) look)) book (with_delivery book (place_at from index) (delivery book (place_at from index) look)) result new
        → RanOrNot s O (Deliver from index q) L book result new c
    delivers_run margin from index look c result new looks keeps =
        let step : Step = Deliver from index q in
        let k : Place = place_at from index in
        let seen = looked margin b c k look looks in
        let same : IsTheSame b c = board_looked b c k seen.1 in
        let X : Option Transfer = at_place from (history s O L from) index in
        let f : ℕ → List Event → List Seen = λ w E. comes s (outcome s O L) from w E X in
        let adds : Adds s book (f book.who book.events) (with_delivery book k (delivery book k look)) (is_some (delivery book k look)) =
        subst (λ (l : Look). Adds s book (f book.who book.events) (with_delivery book k (delivery book k l)) (is_some (delivery book k l))) (sym seen.0)
        (delivery_comes s (outcome s O L) book from index X (standing_at b k) (board from index)) in
        let sees = sees_this s O step L q (f q (history s O L q)) (if_own q (f q (history s O L q))) in
        let a = added step refl f sees (with_delivery book k (delivery book k look)) (is_some (delivery book k look)) adds in
        elim keeps [
          | inl kept ↦ inl (
            kept.0 ∙ ap (λ (x : Bool). Ok x) a.1,
            record {
              events = ap (λ (n : Book). n.events) kept.1 ∙ a.0;
              board = board_stays s O opening L steps step b c board (takes_none s O step L (no_ask_deliver from index q)) same (λ p n x there. same_outcome s O step L refl p x.id);
            },
          )
          | inr refused ↦ inr (refused.0, refused.1, still c same, sym a.1 ∙ refused.2)
        ]

    pub learns_run : (margin from index : ℕ) (look : Look) (c : Contents) (result : Result Bool AllocError) (new : Book)
        → Looks margin plain_knows (λ _ _. Unit {0}) plain_stood b (place_at from index) look c
        → Keeps (is_some (resolution book (place_at from index) look)) book (with_event book (resolution book (place_at from index) look)) result new
        → RanOrNot s O (Learn q from index) L book result new c
    learns_run margin from index look c result new looks keeps =
        let step : Step = Learn q from index in
        let k : Place = place_at from index in
        let seen = looked margin b c k look looks in
        let same : IsTheSame b c = board_looked b c k seen.1 in
        let X : Option Transfer = at_place from (history s O L from) index in
        let f : ℕ → List Event → List Seen = λ w E. tells (outcome s O L) from w E X in
        let adds : Adds s book (f book.who book.events) (with_event book (resolution book k look)) (is_some (resolution book k look)) =
        subst (λ (l : Look). Adds s book (f book.who book.events) (with_event book (resolution book k l)) (is_some (resolution book k l))) (sym seen.0)
        (resolution_tells s (outcome s O L) book from index X (standing_at b k) (board from index) (λ x there. arrived_there s O opening L steps b board q book member events from index x there)) in
        let sees = sees_this s O step L q (f q (history s O L q)) (if_own q (f q (history s O L q))) in
        let a = added step refl f sees (with_event book (resolution book k look)) (is_some (resolution book k look)) adds in
        elim keeps [
          | inl kept ↦ inl (
            kept.0 ∙ ap (λ (x : Bool). Ok x) a.1,
            record {
              events = ap (λ (n : Book). n.events) kept.1 ∙ a.0;
              board = board_stays s O opening L steps step b c board (takes_none s O step L (no_ask_learn q from index)) same (λ p n x there. same_outcome s O step L refl p x.id);
            },
          )
          | inr refused ↦ inr (refused.0, refused.1, still c same, sym a.1 ∙ refused.2)
        ]
