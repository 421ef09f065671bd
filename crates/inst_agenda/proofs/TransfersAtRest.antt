-- When nothing is left to do of a transfer: what leaves it so, and what leaves the hub as it is.
use Rattle.std.proofs.Common.{◌≡◌, ◌≢◌, ℕ, zero, suc, ◌<◌, Bool, true, false, cond, ◌&&◌, ◌||◌, ◌==◌, not, is_none, List, [], ◌∷◌, ◌++◌, length, reverse, Option, Some, None, refl, sym, ap, subst, ◌∙◌, inl, inr, ◌⊎◌}
use Rattle.std.specs.Prelude.{slice_get}
use Rattle.std.proofs.Math.Bool.{and-false}
use Rattle.std.proofs.lemmas.Option.{same_Some}
use Rattle.std.proofs.lemmas.Bool.{cases_eq, cases_Bool, and_parts, and_from, or_cases, cond-false, eqb-true, lt-ltb}
use Rattle.inst_settings.specs.Settings.{HubSettings, is_participant}
use Rattle.inst_command.specs.Deciding.{expired, confirmed, rejected}
use Rattle.inst_command.specs.Step.{step_fits}
use Rattle.inst_command.specs.declared.ask.Ask.{Ask as AskValue}
use Rattle.inst_command.specs.declared.command.Command.{Command}
use Rattle.inst_command.specs.declared.command.Command.TheVariants.{Fund, Defund, Submit, Confirm, Reject, Investigate, Fetch, Query}
use Rattle.inst_command.specs.declared.outcome.Outcome.{Outcome}
use Rattle.inst_command.specs.declared.outcome.Outcome.TheVariants.{TimedOut}
use Rattle.inst_command.specs.declared.step.Step.{Step}
use Rattle.inst_command.specs.declared.step.Step.TheVariants.{Ask, Deliver, Learn, Expire}
use Rattle.inst_journal.specs.declared.event.Event.{Event}
use Rattle.inst_journal.specs.declared.event.Event.TheVariants.{Funded, Defunded, Taken, Forwarded, Booked, Fetched}
use Rattle.inst_journal.specs.Booked.{is_forwarded, forwards, booked, or_else, same_transfer}
use Rattle.inst_journal.specs.Opened.{is_live}
use Rattle.inst_journal.specs.Sound.{IsSound}
use Rattle.inst_journal.proofs.OneMoreElement.{list_any_push, or-false, or_else-none}
use Rattle.inst_model.specs.Opening.{Opening, IsOpening}
use Rattle.inst_model.specs.Interleaving.{IsInterleaving}
use Rattle.inst_model.specs.Transfer.{Transfer, transfer, live_transfers, at_place, deadline, is_named}
use Rattle.inst_model.specs.View.{comes, tells}
use Rattle.inst_model.specs.View.Seen.{Came}
use Rattle.inst_model.specs.Wants.{ask_wants, taken_wants}
use Rattle.inst_model.specs.Hub.{decided, outcome, history}
use Rattle.inst_model.proofs.TextsTestsAndFirstThings.{or_else_kept, same_text-true, same_transfer-true}
use Rattle.inst_model.proofs.HistoryKeepsWhatItHas.{booked_kept, forwarded_kept}
use Rattle.inst_model.proofs.Histories.{by_step, persists_step}
use Rattle.inst_model.proofs.WhatIsLearntIsBooked.{learning_books, expiry_books, delivery_forwards}
use Rattle.inst_model.proofs.NamesOfTransfers.{live_grown}
use Rattle.inst_model.proofs.Outcomes.{outcome_stays}
use Rattle.inst_model.proofs.StepsThatOnlyTell.{same_outcome, none_taken}
use Rattle.inst_model.proofs.AllHistoriesTogether.{together}
use Rattle.inst_model.proofs.Transfers.{place_found, transfer_kept}
use Rattle.inst_agenda.specs.FollowUps.{of_transfer}
use Rattle.inst_agenda.specs.inner.Naming.{named_by}
use Rattle.inst_world.specs.HasRun.{World, world_settings, HasRun}
use Rattle.inst_agenda.specs.Resting.{RestsWith, Rests}
use Rattle.inst_world.proofs.AskThatDecidesNothing.{unwanted}
use Rattle.inst_world.proofs.PlaceOfNamedTransfer.{to_participant}
use Rattle.inst_world.proofs.StepsThatAddNothing.{tells_nothing, unseen_same, idle_runs}
use Rattle.inst_agenda.proofs.StepsAfterLine.{of_transfer_no_ask, same_after}
use Rattle.inst_world.proofs.PlacesOfLiveTransfers.{places_apart, others_stay, if_own}
use Rattle.inst_world.proofs.DeliveryAndResolutionFollowModel.{takes_none, no_ask_deliver, no_ask_learn, no_ask_expire}

-- a step leaves what is booked and forwarded, and forwards nothing that is decided
module _ (s : HubSettings) (O : Opening) (step : Step) (L : List Step) where
  still_booked : (q from : ℕ) (id : List ℕ) (o : Outcome) → booked from id (history s O L q) ≡ Some o → booked from id (history s O (step ∷ L) q) ≡ Some o
  still_booked q from id o e = persists_step s O step L q (λ K. booked from id K ≡ Some o) (booked_kept from id o) e

  still_forwarded : (q from : ℕ) (id : List ℕ) → is_forwarded from id (history s O L q) ≡ true → is_forwarded from id (history s O (step ∷ L) q) ≡ true
  still_forwarded q from id e = persists_step s O step L q (λ K. is_forwarded from id K ≡ true) (forwarded_kept from id) e

  came_decided : (q from : ℕ) (id : List ℕ) (o : Outcome) → outcome s O L from id ≡ Some o → is_forwarded from id (history s O (step ∷ L) q) ≡ true → is_forwarded from id (history s O L q) ≡ true
  came_decided q from id o is =
      by_step s O step L q (λ K. is_forwarded from id K ≡ true → is_forwarded from id (history s O L q) ≡ true) (record {
        nothing = λ e. e;
        funds = λ ask funding step_is command why. other (Funded funding) refl;
        defunds = λ ask funding step_is command why cover. other (Defunded funding) refl;
        takes = λ ask i to cents stamp step_is command why. other (Taken i to cents stamp) refl;
        forwards = λ f index x step_is why e. elim (or_cases (is_forwarded from id (history s O L q)) (same_transfer from id f x.id) (sym (list_any_push (forwards from id) (history s O L q) (Forwarded f x.id x.cents (deadline s x))) ∙ e)) [
          | inl old ↦ old
          | inr new ↦
              let same : (f ≡ from) × (x.id ≡ id) = same_transfer-true from id f x.id new in
              let none : outcome s O L from id ≡ None = ap (λ (r : ℕ). outcome s O L r id) (sym same.0) ∙ ap (λ (i : List ℕ). outcome s O L f i) (sym same.1) ∙ why.undecided in
              let clash : None ≡ Some o = sym none ∙ is in
              absurd cc
        ];
        books = λ f i p why. other (Booked f i p) refl;
        hands_out = λ ask max entry entries step_is command some. other (Fetched (length (entry ∷ entries))) refl;
      })
    where
      other : (event : Event) → forwards from id event ≡ false → is_forwarded from id (history s O L q ++ event ∷ []) ≡ true → is_forwarded from id (history s O L q) ≡ true
      other event none there =
          sym (list_any_push (forwards from id) (history s O L q) event ∙ ap (λ (b : Bool). is_forwarded from id (history s O L q) || b) none ∙ or-false (is_forwarded from id (history s O L q))) ∙ there

  rests_with : (at p : ℕ) (x : Transfer) (o : Option Outcome) → outcome s O L p x.id ≡ o → RestsWith s at p x (history s O L p) (history s O L x.to) o
      → RestsWith s at p x (history s O (step ∷ L) p) (history s O (step ∷ L) x.to) o
  rests_with at p x None is rests = (still_forwarded x.to p x.id rests.0, rests.1)
  rests_with at p x (Some o) is rests = (still_booked p p x.id o rests.0, λ came. still_booked x.to p x.id o (rests.1 (came_decided x.to p x.id o is came)))

  -- a step that leaves the outcome of a transfer leaves it at rest
  pub rests_stays : (at p : ℕ) (x : Transfer) → outcome s O (step ∷ L) p x.id ≡ outcome s O L p x.id → Rests s O L at p x → Rests s O (step ∷ L) at p x
  rests_stays at p x same rests =
      subst (λ (o : Option Outcome). RestsWith s at p x (history s O (step ∷ L) p) (history s O (step ∷ L) x.to) o) (sym same) (rests_with at p x (outcome s O L p x.id) refl rests)

-- an ask wants nothing of a transfer that it doesn't name
another : (p from : ℕ) (id other : List ℕ) → ◌≢◌ {A = Option (ℕ × List ℕ)} (Some (from, other)) (Some (p, id)) → same_transfer p id from other ≡ false
another p from id other differs = elim (cases_Bool (same_transfer p id from other)) [
  | inl named ↦
      let same = same_transfer-true p id from other named in
      absurd (differs (ap (λ (r : ℕ × List ℕ). Some r) (λ i. (same.0 i, same.1 i))))
  | inr not_named ↦ not_named
]

unnamed_wants_none : (s : HubSettings) (J : ℕ → List Event) (who : ℕ) (command : Command) (at p : ℕ) (id : List ℕ) (x : Transfer) → named_by who command ≢ Some (p, id) → ask_wants s J who command at p id x ≡ None
unnamed_wants_none s J who (Confirm from other) at p id x differs =
    ap (λ (c : Bool). cond (c && (who == x.to) && is_forwarded p id (J who)) (confirmed s.margin (deadline s x) at) None) (another p from id other differs)
unnamed_wants_none s J who (Reject from other reason) at p id x differs =
    ap (λ (c : Bool). cond (c && (who == x.to) && is_forwarded p id (J who)) (rejected reason (deadline s x) at) None) (another p from id other differs)
unnamed_wants_none s J who (Investigate other) at p id x differs = ap (λ (c : Bool). cond c (expired (deadline s x) at) None) (another p who id other differs)
unnamed_wants_none s J who (Fund funding) at p id x differs = refl
unnamed_wants_none s J who (Defund funding) at p id x differs = refl
unnamed_wants_none s J who (Submit submission) at p id x differs = refl
unnamed_wants_none s J who (Fetch max) at p id x differs = refl
unnamed_wants_none s J who (Query query) at p id x differs = refl

module _ (s : HubSettings) (O : Opening) (opening : IsOpening s O) (L : List Step) (ask : AskValue) where
  unnamed_same : (p : ℕ) (id : List ℕ) → named_by ask.who ask.command ≢ Some (p, id) → outcome s O (Ask ask ∷ L) p id ≡ outcome s O L p id
  unnamed_same p id differs = unwanted s O opening L ask p id (λ x found. unnamed_wants_none s (history s O L) ask.who ask.command ask.at p id x differs)

  -- an ask leaves a transfer that it doesn't name at rest
  pub unnamed_rests : (at p : ℕ) (x : Transfer) → named_by ask.who ask.command ≢ Some (p, x.id) → Rests s O L at p x → Rests s O (Ask ask ∷ L) at p x
  unnamed_rests at p x differs rests = rests_stays s O (Ask ask) L at p x (unnamed_same p x.id differs) rests

-- what stands in a list with one more at most at its end stands in it, or is that one
before_or_last : (xs : List Transfer) (y x : Transfer) (b : Bool) (k : ℕ) → slice_get (xs ++ cond b (y ∷ []) []) k ≡ Some x → (slice_get xs k ≡ Some x) ⊎ (y ≡ x)
before_or_last [] y x true zero e = let is : y ≡ x = cc in inr is
before_or_last [] y x true (suc k) e = let no : ⊥ = cc in absurd no
before_or_last [] y x false k e = let no : ⊥ = cc in absurd no
before_or_last (z ∷ xs) y x b zero e = inl e
before_or_last (z ∷ xs) y x b (suc k) e = before_or_last xs y x b k e

module _ (s : HubSettings) (O : Opening) (L : List Step) (ask : AskValue) (p index : ℕ) (x : Transfer) where
  stood_alike : (event : Event) → live_transfers p (history s O L p ++ event ∷ []) ≡ live_transfers p (history s O L p)
      → at_place p (history s O L p ++ event ∷ []) index ≡ Some x → at_place p (history s O L p) index ≡ Some x
  stood_alike event same e = ap (λ (T : List Transfer). slice_get T index) (sym same) ∙ e

  -- a submission takes a transfer that it names
  stood_or_named : ask.who ≡ p → named_by ask.who ask.command ≢ Some (p, x.id) → (id : List ℕ) (to cents stamp : ℕ)
      → ask.command ≡ Submit (record { id = id; to = to; cents = cents; stamp = stamp })
      → at_place p (history s O L p ++ Taken id to cents stamp ∷ []) index ≡ Some x → at_place p (history s O L p) index ≡ Some x
  stood_or_named asks differs id to cents stamp command e =
      let y : Transfer = record { id = id; to = to; cents = cents; stamp = stamp } in
      let T : List Transfer = live_transfers p (history s O L p) in
      elim (before_or_last T y x (is_live p id (history s O L p)) index (ap (λ (U : List Transfer). slice_get U index) (sym (live_grown p (history s O L p) (Taken id to cents stamp) refl)) ∙ e)) [
        | inl stood ↦ stood
        | inr new ↦
            let name : named_by ask.who ask.command ≡ Some (ask.who, id) = ap (named_by ask.who) command in
            let key : ◌≡◌ {A = Option (ℕ × List ℕ)} (Some (ask.who, id)) (Some (p, x.id)) = ap (λ (r : ℕ × List ℕ). Some r) (λ i. (asks i, (new i).id)) in
            absurd (differs (name ∙ key))
      ]

  -- an ask leaves the place of a transfer that it doesn't name
  pub unnamed_stood : at_place p (history s O (Ask ask ∷ L) p) index ≡ Some x → named_by ask.who ask.command ≢ Some (p, x.id) → at_place p (history s O L p) index ≡ Some x
  unnamed_stood there differs = elim (cases_eq p ask.who) [
    | inr other ↦ ap (λ (J : List Event). at_place p J index) (sym (others_stay s O (Ask ask) L p other)) ∙ there
    | inl same ↦ by_step s O (Ask ask) L p (λ K. at_place p K index ≡ Some x → at_place p (history s O L p) index ≡ Some x) (record {
      nothing = λ e. e;
      funds = λ a funding is command why. stood_alike (Funded funding) (none_taken p (history s O L p) (Funded funding) refl refl);
      defunds = λ a funding is command why cover. stood_alike (Defunded funding) (none_taken p (history s O L p) (Defunded funding) refl refl);
      takes = λ a id to cents stamp is command why.
          let this : ask ≡ a = cc in
          stood_or_named (sym same) differs id to cents stamp (ap (λ (c : AskValue). c.command) this ∙ command);
      forwards = λ from n y is why. stood_alike (Forwarded from y.id y.cents (deadline s y)) (none_taken p (history s O L p) (Forwarded from y.id y.cents (deadline s y)) refl refl);
      books = λ from id o why. stood_alike (Booked from id o) (none_taken p (history s O L p) (Booked from id o) refl refl);
      hands_out = λ a max entry entries is command some.
          stood_alike (Fetched (length (entry ∷ entries))) (none_taken p (history s O L p) (Fetched (length (entry ∷ entries))) refl refl);
    }) there
  ]

-- what has this name stands there
named_there : (id : List ℕ) (X : Option Transfer) → is_named id X ≡ true → (z : Transfer) × (X ≡ Some z) × (z.id ≡ id)
named_there id None named = let no : ⊥ = cc in absurd no
named_there id (Some z) named = (z, refl, same_text-true z.id id named)

early : (d at : ℕ) → at < d → expired d at ≡ None
early d at before = ap (λ (b : Bool). cond (not b) (Some TimedOut) None) (lt-ltb at d before)

-- an expiry that wants nothing of the transfer with this identifier
module _ (s : HubSettings) (O : Opening) (q n t : ℕ) (L : List Step) where
  unexpired : (p : ℕ) (id : List ℕ)
      → ((y z : Transfer) → transfer id (history s O L p) ≡ Some y → q ≡ p → at_place p (history s O L p) n ≡ Some z → z.id ≡ id → expired (deadline s y) t ≡ None)
      → outcome s O (Expire q n t ∷ L) p id ≡ outcome s O L p id
  unexpired p id none = ap (or_else (outcome s O L p id)) (go (transfer id (history s O L p)) refl) ∙ or_else-none (outcome s O L p id)
    where
      named : Bool
      named = (q == p) && is_named id (at_place p (history s O L p) n)

      go : (X : Option Transfer) → transfer id (history s O L p) ≡ X → taken_wants s (history s O L) (Expire q n t) p id X ≡ None
      go None is = refl
      go (Some y) is = elim (cases_Bool named) [
        | inr unnamed ↦ ap (λ (b : Bool). cond b (expired (deadline s y) t) None) unnamed
        | inl yes' ↦
            let parts = and_parts (q == p) (is_named id (at_place p (history s O L p) n)) yes' in
            let z = named_there id (at_place p (history s O L p) n) parts.1 in
            ap (λ (b : Bool). cond b (expired (deadline s y) t) None) yes' ∙ none y z.0 is (eqb-true q p parts.0) z.1 z.2
      ]

-- the four steps leave all histories and outcomes, where nothing is left to do
module _ (s : HubSettings) (O : Opening) (L : List Step) (at p index : ℕ) (x : Transfer) (there : at_place p (history s O L p) index ≡ Some x) (rests : Rests s O L at p x) where
  rests_as : (o : Option Outcome) → outcome s O L p x.id ≡ o → RestsWith s at p x (history s O L p) (history s O L x.to) o
  rests_as o is = subst (λ (u : Option Outcome). RestsWith s at p x (history s O L p) (history s O L x.to) u) is rests

  told_already : (who : ℕ) → (who ≡ p) ⊎ (who ≡ x.to) → (z : Outcome) → outcome s O L p x.id ≡ Some z → (who ≡ p) ⊎ (is_forwarded p x.id (history s O L who) ≡ true)
      → booked p x.id (history s O L who) ≡ Some z
  told_already who side z is party = elim party [
    | inl own ↦ at_own own
    | inr came ↦ elim side [
      | inl own ↦ at_own own
      | inr theirs ↦
          subst (λ (w : ℕ). booked p x.id (history s O L w) ≡ Some z) (sym theirs)
          ((rests_as (Some z) is).1 (subst (λ (w : ℕ). is_forwarded p x.id (history s O L w) ≡ true) theirs came))
    ]
  ]
    where
      at_own : who ≡ p → booked p x.id (history s O L who) ≡ Some z
      at_own own = subst (λ (w : ℕ). booked p x.id (history s O L w) ≡ Some z) (sym own) (rests_as (Some z) is).0

  comes_no_more : (o : Option Outcome) → outcome s O L p x.id ≡ o
      → (((x.to == x.to) && is_none (outcome s O L p x.id)) && not (is_forwarded p x.id (history s O L x.to))) ≡ false
  comes_no_more None is =
      ap (λ (b : Bool). ((x.to == x.to) && is_none (outcome s O L p x.id)) && not b) (rests_as None is).0
      ∙ and-false ((x.to == x.to) && is_none (outcome s O L p x.id))
  comes_no_more (Some z) is =
      ap (λ (o : Option Outcome). ((x.to == x.to) && is_none o) && not (is_forwarded p x.id (history s O L x.to))) is
      ∙ ap (λ (b : Bool). b && not (is_forwarded p x.id (history s O L x.to))) (and-false (x.to == x.to))

  delivery_idle : (q : ℕ) → history s O (Deliver p index x.to ∷ L) q ≡ history s O L q
  delivery_idle = unseen_same s O (Deliver p index x.to) L
      (if_own x.to (comes s (outcome s O L) p x.to (history s O L x.to) (at_place p (history s O L p) index))
      ∙ ap (comes s (outcome s O L) p x.to (history s O L x.to)) there
      ∙ cond-false _ (Came p x.id x.cents (deadline s x) ∷ []) [] (comes_no_more (outcome s O L p x.id) refl))

  resolution_idle : (who : ℕ) → (who ≡ p) ⊎ (who ≡ x.to) → (q : ℕ) → history s O (Learn who p index ∷ L) q ≡ history s O L q
  resolution_idle who side = unseen_same s O (Learn who p index) L
      (if_own who (tells (outcome s O L) p who (history s O L who) (at_place p (history s O L p) index))
      ∙ ap (tells (outcome s O L) p who (history s O L who)) there
      ∙ tells_nothing (outcome s O L) p who (history s O L who) x (told_already who side))

  -- the expiry decides nothing
  expiry_decides_none : transfer x.id (history s O L p) ≡ Some x → (q : ℕ) (id : List ℕ) → outcome s O (Expire p index at ∷ L) q id ≡ outcome s O L q id
  expiry_decides_none found q id = go (outcome s O L q id) refl
    where
      go : (o : Option Outcome) → outcome s O L q id ≡ o → outcome s O (Expire p index at ∷ L) q id ≡ outcome s O L q id
      go (Some z) is = or_else_kept (outcome s O L q id) (taken_wants s (history s O L) (Expire p index at) q id (transfer id (history s O L q))) z is ∙ sym is
      go None is = unexpired s O p index at L q id (λ y z taken own stands named.
          let x_is : x ≡ z = same_Some x z (sym there ∙ ap (λ (r : ℕ). at_place r (history s O L r) index) own ∙ stands) in
          let name : x.id ≡ id = ap (λ (w : Transfer). w.id) x_is ∙ named in
          let y_is : x ≡ y = same_Some x y (sym found ∙ ap (λ (r : ℕ). transfer x.id (history s O L r)) own ∙ ap (λ (i : List ℕ). transfer i (history s O L q)) name ∙ taken) in
          let none : outcome s O L p x.id ≡ None = ap (λ (r : ℕ). outcome s O L r x.id) own ∙ ap (λ (i : List ℕ). outcome s O L q i) name ∙ is in
          ap (λ (w : Transfer). expired (deadline s w) at) (sym y_is) ∙ early (deadline s x) at (rests_as None none).1)

  expiry_idle : transfer x.id (history s O L p) ≡ Some x → (q : ℕ) → history s O (Expire p index at ∷ L) q ≡ history s O L q
  expiry_idle found = unseen_same s O (Expire p index at) L
      (if_own p (tells (outcome s O (Expire p index at ∷ L)) p p (history s O L p) (at_place p (history s O L p) index))
      ∙ ap (tells (outcome s O (Expire p index at ∷ L)) p p (history s O L p)) there
      ∙ tells_nothing (outcome s O (Expire p index at ∷ L)) p p (history s O L p) x (λ z is party. told_already p (inl refl) z (sym (expiry_decides_none found p x.id) ∙ is) party))

-- a hub that has run these steps, and nothing is left to do of the transfer at a place
record RunsAtRest (hub : World) (O : Opening) (at p index : ℕ) (x : Transfer) (L : List Step) : Type 0 where
  run : HasRun O L hub
  there : at_place p (history (world_settings hub) O L p) index ≡ Some x
  rests : Rests (world_settings hub) O L at p x

module _ (hub : World) (O : Opening) (at p index : ℕ) (x : Transfer) (is_one : is_participant (world_settings hub) p ≡ true) (L : List Step) (r : RunsAtRest hub O at p index x L) where
  goes_on : (step : Step) → step_fits (world_settings hub) step ≡ true
      → ((q : ℕ) → history (world_settings hub) O (step ∷ L) q ≡ history (world_settings hub) O L q)
      → ((q : ℕ) (id : List ℕ) → outcome (world_settings hub) O (step ∷ L) q id ≡ outcome (world_settings hub) O L q id)
      → RunsAtRest hub O at p index x (step ∷ L)
  goes_on step fits histories outcomes = record {
    run = idle_runs O step L hub fits histories outcomes r.run;
    there = ap (λ (J : List Event). at_place p J index) (histories p) ∙ r.there;
    rests = rests_stays (world_settings hub) O step L at p x (outcomes p x.id) r.rests;
  }

  is_sound : IsSound (world_settings hub) p (history (world_settings hub) O L p)
  is_sound = (together (world_settings hub) O r.run.opening L r.run.steps).sound p

  to_one : is_participant (world_settings hub) x.to ≡ true
  to_one = to_participant (world_settings hub) p (history (world_settings hub) O L p) index x is_sound r.there

  delivered : RunsAtRest hub O at p index x (Deliver p index x.to ∷ L)
  delivered = goes_on (Deliver p index x.to) (and_from (is_participant (world_settings hub) p) (is_participant (world_settings hub) x.to) is_one to_one)
      (delivery_idle (world_settings hub) O L at p index x r.there r.rests) (same_outcome (world_settings hub) O (Deliver p index x.to) L refl)

  originator_learnt : RunsAtRest hub O at p index x (Learn p p index ∷ L)
  originator_learnt = goes_on (Learn p p index) (and_from (is_participant (world_settings hub) p) (is_participant (world_settings hub) p) is_one is_one)
      (resolution_idle (world_settings hub) O L at p index x r.there r.rests p (inl refl)) (same_outcome (world_settings hub) O (Learn p p index) L refl)

  beneficiary_learnt : RunsAtRest hub O at p index x (Learn x.to p index ∷ L)
  beneficiary_learnt = goes_on (Learn x.to p index) (and_from (is_participant (world_settings hub) x.to) (is_participant (world_settings hub) p) to_one is_one)
      (resolution_idle (world_settings hub) O L at p index x r.there r.rests x.to (inr refl)) (same_outcome (world_settings hub) O (Learn x.to p index) L refl)

  time_passed : RunsAtRest hub O at p index x (Expire p index at ∷ L)
  time_passed =
      let found : transfer x.id (history (world_settings hub) O L p) ≡ Some x = place_found (world_settings hub) p (history (world_settings hub) O L p) index x is_sound r.there in
      goes_on (Expire p index at) is_one (expiry_idle (world_settings hub) O L at p index x r.there r.rests found)
      (expiry_decides_none (world_settings hub) O L at p index x r.there r.rests found)

-- a hub has run what follows up a transfer of which nothing is left to do
pub rests_runs : (O : Opening) (L : List Step) (hub : World) (at p index : ℕ) (x : Transfer) → HasRun O L hub → at_place p (history (world_settings hub) O L p) index ≡ Some x
    → is_participant (world_settings hub) p ≡ true → Rests (world_settings hub) O L at p x → HasRun O (reverse (of_transfer at p index x.to) ++ L) hub
rests_runs O L hub at p index x run there is_one rests =
    let before : RunsAtRest hub O at p index x L = record { run = run; there = there; rests = rests } in
    let came = delivered hub O at p index x is_one L before in
    let learnt = originator_learnt hub O at p index x is_one (Deliver p index x.to ∷ L) came in
    let passed = time_passed hub O at p index x is_one (Learn p p index ∷ Deliver p index x.to ∷ L) learnt in
    (beneficiary_learnt hub O at p index x is_one (Expire p index at ∷ Learn p p index ∷ Deliver p index x.to ∷ L) passed).run

-- what follows up a transfer that is pending and not due is its delivery: the other steps add nothing
pub delivery_is_all : (O : Opening) (L : List Step) (hub : World) (at p index : ℕ) (x : Transfer) → at_place p (history (world_settings hub) O L p) index ≡ Some x
    → is_participant (world_settings hub) p ≡ true → outcome (world_settings hub) O L p x.id ≡ None → at < deadline (world_settings hub) x
    → HasRun O (Deliver p index x.to ∷ L) hub → HasRun O (reverse (of_transfer at p index x.to) ++ L) hub
delivery_is_all O L hub at p index x there is_one none not_due run =
    let s : HubSettings = world_settings hub in
    let M : List Step = Deliver p index x.to ∷ L in
    let undecided : outcome s O M p x.id ≡ None = same_outcome s O (Deliver p index x.to) L refl p x.id ∙ none in
    let here : at_place p (history s O M p) index ≡ Some x = ap (λ (T : List Transfer). slice_get T index) (same_after s O (Deliver p index x.to ∷ []) L (no_ask_deliver p index x.to, tt) p) ∙ there in
    let came : is_forwarded p x.id (history s O M x.to) ≡ true = delivery_forwards s O L p index x there none in
    let rests : Rests s O M at p x = subst (λ (o : Option Outcome). RestsWith s at p x (history s O M p) (history s O M x.to) o) (sym undecided) (came, not_due) in
    let before : RunsAtRest hub O at p index x M = record { run = run; there = here; rests = rests } in
    let learnt = originator_learnt hub O at p index x is_one M before in
    let passed = time_passed hub O at p index x is_one (Learn p p index ∷ M) learnt in
    (beneficiary_learnt hub O at p index x is_one (Expire p index at ∷ Learn p p index ∷ M) passed).run

-- what follows up a transfer leaves each place
pub live_same_after_follow_up : (s : HubSettings) (O : Opening) (L : List Step) (t p n to q k : ℕ)
    → at_place q (history s O (reverse (of_transfer t p n to) ++ L) q) k ≡ at_place q (history s O L q) k
live_same_after_follow_up s O L t p n to q k = ap (λ (T : List Transfer). slice_get T k) (same_after s O (of_transfer t p n to) L (of_transfer_no_ask t p n to) q)

-- these steps, and the transfer at a place was delivered, and its originator has learnt of it
abbrev after_resolution : ℕ → ℕ → ℕ → List Step → List Step
after_resolution p index to L = Learn p p index ∷ Deliver p index to ∷ L

-- and its expiry was looked at
abbrev after_expiry : ℕ → ℕ → ℕ → ℕ → List Step → List Step
after_expiry t p index to L = Expire p index t ∷ after_resolution p index to L

-- and its beneficiary has learnt of it, which ends what follows up a transfer
abbrev followed_up_by : ℕ → ℕ → ℕ → ℕ → List Step → List Step
followed_up_by t p index to L = reverse (of_transfer t p index to) ++ L

-- delivering and learning leave each place
place_after_resolution : (s : HubSettings) (O : Opening) (L : List Step) (p n to q k : ℕ) → at_place q (history s O (after_resolution p n to L) q) k ≡ at_place q (history s O L q) k
place_after_resolution s O L p n to q k =
    ap (λ (T : List Transfer). slice_get T k)
    (takes_none s O (Learn p p n) (Deliver p n to ∷ L) (no_ask_learn p p n) q ∙ takes_none s O (Deliver p n to) L (no_ask_deliver p n to) q)

-- and what is at rest
rests_after_resolution : (s : HubSettings) (O : Opening) (L : List Step) (q n to at p : ℕ) (x : Transfer) → Rests s O L at p x → Rests s O (after_resolution q n to L) at p x
rests_after_resolution s O L q n to at p x rests =
    rests_stays s O (Learn q q n) (Deliver q n to ∷ L) at p x (same_outcome s O (Learn q q n) (Deliver q n to ∷ L) refl p x.id)
    (rests_stays s O (Deliver q n to) L at p x (same_outcome s O (Deliver q n to) L refl p x.id) rests)

-- what follows up a transfer leaves what is at rest, where the expiry leaves its outcome
rests_through : (s : HubSettings) (O : Opening) (L : List Step) (t q n to at p : ℕ) (x : Transfer)
    → outcome s O (after_expiry t q n to L) p x.id ≡ outcome s O (after_resolution q n to L) p x.id → Rests s O L at p x → Rests s O (followed_up_by t q n to L) at p x
rests_through s O L t q n to at p x undecided rests =
    rests_stays s O (Learn to q n) (after_expiry t q n to L) at p x (same_outcome s O (Learn to q n) (after_expiry t q n to L) refl p x.id)
    (rests_stays s O (Expire q n t) (after_resolution q n to L) at p x undecided (rests_after_resolution s O L q n to at p x rests))

-- what follows up another transfer leaves this one at rest
pub follow_up_of_another_rests : (s : HubSettings) (O : Opening) → IsOpening s O → (L : List Step) → IsInterleaving s L → (t q n to at p index : ℕ) (x : Transfer)
    → at_place p (history s O L p) index ≡ Some x → (p ≢ q) ⊎ (index ≢ n) → Rests s O L at p x → Rests s O (reverse (of_transfer t q n to) ++ L) at p x
follow_up_of_another_rests s O opening L steps t q n to at p index x there other rests =
    rests_through s O L t q n to at p x
    (unexpired s O q n t (after_resolution q n to L) p x.id (λ y z taken owner stands named.
    let before : at_place p (history s O L p) n ≡ Some z = sym (place_after_resolution s O L q n to p n) ∙ stands in
    let same : index ≡ n = places_apart s p (history s O L p) index n x z ((together s O opening L steps).sound p) there before (sym named) in
    absurd (elim other [ inl p_differs ↦ p_differs (sym owner) | inr place_differs ↦ place_differs same ])))
    rests

module _ (s : HubSettings) (O : Opening) (opening : IsOpening s O) (L : List Step) (t p index : ℕ) (x : Transfer) (there : at_place p (history s O L p) index ≡ Some x) where
  there_after_resolution : at_place p (history s O (after_resolution p index x.to L) p) index ≡ Some x
  there_after_resolution = place_after_resolution s O L p index x.to p index ∙ there

  there_after_expiry : at_place p (history s O (after_expiry t p index x.to L) p) index ≡ Some x
  there_after_expiry =
      ap (λ (T : List Transfer). slice_get T index) (takes_none s O (Expire p index t) (after_resolution p index x.to L) (no_ask_expire p index t) p) ∙ there_after_resolution

  found_after_resolution : transfer x.id (history s O L p) ≡ Some x → transfer x.id (history s O (after_resolution p index x.to L) p) ≡ Some x
  found_after_resolution found =
      persists_step s O (Learn p p index) (Deliver p index x.to ∷ L) p (λ K. transfer x.id K ≡ Some x) (λ K event. transfer_kept x.id K event x)
      (persists_step s O (Deliver p index x.to) L p (λ K. transfer x.id K ≡ Some x) (λ K event. transfer_kept x.id K event x) found)

  -- a transfer that is at rest at the reading of its own following up stays at rest at each
  pub own_follow_up_rests : IsInterleaving s L → (at : ℕ) → Rests s O L t p x → Rests s O L at p x → Rests s O (reverse (of_transfer t p index x.to) ++ L) at p x
  own_follow_up_rests steps at now rests =
      let found : transfer x.id (history s O L p) ≡ Some x = place_found s p (history s O L p) index x ((together s O opening L steps).sound p) there in
      rests_through s O L t p index x.to at p x
      (expiry_decides_none s O (after_resolution p index x.to L) t p index x there_after_resolution (rests_after_resolution s O L p index x.to t p x now) (found_after_resolution found) p x.id) rests

  -- what is pending came when it was delivered
  came_pending : (o : Option Outcome) → outcome s O L p x.id ≡ o → outcome s O (followed_up_by t p index x.to L) p x.id ≡ None
      → is_forwarded p x.id (history s O (followed_up_by t p index x.to L) x.to) ≡ true
  came_pending None is none =
      still_forwarded s O (Learn x.to p index) (after_expiry t p index x.to L) x.to p x.id
      (still_forwarded s O (Expire p index t) (after_resolution p index x.to L) x.to p x.id
      (still_forwarded s O (Learn p p index) (Deliver p index x.to ∷ L) x.to p x.id (delivery_forwards s O L p index x there is)))
  came_pending (Some z) is none =
      let later : outcome s O (followed_up_by t p index x.to L) p x.id ≡ Some z = outcome_stays s O (reverse (of_transfer t p index x.to)) L p x.id z is in
      let clash : None ≡ Some z = sym none ∙ later in
      absurd cc

  rests_as_decided : (at : ℕ) (o : Option Outcome) → outcome s O (followed_up_by t p index x.to L) p x.id ≡ o → (o ≡ None → at < deadline s x)
      → RestsWith s at p x (history s O (followed_up_by t p index x.to L) p) (history s O (followed_up_by t p index x.to L) x.to) o
  rests_as_decided at None is before = (came_pending (outcome s O L p x.id) refl is, before refl)
  rests_as_decided at (Some z) is before =
      let E : List Step = after_expiry t p index x.to L in
      let was : outcome s O E p x.id ≡ Some z = sym (same_outcome s O (Learn x.to p index) E refl p x.id) ∙ is in (
        still_booked s O (Learn x.to p index) E p p x.id z (expiry_books s O opening (after_resolution p index x.to L) p index t x z there_after_resolution was),
        λ came. learning_books s O opening E x.to p index x z there_after_expiry was (inr (came_decided s O (Learn x.to p index) E x.to p x.id z was came)),
      )

  -- a transfer that was followed up is at rest, if it is pending at a reading before its deadline
  pub follow_up_rests : (at : ℕ) → (outcome s O (reverse (of_transfer t p index x.to) ++ L) p x.id ≡ None → at < deadline s x)
      → Rests s O (reverse (of_transfer t p index x.to) ++ L) at p x
  follow_up_rests at before = rests_as_decided at (outcome s O (followed_up_by t p index x.to L) p x.id) refl before
