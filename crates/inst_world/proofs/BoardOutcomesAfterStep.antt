-- A board that has the model's outcomes has them after a step too.
use Rattle.std.proofs.Common.{◌≡◌, ◌≢◌, ℕ, zero, suc, List, [], ◌∷◌, ◌++◌, length, Option, Some, None, refl, sym, ap, subst, ◌∙◌, inl, inr, ◌⊎◌}
use Rattle.std.specs.Prelude.{slice_get}
use Rattle.std.proofs.lemmas.Bool.{cases_eq}
use Rattle.inst_settings.specs.Settings.{HubSettings}
use Rattle.inst_command.specs.declared.outcome.Outcome.{Outcome}
use Rattle.inst_command.specs.declared.step.Step.{Step}
use Rattle.inst_command.specs.declared.place.Place.{Place}
use Rattle.inst_board.specs.Standing.{Standing, pending}
use Rattle.inst_board.specs.Plain.{Contents, standing_at}
use Rattle.inst_model.specs.Opening.{Opening, IsOpening}
use Rattle.inst_model.specs.Interleaving.{IsInterleaving}
use Rattle.inst_model.specs.Transfer.{Transfer, live_transfers, at_place, deadline}
use Rattle.inst_model.specs.Hub.{outcome, history}
use Rattle.inst_model.proofs.AllHistoriesTogether.{together}
use Rattle.inst_slot.specs.Book.{place_at}
use Rattle.inst_world.specs.HasRun.{StandsWith, StandsFor, terms_of, IsBoardOf}
use Rattle.inst_world.proofs.PlaceOfKnownTransfer.{IsTheSame, IsTheSameElsewhere, same_for}
use Rattle.inst_world.proofs.PlacesOfLiveTransfers.{places_apart}

-- the live transfers are the same after the step
abbrev pub SameLive : HubSettings → Opening → Step → List Step → Type 0
SameLive s O step L = (p : ℕ) → live_transfers p (history s O (step ∷ L) p) ≡ live_transfers p (history s O L p)

stands_for : (s : HubSettings) (before after : List ℕ → Option Outcome) (X : Option Transfer) (p : Standing) → ((x : Transfer) → X ≡ Some x → after x.id ≡ before x.id)
    → StandsFor s before X p → StandsFor s after X p
stands_for s before after None p same is = is
stands_for s before after (Some x) p same is = subst (λ (o : Option Outcome). StandsWith (terms_of x) (deadline s x) o p) (sym (same x refl)) is

module _ (s : HubSettings) (O : Opening) (opening : IsOpening s O) (L : List Step) (steps : IsInterleaving s L) (step : Step) (b c : Contents) (board : IsBoardOf s O L b) where
  same_place : SameLive s O step L → (p index : ℕ) → at_place p (history s O (step ∷ L) p) index ≡ at_place p (history s O L p) index
  same_place live p index = ap (λ (T : List Transfer). slice_get T index) (live p)

  stays_at : SameLive s O step L → (p index : ℕ) → ((x : Transfer) → at_place p (history s O L p) index ≡ Some x → outcome s O (step ∷ L) p x.id ≡ outcome s O L p x.id)
      → StandsFor s (outcome s O (step ∷ L) p) (at_place p (history s O (step ∷ L) p) index) (standing_at b (place_at p index))
  stays_at live p index same =
      subst (λ (X : Option Transfer). StandsFor s (outcome s O (step ∷ L) p) X (standing_at b (place_at p index))) (sym (same_place live p index))
      (stands_for s (outcome s O L p) (outcome s O (step ∷ L) p) (at_place p (history s O L p) index) (standing_at b (place_at p index)) same (board p index))

  -- nothing was decided or taken
  pub board_stays : SameLive s O step L → IsTheSame b c → ((p index : ℕ) (x : Transfer) → at_place p (history s O L p) index ≡ Some x → outcome s O (step ∷ L) p x.id ≡ outcome s O L p x.id)
      → IsBoardOf s O (step ∷ L) c
  board_stays live same outcomes p index =
      same_for s (outcome s O (step ∷ L) p) (at_place p (history s O (step ∷ L) p) index) (standing_at b (place_at p index)) (standing_at c (place_at p index)) (same (place_at p index))
      (stays_at live p index (λ x there. outcomes p index x there))

  other_place : (p q m n : ℕ) → (p ≢ q) ⊎ (m ≢ n) → place_at p m ≢ place_at q n
  other_place p q m n (inl owner) same = owner (ap (λ (k : Place). k.owner) same)
  other_place p q m n (inr index) same = index (ap (λ (k : Place). k.index) same)

  -- the transfer x at a place may have been decided
  pub board_settles : SameLive s O step L → (q n : ℕ) (x : Transfer) → at_place q (history s O L q) n ≡ Some x
      → StandsWith (terms_of x) (deadline s x) (outcome s O (step ∷ L) q x.id) (standing_at c (place_at q n)) → IsTheSameElsewhere b (place_at q n) c
      → ((p : ℕ) (id : List ℕ) → (p ≢ q) ⊎ (id ≢ x.id) → outcome s O (step ∷ L) p id ≡ outcome s O L p id)
      → IsBoardOf s O (step ∷ L) c
  board_settles live q n x there here elsewhere others p index = elim (cases_eq p q) [
    | inr other ↦ away (inl other) (λ y is. others p y.id (inl other))
    | inl owner ↦ elim (cases_eq index n) [
      | inr other ↦ away (inr other) (λ y is. others p y.id (inr (λ same. other
          (places_apart s p (history s O L p) index n y x ((together s O opening L steps).sound p) is (subst (λ (r : ℕ). at_place r (history s O L r) n ≡ Some x) (sym owner) there) same))))
      | inl same_index ↦
          subst (λ (r : ℕ). StandsFor s (outcome s O (step ∷ L) r) (at_place r (history s O (step ∷ L) r) index) (standing_at c (place_at r index))) (sym owner)
          (subst (λ (m : ℕ). StandsFor s (outcome s O (step ∷ L) q) (at_place q (history s O (step ∷ L) q) m) (standing_at c (place_at q m))) (sym same_index)
          (subst (λ (X : Option Transfer). StandsFor s (outcome s O (step ∷ L) q) X (standing_at c (place_at q n))) (sym (same_place live q n ∙ there)) here))
    ]
  ]
    where
      away : (p ≢ q) ⊎ (index ≢ n) → ((y : Transfer) → at_place p (history s O L p) index ≡ Some y → outcome s O (step ∷ L) p y.id ≡ outcome s O L p y.id)
          → StandsFor s (outcome s O (step ∷ L) p) (at_place p (history s O (step ∷ L) p) index) (standing_at c (place_at p index))
      away other same =
          same_for s (outcome s O (step ∷ L) p) (at_place p (history s O (step ∷ L) p) index) (standing_at b (place_at p index)) (standing_at c (place_at p index))
          (elsewhere (place_at p index) (other_place p q index n other)) (stays_at live p index same)

  -- the transfer x was taken at the next place
  pub board_opens : (q : ℕ) (x : Transfer) → live_transfers q (history s O (step ∷ L) q) ≡ live_transfers q (history s O L q) ++ x ∷ []
      → ((p : ℕ) → p ≢ q → live_transfers p (history s O (step ∷ L) p) ≡ live_transfers p (history s O L p))
      → standing_at c (place_at q (length (live_transfers q (history s O L q)))) ≡ pending (terms_of x) (deadline s x)
      → IsTheSameElsewhere b (place_at q (length (live_transfers q (history s O L q)))) c
      → outcome s O (step ∷ L) q x.id ≡ None
      → ((p index : ℕ) (y : Transfer) → at_place p (history s O L p) index ≡ Some y → outcome s O (step ∷ L) p y.id ≡ outcome s O L p y.id)
      → IsBoardOf s O (step ∷ L) c
  board_opens q x grown others here elsewhere undecided outcomes p index = elim (cases_eq p q) [
    | inr other ↦ go_on (inl other) (ap (λ (T : List Transfer). slice_get T index) (others p other))
    | inl owner ↦ elim (cases_eq index (length (live_transfers q (history s O L q)))) [
      | inl last ↦
          subst (λ (r : ℕ). StandsFor s (outcome s O (step ∷ L) r) (at_place r (history s O (step ∷ L) r) index) (standing_at c (place_at r index))) (sym owner)
          (subst (λ (m : ℕ). StandsFor s (outcome s O (step ∷ L) q) (at_place q (history s O (step ∷ L) q) m) (standing_at c (place_at q m))) (sym last)
          (subst (λ (X : Option Transfer). StandsFor s (outcome s O (step ∷ L) q) X (standing_at c (place_at q (length (live_transfers q (history s O L q)))))) (sym (at_last ∙ get_last (live_transfers q (history s O L q)) x))
          (subst (λ (o : Option Outcome). StandsWith (terms_of x) (deadline s x) o (standing_at c (place_at q (length (live_transfers q (history s O L q)))))) (sym undecided) here)))
      | inr before ↦ go_on (inr before)
          (ap (λ (r : ℕ). at_place r (history s O (step ∷ L) r) index) owner
          ∙ ap (λ (T : List Transfer). slice_get T index) grown
          ∙ get_other (live_transfers q (history s O L q)) x index before
          ∙ ap (λ (r : ℕ). at_place r (history s O L r) index) (sym owner))
    ]
  ]
    where
      get_last : (xs : List Transfer) (y : Transfer) → slice_get (xs ++ y ∷ []) (length xs) ≡ Some y
      get_last [] y = refl
      get_last (z ∷ xs) y = get_last xs y

      get_other : (xs : List Transfer) (y : Transfer) (m : ℕ) → m ≢ length xs → slice_get (xs ++ y ∷ []) m ≡ slice_get xs m
      get_other [] y zero other = absurd (other refl)
      get_other [] y (suc m) other = refl
      get_other (z ∷ xs) y zero other = refl
      get_other (z ∷ xs) y (suc m) other = get_other xs y m (λ same. other (ap suc same))

      at_last : at_place q (history s O (step ∷ L) q) (length (live_transfers q (history s O L q))) ≡ slice_get (live_transfers q (history s O L q) ++ x ∷ []) (length (live_transfers q (history s O L q)))
      at_last = ap (λ (T : List Transfer). slice_get T (length (live_transfers q (history s O L q)))) grown

      go_on : (p ≢ q) ⊎ (index ≢ length (live_transfers q (history s O L q))) → at_place p (history s O (step ∷ L) p) index ≡ at_place p (history s O L p) index
          → StandsFor s (outcome s O (step ∷ L) p) (at_place p (history s O (step ∷ L) p) index) (standing_at c (place_at p index))
      go_on other same =
          let k : Place = place_at p index in
          same_for s (outcome s O (step ∷ L) p) (at_place p (history s O (step ∷ L) p) index) (standing_at b k) (standing_at c k)
          (elsewhere k (other_place p q index (length (live_transfers q (history s O L q))) other))
          (subst (λ (X : Option Transfer). StandsFor s (outcome s O (step ∷ L) p) X (standing_at b k)) (sym same)
          (stands_for s (outcome s O L p) (outcome s O (step ∷ L) p) (at_place p (history s O L p) index) (standing_at b k) (λ y is. outcomes p index y is) (board p index)))
