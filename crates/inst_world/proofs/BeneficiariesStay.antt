-- Telling leaves the beneficiaries of the live transfers, and the places behind them are unused.
use Rattle.std.proofs.Common.{◌≡◌, ◌≢◌, ℕ, zero, suc, ◌<◌, ◌≤◌, true, List, [], ◌∷◌, ◌++◌, length, Option, Some, None, refl, sym, ap, subst, ◌∙◌, inl, inr, ◌⊎◌, arith}
use Rattle.std.specs.Prelude.{slice_get, option_map}
use Rattle.std.specs.List.{AllByRecursion}
use Rattle.std.specs.Global.{Vec}
use Rattle.std.proofs.lemmas.Bool.{cases_eq, cases_lt}
use Rattle.std.proofs.lemmas.Option.{slice_get_past}
use Rattle.inst_settings.specs.Settings.{HubSettings, participants, is_participant}
use Rattle.inst_command.specs.declared.step.Step.{Step}
use Rattle.inst_model.specs.Closing.{is_telling, of_places}
use Rattle.inst_model.specs.Hub.{history, outcome}
use Rattle.inst_model.specs.Opening.{Opening}
use Rattle.inst_model.specs.Transfer.{Transfer, live_transfers, at_place}
use Rattle.inst_model.proofs.StepsThatOnlyTell.{same_live}
use Rattle.inst_board.specs.Plain.{standing_at}
use Rattle.inst_slot.specs.Book.{place_at}
use Rattle.inst_world.specs.HasRun.{World, world_settings, HasRun, HasRunSomething}
use Rattle.inst_world.specs.NextOpening.{HasOnlyTold}
use Rattle.inst_world.specs.inner.Closing.{HasBeneficiaries, HasAllBeneficiaries}
use Rattle.inst_world.proofs.PlaceOfNamedTransfer.{to_shown}
use Rattle.inst_world.proofs.StepsThatAddNothing.{IsNoSide, no_side_runs}

telling_live : (s : HubSettings) (O : Opening) (L M : List Step) → AllByRecursion (λ step. is_telling step ≡ true) M → (p : ℕ) → live_transfers p (history s O (M ++ L) p) ≡ live_transfers p (history s O L p)
telling_live s O L [] tells p = refl
telling_live s O L (step ∷ M) tells p = same_live s O step (M ++ L) tells.0 p ∙ telling_live s O L M tells.1 p

abbrev to_at : HubSettings → Opening → List Step → ℕ → ℕ → Option ℕ
to_at s O L from index = option_map (λ (x : Transfer). x.to) (at_place from (history s O L from) index)

-- who was told of transfers has run something
pub still_run : (old new : World) → HasRunSomething old → HasOnlyTold old new → HasRunSomething new
still_run old new ran told =
    let more = told ran.0 ran.1 ran.2 in
    (ran.0, more.0 ++ ran.1, more.2)

-- telling leaves the beneficiaries
pub still_beneficiaries : (old new : World) (from : ℕ) (list : List ℕ) → HasRunSomething old → world_settings new ≡ world_settings old → HasOnlyTold old new → HasBeneficiaries old from list → HasBeneficiaries new from list
still_beneficiaries old new from list ran same told has = record {
  few = subst (λ (s : HubSettings). length list ≤ s.places) (sym same) has.few;
  most = has.most;
  by_place = λ O L run index less.
      let s : HubSettings = world_settings new in
      let more = told ran.0 ran.1 ran.2 in
      let M : List Step = more.0 ++ ran.1 in
      let before : slice_get list index ≡ to_at s ran.0 ran.1 from index =
      has.by_place ran.0 ran.1 ran.2 index (subst (λ (t : HubSettings). index < t.places) same less) ∙ ap (λ (t : HubSettings). to_at t ran.0 ran.1 from index) (sym same) in
      let still : to_at s ran.0 M from index ≡ to_at s ran.0 ran.1 from index =
      ap (λ (T : List Transfer). option_map (λ (x : Transfer). x.to) (slice_get T index)) (telling_live s ran.0 ran.1 more.0 more.1 from) in
      before ∙ sym still
      ∙ sym (to_shown s (outcome s ran.0 M from) (at_place from (history s ran.0 M from) index) (standing_at new.board (place_at from index)) (more.2.board from index))
      ∙ to_shown s (outcome s O L from) (at_place from (history s O L from) index) (standing_at new.board (place_at from index)) (run.board from index);
}

pub still_all_beneficiaries : (old new : World) (lists : List (Vec ℕ)) → HasRunSomething old → world_settings new ≡ world_settings old → HasOnlyTold old new → HasAllBeneficiaries old lists → HasAllBeneficiaries new lists
still_all_beneficiaries old new lists ran same told has = record {
  one_each = has.one_each ∙ ap participants (sym same);
  each = λ from list there. still_beneficiaries old new from list.items ran same told (has.each from list there);
}

-- who is neither the originator nor the beneficiary is no side
pub is_no_side : (who from to : ℕ) (X : Option Transfer) → who ≢ from → to ≢ who → Some to ≡ option_map (λ (x : Transfer). x.to) X → IsNoSide who from X
is_no_side who from to None another other is = let no : ⊥ = cc in absurd no
is_no_side who from to (Some x) another other is =
    let same : to ≡ x.to = cc in
    (another, λ e. other (same ∙ e))

nobody_there : (who from : ℕ) (X : Option Transfer) → None ≡ option_map (λ (x : Transfer). x.to) X → IsNoSide who from X
nobody_there who from None is = tt
nobody_there who from (Some x) is = let no : ⊥ = cc in absurd no

-- the places behind the live transfers add nothing
pub rest_adds_nothing : (hub : World) (O : Opening) (L : List Step) (who from : ℕ) (list : List ℕ) → is_participant (world_settings hub) who ≡ true → is_participant (world_settings hub) from ≡ true
    → HasBeneficiaries hub from list → HasRun O (of_places who from (length list) ++ L) hub
    → (places : ℕ) → length list ≤ places → places ≤ (world_settings hub).places → HasRun O (of_places who from places ++ L) hub
rest_adds_nothing hub O L who from list one other has run zero behind within =
    let none : length list ≡ zero = omega (arith, behind) in
    subst (λ (n : ℕ). HasRun O (of_places who from n ++ L) hub) none run
rest_adds_nothing hub O L who from list one other has run (suc n) behind within = elim (cases_eq (length list) (suc n)) [
  | inl same ↦ subst (λ (m : ℕ). HasRun O (of_places who from m ++ L) hub) same run
  | inr differs ↦
      let behind' : length list ≤ n = omega (arith, behind, differs) in
      let M : List Step = of_places who from n ++ L in
      let before : HasRun O M hub = rest_adds_nothing hub O L who from list one other has run n behind' (omega (arith, within)) in
      no_side_runs hub O M before who from n one other
      (nobody_there who from (at_place from (history (world_settings hub) O M from) n)
      (sym (slice_get_past list n behind') ∙ has.by_place O M before n (omega (arith, within))))
]

-- nothing stands behind a place where nothing stands
none_behind : (T : List Transfer) (k n : ℕ) → option_map (λ (x : Transfer). x.to) (slice_get T k) ≡ None → k ≤ n → slice_get T n ≡ None
none_behind [] k n none behind = refl
none_behind (x ∷ T) zero n none behind = let no : ⊥ = cc none in absurd no
none_behind (x ∷ T) (suc k) zero none behind = absurd (omega (arith, behind))
none_behind (x ∷ T) (suc k) (suc n) none behind = none_behind T k n none (omega (arith, behind))

-- the beneficiaries up to here are those of all places, if nothing stands here or there are no more places
pub all_found : (world : World) (from index : ℕ) (list : List ℕ) → length list ≡ index
    → ((O : Opening) (L : List Step) → HasRun O L world → (k : ℕ) → k < length list → slice_get list k ≡ to_at (world_settings world) O L from k)
    → length list ≤ (world_settings world).places → (world_settings world).places ≤ 1024
    → ((world_settings world).places ≤ index) ⊎ ((O : Opening) (L : List Step) → HasRun O L world → None ≡ to_at (world_settings world) O L from index)
    → HasBeneficiaries world from list
all_found world from index list count found few most end = record {
  few = few;
  most = omega (arith, few, most);
  by_place = λ O L run k less. elim (cases_lt k (length list)) [
    | inl before ↦ found O L run k before
    | inr behind ↦ elim end [
      | inl all ↦ absurd (omega (arith, less, behind, all, count))
      | inr none ↦
          let T : List Transfer = live_transfers from (history (world_settings world) O L from) in
          slice_get_past list k behind ∙ sym (ap (option_map (λ (x : Transfer). x.to)) (none_behind T index k (sym (none O L run)) (omega (arith, behind, count))))
    ]
  ];
}
