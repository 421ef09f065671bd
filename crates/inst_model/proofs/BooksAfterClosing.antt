-- Where everyone is told the books are closed, and telling once more adds nothing.
use Rattle.std.proofs.Common.{◌≡◌, ℕ, true, List, [], ◌∷◌, ◌++◌, Some, None, refl, sym, ap, subst, ◌∙◌, inl, inr, append_assoc, Contains}
use Rattle.std.proofs.lemmas.Bool.{true≢false}
use Rattle.std.proofs.lemmas.List.Elements.{Contains-append_right}
use Rattle.inst_settings.specs.Settings.{HubSettings}
use Rattle.inst_command.specs.declared.outcome.Outcome.{Outcome}
use Rattle.inst_command.specs.declared.step.Step.{Step}
use Rattle.inst_journal.specs.declared.event.Event.{Event}
use Rattle.inst_journal.specs.declared.event.Event.TheVariants.{Taken, Booked}
use Rattle.inst_journal.specs.Booked.{booked, is_forwarded}
use Rattle.inst_journal.proofs.EventsCarriedOverOpening.{carried_unbooked}
use Rattle.inst_model.specs.Closing.{is_telling, IsClosing, ClosingDecidesNothing, ClosingOnlyTells, ClosingCloses, ClosingAgainAddsNothing, ClosingLeavesNothingToTell, NothingLeftIsClosed}
use Rattle.inst_model.specs.Interleaving.{IsInterleaving}
use Rattle.inst_model.specs.Fit.{BooksFit, BooksAreClosed}
use Rattle.inst_model.specs.Opening.{Opening, IsOpening}
use Rattle.inst_model.specs.Transfer.{transfer}
use Rattle.inst_model.specs.Hub.{outcome, history}
use Rattle.inst_model.proofs.Events.{taken_found, booked_there}
use Rattle.inst_model.proofs.HistoriesFitOneAnother.{histories_fit}
use Rattle.inst_model.proofs.HistoryKeepsWhatItHas.{is_none_of}
use Rattle.inst_model.proofs.NamesOfTransfers.{identifiers_name}
use Rattle.inst_model.proofs.Outcomes.{booked_is_the_outcome}
use Rattle.inst_model.proofs.LiveTransfersOnBothSides.{forwarding_found, came_as_taken}
use Rattle.inst_model.proofs.StepsThatOnlyTell.{OnlyTells, same_outcome, same_outcomes, only_told, by_telling}
use Rattle.inst_model.proofs.AllHistoriesTogether.{together}
use Rattle.inst_model.proofs.EveryoneIsToldAfterClosing.{AllTold, all_told, quiet_told, each_append}
use Rattle.inst_model.proofs.Transfers.{as_transfer}
use Rattle.std.proofs.Common.{is_none}

-- nobody has booked it
abbrev Unbooked : (ℕ → List Event) → ℕ → List ℕ → Type 0
Unbooked J from id = (p : ℕ) (o : Outcome) → Contains (J p) (Booked from id o) → ⊥

-- what nobody has booked has come
pending_came : (s : HubSettings) (O : Opening) → IsOpening s O → (C : List Step) → AllTold s O C → (from : ℕ) (id : List ℕ) (to cents stamp : ℕ) → Contains (history s O C from) (Taken id to cents stamp) → Unbooked (history s O C) from id
    → is_forwarded from id (history s O C to) ≡ true
pending_came s O opened C told from id to cents stamp taken nobody =
    let J : ℕ → List Event = history s O C in
    let found : transfer id (J from) ≡ Some (as_transfer id to cents stamp) = taken_found s from (J from) id to cents stamp ((together s O opened C told.steps).sound from) taken in
    let unbooked : booked from id (J from) ≡ None = is_none_of (booked from id (J from)) (λ o some. nobody from o (booked_there from id o (J from) some)) in
    let pending : outcome s O C from id ≡ None = is_none_of (outcome s O C from id) (λ o some. nobody from o (booked_there from id o (J from) (told.originator from id o some))) in
    let named = identifiers_name s O C from id (as_transfer id to cents stamp) found (ap is_none (carried_unbooked from id (J from) unbooked)) in
    told.come from named.0 (as_transfer id to cents stamp) named.1 pending

closed_books : (s : HubSettings) (O : Opening) → IsOpening s O → (C : List Step) → AllTold s O C → BooksAreClosed s (history s O C)
closed_books s O opened C told =
    let J : ℕ → List Event = history s O C in
    let sound = (together s O opened C told.steps).sound in
    let fit : BooksFit s J = histories_fit s O opened C told.steps in
    record {
      fit = fit;
      originator_booked = λ from id to cents stamp p o taken there.
          booked_there from id o (J from) (told.originator from id o (booked_is_the_outcome s O opened C p from id o there));
      beneficiary_booked = λ from id to cents d p o came there.
          booked_there from id o (J to) (told.beneficiary to from id o (forwarding_found from id cents d (J to) came) (booked_is_the_outcome s O opened C p from id o there));
      pending_is_forwarded = λ from id to cents stamp taken nobody.
          came_as_taken s J sound fit from to id cents stamp taken (pending_came s O opened C told from id to cents stamp taken nobody);
    }

pub closing_closes : ClosingCloses
closing_closes s O opened L M steps closes =
    let told : AllTold s O (M ++ L) = all_told s O opened L M steps closes in
    record { sound = (together s O opened (M ++ L) told.steps).sound; closed = closed_books s O opened (M ++ L) told }

pub closing_decides_nothing : ClosingDecidesNothing
closing_decides_nothing s O L M closes p id = same_outcomes s O L M closes.only_tells p id

pub closing_only_tells : ClosingOnlyTells
closing_only_tells s O L M closes p = only_told s O L M closes.only_tells p

-- where everyone is told, a step that tells adds nothing
nothing_new : (s : HubSettings) (O : Opening) (C : List Step) → AllTold s O C → (step : Step) → is_telling step ≡ true → (p : ℕ) → history s O (step ∷ C) p ≡ history s O C p
nothing_new s O C told step tells p =
    let J : ℕ → List Event = history s O C in
    by_telling s O step C p tells (λ K. K ≡ J p) refl
    (λ from index x is why.
    let came : is_forwarded from x.id (J p) ≡ true = subst (λ q. is_forwarded from x.id (J q) ≡ true) why.addressed (told.come from index x why.there why.undecided) in
    absurd (true≢false (sym came ∙ why.new)))
    (λ from id o why.
    let is : outcome s O C from id ≡ Some o = sym (same_outcome s O step C tells from id) ∙ why.outcome_is in
    let has : booked from id (J p) ≡ Some o = elim why.party [
      | inl own ↦ subst (λ q. booked from id (J q) ≡ Some o) own.0 (told.originator from id o is)
      | inr came ↦ told.beneficiary p from id o came is
    ] in
    let clash : None ≡ Some o = sym why.new ∙ has in absurd cc)

-- a closing after which more is told is a closing
longer : (s : HubSettings) (N M : List Step) → OnlyTells N → IsClosing s M → IsInterleaving s N → IsClosing s (N ++ M)
longer s N M tells closes fits = record {
  fits = each_append _ N M fits closes.fits;
  only_tells = each_append _ N M tells closes.only_tells;
  delivers = λ who from index w f k. Contains-append_right N M _ (closes.delivers who from index w f k);
  learns = λ who from index w f k. Contains-append_right N M _ (closes.learns who from index w f k);
}

add_nothing : (s : HubSettings) (O : Opening) → IsOpening s O → (L M N : List Step) → IsInterleaving s L → IsClosing s M → OnlyTells N → IsInterleaving s N → (p : ℕ)
    → history s O (N ++ (M ++ L)) p ≡ history s O (M ++ L) p
add_nothing s O opened L M [] steps closes tells fits p = refl
add_nothing s O opened L M (step ∷ N) steps closes tells fits p =
    let told : AllTold s O (N ++ (M ++ L)) = subst (λ C. AllTold s O C) (append_assoc N M L) (all_told s O opened L (N ++ M) steps (longer s N M tells.1 closes fits.1)) in
    nothing_new s O (N ++ (M ++ L)) told step tells.0 p ∙ add_nothing s O opened L M N steps closes tells.1 fits.1 p

pub closing_again_adds_nothing : ClosingAgainAddsNothing
closing_again_adds_nothing s O opened L M N steps closes again p = add_nothing s O opened L M N steps closes again.only_tells again.fits p

pub closing_leaves_nothing_to_tell : ClosingLeavesNothingToTell
closing_leaves_nothing_to_tell s O opened L M steps closes step tells fits p = nothing_new s O (M ++ L) (all_told s O opened L M steps closes) step tells p

pub nothing_left_is_closed : NothingLeftIsClosed
nothing_left_is_closed s O opened L steps quiet = record {
  sound = (together s O opened L steps).sound;
  closed = closed_books s O opened L (quiet_told s O opened L steps quiet);
}
