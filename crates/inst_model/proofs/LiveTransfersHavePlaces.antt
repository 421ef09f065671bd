-- The live transfers have places, and their list grows at its end.
use Rattle.std.proofs.Common.{◌≡◌, ℕ, false, List, [], ◌∷◌, ◌++◌, is_none, sym, ap, ◌∙◌, append-nil, append_assoc, arith}
use Rattle.std.specs.List.{cons_option, filter}
use Rattle.inst_settings.specs.Settings.{HubSettings}
use Rattle.inst_command.specs.declared.step.Step.{Step}
use Rattle.inst_journal.specs.declared.event.Event.{Event}
use Rattle.inst_journal.specs.Opened.{is_opening, is_live}
use Rattle.inst_journal.proofs.EventsCarriedOverOpening.{carried_unbooked}
use Rattle.inst_journal.proofs.CountsOfEvents.{submissions_within}
use Rattle.inst_model.specs.Opening.{Opening}
use Rattle.inst_model.specs.Transfer.{Transfer, terms, live_transfers}
use Rattle.inst_model.specs.Hub.{history}
use Rattle.inst_model.specs.LivePlaces.{TheLiveHaveTheirPlaces}
use Rattle.inst_model.proofs.Histories.{persists_step_within}
use Rattle.inst_model.proofs.LiveForwardedTransfers.{length_live}
use Rattle.inst_model.proofs.NamesOfTransfers.{live_grown, identifiers_name}
use Rattle.inst_model.proofs.AllHistoriesTogether.{together}

-- the list with others at its end
abbrev Extends : List Transfer → List Transfer → Type 0
Extends front longer = (new : List Transfer) × (longer ≡ front ++ new)

one_more : (p : ℕ) (front : List Transfer) (K : List Event) (event : Event) → is_opening event ≡ false → Extends front (live_transfers p K) → Extends front (live_transfers p (K ++ event ∷ []))
one_more p front K event no_opening so_far =
    let new : List Transfer = filter (λ (y : Transfer). is_live p y.id K) (cons_option (terms event) []) in
    (so_far.0 ++ new, live_grown p K event no_opening ∙ ap (λ T. T ++ new) so_far.1 ∙ append_assoc front so_far.0 new)

grows_at_its_end : (s : HubSettings) (O : Opening) (L : List Step) (p : ℕ) (later : List Step) → Extends (live_transfers p (history s O L p)) (live_transfers p (history s O (later ++ L) p))
grows_at_its_end s O L p [] = ([], sym (append-nil (live_transfers p (history s O L p))))
grows_at_its_end s O L p (step ∷ later) =
    persists_step_within s O step (later ++ L) p (λ K. Extends (live_transfers p (history s O L p)) (live_transfers p K)) (one_more p (live_transfers p (history s O L p))) (grows_at_its_end s O L p later)

pub the_live_have_their_places : TheLiveHaveTheirPlaces
the_live_have_their_places s O opened L steps p = record {
  few = omega (arith, length_live p (history s O L p), submissions_within s p (history s O L p) ((together s O opened L steps).sound p));
  unbooked_has_one = λ id x found none.
      let named = identifiers_name s O L p id x found (ap is_none (carried_unbooked p id (history s O L p) none)) in
      (named.0, named.1);
  grows_at_its_end = λ later. grows_at_its_end s O L p later;
}
