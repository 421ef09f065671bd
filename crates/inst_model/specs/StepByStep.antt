-- The whole hub step by step: the first step that gives an outcome decides; a participant sees at
-- most one entry of a step, made of the state before it and the outcomes after it. A choice of this
-- hub.
use Rattle.std.specs.Prelude.{◌≡◌, ℕ, ◌≤◌, List, ◌∷◌, ◌++◌, length, reverse}
use Rattle.inst_settings.specs.Settings.{HubSettings}
use Rattle.inst_model.specs.Opening.{Opening}
use Rattle.inst_command.specs.declared.step.Step.{Step}
use Rattle.inst_journal.specs.Booked.{or_else}
use Rattle.inst_model.specs.Wants.{wants}
use Rattle.inst_model.specs.View.{sees}
use Rattle.inst_model.specs.Hub.{view, outcome, history}
use Rattle.inst_model.specs.Trace.{trace, replies, own_answers}

abbrev pub TheFirstThatWantsDecides : Type 0
TheFirstThatWantsDecides =
    (s : HubSettings) (O : Opening) (step : Step) (past : List Step) (p : ℕ) (id : List ℕ) →
    outcome s O (step ∷ past) p id
    ≡ or_else (outcome s O past p id) (wants s (history s O past) step p id)

abbrev pub AViewGrowsByWhatIsSeen : Type 0
AViewGrowsByWhatIsSeen = (s : HubSettings) (O : Opening) (step : Step) (past : List Step) (p : ℕ) →
    view s O (step ∷ past) p
    ≡ view s O past p
    ++ sees s (history s O past) (outcome s O past) (outcome s O (step ∷ past)) step p

abbrev pub AtMostOneEntryIsSeen : Type 0
AtMostOneEntryIsSeen = (s : HubSettings) (O : Opening) (step : Step) (past : List Step) (p : ℕ) →
    length (sees s (history s O past) (outcome s O past) (outcome s O (step ∷ past)) step p) ≤ 1

-- Each step has one answer, and the replies to p are the answers to its asks.
abbrev pub RepliesAreInTheTrace : Type 0
RepliesAreInTheTrace = (s : HubSettings) (O : Opening) (L : List Step) (p : ℕ) →
    (length (trace s O L) ≡ length L) × (own_answers p (reverse L) (trace s O L) ≡ replies s O L p)
