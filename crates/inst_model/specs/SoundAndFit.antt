-- After any interleaving each history is sound, and the histories fit each other. A promise of this
-- hub.
use Rattle.std.specs.Prelude.{ℕ, List}
use Rattle.inst_settings.specs.Settings.{HubSettings}
use Rattle.inst_command.specs.declared.step.Step.{Step}
use Rattle.inst_journal.specs.Sound.{IsSound}
use Rattle.inst_model.specs.Interleaving.{IsInterleaving}
use Rattle.inst_model.specs.Opening.{Opening, IsOpening}
use Rattle.inst_model.specs.Hub.{history}
use Rattle.inst_model.specs.Fit.{BooksFit}

abbrev pub HistoriesAreSound : Type 0
HistoriesAreSound =
    (s : HubSettings) (O : Opening) → IsOpening s O → (L : List Step) → IsInterleaving s L →
    (p : ℕ) → IsSound s p (history s O L p)

abbrev pub HistoriesFit : Type 0
HistoriesFit =
    (s : HubSettings) (O : Opening) → IsOpening s O → (L : List Step) → IsInterleaving s L →
    BooksFit s (history s O L)
