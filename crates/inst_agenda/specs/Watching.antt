-- The relation between a hub and its agenda between two lines: each transfer with something left to
-- do is on the agenda. So a follow-up that visits only those has the effect of visiting all. A
-- choice of this hub.
use Rattle.std.specs.Prelude.{◌≡◌, ℕ, ◌<◌, true, false, List, Some}
use Rattle.inst_settings.specs.Settings.{HubSettings, is_participant}
use Rattle.inst_command.specs.declared.step.Step.{Step}
use Rattle.inst_model.specs.Opening.{Opening}
use Rattle.inst_model.specs.Transfer.{Transfer, at_place}
use Rattle.inst_model.specs.Hub.{history}
use Rattle.inst_agenda.specs.Agenda.{Agenda, is_awaited, is_next}
use Rattle.inst_world.specs.HasRun.{World, world_settings, HasRun}
use Rattle.inst_agenda.specs.Resting.{Rests}

-- The place isn't one of the next, and waits for no moment up to this clock reading.
pub record IsLeft (agenda : Agenda) (at p index : ℕ) : Type 0 where
  pub not_next : is_next agenda p index ≡ false
  pub not_due : (m : ℕ) → is_awaited agenda m p index ≡ true → at < m

-- The agenda fits a hub after these steps.
--
-- - next_named, waiting_named: the agenda's places are of participants
-- - rests: for a transfer that the agenda leaves out at a clock reading nothing is left to do
pub record IsAgendaOf (s : HubSettings) (O : Opening) (L : List Step) (agenda : Agenda) : Type 0
  where
    pub next_named : (p index : ℕ) → is_next agenda p index ≡ true → is_participant s p ≡ true
    pub waiting_named : (m p index : ℕ) → is_awaited agenda m p index ≡ true →
        is_participant s p ≡ true
    pub rests : (p index : ℕ) (x : Transfer) → is_participant s p ≡ true →
        at_place p (history s O L p) index ≡ Some x →
        (at : ℕ) → IsLeft agenda at p index → Rests s O L at p x

-- The hub has run these steps since this opening, and the agenda fits it.
pub record Watches (O : Opening) (L : List Step) (hub : World) (agenda : Agenda) : Type 0 where
  pub ran : HasRun O L hub
  pub is_agenda : IsAgendaOf (world_settings hub) O L agenda
