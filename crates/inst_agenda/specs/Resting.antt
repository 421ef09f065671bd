-- Transfers for which a follow-up at a clock reading changes nothing: pending, forwarded to the
-- beneficiary and not due; or decided, and booked on each side that can book it (EPC004-16, chapter
-- 4: both participants are told one outcome; time-out deadline). A choice of this hub.
use Rattle.std.specs.Prelude.{◌≡◌, ℕ, ◌<◌, true, List, Option, Some, None}
use Rattle.inst_settings.specs.Settings.{HubSettings}
use Rattle.inst_command.specs.declared.outcome.Outcome.{Outcome}
use Rattle.inst_command.specs.declared.step.Step.{Step}
use Rattle.inst_journal.specs.declared.event.Event.{Event}
use Rattle.inst_journal.specs.Booked.{is_forwarded, booked}
use Rattle.inst_model.specs.Opening.{Opening}
use Rattle.inst_model.specs.Transfer.{Transfer, deadline}
use Rattle.inst_model.specs.Hub.{outcome, history}

-- The same for transfer x of p, given the histories of its two sides and its outcome.
abbrev pub RestsWith : HubSettings → ℕ → ℕ → Transfer → List Event → List Event → Option Outcome →
    Type 0
RestsWith s at p x own theirs None = (is_forwarded p x.id theirs ≡ true) × (at < deadline s x)
RestsWith s at p x own theirs (Some o) =
    (booked p x.id own ≡ Some o)
    × (is_forwarded p x.id theirs ≡ true → booked p x.id theirs ≡ Some o)

-- At this clock reading and after these steps nothing is left to do for transfer x of p.
abbrev pub Rests : HubSettings → Opening → List Step → ℕ → ℕ → Transfer → Type 0
Rests s O L at p x =
    RestsWith s at p x (history s O L p) (history s O L x.to) (outcome s O L p x.id)
