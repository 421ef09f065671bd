-- Locality: only the steps on a transfer decide it. Take two interleavings in which it was taken
-- with the same beneficiary, amount and time stamp. If afterwards the deliveries to its
-- beneficiary, the beneficiary's confirmations and rejections and the originator's investigations
-- and expiries are the same, in the same order and with the same clock readings, it has the same
-- outcome. A promise of this hub.
use Rattle.std.specs.Prelude.{◌≡◌, ℕ, ◌==◌, ◌&&◌, if◌then◌else◌, List, [], ◌∷◌, ◌++◌, Option, Some}
use Rattle.std.specs.Prelude.{None}
use Rattle.inst_settings.specs.Settings.{HubSettings}
use Rattle.inst_command.specs.declared.command.Command.{Command}
use Rattle.inst_command.specs.declared.command.Command.TheVariants.{Fund, Defund, Submit, Confirm}
use Rattle.inst_command.specs.declared.command.Command.TheVariants.{Reject, Investigate, Fetch}
use Rattle.inst_command.specs.declared.command.Command.TheVariants.{Query}
use Rattle.inst_command.specs.declared.step.Step.{Step}
use Rattle.inst_command.specs.declared.step.Step.TheVariants.{Ask, Deliver, Learn, Expire}
use Rattle.inst_journal.specs.declared.event.Event.{Event}
use Rattle.inst_journal.specs.Booked.{same_transfer, booked, is_taken}
use Rattle.inst_model.specs.Transfer.{Transfer, transfer, at_place, is_named}
use Rattle.inst_model.specs.Interleaving.{IsInterleaving}
use Rattle.inst_model.specs.Opening.{Opening, IsOpening, beginning}
use Rattle.inst_model.specs.Hub.{outcome, history}

-- A step on a transfer, without the name or place by which the step gives it.
pub data Touch : Type 0 where
  Delivers : Touch
  Confirms : (at : ℕ) → Touch
  Rejects : (reason : List ℕ) (at : ℕ) → Touch
  Investigates : (at : ℕ) → Touch
  Expires : (at : ℕ) → Touch

-- The ask, if it is on the transfer x with this identifier of the originator p.
abbrev pub ask_on : ℕ → Command → ℕ → ℕ → List ℕ → Transfer → List Touch
ask_on who (Confirm from other) at p id x =
    if same_transfer p id from other && (who == x.to) then Confirms at ∷ [] else []
ask_on who (Reject from other reason) at p id x =
    if same_transfer p id from other && (who == x.to) then Rejects reason at ∷ [] else []
ask_on who (Investigate other) at p id x =
    if same_transfer p id who other then Investigates at ∷ [] else []
ask_on who (Fund funding) at p id x = []
ask_on who (Defund funding) at p id x = []
ask_on who (Submit submission) at p id x = []
ask_on who (Fetch max) at p id x = []
ask_on who (Query query) at p id x = []

-- The step, if it is on that transfer.
abbrev pub step_on : (ℕ → List Event) → Step → ℕ → List ℕ → Transfer → List Touch
step_on J (Ask ask) p id x = ask_on ask.who ask.command ask.at p id x
step_on J (Deliver from index to) p id x =
    if (from == p) && (to == x.to) && is_named id (at_place p (J p) index) then Delivers ∷ []
    else []
step_on J (Learn who from index) p id x = []
step_on J (Expire who index at) p id x =
    if (who == p) && is_named id (at_place p (J p) index) then Expires at ∷ [] else []

-- The step, if the transfer was taken and the step is on it.
abbrev pub taken_on : (ℕ → List Event) → Step → ℕ → List ℕ → Option Transfer → List Touch
taken_on J step p id None = []
taken_on J step p id (Some x) = step_on J step p id x

-- The steps on the transfer with this identifier of the originator p after it was taken, oldest
-- first.
abbrev pub steps_on : HubSettings → Opening → List Step → ℕ → List ℕ → List Touch
steps_on s O [] p id = []
steps_on s O (step ∷ past) p id =
    steps_on s O past p id
    ++ taken_on (history s O past) step p id (transfer id (history s O past p))

-- The transfer is in neither beginning, or in both with the same terms and the same booked outcome
-- or none.
pub record BeginsAlike (O P : Opening) (p : ℕ) (id : List ℕ) : Type 0 where
  pub terms : transfer id (beginning O p) ≡ transfer id (beginning P p)
  pub outcome : booked p id (beginning O p) ≡ booked p id (beginning P p)

-- The steps without the deliveries.
abbrev pub undelivered : List Touch → List Touch
undelivered [] = []
undelivered (Delivers ∷ touches) = undelivered touches
undelivered (Confirms at ∷ touches) = Confirms at ∷ undelivered touches
undelivered (Rejects reason at ∷ touches) = Rejects reason at ∷ undelivered touches
undelivered (Investigates at ∷ touches) = Investigates at ∷ undelivered touches
undelivered (Expires at ∷ touches) = Expires at ∷ undelivered touches

-- The steps that count. For a transfer of the books, which is forwarded or decided, deliveries
-- don't.
abbrev pub decisive : Opening → ℕ → List ℕ → List Touch → List Touch
decisive O p id touches = if is_taken id (beginning O p) then undelivered touches else touches

-- The law: the same steps on a transfer with the same terms give the same outcome.
abbrev pub OutcomeIsLocal : Type 0
OutcomeIsLocal =
    (s : HubSettings) (O P : Opening) (L M : List Step) (p : ℕ) (id : List ℕ) (x : Transfer) →
    IsOpening s O → IsOpening s P → IsInterleaving s L → IsInterleaving s M → BeginsAlike O P p id →
    transfer id (history s O L p) ≡ Some x → transfer id (history s P M p) ≡ Some x →
    decisive O p id (steps_on s O L p id) ≡ decisive P p id (steps_on s P M p id) →
    outcome s O L p id ≡ outcome s P M p id
