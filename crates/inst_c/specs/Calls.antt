-- What the calls for C do to the hub of a handle, and their statuses. A choice of this hub.
use Rattle.std.specs.Prelude.{◌≡◌, ◌⊎◌, ◌<◌, ◌≤◌, ℕ, false, List, [], ◌++◌, length, drop, Option}
use Rattle.std.specs.Prelude.{Some, None}
use Rattle.inst_base.specs.Fault.{number_of}
use Rattle.inst_base.specs.declared.fault.Fault.TheVariants.{BadSettings, Memory}
use Rattle.inst_settings.specs.Settings.{HubSettings}
use Rattle.inst_settings.specs.Lawful.{AreOfAHub}
use Rattle.inst_lines.specs.declared.mode.Mode.{Mode}
use Rattle.inst_lines.specs.Answers.{AnswersLine}
use Rattle.inst_lines.specs.Answering.{hub_answerer, IsRunnerAt}
use Rattle.inst_c.specs.declared.line_hub.LineHub.{LineHub}
use Rattle.inst_c.specs.declared.calls.Told.{Told}
use Rattle.inst_c.specs.declared.status.TheConstants.{DONE, CLOSED, STILL_OPEN, SHORT}
use Rattle.inst_c.specs.LineHub.{HasFirstOpened}

-- A hub of these settings has opened.
pub record HasOpenedOf (s : HubSettings) (mode : Mode) (new : Option LineHub) : Type 0 where
  pub hub : LineHub
  pub is : new ≡ Some hub
  pub opened : HasFirstOpened mode s hub
  pub good : AreOfAHub s

-- A hub is opened if none is open, a hub can have the settings, and no allocation fails.
abbrev pub OpensHub : HubSettings → Mode → Option LineHub → Option LineHub → ℕ → Type 0
OpensHub s mode (Some hub) new status = (status ≡ STILL_OPEN) × (new ≡ Some hub)
OpensHub s mode None new status =
    ((status ≡ DONE) × HasOpenedOf s mode new)
    ⊎ (((status ≡ number_of Memory) × (new ≡ None))
    ⊎ ((status ≡ number_of BadSettings) × ((new ≡ None) × ¬ (AreOfAHub s))))

-- The hub has answered the line as the model does, by its past.
pub record HasAnswered (line : List ℕ) (old : LineHub) (new : Option LineHub) (told : Told) : Type 0
  where
    pub hub : LineHub
    pub is : new ≡ Some hub
    pub mode_is : hub.mode ≡ old.mode
    pub answers : AnswersLine (hub_answerer old.mode) (IsRunnerAt old.mode) false line old.runner
        hub.runner
        [] hub.reply.items told.is_refused
    pub length_is : told.length ≡ length hub.reply.items

-- An open hub answers the line; after an allocation failure it is closed.
abbrev pub Answers : List ℕ → Option LineHub → Option LineHub → Told → Told → ℕ → Type 0
Answers line None new was told status = (status ≡ CLOSED) × ((new ≡ None) × (told ≡ was))
Answers line (Some hub) new was told status =
    ((status ≡ DONE) × HasAnswered line hub new told)
    ⊎ ((status ≡ number_of Memory) × ((new ≡ None) × (told ≡ was)))

-- The bytes are copied to the beginning of the buffer; nothing is copied if it is too small.
abbrev pub CopiesBytes : List ℕ → List ℕ → List ℕ → ℕ → Type 0
CopiesBytes bytes old new status =
    ((status ≡ DONE) × ((length bytes ≤ length old) × (new ≡ bytes ++ drop (length bytes) old)))
    ⊎ ((status ≡ SHORT) × ((length old < length bytes) × (new ≡ old)))

-- The open hub's last reply is copied in this way.
abbrev pub Copies : Option LineHub → List ℕ → List ℕ → ℕ → Type 0
Copies None old new status = (status ≡ CLOSED) × (new ≡ old)
Copies (Some hub) old new status = CopiesBytes hub.reply.items old new status
