-- The commands, asks and steps that fit a hub, in numbers. A promise of this hub.
use Rattle.std.specs.Prelude.{◌≡◌, ◌↔◌, ℕ, ◌+◌, ◌<◌, ◌≤◌, true, List, length}
use Rattle.inst_settings.specs.Settings.{HubSettings}
use Rattle.inst_command.specs.declared.command.Command.TheVariants.{Fund, Defund, Submit, Confirm}
use Rattle.inst_command.specs.declared.command.Command.TheVariants.{Reject}
use Rattle.inst_command.specs.declared.command.Command.TheVariants.{Investigate, Fetch, Query}
use Rattle.inst_command.specs.declared.ask.Ask.{Ask}
use Rattle.inst_command.specs.declared.funding.Funding.{Funding}
use Rattle.inst_command.specs.declared.query.Query.TheVariants.{Position, Statement}
use Rattle.inst_command.specs.declared.count.TheConstants.{MOST_COUNT}
use Rattle.inst_command.specs.declared.step.Step.TheVariants.{Ask as AskStep, Deliver, Learn}
use Rattle.inst_command.specs.declared.step.Step.TheVariants.{Expire}
use Rattle.inst_command.specs.declared.submission.Submission.{Submission}
use Rattle.inst_command.specs.Ask.{command_fits, ask_fits}
use Rattle.inst_command.specs.Step.{step_fits}

-- A participant has this number.
abbrev pub IsNumbered : HubSettings → ℕ → Type 0
IsNumbered s number = number < length s.codes

-- A command may have this amount: 1 cent to the ceiling.
abbrev pub MayMove : HubSettings → ℕ → Type 0
MayMove s cents = (1 ≤ cents) × (cents ≤ s.ceiling)

-- A command may ask for this number of entries or lines: 1 to 100.
abbrev pub MayBeAskedFor : ℕ → Type 0
MayBeAskedFor count = (1 ≤ count) × (count ≤ MOST_COUNT)

-- The beneficiary is a participant, the amount is allowed, and the deadline is below 2^41.
abbrev pub MayBeSubmitted : HubSettings → Submission → Type 0
MayBeSubmitted s x = (IsNumbered s x.to × MayMove s x.cents) × (x.stamp + s.limit ≤ 2199023255551)

-- The commands that fit.
pub record CommandsFit (s : HubSettings) : Type 0 where
  pub fund : (funding : Funding) → (command_fits s (Fund funding) ≡ true) ↔ MayMove s funding.cents
  pub defund : (funding : Funding) → (command_fits s (Defund funding) ≡ true) ↔
      MayMove s funding.cents
  pub submit : (x : Submission) → (command_fits s (Submit x) ≡ true) ↔ MayBeSubmitted s x
  pub confirm : (from : ℕ) (id : List ℕ) → (command_fits s (Confirm from id) ≡ true) ↔
      IsNumbered s from
  pub reject : (from : ℕ) (id reason : List ℕ) → (command_fits s (Reject from id reason) ≡ true) ↔
      IsNumbered s from
  pub investigate : (id : List ℕ) → command_fits s (Investigate id) ≡ true
  pub fetch : (max : ℕ) → (command_fits s (Fetch max) ≡ true) ↔ MayBeAskedFor max
  pub position : command_fits s (Query Position) ≡ true
  pub statement : (skip count : ℕ) → (command_fits s (Query (Statement skip count)) ≡ true) ↔
      MayBeAskedFor count

-- The asks and steps that fit: any index and any clock reading.
pub record StepsFit (s : HubSettings) : Type 0 where
  pub ask : (a : Ask) → (ask_fits s a ≡ true) ↔
      (IsNumbered s a.who × (command_fits s a.command ≡ true))
  pub asked : (a : Ask) → step_fits s (AskStep a) ≡ ask_fits s a
  pub deliver : (from index to : ℕ) → (step_fits s (Deliver from index to) ≡ true) ↔
      (IsNumbered s from × IsNumbered s to)
  pub learn : (who from index : ℕ) → (step_fits s (Learn who from index) ≡ true) ↔
      (IsNumbered s who × IsNumbered s from)
  pub expire : (who index at : ℕ) → (step_fits s (Expire who index at) ≡ true) ↔ IsNumbered s who

-- The law: both for all settings.
abbrev pub WhatFits : Type 0
WhatFits = (s : HubSettings) → CommandsFit s × StepsFit s
