-- Sums over all participants, and the untold money: accepted, but not yet booked by the originator,
-- so still reserved there. A choice of this hub.
use Rattle.std.specs.Prelude.{ℕ, zero, suc, ◌+◌, ℤ, pos, ◌+ℤ◌, List, Option, Some, None, sum_by}
use Rattle.inst_settings.specs.Settings.{HubSettings, participants}
use Rattle.inst_command.specs.declared.outcome.Outcome.{Outcome}
use Rattle.inst_command.specs.declared.step.Step.{Step}
use Rattle.inst_journal.specs.Booked.{booked}
use Rattle.inst_model.specs.Opening.{Opening}
use Rattle.inst_journal.specs.Sums.{if_accepted}
use Rattle.inst_model.specs.Transfer.{transfers}
use Rattle.inst_model.specs.Hub.{outcome, history}

-- The sum of f over the numbers below n.
abbrev pub sum_below : ℕ → (ℕ → ℕ) → ℕ
sum_below zero f = 0
sum_below (suc n) f = sum_below n f + f n

-- The same with signed numbers.
abbrev pub signed_sum_below : ℕ → (ℕ → ℤ) → ℤ
signed_sum_below zero f = pos 0
signed_sum_below (suc n) f = signed_sum_below n f +ℤ f n

-- The sum over all participants.
abbrev pub sum_over_participants : HubSettings → (ℕ → ℕ) → ℕ
sum_over_participants s f = sum_below (participants s) f

-- The same with signed numbers.
abbrev pub signed_total : HubSettings → (ℕ → ℤ) → ℤ
signed_total s f = signed_sum_below (participants s) f

-- The amount if the outcome is Accepted and not booked, else 0.
abbrev pub if_untold : Option Outcome → Option Outcome → ℕ → ℕ
if_untold outcome None cents = if_accepted outcome cents
if_untold outcome (Some before) cents = 0

-- The sum of the accepted transfers of the originator p that it hasn't booked.
abbrev pub untold_by : HubSettings → Opening → List Step → ℕ → ℕ
untold_by s O L p =
    sum_by (λ x.
    if_untold (outcome s O L p x.id) (booked p x.id (history s O L p)) x.cents)
    (transfers (history s O L p))

-- The untold money of all participants.
abbrev pub untold : HubSettings → Opening → List Step → ℕ
untold s O L = sum_over_participants s (untold_by s O L)
