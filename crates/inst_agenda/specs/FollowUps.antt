-- The follow-ups of a line: each live transfer is delivered and learnt, or times out, at the line's
-- clock reading (EPC004-16, chapter 4: both participants are told one outcome; time-out deadline).
-- Follow-ups after each line, and their order, are a choice of this hub.
use Rattle.std.specs.Prelude.{ℕ, zero, suc, List, [], ◌∷◌, ◌++◌, reverse}
use Rattle.inst_settings.specs.Settings.{HubSettings, participants}
use Rattle.inst_command.specs.declared.step.Step.{Step}
use Rattle.inst_command.specs.declared.step.Step.TheVariants.{Deliver, Learn, Expire}
use Rattle.inst_model.specs.Opening.{Opening}
use Rattle.inst_model.specs.Transfer.{Transfer, live_transfers}
use Rattle.inst_model.specs.Hub.{history}

-- The transfer at this place of originator p is delivered to its beneficiary, p learns it and lets
-- it expire at this clock reading, and the beneficiary learns it.
abbrev pub of_transfer : ℕ → ℕ → ℕ → ℕ → List Step
of_transfer at p index to =
    Deliver p index to ∷ (Learn p p index ∷ (Expire p index at ∷ (Learn to p index ∷ [])))

-- The same for these transfers of originator p, in order, the first at this place.
abbrev pub of_transfers : ℕ → ℕ → ℕ → List Transfer → List Step
of_transfers at p index [] = []
of_transfers at p index (x ∷ xs) = of_transfer at p index x.to ++ of_transfers at p (suc index) xs

-- The same for the transfers of the first n originators, in order of their numbers.
abbrev pub steps_of_originators : ℕ → (ℕ → List Transfer) → ℕ → List Step
steps_of_originators at transfers zero = []
steps_of_originators at transfers (suc p) =
    steps_of_originators at transfers p ++ of_transfers at p 0 (transfers p)

-- The follow-ups at this clock reading after these steps, for each live transfer.
abbrev pub follow_ups : HubSettings → Opening → List Step → ℕ → List Step
follow_ups s O L at = steps_of_originators at (λ p. live_transfers p (history s O L p))
    (participants s)

-- These steps, newest first, with the follow-ups after them.
abbrev pub followed_up : HubSettings → Opening → List Step → ℕ → List Step
followed_up s O L at = reverse (follow_ups s O L at) ++ L
