-- What a handle has behind a call.
use Rattle.std.proofs.Common.{◌≡◌, ℕ, false, List, [], length, Option, Some, None, is_some, refl, inl, subst, sym}
use Rattle.std.proofs.lemmas.Bool.{true≢false}
use Rattle.inst_settings.specs.Settings.{HubSettings}
use Rattle.inst_lines.specs.declared.mode.Mode.{Mode}
use Rattle.inst_lines.specs.Answers.{AnswersLine}
use Rattle.inst_lines.specs.Answering.{hub_answerer, IsRunnerAt}
use Rattle.inst_c.specs.declared.line_hub.LineHub.{LineHub}
use Rattle.inst_c.specs.declared.calls.Told.{Told}
use Rattle.inst_c.specs.LineHub.{HasFirstOpened}
use Rattle.inst_settings.specs.Lawful.{AreOfAHub}
use Rattle.inst_c.specs.Calls.{OpensHub, Answers}

-- a hub has opened where none was open
pub has_opened : (s : HubSettings) (mode : Mode) (old new : Option LineHub) (hub : LineHub) → is_some old ≡ false → new ≡ Some hub → HasFirstOpened mode s hub → AreOfAHub s → OpensHub s mode old new 0
has_opened s mode None new hub none is opened good = inl (refl, record { hub = hub; is = is; opened = opened; good = good })
has_opened s mode (Some other) new hub none is opened good = absurd (true≢false none)

-- the hub that was open has answered
pub has_answered : (line : List ℕ) (old new : Option LineHub) (before after : LineHub) (first told : Told) → old ≡ Some before → new ≡ Some after → after.mode ≡ before.mode →
    AnswersLine (hub_answerer before.mode) (IsRunnerAt before.mode) false line before.runner after.runner [] after.reply.items told.is_refused → told.length ≡ length after.reply.items →
    Answers line old new first told 0
has_answered line old new before after first told was is mode answers length_is =
    subst (λ (held : Option LineHub). Answers line held new first told 0) (sym was) (inl (refl, record { hub = after; is = is; mode_is = mode; answers = answers; length_is = length_is }))
