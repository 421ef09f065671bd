use Rattle.std.proofs.Common.{◌≡◌, take}
use Rattle.inst_program.specs.Script.{script_of}
use Rattle.inst_program.proofs.drilling.script_text.Given as goal

abbrev pub invariant-loop-step : goal.invariant-loop-step
invariant-loop-step l = l.text.items ≡ script_of l.settings (take l.step-index l.steps)
