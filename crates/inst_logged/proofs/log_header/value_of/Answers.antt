use Rattle.std.proofs.Common.{true≢false, sym, ◌∙◌}
use Rattle.serde_json.specs.Errors.{IsMemory}
use Rattle.inst_json.proofs.LineAsJson.{json_of-value, json_of-none}
use Rattle.inst_logged.proofs.log_header.value_of.Goals as goal

pub returns-in-Ok : goal.returns-in-Ok
returns-in-Ok c = json_of-value _ _ c.in-Ok.ensures.ok.0 c.in-Ok.ensures.ok.1

pub returns-in-Err-2 : goal.returns-in-Err-2
returns-in-Err-2 c =
    let other = λ (memory : IsMemory c.in-Err.error). true≢false (sym (c.is_memory.ensures.1 memory) ∙ c.if-is_memory.false) in
    json_of-none _ (c.in-Err.ensures.err other)
