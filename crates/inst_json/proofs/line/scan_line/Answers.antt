use Rattle.std.proofs.Common.{sym}
use Rattle.std.proofs.lemmas.Str.{IsUtf8-from_ascii}
use Rattle.inst_json.proofs.LineAsJson.{json_of-value, json_of-none}
use Rattle.inst_json.proofs.line.scan_line.Goals as goal

pub returns-clause-plain : goal.returns-clause-plain
returns-clause-plain c = λ yes.
    let h = c.scan.ensures.value yes in
    let utf8 = IsUtf8-from_ascii _ (c.scan.ensures.ascii yes) in
    (h.0, sym (json_of-value _ h.0 utf8 h.1), h.2)

pub returns-clause-broken : goal.returns-clause-broken
returns-clause-broken c = λ yes. sym (json_of-none _ (λ utf8. c.scan.ensures.broken yes))
