use Rattle.std.proofs.Common.{◌≡◌, Err, inr, true≢false, sym, subst, ◌∙◌}
use Rattle.serde_json.specs.Errors.{IsMemory}
use Rattle.std.proofs.lemmas.Bool.{false≢true}
use Rattle.inst_base.specs.declared.fault.Fault.TheVariants.{NotJson}
use Rattle.inst_json.specs.Lines.{json_of}
use Rattle.inst_json.proofs.LineAsJson.{json_of-value, json_of-none, json_of-no_document}
use Rattle.inst_json.proofs.read.LineReader.json_of.Goals as goal

pub returns-in-Ok-from_slice : goal.returns-in-Ok-from_slice
returns-in-Ok-from_slice c = json_of-value _ _ c.in-Ok-from_slice.ensures.ok.0 c.in-Ok-from_slice.ensures.ok.1

pub returns-in-Err-2 : goal.returns-in-Err-2
returns-in-Err-2 c =
    let other = λ (memory : IsMemory c.in-Err.error). true≢false (sym (c.is_memory.ensures.1 memory) ∙ c.if-is_memory.false) in
    inr (json_of-none _ (c.in-Err.ensures.err other))

pub returns-in_default : goal.returns-in_default
returns-in_default c = inr (json_of-none _ (λ utf8. absurd (c.in_default.ensures.cases.0 utf8)))

pub returns-then-not-branch : goal.returns-then-not-branch
returns-then-not-branch c =
    let none = json_of-no_document c.in-Ok.text.now (λ some. false≢true (sym c.if-not-branch.true ∙ c.in_ok-is_json.ensures.1 some)) in
    inr (subst (λ text. Err NotJson ≡ json_of text) c.in-Ok.ensures.cases.0 none)
