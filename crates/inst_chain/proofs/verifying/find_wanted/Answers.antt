use Rattle.std.proofs.Common.{◌≡◌, true, false, ◌||◌, Bool, Option, ◌++◌, ◌∙◌, sym, ap}
use Rattle.inst_log.specs.Layout.{recovered_lines}
use Rattle.inst_chain.specs.Chain.{has_digest, has_wanted}
use Rattle.inst_chain.specs.declared.digest.Digest.{Digest}
use Rattle.inst_chain.proofs.LinesWithoutMarks.{has_digest-append}
use Rattle.inst_chain.proofs.verifying.find_wanted.Goals as goal

pub returns-then-found : goal.returns-then-found
returns-then-found c = λ done was.
    let lines = recovered_lines c.args.lines.now in
    let here : true ≡ has_digest c.in-Some.digest done = sym c.if-found.true ∙ was ∙ ap (λ (o : Option Digest). has_wanted o done) c.in-Some.is in
    c.if-found.true ∙ ap (λ (t : Bool). t || has_digest c.in-Some.digest lines) here ∙ sym (has_digest-append c.in-Some.digest done lines)
    ∙ ap (λ (o : Option Digest). has_wanted o (done ++ lines)) (sym c.in-Some.is)

pub returns-else-found : goal.returns-else-found
returns-else-found c = λ done was.
    let lines = recovered_lines c.args.lines.now in
    let here : false ≡ has_digest c.in-Some.digest done = sym c.if-found.false ∙ was ∙ ap (λ (o : Option Digest). has_wanted o done) c.in-Some.is in
    c.has_digest.ensures ∙ ap (λ (t : Bool). t || has_digest c.in-Some.digest lines) here ∙ sym (has_digest-append c.in-Some.digest done lines)
    ∙ ap (λ (o : Option Digest). has_wanted o (done ++ lines)) (sym c.in-Some.is)
