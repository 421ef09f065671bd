use Rattle.std.proofs.Common.{Some, ap, sym, ◌∙◌}
use Rattle.std.specs.Vec.{vec_len}
use Rattle.inst_c.specs.declared.line_hub.LineHub.{LineHub}
use Rattle.inst_c.proofs.HandleAfterCall.{has_answered}
use Rattle.inst_c.proofs.calls.inst_answer.Goals as goal

pub returns : goal.returns
returns c =
    has_answered c.args.line.now c.args.handle.now.held.hub c.put.new.self.held.hub c.deref_mut.result.now c.answer.new.self c.args.told.now _ (c.in-Some.ensures.taken ∙ ap Some (sym c.deref_mut.ensures.value))
    c.put.ensures c.in-Ok.ensures.mode c.in-Ok.ensures.answers (c.len.ensures ∙ ap (λ (hub : LineHub). vec_len hub.reply) c.deref.ensures ∙ c.answer.new.self.reply.ok.0)
