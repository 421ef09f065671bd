use Rattle.std.proofs.Common.{◌∙◌}
use Rattle.std.proofs.lemmas.List.{take_rest}
use Rattle.inst_logged.proofs.AnswersToLogLines.{front_more}
use Rattle.inst_logged.proofs.line_answers.LineAnswers.answer_all.Goals as goal

pub loop-len-preserved : goal.loop-len-preserved
loop-len-preserved c =
    let i = c.loop-len.invariant in
    let old = c.args.self.now in
    rw take_rest (record {
      front = front_more old.mode c.loop-len.self.mode old.runner c.loop-len.self.runner c.answer_raw.new.self.runner c.args.out.now.items c.loop-len.out.items
          c.answer_raw.new.out.items c.args.lines.now c.loop-len.rest.now c.in-Some.len i.mode i.front c.in-Some.ensures c.in_ok-answer_raw.ensures.ok;
      mode = c.answer_raw.ensures.mode ∙ i.mode;
    })
