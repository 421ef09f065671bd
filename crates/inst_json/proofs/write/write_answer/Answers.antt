use Rattle.std.proofs.Common.{ap, ◌∙◌, rules}
use Rattle.serde_json.specs.Read.{read}
use Rattle.inst_json.proofs.ReplyReadsBack.{answer_reads_back}
use Rattle.inst_json.proofs.write.write_answer.Goals as goal

pub returns-clause-text : goal.returns-clause-text
returns-clause-text c = search rules

pub returns-clause-reads_back : goal.returns-clause-reads_back
returns-clause-reads_back c =
    ap read (returns-clause-text c) ∙ answer_reads_back c.args.settings.now c.args.answer.now c.in_ok-append_answer.ensures.words
