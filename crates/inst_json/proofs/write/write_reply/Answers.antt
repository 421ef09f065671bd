use Rattle.std.proofs.Common.{ap, ◌∙◌, rules}
use Rattle.serde_json.specs.Read.{read}
use Rattle.inst_json.proofs.ReplyReadsBack.{words_read_back}
use Rattle.inst_json.proofs.write.write_reply.Goals as goal

pub returns-clause-text : goal.returns-clause-text
returns-clause-text c = search rules

pub returns-clause-reads_back : goal.returns-clause-reads_back
returns-clause-reads_back c =
    ap read (returns-clause-text c) ∙ words_read_back c.args.settings.now c.args.reply.now c.in_ok-append_reply.ensures.words
