use Rattle.std.proofs.Common.{rules}
use Rattle.inst_json.proofs.reply.append_reply.Goals as goal

pub returns-in-Taken-clause-text : goal.returns-in-Taken-clause-text
returns-in-Taken-clause-text c = search rules

pub returns-in-Taken-clause-words : goal.returns-in-Taken-clause-words
returns-in-Taken-clause-words c = search rules
