use Rattle.inst_json.proofs.ReplyTextTellsReply.{text_tells}
use Rattle.inst_json.proofs.laws.a_text_tells_its_reply.Goals as goal

pub returns : goal.returns
returns c = text_tells
