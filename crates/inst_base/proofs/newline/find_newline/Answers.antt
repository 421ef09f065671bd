use Rattle.inst_base.proofs.LineEndBySearch.{breaks_from_search}
use Rattle.inst_base.proofs.newline.find_newline.Goals as goal

pub returns : goal.returns
returns c = breaks_from_search c.args.bytes.now c.memchr.result c.memchr.ensures
