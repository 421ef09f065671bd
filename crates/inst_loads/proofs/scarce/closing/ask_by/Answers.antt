use Rattle.std.proofs.Common.{arith}
use Rattle.inst_loads.proofs.Tellers.{set_teller}
use Rattle.inst_loads.proofs.scarce.closing.ask_by.Goals as goal

pub returns : goal.returns
returns g c = set_teller c.args.hub.now c.args.tellers.now.items c.args.index c.index_mut.result.now c.ask_and_compare.new.teller c.requires
    (omega (arith, c.if-index-len.false, c.len.ensures)) c.index_mut.ensures.value c.ask_and_compare.ensures.of c.ask_and_compare.ensures.knows
