use Rattle.std.proofs.Common.{arith}
use Rattle.std.proofs.lemmas.Bool.Decides.{nat_tests}
use Rattle.inst_agenda.proofs.Agendas.{none_later}
use Rattle.inst_agenda.proofs.agenda.is_last.Goals as goal

pub returns-in-Some : goal.returns-in-Some
returns-in-Some c = λ yes.
    let row = c.args.row.now in
    let le = c.le.ensures in
    none_later row.items row.len c.args.moment c.in-Some.last.now c.requires row.ok.0 c.in-Some.ensures.lookup (grind (arith, nat_tests, le, yes))
