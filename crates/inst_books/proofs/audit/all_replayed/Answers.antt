use Rattle.std.proofs.Common.{ap, length, length-append, ◌∷◌, [], arith}
use Rattle.std.proofs.lemmas.Grind.{elements}
use Rattle.inst_books.proofs.ReplayedJournals.{one_kept}
use Rattle.inst_books.proofs.audit.all_replayed.Goals as goal

pub loop-who-preserved : goal.loop-who-preserved
loop-who-preserved c =
    let kept = c.in_ok-ledger.ensures in
    let pushed = c.in_ok-push-in-Some.ensures in
    record {
      count = omega (arith, ap length pushed.items, length-append c.loop-who.ledgers.items (c.in-Some.ledger ∷ []), c.loop-who.invariant.count);
      kept =
          one_kept c.args.settings.now c.args.journals.now c.loop-who.ledgers.items c.push.new.self.items c.in-Some.ledger c.index-journals-who.result c.in_ok-ledger.field-0 c.loop-who.who
          c.loop-who.invariant.count c.loop-who-test.true c.index-journals-who.is c.in-Some.is kept.can kept.same pushed.items c.loop-who.invariant.kept;
    }

pub returns-in-None-clause-can : goal.returns-in-None-clause-can
returns-in-None-clause-can c = grind (arith, elements)
