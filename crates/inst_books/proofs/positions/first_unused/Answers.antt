use Rattle.std.proofs.Common.{◌≡◌, ◌∙◌, ℕ, ◌+◌, ◌≤◌, true, take, take_all, length, sym, ap, arith}
use Rattle.std.specs.List.{list_all}
use Rattle.inst_ledger.proofs.HistoryEventByEvent.{one_more}
use Rattle.inst_books.specs.Positions.{is_before_base}
use Rattle.inst_books.proofs.CarriedPositions.{later_base, later_event, stamped_more}
use Rattle.inst_books.proofs.positions.first_unused.Goals as goal
use Rattle.inst_books.proofs.positions.first_unused.Goals.{then-unused-least, else-unused-least}

step : (c : goal.Joined-unused-least) (n : ℕ) → c.loop-event.least ≤ n → c.after_stamp-unused.result ≤ n → (base : ℕ)
    → list_all (is_before_base base (base + n)) (take (c.loop-event.event-index + 1) c.args.journal.now.events) ≡ true
step c n more here base =
    let J = c.args.journal.now.events in
    let i = c.loop-event.event-index in
    let next = one_more J c.events-event-items.result.now i c.event-item.result c.events-event-items.ensures c.loop-event-test.true c.event-item.is in
    ap (list_all (is_before_base base (base + n))) next
    ∙ stamped_more base (base + n) (take i J) c.event-item.result
    (later_base base (base + c.loop-event.least) (base + n) (take i J) (omega (arith, more)) (c.loop-event.invariant.stamps base))
    (later_event base (base + c.after_stamp-unused.result) (base + n) c.event-item.result (omega (arith, here)) (c.after_stamp-unused.ensures.stamp base))

pub loop-event-preserved : goal.loop-event-preserved
loop-event-preserved c = record {
  stamps = step c c.if-unused-least.least
      (elim c.if-unused-least.branch [ then-unused-least w ↦ omega (arith, w.least-is, w.if-unused-least.true) | else-unused-least w ↦ omega (arith, w.least-is, w.if-unused-least.false) ])
      (elim c.if-unused-least.branch [ then-unused-least w ↦ omega (arith, w.least-is, w.if-unused-least.true) | else-unused-least w ↦ omega (arith, w.least-is, w.if-unused-least.false) ]);
  within = elim c.if-unused-least.branch [
    | then-unused-least w ↦ omega (arith, w.least-is, c.after_stamp-unused.ensures.within)
    | else-unused-least w ↦ omega (arith, w.least-is, c.loop-event.invariant.within)
  ];
}

pub returns-clause-stamps : goal.returns-clause-stamps
returns-clause-stamps c base =
    let J = c.args.journal.now.events in
    let all : take c.loop-event.event-index J ≡ J = take_all c.loop-event.event-index J (omega (arith, ap length c.events-event-items.ensures, c.loop-event-test.false)) in
    sym (ap (list_all (is_before_base base (base + c.loop-event.least))) all) ∙ c.loop-event.invariant.stamps base
