use Rattle.std.proofs.Common.{◌≡◌, ◌∙◌, sym, []}
use Rattle.std.proofs.lemmas.Result.{on_ok_weaker}
use Rattle.inst_log.specs.Layout.{recovered_lines}
use Rattle.inst_chain.proofs.BatchBehindChain.{next_sealed}
use Rattle.inst_logged.proofs.MarksStayRight.{none_sealed, empty_of, on_ok_both}
use Rattle.inst_logged.proofs.marking.mark_some.Goals as goal

pub returns-then-is_empty-clause-intact : goal.returns-then-is_empty-clause-intact
returns-then-is_empty-clause-intact c = λ plain file new s lines shut.
    let none : c.args.batch.now.items ≡ [] = empty_of c.args.batch.now.items _ c.args.batch.now.ok.0 (sym c.is_empty.ensures ∙ c.if-is_empty.true) in
    none_sealed file new c.args.marker.now c.args.batch.now.items none s lines shut

pub returns-clause-intact : goal.returns-clause-intact
returns-clause-intact c =
    on_ok_weaker c.mark_lines.result
    (λ m plain file new s lines shut.
    next_sealed file c.args.marker.now c.mark_lines.new.marker s c.args.batch.now.items (recovered_lines c.mark_lines.new.batch.items) c.requires plain m new lines shut)
    (on_ok_both c.mark_lines.result _ _ c.mark_lines.ensures.lines c.mark_lines.ensures.digests)
