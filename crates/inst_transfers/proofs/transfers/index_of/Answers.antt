use Rattle.std.specs.Prelude.{Err}
use Rattle.std.proofs.lemmas.List.Sorted.{searched}
use Rattle.inst_transfers.proofs.Rows.{not_there, rising_all}
use Rattle.inst_transfers.proofs.transfers.index_of.Goals as goal

pub returns-in-Err : goal.returns-in-Err
returns-in-Err c = λ k there.
    let ps = c.args.positions.now in
    let here = searched ps c.args.position (Err c.in-Err.field-0) c.in-Err.ensures.position (rising_all ps c.requires.rising) in
    not_there ps c.in-Err.field-0 k c.args.position here.1 here.2 there
