use Rattle.std.proofs.Common.{rules}
use Rattle.inst_row.proofs.HistoriesSeenBySeats.{meet_first, meet_second, meet_after}
use Rattle.inst_row.proofs.row.LockRow.meet.Goals as goal

pub returns-clause-one : goal.returns-clause-one
returns-clause-one g c =
    let one = c.args.one.now in
    let two = c.args.two.now in
    let second = meet_second one two c.join.new.seat c.split-part.result c.split-part.ensures.halves.told c.join.ensures.sees in record {
      on = c.join-2.ensures.on;
      free = search rules;
      parts = search rules;
      sees = meet_first one c.split-part.new.seat two c.join.new.seat c.split-part-2.result c.join-2.new.seat c.split-part.ensures.halves.seen c.split-part-2.ensures.halves.told second c.join-2.ensures.sees;
    }

pub returns-clause-two : goal.returns-clause-two
returns-clause-two g c =
    let one = c.args.one.now in
    let two = c.args.two.now in
    let second = meet_second one two c.join.new.seat c.split-part.result c.split-part.ensures.halves.told c.join.ensures.sees in record {
      on = search rules;
      free = search rules;
      parts = search rules;
      sees = meet_after one two c.join.new.seat c.split-part-2.new.seat c.split-part-2.ensures.halves.seen second;
    }
