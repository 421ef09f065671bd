use Rattle.std.proofs.Common.{refl}
use Rattle.inst_board.specs.Standing.{look_of}
use Rattle.inst_cell.proofs.KnowledgeAfterStep.{looks_as, knew_before, seen_only, glance_unused, glance_pending, glance_decided}
use Rattle.inst_cell.proofs.shared_board.board.SharedBoardBoard.place_state.Goals as goal

pub returns-in-Unused-clause-look : goal.returns-in-Unused-clause-look
returns-in-Unused-clause-look c =
    let l = c.load-word.ensures in
    let s = l.shows in
    let before = knew_before _ _ _ _ s in
    let word = c.read_word.ensures _ s.standing s.showable s.is in
    let look = look_of s.standing in
    (look, looks_as c.args.self.now c.args.place c.requires.terms.1.0 s.standing s.agrees c.load-word.new.self l.stays.settings (seen_only _ _ _ _ s) s.showable before.0 before.1 before.2 look refl, glance_unused s.standing _ word c.in-Unused.is)

pub returns-in-Pending-clause-look : goal.returns-in-Pending-clause-look
returns-in-Pending-clause-look c =
    let l = c.load-word.ensures in
    let s = l.shows in
    let before = knew_before _ _ _ _ s in
    let word = c.read_word.ensures _ s.standing s.showable s.is in
    let look = look_of s.standing in
    (look, looks_as c.args.self.now c.args.place c.requires.terms.1.0 s.standing s.agrees c.load-word.new.self l.stays.settings (seen_only _ _ _ _ s) s.showable before.0 before.1 before.2 look refl, glance_pending s.standing _ c.in-Pending.deadline word c.in-Pending.is)

pub returns-in-Decided-clause-look : goal.returns-in-Decided-clause-look
returns-in-Decided-clause-look c =
    let l = c.load-word.ensures in
    let s = l.shows in
    let before = knew_before _ _ _ _ s in
    let word = c.read_word.ensures _ s.standing s.showable s.is in
    let look = look_of s.standing in
    (look, looks_as c.args.self.now c.args.place c.requires.terms.1.0 s.standing s.agrees c.load-word.new.self l.stays.settings (seen_only _ _ _ _ s) s.showable before.0 before.1 before.2 look refl, glance_decided s.standing _ c.in-Decided.outcome c.in-Decided.field-1 word c.in-Decided.is)
