use Rattle.std.proofs.Common.{subst}
use Rattle.inst_board.specs.declared.about.About.TheVariants.{Opened, Decided}
use Rattle.inst_command.specs.declared.place.Place.{Place}
use Rattle.inst_board.specs.Learning.{Looks}
use Rattle.inst_cell.specs.Held.{settings_of, knows, has_role, stood}
use Rattle.inst_cell.specs.Seen.{board_of_sight}
use Rattle.inst_cell.proofs.StateShownByLook.{unused_says, pending_says, decided_says, pending_state, decided_state, decided_shown}
use Rattle.inst_cell.proofs.sight.Sight.peek.Goals as goal

pub returns-in-Unused-clause-opened : goal.returns-in-Unused-clause-opened
returns-in-Unused-clause-opened c = λ h e.
    let b = board_of_sight c.args.self.now in
    let l = subst (λ (k : Place). Looks (settings_of b).margin knows has_role stood b k c.look.result c.look.new.self) c.place.ensures c.look.ensures.look in
    unused_says l.standing c.look.result Opened l.look_is c.in-Unused.is (l.learns.agrees Opened h)

pub returns-in-Unused-clause-outcome : goal.returns-in-Unused-clause-outcome
returns-in-Unused-clause-outcome c = λ o h.
    let b = board_of_sight c.args.self.now in
    let l = subst (λ (k : Place). Looks (settings_of b).margin knows has_role stood b k c.look.result c.look.new.self) c.place.ensures c.look.ensures.look in
    absurd (unused_says l.standing c.look.result (Decided o) l.look_is c.in-Unused.is (l.learns.agrees (Decided o) h))

pub returns-in-Pending-clause-peek : goal.returns-in-Pending-clause-peek
returns-in-Pending-clause-peek c =
    let b = board_of_sight c.args.self.now in
    let l = subst (λ (k : Place). Looks (settings_of b).margin knows has_role stood b k c.look.result c.look.new.self) c.place.ensures c.look.ensures.look in (
      l.standing,
      record {
        lawful = l.learns.lawful;
        agrees = λ a h. l.learns.agrees a h;
        kept = λ f h. l.learns.kept f h;
        shown = λ a h. l.learns.shown a h;
        only = λ f h. l.learns.only f h;
      },
      pending_state l.standing c.look.result _ _ l.look_is c.in-Pending.is,
    )

pub returns-in-Pending-clause-outcome : goal.returns-in-Pending-clause-outcome
returns-in-Pending-clause-outcome c = λ o h.
    let b = board_of_sight c.args.self.now in
    let l = subst (λ (k : Place). Looks (settings_of b).margin knows has_role stood b k c.look.result c.look.new.self) c.place.ensures c.look.ensures.look in
    absurd (pending_says l.standing c.look.result _ _ o l.look_is c.in-Pending.is (l.learns.agrees (Decided o) h))

pub returns-in-Decided-clause-peek : goal.returns-in-Decided-clause-peek
returns-in-Decided-clause-peek c =
    let b = board_of_sight c.args.self.now in
    let l = subst (λ (k : Place). Looks (settings_of b).margin knows has_role stood b k c.look.result c.look.new.self) c.place.ensures c.look.ensures.look in (
      l.standing,
      record {
        lawful = l.learns.lawful;
        agrees = λ a h. l.learns.agrees a h;
        kept = λ f h. l.learns.kept f h;
        shown = λ a h. l.learns.shown a h;
        only = λ f h. l.learns.only f h;
      },
      decided_state l.standing c.look.result _ _ l.look_is c.in-Decided.is,
    )

pub returns-in-Decided-clause-outcome : goal.returns-in-Decided-clause-outcome
returns-in-Decided-clause-outcome c = λ o h.
    let b = board_of_sight c.args.self.now in
    let l = subst (λ (k : Place). Looks (settings_of b).margin knows has_role stood b k c.look.result c.look.new.self) c.place.ensures c.look.ensures.look in
    decided_says l.standing c.look.result _ _ o l.look_is c.in-Decided.is (l.learns.agrees (Decided o) h)

pub returns-in-Decided-clause-shown : goal.returns-in-Decided-clause-shown
returns-in-Decided-clause-shown c = λ o e.
    let b = board_of_sight c.args.self.now in
    let l = subst (λ (k : Place). Looks (settings_of b).margin knows has_role stood b k c.look.result c.look.new.self) c.place.ensures c.look.ensures.look in
    l.learns.shown (Decided o) (decided_shown l.standing c.look.result _ _ o l.look_is c.in-Decided.is e)
