use Rattle.std.proofs.Common.{◌∙◌, ◌++◌, append-nil, List, Option, sym, ap}
use Rattle.inst_journal.specs.declared.event.Event.{Event}
use Rattle.inst_journal.specs.Reply.{kept_event}
use Rattle.inst_slot.specs.Book.{Book}
use Rattle.inst_slot.proofs.CommandsThatDecideNothing.{handled_as, kept_apart, alone_as}
use Rattle.inst_slot.proofs.BoardStaysLawful.{with_events}
use Rattle.inst_slot.proofs.slot.Slot.enter_alone.Goals.{in-Some+in_ok-keep, in_default}
use Rattle.inst_slot.proofs.slot.Slot.enter_alone.Goals as goal

pub keep-requires-clause-apart : goal.keep-requires-clause-apart
keep-requires-clause-apart c =
    let h = c.in_ok-reply.field-0 in
    kept_apart c.args.self.now c.args.ask.now h c.requires.other (handled_as c.args.self.now c.args.ask.now h c.in_ok-reply.ensures.reply) c.in-Some.event c.in-Some.is

pub returns : goal.returns
returns c =
    let book : Book = c.args.self.now in
    let h = c.in_ok-reply.field-0 in
    let handled = handled_as book c.args.ask.now h c.in_ok-reply.ensures.reply in
    alone_as book c.args.ask.now h c.requires.other handled c.match-kept.self (elim c.match-kept.branch [
      | in-Some+in_ok-keep w ↦ w.self-is ∙ w.in_ok-keep.ensures.ok ∙ ap (λ (o : Option Event). with_events book (book.events ++ kept_event o)) (sym w.in-Some.is)
      | in_default w ↦ w.self-is ∙ sym (ap (λ (o : Option Event). with_events book (book.events ++ kept_event o)) w.in_default.is ∙ ap (λ (J : List Event). with_events book J) (append-nil book.events))
    ])
