use Rattle.std.proofs.Common.{◌≡◌, ◌∙◌, Ok, sym, ap, subst}
use Rattle.inst_command.specs.declared.command.Command.TheVariants.{Query}
use Rattle.inst_command.specs.declared.reply.Reply.{Reply}
use Rattle.inst_command.specs.declared.reply.Reply.TheVariants.{Position as PositionReply}
use Rattle.inst_journal.specs.Money.{position, reserved, available}
use Rattle.inst_slot.specs.inner.Entering.{EntersAlone}
use Rattle.inst_slot.specs.Book.{Book}
use Rattle.inst_slot.proofs.CommandsThatDecideNothing.{position_alone}
use Rattle.inst_slot.proofs.slot.Slot.answer_query.Goals as goal

pub returns-in-Position : goal.returns-in-Position
returns-in-Position c =
    let book : Book = c.args.self.now in
    let told : c.position_reply.result ≡ PositionReply (position book.events) (reserved book.events) (available book.events) = c.position_reply.ensures
    ∙ ap (λ (x : Book). PositionReply (position x.events) (reserved x.events) (available x.events)) c.self.view_is in
    subst (λ (r : Reply). EntersAlone book c.args.ask.now (Ok r) book) (sym told) (position_alone book c.args.ask.now (c.requires.query ∙ ap Query c.in-Position.is))
