use Rattle.std.proofs.Common.{◌∙◌, ap}
use Rattle.std.specs.Prelude.{position}
use Rattle.inst_journal.specs.Booked.{takes}
use Rattle.inst_journal.specs.Opened.{live_taken}
use Rattle.inst_slot.specs.Book.{Book}
use Rattle.inst_ledger.specs.Right.{own_ids}
use Rattle.inst_slot.proofs.OwnIds.{own_index_is, own_position}
use Rattle.inst_slot.proofs.slot.Slot.own_index.Goals as goal

pub returns : goal.returns
returns c =
    let id = c.args.id.now in
    let kept = c.self.inside.ledger.book in
    own_index_is id (own_ids kept.who kept.events) c.own_index.result c.own_index.ensures.at c.own_index.ensures.only ∙ own_position kept.who kept.events id
    ∙ ap (λ (x : Book). position (takes id) (live_taken x.who x.events)) c.self.view_is
