use Rattle.std.proofs.Common.{◌≡◌, Some, sym, ap, ◌∙◌}
use Rattle.std.specs.Prelude.{slice_get}
use Rattle.std.proofs.lemmas.Option.{slice_get-get_or}
use Rattle.inst_board.specs.Plain.{Contents, plain_knows}
use Rattle.inst_slot.specs.Book.{Book}
use Rattle.inst_fixtures.proofs.SlotsOverOneBoard.{one_acted}
use Rattle.inst_fixtures.proofs.slots.Slots.act.Goals as goal

pub act_of-requires-clause-own : goal.act_of-requires-clause-own
act_of-requires-clause-own c =
    let books = c.self.inside.slots.items in
    let item = c.in-Some.ensures.item in
    let there : slice_get books c.from.result ≡ Some c.in-Some.slot.now = slice_get-get_or books c.from.result c.in-Some.slot.now item.3.0 ∙ ap (λ (b : Book). Some b) (sym item.1) in
    let stands = c.self.invariant c.from.result c.in-Some.slot.now there in
    (stands.2, stands.1 ∙ c.from.ensures)

pub act_of-requires-clause-lawful : goal.act_of-requires-clause-lawful
act_of-requires-clause-lawful c =
    let books = c.self.inside.slots.items in
    let item = c.in-Some.ensures.item in
    let there : slice_get books c.from.result ≡ Some c.in-Some.slot.now = slice_get-get_or books c.from.result c.in-Some.slot.now item.3.0 ∙ ap (λ (b : Book). Some b) (sym item.1) in
    (c.self.invariant c.from.result c.in-Some.slot.now there).0

pub invariant_of-self : goal.invariant_of-self
invariant_of-self c =
    let books = c.self.inside.slots.items in
    let item = c.in-Some.ensures.item in
    let there : slice_get books c.from.result ≡ Some c.in-Some.slot.now = slice_get-get_or books c.from.result c.in-Some.slot.now item.3.0 ∙ ap (λ (b : Book). Some b) (sym item.1) in
    one_acted (λ (b : Contents). b.settings) plain_knows (λ _ _. Unit {0}) c.self.inside.board c.act_of.new.board c.self.inside.settings
    books c.from.result c.in-Some.slot.now c.act_of.new.slot c.self.invariant there
    c.act_of.ensures.lawful c.act_of.ensures.others c.act_of.ensures.same
