use Rattle.std.proofs.Common.{ℕ, List, subst, sym}
use Rattle.inst_journal.specs.History.{History}
use Rattle.inst_journal.specs.Opened.{HasOpeningsLeft}
use Rattle.inst_world.specs.NextOpening.{books_of}
use Rattle.inst_world.proofs.ClosedWorldCanOpen.{few_copied}
use Rattle.inst_world.proofs.JournalsOpenWhereBooksCan.{few_can_open}
use Rattle.inst_world.proofs.world.World.carry.Goals as goal

pub returns-clause-can : goal.returns-clause-can
returns-clause-can c =
    let journals : List History = c.in_ok-journals.journals.items in
    let few = subst (λ (js : List History). (p : ℕ) → HasOpeningsLeft (books_of js p)) c.deref.ensures.value (c.have_openings_left.ensures.few c.if-not-have_openings_left.false) in
    few_can_open c.args.self.now.board.settings journals c.in_ok-journals.ensures.closed few
