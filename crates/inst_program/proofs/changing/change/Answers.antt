use Rattle.std.proofs.Common.{◌∙◌, ap, subst, sym, IfSome, List, Some, take}
use Rattle.inst_settings.specs.Settings.{HubSettings}
use Rattle.inst_journal.specs.declared.event.Event.{Event}
use Rattle.inst_journal.specs.Opened.{HasOpeningsLeft}
use Rattle.inst_world.specs.HasRun.{world_settings}
use Rattle.inst_world.specs.NextOpening.{books_of}
use Rattle.inst_program.specs.inner.Changing.{Allows}
use Rattle.inst_program.proofs.BooksUnderChanges.{allowed_changed, unallowed_unchanged}
use Rattle.inst_program.proofs.changing.change.Goals as goal

pub returns-then-not-have_openings_left-clause-unfit : goal.returns-then-not-have_openings_left-clause-unfit
returns-then-not-have_openings_left-clause-unfit c = λ two next is.
    c.have_openings_left.ensures.many c.if-not-have_openings_left.true
    (λ p. subst (λ (J : List Event). HasOpeningsLeft J) (is.books p ∙ ap (λ js. books_of js p) (sym c.deref.ensures.value)) (is.can.books.few p))

pub returns-in_default-clause-unfit : goal.returns-in_default-clause-unfit
returns-in_default-clause-unfit c = λ two next is.
    let closed = c.args.closed in
    let none = rw (c.settings-3.ensures, c.deref-2.ensures.value) at c.in_ok-settings-2.ensures.none in
    unallowed_unchanged c.args.changes.now closed.mode (world_settings closed.runner.world) closed.journals.items c.in_ok-journals.journals.items c.requires.closed.one_each c.in_ok-journals.ensures
    (none c.in_default.is) next is

pub returns-clause-changed : goal.returns-clause-changed
returns-clause-changed c =
    let closed = c.args.closed in
    let s : HubSettings = world_settings closed.runner.world in
    let all = c.in_ok-journals.journals.items in
    let P : HubSettings → Type 0 = Allows c.args.changes.now s all in
    let found : IfSome c.in_ok-settings-2.field-0 P = rw (c.settings-3.ensures, c.deref-2.ensures.value) at c.in_ok-settings-2.ensures.allows in
    let allows : IfSome (Some c.in-Some.settings) P = subst (λ o. IfSome o P) c.in-Some.is found in
    let first = c.truncate.ensures.items ∙ ap (λ n. take n all) (c.from.ensures ∙ c.participants-2.ensures.value) in
    allowed_changed c.args.changes.now closed.mode s closed.journals.items all c.requires.closed.one_each c.in_ok-journals.ensures c.in-Some.settings c.truncate.new.self.items first allows
