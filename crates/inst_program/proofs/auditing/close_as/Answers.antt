use Rattle.std.proofs.Common.{◌≡◌, ◌∙◌, inl, ℕ, List, Vec, None, ap, refl, sym, subst}
use Rattle.std.specs.declared.alloc.Global.{Global}
use Rattle.sqlite_disk.specs.declared.memory.Memory.{Memory}
use Rattle.inst_agenda.specs.declared.runner.Runner.{Runner}
use Rattle.inst_journal.specs.History.{History}
use Rattle.inst_world.specs.HasRun.{world_settings}
use Rattle.inst_world.specs.NextOpening.{AreClosedBooks}
use Rattle.inst_logged.specs.Answering.{opened_from}
use Rattle.inst_logged.specs.Header.{header_from}
use Rattle.inst_logged.specs.NewHub.{IsNewHub}
use Rattle.inst_logged.specs.Refused.{IsLogTaken}
use Rattle.inst_logged.specs.declared.version.Version.{Version}
use Rattle.inst_logged.specs.declared.version.Version.TheVariants.{Two}
use Rattle.inst_program.specs.Auditing.{IsClosedAs}
use Rattle.inst_program.specs.Keeping.{lines_of_next}
use Rattle.inst_program.specs.inner.Changing.{hub_opening}
use Rattle.inst_program.proofs.LogOnReturnedDisk.{begun_new, begun_with, closed_on, left_equal, ready_on}
use Rattle.inst_program.proofs.auditing.close_as.Goals as goal

pub close-books-requires : goal.close-books-requires
close-books-requires g c = record {
  ready = ready_on _ c.with_disk-hub.result c.args.disk c.with_disk-hub.ensures.unbegun c.with_disk-hub.ensures.disk c.requires.opened.usable (c.requires.opened.known refl);
}

pub returns-in-Ok-clause-closed : goal.returns-in-Ok-clause-closed
returns-in-Ok-clause-closed g c =
    let next = c.args.next.now in
    let mode = next.mode in
    let s = next.settings in
    let found = c.in_ok-hub.hub in
    let new = subst (λ (js : List History). IsNewHub Two mode (opened_from s js) (header_from Two mode s js c.args.previous) found) c.deref.ensures.value c.in_ok-hub.ensures.new in
    let hub = c.with_disk-hub.result in
    let made = c.with_disk-hub.ensures in
    let after = c.close-books.new.self in
    let disk' = c.into_parts-runner.result.1 in
    let has = begun_with found.version hub.version mode s found.heading.batch hub.header found.answers hub.recorder.answers made.version made.header made.answers
    (begun_new mode s next.journals.items c.args.previous found c.requires.can (c.is_hexadecimal.ensures c.if-not-is_hexadecimal.false) new) in
    let left = left_equal _ c.args.disk hub.recorder.log.disk made.disk in
    let left' = left_equal _ after.recorder.log.disk disk' c.into_parts-runner.ensures.disk in
    subst (λ (r : Runner). IsClosedAs c.args.disk.bytes.items (record { mode = mode; settings = world_settings r.world; journals = c.in-Ok.journals.items })) (sym c.into_parts-runner.ensures.runner)
    (closed_on _ mode s hub after c.args.disk disk' has left left' (λ d. inl refl) c.in-Ok.journals.items (c.in-Ok.ensures.ok refl))

pub returns-in-Ok-clause-books : goal.returns-in-Ok-clause-books
returns-in-Ok-clause-books g c =
    subst (λ (r : Runner). AreClosedBooks (world_settings r.world) c.in-Ok.journals.items) (sym c.into_parts-runner.ensures.runner) c.in-Ok.ensures.closed

pub returns-in-Ok-clause-taken : goal.returns-in-Ok-clause-taken
returns-in-Ok-clause-taken g c =
    let next = c.args.next.now in
    let found = c.in_ok-hub.hub in
    let new = subst (λ (js : List History). IsNewHub Two next.mode (opened_from next.settings js) (header_from Two next.mode next.settings js c.args.previous) found) c.deref.ensures.value c.in_ok-hub.ensures.new in
    let hub = c.with_disk-hub.result in
    let made = c.with_disk-hub.ensures in
    let file = c.args.disk.bytes.items in
    let taken = subst (λ (d : Memory). IsLogTaken hub.version hub.header.items None None d.bytes.items) made.disk (c.in-Ok.ensures.ok refl).taken in
    let first : hub.header.items ≡ lines_of_next (hub_opening next) c.args.previous = ap (λ (v : Vec ℕ Global). v.items) made.header ∙ new.first_is in
    subst (λ (h : List ℕ). IsLogTaken Two h None None file) first
    (subst (λ (v : Version). IsLogTaken v hub.header.items None None file) (made.version ∙ new.version_is)
    taken)
