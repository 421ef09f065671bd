use Rattle.std.proofs.Common.{◌≡◌, ◌∙◌, inr, ℕ, List, None, Vec, ap, sym, subst}
use Rattle.inst_journal.specs.History.{History}
use Rattle.inst_logged.specs.Answering.{opened_from}
use Rattle.inst_logged.specs.Header.{header_from}
use Rattle.inst_logged.specs.NewHub.{IsNewHub}
use Rattle.inst_logged.specs.Refused.{IsLogTaken}
use Rattle.inst_logged.specs.declared.version.Version.{Version}
use Rattle.inst_logged.specs.declared.version.Version.TheVariants.{Two}
use Rattle.inst_logged.proofs.CausesOfRefusal.{not_taken}
use Rattle.std.proofs.lemmas.Result.{on_ok_weaker}
use Rattle.std.specs.declared.alloc.Global.{Global}
use Rattle.inst_log.specs.Disks.{HasKeptFaith}
use Rattle.inst_program.specs.Files.{change_on}
use Rattle.inst_program.specs.Keeping.{IsBegun, lines_of_next}
use Rattle.inst_program.specs.inner.Changing.{hub_opening}
use Rattle.inst_program.proofs.LogOnReturnedDisk.{begun_new, begun_on, begun_with, left_equal, safe_on}
use Rattle.inst_program.proofs.PassedOnOutcome.{err_turned, on_err_through, on_ok_through}
use Rattle.inst_program.proofs.carrying.begin_on.Goals as goal

pub returns-clause-ok : goal.returns-clause-ok
returns-clause-ok g c =
    let disks = g.D.Disk in
    let next = c.args.next.now in
    let mode = next.mode in
    let s = next.settings in
    let found = c.in-Ok.hub in
    let new = subst (λ (js : List History). IsNewHub Two next.mode (opened_from next.settings js) (header_from Two next.mode next.settings js c.args.previous) c.in-Ok.hub) c.deref.ensures.value c.in-Ok.ensures.new in
    let hub = c.with_disk-hub.result in
    let made = c.with_disk-hub.ensures in
    let after = c.open.new.self in
    let disk' = c.into_parts-disk.result.1 in
    let has = begun_with found.version hub.version mode s found.heading.batch hub.header found.answers hub.recorder.answers made.version made.header made.answers (begun_new mode s next.journals.items c.args.previous found c.requires.journals c.requires.hexadecimal new) in
    let left = left_equal disks c.args.disk hub.recorder.log.disk made.disk in
    let left' = left_equal disks after.recorder.log.disk disk' c.into_parts-disk.ensures.disk in
    on_ok_through c.open.result c.or_ending-outcome.result _ c.or_ending-outcome.ensures.variant
    (on_ok_weaker c.open.result (λ opens clean.
    subst (λ (first : List ℕ). IsBegun first (change_on disks c.args.disk disk')) (ap (λ (v : Vec ℕ Global). v.items) made.header ∙ new.first_is)
    (begun_on disks mode s hub after c.args.disk disk' has left left' g.met.D.Disk.seen_may_stay (made.version ∙ new.version_is)
    (opens (subst (λ (d : g.row.D.Denot). HasKeptFaith disks d) c.into_parts-disk.ensures.disk clean)))) c.open.ensures.ok)

pub returns-clause-err : goal.returns-clause-err
returns-clause-err g c =
    let disks = g.D.Disk in
    let next = c.args.next.now in
    let mode = next.mode in
    let s = next.settings in
    let found = c.in-Ok.hub in
    let new = subst (λ (js : List History). IsNewHub Two next.mode (opened_from next.settings js) (header_from Two next.mode next.settings js c.args.previous) c.in-Ok.hub) c.deref.ensures.value c.in-Ok.ensures.new in
    let hub = c.with_disk-hub.result in
    let made = c.with_disk-hub.ensures in
    let after = c.open.new.self in
    let disk' = c.into_parts-disk.result.1 in
    let has = begun_with found.version hub.version mode s found.heading.batch hub.header found.answers hub.recorder.answers made.version made.header made.answers (begun_new mode s next.journals.items c.args.previous found c.requires.journals c.requires.hexadecimal new) in
    let left = left_equal disks c.args.disk hub.recorder.log.disk made.disk in
    let left' = left_equal disks after.recorder.log.disk disk' c.into_parts-disk.ensures.disk in
    on_err_through c.open.result c.or_ending-outcome.result _ _ c.or_ending-outcome.ensures.variant
    (λ e stops. safe_on disks mode s hub after c.args.disk disk' has left left' g.met.D.Disk.seen_may_stay _ None e (subst (λ (d : g.row.D.Denot). HasKeptFaith disks d) c.into_parts-disk.ensures.disk) stops c.open.ensures.any_moment) c.open.ensures.err

pub returns-clause-refused : goal.returns-clause-refused
returns-clause-refused g c =
    let disks = g.D.Disk in
    let next = c.args.next.now in
    let new = subst (λ (js : List History). IsNewHub Two next.mode (opened_from next.settings js) (header_from Two next.mode next.settings js c.args.previous) c.in-Ok.hub) c.deref.ensures.value c.in-Ok.ensures.new in
    let hub = c.with_disk-hub.result in
    let made = c.with_disk-hub.ensures in
    let left = left_equal disks c.args.disk hub.recorder.log.disk made.disk in
    err_turned c.open.result c.or_ending-outcome.result _ _ _ c.or_ending-outcome.ensures.variant c.or_ending-outcome.ensures.refused
    (λ e f stops refusal two. inr (λ clean taken.
    let file = disks.seen hub.recorder.log.disk in
    let first : hub.header.items ≡ lines_of_next (hub_opening next) c.args.previous = ap (λ (v : Vec ℕ Global). v.items) made.header ∙ new.first_is in
    let taken' = subst (IsLogTaken Two (lines_of_next (hub_opening next) c.args.previous) None None) (sym left.same) taken in
    not_taken hub.version hub.header.items None None file e (refusal two) (stops.cause (subst (λ (d : g.row.D.Denot). HasKeptFaith disks d) c.into_parts-disk.ensures.disk clean))
    (subst (λ (v : Version). IsLogTaken v hub.header.items None None file) (sym (made.version ∙ new.version_is)) (subst (λ (h : List ℕ). IsLogTaken Two h None None file) (sym first) taken')))) c.open.ensures.err
