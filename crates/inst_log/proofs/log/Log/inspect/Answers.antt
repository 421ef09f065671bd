use Rattle.std.proofs.Common.{◌≡◌, ◌+◌, ℕ, min, length, ◌∙◌, ap, IsTrue}
use Rattle.std.proofs.lemmas.Result.{IfOk-weaker, IfErr-weaker}
use Rattle.sqlite_disk.specs.Disk.{MoreFaults}
use Rattle.inst_log.specs.Pieces.{IsFrontFor}
use Rattle.inst_log.proofs.CausesOfErrors.{with_calm, unopened_at}
use Rattle.inst_log.proofs.Pieces.{take_min}
use Rattle.inst_log.proofs.log.Log.inspect.Goals as goal

pub returns-clause-start : goal.returns-clause-start
returns-clause-start g c =
    let file = g.D.Disk.seen c.args.self.now.disk in
    IfOk-weaker c.start_of.result _ _ (λ start starts clean.
    let extent = c.requires.extent (c.read_front.ensures.read.clean clean) in
    let front : IsFrontFor c.args.settings.now c.deref.result.now file =
    c.deref.ensures.value ∙ c.in_ok-front.ensures.front clean ∙ take_min c.min.result (length c.args.settings.now + 1) file (c.min.ensures ∙ ap (λ (n : ℕ). min n (length c.args.settings.now + 1)) extent.len) in
    starts file extent front) c.start_of.ensures.start

pub returns-clause-cause : goal.returns-clause-cause
returns-clause-cause g c =
    let file = g.D.Disk.seen c.args.self.now.disk in
    let old = c.args.self.now.disk in
    let new = c.read_front.new.disk in
    with_calm (g.D.Disk.faults new ≡ g.D.Disk.faults old) _ c.start_of.result c.in_ok-front.ensures.cause (unopened_at c.args.settings.now file (IsTrue (g.D.Disk.is_clean new)) (g.D.Disk.seen new ≡ file) (IsTrue (g.D.Disk.is_clean new) → MoreFaults (g.D.Disk.faults old) (g.D.Disk.faults new))
    c.start_of.result c.in_ok-front.ensures.read.left.same (λ clean.
    let extent = c.requires.extent (c.read_front.ensures.read.clean clean) in
    let front : IsFrontFor c.args.settings.now c.deref.result.now file =
    c.deref.ensures.value ∙ c.in_ok-front.ensures.front clean ∙ take_min c.min.result (length c.args.settings.now + 1) file (c.min.ensures ∙ ap (λ (n : ℕ). min n (length c.args.settings.now + 1)) extent.len) in
    IfErr-weaker c.start_of.result _ _ (λ error why. why file extent front) c.start_of.ensures.cause) c.start_of.ensures.only)
