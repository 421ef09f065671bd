use Rattle.std.proofs.Common.{◌≡◌, ◌+◌, ◌∙◌, ◌++◌, ℕ, List, length, take, ap, sym, subst, IsTrue, rules}
use Rattle.std.proofs.lemmas.Result.{err_from_is_err_and}
use Rattle.sqlite_disk.specs.Disk.{MoreFaults}
use Rattle.inst_log.specs.Layout.{recovered_lines, blocks}
use Rattle.inst_log.specs.Opening.{lines_after_settings, OpensLog, Unopened}
use Rattle.inst_log.specs.Pieces.{IsExtent, IsFrontFor, IsFoundAs}
use Rattle.inst_log.proofs.OpeningBehindReading.{lines_read, spares_read}
use Rattle.inst_log.proofs.CausesOfErrors.{err_passed, unopened_as}
use Rattle.inst_log.proofs.Pieces.{take_min, starts_opens, text_length}
use Rattle.inst_log.proofs.log.Log.open.Goals as goal

pub returns-in_err-start-clause-cause : goal.returns-in_err-start-clause-cause
returns-in_err-start-clause-cause g c =
    let settings = c.args.settings.now in
    let file = g.D.Disk.seen c.args.self.now.disk in
    let new = c.read_file.new.disk in
    let text = c.in_ok-text.text.items in
    let extent = subst (λ (b : List ℕ). IsExtent b c.of-extent.result) c.deref.ensures.value c.of-extent.ensures in
    let front : IsFrontFor settings (take c.min-front.result c.deref-2.result.now) text =
    ap (take c.min-front.result) c.deref-2.ensures.value ∙ take_min c.min-front.result (length settings + 1) text (search rules) in
    err_passed (Unopened settings file (IsTrue (g.D.Disk.is_clean new)) (g.D.Disk.seen new ≡ file)
    (IsTrue (g.D.Disk.is_clean new) → MoreFaults (g.D.Disk.faults c.args.self.now.disk) (g.D.Disk.faults new))) c.from_residual-in_err-start.result _
    (err_from_is_err_and c.from_residual-in_err-start.result c.from_residual-in_err-start.ensures.1)
    (unopened_as settings file _ _ _ c.in_err-start.field-0.0 c.in_ok-text.ensures.read.left.same (λ clean.
    let same = c.in_ok-text.ensures.bytes clean in
    c.in_err-start.ensures.cause file (subst (λ (b : List ℕ). IsExtent b c.of-extent.result) same extent)
    (subst (IsFrontFor settings (take c.min-front.result c.deref-2.result.now)) same front)) c.in_err-start.ensures.only)

pub open_at-requires-clause-found : goal.open_at-requires-clause-found
open_at-requires-clause-found g c clean =
    let settings = c.args.settings.now in
    let text = c.in_ok-text.text.items in
    let extent = subst (λ (b : List ℕ). IsExtent b c.of-extent.result) c.deref.ensures.value c.of-extent.ensures in
    let front : IsFrontFor settings (take c.min-front.result c.deref-2.result.now) text =
    ap (take c.min-front.result) c.deref-2.ensures.value ∙ take_min c.min-front.result (length settings + 1) text (search rules) in
    subst (λ (f : List ℕ). IsFoundAs settings f c.of-extent.result c.in_ok-start.start) (c.in_ok-text.ensures.bytes clean ∙ sym c.in_ok-text.ensures.read.left.same)
    (record { goes = extent; starts = c.in_ok-start.ensures.start text extent front })

pub lines_of-requires-clause-start : goal.lines_of-requires-clause-start
lines_of-requires-clause-start g c =
    let settings = c.args.settings.now in
    let text = c.in_ok-text.text.items in
    let extent = subst (λ (b : List ℕ). IsExtent b c.of-extent.result) c.deref.ensures.value c.of-extent.ensures in
    let front : IsFrontFor settings (take c.min-front.result c.deref-2.result.now) text =
    ap (take c.min-front.result) c.deref-2.ensures.value ∙ take_min c.min-front.result (length settings + 1) text (search rules) in
    c.in_ok-start.ensures.start text extent front

pub returns-clause-text : goal.returns-clause-text
returns-clause-text g c =
    let settings = c.args.settings.now in
    let text = c.in_ok-text.text.items in
    let file = g.D.Disk.seen c.args.self.now.disk in
    let lines = c.in_ok-lines_of.ensures in
    record {
      opens = λ clean.
          let extent = subst (λ (b : List ℕ). IsExtent b c.of-extent.result) c.deref.ensures.value c.of-extent.ensures in
          let front : IsFrontFor settings (take c.min-front.result c.deref-2.result.now) text =
          ap (take c.min-front.result) c.deref-2.ensures.value ∙ take_min c.min-front.result (length settings + 1) text (search rules) in
          subst (OpensLog settings) (c.in_ok-text.ensures.bytes (c.open_at.ensures.any_moment.clean clean)) (starts_opens settings text c.in_ok-start.start (c.in_ok-start.ensures.start text extent front));
      lines = λ clean.
          lines ∙ ap (λ (f : List ℕ). blocks (recovered_lines settings ++ lines_after_settings settings f)) (c.in_ok-text.ensures.bytes (c.open_at.ensures.any_moment.clean clean));
      -- the settings are there, whatever was read
      front = text_length settings text c.in_ok-lines_of.field-0.items c.requires.settings lines;
    }

-- the file was read before
pub returns-clause-log : goal.returns-clause-log
returns-clause-log g c =
    lines_read g.D.Disk c.args.settings.now c.args.self.now (record c.args.self.now { disk = c.read_file.new.disk }) c.open_at.new.self c.read_file.ensures.read.left.same c.in_ok-text.ensures.cause c.in_ok-open_at.ensures.log

pub returns-clause-any_moment : goal.returns-clause-any_moment
returns-clause-any_moment g c =
    spares_read g.D.Disk c.args.settings.now c.args.self.now.disk c.read_file.new.disk c.open_at.new.self.disk c.read_file.ensures.read c.open_at.ensures.any_moment

pub returns-in_err-open_at-clause-any_moment : goal.returns-in_err-open_at-clause-any_moment
returns-in_err-open_at-clause-any_moment g c =
    spares_read g.D.Disk c.args.settings.now c.args.self.now.disk c.read_file.new.disk c.open_at.new.self.disk c.read_file.ensures.read c.open_at.ensures.any_moment
