use Rattle.std.proofs.Common.{◌∙◌, subst, IsTrue}
use Rattle.std.proofs.lemmas.Result.{on_ok_weaker}
use Rattle.inst_log.proofs.FilesOpenWithSettings.{new_lines, new_alike}
use Rattle.inst_log.proofs.Pieces.{none_or_begun}
use Rattle.inst_log.proofs.log.Log.open_at.Goals as goal

-- a new file
pub returns-in-New-clause-log : goal.returns-in-New-clause-log
returns-in-New-clause-log g c =
    on_ok_weaker c.begin.result (λ log. record {
      usable = log.usable;
      settled = λ clean.
          let starts = rw c.in-New.is at (c.requires.found (subst IsTrue c.begin.ensures.clean clean)).starts in
          ((log.settled clean).0, (log.settled clean).1 ∙ new_lines c.args.settings.now (g.D.Disk.seen c.args.self.now.disk) c.requires.settings starts.0);
      shut = λ clean well. log.shut clean tt;
      calm = log.calm;
    }) c.begin.ensures.log

pub returns-in-New-clause-any_moment : goal.returns-in-New-clause-any_moment
returns-in-New-clause-any_moment g c = record {
  alike = λ clean left may.
      let starts = rw c.in-New.is at (c.requires.found (subst IsTrue c.begin.ensures.clean clean)).starts in
      new_alike c.args.settings.now (g.D.Disk.seen c.args.self.now.disk) left c.requires.settings starts.0 (c.begin.ensures.any_moment clean left may);
  stands = λ clean left may.
      let starts = rw c.in-New.is at (c.requires.found (subst IsTrue c.begin.ensures.clean clean)).starts in
      none_or_begun c.args.settings.now (g.D.Disk.seen c.args.self.now.disk) left starts.1 (c.begin.ensures.stands clean left may);
  shut = λ mixes clean well left may. c.begin.ensures.shut mixes clean left may;
  clean = subst IsTrue c.begin.ensures.clean;
}
