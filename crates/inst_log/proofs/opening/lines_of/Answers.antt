use Rattle.std.proofs.Common.{rules}
use Rattle.inst_log.proofs.Pieces.{log_text, new_text}
use Rattle.inst_log.proofs.opening.lines_of.Goals.{in-Log, in-New+in_ok-extend_from_slice-in-New}
use Rattle.inst_log.proofs.opening.lines_of.Goals as goal

pub returns : goal.returns
returns c = elim c.match-start.branch [
  | in-Log w ↦
      log_text c.args.settings.now c.args.bytes.items c.match-start.bytes.items c.args.extent.now.end c.requires.extent.end (search rules)
      (rw w.in-Log.is at c.requires.start)
  | in-New+in_ok-extend_from_slice-in-New w ↦
      new_text c.args.settings.now c.args.bytes.items c.match-start.bytes.items c.requires.settings (search rules)
      ((rw w.in-New.is at c.requires.start).0)
]
