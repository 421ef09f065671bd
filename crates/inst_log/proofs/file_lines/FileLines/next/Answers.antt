use Rattle.std.proofs.Common.{ℕ, sym, subst, rules}
use Rattle.sqlite_disk.specs.Disk.{Holds}
use Rattle.inst_log.proofs.Pieces.{holds_is}
use Rattle.inst_log.proofs.file_lines.FileLines.next.Goals as goal

pub returns-clause-lines : goal.returns-clause-lines
returns-clause-lines g c = record {
  whole = search rules;
  reading = λ clean done r.
      let file = g.D.Disk.seen c.args.disk.now in
      let at = c.args.self.now.cutter.at in
      let holds : Holds file at c.deref.result.now =
      subst (Holds file at) (sym c.deref.ensures.value) (subst (λ (n : ℕ). Holds file n c.in_ok-piece.piece.items) c.at-at.ensures (c.in_ok-piece.ensures.piece clean)) in
      record {
        cut = c.in_ok-take.ensures.cut file done r.cut (holds_is file c.deref.result.now at holds) holds.within;
        len = r.len;
      };
  on = search rules;
  within = search rules;
  len = search rules;
}
