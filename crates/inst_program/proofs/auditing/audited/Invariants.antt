use Rattle.std.proofs.Common.{◌≡◌, ◌-◌, ℕ, List, Bor, None, IfSome, map, take, string_bytes}
use Rattle.inst_program.specs.Files.{IfKept, IsUntouched}
use Rattle.inst_program.specs.Auditing.{AreAudited, file_at}
use Rattle.inst_program.specs.inner.Auditing.{HasClosedBooks, IsAudited}
use Rattle.inst_program.proofs.auditing.audited.Given as goal

abbrev pub invariant-loop-path : goal.invariant-loop-path
invariant-loop-path g l =
    let old = g.L.Logs.files l.fn.logs in
    let new = g.L.Logs.files l.logs in
    let names = map (λ (path : Bor (List ℕ)). path.now) (take l.path-index l.paths) in
    record {
      untouched : IsUntouched old new;
      audited : IfKept new (AreAudited old.bytes names (string_bytes l.text));
      books : IfSome l.before HasClosedBooks;
      first : l.before ≡ None → l.path-index ≡ 0;
      last : IfKept new (IfSome l.before (λ log. IsAudited (file_at old.bytes names (l.path-index - 1)) log));
    }
