use Rattle.std.proofs.Common.{◌≡◌, length}
use Rattle.inst_settings.specs.Finder.{TellsFirst}
use Rattle.inst_settings.proofs.finder.Finder.new.Given as goal

abbrev pub invariant-loop-code : goal.invariant-loop-code
invariant-loop-code l = record { counted : l.number ≡ l.code-index; size : length l.table ≡ 4096; tells : TellsFirst l.code-index l.codes l.table }
