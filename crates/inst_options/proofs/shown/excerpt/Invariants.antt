use Rattle.std.proofs.Common.{◌≡◌, take, string_bytes}
use Rattle.std.specs.List.{flat_map}
use Rattle.inst_options.specs.Excerpt.{shown_byte}
use Rattle.inst_options.proofs.shown.excerpt.Given as goal

abbrev pub invariant-loop-byte : goal.invariant-loop-byte
invariant-loop-byte l = string_bytes l.text ≡ flat_map shown_byte (take l.byte-index l.first)
