use Rattle.std.proofs.Common.{◌≡◌, ◌+◌, ◌-◌, get_or}
use Rattle.inst_terms.specs.Identifier.{in_base_128}
use Rattle.inst_terms.proofs.identifier.nine_from.Given as goal

abbrev pub invariant-loop-place : goal.invariant-loop-place
invariant-loop-place l = l.word ≡ in_base_128 (9 - l.place) (λ j. get_or l.characters (l.start + l.place + j) 0)
