use Rattle.std.proofs.Common.{◌≡◌, ℕ, ◌<◌, get_or, None, []}
use Rattle.inst_settings.specs.Codes.{index_of}
use Rattle.inst_books.proofs.positions.leaves_with_money.Given as goal

abbrev pub invariant-loop-who : goal.invariant-loop-who
invariant-loop-who l =
    (p : ℕ) → p < l.who → index_of (get_or l.old.codes p []) l.new.codes ≡ None → get_or l.positions p 0 ≡ 0
