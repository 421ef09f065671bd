use Rattle.std.proofs.Common.{◌≤◌, ◌-◌, ℕ, List, ◌||◌, nat_lt, ap, sym, ◌∙◌, arith, length, slice_range}
use Rattle.std.proofs.lemmas.Bool.{or_parts}
use Rattle.inst_lines.proofs.BufferAfterRead.{room-dropped, room-kept, held-moved}
use Rattle.inst_lines.proofs.line_buffer.LineBuffer.make_room.Goals as goal
use Rattle.inst_lines.specs.Limits.{most_line_bytes}

pub returns-then-is_too_long-clause-kept : goal.returns-then-is_too_long-clause-kept
returns-then-is_too_long-clause-kept c =
    room-dropped _ _ c.requires (ap (λ (k : ℕ). c.args.self.now.is_long || nat_lt most_line_bytes k) (sym c.len.ensures) ∙ sym c.is_too_long.ensures ∙ c.if-is_too_long.true)

pub returns-else-is_too_long-clause-kept : goal.returns-else-is_too_long-clause-kept
returns-else-is_too_long-clause-kept c =
    let old = c.args.self.now in
    let ordered : old.start ≤ old.end = old.ordered in
    let within : old.end ≤ length old.bytes.items = omega (arith, old.within, old.size, old.bytes.ok.0) in
    room-kept _ _ _ c.requires (or_parts _ _ (sym c.is_too_long.ensures ∙ c.if-is_too_long.false)).0
    (ap (λ (t : List ℕ). slice_range t 0 (old.end - old.start)) c.copy_within.ensures.items ∙ held-moved old.bytes.items old.start old.end ordered within)
