use Rattle.std.proofs.Common.{◌≡◌, ◌≤◌, ◌+◌, ◌-◌, ℕ, List, ◌++◌, length, take, slice_range, refl, ap, ◌∙◌, arith}
use Rattle.std.proofs.lemmas.List.{with_items_is, length-take-le, length-drop}
use borrow.Rule.Slice.PartMut.{put_mid}
use Rattle.inst_lines.proofs.BufferAfterRead.{held-read, length-put_mid}
use Rattle.inst_lines.proofs.line_buffer.LineBuffer.fill.Goals as goal
use Rattle.inst_lines.specs.Limits.{buffer_bytes}

pub returns-clause-ok : goal.returns-clause-ok
returns-clause-ok g c =
    let n : ℕ = c.in_ok-count.count in
    let new : List ℕ = c.read_bytes.new.buf in
    let xs : List ℕ = c.deref_mut.result.now in
    let start : ℕ = c.args.self.now.start in
    let end : ℕ = c.args.self.now.end in
    let k : ℕ = (end + c.min-room.result) - end in
    let old = c.args.self.now in
    let whole : length xs ≡ buffer_bytes = c.deref_mut.ensures.len ∙ old.size in
    let limited : c.min-room.result ≤ buffer_bytes - end = omega (arith, c.min-room.ensures, c.max.ensures) in
    let within : end + k ≤ length xs = omega (arith, old.within) in
    let room : length new ≡ k = c.read_bytes.auto.buf ∙ length-take-le _ _ (omega (arith, length-drop end xs)) in
    let few : n ≤ length new = omega (arith, c.in_ok-count.ensures.bound) in
    record {
      read = take n new;
      length_is = length-take-le n new few;
      consumes = c.in_ok-count.ensures.bytes.0;
      held_is = ap (λ (t : List ℕ). slice_range t start (end + n)) (with_items_is old.bytes (put_mid end k xs new) (length-put_mid xs new end k within room ∙ c.deref_mut.ensures.len))
          ∙ held-read xs new start end k n old.ordered (omega arith) few
          ∙ ap (λ (t : List ℕ). slice_range t start end ++ take n new) c.deref_mut.ensures.value;
      is_long_is = refl;
      taken_is = refl;
      at_end = λ none. c.in_ok-count.ensures.bytes.1 none (omega (arith, room, c.min-room.ensures, c.max.ensures, c.requires));
    }
