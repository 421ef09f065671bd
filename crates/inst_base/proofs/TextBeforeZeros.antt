-- A text laid at the front of zeros is kept there.
use Rattle.std.proofs.Common.{ℕ, ◌≤◌, ◌++◌, List, length, drop, replicate, sym, ◌∙◌, subst, arith, length-append, length-drop}
use Rattle.std.proofs.Math.Seq.{take-append_seam, drop-append_seam}
use Rattle.std.proofs.lemmas.List.{drop-replicate, length-replicate}
use Rattle.std.specs.Str.{IsAscii}
use Rattle.inst_base.specs.inner.ShortText.{IsPaddedText}

pub IsKept-front : (room : ℕ) (text : List ℕ) → length text ≤ room → IsAscii text → IsPaddedText room (text ++ drop (length text) (replicate room 0)) (length text)
IsKept-front room text fits ascii = record {
  room_is = simp (length-append, length-drop, length-replicate) (omega arith);
  within = fits;
  ascii = subst IsAscii (sym (take-append_seam text (drop (length text) (replicate room 0)))) ascii;
  zeros = drop-append_seam text (drop (length text) (replicate room 0)) ∙ drop-replicate (length text) room 0;
}
