-- Lines that are written one behind the other.
use Rattle.std.proofs.Common.{◌≡◌, inl, inr, ℕ, ◌<◌, Bool, true, List, [], ◌∷◌, ◌++◌, length, refl, sym, ◌∙◌, ap, arith, append_assoc, if◌then◌else◌}
use Rattle.std.proofs.lemmas.List.{append-nil}
use Rattle.std.proofs.lemmas.Bool.{cases_Bool, eqb-true, and_parts}
use Rattle.std.proofs.lemmas.Bool.Decides.{nat_tests}
use Rattle.inst_base.specs.Newline.{NoNewline}
use Rattle.inst_log.specs.Layout.{recovered_lines, blocks, at_rest, IsBatch, AreWholeLines}
use Rattle.inst_log.specs.Escape.{is_usual, raw_of, unescaped_line}
use Rattle.inst_log.proofs.Lines.{IsLine, AllLines, AllLines-append, all_lines, blocks-append, recovered_blocks, recovered_at_rest}

usual_line : (line : List ℕ) → NoNewline line → is_usual line ≡ true → IsLine line
usual_line [] quiet is = absurd (cc is)
usual_line (b ∷ []) quiet is = (eqb-true _ _ is, tt)
usual_line (b ∷ c ∷ rest) quiet is = (eqb-true _ _ (and_parts _ _ is).0, quiet.1)

raw_line : (line : List ℕ) → NoNewline line → IsLine (raw_of line)
raw_line line quiet = elim (cases_Bool (is_usual line)) [
  | inl usual ↦
      let same : raw_of line ≡ line = ap (λ (t : Bool). if t then line else 123 ∷ 1 ∷ line) usual in
      rw same (usual_line line quiet usual)
  | inr other ↦
      let same : raw_of line ≡ 123 ∷ 1 ∷ line = ap (λ (t : Bool). if t then line else 123 ∷ 1 ∷ line) other in
      rw same (refl, (omega arith, quiet))
]

usual_back : (line : List ℕ) → is_usual line ≡ true → unescaped_line line ≡ line
usual_back [] is = refl
usual_back (b ∷ []) is = refl
usual_back (b ∷ c ∷ rest) is = grind (arith, nat_tests)

pub comes_back : (line : List ℕ) → unescaped_line (raw_of line) ≡ line
comes_back line = elim (cases_Bool (is_usual line)) [
  | inl usual ↦
      let same : raw_of line ≡ line = ap (λ (t : Bool). if t then line else 123 ∷ 1 ∷ line) usual in
      ap unescaped_line same ∙ usual_back line usual
  | inr other ↦ ap (λ (t : Bool). unescaped_line (if t then line else 123 ∷ 1 ∷ line)) other
]

module _ (bytes line : List ℕ) (whole : AreWholeLines bytes) (quiet : NoNewline line) where
  abbrev lines : List (List ℕ)
  lines = recovered_lines bytes ++ raw_of line ∷ []

  all : AllLines lines
  all = AllLines-append (recovered_lines bytes) (raw_of line ∷ []) (all_lines bytes) (raw_line line quiet, tt)

  pub pushed_is : (new : List ℕ) → new ≡ (bytes ++ raw_of line) ++ 10 ∷ [] → new ≡ blocks lines
  pushed_is new is =
      is ∙ append_assoc bytes (raw_of line) (10 ∷ []) ∙ ap (λ (l : List ℕ). l ++ (raw_of line ++ 10 ∷ [])) whole ∙ sym (blocks-append (recovered_lines bytes) (raw_of line ∷ []))

  pub pushed_lines : (new : List ℕ) → new ≡ (bytes ++ raw_of line) ++ 10 ∷ [] → recovered_lines new ≡ lines
  pushed_lines new is =
      ap recovered_lines (pushed_is new is ∙ sym (append-nil (blocks lines))) ∙ recovered_blocks lines [] all ∙ append-nil lines

  pub pushed_whole : (new : List ℕ) → new ≡ (bytes ++ raw_of line) ++ 10 ∷ [] → AreWholeLines new
  pushed_whole new is = pushed_is new is ∙ ap blocks (sym (pushed_lines new is))

module _ (bytes new : List ℕ) (whole : AreWholeLines bytes) (is : new ≡ bytes ++ 0 ∷ []) where
  rests : new ≡ at_rest (recovered_lines bytes)
  rests = is ∙ ap (λ (l : List ℕ). l ++ 0 ∷ []) whole

  pub closed_lines : recovered_lines new ≡ recovered_lines bytes
  closed_lines = ap recovered_lines rests ∙ recovered_at_rest (recovered_lines bytes) (all_lines bytes)

  pub closed_batch : 0 < length (recovered_lines bytes) → IsBatch new
  closed_batch some = record { whole = rests ∙ ap at_rest (sym closed_lines); some = rw closed_lines some }
