-- What a crash leaves while the end of a file is repaired, and where its lines end.
use Rattle.std.proofs.Common.{◌≡◌, ◌≢◌, ◌⊎◌, inl, inr, ℕ, zero, suc, ◌+◌, ◌-◌, ◌<◌, ◌≤◌, List, [], ◌∷◌, ◌++◌, length, take, drop, slice_index, refl, sym, ◌∙◌, ap, subst, arith, length-append, take-append-drop}
use Rattle.std.proofs.lemmas.List.{append-nil, take_at, drop_at, drop_more, drop_all, drop-drop}
use Rattle.std.proofs.lemmas.Bool.{cases_eq, cases_lt}
use Rattle.sqlite_disk.specs.Disk.{Holds, Torn, Cut}
use Rattle.inst_base.specs.Newline.{newline, NoNewline, BreaksAt}
use Rattle.inst_log.specs.Layout.{recovered_lines, blocks, HasClosedByte, IsFirstLine}
use Rattle.inst_log.specs.inner.Layout.{IsUnclosed}
use Rattle.inst_log.proofs.BytesAfterTornWrites.{torn_front, torn_back, written_is, cut_front}
use Rattle.inst_log.proofs.Lines.{parts, all_lines, recovered_blocks, none_without_newline, quiet_at_gate, line_at_gate, closed}
use Rattle.inst_log.proofs.CrashDuringAppend.{front_whole, front_decides, closed_at}

-- one byte, and then no newline
quiet_list : (d : List ℕ) → NoNewline (drop 1 d) → recovered_lines d ≡ []
quiet_list [] quiet = refl
quiet_list (b ∷ rest) quiet = elim (cases_eq b 123) [
  | inl is ↦ none_without_newline (b ∷ rest) (omega arith, quiet)
  | inr shut ↦ closed b rest shut
]

drop_quiet : (n : ℕ) (bytes : List ℕ) → NoNewline bytes → NoNewline (drop n bytes)
drop_quiet zero bytes quiet = quiet
drop_quiet (suc n) [] quiet = tt
drop_quiet (suc n) (b ∷ bytes) quiet = drop_quiet n bytes quiet.1

module _ (file : List ℕ) (end : ℕ) (u : IsUnclosed file end) where
  abbrev lines : List (List ℕ)
  lines = recovered_lines file

  length-unclosed : length file ≡ end + length u.rest
  length-unclosed = omega (arith, u.ends, ap length u.split, length-append (blocks lines) u.rest)

  front_is : take end file ≡ blocks lines
  front_is = ap (take end) u.split ∙ take_at (blocks lines) u.rest end (sym u.ends)

  back_is : drop end file ≡ u.rest
  back_is = ap (drop end) u.split ∙ drop_at (blocks lines) u.rest end (sym u.ends)

  behind_quiet : (c : List ℕ) → Torn end 1 file c → NoNewline (drop (end + 1) c)
  behind_quiet c torn = elim (cases_lt end (length file)) [
    | inl inside ↦
        let same : drop (end + 1) c ≡ drop 1 u.rest =
        torn_back end 1 file c (omega arith) torn ∙ sym (drop-drop 1 end file) ∙ ap (drop 1) back_is in
        subst NoNewline (sym same) (drop_quiet 1 u.rest u.quiet)
    | inr past ↦ subst NoNewline (sym (drop_all (end + 1) c (omega (arith, torn.no_longer)))) tt
  ]

  pub torn_close : (c : List ℕ) → Torn end 1 file c → recovered_lines c ≡ lines
  torn_close c torn =
      let len = length-unclosed in
      let front : take end c ≡ blocks lines = torn_front end 1 file c (omega (arith, len)) torn ∙ front_is in
      let whole : c ≡ blocks lines ++ drop end c = sym (take-append-drop end c) ∙ ap (λ (l : List ℕ). l ++ drop end c) front in
      let none : recovered_lines (drop end c) ≡ [] = quiet_list (drop end c) (subst NoNewline (sym (drop-drop 1 end c)) (behind_quiet c torn)) in
      ap recovered_lines whole ∙ recovered_blocks lines (drop end c) (all_lines file) ∙ ap (λ (ls : List (List ℕ)). lines ++ ls) none ∙ append-nil lines

  pub closed_now : (new : List ℕ) → Torn end 1 file new → Holds new end (0 ∷ []) → HasClosedByte new end × (recovered_lines new ≡ lines)
  closed_now new torn holds =
      let len = length-unclosed in
      let is : new ≡ blocks lines ++ 0 ∷ drop (end + 1) file =
      written_is end (0 ∷ []) file new (omega (arith, len)) torn holds ∙ ap (λ (l : List ℕ). l ++ ((0 ∷ []) ++ drop (end + 1) file)) front_is in
      closed_at new end lines 0 (drop (end + 1) file) (all_lines file) is (omega arith) u.ends

module _ (file : List ℕ) (end : ℕ) (k : HasClosedByte file end) where
  cut_same : (c : List ℕ) → Cut (end + 1) file c → take (end + 1) c ≡ take (end + 1) (blocks (recovered_lines file) ++ k.byte ∷ k.rest)
  cut_same c cut =
      let len : length file ≡ end + 1 + length k.rest = omega (arith, k.ends, ap length k.split, length-append (blocks (recovered_lines file)) (k.byte ∷ k.rest)) in
      cut_front (end + 1) file c (omega (arith, len)) cut ∙ ap (take (end + 1)) k.split

  pub cut_keeps : (c : List ℕ) → Cut (end + 1) file c → recovered_lines c ≡ recovered_lines file
  cut_keeps c cut = front_decides (recovered_lines file) end k.byte k.rest (all_lines file) k.shut k.ends c (cut_same c cut)

  pub cut_now : (new : List ℕ) → Cut (end + 1) file new → HasClosedByte new end × (recovered_lines new ≡ recovered_lines file)
  cut_now new cut =
      closed_at new end (recovered_lines file) k.byte (drop (end + 1) new) (all_lines file)
      (front_whole (recovered_lines file) end k.byte k.rest (all_lines file) k.shut k.ends new (cut_same new cut)) k.shut k.ends

-- what a look at the byte behind the lines tells
module _ (file : List ℕ) (end : ℕ) (ends : end ≡ length (blocks (recovered_lines file))) where
  abbrev rest : List ℕ
  rest = (parts file).end

  byte_is : end < length file → rest ≡ slice_index file end ∷ drop 1 rest
  byte_is inside =
      let back : drop end file ≡ rest = ap (drop end) (parts file).split ∙ drop_at (blocks (recovered_lines file)) rest end (sym ends) in
      let first : drop end file ≡ slice_index file end ∷ drop (end + 1) file = drop_more file end 0 inside in
      let same : rest ≡ slice_index file end ∷ drop (end + 1) file = sym back ∙ first in
      same ∙ ap (λ (l : List ℕ). slice_index file end ∷ drop 1 l) (sym same)

  pub closed_there : end < length file → slice_index file end ≢ 123 → HasClosedByte file end
  closed_there inside shut =
      record {
        byte = slice_index file end;
        rest = drop 1 rest;
        split = (parts file).split ∙ ap (λ (l : List ℕ). blocks (recovered_lines file) ++ l) (byte_is inside);
        shut = shut;
        ends = ends;
      }

  quiet_rest : (r : List ℕ) → recovered_lines r ≡ [] → (r ≡ []) ⊎ (slice_index r 0 ≡ 123) → NoNewline r
  quiet_rest [] none is = tt
  quiet_rest (b ∷ r) none (inl is) = absurd (cc is)
  quiet_rest (b ∷ r) none (inr is) = (omega arith, quiet_at_gate b r is none)

  short_there : length file ≤ end → IsUnclosed file end
  short_there short =
      let len : length file ≡ length (blocks (recovered_lines file)) + length rest = ap length (parts file).split ∙ length-append (blocks (recovered_lines file)) rest in
      let none : rest ≡ [] = sym (drop_at (blocks (recovered_lines file)) rest end (sym ends)) ∙ ap (drop end) (sym (parts file).split) ∙ drop_all end file short in
      record { rest = rest; split = (parts file).split; quiet = quiet_rest rest (parts file).nothing (inl none); ends = ends }

  pub unclosed_there : (length file ≤ end) ⊎ (slice_index file end ≡ 123) → IsUnclosed file end
  unclosed_there (inl short) = short_there short
  unclosed_there (inr is) = elim (cases_lt end (length file)) [
    | inl inside ↦
        let first : slice_index rest 0 ≡ 123 = ap (λ (l : List ℕ). slice_index l 0) (byte_is inside) ∙ is in
        record { rest = rest; split = (parts file).split; quiet = quiet_rest rest (parts file).nothing (inr first); ends = ends }
    | inr short ↦ short_there short
  ]

-- the line that ends there, of bytes that begin with the gate
pub first_line_is : (bytes : List ℕ) (n : ℕ) → slice_index bytes 0 ≡ 123 → BreaksAt bytes n → IsFirstLine bytes (n + 1)
first_line_is [] n is breaks = absurd (omega (arith, breaks.within))
first_line_is (b ∷ bytes) zero is breaks = absurd (let no_gate : b ≡ 10 = ap (λ (l : List ℕ). slice_index l 0) breaks.rest in omega arith)
first_line_is (b ∷ bytes) (suc n) is breaks =
    let next : suc n + 1 ≡ suc (n + 1) = omega arith in
    let one : drop (suc n + 1) (b ∷ bytes) ≡ drop (n + 1) bytes = ap (λ (k : ℕ). drop k (b ∷ bytes)) next in
    let body : bytes ≡ take n bytes ++ newline ∷ drop (n + 1) bytes = ap (drop 1) breaks.rest ∙ ap (λ (l : List ℕ). take n bytes ++ newline ∷ l) one in
    let back : suc n + 1 - 1 ≡ suc n = omega arith in
    record {
      lines = ap (λ (l : List ℕ). recovered_lines (b ∷ l)) body ∙ line_at_gate b (take n bytes) (drop (n + 1) bytes) is breaks.line.1
          ∙ ap (λ (k : ℕ). take k (b ∷ bytes) ∷ recovered_lines (drop (n + 1) bytes)) (sym back) ∙ ap (λ (l : List ℕ). take (suc n + 1 - 1) (b ∷ bytes) ∷ recovered_lines l) (sym one);
      some = omega arith;
      within = omega (arith, breaks.within);
    }

-- the front of a file that its lines are
pub front_of_file : (file : List ℕ) (end : ℕ) → end ≡ length (blocks (recovered_lines file)) → take end file ≡ blocks (recovered_lines file)
front_of_file file end ends = ap (take end) (parts file).split ∙ take_at (blocks (recovered_lines file)) (parts file).end end (sym ends)
