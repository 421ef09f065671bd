-- What a crash leaves in each of the two steps of an `append`.
use Rattle.std.proofs.Common.{◌≡◌, ◌≢◌, inl, inr, ℕ, ◌+◌, ◌-◌, ◌<◌, ◌≤◌, List, [], ◌∷◌, ◌++◌, length, take, drop, get_or, slice_range, sym, ◌∙◌, ap, subst, arith, append_assoc, length-append, take-append-drop}
use Rattle.std.proofs.lemmas.List.{take_at, drop_at, drop_more, take_rest, length-drop}
use Rattle.std.proofs.lemmas.Bool.{cases_eq}
use Rattle.sqlite_disk.specs.Disk.{Holds, Torn, Follows, Only}
use Rattle.inst_log.specs.Layout.{recovered_lines, blocks, at_rest, IsBatch, HasClosedByte}
use Rattle.inst_log.specs.Log.{IsBeforeOrAfter, IsAtStage}
use Rattle.inst_log.proofs.BytesAfterTornWrites.{torn_front, torn_back, written_is}
use Rattle.inst_log.proofs.Lines.{AllLines, recovered_blocks, recovered_closed, all_lines, blocks-append, at_rest-append, first_byte}

-- a batch is the gate, and then the rest
pub batch_is : (batch : List ℕ) → IsBatch batch → batch ≡ 123 ∷ drop 1 batch
batch_is batch is =
    let first = first_byte (recovered_lines batch) (all_lines batch) is.some in
    let same : batch ≡ 123 ∷ first.0 = is.whole ∙ first.1 in
    same ∙ ap (λ (l : List ℕ). 123 ∷ drop 1 l) (sym same)

-- the lines, a byte, and the rest of a batch before what was there
abbrev pub staged : List (List ℕ) → ℕ → List ℕ → List ℕ → List ℕ
staged lines b tail left = blocks lines ++ b ∷ (tail ++ left)

module _ (lines : List (List ℕ)) (end byte : ℕ) (rest : List ℕ) (all : AllLines lines) (shut : byte ≢ 123) (ends : end ≡ length (blocks lines)) where
  abbrev file : List ℕ
  file = blocks lines ++ byte ∷ rest

  length-file : length file ≡ end + 1 + length rest
  length-file = omega (arith, ends, length-append (blocks lines) (byte ∷ rest))

  split : blocks lines ++ byte ∷ rest ≡ (blocks lines ++ byte ∷ []) ++ rest
  split = sym (append_assoc (blocks lines) (byte ∷ []) rest)

  length-front : length (blocks lines ++ byte ∷ []) ≡ end + 1
  length-front = omega (arith, ends, length-append (blocks lines) (byte ∷ []))

  front_is : take (end + 1) file ≡ blocks lines ++ byte ∷ []
  front_is = ap (take (end + 1)) split ∙ take_at (blocks lines ++ byte ∷ []) rest (end + 1) length-front

  -- what stands up to the closed byte decides
  pub front_whole : (c : List ℕ) → take (end + 1) c ≡ take (end + 1) file → c ≡ blocks lines ++ byte ∷ drop (end + 1) c
  front_whole c same =
      sym (take-append-drop (end + 1) c) ∙ ap (λ (l : List ℕ). l ++ drop (end + 1) c) (same ∙ front_is) ∙ append_assoc (blocks lines) (byte ∷ []) (drop (end + 1) c)

  pub front_decides : (c : List ℕ) → take (end + 1) c ≡ take (end + 1) file → recovered_lines c ≡ lines
  front_decides c same = ap recovered_lines (front_whole c same) ∙ recovered_closed lines byte (drop (end + 1) c) all shut

  -- the closed byte stands in each outcome of the first write
  pub torn_behind : (n : ℕ) (c : List ℕ) → Torn (end + 1) n file c → recovered_lines c ≡ lines
  torn_behind n c torn = front_decides c (torn_front (end + 1) n file c (omega (arith, length-file)) torn)

  pub written_behind : (tail c : List ℕ) → Torn (end + 1) (length tail) file c → Holds c (end + 1) tail → c ≡ staged lines byte tail (drop (end + 1 + length tail) file)
  written_behind tail c torn holds =
      written_is (end + 1) tail file c (omega (arith, length-file)) torn holds
      ∙ ap (λ (l : List ℕ). l ++ (tail ++ drop (end + 1 + length tail) file)) front_is
      ∙ append_assoc (blocks lines) (byte ∷ []) (tail ++ drop (end + 1 + length tail) file)

-- a batch and what is left behind it stand for the batch's lines
batch_then : (batch left : List ℕ) → IsBatch batch → recovered_lines (batch ++ left) ≡ recovered_lines batch
batch_then batch left is =
    let lines = recovered_lines batch in
    ap (λ (l : List ℕ). recovered_lines (l ++ left)) is.whole ∙ ap recovered_lines (append_assoc (blocks lines) (0 ∷ []) left)
    ∙ recovered_closed lines 0 left (all_lines batch) (omega arith)

module _ (lines : List (List ℕ)) (end byte : ℕ) (left : List ℕ) (batch : List ℕ) (all : AllLines lines) (ends : end ≡ length (blocks lines)) (is : IsBatch batch) where
  abbrev tail : List ℕ
  tail = drop 1 batch

  abbrev mid : List ℕ
  mid = staged lines byte tail left

  length-mid : length mid ≡ end + 1 + length (tail ++ left)
  length-mid = omega (arith, ends, length-append (blocks lines) (byte ∷ (tail ++ left)))

  front : take end mid ≡ blocks lines
  front = take_at (blocks lines) (byte ∷ (tail ++ left)) end (sym ends)

  back : drop (end + 1) mid ≡ tail ++ left
  back =
      ap (λ (l : List ℕ). drop (end + 1) l) (sym (append_assoc (blocks lines) (byte ∷ []) (tail ++ left)))
      ∙ drop_at (blocks lines ++ byte ∷ []) (tail ++ left) (end + 1) (omega (arith, ends, length-append (blocks lines) (byte ∷ [])))

  -- with the batch's lines, or without
  opened_or_closed : (b : ℕ) → IsBeforeOrAfter lines (recovered_lines batch) (blocks lines ++ b ∷ (tail ++ left))
  opened_or_closed b = elim (cases_eq b 123) [
    | inl is_open ↦
        let same : b ∷ (tail ++ left) ≡ batch ++ left = ap (λ (x : ℕ). x ∷ (tail ++ left)) is_open ∙ ap (λ (l : List ℕ). l ++ left) (sym (batch_is batch is)) in
        let both : recovered_lines (blocks lines ++ b ∷ (tail ++ left)) ≡ lines ++ recovered_lines batch =
        ap (λ (l : List ℕ). recovered_lines (blocks lines ++ l)) same ∙ recovered_blocks lines (batch ++ left) all
        ∙ ap (λ (ls : List (List ℕ)). lines ++ ls) (batch_then batch left is) in inr both
    | inr shut ↦ inl (recovered_closed lines b (tail ++ left) all shut)
  ]

  -- the batch stands whole in each outcome of the second write
  pub gate_is : (c : List ℕ) → Torn end 1 mid c → c ≡ blocks lines ++ get_or c end 0 ∷ (tail ++ left)
  gate_is c torn =
      let long = length-mid in
      let b = get_or c end 0 in
      let rest : drop end c ≡ b ∷ (tail ++ left) =
      drop_more c end 0 (omega (arith, torn.no_shorter, long)) ∙ ap (λ (l : List ℕ). b ∷ l) (torn_back end 1 mid c (omega (arith, long)) torn ∙ back) in
      sym (take-append-drop end c)
      ∙ ap (λ (l : List ℕ). l ++ drop end c) (torn_front end 1 mid c (omega (arith, long)) torn ∙ front)
      ∙ ap (λ (l : List ℕ). blocks lines ++ l) rest

  pub torn_gate : (c : List ℕ) → Torn end 1 mid c → IsBeforeOrAfter lines (recovered_lines batch) c
  torn_gate c torn = subst (IsBeforeOrAfter lines (recovered_lines batch)) (sym (gate_is c torn)) (opened_or_closed (get_or c end 0))

  -- with the gate open, the batch and its closed byte stand behind the lines
  pub opened_whole : blocks lines ++ 123 ∷ (tail ++ left) ≡ blocks (lines ++ recovered_lines batch) ++ 0 ∷ left
  opened_whole =
      ap (λ (l : List ℕ). blocks lines ++ (l ++ left)) (sym (batch_is batch is) ∙ is.whole)
      ∙ sym (append_assoc (blocks lines) (at_rest (recovered_lines batch)) left)
      ∙ ap (λ (l : List ℕ). l ++ left) (sym (at_rest-append lines (recovered_lines batch)))
      ∙ append_assoc (blocks (lines ++ recovered_lines batch)) (0 ∷ []) left

  pub torn_behind_gate : (c : List ℕ) → Torn end 1 mid c → drop (end + 1) c ≡ tail ++ left
  torn_behind_gate c torn = torn_back end 1 mid c (omega (arith, length-mid)) torn ∙ back

  pub written_gate : (c : List ℕ) → Torn end 1 mid c → Holds c end (123 ∷ []) → c ≡ blocks (lines ++ recovered_lines batch) ++ 0 ∷ left
  written_gate c torn holds =
      let long = length-mid in
      written_is end (123 ∷ []) mid c (omega (arith, long)) torn holds
      ∙ ap (λ (l : List ℕ). l ++ ((123 ∷ []) ++ drop (end + 1) mid)) front
      ∙ ap (λ (l : List ℕ). blocks lines ++ 123 ∷ l) back
      ∙ ap (λ (l : List ℕ). blocks lines ++ (l ++ left)) (sym (batch_is batch is) ∙ is.whole)
      ∙ sym (append_assoc (blocks lines) (at_rest (recovered_lines batch)) left)
      ∙ ap (λ (l : List ℕ). l ++ left) (sym (at_rest-append lines (recovered_lines batch)))
      ∙ append_assoc (blocks (lines ++ recovered_lines batch)) (0 ∷ []) left

long_lines : (lines : List (List ℕ)) → 0 < length lines → 1 < length (at_rest lines)
long_lines [] some = absurd (omega arith)
long_lines (line ∷ lines) some = omega (arith, length-append (line ++ 10 ∷ blocks lines) (0 ∷ []), length-append line (10 ∷ blocks lines))

pub long_batch : (batch : List ℕ) → IsBatch batch → 1 < length batch
long_batch batch is = subst (λ (n : ℕ). 1 < n) (sym (ap length is.whole)) (long_lines (recovered_lines batch) is.some)

-- the two parts of a batch, as a slice of it has them
pub tail_is : (batch : List ℕ) → slice_range batch 1 (length batch) ≡ drop 1 batch
tail_is batch = take_rest batch 1

pub head_is : (batch : List ℕ) → IsBatch batch → take 1 batch ≡ 123 ∷ []
head_is batch is = ap (take 1) (batch_is batch is)

module _ (file : List ℕ) (end : ℕ) (is_closed : HasClosedByte file end) where
  -- while the batch is written behind the closed byte
  pub stage_crash : (n : ℕ) (old new : List ℕ → Type 0) → Only file old → Follows (Torn (end + 1) n) old new → (c : List ℕ) → new c → recovered_lines c ≡ recovered_lines file
  stage_crash n old new only follows c left =
      let from = follows c left in
      torn_behind (recovered_lines file) end is_closed.byte is_closed.rest (all_lines file) is_closed.shut is_closed.ends n c
      (subst (λ f. Torn (end + 1) n f c) (only from.0 from.1 ∙ is_closed.split) from.2)

  module _ (batch : List ℕ) (is : IsBatch batch) where
    -- what stands behind the batch then
    abbrev pub left_of : List ℕ
    left_of = drop (end + 1 + length (drop 1 batch)) (blocks (recovered_lines file) ++ is_closed.byte ∷ is_closed.rest)

    -- after that
    pub staged_is : (mid : List ℕ) → Torn (end + 1) (length (slice_range batch 1 (length batch))) file mid
        → (0 < length (slice_range batch 1 (length batch)) → Holds mid (end + 1) (slice_range batch 1 (length batch))) → mid ≡ staged (recovered_lines file) is_closed.byte (drop 1 batch) left_of
    staged_is mid torn holds =
        let tail = tail_is batch in
        let some : 0 < length (slice_range batch 1 (length batch)) = omega (arith, ap length tail, length-drop 1 batch, long_batch batch is) in
        written_behind (recovered_lines file) end is_closed.byte is_closed.rest (all_lines file) is_closed.shut is_closed.ends (drop 1 batch) mid
        (subst (λ f. Torn (end + 1) (length (drop 1 batch)) f mid) is_closed.split (subst (λ (t : List ℕ). Torn (end + 1) (length t) file mid) tail torn))
        (subst (λ (t : List ℕ). Holds mid (end + 1) t) tail (holds some))

    -- how far the batch is then
    pub stage_at : (old new : List ℕ → Type 0) → Only file old → Follows (Torn (end + 1) (length (slice_range batch 1 (length batch)))) old new → (c : List ℕ) → new c → IsAtStage file end batch c
    stage_at old new only follows c left =
        let from = follows c left in
        let n = length (slice_range batch 1 (length batch)) in
        let torn = subst (λ f. Torn (end + 1) n f c) (only from.0 from.1) from.2 in
        let long : end + 1 ≤ length file =
        omega (arith, is_closed.ends, ap length is_closed.split, length-append (blocks (recovered_lines file)) (is_closed.byte ∷ is_closed.rest)) in
        let size : end + 1 + n ≡ end + length batch = omega (arith, ap length (tail_is batch), length-drop 1 batch, long_batch batch is) in
        inl (torn_front (end + 1) n file c long torn, omega (arith, torn.no_longer, size))

    pub gate_at : (mid : List ℕ) (old new : List ℕ → Type 0) → mid ≡ staged (recovered_lines file) is_closed.byte (drop 1 batch) left_of → Only mid old
        → Follows (Torn end (length (take 1 batch))) old new → (c : List ℕ) → new c → IsAtStage file end batch c
    gate_at mid old new same only follows c left =
        let from = follows c left in
        let one : length (take 1 batch) ≡ 1 = ap length (head_is batch is) in
        let torn = subst (λ (n : ℕ). Torn end n (staged (recovered_lines file) is_closed.byte (drop 1 batch) left_of) c) one (subst (λ f. Torn end (length (take 1 batch)) f c) (only from.0 from.1 ∙ same) from.2) in
        let size : end + 1 + length (drop 1 batch) ≡ end + length batch = omega (arith, length-drop 1 batch, long_batch batch is) in
        inr (torn_behind_gate (recovered_lines file) end is_closed.byte left_of batch (all_lines file) is_closed.ends is c torn
        ∙ ap (λ (l : List ℕ). drop 1 batch ++ l) (ap (drop (end + 1 + length (drop 1 batch))) (sym is_closed.split) ∙ ap (λ (n : ℕ). drop n file) size))

    -- while the closed byte is opened
    pub gate_crash : (mid : List ℕ) (old new : List ℕ → Type 0) → mid ≡ staged (recovered_lines file) is_closed.byte (drop 1 batch) left_of → Only mid old
        → Follows (Torn end (length (take 1 batch))) old new → (c : List ℕ) → new c → IsBeforeOrAfter (recovered_lines file) (recovered_lines batch) c
    gate_crash mid old new same only follows c left =
        let from = follows c left in
        let one : length (take 1 batch) ≡ 1 = ap length (head_is batch is) in
        torn_gate (recovered_lines file) end is_closed.byte left_of batch (all_lines file) is_closed.ends is c
        (subst (λ (n : ℕ). Torn end n (staged (recovered_lines file) is_closed.byte (drop 1 batch) left_of) c) one (subst (λ f. Torn end (length (take 1 batch)) f c) (only from.0 from.1 ∙ same) from.2))

    -- and after that
    pub opened_is : (mid new : List ℕ) → mid ≡ staged (recovered_lines file) is_closed.byte (drop 1 batch) left_of → Torn end (length (take 1 batch)) mid new
        → (0 < length (take 1 batch) → Holds new end (take 1 batch)) → new ≡ blocks (recovered_lines file ++ recovered_lines batch) ++ 0 ∷ left_of
    opened_is mid new same torn holds =
        let head = head_is batch is in
        let some : 0 < length (take 1 batch) = omega (arith, ap length head) in
        written_gate (recovered_lines file) end is_closed.byte left_of batch (all_lines file) is_closed.ends is new
        (subst (λ f. Torn end 1 f new) same (subst (λ (l : List ℕ). Torn end (length l) mid new) head torn))
        (subst (λ (l : List ℕ). Holds new end l) head (holds some))

    pub new_end : end + (length batch - 1) ≡ length (blocks (recovered_lines file ++ recovered_lines batch))
    new_end =
        omega (
          arith,
          is_closed.ends,
          ap length is.whole,
          length-append (blocks (recovered_lines batch)) (0 ∷ []),
          long_batch batch is,
          ap length (blocks-append (recovered_lines file) (recovered_lines batch)),
          length-append (blocks (recovered_lines file)) (blocks (recovered_lines batch)),
        )

-- a file with these lines and a closed byte
pub closed_at : (file : List ℕ) (end : ℕ) (lines : List (List ℕ)) (byte : ℕ) (rest : List ℕ) → AllLines lines → file ≡ blocks lines ++ byte ∷ rest → byte ≢ 123 → end ≡ length (blocks lines)
    → HasClosedByte file end × (recovered_lines file ≡ lines)
closed_at file end lines byte rest all is shut ends =
    let stands_for : recovered_lines file ≡ lines = ap recovered_lines is ∙ recovered_closed lines byte rest all shut in (
      record {
        byte = byte;
        rest = rest;
        split = is ∙ ap (λ (ls : List (List ℕ)). blocks ls ++ byte ∷ rest) (sym stands_for);
        shut = shut;
        ends = ends ∙ ap (λ (ls : List (List ℕ)). length (blocks ls)) (sym stands_for);
      },
      stands_for,
    )
