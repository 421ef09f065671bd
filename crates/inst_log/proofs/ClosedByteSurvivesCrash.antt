-- A file whose lines end by the closed byte 0 keeps it in each outcome of a crash, where a byte is left old or new.
use Rattle.std.proofs.Common.{◌≡◌, ◌⊎◌, inl, inr, ℕ, ◌+◌, ◌<◌, ◌≤◌, List, [], ◌∷◌, ◌++◌, length, take, drop, slice_index, get_or, refl, sym, ◌∙◌, ap, subst, arith, length-append}
use Rattle.std.proofs.lemmas.List.{append-nil}
use Rattle.std.proofs.Math.Seq.{get_or-append_seam}
use Rattle.std.proofs.lemmas.Bool.{cases_eq, cases_lt}
use Rattle.sqlite_disk.specs.Disk.{Torn, Mixed, Cut, Follows, Only}
use Rattle.inst_log.specs.Layout.{recovered_lines, blocks, IsBatch, HasClosedByte, IsShut, EndsWell}
use Rattle.inst_log.specs.inner.Opening.{IsBlanking}
use Rattle.inst_log.specs.Opening.{lines_after_settings, Begins, IsNewFile, OpensLog}
use Rattle.inst_log.proofs.BytesAfterTornWrites.{torn_front, torn_back, cut_front}
use Rattle.inst_log.proofs.Lines.{AllLines, AllLines-append, all_lines, recovered_closed, closed}
use Rattle.inst_log.proofs.FilesOpenWithSettings.{short_none, blank_none}
use Rattle.inst_log.proofs.CrashDuringAppend.{front_whole, staged, gate_is, opened_whole, head_is, batch_is}

-- lines, the closed byte 0, and anything
pub shut_at : (c : List ℕ) (lines : List (List ℕ)) (rest : List ℕ) → AllLines lines → c ≡ blocks lines ++ 0 ∷ rest → IsShut c
shut_at c lines rest all is =
    let same : recovered_lines c ≡ lines = ap recovered_lines is ∙ recovered_closed lines 0 rest all (omega arith) in
    record { rest = rest; split = is ∙ ap (λ (ls : List (List ℕ)). blocks ls ++ 0 ∷ rest) (sym same) }

module _ (file : List ℕ) (end : ℕ) (s : IsShut file) (ends : end ≡ length (blocks (recovered_lines file))) where
  abbrev pub as_closed : HasClosedByte file end
  as_closed = record { byte = 0; rest = s.rest; split = s.split; shut = omega arith; ends = ends }

  long : length file ≡ end + 1 + length s.rest
  long = omega (arith, ends, ap length s.split, length-append (blocks (recovered_lines file)) (0 ∷ s.rest))

  front_shut : (c : List ℕ) → take (end + 1) c ≡ take (end + 1) file → IsShut c
  front_shut c same =
      shut_at c (recovered_lines file) (drop (end + 1) c) (all_lines file)
      (front_whole (recovered_lines file) end 0 s.rest (all_lines file) (omega arith) ends c (same ∙ ap (take (end + 1)) s.split))

  -- while something is written behind the closed byte
  pub stage_shut : (n : ℕ) (old new : List ℕ → Type 0) → Only file old → Follows (Torn (end + 1) n) old new → (c : List ℕ) → new c → IsShut c
  stage_shut n old new only follows c left =
      let from = follows c left in
      let torn = subst (λ f. Torn (end + 1) n f c) (only from.0 from.1) from.2 in
      front_shut c (torn_front (end + 1) n file c (omega (arith, long)) torn)

  -- while what stands behind it is cut off
  pub cut_shut : (c : List ℕ) → Cut (end + 1) file c → IsShut c
  cut_shut c cut = front_shut c (cut_front (end + 1) file c (omega (arith, long)) cut)

  module _ (batch left : List ℕ) (is : IsBatch batch) where
    abbrev mid : List ℕ
    mid = staged (recovered_lines file) 0 (drop 1 batch) left

    closed_before : slice_index mid end ≡ 0
    closed_before =
        ap (slice_index mid) ends ∙ get_or-append_seam (blocks (recovered_lines file)) 0 (drop 1 batch ++ left) 0

    opened_or_shut : (c : List ℕ) (b : ℕ) → (b ≡ 0) ⊎ (b ≡ 123) → c ≡ blocks (recovered_lines file) ++ b ∷ (drop 1 batch ++ left) → IsShut c
    opened_or_shut c b (inl shut) whole =
        shut_at c (recovered_lines file) (drop 1 batch ++ left) (all_lines file) (whole ∙ ap (λ (x : ℕ). blocks (recovered_lines file) ++ x ∷ (drop 1 batch ++ left)) shut)
    opened_or_shut c b (inr gate) whole =
        shut_at c (recovered_lines file ++ recovered_lines batch) left (AllLines-append (recovered_lines file) (recovered_lines batch) (all_lines file) (all_lines batch))
        (whole ∙ ap (λ (x : ℕ). blocks (recovered_lines file) ++ x ∷ (drop 1 batch ++ left)) gate
        ∙ opened_whole (recovered_lines file) end 0 left batch (all_lines file) ends is)

    -- while the closed byte is opened
    mixed_shut : (c : List ℕ) → Mixed end (take 1 batch) mid c → IsShut c
    mixed_shut c mixed =
        let one : length (take 1 batch) ≡ 1 = ap length (head_is batch is) in
        let torn = subst (λ (n : ℕ). Torn end n mid c) one mixed.torn in
        let whole = gate_is (recovered_lines file) end 0 left batch (all_lines file) ends is c torn in
        let here : end + 0 ≡ end = omega arith in
        let inside : end + 0 < length mid = omega (arith, ends, length-append (blocks (recovered_lines file)) (0 ∷ (drop 1 batch ++ left))) in
        elim (mixed.each 0 (omega (arith, one)) inside) [
          | inl old ↦ opened_or_shut c (slice_index c end) (inl (sym (ap (slice_index c) here) ∙ old ∙ ap (slice_index mid) here ∙ closed_before)) whole
          | inr new ↦ opened_or_shut c (slice_index c end) (inr (sym (ap (slice_index c) here) ∙ new ∙ ap (λ (l : List ℕ). slice_index l 0) (head_is batch is))) whole
        ]

    pub gate_shut : (file' : List ℕ) (old new : List ℕ → Type 0) → file' ≡ mid → Only file' old → Follows (Mixed end (take 1 batch)) old new → (c : List ℕ) → new c → IsShut c
    gate_shut file' old new same only follows c left' =
        let from = follows c left' in
        mixed_shut c (subst (λ f. Mixed end (take 1 batch) f c) (only from.0 from.1 ∙ same) from.2)

-- ---- a new file gets its first lines

-- the settings stand whole, or no line does
pub begun_well : (settings : List ℕ) → IsBatch settings → (c : List ℕ) → drop 1 c ≡ drop 1 settings → EndsWell c
begun_well settings is [] same = inl refl
begun_well settings is (b ∷ rest) same = elim (cases_eq b 123) [
  | inl open_gate ↦
      let whole : b ∷ rest ≡ settings = ap (λ (x : ℕ). x ∷ rest) open_gate ∙ ap (λ (l : List ℕ). 123 ∷ l) same ∙ sym (batch_is settings is) in
      inr (shut_at (b ∷ rest) (recovered_lines settings) [] (all_lines settings) (whole ∙ is.whole))
  | inr shut ↦ inl (closed b rest shut)
]

all_but_first : (settings : List ℕ) → IsBatch settings → (c : List ℕ) → drop 1 c ≡ drop 1 settings → (recovered_lines c ≡ []) ⊎ (recovered_lines c ≡ recovered_lines settings)
all_but_first settings is [] same = inl refl
all_but_first settings is (b ∷ rest) same = elim (cases_eq b 123) [
  | inl open_gate ↦ inr (ap recovered_lines (ap (λ (x : ℕ). x ∷ rest) open_gate ∙ ap (λ (l : List ℕ). 123 ∷ l) same ∙ sym (batch_is settings is)))
  | inr shut ↦ inl (closed b rest shut)
]

new_well : (settings : List ℕ) → IsBatch settings → (file : List ℕ) → IsNewFile settings file → EndsWell file
new_well settings is file (inl short) = inl (short_none file short)
new_well settings is file (inr (inl blank)) = inl (blank_none file blank.0)
new_well settings is file (inr (inr same)) = begun_well settings is file same

torn_first : (file c : List ℕ) → Torn 0 1 file c → (length c ≤ 1) ⊎ (drop 1 c ≡ drop 1 file)
torn_first file c torn = elim (cases_lt 0 (length file)) [
  | inl some ↦ inr (torn_back 0 1 file c (omega arith) torn)
  | inr none ↦ inl (omega (arith, torn.no_longer))
]

-- while the closed byte is written to its beginning
pub blanking_well : (settings : List ℕ) → IsBatch settings → (file c : List ℕ) → IsNewFile settings file → IsBlanking file c → EndsWell c
blanking_well settings is file c new (inl same) = subst EndsWell (sym same) (new_well settings is file new)
blanking_well settings is file c (inl short) (inr over) = inl (short_none c (omega (arith, over.1.no_longer, short)))
blanking_well settings is file c (inr (inl blank)) (inr over) = absurd (over.0 blank.0)
blanking_well settings is file c (inr (inr same)) (inr over) = elim (torn_first file c over.1) [
  | inl short ↦ inl (short_none c short)
  | inr rest ↦ begun_well settings is c (rest ∙ same)
]

-- the closed byte stands at its beginning then
pub blanked_shut : (file : List ℕ) → take 1 file ≡ 0 ∷ [] → IsShut file
blanked_shut [] is = absurd (cc is)
blanked_shut (b ∷ rest) is =
    shut_at (b ∷ rest) [] rest tt (ap (λ (x : ℕ). x ∷ rest) (ap (λ (l : List ℕ). get_or l 0 0) is))

-- a log of these settings has a line
pub begins_well : (settings file : List ℕ) → IsBatch settings → Begins settings file → EndsWell file → IsShut file
begins_well settings file is begins (inl none) =
    absurd (omega (arith, is.some, ap length (sym none ∙ begins), length-append (recovered_lines settings) (lines_after_settings settings file)))
begins_well settings file is begins (inr shut) = shut

-- while a new file gets the settings it has no line, or them
pub none_or_begun : (settings : List ℕ) → IsBatch settings → (c : List ℕ) → OpensLog settings c → lines_after_settings settings c ≡ [] → (recovered_lines c ≡ []) ⊎ (recovered_lines c ≡ recovered_lines settings)
none_or_begun settings is c (inl begins) none =
    inr (begins ∙ ap (λ (ls : List (List ℕ)). recovered_lines settings ++ ls) none ∙ append-nil (recovered_lines settings))
none_or_begun settings is c (inr (inl short)) none = inl (short_none c short)
none_or_begun settings is c (inr (inr (inl blank))) none = inl (blank_none c blank.0)
none_or_begun settings is c (inr (inr (inr same))) none = all_but_first settings is c same
