-- Which files open with some settings, and what a crash leaves while a new one gets them.
use Rattle.std.proofs.Common.{◌≡◌, ◌≢◌, ◌⊎◌, inl, inr, ℕ, ◌+◌, ◌<◌, ◌≤◌, Bool, true, List, [], ◌∷◌, ◌++◌, length, take, drop, refl, sym, ◌∙◌, ap, subst, arith, append_assoc, length-append, get_or, ◌-◌, false, MatchBool, nat_eq}
use Rattle.std.proofs.lemmas.List.{append-nil, drop_all, drop_at, take_at, length-drop}
use Rattle.std.proofs.lemmas.Bool.{cases_eq, cases_lt, true≢false}
use Rattle.std.proofs.lemmas.Bool.Decides.{Decides-eqb}
use Rattle.std.proofs.lemmas.Slice.Eq.{slice_eq-Decides, starts_is}
use Rattle.std.specs.Cmp.Lexicographic.{pointwise}
use Rattle.sqlite_disk.specs.Disk.{Holds, Torn}
use Rattle.inst_log.specs.Layout.{recovered_lines, blocks, IsBatch, HasClosedByte}
use Rattle.inst_log.specs.Log.{IsAtStage}
use Rattle.inst_log.specs.Opening.{lines_after_settings, Begins, IsNewFile, OpensLog, OpensAlike}
use Rattle.inst_log.specs.inner.Opening.{IsBlanked, IsBlanking}
use Rattle.inst_log.proofs.BytesAfterTornWrites.{torn_back, written_is}
use Rattle.inst_log.proofs.Lines.{parts, all_lines, recovered_blocks, none_without_newline, closed, blocks-append}
use Rattle.inst_log.proofs.CrashDuringAppend.{batch_is, long_batch, closed_at}

pub short_none : (c : List ℕ) → length c ≤ 1 → recovered_lines c ≡ []
short_none [] short = refl
short_none (b ∷ []) short = elim (cases_eq b 123) [
  | inl is ↦ none_without_newline (b ∷ []) (omega arith, tt)
  | inr shut ↦ closed b [] shut
]
short_none (b ∷ d ∷ rest) short = absurd (omega arith)

pub blank_none : (c : List ℕ) → take 1 c ≡ 0 ∷ [] → recovered_lines c ≡ []
blank_none [] is = refl
blank_none (b ∷ rest) is =
    let zero : b ≡ 0 = ap (λ (l : List ℕ). get_or l 0 0) is in
    closed b rest (omega (arith, zero))

-- the settings without their closed byte
pub front_of_settings : (settings : List ℕ) → IsBatch settings → take (length settings - 1) settings ≡ blocks (recovered_lines settings)
front_of_settings settings is =
    let lines = blocks (recovered_lines settings) in
    let n : length lines ≡ length settings - 1 = omega (arith, ap length is.whole, length-append lines (0 ∷ [])) in
    ap (take (length settings - 1)) is.whole ∙ take_at lines (0 ∷ []) (length settings - 1) n

module _ (settings : List ℕ) (is : IsBatch settings) where
  abbrev Fresh : List ℕ → Type 0
  Fresh c = OpensLog settings c × (lines_after_settings settings c ≡ [])

  kept_none : (c : List ℕ) → recovered_lines c ≡ [] → lines_after_settings settings c ≡ []
  kept_none c none = ap (drop (length (recovered_lines settings))) none ∙ drop_all (length (recovered_lines settings)) [] (omega arith)

  pub short_fresh : (c : List ℕ) → length c ≤ 1 → Fresh c
  short_fresh c short = (inr (inl short), kept_none c (short_none c short))

  pub blank_fresh : (c : List ℕ) → take 1 c ≡ 0 ∷ [] → length c ≤ length settings → Fresh c
  blank_fresh c blank few = (inr (inr (inl (blank, few))), kept_none c (blank_none c blank))

  same_fresh : (c : List ℕ) → recovered_lines c ≡ recovered_lines settings → Fresh c
  same_fresh c same =
      let none : lines_after_settings settings c ≡ [] = ap (drop (length (recovered_lines settings))) same ∙ drop_all (length (recovered_lines settings)) (recovered_lines settings) (omega arith) in
      (inl (same ∙ sym (append-nil (recovered_lines settings)) ∙ ap (λ (ls : List (List ℕ)). recovered_lines settings ++ ls) (sym none)), none)

  pub gate_fresh : (c : List ℕ) → drop 1 c ≡ drop 1 settings → Fresh c
  gate_fresh [] same = short_fresh [] (omega arith)
  gate_fresh (b ∷ rest) same = elim (cases_eq b 123) [
    | inl is_open ↦
        let whole : b ∷ rest ≡ settings = ap (λ (x : ℕ). x ∷ rest) is_open ∙ ap (λ (l : List ℕ). 123 ∷ l) same ∙ sym (batch_is settings is) in
        same_fresh (b ∷ rest) (ap recovered_lines whole)
    | inr shut ↦ (inr (inr (inr same)), kept_none (b ∷ rest) (closed b rest shut))
  ]

  pub new_fresh : (c : List ℕ) → IsNewFile settings c → Fresh c
  new_fresh c (inl short) = short_fresh c short
  new_fresh c (inr (inl blank)) = blank_fresh c blank.0 blank.1
  new_fresh c (inr (inr same)) = gate_fresh c same

  -- while the settings go behind the closed byte
  pub stage_fresh : (file c : List ℕ) → take 1 file ≡ 0 ∷ [] → length file ≤ length settings → IsAtStage file 0 settings c → Fresh c
  stage_fresh file c blank few (inl front) = blank_fresh c (front.0 ∙ blank) (omega (arith, front.1, few))
  stage_fresh file c blank few (inr back) =
      gate_fresh c (back ∙ ap (λ (l : List ℕ). drop 1 settings ++ l) (drop_all (0 + length settings) file (omega (arith, few))) ∙ append-nil (drop 1 settings))

  -- while the closed byte is written over a first byte that is none
  torn_one : (file c : List ℕ) → Torn 0 1 file c → (length c ≤ 1) ⊎ (drop 1 c ≡ drop 1 file)
  torn_one file c torn = elim (cases_lt 0 (length file)) [
    | inl some ↦ inr (torn_back 0 1 file c (omega arith) torn)
    | inr none ↦ inl (omega (arith, torn.no_longer))
  ]

  pub blank_crash : (file c : List ℕ) → IsNewFile settings file → IsBlanking file c → Fresh c
  blank_crash file c new (inl same) = subst Fresh (sym same) (new_fresh file new)
  blank_crash file c (inl short) (inr over) = short_fresh c (omega (arith, over.1.no_longer, short))
  blank_crash file c (inr (inl blank)) (inr over) = absurd (over.0 blank.0)
  blank_crash file c (inr (inr same)) (inr over) = elim (torn_one file c over.1) [
    | inl short ↦ short_fresh c short
    | inr rest ↦ gate_fresh c (rest ∙ same)
  ]

  long_new : (file : List ℕ) → IsNewFile settings file → length file ≤ length settings
  long_new file (inl short) = omega (arith, long_batch settings is)
  long_new file (inr (inl blank)) = blank.1
  long_new file (inr (inr same)) = omega (arith, long_batch settings is, ap length same, length-drop 1 file, length-drop 1 settings)

  -- while the settings go to a file that was blanked
  pub begin_crash : (file new c : List ℕ) → IsNewFile settings file → IsBlanked file new → IsAtStage new 0 settings c → Fresh c
  begin_crash file new c fresh blanked at =
      stage_fresh new c blanked.0 (omega (arith, blanked.1, long_new file fresh, long_batch settings is)) at

pub blanked : (file new : List ℕ) → Torn 0 1 file new → Holds new 0 (0 ∷ []) → IsBlanked file new
blanked file new torn holds = (ap (take 1) (written_is 0 (0 ∷ []) file new (omega arith) torn holds), torn.no_longer)

-- a file with the closed byte at its beginning
pub blank_closed : (file : List ℕ) → take 1 file ≡ 0 ∷ [] → HasClosedByte file 0 × (recovered_lines file ≡ [])
blank_closed [] is = absurd (cc is)
blank_closed (b ∷ rest) is =
    let zero : b ≡ 0 = ap (λ (l : List ℕ). get_or l 0 0) is in
    closed_at (b ∷ rest) 0 [] b rest tt refl (omega (arith, zero)) refl

-- what a test of the first bytes tells
pub begins_yes : (settings file : List ℕ) → IsBatch settings → file ≡ blocks (recovered_lines settings) ++ drop (length (blocks (recovered_lines settings))) file → Begins settings file
begins_yes settings file is same =
    let lines = recovered_lines settings in
    let rest = drop (length (blocks lines)) file in
    let split : recovered_lines file ≡ lines ++ recovered_lines rest = ap recovered_lines same ∙ recovered_blocks lines rest (all_lines settings) in
    split ∙ ap (λ (ls : List (List ℕ)). lines ++ ls) (sym (ap (drop (length lines)) split ∙ drop_at lines (recovered_lines rest) (length lines) refl))

pub begins_split : (settings file : List ℕ) → Begins settings file → (rest : List ℕ) × (file ≡ blocks (recovered_lines settings) ++ rest)
begins_split settings file begins =
    let lines = recovered_lines settings in
    let more = lines_after_settings settings file in
    let end = (parts file).end in (
      blocks more ++ end,
      (parts file).split ∙ ap (λ (ls : List (List ℕ)). blocks ls ++ end) begins ∙ ap (λ (l : List ℕ). l ++ end) (blocks-append lines more)
          ∙ append_assoc (blocks lines) (blocks more) end,
    )

-- the test of the first bytes, either way
pub begins_test : (settings file front : List ℕ) (r : Bool) → IsBatch settings → front ≡ take (length settings - 1) settings
    → r ≡ pointwise nat_eq front (take (length front) file) → MatchBool r (Begins settings file) (Begins settings file → ⊥)
begins_test settings file front true is cut e =
    let same = cut ∙ front_of_settings settings is in
    begins_yes settings file is (subst (λ (l : List ℕ). file ≡ l ++ drop (length l) file) same ((starts_is Decides-eqb file front true e).0 refl))
begins_test settings file front false is cut e = λ begins.
    let same = cut ∙ front_of_settings settings is in
    let s = begins_split settings file begins in
    true≢false (sym ((starts_is Decides-eqb file front false e).1 s.0 (s.1 ∙ ap (λ (l : List ℕ). l ++ s.0) (sym same))))

-- the test of all but the first byte, of a file that is longer than that and not blank
pub new_test : (settings file a b : List ℕ) (r : Bool) → 1 < length file → take 1 file ≢ 0 ∷ [] → a ≡ drop 1 file → b ≡ drop 1 settings
    → r ≡ pointwise nat_eq a b → MatchBool r (IsNewFile settings file) (IsNewFile settings file → ⊥)
new_test settings file a b true long other ha hb e = inr (inr (sym ha ∙ (slice_eq-Decides Decides-eqb a b true e).0 refl ∙ hb))
new_test settings file a b false long other ha hb e = λ new. elim new [
  | inl short ↦ omega (arith, long, short)
  | inr more ↦ elim more [
    | inl blank ↦ other blank.0
    | inr same ↦ true≢false (sym ((slice_eq-Decides Decides-eqb a b false e).1 (ha ∙ same ∙ sym hb)))
  ]
]

-- what opening a new file makes of it
pub new_lines : (settings file : List ℕ) → IsBatch settings → IsNewFile settings file → recovered_lines settings ≡ recovered_lines settings ++ lines_after_settings settings file
new_lines settings file is new =
    sym (append-nil (recovered_lines settings)) ∙ ap (λ (ls : List (List ℕ)). recovered_lines settings ++ ls) (sym (new_fresh settings is file new).1)

pub new_alike : (settings file c : List ℕ) → IsBatch settings → IsNewFile settings file → OpensLog settings c × (lines_after_settings settings c ≡ []) → OpensAlike settings file c
new_alike settings file c is new at = record { lines = at.1 ∙ sym (new_fresh settings is file new).1; opens = λ _. at.0 }

-- how long a text is that begins with the settings
pub batch_length : (settings : List ℕ) → IsBatch settings → length settings ≡ length (blocks (recovered_lines settings)) + 1
batch_length settings is = omega (arith, ap length is.whole, length-append (blocks (recovered_lines settings)) (0 ∷ []))

pub front_length : (settings file : List ℕ) → IsBatch settings → Begins settings file → length settings ≤ length (blocks (recovered_lines file)) + 1
front_length settings file is begins =
    omega (
      arith,
      batch_length settings is,
      ap (λ (ls : List (List ℕ)). length (blocks ls)) begins,
      ap length (blocks-append (recovered_lines settings) (lines_after_settings settings file)),
      length-append (blocks (recovered_lines settings)) (blocks (lines_after_settings settings file)),
    )
