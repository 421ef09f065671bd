-- A file that is read in pieces, and what its beginning tells.
use Rattle.std.proofs.Common.{◌≡◌, ◌≢◌, ◌⊎◌, inl, inr, ℕ, suc, min, ◌+◌, ◌-◌, ◌<◌, ◌≤◌, Bool, true, false, List, [], ◌∷◌, ◌++◌, length, take, drop, slice_index, MatchBool, refl, sym, ◌∙◌, ap, subst, arith, append_assoc, length-append, take-append-drop}
use Rattle.std.proofs.lemmas.List.{append-nil, append_cancel_left, drop_at, drop-drop, drop_all, take_all, take_at, take-append-le, length-drop as dropped, length-take as taken}
use Rattle.std.proofs.lemmas.Grind.{elements}
use Rattle.std.proofs.lemmas.Bool.{cases_eq, cases_lt}
use Rattle.std.proofs.lemmas.Bool.Decides.{nat_tests}
use Rattle.std.proofs.Math.Seq.{get_or-append_seam, take-append-add}
use Rattle.sqlite_disk.specs.Disk.{Holds}
use Rattle.inst_log.specs.Layout.{recovered_lines, blocks, IsBatch, AreWholeLines, HasClosedByte, IsShut, IsFirstLine}
use Rattle.inst_log.specs.inner.Layout.{IsUnclosed}
use Rattle.inst_log.specs.Opening.{lines_after_settings, Begins, IsNewFile, OpensLog, IsSameOrBegun}
use Rattle.inst_log.specs.Pieces.{cannot_begin, is_shut, stops, has_more, HasCut, IsReading, IsExtent, IsFrontFor, Starts}
use Rattle.inst_log.specs.declared.line_cutter.LineCutter.{LineCutter}
use Rattle.inst_log.specs.declared.file_lines.FileLines.{FileLines}
use Rattle.inst_log.specs.declared.extent.Extent.{Extent}
use Rattle.inst_log.specs.declared.start.Start.{Start}
use Rattle.inst_log.specs.declared.start.Start.TheVariants as start
use Rattle.inst_log.proofs.Lines.{AllLines, all_lines, AllLines-append, parts, recovered_blocks, blocks-append, closed}
use Rattle.inst_log.proofs.CrashDuringRepair.{front_of_file, closed_there, unclosed_there}
use Rattle.inst_log.proofs.FilesOpenWithSettings.{begins_yes, begins_split, batch_length, front_of_settings, new_lines}
use Rattle.inst_log.proofs.CrashDuringAppend.{long_batch}

-- lines, of which each is a list
abbrev Lines : Type 0
Lines = List (List ℕ)

-- lines that come back are lines
pub lines_are : (lines : Lines) → recovered_lines (blocks lines) ≡ lines → AllLines lines
lines_are lines are = subst AllLines are (all_lines (blocks lines))

pub lines_back : (lines : Lines) → AllLines lines → recovered_lines (blocks lines) ≡ lines
lines_back lines all = ap recovered_lines (sym (append-nil (blocks lines))) ∙ recovered_blocks lines [] all ∙ append-nil lines

-- ---- the lines that end in a piece

pub front_lines : (held lines : List ℕ) (n : ℕ) → n ≡ length (blocks (recovered_lines held)) → lines ≡ take n held → recovered_lines lines ≡ recovered_lines held
front_lines held lines n size is = ap recovered_lines (is ∙ front_of_file held n size) ∙ lines_back (recovered_lines held) (all_lines held)

pub front_whole : (held lines : List ℕ) (n : ℕ) → n ≡ length (blocks (recovered_lines held)) → lines ≡ take n held → AreWholeLines lines
front_whole held lines n size is = is ∙ front_of_file held n size ∙ ap blocks (sym (front_lines held lines n size is))

module _ (file : List ℕ) (cutter : LineCutter) (done : Lines) (h : HasCut file cutter done) where
  -- where the lines end that were cut
  pub cut_end : cutter.at ≡ length (blocks done) + length cutter.held.items
  cut_end =
      omega (
        arith,
        h.within,
        ap length h.split,
        length-append (blocks done) (cutter.held.items ++ drop cutter.at file),
        length-append cutter.held.items (drop cutter.at file),
        dropped cutter.at file,
      )

  pub file_lines : recovered_lines file ≡ done ++ recovered_lines (cutter.held.items ++ drop cutter.at file)
  file_lines = ap recovered_lines h.split ∙ recovered_blocks done (cutter.held.items ++ drop cutter.at file) (lines_are done h.are)

  module _ (piece : List ℕ) (next : piece ≡ take (length piece) (drop cutter.at file)) where
    abbrev held : List ℕ
    held = cutter.held.items ++ piece

    abbrev behind : List ℕ
    behind = drop (length piece) (drop cutter.at file)

    joined : cutter.held.items ++ drop cutter.at file ≡ held ++ behind
    joined =
        ap (λ (l : List ℕ). cutter.held.items ++ l) (sym (take-append-drop (length piece) (drop cutter.at file)) ∙ ap (λ (l : List ℕ). l ++ behind) (sym next))
        ∙ sym (append_assoc cutter.held.items piece behind)

    pub cut_more : (new : LineCutter) (n : ℕ) (lines : List ℕ) → n ≡ length (blocks (recovered_lines held)) → new.held.items ≡ drop n held → new.at ≡ cutter.at + length piece
        → cutter.at + length piece ≤ length file → recovered_lines lines ≡ recovered_lines held → HasCut file new (done ++ recovered_lines lines)
    cut_more new n lines size rest at within same =
        let all = AllLines-append done (recovered_lines held) (lines_are done h.are) (all_lines held) in
        let left : new.held.items ≡ (parts held).end = rest ∙ ap (drop n) (parts held).split ∙ drop_at (blocks (recovered_lines held)) (parts held).end n (sym size) in
        let later : drop new.at file ≡ behind = ap (λ (k : ℕ). drop k file) at ∙ sym (drop-drop (length piece) cutter.at file) in
        let cut : HasCut file new (done ++ recovered_lines held) = record {
          are = lines_back (done ++ recovered_lines held) all;
          split =
              h.split ∙ ap (λ (l : List ℕ). blocks done ++ l) joined
              ∙ ap (λ (l : List ℕ). blocks done ++ (l ++ behind)) (parts held).split
              ∙ ap (λ (l : List ℕ). blocks done ++ l) (append_assoc (blocks (recovered_lines held)) (parts held).end behind)
              ∙ sym (append_assoc (blocks done) (blocks (recovered_lines held)) ((parts held).end ++ behind))
              ∙ ap (λ (l : List ℕ). l ++ ((parts held).end ++ behind)) (sym (blocks-append done (recovered_lines held)))
              ∙ (λ i. blocks (done ++ recovered_lines held) ++ (sym left i ++ sym later i));
          within = subst (λ (k : ℕ). k ≤ length file) (sym at) within;
          held = ap recovered_lines left ∙ (parts held).nothing;
        } in
        subst (λ (ls : Lines). HasCut file new (done ++ ls)) (sym same) cut

  -- ---- the end of the file

  nothing_left : (held rest : List ℕ) → recovered_lines held ≡ [] → (rest ≡ []) ⊎ (cannot_begin held ≡ true) → recovered_lines (held ++ rest) ≡ []
  nothing_left held rest none (inl all) = ap (λ (l : List ℕ). recovered_lines (held ++ l)) all ∙ ap recovered_lines (append-nil held) ∙ none
  nothing_left [] rest none (inr stop) = absurd (cc stop)
  nothing_left (b ∷ held) rest none (inr stop) = elim (cases_eq b 123) [
    | inl gate ↦ absurd (grind (arith, nat_tests, gate, stop))
    | inr shut ↦ closed b (held ++ rest) shut
  ]

  pub all_cut : (drop cutter.at file ≡ []) ⊎ (cannot_begin cutter.held.items ≡ true) → recovered_lines file ≡ done
  all_cut through =
      file_lines ∙ ap (λ (ls : Lines). done ++ ls) (nothing_left cutter.held.items (drop cutter.at file) h.held through) ∙ append-nil done

  -- the byte after the lines
  byte_behind : (held rest : List ℕ) (end : ℕ) → file ≡ blocks done ++ (held ++ rest) → end ≡ length (blocks done) → 0 < length held → slice_index file end ≡ slice_index held 0
  byte_behind [] rest end split ends some = absurd (omega (arith, some))
  byte_behind (b ∷ held) rest end split ends some =
      (λ i. slice_index (split i) (ends i)) ∙ get_or-append_seam (blocks done) b (held ++ rest) 0

  shut_first : (held : List ℕ) → cannot_begin held ≡ true → (0 < length held) × (slice_index held 0 ≢ 123)
  shut_first [] stop = absurd (cc stop)
  shut_first (b ∷ held) stop = (omega arith, λ gate. absurd (grind (arith, nat_tests, gate, stop)))

  gate_first : (held : List ℕ) → cannot_begin held ≡ false → 0 < length held → slice_index held 0 ≡ 123
  gate_first [] stop some = absurd (omega (arith, some))
  gate_first (b ∷ held) stop some = elim (cases_eq b 123) [
    | inl gate ↦ gate
    | inr shut ↦ absurd (grind (arith, nat_tests, shut, stop))
  ]

  module _ (end : ℕ) (ends : end ≡ length (blocks (recovered_lines file))) (all : recovered_lines file ≡ done) where
    here : end ≡ length (blocks done)
    here = ends ∙ ap (λ (ls : Lines). length (blocks ls)) all

    long : length file ≡ end + length cutter.held.items + length (drop cutter.at file)
    long = omega (arith, here, ap length h.split, length-append (blocks done) (cutter.held.items ++ drop cutter.at file), length-append cutter.held.items (drop cutter.at file))

    pub closed_or_not : (drop cutter.at file ≡ []) ⊎ (cannot_begin cutter.held.items ≡ true) → MatchBool (cannot_begin cutter.held.items) ((end < length file) × (slice_index file end ≢ 123)) ((length file ≤ end) ⊎ (slice_index file end ≡ 123))
    closed_or_not through = stands (cannot_begin cutter.held.items) refl through
      where
        none_held : (drop cutter.at file ≡ []) ⊎ (cannot_begin cutter.held.items ≡ true) → cannot_begin cutter.held.items ≡ false → drop cutter.at file ≡ []
        none_held (inl none) open_gate = none
        none_held (inr stop) open_gate = absurd (cc (stop, open_gate))

        stands : (b : Bool) → cannot_begin cutter.held.items ≡ b → (drop cutter.at file ≡ []) ⊎ (cannot_begin cutter.held.items ≡ true) → MatchBool b ((end < length file) × (slice_index file end ≢ 123)) ((length file ≤ end) ⊎ (slice_index file end ≡ 123))
        stands true stop through =
            let first = shut_first cutter.held.items stop in
            let byte = byte_behind cutter.held.items (drop cutter.at file) end h.split here first.0 in
            (omega (arith, long, first.0), λ gate. first.1 (sym byte ∙ gate))
        stands false open_gate through = elim (cases_lt 0 (length cutter.held.items)) [
          | inl some ↦
              let byte = byte_behind cutter.held.items (drop cutter.at file) end h.split here some in
              inr (byte ∙ gate_first cutter.held.items open_gate some)
          | inr none ↦ inl (omega (arith, long, none, ap length (none_held through open_gate)))
        ]

-- what was read of a file
pub holds_is : (file bytes : List ℕ) (at : ℕ) → Holds file at bytes → bytes ≡ take (length bytes) (drop at file)
holds_is file bytes at h = grind (arith, elements, h.within, h.each)

-- ---- the first lines, one by one

pub one_more : (lines : Lines) (k : ℕ) (line : List ℕ) (more : Lines) → drop k lines ≡ line ∷ more
    → (k + 1 ≤ length lines) × (take (k + 1) lines ≡ take k lines ++ line ∷ []) × (more ≡ drop (k + 1) lines)
one_more lines k line more next =
    let some : k + 1 ≤ length lines = omega (arith, ap length next, dropped k lines) in
    let split : lines ≡ (take k lines ++ line ∷ []) ++ more =
    sym (take-append-drop k lines) ∙ ap (λ (l : Lines). take k lines ++ l) next ∙ sym (append_assoc (take k lines) (line ∷ []) more) in
    let size : k + 1 ≡ length (take k lines ++ line ∷ []) = omega (arith, length-append (take k lines) (line ∷ []), taken k lines, some) in (
      some,
      ap (take (k + 1)) split ∙ take_at (take k lines ++ line ∷ []) more (k + 1) (sym size),
      sym (ap (drop (k + 1)) split ∙ drop_at (take k lines ++ line ∷ []) more (k + 1) (sym size)),
    )

pub next_line : (bytes rest : List ℕ) (k n : ℕ) → recovered_lines rest ≡ drop k (recovered_lines bytes)
    → length (blocks (take k (recovered_lines bytes))) + length rest ≡ length bytes → IsFirstLine rest n
    → (k + 1 ≤ length (recovered_lines bytes)) × (recovered_lines (drop n rest) ≡ drop (k + 1) (recovered_lines bytes))
    × (length (blocks (take (k + 1) (recovered_lines bytes))) + length (drop n rest) ≡ length bytes)
next_line bytes rest k n left size first =
    let line = take (n - 1) rest in
    let one = one_more (recovered_lines bytes) k line (recovered_lines (drop n rest)) (sym left ∙ first.lines) in (
      one.0,
      one.2,
      omega (
        arith,
        size,
        first.some,
        first.within,
        dropped n rest,
        taken (n - 1) rest,
        ap (λ (ls : Lines). length (blocks ls)) one.1,
        ap length (blocks-append (take k (recovered_lines bytes)) (line ∷ [])),
        length-append (blocks (take k (recovered_lines bytes))) (blocks (line ∷ [])),
        length-append line (10 ∷ []),
      ),
    )

pub no_more_lines : (bytes rest : List ℕ) (k count : ℕ) → k ≤ count → recovered_lines rest ≡ drop k (recovered_lines bytes) → recovered_lines rest ≡ []
    → take count (recovered_lines bytes) ≡ take k (recovered_lines bytes)
no_more_lines bytes rest k count within left none =
    let short : length (recovered_lines bytes) ≤ k = omega (arith, ap length (sym left ∙ none), dropped k (recovered_lines bytes)) in
    take_all count (recovered_lines bytes) (omega (arith, short, within)) ∙ sym (take_all k (recovered_lines bytes) short)

-- the lines of a file begin with those that were read
pub enough_lines : (file : List ℕ) (cutter : LineCutter) (done : Lines) (count : ℕ) → HasCut file cutter done → count ≤ length done → take count (recovered_lines file) ≡ take count done
enough_lines file cutter done count h enough =
    ap (take count) (file_lines file cutter done h) ∙ take-append-le count done (recovered_lines (cutter.held.items ++ drop cutter.at file)) enough

pub blocks_long : (lines : Lines) → length lines ≤ length (blocks lines)
blocks_long [] = omega arith
blocks_long (line ∷ lines) = omega (arith, blocks_long lines, length-append line (10 ∷ blocks lines))

pub lines_short : (bytes : List ℕ) → length (recovered_lines bytes) ≤ length bytes
lines_short bytes = omega (arith, blocks_long (recovered_lines bytes), ap length (parts bytes).split, length-append (blocks (recovered_lines bytes)) (parts bytes).end)

-- whole lines, and then others
pub lines_more : (a b : List ℕ) → AreWholeLines a → recovered_lines (a ++ b) ≡ recovered_lines a ++ recovered_lines b
lines_more a b whole = ap (λ (l : List ℕ). recovered_lines (l ++ b)) whole ∙ recovered_blocks (recovered_lines a) b (all_lines a)

pub whole_more : (a b : List ℕ) → AreWholeLines a → AreWholeLines b → AreWholeLines (a ++ b)
whole_more a b one other =
    (λ i. one i ++ other i) ∙ sym (blocks-append (recovered_lines a) (recovered_lines b)) ∙ ap blocks (sym (lines_more a b one))

-- the first of whole lines
pub first_of : (text : List ℕ) (count n : ℕ) → AreWholeLines text → n ≡ length (blocks (take count (recovered_lines text))) → take n text ≡ blocks (take count (recovered_lines text))
first_of text count n whole size =
    let lines = recovered_lines text in
    let split : text ≡ blocks (take count lines) ++ blocks (drop count lines) =
    whole ∙ ap blocks (sym (take-append-drop count lines)) ∙ blocks-append (take count lines) (drop count lines) in
    ap (take n) split ∙ take_at (blocks (take count lines)) (blocks (drop count lines)) n (sym size)

-- ---- how far the lines go

-- all was read, or no line begins there
pub through : (file : List ℕ) (lines : FileLines) (done : Lines) → IsReading file lines done → has_more lines ≡ false
    → (drop lines.cutter.at file ≡ []) ⊎ (cannot_begin lines.cutter.held.items ≡ true)
through file lines done r no_more = elim (cases_lt lines.cutter.at lines.len) [
  | inl more ↦ inr (grind (arith, nat_tests, more, no_more))
  | inr all ↦ inl (drop_all lines.cutter.at file (omega (arith, all, r.len)))
]

pub read_extent : (file : List ℕ) (lines : FileLines) (done : Lines) (extent : Extent) → IsReading file lines done → has_more lines ≡ false
    → extent.len ≡ lines.len → extent.end ≡ lines.cutter.at - length lines.cutter.held.items → extent.is_closed ≡ stops lines.cutter
    → (recovered_lines file ≡ done) × IsExtent file extent
read_extent file lines done extent r no_more len end closed =
    let at_end = through file lines done r no_more in
    let all = all_cut file lines.cutter done r.cut at_end in
    let ends : extent.end ≡ length (blocks (recovered_lines file)) = omega (arith, end, cut_end file lines.cutter done r.cut, ap (λ (ls : Lines). length (blocks ls)) all) in (
      all,
      record {
        len = len ∙ r.len;
        end = ends;
        closed = subst (λ (b : Bool). MatchBool b ((extent.end < length file) × (slice_index file extent.end ≢ 123)) ((length file ≤ extent.end) ⊎ (slice_index file extent.end ≡ 123))) (sym closed) (closed_or_not file lines.cutter done r.cut extent.end ends all at_end);
      },
    )

-- the closed byte 0 follows the lines, or it doesn't
shut_by : (file : List ℕ) (done : Lines) (held rest : List ℕ) → file ≡ blocks done ++ (held ++ rest) → recovered_lines file ≡ done → is_shut held ≡ true → IsShut file
shut_by file done [] rest split all first = absurd (cc first)
shut_by file done (b ∷ held) rest split all first = elim (cases_eq b 0) [
  | inl zero ↦ record {
    rest = held ++ rest;
    split = split ∙ (λ i. blocks (sym all i) ++ (zero i ∷ (held ++ rest)));
  }
  | inr other ↦ absurd (grind (arith, nat_tests, other, first))
]

not_shut_by : (file : List ℕ) (done : Lines) (held rest : List ℕ) → file ≡ blocks done ++ (held ++ rest) → recovered_lines file ≡ done → (rest ≡ []) ⊎ (cannot_begin held ≡ true)
    → is_shut held ≡ false → IsShut file → ⊥
not_shut_by file done held rest split all at_end first s = behind held at_end first
    (append_cancel_left (blocks done) (held ++ rest) (0 ∷ s.rest) (sym split ∙ s.split ∙ ap (λ (ls : Lines). blocks ls ++ 0 ∷ s.rest) all))
  where
    behind : (held : List ℕ) → (rest ≡ []) ⊎ (cannot_begin held ≡ true) → is_shut held ≡ false → held ++ rest ≡ 0 ∷ s.rest → ⊥
    behind [] (inl none) first same = cc (none, same)
    behind [] (inr stop) first same = cc stop
    behind (b ∷ held) at_end first same =
        let zero : b ≡ 0 = ap (λ (l : List ℕ). slice_index l 0) same in
        absurd (grind (arith, nat_tests, zero, first))

shut_cases : (file : List ℕ) (lines : FileLines) (done : Lines) (b : Bool) → IsReading file lines done → has_more lines ≡ false → is_shut lines.cutter.held.items ≡ b
    → MatchBool b (IsShut file) (IsShut file → ⊥)
shut_cases file lines done true r no_more first =
    let at_end = through file lines done r no_more in
    shut_by file done lines.cutter.held.items (drop lines.cutter.at file) r.cut.split (all_cut file lines.cutter done r.cut at_end) first
shut_cases file lines done false r no_more first =
    let at_end = through file lines done r no_more in
    not_shut_by file done lines.cutter.held.items (drop lines.cutter.at file) r.cut.split (all_cut file lines.cutter done r.cut at_end) at_end first

pub shut_or_not : (file : List ℕ) (lines : FileLines) (done : Lines) (b : Bool) → IsReading file lines done → has_more lines ≡ false → b ≡ is_shut lines.cutter.held.items
    → MatchBool b (IsShut file) (IsShut file → ⊥)
shut_or_not file lines done b r no_more is = shut_cases file lines done b r no_more (sym is)

abbrev Ends : List ℕ → ℕ → Bool → Type 0
Ends file end b = MatchBool b ((end < length file) × (slice_index file end ≢ 123)) ((length file ≤ end) ⊎ (slice_index file end ≡ 123))

pub closed_at_extent : (file : List ℕ) (extent : Extent) → IsExtent file extent → extent.is_closed ≡ true → HasClosedByte file extent.end
closed_at_extent file extent e is =
    let first : Ends file extent.end true = subst (Ends file extent.end) is e.closed in
    closed_there file extent.end e.end first.0 first.1

pub unclosed_at_extent : (file : List ℕ) (extent : Extent) → IsExtent file extent → extent.is_closed ≡ false → IsUnclosed file extent.end
unclosed_at_extent file extent e is =
    let first : Ends file extent.end false = subst (Ends file extent.end) is e.closed in
    unclosed_there file extent.end e.end first

-- lines that end by the closed byte 0 are closed
pub shut_is_closed : (file : List ℕ) (extent : Extent) → IsExtent file extent → extent.is_closed ≡ false → IsShut file → ⊥
shut_is_closed file extent e is s =
    let lines = blocks (recovered_lines file) in
    let first : Ends file extent.end false = subst (Ends file extent.end) is e.closed in
    let byte : slice_index file extent.end ≡ 0 = (λ i. slice_index (s.split i) (e.end i)) ∙ get_or-append_seam lines 0 s.rest 0 in
    elim first [
      | inl short ↦ omega (arith, short, e.end, ap length s.split, length-append lines (0 ∷ s.rest))
      | inr gate ↦ omega (arith, byte, gate)
    ]

pub no_blocks : (lines : Lines) → length (blocks lines) ≤ 0 → lines ≡ []
no_blocks [] none = refl
no_blocks (line ∷ lines) none = absurd (omega (arith, none, length-append line (10 ∷ blocks lines)))

pub some_blocks : (lines : Lines) → 0 < length (blocks lines) → 0 < length lines
some_blocks [] some = absurd (omega (arith, some))
some_blocks (line ∷ lines) some = omega arith

-- ---- what the beginning of a file tells

pub take_min : (n k : ℕ) (file : List ℕ) → n ≡ min (length file) k → take n file ≡ take k file
take_min n k file is = elim (cases_lt k (length file)) [
  | inl short ↦ let same : n ≡ k = omega (arith, is, short) in ap (λ (m : ℕ). take m file) same
  | inr long ↦ take_all n file (omega (arith, is, long)) ∙ sym (take_all k file (omega (arith, long)))
]

-- what is left of a new file while it gets its settings
pub none_or_begun : (settings file c : List ℕ) → recovered_lines file ≡ [] → (recovered_lines c ≡ []) ⊎ (recovered_lines c ≡ recovered_lines settings) → IsSameOrBegun settings file c
none_or_begun settings file c none (inl same) = inl (same ∙ sym none)
none_or_begun settings file c none (inr begun) = inr (none, begun)

module _ (settings front file : List ℕ) (is : IsBatch settings) (f : IsFrontFor settings front file) where
  same_short : length file ≤ length settings + 1 → front ≡ file
  same_short short = f ∙ take_all (length settings + 1) file short

  front_long : length settings + 1 ≤ length file → length front ≡ length settings + 1
  front_long long = omega (arith, ap length f, taken (length settings + 1) file)

  pub first_same : take 1 front ≡ take 1 file
  first_same = ap (take 1) f ∙ first_of (length settings) file
    where
      first_of : (n : ℕ) (l : List ℕ) → take 1 (take (n + 1) l) ≡ take 1 l
      first_of n [] = let one : n + 1 ≡ suc n = omega arith in ap (λ (k : ℕ). take 1 (take k [])) one
      first_of n (b ∷ l) = let one : n + 1 ≡ suc n = omega arith in ap (λ (k : ℕ). take 1 (take k (b ∷ l))) one

  not_new : (c : List ℕ) → length settings < length c → IsNewFile settings c → ⊥
  not_new c long (inl short) = omega (arith, long, short, long_batch settings is)
  not_new c long (inr (inl blank)) = omega (arith, long, blank.1)
  not_new c long (inr (inr same)) = omega (arith, long, long_batch settings is, ap length same, dropped 1 c, dropped 1 settings)

  pub front_new : IsNewFile settings front → IsNewFile settings file
  front_new new = elim (cases_lt (length settings) (length file)) [
    | inl long ↦ absurd (not_new front (omega (arith, front_long (omega (arith, long)))) new)
    | inr short ↦ subst (IsNewFile settings) (same_short (omega (arith, short))) new
  ]

  pub file_new : IsNewFile settings file → IsNewFile settings front
  file_new new = elim (cases_lt (length settings) (length file)) [
    | inl long ↦ absurd (not_new file long new)
    | inr short ↦ subst (IsNewFile settings) (sym (same_short (omega (arith, short)))) new
  ]

  pub front_begins : Begins settings front → Begins settings file
  front_begins begins =
      let s = begins_split settings front begins in
      let lines = blocks (recovered_lines settings) in
      let whole : file ≡ lines ++ (s.0 ++ drop (length settings + 1) file) =
      sym (take-append-drop (length settings + 1) file) ∙ ap (λ (l : List ℕ). l ++ drop (length settings + 1) file) (sym f ∙ s.1)
      ∙ append_assoc lines s.0 (drop (length settings + 1) file) in
      begins_yes settings file is (whole ∙ ap (λ (l : List ℕ). lines ++ l) (sym (ap (drop (length lines)) whole ∙ drop_at lines (s.0 ++ drop (length settings + 1) file) (length lines) refl)))

  pub file_begins : Begins settings file → Begins settings front
  file_begins begins =
      let s = begins_split settings file begins in
      let lines = blocks (recovered_lines settings) in
      let n : length settings + 1 ≡ length lines + 2 = omega (arith, batch_length settings is) in
      let whole : front ≡ lines ++ take 2 s.0 = f ∙ (λ i. take (n i) (s.1 i)) ∙ take-append-add lines s.0 2 in
      begins_yes settings front is (whole ∙ ap (λ (l : List ℕ). lines ++ l) (sym (ap (drop (length lines)) whole ∙ drop_at lines (take 2 s.0) (length lines) refl)))

pub starts_opens : (settings file : List ℕ) (s : Start) → Starts settings file s → OpensLog settings file
starts_opens settings file start.Log begins = inl begins
starts_opens settings file (start.New is_blank) new = inr new.0

-- a log that is gone on from has its own lines, and a new one the settings
pub log_text : (settings file text : List ℕ) (end : ℕ) → end ≡ length (blocks (recovered_lines file)) → text ≡ take end file → Begins settings file
    → text ≡ blocks (recovered_lines settings ++ lines_after_settings settings file)
log_text settings file text end ends is begins = is ∙ front_of_file file end ends ∙ ap blocks begins

pub new_text : (settings file text : List ℕ) → IsBatch settings → text ≡ take (length settings - 1) settings → IsNewFile settings file
    → text ≡ blocks (recovered_lines settings ++ lines_after_settings settings file)
new_text settings file text is cut new = cut ∙ front_of_settings settings is ∙ ap blocks (new_lines settings file is new)

pub text_length : (settings file text : List ℕ) → IsBatch settings → text ≡ blocks (recovered_lines settings ++ lines_after_settings settings file) → length settings ≤ length text + 1
text_length settings file text is same =
    omega (
      arith,
      batch_length settings is,
      ap length (same ∙ blocks-append (recovered_lines settings) (lines_after_settings settings file)),
      length-append (blocks (recovered_lines settings)) (blocks (lines_after_settings settings file)),
    )

-- ---- what a log has behind its settings

pub header_split : (settings file : List ℕ) → Begins settings file → (rest : List ℕ) × (file ≡ blocks (recovered_lines settings) ++ rest)
header_split settings file begins = begins_split settings file begins

pub header_lines : (settings : List ℕ) → recovered_lines (blocks (recovered_lines settings)) ≡ recovered_lines settings
header_lines settings = lines_back (recovered_lines settings) (all_lines settings)

pub header_end : (settings : List ℕ) → IsBatch settings → length settings - 1 ≡ length (blocks (recovered_lines settings))
header_end settings is = omega (arith, batch_length settings is)
