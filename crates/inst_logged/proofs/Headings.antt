-- The codes of a log's first line, and the lines behind it.
use Rattle.std.proofs.Common.{◌≡◌, ℕ, ◌+◌, ◌<◌, ◌≤◌, Bool, true, nat_lt, List, [], ◌∷◌, ◌++◌, length, length-append, drop, get_or, append_assoc, sym, subst, ◌∙◌, ap, arith}
use Rattle.std.specs.Prelude.{unwrap_or, slice_get}
use Rattle.std.proofs.lemmas.List.{append-nil, drop_more, drop_all}
use Rattle.std.proofs.lemmas.Bool.{lt-ltb}
use Rattle.std.proofs.lemmas.Option.{unwrap_or-slice_get}
use Rattle.inst_log.specs.Layout.{recovered_lines, blocks, AreWholeLines}
use Rattle.inst_log.proofs.Lines.{AllLines, all_lines, blocks-append, recovered_blocks}
use Rattle.inst_chain.specs.Chain.{mark_of, HasNoMark}
use Rattle.inst_chain.specs.Checking.{Digests}
use Rattle.inst_chain.specs.declared.marker.Marker.{Marker}
use Rattle.inst_chain.proofs.BatchBehindChain.{Marks, first_chain, first_sealed}
use Rattle.inst_logged.specs.declared.version.Version.{Version}
use Rattle.inst_logged.specs.declared.version.Version.TheVariants.{One, Two}
use Rattle.inst_logged.specs.Marking.{IsFirstMark, BeginsWithMarker}
use Rattle.inst_logged.specs.Header.{lines_and_mark, quoted_codes, comma_if, quoted}

pub listed_next : (codes : List (List ℕ)) (n : ℕ) (text new out : List ℕ) → n < length codes → new ≡ text ++ (comma_if (nat_lt 0 n) ++ quoted (unwrap_or (slice_get codes n) []))
    → text ++ quoted_codes (nat_lt 0 n) (drop n codes) ≡ out → new ++ quoted_codes (nat_lt 0 (n + 1)) (drop (n + 1) codes) ≡ out
listed_next codes n text new out below is so =
    let later : nat_lt 0 (n + 1) ≡ true = lt-ltb 0 (n + 1) (omega arith) in
    let code = get_or codes n [] in
    let rest = drop (n + 1) codes in
    ap (λ (b : Bool). new ++ quoted_codes b rest) later
    ∙ ap (λ (l : List ℕ). l ++ quoted_codes true rest) (is ∙ ap (λ (l : List ℕ). text ++ (comma_if (nat_lt 0 n) ++ quoted l)) (unwrap_or-slice_get codes n []))
    ∙ append_assoc text (comma_if (nat_lt 0 n) ++ quoted code) (quoted_codes true rest)
    ∙ ap (λ (ls : List (List ℕ)). text ++ quoted_codes (nat_lt 0 n) ls) (sym (drop_more codes n [] below))
    ∙ so

pub listed_all : (codes : List (List ℕ)) (n : ℕ) (text out : List ℕ) → length codes ≤ n → text ++ quoted_codes (nat_lt 0 n) (drop n codes) ≡ out → text ≡ out
listed_all codes n text out all so =
    sym (append-nil text) ∙ ap (λ (ls : List (List ℕ)). text ++ quoted_codes (nat_lt 0 n) ls) (sym (drop_all n codes all)) ∙ so

-- whole lines behind whole lines
pub whole_more : (bytes : List ℕ) (more : List (List ℕ)) → AreWholeLines bytes → AllLines more → recovered_lines (bytes ++ blocks more) ≡ recovered_lines bytes ++ more
whole_more bytes more whole lines =
    let end : recovered_lines (blocks more) ≡ more = sym (ap recovered_lines (append-nil (blocks more))) ∙ recovered_blocks more [] lines ∙ append-nil more in
    ap (λ (l : List ℕ). recovered_lines (l ++ blocks more)) whole
    ∙ recovered_blocks (recovered_lines bytes) (blocks more) (all_lines bytes)
    ∙ ap (λ (ls : List (List ℕ)). recovered_lines bytes ++ ls) end

pub more_is_whole : (bytes : List ℕ) (more : List (List ℕ)) → AreWholeLines bytes → AllLines more → AreWholeLines (bytes ++ blocks more)
more_is_whole bytes more whole lines =
    ap (λ (l : List ℕ). l ++ blocks more) whole ∙ sym (blocks-append (recovered_lines bytes) more) ∙ ap blocks (sym (whole_more bytes more whole lines))

-- the lines of a text behind the first line
module _ (batch line text new : List ℕ) (whole : AreWholeLines batch) (one : recovered_lines batch ≡ line ∷ []) (put : new ≡ batch ++ blocks (recovered_lines text)) where
  pub behind_lines : recovered_lines new ≡ line ∷ recovered_lines text
  behind_lines = ap recovered_lines put ∙ whole_more batch (recovered_lines text) whole (all_lines text) ∙ ap (λ (ls : List (List ℕ)). ls ++ recovered_lines text) one

  pub behind_whole : AreWholeLines new
  behind_whole = subst AreWholeLines (sym put) (more_is_whole batch (recovered_lines text) whole (all_lines text))

  pub behind_some : 0 < length (recovered_lines new)
  behind_some = omega (arith, ap (λ (ls : List (List ℕ)). length ls) behind_lines)

-- ---- the first lines with their mark

pub marked_some : (version : Version) (old new : List (List ℕ)) → 0 < length old → new ≡ lines_and_mark version old → 0 < length new
marked_some One old new some is = subst (λ (ls : List (List ℕ)). 0 < length ls) (sym is) some
marked_some Two old new some is = omega (arith, some, ap length is, length-append old (mark_of (blocks old) ∷ []))

begins_at : (header header' : List ℕ) (marker : Marker) → recovered_lines header' ≡ recovered_lines header → IsFirstMark header marker → IsFirstMark header' marker
begins_at header header' marker same first = record {
  chain = λ file is. first.chain file (is ∙ same);
  sealed = λ file is shut. first.sealed file (is ∙ same) shut;
}

pub begins_closed : (version : Version) (header header' : List ℕ) (marker : Marker) → recovered_lines header' ≡ recovered_lines header → BeginsWithMarker version header marker → BeginsWithMarker version header' marker
begins_closed One header header' marker same begins = tt
begins_closed Two header header' marker same first = begins_at header header' marker same first

pub is_first : (none first : Marker) (batch header : List ℕ) → Digests none [] → AreWholeLines batch → HasNoMark (recovered_lines batch) → Marks none first batch (recovered_lines header) → IsFirstMark header first
is_first none first batch header fresh whole plain m = record {
  chain = λ file same. first_chain first none fresh batch (recovered_lines header) whole plain m file same;
  sealed = λ file same shut. first_sealed first none fresh batch (recovered_lines header) whole plain m file same shut;
}
