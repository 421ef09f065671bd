-- Lines that come one after the other, and what a log that was read has.
use Rattle.std.proofs.Common.{◌≡◌, ◌⊎◌, inl, inr, ℕ, ◌+◌, ◌-◌, ◌<◌, ◌≤◌, ◌^◌, Bool, true, false, if◌then◌else◌, Option, None, Some, IfSome, MatchBool, MatchOption, MatchResult, Result, Ok, Err, List, [], ◌∷◌, ◌++◌, length, take, drop, min, refl, sym, ◌∙◌, ap, subst, arith, append_assoc, length-append}
use Rattle.std.proofs.lemmas.List.{append-nil, append_cancel_left, drop-drop, drop_at, take_at, length-drop}
use Rattle.std.proofs.lemmas.Bool.Decides.{nat_tests}
use Rattle.std.specs.Prelude.{Vec, slice_index, is_some, not}
use Rattle.std.specs.Io.KnownBytes.{Consumes, IsAtEnd}
use Rattle.std.specs.declared.alloc.Global.{Global}
use Rattle.hex.proofs.HexLemmas.{length-encode_with}
use Rattle.hex.specs.Hex.{lower_digits}
use Rattle.sha2.specs.Sha256.{sha256}
use Rattle.sha2.proofs.Facts256.{length-sha256}
use Rattle.inst_log.specs.Layout.{recovered_lines, blocks, IsShut}
use Rattle.inst_log.specs.Pieces.{HasCut, cannot_begin, is_shut, stops}
use Rattle.inst_log.specs.declared.line_cutter.LineCutter.{LineCutter}
use Rattle.inst_log.proofs.Lines.{blocks-append}
use Rattle.inst_log.proofs.Pieces.{all_cut, blocks_long, cut_end}
use Rattle.inst_chain.specs.Chain.{is_mark, mark_of, mark_with, front_of, chained_lines, said}
use Rattle.inst_chain.specs.Checking.{HasGoneThrough, IsWrongAt}
use Rattle.inst_chain.specs.Verifying.{IsDamagedAfter}
use Rattle.inst_chain.specs.Summing.{HasFirst, EndsBy, IsSealedBy, IsUnsealed, IsSummary}
use Rattle.inst_chain.specs.inner.Summing.{IsFirstOf, Sees, Tallies, AreDamaged, IsChain, HasRead, HasReadAll}
use Rattle.inst_chain.specs.declared.digest.Digest.{Digest}
use Rattle.inst_chain.specs.declared.prefix.Prefix.{Prefix}
use Rattle.inst_chain.specs.declared.checker.Checker.{Checker}
use Rattle.inst_chain.specs.declared.summary.Seen.{Seen}
use Rattle.inst_chain.specs.declared.summary.Reading.{Reading}
use Rattle.inst_chain.proofs.Digests.{mark_is_mark}
use Rattle.inst_chain.proofs.Chains.{Lines}
use Rattle.inst_chain.proofs.ProgressOfChecker.{last_same}
use Rattle.inst_chain.proofs.LinesWithoutMarks.{said-append, said_behind}
use Rattle.inst_chain.proofs.PlaceOfDamage.{wrong_mark, wrong_end, not_sealed_end, sealed_end}

-- ---- the next line

-- a line that is no mark is said
said_one : (lines : Lines) (line : List ℕ) → is_mark line ≡ false → length (said (lines ++ line ∷ [])) ≡ length (said lines) + 1
said_one lines line plain =
    let more : said (lines ++ line ∷ []) ≡ said lines ++ line ∷ [] =
    said-append lines (line ∷ []) ∙ ap (λ (l : Lines). said lines ++ l) (ap (λ (t : Bool). if t then [] else line ∷ []) plain) in
    omega (arith, ap length more, length-append (said lines) (line ∷ []))

fewer : (lines : Lines) (line : List ℕ) → length (blocks (lines ++ line ∷ [])) < 2 ^ 64 → length (blocks lines) < 2 ^ 64
fewer lines line small =
    omega (arith, small, ap length (blocks-append lines (line ∷ [])), length-append (blocks lines) (blocks (line ∷ [])))

said_few : (lines : Lines) → length (said lines) ≤ length lines
said_few [] = omega arith
said_few (line ∷ lines) = count (is_mark line) (said_few lines)
  where
    count : (b : Bool) → length (said lines) ≤ length lines → length (if b then said lines else line ∷ said lines) ≤ length (line ∷ lines)
    count true few = omega (arith, few)
    count false few = omega (arith, few)

module _ (old new : Seen) (lines : Lines) (line : List ℕ) (s : Sees old lines) (first : IsFirstOf new.first (lines ++ line ∷ [])) where
  -- a mark
  pub sees_mark : is_mark line ≡ true → new.lines ≡ old.lines → (length line ≡ 67 → line ≡ mark_with new.digest.text) → Sees new (lines ++ line ∷ [])
  sees_mark is same digest = record {
    first = first;
    count = λ small. same ∙ s.count (fewer lines line small) ∙ ap length (sym (said_behind lines line is));
    digest = λ before mark split is_one size.
        let one = last_same lines before line mark split in
        sym one ∙ digest (ap length one ∙ size);
  }

  -- or not
  pub sees_line : is_mark line ≡ false → (new.lines ≡ min (old.lines + 1) (2 ^ 64 - 1)) → Sees new (lines ++ line ∷ [])
  sees_line plain counts = record {
    first = first;
    count = λ small.
        omega (arith, small, counts, s.count (fewer lines line small), said_one lines line plain, said_few (lines ++ line ∷ []), blocks_long (lines ++ line ∷ []));
    digest = λ before mark split is size. absurd (cc (plain, is, ap is_mark (last_same lines before line mark split)));
  }

-- ---- the lines of some bytes

pub record Went (old new : Seen) (bytes rest : List ℕ) : Type 0 where
  pub mid : Lines
  pub split : recovered_lines bytes ≡ mid ++ recovered_lines rest
  pub sees : (lines : Lines) → Sees old lines → Sees new (lines ++ mid)

pub went_none : (seen : Seen) (bytes : List ℕ) → Went seen seen bytes bytes
went_none seen bytes = record { mid = []; split = refl; sees = λ lines s. subst (Sees seen) (sym (append-nil lines)) s }

pub went_one : (old mid new : Seen) (bytes rest behind line : List ℕ) → Went old mid bytes rest → recovered_lines rest ≡ line ∷ recovered_lines behind
    → ((lines : Lines) → Sees mid lines → Sees new (lines ++ line ∷ [])) → Went old new bytes behind
went_one old mid new bytes rest behind line t first goes = record {
  mid = t.mid ++ line ∷ [];
  split = t.split ∙ ap (λ (l : Lines). t.mid ++ l) first ∙ sym (append_assoc t.mid (line ∷ []) (recovered_lines behind));
  sees = λ lines s. subst (Sees new) (append_assoc lines t.mid (line ∷ [])) (goes (lines ++ t.mid) (t.sees lines s));
}

pub went_all : (old new : Seen) (bytes rest : List ℕ) → Went old new bytes rest → recovered_lines rest ≡ [] → (lines : Lines) → Sees old lines → Sees new (lines ++ recovered_lines bytes)
went_all old new bytes rest t none lines s =
    subst (λ (l : Lines). Sees new (lines ++ l)) (sym (t.split ∙ ap (λ (l : Lines). t.mid ++ l) none ∙ append-nil t.mid)) (t.sees lines s)

-- ---- lines with their marks

-- a mark was wrong before these lines
pub wrong_longer : (lines more : Lines) (right : Prefix) → AreDamaged lines right → AreDamaged (lines ++ more) right
wrong_longer lines more right wrong file later split small = wrong file (more ++ later) (split ∙ append_assoc lines more later) small

-- one of these lines is a mark that is wrong
pub wrong_now : (checker : Checker) (lines : Lines) (bytes : List ℕ) (right : Prefix) → HasGoneThrough checker lines → IsWrongAt checker bytes right → AreDamaged (lines ++ recovered_lines bytes) right
wrong_now checker lines bytes right stands x file later split small = wrong_mark file checker lines later bytes right stands x split small

-- ---- the last mark

length-mark : (text : List ℕ) → length (mark_of text) ≡ 67
length-mark text = omega (arith, length-encode_with lower_digits (sha256 text), length-sha256 text)

ends_by : (batches : List Lines) (lines : Lines) (seen : Seen) → 0 < length batches → lines ≡ chained_lines batches → Sees seen lines → EndsBy lines seen.digest
ends_by [] lines seen some split s = absurd (omega (arith, some))
ends_by (batch ∷ older) lines seen some split s =
    let mark = mark_of (front_of older ++ blocks batch) in
    let before = chained_lines older ++ batch in
    let here : lines ≡ before ++ mark ∷ [] = split ∙ sym (append_assoc (chained_lines older) batch (mark ∷ [])) in
    record {
      before = before;
      split = here ∙ ap (λ (m : List ℕ). before ++ m ∷ []) (s.digest before mark here (mark_is_mark (front_of older ++ blocks batch)) (length-mark (front_of older ++ blocks batch)));
    }

-- ---- a file that was read to its end

shut_there : (file held rest : List ℕ) (done : Lines) → file ≡ blocks done ++ (held ++ rest) → recovered_lines file ≡ done → is_shut held ≡ true → IsShut file
shut_there file [] rest done split all is = absurd (cc is)
shut_there file (b ∷ held) rest done split all is =
    let zero : b ≡ 0 = grind (arith, nat_tests, is) in
    record {
      rest = held ++ rest;
      split = split ∙ (λ i. blocks (sym all i) ++ zero i ∷ (held ++ rest));
    }

not_shut : (file : List ℕ) (done : Lines) (held rest : List ℕ) → file ≡ blocks done ++ (held ++ rest) → recovered_lines file ≡ done → (rest ≡ []) ⊎ (cannot_begin held ≡ true)
    → is_shut held ≡ false → IsShut file → ⊥
not_shut file done held rest split all at_end first s = behind held at_end first
    (append_cancel_left (blocks done) (held ++ rest) (0 ∷ s.rest) (sym split ∙ s.split ∙ ap (λ (ls : Lines). blocks ls ++ 0 ∷ s.rest) all))
  where
    behind : (held : List ℕ) → (rest ≡ []) ⊎ (cannot_begin held ≡ true) → is_shut held ≡ false → held ++ rest ≡ 0 ∷ s.rest → ⊥
    behind [] (inl none) first same = cc (none, same)
    behind [] (inr stop) first same = cc stop
    behind (b ∷ held) at_end first same =
        let zero : b ≡ 0 = ap (λ (l : List ℕ). slice_index l 0) same in
        absurd (grind (arith, nat_tests, zero, first))

module _ (file : List ℕ) (cutter : LineCutter) (done : Lines) (cut : HasCut file cutter done) (ended : (drop cutter.at file ≡ []) ⊎ (stops cutter ≡ true)) where
  all : recovered_lines file ≡ done
  all = all_cut file cutter done cut ended

  shut_or_not : (b : Bool) → is_shut cutter.held.items ≡ b → MatchBool b (IsShut file) (IsShut file → ⊥)
  shut_or_not true is = shut_there file cutter.held.items (drop cutter.at file) done cut.split all is
  shut_or_not false is = not_shut file done cutter.held.items (drop cutter.at file) cut.split all ended is

  module _ (seen : Seen) (checker : Checker) (sees : Sees seen done) (first : List ℕ) (has : HasFirst done first) where
    some : 0 < length done
    some = omega (arith, ap length has.split)

    chain_by : (w : Option Prefix) (r : Result Digest Prefix) (b : Bool) → MatchOption w (HasGoneThrough checker done) (AreDamaged done)
        → MatchOption w
        (MatchResult r (λ digest. (b ≡ true) × (checker.sealed ≡ true) × (digest ≡ seen.digest)) (λ right. (right ≡ checker.right) × (b ≡ true → checker.sealed ≡ false)))
        (λ right. MatchResult r (λ digest. ⊥) (λ p. p ≡ right))
        → MatchBool b (IsShut file) (IsShut file → ⊥) → MatchResult r (IsSealedBy file) (IsUnsealed file)
    chain_by None (Ok digest) b stands is shut =
        let sealed = (sealed_end file checker done stands all is.1 (subst (λ (t : Bool). MatchBool t (IsShut file) (IsShut file → ⊥)) is.0 shut)).sealed in
        record {
          sealed = sealed;
          last = subst (EndsBy (recovered_lines file)) (sym is.2)
              (ends_by sealed.chain.batches (recovered_lines file) seen sealed.chain.some sealed.chain.split (subst (Sees seen) (sym all) sees));
        }
    chain_by None (Err right) true stands is shut = λ small.
        subst (IsDamagedAfter file) (sym is.0) (wrong_end file checker done stands all small some (not_sealed_end file checker done stands all (is.1 refl)))
    chain_by None (Err right) false stands is shut = λ small.
        subst (IsDamagedAfter file) (sym is.0) (wrong_end file checker done stands all small some (λ sealed. shut sealed.shut))
    chain_by (Some p) (Ok digest) b wrong is shut = absurd is
    chain_by (Some p) (Err right) b wrong is shut = λ small.
        subst (IsDamagedAfter file) (sym is) (wrong file [] (all ∙ sym (append-nil done)) small)

-- what it has
pub summed : (file : List ℕ) (reading : Reading) (h : HasReadAll reading file) (b : Bool) → b ≡ is_shut reading.cutter.held.items → (r : Result Digest Prefix) → IsChain reading.tally b r
    → (first : Vec ℕ Global) (seen : Seen) → seen ≡ reading.tally.seen → seen.first ≡ Some first → IsSummary file (record { first = first; lines = seen.lines; chain = r })
summed file reading h b shut r chain first seen same is =
    let has : HasFirst h.done first.items =
    subst (λ (f : Option (Vec ℕ Global)). IsFirstOf f h.done) (ap (λ (x : Seen). x.first) (sym same) ∙ is) h.tallies.sees.first in
    let lines = all file reading.cutter h.done h.cut h.ended in
    record {
      first = subst (λ (ls : Lines). HasFirst ls first.items) (sym lines) has;
      count =
          ap (λ (x : Seen). x.lines) same
          ∙ h.tallies.sees.count (omega (arith, h.fits, cut_end file reading.cutter h.done h.cut))
          ∙ ap (λ (ls : Lines). length (said ls)) (sym lines);
      chain =
          chain_by file reading.cutter h.done h.cut h.ended reading.tally.seen reading.tally.checker h.tallies.sees first.items has reading.tally.wrong r b h.tallies.checked chain
          (shut_or_not file reading.cutter h.done h.cut h.ended b (sym shut));
    }

pub no_line : (file : List ℕ) (reading : Reading) (h : HasReadAll reading file) (seen : Seen) → seen ≡ reading.tally.seen → seen.first ≡ None → recovered_lines file ≡ []
no_line file reading h seen same is =
    all file reading.cutter h.done h.cut h.ended
    ∙ subst (λ (f : Option (Vec ℕ Global)). IsFirstOf f h.done) (ap (λ (x : Seen). x.first) (sym same) ∙ is) h.tallies.sees.first

-- ---- marks that were wrong before, or weren't

pub longer_wrong : (w : Option Prefix) (old new : Checker) (lines more : Lines) → is_some w ≡ true → MatchOption w (HasGoneThrough old lines) (AreDamaged lines)
    → MatchOption w (HasGoneThrough new (lines ++ more)) (AreDamaged (lines ++ more))
longer_wrong None old new lines more is checked = absurd (cc is)
longer_wrong (Some right) old new lines more is checked = wrong_longer lines more right checked

pub none_wrong : (w : Option Prefix) (checker : Checker) (lines : Lines) → is_some w ≡ false → MatchOption w (HasGoneThrough checker lines) (AreDamaged lines) → HasGoneThrough checker lines
none_wrong None checker lines is checked = checked
none_wrong (Some right) checker lines is checked = absurd (cc is)

-- ---- a read

pub nothing_left : (left left' : Option (List ℕ)) (rest bytes : List ℕ) → left ≡ Some rest → Consumes left left' bytes → bytes ≡ [] → IsAtEnd left' → rest ≡ []
nothing_left None left' rest bytes is took none end = absurd (cc is)
nothing_left (Some xs) None rest bytes is took none end = absurd took
nothing_left (Some xs) (Some ys) rest bytes is took none end =
    let same : xs ≡ rest = cc is in
    sym same ∙ took ∙ (λ i. none i ++ end i)

split_left : (left left' : Option (List ℕ)) (rest bytes : List ℕ) → left ≡ Some rest → Consumes left left' bytes → (ys : List ℕ) × (left' ≡ Some ys) × (rest ≡ bytes ++ ys)
split_left None left' rest bytes is took = absurd (cc is)
split_left (Some xs) None rest bytes is took = absurd took
split_left (Some xs) (Some ys) rest bytes is took =
    let same : xs ≡ rest = cc is in
    (ys, refl, sym same ∙ took)

module _ (file : List ℕ) (old new : Reading) (left left' : Option (List ℕ)) (piece : List ℕ) (lines : Lines) (h : HasRead old file left) (took : Consumes left left' piece)
    (small : old.cutter.at + length piece < 2 ^ 64) (at : new.cutter.at ≡ old.cutter.at + length piece)
    (cut : (f : List ℕ) (done : Lines) → HasCut f old.cutter done → piece ≡ take (length piece) (drop old.cutter.at f) → old.cutter.at + length piece ≤ length f → HasCut f new.cutter (done ++ lines))
    (tallies : (done : Lines) → Tallies old.tally done → Tallies new.tally (done ++ lines)) where
  rest : (ys : List ℕ) × (left' ≡ Some ys) × (drop old.cutter.at file ≡ piece ++ ys)
  rest = split_left left left' (drop old.cutter.at file) piece h.left_is took

  front : piece ≡ take (length piece) (drop old.cutter.at file)
  front = sym (take_at piece rest.0 (length piece) refl) ∙ ap (take (length piece)) (sym rest.2)

  within : old.cutter.at + length piece ≤ length file
  within = omega (arith, h.cut.within, ap length rest.2, length-append piece rest.0, length-drop old.cutter.at file)

  behind : rest.0 ≡ drop new.cutter.at file
  behind =
      sym (drop_at piece rest.0 (length piece) refl) ∙ ap (drop (length piece)) (sym rest.2)
      ∙ drop-drop (length piece) old.cutter.at file ∙ ap (λ (k : ℕ). drop k file) (sym at)

  pub went_on : (b : Bool) → stops new.cutter ≡ b → MatchBool (not b) (HasRead new file left') (HasReadAll new file)
  went_on true is = record {
    done = h.done ++ lines;
    cut = cut file h.done h.cut front within;
    ended = inr is;
    tallies = tallies h.done h.tallies;
    fits = subst (λ (k : ℕ). k < 2 ^ 64) (sym at) small;
  }
  went_on false is = record {
    done = h.done ++ lines;
    cut = cut file h.done h.cut front within;
    tallies = tallies h.done h.tallies;
    left_is = rest.1 ∙ ap (λ (l : List ℕ). Some l) behind;
    fits = subst (λ (k : ℕ). k < 2 ^ 64) (sym at) small;
  }

-- ---- what is known of a reader

pub started : (known : Option (List ℕ)) (reading : Reading) → ((file : List ℕ) → HasRead reading file (Some file)) → IfSome known (λ file. HasRead reading file known)
started None reading has = tt
started (Some file) reading has = has file

pub for_known : (known : Option (List ℕ)) (P Q : List ℕ → Type 0) → ((file : List ℕ) → P file → Q file) → IfSome known P → IfSome known Q
for_known None P Q goes has = tt
for_known (Some file) P Q goes has = goes file has
