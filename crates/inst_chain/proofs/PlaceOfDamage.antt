-- Where a file is damaged.
use Rattle.std.proofs.Common.{◌≡◌, ℕ, ◌<◌, ◌^◌, Bool, true, false, Option, None, Some, Result, Ok, Err, List, [], ◌∷◌, ◌++◌, length, refl, sym, ◌∙◌, ap, subst, arith, append_assoc, length-append}
use Rattle.std.proofs.lemmas.List.{append-nil}
use Rattle.inst_log.specs.Layout.{recovered_lines, blocks, IsShut}
use Rattle.inst_log.proofs.Lines.{parts, blocks-append}
use Rattle.inst_chain.specs.Chain.{is_mark, mark_of, front_of, chained_lines, HasNoMark, IsSealed, has_wanted}
use Rattle.inst_chain.specs.Checking.{Digests, EndsMarked, HasGoneThrough, IsWrongAt}
use Rattle.std.specs.Prelude.{is_some, not, MatchResult}
use Rattle.inst_log.specs.Pieces.{IsReading, has_more}
use Rattle.inst_log.specs.declared.file_lines.FileLines.{FileLines}
use Rattle.inst_chain.specs.Verifying.{IsDamagedAfter, SealedBy, Unverified}
use Rattle.inst_chain.specs.inner.Ends.{IsChecked}
use Rattle.inst_chain.specs.declared.digest.Digest.{Digest}
use Rattle.std.specs.Result.{IfErr}
use Rattle.inst_log.specs.Log.{HasCause}
use Rattle.inst_log.specs.declared.error.LogError.{LogError}
use Rattle.inst_log.specs.declared.error.LogError.TheVariants as log
use Rattle.inst_chain.specs.declared.error.ChainError.{ChainError}
use Rattle.inst_chain.specs.declared.error.ChainError.TheVariants.{Log, Damaged}
use Rattle.inst_chain.specs.declared.prefix.Prefix.{Prefix}
use Rattle.inst_chain.specs.declared.checker.Checker.{Checker}
use Rattle.inst_chain.proofs.Digests.{mark_is_mark}
use Rattle.inst_chain.proofs.Chains.{Lines, heads, tails, no_mark_within}
use Rattle.inst_chain.proofs.ProgressOfChecker.{Follows, chain_follows, chain_ends, right_mark}

-- the first mark of some lines is one place
first_mark : (a b late more : Lines) (x y : List ℕ) → HasNoMark a → HasNoMark b → is_mark x ≡ true → is_mark y ≡ true → a ++ x ∷ late ≡ b ++ y ∷ more → (a ≡ b) × (x ≡ y)
first_mark [] [] late more x y none clear is is' same = (refl, heads same)
first_mark [] (l ∷ b) late more x y none clear is is' same = absurd (cc (clear.0, is, ap is_mark (heads same)))
first_mark (l ∷ a) [] late more x y none clear is is' same = absurd (cc (none.0, is', ap is_mark (heads same)))
first_mark (k ∷ a) (l ∷ b) late more x y none clear is is' same =
    let rest = first_mark a b late more x y none.1 clear.1 is is' (tails same) in
    ((λ i. heads same i ∷ rest.0 i), rest.1)

-- what comes first of a file's lines has no more bytes than the file
fits : (file : List ℕ) (front rest : Lines) → recovered_lines file ≡ front ++ rest → length file < 2 ^ 64 → length (blocks front) < 2 ^ 64
fits file front rest split small =
    omega (
      arith,
      small,
      ap length (parts file).split,
      length-append (blocks (recovered_lines file)) (parts file).end,
      ap (λ (ls : Lines). length (blocks ls)) split,
      ap length (blocks-append front rest),
      length-append (blocks front) (blocks rest),
    )

-- damage behind the marks that are right
module _ (file : List ℕ) (checker : Checker) (lines late : Lines) (s : HasGoneThrough checker lines) (split : recovered_lines file ≡ lines ++ late) (small : length file < 2 ^ 64) where
  behind : recovered_lines file ≡ chained_lines s.older ++ (s.part ++ late)
  behind = split ∙ ap (λ (l : Lines). l ++ late) s.split ∙ append_assoc (chained_lines s.older) s.part late

  pub damaged : ((batch more : Lines) → HasNoMark batch → s.part ++ late ≡ batch ++ mark_of (front_of s.older ++ blocks batch) ∷ more → ⊥)
      → 0 < length (recovered_lines file) → (IsSealed file → ⊥) → IsDamagedAfter file checker.right
  damaged wrong some not_sealed =
      let counts = s.right (fits file (chained_lines s.older) (s.part ++ late) behind small) in
      record {
        older = s.older;
        unmarked = s.unmarked;
        rest = s.part ++ late;
        lines = behind;
        count = counts.0;
        bytes = counts.1;
        wrong = wrong;
        some = some;
        not_sealed = not_sealed;
      }

-- a mark among the lines that come next is wrong
pub wrong_mark : (file : List ℕ) (checker : Checker) (lines later : Lines) (piece : List ℕ) (right : Prefix) → HasGoneThrough checker lines → IsWrongAt checker piece right
    → recovered_lines file ≡ (lines ++ recovered_lines piece) ++ later → length file < 2 ^ 64 → IsDamagedAfter file right
wrong_mark file checker lines later piece right stands x split small =
    let s = x.stands lines stands in
    let more = x.rest ++ later in
    let all : recovered_lines file ≡ (lines ++ x.done) ++ x.line ∷ more =
    split ∙ append_assoc lines (recovered_lines piece) later
    ∙ ap (λ (l : Lines). lines ++ (l ++ later)) x.split
    ∙ ap (λ (l : Lines). lines ++ l) (append_assoc x.done (x.line ∷ x.rest) later)
    ∙ sym (append_assoc lines x.done (x.line ∷ more)) in
    subst (IsDamagedAfter file) (sym x.same)
    (damaged file x.mid (lines ++ x.done) (x.line ∷ more) s all small
    (λ batch rest none same.
    let text = front_of s.older ++ blocks batch in
    let first = first_mark s.part batch more rest x.line (mark_of text) s.plain none x.mark (mark_is_mark text) same in
    x.wrong (lines ++ x.done) s (first.1 ∙ ap (λ (b : Lines). mark_of (front_of s.older ++ blocks b)) (sym first.0)))
    (omega (arith, ap length all, length-append (lines ++ x.done) (x.line ∷ more)))
    (λ sealed. x.wrong (lines ++ x.done) s (right_mark x.mid (lines ++ x.done) x.line more s x.mark (subst (Follows []) all (chain_follows (recovered_lines file) sealed.chain)))))

-- the lines end behind the marks that are right
pub wrong_end : (file : List ℕ) (checker : Checker) (lines : Lines) → HasGoneThrough checker lines → recovered_lines file ≡ lines → length file < 2 ^ 64 → 0 < length lines
    → (IsSealed file → ⊥) → IsDamagedAfter file checker.right
wrong_end file checker lines s all small some not_sealed =
    damaged file checker lines [] s (all ∙ sym (append-nil lines)) small
    (λ batch more none same. no_mark_within s.part batch (mark_of (front_of s.older ++ blocks batch)) more s.plain (mark_is_mark (front_of s.older ++ blocks batch)) (sym (append-nil s.part) ∙ same))
    (subst (λ (l : Lines). 0 < length l) (sym all) some) not_sealed

pub not_sealed_end : (file : List ℕ) (checker : Checker) (lines : Lines) → HasGoneThrough checker lines → recovered_lines file ≡ lines → checker.sealed ≡ false → IsSealed file → ⊥
not_sealed_end file checker lines s all unsealed sealed = s.open_end unsealed (subst EndsMarked all (chain_ends (recovered_lines file) sealed.chain))

pub sealed_end : (file : List ℕ) (checker : Checker) (lines : Lines) → HasGoneThrough checker lines → recovered_lines file ≡ lines → checker.sealed ≡ true → IsShut file → SealedBy file checker.marker
sealed_end file checker lines s all sealed shut =
    let whole = s.whole sealed in
    let split : recovered_lines file ≡ chained_lines s.older = all ∙ s.split ∙ ap (λ (l : Lines). chained_lines s.older ++ l) whole.0 ∙ append-nil (chained_lines s.older) in
    record {
      sealed = record {
        chain = record {
          batches = s.older;
          some = whole.1;
          unmarked = s.unmarked;
          split = split;
        };
        shut = shut;
      };
      digests =
          subst (Digests checker.marker)
          (ap (λ (l : Lines). front_of s.older ++ blocks l) whole.0 ∙ append-nil (front_of s.older))
          s.digests;
    }

-- damage that was found where a premise holds
damaged_if : (file : List ℕ) (P failed : Type 0) (error : ChainError) → ((right : Prefix) × (error ≡ Damaged right)) → (P → Unverified file (Unit {0}) ⊥ error) → Unverified file P failed error
damaged_if file P failed (Log error) is found = absurd (cc is.1)
damaged_if file P failed (Damaged at) is found = λ p. found p tt

pub damaged_err : {T : Type 0} (file : List ℕ) (calm P failed : Type 0) (r : Result T ChainError) → calm → IfErr r (λ error. (right : Prefix) × (error ≡ Damaged right))
    → (P → IfErr r (Unverified file (Unit {0}) ⊥)) → MatchResult r (λ _. calm) (Unverified file P failed)
damaged_err file calm P failed (Ok v) none is found = none
damaged_err file calm P failed (Err error) none is found = damaged_if file P failed error is found

-- the disk failed, or there was no memory
any_cause : (failed fails no_memory : Type 0) (error : LogError) → (failed → fails) → HasCause failed no_memory ⊥ error → HasCause fails (Unit {0}) ⊥ error
any_cause failed fails no_memory (log.Disk error) so cause = so cause
any_cause failed fails no_memory log.Memory so cause = tt
any_cause failed fails no_memory log.Full so cause = cause
any_cause failed fails no_memory log.Write so cause = cause
any_cause failed fails no_memory log.Told so cause = cause
any_cause failed fails no_memory log.OtherSettings so cause = cause
any_cause failed fails no_memory log.NoLog so cause = cause

pub log_failed : {T : Type 0} (file : List ℕ) (calm P failed fails no_memory : Type 0) (r : Result T ChainError) (f : LogError) → (x : ChainError) × (r ≡ Err x) × (x ≡ Log f) → (failed → P → fails)
    → HasCause failed no_memory ⊥ f → MatchResult r (λ _. calm) (Unverified file P fails)
log_failed file calm P failed fails no_memory r f p so cause =
    subst (λ (q : _). MatchResult q (λ _. calm) (Unverified file P fails)) (sym p.1) (subst (Unverified file P fails) (sym p.2) (any_cause failed (P → fails) no_memory f so cause))

-- no line has the digest that is asked for
pub wanted_none : (wanted : Option Digest) (b : Bool) → is_some wanted ≡ not b → b ≡ has_wanted wanted []
wanted_none None true is = refl
wanted_none None false is = absurd (cc is)
wanted_none (Some digest) true is = absurd (cc is)
wanted_none (Some digest) false is = refl

pub checked : (file : List ℕ) (reader : FileLines) (checker : Checker) (done : Lines) → IsReading file reader done → HasGoneThrough checker done → has_more reader ≡ false → reader.len < 2 ^ 64
    → IsChecked file reader checker
checked file reader checker done reading stands ended small = record {
  done = done;
  reading = reading;
  ended = ended;
  stands = stands;
  fits = subst (λ (n : ℕ). n < 2 ^ 64) reading.len small;
}
