-- The text of an option, the number that it writes, and what is known of words that give none.
use Rattle.std.proofs.Common.{◌≡◌, ◌≢◌, ◌⊎◌, ◌<◌, ◌≤◌, ◌^◌, ℕ, List, Option, Some, None, Result, Ok, Err, ok_or, map, option_map, unwrap_or, IfOk, OnErr, Bor, refl, sym, subst, ◌∙◌, inl, inr, arith}
use Rattle.std.specs.Str.Parse.{ParsesUnsigned, digits_value, without_leading_plus}
use Rattle.std.proofs.lemmas.Bool.{cases_lt}
use Rattle.clap.specs.Words.{ReadsOne, Row, first_of, first_value, matched_of, one_text, raw_values, rows_of}
use Rattle.clap.specs.declared.parser.matches.Found.{Found}
use Rattle.clap.proofs.WalkLemmas.{first_value-rows, one_text-rows, raw_values-rows}
use Rattle.inst_base.specs.declared.fault.Fault.{Fault}
use Rattle.inst_options.specs.Options.{AreTexts, Gives, GivesNoneBelow, IsText}
use Rattle.clap.specs.Words.{HasKind, IsAmong, kind_of, subcommand_of}
use Rattle.inst_options.specs.CommandLine.{command_line}
use Rattle.clap.specs.declared.error.Error.{Error}
use Rattle.clap.specs.declared.error.kind.ErrorKind.TheVariants.{OutOfMemory}
use Rattle.inst_options.specs.Asking.{IsNoWish, faults_of}
use Rattle.inst_options.specs.inner.Asking.{IsOfKind, IsRefusedBy}
use Rattle.inst_options.specs.declared.error.WordsError.{WordsError}
use Rattle.inst_options.specs.declared.error.WordsError.TheVariants as error

-- what `get_one` answers of an option
pub number_given : {E : Type 0} (reads : List ℕ → Result ℕ E → Type 0) (f : Found) (name : List ℕ) (r : Option ℕ) (fault : Fault) →
    (one_text f name ≡ None → r ≡ None) → ((text : List ℕ) → one_text f name ≡ Some text → ReadsOne reads text r) →
    ((text : List ℕ) (q : Result ℕ E) → reads text q → ParsesUnsigned 64 10 text q) →
    IfOk (ok_or r fault) (Gives (rows_of f) name)
number_given reads f name None fault none value digits = tt
number_given reads f name (Some n) fault none value digits = at_text (one_text f name) refl where
  at_text : (o : Option (List ℕ)) → one_text f name ≡ o → Gives (rows_of f) name n
  at_text None e = absurd (let nothing = none e in cc)
  at_text (Some text) e =
      let read = digits text (Ok n) (value text e) in
      (text, sym (one_text-rows f name) ∙ e, read.0.0, read.1)

-- and where it answers none
pub none_given : {E : Type 0} (reads : List ℕ → Result ℕ E → Type 0) (f : Found) (name : List ℕ) (r : Option ℕ) (fault : Fault) →
    ((text : List ℕ) → one_text f name ≡ Some text → ReadsOne reads text r) →
    ((text : List ℕ) (q : Result ℕ E) → reads text q → ParsesUnsigned 64 10 text q) →
    OnErr (ok_or r fault) (GivesNoneBelow (2 ^ 64) (rows_of f) name)
none_given reads f name (Some n) fault value digits = tt
none_given reads f name None fault value digits = λ n gives.
    let refused = value gives.0 (one_text-rows f name ∙ gives.1) in
    let unread = digits gives.0 (Err refused.0) refused.1 in
    subst (λ m. 2 ^ 64 ≤ m) (sym gives.3) (at_value (cases_lt (digits_value 10 (without_leading_plus gives.0)) (2 ^ 64)) (λ below. unread (gives.2, below))) where
      at_value : {m : ℕ} → (m < 2 ^ 64) ⊎ (2 ^ 64 ≤ m) → ¬ (m < 2 ^ 64) → 2 ^ 64 ≤ m
      at_value (inl below) large = absurd (large below)
      at_value (inr least) large = least

pub text_given : (f : Found) (name : List ℕ) (r : Option (Bor (List ℕ))) (fault : Fault) → option_map (λ s. s.now) r ≡ first_value f name →
    IfOk (ok_or r fault) (λ text. first_of name (rows_of f) ≡ Some text.now)
text_given f name None fault is = tt
text_given f name (Some text) fault is = sym (first_value-rows f name) ∙ sym is

pub none_text : (f : Found) (name : List ℕ) (r : Option (Bor (List ℕ))) (fault : Fault) → option_map (λ s. s.now) r ≡ first_value f name →
    OnErr (ok_or r fault) (first_of name (rows_of f) ≡ None)
none_text f name None fault is = sym (first_value-rows f name) ∙ sym is
none_text f name (Some text) fault is = tt

-- an error of the words tells one of their faults
pub unread : (words : List (List ℕ)) (e : Error) (told : WordsError) → HasKind (faults_of words) e → IsOfKind (kind_of e) told → IsNoWish words told
unread words e (error.Words other) (inl memory) h = absurd (h.1 memory)
unread words e (error.Words other) (inr among) h =
    subst (λ kind. (kind ≢ OutOfMemory) × IsAmong kind (faults_of words)) (sym h.0) (h.1, among)
unread words e (error.Option bad) has h = absurd h
unread words e (error.Fault fault) has h = inl h.0

pub unwished : (words : List (List ℕ)) (name : List ℕ) (rows : List Row) (fault : Fault) (e : WordsError) → subcommand_of command_line words ≡ Some (name, rows) →
    IsRefusedBy rows fault e → IsNoWish words (error.Fault fault) → IsNoWish words e
unwished words name rows fault (error.Words other) at is none = absurd is
unwished words name rows fault (error.Option bad) at is (inl memory) = let no : ⊥ = cc (is.0, memory) in absurd no
unwished words name rows fault (error.Option bad) at is (inr deserved) = (deserved.1, (name, rows, at, is.1))
unwished words name rows fault (error.Fault other) at is none = subst (λ f. IsNoWish words (error.Fault f)) (sym is) none

-- a number that is below no larger bound is below no smaller one
pub none_lower : (lower bound : ℕ) (rows : List Row) (name : List ℕ) → lower ≤ bound → GivesNoneBelow bound rows name → GivesNoneBelow lower rows name
none_lower lower bound rows name fits none n gives = let least = none n gives in omega arith

pub on_err : {A E : Type 0} (r : Result A E) (P : Type 0) → P → OnErr r P
on_err (Ok x) P p = tt
on_err (Err e) P p = p

some_one : (x y : List ℕ) → Some x ≡ Some y → x ≡ y
some_one x y e = cc

no_some : (x : List ℕ) → None ≡ Some x → ⊥
no_some x e = cc

-- the text of an option, or an empty one
pub text_or_none : (f : Found) (name : List ℕ) (r : Option (Bor (List ℕ))) (d : Bor (List ℕ)) → option_map (λ s. s.now) r ≡ first_value f name →
    IsText name (rows_of f) (unwrap_or r d).now
text_or_none f name None d is = λ given at. absurd (no_some given (is ∙ first_value-rows f name ∙ at))
text_or_none f name (Some text) d is = λ given at. some_one text.now given (is ∙ first_value-rows f name ∙ at)

-- the texts of an option or of words, if it has any
pub texts_given : (f : Found) (name : List ℕ) (r : Option (Bor (List (Bor (List ℕ))))) (other : Bor (List (Bor (List ℕ)))) → option_map (λ s. map (λ v. v.now) s.now) r ≡ option_map raw_values (matched_of f name) →
    AreTexts name (rows_of f) (map (λ v. v.now) (unwrap_or r other).now)
texts_given f name None other is given at = absurd (let no : None ≡ Some given = is ∙ raw_values-rows f name ∙ at in cc no)
texts_given f name (Some texts) other is given at =
    let same : ◌≡◌ {A = Option (List (List ℕ))} (Some (map (λ v. v.now) texts.now)) (Some given) = is ∙ raw_values-rows f name ∙ at in
    cc same
