-- The options of a log.
use Rattle.std.proofs.Common.{◌≡◌, ℕ, true, is_some, List, Option, Some, None, Result, option_map, Bor, refl, sym, ap, ◌∙◌}
use Rattle.std.specs.Str.Parse.{ParsesUnsigned}
use Rattle.clap.specs.Words.{ReadsOne, first_of, first_value, one_text, rows_of}
use Rattle.clap.specs.declared.parser.matches.Found.{Found}
use Rattle.clap.proofs.WalkLemmas.{first_value-rows}
use Rattle.inst_base.specs.declared.fault.Fault.TheVariants.{BadSettings}
use Rattle.inst_options.specs.Options.{GivesOrNot, IsGiven}
use Rattle.inst_options.proofs.OptionTextsAndNumbers.{none_given, number_given}

pub given_text : (f : Found) (name : List ℕ) (r : Option (Bor (List ℕ))) (text : Bor (List ℕ)) → option_map (λ s. s.now) r ≡ first_value f name → r ≡ Some text → first_of name (rows_of f) ≡ Some text.now
given_text f name r text is some = sym (first_value-rows f name) ∙ sym is ∙ ap (option_map (λ (s : Bor (List ℕ)). s.now)) some

pub given_none : (f : Found) (name : List ℕ) (r : Option (Bor (List ℕ))) → option_map (λ s. s.now) r ≡ first_value f name → r ≡ None → first_of name (rows_of f) ≡ None
given_none f name r is none = sym (first_value-rows f name) ∙ sym is ∙ ap (option_map (λ (s : Bor (List ℕ)). s.now)) none

pub given_some : (f : Found) (name : List ℕ) (r : Option (Bor (List ℕ))) → option_map (λ s. s.now) r ≡ first_value f name → is_some r ≡ true → IsGiven name (rows_of f)
given_some f name None is some = absurd (cc)
given_some f name (Some text) is some = (text.now, sym (first_value-rows f name) ∙ sym is)

none_is_some : (text : List ℕ) → None ≡ Some text → ⊥
none_is_some text e = cc

pub some_given : (f : Found) (name : List ℕ) (r : Option (Bor (List ℕ))) → option_map (λ s. s.now) r ≡ first_value f name → IsGiven name (rows_of f) → is_some r ≡ true
some_given f name None is given = absurd (none_is_some given.0 (is ∙ first_value-rows f name ∙ given.1))
some_given f name (Some text) is given = refl

pub given_or_not : {E : Type 0} (reads : List ℕ → Result ℕ E → Type 0) (f : Found) (name : List ℕ) (r : Option ℕ) →
    (one_text f name ≡ None → r ≡ None) → ((text : List ℕ) → one_text f name ≡ Some text → ReadsOne reads text r) →
    ((text : List ℕ) (q : Result ℕ E) → reads text q → ParsesUnsigned 64 10 text q) → GivesOrNot (rows_of f) name r
given_or_not reads f name None none value digits = none_given reads f name None BadSettings value digits
given_or_not reads f name (Some n) none value digits = number_given reads f name (Some n) BadSettings none value digits
