-- Worked values of a place's words, computed from the definitions. A choice of this hub.
use Rattle.std.specs.Prelude.{◌≡◌, ℕ, List, [], ◌∷◌, codes}
use Rattle.inst_command.specs.declared.outcome.Outcome.TheVariants.{Accepted, Rejected, TimedOut}
use Rattle.inst_terms.specs.declared.terms.Terms.{Terms}
use Rattle.inst_terms.specs.declared.word.Word.TheVariants.{Unused, Pending, Decided}
use Rattle.inst_terms.specs.Terms.{words_of}
use Rattle.inst_terms.specs.Word.{word_number}

abbrev pub terms : ℕ → ℕ → List ℕ → Terms
terms to cents id = record { to = to; cents = cents; id = id }

pub record TermsWords : Type 0 where
  pub usual : words_of (terms 1 50000 (codes "T1")) ≡ 12800001 ∷ 6356 ∷ 0 ∷ 0 ∷ 0 ∷ []
  pub largest : words_of (terms 255 99999999999 (codes "T1"))
      ≡ 25599999999999 ∷ 6356 ∷ 0 ∷ 0 ∷ 0 ∷ []
  pub longest : words_of (terms 0 1 (codes "ABCDEFGHIJKLMNOPQRSTUVWXYZabcdefghi")) ≡
      256 ∷ 5301051446564806977 ∷ 5954676236578137546 ∷ 7040646590819035731 ∷ 59570708593324514 ∷ []

pub record OutcomeWords : Type 0 where
  pub unused : word_number Unused ≡ 0
  pub pending : word_number (Pending 11000) ≡ 92274688000
  pub last : word_number (Pending 2199023255551) ≡ 18446744073701163008
  pub accepted : word_number (Decided Accepted 10999) ≡ 92266299393
  pub rejected : word_number (Decided (Rejected (codes "AC04")) 2000) ≡ 16779144466
  pub timed_out : word_number (Decided TimedOut 11000) ≡ 92274688003

abbrev pub WordsOfTheFormat : Type 0
WordsOfTheFormat = TermsWords × OutcomeWords
