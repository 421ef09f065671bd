-- The five terms words of a place. The first has the amount in cents and the beneficiary's number,
-- the other four the identifier. A choice of this hub. The attributes of a transfer are the
-- scheme's (EPC004-16, chapter 4: attributes).
use Rattle.std.specs.Prelude.{ℕ, ◌+◌, ◌*◌, ◌<◌, List, ◌∷◌, IsTrue}
use Rattle.inst_base.specs.Cents.{is_amount}
use Rattle.inst_base.specs.Text.{is_identifier}
use Rattle.inst_terms.specs.declared.terms.Terms.{Terms}
use Rattle.inst_terms.specs.declared.terms.TheConstants.{BENEFICIARIES}
use Rattle.inst_terms.specs.Identifier.{identifier_words}

-- The factor of the cents in the first word, so the number of beneficiaries that it can name.
abbrev pub beneficiaries : ℕ
beneficiaries = BENEFICIARIES

-- The five words.
abbrev pub words_of : Terms → List ℕ
words_of terms = (terms.cents * beneficiaries + terms.to) ∷ identifier_words terms.id

-- Terms that a place's words can have: a beneficiary below the factor, an amount and an identifier.
pub record IsTerms (terms : Terms) : Type 0 where
  pub beneficiary : terms.to < beneficiaries
  pub amount : IsTrue (is_amount terms.cents)
  pub identifier : IsTrue (is_identifier terms.id)
