-- Storing a funding under a reference.
use Rattle.std.specs.Prelude.{◌≡◌, ℕ, cond, List, Some}
use Rattle.inst_settings.specs.Settings.{same_text}
use Rattle.inst_ledger.specs.declared.references.KeptFunding.{KeptFunding}
use Rattle.inst_ledger.specs.declared.references.References.{References}
use Rattle.inst_ledger.specs.References.{funding_at}

-- The funding is stored under the reference; every other reference is unchanged.
abbrev pub PutsFunding : References → List ℕ → KeptFunding → References → Type 0
PutsFunding old reference funding new = (q : List ℕ) →
    funding_at new q ≡ cond (same_text reference q) (Some funding) (funding_at old q)
