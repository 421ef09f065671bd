-- The table of fundings by reference. A choice of this hub.
use Rattle.std.specs.Prelude.{ℕ, List, Option}
use Rattle.indexmap.specs.IndexMap.{get}
use Rattle.inst_settings.specs.Settings.{same_text}
use Rattle.inst_ledger.specs.declared.references.KeptFunding.{KeptFunding}
use Rattle.inst_ledger.specs.declared.references.References.{References}

-- The funding that the table has at a reference.
abbrev pub funding_at : References → List ℕ → Option KeptFunding
funding_at references reference = get same_text references.table reference
