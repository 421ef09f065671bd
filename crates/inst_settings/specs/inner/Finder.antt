-- Adding a participant to the holders of a mark.
use Rattle.std.specs.Prelude.{ℕ}
use Rattle.inst_settings.specs.declared.finder.Holders.{Holders}
use Rattle.inst_settings.specs.declared.finder.Holders.TheVariants.{Nobody, Only, Several}

-- The holders with one more participant.
abbrev pub with_one_more : Holders → ℕ → Holders
with_one_more Nobody number = Only number
with_one_more (Only holder) number = Several
with_one_more Several number = Several
