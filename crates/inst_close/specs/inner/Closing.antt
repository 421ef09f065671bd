-- A closing that left the parts of a hub.
use Rattle.inst_participant.specs.declared.parts.Parts.{Parts}
use Rattle.inst_participant.specs.Apart.{AreLater}
use Rattle.inst_close.specs.declared.closing.Rest.{Rest}
use Rattle.inst_close.specs.declared.closing.Rest.TheVariants.{Whole, Apart}

-- What is left is the same parts, later.
abbrev pub IsPartly : Parts → Rest → Type 0
IsPartly p (Whole hub handed) = ⊥
IsPartly p (Apart parts) = AreLater p parts
