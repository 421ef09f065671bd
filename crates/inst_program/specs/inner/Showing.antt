-- The digest that is printed of a log.
use Rattle.std.specs.Prelude.{◌≡◌, Option, Some, None, Result, Ok}
use Rattle.inst_chain.specs.declared.digest.Digest.{Digest}
use Rattle.inst_chain.specs.declared.prefix.Prefix.{Prefix}
use Rattle.inst_logged.specs.declared.version.Version.{Version}
use Rattle.inst_logged.specs.declared.version.Version.TheVariants.{One, Two}

-- None for a log of version 1; the last one for a log of version 2 with right marks.
abbrev pub HasDigest : Version → Result Digest Prefix → Option Digest → Type 0
HasDigest One chain digest = digest ≡ None
HasDigest Two chain digest = (last : Digest) × (chain ≡ Ok last) × (digest ≡ Some last)
