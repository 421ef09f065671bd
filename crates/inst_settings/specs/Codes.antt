-- The number of a participant: the index of its code (BIC, ISO 9362) among the codes of a hub. A
-- choice of this hub.
use Rattle.std.specs.Prelude.{ℕ, List, position, Option}
use Rattle.inst_settings.specs.Settings.{same_text}

-- The number of the participant with this code.
abbrev pub index_of : List ℕ → List (List ℕ) → Option ℕ
index_of code codes = position (same_text code) codes
