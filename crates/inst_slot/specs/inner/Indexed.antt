-- Equality of identifiers.
use Rattle.std.specs.Prelude.{ℕ, Bool, List}
use Rattle.inst_settings.specs.Settings.{same_text}

-- True if the identifiers are equal.
abbrev pub is_id : List ℕ → List ℕ → Bool
is_id id other = same_text other id
