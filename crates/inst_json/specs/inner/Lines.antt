-- The JSON value of a text, before its numbers are converted.
use Rattle.std.specs.Prelude.{ℕ, List, Option, option_and_then}
use Rattle.json.specs.Json.{Json, if_last, value}
use Rattle.json.specs.Lex.{tokens}
use Rattle.serde_json.specs.Read.{max_depth}

-- The JSON value of a text, before its numbers are converted.
abbrev pub document : List ℕ → Option Json
document text = option_and_then (λ p. if_last p.0 p.1) (value max_depth (tokens text))
