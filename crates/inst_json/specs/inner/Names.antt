-- The names of the fields of lines, in the order in which they are stored. The names are a choice
-- of this hub.
use Rattle.std.specs.Prelude.{ℕ, List, [], ◌∷◌, codes}
use Rattle.std.specs.Str.{bytes_eq}
use Rattle.std.specs.List.{position_or_len}

abbrev pub names : List (List ℕ)
names =
    codes "cmd" ∷ codes "who" ∷ codes "at" ∷ codes "ref" ∷ codes "id" ∷ codes "to" ∷ codes "from"
    ∷ codes "cents"
    ∷ codes "stamp" ∷ codes "reason" ∷ codes "max" ∷ codes "skip" ∷ codes "count" ∷ codes "step"
    ∷ codes "place" ∷ codes "book" ∷ codes "event" ∷ codes "deadline" ∷ codes "outcome" ∷ []

-- The index of a name, or 19.
abbrev pub name_index : List ℕ → ℕ
name_index name = position_or_len (bytes_eq name) names
