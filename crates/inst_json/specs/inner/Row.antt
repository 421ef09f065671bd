-- A row of columns. A choice of this hub.
use Rattle.std.specs.Prelude.{ℕ, ◌+◌, List, ◌++◌, length, take, drop}

-- The row after a text is written into it at a column.
abbrev pub row_with_text : List ℕ → ℕ → List ℕ → List ℕ
row_with_text row at text = take at row ++ (text ++ drop (at + length text) row)
