-- The names of a line's fields. They are a choice of this hub.
use Rattle.std.specs.Prelude.{ℕ, List, codes}
use Rattle.inst_json.specs.declared.name.Name.{Name}
use Rattle.inst_json.specs.declared.name.Name.TheVariants as name

-- A name as it is in a line.
abbrev pub text_of : Name → List ℕ
text_of name.Cmd = codes "cmd"
text_of name.Who = codes "who"
text_of name.At = codes "at"
text_of name.Reference = codes "ref"
text_of name.Id = codes "id"
text_of name.To = codes "to"
text_of name.From = codes "from"
text_of name.Cents = codes "cents"
text_of name.Stamp = codes "stamp"
text_of name.Reason = codes "reason"
text_of name.Max = codes "max"
text_of name.Skip = codes "skip"
text_of name.Count = codes "count"
text_of name.Step = codes "step"
text_of name.Place = codes "place"
