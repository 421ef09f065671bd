-- The fields of a line's object (JSON, RFC 8259). The names are a choice of this hub.
use Rattle.std.specs.Prelude.{ℕ, List, replicate, Option, Some, None, option_and_then, [], ◌∷◌}
use Rattle.std.specs.Prelude.{codes}
use Rattle.serde_json.specs.Data.{Data}
use Rattle.serde_json.specs.Find.{get, as_str, as_number, as_u64}
use Rattle.inst_json.specs.declared.scanning.fields.Field.{Field}
use Rattle.inst_json.specs.declared.scanning.fields.Fields.{Fields}
use Rattle.inst_json.specs.declared.scanning.fields.Field.TheVariants as field

-- The value under a name.
pub data FoundValue : Type 0 where
  missing : FoundValue
  text : List ℕ → FoundValue
  whole : ℕ → FoundValue
  other : FoundValue

-- The value under each name that lines know.
pub record LineFields : Type 0 where
  pub cmd : FoundValue
  pub who : FoundValue
  pub at : FoundValue
  pub reference : FoundValue
  pub id : FoundValue
  pub to : FoundValue
  pub from : FoundValue
  pub cents : FoundValue
  pub stamp : FoundValue
  pub reason : FoundValue
  pub max : FoundValue
  pub skip : FoundValue
  pub count : FoundValue
  pub step : FoundValue
  pub place : FoundValue
  pub book : FoundValue
  pub event : FoundValue
  pub deadline : FoundValue
  pub outcome : FoundValue

-- A text if there is one, else a whole number, else something else.
abbrev pub text_or_whole : Option (List ℕ) → Option ℕ → FoundValue
text_or_whole (Some s) n = text s
text_or_whole None (Some n) = whole n
text_or_whole None None = other

-- A JSON value as a text, a whole number of 64 bits, or something else.
abbrev pub value_found : Option Data → FoundValue
value_found None = missing
value_found (Some d) = text_or_whole (as_str d) (option_and_then as_u64 (as_number d))

-- The fields of a JSON value. Only an object has any.
abbrev pub fields_of : Data → LineFields
fields_of d = record {
  cmd = value_found (get (codes "cmd") d);
  who = value_found (get (codes "who") d);
  at = value_found (get (codes "at") d);
  reference = value_found (get (codes "ref") d);
  id = value_found (get (codes "id") d);
  to = value_found (get (codes "to") d);
  from = value_found (get (codes "from") d);
  cents = value_found (get (codes "cents") d);
  stamp = value_found (get (codes "stamp") d);
  reason = value_found (get (codes "reason") d);
  max = value_found (get (codes "max") d);
  skip = value_found (get (codes "skip") d);
  count = value_found (get (codes "count") d);
  step = value_found (get (codes "step") d);
  place = value_found (get (codes "place") d);
  book = value_found (get (codes "book") d);
  event = value_found (get (codes "event") d);
  deadline = value_found (get (codes "deadline") d);
  outcome = value_found (get (codes "outcome") d);
}

-- The value of a scanned field.
abbrev pub field_value : Field → FoundValue
field_value field.Missing = missing
field_value (field.Text s) = text s.now
field_value (field.Whole n) = whole n
field_value field.Other = other

-- The values of a line's scanned fields.
abbrev pub fields_told : Fields → LineFields
fields_told line = record {
  cmd = field_value line.cmd;
  who = field_value line.who;
  at = field_value line.at;
  reference = field_value line.reference;
  id = field_value line.id;
  to = field_value line.to;
  from = field_value line.from;
  cents = field_value line.cents;
  stamp = field_value line.stamp;
  reason = field_value line.reason;
  max = field_value line.max;
  skip = field_value line.skip;
  count = field_value line.count;
  step = field_value line.step;
  place = field_value line.place;
  book = field_value line.book;
  event = field_value line.event;
  deadline = field_value line.deadline;
  outcome = field_value line.outcome;
}

-- The fields in the order of their names.
abbrev pub fields_in_order : Fields → List Field
fields_in_order line =
    line.cmd ∷ line.who ∷ line.at ∷ line.reference ∷ line.id ∷ line.to ∷ line.from ∷ line.cents
    ∷ line.stamp
    ∷ line.reason ∷ line.max ∷ line.skip ∷ line.count ∷ line.step ∷ line.place ∷ line.book
    ∷ line.event ∷ line.deadline ∷ line.outcome ∷ []

-- The fields of a line that has none.
abbrev pub no_fields : List Field
no_fields = replicate 19 field.Missing
