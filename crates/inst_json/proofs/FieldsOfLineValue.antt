-- The fields that a line tells are those of its value.
use Rattle.std.proofs.Common.{◌≡◌, ℕ, ◌<◌, List, [], get_or, refl, ap, ◌∙◌, arith, codes}
use Rattle.serde_json.specs.Data.{Data, Members}
use Rattle.serde_json.specs.Find.{get, get_member}
use Rattle.inst_json.specs.inner.Names.{names}
use Rattle.inst_json.specs.inner.Scalar.{data_of}
use Rattle.inst_json.specs.LineFields.{value_found, field_value, fields_of, fields_told, fields_in_order}
use Rattle.inst_json.specs.declared.scanning.fields.Field.{Field}
use Rattle.inst_json.specs.declared.scanning.fields.Fields.{Fields}
use Rattle.inst_json.specs.declared.scanning.fields.Field.TheVariants as field

-- each known field is what the members have under its name
abbrev pub TellsMembers : List Field → Members → Type 0
TellsMembers fields ms =
    (i : ℕ) → i < 19 → get_member (get_or names i []) ms ≡ data_of (get_or fields i field.Missing)

-- each known field is what the object has under its name
abbrev pub TellsObject : List Field → Data → Type 0
TellsObject fields d = (i : ℕ) → i < 19 → get (get_or names i []) d ≡ data_of (get_or fields i field.Missing)

found_told : (f : Field) → value_found (data_of f) ≡ field_value f
found_told field.Missing = refl
found_told (field.Text s) = refl
found_told (field.Whole n) = refl
found_told field.Other = refl

pub told_of : (line : Fields) (d : Data) → TellsObject (fields_in_order line) d → fields_told line ≡ fields_of d
told_of line d tells =
    let at = λ (i : ℕ) (h : i < 19). ap value_found (tells i h) ∙ found_told (get_or (fields_in_order line) i field.Missing) in
    let cmd : value_found (get (codes "cmd") d) ≡ field_value line.cmd = at 0 (omega arith) in
    let who : value_found (get (codes "who") d) ≡ field_value line.who = at 1 (omega arith) in
    let at_field : value_found (get (codes "at") d) ≡ field_value line.at = at 2 (omega arith) in
    let reference : value_found (get (codes "ref") d) ≡ field_value line.reference = at 3 (omega arith) in
    let id : value_found (get (codes "id") d) ≡ field_value line.id = at 4 (omega arith) in
    let to : value_found (get (codes "to") d) ≡ field_value line.to = at 5 (omega arith) in
    let from : value_found (get (codes "from") d) ≡ field_value line.from = at 6 (omega arith) in
    let cents : value_found (get (codes "cents") d) ≡ field_value line.cents = at 7 (omega arith) in
    let stamp : value_found (get (codes "stamp") d) ≡ field_value line.stamp = at 8 (omega arith) in
    let reason : value_found (get (codes "reason") d) ≡ field_value line.reason = at 9 (omega arith) in
    let most : value_found (get (codes "max") d) ≡ field_value line.max = at 10 (omega arith) in
    let skip : value_found (get (codes "skip") d) ≡ field_value line.skip = at 11 (omega arith) in
    let count : value_found (get (codes "count") d) ≡ field_value line.count = at 12 (omega arith) in
    let step : value_found (get (codes "step") d) ≡ field_value line.step = at 13 (omega arith) in
    let place : value_found (get (codes "place") d) ≡ field_value line.place = at 14 (omega arith) in
    let book : value_found (get (codes "book") d) ≡ field_value line.book = at 15 (omega arith) in
    let event : value_found (get (codes "event") d) ≡ field_value line.event = at 16 (omega arith) in
    let deadline : value_found (get (codes "deadline") d) ≡ field_value line.deadline = at 17 (omega arith) in
    let outcome : value_found (get (codes "outcome") d) ≡ field_value line.outcome = at 18 (omega arith) in
    rw (cmd, who, at_field, reference, id, to, from, cents, stamp, reason, most, skip, count, step, place, book, event, deadline, outcome) refl
