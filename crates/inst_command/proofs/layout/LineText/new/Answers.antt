use Rattle.std.proofs.Common.{rules, ◌≤◌, ◌<◌, ◌^◌, arith, length, nat_le}
use Rattle.std.proofs.lemmas.Bool.{and_parts}
use Rattle.std.proofs.lemmas.Bool.Decides.{nat_tests}
use Rattle.inst_command.specs.LineText.{last_number, other_code, other_fits}
use Rattle.inst_command.proofs.LineTextTellsLine.{columns_from, columns_length}
use Rattle.inst_command.proofs.LineTextIsLatin.{line_text-latin, latin-code}
use Rattle.inst_command.proofs.ColumnWidths.{identifier_form}
use Rattle.inst_command.proofs.layout.LineText.new.Goals as goal

pub returns-clause-len : goal.returns-clause-len
returns-clause-len c =
    let line = c.args.line.now in
    let settings = c.args.settings.now in
    let parts = and_parts (nat_le line.number last_number) (other_fits settings line.kind line.other) c.requires in
    let small : line.number ≤ last_number = let h = parts.0 in grind (arith, nat_tests) in
    let amount : line.cents ≤ 99999999999 = rw (← c.get-cents.ensures.value) c.get-cents.ensures.within in
    let short : length line.id ≤ 35 = rw (← c.text-id.ensures.value) (identifier_form c.text-id.result.now c.text-id.ensures.form).1 in
    let other : length (other_code settings line.other) ≤ 11 = rw (← c.other_code-other.ensures.value) c.other_code-other.ensures.short in
    let word : line.position < 2 ^ 64 = search rules in
    columns_length settings line (columns_from settings line small parts.1 other short amount word)

pub returns-clause-latin : goal.returns-clause-latin
returns-clause-latin c =
    let id = (identifier_form c.text-id.result.now c.text-id.ensures.form).0 in
    line_text-latin c.args.settings.now c.args.line.now
    (rw (← c.other_code-other.ensures.value) (latin-code c.other_code-other.result.now c.other_code-other.ensures.form))
    (rw (← c.text-id.ensures.value) id)
