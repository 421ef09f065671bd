use Rattle.std.proofs.Common.{rules, OnOk, ◌≡◌, ◌++◌, ◌≤◌, true, ◌<◌, ◌^◌, arith, length, nat_le, decimal, List, ℕ, ap, ◌∙◌, refl, codes}
use Rattle.std.proofs.lemmas.Bool.{and_parts}
use Rattle.std.proofs.lemmas.Bool.Decides.{nat_tests}
use Rattle.std.proofs.lemmas.Result.{on_ok_weaker}
use Rattle.std.proofs.lemmas.Fmt.{length-decimal-le}
use Rattle.inst_command.specs.LineText.{last_number, line_text}
use Rattle.inst_command.proofs.LineTextIsLatin.{line_text-latin, latin-code}
use Rattle.inst_command.proofs.ColumnWidths.{identifier_form}
use Rattle.inst_json.proofs.TextsWithoutEscapes.{escape-latin}
use Rattle.inst_json.proofs.ReplyTexts.{quoted_line}
use Rattle.inst_json.proofs.Rows.{filled_row}
use Rattle.inst_json.proofs.lists.append_line.Goals as goal

-- the widths of the numbers
short_number : (n : ℕ) → nat_le n last_number ≡ true → length (decimal n) ≤ 6
short_number n fits =
    let small : n ≤ last_number = grind (arith, nat_tests) in
    length-decimal-le 6 n (omega arith) (omega (arith, small)) (omega (arith, small))

pub put_number-requires : goal.put_number-requires
put_number-requires c =
    let short = short_number c.args.line.now.number (and_parts (nat_le c.args.line.now.number last_number) _ c.requires).0 in
    (omega (arith, short, ap (λ n. length (decimal n)) c.from.ensures), omega arith)

pub put_number-requires-2 : goal.put_number-requires-2
put_number-requires-2 c =
    let small = c.get.ensures.within in
    let short = length-decimal-le 11 c.get.result (omega arith) (omega (arith, small)) (omega (arith, small)) in
    (omega (arith, short), omega arith)

pub put_number-requires-3 : goal.put_number-requires-3
put_number-requires-3 c =
    let word : c.args.line.now.position < 2 ^ 64 = search rules in
    let short = length-decimal-le 20 c.args.line.now.position (omega arith) (omega (arith, word)) word in
    (omega (arith, short), omega arith)

pub returns : goal.returns
unfolding line_text
returns c =
    let settings = c.args.settings.now in
    let line = c.args.line.now in
    let small = c.get.ensures.within in
    let word : line.position < 2 ^ 64 = search rules in
    let number : length (decimal c.from.result) ≤ 6 = rw c.from.ensures (short_number line.number (and_parts (nat_le line.number last_number) _ c.requires).0) in
    let cents = length-decimal-le 11 c.get.result (omega arith) (omega (arith, small)) (omega (arith, small)) in
    let position = length-decimal-le 20 line.position (omega arith) (omega (arith, word)) word in
    let form = identifier_form c.text.result.now c.text.ensures.form in
    let row = filled_row _ _ _ _ _ _ _ (decimal c.from.result) c.kind_name.result.now c.other_code.result.now c.text.result.now (decimal c.get.result) (decimal line.position) refl
    number c.put_number.ensures c.kind_name.ensures.short c.put_text.ensures c.other_code.ensures.short c.put_text-2.ensures form.1 c.put_text-3.ensures
    cents c.put_number-2.ensures position c.put_number-3.ensures in
    let columns : c.put_number-3.new.row ≡ codes "\"" ++ (line_text settings line ++ codes "\"") = rw (c.from.ensures, c.kind_name.ensures.value, c.other_code.ensures.value, c.text.ensures.value, c.get.ensures.value) at row in
    let latin = line_text-latin settings line
    (rw (← c.other_code.ensures.value) (latin-code c.other_code.result.now c.other_code.ensures.form))
    (rw (← c.text.ensures.value) form.0) in
    let old : List ℕ = c.args.out.now.items in
    let items : OnOk c.extend_from_slice.result (c.extend_from_slice.new.self.items ≡ old ++ c.put_number-3.new.row) = search rules in
    on_ok_weaker c.extend_from_slice.result (λ h. h ∙ ap (λ t. old ++ t) (columns ∙ quoted_line (line_text settings line) (escape-latin (line_text settings line) latin))) items
