use Rattle.std.proofs.Common.{◌≡◌, subst, arith, decimal}
use Rattle.std.specs.Fmt.{HasWritten, styled_text, styled_decimal}
use Rattle.inst_base.specs.Text.{is_latin, is_code_character}
use Rattle.inst_base.proofs.TextsAreAscii.{is_latin-below, is_code_character-below}
use Rattle.inst_command.specs.LineText.{line_text, left_in, right_in, kind_name, other_code}
use Rattle.inst_command.proofs.ColumnWidths.{left_column, right_column, columns_are, identifier_form}
use Rattle.inst_command.proofs.layout.LineTextDisplay.fmt.Goals as goal

pub returns-clause-writes : goal.returns-clause-writes
unfolding line_text
returns-clause-writes g c plain ok =
    let line = c.args.self.now.line.now in
    let settings = c.args.self.now.settings.now in
    let number : styled_decimal c.laid_out.result line.number ≡ right_in 6 (decimal line.number) =
    rw c.laid_out.ensures (right_column 5 _) in
    let kind : styled_text c.laid_out-2.result c.kind_name-kind.result.now ≡ left_in 3 (kind_name line.kind) =
    rw (c.laid_out-2.ensures, ← c.kind_name-kind.ensures.value) (left_column is_code_character is_code_character-below 2 _ c.kind_name-kind.ensures.form (let short = c.kind_name-kind.ensures.short in omega arith)) in
    let other : styled_text c.laid_out-3.result c.other_code-other.result.now ≡ left_in 11 (other_code settings line.other) =
    rw (c.laid_out-3.ensures, ← c.other_code-other.ensures.value) (left_column is_code_character is_code_character-below 10 _ c.other_code-other.ensures.form (let short = c.other_code-other.ensures.short in omega arith)) in
    let form = identifier_form c.text-id.result.now c.text-id.ensures.form in
    let id : styled_text c.laid_out-4.result c.text-id.result.now ≡ left_in 35 line.id =
    rw (c.laid_out-4.ensures, ← c.text-id.ensures.value) (left_column is_latin is_latin-below 34 _ form.0 (let short = form.1 in omega arith)) in
    let cents : styled_decimal c.laid_out-5.result c.get-cents.result ≡ right_in 11 (decimal line.cents) =
    rw (c.laid_out-5.ensures, c.get-cents.ensures.value) (right_column 10 _) in
    let position : styled_decimal c.laid_out-6.result line.position ≡ right_in 20 (decimal line.position) =
    rw c.laid_out-6.ensures (right_column 19 _) in
    subst (λ text. HasWritten {W = g.row.W.Denot} g.W.Write.write_str_gives c.args.f.now text c.write.new.self)
    (columns_are _ _ _ _ _ _ number kind other id cents position) (c.write.ensures.writes plain ok)
