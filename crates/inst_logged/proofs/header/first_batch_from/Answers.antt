use Rattle.std.proofs.Common.{◌≡◌, ◌<◌, ◌^◌, ◌∙◌, arith, Some, List, ℕ, ◌∷◌, ◌++◌, length, ap}
use Rattle.std.proofs.lemmas.Result.{IfOk-weaker}
use Rattle.inst_log.specs.Layout.{recovered_lines, at_rest}
use Rattle.inst_log.specs.Escape.{raw_of}
use Rattle.inst_books.specs.Books.{all_events, books_text}
use Rattle.inst_logged.specs.Header.{header_from, header_line, lines_and_mark, lines_of_books}
use Rattle.inst_log.proofs.Pieces.{lines_short}
use Rattle.inst_logged.proofs.Headings.{behind_lines, behind_whole, behind_some}
use Rattle.inst_logged.proofs.OpenableBooksCanBeWritten.{can_be_written}
use Rattle.inst_logged.proofs.header.first_batch_from.Goals as goal

pub append_books-requires-clause-writable : goal.append_books-requires-clause-writable
append_books-requires-clause-writable c = can_be_written c.args.settings.now c.args.books.journals.now c.requires.journals

pub close_heading-requires-clause-whole : goal.close_heading-requires-clause-whole
close_heading-requires-clause-whole c =
    behind_whole c.in_ok-lines.lines.items _ c.deref-2.result.now c.extend_from_slice.new.self.items c.in_ok-lines.ensures.whole c.in_ok-lines.ensures.lines
    (c.in_ok-extend_from_slice.ensures.items ∙ ap (λ (l : List ℕ). c.in_ok-lines.lines.items ++ l) c.whole_lines.ensures)

pub close_heading-requires-clause-some : goal.close_heading-requires-clause-some
close_heading-requires-clause-some c =
    behind_some c.in_ok-lines.lines.items _ c.deref-2.result.now c.extend_from_slice.new.self.items c.in_ok-lines.ensures.whole c.in_ok-lines.ensures.lines
    (c.in_ok-extend_from_slice.ensures.items ∙ ap (λ (l : List ℕ). c.in_ok-lines.lines.items ++ l) c.whole_lines.ensures)

pub returns-clause-items : goal.returns-clause-items
unfolding header_from
returns-clause-items c =
    let mode = c.args.mode in
    let version = c.args.version in
    let s = c.args.settings.now in
    let text : List ℕ = books_text s (all_events c.args.books.journals.now) in
    let previous = c.args.books.previous in
    let line = raw_of (header_line version mode s (record { books = Some c.count_lines.result; previous = previous })) in
    let written : c.append_books.new.out.items ≡ text = c.in_ok-append_books.ensures.text ∙ ap (λ (l : List ℕ). l ++ text) c.new-text.ensures.items in
    let counted : c.count_lines.result ≡ length (recovered_lines text) = c.count_lines.ensures.count ∙ ap (λ (l : List ℕ). length (recovered_lines l)) (c.deref.ensures.value ∙ written) in
    let lines : recovered_lines c.extend_from_slice.new.self.items ≡ line ∷ recovered_lines c.deref-2.result.now =
    behind_lines c.in_ok-lines.lines.items _ c.deref-2.result.now c.extend_from_slice.new.self.items c.in_ok-lines.ensures.whole c.in_ok-lines.ensures.lines
    (c.in_ok-extend_from_slice.ensures.items ∙ ap (λ (l : List ℕ). c.in_ok-lines.lines.items ++ l) c.whole_lines.ensures) in
    IfOk-weaker c.close_heading.result _ _ (λ heading is.
    is ∙ ap (λ (ls : List (List ℕ)). at_rest (lines_and_mark version ls)) lines
    ∙ ap (λ (l : List ℕ). at_rest (lines_and_mark version (line ∷ recovered_lines l))) (c.deref-2.ensures.value ∙ written)
    ∙ ap (λ (n : ℕ). at_rest (lines_and_mark version (raw_of (header_line version mode s (record { books = Some n; previous = previous })) ∷ recovered_lines text))) counted) c.close_heading.ensures.items

pub returns-clause-again : goal.returns-clause-again
returns-clause-again c =
    let s = c.args.settings.now in
    let text : List ℕ = books_text s (all_events c.args.books.journals.now) in
    let written : c.append_books.new.out.items ≡ text = c.in_ok-append_books.ensures.text ∙ ap (λ (l : List ℕ). l ++ text) c.new-text.ensures.items in
    let few : length (lines_of_books s c.args.books.journals.now) < 2 ^ 63 =
    omega (arith, c.append_books.new.out.ok.0, c.append_books.new.out.small, ap length written, lines_short text) in
    IfOk-weaker c.close_heading.result _ _ (λ heading is lawful. record {
      can = c.requires.journals;
      books = c.in_ok-append_books.ensures.books lawful;
      few = few;
    }) c.close_heading.ensures.items
