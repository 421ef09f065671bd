use Rattle.std.proofs.Common.{◌≡◌, ◌<◌, ◌≤◌, length, get_or, ap, ◌∙◌, arith}
use Rattle.std.proofs.lemmas.Grind.{common_steps}
use Rattle.std.proofs.lemmas.List.{length-map}
use Rattle.inst_settings.specs.Lawful.{IsSettings}
use Rattle.inst_journal.specs.History.{History}
use Rattle.inst_books.proofs.Journals.{written_next, writable_next, form_next, code_next, form_all, code_all}
use Rattle.inst_books.specs.Books.{books_text}
use Rattle.inst_books.proofs.books.append_books.Goals as goal

pub loop-who-preserved : goal.loop-who-preserved
loop-who-preserved c =
    let s = c.args.settings.now in
    let journals = c.args.journals.now in
    let who = c.loop-who.who in
    let d = c.index-journals-from.result in
    let low : who < length journals = omega (arith, c.requires.one_each, c.participants-who-end.ensures.value) in
    let coded : who < length s.codes = omega (arith, c.participants-who-end.ensures.value) in
    let events : c.events.result.now ≡ (get_or journals who d).events =
    c.events.ensures ∙ ap (λ (h : History). h.events) c.index-journals-from.is ∙ ap (λ n. (get_or journals n d).events) c.from.ensures in
    record {
      writable = (writable_next s journals who d low c.loop-who.invariant.writable).1;
      form = form_next journals who d c.events.result.now low events c.in_ok-append_book.ensures.form c.loop-who.invariant.form;
      codes = code_next s who coded c.append_book.ensures.code c.loop-who.invariant.codes;
      rest = written_next s journals who d c.events.result.now c.loop-who.out.items c.append_book.new.out.items _ low events c.in_ok-append_book.ensures.text c.loop-who.invariant.rest;
    }

pub returns-clause-books : goal.returns-clause-books
returns-clause-books c = λ (lawful : IsSettings c.args.settings.now).
    let s = c.args.settings.now in
    let journals = c.args.journals.now in
    let who = c.loop-who.who in
    let all : length journals ≤ who = omega (arith, c.requires.one_each, c.participants-who-end.ensures.value, c.loop-who-test.false) in
    let coded : length s.codes ≤ who = omega (arith, c.participants-who-end.ensures.value, c.loop-who-test.false) in
    record {
      settings = lawful;
      codes = code_all s who coded c.loop-who.invariant.codes;
      one_each = length-map journals (λ (h : History). h.events) ∙ c.requires.one_each;
      writable = c.requires.writable;
      form = form_all journals who all c.loop-who.invariant.form;
    }

pub append_book-requires-clause-writable : goal.append_book-requires-clause-writable
unfolding books_text
append_book-requires-clause-writable c = grind (arith, common_steps)

pub returns-clause-text : goal.returns-clause-text
unfolding books_text
returns-clause-text c = grind (arith, common_steps)
