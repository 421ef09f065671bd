use Rattle.std.proofs.Common.{length, ap, ◌∙◌, sym, arith}
use Rattle.std.proofs.lemmas.Grind.{common_steps}
use Rattle.std.proofs.lemmas.List.{length-map, length-replicate}
use Rattle.inst_settings.specs.Settings.{participants}
use Rattle.inst_journal.specs.History.{History}
use Rattle.inst_log.specs.Layout.{recovered_lines}
use Rattle.inst_books.specs.Books.{all_events, books_of_text, with_lines}
use Rattle.inst_books.proofs.Journals.{no_books_writable}
use Rattle.inst_books.proofs.books.read_books.Goals as goal

pub loop-len-init : goal.loop-len-init
loop-len-init c =
    let s = c.args.settings.now in
    let journals = c.in_ok-journals.journals.items in
    record {
      one_each = sym (length-map journals (λ (h : History). h.events)) ∙ ap length c.in_ok-journals.ensures ∙ length-replicate (participants s) _;
      writable = no_books_writable s (all_events journals) c.in_ok-journals.ensures;
      rest = ap (with_lines s (recovered_lines c.args.text.now)) c.in_ok-journals.ensures;
    }

pub loop-len-preserved : goal.loop-len-preserved
unfolding books_of_text
loop-len-preserved c = grind (arith, common_steps)

pub returns-clause-value : goal.returns-clause-value
unfolding books_of_text
returns-clause-value c = grind (arith, common_steps)
