use Rattle.std.proofs.Common.{◌≡◌, ◌∙◌, ◌+◌, ◌≤◌, Some, None, ℕ, Option, List, length, option_map, refl, ap, sym, arith}
use Rattle.std.proofs.lemmas.Result.{err_from_is_err_and}
use Rattle.inst_journal.specs.declared.event.Event.{Event}
use Rattle.inst_books.specs.Books.{all_events}
use Rattle.inst_logged.specs.Header.{lines_of_books, first_origin, origin_from}
use Rattle.inst_logged.specs.declared.header.Origin.{Origin}
use Rattle.inst_logged.proofs.BooksBehindFirstLine.{text_has_books, books_said, count_said, books_same, unrefused_err, unrefused_is, unrefused_ok}
use Rattle.inst_logged.proofs.hub.finding.books_on.Goals as goal

pub returns-in_default-clause-found : goal.returns-in_default-clause-found
returns-in_default-clause-found g c = λ clean. record {
  none = λ line. refl;
  some = λ journals previous can line begins.
      let s = c.args.settings.now in
      let there = c.in_ok-origin.ensures.back (origin_from s journals previous) line in
      let no : ◌≡◌ {A = Option ℕ} None (Some (length (lines_of_books s journals))) = sym c.in_default.is ∙ ap (λ (o : Origin). o.books) there in
      absurd (cc no);
}

pub returns-in_err-journals-clause-found : goal.returns-in_err-journals-clause-found
returns-in_err-journals-clause-found g c = λ clean. record {
  none = λ line. absurd (books_said c.in_ok-origin.origin c.in-Some.count c.in-Some.is (c.in_ok-origin.ensures.back first_origin line));
  some = λ journals previous can line begins.
      let s = c.args.settings.now in
      let there = c.in_ok-origin.ensures.back (origin_from s journals previous) line in
      let counted = count_said s journals previous c.in_ok-origin.origin c.in-Some.count c.in-Some.is there in
      let long : length (lines_of_books s journals) + 2 ≤ c.saturating_add.result = omega (arith, counted, can.few, c.saturating_add.ensures) in
      let has = text_has_books c.args.head.version c.args.mode s journals previous c.args.head.line.now (g.D.Disk.seen c.args.disk.now) c.deref.result.now c.saturating_add.result can line begins long
      (c.deref.ensures.value ∙ c.in_ok-text.ensures.lines clean) in
      let known = c.journals_in.ensures.found journals can has counted in
      unrefused_err _ c.from_residual-in_err-journals.result c.in_err-journals.field-0.0 (err_from_is_err_and c.from_residual-in_err-journals.result c.from_residual-in_err-journals.ensures.1)
      (unrefused_is _ c.journals_in.result c.in_err-journals.field-0.0 known c.in_err-journals.was);
}

pub returns-in-Some-2-clause-found : goal.returns-in-Some-2-clause-found
returns-in-Some-2-clause-found g c = λ clean. record {
  none = λ line. absurd (books_said c.in_ok-origin.origin c.in-Some.count c.in-Some.is (c.in_ok-origin.ensures.back first_origin line));
  some = λ journals previous can line begins.
      let s = c.args.settings.now in
      let there = c.in_ok-origin.ensures.back (origin_from s journals previous) line in
      let counted = count_said s journals previous c.in_ok-origin.origin c.in-Some.count c.in-Some.is there in
      let long : length (lines_of_books s journals) + 2 ≤ c.saturating_add.result = omega (arith, counted, can.few, c.saturating_add.ensures) in
      let has = text_has_books c.args.head.version c.args.mode s journals previous c.args.head.line.now (g.D.Disk.seen c.args.disk.now) c.deref.result.now c.saturating_add.result can line begins long
      (c.deref.ensures.value ∙ c.in_ok-text.ensures.lines clean) in
      let known = c.journals_in.ensures.found journals can has counted in
      books_same (λ js. all_events js.items) c.in_ok-journals.field-0 c.in-Some-2.journals (all_events journals) c.in_ok-origin.origin.previous previous
      (unrefused_ok _ c.journals_in.result c.in_ok-journals.field-0 known c.in_ok-journals.was) c.in-Some-2.is (ap (λ (o : Origin). o.previous) there);
}

pub returns-clause-found : goal.returns-clause-found
returns-clause-found g c = λ clean. record {
  none = λ line. absurd (books_said c.in_ok-origin.origin c.in-Some.count c.in-Some.is (c.in_ok-origin.ensures.back first_origin line));
  some = λ journals previous can line begins.
      let s = c.args.settings.now in
      let there = c.in_ok-origin.ensures.back (origin_from s journals previous) line in
      let counted = count_said s journals previous c.in_ok-origin.origin c.in-Some.count c.in-Some.is there in
      let long : length (lines_of_books s journals) + 2 ≤ c.saturating_add.result = omega (arith, counted, can.few, c.saturating_add.ensures) in
      let has = text_has_books c.args.head.version c.args.mode s journals previous c.args.head.line.now (g.D.Disk.seen c.args.disk.now) c.deref.result.now c.saturating_add.result can line begins long
      (c.deref.ensures.value ∙ c.in_ok-text.ensures.lines clean) in
      let known = c.journals_in.ensures.found journals can has counted in
      let seen = unrefused_ok _ c.journals_in.result c.in_ok-journals.field-0 known c.in_ok-journals.was in
      let no : ◌≡◌ {A = Option (List (List Event))} None (Some (all_events journals)) = ap (option_map (λ js. all_events js.items)) (sym c.in-None.is) ∙ seen in
      absurd (cc no);
}
