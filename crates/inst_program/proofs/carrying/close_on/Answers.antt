use Rattle.std.proofs.Common.{◌∙◌, inl, inr, Ok, ap, sym, subst}
use Rattle.inst_program.specs.inner.Carrying.{IsReadAsLog}
use Rattle.std.proofs.lemmas.Result.{IfErr-weaker, IfOk-weaker, on_err_weaker}
use Rattle.inst_program.proofs.LogOnReturnedDisk.{left_as_it_was}
use Rattle.inst_program.proofs.CausesOfUnclosedHub.{is_read, refused_to_close, unclosed_before, unread_to_close}
use Rattle.inst_program.proofs.LogAfterVisit.{carries_books, left_change, safe_or}
use Rattle.inst_program.proofs.carrying.close_on.Goals as goal

pub close_hub-requires-clause-read : goal.close_hub-requires-clause-read
close_hub-requires-clause-read g c clean =
    subst (IsReadAsLog c.in-Ok-Some.header.mode c.in-Ok-Some.header.settings) (sym c.beginning_of.ensures.read.left.same)
    (is_read (g.D.Disk.seen c.args.disk) c.beginning_of.result c.in-Ok-Some.header (c.in-Ok-Some.ensures.there clean) (c.beginning_of.ensures.found clean)
    (c.in-Ok-Some.is ∙ ap Ok c.in-Ok-Some.field-0-is))

pub returns-in-Ok-Some : goal.returns-in-Ok-Some
returns-in-Ok-Some g c =
    let change = left_change g.D.Disk c.args.disk c.beginning_of.new.disk c.close_hub.result.1 c.beginning_of.ensures.read.left in
    let closed = c.close_hub.ensures in
    record {
      ok = IfOk-weaker c.close_hub.result.0 _ _ (λ closed is faith digest asked. carries_books _ _ change digest _ _ _ (λ m. m) (is faith digest asked)) closed.ok;
      books = closed.books;
      err = on_err_weaker c.close_hub.result.0 (λ safe faith. safe_or _ _ change _ _ (λ m. m) (safe faith)) closed.err;
      refused = IfErr-weaker c.close_hub.result.0 _ _ (λ e is two. unclosed_before _ c.args.wanted (g.D.Disk.seen c.args.disk) _ c.beginning_of.ensures.read.left.same (is two)) closed.refused;
    }

pub returns-in-Ok-None : goal.returns-in-Ok-None
returns-in-Ok-None g c = record {
  ok = tt;
  books = tt;
  err = λ faith. inl (left_as_it_was g.D.Disk c.args.disk c.beginning_of.new.disk c.beginning_of.ensures.read.left);
  refused = λ two. inr (λ clean good.
      unread_to_close c.args.wanted (g.D.Disk.seen c.args.disk) c.beginning_of.result (c.beginning_of.ensures.found clean) (c.in-Ok-None.is ∙ ap Ok c.in-Ok-None.field-0-is) good);
}

pub returns-in-Err : goal.returns-in-Err
returns-in-Err g c = record {
  ok = tt;
  books = tt;
  err = λ faith. inl (left_as_it_was g.D.Disk c.args.disk c.beginning_of.new.disk c.beginning_of.ensures.read.left);
  refused = λ two. inr (λ clean good.
      refused_to_close c.args.wanted (g.D.Disk.seen c.args.disk) c.beginning_of.result c.in-Err.ending (c.beginning_of.ensures.found clean) c.in-Err.is two good);
}
