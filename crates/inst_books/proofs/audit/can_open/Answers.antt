use Rattle.std.proofs.Common.{◌≡◌, length, subst, arith, IfSome}
use Rattle.inst_settings.specs.Settings.{participants}
use Rattle.inst_books.specs.inner.Replaying.{AreAllKept}
use Rattle.inst_books.proofs.ReplayedJournals.{agreement_tells}
use Rattle.inst_books.proofs.audit.can_open.Goals as goal

pub returns-in-Some : goal.returns-in-Some
returns-in-Some c =
    let one_each : length c.args.journals.now ≡ participants c.args.settings.now = omega arith in
    let all : AreAllKept c.args.settings.now c.args.journals.now c.in-Some.ledgers.items =
    subst (λ o. IfSome o (λ ledgers. AreAllKept c.args.settings.now c.args.journals.now ledgers.items)) c.in-Some.is c.in_ok-ledgers.ensures.kept in
    record {
      can = agreement_tells c.args.settings.now c.args.journals.now c.in-Some.ledgers.items c.deref.result.now c.limit.result c.books_agree.result one_each all
          c.limit.ensures.value c.deref.ensures.value c.books_agree.ensures;
    }
