use Rattle.std.proofs.Common.{◌≡◌, subst, ◌∙◌, sym, refl, ap, arith, List}
use Rattle.inst_command.specs.declared.place.Place.{Place}
use Rattle.inst_command.specs.declared.outcome.Outcome.TheVariants.{Accepted, TimedOut}
use Rattle.inst_command.specs.declared.outcome.State.{State}
use Rattle.inst_settings.specs.Settings.{HubSettings}
use Rattle.inst_order.specs.Order.{ExplainsBooks}
use Rattle.inst_participant.specs.Together.{histories}
use Rattle.inst_drill.specs.Report.{ended}
use Rattle.inst_drill.specs.inner.Chain.{opening_of}
use Rattle.inst_drill.specs.inner.Report.{NoneContradicts}
use Rattle.inst_drill.proofs.SeenStatesAreInBooks.{none_contradicts, same_number}
use Rattle.inst_drill.proofs.opening.run_opening.Goals as goal

pub returns-clause-drilled : goal.returns-clause-drilled
returns-clause-drilled g c =
    let told = c.in-Ok.ensures.books.told in
    let first = c.contradicted.ensures (subst (λ (l : List (Place × State)). NoneContradicts (histories c.in-Ok.books.books) l) (sym c.deref.ensures.value) (none_contradicts _ _ _ told c.in_ok-tellers.ensures.submitted)) in
    let then = c.contradicted-2.ensures (subst (λ (l : List (Place × State)). NoneContradicts (histories c.in-Ok.books.books) l) (sym c.deref-2.ensures.value) (none_contradicts _ _ _ told c.in_ok-tellers.ensures.confirmed)) in
    let opening = opening_of c.args.before.now in
    let same : c.in-Ok.books.settings ≡ c.args.settings.now = c.in-Ok.ensures.books.settings ∙ c.in_ok-hub.ensures.settings in
    record {
      settings = same;
      opened = c.in-Ok.ensures.books.opened opening c.in_ok-hub.ensures.opened;
      explained =
          subst (λ (s : HubSettings). ExplainsBooks s opening c.in-Some.steps.items (histories c.in-Ok.books.books)) same
          (rw c.in-Some.is at c.in_ok-steps.ensures);
      report = record {
        disagree = (let added = c.saturating_add.ensures in omega (arith, added, first, then));
        sum = c.sum.ensures.sum;
        net = c.net.ensures;
        balanced = same_number _ _ (c.sum.ensures.net ∙ sym c.net.ensures);
        accepted = c.ends-accepted.ensures.accepted ∙ ap (ended Accepted) (c.events.ensures ∙ c.journal.ensures.events);
        timed_out = c.ends-accepted.ensures.timed_out ∙ ap (ended TimedOut) (c.events.ensures ∙ c.journal.ensures.events);
        decided = refl;
      };
    }
