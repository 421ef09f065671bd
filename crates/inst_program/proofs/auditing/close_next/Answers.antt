use Rattle.std.proofs.Common.{◌∙◌, ℕ, List, None, refl, sym, subst}
use Rattle.std.proofs.lemmas.Result.{IfOk-weaker}
use Rattle.inst_logged.specs.Refused.{IsLogTaken}
use Rattle.inst_logged.specs.declared.version.Version.TheVariants.{Two}
use Rattle.inst_program.specs.Auditing.{IsClosedAs}
use Rattle.inst_program.specs.Keeping.{IsPreviousOf, lines_of_next}
use Rattle.inst_program.specs.inner.Auditing.{IsAudited}
use Rattle.inst_program.specs.inner.Changing.{hub_closed, hub_opening}
use Rattle.inst_program.proofs.AuditedLogs.{said_new, said_nothing}
use Rattle.inst_program.proofs.TwoLogs.{successor_can}
use Rattle.inst_program.proofs.auditing.close_next.Goals as goal
use Rattle.inst_program.proofs.auditing.close_next.Goals.{then-positions, else-positions}

pub close_as-requires-clause-opened : goal.close_as-requires-clause-opened
close_as-requires-clause-opened g c = record {
  usable = c.beginning_of.ensures.read.usable;
  known = λ clean file may. c.requires.opened.known refl file (c.beginning_of.ensures.read.left.crash file may) ∙ sym c.beginning_of.ensures.read.left.same;
}

pub close_as-requires-clause-can : goal.close_as-requires-clause-can
close_as-requires-clause-can g c =
    successor_can c.is_some-positions.result c.all_changes-changes.result (hub_closed c.args.before.closed) (hub_opening c.in-Ok.next) c.in-Ok.ensures.follows

pub returns-in-Ok-clause-closed : goal.returns-in-Ok-clause-closed
returns-in-Ok-clause-closed g c =
    IfOk-weaker c.close_as.result _ _ (λ closed is. subst (λ (f : List ℕ). IsClosedAs f (hub_closed closed)) c.beginning_of.ensures.read.left.same is) c.close_as.ensures.closed

pub returns-in-Ok-clause-follows : goal.returns-in-Ok-clause-follows
returns-in-Ok-clause-follows g c =
    let positions = c.is_some-positions.result in
    let previous = c.if-positions.previous in
    let said : (file : List ℕ) → IsAudited file c.args.before → IsPreviousOf positions file previous = λ file is.
    elim c.if-positions.branch [
      | then-positions w ↦ said_new positions file c.args.before previous w.if-positions.true w.previous-is is
      | else-positions w ↦ said_nothing positions file previous w.if-positions.false w.previous-is
    ] in
    IfOk-weaker c.close_as.result _ _ (λ closed taken file is. record {
      closed = hub_closed c.args.before.closed;
      closes = is.closes;
      positions = positions;
      changes = c.all_changes-changes.result;
      next = hub_opening c.in-Ok.next;
      follows = c.in-Ok.ensures.follows;
      previous = previous;
      before = said file is;
      taken = subst (IsLogTaken Two (lines_of_next (hub_opening c.in-Ok.next) previous) None None) c.beginning_of.ensures.read.left.same taken;
    }) c.close_as.ensures.taken
