use Rattle.std.proofs.Common.{sym, subst}
use Rattle.inst_participant.specs.declared.participant.Participant.{Participant}
use Rattle.inst_participant.specs.LockLaw.{IsBehind}
use Rattle.inst_hub.proofs.BoardsAndTellersOfNewHub.{begins_behind}
use Rattle.inst_hub.proofs.hub.opening.participant.Goals as goal

pub returns-clause-ok : goal.returns-clause-ok
returns-clause-ok c = subst (λ (x : Participant). IsBehind c.args.board c.args.who x) (sym c.in_ok-new.ensures.ok)
    (begins_behind c.args.settings.now c.requires.0 c.args.who c.args.board c.in_ok-slot.slot c.requires.1 c.in_ok-slot.ensures.ok)
