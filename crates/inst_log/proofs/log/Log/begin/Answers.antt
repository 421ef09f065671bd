use Rattle.std.proofs.Common.{inr, subst, IsTrue}
use Rattle.inst_log.proofs.FilesOpenWithSettings.{blank_crash, begin_crash, blank_closed}
use Rattle.inst_log.proofs.ClosedByteSurvivesCrash.{blanking_well, blanked_shut, none_or_begun}
use Rattle.inst_log.proofs.log.Log.begin.Goals as goal

pub returns-in_err-blank-clause-any_moment : goal.returns-in_err-blank-clause-any_moment
returns-in_err-blank-clause-any_moment g c clean left may =
    let new = (c.requires.new (subst IsTrue c.blank.ensures.clean clean)).0 in
    blank_crash _ c.requires.settings _ left new (c.blank.ensures.any_moment clean left may)

pub append-requires-clause-open : goal.append-requires-clause-open
append-requires-clause-open g c =
    record {
      usable = c.in_ok-blank.ensures.ready.usable;
      settled = λ clean. record {
        closed = (blank_closed _ (c.in_ok-blank.ensures.written clean).0).0;
        durable = c.in_ok-blank.ensures.ready.known clean;
      };
    }

pub returns-clause-any_moment : goal.returns-clause-any_moment
returns-clause-any_moment g c clean left may =
    let mid = subst IsTrue c.append.ensures.any_moment.clean clean in
    let new = (c.requires.new (subst IsTrue c.blank.ensures.clean mid)).0 in
    begin_crash _ c.requires.settings _ _ left new (c.in_ok-blank.ensures.written mid) (c.append.ensures.stages clean left may)

-- no line stands there, or the closed byte 0 behind them
pub returns-in_err-blank-clause-shut : goal.returns-in_err-blank-clause-shut
returns-in_err-blank-clause-shut g c mixes clean left may =
    let new = (c.requires.new (subst IsTrue c.blank.ensures.clean clean)).0 in
    blanking_well _ c.requires.settings _ left new (c.blank.ensures.any_moment clean left may)

pub returns-clause-shut : goal.returns-clause-shut
returns-clause-shut g c mixes clean left may =
    let mid = subst IsTrue c.append.ensures.any_moment.clean clean in
    inr (c.append.ensures.any_moment.shut mixes clean (blanked_shut _ (c.in_ok-blank.ensures.written mid).0) left may)

pub returns-in_err-blank-clause-stands : goal.returns-in_err-blank-clause-stands
returns-in_err-blank-clause-stands g c clean left may =
    let new = (c.requires.new (subst IsTrue c.blank.ensures.clean clean)).0 in
    let fresh = blank_crash _ c.requires.settings _ left new (c.blank.ensures.any_moment clean left may) in
    none_or_begun c.args.settings.now c.requires.settings left fresh.0 fresh.1

pub returns-clause-stands : goal.returns-clause-stands
returns-clause-stands g c clean left may =
    let mid = subst IsTrue c.append.ensures.any_moment.clean clean in
    let new = (c.requires.new (subst IsTrue c.blank.ensures.clean mid)).0 in
    let fresh = begin_crash _ c.requires.settings _ _ left new (c.in_ok-blank.ensures.written mid) (c.append.ensures.stages clean left may) in
    none_or_begun c.args.settings.now c.requires.settings left fresh.0 fresh.1
