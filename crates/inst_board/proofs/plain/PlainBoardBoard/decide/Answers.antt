use Rattle.std.proofs.Common.{◌≡◌, ℕ, Some, ap, subst, sym, ◌∙◌, arith, rules}
use Rattle.std.proofs.lemmas.Grind.{common_steps}
use Rattle.inst_board.specs.Plain.{Contents, kept_at}
use Rattle.inst_board.specs.Wish.{wanted}
use Rattle.inst_board.proofs.PlainSteps.{kept_pending, decided_lawful, decides_now}
use Rattle.inst_board.proofs.plain.PlainBoardBoard.decide.Goals as goal

pub keep-requires-clause-lawful : goal.keep-requires-clause-lawful
keep-requires-clause-lawful c =
    let b = c.args.self.now in
    let margin = b.settings.margin in
    let v = kept_at b c.args.place in
    let t = c.in-Pending.terms in
    let deadline = c.in-Pending.deadline in
    let outcome = c.in_ok-outcome-in-Pending.outcome in
    let same : c.self.inside.margin ≡ margin = c.self.invariant.3 ∙ ap (λ (x : Contents). x.settings.margin) c.self.view_is in
    let kept = kept_pending margin v c.shown.result t deadline c.shown.ensures.look c.in-Pending.is in
    decided_lawful margin v c.ended.result c.args.wish c.args.at t deadline outcome c.shown.ensures.lawful kept c.ended.ensures
    (subst (λ (n : ℕ). wanted n c.args.wish deadline c.args.at ≡ Some outcome) same (sym c.outcome.ensures ∙ c.in_ok-outcome-in-Pending.was))

pub returns-in_ok-outcome-in-Pending-clause-decides :
    goal.returns-in_ok-outcome-in-Pending-clause-decides
returns-in_ok-outcome-in-Pending-clause-decides c =
    let b = c.args.self.now in
    let margin = b.settings.margin in
    let t = c.in-Pending.terms in
    let deadline = c.in-Pending.deadline in
    let outcome = c.in_ok-outcome-in-Pending.outcome in
    let same : c.self.inside.margin ≡ margin = c.self.invariant.3 ∙ ap (λ (x : Contents). x.settings.margin) c.self.view_is in
    let kept = kept_pending margin (kept_at b c.args.place) c.shown.result t deadline c.shown.ensures.look c.in-Pending.is in
    decides_now margin b c.args.place c.args.wish c.args.at t deadline outcome c.ended.result c.keep.new.self
    c.shown.ensures.lawful kept c.ended.ensures c.keep.ensures
    (subst (λ (n : ℕ). wanted n c.args.wish deadline c.args.at ≡ Some outcome) same (sym c.outcome.ensures ∙ c.in_ok-outcome-in-Pending.was))

pub returns-in_ok-outcome-in-Pending-clause-here : goal.returns-in_ok-outcome-in-Pending-clause-here
returns-in_ok-outcome-in-Pending-clause-here c = grind (arith, common_steps)

pub returns-in-Decided-clause-answer : goal.returns-in-Decided-clause-answer
returns-in-Decided-clause-answer c = search rules

pub returns-in-Decided-clause-decides : goal.returns-in-Decided-clause-decides
returns-in-Decided-clause-decides c = search rules
