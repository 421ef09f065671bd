use Rattle.std.proofs.Common.{ℕ, Err, sym, ◌∙◌, rules}
use Rattle.std.proofs.lemmas.Bool.{true≢false}
use Rattle.inst_due.specs.inner.Due.{IsRankOf}
use Rattle.inst_due.proofs.Pairs.{rises_on, adds, adds_none, not_there, there_at}
use Rattle.inst_due.proofs.due.Due.add.Goals as goal

pub returns-in_err-put-clause-absent : goal.returns-in_err-put-clause-absent
returns-in_err-put-clause-absent c =
    let absent = not_there c.args.self.now (c.args.deadline, c.args.index) c.in-Err.place c.in-Err.ensures in search rules

pub returns-in_ok-put-clause-ok : goal.returns-in_ok-put-clause-ok
returns-in_ok-put-clause-ok c =
    rw (c.in_ok-put.ensures.ok, c.self.view_is) (adds c.args.self.now c.in-Err.place c.args.deadline c.args.index)

pub returns-in_ok-put-clause-present : goal.returns-in_ok-put-clause-present
returns-in_ok-put-clause-present c = λ there.
    absurd (true≢false (sym there ∙ not_there c.args.self.now (c.args.deadline, c.args.index) c.in-Err.place c.in-Err.ensures))

pub returns-in_default-clause-ok : goal.returns-in_default-clause-ok
returns-in_default-clause-ok c =
    adds_none c.args.self.now c.args.deadline c.args.index (there_at c.args.self.now c.in_default.field-0 (c.args.deadline, c.args.index) c.in_default.ensures)

pub invariant_of-self : goal.invariant_of-self
invariant_of-self c =
    let pair : ℕ × ℕ = (c.args.deadline, c.args.index) in
    let row = c.self.inside.pairs.items in
    let place : IsRankOf row pair (Err c.in-Err.place) = rw c.self.view_is c.in-Err.ensures in
    rw c.in_ok-put.ensures.ok (rises_on row c.in-Err.place pair c.self.invariant place)
