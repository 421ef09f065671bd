use Rattle.std.proofs.Common.{◌≡◌, ◌∷◌, ℕ, List, rules, arith, ap, ◌∙◌, Option}
use Rattle.atomic_table.specs.Table.{Me, rest}
use Rattle.inst_row.specs.declared.view.RowView.{RowView}
use Rattle.inst_row.proofs.Locks.{gives_rule, refront}
use Rattle.inst_row.proofs.row.LockRow.give.Goals as goal

in_hand : {S V : Type 0} (p : ℕ) (y : S) (v : V) (cs : List (ℕ × S)) (m : Me S V) → m ≡ (v, (p, y) ∷ cs) → m.1 ≡ (p, y) ∷ rest m.1
in_hand {S} {V} p y v cs m e = refront p y cs m.1 (ap (λ (x : Me S V). x.1) e)

pub swap-requires : goal.swap-requires
swap-requires g c =
    let e = c.exchange-old.ensures.3 in
    let has = c.requires.has in
    let view = ap (λ (m : Me (Option g.row.T.Denot) (RowView g.row.E.Denot g.row.K.Denot)). m.0) e in (
      search rules,
      search rules,
      gives_rule g.L.Lawful.law g.L.Lawful.history _ _ _ c.args.lock (omega arith) _ c.args.value has.0 _ _
          (in_hand _ _ _ _ _ e)
          (ap (λ (v : RowView g.row.E.Denot g.row.K.Denot). v.held) view ∙ has.1.lock)
          (ap (λ (v : RowView g.row.E.Denot g.row.K.Denot). v.about) view ∙ c.requires.on.about)
          c.requires.law
          has.2,
    )

pub returns-then-swap-eq-AWAITED : goal.returns-then-swap-eq-AWAITED
returns-then-swap-eq-AWAITED g c =
    let t = c.swap.ensures.2 c.args.lock c.args.value (in_hand _ _ _ _ _ c.exchange-old.ensures.3) in record {
      on = search rules;
      free = search rules;
      sees = search rules;
    }

pub returns-else-swap-eq-AWAITED : goal.returns-else-swap-eq-AWAITED
returns-else-swap-eq-AWAITED g c =
    let t = c.swap.ensures.2 c.args.lock c.args.value (in_hand _ _ _ _ _ c.exchange-old.ensures.3) in record {
      on = search rules;
      free = search rules;
      sees = search rules;
    }
