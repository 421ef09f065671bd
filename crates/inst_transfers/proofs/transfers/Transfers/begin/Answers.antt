use Rattle.std.proofs.Common.{List, sym, ap, ◌∙◌, subst, rules, ℕ}
use Rattle.std.specs.Map.{keys_of}
use Rattle.std.proofs.lemmas.Fn.{filter_same}
use Rattle.inst_transfers.specs.State.{opened_in}
use Rattle.inst_transfers.specs.Held.{Held, ArePositions, ids_at, found_at, rows_in, state_in}
use Rattle.inst_transfers.specs.inner.Held.{waits_at}
use Rattle.inst_transfers.proofs.Rows.{live_on, positions_filtered}
use Rattle.inst_transfers.proofs.transfers.Transfers.begin.Goals as goal

pub invariant_of-self : goal.invariant_of-self
invariant_of-self c =
    let i = c.self.inside in
    let kept = filter_same _ (waits_at i.table.entries) _ (λ x b f call. (search rules, search rules)) _ _ c.retain.ensures.filtered in
    subst (λ (l : List ℕ). ArePositions i.who (keys_of i.table.entries) l) (sym kept) (positions_filtered i.who (keys_of i.table.entries) (waits_at i.table.entries) i.own.items c.self.invariant)

pub returns-clause-state : goal.returns-clause-state
returns-clause-state c =
    let i = c.self.inside in
    let kept = filter_same _ (waits_at i.table.entries) _ (λ x b f call. (search rules, search rules)) _ _ c.retain.ensures.filtered in
    let own = ap (ids_at (keys_of i.table.entries)) kept ∙ live_on i.who i.table.entries c.len.ensures.unique i.own.items c.self.invariant.0 c.self.invariant.1 in
    (λ j. record { found = found_at i.table.entries; rows = rows_in i.table.entries; own = own j; reserved = i.reserved; credits = i.credits; debits = i.debits })
    ∙ ap (λ (h : Held). opened_in h.who (state_in h)) c.self.view_is
