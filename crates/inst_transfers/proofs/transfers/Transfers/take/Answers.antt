use Rattle.std.proofs.Common.{ℕ, ◌+◌, None, ap, ◌∙◌}
use Rattle.indexmap.proofs.CallerLemmas.{insert_entry-new}
use Rattle.inst_transfers.specs.declared.transfer.Side.TheVariants.{Own}
use Rattle.inst_transfers.specs.declared.transfer.Transfer.{Transfer}
use Rattle.inst_transfers.specs.State.{Key, same_key, taken_in}
use Rattle.inst_transfers.specs.Held.{found_at, state_in, Held}
use Rattle.inst_transfers.proofs.Rows.{on_ok, found_put, own_more, rows_more, positions_added}
use Rattle.inst_transfers.proofs.transfers.Transfers.take.Goals as goal

pub invariant_of-self : goal.invariant_of-self
invariant_of-self c =
    let i = c.self.inside in
    let key : Key = (i.who, c.args.id) in
    let none = ap (λ (h : Held). found_at h.entries (h.who, c.args.id)) c.self.view_is ∙ c.requires.new in
    positions_added i.who c.args.id i.table.entries c.insert.new.self.entries _ i.own.items c.push_reserved.new.self.items c.len-position.result c.self.invariant
    (on_ok _ _ c.unwrap.ensures c.insert.ensures.entries ∙ insert_entry-new same_key i.table key _ none) c.len-position.ensures.len c.push_reserved.ensures.items

pub returns-clause-state : goal.returns-clause-state
returns-clause-state c =
    let i = c.self.inside in
    let key : Key = (i.who, c.args.id) in
    let row : Transfer = record { cents = c.args.cents; side = Own c.args.to c.args.stamp; outcome = None } in
    let none = ap (λ (h : Held). found_at h.entries (h.who, c.args.id)) c.self.view_is ∙ c.requires.new in
    let more = on_ok _ _ c.unwrap.ensures c.insert.ensures.entries ∙ insert_entry-new same_key i.table key row none in
    let found = found_put i.table.entries c.insert.new.self.entries key row (on_ok _ _ c.unwrap.ensures c.insert.ensures.updates).0 in
    let rows = rows_more i.table.entries c.insert.new.self.entries key row more in
    let own = own_more i.table.entries c.insert.new.self.entries key row i.own.items c.push_reserved.new.self.items c.len-position.result c.self.invariant.0 more c.len-position.ensures.len c.push_reserved.ensures.items in
    let reserved = ap (λ (n : ℕ). i.reserved + n) (c.from.ensures ∙ c.get.ensures.value) in
    (λ j. record { found = found j; rows = rows j; own = own j; reserved = reserved j; credits = i.credits; debits = i.debits })
    ∙ ap (λ (h : Held). taken_in h.who (state_in h) c.args.id c.args.to c.args.cents c.args.stamp) c.self.view_is
