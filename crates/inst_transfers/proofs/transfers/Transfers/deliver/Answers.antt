use Rattle.std.proofs.Common.{None, ap, ◌∙◌}
use Rattle.indexmap.proofs.CallerLemmas.{insert_entry-new}
use Rattle.inst_transfers.specs.declared.transfer.Side.TheVariants.{Other}
use Rattle.inst_transfers.specs.declared.transfer.Transfer.{Transfer}
use Rattle.inst_transfers.specs.State.{Key, same_key, forwarded_in}
use Rattle.inst_transfers.specs.Held.{found_at, state_in, Held}
use Rattle.inst_transfers.proofs.Rows.{on_ok, found_put, own_before, rows_more, positions_before}
use Rattle.inst_transfers.proofs.transfers.Transfers.deliver.Goals as goal

pub invariant_of-self : goal.invariant_of-self
invariant_of-self c =
    let i = c.self.inside in
    let key : Key = (c.args.from, c.args.id) in
    let row : Transfer = record { cents = c.args.cents; side = Other c.args.deadline; outcome = None } in
    let none = ap (λ (h : Held). found_at h.entries key) c.self.view_is ∙ c.requires.new in
    positions_before i.who i.table.entries c.insert.new.self.entries key row i.own.items c.self.invariant (on_ok _ _ c.unwrap.ensures c.insert.ensures.entries ∙ insert_entry-new same_key i.table key row none)

pub returns-clause-state : goal.returns-clause-state
returns-clause-state c =
    let i = c.self.inside in
    let key : Key = (c.args.from, c.args.id) in
    let row : Transfer = record { cents = c.args.cents; side = Other c.args.deadline; outcome = None } in
    let none = ap (λ (h : Held). found_at h.entries key) c.self.view_is ∙ c.requires.new in
    let more = on_ok _ _ c.unwrap.ensures c.insert.ensures.entries ∙ insert_entry-new same_key i.table key row none in
    let found = found_put i.table.entries c.insert.new.self.entries key row (on_ok _ _ c.unwrap.ensures c.insert.ensures.updates).0 in
    let rows = rows_more i.table.entries c.insert.new.self.entries key row more in
    let own = own_before i.table.entries c.insert.new.self.entries key row i.own.items c.self.invariant.0 more in
    (λ j. record { found = found j; rows = rows j; own = own j; reserved = i.reserved; credits = i.credits; debits = i.debits })
    ∙ ap (λ (h : Held). forwarded_in (state_in h) c.args.from c.args.id c.args.cents c.args.deadline) c.self.view_is
