use Rattle.std.proofs.Common.{ℕ, ◌+◌, ◌-◌, List, Some, sym, ap, ◌∙◌, subst, refl}
use Rattle.std.specs.Prelude.{slice_get}
use Rattle.std.proofs.lemmas.Option.{slice_get_within}
use Rattle.std.specs.Map.{keys_of}
use Rattle.indexmap.specs.IndexMap.{with_value_at}
use Rattle.indexmap.proofs.CallerLemmas.{keys-with_value_at}
use Rattle.inst_journal.specs.Sums.{if_accepted}
use Rattle.inst_transfers.specs.declared.transfer.Side.TheVariants.{Own, Other}
use Rattle.inst_transfers.specs.declared.transfer.Transfer.{Transfer}
use Rattle.inst_transfers.specs.State.{Key, booked_in, table_after_outcome, with_outcome}
use Rattle.inst_transfers.specs.Held.{ids_at, state_in, ArePositions, Held}
use Rattle.inst_transfers.proofs.Rows.{found_put, changed, rows_kept}
use Rattle.inst_transfers.proofs.transfers.Transfers.book.Goals as goal

pub pair_mut-transfer-requires : goal.pair_mut-transfer-requires
pair_mut-transfer-requires c =
    let f = c.args.found.now in
    slice_get_within c.self.inside.table.entries f.position _ (ap (λ (h : Held). slice_get h.entries f.position) c.self.view_is ∙ c.requires.there.row)

pub invariant_of-self : goal.invariant_of-self
invariant_of-self c =
    let i = c.self.inside in
    let row : Transfer = with_outcome c.args.found.now.transfer c.args.outcome.now in
    subst (λ (l : List Key). ArePositions i.who l i.own.items) (sym (keys-with_value_at i.table c.args.found.now.position row)) c.self.invariant

pub invariant_of-self-in-Other : goal.invariant_of-self-in-Other
invariant_of-self-in-Other c =
    let i = c.self.inside in
    let row : Transfer = with_outcome c.args.found.now.transfer c.args.outcome.now in
    subst (λ (l : List Key). ArePositions i.who l i.own.items) (sym (keys-with_value_at i.table c.args.found.now.position row)) c.self.invariant

pub returns-in-Own-clause-state : goal.returns-in-Own-clause-state
returns-in-Own-clause-state c =
    let i = c.self.inside in
    let f = c.args.found.now in
    let t = f.transfer in
    let o = c.args.outcome.now in
    let key : Key = (f.from, f.id) in
    let row : Transfer = with_outcome t o in
    let there = ap (λ (h : Held). slice_get h.entries f.position) c.self.view_is ∙ c.requires.there.row in
    let updates = changed i.table key f.position t row c.pair_mut-transfer.ensures.unique there in
    let found = found_put i.table.entries (with_value_at i.table f.position row).entries key row updates in
    let rows = rows_kept i.table.entries f.position key t row there refl in
    let own = ap (λ (l : List Key). ids_at l i.own.items) (keys-with_value_at i.table f.position row) in
    let amount = c.from-cents.ensures ∙ c.get.ensures.value in
    let debits = ap (λ (n : ℕ). i.debits + n) (c.if_accepted.ensures.value ∙ ap (if_accepted (Some o)) amount) in
    let reserved = ap (λ (n : ℕ). i.reserved - n) amount in
    (λ j. record { found = found j; rows = rows j; own = own j; reserved = reserved j; credits = i.credits; debits = debits j })
    ∙ ap (λ (h : Held). table_after_outcome (state_in h) key t o (Own c.in-Own.to c.in-Own.stamp)) c.self.view_is
    ∙ ap (table_after_outcome (state_in c.args.self.now) key t o) (sym c.in-Own.is)
    ∙ ap (booked_in (state_in c.args.self.now) key o) (sym c.requires.there.transfer)

pub returns-in-Other-clause-state : goal.returns-in-Other-clause-state
returns-in-Other-clause-state c =
    let i = c.self.inside in
    let f = c.args.found.now in
    let t = f.transfer in
    let o = c.args.outcome.now in
    let key : Key = (f.from, f.id) in
    let row : Transfer = with_outcome t o in
    let there = ap (λ (h : Held). slice_get h.entries f.position) c.self.view_is ∙ c.requires.there.row in
    let updates = changed i.table key f.position t row c.pair_mut-transfer.ensures.unique there in
    let found = found_put i.table.entries (with_value_at i.table f.position row).entries key row updates in
    let rows = rows_kept i.table.entries f.position key t row there refl in
    let own = ap (λ (l : List Key). ids_at l i.own.items) (keys-with_value_at i.table f.position row) in
    let amount = c.from-cents.ensures ∙ c.get.ensures.value in
    let credits = ap (λ (n : ℕ). i.credits + n) (c.if_accepted-in-Other.ensures.value ∙ ap (if_accepted (Some o)) amount) in
    (λ j. record { found = found j; rows = rows j; own = own j; reserved = i.reserved; credits = credits j; debits = i.debits })
    ∙ ap (λ (h : Held). table_after_outcome (state_in h) key t o (Other c.in-Other.deadline)) c.self.view_is
    ∙ ap (table_after_outcome (state_in c.args.self.now) key t o) (sym c.in-Other.is)
    ∙ ap (booked_in (state_in c.args.self.now) key o) (sym c.requires.there.transfer)

pub returns-in-Own-clause-keys : goal.returns-in-Own-clause-keys
returns-in-Own-clause-keys c =
    let row : Transfer = with_outcome c.args.found.now.transfer c.args.outcome.now in
    keys-with_value_at c.self.inside.table c.args.found.now.position row ∙ ap (λ (h : Held). keys_of h.entries) c.self.view_is

pub returns-in-Other-clause-keys : goal.returns-in-Other-clause-keys
returns-in-Other-clause-keys c =
    let row : Transfer = with_outcome c.args.found.now.transfer c.args.outcome.now in
    keys-with_value_at c.self.inside.table c.args.found.now.position row ∙ ap (λ (h : Held). keys_of h.entries) c.self.view_is
