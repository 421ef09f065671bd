use Rattle.std.proofs.Common.{◌≡◌, ℕ, ◌<◌, List, length, Some, IfSome, sym, ap, ◌∙◌, subst}
use Rattle.std.specs.Prelude.{slice_get}
use Rattle.std.specs.Map.{keys_of}
use Rattle.inst_transfers.specs.Held.{Held, ids_at}
use Rattle.inst_transfers.specs.inner.Held.{FindsIndex}
use Rattle.inst_transfers.proofs.Rows.{stands_at, id_there, key_at, index_is, index_there, index_within}
use Rattle.inst_transfers.proofs.transfers.Transfers.own_index.Goals as goal

pub returns-clause-at : goal.returns-clause-at
returns-clause-at c = λ k there.
    let i = c.self.inside in
    let f = c.args.found.now in
    let place : slice_get (keys_of i.table.entries) f.position ≡ Some (i.who, f.id) = key_at i.table.entries f.position (i.who, f.id) f.transfer (ap (λ (h : Held). slice_get h.entries f.position) c.self.view_is ∙ c.requires.there.row ∙ ap (λ (w : ℕ). Some ((w, f.id), f.transfer)) (c.requires.own ∙ ap (λ (h : Held). h.who) (sym c.self.view_is))) in
    let listed = ap (λ (h : Held). slice_get (ids_at (keys_of h.entries) h.positions) k) c.self.view_is ∙ there in
    let stands = stands_at i.who i.table.entries i.own.items f.id f.position k c.self.invariant c.len.ensures.unique place listed in
    let finds = subst (λ (ps : List ℕ). FindsIndex ps f.position c.index_of.result) c.as_slice.ensures.value c.index_of.ensures in
    index_is i.own.items f.position c.index_of.result c.self.invariant.2 finds k stands

pub returns-clause-only : goal.returns-clause-only
returns-clause-only c = λ k same.
    let i = c.self.inside in
    let f = c.args.found.now in
    let place : slice_get (keys_of i.table.entries) f.position ≡ Some (i.who, f.id) = key_at i.table.entries f.position (i.who, f.id) f.transfer (ap (λ (h : Held). slice_get h.entries f.position) c.self.view_is ∙ c.requires.there.row ∙ ap (λ (w : ℕ). Some ((w, f.id), f.transfer)) (c.requires.own ∙ ap (λ (h : Held). h.who) (sym c.self.view_is))) in
    let finds = subst (λ (ps : List ℕ). FindsIndex ps f.position c.index_of.result) c.as_slice.ensures.value c.index_of.ensures in
    ap (λ (h : Held). slice_get (ids_at (keys_of h.entries) h.positions) k) (sym c.self.view_is)
    ∙ id_there (keys_of i.table.entries) i.own.items k f.position (i.who, f.id) (index_there i.own.items f.position c.index_of.result finds k same) place

pub returns-clause-within : goal.returns-clause-within
returns-clause-within c =
    let i = c.self.inside in
    let finds = subst (λ (ps : List ℕ). FindsIndex ps c.args.found.now.position c.index_of.result) c.as_slice.ensures.value c.index_of.ensures in
    subst (λ (h : Held). IfSome c.index_of.result (λ k. k < length h.positions)) c.self.view_is
    (index_within i.own.items c.args.found.now.position c.index_of.result finds)
