use Rattle.std.proofs.Common.{◌≡◌, ℕ, List, Some, refl, sym, ap, subst, ◌∙◌}
use Rattle.std.proofs.lemmas.Option.{slice_get_read}
use Rattle.std.specs.Prelude.{slice_get}
use Rattle.std.specs.Map.{keys_of}
use Rattle.inst_transfers.specs.Held.{Held, ArePositions}
use Rattle.inst_transfers.proofs.Rows.{own_found}
use Rattle.inst_transfers.proofs.transfers.Transfers.own_at.Goals as goal

pub returns : goal.returns
returns c =
    let i = c.self.inside in
    let h = c.in_ok-position.ensures.lookup in
    let p = c.in_ok-position.field-0.now in
    let there : slice_get i.own.items c.args.index ≡ Some p =
    ap (λ (l : List ℕ). slice_get l c.args.index) (sym c.deref.ensures.value) ∙ ap (slice_get c.deref.result.now) (sym c.from.ensures) ∙ slice_get_read c.deref.result.now _ _ p refl h.3.0 h.1 in
    own_found c.args.self.now c.args.index p c.at.result (subst (λ (h : Held). ArePositions h.who (keys_of h.entries) h.positions) c.self.view_is c.self.invariant)
    (ap (λ (h : Held). slice_get h.positions c.args.index) (sym c.self.view_is) ∙ there) c.at.ensures
