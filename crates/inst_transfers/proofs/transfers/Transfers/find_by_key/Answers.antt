use Rattle.std.proofs.Common.{◌≡◌, Some, refl, sym, ap, subst, ◌∙◌}
use Rattle.std.proofs.lemmas.Map.Made.{lookup_key_passes}
use Rattle.inst_transfers.specs.State.{Key, same_key}
use Rattle.inst_transfers.specs.Held.{Held, IsFound}
use Rattle.inst_transfers.proofs.Rows.{key_is}
use Rattle.inst_transfers.proofs.transfers.Transfers.find_by_key.Goals as goal

pub returns : goal.returns
returns c =
    let i = c.self.inside in
    let asked : Key = (c.args.from, c.args.id.now) in
    let key : Key = c.in_ok-position.field-0-1.now in
    let same : asked ≡ key = key_is asked key (lookup_key_passes (same_key asked) i.table.entries key (sym c.in_ok-position.ensures.key)) in
    subst (λ (h : Held). (c.args.from ≡ c.args.from) × (c.args.id.now ≡ c.args.id.now) × IsFound h (record { from = c.args.from; id = c.args.id.now; position = c.in_ok-position.position; transfer = c.in_ok-position.transfer.now })) c.self.view_is (
      refl,
      refl,
      record {
        row = c.in_ok-position.ensures.entry ∙ ap (λ (k : Key). Some (k, c.in_ok-position.transfer.now)) (sym same);
        transfer = sym c.in_ok-position.ensures.value;
      },
    )
