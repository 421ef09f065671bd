use Rattle.std.proofs.Common.{◌∙◌, Some, option_map, sym, ap}
use Rattle.std.proofs.lemmas.Option.{slice_get-map}
use Rattle.std.specs.Prelude.{slice_get}
use Rattle.inst_transfers.specs.Held.{Held, row_in, rows_in}
use Rattle.inst_transfers.proofs.transfers.Transfers.entry_at.Goals as goal

pub returns-in_err-key : goal.returns-in_err-key
returns-in_err-key c =
    let i = c.self.inside in
    c.from_residual.ensures ∙ sym (slice_get-map row_in i.table.entries c.args.position ∙ ap (option_map row_in) (sym c.in_err-key.ensures.entry))
    ∙ ap (λ (h : Held). slice_get (rows_in h.entries) c.args.position) c.self.view_is

pub returns : goal.returns
returns c =
    let i = c.self.inside in
    ap Some c.entry.ensures
    ∙ sym (slice_get-map row_in i.table.entries c.args.position ∙ ap (option_map row_in) (sym c.in_ok-key.ensures.entry))
    ∙ ap (λ (h : Held). slice_get (rows_in h.entries) c.args.position) c.self.view_is
