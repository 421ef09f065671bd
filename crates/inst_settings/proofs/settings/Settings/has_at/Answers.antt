use Rattle.std.proofs.Common.{◌<◌, [], Some, sym, ap, ◌∙◌, arith, length}
use Rattle.std.proofs.lemmas.Slice.Eq.{bytes_eq-Decides}
use Rattle.std.proofs.lemmas.List.{get_or_read}
use Rattle.inst_settings.specs.Codes.{index_of}
use Rattle.inst_settings.proofs.CodesKnownByHolders.{number_known}
use Rattle.inst_settings.proofs.settings.Settings.has_at.Goals as goal

pub returns-then-number-len-clause-here : goal.returns-then-number-len-clause-here
returns-then-number-len-clause-here c equal =
    let codes = c.self.inside.codes in
    let within : c.from-number.result < length codes.items = omega (arith, codes.ok.0) in
    let read = get_or_read codes.items c.from-number.result c.index.result.now within c.index.ensures [] in
    let same = sym read ∙ (bytes_eq-Decides c.index.result.now c.args.code.now).0 (sym c.eq.ensures ∙ equal) in
    ap Some (sym c.from-number.ensures) ∙ number_known codes.items c.args.code.now c.from-number.result c.self.invariant.0.different within same
    ∙ ap (λ s. index_of c.args.code.now s.codes) c.self.view_is
