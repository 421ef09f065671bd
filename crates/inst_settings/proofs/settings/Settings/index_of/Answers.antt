use Rattle.std.proofs.Common.{sym, ap, ◌∙◌}
use Rattle.inst_settings.specs.Codes.{index_of}
use Rattle.inst_settings.proofs.CodesKnownByHolders.{nobody_known, only_known}
use Rattle.inst_settings.proofs.settings.Settings.index_of.Goals as goal

pub returns-in-Nobody : goal.returns-in-Nobody
returns-in-Nobody c =
    let codes = c.self.inside.codes in
    nobody_known codes.items c.self.inside.finder.table c.args.code.now c.self.invariant.1 (sym c.holders.ensures ∙ c.in-Nobody.is)
    ∙ ap (λ s. index_of c.args.code.now s.codes) c.self.view_is

pub returns-in-Only : goal.returns-in-Only
returns-in-Only c =
    let codes = c.self.inside.codes in
    let same = ap (λ s. s.codes) c.self.view_is in
    c.then_some.ensures
    ∙ only_known c.args.self.now.codes codes.items c.self.inside.finder.table c.args.code.now c.in-Only.number c.has_at.result same c.self.invariant.1 (sym c.holders.ensures ∙ c.in-Only.is) c.has_at.ensures.here c.has_at.ensures.elsewhere
