use Rattle.std.proofs.Common.{◌≡◌, ◌∙◌, ℕ, Some, sym, ap, subst}
use Rattle.inst_settings.specs.Settings.{HubSettings}
use Rattle.inst_books.specs.Positions.{IsBaseAfter}
use Rattle.inst_options.specs.Changes.{changed}
use Rattle.inst_program.proofs.BaseOfNewChain.{given_base, later_after}
use Rattle.inst_program.proofs.renewing.renewed_settings.Goals as goal

pub returns-in-Ok : goal.returns-in-Ok
returns-in-Ok c =
    let next = c.in-Ok.next in
    let s = c.args.settings.now in
    let changes = c.args.changes.now in
    let base : next.base ≡ c.unwrap_or-base.result = ap (λ (t : HubSettings). t.base) c.in-Ok.ensures.settings in
    let after : IsBaseAfter s.base c.args.journals.now c.unwrap_or-base.result =
    later_after s.base c.base_after-least.result c.unwrap_or-base.result c.args.journals.now c.if-base-least.false
    (subst (λ (n : ℕ). IsBaseAfter n c.args.journals.now c.base_after-least.result) c.base.ensures.value c.base_after-least.ensures.after) in
    record {
      settings = subst (λ (n : ℕ). next ≡ changed (record changes { base = Some n }) s) (sym base) c.in-Ok.ensures.settings;
      given = given_base changes.base c.base_after-least.result next.base (base ∙ c.unwrap_or-base.ensures);
      after = subst (λ (n : ℕ). IsBaseAfter s.base c.args.journals.now n) (sym base) after;
      lawful = c.in-Ok.ensures.lawful;
    }
