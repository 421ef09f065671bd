use Rattle.std.proofs.Common.{◌≡◌, sym, ap, ◌∙◌, [], subst, arith}
use Rattle.inst_settings.specs.Settings.{HubSettings, participants}
use Rattle.inst_settings.specs.Lawful.{IsSettings}
use Rattle.inst_model.specs.Opening.Opening.{First}
use Rattle.inst_world.proofs.FirstOpening.{new_books, new_pushed, new_world, new_has_run}
use Rattle.inst_world.proofs.world.World.open.Goals as goal

pub loop-who-preserved : goal.loop-who-preserved
loop-who-preserved c =
    let opened = c.in_ok-open.ensures.ok in
    new_pushed c.args.settings.now c.loop-who.who c.loop-who.slots.items c.push.new.self.items c.in_ok-open.field-0 c.loop-who.invariant c.in_ok-push.ensures.items (opened.0 ∙ c.in_ok-settings.ensures.ok) opened.1 opened.2 opened.3

pub invariant_of-result : goal.invariant_of-result
invariant_of-result c =
    let b = c.in_ok-board.board in
    let u = c.in_ok-board.ensures.unused in
    let end : c.loop-who.who ≡ participants c.in_ok-settings.settings = omega arith in
    let same : b.settings ≡ c.args.settings.now = u.0 ∙ c.in_ok-settings.ensures.ok in
    let all = end ∙ ap participants c.in_ok-settings.ensures.ok in
    let are = c.loop-who.invariant ∙ ap (new_books c.args.settings.now) all ∙ ap (λ (s : HubSettings). new_books s (participants s)) (sym same) in
    let books = c.loop-who.slots.items in
    (new_world b u.1 books are, u.0, subst IsSettings (sym same) c.copy.ensures.lawful, (First, [], new_has_run b u.1 books are))

pub returns : goal.returns
returns c =
    let b = c.in_ok-board.board in
    let u = c.in_ok-board.ensures.unused in
    let end : c.loop-who.who ≡ participants c.in_ok-settings.settings = omega arith in
    let same : b.settings ≡ c.args.settings.now = u.0 ∙ c.in_ok-settings.ensures.ok in
    let all = end ∙ ap participants c.in_ok-settings.ensures.ok in
    let are = c.loop-who.invariant ∙ ap (new_books c.args.settings.now) all ∙ ap (λ (s : HubSettings). new_books s (participants s)) (sym same) in
    record {
      ok = (same, new_has_run b u.1 c.loop-who.slots.items are);
    }
