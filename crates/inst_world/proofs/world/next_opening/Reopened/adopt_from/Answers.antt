use Rattle.std.proofs.Common.{◌≡◌, sym, ap, ◌∙◌, arith}
use Rattle.inst_settings.specs.Settings.{HubSettings}
use Rattle.inst_world.proofs.CarriedTransfersFindPlaces.{finds_none, finds_on, owner_done}
use Rattle.inst_world.proofs.world.next_opening.Reopened.adopt_from.Goals as goal

pub loop-index-init : goal.loop-index-init
loop-index-init c = record { found = c.requires.found; finds = finds_none c.args.self.now }

pub loop-index-preserved : goal.loop-index-preserved
loop-index-preserved c = record {
  found = c.adopt_at.ensures.found;
  finds = finds_on c.args.self.now c.loop-index.self c.adopt_at.new.self c.loop-index.invariant.finds c.adopt_at.ensures.finds;
}

pub returns : goal.returns
returns c =
    let was = c.loop-index.invariant in
    let end : c.loop-index.index ≡ c.args.places = omega arith in
    let all : c.loop-index.index ≡ c.loop-index.self.board.settings.places = end ∙ c.requires.places ∙ ap (λ (s : HubSettings). s.places) (sym was.finds.settings_are) in
    record {
      found = owner_done c.loop-index.self c.args.owner c.loop-index.index all was.found;
      finds = was.finds;
    }
