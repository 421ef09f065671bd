use Rattle.std.proofs.Common.{◌≡◌, subst, sym, ap, ◌∙◌, arith}
use Rattle.inst_settings.specs.Settings.{HubSettings, participants}
use Rattle.inst_world.specs.inner.NextOpening.{HaveFoundBefore}
use Rattle.inst_world.proofs.CarriedTransfersFindPlaces.{finds_none, finds_on, none_before}
use Rattle.inst_world.proofs.world.next_opening.Reopened.adopt_all.Goals as goal

pub loop-owner-init : goal.loop-owner-init
loop-owner-init c = record { found = none_before c.args.self.now; finds = finds_none c.args.self.now }

pub adopt_from-requires-clause-places : goal.adopt_from-requires-clause-places
adopt_from-requires-clause-places c =
    c.places.ensures.value ∙ ap (λ (s : HubSettings). s.places) (sym (c.loop-owner.invariant.finds.settings_are ∙ c.requires.settings))

pub loop-owner-preserved : goal.loop-owner-preserved
loop-owner-preserved c = record {
  found = c.adopt_from.ensures.found;
  finds = finds_on c.args.self.now c.loop-owner.self c.adopt_from.new.self c.loop-owner.invariant.finds c.adopt_from.ensures.finds;
}

pub returns : goal.returns
returns c =
    let was = c.loop-owner.invariant in
    let all : c.loop-owner.owner ≡ participants c.args.settings.now = omega arith in
    record {
      found = subst (λ n. HaveFoundBefore n 0 c.loop-owner.self) all was.found;
      finds = was.finds;
    }
