use Rattle.std.proofs.Common.{◌≡◌, ◌⊎◌, ◌<◌, ◌≤◌, ℕ, List, length, None, arith, ap, sym, subst, ◌∙◌, inl, inr}
use Rattle.std.specs.Prelude.{option_map}
use Rattle.inst_command.specs.declared.step.Step.{Step}
use Rattle.inst_model.specs.Hub.{history}
use Rattle.inst_model.specs.Opening.{Opening}
use Rattle.inst_model.specs.Transfer.{Transfer, at_place}
use Rattle.inst_world.specs.HasRun.{World, HasRun, world_settings}
use Rattle.inst_world.specs.inner.Closing.{HasBeneficiaries}
use Rattle.inst_world.proofs.BeneficiariesStay.{all_found}
use Rattle.inst_world.proofs.world.World.beneficiaries.Goals as goal
use Rattle.inst_world.proofs.world.World.beneficiaries.Goals.{else-loop-index-test, then-loop-index-test+in_default}

pub returns-clause-has : goal.returns-clause-has
returns-clause-has c =
    let l = c.loop-index in
    let places : c.places-index-end.result ≡ c.args.self.now.board.settings.places =
    c.places-index-end.ensures.value ∙ ap (λ s. s.places) (sym c.self.invariant.1) ∙ ap (λ (w : World). w.board.settings.places) c.self.view_is in
    let end : (l.self.board.settings.places ≤ l.index) ⊎ ((O : Opening) (L : List Step) → HasRun O L l.self
    → None ≡ option_map (λ (x : Transfer). x.to) (at_place c.args.from (history l.self.board.settings O L c.args.from) l.index)) = elim c.loop-index-test.branch [
      | else-loop-index-test w ↦ inl (omega (arith, w.loop-index-test.false, places, ap (λ (h : World). h.board.settings.places) l.invariant.same))
      | then-loop-index-test+in_default w ↦ inr (λ O L run. sym w.in_default.is ∙ w.beneficiary_at.ensures.beneficiary O L run)
    ] in
    subst (λ (w : World). HasBeneficiaries w c.args.from l.list.items) l.invariant.same
    (all_found l.self c.args.from l.index l.list.items l.invariant.count l.invariant.by_place
    (omega (arith, l.invariant.count, l.auto.index-end, places, ap (λ (h : World). h.board.settings.places) l.invariant.same))
    (omega (arith, c.places-index-end.ensures.most, places, ap (λ (h : World). h.board.settings.places) l.invariant.same)) end)
