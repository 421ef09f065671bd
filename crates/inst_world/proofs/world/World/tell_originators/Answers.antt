use Rattle.std.proofs.Common.{◌≡◌, ◌<◌, suc, ◌+◌, ◌++◌, length, List, Some, sym, ap, ◌∙◌, refl, subst, arith}
use Rattle.std.proofs.lemmas.List.{append_assoc}
use Rattle.std.proofs.lemmas.Option.{slice_get_read}
use Rattle.std.specs.Prelude.{slice_get}
use Rattle.inst_settings.specs.Settings.{HubSettings, participants}
use Rattle.inst_command.specs.declared.step.Step.{Step}
use Rattle.inst_model.specs.Closing.{of_places, of_originators}
use Rattle.inst_world.specs.HasRun.{HasRun}
use Rattle.inst_world.specs.inner.Closing.{HasBeneficiaries}
use Rattle.inst_world.proofs.BeneficiariesStay.{still_all_beneficiaries, still_run}
use Rattle.inst_world.proofs.RunsThatOnlyTell.{told_more, told_none}
use Rattle.inst_world.proofs.world.World.tell_originators.Goals as goal

pub tell_places-requires-clause-beneficiaries : goal.tell_places-requires-clause-beneficiaries
tell_places-requires-clause-beneficiaries c =
    let lists = c.args.beneficiaries.now in
    let list = c.index-beneficiaries-from.result in
    let all : c.participants-originators.result ≡ participants c.args.self.now.board.settings = c.participants-originators.ensures.value ∙ ap participants c.settings.ensures in
    let below : c.from.result < length lists = omega (arith, c.from.ensures, c.loop-from-test.true, all, c.requires.beneficiaries.one_each) in
    let there : slice_get lists c.loop-from.from ≡ Some list =
    ap (slice_get lists) (sym c.from.ensures) ∙ slice_get_read lists (length lists) c.from.result list refl below c.index-beneficiaries-from.is in
    subst (HasBeneficiaries c.loop-from.self c.loop-from.from) (sym c.deref.ensures.value) (c.loop-from.invariant.has.each c.loop-from.from list there)

pub returns-clause-ran : goal.returns-clause-ran
returns-clause-ran c = λ O L run.
    let s : HubSettings = c.args.self.now.board.settings in
    let end : c.loop-from.from ≡ c.participants-originators.result = omega (arith, c.loop-from.auto.from-end, c.loop-from-test.false) in
    let all : c.loop-from.from ≡ participants s = end ∙ c.participants-originators.ensures.value ∙ ap participants c.settings.ensures in
    subst (λ n. HasRun O (of_originators c.args.who s.places n ++ L) c.loop-from.self) all (c.loop-from.invariant.ran O L run)

pub loop-from-preserved : goal.loop-from-preserved
loop-from-preserved c =
    let l = c.loop-from in
    let who = c.args.who in
    let places = c.args.self.now.board.settings.places in
    let next : l.from + 1 ≡ suc l.from = omega arith in
    record {
      settings = c.tell_places.ensures.settings ∙ l.invariant.settings;
      ran = λ O L run.
          let before : List Step = of_originators who places l.from in
          let steps : of_originators who places (l.from + 1) ++ L ≡ of_places who l.from l.self.board.settings.places ++ (before ++ L) =
          ap (λ n. of_originators who places n ++ L) next ∙ append_assoc (of_places who l.from places) before L
          ∙ ap (λ (s : HubSettings). of_places who l.from s.places ++ (before ++ L)) (sym l.invariant.settings) in
          subst (λ M. HasRun O M c.tell_places.new.self) (sym steps) (c.in_ok-tell_places.ensures.ran O (before ++ L) (l.invariant.ran O L run));
      told = told_more _ _ _ l.invariant.told c.tell_places.ensures.told;
      has = still_all_beneficiaries l.self c.tell_places.new.self c.args.beneficiaries.now (still_run _ _ c.requires.run l.invariant.told)
          c.tell_places.ensures.settings c.tell_places.ensures.told l.invariant.has;
    }

pub loop-from-init : goal.loop-from-init
loop-from-init c = record { settings = refl; ran = λ O L run. run; told = told_none _ _ (λ O L run. run); has = c.requires.beneficiaries }

pub returns-in_err-tell_places-clause-told : goal.returns-in_err-tell_places-clause-told
returns-in_err-tell_places-clause-told c = told_more _ _ _ c.loop-from.invariant.told c.tell_places.ensures.told

pub tell_places-requires-clause-run : goal.tell_places-requires-clause-run
tell_places-requires-clause-run c = still_run _ _ c.requires.run c.loop-from.invariant.told
