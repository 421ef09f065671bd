use Rattle.std.proofs.Common.{◌≡◌, suc, ◌+◌, ◌++◌, List, sym, ap, ◌∙◌, refl, subst, arith}
use Rattle.std.proofs.lemmas.List.{append_assoc}
use Rattle.inst_settings.specs.Settings.{HubSettings, participants}
use Rattle.inst_command.specs.declared.step.Step.{Step}
use Rattle.inst_model.specs.Closing.{of_originators, of_participants, closing}
use Rattle.inst_model.specs.Interleaving.{IsInterleaving}
use Rattle.inst_world.specs.HasRun.{World, HasRun, HasRunSomething}
use Rattle.inst_world.specs.inner.Closing.{HasAllBeneficiaries}
use Rattle.inst_world.proofs.BeneficiariesStay.{still_all_beneficiaries, still_run}
use Rattle.inst_world.proofs.RunsThatOnlyTell.{told_more, told_none}
use Rattle.inst_world.proofs.world.World.close.Goals as goal

pub returns-clause-closed : goal.returns-clause-closed
returns-clause-closed c =
    let l = c.loop-who in
    let s : HubSettings = c.args.self.now.board.settings in
    let run = subst HasRunSomething c.self.view_is c.self.invariant.3 in
    let end : l.who ≡ c.participants-participants.result = omega arith in
    let all : l.who ≡ participants s = end ∙ c.participants-participants.ensures.value ∙ ap participants (sym c.self.invariant.1) ∙ ap (λ (h : World). participants h.board.settings) c.self.view_is in
    let ran = subst (λ n. HasRun run.0 (of_participants (participants s) s.places n ++ run.1) l.self) all (l.invariant.ran run.0 run.1 run.2) in
    let steps = subst (λ (t : HubSettings). IsInterleaving t run.1) (sym l.invariant.settings) run.2.steps in
    (run.0, run.1, steps, subst (λ (t : HubSettings). HasRun run.0 (closing t ++ run.1) l.self) (sym l.invariant.settings) ran)

pub loop-who-preserved : goal.loop-who-preserved
loop-who-preserved c =
    let l = c.loop-who in
    let s : HubSettings = c.args.self.now.board.settings in
    let all = participants s in
    let next : l.who + 1 ≡ suc l.who = omega arith in
    record {
      settings = c.in_ok-tell_originators.ensures.settings ∙ l.invariant.settings;
      ran = λ O L run.
          let before : List Step = of_participants all s.places l.who in
          let told = subst (λ (t : HubSettings). HasRun O (of_originators l.who t.places (participants t) ++ (before ++ L)) c.tell_originators.new.self) l.invariant.settings
          (c.in_ok-tell_originators.ensures.ran O (before ++ L) (l.invariant.ran O L run)) in
          let steps : of_participants all s.places (l.who + 1) ++ L ≡ of_originators l.who s.places all ++ (before ++ L) =
          ap (λ n. of_participants all s.places n ++ L) next ∙ append_assoc (of_originators l.who s.places all) before L in
          subst (λ M. HasRun O M c.tell_originators.new.self) (sym steps) told;
      told = told_more _ _ _ l.invariant.told c.tell_originators.ensures.told;
      has = still_all_beneficiaries l.self c.tell_originators.new.self c.in_ok-beneficiaries.beneficiaries.items (still_run _ _ (subst HasRunSomething c.self.view_is c.self.invariant.3) l.invariant.told)
          c.tell_originators.ensures.settings c.tell_originators.ensures.told l.invariant.has;
    }

pub loop-who-init : goal.loop-who-init
loop-who-init c =
    let same = c.in_ok-beneficiaries.ensures.same in
    record {
      settings = ap (λ (h : World). h.board.settings) same;
      ran = λ O L run. subst (HasRun O L) (sym same) run;
      told = told_none _ _ (λ O L run. subst (HasRun O L) (sym same) run);
      has = subst (λ (h : World). HasAllBeneficiaries h c.in_ok-beneficiaries.beneficiaries.items) (sym same) c.in_ok-beneficiaries.ensures.has;
    }

pub returns-in_err-tell_originators-clause-told : goal.returns-in_err-tell_originators-clause-told
returns-in_err-tell_originators-clause-told c = told_more _ _ _ c.loop-who.invariant.told c.tell_originators.ensures.told

pub returns-clause-ran : goal.returns-clause-ran
returns-clause-ran c = λ O L run.
    let l = c.loop-who in
    let s : HubSettings = c.args.self.now.board.settings in
    let end : l.who ≡ c.participants-participants.result = omega arith in
    let all : l.who ≡ participants s = end ∙ c.participants-participants.ensures.value ∙ ap participants (sym c.self.invariant.1) ∙ ap (λ (h : World). participants h.board.settings) c.self.view_is in
    subst (λ n. HasRun O (of_participants (participants s) s.places n ++ L) l.self) all (l.invariant.ran O L run)
