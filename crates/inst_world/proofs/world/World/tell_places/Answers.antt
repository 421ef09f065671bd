use Rattle.std.proofs.Common.{◌≡◌, ◌<◌, ◌≤◌, suc, ◌+◌, ◌++◌, length, refl, subst, sym, ap, ◌∙◌, true, arith}
use Rattle.std.proofs.lemmas.Option.{slice_get-get_or}
use Rattle.inst_settings.specs.Settings.{HubSettings, is_participant}
use Rattle.inst_model.specs.Closing.{of_places}
use Rattle.inst_world.specs.HasRun.{HasRun}
use Rattle.inst_world.proofs.BeneficiariesStay.{rest_adds_nothing, still_beneficiaries, still_run}
use Rattle.inst_world.proofs.RunsThatOnlyTell.{told_more, told_none}
use Rattle.inst_world.proofs.world.World.tell_places.Goals as goal

pub overflow_cast-place : goal.overflow_cast-place
overflow_cast-place c = omega (arith, c.loop-index-test.true, c.requires.beneficiaries.most)

pub tell_place-requires-clause-to : goal.tell_place-requires-clause-to
tell_place-requires-clause-to c = λ O L run.
    let has = c.loop-index.invariant.has in
    sym (slice_get-get_or c.args.beneficiaries.now c.loop-index.index 0 c.loop-index-test.true) ∙ has.by_place O L run c.loop-index.index (omega (arith, c.loop-index-test.true, has.few))

pub loop-index-preserved : goal.loop-index-preserved
loop-index-preserved c =
    let l = c.loop-index in
    let before = l.invariant in
    let next : suc l.index ≡ l.index + 1 = omega arith in
    record {
      settings = c.tell_place.ensures.settings ∙ before.settings;
      ran = λ O L run.
          subst (λ n. HasRun O (of_places c.args.who c.args.from n ++ L) c.tell_place.new.self) next
          (c.in_ok-tell_place.ensures.ran O (of_places c.args.who c.args.from l.index ++ L) (before.ran O L run));
      told = told_more _ _ _ before.told c.tell_place.ensures.told;
      has = still_beneficiaries l.self c.tell_place.new.self c.args.from c.args.beneficiaries.now (still_run _ _ c.requires.run before.told)
          c.tell_place.ensures.settings c.tell_place.ensures.told before.has;
    }

pub loop-index-init : goal.loop-index-init
loop-index-init c = record { settings = refl; ran = λ O L run. run; told = told_none _ _ (λ O L run. run); has = c.requires.beneficiaries }

pub returns-in_err-tell_place-clause-told : goal.returns-in_err-tell_place-clause-told
returns-in_err-tell_place-clause-told c = told_more _ _ _ c.loop-index.invariant.told c.tell_place.ensures.told

pub returns-clause-ran : goal.returns-clause-ran
returns-clause-ran c = λ O L run.
    let l = c.loop-index in
    let list = c.args.beneficiaries.now in
    let end : l.index ≡ length list = omega (arith, l.auto.index-end, c.loop-index-test.false) in
    let ran = subst (λ n. HasRun O (of_places c.args.who c.args.from n ++ L) l.self) end (l.invariant.ran O L run) in
    let same : l.self.board.settings ≡ c.args.self.now.board.settings = l.invariant.settings in
    let one : is_participant l.self.board.settings c.args.who ≡ true = ap (λ (s : HubSettings). is_participant s c.args.who) same ∙ c.requires.who in
    let other : is_participant l.self.board.settings c.args.from ≡ true = ap (λ (s : HubSettings). is_participant s c.args.from) same ∙ c.requires.from in
    let many : l.self.board.settings.places ≡ c.args.self.now.board.settings.places = ap (λ (s : HubSettings). s.places) same in
    rest_adds_nothing l.self O L c.args.who c.args.from list one other l.invariant.has ran c.args.self.now.board.settings.places c.requires.beneficiaries.few (omega (arith, many))
