-- A hub that runs one step more of a list has run them in order.
use Rattle.std.proofs.Common.{◌≡◌, ℕ, ◌+◌, ◌<◌, List, [], ◌∷◌, ◌++◌, length, take, reverse, get_or, sym, ap, subst, ◌∙◌}
use Rattle.std.proofs.lemmas.List.{take_more, reverse-append}
use Rattle.inst_settings.specs.Settings.{HubSettings}
use Rattle.inst_command.specs.declared.reply.Answer.{Answer}
use Rattle.inst_command.specs.declared.step.Step.{Step}
use Rattle.inst_model.specs.Opening.{Opening}
use Rattle.inst_model.specs.Trace.{answer, trace}
use Rattle.inst_world.specs.HasRun.{World, world_settings, HasRun, Runs}

one_more : (steps : List Step) (k : ℕ) (step : Step) → k < length steps → step ≡ get_or steps k step → reverse (take (k + 1) steps) ≡ step ∷ reverse (take k steps)
one_more steps k step below is =
    ap (λ (l : List Step). reverse l) (take_more steps k step below ∙ ap (λ (x : Step). take k steps ++ x ∷ []) (sym is))
    ∙ reverse-append (take k steps) (step ∷ [])

-- from the start the hub has run these steps, with these answers
abbrev pub HasRunFrom : HubSettings → World → List Step → World → List Answer → Type 0
HasRunFrom s start L world answers = (O : Opening) → HasRun O [] start → HasRun O L world × (answers ≡ trace s O L)

pub runs_on : (s : HubSettings) (start old new : World) (steps : List Step) (k : ℕ) (step : Step) (answers pushed : List Answer) (answered : Answer) → k < length steps → step ≡ get_or steps k step
    → world_settings old ≡ s → Runs old step answered new → pushed ≡ answers ++ answered ∷ []
    → HasRunFrom s start (reverse (take k steps)) old answers → HasRunFrom s start (reverse (take (k + 1) steps)) new pushed
runs_on s start old new steps k step answers pushed answered below is same runs push was =
    subst (λ (L : List Step). HasRunFrom s start L new pushed) (sym (one_more steps k step below is)) (λ O from.
    let before = was O from in
    let now = runs O (reverse (take k steps)) before.0 in
    let told : answered ≡ answer s O (reverse (take k steps)) step = now.0 ∙ ap (λ (t : HubSettings). answer t O (reverse (take k steps)) step) same in
    (now.1, push ∙ ap (λ (xs : List Answer). xs ++ answered ∷ []) before.1 ∙ ap (λ (a : Answer). trace s O (reverse (take k steps)) ++ a ∷ []) told))
