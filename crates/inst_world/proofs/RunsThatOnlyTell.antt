-- Participants were only told of transfers.
use Rattle.std.proofs.Common.{◌≡◌, ◌++◌, ◌∷◌, [], true, List, sym, subst}
use Rattle.std.proofs.lemmas.List.{append_assoc}
use Rattle.std.specs.List.{AllByRecursion}
use Rattle.inst_command.specs.declared.reply.Answer.{Answer}
use Rattle.inst_command.specs.declared.step.Step.{Step}
use Rattle.inst_model.specs.Closing.{is_telling}
use Rattle.inst_model.specs.Opening.{Opening}
use Rattle.inst_world.specs.HasRun.{World, HasRun, Runs}
use Rattle.inst_world.specs.NextOpening.{HasOnlyTold}

all_tell : (one two : List Step) → AllByRecursion (λ step. is_telling step ≡ true) one → AllByRecursion (λ step. is_telling step ≡ true) two
    → AllByRecursion (λ step. is_telling step ≡ true) (one ++ two)
all_tell [] two first second = second
all_tell (step ∷ one) two first second = (first.0, all_tell one two first.1 second)

-- nothing was done
pub told_none : (old new : World) → ((O : Opening) (L : List Step) → HasRun O L old → HasRun O L new) → HasOnlyTold old new
told_none old new same O L run = ([], tt, same O L run)

pub told_one : (old new : World) (step : Step) (answered : Answer) → is_telling step ≡ true → Runs old step answered new → HasOnlyTold old new
told_one old new step answered telling runs O L run = (step ∷ [], (telling, tt), (runs O L run).1)

pub told_more : (a b c : World) → HasOnlyTold a b → HasOnlyTold b c → HasOnlyTold a c
told_more a b c first second O L run =
    let one = first O L run in
    let two = second O (one.0 ++ L) one.2 in
    (two.0 ++ one.0, all_tell two.0 one.0 two.1 one.1, subst (λ (M : List Step). HasRun O M c) (sym (append_assoc two.0 one.0 L)) two.2)
