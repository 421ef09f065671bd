use Rattle.inst_command.specs.declared.reply.Answer.TheVariants.{Reply, New}
use Rattle.inst_world.proofs.StepIsRunOrRefused.{ran_matched, refused_matched}
use Rattle.inst_world.proofs.world.World.run_by_slot.Goals as goal

pub returns-in_ok-ask-in-Ask : goal.returns-in_ok-ask-in-Ask
returns-in_ok-ask-in-Ask c = ran_matched (λ x. Reply x) _ _ _ _ _ c.in-Ask.is record { ok = c.in_ok-ask-in-Ask.ensures.ok; err = tt; memory = tt; settings = c.ask.ensures.settings }

pub returns-in_err-ask-in-Ask : goal.returns-in_err-ask-in-Ask
returns-in_err-ask-in-Ask c = refused_matched _ (λ x. Reply x) _ _ _ _ _ _ c.in-Ask.is c.from_residual.ensures.1 (let refused = c.in_err-ask-in-Ask.ensures.err in record { ok = tt; err = refused.as_before; memory = refused.memory; settings = c.ask.ensures.settings })

pub returns-in_ok-deliver-in-Deliver : goal.returns-in_ok-deliver-in-Deliver
returns-in_ok-deliver-in-Deliver c = ran_matched (λ x. New x) _ _ _ _ _ c.in-Deliver.is c.in_ok-deliver-in-Deliver.ensures

pub returns-in_err-deliver-in-Deliver : goal.returns-in_err-deliver-in-Deliver
returns-in_err-deliver-in-Deliver c = refused_matched _ (λ x. New x) _ _ _ _ _ _ c.in-Deliver.is c.from_residual-in_err-deliver-in-Deliver.ensures.1 c.in_err-deliver-in-Deliver.ensures

pub returns-in_ok-learn-in-Learn : goal.returns-in_ok-learn-in-Learn
returns-in_ok-learn-in-Learn c = ran_matched (λ x. New x) _ _ _ _ _ c.in-Learn.is c.in_ok-learn-in-Learn.ensures

pub returns-in_err-learn-in-Learn : goal.returns-in_err-learn-in-Learn
returns-in_err-learn-in-Learn c = refused_matched _ (λ x. New x) _ _ _ _ _ _ c.in-Learn.is c.from_residual-in_err-learn-in-Learn.ensures.1 c.in_err-learn-in-Learn.ensures

pub returns-in_ok-expire-in-Expire : goal.returns-in_ok-expire-in-Expire
returns-in_ok-expire-in-Expire c = ran_matched (λ x. New x) _ _ _ _ _ c.in-Expire.is c.in_ok-expire-in-Expire.ensures

pub returns-in_err-expire-in-Expire : goal.returns-in_err-expire-in-Expire
returns-in_err-expire-in-Expire c = refused_matched _ (λ x. New x) _ _ _ _ _ _ c.in-Expire.is c.from_residual-in_err-expire-in-Expire.ensures.1 c.in_err-expire-in-Expire.ensures
