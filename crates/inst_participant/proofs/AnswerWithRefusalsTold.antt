-- What holds of an answer holds of it with its refusals told.
use Rattle.std.proofs.Common.{◌≡◌, ◌≢◌, Result, Ok, Err, sym, subst}
use Rattle.std.specs.Prelude.{IfOk, OnErr}
use Rattle.std.specs.declared.alloc.AllocError.{AllocError}
use Rattle.inst_base.specs.declared.fault.Fault.{Fault}
use Rattle.inst_base.specs.declared.fault.Fault.TheVariants.{Memory}
use Rattle.inst_command.specs.declared.reply.Reply.{Reply}
use Rattle.inst_command.specs.Refusals.{refusals_told}
use Rattle.inst_model.specs.Trace.{as_reply}
use Rattle.inst_model.proofs.Refusals.{as_told, told_memory}

pub told_answered : (answer : Result Reply Fault) (told : Result Reply AllocError) (P : Reply → Type 0) → told ≡ refusals_told answer → (answer ≢ Err Memory → P (as_reply answer)) → IfOk told P
told_answered answer (Ok reply) P is holds = let was = as_told answer reply (sym is) in subst P (sym was.1) (holds was.0)
told_answered answer (Err e) P is holds = tt

pub told_left : (answer : Result Reply Fault) (told : Result Reply AllocError) (P : Type 0) → told ≡ refusals_told answer → OnErr answer P → OnErr told P
told_left answer (Ok reply) P is left = tt
told_left answer (Err e) P is left = subst (λ (r : Result Reply Fault). OnErr r P) (told_memory answer e (sym is)) left
