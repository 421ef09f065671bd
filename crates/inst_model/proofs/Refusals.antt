-- An answer with its refusals told is the model's reply, or memory was refused.
use Rattle.std.proofs.Common.{◌≡◌, ◌≢◌, refl, Result, Ok, Err}
use Rattle.std.specs.declared.alloc.AllocError.{AllocError}
use Rattle.inst_base.specs.declared.fault.Fault.{Fault}
use Rattle.inst_base.specs.declared.fault.Fault.TheVariants.{Memory}
use Rattle.inst_command.specs.declared.reply.Reply.{Reply}
use Rattle.inst_command.specs.Refusals.{refusals_told}
use Rattle.inst_model.specs.Trace.{as_reply}

pub as_told : (answer : Result Reply Fault) (reply : Reply) → refusals_told answer ≡ Ok reply → (answer ≢ Err Memory) × (reply ≡ as_reply answer)
as_told (Ok other) reply is = (λ same. let no : ⊥ = cc in absurd no, cc)
as_told (Err Memory) reply is = let no : ⊥ = cc in absurd no
as_told (Err _) reply is = (λ same. let no : ⊥ = cc in absurd no, cc)

pub told_memory : (answer : Result Reply Fault) (e : AllocError) → refusals_told answer ≡ Err e → answer ≡ Err Memory
told_memory (Ok reply) e is = let no : ⊥ = cc in absurd no
told_memory (Err Memory) e is = refl
told_memory (Err _) e is = let no : ⊥ = cc in absurd no
