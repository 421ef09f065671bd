-- Refusals as replies. An allocation failure isn't a reply, since nothing happened. A choice of
-- this hub.
use Rattle.std.specs.Prelude.{Result, Ok, Err, alloc_error}
use Rattle.std.specs.declared.alloc.AllocError.{AllocError}
use Rattle.inst_base.specs.declared.fault.Fault.{Fault}
use Rattle.inst_base.specs.declared.fault.Fault.TheVariants.{Memory}
use Rattle.inst_command.specs.declared.reply.Reply.{Reply}
use Rattle.inst_command.specs.declared.reply.Reply.TheVariants.{Refused}

-- The result with each refusal but `Memory` as a reply.
abbrev pub refusals_told : Result Reply Fault → Result Reply AllocError
refusals_told (Ok reply) = Ok reply
refusals_told (Err Memory) = Err alloc_error
refusals_told (Err fault) = Ok (Refused fault)
