-- The content of a reply about a transfer. A choice of this hub.
use Rattle.std.specs.Prelude.{ℕ, List}
use Rattle.inst_command.specs.declared.outcome.State.{State as StateValue}
use Rattle.inst_command.specs.declared.reply.Reply.{Reply}
use Rattle.inst_command.specs.declared.reply.Reply.TheVariants.{Taken, State}

-- The content of a reply about a transfer.
pub data TransferTold : Type 0 where
  -- The asker's own submission with this identifier is taken, with this deadline.
  tells_taken : List ℕ → ℕ → TransferTold
  -- The state of the transfer with this originator and this identifier.
  tells_state : ℕ → List ℕ → StateValue → TransferTold
  -- The reply says nothing about a transfer.
  tells_nothing : TransferTold

-- The content of this reply.
abbrev pub transfer_told : Reply → TransferTold
transfer_told (Taken id deadline) = tells_taken id deadline
transfer_told (State from id state) = tells_state from id state
transfer_told _ = tells_nothing
