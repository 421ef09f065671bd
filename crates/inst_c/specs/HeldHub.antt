-- The hub that C holds. A choice of this hub.
use Rattle.std.specs.Prelude.{◌≡◌, Option, Some, None}
use base.Fml.{Fml, ftrue}
use denote.RawPtr.{Ptr}
use Rattle.std.specs.Box.Ownership.{box_owns}
use Rattle.std.specs.Global.{Global, Box}
use Rattle.std.specs.contracts.prelude.GlobalAllocator.TheImpl.{ghosts}
use Rattle.inst_c.specs.declared.line_hub.LineHub.{LineHub}
use Rattle.inst_c.specs.contracts.line_hub.LineHub.{the_row}

-- The hub at the pointer and the right to free its memory, or nothing.
abbrev pub held_owns : Global → Ptr → Option LineHub → Fml
held_owns alloc p None = ftrue
held_owns alloc p (Some hub) = box_owns (ghosts.dealloc_token alloc) the_row p hub

-- The hub is taken, if there is one.
abbrev pub TakesHub : Option LineHub → Option (Box LineHub) → Type 0
TakesHub held None = held ≡ None
TakesHub held (Some taken) = held ≡ Some taken.value
