-- A hub that is held, and its parts, own what a box of it owns. Assumes nothing.
use mir.Syntax.{impl, tnil, dnil}
use mathlib.Core.Path.{◌≡◌, refl}
use mathlib.Core.Bool.{true}
use mathlib.Core.List.{[]}
use Rattle.std.specs.Prelude.{Option, Some, None, is_some}
use Rattle.std.proofs.lemmas.Bool.{false≢true}
use Rattle.inst_c.specs.declared.line_hub.LineHub as declared
use denote.Signature.{Slot, plain}
use Rattle.std.proofs.BoxSteps.Form.{Bx}
use Rattle.std.specs.contracts.alloc.Global as Heap
use Rattle.std.specs.contracts.prelude.GlobalAllocator.TheImpl.{ghosts, dict}
use Rattle.std.proofs.alloc.Global.TheLaws as heap
use Rattle.inst_c.specs.contracts.line_hub.LineHub as LineHub
use Rattle.inst_c.proofs.line_hub.LineHub.TheLaws as hub
use Rattle.inst_c.specs.contracts.held_hub.box_parts.BoxParts as BoxParts
use Rattle.inst_c.specs.contracts.held_hub.HeldHub as HeldHub

abbrev pub E : Bx
E = record { row = LineHub.the_row; laws = hub.the_row_laws; al = record { row = Heap.the_row; laws = heap.the_row_laws; g = ghosts; d = dict; drops = impl [] tnil dnil } }

abbrev pub FromParts : Slot 0
FromParts = plain (λ _. BoxParts.the_row LineHub.the_row Heap.the_row ghosts)

abbrev pub FromHeld : Slot 0
FromHeld = plain (λ _. HeldHub.the_row)

-- the hub, where there is one
pub some_of : (held : Option declared.LineHub) → is_some held ≡ true → (hub : declared.LineHub) × (held ≡ Some hub)
some_of None is = absurd (false≢true is)
some_of (Some hub) is = (hub, refl)
