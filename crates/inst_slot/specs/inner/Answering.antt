-- The decision that a command asks of the board, with the transfer as the participant's table has
-- it. A choice of this hub.
use Rattle.std.specs.Prelude.{◌≡◌, ℕ, Bool, true, false, List, [], slice_get, Option, Some, None}
use Rattle.std.specs.Prelude.{Result, Err}
use Rattle.inst_base.specs.declared.fault.Fault.{Fault}
use Rattle.inst_base.specs.declared.fault.Fault.TheVariants.{Expired}
use Rattle.inst_command.specs.declared.command.Command.{Command}
use Rattle.inst_command.specs.declared.command.Command.TheVariants.{Confirm, Reject, Investigate}
use Rattle.inst_command.specs.declared.place.Place.{Place}
use Rattle.inst_board.specs.declared.wish.Wish.{Wish}
use Rattle.inst_board.specs.declared.wish.Wish.TheVariants.{Accept, Reject as WishReject, Expire}
use Rattle.inst_journal.specs.declared.handle.Handled.{Handled}
use Rattle.inst_journal.specs.Reply.{still_pending}
use Rattle.inst_ledger.specs.Book.{LedgerBook as Kept, BookAndRoom}
use Rattle.inst_transfers.specs.Held.{IsFound}
use Rattle.inst_slot.specs.declared.arrival.Arrival.{Arrival}
use Rattle.inst_slot.specs.declared.arrivals.Spot.{Spot}
use Rattle.inst_slot.specs.declared.answering.Request.{Request}
use Rattle.inst_slot.specs.Book.{Book}
use Rattle.inst_ledger.specs.Right.{own_ids}
use Rattle.inst_slot.specs.Spots.{rows_of, arrivals_of}

-- A participant's book with the history of its ledger and these arrivals.
abbrev pub book_with_arrivals : Kept → List Arrival → Book
book_with_arrivals kept arrivals =
    record { settings = kept.settings; who = kept.who; events = kept.events; arrivals = arrivals }

-- The same, with the arrivals at these spots.
abbrev pub book_with_spots : Kept → List Spot → Book
book_with_spots kept spots =
    book_with_arrivals kept (arrivals_of (rows_of kept.who kept.events) spots)

-- The identifier of the transfer that the command decides.
abbrev pub decided_id : Command → List ℕ
decided_id (Confirm from id) = id
decided_id (Reject from id reason) = id
decided_id (Investigate id) = id
decided_id _ = []

-- True if the wish is an expiry.
abbrev pub is_expiry : Wish → Bool
is_expiry Accept = false
is_expiry (WishReject reason) = false
is_expiry Expire = true

-- The reply if the transfer stays pending.
abbrev pub pending_for : Wish → ℕ → List ℕ → Result Handled Fault
pending_for Accept from id = Err Expired
pending_for (WishReject reason) from id = still_pending from id
pending_for Expire from id = still_pending from id

-- The place is that of the own live transfer with this identifier.
pub record IsOwnAt (book : Kept) (id : List ℕ) (place : Place) : Type 0 where
  pub own : place.owner ≡ book.who
  pub at : slice_get (own_ids book.who book.events) place.index ≡ Some id
  pub only : (k : ℕ) → slice_get (own_ids book.who book.events) k ≡ Some id → place.index ≡ k

-- The request is what the command asks, for the transfer with this identifier, which was found.
pub record IsAsking (l : BookAndRoom) (asked : Option (Place
    × Wish)) (id : List ℕ) (r : Request) : Type 0 where
  pub is : asked ≡ Some (r.place, r.wish)
  pub there : IsFound l.table r.found
  pub owner : r.found.from ≡ r.place.owner
  pub id_is : r.found.id ≡ id
  pub expiring : is_expiry r.wish ≡ true → IsOwnAt l.book id r.place

-- The request of a command, or none if it asks for no decision.
abbrev pub GivesRequest : BookAndRoom → Option (Place × Wish) → List ℕ → Option Request → Type 0
GivesRequest l asked id None = asked ≡ None
GivesRequest l asked id (Some r) = IsAsking l asked id r
