-- Own transfers that may expire, as the participant's table has them. A choice of this hub.
use Rattle.std.specs.Prelude.{◌≡◌, ℕ, List, Option, Some, None}
use Rattle.inst_ledger.specs.Book.{BookAndRoom}
use Rattle.inst_transfers.specs.declared.transfer.Found.{Found}
use Rattle.inst_transfers.specs.Held.{IsFound}
use Rattle.inst_slot.specs.declared.arrival.Arrival.{Arrival}
use Rattle.inst_slot.specs.inner.Answering.{book_with_arrivals}
use Rattle.inst_slot.specs.Telling.{unbooked_at}

-- The own live transfer at the index, without a booked outcome.
pub record IsUnbooked (l : BookAndRoom) (index : ℕ) (f : Found) : Type 0 where
  pub is : (arrivals : List Arrival) →
      unbooked_at (book_with_arrivals l.book arrivals) index ≡ Some f.id
  pub own : f.from ≡ l.book.who
  pub there : IsFound l.table f

-- That transfer, or none if there is none.
abbrev pub FindsUnbooked : BookAndRoom → ℕ → Option Found → Type 0
FindsUnbooked l index None =
    (arrivals : List Arrival) → unbooked_at (book_with_arrivals l.book arrivals) index ≡ None
FindsUnbooked l index (Some f) = IsUnbooked l index f
