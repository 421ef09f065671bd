-- A participant begins with its board.
use Rattle.std.proofs.Common.{◌≡◌, ℕ, List, [], sym, subst, ◌∙◌, arith}
use Rattle.std.specs.Prelude.{Contains, is_some, true}
use Rattle.atomic_table.specs.Seated.{TableId}
use Rattle.inst_settings.specs.Settings.{HubSettings}
use Rattle.inst_cell.specs.declared.shared_board.SharedBoard.{SharedBoard}
use Rattle.inst_cell.specs.Held.{settings_of, knows, has_role}
use Rattle.inst_cell.specs.Opening.{IsOpened}
use Rattle.inst_slot.specs.declared.arrival.Arrival.{Arrival}
use Rattle.inst_slot.specs.Book.{Book}
use Rattle.inst_slot.specs.LawfulBoard.{IsLawfulBoard, AllAreAdopted}
use Rattle.inst_slot.proofs.ForwardedTransfersHavePlaces.{begins}

none_arrived : (x : Arrival) → Contains [] x → is_some x.index ≡ true
none_arrived x (i, below, is) = absurd (omega arith)

pub starts : (s : HubSettings) (table : TableId) (who : ℕ) (b : SharedBoard) (book : Book) (kept : HubSettings) → IsOpened s table who b → kept ≡ s
    → (book.settings ≡ s) × (book.who ≡ who) × (book.events ≡ []) × (book.arrivals ≡ [])
    → IsLawfulBoard settings_of knows has_role b book × AllAreAdopted book × (book.who ≡ who) × (book.settings ≡ kept)
starts s table who b book kept o e new = (
  begins settings_of knows has_role b book (o.settings ∙ sym new.0) ((o.role book.who).1 new.1) (λ f. (o.known f).0) new.2 new.3,
  (λ x h. none_arrived x (subst (λ (l : List Arrival). Contains l x) new.3 h)),
  new.1,
  new.0 ∙ sym e,
)
