-- The inbox: the positions in the table of the transfers that were forwarded to the participant, in
-- order of arrival, and the read mark. A choice of this hub.
use Rattle.std.specs.Prelude.{◌≡◌, ℕ, List, [], length, map, get_or, sum_by}
use Rattle.inst_command.specs.declared.entry.Entry.{Entry}
use Rattle.inst_journal.specs.declared.event.Event.{Event}
use Rattle.inst_journal.specs.Reply.{inbox, handed_out}
use Rattle.inst_transfers.specs.State.{rows_of}
use Rattle.inst_transfers.specs.Held.{AreWithin}

-- An entry in place of one that isn't in the table.
abbrev pub no_entry : Entry
no_entry = record { from = 0; id = []; cents = 0; deadline = 0 }

-- The entries of the transfers at these positions.
abbrev pub entries_at : List Entry → List ℕ → List Entry
entries_at rows positions = map (λ p. get_or rows p no_entry) positions

-- The positions are those of the history's inbox, and the read mark is the number fetched.
pub record IsRead (who : ℕ) (J : List Event) (positions : List ℕ) (read : ℕ) : Type 0 where
  pub within : AreWithin (length (rows_of who J)) positions
  pub came : entries_at (rows_of who J) positions ≡ inbox J
  pub were_read : read ≡ sum_by handed_out J
