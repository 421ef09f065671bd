-- A participant's history, computed from its view alone, entry by entry: a transfer that comes is
-- forwarded, an outcome that is told is booked, and an ask adds the event of its reply, if any. A
-- choice of this hub.
use Rattle.std.specs.Prelude.{ℕ, List, [], ◌∷◌, ◌++◌}
use Rattle.inst_model.specs.Opening.{Opening, beginning}
use Rattle.inst_settings.specs.Settings.{HubSettings}
use Rattle.inst_journal.specs.declared.event.Event.{Event}
use Rattle.inst_journal.specs.declared.event.Event.TheVariants.{Forwarded, Booked}
use Rattle.inst_journal.specs.Reply.{handle, kept_events}
use Rattle.inst_model.specs.View.{Seen}
use Rattle.inst_model.specs.View.Seen.{Asked, Came, Told}

-- The event that an entry adds to the history J of p.
abbrev pub events_of_entry : HubSettings → ℕ → List Event → Seen → List Event
events_of_entry s p J (Asked command at found) = kept_events (handle s p J command at found)
events_of_entry s p J (Came from id cents deadline) = Forwarded from id cents deadline ∷ []
events_of_entry s p J (Told from id outcome) = Booked from id outcome ∷ []

-- The history J of p after these entries.
abbrev pub with_entries : HubSettings → ℕ → List Event → List Seen → List Event
with_entries s p J [] = J
with_entries s p J (seen ∷ view) = with_entries s p (J ++ events_of_entry s p J seen) view

-- The history that follows from a view, starting with the participant's first history.
abbrev pub history_of : HubSettings → Opening → ℕ → List Seen → List Event
history_of s O p view = with_entries s p (beginning O p) view
