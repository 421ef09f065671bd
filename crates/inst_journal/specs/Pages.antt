-- Reading an inbox in pages: the pages joined are the arrivals, in order, none twice and none left
-- out. Forwarding is the scheme's (EPC004-16, chapter 4: processing flow); the inbox and its pages
-- are a choice of this hub.
use Rattle.std.specs.Prelude.{◌≡◌, ℕ, ◌≤◌, false, List, [], ◌∷◌, ◌++◌, length, take, sum_by, Option}
use Rattle.std.specs.Prelude.{Ok}
use Rattle.inst_settings.specs.Settings.{HubSettings}
use Rattle.inst_command.specs.declared.command.Command.TheVariants.{Fetch}
use Rattle.inst_command.specs.declared.entry.Entry.{Entry}
use Rattle.inst_command.specs.declared.outcome.Outcome.{Outcome}
use Rattle.inst_command.specs.declared.reply.Reply.TheVariants.{Inbox}
use Rattle.inst_journal.specs.declared.event.Event.{Event}
use Rattle.inst_journal.specs.declared.event.Event.TheVariants.{Forwarded}
use Rattle.inst_journal.specs.Booked.{is_forwarding}
use Rattle.inst_journal.specs.Reply.{inbox, handed_out, reply, history_after}

-- A forwarded transfer becomes an entry at the end of the inbox, and no other event changes it.
pub record IsInOrderOfArrival (J : List Event) : Type 0 where
  pub arrival : (from : ℕ) (id : List ℕ) (cents deadline : ℕ) →
      inbox (J ++ Forwarded from id cents deadline ∷ []) ≡
      inbox J ++ record { from = from; id = id; cents = cents; deadline = deadline } ∷ []
  pub others : (event : Event) → is_forwarding event ≡ false → inbox (J ++ event ∷ []) ≡ inbox J

-- The law: an inbox is the list of arrivals, in order.
abbrev pub AnInboxIsInOrderOfArrival : Type 0
AnInboxIsInOrderOfArrival = (inbox [] ≡ []) × ((J : List Event) → IsInOrderOfArrival J)

-- The arrivals that were fetched.
abbrev pub read_so_far : List Event → List Entry
read_so_far J = take (sum_by handed_out J) (inbox J)

-- A fetch of at most `max` replies the next page.
pub record NextPage (s : HubSettings) (who : ℕ) (J : List Event) (max at : ℕ)
    (found : Option Outcome) : Type 0 where
  pub page : List Entry
  pub replied : reply s who J (Fetch max) at found ≡ Ok (Inbox page)
  pub short : length page ≤ max
  pub next : read_so_far J ++ page ≡ read_so_far (history_after s who J (Fetch max) at found)
  pub same_inbox : inbox (history_after s who J (Fetch max) at found) ≡ inbox J
  pub none_only_at_the_end : 1 ≤ max → page ≡ [] → read_so_far J ≡ inbox J

-- The law: `NextPage` for all histories and fetches.
abbrev pub AFetchHandsOutTheNextPage : Type 0
AFetchHandsOutTheNextPage =
    (s : HubSettings) (who : ℕ) (J : List Event) (max at : ℕ) (found : Option Outcome) →
    NextPage s who J max at found
