-- The books of all participants fit: a forwarded transfer was taken, no two books have different
-- outcomes of a transfer, and nobody pays what wasn't received (EPC004-16, chapter 4: both
-- participants are told one outcome). They are closed if also each side that has the transfer has
-- booked its outcome, and each pending transfer is forwarded. The last is a choice of this hub.
use Rattle.std.specs.Prelude.{◌≡◌, ℕ, List, Contains}
use Rattle.inst_base.specs.TimeLimit.{deadline_of}
use Rattle.inst_settings.specs.Settings.{HubSettings}
use Rattle.inst_command.specs.declared.outcome.Outcome.{Outcome}
use Rattle.inst_command.specs.declared.outcome.Outcome.TheVariants.{Accepted}
use Rattle.inst_journal.specs.declared.event.Event.{Event}
use Rattle.inst_journal.specs.declared.event.Event.TheVariants.{Taken, Forwarded, Booked}

-- The histories J p of the participants p fit.
pub record BooksFit (s : HubSettings) (J : ℕ → List Event) : Type 0 where
  pub forwarded_is_taken : (p from : ℕ) (id : List ℕ) (cents deadline : ℕ) →
      Contains (J p) (Forwarded from id cents deadline) →
      (stamp : ℕ) × Contains (J from) (Taken id p cents stamp)
      × (deadline_of s.limit stamp ≡ deadline)
  pub both_book_the_same : (p q from : ℕ) (id : List ℕ) (one other : Outcome) →
      Contains (J p) (Booked from id one) → Contains (J q) (Booked from id other) → one ≡ other
  pub paid_is_received : (from : ℕ) (id : List ℕ) (to cents stamp : ℕ) →
      Contains (J from) (Taken id to cents stamp) → Contains (J from) (Booked from id Accepted) →
      Contains (J to) (Booked from id Accepted)

-- The histories fit; of each outcome that a book has, the originator has booked it, and the
-- beneficiary if the transfer was forwarded to it; and each pending transfer is forwarded.
pub record BooksAreClosed (s : HubSettings) (J : ℕ → List Event) : Type 0 where
  pub fit : BooksFit s J
  pub originator_booked : (from : ℕ) (id : List ℕ) (to cents stamp p : ℕ) (outcome : Outcome) →
      Contains (J from) (Taken id to cents stamp) → Contains (J p) (Booked from id outcome) →
      Contains (J from) (Booked from id outcome)
  pub beneficiary_booked : (from : ℕ) (id : List ℕ) (to cents deadline p : ℕ) (outcome : Outcome) →
      Contains (J to) (Forwarded from id cents deadline) → Contains (J p) (Booked from id outcome) →
      Contains (J to) (Booked from id outcome)
  pub pending_is_forwarded : (from : ℕ) (id : List ℕ) (to cents stamp : ℕ) →
      Contains (J from) (Taken id to cents stamp) →
      ((p : ℕ) (outcome : Outcome) → Contains (J p) (Booked from id outcome) → ⊥) →
      Contains (J to) (Forwarded from id cents (deadline_of s.limit stamp))
