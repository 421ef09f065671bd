-- The live transfers on both sides. A transfer that is live at its beneficiary is live at its
-- originator, with the same identifier, amount and deadline, once on either side. At an opening
-- each live transfer is on both sides and pending, so the live transfers of an originator to a
-- beneficiary and those of the beneficiary from it correspond one to one. A promise of this hub.
use Rattle.std.specs.Prelude.{◌≡◌, ℕ, ◌≤◌, true, List, [], None, count_by, Contains}
use Rattle.inst_base.specs.TimeLimit.{deadline_of}
use Rattle.inst_settings.specs.Settings.{HubSettings}
use Rattle.inst_command.specs.declared.step.Step.{Step}
use Rattle.inst_journal.specs.declared.event.Event.{Event}
use Rattle.inst_journal.specs.declared.event.Event.TheVariants.{Taken, Forwarded}
use Rattle.inst_journal.specs.Booked.{takes, forwards, is_forwarded}
use Rattle.inst_journal.specs.Opened.{is_live}
use Rattle.inst_model.specs.Interleaving.{IsInterleaving}
use Rattle.inst_model.specs.Opening.{Opening, IsOpening, beginning}
use Rattle.inst_model.specs.Hub.{outcome, history}

-- The live transfers of `from` in the histories J of the originator `from` and the beneficiary
-- `to`.
pub record IsLiveOnBothSides (s : HubSettings) (J : ℕ → List Event) (from to : ℕ) : Type 0 where
  pub what_came_was_sent : (id : List ℕ) (cents deadline : ℕ) →
      Contains (J to) (Forwarded from id cents deadline) →
      is_live from id (J to) ≡ true →
      (stamp : ℕ) × Contains (J from) (Taken id to cents stamp)
      × (deadline_of s.limit stamp ≡ deadline)
      × (is_live from id (J from) ≡ true)
  pub what_was_sent_came : (id : List ℕ) (cents stamp : ℕ) →
      Contains (J from) (Taken id to cents stamp) →
      is_live from id (J from) ≡ true → is_forwarded from id (J to) ≡ true →
      Contains (J to) (Forwarded from id cents (deadline_of s.limit stamp))
      × (is_live from id (J to) ≡ true)
  pub sent_once : (id : List ℕ) → count_by (takes id) (J from) ≤ 1
  pub came_once : (id : List ℕ) → count_by (forwards from id) (J to) ≤ 1

-- The law: `IsLiveOnBothSides` after any interleaving.
abbrev pub TheLiveAreTheSameOnBothSides : Type 0
TheLiveAreTheSameOnBothSides =
    (s : HubSettings) (O : Opening) → IsOpening s O → (L : List Step) → IsInterleaving s L →
    (from to : ℕ) → IsLiveOnBothSides s (history s O L) from to

-- At an opening each live transfer is forwarded to its beneficiary and has no outcome.
abbrev pub AtAnOpeningTheLiveHaveCome : Type 0
AtAnOpeningTheLiveHaveCome = (s : HubSettings) (O : Opening) → IsOpening s O →
    (from to : ℕ) (id : List ℕ) (cents stamp : ℕ) →
    Contains (beginning O from) (Taken id to cents stamp) →
    is_live from id (beginning O from) ≡ true →
    (is_forwarded from id (beginning O to) ≡ true) × (outcome s O [] from id ≡ None)
