-- The outcomes that each side books (EPC004-16, chapter 4: both participants are told one outcome).
-- A party that learns of a decided transfer or asks for it books the outcome, as does an originator
-- whose transfer expires. A pending transfer that is delivered comes to its beneficiary; a decided
-- one is not delivered. Making each a separate step is a choice of this hub.
use Rattle.std.specs.Prelude.{◌≡◌, ◌⊎◌, ℕ, true, false, List, ◌∷◌, Some, None}
use Rattle.inst_settings.specs.Settings.{HubSettings}
use Rattle.inst_command.specs.declared.ask.Ask.{Ask as AskValue}
use Rattle.inst_command.specs.declared.command.Command.{Command}
use Rattle.inst_command.specs.declared.command.Command.TheVariants.{Confirm, Reject, Investigate}
use Rattle.inst_command.specs.declared.outcome.Outcome.{Outcome}
use Rattle.inst_command.specs.declared.outcome.State.TheVariants.{Decided}
use Rattle.inst_command.specs.declared.reply.Answer.TheVariants.{Reply}
use Rattle.inst_command.specs.declared.reply.Reply.TheVariants.{State}
use Rattle.inst_command.specs.declared.step.Step.{Step}
use Rattle.inst_command.specs.declared.step.Step.TheVariants.{Ask, Deliver, Learn, Expire}
use Rattle.inst_journal.specs.Booked.{is_taken, is_forwarded, booked}
use Rattle.inst_model.specs.Opening.{Opening, IsOpening}
use Rattle.inst_model.specs.Transfer.{Transfer, at_place}
use Rattle.inst_model.specs.Hub.{outcome, history}
use Rattle.inst_model.specs.Trace.{answer, is_seen}

-- A party that learns of a decided transfer has its outcome booked.
abbrev pub LearningBooks : Type 0
LearningBooks =
    (s : HubSettings) (O : Opening) → IsOpening s O →
    (past : List Step) (who p index : ℕ) (x : Transfer) (o : Outcome) →
    at_place p (history s O past p) index ≡ Some x → outcome s O past p x.id ≡ Some o →
    (who ≡ p) ⊎ (is_forwarded p x.id (history s O past who) ≡ true) →
    booked p x.id (history s O (Learn who p index ∷ past) who) ≡ Some o

-- An originator whose transfer is decided by its expiry, or was before, has the outcome booked.
abbrev pub ExpiryBooks : Type 0
ExpiryBooks =
    (s : HubSettings) (O : Opening) → IsOpening s O →
    (past : List Step) (p index at : ℕ) (x : Transfer) (o : Outcome) →
    at_place p (history s O past p) index ≡ Some x →
    outcome s O (Expire p index at ∷ past) p x.id ≡ Some o →
    booked p x.id (history s O (Expire p index at ∷ past) p) ≡ Some o

-- A pending transfer that is delivered has come to its beneficiary.
abbrev pub DeliveryForwards : Type 0
DeliveryForwards =
    (s : HubSettings) (O : Opening) (past : List Step) (p index : ℕ) (x : Transfer) →
    at_place p (history s O past p) index ≡ Some x → outcome s O past p x.id ≡ None →
    is_forwarded p x.id (history s O (Deliver p index x.to ∷ past) x.to) ≡ true

-- A decided transfer is not delivered.
abbrev pub NothingDecidedIsDelivered : Type 0
NothingDecidedIsDelivered =
    (s : HubSettings) (O : Opening) (past : List Step) (p index q : ℕ) (x : Transfer) (o : Outcome)
    →
    at_place p (history s O past p) index ≡ Some x → outcome s O past p x.id ≡ Some o →
    is_seen s O past (Deliver p index q) q ≡ false

-- If the transfer has this outcome after the ask, the asker gets it in the reply and has it booked.
abbrev pub IsTold : HubSettings → Opening → List Step → ℕ → Command → ℕ → ℕ → List ℕ → Outcome →
    Type 0
IsTold s O past who command at from id o =
    let ask : AskValue = record { who = who; command = command; at = at } in
    outcome s O (Ask ask ∷ past) from id ≡ Some o →
    (answer s O past (Ask ask) ≡ Reply (State from id (Decided o)))
    × (booked from id (history s O (Ask ask ∷ past) who) ≡ Some o)

-- `IsTold` for a beneficiary that confirms or rejects a forwarded transfer, and for an originator
-- that investigates a taken one.
pub record EachPartyIsTold (s : HubSettings) (O : Opening) (past : List Step) (who at : ℕ)
    (o : Outcome) : Type 0 where
  pub confirmed : (from : ℕ) (id : List ℕ) → is_forwarded from id (history s O past who) ≡ true →
      IsTold s O past who (Confirm from id) at from id o
  pub rejected : (from : ℕ) (id reason : List ℕ) →
      is_forwarded from id (history s O past who) ≡ true →
      IsTold s O past who (Reject from id reason) at from id o
  pub investigated : (id : List ℕ) → is_taken id (history s O past who) ≡ true →
      IsTold s O past who (Investigate id) at who id o

-- The law: `EachPartyIsTold` after any steps.
abbrev pub AskingTells : Type 0
AskingTells =
    (s : HubSettings) (O : Opening) → IsOpening s O →
    (past : List Step) (who at : ℕ) (o : Outcome) →
    EachPartyIsTold s O past who at o
