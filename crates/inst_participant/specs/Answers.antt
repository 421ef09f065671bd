-- The answer to an ask in a hub on many threads: the model's reply on the participant's history for
-- what the ask finds, with a ticket for the transfer that the reply concerns. Tickets are a choice
-- of this hub.
use Rattle.std.specs.Prelude.{◌≡◌, ◌≢◌, ℕ, true, false, List, ◌++◌, Option, Some, None, Contains}
use Rattle.inst_base.specs.TimeLimit.{deadline_of}
use Rattle.inst_settings.specs.Settings.{HubSettings}
use Rattle.inst_command.specs.declared.ask.Ask.{Ask}
use Rattle.inst_command.specs.declared.command.Command.{Command}
use Rattle.inst_command.specs.declared.command.Command.TheVariants.{Submit, Confirm, Reject}
use Rattle.inst_command.specs.declared.command.Command.TheVariants.{Investigate}
use Rattle.inst_command.specs.declared.outcome.Outcome.{Outcome}
use Rattle.inst_command.specs.declared.outcome.State.{State as StateValue}
use Rattle.inst_command.specs.declared.outcome.State.TheVariants.{Decided as IsDecided}
use Rattle.inst_command.specs.declared.reply.Reply.{Reply}
use Rattle.inst_terms.specs.declared.terms.Terms.{Terms}
use Rattle.inst_command.specs.declared.place.Place.{Place}
use Rattle.inst_board.specs.declared.wish.Wish.{Wish}
use Rattle.inst_board.specs.declared.wish.Wish.TheVariants.{Accept, Reject as WishReject, Expire}
use Rattle.inst_board.specs.declared.about.About.TheVariants.{Opened, HasTerms, Due, Decided}
use Rattle.inst_board.specs.declared.about.Fact.{Fact}
use Rattle.inst_board.specs.Standing.{about}
use Rattle.inst_board.specs.Learning.{IsAnswer}
use Rattle.inst_board.specs.Wish.{wanted}
use Rattle.inst_journal.specs.declared.event.Event.{Event}
use Rattle.inst_journal.specs.declared.event.Event.TheVariants.{Taken, Forwarded}
use Rattle.inst_journal.specs.Booked.{booked}
use Rattle.inst_journal.specs.Opened.{is_live}
use Rattle.inst_journal.specs.Reply.{handle, reply_result, kept_events}
use Rattle.inst_model.specs.Trace.{as_reply}
use Rattle.inst_model.specs.TransferTold.{TransferTold, transfer_told, tells_taken, tells_state}
use Rattle.inst_model.specs.TransferTold.{tells_nothing}
use Rattle.inst_slot.specs.Book.{terms_to}

-- The command decides a transfer with this deadline, of which the history has no outcome booked: it
-- confirms or rejects a forwarded one, or investigates one of the asker's own.
abbrev pub DecidesUntil : HubSettings → ℕ → List Event → Command → Wish → ℕ → Type 0
DecidesUntil s who J (Confirm from id) wish deadline = (wish ≡ Accept) × (booked from id J ≡ None)
    × ((cents : ℕ) × Contains J (Forwarded from id cents deadline))
DecidesUntil s who J (Reject from id reason) wish deadline =
    (wish ≡ WishReject reason) × (booked from id J ≡ None)
    × ((cents : ℕ) × Contains J (Forwarded from id cents deadline))
DecidesUntil s who J (Investigate id) wish deadline = (wish ≡ Expire) × (booked who id J ≡ None)
    × ((to : ℕ) × (cents : ℕ) × (stamp : ℕ) × Contains J (Taken id to cents stamp)
    × (deadline ≡ deadline_of s.limit stamp))
DecidesUntil s who J _ wish deadline = ⊥

-- On the history J the ask of `who` gets this reply, and the history is then K.
-- - found: the outcome that the ask finds, if any.
-- - reply_is, kept: the reply and the stored event are the model's, and nothing else is stored.
-- - none: it finds nothing only if its wish leaves the transfer pending.
-- - own: a confirmation or rejection finds an acceptance or rejection only if it wants that at its
-- clock reading.
-- - other: an ask that decides no transfer finds nothing.
pub record Answered (s : HubSettings) (who : ℕ) (J : List Event) (ask : Ask) (reply : Reply)
    (K : List Event) : Type 0 where
  pub found : Option Outcome
  pub reply_is : reply ≡ as_reply (reply_result (handle s who J ask.command ask.at found))
  pub kept : K ≡ J ++ kept_events (handle s who J ask.command ask.at found)
  pub none : (wish : Wish) (deadline : ℕ) → DecidesUntil s who J ask.command wish deadline →
      found ≡ None →
      wanted s.margin wish deadline ask.at ≡ None
  pub own : (wish : Wish) (deadline : ℕ) → DecidesUntil s who J ask.command wish deadline →
      wish ≢ Expire → (o : Outcome) →
      IsAnswer o → found ≡ Some o → wanted s.margin wish deadline ask.at ≡ Some o
  pub other : ((wish : Wish) (deadline : ℕ) → ¬ DecidesUntil s who J ask.command wish deadline) →
      found ≡ None

-- The place is known to be opened as the command submits it.
abbrev pub IsSubmitted : (Fact → Type 0) → HubSettings → Command → Place → Type 0
IsSubmitted sees s (Submit x) k =
    sees (about k Opened) × sees (about k (HasTerms (terms_to x.to x.cents x.id)))
    × sees (about k (Due (deadline_of s.limit x.stamp)))
IsSubmitted sees s _ k = ⊥

-- The place is known to be opened with terms of this identifier. If the state has an outcome, it is
-- known.
pub record IsInState (sees : Fact →
    Type 0) (id : List ℕ) (state : StateValue) (k : Place) : Type 0 where
  pub terms : Terms
  pub id_is : terms.id ≡ id
  pub opened : sees (about k Opened)
  pub has_terms : sees (about k (HasTerms terms))
  pub outcome : (o : Outcome) → state ≡ IsDecided o → sees (about k (Decided o))

-- The ticket of what a reply says of a transfer, if the history is then K: it names the place of
-- that transfer, and there is none exactly if the transfer isn't live.
abbrev pub IsTicketOf : (Fact → Type 0) → HubSettings → ℕ → Command → List Event → TransferTold →
    Option Place → Type 0
IsTicketOf sees s who command K (tells_taken id deadline) (Some k) =
    (k.owner ≡ who) × (is_live who id K ≡ true)
    × IsSubmitted sees s command k
IsTicketOf sees s who command K (tells_taken id deadline) None = is_live who id K ≡ false
IsTicketOf sees s who command K (tells_state from id state) (Some k) =
    (k.owner ≡ from) × (is_live from id K ≡ true)
    × IsInState sees id state k
IsTicketOf sees s who command K (tells_state from id state) None = is_live from id K ≡ false
IsTicketOf sees s who command K tells_nothing ticket = ticket ≡ None

-- The ticket of a reply.
abbrev pub IsTicket : (Fact → Type 0) → HubSettings → ℕ → Command → List Event → Reply →
    Option Place → Type 0
IsTicket sees s who command K reply ticket =
    IsTicketOf sees s who command K (transfer_told reply) ticket
