-- A participant serves an ask: its history grows, and the ticket is that of the reply.
use Rattle.std.proofs.Common.{◌≡◌, ℕ, List, [], ◌∷◌, ◌++◌, append-nil, ⊎_elim, sym, ap, ◌∙◌, subst, Option, Some, None}
use Rattle.std.specs.Prelude.{Bool, true, false, ◌&&◌, Result}
use mathlib.Core.List.{IsPrefix}
use Rattle.inst_base.specs.declared.fault.Fault.{Fault}
use Rattle.inst_settings.specs.Settings.{HubSettings, is_participant}
use Rattle.inst_command.specs.declared.ask.Ask.{Ask}
use Rattle.inst_command.specs.Ask.{ask_fits, command_fits}
use Rattle.inst_command.specs.declared.outcome.Outcome.{Outcome}
use Rattle.inst_command.specs.declared.reply.Reply.{Reply}
use Rattle.inst_command.specs.declared.place.Place.{Place}
use Rattle.inst_board.specs.declared.wish.Wish.{Wish}
use Rattle.inst_board.specs.declared.about.Fact.{Fact}
use Rattle.inst_journal.specs.declared.event.Event.{Event}
use Rattle.inst_journal.specs.Sound.{IsSound}
use Rattle.inst_journal.proofs.KeptEventsFit.{history_after_sound}
use Rattle.inst_journal.specs.Reply.{handle, reply_result as told_of, kept_events}
use Rattle.inst_model.specs.Trace.{as_reply}
use Rattle.inst_model.specs.TransferTold.{TransferTold, transfer_told, tells_taken, tells_state, tells_nothing}
use Rattle.inst_cell.specs.declared.sight.Sight.{Sight}
use Rattle.inst_cell.specs.Held.{settings_of, knows, has_role}
use Rattle.inst_cell.specs.Seen.{sight_knows}
use Rattle.inst_slot.specs.Book.{Book, place_of}
use Rattle.inst_slot.specs.Asking.{request, handle_ask, Applies, AppliesTo}
use Rattle.inst_participant.specs.declared.participant.Participant.{Participant}
use Rattle.inst_participant.specs.Serving.{MayServe, StaysReady}
use Rattle.inst_participant.specs.Answers.{Answered, IsTicket, IsTicketOf}
use Rattle.inst_participant.specs.inner.Telling.{IsToldBy, IsToldFor}
use Rattle.inst_participant.specs.Told.{IsToldMore}
use Rattle.inst_participant.proofs.TicketOfReply.{IsReplied, ticket_taken, ticket_state}

prefix_still : (J K : List Event) → K ≡ J → IsPrefix J K
prefix_still J K e = ([], append-nil J ∙ sym e)

prefix_more : (J K L : List Event) → K ≡ J ++ L → IsPrefix J K
prefix_more J K L e = (L, sym e)

-- an ask keeps the history and adds to it
pub grows : {B : Type 0} (margin : ℕ) (known : B → Fact → Type 0) (role : B → ℕ → Type 0) (stood : B → Place → Outcome → Type 0) (stays : B → B → Type 0)
    (b c : B) (book : Book) (ask : Ask) (result : Result Reply Fault) (new : Book)
    → Applies margin known role stood stays b book ask result c new → IsPrefix book.events new.events
grows {B} margin known role stood stays b c book ask result new applies = go (request book ask.command) applies
  where
    go : (asked : Option (Place × Wish)) → AppliesTo margin known role stood stays b book ask asked result c new → IsPrefix book.events new.events
    go None e = ⊎_elim
        (λ answered. prefix_more book.events new.events (kept_events (handle_ask book ask None)) (ap (λ (x : Book). x.events) answered.1))
        (λ refused. prefix_still book.events new.events (ap (λ (x : Book). x.events) refused.1)) e
    go (Some asked) e = ⊎_elim
        (λ settled. prefix_more book.events new.events (kept_events (handle_ask book ask settled.0)) (ap (λ (x : Book). x.events) settled.2))
        (λ refused. prefix_still book.events new.events (ap (λ (x : Book). x.events) refused.1)) e

second_holds : (a b : Bool) → (a && b) ≡ true → b ≡ true
second_holds true b both = both
second_holds false b both = absurd (cc)

-- a sound history stays sound with what an answer keeps
still_sound : (s : HubSettings) (who : ℕ) (J K : List Event) (ask : Ask) (reply : Reply) → IsSound s who J → ask_fits s ask ≡ true → Answered s who J ask reply K → IsSound s who K
still_sound s who J K ask reply sound fits answered = subst (λ (L : List Event). IsSound s who L) (sym answered.kept)
    (history_after_sound s who J ask.command ask.at answered.found sound (second_holds (is_participant s ask.who) (command_fits s ask.command) fits))

-- the ticket of a reply, where the participant x answered, and y told the teller
pub its_ticket : (x y : Participant) (u : Sight) (ask : Ask) (reply : Reply) (ticket : Option Place)
    → MayServe x ask → StaysReady x y
    → Answered x.slot.settings x.slot.who x.slot.events ask reply y.slot.events
    → IsToldBy y ask.who reply u ticket → IsTicket (sight_knows u) x.slot.settings x.slot.who ask.command y.slot.events reply ticket
its_ticket x y u ask reply ticket may stays answered told = go (transfer_told reply) told replied
  where
    replied : IsReplied x.slot.settings x.slot.events ask.command ask.at answered.found (transfer_told reply) y.slot
    replied = record {
      settings_are = stays.later.settings;
      told_is = ap transfer_told (subst (λ (n : ℕ). reply ≡ as_reply (told_of (handle x.slot.settings n x.slot.events ask.command ask.at answered.found))) (sym stays.later.who) answered.reply_is);
      kept = subst (λ (n : ℕ). y.slot.events ≡ x.slot.events ++ kept_events (handle x.slot.settings n x.slot.events ask.command ask.at answered.found)) (sym stays.later.who) answered.kept;
      sound = subst (λ (n : ℕ). IsSound x.slot.settings n y.slot.events) (sym stays.later.who)
          (still_sound x.slot.settings x.slot.who x.slot.events y.slot.events ask reply stays.sound may.fits answered);
    }

    mine : ask.who ≡ y.slot.who
    mine = may.own ∙ sym stays.later.who

    go : (told : TransferTold) → IsToldFor y ask.who told u ticket → IsReplied x.slot.settings x.slot.events ask.command ask.at answered.found told y.slot → IsTicketOf (sight_knows u) x.slot.settings x.slot.who ask.command y.slot.events told ticket
    go (tells_taken id deadline) t rep = subst (λ (n : ℕ). IsTicketOf (sight_knows u) x.slot.settings n ask.command y.slot.events (tells_taken id deadline) ticket) stays.later.who
        (ticket_taken settings_of knows has_role y.board y.slot x.slot.settings x.slot.events ask.command ask.at answered.found id deadline ticket (sight_knows u) stays.ready.lawful stays.ready.adopted rep
        (t.0 ∙ ap (λ (n : ℕ). place_of y.slot n id) mine) t.1)
    go (tells_state from id state) t rep = subst (λ (n : ℕ). IsTicketOf (sight_knows u) x.slot.settings n ask.command y.slot.events (tells_state from id state) ticket) stays.later.who
        (ticket_state settings_of knows has_role y.board y.slot x.slot.settings x.slot.events ask.command ask.at answered.found from id state ticket (sight_knows u) stays.ready.lawful stays.ready.adopted rep t.0 t.1)
    go tells_nothing t rep = t

-- a history that is told one event more, if any, grows
pub told_grows : (J K : List Event) → IsToldMore J K → IsPrefix J K
told_grows J K told = ⊎_elim (λ same. prefix_still J K same) (λ more. prefix_more J K (more.0 ∷ []) more.2) told
