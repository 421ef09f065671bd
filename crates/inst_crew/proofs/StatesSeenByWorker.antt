-- What a worker sees, and goes on knowing.
use Rattle.std.proofs.Common.{◌≡◌, ℕ, zero, suc, List, [], ◌∷◌, ◌++◌, Some, subst}
use Rattle.std.specs.Prelude.{Option, slice_get}
use Rattle.inst_command.specs.declared.outcome.State.{State as StateValue}
use Rattle.inst_command.specs.declared.reply.Reply.{Reply}
use Rattle.inst_board.specs.declared.about.About.TheVariants.{Opened, Decided}
use Rattle.inst_command.specs.declared.place.Place.{Place}
use Rattle.inst_board.specs.Standing.{about}
use Rattle.inst_command.specs.declared.ask.Ask.{Ask}
use Rattle.inst_hub.specs.declared.hub.Hub.{Hub}
use Rattle.inst_hub.specs.declared.teller.Teller.{Teller}
use Rattle.inst_participant.specs.Answers.{IsTicket}
use Rattle.inst_participant.proofs.PlaceOfTicketIsOpened.{ticket_opened}
use Rattle.inst_hub.specs.Calls.{TellerKnowsMore, Calls, knows_of}
use Rattle.inst_crew.specs.Seen.{IsOutcomeSeen}
use Rattle.inst_crew.specs.inner.Seen.{AreSeen}

pub seen_more : (t u : Teller) (pair : Place × StateValue) → TellerKnowsMore t u → IsOutcomeSeen t pair → IsOutcomeSeen u pair
seen_more t u pair more seen = record {
  opened = more.facts (about pair.0 Opened) seen.opened;
  used = seen.used;
  outcome = λ o e. more.facts (about pair.0 (Decided o)) (seen.outcome o e);
}

pub all_seen_more : (t u : Teller) (states : List (Place × StateValue)) → TellerKnowsMore t u → AreSeen t states → AreSeen u states
all_seen_more t u states more seen i pair at = seen_more t u pair more (seen i pair at)

at_end : (states : List (Place × StateValue)) (x y : Place × StateValue) (i : ℕ) (P : Place × StateValue → Type 0) → P x → ((j : ℕ) (z : Place × StateValue) → slice_get states j ≡ Some z → P z) → slice_get (states ++ x ∷ []) i ≡ Some y → P y
at_end [] x y zero P new old e = let is : x ≡ y = cc in subst P is new
at_end [] x y (suc i) P new old e = let no : ⊥ = cc in absurd no
at_end (z ∷ zs) x y zero P new old e = old 0 y e
at_end (z ∷ zs) x y (suc i) P new old e = at_end zs x y i P new (λ j w f. old (suc j) w f) e

pub one_more_seen : (u : Teller) (states : List (Place × StateValue)) (x : Place × StateValue) → AreSeen u states → IsOutcomeSeen u x → AreSeen u (states ++ x ∷ [])
one_more_seen u states x seen new i y at = at_end states x y i (IsOutcomeSeen u) new seen at

-- after a call the ticket's place is known opened
pub call_opened : (h : Hub) (t : Teller) (ask : Ask) (answer : Reply × Option Place) (u : Teller) (k : Place) → Calls h t ask answer u → answer.1 ≡ Some k → knows_of u (about k Opened)
call_opened h t ask answer u k call e = ticket_opened (knows_of u) h.settings ask.who ask.command call.1.left.slot.events answer.0 k
    (subst (λ (o : Option Place). IsTicket (knows_of u) h.settings ask.who ask.command call.1.left.slot.events answer.0 o) e call.1.ticket)
