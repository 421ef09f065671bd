-- A call of a slot leaves whose its books are, and of which hub; what had a place still has one.
use Rattle.std.proofs.Common.{◌≡◌, ℕ, Bool, List, ⊎_elim, refl, sym, subst, Option, Some, None}
use Rattle.std.specs.Prelude.{Result}
use Rattle.std.specs.declared.alloc.AllocError.{AllocError}
use Rattle.inst_base.specs.declared.fault.Fault.{Fault}
use Rattle.inst_command.specs.declared.ask.Ask.{Ask}
use Rattle.inst_command.specs.declared.outcome.Outcome.{Outcome}
use Rattle.inst_command.specs.declared.place.Place.{Place}
use Rattle.inst_command.specs.declared.reply.Reply.{Reply}
use Rattle.inst_board.specs.declared.about.Fact.{Fact}
use Rattle.inst_board.specs.declared.wish.Wish.{Wish}
use Rattle.inst_journal.specs.declared.event.Event.{Event}
use Rattle.inst_slot.specs.Asking.{Enters, Settles}
use Rattle.inst_slot.specs.Book.{Book}
use Rattle.inst_slot.specs.LawfulBoard.{AllAreAdopted}
use Rattle.inst_slot.specs.Telling.{with_event, ExpiresFor}

pub record IsSameSlot (old new : Book) : Type 0 where
  pub same : (new.settings ≡ old.settings) × (new.who ≡ old.who)
  pub adopted : AllAreAdopted old → AllAreAdopted new

pub still_same : (book : Book) → IsSameSlot book book
still_same book = record { same = (refl, refl); adopted = λ all. all }

with_events_same : (book : Book) (J : List Event) → IsSameSlot book (record book { events = J })
with_events_same book J = record { same = (refl, refl); adopted = λ all. all }

pub with_event_same : (book : Book) (event : Option Event) → IsSameSlot book (with_event book event)
with_event_same book None = still_same book
with_event_same book (Some event) = record { same = (refl, refl); adopted = λ all. all }

pub same_slot : (old x new : Book) → new ≡ x → IsSameSlot old x → IsSameSlot old new
same_slot old x new e same = subst (IsSameSlot old) (sym e) same

module _ {B : Type 0} (margin : ℕ) (knows : B → Fact → Type 0) (has_role : B → ℕ → Type 0) (stood : B → Place → Outcome → Type 0) (stays : B → B → Type 0) (b c : B) (book new : Book) where
  pub settles_same : (ask : Ask) (k : Place) (wish : Wish) (result : Result Reply Fault) → Settles margin knows has_role stood stays b book ask k wish result c new → IsSameSlot book new
  settles_same ask k wish result e = ⊎_elim
      (λ settled. same_slot book _ new settled.2 (with_events_same book _))
      (λ refused. same_slot book book new refused.1 (still_same book))
      e

  pub enters_same : (ask : Ask) (result : Result Reply Fault) → Enters margin knows b book ask result c new → IsSameSlot book new
  enters_same ask result e = ⊎_elim
      (λ answered. same_slot book _ new answered.1 (with_events_same book _))
      (λ refused. same_slot book book new refused.1 (still_same book))
      e

  pub expires_same : (index at : ℕ) (unbooked : Option (List ℕ)) (result : Result Bool AllocError) → ExpiresFor margin knows has_role stood stays b book index at unbooked result c new → IsSameSlot book new
  expires_same index at None result e = same_slot book book new e.1 (still_same book)
  expires_same index at (Some id) result e = ⊎_elim
      (λ expired. same_slot book _ new expired.2 (with_event_same book _))
      (λ refused. same_slot book book new refused.1 (still_same book))
      e
