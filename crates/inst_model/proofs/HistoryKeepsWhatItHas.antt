-- What a history has stays in it, and a booking is found.
use Rattle.std.proofs.Common.{◌≡◌, ℕ, true, List, [], ◌∷◌, ◌++◌, Option, Some, None, refl, ap, ◌∙◌}
use Rattle.std.proofs.lemmas.Bool.{cond-true, or_left}
use Rattle.inst_command.specs.declared.outcome.Outcome.{Outcome}
use Rattle.inst_journal.specs.declared.event.Event.{Event}
use Rattle.inst_journal.specs.declared.event.Event.TheVariants.{Booked}
use Rattle.inst_journal.specs.Booked.{or_else, is_forwarded, forwards, books, booked, same_transfer}
use Rattle.inst_journal.proofs.OneMoreElement.{list_any_push, first_some_push}
use Rattle.inst_model.proofs.TextsTestsAndFirstThings.{or_else_kept, same_transfer_refl}

pub booked_kept : (from : ℕ) (id : List ℕ) (o : Outcome) (K : List Event) (event : Event) → booked from id K ≡ Some o → booked from id (K ++ event ∷ []) ≡ Some o
booked_kept from id o K event e = first_some_push (books from id) K event ∙ or_else_kept (booked from id K) (books from id event) o e

pub forwarded_kept : (from : ℕ) (id : List ℕ) (K : List Event) (event : Event) → is_forwarded from id K ≡ true → is_forwarded from id (K ++ event ∷ []) ≡ true
forwarded_kept from id K event e = list_any_push (forwards from id) K event ∙ or_left (is_forwarded from id K) (forwards from id event) e

pub booked_new : (from : ℕ) (id : List ℕ) (o : Outcome) (K : List Event) → booked from id K ≡ None → booked from id (K ++ Booked from id o ∷ []) ≡ Some o
booked_new from id o K none =
    first_some_push (books from id) K (Booked from id o) ∙ ap (λ b. or_else b (books from id (Booked from id o))) none
    ∙ cond-true (same_transfer from id from id) (Some o) None (same_transfer_refl from id)

pub is_none_of : (o : Option Outcome) → ((x : Outcome) → o ≡ Some x → ⊥) → o ≡ None
is_none_of None never = refl
is_none_of (Some x) never = absurd (never x refl)
