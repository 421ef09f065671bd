-- Where each taken amount is, and what the position is as a signed sum.
use Rattle.std.proofs.Common.{◌≡◌, ◌≢◌, ◌∙◌, ap, ℕ, pos, ◌+ℤ◌, ◌-ℤ◌, ◌+◌, ◌-◌, ◌≤◌, List, [], ◌∷◌, sum_by, inl, inr, Option, Some, None, refl, arith}
use Rattle.std.proofs.lemmas.Int.{ints}
use Rattle.inst_settings.specs.Settings.{HubSettings}
use Rattle.inst_command.specs.declared.outcome.Outcome.{Outcome}
use Rattle.inst_command.specs.declared.outcome.Outcome.TheVariants.{Accepted, Rejected, TimedOut}
use Rattle.inst_journal.specs.declared.event.Event.{Event}
use Rattle.inst_journal.specs.declared.event.Event.TheVariants.{Funded, Defunded, Taken, Forwarded, Booked, Fetched, Opened}
use Rattle.inst_journal.specs.Booked.{booked, own_booked}
use Rattle.inst_journal.specs.Sums.{funded, defunded, credits, debits, debit, reservation, if_accepted, amount_unbooked}
use Rattle.inst_journal.specs.Money.{reserved, position}
use Rattle.inst_journal.specs.Laws.{taking, release, released, IsInOnePlace, IsPlaced, IsWhereItIsBooked}
use Rattle.inst_journal.specs.Covered.{IsNeverOverdrawn}
use Rattle.inst_journal.specs.OneOfThree.{if_released, IsOneOf}
use Rattle.inst_journal.specs.Sound.{IsSound}
use Rattle.inst_journal.proofs.PaidAndReservedIsCovered.{covered}
use Rattle.inst_journal.proofs.OwnBookings.{own_booked-booked}
use Rattle.inst_journal.proofs.OneMoreElement.{sum_by-both}
use Rattle.std.proofs.lemmas.List.Sums.{sum_by-cons}

pub in_one_place : (o : Option Outcome) (cents : ℕ) → IsOneOf cents (amount_unbooked o cents) (if_accepted o cents) (if_released o cents)
in_one_place None cents = record { one = inl refl; only = omega arith }
in_one_place (Some Accepted) cents = record { one = inr (inl refl); only = omega arith }
in_one_place (Some (Rejected reason)) cents = record { one = inr (inr refl); only = omega arith }
in_one_place (Some TimedOut) cents = record { one = inr (inr refl); only = omega arith }

signed : (f d c b r : ℕ) → d + b + r ≤ f + c → pos (f + c - (d + b)) ≡ (((pos f -ℤ pos d) +ℤ pos c) -ℤ pos b)
signed f d c b r h = omega (arith, ints)

signed_less : (p r : ℕ) → r ≤ p → pos (p - r) ≡ (pos p -ℤ pos r)
signed_less p r h = omega (arith, ints)

pub never_overdrawn : (s : HubSettings) (who : ℕ) (J : List Event) → IsSound s who J → IsNeverOverdrawn J
never_overdrawn s who J sound =
    let within : defunded J + debits J + reserved J ≤ funded J + credits J = covered s who J sound in
    record {
      covered = within;
      position_is = signed (funded J) (defunded J) (credits J) (debits J) (reserved J) within;
      available_is = signed_less (position J) (reserved J) (omega (arith, within));
    }

places_of : (J : List Event) (event : Event) → reservation J event + debit J event + release J event ≡ taking event
places_of J (Taken id to cents stamp) = (in_one_place (own_booked id J) cents).only
places_of J (Funded funding) = refl
places_of J (Defunded funding) = refl
places_of J (Forwarded from id cents deadline) = refl
places_of J (Booked from id outcome) = refl
places_of J (Fetched count) = refl
places_of J Opened = refl

-- sums of the same
pub sum_same : (f g : Event → ℕ) (xs : List Event) → ((x : Event) → f x ≡ g x) → sum_by f xs ≡ sum_by g xs
sum_same f g [] same = refl
sum_same f g (x ∷ xs) same = omega (arith, sum_by-cons f x xs, sum_by-cons g x xs, same x, sum_same f g xs same)

-- all that was taken is in one place
pub all_in_one_place : (J : List Event) → IsInOnePlace J
all_in_one_place J = record {
  each = λ id to cents stamp. in_one_place (own_booked id J) cents;
  all =
      let first : sum_by (λ e. reservation J e + debit J e) J ≡ reserved J + debits J = sum_by-both (reservation J) (debit J) J in
      let second : sum_by (λ e. reservation J e + debit J e + release J e) J ≡ sum_by (λ e. reservation J e + debit J e) J + released J = sum_by-both (λ e. reservation J e + debit J e) (release J) J in
      let whole : sum_by (λ e. reservation J e + debit J e + release J e) J ≡ sum_by taking J = sum_same _ _ J (places_of J) in
      omega (arith, first, second, whole);
}

placed : (J : List Event) (id : List ℕ) (to cents stamp : ℕ) (o : Option Outcome) → own_booked id J ≡ o → IsPlaced J (Taken id to cents stamp) (amount_unbooked o cents) (if_accepted o cents)
placed J id to cents stamp o e = record {
  reservation_is = ap (λ b. amount_unbooked b cents) e;
  debit_is = ap (λ b. if_accepted b cents) e;
}

placed_nowhere : (J : List Event) (id : List ℕ) (to cents stamp : ℕ) (outcome : Outcome) → own_booked id J ≡ Some outcome → outcome ≢ Accepted → IsPlaced J (Taken id to cents stamp) 0 0
placed_nowhere J id to cents stamp Accepted e other = absurd (other refl)
placed_nowhere J id to cents stamp (Rejected reason) e other = placed J id to cents stamp (Some (Rejected reason)) e
placed_nowhere J id to cents stamp TimedOut e other = placed J id to cents stamp (Some TimedOut) e

-- a taken amount is where its booking puts it
pub where_it_is_booked : (s : HubSettings) (who : ℕ) (J : List Event) → IsSound s who J → (id : List ℕ) (to cents stamp : ℕ) → IsWhereItIsBooked who J id to cents stamp
where_it_is_booked s who J sound id to cents stamp =
    let own : own_booked id J ≡ booked who id J = own_booked-booked s who J id sound in
    record {
      unbooked = λ e. placed J id to cents stamp None (own ∙ e);
      accepted = λ e. placed J id to cents stamp (Some Accepted) (own ∙ e);
      others = λ outcome e other. placed_nowhere J id to cents stamp outcome (own ∙ e) other;
    }
