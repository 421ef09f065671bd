-- Money is settled or released at most once.
use Rattle.std.proofs.Common.{◌≡◌, ◌≢◌, ℕ, List, Option, Some, None, refl, sym, ap, ◌∙◌, subst}
use Rattle.std.proofs.lemmas.Option.{same_Some}
use Rattle.inst_settings.specs.Settings.{HubSettings}
use Rattle.inst_command.specs.declared.outcome.Outcome.{Outcome}
use Rattle.inst_command.specs.declared.outcome.Outcome.TheVariants.{Accepted, Rejected, TimedOut}
use Rattle.inst_journal.specs.declared.event.Event.{Event}
use Rattle.inst_journal.specs.Booked.{booked, own_booked}
use Rattle.inst_journal.specs.Sums.{if_accepted, amount_unbooked}
use Rattle.inst_journal.specs.OneOfThree.{if_released, IsOneOf}
use Rattle.inst_journal.specs.Sound.{IsSound}
use Rattle.inst_journal.proofs.CountsOfEvents.{booked_once}
use Rattle.inst_journal.proofs.OwnBookings.{own_booked-booked}
use Rattle.inst_journal.proofs.PlacesOfTakenAmounts.{in_one_place}
use Rattle.inst_model.specs.Hub.{history}
use Rattle.inst_model.specs.Once.{IsSettledOnce, MoneyIsSettledOnce}
use Rattle.inst_model.proofs.HistoriesFitOneAnother.{histories_are_sound}

not_accepted : (o : Option Outcome) (cents : ℕ) → o ≢ Some Accepted → if_accepted o cents ≡ 0
not_accepted None cents other = refl
not_accepted (Some Accepted) cents other = absurd (other refl)
not_accepted (Some (Rejected reason)) cents other = refl
not_accepted (Some TimedOut) cents other = refl

-- a booked transfer isn't reserved any more
booked_unreserved : (o : Option Outcome) (x : Outcome) (cents : ℕ) → o ≡ Some x → amount_unbooked o cents ≡ 0
booked_unreserved o x cents e = ap (λ p. amount_unbooked p cents) e

settled_once : (s : HubSettings) (p : ℕ) (J : List Event) → IsSound s p J → IsSettledOnce p J
settled_once s p J sound = record {
  booked_once = booked_once s p J sound;
  one_place = λ id to cents stamp there.
      subst (λ (o : Option Outcome). IsOneOf cents (amount_unbooked (own_booked id J) cents) (if_accepted (own_booked id J) cents) (if_released o cents))
      (own_booked-booked s p J id sound) (in_one_place (own_booked id J) cents);
  reserved_until_booked = λ id to cents stamp there none.
      let own : own_booked id J ≡ None = own_booked-booked s p J id sound ∙ none in
      (ap (λ o. amount_unbooked o cents) own, ap (λ o. if_accepted o cents) own);
  debited_if_accepted = λ id to cents stamp there accepted.
      let own : own_booked id J ≡ Some Accepted = own_booked-booked s p J id sound ∙ accepted in
      (booked_unreserved (own_booked id J) Accepted cents own, ap (λ o. if_accepted o cents) own);
  free_otherwise = λ id to cents stamp o there is other.
      let own : own_booked id J ≡ Some o = own_booked-booked s p J id sound ∙ is in
      (booked_unreserved (own_booked id J) o cents own, not_accepted (own_booked id J) cents (λ accepted. other (same_Some o Accepted (sym own ∙ accepted))));
  credited = λ from id cents deadline there accepted. ap (λ o. if_accepted o cents) accepted;
  not_credited = λ from id cents deadline there other. not_accepted (booked from id J) cents other;
}

pub money_is_settled_once : MoneyIsSettledOnce
money_is_settled_once s O opened L steps p = settled_once s p (history s O L p) (histories_are_sound s O opened L steps p)
