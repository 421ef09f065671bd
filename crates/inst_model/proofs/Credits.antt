-- What is credited is what is accepted: each transfer by its beneficiary alone.
use Rattle.std.proofs.Common.{◌≡◌, ℕ, ◌<◌, Bool, true, false, cond, List, [], ◌∷◌, Option, Some, None, refl, sym, ap, subst, ◌∙◌, inl, inr, sum_by}
use Rattle.std.proofs.lemmas.Bool.{cases_Bool, eq-eqb, ne_eqb, ltb-true}
use Rattle.std.proofs.lemmas.Option.{same_Some}
use Rattle.inst_settings.specs.Settings.{HubSettings, participants}
use Rattle.inst_command.specs.declared.outcome.Outcome.{Outcome}
use Rattle.inst_command.specs.declared.outcome.Outcome.TheVariants.{Accepted, Rejected, TimedOut}
use Rattle.inst_journal.specs.declared.event.Event.{Event}
use Rattle.inst_journal.specs.declared.event.Event.TheVariants.{Funded, Defunded, Taken, Forwarded, Booked, Fetched, Opened}
use Rattle.inst_journal.specs.Booked.{is_forwarded, booked}
use Rattle.inst_journal.specs.Sound.{Fits, IsSound}
use Rattle.inst_journal.specs.Sums.{if_accepted, credit, credits}
use Rattle.inst_journal.proofs.Soundness.{sound_induction}
use Rattle.inst_model.specs.Transfer.{Transfer, transfers, transfer}
use Rattle.inst_model.specs.Untold.{sum_below, sum_over_participants}
use Rattle.inst_model.proofs.TextsTestsAndFirstThings.{Each, Each_push, Each_weaker}
use Rattle.inst_model.proofs.Sums.{sum_by_same}
use Rattle.inst_model.proofs.Transfers.{each_place_found, each_to_participant}
use Rattle.inst_model.proofs.Mirror.{Together, weighed, weighed_there}
use Rattle.inst_model.proofs.Totals.{sum_below_same, sum_below_zero, sum_below_one, sum_below_swap, sum_by_swap}
use Rattle.inst_model.proofs.HistoriesAgreeWithOutcomes.{Agree, accepted_in}

-- credits of the participant with history J, in the measure of forwarded transfers
abbrev credit_of : List Event → ℕ → List ℕ → ℕ → ℕ
credit_of J from id cents = if_accepted (booked from id J) cents

-- an originator that is a participant
abbrev IsFromParticipant : HubSettings → Event → Type 0
IsFromParticipant s (Forwarded from id cents d) = from < participants s
IsFromParticipant s (Funded funding) = Unit {0}
IsFromParticipant s (Defunded funding) = Unit {0}
IsFromParticipant s (Taken id to cents stamp) = Unit {0}
IsFromParticipant s (Booked from id o) = Unit {0}
IsFromParticipant s (Fetched count) = Unit {0}
IsFromParticipant s Opened = Unit {0}

from_new : (s : HubSettings) (who : ℕ) (J : List Event) (event : Event) → Fits s who J event → IsFromParticipant s event
from_new s who J (Forwarded from id cents d) fits = ltb-true from (participants s) fits.originator
from_new s who J (Funded funding) fits = tt
from_new s who J (Defunded funding) fits = tt
from_new s who J (Taken id to cents stamp) fits = tt
from_new s who J (Booked from id o) fits = tt
from_new s who J (Fetched count) fits = tt
from_new s who J Opened fits = tt

each_from : (s : HubSettings) (who : ℕ) (J : List Event) → IsSound s who J → Each (IsFromParticipant s) J
each_from s who = sound_induction s who (λ J. Each (IsFromParticipant s) J) tt
    (λ J event sound fits before. Each_push (IsFromParticipant s) J event before (from_new s who J event fits))

zeros : (n : ℕ) → sum_below n (λ k. 0) ≡ 0
zeros n = sum_below_zero n (λ k. 0) (λ k below. refl)

credit_split : (s : HubSettings) (J : List Event) (event : Event) → IsFromParticipant s event → credit J event ≡ sum_below (participants s) (λ from. weighed (credit_of J from) from event)
credit_split s J (Forwarded from id cents d) below =
    sym (sum_below_one (participants s) (λ k. weighed (credit_of J k) k (Forwarded from id cents d)) from below
    (λ k other. ap (λ b. cond b (credit_of J k id cents) 0) (ne_eqb from k (λ same. other (sym same))))
    ∙ ap (λ b. cond b (credit_of J from id cents) 0) (eq-eqb from from refl))
credit_split s J (Funded funding) below = sym (zeros (participants s))
credit_split s J (Defunded funding) below = sym (zeros (participants s))
credit_split s J (Taken id to cents stamp) below = sym (zeros (participants s))
credit_split s J (Booked from id o) below = sym (zeros (participants s))
credit_split s J (Fetched count) below = sym (zeros (participants s))
credit_split s J Opened below = sym (zeros (participants s))

-- credits by originator
credits_split : (s : HubSettings) (who : ℕ) (J : List Event) → IsSound s who J → credits J ≡ sum_below (participants s) (λ from. sum_by (weighed (credit_of J from) from) J)
credits_split s who J sound =
    sum_by_same (credit J) (λ event. sum_below (participants s) (λ from. weighed (credit_of J from) from event)) J
    (Each_weaker (IsFromParticipant s) (λ event. credit J event ≡ sum_below (participants s) (λ from. weighed (credit_of J from) from event)) J (credit_split s J) (each_from s who J sound))
    ∙ sym (sum_by_swap (participants s) (λ from event. weighed (credit_of J from) from event) J)

uncredited : (o : Option Outcome) (cents : ℕ) → if_accepted o cents ≡ 0 → (there : Bool) (b : Option Outcome) → ((x : Outcome) → b ≡ Some x → o ≡ Some x) → cond there (if_accepted b cents) 0 ≡ 0
uncredited o cents none true None same = refl
uncredited o cents none true (Some x) same = ap (λ p. if_accepted p cents) (sym (same x refl)) ∙ none
uncredited o cents none false b same = refl

credited_or_not : (there : Bool) (b o : Option Outcome) (cents : ℕ) → ((x : Outcome) → b ≡ Some x → o ≡ Some x) → (o ≡ Some Accepted → (b ≡ Some Accepted) × (there ≡ true)) → cond there (if_accepted b cents) 0 ≡ if_accepted o cents
credited_or_not there b None cents same both = uncredited None cents refl there b same
credited_or_not there b (Some Accepted) cents same both =
    let e : (b ≡ Some Accepted) × (there ≡ true) = both refl in
    ap (λ t. cond t (if_accepted b cents) 0) e.1 ∙ ap (λ q. if_accepted q cents) e.0
credited_or_not there b (Some (Rejected reason)) cents same both = uncredited (Some (Rejected reason)) cents refl there b same
credited_or_not there b (Some TimedOut) cents same both = uncredited (Some TimedOut) cents refl there b same

-- a transfer is credited by its beneficiary alone, exactly where it is accepted
credited_once : (s : HubSettings) (J : ℕ → List Event) (out : ℕ → List ℕ → Option Outcome) → Agree s J out → (from : ℕ) (x : Transfer) → transfer x.id (J from) ≡ Some x → x.to < participants s
    → sum_below (participants s) (λ q. weighed_there (credit_of (J q) from) from (J q) x) ≡ if_accepted (out from x.id) x.cents
credited_once s J out agree from x found below =
    sum_below_one (participants s) (λ q. weighed_there (credit_of (J q) from) from (J q) x) x.to below
    (λ q other. elim (cases_Bool (is_forwarded from x.id (J q))) [
      | inl there ↦
          let was = agree.all.taken q from x.id there in
          absurd (other (sym was.2 ∙ ap (λ (y : Transfer). y.to) (same_Some was.0 x (sym was.1 ∙ found))))
      | inr absent ↦ ap (λ b. cond b (credit_of (J q) from x.id x.cents) 0) absent
    ])
    ∙ credited_or_not (is_forwarded from x.id (J x.to)) (booked from x.id (J x.to)) (out from x.id) x.cents
    (λ o some. agree.booked_is x.to from x.id o some)
    (λ accepted.
    let was = agree.accepted_is_booked from x.id accepted in
    let same : was.0 ≡ x = same_Some was.0 x (sym was.1 ∙ found) in (
      subst (λ (y : Transfer). booked from x.id (J y.to) ≡ Some Accepted) same was.2,
      subst (λ (y : Transfer). is_forwarded from x.id (J y.to) ≡ true) same was.3,
    ))

both_each : (P Q : Transfer → Type 0) (xs : List Transfer) → Each P xs → Each Q xs → Each (λ x. P x × Q x) xs
both_each P Q [] p q = tt
both_each P Q (x ∷ xs) p q = ((p.0, q.0), both_each P Q xs p.1 q.1)

-- what the participants are credited, by originator and transfer
credits_by_transfer : (s : HubSettings) (J : ℕ → List Event) → Together s J → sum_over_participants s (λ q. credits (J q)) ≡ sum_below (participants s) (λ from. sum_below (participants s) (λ q. sum_by (weighed_there (credit_of (J q) from) from (J q)) (transfers (J from))))
credits_by_transfer s J t =
    let n : ℕ = participants s in
    sum_below_same n (λ q. credits (J q)) (λ q. sum_below n (λ from. sum_by (weighed_there (credit_of (J q) from) from (J q)) (transfers (J from))))
    (λ q below. credits_split s q (J q) (t.sound q)
    ∙ sum_below_same n (λ from. sum_by (weighed (credit_of (J q) from) from) (J q)) (λ from. sum_by (weighed_there (credit_of (J q) from) from (J q)) (transfers (J from)))
    (λ from under. t.mirror q from (credit_of (J q) from)))
    ∙ sum_below_swap n n (λ q from. sum_by (weighed_there (credit_of (J q) from) from (J q)) (transfers (J from)))

-- of one originator
credited_from : (s : HubSettings) (J : ℕ → List Event) (out : ℕ → List ℕ → Option Outcome) → Agree s J out → (from : ℕ) → sum_below (participants s) (λ q. sum_by (weighed_there (credit_of (J q) from) from (J q)) (transfers (J from))) ≡ accepted_in J out from
credited_from s J out agree from =
    let n : ℕ = participants s in
    sum_by_swap n (λ q x. weighed_there (credit_of (J q) from) from (J q) x) (transfers (J from))
    ∙ sum_by_same (λ x. sum_below n (λ q. weighed_there (credit_of (J q) from) from (J q) x)) (λ (x : Transfer). if_accepted (out from x.id) x.cents) (transfers (J from))
    (Each_weaker (λ (x : Transfer). (transfer x.id (J from) ≡ Some x) × (x.to < n)) (λ (x : Transfer). sum_below n (λ q. weighed_there (credit_of (J q) from) from (J q) x) ≡ if_accepted (out from x.id) x.cents) (transfers (J from))
    (λ x is. credited_once s J out agree from x is.0 is.1)
    (both_each (λ (x : Transfer). transfer x.id (J from) ≡ Some x) (λ (x : Transfer). x.to < n) (transfers (J from)) (each_place_found s from (J from) (agree.all.sound from)) (each_to_participant s from (J from) (agree.all.sound from))))

-- what is credited is what is accepted
pub credited_is_accepted : (s : HubSettings) (J : ℕ → List Event) (out : ℕ → List ℕ → Option Outcome) → Agree s J out → sum_over_participants s (λ q. credits (J q)) ≡ sum_over_participants s (accepted_in J out)
credited_is_accepted s J out agree =
    credits_by_transfer s J agree.all
    ∙ sum_below_same (participants s) (λ from. sum_below (participants s) (λ q. sum_by (weighed_there (credit_of (J q) from) from (J q)) (transfers (J from)))) (accepted_in J out)
    (λ from below. credited_from s J out agree from)
