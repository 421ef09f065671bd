-- Histories that agree with outcomes: what is accepted is debited or untold, and what is untold is reserved.
use Rattle.std.proofs.Common.{◌≡◌, ℕ, ◌+◌, ◌≤◌, true, List, Option, Some, None, is_some, refl, sym, ap, ◌∙◌, arith, sum_by}
use Rattle.std.proofs.lemmas.Bool.{false≢true}
use Rattle.inst_settings.specs.Settings.{HubSettings}
use Rattle.inst_command.specs.declared.outcome.Outcome.{Outcome}
use Rattle.inst_command.specs.declared.outcome.Outcome.TheVariants.{Accepted, Rejected, TimedOut}
use Rattle.inst_journal.specs.declared.event.Event.{Event}
use Rattle.inst_journal.specs.Booked.{is_forwarded, booked}
use Rattle.inst_journal.specs.Money.{reserved}
use Rattle.inst_journal.specs.Sound.{IsSound}
use Rattle.inst_journal.specs.Sums.{if_accepted, amount_unbooked, debits}
use Rattle.inst_journal.proofs.OneMoreElement.{sum_by-both}
use Rattle.inst_model.specs.Transfer.{Transfer, transfers, transfer}
use Rattle.inst_model.specs.Untold.{if_untold}
use Rattle.inst_model.proofs.Sums.{sum_by_same, sum_by_zeros, sum_by_le, each_of}
use Rattle.inst_model.proofs.Mirror.{Together}
use Rattle.inst_model.proofs.SumsByTransfer.{debits_by_transfer, reserved_by_transfer}

-- all histories together, with outcomes that each side books, and each beneficiary where it is accepted
pub record Agree (s : HubSettings) (J : ℕ → List Event) (out : ℕ → List ℕ → Option Outcome) : Type 0 where
  pub all : Together s J
  pub booked_is : (q from : ℕ) (id : List ℕ) (o : Outcome) → booked from id (J q) ≡ Some o → out from id ≡ Some o
  pub accepted_is_booked : (from : ℕ) (id : List ℕ) → out from id ≡ Some Accepted →
      (x : Transfer) × (transfer id (J from) ≡ Some x) × (booked from id (J x.to) ≡ Some Accepted) × (is_forwarded from id (J x.to) ≡ true)

-- what the originator p has had accepted
abbrev pub accepted_in : (ℕ → List Event) → (ℕ → List ℕ → Option Outcome) → ℕ → ℕ
accepted_in J out p = sum_by (λ (x : Transfer). if_accepted (out p x.id) x.cents) (transfers (J p))

-- what it hasn't booked of that
abbrev pub untold_in : (ℕ → List Event) → (ℕ → List ℕ → Option Outcome) → ℕ → ℕ
untold_in J out p = sum_by (λ (x : Transfer). if_untold (out p x.id) (booked p x.id (J p)) x.cents) (transfers (J p))

told_or_untold : (o b : Option Outcome) (cents : ℕ) → ((x : Outcome) → b ≡ Some x → o ≡ Some x) → if_accepted o cents ≡ if_accepted b cents + if_untold o b cents
told_or_untold o None cents same = omega arith
told_or_untold o (Some x) cents same = rw (same x refl) (omega arith)

-- what is accepted is debited or untold
pub accepted_is : (s : HubSettings) (J : ℕ → List Event) (out : ℕ → List ℕ → Option Outcome) → Agree s J out → (p : ℕ) → accepted_in J out p ≡ debits (J p) + untold_in J out p
accepted_is s J out agree p =
    let f : Transfer → ℕ = λ x. if_accepted (booked p x.id (J p)) x.cents in
    let g : Transfer → ℕ = λ x. if_untold (out p x.id) (booked p x.id (J p)) x.cents in
    sum_by_same _ (λ x. f x + g x) (transfers (J p))
    (each_of (λ (x : Transfer). if_accepted (out p x.id) x.cents ≡ f x + g x) (transfers (J p)) (λ x. told_or_untold (out p x.id) (booked p x.id (J p)) x.cents (λ o some. agree.booked_is p p x.id o some)))
    ∙ sum_by-both f g (transfers (J p)) ∙ ap (λ n. n + sum_by g (transfers (J p))) (sym (debits_by_transfer s p (J p) (agree.all.sound p)))

untold_le : (o b : Option Outcome) (cents : ℕ) → if_untold o b cents ≤ amount_unbooked b cents
untold_le None None cents = omega arith
untold_le (Some Accepted) None cents = omega arith
untold_le (Some (Rejected reason)) None cents = omega arith
untold_le (Some TimedOut) None cents = omega arith
untold_le o (Some x) cents = omega arith

pub untold_reserved : (s : HubSettings) (J : ℕ → List Event) (out : ℕ → List ℕ → Option Outcome) (p : ℕ) → IsSound s p (J p) → untold_in J out p ≤ reserved (J p)
untold_reserved s J out p sound =
    let g : Transfer → ℕ = λ x. if_untold (out p x.id) (booked p x.id (J p)) x.cents in
    let h : Transfer → ℕ = λ x. amount_unbooked (booked p x.id (J p)) x.cents in
    let le : sum_by g (transfers (J p)) ≤ sum_by h (transfers (J p)) = sum_by_le g h (transfers (J p)) (each_of (λ (x : Transfer). g x ≤ h x) (transfers (J p)) (λ x. untold_le (out p x.id) (booked p x.id (J p)) x.cents)) in
    omega (arith, le, reserved_by_transfer s p (J p) sound)

untold_none : (o b : Option Outcome) (cents : ℕ) → ((x : Outcome) → o ≡ Some x → is_some b ≡ true) → if_untold o b cents ≡ 0
untold_none None None cents told = refl
untold_none (Some x) None cents told = absurd (false≢true (told x refl))
untold_none None (Some b) cents told = refl
untold_none (Some x) (Some b) cents told = refl

-- where the originator has booked what is decided, nothing is untold
pub nothing_untold : (J : ℕ → List Event) (out : ℕ → List ℕ → Option Outcome) (p : ℕ) → ((id : List ℕ) (o : Outcome) → out p id ≡ Some o → is_some (booked p id (J p)) ≡ true) → untold_in J out p ≡ 0
nothing_untold J out p told =
    sum_by_zeros _ (transfers (J p))
    (each_of (λ (x : Transfer). if_untold (out p x.id) (booked p x.id (J p)) x.cents ≡ 0) (transfers (J p))
    (λ x. untold_none (out p x.id) (booked p x.id (J p)) x.cents (told x.id)))
