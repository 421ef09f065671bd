-- A sweep under a lock, step by step: what holds of the participant after some of it, and what is left of it.
use Rattle.std.proofs.Common.{◌≡◌, ◌≢◌, ℕ, zero, suc, ◌+◌, ◌-◌, ◌*◌, ◌<◌, ◌≤◌, Bool, true, false, List, [], ◌∷◌, ◌++◌, append-nil, append_assoc, arith, ⊎_elim, sym, ap, ◌∙◌, subst, Option, Some, None}
use Rattle.std.specs.Prelude.{Contains, Result, Ok, Err, alloc_error}
use Rattle.std.proofs.lemmas.List.Elements.{Contains-append_cases}
use Rattle.std.specs.declared.alloc.AllocError.{AllocError}
use mathlib.Core.List.{IsPrefix}
use Rattle.inst_command.specs.declared.place.Place.{Place}
use Rattle.inst_journal.specs.declared.event.Event.{Event}
use Rattle.inst_slot.specs.Arrived.{IsNextUnbooked}
use Rattle.inst_participant.specs.declared.participant.Participant.{Participant}
use Rattle.inst_participant.specs.declared.follow_up.FollowUpKind.TheVariants.{Learn}
use Rattle.inst_participant.specs.LockLaw.{IsReady, IsLater}
use Rattle.inst_participant.specs.Told.{TellsOfTransfer, IsToldMore}
use Rattle.inst_participant.specs.Following.{Does}
use Rattle.inst_slot.specs.Book.{place_at}
use Rattle.inst_slot.specs.Waiting.{IsNextDue}
use Rattle.inst_participant.specs.Told.{IsToldAll}
use Rattle.inst_participant.specs.Sweeping.{MayExpire, LetsExpire, LearnsAll, LooksAt, DeliversFrom, DeliversAll}
use Rattle.inst_participant.specs.Sweeping.LetsExpire.{then_next as then_next_pair, refused as refused_pair}
use Rattle.inst_participant.specs.Sweeping.LearnsAll.{then_next as then_next_arrival}
use Rattle.inst_participant.specs.Sweeping.DeliversFrom.{no_more, unused, then_next, refused}
use Rattle.inst_participant.specs.Sweeping.DeliversAll.{no_more as no_more_owners, own, then_next as then_next_owner, refused as refused_owner}
use Rattle.inst_participant.proofs.LaterParticipant.{later_twice}

none_in : {A : Type 0} (x : A) → Contains [] x → ⊥
none_in x (i, below, is) = absurd (omega arith)

only_one : (e x : Event) → Contains (e ∷ []) x → x ≡ e
only_one e x (zero, below, is) = sym is
only_one e x (suc i, below, is) = absurd (omega arith)

pub told_nothing : (J K : List Event) → K ≡ J → IsToldAll J K
told_nothing J K same = ([], same ∙ sym (append-nil J), λ e h. absurd (none_in e h))

pub told_some : (J K : List Event) → IsToldMore J K → IsToldAll J K
told_some J K more = ⊎_elim
    (λ same. told_nothing J K same)
    (λ one. (one.0 ∷ [], one.2, λ e h. subst TellsOfTransfer (sym (only_one one.0 e h)) one.1)) more

pub told_twice : (J K L : List Event) → IsToldAll J K → IsToldAll K L → IsToldAll J L
told_twice J K L first second = (
  first.0 ++ second.0,
  second.1 ∙ (ap (λ (M : List Event). M ++ second.0) first.1 ∙ append_assoc J first.0 second.0),
  λ e h. ⊎_elim (λ one. first.2 e one) (λ other. second.2 e other) (Contains-append_cases first.0 second.0 e h),
)

-- what holds of a participant after some of a sweep
pub record On (x y : Participant) : Type 0 where
  pub ready : IsReady y
  pub later : IsLater x y
  pub told : IsToldAll x.slot.events y.slot.events

pub on_then : (x y z : Participant) → On x y → IsReady z → IsLater y z → IsToldAll y.slot.events z.slot.events → On x z
on_then x y z on ready later told = record {
  ready = ready;
  later = later_twice x y z on.later later;
  told = told_twice x.slot.events y.slot.events z.slot.events on.told told;
}

-- the pairs of a deadline and a place go up, and none is past the last moment
abbrev pub InRange : Option (ℕ × ℕ) → Type 0
InRange None = Unit {0}
InRange (Some pair) = pair.1 < 65536

abbrev pub pairs_left : Option (ℕ × ℕ) → ℕ
pairs_left None = 1000000000000000000
pairs_left (Some pair) = 900000000000000000 - (pair.0 * 65536 + pair.1)

-- what is left of the own transfers after this pair is left of all of them
abbrev pub LeftToExpire : ℕ → Option (ℕ × ℕ) → Participant → Participant → Type 0
LeftToExpire t after start x = (whole : Bool) (y : Participant) → LetsExpire t after whole x y → LetsExpire t None whole start y

pub expired_now : (t : ℕ) (after : Option (ℕ × ℕ)) (pair : ℕ × ℕ) (result : Result Bool AllocError) (is_new : Bool) (start x z : Participant) → LeftToExpire t after start x
    → IsNextDue x.slot after pair → MayExpire t x pair.1 result z → result ≡ Ok is_new → LeftToExpire t (Some pair) start z
expired_now t after pair result is_new start x z left next may ok whole y rest =
    left whole y (then_next_pair after pair is_new whole x z y next (subst (λ (r : Result Bool AllocError). MayExpire t x pair.1 r z) ok may) rest)

pub expiry_refused_now : (t : ℕ) (after : Option (ℕ × ℕ)) (pair : ℕ × ℕ) (result : Result Bool AllocError) (start x z : Participant) → LeftToExpire t after start x
    → IsNextDue x.slot after pair → MayExpire t x pair.1 result z → result ≡ Err alloc_error → LetsExpire t None false start z
expiry_refused_now t after pair result start x z left next may is =
    left false z (refused_pair after pair x z next (subst (λ (r : Result Bool AllocError). MayExpire t x pair.1 r z) is may))

-- what is left of the arrivals from here on is left of all of them
abbrev pub LeftToLearn : ℕ → Participant → Participant → Type 0
LeftToLearn from start x = (whole : Bool) (y : Participant) → LearnsAll from whole x y → LearnsAll 0 whole start y

pub learnt_now : (from position : ℕ) (k : Place) (result : Result Bool AllocError) (is_new : Bool) (start x z : Participant) → LeftToLearn from start x
    → IsNextUnbooked x.slot from (position, k) → Does Learn x k result z → result ≡ Ok is_new → LeftToLearn (position + 1) start z
learnt_now from position k result is_new start x z left next does ok whole y rest =
    left whole y (then_next_arrival from position k is_new whole x z y next (subst (λ (r : Result Bool AllocError). Does Learn x k r z) ok does) rest)

one_more_left : (i n : ℕ) → i < n → suc (n - (i + 1)) ≡ n - i
one_more_left i n below = omega (arith, below)

none_more_left : (i n : ℕ) → n ≤ i → 0 ≡ n - i
none_more_left i n past = omega (arith, past)

-- what is left of an originator's places is left of all its places
abbrev pub LeftOfPlaces : ℕ → ℕ → ℕ → Participant → Participant → Type 0
LeftOfPlaces owner index places start x = (whole : Bool) (y : Participant) → DeliversFrom owner index (places - index) whole x y → DeliversFrom owner 0 places whole start y

pub unused_now : (owner index places : ℕ) (start x y : Participant) → index < places → LeftOfPlaces owner index places start x
    → LooksAt x (place_at owner index) (Ok false) y → DeliversFrom owner 0 places true start y
unused_now owner index places start x y below left looks =
    left true y (subst (λ (n : ℕ). DeliversFrom owner index n true x y) (one_more_left index places below) (unused index (places - (index + 1)) x y looks))

pub used_now : (owner index places : ℕ) (start x z : Participant) → index < places → LeftOfPlaces owner index places start x
    → LooksAt x (place_at owner index) (Ok true) z → LeftOfPlaces owner (index + 1) places start z
used_now owner index places start x z below left looks whole y rest =
    left whole y (subst (λ (n : ℕ). DeliversFrom owner index n whole x y) (one_more_left index places below) (then_next index (places - (index + 1)) whole x z y looks rest))

pub refused_now : (owner index places : ℕ) (start x y : Participant) → index < places → LeftOfPlaces owner index places start x
    → LooksAt x (place_at owner index) (Err alloc_error) y → DeliversFrom owner 0 places false start y
refused_now owner index places start x y below left looks =
    left false y (subst (λ (n : ℕ). DeliversFrom owner index n false x y) (one_more_left index places below) (refused index (places - (index + 1)) x y looks))

pub all_looked_at : (owner index places : ℕ) (start x : Participant) → places ≤ index → LeftOfPlaces owner index places start x → DeliversFrom owner 0 places true start x
all_looked_at owner index places start x past left =
    left true x (subst (λ (n : ℕ). DeliversFrom owner index n true x x) (none_more_left index places past) (no_more index x))

-- what is left of the originators is left of all of them
abbrev pub LeftOfOwners : ℕ → ℕ → Participant → Participant → Type 0
LeftOfOwners owner count start x = (whole : Bool) (y : Participant) → DeliversAll owner (count - owner) whole x y → DeliversAll 0 count whole start y

pub own_now : (owner count : ℕ) (start x : Participant) → owner < count → owner ≡ x.slot.who → LeftOfOwners owner count start x → LeftOfOwners (owner + 1) count start x
own_now owner count start x below is left whole y rest =
    left whole y (subst (λ (n : ℕ). DeliversAll owner n whole x y) (one_more_left owner count below) (own owner (count - (owner + 1)) whole x y is rest))

pub other_now : (owner count : ℕ) (start x z : Participant) → owner < count → owner ≢ x.slot.who → LeftOfOwners owner count start x
    → DeliversFrom owner 0 x.slot.settings.places true x z → LeftOfOwners (owner + 1) count start z
other_now owner count start x z below isnt left delivers whole y rest =
    left whole y (subst (λ (n : ℕ). DeliversAll owner n whole x y) (one_more_left owner count below) (then_next_owner owner (count - (owner + 1)) whole x z y isnt delivers rest))

pub owner_refused : (owner count : ℕ) (start x y : Participant) → owner < count → owner ≢ x.slot.who → LeftOfOwners owner count start x
    → DeliversFrom owner 0 x.slot.settings.places false x y → DeliversAll 0 count false start y
owner_refused owner count start x y below isnt left delivers =
    left false y (subst (λ (n : ℕ). DeliversAll owner n false x y) (one_more_left owner count below) (refused_owner owner (count - (owner + 1)) x y isnt delivers))

pub all_delivered : (owner count : ℕ) (start x : Participant) → count ≤ owner → LeftOfOwners owner count start x → DeliversAll 0 count true start x
all_delivered owner count start x past left =
    left true x (subst (λ (n : ℕ). DeliversAll owner n true x x) (none_more_left owner count past) (no_more_owners owner x))

-- so the history grows
pub all_grows : (J K : List Event) → IsToldAll J K → IsPrefix J K
all_grows J K told = (told.0, sym told.1)
