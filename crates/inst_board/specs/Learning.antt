-- The effect of a board's calls on its holder: what it knows afterwards, which looks and answers it
-- can get, and which decisions it may make. Only a participant's slot opens its places, and only it
-- answers transfers addressed to it. A choice of this hub.
use Rattle.std.specs.Prelude.{◌≡◌, ◌↔◌, ◌⊎◌, ℕ, Option, Some, None}
use Rattle.inst_command.specs.declared.outcome.Outcome.{Outcome}
use Rattle.inst_command.specs.declared.outcome.Outcome.TheVariants.{Accepted, Rejected, TimedOut}
use Rattle.inst_terms.specs.declared.terms.Terms.{Terms}
use Rattle.inst_command.specs.declared.place.Place.{Place}
use Rattle.inst_board.specs.declared.wish.Wish.{Wish}
use Rattle.inst_board.specs.declared.wish.Wish.TheVariants.{Accept, Reject, Expire}
use Rattle.inst_board.specs.declared.look.Look.{Look}
use Rattle.inst_board.specs.declared.about.About.{About}
use Rattle.inst_board.specs.declared.about.About.TheVariants.{Opened, HasTerms, Due, Decided}
use Rattle.inst_board.specs.declared.about.About.TheVariants.{DecidedAt}
use Rattle.inst_board.specs.declared.about.Fact.{Fact}
use Rattle.inst_board.specs.Standing.{Standing, unused, pending, decided, IsLawful, Says, Shows}
use Rattle.inst_board.specs.Standing.{look_of, about}
use Rattle.inst_board.specs.Wish.{wanted}

-- The holder b reads the place k, which has the standing p, and becomes c.
--
-- - lawful: a place may have the standing
-- - agrees: all that was known of the place is true of it
-- - kept: nothing known is forgotten
-- - shown: all that the place shows is known afterwards
-- - only: each fact that is known now was known before, or is one of this place and true of it
pub record Learns {B : Type 0} (margin : ℕ) (knows : B → Fact →
    Type 0) (b : B) (k : Place) (p : Standing) (c : B) : Type 0 where
  pub lawful : IsLawful margin p
  pub agrees : (a : About) → knows b (about k a) → Says p a
  pub kept : (f : Fact) → knows b f → knows c f
  pub shown : (a : About) → Shows p a → knows c (about k a)
  pub only : (f : Fact) → knows c f → knows b f ⊎ ((f.place ≡ k) × Says p f.about)

-- The facts known of the place are true of one lawful standing.
abbrev pub KnowsTruly : {B : Type 0} → ℕ → (B → Fact → Type 0) → B → Place → Type 0
KnowsTruly margin knows b k =
    (p : Standing) × IsLawful margin p × ((a : About) → knows b (about k a) → Says p a)

-- Both holders know the same.
abbrev pub KnowTheSame : {B : Type 0} → (B → Fact → Type 0) → B → B → Type 0
KnowTheSame knows b c = (f : Fact) → knows c f ↔ knows b f

-- The terms that the first wrote to the places with P are written for the second.
abbrev pub KeepsWritten : {B : Type 0} → (B → Place → Terms → Type 0) → B → (Place → Type 0) → B →
    Type 0
KeepsWritten wrote b P c = (k : Place) (t : Terms) → P k → wrote b k t → wrote c k t

-- The facts that the originator's slot knows of each place that it opened.
abbrev pub IsOfOpening : About → Type 0
IsOfOpening Opened = Unit {0}
IsOfOpening (HasTerms terms) = Unit {0}
IsOfOpening (Due deadline) = Unit {0}
IsOfOpening (Decided outcome) = ⊥
IsOfOpening (DecidedAt moment) = ⊥

-- The outcomes that only the beneficiary's slot can have decided.
abbrev pub IsAnswer : Outcome → Type 0
IsAnswer Accepted = Unit {0}
IsAnswer (Rejected reason) = Unit {0}
IsAnswer TimedOut = ⊥

-- A look of the holder b at the place k, after which it is c.
--
-- - standing: the place's standing at that time
-- - own: if the holder has the originator's role and the place is opened, it knew the opening, the
--   terms and the deadline
-- - answered: if the holder has the beneficiary's role and the place is accepted or rejected, it
--   knew that outcome and the terms
-- - ended: if the holder has both roles and the place is decided, it knew the outcome
-- - before: an outcome that is shown may have been decided before
-- - reading: no clock reading of a decision is learnt
pub record Looks {B : Type 0} (margin : ℕ) (knows : B → Fact → Type 0) (has_role : B → ℕ → Type 0)
    (stood : B → Place → Outcome → Type 0) (b : B) (k : Place) (look : Look) (c : B) : Type 0 where
  pub standing : Standing
  pub learns : Learns margin knows b k standing c
  pub look_is : look ≡ look_of standing
  pub own : has_role b k.owner → (a : About) → IsOfOpening a → Says standing a → knows b (about k a)
  pub answered : (t : Terms) → Says standing (HasTerms t) → has_role b t.to → (o : Outcome) →
      IsAnswer o →
      Says standing (Decided o) →
      knows b (about k (HasTerms t)) × knows b (about k (Decided o))
  pub ended : has_role b k.owner → (t : Terms) → Says standing (HasTerms t) → has_role b t.to →
      (o : Outcome) →
      Says standing (Decided o) → knows b (about k (Decided o))
  pub before : (o : Outcome) → Says standing (Decided o) → stood b k o
  pub reading : (moment : ℕ) → knows c (about k (DecidedAt moment)) →
      knows b (about k (DecidedAt moment))

-- The role that a wish requires: the beneficiary's, and for a time-out either party's.
abbrev pub IsParty : (ℕ → Type 0) → Wish → Place → Terms → Type 0
IsParty has_role Accept k terms = has_role terms.to
IsParty has_role (Reject reason) k terms = has_role terms.to
IsParty has_role Expire k terms = has_role k.owner ⊎ has_role terms.to

-- The holder may decide the place by this wish: it knows the opening and has the role.
pub record MayDecide {B : Type 0} (knows : B → Fact → Type 0) (has_role : B → ℕ →
    Type 0) (b : B) (k : Place)
    (wish : Wish) : Type 0 where
  pub terms : Terms
  pub deadline : ℕ
  pub opened : knows b (about k Opened)
  pub has_terms : knows b (about k (HasTerms terms))
  pub due : knows b (about k (Due deadline))
  pub party : IsParty (has_role b) wish k terms

-- The answer to a wish at the clock reading, if the place then has this standing: its outcome,
-- which may have been decided before or is what was wanted; none if the transfer is pending and the
-- wish wanted no outcome.
abbrev pub AnswersWish : ℕ → (Outcome → Type 0) → Wish → ℕ → Standing → Option Outcome → Type 0
AnswersWish margin stood wish at unused found = ⊥
AnswersWish margin stood wish at (pending terms deadline) found =
    (found ≡ None) × (wanted margin wish deadline at ≡ None)
AnswersWish margin stood wish at (decided terms deadline outcome moment) found =
    (found ≡ Some outcome) ×
    (stood outcome ⊎ ((wanted margin wish deadline at ≡ Some outcome) × (moment ≡ at)))

-- The answer `found` is one that a decision of the place k may return, for this wish and clock
-- reading; the holder b becomes c.
--
-- - decided: an outcome that is returned may have been decided before, or the holder knows that it
--   was decided at this reading
-- - reading: a deciding reading that the holder knows now was known before, or is this one
pub record Decides {B : Type 0} (margin : ℕ) (knows : B → Fact → Type 0) (stood : B → Place →
    Outcome → Type 0) (b : B) (k : Place)
    (wish : Wish) (at : ℕ) (found : Option Outcome) (c : B) : Type 0 where
  pub standing : Standing
  pub learns : Learns margin knows b k standing c
  pub answers : AnswersWish margin (stood b k) wish at standing found
  pub decided : (o : Outcome) → found ≡ Some o → stood b k o ⊎ knows c (about k (DecidedAt at))
  pub reading : (moment : ℕ) → knows c (about k (DecidedAt moment)) →
      knows b (about k (DecidedAt moment)) ⊎ (moment ≡ at)
