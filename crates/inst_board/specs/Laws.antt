-- The laws of boards: the parties decide, a look and a decision show at least what was known, a
-- place is decided once and in time, and on a plain board the contracts of the trait are exact.
-- Promises of this hub.
use Rattle.std.specs.Prelude.{◌≡◌, ◌≢◌, ◌↔◌, ◌⊎◌, ℕ, ◌+◌, ◌*◌, ◌<◌, ◌≤◌, List, [], ◌∷◌, Option}
use Rattle.std.specs.Prelude.{Some, None, IfSome, IsTrue}
use Rattle.inst_settings.specs.Settings.{is_participant, HubSettings, participants}
use Rattle.inst_command.specs.declared.outcome.Outcome.{Outcome}
use Rattle.inst_command.specs.declared.outcome.Outcome.TheVariants.{Accepted, Rejected, TimedOut}
use Rattle.inst_terms.specs.declared.terms.Terms.{Terms}
use Rattle.inst_terms.specs.declared.word.Word.TheVariants.{Pending as PendingWord}
use Rattle.inst_terms.specs.declared.word.Word.TheVariants.{Decided as DecidedWord}
use Rattle.inst_terms.specs.WordLaw.{InTime, AreLawful}
use Rattle.inst_command.specs.declared.place.Place.{Place}
use Rattle.inst_board.specs.declared.wish.Wish.{Wish}
use Rattle.inst_board.specs.declared.wish.Wish.TheVariants.{Accept, Reject, Expire}
use Rattle.inst_board.specs.declared.look.Look.{Look}
use Rattle.inst_board.specs.declared.look.Look.TheVariants.{Unused, Pending, Decided as DecidedLook}
use Rattle.inst_board.specs.declared.about.About.{About}
use Rattle.inst_board.specs.declared.about.About.TheVariants.{Opened, HasTerms, Due, Decided}
use Rattle.inst_board.specs.declared.about.About.TheVariants.{DecidedAt}
use Rattle.inst_board.specs.declared.about.Fact.{Fact}
use Rattle.inst_board.specs.Standing.{Standing, pending, decided, IsPlace, IsLawful, Says, Shows}
use Rattle.inst_board.specs.Standing.{look_of, about}
use Rattle.inst_board.specs.Wish.{wanted}
use Rattle.inst_board.specs.Learning.{Learns, KnowsTruly, KnowTheSame, MayDecide, Looks, Decides}
use Rattle.inst_board.specs.Plain.{Contents, place_number, rank_of, standing_at, plain_knows}
use Rattle.inst_board.specs.Plain.{plain_stood, standing_after, outcome_of_standing}

-- The second knows all that the first knows.
abbrev pub KnowsMore : {B : Type 0} → (B → Fact → Type 0) → B → B → Type 0
KnowsMore knows b c = (f : Fact) → knows b f → knows c f

-- Two decisions of a place return the same outcome once there is one, whatever the wishes and clock
-- readings are and whatever the holder learns between them.
abbrev pub DecidedOnce : {B : Type 0} → ℕ → (B → Fact → Type 0) → (B → Place → Outcome → Type 0) →
    Type 0
DecidedOnce {B} margin knows stood = (a b c d : B) (k : Place) (first second : Wish) (at later : ℕ)
    (found again : Option Outcome) →
    Decides margin knows stood a k first at found b → KnowsMore knows b c →
    Decides margin knows stood c k second later again d →
    IfSome found (λ o. again ≡ Some o)

-- The opening of a place is known, with these terms and this deadline.
pub record KnowsOpening {B : Type 0} (knows : B → Fact → Type 0) (b : B) (k : Place) (t : Terms)
    (deadline : ℕ) : Type 0 where
  pub opened : knows b (about k Opened)
  pub terms : knows b (about k (HasTerms t))
  pub due : knows b (about k (Due deadline))

-- The outcome of a place is known, with its terms.
pub record KnowsOutcome {B : Type 0} (knows : B → Fact → Type 0) (b : B) (k : Place) (t : Terms)
    (o : Outcome) : Type 0 where
  pub terms : knows b (about k (HasTerms t))
  pub decided : knows b (about k (Decided o))

-- The holder may write these terms of the place and open it.
pub record CanOpen {B : Type 0} (knows : B → Fact → Type 0) (has_role : B → ℕ →
    Type 0) (s : HubSettings) (b : B)
    (k : Place) (t : Terms) : Type 0 where
  pub place : IsPlace s k
  pub beneficiary : IsTrue (is_participant s t.to)
  pub own : has_role b k.owner
  pub unused : ¬ knows b (about k Opened)

-- A holder that may decide a place knows its opening and has the role of the originator or the
-- beneficiary.
abbrev pub OnlyPartiesDecide : {B : Type 0} → (B → Fact → Type 0) → (B → ℕ → Type 0) → Type 0
OnlyPartiesDecide {B} knows has_role =
    (b : B) (k : Place) (wish : Wish) → MayDecide knows has_role b k wish →
    (t : Terms) × (deadline : ℕ) × KnowsOpening knows b k t deadline
    × (has_role b k.owner ⊎ has_role b t.to)

-- A holder that may confirm or reject has the role of the beneficiary in the terms that it knows.
abbrev pub OnlyTheBeneficiaryAnswers : {B : Type 0} → (B → Fact → Type 0) → (B → ℕ → Type 0) →
    Type 0
OnlyTheBeneficiaryAnswers {B} knows has_role =
    (b : B) (k : Place) (t : Terms) → knows b (about k (HasTerms t)) →
    (MayDecide knows has_role b k Accept → has_role b t.to) ×
    ((reason : List ℕ) → MayDecide knows has_role b k (Reject reason) → has_role b t.to)

-- If the opening is known, the beneficiary's holder may use each wish, and the originator's may let
-- the transfer expire.
abbrev pub EachPartyMayDecide : {B : Type 0} → (B → Fact → Type 0) → (B → ℕ → Type 0) → Type 0
EachPartyMayDecide {B} knows has_role = (b : B) (k : Place) (t : Terms) (deadline : ℕ) →
    KnowsOpening knows b k t deadline →
    (has_role b t.to → (wish : Wish) → MayDecide knows has_role b k wish) ×
    (has_role b k.owner → MayDecide knows has_role b k Expire)

-- An opened place is known to be open, with its terms and deadline.
abbrev pub AnOpeningIsKnown : {B : Type 0} → ℕ → (B → Fact → Type 0) → Type 0
AnOpeningIsKnown {B} margin knows = (b c : B) (k : Place) (t : Terms) (deadline : ℕ) →
    Learns margin knows b k (pending t deadline) c → KnowsOpening knows c k t deadline

-- The state that a look showed is known.
abbrev pub ALookIsKnown : {B : Type 0} → ℕ → (B → Fact → Type 0) → (B → ℕ → Type 0) →
    (B → Place → Outcome → Type 0) →
    Type 0
ALookIsKnown {B} margin knows has_role stood = (b c : B) (k : Place) (t : Terms) →
    ((deadline : ℕ) → Looks margin knows has_role stood b k (Pending t deadline) c →
    KnowsOpening knows c k t deadline) ×
    ((o : Outcome) → Looks margin knows has_role stood b k (DecidedLook t o) c →
    knows c (about k Opened) ×
    KnowsOutcome knows c k t o)

-- A look shows at least what was known.
pub record ShowsWhatIsKnown {B : Type 0} (knows : B → Fact →
    Type 0) (b : B) (k : Place) (look : Look) : Type 0 where
  pub opened : knows b (about k Opened) → look ≢ Unused
  pub terms : (t : Terms) → knows b (about k (HasTerms t)) → ((d : ℕ) × (look ≡ Pending t d)) ⊎
      ((o : Outcome) × (look ≡ DecidedLook t o))
  pub due : (t : Terms) (d e : ℕ) → knows b (about k (Due d)) → look ≡ Pending t e → e ≡ d
  pub decided : (o : Outcome) → knows b (about k (Decided o)) →
      (t : Terms) × (look ≡ DecidedLook t o)

abbrev pub ALookShowsWhatIsKnown : {B : Type 0} → ℕ → (B → Fact → Type 0) → (B → ℕ → Type 0) →
    (B → Place → Outcome → Type 0) → Type 0
ALookShowsWhatIsKnown {B} margin knows has_role stood = (b c : B) (k : Place) (look : Look) →
    Looks margin knows has_role stood b k look c → ShowsWhatIsKnown knows b k look

-- The originator's holder learns no opening of its own places by a look.
abbrev pub OwnOpeningsAreKnown : {B : Type 0} → ℕ → (B → Fact → Type 0) → (B → ℕ → Type 0) →
    (B → Place → Outcome → Type 0) → Type 0
OwnOpeningsAreKnown {B} margin knows has_role stood =
    (b c : B) (k : Place) (t : Terms) → has_role b k.owner →
    ((deadline : ℕ) → Looks margin knows has_role stood b k (Pending t deadline) c →
    KnowsOpening knows b k t deadline) ×
    ((o : Outcome) → Looks margin knows has_role stood b k (DecidedLook t o) c →
    (deadline : ℕ) × KnowsOpening knows b k t deadline)

-- The beneficiary's holder learns no answer by a look: it knew an acceptance or rejection, with the
-- terms.
abbrev pub OwnAnswersAreKnown : {B : Type 0} → ℕ → (B → Fact → Type 0) → (B → ℕ → Type 0) →
    (B → Place → Outcome → Type 0) →
    Type 0
OwnAnswersAreKnown {B} margin knows has_role stood =
    (b c : B) (k : Place) (t : Terms) → has_role b t.to →
    (Looks margin knows has_role stood b k (DecidedLook t Accepted) c →
    KnowsOutcome knows b k t Accepted) ×
    ((reason : List ℕ) → Looks margin knows has_role stood b k (DecidedLook t (Rejected reason)) c →
    KnowsOutcome knows b k t (Rejected reason))

-- A decision returns a known outcome, and the outcome that it returns is known afterwards.
abbrev pub ADecisionIsKnown : {B : Type 0} → ℕ → (B → Fact → Type 0) →
    (B → Place → Outcome → Type 0) → Type 0
ADecisionIsKnown {B} margin knows stood =
    (b c : B) (k : Place) (wish : Wish) (at : ℕ) (found : Option Outcome) →
    Decides margin knows stood b k wish at found c →
    ((o : Outcome) → knows b (about k (Decided o)) → found ≡ Some o) ×
    ((o : Outcome) → found ≡ Some o → knows c (about k (Decided o)))

-- The outcome that each wish wants: from the deadline on the time-out; before it the rejection;
-- more than the margin before it the acceptance; otherwise none.
pub record WantsByItsReading (margin deadline at : ℕ) : Type 0 where
  pub late : deadline ≤ at → (wish : Wish) → wanted margin wish deadline at ≡ Some TimedOut
  pub accept : at + margin < deadline → wanted margin Accept deadline at ≡ Some Accepted
  pub in_margin : at < deadline → deadline ≤ at + margin → wanted margin Accept deadline at ≡ None
  pub reject : at < deadline → (reason : List ℕ) →
      wanted margin (Reject reason) deadline at ≡ Some (Rejected reason)
  pub expire : at < deadline → wanted margin Expire deadline at ≡ None

abbrev pub EachWishWantsByItsReading : Type 0
EachWishWantsByItsReading = (margin deadline at : ℕ) → WantsByItsReading margin deadline at

-- The wish leaves the transfer pending: an expiry before the deadline, or an acceptance in the
-- margin.
abbrev pub StaysPending : ℕ → Wish → ℕ → ℕ → Type 0
StaysPending margin wish deadline at =
    (at < deadline) × ((wish ≡ Expire) ⊎ ((wish ≡ Accept) × (deadline ≤ at + margin)))

-- With a known deadline, a returned outcome may have been decided before, or is what was wanted, in
-- time. None is returned only if the wish leaves the transfer pending.
pub record IsDecidedInTime {B : Type 0} (margin : ℕ) (stood : B → Place → Outcome →
    Type 0) (b : B) (k : Place) (wish : Wish)
    (deadline at : ℕ) (found : Option Outcome) : Type 0 where
  pub outcome : (o : Outcome) → found ≡ Some o → stood b k o ⊎
      ((wanted margin wish deadline at ≡ Some o) × InTime margin o deadline at)
  pub none : found ≡ None → StaysPending margin wish deadline at

abbrev pub EachDecisionIsInTime : {B : Type 0} → ℕ → (B → Fact → Type 0) →
    (B → Place → Outcome → Type 0) → Type 0
EachDecisionIsInTime {B} margin knows stood =
    (b c : B) (k : Place) (wish : Wish) (deadline at : ℕ) (found : Option Outcome) →
    knows b (about k (Due deadline)) →
    Decides margin knows stood b k wish at found c →
    IsDecidedInTime margin stood b k wish deadline at found

-- A returned outcome may have been decided before, or the place was decided at this clock reading,
-- which the holder then knows.
abbrev pub EachDecisionIsOfItsReading : {B : Type 0} → ℕ → (B → Fact → Type 0) →
    (B → Place → Outcome → Type 0) → Type 0
EachDecisionIsOfItsReading {B} margin knows stood =
    (b c : B) (k : Place) (wish : Wish) (at : ℕ) (o : Outcome) →
    Decides margin knows stood b k wish at (Some o) c →
    stood b k o
    ⊎ (((t : Terms) × (deadline : ℕ) × Learns margin knows b k (decided t deadline o at) c)
    × knows c (about k (DecidedAt at)))

-- By a look a holder learns no clock reading at which the place was decided; by a decision none but
-- its own.
abbrev pub OnlyOwnReadingsAreLearnt : {B : Type 0} → ℕ → (B → Fact → Type 0) → (B → ℕ → Type 0) →
    (B → Place → Outcome → Type 0) → Type 0
OnlyOwnReadingsAreLearnt {B} margin knows has_role stood = (b c : B) (k : Place) (moment : ℕ) →
    ¬ knows b (about k (DecidedAt moment)) → knows c (about k (DecidedAt moment)) →
    ((look : Look) → ¬ Looks margin knows has_role stood b k look c) ×
    ((wish : Wish) (at : ℕ) (found : Option Outcome) →
    Decides margin knows stood b k wish at found c → moment ≡ at)

-- A beneficiary that answers in time and knows no outcome gets the outcome that it wanted, or the
-- time-out.
abbrev pub OwnAnswersStand : {B : Type 0} → ℕ → (B → Fact → Type 0) → (B → ℕ → Type 0) →
    (B → Place → Outcome → Type 0) →
    Type 0
OwnAnswersStand {B} margin knows has_role stood =
    (b c : B) (k : Place) (t : Terms) (deadline at : ℕ)
    (found : Option Outcome) →
    KnowsOpening knows b k t deadline → has_role b t.to →
    ((o : Outcome) → ¬ knows b (about k (Decided o))) →
    (at + margin < deadline → Decides margin knows stood b k Accept at found c →
    (found ≡ Some Accepted) ⊎ (found ≡ Some TimedOut)) ×
    (at < deadline → (reason : List ℕ) → Decides margin knows stood b k (Reject reason) at found c →
    (found ≡ Some (Rejected reason)) ⊎
    (found ≡ Some TimedOut))

-- Knowledge is true: a holder that knows nothing begins so, and each call preserves it.
pub record StaysTrue {B : Type 0} (margin : ℕ) (knows : B → Fact → Type 0) (b : B) : Type 0 where
  pub first : ((f : Fact) → ¬ knows b f) → (j : Place) → KnowsTruly margin knows b j
  pub learning : (c : B) (k : Place) (p : Standing) → Learns margin knows b k p c →
      ((j : Place) → KnowsTruly margin knows b j) →
      (j : Place) → KnowsTruly margin knows c j
  pub writing : (c : B) → KnowTheSame knows b c → ((j : Place) → KnowsTruly margin knows b j) →
      (j : Place) →
      KnowsTruly margin knows c j
  -- A known deadline is at least 1.
  pub due : (k : Place) (d : ℕ) → KnowsTruly margin knows b k → knows b (about k (Due d)) → 1 ≤ d

abbrev pub WhatIsKnownStaysTrue : {B : Type 0} → ℕ → (B → Fact → Type 0) → Type 0
WhatIsKnownStaysTrue {B} margin knows = (b : B) → StaysTrue margin knows b

-- A standing is lawful exactly if its outcome words are.
abbrev pub StandingsFollowTheWordLaw : Type 0
StandingsFollowTheWordLaw = (margin : ℕ) (t : Terms) (deadline : ℕ) →
    (IsLawful margin (pending t deadline) ↔ AreLawful margin (PendingWord deadline ∷ [])) ×
    ((o : Outcome) (moment : ℕ) → IsLawful margin (decided t deadline o moment) ↔
    AreLawful margin (PendingWord deadline ∷ DecidedWord o moment ∷ []))

-- A place shows only facts that are true of it. A decided place shows the same for any deadline,
-- since its word doesn't contain it.
pub record ShowsItsWords : Type 0 where
  pub truly : (p : Standing) (a : About) → Shows p a → Says p a
  pub no_deadline : (t : Terms) (d e : ℕ) (o : Outcome) (moment : ℕ) (a : About) →
      Shows (decided t d o moment) a → Shows (decided t e o moment) a

-- The places of the settings: one for each participant and each index below their number.
abbrev pub WhichPlacesThereAre : Type 0
WhichPlacesThereAre =
    (s : HubSettings) (k : Place) → IsPlace s k ↔
    ((k.owner < participants s) × (k.index < s.places))

-- Different places have different numbers.
abbrev pub EachPlaceHasItsNumber : Type 0
EachPlaceHasItsNumber = (s : HubSettings) (j k : Place) → IsPlace s j → IsPlace s k →
    (place_number s j < s.places * participants s) × (place_number s j ≡ place_number s k → j ≡ k)

-- Different places have different ranks, below the number of all places.
abbrev pub EachPlaceHasItsRank : Type 0
EachPlaceHasItsRank = (s : HubSettings) (j k : Place) → IsPlace s j → IsPlace s k →
    (rank_of s j < participants s * s.places) × (rank_of s j ≡ rank_of s k → j ≡ k)

-- The same facts are true of both standings.
abbrev pub SayTheSame : Standing → Standing → Type 0
SayTheSame p q = (a : About) → Says p a ↔ Says q a

-- From the first board to the second the place k changes to the standing p, and all others are
-- unchanged.
pub record Stands (b : Contents) (k : Place) (p : Standing) (c : Contents) : Type 0 where
  pub here : SayTheSame (standing_at c k) p
  pub elsewhere : (j : Place) → j ≢ k → SayTheSame (standing_at c j) (standing_at b j)

-- On a plain board a decision returns what the first deciding wish wanted, and stores it.
abbrev pub PlainDecidesExactly : Type 0
PlainDecidesExactly = (b c : Contents) (k : Place) (wish : Wish) (at : ℕ) (found : Option Outcome) →
    plain_knows b (about k Opened) →
    Decides b.settings.margin plain_knows plain_stood b k wish at found c →
    (found ≡ outcome_of_standing (standing_after b.settings.margin wish at (standing_at b k)))
    × Stands b k (standing_after b.settings.margin wish at (standing_at b k)) c

-- On a plain board a look shows the place's standing, and changes nothing.
abbrev pub PlainLooksExactly : Type 0
PlainLooksExactly = (b c : Contents) (k : Place) (look : Look) →
    Looks b.settings.margin plain_knows (λ _ _. Unit {0}) plain_stood b k look c →
    (look ≡ look_of (standing_at b k)) × Stands b k (standing_at b k) c

-- On a plain board an opening makes the place pending, and changes no other.
abbrev pub PlainOpensExactly : Type 0
PlainOpensExactly = (b c : Contents) (k : Place) (t : Terms) (deadline : ℕ) →
    Learns b.settings.margin plain_knows b k (pending t deadline) c →
    Stands b k (pending t deadline) c

-- A pending place stays so before the deadline, or is decided at this moment, in time.
abbrev pub WhatIsDecidedIsInTime : Type 0
WhatIsDecidedIsInTime = (margin : ℕ) (wish : Wish) (at : ℕ) (t : Terms) (deadline : ℕ) →
    ((standing_after margin wish at (pending t deadline) ≡ pending t deadline)
    × StaysPending margin wish deadline at) ⊎
    ((o : Outcome) × (standing_after margin wish at (pending t deadline) ≡ decided t deadline o at)
    × InTime margin o deadline at)
