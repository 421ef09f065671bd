-- What a seat of the shared words has and knows: its roles, the terms words that it wrote, what it
-- learnt and what it heard. Only a participant's slot opens its places and answers what is
-- addressed to it, and a caller's seat has no role. A choice of this hub.
use Rattle.std.proofs.Props.{props}
use Rattle.std.specs.Prelude.{◌≡◌, ℕ, Bool, zero, suc, ◌+◌, ◌*◌, ◌<◌, cond, ◌==◌, List, [], ◌∷◌}
use Rattle.std.specs.Prelude.{◌++◌, slice_index, take, drop, Contains, Option, Some, None}
use Rattle.std.specs.Option.{option_or, unwrap_or}
use Rattle.inst_command.specs.declared.outcome.Outcome.{Outcome}
use Rattle.inst_command.specs.declared.outcome.Outcome.TheVariants.{TimedOut}
use Rattle.inst_settings.specs.Settings.{HubSettings, participants}
use Rattle.inst_terms.specs.declared.terms.Terms.{Terms}
use Rattle.inst_terms.specs.Terms.{words_of}
use Rattle.inst_board.specs.declared.about.About.{About}
use Rattle.inst_board.specs.declared.about.About.TheVariants.{Opened, HasTerms, Due, Decided}
use Rattle.inst_board.specs.declared.about.About.TheVariants.{DecidedAt}
use Rattle.inst_board.specs.Standing.{Standing, unused, pending, decided, Says}
use Rattle.inst_cell.specs.declared.view.Known.{Known}
use Rattle.inst_cell.specs.declared.view.View.{View}

-- The fact a about place k.
abbrev pub known : ℕ → About → Known
known k a = record { place = k; about = a }

-- All that a seat knows.
abbrev pub all_that_is_known : View → List Known
all_that_is_known v = v.facts ++ v.heard

-- How often a number is in a list.
abbrev pub count : ℕ → List ℕ → ℕ
count p [] = 0
count p (x ∷ xs) = cond (x == p) 1 0 + count p xs

-- The value noted last for the word x.
abbrev pub note : List (ℕ × ℕ) → ℕ → Option ℕ
note [] x = None
note (n ∷ ns) x = cond (n.0 == x) (Some n.1) (note ns x)

-- The words of these terms were noted last for the place.
abbrev pub HasNoted : View → ℕ → Terms → Type 0
HasNoted v k t = (i : ℕ) → i < 5 → note v.notes (k * 6 + i) ≡ Some (slice_index (words_of t) i)

-- What a step learns of a place with this standing: all that is true of it, but the deciding clock
-- reading only if this step decided it.
abbrev pub facts_of : ℕ → Standing → Bool → List Known
facts_of k unused mine = []
facts_of k (pending terms deadline) mine =
    known k Opened ∷ known k (HasTerms terms) ∷ known k (Due deadline) ∷ []
facts_of k (decided terms deadline outcome at) mine =
    known k Opened ∷ known k (HasTerms terms) ∷ known k (Due deadline)
    ∷ known k (Decided outcome) ∷ cond mine (known k (DecidedAt at) ∷ []) []

-- The first fact of a kind that a list has of a place.
abbrev pub first_of : {X : Type 0} → (About → Option X) → ℕ → List Known → Option X
first_of pick k [] = None
first_of pick k (f ∷ fs) =
    cond (f.place == k) (option_or (pick f.about) (first_of pick k fs)) (first_of pick k fs)

-- The terms that a fact states.
abbrev pub terms_in : About → Option Terms
terms_in Opened = None
terms_in (HasTerms terms) = Some terms
terms_in (Due deadline) = None
terms_in (Decided outcome) = None
terms_in (DecidedAt moment) = None

-- The deadline that a fact states.
abbrev pub due_in : About → Option ℕ
due_in Opened = None
due_in (HasTerms terms) = None
due_in (Due deadline) = Some deadline
due_in (Decided outcome) = None
due_in (DecidedAt moment) = None

-- The outcome that a fact states.
abbrev pub outcome_about : About → Option Outcome
outcome_about Opened = None
outcome_about (HasTerms terms) = None
outcome_about (Due deadline) = None
outcome_about (Decided outcome) = Some outcome
outcome_about (DecidedAt moment) = None

-- The deciding clock reading that a fact states.
abbrev pub moment_in : About → Option ℕ
moment_in Opened = None
moment_in (HasTerms terms) = None
moment_in (Due deadline) = None
moment_in (Decided outcome) = None
moment_in (DecidedAt moment) = Some moment

-- The standing with these terms, this deadline, and this outcome and deciding reading, if any.
abbrev pub standing_with : Terms → ℕ → Option Outcome → Option ℕ → Standing
standing_with terms deadline None None = pending terms deadline
standing_with terms deadline None (Some moment) = decided terms deadline TimedOut moment
standing_with terms deadline (Some outcome) moment =
    decided terms deadline outcome (unwrap_or moment 0)

-- The standing of a place as far as it is known. What is not known has a default.
abbrev pub known_standing : View → ℕ → Standing
known_standing v k =
    standing_with (unwrap_or (first_of terms_in k (all_that_is_known v)) (record {
      to = 0;
      cents = 0;
      id =
          [];
    }))
    (unwrap_or (first_of due_in k (all_that_is_known v)) 0)
    (first_of outcome_about k (all_that_is_known v))
    (first_of moment_in k (all_that_is_known v))

-- All that a seat knows of a place is true of one standing.
abbrev pub KnowsOne : View → Type 0
KnowsOne v = (k : ℕ) (a : About) → Contains (all_that_is_known v) (known k a) →
    Says (known_standing v k) a

-- For the prover: `Says` has at most one proof.
says_one : (p : Standing) (a : About) → IsProp (Says p a)
says_one unused a = Prim.hlevel props
says_one (pending terms deadline) Opened = Prim.hlevel props
says_one (pending terms deadline) (HasTerms others) = Prim.hlevel props
says_one (pending terms deadline) (Due other) = Prim.hlevel props
says_one (pending terms deadline) (Decided other) = Prim.hlevel props
says_one (pending terms deadline) (DecidedAt other) = Prim.hlevel props
says_one (decided terms deadline outcome at) Opened = Prim.hlevel props
says_one (decided terms deadline outcome at) (HasTerms others) = Prim.hlevel props
says_one (decided terms deadline outcome at) (Due other) = Prim.hlevel props
says_one (decided terms deadline outcome at) (Decided other) = Prim.hlevel props
says_one (decided terms deadline outcome at) (DecidedAt other) = Prim.hlevel props

-- For the prover: `KnowsOne` has at most one proof.
pub knows_one_once : (v : View) → IsProp (KnowsOne v)
knows_one_once v = Prim.hlevel (props, says_one)

-- The n participants from a on.
abbrev pub roles_from : ℕ → ℕ → List ℕ
roles_from a zero = []
roles_from a (suc n) = a ∷ roles_from (suc a) n

-- The first seat: it has all roles and knows nothing.
abbrev pub first_view : HubSettings → View
first_view s = record {
  places = s.places;
  margin = s.margin;
  roles = roles_from 0 (participants s);
  notes = [];
  facts = [];
  heard = [];
}

-- The view after the place was seen with this standing. `mine`: this seat's own step made it.
abbrev pub view_after_learning : View → ℕ → Standing → Bool → View
view_after_learning v k p mine = record {
  places = v.places;
  margin = v.margin;
  roles = v.roles;
  notes = v.notes;
  facts = v.facts ++ facts_of k p mine;
  heard = v.heard;
}

-- The view after the value n was written to the terms word x.
abbrev pub with_note : View → ℕ → ℕ → View
with_note v x n = record {
  places = v.places;
  margin = v.margin;
  roles = v.roles;
  notes = (x, n) ∷ v.notes;
  facts = v.facts;
  heard = v.heard;
}

-- The view after its first role was handed over. Its notes are forgotten.
abbrev pub without_role : View → View
without_role v = record {
  places = v.places;
  margin = v.margin;
  roles = drop 1 v.roles;
  notes = [];
  facts = v.facts;
  heard = v.heard;
}

-- The view of the new seat, which has the first role.
abbrev pub with_role : View → View
with_role v = record {
  places = v.places;
  margin = v.margin;
  roles = take 1 v.roles;
  notes = [];
  facts = v.facts;
  heard = v.heard;
}

-- A view that a split leaves as it is.
abbrev pub same_view : View → View
same_view v = v

-- The view of a new seat that knows what this one knows, and has no role.
abbrev pub informed_view : View → View
informed_view v = record {
  places = v.places;
  margin = v.margin;
  roles = [];
  notes = [];
  facts = [];
  heard =
      all_that_is_known v;
}

-- The view of one seat with the roles and the knowledge of two.
abbrev pub united_view : View → View → View
united_view v w = record {
  places = v.places;
  margin = v.margin;
  roles = v.roles ++ w.roles;
  notes = v.notes ++ w.notes;
  facts = v.facts ++ w.facts;
  heard = v.heard ++ w.heard;
}

-- The view of a seat that was joined into another.
abbrev pub nobody : View
nobody = record { places = 0; margin = 0; roles = []; notes = []; facts = []; heard = [] }
