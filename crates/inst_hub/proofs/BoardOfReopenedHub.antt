-- A hub opens again: the places of all live transfers are opened on one board that has all roles, which is then dealt.
use Rattle.std.proofs.Common.{◌≡◌, ◌≢◌, ℕ, zero, suc, ◌<◌, ◌≤◌, ◌+◌, ◌-◌, List, [], ◌∷◌, ◌++◌, length, append_assoc, sym, ap, ◌∙◌, subst, refl, true, get_or, arith, Option, Some, inl, inr}
use Rattle.std.specs.Prelude.{slice_get, ◌↔◌, Result, Ok, Err, IfOk}
use Rattle.std.specs.Global.{Box}
use mathlib.Core.Logic.{dite}
use native.Mathlib.Decide.{ℕ_discrete}
use Rattle.std.proofs.lemmas.Bool.{cases_eq, lt-ltb}
use Rattle.std.proofs.lemmas.Option.{slice_get-get_or}
use Rattle.inst_settings.specs.Settings.{HubSettings, participants, is_participant}
use Rattle.inst_board.specs.declared.about.Fact.{Fact}
use Rattle.inst_command.specs.declared.place.Place.{Place}
use Rattle.inst_board.specs.Learning.{KnowsTruly}
use Rattle.inst_board.specs.Plain.{Contents, plain_knows}
use Rattle.inst_journal.specs.declared.event.Event.{Event}
use Rattle.inst_journal.specs.declared.event.Event.TheVariants.{Opened}
use Rattle.inst_journal.specs.Opened.{carried, live_taken}
use Rattle.inst_journal.proofs.EventsCarriedOverOpening.{carried_opened}
use Rattle.inst_model.specs.Opening.{BooksCanOpen}
use Rattle.inst_model.specs.Opening.Opening.{FromBooks}
use Rattle.inst_slot.specs.Book.{Book}
use Rattle.inst_slot.specs.Opening.{MayOpenAgain, IsOfTakenSubmission, OpensPlaces}
use Rattle.inst_slot.proofs.LiveTransfersAfterEvent.{slice_get_at}
use Rattle.inst_slot.proofs.SlotOpensAgain.{may_open_first, others_may_open, lawful_moved}
use Rattle.inst_cell.specs.declared.shared_board.SharedBoard.{SharedBoard}
use Rattle.inst_cell.specs.Held.{settings_of, table_of, knows, has_role, Stays, roles_same}
use Rattle.inst_cell.specs.declared.sight.Sight.{Sight}
use Rattle.inst_cell.specs.Opening.{MayOpen, IsWhole, IsDealt, AreDealt, IsAdmitted, AreAdmitted}
use Rattle.inst_cell.proofs.BoardsAtOpening.{whole_role}
use Rattle.inst_world.specs.HasRun.{World, IsWorld, HasRun, IsBoardOf}
use Rattle.inst_world.specs.inner.NextOpening.{IsOpenedBelow}
use Rattle.inst_world.proofs.CarriedTransfersFindPlaces.{below as less}
use Rattle.inst_world.proofs.BoardOfReopenedHub.{begun_known}
use Rattle.inst_participant.specs.declared.participant.Participant.{Participant}
use Rattle.inst_participant.specs.LockLaw.{IsBehind}
use Rattle.inst_hub.specs.Opening.{IsBlank}
use Rattle.inst_hub.specs.inner.Opening.{unboxed, AreBehind, AreBlank}
use Rattle.inst_hub.proofs.BoardsAndTellersOfNewHub.{unboxed_push}
use Rattle.inst_hub.specs.inner.NextOpening.{IsCarriedBook, AreCarriedSlots, pairs, seated}

-- From the first board to this one the places of the first n participants were opened, and nothing else was learnt
pub record OpenedSoFar (s : HubSettings) (books : ℕ → List Event) (n : ℕ) (first b : SharedBoard) : Type 0 where
  pub stays : Stays first b
  pub known : (f : Fact) → knows b f ↔ IsOpenedBelow s books n f
  pub next : (p : ℕ) → n ≤ p → p < participants s → MayOpenAgain settings_of knows has_role b s p

still : (b : SharedBoard) → Stays b b
still b = record { settings = refl; table = refl; roles = refl }

later : (a b c : SharedBoard) → Stays a b → Stays b c → Stays a c
later a b c p q = record { settings = q.settings ∙ p.settings; table = q.table ∙ p.table; roles = q.roles ∙ p.roles }

module _ (s : HubSettings) (books : ℕ → List Event) where
  pub none_opened : (b : SharedBoard) → IsWhole s b → OpenedSoFar s books 0 b b
  none_opened b w = record {
    stays = still b;
    known = λ f. (λ kn. absurd (w.nothing f kn), λ x. absurd (omega (arith, x.below)));
    next = λ p from below. subst (λ (t : HubSettings). MayOpenAgain settings_of knows has_role b t p) w.settings
        (may_open_first settings_of knows has_role b p (whole_role b p w.roles (subst (λ (t : HubSettings). p < participants t) (sym w.settings) below)) w.nothing);
  }

  abbrev K : ℕ → List Event
  K p = books p ++ Opened ∷ []

  module _ (n : ℕ) (first b c : SharedBoard) (was : OpenedSoFar s books n first b) (below : n < participants s) (holder : Stays b c) (truly : (k : Place) → KnowsTruly s.margin knows c k) (opened : OpensPlaces knows s n (live_taken n (K n)) b c) where
    to : (f : Fact) → knows c f → IsOpenedBelow s books (n + 1) f
    to f kn = elim ((opened.known f).0 kn) [
      | inl old ↦ let x = (was.known f).0 old in record { owner = x.owner; below = omega (arith, x.below); opening = x.opening }
      | inr new ↦ record { owner = n; below = omega arith; opening = new }
    ]

    back : (f : Fact) → IsOpenedBelow s books (n + 1) f → knows c f
    back f x = elim (cases_eq x.owner n) [
      | inl same ↦ (opened.known f).1 (inr (subst (λ (q : ℕ). IsOfTakenSubmission s q (live_taken q (K q)) f) same x.opening))
      | inr other ↦ (opened.known f).1 (inl ((was.known f).1 (record { owner = x.owner; below = less x.owner n x.below other; opening = x.opening })))
    ]

    after : (p : ℕ) → n + 1 ≤ p → p ≢ n
    after p from same = omega (arith, from, same)

    one_more : OpenedSoFar s books (n + 1) first c
    one_more = record {
      stays = later first b c was.stays holder;
      known = λ f. (to f, back f);
      next = λ p from small. others_may_open settings_of knows has_role Stays (λ x y h. h.settings) (λ x y q h. roles_same x y q h) b c s n p
          (live_taken n (K n)) holder (after p from) truly opened (was.next p (omega (arith, from)) small);
    }

  -- the places of one participant more were opened
  pub more_opened : (n : ℕ) (first b c : SharedBoard) (book : Book) → OpenedSoFar s books n first b → n < participants s → IsCarriedBook s books n book → Stays b c
      → ((k : Place) → KnowsTruly book.settings.margin knows c k) → OpensPlaces knows book.settings book.who (live_taken book.who book.events) b c → OpenedSoFar s books (n + 1) first c
  more_opened n first b c book was below is holder truly opens =
      one_more n first b c was below holder
      (subst (λ (t : HubSettings). (k : Place) → KnowsTruly t.margin knows c k) is.settings_are truly)
      (subst (λ (t : HubSettings). OpensPlaces knows t n (live_taken n (K n)) b c) is.settings_are
      (subst (λ (q : ℕ). OpensPlaces knows book.settings q (live_taken q (K n)) b c) is.who_is
      (subst (λ (events : List Event). OpensPlaces knows book.settings book.who (live_taken book.who events) b c) is.events_are opens)))

-- the book at this place of the slots
pub carried_at : (s : HubSettings) (books : ℕ → List Event) (slots : List Book) (k : ℕ) (slot : Book) → AreCarriedSlots s books slots → k < length slots → slot ≡ get_or slots k slot → IsCarriedBook s books k slot
carried_at s books slots k slot are below is = are.each k slot (slice_get-get_or slots k slot below ∙ ap (λ (x : Book). Some x) (sym is))

pub few_carried : (s : HubSettings) (books : ℕ → List Event) (slots : List Book) (k : ℕ) → AreCarriedSlots s books slots → k < length slots → k < participants s
few_carried s books slots k are below = subst (λ (n : ℕ). k < n) are.enough below

pub carried_participant : (s : HubSettings) (books : ℕ → List Event) (p : ℕ) (book : Book) → IsCarriedBook s books p book → p < participants s → is_participant book.settings book.who ≡ true
carried_participant s books p book is below =
    ap (λ (t : HubSettings). is_participant t book.who) is.settings_are ∙ (ap (is_participant s) is.who_is ∙ lt-ltb p (participants s) below)

pub carried_ends : (s : HubSettings) (books : ℕ → List Event) (p : ℕ) (book : Book) → IsCarriedBook s books p book → carried book.events ≡ book.events
carried_ends s books p book is = subst (λ (events : List Event). carried events ≡ events) (sym is.events_are) (carried_opened (books p))

pub carried_may : (s : HubSettings) (books : ℕ → List Event) (p : ℕ) (book : Book) (b : SharedBoard) → IsCarriedBook s books p book → MayOpenAgain settings_of knows has_role b s p → MayOpenAgain settings_of knows has_role b book.settings book.who
carried_may s books p book b is may =
    subst (λ (t : HubSettings). MayOpenAgain settings_of knows has_role b t book.who) (sym is.settings_are)
    (subst (λ (q : ℕ). MayOpenAgain settings_of knows has_role b s q) (sym is.who_is) may)

pub pairs_length : {A B C : Type 0} (pair : A → B → C) (xs : List A) (ys : List B) → length ys ≡ length xs → length (pairs pair xs ys) ≡ length xs
pairs_length pair [] ys e = refl
pairs_length pair (x ∷ xs) [] e = absurd (omega arith)
pairs_length pair (x ∷ xs) (y ∷ ys) e = ap suc (pairs_length pair xs ys (omega arith))

pub pairs_at : {A B C : Type 0} (pair : A → B → C) (xs : List A) (ys : List B) (p : ℕ) (x : A) (y : B) → slice_get xs p ≡ Some x → slice_get ys p ≡ Some y → slice_get (pairs pair xs ys) p ≡ Some (Some (pair x y))
pairs_at pair [] ys p x y e f = let no : ⊥ = cc in absurd no
pairs_at pair (z ∷ xs) [] p x y e f = let no : ⊥ = cc in absurd no
pairs_at pair (z ∷ xs) (w ∷ ys) zero x y e f = let a : z ≡ x = cc in let b : w ≡ y = cc in λ i. Some (Some (pair (a i) (b i)))
pairs_at pair (z ∷ xs) (w ∷ ys) (suc p) x y e f = pairs_at pair xs ys p x y e f

-- one more participant is put into its box
pub one_pair : (all more : List (Option (Box Participant))) (b : Box Participant) (slot : Book) (board : SharedBoard) (slots slots_left : List Book) (boards boards_left : List SharedBoard) (whole : List (Option Participant))
    → b.value ≡ seated slot board → more ≡ all ++ Some b ∷ [] → slots ≡ slot ∷ slots_left → boards ≡ board ∷ boards_left
    → unboxed all ++ pairs seated slots boards ≡ whole → unboxed more ++ pairs seated slots_left boards_left ≡ whole
one_pair all more b slot board slots slots_left boards boards_left whole in_box grown s t e =
    let rest = pairs seated slots_left boards_left in
    ap (λ (l : List (Option (Box Participant))). unboxed l ++ rest) grown
    ∙ (ap (λ (l : List (Option Participant)). l ++ rest) (unboxed_push all b)
    ∙ (append_assoc (unboxed all) (Some b.value ∷ []) rest
    ∙ (ap (λ (x : Participant). unboxed all ++ Some x ∷ rest) in_box
    ∙ (sym (ap (λ (l : List Book). unboxed all ++ pairs seated l boards) s ∙ ap (λ (l : List SharedBoard). unboxed all ++ pairs seated (slot ∷ slots_left) l) t) ∙ e))))

pub one_less : {A B : Type 0} (x : A) (y : B) (xs xs_left : List A) (ys ys_left : List B) → xs ≡ x ∷ xs_left → ys ≡ y ∷ ys_left → length ys ≡ length xs → length ys_left ≡ length xs_left
one_less x y xs xs_left ys ys_left s t e =
    let a : length xs ≡ suc (length xs_left) = ap length s in
    let b : length ys ≡ suc (length ys_left) = ap length t in
    omega (arith, a, b, e)

-- the slots of a world that begins are carried over an opening
pub slots_carried : (s : HubSettings) (books : ℕ → List Event) (world : World) → world.board.settings ≡ s → IsWorld world → HasRun (FromBooks books) [] world → AreCarriedSlots s books world.books
slots_carried s books world same hub ran = record {
  enough = hub.one_each ∙ ap participants same;
  each = λ p book there. let m = hub.member p book there in record { settings_are = m.settings_are ∙ same; who_is = m.who_is; events_are = ran.histories p book there };
}

module _ (s : HubSettings) (books : ℕ → List Event) (can : BooksCanOpen s books) (world : World) (same : world.board.settings ≡ s) (hub : IsWorld world) (ran : HasRun (FromBooks books) [] world)
    (first whole : SharedBoard) (stays : Stays first whole) (begun : settings_of first ≡ s) (known : (f : Fact) → knows whole f ↔ IsOpenedBelow s books (participants s) f) where
  stands : IsBoardOf s (FromBooks books) [] world.board
  stands = subst (λ (t : HubSettings). IsBoardOf t (FromBooks books) [] world.board) same ran.board

  moved : (p : ℕ) (b : SharedBoard) → IsDealt (settings_of whole) (table_of whole) (knows whole) p b → (f : Fact) → knows b f ↔ plain_knows world.board f
  moved p b d f = (
    λ h. (begun_known s books can world.board stands f).1 ((known f).0 ((d.known f).0 h)),
    λ h. (d.known f).1 ((known f).1 ((begun_known s books can world.board stands f).0 h)),
  )

  pub member_behind : (p : ℕ) (book : Book) (b : SharedBoard) → slice_get world.books p ≡ Some book → IsDealt (settings_of whole) (table_of whole) (knows whole) p b → IsBehind first p (seated book b)
  member_behind p book b there d =
      let m = hub.member p book there in
      record {
        one = (d.table ∙ stays.table, d.settings ∙ stays.settings);
        who = m.who_is;
        ready = record {
          lawful = lawful_moved (λ (x : Contents). x.settings) plain_knows (λ x q. Unit {0}) settings_of knows has_role world.board b book
              (d.settings ∙ (stays.settings ∙ (begun ∙ sym same))) ((d.role book.who).1 m.who_is) (moved p b d) m.lawful;
          adopted = m.adopted;
        };
      }

  -- the participants behind their locks
  pub behind_again : (boards : List SharedBoard) → AreDealt whole boards → AreBehind first (participants s) (λ p. books p ++ Opened ∷ []) (pairs seated world.books boards)
  behind_again boards dealt =
      let slots : length world.books ≡ participants s = hub.one_each ∙ ap participants same in
      let enough : length boards ≡ participants s = dealt.enough ∙ ap participants (stays.settings ∙ begun) in
      record {
        enough = pairs_length seated world.books boards (enough ∙ sym slots) ∙ slots;
        each = λ p below.
            let x = slice_get_at world.books p (subst (λ (n : ℕ). p < n) (sym slots) below) in
            let y = slice_get_at boards p (subst (λ (n : ℕ). p < n) (sym enough) below) in
            (seated x.0 y.0, pairs_at seated world.books boards p x.0 y.0 x.1 y.1, member_behind p x.0 y.0 x.1 (dealt.each p y.0 y.1), ran.histories p x.0 x.1);
      }

pub if_ok_then : {A E : Type 0} (P Q : A → Type 0) (r : Result A E) → ((a : A) → P a → Q a) → IfOk r P → IfOk r Q
if_ok_then P Q (Ok a) f h = f a h
if_ok_then P Q (Err e) f h = tt

ok_not_err : {A E : Type 0} (r : Result A E) (a : A) (e : E) → r ≡ Ok a → r ≡ Err e → ⊥
ok_not_err r a e p q = cc

-- where the board was opened there are so many tellers as a hub may have
pub may_open : {A E : Type 0} (r : Result A E) (a : A) (e : E) (n : ℕ) → r ≡ Ok a → (¬ MayOpen n → r ≡ Err e) → MayOpen n
may_open r a e n ok bad = (
  dite (ℕ_discrete n 0) (λ none. absurd (ok_not_err r a e ok (bad (λ may. absurd (omega (arith, may.0, none)))))) (λ some. omega (arith, some)),
  dite (ℕ_discrete (n - 16) 0) (λ few. omega (arith, few)) (λ many. absurd (ok_not_err r a e ok (bad (λ may. absurd (omega (arith, may.1, many)))))),
)

-- the tellers' eyes know of no place
pub blank_admitted : (words w : SharedBoard) (n : ℕ) (sights : List Sight) → AreAdmitted words n sights → w ≡ words → AreBlank w sights
blank_admitted words w n sights are e i t at =
    let a = are.each i t at in
    subst (λ (b : SharedBoard). IsBlank b t) (sym e) (blank a)
  where
    blank : IsAdmitted (settings_of words) (table_of words) t → IsBlank words t
    blank a = record { one = (a.table, a.settings); nothing = a.nothing }
