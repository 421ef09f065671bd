-- The books of all participants over one board: one of them is settled, and the others stay what they were.
use Rattle.std.proofs.Common.{◌≡◌, ◌≢◌, ℕ, ◌+◌, ◌<◌, ◌≤◌, arith, List, length, length-set, set, get_or, inl, inr, ⊎_elim, sym, ap, ◌∙◌, subst, Some}
use Rattle.std.specs.Prelude.{slice_get, ◌↔◌, Result, Ok, Err, IfOk, nat_lt}
use Rattle.std.proofs.lemmas.Bool.{cases_eq, and_parts, ltb-true}
use Rattle.std.proofs.lemmas.Option.{slice_get-get_or, slice_get_within}
use Rattle.inst_base.proofs.Lists.{get_set, get_set_other, set_cases}
use Rattle.inst_settings.specs.Settings.{HubSettings, participants}
use Rattle.inst_command.specs.declared.place.Place.{Place}
use Rattle.inst_board.specs.declared.about.About.{About}
use Rattle.inst_board.specs.declared.about.About.TheVariants.{Opened, HasTerms, Decided}
use Rattle.inst_board.specs.declared.about.Fact.{Fact}
use Rattle.inst_board.specs.Standing.{about, IsPlace}
use Rattle.inst_journal.specs.declared.event.Event.{Event}
use Rattle.inst_journal.specs.Sound.{IsSound}
use Rattle.inst_model.specs.Closing.{AreClosed, OnlyTold}
use Rattle.inst_model.specs.Opening.{Opening, IsOpening}
use Rattle.inst_slot.specs.Book.{events_of, Book, place_at}
use Rattle.inst_participant.specs.Together.{histories, IsMemberBook, HasSettledAll}
use Rattle.inst_participant.specs.InTheBooks.{IsInTheBooks}
use Rattle.inst_participant.proofs.BooksOverOneBoardFit.{addressed, opened_before, are_closed, in_the_books}
use Rattle.inst_participant.specs.Settling.{IsReadyToSettle, IsLater}
use Rattle.inst_participant.specs.Parts.{AreParts, IsSettledAt, AreLaterParts}
use Rattle.inst_participant.proofs.SettlementPlaceByPlace.{told_nothing, told_on}

pub if_ok : {A E : Type 0} (r : Result A E) (P Q : A → Type 0) → ((v : A) → P v → Q v) → IfOk r P → IfOk r Q
if_ok (Ok v) P Q f h = f v h
if_ok (Err e) P Q f h = tt

module _ {B : Type 0} (settings : B → HubSettings) (knows : B → Fact → Type 0) (has_role : B → ℕ → Type 0) (stays : B → B → Type 0)
    (stays_settings : (a b : B) → stays a b → settings b ≡ settings a) (stays_roles : (a b : B) (p : ℕ) → stays a b → has_role a p ↔ has_role b p)
    (stays_on : (a b c : B) → stays a b → stays b c → stays a c) (stays_still : (a : B) → stays a a)
    (places : (b : B) (k : Place) (a : About) → knows b (about k a) → IsPlace (settings b) k) where
  -- the book of a participant, at its number
  pub record At (b : B) (O : Opening) (books : List Book) (p i : ℕ) (x : Book) : Type 0 where
    pub below : i < length books
    pub same : i ≡ p
    pub there : slice_get books i ≡ Some x
    pub member : IsMemberBook settings knows has_role b (settings b) O i x
    pub ready : IsReadyToSettle settings knows has_role b x

  owner_of : (b : B) (k : Place) → knows b (about k Opened) → k.owner < participants (settings b)
  owner_of b k opened = ltb-true k.owner (participants (settings b)) (and_parts (nat_lt k.owner (participants (settings b))) (nat_lt k.index (settings b).places) (places b k Opened opened)).0

  pub at : (b : B) (O : Opening) (books : List Book) (p i : ℕ) (x : Book) → AreParts settings knows has_role b O books → p < participants (settings b) → i ≡ p → x ≡ get_or books i x → At b O books p i x
  at b O books p i x parts number same here =
      let below : i < length books = omega (arith, same, number, parts.together.one_each) in
      let there : slice_get books i ≡ Some x = slice_get-get_or books i x below ∙ ap (λ (y : Book). Some y) (sym here) in
      let m = parts.together.member i x there in
      record {
        below = below;
        same = same;
        there = there;
        member = m;
        ready = record {
          participant = omega (arith, m.who_is, same, number);
          lawful = m.lawful;
          adopted = m.adopted;
          all = record {
            role = parts.roles;
            addressed = λ k t opened has. parts.roles t.to (addressed settings knows has_role b (settings b) O parts.opening books parts.together k t (owner_of b k opened) opened has);
            in_order = λ k index less opened. opened_before settings knows has_role b (settings b) O parts.opening books parts.together k index (owner_of b k opened) less opened;
          };
        };
      }

  module _ (b c : B) (O : Opening) (books : List Book) (p i : ℕ) (x y : Book) (a : At b O books p i x) (l : IsLater settings knows has_role stays b x c y) (r : IsReadyToSettle settings knows has_role c y) (sound : IsSound y.settings y.who y.events) where
    same_settings : settings c ≡ settings b
    same_settings = stays_settings b c l.stays_on

    its : IsMemberBook settings knows has_role c (settings c) O i y
    its =
        let s_is : y.settings ≡ settings c = l.settings_are ∙ (a.member.settings_are ∙ sym same_settings) in
        let w_is : y.who ≡ i = l.who_is ∙ a.member.who_is in
        record {
          settings_are = s_is;
          who_is = w_is;
          sound = subst (λ (q : ℕ). IsSound (settings c) q y.events) w_is (subst (λ (t : HubSettings). IsSound t y.who y.events) s_is sound);
          since = l.since ∙ a.member.since;
          lawful = r.lawful;
          adopted = r.adopted;
        }

    pub parts_after : (Q : Opening) → AreParts settings knows has_role b Q books → AreParts settings knows has_role c Q (set books i y)
    parts_after Q was = record {
      opening = subst (λ (s : HubSettings). IsOpening s Q) (sym same_settings) was.opening;
      together = record {
        one_each = length-set books i y ∙ (was.together.one_each ∙ ap participants (sym same_settings));
        member = λ q book there. elim (set_cases books i q y book a.below there) [
          | inl own ↦
              let z = was.together.member i x a.there in
              let mine : IsMemberBook settings knows has_role c (settings c) Q i y = record { settings_are = its.settings_are; who_is = its.who_is; sound = its.sound; since = l.since ∙ z.since; lawful = its.lawful; adopted = its.adopted } in
              subst (λ (w : Book). IsMemberBook settings knows has_role c (settings c) Q q w) (sym own.1) (subst (λ (n : ℕ). IsMemberBook settings knows has_role c (settings c) Q n y) (sym own.0) mine)
          | inr other ↦
              let m = was.together.member q book other.1 in
              record {
                settings_are = m.settings_are ∙ sym same_settings;
                who_is = m.who_is;
                sound = subst (λ (s : HubSettings). IsSound s q book.events) (sym same_settings) m.sound;
                since = m.since;
                lawful = l.others book (λ e. other.0 (sym m.who_is ∙ (e ∙ a.member.who_is))) m.lawful;
                adopted = m.adopted;
              }
        ];
      };
      roles = λ q below. (stays_roles b c q l.stays_on).0 (was.roles q (subst (λ (s : HubSettings). q < participants s) same_settings below));
    }

    told_at : (q : ℕ) → OnlyTold (histories books q) (histories (set books i y) q)
    told_at q = elim (cases_eq q i) [
      | inl own ↦
          let old : histories books q ≡ x.events = ap (λ (n : ℕ). events_of (slice_get books n)) own ∙ ap events_of a.there in
          let new : histories (set books i y) q ≡ y.events = ap (λ (n : ℕ). events_of (slice_get (set books i y) n)) own ∙ ap events_of (get_set books i y a.below) in
          subst (λ (J : List Event). OnlyTold J (histories (set books i y) q)) (sym old) (subst (λ (K : List Event). OnlyTold x.events K) (sym new) l.told)
      | inr other ↦ subst (λ (K : List Event). OnlyTold (histories books q) K) (ap events_of (sym (get_set_other books i q y other))) (told_nothing (histories books q))
    ]

    pub one_later : AreLaterParts settings knows has_role stays b books c (set books i y)
    one_later = record { parts = parts_after; told = told_at; known = l.known; stays_on = l.stays_on }

    pub one_settled : HasSettledAll knows c y → IsSettledAt knows c p (set books i y)
    one_settled done book there = ⊎_elim
        (λ own. subst (λ (w : Book). HasSettledAll knows c w) (sym own.1) done)
        (λ other. absurd (other.0 (sym a.same)))
        (set_cases books i p y book a.below there)

    moved : (book : Book) → HasSettledAll knows b book → HasSettledAll knows c book
    moved book done = record {
      own = λ index id to cents stamp o there kn. done.own index id to cents stamp o there ((l.known (about (place_at book.who index) (Decided o))).0 kn);
      arrived = λ z index o there is kn. done.arrived z index o there is ((l.known (about (place_at z.entry.from index) (Decided o))).0 kn);
      come = λ k t ne mine opened has. ⊎_elim
          (λ there. inl there)
          (λ ended. inr (ended.0, (l.known (about k (Decided ended.0))).1 ended.1))
          (done.come k t ne mine ((l.known (about k Opened)).0 opened) ((l.known (about k (HasTerms t))).0 has));
    }

    pub others_settled : (q : ℕ) → q ≢ p → IsSettledAt knows b q books → IsSettledAt knows c q (set books i y)
    others_settled q ne done book there = ⊎_elim
        (λ own. absurd (ne (own.0 ∙ a.same)))
        (λ other. moved book (done book other.1))
        (set_cases books i q y book a.below there)

  pub parts_on : (b c d : B) (xs ys zs : List Book) → AreLaterParts settings knows has_role stays b xs c ys → AreLaterParts settings knows has_role stays c ys d zs → AreLaterParts settings knows has_role stays b xs d zs
  parts_on b c d xs ys zs l m = record {
    parts = λ O was. m.parts O (l.parts O was);
    told = λ p. told_on (histories xs p) (histories ys p) (histories zs p) (l.told p) (m.told p);
    known = λ f. (λ h. (l.known f).0 ((m.known f).0 h), λ h. (m.known f).1 ((l.known f).1 h));
    stays_on = stays_on b c d l.stays_on m.stays_on;
  }

  -- the first n are settled
  abbrev pub SettledBelow : B → ℕ → List Book → Type 0
  SettledBelow b n books = (p : ℕ) → p < n → IsSettledAt knows b p books

  pub one_more_settled : (b c : B) (n : ℕ) (xs ys : List Book) → IsSettledAt knows c n ys → ((p : ℕ) → p ≢ n → IsSettledAt knows b p xs → IsSettledAt knows c p ys) → SettledBelow b n xs → SettledBelow c (n + 1) ys
  one_more_settled b c n xs ys here kept done p below = elim (cases_eq p n) [
    | inl same ↦ subst (λ (q : ℕ). IsSettledAt knows c q ys) (sym same) here
    | inr other ↦ kept p other (done p (less p n below other))
  ]
    where
      less : (i n : ℕ) → i < n + 1 → i ≢ n → i < n
      less i n below other = omega (arith, below, other)

  -- where all are settled they are closed
  pub closed_then : (b : B) (O : Opening) (n : ℕ) (books : List Book) → AreParts settings knows has_role b O books → participants (settings b) ≤ n → SettledBelow b n books → AreClosed (settings b) (histories books)
  closed_then b O n books parts most done =
      are_closed settings knows has_role b (settings b) O parts.opening books parts.together
      (λ p book there. done p (omega (arith, slice_get_within books p book there, parts.together.one_each, most)) book there)

  -- and what was known before is in them
  pub told_then : (d b : B) (O : Opening) (n : ℕ) (xs books : List Book) → AreLaterParts settings knows has_role stays d xs b books → AreParts settings knows has_role b O books → participants (settings b) ≤ n → SettledBelow b n books
      → (k : Place) → knows d (about k Opened) → IsInTheBooks knows d (histories books) k
  told_then d b O n xs books l parts most done k kn =
      let kn_b = (l.known (about k Opened)).1 kn in
      let i = in_the_books settings knows has_role b (settings b) O parts.opening books parts.together
      (λ p book there. done p (omega (arith, slice_get_within books p book there, parts.together.one_each, most)) book there) k (owner_of b k kn_b) kn_b in
      record { used = i.used; terms = λ t has. i.terms t ((l.known (about k (HasTerms t))).1 has); outcome = λ o ended. i.outcome o ((l.known (about k (Decided o))).1 ended) }
