-- Transfers that were carried over an opening find their places, one place after another.
use Rattle.std.proofs.Common.{◌≡◌, ◌≢◌, ℕ, zero, suc, ◌+◌, ◌<◌, ◌==◌, Bool, true, false, ◌&&◌, cond, List, [], ◌∷◌, length, set, Option, Some, None, is_some, is_none, refl, sym, ap, subst, ◌∙◌, inl, inr, ◌⊎◌, arith, length-set, get_or}
use Rattle.std.specs.Prelude.{slice_get, map, Contains, IsTrue, nat_lt}
use Rattle.std.proofs.lemmas.Bool.{cases_eq, and_parts, and_from, eq-eqb, ltb-true}
use Rattle.std.proofs.lemmas.Option.{slice_get-get_or}
use Rattle.std.proofs.lemmas.List.Elements.{Contains-append_right}
use Rattle.inst_base.proofs.Lists.{get_set, get_set_other, set_cases}
use Rattle.inst_settings.specs.Settings.{HubSettings, participants, is_participant}
use Rattle.inst_terms.specs.declared.terms.Terms.{Terms}
use Rattle.inst_command.specs.declared.place.Place.{Place}
use Rattle.inst_board.specs.declared.about.About.TheVariants.{Opened}
use Rattle.inst_board.specs.declared.look.Look.{Look}
use Rattle.inst_board.specs.declared.look.Look.TheVariants.{Pending}
use Rattle.inst_board.specs.Standing.{Standing, unused, pending, decided, Says, look_of, about, is_place}
use Rattle.inst_board.specs.Learning.{Looks}
use Rattle.inst_board.specs.Plain.{Contents, standing_at, plain_knows, plain_stood, known_is_place}
use Rattle.inst_board.specs.Laws.{SayTheSame}
use Rattle.inst_slot.specs.declared.arrival.Arrival.{Arrival}
use Rattle.inst_slot.specs.Book.{events_of, Book, place_at, terms_to}
use Rattle.inst_slot.specs.LawfulBoard.{IsLawfulBoard, KeepsOthers}
use Rattle.inst_slot.specs.Opening.{is_arrival_of, is_unfound, awaits, arrival_found_at, with_found}
use Rattle.inst_model.proofs.TextsTestsAndFirstThings.{same_transfer_refl}
use Rattle.inst_world.specs.HasRun.{World, world_settings}
use Rattle.inst_world.specs.inner.NextOpening.{IsCarrying, IsCarryingWorld, StandsBefore, HaveFoundBefore, OnlyFinds}
use Rattle.inst_world.proofs.PlaceOfKnownTransfer.{IsTheSame, say_pending, same_through, looked}
use Rattle.inst_world.proofs.DeliveryAndResolutionFollowModel.{board_looked}

-- nothing happened
pub finds_none : (world : World) → OnlyFinds world world
finds_none world = record { settings_are = refl; histories = λ p. refl; board_says = λ k a. (λ h. h, λ h. h) }

pub finds_on : (one two three : World) → OnlyFinds one two → OnlyFinds two three → OnlyFinds one three
finds_on one two three first second = record {
  settings_are = second.settings_are ∙ first.settings_are;
  histories = λ p. second.histories p ∙ first.histories p;
  board_says = λ k. same_through (standing_at three.board k) (standing_at two.board k) (standing_at one.board k) (second.board_says k) (first.board_says k);
}

pub below : (m n : ℕ) → m < n + 1 → m ≢ n → m < n
below zero zero less other = absurd (other refl)
below zero (suc n) less other = omega arith
below (suc m) zero less other = absurd (omega (arith, less))
below (suc m) (suc n) less other = let rest = below m n (omega (arith, less)) (λ e. other (ap suc e)) in omega (arith, rest)

-- a place before the next one stands before this one, or is this one
place_further : (owner index : ℕ) (k : Place) → StandsBefore owner (index + 1) k → StandsBefore owner index k ⊎ (k ≡ place_at owner index)
place_further owner index k (inl before) = inl (inl before)
place_further owner index k (inr same) = elim (cases_eq k.index index) [
  | inl here ↦ inr (λ i. record { owner = same.0 i; index = here i })
  | inr other ↦ inl (inr (same.0, below k.index index same.1 other))
]

mapped : {A B : Type 0} (f : A → B) (xs : List A) (y : B) → Contains (map f xs) y → (x : A) × (Contains xs x × (f x ≡ y))
mapped f [] y (i, below, is) = absurd (omega (arith, below))
mapped f (x ∷ xs) y (zero, below, is) = (x, ((zero, omega arith, refl), is))
mapped f (x ∷ xs) y (suc i, below, is) =
    let rest = mapped f xs y (i, omega (arith, below), is) in
    (rest.0, (Contains-append_right (x ∷ []) xs rest.0 rest.1.0, rest.1.1))

module _ (k : Place) (t : Terms) (d : ℕ) (x : Arrival) where
  entry_kept : (arrival_found_at k t d x).entry ≡ x.entry
  entry_kept = go (awaits k t d x)
    where
      go : (b : Bool) → (cond b (record { entry = x.entry; index = Some k.index }) x).entry ≡ x.entry
      go true = refl
      go false = refl

  found_kept : is_some x.index ≡ true → is_some (arrival_found_at k t d x).index ≡ true
  found_kept some = go (awaits k t d x)
    where
      go : (b : Bool) → is_some (cond b (record { entry = x.entry; index = Some k.index }) x).index ≡ true
      go true = refl
      go false = some

  found_there : is_arrival_of k.owner t.id x ≡ true → (x.entry.cents == t.cents) ≡ true → (x.entry.deadline == d) ≡ true → is_some (arrival_found_at k t d x).index ≡ true
  found_there named cents due = go x.index refl
    where
      go : (o : Option ℕ) → x.index ≡ o → is_some (arrival_found_at k t d x).index ≡ true
      go (Some i) some = found_kept (ap is_some some)
      go None none =
          let all : awaits k t d x ≡ true =
          and_from (is_arrival_of k.owner t.id x && is_unfound x && (x.entry.cents == t.cents)) (x.entry.deadline == d)
          (and_from (is_arrival_of k.owner t.id x && is_unfound x) (x.entry.cents == t.cents) (and_from (is_arrival_of k.owner t.id x) (is_unfound x) named (ap is_none none)) cents) due in
          ap (λ (b : Bool). is_some (cond b (record { entry = x.entry; index = Some k.index }) x).index) all

-- nothing is pending at the place
pub passes_by : (world : World) (c : Contents) (k : Place) → c ≡ world.board → ((t : Terms) (d : ℕ) → standing_at world.board k ≡ pending t d → ⊥) → HaveFoundBefore k.owner k.index world
    → HaveFoundBefore k.owner (k.index + 1) (record { books = world.books; board = c })
passes_by world c k same none found p book there x has i before is =
    let stands : standing_at world.board (place_at x.entry.from i) ≡ pending (terms_to p x.entry.cents x.entry.id) x.entry.deadline = ap (λ (b : Contents). standing_at b (place_at x.entry.from i)) (sym same) ∙ is in
    elim (place_further k.owner k.index (place_at x.entry.from i) before) [
      | inl earlier ↦ found p book there x has i earlier stands
      | inr here ↦ absurd (none (terms_to p x.entry.cents x.entry.id) x.entry.deadline (ap (standing_at world.board) (sym here) ∙ stands))
    ]

-- the beneficiary finds what is pending at the place
module _ (books : List Book) (b c : Contents) (k : Place) (t : Terms) (d i : ℕ) (slot new : Book) (world : IsCarryingWorld (record { books = books; board = b })) (here : standing_at b k ≡ pending t d)
    (below : i < length books) (number : i ≡ t.to) (there : slice_get books t.to ≡ Some slot) (same : IsTheSame b c) (is : new ≡ with_found slot k (Pending t d)) where
  who_is : slot.who ≡ t.to
  who_is = (world.member t.to slot there).who_is

  new_is : new ≡ record slot { arrivals = map (arrival_found_at k t d) slot.arrivals }
  new_is = is ∙ ap (λ (x : Bool). cond x (record slot { arrivals = map (arrival_found_at k t d) slot.arrivals }) slot) (eq-eqb t.to slot.who (sym who_is))

  was_pending : (j : Place) (u : Terms) (e : ℕ) → standing_at c j ≡ pending u e → standing_at b j ≡ pending u e
  was_pending j u e stands =
      say_pending (standing_at b j) u e (subst (λ (q : Standing). SayTheSame (standing_at b j) q) stands (λ a. ((same j a).1, (same j a).0)))

  pub now_found : HaveFoundBefore k.owner k.index (record { books = books; board = b }) → HaveFoundBefore k.owner (k.index + 1) (record { books = set books i new; board = c })
  now_found found p book at x has n before stands =
      let stood : standing_at b (place_at x.entry.from n) ≡ pending (terms_to p x.entry.cents x.entry.id) x.entry.deadline =
      was_pending (place_at x.entry.from n) (terms_to p x.entry.cents x.entry.id) x.entry.deadline stands in
      elim (set_cases books i p new book below at) [
        | inl own ↦
            let mine : p ≡ t.to = own.0 ∙ number in
            let held : Contains (map (arrival_found_at k t d) slot.arrivals) x = subst (λ (y : Book). Contains y.arrivals x) (own.1 ∙ new_is) has in
            let y = mapped (arrival_found_at k t d) slot.arrivals x held in
            let entry : x.entry ≡ y.0.entry = ap (λ (z : Arrival). z.entry) (sym y.1.1) ∙ entry_kept k t d y.0 in
            elim (place_further k.owner k.index (place_at x.entry.from n) before) [
              | inl earlier ↦
                  let was : is_some y.0.index ≡ true = found t.to slot there y.0 y.1.0 n
                  (subst (λ (e : _). StandsBefore k.owner k.index (place_at e.from n)) entry earlier)
                  (subst (λ (q : ℕ). standing_at b (place_at y.0.entry.from n) ≡ pending (terms_to q y.0.entry.cents y.0.entry.id) y.0.entry.deadline) mine
                  (subst (λ (e : _). standing_at b (place_at e.from n) ≡ pending (terms_to p e.cents e.id) e.deadline) entry stood)) in
                  ap (λ (z : Arrival). is_some z.index) (sym y.1.1) ∙ found_kept k t d y.0 was
              | inr at_k ↦
                  let e : pending t d ≡ pending (terms_to p x.entry.cents x.entry.id) x.entry.deadline = sym here ∙ ap (standing_at b) (sym at_k) ∙ stood in
                  let terms_are : t ≡ terms_to p x.entry.cents x.entry.id = cc in
                  let due : d ≡ x.entry.deadline = cc in
                  let owner : x.entry.from ≡ k.owner = ap (λ (j : Place). j.owner) at_k in
                  let named : is_arrival_of x.entry.from x.entry.id y.0 ≡ true = subst (λ (z : _). is_arrival_of x.entry.from x.entry.id (record { entry = z; index = y.0.index }) ≡ true) entry (same_transfer_refl x.entry.from x.entry.id) in
                  let of_k : is_arrival_of k.owner t.id y.0 ≡ true = ap (λ (f : ℕ). is_arrival_of f t.id y.0) (sym owner) ∙ ap (λ (u : Terms). is_arrival_of x.entry.from u.id y.0) terms_are ∙ named in
                  ap (λ (z : Arrival). is_some z.index) (sym y.1.1)
                  ∙ found_there k t d y.0 of_k
                  (eq-eqb y.0.entry.cents t.cents (ap (λ (z : _). z.cents) (sym entry) ∙ ap (λ (u : Terms). u.cents) (sym terms_are)))
                  (eq-eqb y.0.entry.deadline d (ap (λ (z : _). z.deadline) (sym entry) ∙ sym due))
            ]
        | inr other ↦ elim (place_further k.owner k.index (place_at x.entry.from n) before) [
          | inl earlier ↦ found p book other.1 x has n earlier stood
          | inr at_k ↦
              let e : pending t d ≡ pending (terms_to p x.entry.cents x.entry.id) x.entry.deadline = sym here ∙ ap (standing_at b) (sym at_k) ∙ stood in
              let terms_are : t ≡ terms_to p x.entry.cents x.entry.id = cc in
              absurd (other.0 (sym (ap (λ (u : Terms). u.to) terms_are) ∙ sym number))
        ]
      ]

  pub now_carrying : c.settings ≡ b.settings → IsLawfulBoard (λ (x : Contents). x.settings) plain_knows (λ x q. Unit {0}) c new → KeepsOthers (λ (x : Contents). x.settings) plain_knows (λ x q. Unit {0}) b slot.who c
      → IsCarryingWorld (record { books = set books i new; board = c })
  now_carrying stays lawful others = record {
    one_each = length-set books i new ∙ world.one_each ∙ ap participants (sym stays);
    member = λ p book at. elim (set_cases books i p new book below at) [
      | inl own ↦ subst (λ (x : Book). IsCarrying c.settings c p x) (sym own.1) (record {
        settings_are = ap (λ (x : Book). x.settings) new_is ∙ (world.member t.to slot there).settings_are ∙ sym stays;
        who_is = ap (λ (x : Book). x.who) new_is ∙ who_is ∙ sym number ∙ sym own.0;
        lawful = lawful;
      })
      | inr other ↦
          let m = world.member p book other.1 in
          record {
            settings_are = m.settings_are ∙ sym stays;
            who_is = m.who_is;
            lawful = others book (λ e. other.0 (sym m.who_is ∙ e ∙ who_is ∙ sym number)) m.lawful;
          }
    ];
    addressed = λ j u e stands. ap (λ (s : HubSettings). is_participant s u.to) stays ∙ world.addressed j u e (was_pending j u e stands);
  }

  pub now_finds : c.settings ≡ b.settings → OnlyFinds (record { books = books; board = b }) (record { books = set books i new; board = c })
  now_finds stays = record {
    settings_are = stays;
    histories = λ p. elim (cases_eq p i) [
      | inl own ↦
          ap (λ (q : ℕ). events_of (slice_get (set books i new) q)) own ∙ ap events_of (get_set books i new below) ∙ ap (λ (x : Book). x.events) new_is
          ∙ ap events_of (sym there) ∙ ap (λ (q : ℕ). events_of (slice_get books q)) (sym number ∙ sym own)
      | inr other ↦ ap events_of (get_set_other books i p new other)
    ];
    board_says = λ j. same j;
  }

-- what one looks at is pending
pub pending_look : (p : Standing) (t : Terms) (d : ℕ) → look_of p ≡ Pending t d → p ≡ pending t d
pending_look unused t d e = let no : ⊥ = cc in absurd no
pending_look (pending u f) t d e = let terms : u ≡ t = cc in let due : f ≡ d = cc in λ i. pending (terms i) (due i)
pending_look (decided u f o m) t d e = let no : ⊥ = cc in absurd no

-- the slot to whose participant the transfer is addressed
pub record IsHeld (books : List Book) (t : Terms) (i : ℕ) (slot : Book) : Type 0 where
  pub below : i < length books
  pub number : i ≡ t.to
  pub there : slice_get books t.to ≡ Some slot

pub is_held : (books : List Book) (b : Contents) (k : Place) (t : Terms) (d i : ℕ) (slot : Book) → IsCarryingWorld (record { books = books; board = b }) → standing_at b k ≡ pending t d → i ≡ t.to → slot ≡ get_or books i slot → IsHeld books t i slot
is_held books b k t d i slot world here number is =
    let below : i < length books = omega (arith, ltb-true t.to (participants b.settings) (world.addressed k t d here), world.one_each) in
    record {
      below = below;
      number = number;
      there = ap (slice_get books) (sym number) ∙ slice_get-get_or books i slot below ∙ ap (λ (x : Book). Some x) (sym is);
    }

module _ (books : List Book) (b m c : Contents) (k : Place) (t : Terms) (d i : ℕ) (slot new : Book) (look : Look) (world : IsCarryingWorld (record { books = books; board = b })) (still : m ≡ b)
    (shown : Pending t d ≡ look_of (standing_at b k)) (number : i ≡ t.to) (held : slot ≡ get_or books i slot) where
  carries : IsCarryingWorld (record { books = books; board = m })
  carries = subst (λ (x : Contents). IsCarryingWorld (record { books = books; board = x })) (sym still) world

  pends : standing_at m k ≡ pending t d
  pends = ap (λ (x : Contents). standing_at x k) still ∙ pending_look (standing_at b k) t d (sym shown)

  its : IsHeld books t i slot
  its = is_held books m k t d i slot carries pends number held

  pub its_lawful : IsLawfulBoard (λ (x : Contents). x.settings) plain_knows (λ x q. Unit {0}) m slot
  its_lawful = (carries.member t.to slot its.there).lawful

  module _ (margin : ℕ) (looks : Looks margin plain_knows (λ _ _. Unit {0}) plain_stood m k look c) (is : new ≡ with_found slot k look) where
    same : IsTheSame m c
    same = board_looked m c k (looked margin m c k look looks).1

    finds : new ≡ with_found slot k (Pending t d)
    finds = is ∙ ap (with_found slot k) ((looked margin m c k look looks).0 ∙ ap look_of pends)

    pub adopted_found : HaveFoundBefore k.owner k.index (record { books = books; board = b }) → HaveFoundBefore k.owner (k.index + 1) (record { books = set books i new; board = c })
    adopted_found found =
        now_found books m c k t d i slot new carries pends its.below number its.there same finds
        (subst (λ (x : Contents). HaveFoundBefore k.owner k.index (record { books = books; board = x })) (sym still) found)

    pub adopted_carrying : c.settings ≡ m.settings → IsLawfulBoard (λ (x : Contents). x.settings) plain_knows (λ x q. Unit {0}) c new → KeepsOthers (λ (x : Contents). x.settings) plain_knows (λ x q. Unit {0}) m slot.who c
        → IsCarryingWorld (record { books = set books i new; board = c })
    adopted_carrying stays lawful others = now_carrying books m c k t d i slot new carries pends its.below number its.there same finds stays lawful others

    pub adopted_finds : c.settings ≡ m.settings → OnlyFinds (record { books = books; board = b }) (record { books = set books i new; board = c })
    adopted_finds stays =
        subst (λ (x : Contents). OnlyFinds (record { books = books; board = x }) (record { books = set books i new; board = c })) still
        (now_finds books m c k t d i slot new carries pends its.below number its.there same finds stays)

-- each place of the originator stands before the next one's
pub owner_done : (world : World) (owner places : ℕ) → places ≡ (world_settings world).places → HaveFoundBefore owner places world → HaveFoundBefore (owner + 1) 0 world
owner_done world owner places all found p book there x has i before is = found p book there x has i (within before) is
  where
    k : Place
    k = place_at x.entry.from i

    index_below : k.index < places
    index_below =
        let opened : plain_knows world.board (about k Opened) = subst (λ (q : Standing). Says q Opened) (sym is) tt in
        let has_it : IsTrue (is_place (world_settings world) k) = known_is_place world.board k Opened opened in
        let parts = and_parts (nat_lt k.owner (participants (world_settings world))) (nat_lt k.index (world_settings world).places) has_it in
        omega (arith, ltb-true k.index (world_settings world).places parts.1, all)

    within : StandsBefore (owner + 1) 0 k → StandsBefore owner places k
    within (inr same) = absurd (omega (arith, same.1))
    within (inl less) = elim (cases_eq k.owner owner) [
      | inl here ↦ inr (here, index_below)
      | inr other ↦ inl (below k.owner owner less other)
    ]

pub none_before : (world : World) → HaveFoundBefore 0 0 world
none_before world p book there x has i (inl less) is = absurd (omega (arith, less))
none_before world p book there x has i (inr same) is = absurd (omega (arith, same.1))
