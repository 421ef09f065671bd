use Rattle.std.proofs.Common.{◌≡◌, ◌≢◌, ℕ, List, [], ◌∷◌, ◌++◌, refl, sym, ap, subst, ◌∙◌}
use Rattle.std.proofs.lemmas.Bool.{true≢false}
use Rattle.inst_settings.specs.Settings.{HubSettings}
use Rattle.inst_command.specs.declared.place.Place.{Place}
use Rattle.inst_board.specs.declared.plain.Kept.{Kept}
use Rattle.inst_board.specs.declared.plain.Kept.TheVariants.{Unused}
use Rattle.inst_board.specs.Learning.{KnowsTruly}
use Rattle.inst_board.specs.Plain.{Contents, plain_knows, kept_at, standing_of}
use Rattle.inst_board.specs.Standing.{Says}
use Rattle.inst_journal.specs.declared.event.Event.{Event}
use Rattle.inst_journal.specs.Opened.{live_taken}
use Rattle.inst_slot.specs.Book.{Book}
use Rattle.inst_slot.specs.LawfulBoard.{IsLawfulBoard}
use Rattle.inst_slot.specs.Opening.{opened_again, MayOpenAgain, OpensPlaces}
use Rattle.inst_slot.proofs.SlotOpensAgain.{may_open_first, others_may_open}
use Rattle.inst_fixtures.proofs.SlotsOverOneBoard.{Stands, AreBooks, stayed, three}
use Rattle.inst_fixtures.proofs.slots.Slots.open_from.Goals as goal
use Rattle.inst_fixtures.proofs.slots.Slots.open_from.Goals.{then-has_openings_left-2, else-has_openings_left-2}

-- any may open over a board that is new
first_may : (b : Contents) (s : HubSettings) (who : ℕ) → b.settings ≡ s → ((k : Place) → kept_at b k ≡ Unused) → MayOpenAgain (λ (x : Contents). x.settings) plain_knows (λ _ _. Unit {0}) b s who
first_may b s who same nothing =
    subst (λ (x : HubSettings). MayOpenAgain (λ (y : Contents). y.settings) plain_knows (λ _ _. Unit {0}) b x who) same
    (may_open_first (λ (x : Contents). x.settings) plain_knows (λ _ _. Unit {0}) b who tt (λ f known. subst (λ (k : Kept). Says (standing_of k) f.about) (nothing f.place) known))

-- another may after one opened
next_may : (b c : Contents) (s : HubSettings) (who other : ℕ) (J : List Event) (book : Book) → c.settings ≡ b.settings → other ≢ who → book ≡ opened_again s who J
    → OpensPlaces plain_knows s who (live_taken who book.events) b c → IsLawfulBoard (λ (x : Contents). x.settings) plain_knows (λ _ _. Unit {0}) c book
    → MayOpenAgain (λ (x : Contents). x.settings) plain_knows (λ _ _. Unit {0}) b s other → MayOpenAgain (λ (x : Contents). x.settings) plain_knows (λ _ _. Unit {0}) c s other
next_may b c s who other J book holder ne is opens was may =
    let truly = subst (λ (x : Book). (k : Place) → KnowsTruly x.settings.margin plain_knows c k) is was.truly in
    others_may_open (λ (x : Contents). x.settings) plain_knows (λ _ _. Unit {0}) (λ (x y : Contents). y.settings ≡ x.settings) (λ x y e. e) (λ x y p e. (λ r. r, λ r. r))
    b c s who other (live_taken who book.events) holder ne truly opens may

-- the books of one that opened
stands : (c : Contents) (s : HubSettings) (who : ℕ) (J : List Event) (book : Book) → book ≡ opened_again s who J → IsLawfulBoard (λ (x : Contents). x.settings) plain_knows (λ _ _. Unit {0}) c book
    → Stands (λ (x : Contents). x.settings) plain_knows (λ _ _. Unit {0}) c who s book
stands c s who J book is lawful = (lawful, ap (λ (k : Book). k.who) is, ap (λ (k : Book). k.settings) is)

pub open_from-requires-clause-board : goal.open_from-requires-clause-board
open_from-requires-clause-board c =
    let n = c.in_ok-board.ensures.unused in
    first_may c.in_ok-board.board c.args.settings 0 n.0 n.1

pub open_from-requires-2-clause-board : goal.open_from-requires-2-clause-board
open_from-requires-2-clause-board c =
    let n = c.in_ok-board.ensures.unused in
    let s = c.args.settings in
    let x = c.in_ok-open_from in
    next_may c.in_ok-board.board c.open_from.new.board s 0 1 c.args.first.now.events x.field-0 x.ensures.rest.holder (λ e. cc) x.ensures.ok.slot_is x.ensures.ok.places x.ensures.ok.lawful
    (first_may c.in_ok-board.board s 1 n.0 n.1)

pub open_from-requires-3-clause-board : goal.open_from-requires-3-clause-board
open_from-requires-3-clause-board c =
    let n = c.in_ok-board.ensures.unused in
    let s = c.args.settings in
    let x = c.in_ok-open_from in
    let y = c.in_ok-open_from-2 in
    next_may c.open_from.new.board c.open_from-2.new.board s 1 2 c.args.second.now.events y.field-0 y.ensures.rest.holder (λ e. cc) y.ensures.ok.slot_is y.ensures.ok.places y.ensures.ok.lawful
    (next_may c.in_ok-board.board c.open_from.new.board s 0 2 c.args.first.now.events x.field-0 x.ensures.rest.holder (λ e. cc) x.ensures.ok.slot_is x.ensures.ok.places x.ensures.ok.lawful
    (first_may c.in_ok-board.board s 2 n.0 n.1))

pub open_from-requires-3-clause-books : goal.open_from-requires-3-clause-books
open_from-requires-3-clause-books c = elim c.if-has_openings_left-2.branch [
  | then-has_openings_left-2 w ↦ record { sound = c.requires.third; few = w.has_openings_left-are_few.ensures.left (sym w.are_few-is ∙ c.if-not-are_few.false) }
  | else-has_openings_left-2 w ↦ absurd (true≢false (sym c.if-not-are_few.false ∙ w.are_few-is ∙ w.if-has_openings_left-2.false))
]

pub invariant_of-result : goal.invariant_of-result
invariant_of-result c =
    let S = λ (b : Contents). b.settings in
    let R = λ (b : Contents) (p : ℕ). Unit {0} in
    let s = c.args.settings in
    let x = c.in_ok-open_from in
    let y = c.in_ok-open_from-2 in
    let z = c.in_ok-open_from-3 in
    let b = c.open_from.new.board in
    let d = c.open_from-2.new.board in
    let e = c.open_from-3.new.board in
    let first = stands b s 0 c.args.first.now.events x.field-0 x.ensures.ok.slot_is x.ensures.ok.lawful in
    let second = stands d s 1 c.args.second.now.events y.field-0 y.ensures.ok.slot_is y.ensures.ok.lawful in
    let third = stands e s 2 c.args.third.now.events z.field-0 z.ensures.ok.slot_is z.ensures.ok.lawful in
    let books : c.push-3.new.self.items ≡ x.field-0 ∷ y.field-0 ∷ z.field-0 ∷ [] =
    c.in_ok-push-3.ensures.items ∙ ap (λ (l : List Book). l ++ z.field-0 ∷ []) (c.in_ok-push-2.ensures.items ∙ ap (λ (l : List Book). l ++ y.field-0 ∷ []) (c.in_ok-push.ensures.items ∙ ap (λ (l : List Book). l ++ x.field-0 ∷ []) c.new-slots.ensures.items)) in
    subst (λ (l : List Book). AreBooks S plain_knows R e s l) (sym books)
    (three S plain_knows R e s x.field-0 y.field-0 z.field-0
    (stayed S plain_knows R d e 0 2 s x.field-0 (stayed S plain_knows R b d 0 1 s x.field-0 first 1 refl y.ensures.rest.others (λ q. cc)) 2 refl z.ensures.rest.others (λ q. cc))
    (stayed S plain_knows R d e 1 2 s y.field-0 second 2 refl z.ensures.rest.others (λ q. cc))
    third)
