-- The hub that was opened from copies of the books is the next one.
use Rattle.std.proofs.Common.{◌≡◌, ℕ, ◌+◌, ◌-◌, arith, length, length-append, List, [], ◌∷◌, ◌++◌, inl, inr, sym, ap, ◌∙◌, subst, ltb-false}
use Rattle.std.specs.Prelude.{nat_lt, Result, Ok, Err, IfOk}
use Rattle.std.proofs.lemmas.Bool.{cases_Bool, ltb-true}
use mathlib.Core.List.{IsPrefix}
use Rattle.inst_base.specs.declared.fault.Fault.{Fault}
use Rattle.inst_base.specs.declared.fault.Fault.TheVariants.{BadSettings}
use Rattle.inst_settings.specs.Settings.{HubSettings, participants}
use Rattle.inst_cell.specs.Opening.{MayOpen}
use Rattle.inst_journal.specs.declared.event.Event.{Event}
use Rattle.inst_journal.specs.declared.event.Event.TheVariants.{Opened}
use Rattle.inst_journal.specs.History.{History}
use Rattle.inst_journal.specs.Opened.{HasOpeningsLeft}
use Rattle.inst_model.specs.Opening.{BooksCanOpen}
use Rattle.inst_model.specs.Opening.Opening.{FromBooks}
use Rattle.inst_slot.specs.Book.{Book}
use Rattle.inst_world.specs.NextOpening.{books_of, CanOpenFrom}
use Rattle.inst_participant.specs.Together.{histories}
use Rattle.inst_participant.specs.Wider.{widened}
use Rattle.inst_row.specs.declared.view.Front.{Front}
use Rattle.inst_row.specs.Row.{row_id, key_of}
use Rattle.inst_hub.specs.declared.hub.Hub.{Hub}
use Rattle.inst_hub.specs.declared.teller.Teller.{Teller}
use Rattle.inst_hub.specs.Founding.{HasOpenedHub}
use Rattle.inst_hub.specs.NextOpening.{histories_from}
use Rattle.inst_hub.specs.Opening.{AreNew, AreFirstTellers, first_fronts}
use Rattle.inst_close.specs.ClosedHub.{ClosedHub, IsClosed}
use Rattle.inst_close.specs.Closing.{IsNextOf, AreNextTellers, next_fronts}
use Rattle.inst_close.specs.inner.NextOpening.{AreCopiesAnd}
use Rattle.inst_close.proofs.CopiesOfBooks.{can_open_wider}

pub if_both : {A E : Type 0} (r : Result A E) (P Q R : A → Type 0) → ((v : A) → P v → Q v → R v) → IfOk r P → IfOk r Q → IfOk r R
if_both (Ok v) P Q R f p q = f v p q
if_both (Err e) P Q R f p q = tt

pub both : {A E : Type 0} (r : Result A E) (P Q : A → Type 0) → IfOk r P → IfOk r Q → IfOk r (λ v. P v × Q v)
both r P Q p q = if_both r P Q (λ v. P v × Q v) (λ v x y. (x, y)) p q

-- the settings and the copies, as they were handed on, and what they were made of
pub widened_as : (closed : ClosedHub) (codes given : List (List ℕ)) (base s : HubSettings) → base ≡ closed.settings → given ≡ codes → s ≡ widened base given → s ≡ widened closed.settings codes
widened_as closed codes given base s base_is given_is s_is = s_is ∙ (ap (λ (t : HubSettings). widened t given) base_is ∙ ap (widened closed.settings) given_is)

pub can_open_as : (closed : ClosedHub) (codes : List (List ℕ)) (s : HubSettings) (n : ℕ) (journals copies : List History) → s ≡ widened closed.settings codes → n ≡ length codes → journals ≡ copies
    → IsClosed closed.settings closed.books → ((p : ℕ) → HasOpeningsLeft (histories closed.books p)) → AreCopiesAnd closed.books n copies → CanOpenFrom s journals
can_open_as closed codes s n journals copies s_is n_is journals_are is_closed few made =
    let can = can_open_wider closed.settings codes closed.books copies is_closed few (subst (λ (m : ℕ). AreCopiesAnd closed.books m copies) n_is made) in
    subst (λ (t : HubSettings). CanOpenFrom t journals) (sym s_is) (subst (λ (l : List History). CanOpenFrom (widened closed.settings codes) l) (sym journals_are) can)

-- a hub can open from the copies exactly if it can from the books
pub books_can : (s : HubSettings) (books : List Book) (n : ℕ) (journals : List History) → AreCopiesAnd books n journals → CanOpenFrom s journals → BooksCanOpen s (histories books)
books_can s books n journals copies can = subst (λ (J : ℕ → List Event). BooksCanOpen s J) (λ k p. copies.same p k) can.books

pub copies_can : (s : HubSettings) (books : List Book) (n : ℕ) (journals : List History) → AreCopiesAnd books n journals → length books + n ≡ participants s → BooksCanOpen s (histories books) → CanOpenFrom s journals
copies_can s books n journals copies many can = record {
  one_each = copies.one_each ∙ many;
  books = subst (λ (J : ℕ → List Event). BooksCanOpen s J) (λ k p. sym (copies.same p) k) can;
}

-- as many more as join
pub all_there : (old s : HubSettings) (books : List Book) (n : ℕ) → length books ≡ participants old → IsPrefix old.codes s.codes → n ≡ participants s - participants old → length books + n ≡ participants s
all_there old s books n one_each codes is = omega (arith, one_each, is, length-append old.codes codes.0, ap length codes.1)

pub next_is : (books : List Book) (journals : List History) (s : HubSettings) (h : Hub) → CanOpenFrom s journals → ((p : ℕ) → books_of journals p ≡ histories books p)
    → h.settings ≡ s → HasOpenedHub (FromBooks (books_of journals)) h → IsNextOf books h
next_is books journals s h can same settings_are opened = record {
  from = books_of journals;
  same = same;
  opened = (subst (λ (t : HubSettings). BooksCanOpen t (books_of journals)) (sym settings_are) can.books, opened);
}

pub next_tellers : (books : List Book) (journals : List History) (h : Hub) (n : ℕ) (tellers : List Teller) → ((p : ℕ) → books_of journals p ≡ histories books p)
    → AreFirstTellers h n (histories_from journals) tellers → AreNextTellers books h tellers
next_tellers books journals h n tellers same first =
    let fronts : first_fronts (participants h.settings) (histories_from journals) ≡ next_fronts books (participants h.settings) = λ k. first_fronts (participants h.settings) (λ p. same p k ++ Opened ∷ []) in
    record { of = first.of; parts = first.parts; new = subst (λ (fs : List (Front Event)). AreNew (row_id h.row) (key_of h.row) fs tellers) fronts first.new }

pub seats_if_ok : {A : Type 0} (r : Result A Fault) (tellers : ℕ) → ((MayOpen tellers → ⊥) → r ≡ Err BadSettings) → IfOk r (λ v. MayOpen tellers)
seats_if_ok (Err e) tellers bad = tt
seats_if_ok (Ok v) tellers bad = elim (cases_Bool (nat_lt tellers 1)) [
  | inl none ↦ absurd (is_ok_still (bad (λ may. omega (arith, may.0, ltb-true tellers 1 none))))
  | inr some_seats ↦ elim (cases_Bool (nat_lt 16 tellers)) [
    | inl many ↦ absurd (is_ok_still (bad (λ may. omega (arith, may.1, ltb-true 16 tellers many))))
    | inr few ↦ (ltb-false tellers 1 some_seats, ltb-false 16 tellers few)
  ]
]
  where
    is_ok_still : Ok v ≡ Err BadSettings → ⊥
    is_ok_still e = cc
