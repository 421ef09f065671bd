-- How often books were opened from, as they go through openings.
use Rattle.std.proofs.Common.{◌≡◌, ℕ, ◌+◌, ◌<◌, ◌≤◌, zero, Bool, true, false, ◌||◌, cond, if◌then◌else◌, List, [], ◌∷◌, ◌++◌, length, Option, Some, None, refl, sym, ap, ◌∙◌, subst, arith, append-nil, inl, inr}
use Rattle.std.specs.Prelude.{nat_lt}
use Rattle.std.proofs.lemmas.Bool.{cases_Bool, ltb-true}
use Rattle.std.proofs.lemmas.Bool.Decides.{nat_tests}
use Rattle.std.proofs.lemmas.List.Sums.{sum_by-cons}
use Rattle.std.proofs.lemmas.Option.{slice_get_past}
use Rattle.inst_settings.specs.Settings.{HubSettings, participants}
use Rattle.inst_journal.specs.declared.event.Event.{Event}
use Rattle.inst_journal.specs.declared.event.Event.TheVariants.{Opened}
use Rattle.inst_journal.specs.Opened.{is_opening, has_opening, openings, carried, HasOpeningsLeft}
use Rattle.inst_journal.proofs.CountsOfEvents.{count_push}
use Rattle.inst_model.specs.Opening.{Opening, FromBooks}
use Rattle.inst_slot.specs.Book.{events_of}
use Rattle.inst_participant.specs.Together.{histories}
use Rattle.inst_close.specs.ClosedHub.{ClosedHub, IsClosed}
use Rattle.inst_settings.specs.Lawful.{IsSettings}
use Rattle.inst_hub.specs.declared.hub.Hub.{Hub}
use Rattle.inst_close.specs.NextOpening.{MayOpenWider}
use Rattle.inst_close.specs.Closing.{IsOpenedSo, HaveOpened, IsNextOf}
use Rattle.inst_drill.specs.inner.Chain.{IsAfter, AreAfter, opening_of}

either_false : (a b : Bool) → (a || b) ≡ false → (a ≡ false) × (b ≡ false)
either_false true b e = absurd (let no : ⊥ = cc in no)
either_false false b e = (refl, e)

one_more : (x : Event) (J : List Event) → openings (x ∷ J) ≡ cond (is_opening x) 1 0 + openings J
one_more x J = sum_by-cons (λ e. cond (is_opening e) 1 0) x J

none_opened : (J : List Event) → has_opening J ≡ false → openings J ≡ 0
none_opened [] e = refl
none_opened (x ∷ xs) e =
    let none = either_false (is_opening x) (has_opening xs) e in
    let first : cond (is_opening x) 1 0 ≡ zero = ap (λ b. cond b 1 0) none.0 in
    omega (arith, one_more x xs, first, none_opened xs none.1)

-- the events after the last Opened don't count
pub openings_carried : (J : List Event) → openings J ≡ openings (carried J)
openings_carried [] = refl
openings_carried (x ∷ xs) = elim (cases_Bool (has_opening (x ∷ xs))) [
  | inl some ↦
      one_more x xs ∙ (ap (λ n. cond (is_opening x) 1 0 + n) (openings_carried xs)
      ∙ (sym (one_more x (carried xs)) ∙ sym (ap (λ b. openings (if b then x ∷ carried xs else [])) some)))
  | inr none ↦ none_opened (x ∷ xs) none ∙ sym (ap (λ b. openings (if b then x ∷ carried xs else [])) none)
]

-- the books of the next opening were opened from once more
pub after_next : (s : HubSettings) (n : ℕ) (books : Option ClosedHub) (closed : ClosedHub) → AreAfter s n books → closed.settings ≡ s → HaveOpened (opening_of books) closed → IsAfter s (n + 1) closed
after_next s n None closed so same opened = record {
  settings = same;
  few = λ p small.
      let none : openings (histories closed.books p) ≡ 0 =
      openings_carried (histories closed.books p) ∙ ap openings (opened p (subst (λ (t : HubSettings). p < participants t) (sym same) small)) in
      omega (arith, none);
}
after_next s n (Some before) closed so same opened = record {
  settings = same;
  few = λ p small.
      let here : openings (histories closed.books p) ≡ openings (histories before.books p ++ Opened ∷ []) =
      openings_carried (histories closed.books p) ∙ ap openings (opened p (subst (λ (t : HubSettings). p < participants t) (sym same) small)) in
      let one : openings (histories before.books p ++ Opened ∷ []) ≡ openings (histories before.books p) + 1 = count_push is_opening (histories before.books p) Opened in
      let few = so.few p small in
      omega (arith, here, one, few);
}

few_of_all : (n : ℕ) (closed : ClosedHub) (s : HubSettings) → IsClosed closed.settings closed.books → IsAfter s n closed → n ≤ 10 → (p : ℕ) → HasOpeningsLeft (histories closed.books p)
few_of_all n closed s is so most p = elim (cases_Bool (nat_lt p (participants s))) [
  | inl below ↦ let few = so.few p (ltb-true p (participants s) below) in omega (arith, few, most)
  | inr past ↦
      let far : participants s ≤ p = not_below p (participants s) past in
      let long : length closed.books ≡ participants s = is.one_each ∙ ap participants so.settings in
      subst (λ (J : List Event). HasOpeningsLeft J) (sym (ap events_of (slice_get_past closed.books p (omega (arith, far, long))))) (omega arith)
]
  where
    not_below : (p n : ℕ) → nat_lt p n ≡ false → n ≤ p
    not_below p n e = grind (arith, nat_tests)

-- the books of a few openings can be opened from
pub may_open : (n : ℕ) (closed : ClosedHub) (s : HubSettings) (tellers : ℕ) → IsClosed closed.settings closed.books → IsAfter s n closed → n ≤ 10 → tellers ≡ 3 → MayOpenWider closed [] tellers
may_open n closed s tellers is so most three = record {
  few = few_of_all n closed s is so most;
  settings = subst (λ (codes : List (List ℕ)). IsSettings (record closed.settings { codes = codes })) (sym (append-nil closed.settings.codes)) is.lawful;
  seats = (omega (arith, three), omega (arith, three));
}

-- a hub that was opened from books was opened from their histories
pub from_the_books : (closed : ClosedHub) (hub : Hub) → IsNextOf closed.books hub → IsOpenedSo (FromBooks (histories closed.books)) hub
from_the_books closed hub next = subst (λ (O : Opening). IsOpenedSo O hub) (ap FromBooks (λ k p. next.same p k)) next.opened
