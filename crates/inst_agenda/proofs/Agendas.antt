-- The sets of an agenda do what its definitions say.
use Rattle.std.proofs.Common.{◌≡◌, ℕ, zero, suc, ◌-◌, ◌<◌, ◌≤◌, Bool, true, false, ◌||◌, cond, List, [], ◌∷◌, ◌++◌, length, get_or, refl, sym, ap, ◌∙◌, arith, nat_cmp, is_gt, Ordering, inl, inr}
use Rattle.std.specs.List.{list_any, All}
use Rattle.std.proofs.lemmas.List.{get_or_default}
use Rattle.std.proofs.lemmas.List.Folds.{list_any-append, Any-from_list_any}
use Rattle.std.proofs.lemmas.Bool.{cases_lt}
use Rattle.std.specs.Ordering.{ordering_then}
use Rattle.std.specs.BTreeMap.{is_at}
use Rattle.std.specs.BTreeMap.Range.{IsLtBy}
use Rattle.std.specs.BTreeSet.{BTreeSet, contains, Updates, IsLowerBound}
use Rattle.std.proofs.lemmas.Bool.{false≢true, cases_Bool, or_cases}
use Rattle.std.proofs.lemmas.Bool.Decides.{nat_tests}
use Rattle.inst_base.specs.TimeLimit.{is_due}
use Rattle.inst_command.specs.declared.place.Place.{Place}
use Rattle.inst_agenda.specs.Agenda.{is_same_place, is_entry}
use Rattle.inst_agenda.specs.inner.Agenda.{place_comes_before, AreInOrder, WaitNoLater, Notes, Waits, NothingIsDue, TakesNext}

-- how the sets compare two places, and two entries
abbrev pub place_cmp : ℕ × ℕ → ℕ × ℕ → Ordering
place_cmp one other = ordering_then (nat_cmp one.0 other.0) (nat_cmp one.1 other.1)

abbrev pub entry_cmp : ℕ × (ℕ × ℕ) → ℕ × (ℕ × ℕ) → Ordering
entry_cmp one other = ordering_then (nat_cmp one.0 other.0) (place_cmp one.1 other.1)

-- a place that compares equal is the place itself
same_place : (p k : ℕ) (place : ℕ × ℕ) → is_at (place_cmp (p, k)) place ≡ is_same_place p k place
same_place p k place = grind (arith, nat_tests)

same_entry : (m p k : ℕ) (entry : ℕ × (ℕ × ℕ)) → is_at (entry_cmp (m, (p, k))) entry ≡ is_entry m p k entry
same_entry m p k entry = grind (arith, nat_tests)

any_place : (places : List (ℕ × ℕ)) (p k : ℕ) → list_any (is_same_place p k) places ≡ list_any (is_at (place_cmp (p, k))) places
any_place [] p k = refl
any_place (place ∷ places) p k = ap (λ b. b || list_any (is_same_place p k) places) (sym (same_place p k place)) ∙ ap (λ b. is_at (place_cmp (p, k)) place || b) (any_place places p k)

any_entry : (entries : List (ℕ × (ℕ × ℕ))) (m p k : ℕ) → list_any (is_entry m p k) entries ≡ list_any (is_at (entry_cmp (m, (p, k)))) entries
any_entry [] m p k = refl
any_entry (entry ∷ entries) m p k = ap (λ b. b || list_any (is_entry m p k) entries) (sym (same_entry m p k entry)) ∙ ap (λ b. is_at (entry_cmp (m, (p, k))) entry || b) (any_entry entries m p k)

either : (same there : Bool) → cond same true there ≡ (there || same)
either true true = refl
either true false = refl
either false true = refl
either false false = refl

or_joined : (a b c : Bool) → (a || (b || c)) ≡ ((a || b) || c)
or_joined true b c = refl
or_joined false b c = refl

-- an entry of the row isn't due if none is
none_of_row : (row : List (ℕ × (ℕ × ℕ))) (at : ℕ) → All (λ entry. is_due entry.0 at ≡ false) row → (m p k : ℕ) → list_any (is_entry m p k) row ≡ true → is_due m at ≡ false
none_of_row row at none m p k there =
    let found = Any-from_list_any (is_entry m p k) row there in
    let moment : found.1.0 ≡ m = (let is = found.4 in grind (arith, nat_tests, is)) in
    ap (λ (n : ℕ). is_due n at) (sym moment) ∙ ap (λ (e : ℕ × (ℕ × ℕ)). is_due e.0 at) (sym found.3) ∙ none found.0 found.1 found.2

-- a place that was put in
pub notes : (waiting : List (ℕ × (ℕ × ℕ))) (s n : BTreeSet (ℕ × ℕ)) (place : Place) → Updates place_cmp s n (place.owner, place.index) true
    → Notes (record { waiting = waiting; next = s.keys }) (record { waiting = waiting; next = n.keys }) place
notes waiting s n place updates = record {
  waiting_is = refl;
  next_are = λ p k.
      any_place n.keys p k ∙ updates.0 (p, k) ∙ ap (λ b. cond b true (contains place_cmp s (p, k))) (same_place place.owner place.index (p, k))
      ∙ either (is_same_place place.owner place.index (p, k)) (contains place_cmp s (p, k)) ∙ ap (λ b. b || is_same_place place.owner place.index (p, k)) (sym (any_place s.keys p k));
}

-- an entry that was put among those out of order
pub makes_wait : (next : List (ℕ × ℕ)) (row : List (ℕ × (ℕ × ℕ))) (s n : BTreeSet (ℕ × (ℕ × ℕ))) (moment : ℕ) (place : Place) → Updates entry_cmp s n (moment, (place.owner, place.index)) true
    → Waits (record { waiting = row ++ s.keys; next = next }) (record { waiting = row ++ n.keys; next = next }) moment place
makes_wait next row s n moment place updates = record {
  next_is = refl;
  waiting_are = λ m p k.
      let here = is_entry moment place.owner place.index (m, (p, k)) in
      let added : list_any (is_entry m p k) n.keys ≡ (list_any (is_entry m p k) s.keys || here) =
      any_entry n.keys m p k ∙ updates.0 (m, (p, k)) ∙ ap (λ b. cond b true (contains entry_cmp s (m, (p, k)))) (same_entry moment place.owner place.index (m, (p, k)))
      ∙ either here (contains entry_cmp s (m, (p, k))) ∙ ap (λ b. b || here) (sym (any_entry s.keys m p k)) in
      list_any-append (is_entry m p k) row n.keys ∙ ap (λ b. list_any (is_entry m p k) row || b) added ∙ or_joined (list_any (is_entry m p k) row) (list_any (is_entry m p k) s.keys) here
      ∙ ap (λ b. b || here) (sym (list_any-append (is_entry m p k) row s.keys));
}

pub in_order_rest : (entry : ℕ × (ℕ × ℕ)) (row : List (ℕ × (ℕ × ℕ))) → AreInOrder (entry ∷ row) → AreInOrder row
in_order_rest entry row order i j d less below = order (suc i) (suc j) d (omega (arith, less)) (omega (arith, below))

-- what the last of the row says of all
pub none_later : (row : List (ℕ × (ℕ × ℕ))) (len moment : ℕ) (last : ℕ × (ℕ × ℕ)) → AreInOrder row → len ≡ length row → last ≡ get_or row (len - 1) last → last.0 ≤ moment → WaitNoLater row moment
none_later row len moment last order is at early k d below = elim (cases_lt k (len - 1)) [
  | inl less ↦
      let next = order k (len - 1) last less (omega (arith, is, below)) in
      omega (arith, next, early, ap (λ (e : ℕ × (ℕ × ℕ)). e.0) at, ap (λ (e : ℕ × (ℕ × ℕ)). e.0) (get_or_default row k d last below))
  | inr over ↦
      let same : k ≡ len - 1 = omega (arith, is, below, over) in
      omega (arith, early, ap (λ (e : ℕ × (ℕ × ℕ)). e.0) at, ap (λ (e : ℕ × (ℕ × ℕ)). e.0) (get_or_default row k d last below), ap (λ (m : ℕ). (get_or row m last).0) same)
]

-- the first of the row isn't due, so none is
pub none_due_in_row : (row : List (ℕ × (ℕ × ℕ))) (first : ℕ × (ℕ × ℕ)) (at : ℕ) → AreInOrder row → first ≡ get_or row 0 first → is_due first.0 at ≡ false → All (λ entry. is_due entry.0 at ≡ false) row
none_due_in_row row first at order here early zero d below = ap (λ (e : ℕ × (ℕ × ℕ)). is_due e.0 at) (get_or_default row 0 d first below ∙ sym here) ∙ early
none_due_in_row row first at order here early (suc k) d below =
    let next = order 0 (suc k) first (omega arith) below in
    later first.0 (get_or row (suc k) d).0 (omega (arith, next, ap (λ (e : ℕ × (ℕ × ℕ)). e.0) here, ap (λ (e : ℕ × (ℕ × ℕ)). e.0) (get_or_default row (suc k) d first below))) early
  where
    later : (one other : ℕ) → one ≤ other → is_due one at ≡ false → is_due other at ≡ false
    later one other over early = grind (arith, nat_tests, over, early)

-- the least entry isn't due, so none of those out of order is; nor is any of the row
pub none_is_due : (next : List (ℕ × ℕ)) (row : List (ℕ × (ℕ × ℕ))) (s : BTreeSet (ℕ × (ℕ × ℕ))) (first : ℕ × (ℕ × ℕ)) (at : ℕ) → All (λ entry. is_due entry.0 at ≡ false) row
    → IsLowerBound entry_cmp s first → is_due first.0 at ≡ false → NothingIsDue (record { waiting = row ++ s.keys; next = next }) at
none_is_due next row s first at none least early m p k waiting = elim (or_cases (list_any (is_entry m p k) row) (list_any (is_entry m p k) s.keys) (sym (list_any-append (is_entry m p k) row s.keys) ∙ waiting)) [
  | inl here ↦ none_of_row row at none m p k here
  | inr there ↦ later (least (m, (p, k)) (sym (any_entry s.keys m p k) ∙ there)) early
]
  where
    later : is_gt (entry_cmp first (m, (p, k))) ≡ false → is_due first.0 at ≡ false → is_due m at ≡ false
    later not_before early = grind (arith, nat_tests, not_before, early)

pub zero_unless : (n : ℕ) → (0 < n → false ≡ true) → n ≡ 0
zero_unless zero some = refl
zero_unless (suc n) some = absurd (false≢true (some (omega arith)))

-- nothing waits out of order
pub none_is_due_alone : (next : List (ℕ × ℕ)) (row others : List (ℕ × (ℕ × ℕ))) (at : ℕ) → All (λ entry. is_due entry.0 at ≡ false) row → others ≡ [] → NothingIsDue (record { waiting = row ++ others; next = next }) at
none_is_due_alone next row others at none empty m p k waiting = elim (or_cases (list_any (is_entry m p k) row) (list_any (is_entry m p k) others) (sym (list_any-append (is_entry m p k) row others) ∙ waiting)) [
  | inl here ↦ none_of_row row at none m p k here
  | inr there ↦ absurd (false≢true (ap (list_any (is_entry m p k)) (sym empty) ∙ there))
]

-- those that are above the first come after it
pub above : (first : ℕ × ℕ) (places : List (ℕ × ℕ)) → All (IsLtBy place_cmp first) places → (p k : ℕ) → list_any (is_same_place p k) places ≡ true → place_comes_before first (p, k) ≡ true
above first [] all p k there = absurd (false≢true there)
above first (place ∷ places) all p k there = elim (cases_Bool (is_same_place p k place)) [
  | inl same ↦ here same (all 0 place (omega arith))
  | inr other ↦ above first places (λ i d below. all (suc i) d (omega (arith, below))) p k (sym (ap (λ b. b || list_any (is_same_place p k) places) other) ∙ there)
]
  where
    here : is_same_place p k place ≡ true → IsLtBy place_cmp first place → place_comes_before first (p, k) ≡ true
    here same less = grind (arith, nat_tests, same, less)

-- the first of the next was taken out
pub takes_next : (waiting : List (ℕ × (ℕ × ℕ))) (old new : BTreeSet (ℕ × ℕ)) (place : Place) → old.keys ≡ (place.owner, place.index) ∷ new.keys → All (IsLtBy place_cmp (place.owner, place.index)) new.keys
    → TakesNext (record { waiting = waiting; next = old.keys }) (record { waiting = waiting; next = new.keys }) place
takes_next waiting old new place first all = record {
  waiting_is = refl;
  first = first;
  after = above (place.owner, place.index) new.keys all;
}
