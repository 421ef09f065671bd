-- What a row that rises shows, and what one pair more and one fewer change in it.
use Rattle.std.proofs.Common.{◌≡◌, ℕ, zero, suc, ◌+◌, ◌-◌, ◌<◌, ◌≤◌, Bool, true, false, ◌||◌, ◌&&◌, not, List, [], ◌∷◌, length, get_or, Option, Some, None, Result, Ok, Err, inl, inr, Ordering, nat_cmp, refl, sym, ap, ◌∙◌, subst, arith, is_some, Bor}
use Rattle.std.specs.Prelude.{slice_get}
use Rattle.std.specs.Option.{option_copied}
use Rattle.std.specs.Slice.{IsItemAt}
use Rattle.std.specs.List.{list_any, insert, remove, All, AllWithin}
use Rattle.std.specs.List.Sorted.{IsBinarySearchResult, IsNonDecreasingBy, IsPartitionedBy, IsSearchInRange}
use Rattle.std.specs.Bool.{then_some}
use Rattle.std.specs.Ordering.{ordering_then, ordering_index, is_lt, is_le, is_gt, is_eq, is_some_and, partial_ordering_then}
use Rattle.std.specs.declared.cmp.Ordering.TheVariants.{Less, Equal, Greater}
use Rattle.std.proofs.lemmas.Bool.{true≢false, false≢true, cases_Bool, cases_order, cases_lt}
use Rattle.std.proofs.lemmas.Bool.Decides.{nat_tests}
use Rattle.std.proofs.lemmas.Option.{slice_get_within, get_or_from_slice_get, slice_get-get_or, slice_get_past, slice_get_read}
use Rattle.std.proofs.lemmas.List.Edits.{length-insert, get_or-insert_below, get_or-insert_at, get_or-insert_above, length-remove, get_or-remove_below, get_or-remove_above}
use Rattle.std.proofs.lemmas.List.Folds.{Any-from_list_any, list_any_at, list_any_none}
use Rattle.inst_base.specs.TimeLimit.{is_due}
use Rattle.inst_due.specs.Due.{is_of, has, comes_before, Adds, TakesOut, IsFirst, IsLeast}
use Rattle.inst_due.specs.inner.Due.{IsRising, IsRankOf}

-- how two pairs compare
abbrev pub pair_cmp : ℕ × ℕ → ℕ × ℕ → Ordering
pair_cmp one other = ordering_then (nat_cmp one.0 other.0) (nat_cmp one.1 other.1)

-- what a comparison answers
same : (d k : ℕ) (pair : ℕ × ℕ) → is_of d k pair ≡ true → pair ≡ (d, k)
same d k pair is =
    let first : pair.0 ≡ d = grind (arith, nat_tests, is) in
    let second : pair.1 ≡ k = grind (arith, nat_tests, is) in
    λ i. (first i, second i)

pub before_if_less : (one other : ℕ × ℕ) → pair_cmp one other ≡ Less → comes_before one other ≡ true
before_if_less one other is = test one other ∙ ap is_lt is
  where
    test : (one other : ℕ × ℕ) → comes_before one other ≡ is_lt (pair_cmp one other)
    test one other = grind (arith, nat_tests)

behind_if_greater : (one other : ℕ × ℕ) → pair_cmp one other ≡ Greater → comes_before other one ≡ true
behind_if_greater one other is = test one other ∙ ap is_gt is
  where
    test : (one other : ℕ × ℕ) → comes_before other one ≡ is_gt (pair_cmp one other)
    test one other = grind (arith, nat_tests)

pub same_if_equal : (one other : ℕ × ℕ) → pair_cmp one other ≡ Equal → one ≡ other
same_if_equal one other is = same other.0 other.1 one (test one other ∙ ap is_eq is)
  where
    test : (one other : ℕ × ℕ) → is_of other.0 other.1 one ≡ is_eq (pair_cmp one other)
    test one other = grind (arith, nat_tests)

-- what `<=` answers
abbrev pub partial_cmp : ℕ × ℕ → ℕ × ℕ → Option Ordering
partial_cmp one other = partial_ordering_then (Some (nat_cmp one.0 other.0)) (Some (nat_cmp one.1 other.1))

pub not_less_by_le : (one other : ℕ × ℕ) → comes_before other one ≡ not (is_some_and is_le (partial_cmp one other))
not_less_by_le one other = grind (arith, nat_tests)

-- the order of the pairs
itself : (pair : ℕ × ℕ) → is_of pair.0 pair.1 pair ≡ true
itself pair = grind (arith, nat_tests)

not_back : (one other : ℕ × ℕ) → comes_before one other ≡ true → comes_before other one ≡ false
not_back one other before = grind (arith, nat_tests, before)

not_itself : (pair : ℕ × ℕ) → comes_before pair pair ≡ false
not_itself pair = grind (arith, nat_tests)

further : (one other third : ℕ × ℕ) → comes_before one other ≡ true → comes_before other third ≡ true → comes_before one third ≡ true
further one other third before after = grind (arith, nat_tests, before, after)

other_than : (one other : ℕ × ℕ) → comes_before one other ≡ true → (is_of other.0 other.1 one ≡ false) × (is_of one.0 one.1 other ≡ false)
other_than one other before = (grind (arith, nat_tests, before), grind (arith, nat_tests, before))

-- where a pair of the row stands
stands : (pairs : List (ℕ × ℕ)) (d k : ℕ) → has pairs d k ≡ true → (n : ℕ) × (n < length pairs) × (get_or pairs n (d, k) ≡ (d, k))
stands pairs d k there =
    let any = Any-from_list_any (is_of d k) pairs there in
    let is : any.1 ≡ (d, k) = same d k any.1 any.4 in
    (any.0, any.2, subst (λ (pair : ℕ × ℕ). get_or pairs any.0 pair ≡ pair) is any.3)

-- the pair at a place
pub there_at : (pairs : List (ℕ × ℕ)) (n : ℕ) (pair : ℕ × ℕ) → slice_get pairs n ≡ Some pair → has pairs pair.0 pair.1 ≡ true
there_at pairs n pair at =
    list_any_at (is_of pair.0 pair.1) pairs n pair (slice_get_within pairs n pair at)
    (ap (is_of pair.0 pair.1) (get_or_from_slice_get pairs n pair pair at) ∙ itself pair)

-- what `get` lends
pub got : (pairs : List (ℕ × ℕ)) (n : ℕ) (r : Option (Bor (ℕ × ℕ))) → IsItemAt pairs n r → slice_get pairs n ≡ option_copied r
got pairs n None item = slice_get_past pairs n item.3
got pairs n (Some x) item = slice_get_read pairs (length pairs) n x.now refl item.3.0 item.1

-- the first pair that passes a test
none_passes : (pairs : List (ℕ × ℕ)) (passes : ℕ × ℕ → Bool) → All (λ pair. passes pair ≡ false) pairs → (d k : ℕ) → has pairs d k ≡ true → passes (d, k) ≡ false
none_passes pairs passes fail d k there =
    let at = stands pairs d k there in
    ap passes (sym at.2) ∙ fail at.0 (d, k) at.1

first_passes : (pairs : List (ℕ × ℕ)) (n : ℕ) (first : ℕ × ℕ) (passes : ℕ × ℕ → Bool) → IsRising pairs → slice_get pairs n ≡ Some first → AllWithin (λ pair. passes pair ≡ false) pairs 0 n → passes first ≡ true → IsFirst pairs passes first
first_passes pairs n first passes rising at fail pass = record {
  there = there_at pairs n first at;
  passing = pass;
  least = λ d k there passes_too.
      let found = stands pairs d k there in
      let here : get_or pairs n (d, k) ≡ first = get_or_from_slice_get pairs n first (d, k) at in
      elim (cases_order found.0 n) [
        | inl is ↦ ap (λ (pair : ℕ × ℕ). comes_before pair first) (sym found.2 ∙ ap (λ (m : ℕ). get_or pairs m (d, k)) is ∙ here) ∙ not_itself first
        | inr apart ↦ elim apart [
          | inl less ↦ absurd (true≢false (sym passes_too ∙ ap passes (sym found.2) ∙ fail found.0 (d, k) (omega arith) less))
          | inr more ↦ not_back first (d, k) (subst (λ (pair : ℕ × ℕ). comes_before pair (d, k) ≡ true) here (subst (λ (pair : ℕ × ℕ). comes_before (get_or pairs n (d, k)) pair ≡ true) found.2 (rising n found.0 (d, k) more found.1)))
        ]
      ];
}

pub first_of_all : (pairs : List (ℕ × ℕ)) (first : ℕ × ℕ) (passes : ℕ × ℕ → Bool) → IsRising pairs → slice_get pairs 0 ≡ Some first → passes first ≡ true → IsFirst pairs passes first
first_of_all pairs first passes rising at pass = first_passes pairs 0 first passes rising at (λ k d from under. absurd (omega arith)) pass

-- the first of all, where it is due; where it isn't, none is
pub first_if_due : (pairs : List (ℕ × ℕ)) (first : ℕ × ℕ) (at : ℕ) → IsRising pairs → slice_get pairs 0 ≡ Some first → IsLeast pairs (λ pair. is_due pair.0 at) (then_some (is_due first.0 at) first)
first_if_due pairs first at rising there = elim (cases_Bool (is_due first.0 at)) [
  | inl due ↦ rw due (first_of_all pairs first (λ pair. is_due pair.0 at) rising there due)
  | inr early ↦ rw early (λ d k has_it. later (d, k) ((first_of_all pairs first (λ pair. true) rising there refl).least d k has_it refl) early)
]
  where
    later : (pair : ℕ × ℕ) → comes_before pair first ≡ false → is_due first.0 at ≡ false → is_due pair.0 at ≡ false
    later pair not_before early = grind (arith, nat_tests, not_before, early)

-- the first of those from a place on
pub next_is_least : (pairs : List (ℕ × ℕ)) (pair : ℕ × ℕ) (n : ℕ) → IsRising pairs → AllWithin (λ other. comes_before pair other ≡ false) pairs 0 n → AllWithin (λ other. comes_before pair other ≡ true) pairs n (length pairs) → IsLeast pairs (comes_before pair) (slice_get pairs n)
next_is_least pairs pair n rising under over = elim (cases_lt n (length pairs)) [
  | inl within ↦ rw (slice_get-get_or pairs n pair within) (first_passes pairs n (get_or pairs n pair) (comes_before pair) rising (slice_get-get_or pairs n pair within) under (over n pair (omega arith) within))
  | inr past ↦ rw (slice_get_past pairs n past) (none_passes pairs (comes_before pair) (λ k d below. under k d (omega arith) (omega arith)))
]

-- what `<=` answers along the row
pub partitioned : (pairs : List (ℕ × ℕ)) (pair : ℕ × ℕ) → IsRising pairs → IsPartitionedBy (λ other. is_some_and is_le (partial_cmp other pair)) pairs
partitioned pairs pair rising i j d le below passes = elim (cases_lt i j) [
  | inl less ↦ kept (get_or pairs i d) (get_or pairs j d) (rising i j d less below) passes
  | inr over ↦ let is : i ≡ j = omega arith in ap (λ (m : ℕ). is_some_and is_le (partial_cmp (get_or pairs m d) pair)) is ∙ passes
]
  where
    kept : (one other : ℕ × ℕ) → comes_before one other ≡ true → is_some_and is_le (partial_cmp other pair) ≡ true → is_some_and is_le (partial_cmp one pair) ≡ true
    kept one other before passes = grind (arith, nat_tests, before, passes)

-- where a pair stands or would
pub at_end : (pairs : List (ℕ × ℕ)) (n : ℕ) (last pair : ℕ × ℕ) → IsRising pairs → n ≡ length pairs → slice_get pairs (n - 1) ≡ Some last → comes_before last pair ≡ true → IsRankOf pairs pair (Err n)
at_end pairs n last pair rising end at before = (omega arith, (λ k d from under. under_it k d under, λ k d over under. absurd (omega arith)))
  where
    here : (d : ℕ × ℕ) → get_or pairs (n - 1) d ≡ last
    here d = get_or_from_slice_get pairs (n - 1) last d at

    under_it : (k : ℕ) (d : ℕ × ℕ) → k < n → comes_before (get_or pairs k d) pair ≡ true
    under_it k d under = elim (cases_lt k (n - 1)) [
      | inl less ↦ further (get_or pairs k d) last pair (subst (λ (other : ℕ × ℕ). comes_before (get_or pairs k d) other ≡ true) (here d) (rising k (n - 1) d less (omega arith))) before
      | inr over ↦ let is : k ≡ n - 1 = omega arith in ap (λ (m : ℕ). comes_before (get_or pairs m d) pair) is ∙ ap (λ (other : ℕ × ℕ). comes_before other pair) (here d) ∙ before
    ]

index_rises : (one other pair : ℕ × ℕ) → comes_before one other ≡ true → ordering_index (pair_cmp one pair) ≤ ordering_index (pair_cmp other pair)
index_rises one other pair before = grind (arith, nat_tests, before)

searchable : (pairs : List (ℕ × ℕ)) (pair : ℕ × ℕ) → IsRising pairs → IsNonDecreasingBy (λ other. ordering_index (pair_cmp other pair)) pairs
searchable pairs pair rising i j d le below = elim (cases_lt i j) [
  | inl less ↦ index_rises (get_or pairs i d) (get_or pairs j d) pair (rising i j d less below)
  | inr over ↦ let is : i ≡ j = omega arith in omega (arith, ap (λ (k : ℕ). ordering_index (pair_cmp (get_or pairs k d) pair)) is)
]

pub found_place : (pairs : List (ℕ × ℕ)) (pair : ℕ × ℕ) (r : Result ℕ ℕ) → IsRising pairs → IsSearchInRange r (length pairs) → IsBinarySearchResult (λ other. pair_cmp other pair) pairs r → IsRankOf pairs pair r
found_place pairs pair (Ok n) rising within found = slice_get-get_or pairs n pair within ∙ ap (λ (other : ℕ × ℕ). Some other) (same_if_equal (get_or pairs n pair) pair (found pair))
found_place pairs pair (Err n) rising within found =
    let parts = found (searchable pairs pair rising) in
    (within, (λ k d from under. before_if_less (get_or pairs k d) pair (parts.0 k d from under), λ k d over below. behind_if_greater (get_or pairs k d) pair (parts.1 k d over below)))

-- a pair that has its place between others isn't there
pub not_there : (pairs : List (ℕ × ℕ)) (pair : ℕ × ℕ) (n : ℕ) → IsRankOf pairs pair (Err n) → has pairs pair.0 pair.1 ≡ false
not_there pairs pair n place = list_any_none (is_of pair.0 pair.1) pairs (λ k d below. elim (cases_lt k n) [
  | inl under ↦ (other_than (get_or pairs k d) pair (place.1.0 k d (omega arith) under)).0
  | inr over ↦ (other_than pair (get_or pairs k d) (place.1.1 k d over below)).1
])

-- one pair more
any_inserted : (test : ℕ × ℕ → Bool) (pairs : List (ℕ × ℕ)) (n : ℕ) (pair : ℕ × ℕ) → list_any test (insert pairs n pair) ≡ (list_any test pairs || test pair)
any_inserted test pairs zero pair = or_turned (test pair) (list_any test pairs)
  where
    or_turned : (a b : Bool) → (a || b) ≡ (b || a)
    or_turned true true = refl
    or_turned true false = refl
    or_turned false true = refl
    or_turned false false = refl
any_inserted test [] (suc n) pair = or_last (test pair)
  where
    or_last : (a : Bool) → (a || false) ≡ a
    or_last true = refl
    or_last false = refl
any_inserted test (first ∷ pairs) (suc n) pair = ap (λ b. test first || b) (any_inserted test pairs n pair) ∙ or_joined (test first) (list_any test pairs) (test pair)
  where
    or_joined : (a b c : Bool) → (a || (b || c)) ≡ ((a || b) || c)
    or_joined true b c = refl
    or_joined false b c = refl

turned : (d k e l : ℕ) → is_of e l (d, k) ≡ is_of d k (e, l)
turned d k e l = grind (arith, nat_tests)

pub adds : (pairs : List (ℕ × ℕ)) (n d k : ℕ) → Adds pairs (insert pairs n (d, k)) d k
adds pairs n d k e l = any_inserted (is_of e l) pairs n (d, k) ∙ ap (λ b. has pairs e l || b) (turned d k e l)

pub rises_on : (pairs : List (ℕ × ℕ)) (n : ℕ) (pair : ℕ × ℕ) → IsRising pairs → IsRankOf pairs pair (Err n) → IsRising (insert pairs n pair)
rises_on pairs n pair rising place i j d less below = elim (cases_order j n) [
  | inl is ↦ both i j (get_or pairs i d) pair (under i (omega arith)) (here j is) (place.1.0 i d (omega arith) (omega arith))
  | inr apart ↦ elim apart [
    | inl before ↦ both i j (get_or pairs i d) (get_or pairs j d) (under i (omega arith)) (under j before) (rising i j d less (omega arith))
    | inr behind ↦ elim (cases_order i n) [
      | inl is ↦ both i j pair (get_or pairs (j - 1) d) (here i is) (over j behind) (place.1.1 (j - 1) d (omega arith) within)
      | inr parted ↦ elim parted [
        | inl first ↦ both i j (get_or pairs i d) (get_or pairs (j - 1) d) (under i first) (over j behind) (rising i (j - 1) d (omega arith) within)
        | inr later ↦ both i j (get_or pairs (i - 1) d) (get_or pairs (j - 1) d) (over i later) (over j behind) (rising (i - 1) (j - 1) d (omega arith) within)
      ]
    ]
  ]
]
  where
    longer : List (ℕ × ℕ)
    longer = insert pairs n pair

    within : j - 1 < length pairs
    within = omega (arith, less, below, length-insert pairs n pair place.0)

    under : (k : ℕ) → k < n → get_or longer k d ≡ get_or pairs k d
    under k before = get_or-insert_below pairs n pair d k before place.0

    here : (k : ℕ) → k ≡ n → get_or longer k d ≡ pair
    here k is = ap (λ (m : ℕ). get_or longer m d) is ∙ get_or-insert_at pairs n pair d place.0

    over : (k : ℕ) → n < k → get_or longer k d ≡ get_or pairs (k - 1) d
    over k behind =
        let is : k ≡ (k - 1) + 1 = omega arith in
        ap (λ (m : ℕ). get_or longer m d) is ∙ get_or-insert_above pairs n pair d (k - 1) (omega arith) place.0

    both : (k l : ℕ) (one other : ℕ × ℕ) → get_or longer k d ≡ one → get_or longer l d ≡ other → comes_before one other ≡ true → comes_before (get_or longer k d) (get_or longer l d) ≡ true
    both k l one other first second before = ap (λ (p : ℕ × ℕ). comes_before p (get_or longer l d)) first ∙ ap (λ (p : ℕ × ℕ). comes_before one p) second ∙ before

-- what is there needs no adding
pub adds_none : (pairs : List (ℕ × ℕ)) (d k : ℕ) → has pairs d k ≡ true → Adds pairs pairs d k
adds_none pairs d k there e l = either (has pairs e l) (is_of d k (e, l)) (λ is. subst (λ (pair : ℕ × ℕ). has pairs pair.0 pair.1 ≡ true) (sym (same d k (e, l) is)) there)
  where
    either : (a b : Bool) → (b ≡ true → a ≡ true) → a ≡ (a || b)
    either true b implies = refl
    either false true implies = absurd (false≢true (implies refl))
    either false false implies = refl

-- one pair fewer
any_removed : (test : ℕ × ℕ → Bool) (pairs : List (ℕ × ℕ)) (n : ℕ) (pair : ℕ × ℕ) → slice_get pairs n ≡ Some pair → test pair ≡ false → list_any test (remove pairs n) ≡ list_any test pairs
any_removed test [] n pair at fails = absurd (true≢false (sym (ap is_some at)))
any_removed test (first ∷ pairs) zero pair at fails =
    let is : first ≡ pair = cc in
    ap (λ b. b || list_any test pairs) (sym (ap test is ∙ fails))
any_removed test (first ∷ pairs) (suc n) pair at fails = ap (λ b. test first || b) (any_removed test pairs n pair at fails)

removed : (pairs : List (ℕ × ℕ)) (n : ℕ) (pair : ℕ × ℕ) → IsRising pairs → slice_get pairs n ≡ Some pair → has (remove pairs n) pair.0 pair.1 ≡ false
removed pairs n pair rising at = list_any_none (is_of pair.0 pair.1) (remove pairs n) (λ k d below. elim (cases_lt k n) [
  | inl under ↦ under_it k d under
  | inr over ↦ over_it k d over below
])
  where
    within : n < length pairs
    within = slice_get_within pairs n pair at

    under_it : (k : ℕ) (d : ℕ × ℕ) → k < n → is_of pair.0 pair.1 (get_or (remove pairs n) k d) ≡ false
    under_it k d under =
        ap (is_of pair.0 pair.1) (get_or-remove_below pairs n d k under within)
        ∙ (other_than (get_or pairs k d) pair (subst (λ (other : ℕ × ℕ). comes_before (get_or pairs k d) other ≡ true) (get_or_from_slice_get pairs n pair d at) (rising k n d under within))).0

    over_it : (k : ℕ) (d : ℕ × ℕ) → n ≤ k → k < length (remove pairs n) → is_of pair.0 pair.1 (get_or (remove pairs n) k d) ≡ false
    over_it k d over below =
        let shorter : length (remove pairs n) + 1 ≡ length pairs = length-remove pairs n within in
        ap (is_of pair.0 pair.1) (get_or-remove_above pairs n d k over within)
        ∙ (other_than pair (get_or pairs (k + 1) d) (subst (λ (other : ℕ × ℕ). comes_before other (get_or pairs (k + 1) d) ≡ true) (get_or_from_slice_get pairs n pair d at) (rising n (k + 1) d (omega arith) (omega arith)))).1

without : (a r b : Bool) → (b ≡ true → r ≡ false) → (b ≡ false → r ≡ a) → r ≡ (a && not b)
without true r true gone stays = gone refl
without false r true gone stays = gone refl
without true r false gone stays = stays refl
without false r false gone stays = stays refl

pub takes_out : (pairs : List (ℕ × ℕ)) (n d k : ℕ) → IsRising pairs → slice_get pairs n ≡ Some (d, k) → TakesOut pairs (remove pairs n) d k
takes_out pairs n d k rising at e l = without (has pairs e l) (has (remove pairs n) e l) (is_of d k (e, l))
    (λ is. subst (λ (pair : ℕ × ℕ). has (remove pairs n) pair.0 pair.1 ≡ false) (sym (same d k (e, l) is)) (removed pairs n (d, k) rising at))
    (λ apart. any_removed (is_of e l) pairs n (d, k) at (turned d k e l ∙ apart))

-- what isn't there needs no taking out
pub takes_out_none : (pairs : List (ℕ × ℕ)) (d k : ℕ) → has pairs d k ≡ false → TakesOut pairs pairs d k
takes_out_none pairs d k missing e l = without (has pairs e l) (has pairs e l) (is_of d k (e, l)) (λ is. subst (λ (pair : ℕ × ℕ). has pairs pair.0 pair.1 ≡ false) (sym (same d k (e, l) is)) missing) (λ apart. refl)
