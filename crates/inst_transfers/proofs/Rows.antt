-- What one row more, and one row changed, do to what a table of transfers shows.
use Rattle.std.proofs.Common.{◌≡◌, ℕ, zero, suc, ◌+◌, ◌<◌, ◌≤◌, Bool, true, false, ◌&&◌, ◌==◌, cond, List, [], ◌∷◌, ◌++◌, length, Option, Some, None, is_some, is_none, inl, inr, ◌⊎◌, ⊎_elim, Result, Ok, OnOk, IfSome, refl, sym, ap, ◌∙◌, subst, arith, get_or}
use Rattle.std.specs.Prelude.{slice_get}
use Rattle.std.specs.Cmp.{IsEquivalence, nat_eq_equiv}
use Rattle.std.specs.Cmp.Lexicographic.{same_text as text_same, nat_list_eq_equiv}
use Rattle.std.specs.Map.{keys_of, lookup}
use Rattle.std.specs.List.{filter, IsDistinct, AllByRecursion}
use Rattle.std.proofs.lemmas.Bool.{eqb-true, eq-eqb, true≢false, cases_order}
use Rattle.std.proofs.lemmas.List.{map-append, length-map}
use Rattle.std.proofs.lemmas.Map.Entries.{lookup_from_place}
use Rattle.std.proofs.lemmas.Option.{same_Some, slice_get_within, get_or_from_slice_get}
use Rattle.indexmap.specs.IndexMap.{IndexMap, IsUnique, with_value_at, set_value_at}
use Rattle.indexmap.proofs.CallerLemmas.{updates-with_value_at}
use Rattle.inst_settings.specs.Settings.{same_text}
use Rattle.inst_command.specs.declared.entry.Entry.{Entry}
use Rattle.inst_transfers.specs.declared.transfer.Found.{Found}
use Rattle.inst_transfers.specs.declared.transfer.Transfer.{Transfer}
use Rattle.inst_transfers.specs.State.{Key, same_key, table_with, outcome_in}
use Rattle.inst_transfers.specs.Held.{found_at, row_in, rows_in, AreApart, id_in, ids_at, AreWithin, AreOwn, AreAbove, AreRising, ArePositions, FindsAt, FindsOwn, Held}
use Rattle.inst_transfers.specs.inner.Held.{waits_row, waits_at, FindsIndex}

and_parts : (a b : Bool) → (a && b) ≡ true → (a ≡ true) × (b ≡ true)
and_parts true b h = (refl, h)
and_parts false b h = absurd (true≢false (sym h))

pub key_is : (x y : Key) → same_key x y ≡ true → x ≡ y
key_is x y same =
    let parts = and_parts (x.0 == y.0) (same_text x.1 y.1) same in
    let first : x.0 ≡ y.0 = eqb-true x.0 y.0 parts.0 in
    let second : x.1 ≡ y.1 = text_same x.1 y.1 (sym parts.1) in
    λ i. (first i, second i)

pub keys_equiv : IsEquivalence same_key
keys_equiv = record {
  refl = λ x. ap (λ b. b && same_text x.1 x.1) (eq-eqb x.0 x.0 refl) ∙ nat_list_eq_equiv.refl x.1;
  symm = λ x y. ap (λ b. b && same_text x.1 y.1) (nat_eq_equiv.symm x.0 y.0) ∙ ap (λ b. (y.0 == x.0) && b) (nat_list_eq_equiv.symm x.1 y.1);
  congr = λ x y z same. ap (λ (k : Key). same_key k z) (key_is x y same);
}

-- what a call that succeeded ensures
pub on_ok : {A E : Type 0} {P : Type 0} (r : Result A E) (x : A) → r ≡ Ok x → OnOk r P → P
on_ok {A} {E} {P} r x is p = subst (λ (q : Result A E). OnOk q P) is p

pub found_put : (es fs : List (Key × Transfer)) (key : Key) (row : Transfer) → ((q : Key) → lookup (same_key q) fs ≡ cond (same_key key q) (Some row) (lookup (same_key q) es)) → found_at fs ≡ table_with (found_at es) key row
found_put es fs key row updates = λ i q. updates q i

-- one key more
get_before : (ks : List Key) (k : Key) (p : ℕ) → p < length ks → slice_get (ks ++ k ∷ []) p ≡ slice_get ks p
get_before [] k p below = absurd (omega arith)
get_before (x ∷ ks) k zero below = refl
get_before (x ∷ ks) k (suc p) below = get_before ks k p (omega arith)

get_last : (ks : List Key) (k : Key) → slice_get (ks ++ k ∷ []) (length ks) ≡ Some k
get_last [] k = refl
get_last (x ∷ ks) k = get_last ks k

ids_before : (ks : List Key) (k : Key) (ps : List ℕ) → AreWithin (length ks) ps → ids_at (ks ++ k ∷ []) ps ≡ ids_at ks ps
ids_before ks k [] within = refl
ids_before ks k (p ∷ ps) within =
    let here : slice_get (ks ++ k ∷ []) p ≡ slice_get ks p = get_before ks k p within.0 in
    let rest : ids_at (ks ++ k ∷ []) ps ≡ ids_at ks ps = ids_before ks k ps within.1 in
    λ i. id_in (here i) ∷ rest i

ids_more : (ks : List Key) (k : Key) (ps : List ℕ) → AreWithin (length ks) ps → ids_at (ks ++ k ∷ []) (ps ++ length ks ∷ []) ≡ ids_at ks ps ++ k.1 ∷ []
ids_more ks k ps within =
    map-append (λ p. id_in (slice_get (ks ++ k ∷ []) p)) ps (length ks ∷ [])
    ∙ ap (λ (l : List (List ℕ)). l ++ id_in (slice_get (ks ++ k ∷ []) (length ks)) ∷ []) (ids_before ks k ps within)
    ∙ ap (λ (o : Option Key). ids_at ks ps ++ id_in o ∷ []) (get_last ks k)

keys_more : (es : List (Key × Transfer)) (key : Key) (row : Transfer) → keys_of (es ++ (key, row) ∷ []) ≡ keys_of es ++ key ∷ []
keys_more es key row = map-append (λ (e : Key × Transfer). e.0) es ((key, row) ∷ [])

pub own_before : (es fs : List (Key × Transfer)) (key : Key) (row : Transfer) (ps : List ℕ) → AreWithin (length (keys_of es)) ps → fs ≡ es ++ (key, row) ∷ [] → ids_at (keys_of fs) ps ≡ ids_at (keys_of es) ps
own_before es fs key row ps within more = ap (λ (l : List (Key × Transfer)). ids_at (keys_of l) ps) more ∙ ap (λ (l : List Key). ids_at l ps) (keys_more es key row) ∙ ids_before (keys_of es) key ps within

pub own_more : (es fs : List (Key × Transfer)) (key : Key) (row : Transfer) (ps qs : List ℕ) (n : ℕ) → AreWithin (length (keys_of es)) ps → fs ≡ es ++ (key, row) ∷ [] → n ≡ length es → qs ≡ ps ++ n ∷ [] → ids_at (keys_of fs) qs ≡ ids_at (keys_of es) ps ++ key.1 ∷ []
own_more es fs key row ps qs n within more count longer =
    ap (λ (l : List (Key × Transfer)). ids_at (keys_of l) qs) more ∙ ap (λ (l : List Key). ids_at l qs) (keys_more es key row)
    ∙ ap (λ (l : List ℕ). ids_at (keys_of es ++ key ∷ []) l) (longer ∙ ap (λ (m : ℕ). ps ++ m ∷ []) (count ∙ sym (length-map es (λ (e : Key × Transfer). e.0))))
    ∙ ids_more (keys_of es) key ps within

pub within_more : (n m : ℕ) (ps : List ℕ) → n ≤ m → AreWithin n ps → AreWithin m ps
within_more n m [] le within = tt
within_more n m (p ∷ ps) le within = (omega (arith, le, within.0), within_more n m ps le within.1)

pub within_last : (n m : ℕ) (ps : List ℕ) → n < m → AreWithin n ps → AreWithin m (ps ++ n ∷ [])
within_last n m [] less within = (less, tt)
within_last n m (p ∷ ps) less within = (omega (arith, less, within.0), within_last n m ps less within.1)

keys_longer : (es fs : List (Key × Transfer)) (key : Key) (row : Transfer) → fs ≡ es ++ (key, row) ∷ [] → length (keys_of fs) ≡ length (keys_of es) + 1
keys_longer es fs key row more = ap (λ (l : List (Key × Transfer)). length (keys_of l)) more ∙ ap length (keys_more es key row) ∙ long (keys_of es) key
  where
    long : (ks : List Key) (k : Key) → length (ks ++ k ∷ []) ≡ length ks + 1
    long [] k = refl
    long (x ∷ ks) k = omega (arith, long ks k)

pub within_before : (es fs : List (Key × Transfer)) (key : Key) (row : Transfer) (ps : List ℕ) → AreWithin (length (keys_of es)) ps → fs ≡ es ++ (key, row) ∷ [] → AreWithin (length (keys_of fs)) ps
within_before es fs key row ps within more = within_more (length (keys_of es)) (length (keys_of fs)) ps (omega (arith, keys_longer es fs key row more)) within

pub within_added : (es fs : List (Key × Transfer)) (key : Key) (row : Transfer) (ps qs : List ℕ) (n : ℕ) → AreWithin (length (keys_of es)) ps → fs ≡ es ++ (key, row) ∷ [] → n ≡ length es → qs ≡ ps ++ n ∷ [] → AreWithin (length (keys_of fs)) qs
within_added es fs key row ps qs n within more count longer =
    let here : n ≡ length (keys_of es) = count ∙ sym (length-map es (λ (e : Key × Transfer). e.0)) in
    subst (λ (l : List ℕ). AreWithin (length (keys_of fs)) l) (sym (longer ∙ ap (λ (m : ℕ). ps ++ m ∷ []) here))
    (within_last (length (keys_of es)) (length (keys_of fs)) ps (omega (arith, keys_longer es fs key row more)) within)

-- one row changed
pub changed : {S : Type 0} (m : IndexMap Key Transfer S) (key : Key) (p : ℕ) (old row : Transfer) → IsUnique same_key m → slice_get m.entries p ≡ Some (key, old)
    → (q : Key) → lookup (same_key q) (with_value_at m p row).entries ≡ cond (same_key key q) (Some row) (lookup (same_key q) m.entries)
changed m key p old row unique e q = (updates-with_value_at m p row keys_equiv unique key old e).0 q

-- what is kept for good of one more transfer, and of one whose outcome changed
pub rows_more : (es fs : List (Key × Transfer)) (key : Key) (row : Transfer) → fs ≡ es ++ (key, row) ∷ [] → rows_in fs ≡ rows_in es ++ row_in (key, row) ∷ []
rows_more es fs key row more = ap (λ (l : List (Key × Transfer)). rows_in l) more ∙ map-append row_in es ((key, row) ∷ [])

pub rows_kept : (es : List (Key × Transfer)) (p : ℕ) (key : Key) (old row : Transfer) → slice_get es p ≡ Some (key, old) → row_in (key, row) ≡ row_in (key, old) → rows_in (set_value_at es p row) ≡ rows_in es
rows_kept [] p key old row e same = absurd (true≢false (sym (ap is_some e)))
rows_kept (x ∷ es) zero key old row e same =
    let here : x ≡ (key, old) = cc in
    ap (λ (y : Key × Transfer). row_in (y.0, row) ∷ rows_in es) here ∙ ap (λ (y : Entry). y ∷ rows_in es) same ∙ sym (ap (λ (y : Key × Transfer). row_in y ∷ rows_in es) here)
rows_kept (x ∷ es) (suc p) key old row e same = ap (λ (l : List Entry). row_in x ∷ l) (rows_kept es p key old row e same)

-- what stands at a position
pub row_there : (es : List (Key × Transfer)) (p : ℕ) (e : Key × Transfer) → slice_get es p ≡ Some e → slice_get (rows_in es) p ≡ Some (row_in e)
row_there [] p e there = absurd (true≢false (sym (ap is_some there)))
row_there (x ∷ es) zero e there = let same : x ≡ e = cc in ap (λ (y : Key × Transfer). Some (row_in y)) same
row_there (x ∷ es) (suc p) e there = row_there es p e there

row_from : (es : List (Key × Transfer)) (p : ℕ) (x : Entry) → slice_get (rows_in es) p ≡ Some x → slice_get (keys_of es) p ≡ Some (x.from, x.id)
row_from [] p x there = absurd (true≢false (sym (ap is_some there)))
row_from (e ∷ es) zero x there = let same : row_in e ≡ x = cc in ap (λ (y : Entry). Some (y.from, y.id)) same
row_from (e ∷ es) (suc p) x there = row_from es p x there

-- the identifier at an index of the list
pub id_there : (ks : List Key) (ps : List ℕ) (i p : ℕ) (key : Key) → slice_get ps i ≡ Some p → slice_get ks p ≡ Some key → slice_get (ids_at ks ps) i ≡ Some key.1
id_there ks [] i p key e there = absurd (true≢false (sym (ap is_some e)))
id_there ks (x ∷ ps) zero p key e there = let same : x ≡ p = cc in ap (λ (y : ℕ). Some (id_in (slice_get ks y))) same ∙ ap (λ (o : Option Key). Some (id_in o)) there
id_there ks (x ∷ ps) (suc i) p key e there = id_there ks ps i p key e there

pub within_at : (n : ℕ) (ps : List ℕ) (i p : ℕ) → AreWithin n ps → slice_get ps i ≡ Some p → p < n
within_at n [] i p within e = absurd (true≢false (sym (ap is_some e)))
within_at n (x ∷ ps) zero p within e = let same : x ≡ p = cc in omega (arith, within.0, same)
within_at n (x ∷ ps) (suc i) p within e = within_at n ps i p within.1 e

pub key_at : (es : List (Key × Transfer)) (p : ℕ) (key : Key) (row : Transfer) → slice_get es p ≡ Some (key, row) → slice_get (keys_of es) p ≡ Some key
key_at [] p key row e = absurd (true≢false (sym (ap is_some e)))
key_at (x ∷ es) zero key row e = let same : x ≡ (key, row) = cc in ap (λ (y : Key × Transfer). Some y.0) same
key_at (x ∷ es) (suc p) key row e = key_at es p key row e

outside : {A : Type 0} (ks : List A) (i : ℕ) → i < length ks → slice_get ks i ≡ None → ⊥
outside [] i below none = absurd (omega (arith, below))
outside (k ∷ ks) zero below none = true≢false (ap is_some none)
outside (k ∷ ks) (suc i) below none = outside ks i (omega (arith, below)) none

-- those that live on, by their identifiers
module _ (who : ℕ) (es : List (Key × Transfer)) (unique : IsDistinct same_key (keys_of es)) where
  abbrev pub lives : List ℕ → Bool
  lives id = is_none (outcome_in (found_at es (who, id)))

  one_more : (p : ℕ) (ps : List ℕ) (b : Bool) → ids_at (keys_of es) (filter (waits_at es) ps) ≡ filter lives (ids_at (keys_of es) ps)
      → ids_at (keys_of es) (cond b (p ∷ filter (waits_at es) ps) (filter (waits_at es) ps)) ≡ cond b (id_in (slice_get (keys_of es) p) ∷ filter lives (ids_at (keys_of es) ps)) (filter lives (ids_at (keys_of es) ps))
  one_more p ps true rest = ap (λ (l : List (List ℕ)). id_in (slice_get (keys_of es) p) ∷ l) rest
  one_more p ps false rest = rest

  same_test : (p : ℕ) (id : List ℕ) → p < length (keys_of es) → slice_get (keys_of es) p ≡ Some (who, id) → waits_at es p ≡ lives id
  same_test p id below own = go (slice_get es p) refl
    where
      go : (o : Option (Key × Transfer)) → slice_get es p ≡ o → waits_at es p ≡ lives id
      go None there = absurd (outside es p (omega (arith, below, length-map es (λ (e : Key × Transfer). e.0))) there)
      go (Some e) there =
          let both : Some e.0 ≡ Some (who, id) = sym (key_at es p e.0 e.1 there) ∙ own in
          let key : e.0 ≡ (who, id) = cc in
          let found : found_at es (who, id) ≡ Some e.1 = ap (found_at es) (sym key) ∙ lookup_from_place keys_equiv es p e.0 e.1 unique there in
          ap waits_row there ∙ sym (ap (λ (o : Option Transfer). is_none (outcome_in o)) found)

  pub live_on : (ps : List ℕ) → AreWithin (length (keys_of es)) ps → AreOwn who (keys_of es) ps → ids_at (keys_of es) (filter (waits_at es) ps) ≡ filter lives (ids_at (keys_of es) ps)
  live_on [] within own = refl
  live_on (p ∷ ps) within own =
      one_more p ps (waits_at es p) (live_on ps within.1 own.1)
      ∙ ap (λ (b : Bool). cond b (id_in (slice_get (keys_of es) p) ∷ filter lives (ids_at (keys_of es) ps)) (filter lives (ids_at (keys_of es) ps))) (same_test p (id_in (slice_get (keys_of es) p)) within.0 own.0)

within_one : (n : ℕ) (p : ℕ) (ps : List ℕ) (b : Bool) → p < n → AreWithin n ps → AreWithin n (cond b (p ∷ ps) ps)
within_one n p ps true below within = (below, within)
within_one n p ps false below within = within

pub within_filtered : (n : ℕ) (test : ℕ → Bool) (ps : List ℕ) → AreWithin n ps → AreWithin n (filter test ps)
within_filtered n test [] within = tt
within_filtered n test (p ∷ ps) within = within_one n p (filter test ps) (test p) within.0 (within_filtered n test ps within.1)

-- the positions of own live transfers: kept through each change
owns_same : (who : ℕ) (ks ls : List Key) (ps : List ℕ) → ((p : ℕ) → p < length ks → slice_get ls p ≡ slice_get ks p) → AreWithin (length ks) ps → AreOwn who ks ps → AreOwn who ls ps
owns_same who ks ls [] same within own = tt
owns_same who ks ls (p ∷ ps) same within own =
    let here : slice_get ls p ≡ slice_get ks p = same p within.0 in
    (here ∙ own.0 ∙ ap (λ (o : Option Key). Some (who, id_in o)) (sym here), owns_same who ks ls ps same within.1 own.1)

owns_push : (who : ℕ) (ks : List Key) (ps : List ℕ) (n : ℕ) → AreOwn who ks ps → slice_get ks n ≡ Some (who, id_in (slice_get ks n)) → AreOwn who ks (ps ++ n ∷ [])
owns_push who ks [] n own here = (here, tt)
owns_push who ks (p ∷ ps) n own here = (own.0, owns_push who ks ps n own.1 here)

owns_one : (who : ℕ) (ks : List Key) (p : ℕ) (ps : List ℕ) (b : Bool) → slice_get ks p ≡ Some (who, id_in (slice_get ks p)) → AreOwn who ks ps → AreOwn who ks (cond b (p ∷ ps) ps)
owns_one who ks p ps true here own = (here, own)
owns_one who ks p ps false here own = own

owns_filtered : (who : ℕ) (ks : List Key) (test : ℕ → Bool) (ps : List ℕ) → AreOwn who ks ps → AreOwn who ks (filter test ps)
owns_filtered who ks test [] own = tt
owns_filtered who ks test (p ∷ ps) own = owns_one who ks p (filter test ps) (test p) own.0 (owns_filtered who ks test ps own.1)

above_push : (p n : ℕ) (qs : List ℕ) → AreAbove p qs → p < n → AreAbove p (qs ++ n ∷ [])
above_push p n [] above less = (less, tt)
above_push p n (q ∷ qs) above less = (above.0, above_push p n qs above.1 less)

pub rising_push : (ps : List ℕ) (n : ℕ) → AreRising ps → AreWithin n ps → AreRising (ps ++ n ∷ [])
rising_push [] n rising within = (tt, tt)
rising_push (p ∷ ps) n rising within = (above_push p n ps rising.0 within.0, rising_push ps n rising.1 within.1)

above_one : (p q : ℕ) (qs : List ℕ) (b : Bool) → p < q → AreAbove p qs → AreAbove p (cond b (q ∷ qs) qs)
above_one p q qs true less above = (less, above)
above_one p q qs false less above = above

above_filtered : (p : ℕ) (test : ℕ → Bool) (qs : List ℕ) → AreAbove p qs → AreAbove p (filter test qs)
above_filtered p test [] above = tt
above_filtered p test (q ∷ qs) above = above_one p q (filter test qs) (test q) above.0 (above_filtered p test qs above.1)

rising_one : (p : ℕ) (ps : List ℕ) (b : Bool) → AreAbove p ps → AreRising ps → AreRising (cond b (p ∷ ps) ps)
rising_one p ps true above rising = (above, rising)
rising_one p ps false above rising = rising

rising_filtered : (test : ℕ → Bool) (ps : List ℕ) → AreRising ps → AreRising (filter test ps)
rising_filtered test [] rising = tt
rising_filtered test (p ∷ ps) rising = rising_one p (filter test ps) (test p) (above_filtered p test ps rising.0) (rising_filtered test ps rising.1)

pub positions_before : (who : ℕ) (es fs : List (Key × Transfer)) (key : Key) (row : Transfer) (ps : List ℕ) → ArePositions who (keys_of es) ps → fs ≡ es ++ (key, row) ∷ [] → ArePositions who (keys_of fs) ps
positions_before who es fs key row ps are more =
    let ks : keys_of fs ≡ keys_of es ++ key ∷ [] = ap (λ (l : List (Key × Transfer)). keys_of l) more ∙ keys_more es key row in
    (within_before es fs key row ps are.0 more, owns_same who (keys_of es) (keys_of fs) ps (λ p below. ap (λ (l : List Key). slice_get l p) ks ∙ get_before (keys_of es) key p below) are.0 are.1, are.2)

pub positions_added : (who : ℕ) (id : List ℕ) (es fs : List (Key × Transfer)) (row : Transfer) (ps qs : List ℕ) (n : ℕ) → ArePositions who (keys_of es) ps → fs ≡ es ++ ((who, id), row) ∷ [] → n ≡ length es → qs ≡ ps ++ n ∷ [] → ArePositions who (keys_of fs) qs
positions_added who id es fs row ps qs n are more count longer =
    let key : Key = (who, id) in
    let ks : keys_of fs ≡ keys_of es ++ key ∷ [] = ap (λ (l : List (Key × Transfer)). keys_of l) more ∙ keys_more es key row in
    let end : n ≡ length (keys_of es) = count ∙ sym (length-map es (λ (e : Key × Transfer). e.0)) in
    let last : slice_get (keys_of fs) n ≡ Some key = ap (λ (l : List Key). slice_get l n) ks ∙ ap (slice_get (keys_of es ++ key ∷ [])) end ∙ get_last (keys_of es) key in
    let before : AreOwn who (keys_of fs) ps = owns_same who (keys_of es) (keys_of fs) ps (λ p below. ap (λ (l : List Key). slice_get l p) ks ∙ get_before (keys_of es) key p below) are.0 are.1 in (
      within_added es fs key row ps qs n are.0 more count longer,
      subst (λ (l : List ℕ). AreOwn who (keys_of fs) l) (sym longer) (owns_push who (keys_of fs) ps n before (last ∙ ap (λ (o : Option Key). Some (who, id_in o)) (sym last))),
      subst (λ (l : List ℕ). AreRising l) (sym longer) (rising_push ps n are.2 (subst (λ (m : ℕ). AreWithin m ps) (sym end) are.0)),
    )

pub positions_filtered : (who : ℕ) (ks : List Key) (test : ℕ → Bool) (ps : List ℕ) → ArePositions who ks ps → ArePositions who ks (filter test ps)
positions_filtered who ks test ps are = (within_filtered (length ks) test ps are.0, owns_filtered who ks test ps are.1, rising_filtered test ps are.2)

-- where an own live transfer stands
own_there : (who : ℕ) (ks : List Key) (ps : List ℕ) (i p : ℕ) → AreOwn who ks ps → slice_get ps i ≡ Some p → slice_get ks p ≡ Some (who, id_in (slice_get ks p))
own_there who ks [] i p own e = absurd (true≢false (sym (ap is_some e)))
own_there who ks (x ∷ ps) zero p own e = let same : x ≡ p = cc in subst (λ (q : ℕ). slice_get ks q ≡ Some (who, id_in (slice_get ks q))) same own.0
own_there who ks (x ∷ ps) (suc i) p own e = own_there who ks ps i p own.1 e

-- what stands at a position of an own live transfer
pub own_found : (held : Held) (index p : ℕ) (r : Option Found) → ArePositions held.who (keys_of held.entries) held.positions → slice_get held.positions index ≡ Some p → FindsAt held p r → FindsOwn held index r
own_found held index p None are there past =
    absurd (omega (arith, past, within_at (length (keys_of held.entries)) held.positions index p are.0 there, length-map held.entries (λ (e : Key × Transfer). e.0)))
own_found held index p (Some f) are there found =
    let key : slice_get (keys_of held.entries) p ≡ Some (f.from, f.id) =
    key_at held.entries p (f.from, f.id) f.transfer (ap (slice_get held.entries) (sym found.0) ∙ found.1.row) in
    let own = own_there held.who (keys_of held.entries) held.positions index p are.1 there in
    let from : f.from ≡ held.who = ap (λ (k : Key). k.0) (same_Some (f.from, f.id) (held.who, id_in (slice_get (keys_of held.entries) p)) (sym key ∙ own)) in
    (from, id_there (keys_of held.entries) held.positions index p (f.from, f.id) there key, found.1)

above_at : (p : ℕ) (qs : List ℕ) (j : ℕ) → AreAbove p qs → j < length qs → p < get_or qs j 0
above_at p [] j above below = absurd (omega (arith, below))
above_at p (q ∷ qs) zero above below = above.0
above_at p (q ∷ qs) (suc j) above below = above_at p qs j above.1 (omega (arith, below))

rising_at : (ps : List ℕ) (i j : ℕ) → AreRising ps → i < j → j < length ps → get_or ps i 0 < get_or ps j 0
rising_at [] i j rising less below = absurd (omega (arith, below))
rising_at (p ∷ ps) zero zero rising less below = absurd (omega (arith, less))
rising_at (p ∷ ps) zero (suc j) rising less below = above_at p ps j rising.0 (omega (arith, below))
rising_at (p ∷ ps) (suc i) zero rising less below = absurd (omega (arith, less))
rising_at (p ∷ ps) (suc i) (suc j) rising less below = rising_at ps i j rising.1 (omega (arith, less)) (omega (arith, below))

pub rising_all : (ps : List ℕ) → AreRising ps → (i j : ℕ) → i ≤ j → j < length ps → get_or ps i 0 ≤ get_or ps j 0
rising_all ps rising i j le below = by (le_cases i j le)
  where
    by : (i < j) ⊎ (i ≡ j) → get_or ps i 0 ≤ get_or ps j 0
    by (inl less) = omega (arith, rising_at ps i j rising less below)
    by (inr same) = omega (arith, ap (λ (k : ℕ). get_or ps k 0) same)

    le_cases : (i j : ℕ) → i ≤ j → (i < j) ⊎ (i ≡ j)
    le_cases zero zero h = inr refl
    le_cases zero (suc j) h = inl (omega arith)
    le_cases (suc i) zero h = absurd (omega (arith, h))
    le_cases (suc i) (suc j) h = ⊎_elim (λ less. inl (omega (arith, less))) (λ same. inr (ap suc same)) (le_cases i j (omega (arith, h)))

-- the keys of a table are distinct
all_false : (k : Key) (ks : List Key) → AllByRecursion (λ y. same_key k y ≡ false) ks → (j : ℕ) (y : Key) → slice_get ks j ≡ Some y → same_key k y ≡ false
all_false k [] all j y e = absurd (true≢false (sym (ap is_some e)))
all_false k (x ∷ ks) all zero y e = let same : x ≡ y = cc in ap (same_key k) (sym same) ∙ all.0
all_false k (x ∷ ks) all (suc j) y e = all_false k ks all.1 j y e

distinct_at : (ks : List Key) (i j : ℕ) (x y : Key) → IsDistinct same_key ks → i < j → slice_get ks i ≡ Some x → slice_get ks j ≡ Some y → same_key x y ≡ false
unfolding IsDistinct
distinct_at [] i j x y distinct less e f = absurd (true≢false (sym (ap is_some e)))
distinct_at (k ∷ ks) zero zero x y distinct less e f = absurd (omega (arith, less))
distinct_at (k ∷ ks) zero (suc j) x y distinct less e f = let same : k ≡ x = cc in ap (λ (z : Key). same_key z y) (sym same) ∙ all_false k ks distinct.0 j y f
distinct_at (k ∷ ks) (suc i) zero x y distinct less e f = absurd (omega (arith, less))
distinct_at (k ∷ ks) (suc i) (suc j) x y distinct less e f = distinct_at ks i j x y distinct.1 (omega (arith, less)) e f

one_place : (ks : List Key) (i j : ℕ) (x : Key) → IsDistinct same_key ks → slice_get ks i ≡ Some x → slice_get ks j ≡ Some x → i ≡ j
one_place ks i j x distinct e f = elim (cases_order i j) [
  | inl same ↦ same
  | inr apart ↦ elim apart [
    | inl less ↦ absurd (true≢false (sym (keys_equiv.refl x) ∙ distinct_at ks i j x x distinct less e f))
    | inr more ↦ absurd (true≢false (sym (keys_equiv.refl x) ∙ distinct_at ks j i x x distinct more f e))
  ]
]

-- no two rows are of the same transfer
pub rows_apart : (es : List (Key × Transfer)) → IsDistinct same_key (keys_of es) → AreApart (rows_in es)
rows_apart es distinct = λ i j x y here there from id.
    let same : (y.from, y.id) ≡ (x.from, x.id) = λ k. (sym from k, sym id k) in
    one_place (keys_of es) i j (x.from, x.id) distinct (row_from es i x here) (row_from es j y there ∙ ap (λ (k : Key). Some k) same)

mapped : (ks : List Key) (ps : List ℕ) (k : ℕ) (id : List ℕ) → slice_get (ids_at ks ps) k ≡ Some id → (q : ℕ) × (slice_get ps k ≡ Some q) × (id_in (slice_get ks q) ≡ id)
mapped ks [] k id e = absurd (true≢false (sym (ap is_some e)))
mapped ks (p ∷ ps) zero id e = let same : id_in (slice_get ks p) ≡ id = cc in (p, refl, same)
mapped ks (p ∷ ps) (suc k) id e = mapped ks ps k id e

-- an own live transfer stands in the list where its position does
pub stands_at : (who : ℕ) (es : List (Key × Transfer)) (ps : List ℕ) (id : List ℕ) (p k : ℕ) → ArePositions who (keys_of es) ps → IsDistinct same_key (keys_of es) → slice_get (keys_of es) p ≡ Some (who, id) → slice_get (ids_at (keys_of es) ps) k ≡ Some id → slice_get ps k ≡ Some p
stands_at who es ps id p k are distinct there e =
    let m = mapped (keys_of es) ps k id e in
    let key : slice_get (keys_of es) m.0 ≡ Some (who, id) = own_there who (keys_of es) ps k m.0 are.1 m.1 ∙ ap (λ (i : List ℕ). Some (who, i)) m.2 in
    m.1 ∙ ap (λ (q : ℕ). Some q) (one_place (keys_of es) m.0 p (who, id) distinct key there)

pub same_index : (ps : List ℕ) (i k p : ℕ) → AreRising ps → i < length ps → get_or ps i 0 ≡ p → slice_get ps k ≡ Some p → i ≡ k
same_index ps i k p rising below here there =
    let within : k < length ps = slice_get_within ps k p there in
    let at_k : get_or ps k 0 ≡ p = get_or_from_slice_get ps k p 0 there in
    elim (cases_order i k) [
      | inl same ↦ same
      | inr apart ↦ elim apart [
        | inl less ↦ absurd (omega (arith, rising_at ps i k rising less within, here, at_k))
        | inr more ↦ absurd (omega (arith, rising_at ps k i rising more below, here, at_k))
      ]
    ]

pub not_there : (ps : List ℕ) (j k p : ℕ) → ((i : ℕ) → i < j → get_or ps i 0 < p) → ((i : ℕ) → j ≤ i → i < length ps → p < get_or ps i 0) → slice_get ps k ≡ Some p → ⊥
not_there ps j k p under over there =
    let within : k < length ps = slice_get_within ps k p there in
    let at_k : get_or ps k 0 ≡ p = get_or_from_slice_get ps k p 0 there in
    elim (cases_order k j) [
      | inl same ↦ omega (arith, over k (omega (arith, same)) within, at_k)
      | inr apart ↦ elim apart [
        | inl less ↦ omega (arith, under k less, at_k)
        | inr more ↦ omega (arith, over k (omega (arith, more)) within, at_k)
      ]
    ]

-- what is found at the position is the only index at which it stands
pub index_is : (ps : List ℕ) (p : ℕ) (r : Option ℕ) → AreRising ps → FindsIndex ps p r → (k : ℕ) → slice_get ps k ≡ Some p → r ≡ Some k
index_is ps p None rising finds k there = absurd (finds k there)
index_is ps p (Some i) rising finds k there =
    ap (λ (n : ℕ). Some n) (same_index ps i k p rising (slice_get_within ps i p finds) (get_or_from_slice_get ps i p 0 finds) there)

pub index_there : (ps : List ℕ) (p : ℕ) (r : Option ℕ) → FindsIndex ps p r → (k : ℕ) → r ≡ Some k → slice_get ps k ≡ Some p
index_there ps p r finds k is = subst (FindsIndex ps p) is finds

pub index_within : (ps : List ℕ) (p : ℕ) (r : Option ℕ) → FindsIndex ps p r → IfSome r (λ k. k < length ps)
index_within ps p None finds = tt
index_within ps p (Some i) finds = slice_get_within ps i p finds
