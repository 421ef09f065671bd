-- The mask of a load that was computed lane by lane is that of a test of each byte, and what it tells of the load.
use Rattle.std.proofs.Common.{◌≡◌, ◌≢◌, ℕ, ◌+◌, ◌*◌, ◌-◌, ◌%◌, ◌^◌, ◌≤◌, Bool, true, false, not, cond, ◌&&◌, List, [], ◌∷◌, map, length, drop, eqb, suc, zero, Fits, w8, refl, sym, ap, ap₂, ◌∙◌, arith, inl, inr}
use Rattle.std.proofs.lemmas.Bool.{agree_below, agree_below_at, and_parts, cases_eq, eq-eqb, ne_eqb, false_from_ne_true, true≢false}
use Rattle.std.proofs.lemmas.Simd.{map-map, mask_l-mod, zip2-map, chunk-drop}
use Rattle.std.proofs.lemmas.List.{length-map, drop-drop, drop_all}
use Rattle.std.proofs.lemmas.List.Folds.{list_all-append}
use Rattle.std.specs.List.{list_all}
use lib.Lanes.{zip2, mask_l, chunk, top, Each1}

-- an operation on two vectors that were computed lane by lane from v
pub joined : (h : ℕ → ℕ → ℕ) (f g : ℕ → ℕ) (v : List ℕ) {a b : List ℕ} → a ≡ map f v → b ≡ map g v → zip2 h a b ≡ map (λ x. h (f x) (g x)) v
joined h f g v p q = ap₂ (zip2 h) p q ∙ zip2-map h f g v

each_byte : (p q : ℕ → Bool) → agree_below p q 256 ≡ true → (v : List ℕ) → Each1 (Fits w8) v → map p v ≡ map q v
each_byte p q all [] fits = refl
each_byte p q all (x ∷ xs) fits = ap₂ (λ a b. a ∷ b) (agree_below_at p q 256 x all fits.0.fits) (each_byte p q all xs fits.1)

pub masked : (f : ℕ → ℕ) (p : ℕ → Bool) (v z : List ℕ) → length v ≤ 64 → Each1 (Fits w8) v → z ≡ map f v → agree_below (λ x. top 7 (f x)) p 256 ≡ true
    → mask_l (map (top 7) z) % 2 ^ 64 ≡ mask_l (map p v)
masked f p v z short fits e all =
    ap (λ l. mask_l l % 2 ^ 64) (ap (map (top 7)) e ∙ map-map (top 7) f v ∙ each_byte (λ x. top 7 (f x)) p all v fits) ∙ mask_l-mod (map p v) 64 (omega (arith, length-map v p))

more_lanes : (b l : Bool) (m : ℕ) → eqb m 0 ≡ l → eqb (cond (not b) 1 0 + 2 * m) 0 ≡ (b && l)
more_lanes true l m e = elim (cases_eq m 0) [
  | inl none ↦ eq-eqb (0 + 2 * m) 0 (omega (arith, none)) ∙ sym (eq-eqb m 0 none) ∙ e
  | inr some ↦ ne_eqb (0 + 2 * m) 0 (λ (none : 0 + 2 * m ≡ 0). some (omega (arith, none))) ∙ sym (ne_eqb m 0 some) ∙ e
]
more_lanes false l m e = ne_eqb (1 + 2 * m) 0 (λ (none : 1 + 2 * m ≡ 0). omega (arith, none))

module _ (q : ℕ → Bool) where
  -- the bits of the bytes that fail it
  abbrev pub failing : List ℕ → ℕ
  failing xs = mask_l (map (λ x. not (q x)) xs)

  no_lane_fails : (xs : List ℕ) → eqb (failing xs) 0 ≡ list_all q xs
  no_lane_fails [] = refl
  no_lane_fails (x ∷ xs) = more_lanes (q x) (list_all q xs) (failing xs) (no_lane_fails xs)

  -- a load, then what stands behind it
  pub from_load : (d : List ℕ) (i n : ℕ) → list_all q (drop i d) ≡ (eqb (failing (chunk i n d)) 0 && list_all q (drop (i + n) d))
  from_load d i n = ap (list_all q) (chunk-drop i n d) ∙ list_all-append q (chunk i n d) (drop (i + n) d) ∙ ap (λ b. b && list_all q (drop (i + n) d)) (sym (no_lane_fails (chunk i n d)))

  drop_passes : (k : ℕ) (xs : List ℕ) → list_all q xs ≡ true → list_all q (drop k xs) ≡ true
  drop_passes zero xs h = h
  drop_passes (suc k) [] h = refl
  drop_passes (suc k) (x ∷ xs) h = drop_passes k xs (and_parts (q x) (list_all q xs) h).1

  drop_fails : (k : ℕ) (xs : List ℕ) → list_all q (drop k xs) ≡ false → list_all q xs ≡ false
  drop_fails k xs h = false_from_ne_true _ (λ all. true≢false (sym (drop_passes k xs all) ∙ h))

  -- a load in which some byte fails
  pub load_fails : (d : List ℕ) (i n : ℕ) → failing (chunk i n d) ≢ 0 → list_all q d ≡ false
  load_fails d i n some = drop_fails i d (from_load d i n ∙ ap (λ b. b && list_all q (drop (i + n) d)) (ne_eqb _ 0 some))

  -- a load that all bytes pass
  pub load_passes : (d : List ℕ) (i n : ℕ) → failing (chunk i n d) ≡ 0 → list_all q (drop i d) ≡ list_all q (drop (i + n) d)
  load_passes d i n none = from_load d i n ∙ ap (λ b. b && list_all q (drop (i + n) d)) (eq-eqb _ 0 none)

  -- the last load, which may overlap what was seen to pass
  pub last_decides : (d : List ℕ) (seen last n : ℕ) → last ≤ seen → last + n ≡ length d → list_all q d ≡ list_all q (drop seen d)
      → eqb (failing (chunk last n d)) 0 ≡ list_all q d
  last_decides d seen last n overlaps ends front =
      let rest : list_all q (drop (last + n) d) ≡ true = ap (list_all q) (drop_all (last + n) d (omega (arith, ends))) in
      let again : list_all q (drop (seen - last) (drop last d)) ≡ list_all q (drop seen d) = ap (list_all q) (drop-drop (seen - last) last d ∙ ap (λ k. drop k d) (omega arith)) in
      elim (cases_eq (failing (chunk last n d)) 0) [
        | inl none ↦ eq-eqb _ 0 none ∙ sym (front ∙ sym again ∙ drop_passes (seen - last) (drop last d) (load_passes d last n none ∙ rest))
        | inr some ↦ ne_eqb _ 0 some ∙ sym (load_fails d last n some)
      ]
