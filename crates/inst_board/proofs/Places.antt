-- Places in the list of a plain board.
use Rattle.std.proofs.Common.{◌≡◌, ◌≢◌, ℕ, zero, suc, ◌*◌, ◌<◌, ◌⊎◌, Bool, true, false, nat_lt, List, [], ◌∷◌, length, set, get_or, inl, inr, refl, sym, ap, ◌∙◌, subst, arith}
use Rattle.std.specs.Prelude.{Some, None, slice_get, if◌then◌else◌}
use Rattle.std.proofs.lemmas.Bool.{and_parts, cases_eq}
use Rattle.std.proofs.lemmas.Bool.Decides.{nat_tests}
use Rattle.std.proofs.lemmas.List.{length-set, get_or-set_same, get_or-set_other}
use Rattle.std.proofs.lemmas.Nat.{same_from_place, mul-add-lt}
use Rattle.inst_settings.specs.Settings.{HubSettings, participants}
use Rattle.inst_terms.specs.declared.terms.Terms.{Terms}
use Rattle.inst_terms.specs.declared.word.Word.{Word}
use Rattle.inst_terms.specs.declared.word.Word.TheVariants.{Unused as UnusedWord}
use Rattle.inst_command.specs.declared.place.Place.{Place}
use Rattle.inst_board.specs.declared.plain.Kept.{Kept}
use Rattle.inst_board.specs.declared.plain.Kept.TheVariants.{Unused, Written, Pending, Decided}
use Rattle.inst_board.specs.Standing.{is_place, IsPlace, IsLawful, word_of}
use Rattle.inst_board.specs.Plain.{Contents, place_number, rank_of, kept_at, standing_of, kept_terms, HaveTerms, IsContents, Becomes}
use Rattle.inst_board.specs.inner.Plain.{Puts, PutsTerms}

pub record IsInside (s : HubSettings) (k : Place) : Type 0 where
  pub owner : k.owner < participants s
  pub index : k.index < s.places

pub inside : (s : HubSettings) (k : Place) → IsPlace s k → IsInside s k
inside s k h =
    let parts = and_parts (nat_lt k.owner (participants s)) (nat_lt k.index s.places) h in
    let o = parts.0 in let i = parts.1 in
    record { owner = grind (arith, nat_tests); index = grind (arith, nat_tests) }

pub number_below : (s : HubSettings) (k : Place) → IsPlace s k → place_number s k < s.places * participants s
number_below s k h = let i = inside s k h in mul-add-lt k.owner s.places k.index (participants s) i.owner i.index

pub rank_below : (s : HubSettings) (k : Place) → IsPlace s k → rank_of s k < participants s * s.places
rank_below s k h = let i = inside s k h in mul-add-lt k.index (participants s) k.owner s.places i.index i.owner

abbrev made : ℕ → ℕ → Place
made owner index = record { owner = owner; index = index }

same_place : (j k : Place) → j.owner ≡ k.owner → j.index ≡ k.index → j ≡ k
same_place j k o i = ap (λ (x : ℕ). made x j.index) o ∙ ap (λ (x : ℕ). made k.owner x) i

pub place_cases : (j k : Place) → (j ≡ k) ⊎ (j ≢ k)
place_cases j k = elim (cases_eq j.owner k.owner) [
  | inl o ↦ elim (cases_eq j.index k.index) [
    | inl i ↦ inl (same_place j k o i)
    | inr n ↦ inr (λ e. n (ap (λ (x : Place). x.index) e))
  ]
  | inr n ↦ inr (λ e. n (ap (λ (x : Place). x.owner) e))
]

pub same_of_number : (s : HubSettings) (j k : Place) → IsPlace s j → IsPlace s k → place_number s j ≡ place_number s k → j ≡ k
same_of_number s j k hj hk e =
    let ij = inside s j hj in let ik = inside s k hk in
    let same = same_from_place j.owner j.index k.owner k.index s.places ij.index ik.index e in
    same_place j k same.0 same.1

pub same_of_rank : (s : HubSettings) (j k : Place) → IsPlace s j → IsPlace s k → rank_of s j ≡ rank_of s k → j ≡ k
same_of_rank s j k hj hk e =
    let ij = inside s j hj in let ik = inside s k hk in
    let same = same_from_place j.index j.owner k.index k.owner (participants s) ij.owner ik.owner e in
    same_place j k same.1 same.0

-- what is kept of a place that the settings have
pub kept_inside : (b : Contents) (k : Place) → IsPlace b.settings k → kept_at b k ≡ get_or b.kept (rank_of b.settings k) Unused
kept_inside b k h = ap (λ t. if t then get_or b.kept (rank_of b.settings k) Unused else Unused) h

pub kept_outside : (b : Contents) (k : Place) → is_place b.settings k ≡ false → kept_at b k ≡ Unused
kept_outside b k h = ap (λ t. if t then get_or b.kept (rank_of b.settings k) Unused else Unused) h

-- ---- a value is put at its rank

pub set_puts : (l : List Kept) (n : ℕ) (w : Kept) → n < length l → Puts l n w (set l n w)
set_puts l n w h = record {
  here = get_or-set_same l n w Unused h;
  elsewhere = λ j other. get_or-set_other l n j w Unused other;
  within = λ most fits below. omega (arith, length-set l n w);
}

-- ---- a place is written

abbrev pub with_kept : Contents → List Kept → Contents
with_kept b new = record { settings = b.settings; kept = new }

kept_elsewhere : (b : Contents) (k : Place) (w : Kept) (new : List Kept) → Puts b.kept (rank_of b.settings k) w new → IsPlace b.settings k → (j : Place) → j ≢ k
    → (t : Bool) → is_place b.settings j ≡ t → kept_at (with_kept b new) j ≡ kept_at b j
kept_elsewhere b k w new puts h j n true e =
    kept_inside (with_kept b new) j e ∙ puts.elsewhere (rank_of b.settings j) (λ r. n (same_of_rank b.settings j k e h r)) ∙ sym (kept_inside b j e)
kept_elsewhere b k w new puts h j n false e = kept_outside (with_kept b new) j e ∙ sym (kept_outside b j e)

pub written : (b : Contents) (k : Place) (w : Kept) (new : List Kept) → IsPlace b.settings k → Puts b.kept (rank_of b.settings k) w new → Becomes b k w (with_kept b new)
written b k w new h puts = record {
  settings = refl;
  here = kept_inside (with_kept b new) k h ∙ puts.here;
  elsewhere = λ j n. kept_elsewhere b k w new puts h j n (is_place b.settings j) refl;
}

lawful_put : (margin : ℕ) (l new : List Kept) (n : ℕ) (w : Kept) → Puts l n w new → IsLawful margin (standing_of w)
    → ((j : ℕ) → IsLawful margin (standing_of (get_or l j Unused))) → (j : ℕ) → IsLawful margin (standing_of (get_or new j Unused))
lawful_put margin l new n w puts h all j = elim (cases_eq j n) [
  | inl e ↦ subst (λ (v : Kept). IsLawful margin (standing_of v)) (sym (ap (λ m. get_or new m Unused) e ∙ puts.here)) h
  | inr other ↦ subst (λ (v : Kept). IsLawful margin (standing_of v)) (sym (puts.elsewhere j other)) (all j)
]

pub contents_written : (b : Contents) (k : Place) (w : Kept) (new : List Kept) → IsContents b → IsPlace b.settings k → IsLawful b.settings.margin (standing_of w)
    → Puts b.kept (rank_of b.settings k) w new → IsContents (with_kept b new)
contents_written b k w new form h lawful puts = record {
  sized = puts.within (participants b.settings * b.settings.places) form.sized (rank_below b.settings k h);
  lawful = lawful_put b.settings.margin b.kept new (rank_of b.settings k) w puts lawful form.lawful;
}

-- ---- the terms of a place

-- terms are kept of each opened place
pub opened_terms : (v : Kept) (w : Word) → w ≡ word_of (standing_of v) → w ≢ UnusedWord → (t : Terms) × (kept_terms v ≡ Some t)
opened_terms Unused w is opened = absurd (opened is)
opened_terms (Written t) w is opened = (t, refl)
opened_terms (Pending t d) w is opened = (t, refl)
opened_terms (Decided t d o at) w is opened = (t, refl)

-- terms are kept of none but the places that the settings have
pub written_is_place : (b : Contents) (k : Place) (t : Terms) → kept_terms (kept_at b k) ≡ Some t → IsPlace b.settings k
written_is_place b k t h = at_either (is_place b.settings k) refl where
  at_either : (has : Bool) → is_place b.settings k ≡ has → IsPlace b.settings k
  at_either true e = e
  at_either false e = let nothing : None ≡ Some t = sym (ap kept_terms (kept_outside b k e)) ∙ h in let no : ⊥ = cc in absurd no

-- and lie within the list
pub written_within : (l : List Kept) (n : ℕ) (t : Terms) → kept_terms (get_or l n Unused) ≡ Some t → n < length l
written_within [] n t h = let no : ⊥ = cc in absurd no
written_within (v ∷ l) zero t h = omega arith
written_within (v ∷ l) (suc n) t h = let below = written_within l n t h in omega arith

-- a value that is set where terms are kept is put there
pub kept_puts : (b : Contents) (k : Place) (t : Terms) (n : ℕ) (w v : Kept) → kept_terms (kept_at b k) ≡ Some t → n ≡ rank_of b.settings k → v ≡ w → Puts b.kept (rank_of b.settings k) w (set b.kept n v)
kept_puts b k t n w v h rank same =
    let r = rank_of b.settings k in
    let has : kept_terms (get_or b.kept r Unused) ≡ Some t = ap kept_terms (sym (kept_inside b k (written_is_place b k t h))) ∙ h in
    subst (λ (m : ℕ). Puts b.kept r w (set b.kept m v)) (sym rank) (subst (λ (x : Kept). Puts b.kept r w (set b.kept r x)) (sym same) (set_puts b.kept r w (written_within b.kept r t has)))

-- the value at a rank has these terms, and no other
only_terms : (l new : List Kept) (n : ℕ) (w : Kept) (t : Terms) → Puts l n w new → kept_terms w ≡ Some t → (k : ℕ) → k ≡ n → (u : Terms) → kept_terms (get_or new k Unused) ≡ Some u → Some t ≡ Some u
only_terms l new n w t puts is k e u h = sym is ∙ ap kept_terms (sym puts.here ∙ ap (λ m. get_or new m Unused) (sym e)) ∙ h

-- a value is kept with the terms that were kept
pub terms_stay : (b : Contents) (place : Place) (new : List Kept) (all : List Terms) (w : Kept) (t : Terms) → Puts b.kept (rank_of b.settings place) w new → HaveTerms b.kept all
    → kept_terms (kept_at b place) ≡ Some t → kept_terms w ≡ Some t → HaveTerms new all
terms_stay b place new all w t puts have was is k u h =
    let n = rank_of b.settings place in
    let had : kept_terms (get_or b.kept n Unused) ≡ Some t = ap kept_terms (sym (kept_inside b place (written_is_place b place t was))) ∙ was in
    elim (cases_eq k n) [
      | inl e ↦ ap (slice_get all) e ∙ have n t had ∙ only_terms b.kept new n w t puts is k e u h
      | inr other ↦ have k u (ap kept_terms (sym (puts.elsewhere k other)) ∙ h)
    ]

-- a value is kept with terms that are put beside it
pub terms_come : (l new : List Kept) (all others : List Terms) (n : ℕ) (w : Kept) (t : Terms) → Puts l n w new → PutsTerms all n t others → HaveTerms l all → kept_terms w ≡ Some t → HaveTerms new others
terms_come l new all others n w t puts beside have is k u h = elim (cases_eq k n) [
  | inl e ↦ ap (slice_get others) e ∙ beside.here ∙ only_terms l new n w t puts is k e u h
  | inr other ↦ beside.elsewhere k u other (have k u (ap kept_terms (sym (puts.elsewhere k other)) ∙ h))
]

-- ---- a board of unused places
