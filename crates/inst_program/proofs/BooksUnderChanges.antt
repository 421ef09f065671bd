-- Settings that change, and the books that a hub opens from under them.
use Rattle.std.proofs.Common.{◌≡◌, ◌<◌, ◌≤◌, ◌+◌, ℕ, zero, suc, Bool, true, List, [], ◌∷◌, ◌++◌, length, length-append, take, drop, take-append-drop, append-nil, refl, sym, ap, subst, ◌∙◌, inl, inr, arith, false, IfSome}
use Rattle.std.specs.List.{starts_with}
use Rattle.std.specs.Bool.{Decides, then_some}
use Rattle.std.specs.Cmp.Lexicographic.{pointwise_decides}
use Rattle.std.proofs.lemmas.Bool.{cases_lt}
use Rattle.std.proofs.lemmas.Option.{slice_get_past}
use mathlib.Core.List.{IsPrefix}
use Rattle.inst_settings.specs.Settings.{HubSettings, participants}
use Rattle.inst_settings.specs.Lawful.{IsSettings}
use Rattle.inst_journal.specs.History.{History}
use Rattle.inst_lines.specs.declared.mode.Mode.{Mode}
use Rattle.inst_options.specs.Changes.{AreFormed, changed}
use Rattle.inst_options.specs.declared.setting_changes.SettingChanges.{SettingChanges}
use Rattle.inst_world.specs.NextOpening.{CanOpenFrom, AreJournalsOf, books_of, kept_by}
use Rattle.inst_world.proofs.JournalsOpenWhereBooksCan.{can_open_from}
use Rattle.inst_program.specs.Keeping.{IsChanged, NextHub}
use Rattle.inst_program.specs.inner.Changing.{Allows, AreExtended}

-- a list of codes that begins with others
module _ (eq : List ℕ → List ℕ → Bool) (decides : (x y : List ℕ) → Decides (eq x y) (x ≡ y)) where
  taken_of : (xs ys : List (List ℕ)) → take (length xs) (xs ++ ys) ≡ xs
  taken_of [] ys = refl
  taken_of (x ∷ xs) ys = ap (λ l. x ∷ l) (taken_of xs ys)

  pub begins_so : (xs needle : List (List ℕ)) → starts_with eq xs needle ≡ true → IsPrefix needle xs
  begins_so xs needle is =
      let front : needle ≡ take (length needle) xs = (pointwise_decides decides needle (take (length needle) xs)).0 is in
      (drop (length needle) xs, ap (λ l. l ++ drop (length needle) xs) front ∙ take-append-drop (length needle) xs)

  pub begins_then : (xs needle : List (List ℕ)) → IsPrefix needle xs → starts_with eq xs needle ≡ true
  begins_then xs needle is =
      let front : needle ≡ take (length needle) xs = sym (ap (take (length needle)) (sym is.1) ∙ taken_of needle is.0) in
      (pointwise_decides decides needle (take (length needle) xs)).1 front

-- a value that is returned under a condition
pub some_if : {A : Type 0} (b : Bool) (x : A) (P : A → Type 0) → (b ≡ true → P x) → IfSome (then_some b x) P
some_if true x P is = is refl
some_if false x P is = tt

-- an empty journal behind the others adds no book
pub joined_same : (all : List History) (j : History) → j.events ≡ [] → (p : ℕ) → books_of (all ++ j ∷ []) p ≡ books_of all p
joined_same [] j none zero = none
joined_same [] j none (suc p) = refl
joined_same (x ∷ all) j none zero = refl
joined_same (x ∷ all) j none (suc p) = joined_same all j none p

-- the books of the first journals
taken_books : (n : ℕ) (all : List History) (p : ℕ) → p < n → books_of (take n all) p ≡ books_of all p
taken_books zero all p less = absurd (omega (arith, less))
taken_books (suc n) [] p less = refl
taken_books (suc n) (x ∷ all) zero less = refl
taken_books (suc n) (x ∷ all) (suc p) less = taken_books n all p (omega (arith, less))

length_taken : (n : ℕ) (all : List History) → n ≤ length all → length (take n all) ≡ n
length_taken zero all few = refl
length_taken (suc n) [] few = absurd (omega (arith, few))
length_taken (suc n) (x ∷ all) few = ap suc (length_taken n all (omega (arith, few)))

longer : (s t : HubSettings) → IsPrefix s.codes t.codes → participants s ≤ participants t
longer s t is = omega (arith, length-append s.codes is.0, ap length is.1)

module _ (changes : SettingChanges) (mode : Mode) (s : HubSettings) (journals all : List History) (count : length journals ≡ participants s) (extended : AreExtended journals all) where
  -- every book stays
  same_books : (t : HubSettings) → IsPrefix s.codes t.codes → participants t ≤ 256 → (p : ℕ) → books_of (take (participants t) all) p ≡ books_of journals p
  same_books t codes few p = elim (cases_lt p (participants t)) [
    | inl less ↦ taken_books (participants t) all p less ∙ extended.same p
    | inr past ↦
        let n : ℕ = participants t in
        let long : length (take n all) ≡ n = length_taken n all (omega (arith, few, extended.most)) in
        ap kept_by (slice_get_past (take n all) p (omega (arith, long, past)))
        ∙ sym (ap kept_by (slice_get_past journals p (omega (arith, count, longer s t codes, past))))
  ]

  -- what is allowed is a change
  pub allowed_changed : (t : HubSettings) (opened : List History) → opened ≡ take (participants t) all → Allows changes s all t
      → IsChanged changes (record { mode = mode; settings = s; journals = journals }) (record { mode = mode; settings = t; journals = opened })
  allowed_changed t opened is allows = record {
    mode = refl;
    settings = allows.settings;
    base = allows.base;
    lawful = allows.lawful;
    codes = allows.codes;
    books = λ p. ap (λ l. books_of l p) is ∙ same_books t allows.codes allows.lawful.0.participants_most p;
    can = subst (CanOpenFrom t) (sym is) allows.can;
  }

  -- what isn't allowed isn't one
  pub unallowed_unchanged : ¬ (Allows changes s all (changed changes s)) → (next : NextHub) → ¬ (IsChanged changes (record { mode = mode; settings = s; journals = journals }) next)
  unallowed_unchanged none next is =
      let t : HubSettings = changed changes s in
      let lawful : IsSettings t × AreFormed changes = subst (λ u. IsSettings u × AreFormed changes) is.settings is.lawful in
      let base : t.base ≡ s.base = ap (λ (u : HubSettings). u.base) (sym is.settings) ∙ is.base in
      let codes : IsPrefix s.codes t.codes = subst (λ (u : HubSettings). IsPrefix s.codes u.codes) is.settings is.codes in
      let can : CanOpenFrom t next.journals = subst (λ u. CanOpenFrom u next.journals) is.settings is.can in
      let few : participants t ≤ 256 = lawful.0.participants_most in
      let are : AreJournalsOf t (books_of next.journals) (take (participants t) all) = record {
        one_each = length_taken (participants t) all (omega (arith, few, extended.most));
        same = λ p one. same_books t codes few p ∙ sym (is.books p);
      } in
      none (record { settings = refl; base = base; lawful = lawful; codes = codes; can = can_open_from t (books_of next.journals) (take (participants t) all) can.books are })
