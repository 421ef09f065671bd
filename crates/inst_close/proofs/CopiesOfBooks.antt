-- Copies of the books, one after the other, and that a hub can be opened from them.
use Rattle.std.proofs.Common.{◌≡◌, ℕ, zero, suc, ◌+◌, ◌<◌, ◌≤◌, arith, false, List, [], ◌∷◌, ◌++◌, length, length-append, get_or, inl, inr, refl, sym, ap, ◌∙◌, subst, Some}
use Rattle.std.specs.Prelude.{slice_get, nat_lt}
use Rattle.std.proofs.lemmas.Bool.{cases_eq, cases_Bool, ltb-true}
use Rattle.std.proofs.lemmas.Bool.Decides.{nat_tests}
use Rattle.std.proofs.lemmas.Option.{slice_get-get_or, slice_get_past}
use Rattle.inst_base.proofs.Lists.{last_at}
use Rattle.inst_settings.specs.Settings.{HubSettings}
use Rattle.inst_journal.specs.declared.event.Event.{Event}
use Rattle.inst_journal.specs.History.{History}
use Rattle.inst_journal.specs.Opened.{openings, HasOpeningsLeft}
use Rattle.inst_slot.specs.Book.{events_of, Book}
use Rattle.inst_world.specs.NextOpening.{kept_by, books_of, CanOpenFrom}
use Rattle.inst_world.proofs.JournalsOpenWhereBooksCan.{can_open_from}
use Rattle.inst_participant.specs.Together.{histories}
use Rattle.inst_close.specs.ClosedHub.{IsClosed}
use Rattle.inst_participant.specs.Wider.{widened}
use Rattle.inst_participant.proofs.HistoryFitsMoreParticipants.{closed_wider}
use Rattle.inst_close.specs.inner.NextOpening.{AreCopies, AreCopiesAnd}

-- the first n are copied
pub record CopiedBelow (books : List Book) (journals : List History) (n : ℕ) : Type 0 where
  pub many : length journals ≡ n
  pub same : (p : ℕ) → p < n → books_of journals p ≡ histories books p

got_left : {A : Type 0} (xs : List A) (y : A) (p : ℕ) → p < length xs → slice_get (xs ++ y ∷ []) p ≡ slice_get xs p
got_left [] y p below = absurd (omega arith)
got_left (x ∷ xs) y zero below = refl
got_left (x ∷ xs) y (suc p) below = got_left xs y p (omega arith)

pub one_copied : (books : List Book) (journals more : List History) (n : ℕ) (book : Book) (j : History) → n < length books → book ≡ get_or books n book → j.events ≡ book.events → more ≡ journals ++ j ∷ [] → CopiedBelow books journals n → CopiedBelow books more (n + 1)
one_copied books journals more n book j below here same pushed so = record {
  many = ap length pushed ∙ (length-append journals (j ∷ []) ∙ ap (λ (k : ℕ). k + 1) so.many);
  same = λ p small. elim (cases_eq p n) [
    | inl at ↦
        let found : slice_get books n ≡ Some book = slice_get-get_or books n book below ∙ ap (λ (b : Book). Some b) (sym here) in
        let got : slice_get more n ≡ Some j = ap (λ (l : List History). slice_get l n) pushed ∙ (ap (slice_get (journals ++ j ∷ [])) (sym so.many) ∙ last_at journals j) in
        ap (λ (q : ℕ). kept_by (slice_get more q)) at ∙ (ap kept_by got ∙ (same ∙ (sym (ap events_of found) ∙ ap (λ (q : ℕ). events_of (slice_get books q)) (sym at))))
    | inr other ↦
        let less : p < n = omega (arith, small, other) in
        ap kept_by (ap (λ (l : List History). slice_get l p) pushed ∙ got_left journals j p (omega (arith, less, so.many))) ∙ so.same p less
  ];
}

pub all_copied : (books : List Book) (journals : List History) (n : ℕ) → length books ≤ n → n ≤ length books → CopiedBelow books journals n → AreCopies books journals
all_copied books journals n most few so =
    let long : length journals ≡ length books = omega (arith, so.many, most, few) in
    record {
      one_each = long;
      same = λ p. elim (cases_Bool (nat_lt p n)) [
        | inl below ↦ so.same p (ltb-true p n below)
        | inr past ↦
            let far : n ≤ p = not_below p n past in
            ap kept_by (slice_get_past journals p (omega (arith, far, long, most, few))) ∙ sym (ap events_of (slice_get_past books p (omega (arith, far, most))))
      ];
    }
  where
    not_below : (p n : ℕ) → nat_lt p n ≡ false → n ≤ p
    not_below p n e = grind (arith, nat_tests)

-- the first n may be opened from once more
pub one_more_few : (books : List Book) (n : ℕ) (book : Book) (count : ℕ) → n < length books → book ≡ get_or books n book → HasOpeningsLeft book.events → ((p : ℕ) → p < n → HasOpeningsLeft (histories books p)) → (p : ℕ) → p < n + 1 → HasOpeningsLeft (histories books p)
one_more_few books n book count below here few so p small = elim (cases_eq p n) [
  | inl at ↦
      let found : slice_get books n ≡ Some book = slice_get-get_or books n book below ∙ ap (λ (b : Book). Some b) (sym here) in
      subst (λ (J : List Event). HasOpeningsLeft J) (sym (ap (λ (q : ℕ). events_of (slice_get books q)) at ∙ ap events_of found)) few
  | inr other ↦ so p (omega (arith, small, other))
]

pub all_few : (books : List Book) (n : ℕ) → length books ≤ n → ((p : ℕ) → p < n → HasOpeningsLeft (histories books p)) → (p : ℕ) → HasOpeningsLeft (histories books p)
all_few books n most so p = elim (cases_Bool (nat_lt p n)) [
  | inl below ↦ so p (ltb-true p n below)
  | inr past ↦ subst (λ (J : List Event). HasOpeningsLeft J) (sym (ap events_of (slice_get_past books p (omega (arith, not_below p n past, most))))) none_opened
]
  where
    not_below : (p n : ℕ) → nat_lt p n ≡ false → n ≤ p
    not_below p n e = grind (arith, nat_tests)

    none_opened : openings [] < 500
    none_opened = omega arith

-- one empty journal more
pub and_empty : (journals : List History) (j : History) (p : ℕ) → j.events ≡ [] → books_of (journals ++ j ∷ []) p ≡ books_of journals p
and_empty [] j zero none = none
and_empty [] j (suc p) none = refl
and_empty (k ∷ journals) j zero none = refl
and_empty (k ∷ journals) j (suc p) none = and_empty journals j p none

pub one_more_empty : (books : List Book) (journals more : List History) (n : ℕ) (j : History) → j.events ≡ [] → more ≡ journals ++ j ∷ [] → AreCopiesAnd books n journals → AreCopiesAnd books (n + 1) more
one_more_empty books journals more n j none pushed so = record {
  one_each = ap length pushed ∙ (length-append journals (j ∷ []) ∙ (ap (λ (k : ℕ). k + 1) so.one_each ∙ omega arith));
  same = λ p. ap (λ (l : List History). books_of l p) pushed ∙ (and_empty journals j p none ∙ so.same p);
}

pub can_open_wider : (s : HubSettings) (codes : List (List ℕ)) (books : List Book) (journals : List History) → IsClosed s books → ((p : ℕ) → HasOpeningsLeft (histories books p)) → AreCopiesAnd books (length codes) journals → CanOpenFrom (widened s codes) journals
can_open_wider s codes books journals closed few copies =
    let wider = closed_wider s codes (histories books) closed.closed in
    can_open_from (widened s codes) (histories books) journals (record { sound = wider.sound; closed = wider.closed; few = few })
    (record { one_each = copies.one_each ∙ (ap (λ (n : ℕ). n + length codes) closed.one_each ∙ sym (length-append s.codes codes)); same = λ p number. copies.same p })
