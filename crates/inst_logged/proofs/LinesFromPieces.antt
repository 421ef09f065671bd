-- Lines are cut out of bytes that come piece by piece.
use Rattle.std.proofs.Common.{◌≡◌, ◌≢◌, ℕ, zero, suc, true, false, List, [], ◌∷◌, ◌++◌, ◌==◌, map, take, refl, sym, ap, subst, ◌∙◌, inl, inr, append_assoc, arith, if◌then◌else◌}
use Rattle.std.proofs.lemmas.Bool.{cases_Bool, ne_eqb, eq-eqb, eqb-true}
use Rattle.std.proofs.lemmas.Bool.{true≢false}
use Rattle.std.proofs.lemmas.List.{append-nil}
use Rattle.inst_base.specs.Newline.{newline, NoNewline}
use Rattle.inst_lines.specs.Lines.{lines_of, whole_lines_of}
use Rattle.inst_base.proofs.LineEndBySearch.{NoNewline-append}
use Rattle.inst_lines.proofs.LinesFromTheFront.{lines_of-line, whole_lines_of-line, lines_of-part, whole_lines_of-part}
use Rattle.inst_log.specs.Escape.{raw_of}
use Rattle.inst_logged.specs.Input.{shortened_line, logged_line}
use Rattle.inst_logged.specs.inner.Input.{lines_from, rest_from, last_line}

-- behind a line and its newline
pub lines_behind : (part line later : List ℕ) → NoNewline line → lines_from part (line ++ newline ∷ later) ≡ (part ++ line) ∷ lines_from [] later
lines_behind part [] later none = ap (λ (l : List ℕ). l ∷ lines_from [] later) (sym (append-nil part))
lines_behind part (b ∷ line) later none =
    rw (ne_eqb b 10 none.0, lines_behind (part ++ b ∷ []) line later none.1, append_assoc part (b ∷ []) line) refl

pub rest_behind : (part line later : List ℕ) → NoNewline line → rest_from part (line ++ newline ∷ later) ≡ rest_from [] later
rest_behind part [] later none = refl
rest_behind part (b ∷ line) later none = rw (ne_eqb b 10 none.0, rest_behind (part ++ b ∷ []) line later none.1) refl

-- within a line
pub lines_beyond : (part line more : List ℕ) → NoNewline line → lines_from part (line ++ more) ≡ lines_from (part ++ line) more
lines_beyond part [] more none = ap (λ (l : List ℕ). lines_from l more) (sym (append-nil part))
lines_beyond part (b ∷ line) more none =
    rw (ne_eqb b 10 none.0, lines_beyond (part ++ b ∷ []) line more none.1, append_assoc part (b ∷ []) line) refl

pub rest_beyond : (part line more : List ℕ) → NoNewline line → rest_from part (line ++ more) ≡ rest_from (part ++ line) more
rest_beyond part [] more none = ap (λ (l : List ℕ). rest_from l more) (sym (append-nil part))
rest_beyond part (b ∷ line) more none =
    rw (ne_eqb b 10 none.0, rest_beyond (part ++ b ∷ []) line more none.1, append_assoc part (b ∷ []) line) refl

-- bytes without a newline
pub lines_none : (bytes : List ℕ) → NoNewline bytes → lines_from [] bytes ≡ []
lines_none bytes none = ap (lines_from []) (sym (append-nil bytes)) ∙ lines_beyond [] bytes [] none

pub rest_none : (bytes : List ℕ) → NoNewline bytes → rest_from [] bytes ≡ bytes
rest_none bytes none = ap (rest_from []) (sym (append-nil bytes)) ∙ rest_beyond [] bytes [] none

-- some bytes, and then others
pub lines_append : (part xs ys : List ℕ) → lines_from part (xs ++ ys) ≡ lines_from part xs ++ lines_from (rest_from part xs) ys
lines_append part [] ys = refl
lines_append part (b ∷ xs) ys =
    elim (b == newline) as (λ t. (if t then part ∷ lines_from [] (xs ++ ys) else lines_from (part ++ b ∷ []) (xs ++ ys))
    ≡ (if t then part ∷ lines_from [] xs else lines_from (part ++ b ∷ []) xs) ++ lines_from (if t then rest_from [] xs else rest_from (part ++ b ∷ []) xs) ys) [
      | true ↦ ap (λ (ls : List (List ℕ)). part ∷ ls) (lines_append [] xs ys)
      | false ↦ lines_append (part ++ b ∷ []) xs ys
    ]

pub rest_append : (part xs ys : List ℕ) → rest_from part (xs ++ ys) ≡ rest_from (rest_from part xs) ys
rest_append part [] ys = refl
rest_append part (b ∷ xs) ys =
    elim (b == newline) as (λ t. (if t then rest_from [] (xs ++ ys) else rest_from (part ++ b ∷ []) (xs ++ ys))
    ≡ rest_from (if t then rest_from [] xs else rest_from (part ++ b ∷ []) xs) ys) [
      | true ↦ rest_append [] xs ys
      | false ↦ rest_append (part ++ b ∷ []) xs ys
    ]

-- of a front no more counts than is taken
take_twice : (n : ℕ) (xs ys : List ℕ) → take n (take n xs ++ ys) ≡ take n (xs ++ ys)
take_twice zero xs ys = refl
take_twice (suc n) [] ys = refl
take_twice (suc n) (x ∷ xs) ys = ap (λ (l : List ℕ). x ∷ l) (take_twice n xs ys)

cut_push : (part more : List ℕ) → shortened_line (shortened_line part ++ more) ≡ shortened_line (part ++ more)
cut_push part more = take_twice 4097 part more

pub cut_twice : (part : List ℕ) → shortened_line (shortened_line part) ≡ shortened_line part
cut_twice part = ap shortened_line (sym (append-nil (shortened_line part))) ∙ cut_push part [] ∙ ap shortened_line (append-nil part)

cut_alike : (p q more : List ℕ) → shortened_line p ≡ shortened_line q → shortened_line (p ++ more) ≡ shortened_line (q ++ more)
cut_alike p q more same = sym (cut_push p more) ∙ ap (λ (l : List ℕ). shortened_line (l ++ more)) same ∙ cut_push q more

-- parts that are cut alike give the same lines of a log, and the same part behind them
pub lines_alike : (p q bytes : List ℕ) → shortened_line p ≡ shortened_line q → map logged_line (lines_from p bytes) ≡ map logged_line (lines_from q bytes)
lines_alike p q [] same = refl
lines_alike p q (b ∷ bytes) same =
    elim (b == newline) as (λ t. map logged_line (if t then p ∷ lines_from [] bytes else lines_from (p ++ b ∷ []) bytes)
    ≡ map logged_line (if t then q ∷ lines_from [] bytes else lines_from (q ++ b ∷ []) bytes)) [
      | true ↦ ap (λ (l : List ℕ). raw_of l ∷ map logged_line (lines_from [] bytes)) same
      | false ↦ lines_alike (p ++ b ∷ []) (q ++ b ∷ []) bytes (cut_alike p q (b ∷ []) same)
    ]

pub rest_alike : (p q bytes : List ℕ) → shortened_line p ≡ shortened_line q → shortened_line (rest_from p bytes) ≡ shortened_line (rest_from q bytes)
rest_alike p q [] same = same
rest_alike p q (b ∷ bytes) same =
    elim (b == newline) as (λ t. shortened_line (if t then rest_from [] bytes else rest_from (p ++ b ∷ []) bytes)
    ≡ shortened_line (if t then rest_from [] bytes else rest_from (q ++ b ∷ []) bytes)) [
      | true ↦ refl
      | false ↦ rest_alike (p ++ b ∷ []) (q ++ b ∷ []) bytes (cut_alike p q (b ∷ []) same)
    ]

pub NoNewline-take : (n : ℕ) (xs : List ℕ) → NoNewline xs → NoNewline (take n xs)
NoNewline-take zero xs none = tt
NoNewline-take (suc n) [] none = tt
NoNewline-take (suc n) (x ∷ xs) none = (none.0, NoNewline-take n xs none.1)

no_break : (b : ℕ) → (b == newline) ≡ false → b ≢ newline
no_break b is same = absurd (true≢false (sym (eq-eqb b newline same) ∙ is))

pub NoNewline-rest : (part bytes : List ℕ) → NoNewline part → NoNewline (rest_from part bytes)
NoNewline-rest part [] none = none
NoNewline-rest part (b ∷ bytes) none = elim (cases_Bool (b == newline)) [
  | inl is ↦ rw is (NoNewline-rest [] bytes tt)
  | inr is ↦ rw is (NoNewline-rest (part ++ b ∷ []) bytes (NoNewline-append part (b ∷ []) none (no_break b is, tt)))
]

pub quiet_held : (bytes held : List ℕ) → held ≡ shortened_line (rest_from [] bytes) → NoNewline held
quiet_held bytes held is = subst NoNewline (sym is) (NoNewline-take 4097 (rest_from [] bytes) (NoNewline-rest [] bytes tt))

-- all lines of a text
last_is : (part : List ℕ) → NoNewline part → lines_of part ≡ last_line part
last_is [] none = refl
last_is (b ∷ part) none = lines_of-part (b ∷ part) none (omega arith)

pub lines_of-from : (part bytes : List ℕ) → NoNewline part → lines_of (part ++ bytes) ≡ lines_from part bytes ++ last_line (rest_from part bytes)
lines_of-from part [] none = ap lines_of (append-nil part) ∙ last_is part none
lines_of-from part (b ∷ bytes) none = elim (cases_Bool (b == newline)) [
  | inl is ↦
      let break : b ≡ newline = eqb-true b newline is in
      rw is (ap (λ (c : ℕ). lines_of (part ++ c ∷ bytes)) break ∙ lines_of-line part bytes none ∙ ap (λ (ls : List (List ℕ)). part ∷ ls) (lines_of-from [] bytes tt))
  | inr is ↦
      rw is (ap lines_of (sym (append_assoc part (b ∷ []) bytes)) ∙ lines_of-from (part ++ b ∷ []) bytes (NoNewline-append part (b ∷ []) none (no_break b is, tt)))
]

pub whole_lines_of-from : (part bytes : List ℕ) → NoNewline part → whole_lines_of (part ++ bytes) ≡ lines_from part bytes
whole_lines_of-from part [] none = ap whole_lines_of (append-nil part) ∙ whole_lines_of-part part none
whole_lines_of-from part (b ∷ bytes) none = elim (cases_Bool (b == newline)) [
  | inl is ↦
      let break : b ≡ newline = eqb-true b newline is in
      rw is (ap (λ (c : ℕ). whole_lines_of (part ++ c ∷ bytes)) break ∙ whole_lines_of-line part bytes none ∙ ap (λ (ls : List (List ℕ)). part ∷ ls) (whole_lines_of-from [] bytes tt))
  | inr is ↦
      rw is (ap whole_lines_of (sym (append_assoc part (b ∷ []) bytes)) ∙ whole_lines_of-from (part ++ b ∷ []) bytes (NoNewline-append part (b ∷ []) none (no_break b is, tt)))
]
