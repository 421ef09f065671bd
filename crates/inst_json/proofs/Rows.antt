-- A row of columns that is filled from the left, one column after another.
use Rattle.std.proofs.Common.{◌≡◌, ℕ, ◌+◌, ◌-◌, ◌≤◌, List, [], ◌++◌, length, drop, replicate, refl, sym, ap, ◌∙◌, arith, codes, append_assoc, append-nil}
use Rattle.std.proofs.Math.Seq.{take-append_seam, drop-append_seam}
use Rattle.std.proofs.lemmas.List.{length-append, length-replicate, replicate-append-replicate}
use Rattle.inst_command.specs.LineText.{left_in, right_in}
use Rattle.inst_command.proofs.LineTextTellsLine.{left_width, right_width}
use Rattle.inst_json.specs.inner.Row.{row_with_text}

-- a text put over another of its length
put_over : (front over back text : List ℕ) → length over ≡ length text → row_with_text (front ++ (over ++ back)) (length front) text ≡ front ++ (text ++ back)
put_over front over back text same =
    let kept : drop (length front + length text) (front ++ (over ++ back)) ≡ back =
    ap (λ n. drop n (front ++ (over ++ back))) (omega (arith, same, length-append front over)) ∙ ap (drop (length (front ++ over))) (sym (append_assoc front over back)) ∙ drop-append_seam (front ++ over) back in
    ap (λ xs. xs ++ (text ++ drop (length front + length text) (front ++ (over ++ back)))) (take-append_seam front (over ++ back)) ∙ ap (λ ys. front ++ (text ++ ys)) kept

-- the spaces of a column, cut in two
spaces_cut : (n w : ℕ) → n ≤ w → replicate {A = ℕ} w 32 ≡ replicate n 32 ++ replicate (w - n) 32
spaces_cut n w fits = ap (λ k. replicate {A = ℕ} k 32) (omega (arith, fits)) ∙ sym (replicate-append-replicate n (w - n) 32)

put_left : (front back text : List ℕ) (w : ℕ) → length text ≤ w → row_with_text (front ++ (replicate w 32 ++ back)) (length front) text ≡ front ++ (left_in w text ++ back)
put_left front back text w fits =
    let n = length text in
    let row : front ++ (replicate w 32 ++ back) ≡ front ++ (replicate n 32 ++ (replicate (w - n) 32 ++ back)) =
    ap (λ xs. front ++ (xs ++ back)) (spaces_cut n w fits) ∙ ap (λ ys. front ++ ys) (append_assoc (replicate n 32) (replicate (w - n) 32) back) in
    ap (λ xs. row_with_text xs (length front) text) row
    ∙ put_over front (replicate n 32) (replicate (w - n) 32 ++ back) text (length-replicate n 32)
    ∙ ap (λ ys. front ++ ys) (sym (append_assoc text (replicate (w - n) 32) back))

put_right : (front back text : List ℕ) (w : ℕ) → length text ≤ w → row_with_text (front ++ (replicate w 32 ++ back)) ((length front + w) - length text) text ≡ front ++ (right_in w text ++ back)
put_right front back text w fits =
    let n = length text in
    let fill = replicate {A = ℕ} (w - n) 32 in
    let cut : replicate {A = ℕ} w 32 ≡ fill ++ replicate n 32 = spaces_cut (w - n) w (omega arith) ∙ ap (λ k. fill ++ replicate k 32) (omega (arith, fits)) in
    let row : front ++ (replicate w 32 ++ back) ≡ (front ++ fill) ++ (replicate n 32 ++ back) =
    ap (λ xs. front ++ (xs ++ back)) cut ∙ ap (λ ys. front ++ ys) (append_assoc fill (replicate n 32) back) ∙ sym (append_assoc front fill (replicate n 32 ++ back)) in
    let at : (length front + w) - n ≡ length (front ++ fill) = omega (arith, fits, length-append front fill, length-replicate {A = ℕ} (w - n) 32) in
    ap (λ xs. row_with_text xs ((length front + w) - n) text) row ∙ ap (λ k. row_with_text ((front ++ fill) ++ (replicate n 32 ++ back)) k text) at
    ∙ put_over (front ++ fill) (replicate n 32) back text (length-replicate n 32)
    ∙ append_assoc front fill (text ++ back) ∙ ap (λ ys. front ++ ys) (sym (append_assoc fill text back))

-- the row is filled up to a column, and the rest is as it was
abbrev pub IsFilled : List ℕ → List ℕ → ℕ → List ℕ → Type 0
IsFilled row front at rest = (row ≡ front ++ rest) × (length front ≡ at)

next : (row front column between rest : List ℕ) (at w : ℕ) → row ≡ front ++ (column ++ (between ++ rest)) → length front ≡ at → length column ≡ w → IsFilled row (front ++ (column ++ between)) (at + (w + length between)) rest
next row front column between rest at w is long wide = (
  is ∙ ap (λ ys. front ++ ys) (sym (append_assoc column between rest)) ∙ sym (append_assoc front (column ++ between) rest),
  omega (arith, long, wide, length-append front (column ++ between), length-append column between),
)

pub fill_left : (row new front between rest text : List ℕ) (at w : ℕ) → IsFilled row front at (replicate w 32 ++ (between ++ rest)) → length text ≤ w → new ≡ row_with_text row at text →
    IsFilled new (front ++ (left_in w text ++ between)) (at + (w + length between)) rest
fill_left row new front between rest text at w filled fits is =
    let whole : new ≡ front ++ (left_in w text ++ (between ++ rest)) =
    is ∙ ap (λ xs. row_with_text xs at text) filled.0 ∙ ap (λ k. row_with_text (front ++ (replicate w 32 ++ (between ++ rest))) k text) (sym filled.1) ∙ put_left front (between ++ rest) text w fits in
    next new front (left_in w text) between rest at w whole filled.1 (left_width w text fits)

pub fill_right : (row new front between rest text : List ℕ) (at w : ℕ) → IsFilled row front at (replicate w 32 ++ (between ++ rest)) → length text ≤ w → new ≡ row_with_text row ((at + w) - length text) text →
    IsFilled new (front ++ (right_in w text ++ between)) (at + (w + length between)) rest
fill_right row new front between rest text at w filled fits is =
    let whole : new ≡ front ++ (right_in w text ++ (between ++ rest)) =
    is ∙ ap (λ xs. row_with_text xs ((at + w) - length text) text) filled.0 ∙ ap (λ k. row_with_text (front ++ (replicate w 32 ++ (between ++ rest))) ((k + w) - length text) text) (sym filled.1) ∙ put_right front (between ++ rest) text w fits in
    next new front (right_in w text) between rest at w whole filled.1 (right_width w text fits)

-- what stands behind each column of a row that is not yet filled
abbrev behind_cents : List ℕ
behind_cents = replicate 20 32 ++ (codes "\"" ++ [])

abbrev behind_id : List ℕ
behind_id = replicate 11 32 ++ (codes " " ++ behind_cents)

abbrev behind_other : List ℕ
behind_other = replicate 35 32 ++ (codes " " ++ behind_id)

abbrev behind_kind : List ℕ
behind_kind = replicate 11 32 ++ (codes " " ++ behind_other)

abbrev behind_number : List ℕ
behind_number = replicate 3 32 ++ (codes " " ++ behind_kind)

abbrev pub blank_row : List ℕ
blank_row = codes "\"" ++ (replicate 6 32 ++ (codes " " ++ behind_number))

quoted_columns : (row a b c d e f : List ℕ) →
    row ≡ ((((((codes "\"" ++ (a ++ codes " ")) ++ (b ++ codes " ")) ++ (c ++ codes " ")) ++ (d ++ codes " ")) ++ (e ++ codes " ")) ++ (f ++ codes "\"")) ++ [] →
    row ≡ codes "\"" ++ ((a ++ codes " " ++ b ++ codes " " ++ c ++ codes " " ++ d ++ codes " " ++ e ++ codes " " ++ f) ++ codes "\"")
quoted_columns row a b c d e f is = is ∙ simp (append_assoc, append-nil)

-- the row of a statement line, once its six columns are put into it
pub filled_row : (r0 r1 r2 r3 r4 r5 r6 number kind other id cents position : List ℕ) → r0 ≡ blank_row →
    length number ≤ 6 → r1 ≡ row_with_text r0 (7 - length number) number →
    length kind ≤ 3 → r2 ≡ row_with_text r1 8 kind →
    length other ≤ 11 → r3 ≡ row_with_text r2 12 other →
    length id ≤ 35 → r4 ≡ row_with_text r3 24 id →
    length cents ≤ 11 → r5 ≡ row_with_text r4 (71 - length cents) cents →
    length position ≤ 20 → r6 ≡ row_with_text r5 (92 - length position) position →
    r6 ≡ codes "\"" ++ ((right_in 6 number ++ codes " " ++ left_in 3 kind ++ codes " " ++ left_in 11 other ++ codes " " ++ left_in 35 id ++ codes " " ++ right_in 11 cents ++ codes " " ++ right_in 20 position) ++ codes "\"")
filled_row r0 r1 r2 r3 r4 r5 r6 number kind other id cents position e0 f1 e1 f2 e2 f3 e3 f4 e4 f5 e5 f6 e6 =
    let front_number : List ℕ = codes "\"" ++ (right_in 6 number ++ codes " ") in
    let front_kind = front_number ++ (left_in 3 kind ++ codes " ") in
    let front_other = front_kind ++ (left_in 11 other ++ codes " ") in
    let front_id = front_other ++ (left_in 35 id ++ codes " ") in
    let front_cents = front_id ++ (right_in 11 cents ++ codes " ") in
    let at_number = fill_right r0 r1 (codes "\"") (codes " ") behind_number number 1 6 (e0, refl) f1 e1 in
    let at_kind = fill_left r1 r2 front_number (codes " ") behind_kind kind 8 3 at_number f2 e2 in
    let at_other = fill_left r2 r3 front_kind (codes " ") behind_other other 12 11 at_kind f3 e3 in
    let at_id = fill_left r3 r4 front_other (codes " ") behind_id id 24 35 at_other f4 e4 in
    let at_cents = fill_right r4 r5 front_id (codes " ") behind_cents cents 60 11 at_id f5 e5 in
    let at_position = fill_right r5 r6 front_cents (codes "\"") [] position 72 20 at_cents f6 e6 in
    quoted_columns r6 (right_in 6 number) (left_in 3 kind) (left_in 11 other) (left_in 35 id) (right_in 11 cents) (right_in 20 position) at_position.0
