-- What a buffer holds after a read, and after room was made.
use Rattle.std.proofs.Common.{◌≡◌, ℕ, suc, zero-add, ◌+◌, ◌-◌, ◌<◌, ◌≤◌, Bool, true, false, ◌||◌, nat_lt, List, [], ◌∷◌, ◌++◌, length, take, drop, slice_range, sym, ap, subst, ◌∙◌, arith, length-append}
use Rattle.std.proofs.lemmas.Bool.{ltb-true, true≢false}
use Rattle.std.proofs.lemmas.List.{append-nil, take-append-le, take_at, drop-append-le, length-take-le, length-drop, length-take}
use Rattle.std.proofs.lemmas.Slice.{between_is}
use borrow.Rule.Slice.PartMut.{put_mid, post_of}
use lib.Seq.{paste}
use Rattle.inst_base.specs.Newline.{NoNewline}
use Rattle.inst_lines.specs.Answers.{MakesRoom}
use Rattle.inst_lines.specs.Limits.{most_line_bytes}
use Rattle.inst_base.proofs.LineEndBySearch.{NoNewline-append}

-- a front of known length, and then some more
take-append-length : (xs ys : List ℕ) (n : ℕ) → take (length xs + n) (xs ++ ys) ≡ xs ++ take n ys
take-append-length [] ys n = ap (λ (k : ℕ). take k ys) (zero-add n)
take-append-length (x ∷ xs) ys n =
    let e : suc (length xs) + n ≡ suc (length xs + n) = omega arith in
    ap (λ (k : ℕ). take k (x ∷ (xs ++ ys))) e ∙ ap (λ (t : List ℕ). x ∷ t) (take-append-length xs ys n)

take-append-add : (xs ys : List ℕ) (m n : ℕ) → length xs ≡ m → take (m + n) (xs ++ ys) ≡ xs ++ take n ys
take-append-add xs ys m n h = ap (λ (k : ℕ). take (k + n) (xs ++ ys)) (sym h) ∙ take-append-length xs ys n

-- a part that ends at e grows by the first n bytes written there
pub held-read : (xs new : List ℕ) (start e k n : ℕ) → start ≤ e → e ≤ length xs → n ≤ length new → slice_range (put_mid e k xs new) start (e + n) ≡ slice_range xs start e ++ take n new
held-read xs new start e k n below within few =
    let len : length (take e xs) ≡ e = length-take-le e xs within in
    let front : List ℕ = drop start (take e xs) in
    let front_len : length front ≡ e - start = length-drop start (take e xs) ∙ ap (λ (x : ℕ). x - start) len in
    let dropped : drop start (put_mid e k xs new) ≡ front ++ (new ++ post_of e k xs) = drop-append-le start (take e xs) (new ++ post_of e k xs) (omega arith) in
    let count : (e + n) - start ≡ (e - start) + n = omega arith in
    ap (λ (t : List ℕ). take ((e + n) - start) t) dropped
    ∙ ap (λ (m : ℕ). take m (front ++ (new ++ post_of e k xs))) count
    ∙ take-append-add front (new ++ post_of e k xs) (e - start) n front_len
    ∙ ap (λ (t : List ℕ). front ++ t) (take-append-le n new (post_of e k xs) few)
    ∙ ap (λ (t : List ℕ). t ++ take n new) (sym (between_is xs start e))

-- a write in place keeps the length
pub length-put_mid : (xs new : List ℕ) (e k : ℕ) → e + k ≤ length xs → length new ≡ k → length (put_mid e k xs new) ≡ length xs
length-put_mid xs new e k within same =
    simp (length-append, length-drop, length-take) (omega arith)

-- a part that is copied to the front
pub held-moved : (xs : List ℕ) (start e : ℕ) → start ≤ e → e ≤ length xs → slice_range (paste xs 0 (drop start xs) (e - start)) 0 (e - start) ≡ slice_range xs start e
held-moved xs start e below within =
    let part : List ℕ = slice_range xs start e in
    let len : length part ≡ e - start = length-take-le (e - start) (drop start xs) (omega (arith, length-drop start xs)) in
    let whole : (e - start) - 0 ≡ e - start = omega arith in
    ap (λ (k : ℕ). take k (part ++ drop (0 + (e - start)) xs)) whole ∙ take_at part (drop (0 + (e - start)) xs) (e - start) len

-- a line that is too long is let go
pub room-dropped : (was_long : Bool) (held : List ℕ) → NoNewline held → (was_long || nat_lt most_line_bytes (length held)) ≡ true → MakesRoom was_long held true []
room-dropped true held none long = record {
  line = λ front h. (front ++ held, (let l : most_line_bytes < length front = h.0 in omega (arith, length-append front held), NoNewline-append front held h.1 none), append-nil _);
  no_newline = tt;
  idle = λ is empty. absurd (true≢false is);
}
room-dropped false held none long =
    let l : most_line_bytes < length held = ltb-true _ _ long in
    record {
      line = λ front h. (held, (l, none), append-nil held ∙ ap (λ (t : List ℕ). t ++ held) (sym h));
      no_newline = tt;
      idle = λ is empty. absurd (let z : length held ≡ 0 = ap length empty in omega arith);
    }

-- a line that is short is held
pub room-kept : (was_long : Bool) (held new : List ℕ) → NoNewline held → was_long ≡ false → new ≡ held → MakesRoom was_long held was_long new
room-kept was_long held new none is same = record {
  line = λ front h. (front, h, ap (λ (t : List ℕ). front ++ t) same);
  no_newline = subst NoNewline (sym same) none;
  idle = λ short empty. (is, same ∙ empty);
}
