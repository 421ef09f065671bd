-- What a read adds to a batch, and what is held behind it.
use Rattle.std.proofs.Common.{◌≡◌, ⊎_elim, ℕ, ◌+◌, ◌-◌, ◌<◌, ◌≤◌, min, List, [], ◌∷◌, ◌++◌, map, length, take, drop, append_assoc, refl, sym, ap, subst, ◌∙◌, arith}
use Rattle.std.proofs.lemmas.List.{take-take, take_all, take_at, take-append-le, length-take, length-take-le, length-drop, drop-drop}
use Rattle.std.proofs.lemmas.Slice.{between_is}
use Rattle.std.proofs.Math.Seq.{take-append-add}
use borrow.Rule.Slice.PartMut.{put_mid, post_of}
use lib.Seq.{paste}
use Rattle.std.proofs.lemmas.Bool.{cases_lt}
use Rattle.inst_base.specs.Newline.{NoNewline, BreaksAt}
use Rattle.inst_log.specs.Escape.{raw_of}
use Rattle.inst_logged.specs.Input.{shortened_line, logged_line}
use Rattle.inst_logged.specs.inner.Input.{lines_from, rest_from, last_line}
use Rattle.inst_logged.proofs.LinesFromPieces.{lines_behind, rest_behind, lines_beyond, rest_beyond, lines_alike, rest_alike, cut_twice, NoNewline-take}

-- the shorter of two fronts
pub take_both : (m n : ℕ) (l : List ℕ) → take (min m n) l ≡ take n (take m l)
take_both m n l = ⊎_elim
    (λ below. let short : min m n ≡ m = omega arith in ap (λ (k : ℕ). take k l) short ∙ sym (take_all n (take m l) (omega (arith, length-take m l))))
    (λ above. let long : min m n ≡ n = omega arith in ap (λ (k : ℕ). take k l) long ∙ sym (take-take n m l above))
    (cases_lt m n)

-- a line that ends among the bytes
module _ (rest : List ℕ) (len : ℕ) (b : BreaksAt rest len) where
  pub held_line : take (min len 4097) rest ≡ shortened_line (take len rest)
  held_line = take_both len 4097 rest

  pub quiet_line : NoNewline (take (min len 4097) rest)
  quiet_line = subst NoNewline (sym held_line) (NoNewline-take 4097 (take len rest) b.line)

  pub lines_next : lines_from [] rest ≡ take len rest ∷ lines_from [] (drop (len + 1) rest)
  lines_next = ap (lines_from []) b.rest ∙ lines_behind [] (take len rest) (drop (len + 1) rest) b.line

  pub rest_next : rest_from [] rest ≡ rest_from [] (drop (len + 1) rest)
  rest_next = ap (rest_from []) b.rest ∙ rest_behind [] (take len rest) (drop (len + 1) rest) b.line

  pub lines_pushed : (old new : List (List ℕ)) (raw : List ℕ) → raw ≡ raw_of (take (min len 4097) rest) → new ≡ old ++ raw ∷ []
      → new ++ map logged_line (lines_from [] (drop (len + 1) rest)) ≡ old ++ map logged_line (lines_from [] rest)
  lines_pushed old new raw is pushed =
      ap (λ (ls : List (List ℕ)). ls ++ map logged_line (lines_from [] (drop (len + 1) rest))) pushed
      ∙ append_assoc old (raw ∷ []) (map logged_line (lines_from [] (drop (len + 1) rest)))
      ∙ ap (λ (r : List ℕ). old ++ r ∷ map logged_line (lines_from [] (drop (len + 1) rest))) (is ∙ ap raw_of held_line)
      ∙ ap (λ (ls : List (List ℕ)). old ++ map logged_line ls) (sym lines_next)

-- bytes behind what is held of a part of a line
module _ (part held read : List ℕ) (same : held ≡ shortened_line part) (none : NoNewline held) where
  alike : shortened_line held ≡ shortened_line part
  alike = ap shortened_line same ∙ cut_twice part

  pub lines_taken : map logged_line (lines_from [] (held ++ read)) ≡ map logged_line (lines_from part read)
  lines_taken = ap (λ (ls : List (List ℕ)). map logged_line ls) (lines_beyond [] held read none) ∙ lines_alike held part read alike

  pub rest_taken : shortened_line (rest_from [] (held ++ read)) ≡ shortened_line (rest_from part read)
  rest_taken = ap shortened_line (rest_beyond [] held read none) ∙ rest_alike held part read alike

-- a suffix of a suffix
pub suffix_more : (bytes rest : List ℕ) (n : ℕ) → drop (length bytes - length rest) bytes ≡ rest → length rest ≤ length bytes → n ≤ length rest
    → drop (length bytes - length (drop n rest)) bytes ≡ drop n rest
suffix_more bytes rest n is within few =
    let k : length bytes - length (drop n rest) ≡ (length bytes - length rest) + n = omega (arith, length-drop n rest) in
    ap (λ (m : ℕ). drop m bytes) k ∙ sym (drop-drop n (length bytes - length rest) bytes) ∙ ap (drop n) is

pub last_some : (part : List ℕ) → 0 < length part → last_line part ≡ part ∷ []
last_some [] some = absurd (omega arith)
last_some (b ∷ part) some = refl

-- bytes that were read behind others
pub read_behind : (xs new : List ℕ) (e k n : ℕ) → e ≤ length xs → n ≤ length new → take (e + n) (put_mid e k xs new) ≡ take e xs ++ take n new
read_behind xs new e k n within few =
    let len : length (take e xs) ≡ e = length-take-le e xs within in
    ap (λ (m : ℕ). take (m + n) (take e xs ++ (new ++ post_of e k xs))) (sym len)
    ∙ take-append-add (take e xs) (new ++ post_of e k xs) n
    ∙ ap (λ (l : List ℕ). take e xs ++ l) (take-append-le n new (post_of e k xs) few)

-- a part that is copied to the front
pub copied : (xs : List ℕ) (start m k : ℕ) → k ≡ m → m ≤ length (drop start xs) → take m (paste xs 0 (drop start xs) k) ≡ take m (drop start xs)
copied xs start m k same within =
    let part : List ℕ = take k (drop start xs) in
    let len : length part ≡ m = length-take-le k (drop start xs) (omega arith) ∙ same in
    take_at part (drop (0 + k) xs) m len ∙ ap (λ (n : ℕ). take n (drop start xs)) same

pub cut_range : (xs : List ℕ) (start end : ℕ) → take (min (end - start) 4097) (drop start xs) ≡ shortened_line (drop start (take end xs))
cut_range xs start end = take_both (end - start) 4097 (drop start xs) ∙ ap (take 4097) (between_is xs start end)
