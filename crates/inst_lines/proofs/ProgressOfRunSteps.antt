-- How far a run has come, after each of its steps, at any world.
use Rattle.std.proofs.Common.{◌≡◌, ℕ, ◌+◌, ◌<◌, ◌≤◌, Bool, true, false, cond, List, [], ◌∷◌, ◌++◌, ◌⊎◌, inl, inr, ⊎_elim, Option, length, take, refl, sym, ap, subst, ◌∙◌, arith, append_assoc, length-append}
use Rattle.std.proofs.lemmas.List.{append-nil, take_all, take_at}
use Rattle.std.proofs.lemmas.Bool.{false≢true}
use Rattle.std.specs.Io.KnownBytes.{Appends}
use Rattle.inst_base.specs.Newline.{newline, NoNewline}
use Rattle.inst_lines.specs.Lines.{lines_of, whole_lines_of, whole_lines_within}
use Rattle.inst_lines.specs.Limits.{most_line_bytes, most_lines, most_bytes}
use Rattle.inst_lines.specs.Answers.{Answerer, reply_to, state_after_line, is_refused, output, state_after, refusals, IsFront, MakesRoom}
use Rattle.inst_base.specs.Handing.{WritesPart, WritesFirst}
use Rattle.inst_lines.specs.Progress.{Splits, Progress, Stopped, Finished, CutOff}
use Rattle.inst_base.proofs.LineEndBySearch.{NoNewline-append}
use Rattle.inst_base.proofs.Streams.{Appends-append, Appends-keeps, Keeps-same}
use Rattle.inst_lines.proofs.LinesFromTheFront.{lines_of-line, whole_lines_of-line, lines_of-part, whole_lines_of-part}
use Rattle.inst_lines.proofs.RepliesToOneMoreLine.{output-append, output-push, state_after-push, refusals-push}

Splits-none : Splits [] [] []
Splits-none = record { lines = λ more. refl; whole = λ more. refl }

Splits-read : (bytes : List ℕ) (lines : List (List ℕ)) (rest read : List ℕ) → Splits bytes lines rest → Splits (bytes ++ read) lines (rest ++ read)
Splits-read bytes lines rest read s = record {
  lines = λ more. ap lines_of (append_assoc bytes read more) ∙ s.lines (read ++ more) ∙ ap (λ (t : List ℕ). lines ++ lines_of t) (sym (append_assoc rest read more));
  whole = λ more. ap whole_lines_of (append_assoc bytes read more) ∙ s.whole (read ++ more) ∙ ap (λ (t : List ℕ). lines ++ whole_lines_of t) (sym (append_assoc rest read more));
}

Splits-line : (bytes : List ℕ) (lines : List (List ℕ)) (rest line later : List ℕ) → NoNewline line → rest ≡ line ++ (newline ∷ later) → Splits bytes lines rest → Splits bytes (lines ++ line ∷ []) later
Splits-line bytes lines rest line later none is s =
    let front : (more : List ℕ) → rest ++ more ≡ line ++ (newline ∷ (later ++ more)) = λ more. ap (λ (t : List ℕ). t ++ more) is ∙ append_assoc line (newline ∷ later) more in
    record {
      lines = λ more. s.lines more ∙ ap (λ (t : List ℕ). lines ++ lines_of t) (front more) ∙ ap (λ (t : List (List ℕ)). lines ++ t) (lines_of-line line (later ++ more) none) ∙ sym (append_assoc lines (line ∷ []) _);
      whole = λ more. s.whole more ∙ ap (λ (t : List ℕ). lines ++ whole_lines_of t) (front more) ∙ ap (λ (t : List (List ℕ)). lines ++ t) (whole_lines_of-line line (later ++ more) none) ∙ sym (append_assoc lines (line ∷ []) _);
    }

lines_of-split : (bytes : List ℕ) (lines : List (List ℕ)) (rest : List ℕ) → Splits bytes lines rest → lines_of bytes ≡ lines ++ lines_of rest
lines_of-split bytes lines rest s = ap lines_of (sym (append-nil bytes)) ∙ s.lines [] ∙ ap (λ (t : List ℕ). lines ++ lines_of t) (append-nil rest)

whole_lines_of-split : (bytes : List ℕ) (lines : List (List ℕ)) (rest : List ℕ) → Splits bytes lines rest → whole_lines_of bytes ≡ lines ++ whole_lines_of rest
whole_lines_of-split bytes lines rest s = ap whole_lines_of (sym (append-nil bytes)) ∙ s.whole [] ∙ ap (λ (t : List ℕ). lines ++ whole_lines_of t) (append-nil rest)

-- a last line with no newline is the line that it is with one
lines_of-closed : (bytes : List ℕ) (lines : List (List ℕ)) (rest : List ℕ) → Splits bytes lines rest → NoNewline rest → 0 < length rest → lines_of (bytes ++ newline ∷ []) ≡ lines_of bytes
lines_of-closed bytes lines rest s none some =
    s.lines (newline ∷ []) ∙ ap (λ (t : List (List ℕ)). lines ++ t) (lines_of-line rest [] none ∙ sym (lines_of-part rest none some))
    ∙ sym (lines_of-split bytes lines rest s)

some_in_line : (is_long : Bool) (front held : List ℕ) → IsFront is_long front → (is_long ≡ true) ⊎ (0 < length held) → 0 < length (front ++ held)
some_in_line true front held h why = let long : most_line_bytes < length front = h.0 in omega (arith, length-append front held)
some_in_line false front held h (inl is) = absurd (false≢true is)
some_in_line false front held h (inr some) = omega (arith, length-append front held)

module _ {S : Type 0} (a : Answerer S) (start : S) (before : Option (List ℕ)) where
  pub progress-start : Progress a start before [] before [] start false [] 0 0
  progress-start = record {
    answered = [];
    front = [];
    written = [];
    splits = Splits-none;
    is_front = refl;
    appends = Appends-keeps before before (Keeps-same before);
    replies = refl;
    state_is = refl;
    lines_are = refl;
    refused_are = refl;
  }

  pub progress-read : (bytes : List ℕ) (now : Option (List ℕ)) (pending : List ℕ) (state : S) (is_long : Bool) (held : List ℕ) (lines refused : ℕ) (read : List ℕ) → Progress a start before bytes now pending state is_long held lines refused → Progress a start before (bytes ++ read) now pending state is_long (held ++ read) lines refused
  progress-read bytes now pending state is_long held lines refused read p = record {
    answered = p.answered;
    front = p.front;
    written = p.written;
    splits = subst (λ (t : List ℕ). Splits (bytes ++ read) p.answered t) (append_assoc p.front held read) (Splits-read bytes p.answered (p.front ++ held) read p.splits);
    is_front = p.is_front;
    appends = p.appends;
    replies = p.replies;
    state_is = p.state_is;
    lines_are = p.lines_are;
    refused_are = p.refused_are;
  }

  NoNewline-front : (is_long : Bool) (front part : List ℕ) → IsFront is_long front → NoNewline part → NoNewline (front ++ part)
  NoNewline-front true front part h none = NoNewline-append front part h.1 none
  NoNewline-front false front part h none = subst (λ (t : List ℕ). NoNewline (t ++ part)) (sym h) none

  pub progress-line : (bytes : List ℕ) (now : Option (List ℕ)) (pending : List ℕ) (state : S) (is_long : Bool) (held : List ℕ) (lines refused : ℕ)
      (line later : List ℕ) (pending' : List ℕ) (is_refused' : Bool) (lines' refused' : ℕ)
      → (p : Progress a start before bytes now pending state is_long held lines refused)
      → NoNewline line → held ≡ line ++ (newline ∷ later)
      → pending' ≡ pending ++ (reply_to a state (p.front ++ line) ++ newline ∷ []) → is_refused' ≡ is_refused a state (p.front ++ line)
      → lines' ≡ lines + 1 → refused' ≡ refused + cond is_refused' 1 0
      → Progress a start before bytes now pending' (state_after_line a state (p.front ++ line)) false later lines' refused'
  progress-line bytes now pending state is_long held lines refused line later pending' is_refused' lines' refused' p none is replied refusal more_lines more_refused =
      let whole : List ℕ = p.front ++ line in
      let closed : NoNewline whole = NoNewline-front is_long p.front line p.is_front none in
      let rest_is : p.front ++ held ≡ whole ++ (newline ∷ later) = ap (λ (t : List ℕ). p.front ++ t) is ∙ sym (append_assoc p.front line (newline ∷ later)) in
      let reply_is : pending' ≡ pending ++ (reply_to a (state_after a start p.answered) whole ++ newline ∷ []) =
      replied ∙ ap (λ (s : S). pending ++ (reply_to a s whole ++ newline ∷ [])) p.state_is in
      record {
        answered = p.answered ++ whole ∷ [];
        front = [];
        written = p.written;
        splits = Splits-line bytes p.answered (p.front ++ held) whole later closed rest_is p.splits;
        is_front = refl;
        appends = p.appends;
        replies = ap (λ (t : List ℕ). p.written ++ t) reply_is ∙ sym (append_assoc p.written pending _) ∙ ap (λ (t : List ℕ). t ++ (reply_to a (state_after a start p.answered) whole ++ newline ∷ [])) p.replies ∙ sym (output-push a start p.answered whole);
        state_is = ap (λ (s : S). state_after_line a s whole) p.state_is ∙ sym (state_after-push a start p.answered whole);
        lines_are = more_lines ∙ ap (λ (n : ℕ). n + 1) p.lines_are ∙ sym (length-append p.answered (whole ∷ []));
        refused_are = more_refused ∙ ap (λ (n : ℕ). n + cond is_refused' 1 0) p.refused_are
            ∙ ap (λ (b : Bool). refusals a start p.answered + cond b 1 0) (refusal ∙ ap (λ (s : S). is_refused a s whole) p.state_is)
            ∙ sym (refusals-push a start p.answered whole);
      }

  -- first replies are written
  pub progress-write : (bytes : List ℕ) (now now' : Option (List ℕ)) (pending pending' : List ℕ) (state : S) (is_long : Bool) (held : List ℕ) (lines refused : ℕ)
      → Progress a start before bytes now pending state is_long held lines refused → WritesFirst now now' pending pending'
      → Progress a start before bytes now' pending' state is_long held lines refused
  progress-write bytes now now' pending pending' state is_long held lines refused p w = record {
    answered = p.answered;
    front = p.front;
    written = p.written ++ w.part;
    splits = p.splits;
    is_front = p.is_front;
    appends = Appends-append before now now' p.written w.part p.appends w.appends;
    replies = append_assoc p.written w.part pending' ∙ ap (λ (t : List ℕ). p.written ++ t) (sym w.whole) ∙ p.replies;
    state_is = p.state_is;
    lines_are = p.lines_are;
    refused_are = p.refused_are;
  }

  -- a part of the pending replies is written, and then the run stops
  pub progress-stop : (bytes : List ℕ) (now now' : Option (List ℕ)) (pending : List ℕ) (state : S) (is_long : Bool) (held : List ℕ) (lines refused : ℕ)
      → Progress a start before bytes now pending state is_long held lines refused → WritesPart now now' pending
      → Stopped a start before bytes now'
  progress-stop bytes now now' pending state is_long held lines refused p w =
      let later : List ℕ = output a (state_after a start p.answered) (lines_of (p.front ++ held)) in
      record {
        written = p.written ++ w.part;
        unwritten = w.rest ++ later;
        appends = Appends-append before now now' p.written w.part p.appends w.appends;
        is_front = ap (λ (t : List (List ℕ)). output a start t) (lines_of-split bytes p.answered (p.front ++ held) p.splits)
            ∙ output-append a start p.answered (lines_of (p.front ++ held))
            ∙ ap (λ (t : List ℕ). t ++ later) (sym p.replies ∙ ap (λ (t : List ℕ). p.written ++ t) w.whole)
            ∙ simp append_assoc;
      }

  -- with nothing pending
  pub progress-end : (bytes : List ℕ) (now : Option (List ℕ)) (state : S) (lines refused : ℕ)
      → Progress a start before bytes now [] state false [] lines refused
      → Finished a start before bytes now state lines refused
  progress-end bytes now state lines refused p =
      let all : lines_of bytes ≡ p.answered = lines_of-split bytes p.answered (p.front ++ []) p.splits ∙ ap (λ (t : List ℕ). p.answered ++ lines_of (t ++ [])) p.is_front ∙ append-nil p.answered in
      let written_is : p.written ≡ output a start (lines_of bytes) = sym (append-nil p.written) ∙ p.replies ∙ ap (λ (t : List (List ℕ)). output a start t) (sym all) in
      record {
        appends = subst (λ (t : List ℕ). Appends before now t) written_is p.appends;
        state_is = p.state_is ∙ ap (λ (t : List (List ℕ)). state_after a start t) (sym all);
        lines_are = p.lines_are ∙ ap (λ (t : List (List ℕ)). length t) (sym all);
        refused_are = p.refused_are ∙ ap (λ (t : List (List ℕ)). refusals a start t) (sym all);
      }

  -- what is held is moved, or let go
  pub progress-room : (bytes : List ℕ) (now : Option (List ℕ)) (pending : List ℕ) (state : S) (is_long : Bool) (held : List ℕ) (lines refused : ℕ) (is_long' : Bool) (held' : List ℕ)
      → Progress a start before bytes now pending state is_long held lines refused → MakesRoom is_long held is_long' held'
      → Progress a start before bytes now pending state is_long' held' lines refused
  progress-room bytes now pending state is_long held lines refused is_long' held' p room =
      let moved : (front' : List ℕ) × IsFront is_long' front' × (front' ++ held' ≡ p.front ++ held) = room.line p.front p.is_front in
      record {
        answered = p.answered;
        front = moved.0;
        written = p.written;
        splits = subst (λ (t : List ℕ). Splits bytes p.answered t) (sym moved.2) p.splits;
        is_front = moved.1;
        appends = p.appends;
        replies = p.replies;
        state_is = p.state_is;
        lines_are = p.lines_are;
        refused_are = p.refused_are;
      }

  written-all : (now : Option (List ℕ)) (written : List ℕ) (answered lines : List (List ℕ)) → Appends before now written → written ++ [] ≡ output a start answered → lines ≡ answered → Appends before now (output a start lines)
  written-all now written answered lines w is same =
      subst (λ (t : List ℕ). Appends before now t) (sym (append-nil written) ∙ is ∙ ap (λ (t : List (List ℕ)). output a start t) (sym same)) w

  -- no line more may come
  pub progress-full : (bytes : List ℕ) (now : Option (List ℕ)) (state : S) (is_long : Bool) (held : List ℕ) (lines refused : ℕ)
      → Progress a start before bytes now [] state is_long held lines refused → lines ≡ most_lines → length bytes ≤ most_bytes
      → CutOff a start before bytes now
  progress-full bytes now state is_long held lines refused p full short =
      let within : whole_lines_within bytes ≡ p.answered =
      ap (λ (t : List ℕ). take most_lines (whole_lines_of t)) (take_all most_bytes bytes short)
      ∙ ap (λ (t : List (List ℕ)). take most_lines t) (whole_lines_of-split bytes p.answered (p.front ++ held) p.splits)
      ∙ take_at p.answered _ most_lines (sym p.lines_are ∙ full) in
      record { appends = written-all now p.written p.answered _ p.appends p.replies within }

  -- a read failed, or gave a byte too many
  pub progress-cut : (bytes past : List ℕ) (now : Option (List ℕ)) (state : S) (is_long : Bool) (held : List ℕ) (lines refused : ℕ)
      → Progress a start before bytes now [] state is_long held lines refused → NoNewline held → lines ≤ most_lines → length bytes ≤ most_bytes
      → (past ≡ []) ⊎ (length bytes ≡ most_bytes)
      → CutOff a start before (bytes ++ past) now
  progress-cut bytes past now state is_long held lines refused p none few short why =
      let kept : take most_bytes (bytes ++ past) ≡ bytes = ⊎_elim
      (λ (is : past ≡ []). ap (λ (t : List ℕ). take most_bytes (bytes ++ t)) is ∙ ap (λ (t : List ℕ). take most_bytes t) (append-nil bytes) ∙ take_all most_bytes bytes short)
      (λ (is : length bytes ≡ most_bytes). take_at bytes past most_bytes is) why in
      let within : whole_lines_within (bytes ++ past) ≡ p.answered =
      ap (λ (t : List ℕ). take most_lines (whole_lines_of t)) kept
      ∙ ap (λ (t : List (List ℕ)). take most_lines t) (whole_lines_of-split bytes p.answered (p.front ++ held) p.splits ∙ ap (λ (t : List (List ℕ)). p.answered ++ t) (whole_lines_of-part (p.front ++ held) (NoNewline-front is_long p.front held p.is_front none)) ∙ append-nil p.answered)
      ∙ take_all most_lines p.answered (subst (λ (n : ℕ). n ≤ most_lines) p.lines_are few) in
      record { appends = written-all now p.written p.answered _ p.appends p.replies within }

  -- a last line with no newline is answered
  pub progress-last : (bytes : List ℕ) (now now' : Option (List ℕ)) (pending : List ℕ) (state : S) (is_long : Bool) (held : List ℕ) (lines refused : ℕ)
      (pending' : List ℕ) (is_refused' : Bool) (lines' refused' : ℕ)
      → (p : Progress a start before bytes now pending state is_long held lines refused)
      → NoNewline held → (is_long ≡ true) ⊎ (0 < length held)
      → pending' ≡ pending ++ (reply_to a state (p.front ++ held) ++ newline ∷ []) → is_refused' ≡ is_refused a state (p.front ++ held)
      → lines' ≡ lines + 1 → refused' ≡ refused + cond is_refused' 1 0
      → Progress a start before (bytes ++ newline ∷ []) now pending' (state_after_line a state (p.front ++ held)) false [] lines' refused'
      × (lines_of (bytes ++ newline ∷ []) ≡ lines_of bytes)
  unfolding progress-read
  progress-last bytes now now' pending state is_long held lines refused pending' is_refused' lines' refused' p none some replied refusal more_lines more_refused = (
    progress-line (bytes ++ newline ∷ []) now pending state is_long (held ++ newline ∷ []) lines refused held [] pending' is_refused' lines' refused'
        (progress-read bytes now pending state is_long held lines refused (newline ∷ []) p) none refl replied refusal more_lines more_refused,
    lines_of-closed bytes p.answered (p.front ++ held) p.splits (NoNewline-front is_long p.front held p.is_front none) (some_in_line is_long p.front held p.is_front some),
  )
