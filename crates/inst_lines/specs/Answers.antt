-- Replies to lines, by any answerer. A choice of this hub.
use Rattle.std.specs.Prelude.{◌≡◌, ℕ, ◌+◌, ◌<◌, Bool, true, false, List, [], ◌∷◌, ◌++◌, length}
use Rattle.std.specs.Prelude.{nat_lt, if◌then◌else◌}
use Rattle.inst_lines.specs.Limits.{most_line_bytes}
use Rattle.inst_base.specs.Newline.{newline, NoNewline}

-- The reply to a line at a state, the next state, and whether the reply is a refusal. A line that
-- is too long gets its own refusal and changes no state.
pub record Answerer (S : Type 0) : Type 0 where
  pub reply : S → List ℕ → List ℕ
  pub next : S → List ℕ → S
  pub is_refusal : S → List ℕ → Bool
  pub too_long : List ℕ

-- True if the line has more bytes than a run accepts.
abbrev pub is_too_long : List ℕ → Bool
is_too_long line = nat_lt most_line_bytes (length line)

-- The reply to a line, without its newline.
abbrev pub reply_to : {S : Type 0} → Answerer S → S → List ℕ → List ℕ
reply_to a s line = if is_too_long line then a.too_long else a.reply s line

-- The state after a line.
abbrev pub state_after_line : {S : Type 0} → Answerer S → S → List ℕ → S
state_after_line a s line = if is_too_long line then s else a.next s line

-- True if a line is answered by a refusal.
abbrev pub is_refused : {S : Type 0} → Answerer S → S → List ℕ → Bool
is_refused a s line = if is_too_long line then true else a.is_refusal s line

-- The replies to lines in order, with a newline after each.
abbrev pub output : {S : Type 0} → Answerer S → S → List (List ℕ) → List ℕ
output a s [] = []
output a s (line ∷ lines) =
    (reply_to a s line ++ newline ∷ []) ++ output a (state_after_line a s line) lines

-- The state after lines.
abbrev pub state_after : {S : Type 0} → Answerer S → S → List (List ℕ) → S
state_after a s [] = s
state_after a s (line ∷ lines) = state_after a (state_after_line a s line) lines

-- The number of lines that are answered by a refusal.
abbrev pub refusals : {S : Type 0} → Answerer S → S → List (List ℕ) → ℕ
refusals a s [] = 0
refusals a s (line ∷ lines) =
    (if is_refused a s line then 1 else 0) + refusals a (state_after_line a s line) lines

-- The dropped bytes of a line that is too long, or nothing.
abbrev pub IsFront : Bool → List ℕ → Type 0
IsFront true front = (most_line_bytes < length front) × NoNewline front
IsFront false front = front ≡ []

-- The held bytes, without a newline, are moved; those of a line that is too long may be dropped.
pub record MakesRoom (was_long : Bool) (old : List ℕ) (is_long : Bool) (new : List ℕ) : Type 0 where
  pub line : (front : List ℕ) → IsFront was_long front →
      (front' : List ℕ) × IsFront is_long front' × (front' ++ new ≡ front ++ old)
  pub no_newline : NoNewline new
  pub idle : was_long ≡ false → old ≡ [] → (is_long ≡ false) × (new ≡ [])

-- A line is answered. The line is `front ++ part`; `front` was dropped from the buffer if the line
-- is too long, and is empty otherwise.
pub record AnswersLine {S W : Type 0} (a : Answerer S) (holds : S → W →
    Type 0) (is_long : Bool) (part : List ℕ)
    (old new : W) (out_old out_new : List ℕ) (refused : Bool) : Type 0 where
  pub reply : (s : S) → holds s old → (front : List ℕ) → IsFront is_long front →
      out_new ≡ out_old ++ (reply_to a s (front ++ part) ++ newline ∷ [])
  pub state : (s : S) → holds s old → (front : List ℕ) → IsFront is_long front →
      holds (state_after_line a s (front ++ part)) new
  pub refusal : (s : S) → holds s old → (front : List ℕ) → IsFront is_long front →
      refused ≡ is_refused a s (front ++ part)
