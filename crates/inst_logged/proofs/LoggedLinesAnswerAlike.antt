-- A line is answered as what stands for it in a log.
use Rattle.std.proofs.Common.{◌≡◌, ◌⊎◌, inl, inr, ℕ, ◌+◌, ◌<◌, ◌≤◌, Bool, true, List, [], ◌∷◌, ◌++◌, map, length, refl, sym, ◌∙◌, ap, arith, if◌then◌else◌}
use Rattle.std.proofs.lemmas.Bool.{cases_Bool, ltb-true, ltb-false, lt-ltb}
use Rattle.std.proofs.lemmas.List.{take_all, length-take-le}
use Rattle.inst_lines.specs.declared.mode.Mode.{Mode}
use Rattle.inst_lines.specs.Limits.{most_line_bytes}
use Rattle.inst_base.specs.Newline.{newline}
use Rattle.inst_lines.specs.Answers.{Answerer, is_too_long, reply_to, state_after_line, output}
use Rattle.inst_lines.specs.Answering.{HubPast, hub_answerer}
use Rattle.inst_log.specs.Escape.{unescaped_line}
use Rattle.inst_log.proofs.LinesOfBatch.{comes_back}
use Rattle.inst_logged.specs.Answering.{replies_at}
use Rattle.inst_chain.proofs.LinesWithoutMarks.{said_plain}
use Rattle.inst_logged.specs.Input.{shortened_line, logged_line}
use Rattle.inst_logged.proofs.ReadBehindPartOfLine.{plain_logged}

-- a line that is cut was too long, and still is
cut_line : (line : List ℕ) → (shortened_line line ≡ line) ⊎ ((is_too_long line ≡ true) × (is_too_long (shortened_line line) ≡ true))
cut_line line = elim (cases_Bool (is_too_long line)) [
  | inl long ↦
      let more : most_line_bytes < length line = ltb-true most_line_bytes (length line) long in
      let len : length (shortened_line line) ≡ most_line_bytes + 1 = length-take-le (most_line_bytes + 1) line (omega arith) in
      inr (long, lt-ltb most_line_bytes (length (shortened_line line)) (omega arith))
  | inr short ↦
      let few : length line ≤ most_line_bytes = ltb-false most_line_bytes (length line) short in
      inl (take_all (most_line_bytes + 1) line (omega arith))
]

reply_alike : {S : Type 0} (a : Answerer S) (s : S) (line : List ℕ) → reply_to a s (shortened_line line) ≡ reply_to a s line
reply_alike {S} a s line = elim (cut_line line) [
  | inl same ↦ ap (reply_to a s) same
  | inr long ↦ ap (λ (t : Bool). if t then a.too_long else a.reply s (shortened_line line)) long.1 ∙ sym (ap (λ (t : Bool). if t then a.too_long else a.reply s line) long.0)
]

state_alike : {S : Type 0} (a : Answerer S) (s : S) (line : List ℕ) → state_after_line a s (shortened_line line) ≡ state_after_line a s line
state_alike {S} a s line = elim (cut_line line) [
  | inl same ↦ ap (state_after_line a s) same
  | inr long ↦ ap (λ (t : Bool). if t then s else a.next s (shortened_line line)) long.1 ∙ sym (ap (λ (t : Bool). if t then s else a.next s line) long.0)
]

answers_alike : {S : Type 0} (a : Answerer S) (s : S) (lines : List (List ℕ)) → output a s (map unescaped_line (map logged_line lines)) ≡ output a s lines
answers_alike a s [] = refl
answers_alike {S} a s (line ∷ lines) =
    let rest = map unescaped_line (map logged_line lines) in
    ap (λ (l : List ℕ). (reply_to a s l ++ newline ∷ []) ++ output a (state_after_line a s l) rest) (comes_back (shortened_line line))
    ∙ ap (λ (r : List ℕ). (r ++ newline ∷ []) ++ output a (state_after_line a s (shortened_line line)) rest) (reply_alike a s line)
    ∙ ap (λ (t : S). (reply_to a s line ++ newline ∷ []) ++ output a t rest) (state_alike a s line)
    ∙ ap (λ (l : List ℕ). (reply_to a s line ++ newline ∷ []) ++ l) (answers_alike a (state_after_line a s line) lines)

pub lines_answer_alike : (mode : Mode) (past : HubPast) (lines : List (List ℕ)) → replies_at mode past (map logged_line lines) ≡ output (hub_answerer mode) past lines
lines_answer_alike mode past lines =
    ap (λ (ls : List (List ℕ)). output (hub_answerer mode) past (map unescaped_line ls)) (said_plain (map logged_line lines) (plain_logged lines)) ∙ answers_alike (hub_answerer mode) past lines
