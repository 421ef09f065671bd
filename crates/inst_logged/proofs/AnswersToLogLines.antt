-- Lines of a log are answered one by one.
use Rattle.std.proofs.Common.{◌≡◌, ℕ, ◌-◌, Bool, true, false, if◌then◌else◌, List, [], ◌∷◌, ◌++◌, map, length, take, drop, ◌+◌, append_assoc, length-append, refl, sym, ap, subst, ◌∙◌, arith}
use Rattle.std.proofs.lemmas.List.{append-nil, map-append}
use Rattle.inst_agenda.specs.declared.runner.Runner.{Runner}
use Rattle.inst_lines.specs.declared.mode.Mode.{Mode}
use Rattle.inst_lines.specs.Answers.{Answerer, AnswersLine, output, state_after, state_after_line}
use Rattle.inst_lines.specs.Answering.{HubPast, IsRunnerAt, hub_answerer}
use Rattle.inst_lines.proofs.RepliesToOneMoreLine.{output-append}
use Rattle.inst_log.specs.Escape.{unescaped_line}
use Rattle.inst_log.specs.Serving.{SaysOn}
use Rattle.inst_log.specs.Layout.{recovered_lines, IsFirstLine}
use Rattle.inst_chain.specs.Chain.{is_mark, said}
use Rattle.inst_chain.proofs.LinesWithoutMarks.{said-append}
use Rattle.inst_logged.specs.Answering.{replies_at, past_after, SaysLines}
use Rattle.inst_logged.specs.inner.Answering.{AnswersLines, AnswersFront}

pub answers_none : (mode : Mode) (runner : Runner) (out : List ℕ) → AnswersLines mode runner runner out out []
answers_none mode runner out = record { replies = λ past of. sym (append-nil out); state = λ past of. of }

state_after-append : {S : Type 0} (a : Answerer S) (s : S) (xs ys : List (List ℕ)) → state_after a s (xs ++ ys) ≡ state_after a (state_after a s xs) ys
state_after-append a s [] ys = refl
state_after-append a s (x ∷ xs) ys = state_after-append a (state_after_line a s x) xs ys

-- lines without marks have none
said_if : (t : Bool) (line : List ℕ) (lines : List (List ℕ)) → is_mark line ≡ t → said (said lines) ≡ said lines → said (if t then said lines else line ∷ said lines) ≡ (if t then said lines else line ∷ said lines)
said_if true line lines is same = same
said_if false line lines is same = ap (λ (t : Bool). if t then said (said lines) else line ∷ said (said lines)) is ∙ ap (λ (l : List (List ℕ)). line ∷ l) same

pub said_said : (lines : List (List ℕ)) → said (said lines) ≡ said lines
said_said [] = refl
said_said (line ∷ lines) = said_if (is_mark line) line lines refl (said_said lines)

pub said_one : (raw : List ℕ) → is_mark raw ≡ false → said (raw ∷ []) ≡ raw ∷ []
said_one raw plain = ap (λ (t : Bool). if t then [] else raw ∷ []) plain

pub said_none : (raw : List ℕ) → is_mark raw ≡ true → said (raw ∷ []) ≡ []
said_none raw mark = ap (λ (t : Bool). if t then [] else raw ∷ []) mark

pub replies_said : (mode : Mode) (past : HubPast) (lines : List (List ℕ)) → replies_at mode past (said lines) ≡ replies_at mode past lines
replies_said mode past lines = ap (λ (ls : List (List ℕ)). output (hub_answerer mode) past (map unescaped_line ls)) (said_said lines)

pub past_said : (mode : Mode) (past : HubPast) (lines : List (List ℕ)) → past_after mode past (said lines) ≡ past_after mode past lines
past_said mode past lines = ap (λ (ls : List (List ℕ)). state_after (hub_answerer mode) past (map unescaped_line ls)) (said_said lines)

said_map : (a b : List (List ℕ)) → map unescaped_line (said (a ++ b)) ≡ map unescaped_line (said a) ++ map unescaped_line (said b)
said_map a b = ap (map unescaped_line) (said-append a b) ∙ map-append unescaped_line (said a) (said b)

pub replies-append : (mode : Mode) (past : HubPast) (a b : List (List ℕ)) → replies_at mode past (a ++ b) ≡ replies_at mode past a ++ replies_at mode (past_after mode past a) b
replies-append mode past a b =
    ap (λ (ls : List (List ℕ)). output (hub_answerer mode) past ls) (said_map a b) ∙ output-append (hub_answerer mode) past (map unescaped_line (said a)) (map unescaped_line (said b))

pub past-append : (mode : Mode) (past : HubPast) (a b : List (List ℕ)) → past_after mode past (a ++ b) ≡ past_after mode (past_after mode past a) b
past-append mode past a b =
    ap (λ (ls : List (List ℕ)). state_after (hub_answerer mode) past ls) (said_map a b) ∙ state_after-append (hub_answerer mode) past (map unescaped_line (said a)) (map unescaped_line (said b))

-- one line
pub answers_one : (mode : Mode) (old new : Runner) (out out' raw : List ℕ) (refused : Bool) → is_mark raw ≡ false → AnswersLine (hub_answerer mode) (IsRunnerAt mode) false (unescaped_line raw) old new out out' refused
    → AnswersLines mode old new out out' (raw ∷ [])
answers_one mode old new out out' raw refused plain so =
    let one : map unescaped_line (said (raw ∷ [])) ≡ unescaped_line raw ∷ [] = ap (map unescaped_line) (said_one raw plain) in
    record {
      replies = λ past of.
          so.reply past of [] refl ∙ ap (λ (l : List ℕ). out ++ l) (sym (append-nil _))
          ∙ ap (λ (ls : List (List ℕ)). out ++ output (hub_answerer mode) past ls) (sym one);
      state = λ past of.
          subst (λ (ls : List (List ℕ)). IsRunnerAt mode (state_after (hub_answerer mode) past ls) new) (sym one) (so.state past of [] refl);
    }

-- a mark
pub answers_mark : (mode : Mode) (runner : Runner) (out raw : List ℕ) → is_mark raw ≡ true → AnswersLines mode runner runner out out (raw ∷ [])
answers_mark mode runner out raw mark =
    let none : map unescaped_line (said (raw ∷ [])) ≡ [] = ap (map unescaped_line) (said_none raw mark) in
    record {
      replies = λ past of. sym (append-nil out) ∙ ap (λ (ls : List (List ℕ)). out ++ output (hub_answerer mode) past ls) (sym none);
      state = λ past of. subst (λ (ls : List (List ℕ)). IsRunnerAt mode (state_after (hub_answerer mode) past ls) runner) (sym none) of;
    }

-- some lines, and then others
pub answers_join : (mode : Mode) (old mid new : Runner) (out out' out'' : List ℕ) (done more : List (List ℕ)) → AnswersLines mode old mid out out' done
    → AnswersLines mode mid new out' out'' more → AnswersLines mode old new out out'' (done ++ more)
answers_join mode old mid new out out' out'' done more so next = record {
  replies = λ past of.
      next.replies (past_after mode past done) (so.state past of)
      ∙ ap (λ (l : List ℕ). l ++ replies_at mode (past_after mode past done) more) (so.replies past of)
      ∙ append_assoc out (replies_at mode past done) _
      ∙ ap (λ (l : List ℕ). out ++ l) (sym (replies-append mode past done more));
  state = λ past of.
      subst (λ (p : HubPast). IsRunnerAt mode p new) (sym (past-append mode past done more)) (next.state (past_after mode past done) (so.state past of));
}

-- one more is done
pub front_more : (mode mode' : Mode) (old mid new : Runner) (out out' out'' batch rest : List ℕ) (n : ℕ) → mode' ≡ mode → AnswersFront mode old mid out out' batch rest
    → IsFirstLine rest n → AnswersLines mode' mid new out' out'' (take (n - 1) rest ∷ []) → AnswersFront mode old new out out'' batch (drop n rest)
front_more mode mode' old mid new out out' out'' batch rest n same f first next =
    let line = take (n - 1) rest ∷ [] in
    record {
      done = f.done ++ line;
      split = append_assoc f.done line (recovered_lines (drop n rest)) ∙ ap (λ (ls : List (List ℕ)). f.done ++ ls) (sym first.lines) ∙ f.split;
      answered = answers_join mode old mid new out out' out'' f.done line f.answered
          (subst (λ (m : Mode). AnswersLines m mid new out' out'' line) same next);
    }

-- and so many are left
pub front_next : (mode mode' : Mode) (old mid new : Runner) (out out' out'' batch rest : List ℕ) (n left left' count : ℕ) → mode' ≡ mode
    → (f : AnswersFront mode old mid out out' batch rest) × (left + length (said f.done) ≡ count) → IsFirstLine rest n → AnswersLines mode' mid new out' out'' (take (n - 1) rest ∷ [])
    → left' + length (said (take (n - 1) rest ∷ [])) ≡ left
    → (f : AnswersFront mode old new out out'' batch (drop n rest)) × (left' + length (said f.done) ≡ count)
front_next mode mode' old mid new out out' out'' batch rest n left left' count same f first next one =
    let line = take (n - 1) rest ∷ [] in (
      record {
        done = f.0.done ++ line;
        split = append_assoc f.0.done line (recovered_lines (drop n rest)) ∙ ap (λ (ls : List (List ℕ)). f.0.done ++ ls) (sym first.lines) ∙ f.0.split;
        answered = answers_join mode old mid new out out' out'' f.0.done line f.0.answered
            (subst (λ (m : Mode). AnswersLines m mid new out' out'' line) same next);
      },
      omega (arith, f.1, one, ap length (said-append f.0.done line), length-append (said f.0.done) (said line)),
    )

pub says_on : (mode : Mode) (old new : Runner) (out out' : List ℕ) (lines : List (List ℕ)) → AnswersLines mode old new out out' lines → SaysOn (SaysLines mode old) lines (SaysLines mode new)
says_on mode old new out out' lines so replies said =
    let after = past_after mode said.past lines in (
      replies_at mode after,
      record { past = after; keeps = so.state said.past said.keeps; are = λ more. refl },
      λ more. said.are (lines ++ more) ∙ replies-append mode said.past lines more ∙ ap (λ (l : List ℕ). l ++ replies_at mode after more) (sym (said.are lines)),
    )
