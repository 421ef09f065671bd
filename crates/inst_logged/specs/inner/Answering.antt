-- Answering the lines of a log in parts.
use Rattle.std.specs.Prelude.{◌≡◌, ◌<◌, ◌≤◌, ◌-◌, ℕ, List, [], ◌++◌, length, take, drop, Option}
use Rattle.std.specs.Prelude.{None, Some}
use Rattle.std.specs.Io.KnownBytes.{Appends}
use Rattle.inst_agenda.specs.declared.runner.Runner.{Runner}
use Rattle.inst_lines.specs.declared.mode.Mode.{Mode}
use Rattle.inst_lines.specs.Answering.{HubPast, IsRunnerAt}
use Rattle.inst_log.specs.Layout.{recovered_lines}
use Rattle.inst_chain.specs.Chain.{said}
use Rattle.inst_logged.specs.Answering.{replies_at, past_after, told_count}

-- The lines were answered, whatever the hub's past.
pub record AnswersLines (mode : Mode) (old new : Runner) (out_old out_new : List ℕ)
    (lines : List (List ℕ)) : Type 0 where
  pub replies : (past : HubPast) → IsRunnerAt mode past old →
      out_new ≡ out_old ++ replies_at mode past lines
  pub state : (past : HubPast) → IsRunnerAt mode past old
      → IsRunnerAt mode (past_after mode past lines) new

-- The first lines of a batch were answered, and `rest` is left.
pub record AnswersFront (mode : Mode) (old new : Runner) (out_old out_new batch rest : List ℕ) :
    Type 0 where
  pub done : List (List ℕ)
  pub split : done ++ recovered_lines rest ≡ recovered_lines batch
  pub answered : AnswersLines mode old new out_old out_new done

-- How many lines of those told follow these.
abbrev pub left_of : Option ℕ → List (List ℕ) → Option ℕ
left_of None lines = None
left_of (Some told) lines = Some (told - length (said lines))

-- The bytes owed for lines that are answered again: all replies but those to the first `told`
-- lines.
abbrev pub debt : Mode → HubPast → Option ℕ → List (List ℕ) → List ℕ
debt mode past told lines =
    drop (length (replies_at mode past (take (told_count told (said lines)) (said lines))))
    (replies_at mode past (said lines))

-- The first lines were answered, a given number without marks or all, and the others begin at this
-- position.
pub record AnswersFirst (mode : Mode) (old new : Runner) (out_old out_new lines : List ℕ)
    (start count left : ℕ) : Type 0 where
  pub done : List (List ℕ)
  pub within : start ≤ length lines
  pub split : recovered_lines lines ≡ done ++ recovered_lines (drop start lines)
  pub few : length (said done) ≤ count
  pub left_is : left ≡ count - length (said done)
  pub full : 0 < left → recovered_lines (drop start lines) ≡ []
  pub answered : AnswersLines mode old new out_old out_new done

-- Lines were answered again, and the replies to those after the first `told` were written.
pub record AnswersAgain (mode : Mode) (told left : Option ℕ) (old new : Runner)
    (lines : List (List ℕ)) (before after : Option (List ℕ)) : Type 0 where
  pub state : (past : HubPast) → IsRunnerAt mode past old
      → IsRunnerAt mode (past_after mode past lines) new
  pub left_is : left ≡ left_of told lines
  pub handed : (past : HubPast) → IsRunnerAt mode past old →
      Appends before after (debt mode past told lines)
