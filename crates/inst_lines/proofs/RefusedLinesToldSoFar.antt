-- How far the telling of refused lines has come.
use Rattle.std.proofs.Common.{◌≡◌, ℕ, ◌+◌, ◌<◌, ◌≤◌, List, ◌∷◌, ◌++◌, length, take, drop, sym, ap, ◌∙◌, arith, append_assoc}
use Rattle.std.proofs.lemmas.List.{append-nil, length-drop}
use Rattle.inst_settings.specs.Settings.{HubSettings}
use Rattle.inst_lines.specs.Check.{told_line, told_lines, check_report}
use Rattle.inst_base.specs.Newline.{NoNewline, BreaksAt}
use Rattle.inst_lines.specs.Lines.{lines_of}
use Rattle.inst_lines.proofs.LinesFromTheFront.{lines_of-line, lines_of-part}

-- n lines are told of, and the rest isn't
pub record ToldFirst (s : HubSettings) (input rest : List ℕ) (n : ℕ) (before now : List ℕ) : Type 0 where
  pub told : now ++ told_lines s (n + 1) (lines_of rest) ≡ before ++ check_report s input
  pub few : n + length rest ≤ length input

pub told-line : (s : HubSettings) (input rest : List ℕ) (n len : ℕ) (before now new : List ℕ) → ToldFirst s input rest n before now → BreaksAt rest len
    → new ≡ now ++ told_line s (n + 1) (take len rest)
    → ToldFirst s input (drop (len + 1) rest) (n + 1) before new
told-line s input rest n len before now new first breaks is =
    let line : List ℕ = take len rest in
    let more : List ℕ = drop (len + 1) rest in
    let lines : lines_of rest ≡ line ∷ lines_of more = ap lines_of breaks.rest ∙ lines_of-line line more breaks.line in
    record {
      told =
          ap (λ (t : List ℕ). t ++ told_lines s (n + 1 + 1) (lines_of more)) is
          ∙ append_assoc now (told_line s (n + 1) line) (told_lines s (n + 1 + 1) (lines_of more))
          ∙ ap (λ (l : List (List ℕ)). now ++ told_lines s (n + 1) l) (sym lines)
          ∙ first.told;
      few = omega (arith, first.few, breaks.within, length-drop (len + 1) rest);
    }

pub told-last : (s : HubSettings) (input rest : List ℕ) (n : ℕ) (before now new : List ℕ) → ToldFirst s input rest n before now → NoNewline rest → 0 < length rest
    → new ≡ now ++ told_line s (n + 1) rest → new ≡ before ++ check_report s input
told-last s input rest n before now new first none some is =
    is ∙ ap (λ (t : List ℕ). now ++ t) (sym (append-nil (told_line s (n + 1) rest)))
    ∙ ap (λ (l : List (List ℕ)). now ++ told_lines s (n + 1) l) (sym (lines_of-part rest none some))
    ∙ first.told
