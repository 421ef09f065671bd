-- What a read brought, behind a part of a line.
use Rattle.std.proofs.Common.{◌≡◌, inl, inr, ℕ, Bool, true, false, List, [], ◌∷◌, ◌++◌, map, Option, refl, ap, sym, subst, ◌∙◌}
use Rattle.std.specs.Prelude.{MatchBool}
use Rattle.inst_log.specs.Layout.{recovered_lines}
use Rattle.inst_log.specs.Escape.{raw_of}
use Rattle.inst_chain.specs.Chain.{HasNoMark}
use Rattle.inst_chain.proofs.LinesWithoutMarks.{HasNoMark-append, raw_plain}
use Rattle.inst_logged.specs.Input.{shortened_line, logged_line}
use Rattle.inst_logged.specs.inner.Input.{lines_from, last_line}
use Rattle.inst_logged.specs.Intake.{line_part}
use Rattle.inst_logged.specs.inner.Intake.{TakesIn, TakesLast}
use Rattle.inst_logged.specs.inner.Logged.{Turned, Ended, Came}
use Rattle.inst_logged.specs.declared.intake.Intake.{Intake}

pub turned_of : (old new : Intake) (before after part : List ℕ) (left left' : Option (List ℕ)) (more : Bool) → before ≡ [] → line_part old ≡ shortened_line part
    → MatchBool more (TakesIn old new before after left left') (TakesLast old before after left left')
    → MatchBool more (Turned part new (recovered_lines after) left left') (Ended part (recovered_lines after) left left')
turned_of old new before after part left left' true none same t = record {
  read = t.read;
  some = t.some;
  consumes = t.consumes;
  lines_are = t.lines_are part same ∙ ap (λ (b : List ℕ). recovered_lines b ++ map logged_line (lines_from part t.read)) none;
  held_is = t.held_is part same;
}
turned_of old new before after part left left' false none same t = record {
  consumes = t.consumes;
  at_end = t.at_end;
  lines_are = t.lines_are part same ∙ ap (λ (b : List ℕ). recovered_lines b ++ map logged_line (last_line part)) none;
}

pub came_of : (part : List ℕ) (new : Intake) (lines : List (List ℕ)) (left left' : Option (List ℕ)) (more : Bool)
    → MatchBool more (Turned part new lines left left') (Ended part lines left left') → Came part lines left left'
came_of part new lines left left' true t = record { read = t.read; consumes = t.consumes; lines_are = inl t.lines_are }
came_of part new lines left left' false t = record { read = []; consumes = t.consumes; lines_are = inr (refl, (t.at_end, t.lines_are)) }

-- lines that were read are no marks
pub plain_logged : (lines : List (List ℕ)) → HasNoMark (map logged_line lines)
plain_logged [] = tt
plain_logged (line ∷ lines) = (raw_plain (shortened_line line), plain_logged lines)

pub plain_raw : (lines : List (List ℕ)) → HasNoMark (map raw_of lines)
plain_raw [] = tt
plain_raw (line ∷ lines) = (raw_plain line, plain_raw lines)

pub plain_more : (old new more : List (List ℕ)) → new ≡ old ++ more → HasNoMark more → HasNoMark old → HasNoMark new
plain_more old new more is plain before = subst HasNoMark (sym is) (HasNoMark-append old more before plain)
