use Rattle.std.proofs.Common.{◌≡◌, ◌+◌, ◌-◌, ◌<◌, ◌≤◌, ℕ, List, [], ◌∷◌, ◌++◌, Some, length, length-drop, get_or, take, drop, sym, ap, ◌∙◌, arith}
use Rattle.std.specs.List.{slice_get, slice_range}
use Rattle.std.proofs.lemmas.List.{take_more, get_or-drop}
use Rattle.std.proofs.lemmas.Option.{slice_get_within, get_or_from_slice_get}
use Rattle.inst_command.specs.declared.line.Line.{Line}
use Rattle.inst_statement.specs.KeptStatement.{lines_of_statement}
use Rattle.inst_statement.proofs.kept_statement.KeptStatement.lines.Goals as goal

-- one line further
line_further : (all : List Line) (first index : ℕ) (line : Line) → first ≤ index → slice_get all index ≡ Some line → slice_range all first index ++ line ∷ [] ≡ slice_range all first (index + 1)
line_further all first index line order there =
    let rest : ℕ = index - first in
    let below : rest < length (drop first all) = omega (arith, length-drop first all, slice_get_within all index line there) in
    let at : first + rest ≡ index = omega arith in
    let last : get_or (drop first all) rest line ≡ line = get_or-drop first all rest line ∙ ap (λ n. get_or all n line) at ∙ get_or_from_slice_get all index line line there in
    let more : rest + 1 ≡ index + 1 - first = omega arith in
    sym (ap (λ l. take rest (drop first all) ++ l ∷ []) last) ∙ sym (take_more (drop first all) rest line below) ∙ ap (λ n. take n (drop first all)) more

pub loop-index-preserved : goal.loop-index-preserved
loop-index-preserved c =
    c.in_ok-push.ensures.items ∙ ap (λ lines. lines ++ c.line.result ∷ []) c.loop-index.invariant
    ∙ line_further (lines_of_statement c.args.events.now c.args.self.now) c.args.first c.loop-index.index c.line.result (omega (arith, c.loop-index.auto.index)) c.line.ensures
