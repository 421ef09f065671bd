use Rattle.std.proofs.Common.{◌≡◌, ◌≢◌, ◌∷◌, [], List, ℕ, MatchBool, subst, arith}
use Rattle.inst_log.specs.Layout.{recovered_lines}
use Rattle.inst_log.proofs.Pieces.{front_begins, file_begins, front_new, file_new, first_same, no_blocks, some_blocks}
use Rattle.inst_log.proofs.opening.start_of.Goals as goal

pub returns-then-begins-clause-start : goal.returns-then-begins-clause-start
returns-then-begins-clause-start c = λ file extent front. front_begins c.args.settings.now c.args.front.now file c.requires.settings front c.if-begins.ensures

pub returns-then-extent-gt0-clause-cause : goal.returns-then-extent-gt0-clause-cause
returns-then-extent-gt0-clause-cause c = λ file extent front. (
  tt,
  λ _. (
    some_blocks (recovered_lines file) (omega (arith, extent.end, c.if-extent-gt0.true)),
    λ begins. c.if-begins.ensures (file_begins c.args.settings.now c.args.front.now file c.requires.settings front begins),
  ),
)

pub returns-then-not-is_new-clause-cause : goal.returns-then-not-is_new-clause-cause
returns-then-not-is_new-clause-cause c = λ file extent front. (
  tt,
  λ _. (
    no_blocks (recovered_lines file) (omega (arith, extent.end, c.if-extent-gt0.false)),
    λ new. c.if-not-is_new.ensures (file_new c.args.settings.now c.args.front.now file c.requires.settings front new),
  ),
)

pub returns-clause-start : goal.returns-clause-start
returns-clause-start c = λ file extent front. (
  front_new c.args.settings.now c.args.front.now file c.requires.settings front c.if-not-is_new.ensures,
  no_blocks (recovered_lines file) (omega (arith, extent.end, c.if-extent-gt0.false)),
  subst (λ (l : List ℕ). MatchBool c.is_blank.result (l ≡ 0 ∷ []) (l ≢ 0 ∷ []))
      (first_same c.args.settings.now c.args.front.now file c.requires.settings front) c.is_blank.ensures,
)
