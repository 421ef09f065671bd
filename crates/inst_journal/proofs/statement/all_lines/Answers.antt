use Rattle.std.proofs.Common.{◌≡◌, ◌+◌, ℕ, length, List, sym, ap, ◌∙◌, arith, ◌++◌, ◌∷◌, []}
use Rattle.std.proofs.lemmas.Grind.{common_steps}
use Rattle.inst_command.specs.declared.line.Line.{Line}
use Rattle.inst_journal.specs.declared.event.Event.{Event}
use Rattle.inst_journal.specs.Statement.{line_of, statement}
use Rattle.inst_journal.proofs.WalkOverFronts.{lines_few, sound_front, walked_none, walked_some}
use Rattle.inst_journal.proofs.statement.all_lines.Goals as goal
use Rattle.inst_journal.proofs.statement.all_lines.Goals.{in-Some+in_ok-push, in_default}

pub position_after-position-requires-clause-sound : goal.position_after-position-requires-clause-sound
position_after-position-requires-clause-sound c =
    sound_front c.args.settings.now c.args.who c.args.events.now (c.loop-index.index + 1) c.requires.sound

pub overflow_cast-number : goal.overflow_cast-number
overflow_cast-number c =
    let few = lines_few c.args.settings.now c.args.who c.args.events.now c.loop-index.index c.requires.lawful c.requires.sound in
    omega (arith, few, c.loop-index.invariant.few, c.len.ensures)

pub overflow_add-number : goal.overflow_add-number
overflow_add-number c =
    let few = lines_few c.args.settings.now c.args.who c.args.events.now c.loop-index.index c.requires.lawful c.requires.sound in
    omega (arith, few, c.loop-index.invariant.few, c.len.ensures)

pub loop-index-preserved : goal.loop-index-preserved
loop-index-preserved c =
    let J : List Event = c.args.events.now in
    let x : Event = c.index-events-index.result in
    let old : List Line = c.loop-index.lines.items in
    let after : ℕ = c.position_after-position.result in
    let at : line_of J (length old + 1) after x ≡ c.line_of.result = ap (λ n. line_of J (n + 1) after x) (sym (c.len.ensures ∙ c.loop-index.lines.ok.0)) ∙ sym c.line_of.ensures in
    elim c.match-line_of.branch [
      | in-Some+in_ok-push w ↦
          let new : c.match-line_of.lines.items ≡ old ++ w.in-Some.line ∷ [] = ap (λ v. v.items) w.lines-is ∙ w.in_ok-push.ensures.items in
          rw new (walked_some J c.loop-index.index x old (statement J) after w.in-Some.line (omega arith) c.index-events-index.is c.position_after-position.ensures
          (at ∙ w.in-Some.is) (record { walked = c.loop-index.invariant.walked; few = c.loop-index.invariant.few }))
      | in_default w ↦
          let same : c.match-line_of.lines.items ≡ old = ap (λ v. v.items) w.lines-is in
          rw same (walked_none J c.loop-index.index x old (statement J) after (omega arith) c.index-events-index.is c.position_after-position.ensures
          (at ∙ w.in_default.is) (record { walked = c.loop-index.invariant.walked; few = c.loop-index.invariant.few }))
    ]

pub returns : goal.returns
returns c = grind (arith, common_steps)
