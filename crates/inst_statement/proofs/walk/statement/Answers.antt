use Rattle.std.proofs.Common.{◌≡◌, ℕ, ◌+◌, false, List, IfOk, length, take, drop, sym, ap, subst, ◌∙◌, refl, arith}
use Rattle.std.proofs.lemmas.Bool.{true≢false}
use Rattle.std.proofs.lemmas.List.{take_all}
use Rattle.inst_command.specs.declared.line.Line.{Line}
use Rattle.inst_journal.specs.declared.event.Event.{Event}
use Rattle.inst_journal.specs.declared.event.Event.TheVariants.{Funded, Defunded, Taken, Forwarded, Booked, Fetched, Opened}
use Rattle.inst_journal.specs.Opened.{is_opening}
use Rattle.inst_journal.specs.Statement.{statement}
use Rattle.inst_statement.specs.KeptLine.{AreNamed}
use Rattle.inst_statement.specs.KeptStatement.{lines_of_statement}
use Rattle.inst_statement.proofs.WalkAtEachFront.{Stands, Passes, passes_of, new_there, may_add, stands_added, stands_same, stands_begun}
use Rattle.inst_statement.proofs.Indices.{index_fits}
use Rattle.inst_statement.proofs.walk.statement.Goals as goal
use Rattle.inst_statement.proofs.walk.statement.Goals.{in-Some+in_ok-reserve, in_default+then-matches, in-Opened, in_default-matches, in_default+else-matches}

pub add-requires : goal.add-requires
add-requires c =
    let J : List Event = c.args.journal.now.events in
    let i : ℕ = c.loop-index.index in
    let x : Event = c.event-item.result in
    let p : Passes J i x = passes_of J c.events-event-items.result.now i x c.events-event-items.ensures c.requires.sound (omega arith) c.event-item.is in
    may_add J i x c.in-Some.movement c.loop-index.statement c.reserve.new.self p (sym (c.movement.ensures (take i J) c.loop-index.invariant.kept) ∙ c.in-Some.is)
    (omega (arith, c.get.ensures.value, c.get.ensures.within)) c.loop-index.invariant c.reserve.ensures.lines c.reserve.ensures.begun c.in_ok-reserve.ensures.room

no_opening : (x : Event) → (x ≡ Opened → ⊥) → is_opening x ≡ false
no_opening Opened other = absurd (other refl)
no_opening (Funded funding) other = refl
no_opening (Defunded funding) other = refl
no_opening (Taken id to cents stamp) other = refl
no_opening (Forwarded from id cents deadline) other = refl
no_opening (Booked from id outcome) other = refl
no_opening (Fetched count) other = refl

pub loop-index-preserved : goal.loop-index-preserved
loop-index-preserved c =
    let J : List Event = c.args.journal.now.events in
    let i : ℕ = c.loop-index.index in
    let x : Event = c.event-item.result in
    let p : Passes J i x = passes_of J c.events-event-items.result.now i x c.events-event-items.ensures c.requires.sound (omega arith) c.event-item.is in
    let found = c.movement.ensures (take i J) c.loop-index.invariant.kept in
    let before = c.loop-index.invariant in
    let kept = c.in_ok-keep.ensures.kept (take i J) (new_there J i x p) before.kept in
    elim c.match-movement.branch [
      | in-Some+in_ok-reserve w ↦
          subst (λ stated. Stands (take (i + 1) J) c.keep.new.self.taken c.keep.new.self.forwarded stated) (sym w.statement-is)
          (stands_added J i x p kept w.in-Some.movement c.loop-index.statement w.reserve.new.self w.add.new.self (sym found ∙ w.in-Some.is)
          (omega (arith, w.get.ensures.value, w.get.ensures.within)) before w.reserve.ensures.lines w.reserve.ensures.begun w.add.ensures)
      | in_default+then-matches w ↦ elim w.match-matches.branch [
        | in-Opened w' ↦
            subst (λ stated. Stands (take (i + 1) J) c.keep.new.self.taken c.keep.new.self.forwarded stated) (sym w.statement-is)
            (stands_begun J i x p kept c.loop-index.statement w.begin.new.self w'.in-Opened.is w.begin.ensures.lines w.begin.ensures.begun before)
        | in_default-matches w' ↦ absurd (true≢false (sym w.if-matches.true ∙ w'.matches-is))
      ]
      | in_default+else-matches w ↦ elim w.match-matches.branch [
        | in-Opened w' ↦ absurd (true≢false (sym w'.matches-is ∙ w.if-matches.false))
        | in_default-matches w' ↦
            subst (λ stated. Stands (take (i + 1) J) c.keep.new.self.taken c.keep.new.self.forwarded stated) (sym w.statement-is)
            (stands_same J i x p kept c.loop-index.statement (sym found ∙ w.in_default.is) (no_opening x w'.in_default-matches.not-Opened) before)
      ]
    ]

pub overflow_cast-index : goal.overflow_cast-index
overflow_cast-index c =
    let J : List Event = c.args.journal.now.events in
    omega (arith, ap length c.events-event-items.ensures, index_fits c.requires.sound.settings c.requires.sound.who J c.requires.sound.lawful c.requires.sound.sound)

-- the walk went over all events
pub part-requires : goal.part-requires
part-requires c =
    let J : List Event = c.args.journal.now.events in
    let all : take c.loop-index.index J ≡ J = take_all c.loop-index.index J (omega (arith, ap length c.events-event-items.ensures)) in
    subst (λ (K : List Event). AreNamed K c.loop-index.statement.lines) (all ∙ sym c.events.ensures) c.loop-index.invariant.lines.named

pub returns : goal.returns
returns c =
    let J : List Event = c.args.journal.now.events in
    let all : take c.loop-index.index J ≡ J = take_all c.loop-index.index J (omega (arith, ap length c.events-event-items.ensures)) in
    let lines : lines_of_statement c.events.result.now c.loop-index.statement ≡ statement J =
    ap (λ (K : List Event). lines_of_statement K c.loop-index.statement) (c.events.ensures ∙ sym all) ∙ c.loop-index.invariant.lines.are_lines ∙ ap statement all in
    record { ok = subst (λ (L : List Line). IfOk c.part.result (λ given. given.items ≡ take c.args.count (drop c.args.skip L))) lines c.part.ensures.ok }
