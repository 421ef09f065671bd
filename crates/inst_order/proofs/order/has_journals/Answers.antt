use Rattle.std.proofs.Common.{◌≡◌, ◌<◌, length, sym, ap, subst, ◌∙◌, inl, inr, arith}
use Rattle.std.proofs.lemmas.Bool.{cases_eq, lt-ltb, false≢true}
use Rattle.inst_settings.specs.Settings.{participants}
use Rattle.inst_world.specs.HasRun.{journal_of}
use Rattle.inst_world.specs.NextOpening.{books_of}
use Rattle.inst_order.proofs.StepsExplainJournals.{book_at}
use Rattle.inst_order.proofs.order.has_journals.Goals as goal

pub loop-who-preserved : goal.loop-who-preserved
loop-who-preserved c = λ p less. elim (cases_eq p c.loop-who.who) [
  | inl at ↦
      let below : c.loop-who.who < length c.args.journals.now = omega (arith, c.loop-who-test.true, c.participants-who-end.ensures.value, ap participants c.settings.ensures, c.requires) in
      let here : books_of c.args.journals.now c.loop-who.who ≡ journal_of c.args.world.now c.loop-who.who =
      book_at c.args.journals.now c.loop-who.who c.from.result c.index-journals-from.result below c.from.ensures c.index-journals-from.is
      ∙ sym (c.are_equal.ensures.0 c.if-not-are_equal.false)
      ∙ c.journal.ensures.events in
      subst (λ q. books_of c.args.journals.now q ≡ journal_of c.args.world.now q) (sym at) here
  | inr other ↦ c.loop-who.invariant p (omega (arith, less, other))
]

pub returns-then-not-are_equal : goal.returns-then-not-are_equal
returns-then-not-are_equal c =
    let below : c.loop-who.who < length c.args.journals.now = omega (arith, c.loop-who-test.true, c.participants-who-end.ensures.value, ap participants c.settings.ensures, c.requires) in (
      λ yes. absurd (false≢true yes),
      λ are.
          sym c.if-not-are_equal.true
          ∙ c.are_equal.ensures.1 (c.journal.ensures.events
          ∙ sym (are.same c.loop-who.who (lt-ltb c.loop-who.who (participants c.args.world.now.board.settings) (omega (arith, below, c.requires))))
          ∙ book_at c.args.journals.now c.loop-who.who c.from.result c.index-journals-from.result below c.from.ensures c.index-journals-from.is),
    )
