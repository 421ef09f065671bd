use Rattle.std.proofs.Common.{sym, ◌∙◌}
use Rattle.std.proofs.lemmas.Bool.{false≢true}
use Rattle.inst_books.proofs.ReplayedJournals.{next_fits, kept_more, sound_more}
use Rattle.inst_books.proofs.audit.keep_all.Goals as goal

pub returns-then-not-may_keep-clause-sound : goal.returns-then-not-may_keep-clause-sound
returns-then-not-may_keep-clause-sound c = (
  λ yes. absurd (false≢true yes),
  λ sound.
      sym c.if-not-may_keep.true
      ∙ c.may_keep.ensures.1
      (next_fits c.args.replay.now.settings c.args.replay.now.who c.args.journal.now.events c.events-event-items.result.now c.loop-event.event-index c.event-item.result c.loop-event.replay
      c.events-event-items.ensures sound c.loop-event-test.true c.event-item.is c.loop-event.invariant.book),
)

pub loop-event-preserved : goal.loop-event-preserved
loop-event-preserved c =
    let s = c.args.replay.now.settings in
    let J = c.args.journal.now.events in
    record {
      book =
          kept_more s c.args.replay.now.who J c.events-event-items.result.now c.loop-event.event-index c.event-item.result c.loop-event.replay c.keep.new.self
          c.events-event-items.ensures c.loop-event-test.true c.event-item.is c.loop-event.invariant.book c.in_ok-keep.ensures.ok;
      sound =
          sound_more s c.args.replay.now.who J c.events-event-items.result.now c.loop-event.event-index c.event-item.result c.loop-event.replay
          c.events-event-items.ensures c.loop-event-test.true c.event-item.is c.loop-event.invariant.book c.loop-event.invariant.sound (c.may_keep.ensures.0 c.if-not-may_keep.false);
    }
