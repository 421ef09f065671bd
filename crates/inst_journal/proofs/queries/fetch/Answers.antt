use Rattle.inst_journal.proofs.HandedOutWithinInbox.{handed_within}
use Rattle.inst_journal.proofs.queries.fetch.Goals as goal

pub unread-requires : goal.unread-requires
unread-requires c = handed_within c.args.settings.now c.args.who c.args.events.now c.requires.sound
