-- The effect of a command that is no submission and decides no transfer.
use Rattle.std.specs.Prelude.{◌≡◌, ◌⊎◌, true, None, Result, Err}
use Rattle.std.specs.List.{list_all}
use Rattle.inst_base.specs.declared.fault.Fault.{Fault}
use Rattle.inst_base.specs.declared.fault.Fault.TheVariants.{Memory}
use Rattle.inst_command.specs.declared.ask.Ask.{Ask}
use Rattle.inst_command.specs.declared.reply.Reply.{Reply}
use Rattle.inst_journal.specs.Reply.{reply_result, kept_events}
use Rattle.inst_slot.specs.Asking.{handle_ask, book_after, takes_memory}
use Rattle.inst_slot.specs.Book.{Book}
use Rattle.inst_slot.specs.inner.Waiting.{is_apart}

-- Either the reply and the book are those of handle_ask, and the event concerns no transfer; or an
-- allocation failed and nothing changed.
abbrev pub EntersAlone : Book → Ask → Result Reply Fault → Book → Type 0
EntersAlone book ask result new =
    ((result ≡ reply_result (handle_ask book ask None)) × (new ≡ book_after book ask None)
    × (list_all is_apart (kept_events (handle_ask book ask None)) ≡ true))
    ⊎ ((result ≡ Err Memory) × (new ≡ book) × (takes_memory book ask ≡ true))
