use Rattle.std.proofs.Common.{◌≡◌, length}
use Rattle.inst_settings.specs.Settings.{participants}
use Rattle.inst_log.specs.Layout.{recovered_lines}
use Rattle.inst_books.specs.Books.{all_events, AreWritable, with_lines, no_books}
use Rattle.inst_books.proofs.books.read_books.Given as goal

abbrev pub invariant-loop-len : goal.invariant-loop-len
invariant-loop-len l = record {
  one_each : length l.journals.items ≡ participants l.settings;
  writable : AreWritable l.settings (all_events l.journals.items);
  rest : with_lines l.settings (recovered_lines l.rest) (all_events l.journals.items) ≡ with_lines l.settings (recovered_lines l.text) (no_books l.settings);
}

abbrev pub decreases-loop-len : goal.decreases-loop-len
decreases-loop-len l = length l.rest
