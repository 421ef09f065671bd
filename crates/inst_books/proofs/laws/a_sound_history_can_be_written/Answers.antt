use Rattle.inst_books.proofs.SoundHistoryCanBeWritten.{sound_writable}
use Rattle.inst_books.proofs.laws.a_sound_history_can_be_written.Goals as goal

pub returns : goal.returns
returns c = sound_writable
