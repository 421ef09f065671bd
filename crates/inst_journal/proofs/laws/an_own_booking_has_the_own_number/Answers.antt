use Rattle.inst_journal.proofs.OwnBookings.{own_booked-booked}
use Rattle.inst_journal.proofs.laws.an_own_booking_has_the_own_number.Goals as goal

pub returns : goal.returns
returns c = λ s who J sound id. own_booked-booked s who J id sound
