-- A new submission is live.
use Rattle.std.proofs.Common.{◌≡◌, ℕ, true, false, List, is_none, ap}
use Rattle.inst_settings.specs.Settings.{HubSettings}
use Rattle.inst_journal.specs.declared.event.Event.{Event}
use Rattle.inst_journal.specs.declared.event.Event.TheVariants.{Taken}
use Rattle.inst_journal.specs.Booked.{is_taken}
use Rattle.inst_journal.specs.Opened.{carried, takes_live}
use Rattle.inst_journal.specs.Sound.{IsSound}
use Rattle.inst_journal.proofs.EventsCarriedOverOpening.{carried_unbooked}
use Rattle.inst_ledger.proofs.Amounts.{untaken_unbooked}

-- a new submission is live
pub new_lives : (s : HubSettings) (who : ℕ) (J : List Event) (id : List ℕ) (to cents stamp : ℕ) → IsSound s who J → is_taken id J ≡ false → takes_live who (carried J) (Taken id to cents stamp) ≡ true
new_lives s who J id to cents stamp sound new = ap is_none (carried_unbooked who id J (untaken_unbooked s who id J sound new))
