-- No more entries are handed out than were forwarded.
use Rattle.std.proofs.Common.{◌≡◌, ℕ, ◌+◌, ◌-◌, ◌≤◌, List, [], ◌∷◌, ◌++◌, length, sum_by, arith, length-drop}
use Rattle.inst_settings.specs.Settings.{HubSettings}
use Rattle.inst_journal.specs.declared.event.Event.{Event}
use Rattle.inst_journal.specs.declared.event.Event.TheVariants.{Funded, Defunded, Taken, Forwarded, Booked, Fetched, Opened}
use Rattle.inst_journal.specs.Reply.{inbox, handed_out, unread}
use Rattle.inst_journal.specs.Sound.{Fits, IsSound}
use Rattle.inst_journal.proofs.OneMoreElement.{sum_by_push}
use Rattle.inst_journal.proofs.Soundness.{sound_induction}

-- the inbox only grows
inbox_longer : (J : List Event) (event : Event) → length (inbox J) ≤ length (inbox (J ++ event ∷ []))
inbox_longer [] event = omega arith
inbox_longer (Forwarded from id cents deadline ∷ events) event = omega (arith, inbox_longer events event)
inbox_longer (Taken id to cents stamp ∷ events) event = inbox_longer events event
inbox_longer (Funded funding ∷ events) event = inbox_longer events event
inbox_longer (Defunded funding ∷ events) event = inbox_longer events event
inbox_longer (Booked from id outcome ∷ events) event = inbox_longer events event
inbox_longer (Fetched count ∷ events) event = inbox_longer events event
inbox_longer (Opened ∷ events) event = inbox_longer events event

handed_new : (s : HubSettings) (who : ℕ) (J : List Event) (event : Event) → Fits s who J event → sum_by handed_out J ≤ length (inbox J) → sum_by handed_out J + handed_out event ≤ length (inbox J)
handed_new s who J (Fetched count) fits before =
    let rest : length (unread J) ≡ length (inbox J) - sum_by handed_out J = length-drop (sum_by handed_out J) (inbox J) in
    omega (arith, fits.there, rest)
handed_new s who J (Taken id to cents stamp) fits before = omega arith
handed_new s who J (Funded funding) fits before = omega arith
handed_new s who J (Defunded funding) fits before = omega arith
handed_new s who J (Booked from id outcome) fits before = omega arith
handed_new s who J (Forwarded from id cents deadline) fits before = omega arith
handed_new s who J Opened fits before = omega arith

-- no more is handed out than was forwarded
pub handed_within : (s : HubSettings) (who : ℕ) (J : List Event) → IsSound s who J → sum_by handed_out J ≤ length (inbox J)
handed_within s who = sound_induction s who (λ J. sum_by handed_out J ≤ length (inbox J)) (omega arith)
    (λ J event sound fits before. omega (arith, sum_by_push handed_out J event, handed_new s who J event fits before, inbox_longer J event))

-- the inbox is no longer than the history
pub inbox_short : (J : List Event) → length (inbox J) ≤ length J
inbox_short [] = omega arith
inbox_short (Forwarded from id cents deadline ∷ events) = omega (arith, inbox_short events)
inbox_short (Taken id to cents stamp ∷ events) = omega (arith, inbox_short events)
inbox_short (Funded funding ∷ events) = omega (arith, inbox_short events)
inbox_short (Defunded funding ∷ events) = omega (arith, inbox_short events)
inbox_short (Booked from id outcome ∷ events) = omega (arith, inbox_short events)
inbox_short (Fetched count ∷ events) = omega (arith, inbox_short events)
inbox_short (Opened ∷ events) = omega (arith, inbox_short events)
