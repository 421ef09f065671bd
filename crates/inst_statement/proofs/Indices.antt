-- A history is so short that the index of an event has 32 bits.
use Rattle.std.proofs.Common.{◌≡◌, ℕ, ◌+◌, ◌*◌, ◌^◌, ◌<◌, ◌≤◌, Bool, true, false, cond, List, [], ◌∷◌, length, sum_by, count_by, refl, arith}
use Rattle.std.proofs.lemmas.Bool.Decides.{nat_tests}
use Rattle.std.proofs.lemmas.List.Sums.{sum_by-cons}
use Rattle.std.proofs.Math.Nat.{mul-le-mul}
use Rattle.inst_settings.specs.Settings.{HubSettings, participants}
use Rattle.inst_settings.specs.Lawful.{IsSettings}
use Rattle.inst_command.specs.Ask.{is_count}
use Rattle.inst_journal.specs.declared.event.Event.{Event}
use Rattle.inst_journal.specs.declared.event.Event.TheVariants.{Funded, Defunded, Taken, Forwarded, Booked, Fetched, Opened}
use Rattle.inst_journal.specs.Booked.{is_forwarding}
use Rattle.inst_journal.specs.Keys.{is_funding}
use Rattle.inst_journal.specs.Opened.{is_opening}
use Rattle.inst_journal.specs.Reply.{inbox, handed_out}
use Rattle.inst_journal.specs.Sound.{Fits, IsSound}
use Rattle.inst_journal.proofs.BookingsWithinTransfers.{is_booking, bookings_within}
use Rattle.inst_journal.proofs.CountsOfEvents.{is_submission, count_push, openings_within, fundings_at_most, submissions_at_most, forwardings_within}
use Rattle.inst_journal.proofs.OneMoreElement.{sum_by_push}
use Rattle.inst_journal.proofs.HandedOutWithinInbox.{handed_within}
use Rattle.inst_journal.proofs.Soundness.{sound_induction}

-- whether the event hands out what came
is_fetching : Event → Bool
is_fetching (Fetched count) = true
is_fetching _ = false

one_of : (event : Event)
    → 1 ≤ cond (is_funding event) 1 0 + cond (is_submission event) 1 0 + cond (is_forwarding event) 1 0 + cond (is_booking event) 1 0 + cond (is_fetching event) 1 0 + cond (is_opening event) 1 0
unfolding is_fetching
one_of (Funded funding) = omega arith
one_of (Defunded funding) = omega arith
one_of (Taken id to cents stamp) = omega arith
one_of (Forwarded from id cents deadline) = omega arith
one_of (Booked from id outcome) = omega arith
one_of (Fetched count) = omega arith
one_of Opened = omega arith

-- each event is of one of these kinds
all_counted : (J : List Event)
    → length J ≤ count_by is_funding J + count_by is_submission J + count_by is_forwarding J + count_by is_booking J + count_by is_fetching J + count_by is_opening J
all_counted [] = omega arith
all_counted (event ∷ J) =
    omega (
      arith,
      all_counted J,
      one_of event,
      sum_by-cons (λ e. cond (is_funding e) 1 0) event J,
      sum_by-cons (λ e. cond (is_submission e) 1 0) event J,
      sum_by-cons (λ e. cond (is_forwarding e) 1 0) event J,
      sum_by-cons (λ e. cond (is_booking e) 1 0) event J,
      sum_by-cons (λ e. cond (is_fetching e) 1 0) event J,
      sum_by-cons (λ e. cond (is_opening e) 1 0) event J,
    )

count_above : (count : ℕ) → is_count count ≡ true → 1 ≤ count
count_above count is = grind (arith, nat_tests)

hands_out : (s : HubSettings) (who : ℕ) (J : List Event) (event : Event) → Fits s who J event → cond (is_fetching event) 1 0 ≤ handed_out event
unfolding is_fetching
hands_out s who J (Fetched count) fits = count_above count fits.number
hands_out s who J (Funded funding) fits = omega arith
hands_out s who J (Defunded funding) fits = omega arith
hands_out s who J (Taken id to cents stamp) fits = omega arith
hands_out s who J (Forwarded from id cents deadline) fits = omega arith
hands_out s who J (Booked from id outcome) fits = omega arith
hands_out s who J Opened fits = omega arith

-- no more often is something handed out than entries are
fetched_within : (s : HubSettings) (who : ℕ) (J : List Event) → IsSound s who J → count_by is_fetching J ≤ sum_by handed_out J
fetched_within s who = sound_induction s who (λ J. count_by is_fetching J ≤ sum_by handed_out J) (omega arith)
    (λ J event sound fits before. omega (arith, count_push is_fetching J event, sum_by_push handed_out J event, hands_out s who J event fits, before))

-- the inbox has what was forwarded
inbox_counted : (J : List Event) → length (inbox J) ≡ count_by is_forwarding J
inbox_counted [] = refl
inbox_counted (event ∷ events) = omega (arith, sum_by-cons (λ e. cond (is_forwarding e) 1 0) event events, more event, inbox_counted events)
  where
    more : (e : Event) → length (inbox (e ∷ events)) ≡ cond (is_forwarding e) 1 0 + length (inbox events)
    more (Forwarded from id cents deadline) = omega arith
    more (Funded funding) = omega arith
    more (Defunded funding) = omega arith
    more (Taken id to cents stamp) = omega arith
    more (Booked from id outcome) = omega arith
    more (Fetched count) = omega arith
    more Opened = omega arith

-- the next event's index has 32 bits
pub index_fits : (s : HubSettings) (who : ℕ) (J : List Event) → IsSettings s → IsSound s who J → length J < 2 ^ 32
index_fits s who J lawful sound =
    let most : 501 * s.places ≤ 513024 = omega (arith, lawful.places_most) in
    let places : participants s * (501 * s.places) ≤ 256 * 513024 = mul-le-mul lawful.participants_most most in
    omega (
      arith,
      all_counted J,
      places,
      fundings_at_most s who J sound,
      submissions_at_most s who J sound,
      forwardings_within s who J sound,
      bookings_within s who J sound,
      fetched_within s who J sound,
      handed_within s who J sound,
      inbox_counted J,
      openings_within s who J sound,
      lawful.fundings_most,
      lawful.places_most,
    )
