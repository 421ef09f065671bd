-- The positions of closed books sum to little, so that no sum of them overflows.
use Rattle.std.proofs.Common.{◌≡◌, ℕ, zero, suc, ◌+◌, ◌*◌, ◌<◌, ◌≤◌, arith, true, cond, List, length, get_or, sym, ap, ◌∙◌, subst, inl, inr, Some, ℤ, pos, ◌+ℤ◌, ◌-ℤ◌, sum_by}
use Rattle.std.specs.Prelude.{slice_get, nat_le}
use mir.Syntax.{w128}
use mir.Val.{to_z, of_z}
use lib.IntN.{nat_abs}
use Rattle.std.proofs.lemmas.Bool.{and_parts, leb-true, cases_eq}
use Rattle.std.proofs.lemmas.Int.{ints}
use Rattle.std.proofs.lemmas.Option.{slice_get-get_or}
use Rattle.inst_settings.specs.Settings.{HubSettings, participants, is_within_ceiling}
use Rattle.inst_settings.specs.Lawful.{IsSettings}
use Rattle.inst_journal.specs.declared.event.Event.{Event}
use Rattle.inst_journal.specs.declared.event.Event.TheVariants.{Funded, Defunded, Taken, Forwarded, Booked, Fetched, Opened}
use Rattle.inst_journal.specs.Keys.{is_funding}
use Rattle.inst_journal.specs.Money.{position}
use Rattle.inst_journal.specs.Sums.{funding, defunding, funded, defunded, net}
use Rattle.inst_journal.specs.Sound.{Fits, IsSound}
use Rattle.inst_journal.proofs.CountsOfEvents.{fundings_at_most, most_times}
use Rattle.inst_journal.proofs.OneMoreElement.{sum_by_push}
use Rattle.inst_journal.proofs.Soundness.{sound_induction}
use Rattle.inst_model.specs.Untold.{sum_below, signed_sum_below, sum_over_participants, signed_total}
use Rattle.inst_model.proofs.ClosedBooksSumToNet.{closed_books_sum_to_the_net}
use Rattle.inst_model.proofs.Totals.{signed_sum_is}
use Rattle.inst_slot.specs.Book.{events_of, Book}
use Rattle.inst_participant.specs.Together.{histories}
use Rattle.inst_close.specs.ClosedHub.{IsClosed}

-- the most that the event can fund
abbrev most_of : Event → ℕ
most_of event = cond (is_funding event) 99999999999 0

within : (s : HubSettings) (cents : ℕ) → IsSettings s → is_within_ceiling s cents ≡ true → cents ≤ 99999999999
within s cents lawful amount =
    let parts = and_parts (nat_le 1 cents) (nat_le cents s.ceiling) amount in
    omega (arith, leb-true cents s.ceiling parts.1, lawful.ceiling_most)

one_funding : (s : HubSettings) (who : ℕ) (J : List Event) (event : Event) → IsSettings s → Fits s who J event → funding event ≤ most_of event
one_funding s who J (Funded funding) lawful fits = within s funding.cents lawful fits.amount
one_funding s who J (Defunded funding) lawful fits = omega arith
one_funding s who J (Taken id to cents stamp) lawful fits = omega arith
one_funding s who J (Forwarded from id cents deadline) lawful fits = omega arith
one_funding s who J (Booked from id outcome) lawful fits = omega arith
one_funding s who J (Fetched count) lawful fits = omega arith
one_funding s who J Opened lawful fits = omega arith

-- what a participant was ever funded
funded_small : (s : HubSettings) (who : ℕ) (J : List Event) → IsSettings s → IsSound s who J → funded J ≤ 51302399999486976
funded_small s who J lawful sound =
    let each : funded J ≤ sum_by (λ e. cond (is_funding e) 99999999999 0) J = sound_induction s who (λ K. funded K ≤ sum_by most_of K) (omega arith)
    (λ K event before_sound fits before. omega (arith, before, one_funding s who K event lawful fits, sum_by_push funding K event, sum_by_push most_of K event)) J sound in
    omega (arith, each, most_times is_funding 99999999999 J, fundings_at_most s who J sound, lawful.fundings_most)

one_defunding : (s : HubSettings) (who : ℕ) (J : List Event) (event : Event) → IsSettings s → Fits s who J event → defunding event ≤ most_of event
one_defunding s who J (Funded funding) lawful fits = omega arith
one_defunding s who J (Defunded funding) lawful fits = within s funding.cents lawful fits.funding.amount
one_defunding s who J (Taken id to cents stamp) lawful fits = omega arith
one_defunding s who J (Forwarded from id cents deadline) lawful fits = omega arith
one_defunding s who J (Booked from id outcome) lawful fits = omega arith
one_defunding s who J (Fetched count) lawful fits = omega arith
one_defunding s who J Opened lawful fits = omega arith

-- and defunded
defunded_small : (s : HubSettings) (who : ℕ) (J : List Event) → IsSettings s → IsSound s who J → defunded J ≤ 51302399999486976
defunded_small s who J lawful sound =
    let each : defunded J ≤ sum_by (λ e. cond (is_funding e) 99999999999 0) J = sound_induction s who (λ K. defunded K ≤ sum_by most_of K) (omega arith)
    (λ K event before_sound fits before. omega (arith, before, one_defunding s who K event lawful fits, sum_by_push defunding K event, sum_by_push most_of K event)) J sound in
    omega (arith, each, most_times is_funding 99999999999 J, fundings_at_most s who J sound, lawful.fundings_most)

sum_small : (n : ℕ) (f : ℕ → ℕ) → ((k : ℕ) → f k ≤ 51302399999486976) → sum_below n f ≤ n * 51302399999486976
sum_small zero f small = omega arith
sum_small (suc n) f small = omega (arith, sum_small n f small, small n)

-- a sum over fewer is no more
sum_of_fewer : (i n : ℕ) (f : ℕ → ℕ) → i ≤ n → sum_below i f ≤ sum_below n f
sum_of_fewer i zero f below = let none : i ≡ 0 = omega (arith, below) in subst (λ k. sum_below k f ≤ sum_below zero f) (sym none) (omega arith)
sum_of_fewer i (suc n) f below = elim (cases_eq i (suc n)) [
  | inl last ↦ subst (λ k. sum_below k f ≤ sum_below (suc n) f) (sym last) (omega arith)
  | inr before ↦ omega (arith, sum_of_fewer i n f (omega (arith, below, before)))
]

less_what_went : (x f d : ℕ) → pos x ≡ (pos f -ℤ pos d) → x ≤ f
less_what_went x f d e = omega (arith, ints, e)

-- all positions of closed books
pub total_small : (s : HubSettings) (books : List Book) → IsClosed s books → sum_over_participants s (λ p. position (histories books p)) ≤ 13133414399868665856
total_small s books closed =
    let J : ℕ → List Event = histories books in
    let is_net = closed_books_sum_to_the_net s J closed.closed.sound closed.closed.closed in
    let split = signed_sum_is (participants s) (λ p. funded (J p)) (λ p. defunded (J p)) in
    let most = less_what_went (sum_over_participants s (λ p. position (J p))) (sum_below (participants s) (λ p. funded (J p))) (sum_below (participants s) (λ p. defunded (J p))) (is_net ∙ split) in
    omega (arith, most, sum_small (participants s) (λ p. funded (J p)) (λ p. funded_small s p (J p) closed.lawful (closed.closed.sound p)), closed.lawful.participants_most)

-- the sum of the first positions, and of one more
pub one_summed : (s : HubSettings) (books : List Book) (n : ℕ) (book : Book) (sum more : ℕ) → n < length books → book ≡ get_or books n book → more ≡ position book.events
    → sum ≡ sum_below n (λ p. position (histories books p)) → sum + more ≡ sum_below (n + 1) (λ p. position (histories books p))
one_summed s books n book sum more below here more_is so =
    let found : slice_get books n ≡ Some book = slice_get-get_or books n book below ∙ ap (λ (b : Book). Some b) (sym here) in
    let one : more ≡ position (histories books n) = more_is ∙ sym (ap (λ (J : List Event). position J) (ap events_of found)) in
    let up : suc n ≡ n + 1 = omega arith in
    subst (λ k. sum + more ≡ sum_below k (λ p. position (histories books p))) up (omega (arith, so, one))

pub summed_small : (s : HubSettings) (books : List Book) (n : ℕ) (sum : ℕ) → IsClosed s books → n ≤ length books → sum ≡ sum_below n (λ p. position (histories books p)) → sum ≤ 13133414399868665856
summed_small s books n sum closed below so =
    omega (arith, so, sum_of_fewer n (participants s) (λ p. position (histories books p)) (omega (arith, below, closed.one_each)), total_small s books closed)

-- the net funding of the first, and of one more
pub one_netted : (books : List Book) (n : ℕ) (book : Book) (sum more : ℤ) → n < length books → book ≡ get_or books n book → more ≡ net book.events
    → sum ≡ signed_sum_below n (λ p. net (histories books p)) → (sum +ℤ more) ≡ signed_sum_below (n + 1) (λ p. net (histories books p))
one_netted books n book sum more below here more_is so =
    let found : slice_get books n ≡ Some book = slice_get-get_or books n book below ∙ ap (λ (b : Book). Some b) (sym here) in
    let one : more ≡ net (histories books n) = more_is ∙ sym (ap (λ (J : List Event). net J) (ap events_of found)) in
    let up : suc n ≡ n + 1 = omega arith in
    subst (λ k. (sum +ℤ more) ≡ signed_sum_below k (λ p. net (histories books p))) up
    (ap (λ (z : ℤ). z +ℤ more) so ∙ ap (λ (z : ℤ). signed_sum_below n (λ p. net (histories books p)) +ℤ z) one)

-- a difference of two sums that are small
pub record IsSmall (z : ℤ) : Type 0 where
  pub came : ℕ
  pub went : ℕ
  pub is : z ≡ (pos came -ℤ pos went)
  pub few_came : came ≤ 13133414399868665856
  pub few_went : went ≤ 13133414399868665856

pub netted_small : (s : HubSettings) (books : List Book) (n : ℕ) (sum : ℤ) → IsClosed s books → n ≤ length books → sum ≡ signed_sum_below n (λ p. net (histories books p)) → IsSmall sum
netted_small s books n sum closed below so =
    let J : ℕ → List Event = histories books in
    let few : n ≤ 256 = omega (arith, below, closed.one_each, closed.lawful.participants_most) in
    record {
      came = sum_below n (λ p. funded (J p));
      went = sum_below n (λ p. defunded (J p));
      is = so ∙ signed_sum_is n (λ p. funded (J p)) (λ p. defunded (J p));
      few_came = omega (arith, few, sum_small n (λ p. funded (J p)) (λ p. funded_small s p (J p) closed.lawful (closed.closed.sound p)));
      few_went = omega (arith, few, sum_small n (λ p. defunded (J p)) (λ p. defunded_small s p (J p) closed.lawful (closed.closed.sound p)));
    }

-- the net funding of all is not below 0
pub net_is_positions : (s : HubSettings) (books : List Book) → IsClosed s books → signed_total s (λ p. net (histories books p)) ≡ pos (sum_over_participants s (λ p. position (histories books p)))
net_is_positions s books closed = sym (closed_books_sum_to_the_net s (histories books) closed.closed.sound closed.closed.closed)

-- such a number comes back from its bits
pub small_again : (z : ℤ) → IsSmall z → to_z w128 (of_z w128 z) ≡ z
small_again z small = omega (arith, ints, small.is, small.few_came, small.few_went)

pub whole_net : (z : ℤ) (result : ℕ) (s : HubSettings) (books : List Book) → IsClosed s books → z ≡ signed_total s (λ p. net (histories books p)) → result ≡ nat_abs z → pos result ≡ signed_total s (λ p. net (histories books p))
whole_net z result s books closed is result_is =
    let up = net_is_positions s books closed in
    ap pos (result_is ∙ ap nat_abs (is ∙ up)) ∙ sym up
