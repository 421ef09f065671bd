-- One step of a walk over a history's fronts, and how many lines it gives.
use Rattle.std.proofs.Common.{◌≡◌, ℕ, ◌+◌, ◌*◌, ◌<◌, ◌≤◌, Bool, true, ◌||◌, cond, List, [], ◌∷◌, ◌++◌, length, take, drop, get_or, Some, None, sum_by, count_by, refl, sym, ap, ◌∙◌, subst, arith, take-append-drop, add-one, drop-cons, append_assoc, append-nil, length-append}
use Rattle.std.proofs.lemmas.List.{take_more}
use Rattle.std.proofs.lemmas.List.Sums.{sum_by-le-sum_by, sum_by-take-le}
use Rattle.std.proofs.Math.Nat.{mul-le-mul}
use Rattle.inst_settings.specs.Settings.{HubSettings, participants}
use Rattle.inst_settings.specs.Lawful.{IsSettings}
use Rattle.inst_command.specs.declared.line.Line.{Line}
use Rattle.inst_journal.specs.declared.event.Event.{Event}
use Rattle.inst_journal.specs.declared.event.Event.TheVariants.{Funded, Defunded, Taken, Forwarded, Booked, Fetched, Opened}
use Rattle.inst_journal.specs.Keys.{is_funding}
use Rattle.inst_journal.specs.Money.{position}
use Rattle.inst_journal.specs.Statement.{line_of, with_line, lines_after}
use Rattle.inst_journal.specs.Sound.{FitAfter, IsSound}
use Rattle.inst_journal.proofs.OneMoreElement.{sum_by_push, sum_by-both}
use Rattle.inst_journal.proofs.CountsOfEvents.{fundings_at_most, submissions_at_most, forwardings_within}
use Rattle.inst_journal.proofs.BookingsWithinTransfers.{is_booking, bookings_within}

-- the step of a walk at an event
walk_step : (J : List Event) (number i : ℕ) (x : Event) → i < length J → x ≡ get_or J i x
    → lines_after J (take i J) number (drop i J) ≡ with_line (line_of J number (position (take (i + 1) J)) x) (lines_after J (take (i + 1) J) number (drop (i + 1) J)) (lines_after J (take (i + 1) J) (number + 1) (drop (i + 1) J))
walk_step J number i x below here =
    let rest : drop i J ≡ x ∷ drop (i + 1) J = rw add-one (drop-cons J i x below) ∙ ap (λ y. y ∷ drop (i + 1) J) (sym here) in
    let front : take i J ++ x ∷ [] ≡ take (i + 1) J = ap (λ y. take i J ++ y ∷ []) here ∙ sym (take_more J i x below) in
    ap (lines_after J (take i J) number) rest
    ∙ ap (λ f. with_line (line_of J number (position f) x) (lines_after J f number (drop (i + 1) J)) (lines_after J f (number + 1) (drop (i + 1) J))) front

-- an event without a line
pub walk_none : (J : List Event) (number i : ℕ) (x : Event) → i < length J → x ≡ get_or J i x → line_of J number (position (take (i + 1) J)) x ≡ None
    → lines_after J (take i J) number (drop i J) ≡ lines_after J (take (i + 1) J) number (drop (i + 1) J)
walk_none J number i x below here none =
    walk_step J number i x below here ∙ ap (λ o. with_line o (lines_after J (take (i + 1) J) number (drop (i + 1) J)) (lines_after J (take (i + 1) J) (number + 1) (drop (i + 1) J))) none

-- an event with a line
pub walk_some : (J : List Event) (number i : ℕ) (x : Event) (line : Line) → i < length J → x ≡ get_or J i x → line_of J number (position (take (i + 1) J)) x ≡ Some line
    → lines_after J (take i J) number (drop i J) ≡ line ∷ lines_after J (take (i + 1) J) (number + 1) (drop (i + 1) J)
walk_some J number i x line below here some =
    walk_step J number i x below here ∙ ap (λ o. with_line o (lines_after J (take (i + 1) J) number (drop (i + 1) J)) (lines_after J (take (i + 1) J) (number + 1) (drop (i + 1) J))) some

-- whether the event may have a line
abbrev pub may_have_line : Event → Bool
may_have_line event = is_funding event || is_booking event

-- only fundings and bookings have lines
pub lined : (J : List Event) (number after : ℕ) (event : Event) (line : Line) → line_of J number after event ≡ Some line → may_have_line event ≡ true
lined J number after (Funded funding) line some = refl
lined J number after (Defunded funding) line some = refl
lined J number after (Booked from id outcome) line some = refl
lined J number after (Taken id to cents stamp) line some = absurd (cc)
lined J number after (Forwarded from id cents deadline) line some = absurd (cc)
lined J number after (Fetched count) line some = absurd (cc)
lined J number after Opened line some = absurd (cc)

line_le : (event : Event) → cond (may_have_line event) 1 0 ≤ cond (is_funding event) 1 0 + cond (is_booking event) 1 0
line_le (Funded funding) = omega arith
line_le (Defunded funding) = omega arith
line_le (Booked from id outcome) = omega arith
line_le (Taken id to cents stamp) = omega arith
line_le (Forwarded from id cents deadline) = omega arith
line_le (Fetched count) = omega arith
line_le Opened = omega arith

-- no front of a sound history has as many lines as 20 bits can number
pub lines_few : (s : HubSettings) (who : ℕ) (J : List Event) (i : ℕ) → IsSettings s → IsSound s who J → count_by may_have_line (take i J) ≤ 140000000
lines_few s who J i lawful sound =
    let front : count_by may_have_line (take i J) ≤ count_by may_have_line J = sum_by-take-le (λ e. cond (may_have_line e) 1 0) J i in
    let both : count_by may_have_line J ≤ sum_by (λ e. cond (is_funding e) 1 0 + cond (is_booking e) 1 0) J = sum_by-le-sum_by _ _ J line_le in
    let parts : sum_by (λ e. cond (is_funding e) 1 0 + cond (is_booking e) 1 0) J ≡ count_by is_funding J + count_by is_booking J = sum_by-both (λ e. cond (is_funding e) 1 0) (λ e. cond (is_booking e) 1 0) J in
    let most : 501 * s.places ≤ 513024 = omega (arith, lawful.places_most) in
    let places : participants s * (501 * s.places) ≤ 256 * 513024 = mul-le-mul lawful.participants_most most in
    omega (
      arith,
      front,
      both,
      parts,
      places,
      fundings_at_most s who J sound,
      submissions_at_most s who J sound,
      forwardings_within s who J sound,
      bookings_within s who J sound,
      lawful.fundings_most,
      lawful.places_most,
    )

pub front_fits : (s : HubSettings) (who : ℕ) (before xs ys : List Event) → FitAfter s who before (xs ++ ys) → FitAfter s who before xs
front_fits s who before [] ys fits = tt
front_fits s who before (x ∷ xs) ys fits = (fits.0, front_fits s who (before ++ x ∷ []) xs ys fits.1)

-- what comes after a front fits it
pub rest_fits : (s : HubSettings) (who : ℕ) (before xs ys : List Event) → FitAfter s who before (xs ++ ys) → FitAfter s who (before ++ xs) ys
rest_fits s who before [] ys fits = subst (λ (f : List Event). FitAfter s who f ys) (sym (append-nil before)) fits
rest_fits s who before (x ∷ xs) ys fits =
    subst (λ (f : List Event). FitAfter s who f ys) (append_assoc before (x ∷ []) xs) (rest_fits s who (before ++ x ∷ []) xs ys fits.1)

-- a front of a sound history is sound
pub sound_front : (s : HubSettings) (who : ℕ) (J : List Event) (i : ℕ) → IsSound s who J → IsSound s who (take i J)
sound_front s who J i sound = front_fits s who [] (take i J) (drop i J) (subst (IsSound s who) (sym (take-append-drop i J)) sound)

-- what a walk keeps: its lines so far and the lines of the rest are all lines, and there are few
pub record Walked (J : List Event) (i : ℕ) (lines : List Line) (all : List Line) : Type 0 where
  pub walked : lines ++ lines_after J (take i J) (length lines + 1) (drop i J) ≡ all
  pub few : length lines ≤ count_by may_have_line (take i J)

few_more : (J : List Event) (i : ℕ) (x : Event) → i < length J → x ≡ get_or J i x → count_by may_have_line (take (i + 1) J) ≡ count_by may_have_line (take i J) + cond (may_have_line x) 1 0
few_more J i x below here =
    ap (count_by may_have_line) (take_more J i x below ∙ ap (λ y. take i J ++ y ∷ []) (sym here)) ∙ sum_by_push (λ e. cond (may_have_line e) 1 0) (take i J) x

pub walked_none : (J : List Event) (i : ℕ) (x : Event) (lines all : List Line) (after : ℕ) → i < length J → x ≡ get_or J i x → after ≡ position (take (i + 1) J)
    → line_of J (length lines + 1) after x ≡ None → Walked J i lines all → Walked J (i + 1) lines all
walked_none J i x lines all after below here after_is none so_far = record {
  walked = ap (λ rest. lines ++ rest) (sym (walk_none J (length lines + 1) i x below here (ap (λ a. line_of J (length lines + 1) a x) (sym after_is) ∙ none))) ∙ so_far.walked;
  few = omega (arith, few_more J i x below here, so_far.few);
}

pub walked_some : (J : List Event) (i : ℕ) (x : Event) (lines all : List Line) (after : ℕ) (line : Line) → i < length J → x ≡ get_or J i x → after ≡ position (take (i + 1) J)
    → line_of J (length lines + 1) after x ≡ Some line → Walked J i lines all → Walked J (i + 1) (lines ++ line ∷ []) all
walked_some J i x lines all after line below here after_is some so_far =
    let long : length (lines ++ line ∷ []) ≡ length lines + 1 = length-append lines (line ∷ []) in
    let has : may_have_line x ≡ true = lined J (length lines + 1) after x line some in
    record {
      walked =
          ap (λ n. (lines ++ line ∷ []) ++ lines_after J (take (i + 1) J) (n + 1) (drop (i + 1) J)) long
          ∙ append_assoc lines (line ∷ []) (lines_after J (take (i + 1) J) (length lines + 1 + 1) (drop (i + 1) J))
          ∙ ap (λ rest. lines ++ rest) (sym (walk_some J (length lines + 1) i x line below here (ap (λ a. line_of J (length lines + 1) a x) (sym after_is) ∙ some)))
          ∙ so_far.walked;
      few = omega (arith, few_more J i x below here, so_far.few, long, ap {B = ℕ} (λ b. cond b 1 0) has);
    }
