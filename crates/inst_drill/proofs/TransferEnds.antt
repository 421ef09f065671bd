-- How transfers ended, counted event by event.
use Rattle.std.proofs.Common.{◌≡◌, ℕ, ◌+◌, ◌≤◌, Bool, true, false, cond, if◌then◌else◌, List, [], ◌∷◌, ◌++◌, take, refl, sym, ap, subst, ◌∙◌, arith}
use Rattle.std.specs.List.{count_by}
use Rattle.inst_command.specs.declared.outcome.Outcome.{Outcome}
use Rattle.inst_command.specs.declared.outcome.Outcome.TheVariants.{Accepted, Rejected, TimedOut}
use Rattle.inst_journal.specs.declared.event.Event.{Event}
use Rattle.inst_journal.specs.declared.event.Event.TheVariants.{Funded, Defunded, Taken, Forwarded, Booked, Fetched, Opened}
use Rattle.inst_journal.specs.Opened.{is_opening, current}
use Rattle.inst_journal.proofs.EventsCarriedOverOpening.{current_push, current_opened}
use Rattle.inst_journal.proofs.CountsOfEvents.{count_push}
use Rattle.inst_drill.specs.Report.{books_end, ended}
use Rattle.inst_drill.specs.inner.Report.{counted_after}

-- of the first i events so many book an acceptance since the last opening, and so many a time-out
pub record Counted (events : List Event) (i a t : ℕ) : Type 0 where
  pub accepted : a ≡ ended Accepted (take i events)
  pub timed_out : t ≡ ended TimedOut (take i events)
  pub enough : a + t ≤ i

opened_again : (outcome : Outcome) (J : List Event) (event : Event) → is_opening event ≡ true → ended outcome (J ++ event ∷ []) ≡ 0
opened_again outcome J Opened is = ap (count_by (books_end outcome)) (current_opened J)
opened_again outcome J (Funded funding) is = absurd (cc)
opened_again outcome J (Defunded funding) is = absurd (cc)
opened_again outcome J (Taken id to cents stamp) is = absurd (cc)
opened_again outcome J (Forwarded from id cents d) is = absurd (cc)
opened_again outcome J (Booked from id o) is = absurd (cc)
opened_again outcome J (Fetched count) is = absurd (cc)

one_more : (outcome : Outcome) (J : List Event) (event : Event) → is_opening event ≡ false → ended outcome (J ++ event ∷ []) ≡ ended outcome J + cond (books_end outcome event) 1 0
one_more outcome J event other = ap (count_by (books_end outcome)) (current_push J event other) ∙ count_push (books_end outcome) (current J) event

not_both : (event : Event) → books_end Accepted event ≡ true → books_end TimedOut event ≡ false
not_both (Booked from id Accepted) is = refl
not_both (Booked from id (Rejected reason)) is = refl
not_both (Booked from id TimedOut) is = absurd (cc)
not_both (Funded funding) is = refl
not_both (Defunded funding) is = refl
not_both (Taken id to cents stamp) is = refl
not_both (Forwarded from id cents d) is = refl
not_both (Fetched count) is = refl
not_both Opened is = refl

module _ (events : List Event) (i a t : ℕ) (event : Event) (before : Counted events i a t) (more : take (i + 1) events ≡ take i events ++ event ∷ []) where
  pub after_opening : is_opening event ≡ true → Counted events (i + 1) 0 0
  after_opening is = record {
    accepted = sym (ap (ended Accepted) more ∙ opened_again Accepted (take i events) event is);
    timed_out = sym (ap (ended TimedOut) more ∙ opened_again TimedOut (take i events) event is);
    enough = omega arith;
  }

  counts : (outcome : Outcome) (n : ℕ) (so : Bool) → is_opening event ≡ false → n ≡ ended outcome (take i events) → books_end outcome event ≡ so → n + cond so 1 0 ≡ ended outcome (take (i + 1) events)
  counts outcome n so other is ends =
      sym (ap (ended outcome) more ∙ one_more outcome (take i events) event other ∙ ap (λ (b : Bool). ended outcome (take i events) + cond b 1 0) ends ∙ ap (λ (m : ℕ). m + cond so 1 0) (sym is))

  pub one_accepted : is_opening event ≡ false → books_end Accepted event ≡ true → Counted events (i + 1) (a + 1) t
  one_accepted other is = record {
    accepted = counts Accepted a true other before.accepted is;
    timed_out = (let none = counts TimedOut t false other before.timed_out (not_both event is) in omega (arith, none));
    enough = (let b = before.enough in omega (arith, b));
  }

  pub one_timed_out : is_opening event ≡ false → books_end Accepted event ≡ false → books_end TimedOut event ≡ true → Counted events (i + 1) a (t + 1)
  one_timed_out other unlike is = record {
    accepted = (let none = counts Accepted a false other before.accepted unlike in omega (arith, none));
    timed_out = counts TimedOut t true other before.timed_out is;
    enough = (let b = before.enough in omega (arith, b));
  }

  pub one_neither : is_opening event ≡ false → books_end Accepted event ≡ false → books_end TimedOut event ≡ false → Counted events (i + 1) a t
  one_neither other unlike neither = record {
    accepted = (let none = counts Accepted a false other before.accepted unlike in omega (arith, none));
    timed_out = (let none = counts TimedOut t false other before.timed_out neither in omega (arith, none));
    enough = (let b = before.enough in omega (arith, b));
  }

abbrev AreCounts : List Event → ℕ → ℕ × ℕ → Type 0
AreCounts events i counts = Counted events i counts.0 counts.1

-- one event more
pub one_more_counted : (events : List Event) (i a t : ℕ) (event : Event) (counts : ℕ × ℕ) → Counted events i a t → take (i + 1) events ≡ take i events ++ event ∷ [] → counts ≡ counted_after event a t → Counted events (i + 1) counts.0 counts.1
one_more_counted events i a t event counts before more is =
    subst (AreCounts events (i + 1)) (sym is) (by_opening (is_opening event) refl) where
      by_time_out : (so : Bool) → books_end TimedOut event ≡ so → is_opening event ≡ false → books_end Accepted event ≡ false → AreCounts events (i + 1) (if so then (a, t + 1) else (a, t))
      by_time_out true at other unlike = one_timed_out events i a t event before more other unlike at
      by_time_out false at other unlike = one_neither events i a t event before more other unlike at

      by_acceptance : (so : Bool) → books_end Accepted event ≡ so → is_opening event ≡ false → AreCounts events (i + 1) (if so then (a + 1, t) else (if books_end TimedOut event then (a, t + 1) else (a, t)))
      by_acceptance true at other = one_accepted events i a t event before more other at
      by_acceptance false at other = by_time_out (books_end TimedOut event) refl other at

      by_opening : (so : Bool) → is_opening event ≡ so
          → AreCounts events (i + 1) (if so then (0, 0) else (if books_end Accepted event then (a + 1, t) else (if books_end TimedOut event then (a, t + 1) else (a, t))))
      by_opening true at = after_opening events i a t event before more at
      by_opening false at = by_acceptance (books_end Accepted event) refl at
