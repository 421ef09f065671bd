-- What one more event does to the counts of what came.
use Rattle.std.proofs.Common.{◌≡◌, ◌≢◌, ℕ, ◌+◌, ◌-◌, ◌<◌, ◌≤◌, Bool, true, false, ◌&&◌, ◌==◌, cond, List, [], ◌∷◌, ◌++◌, length, Option, Some, None, is_none, get_or, set, sum_by, count_by, refl, sym, ap, ◌∙◌, arith, ◌⊎◌, inl, inr, subst, get_or-set_same, get_or-set_other, ◌||◌}
use Rattle.std.specs.Cmp.Lexicographic.{same_text as text_same, nat_list_eq_equiv}
use Rattle.std.specs.List.{list_any}
use Rattle.std.proofs.lemmas.Bool.{eq-eqb, ne_eqb, cases_eq, false≢true}
use Rattle.std.proofs.lemmas.List.Sums.{sum_by-cons}
use Rattle.inst_settings.specs.Settings.{HubSettings, same_text}
use Rattle.inst_command.specs.declared.outcome.Outcome.{Outcome}
use Rattle.inst_journal.specs.declared.event.Event.{Event}
use Rattle.inst_journal.specs.declared.event.Event.TheVariants.{Funded, Defunded, Taken, Forwarded, Booked, Fetched, Opened}
use Rattle.inst_journal.specs.Booked.{or_else, forwards, is_forwarded, books, booked}
use Rattle.inst_journal.specs.Opened.{is_opening, carried, forwards_live, live_forwarded}
use Rattle.inst_journal.specs.Sound.{Fits, IsSound}
use Rattle.inst_journal.proofs.EventsCarriedOverOpening.{carried_opened, carried_unbooked}
use Rattle.inst_journal.proofs.CountsOfEvents.{count_push, forwarded_step}
use Rattle.inst_journal.proofs.KeyOnce.{forwarded_once}
use Rattle.inst_journal.proofs.PlacesOfTakenAmounts.{sum_same}
use Rattle.inst_journal.proofs.OneMoreElement.{first_some_push, sum_by-both, or_else-none}
use Rattle.inst_journal.proofs.WalkOverFronts.{front_fits}
use Rattle.inst_ledger.specs.Book.{LedgerBook, ledger_with_event}
use Rattle.inst_ledger.proofs.ForwardedTransfers.{unforwarded_unbooked}
use Rattle.inst_books.specs.declared.tally.LiveCounts.{LiveCounts}
use Rattle.inst_books.specs.Tally.{waiting_from, IsTally}

abbrev one_if : Bool → ℕ
one_if b = cond b 1 0

-- what passes a test is counted
one_counted : (p : Event → Bool) (J : List Event) → list_any p J ≡ true → 1 ≤ count_by p J
one_counted p [] none = absurd (false≢true none)
one_counted p (x ∷ J) any = by (p x) refl (λ rest. one_counted p J rest)
  where
    step : count_by p (x ∷ J) ≡ one_if (p x) + count_by p J
    step = sum_by-cons (λ e. one_if (p e)) x J

    by : (b : Bool) → p x ≡ b → (list_any p J ≡ true → 1 ≤ count_by p J) → 1 ≤ count_by p (x ∷ J)
    by true here later = omega (arith, step, ap one_if here)
    by false not_here later = omega (arith, step, later (sym (ap (λ b. b || list_any p J) not_here) ∙ any))

-- an event that books nothing of this originator leaves what waits for an outcome
module _ (from : ℕ) (J : List Event) (new : Event) (quiet : (id : List ℕ) → books from id new ≡ None) where
  quiet_booked : (id : List ℕ) → booked from id (J ++ new ∷ []) ≡ booked from id J
  quiet_booked id = first_some_push (books from id) J new ∙ ap (or_else (booked from id J)) (quiet id) ∙ or_else-none (booked from id J)

  same_waiting : (event : Event) → one_if (forwards_live from (J ++ new ∷ []) event) ≡ one_if (forwards_live from J event)
  same_waiting (Forwarded other id cents deadline) = ap (λ o. one_if ((other == from) && is_none o)) (quiet_booked id)
  same_waiting (Taken id to cents stamp) = refl
  same_waiting (Funded funding) = refl
  same_waiting (Defunded funding) = refl
  same_waiting (Booked other id outcome) = refl
  same_waiting (Fetched count) = refl
  same_waiting Opened = refl

  pub quiet_waiting : waiting_from from (J ++ new ∷ []) ≡ waiting_from from J + cond (forwards_live from J new) 1 0
  quiet_waiting =
      count_push (forwards_live from (J ++ new ∷ [])) J new
      ∙ ap (λ n. n + cond (forwards_live from (J ++ new ∷ []) new) 1 0) (sum_same _ _ J same_waiting)
      ∙ ap (λ n. waiting_from from J + n) (same_waiting new)

-- the outcome of a transfer that came is booked
module _ (s : HubSettings) (who from : ℕ) (J : List Event) (id : List ℕ) (outcome : Outcome) (sound : IsSound s who J) (came : is_forwarded from id J ≡ true) (fits : booked from id J ≡ None) where
  abbrev new : Event
  new = Booked from id outcome

  abbrev pick : Bool → Option Outcome
  pick b = cond b (Some outcome) None

  after : (other : List ℕ) → booked from other (J ++ new ∷ []) ≡ or_else (booked from other J) (pick (same_text other id))
  after other =
      first_some_push (books from other) J new
      ∙ ap (λ b. or_else (booked from other J) (pick (b && same_text id other))) (eq-eqb from from refl)
      ∙ ap (λ b. or_else (booked from other J) (pick b)) (nat_list_eq_equiv.symm id other)

  waited_at : (o : Option Outcome) (b : Bool) → (b ≡ true → o ≡ None) → one_if (is_none o) ≡ one_if (is_none (or_else o (pick b))) + one_if b
  waited_at o true none = rw (none refl) (omega arith)
  waited_at o false none = rw (or_else-none o) (omega arith)

  none_at : (other : List ℕ) → same_text other id ≡ true → booked from other J ≡ None
  none_at other same = ap (λ (i : List ℕ). booked from i J) (text_same other id (sym same)) ∙ fits

  of_one : (mine : Bool) (other : List ℕ) → one_if (mine && is_none (booked from other J)) ≡ one_if (mine && is_none (booked from other (J ++ new ∷ []))) + one_if (mine && same_text other id)
  of_one false other = refl
  of_one true other =
      waited_at (booked from other J) (same_text other id) (none_at other)
      ∙ ap (λ o. one_if (is_none o) + one_if (same_text other id)) (sym (after other))

  waited : (event : Event) → one_if (forwards_live from J event) ≡ one_if (forwards_live from (J ++ new ∷ []) event) + one_if (forwards from id event)
  waited (Forwarded other_from other cents deadline) = of_one (other_from == from) other
  waited (Taken other to cents stamp) = refl
  waited (Funded funding) = refl
  waited (Defunded funding) = refl
  waited (Booked other_from other o) = refl
  waited (Fetched count) = refl
  waited Opened = refl

  pub one_less : waiting_from from J ≡ waiting_from from (J ++ new ∷ []) + 1
  one_less =
      let pushed : waiting_from from (J ++ new ∷ []) ≡ count_by (forwards_live from (J ++ new ∷ [])) J + 0 = count_push (forwards_live from (J ++ new ∷ [])) J new in
      let same : waiting_from from J ≡ sum_by (λ e. one_if (forwards_live from (J ++ new ∷ []) e) + one_if (forwards from id e)) J = sum_same _ _ J waited in
      let both : sum_by (λ e. one_if (forwards_live from (J ++ new ∷ []) e) + one_if (forwards from id e)) J ≡ count_by (forwards_live from (J ++ new ∷ [])) J + count_by (forwards from id) J =
      sum_by-both (λ e. one_if (forwards_live from (J ++ new ∷ []) e)) (λ e. one_if (forwards from id e)) J in
      omega (arith, pushed, same, both, forwarded_once s who from id J sound, one_counted (forwards from id) J came)

-- an event that neither brings nor books anything of another's, and opens nothing
pub as_before : (who : ℕ) (J : List Event) (event : Event) (t : LiveCounts) → is_opening event ≡ false → ((from : ℕ) → from ≢ who → (id : List ℕ) → books from id event ≡ None)
    → ((from : ℕ) (C : List Event) → forwards_live from C event ≡ false) → IsTally who J t → IsTally who (J ++ event ∷ []) t
as_before who J event t other quiet brings_none is = record {
  live = λ from below another. omega (arith, is.live from below another, forwarded_step from J event other, ap {B = ℕ} (λ b. cond b 1 0) (brings_none from (carried J)));
  waiting = λ from below another. omega (arith, is.waiting from below another, quiet_waiting from J event (quiet from another), ap {B = ℕ} (λ b. cond b 1 0) (brings_none from J));
  opened = omega (arith, is.opened, count_push is_opening J event, ap {B = ℕ} (λ b. cond b 1 0) other);
}

-- the participant's own transfer is booked
pub own_booked : (who : ℕ) (J : List Event) (id : List ℕ) (outcome : Outcome) (t : LiveCounts) → IsTally who J t → IsTally who (J ++ Booked who id outcome ∷ []) t
own_booked who J id outcome t is =
    as_before who J (Booked who id outcome) t refl
    (λ from another other. ap (λ b. cond {A = Option Outcome} (b && same_text id other) (Some outcome) None) (ne_eqb who from (λ same. another (sym same))))
    (λ from C. refl) is

module _ (s : HubSettings) (who : ℕ) (J : List Event) (t u : LiveCounts) (sound : IsSound s who J) (is : IsTally who J t) where
  -- a transfer comes
  pub one_came : (from : ℕ) (id : List ℕ) (cents deadline : ℕ) → length t.live ≡ 256 → length t.waiting ≡ 256 → Fits s who J (Forwarded from id cents deadline)
      → u.live ≡ set t.live from (get_or t.live from 0 + 1) → u.waiting ≡ set t.waiting from (get_or t.waiting from 0 + 1) → u.openings ≡ t.openings → IsTally who (J ++ Forwarded from id cents deadline ∷ []) u
  one_came from id cents deadline long wide fits live waiting opened = record {
    live = λ q below another. at_live q below another (cases_eq from q);
    waiting = λ q below another. at_waiting q below another (cases_eq from q);
    opened = omega (arith, opened, is.opened, count_push is_opening J event);
  }
    where
      event : Event
      event = Forwarded from id cents deadline

      none : booked from id J ≡ None
      none = unforwarded_unbooked s who (from, id) fits.another J sound fits.new

      comes : (C : List Event) → booked from id C ≡ None → (q : ℕ) → from ≡ q → one_if (forwards_live q C event) ≡ 1
      comes C unbooked q same = rw (eq-eqb from q same, ap (λ (f : ℕ). booked f id C) (sym same) ∙ unbooked) refl

      comes_not : (C : List Event) (q : ℕ) → from ≢ q → one_if (forwards_live q C event) ≡ 0
      comes_not C q other = rw (ne_eqb from q other) refl

      at_live : (q : ℕ) → q < 256 → q ≢ who → (from ≡ q) ⊎ (from ≢ q) → get_or u.live q 0 ≡ live_forwarded q (J ++ event ∷ [])
      at_live q below another (inl same) =
          let inside : from < length t.live = omega (arith, below, same, long) in
          let put : get_or u.live q 0 ≡ get_or t.live from 0 + 1 =
          ap (λ (l : List ℕ). get_or l q 0) live ∙ ap (λ (n : ℕ). get_or (set t.live from (get_or t.live from 0 + 1)) n 0) (sym same) ∙ get_or-set_same t.live from (get_or t.live from 0 + 1) 0 inside in
          omega (arith, put, ap (λ (n : ℕ). get_or t.live n 0) same, is.live q below another, forwarded_step q J event refl, comes (carried J) (carried_unbooked from id J none) q same)
      at_live q below another (inr other) =
          let kept : get_or u.live q 0 ≡ get_or t.live q 0 = ap (λ (l : List ℕ). get_or l q 0) live ∙ get_or-set_other t.live from q (get_or t.live from 0 + 1) 0 (λ same. other (sym same)) in
          omega (arith, kept, is.live q below another, forwarded_step q J event refl, comes_not (carried J) q other)

      at_waiting : (q : ℕ) → q < 256 → q ≢ who → (from ≡ q) ⊎ (from ≢ q) → get_or u.waiting q 0 ≡ waiting_from q (J ++ event ∷ [])
      at_waiting q below another (inl same) =
          let inside : from < length t.waiting = omega (arith, below, same, wide) in
          let put : get_or u.waiting q 0 ≡ get_or t.waiting from 0 + 1 =
          ap (λ (l : List ℕ). get_or l q 0) waiting ∙ ap (λ (n : ℕ). get_or (set t.waiting from (get_or t.waiting from 0 + 1)) n 0) (sym same) ∙ get_or-set_same t.waiting from (get_or t.waiting from 0 + 1) 0 inside in
          omega (arith, put, ap (λ (n : ℕ). get_or t.waiting n 0) same, is.waiting q below another, quiet_waiting q J event (λ other. refl), comes J none q same)
      at_waiting q below another (inr other) =
          let kept : get_or u.waiting q 0 ≡ get_or t.waiting q 0 = ap (λ (l : List ℕ). get_or l q 0) waiting ∙ get_or-set_other t.waiting from q (get_or t.waiting from 0 + 1) 0 (λ same. other (sym same)) in
          omega (arith, kept, is.waiting q below another, quiet_waiting q J event (λ other. refl), comes_not J q other)

  -- who books another's transfer has got it
  has_come : (from : ℕ) (id : List ℕ) (outcome : Outcome) → from ≢ who → Fits s who J (Booked from id outcome) → is_forwarded from id J ≡ true
  has_come from id outcome another fits = elim fits.party [ inl own ↦ absurd (another own.0) | inr came ↦ came ]

  pub some_wait : (from : ℕ) (id : List ℕ) (outcome : Outcome) → from < 256 → from ≢ who → Fits s who J (Booked from id outcome) → 1 ≤ get_or t.waiting from 0
  some_wait from id outcome below another fits = omega (arith, is.waiting from below another, one_less s who from J id outcome sound (has_come from id outcome another fits) fits.new)

  -- the outcome of another's transfer is booked
  pub one_booked : (from : ℕ) (id : List ℕ) (outcome : Outcome) → length t.waiting ≡ 256 → from ≢ who → Fits s who J (Booked from id outcome)
      → u.live ≡ t.live → u.waiting ≡ set t.waiting from (get_or t.waiting from 0 - 1) → u.openings ≡ t.openings → IsTally who (J ++ Booked from id outcome ∷ []) u
  one_booked from id outcome wide others fits live waiting opened = record {
    live = λ q below another. omega (arith, ap (λ (l : List ℕ). get_or l q 0) live, is.live q below another, forwarded_step q J event refl);
    waiting = λ q below another. at_waiting q below another (cases_eq from q);
    opened = omega (arith, opened, is.opened, count_push is_opening J event);
  }
    where
      event : Event
      event = Booked from id outcome

      at_waiting : (q : ℕ) → q < 256 → q ≢ who → (from ≡ q) ⊎ (from ≢ q) → get_or u.waiting q 0 ≡ waiting_from q (J ++ event ∷ [])
      at_waiting q below another (inl same) =
          let inside : from < length t.waiting = omega (arith, below, same, wide) in
          let put : get_or u.waiting q 0 ≡ get_or t.waiting from 0 - 1 =
          ap (λ (l : List ℕ). get_or l q 0) waiting ∙ ap (λ (n : ℕ). get_or (set t.waiting from (get_or t.waiting from 0 - 1)) n 0) (sym same) ∙ get_or-set_same t.waiting from (get_or t.waiting from 0 - 1) 0 inside in
          omega (
            arith,
            put,
            ap (λ (n : ℕ). get_or t.waiting n 0) same,
            is.waiting q below another,
            one_less s who from J id outcome sound (has_come from id outcome others fits) fits.new,
            ap (λ (n : ℕ). waiting_from n J) same,
            ap (λ (n : ℕ). waiting_from n (J ++ event ∷ [])) same,
          )
      at_waiting q below another (inr other) =
          let kept : get_or u.waiting q 0 ≡ get_or t.waiting q 0 = ap (λ (l : List ℕ). get_or l q 0) waiting ∙ get_or-set_other t.waiting from q (get_or t.waiting from 0 - 1) 0 (λ same. other (sym same)) in
          let quiet : (i : List ℕ) → books q i event ≡ None = λ i. ap (λ b. cond {A = Option Outcome} (b && same_text id i) (Some outcome) None) (ne_eqb from q other) in
          omega (arith, kept, is.waiting q below another, quiet_waiting q J event quiet)

  -- the hub is opened
  pub begun : u.live ≡ t.waiting → u.waiting ≡ t.waiting → u.openings ≡ t.openings + 1 → IsTally who (J ++ Opened ∷ []) u
  begun live waiting opened = record {
    live = λ q below another. ap (λ (l : List ℕ). get_or l q 0) live ∙ is.waiting q below another ∙ sym (now_live q);
    waiting = λ q below another. ap (λ (l : List ℕ). get_or l q 0) waiting ∙ is.waiting q below another ∙ sym (still_waiting q);
    opened = omega (arith, opened, is.opened, count_push is_opening J Opened);
  }
    where
      still_waiting : (q : ℕ) → waiting_from q (J ++ Opened ∷ []) ≡ waiting_from q J
      still_waiting q = omega (arith, quiet_waiting q J Opened (λ id. refl))

      now_live : (q : ℕ) → live_forwarded q (J ++ Opened ∷ []) ≡ waiting_from q J
      now_live q = ap (λ C. count_by (forwards_live q C) (J ++ Opened ∷ [])) (carried_opened J) ∙ still_waiting q

-- the counts, after the ledger has kept an event
pub after_keeping : (b c : LedgerBook) (event known : Event) (t : LiveCounts) → c ≡ ledger_with_event b event → event ≡ known → IsTally b.who (b.events ++ known ∷ []) t → IsTally c.who c.events t
after_keeping b c event known t kept is tally =
    subst (λ (b : LedgerBook). IsTally b.who b.events t) (sym kept) (subst (λ (e : Event). IsTally b.who (b.events ++ e ∷ []) t) (sym is) tally)

-- what fitted the book that was seen fits the one within
pub fits_within : (b seen : LedgerBook) (event known : Event) → b ≡ seen → event ≡ known → Fits seen.settings seen.who seen.events event → Fits b.settings b.who b.events known
fits_within b seen event known same is fits =
    subst (λ (e : Event). Fits b.settings b.who b.events e) is (subst (λ (b : LedgerBook). Fits b.settings b.who b.events event) (sym same) fits)

-- a history is sound before its last event
pub sound_before : (b c : LedgerBook) (event : Event) → c ≡ ledger_with_event b event → IsSound c.settings c.who c.events → IsSound b.settings b.who b.events
sound_before b c event kept sound =
    front_fits b.settings b.who [] b.events (event ∷ []) (subst (λ (b : LedgerBook). IsSound b.settings b.who b.events) kept sound)

-- the event neither brings nor books a transfer, and opens nothing
abbrev pub IsQuiet : Event → Type 0
IsQuiet (Funded funding) = Unit {0}
IsQuiet (Defunded funding) = Unit {0}
IsQuiet (Taken id to cents stamp) = Unit {0}
IsQuiet (Forwarded from id cents deadline) = ⊥
IsQuiet (Booked from id outcome) = ⊥
IsQuiet (Fetched count) = Unit {0}
IsQuiet Opened = ⊥

pub quiet_one : (who : ℕ) (J : List Event) (event : Event) (t : LiveCounts) → IsQuiet event → IsTally who J t → IsTally who (J ++ event ∷ []) t
quiet_one who J (Funded funding) t quiet is = as_before who J (Funded funding) t refl (λ from another id. refl) (λ from C. refl) is
quiet_one who J (Defunded funding) t quiet is = as_before who J (Defunded funding) t refl (λ from another id. refl) (λ from C. refl) is
quiet_one who J (Taken id to cents stamp) t quiet is = as_before who J (Taken id to cents stamp) t refl (λ from another other. refl) (λ from C. refl) is
quiet_one who J (Fetched count) t quiet is = as_before who J (Fetched count) t refl (λ from another id. refl) (λ from C. refl) is
quiet_one who J (Forwarded from id cents deadline) t quiet is = absurd quiet
quiet_one who J (Booked from id outcome) t quiet is = absurd quiet
quiet_one who J Opened t quiet is = absurd quiet
