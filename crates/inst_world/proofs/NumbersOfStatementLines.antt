-- How far the lines of a statement are numbered: no further than a participant's fundings and the live transfers to and
-- from it go.
use Rattle.std.proofs.Common.{◌≡◌, ℕ, zero, suc, ◌+◌, ◌*◌, ◌≤◌, Bool, true, false, cond, ◌&&◌, ◌==◌, nat_lt, List, [], ◌∷◌, ◌++◌, length, Option, Some, None, is_none, sum_by, count_by, refl, sym, ap, ◌∙◌, arith, inl, inr, ◌⊎◌}
use Rattle.std.specs.List.{list_any, list_all}
use Rattle.std.proofs.lemmas.Bool.{false≢true, le-ltb, and_parts, eqb-true, cases_Bool, cases_eq}
use Rattle.std.proofs.lemmas.Bool.Decides.{nat_tests}
use Rattle.std.proofs.lemmas.List.Sums.{sum_by-cons, sum_by-le-sum_by}
use Rattle.std.proofs.Math.Nat.{mul-le-mul}
use Rattle.std.specs.Cmp.Lexicographic.{same_text as text_same}
use Rattle.inst_settings.specs.Settings.{HubSettings, participants, is_participant, same_text}
use Rattle.inst_settings.specs.Lawful.{IsSettings}
use Rattle.inst_command.specs.declared.line.Line.{Line}
use Rattle.inst_command.specs.declared.outcome.Outcome.{Outcome}
use Rattle.inst_journal.specs.declared.event.Event.{Event}
use Rattle.inst_journal.specs.declared.event.Event.TheVariants.{Funded, Defunded, Taken, Forwarded, Booked, Fetched, Opened}
use Rattle.inst_journal.specs.Booked.{or_else, takes, forwards, books, booked, is_taken, is_forwarded}
use Rattle.inst_journal.specs.Keys.{is_funding}
use Rattle.inst_journal.specs.Money.{position}
use Rattle.inst_journal.specs.Opened.{is_opening, carried, current, takes_live, forwards_live, live_forwarded}
use Rattle.inst_journal.specs.Sound.{Fits, IsSound}
use Rattle.inst_journal.specs.Statement.{line_of, with_line, lines_after, statement}
use Rattle.inst_journal.proofs.EventsCarriedOverOpening.{carried_push, carried_opened, carried_unbooked, current_push, current_opened}
use Rattle.inst_journal.proofs.CountsOfEvents.{count_push, fundings_within, submissions_within, forwarded_within, suc_times}
use Rattle.inst_journal.proofs.OneMoreElement.{first_some_push, sum_by-both}
use Rattle.inst_journal.proofs.Soundness.{sound_induction}
use Rattle.inst_model.proofs.TextsTestsAndFirstThings.{same_transfer_refl}

-- whether the event books an outcome
abbrev pub is_booking : Event → Bool
is_booking (Booked from id outcome) = true
is_booking _ = false

-- whether the event takes or forwards a transfer that these events haven't booked
abbrev pub is_open : ℕ → List Event → Event → Bool
is_open who booking (Taken id to cents stamp) = is_none (booked who id booking)
is_open who booking (Forwarded from id cents deadline) = is_none (booked from id booking)
is_open who booking _ = false

-- what was booked since the last opening and what is live and unbooked are live together
abbrev pub BookedAreLive : ℕ → List Event → Type 0
BookedAreLive who J = count_by is_booking (current J) + count_by (is_open who J) J ≤ count_by (is_open who (carried J)) J

unbooked_le : (before after : Option Outcome) → (before ≡ None → after ≡ None) → cond (is_none before) 1 0 ≤ cond (is_none after) 1 0
unbooked_le None after leads = rw (leads refl) (omega arith)
unbooked_le (Some o) after leads = omega arith

-- what is open now was so at the last opening
open_carried : (who : ℕ) (J : List Event) (event : Event) → cond (is_open who J event) 1 0 ≤ cond (is_open who (carried J) event) 1 0
open_carried who J (Taken id to cents stamp) = unbooked_le (booked who id J) (booked who id (carried J)) (carried_unbooked who id J)
open_carried who J (Forwarded from id cents deadline) = unbooked_le (booked from id J) (booked from id (carried J)) (carried_unbooked from id J)
open_carried who J (Funded funding) = omega arith
open_carried who J (Defunded funding) = omega arith
open_carried who J (Booked from id o) = omega arith
open_carried who J (Fetched count) = omega arith
open_carried who J Opened = omega arith

-- the test says the same of all
count_same : (p q : Event → Bool) (J : List Event) → ((e : Event) → p e ≡ q e) → count_by p J ≡ count_by q J
count_same p q [] same = refl
count_same p q (e ∷ J) same =
    let head : cond (p e) 1 0 ≡ cond (q e) 1 0 = ap {B = ℕ} (λ b. cond b 1 0) (same e) in
    omega (arith, sum_by-cons (λ x. cond (p x) 1 0) e J, sum_by-cons (λ x. cond (q x) 1 0) e J, count_same p q J same, head)

or_none : (o : Option Outcome) → or_else o None ≡ o
or_none None = refl
or_none (Some x) = refl

-- an event that books nothing leaves open what is
still_open : (who : ℕ) (J : List Event) (event : Event) → ((from : ℕ) (id : List ℕ) → books from id event ≡ None) → (e : Event) → is_open who (J ++ event ∷ []) e ≡ is_open who J e
still_open who J event none e = go e
  where
    same : (from : ℕ) (id : List ℕ) → booked from id (J ++ event ∷ []) ≡ booked from id J
    same from id = first_some_push (books from id) J event ∙ ap (or_else (booked from id J)) (none from id) ∙ or_none (booked from id J)

    go : (e : Event) → is_open who (J ++ event ∷ []) e ≡ is_open who J e
    go (Taken id to cents stamp) = ap is_none (same who id)
    go (Forwarded from id cents deadline) = ap is_none (same from id)
    go (Funded funding) = refl
    go (Defunded funding) = refl
    go (Booked from id o) = refl
    go (Fetched count) = refl
    go Opened = refl

other_push : (who : ℕ) (J : List Event) (event : Event) → is_opening event ≡ false → is_booking event ≡ false → ((from : ℕ) (id : List ℕ) → books from id event ≡ None) → BookedAreLive who J → BookedAreLive who (J ++ event ∷ [])
other_push who J event other no_booking none before =
    let bookings : count_by is_booking (current (J ++ event ∷ [])) ≡ count_by is_booking (current J) + 0 =
    ap (count_by is_booking) (current_push J event other) ∙ count_push is_booking (current J) event ∙ ap (λ b. count_by is_booking (current J) + cond b 1 0) no_booking in
    let now : count_by (is_open who (J ++ event ∷ [])) (J ++ event ∷ []) ≡ count_by (is_open who J) J + cond (is_open who J event) 1 0 =
    count_same (is_open who (J ++ event ∷ [])) (is_open who J) (J ++ event ∷ []) (still_open who J event none) ∙ count_push (is_open who J) J event in
    let live : count_by (is_open who (carried (J ++ event ∷ []))) (J ++ event ∷ []) ≡ count_by (is_open who (carried J)) J + cond (is_open who (carried J) event) 1 0 =
    ap (λ C. count_by (is_open who C) (J ++ event ∷ [])) (carried_push J event other) ∙ count_push (is_open who (carried J)) J event in
    omega (arith, bookings, now, live, open_carried who J event, before)

opened_push : (who : ℕ) (J : List Event) → BookedAreLive who (J ++ Opened ∷ [])
opened_push who J =
    let none : count_by is_booking (current (J ++ Opened ∷ [])) ≡ 0 = ap (count_by is_booking) (current_opened J) in
    let same : count_by (is_open who (carried (J ++ Opened ∷ []))) (J ++ Opened ∷ []) ≡ count_by (is_open who (J ++ Opened ∷ [])) (J ++ Opened ∷ []) =
    ap (λ C. count_by (is_open who C) (J ++ Opened ∷ [])) (carried_opened J) in
    omega (arith, none, same)

-- one that passes r passes q no more
fewer : (p q r : Event → Bool) (J : List Event) → ((e : Event) → cond (q e) 1 0 ≤ cond (p e) 1 0) → ((e : Event) → r e ≡ true → (p e ≡ true) × (q e ≡ false)) → list_any r J ≡ true → count_by q J + 1 ≤ count_by p J
fewer p q r [] le one e = absurd (false≢true e)
fewer p q r (x ∷ J) le one e = elim (cases_Bool (r x)) [
  | inl here ↦
      let is = one x here in
      let out : cond (q x) 1 0 ≡ 0 = ap {B = ℕ} (λ b. cond b 1 0) is.1 in
      let in_it : cond (p x) 1 0 ≡ 1 = ap {B = ℕ} (λ b. cond b 1 0) is.0 in
      let rest : count_by q J ≤ count_by p J = sum_by-le-sum_by _ _ J le in
      omega (arith, sum_by-cons (λ z. cond (p z) 1 0) x J, sum_by-cons (λ z. cond (q z) 1 0) x J, out, in_it, rest)
  | inr away ↦
      let later : list_any r J ≡ true = rw away at e in
      omega (arith, sum_by-cons (λ z. cond (p z) 1 0) x J, sum_by-cons (λ z. cond (q z) 1 0) x J, le x, fewer p q r J le one later)
]

-- a booking closes what it books
module _ (who : ℕ) (J : List Event) (from : ℕ) (id : List ℕ) (o : Outcome) (new : booked from id J ≡ None) where
  abbrev K : List Event
  K = J ++ Booked from id o ∷ []

  pushed : (f : ℕ) (i : List ℕ) → booked f i K ≡ or_else (booked f i J) (books f i (Booked from id o))
  pushed f i = first_some_push (books f i) J (Booked from id o)

  front_none : (a b : Option Outcome) → or_else a b ≡ None → a ≡ None
  front_none None b e = refl
  front_none (Some x) b e = e

  closes : (e : Event) → cond (is_open who K e) 1 0 ≤ cond (is_open who J e) 1 0
  closes (Taken i to cents stamp) = unbooked_le (booked who i K) (booked who i J) (λ e. front_none (booked who i J) (books who i (Booked from id o)) (sym (pushed who i) ∙ e))
  closes (Forwarded f i cents deadline) = unbooked_le (booked f i K) (booked f i J) (λ e. front_none (booked f i J) (books f i (Booked from id o)) (sym (pushed f i) ∙ e))
  closes (Funded funding) = omega arith
  closes (Defunded funding) = omega arith
  closes (Booked f i x) = omega arith
  closes (Fetched count) = omega arith
  closes Opened = omega arith

  now_booked : booked from id K ≡ Some o
  now_booked = pushed from id ∙ ap (λ b. or_else b (books from id (Booked from id o))) new ∙ ap (λ b. cond b (Some o) None) (same_transfer_refl from id)

  taken_here : from ≡ who → (e : Event) → takes id e ≡ true → (is_open who J e ≡ true) × (is_open who K e ≡ false)
  taken_here own (Taken i to cents stamp) e =
      let same : i ≡ id = text_same i id (sym e) in (
        rw (same, sym own, new) refl,
        rw (same, sym own, now_booked) refl,
      )
  taken_here own (Forwarded f i cents deadline) e = absurd (false≢true e)
  taken_here own (Funded funding) e = absurd (false≢true e)
  taken_here own (Defunded funding) e = absurd (false≢true e)
  taken_here own (Booked f i x) e = absurd (false≢true e)
  taken_here own (Fetched count) e = absurd (false≢true e)
  taken_here own Opened e = absurd (false≢true e)

  forwarded_here : (e : Event) → forwards from id e ≡ true → (is_open who J e ≡ true) × (is_open who K e ≡ false)
  forwarded_here (Forwarded f i cents deadline) e =
      let parts = and_parts (f == from) (same_text i id) e in
      let owner : f ≡ from = eqb-true f from parts.0 in
      let same : i ≡ id = text_same i id (sym parts.1) in (
        rw (same, owner, new) refl,
        rw (same, owner, now_booked) refl,
      )
  forwarded_here (Taken i to cents stamp) e = absurd (false≢true e)
  forwarded_here (Funded funding) e = absurd (false≢true e)
  forwarded_here (Defunded funding) e = absurd (false≢true e)
  forwarded_here (Booked f i x) e = absurd (false≢true e)
  forwarded_here (Fetched count) e = absurd (false≢true e)
  forwarded_here Opened e = absurd (false≢true e)

  one_closed : ((from ≡ who) × (is_taken id J ≡ true)) ⊎ (is_forwarded from id J ≡ true) → count_by (is_open who K) J + 1 ≤ count_by (is_open who J) J
  one_closed (inl own) = fewer (is_open who J) (is_open who K) (takes id) J closes (taken_here own.0) own.1
  one_closed (inr came) = fewer (is_open who J) (is_open who K) (forwards from id) J closes forwarded_here came

  pub booked_push : ((from ≡ who) × (is_taken id J ≡ true)) ⊎ (is_forwarded from id J ≡ true) → BookedAreLive who J → BookedAreLive who (J ++ Booked from id o ∷ [])
  booked_push party before =
      let event : Event = Booked from id o in
      let bookings : count_by is_booking (current K) ≡ count_by is_booking (current J) + 1 =
      ap (count_by is_booking) (current_push J event refl) ∙ count_push is_booking (current J) event in
      let now : count_by (is_open who K) K ≡ count_by (is_open who K) J + 0 = count_push (is_open who K) J event in
      let live : count_by (is_open who (carried K)) K ≡ count_by (is_open who (carried J)) J + 0 =
      ap (λ C. count_by (is_open who C) K) (carried_push J event refl) ∙ count_push (is_open who (carried J)) J event in
      omega (arith, bookings, now, live, one_closed party, before)

pub booked_are_live : (s : HubSettings) (who : ℕ) (J : List Event) → IsSound s who J → BookedAreLive who J
booked_are_live s who = sound_induction s who (BookedAreLive who) (omega arith) step
  where
    step : (J : List Event) (event : Event) → IsSound s who J → Fits s who J event → BookedAreLive who J → BookedAreLive who (J ++ event ∷ [])
    step J (Funded funding) sound fits before = other_push who J (Funded funding) refl refl (λ from id. refl) before
    step J (Defunded funding) sound fits before = other_push who J (Defunded funding) refl refl (λ from id. refl) before
    step J (Taken id to cents stamp) sound fits before = other_push who J (Taken id to cents stamp) refl refl (λ from i. refl) before
    step J (Forwarded from id cents deadline) sound fits before = other_push who J (Forwarded from id cents deadline) refl refl (λ f i. refl) before
    step J (Booked from id o) sound fits before = booked_push who J from id o fits.new fits.party before
    step J (Fetched count) sound fits before = other_push who J (Fetched count) refl refl (λ from id. refl) before
    step J Opened sound fits before = opened_push who J

-- whether the event names participants of the hub alone
abbrev pub names : HubSettings → Event → Bool
names s (Taken id to cents stamp) = is_participant s to
names s (Forwarded from id cents deadline) = is_participant s from
names s _ = true

all_push : (p : Event → Bool) (J : List Event) (event : Event) → list_all p J ≡ true → p event ≡ true → list_all p (J ++ event ∷ []) ≡ true
all_push p [] event before last = rw last refl
all_push p (x ∷ J) event before last =
    let parts = and_parts (p x) (list_all p J) before in
    rw (parts.0) (all_push p J event parts.1 last)

pub all_named : (s : HubSettings) (who : ℕ) (J : List Event) → IsSound s who J → list_all (names s) J ≡ true
all_named s who = sound_induction s who (λ J. list_all (names s) J ≡ true) refl (λ J event sound fits before. all_push (names s) J event before (named event J fits))
  where
    named : (event : Event) (J : List Event) → Fits s who J event → names s event ≡ true
    named (Taken id to cents stamp) J fits = fits.beneficiary
    named (Forwarded from id cents deadline) J fits = fits.originator
    named (Funded funding) J fits = refl
    named (Defunded funding) J fits = refl
    named (Booked from id o) J fits = refl
    named (Fetched count) J fits = refl
    named Opened J fits = refl

-- whether the event forwards an unbooked transfer of one of the first n originators
abbrev pub is_open_below : ℕ → List Event → Event → Bool
is_open_below n booking (Forwarded from id cents deadline) = nat_lt from n && is_none (booked from id booking)
is_open_below n booking _ = false

one_more_below : (from n : ℕ) (b d : Bool) → (from ≡ n → b ≡ d) → cond (nat_lt from (suc n) && b) 1 0 ≤ cond (nat_lt from n && b) 1 0 + cond ((from == n) && d) 1 0
one_more_below from n true true same = grind (arith, nat_tests)
one_more_below from n true false same = elim (cases_eq from n) [
  | inl is ↦ absurd (false≢true (sym (same is)))
  | inr other ↦ grind (arith, nat_tests, other)
]
one_more_below from n false d same = grind (arith, nat_tests)

below_more : (n : ℕ) (C : List Event) (e : Event) → cond (is_open_below (suc n) C e) 1 0 ≤ cond (is_open_below n C e) 1 0 + cond (forwards_live n C e) 1 0
below_more n C (Forwarded from id cents deadline) = one_more_below from n (is_none (booked from id C)) (is_none (booked n id C)) (λ same. ap (λ f. is_none (booked f id C)) same)
below_more n C (Taken id to cents stamp) = omega arith
below_more n C (Funded funding) = omega arith
below_more n C (Defunded funding) = omega arith
below_more n C (Booked from id outcome) = omega arith
below_more n C (Fetched count) = omega arith
below_more n C Opened = omega arith

none_below : (C J : List Event) → count_by (is_open_below 0 C) J ≡ 0
none_below C [] = refl
none_below C (e ∷ J) =
    let first : cond (is_open_below 0 C e) 1 0 ≡ 0 = ap {B = ℕ} (λ b. cond b 1 0) (none e) in
    omega (arith, sum_by-cons (λ x. cond (is_open_below 0 C x) 1 0) e J, first, none_below C J)
  where
    none : (x : Event) → is_open_below 0 C x ≡ false
    none (Forwarded from id cents deadline) = ap (λ b. b && is_none (booked from id C)) (le-ltb from 0 (omega arith))
    none (Taken id to cents stamp) = refl
    none (Funded funding) = refl
    none (Defunded funding) = refl
    none (Booked from id outcome) = refl
    none (Fetched count) = refl
    none Opened = refl

below_within : (s : HubSettings) (who : ℕ) (J : List Event) (n : ℕ) → IsSound s who J → count_by (is_open_below n (carried J)) J ≤ n * s.places
below_within s who J zero sound = rw (none_below (carried J) J) (omega arith)
below_within s who J (suc n) sound =
    let more : count_by (is_open_below (suc n) (carried J)) J ≤ sum_by (λ e. cond (is_open_below n (carried J) e) 1 0 + cond (forwards_live n (carried J) e) 1 0) J =
    sum_by-le-sum_by _ _ J (below_more n (carried J)) in
    let parts : sum_by (λ e. cond (is_open_below n (carried J) e) 1 0 + cond (forwards_live n (carried J) e) 1 0) J ≡ count_by (is_open_below n (carried J)) J + live_forwarded n J =
    sum_by-both (λ e. cond (is_open_below n (carried J) e) 1 0) (λ e. cond (forwards_live n (carried J) e) 1 0) J in
    omega (arith, below_within s who J n sound, forwarded_within s who n J sound, more, parts, suc_times n s.places)

-- each open event is one of the participant's own or comes from one of the others
open_split : (s : HubSettings) (who : ℕ) (C J : List Event) → list_all (names s) J ≡ true → count_by (is_open who C) J ≤ count_by (takes_live who C) J + count_by (is_open_below (participants s) C) J
open_split s who C [] named = omega arith
open_split s who C (e ∷ J) named =
    let parts = and_parts (names s e) (list_all (names s) J) named in
    omega (
      arith,
      sum_by-cons (λ x. cond (is_open who C x) 1 0) e J,
      sum_by-cons (λ x. cond (takes_live who C x) 1 0) e J,
      sum_by-cons (λ x. cond (is_open_below (participants s) C x) 1 0) e J,
      one e parts.0,
      open_split s who C J parts.1,
    )
  where
    one : (x : Event) → names s x ≡ true → cond (is_open who C x) 1 0 ≤ cond (takes_live who C x) 1 0 + cond (is_open_below (participants s) C x) 1 0
    one (Taken id to cents stamp) is = omega arith
    one (Forwarded from id cents deadline) is = rw is (omega arith)
    one (Funded funding) is = omega arith
    one (Defunded funding) is = omega arith
    one (Booked from id outcome) is = omega arith
    one (Fetched count) is = omega arith
    one Opened is = omega arith

-- whether the event may have a line
abbrev pub may_be_shown : Event → Bool
may_be_shown (Funded funding) = true
may_be_shown (Defunded funding) = true
may_be_shown (Booked from id outcome) = true
may_be_shown _ = false

unshown : (K : List Event) (number after : ℕ) (e : Event) → may_be_shown e ≡ false → line_of K number after e ≡ None
unshown K number after (Funded funding) hidden = absurd (false≢true (sym hidden))
unshown K number after (Defunded funding) hidden = absurd (false≢true (sym hidden))
unshown K number after (Booked from id outcome) hidden = absurd (false≢true (sym hidden))
unshown K number after (Taken id to cents stamp) hidden = refl
unshown K number after (Forwarded from id cents deadline) hidden = refl
unshown K number after (Fetched count) hidden = refl
unshown K number after Opened hidden = refl

at_most_one_more : (o : Option Line) (xs ys : List Line) (n : ℕ) → length xs ≤ n → length ys ≤ n → length (with_line o xs ys) ≤ n + 1
at_most_one_more None xs ys n first second = omega (arith, first)
at_most_one_more (Some line) xs ys n first second = omega (arith, second)

few_lines : (K front : List Event) (number : ℕ) (events : List Event) → length (lines_after K front number events) ≤ count_by may_be_shown events
few_lines K front number [] = omega arith
few_lines K front number (e ∷ events) =
    let step = sum_by-cons (λ x. cond (may_be_shown x) 1 0) e events in
    let o : Option Line = line_of K number (position (front ++ e ∷ [])) e in
    let here : List Line = lines_after K (front ++ e ∷ []) number events in
    let next : List Line = lines_after K (front ++ e ∷ []) (number + 1) events in
    let few = few_lines K (front ++ e ∷ []) number events in
    elim (cases_Bool (may_be_shown e)) [
      | inl shown ↦
          let one : cond (may_be_shown e) 1 0 ≡ 1 = ap {B = ℕ} (λ b. cond b 1 0) shown in
          let most = at_most_one_more o here next (count_by may_be_shown events) few (few_lines K (front ++ e ∷ []) (number + 1) events) in
          omega (arith, step, one, most)
      | inr hidden ↦
          let none : length (lines_after K front number (e ∷ events)) ≡ length here =
          ap (λ x. length (with_line x here next)) (unshown K number (position (front ++ e ∷ [])) e hidden) in
          omega (arith, step, few, none)
    ]

shown_split : (K : List Event) → count_by may_be_shown K ≡ count_by is_funding K + count_by is_booking K
shown_split [] = refl
shown_split (e ∷ K) =
    omega (arith, sum_by-cons (λ x. cond (may_be_shown x) 1 0) e K, sum_by-cons (λ x. cond (is_funding x) 1 0) e K, sum_by-cons (λ x. cond (is_booking x) 1 0) e K, one e, shown_split K)
  where
    one : (x : Event) → cond (may_be_shown x) 1 0 ≡ cond (is_funding x) 1 0 + cond (is_booking x) 1 0
    one (Taken id to cents stamp) = refl
    one (Forwarded from id cents deadline) = refl
    one (Funded funding) = refl
    one (Defunded funding) = refl
    one (Booked from id outcome) = refl
    one (Fetched count) = refl
    one Opened = refl

-- a statement has so few lines that their numbers fit their column
pub statement_short : (s : HubSettings) (who : ℕ) (J : List Event) → IsSettings s → IsSound s who J → length (statement J) ≤ 999999
statement_short s who J lawful sound =
    let others : participants s * s.places ≤ 256 * 1024 = mul-le-mul lawful.participants_most lawful.places_most in
    omega (
      arith,
      few_lines J (carried J) 1 (current J),
      shown_split (current J),
      fundings_within s who J sound,
      booked_are_live s who J sound,
      open_split s who (carried J) J (all_named s who J sound),
      submissions_within s who J sound,
      below_within s who J (participants s) sound,
      others,
      lawful.places_most,
      lawful.fundings_most,
    )
