-- A statement's lines, one after another: their numbers, and the positions between which each of them leads.
use Rattle.std.proofs.Common.{◌≡◌, ◌≢◌, ℕ, zero, suc, ◌+◌, ◌≤◌, Bool, true, false, ◌||◌, cond, List, [], ◌∷◌, ◌++◌, inl, inr, Option, Some, None, sum_by, count_by, slice_get, refl, sym, ap, ◌∙◌, subst, arith, append-nil, append_assoc}
use Rattle.std.specs.List.{list_any}
use Rattle.std.proofs.lemmas.Bool.{cases_Bool, false≢true, true≢false, or_left}
use Rattle.std.proofs.lemmas.List.Folds.{list_any-append}
use Rattle.std.proofs.lemmas.List.Sums.{sum_by-cons}
use Rattle.inst_settings.specs.Settings.{HubSettings}
use Rattle.inst_command.specs.declared.line.Line.{Line}
use Rattle.inst_command.specs.declared.line.LineKind.TheVariants.{Received, Paid}
use Rattle.inst_command.specs.declared.outcome.Outcome.TheVariants.{Accepted, Rejected, TimedOut}
use Rattle.inst_journal.specs.declared.event.Event.{Event}
use Rattle.inst_journal.specs.declared.event.Event.TheVariants.{Funded, Defunded, Taken, Forwarded, Booked, Fetched, Opened}
use Rattle.inst_journal.specs.Booked.{or_else, first_some, forwards, is_forwarded, takes, is_taken}
use Rattle.inst_journal.specs.Laws.{taking}
use Rattle.inst_journal.specs.Lines.{Lead}
use Rattle.inst_journal.specs.Money.{position}
use Rattle.inst_journal.specs.Opened.{carried, current}
use Rattle.inst_journal.specs.Sound.{Fits, FitAfter, IsSound}
use Rattle.inst_journal.specs.Statement.{received, paid, line_of_accepted, line_of, with_line, lines_after, statement}
use Rattle.inst_journal.proofs.EventsCarriedOverOpening.{carried_front, current_opened}
use Rattle.inst_journal.proofs.FirstSome.{first_some-append}
use Rattle.inst_journal.proofs.KeyOnce.{forwarded_once, taken_once}
use Rattle.inst_journal.proofs.PositionAfterEvent.{coming, credited_by, debited_by, position_funded, position_credited, position_debited, position_released}
use Rattle.inst_journal.proofs.OwnBookings.{own_unforwarded}
use Rattle.inst_journal.proofs.Soundness.{sound_push}
use Rattle.inst_journal.proofs.WalkOverFronts.{front_fits, rest_fits}

-- a line's number, where there is a line
abbrev number_of : ℕ → Option Line → ℕ
number_of other None = other
number_of other (Some line) = line.number

-- each line that is there has this number
abbrev Numbers : ℕ → Option Line → Type 0
Numbers number line = number_of number line ≡ number

numbers_either : (number : ℕ) (b : Bool) (line other : Option Line) → Numbers number line → Numbers number other → Numbers number (cond b line other)
numbers_either number true line other first second = first
numbers_either number false line other first second = second

numbers_first : (number : ℕ) (f : Event → Option Line) (J : List Event) → ((event : Event) → Numbers number (f event)) → Numbers number (first_some f J)
numbers_first number f [] each = refl
numbers_first number f (event ∷ J) each =
    elim (f event) as (λ (o : Option Line). Numbers number o → Numbers number (or_else o (first_some f J))) [
      | None ↦ λ here. numbers_first number f J each
      | Some line ↦ λ here. here
    ] (each event)

numbers_received : (number after from : ℕ) (id : List ℕ) (event : Event) → Numbers number (received number after from id event)
numbers_received number after from id (Forwarded other_from other cents deadline) = numbers_either number (forwards from id (Forwarded other_from other cents deadline)) (Some _) None refl refl
numbers_received number after from id (Taken other to cents stamp) = refl
numbers_received number after from id (Funded funding) = refl
numbers_received number after from id (Defunded funding) = refl
numbers_received number after from id (Booked other_from other outcome) = refl
numbers_received number after from id (Fetched count) = refl
numbers_received number after from id Opened = refl

numbers_paid : (number after : ℕ) (id : List ℕ) (event : Event) → Numbers number (paid number after id event)
numbers_paid number after id (Taken other to cents stamp) = numbers_either number (takes id (Taken other to cents stamp)) (Some _) None refl refl
numbers_paid number after id (Forwarded other_from other cents deadline) = refl
numbers_paid number after id (Funded funding) = refl
numbers_paid number after id (Defunded funding) = refl
numbers_paid number after id (Booked other_from other outcome) = refl
numbers_paid number after id (Fetched count) = refl
numbers_paid number after id Opened = refl

numbers_line : (J : List Event) (number after : ℕ) (event : Event) → Numbers number (line_of J number after event)
numbers_line J number after (Booked from id Accepted) =
    numbers_either number (is_forwarded from id J) _ _ (numbers_first number (received number after from id) J (numbers_received number after from id))
    (numbers_first number (paid number after id) J (numbers_paid number after id))
numbers_line J number after (Booked from id (Rejected reason)) = refl
numbers_line J number after (Booked from id TimedOut) = refl
numbers_line J number after (Funded funding) = refl
numbers_line J number after (Defunded funding) = refl
numbers_line J number after (Taken id to cents stamp) = refl
numbers_line J number after (Forwarded from id cents deadline) = refl
numbers_line J number after (Fetched count) = refl
numbers_line J number after Opened = refl

-- the lines after a front count from its number
counts : (J front : List Event) (number : ℕ) (events : List Event) (k : ℕ) (line : Line) → slice_get (lines_after J front number events) k ≡ Some line → line.number ≡ number + k
counts J front number [] k line e = cc
counts J front number (event ∷ events) k line e =
    elim (line_of J number (position (front ++ event ∷ [])) event) as (λ (o : Option Line). Numbers number o
    → slice_get (with_line o (lines_after J (front ++ event ∷ []) number events) (lines_after J (front ++ event ∷ []) (number + 1) events)) k ≡ Some line → line.number ≡ number + k) [
      | None ↦ λ here e'. counts J (front ++ event ∷ []) number events k line e'
      | Some first ↦ λ here e'. first_or_later first here (λ n later. counts J (front ++ event ∷ []) (number + 1) events n line later) k e'
    ] (numbers_line J number (position (front ++ event ∷ [])) event) e
  where
    first_or_later : (first : Line) → first.number ≡ number
        → ((n : ℕ) → slice_get (lines_after J (front ++ event ∷ []) (number + 1) events) n ≡ Some line → line.number ≡ number + 1 + n) → (n : ℕ) → slice_get (first ∷ lines_after J (front ++ event ∷ []) (number + 1) events) n ≡ Some line → line.number ≡ number + n
    first_or_later first here others zero e' = omega (arith, sym (ap (number_of 0) e'), here)
    first_or_later first here others (suc n) e' = omega (arith, others n e')

-- a statement's lines count from 1
pub count_from_one : (J : List Event) (k : ℕ) (line : Line) → slice_get (statement J) k ≡ Some line → line.number ≡ k + 1
count_from_one J k line e = omega (arith, counts J (carried J) 1 (current J) k line e)

-- an opening begins a statement
pub begins_a_statement : (J : List Event) → statement (J ++ Opened ∷ []) ≡ []
begins_a_statement J = ap (lines_after (J ++ Opened ∷ []) (carried (J ++ Opened ∷ [])) 1) (current_opened J)

-- the one event that passes a test: its line, and its amount as a sum
pub record TheOne (p : Event → Bool) (v : Event → ℕ) (make : Event → Line) (f : Event → Option Line) (J : List Event) : Type 0 where
  pub event : Event
  pub line_is : first_some f J ≡ Some (make event)
  pub amount_is : sum_by (λ e. cond (p e) (v e) 0) J ≡ v event

-- what passes no test sums to nothing
pub zero_summed : (p : Event → Bool) (v : Event → ℕ) (J : List Event) → count_by p J ≡ 0 → sum_by (λ e. cond (p e) (v e) 0) J ≡ 0
zero_summed p v [] none = refl
zero_summed p v (event ∷ J) none =
    let first : count_by p (event ∷ J) ≡ cond (p event) 1 0 + count_by p J = sum_by-cons (λ e. cond (p e) 1 0) event J in
    let sum : sum_by (λ e. cond (p e) (v e) 0) (event ∷ J) ≡ cond (p event) (v event) 0 + sum_by (λ e. cond (p e) (v e) 0) J = sum_by-cons (λ e. cond (p e) (v e) 0) event J in
    omega (arith, sum, zero_summed p v J (omega arith), nothing (p event) (v event) (omega arith))
  where
    nothing : (b : Bool) (n : ℕ) → ◌≡◌ {A = ℕ} (cond b 1 0) 0 → cond b n 0 ≡ 0
    nothing true n e = absurd (omega arith)
    nothing false n e = refl

the_one : (p : Event → Bool) (v : Event → ℕ) (make : Event → Line) (f : Event → Option Line) (J : List Event) → ((e : Event) → f e ≡ cond (p e) (Some (make e)) None)
    → list_any p J ≡ true → count_by p J ≤ 1 → TheOne p v make f J
the_one p v make f [] gives any once = absurd (false≢true any)
the_one p v make f (event ∷ J) gives any once =
    let counted : count_by p (event ∷ J) ≡ cond (p event) 1 0 + count_by p J = sum_by-cons (λ e. cond (p e) 1 0) event J in
    let summed : sum_by (λ e. cond (p e) (v e) 0) (event ∷ J) ≡ cond (p event) (v event) 0 + sum_by (λ e. cond (p e) (v e) 0) J = sum_by-cons (λ e. cond (p e) (v e) 0) event J in
    elim (cases_Bool (p event)) [
      | inl here ↦
          let one : cond (p event) 1 0 ≡ 1 = ap {B = ℕ} (λ b. cond b 1 0) here in
          let amount : cond (p event) (v event) 0 ≡ v event = ap {B = ℕ} (λ b. cond b (v event) 0) here in
          record {
            event = event;
            line_is = ap (λ o. or_else o (first_some f J)) (gives event ∙ ap (λ b. cond b (Some (make event)) None) here);
            amount_is = omega (arith, summed, amount, zero_summed p v J (omega (arith, counted, one, once)));
          }
      | inr other ↦
          let none : cond (p event) 1 0 ≡ 0 = ap {B = ℕ} (λ b. cond b 1 0) other in
          let nothing : cond (p event) (v event) 0 ≡ 0 = ap {B = ℕ} (λ b. cond b (v event) 0) other in
          let later : TheOne p v make f J = the_one p v make f J gives (sym (ap (λ b. b || list_any p J) other) ∙ any) (omega (arith, counted, none, once)) in
          record {
            event = later.event;
            line_is = ap (λ o. or_else o (first_some f J)) (gives event ∙ ap (λ b. cond b (Some (make event)) None) other) ∙ later.line_is;
            amount_is = omega (arith, summed, nothing, later.amount_is);
          }
    ]

-- the line of a transfer that came
abbrev received_line : ℕ → ℕ → ℕ → List ℕ → Event → Line
received_line number after from id event =
    record { number = number; kind = Received; other = Some from; id = id; cents = coming event; position = after }

abbrev beneficiary_of : Event → ℕ
beneficiary_of (Taken id to cents stamp) = to
beneficiary_of _ = 0

-- the line of a transfer that was taken
abbrev paid_line : ℕ → ℕ → List ℕ → Event → Line
paid_line number after id event =
    record { number = number; kind = Paid; other = Some (beneficiary_of event); id = id; cents = taking event; position = after }

received_gives : (number after from : ℕ) (id : List ℕ) (e : Event) → received number after from id e ≡ cond (forwards from id e) (Some (received_line number after from id e)) None
received_gives number after from id (Forwarded other_from other cents deadline) = refl
received_gives number after from id (Taken other to cents stamp) = refl
received_gives number after from id (Funded funding) = refl
received_gives number after from id (Defunded funding) = refl
received_gives number after from id (Booked other_from other outcome) = refl
received_gives number after from id (Fetched count) = refl
received_gives number after from id Opened = refl

paid_gives : (number after : ℕ) (id : List ℕ) (e : Event) → paid number after id e ≡ cond (takes id e) (Some (paid_line number after id e)) None
paid_gives number after id (Taken other to cents stamp) = refl
paid_gives number after id (Forwarded other_from other cents deadline) = refl
paid_gives number after id (Funded funding) = refl
paid_gives number after id (Defunded funding) = refl
paid_gives number after id (Booked other_from other outcome) = refl
paid_gives number after id (Fetched count) = refl
paid_gives number after id Opened = refl

-- the first thing of a front is the first of all
of_front : (f : Event → Option Line) (front rest J : List Event) (line : Line) → front ++ rest ≡ J → first_some f front ≡ Some line → first_some f J ≡ Some line
of_front f front rest J line all here =
    sym (ap (first_some f) all) ∙ first_some-append f front rest ∙ ap (λ o. or_else o (first_some f rest)) here

-- a line before the others leads on from where it ends
leads_on : (before last : ℕ) (o : Option Line) (line : Line) (same more : List Line) → o ≡ Some line → Lead before (line ∷ more) last → Lead before (with_line o same more) last
leads_on before last o line same more is leads = subst (λ p. Lead before (with_line p same more) last) (sym is) leads

-- no line leads nowhere
stays : (before after last : ℕ) (lines : List Line) → before + (0 + 0) ≡ after + (0 + 0) → Lead after lines last → Lead before lines last
stays before after last lines same leads =
    let here : after ≡ before = omega (arith, same) in
    subst (λ p. Lead p lines last) here leads

-- the walk over the events after a front
walks : (s : HubSettings) (who : ℕ) (J : List Event) → IsSound s who J → (front : List Event) (number : ℕ) (events : List Event)
    → front ++ events ≡ J → IsSound s who front → FitAfter s who front events → Lead (position front) (lines_after J front number events) (position J)
walks s who J whole front number [] all sound fits = ap position (sym (append-nil front) ∙ all)
walks s who J whole front number (event ∷ events) all sound fits =
    let K : List Event = front ++ event ∷ [] in
    let next : (n : ℕ) → Lead (position K) (lines_after J K n events) (position J) =
    λ n. walks s who J whole K n events (append_assoc front (event ∷ []) events ∙ all) (sound_push s who front event sound fits.0) fits.1 in
    at event fits.0 next all
  where
    booked_forwarded : (from : ℕ) (id : List ℕ) → is_forwarded from id front ≡ true → Fits s who front (Booked from id Accepted) → front ++ Booked from id Accepted ∷ events ≡ J
        → ((n : ℕ) → Lead (position (front ++ Booked from id Accepted ∷ [])) (lines_after J (front ++ Booked from id Accepted ∷ []) n events) (position J))
        → Lead (position front) (lines_after J front number (Booked from id Accepted ∷ events)) (position J)
    booked_forwarded from id there fit all' next =
        let K : List Event = front ++ Booked from id Accepted ∷ [] in
        let another : from ≢ who = λ own. true≢false (sym there ∙ ap (λ f. is_forwarded f id front) own ∙ own_unforwarded s who id front sound) in
        let f = λ (e : Event). received number (position K) from id e in
        let one : TheOne (forwards from id) coming (received_line number (position K) from id) f front =
        the_one (forwards from id) coming (received_line number (position K) from id) f front (received_gives number (position K) from id) there (forwarded_once s who from id front sound) in
        let in_all : is_forwarded from id J ≡ true =
        sym (ap (is_forwarded from id) all') ∙ list_any-append (forwards from id) front (Booked from id Accepted ∷ events) ∙ or_left _ _ there in
        let line : line_of_accepted J number (position K) from id ≡ Some (received_line number (position K) from id one.event) =
        ap (λ b. cond b (first_some f J) (first_some (paid number (position K) id) J)) in_all ∙ of_front f front (Booked from id Accepted ∷ events) J _ all' one.line_is in
        let moves : position front + (0 + credited_by from id Accepted front) ≡ position K + (0 + 0) = position_credited s who front from id Accepted sound fit another in
        leads_on (position front) (position J) (line_of_accepted J number (position K) from id) _ _ _ line (omega (arith, moves, one.amount_is), next (number + 1))

    booked_own : (id : List ℕ) → is_taken id front ≡ true → Fits s who front (Booked who id Accepted) → front ++ Booked who id Accepted ∷ events ≡ J
        → ((n : ℕ) → Lead (position (front ++ Booked who id Accepted ∷ [])) (lines_after J (front ++ Booked who id Accepted ∷ []) n events) (position J))
        → Lead (position front) (lines_after J front number (Booked who id Accepted ∷ events)) (position J)
    booked_own id there fit all' next =
        let K : List Event = front ++ Booked who id Accepted ∷ [] in
        let f = λ (e : Event). paid number (position K) id e in
        let one : TheOne (takes id) taking (paid_line number (position K) id) f front =
        the_one (takes id) taking (paid_line number (position K) id) f front (paid_gives number (position K) id) there (taken_once s who id front sound) in
        let line : line_of_accepted J number (position K) who id ≡ Some (paid_line number (position K) id one.event) =
        ap (λ b. cond b (first_some (received number (position K) who id) J) (first_some f J)) (own_unforwarded s who id J whole) ∙ of_front f front (Booked who id Accepted ∷ events) J _ all' one.line_is in
        let moves : position front + (0 + 0) ≡ position K + (0 + debited_by id Accepted front) = position_debited s who front id Accepted sound fit in
        leads_on (position front) (position J) (line_of_accepted J number (position K) who id) _ _ _ line (omega (arith, moves, one.amount_is), next (number + 1))

    at : (event : Event) → Fits s who front event → ((n : ℕ) → Lead (position (front ++ event ∷ [])) (lines_after J (front ++ event ∷ []) n events) (position J)) → front ++ event ∷ events ≡ J
        → Lead (position front) (lines_after J front number (event ∷ events)) (position J)
    at (Funded funding) fit next all' = (omega (arith, position_funded s who front (Funded funding) sound fit refl), next (number + 1))
    at (Defunded funding) fit next all' = (omega (arith, position_funded s who front (Defunded funding) sound fit refl), next (number + 1))
    at (Taken id to cents stamp) fit next all' = stays _ _ _ _ (position_funded s who front (Taken id to cents stamp) sound fit refl) (next number)
    at (Forwarded from id cents deadline) fit next all' = stays _ _ _ _ (position_funded s who front (Forwarded from id cents deadline) sound fit refl) (next number)
    at (Fetched count) fit next all' = stays _ _ _ _ (position_funded s who front (Fetched count) sound fit refl) (next number)
    at Opened fit next all' = stays _ _ _ _ (position_funded s who front Opened sound fit refl) (next number)
    at (Booked from id Accepted) fit next all' = elim fit.party [
      | inl own ↦ subst (λ f. Fits s who front (Booked f id Accepted) → front ++ Booked f id Accepted ∷ events ≡ J
          → ((n : ℕ) → Lead (position (front ++ Booked f id Accepted ∷ [])) (lines_after J (front ++ Booked f id Accepted ∷ []) n events) (position J))
          → Lead (position front) (lines_after J front number (Booked f id Accepted ∷ events)) (position J)) (sym own.0) (booked_own id own.1) fit all' next
      | inr there ↦ booked_forwarded from id there fit all' next
    ]
    at (Booked from id (Rejected reason)) fit next all' = stays _ _ _ _ (position_released s who front from id (Rejected reason) sound fit (λ cents. refl)) (next number)
    at (Booked from id TimedOut) fit next all' = stays _ _ _ _ (position_released s who front from id TimedOut sound fit (λ cents. refl)) (next number)

-- a statement leads to the position
pub leads_to_the_position : (s : HubSettings) (who : ℕ) (J : List Event) → IsSound s who J → Lead (position (carried J)) (statement J) (position J)
leads_to_the_position s who J sound =
    let split : IsSound s who (carried J ++ current J) = subst (IsSound s who) (sym (carried_front J)) sound in
    walks s who J sound (carried J) 1 (current J) (carried_front J) (front_fits s who [] (carried J) (current J) split) (rest_fits s who [] (carried J) (current J) split)
