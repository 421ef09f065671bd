-- What one more event of a sound history does to the position.
use Rattle.std.proofs.Common.{◌≡◌, ◌≢◌, ℕ, ◌+◌, ◌-◌, ◌≤◌, Bool, true, false, ◌==◌, ◌&&◌, ◌||◌, cond, List, [], ◌∷◌, ◌++◌, inl, inr, Option, Some, None, sum_by, refl, sym, ap, ◌∙◌, subst, arith}
use Rattle.std.specs.List.{list_any}
use Rattle.std.specs.Cmp.Lexicographic.{same_text as text_same}
use Rattle.std.proofs.lemmas.Bool.{cases_Bool, cases_eq, and_parts, and_from, eqb-true, eq-eqb, ne_eqb, false≢true}
use Rattle.std.proofs.lemmas.List.Sums.{sum_by-cons}
use Rattle.inst_settings.specs.Settings.{HubSettings, same_text}
use Rattle.inst_settings.proofs.CodeTellsNumber.{same_text_refl}
use Rattle.inst_command.specs.declared.outcome.Outcome.{Outcome}
use Rattle.inst_journal.specs.declared.event.Event.{Event}
use Rattle.inst_journal.specs.declared.event.Event.TheVariants.{Funded, Defunded, Taken, Forwarded, Booked, Fetched, Opened}
use Rattle.inst_journal.specs.Booked.{or_else, same_transfer, forwards, takes, books, booked, own_booked}
use Rattle.inst_journal.specs.Laws.{taking}
use Rattle.inst_journal.specs.Money.{position}
use Rattle.inst_journal.specs.Sound.{Fits, IsSound}
use Rattle.inst_journal.specs.Sums.{funding, defunding, funded, defunded, if_accepted, credit, debit, credits, debits}
use Rattle.inst_journal.proofs.BookingsWithinTransfers.{is_booking, books_itself}
use Rattle.inst_journal.proofs.CountsOfEvents.{stranger_unbooked}
use Rattle.inst_journal.proofs.PaidAndReservedIsCovered.{covered, own_push}
use Rattle.inst_journal.proofs.OwnBookings.{own_booked-booked, own_unforwarded}
use Rattle.inst_journal.proofs.PlacesOfTakenAmounts.{sum_same}
use Rattle.inst_journal.proofs.OneMoreElement.{sum_by_push, sum_by-both, first_some_push}
use Rattle.inst_journal.proofs.Soundness.{sound_push}

-- the amount of a forwarded transfer
abbrev pub coming : Event → ℕ
coming (Forwarded from id cents deadline) = cents
coming _ = 0

-- a name that isn't another's: the other isn't it either
other_way : (from : ℕ) (id : List ℕ) (other_from : ℕ) (other : List ℕ) → same_transfer from id other_from other ≡ false → same_transfer other_from other from id ≡ false
other_way from id other_from other another = elim (cases_Bool (same_transfer other_from other from id)) [
  | inl same ↦
      let key = and_parts (from == other_from) (same_text id other) same in
      let originator : other_from ≡ from = sym (eqb-true from other_from key.0) in
      let text : other ≡ id = sym (text_same id other (sym key.1)) in
      let back : same_transfer from id other_from other ≡ true =
      and_from (other_from == from) (same_text other id) (eq-eqb other_from from originator) (ap (λ i. same_text i id) text ∙ same_text_refl id) in
      absurd (false≢true (sym another ∙ back))
  | inr apart ↦ apart
]

books_another : (from : ℕ) (id : List ℕ) (outcome : Outcome) (other_from : ℕ) (other : List ℕ) → same_transfer from id other_from other ≡ false → books other_from other (Booked from id outcome) ≡ None
books_another from id outcome other_from other another = ap (λ b. cond b (Some outcome) None) (other_way from id other_from other another)

-- an amount whose transfer is booked now, and one whose isn't
moved : (before after : Option Outcome) (b : Bool) (outcome : Outcome) (cents : ℕ) → before ≡ None → after ≡ Some outcome → b ≡ true → if_accepted after cents ≡ if_accepted before cents + cond b (if_accepted (Some outcome) cents) 0
moved before after b outcome cents none some same = rw (none, some, same) (omega arith)

unmoved : (before after : Option Outcome) (b : Bool) (outcome : Outcome) (cents : ℕ) → after ≡ before → b ≡ false → if_accepted after cents ≡ if_accepted before cents + cond b (if_accepted (Some outcome) cents) 0
unmoved before after b outcome cents still another = rw (still, another) (omega arith)

or_else-nothing : (o new : Option Outcome) → new ≡ None → or_else o new ≡ o
or_else-nothing None new none = none
or_else-nothing (Some outcome) new none = refl

credit_moved : (J : List Event) (from : ℕ) (id : List ℕ) (outcome : Outcome) → booked from id J ≡ None → (event : Event)
    → credit (J ++ Booked from id outcome ∷ []) event ≡ credit J event + cond (forwards from id event) (if_accepted (Some outcome) (coming event)) 0
credit_moved J from id outcome none (Forwarded other_from other cents deadline) =
    let K : List Event = J ++ Booked from id outcome ∷ [] in
    let new : Option Outcome = books other_from other (Booked from id outcome) in
    let push : booked other_from other K ≡ or_else (booked other_from other J) new = first_some_push (books other_from other) J (Booked from id outcome) in
    elim (cases_Bool (same_transfer from id other_from other)) [
      | inl same ↦
          let key = and_parts (other_from == from) (same_text other id) same in
          let originator : other_from ≡ from = eqb-true other_from from key.0 in
          let text : other ≡ id = text_same other id (sym key.1) in
          let nothing : booked other_from other J ≡ None = ap (λ f. booked f other J) originator ∙ ap (λ i. booked from i J) text ∙ none in
          let here : new ≡ Some outcome =
          ap (λ f. books f other (Booked from id outcome)) originator ∙ ap (λ i. books from i (Booked from id outcome)) text ∙ books_itself from id outcome in
          moved (booked other_from other J) (booked other_from other K) (same_transfer from id other_from other) outcome cents nothing
          (push ∙ ap (λ o. or_else o new) nothing ∙ here) same
      | inr another ↦
          unmoved (booked other_from other J) (booked other_from other K) (same_transfer from id other_from other) outcome cents
          (push ∙ or_else-nothing (booked other_from other J) new (books_another from id outcome other_from other another)) another
    ]
credit_moved J from id outcome none (Taken other to cents stamp) = refl
credit_moved J from id outcome none (Funded funding) = refl
credit_moved J from id outcome none (Defunded funding) = refl
credit_moved J from id outcome none (Booked other_from other o) = refl
credit_moved J from id outcome none (Fetched count) = refl
credit_moved J from id outcome none Opened = refl

debit_moved : (s : HubSettings) (who : ℕ) (J : List Event) (id : List ℕ) (outcome : Outcome) → IsSound s who J → Fits s who J (Booked who id outcome) → (event : Event)
    → debit (J ++ Booked who id outcome ∷ []) event ≡ debit J event + cond (takes id event) (if_accepted (Some outcome) (taking event)) 0
debit_moved s who J id outcome sound fits (Taken other to cents stamp) =
    let K : List Event = J ++ Booked who id outcome ∷ [] in
    let new : Option Outcome = books who other (Booked who id outcome) in
    let push : own_booked other K ≡ or_else (own_booked other J) new = own_push s who J (Booked who id outcome) other sound fits in
    elim (cases_Bool (same_text other id)) [
      | inl same ↦
          let text : other ≡ id = text_same other id (sym same) in
          let nothing : own_booked other J ≡ None = ap (λ i. own_booked i J) text ∙ own_booked-booked s who J id sound ∙ fits.new in
          let here : new ≡ Some outcome = ap (λ i. books who i (Booked who id outcome)) text ∙ books_itself who id outcome in
          moved (own_booked other J) (own_booked other K) (same_text other id) outcome cents nothing (push ∙ ap (λ o. or_else o new) nothing ∙ here) same
      | inr another ↦
          let apart : same_transfer who id who other ≡ false = ap (λ b. (who == who) && b) another ∙ and-false (who == who) in
          unmoved (own_booked other J) (own_booked other K) (same_text other id) outcome cents
          (push ∙ or_else-nothing (own_booked other J) new (books_another who id outcome who other apart)) another
    ]
  where
    and-false : (b : Bool) → (b && false) ≡ false
    and-false true = refl
    and-false false = refl
debit_moved s who J id outcome sound fits (Forwarded other_from other cents deadline) = refl
debit_moved s who J id outcome sound fits (Funded funding) = refl
debit_moved s who J id outcome sound fits (Defunded funding) = refl
debit_moved s who J id outcome sound fits (Booked other_from other o) = refl
debit_moved s who J id outcome sound fits (Fetched count) = refl
debit_moved s who J id outcome sound fits Opened = refl

-- an event that books no own transfer leaves the debits, and one that books no transfer the credits
abbrev LeavesOwn : ℕ → Event → Type 0
LeavesOwn who event = (id : List ℕ) → books who id event ≡ None

debit_still : (s : HubSettings) (who : ℕ) (J : List Event) (new : Event) → IsSound s who J → Fits s who J new → LeavesOwn who new → (event : Event) → debit (J ++ new ∷ []) event ≡ debit J event
debit_still s who J new sound fits leaves (Taken id to cents stamp) =
    ap (λ o. if_accepted o cents) (own_push s who J new id sound fits ∙ or_else-nothing (own_booked id J) (books who id new) (leaves id))
debit_still s who J new sound fits leaves (Forwarded from id cents deadline) = refl
debit_still s who J new sound fits leaves (Funded funding) = refl
debit_still s who J new sound fits leaves (Defunded funding) = refl
debit_still s who J new sound fits leaves (Booked from id outcome) = refl
debit_still s who J new sound fits leaves (Fetched count) = refl
debit_still s who J new sound fits leaves Opened = refl

credit_still : (J : List Event) (new : Event) → ((from : ℕ) (id : List ℕ) → books from id new ≡ None) → (event : Event) → credit (J ++ new ∷ []) event ≡ credit J event
credit_still J new leaves (Forwarded from id cents deadline) =
    ap (λ o. if_accepted o cents) (first_some_push (books from id) J new ∙ or_else-nothing (booked from id J) (books from id new) (leaves from id))
credit_still J new leaves (Taken id to cents stamp) = refl
credit_still J new leaves (Funded funding) = refl
credit_still J new leaves (Defunded funding) = refl
credit_still J new leaves (Booked from id outcome) = refl
credit_still J new leaves (Fetched count) = refl
credit_still J new leaves Opened = refl

no_booking : (event : Event) → is_booking event ≡ false → (from : ℕ) (id : List ℕ) → books from id event ≡ None
no_booking (Booked other_from other outcome) none from id = absurd (false≢true (sym none))
no_booking (Funded funding) none from id = refl
no_booking (Defunded funding) none from id = refl
no_booking (Taken other to cents stamp) none from id = refl
no_booking (Forwarded other_from other cents deadline) none from id = refl
no_booking (Fetched count) none from id = refl
no_booking Opened none from id = refl

-- what comes is no credit yet, and what is taken no debit
credit_new : (s : HubSettings) (who : ℕ) (J : List Event) (event : Event) → IsSound s who J → Fits s who J event → credit (J ++ event ∷ []) event ≡ 0
credit_new s who J (Forwarded from id cents deadline) sound fits =
    let none : booked from id J ≡ None = stranger_unbooked s who from id J sound (λ own. absurd (fits.another own)) fits.new in
    let push : booked from id (J ++ Forwarded from id cents deadline ∷ []) ≡ or_else (booked from id J) None = first_some_push (books from id) J (Forwarded from id cents deadline) in
    ap (λ o. if_accepted o cents) (push ∙ ap (λ o. or_else o None) none)
credit_new s who J (Taken id to cents stamp) sound fits = refl
credit_new s who J (Funded funding) sound fits = refl
credit_new s who J (Defunded funding) sound fits = refl
credit_new s who J (Booked from id outcome) sound fits = refl
credit_new s who J (Fetched count) sound fits = refl
credit_new s who J Opened sound fits = refl

debit_new : (s : HubSettings) (who : ℕ) (J : List Event) (event : Event) → IsSound s who J → Fits s who J event → debit (J ++ event ∷ []) event ≡ 0
debit_new s who J (Taken id to cents stamp) sound fits =
    let none : booked who id J ≡ None = stranger_unbooked s who who id J sound (λ own. fits.new) (own_unforwarded s who id J sound) in
    let push : own_booked id (J ++ Taken id to cents stamp ∷ []) ≡ or_else (own_booked id J) None = own_push s who J (Taken id to cents stamp) id sound fits in
    ap (λ o. if_accepted o cents) (push ∙ ap (λ o. or_else o None) (own_booked-booked s who J id sound ∙ none))
debit_new s who J (Forwarded from id cents deadline) sound fits = refl
debit_new s who J (Funded funding) sound fits = refl
debit_new s who J (Defunded funding) sound fits = refl
debit_new s who J (Booked from id outcome) sound fits = refl
debit_new s who J (Fetched count) sound fits = refl
debit_new s who J Opened sound fits = refl

-- a sum that each event adds to
sum_more : (f g more : Event → ℕ) (J : List Event) (event : Event) → ((e : Event) → f e ≡ g e + more e) → f event ≡ 0 → sum_by f (J ++ event ∷ []) ≡ sum_by g J + sum_by more J
sum_more f g more J event same none =
    omega (arith, sum_by_push f J event, none, sum_same f (λ e. g e + more e) J same, sum_by-both g more J)

sum_still : (f g : Event → ℕ) (J : List Event) (event : Event) → ((e : Event) → f e ≡ g e) → f event ≡ 0 → sum_by f (J ++ event ∷ []) ≡ sum_by g J + 0
sum_still f g J event same none = omega (arith, sum_by_push f J event, none, sum_same f g J same)

-- what comes in and goes out moves the position
in_and_out : (f c d b after_f after_c after_d after_b more_f more_c more_d more_b : ℕ) → d + b ≤ f + c → after_d + after_b ≤ after_f + after_c
    → after_f ≡ f + more_f → after_c ≡ c + more_c → after_d ≡ d + more_d → after_b ≡ b + more_b
    → f + c - (d + b) + (more_f + more_c) ≡ after_f + after_c - (after_d + after_b) + (more_d + more_b)
in_and_out f c d b after_f after_c after_d after_b more_f more_c more_d more_b before after = λ ff cc' dd bb. omega arith

position_moved : (s : HubSettings) (who : ℕ) (J : List Event) (event : Event) (credited debited : ℕ) → IsSound s who J → Fits s who J event
    → credits (J ++ event ∷ []) ≡ credits J + credited → debits (J ++ event ∷ []) ≡ debits J + debited
    → position J + (funding event + credited) ≡ position (J ++ event ∷ []) + (defunding event + debited)
position_moved s who J event credited debited sound fits new_credits new_debits =
    let K : List Event = J ++ event ∷ [] in
    in_and_out (funded J) (credits J) (defunded J) (debits J) (funded K) (credits K) (defunded K) (debits K) (funding event) credited (defunding event) debited
    (omega (arith, covered s who J sound)) (omega (arith, covered s who K (sound_push s who J event sound fits)))
    (sum_by_push funding J event) new_credits (sum_by_push defunding J event) new_debits

-- an event that books nothing moves the position by what it funds or defunds
pub position_funded : (s : HubSettings) (who : ℕ) (J : List Event) (event : Event) → IsSound s who J → Fits s who J event → is_booking event ≡ false
    → position J + (funding event + 0) ≡ position (J ++ event ∷ []) + (defunding event + 0)
position_funded s who J event sound fits none =
    let K : List Event = J ++ event ∷ [] in
    position_moved s who J event 0 0 sound fits
    (sum_still (credit K) (credit J) J event (credit_still J event (no_booking event none)) (credit_new s who J event sound fits))
    (sum_still (debit K) (debit J) J event (debit_still s who J event sound fits (no_booking event none who)) (debit_new s who J event sound fits))

-- what a booking credits
abbrev pub credited_by : ℕ → List ℕ → Outcome → List Event → ℕ
credited_by from id outcome J = sum_by (λ e. cond (forwards from id e) (if_accepted (Some outcome) (coming e)) 0) J

-- what a booking debits
abbrev pub debited_by : List ℕ → Outcome → List Event → ℕ
debited_by id outcome J = sum_by (λ e. cond (takes id e) (if_accepted (Some outcome) (taking e)) 0) J

-- a booking of another's transfer
pub position_credited : (s : HubSettings) (who : ℕ) (J : List Event) (from : ℕ) (id : List ℕ) (outcome : Outcome) → IsSound s who J → Fits s who J (Booked from id outcome) → from ≢ who
    → position J + (0 + credited_by from id outcome J) ≡ position (J ++ Booked from id outcome ∷ []) + (0 + 0)
position_credited s who J from id outcome sound fits another =
    let K : List Event = J ++ Booked from id outcome ∷ [] in
    let leaves : LeavesOwn who (Booked from id outcome) = λ other. ap (λ b. cond (b && same_text id other) (Some outcome) None) (ne_eqb from who another) in
    position_moved s who J (Booked from id outcome) (credited_by from id outcome J) 0 sound fits
    (sum_more (credit K) (credit J) _ J (Booked from id outcome) (credit_moved J from id outcome fits.new) refl)
    (sum_still (debit K) (debit J) J (Booked from id outcome) (debit_still s who J (Booked from id outcome) sound fits leaves) refl)

none_summed : (p : Event → Bool) (v : Event → ℕ) (J : List Event) → list_any p J ≡ false → sum_by (λ e. cond (p e) (v e) 0) J ≡ 0
none_summed p v [] none = refl
none_summed p v (event ∷ J) none =
    omega (arith, sum_by-cons (λ e. cond (p e) (v e) 0) event J, none_summed p v J (later (p event) (list_any p J) none), ap {B = ℕ} (λ b. cond b (v event) 0) (now (p event) (list_any p J) none))
  where
    now : (a b : Bool) → (a || b) ≡ false → a ≡ false
    now true b e = e
    now false b e = refl

    later : (a b : Bool) → (a || b) ≡ false → b ≡ false
    later true b e = absurd (false≢true (sym e))
    later false b e = e

-- a booking of its own transfer
pub position_debited : (s : HubSettings) (who : ℕ) (J : List Event) (id : List ℕ) (outcome : Outcome) → IsSound s who J → Fits s who J (Booked who id outcome)
    → position J + (0 + 0) ≡ position (J ++ Booked who id outcome ∷ []) + (0 + debited_by id outcome J)
position_debited s who J id outcome sound fits =
    let K : List Event = J ++ Booked who id outcome ∷ [] in
    let nothing : credited_by who id outcome J ≡ 0 = none_summed (forwards who id) (λ e. if_accepted (Some outcome) (coming e)) J (own_unforwarded s who id J sound) in
    position_moved s who J (Booked who id outcome) 0 (debited_by id outcome J) sound fits
    (sum_more (credit K) (credit J) _ J (Booked who id outcome) (credit_moved J who id outcome fits.new) refl ∙ ap (λ n. credits J + n) nothing)
    (sum_more (debit K) (debit J) _ J (Booked who id outcome) (debit_moved s who J id outcome sound fits) refl)

-- a booking that accepts nothing leaves the position
all_zero : (f : Event → ℕ) (J : List Event) → ((e : Event) → f e ≡ 0) → sum_by f J ≡ 0
all_zero f [] zeros = refl
all_zero f (event ∷ J) zeros = omega (arith, sum_by-cons f event J, zeros event, all_zero f J zeros)

nothing_either : (b : Bool) (n : ℕ) → n ≡ 0 → cond b n 0 ≡ 0
nothing_either true n none = none
nothing_either false n none = refl

pub position_released : (s : HubSettings) (who : ℕ) (J : List Event) (from : ℕ) (id : List ℕ) (outcome : Outcome) → IsSound s who J → Fits s who J (Booked from id outcome)
    → ((cents : ℕ) → if_accepted (Some outcome) cents ≡ 0) → position J + (0 + 0) ≡ position (J ++ Booked from id outcome ∷ []) + (0 + 0)
position_released s who J from id outcome sound fits released = elim (cases_eq from who) [
  | inl own ↦
      subst (λ f. Fits s who J (Booked f id outcome) → position J + (0 + 0) ≡ position (J ++ Booked f id outcome ∷ []) + (0 + 0)) (sym own)
      (λ fits'.
      let none : debited_by id outcome J ≡ 0 = all_zero _ J (λ e. nothing_either (takes id e) _ (released (taking e))) in
      let step : position J + (0 + 0) ≡ position (J ++ Booked who id outcome ∷ []) + (0 + debited_by id outcome J) = position_debited s who J id outcome sound fits' in
      step ∙ ap (λ n. position (J ++ Booked who id outcome ∷ []) + (0 + n)) none) fits
  | inr another ↦
      let none : credited_by from id outcome J ≡ 0 = all_zero _ J (λ e. nothing_either (forwards from id e) _ (released (coming e))) in
      let step : position J + (0 + credited_by from id outcome J) ≡ position (J ++ Booked from id outcome ∷ []) + (0 + 0) = position_credited s who J from id outcome sound fits another in
      sym (ap (λ n. position J + (0 + n)) none) ∙ step
]
