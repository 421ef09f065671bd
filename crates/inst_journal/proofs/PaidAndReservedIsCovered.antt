-- In a sound history, what was paid out and what is reserved is covered by what came in.
use Rattle.std.proofs.Common.{◌≡◌, ℕ, ◌+◌, ◌≤◌, List, [], ◌∷◌, ◌++◌, Option, Some, None, sum_by, sym, ap, ◌∙◌, subst, arith}
use Rattle.std.proofs.lemmas.List.Sums.{sum_by-le-sum_by}
use Rattle.inst_settings.specs.Settings.{HubSettings}
use Rattle.inst_command.specs.declared.outcome.Outcome.{Outcome}
use Rattle.inst_command.specs.declared.outcome.Outcome.TheVariants.{Accepted, Rejected, TimedOut}
use Rattle.inst_journal.specs.declared.event.Event.{Event}
use Rattle.inst_journal.specs.declared.event.Event.TheVariants.{Funded, Defunded, Taken, Forwarded, Booked, Fetched, Opened}
use Rattle.inst_journal.specs.Booked.{or_else, books, booked, own_booked}
use Rattle.inst_journal.specs.Sums.{funding, defunding, funded, defunded, if_accepted, amount_unbooked, credit, debit, reservation, credits, debits}
use Rattle.inst_journal.specs.Money.{reserved, available}
use Rattle.inst_journal.specs.Laws.{taking}
use Rattle.inst_journal.specs.Sound.{Fits, IsSound}
use Rattle.inst_journal.proofs.OneMoreElement.{sum_by_push, sum_by-both, first_some_push}
use Rattle.inst_journal.proofs.Soundness.{sound_induction, sound_push}
use Rattle.inst_journal.proofs.OwnBookings.{own_booked-booked}

accepted_le : (o : Option Outcome) (cents : ℕ) → if_accepted o cents + amount_unbooked o cents ≤ cents
accepted_le None cents = omega arith
accepted_le (Some Accepted) cents = omega arith
accepted_le (Some (Rejected reason)) cents = omega arith
accepted_le (Some TimedOut) cents = omega arith

-- a booking takes no more than was reserved
settled_le : (before new : Option Outcome) (cents : ℕ) → if_accepted (or_else before new) cents + amount_unbooked (or_else before new) cents ≤ if_accepted before cents + amount_unbooked before cents
settled_le None new cents = omega (arith, accepted_le new cents)
settled_le (Some outcome) new cents = omega arith

-- a credit stays
credited_le : (before new : Option Outcome) (cents : ℕ) → if_accepted before cents ≤ if_accepted (or_else before new) cents
credited_le None new cents = omega arith
credited_le (Some outcome) new cents = omega arith

-- what one more event books of the participant's own
pub own_push : (s : HubSettings) (who : ℕ) (J : List Event) (event : Event) (id : List ℕ) → IsSound s who J → Fits s who J event → own_booked id (J ++ event ∷ []) ≡ or_else (own_booked id J) (books who id event)
own_push s who J event id sound fits =
    own_booked-booked s who (J ++ event ∷ []) id (sound_push s who J event sound fits) ∙ first_some_push (books who id) J event
    ∙ ap (λ o. or_else o (books who id event)) (sym (own_booked-booked s who J id sound))

held_le : (s : HubSettings) (who : ℕ) (J : List Event) (new : Event) → IsSound s who J → Fits s who J new → (event : Event) → debit (J ++ new ∷ []) event + reservation (J ++ new ∷ []) event ≤ debit J event + reservation J event
held_le s who J new sound fits (Taken id to cents stamp) =
    subst (λ (o : Option Outcome). if_accepted o cents + amount_unbooked o cents ≤ if_accepted (own_booked id J) cents + amount_unbooked (own_booked id J) cents)
    (sym (own_push s who J new id sound fits)) (settled_le (own_booked id J) (books who id new) cents)
held_le s who J new sound fits (Funded funding) = omega arith
held_le s who J new sound fits (Defunded funding) = omega arith
held_le s who J new sound fits (Forwarded from id cents deadline) = omega arith
held_le s who J new sound fits (Booked from id outcome) = omega arith
held_le s who J new sound fits (Fetched count) = omega arith
held_le s who J new sound fits Opened = omega arith

held_new : (J : List Event) (event : Event) → debit J event + reservation J event ≤ taking event
held_new J (Taken id to cents stamp) = accepted_le (own_booked id J) cents
held_new J (Funded funding) = omega arith
held_new J (Defunded funding) = omega arith
held_new J (Forwarded from id cents deadline) = omega arith
held_new J (Booked from id outcome) = omega arith
held_new J (Fetched count) = omega arith
held_new J Opened = omega arith

credit_le : (J : List Event) (new : Event) (event : Event) → credit J event ≤ credit (J ++ new ∷ []) event
credit_le J new (Forwarded from id cents deadline) =
    subst (λ (o : Option Outcome). if_accepted (booked from id J) cents ≤ if_accepted o cents)
    (sym (first_some_push (books from id) J new)) (credited_le (booked from id J) (books from id new) cents)
credit_le J new (Taken id to cents stamp) = omega arith
credit_le J new (Funded funding) = omega arith
credit_le J new (Defunded funding) = omega arith
credit_le J new (Booked from id outcome) = omega arith
credit_le J new (Fetched count) = omega arith
credit_le J new Opened = omega arith

-- what an event takes is available before it
within : (s : HubSettings) (who : ℕ) (J : List Event) (event : Event) → Fits s who J event → defunding event + taking event ≤ available J
within s who J (Taken id to cents stamp) fits = omega (arith, fits.cover)
within s who J (Defunded funding) fits = omega (arith, fits.cover)
within s who J (Funded funding) fits = omega arith
within s who J (Forwarded from id cents deadline) fits = omega arith
within s who J (Booked from id outcome) fits = omega arith
within s who J (Fetched count) fits = omega arith
within s who J Opened fits = omega arith

-- what was paid out and what is reserved
abbrev pub IsCovered : List Event → Type 0
IsCovered J = defunded J + debits J + reserved J ≤ funded J + credits J

covered_push : (s : HubSettings) (who : ℕ) (J : List Event) (event : Event) → IsSound s who J → Fits s who J event → IsCovered J → IsCovered (J ++ event ∷ [])
covered_push s who J event sound fits before =
    let K : List Event = J ++ event ∷ [] in
    let held : ℕ = sum_by (λ e. debit K e + reservation K e) J in
    let new_funded : funded K ≡ funded J + funding event = sum_by_push funding J event in
    let new_defunded : defunded K ≡ defunded J + defunding event = sum_by_push defunding J event in
    let new_credits : credits K ≡ sum_by (credit K) J + credit K event = sum_by_push (credit K) J event in
    let new_debits : debits K ≡ sum_by (debit K) J + debit K event = sum_by_push (debit K) J event in
    let new_reserved : reserved K ≡ sum_by (reservation K) J + reservation K event = sum_by_push (reservation K) J event in
    let after : held ≡ sum_by (debit K) J + sum_by (reservation K) J = sum_by-both (debit K) (reservation K) J in
    let earlier : sum_by (λ e. debit J e + reservation J e) J ≡ debits J + reserved J = sum_by-both (debit J) (reservation J) J in
    let held_no_more : held ≤ sum_by (λ e. debit J e + reservation J e) J = sum_by-le-sum_by _ _ J (held_le s who J event sound fits) in
    let credited_no_less : credits J ≤ sum_by (credit K) J = sum_by-le-sum_by _ _ J (credit_le J event) in
    let own : debit K event + reservation K event ≤ taking event = held_new K event in
    let there : defunding event + taking event ≤ available J = within s who J event fits in
    omega arith

-- in a sound history what was paid out and what is reserved is covered
pub covered : (s : HubSettings) (who : ℕ) (J : List Event) → IsSound s who J → IsCovered J
covered s who = sound_induction s who IsCovered (omega arith) (covered_push s who)
