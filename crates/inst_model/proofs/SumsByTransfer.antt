-- Debits and reservations, transfer by transfer.
use Rattle.std.proofs.Common.{◌≡◌, ℕ, List, [], ◌∷◌, refl, ap, ◌∙◌, arith, sum_by}
use Rattle.std.proofs.lemmas.List.Sums.{sum_by-cons}
use Rattle.inst_settings.specs.Settings.{HubSettings}
use Rattle.inst_journal.specs.declared.event.Event.{Event}
use Rattle.inst_journal.specs.declared.event.Event.TheVariants.{Funded, Defunded, Taken, Forwarded, Booked, Fetched, Opened}
use Rattle.inst_journal.specs.Booked.{booked, own_booked}
use Rattle.inst_journal.specs.Money.{reserved}
use Rattle.inst_journal.specs.Sound.{IsSound}
use Rattle.inst_journal.specs.Sums.{if_accepted, amount_unbooked, debit, debits, reservation}
use Rattle.inst_journal.proofs.OwnBookings.{own_booked-booked}
use Rattle.inst_model.specs.Transfer.{Transfer, transfers}
use Rattle.inst_model.proofs.Sums.{sum_by_same, each_of}
use Rattle.inst_model.proofs.Transfers.{as_transfer}

-- a measure of taken events
abbrev at_taken : (Transfer → ℕ) → Event → ℕ
at_taken h (Taken id to cents stamp) = h (as_transfer id to cents stamp)
at_taken h (Funded funding) = 0
at_taken h (Defunded funding) = 0
at_taken h (Forwarded from id cents d) = 0
at_taken h (Booked from id o) = 0
at_taken h (Fetched count) = 0
at_taken h Opened = 0

-- the taken events measure as the transfers
sum_taken : (h : Transfer → ℕ) (J : List Event) → sum_by (at_taken h) J ≡ sum_by h (transfers J)
sum_taken h [] = refl
sum_taken h (Taken id to cents stamp ∷ J) = omega (arith, sum_by-cons (at_taken h) (Taken id to cents stamp) J, sum_by-cons h (as_transfer id to cents stamp) (transfers J), sum_taken h J)
sum_taken h (Funded funding ∷ J) = omega (arith, sum_by-cons (at_taken h) (Funded funding) J, sum_taken h J)
sum_taken h (Defunded funding ∷ J) = omega (arith, sum_by-cons (at_taken h) (Defunded funding) J, sum_taken h J)
sum_taken h (Forwarded from id cents d ∷ J) = omega (arith, sum_by-cons (at_taken h) (Forwarded from id cents d) J, sum_taken h J)
sum_taken h (Booked from id o ∷ J) = omega (arith, sum_by-cons (at_taken h) (Booked from id o) J, sum_taken h J)
sum_taken h (Fetched count ∷ J) = omega (arith, sum_by-cons (at_taken h) (Fetched count) J, sum_taken h J)
sum_taken h (Opened ∷ J) = omega (arith, sum_by-cons (at_taken h) Opened J, sum_taken h J)

debit_taken : (p : ℕ) (J : List Event) → ((id : List ℕ) → own_booked id J ≡ booked p id J) → (event : Event) → debit J event ≡ at_taken (λ x. if_accepted (booked p x.id J) x.cents) event
debit_taken p J own (Taken id to cents stamp) = ap (λ o. if_accepted o cents) (own id)
debit_taken p J own (Funded funding) = refl
debit_taken p J own (Defunded funding) = refl
debit_taken p J own (Forwarded from id cents d) = refl
debit_taken p J own (Booked from id o) = refl
debit_taken p J own (Fetched count) = refl
debit_taken p J own Opened = refl

reservation_taken : (p : ℕ) (J : List Event) → ((id : List ℕ) → own_booked id J ≡ booked p id J) → (event : Event) → reservation J event ≡ at_taken (λ x. amount_unbooked (booked p x.id J) x.cents) event
reservation_taken p J own (Taken id to cents stamp) = ap (λ o. amount_unbooked o cents) (own id)
reservation_taken p J own (Funded funding) = refl
reservation_taken p J own (Defunded funding) = refl
reservation_taken p J own (Forwarded from id cents d) = refl
reservation_taken p J own (Booked from id o) = refl
reservation_taken p J own (Fetched count) = refl
reservation_taken p J own Opened = refl

-- debits and reservations by transfer
pub debits_by_transfer : (s : HubSettings) (p : ℕ) (J : List Event) → IsSound s p J → debits J ≡ sum_by (λ (x : Transfer). if_accepted (booked p x.id J) x.cents) (transfers J)
debits_by_transfer s p J sound =
    let h : Transfer → ℕ = λ x. if_accepted (booked p x.id J) x.cents in
    sum_by_same (debit J) (at_taken h) J (each_of (λ event. debit J event ≡ at_taken h event) J (debit_taken p J (λ id. own_booked-booked s p J id sound))) ∙ sum_taken h J

pub reserved_by_transfer : (s : HubSettings) (p : ℕ) (J : List Event) → IsSound s p J → reserved J ≡ sum_by (λ (x : Transfer). amount_unbooked (booked p x.id J) x.cents) (transfers J)
reserved_by_transfer s p J sound =
    let h : Transfer → ℕ = λ x. amount_unbooked (booked p x.id J) x.cents in
    sum_by_same (reservation J) (at_taken h) J (each_of (λ event. reservation J event ≡ at_taken h event) J (reservation_taken p J (λ id. own_booked-booked s p J id sound))) ∙ sum_taken h J
