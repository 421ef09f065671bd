-- What a look at the table tells of a command that may decide a transfer.
use Rattle.std.proofs.Common.{◌≡◌, ℕ, false, List, refl, sym, ap, ◌∙◌, Option, Some, None, is_some}
use Rattle.std.specs.Prelude.{slice_get, position}
use Rattle.std.proofs.lemmas.Bool.{true≢false}
use Rattle.inst_command.specs.declared.outcome.Outcome.{Outcome}
use Rattle.inst_board.specs.declared.wish.Wish.{Wish}
use Rattle.inst_board.specs.declared.wish.Wish.TheVariants.{Expire}
use Rattle.inst_journal.specs.declared.event.Event.{Event}
use Rattle.inst_journal.specs.Booked.{takes, is_taken, booked}
use Rattle.inst_journal.specs.Opened.{carried, live_taken}
use Rattle.inst_ledger.specs.Right.{IsRight, own_ids, sending_in}
use Rattle.inst_ledger.proofs.Tables.{taken_found}
use Rattle.inst_ledger.proofs.OwnIds.{own_taken_only}
use Rattle.inst_transfers.specs.declared.transfer.Transfer.{Transfer}
use Rattle.inst_transfers.specs.State.{State, outcome_in}
use Rattle.inst_slot.specs.Book.{place_at}
use Rattle.inst_slot.specs.Asking.{wish_for}
use Rattle.inst_slot.proofs.OwnIds.{own_index_is, own_position}

-- no place, no request
pub wish_none : (wish : Wish) (owner : ℕ) (o : Option Outcome) (r : Option ℕ) → r ≡ None → wish_for wish owner o r ≡ None
wish_none wish owner None None e = refl
wish_none wish owner (Some x) None e = refl
wish_none wish owner o (Some i) e = let no : ⊥ = cc in absurd no

pub none_is : (o : Option Outcome) → is_some o ≡ false → o ≡ None
none_is None e = refl
none_is (Some x) e = absurd (true≢false e)

-- an own transfer is live where its place is found
pub own_position_is : (who : ℕ) (J : List Event) (id : List ℕ) (r : Option ℕ) → ((k : ℕ) → slice_get (own_ids who J) k ≡ Some id → r ≡ Some k) → ((k : ℕ) → r ≡ Some k → slice_get (own_ids who J) k ≡ Some id)
    → position (takes id) (live_taken who J) ≡ r
own_position_is who J id r at only = sym (own_index_is id (own_ids who J) r at only ∙ own_position who J id)

-- what isn't in the table wasn't taken
pub unknown_question : (who : ℕ) (J : List Event) (st : State) (id : List ℕ) → IsRight who J st → st.found (who, id) ≡ None
    → wish_for Expire who (booked who id J) (position (takes id) (live_taken who J)) ≡ None
unknown_question who J st id right none =
    let known : is_taken id J ≡ false = taken_found id J ∙ ap is_some (sym (right.taken id)) ∙ ap (λ (o : Option Transfer). is_some (sending_in o)) none in
    wish_none Expire who (booked who id J) (position (takes id) (live_taken who J)) (own_position_is who J id None
    (λ k there. absurd (true≢false (sym (own_taken_only who (carried J) id J k there) ∙ known)))
    (λ k e. let no : ⊥ = cc in absurd no))

-- one with nothing booked is asked for
pub known_question : (who : ℕ) (J : List Event) (st : State) (id : List ℕ) (t : Transfer) (index : ℕ) → IsRight who J st → st.found (who, id) ≡ Some t → is_some t.outcome ≡ false → position (takes id) (live_taken who J) ≡ Some index
    → wish_for Expire who (booked who id J) (position (takes id) (live_taken who J)) ≡ Some (place_at who index, Expire)
known_question who J st id t index right there none at =
    let new : booked who id J ≡ None = sym (right.booked (who, id)) ∙ ap outcome_in there ∙ none_is t.outcome none in
    ap (λ (o : Option Outcome). wish_for Expire who o (position (takes id) (live_taken who J))) new ∙ ap (wish_for Expire who None) at
