-- What one more event does to a table, and what a table tells of the history.
use Rattle.std.proofs.Common.{◌≡◌, ℕ, Bool, true, false, cond, List, [], ◌∷◌, ◌++◌, Option, Some, None, is_some, refl, sym, ap, ◌∙◌}
use Rattle.std.specs.Cmp.Lexicographic.{same_text as text_same}
use Rattle.inst_settings.specs.Settings.{same_text}
use Rattle.inst_journal.specs.declared.event.Event.{Event}
use Rattle.inst_journal.specs.declared.event.Event.TheVariants.{Funded, Defunded, Taken, Forwarded, Booked, Fetched, Opened}
use Rattle.inst_journal.specs.Booked.{or_else, first_some, takes, is_taken}
use Rattle.inst_journal.proofs.OneMoreElement.{first_some_push, or_else-none}
use Rattle.inst_ledger.specs.declared.sending.Sending.{Sending}
use Rattle.inst_ledger.specs.Kept.{sending_of, IsTable}
use Rattle.inst_statement.proofs.AmountAndTermsInHistory.{some_cond, none_of, any_first}
use Rattle.inst_statement.proofs.Tables.{put_first}

-- an event of a new key, put into the table
pub table_put : {K V : Type 0} (eq : K → K → Bool) (gives : K → Event → Option V) (J : List Event) (event : Event) (k : K) (v : V) (old new : K → Option V) → IsTable gives J old
    → ((q : K) → new q ≡ cond (eq k q) (Some v) (old q)) → ((q : K) → gives q event ≡ cond (eq k q) (Some v) None) → ((q : K) → eq k q ≡ true → first_some (gives q) J ≡ None)
    → IsTable gives (J ++ event ∷ []) new
table_put eq gives J event k v old new before put at absent q =
    put q ∙ ap (cond (eq k q) (Some v)) (before q) ∙ sym (put_first (eq k q) (first_some (gives q) J) v (absent q)) ∙ ap (or_else (first_some (gives q) J)) (sym (at q))
    ∙ sym (first_some_push (gives q) J event)

-- an event of no key
pub table_keep : {K V : Type 0} (gives : K → Event → Option V) (J : List Event) (event : Event) (found : K → Option V) → IsTable gives J found
    → ((q : K) → gives q event ≡ None) → IsTable gives (J ++ event ∷ []) found
table_keep gives J event found before none q =
    before q ∙ sym (first_some_push (gives q) J event ∙ ap (or_else (first_some (gives q) J)) (none q) ∙ or_else-none (first_some (gives q) J))

takes_sending : (id : List ℕ) (event : Event) → takes id event ≡ is_some (sending_of id event)
takes_sending id (Taken other to cents stamp) = some_cond {A = Sending} (same_text other id) (record { to = to; cents = cents; stamp = stamp })
takes_sending id (Funded funding) = refl
takes_sending id (Defunded funding) = refl
takes_sending id (Forwarded from other cents deadline) = refl
takes_sending id (Booked from other outcome) = refl
takes_sending id (Fetched count) = refl
takes_sending id Opened = refl

-- a submission is taken where something is found to be sent
pub taken_found : (id : List ℕ) (J : List Event) → is_taken id J ≡ is_some (first_some (sending_of id) J)
taken_found id J = any_first (takes id) (sending_of id) (takes_sending id) J

pub sending_absent : (id q : List ℕ) (J : List Event) → is_taken id J ≡ false → same_text id q ≡ true → first_some (sending_of q) J ≡ None
sending_absent id q J new same = none_of _ (sym (taken_found q J) ∙ ap (λ i. is_taken i J) (sym (text_same id q (sym same))) ∙ new)
