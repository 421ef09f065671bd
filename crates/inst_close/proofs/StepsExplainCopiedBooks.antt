-- Steps that explain copies of the books explain the books.
use Rattle.std.proofs.Common.{◌≡◌, ◌∙◌, ℕ, List, Option, Some, None, Result, Ok, Err, IfOk, IfSome, sym, subst, ap}
use Rattle.inst_settings.specs.Settings.{HubSettings}
use Rattle.inst_command.specs.declared.step.Step.{Step}
use Rattle.inst_journal.specs.History.{History}
use Rattle.inst_model.specs.Opening.{Opening}
use Rattle.inst_model.specs.Opening.Opening.{FromBooks}
use Rattle.inst_slot.specs.Book.{Book}
use Rattle.inst_world.specs.NextOpening.{books_of, opening_from}
use Rattle.inst_participant.specs.Together.{histories}
use Rattle.inst_order.specs.Order.{ExplainsBooks, ExplainsJournals}
use Rattle.inst_order.proofs.StepsExplainJournals.{same_books, nobody_else}
use Rattle.inst_close.specs.inner.NextOpening.{AreCopies, AreCopiesAnd}

pub of_copies : (s seen_settings : HubSettings) (O : Opening) (steps : List Step) (books : List Book) (journals seen : List History) → seen_settings ≡ s → seen ≡ journals → AreCopies books journals
    → ExplainsJournals seen_settings O steps seen → ExplainsBooks s O steps (histories books)
of_copies s seen_settings O steps books journals seen same is are saw =
    let explains : ExplainsJournals s O steps journals =
    subst (λ (l : List History). ExplainsJournals s O steps l) is (subst (λ (t : HubSettings). ExplainsJournals t O steps seen) same saw) in
    same_books s O steps (books_of journals) (histories books) _ explains.headline
    (λ p one. sym (are.same p)) (λ p none. sym (are.same p) ∙ nobody_else s journals explains.one_each p none)

-- the opening from copies of books, with empty ones for participants that joined, is the opening from the books
pub opening_of_copies : (before : List Book) (more : ℕ) (journals seen : List History) → seen ≡ journals → AreCopiesAnd before more journals → opening_from seen ≡ FromBooks (histories before)
opening_of_copies before more journals seen is are = ap opening_from is ∙ ap FromBooks (λ k p. are.same p k)

-- what holds of a value that is found, where something holds of each that the callee finds
pub if_found : {V E : Type 0} (P Q : V → Type 0) → ((v : V) → P v → Q v) → (found : Result (Option V) E) → IfOk found (λ o. IfSome o P) → IfOk found (λ o. IfSome o Q)
if_found P Q then (Ok (Some v)) is = then v is
if_found P Q then (Ok None) is = tt
if_found P Q then (Err e) is = tt
