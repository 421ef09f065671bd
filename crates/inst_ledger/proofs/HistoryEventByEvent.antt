-- A history is kept again event by event, and what a command keeps fits.
use Rattle.std.proofs.Common.{◌≡◌, ℕ, ◌+◌, ◌<◌, List, [], ◌∷◌, ◌++◌, length, take, drop, get_or, Option, Some, None, Result, Ok, Err, inl, inr, IfOk, sym, ap, subst, ◌∙◌, arith, take-append-drop, drop-cons, add-one}
use Rattle.std.proofs.lemmas.List.{take_more}
use Rattle.inst_base.specs.declared.fault.Fault.{Fault}
use Rattle.inst_base.specs.declared.fault.Fault.TheVariants.{Memory}
use Rattle.inst_base.specs.Fault.{IsUnlessMemory}
use Rattle.inst_settings.specs.Settings.{HubSettings}
use Rattle.inst_journal.specs.declared.event.Event.{Event}
use Rattle.inst_journal.specs.declared.handle.Handled.{Handled}
use Rattle.inst_journal.specs.Reply.{kept_event, kept_events}
use Rattle.inst_journal.specs.Sound.{Fits, FitAfter, IsSound}
use Rattle.inst_journal.proofs.WalkOverFronts.{rest_fits}
use Rattle.inst_ledger.specs.Book.{LedgerBook, MayKeep}

-- an event of a sound history fits those before it
pub fits_at_place : (s : HubSettings) (who : ℕ) (J items : List Event) (i : ℕ) (x : Event) → items ≡ J → IsSound s who J → i < length items → x ≡ get_or items i x → Fits s who (take i J) x
fits_at_place s who J items i x same sound below here =
    let inside : i < length J = omega (arith, below, ap length same) in
    let there : x ≡ get_or J i x = here ∙ ap (λ l. get_or l i x) same in
    let rest : drop i J ≡ x ∷ drop (i + 1) J = rw add-one (drop-cons J i x inside) ∙ ap (λ y. y ∷ drop (i + 1) J) (sym there) in
    let split : IsSound s who (take i J ++ drop i J) = subst (IsSound s who) (sym (take-append-drop i J)) sound in
    let after : FitAfter s who (take i J) (x ∷ drop (i + 1) J) = subst (FitAfter s who (take i J)) rest (rest_fits s who [] (take i J) (drop i J) split) in
    after.0

-- one event more of it
pub one_more : (J items : List Event) (i : ℕ) (x : Event) → items ≡ J → i < length items → x ≡ get_or items i x → take (i + 1) J ≡ take i J ++ x ∷ []
one_more J items i x same below here =
    let inside : i < length J = omega (arith, below, ap length same) in
    let there : x ≡ get_or J i x = here ∙ ap (λ l. get_or l i x) same in
    take_more J i x inside ∙ ap (λ y. take i J ++ y ∷ []) (sym there)

first_fits : (book : LedgerBook) (kept : Option Event) → FitAfter book.settings book.who book.events (kept_event kept) → MayKeep book kept
first_fits book None fits = tt
first_fits book (Some event) fits = fits.0

-- what a command keeps fits the book
pub may_keep : (book : LedgerBook) (returned wanted : Result Handled Fault) → IsUnlessMemory returned wanted → FitAfter book.settings book.who book.events (kept_events wanted) → IfOk returned (λ handled. MayKeep book handled.kept)
may_keep book (Err fault) wanted is fits = tt
may_keep book (Ok handled) wanted is fits = first_fits book handled.kept (by is)
  where
    ok_err : Ok handled ≡ Err Memory → FitAfter book.settings book.who book.events (kept_event handled.kept)
    ok_err same = subst (λ (r : Result Handled Fault). FitAfter book.settings book.who book.events (kept_events r)) (sym same) tt

    by : IsUnlessMemory (Ok handled) wanted → FitAfter book.settings book.who book.events (kept_event handled.kept)
    by is' = elim is' [
      | inl memory ↦ ok_err memory
      | inr same ↦ subst (λ (r : Result Handled Fault). FitAfter book.settings book.who book.events (kept_events r)) (sym same) fits
    ]
