-- What one more event does to the live transfers of a history and to what is booked.
use Rattle.std.proofs.Common.{◌≡◌, ℕ, zero, suc, ◌<◌, Bool, true, false, cond, List, [], ◌∷◌, ◌++◌, length, inl, inr, ◌⊎◌, refl, sym, ap, ◌∙◌, subst, arith, Option, Some, None, is_none, append-nil}
use Rattle.std.specs.Prelude.{slice_get, Contains}
use Rattle.std.specs.List.{filter, cons_option}
use Rattle.std.proofs.lemmas.List.Elements.{filter_map-append, Contains-append_right}
use Rattle.inst_command.specs.declared.entry.Entry.{Entry}
use Rattle.inst_command.specs.declared.outcome.Outcome.{Outcome}
use Rattle.inst_journal.specs.declared.event.Event.{Event}
use Rattle.inst_journal.specs.declared.event.Event.TheVariants.{Forwarded, Booked}
use Rattle.inst_journal.specs.Booked.{booked, books, or_else}
use Rattle.inst_journal.specs.Opened.{is_opening, carried, is_live, takes_live, live_taken}
use Rattle.inst_journal.specs.Reply.{inbox, entry_of}
use Rattle.inst_journal.proofs.BookingsWithinTransfers.{books_itself}
use Rattle.inst_journal.proofs.EventsCarriedOverOpening.{carried_push}
use Rattle.inst_journal.proofs.OneMoreElement.{first_some_push}
use Rattle.inst_slot.specs.Book.{live_inbox}
use Rattle.inst_ledger.proofs.OwnIds.{live_taken_push, filter_push}

pub slice_get_left : {A : Type 0} (xs : List A) (x b : A) (p : ℕ) → slice_get xs p ≡ Some b → slice_get (xs ++ x ∷ []) p ≡ Some b
slice_get_left [] x b p e = let no : ⊥ = cc in absurd no
slice_get_left (y ∷ ys) x b zero e = e
slice_get_left (y ∷ ys) x b (suc p) e = slice_get_left ys x b p e

pub slice_get_at : {A : Type 0} (xs : List A) (p : ℕ) → p < length xs → (x : A) × (slice_get xs p ≡ Some x)
slice_get_at [] p below = absurd (omega arith)
slice_get_at (x ∷ xs) zero below = (x, refl)
slice_get_at (x ∷ xs) (suc p) below = slice_get_at xs p (omega arith)

filtered_step : {A : Type 0} (p : A → Bool) (y : A) (ys zs : List A) (x : A) (b : Bool) → p y ≡ b → ((j : ℕ) → slice_get zs j ≡ Some x → Contains ys x × (p x ≡ true))
    → (i : ℕ) → slice_get (cond b (y ∷ zs) zs) i ≡ Some x → Contains (y ∷ ys) x × (p x ≡ true)
filtered_step p y ys zs x true here later zero e = let same : y ≡ x = cc in (subst (Contains (y ∷ ys)) same (0, omega arith, refl), ap p (sym same) ∙ here)
filtered_step p y ys zs x true here later (suc j) e = let rest = later j e in (Contains-append_right (y ∷ []) ys x rest.0, rest.1)
filtered_step p y ys zs x false here later j e = let rest = later j e in (Contains-append_right (y ∷ []) ys x rest.0, rest.1)

-- what is got of a filtered list passes, and is in the list
pub filtered : {A : Type 0} (p : A → Bool) (xs : List A) (i : ℕ) (x : A) → slice_get (filter p xs) i ≡ Some x → Contains xs x × (p x ≡ true)
filtered p [] i x e = let no : ⊥ = cc in absurd no
filtered p (y ∷ ys) i x e = filtered_step p y ys (filter p ys) x (p y) refl (λ j f. filtered p ys j x f) i e

pub live_taken_still : (who : ℕ) (J : List Event) (e : Event) → is_opening e ≡ false → takes_live who (carried J) e ≡ false → live_taken who (J ++ e ∷ []) ≡ live_taken who J
live_taken_still who J e other here = live_taken_push who J e false other here ∙ append-nil (live_taken who J)

pub live_push : (from : ℕ) (id : List ℕ) (J : List Event) (e : Event) → is_opening e ≡ false → is_live from id (J ++ e ∷ []) ≡ is_live from id J
live_push from id J e other = ap (λ (C : List Event). is_none (booked from id C)) (carried_push J e other)

-- the live transfers that were forwarded
pub live_inbox_push : (J : List Event) (e : Event) → is_opening e ≡ false → live_inbox (J ++ e ∷ []) ≡ filter (λ entry. is_live entry.from entry.id J) (inbox J ++ cons_option (entry_of e) [])
live_inbox_push J e other =
    let same : (λ (entry : Entry). is_live entry.from entry.id (J ++ e ∷ [])) ≡ (λ (entry : Entry). is_live entry.from entry.id J) = λ k entry. live_push entry.from entry.id J e other k in
    ap (λ (f : Entry → Bool). filter f (inbox (J ++ e ∷ []))) same ∙ ap (filter (λ (entry : Entry). is_live entry.from entry.id J)) (filter_map-append entry_of J (e ∷ []))

pub live_inbox_still : (J : List Event) (e : Event) → is_opening e ≡ false → entry_of e ≡ None → live_inbox (J ++ e ∷ []) ≡ live_inbox J
live_inbox_still J e other none =
    live_inbox_push J e other
    ∙ ap (λ (o : Option Entry). filter (λ (entry : Entry). is_live entry.from entry.id J) (inbox J ++ cons_option o [])) none
    ∙ ap (filter (λ (entry : Entry). is_live entry.from entry.id J)) (append-nil (inbox J))

pub live_inbox_more : (J : List Event) (from : ℕ) (id : List ℕ) (cents deadline : ℕ) → is_live from id J ≡ true
    → live_inbox (J ++ Forwarded from id cents deadline ∷ []) ≡ live_inbox J ++ record { from = from; id = id; cents = cents; deadline = deadline } ∷ []
live_inbox_more J from id cents deadline live =
    live_inbox_push J (Forwarded from id cents deadline) refl
    ∙ filter_push (λ (entry : Entry). is_live entry.from entry.id J) (inbox J) (record { from = from; id = id; cents = cents; deadline = deadline }) true live

-- what is booked stays so
pub still_booked : (from : ℕ) (id : List ℕ) (J : List Event) (e : Event) (o : Outcome) → booked from id J ≡ Some o → booked from id (J ++ e ∷ []) ≡ Some o
still_booked from id J e o is = first_some_push (books from id) J e ∙ ap (λ (x : Option Outcome). or_else x (books from id e)) is

pub newly_booked : (from : ℕ) (id : List ℕ) (J : List Event) (o : Outcome) → booked from id J ≡ None → booked from id (J ++ Booked from id o ∷ []) ≡ Some o
newly_booked from id J o none =
    first_some_push (books from id) J (Booked from id o) ∙ ap (λ (x : Option Outcome). or_else x (books from id (Booked from id o))) none
    ∙ books_itself from id o

-- what is booked was booked before, or by this event
pub booked_cases : (from : ℕ) (id : List ℕ) (J : List Event) (e : Event) (o : Outcome) → booked from id (J ++ e ∷ []) ≡ Some o → (booked from id J ≡ Some o) ⊎ (books from id e ≡ Some o)
booked_cases from id J e o is = go (booked from id J) refl
  where
    whole : or_else (booked from id J) (books from id e) ≡ Some o
    whole = sym (first_some_push (books from id) J e) ∙ is

    go : (b : Option Outcome) → booked from id J ≡ b → (booked from id J ≡ Some o) ⊎ (books from id e ≡ Some o)
    go None none = inr (ap (λ (x : Option Outcome). or_else x (books from id e)) (sym none) ∙ whole)
    go (Some p) some = inl (let h : Some p ≡ Some o = ap (λ (x : Option Outcome). or_else x (books from id e)) (sym some) ∙ whole in some ∙ h)
