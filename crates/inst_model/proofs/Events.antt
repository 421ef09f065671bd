-- The events that take and book a transfer.
use Rattle.std.proofs.Common.{◌≡◌, ℕ, zero, suc, true, List, [], ◌∷◌, ◌++◌, Some, refl, sym, ap, subst, ◌∙◌, inl, inr, arith, Contains}
use Rattle.std.proofs.lemmas.List.Elements.{Contains-append_right}
use Rattle.std.proofs.lemmas.Option.{cond_some}
use Rattle.inst_settings.specs.Settings.{HubSettings, same_text}
use Rattle.inst_command.specs.declared.outcome.Outcome.{Outcome}
use Rattle.inst_journal.specs.declared.event.Event.{Event}
use Rattle.inst_journal.specs.declared.event.Event.TheVariants.{Funded, Defunded, Taken, Forwarded, Booked, Fetched, Opened}
use Rattle.inst_journal.specs.Booked.{or_else, books, booked, same_transfer}
use Rattle.inst_journal.specs.Sound.{Fits, IsSound}
use Rattle.inst_journal.proofs.Soundness.{sound_induction}
use Rattle.inst_model.specs.Transfer.{terms_named, Transfer, transfers, transfer}
use Rattle.inst_model.proofs.TextsTestsAndFirstThings.{Each, Each_push, Each_weaker, Each_contains, or_else_cases, same_transfer-true}
use Rattle.inst_model.proofs.Transfers.{taken_at, as_transfer, transfer_kept, transfer_new}

-- the event that took a transfer
abbrev pub taken_event : Transfer → Event
taken_event x = Taken x.id x.to x.cents x.stamp

head_there : {A : Type 0} (x : A) (xs : List A) → Contains (x ∷ xs) x
head_there x xs = (zero, omega arith, refl)

later : (x : Event) (J : List Event) → Each (λ (t : Transfer). Contains J (taken_event t)) (transfers J) → Each (λ (t : Transfer). Contains (x ∷ J) (taken_event t)) (transfers J)
later x J each = Each_weaker (λ (t : Transfer). Contains J (taken_event t)) (λ (t : Transfer). Contains (x ∷ J) (taken_event t)) (transfers J) (λ t there. Contains-append_right (x ∷ []) J (taken_event t) there) each

-- each transfer of a history was taken by an event
pub each_there : (J : List Event) → Each (λ (t : Transfer). Contains J (taken_event t)) (transfers J)
each_there [] = tt
each_there (Taken id to cents stamp ∷ J) = (head_there (Taken id to cents stamp) J, later (Taken id to cents stamp) J (each_there J))
each_there (Funded funding ∷ J) = later (Funded funding) J (each_there J)
each_there (Defunded funding ∷ J) = later (Defunded funding) J (each_there J)
each_there (Forwarded from id cents d ∷ J) = later (Forwarded from id cents d) J (each_there J)
each_there (Booked from id o ∷ J) = later (Booked from id o) J (each_there J)
each_there (Fetched count ∷ J) = later (Fetched count) J (each_there J)
each_there (Opened ∷ J) = later Opened J (each_there J)

-- a taken event is found by its identifier
abbrev IsFound : List Event → Event → Type 0
IsFound J (Taken id to cents stamp) = transfer id J ≡ Some (as_transfer id to cents stamp)
IsFound J (Funded funding) = Unit {0}
IsFound J (Defunded funding) = Unit {0}
IsFound J (Forwarded from id cents d) = Unit {0}
IsFound J (Booked from id o) = Unit {0}
IsFound J (Fetched count) = Unit {0}
IsFound J Opened = Unit {0}

found_later : (J : List Event) (new event : Event) → IsFound J event → IsFound (J ++ new ∷ []) event
found_later J new (Taken id to cents stamp) is = transfer_kept id J new (as_transfer id to cents stamp) is
found_later J new (Funded funding) is = tt
found_later J new (Defunded funding) is = tt
found_later J new (Forwarded from id cents d) is = tt
found_later J new (Booked from id o) is = tt
found_later J new (Fetched count) is = tt
found_later J new Opened is = tt

found_new : (s : HubSettings) (who : ℕ) (J : List Event) (event : Event) → Fits s who J event → IsFound (J ++ event ∷ []) event
found_new s who J (Taken id to cents stamp) fits = transfer_new id to cents stamp J fits.new
found_new s who J (Funded funding) fits = tt
found_new s who J (Defunded funding) fits = tt
found_new s who J (Forwarded from id cents d) fits = tt
found_new s who J (Booked from id o) fits = tt
found_new s who J (Fetched count) fits = tt
found_new s who J Opened fits = tt

pub taken_found : (s : HubSettings) (who : ℕ) (J : List Event) (id : List ℕ) (to cents stamp : ℕ) → IsSound s who J → Contains J (Taken id to cents stamp) → transfer id J ≡ Some (as_transfer id to cents stamp)
taken_found s who J id to cents stamp sound there =
    Each_contains (IsFound J) J (Taken id to cents stamp)
    (sound_induction s who (λ K. Each (IsFound K) K) tt
    (λ K event before_sound fits before.
    Each_push (IsFound (K ++ event ∷ [])) K event (Each_weaker (IsFound K) (IsFound (K ++ event ∷ [])) K (found_later K event) before) (found_new s who K event fits)) J sound)
    there

book_there : (from : ℕ) (id : List ℕ) (o : Outcome) (event : Event) (J : List Event) → books from id event ≡ Some o → Contains (event ∷ J) (Booked from id o)
book_there from id o (Booked other_from other p) J e =
    let parts : (same_transfer from id other_from other ≡ true) × (p ≡ o) = cond_some (same_transfer from id other_from other) p o e in
    let same : (other_from ≡ from) × (other ≡ id) = same_transfer-true from id other_from other parts.0 in
    let is : Booked other_from other p ≡ Booked from id o = ap (λ q. Booked q other p) same.0 ∙ ap (λ (i : List ℕ). Booked from i p) same.1 ∙ ap (Booked from id) parts.1 in
    subst (λ (event : Event). Contains (event ∷ J) (Booked from id o)) (sym is) (head_there (Booked from id o) J)
book_there from id o (Funded funding) J e = absurd cc
book_there from id o (Defunded funding) J e = absurd cc
book_there from id o (Taken other to cents stamp) J e = absurd cc
book_there from id o (Forwarded other_from other cents d) J e = absurd cc
book_there from id o (Fetched count) J e = absurd cc
book_there from id o Opened J e = absurd cc

-- what is booked was booked by an event
pub booked_there : (from : ℕ) (id : List ℕ) (o : Outcome) (J : List Event) → booked from id J ≡ Some o → Contains J (Booked from id o)
booked_there from id o [] e = absurd cc
booked_there from id o (event ∷ J) e =
    elim (or_else_cases (books from id event) (booked from id J) o e) [
      | inl here ↦ book_there from id o event J here
      | inr rest ↦ Contains-append_right (event ∷ []) J (Booked from id o) (booked_there from id o J rest.1)
    ]

-- a transfer that is named stands at a place, after one more event in front
stands : (id : List ℕ) (event : Event) (J : List Event) (x : Transfer) → or_else (terms_named id event) (transfer id J) ≡ Some x → (transfer id J ≡ Some x → (k : ℕ) × (taken_at J k ≡ Some x)) → (k : ℕ) × (taken_at (event ∷ J) k ≡ Some x)
stands id (Taken other to cents stamp) J x e later =
    elim (or_else_cases (terms_named id (Taken other to cents stamp)) (transfer id J) x e) [
      | inl here ↦ (zero, ap Some (cond_some (same_text other id) (as_transfer other to cents stamp) x here).1)
      | inr rest ↦ let found = later rest.1 in (suc found.0, found.1)
    ]
stands id (Funded funding) J x e later = later e
stands id (Defunded funding) J x e later = later e
stands id (Forwarded from other cents d) J x e later = later e
stands id (Booked from other o) J x e later = later e
stands id (Fetched count) J x e later = later e
stands id Opened J x e later = later e

pub stands_somewhere : (id : List ℕ) (J : List Event) (x : Transfer) → transfer id J ≡ Some x → (k : ℕ) × (taken_at J k ≡ Some x)
stands_somewhere id [] x e = absurd cc
stands_somewhere id (event ∷ J) x e = stands id event J x e (stands_somewhere id J x)
