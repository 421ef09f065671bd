-- Taken transfers by place and by identifier.
use Rattle.std.proofs.Common.{◌≡◌, ◌≢◌, ℕ, zero, suc, ◌<◌, Bool, true, false, ◌||◌, cond, List, [], ◌∷◌, ◌++◌, length, Option, Some, None, is_some, refl, sym, ap, subst, ◌∙◌, inl, inr, append-nil, ltb-true}
use Rattle.std.specs.List.{cons_option, filter, slice_get}
use Rattle.std.proofs.lemmas.List.Elements.{filter_map-append}
use Rattle.std.proofs.lemmas.Option.{cond_some, same_Some}
use Rattle.inst_settings.specs.Settings.{HubSettings, same_text, participants}
use Rattle.inst_journal.specs.declared.event.Event.{Event}
use Rattle.inst_journal.specs.declared.event.Event.TheVariants.{Funded, Defunded, Taken, Forwarded, Booked, Fetched, Opened}
use Rattle.inst_journal.specs.Booked.{or_else, is_taken}
use Rattle.inst_journal.specs.Sound.{Fits, IsSound}
use Rattle.inst_journal.specs.Opened.{is_live}
use Rattle.inst_journal.proofs.Soundness.{sound_induction}
use Rattle.inst_model.specs.Transfer.{Transfer, terms, terms_named, transfers, at_place, transfer}
use Rattle.inst_model.proofs.TextsTestsAndFirstThings.{Each, Each_push, Each_weaker, Each_at, first_some_push, or_else_kept, or_else_cases, same_text-true, same_text_refl}

-- the same terms as a value
abbrev pub as_transfer : List ℕ → ℕ → ℕ → ℕ → Transfer
as_transfer id to cents stamp = record { id = id; to = to; cents = cents; stamp = stamp }

pub transfers_push : (J : List Event) (event : Event) → transfers (J ++ event ∷ []) ≡ transfers J ++ cons_option (terms event) []
transfers_push J event = filter_map-append terms J (event ∷ [])

pub transfer_push : (id : List ℕ) (J : List Event) (event : Event) → transfer id (J ++ event ∷ []) ≡ or_else (transfer id J) (terms_named id event)
transfer_push id J event = first_some_push (terms_named id) J event

named_or : (b : Bool) (x : Transfer) (o : Option Transfer) → is_some (or_else (cond b (Some x) None) o) ≡ (b || is_some o)
named_or true x o = refl
named_or false x o = refl

-- a transfer is there where its identifier is taken
pub transfer_some : (id : List ℕ) (J : List Event) → is_some (transfer id J) ≡ is_taken id J
transfer_some id [] = refl
transfer_some id (Taken other to cents stamp ∷ J) =
    named_or (same_text other id) (as_transfer other to cents stamp) (transfer id J) ∙ ap (λ b. same_text other id || b) (transfer_some id J)
transfer_some id (Funded funding ∷ J) = transfer_some id J
transfer_some id (Defunded funding ∷ J) = transfer_some id J
transfer_some id (Forwarded from other cents deadline ∷ J) = transfer_some id J
transfer_some id (Booked from other o ∷ J) = transfer_some id J
transfer_some id (Fetched count ∷ J) = transfer_some id J
transfer_some id (Opened ∷ J) = transfer_some id J

is_some-false : {A : Type 0} (o : Option A) → is_some o ≡ false → o ≡ None
is_some-false None e = refl
is_some-false (Some x) e = cc

is_some-true : {A : Type 0} (o : Option A) → is_some o ≡ true → (x : A) × (o ≡ Some x)
is_some-true None e = absurd cc
is_some-true (Some x) e = (x, refl)

pub transfer_none : (id : List ℕ) (J : List Event) → is_taken id J ≡ false → transfer id J ≡ None
transfer_none id J e = is_some-false (transfer id J) (transfer_some id J ∙ e)

pub taken_transfer : (id : List ℕ) (J : List Event) → is_taken id J ≡ true → (x : Transfer) × (transfer id J ≡ Some x)
taken_transfer id J e = is_some-true (transfer id J) (transfer_some id J ∙ e)

pub transfer_taken : (id : List ℕ) (J : List Event) (x : Transfer) → transfer id J ≡ Some x → is_taken id J ≡ true
transfer_taken id J x e = sym (transfer_some id J) ∙ ap is_some e

terms_id : (id : List ℕ) (event : Event) (x : Transfer) → terms_named id event ≡ Some x → x.id ≡ id
terms_id id (Taken other to cents stamp) x e =
    let parts : (same_text other id ≡ true) × (as_transfer other to cents stamp ≡ x) = cond_some (same_text other id) (as_transfer other to cents stamp) x e in
    sym (ap (λ (y : Transfer). y.id) parts.1) ∙ same_text-true other id parts.0
terms_id id (Funded funding) x e = absurd cc
terms_id id (Defunded funding) x e = absurd cc
terms_id id (Forwarded from other cents deadline) x e = absurd cc
terms_id id (Booked from other o) x e = absurd cc
terms_id id (Fetched count) x e = absurd cc
terms_id id Opened x e = absurd cc

-- a transfer has the identifier that it is looked up by
pub transfer_id : (id : List ℕ) (J : List Event) (x : Transfer) → transfer id J ≡ Some x → x.id ≡ id
transfer_id id [] x e = absurd cc
transfer_id id (event ∷ J) x e =
    elim (or_else_cases (terms_named id event) (transfer id J) x e) [
      | inl here ↦ terms_id id event x here
      | inr later ↦ transfer_id id J x later.1
    ]

pub transfer_kept : (id : List ℕ) (J : List Event) (event : Event) (x : Transfer) → transfer id J ≡ Some x → transfer id (J ++ event ∷ []) ≡ Some x
transfer_kept id J event x e = transfer_push id J event ∙ or_else_kept (transfer id J) (terms_named id event) x e

-- a new transfer is found by its identifier
pub transfer_new : (id : List ℕ) (to cents stamp : ℕ) (J : List Event) → is_taken id J ≡ false → transfer id (J ++ Taken id to cents stamp ∷ []) ≡ Some (as_transfer id to cents stamp)
transfer_new id to cents stamp J new =
    transfer_push id J (Taken id to cents stamp)
    ∙ ap (λ o. or_else o (terms_named id (Taken id to cents stamp))) (transfer_none id J new)
    ∙ ap (λ b. cond b (Some (as_transfer id to cents stamp)) None) (same_text_refl id)

-- what holds of each transfer, through one more event
each_push : (P : Transfer → Type 0) (J : List Event) (event : Event) → Each P (transfers J) → ((x : Transfer) → terms event ≡ Some x → P x) → Each P (transfers (J ++ event ∷ []))
each_push P J event each new = subst (Each P) (sym (transfers_push J event)) (pushed (terms event) refl)
  where
    pushed : (o : Option Transfer) → terms event ≡ o → Each P (transfers J ++ cons_option o [])
    pushed None is = subst (Each P) (sym (append-nil (transfers J))) each
    pushed (Some x) is = Each_push P (transfers J) x each (new x is)

found_itself : (s : HubSettings) (who : ℕ) (J : List Event) (event : Event) (x : Transfer) → Fits s who J event → terms event ≡ Some x → transfer x.id (J ++ event ∷ []) ≡ Some x
found_itself s who J (Taken id to cents stamp) x fits is =
    let same : as_transfer id to cents stamp ≡ x = same_Some (as_transfer id to cents stamp) x is in
    subst (λ (y : Transfer). transfer y.id (J ++ Taken id to cents stamp ∷ []) ≡ Some y) same (transfer_new id to cents stamp J fits.new)
found_itself s who J (Funded funding) x fits is = absurd cc
found_itself s who J (Defunded funding) x fits is = absurd cc
found_itself s who J (Forwarded from id cents deadline) x fits is = absurd cc
found_itself s who J (Booked from id o) x fits is = absurd cc
found_itself s who J (Fetched count) x fits is = absurd cc
found_itself s who J Opened x fits is = absurd cc

each_found : (s : HubSettings) (who : ℕ) (J : List Event) → IsSound s who J → Each (λ (x : Transfer). transfer x.id J ≡ Some x) (transfers J)
each_found s who = sound_induction s who (λ J. Each (λ (x : Transfer). transfer x.id J ≡ Some x) (transfers J)) tt
    (λ J event sound fits before.
    each_push (λ (x : Transfer). transfer x.id (J ++ event ∷ []) ≡ Some x) J event
    (Each_weaker (λ (x : Transfer). transfer x.id J ≡ Some x) (λ (x : Transfer). transfer x.id (J ++ event ∷ []) ≡ Some x) (transfers J) (λ x e. transfer_kept x.id J event x e) before)
    (λ x is. found_itself s who J event x fits is))

-- the taken transfer with this number
abbrev pub taken_at : List Event → ℕ → Option Transfer
taken_at J n = slice_get (transfers J) n

filter_there : (p : Transfer → Bool) (xs : List Transfer) (k : ℕ) (x : Transfer) → slice_get (filter p xs) k ≡ Some x → (n : ℕ) × (slice_get xs n ≡ Some x)
filter_there p [] k x e = absurd cc
filter_there p (y ∷ xs) k x e = go (λ n f. filter_there p xs n x f) (p y) k e
  where
    go : ((n : ℕ) → slice_get (filter p xs) n ≡ Some x → (m : ℕ) × (slice_get xs m ≡ Some x)) → (b : Bool) (k : ℕ) → slice_get (cond b (y ∷ filter p xs) (filter p xs)) k ≡ Some x → (n : ℕ) × (slice_get (y ∷ xs) n ≡ Some x)
    go later false k e = let rest = later k e in (suc rest.0, rest.1)
    go later true zero e = (zero, e)
    go later true (suc k) e = let rest = later k e in (suc rest.0, rest.1)

-- what stands at a place is taken with some number
pub place_there : (who : ℕ) (J : List Event) (k : ℕ) (x : Transfer) → at_place who J k ≡ Some x → (n : ℕ) × (taken_at J n ≡ Some x)
place_there who J k x e = filter_there (λ y. is_live who y.id J) (transfers J) k x e

filter_passing : (p : Transfer → Bool) (xs : List Transfer) (k : ℕ) (x : Transfer) → slice_get (filter p xs) k ≡ Some x → p x ≡ true
filter_passing p [] k x e = absurd cc
filter_passing p (y ∷ xs) k x e = go (λ n f. filter_passing p xs n x f) (p y) refl k e
  where
    go : ((n : ℕ) → slice_get (filter p xs) n ≡ Some x → p x ≡ true) → (b : Bool) → p y ≡ b → (k : ℕ) → slice_get (cond b (y ∷ filter p xs) (filter p xs)) k ≡ Some x → p x ≡ true
    go later false is k e = later k e
    go later true is zero e = ap p (sym (same_Some y x e)) ∙ is
    go later true is (suc k) e = later k e

-- what stands at a place is live
pub place_live : (who : ℕ) (J : List Event) (k : ℕ) (x : Transfer) → at_place who J k ≡ Some x → is_live who x.id J ≡ true
place_live who J k x e = filter_passing (λ y. is_live who y.id J) (transfers J) k x e

stands_live : (p : Transfer → Bool) (xs : List Transfer) (n : ℕ) (x : Transfer) → slice_get xs n ≡ Some x → p x ≡ true → (k : ℕ) × (slice_get (filter p xs) k ≡ Some x)
stands_live p [] n x e live = absurd cc
stands_live p (y ∷ xs) zero x e live =
    let first : p y ≡ true = ap p (same_Some y x e) ∙ live in
    (zero, ap (λ b. slice_get (cond b (y ∷ filter p xs) (filter p xs)) zero) first ∙ e)
stands_live p (y ∷ xs) (suc n) x e live = go (p y) (stands_live p xs n x e live)
  where
    go : (b : Bool) → (k : ℕ) × (slice_get (filter p xs) k ≡ Some x) → (k : ℕ) × (slice_get (cond b (y ∷ filter p xs) (filter p xs)) k ≡ Some x)
    go true rest = (suc rest.0, rest.1)
    go false rest = rest

-- a live taken transfer stands at a place
pub live_place : (who : ℕ) (J : List Event) (n : ℕ) (x : Transfer) → taken_at J n ≡ Some x → is_live who x.id J ≡ true → (k : ℕ) × (at_place who J k ≡ Some x)
live_place who J n x e live = stands_live (λ y. is_live who y.id J) (transfers J) n x e live

-- in a sound history the transfer at a place is the one with its identifier
pub index_found : (s : HubSettings) (who : ℕ) (J : List Event) (k : ℕ) (x : Transfer) → IsSound s who J → taken_at J k ≡ Some x → transfer x.id J ≡ Some x
index_found s who J k x sound e = Each_at (λ (x : Transfer). transfer x.id J ≡ Some x) (transfers J) k x (each_found s who J sound) e

pub place_found : (s : HubSettings) (who : ℕ) (J : List Event) (k : ℕ) (x : Transfer) → IsSound s who J → at_place who J k ≡ Some x → transfer x.id J ≡ Some x
place_found s who J k x sound e = let there = place_there who J k x e in index_found s who J there.0 x sound there.1

to_another : (s : HubSettings) (who : ℕ) (J : List Event) (event : Event) (x : Transfer) → Fits s who J event → terms event ≡ Some x → x.to ≢ who
to_another s who J (Taken id to cents stamp) x fits is =
    subst (λ (y : Transfer). y.to ≢ who) (same_Some (as_transfer id to cents stamp) x is) fits.another
to_another s who J (Funded funding) x fits is = absurd cc
to_another s who J (Defunded funding) x fits is = absurd cc
to_another s who J (Forwarded from id cents deadline) x fits is = absurd cc
to_another s who J (Booked from id o) x fits is = absurd cc
to_another s who J (Fetched count) x fits is = absurd cc
to_another s who J Opened x fits is = absurd cc

-- nobody takes a transfer to itself
pub index_to_another : (s : HubSettings) (who : ℕ) (J : List Event) (k : ℕ) (x : Transfer) → IsSound s who J → taken_at J k ≡ Some x → x.to ≢ who
index_to_another s who J k x sound e =
    Each_at (λ (x : Transfer). x.to ≢ who) (transfers J) k x
    (sound_induction s who (λ J. Each (λ (x : Transfer). x.to ≢ who) (transfers J)) tt
    (λ J event sound fits before. each_push (λ (x : Transfer). x.to ≢ who) J event before (λ x is. to_another s who J event x fits is)) J sound) e

pub place_to_another : (s : HubSettings) (who : ℕ) (J : List Event) (k : ℕ) (x : Transfer) → IsSound s who J → at_place who J k ≡ Some x → x.to ≢ who
place_to_another s who J k x sound e = let there = place_there who J k x e in index_to_another s who J there.0 x sound there.1

to_participant : (s : HubSettings) (who : ℕ) (J : List Event) (event : Event) (x : Transfer) → Fits s who J event → terms event ≡ Some x → x.to < length s.codes
to_participant s who J (Taken id to cents stamp) x fits is =
    subst (λ (y : Transfer). y.to < length s.codes) (same_Some (as_transfer id to cents stamp) x is) (ltb-true to (participants s) fits.beneficiary)
to_participant s who J (Funded funding) x fits is = absurd cc
to_participant s who J (Defunded funding) x fits is = absurd cc
to_participant s who J (Forwarded from id cents deadline) x fits is = absurd cc
to_participant s who J (Booked from id o) x fits is = absurd cc
to_participant s who J (Fetched count) x fits is = absurd cc
to_participant s who J Opened x fits is = absurd cc

-- each transfer is to a participant
pub each_to_participant : (s : HubSettings) (who : ℕ) (J : List Event) → IsSound s who J → Each (λ (x : Transfer). x.to < length s.codes) (transfers J)
each_to_participant s who J sound =
    sound_induction s who (λ J. Each (λ (x : Transfer). x.to < length s.codes) (transfers J)) tt
    (λ J event sound fits before. each_push (λ (x : Transfer). x.to < length s.codes) J event before (λ x is. to_participant s who J event x fits is)) J sound

pub each_place_found : (s : HubSettings) (who : ℕ) (J : List Event) → IsSound s who J → Each (λ (x : Transfer). transfer x.id J ≡ Some x) (transfers J)
each_place_found = each_found
