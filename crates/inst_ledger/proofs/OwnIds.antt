-- The identifiers of a participant's own live transfers after one event more.
use Rattle.std.proofs.Common.{◌≡◌, ℕ, Bool, true, false, ◌||◌, zero, suc, is_some, cond, List, [], ◌∷◌, ◌++◌, map, Option, Some, None, is_none, refl, sym, ap, ◌∙◌}
use Rattle.std.specs.List.{filter}
use Rattle.std.specs.Prelude.{slice_get}
use Rattle.inst_settings.specs.Settings.{same_text}
use Rattle.inst_settings.proofs.CodeTellsNumber.{same_text_refl}
use Rattle.std.proofs.lemmas.List.{map-append}
use Rattle.inst_journal.specs.declared.event.Event.{Event}
use Rattle.inst_journal.specs.declared.event.Event.TheVariants.{Funded, Defunded, Taken, Forwarded, Booked, Fetched, Opened}
use Rattle.inst_journal.specs.Booked.{booked, is_taken}
use Rattle.inst_journal.specs.Opened.{is_opening, carried, takes_live, live_taken}
use Rattle.inst_ledger.specs.Right.{id_of, own_ids}
use Rattle.std.proofs.Common.{append-nil}
use Rattle.std.proofs.lemmas.Bool.{true≢false}
use Rattle.std.proofs.lemmas.List.Elements.{filter-append}
use Rattle.inst_command.specs.declared.outcome.Outcome.{Outcome}
use Rattle.inst_journal.proofs.EventsCarriedOverOpening.{carried_push, carried_opened, carried_unbooked}
use Rattle.inst_journal.proofs.EffectsOfAnOpening.{same_keys}

or_right : (a b : Bool) → b ≡ true → (a || b) ≡ true
or_right true b h = refl
or_right false b h = h

pub filter_push : {A : Type 0} (p : A → Bool) (xs : List A) (x : A) (b : Bool) → p x ≡ b → filter p (xs ++ x ∷ []) ≡ filter p xs ++ cond b (x ∷ []) []
filter_push p xs x b here = filter-append p xs (x ∷ []) ∙ ap (λ (c : Bool). filter p xs ++ cond c (x ∷ []) []) here

pub live_taken_push : (who : ℕ) (J : List Event) (e : Event) (b : Bool) → is_opening e ≡ false → takes_live who (carried J) e ≡ b → live_taken who (J ++ e ∷ []) ≡ live_taken who J ++ cond b (e ∷ []) []
live_taken_push who J e b other here = ap (λ (C : List Event). filter (takes_live who C) (J ++ e ∷ [])) (carried_push J e other) ∙ filter_push (takes_live who (carried J)) J e b here

pub own_same : (who : ℕ) (J : List Event) (e : Event) → is_opening e ≡ false → takes_live who (carried J) e ≡ false → own_ids who (J ++ e ∷ []) ≡ own_ids who J
own_same who J e other lives = ap (map id_of) (live_taken_push who J e false other lives ∙ append-nil (live_taken who J))

pub own_more : (who : ℕ) (J : List Event) (id : List ℕ) (to cents stamp : ℕ) → takes_live who (carried J) (Taken id to cents stamp) ≡ true → own_ids who (J ++ Taken id to cents stamp ∷ []) ≡ own_ids who J ++ id ∷ []
own_more who J id to cents stamp lives =
    ap (map id_of) (live_taken_push who J (Taken id to cents stamp) true refl lives) ∙ map-append id_of (live_taken who J) (Taken id to cents stamp ∷ [])

-- of those that lived, those with nothing booked live on
lives_on : (p : List ℕ → Bool) (e : Event) (L M : List Event) (lived lives : Bool) → (lives ≡ true → lived ≡ true) → p (id_of e) ≡ lives → filter p (map id_of L) ≡ map id_of M
    → filter p (map id_of (cond lived (e ∷ L) L)) ≡ map id_of (cond lives (e ∷ M) M)
lives_on p e L M true lives still here rest =
    ap (λ (b : Bool). cond b (id_of e ∷ filter p (map id_of L)) (filter p (map id_of L))) here ∙ ap (λ (l : List (List ℕ)). cond lives (id_of e ∷ l) l) rest ∙ by lives
  where
    by : (b : Bool) → cond b (id_of e ∷ map id_of M) (map id_of M) ≡ map id_of (cond b (e ∷ M) M)
    by true = refl
    by false = refl
lives_on p e L M false true still here rest = absurd (true≢false (sym (still refl)))
lives_on p e L M false false still here rest = rest

module _ (who : ℕ) (C K : List Event) (p : List ℕ → Bool) (still : (id : List ℕ) → is_none (booked who id K) ≡ true → is_none (booked who id C) ≡ true) (waits : (id : List ℕ) → p id ≡ is_none (booked who id K)) where
  all_live_on : (J : List Event) → filter p (map id_of (filter (takes_live who C) J)) ≡ map id_of (filter (takes_live who K) J)
  all_live_on [] = refl
  all_live_on (Taken id to cents stamp ∷ J) =
      lives_on p (Taken id to cents stamp) (filter (takes_live who C) J) (filter (takes_live who K) J) (is_none (booked who id C)) (is_none (booked who id K)) (still id) (waits id) (all_live_on J)
  all_live_on (Funded funding ∷ J) = all_live_on J
  all_live_on (Defunded funding ∷ J) = all_live_on J
  all_live_on (Forwarded from id cents deadline ∷ J) = all_live_on J
  all_live_on (Booked from id outcome ∷ J) = all_live_on J
  all_live_on (Fetched count ∷ J) = all_live_on J
  all_live_on (Opened ∷ J) = all_live_on J

none_of : (o : Option Outcome) → is_none o ≡ true → o ≡ None
none_of None h = refl
none_of (Some x) h = absurd (true≢false (sym h))

pub own_opened : (who : ℕ) (J : List Event) (p : List ℕ → Bool) → ((id : List ℕ) → p id ≡ is_none (booked who id J)) → filter p (own_ids who J) ≡ own_ids who (J ++ Opened ∷ [])
own_opened who J p waits =
    let K : List Event = J ++ Opened ∷ [] in
    let same : (id : List ℕ) → booked who id K ≡ booked who id J = λ id. (same_keys J).booked who id in
    all_live_on who (carried J) K p
    (λ id h. ap is_none (carried_unbooked who id J (sym (same id) ∙ none_of (booked who id K) h)))
    (λ id. waits id ∙ ap is_none (sym (same id))) J
    ∙ sym (ap (map id_of) (ap (λ (D : List Event). filter (takes_live who D) K) (carried_opened J) ∙ filter_push (takes_live who K) J Opened false refl ∙ append-nil (filter (takes_live who K) J)))

-- only what was taken is among them
listed_step : (id : List ℕ) (e : Event) (L : List Event) (b : Bool) (k : ℕ) (P : Type 0) → (b ≡ true → id_of e ≡ id → P) → ((j : ℕ) → slice_get (map id_of L) j ≡ Some id → P) → slice_get (map id_of (cond b (e ∷ L) L)) k ≡ Some id → P
listed_step id e L false k P here rest there = rest k there
listed_step id e L true zero P here rest there = let same : id_of e ≡ id = cc in here refl same
listed_step id e L true (suc k) P here rest there = rest k there

pub own_taken_only : (who : ℕ) (C : List Event) (id : List ℕ) (J : List Event) (k : ℕ) → slice_get (map id_of (filter (takes_live who C) J)) k ≡ Some id → is_taken id J ≡ true
own_taken_only who C id [] k there = absurd (true≢false (sym (ap is_some there)))
own_taken_only who C id (Taken other to cents stamp ∷ J) k there =
    listed_step id (Taken other to cents stamp) (filter (takes_live who C) J) (is_none (booked who other C)) k (is_taken id (Taken other to cents stamp ∷ J) ≡ true)
    (λ lives same. ap (λ (b : Bool). b || is_taken id J) (ap (λ (i : List ℕ). same_text i id) same ∙ same_text_refl id))
    (λ j rest. or_right (same_text other id) (is_taken id J) (own_taken_only who C id J j rest)) there
own_taken_only who C id (Funded funding ∷ J) k there = own_taken_only who C id J k there
own_taken_only who C id (Defunded funding ∷ J) k there = own_taken_only who C id J k there
own_taken_only who C id (Forwarded from other cents deadline ∷ J) k there = own_taken_only who C id J k there
own_taken_only who C id (Booked from other outcome ∷ J) k there = own_taken_only who C id J k there
own_taken_only who C id (Fetched count ∷ J) k there = own_taken_only who C id J k there
own_taken_only who C id (Opened ∷ J) k there = own_taken_only who C id J k there
