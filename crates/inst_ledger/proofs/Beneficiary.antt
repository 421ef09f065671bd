-- The beneficiary of a participant's own transfer: what was sent with its submission tells it, and what a sound history
-- does.
use Rattle.std.proofs.Common.{◌≡◌, ℕ, Bool, true, false, cond, List, [], ◌∷◌, ◌++◌, Option, Some, None, IfSome, option_map, refl, sym, ap, subst, ◌∙◌}
use Rattle.inst_settings.specs.Settings.{HubSettings, same_text, is_participant}
use Rattle.inst_journal.specs.declared.event.Event.{Event}
use Rattle.inst_journal.specs.declared.event.Event.TheVariants.{Funded, Defunded, Taken, Forwarded, Booked, Fetched, Opened}
use Rattle.inst_journal.specs.Booked.{or_else, first_some}
use Rattle.inst_journal.specs.Sound.{Fits, IsSound}
use Rattle.inst_journal.proofs.OneMoreElement.{first_some_push}
use Rattle.inst_journal.proofs.Soundness.{sound_induction}
use Rattle.inst_ledger.specs.declared.sending.Sending.{Sending}
use Rattle.inst_ledger.specs.Kept.{sending_of}
use Rattle.inst_ledger.specs.Beneficiary.{takes_to, beneficiary_of}

-- what is made of the first thing is the first of what is made of each
made_or : {A B : Type 0} (make : A → B) (o p : Option A) → option_map make (or_else o p) ≡ or_else (option_map make o) (option_map make p)
made_or make None p = refl
made_or make (Some x) p = refl

made_first : {A B C : Type 0} (make : B → C) (f : A → Option B) (g : A → Option C) → ((x : A) → option_map make (f x) ≡ g x) → (xs : List A) → option_map make (first_some f xs) ≡ first_some g xs
made_first make f g same [] = refl
made_first make f g same (x ∷ xs) =
    made_or make (f x) (first_some f xs) ∙ ap (λ o. or_else o (option_map make (first_some f xs))) (same x) ∙ ap (or_else (g x)) (made_first make f g same xs)

abbrev pub to_of : Sending → ℕ
to_of sending = sending.to

made_cond : {A B : Type 0} (make : A → B) (b : Bool) (x : A) → option_map make (cond b (Some x) None) ≡ cond b (Some (make x)) None
made_cond make true x = refl
made_cond make false x = refl

sending_to : (id : List ℕ) (event : Event) → option_map to_of (sending_of id event) ≡ takes_to id event
sending_to id (Taken other to cents stamp) = made_cond to_of (same_text other id) (record { to = to; cents = cents; stamp = stamp })
sending_to id (Funded funding) = refl
sending_to id (Defunded funding) = refl
sending_to id (Forwarded from other cents deadline) = refl
sending_to id (Booked from other outcome) = refl
sending_to id (Fetched count) = refl
sending_to id Opened = refl

-- what is found to be sent tells the beneficiary, and none are found where there is none
pub beneficiary_found : (id : List ℕ) (J : List Event) (o : Option Sending) → first_some (sending_of id) J ≡ o → option_map to_of o ≡ beneficiary_of id J
beneficiary_found id J o found =
    ap (option_map to_of) (sym found) ∙ made_first to_of (sending_of id) (takes_to id) (sending_to id) J

-- one event more
after : (id : List ℕ) (J : List Event) (event : Event) → beneficiary_of id (J ++ event ∷ []) ≡ or_else (beneficiary_of id J) (takes_to id event)
after id J event = first_some_push (takes_to id) J event

either : {A : Type 0} (P : A → Type 0) (o p : Option A) → IfSome o P → IfSome p P → IfSome (or_else o p) P
either P None p first second = second
either P (Some x) p first second = first

where_true : {A : Type 0} (P : A → Type 0) (b : Bool) (x : A) → P x → IfSome (cond b (Some x) None) P
where_true P true x here = here
where_true P false x here = tt

abbrev pub Participates : HubSettings → ℕ → Type 0
Participates s to = is_participant s to ≡ true

takes_to_participant : (s : HubSettings) (who : ℕ) (id : List ℕ) (J : List Event) (event : Event) → Fits s who J event → IfSome (takes_to id event) (Participates s)
takes_to_participant s who id J (Taken other to cents stamp) fits = where_true (Participates s) (same_text other id) to fits.beneficiary
takes_to_participant s who id J (Funded funding) fits = tt
takes_to_participant s who id J (Defunded funding) fits = tt
takes_to_participant s who id J (Forwarded from other cents deadline) fits = tt
takes_to_participant s who id J (Booked from other outcome) fits = tt
takes_to_participant s who id J (Fetched count) fits = tt
takes_to_participant s who id J Opened fits = tt

-- the beneficiary of a taken submission is a participant of the hub
pub beneficiary_participates : (s : HubSettings) (who : ℕ) (id : List ℕ) (J : List Event) → IsSound s who J → IfSome (beneficiary_of id J) (Participates s)
beneficiary_participates s who id = sound_induction s who (λ J. IfSome (beneficiary_of id J) (Participates s)) tt
    (λ J event sound fits before. subst (λ (o : Option ℕ). IfSome o (Participates s)) (sym (after id J event))
    (either (Participates s) (beneficiary_of id J) (takes_to id event) before (takes_to_participant s who id J event fits)))
