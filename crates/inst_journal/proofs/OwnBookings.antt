-- In a sound history a participant's own booking is the one of a transfer whose originator it is.
use Rattle.std.proofs.Common.{◌≡◌, ◌≢◌, ℕ, Bool, true, false, ◌&&◌, not, cond, List, [], ◌∷◌, ◌++◌, ◌⊎◌, inl, inr, Some, None, refl, sym, ap, ◌∙◌}
use Rattle.std.specs.List.{AllByRecursion}
use Rattle.std.proofs.lemmas.Bool.{eq-eqb, ne_eqb, true≢false, or_left, or_from}
use Rattle.inst_settings.specs.Settings.{HubSettings, same_text}
use Rattle.inst_journal.specs.declared.event.Event.{Event}
use Rattle.inst_journal.specs.declared.event.Event.TheVariants.{Funded, Defunded, Taken, Forwarded, Booked, Fetched, Opened}
use Rattle.inst_journal.specs.Booked.{is_forwarded, forwards, books, booked, books_own, own_booked}
use Rattle.inst_journal.specs.Sound.{Fits, IsSound}
use Rattle.inst_journal.proofs.OneMoreElement.{list_any_push, first_some-same, all_push, all_weaker}
use Rattle.inst_journal.proofs.Soundness.{sound_induction}

-- no event that fits forwards a transfer of the participant's own
unforwarded : (s : HubSettings) (who : ℕ) (J : List Event) (id : List ℕ) (event : Event) → Fits s who J event → forwards who id event ≡ false
unforwarded s who J id (Funded funding) fits = refl
unforwarded s who J id (Defunded funding) fits = refl
unforwarded s who J id (Taken other to cents stamp) fits = refl
unforwarded s who J id (Forwarded from other cents deadline) fits = ap (λ b. b && same_text other id) (ne_eqb from who fits.another)
unforwarded s who J id (Booked from other outcome) fits = refl
unforwarded s who J id (Fetched count) fits = refl
unforwarded s who J id Opened fits = refl

-- no transfer of the participant's own is forwarded to it
pub own_unforwarded : (s : HubSettings) (who : ℕ) (id : List ℕ) (J : List Event) → IsSound s who J → is_forwarded who id J ≡ false
own_unforwarded s who id = sound_induction s who (λ J. is_forwarded who id J ≡ false) refl
    (λ J event sound fits before. list_any_push (forwards who id) J event ∙ or_from _ _ before (unforwarded s who J id event fits))

-- a booking is of the participant's own transfer or of one forwarded to it
abbrev IsKnown : ℕ → List Event → Event → Type 0
IsKnown who J (Booked from id outcome) = (from ≡ who) ⊎ (is_forwarded from id J ≡ true)
IsKnown who J (Funded funding) = Unit {0}
IsKnown who J (Defunded funding) = Unit {0}
IsKnown who J (Taken id to cents stamp) = Unit {0}
IsKnown who J (Forwarded from id cents deadline) = Unit {0}
IsKnown who J (Fetched count) = Unit {0}
IsKnown who J Opened = Unit {0}

-- what was forwarded stays so
pub forwarded_push : (from : ℕ) (id : List ℕ) (J : List Event) (event : Event) → is_forwarded from id J ≡ true → is_forwarded from id (J ++ event ∷ []) ≡ true
forwarded_push from id J event before = list_any_push (forwards from id) J event ∙ or_left _ _ before

known_later : (who : ℕ) (J : List Event) (new : Event) (event : Event) → IsKnown who J event → IsKnown who (J ++ new ∷ []) event
known_later who J new (Booked from id outcome) known = elim known [ inl own ↦ inl own | inr forwarded ↦ inr (forwarded_push from id J new forwarded) ]
known_later who J new (Funded funding) known = tt
known_later who J new (Defunded funding) known = tt
known_later who J new (Taken id to cents stamp) known = tt
known_later who J new (Forwarded from id cents deadline) known = tt
known_later who J new (Fetched count) known = tt
known_later who J new Opened known = tt

known_new : (s : HubSettings) (who : ℕ) (J : List Event) (event : Event) → Fits s who J event → IsKnown who (J ++ event ∷ []) event
known_new s who J (Booked from id outcome) fits = elim fits.party [ inl own ↦ inl own.0 | inr forwarded ↦ inr (forwarded_push from id J (Booked from id outcome) forwarded) ]
known_new s who J (Funded funding) fits = tt
known_new s who J (Defunded funding) fits = tt
known_new s who J (Taken id to cents stamp) fits = tt
known_new s who J (Forwarded from id cents deadline) fits = tt
known_new s who J (Fetched count) fits = tt
known_new s who J Opened fits = tt

all_known : (s : HubSettings) (who : ℕ) (J : List Event) → IsSound s who J → AllByRecursion (IsKnown who J) J
all_known s who = sound_induction s who (λ J. AllByRecursion (IsKnown who J) J) tt
    (λ J event sound fits before. all_push (IsKnown who (J ++ event ∷ [])) J event
    (all_weaker (IsKnown who J) (IsKnown who (J ++ event ∷ [])) (known_later who J event) J before)
    (known_new s who J event fits))

and-true : (b : Bool) → (b && true) ≡ b
and-true true = refl
and-true false = refl

pub and-false : (b : Bool) → (b && false) ≡ false
and-false true = refl
and-false false = refl

-- at a booking the two ways to tell an own one agree
own_same : (who : ℕ) (J : List Event) → ((id : List ℕ) → is_forwarded who id J ≡ false) → (id : List ℕ) (event : Event) → IsKnown who J event → books_own J id event ≡ books who id event
own_same who J unforwarded id (Booked from other outcome) known = elim known [
  | inl own ↦
      let forwarded : is_forwarded from other J ≡ false = ap (λ p. is_forwarded p other J) own ∙ unforwarded other in
      ap (λ b. cond (same_text other id && not b) (Some outcome) None) forwarded
      ∙ ap (λ b. cond b (Some outcome) None) (and-true (same_text other id))
      ∙ sym (ap (λ b. cond (b && same_text other id) (Some outcome) None) (eq-eqb from who own))
  | inr forwarded ↦
      let another : from ≢ who = λ own. true≢false (sym forwarded ∙ ap (λ p. is_forwarded p other J) own ∙ unforwarded other) in
      ap (λ b. cond (same_text other id && not b) (Some outcome) None) forwarded
      ∙ ap (λ b. cond b (Some outcome) None) (and-false (same_text other id))
      ∙ sym (ap (λ b. cond (b && same_text other id) (Some outcome) None) (ne_eqb from who another))
]
own_same who J unforwarded id (Funded funding) known = refl
own_same who J unforwarded id (Defunded funding) known = refl
own_same who J unforwarded id (Taken other to cents stamp) known = refl
own_same who J unforwarded id (Forwarded from other cents deadline) known = refl
own_same who J unforwarded id (Fetched count) known = refl
own_same who J unforwarded id Opened known = refl

-- a participant's own booking is the one of a transfer whose originator it is
pub own_booked-booked : (s : HubSettings) (who : ℕ) (J : List Event) (id : List ℕ) → IsSound s who J → own_booked id J ≡ booked who id J
own_booked-booked s who J id sound = first_some-same (books_own J id) (books who id) J
    (all_weaker (IsKnown who J) (λ event. books_own J id event ≡ books who id event)
    (own_same who J (λ other. own_unforwarded s who other J sound) id) J (all_known s who J sound))
