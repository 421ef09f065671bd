-- Who books is a party, and each booking is found.
use Rattle.std.proofs.Common.{◌≡◌, ℕ, true, List, [], ◌∷◌, ◌++◌, Some, sym, subst, ◌∙◌, inl, inr, ◌⊎◌, Contains}
use Rattle.std.proofs.lemmas.Bool.{or_left}
use Rattle.std.proofs.lemmas.Option.{cond_some}
use Rattle.inst_settings.specs.Settings.{HubSettings}
use Rattle.inst_command.specs.declared.outcome.Outcome.{Outcome}
use Rattle.inst_journal.specs.declared.event.Event.{Event}
use Rattle.inst_journal.specs.declared.event.Event.TheVariants.{Funded, Defunded, Taken, Forwarded, Booked, Fetched, Opened}
use Rattle.inst_journal.specs.Booked.{is_taken, is_forwarded, takes, books, booked, same_transfer}
use Rattle.inst_journal.specs.Sound.{Fits, IsSound}
use Rattle.inst_journal.proofs.Soundness.{sound_induction}
use Rattle.inst_model.proofs.TextsTestsAndFirstThings.{Each, Each_push, Each_weaker, Each_contains, same_transfer-true, or_else_cases}
use Rattle.inst_model.proofs.HistoryKeepsWhatItHas.{booked_kept, booked_new, forwarded_kept}
use Rattle.inst_journal.proofs.OneMoreElement.{list_any_push, first_some_push}

-- a side that booked is a party
abbrev IsParty : ℕ → ℕ → List ℕ → List Event → Type 0
IsParty who from id J = ((from ≡ who) × (is_taken id J ≡ true)) ⊎ (is_forwarded from id J ≡ true)

party_kept : (who from : ℕ) (id : List ℕ) (K : List Event) (event : Event) → IsParty who from id K → IsParty who from id (K ++ event ∷ [])
party_kept who from id K event party = elim party [
  | inl own ↦ inl (own.0, list_any_push (takes id) K event ∙ or_left (is_taken id K) (takes id event) own.1)
  | inr there ↦ inr (forwarded_kept from id K event there)
]

party_new : (s : HubSettings) (who from : ℕ) (id : List ℕ) (o : Outcome) (K : List Event) (event : Event) → Fits s who K event → books from id event ≡ Some o → IsParty who from id K
party_new s who from id o K (Booked other_from other p) fits e =
    let same : (other_from ≡ from) × (other ≡ id) = same_transfer-true from id other_from other (cond_some (same_transfer from id other_from other) p o e).0 in
    let with_from : IsParty who from other K = subst (λ (q : ℕ). IsParty who q other K) same.0 fits.party in
    subst (λ (i : List ℕ). IsParty who from i K) same.1 with_from
party_new s who from id o K (Funded funding) fits e = absurd cc
party_new s who from id o K (Defunded funding) fits e = absurd cc
party_new s who from id o K (Taken other to cents stamp) fits e = absurd cc
party_new s who from id o K (Forwarded other_from other cents d) fits e = absurd cc
party_new s who from id o K (Fetched count) fits e = absurd cc
party_new s who from id o K Opened fits e = absurd cc

pub booked_party : (s : HubSettings) (who from : ℕ) (id : List ℕ) (o : Outcome) (J : List Event) → IsSound s who J → booked from id J ≡ Some o → IsParty who from id J
booked_party s who from id o = sound_induction s who (λ K. booked from id K ≡ Some o → IsParty who from id K) (λ e. absurd cc)
    (λ K event sound fits before e.
    party_kept who from id K event
    (elim (or_else_cases (booked from id K) (books from id event) o (sym (first_some_push (books from id) K event) ∙ e)) [
      | inl old ↦ before old
      | inr new ↦ party_new s who from id o K event fits new.1
    ]))

-- a booking event is found
abbrev IsFoundBooked : List Event → Event → Type 0
IsFoundBooked J (Booked from id o) = booked from id J ≡ Some o
IsFoundBooked J (Funded funding) = Unit {0}
IsFoundBooked J (Defunded funding) = Unit {0}
IsFoundBooked J (Taken id to cents stamp) = Unit {0}
IsFoundBooked J (Forwarded from id cents d) = Unit {0}
IsFoundBooked J (Fetched count) = Unit {0}
IsFoundBooked J Opened = Unit {0}

found_later : (J : List Event) (new event : Event) → IsFoundBooked J event → IsFoundBooked (J ++ new ∷ []) event
found_later J new (Booked from id o) is = booked_kept from id o J new is
found_later J new (Funded funding) is = tt
found_later J new (Defunded funding) is = tt
found_later J new (Taken id to cents stamp) is = tt
found_later J new (Forwarded from id cents d) is = tt
found_later J new (Fetched count) is = tt
found_later J new Opened is = tt

found_new : (s : HubSettings) (who : ℕ) (J : List Event) (event : Event) → Fits s who J event → IsFoundBooked (J ++ event ∷ []) event
found_new s who J (Booked from id o) fits = booked_new from id o J fits.new
found_new s who J (Funded funding) fits = tt
found_new s who J (Defunded funding) fits = tt
found_new s who J (Taken id to cents stamp) fits = tt
found_new s who J (Forwarded from id cents d) fits = tt
found_new s who J (Fetched count) fits = tt
found_new s who J Opened fits = tt

pub booked_found : (s : HubSettings) (who : ℕ) (J : List Event) (from : ℕ) (id : List ℕ) (o : Outcome) → IsSound s who J → Contains J (Booked from id o) → booked from id J ≡ Some o
booked_found s who J from id o sound there =
    Each_contains (IsFoundBooked J) J (Booked from id o)
    (sound_induction s who (λ K. Each (IsFoundBooked K) K) tt
    (λ K event before_sound fits before.
    Each_push (IsFoundBooked (K ++ event ∷ [])) K event (Each_weaker (IsFoundBooked K) (IsFoundBooked (K ++ event ∷ [])) K (found_later K event) before) (found_new s who K event fits)) J sound)
    there
