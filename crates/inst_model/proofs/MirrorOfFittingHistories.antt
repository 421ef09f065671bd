-- Sound histories that fit one another mirror each other.
use Rattle.std.proofs.Common.{◌≡◌, ℕ, true, false, ◌&&◌, cond, List, [], ◌∷◌, ◌++◌, Some, refl, sym, ap, subst, ◌∙◌, inl, inr, Contains}
use Rattle.std.proofs.lemmas.Bool.{cases_eq, or_cases, ne_eqb, false≢true}
use Rattle.std.proofs.lemmas.List.Elements.{Contains-append_left, Contains-append_right, Contains-push}
use Rattle.inst_settings.specs.Settings.{HubSettings, same_text}
use Rattle.inst_journal.specs.declared.event.Event.{Event}
use Rattle.inst_journal.specs.declared.event.Event.TheVariants.{Funded, Defunded, Taken, Forwarded, Booked, Fetched, Opened}
use Rattle.inst_journal.specs.Booked.{is_forwarded, forwards}
use Rattle.inst_journal.specs.Sound.{Fits, IsSound}
use Rattle.inst_journal.proofs.Soundness.{sound_induction}
use Rattle.inst_model.specs.Transfer.{Transfer, transfers, transfer}
use Rattle.inst_model.specs.Fit.{BooksFit}
use Rattle.inst_model.proofs.TextsTestsAndFirstThings.{Each, same_transfer-true}
use Rattle.inst_model.proofs.Transfers.{as_transfer}
use Rattle.inst_model.proofs.Mirror.{Mirrors, Together, mirrors_other, mirrors_coming, measure_of, single, weighed_there}
use Rattle.inst_model.proofs.Sums.{sum_by_zeros, each_of}
use Rattle.inst_model.proofs.Events.{taken_found}

-- a forwarding event of this transfer
pub forwarding_there : (from : ℕ) (id : List ℕ) (J : List Event) → is_forwarded from id J ≡ true → (cents : ℕ) × (d : ℕ) × Contains J (Forwarded from id cents d)
forwarding_there from id [] e = absurd (false≢true e)
forwarding_there from id (event ∷ J) e = elim (or_cases (forwards from id event) (is_forwarded from id J) e) [
  | inl here ↦ at_head event here
  | inr later ↦ let rest = forwarding_there from id J later in (rest.0, rest.1, Contains-append_right (event ∷ []) J (Forwarded from id rest.0 rest.1) rest.2)
]
  where
    at_head : (event : Event) → forwards from id event ≡ true → (cents : ℕ) × (d : ℕ) × Contains (event ∷ J) (Forwarded from id cents d)
    at_head (Forwarded other_from other cents d) e =
        let same : (other_from ≡ from) × (other ≡ id) = same_transfer-true from id other_from other e in
        let is : Forwarded other_from other cents d ≡ Forwarded from id cents d = ap (λ q. Forwarded q other cents d) same.0 ∙ ap (λ (i : List ℕ). Forwarded from i cents d) same.1 in
        (cents, d, subst (λ (event : Event). Contains (event ∷ J) (Forwarded from id cents d)) (sym is) (Contains-append_left (Forwarded from id cents d ∷ []) J (Forwarded from id cents d) (Contains-push [] (Forwarded from id cents d))))
    at_head (Funded funding) e = absurd (false≢true e)
    at_head (Defunded funding) e = absurd (false≢true e)
    at_head (Taken other to cents stamp) e = absurd (false≢true e)
    at_head (Booked other_from other o) e = absurd (false≢true e)
    at_head (Fetched count) e = absurd (false≢true e)
    at_head Opened e = absurd (false≢true e)

-- a forwarding event is of a transfer that its originator has taken
abbrev IsOf : (ℕ → List Event) → ℕ → Event → Type 0
IsOf J q (Forwarded from id cents d) = (stamp : ℕ) × (transfer id (J from) ≡ Some (as_transfer id q cents stamp))
IsOf J q (Funded funding) = Unit {0}
IsOf J q (Defunded funding) = Unit {0}
IsOf J q (Taken id to cents stamp) = Unit {0}
IsOf J q (Booked from id o) = Unit {0}
IsOf J q (Fetched count) = Unit {0}
IsOf J q Opened = Unit {0}

-- one more event of q mirrors
mirror_push : (s : HubSettings) (J : ℕ → List Event) (q from : ℕ) → IsSound s from (J from) → (K : List Event) (event : Event) → Fits s q K event → IsOf J q event → Mirrors from K (transfers (J from)) → Mirrors from (K ++ event ∷ []) (transfers (J from))
mirror_push s J q from sound K (Forwarded o id cents d) fits of m = elim (cases_eq o from) [
  | inl same ↦
      let x : Transfer = as_transfer id q cents of.0 in
      let found : transfer id (J from) ≡ Some x = ap (λ p. transfer id (J p)) (sym same) ∙ of.1 in
      let new : is_forwarded from id K ≡ false = ap (λ p. is_forwarded p id K) (sym same) ∙ fits.new in
      let P : ℕ → Type 0 = λ p. Mirrors from (K ++ Forwarded p id cents d ∷ []) (transfers (J from)) in
      subst P (sym same) (mirrors_coming from K (transfers (J from)) x d new (λ h. single s from h id (J from) sound ∙ ap (measure_of h) found) m)
  | inr another ↦
      mirrors_other from K (transfers (J from)) (Forwarded o id cents d)
      (λ i. ap (λ b. b && same_text id i) (ne_eqb o from another)) (λ g. ap (λ b. cond b (g id cents) 0) (ne_eqb o from another)) m
]
mirror_push s J q from sound K (Funded funding) fits of m = mirrors_other from K (transfers (J from)) (Funded funding) (λ i. refl) (λ g. refl) m
mirror_push s J q from sound K (Defunded funding) fits of m = mirrors_other from K (transfers (J from)) (Defunded funding) (λ i. refl) (λ g. refl) m
mirror_push s J q from sound K (Taken id to cents stamp) fits of m = mirrors_other from K (transfers (J from)) (Taken id to cents stamp) (λ i. refl) (λ g. refl) m
mirror_push s J q from sound K (Booked o id outcome) fits of m = mirrors_other from K (transfers (J from)) (Booked o id outcome) (λ i. refl) (λ g. refl) m
mirror_push s J q from sound K (Fetched count) fits of m = mirrors_other from K (transfers (J from)) (Fetched count) (λ i. refl) (λ g. refl) m
mirror_push s J q from sound K Opened fits of m = mirrors_other from K (transfers (J from)) Opened (λ i. refl) (λ g. refl) m

last_of : {A : Type 0} (P : A → Type 0) (K : List A) (x : A) → Each P (K ++ x ∷ []) → Each P K × P x
last_of P [] x each = (tt, each.0)
last_of P (y ∷ K) x each = let rest = last_of P K x each.1 in ((each.0, rest.0), rest.1)

-- sound histories whose forwardings are of taken transfers mirror them
mirrored : (s : HubSettings) (J : ℕ → List Event) (q from : ℕ) → IsSound s from (J from) → (K : List Event) → IsSound s q K → Each (IsOf J q) K → Mirrors from K (transfers (J from))
mirrored s J q from sound_from =
    sound_induction s q (λ K. Each (IsOf J q) K → Mirrors from K (transfers (J from))) (λ each g. sym (sum_by_zeros (weighed_there g from []) (transfers (J from)) (each_of (λ (x : Transfer). weighed_there g from [] x ≡ 0) (transfers (J from)) (λ x. refl))))
    (λ K event sound fits before each.
    let parts = last_of (IsOf J q) K event each in
    mirror_push s J q from sound_from K event fits parts.1 (before parts.0))

head_there : {A : Type 0} (x : A) (xs : List A) → Contains (x ∷ xs) x
head_there x xs = Contains-append_left (x ∷ []) xs x (Contains-push [] x)

pub each_contained : {A : Type 0} (P : A → Type 0) (xs : List A) → ((x : A) → Contains xs x → P x) → Each P xs
each_contained P [] all = tt
each_contained P (x ∷ xs) all = (all x (head_there x xs), each_contained P xs (λ y there. all y (Contains-append_right (x ∷ []) xs y there)))

all_of : (s : HubSettings) (J : ℕ → List Event) → ((p : ℕ) → IsSound s p (J p)) → BooksFit s J → (q : ℕ) (event : Event) → Contains (J q) event → IsOf J q event
all_of s J sound fit q (Forwarded from id cents d) there =
    let was = fit.forwarded_is_taken q from id cents d there in
    (was.0, taken_found s from (J from) id q cents was.0 (sound from) was.1)
all_of s J sound fit q (Funded funding) there = tt
all_of s J sound fit q (Defunded funding) there = tt
all_of s J sound fit q (Taken id to cents stamp) there = tt
all_of s J sound fit q (Booked from id o) there = tt
all_of s J sound fit q (Fetched count) there = tt
all_of s J sound fit q Opened there = tt

pub fitting_together : (s : HubSettings) (J : ℕ → List Event) → ((p : ℕ) → IsSound s p (J p)) → BooksFit s J → Together s J
fitting_together s J sound fit = record {
  sound = sound;
  taken = λ q from id e.
      let there = forwarding_there from id (J q) e in
      let of = all_of s J sound fit q (Forwarded from id there.0 there.1) there.2 in
      (as_transfer id q there.0 of.0, of.1, refl);
  mirror = λ q from. mirrored s J q from (sound from) (J q) (sound q) (each_contained (IsOf J q) (J q) (all_of s J sound fit q));
}
