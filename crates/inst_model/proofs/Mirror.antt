-- The forwarded transfers of a participant are taken ones of their originators: what they sum to, in any measure.
use Rattle.std.proofs.Common.{◌≡◌, ℕ, ◌+◌, Bool, true, false, ◌||◌, ◌&&◌, cond, eqb, List, [], ◌∷◌, ◌++◌, Option, Some, None, refl, sym, ap, ◌∙◌, inl, inr, append-nil, arith, sum_by}
use Rattle.std.specs.List.{cons_option}
use Rattle.std.proofs.lemmas.List.Sums.{sum_by_push}
use Rattle.std.proofs.lemmas.Bool.{or_cases, eq-eqb, false≢true}
use Rattle.inst_settings.specs.Settings.{HubSettings, same_text}
use Rattle.inst_command.specs.declared.outcome.Outcome.{Outcome}
use Rattle.inst_command.specs.declared.step.Step.{Step}
use Rattle.inst_journal.specs.declared.event.Event.{Event}
use Rattle.inst_journal.specs.declared.event.Event.TheVariants.{Funded, Defunded, Taken, Forwarded, Booked, Fetched, Opened}
use Rattle.inst_journal.specs.Booked.{or_else, is_taken, is_forwarded, forwards, same_transfer}
use Rattle.inst_journal.specs.Sound.{Fits, IsSound}
use Rattle.inst_journal.proofs.OneMoreElement.{list_any_push, sum_by-both, or-false}
use Rattle.inst_journal.proofs.Soundness.{sound_induction}
use Rattle.inst_model.specs.Transfer.{Transfer, terms, terms_named, transfers, transfer, deadline}
use Rattle.inst_model.proofs.TextsTestsAndFirstThings.{same_text-true, same_text_refl, same_transfer-true}
use Rattle.inst_model.proofs.Histories.{next, grows}
use Rattle.inst_model.proofs.Sums.{sum_by_same, each_of}
use Rattle.inst_model.proofs.Transfers.{as_transfer, transfers_push, transfer_push, transfer_none, place_found}

-- the measure of the transfer, if any
abbrev pub measure_of : (Transfer → ℕ) → Option Transfer → ℕ
measure_of h None = 0
measure_of h (Some x) = h x

-- the measure of a transfer where it has this identifier
abbrev pub measure_named : (Transfer → ℕ) → List ℕ → Transfer → ℕ
measure_named h id x = cond (same_text id x.id) (h x) 0

no_transfers : (h : Transfer → ℕ) (id : List ℕ) (J : List Event) (event : Event) → terms event ≡ None → sum_by (measure_named h id) (transfers (J ++ event ∷ [])) ≡ sum_by (measure_named h id) (transfers J)
no_transfers h id J event none = ap (sum_by (measure_named h id)) (transfers_push J event ∙ ap (λ o. transfers J ++ cons_option o []) none ∙ append-nil (transfers J))

same_or_none : (h : Transfer → ℕ) (id : List ℕ) (J : List Event) (event : Event) → terms event ≡ None → terms_named id event ≡ None → sum_by (measure_named h id) (transfers J) ≡ measure_of h (transfer id J)
    → sum_by (measure_named h id) (transfers (J ++ event ∷ [])) ≡ measure_of h (transfer id (J ++ event ∷ []))
same_or_none h id J event none unnamed before =
    no_transfers h id J event none ∙ before
    ∙ ap (measure_of h) (sym (transfer_push id J event ∙ ap (or_else (transfer id J)) unnamed ∙ or_none (transfer id J)))
  where
    or_none : (o : Option Transfer) → or_else o None ≡ o
    or_none None = refl
    or_none (Some x) = refl

same_text_flip : (a b : List ℕ) → same_text a b ≡ same_text b a
same_text_flip a b = flip (same_text a b) (same_text b a) refl refl
  where
    flip : (x y : Bool) → same_text a b ≡ x → same_text b a ≡ y → x ≡ y
    flip true true p q = refl
    flip false false p q = refl
    flip true false p q = sym (sym q ∙ ap (λ (c : List ℕ). same_text c a) (sym (same_text-true a b p)) ∙ same_text_refl a)
    flip false true p q = sym p ∙ ap (λ (c : List ℕ). same_text a c) (same_text-true b a q) ∙ same_text_refl a

one_more : (h : Transfer → ℕ) (id other : List ℕ) (to cents stamp : ℕ) (J : List Event) → is_taken other J ≡ false → sum_by (measure_named h id) (transfers J) ≡ measure_of h (transfer id J)
    → sum_by (measure_named h id) (transfers (J ++ Taken other to cents stamp ∷ [])) ≡ measure_of h (transfer id (J ++ Taken other to cents stamp ∷ []))
one_more h id other to cents stamp J new before =
    let x : Transfer = as_transfer other to cents stamp in
    let sum_is : sum_by (measure_named h id) (transfers (J ++ Taken other to cents stamp ∷ [])) ≡ measure_of h (transfer id J) + measure_named h id x =
    ap (sum_by (measure_named h id)) (transfers_push J (Taken other to cents stamp)) ∙ sum_by_push (measure_named h id) (transfers J) x ∙ ap (λ n. n + measure_named h id x) before in
    sum_is ∙ both (same_text other id) refl ∙ ap (measure_of h) (sym (transfer_push id J (Taken other to cents stamp)))
  where
    both : (b : Bool) → same_text other id ≡ b → measure_of h (transfer id J) + cond (same_text id other) (h (as_transfer other to cents stamp)) 0 ≡ measure_of h (or_else (transfer id J) (cond b (Some (as_transfer other to cents stamp)) None))
    both true e =
        let none : transfer id J ≡ None = ap (λ (i : List ℕ). transfer i J) (sym (same_text-true other id e)) ∙ transfer_none other J new in
        let yes : same_text id other ≡ true = same_text_flip id other ∙ e in
        rw (none, yes) (omega arith)
    both false e =
        let no : same_text id other ≡ false = same_text_flip id other ∙ e in
        rw no (left (transfer id J))
      where
        left : (o : Option Transfer) → measure_of h o + 0 ≡ measure_of h (or_else o None)
        left None = omega arith
        left (Some y) = omega arith

-- one transfer at most has an identifier
single_push : (s : HubSettings) (who : ℕ) (h : Transfer → ℕ) (id : List ℕ) (J : List Event) (event : Event) → Fits s who J event → sum_by (measure_named h id) (transfers J) ≡ measure_of h (transfer id J)
    → sum_by (measure_named h id) (transfers (J ++ event ∷ [])) ≡ measure_of h (transfer id (J ++ event ∷ []))
single_push s who h id J (Taken other to cents stamp) fits before = one_more h id other to cents stamp J fits.new before
single_push s who h id J (Funded funding) fits before = same_or_none h id J (Funded funding) refl refl before
single_push s who h id J (Defunded funding) fits before = same_or_none h id J (Defunded funding) refl refl before
single_push s who h id J (Forwarded from other cents deadline) fits before = same_or_none h id J (Forwarded from other cents deadline) refl refl before
single_push s who h id J (Booked from other o) fits before = same_or_none h id J (Booked from other o) refl refl before
single_push s who h id J (Fetched count) fits before = same_or_none h id J (Fetched count) refl refl before
single_push s who h id J Opened fits before = same_or_none h id J Opened refl refl before

pub single : (s : HubSettings) (who : ℕ) (h : Transfer → ℕ) (id : List ℕ) (J : List Event) → IsSound s who J → sum_by (measure_named h id) (transfers J) ≡ measure_of h (transfer id J)
single s who h id = sound_induction s who (λ J. sum_by (measure_named h id) (transfers J) ≡ measure_of h (transfer id J)) refl
    (λ J event sound fits before. single_push s who h id J event fits before)

-- the measure of a forwarded transfer of this originator
abbrev pub weighed : (List ℕ → ℕ → ℕ) → ℕ → Event → ℕ
weighed g from (Forwarded other id cents deadline) = cond (eqb other from) (g id cents) 0
weighed g from (Funded funding) = 0
weighed g from (Defunded funding) = 0
weighed g from (Taken id to cents stamp) = 0
weighed g from (Booked other id o) = 0
weighed g from (Fetched count) = 0
weighed g from Opened = 0

-- the measure of a taken transfer of this originator, where it is forwarded in J
abbrev pub weighed_there : (List ℕ → ℕ → ℕ) → ℕ → List Event → Transfer → ℕ
weighed_there g from J x = cond (is_forwarded from x.id J) (g x.id x.cents) 0

-- the forwarded transfers of an originator in J measure as its taken ones, the list T, that are forwarded in J
abbrev pub Mirrors : ℕ → List Event → List Transfer → Type 0
Mirrors from J T = (g : List ℕ → ℕ → ℕ) → sum_by (weighed g from) J ≡ sum_by (weighed_there g from J) T

forwarded_push : (from : ℕ) (id : List ℕ) (J : List Event) (event : Event) → is_forwarded from id (J ++ event ∷ []) ≡ (is_forwarded from id J || forwards from id event)
forwarded_push from id J event = list_any_push (forwards from id) J event

-- an event that forwards nothing of this originator
pub mirrors_other : (from : ℕ) (J : List Event) (T : List Transfer) (event : Event) → ((id : List ℕ) → forwards from id event ≡ false) → ((g : List ℕ → ℕ → ℕ) → weighed g from event ≡ 0) → Mirrors from J T → Mirrors from (J ++ event ∷ []) T
mirrors_other from J T event none zero_weight before g =
    let same : (x : Transfer) → weighed_there g from J x ≡ weighed_there g from (J ++ event ∷ []) x = λ x.
    ap (λ b. cond b (g x.id x.cents) 0) (sym (forwarded_push from x.id J event ∙ ap (λ b. is_forwarded from x.id J || b) (none x.id) ∙ or-false (is_forwarded from x.id J))) in
    let pushed : sum_by (weighed g from) (J ++ event ∷ []) ≡ sum_by (weighed g from) J + weighed g from event = sum_by_push (weighed g from) J event in
    let end : sum_by (weighed_there g from J) T ≡ sum_by (weighed_there g from (J ++ event ∷ [])) T = sum_by_same (weighed_there g from J) (weighed_there g from (J ++ event ∷ [])) T (each_of (λ (x : Transfer). weighed_there g from J x ≡ weighed_there g from (J ++ event ∷ []) x) T same) in
    omega (arith, pushed, zero_weight g, before g, end)

split_weight : (before new : Bool) (w : ℕ) → (new ≡ true → before ≡ false) → cond (before || new) w 0 ≡ cond before w 0 + cond new w 0
split_weight true true w apart = absurd (false≢true (sym (apart refl)))
split_weight true false w apart = omega arith
split_weight false true w apart = omega arith
split_weight false false w apart = omega arith

-- a transfer comes that wasn't there
pub mirrors_coming : (from : ℕ) (J : List Event) (T : List Transfer) (x : Transfer) (d : ℕ) → is_forwarded from x.id J ≡ false
    → ((h : Transfer → ℕ) → sum_by (measure_named h x.id) T ≡ h x) → Mirrors from J T → Mirrors from (J ++ Forwarded from x.id x.cents d ∷ []) T
mirrors_coming from J T x d new one before g =
    let event : Event = Forwarded from x.id x.cents d in
    let h : Transfer → ℕ = λ y. g y.id y.cents in
    let each : (y : Transfer) → weighed_there g from (J ++ event ∷ []) y ≡ weighed_there g from J y + measure_named h x.id y = λ y.
    ap (λ b. cond b (g y.id y.cents) 0) (forwarded_push from y.id J event ∙ ap (λ b. is_forwarded from y.id J || (b && same_text x.id y.id)) (eq-eqb from from refl))
    ∙ split_weight (is_forwarded from y.id J) (same_text x.id y.id) (g y.id y.cents)
    (λ same. ap (λ (i : List ℕ). is_forwarded from i J) (sym (same_text-true x.id y.id same)) ∙ new) in
    let left : sum_by (weighed g from) (J ++ event ∷ []) ≡ sum_by (weighed g from) J + g x.id x.cents =
    sum_by_push (weighed g from) J event ∙ ap (λ b. sum_by (weighed g from) J + cond b (g x.id x.cents) 0) (eq-eqb from from refl) in
    let right : sum_by (weighed_there g from (J ++ event ∷ [])) T ≡ sum_by (λ y. weighed_there g from J y + measure_named h x.id y) T =
    sum_by_same _ _ T (each_of (λ (y : Transfer). weighed_there g from (J ++ event ∷ []) y ≡ weighed_there g from J y + measure_named h x.id y) T each) in
    left ∙ ap (λ n. n + g x.id x.cents) (before g) ∙ sym (right ∙ sum_by-both (weighed_there g from J) (measure_named h x.id) T ∙ ap (λ n. sum_by (weighed_there g from J) T + n) (one h))

-- what is known of all histories together
pub record Together (s : HubSettings) (J : ℕ → List Event) : Type 0 where
  pub sound : (p : ℕ) → IsSound s p (J p)
  pub taken : (q from : ℕ) (id : List ℕ) → is_forwarded from id (J q) ≡ true → (x : Transfer) × (transfer id (J from) ≡ Some x) × (x.to ≡ q)
  pub mirror : (q from : ℕ) → Mirrors from (J q) (transfers (J from))

-- what was forwarded to q after a step was taken before it
pub taken_before : (s : HubSettings) (J : ℕ → List Event) (before : ℕ → List ℕ → Option Outcome) (step : Step) → Together s J → (q from : ℕ) (id : List ℕ) → is_forwarded from id (next s J before step q) ≡ true → (x : Transfer) × (transfer id (J from) ≡ Some x) × (x.to ≡ q)
taken_before s J before step t q =
    let Q : List Event → Type 0 = λ K. (from : ℕ) (id : List ℕ) → is_forwarded from id K ≡ true → (x : Transfer) × (transfer id (J from) ≡ Some x) × (x.to ≡ q) in
    let other : (event : Event) → ((from : ℕ) (id : List ℕ) → forwards from id event ≡ false) → Q (J q ++ event ∷ []) = λ event none from id e.
    t.taken q from id (sym (forwarded_push from id (J q) event ∙ ap (λ b. is_forwarded from id (J q) || b) (none from id) ∙ or-false (is_forwarded from id (J q))) ∙ e) in
    grows s J before step q Q (record {
      nothing = t.taken q;
      funds = λ ask funding is command why. other (Funded funding) (λ from id. refl);
      defunds = λ ask funding is command why cover. other (Defunded funding) (λ from id. refl);
      takes = λ ask id to cents stamp is command why. other (Taken id to cents stamp) (λ from id. refl);
      forwards = λ o index x is why from id e.
          elim (or_cases (is_forwarded from id (J q)) (same_transfer from id o x.id) (sym (forwarded_push from id (J q) (Forwarded o x.id x.cents (deadline s x))) ∙ e)) [
            | inl old ↦ t.taken q from id old
            | inr new ↦
                let same : (o ≡ from) × (x.id ≡ id) = same_transfer-true from id o x.id new in
                let found : transfer x.id (J o) ≡ Some x = place_found s o (J o) index x (t.sound o) why.there in
                (x, ap (λ p. transfer id (J p)) (sym same.0) ∙ ap (λ (i : List ℕ). transfer i (J o)) (sym same.1) ∙ found, why.addressed)
          ];
      books = λ from id o why. other (Booked from id o) (λ from id. refl);
      hands_out = λ ask max entry entries is command some. other _ (λ from id. refl);
    })
