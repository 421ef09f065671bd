-- What a word leads to over any lawful words of a place.
use Rattle.std.proofs.Common.{◌≡◌, ℕ, zero, suc, ◌<◌, ◌≤◌, ◌⊎◌, List, [], ◌∷◌, inl, inr, refl, sym, ap, ◌∙◌, subst, arith}
use Rattle.std.specs.Prelude.{Some, slice_get}
use Rattle.std.proofs.lemmas.Bool.{cases_lt}
use Rattle.inst_command.specs.declared.outcome.Outcome.{Outcome}
use Rattle.inst_terms.specs.declared.word.Word.{Word}
use Rattle.inst_terms.specs.declared.word.Word.TheVariants.{Unused, Pending, Decided}
use Rattle.inst_terms.specs.WordLaw.{InTime, MovesWord, Follow, AreLawful, word_state, IsAtLeast}

module _ (margin : ℕ) where
  -- the second word may come after the first, in any number of exchanges
  abbrev Leads : Word → Word → Type 0
  Leads Unused w = Unit {0}
  Leads (Pending d) Unused = ⊥
  Leads (Pending d) (Pending e) = e ≡ d
  Leads (Pending d) (Decided o t) = InTime margin o d t
  Leads (Decided o t) w = w ≡ Decided o t

  leads_same : (v : Word) → Leads v v
  leads_same Unused = tt
  leads_same (Pending d) = refl
  leads_same (Decided o t) = refl

  leads_move : (u v w : Word) → Leads u v → MovesWord margin v w → Leads u w
  leads_move Unused v w l m = tt
  leads_move (Pending d) Unused w l m = absurd l
  leads_move (Pending d) (Pending e) Unused l m = absurd m
  leads_move (Pending d) (Pending e) (Pending f) l m = absurd m
  leads_move (Pending d) (Pending e) (Decided o t) l m = subst (λ (x : ℕ). InTime margin o x t) l m
  leads_move (Pending d) (Decided o t) w l m = absurd m
  leads_move (Decided o t) v w l m = absurd (subst (λ (x : Word). MovesWord margin x w) l m)

  leads_on : (u v w : Word) → Leads u v → (w ≡ v) ⊎ MovesWord margin v w → Leads u w
  leads_on u v w l (inl e) = subst (λ (x : Word). Leads u x) (sym e) l
  leads_on u v w l (inr m) = leads_move u v w l m

  leads_at : (u v : Word) (ws : List Word) → Leads u v → Follow margin v ws → (j : ℕ) (w : Word) → slice_get ws j ≡ Some w → Leads u w
  leads_at u v [] l h j w is = absurd (cc)
  leads_at u v (x ∷ xs) l h zero w is = let e : x ≡ w = cc in subst (λ (y : Word). Leads u y) e (leads_on u v x l h.0)
  leads_at u v (x ∷ xs) l h (suc j) w is = leads_at u x xs (leads_on u v x l h.0) h.1 j w is

  after : (v : Word) (ws : List Word) → Follow margin v ws → (j : ℕ) (w : Word) → slice_get (v ∷ ws) j ≡ Some w → Leads v w
  after v ws h zero w is = let e : v ≡ w = cc in subst (λ (y : Word). Leads v y) e (leads_same v)
  after v ws h (suc j) w is = leads_at v v ws (leads_same v) h j w is

  leads_between : (v : Word) (ws : List Word) → Follow margin v ws → (i j : ℕ) → i ≤ j → (a b : Word) → slice_get ws i ≡ Some a → slice_get ws j ≡ Some b → Leads a b
  leads_between v [] h i j below a b isa isb = absurd (cc)
  leads_between v (x ∷ xs) h zero j below a b isa isb =
      let e : x ≡ a = cc in subst (λ (y : Word). Leads y b) e (after x xs h.1 j b isb)
  leads_between v (x ∷ xs) h (suc i) zero below a b isa isb = absurd (omega arith)
  leads_between v (x ∷ xs) h (suc i) (suc j) below a b isa isb = leads_between x xs h.1 i j (omega arith) a b isa isb

  after_seen : (v w : Word) → Leads v w → IsAtLeast (word_state w) (word_state v)
  after_seen Unused w l = tt
  after_seen (Pending d) Unused l = absurd l
  after_seen (Pending d) (Pending e) l = tt
  after_seen (Pending d) (Decided o t) l = tt
  after_seen (Decided o t) w l = ap word_state l

  pub never_back : (words : List Word) → AreLawful margin words → (i j : ℕ) → i ≤ j → (v w : Word) → slice_get words i ≡ Some v → slice_get words j ≡ Some w → IsAtLeast (word_state w) (word_state v)
  never_back words h i j below v w isv isw = after_seen v w (leads_between Unused words h i j below v w isv isw)

  pub one_decided : (words : List Word) → AreLawful margin words → (i j : ℕ) (o p : Outcome) (t u : ℕ) → slice_get words i ≡ Some (Decided o t) → slice_get words j ≡ Some (Decided p u) → Decided o t ≡ Decided p u
  one_decided words h i j o p t u iso isp = elim (cases_lt i j) [
    | inl less ↦ sym (leads_between Unused words h i j (omega arith) (Decided o t) (Decided p u) iso isp)
    | inr more ↦ leads_between Unused words h j i more (Decided p u) (Decided o t) isp iso
  ]

  pub one_deadline : (words : List Word) → AreLawful margin words → (i j d e : ℕ) → slice_get words i ≡ Some (Pending d) → slice_get words j ≡ Some (Pending e) → d ≡ e
  one_deadline words h i j d e isd ise = elim (cases_lt i j) [
    | inl less ↦ sym (leads_between Unused words h i j (omega arith) (Pending d) (Pending e) isd ise)
    | inr more ↦ leads_between Unused words h j i more (Pending e) (Pending d) ise isd
  ]

  -- where the words begin after a pending one, or that one stands among them
  abbrev Decider : Word → List Word → ℕ → Outcome → ℕ → Type 0
  Decider Unused ws i o t = (j : ℕ) × (d : ℕ) × (j < i) × (slice_get ws j ≡ Some (Pending d)) × (1 ≤ d) × InTime margin o d t
  Decider (Pending d) ws i o t = InTime margin o d t
  Decider (Decided p u) ws i o t = Unit {0}

  not_first : {o : Outcome} {t : ℕ} (x w : Word) → (x ≡ Unused) ⊎ MovesWord margin Unused x → x ≡ w → w ≡ Decided o t → ⊥
  not_first x w (inl e) same is = absurd (cc)
  not_first x w (inr m) same is = subst (λ (y : Word). MovesWord margin Unused y) (same ∙ is) m

  opened : (d : ℕ) → (Pending d ≡ Unused) ⊎ MovesWord margin Unused (Pending d) → 1 ≤ d
  opened d (inl e) = absurd (cc)
  opened d (inr m) = m

  decider : (v : Word) (ws : List Word) → Follow margin v ws → (i : ℕ) (o : Outcome) (t : ℕ) → slice_get ws i ≡ Some (Decided o t) → Decider v ws i o t
  decider Unused [] h i o t is = absurd (cc)
  decider Unused (x ∷ xs) h zero o t is = absurd (not_first x (Decided o t) h.0 (cc) refl)
  decider Unused (Unused ∷ xs) h (suc i) o t is =
      let r = decider Unused xs h.1 i o t is in (suc r.0, r.1, omega (arith, r.2), r.3, r.4, r.5)
  decider Unused (Pending d ∷ xs) h (suc i) o t is = (0, d, omega arith, refl, opened d h.0, decider (Pending d) xs h.1 i o t is)
  decider Unused (Decided p u ∷ xs) h (suc i) o t is = absurd (not_first (Decided p u) (Decided p u) h.0 refl refl)
  decider (Pending d) ws h i o t is = leads_at (Pending d) (Pending d) ws refl h i (Decided o t) is
  decider (Decided p u) ws h i o t is = tt

  pub in_time : (words : List Word) → AreLawful margin words → (i : ℕ) (o : Outcome) (t : ℕ) → slice_get words i ≡ Some (Decided o t) →
      (j : ℕ) × (d : ℕ) × (j < i) × (slice_get words j ≡ Some (Pending d)) × (1 ≤ d) × InTime margin o d t
  in_time words h i o t is = decider Unused words h i o t is
