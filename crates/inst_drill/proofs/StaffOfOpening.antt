-- Who works in an opening, taken from all hands and tellers and put together again.
use Rattle.std.proofs.Common.{◌≡◌, zero, suc, ◌+◌, List, [], ◌∷◌, ◌++◌, length, length-append, Result, Ok, Err, ◌⊎◌, ⊎_elim, refl, ap, ◌∙◌, subst, arith}
use Rattle.std.specs.Prelude.{slice_get, sum_by, IfErr, IsOkUnless}
use Rattle.inst_base.proofs.Lists.{last_at}
use Rattle.inst_base.specs.declared.fault.Fault.{Fault}
use Rattle.inst_base.specs.declared.fault.Fault.TheVariants.{Memory, BadSettings}
use Rattle.std.proofs.lemmas.List.Sums.{sum_by-cons, sum_by-append}
use Rattle.inst_desk.specs.declared.desk.Desk.{Desk}
use Rattle.inst_desk.specs.declared.hand.Hand.{Hand}
use Rattle.inst_desk.specs.Desk.{IsHandOf, AreHandsOf, AreAllHandsOf, hand_parts as parts_of_hand}
use Rattle.inst_hub.specs.declared.hub.Hub.{Hub}
use Rattle.inst_hub.specs.declared.teller.Teller.{Teller}
use Rattle.inst_hub.specs.Calls.{IsTellerOf, AreOf, TellerKnowsMore}
use Rattle.inst_crew.specs.Later.{Pairs, IsLaterTeller}
use Rattle.inst_desk.proofs.Hands.{one_more}
use Rattle.inst_crew.proofs.LastHand.{at_front, last_hand}
use Rattle.inst_crew.proofs.PairsOfWorkersAndShifts.{pairs_both, first_is, nothing_at}

pub same_teller : (hub : Hub) (t : Teller) → IsTellerOf hub t → IsLaterTeller hub t t
same_teller hub t of = record { of = of; knows = record { facts = λ f k. k; fronts = λ p J seen. seen; parts = refl } }

pub same_tellers : (hub : Hub) (ts : List Teller) → AreOf hub ts → Pairs (IsLaterTeller hub) ts ts
same_tellers hub [] are = tt
same_tellers hub (t ∷ ts) are = (same_teller hub t (are 0 t refl), same_tellers hub ts (λ i u at. are (suc i) u at))

-- the last of all hands feeds, and the last of all tellers sweeps
long_front : {X : Type 0} (all front : List X) (x : X) → all ≡ front ++ x ∷ [] → length all ≡ 3 → length front ≡ 2
long_front all front x is three = let n = ap length is ∙ length-append front (x ∷ []) in omega (arith, n, three)

pub hands_apart : (d : Desk) (all front : List Hand) (h : Hand) → all ≡ front ++ h ∷ [] → AreAllHandsOf d all → length all ≡ 3
    → IsHandOf d h × (AreHandsOf d front × ((length front ≡ 2) × (sum_by parts_of_hand front + parts_of_hand h ≡ 16)))
hands_apart d all front h is are three =
    let dealt : sum_by parts_of_hand front + parts_of_hand h ≡ 16 =
    (let sum = sum_by-append parts_of_hand front (h ∷ []) in let one = sum_by-cons parts_of_hand h [] in
    let same = ap (sum_by parts_of_hand) is in let whole = are.all in omega (arith, sum, one, same, whole)) in
    let others : AreHandsOf d front = λ i g at. are.of i g (ap (λ (l : List Hand). slice_get l i) is ∙ at_front front (h ∷ []) i g at) in
    (last_hand d all front h are.of is, (others, (long_front all front h is three, dealt)))

pub tellers_apart : (hub : Hub) (all front : List Teller) (t : Teller) → all ≡ front ++ t ∷ [] → AreOf hub all → length all ≡ 3
    → IsTellerOf hub t × (AreOf hub front × (length front ≡ 2))
tellers_apart hub all front t is are three =
    let last : IsTellerOf hub t = are (length front) t (ap (λ (l : List Teller). slice_get l (length front)) is ∙ last_at front t) in
    let others : AreOf hub front = λ i u at. are i u (ap (λ (l : List Teller). slice_get l i) is ∙ at_front front (t ∷ []) i u at) in
    (last, (others, long_front all front t is three))

-- the sweeper knows more
pub sweeper_later : (hub : Hub) (tellers : List Teller) (t u : Teller) → AreOf hub tellers → IsTellerOf hub u → TellerKnowsMore t u
    → Pairs (IsLaterTeller hub) (tellers ++ t ∷ []) (tellers ++ u ∷ [])
sweeper_later hub tellers t u are of more =
    pairs_both (IsLaterTeller hub) tellers (t ∷ []) tellers (u ∷ []) (same_tellers hub tellers are) (record { of = of; knows = more }, tt)

pub more_and_more : (t u v : Teller) → TellerKnowsMore t u → TellerKnowsMore u v → TellerKnowsMore t v
more_and_more t u v first then = record {
  facts = λ f known. then.facts f (first.facts f known);
  fronts = λ p J seen. then.fronts p J (first.fronts p J seen);
  parts = then.parts ∙ first.parts;
}

-- all hands together again
pub all_hands : (d : Desk) (front : List Hand) (h : Hand) → AreHandsOf d front → IsHandOf d h → sum_by parts_of_hand front + parts_of_hand h ≡ 16 → AreAllHandsOf d (front ++ h ∷ [])
all_hands d front h are of sum = record {
  of = one_more d front h are of;
  all = (let both = sum_by-append parts_of_hand front (h ∷ []) in let one = sum_by-cons parts_of_hand h [] in omega (arith, both, one, sum));
}

-- an error that is want of memory or bad settings is want of memory where the settings are good
pub only_memory : {A : Type 0} (r : Result A Fault) → IfErr r (λ e. (e ≡ Memory) ⊎ (e ≡ BadSettings)) → (r ≡ Err BadSettings → ⊥) → IsOkUnless r Memory
only_memory (Ok v) only good = tt
only_memory (Err e) only good = ⊎_elim (λ memory. memory) (λ bad. absurd (good (ap Err bad))) only

-- all tellers together again
pub all_tellers : (hub : Hub) (front : List Teller) (t : Teller) → AreOf hub front → IsTellerOf hub t → AreOf hub (front ++ t ∷ [])
all_tellers hub [] t are of zero u at = subst (λ (x : Teller). IsTellerOf hub x) (first_is [] t u at) of
all_tellers hub [] t are of (suc i) u at = absurd (nothing_at i u at)
all_tellers hub (x ∷ front) t are of zero u at = are 0 u at
all_tellers hub (x ∷ front) t are of (suc i) u at = all_tellers hub front t (λ j v e. are (suc j) v e) of i u at
