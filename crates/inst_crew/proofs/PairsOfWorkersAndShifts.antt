-- What workers did one by one, and what they did together.
use Rattle.std.proofs.Common.{length, ◌≡◌, ℕ, zero, suc, ◌+◌, ◌-◌, ◌^◌, ◌≤◌, List, [], ◌∷◌, ◌++◌, Some, refl, subst, arith}
use Rattle.std.specs.Prelude.{min, map, sum_by, slice_get, Ok}
use Rattle.std.proofs.lemmas.List.Sums.{sum_by-cons}
use Rattle.inst_command.specs.declared.place.Place.{Place}
use Rattle.inst_command.specs.declared.outcome.State.{State}
use Rattle.inst_desk.specs.declared.desk.Desk.{Desk}
use Rattle.inst_desk.specs.declared.hand.Hand.{Hand}
use Rattle.inst_desk.specs.Desk.{IsHandOf, AreHandsOf, hand_parts, jobs_taken, taken_together}
use Rattle.inst_hub.specs.declared.hub.Hub.{Hub}
use Rattle.inst_hub.specs.declared.teller.Teller.{Teller}
use Rattle.inst_hub.specs.Calls.{IsTellerOf, AreOf}
use Rattle.inst_hub.specs.Opening.{row_parts as parts_of_tellers}
use Rattle.inst_row.specs.Seated.{view_of}
use Rattle.inst_crew.specs.declared.shift.Shift.{Shift}
use Rattle.inst_crew.specs.declared.worker.Worker.{Worker}
use Rattle.inst_crew.specs.Crew.{fitting, answered_between}
use Rattle.inst_crew.specs.Later.{Pairs, IsLaterHand, IsLaterTeller}
use Rattle.inst_crew.specs.Seen.{IsOutcomeSeen, AreSeenByOne}
use Rattle.inst_crew.specs.Served.{AreServed}
use Rattle.inst_crew.specs.inner.Workers.{hands_of, workers_tellers, states_of, HasHandAndTeller, AreReady, Works, HasEndedShift, AllWork}
use Rattle.inst_crew.proofs.OneMoreTakenJob.{fitting_both, fitting_prefix}

pub first_is : {X : Type 0} (xs : List X) (x y : X) → slice_get (x ∷ xs) 0 ≡ Some y → x ≡ y
first_is xs x y e = cc

abbrev pub none_of : (X : Type 0) → List X
none_of X = []

pub nothing_at : {X : Type 0} (i : ℕ) (y : X) → slice_get (none_of X) i ≡ Some y → ⊥
nothing_at i y e = cc

pub pairs_both : {X Y : Type 0} (R : X → Y → Type 0) (xs xs' : List X) (ys ys' : List Y) → Pairs R xs ys → Pairs R xs' ys' → Pairs R (xs ++ xs') (ys ++ ys')
pairs_both R [] xs' [] ys' p q = q
pairs_both R [] xs' (y ∷ ys) ys' p q = absurd p
pairs_both R (x ∷ xs) xs' [] ys' p q = absurd p
pairs_both R (x ∷ xs) xs' (y ∷ ys) ys' p q = (p.0, pairs_both R xs xs' ys ys' p.1 q)

-- workers with hands of the desk and tellers of the hub are ready
pub all_ready : (hub : Hub) (d : Desk) (ws : List Worker) → AreHandsOf d (hands_of ws) → AreOf hub (workers_tellers ws) → AreReady hub d ws
all_ready hub d [] hands tellers i w at = absurd (nothing_at i w at)
all_ready hub d (x ∷ xs) hands tellers zero w at = subst (λ (y : Worker). HasHandAndTeller hub d y) (first_is xs x w at) record { hand = hands 0 x.hand refl; teller = tellers 0 x.teller refl }
all_ready hub d (x ∷ xs) hands tellers (suc i) w at = all_ready hub d xs (λ j h e. hands (suc j) h e) (λ j t e. tellers (suc j) t e) i w at

-- the results of workers that all came to their end
pub pairs_from : (hub : Hub) (d : Desk) (ws : List Worker) (ss : List Shift) → AllWork hub d ws (map Ok ss) → Pairs (HasEndedShift hub d) ws ss
pairs_from hub d [] [] all = tt
pairs_from hub d [] (s ∷ ss) all = let e = all.enough in absurd (omega arith)
pairs_from hub d (w ∷ ws) [] all = let e = all.enough in absurd (omega arith)
pairs_from hub d (w ∷ ws) (s ∷ ss) all = (
  all.each 0 w (Ok s) refl refl,
  pairs_from hub d ws ss record { enough = (let e = all.enough in omega arith); each = λ i v r at at'. all.each (suc i) v r at at' },
)

-- what they did until their end
pub pairs_work : (hub : Hub) (d : Desk) (ws : List Worker) (ss : List Shift) → Pairs (HasEndedShift hub d) ws ss → Pairs (Works hub d) ws ss
pairs_work hub d [] [] p = tt
pairs_work hub d [] (s ∷ ss) p = absurd p
pairs_work hub d (w ∷ ws) [] p = absurd p
pairs_work hub d (w ∷ ws) (s ∷ ss) p = (p.0.works, pairs_work hub d ws ss p.1)

-- the jobs that they served, where there may be more tellers
pub all_served : (hub : Hub) (d : Desk) (ws : List Worker) (ss : List Shift) (more : List Teller) → Pairs (HasEndedShift hub d) ws ss
    → AreServed hub (hands_of ws) (map (λ s. s.hand) ss) (workers_tellers ws) (map (λ s. s.teller) ss ++ more) (states_of ss)
all_served hub d [] [] more p = refl
all_served hub d [] (s ∷ ss) more p = absurd p
all_served hub d (w ∷ ws) [] more p = absurd p
all_served hub d (w ∷ ws) (s ∷ ss) more p =
    let served = p.0.works.served in (
      s.states.items,
      states_of ss,
      refl,
      record { jobs = served.0; taken = served.1; serves = served.2; emptied = p.0.emptied },
      all_served hub d ws ss more p.1,
    )

pub pairs_hands : (hub : Hub) (d : Desk) (ws : List Worker) (ss : List Shift) → Pairs (Works hub d) ws ss → Pairs (IsLaterHand d) (hands_of ws) (map (λ s. s.hand) ss)
pairs_hands hub d [] [] p = tt
pairs_hands hub d [] (s ∷ ss) p = absurd p
pairs_hands hub d (w ∷ ws) [] p = absurd p
pairs_hands hub d (w ∷ ws) (s ∷ ss) p = (p.0.hand, pairs_hands hub d ws ss p.1)

pub pairs_tellers : (hub : Hub) (d : Desk) (ws : List Worker) (ss : List Shift) → Pairs (Works hub d) ws ss → Pairs (IsLaterTeller hub) (workers_tellers ws) (map (λ s. s.teller) ss)
pairs_tellers hub d [] [] p = tt
pairs_tellers hub d [] (s ∷ ss) p = absurd p
pairs_tellers hub d (w ∷ ws) [] p = absurd p
pairs_tellers hub d (w ∷ ws) (s ∷ ss) p = (p.0.teller, pairs_tellers hub d ws ss p.1)

pub are_hands : (d : Desk) (gs hs : List Hand) → Pairs (IsLaterHand d) gs hs → AreHandsOf d hs
are_hands d [] [] p i h at = absurd (nothing_at i h at)
are_hands d [] (h ∷ hs) p i g at = absurd p
are_hands d (g ∷ gs) [] p i h at = absurd p
are_hands d (g ∷ gs) (h ∷ hs) p zero k at = subst (λ (x : Hand). IsHandOf d x) (first_is hs h k at) p.0.of
are_hands d (g ∷ gs) (h ∷ hs) p (suc i) k at = are_hands d gs hs p.1 i k at

pub are_tellers : (hub : Hub) (ts us : List Teller) → Pairs (IsLaterTeller hub) ts us → AreOf hub us
are_tellers hub [] [] p i u at = absurd (nothing_at i u at)
are_tellers hub [] (u ∷ us) p i v at = absurd p
are_tellers hub (t ∷ ts) [] p i u at = absurd p
are_tellers hub (t ∷ ts) (u ∷ us) p zero v at = subst (λ (x : Teller). IsTellerOf hub x) (first_is us u v at) p.0.of
are_tellers hub (t ∷ ts) (u ∷ us) p (suc i) v at = are_tellers hub ts us p.1 i v at

pub same_parts : (d : Desk) (gs hs : List Hand) → Pairs (IsLaterHand d) gs hs → sum_by hand_parts hs ≡ sum_by hand_parts gs
same_parts d [] [] p = refl
same_parts d [] (h ∷ hs) p = absurd p
same_parts d (g ∷ gs) [] p = absurd p
same_parts d (g ∷ gs) (h ∷ hs) p =
    let r = same_parts d gs hs p.1 in let e = p.0.same.parts in
    let a = sum_by-cons hand_parts h hs in let b = sum_by-cons hand_parts g gs in omega arith

pub same_row : (hub : Hub) (ts us : List Teller) → Pairs (IsLaterTeller hub) ts us → parts_of_tellers us ≡ parts_of_tellers ts
same_row hub [] [] p = refl
same_row hub [] (u ∷ us) p = absurd p
same_row hub (t ∷ ts) [] p = absurd p
same_row hub (t ∷ ts) (u ∷ us) p =
    let r = same_row hub ts us p.1 in let e = p.0.knows.parts in
    let a = sum_by-cons (λ (x : Teller). (view_of x.seat).parts) u us in
    let b = sum_by-cons (λ (x : Teller). (view_of x.seat).parts) t ts in omega arith

-- how much all have answered, with what their hands took before and after
counted_one : (before after rest_before rest_after one rest sum both_before both_after : ℕ) → one ≡ min (after - before) (2 ^ 64 - 1) → before ≤ after → min rest (2 ^ 64 - 1) ≡ min (rest_after - rest_before) (2 ^ 64 - 1) → rest_before ≤ rest_after → sum ≡ one + rest → both_before ≡ before + rest_before → both_after ≡ after + rest_after → min sum (2 ^ 64 - 1) ≡ min (both_after - both_before) (2 ^ 64 - 1)
counted_one before after rest_before rest_after one rest sum both_before both_after a b c d e f g = omega arith

pub all_answered : (hub : Hub) (d : Desk) (ws : List Worker) (ss : List Shift) → Pairs (Works hub d) ws ss
    → (min (sum_by (λ s. s.answered) ss) (2 ^ 64 - 1) ≡ answered_between hub.settings (hands_of ws) (map (λ s. s.hand) ss))
    × (fitting hub.settings (taken_together (hands_of ws)) ≤ fitting hub.settings (taken_together (map (λ s. s.hand) ss)))
all_answered hub d [] [] p = (refl, omega arith)
all_answered hub d [] (s ∷ ss) p = absurd p
all_answered hub d (w ∷ ws) [] p = absurd p
all_answered hub d (w ∷ ws) (s ∷ ss) p =
    let r = all_answered hub d ws ss p.1 in
    let prefix = fitting_prefix hub.settings (jobs_taken w.hand) (jobs_taken s.hand) p.0.hand.taken in
    let a = fitting_both hub.settings (jobs_taken w.hand) (taken_together (hands_of ws)) in
    let b = fitting_both hub.settings (jobs_taken s.hand) (taken_together (map (λ (x : Shift). x.hand) ss)) in
    let c = sum_by-cons (λ (x : Shift). x.answered) s ss in (
      counted_one (fitting hub.settings (jobs_taken w.hand)) (fitting hub.settings (jobs_taken s.hand)) (fitting hub.settings (taken_together (hands_of ws))) (fitting hub.settings (taken_together (map (λ (x : Shift). x.hand) ss)))
          s.answered (sum_by (λ (x : Shift). x.answered) ss) (sum_by (λ (x : Shift). x.answered) (s ∷ ss))
          (fitting hub.settings (taken_together (hands_of (w ∷ ws)))) (fitting hub.settings (taken_together (map (λ (x : Shift). x.hand) (s ∷ ss))))
          p.0.answered prefix r.0 r.1 c a b,
      (let q = r.1 in omega arith),
    )

either_side : (xs ys : List (Place × State)) (x : Place × State) (i : ℕ) (P : Type 0) → ((j : ℕ) → slice_get xs j ≡ Some x → P) → ((j : ℕ) → slice_get ys j ≡ Some x → P) → slice_get (xs ++ ys) i ≡ Some x → P
either_side [] ys x i P left right at = right i at
either_side (z ∷ zs) ys x zero P left right at = left 0 at
either_side (z ∷ zs) ys x (suc i) P left right at = either_side zs ys x i P (λ j e. left (suc j) e) right at

pub all_seen : (hub : Hub) (d : Desk) (ws : List Worker) (ss : List Shift) → Pairs (Works hub d) ws ss → AreSeenByOne (map (λ s. s.teller) ss) (states_of ss)
all_seen hub d [] [] p i x at = absurd (nothing_at i x at)
all_seen hub d [] (s ∷ ss) p i x at = absurd p
all_seen hub d (w ∷ ws) [] p i x at = absurd p
all_seen hub d (w ∷ ws) (s ∷ ss) p i x at =
    either_side s.states.items (states_of ss) x i ((j : ℕ) × (t : Teller) × (slice_get (map (λ (y : Shift). y.teller) (s ∷ ss)) j ≡ Some t) × IsOutcomeSeen t x)
    (λ j e. (0, s.teller, refl, p.0.states j x e))
    (λ j e. (let r = all_seen hub d ws ss p.1 j x e in (suc r.0, r.1, r.2, r.3)))
    at

at_left : (ts us : List Teller) (j : ℕ) (t : Teller) → slice_get ts j ≡ Some t → slice_get (ts ++ us) j ≡ Some t
at_left [] us j t e = absurd (nothing_at j t e)
at_left (x ∷ xs) us zero t e = e
at_left (x ∷ xs) us (suc j) t e = at_left xs us j t e

pub seen_with : (ts us : List Teller) (states : List (Place × State)) → AreSeenByOne ts states → AreSeenByOne (ts ++ us) states
seen_with ts us states seen i x at = let r = seen i x at in (r.0, r.1, at_left ts us r.0 r.1 r.2, r.3)

pub pairs_length : {X Y : Type 0} (R : X → Y → Type 0) (xs : List X) (ys : List Y) → Pairs R xs ys → length ys ≡ length xs
pairs_length R [] [] p = refl
pairs_length R [] (y ∷ ys) p = absurd p
pairs_length R (x ∷ xs) [] p = absurd p
pairs_length R (x ∷ xs) (y ∷ ys) p = let r = pairs_length R xs ys p.1 in omega arith
