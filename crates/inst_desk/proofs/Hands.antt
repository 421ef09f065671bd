-- The hands of a desk, dealt one by one and gathered one by one.
use Rattle.std.proofs.Common.{◌≡◌, ℕ, zero, suc, ◌+◌, ◌-◌, ◌<◌, List, [], ◌∷◌, ◌++◌, length, sym, refl, ap, ◌∙◌, subst, arith, append_assoc, Some}
use Rattle.std.specs.Prelude.{All, sum_by, slice_get}
use Rattle.std.proofs.lemmas.List.Elements.{All-push}
use Rattle.std.proofs.lemmas.List.Sums.{sum_by-cons, sum_by-append}
use Rattle.std.proofs.lemmas.List.{append-nil, length-append}
use Rattle.crossbeam_queue.specs.Passes.{Pass, view, IsPassOf}
use Rattle.inst_desk.specs.declared.account.Account.{Account}
use Rattle.inst_desk.specs.declared.desk.Desk.{Desk}
use Rattle.inst_desk.specs.declared.hand.Hand.{Hand}
use Rattle.inst_desk.specs.declared.job.Job.{Job}
use Rattle.inst_desk.specs.Account.{account, first_account}
use Rattle.inst_desk.specs.inner.Account.{one_part, less_one_part, together}
use Rattle.inst_desk.specs.Desk.{IsHandOf, AreHandsOf, AreAllHandsOf, IsNewHand, account_of, hand_parts, put_of, jobs_taken, put_together, taken_together}

hand_at : (hands : List Hand) (h g : Hand) (i : ℕ) (P : Hand → Type 0) → P h → ((j : ℕ) (x : Hand) → slice_get hands j ≡ Some x → P x) → slice_get (hands ++ h ∷ []) i ≡ Some g → P g
hand_at [] h g zero P new old e = let is : h ≡ g = cc in subst P is new
hand_at [] h g (suc i) P new old e = let no : ⊥ = cc in absurd no
hand_at (x ∷ xs) h g zero P new old e = old 0 g e
hand_at (x ∷ xs) h g (suc i) P new old e = hand_at xs h g i P new (λ j y f. old (suc j) y f) e

abbrev no_hands : List Hand
no_hands = []

nothing_there : (i : ℕ) (h : Hand) → slice_get no_hands i ≡ Some h → ⊥
nothing_there i h e = cc

pub one_more : (d : Desk) (hands : List Hand) (h : Hand) → AreHandsOf d hands → IsHandOf d h → AreHandsOf d (hands ++ h ∷ [])
one_more d hands h are is i g e = hand_at hands h g i (IsHandOf d) is are e

pub parts_more : (hands : List Hand) (h : Hand) → sum_by hand_parts (hands ++ h ∷ []) ≡ sum_by hand_parts hands + hand_parts h
parts_more hands h = let a = sum_by-append hand_parts hands (h ∷ []) in let b = sum_by-cons hand_parts h [] in omega arith

pub new_more : (hands : List Hand) (h : Hand) → All IsNewHand hands → IsNewHand h → All IsNewHand (hands ++ h ∷ [])
new_more hands h all new = All-push IsNewHand hands h all new

pub first_of : (d : Desk) (hands rest : List Hand) (h : Hand) → AreHandsOf d hands → hands ≡ h ∷ rest → IsHandOf d h
first_of d hands rest h are is = are 0 h (ap (λ (l : List Hand). slice_get l 0) is)

pub rest_of : (d : Desk) (hands rest : List Hand) (h : Hand) → AreHandsOf d hands → hands ≡ h ∷ rest → AreHandsOf d rest
rest_of d hands rest h are is i g e = are (suc i) g (ap (λ (l : List Hand). slice_get l (suc i)) is ∙ e)

-- what is gathered so far, with what is still to be gathered, is all
pub record Gathers (whole : Account) (rest hands : List Hand) : Type 0 where
  pub parts : whole.parts + sum_by hand_parts rest ≡ sum_by hand_parts hands
  pub put : whole.put ++ put_together rest ≡ put_together hands
  pub taken : whole.taken ++ taken_together rest ≡ taken_together hands

pub gathers_first : (hands rest : List Hand) (h : Hand) → hands ≡ h ∷ rest → Gathers (account_of h) rest hands
gathers_first hands rest h is = record {
  parts = (let a = sum_by-cons hand_parts h rest in let b : sum_by hand_parts hands ≡ sum_by hand_parts (h ∷ rest) = ap (sum_by hand_parts) is in omega arith);
  put = ap put_together (sym is);
  taken = ap taken_together (sym is);
}

pub gathers_next : (v w : Account) (hands rest after : List Hand) (h : Hand) → Gathers v rest hands → rest ≡ h ∷ after → w ≡ together v (account_of h) → Gathers w after hands
gathers_next v w hands rest after h g is both = record {
  parts = (let a = sum_by-cons hand_parts h after in let b : sum_by hand_parts rest ≡ sum_by hand_parts (h ∷ after) = ap (sum_by hand_parts) is in
      let p : w.parts ≡ v.parts + hand_parts h = ap (λ (u : Account). u.parts) both in let q = g.parts in omega arith);
  put = ap (λ (u : Account). u.put ++ put_together after) both ∙ (append_assoc v.put (put_of h) (put_together after) ∙ (ap (λ (l : List Hand). v.put ++ put_together l) (sym is) ∙ g.put));
  taken = ap (λ (u : Account). u.taken ++ taken_together after) both ∙ (append_assoc v.taken (jobs_taken h) (taken_together after) ∙ (ap (λ (l : List Hand). v.taken ++ taken_together l) (sym is) ∙ g.taken));
}

pub none_left : (hands : List Hand) → length hands ≡ 0 → hands ≡ []
none_left [] e = refl
none_left (h ∷ hs) e = absurd (omega arith)

pub gathers_all : (v : Account) (hands rest : List Hand) → Gathers v rest hands → rest ≡ [] → sum_by hand_parts hands ≡ 16 → v ≡ account 16 (put_together hands) (taken_together hands)
gathers_all v hands rest g none all =
    let z : sum_by hand_parts rest ≡ 0 = ap (sum_by hand_parts) none in
    let q = g.parts in
    let parts : v.parts ≡ 16 = omega arith in
    let put : v.put ≡ put_together hands = sym (append-nil v.put) ∙ (ap (λ (l : List Hand). v.put ++ put_together l) (sym none) ∙ g.put) in
    let taken : v.taken ≡ taken_together hands = sym (append-nil v.taken) ∙ (ap (λ (l : List Hand). v.taken ++ taken_together l) (sym none) ∙ g.taken) in
    λ i. account (parts i) (put i) (taken i)

-- these hands were dealt, and this is what the first has left
pub record Dealt (d : Desk) (left : Account) (hands : List Hand) : Type 0 where
  pub parts : left.parts + length hands ≡ 16
  pub put : left.put ≡ []
  pub taken : left.taken ≡ []
  pub of : AreHandsOf d hands
  pub each : sum_by hand_parts hands ≡ length hands
  pub new : All IsNewHand hands

pub dealt_first : (d : Desk) (v : Account) (hands : List Hand) → v ≡ first_account → hands ≡ [] → Dealt d v hands
dealt_first d v hands is none =
    let n : length hands ≡ 0 = ap length none in
    let p : v.parts ≡ 16 = ap (λ (u : Account). u.parts) is in
    let s : sum_by hand_parts hands ≡ 0 = ap (sum_by hand_parts) none in
    record {
      parts = omega arith;
      put = ap (λ (u : Account). u.put) is;
      taken = ap (λ (u : Account). u.taken) is;
      of = λ i h e. absurd (nothing_there i h (sym (ap (λ (l : List Hand). slice_get l i) none) ∙ e));
      each = omega arith;
      new = λ k x below. absurd (omega arith);
    }

is_hand : (d : Desk) (h : Hand) (s : Pass Job Account) → IsPassOf d.queue s → h.seat ≡ s → 0 < (view s).parts → IsHandOf d h
is_hand d h s on is some = record {
  on = subst (λ (z : Pass Job Account). IsPassOf d.queue z) (sym is) on;
  some_part = subst (λ (z : Pass Job Account). 0 < (view z).parts) (sym is) some;
}

pub dealt_more : (d : Desk) (left after : Account) (hands items : List Hand) (h : Hand) (s : Pass Job Account) → Dealt d left hands → 1 < left.parts → after ≡ less_one_part left → view s ≡ one_part left → IsPassOf d.queue s → h.seat ≡ s → items ≡ hands ++ h ∷ [] → Dealt d after items
dealt_more d left after hands items h s r more less one on is all =
    let a : account_of h ≡ one_part left = ap (λ (z : Pass Job Account). view z) is ∙ one in
    let p : hand_parts h ≡ 1 = ap (λ (u : Account). u.parts) a in
    let q : (view s).parts ≡ 1 = ap (λ (u : Account). u.parts) one in
    let l : after.parts ≡ left.parts - 1 = ap (λ (u : Account). u.parts) less in
    let n : length items ≡ length hands + 1 = ap length all ∙ length-append hands (h ∷ []) in
    let s' : sum_by hand_parts items ≡ sum_by hand_parts hands + hand_parts h = ap (sum_by hand_parts) all ∙ parts_more hands h in
    let e = r.each in let b = r.parts in
    record {
      parts = omega arith;
      put = ap (λ (u : Account). u.put) less ∙ r.put;
      taken = ap (λ (u : Account). u.taken) less ∙ r.taken;
      of = subst (λ (l : List Hand). AreHandsOf d l) (sym all) (one_more d hands h r.of (is_hand d h s on is (omega arith)));
      each = omega arith;
      new = subst (λ (l : List Hand). All IsNewHand l) (sym all) (new_more hands h r.new (ap (λ (u : Account). u.put) a, ap (λ (u : Account). u.taken) a));
    }

pub dealt_all : (d : Desk) (hands items : List Hand) (h : Hand) (s : Pass Job Account) → Dealt d (view s) hands → length hands < 16 → IsPassOf d.queue s → h.seat ≡ s → items ≡ hands ++ h ∷ [] → AreAllHandsOf d items × All IsNewHand items
dealt_all d hands items h s r short on is all =
    let a : account_of h ≡ view s = ap (λ (z : Pass Job Account). view z) is in
    let p : hand_parts h ≡ (view s).parts = ap (λ (u : Account). u.parts) a in
    let s' : sum_by hand_parts items ≡ sum_by hand_parts hands + hand_parts h = ap (sum_by hand_parts) all ∙ parts_more hands h in
    let e = r.each in let b = r.parts in (
      record {
        of = subst (λ (l : List Hand). AreHandsOf d l) (sym all) (one_more d hands h r.of (is_hand d h s on is (omega arith)));
        all = omega arith;
      },
      subst (λ (l : List Hand). All IsNewHand l) (sym all) (new_more hands h r.new (ap (λ (u : Account). u.put) a ∙ r.put, ap (λ (u : Account). u.taken) a ∙ r.taken)),
    )
