-- The last hand of a desk, taken out and put back, and the last teller of a hub.
use Rattle.std.proofs.Common.{◌≡◌, ℕ, zero, suc, List, [], ◌∷◌, ◌++◌, length, Some, refl, ap, ◌∙◌}
use Rattle.std.specs.Prelude.{slice_get}
use Rattle.inst_desk.specs.declared.desk.Desk.{Desk}
use Rattle.inst_desk.specs.declared.hand.Hand.{Hand}
use Rattle.inst_desk.specs.Desk.{IsHandOf, AreHandsOf}
use Rattle.inst_desk.proofs.Hands.{one_more}
use Rattle.inst_crew.proofs.PairsOfWorkersAndShifts.{nothing_at}

pub at_front : {X : Type 0} (xs ys : List X) (i : ℕ) (x : X) → slice_get xs i ≡ Some x → slice_get (xs ++ ys) i ≡ Some x
at_front [] ys i x e = absurd (nothing_at i x e)
at_front (z ∷ zs) ys zero x e = e
at_front (z ∷ zs) ys (suc i) x e = at_front zs ys i x e

at_last : {X : Type 0} (xs : List X) (x : X) → slice_get (xs ++ x ∷ []) (length xs) ≡ Some x
at_last [] x = refl
at_last (y ∷ ys) x = at_last ys x

pub last_hand : (d : Desk) (hands front : List Hand) (h : Hand) → AreHandsOf d hands → hands ≡ front ++ h ∷ [] → IsHandOf d h
last_hand d hands front h are is = are (length front) h (ap (λ (l : List Hand). slice_get l (length front)) is ∙ at_last front h)

pub with_last : (d : Desk) (hands front : List Hand) (h k : Hand) → AreHandsOf d hands → hands ≡ front ++ h ∷ [] → IsHandOf d k → AreHandsOf d (front ++ k ∷ [])
with_last d hands front h k are is of =
    one_more d front k (λ i g e. are i g (ap (λ (l : List Hand). slice_get l i) is ∙ at_front front (h ∷ []) i g e)) of
