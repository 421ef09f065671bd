-- Hands and tellers that a thread returns have lost nothing. Crews are a choice of this hub.
use Rattle.std.specs.Prelude.{◌≡◌, List, [], ◌∷◌}
use mathlib.Core.List.{IsPrefix}
use Rattle.inst_desk.specs.declared.desk.Desk.{Desk}
use Rattle.inst_desk.specs.declared.hand.Hand.{Hand}
use Rattle.inst_desk.specs.Desk.{IsHandOf, IsSameHand, put_of, jobs_taken}
use Rattle.inst_hub.specs.declared.hub.Hub.{Hub}
use Rattle.inst_hub.specs.declared.teller.Teller.{Teller}
use Rattle.inst_hub.specs.Calls.{IsTellerOf, TellerKnowsMore}

-- The lists are equally long, and R relates the values at each position.
abbrev pub Pairs : {X Y : Type 0} → (X → Y → Type 0) → List X → List Y → Type 0
Pairs R [] [] = Unit {0}
Pairs R (x ∷ xs) (y ∷ ys) = R x y × Pairs R xs ys
Pairs R [] (y ∷ ys) = ⊥
Pairs R (x ∷ xs) [] = ⊥

-- The same hand of the desk. It put nothing, and may have taken more.
pub record IsLaterHand (d : Desk) (g h : Hand) : Type 0 where
  pub of : IsHandOf d h
  pub same : IsSameHand g h
  pub put : put_of h ≡ put_of g
  pub taken : IsPrefix (jobs_taken g) (jobs_taken h)

-- A teller of the hub that has lost no knowledge.
pub record IsLaterTeller (hub : Hub) (t u : Teller) : Type 0 where
  pub of : IsTellerOf hub u
  pub knows : TellerKnowsMore t u
