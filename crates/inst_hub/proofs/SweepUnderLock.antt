-- A sweep under a lock, as its caller sees it.
use Rattle.std.proofs.Common.{◌≡◌, ℕ, [], ◌∷◌, ◌++◌, subst}
use Rattle.std.specs.Prelude.{Result, is_ok, IfOk}
use Rattle.std.specs.declared.alloc.AllocError.{AllocError}
use Rattle.inst_row.specs.View.{front}
use Rattle.inst_row.specs.Row.{key_of}
use Rattle.inst_row.specs.Seated.{GoesOn}
use Rattle.inst_participant.specs.declared.participant.Participant.{Participant}
use Rattle.inst_participant.specs.Told.{IsToldAll}
use Rattle.inst_participant.specs.Sweeping.{Sweeps, IsWholeSweep}
use Rattle.inst_hub.specs.declared.hub.Hub.{Hub}
use Rattle.inst_hub.specs.declared.teller.Teller.{Teller}
use Rattle.inst_hub.specs.Calls.{fronts_seen}
use Rattle.inst_hub.specs.Founding.{IsSince}
use Rattle.inst_hub.specs.Sweeping.{IsSweep}

-- the same at the lock p, which is that of `who`
pub sweep_at : (h : Hub) (t u : Teller) (who at : ℕ) (result : Result ℕ AllocError) (x y : Participant) (p : ℕ) → p ≡ who → IsSince (key_of h.row) p x
    → GoesOn p x.slot.events t.seat → fronts_seen u ≡ fronts_seen t ++ front p x.slot.events ∷ front p y.slot.events ∷ []
    → IsToldAll x.slot.events y.slot.events → Sweeps at (is_ok result) x y → IfOk result (IsWholeSweep at x y) → IsSweep h t who at result u
sweep_at h t u who at result x y p is behind goes_on seen told sweeps whole = record {
  found = x;
  left = y;
  behind = subst (λ (n : ℕ). IsSince (key_of h.row) n x) is behind;
  goes_on = subst (λ (n : ℕ). GoesOn n x.slot.events t.seat) is goes_on;
  seen = subst (λ (n : ℕ). fronts_seen u ≡ fronts_seen t ++ front n x.slot.events ∷ front n y.slot.events ∷ []) is seen;
  told = told;
  sweeps = sweeps;
  whole = whole;
}
