-- Names of states in replies.
use Rattle.std.specs.Prelude.{ℕ, Bool, List, [], ◌∷◌, codes}
use Rattle.std.specs.List.{list_any}
use Rattle.inst_settings.specs.Settings.{same_text}

-- The names of the states without a reason.
abbrev pub is_state_name : List ℕ → Bool
is_state_name name =
    list_any (same_text name) (codes "pending" ∷ codes "accepted" ∷ codes "timed_out" ∷ [])
