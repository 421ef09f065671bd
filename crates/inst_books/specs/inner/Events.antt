-- Names in events.
use Rattle.std.specs.Prelude.{ℕ, Bool, List, [], ◌∷◌, codes}
use Rattle.std.specs.List.{list_any}
use Rattle.inst_settings.specs.Settings.{same_text}

-- The names of fundings, and of outcomes without a reason.
abbrev pub is_name : List ℕ → Bool
is_name name =
    list_any (same_text name) (codes "funded" ∷ codes "defunded" ∷ codes "accepted"
    ∷ codes "timed_out" ∷ [])
