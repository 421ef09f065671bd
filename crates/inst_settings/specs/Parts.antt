-- The participants of a hub as one text: codes (BICs, ISO 9362) separated by commas. A choice of
-- this hub.
use Rattle.std.specs.Prelude.{◌⊎◌, ◌≡◌, ◌==◌, ℕ, Bool, false, List}
use Rattle.std.specs.List.{list_all, slice_split}
use Rattle.inst_base.specs.Text.{is_code}
use Rattle.inst_base.specs.declared.fault.Fault.{Fault}
use Rattle.inst_base.specs.declared.fault.Fault.TheVariants.{BadSettings, Memory}

-- The texts between the commas.
abbrev pub parts_of : List ℕ → List (List ℕ)
parts_of = slice_split (λ b. b == 44)

-- True if each of them is a code.
abbrev pub are_codes : List ℕ → Bool
are_codes text = list_all is_code (parts_of text)

-- The possible refusals of a text: allocation failure, or a part that is no code.
abbrev pub IsRefusal : List ℕ → Fault → Type 0
IsRefusal text fault = (fault ≡ Memory) ⊎ ((fault ≡ BadSettings) × (are_codes text ≡ false))
