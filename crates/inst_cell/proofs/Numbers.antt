-- Places by their numbers.
use Rattle.std.proofs.Common.{◌≡◌, ℕ, ◌+◌, ◌*◌, ◌/◌, ◌<◌, ◌≤◌, sym, arith, subst}
use Rattle.std.proofs.lemmas.Nat.{div-mul-add}
use Rattle.inst_settings.specs.Settings.{HubSettings, participants}
use Rattle.inst_command.specs.declared.place.Place.{Place}
use Rattle.inst_board.specs.Standing.{IsPlace}
use Rattle.inst_board.specs.Plain.{place_number}
use Rattle.inst_board.proofs.Places.{inside, number_below}
use Rattle.inst_cell.specs.Rule.{count_of_places}

pub below : (s : HubSettings) (k : Place) → IsPlace s k → place_number s k < count_of_places s
below s k h = number_below s k h

pub owner_is : (s : HubSettings) (k : Place) → IsPlace s k → place_number s k / s.places ≡ k.owner
owner_is s k h = div-mul-add k.owner s.places k.index (inside s k h).index

times : (x y : ℕ) → x < y → x * 6 + 6 ≤ y * 6
times x y h = omega arith

-- the six words of a place are words of the table
pub room : (s : HubSettings) (k : Place) (n m : ℕ) → IsPlace s k → n ≡ participants s → m ≡ s.places → (k.owner * m + k.index) * 6 + 6 ≤ m * n * 6
room s k n m h en em =
    subst (λ y. (k.owner * y + k.index) * 6 + 6 ≤ y * n * 6) (sym em)
    (subst (λ z. (k.owner * s.places + k.index) * 6 + 6 ≤ s.places * z * 6) (sym en) (times (place_number s k) (count_of_places s) (below s k h)))
