-- If both of two bits are set, each is.
use Rattle.std.proofs.Common.{◌≡◌, Bool, true, false, ◌&&◌, sym, true≢false}

pub second_of : (x y : Bool) → (x && y) ≡ true → y ≡ true
second_of true y both = both
second_of false y both = absurd (true≢false (sym both))
