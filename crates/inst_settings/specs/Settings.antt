-- The settings of a hub. Participants have codes (BICs, ISO 9362) and are numbered from 0 in the
-- order of the codes. The time limit counts from the originator's time stamp, as in the rulebook
-- (EPC004-16, chapter 4: time cycle); its length, the capacities and the ceiling are a choice of
-- this hub.
use Rattle.std.specs.Prelude.{ℕ, Bool, ◌&&◌, nat_eq, nat_lt, nat_le, List, length}
use Rattle.std.specs.Cmp.Lexicographic.{pointwise}

-- codes: the participants' codes, in the order of their numbers
-- places: the most live transfers of an originator
-- fundings: the most fund and defund commands kept for a participant between two openings
-- limit: from the time stamp to the deadline, in milliseconds
-- margin: the cut-off before the deadline, within which no transfer is accepted, in milliseconds
-- ahead: how far a time stamp may be after the clock reading, in milliseconds
-- ceiling: the largest amount of one command, in cents
-- base: the absolute milliseconds from which moments are counted
pub record HubSettings : Type 0 where
  pub codes : List (List ℕ)
  pub places : ℕ
  pub fundings : ℕ
  pub limit : ℕ
  pub margin : ℕ
  pub ahead : ℕ
  pub ceiling : ℕ
  pub base : ℕ

-- True if two texts are equal.
abbrev pub same_text : List ℕ → List ℕ → Bool
same_text = pointwise nat_eq

-- The number of participants.
abbrev pub participants : HubSettings → ℕ
participants s = length s.codes

-- True if a participant has this number.
abbrev pub is_participant : HubSettings → ℕ → Bool
is_participant s number = nat_lt number (participants s)

-- True if an amount is 1 cent to the ceiling.
abbrev pub is_within_ceiling : HubSettings → ℕ → Bool
is_within_ceiling s cents = nat_le 1 cents && nat_le cents s.ceiling
