-- What boards of one table know together: what one has seen is true for the other. Sharing
-- knowledge between boards is a choice of this hub.
use Rattle.std.specs.Prelude.{◌≡◌, ◌↔◌, ◌⊎◌, ◌++◌, ℕ}
use Rattle.inst_command.specs.declared.outcome.Outcome.{Outcome}
use Rattle.inst_terms.specs.declared.terms.Terms.{Terms}
use Rattle.inst_command.specs.declared.place.Place.{Place}
use Rattle.inst_board.specs.declared.about.About.{About}
use Rattle.inst_board.specs.declared.about.About.TheVariants.{HasTerms, Decided}
use Rattle.inst_board.specs.declared.about.Fact.{Fact}
use Rattle.inst_board.specs.Standing.{about}
use Rattle.inst_board.specs.Learning.{IsOfOpening, IsAnswer, KnowsTruly}
use Rattle.inst_cell.specs.declared.shared_board.SharedBoard.{SharedBoard}
use Rattle.inst_cell.specs.Held.{settings_of, roles_of, knows, has_role}

-- c knows exactly what a or b knew.
abbrev pub KnowsBoth : SharedBoard → SharedBoard → SharedBoard → Type 0
KnowsBoth a b c = (f : Fact) → knows c f ↔ (knows a f ⊎ knows b f)

-- What the board knows of each place is true of one standing that a place may have.
abbrev pub KnowsTruth : SharedBoard → Type 0
KnowsTruth b = (k : Place) → KnowsTruly (settings_of b).margin knows b k

-- What the other board knows that this board must have known already.
-- - opening: facts of the opening of a place whose originator's role the board has.
-- - answer: an acceptance or rejection, with the terms, if the board has the beneficiary's role.
pub record Vouches (board other : SharedBoard) : Type 0 where
  pub opening : (k : Place) (a : About) → has_role board k.owner → IsOfOpening a →
      knows other (about k a) →
      knows board (about k a)
  pub answer : (k : Place) (t : Terms) (o : Outcome) → has_role board t.to → IsAnswer o →
      knows board (about k (HasTerms t)) ⊎ knows other (about k (HasTerms t)) →
      knows board (about k (Decided o)) ⊎ knows other (about k (Decided o)) →
      knows board (about k (HasTerms t)) × knows board (about k (Decided o))

-- The new board has the roles of both.
pub record HasRolesOfBoth (board other new : SharedBoard) : Type 0 where
  pub roles : roles_of new ≡ roles_of board ++ roles_of other
  pub role : (p : ℕ) → has_role new p ↔ (has_role board p ⊎ has_role other p)
