-- What is true of one standing agrees.
use Rattle.std.proofs.Common.{◌≡◌, ℕ, sym, ◌∙◌}
use Rattle.inst_command.specs.declared.outcome.Outcome.{Outcome}
use Rattle.inst_terms.specs.declared.terms.Terms.{Terms}
use Rattle.inst_board.specs.declared.about.About.TheVariants.{HasTerms, Due, Decided}
use Rattle.inst_board.specs.Standing.{Standing, unused, pending, decided, Says}

pub same_terms : (p : Standing) (t u : Terms) → Says p (HasTerms t) → Says p (HasTerms u) → t ≡ u
same_terms unused t u h g = absurd h
same_terms (pending x d) t u h g = h ∙ sym g
same_terms (decided x d o m) t u h g = h ∙ sym g

pub same_due : (p : Standing) (d e : ℕ) → Says p (Due d) → Says p (Due e) → d ≡ e
same_due unused d e h g = absurd h
same_due (pending t x) d e h g = h ∙ sym g
same_due (decided t x o m) d e h g = h ∙ sym g

pub same_decided : (p : Standing) (o z : Outcome) → Says p (Decided o) → Says p (Decided z) → o ≡ z
same_decided unused o z h g = absurd h
same_decided (pending t d) o z h g = absurd h
same_decided (decided t d x m) o z h g = h ∙ sym g
