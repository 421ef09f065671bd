-- What a teller sees in a look.
use Rattle.std.proofs.Common.{◌≡◌, ℕ, refl, ap}
use Rattle.inst_command.specs.declared.outcome.Outcome.{Outcome}
use Rattle.inst_command.specs.declared.outcome.State.TheVariants.{Pending as StatePending, Decided as StateDecided}
use Rattle.inst_terms.specs.declared.terms.Terms.{Terms}
use Rattle.inst_board.specs.declared.about.About.{About}
use Rattle.inst_board.specs.declared.about.About.TheVariants.{Decided}
use Rattle.inst_board.specs.declared.look.Look.{Look}
use Rattle.inst_board.specs.declared.look.Look.TheVariants.{Unused, Pending, Decided as LookDecided}
use Rattle.inst_board.specs.Standing.{Standing, unused, pending, decided, Says, Shows, look_of}
use Rattle.inst_cell.specs.Seen.{state_of}

pub unused_says : (p : Standing) (l : Look) (a : About) → l ≡ look_of p → l ≡ Unused → Says p a → ⊥
unused_says unused l a e f h = h
unused_says (pending t d) l a e f h = cc
unused_says (decided t d o m) l a e f h = cc

pub pending_says : (p : Standing) (l : Look) (t : Terms) (d : ℕ) (o : Outcome) → l ≡ look_of p → l ≡ Pending t d → Says p (Decided o) → ⊥
pending_says unused l t d o e f h = h
pending_says (pending u c) l t d o e f h = h
pending_says (decided u c z m) l t d o e f h = cc

pub decided_says : (p : Standing) (l : Look) (t : Terms) (o z : Outcome) → l ≡ look_of p → l ≡ LookDecided t o → Says p (Decided z) → StateDecided o ≡ StateDecided z
decided_says unused l t o z e f h = absurd h
decided_says (pending u c) l t o z e f h = absurd h
decided_says (decided u c x m) l t o z e f h = let is : o ≡ x = cc in let same : o ≡ z = cc in ap StateDecided same

pub pending_state : (p : Standing) (l : Look) (t : Terms) (d : ℕ) → l ≡ look_of p → l ≡ Pending t d → StatePending ≡ state_of p
pending_state unused l t d e f = let no : ⊥ = cc in absurd no
pending_state (pending u c) l t d e f = refl
pending_state (decided u c o m) l t d e f = let no : ⊥ = cc in absurd no

pub decided_state : (p : Standing) (l : Look) (t : Terms) (o : Outcome) → l ≡ look_of p → l ≡ LookDecided t o → StateDecided o ≡ state_of p
decided_state unused l t o e f = let no : ⊥ = cc in absurd no
decided_state (pending u c) l t o e f = let no : ⊥ = cc in absurd no
decided_state (decided u c x m) l t o e f = let is : o ≡ x = cc in ap StateDecided is

-- what was decided is shown
pub decided_shown : (p : Standing) (l : Look) (t : Terms) (o z : Outcome) → l ≡ look_of p → l ≡ LookDecided t o → StateDecided o ≡ StateDecided z → Shows p (Decided z)
decided_shown unused l t o z e f s = let no : ⊥ = cc in absurd no
decided_shown (pending u c) l t o z e f s = let no : ⊥ = cc in absurd no
decided_shown (decided u c x m) l t o z e f s = let is : o ≡ x = cc in let same : o ≡ z = cc in let all : z ≡ x = cc in all
