use Rattle.std.proofs.Common.{◌≡◌, ℕ, List, Some, refl, unwrap_or, option_map, codes, [], ◌∷◌}
use Rattle.clap.specs.Words.{subcommand_of}
use Rattle.clap.proofs.OnLiterals.{clap_on_literals}
use Rattle.inst_options.specs.CommandLine.{command_line}
use Rattle.inst_options.specs.Asking.{AskToExplain}
use Rattle.inst_options.specs.Rows.{Explained}
use Rattle.inst_options.proofs.rows.explained.Goals as goal

some_one : (x y : List ℕ) → Some x ≡ Some y → x ≡ y
some_one x y e = cc

asked : AskToExplain (codes "inst_main" ∷ codes "explain" ∷ codes "13" ∷ []) (codes "13")
unfolding clap_on_literals
asked = (
  refl,
  (
    codes "explain",
    unwrap_or (option_map (λ p. p.1) (subcommand_of command_line (codes "inst_main" ∷ codes "explain" ∷ codes "13" ∷ []))) [],
    refl,
    refl,
    λ given at. some_one (codes "13") given at,
  ),
)

row : Explained
unfolding clap_on_literals
row = record { asked = asked; lacking = refl }

pub returns : goal.returns
returns c = row
