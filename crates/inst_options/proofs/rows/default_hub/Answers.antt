use Rattle.std.proofs.Common.{ℕ, List, rules, refl, unwrap_or, option_map, codes, [], ◌∷◌}
use Rattle.clap.specs.Words.{subcommand_of}
use Rattle.clap.proofs.OnLiterals.{clap_on_literals}
use Rattle.inst_options.specs.CommandLine.{command_line}
use Rattle.inst_options.specs.Rows.{DefaultHub}
use Rattle.inst_options.proofs.rows.default_hub.Goals as goal

abbrev words : List (List ℕ)
words = codes "inst_main" ∷ codes "run" ∷ codes "--participants" ∷ codes "AAAADEFF,BBBBFRPP" ∷ []

row : DefaultHub
unfolding clap_on_literals
row = record {
  chosen = (
    codes "run",
    unwrap_or (option_map (λ p. p.1) (subcommand_of command_line words)) [],
    refl,
    (refl, refl, refl),
    record {
      participants = (codes "AAAADEFF,BBBBFRPP", refl, refl);
      places = (codes "256", refl, search rules, refl);
      fundings = (codes "256", refl, search rules, refl);
      limit = (codes "10000", refl, search rules, refl);
      margin = (codes "0", refl, search rules, refl);
      ahead = (codes "1000", refl, search rules, refl);
      ceiling = (codes "99999999999", refl, search rules, refl);
      base = (codes "0", refl, search rules, refl);
    },
  );
}

pub returns : goal.returns
returns c = row
