use Rattle.std.proofs.Common.{rules, [], option_map, refl, unwrap_or, codes, arith}
use Rattle.clap.specs.Words.{subcommand_of}
use Rattle.clap.proofs.OnLiterals.{clap_on_literals}
use Rattle.inst_options.specs.CommandLine.{command_line}
use Rattle.inst_settings.specs.Lawful.{AreOfAHub}
use Rattle.inst_options.specs.Asking.{AreChosen, AreWhole}
use Rattle.inst_options.specs.Rows.{small_drill, small_hub, small_script, small_settings}
use Rattle.inst_options.specs.Options.Task.{Run, Play, Drill}
use Rattle.inst_options.proofs.rows.small_hub.Goals as goal

whole : AreWhole small_hub
unfolding clap_on_literals
whole = refl

chosen : AreChosen small_hub Run small_settings
unfolding clap_on_literals
chosen = (
  codes "run",
  unwrap_or (option_map (λ p. p.1) (subcommand_of command_line small_hub)) [],
  refl,
  (refl, refl, refl),
  record {
    participants = (codes "AAAADEFF,BBBBFRPP", refl, refl);
    places = (codes "2", refl, search rules, refl);
    fundings = (codes "256", refl, search rules, refl);
    limit = (codes "10000", refl, search rules, refl);
    margin = (codes "0", refl, search rules, refl);
    ahead = (codes "1000", refl, search rules, refl);
    ceiling = (codes "99999999999", refl, search rules, refl);
    base = (codes "0", refl, search rules, refl);
  },
)

script_whole : AreWhole small_script
unfolding clap_on_literals
script_whole = refl

script_chosen : AreChosen small_script Play small_settings
unfolding clap_on_literals
script_chosen = (
  codes "play",
  unwrap_or (option_map (λ p. p.1) (subcommand_of command_line small_script)) [],
  refl,
  refl,
  record {
    participants = (codes "AAAADEFF,BBBBFRPP", refl, refl);
    places = (codes "2", refl, search rules, refl);
    fundings = (codes "256", refl, search rules, refl);
    limit = (codes "10000", refl, search rules, refl);
    margin = (codes "0", refl, search rules, refl);
    ahead = (codes "1000", refl, search rules, refl);
    ceiling = (codes "99999999999", refl, search rules, refl);
    base = (codes "0", refl, search rules, refl);
  },
)

drill_whole : AreWhole small_drill
unfolding clap_on_literals
drill_whole = refl

drill_chosen : AreChosen small_drill (Drill 2 1) small_settings
unfolding clap_on_literals
drill_chosen = (
  codes "drill",
  unwrap_or (option_map (λ p. p.1) (subcommand_of command_line small_drill)) [],
  refl,
  (refl, refl, ((codes "2", refl, search rules, refl), (codes "1", refl, search rules, refl))),
  record {
    participants = (codes "AAAADEFF,BBBBFRPP", refl, refl);
    places = (codes "2", refl, search rules, refl);
    fundings = (codes "256", refl, search rules, refl);
    limit = (codes "10000", refl, search rules, refl);
    margin = (codes "0", refl, search rules, refl);
    ahead = (codes "1000", refl, search rules, refl);
    ceiling = (codes "99999999999", refl, search rules, refl);
    base = (codes "0", refl, search rules, refl);
  },
)

good : AreOfAHub small_settings
good = record {
  lawful = record {
    participants_some = omega arith;
    participants_most = omega arith;
    different = refl;
    places_some = omega arith;
    places_most = omega arith;
    fundings_some = omega arith;
    fundings_most = omega arith;
    limit_some = omega arith;
    limit_most = omega arith;
    margin_below = omega arith;
    ahead_most = omega arith;
    ceiling_some = omega arith;
    ceiling_most = omega arith;
    base_most = omega arith;
  };
  codes_formed = refl;
}

pub returns : goal.returns
returns c = record {
  whole = whole;
  chosen = chosen;
  script_whole = script_whole;
  script_chosen = script_chosen;
  drill_whole = drill_whole;
  drill_chosen = drill_chosen;
  good = good;
}
