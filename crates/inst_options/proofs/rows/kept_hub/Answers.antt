use Rattle.std.proofs.Common.{◌≡◌, ◌++◌, ⊎_elim, ℕ, true, false, List, Option, Some, None, rules, refl, sym, ap, ◌∙◌, get_or, unwrap_or, option_map, codes, [], ◌∷◌, arith}
use Rattle.clap.specs.Words.{Row, Text, one_of, subcommand_of}
use Rattle.clap.proofs.OnLiterals.{clap_on_literals}
use Rattle.inst_options.specs.CommandLine.{command_line}
use Rattle.inst_options.specs.Asking.{AskForTheLog, AskForTheNext, NameNoLog, NameTheLog}
use Rattle.inst_options.specs.Options.{GivesOrNot}
use Rattle.inst_options.specs.Rows.{KeptHub, empty_digest, no_changes, small_hub, small_script}
use Rattle.inst_options.proofs.rows.kept_hub.Goals as goal

none_some : (text : Text) → None ≡ Some text → ⊥
none_some text e = cc

some_one : (x y : List ℕ) → Some x ≡ Some y → x ≡ y
some_one x y e = cc

abbrev rows_in : List (List ℕ) → List Row
rows_in words = unwrap_or (option_map (λ p. p.1) (subcommand_of command_line words)) []

abbrev all_words : List (List ℕ)
all_words = small_hub ++ codes "--log" ∷ codes "hub.log" ∷ []

abbrev some_words : List (List ℕ)
some_words = small_script ++ codes "--told" ∷ codes "3" ∷ codes "--log" ∷ codes "hub.log" ∷ []

abbrev none_words : List (List ℕ)
none_words = small_script ++ codes "--told" ∷ codes "0" ∷ codes "--log" ∷ codes "hub.log" ∷ []

abbrev resumed_words : List (List ℕ)
resumed_words = small_hub ++ codes "--resume" ∷ codes "--log" ∷ codes "hub.log" ∷ []

abbrev known_words : List (List ℕ)
known_words = small_hub ++ codes "--log" ∷ codes "hub.log" ∷ codes "--digest" ∷ empty_digest ∷ []

false_true : Some (codes "false") ≡ Some (codes "true") → ⊥
false_true e = let first : 102 ≡ 116 = ap (λ (o : Option Text). get_or (unwrap_or o []) 0 0) e in omega (arith, first)

all_told : NameTheLog all_words (codes "hub.log") None false None
unfolding clap_on_literals
all_told = (
  codes "run",
  rows_in all_words,
  refl,
  (refl, (λ n gives. absurd (none_some gives.0 gives.1)), (false, ((λ e. absurd (false_true e)), (λ _. refl)), refl), (refl, tt)),
)

some_told : NameTheLog some_words (codes "hub.log") (Some 3) true None
unfolding clap_on_literals
some_told = (
  codes "play",
  rows_in some_words,
  refl,
  (refl, (codes "3", refl, search rules, refl), (false, ((λ e. absurd (false_true e)), (λ _. refl)), refl), (refl, tt)),
)

none_told : NameTheLog none_words (codes "hub.log") (Some 0) false None
unfolding clap_on_literals
none_told = (
  codes "play",
  rows_in none_words,
  refl,
  (refl, (codes "0", refl, search rules, refl), (false, ((λ e. absurd (false_true e)), (λ _. refl)), refl), (refl, tt)),
)

resumed : NameTheLog resumed_words (codes "hub.log") None true None
unfolding clap_on_literals
resumed = (
  codes "run",
  rows_in resumed_words,
  refl,
  (
    refl,
    (λ n gives. absurd (none_some gives.0 gives.1)),
    (true, ((λ _. refl), (λ other. ⊎_elim (λ e. absurd (none_some (codes "true") (sym e))) (λ e. absurd (false_true (sym e))) other)), refl),
    (refl, tt),
  ),
)

known : NameTheLog known_words (codes "hub.log") None true (Some empty_digest)
unfolding clap_on_literals
known = (
  codes "run",
  rows_in known_words,
  refl,
  (refl, (λ n gives. absurd (none_some gives.0 gives.1)), (false, ((λ e. absurd (false_true e)), (λ _. refl)), refl), (refl, refl)),
)

none : NameNoLog small_hub
unfolding clap_on_literals
none = (codes "run", rows_in small_hub, refl, refl)

abbrev log_words : List (List ℕ)
log_words = codes "inst_main" ∷ codes "log" ∷ codes "hub.log" ∷ []

shown : AskForTheLog log_words (codes "hub.log")
unfolding clap_on_literals
shown = (refl, (codes "log", rows_in log_words, refl, refl, λ given at. some_one (codes "hub.log") given at))

abbrev next_words : List (List ℕ)
next_words = codes "inst_main" ∷ codes "next" ∷ codes "--log" ∷ codes "hub.log" ∷ codes "--to" ∷ codes "next.log" ∷ []

-- an option that isn't given gives nothing
abbrev nothing_given : List Row → List ℕ → Type 0
nothing_given rows name = one_of name rows ≡ None

gives_nothing : (rows : List Row) (name : List ℕ) → nothing_given rows name → GivesOrNot rows name None
gives_nothing rows name none n gives = absurd (none_some gives.0 (sym none ∙ gives.1))

carried : AskForTheNext next_words (codes "hub.log") (codes "next.log") None false no_changes
unfolding clap_on_literals
carried = (
  refl,
  (
    codes "next",
    rows_in next_words,
    refl,
    refl,
    (λ given at. some_one (codes "hub.log") given at),
    (λ given at. some_one (codes "next.log") given at),
    (refl, tt),
    ((λ e. absurd (false_true e)), (λ _. refl)),
    record {
      participants = refl;
      places = gives_nothing (rows_in next_words) (codes "places") refl;
      fundings = gives_nothing (rows_in next_words) (codes "fundings") refl;
      limit = gives_nothing (rows_in next_words) (codes "limit") refl;
      margin = gives_nothing (rows_in next_words) (codes "margin") refl;
      ahead = gives_nothing (rows_in next_words) (codes "ahead") refl;
      ceiling = gives_nothing (rows_in next_words) (codes "ceiling") refl;
      base = gives_nothing (rows_in next_words) (codes "base") refl;
    },
  ),
)

abbrev wider_next_words : List (List ℕ)
wider_next_words =
    codes "inst_main" ∷ codes "next" ∷ codes "--log" ∷ codes "hub.log" ∷ codes "--to" ∷ codes "next.log"
    ∷ codes "--places" ∷ codes "1024" ∷ []

with_places : AskForTheNext wider_next_words (codes "hub.log") (codes "next.log") None false (record no_changes { places = Some 1024 })
unfolding clap_on_literals
with_places = (
  refl,
  (
    codes "next",
    rows_in wider_next_words,
    refl,
    refl,
    (λ given at. some_one (codes "hub.log") given at),
    (λ given at. some_one (codes "next.log") given at),
    (refl, tt),
    ((λ e. absurd (false_true e)), (λ _. refl)),
    record {
      participants = refl;
      places = (codes "1024", refl, search rules, refl);
      fundings = gives_nothing (rows_in wider_next_words) (codes "fundings") refl;
      limit = gives_nothing (rows_in wider_next_words) (codes "limit") refl;
      margin = gives_nothing (rows_in wider_next_words) (codes "margin") refl;
      ahead = gives_nothing (rows_in wider_next_words) (codes "ahead") refl;
      ceiling = gives_nothing (rows_in wider_next_words) (codes "ceiling") refl;
      base = gives_nothing (rows_in wider_next_words) (codes "base") refl;
    },
  ),
)

abbrev known_next_words : List (List ℕ)
known_next_words =
    codes "inst_main" ∷ codes "next" ∷ codes "--log" ∷ codes "hub.log" ∷ codes "--to" ∷ codes "next.log"
    ∷ codes "--digest" ∷ empty_digest ∷ []

known_carried : AskForTheNext known_next_words (codes "hub.log") (codes "next.log") (Some empty_digest) false no_changes
unfolding clap_on_literals
known_carried = (
  refl,
  (
    codes "next",
    rows_in known_next_words,
    refl,
    refl,
    (λ given at. some_one (codes "hub.log") given at),
    (λ given at. some_one (codes "next.log") given at),
    (refl, refl),
    ((λ e. absurd (false_true e)), (λ _. refl)),
    record {
      participants = refl;
      places = gives_nothing (rows_in known_next_words) (codes "places") refl;
      fundings = gives_nothing (rows_in known_next_words) (codes "fundings") refl;
      limit = gives_nothing (rows_in known_next_words) (codes "limit") refl;
      margin = gives_nothing (rows_in known_next_words) (codes "margin") refl;
      ahead = gives_nothing (rows_in known_next_words) (codes "ahead") refl;
      ceiling = gives_nothing (rows_in known_next_words) (codes "ceiling") refl;
      base = gives_nothing (rows_in known_next_words) (codes "base") refl;
    },
  ),
)

abbrev new_chain_words : List (List ℕ)
new_chain_words =
    codes "inst_main" ∷ codes "next" ∷ codes "--log" ∷ codes "hub.log" ∷ codes "--to" ∷ codes "next.log"
    ∷ codes "--positions" ∷ []

with_positions : AskForTheNext new_chain_words (codes "hub.log") (codes "next.log") None true no_changes
unfolding clap_on_literals
with_positions = (
  refl,
  (
    codes "next",
    rows_in new_chain_words,
    refl,
    refl,
    (λ given at. some_one (codes "hub.log") given at),
    (λ given at. some_one (codes "next.log") given at),
    (refl, tt),
    ((λ _. refl), (λ other. ⊎_elim (λ e. absurd (none_some (codes "true") (sym e))) (λ e. absurd (false_true (sym e))) other)),
    record {
      participants = refl;
      places = gives_nothing (rows_in new_chain_words) (codes "places") refl;
      fundings = gives_nothing (rows_in new_chain_words) (codes "fundings") refl;
      limit = gives_nothing (rows_in new_chain_words) (codes "limit") refl;
      margin = gives_nothing (rows_in new_chain_words) (codes "margin") refl;
      ahead = gives_nothing (rows_in new_chain_words) (codes "ahead") refl;
      ceiling = gives_nothing (rows_in new_chain_words) (codes "ceiling") refl;
      base = gives_nothing (rows_in new_chain_words) (codes "base") refl;
    },
  ),
)

row : KeptHub
unfolding clap_on_literals
row = record {
  whole = refl;
  all_told = all_told;
  some_told = some_told;
  none_told = none_told;
  resumed = resumed;
  known = known;
  none = none;
  shown = shown;
  carried = carried;
  known_carried = known_carried;
  with_places = with_places;
  with_positions = with_positions;
}

pub returns : goal.returns
returns c = row
