-- Worked command lines, computed from the definitions. A choice of this hub.
use Rattle.std.specs.Prelude.{◌≡◌, ℕ, true, false, List, [], ◌∷◌, ◌++◌, Some, None, codes}
use Rattle.clap.specs.declared.error.kind.ErrorKind.TheVariants.{DisplayHelp, DisplayVersion}
use Rattle.clap.specs.declared.error.kind.ErrorKind.TheVariants.{MissingRequiredArgument}
use Rattle.clap.specs.declared.error.kind.ErrorKind.TheVariants.{MissingSubcommand}
use Rattle.inst_settings.specs.Settings.{HubSettings}
use Rattle.inst_settings.specs.Lawful.{AreOfAHub, settings_with}
use Rattle.inst_settings.specs.declared.hub_parameters.TheConstants.HubParameters.{DEFAULT}
use Rattle.inst_options.specs.Asking.{AreChosen, AreWhole, AskForTheLog, AskForTheNext}
use Rattle.inst_options.specs.Asking.{AskToExplain, NameNoLog, NameTheLog, faults_of}
use Rattle.inst_options.specs.Options.Task.{Run, Play, Drill}
use Rattle.inst_options.specs.declared.setting_changes.SettingChanges.{SettingChanges}

-- `inst_main run --participants AAAADEFF,BBBBFRPP --places 2`
abbrev pub small_hub : List (List ℕ)
small_hub =
    codes "inst_main" ∷ codes "run" ∷ codes "--participants" ∷ codes "AAAADEFF,BBBBFRPP"
    ∷ codes "--places" ∷ codes "2" ∷ []

-- Its settings: the given values, and the defaults.
abbrev pub small_settings : HubSettings
small_settings =
    settings_with (codes "AAAADEFF" ∷ codes "BBBBFRPP" ∷ []) 2 256 10000 0 1000 99999999999 0

-- The same words with `play` instead of `run`.
abbrev pub small_script : List (List ℕ)
small_script =
    codes "inst_main" ∷ codes "play" ∷ codes "--participants" ∷ codes "AAAADEFF,BBBBFRPP"
    ∷ codes "--places" ∷ codes "2" ∷ []

-- `inst_main drill --participants AAAADEFF,BBBBFRPP --places 2 --transfers 2`
abbrev pub small_drill : List (List ℕ)
small_drill =
    codes "inst_main" ∷ codes "drill" ∷ codes "--participants" ∷ codes "AAAADEFF,BBBBFRPP"
    ∷ codes "--places" ∷ codes "2" ∷ codes "--transfers" ∷ codes "2" ∷ []

-- These words are whole command lines and choose these settings.
pub record SmallHub : Type 0 where
  pub whole : AreWhole small_hub
  pub chosen : AreChosen small_hub Run small_settings
  pub script_whole : AreWhole small_script
  pub script_chosen : AreChosen small_script Play small_settings
  pub drill_whole : AreWhole small_drill
  pub drill_chosen : AreChosen small_drill (Drill 2 1) small_settings
  pub good : AreOfAHub small_settings

-- `inst_main run --participants AAAADEFF,BBBBFRPP` has the library's defaults.
pub record DefaultHub : Type 0 where
  pub chosen : AreChosen (codes "inst_main" ∷ codes "run" ∷ codes "--participants"
      ∷ codes "AAAADEFF,BBBBFRPP" ∷ []) Run
      (settings_with (codes "AAAADEFF" ∷ codes "BBBBFRPP"
      ∷ []) DEFAULT.places DEFAULT.fundings DEFAULT.limit DEFAULT.margin
      DEFAULT.ahead DEFAULT.ceiling DEFAULT.base)

-- The SHA-256 value of no bytes.
abbrev pub empty_digest : List ℕ
empty_digest = codes "e3b0c44298fc1c149afbf4c8996fb92427ae41e4649b934ca495991b7852b855"

-- No setting changes.
abbrev pub no_changes : SettingChanges
no_changes = record {
  participants = None;
  places = None;
  fundings = None;
  limit = None;
  margin = None;
  ahead = None;
  ceiling = None;
  base = None;
}

-- Words with `--log`; with `--log` and `--told`, `--resume` or `--digest`; with none of these;
-- `inst_main log hub.log`; `inst_main next --log hub.log --to next.log`, without more, with a
-- digest, with more places, and with positions alone.
pub record KeptHub : Type 0 where
  pub whole : AreWhole (small_hub ++ codes "--log" ∷ codes "hub.log" ∷ [])
  pub all_told : NameTheLog (small_hub ++ codes "--log" ∷ codes "hub.log"
      ∷ []) (codes "hub.log") None false None
  pub some_told : NameTheLog (small_script ++ codes "--told" ∷ codes "3" ∷ codes "--log"
      ∷ codes "hub.log" ∷ []) (codes "hub.log") (Some 3) true None
  pub none_told : NameTheLog (small_script ++ codes "--told" ∷ codes "0" ∷ codes "--log"
      ∷ codes "hub.log" ∷ []) (codes "hub.log") (Some 0) false None
  pub resumed : NameTheLog (small_hub ++ codes "--resume" ∷ codes "--log" ∷ codes "hub.log"
      ∷ []) (codes "hub.log") None true None
  pub known : NameTheLog (small_hub ++ codes "--log" ∷ codes "hub.log" ∷ codes "--digest"
      ∷ empty_digest ∷ []) (codes "hub.log") None true (Some empty_digest)
  pub none : NameNoLog small_hub
  pub shown : AskForTheLog (codes "inst_main" ∷ codes "log" ∷ codes "hub.log"
      ∷ []) (codes "hub.log")
  pub carried : AskForTheNext (codes "inst_main" ∷ codes "next" ∷ codes "--log" ∷ codes "hub.log"
      ∷ codes "--to" ∷ codes "next.log" ∷ []) (codes "hub.log") (codes "next.log") None false no_changes
  pub known_carried : AskForTheNext (codes "inst_main" ∷ codes "next" ∷ codes "--log"
      ∷ codes "hub.log" ∷ codes "--to" ∷ codes "next.log" ∷ codes "--digest" ∷ empty_digest
      ∷ []) (codes "hub.log") (codes "next.log") (Some empty_digest) false no_changes
  pub with_places : AskForTheNext (codes "inst_main" ∷ codes "next" ∷ codes "--log"
      ∷ codes "hub.log" ∷ codes "--to" ∷ codes "next.log" ∷ codes "--places" ∷ codes "1024"
      ∷ []) (codes "hub.log") (codes "next.log") None false (record no_changes { places = Some 1024 })
  pub with_positions : AskForTheNext (codes "inst_main" ∷ codes "next" ∷ codes "--log"
      ∷ codes "hub.log" ∷ codes "--to" ∷ codes "next.log" ∷ codes "--positions"
      ∷ []) (codes "hub.log") (codes "next.log") None true no_changes

-- Words that aren't a whole command line: `inst_main run`, `inst_main play`, `inst_main drill`,
-- `inst_main`, `inst_main --help` and `inst_main --version`.
pub record NoHub : Type 0 where
  pub participants : faults_of (codes "inst_main" ∷ codes "run" ∷ []) ≡ MissingRequiredArgument ∷ []
  pub script : faults_of (codes "inst_main" ∷ codes "play" ∷ []) ≡ MissingRequiredArgument ∷ []
  pub drill : faults_of (codes "inst_main" ∷ codes "drill" ∷ []) ≡ MissingRequiredArgument ∷ []
  pub subcommand : faults_of (codes "inst_main" ∷ []) ≡ MissingSubcommand ∷ []
  pub help : faults_of (codes "inst_main" ∷ codes "--help" ∷ []) ≡ DisplayHelp ∷ []
  pub version : faults_of (codes "inst_main" ∷ codes "--version" ∷ []) ≡ DisplayVersion ∷ []

-- `inst_main explain 13`, and `inst_main explain`.
pub record Explained : Type 0 where
  pub asked : AskToExplain (codes "inst_main" ∷ codes "explain" ∷ codes "13" ∷ []) (codes "13")
  pub lacking : faults_of (codes "inst_main" ∷ codes "explain" ∷ []) ≡ MissingRequiredArgument ∷ []
