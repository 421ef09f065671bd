-- The task that the words of a command line ask for, or why there is none. A choice of this hub.
use Rattle.std.specs.Prelude.{◌≢◌, ◌⊎◌, ◌≡◌, ℕ, Bool, true, List, [], Option, Some, None}
use Rattle.std.specs.Prelude.{map, option_map, codes}
use Rattle.clap.specs.Words.{IsAmong, Kinds, Row, fault_of, first_of, kind_of, subcommand_of}
use Rattle.clap.specs.declared.error.kind.ErrorKind.{ErrorKind}
use Rattle.clap.specs.declared.error.kind.ErrorKind.TheVariants.{DisplayHelp, DisplayVersion}
use Rattle.clap.specs.declared.error.kind.ErrorKind.TheVariants.{OutOfMemory}
use Rattle.inst_base.specs.declared.fault.Fault.{Fault}
use Rattle.inst_base.specs.declared.fault.Fault.TheVariants.{BadSettings, Memory}
use Rattle.inst_settings.specs.Settings.{HubSettings, same_text}
use Rattle.inst_settings.specs.Lawful.{AreOfAHub, IsSettings}
use Rattle.inst_options.specs.CommandLine.{command_line}
use Rattle.inst_options.specs.BadOptions.{IsBadOption}
use Rattle.inst_options.specs.Changes.{GivesChanges}
use Rattle.inst_options.specs.Options.{AreOfNoLog, AreTexts, Chooses, GivesDigest, HasAHub, HasSmallNumbers}
use Rattle.inst_options.specs.Options.{IsFlag, IsTask, IsText, NamesNoLog, NamesTheLog, Task}
use Rattle.inst_options.specs.Options.Task.{Run, Play, Drill, Check}
use Rattle.inst_options.specs.declared.bad_option.BadOption.{BadOption}
use Rattle.inst_options.specs.declared.error.WordsError.{WordsError}
use Rattle.inst_options.specs.declared.error.WordsError.TheVariants as error
use Rattle.inst_options.specs.declared.invocation.LogOptions.{LogOptions}
use Rattle.inst_options.specs.declared.setting_changes.SettingChanges.{SettingChanges}
use Rattle.inst_options.specs.declared.invocation.Invocation.{Invocation}
use Rattle.inst_options.specs.declared.invocation.Invocation.TheVariants as wish

-- `Memory` always, `BadSettings` only if `deserved`: no hub can have the settings.
abbrev pub IsBeginRefusal : Type 0 → Fault → Type 0
IsBeginRefusal deserved fault = (fault ≡ Memory) ⊎ ((fault ≡ BadSettings) × deserved)

-- The errors in the words: none for a whole command line. Asking for help is one of them.
abbrev pub faults_of : List (List ℕ) → Kinds
faults_of = fault_of command_line

-- The words ask for help or for the version.
abbrev pub AskForHelp : List (List ℕ) → Type 0
AskForHelp words = IsAmong DisplayHelp (faults_of words) ⊎ IsAmong DisplayVersion (faults_of words)

-- The words have another error.
abbrev pub AreWrong : List (List ℕ) → Type 0
AreWrong words =
    (kind : ErrorKind) × IsAmong kind (faults_of words) × (kind ≢ DisplayHelp)
    × (kind ≢ DisplayVersion)

-- The words are a whole command line.
abbrev pub AreWhole : List (List ℕ) → Type 0
AreWhole words = faults_of words ≡ []

-- The words name this task and choose these settings, by the options of their subcommand.
abbrev pub AreChosen : List (List ℕ) → Task → HubSettings → Type 0
AreChosen words task s =
    (name : List ℕ) × (rows : List Row) × (subcommand_of command_line words ≡ Some (name, rows))
    × IsTask name rows task × Chooses rows s

-- The words are a whole command line whose options give a malformed digest, or are about a log that
-- they don't name.
abbrev pub NameABadLog : List (List ℕ) → Type 0
NameABadLog words = AreWhole words
    × ((name : List ℕ) × (rows : List Row) × (subcommand_of command_line words ≡ Some (name, rows))
    × AreOfNoLog rows)

-- The options name the log's file, the number of replies that the client has, whether the log must
-- exist, and the digest that it must contain.
abbrev pub NameTheLog : List (List ℕ) → List ℕ → Option ℕ → Bool → Option (List ℕ) → Type 0
NameTheLog words path told resume digest =
    (name : List ℕ) × (rows : List Row) × (subcommand_of command_line words ≡ Some (name, rows))
    × NamesTheLog rows path told resume digest

-- No option names a log.
abbrev pub NameNoLog : List (List ℕ) → Type 0
NameNoLog words =
    (name : List ℕ) × (rows : List Row) × (subcommand_of command_line words ≡ Some (name, rows))
    × NamesNoLog rows

-- The options name this log, or none.
abbrev pub GiveTheLog : List (List ℕ) → Option LogOptions → Type 0
GiveTheLog words None = NameNoLog words
GiveTheLog words (Some log) =
    NameTheLog words log.path.now log.told log.resume (option_map (λ d. d.now) log.digest)

-- The words are a whole command line and ask for the contents of this log.
abbrev pub AskForTheLog : List (List ℕ) → List ℕ → Type 0
AskForTheLog words path = AreWhole words
    × ((name : List ℕ) × (rows : List Row) × (subcommand_of command_line words ≡ Some (name, rows))
    × (same_text name (codes "log") ≡ true) × IsText (codes "file") rows path)

-- The words are a whole command line and ask for the second log, which begins with the books of the
-- first, or with their positions alone, under settings with these changes; the first must contain
-- this digest, if one is given.
abbrev pub AskForTheNext : List (List ℕ) → List ℕ → List ℕ → Option (List ℕ) → Bool →
    SettingChanges → Type 0
AskForTheNext words from to digest positions changes = AreWhole words
    × ((name : List ℕ) × (rows : List Row) × (subcommand_of command_line words ≡ Some (name, rows))
    × (same_text name (codes "next") ≡ true) × IsText (codes "log") rows from
    × IsText (codes "to") rows to × GivesDigest rows digest
    × IsFlag (codes "positions") rows positions × GivesChanges rows changes)

-- The words are a whole command line and ask for an audit of these logs.
abbrev pub AskForTheAudit : List (List ℕ) → List (List ℕ) → Type 0
AskForTheAudit words files = AreWhole words
    × ((name : List ℕ) × (rows : List Row) × (subcommand_of command_line words ≡ Some (name, rows))
    × (same_text name (codes "audit") ≡ true) × AreTexts (codes "files") rows files)

-- The words ask for a summary, or not.
abbrev pub AskForASummary : List (List ℕ) → Bool → Type 0
AskForASummary words sums =
    (name : List ℕ) × (rows : List Row) × (subcommand_of command_line words ≡ Some (name, rows))
    × IsFlag (codes "summary") rows sums

-- The words are a whole command line and ask for an explanation of this fault.
abbrev pub AskToExplain : List (List ℕ) → List ℕ → Type 0
AskToExplain words word = AreWhole words
    × ((name : List ℕ) × (rows : List Row) × (subcommand_of command_line words ≡ Some (name, rows))
    × (same_text name (codes "explain") ≡ true) × IsText (codes "fault") rows word)

-- The words name this file for the script of a drill, or none.
abbrev pub NameTheScript : List (List ℕ) → Option (List ℕ) → Type 0
NameTheScript words file =
    (name : List ℕ) × (rows : List Row) × (subcommand_of command_line words ≡ Some (name, rows))
    × (file ≡ first_of (codes "script") rows)

-- The words ask for this task.
abbrev pub IsWished : List (List ℕ) → Invocation → Type 0
IsWished words (wish.Run s log sums) =
    IsSettings s × AreWhole words × AreChosen words Run s × GiveTheLog words log
    × AskForASummary words sums
IsWished words (wish.Play s log sums) =
    IsSettings s × AreWhole words × AreChosen words Play s × GiveTheLog words log
    × AskForASummary words sums
IsWished words (wish.Drill s transfers openings script) =
    IsSettings s × AreWhole words × AreChosen words (Drill transfers openings) s
    × NameTheScript words (option_map (λ file. file.now) script)
IsWished words (wish.Check s) = IsSettings s × AreWhole words × AreChosen words Check s
IsWished words (wish.Log path) = AskForTheLog words path.now
IsWished words (wish.Next next) =
    AskForTheNext words next.from.now next.to.now (option_map (λ d. d.now) next.digest)
    next.positions next.changes
IsWished words (wish.Audit files) =
    AskForTheAudit words (map (λ file. file.now) files.items)
IsWished words (wish.Explain word) = AskToExplain words word.now

-- The words are a whole command line for a hub, and choose no settings that a hub can have, or no
-- drill whose numbers fit.
pub record AreUnfit (words : List (List ℕ)) : Type 0 where
  pub whole : AreWhole words
  pub hub : (name : List ℕ) (rows : List Row) →
      subcommand_of command_line words ≡ Some (name, rows) → HasAHub name
  pub none : (task : Task) (s : HubSettings) → AreChosen words task s →
      ¬ (AreOfAHub s × HasSmallNumbers task)

-- The option has this value in the words, and is bad.
abbrev pub IsGivenBy : List (List ℕ) → BadOption → Type 0
IsGivenBy words bad =
    (name : List ℕ) × (rows : List Row) × (subcommand_of command_line words ≡ Some (name, rows))
    × IsBadOption rows bad

-- Why the words ask for no task: they are wrong or ask for help, an allocation failed, or no hub
-- can have what they choose.
abbrev pub IsNoWish : List (List ℕ) → WordsError → Type 0
IsNoWish words (error.Words e) = (kind_of e ≢ OutOfMemory) × IsAmong (kind_of e) (faults_of words)
IsNoWish words (error.Option bad) = (AreUnfit words ⊎ NameABadLog words) × IsGivenBy words bad
IsNoWish words (error.Fault fault) = IsBeginRefusal (AreUnfit words ⊎ NameABadLog words) fault
