-- What the options of a subcommand give, and when they choose nothing.
use Rattle.std.specs.Prelude.{◌≡◌, ℕ, true, List, Option, Some, None, map, option_map, codes}
use Rattle.clap.specs.Words.{Row, first_of}
use Rattle.inst_settings.specs.Settings.{HubSettings, same_text}
use Rattle.inst_settings.specs.Lawful.{AreOfAHub, IsSettings}
use Rattle.inst_options.specs.declared.invocation.LogOptions.{LogOptions}
use Rattle.inst_options.specs.declared.invocation.Invocation.{Invocation}
use Rattle.inst_options.specs.declared.invocation.Invocation.TheVariants as wish
use Rattle.inst_options.specs.Options.{Task, HasAHub, NamesNoLog, NamesTheLog, IsText, IsFlag}
use Rattle.inst_options.specs.Options.{IsTask, Chooses, HasSmallNumbers}
use Rattle.inst_options.specs.Options.{AreTexts, GivesDigest}
use Rattle.inst_options.specs.Changes.{GivesChanges}
use Rattle.inst_options.specs.Options.Task.{Run, Play, Drill, Check}

-- The options name this log, or none.
abbrev pub GivesLog : List Row → Option LogOptions → Type 0
GivesLog rows None = NamesNoLog rows
GivesLog rows (Some log) =
    NamesTheLog rows log.path.now log.told log.resume (option_map (λ d. d.now) log.digest)

-- The options choose no settings that a hub can have.
abbrev pub ChooseNone : List Row → Type 0
ChooseNone rows = (s : HubSettings) → Chooses rows s → ¬ (AreOfAHub s)

-- The options choose no settings that a hub can have, or no drill whose numbers fit.
abbrev pub FitNoTask : List ℕ → List Row → Type 0
FitNoTask name rows =
    (task : Task) (s : HubSettings) → IsTask name rows task → Chooses rows s →
    ¬ (AreOfAHub s × HasSmallNumbers task)

-- The same, for a subcommand with a hub.
abbrev pub AskForNone : List ℕ → List Row → Type 0
AskForNone name rows = HasAHub name × FitNoTask name rows

-- The subcommand of this name with these options asks for this task.
abbrev pub IsWish : List ℕ → List Row → Invocation → Type 0
IsWish name rows (wish.Run s log sums) =
    IsSettings s × IsTask name rows Run × Chooses rows s × GivesLog rows log
    × IsFlag (codes "summary") rows sums
IsWish name rows (wish.Play s log sums) =
    IsSettings s × IsTask name rows Play × Chooses rows s × GivesLog rows log
    × IsFlag (codes "summary") rows sums
IsWish name rows (wish.Drill s transfers openings script) =
    IsSettings s × IsTask name rows (Drill transfers openings) × Chooses rows s
    × (option_map (λ file. file.now) script ≡ first_of (codes "script") rows)
IsWish name rows (wish.Check s) = IsSettings s × IsTask name rows Check × Chooses rows s
IsWish name rows (wish.Log path) =
    (same_text name (codes "log") ≡ true) × IsText (codes "file") rows path.now
IsWish name rows (wish.Next next) =
    (same_text name (codes "next") ≡ true) × IsText (codes "log") rows next.from.now
    × IsText (codes "to") rows next.to.now
    × GivesDigest rows (option_map (λ d. d.now) next.digest)
    × IsFlag (codes "positions") rows next.positions
    × GivesChanges rows next.changes
IsWish name rows (wish.Audit files) =
    (same_text name (codes "audit") ≡ true)
    × AreTexts (codes "files") rows (map (λ file. file.now) files.items)
IsWish name rows (wish.Explain word) =
    (same_text name (codes "explain") ≡ true) × IsText (codes "fault") rows word.now
