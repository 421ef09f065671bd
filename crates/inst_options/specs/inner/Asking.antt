-- The subcommand that was found, and the errors.
use Rattle.std.specs.Prelude.{◌≢◌, ◌≡◌, ◌⊎◌, List, Option, Some, None}
use Rattle.clap.specs.Words.{Row, Text, kind_of}
use Rattle.clap.specs.declared.error.kind.ErrorKind.{ErrorKind}
use Rattle.clap.specs.declared.error.kind.ErrorKind.TheVariants.{OutOfMemory}
use Rattle.inst_base.specs.declared.fault.Fault.{Fault}
use Rattle.inst_base.specs.declared.fault.Fault.TheVariants.{BadSettings, Memory}
use Rattle.inst_options.specs.Asking.{IsBeginRefusal}
use Rattle.inst_options.specs.BadOptions.{IsBadOption}
use Rattle.inst_options.specs.Options.{AreOfNoLog}
use Rattle.inst_options.specs.inner.Options.{AskForNone, IsWish}
use Rattle.inst_options.specs.declared.error.WordsError.{WordsError}
use Rattle.inst_options.specs.declared.error.WordsError.TheVariants as error
use Rattle.inst_options.specs.declared.invocation.Invocation.{Invocation}

-- An error of this kind; an allocation failure is the fault `Memory`.
abbrev pub IsOfKind : ErrorKind → WordsError → Type 0
IsOfKind kind (error.Words e) = (kind_of e ≡ kind) × (kind ≢ OutOfMemory)
IsOfKind kind (error.Option bad) = ⊥
IsOfKind kind (error.Fault fault) = (fault ≡ Memory) × (kind ≡ OutOfMemory)

-- The error for options that were refused with this fault; an option that is named is bad.
abbrev pub IsRefusedBy : List Row → Fault → WordsError → Type 0
IsRefusedBy rows fault (error.Words e) = ⊥
IsRefusedBy rows fault (error.Option bad) = (fault ≡ BadSettings) × IsBadOption rows bad
IsRefusedBy rows fault (error.Fault other) = other ≡ fault

-- The subcommand of this name with its options asks for this task.
abbrev pub IsAsked : Option (Text × List Row) → Invocation → Type 0
IsAsked None wish = ⊥
IsAsked (Some (name, rows)) wish = IsWish name rows wish

-- Why it asks for no task.
abbrev pub IsUnasked : Option (Text × List Row) → WordsError → Type 0
IsUnasked None e = e ≡ error.Fault BadSettings
IsUnasked (Some (name, rows)) e =
    (fault : Fault) × IsRefusedBy rows fault e
    × IsBeginRefusal (AskForNone name rows ⊎ AreOfNoLog rows) fault
