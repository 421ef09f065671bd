-- The errors of opening and reading logs. A choice of this hub.
use Rattle.inst_options.specs.declared.log_fault.LogFault.TheVariants.{DiskFault, OtherSettings}
use Rattle.inst_options.specs.declared.log_fault.LogFault.TheVariants.{NoLog, ToldAhead, LogInUse}
use Rattle.inst_options.specs.declared.log_fault.LogFault.TheVariants.{BadBooks, LastOpening}
use Rattle.inst_options.specs.declared.log_fault.LogFault.TheVariants.{DamagedLog, OtherDigest}
use Rattle.inst_options.specs.declared.log_fault.LogFault.TheVariants.{ChangedLog}
use Rattle.inst_program.specs.declared.logs.LogsError.{LogsError}
use Rattle.inst_program.specs.declared.logs.LogsError.TheVariants.{Memory, Log}

-- The cause of an error: an allocation failed, the disk failed, another program may have the file
-- open (`in_use`), or it isn't there (`none`).
abbrev pub IsLogsError : Type 0 → Type 0 → LogsError → Type 0
IsLogsError in_use none Memory = Unit {0}
IsLogsError in_use none (Log DiskFault) = Unit {0}
IsLogsError in_use none (Log LogInUse) = in_use
IsLogsError in_use none (Log NoLog) = none
IsLogsError in_use none (Log OtherSettings) = ⊥
IsLogsError in_use none (Log ToldAhead) = ⊥
IsLogsError in_use none (Log BadBooks) = ⊥
IsLogsError in_use none (Log LastOpening) = ⊥
IsLogsError in_use none (Log DamagedLog) = ⊥
IsLogsError in_use none (Log OtherDigest) = ⊥
IsLogsError in_use none (Log ChangedLog) = ⊥
