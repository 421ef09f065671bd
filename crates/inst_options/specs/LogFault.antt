-- The faults of a run's log and their exit statuses. A choice of this hub.
use Rattle.std.specs.Prelude.{ℕ, List, codes}
use Rattle.inst_options.specs.declared.log_fault.LogFault.{LogFault}
use Rattle.inst_options.specs.declared.log_fault.LogFault.TheVariants.{DiskFault, OtherSettings}
use Rattle.inst_options.specs.declared.log_fault.LogFault.TheVariants.{NoLog, ToldAhead, LogInUse}
use Rattle.inst_options.specs.declared.log_fault.LogFault.TheVariants.{BadBooks, LastOpening}
use Rattle.inst_options.specs.declared.log_fault.LogFault.TheVariants.{DamagedLog, OtherDigest}
use Rattle.inst_options.specs.declared.log_fault.LogFault.TheVariants.{ChangedLog}

-- The number of a fault.
abbrev pub log_fault_number : LogFault → ℕ
log_fault_number DiskFault = 19
log_fault_number OtherSettings = 20
log_fault_number NoLog = 21
log_fault_number ToldAhead = 22
log_fault_number LogInUse = 23
log_fault_number BadBooks = 24
log_fault_number LastOpening = 25
log_fault_number DamagedLog = 26
log_fault_number OtherDigest = 27
log_fault_number ChangedLog = 28

-- The name of a fault.
abbrev pub log_fault_name : LogFault → List ℕ
log_fault_name DiskFault = codes "DiskFault"
log_fault_name OtherSettings = codes "OtherSettings"
log_fault_name NoLog = codes "NoLog"
log_fault_name ToldAhead = codes "ToldAhead"
log_fault_name LogInUse = codes "LogInUse"
log_fault_name BadBooks = codes "BadBooks"
log_fault_name LastOpening = codes "LastOpening"
log_fault_name DamagedLog = codes "DamagedLog"
log_fault_name OtherDigest = codes "OtherDigest"
log_fault_name ChangedLog = codes "ChangedLog"

-- 3 if the disk failed or the log changed during the run; else 2, since the log was refused.
abbrev pub status_of_log : LogFault → ℕ
status_of_log DiskFault = 3
status_of_log OtherSettings = 2
status_of_log NoLog = 2
status_of_log ToldAhead = 2
status_of_log LogInUse = 2
status_of_log BadBooks = 2
status_of_log LastOpening = 2
status_of_log DamagedLog = 2
status_of_log OtherDigest = 2
status_of_log ChangedLog = 3
