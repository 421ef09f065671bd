-- Exit statuses and the faults that they are of.
use Rattle.std.proofs.Common.{◌≡◌, ◌⊎◌, inl, inr, ℕ, List, Option, refl, subst, arith}
use Rattle.inst_base.specs.declared.fault.Fault.{Fault}
use Rattle.inst_base.specs.declared.fault.Fault.TheVariants.{BadSettings, Memory}
use Rattle.inst_options.specs.LogFault.{status_of_log}
use Rattle.inst_options.specs.declared.log_fault.LogFault.{LogFault}
use Rattle.inst_options.specs.declared.log_fault.LogFault.TheVariants.{BadBooks, ChangedLog, DamagedLog, DiskFault, LastOpening, LogInUse, NoLog, OtherDigest, OtherSettings, ToldAhead}
use Rattle.inst_lines.specs.Answers.{Answerer}
use Rattle.inst_lines.specs.Session.{Leaves}
use Rattle.inst_program.specs.Program.{status_of}
use Rattle.inst_program.specs.Logs.{IsLogsError}
use Rattle.inst_program.specs.declared.logs.LogsError.{LogsError}
use Rattle.inst_program.specs.declared.logs.LogsError.TheVariants as opening
use Rattle.inst_program.specs.inner.ExitReason.{ending_of_error, status_of_ending}
use Rattle.inst_program.specs.declared.exit_reason.ExitReason.{ExitReason}
use Rattle.inst_program.specs.declared.exit_reason.ExitReason.TheVariants as ending

pub only_settings : (fault : Fault) → status_of fault ≡ 2 → fault ≡ BadSettings
only_settings BadSettings is = refl
only_settings _ is = absurd (let no : 3 ≡ 2 = is in omega arith)

pub no_settings : {S : Type 0} (a : Answerer S) (start : S) (before now : Option (List ℕ)) (bytes : List ℕ) (fault : Fault) → fault ≡ BadSettings → Leaves a start before bytes now fault → ⊥
no_settings a start before now bytes fault is h = subst (Leaves a start before bytes now) is h

pub two_is_not_zero : ◌≡◌ {A = ℕ} 2 0 → ⊥
two_is_not_zero is = omega (arith, is)

pub three_is_not_zero : ◌≡◌ {A = ℕ} 3 0 → ⊥
three_is_not_zero is = omega (arith, is)

three_is_not_two : ◌≡◌ {A = ℕ} 3 2 → ⊥
three_is_not_two is = omega (arith, is)

pub two_is_not_three : ◌≡◌ {A = ℕ} 2 3 → ⊥
two_is_not_three is = omega (arith, is)

pub no_fault_is_zero : (fault : Fault) → status_of fault ≡ 0 → ⊥
no_fault_is_zero BadSettings is = two_is_not_zero is
no_fault_is_zero _ is = three_is_not_zero is

no_log_fault_is_zero : (fault : LogFault) → status_of_log fault ≡ 0 → ⊥
no_log_fault_is_zero DiskFault is = three_is_not_zero is
no_log_fault_is_zero ChangedLog is = three_is_not_zero is
no_log_fault_is_zero _ is = two_is_not_zero is

-- the status of a task that isn't done is not 0
pub no_ending_is_zero : (e : ExitReason) → status_of_ending e ≡ 0 → ⊥
no_ending_is_zero (ending.Fault fault) is = no_fault_is_zero fault is
no_ending_is_zero (ending.Log fault) is = no_log_fault_is_zero fault is
no_ending_is_zero ending.Unexplained is = two_is_not_zero is
no_ending_is_zero ending.NoInterleaving is = three_is_not_zero is
no_ending_is_zero ending.ScriptNotEmpty is = two_is_not_zero is
no_ending_is_zero (ending.Unfit name) is = two_is_not_zero is
no_ending_is_zero ending.PendingTransfer is = two_is_not_zero is
no_ending_is_zero ending.BrokenChain is = two_is_not_zero is

pub known_fault : (fault : Fault) → (status_of fault ≡ 2) ⊎ (status_of fault ≡ 3)
known_fault BadSettings = inl refl
known_fault _ = inr refl

known_log_fault : (fault : LogFault) → (status_of_log fault ≡ 2) ⊎ (status_of_log fault ≡ 3)
known_log_fault DiskFault = inr refl
known_log_fault ChangedLog = inr refl
known_log_fault _ = inl refl

pub two_or_three : (e : ExitReason) → (status_of_ending e ≡ 2) ⊎ (status_of_ending e ≡ 3)
two_or_three (ending.Fault fault) = known_fault fault
two_or_three (ending.Log fault) = known_log_fault fault
two_or_three ending.Unexplained = inl refl
two_or_three ending.NoInterleaving = inr refl
two_or_three ending.ScriptNotEmpty = inl refl
two_or_three (ending.Unfit name) = inl refl
two_or_three ending.PendingTransfer = inl refl
two_or_three ending.BrokenChain = inl refl

-- a log that couldn't be opened is refused only where another program has it open
logs_refused : (in_use none : Type 0) (e : LogsError) → IsLogsError in_use none e → status_of_ending (ending_of_error e) ≡ 2 → in_use ⊎ none
logs_refused in_use none opening.Memory is two = absurd (let no : 3 ≡ 2 = two in omega arith)
logs_refused in_use none (opening.Log DiskFault) is two = absurd (let no : 3 ≡ 2 = two in omega arith)
logs_refused in_use none (opening.Log LogInUse) is two = inl is
logs_refused in_use none (opening.Log NoLog) is two = inr is
logs_refused in_use none (opening.Log OtherSettings) is two = absurd is
logs_refused in_use none (opening.Log ToldAhead) is two = absurd is
logs_refused in_use none (opening.Log BadBooks) is two = absurd is
logs_refused in_use none (opening.Log LastOpening) is two = absurd is
logs_refused in_use none (opening.Log DamagedLog) is two = absurd is
logs_refused in_use none (opening.Log OtherDigest) is two = absurd is
logs_refused in_use none (opening.Log ChangedLog) is two = absurd is

pub refused_by : (in_use none : Type 0) (e : LogsError) (f : ExitReason) → f ≡ ending_of_error e → IsLogsError in_use none e → status_of_ending f ≡ 2 → in_use ⊎ none
refused_by in_use none e f same is two = logs_refused in_use none e is (subst (λ (g : ExitReason). status_of_ending g ≡ 2) same two)

only_in_use : (in_use : Type 0) → in_use ⊎ ⊥ → in_use
only_in_use in_use (inl is) = is
only_in_use in_use (inr never) = absurd never

pub in_use_or : (in_use : Type 0) (e : LogsError) (f : ExitReason) → f ≡ ending_of_error e → IsLogsError in_use ⊥ e → status_of_ending f ≡ 2 → in_use
in_use_or in_use e f same is two = only_in_use in_use (refused_by in_use ⊥ e f same is two)

pub no_refusal : (e : LogsError) (f : ExitReason) → f ≡ ending_of_error e → IsLogsError ⊥ ⊥ e → status_of_ending f ≡ 2 → ⊥
no_refusal e f same is two = in_use_or ⊥ e f same is two

pub memory_is_no_refusal : (e : ExitReason) → e ≡ ending.Fault Memory → status_of_ending e ≡ 2 → ⊥
memory_is_no_refusal e is two = three_is_not_two (subst (λ (f : ExitReason). status_of_ending f ≡ 2) is two)
