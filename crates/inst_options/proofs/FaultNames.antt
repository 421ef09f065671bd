-- Each fault stands in the list of all, at the place before its number.
use Rattle.std.proofs.Common.{◌≡◌, ◌⊎◌, ◌<◌, ◌≤◌, ◌+◌, ℕ, List, Some, slice_get, true, false, refl, subst, inl, inr, arith}
use Rattle.std.proofs.lemmas.Bool.{cases_lt}
use Rattle.inst_base.specs.declared.fault.Fault.TheVariants as fault
use Rattle.inst_options.specs.AnyFault.{IsNamed}
use Rattle.inst_options.specs.declared.any_fault.AnyFault.{AnyFault}
use Rattle.inst_options.specs.declared.any_fault.AnyFault.TheVariants.{Hub, Log, NoInterleaving, PendingTransfer, BrokenChain}
use Rattle.inst_options.specs.declared.any_fault.TheConstants.{ALL}
use Rattle.inst_options.specs.declared.log_fault.LogFault.TheVariants as log

pub true_is_not_false : true ≡ false → ⊥
true_is_not_false e = cc

-- one more that the word doesn't name
pub one_more : (word : List ℕ) (all : List AnyFault) (n : ℕ) → ((i : ℕ) (f : AnyFault) → i < n → slice_get all i ≡ Some f → ¬ (IsNamed word f)) →
    ((f : AnyFault) → slice_get all n ≡ Some f → ¬ (IsNamed word f)) → (i : ℕ) (f : AnyFault) → i < n + 1 → slice_get all i ≡ Some f → ¬ (IsNamed word f)
one_more word all n before here i f below at = by_case (cases_lt i n) where
  by_case : (i < n) ⊎ (n ≤ i) → ¬ (IsNamed word f)
  by_case (inl less) = before i f less at
  by_case (inr more) = let same : i ≡ n = omega (arith, below, more) in here f (subst (λ (j : ℕ). slice_get all j ≡ Some f) same at)

-- each fault stands there
stands : (f : AnyFault) → (i : ℕ) × (i < 31) × (slice_get ALL.now i ≡ Some f)
stands (Hub fault.NotJson) = (0, omega arith, refl)
stands (Hub fault.BadField) = (1, omega arith, refl)
stands (Hub fault.BadIdentifier) = (2, omega arith, refl)
stands (Hub fault.BadAmount) = (3, omega arith, refl)
stands (Hub fault.BadMoment) = (4, omega arith, refl)
stands (Hub fault.UnknownParticipant) = (5, omega arith, refl)
stands (Hub fault.SelfTransfer) = (6, omega arith, refl)
stands (Hub fault.UnknownTransfer) = (7, omega arith, refl)
stands (Hub fault.Duplicate) = (8, omega arith, refl)
stands (Hub fault.StampAhead) = (9, omega arith, refl)
stands (Hub fault.Expired) = (10, omega arith, refl)
stands (Hub fault.Full) = (11, omega arith, refl)
stands (Hub fault.Shortage) = (12, omega arith, refl)
stands (Hub fault.Memory) = (13, omega arith, refl)
stands (Hub fault.BadSettings) = (14, omega arith, refl)
stands (Hub fault.LineTooLong) = (15, omega arith, refl)
stands (Hub fault.ReadFault) = (16, omega arith, refl)
stands (Hub fault.WriteFault) = (17, omega arith, refl)
stands (Log log.DiskFault) = (18, omega arith, refl)
stands (Log log.OtherSettings) = (19, omega arith, refl)
stands (Log log.NoLog) = (20, omega arith, refl)
stands (Log log.ToldAhead) = (21, omega arith, refl)
stands (Log log.LogInUse) = (22, omega arith, refl)
stands (Log log.BadBooks) = (23, omega arith, refl)
stands (Log log.LastOpening) = (24, omega arith, refl)
stands (Log log.DamagedLog) = (25, omega arith, refl)
stands (Log log.OtherDigest) = (26, omega arith, refl)
stands (Log log.ChangedLog) = (27, omega arith, refl)
stands NoInterleaving = (28, omega arith, refl)
stands PendingTransfer = (29, omega arith, refl)
stands BrokenChain = (30, omega arith, refl)

pub none_of_all : (word : List ℕ) (n : ℕ) → 31 ≤ n → ((i : ℕ) (f : AnyFault) → i < n → slice_get ALL.now i ≡ Some f → ¬ (IsNamed word f)) →
    (f : AnyFault) → ¬ (IsNamed word f)
none_of_all word n whole none f = let at = stands f in none at.0 f (omega (arith, at.1, whole)) at.2
