-- How a hub with a log fails.
use Rattle.std.proofs.Common.{◌≡◌, inl, inr, ℕ, ◌≤◌, List, length, length-append, Result, Ok, Err, IfErr, OnOk, sym, ap, subst, arith}
use Rattle.std.specs.Prelude.{MatchResult, ⊤, IsTrue}
use Rattle.sqlite_disk.specs.Disk.{MoreFaults}
use Rattle.sqlite_disk.specs.declared.Disk.{Ghosts}
use Rattle.inst_log.specs.Layout.{recovered_lines, blocks}
use Rattle.inst_log.specs.Log.{HasCause, IsBeforeOrAfter}
use Rattle.inst_log.specs.Opening.{Unopened}
use Rattle.inst_log.specs.Serving.{Unanswered}
use Rattle.inst_log.proofs.Lines.{blocks-append}
use Rattle.inst_log.specs.declared.error.LogError.{LogError}
use Rattle.inst_log.specs.declared.error.LogError.TheVariants.{Disk, Memory, Full, Write, Told, OtherSettings, NoLog}
use Rattle.inst_chain.specs.Verifying.{Unverified}
use Rattle.inst_chain.specs.declared.error.ChainError.{ChainError}
use Rattle.inst_chain.specs.declared.error.ChainError.TheVariants as chain
use Rattle.inst_logged.specs.Refused.{HasLogFailed, IsRefused}
use Rattle.inst_logged.specs.inner.Errors.{of_chain}
use Rattle.inst_logged.specs.inner.Failing.{FailsAtLog, FailsBy, FailsUnrefused}
use Rattle.inst_logged.specs.declared.error.LoggedError.{LoggedError}
use Rattle.inst_logged.specs.declared.error.LoggedError.TheVariants.{Log, Read, Books, Damaged, OtherDigest, Changed}

pub failed_so : (failed failed' no_room no_room' at_rest at_rest' : Type 0) (e : LoggedError) → (failed → failed') → (no_room → no_room') → (at_rest → at_rest')
    → HasLogFailed failed no_room at_rest e → HasLogFailed failed' no_room' at_rest' e
failed_so failed failed' no_room no_room' at_rest at_rest' (Log (Disk error)) f n r is = f is
failed_so failed failed' no_room no_room' at_rest at_rest' (Log Full) f n r is = n is
failed_so failed failed' no_room no_room' at_rest at_rest' (Log Write) f n r is = r is
failed_so failed failed' no_room no_room' at_rest at_rest' (Log Memory) f n r is = tt
failed_so failed failed' no_room no_room' at_rest at_rest' (Log Told) f n r is = tt
failed_so failed failed' no_room no_room' at_rest at_rest' (Log OtherSettings) f n r is = tt
failed_so failed failed' no_room no_room' at_rest at_rest' (Log NoLog) f n r is = tt
failed_so failed failed' no_room no_room' at_rest at_rest' Read f n r is = tt
failed_so failed failed' no_room no_room' at_rest at_rest' Books f n r is = tt
failed_so failed failed' no_room no_room' at_rest at_rest' (Damaged right) f n r is = tt
failed_so failed failed' no_room no_room' at_rest at_rest' OtherDigest f n r is = tt
failed_so failed failed' no_room no_room' at_rest at_rest' Changed f n r is = tt

pub fails_so : (failed failed' no_room no_room' at_rest at_rest' : Type 0) (e : LoggedError) → (failed → failed') → (no_room → no_room') → (at_rest → at_rest')
    → FailsAtLog failed no_room at_rest e → FailsAtLog failed' no_room' at_rest' e
fails_so failed failed' no_room no_room' at_rest at_rest' e f n r is = (is.0, failed_so failed failed' no_room no_room' at_rest at_rest' e f n r is.1)

-- the disk failed, or there was no memory
pub log_fails : (failed failed' no_memory no_room at_rest : Type 0) (e : LogError) → (failed → failed') → HasCause failed no_memory ⊥ e → FailsAtLog failed' no_room at_rest (Log e)
log_fails failed failed' no_memory no_room at_rest (Disk error) so cause = ((λ is. cc is), so cause)
log_fails failed failed' no_memory no_room at_rest Memory so cause = ((λ is. cc is), tt)
log_fails failed failed' no_memory no_room at_rest Full so cause = absurd cause
log_fails failed failed' no_memory no_room at_rest Write so cause = absurd cause
log_fails failed failed' no_memory no_room at_rest Told so cause = absurd cause
log_fails failed failed' no_memory no_room at_rest OtherSettings so cause = absurd cause
log_fails failed failed' no_memory no_room at_rest NoLog so cause = absurd cause

pub chain_fails : (file : List ℕ) (clean failed no_room at_rest : Type 0) (e : ChainError) → clean → Unverified file clean failed e → FailsAtLog failed no_room at_rest (of_chain e)
chain_fails file clean failed no_room at_rest (chain.Log e) is u = log_fails _ failed _ no_room at_rest e (λ so. so is) u
chain_fails file clean failed no_room at_rest (chain.Damaged right) is u = ((λ i. cc i), tt)

pub unopened_fails : (settings file : List ℕ) (clean untouched failed no_room at_rest : Type 0) (e : LogError) → Unopened settings file clean untouched failed e → HasLogFailed failed no_room at_rest (Log e)
unopened_fails settings file clean untouched failed no_room at_rest (Disk error) u = u
unopened_fails settings file clean untouched failed no_room at_rest Memory u = tt
unopened_fails settings file clean untouched failed no_room at_rest Full u = absurd u
unopened_fails settings file clean untouched failed no_room at_rest Write u = absurd u
unopened_fails settings file clean untouched failed no_room at_rest Told u = tt
unopened_fails settings file clean untouched failed no_room at_rest OtherSettings u = tt
unopened_fails settings file clean untouched failed no_room at_rest NoLog u = tt

pub unanswered_fails : (failed failed' no_room no_room' at_rest at_rest' : Type 0) (e : LogError) → (failed → failed') → (no_room → no_room') → (at_rest → at_rest')
    → Unanswered (HasCause failed ⊤ ⊥) no_room ⊥ at_rest e → FailsAtLog failed' no_room' at_rest' (Log e)
unanswered_fails failed failed' no_room no_room' at_rest at_rest' (Disk error) f n r u = ((λ is. cc is), f u)
unanswered_fails failed failed' no_room no_room' at_rest at_rest' Memory f n r u = ((λ is. cc is), tt)
unanswered_fails failed failed' no_room no_room' at_rest at_rest' Full f n r u = ((λ is. cc is), n u)
unanswered_fails failed failed' no_room no_room' at_rest at_rest' Write f n r u = ((λ is. cc is), r u)
unanswered_fails failed failed' no_room no_room' at_rest at_rest' Told f n r u = absurd u
unanswered_fails failed failed' no_room no_room' at_rest at_rest' OtherSettings f n r u = absurd u
unanswered_fails failed failed' no_room no_room' at_rest at_rest' NoLog f n r u = absurd u

-- what is so of an error is so where it is handed on
pub fails_passed : {T : Type 0} (calm : Type 0) (P : LoggedError → Type 0) (r : Result T LoggedError) (f : LoggedError) → (x : LoggedError) × (r ≡ Err x) × (x ≡ f) → P f → MatchResult r (λ _. calm) P
fails_passed calm P r f p is = subst (λ (q : _). MatchResult q (λ _. calm) P) (sym p.1) (subst P (sym p.2) is)

pub err_of_fails : {T : Type 0} (r : Result T LoggedError) (calm : T → Type 0) (P : LoggedError → Type 0) → MatchResult r calm P → IfErr r P
err_of_fails (Ok v) calm P is = tt
err_of_fails (Err e) calm P is = is

-- more was told than the log has
pub fails_told : {T : Type 0} (calm clean failed no_room at_rest : Type 0) (r : Result T LoggedError) → calm → IfErr r (λ e. e ≡ Log Told)
    → MatchResult r (λ _. calm) (λ e. clean → FailsAtLog failed no_room at_rest e)
fails_told calm clean failed no_room at_rest (Ok v) none is = none
fails_told calm clean failed no_room at_rest (Err e) none is = λ _. subst (FailsAtLog failed no_room at_rest) (sym is) ((λ i. cc i), tt)

-- no fault was counted before
pub more_faults : (old mid new : ℕ) → mid ≡ old → MoreFaults mid new → MoreFaults old new
more_faults old mid new calm more = subst (λ (n : ℕ). MoreFaults n new) calm more

pub fails_after : {D T : Type 0} (disks : Ghosts D) (old mid new : D) (no_room at_rest : Type 0) (r : Result T LoggedError) → disks.faults mid ≡ disks.faults old → FailsBy disks mid new no_room at_rest r
    → FailsBy disks old new no_room at_rest r
fails_after disks old mid new no_room at_rest r calm by =
    subst (λ (n : ℕ). MatchResult r (λ _. disks.faults new ≡ n) (λ e. IsTrue (disks.is_clean new) → FailsAtLog (MoreFaults n (disks.faults new)) no_room at_rest e)) calm by

-- the log alone doesn't refuse itself
pub log_unrefused : (failed no_memory no_room : Type 0) (e : LogError) → HasCause failed no_memory no_room e → IsRefused (Log e) → ⊥
log_unrefused failed no_memory no_room (Disk error) cause is = is
log_unrefused failed no_memory no_room Memory cause is = is
log_unrefused failed no_memory no_room Full cause is = is
log_unrefused failed no_memory no_room Write cause is = cause
log_unrefused failed no_memory no_room Told cause is = cause
log_unrefused failed no_memory no_room OtherSettings cause is = cause
log_unrefused failed no_memory no_room NoLog cause is = cause

pub unanswered_unrefused : (failed no_room at_rest : Type 0) (e : LogError) → Unanswered (HasCause failed ⊤ ⊥) no_room ⊥ at_rest e → IsRefused (Log e) → ⊥
unanswered_unrefused failed no_room at_rest (Disk error) u is = is
unanswered_unrefused failed no_room at_rest Memory u is = is
unanswered_unrefused failed no_room at_rest Full u is = is
unanswered_unrefused failed no_room at_rest Write u is = is
unanswered_unrefused failed no_room at_rest Told u is = u
unanswered_unrefused failed no_room at_rest OtherSettings u is = u
unanswered_unrefused failed no_room at_rest NoLog u is = u

-- an error that is handed on
pub unrefused_fails : {D T : Type 0} (disks : Ghosts D) (old new : D) (no_room at_rest : Type 0) (r : Result T LoggedError) (f : LoggedError) → (x : LoggedError) × (r ≡ Err x) × (x ≡ f) → (IsRefused f → ⊥)
    → (IsTrue (disks.is_clean new) → FailsAtLog (MoreFaults (disks.faults old) (disks.faults new)) no_room at_rest f) → FailsUnrefused disks old new no_room at_rest r
unrefused_fails disks old new no_room at_rest r f p unrefused fails = record {
  unrefused = subst (λ (q : _). IfErr q (λ e. IsRefused e → ⊥)) (sym p.1) (subst (λ (e : LoggedError). IsRefused e → ⊥) (sym p.2) unrefused);
  failure = fails_passed _ _ r f p fails;
}

-- no fault was counted where the call is done
pub on_ok_calm : {D T : Type 0} (disks : Ghosts D) (old new : D) (no_room at_rest : Type 0) (r : Result T LoggedError) (P : Type 0) → FailsBy disks old new no_room at_rest r → (disks.faults new ≡ disks.faults old → P) → OnOk r P
on_ok_calm disks old new no_room at_rest (Ok v) P calm is = is calm
on_ok_calm disks old new no_room at_rest (Err e) P calm is = tt

-- a log whose lines have so many bytes has no fewer later
pub no_room_now : (file new : List ℕ) (batch : List (List ℕ)) (most end : ℕ) → end ≡ length (blocks (recovered_lines file)) → most ≤ end → IsBeforeOrAfter (recovered_lines file) batch new
    → most ≤ length (blocks (recovered_lines new))
no_room_now file new batch most end ends full (inl same) = omega (arith, ends, full, ap (λ (ls : List (List ℕ)). length (blocks ls)) same)
no_room_now file new batch most end ends full (inr more) =
    omega (
      arith,
      ends,
      full,
      ap (λ (ls : List (List ℕ)). length (blocks ls)) more,
      ap length (blocks-append (recovered_lines file) batch),
      length-append (blocks (recovered_lines file)) (blocks batch),
    )
