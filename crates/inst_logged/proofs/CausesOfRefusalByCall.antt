-- Why a log isn't taken, by the call that finds it.
use Rattle.std.proofs.Common.{◌≡◌, inl, inr, ℕ, ◌<◌, false, List, [], length, length-append, Option, None, Some, Result, Err, IfErr, IfOk, refl, sym, ◌∙◌, ap, subst, arith}
use Rattle.std.specs.Prelude.{is_some}
use Rattle.inst_log.specs.Log.{HasCause}
use Rattle.inst_log.specs.Layout.{recovered_lines, IsBatch}
use Rattle.inst_log.specs.Opening.{lines_after_settings, IsNewFile, Unopened}
use Rattle.inst_log.specs.Pieces.{Starts}
use Rattle.inst_log.specs.declared.start.Start.{Start}
use Rattle.inst_log.specs.declared.start.Start.TheVariants as start
use Rattle.inst_log.specs.declared.error.LogError.{LogError}
use Rattle.inst_log.specs.declared.error.LogError.TheVariants.{Disk, Memory, Full, Write, Told, OtherSettings, NoLog}
use Rattle.inst_chain.specs.Chain.{kept_said}
use Rattle.inst_chain.specs.Verifying.{Unverified}
use Rattle.inst_chain.specs.declared.digest.Digest.{Digest}
use Rattle.inst_chain.specs.declared.error.ChainError.{ChainError}
use Rattle.inst_chain.specs.declared.error.ChainError.TheVariants as chain
use Rattle.inst_logged.specs.declared.version.Version.{Version}
use Rattle.inst_logged.specs.declared.version.Version.TheVariants.{Two}
use Rattle.inst_logged.specs.declared.error.LoggedError.{LoggedError}
use Rattle.inst_logged.specs.declared.error.LoggedError.TheVariants.{Log, Read, Books, Damaged, OtherDigest, Changed}
use Rattle.inst_logged.specs.Answering.{told_count}
use Rattle.inst_logged.specs.Refused.{OpensAs, IsRefused, IsCause}
use Rattle.inst_logged.specs.inner.Errors.{of_chain}

module _ (version : Version) (header : List ℕ) (told : Option ℕ) (wanted : Option Digest) (file : List ℕ) where
  -- the disk failed, there was no memory, or no room
  pub log_cause : (failed no_memory no_room : Type 0) (e : LogError) → HasCause failed no_memory no_room e → IsCause version header told wanted file (Log e)
  log_cause failed no_memory no_room (Disk error) cause = tt
  log_cause failed no_memory no_room Memory cause = tt
  log_cause failed no_memory no_room Full cause = tt
  log_cause failed no_memory no_room Write cause = tt
  log_cause failed no_memory no_room Told cause = absurd cause
  log_cause failed no_memory no_room OtherSettings cause = absurd cause
  log_cause failed no_memory no_room NoLog cause = absurd cause

  pub chain_cause : version ≡ Two → (clean failed : Type 0) (e : ChainError) → clean → Unverified file clean failed e → IsCause version header told wanted file (of_chain e)
  chain_cause two clean failed (chain.Log e) is cause = log_cause (clean → failed) (Unit {0}) ⊥ e cause
  chain_cause two clean failed (chain.Damaged right) is damaged = (two, damaged is)

  -- a file without a line doesn't begin with the first lines of a log
  not_as : IsBatch header → recovered_lines file ≡ [] → (IsNewFile header file → ⊥) → OpensAs header file → ⊥
  not_as batch none not (inl begins) =
      omega (arith, batch.some, ap length (sym begins ∙ none), length-append (recovered_lines header) (lines_after_settings header file))
  not_as batch none not (inr new) = not new.1

  pub unopened_cause : IsBatch header → (clean untouched failed : Type 0) (e : LogError) → clean → Unopened header file clean untouched failed e → IsCause version header told wanted file (Log e)
  unopened_cause batch clean untouched failed (Disk error) is u = tt
  unopened_cause batch clean untouched failed Memory is u = tt
  unopened_cause batch clean untouched failed Full is u = absurd u
  unopened_cause batch clean untouched failed Write is u = absurd u
  unopened_cause batch clean untouched failed Told is u = absurd u
  unopened_cause batch clean untouched failed OtherSettings is u = u.1 is
  unopened_cause batch clean untouched failed NoLog is u = let why = u.1 is in (why.0, not_as batch why.0 why.1)

  pub told_cause : (e : LoggedError) → (IsRefused e → (e ≡ Log Told) × (length (kept_said header file) < told_count told (kept_said header file))) → (e ≡ Changed → ⊥) → IsCause version header told wanted file e
  told_cause (Log (Disk error)) why alone = tt
  told_cause (Log Memory) why alone = tt
  told_cause (Log Full) why alone = tt
  told_cause (Log Write) why alone = tt
  told_cause (Log Told) why alone = (why tt).1
  told_cause (Log OtherSettings) why alone = absurd (cc (why tt).0)
  told_cause (Log NoLog) why alone = absurd (cc (why tt).0)
  told_cause Read why alone = tt
  told_cause Books why alone = absurd (cc (why tt).0)
  told_cause (Damaged right) why alone = absurd (cc (why tt).0)
  told_cause OtherDigest why alone = absurd (cc (why tt).0)
  told_cause Changed why alone = absurd (alone refl)

-- where an error is passed on, nothing is said of a success
pub no_ok : {A E : Type 0} (Q : E → Type 0) (r : Result A E) (P : A → Type 0) → (e : E) × (r ≡ Err e) × Q e → IfOk r P
no_ok Q r P failed = subst (λ (s : Result _ _). IfOk s P) (sym failed.1) tt

-- what is so of an error is so where it is handed on
pub passed : {T : Type 0} (P : LoggedError → Type 0) (r : Result T LoggedError) (f : LoggedError) → (x : LoggedError) × (r ≡ Err x) × (x ≡ f) → P f → IfErr r P
passed P r f p is = subst (λ (q : _). IfErr q P) (sym p.1) (subst P (sym p.2) is)

-- no digest is asked for
pub none_wanted : (wanted : Option Digest) → is_some wanted ≡ false → wanted ≡ None
none_wanted None is = refl
none_wanted (Some digest) is = absurd (cc is)

-- what a file that is opened was found to be
pub starts_as : (header file : List ℕ) (s : Start) → Starts header file s → OpensAs header file
starts_as header file start.Log begins = inl begins
starts_as header file (start.New is_blank) new = inr (new.1, new.0)
