-- What an error of a call says of an error of its caller.
use Rattle.std.proofs.Common.{◌≡◌, ◌⊎◌, inl, inr, ℕ, List, Result, Ok, Err, sym, subst, IfErr}
use Rattle.std.specs.Prelude.{MatchResult}
use Rattle.std.specs.Bool.{⊤}
use Rattle.inst_log.specs.Log.{HasCause}
use Rattle.inst_log.specs.Opening.{Unopened}
use Rattle.inst_log.specs.Serving.{Unanswered}
use Rattle.inst_log.specs.declared.error.LogError.{LogError}
use Rattle.inst_log.specs.declared.error.LogError.TheVariants.{Disk, Memory, Full, Write, Told, OtherSettings, NoLog}

pub err_passed : {T : Type 0} (P : LogError → Type 0) (r : Result T LogError) (f : LogError) → (x : LogError) × (r ≡ Err x) × (x ≡ f) → P f → IfErr r P
err_passed P r f p h = subst (λ (q : _). IfErr q P) (sym p.1) (subst P (sym p.2) h)

-- why an error came, beside what holds where none did
pub with_calm : {T : Type 0} (calm : Type 0) (P : LogError → Type 0) (r : Result T LogError) → calm → IfErr r P → MatchResult r (λ _. calm) P
with_calm calm P (Ok v) is why = is
with_calm calm P (Err error) is why = why

-- the disk failed where more is known
cause_so : (failed fails : Type 0) (error : LogError) → (failed → fails) → HasCause failed ⊤ ⊥ error → HasCause fails ⊤ ⊥ error
cause_so failed fails (Disk error) so cause = so cause
cause_so failed fails Memory so cause = tt
cause_so failed fails Full so cause = cause
cause_so failed fails Write so cause = cause
cause_so failed fails Told so cause = cause
cause_so failed fails OtherSettings so cause = cause
cause_so failed fails NoLog so cause = cause

pub counts_passed : {T : Type 0} (calm failed fails : Type 0) (r : Result T LogError) (f : LogError) → (x : LogError) × (r ≡ Err x) × (x ≡ f) → (failed → fails) → HasCause failed ⊤ ⊥ f
    → MatchResult r (λ _. calm) (HasCause fails ⊤ ⊥)
counts_passed calm failed fails r f p so cause = subst (λ (q : _). MatchResult q (λ _. calm) (HasCause fails ⊤ ⊥)) (sym p.1) (cause_so failed fails p.0 so (subst (HasCause failed ⊤ ⊥) (sym p.2) cause))

pub unopened : (settings file : List ℕ) (clean untouched failed fails : Type 0) (error : LogError) → (failed → fails) → HasCause failed ⊤ ⊥ error → Unopened settings file clean untouched fails error
unopened settings file clean untouched failed fails (Disk error) so cause = so cause
unopened settings file clean untouched failed fails Memory so cause = tt
unopened settings file clean untouched failed fails Full so cause = absurd cause
unopened settings file clean untouched failed fails Write so cause = absurd cause
unopened settings file clean untouched failed fails Told so cause = absurd cause
unopened settings file clean untouched failed fails OtherSettings so cause = absurd cause
unopened settings file clean untouched failed fails NoLog so cause = absurd cause

-- a file that isn't a log of these settings and isn't new
pub unopened_as : (settings file : List ℕ) (clean untouched failed : Type 0) (error : LogError) → untouched → (clean → Unopened settings file (Unit {0}) (Unit {0}) ⊥ error)
    → (error ≡ OtherSettings) ⊎ (error ≡ NoLog) → Unopened settings file clean untouched failed error
unopened_as settings file clean untouched failed OtherSettings same why only = (same, λ is. (why is).1 tt)
unopened_as settings file clean untouched failed NoLog same why only = (same, λ is. (why is).1 tt)
unopened_as settings file clean untouched failed (Disk error) same why (inl only) = absurd (cc only)
unopened_as settings file clean untouched failed (Disk error) same why (inr only) = absurd (cc only)
unopened_as settings file clean untouched failed Memory same why only = tt
unopened_as settings file clean untouched failed Full same why (inl only) = absurd (cc only)
unopened_as settings file clean untouched failed Full same why (inr only) = absurd (cc only)
unopened_as settings file clean untouched failed Write same why (inl only) = absurd (cc only)
unopened_as settings file clean untouched failed Write same why (inr only) = absurd (cc only)
unopened_as settings file clean untouched failed Told same why (inl only) = absurd (cc only)
unopened_as settings file clean untouched failed Told same why (inr only) = absurd (cc only)

pub unopened_at : {T : Type 0} (settings file : List ℕ) (clean untouched failed : Type 0) (r : Result T LogError) → untouched
    → (clean → IfErr r (Unopened settings file (Unit {0}) (Unit {0}) ⊥)) → IfErr r (λ error. (error ≡ OtherSettings) ⊎ (error ≡ NoLog)) → IfErr r (Unopened settings file clean untouched failed)
unopened_at settings file clean untouched failed (Ok v) same why only = tt
unopened_at settings file clean untouched failed (Err error) same why only = unopened_as settings file clean untouched failed error same why only

pub unanswered_so : (fails fails' : LogError → Type 0) (no_room no_room' too_few too_few' at_rest at_rest' : Type 0) (error : LogError) → ((e : LogError) → fails e → fails' e) → (no_room → no_room') → (too_few → too_few') → (at_rest → at_rest')
    → Unanswered fails no_room too_few at_rest error → Unanswered fails' no_room' too_few' at_rest' error
unanswered_so fails fails' no_room no_room' too_few too_few' at_rest at_rest' (Disk error) f r t a cause = f (Disk error) cause
unanswered_so fails fails' no_room no_room' too_few too_few' at_rest at_rest' Memory f r t a cause = f Memory cause
unanswered_so fails fails' no_room no_room' too_few too_few' at_rest at_rest' OtherSettings f r t a cause = f OtherSettings cause
unanswered_so fails fails' no_room no_room' too_few too_few' at_rest at_rest' NoLog f r t a cause = f NoLog cause
unanswered_so fails fails' no_room no_room' too_few too_few' at_rest at_rest' Full f r t a cause = r cause
unanswered_so fails fails' no_room no_room' too_few too_few' at_rest at_rest' Told f r t a cause = t cause
unanswered_so fails fails' no_room no_room' too_few too_few' at_rest at_rest' Write f r t a cause = a cause
