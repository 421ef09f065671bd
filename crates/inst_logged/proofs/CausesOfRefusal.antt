-- Why a log isn't taken.
use Rattle.std.proofs.Common.{◌≡◌, ◌<◌, inl, inr, refl, ℕ, List, [], length, Option, ap, subst, arith}
use Rattle.inst_log.specs.Layout.{recovered_lines}
use Rattle.inst_log.specs.Opening.{Begins}
use Rattle.inst_log.specs.declared.error.LogError.TheVariants.{Disk, Memory, Full, Write, Told, OtherSettings, NoLog}
use Rattle.inst_logged.specs.declared.error.LoggedError.{LoggedError}
use Rattle.inst_logged.specs.declared.error.LoggedError.TheVariants.{Log, Read, Books, Damaged, OtherDigest, Changed}
use Rattle.inst_chain.specs.Verifying.{IsDamagedAfter}
use Rattle.inst_chain.specs.declared.digest.Digest.{Digest}
use Rattle.inst_chain.specs.declared.prefix.Prefix.{Prefix}
use Rattle.inst_logged.specs.declared.version.Version.{Version}
use Rattle.inst_logged.specs.declared.version.Version.TheVariants.{Two}
use Rattle.inst_logged.specs.Marking.{IsIntact}
use Rattle.inst_logged.specs.Refused.{OpensAs, IsRefused, IsCause, IsLogTaken}

no_line : (file : List ℕ) → 0 < length (recovered_lines file) → recovered_lines file ≡ [] → ⊥
no_line file some none = omega (arith, some, ap length none)

other_settings : (header file : List ℕ) → 0 < length (recovered_lines file) → (Begins header file → ⊥) → OpensAs header file → ⊥
other_settings header file some not (inl begins) = not begins
other_settings header file some not (inr new) = no_line file some new.0

not_intact : (file : List ℕ) (right : Prefix) → IsDamagedAfter file right → IsIntact Two file → ⊥
not_intact file right d (inl none) = no_line file d.some none
not_intact file right d (inr sealed) = d.not_sealed sealed

pub damaged : (version : Version) (file : List ℕ) (right : Prefix) → version ≡ Two → IsDamagedAfter file right → IsIntact version file → ⊥
damaged version file right two d intact = not_intact file right d (subst (λ (v : Version). IsIntact v file) two intact)

-- an error that is neither a refusal nor a change by others has none of these causes
pub cause_of_none : (version : Version) (header : List ℕ) (told : Option ℕ) (wanted : Option Digest) (file : List ℕ) (e : LoggedError) → (IsRefused e → ⊥) → (e ≡ Changed → ⊥) → IsCause version header told wanted file e
cause_of_none version header told wanted file (Log OtherSettings) not alone = absurd (not tt)
cause_of_none version header told wanted file (Log NoLog) not alone = absurd (not tt)
cause_of_none version header told wanted file (Log Told) not alone = absurd (not tt)
cause_of_none version header told wanted file (Log (Disk error)) not alone = tt
cause_of_none version header told wanted file (Log Memory) not alone = tt
cause_of_none version header told wanted file (Log Full) not alone = tt
cause_of_none version header told wanted file (Log Write) not alone = tt
cause_of_none version header told wanted file Read not alone = tt
cause_of_none version header told wanted file Books not alone = absurd (not tt)
cause_of_none version header told wanted file (Damaged right) not alone = absurd (not tt)
cause_of_none version header told wanted file OtherDigest not alone = absurd (not tt)
cause_of_none version header told wanted file Changed not alone = absurd (alone refl)

-- whatever cause a refusal has, the log isn't one that is taken
pub not_taken : (version : Version) (header : List ℕ) (told : Option ℕ) (wanted : Option Digest) (file : List ℕ) (e : LoggedError) → IsRefused e → IsCause version header told wanted file e
    → IsLogTaken version header told wanted file → ⊥
not_taken version header told wanted file (Log OtherSettings) is why taken = other_settings header file why.0 why.1 taken.opens
not_taken version header told wanted file (Log NoLog) is why taken = why.1 taken.opens
not_taken version header told wanted file (Log Told) is why taken = omega (arith, why, taken.enough)
not_taken version header told wanted file (Log (Disk error)) is why taken = is
not_taken version header told wanted file (Log Memory) is why taken = is
not_taken version header told wanted file (Log Full) is why taken = is
not_taken version header told wanted file (Log Write) is why taken = is
not_taken version header told wanted file Read is why taken = is
not_taken version header told wanted file Books is why taken = why
not_taken version header told wanted file (Damaged right) is why taken = damaged version file right why.0 why.1 taken.intact
not_taken version header told wanted file OtherDigest is why taken = why taken.digest
not_taken version header told wanted file Changed is why taken = is
