-- Why a run doesn't take a log.
use Rattle.std.proofs.Common.{◌<◌, ◌≤◌, inl, inr, ℕ, List, Option, length, sym, ap, subst, arith}
use Rattle.inst_log.specs.Layout.{recovered_lines}
use Rattle.inst_log.specs.Opening.{Begins}
use Rattle.inst_log.specs.declared.error.LogError.TheVariants.{Disk, Memory, Full, Write, Told, OtherSettings, NoLog}
use Rattle.inst_chain.specs.declared.digest.Digest.{Digest}
use Rattle.inst_chain.specs.Chain.{kept_said}
use Rattle.inst_logged.specs.Answering.{told_count}
use Rattle.inst_logged.specs.Refused.{HasWanted, IsCause, IsRefused, OpensAs}
use Rattle.inst_logged.specs.declared.error.LoggedError.{LoggedError}
use Rattle.inst_logged.specs.declared.error.LoggedError.TheVariants.{Log, Read, Books, OtherDigest, Changed}
use Rattle.inst_logged.specs.declared.error.LoggedError.TheVariants as logged
use Rattle.inst_logged.specs.declared.version.Version.{Version}
use Rattle.inst_logged.proofs.CausesOfRefusal.{damaged}
use Rattle.inst_program.specs.Keeping.{AsksFor, IsAtMost, IsGoodFor, IsUntaken, KeptRun}
use Rattle.inst_program.specs.Keeping.IsUntaken.{Foreign, Short, Damaged, Undigested}
use Rattle.inst_program.proofs.Digests.{wanted_same}

other_settings : (header file : List ℕ) → 0 < length (recovered_lines file) → (Begins header file → ⊥) → OpensAs header file → ⊥
other_settings header file some not (inl begins) = not begins
other_settings header file some not (inr new) = omega (arith, some, ap length new.0)

-- by the error with which its hub refused it
pub untaken_by : (run : KeptRun) (file : List ℕ) (version : Version) (first : List ℕ) → IsAtMost run file version first → (wanted : Option Digest) → AsksFor run.digest wanted
    → (e : LoggedError) → IsRefused e → IsCause version first run.told wanted file e → IsUntaken run file
untaken_by run file version first most wanted asked (Log OtherSettings) is why =
    Foreign (λ v lines log. other_settings first file why.0 why.1 (subst (λ (l : List ℕ). OpensAs l file) (sym (most v lines log).1) log.opens))
untaken_by run file version first most wanted asked (Log NoLog) is why =
    Foreign (λ v lines log. why.1 (subst (λ (l : List ℕ). OpensAs l file) (sym (most v lines log).1) log.opens))
untaken_by run file version first most wanted asked (Log Told) is why = Short version first most why
untaken_by run file version first most wanted asked (Log (Disk error)) is why = absurd is
untaken_by run file version first most wanted asked (Log Memory) is why = absurd is
untaken_by run file version first most wanted asked (Log Full) is why = absurd is
untaken_by run file version first most wanted asked (Log Write) is why = absurd is
untaken_by run file version first most wanted asked Read is why = absurd is
untaken_by run file version first most wanted asked Books is why = absurd why
untaken_by run file version first most wanted asked (logged.Damaged right) is why =
    Damaged first (subst (λ (v : Version). IsAtMost run file v first) why.0 most) right why.1
untaken_by run file version first most wanted asked OtherDigest is why = Undigested version first most wanted asked why
untaken_by run file version first most wanted asked Changed is why = absurd is

-- and it is none that is good
pub not_good : (run : KeptRun) (file : List ℕ) → IsUntaken run file → IsGoodFor run file → ⊥
not_good run file (Foreign none) good = none good.version good.first good.log
not_good run file (Short version first most short) good =
    let same = most good.version good.first good.log in
    let enough = subst (λ (l : List ℕ). told_count run.told (kept_said l file) ≤ length (kept_said l file)) (sym same.1) good.taken.enough in
    omega (arith, short, enough)
not_good run file (Damaged first most right is) good =
    let same = most good.version good.first good.log in
    damaged good.version file right (sym same.0) is good.taken.intact
not_good run file (Undigested version first most wanted asked none) good =
    let same = most good.version good.first good.log in
    none (subst (λ (v : Version). HasWanted v wanted file) (sym same.0) (wanted_same run.digest good.wanted wanted good.asked asked good.version file good.taken.digest))
