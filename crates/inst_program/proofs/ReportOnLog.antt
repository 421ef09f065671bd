-- What a log is told to have, and why it is told of none.
use Rattle.std.proofs.Common.{◌≡◌, ◌∙◌, ◌⊎◌, inl, inr, ℕ, [], List, Option, None, Some, Result, Err, IfSome, MatchResult, sym, ap, subst}
use Rattle.std.specs.Prelude.{unwrap_or}
use Rattle.inst_settings.specs.Settings.{HubSettings}
use Rattle.inst_lines.specs.declared.mode.Mode.{Mode}
use Rattle.inst_log.specs.Layout.{recovered_lines}
use Rattle.inst_log.specs.declared.error.LogError.{LogError}
use Rattle.inst_log.specs.declared.error.LogError.TheVariants.{Disk, Memory, Full, Write, Told, OtherSettings, NoLog}
use Rattle.inst_chain.specs.Summing.{HasFirst, IsSealedBy, IsUnsealed, Unsummed}
use Rattle.inst_chain.specs.declared.digest.Digest.{Digest}
use Rattle.inst_chain.specs.declared.prefix.Prefix.{Prefix}
use Rattle.inst_logged.specs.LogHeader.{IsHeaderLine, beginning_with}
use Rattle.inst_logged.specs.Refused.{IsRefused}
use Rattle.inst_logged.specs.declared.header.Origin.{Origin}
use Rattle.inst_logged.specs.declared.log_header.LogHeader.{LogHeader}
use Rattle.inst_logged.specs.declared.error.LoggedError.TheVariants.{Log}
use Rattle.inst_logged.specs.declared.version.Version.{Version}
use Rattle.inst_logged.specs.declared.version.Version.TheVariants.{One, Two}
use Rattle.inst_logged.proofs.BooksBehindFirstLine.{header_of_first, log_has_a_line}
use Rattle.inst_logged.proofs.CausesOfRefusal.{damaged}
use Rattle.inst_program.specs.Keeping.{HasLastDigest, IsGoodLog}
use Rattle.inst_program.specs.inner.Showing.{HasDigest}

-- what is so of the bytes that a reader had is so of the file's
pub of_the_file : (o : Option (List ℕ)) (P : List ℕ → Type 0) (now was : List ℕ) → o ≡ Some now → now ≡ was → IfSome o P → P was
of_the_file o P now was is same has = subst P same (subst (λ (x : Option (List ℕ)). IfSome x P) is has)

pub only_none : (none : Type 0) → ⊥ ⊎ none → none
only_none none (inl never) = absurd never
only_none none (inr is) = is

-- which digest is its last
pub last_of : (version : Version) (file : List ℕ) (chain : Result Digest Prefix) (digest : Option Digest) → MatchResult chain (IsSealedBy file) (IsUnsealed file)
    → HasDigest version chain digest → HasLastDigest version file digest
last_of One file chain digest is has = has
last_of Two file chain digest is has = (has.0, has.2, subst (λ (c : Result Digest Prefix). MatchResult c (IsSealedBy file) (IsUnsealed file)) has.1 is)

-- it has no line
pub no_line_bad : (file : List ℕ) → recovered_lines file ≡ [] → IsGoodLog file → ⊥
no_line_bad file none good = log_has_a_line good.version good.mode good.settings good.first file good.lines good.begins none

pub no_byte_bad : (file now : List ℕ) → now ≡ file → now ≡ [] → IsGoodLog file → ⊥
no_byte_bad file now same none good = let empty : recovered_lines file ≡ [] = ap recovered_lines (sym same ∙ none) in no_line_bad file empty good

pub unsummed_bad : (file : List ℕ) (e : LogError) → Unsummed file e → IsRefused (Log e) → IsGoodLog file → ⊥
unsummed_bad file NoLog is refused good = no_line_bad file is good
unsummed_bad file (Disk error) is refused good = refused
unsummed_bad file Memory is refused good = refused
unsummed_bad file Full is refused good = refused
unsummed_bad file Write is refused good = is
unsummed_bad file Told is refused good = is
unsummed_bad file OtherSettings is refused good = is

-- its first line isn't that of a log
pub unread_bad : (file first : List ℕ) (found : Option LogHeader)
    → ((version : Version) (mode : Mode) (s : HubSettings) (origin : Origin) → IsHeaderLine version mode s origin first → found ≡ Some (beginning_with mode s origin))
    → found ≡ None → HasFirst (recovered_lines file) first → IsGoodLog file → ⊥
unread_bad file first found reads none has good =
    let line = header_of_first good.version good.mode good.settings good.first file first good.lines good.begins has in
    let no : None ≡ Some (beginning_with good.mode good.settings line.0) = sym none ∙ reads good.version good.mode good.settings line.0 line.1 in
    cc no

-- its marks are wrong
pub damaged_bad : (file first : List ℕ) (found : Option Version)
    → ((version : Version) (mode : Mode) (s : HubSettings) (origin : Origin) → IsHeaderLine version mode s origin first → found ≡ Some version)
    → HasFirst (recovered_lines file) first → (chain : Result Digest Prefix) (right : Prefix) → MatchResult chain (IsSealedBy file) (IsUnsealed file)
    → unwrap_or found Two ≡ Two → chain ≡ Err right → IsGoodLog file → ⊥
damaged_bad file first found back has chain right is two failed good =
    let line = header_of_first good.version good.mode good.settings good.first file first good.lines good.begins has in
    let same : good.version ≡ Two = sym (ap (λ (o : Option Version). unwrap_or o Two) (back good.version good.mode good.settings line.0 line.1)) ∙ two in
    let unsealed = subst (λ (c : Result Digest Prefix). MatchResult c (IsSealedBy file) (IsUnsealed file)) failed is in
    damaged good.version file right same (unsealed good.few) good.intact

-- what its first line says
pub says_so : (first : List ℕ) (found : Option Version) (beginning : LogHeader) (read : Option LogHeader)
    → ((version : Version) (mode : Mode) (s : HubSettings) (origin : Origin) → IsHeaderLine version mode s origin first → found ≡ Some version)
    → ((version : Version) (mode : Mode) (s : HubSettings) (origin : Origin) → IsHeaderLine version mode s origin first → read ≡ Some (beginning_with mode s origin))
    → read ≡ Some beginning → (v : Version) (mode : Mode) (s : HubSettings) (n : Origin) → IsHeaderLine v mode s n first
    → (unwrap_or found Two ≡ v) × (unwrap_or beginning.books 0 ≡ unwrap_or n.books 0)
says_so first found beginning read back reads is v mode s n line =
    let same : ◌≡◌ {A = Option LogHeader} (Some beginning) (Some (beginning_with mode s n)) = sym is ∙ reads v mode s n line in
    let both : beginning ≡ beginning_with mode s n = cc same in (
      ap (λ (o : Option Version). unwrap_or o Two) (back v mode s n line),
      ap (λ (b : LogHeader). unwrap_or b.books 0) both,
    )
