-- What runs with logs leave of a log's file. Claims about a file hold if its disk has kept faith
-- (`faith`): it had the bytes stated, and no wrong answer of it was taken as true. A choice of this
-- hub.
use Rattle.std.specs.Prelude.{◌≡◌, ◌≢◌, ◌⊎◌, ◌-◌, ◌<◌, ◌^◌, ◌++◌, ◌∷◌, [], ℕ, Bool, true, List}
use Rattle.std.specs.Prelude.{false, length, Option, None, Some, IfSome, option_map, unwrap_or}
use Rattle.std.specs.Prelude.{IsTrue, codes}
use Rattle.std.specs.Fmt.{decimal}
use Rattle.std.specs.Str.Lossy.{utf8_lossy}
use Rattle.std.specs.Io.KnownBytes.{Appends, IsAtEnd}
use Rattle.sqlite_disk.specs.Disk.{Only}
use mathlib.Core.List.{IsPrefix}
use Rattle.inst_settings.specs.Settings.{HubSettings}
use Rattle.inst_settings.specs.Lawful.{IsSettings}
use Rattle.inst_journal.specs.History.{History}
use Rattle.inst_world.specs.NextOpening.{CanOpenFrom, books_of}
use Rattle.inst_books.specs.Positions.{CarriesPositions, IsBaseAfter}
use Rattle.inst_lines.specs.Answering.{HubPast, new_past}
use Rattle.inst_lines.specs.declared.mode.Mode.{Mode}
use Rattle.inst_log.specs.Layout.{recovered_lines}
use Rattle.inst_log.specs.Opening.{lines_after_settings, Begins, OpensAlike, IsSameOrBegun}
use Rattle.inst_chain.specs.Chain.{IsHexadecimal, kept_said, said}
use Rattle.inst_chain.specs.Summing.{HasFirst, IsSealedBy}
use Rattle.inst_chain.specs.Verifying.{IsDamagedAfter}
use Rattle.inst_chain.specs.declared.digest.Digest.{Digest}
use Rattle.inst_chain.specs.declared.prefix.Prefix.{Prefix}
use Rattle.inst_logged.specs.declared.header.Origin.{Origin}
use Rattle.inst_logged.specs.declared.version.Version.{Version}
use Rattle.inst_logged.specs.declared.version.Version.TheVariants.{One, Two}
use Rattle.inst_logged.specs.Answering.{opened_from, past_after, told_count, AreBooksAfter}
use Rattle.inst_logged.specs.LogHeader.{IsHeaderLine}
use Rattle.inst_logged.specs.Header.{AreFirstLines, header, header_from}
use Rattle.inst_logged.specs.Marking.{IsIntact}
use Rattle.inst_logged.specs.Logged.{HasLogged, SurvivesACrash}
use Rattle.inst_logged.specs.Refused.{HasWanted, IsLogTaken, OpensAs}
use Rattle.inst_logged.specs.Streams.{Streams}
use Rattle.inst_options.specs.Changes.{AreFormed, changed}
use Rattle.inst_options.specs.declared.invocation.LogOptions.{LogOptions}
use Rattle.inst_options.specs.declared.invocation.NextOptions.{NextOptions}
use Rattle.inst_options.specs.declared.setting_changes.SettingChanges.{SettingChanges}
use Rattle.inst_program.specs.Files.{Change, Files, change_of, AllButTwoStay, IfKept, IsAsItWas}
use Rattle.inst_program.specs.Files.{MayBe}

-- A run with a log, as the words ask for it: mode, settings, the log's name, the number of lines
-- whose replies the client has, whether the log must exist, and the digest that it must contain.
pub record KeptRun : Type 0 where
  pub mode : Mode
  pub settings : HubSettings
  pub name : List ℕ
  pub told : Option ℕ
  pub resume : Bool
  pub digest : Option (List ℕ)

-- The run of these settings with this log.
abbrev pub kept_run : Mode → HubSettings → LogOptions → KeptRun
kept_run mode s log = record {
  mode = mode;
  settings = s;
  name = log.path.now;
  told = log.told;
  resume = log.resume;
  digest = option_map (λ d. d.now) log.digest;
}

-- The past of a hub of these settings before its log's first line after these first ones: it opened
-- for the first time or from books.
abbrev pub IsBeginning : Version → Mode → HubSettings → HubPast → List ℕ → Type 0
IsBeginning version mode s past first =
    ((past ≡ new_past s) × (first ≡ header version mode s))
    ⊎ ((journals : List History) × (previous : Option Digest) × CanOpenFrom s journals
    × IfSome previous IsHexadecimal × (past ≡ opened_from s journals)
    × (first ≡ header_from version mode s journals previous))

-- The digest that is asked for has this text, if one is given.
abbrev pub AsksFor : Option (List ℕ) → Option Digest → Type 0
AsksFor None wanted = wanted ≡ None
AsksFor (Some text) wanted = (digest : Digest) × (wanted ≡ Some digest) × (digest.text ≡ text)

-- Such a hub takes the log of this file. A file without a line gets marks and no books.
pub record IsTakenFor (run : KeptRun) (file : List ℕ) (version : Version) (past : HubPast)
    (first : List ℕ) : Type 0 where
  pub begins : IsBeginning version run.mode run.settings past first
  pub fresh : recovered_lines file ≡ [] →
      (version ≡ Two) × (first ≡ header Two run.mode run.settings)
  pub there : run.resume ≡ true → 0 < length (recovered_lines file)
  pub wanted : Option Digest
  pub asked : AsksFor run.digest wanted
  pub taken : IsLogTaken version first run.told wanted file

-- The file opens as the log of a hub of these settings with these first lines, and has a line if it
-- must. A new log has marks and no books.
pub record IsLogOf (mode : Mode) (s : HubSettings) (must_be_there : Bool) (file : List ℕ)
    (version : Version) (first : List ℕ) : Type 0 where
  pub lines : AreFirstLines version mode s first
  pub fresh : recovered_lines file ≡ [] → (version ≡ Two) × (first ≡ header Two mode s)
  pub there : must_be_there ≡ true → 0 < length (recovered_lines file)
  pub opens : OpensAs first file

-- The file opens as such a log of this run.
abbrev pub IsLogFor : KeptRun → List ℕ → Version → List ℕ → Type 0
IsLogFor run file version first = IsLogOf run.mode run.settings run.resume file version first

-- The file is a log that the run can take: it opens as one of the run, its marks are right, and it
-- has what is asked for.
pub record IsGoodFor (run : KeptRun) (file : List ℕ) : Type 0 where
  pub version : Version
  pub first : List ℕ
  pub log : IsLogFor run file version first
  pub wanted : Option Digest
  pub asked : AsksFor run.digest wanted
  pub taken : IsLogTaken version first run.told wanted file

-- If the file is a log of the run, it has this version and these first lines.
abbrev pub IsAtMost : KeptRun → List ℕ → Version → List ℕ → Type 0
IsAtMost run file version first =
    (v : Version) (lines : List ℕ) → IsLogFor run file v lines → (version ≡ v) × (first ≡ lines)

-- Why a run refuses the log of this file.
--
-- `Foreign`: it isn't a log of the run (`OtherSettings`, `NoLog`, `BadBooks`, or `DamagedLog` if
-- the mark of its books is wrong).
--
-- `Short`: it has fewer lines than were told (`ToldAhead`).
--
-- `Damaged`: a mark or its end is wrong (`DamagedLog`).
--
-- `Undigested`: it has no mark with the digest that is asked for (`OtherDigest`).
pub data IsUntaken (run : KeptRun) (file : List ℕ) : Type 0 where
  Foreign : ((version : Version) (first : List ℕ) → ¬ (IsLogFor run file version first)) →
      IsUntaken run file
  Short : (version : Version) (first : List ℕ) → IsAtMost run file version first
      → length (kept_said first file) < told_count run.told (kept_said first file) →
      IsUntaken run file
  Damaged : (first : List ℕ) → IsAtMost run file Two first → (right : Prefix) →
      IsDamagedAfter file right → IsUntaken run file
  Undigested : (version : Version) (first : List ℕ) → IsAtMost run file version first
      → (wanted : Option Digest) → AsksFor run.digest wanted → ¬ (HasWanted version wanted file) →
      IsUntaken run file

-- A log that is refused isn't one that is good for the run.
abbrev pub AnUntakenLogIsNotGood : Type 0
AnUntakenLogIsNotGood =
    (run : KeptRun) (file : List ℕ) → IsUntaken run file → ¬ (IsGoodFor run file)

-- The run took the log and answered the whole input; the log's marks are right now.
pub record AnswersBehind (run : KeptRun) (t : Streams) (c : Change) : Type 0 where
  pub version : Version
  pub past : HubPast
  pub first : List ℕ
  pub taken : IsTakenFor run c.was version past first
  pub intact : IsIntact version c.now
  pub logged : HasLogged run.mode past first run.told c.was c.now t.left t.left' t.held t.held'

-- The run took the log and answered a part of the input. The log, as it is or as a crash leaves it,
-- has the lines from before and a prefix of those read, and begins as it did. If its marks were
-- right and the disk mixes torn writes, it isn't damaged.
pub record AnswersAFront (run : KeptRun) (t : Streams) (mixes : Type 0) (c : Change) : Type 0 where
  pub version : Version
  pub past : HubPast
  pub first : List ℕ
  pub taken : IsTakenFor run c.was version past first
  pub survives : SurvivesACrash run.mode past first run.told c.was (MayBe c) t.left t.left' t.held
      t.held'
  pub begins : Begins first c.was → (file : List ℕ) → MayBe c file → Begins first file
  pub intact : mixes → IsIntact version c.was → (file : List ℕ) → MayBe c file →
      IsIntact version file

-- The whole input was answered, and all of the log is synced.
pub record KeepsLines (run : KeptRun) (t : Streams) (faith : Type 0) (c : Change) : Type 0 where
  pub at_end : IsAtEnd t.left'
  pub answers : faith → AnswersBehind run t c
  pub durable : faith → Only c.now c.may_leave

-- A part of the input was answered, or nothing was done.
abbrev pub KeepsAFront : KeptRun → Streams → Type 0 → Type 0 → Change → Type 0
KeepsAFront run t mixes faith c =
    faith → (t.unread × t.unwritten × IsAsItWas c) ⊎ AnswersAFront run t mixes c

-- The line of a digest, or nothing.
abbrev pub digest_line : Option Digest → List ℕ
digest_line None = []
digest_line (Some digest) = codes "digest " ++ (utf8_lossy digest.text ++ 10 ∷ [])

-- The printed contents of a log: its first line, with U+FFFD for what isn't UTF-8, the number of
-- its lines, and its last digest.
abbrev pub log_text : List ℕ → ℕ → Option Digest → List ℕ
log_text first lines digest =
    codes "settings "
    ++ (utf8_lossy first ++ (10 ∷ codes "lines " ++ (decimal lines ++ (10 ∷ digest_line digest))))

-- A log of version 1 has no digest; one of version 2 has right marks and the digest of the last
-- one.
abbrev pub HasLastDigest : Version → List ℕ → Option Digest → Type 0
HasLastDigest One file digest = digest ≡ None
HasLastDigest Two file digest = (last : Digest) × (digest ≡ Some last) × IsSealedBy file last

-- The file is a log of a hub with right marks, and has fewer than 2^64 bytes.
pub record IsGoodLog (file : List ℕ) : Type 0 where
  pub version : Version
  pub mode : Mode
  pub settings : HubSettings
  pub first : List ℕ
  pub lines : AreFirstLines version mode settings first
  pub begins : Begins first file
  pub intact : IsIntact version file
  pub few : length file < 2 ^ 64

-- The log of this file has this first line, this number of lines and this last digest. The number
-- leaves out marks, the first line, and the lines of books if the first line is a log's.
pub record HasContents (file first : List ℕ) (lines : ℕ) (digest : Option Digest) : Type 0 where
  pub begins : HasFirst (recovered_lines file) first
  pub version : Version
  pub last : HasLastDigest version file digest
  pub books : ℕ
  pub says : (v : Version) (mode : Mode) (s : HubSettings) (origin : Origin) →
      IsHeaderLine v mode s origin first → (version ≡ v) × (books ≡ unwrap_or origin.books 0)
  pub count : lines ≡ length (said (recovered_lines file)) - 1 - books

-- The contents of the log were printed.
pub record TellsOfTheLog (file : List ℕ) (held held' : Option (List ℕ)) : Type 0 where
  pub first : List ℕ
  pub lines : ℕ
  pub digest : Option Digest
  pub has : HasContents file first lines digest
  pub told : Appends held held' (log_text first lines digest)

-- What the first line of the next log says of the log of this file: its last digest if a new chain
-- begins, and nothing otherwise.
abbrev pub IsPreviousOf : Bool → List ℕ → Option Digest → Type 0
IsPreviousOf false file previous = previous ≡ None
IsPreviousOf true file previous =
    (first : List ℕ) × (lines : ℕ) × HasContents file first lines previous

-- A log of these first lines was opened: as it is or as a crash leaves it, it has the same lines,
-- or if it had none, the first ones. If its marks were right and the disk mixes torn writes, it
-- isn't damaged.
pub record IsSpared (version : Version) (first : List ℕ) (mixes : Type 0) (c : Change) : Type 0
  where
    pub alike : (file : List ℕ) → MayBe c file → OpensAlike first c.was file
    pub stands : (file : List ℕ) → MayBe c file → IsSameOrBegun first c.was file
    pub intact : mixes → IsIntact version c.was → (file : List ℕ) → MayBe c file →
        IsIntact version file

-- Some hub takes the log of this file, which has the mark that is asked for.
pub record IsLogOfAHub (wanted : Option Digest) (file : List ℕ) : Type 0 where
  pub version : Version
  pub mode : Mode
  pub settings : HubSettings
  pub past : HubPast
  pub first : List ℕ
  pub begins : IsBeginning version mode settings past first
  pub taken : IsLogTaken version first None wanted file

-- The log of some hub was opened, and its lines are the same.
pub record IsSparedLog (mixes : Type 0) (c : Change) : Type 0 where
  pub wanted : Option Digest
  pub log : IsLogOfAHub wanted c.was
  pub spared : IsSpared log.version log.first mixes c

-- The log is unchanged; or it was opened, and at most its end was repaired or its first lines were
-- written.
abbrev pub IsSafe : Type 0 → Type 0 → Change → Type 0
IsSafe mixes faith c = faith → IsAsItWas c ⊎ IsSparedLog mixes c

-- The log began with these lines or was new. It begins with them now, followed by the lines that
-- followed them before. Its marks are right before and after, and all is synced.
pub record IsBegun (first : List ℕ) (c : Change) : Type 0 where
  pub taken : IsLogTaken Two first None None c.was
  pub lines : recovered_lines c.now ≡ recovered_lines first ++ lines_after_settings first c.was
  pub intact : IsIntact Two c.now
  pub durable : Only c.now c.may_leave

-- What a hub opens from: its mode, its settings, and the books of its participants by number.
pub record NextHub : Type 0 where
  pub mode : Mode
  pub settings : HubSettings
  pub journals : List History

-- The beginning of the log of such a hub, with the last digest of the log before it, if any.
abbrev pub lines_of_next : NextHub → Option Digest → List ℕ
lines_of_next hub previous = header_from Two hub.mode hub.settings hub.journals previous

-- The second hub opens where the first one would, after these changes of its settings, which leave
-- the base. Each participant has its number and its history; who joins has none.
pub record IsChanged (changes : SettingChanges) (old new : NextHub) : Type 0 where
  pub mode : new.mode ≡ old.mode
  pub settings : new.settings ≡ changed changes old.settings
  pub base : new.settings.base ≡ old.settings.base
  pub lawful : IsSettings new.settings × AreFormed changes
  pub codes : IsPrefix old.settings.codes new.settings.codes
  pub books : (p : ℕ) → books_of new.journals p ≡ books_of old.journals p
  pub can : CanOpenFrom new.settings new.journals

-- The new settings are the old ones with these changes. Their base is the one that is given, if any,
-- and it is after every time stamp of these books.
pub record AreRenewed (changes : SettingChanges) (old : HubSettings) (journals : List History)
    (new : HubSettings) : Type 0 where
  pub settings : new ≡ changed (record changes { base = Some new.base }) old
  pub given : IfSome changes.base (λ base. new.base ≡ base)
  pub after : IsBaseAfter old.base journals new.base
  pub lawful : IsSettings new × AreFormed changes

-- The second hub begins a new chain under these changes of the settings of the first one. No
-- transfer is pending, each code has the position that it had, and there is no other history.
pub record IsRenewed (changes : SettingChanges) (old new : NextHub) : Type 0 where
  pub mode : new.mode ≡ old.mode
  pub settings : AreRenewed changes old.settings old.journals new.settings
  pub positions : CarriesPositions old.settings old.journals new.settings new.journals
  pub can : CanOpenFrom new.settings new.journals

-- The second hub follows the first one: in a new chain, if this is asked for, or else with its
-- books.
abbrev pub IsSuccessor : Bool → SettingChanges → NextHub → NextHub → Type 0
IsSuccessor false changes old new = IsChanged changes old new
IsSuccessor true changes old new = IsRenewed changes old new

-- No hub follows with the books under these changes. Why no new chain can begin is only tested.
abbrev pub HasNoSuccessor : Bool → SettingChanges → NextHub → Type 0
HasNoSuccessor false changes old = (new : NextHub) → ¬ (IsChanged changes old new)
HasNoSuccessor true changes old = Unit {0}

-- The hub of this log was closed after all of its lines, which are the same; `next` is what it would
-- open from. The log's marks were right, if it has any, and it had the digest that was asked for.
pub record CarriesBooks (digest : Option (List ℕ)) (mixes : Type 0) (next : NextHub) (c : Change) :
    Type 0 where
  pub there : 0 < length (recovered_lines c.was)
  pub wanted : Option Digest
  pub asked : AsksFor digest wanted
  pub log : IsLogOfAHub wanted c.was
  pub stays : recovered_lines c.now ≡ recovered_lines log.first
      ++ lines_after_settings log.first c.was
  pub spared : IsSpared log.version log.first mixes c
  pub journals : List History
  pub books : AreBooksAfter log.mode log.past (lines_after_settings log.first c.was) journals
  pub next_is : next
      ≡ record {
        mode = log.mode;
        settings = (past_after log.mode log.past (lines_after_settings log.first c.was)).settings;
        journals = journals;
      }

-- The file is a log of a hub with right marks and the digest that is asked for.
pub record IsGoodToClose (wanted : Option Digest) (file : List ℕ) : Type 0 where
  pub version : Version
  pub mode : Mode
  pub settings : HubSettings
  pub first : List ℕ
  pub lines : AreFirstLines version mode settings first
  pub begins : Begins first file
  pub taken : IsLogTaken version first None wanted file

-- What `next` is asked for: the two logs, the digest that the first one must contain, if a new chain
-- begins, and the settings that change.
pub record NextAsked : Type 0 where
  pub from : List ℕ
  pub to : List ℕ
  pub digest : Option (List ℕ)
  pub positions : Bool
  pub changes : SettingChanges

-- What these options ask for.
abbrev pub next_asked : NextOptions → NextAsked
next_asked next = record {
  from = next.from.now;
  to = next.to.now;
  digest = option_map (λ d. d.now) next.digest;
  positions = next.positions;
  changes = next.changes;
}

-- The second log begins with the books of the hub of the first log, whose lines are the same, or
-- with its positions alone and the last digest of the first log, under the settings of the first log
-- with the changes.
pub record Carries (asked : NextAsked) (old new : Files) : Type 0 where
  pub apart : asked.from ≢ asked.to
  pub closed : NextHub
  pub carries : IfKept new
      (CarriesBooks asked.digest old.mixes closed (change_of old new asked.from))
  pub next : NextHub
  pub follows : IsSuccessor asked.positions asked.changes closed next
  pub previous : Option Digest
  pub before : IfKept new (IsPreviousOf asked.positions (new.bytes asked.from) previous)
  pub begun : IfKept new (IsBegun (lines_of_next next previous) (change_of old new asked.to))
  pub others : AllButTwoStay old new asked.from asked.to

-- Both logs are safe, and all other files are unchanged.
pub record SparesBoth (from to : List ℕ) (old new : Files) : Type 0 where
  pub from_is : IsSafe old.mixes (IsTrue new.is_clean) (change_of old new from)
  pub to_is : IsSafe old.mixes (IsTrue new.is_clean) (change_of old new to)
  pub others : AllButTwoStay old new from to

-- Why `next` is refused: the names are the same, another program may have a log open, the first log
-- can't be closed, its books don't allow what is asked for, as after the last opening that they can
-- have, or the second is another log.
pub data IsUncarried (asked : NextAsked) (old new : Files) : Type 0 where
  Same : asked.from ≡ asked.to → IsUncarried asked old new
  InUse : new.in_use asked.from ⊎ new.in_use asked.to → IsUncarried asked old new
  Bad : ((wanted : Option Digest) → AsksFor asked.digest wanted →
      IfKept new (¬ (IsGoodToClose wanted (old.bytes asked.from)))) → IsUncarried asked old new
  Unfit : (closed : NextHub) →
      IfKept new (CarriesBooks asked.digest old.mixes closed (change_of old new asked.from)) →
      HasNoSuccessor asked.positions asked.changes closed → IsUncarried asked old new
  Other : (closed next : NextHub) (previous : Option Digest) →
      IfKept new (CarriesBooks asked.digest old.mixes closed (change_of old new asked.from)) →
      IsSuccessor asked.positions asked.changes closed next →
      IfKept new (IsPreviousOf asked.positions (new.bytes asked.from) previous) →
      IfKept new (¬ (IsLogTaken Two (lines_of_next next previous) None None (old.bytes asked.to)))
      → IsUncarried asked old new
