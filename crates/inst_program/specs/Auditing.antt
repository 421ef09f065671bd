-- What an audit of logs says: each is a hub's log, and each but the first begins as `next` begins one
-- from the log before it. `bytes` are the files' bytes by name. A choice of this hub.
use Rattle.std.specs.Prelude.{◌≡◌, ◌+◌, ◌<◌, ◌++◌, ◌∷◌, [], ℕ, Bool, List, length, get_or, Option}
use Rattle.std.specs.Prelude.{None, Some, codes}
use Rattle.std.specs.Fmt.{decimal}
use Rattle.std.specs.List.{concat}
use Rattle.std.specs.Str.Lossy.{utf8_lossy}
use Rattle.std.specs.Io.KnownBytes.{Appends}
use Rattle.inst_chain.specs.declared.digest.Digest.{Digest}
use Rattle.inst_journal.specs.History.{History}
use Rattle.inst_log.specs.Opening.{lines_after_settings}
use Rattle.inst_logged.specs.Answering.{AreBooksAfter, past_after}
use Rattle.inst_logged.specs.Refused.{IsLogTaken}
use Rattle.inst_logged.specs.declared.version.Version.TheVariants.{Two}
use Rattle.inst_options.specs.declared.setting_changes.SettingChanges.{SettingChanges}
use Rattle.inst_program.specs.Keeping.{HasContents, IsLogOfAHub, IsPreviousOf, IsSuccessor, NextHub}
use Rattle.inst_program.specs.Keeping.{lines_of_next}

-- The file is the log of a hub, with right marks; the hub was closed after its lines, and this is
-- what it would open from.
pub record IsClosedAs (file : List ℕ) (closed : NextHub) : Type 0 where
  pub log : IsLogOfAHub None file
  pub journals : List History
  pub books : AreBooksAfter log.mode log.past (lines_after_settings log.first file) journals
  pub closed_is : closed
      ≡ record {
        mode = log.mode;
        settings = (past_after log.mode log.past (lines_after_settings log.first file)).settings;
        journals = journals;
      }

-- The log of the second file begins as `next` begins one from the log of the first one, with some
-- changes: with the same books, or as a new chain with the same positions and the first log's last
-- digest.
pub record IsNextLog (one other : List ℕ) : Type 0 where
  pub closed : NextHub
  pub closes : IsClosedAs one closed
  pub positions : Bool
  pub changes : SettingChanges
  pub next : NextHub
  pub follows : IsSuccessor positions changes closed next
  pub previous : Option Digest
  pub before : IsPreviousOf positions one previous
  pub taken : IsLogTaken Two (lines_of_next next previous) None None other

-- The end of a line: the log's last digest, if it has marks.
abbrev pub digest_part : Option Digest → List ℕ
digest_part None = []
digest_part (Some digest) = codes ", digest " ++ utf8_lossy digest.text

-- The line of a log: its name, the number of its lines without marks, settings and books, and its
-- last digest.
abbrev pub audit_line : List ℕ → ℕ → Option Digest → List ℕ
audit_line name lines digest =
    name ++ (codes ": lines " ++ (decimal lines ++ (digest_part digest ++ 10 ∷ [])))

-- The text is the line of this log, which a hub takes.
pub record IsAuditedAs (name file text : List ℕ) : Type 0 where
  pub closed : NextHub
  pub closes : IsClosedAs file closed
  pub first : List ℕ
  pub lines : ℕ
  pub digest : Option Digest
  pub has : HasContents file first lines digest
  pub is : text ≡ audit_line name lines digest

-- The file of the name at this place of the list.
abbrev pub file_at : (List ℕ → List ℕ) → List (List ℕ) → ℕ → List ℕ
file_at bytes names i = bytes (get_or names i [])

-- The text is one line for each of these logs, and each but the first follows the one before it.
pub record AreAudited (bytes : List ℕ → List ℕ) (names : List (List ℕ)) (text : List ℕ) :
    Type 0 where
  pub texts : List (List ℕ)
  pub one_each : length texts ≡ length names
  pub lines : (i : ℕ) → i < length names →
      IsAuditedAs (get_or names i []) (file_at bytes names i) (get_or texts i [])
  pub next : (i : ℕ) → i + 1 < length names →
      IsNextLog (file_at bytes names i) (file_at bytes names (i + 1))
  pub is : text ≡ concat texts

-- These lines were printed.
pub record HasAuditedAll (bytes : List ℕ → List ℕ) (names : List (List ℕ))
    (held held' : Option (List ℕ)) : Type 0 where
  pub text : List ℕ
  pub audited : AreAudited bytes names text
  pub told : Appends held held' text
