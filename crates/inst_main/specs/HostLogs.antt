-- The files of the machine, by the disks of the logs that were closed. A choice of this hub.
use Rattle.std.specs.Prelude.{◌≡◌, ℕ, Bool, ◌&&◌, List, [], Option, IsTrue, IfSome, option_map}
use Rattle.std.specs.Prelude.{bytes_eq, string_bytes}
use Rattle.std.specs.Option.{option_map_or}
use Rattle.std.specs.List.{find, list_all}
use Rattle.sqlite_disk.specs.Disk.{Only}
use Rattle.sqlite_disk.specs.declared.Disk.{Ghosts}
use Rattle.inst_main.specs.declared.host_logs.ClosedLog.{ClosedLog}
use Rattle.inst_program.specs.Files.{Files}

-- The disk of the log of this name that was closed last.
abbrev pub last_closed : {D : Type 0} → List (ClosedLog D) → List ℕ → Option D
last_closed closed name =
    option_map (λ one. one.log) (find (λ one. bytes_eq (string_bytes one.name) name) closed)

-- A file has what the disk of its log had when that was closed. A file of which no log was closed
-- has no bytes, and a crash may leave anything of it.
abbrev pub host_files : {D : Type 0} → Ghosts D → List (ClosedLog D) → Option (List ℕ) → Bool →
    Files
host_files {D} disks closed out is_known =
    record {
      bytes = λ name. option_map_or disks.seen (last_closed closed name) [];
      may_leave = λ name file. IfSome (last_closed closed name) (λ log. disks.may_leave log file);
      out = out;
      mixes = (log : D) → IsTrue (disks.is_mixing log);
      in_use = λ name. Unit {0};
      is_clean = is_known && list_all (λ one. disks.is_clean one.log) closed;
    }

-- A file that was just opened, whose bytes are unknown and count as none: reads return what is on
-- the disk.
pub record IsFileAsOpened {D : Type 0} (disks : Ghosts D) (log : D) : Type 0 where
  pub usable : IsTrue (disks.is_usable log)
  pub empty : disks.seen log ≡ []
  pub on_disk : Only (disks.seen log) (disks.may_leave log)
