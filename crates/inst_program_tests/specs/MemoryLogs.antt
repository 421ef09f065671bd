-- Two files in memory, named `a` and `b`.
use Rattle.std.specs.Prelude.{◌≡◌, ℕ, true, cond, List, [], Option, Some, None, IsTrue, IfSome}
use Rattle.std.specs.Prelude.{option_map, bytes_eq, codes}
use Rattle.std.specs.Option.{option_map_or}
use Rattle.sqlite_disk.specs.Disk.{Only}
use Rattle.sqlite_disk.specs.declared.Disk.{Ghosts}
use Rattle.sqlite_disk.specs.declared.fuse.Fuse.{Fuse}
use Rattle.sqlite_disk.specs.declared.memory.Memory.{Memory}
use Rattle.inst_program.specs.Files.{Files}
use Rattle.inst_program_tests.specs.declared.memory_logs.MemoryFile.{MemoryFile}
use Rattle.inst_program_tests.specs.declared.memory_logs.Which.{Which}
use Rattle.inst_program_tests.specs.declared.memory_logs.Which.TheVariants.{First, Second}

-- The file of this name, if it is `a` or `b`.
abbrev pub which_of : List ℕ → Option Which
which_of name =
    cond (bytes_eq name (codes "a")) (Some First)
    (cond (bytes_eq name (codes "b")) (Some Second) None)

-- The name of a file.
abbrev pub log_name : Which → List ℕ
log_name First = codes "a"
log_name Second = codes "b"

-- Chooses one of the two files.
abbrev pub file_at : MemoryFile → MemoryFile → Which → MemoryFile
file_at first second First = first
file_at first second Second = second

-- The contents of the files by name: a file has the bytes of its disk, and any other name has none.
abbrev pub memory_files : Ghosts (Fuse Memory) → MemoryFile → MemoryFile → Option Which → Files
memory_files disks first second out =
    let file_of : List ℕ → Option MemoryFile =
    λ name. option_map (file_at first second) (which_of name) in
    record {
      bytes = λ name. option_map_or (λ file. disks.seen file.disk) (file_of name) [];
      may_leave = λ name left. IfSome (file_of name) (λ file. disks.may_leave file.disk left);
      out = option_map log_name out;
      mixes = (log : Fuse Memory) → IsTrue (disks.is_mixing log);
      in_use = λ name. ⊥;
      is_clean = true;
    }

-- A disk has these bytes, and a crash can't leave any others.
pub record IsCopy {D : Type 0} (disks : Ghosts D) (bytes : List ℕ) (log : D) : Type 0 where
  pub usable : IsTrue (disks.is_usable log)
  pub same : disks.seen log ≡ bytes
  pub on_disk : Only (disks.seen log) (disks.may_leave log)
