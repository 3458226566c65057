-- A client kernel when the cluster begins.
use Rattle.std.specs.Prelude.{ℕ, ◌+◌, ◌*◌, ◌==◌, nat_lt, Bool, not, if◌then◌else◌, List, [], ◌∷◌, ◌++◌, length, Option, Some, None}
use Rattle.std.specs.BTreeMap.{insert_entry}
use Rattle.std.specs.List.{list_any, position}
use Rattle.std.specs.Ordering.{nat_cmp}
use Rattle.process_machine.specs.Machine.{Machine}
use Rattle.unix_calls.specs.declared.Description.{Description}
use Rattle.unix_calls.specs.declared.EvictLine.{EvictLine}
use Rattle.unix_calls.specs.declared.KernelLine.{KernelLine}
use Rattle.unix_calls.specs.declared.ProgramLine.{ProgramLine}
use Rattle.unix_calls.specs.declared.StartLine.{StartLine}
use Rattle.home_table.specs.Home as homes
use Rattle.client_file_tables.specs.declared.ClientFiles.{ClientFiles}
use Rattle.client_file_tables.specs.Boot as files
use Rattle.client_homes.specs.declared.ClientProcs.{ClientProcs}
use Rattle.client_homes.specs.Births.{child_of}
use Rattle.client_procs.specs.declared.booting.Begun.{Begun}
use Rattle.client_procs.specs.Launching.{fresh_image}
use Rattle.client_procs.specs.Moving.{kernel_if}

-- at which calls the kernel's foreign processes are to leave
abbrev pub evicts_at : ℕ → List EvictLine → List ℕ
evicts_at kernel [] = []
evicts_at kernel (line ∷ lines) = if line.host == kernel then line.after ∷ evicts_at kernel lines else evicts_at kernel lines

-- whether the kernel serves the root
abbrev pub is_root : List (List ℕ) → Bool
is_root path = length path == 0

abbrev pub serves_root : KernelLine → Bool
serves_root line = list_any is_root line.serves

abbrev pub root_server : List KernelLine → Option ℕ
root_server kernels = kernel_if (position serves_root kernels)

-- the server of the root; the kernel itself where there is none
abbrev pub or_itself : ℕ → Option ℕ → ℕ
or_itself kernel (Some server) = server
or_itself kernel None = kernel

abbrev pub swap_server : List KernelLine → ℕ → ℕ
swap_server kernels kernel = or_itself kernel (root_server kernels)

-- no process yet
abbrev pub nothing_begun : ℕ → Begun
nothing_begun kernel = record { home = record { home = kernel; births = []; ticks = 0 }; procs = []; cwds = [] }

-- the process is here
abbrev pub puts_first : ℕ → Machine → Begun → Begun
puts_first pid image b = record b { procs = insert_entry nat_cmp b.procs pid (child_of image); cwds = b.cwds ++ (pid, []) ∷ [] }

-- the next process of this home begins with that image
abbrev pub bears_first : Machine → Begun → Begun
bears_first image b =
    if nat_lt (length b.home.births) 200
    then puts_first (1000 * b.home.home + length b.home.births + 1) image (record b { home = homes.born b.home None })
    else b

abbrev pub bears_if : Option Machine → Begun → Begun
bears_if (Some image) b = bears_first image b
bears_if None b = b

-- a line starts a process, where it is this kernel's
abbrev pub starts_line : List ProgramLine → StartLine → Begun → Begun
starts_line programs line b = if not (line.host == b.home.home) then b else bears_if (fresh_image programs line.program line.arg) b

abbrev pub starts_all : List ProgramLine → List StartLine → Begun → Begun
starts_all programs [] b = b
starts_all programs (line ∷ lines) b = starts_all programs lines (starts_line programs line b)

-- the kernel's processes
abbrev pub begun_at : ℕ → Description → Begun
begun_at kernel d = starts_all d.programs d.starts (nothing_begun kernel)

-- the files' side, with these working directories
abbrev pub boots_with : List (ℕ × List (List ℕ)) → Description → ℕ → ClientFiles
boots_with cwds d kernel = record (files.boots d kernel) { cwds = cwds }

-- the kernel with these processes
abbrev pub begins_with : Begun → Description → ℕ → ClientProcs
begins_with b d kernel =
    record {
      kernel = kernel;
      kernels = d.kernels;
      programs = d.programs;
      swap_server = swap_server d.kernels kernel;
      files = boots_with b.cwds d kernel;
      home = b.home;
      procs = b.procs;
      leaving = [];
      devices = [];
      getters = [];
      asked = [];
      making = [];
      next_device = 1;
      waits = [];
      kills = [];
      forks = [];
      early = [];
      unfinished = [];
      issues = 0;
      evicts = evicts_at kernel d.evicts;
    }

-- the kernel when the cluster begins
abbrev pub boots : Description → ℕ → ClientProcs
boots d kernel = begins_with (begun_at kernel d) d kernel
