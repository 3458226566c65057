-- How the one-kernel Unix begins.
use Rattle.std.specs.Prelude.{ℕ, ◌+◌, false, if◌then◌else◌, List, [], ◌∷◌, ◌++◌, length, replicate, nat_lt, Option, Some, None}
use Rattle.std.specs.Option.{is_some}
use Rattle.process_machine.specs.declared.program.Program.{Program}
use Rattle.process_machine.specs.Machine.{Machine}
use Rattle.process_machine.specs.Fresh.{fresh_machine}
use Rattle.unix_calls.specs.declared.description.Description.{Description}
use Rattle.unix_calls.specs.declared.description.ProgramLine.{ProgramLine}
use Rattle.unix_calls.specs.declared.description.StartLine.{StartLine}
use Rattle.unix_calls.specs.declared.description.FileLine.{FileLine}
use Rattle.unix_calls.specs.Tree.{same_path, Boot, Directory, FileNode, Named, node_at, with_name, above}
use Rattle.unix_calls.specs.State.{File, Process, Unix, put_process, next_pid, no_descriptors}
use Rattle.unix_calls.specs.Domains.{roots_of}
use Rattle.unix_calls.specs.Answers.{program_at}

-- the names with a directory, where nothing stands
abbrev pub with_directory : List (List ℕ) → List Named → List Named
with_directory path nodes =
    if is_some (node_at nodes path) then nodes else with_name (record { path = path; node = Directory }) nodes

-- the names with a directory at each part of the rest of a path
abbrev pub with_parts : List (List ℕ) → List (List ℕ) → List Named → List Named
with_parts done [] nodes = nodes
with_parts done (part ∷ rest) nodes = with_parts (done ++ part ∷ []) rest (with_directory (done ++ part ∷ []) nodes)

-- the names with a directory at the path and above it
abbrev pub with_directories : List (List ℕ) → List Named → List Named
with_directories path nodes = with_parts [] path nodes

-- a directory at each domain and above it
abbrev pub with_roots : List (List (List ℕ)) → List Named → List Named
with_roots [] nodes = nodes
with_roots (root ∷ roots) nodes = with_roots roots (with_directories root nodes)

-- what the files' lines make, those that begin at a place: the names and the files
pub record Filed : Type 0 where
  pub nodes : List Named
  pub files : List File

-- the bytes of all lines of a path, in file order
abbrev pub bytes_at : List FileLine → List (List ℕ) → List ℕ
bytes_at [] path = []
bytes_at (line ∷ lines) path = (if same_path line.path path then line.bytes else []) ++ bytes_at lines path

-- the line at a place makes a file of these bytes, with the directories above it
abbrev pub with_file_line : ℕ → List (List ℕ) → List ℕ → Filed → Filed
with_file_line place path bytes f =
    record {
      nodes = with_name (record { path = path; node = FileNode (Boot place) }) (with_directories (above path) f.nodes);
      files = f.files ++ record { name = Boot place; bytes = bytes } ∷ [];
    }

-- the lines one after another, from a place on: one that joins another's file makes none, and any other one a file with the
-- bytes of all lines of its path
abbrev pub filed : List FileLine → ℕ → List FileLine → Filed → Filed
filed all place [] f = f
filed all place (line ∷ lines) f =
    filed all (place + 1) lines (if line.append then f else with_file_line place line.path (bytes_at all line.path) f)

-- a process that has done nothing so far
abbrev pub new_process : ℕ → Machine → Process
new_process pid image =
    record {
      pid = pid;
      image = image;
      descriptors = no_descriptors;
      cwd = [];
      parent = None;
      calls = 0;
      asking = None;
      killed = false;
      ending = None;
      waited = false;
      console = [];
    }

-- the processes with the one that a start line makes
abbrev pub started_by : StartLine → List Process → Option Program → List Process
started_by line ps None = ps
started_by line ps (Some program) = put_process (new_process (next_pid ps line.host) (fresh_machine program line.arg)) ps

-- the processes that the start lines make, in their order
abbrev pub started : List ProgramLine → List Process → List StartLine → List Process
started programs ps [] = ps
started programs ps (line ∷ lines) = started programs (started_by line ps (program_at programs line.program)) lines

-- the most bytes that a file may have: 262,144, and 4,194,304 from version 2 of the cluster file on
abbrev pub limit_of : ℕ → ℕ
limit_of version = if nat_lt 1 version then 4194304 else 262144

-- the tree and the files at the start
abbrev pub first_files : Description → Filed
first_files c = filed c.files 0 c.files (record { nodes = with_roots (roots_of c.kernels) []; files = [] })

-- the state at the start
abbrev pub boot_of : Description → Unix
boot_of c =
    record {
      nodes = (first_files c).nodes;
      files = (first_files c).files;
      streams = [];
      processes = started c.programs [] c.starts;
      devices = [];
      ticks = replicate (length c.kernels) 0;
      roots = roots_of c.kernels;
      limit = limit_of c.version;
      entries = 0;
    }
