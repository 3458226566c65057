-- The nodes and the processes at the start.
use Rattle.std.proofs.Common.{ℕ, ◌+◌, Bool, true, false, cond, List, [], ◌∷◌, ◌++◌, Option, Some, None}
use Rattle.std.specs.List.{AllByRecursion}
use Rattle.std.specs.Option.{is_some}
use Rattle.process_machine.specs.declared.program.Program.{Program}
use Rattle.process_machine.specs.Fresh.{fresh_machine}
use Rattle.process_machine.specs.Machine.{Machine}
use Rattle.unix_calls.specs.declared.Description.{Description}
use Rattle.unix_calls.specs.declared.FileLine.{FileLine}
use Rattle.unix_calls.specs.declared.ProgramLine.{ProgramLine}
use Rattle.unix_calls.specs.declared.StartLine.{StartLine}
use Rattle.unix_calls.specs.declared.state.FileName.TheVariants.{Boot}
use Rattle.unix_calls.specs.declared.state.Named.{Named}
use Rattle.unix_calls.specs.declared.state.Node.TheVariants.{Directory, FileNode}
use Rattle.unix_calls.specs.declared.state.Process.{Process}
use Rattle.unix_calls.specs.Tree.{above, node_at, with_name}
use Rattle.unix_calls.specs.State.{next_pid}
use Rattle.unix_calls.specs.Domains.{roots_of}
use Rattle.unix_calls.specs.Answers.{program_at}
use Rattle.unix_calls.specs.Boot.{Filed, boot_of, bytes_at, filed, new_process, started, started_by, with_directories, with_directory, with_file_line, with_parts, with_roots}
use Rattle.unix_calls.proofs.ProcessLaws.{each_put}
use Rattle.unix_laws.proofs.SpreadLaws.{each_named}

-- ---- the nodes

directory_each : (P : Named → Type 0) → ((path : List (List ℕ)) → P (record { path = path; node = Directory })) → (path : List (List ℕ)) (nodes : List Named) → AllByRecursion P nodes → AllByRecursion P (with_directory path nodes)
directory_each P own path nodes h = by (is_some (node_at nodes path))
  where
    by : (b : Bool) → AllByRecursion P (cond b nodes (with_name (record { path = path; node = Directory }) nodes))
    by true = h
    by false = each_named P (record { path = path; node = Directory }) nodes (own path) h

parts_each : (P : Named → Type 0) → ((path : List (List ℕ)) → P (record { path = path; node = Directory })) → (done rest : List (List ℕ)) (nodes : List Named) → AllByRecursion P nodes → AllByRecursion P (with_parts done rest nodes)
parts_each P own done [] nodes h = h
parts_each P own done (part ∷ rest) nodes h = parts_each P own (done ++ part ∷ []) rest (with_directory (done ++ part ∷ []) nodes) (directory_each P own (done ++ part ∷ []) nodes h)

-- directories alone are put
pub directories_each : (P : Named → Type 0) → ((path : List (List ℕ)) → P (record { path = path; node = Directory })) → (path : List (List ℕ)) (nodes : List Named) → AllByRecursion P nodes → AllByRecursion P (with_directories path nodes)
directories_each P own path nodes h = parts_each P own [] path nodes h

pub roots_each : (P : Named → Type 0) → ((path : List (List ℕ)) → P (record { path = path; node = Directory })) → (roots : List (List (List ℕ))) (nodes : List Named) → AllByRecursion P nodes → AllByRecursion P (with_roots roots nodes)
roots_each P own [] nodes h = h
roots_each P own (root ∷ roots) nodes h = roots_each P own roots (with_directories root nodes) (directories_each P own root nodes h)

filed_each : (P : Named → Type 0) → ((path : List (List ℕ)) → P (record { path = path; node = Directory })) → ((path : List (List ℕ)) (i : ℕ) → P (record { path = path; node = FileNode (Boot i) })) → (all : List FileLine) (place : ℕ) (lines : List FileLine) (f : Filed) → AllByRecursion P f.nodes → AllByRecursion P (filed all place lines f).nodes
filed_each P own file all place [] f h = h
filed_each P own file all place (line ∷ lines) f h = filed_each P own file all (place + 1) lines (cond line.append f (with_file_line place line.path (bytes_at all line.path) f)) (by line.append)
  where
    by : (b : Bool) → AllByRecursion P (cond b f (with_file_line place line.path (bytes_at all line.path) f)).nodes
    by true = h
    by false = each_named P (record { path = line.path; node = FileNode (Boot place) }) (with_directories (above line.path) f.nodes) (file line.path place) (directories_each P own (above line.path) f.nodes h)

-- directories and the files of lines are all that the start has
pub boot_each : (P : Named → Type 0) → ((path : List (List ℕ)) → P (record { path = path; node = Directory })) → ((path : List (List ℕ)) (i : ℕ) → P (record { path = path; node = FileNode (Boot i) })) → (c : Description) → AllByRecursion P (boot_of c).nodes
boot_each P own file c = filed_each P own file c.files 0 c.files (record { nodes = with_roots (roots_of c.kernels) []; files = [] }) (roots_each P own (roots_of c.kernels) [] tt)

-- ---- the processes

pub started_each : (P : Process → Type 0) → ((pid : ℕ) (m : Machine) → P (new_process pid m)) → (programs : List ProgramLine) (ps : List Process) (lines : List StartLine) → AllByRecursion P ps → AllByRecursion P (started programs ps lines)
started_each P new programs ps [] h = h
started_each P new programs ps (line ∷ lines) h = started_each P new programs (started_by line ps (program_at programs line.program)) lines (by (program_at programs line.program))
  where
    by : (found : Option Program) → AllByRecursion P (started_by line ps found)
    by None = h
    by (Some program) = each_put P (new_process (next_pid ps line.host) (fresh_machine program line.arg)) ps (new (next_pid ps line.host) (fresh_machine program line.arg)) h

pub boot_processes : (P : Process → Type 0) → ((pid : ℕ) (m : Machine) → P (new_process pid m)) → (c : Description) → AllByRecursion P (boot_of c).processes
boot_processes P new c = started_each P new c.programs [] c.starts tt
