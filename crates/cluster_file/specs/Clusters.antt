-- The cluster that the bytes of a cluster file describe, or their refusal.
use Rattle.std.specs.Prelude.{codes, ◌≡◌, ◌⊎◌, ℕ, ◌++◌, if◌then◌else◌, List, [], length, nat_lt, Option, Some, None, Result, Ok, Err}
use Rattle.std.specs.Fmt.{decimal}
use Rattle.std.specs.Str.{is_utf8}
use Rattle.toml.specs.Data.{Members}
use Rattle.toml.specs.Parse.{parse_document}
use Rattle.link_plan.specs.declared.plan.PlanEntry.{PlanEntry}
use Rattle.process_machine.specs.declared.program.Program.{Program}
use Rattle.program_text.specs.Programs.{program_of, line_number}
use Rattle.unix_calls.specs.declared.description.Description.{Description}
use Rattle.unix_calls.specs.declared.description.KernelLine.{KernelLine}
use Rattle.unix_calls.specs.declared.description.ProgramLine.{ProgramLine}
use Rattle.unix_calls.specs.declared.description.FileLine.{FileLine}
use Rattle.unix_calls.specs.declared.description.EvictLine.{EvictLine}
use Rattle.cluster_file.specs.declared.refusal.Refusal.{Refusal}
use Rattle.cluster_file.specs.declared.refusal.FileEnd.{FileEnd}
use Rattle.cluster_file.specs.declared.refusal.FileEnd.TheVariants as end
use Rattle.cluster_file.specs.declared.rows.ProgramRow.{ProgramRow}
use Rattle.cluster_file.specs.declared.rows.Rows.{Rows}
use Rattle.cluster_file.specs.declared.hosts.Started.{Started}
use Rattle.cluster_file.specs.declared.keys.Section.TheVariants as section
use Rattle.cluster_file.specs.declared.fault.Fault.TheVariants.{UnknownKey, MissingKey, WrongType}
use Rattle.cluster_file.specs.Refusals.{refusal, element_place, else_first, unless, and_then, read_all}
use Rattle.cluster_file.specs.Faults.{document_fault}
use Rattle.cluster_file.specs.Rows.{read_rows}
use Rattle.cluster_file.specs.Names.{duplicate, no_root, all_started, plan_entries, evict_lines, start_lines}
use Rattle.cluster_file.specs.Paths.{kernel_lines, file_lines}

-- how the place of a bad line of a program is printed
abbrev pub line_place : ℕ → ℕ → List ℕ
line_place number line = element_place section.Program number ++ codes " line " ++ decimal line

-- the program of a row, or the refusal for its first bad line
abbrev pub assembled : ProgramRow → Result Program ℕ → Result ProgramLine Refusal
assembled row (Ok program) = Ok (record { name = row.name; program = record program { number = row.number } })
assembled row (Err line) = Err (refusal 11 (line_place row.number (line_number line)))

abbrev pub program_line : ℕ → List ProgramLine → ProgramRow → Result ProgramLine Refusal
program_line version earlier row = assembled row (program_of version row.text)

abbrev pub program_lines : ℕ → List ProgramRow → Result (List ProgramLine) Refusal
program_lines version rows = read_all (program_line version) rows

-- the cluster of these rows, once all but its programs is known
abbrev pub with_programs : Rows → List Started → List PlanEntry → List EvictLine → List KernelLine → List FileLine → Result Description Refusal
with_programs rows starts entries evicts kernels files =
    and_then (λ programs.
    and_then (λ lines.
    Ok (record {
      version = rows.version;
      budget = rows.budget;
      cache = rows.cache;
      kernels = kernels;
      programs = programs;
      starts = lines;
      files = files;
      plan = record { entries = entries };
      evicts = evicts;
    }))
    (start_lines rows.programs starts))
    (program_lines rows.version rows.programs)

-- the same, once the hosts and the ends of faults are known
abbrev pub with_paths : Rows → List Started → List PlanEntry → List EvictLine → Result Description Refusal
with_paths rows starts entries evicts =
    and_then (λ kernels.
    and_then (λ files.
    with_programs rows starts entries evicts kernels files)
    (file_lines kernels rows.files))
    (kernel_lines rows.kernels)

abbrev pub with_hosts : Rows → Result Description Refusal
with_hosts rows =
    and_then (λ starts.
    and_then (λ entries.
    and_then (λ evicts.
    with_paths rows starts entries evicts)
    (evict_lines rows))
    (plan_entries rows))
    (all_started rows)

-- the cluster of these rows, or their first refusal: first for names, then for hosts, paths, programs and starts
abbrev pub cluster_of : Rows → Result Description Refusal
cluster_of rows = unless (else_first (duplicate rows) (no_root rows)) (with_hosts rows)

-- the first refusal of a document for its keys
abbrev pub form_fault : Members → Option Refusal
form_fault document =
    else_first (document_fault UnknownKey document) (else_first (document_fault MissingKey document) (document_fault WrongType document))

-- the cluster that a document describes, or its refusal
abbrev pub described : Members → Result Description Refusal
described document = unless (form_fault document) (and_then cluster_of (read_rows document))

-- the document that the bytes are
abbrev pub document_of : List ℕ → Option Members
document_of bytes = if is_utf8 bytes then parse_document bytes else None

abbrev pub described_in : Option Members → Result Description Refusal
described_in None = Err (refusal 2 [])
described_in (Some document) = described document

-- the cluster that the bytes describe, or their refusal; more than 1,048,576 bytes are refused
abbrev pub judged : List ℕ → Result Description Refusal
judged bytes = if nat_lt 1048576 (length bytes) then Err (refusal 1 []) else described_in (document_of bytes)

-- these bytes describe this cluster
abbrev pub Describes : List ℕ → Description → Type 0
Describes bytes c = judged bytes ≡ Ok c

-- these bytes have this refusal
abbrev pub Refuses : List ℕ → Refusal → Type 0
Refuses bytes r = judged bytes ≡ Err r

-- the error is the refusal of these bytes; want of memory says nothing of them
abbrev pub GivesRefusal : List ℕ → FileEnd → Type 0
GivesRefusal bytes (end.Refused r) = Refuses bytes r
GivesRefusal bytes end.NoMemory = Unit {0}

-- all bytes describe a cluster or have a refusal
abbrev pub EachIsRead : Type 0
EachIsRead = (bytes : List ℕ) → ((c : Description) × Describes bytes c) ⊎ ((r : Refusal) × Refuses bytes r)

-- and only one cluster, or one refusal
pub record IsReadOnce (bytes : List ℕ) : Type 0 where
  pub one_cluster : (a b : Description) → Describes bytes a → Describes bytes b → a ≡ b
  pub one_refusal : (r s : Refusal) → Refuses bytes r → Refuses bytes s → r ≡ s
  pub not_both : (c : Description) (r : Refusal) → Describes bytes c → Refuses bytes r → ⊥

abbrev pub EachIsReadOnce : Type 0
EachIsReadOnce = (bytes : List ℕ) → IsReadOnce bytes
