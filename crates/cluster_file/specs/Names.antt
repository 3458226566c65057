-- The names in the rows of a document: names and domains that stand twice, and names that name something.
use Rattle.std.specs.Prelude.{codes, ℕ, ◌+◌, ◌++◌, ◌==◌, ◌&&◌, ◌||◌, Bool, false, if◌then◌else◌, List, [], ◌∷◌, length, Option, Some, None, Result, Ok}
use Rattle.std.specs.Option.{option_map}
use Rattle.std.specs.List.{list_any}
use Rattle.link_plan.specs.declared.plan.PlanEntry.{PlanEntry}
use Rattle.unix_calls.specs.declared.description.StartLine.{StartLine}
use Rattle.unix_calls.specs.declared.description.EvictLine.{EvictLine}
use Rattle.unix_calls.specs.Same.{same_text}
use Rattle.cluster_file.specs.declared.refusal.Refusal.{Refusal}
use Rattle.cluster_file.specs.declared.rows.KernelRow.{KernelRow}
use Rattle.cluster_file.specs.declared.rows.ProgramRow.{ProgramRow}
use Rattle.cluster_file.specs.declared.rows.StartRow.{StartRow}
use Rattle.cluster_file.specs.declared.rows.LinkRow.{LinkRow}
use Rattle.cluster_file.specs.declared.rows.EvictRow.{EvictRow}
use Rattle.cluster_file.specs.declared.rows.Rows.{Rows}
use Rattle.cluster_file.specs.declared.hosts.Started.{Started}
use Rattle.cluster_file.specs.declared.keys.KeyName.TheVariants as name
use Rattle.cluster_file.specs.declared.keys.Section.TheVariants.{Kernel, Program, Start, Link, Evict}
use Rattle.cluster_file.specs.Refusals.{refusal, element_place, refused_at, else_first, read_all}

-- whether one of some kernels, or of some programs, has the name
abbrev pub is_kernel : List ℕ → List KernelRow → Bool
is_kernel text rows = list_any (λ (row : KernelRow). same_text row.name text) rows

abbrev pub is_program : List ℕ → List ProgramRow → Bool
is_program text rows = list_any (λ (row : ProgramRow). same_text row.name text) rows

-- whether one of some texts is this one
abbrev pub is_one_of : List ℕ → List (List ℕ) → Bool
is_one_of text texts = list_any (λ other. same_text other text) texts

-- whether one of some kernels serves the path, as it is spelled
abbrev pub is_served : List ℕ → List KernelRow → Bool
is_served path rows = list_any (λ (row : KernelRow). is_one_of path row.serves) rows

-- whether one of some paths stands behind another that is the same, or is served by one of some kernels
abbrev pub serves_again : List KernelRow → List (List ℕ) → Bool
serves_again earlier [] = false
serves_again earlier (path ∷ paths) = is_served path earlier || is_one_of path paths || serves_again earlier paths

-- whether a kernel has an earlier one's name, or serves a path that stands earlier
abbrev pub kernel_again : List KernelRow → KernelRow → Bool
kernel_again earlier row = is_kernel row.name earlier || serves_again earlier row.serves

abbrev pub program_again : List ProgramRow → ProgramRow → Bool
program_again earlier row = is_program row.name earlier

-- the number of the first that stands again, behind the earlier ones
abbrev pub first_again : {A : Type 0} → (List A → A → Bool) → List A → List A → Option ℕ
first_again again earlier [] = None
first_again again earlier (x ∷ xs) = if again earlier x then Some (length earlier + 1) else first_again again (earlier ++ x ∷ []) xs

-- the refusal for a name or a domain that stands twice
abbrev pub duplicate : Rows → Option Refusal
duplicate rows =
    else_first
    (option_map (λ number. refusal 7 (element_place Kernel number)) (first_again kernel_again [] rows.kernels))
    (option_map (λ number. refusal 7 (element_place Program number)) (first_again program_again [] rows.programs))

-- the refusal where no kernel serves `/`
abbrev pub no_root : Rows → Option Refusal
no_root rows = if is_served (codes "/") rows.kernels then None else Some (refusal 8 [])

-- the kernel, and the client, of that name
abbrev pub kernel_named : List ℕ → List KernelRow → Option ℕ
kernel_named text [] = None
kernel_named text (row ∷ rows) = if same_text row.name text then Some row.kernel else kernel_named text rows

abbrev pub client_named : List ℕ → List KernelRow → Option ℕ
client_named text [] = None
client_named text (row ∷ rows) = if length row.serves == 0 && same_text row.name text then Some row.kernel else client_named text rows

-- the program of that name
abbrev pub program_named : List ℕ → List ProgramRow → Option ℕ
program_named text [] = None
program_named text (row ∷ rows) = if same_text row.name text then Some row.number else program_named text rows

-- a start whose host is known
abbrev pub started_on : List Started → StartRow → Option ℕ → Result Started Refusal
started_on earlier row None = refused_at 9 Start earlier name.Host
started_on earlier row (Some host) = Ok (record { host = host; program = row.program; arg = row.arg })

abbrev pub hosted_start : List KernelRow → List Started → StartRow → Result Started Refusal
hosted_start kernels earlier row = started_on earlier row (client_named row.host kernels)

-- an end of a fault: any kernel, or the one of that name
abbrev pub end_named : List ℕ → List KernelRow → Option (Option ℕ)
end_named text kernels = if same_text text (codes "*") then Some None else option_map Some (kernel_named text kernels)

abbrev pub fault_to : List PlanEntry → LinkRow → Option ℕ → Option (Option ℕ) → Result PlanEntry Refusal
fault_to earlier row from None = refused_at 9 Link earlier name.To
fault_to earlier row from (Some to) =
    Ok (record { from = from; to = to; first = row.first; every = row.every; count = row.count; fate = row.fate })

abbrev pub fault_from : List KernelRow → List PlanEntry → LinkRow → Option (Option ℕ) → Result PlanEntry Refusal
fault_from kernels earlier row None = refused_at 9 Link earlier name.From
fault_from kernels earlier row (Some from) = fault_to earlier row from (end_named row.to kernels)

abbrev pub plan_entry : List KernelRow → List PlanEntry → LinkRow → Result PlanEntry Refusal
plan_entry kernels earlier row = fault_from kernels earlier row (end_named row.from kernels)

-- an eviction whose host is known
abbrev pub evicted : List EvictLine → EvictRow → Option ℕ → Result EvictLine Refusal
evicted earlier row None = refused_at 9 Evict earlier name.Host
evicted earlier row (Some host) = Ok (record { host = host; after = row.after })

abbrev pub evict_line : List KernelRow → List EvictLine → EvictRow → Result EvictLine Refusal
evict_line kernels earlier row = evicted earlier row (client_named row.host kernels)

-- a start whose program is known
abbrev pub starts_program : List StartLine → Started → Option ℕ → Result StartLine Refusal
starts_program earlier start None = refused_at 12 Start earlier name.Program
starts_program earlier start (Some program) = Ok (record { host = start.host; program = program; arg = start.arg })

abbrev pub start_line : List ProgramRow → List StartLine → Started → Result StartLine Refusal
start_line programs earlier start = starts_program earlier start (program_named start.program programs)

-- all starts with their hosts, all faults, all evictions, and all starts with their programs
abbrev pub all_started : Rows → Result (List Started) Refusal
all_started rows = read_all (hosted_start rows.kernels) rows.starts

abbrev pub plan_entries : Rows → Result (List PlanEntry) Refusal
plan_entries rows = read_all (plan_entry rows.kernels) rows.links

abbrev pub evict_lines : Rows → Result (List EvictLine) Refusal
evict_lines rows = read_all (evict_line rows.kernels) rows.evicts

abbrev pub start_lines : List ProgramRow → List Started → Result (List StartLine) Refusal
start_lines programs starts = read_all (start_line programs) starts
