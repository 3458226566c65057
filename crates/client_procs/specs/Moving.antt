-- Calls by which a process begins a program, or goes to another kernel.
use Rattle.std.specs.Prelude.{ℕ, ◌+◌, ◌==◌, nat_le, nat_eq, Bool, if◌then◌else◌, List, Option, Some, None}
use Rattle.std.specs.List.{position}
use Rattle.std.specs.Cmp.Lexicographic.{pointwise}
use Rattle.sprite_ids.specs.declared.Errno.TheVariants as errnos
use Rattle.process_machine.specs.declared.Reply.TheVariants.{Error}
use Rattle.unix_calls.specs.declared.About.{About}
use Rattle.unix_calls.specs.declared.KernelLine.{KernelLine}
use Rattle.client_homes.specs.declared.ClientProcs.{ClientProcs}
use Rattle.client_homes.specs.Says.{value}
use Rattle.client_homes.specs.Clusters.{is_client}
use Rattle.client_homes.specs.Procs.{answers_here, enters_own, replies}
use Rattle.client_moves.specs.Carrying.{holds_master}
use Rattle.client_moves.specs.Freezing.{freezes}
use Rattle.client_procs.specs.Launching.{begins_program, program_named}

-- the process begins a program here
abbrev pub begins_here : About → ℕ → ℕ → ClientProcs → ClientProcs
begins_here about program arg s = replies about.pid (value 0 0) (begins_program about.pid program arg (enters_own about.pid (value 0 0) s))

abbrev pub execs_as : About → ℕ → Option ℕ → ClientProcs → ClientProcs
execs_as about arg (Some program) s = begins_here about program arg s
execs_as about arg None s = answers_here about.pid (Error errnos.NoEntry) s

-- exec
abbrev pub execs : About → List ℕ → ℕ → ClientProcs → ClientProcs
execs about name arg s = execs_as about arg (program_named s.programs name) s

-- whether the kernel has that name
abbrev pub is_kernel : List ℕ → KernelLine → Bool
is_kernel name line = pointwise nat_eq line.name name

-- the kernel at that place, of at most 16
abbrev pub kernel_at : ℕ → Option ℕ
kernel_at place = if nat_le 16 place then None else Some (place + 1)

abbrev pub kernel_if : Option ℕ → Option ℕ
kernel_if (Some place) = kernel_at place
kernel_if None = None

abbrev pub kernel_named : List KernelLine → List ℕ → Option ℕ
kernel_named kernels name = kernel_if (position (is_kernel name) kernels)

-- the client of that name
abbrev pub client_if : List KernelLine → Option ℕ → Option ℕ
client_if kernels (Some kernel) = if is_client kernels kernel then Some kernel else None
client_if kernels None = None

abbrev pub client_named : List KernelLine → List ℕ → Option ℕ
client_named kernels name = client_if kernels (kernel_named kernels name)

-- it is there already
abbrev pub stays : About → Option ℕ → ClientProcs → ClientProcs
stays about (Some program) s = begins_here about program 0 s
stays about None s = answers_here about.pid (value 0 0) s

-- it goes to that kernel, unless it holds a master's end
abbrev pub goes_to : About → ℕ → Option ℕ → ClientProcs → ClientProcs
goes_to about to program s =
    if holds_master about.pid s then answers_here about.pid (Error errnos.Busy) s
    else if to == s.kernel then stays about program s
    else freezes about.pid (record { to = to; about = Some about; program = program }) s

abbrev pub goes_if : About → Option ℕ → Option ℕ → ClientProcs → ClientProcs
goes_if about program (Some to) s = goes_to about to program s
goes_if about program None s = answers_here about.pid (Error errnos.BadHost) s

abbrev pub moves_to_host : About → List ℕ → Option ℕ → ClientProcs → ClientProcs
moves_to_host about host program s = goes_if about program (client_named s.kernels host) s

-- migrate
abbrev pub migrates : About → List ℕ → ClientProcs → ClientProcs
migrates about name s = moves_to_host about name None s

-- rexec
abbrev pub rexecs_as : About → List ℕ → Option ℕ → ClientProcs → ClientProcs
rexecs_as about host (Some program) s = moves_to_host about host (Some program) s
rexecs_as about host None s = answers_here about.pid (Error errnos.NoEntry) s

abbrev pub rexecs : About → List ℕ → List ℕ → ClientProcs → ClientProcs
rexecs about name host s = rexecs_as about host (program_named s.programs name) s
