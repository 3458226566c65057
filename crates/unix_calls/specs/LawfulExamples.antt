-- Descriptions that are nearly lawful: each breaks one rule.
use Rattle.std.specs.Prelude.{ℕ, Bool, true, false, List, [], ◌∷◌, ◌++◌, codes}
use Rattle.process_machine.specs.declared.instruction.Operand.TheVariants.{Number}
use Rattle.process_machine.specs.declared.instruction.SyscallName.TheVariants as name
use Rattle.unix_calls.specs.declared.description.Description.{Description}
use Rattle.unix_calls.specs.declared.description.FileLine.{FileLine}
use Rattle.unix_calls.specs.Examples.{sys, program_of, cluster_with, kernels}
use Rattle.unix_calls.specs.ProcessExamples.{hello_cluster}

-- a line of a file
abbrev pub line_of : List ℕ → Bool → FileLine
line_of name append = record { path = name ∷ []; bytes = codes "ab"; append = append }

-- version 2, with these files
abbrev pub with_files : List FileLine → Description
with_files files = record hello_cluster { version = 2; files = files }

-- two lines of one file
abbrev pub joined_cluster : Description
joined_cluster = with_files (line_of (codes "f") false ∷ line_of (codes "f") true ∷ [])

-- the second line doesn't say that it joins the first
abbrev pub twice_cluster : Description
twice_cluster = with_files (line_of (codes "f") false ∷ line_of (codes "f") false ∷ [])

-- the first line joins a file that isn't there
abbrev pub nothing_joined_cluster : Description
nothing_joined_cluster = with_files (line_of (codes "f") true ∷ [])

-- lines join in version 1
abbrev pub old_joined_cluster : Description
old_joined_cluster = record joined_cluster { version = 1 }

-- a file stands below another one
abbrev pub below_cluster : Description
below_cluster =
    with_files (line_of (codes "f") false ∷ record { path = codes "f" ∷ codes "g" ∷ []; bytes = []; append = false } ∷ [])

-- no kernel serves `/`
abbrev pub rootless_cluster : Description
rootless_cluster = record hello_cluster { kernels = record { name = codes "c1"; serves = [] } ∷ [] }

-- two kernels have one name
abbrev pub two_names_cluster : Description
two_names_cluster = record hello_cluster { kernels = kernels ++ record { name = codes "c1"; serves = [] } ∷ [] }

-- two domains are one
abbrev pub two_domains_cluster : Description
two_domains_cluster = record hello_cluster { kernels = kernels ++ record { name = codes "s2"; serves = [] ∷ [] } ∷ [] }

-- a process starts on a server
abbrev pub started_on_server_cluster : Description
started_on_server_cluster = record hello_cluster { starts = record { host = 3; program = 1; arg = 0 } ∷ [] }

-- a process starts with a program that isn't there
abbrev pub unknown_program_cluster : Description
unknown_program_cluster = record hello_cluster { starts = record { host = 1; program = 2; arg = 0 } ∷ [] }

-- a program of version 1 has a call of version 2
abbrev pub rexec_cluster : Description
rexec_cluster = cluster_with (program_of [] (sys name.Rexec (Number 0 ∷ Number 1 ∷ Number 8 ∷ Number 2 ∷ []) ∷ []))
