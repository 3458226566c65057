-- Small histories of several domains, of joined files, and of a program that begins elsewhere.
use Rattle.std.specs.Prelude.{List, [], ◌∷◌, true, false, codes}
use Rattle.sprite_ids.specs.declared.errno.Errno.TheVariants as errno
use Rattle.process_machine.specs.declared.instruction.Instruction.TheVariants.{Mov, Add}
use Rattle.process_machine.specs.declared.instruction.Operand.TheVariants.{Number, Register}
use Rattle.process_machine.specs.declared.instruction.SyscallName.TheVariants as name
use Rattle.process_machine.specs.declared.call.Call.TheVariants as call
use Rattle.process_machine.specs.declared.call.Reply.TheVariants.{Value, Error}
use Rattle.process_machine.specs.declared.program.Program.{Program}
use Rattle.unix_calls.specs.declared.description.Description.{Description}
use Rattle.unix_calls.specs.declared.entry.Entry.{Entry}
use Rattle.unix_calls.specs.Answers.{value, nothing}
use Rattle.unix_calls.specs.Examples.{sys, text_at, program_of, second_program_of, cluster_of, cluster_with, calls, gives}

-- a domain is busy, and no file goes from one domain to another
abbrev pub domains_program : Program
domains_program =
    program_of (text_at 0 (codes "/a/b/f") ∷ text_at 8 (codes "/a/b") ∷ text_at 16 (codes "/x") ∷ text_at 20 (codes "/a/x") ∷ [])
    (sys name.Open (Number 0 ∷ Number 6 ∷ Number 1 ∷ []) ∷
    sys name.Read (Number 0 ∷ Number 32 ∷ Number 2 ∷ []) ∷
    sys name.Print (Number 32 ∷ Number 2 ∷ []) ∷
    sys name.Rmdir (Number 8 ∷ Number 4 ∷ []) ∷
    Mov 6 0 ∷
    sys name.Rename (Number 16 ∷ Number 2 ∷ Number 20 ∷ Number 4 ∷ []) ∷
    Add 6 0 ∷
    sys name.Exit (Register 6 ∷ []) ∷
    [])

abbrev pub domains_cluster : Description
domains_cluster =
    record (cluster_with domains_program) {
      kernels =
          record { name = codes "c1"; serves = [] } ∷
          record { name = codes "s1"; serves = [] ∷ [] } ∷
          record { name = codes "s2"; serves = (codes "a" ∷ []) ∷ [] } ∷
          record { name = codes "s3"; serves = (codes "a" ∷ codes "b" ∷ []) ∷ [] } ∷ [];
      files = record { path = codes "a" ∷ codes "b" ∷ codes "f" ∷ []; bytes = codes "hi"; append = false } ∷ [];
    }

abbrev pub domains_journal : List Entry
domains_journal =
    calls
    (gives (call.OpenFile (codes "/a/b/f") 1) (value 0) ∷
    gives (call.Read 0 2) (Value 2 0 (codes "hi")) ∷
    gives (call.Print (codes "hi")) nothing ∷
    gives (call.Rmdir (codes "/a/b")) (Error errno.Busy) ∷
    gives (call.Rename (codes "/x") (codes "/a/x")) (Error errno.XDev) ∷
    gives (call.Exit 23) nothing ∷
    [])

-- two lines of the cluster file are one file
abbrev pub joined_program : Program
joined_program =
    program_of (text_at 0 (codes "/f") ∷ [])
    (sys name.Open (Number 0 ∷ Number 2 ∷ Number 1 ∷ []) ∷
    sys name.Read (Number 0 ∷ Number 16 ∷ Number 9 ∷ []) ∷
    sys name.Print (Number 16 ∷ Number 4 ∷ []) ∷
    sys name.Exit (Number 0 ∷ []) ∷
    [])

abbrev pub joined_files_cluster : Description
joined_files_cluster =
    record (cluster_with joined_program) {
      version = 2;
      files =
          record { path = codes "f" ∷ []; bytes = codes "ab"; append = false } ∷
          record { path = codes "f" ∷ []; bytes = codes "cd"; append = true } ∷ [];
    }

abbrev pub joined_files_journal : List Entry
joined_files_journal =
    calls
    (gives (call.OpenFile (codes "/f") 1) (value 0) ∷
    gives (call.Read 0 9) (Value 4 0 (codes "abcd")) ∷
    gives (call.Print (codes "abcd")) nothing ∷
    gives (call.Exit 0) nothing ∷
    [])

-- a process begins another program on another host
abbrev pub launch_program : Program
launch_program =
    program_of (text_at 0 (codes "b") ∷ text_at 8 (codes "c2") ∷ [])
    (sys name.Rexec (Number 0 ∷ Number 1 ∷ Number 8 ∷ Number 2 ∷ []) ∷
    sys name.Exit (Number 9 ∷ []) ∷
    [])

abbrev pub launched_program : Program
launched_program =
    second_program_of (text_at 0 (codes "b\n") ∷ [])
    (sys name.Print (Number 0 ∷ Number 2 ∷ []) ∷
    sys name.Exit (Number 0 ∷ []) ∷
    [])

abbrev pub launch_cluster : Description
launch_cluster =
    record (cluster_of (record { name = codes "a"; program = launch_program } ∷ record { name = codes "b"; program = launched_program } ∷ [])) {
      version = 2;
      starts = record { host = 1; program = 1; arg = 0 } ∷ [];
    }

abbrev pub launch_journal : List Entry
launch_journal =
    calls
    (gives (call.Rexec (codes "b") (codes "c2")) nothing ∷
    gives (call.Print (codes "b\n")) nothing ∷
    gives (call.Exit 0) nothing ∷
    [])

-- the first program goes on
abbrev pub not_launched_journal : List Entry
not_launched_journal =
    calls
    (gives (call.Rexec (codes "b") (codes "c2")) nothing ∷
    gives (call.Exit 9) nothing ∷
    [])
