-- Small histories of processes.
use Rattle.std.specs.Prelude.{List, [], ◌∷◌, codes}
use Rattle.sprite_ids.specs.declared.errno.Errno.TheVariants as errno
use Rattle.process_machine.specs.declared.instruction.Instruction.TheVariants.{Set, Sub, Jmp, Jeq}
use Rattle.process_machine.specs.declared.instruction.Operand.TheVariants.{Number, Register}
use Rattle.process_machine.specs.declared.instruction.SyscallName.TheVariants as name
use Rattle.process_machine.specs.declared.call.Call.TheVariants as call
use Rattle.process_machine.specs.declared.call.Reply.TheVariants.{Value, Error}
use Rattle.process_machine.specs.declared.program.Program.{Program}
use Rattle.unix_calls.specs.declared.description.Description.{Description}
use Rattle.unix_calls.specs.declared.entry.Entry.{Entry}
use Rattle.unix_calls.specs.Answers.{value, nothing}
use Rattle.unix_calls.specs.Examples.{sys, text_at, program_of, cluster_of, cluster_with, whole, calls, gives, death}

-- a line is printed
abbrev pub hello_program : Program
hello_program =
    program_of (text_at 0 (codes "hello\n") ∷ [])
    (sys name.Print (Number 0 ∷ Number 6 ∷ []) ∷
    sys name.Exit (Number 0 ∷ []) ∷
    [])

abbrev pub hello_cluster : Description
hello_cluster = cluster_of (record { name = codes "hello"; program = hello_program } ∷ [])

abbrev pub hello_journal : List Entry
hello_journal =
    calls
    (gives (call.Print (codes "hello\n")) nothing ∷
    gives (call.Exit 0) nothing ∷
    [])

-- the call is done twice
abbrev pub twice_journal : List Entry
twice_journal =
    whole 1001 1 (call.Print (codes "hello\n")) nothing ∷
    whole 1001 1 (call.Print (codes "hello\n")) nothing ∷
    []

-- the call is not the program's
abbrev pub other_call_journal : List Entry
other_call_journal =
    calls
    (gives (call.Print (codes "hullo\n")) nothing ∷
    [])

-- a process that has ended goes on
abbrev pub ended_journal : List Entry
ended_journal =
    calls
    (gives (call.Print (codes "hello\n")) nothing ∷
    gives (call.Exit 0) nothing ∷
    gives (call.Exit 0) nothing ∷
    [])

-- a process dies that nobody killed
abbrev pub unkilled_journal : List Entry
unkilled_journal =
    death 1001 1 ∷
    []

-- a process asks for its number, and ends with its last two digits
abbrev pub pid_program : Program
pid_program =
    program_of ([])
    (sys name.Getpid [] ∷
    Set 2 1000 ∷
    Sub 1 2 ∷
    sys name.Exit (Register 1 ∷ []) ∷
    [])

abbrev pub pid_cluster : Description
pid_cluster = cluster_with pid_program

abbrev pub pid_journal : List Entry
pid_journal =
    calls
    (gives call.Getpid (value 1001) ∷
    gives (call.Exit 1) nothing ∷
    [])

-- the reply is off by one
abbrev pub wrong_pid_journal : List Entry
wrong_pid_journal =
    calls
    (gives call.Getpid (value 1002) ∷
    [])

-- a child is made, and its parent waits for its end and has its status
abbrev pub fork_program : Program
fork_program =
    program_of ([])
    (sys name.Fork [] ∷
    Jeq 1 5 4 ∷
    sys name.Wait [] ∷
    sys name.Exit (Register 2 ∷ []) ∷
    sys name.Exit (Number 7 ∷ []) ∷
    [])

abbrev pub fork_cluster : Description
fork_cluster = cluster_with fork_program

abbrev pub fork_journal : List Entry
fork_journal =
    whole 1001 1 call.Fork (value 1002) ∷
    whole 1002 1 (call.Exit 7) nothing ∷
    whole 1001 2 call.Wait (Value 1002 7 []) ∷
    whole 1001 3 (call.Exit 7) nothing ∷
    []

-- the wait is broken off, and no kill is pending
abbrev pub interrupted_journal : List Entry
interrupted_journal =
    whole 1001 1 call.Fork (value 1002) ∷
    whole 1001 2 call.Wait (Error errno.Interrupted) ∷
    []

-- the wait has a child that lives
abbrev pub early_wait_journal : List Entry
early_wait_journal =
    whole 1001 1 call.Fork (value 1002) ∷
    whole 1001 2 call.Wait (Value 1002 7 []) ∷
    []

-- a child that never comes to a call is killed
abbrev pub kill_program : Program
kill_program =
    program_of ([])
    (sys name.Fork [] ∷
    Jeq 1 5 5 ∷
    sys name.Kill (Register 1 ∷ []) ∷
    sys name.Wait [] ∷
    sys name.Exit (Register 2 ∷ []) ∷
    Jmp 5 ∷
    [])

abbrev pub kill_cluster : Description
kill_cluster = cluster_with kill_program

abbrev pub kill_journal : List Entry
kill_journal =
    whole 1001 1 call.Fork (value 1002) ∷
    whole 1001 2 (call.Kill 1002) nothing ∷
    death 1002 1 ∷
    whole 1001 3 call.Wait (Value 1002 257 []) ∷
    whole 1001 4 (call.Exit 1) nothing ∷
    []

-- a child kills its parent, whose wait is broken off
abbrev pub kin_program : Program
kin_program =
    program_of ([])
    (sys name.Fork [] ∷
    Jeq 1 5 4 ∷
    sys name.Wait [] ∷
    Jmp 3 ∷
    sys name.Getppid [] ∷
    sys name.Kill (Register 1 ∷ []) ∷
    sys name.Exit (Number 0 ∷ []) ∷
    [])

abbrev pub kin_cluster : Description
kin_cluster = cluster_with kin_program

abbrev pub kin_journal : List Entry
kin_journal =
    whole 1001 1 call.Fork (value 1002) ∷
    whole 1002 1 call.Getppid (value 1001) ∷
    whole 1002 2 (call.Kill 1001) nothing ∷
    whole 1001 2 call.Wait (Error errno.Interrupted) ∷
    death 1001 3 ∷
    whole 1002 3 (call.Exit 0) nothing ∷
    []

-- a call is broken off that no kill breaks off
abbrev pub broken_off_getppid_journal : List Entry
broken_off_getppid_journal =
    whole 1001 1 call.Fork (value 1002) ∷
    whole 1002 1 call.Getppid (Error errno.Interrupted) ∷
    []
