-- Small histories of files and names.
use Rattle.std.specs.Prelude.{List, [], ◌∷◌, codes}
use Rattle.sprite_ids.specs.declared.errno.Errno.TheVariants as errno
use Rattle.process_machine.specs.declared.instruction.Instruction.TheVariants.{Mov, Add}
use Rattle.process_machine.specs.declared.instruction.Operand.TheVariants.{Number, Register}
use Rattle.process_machine.specs.declared.instruction.SyscallName.TheVariants as name
use Rattle.process_machine.specs.declared.call.Call.TheVariants as call
use Rattle.process_machine.specs.declared.call.Reply.TheVariants.{Value, Error}
use Rattle.process_machine.specs.declared.program.Program.{Program}
use Rattle.unix_calls.specs.declared.description.Description.{Description}
use Rattle.unix_calls.specs.declared.entry.Entry.{Entry}
use Rattle.unix_calls.specs.Answers.{value, nothing}
use Rattle.unix_calls.specs.Examples.{sys, text_at, program_of, cluster_with, calls, gives}

-- a file is written, and read back from its start
abbrev pub file_program : Program
file_program =
    program_of (text_at 0 (codes "/f") ∷ text_at 8 (codes "xy") ∷ [])
    (sys name.Open (Number 0 ∷ Number 2 ∷ Number 7 ∷ []) ∷
    sys name.Write (Number 0 ∷ Number 8 ∷ Number 2 ∷ []) ∷
    sys name.Seek (Number 0 ∷ Number 0 ∷ []) ∷
    sys name.Read (Number 0 ∷ Number 16 ∷ Number 4 ∷ []) ∷
    sys name.Print (Number 16 ∷ Number 2 ∷ []) ∷
    sys name.Exit (Number 0 ∷ []) ∷
    [])

abbrev pub file_cluster : Description
file_cluster = cluster_with file_program

abbrev pub file_journal : List Entry
file_journal =
    calls
    (gives (call.OpenFile (codes "/f") 7) (value 0) ∷
    gives (call.Write 0 (codes "xy")) (value 2) ∷
    gives (call.Seek 0 0) (value 0) ∷
    gives (call.Read 0 4) (Value 2 0 (codes "xy")) ∷
    gives (call.Print (codes "xy")) nothing ∷
    gives (call.Exit 0) nothing ∷
    [])

-- the read gives a byte that was not written
abbrev pub unwritten_journal : List Entry
unwritten_journal =
    calls
    (gives (call.OpenFile (codes "/f") 7) (value 0) ∷
    gives (call.Write 0 (codes "xy")) (value 2) ∷
    gives (call.Seek 0 0) (value 0) ∷
    gives (call.Read 0 4) (Value 2 0 (codes "xz")) ∷
    [])

-- the read has an error that calls on names alone may have
abbrev pub unreachable_read_journal : List Entry
unreachable_read_journal =
    calls
    (gives (call.OpenFile (codes "/f") 7) (value 0) ∷
    gives (call.Write 0 (codes "xy")) (value 2) ∷
    gives (call.Seek 0 0) (value 0) ∷
    gives (call.Read 0 4) (Error errno.Unreachable) ∷
    [])

-- a write that would pass the limit of a file is refused, and writes nothing; the process ends with that error
abbrev pub limit_program : Program
limit_program =
    program_of (text_at 0 (codes "/f") ∷ text_at 8 (codes "xy") ∷ [])
    (sys name.Open (Number 0 ∷ Number 2 ∷ Number 7 ∷ []) ∷
    sys name.Seek (Number 0 ∷ Number 262143 ∷ []) ∷
    sys name.Write (Number 0 ∷ Number 8 ∷ Number 2 ∷ []) ∷
    Mov 6 0 ∷
    sys name.Size (Number 0 ∷ []) ∷
    sys name.Exit (Register 6 ∷ []) ∷
    [])

abbrev pub limit_cluster : Description
limit_cluster = cluster_with limit_program

abbrev pub limit_journal : List Entry
limit_journal =
    calls
    (gives (call.OpenFile (codes "/f") 7) (value 0) ∷
    gives (call.Seek 0 262143) (value 262143) ∷
    gives (call.Write 0 (codes "xy")) (Error errno.TooBig) ∷
    gives (call.Size 0) (value 0) ∷
    gives (call.Exit 8) nothing ∷
    [])

-- the write is done all the same
abbrev pub passed_limit_journal : List Entry
passed_limit_journal =
    calls
    (gives (call.OpenFile (codes "/f") 7) (value 0) ∷
    gives (call.Seek 0 262143) (value 262143) ∷
    gives (call.Write 0 (codes "xy")) (value 2) ∷
    [])

-- a stream that appends writes at the end of what another one wrote
abbrev pub append_program : Program
append_program =
    program_of (text_at 0 (codes "/f") ∷ text_at 8 (codes "abcd") ∷ [])
    (sys name.Open (Number 0 ∷ Number 2 ∷ Number 7 ∷ []) ∷
    sys name.Write (Number 0 ∷ Number 8 ∷ Number 2 ∷ []) ∷
    sys name.Open (Number 0 ∷ Number 2 ∷ Number 18 ∷ []) ∷
    sys name.Write (Number 1 ∷ Number 10 ∷ Number 2 ∷ []) ∷
    sys name.Seek (Number 0 ∷ Number 0 ∷ []) ∷
    sys name.Read (Number 0 ∷ Number 16 ∷ Number 8 ∷ []) ∷
    Mov 6 1 ∷
    sys name.Print (Number 16 ∷ Number 4 ∷ []) ∷
    sys name.Exit (Register 6 ∷ []) ∷
    [])

abbrev pub append_cluster : Description
append_cluster = cluster_with append_program

abbrev pub append_journal : List Entry
append_journal =
    calls
    (gives (call.OpenFile (codes "/f") 7) (value 0) ∷
    gives (call.Write 0 (codes "ab")) (value 2) ∷
    gives (call.OpenFile (codes "/f") 18) (value 1) ∷
    gives (call.Write 1 (codes "cd")) (value 2) ∷
    gives (call.Seek 0 0) (value 0) ∷
    gives (call.Read 0 8) (Value 4 0 (codes "abcd")) ∷
    gives (call.Print (codes "abcd")) nothing ∷
    gives (call.Exit 4) nothing ∷
    [])

-- an open finds no server within reach, and makes no file; the next open finds none
abbrev pub unreachable_program : Program
unreachable_program =
    program_of (text_at 0 (codes "/f") ∷ [])
    (sys name.Open (Number 0 ∷ Number 2 ∷ Number 6 ∷ []) ∷
    Mov 6 0 ∷
    sys name.Open (Number 0 ∷ Number 2 ∷ Number 1 ∷ []) ∷
    Add 6 0 ∷
    sys name.Exit (Register 6 ∷ []) ∷
    [])

abbrev pub unreachable_cluster : Description
unreachable_cluster = cluster_with unreachable_program

abbrev pub unreachable_journal : List Entry
unreachable_journal =
    calls
    (gives (call.OpenFile (codes "/f") 6) (Error errno.Unreachable) ∷
    gives (call.OpenFile (codes "/f") 1) (Error errno.NoEntry) ∷
    gives (call.Exit 18) nothing ∷
    [])

-- a directory lists its names in byte order, of which one was given to a file by a rename
abbrev pub names_program : Program
names_program =
    program_of (text_at 0 (codes "/d") ∷ text_at 8 (codes "/d/b") ∷ text_at 16 (codes "/d/a") ∷ text_at 24 (codes "/d/c") ∷ [])
    (sys name.Mkdir (Number 0 ∷ Number 2 ∷ []) ∷
    sys name.Open (Number 8 ∷ Number 4 ∷ Number 6 ∷ []) ∷
    sys name.Rename (Number 8 ∷ Number 4 ∷ Number 24 ∷ Number 4 ∷ []) ∷
    sys name.Mkdir (Number 16 ∷ Number 4 ∷ []) ∷
    sys name.List (Number 0 ∷ Number 2 ∷ Number 64 ∷ Number 16 ∷ []) ∷
    sys name.Print (Number 64 ∷ Number 4 ∷ []) ∷
    sys name.Exit (Number 0 ∷ []) ∷
    [])

abbrev pub names_cluster : Description
names_cluster = cluster_with names_program

abbrev pub names_journal : List Entry
names_journal =
    calls
    (gives (call.Mkdir (codes "/d")) nothing ∷
    gives (call.OpenFile (codes "/d/b") 6) (value 0) ∷
    gives (call.Rename (codes "/d/b") (codes "/d/c")) nothing ∷
    gives (call.Mkdir (codes "/d/a")) nothing ∷
    gives (call.List (codes "/d") 16) (Value 4 0 (codes "a\nc\n")) ∷
    gives (call.Print (codes "a\nc\n")) nothing ∷
    gives (call.Exit 0) nothing ∷
    [])
