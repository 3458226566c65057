-- Small histories of pseudo-devices.
use Rattle.std.specs.Prelude.{List, [], ◌∷◌, codes}
use Rattle.sprite_ids.specs.declared.errno.Errno.TheVariants as errno
use Rattle.process_machine.specs.declared.instruction.Instruction.TheVariants.{Mov}
use Rattle.process_machine.specs.declared.instruction.Operand.TheVariants.{Number, Register}
use Rattle.process_machine.specs.declared.instruction.SyscallName.TheVariants as name
use Rattle.process_machine.specs.declared.call.Call.TheVariants as call
use Rattle.process_machine.specs.declared.call.Reply.TheVariants.{Value, Error}
use Rattle.process_machine.specs.declared.program.Program.{Program}
use Rattle.unix_calls.specs.declared.description.Description.{Description}
use Rattle.unix_calls.specs.declared.entry.Entry.{Entry}
use Rattle.unix_calls.specs.Answers.{value, nothing}
use Rattle.unix_calls.specs.Examples.{sys, text_at, program_of, second_program_of, cluster_of, whole, ask, done}

-- a master answers a command of another process
abbrev pub master_program : Program
master_program =
    program_of (text_at 0 (codes "/e") ∷ text_at 8 (codes "PING") ∷ [])
    (sys name.PdMake (Number 0 ∷ Number 2 ∷ []) ∷
    sys name.PdGet (Number 0 ∷ Number 64 ∷ Number 64 ∷ []) ∷
    sys name.PdPut (Number 0 ∷ Number 8 ∷ Number 4 ∷ Number 0 ∷ []) ∷
    sys name.Exit (Number 0 ∷ []) ∷
    [])

abbrev pub asker_program : Program
asker_program =
    second_program_of (text_at 0 (codes "/e") ∷ text_at 8 (codes "ping") ∷ [])
    (sys name.Open (Number 0 ∷ Number 2 ∷ Number 3 ∷ []) ∷
    sys name.Ioctl (Number 0 ∷ Number 7 ∷ Number 8 ∷ Number 4 ∷ []) ∷
    sys name.Print (Number 8 ∷ Number 4 ∷ []) ∷
    sys name.Exit (Number 0 ∷ []) ∷
    [])

abbrev pub device_cluster : Description
device_cluster =
    cluster_of (record { name = codes "m"; program = master_program } ∷ record { name = codes "u"; program = asker_program } ∷ [])

abbrev pub device_journal : List Entry
device_journal =
    whole 1001 1 (call.PdMake (codes "/e")) (value 0) ∷
    whole 1002 1 (call.OpenFile (codes "/e") 3) (value 0) ∷
    ask 1002 2 (call.Ioctl 0 7 (codes "ping")) ∷
    whole 1001 2 (call.PdGet 0 64) (Value 3 12 (7 ∷ 0 ∷ 0 ∷ 0 ∷ 0 ∷ 0 ∷ 0 ∷ 0 ∷ codes "ping")) ∷
    whole 1001 3 (call.PdPut 0 (codes "PING") 0) nothing ∷
    done 1002 2 (call.Ioctl 0 7 (codes "ping")) (Value 4 0 (codes "PING")) ∷
    whole 1002 3 (call.Print (codes "PING")) nothing ∷
    whole 1001 4 (call.Exit 0) nothing ∷
    whole 1002 4 (call.Exit 0) nothing ∷
    []

-- the ask ends, and nobody answered it
abbrev pub unanswered_journal : List Entry
unanswered_journal =
    whole 1001 1 (call.PdMake (codes "/e")) (value 0) ∷
    whole 1002 1 (call.OpenFile (codes "/e") 3) (value 0) ∷
    ask 1002 2 (call.Ioctl 0 7 (codes "ping")) ∷
    whole 1001 2 (call.PdGet 0 64) (Value 3 12 (7 ∷ 0 ∷ 0 ∷ 0 ∷ 0 ∷ 0 ∷ 0 ∷ 0 ∷ codes "ping")) ∷
    done 1002 2 (call.Ioctl 0 7 (codes "ping")) (Value 4 0 (codes "PING")) ∷
    []

-- the ask ends with another answer than the master gave
abbrev pub wrong_answer_journal : List Entry
wrong_answer_journal =
    whole 1001 1 (call.PdMake (codes "/e")) (value 0) ∷
    whole 1002 1 (call.OpenFile (codes "/e") 3) (value 0) ∷
    ask 1002 2 (call.Ioctl 0 7 (codes "ping")) ∷
    whole 1001 2 (call.PdGet 0 64) (Value 3 12 (7 ∷ 0 ∷ 0 ∷ 0 ∷ 0 ∷ 0 ∷ 0 ∷ 0 ∷ codes "ping")) ∷
    whole 1001 3 (call.PdPut 0 (codes "PING") 0) nothing ∷
    done 1002 2 (call.Ioctl 0 7 (codes "ping")) (Value 4 0 (codes "PONG")) ∷
    []

-- the ask ends for want of a master, who is there
abbrev pub no_server_journal : List Entry
no_server_journal =
    whole 1001 1 (call.PdMake (codes "/e")) (value 0) ∷
    whole 1002 1 (call.OpenFile (codes "/e") 3) (value 0) ∷
    ask 1002 2 (call.Ioctl 0 7 (codes "ping")) ∷
    done 1002 2 (call.Ioctl 0 7 (codes "ping")) (Error errno.NoServer) ∷
    []

-- an operation on a device is done in one
abbrev pub whole_journal : List Entry
whole_journal =
    whole 1001 1 (call.PdMake (codes "/e")) (value 0) ∷
    whole 1002 1 (call.OpenFile (codes "/e") 3) (value 0) ∷
    whole 1002 2 (call.Ioctl 0 7 (codes "ping")) (Value 4 0 (codes "PING")) ∷
    []

-- a master ends, and an ask finds no server
abbrev pub quitter_program : Program
quitter_program =
    program_of (text_at 0 (codes "/e") ∷ [])
    (sys name.PdMake (Number 0 ∷ Number 2 ∷ []) ∷
    sys name.Exit (Number 0 ∷ []) ∷
    [])

abbrev pub loser_program : Program
loser_program =
    second_program_of (text_at 0 (codes "/e") ∷ text_at 8 (codes "ping") ∷ [])
    (sys name.Open (Number 0 ∷ Number 2 ∷ Number 3 ∷ []) ∷
    sys name.Ioctl (Number 0 ∷ Number 7 ∷ Number 8 ∷ Number 4 ∷ []) ∷
    Mov 6 0 ∷
    sys name.Exit (Register 6 ∷ []) ∷
    [])

abbrev pub dead_cluster : Description
dead_cluster = cluster_of (record { name = codes "m"; program = quitter_program } ∷ record { name = codes "u"; program = loser_program } ∷ [])

abbrev pub dead_journal : List Entry
dead_journal =
    whole 1001 1 (call.PdMake (codes "/e")) (value 0) ∷
    whole 1002 1 (call.OpenFile (codes "/e") 3) (value 0) ∷
    whole 1001 2 (call.Exit 0) nothing ∷
    ask 1002 2 (call.Ioctl 0 7 (codes "ping")) ∷
    done 1002 2 (call.Ioctl 0 7 (codes "ping")) (Error errno.NoServer) ∷
    whole 1002 3 (call.Exit 16) nothing ∷
    []
