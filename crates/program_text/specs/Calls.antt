-- The names of system calls.
use Rattle.std.specs.Prelude.{codes, ℕ, List, [], ◌∷◌, Option, Some, None, if◌then◌else◌, nat_le}
use Rattle.std.specs.Option.{option_or}
use Rattle.process_machine.specs.declared.instruction.SyscallName.{SyscallName}
use Rattle.process_machine.specs.declared.instruction.SyscallName.TheVariants as name
use Rattle.program_text.specs.Words.{same}

-- the calls on processes and their home
abbrev pub process_calls : List (List ℕ × SyscallName)
process_calls =
    (codes "print", name.Print) ∷
    (codes "exit", name.Exit) ∷
    (codes "getpid", name.Getpid) ∷
    (codes "getppid", name.Getppid) ∷
    (codes "host", name.Host) ∷
    (codes "tick", name.Tick) ∷
    (codes "fork", name.Fork) ∷
    (codes "exec", name.Exec) ∷
    (codes "wait", name.Wait) ∷
    (codes "kill", name.Kill) ∷
    []

-- the calls on descriptors
abbrev pub stream_calls : List (List ℕ × SyscallName)
stream_calls =
    (codes "open", name.Open) ∷
    (codes "close", name.Close) ∷
    (codes "dup", name.Dup) ∷
    (codes "read", name.Read) ∷
    (codes "write", name.Write) ∷
    (codes "seek", name.Seek) ∷
    (codes "size", name.Size) ∷
    (codes "sync", name.Sync) ∷
    (codes "pd_get", name.PdGet) ∷
    (codes "pd_put", name.PdPut) ∷
    (codes "ioctl", name.Ioctl) ∷
    []

-- the calls on paths, and `migrate`
abbrev pub name_calls : List (List ℕ × SyscallName)
name_calls =
    (codes "stat", name.Stat) ∷
    (codes "mkdir", name.Mkdir) ∷
    (codes "rmdir", name.Rmdir) ∷
    (codes "unlink", name.Unlink) ∷
    (codes "rename", name.Rename) ∷
    (codes "list", name.List) ∷
    (codes "chdir", name.Chdir) ∷
    (codes "migrate", name.Migrate) ∷
    (codes "pd_make", name.PdMake) ∷
    []

-- the call that has the name among these
abbrev pub among : List (List ℕ × SyscallName) → List ℕ → Option SyscallName
among [] word = None
among (row ∷ rows) word = if same word row.0 then Some row.1 else among rows word

-- the call of that name in the version: `rexec` is one from version 2 on
abbrev pub call_in : ℕ → List ℕ → Option SyscallName
call_in version word =
    if same word (codes "rexec")
    then (if nat_le 2 version then Some name.Rexec else None)
    else option_or (option_or (among process_calls word) (among stream_calls word)) (among name_calls word)
