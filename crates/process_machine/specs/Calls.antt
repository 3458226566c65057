-- The system call at which an image stands.
use Rattle.std.specs.Prelude.{ℕ, ◌%◌, List, Option, Some, None, slice_get}
use Rattle.sprite_ids.specs.declared.errno.Errno.{Errno}
use Rattle.process_machine.specs.declared.arguments.Arguments.{Arguments}
use Rattle.process_machine.specs.declared.instruction.Instruction.{Instruction}
use Rattle.process_machine.specs.declared.instruction.Instruction.TheVariants.{Sys}
use Rattle.process_machine.specs.declared.instruction.SyscallName.{SyscallName}
use Rattle.process_machine.specs.declared.instruction.SyscallName.TheVariants as name
use Rattle.process_machine.specs.declared.call.Call.{Call}
use Rattle.process_machine.specs.declared.call.Call.TheVariants.{Print, Exit, Getpid, Getppid, Host, Tick, Fork, Exec, Wait, Kill, OpenFile, Close, Dup, Read, Write, Seek, Size, Sync, Stat, Mkdir, Rmdir, Unlink, Rename, List as ListCall, Chdir, Migrate, PdMake, PdGet, PdPut, Ioctl, Rexec, Refused, BadStep}
use Rattle.process_machine.specs.declared.program.Program.{Program}
use Rattle.process_machine.specs.Machine.{Machine}
use Rattle.process_machine.specs.Memory.{bytes_at}
use Rattle.process_machine.specs.Arguments.{arguments}
use Rattle.process_machine.specs.Parts.{parts_of, refusal}

-- the call of that name, with its values read from the pages
abbrev pub named_call : SyscallName → Arguments → List (Option (List ℕ)) → Call
named_call name.Print a pages = Print (bytes_at pages a.first a.second)
named_call name.Exit a pages = Exit (a.first % 256)
named_call name.Getpid a pages = Getpid
named_call name.Getppid a pages = Getppid
named_call name.Host a pages = Host a.second
named_call name.Tick a pages = Tick
named_call name.Fork a pages = Fork
named_call name.Exec a pages = Exec (bytes_at pages a.first a.second) a.third
named_call name.Wait a pages = Wait
named_call name.Kill a pages = Kill a.first
named_call name.Open a pages = OpenFile (bytes_at pages a.first a.second) a.third
named_call name.Close a pages = Close a.first
named_call name.Dup a pages = Dup a.first
named_call name.Read a pages = Read a.first a.third
named_call name.Write a pages = Write a.first (bytes_at pages a.second a.third)
named_call name.Seek a pages = Seek a.first a.second
named_call name.Size a pages = Size a.first
named_call name.Sync a pages = Sync a.first
named_call name.Stat a pages = Stat (bytes_at pages a.first a.second)
named_call name.Mkdir a pages = Mkdir (bytes_at pages a.first a.second)
named_call name.Rmdir a pages = Rmdir (bytes_at pages a.first a.second)
named_call name.Unlink a pages = Unlink (bytes_at pages a.first a.second)
named_call name.Rename a pages = Rename (bytes_at pages a.first a.second) (bytes_at pages a.third a.fourth)
named_call name.List a pages = ListCall (bytes_at pages a.first a.second) a.fourth
named_call name.Chdir a pages = Chdir (bytes_at pages a.first a.second)
named_call name.Migrate a pages = Migrate (bytes_at pages a.first a.second)
named_call name.PdMake a pages = PdMake (bytes_at pages a.first a.second)
named_call name.PdGet a pages = PdGet a.first a.third
named_call name.PdPut a pages = PdPut a.first (bytes_at pages a.second a.third) a.fourth
named_call name.Ioctl a pages = Ioctl a.first a.second (bytes_at pages a.third a.fourth)
named_call name.Rexec a pages = Rexec (bytes_at pages a.first a.second) (bytes_at pages a.third a.fourth)

-- that call, or its refusal
abbrev pub unless_refused : Option Errno → Call → Call
unless_refused None call = call
unless_refused (Some errno) call = Refused errno

-- the call of that name with these arguments
abbrev pub call_with : SyscallName → Arguments → List (Option (List ℕ)) → Call
call_with n a pages = unless_refused (refusal pages (parts_of n a)) (named_call n a pages)

-- the call that an instruction makes
abbrev pub call_in : Option Instruction → Machine → Call
call_in (Some (Sys n operands)) m = call_with n (arguments m operands) m.pages
call_in _ m = BadStep

-- the call at which the image stands, of use at a `sys`
abbrev pub call_at : Program → Machine → Call
call_at p m = call_in (slice_get p.code m.counter) m
