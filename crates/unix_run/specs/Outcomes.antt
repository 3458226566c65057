-- The calls by the functions that answer them.
use Rattle.process_machine.specs.declared.call.Call.{Call}
use Rattle.process_machine.specs.declared.call.Call.TheVariants as call

-- what holds of a call on names
abbrev pub ByName : Call → Type 0 → Type 0
ByName (call.OpenFile path flags) T = T
ByName (call.PdMake path) T = T
ByName (call.Stat path) T = T
ByName (call.Mkdir path) T = T
ByName (call.Rmdir path) T = T
ByName (call.Unlink path) T = T
ByName (call.Rename old new) T = T
ByName (call.List path max) T = T
ByName (call.Chdir path) T = T
ByName other T = Unit {0}

-- of a call on a stream or on names
abbrev pub OnStream : Call → Type 0 → Type 0
OnStream (call.Close fd) T = T
OnStream (call.Dup fd) T = T
OnStream (call.Read fd many) T = T
OnStream (call.Write fd bytes) T = T
OnStream (call.Seek fd offset) T = T
OnStream (call.Size fd) T = T
OnStream (call.Sync fd) T = T
OnStream (call.PdGet fd max) T = T
OnStream (call.PdPut fd bytes number) T = T
OnStream (call.Ioctl fd command bytes) T = T
OnStream other T = ByName other T

-- of a call that looks at no other process
abbrev pub Alone : Call → Type 0 → Type 0
Alone call.Getppid T = Unit {0}
Alone call.Fork T = Unit {0}
Alone call.Wait T = Unit {0}
Alone (call.Kill pid) T = Unit {0}
Alone other T = T
