-- Whether two calls, or two replies, are the same.
use Rattle.std.specs.Prelude.{ℕ, Bool, true, false, ◌&&◌, ◌==◌, List, nat_eq}
use Rattle.std.specs.Cmp.Lexicographic.{pointwise}
use Rattle.sprite_ids.specs.Errno.{errno_number}
use Rattle.process_machine.specs.declared.call.Call.{Call}
use Rattle.process_machine.specs.declared.call.Call.TheVariants as call
use Rattle.process_machine.specs.declared.call.Reply.{Reply}
use Rattle.process_machine.specs.declared.call.Reply.TheVariants.{Value, Error}

-- whether two texts are the same
abbrev pub same_text : List ℕ → List ℕ → Bool
same_text = pointwise nat_eq

-- whether two calls are the same
abbrev pub same_call : Call → Call → Bool
same_call (call.Print a) (call.Print x) = same_text a x
same_call (call.Exit a) (call.Exit x) = a == x
same_call call.Getpid call.Getpid = true
same_call call.Getppid call.Getppid = true
same_call (call.Host a) (call.Host x) = a == x
same_call call.Tick call.Tick = true
same_call call.Fork call.Fork = true
same_call (call.Exec a b) (call.Exec x y) = same_text a x && b == y
same_call call.Wait call.Wait = true
same_call (call.Kill a) (call.Kill x) = a == x
same_call (call.OpenFile a b) (call.OpenFile x y) = same_text a x && b == y
same_call (call.Close a) (call.Close x) = a == x
same_call (call.Dup a) (call.Dup x) = a == x
same_call (call.Read a b) (call.Read x y) = a == x && b == y
same_call (call.Write a b) (call.Write x y) = a == x && same_text b y
same_call (call.Seek a b) (call.Seek x y) = a == x && b == y
same_call (call.Size a) (call.Size x) = a == x
same_call (call.Sync a) (call.Sync x) = a == x
same_call (call.Stat a) (call.Stat x) = same_text a x
same_call (call.Mkdir a) (call.Mkdir x) = same_text a x
same_call (call.Rmdir a) (call.Rmdir x) = same_text a x
same_call (call.Unlink a) (call.Unlink x) = same_text a x
same_call (call.Rename a b) (call.Rename x y) = same_text a x && same_text b y
same_call (call.List a b) (call.List x y) = same_text a x && b == y
same_call (call.Chdir a) (call.Chdir x) = same_text a x
same_call (call.Migrate a) (call.Migrate x) = same_text a x
same_call (call.PdMake a) (call.PdMake x) = same_text a x
same_call (call.PdGet a b) (call.PdGet x y) = a == x && b == y
same_call (call.PdPut a b c) (call.PdPut x y z) = a == x && same_text b y && c == z
same_call (call.Ioctl a b c) (call.Ioctl x y z) = a == x && b == y && same_text c z
same_call (call.Rexec a b) (call.Rexec x y) = same_text a x && same_text b y
same_call (call.Refused a) (call.Refused x) = errno_number a == errno_number x
same_call call.BadStep call.BadStep = true
same_call _ _ = false

-- whether two replies are the same
abbrev pub same_reply : Reply → Reply → Bool
same_reply (Value a b bytes) (Value x y others) = a == x && b == y && same_text bytes others
same_reply (Error e) (Error f) = errno_number e == errno_number f
same_reply _ _ = false
