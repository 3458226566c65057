-- How system calls and their replies are printed.
use Rattle.std.specs.Prelude.{codes, List, [], ◌∷◌}
use Rattle.process_machine.specs.declared.call.Call.{Call}
use Rattle.process_machine.specs.declared.call.Call.TheVariants as call
use Rattle.process_machine.specs.declared.call.Reply.{Reply}
use Rattle.process_machine.specs.declared.call.Reply.TheVariants.{Value, Error}
use Rattle.history_text.specs.Formats.{Format, ◌then◌, Shape, bare, form, Row, bare_row, row, named}
use Rattle.history_text.specs.Numbers.{number64, errno}
use Rattle.history_text.specs.Texts.{text}

-- a call is its name and its values, each after a space; a bad step is `bad`
abbrev pub call_shape : Call → Shape
call_shape (call.Print bytes) = form (codes "print") text bytes
call_shape (call.Exit code) = form (codes "exit") number64 code
call_shape call.Getpid = bare (codes "getpid")
call_shape call.Getppid = bare (codes "getppid")
call_shape (call.Host max) = form (codes "host") number64 max
call_shape call.Tick = bare (codes "tick")
call_shape call.Fork = bare (codes "fork")
call_shape (call.Exec name arg) = form (codes "exec") (text then number64) (name, arg)
call_shape call.Wait = bare (codes "wait")
call_shape (call.Kill pid) = form (codes "kill") number64 pid
call_shape (call.OpenFile path flags) = form (codes "open") (text then number64) (path, flags)
call_shape (call.Close fd) = form (codes "close") number64 fd
call_shape (call.Dup fd) = form (codes "dup") number64 fd
call_shape (call.Read fd length) = form (codes "read") (number64 then number64) (fd, length)
call_shape (call.Write fd bytes) = form (codes "write") (number64 then text) (fd, bytes)
call_shape (call.Seek fd offset) = form (codes "seek") (number64 then number64) (fd, offset)
call_shape (call.Size fd) = form (codes "size") number64 fd
call_shape (call.Sync fd) = form (codes "sync") number64 fd
call_shape (call.Stat path) = form (codes "stat") text path
call_shape (call.Mkdir path) = form (codes "mkdir") text path
call_shape (call.Rmdir path) = form (codes "rmdir") text path
call_shape (call.Unlink path) = form (codes "unlink") text path
call_shape (call.Rename old new) = form (codes "rename") (text then text) (old, new)
call_shape (call.List path max) = form (codes "list") (text then number64) (path, max)
call_shape (call.Chdir path) = form (codes "chdir") text path
call_shape (call.Migrate name) = form (codes "migrate") text name
call_shape (call.PdMake path) = form (codes "pd_make") text path
call_shape (call.PdGet fd max) = form (codes "pd_get") (number64 then number64) (fd, max)
call_shape (call.PdPut fd bytes errno) = form (codes "pd_put") (number64 then text then number64) (fd, (bytes, errno))
call_shape (call.Ioctl fd command bytes) = form (codes "ioctl") (number64 then number64 then text) (fd, (command, bytes))
call_shape (call.Rexec name host) = form (codes "rexec") (text then text) (name, host)
call_shape (call.Refused reason) = form (codes "refused") errno reason
call_shape call.BadStep = bare (codes "bad")

-- what is read behind each name: of the other calls,
abbrev pub other_rows : List (Row Call)
other_rows =
    row (codes "migrate") text call.Migrate ∷
    row (codes "pd_make") text call.PdMake ∷
    row (codes "pd_get") (number64 then number64) (λ p. call.PdGet p.0 p.1) ∷
    row (codes "pd_put") (number64 then text then number64) (λ p. call.PdPut p.0 p.1.0 p.1.1) ∷
    row (codes "ioctl") (number64 then number64 then text) (λ p. call.Ioctl p.0 p.1.0 p.1.1) ∷
    row (codes "rexec") (text then text) (λ p. call.Rexec p.0 p.1) ∷
    row (codes "refused") errno call.Refused ∷
    bare_row (codes "bad") call.BadStep ∷
    []

-- of those on paths,
abbrev pub path_rows : List (Row Call)
path_rows =
    row (codes "stat") text call.Stat ∷
    row (codes "mkdir") text call.Mkdir ∷
    row (codes "rmdir") text call.Rmdir ∷
    row (codes "unlink") text call.Unlink ∷
    row (codes "rename") (text then text) (λ p. call.Rename p.0 p.1) ∷
    row (codes "list") (text then number64) (λ p. call.List p.0 p.1) ∷
    row (codes "chdir") text call.Chdir ∷
    other_rows

-- of those on descriptors,
abbrev pub stream_rows : List (Row Call)
stream_rows =
    row (codes "open") (text then number64) (λ p. call.OpenFile p.0 p.1) ∷
    row (codes "close") number64 call.Close ∷
    row (codes "dup") number64 call.Dup ∷
    row (codes "read") (number64 then number64) (λ p. call.Read p.0 p.1) ∷
    row (codes "write") (number64 then text) (λ p. call.Write p.0 p.1) ∷
    row (codes "seek") (number64 then number64) (λ p. call.Seek p.0 p.1) ∷
    row (codes "size") number64 call.Size ∷
    row (codes "sync") number64 call.Sync ∷
    path_rows

-- and of those on processes
abbrev pub call_rows : List (Row Call)
call_rows =
    row (codes "print") text call.Print ∷
    row (codes "exit") number64 call.Exit ∷
    bare_row (codes "getpid") call.Getpid ∷
    bare_row (codes "getppid") call.Getppid ∷
    row (codes "host") number64 call.Host ∷
    bare_row (codes "tick") call.Tick ∷
    bare_row (codes "fork") call.Fork ∷
    row (codes "exec") (text then number64) (λ p. call.Exec p.0 p.1) ∷
    bare_row (codes "wait") call.Wait ∷
    row (codes "kill") number64 call.Kill ∷
    stream_rows

abbrev pub call_format : Format Call
call_format = named call_shape call_rows

-- a reply is `ok`, its two values and its bytes, or `err` and the error's number
abbrev pub reply_shape : Reply → Shape
reply_shape (Value first second bytes) = form (codes "ok") (number64 then number64 then text) (first, (second, bytes))
reply_shape (Error reason) = form (codes "err") errno reason

abbrev pub reply_rows : List (Row Reply)
reply_rows =
    row (codes "ok") (number64 then number64 then text) (λ p. Value p.0 p.1.0 p.1.1) ∷
    row (codes "err") errno Error ∷
    []

abbrev pub reply_format : Format Reply
reply_format = named reply_shape reply_rows
