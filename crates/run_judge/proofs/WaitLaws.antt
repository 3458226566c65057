-- Which calls wait.
use Rattle.std.proofs.Common.{◌≡◌, ◌∙◌, ℕ, ◌+◌, Bool, true, false, cond, not, List, [], ◌∷◌, filter, length, nat_le, nat_lt, Option, Some, None, refl, ap, ap₂, slice_set}
use Rattle.std.specs.Prelude.{◌&&◌, ◌||◌}
use Rattle.std.specs.List.{list_any}
use Rattle.std.specs.Option.{is_some}
use Rattle.sprite_ids.specs.Pid.{home_of}
use Rattle.sprite_ids.specs.declared.errno.Errno.{Errno}
use Rattle.sprite_ids.specs.declared.errno.Errno.TheVariants as errno
use Rattle.sprite_ids.specs.declared.names.Mode.TheVariants as mode
use Rattle.sprite_paths.specs.Path.{clean_path}
use Rattle.process_machine.specs.declared.call.Call.{Call}
use Rattle.process_machine.specs.declared.call.Call.TheVariants as call
use Rattle.process_machine.specs.declared.call.Reply.{Reply}
use Rattle.process_machine.specs.declared.program.Program.{Program}
use Rattle.process_machine.specs.Machine.{Machine}
use Rattle.unix_calls.specs.declared.description.Description.{Description}
use Rattle.unix_calls.specs.declared.state.Ask.{Ask}
use Rattle.unix_calls.specs.declared.state.Device.{Device}
use Rattle.unix_calls.specs.declared.state.FileName.{FileName}
use Rattle.unix_calls.specs.declared.state.Flags.{Flags}
use Rattle.unix_calls.specs.declared.state.Node.{Node}
use Rattle.unix_calls.specs.declared.state.Node.TheVariants as node
use Rattle.unix_calls.specs.declared.state.Object.{Object}
use Rattle.unix_calls.specs.declared.state.Object.TheVariants as object
use Rattle.unix_calls.specs.declared.state.Process.{Process}
use Rattle.unix_calls.specs.declared.state.Stream.{Stream}
use Rattle.unix_calls.specs.State.{Unix, births, bytes_of, device_at, free_descriptor, lives, process_at, stream_of}
use Rattle.unix_calls.specs.Answers.{Outcome, gives, is_done, refuses, unless_refused}
use Rattle.unix_calls.specs.NameCalls.{at_path, chdir, chdir_refusal, list, list_refusal, mkdir, new_refusal, rename, rename_refusal, rmdir, rmdir_refusal, stat, stat_of, unlink, unlink_refusal, with_path}
use Rattle.unix_calls.specs.Tree.{node_at, walk}
use Rattle.unix_calls.specs.Opening.{create_refusal, flags_of, make_at, make_with, open_at, open_by, open_node, open_with, opened, reads, with_new_device, writes}
use Rattle.unix_calls.specs.StreamCalls.{at_stream, begins_at, dup_at, read_object, read_stream, seek_to, with_file, with_found, write_from, write_object, write_stream}
use Rattle.unix_calls.specs.DeviceCalls.{answer_of, asked_bytes, at_master, device_of, get_from, ioctl_object, put_to, puts, takes_first, with_device_of}
use Rattle.unix_calls.specs.ProcessCalls.{ended_ones, exec_of, is_unwaited, kernel_name, kill_of, move_refusal, program_named, rexec_of, wait, waits_for}
use Rattle.unix_calls.specs.After.{is_wait, outcome}
use Rattle.unix_world.specs.declared.World.{World}
use Rattle.unix_world.specs.Worlds.{stream_of_fd, unix_of}
use Rattle.run_judge.specs.Waiting.{has_none, is_idle_at, waits_at_object, waits_at_stream, waits_by, waits_for_child}

-- ---- what doesn't wait by any of its branches

by_test : (b : Bool) (x y : Outcome) → is_wait x ≡ false → is_wait y ≡ false → is_wait (cond b x y) ≡ false
by_test true x y h k = h
by_test false x y h k = k

refused_or : (c : Description) (u : Unix) (p : Process) (o : Option Errno) (x : Outcome) → is_wait x ≡ false → is_wait (unless_refused c u p o x) ≡ false
refused_or c u p None x h = h
refused_or c u p (Some e) x h = refl

with_path_goes : (c : Description) (u : Unix) (p : Process) (o : Option (List (List ℕ))) (rest : List (List ℕ) → Outcome) → ((path : List (List ℕ)) → is_wait (rest path) ≡ false) → is_wait (with_path c u p o rest) ≡ false
with_path_goes c u p None rest h = refl
with_path_goes c u p (Some path) rest h = h path

path_goes : (c : Description) (u : Unix) (p : Process) (text : List ℕ) (rest : List (List ℕ) → Outcome) → ((path : List (List ℕ)) → is_wait (rest path) ≡ false) → is_wait (at_path c u p text rest) ≡ false
path_goes c u p text rest h = with_path_goes c u p (clean_path p.cwd text) rest h

found_goes : (c : Description) (u : Unix) (p : Process) (o : Option Stream) (rest : Stream → Outcome) → ((stream : Stream) → is_wait (rest stream) ≡ false) → is_wait (with_found c u p o rest) ≡ false
found_goes c u p None rest h = refl
found_goes c u p (Some stream) rest h = h stream

stream_goes : (c : Description) (u : Unix) (p : Process) (fd : ℕ) (rest : Stream → Outcome) → ((stream : Stream) → is_wait (rest stream) ≡ false) → is_wait (at_stream c u p fd rest) ≡ false
stream_goes c u p fd rest h = found_goes c u p (stream_of u p fd) rest h

file_goes : (c : Description) (u : Unix) (p : Process) (o : Object) (rest : FileName → Outcome) → ((name : FileName) → is_wait (rest name) ≡ false) → is_wait (with_file c u p o rest) ≡ false
file_goes c u p (object.OfFile name) rest h = h name
file_goes c u p (object.OfDevice place) rest h = refl
file_goes c u p (object.OfMaster place) rest h = refl

device_goes : (c : Description) (u : Unix) (p : Process) (o : Option Device) (rest : Device → Outcome) → ((device : Device) → is_wait (rest device) ≡ false) → is_wait (with_device_of c u p o rest) ≡ false
device_goes c u p None rest h = refl
device_goes c u p (Some device) rest h = h device

master_goes : (c : Description) (u : Unix) (p : Process) (fd : ℕ) (rest : Device → Outcome) → ((device : Device) → is_wait (rest device) ≡ false) → is_wait (at_master c u p fd rest) ≡ false
master_goes c u p fd rest h = stream_goes c u p fd (λ stream. with_device_of c u p (device_of u stream.object) rest) (λ stream. device_goes c u p (device_of u stream.object) rest h)

-- ---- calls on processes

exec_goes : (c : Description) (u : Unix) (p : Process) (o : Option Program) (arg : ℕ) → is_wait (exec_of c u p o arg) ≡ false
exec_goes c u p None arg = refl
exec_goes c u p (Some program) arg = refl

kill_goes : (c : Description) (u : Unix) (p : Process) (o : Option Process) → is_wait (kill_of c u p o) ≡ false
kill_goes c u p None = refl
kill_goes c u p (Some target) = by_test (lives target) _ _ refl refl

rexec_goes : (c : Description) (u : Unix) (p : Process) (o : Option Program) (name : List ℕ) → is_wait (rexec_of c u p o name) ≡ false
rexec_goes c u p None name = refl
rexec_goes c u p (Some program) name = refused_or c u p (move_refusal c u p name) _ refl

-- ---- calls on names

open_node_goes : (c : Description) (u : Unix) (p : Process) (fd : ℕ) (flags : Flags) (path : List (List ℕ)) (o : Option Node) → is_wait (open_node c u p fd flags path o) ≡ false
open_node_goes c u p fd flags path None = refused_or c u p (create_refusal u flags path) _ refl
open_node_goes c u p fd flags path (Some node.Directory) = refl
open_node_goes c u p fd flags path (Some (node.FileNode name)) = refl
open_node_goes c u p fd flags path (Some (node.DeviceNode place)) = refl

open_with_goes : (c : Description) (u : Unix) (p : Process) (o : Option ℕ) (flags : Flags) (text : List ℕ) → is_wait (open_with c u p o flags text) ≡ false
open_with_goes c u p None flags text = refl
open_with_goes c u p (Some fd) flags text = path_goes c u p text (open_at c u p fd flags) (λ path. refused_or c u p (walk u.nodes path) _ (open_node_goes c u p fd flags path (node_at u.nodes path)))

open_goes : (c : Description) (u : Unix) (p : Process) (o : Option Flags) (text : List ℕ) → is_wait (open_by c u p o text) ≡ false
open_goes c u p None text = refl
open_goes c u p (Some flags) text = open_with_goes c u p (free_descriptor p) flags text

make_goes : (c : Description) (u : Unix) (p : Process) (o : Option ℕ) (text : List ℕ) → is_wait (make_with c u p o text) ≡ false
make_goes c u p None text = refl
make_goes c u p (Some fd) text = path_goes c u p text (make_at c u p fd) (λ path. refused_or c u p (new_refusal u path) (opened c (with_new_device path u) p fd (object.OfMaster u.entries) mode.Both false) refl)

stat_goes : (c : Description) (u : Unix) (p : Process) (path : List (List ℕ)) (o : Option Node) → is_wait (stat_of c u p path o) ≡ false
stat_goes c u p path None = refl
stat_goes c u p path (Some node.Directory) = refl
stat_goes c u p path (Some (node.FileNode name)) = refl
stat_goes c u p path (Some (node.DeviceNode place)) = refl

-- ---- calls on streams

dup_goes : (c : Description) (u : Unix) (p : Process) (stream : Stream) (o : Option ℕ) → is_wait (dup_at c u p stream o) ≡ false
dup_goes c u p stream None = refl
dup_goes c u p stream (Some fd) = refl

read_goes : (c : Description) (u : Unix) (p : Process) (stream : Stream) (many : ℕ) (o : Object) → is_wait (read_object c u p stream many o) ≡ false
read_goes c u p stream many (object.OfFile name) = refl
read_goes c u p stream many (object.OfDevice place) = refl
read_goes c u p stream many (object.OfMaster place) = refl

write_from_goes : (c : Description) (u : Unix) (p : Process) (stream : Stream) (bytes : List ℕ) (name : FileName) (from : ℕ) → is_wait (write_from c u p stream bytes name from) ≡ false
write_from_goes c u p stream bytes name from = by_test (nat_lt u.limit (from + length bytes)) _ _ refl refl

write_goes : (c : Description) (u : Unix) (p : Process) (stream : Stream) (bytes : List ℕ) (o : Object) → is_wait (write_object c u p stream bytes o) ≡ false
write_goes c u p stream bytes (object.OfFile name) = write_from_goes c u p stream bytes name (begins_at stream (bytes_of u.files name))
write_goes c u p stream bytes (object.OfDevice place) = refl
write_goes c u p stream bytes (object.OfMaster place) = refl

ioctl_goes : (c : Description) (u : Unix) (p : Process) (o : Object) → is_wait (ioctl_object c u p o) ≡ false
ioctl_goes c u p (object.OfFile name) = refl
ioctl_goes c u p (object.OfDevice place) = refl
ioctl_goes c u p (object.OfMaster place) = refl

puts_goes : (c : Description) (u : Unix) (p : Process) (device : Device) (ask : Ask) (o : Option Reply) → is_wait (puts c u p device ask o) ≡ false
puts_goes c u p device ask None = refl
puts_goes c u p device ask (Some reply) = refl

put_goes : (c : Description) (u : Unix) (p : Process) (bytes : List ℕ) (number : ℕ) (device : Device) (o : Option Ask) → is_wait (put_to c u p bytes number device o) ≡ false
put_goes c u p bytes number device None = refl
put_goes c u p bytes number device (Some ask) = puts_goes c u p device ask (answer_of ask.call bytes number)

-- ---- wait

abbrev pub has_some : {X : Type 0} → List X → Bool
has_some [] = false
has_some (x ∷ xs) = true

some_kept : (f : Process → Bool) (ps : List Process) → has_some (filter f ps) ≡ list_any f ps
some_kept f [] = refl
some_kept f (p ∷ ps) =
    elim (f p) as (λ b. has_some (cond b (p ∷ filter f ps) (filter f ps)) ≡ (b || list_any f ps)) [ true ↦ refl | false ↦ some_kept f ps ]

some_kept_more : (g : Process → Bool) (a b : Bool) (p : Process) (qs : List Process) (rest : Bool) → g p ≡ b → has_some (filter g qs) ≡ rest → has_some (filter g (cond a (p ∷ qs) qs)) ≡ (a && b || rest)
some_kept_more g true true p qs rest e h = ap (λ (b : Bool). has_some (cond b (p ∷ filter g qs) (filter g qs))) e
some_kept_more g true false p qs rest e h = ap (λ (b : Bool). has_some (cond b (p ∷ filter g qs) (filter g qs))) e ∙ h
some_kept_more g false b p qs rest e h = h

some_kept_twice : (f g : Process → Bool) (ps : List Process) → has_some (filter g (filter f ps)) ≡ list_any (λ p. f p && g p) ps
some_kept_twice f g [] = refl
some_kept_twice f g (p ∷ ps) = some_kept_more g (f p) (g p) p (filter f ps) (list_any (λ p. f p && g p) ps) refl (some_kept_twice f g ps)

waits_for_is : (c : Description) (u : Unix) (p : Process) (children ends : List Process) → is_wait (waits_for c u p children ends) ≡ (has_some children && not (has_some ends))
waits_for_is c u p [] ends = refl
waits_for_is c u p (child ∷ children) [] = refl
waits_for_is c u p (child ∷ children) (first ∷ rest) = refl

wait_is : (c : Description) (w : World) (ps : List Process) (p : Process) → is_wait (wait c (unix_of c w ps) p) ≡ waits_for_child p.pid ps
wait_is c w ps p =
    waits_for_is c (unix_of c w ps) p (filter (is_unwaited p.pid) ps) (ended_ones (filter (is_unwaited p.pid) ps))
    ∙ ap₂ (λ (some ended : Bool). some && not ended) (some_kept (is_unwaited p.pid) ps) (some_kept_twice (is_unwaited p.pid) (λ (q : Process). is_some q.ending) ps)

-- ---- pd_get

first_is : (c : Description) (u : Unix) (p : Process) (max : ℕ) (device : Device) (asks : List Ask) → is_wait (takes_first c u p max device asks) ≡ has_none asks
first_is c u p max device [] = refl
first_is c u p max device (ask ∷ asks) = by_test (nat_lt max (length (asked_bytes ask.call))) _ _ refl refl

get_device_is : (c : Description) (u : Unix) (p : Process) (max : ℕ) (o : Option Device) → is_wait (with_device_of c u p o (get_from c u p max)) ≡ is_idle_at o
get_device_is c u p max None = refl
get_device_is c u p max (Some device) =
    elim (is_some device.in_hand) as (λ b. is_wait (cond b (refuses c u p errno.Busy) (takes_first c u p max device device.asks)) ≡ (not b && has_none device.asks)) [ true ↦ refl | false ↦ first_is c u p max device device.asks ]

get_object_is : (c : Description) (u : Unix) (p : Process) (max : ℕ) (o : Object) → is_wait (with_device_of c u p (device_of u o) (get_from c u p max)) ≡ waits_at_object u.devices o
get_object_is c u p max (object.OfMaster place) = get_device_is c u p max (device_at u.devices place)
get_object_is c u p max (object.OfFile name) = refl
get_object_is c u p max (object.OfDevice place) = refl

get_stream_is : (c : Description) (u : Unix) (p : Process) (max : ℕ) (o : Option Stream) → is_wait (with_found c u p o (λ stream. with_device_of c u p (device_of u stream.object) (get_from c u p max))) ≡ waits_at_stream u.devices o
get_stream_is c u p max None = refl
get_stream_is c u p max (Some stream) = get_object_is c u p max stream.object

-- ---- all

-- a call of some process waits or not
outcome_is : (c : Description) (w : World) (ps : List Process) (p : Process) (k : Call) → is_wait (outcome c (unix_of c w ps) p k) ≡ waits_by w ps p k
outcome_is c w ps p (call.Print bytes) = refl
outcome_is c w ps p (call.Exit code) = refl
outcome_is c w ps p call.BadStep = refl
outcome_is c w ps p call.Getpid = refl
outcome_is c w ps p call.Getppid = refl
outcome_is c w ps p (call.Host max) = by_test (nat_lt max (length (kernel_name c.kernels (home_of p.pid)))) _ _ refl refl
outcome_is c w ps p call.Tick = refl
outcome_is c w ps p call.Fork = by_test (nat_le 200 (births ps (home_of p.pid))) _ _ refl refl
outcome_is c w ps p (call.Exec name arg) = exec_goes c (unix_of c w ps) p (program_named c.programs name) arg
outcome_is c w ps p call.Wait = wait_is c w ps p
outcome_is c w ps p (call.Kill pid) = kill_goes c (unix_of c w ps) p (process_at ps pid)
outcome_is c w ps p (call.OpenFile path flags) = open_goes c (unix_of c w ps) p (flags_of flags) path
outcome_is c w ps p (call.Close fd) =
    stream_goes c (unix_of c w ps) p fd (λ stream. is_done c (unix_of c w ps) (record p { descriptors = slice_set p.descriptors fd None })) (λ stream. refl)
outcome_is c w ps p (call.Dup fd) =
    stream_goes c (unix_of c w ps) p fd (λ stream. dup_at c (unix_of c w ps) p stream (free_descriptor p)) (λ stream. dup_goes c (unix_of c w ps) p stream (free_descriptor p))
outcome_is c w ps p (call.Read fd many) =
    stream_goes c (unix_of c w ps) p fd (read_stream c (unix_of c w ps) p many) (λ stream. by_test (reads stream.mode) _ _ (read_goes c (unix_of c w ps) p stream many stream.object) refl)
outcome_is c w ps p (call.Write fd bytes) =
    stream_goes c (unix_of c w ps) p fd (write_stream c (unix_of c w ps) p bytes) (λ stream. by_test (writes stream.mode) _ _ (write_goes c (unix_of c w ps) p stream bytes stream.object) refl)
outcome_is c w ps p (call.Seek fd offset) =
    stream_goes c (unix_of c w ps) p fd (λ stream. with_file c (unix_of c w ps) p stream.object (λ name. seek_to c (unix_of c w ps) p offset stream))
    (λ stream. file_goes c (unix_of c w ps) p stream.object (λ name. seek_to c (unix_of c w ps) p offset stream) (λ name. by_test (nat_lt w.limit offset) _ _ refl refl))
outcome_is c w ps p (call.Size fd) =
    stream_goes c (unix_of c w ps) p fd (λ stream. with_file c (unix_of c w ps) p stream.object (λ name. gives c (unix_of c w ps) p (length (bytes_of w.files name))))
    (λ stream. file_goes c (unix_of c w ps) p stream.object (λ name. gives c (unix_of c w ps) p (length (bytes_of w.files name))) (λ name. refl))
outcome_is c w ps p (call.Sync fd) =
    stream_goes c (unix_of c w ps) p fd (λ stream. with_file c (unix_of c w ps) p stream.object (λ name. is_done c (unix_of c w ps) p))
    (λ stream. file_goes c (unix_of c w ps) p stream.object (λ name. is_done c (unix_of c w ps) p) (λ name. refl))
outcome_is c w ps p (call.Stat path) =
    path_goes c (unix_of c w ps) p path (stat c (unix_of c w ps) p) (λ at. refused_or c (unix_of c w ps) p (walk w.nodes at) (stat_of c (unix_of c w ps) p at (node_at w.nodes at)) (stat_goes c (unix_of c w ps) p at (node_at w.nodes at)))
outcome_is c w ps p (call.Mkdir path) =
    path_goes c (unix_of c w ps) p path (mkdir c (unix_of c w ps) p) (λ at. refused_or c (unix_of c w ps) p (new_refusal (unix_of c w ps) at) _ refl)
outcome_is c w ps p (call.Rmdir path) =
    path_goes c (unix_of c w ps) p path (rmdir c (unix_of c w ps) p) (λ at. refused_or c (unix_of c w ps) p (rmdir_refusal (unix_of c w ps) at) _ refl)
outcome_is c w ps p (call.Unlink path) =
    path_goes c (unix_of c w ps) p path (unlink c (unix_of c w ps) p) (λ at. refused_or c (unix_of c w ps) p (unlink_refusal (unix_of c w ps) at) _ refl)
outcome_is c w ps p (call.Rename old new) =
    path_goes c (unix_of c w ps) p old (λ from. at_path c (unix_of c w ps) p new (rename c (unix_of c w ps) p from))
    (λ from. path_goes c (unix_of c w ps) p new (rename c (unix_of c w ps) p from) (λ to. refused_or c (unix_of c w ps) p (rename_refusal (unix_of c w ps) from to) _ refl))
outcome_is c w ps p (call.List path max) =
    path_goes c (unix_of c w ps) p path (λ at. list c (unix_of c w ps) p at max) (λ at. refused_or c (unix_of c w ps) p (list_refusal (unix_of c w ps) at max) _ refl)
outcome_is c w ps p (call.Chdir path) =
    path_goes c (unix_of c w ps) p path (chdir c (unix_of c w ps) p) (λ at. refused_or c (unix_of c w ps) p (chdir_refusal (unix_of c w ps) at) _ refl)
outcome_is c w ps p (call.Migrate name) = refused_or c (unix_of c w ps) p (move_refusal c (unix_of c w ps) p name) (is_done c (unix_of c w ps) p) refl
outcome_is c w ps p (call.PdMake path) = make_goes c (unix_of c w ps) p (free_descriptor p) path
outcome_is c w ps p (call.PdGet fd max) = get_stream_is c (unix_of c w ps) p max (stream_of_fd w p fd)
outcome_is c w ps p (call.PdPut fd bytes number) =
    master_goes c (unix_of c w ps) p fd (λ device. put_to c (unix_of c w ps) p bytes number device device.in_hand) (λ device. put_goes c (unix_of c w ps) p bytes number device device.in_hand)
outcome_is c w ps p (call.Ioctl fd command bytes) =
    stream_goes c (unix_of c w ps) p fd (λ stream. ioctl_object c (unix_of c w ps) p stream.object) (λ stream. ioctl_goes c (unix_of c w ps) p stream.object)
outcome_is c w ps p (call.Rexec name host) = rexec_goes c (unix_of c w ps) p (program_named c.programs name) host
outcome_is c w ps p (call.Refused e) = refl

-- the image isn't looked at
waits_same : (w : World) (ps : List Process) (p : Process) (m : Machine) (k : Call) → waits_by w ps (record p { image = m }) k ≡ waits_by w ps p k
waits_same w ps p m call.Wait = refl
waits_same w ps p m (call.PdGet fd max) = refl
waits_same w ps p m _ = refl

-- of a process whose image has come to the call
pub outcome_waits : (c : Description) (w : World) (ps : List Process) (p : Process) (m : Machine) (k : Call) → is_wait (outcome c (unix_of c w ps) (record p { image = m }) k) ≡ waits_by w ps p k
outcome_waits c w ps p m k = outcome_is c w ps (record p { image = m }) k ∙ waits_same w ps p m k
