-- Which changes of the one-kernel Unix an answered call makes.
use Rattle.std.proofs.Common.{◌≡◌, ◌<◌, ◌+◌, ◌-◌, ℕ, Bool, true, false, cond, List, [], ◌∷◌, ◌++◌, length, slice_set, Option, Some, None, refl, sym, ap, inl, inr, nat_lt, nat_le, arith}
use Rattle.std.specs.Prelude.{◌==◌}
use Rattle.std.specs.List.{AllByRecursion}
use Rattle.std.specs.Option.{is_some}
use Rattle.std.proofs.lemmas.Bool.{leb-false, true≢false}
use Rattle.sprite_ids.specs.Pid.{home_of}
use Rattle.sprite_ids.specs.declared.Errno.{Errno}
use Rattle.sprite_ids.specs.declared.Errno.TheVariants as errno
use Rattle.sprite_ids.specs.declared.Ending.{Ending}
use Rattle.sprite_ids.specs.declared.Ending.TheVariants as ending
use Rattle.sprite_ids.specs.declared.Mode.{Mode}
use Rattle.sprite_ids.specs.declared.Mode.TheVariants as mode
use Rattle.sprite_ids.proofs.ListLaws.{each_filter, each_weaken}
use Rattle.sprite_paths.specs.Path.{clean_path}
use Rattle.process_machine.specs.declared.call.Call.{Call}
use Rattle.process_machine.specs.declared.call.Call.TheVariants as call
use Rattle.process_machine.specs.declared.call.Reply.{Reply}
use Rattle.process_machine.specs.declared.call.Reply.TheVariants.{Error}
use Rattle.process_machine.specs.declared.program.Program.{Program}
use Rattle.process_machine.specs.Fresh.{fresh_machine}
use Rattle.unix_calls.specs.declared.Description.{Description}
use Rattle.unix_calls.specs.declared.state.Ask.{Ask}
use Rattle.unix_calls.specs.declared.state.Device.{Device}
use Rattle.unix_calls.specs.declared.state.FileName.{FileName}
use Rattle.unix_calls.specs.declared.state.FileName.TheVariants.{Made}
use Rattle.unix_calls.specs.declared.state.Node.{Node}
use Rattle.unix_calls.specs.declared.state.Node.TheVariants.{Directory, FileNode, DeviceNode}
use Rattle.unix_calls.specs.declared.state.Object.{Object}
use Rattle.unix_calls.specs.declared.state.Object.TheVariants.{OfFile, OfDevice, OfMaster}
use Rattle.unix_calls.specs.declared.state.Process.{Process}
use Rattle.unix_calls.specs.declared.state.Stream.{Stream}
use Rattle.unix_calls.specs.Tree.{node_at, walk}
use Rattle.unix_calls.specs.State.{Unix, births, bytes_of, device_at, free_descriptor, lives, next_pid, process_at, stream_of, with_bytes, with_device, with_process}
use Rattle.unix_calls.specs.Answers.{Outcome, Answered, GoesTo, Waits, gives, is_done, nothing, refuses, replied, replies, unless_refused, value}
use Rattle.unix_calls.specs.ProcessCalls.{child_of, ended, ended_ones, ends, exec_of, fork, is_unwaited, kernel_name, kill_of, move_refusal, program_named, rexec_of, unwaited, wait, waits_for, with_kill}
use Rattle.unix_calls.specs.NameCalls.{at_path, chdir, chdir_refusal, list, list_refusal, mkdir, moved_to, named, new_refusal, rename, rename_refusal, rmdir, rmdir_refusal, stat, stat_of, unlink, unlink_refusal, unnamed, with_path}
use Rattle.unix_calls.specs.declared.state.Flags.{Flags}
use Rattle.unix_calls.specs.Opening.{at_descriptor, create_refusal, cut, flags_of, make_at, make_with, open_at, open_by, open_node, open_with, opened, reads, with_new_device, with_new_file, with_new_stream, writes}
use Rattle.unix_calls.specs.StreamCalls.{at_offset, at_stream, begins_at, close, dup_at, read, read_object, read_stream, seek, seek_to, size, sync, with_file, with_found, write, write_object, write_stream}
use Rattle.unix_calls.specs.DeviceCalls.{answer_of, asked_bytes, at_master, device_of, get_from, ioctl_object, left, pd_get, put_to, puts, taken, takes_first, with_device_of}
use Rattle.unix_calls.specs.After.{outcome}
use Rattle.unix_calls.specs.Laws.{is_last_call}
use Rattle.unix_calls.proofs.OutcomeLaws.{IsAmong}
use Rattle.unix_calls.proofs.ProcessLaws.{found_pid}
use Rattle.unix_calls.proofs.ProcessCallLaws.{found_among}
use Rattle.unix_frames.specs.Frames.{handles_device, is_naming, makes_device, moves_offset, opens, writes_file}

-- a process is as it was to its home
pub record Alike (p r : Process) : Type 0 where
  pub pid : r.pid ≡ p.pid
  pub parent : r.parent ≡ p.parent
  pub ending : r.ending ≡ p.ending
  pub waited : r.waited ≡ p.waited
  pub killed : r.killed ≡ p.killed

-- the caller is as it was beside its image, its calls, its console and its working directory
pub record Still (p r : Process) : Type 0 where
  pub alike : Alike p r
  pub descriptors : r.descriptors ≡ p.descriptors

-- a descriptor of the caller leads elsewhere
pub record Leads (p r : Process) (fd : ℕ) (place : Option ℕ) : Type 0 where
  pub alike : Alike p r
  pub descriptors : r.descriptors ≡ slice_set p.descriptors fd place

-- the caller is killed, where it kills itself
pub record Kills (p r : Process) (itself : Bool) : Type 0 where
  pub pid : r.pid ≡ p.pid
  pub parent : r.parent ≡ p.parent
  pub ending : r.ending ≡ p.ending
  pub waited : r.waited ≡ p.waited
  pub descriptors : r.descriptors ≡ p.descriptors
  pub killed : itself ≡ false → r.killed ≡ p.killed

-- a child that is born: it lives, and has its parent's descriptors and directory
pub record IsFresh (p child : Process) : Type 0 where
  pub descriptors : child.descriptors ≡ p.descriptors
  pub cwd : child.cwd ≡ p.cwd
  pub ending : child.ending ≡ None
  pub asking : child.asking ≡ None
  pub killed : child.killed ≡ false
  pub waited : child.waited ≡ false
  pub calls : child.calls ≡ 0

-- what an answered call does, whose caller is p
pub data Change (u : Unix) (p : Process) (called : Call) (later : Unix) : Type 0 where
  -- the caller alone changes
  Itself : (r : Process) → Still p r → later ≡ with_process r u → Change u p called later
  Freed : (fd : ℕ) (r : Process) → called ≡ call.Close fd → Leads p r fd None → later ≡ with_process r u → Change u p called later
  Doubled : (fd free : ℕ) (stream : Stream) (r : Process) → called ≡ call.Dup fd → stream_of u p fd ≡ Some stream → free_descriptor p ≡ Some free → Leads p r free (Some stream.place) → later ≡ with_process r u → Change u p called later
  EndedSo : (how : Ending) → is_last_call called ≡ true → later ≡ with_process (ended p how) u → Change u p called later
  -- a count of ticks; a child that is born; one that is waited for; one that a kill is pending for
  Ticked : (count : ℕ) (r : Process) → called ≡ call.Tick → Still p r → later ≡ with_process r (record u { ticks = slice_set u.ticks (home_of p.pid - 1) count }) → Change u p called later
  Born : (r : Process) → called ≡ call.Fork → births u.processes (home_of p.pid) < 200 → Still p r → (child : Process) → child.pid ≡ next_pid u.processes (home_of p.pid) → child.parent ≡ Some p.pid → IsFresh p child → later ≡ with_process r (with_process child u) → Change u p called later
  WaitedFor : (first r : Process) → called ≡ call.Wait → IsAmong first u.processes → Still p r → later ≡ with_process r (with_process (record first { waited = true }) u) → Change u p called later
  KilledSo : (target r : Process) → called ≡ call.Kill target.pid → IsAmong target u.processes → Kills p r (target.pid == p.pid) → later ≡ with_process r (with_kill target u) → Change u p called later
  -- names
  MadeDirectory : (path : List (List ℕ)) (r : Process) → is_naming called ≡ true → new_refusal u path ≡ None → Still p r → later ≡ with_process r (named path Directory u) → Change u p called later
  RemovedDirectory : (path : List (List ℕ)) (r : Process) → is_naming called ≡ true → rmdir_refusal u path ≡ None → Still p r → later ≡ with_process r (unnamed path u) → Change u p called later
  Unlinked : (path : List (List ℕ)) (r : Process) → is_naming called ≡ true → unlink_refusal u path ≡ None → Still p r → later ≡ with_process r (unnamed path u) → Change u p called later
  Renamed : (old new : List (List ℕ)) (r : Process) → is_naming called ≡ true → rename_refusal u old new ≡ None → Still p r → later ≡ with_process r (moved_to old new (node_at u.nodes old) u) → Change u p called later
  -- a new stream, of what stands at a path or is made there
  OpenedFile : (path : List (List ℕ)) (fd : ℕ) (name : FileName) (truncates appends : Bool) (m : Mode) (r : Process) → opens called ≡ true → node_at u.nodes path ≡ Some (FileNode name) → free_descriptor p ≡ Some fd → Leads p r fd (Some u.entries) → later ≡ with_process r (with_new_stream (OfFile name) m appends (cut truncates name u)) → Change u p called later
  OpenedDevice : (path : List (List ℕ)) (fd place : ℕ) (appends : Bool) (m : Mode) (r : Process) → opens called ≡ true → node_at u.nodes path ≡ Some (DeviceNode place) → free_descriptor p ≡ Some fd → Leads p r fd (Some u.entries) → later ≡ with_process r (with_new_stream (OfDevice place) m appends u) → Change u p called later
  CreatedFile : (path : List (List ℕ)) (fd : ℕ) (appends : Bool) (m : Mode) (r : Process) → opens called ≡ true → walk u.nodes path ≡ None → node_at u.nodes path ≡ None → free_descriptor p ≡ Some fd → Leads p r fd (Some u.entries) → later ≡ with_process r (with_new_stream (OfFile (Made u.entries)) m appends (with_new_file path u)) → Change u p called later
  MadeDevice : (path : List (List ℕ)) (fd : ℕ) (r : Process) → makes_device called ≡ true → new_refusal u path ≡ None → free_descriptor p ≡ Some fd → Leads p r fd (Some u.entries) → later ≡ with_process r (with_new_stream (OfMaster u.entries) mode.Both false (with_new_device path u)) → Change u p called later
  -- a stream's offset, a file's bytes
  MovedTo : (fd offset : ℕ) (stream : Stream) (r : Process) → moves_offset called ≡ true → stream_of u p fd ≡ Some stream → Still p r → later ≡ with_process r (at_offset offset stream u) → Change u p called later
  Wrote : (fd offset : ℕ) (stream : Stream) (name : FileName) (bytes : List ℕ) (r : Process) → writes_file called ≡ true → stream_of u p fd ≡ Some stream → stream.object ≡ OfFile name → Still p r → later ≡ with_process r (at_offset offset stream (record u { files = with_bytes name bytes u.files })) → Change u p called later
  -- a device, whose master takes an ask or answers it
  Handled : (place : ℕ) (device new : Device) (r : Process) → handles_device called ≡ true → device_at u.devices place ≡ Some device → new.place ≡ device.place → Still p r → later ≡ with_process r (record u { devices = with_device new u.devices }) → Change u p called later

abbrev pub MakesIn : Unix → Process → Call → Outcome → Type 0
MakesIn u p called (Answered reply later) = Change u p called later
MakesIn u p called (GoesTo place) = Unit {0}
MakesIn u p called Waits = Unit {0}

-- what an outcome does where it is answered
pub record Makes (u : Unix) (p : Process) (called : Call) (o : Outcome) : Type 0 where
  pub does : MakesIn u p called o

alike : (p : Process) → Alike p p
alike p = record { pid = refl; parent = refl; ending = refl; waited = refl; killed = refl }

pub still_replied : (c : Description) (p : Process) (reply : Reply) → Still p (replied c p reply)
still_replied c p reply = record { alike = record { pid = refl; parent = refl; ending = refl; waited = refl; killed = refl }; descriptors = refl }

made_refuses : (c : Description) (u : Unix) (p : Process) (called : Call) (e : Errno) → Makes u p called (refuses c u p e)
made_refuses c u p called e = record { does = Itself (replied c p (Error e)) (still_replied c p (Error e)) refl }

made_replies : (c : Description) (u : Unix) (p : Process) (called : Call) (reply : Reply) → Makes u p called (replies c u p reply)
made_replies c u p called reply = record { does = Itself (replied c p reply) (still_replied c p reply) refl }

made_waits : (u : Unix) (p : Process) (called : Call) → Makes u p called Waits
made_waits u p called = record { does = tt }

made_goes : (u : Unix) (p : Process) (called : Call) (place : ℕ) → Makes u p called (GoesTo place)
made_goes u p called place = record { does = tt }

made_if : (u : Unix) (p : Process) (called : Call) (b : Bool) (x y : Outcome) → (b ≡ true → Makes u p called x) → (b ≡ false → Makes u p called y) → Makes u p called (cond b x y)
made_if u p called true x y yes_so no_so = yes_so refl
made_if u p called false x y yes_so no_so = no_so refl

made_unless : (c : Description) (u : Unix) (p : Process) (called : Call) (refusal : Option Errno) (x : Outcome) → (refusal ≡ None → Makes u p called x) → Makes u p called (unless_refused c u p refusal x)
made_unless c u p called (Some e) x h = made_refuses c u p called e
made_unless c u p called None x h = h refl

made_with_path : (c : Description) (u : Unix) (p : Process) (called : Call) (found : Option (List (List ℕ))) (rest : List (List ℕ) → Outcome) → ((path : List (List ℕ)) → Makes u p called (rest path)) → Makes u p called (with_path c u p found rest)
made_with_path c u p called None rest h = made_refuses c u p called errno.BadName
made_with_path c u p called (Some path) rest h = h path

made_at_path : (c : Description) (u : Unix) (p : Process) (called : Call) (text : List ℕ) (rest : List (List ℕ) → Outcome) → ((path : List (List ℕ)) → Makes u p called (rest path)) → Makes u p called (at_path c u p text rest)
made_at_path c u p called text rest h = made_with_path c u p called (clean_path p.cwd text) rest h

made_with_found : (c : Description) (u : Unix) (p : Process) (called : Call) (found : Option Stream) (rest : Stream → Outcome) → ((s : Stream) → found ≡ Some s → Makes u p called (rest s)) → Makes u p called (with_found c u p found rest)
made_with_found c u p called None rest h = made_refuses c u p called errno.BadFd
made_with_found c u p called (Some s) rest h = h s refl

made_at_stream : (c : Description) (u : Unix) (p : Process) (called : Call) (fd : ℕ) (rest : Stream → Outcome) → ((s : Stream) → stream_of u p fd ≡ Some s → Makes u p called (rest s)) → Makes u p called (at_stream c u p fd rest)
made_at_stream c u p called fd rest h = made_with_found c u p called (stream_of u p fd) rest h

made_with_file : (c : Description) (u : Unix) (p : Process) (called : Call) (object : Object) (rest : FileName → Outcome) → ((name : FileName) → object ≡ OfFile name → Makes u p called (rest name)) → Makes u p called (with_file c u p object rest)
made_with_file c u p called (OfFile name) rest h = h name refl
made_with_file c u p called (OfDevice place) rest h = made_refuses c u p called errno.Invalid
made_with_file c u p called (OfMaster place) rest h = made_refuses c u p called errno.Invalid

-- ---- processes

made_fork : (c : Description) (u : Unix) (p : Process) → Makes u p call.Fork (fork c u p)
made_fork c u p =
    made_if u p call.Fork (nat_le 200 (births u.processes (home_of p.pid))) _ _ (λ e. made_refuses c u p call.Fork errno.TooMany)
    (λ e. record {
      does = Born (replied c p (value (next_pid u.processes (home_of p.pid)))) refl (omega (arith, leb-false 200 (births u.processes (home_of p.pid)) e)) (still_replied c p (value (next_pid u.processes (home_of p.pid))))
          (child_of c p (next_pid u.processes (home_of p.pid))) refl refl (record { descriptors = refl; cwd = refl; ending = refl; asking = refl; killed = refl; waited = refl; calls = refl }) refl;
    })

made_exec : (c : Description) (u : Unix) (p : Process) (called : Call) (arg : ℕ) (found : Option Program) → Makes u p called (exec_of c u p found arg)
made_exec c u p called arg None = made_refuses c u p called errno.NoEntry
made_exec c u p called arg (Some program) =
    record { does = Itself (record p { image = fresh_machine program arg; calls = p.calls + 1 }) (record { alike = record { pid = refl; parent = refl; ending = refl; waited = refl; killed = refl }; descriptors = refl }) refl }

made_rexec : (c : Description) (u : Unix) (p : Process) (called : Call) (name : List ℕ) (found : Option Program) → Makes u p called (rexec_of c u p found name)
made_rexec c u p called name None = made_refuses c u p called errno.NoEntry
made_rexec c u p called name (Some program) =
    made_unless c u p called (move_refusal c u p name) _
    (λ e. record { does = Itself (record p { image = fresh_machine program 0; calls = p.calls + 1 }) (record { alike = record { pid = refl; parent = refl; ending = refl; waited = refl; killed = refl }; descriptors = refl }) refl })

pub each_among : (ps : List Process) → AllByRecursion (λ (q : Process). IsAmong q ps) ps
each_among [] = tt
each_among (p ∷ ps) = (inl refl, each_weaken (λ (q : Process). IsAmong q ps) (λ (q : Process). IsAmong q (p ∷ ps)) ps (λ q h. inr h) (each_among ps))

made_waits_for : (c : Description) (u : Unix) (p : Process) (children ends : List Process) → AllByRecursion (λ (q : Process). IsAmong q u.processes) ends → Makes u p call.Wait (waits_for c u p children ends)
made_waits_for c u p [] ends among = made_refuses c u p call.Wait errno.NoChild
made_waits_for c u p (child ∷ children) [] among = made_waits u p call.Wait
made_waits_for c u p (child ∷ children) (first ∷ rest) among = record { does = WaitedFor first (replied c p _) refl among.0 (still_replied c p _) refl }

made_wait : (c : Description) (u : Unix) (p : Process) → Makes u p call.Wait (wait c u p)
made_wait c u p =
    made_waits_for c u p (unwaited u p) (ended_ones (unwaited u p))
    (each_filter (λ (q : Process). IsAmong q u.processes) (λ (q : Process). is_some q.ending) (unwaited u p) (each_filter (λ (q : Process). IsAmong q u.processes) (is_unwaited p.pid) u.processes (each_among u.processes)))

made_kill_of : (c : Description) (u : Unix) (p : Process) (pid : ℕ) (found : Option Process) → process_at u.processes pid ≡ found → Makes u p (call.Kill pid) (kill_of c u p found)
made_kill_of c u p pid None there = made_refuses c u p (call.Kill pid) errno.NoProcess
made_kill_of c u p pid (Some target) there =
    let number : pid ≡ target.pid = sym (found_pid u.processes pid target there) in
    made_if u p (call.Kill pid) (lives target) _ _
    (λ e. record {
      does = KilledSo target (replied c (cond (target.pid == p.pid) (record p { killed = true }) p) nothing) (ap call.Kill number) (found_among u.processes pid target there)
          (by (target.pid == p.pid)) refl;
    })
    (λ e. made_refuses c u p (call.Kill pid) errno.NoProcess)
  where
    by : (b : Bool) → Kills p (replied c (cond b (record p { killed = true }) p) nothing) b
    by true = record { pid = refl; parent = refl; ending = refl; waited = refl; descriptors = refl; killed = λ no_kill. absurd (true≢false no_kill) }
    by false = record { pid = refl; parent = refl; ending = refl; waited = refl; descriptors = refl; killed = λ no_kill. refl }

-- ---- names

made_stat : (c : Description) (u : Unix) (p : Process) (called : Call) (path : List (List ℕ)) (node : Option Node) → Makes u p called (stat_of c u p path node)
made_stat c u p called path None = made_refuses c u p called errno.NoEntry
made_stat c u p called path (Some Directory) = made_replies c u p called _
made_stat c u p called path (Some (FileNode name)) = made_replies c u p called (value 1)
made_stat c u p called path (Some (DeviceNode place)) = made_replies c u p called (value 3)

made_mkdir : (c : Description) (u : Unix) (p : Process) (text : List ℕ) (path : List (List ℕ)) → Makes u p (call.Mkdir text) (mkdir c u p path)
made_mkdir c u p text path =
    made_unless c u p (call.Mkdir text) (new_refusal u path) _ (λ e. record { does = MadeDirectory path (replied c p nothing) refl e (still_replied c p nothing) refl })

made_rmdir : (c : Description) (u : Unix) (p : Process) (text : List ℕ) (path : List (List ℕ)) → Makes u p (call.Rmdir text) (rmdir c u p path)
made_rmdir c u p text path =
    made_unless c u p (call.Rmdir text) (rmdir_refusal u path) _ (λ e. record { does = RemovedDirectory path (replied c p nothing) refl e (still_replied c p nothing) refl })

made_unlink : (c : Description) (u : Unix) (p : Process) (text : List ℕ) (path : List (List ℕ)) → Makes u p (call.Unlink text) (unlink c u p path)
made_unlink c u p text path =
    made_unless c u p (call.Unlink text) (unlink_refusal u path) _ (λ e. record { does = Unlinked path (replied c p nothing) refl e (still_replied c p nothing) refl })

made_rename : (c : Description) (u : Unix) (p : Process) (one two : List ℕ) (old new : List (List ℕ)) → Makes u p (call.Rename one two) (rename c u p old new)
made_rename c u p one two old new =
    made_unless c u p (call.Rename one two) (rename_refusal u old new) _ (λ e. record { does = Renamed old new (replied c p nothing) refl e (still_replied c p nothing) refl })

made_list : (c : Description) (u : Unix) (p : Process) (called : Call) (path : List (List ℕ)) (max : ℕ) → Makes u p called (list c u p path max)
made_list c u p called path max = made_unless c u p called (list_refusal u path max) _ (λ e. made_replies c u p called _)

made_chdir : (c : Description) (u : Unix) (p : Process) (called : Call) (path : List (List ℕ)) → Makes u p called (chdir c u p path)
made_chdir c u p called path =
    made_unless c u p called (chdir_refusal u path) _
    (λ e. record { does = Itself (replied c (record p { cwd = path }) nothing) (record { alike = record { pid = refl; parent = refl; ending = refl; waited = refl; killed = refl }; descriptors = refl }) refl })

-- ---- streams

led : (c : Description) (p : Process) (fd place : ℕ) (reply : Reply) → Leads p (replied c (record p { descriptors = slice_set p.descriptors fd (Some place) }) reply) fd (Some place)
led c p fd place reply = record { alike = record { pid = refl; parent = refl; ending = refl; waited = refl; killed = refl }; descriptors = refl }

made_open_node : (c : Description) (u : Unix) (p : Process) (text : List ℕ) (n fd : ℕ) (flags : Flags) (path : List (List ℕ)) (node : Option Node) → free_descriptor p ≡ Some fd → walk u.nodes path ≡ None → node_at u.nodes path ≡ node
    → Makes u p (call.OpenFile text n) (open_node c u p fd flags path node)
made_open_node c u p text n fd flags path None free way there =
    made_unless c u p (call.OpenFile text n) (create_refusal u flags path) _
    (λ e. record { does = CreatedFile path fd flags.appends flags.mode (replied c (at_descriptor u fd p) (value fd)) refl way there free (led c p fd u.entries (value fd)) refl })
made_open_node c u p text n fd flags path (Some Directory) free way there = made_refuses c u p (call.OpenFile text n) errno.IsDir
made_open_node c u p text n fd flags path (Some (FileNode name)) free way there = by flags.truncates
  where
    by : (truncates : Bool) → Makes u p (call.OpenFile text n) (opened c (cut truncates name u) p fd (OfFile name) flags.mode flags.appends)
    by true = record { does = OpenedFile path fd name true flags.appends flags.mode (replied c (at_descriptor u fd p) (value fd)) refl there free (led c p fd u.entries (value fd)) refl }
    by false = record { does = OpenedFile path fd name false flags.appends flags.mode (replied c (at_descriptor u fd p) (value fd)) refl there free (led c p fd u.entries (value fd)) refl }
made_open_node c u p text n fd flags path (Some (DeviceNode place)) free way there =
    record { does = OpenedDevice path fd place flags.appends flags.mode (replied c (at_descriptor u fd p) (value fd)) refl there free (led c p fd u.entries (value fd)) refl }

made_open_with : (c : Description) (u : Unix) (p : Process) (text : List ℕ) (n : ℕ) (flags : Flags) (fd : Option ℕ) → free_descriptor p ≡ fd → Makes u p (call.OpenFile text n) (open_with c u p fd flags text)
made_open_with c u p text n flags None free = made_refuses c u p (call.OpenFile text n) errno.TooMany
made_open_with c u p text n flags (Some fd) free =
    made_at_path c u p (call.OpenFile text n) text (open_at c u p fd flags)
    (λ path. made_unless c u p (call.OpenFile text n) (walk u.nodes path) _ (λ way. made_open_node c u p text n fd flags path (node_at u.nodes path) free way refl))

made_open_by : (c : Description) (u : Unix) (p : Process) (text : List ℕ) (n : ℕ) (flags : Option Flags) → Makes u p (call.OpenFile text n) (open_by c u p flags text)
made_open_by c u p text n None = made_refuses c u p (call.OpenFile text n) errno.Invalid
made_open_by c u p text n (Some flags) = made_open_with c u p text n flags (free_descriptor p) refl

made_make_with : (c : Description) (u : Unix) (p : Process) (text : List ℕ) (fd : Option ℕ) → free_descriptor p ≡ fd → Makes u p (call.PdMake text) (make_with c u p fd text)
made_make_with c u p text None free = made_refuses c u p (call.PdMake text) errno.TooMany
made_make_with c u p text (Some fd) free =
    made_at_path c u p (call.PdMake text) text (make_at c u p fd)
    (λ path. made_unless c u p (call.PdMake text) (new_refusal u path) _
    (λ e. record { does = MadeDevice path fd (replied c (at_descriptor u fd p) (value fd)) refl e free (led c p fd u.entries (value fd)) refl }))

made_close : (c : Description) (u : Unix) (p : Process) (fd : ℕ) → Makes u p (call.Close fd) (close c u p fd)
made_close c u p fd =
    made_at_stream c u p (call.Close fd) fd (λ stream. is_done c u (record p { descriptors = slice_set p.descriptors fd None }))
    (λ s e. record { does = Freed fd (replied c (record p { descriptors = slice_set p.descriptors fd None }) nothing) refl (record { alike = record { pid = refl; parent = refl; ending = refl; waited = refl; killed = refl }; descriptors = refl }) refl })

made_dup_at : (c : Description) (u : Unix) (p : Process) (fd : ℕ) (stream : Stream) (free : Option ℕ) → stream_of u p fd ≡ Some stream → free_descriptor p ≡ free → Makes u p (call.Dup fd) (dup_at c u p stream free)
made_dup_at c u p fd stream None found free = made_refuses c u p (call.Dup fd) errno.TooMany
made_dup_at c u p fd stream (Some to) found free =
    record { does = Doubled fd to stream (replied c (record p { descriptors = slice_set p.descriptors to (Some stream.place) }) (value to)) refl found free (led c p to stream.place (value to)) refl }

made_read_object : (c : Description) (u : Unix) (p : Process) (fd many : ℕ) (stream : Stream) (object : Object) → stream_of u p fd ≡ Some stream → Makes u p (call.Read fd many) (read_object c u p stream many object)
made_read_object c u p fd many stream (OfFile name) found = record { does = MovedTo fd _ stream (replied c p _) refl found (still_replied c p _) refl }
made_read_object c u p fd many stream (OfDevice place) found = made_goes u p (call.Read fd many) place
made_read_object c u p fd many stream (OfMaster place) found = made_refuses c u p (call.Read fd many) errno.BadMode

made_read : (c : Description) (u : Unix) (p : Process) (fd many : ℕ) → Makes u p (call.Read fd many) (read c u p fd many)
made_read c u p fd many =
    made_at_stream c u p (call.Read fd many) fd (read_stream c u p many)
    (λ s e. made_if u p (call.Read fd many) (reads s.mode) _ _ (λ on. made_read_object c u p fd many s s.object e) (λ off. made_refuses c u p (call.Read fd many) errno.BadMode))

made_write_object : (c : Description) (u : Unix) (p : Process) (fd : ℕ) (bytes : List ℕ) (stream : Stream) (object : Object) → stream_of u p fd ≡ Some stream → stream.object ≡ object → Makes u p (call.Write fd bytes) (write_object c u p stream bytes object)
made_write_object c u p fd bytes stream (OfFile name) found is =
    made_if u p (call.Write fd bytes) (nat_lt u.limit (begins_at stream (bytes_of u.files name) + length bytes)) _ _ (λ e. made_refuses c u p (call.Write fd bytes) errno.TooBig)
    (λ e. record { does = Wrote fd _ stream name _ (replied c p (value (length bytes))) refl found is (still_replied c p (value (length bytes))) refl })
made_write_object c u p fd bytes stream (OfDevice place) found is = made_goes u p (call.Write fd bytes) place
made_write_object c u p fd bytes stream (OfMaster place) found is = made_refuses c u p (call.Write fd bytes) errno.BadMode

made_write : (c : Description) (u : Unix) (p : Process) (fd : ℕ) (bytes : List ℕ) → Makes u p (call.Write fd bytes) (write c u p fd bytes)
made_write c u p fd bytes =
    made_at_stream c u p (call.Write fd bytes) fd (write_stream c u p bytes)
    (λ s e. made_if u p (call.Write fd bytes) (writes s.mode) _ _ (λ on. made_write_object c u p fd bytes s s.object e refl) (λ off. made_refuses c u p (call.Write fd bytes) errno.BadMode))

made_seek : (c : Description) (u : Unix) (p : Process) (fd offset : ℕ) → Makes u p (call.Seek fd offset) (seek c u p fd offset)
made_seek c u p fd offset =
    made_at_stream c u p (call.Seek fd offset) fd (λ stream. with_file c u p stream.object (λ name. seek_to c u p offset stream))
    (λ s e. made_with_file c u p (call.Seek fd offset) s.object (λ name. seek_to c u p offset s)
    (λ name is. made_if u p (call.Seek fd offset) (nat_lt u.limit offset) _ _ (λ on. made_refuses c u p (call.Seek fd offset) errno.Invalid)
    (λ off. record { does = MovedTo fd offset s (replied c p (value offset)) refl e (still_replied c p (value offset)) refl })))

made_size : (c : Description) (u : Unix) (p : Process) (fd : ℕ) → Makes u p (call.Size fd) (size c u p fd)
made_size c u p fd =
    made_at_stream c u p (call.Size fd) fd (λ stream. with_file c u p stream.object (λ name. gives c u p (length (bytes_of u.files name))))
    (λ s e. made_with_file c u p (call.Size fd) s.object (λ name. gives c u p (length (bytes_of u.files name))) (λ name is. made_replies c u p (call.Size fd) (value (length (bytes_of u.files name)))))

made_sync : (c : Description) (u : Unix) (p : Process) (fd : ℕ) → Makes u p (call.Sync fd) (sync c u p fd)
made_sync c u p fd =
    made_at_stream c u p (call.Sync fd) fd (λ stream. with_file c u p stream.object (λ name. is_done c u p))
    (λ s e. made_with_file c u p (call.Sync fd) s.object (λ name. is_done c u p) (λ name is. made_replies c u p (call.Sync fd) nothing))

-- ---- devices

made_ioctl_object : (c : Description) (u : Unix) (p : Process) (called : Call) (object : Object) → Makes u p called (ioctl_object c u p object)
made_ioctl_object c u p called (OfFile name) = made_refuses c u p called errno.Invalid
made_ioctl_object c u p called (OfDevice place) = made_goes u p called place
made_ioctl_object c u p called (OfMaster place) = made_refuses c u p called errno.BadMode

made_with_device : (c : Description) (u : Unix) (p : Process) (called : Call) (object : Object) (rest : Device → Outcome) → ((place : ℕ) (device : Device) → device_at u.devices place ≡ Some device → Makes u p called (rest device)) → Makes u p called (with_device_of c u p (device_of u object) rest)
made_with_device c u p called (OfFile name) rest h = made_refuses c u p called errno.BadMode
made_with_device c u p called (OfDevice place) rest h = made_refuses c u p called errno.BadMode
made_with_device c u p called (OfMaster place) rest h = by (device_at u.devices place) refl
  where
    by : (found : Option Device) → device_at u.devices place ≡ found → Makes u p called (with_device_of c u p found rest)
    by None e = made_refuses c u p called errno.BadMode
    by (Some device) e = h place device e

made_at_master : (c : Description) (u : Unix) (p : Process) (called : Call) (fd : ℕ) (rest : Device → Outcome) → ((place : ℕ) (device : Device) → device_at u.devices place ≡ Some device → Makes u p called (rest device)) → Makes u p called (at_master c u p fd rest)
made_at_master c u p called fd rest h = made_at_stream c u p called fd (λ stream. with_device_of c u p (device_of u stream.object) rest) (λ s e. made_with_device c u p called s.object rest h)

made_takes_first : (c : Description) (u : Unix) (p : Process) (fd max place : ℕ) (device : Device) (asks : List Ask) → device_at u.devices place ≡ Some device → Makes u p (call.PdGet fd max) (takes_first c u p max device asks)
made_takes_first c u p fd max place device [] found = made_waits u p (call.PdGet fd max)
made_takes_first c u p fd max place device (ask ∷ asks) found =
    made_if u p (call.PdGet fd max) (nat_lt max (length (asked_bytes ask.call))) _ _ (λ e. made_refuses c u p (call.PdGet fd max) errno.Invalid)
    (λ e. record { does = Handled place device (taken device ask asks) (replied c p _) refl found refl (still_replied c p _) refl })

made_pd_get : (c : Description) (u : Unix) (p : Process) (fd max : ℕ) → Makes u p (call.PdGet fd max) (pd_get c u p fd max)
made_pd_get c u p fd max =
    made_at_master c u p (call.PdGet fd max) fd (get_from c u p max)
    (λ place device e. made_if u p (call.PdGet fd max) (is_some device.in_hand) _ _ (λ on. made_refuses c u p (call.PdGet fd max) errno.Busy) (λ off. made_takes_first c u p fd max place device device.asks e))

made_put_to : (c : Description) (u : Unix) (p : Process) (fd : ℕ) (bytes : List ℕ) (number place : ℕ) (device : Device) (ask : Option Ask) → device_at u.devices place ≡ Some device → Makes u p (call.PdPut fd bytes number) (put_to c u p bytes number device ask)
made_put_to c u p fd bytes number place device None found = made_refuses c u p (call.PdPut fd bytes number) errno.Invalid
made_put_to c u p fd bytes number place device (Some ask) found = by (answer_of ask.call bytes number)
  where
    by : (answer : Option Reply) → Makes u p (call.PdPut fd bytes number) (puts c u p device ask answer)
    by None = made_refuses c u p (call.PdPut fd bytes number) errno.Invalid
    by (Some reply) = record { does = Handled place device (left device ask reply) (replied c p nothing) refl found refl (still_replied c p nothing) refl }

-- ---- each call

pub made_outcome : (c : Description) (u : Unix) (p : Process) (called : Call) → Makes u p called (outcome c u p called)
made_outcome c u p (call.Print bytes) =
    record { does = Itself (replied c (record p { console = p.console ++ bytes }) nothing) (record { alike = record { pid = refl; parent = refl; ending = refl; waited = refl; killed = refl }; descriptors = refl }) refl }
made_outcome c u p (call.Exit code) = record { does = EndedSo (ending.Exit code) refl refl }
made_outcome c u p call.BadStep = record { does = EndedSo ending.Bad refl refl }
made_outcome c u p call.Getpid = made_replies c u p call.Getpid (value p.pid)
made_outcome c u p call.Getppid = made_replies c u p call.Getppid _
made_outcome c u p (call.Host max) =
    made_if u p (call.Host max) (nat_lt max (length (kernel_name c.kernels (home_of p.pid)))) _ _ (λ e. made_refuses c u p (call.Host max) errno.Invalid) (λ e. made_replies c u p (call.Host max) _)
made_outcome c u p call.Tick = record { does = Ticked _ (replied c p _) refl (still_replied c p _) refl }
made_outcome c u p call.Fork = made_fork c u p
made_outcome c u p (call.Exec name arg) = made_exec c u p (call.Exec name arg) arg (program_named c.programs name)
made_outcome c u p call.Wait = made_wait c u p
made_outcome c u p (call.Kill pid) = made_kill_of c u p pid (process_at u.processes pid) refl
made_outcome c u p (call.OpenFile path flags) = made_open_by c u p path flags (flags_of flags)
made_outcome c u p (call.Close fd) = made_close c u p fd
made_outcome c u p (call.Dup fd) = made_at_stream c u p (call.Dup fd) fd (λ stream. dup_at c u p stream (free_descriptor p)) (λ s e. made_dup_at c u p fd s (free_descriptor p) e refl)
made_outcome c u p (call.Read fd many) = made_read c u p fd many
made_outcome c u p (call.Write fd bytes) = made_write c u p fd bytes
made_outcome c u p (call.Seek fd offset) = made_seek c u p fd offset
made_outcome c u p (call.Size fd) = made_size c u p fd
made_outcome c u p (call.Sync fd) = made_sync c u p fd
made_outcome c u p (call.Stat path) =
    made_at_path c u p (call.Stat path) path (stat c u p) (λ at. made_unless c u p (call.Stat path) (walk u.nodes at) _ (λ e. made_stat c u p (call.Stat path) at (node_at u.nodes at)))
made_outcome c u p (call.Mkdir path) = made_at_path c u p (call.Mkdir path) path (mkdir c u p) (made_mkdir c u p path)
made_outcome c u p (call.Rmdir path) = made_at_path c u p (call.Rmdir path) path (rmdir c u p) (made_rmdir c u p path)
made_outcome c u p (call.Unlink path) = made_at_path c u p (call.Unlink path) path (unlink c u p) (made_unlink c u p path)
made_outcome c u p (call.Rename old new) =
    made_at_path c u p (call.Rename old new) old (λ from. at_path c u p new (rename c u p from))
    (λ from. made_at_path c u p (call.Rename old new) new (rename c u p from) (made_rename c u p old new from))
made_outcome c u p (call.List path max) = made_at_path c u p (call.List path max) path (λ directory. list c u p directory max) (λ directory. made_list c u p (call.List path max) directory max)
made_outcome c u p (call.Chdir path) = made_at_path c u p (call.Chdir path) path (chdir c u p) (made_chdir c u p (call.Chdir path))
made_outcome c u p (call.Migrate name) = made_unless c u p (call.Migrate name) (move_refusal c u p name) _ (λ e. made_replies c u p (call.Migrate name) nothing)
made_outcome c u p (call.PdMake path) = made_make_with c u p path (free_descriptor p) refl
made_outcome c u p (call.PdGet fd max) = made_pd_get c u p fd max
made_outcome c u p (call.PdPut fd bytes number) =
    made_at_master c u p (call.PdPut fd bytes number) fd (λ device. put_to c u p bytes number device device.in_hand) (λ place device e. made_put_to c u p fd bytes number place device device.in_hand e)
made_outcome c u p (call.Ioctl fd command bytes) = made_at_stream c u p (call.Ioctl fd command bytes) fd (λ stream. ioctl_object c u p stream.object) (λ s e. made_ioctl_object c u p (call.Ioctl fd command bytes) s.object)
made_outcome c u p (call.Rexec name host_name) = made_rexec c u p (call.Rexec name host_name) host_name (program_named c.programs name)
made_outcome c u p (call.Refused e) = made_refuses c u p (call.Refused e) e
