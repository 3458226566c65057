-- How processes stand behind each call.
use Rattle.std.proofs.Common.{◌≡◌, ◌∙◌, ◌<◌, ℕ, ◌+◌, Bool, true, false, cond, List, [], ◌∷◌, ◌++◌, length, take, drop, Option, Some, None, refl, ap, inl, inr, nat_lt, nat_le, arith}
use Rattle.std.specs.Prelude.{◌==◌, slice_set}
use Rattle.std.specs.List.{AllByRecursion}
use Rattle.std.specs.Option.{is_some}
use Rattle.std.proofs.lemmas.Bool.{leb-false}
use Rattle.sprite_ids.specs.Pid.{home_of}
use Rattle.sprite_ids.specs.declared.errno.Errno.{Errno}
use Rattle.sprite_ids.specs.declared.errno.Errno.TheVariants as errno
use Rattle.sprite_ids.specs.declared.names.Mode.{Mode}
use Rattle.sprite_ids.specs.declared.names.Mode.TheVariants as mode
use Rattle.sprite_ids.specs.declared.running.Ending.{Ending}
use Rattle.sprite_ids.specs.declared.running.Ending.TheVariants as ending
use Rattle.sprite_ids.proofs.ListLaws.{each_filter, each_weaken}
use Rattle.sprite_paths.specs.Path.{clean_path}
use Rattle.process_machine.specs.declared.call.Call.{Call}
use Rattle.process_machine.specs.declared.call.Call.TheVariants as call
use Rattle.process_machine.specs.declared.call.Reply.{Reply}
use Rattle.process_machine.specs.declared.call.Reply.TheVariants.{Value, Error}
use Rattle.process_machine.specs.declared.program.Program.{Program}
use Rattle.unix_calls.specs.declared.Description.{Description}
use Rattle.unix_calls.specs.declared.state.FileName.{FileName}
use Rattle.unix_calls.specs.declared.state.FileName.TheVariants.{Made}
use Rattle.unix_calls.specs.declared.state.Node.{Node}
use Rattle.unix_calls.specs.declared.state.Node.TheVariants.{Directory, FileNode, DeviceNode}
use Rattle.unix_calls.specs.declared.state.Object.{Object}
use Rattle.unix_calls.specs.declared.state.Object.TheVariants.{OfFile, OfDevice, OfMaster}
use Rattle.unix_calls.specs.declared.state.Stream.{Stream}
use Rattle.unix_calls.specs.declared.state.Ask.{Ask}
use Rattle.unix_calls.specs.declared.state.Device.{Device}
use Rattle.unix_calls.specs.declared.state.Process.{Process}
use Rattle.unix_calls.specs.declared.state.Flags.{Flags}
use Rattle.unix_calls.specs.Tree.{node_at, walk}
use Rattle.unix_calls.specs.State.{Unix, process_at, put_process, with_process, births, next_pid, lives, stream_of, with_device, free_descriptor, bytes_of, with_bytes}
use Rattle.unix_calls.specs.Answers.{Outcome, Answered, GoesTo, Waits, replied, replies, refuses, unless_refused, value, gives, is_done, nothing}
use Rattle.unix_calls.specs.ProcessCalls.{ends, ended, host, kernel_name, fork, child_of, exec_of, program_named, wait, waits_for, unwaited, ended_ones, is_unwaited, kill_of, with_kill, move_refusal, migrate, rexec_of}
use Rattle.unix_calls.specs.NameCalls.{with_path, at_path, stat, stat_of, new_refusal, named, unnamed, mkdir, rmdir, rmdir_refusal, unlink, unlink_refusal, rename, rename_refusal, moved_to, list, list_refusal, chdir, chdir_refusal}
use Rattle.unix_calls.specs.Opening.{flags_of, at_descriptor, with_new_stream, opened, cut, with_new_file, create_refusal, open_node, open_at, open_with, open_by, with_new_device, make_at, make_with, reads, writes}
use Rattle.unix_calls.specs.StreamCalls.{with_found, at_stream, with_file, close, dup_at, at_offset, read_object, read_stream, read, written, begins_at, write_from, write_object, write_stream, write, seek_to, seek, size, sync}
use Rattle.unix_calls.specs.DeviceCalls.{ioctl_object, with_device_of, device_of, at_master, takes_first, taken, asked_bytes, get_from, pd_get, answer_of, left, puts, put_to, pd_put}
use Rattle.unix_calls.specs.After.{outcome}
use Rattle.unix_calls.specs.Laws.{is_last_call}
use Rattle.unix_calls.proofs.OutcomeLaws.{IsAmong}
use Rattle.unix_calls.proofs.ProcessCallLaws.{found_among}
use Rattle.trace_laws.specs.Numbers.{Standing, stood, standing_of}

-- the processes beside the caller that a call may change: none, a new one of that home that has made no call, or one that stands as before
pub data Beside (ps : List Process) (home : ℕ) (after : List Process) : Type 0 where
  Nobody : after ≡ ps → Beside ps home after
  Child : (child : Process) → child.pid ≡ next_pid ps home → births ps home < 200 → standing_of child ≡ stood 0 false false → after ≡ put_process child ps → Beside ps home after
  Marked : (old new : Process) → IsAmong old ps → new.pid ≡ old.pid → standing_of new ≡ standing_of old → after ≡ put_process new ps → Beside ps home after

-- a step puts a process of that number into the state, which stands so
pub record Puts (u : Unix) (pid : ℕ) (s : Standing) (later : Unix) : Type 0 where
  pub between : Unix
  pub caller : Process
  pub beside : Beside u.processes (home_of pid) between.processes
  pub own : caller.pid ≡ pid
  pub stands : standing_of caller ≡ s
  pub whole : later ≡ with_process caller between

-- a process lives and is in no ask
pub record IsFree (p : Process) : Type 0 where
  pub asks : is_some p.asking ≡ false
  pub lives : is_some p.ending ≡ false

-- a call of a free process counts; it ends it, or doesn't
abbrev pub CountsIn : Unix → Process → Bool → Outcome → Type 0
CountsIn u p last (Answered reply later) = IsFree p → Puts u p.pid (stood (p.calls + 1) false last) later
CountsIn u p last (GoesTo place) = Unit {0}
CountsIn u p last Waits = Unit {0}

pub record Fair (u : Unix) (p : Process) (last : Bool) (o : Outcome) : Type 0 where
  pub counts : CountsIn u p last o

-- the same process, as far as its calls are counted
abbrev pub Kin : Process → Process → Type 0
Kin p q = (q.pid ≡ p.pid) × ((q.calls ≡ p.calls) × (q.ending ≡ p.ending))

stood_is : {a b : ℕ} {x y : Bool} → a ≡ b → x ≡ y → stood a false x ≡ stood b false y
stood_is p q = λ i. stood (p i) false (q i)

fair_replies : (c : Description) (u w : Unix) (p q : Process) (reply : Reply) → Beside u.processes (home_of p.pid) w.processes → Kin p q → Fair u p false (replies c w q reply)
fair_replies c u w p q reply beside kin =
    record {
      counts = λ free. record {
        between = w;
        caller = replied c q reply;
        beside = beside;
        own = kin.0;
        stands = stood_is (ap (λ n. n + 1) kin.1.0) (ap (λ (e : Option Ending). is_some e) kin.1.1 ∙ free.lives);
        whole = refl;
      };
    }

-- only the caller changes
fair_own : (c : Description) (u : Unix) (p q : Process) (reply : Reply) → Kin p q → Fair u p false (replies c u q reply)
fair_own c u p q reply kin = fair_replies c u u p q reply (Nobody refl) kin

pub fair_refuses : (c : Description) (u : Unix) (p : Process) (e : Errno) → Fair u p false (refuses c u p e)
fair_refuses c u p e = fair_own c u p p (Error e) (refl, (refl, refl))

-- the caller's image is a fresh one
fair_fresh : (u : Unix) (p : Process) (q : Process) → q.pid ≡ p.pid → q.calls ≡ p.calls + 1 → q.asking ≡ p.asking → q.ending ≡ p.ending → Fair u p false (Answered nothing (with_process q u))
fair_fresh u p q pid calls asking end =
    record {
      counts = λ free. record {
        between = u;
        caller = q;
        beside = Nobody refl;
        own = pid;
        stands = stood_by calls (ap (λ (o : Option ℕ). is_some o) asking ∙ free.asks) (ap (λ (e : Option Ending). is_some e) end ∙ free.lives);
        whole = refl;
      };
    }
  where
    stood_by : {a b : ℕ} {x y z w : Bool} → a ≡ b → x ≡ y → z ≡ w → stood a x z ≡ stood b y w
    stood_by f g h = λ i. stood (f i) (g i) (h i)

pub fair_ends : (u : Unix) (p : Process) (end : Ending) → Fair u p true (ends u p end)
fair_ends u p end =
    record {
      counts = λ free. record {
        between = u;
        caller = ended p end;
        beside = Nobody refl;
        own = refl;
        stands = ap (λ b. stood (p.calls + 1) b true) free.asks;
        whole = refl;
      };
    }

fair_waits : (u : Unix) (p : Process) → Fair u p false Waits
fair_waits u p = record { counts = tt }

fair_goes : (u : Unix) (p : Process) (place : ℕ) → Fair u p false (GoesTo place)
fair_goes u p place = record { counts = tt }

fair_if : (u : Unix) (p : Process) (b : Bool) (x y : Outcome) → (b ≡ true → Fair u p false x) → (b ≡ false → Fair u p false y) → Fair u p false (cond b x y)
fair_if u p true x y yes_so no_so = yes_so refl
fair_if u p false x y yes_so no_so = no_so refl

fair_unless : (c : Description) (u : Unix) (p : Process) (refusal : Option Errno) (x : Outcome) → Fair u p false x → Fair u p false (unless_refused c u p refusal x)
fair_unless c u p (Some e) x h = fair_refuses c u p e
fair_unless c u p None x h = h

-- ---- processes

fair_host : (c : Description) (u : Unix) (p : Process) (max : ℕ) → Fair u p false (host c u p max)
fair_host c u p max =
    fair_if u p (nat_lt max (length (kernel_name c.kernels (home_of p.pid)))) _ _ (λ e. fair_refuses c u p errno.Invalid) (λ e. fair_own c u p p _ (refl, (refl, refl)))

fair_fork : (c : Description) (u : Unix) (p : Process) → Fair u p false (fork c u p)
fair_fork c u p =
    fair_if u p (nat_le 200 (births u.processes (home_of p.pid))) _ _ (λ e. fair_refuses c u p errno.TooMany)
    (λ e. fair_replies c u _ p p _ (Child (child_of c p (next_pid u.processes (home_of p.pid))) refl (omega (arith, leb-false 200 (births u.processes (home_of p.pid)) e)) refl refl) (refl, (refl, refl)))

fair_exec_of : (c : Description) (u : Unix) (p : Process) (found : Option Program) (arg : ℕ) → Fair u p false (exec_of c u p found arg)
fair_exec_of c u p None arg = fair_refuses c u p errno.NoEntry
fair_exec_of c u p (Some program) arg = fair_fresh u p _ refl refl refl refl

each_among : (ps : List Process) → AllByRecursion (λ (q : Process). IsAmong q ps) ps
each_among [] = tt
each_among (p ∷ ps) = (inl refl, each_weaken (λ (q : Process). IsAmong q ps) (λ (q : Process). IsAmong q (p ∷ ps)) ps (λ q h. inr h) (each_among ps))

fair_waits_for : (c : Description) (u : Unix) (p : Process) (children over : List Process) → AllByRecursion (λ (q : Process). IsAmong q u.processes) over → Fair u p false (waits_for c u p children over)
fair_waits_for c u p [] over among = fair_refuses c u p errno.NoChild
fair_waits_for c u p (child ∷ children) [] among = fair_waits u p
fair_waits_for c u p (child ∷ children) (first ∷ rest) among =
    fair_replies c u _ p p _ (Marked first (record first { waited = true }) among.0 refl refl refl) (refl, (refl, refl))

fair_wait : (c : Description) (u : Unix) (p : Process) → Fair u p false (wait c u p)
fair_wait c u p =
    fair_waits_for c u p (unwaited u p) (ended_ones (unwaited u p))
    (each_filter (λ (q : Process). IsAmong q u.processes) (λ (q : Process). is_some q.ending) (unwaited u p) (each_filter (λ (q : Process). IsAmong q u.processes) (is_unwaited p.pid) u.processes (each_among u.processes)))

kin_if : (b : Bool) (p q : Process) → Kin p q → Kin p (cond b q p)
kin_if true p q kin = kin
kin_if false p q kin = (refl, (refl, refl))

fair_kill_of : (c : Description) (u : Unix) (p : Process) (found : Option Process) → ((q : Process) → found ≡ Some q → IsAmong q u.processes) → Fair u p false (kill_of c u p found)
fair_kill_of c u p None among = fair_refuses c u p errno.NoProcess
fair_kill_of c u p (Some target) among =
    fair_if u p (lives target) _ _
    (λ e. fair_replies c u (with_kill target u) p (cond (target.pid == p.pid) (record p { killed = true }) p) (Value 0 0 []) (Marked target (record target { killed = true }) (among target refl) refl refl refl) (kin_if (target.pid == p.pid) p (record p { killed = true }) (refl, (refl, refl))))
    (λ e. fair_refuses c u p errno.NoProcess)

fair_migrate : (c : Description) (u : Unix) (p : Process) (name : List ℕ) → Fair u p false (migrate c u p name)
fair_migrate c u p name = fair_unless c u p (move_refusal c u p name) _ (fair_own c u p p _ (refl, (refl, refl)))

fair_rexec_of : (c : Description) (u : Unix) (p : Process) (found : Option Program) (name : List ℕ) → Fair u p false (rexec_of c u p found name)
fair_rexec_of c u p None name = fair_refuses c u p errno.NoEntry
fair_rexec_of c u p (Some program) name = fair_unless c u p (move_refusal c u p name) _ (fair_fresh u p _ refl refl refl refl)

-- ---- names

fair_with_path : (c : Description) (u : Unix) (p : Process) (found : Option (List (List ℕ))) (rest : List (List ℕ) → Outcome) → ((path : List (List ℕ)) → Fair u p false (rest path)) → Fair u p false (with_path c u p found rest)
fair_with_path c u p None rest h = fair_refuses c u p errno.BadName
fair_with_path c u p (Some path) rest h = h path

fair_at_path : (c : Description) (u : Unix) (p : Process) (text : List ℕ) (rest : List (List ℕ) → Outcome) → ((path : List (List ℕ)) → Fair u p false (rest path)) → Fair u p false (at_path c u p text rest)
fair_at_path c u p text rest h = fair_with_path c u p (clean_path p.cwd text) rest h

-- a call that changes no process but its caller's image and count
fair_alone : (c : Description) (u w : Unix) (p : Process) (reply : Reply) → w.processes ≡ u.processes → Fair u p false (replies c w p reply)
fair_alone c u w p reply same = fair_replies c u w p p reply (Nobody same) (refl, (refl, refl))

fair_stat_of : (c : Description) (u : Unix) (p : Process) (path : List (List ℕ)) (node : Option Node) → Fair u p false (stat_of c u p path node)
fair_stat_of c u p path None = fair_refuses c u p errno.NoEntry
fair_stat_of c u p path (Some Directory) = fair_alone c u u p _ refl
fair_stat_of c u p path (Some (FileNode name)) = fair_alone c u u p _ refl
fair_stat_of c u p path (Some (DeviceNode place)) = fair_alone c u u p _ refl

fair_moved : (c : Description) (u : Unix) (p : Process) (old new : List (List ℕ)) (node : Option Node) → Fair u p false (replies c (moved_to old new node u) p (value 0))
fair_moved c u p old new None = fair_alone c u u p _ refl
fair_moved c u p old new (Some node) = fair_alone c u (named new node (unnamed old u)) p _ refl

fair_rename : (c : Description) (u : Unix) (p : Process) (old new : List (List ℕ)) → Fair u p false (rename c u p old new)
fair_rename c u p old new = fair_unless c u p (rename_refusal u old new) _ (fair_moved c u p old new (node_at u.nodes old))

fair_chdir : (c : Description) (u : Unix) (p : Process) (path : List (List ℕ)) → Fair u p false (chdir c u p path)
fair_chdir c u p path = fair_unless c u p (chdir_refusal u path) _ (fair_own c u p (record p { cwd = path }) _ (refl, (refl, refl)))

fair_opened : (c : Description) (u w : Unix) (p : Process) (fd : ℕ) (object : Object) (m : Mode) (appends : Bool) → w.processes ≡ u.processes → Fair u p false (opened c w p fd object m appends)
fair_opened c u w p fd object m appends same =
    fair_replies c u (with_new_stream object m appends w) p (at_descriptor w fd p) _ (Nobody same) (refl, (refl, refl))

fair_cut : (c : Description) (u : Unix) (p : Process) (fd : ℕ) (name : FileName) (m : Mode) (appends truncates : Bool) → Fair u p false (opened c (cut truncates name u) p fd (OfFile name) m appends)
fair_cut c u p fd name m appends true = fair_opened c u (cut true name u) p fd (OfFile name) m appends refl
fair_cut c u p fd name m appends false = fair_opened c u u p fd (OfFile name) m appends refl

fair_open_node : (c : Description) (u : Unix) (p : Process) (fd : ℕ) (flags : Flags) (path : List (List ℕ)) (node : Option Node) → Fair u p false (open_node c u p fd flags path node)
fair_open_node c u p fd flags path None =
    fair_unless c u p (create_refusal u flags path) _ (fair_opened c u (with_new_file path u) p fd (OfFile (Made u.entries)) flags.mode flags.appends refl)
fair_open_node c u p fd flags path (Some Directory) = fair_refuses c u p errno.IsDir
fair_open_node c u p fd flags path (Some (FileNode name)) = fair_cut c u p fd name flags.mode flags.appends flags.truncates
fair_open_node c u p fd flags path (Some (DeviceNode place)) = fair_opened c u u p fd (OfDevice place) flags.mode flags.appends refl

fair_open_with : (c : Description) (u : Unix) (p : Process) (fd : Option ℕ) (flags : Flags) (text : List ℕ) → Fair u p false (open_with c u p fd flags text)
fair_open_with c u p None flags text = fair_refuses c u p errno.TooMany
fair_open_with c u p (Some fd) flags text =
    fair_at_path c u p text (open_at c u p fd flags) (λ path. fair_unless c u p (walk u.nodes path) _ (fair_open_node c u p fd flags path (node_at u.nodes path)))

fair_open_by : (c : Description) (u : Unix) (p : Process) (flags : Option Flags) (text : List ℕ) → Fair u p false (open_by c u p flags text)
fair_open_by c u p None text = fair_refuses c u p errno.Invalid
fair_open_by c u p (Some flags) text = fair_open_with c u p (free_descriptor p) flags text

fair_make_with : (c : Description) (u : Unix) (p : Process) (fd : Option ℕ) (text : List ℕ) → Fair u p false (make_with c u p fd text)
fair_make_with c u p None text = fair_refuses c u p errno.TooMany
fair_make_with c u p (Some fd) text =
    fair_at_path c u p text (make_at c u p fd) (λ path. fair_unless c u p (new_refusal u path) _ (fair_opened c u (with_new_device path u) p fd (OfMaster u.entries) mode.Both false refl))

-- ---- descriptors

fair_with_found : (c : Description) (u : Unix) (p : Process) (found : Option Stream) (rest : Stream → Outcome) → ((s : Stream) → Fair u p false (rest s)) → Fair u p false (with_found c u p found rest)
fair_with_found c u p None rest h = fair_refuses c u p errno.BadFd
fair_with_found c u p (Some s) rest h = h s

fair_at_stream : (c : Description) (u : Unix) (p : Process) (fd : ℕ) (rest : Stream → Outcome) → ((s : Stream) → Fair u p false (rest s)) → Fair u p false (at_stream c u p fd rest)
fair_at_stream c u p fd rest h = fair_with_found c u p (stream_of u p fd) rest h

fair_with_file : (c : Description) (u : Unix) (p : Process) (object : Object) (rest : FileName → Outcome) → ((name : FileName) → Fair u p false (rest name)) → Fair u p false (with_file c u p object rest)
fair_with_file c u p (OfFile name) rest h = h name
fair_with_file c u p (OfDevice place) rest h = fair_refuses c u p errno.Invalid
fair_with_file c u p (OfMaster place) rest h = fair_refuses c u p errno.Invalid

fair_close : (c : Description) (u : Unix) (p : Process) (fd : ℕ) → Fair u p false (close c u p fd)
fair_close c u p fd =
    fair_at_stream c u p fd (λ stream. is_done c u (record p { descriptors = slice_set p.descriptors fd None })) (λ s. fair_own c u p (record p { descriptors = slice_set p.descriptors fd None }) _ (refl, (refl, refl)))

fair_dup_at : (c : Description) (u : Unix) (p : Process) (stream : Stream) (free : Option ℕ) → Fair u p false (dup_at c u p stream free)
fair_dup_at c u p stream None = fair_refuses c u p errno.TooMany
fair_dup_at c u p stream (Some fd) = fair_own c u p (record p { descriptors = slice_set p.descriptors fd (Some stream.place) }) _ (refl, (refl, refl))

fair_read_object : (c : Description) (u : Unix) (p : Process) (stream : Stream) (many : ℕ) (object : Object) → Fair u p false (read_object c u p stream many object)
fair_read_object c u p stream many (OfFile name) =
    fair_alone c u (at_offset (stream.offset + length (take many (drop stream.offset (bytes_of u.files name)))) stream u) p _ refl
fair_read_object c u p stream many (OfDevice place) = fair_goes u p place
fair_read_object c u p stream many (OfMaster place) = fair_refuses c u p errno.BadMode

fair_read : (c : Description) (u : Unix) (p : Process) (fd many : ℕ) → Fair u p false (read c u p fd many)
fair_read c u p fd many =
    fair_at_stream c u p fd (read_stream c u p many) (λ s. fair_if u p (reads s.mode) _ _ (λ on. fair_read_object c u p s many s.object) (λ off. fair_refuses c u p errno.BadMode))

fair_write_from : (c : Description) (u : Unix) (p : Process) (stream : Stream) (bytes : List ℕ) (name : FileName) (from : ℕ) → Fair u p false (write_from c u p stream bytes name from)
fair_write_from c u p stream bytes name from =
    fair_if u p (nat_lt u.limit (from + length bytes)) _ _ (λ e. fair_refuses c u p errno.TooBig)
    (λ e. fair_alone c u (at_offset (from + length bytes) stream (record u { files = with_bytes name (written (bytes_of u.files name) from bytes) u.files })) p _ refl)

fair_write_object : (c : Description) (u : Unix) (p : Process) (stream : Stream) (bytes : List ℕ) (object : Object) → Fair u p false (write_object c u p stream bytes object)
fair_write_object c u p stream bytes (OfFile name) = fair_write_from c u p stream bytes name (begins_at stream (bytes_of u.files name))
fair_write_object c u p stream bytes (OfDevice place) = fair_goes u p place
fair_write_object c u p stream bytes (OfMaster place) = fair_refuses c u p errno.BadMode

fair_write : (c : Description) (u : Unix) (p : Process) (fd : ℕ) (bytes : List ℕ) → Fair u p false (write c u p fd bytes)
fair_write c u p fd bytes =
    fair_at_stream c u p fd (write_stream c u p bytes) (λ s. fair_if u p (writes s.mode) _ _ (λ on. fair_write_object c u p s bytes s.object) (λ off. fair_refuses c u p errno.BadMode))

fair_seek_to : (c : Description) (u : Unix) (p : Process) (offset : ℕ) (stream : Stream) → Fair u p false (seek_to c u p offset stream)
fair_seek_to c u p offset stream =
    fair_if u p (nat_lt u.limit offset) _ _ (λ e. fair_refuses c u p errno.Invalid) (λ e. fair_alone c u (at_offset offset stream u) p _ refl)

fair_seek : (c : Description) (u : Unix) (p : Process) (fd offset : ℕ) → Fair u p false (seek c u p fd offset)
fair_seek c u p fd offset =
    fair_at_stream c u p fd (λ stream. with_file c u p stream.object (λ name. seek_to c u p offset stream)) (λ s. fair_with_file c u p s.object (λ name. seek_to c u p offset s) (λ name. fair_seek_to c u p offset s))

fair_size : (c : Description) (u : Unix) (p : Process) (fd : ℕ) → Fair u p false (size c u p fd)
fair_size c u p fd =
    fair_at_stream c u p fd (λ stream. with_file c u p stream.object (λ name. gives c u p (length (bytes_of u.files name)))) (λ s. fair_with_file c u p s.object (λ name. gives c u p (length (bytes_of u.files name))) (λ name. fair_alone c u u p _ refl))

fair_sync : (c : Description) (u : Unix) (p : Process) (fd : ℕ) → Fair u p false (sync c u p fd)
fair_sync c u p fd =
    fair_at_stream c u p fd (λ stream. with_file c u p stream.object (λ name. is_done c u p)) (λ s. fair_with_file c u p s.object (λ name. is_done c u p) (λ name. fair_alone c u u p _ refl))

-- ---- devices

fair_ioctl_object : (c : Description) (u : Unix) (p : Process) (object : Object) → Fair u p false (ioctl_object c u p object)
fair_ioctl_object c u p (OfFile name) = fair_refuses c u p errno.Invalid
fair_ioctl_object c u p (OfDevice place) = fair_goes u p place
fair_ioctl_object c u p (OfMaster place) = fair_refuses c u p errno.BadMode

fair_with_device : (c : Description) (u : Unix) (p : Process) (found : Option Device) (rest : Device → Outcome) → ((device : Device) → Fair u p false (rest device)) → Fair u p false (with_device_of c u p found rest)
fair_with_device c u p None rest h = fair_refuses c u p errno.BadMode
fair_with_device c u p (Some device) rest h = h device

fair_at_master : (c : Description) (u : Unix) (p : Process) (fd : ℕ) (rest : Device → Outcome) → ((device : Device) → Fair u p false (rest device)) → Fair u p false (at_master c u p fd rest)
fair_at_master c u p fd rest h =
    fair_at_stream c u p fd (λ stream. with_device_of c u p (device_of u stream.object) rest) (λ s. fair_with_device c u p (device_of u s.object) rest h)

fair_takes_first : (c : Description) (u : Unix) (p : Process) (max : ℕ) (device : Device) (asks : List Ask) → Fair u p false (takes_first c u p max device asks)
fair_takes_first c u p max device [] = fair_waits u p
fair_takes_first c u p max device (ask ∷ asks) =
    fair_if u p (nat_lt max (length (asked_bytes ask.call))) _ _ (λ e. fair_refuses c u p errno.Invalid)
    (λ e. fair_alone c u (record u { devices = with_device (taken device ask asks) u.devices }) p _ refl)

fair_pd_get : (c : Description) (u : Unix) (p : Process) (fd max : ℕ) → Fair u p false (pd_get c u p fd max)
fair_pd_get c u p fd max =
    fair_at_master c u p fd (get_from c u p max) (λ device. fair_if u p (is_some device.in_hand) _ _ (λ e. fair_refuses c u p errno.Busy) (λ e. fair_takes_first c u p max device device.asks))

fair_puts : (c : Description) (u : Unix) (p : Process) (device : Device) (ask : Ask) (answer : Option Reply) → Fair u p false (puts c u p device ask answer)
fair_puts c u p device ask None = fair_refuses c u p errno.Invalid
fair_puts c u p device ask (Some reply) = fair_alone c u (record u { devices = with_device (left device ask reply) u.devices }) p _ refl

fair_put_to : (c : Description) (u : Unix) (p : Process) (bytes : List ℕ) (number : ℕ) (device : Device) (ask : Option Ask) → Fair u p false (put_to c u p bytes number device ask)
fair_put_to c u p bytes number device None = fair_refuses c u p errno.Invalid
fair_put_to c u p bytes number device (Some ask) = fair_puts c u p device ask (answer_of ask.call bytes number)

fair_pd_put : (c : Description) (u : Unix) (p : Process) (fd : ℕ) (bytes : List ℕ) (number : ℕ) → Fair u p false (pd_put c u p fd bytes number)
fair_pd_put c u p fd bytes number =
    fair_at_master c u p fd (λ device. put_to c u p bytes number device device.in_hand) (λ device. fair_put_to c u p bytes number device device.in_hand)

-- ---- each call

pub fair_outcome : (c : Description) (u : Unix) (p : Process) (called : Call) → Fair u p (is_last_call called) (outcome c u p called)
fair_outcome c u p (call.Print bytes) = fair_own c u p (record p { console = p.console ++ bytes }) _ (refl, (refl, refl))
fair_outcome c u p (call.Exit code) = fair_ends u p (ending.Exit code)
fair_outcome c u p call.BadStep = fair_ends u p ending.Bad
fair_outcome c u p call.Getpid = fair_alone c u u p _ refl
fair_outcome c u p call.Getppid = fair_alone c u u p _ refl
fair_outcome c u p (call.Host max) = fair_host c u p max
fair_outcome c u p call.Tick = fair_alone c u _ p _ refl
fair_outcome c u p call.Fork = fair_fork c u p
fair_outcome c u p (call.Exec name arg) = fair_exec_of c u p (program_named c.programs name) arg
fair_outcome c u p call.Wait = fair_wait c u p
fair_outcome c u p (call.Kill pid) = fair_kill_of c u p (process_at u.processes pid) (found_among u.processes pid)
fair_outcome c u p (call.OpenFile path flags) = fair_open_by c u p (flags_of flags) path
fair_outcome c u p (call.Close fd) = fair_close c u p fd
fair_outcome c u p (call.Dup fd) =
    fair_at_stream c u p fd (λ stream. dup_at c u p stream (free_descriptor p)) (λ s. fair_dup_at c u p s (free_descriptor p))
fair_outcome c u p (call.Read fd many) = fair_read c u p fd many
fair_outcome c u p (call.Write fd bytes) = fair_write c u p fd bytes
fair_outcome c u p (call.Seek fd offset) = fair_seek c u p fd offset
fair_outcome c u p (call.Size fd) = fair_size c u p fd
fair_outcome c u p (call.Sync fd) = fair_sync c u p fd
fair_outcome c u p (call.Stat path) =
    fair_at_path c u p path (stat c u p) (λ at. fair_unless c u p (walk u.nodes at) _ (fair_stat_of c u p at (node_at u.nodes at)))
fair_outcome c u p (call.Mkdir path) =
    fair_at_path c u p path (mkdir c u p) (λ at. fair_unless c u p (new_refusal u at) _ (fair_alone c u (named at Directory u) p _ refl))
fair_outcome c u p (call.Rmdir path) =
    fair_at_path c u p path (rmdir c u p) (λ at. fair_unless c u p (rmdir_refusal u at) _ (fair_alone c u (unnamed at u) p _ refl))
fair_outcome c u p (call.Unlink path) =
    fair_at_path c u p path (unlink c u p) (λ at. fair_unless c u p (unlink_refusal u at) _ (fair_alone c u (unnamed at u) p _ refl))
fair_outcome c u p (call.Rename old new) =
    fair_at_path c u p old (λ from. at_path c u p new (rename c u p from)) (λ from. fair_at_path c u p new (rename c u p from) (fair_rename c u p from))
fair_outcome c u p (call.List path max) =
    fair_at_path c u p path (λ directory. list c u p directory max) (λ directory. fair_unless c u p (list_refusal u directory max) _ (fair_alone c u u p _ refl))
fair_outcome c u p (call.Chdir path) = fair_at_path c u p path (chdir c u p) (fair_chdir c u p)
fair_outcome c u p (call.Migrate name) = fair_migrate c u p name
fair_outcome c u p (call.PdMake path) = fair_make_with c u p (free_descriptor p) path
fair_outcome c u p (call.PdGet fd max) = fair_pd_get c u p fd max
fair_outcome c u p (call.PdPut fd bytes number) = fair_pd_put c u p fd bytes number
fair_outcome c u p (call.Ioctl fd command bytes) =
    fair_at_stream c u p fd (λ stream. ioctl_object c u p stream.object) (λ s. fair_ioctl_object c u p s.object)
fair_outcome c u p (call.Rexec name host) = fair_rexec_of c u p (program_named c.programs name) host
fair_outcome c u p (call.Refused e) = fair_refuses c u p e
