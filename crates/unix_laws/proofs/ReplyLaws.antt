-- A whole call's reply fits it.
use Rattle.std.proofs.Common.{◌≡◌, ◌≤◌, ◌+◌, ◌==◌, ℕ, zero, suc, Bool, true, false, ◌&&◌, ◌||◌, not, cond, List, [], ◌∷◌, ◌++◌, length, take, drop, nat_le, nat_lt, Option, Some, None, refl, sym, ap, subst, ◌∙◌, arith}
use Rattle.std.specs.Prelude.{slice_set}
use Rattle.std.specs.Option.{is_some}
use Rattle.std.proofs.lemmas.Bool.{true≢false, eq-eqb, ltb-false, and_parts}
use Rattle.sprite_ids.specs.Pid.{home_of}
use Rattle.sprite_ids.specs.Errno.{errno_number}
use Rattle.sprite_ids.specs.declared.Ending.TheVariants as ending
use Rattle.sprite_ids.specs.declared.Errno.{Errno}
use Rattle.sprite_ids.specs.declared.Mode.TheVariants as mode
use Rattle.sprite_ids.specs.declared.Errno.TheVariants as errno
use Rattle.sprite_ids.proofs.ListLaws.{some_is}
use Rattle.process_machine.specs.declared.call.Call.{Call}
use Rattle.process_machine.specs.declared.call.Call.TheVariants as call
use Rattle.process_machine.specs.declared.call.Reply.{Reply}
use Rattle.process_machine.specs.declared.call.Reply.TheVariants.{Value, Error}
use Rattle.process_machine.specs.declared.program.Program.{Program}
use Rattle.process_machine.specs.Fresh.{fresh_machine}
use Rattle.unix_calls.specs.declared.Description.{Description}
use Rattle.unix_calls.specs.declared.Entry.{Entry}
use Rattle.unix_calls.specs.declared.entry.Part.TheVariants as part
use Rattle.unix_calls.specs.declared.state.Ask.{Ask}
use Rattle.unix_calls.specs.declared.state.Device.{Device}
use Rattle.unix_calls.specs.declared.state.FileName.{FileName}
use Rattle.unix_calls.specs.declared.state.FileName.TheVariants.{Made}
use Rattle.unix_calls.specs.declared.state.Flags.{Flags}
use Rattle.unix_calls.specs.declared.state.Node.{Node}
use Rattle.unix_calls.specs.declared.state.Node.TheVariants.{Directory, FileNode, DeviceNode}
use Rattle.unix_calls.specs.declared.state.Object.{Object}
use Rattle.unix_calls.specs.declared.state.Object.TheVariants.{OfFile, OfDevice, OfMaster}
use Rattle.unix_calls.specs.declared.state.Process.{Process}
use Rattle.unix_calls.specs.declared.state.Stream.{Stream}
use Rattle.unix_calls.specs.Tree.{above, first_of, is_full, names_in, node_at, same_path, walk}
use Rattle.unix_calls.specs.State.{Unix, births, bytes_of, free_descriptor, holds_a_master, lives, process_at, with_process}
use Rattle.unix_calls.specs.Domains.{begins_domain, domain_of}
use Rattle.unix_calls.specs.Answers.{Outcome, gives, is_done, nothing, refuses, replied, replies, value}
use Rattle.unix_calls.specs.ProcessCalls.{ended, ended_ones, exec_of, fork, is_host, kernel_name, kill_of, move_refusal, program_named, rexec_of, unwaited, waits_for}
use Rattle.unix_calls.specs.NameCalls.{a_directory, at_path, chdir, list, list_refusal, listing, missing, mkdir, new_refusal, no_directory, refusal_if, rename, rename_refusal, rmdir, rmdir_refusal, stat, stat_of, unlink, unlink_refusal, chdir_refusal}
use Rattle.unix_calls.specs.Opening.{at_descriptor, create_refusal, cut, with_new_device, with_new_file, with_new_stream, flags_of, make_at, make_with, open_at, open_by, open_node, open_with, reads, writes}
use Rattle.unix_calls.specs.StreamCalls.{begins_at, dup_at, read_object, read_stream, seek_to, write_object, write_stream}
use Rattle.unix_calls.specs.DeviceCalls.{answer_of, asked_bytes, get_from, ioctl_object, put_to, puts, takes_first}
use Rattle.unix_calls.specs.After.{may_break, may_fail, may_miss, outcome}
use Rattle.unix_laws.specs.Replies.{Fits, RepliesFit, may_refuse}
use Rattle.unix_frames.proofs.EntryLaws.{Answers, Asks, Dies, Enters, Fails, Fetches, opened, no_fact}
use Rattle.unix_laws.proofs.AnswerLaws.{Only, Refuses, Says, only_a_directory, only_first, only_if, only_missing, only_no_directory, only_none, only_some, only_walk, said, says_at_master, says_at_path, says_at_stream, says_if, says_refuses, says_unless, says_with_file}

-- the reply fits the call, and its caller is put last, in no ask where it was in none
pub record Answer (called : Call) (p : Process) (reply : Reply) (later : Unix) : Type 0 where
  pub fits : Fits called reply
  pub caller : Process
  pub between : Unix
  pub whole : later ≡ with_process caller between
  pub pid : caller.pid ≡ p.pid
  pub idle : p.asking ≡ None → caller.asking ≡ None

answers : (c : Description) (w : Unix) (p q : Process) (called : Call) (reply : Reply) → Fits called reply → q.pid ≡ p.pid → Says (Answer called p) (replies c w q reply)
answers c w p q called reply fits same = record { does = record { fits = fits; caller = replied c q reply; between = w; whole = refl; pid = same; idle = λ h. refl } }

refusing : (c : Description) (u : Unix) (p : Process) (called : Call) → Refuses (Answer called p) c u p (may_refuse called)
refusing c u p called = record { refused = λ e ok. record { fits = ok; caller = replied c p (Error e); between = u; whole = refl; pid = refl; idle = λ h. refl } }

no : (c : Description) (u : Unix) (p : Process) (called : Call) (e : Errno) → may_refuse called e ≡ true → Says (Answer called p) (refuses c u p e)
no c u p called e ok = says_refuses (Answer called p) c u p (may_refuse called) (refusing c u p called) e ok

-- ---- processes

so_fork : (c : Description) (u : Unix) (p : Process) → Says (Answer call.Fork p) (fork c u p)
so_fork c u p = says_if (Answer call.Fork p) (nat_le 200 (births u.processes (home_of p.pid))) _ _ (λ e. no c u p call.Fork errno.TooMany refl) (λ e. answers c _ p p call.Fork (value _) (refl, refl) refl)

so_exec : (c : Description) (u : Unix) (p : Process) (name : List ℕ) (arg : ℕ) (found : Option Program) → Says (Answer (call.Exec name arg) p) (exec_of c u p found arg)
so_exec c u p name arg None = no c u p (call.Exec name arg) errno.NoEntry refl
so_exec c u p name arg (Some program) = record { does = record { fits = (refl, (refl, refl)); caller = record p { image = fresh_machine program arg; calls = p.calls + 1 }; between = u; whole = refl; pid = refl; idle = λ h. h } }

so_waits : (c : Description) (u : Unix) (p : Process) (children ends : List Process) → Says (Answer call.Wait p) (waits_for c u p children ends)
so_waits c u p [] ends = no c u p call.Wait errno.NoChild refl
so_waits c u p (child ∷ children) [] = record { does = tt }
so_waits c u p (child ∷ children) (first ∷ rest) = answers c _ p p call.Wait (Value first.pid _ []) refl refl

so_kill : (c : Description) (u : Unix) (p : Process) (pid : ℕ) (found : Option Process) → Says (Answer (call.Kill pid) p) (kill_of c u p found)
so_kill c u p pid None = no c u p (call.Kill pid) errno.NoProcess refl
so_kill c u p pid (Some target) =
    says_if (Answer (call.Kill pid) p) (lives target) _ _ (λ e. answers c _ p (cond (target.pid == p.pid) (record p { killed = true }) p) (call.Kill pid) nothing (refl, (refl, refl)) (by (target.pid == p.pid))) (λ e. no c u p (call.Kill pid) errno.NoProcess refl)
  where
    by : (b : Bool) → (cond b (record p { killed = true }) p).pid ≡ p.pid
    by true = refl
    by false = refl

only_move : (may : Errno → Bool) (c : Description) (u : Unix) (p : Process) (name : List ℕ) → may errno.BadHost ≡ true → may errno.Busy ≡ true → Only may (move_refusal c u p name)
only_move may c u p name no_host busy = by (is_host c.kernels name) (holds_a_master u p)
  where
    by : (a b : Bool) → Only may (cond (not a) (Some errno.BadHost) (cond b (Some errno.Busy) None))
    by false b = only_some may errno.BadHost no_host
    by true true = only_some may errno.Busy busy
    by true false = only_none may

so_rexec : (c : Description) (u : Unix) (p : Process) (name host : List ℕ) (found : Option Program) → Says (Answer (call.Rexec name host) p) (rexec_of c u p found host)
so_rexec c u p name host None = no c u p (call.Rexec name host) errno.NoEntry refl
so_rexec c u p name host (Some program) =
    says_unless (Answer (call.Rexec name host) p) c u p (may_refuse (call.Rexec name host)) (move_refusal c u p host) _ (refusing c u p (call.Rexec name host)) (only_move (may_refuse (call.Rexec name host)) c u p host refl refl)
    (λ e. record { does = record { fits = (refl, (refl, refl)); caller = record p { image = fresh_machine program 0; calls = p.calls + 1 }; between = u; whole = refl; pid = refl; idle = λ h. h } })

-- ---- names

only_new : (may : Errno → Bool) (u : Unix) (path : List (List ℕ)) → may errno.NoEntry ≡ true → may errno.NotDir ≡ true → may errno.Exists ≡ true → may errno.TooMany ≡ true → Only may (new_refusal u path)
only_new may u path missing other exists full =
    only_first may (walk u.nodes path) _ (only_walk may u.nodes path missing other)
    (only_first may (refusal_if (is_some (node_at u.nodes path)) errno.Exists) _ (only_if may (is_some (node_at u.nodes path)) errno.Exists exists) (only_if may (is_full u.nodes (above path)) errno.TooMany full))

so_stat : (c : Description) (u : Unix) (p : Process) (text : List ℕ) (path : List (List ℕ)) (node : Option Node) → Says (Answer (call.Stat text) p) (stat_of c u p path node)
so_stat c u p text path None = no c u p (call.Stat text) errno.NoEntry refl
so_stat c u p text path (Some Directory) = answers c u p p (call.Stat text) (Value 2 (length (names_in u.nodes path)) []) (omega arith, (omega arith, refl)) refl
so_stat c u p text path (Some (FileNode name)) = answers c u p p (call.Stat text) (value 1) (omega arith, (omega arith, refl)) refl
so_stat c u p text path (Some (DeviceNode place)) = answers c u p p (call.Stat text) (value 3) (omega arith, (omega arith, refl)) refl

so_rmdir : (c : Description) (u : Unix) (p : Process) (text : List ℕ) (path : List (List ℕ)) → Says (Answer (call.Rmdir text) p) (rmdir c u p path)
so_rmdir c u p text path =
    let may = may_refuse (call.Rmdir text) in
    says_unless (Answer (call.Rmdir text) p) c u p may (rmdir_refusal u path) _ (refusing c u p (call.Rmdir text))
    (only_first may (refusal_if (begins_domain u.roots path) errno.Busy) _ (only_if may (begins_domain u.roots path) errno.Busy refl)
    (only_first may (walk u.nodes path) _ (only_walk may u.nodes path refl refl)
    (only_first may (missing (node_at u.nodes path)) _ (only_missing may (node_at u.nodes path) refl)
    (only_first may (no_directory (node_at u.nodes path)) _ (only_no_directory may (node_at u.nodes path) refl) (only_if may (nat_lt 0 (length (names_in u.nodes path))) errno.NotEmpty refl)))))
    (λ e. answers c _ p p (call.Rmdir text) nothing (refl, (refl, refl)) refl)

so_unlink : (c : Description) (u : Unix) (p : Process) (text : List ℕ) (path : List (List ℕ)) → Says (Answer (call.Unlink text) p) (unlink c u p path)
so_unlink c u p text path =
    let may = may_refuse (call.Unlink text) in
    says_unless (Answer (call.Unlink text) p) c u p may (unlink_refusal u path) _ (refusing c u p (call.Unlink text))
    (only_first may (walk u.nodes path) _ (only_walk may u.nodes path refl refl)
    (only_first may (missing (node_at u.nodes path)) _ (only_missing may (node_at u.nodes path) refl) (only_a_directory may (node_at u.nodes path) refl)))
    (λ e. answers c _ p p (call.Unlink text) nothing (refl, (refl, refl)) refl)

so_rename : (c : Description) (u : Unix) (p : Process) (one two : List ℕ) (old new : List (List ℕ)) → Says (Answer (call.Rename one two) p) (rename c u p old new)
so_rename c u p one two old new =
    let may = may_refuse (call.Rename one two) in
    says_unless (Answer (call.Rename one two) p) c u p may (rename_refusal u old new) _ (refusing c u p (call.Rename one two))
    (only_first may (refusal_if (not (domain_of u.roots old == domain_of u.roots new)) errno.XDev) _ (only_if may (not (domain_of u.roots old == domain_of u.roots new)) errno.XDev refl)
    (only_first may (walk u.nodes old) _ (only_walk may u.nodes old refl refl)
    (only_first may (missing (node_at u.nodes old)) _ (only_missing may (node_at u.nodes old) refl)
    (only_first may (a_directory (node_at u.nodes old)) _ (only_a_directory may (node_at u.nodes old) refl)
    (only_first may (walk u.nodes new) _ (only_walk may u.nodes new refl refl)
    (only_first may (refusal_if (is_some (node_at u.nodes new)) errno.Exists) _ (only_if may (is_some (node_at u.nodes new)) errno.Exists refl)
    (only_if may (not (same_path (above old) (above new)) && is_full u.nodes (above new)) errno.TooMany refl)))))))
    (λ e. answers c _ p p (call.Rename one two) nothing (refl, (refl, refl)) refl)

first_none : (a b : Option Errno) → first_of a b ≡ None → b ≡ None
first_none None b h = h
first_none (Some e) b h = absurd (cc)

so_list : (c : Description) (u : Unix) (p : Process) (text : List ℕ) (path : List (List ℕ)) (max : ℕ) → Says (Answer (call.List text max) p) (list c u p path max)
so_list c u p text path max =
    let may = may_refuse (call.List text max) in
    let last = refusal_if (nat_lt max (length (listing u path))) errno.Invalid in
    says_unless (Answer (call.List text max) p) c u p may (list_refusal u path max) _ (refusing c u p (call.List text max))
    (only_first may (walk u.nodes path) _ (only_walk may u.nodes path refl refl)
    (only_first may (missing (node_at u.nodes path)) _ (only_missing may (node_at u.nodes path) refl)
    (only_first may (no_directory (node_at u.nodes path)) _ (only_no_directory may (node_at u.nodes path) refl) (only_if may (nat_lt max (length (listing u path))) errno.Invalid refl))))
    (λ e.
    let short = no_fact (nat_lt max (length (listing u path))) errno.Invalid (first_none (no_directory (node_at u.nodes path)) last (first_none (missing (node_at u.nodes path)) (first_of (no_directory (node_at u.nodes path)) last) (first_none (walk u.nodes path) (first_of (missing (node_at u.nodes path)) (first_of (no_directory (node_at u.nodes path)) last)) e))) in
    answers c u p p (call.List text max) (Value (length (listing u path)) 0 (listing u path)) (refl, (refl, ltb-false max (length (listing u path)) short)) refl)

so_chdir : (c : Description) (u : Unix) (p : Process) (text : List ℕ) (path : List (List ℕ)) → Says (Answer (call.Chdir text) p) (chdir c u p path)
so_chdir c u p text path =
    let may = may_refuse (call.Chdir text) in
    says_unless (Answer (call.Chdir text) p) c u p may (chdir_refusal u path) _ (refusing c u p (call.Chdir text))
    (only_first may (walk u.nodes path) _ (only_walk may u.nodes path refl refl)
    (only_first may (missing (node_at u.nodes path)) _ (only_missing may (node_at u.nodes path) refl) (only_no_directory may (node_at u.nodes path) refl)))
    (λ e. answers c u p (record p { cwd = path }) (call.Chdir text) nothing (refl, (refl, refl)) refl)

-- ---- streams

so_open_node : (c : Description) (u : Unix) (p : Process) (text : List ℕ) (n fd : ℕ) (flags : Flags) (path : List (List ℕ)) (node : Option Node) → Says (Answer (call.OpenFile text n) p) (open_node c u p fd flags path node)
so_open_node c u p text n fd flags path None =
    let may = may_refuse (call.OpenFile text n) in
    says_unless (Answer (call.OpenFile text n) p) c u p may (create_refusal u flags path) _ (refusing c u p (call.OpenFile text n))
    (only_first may (refusal_if (not flags.creates) errno.NoEntry) _ (only_if may (not flags.creates) errno.NoEntry refl) (only_if may (is_full u.nodes (above path)) errno.TooMany refl))
    (λ e. answers c (with_new_stream (OfFile (Made u.entries)) flags.mode flags.appends (with_new_file path u)) p (at_descriptor (with_new_file path u) fd p) (call.OpenFile text n) (value fd) (refl, refl) refl)
so_open_node c u p text n fd flags path (Some Directory) = no c u p (call.OpenFile text n) errno.IsDir refl
so_open_node c u p text n fd flags path (Some (FileNode name)) = answers c (with_new_stream (OfFile name) flags.mode flags.appends (cut flags.truncates name u)) p (at_descriptor (cut flags.truncates name u) fd p) (call.OpenFile text n) (value fd) (refl, refl) refl
so_open_node c u p text n fd flags path (Some (DeviceNode place)) = answers c (with_new_stream (OfDevice place) flags.mode flags.appends u) p (at_descriptor u fd p) (call.OpenFile text n) (value fd) (refl, refl) refl

so_open_with : (c : Description) (u : Unix) (p : Process) (text : List ℕ) (n : ℕ) (flags : Flags) (fd : Option ℕ) → Says (Answer (call.OpenFile text n) p) (open_with c u p fd flags text)
so_open_with c u p text n flags None = no c u p (call.OpenFile text n) errno.TooMany refl
so_open_with c u p text n flags (Some fd) =
    says_at_path (Answer (call.OpenFile text n) p) c u p (may_refuse (call.OpenFile text n)) text (open_at c u p fd flags) (refusing c u p (call.OpenFile text n)) refl
    (λ path. says_unless (Answer (call.OpenFile text n) p) c u p (may_refuse (call.OpenFile text n)) (walk u.nodes path) _ (refusing c u p (call.OpenFile text n)) (only_walk (may_refuse (call.OpenFile text n)) u.nodes path refl refl)
    (λ e. so_open_node c u p text n fd flags path (node_at u.nodes path)))

so_open : (c : Description) (u : Unix) (p : Process) (text : List ℕ) (n : ℕ) (flags : Option Flags) → Says (Answer (call.OpenFile text n) p) (open_by c u p flags text)
so_open c u p text n None = no c u p (call.OpenFile text n) errno.Invalid refl
so_open c u p text n (Some flags) = so_open_with c u p text n flags (free_descriptor p)

so_make : (c : Description) (u : Unix) (p : Process) (text : List ℕ) (fd : Option ℕ) → Says (Answer (call.PdMake text) p) (make_with c u p fd text)
so_make c u p text None = no c u p (call.PdMake text) errno.TooMany refl
so_make c u p text (Some fd) =
    says_at_path (Answer (call.PdMake text) p) c u p (may_refuse (call.PdMake text)) text (make_at c u p fd) (refusing c u p (call.PdMake text)) refl
    (λ path. says_unless (Answer (call.PdMake text) p) c u p (may_refuse (call.PdMake text)) (new_refusal u path) _ (refusing c u p (call.PdMake text)) (only_new (may_refuse (call.PdMake text)) u path refl refl refl refl)
    (λ e. answers c (with_new_stream (OfMaster u.entries) mode.Both false (with_new_device path u)) p (at_descriptor (with_new_device path u) fd p) (call.PdMake text) (value fd) (refl, refl) refl))

so_dup : (c : Description) (u : Unix) (p : Process) (fd : ℕ) (s : Stream) (free : Option ℕ) → Says (Answer (call.Dup fd) p) (dup_at c u p s free)
so_dup c u p fd s None = no c u p (call.Dup fd) errno.TooMany refl
so_dup c u p fd s (Some to) = answers c u p (record p { descriptors = slice_set p.descriptors to (Some s.place) }) (call.Dup fd) (value to) (refl, refl) refl

take_short : (n : ℕ) (xs : List ℕ) → length (take n xs) ≤ n
take_short zero xs = omega arith
take_short (suc n) [] = omega arith
take_short (suc n) (x ∷ xs) = let rest = take_short n xs in omega (arith, rest)

so_read : (c : Description) (u : Unix) (p : Process) (fd many : ℕ) (s : Stream) (object : Object) → Says (Answer (call.Read fd many) p) (read_object c u p s many object)
so_read c u p fd many s (OfFile name) =
    let bytes = take many (drop s.offset (bytes_of u.files name)) in
    answers c _ p p (call.Read fd many) (Value (length bytes) 0 bytes) (refl, (refl, take_short many (drop s.offset (bytes_of u.files name)))) refl
so_read c u p fd many s (OfDevice place) = record { does = tt }
so_read c u p fd many s (OfMaster place) = no c u p (call.Read fd many) errno.BadMode refl

so_write : (c : Description) (u : Unix) (p : Process) (fd : ℕ) (own : List ℕ) (s : Stream) (object : Object) → Says (Answer (call.Write fd own) p) (write_object c u p s own object)
so_write c u p fd own s (OfFile name) =
    says_if (Answer (call.Write fd own) p) (nat_lt u.limit (begins_at s (bytes_of u.files name) + length own)) _ _ (λ e. no c u p (call.Write fd own) errno.TooBig refl) (λ e. answers c _ p p (call.Write fd own) (value (length own)) (refl, (refl, refl)) refl)
so_write c u p fd own s (OfDevice place) = record { does = tt }
so_write c u p fd own s (OfMaster place) = no c u p (call.Write fd own) errno.BadMode refl

-- ---- devices

so_ioctl : (c : Description) (u : Unix) (p : Process) (fd command : ℕ) (own : List ℕ) (object : Object) → Says (Answer (call.Ioctl fd command own) p) (ioctl_object c u p object)
so_ioctl c u p fd command own (OfFile name) = no c u p (call.Ioctl fd command own) errno.Invalid refl
so_ioctl c u p fd command own (OfDevice place) = record { does = tt }
so_ioctl c u p fd command own (OfMaster place) = no c u p (call.Ioctl fd command own) errno.BadMode refl

so_takes : (c : Description) (u : Unix) (p : Process) (fd max : ℕ) (device : Device) (asks : List Ask) → Says (Answer (call.PdGet fd max) p) (takes_first c u p max device asks)
so_takes c u p fd max device [] = record { does = tt }
so_takes c u p fd max device (ask ∷ asks) =
    says_if (Answer (call.PdGet fd max) p) (nat_lt max (length (asked_bytes ask.call))) _ _ (λ e. no c u p (call.PdGet fd max) errno.Invalid refl)
    (λ e. answers c _ p p (call.PdGet fd max) (Value _ (length (asked_bytes ask.call)) (asked_bytes ask.call)) (refl, ltb-false max (length (asked_bytes ask.call)) e) refl)

so_puts : (c : Description) (u : Unix) (p : Process) (fd : ℕ) (own : List ℕ) (number : ℕ) (device : Device) (ask : Option Ask) → Says (Answer (call.PdPut fd own number) p) (put_to c u p own number device ask)
so_puts c u p fd own number device None = no c u p (call.PdPut fd own number) errno.Invalid refl
so_puts c u p fd own number device (Some ask) = by (answer_of ask.call own number)
  where
    by : (answer : Option Reply) → Says (Answer (call.PdPut fd own number) p) (puts c u p device ask answer)
    by None = no c u p (call.PdPut fd own number) errno.Invalid refl
    by (Some reply) = answers c _ p p (call.PdPut fd own number) nothing (refl, (refl, refl)) refl

-- ---- each call

-- a call on a descriptor, and on one of a file
at_fd : (c : Description) (u : Unix) (p : Process) (called : Call) (fd : ℕ) (rest : Stream → Outcome) → may_refuse called errno.BadFd ≡ true → ((s : Stream) → Says (Answer called p) (rest s)) → Says (Answer called p) (Rattle.unix_calls.specs.StreamCalls.at_stream c u p fd rest)
at_fd c u p called fd rest ok h = says_at_stream (Answer called p) c u p (may_refuse called) fd rest (refusing c u p called) ok (λ s e. h s)

at_file : (c : Description) (u : Unix) (p : Process) (called : Call) (object : Object) (rest : FileName → Outcome) → may_refuse called errno.Invalid ≡ true → ((name : FileName) → Says (Answer called p) (rest name)) → Says (Answer called p) (Rattle.unix_calls.specs.StreamCalls.with_file c u p object rest)
at_file c u p called object rest ok h = says_with_file (Answer called p) c u p (may_refuse called) object rest (refusing c u p called) ok h

at_text : (c : Description) (u : Unix) (p : Process) (called : Call) (text : List ℕ) (rest : List (List ℕ) → Outcome) → may_refuse called errno.BadName ≡ true → ((path : List (List ℕ)) → Says (Answer called p) (rest path)) → Says (Answer called p) (at_path c u p text rest)
at_text c u p called text rest ok h = says_at_path (Answer called p) c u p (may_refuse called) text rest (refusing c u p called) ok h

pub each_call : (c : Description) (u : Unix) (p : Process) (called : Call) → Says (Answer called p) (outcome c u p called)
each_call c u p (call.Print own) = answers c u p (record p { console = p.console ++ own }) (call.Print own) nothing (refl, (refl, refl)) refl
each_call c u p (call.Exit code) = record { does = record { fits = (refl, (refl, refl)); caller = ended p (ending.Exit code); between = u; whole = refl; pid = refl; idle = λ h. h } }
each_call c u p call.BadStep = record { does = record { fits = (refl, (refl, refl)); caller = ended p ending.Bad; between = u; whole = refl; pid = refl; idle = λ h. h } }
each_call c u p call.Getpid = answers c u p p call.Getpid (value p.pid) (refl, refl) refl
each_call c u p call.Getppid = answers c u p p call.Getppid (value _) (refl, refl) refl
each_call c u p (call.Host max) =
    let name = kernel_name c.kernels (home_of p.pid) in
    says_if (Answer (call.Host max) p) (nat_lt max (length name)) _ _ (λ e. no c u p (call.Host max) errno.Invalid refl) (λ e. answers c u p p (call.Host max) (Value (length name) 0 name) (refl, (refl, ltb-false max (length name) e)) refl)
each_call c u p call.Tick = answers c _ p p call.Tick (value _) (refl, refl) refl
each_call c u p call.Fork = so_fork c u p
each_call c u p (call.Exec name arg) = so_exec c u p name arg (program_named c.programs name)
each_call c u p call.Wait = so_waits c u p (unwaited u p) (ended_ones (unwaited u p))
each_call c u p (call.Kill pid) = so_kill c u p pid (process_at u.processes pid)
each_call c u p (call.OpenFile text n) = so_open c u p text n (flags_of n)
each_call c u p (call.Close fd) = at_fd c u p (call.Close fd) fd _ refl (λ s. answers c u p (record p { descriptors = slice_set p.descriptors fd None }) (call.Close fd) nothing (refl, (refl, refl)) refl)
each_call c u p (call.Dup fd) = at_fd c u p (call.Dup fd) fd _ refl (λ s. so_dup c u p fd s (free_descriptor p))
each_call c u p (call.Read fd many) =
    at_fd c u p (call.Read fd many) fd (read_stream c u p many) refl
    (λ s. says_if (Answer (call.Read fd many) p) (reads s.mode) _ _ (λ on. so_read c u p fd many s s.object) (λ off. no c u p (call.Read fd many) errno.BadMode refl))
each_call c u p (call.Write fd own) =
    at_fd c u p (call.Write fd own) fd (write_stream c u p own) refl
    (λ s. says_if (Answer (call.Write fd own) p) (writes s.mode) _ _ (λ on. so_write c u p fd own s s.object) (λ off. no c u p (call.Write fd own) errno.BadMode refl))
each_call c u p (call.Seek fd offset) =
    at_fd c u p (call.Seek fd offset) fd _ refl
    (λ s. at_file c u p (call.Seek fd offset) s.object (λ name. seek_to c u p offset s) refl
    (λ name. says_if (Answer (call.Seek fd offset) p) (nat_lt u.limit offset) _ _ (λ on. no c u p (call.Seek fd offset) errno.Invalid refl) (λ off. answers c _ p p (call.Seek fd offset) (value offset) (refl, (refl, refl)) refl)))
each_call c u p (call.Size fd) =
    at_fd c u p (call.Size fd) fd _ refl (λ s. at_file c u p (call.Size fd) s.object (λ name. gives c u p (length (bytes_of u.files name))) refl (λ name. answers c u p p (call.Size fd) (value (length (bytes_of u.files name))) (refl, refl) refl))
each_call c u p (call.Sync fd) = at_fd c u p (call.Sync fd) fd _ refl (λ s. at_file c u p (call.Sync fd) s.object (λ name. is_done c u p) refl (λ name. answers c u p p (call.Sync fd) nothing (refl, (refl, refl)) refl))
each_call c u p (call.Stat text) =
    at_text c u p (call.Stat text) text (stat c u p) refl
    (λ path. says_unless (Answer (call.Stat text) p) c u p (may_refuse (call.Stat text)) (walk u.nodes path) _ (refusing c u p (call.Stat text)) (only_walk (may_refuse (call.Stat text)) u.nodes path refl refl) (λ e. so_stat c u p text path (node_at u.nodes path)))
each_call c u p (call.Mkdir text) =
    at_text c u p (call.Mkdir text) text (mkdir c u p) refl
    (λ path. says_unless (Answer (call.Mkdir text) p) c u p (may_refuse (call.Mkdir text)) (new_refusal u path) _ (refusing c u p (call.Mkdir text)) (only_new (may_refuse (call.Mkdir text)) u path refl refl refl refl)
    (λ e. answers c _ p p (call.Mkdir text) nothing (refl, (refl, refl)) refl))
each_call c u p (call.Rmdir text) = at_text c u p (call.Rmdir text) text (rmdir c u p) refl (so_rmdir c u p text)
each_call c u p (call.Unlink text) = at_text c u p (call.Unlink text) text (unlink c u p) refl (so_unlink c u p text)
each_call c u p (call.Rename one two) =
    at_text c u p (call.Rename one two) one (λ from. at_path c u p two (rename c u p from)) refl (λ from. at_text c u p (call.Rename one two) two (rename c u p from) refl (so_rename c u p one two from))
each_call c u p (call.List text max) = at_text c u p (call.List text max) text (λ directory. list c u p directory max) refl (λ directory. so_list c u p text directory max)
each_call c u p (call.Chdir text) = at_text c u p (call.Chdir text) text (chdir c u p) refl (so_chdir c u p text)
each_call c u p (call.Migrate name) =
    says_unless (Answer (call.Migrate name) p) c u p (may_refuse (call.Migrate name)) (move_refusal c u p name) _ (refusing c u p (call.Migrate name)) (only_move (may_refuse (call.Migrate name)) c u p name refl refl)
    (λ e. answers c u p p (call.Migrate name) nothing (refl, (refl, refl)) refl)
each_call c u p (call.PdMake text) = so_make c u p text (free_descriptor p)
each_call c u p (call.PdGet fd max) =
    says_at_master (Answer (call.PdGet fd max) p) c u p (may_refuse (call.PdGet fd max)) fd (get_from c u p max) (refusing c u p (call.PdGet fd max)) refl refl
    (λ s place device e is there. says_if (Answer (call.PdGet fd max) p) (is_some device.in_hand) _ _ (λ on. no c u p (call.PdGet fd max) errno.Busy refl) (λ off. so_takes c u p fd max device device.asks))
each_call c u p (call.PdPut fd own number) =
    says_at_master (Answer (call.PdPut fd own number) p) c u p (may_refuse (call.PdPut fd own number)) fd (λ device. put_to c u p own number device device.in_hand) (refusing c u p (call.PdPut fd own number)) refl refl
    (λ s place device e is there. so_puts c u p fd own number device device.in_hand)
each_call c u p (call.Ioctl fd command own) = at_fd c u p (call.Ioctl fd command own) fd _ refl (λ s. so_ioctl c u p fd command own s.object)
each_call c u p (call.Rexec name host) = so_rexec c u p name host (program_named c.programs name)
each_call c u p (call.Refused e) = no c u p (call.Refused e) e (ap (λ b. b || false) (eq-eqb (errno_number e) (errno_number e) refl))

-- ---- failures

misses : (q : Process) (called : Call) → may_miss q called ≡ true → may_refuse called errno.Unreachable ≡ true
misses q (call.OpenFile path flags) h = refl
misses q (call.PdMake path) h = refl
misses q (call.Stat path) h = refl
misses q (call.Mkdir path) h = refl
misses q (call.Rmdir path) h = refl
misses q (call.Unlink path) h = refl
misses q (call.Rename old new) h = refl
misses q (call.List path max) h = refl
misses q (call.Chdir path) h = refl
misses q _ h = absurd (true≢false (sym h))

breaks : (called : Call) → may_break called ≡ true → may_refuse called errno.Interrupted ≡ true
breaks call.Wait h = refl
breaks (call.PdGet fd max) h = refl
breaks _ h = absurd (true≢false (sym h))

fails_so : (q : Process) (called : Call) (error : Errno) → may_fail q called error ≡ true → may_refuse called error ≡ true
fails_so q called errno.Unreachable may = misses q called may
fails_so q called errno.Interrupted may = breaks called (and_parts q.killed (may_break called) may).1
fails_so q called _ may = absurd (true≢false (sym may))

enters_fits : (c : Description) (u later : Unix) (e : Entry) (called : Call) (reply : Reply) → e.part ≡ part.Whole → e.call ≡ Some called → e.reply ≡ Some reply → Enters c u e later → Fits called reply
enters_fits c u later e called reply whole is given (Answers q known told at w told_is idle out) =
    let same : known ≡ called = some_is known called (sym at.claimed ∙ is) in
    let answer : told ≡ reply = some_is told reply (sym told_is ∙ given) in
    subst (λ k. Fits k reply) same (subst (Fits known) answer (said (Answer known q) (outcome c (with_process q u) q known) told later (each_call c (with_process q u) q known) out).fits)
enters_fits c u later e called reply whole is given (Fails q known error at w told_is idle may out) =
    let same : known ≡ called = some_is known called (sym at.claimed ∙ is) in
    let answer : Error error ≡ reply = some_is (Error error) reply (sym told_is ∙ given) in
    subst (λ k. Fits k reply) same (subst (Fits known) answer (fails_so q known error may))
enters_fits c u later e called reply whole is given (Asks q known place device at ask told_is idle goes there out) = absurd (let two : part.Whole ≡ part.Ask = sym whole ∙ ask in cc)
enters_fits c u later e called reply whole is given (Fetches q known place device told at done told_is busy there due out) = absurd (let two : part.Whole ≡ part.Done = sym whole ∙ done in cc)
enters_fits c u later e called reply whole is given (Dies p there alive killed idle dead none told_is out) = absurd (let two : part.Whole ≡ part.Death = sym whole ∙ dead in cc)

pub replies_fit : RepliesFit
replies_fit c u v e called reply is whole call_is given =
    let o = opened c u v e is in enters_fits c u o.later e called reply whole call_is given o.enters
