-- What holds of a call's reply and of the state behind it, where it is answered.
use Rattle.std.proofs.Common.{◌≡◌, Bool, true, false, cond, ℕ, List, [], ◌∷◌, ◌++◌, Option, Some, None, refl, subst}
use Rattle.sprite_ids.specs.declared.Errno.{Errno}
use Rattle.sprite_ids.specs.declared.Errno.TheVariants as errno
use Rattle.sprite_paths.specs.Path.{clean_path}
use Rattle.process_machine.specs.declared.call.Reply.{Reply}
use Rattle.process_machine.specs.declared.call.Reply.TheVariants.{Error}
use Rattle.unix_calls.specs.declared.Description.{Description}
use Rattle.unix_calls.specs.declared.state.Device.{Device}
use Rattle.unix_calls.specs.declared.state.FileName.{FileName}
use Rattle.unix_calls.specs.declared.state.Named.{Named}
use Rattle.unix_calls.specs.declared.state.Node.{Node}
use Rattle.unix_calls.specs.declared.state.Node.TheVariants.{Directory, FileNode, DeviceNode}
use Rattle.unix_calls.specs.declared.state.Object.{Object}
use Rattle.unix_calls.specs.declared.state.Object.TheVariants.{OfFile, OfDevice, OfMaster}
use Rattle.unix_calls.specs.declared.state.Process.{Process}
use Rattle.unix_calls.specs.declared.state.Stream.{Stream}
use Rattle.unix_calls.specs.Tree.{first_of, node_at, walk, walk_from, walk_stop}
use Rattle.unix_calls.specs.State.{Unix, device_at, stream_of, with_process}
use Rattle.unix_calls.specs.Answers.{Outcome, Answered, GoesTo, Waits, refuses, replied, unless_refused}
use Rattle.unix_calls.specs.NameCalls.{a_directory, at_path, missing, no_directory, refusal_if, with_path}
use Rattle.unix_calls.specs.StreamCalls.{at_stream, with_file, with_found}
use Rattle.unix_calls.specs.DeviceCalls.{at_master, device_of, with_device_of}

-- where an outcome is an answer, a fact holds of its reply and the state behind it
abbrev pub SaysIn : (Reply → Unix → Type 0) → Outcome → Type 0
SaysIn Q (Answered reply later) = Q reply later
SaysIn Q (GoesTo place) = Unit {0}
SaysIn Q Waits = Unit {0}

pub record Says (Q : Reply → Unix → Type 0) (o : Outcome) : Type 0 where
  pub does : SaysIn Q o

pub said : (Q : Reply → Unix → Type 0) (o : Outcome) (reply : Reply) (later : Unix) → Says Q o → o ≡ Answered reply later → Q reply later
said Q o reply later s is = subst (SaysIn Q) is s.does

pub says_if : (Q : Reply → Unix → Type 0) (b : Bool) (x y : Outcome) → (b ≡ true → Says Q x) → (b ≡ false → Says Q y) → Says Q (cond b x y)
says_if Q true x y so other = so refl
says_if Q false x y so other = other refl

-- what is to be known of the refusals of p in u: they are so for the errors that pass a test
pub record Refuses (Q : Reply → Unix → Type 0) (c : Description) (u : Unix) (p : Process) (may : Errno → Bool) : Type 0 where
  pub refused : (e : Errno) → may e ≡ true → Q (Error e) (with_process (replied c p (Error e)) u)

pub says_refuses : (Q : Reply → Unix → Type 0) (c : Description) (u : Unix) (p : Process) (may : Errno → Bool) → Refuses Q c u p may → (e : Errno) → may e ≡ true → Says Q (refuses c u p e)
says_refuses Q c u p may r e ok = record { does = r.refused e ok }

-- each error that is there passes the test
pub record Only (may : Errno → Bool) (o : Option Errno) : Type 0 where
  pub each : (e : Errno) → o ≡ Some e → may e ≡ true

pub only_none : (may : Errno → Bool) → Only may None
only_none may = record { each = λ e h. absurd (cc) }

pub only_some : (may : Errno → Bool) (e : Errno) → may e ≡ true → Only may (Some e)
only_some may e ok = record { each = λ f h. subst (λ k. may k ≡ true) (Rattle.sprite_ids.proofs.ListLaws.some_is e f h) ok }

pub only_first : (may : Errno → Bool) (a b : Option Errno) → Only may a → Only may b → Only may (first_of a b)
only_first may None b first second = second
only_first may (Some e) b first second = first

pub only_if : (may : Errno → Bool) (fact : Bool) (e : Errno) → may e ≡ true → Only may (refusal_if fact e)
only_if may true e ok = only_some may e ok
only_if may false e ok = only_none may

only_stop : (may : Errno → Bool) (o : Option Node) → may errno.NoEntry ≡ true → may errno.NotDir ≡ true → Only may (walk_stop o)
only_stop may None missing other = only_some may errno.NoEntry missing
only_stop may (Some Directory) missing other = only_none may
only_stop may (Some (FileNode name)) missing other = only_some may errno.NotDir other
only_stop may (Some (DeviceNode place)) missing other = only_some may errno.NotDir other

only_walk_from : (may : Errno → Bool) (nodes : List Named) (done path : List (List ℕ)) → may errno.NoEntry ≡ true → may errno.NotDir ≡ true → Only may (walk_from nodes done path)
only_walk_from may nodes done [] missing other = only_none may
only_walk_from may nodes done (last ∷ []) missing other = only_none may
only_walk_from may nodes done (part ∷ more ∷ rest) missing other =
    only_first may (walk_stop (node_at nodes (done ++ part ∷ []))) (walk_from nodes (done ++ part ∷ []) (more ∷ rest)) (only_stop may (node_at nodes (done ++ part ∷ [])) missing other) (only_walk_from may nodes (done ++ part ∷ []) (more ∷ rest) missing other)

pub only_walk : (may : Errno → Bool) (nodes : List Named) (path : List (List ℕ)) → may errno.NoEntry ≡ true → may errno.NotDir ≡ true → Only may (walk nodes path)
only_walk may nodes path missing other = only_walk_from may nodes [] path missing other

pub only_missing : (may : Errno → Bool) (o : Option Node) → may errno.NoEntry ≡ true → Only may (missing o)
only_missing may None ok = only_some may errno.NoEntry ok
only_missing may (Some node) ok = only_none may

pub only_no_directory : (may : Errno → Bool) (o : Option Node) → may errno.NotDir ≡ true → Only may (no_directory o)
only_no_directory may None ok = only_some may errno.NotDir ok
only_no_directory may (Some Directory) ok = only_none may
only_no_directory may (Some (FileNode name)) ok = only_some may errno.NotDir ok
only_no_directory may (Some (DeviceNode place)) ok = only_some may errno.NotDir ok

pub only_a_directory : (may : Errno → Bool) (o : Option Node) → may errno.IsDir ≡ true → Only may (a_directory o)
only_a_directory may None ok = only_none may
only_a_directory may (Some Directory) ok = only_some may errno.IsDir ok
only_a_directory may (Some (FileNode name)) ok = only_none may
only_a_directory may (Some (DeviceNode place)) ok = only_none may

pub says_unless : (Q : Reply → Unix → Type 0) (c : Description) (u : Unix) (p : Process) (may : Errno → Bool) (refusal : Option Errno) (x : Outcome) → Refuses Q c u p may → Only may refusal → (refusal ≡ None → Says Q x) → Says Q (unless_refused c u p refusal x)
says_unless Q c u p may (Some e) x r only h = record { does = r.refused e (only.each e refl) }
says_unless Q c u p may None x r only h = h refl

pub says_at_path : (Q : Reply → Unix → Type 0) (c : Description) (u : Unix) (p : Process) (may : Errno → Bool) (text : List ℕ) (rest : List (List ℕ) → Outcome) → Refuses Q c u p may → may errno.BadName ≡ true → ((path : List (List ℕ)) → Says Q (rest path)) → Says Q (at_path c u p text rest)
says_at_path Q c u p may text rest r ok h = by (clean_path p.cwd text)
  where
    by : (found : Option (List (List ℕ))) → Says Q (with_path c u p found rest)
    by None = record { does = r.refused errno.BadName ok }
    by (Some path) = h path

pub says_at_stream : (Q : Reply → Unix → Type 0) (c : Description) (u : Unix) (p : Process) (may : Errno → Bool) (fd : ℕ) (rest : Stream → Outcome) → Refuses Q c u p may → may errno.BadFd ≡ true → ((s : Stream) → stream_of u p fd ≡ Some s → Says Q (rest s)) → Says Q (at_stream c u p fd rest)
says_at_stream Q c u p may fd rest r ok h = by (stream_of u p fd) refl
  where
    by : (found : Option Stream) → stream_of u p fd ≡ found → Says Q (with_found c u p found rest)
    by None e = record { does = r.refused errno.BadFd ok }
    by (Some s) e = h s e

pub says_with_file : (Q : Reply → Unix → Type 0) (c : Description) (u : Unix) (p : Process) (may : Errno → Bool) (object : Object) (rest : FileName → Outcome) → Refuses Q c u p may → may errno.Invalid ≡ true → ((name : FileName) → Says Q (rest name)) → Says Q (with_file c u p object rest)
says_with_file Q c u p may (OfFile name) rest r ok h = h name
says_with_file Q c u p may (OfDevice place) rest r ok h = record { does = r.refused errno.Invalid ok }
says_with_file Q c u p may (OfMaster place) rest r ok h = record { does = r.refused errno.Invalid ok }

-- a master's descriptor, with its stream and its device
pub says_at_master : (Q : Reply → Unix → Type 0) (c : Description) (u : Unix) (p : Process) (may : Errno → Bool) (fd : ℕ) (rest : Device → Outcome) → Refuses Q c u p may → may errno.BadFd ≡ true → may errno.BadMode ≡ true
    → ((s : Stream) (place : ℕ) (device : Device) → stream_of u p fd ≡ Some s → s.object ≡ OfMaster place → device_at u.devices place ≡ Some device → Says Q (rest device)) → Says Q (at_master c u p fd rest)
says_at_master Q c u p may fd rest r no_fd no_mode h = says_at_stream Q c u p may fd (λ stream. with_device_of c u p (device_of u stream.object) rest) r no_fd (λ s e. object s s.object e refl)
  where
    object : (s : Stream) (object : Object) → stream_of u p fd ≡ Some s → s.object ≡ object → Says Q (with_device_of c u p (device_of u object) rest)
    object s (OfFile name) e is = record { does = r.refused errno.BadMode no_mode }
    object s (OfDevice place) e is = record { does = r.refused errno.BadMode no_mode }
    object s (OfMaster place) e is = by (device_at u.devices place) refl
      where
        by : (found : Option Device) → device_at u.devices place ≡ found → Says Q (with_device_of c u p found rest)
        by None there = record { does = r.refused errno.BadMode no_mode }
        by (Some device) there = h s place device e is there
