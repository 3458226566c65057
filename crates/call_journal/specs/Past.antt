-- What a place of a trace looks back on, and how a rule speaks of each record.
use Rattle.std.specs.Prelude.{ℕ, ◌+◌, ◌==◌, Bool, true, false, ◌&&◌, ◌||◌, if◌then◌else◌, List, [], ◌∷◌, ◌++◌, map, Option, Some, None}
use Rattle.std.specs.Option.{option_map, option_and_then}
use Rattle.sprite_ids.specs.Pid.{home_of}
use Rattle.process_machine.specs.declared.call.Call.{Call}
use Rattle.process_machine.specs.declared.call.Reply.{Reply}
use Rattle.process_machine.specs.declared.call.Reply.TheVariants.{Value}
use Rattle.unix_calls.specs.declared.description.Description.{Description}
use Rattle.unix_calls.specs.declared.entry.Entry.{Entry}
use Rattle.unix_calls.specs.declared.event.Event.{Event}
use Rattle.unix_calls.specs.declared.event.Event.TheVariants as event
use Rattle.unix_calls.specs.declared.event.Rec.{Rec}
use Rattle.process_machine.specs.declared.call.Call.TheVariants as call
use Rattle.sprite_ids.specs.declared.names.FileId.{FileId}
use Rattle.sprite_ids.specs.declared.names.StreamNo.{StreamNo}
use Rattle.unix_calls.specs.declared.state.FileName.{FileName}
use Rattle.unix_calls.specs.declared.state.Object.{Object}
use Rattle.unix_calls.specs.declared.state.Stream.{Stream}
use Rattle.unix_calls.specs.declared.state.Process.{Process}
use Rattle.unix_calls.specs.declared.state.Object.TheVariants.{OfFile}
use Rattle.unix_calls.specs.State.{Unix, process_at, stream_at, stream_of}
use Rattle.unix_calls.specs.Boot.{boot_of}
use Rattle.unix_calls.specs.After.{after}

-- whether there is a value, and it meets a test
abbrev pub holds : {A : Type 0} → (A → Bool) → Option A → Bool
holds test None = false
holds test (Some x) = test x

-- where a process is: its kernel, and whether it is on its way; then the kernel is the one that froze it
pub record Whereabouts : Type 0 where
  pub pid : ℕ
  pub kernel : ℕ
  pub moving : Bool

-- a stream of the one-kernel Unix, by the place of the entry that made it, the file that it leads to there, and the names
-- that the file's server has for both: those of the Opened directly before that entry
pub record Tie : Type 0 where
  pub place : ℕ
  pub name : FileName
  pub file : FileId
  pub stream : StreamNo

-- the kernel that serves a device, which the entry at that place made: the one on which its master made it
pub record Served : Type 0 where
  pub place : ℕ
  pub kernel : ℕ

-- a record, and the stream that its entry makes in the one-kernel Unix, if it makes one
pub record Seen : Type 0 where
  pub rec : Rec
  pub made : Option Stream

-- what the records before a place tell: themselves, what each of them made, the state of the one-kernel Unix after their
-- journal (none where it is no history), where each process is, which streams are tied to which, and who serves the devices
pub record Past : Type 0 where
  pub records : List Rec
  pub seen : List Seen
  pub unix : Option Unix
  pub processes : List Whereabouts
  pub ties : List Tie
  pub devices : List Served

-- what a list leads to, item by item: each step sees the items before it, the first of which are those given
abbrev pub folded_from : {A : Type 0} → {S : Type 0} → (List A → A → S → S) → List A → S → List A → S
folded_from step before s [] = s
folded_from step before s (x ∷ rest) = folded_from step (before ++ x ∷ []) (step before x s) rest

abbrev pub folded : {A : Type 0} → {S : Type 0} → (List A → A → S → S) → S → List A → S
folded step s xs = folded_from step [] s xs

-- the whereabouts of a process among those of all
abbrev pub whereabouts_of : List Whereabouts → ℕ → Option Whereabouts
whereabouts_of [] pid = None
whereabouts_of (w ∷ ws) pid = if w.pid == pid then Some w else whereabouts_of ws pid

-- the whereabouts of all, with these of one process
abbrev pub with_whereabouts : Whereabouts → List Whereabouts → List Whereabouts
with_whereabouts w [] = w ∷ []
with_whereabouts w (v ∷ vs) = if v.pid == w.pid then w ∷ vs else v ∷ with_whereabouts w vs

-- the child that an entry makes, if it is a fork's
abbrev pub child_in : Option Call → Option Reply → Option ℕ
child_in (Some call.Fork) (Some (Value child second bytes)) = Some child
child_in _ _ = None

abbrev pub child_of_entry : Entry → Option ℕ
child_of_entry entry = child_in entry.call entry.reply

-- a child begins where its parent is
abbrev pub with_child : Option ℕ → Option Whereabouts → List Whereabouts → List Whereabouts
with_child (Some child) (Some parent) ws =
    with_whereabouts (record { pid = child; kernel = parent.kernel; moving = parent.moving }) ws
with_child _ _ ws = ws

-- the whereabouts after an event of a kernel
abbrev pub moved_by : ℕ → Event → List Whereabouts → List Whereabouts
moved_by kernel (event.Enter entry) ws = with_child (child_of_entry entry) (whereabouts_of ws entry.pid) ws
moved_by kernel (event.Freeze pid) ws = with_whereabouts (record { pid = pid; kernel = kernel; moving = true }) ws
moved_by kernel (event.Thaw pid) ws = with_whereabouts (record { pid = pid; kernel = kernel; moving = false }) ws
moved_by kernel _ ws = ws

-- the state after an event
abbrev pub state_by : Description → Event → Option Unix → Option Unix
state_by c (event.Enter entry) u = option_and_then (λ v. after c v entry) u
state_by c _ u = u

-- the event of the last of some records, and of the last but one
abbrev pub last_event : List Rec → Option Event
last_event [] = None
last_event (rec ∷ []) = Some rec.event
last_event (rec ∷ next ∷ rest) = last_event (next ∷ rest)

abbrev pub event_before_last : List Rec → Option Event
event_before_last [] = None
event_before_last (rec ∷ []) = None
event_before_last (rec ∷ next ∷ []) = Some rec.event
event_before_last (rec ∷ next ∷ third ∷ rest) = event_before_last (next ∷ third ∷ rest)

-- the tie of a stream that an entry made, by the event directly before it
abbrev pub tie_to : ℕ → Object → Option Event → List Tie
tie_to place (OfFile name) (Some (event.Opened file stream kernel mode)) =
    record { place = place; name = name; file = file; stream = stream } ∷ []
tie_to place object before = []

-- the stream that the entry at that place made, if it made one
abbrev pub stream_made : ℕ → Option Unix → Option Stream
stream_made place u = option_and_then (λ (v : Unix). stream_at v.streams place) u

abbrev pub ties_to : ℕ → Option Stream → Option Event → List Tie
ties_to place None before = []
ties_to place (Some stream) before = tie_to place stream.object before

-- how many entries stand before a place
abbrev pub entry_count : Option Unix → ℕ
entry_count None = 0
entry_count (Some u) = u.entries

-- the stream that an event makes, in the state that it leads to
abbrev pub made_by : ℕ → Event → Option Unix → Option Stream
made_by place (event.Enter entry) later = stream_made place later
made_by place _ later = None

abbrev pub seen_at : Option Unix → Rec → Option Unix → Seen
seen_at u rec later = record { rec = rec; made = made_by (entry_count u) rec.event later }

-- some records with what each of them makes, from a state on; all of a trace
abbrev pub seen_from : Description → Option Unix → List Rec → List Seen
seen_from c u [] = []
seen_from c u (rec ∷ rest) = seen_at u rec (state_by c rec.event u) ∷ seen_from c (state_by c rec.event u) rest

abbrev pub seen_of : Description → List Rec → List Seen
seen_of c trace = seen_from c (Some (boot_of c)) trace

-- whether a stream is one of a file
abbrev pub is_of_file : Object → Bool
is_of_file (OfFile name) = true
is_of_file object = false

-- the stream of a file that a record makes, if it makes one
abbrev pub file_stream : Option Stream → Option Stream
file_stream None = None
file_stream (Some stream) = if is_of_file stream.object then Some stream else None

abbrev pub opening_of : Seen → Option Stream
opening_of seen = file_stream seen.made

-- the stream of a file that the first of some records makes, which stand behind a state
abbrev pub opening_behind : Description → Option Unix → List Rec → Option Stream
opening_behind c u [] = None
opening_behind c u (rec ∷ rest) = opening_of (seen_at u rec (state_by c rec.event u))

abbrev pub ties_by : Past → Option Unix → Event → List Tie
ties_by past later (event.Enter entry) =
    past.ties ++ ties_to (entry_count past.unix) (stream_made (entry_count past.unix) later) (last_event past.records)
ties_by past later _ = past.ties

-- a device is made by `pd_make`, and served by the kernel of its master
abbrev pub made_device : ℕ → Option Call → Option Reply → Option Whereabouts → List Served
made_device place (Some (call.PdMake path)) (Some (Value first second bytes)) (Some w) =
    record { place = place; kernel = w.kernel } ∷ []
made_device _ _ _ _ = []

abbrev pub devices_by : Past → Event → List Served
devices_by past (event.Enter entry) =
    past.devices ++ made_device (entry_count past.unix) entry.call entry.reply (whereabouts_of past.processes entry.pid)
devices_by past _ = past.devices

-- before the first record each process is at its home
abbrev pub at_homes : List Process → List Whereabouts
at_homes ps = map (λ (p : Process). record { pid = p.pid; kernel = home_of p.pid; moving = false }) ps

abbrev pub no_past : Description → Past
no_past c =
    record { records = []; seen = []; unix = Some (boot_of c); processes = at_homes (boot_of c).processes; ties = []; devices = [] }

-- one record later
abbrev pub past_at : Rec → Past → Option Unix → Past
past_at rec past later =
    record {
      records = past.records ++ rec ∷ [];
      seen = past.seen ++ seen_at past.unix rec later ∷ [];
      unix = later;
      processes = moved_by rec.kernel rec.event past.processes;
      ties = ties_by past later rec.event;
      devices = devices_by past rec.event;
    }

abbrev pub past_with : Description → Rec → Past → Past
past_with c rec past = past_at rec past (state_by c rec.event past.unix)

-- what is behind all records of a trace
abbrev pub past_from : Description → Past → List Rec → Past
past_from c past [] = past
past_from c past (rec ∷ rest) = past_from c (past_with c rec past) rest

abbrev pub past_of : Description → List Rec → Past
past_of c trace = past_from c (no_past c) trace

-- each record meets a test, which sees what stands before it, and the records behind it
abbrev pub each_from : Description → (Past → Rec → List Rec → Bool) → Past → List Rec → Bool
each_from c test past [] = true
each_from c test past (rec ∷ rest) = test past rec rest && each_from c test (past_with c rec past) rest

abbrev pub each_record : Description → (Past → Rec → List Rec → Bool) → List Rec → Bool
each_record c test trace = each_from c test (no_past c) trace

-- some record meets such a test
abbrev pub some_from : Description → (Past → Rec → List Rec → Bool) → Past → List Rec → Bool
some_from c test past [] = false
some_from c test past (rec ∷ rest) = test past rec rest || some_from c test (past_with c rec past) rest

abbrev pub some_record : Description → (Past → Rec → List Rec → Bool) → List Rec → Bool
some_record c test trace = some_from c test (no_past c) trace

-- how many records meet such a test
abbrev pub count_from : Description → (Past → Rec → List Rec → Bool) → Past → List Rec → ℕ
count_from c test past [] = 0
count_from c test past (rec ∷ rest) = (if test past rec rest then 1 else 0) + count_from c test (past_with c rec past) rest

abbrev pub count_records : Description → (Past → Rec → List Rec → Bool) → List Rec → ℕ
count_records c test trace = count_from c test (no_past c) trace

-- some record meets a test that sees it and the records behind it
abbrev pub some_then : (Rec → List Rec → Bool) → List Rec → Bool
some_then test [] = false
some_then test (rec ∷ rest) = test rec rest || some_then test rest

-- the records behind the last one that meets a test; all where none does
abbrev pub since_from : (Rec → Bool) → List Rec → List Rec → List Rec
since_from test kept [] = kept
since_from test kept (rec ∷ rest) = if test rec then since_from test [] rest else since_from test (kept ++ rec ∷ []) rest

abbrev pub since_last : (Rec → Bool) → List Rec → List Rec
since_last test records = since_from test [] records

-- a process in the state that a place looks back on
abbrev pub process_in : Past → ℕ → Option Process
process_in past pid = option_and_then (λ (u : Unix). process_at u.processes pid) past.unix

-- the kernel of a process that isn't on its way
abbrev pub settled_at : Whereabouts → Option ℕ
settled_at w = if w.moving then None else Some w.kernel

abbrev pub place_of : Past → ℕ → Option ℕ
place_of past pid = option_and_then settled_at (whereabouts_of past.processes pid)

-- the kernel of a process; of one that is on its way, the one that froze it
abbrev pub kernel_of : Past → ℕ → Option ℕ
kernel_of past pid = option_map (λ (w : Whereabouts). w.kernel) (whereabouts_of past.processes pid)

-- whether a process is on its way
abbrev pub is_moving : Past → ℕ → Bool
is_moving past pid = holds (λ (w : Whereabouts). w.moving) (whereabouts_of past.processes pid)

-- the stream of a process's descriptor
abbrev pub stream_in : Past → ℕ → ℕ → Option Stream
stream_in past pid fd =
    option_and_then (λ (u : Unix). option_and_then (λ (p : Process). stream_of u p fd) (process_at u.processes pid)) past.unix

-- the tie of a stream
abbrev pub tie_at : List Tie → ℕ → Option Tie
tie_at [] place = None
tie_at (tie ∷ ties) place = if tie.place == place then Some tie else tie_at ties place

-- the file and the stream behind a process's descriptor, as the file's server names them; none where it leads to no file
abbrev pub tied : Past → ℕ → ℕ → Option Tie
tied past pid fd = option_and_then (λ (s : Stream). tie_at past.ties s.place) (stream_in past pid fd)

-- the kernel that serves a device
abbrev pub server_of_device : List Served → ℕ → Option ℕ
server_of_device [] place = None
server_of_device (d ∷ ds) place = if d.place == place then Some d.kernel else server_of_device ds place
