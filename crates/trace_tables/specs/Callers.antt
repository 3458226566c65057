-- What the one-kernel Unix tells of the process of a record.
use Rattle.std.specs.Prelude.{ℕ, Bool, false, if◌then◌else◌, List, [], ◌∷◌, Option, Some, None}
use Rattle.std.specs.List.{list_any}
use Rattle.std.specs.Option.{option_map, option_and_then}
use Rattle.sprite_paths.specs.Path.{clean_path}
use Rattle.process_machine.specs.declared.call.Call.{Call}
use Rattle.process_machine.specs.declared.call.Reply.{Reply}
use Rattle.unix_calls.specs.declared.description.Description.{Description}
use Rattle.unix_calls.specs.declared.entry.Entry.{Entry}
use Rattle.unix_calls.specs.declared.entry.Part.{Part}
use Rattle.unix_calls.specs.declared.entry.Part.TheVariants as part
use Rattle.unix_calls.specs.declared.event.Event.{Event}
use Rattle.unix_calls.specs.declared.event.Event.TheVariants as event
use Rattle.unix_calls.specs.declared.event.Rec.{Rec}
use Rattle.unix_calls.specs.declared.state.Device.{Device}
use Rattle.unix_calls.specs.declared.state.Process.{Process}
use Rattle.unix_calls.specs.declared.state.Stream.{Stream}
use Rattle.unix_calls.specs.State.{process_at, holds_master_of}
use Rattle.unix_world.specs.declared.World.{World}
use Rattle.unix_world.specs.Worlds.{stream_of_fd}
use Rattle.call_journal.specs.Past.{Past, holds, process_in, entry_count, no_past, past_with}
use Rattle.call_journal.specs.Calls.{descriptor_of, error_in, path_text, server_of}
use Rattle.call_journal.specs.EntryPlaces.{device_asked, device_asking, device_of_object, stays_by}
use Rattle.call_journal.specs.Moves.{is_master}
use Rattle.trace_tables.specs.declared.caller.Caller.{Caller}
use Rattle.trace_tables.specs.declared.tied.Tied.{Tied}
use Rattle.trace_tables.specs.Ties.{tied_at}

-- the server of the first path of a call, from the process's directory; none where the call stays at its process's kernel
abbrev pub server_by : Description → Process → Option (List ℕ) → Option ℕ
server_by c p None = None
server_by c p (Some text) = option_map (server_of c) (clean_path p.cwd text)

abbrev pub name_server : Description → Process → Call → Option Reply → Option ℕ
name_server c p call reply = if stays_by call (Some p) (error_in reply) then None else server_by c p (path_text call)

abbrev pub server_of_entry : Description → Option Process → Entry → Option ℕ
server_of_entry c p entry =
    option_and_then (λ (call : Call). option_and_then (λ (q : Process). name_server c q call entry.reply) p) entry.call

-- the device of an ask and of its answer: the one that its call goes to, and the one that its process asks
abbrev pub device_by : (Call → Option ℕ) → Option ℕ → Part → Call → Option ℕ
device_by asked asking part.Ask call = asked call
device_by asked asking part.Done call = asking
device_by asked asking _ call = None

abbrev pub device_of_entry : (Call → Option ℕ) → Option ℕ → Entry → Option ℕ
device_of_entry asked asking entry = option_and_then (device_by asked asking entry.part) entry.call

-- ---- at a place of a trace

abbrev pub caller_at : Description → Past → Event → Caller
caller_at c past (event.Enter entry) =
    record {
      tied = tied_at past (event.Enter entry);
      place = entry_count past.unix;
      server = server_of_entry c (process_in past entry.pid) entry;
      device = device_of_entry (device_asked past entry) (device_asking past entry) entry;
      is_master = false;
    }
caller_at c past (event.Issue pid number call) =
    record { tied = None; place = entry_count past.unix; server = None; device = None; is_master = is_master past.unix pid }
caller_at c past e = record { tied = tied_at past e; place = entry_count past.unix; server = None; device = None; is_master = false }

-- of each of some records behind a past
abbrev pub callers_from : Description → Past → List Rec → List Caller
callers_from c past [] = []
callers_from c past (rec ∷ rest) = caller_at c past rec.event ∷ callers_from c (past_with c rec past) rest

-- of each record of a trace
abbrev pub callers_of : Description → List Rec → List Caller
callers_of c trace = callers_from c (no_past c) trace

-- ---- in a state of the one-kernel Unix

abbrev pub server_in_entry : Description → List Process → Entry → Option ℕ
server_in_entry c ps entry = server_of_entry c (process_at ps entry.pid) entry

abbrev pub stream_in_world : World → List Process → ℕ → ℕ → Option Stream
stream_in_world world ps pid fd = option_and_then (λ (p : Process). stream_of_fd world p fd) (process_at ps pid)

abbrev pub device_in : World → List Process → ℕ → Call → Option ℕ
device_in world ps pid call =
    option_and_then (λ (s : Stream). device_of_object s.object) (option_and_then (stream_in_world world ps pid) (descriptor_of call))

abbrev pub asking_in : List Process → ℕ → Option ℕ
asking_in ps pid = option_and_then (λ (p : Process). p.asking) (process_at ps pid)

abbrev pub device_in_entry : World → List Process → Entry → Option ℕ
device_in_entry world ps entry = device_of_entry (device_in world ps entry.pid) (asking_in ps entry.pid) entry

abbrev pub is_master_in : World → List Process → ℕ → Bool
is_master_in world ps pid =
    holds (λ (p : Process). list_any (λ (d : Device). holds_master_of world.streams d.place p) world.devices) (process_at ps pid)

abbrev pub caller_in : Description → World → List Process → Option Tied → Event → Caller
caller_in c world ps tied (event.Enter entry) =
    record {
      tied = tied;
      place = world.entries;
      server = server_in_entry c ps entry;
      device = device_in_entry world ps entry;
      is_master = false;
    }
caller_in c world ps tied (event.Issue pid number call) =
    record { tied = tied; place = world.entries; server = None; device = None; is_master = is_master_in world ps pid }
caller_in c world ps tied _ = record { tied = tied; place = world.entries; server = None; device = None; is_master = false }
