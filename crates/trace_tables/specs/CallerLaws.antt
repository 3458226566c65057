-- What the state of the one-kernel Unix tells of a process is what a place of a trace tells.
use Rattle.std.proofs.Common.{◌≡◌, ◌∙◌, ℕ, List, Option, Some, None, false, sym, ap}
use Rattle.std.specs.Option.{option_and_then}
use Rattle.process_machine.specs.declared.call.Call.{Call}
use Rattle.unix_calls.specs.declared.description.Description.{Description}
use Rattle.unix_calls.specs.declared.entry.Entry.{Entry}
use Rattle.unix_calls.specs.declared.event.Event.{Event}
use Rattle.unix_calls.specs.declared.event.Event.TheVariants as event
use Rattle.unix_calls.specs.declared.state.Process.{Process}
use Rattle.unix_calls.specs.declared.state.Stream.{Stream}
use Rattle.unix_calls.specs.State.{Unix, process_at, stream_of}
use Rattle.unix_world.specs.declared.World.{World}
use Rattle.unix_world.specs.Worlds.{unix_of}
use Rattle.call_journal.specs.Past.{Past, entry_count}
use Rattle.call_journal.specs.Calls.{descriptor_of}
use Rattle.call_journal.specs.EntryPlaces.{device_of_object}
use Rattle.call_journal.specs.Moves.{is_master}
use Rattle.trace_tables.specs.declared.caller.Caller.{Caller}
use Rattle.trace_tables.specs.declared.tied.Tied.{Tied}
use Rattle.trace_tables.specs.Ties.{tied_at}
use Rattle.trace_tables.specs.Callers.{caller_at, caller_in, server_of_entry, device_of_entry}

-- of an entry, by the state
abbrev entering : Description → Option Tied → Entry → Option Unix → Caller
entering c tied entry u = record {
  tied = tied;
  place = entry_count u;
  server = server_of_entry c (option_and_then (λ (v : Unix). process_at v.processes entry.pid) u) entry;
  device = device_of_entry (λ (call : Call). option_and_then (λ (s : Stream). device_of_object s.object) (option_and_then (λ (fd : ℕ). option_and_then (λ (v : Unix). option_and_then (λ (p : Process). stream_of v p fd) (process_at v.processes entry.pid)) u) (descriptor_of call))) (option_and_then (λ (p : Process). p.asking) (option_and_then (λ (v : Unix). process_at v.processes entry.pid) u)) entry;
  is_master = false;
}

abbrev issuing : ℕ → Option Unix → Caller
issuing pid u = record { tied = None; place = entry_count u; server = None; device = None; is_master = is_master u pid }

abbrev other : Option Tied → Option Unix → Caller
other tied u = record { tied = tied; place = entry_count u; server = None; device = None; is_master = false }

-- by the file and the stream that the call goes by
told_by : (c : Description) (world : World) (ps : List Process) (past : Past) (e : Event) → past.unix ≡ Some (unix_of c world ps) → caller_in c world ps (tied_at past e) e ≡ caller_at c past e
told_by c world ps past (event.Enter entry) unix = sym (ap (entering c (tied_at past (event.Enter entry)) entry) unix)
told_by c world ps past (event.Issue pid number call) unix = sym (ap (issuing pid) unix)
told_by c world ps past (event.Send tx to about kind) unix = sym (ap (other (tied_at past (event.Send tx to about kind))) unix)
told_by c world ps past e unix = sym (ap (other None) unix)

pub caller_told : (c : Description) (world : World) (ps : List Process) (past : Past) (tied : Option Tied) (e : Event) → tied ≡ tied_at past e → past.unix ≡ Some (unix_of c world ps) → caller_in c world ps tied e ≡ caller_at c past e
caller_told c world ps past tied e is unix = ap (λ t. caller_in c world ps t e) is ∙ told_by c world ps past e unix
