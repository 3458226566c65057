-- What an entry does to files is told by what is kept.
use Rattle.std.proofs.Common.{◌≡◌, ◌∙◌, ℕ, ◌==◌, Bool, cond, ◌&&◌, List, Option, Some, None, refl, sym, ap, ap₂, length}
use Rattle.std.specs.Option.{option_map, option_and_then, is_some}
use Rattle.process_machine.specs.declared.call.Call.{Call}
use Rattle.process_machine.specs.declared.call.Call.TheVariants as call
use Rattle.process_machine.specs.declared.call.Reply.{Reply}
use Rattle.process_machine.specs.declared.call.Reply.TheVariants.{Value, Error}
use Rattle.unix_calls.specs.declared.description.Description.{Description}
use Rattle.unix_calls.specs.declared.entry.Entry.{Entry}
use Rattle.unix_calls.specs.declared.event.Event.{Event}
use Rattle.unix_calls.specs.declared.event.Event.TheVariants as event
use Rattle.unix_calls.specs.declared.event.Rec.{Rec}
use Rattle.unix_calls.specs.declared.state.Object.{Object}
use Rattle.unix_calls.specs.declared.state.Object.TheVariants.{OfFile, OfDevice, OfMaster}
use Rattle.unix_calls.specs.declared.state.Process.{Process}
use Rattle.unix_calls.specs.declared.state.Stream.{Stream}
use Rattle.unix_calls.specs.State.{Unix, process_at, stream_of}
use Rattle.unix_calls.specs.StreamCalls.{begins_at}
use Rattle.unix_world.specs.declared.World.{World}
use Rattle.unix_world.specs.Worlds.{unix_of, bare}
use Rattle.call_journal.specs.Past.{Past, Tie, stream_in, tied, state_by, entry_count, made_by, stream_made, file_stream}
use Rattle.call_journal.specs.Calls.{is_whole, descriptor_of}
use Rattle.call_journal.specs.CachedCalls.{Range, bytes_in, use_of, read_range, write_range, is_local}
use Rattle.call_journal.specs.Drops.{is_truncating_event}
use Rattle.trace_tables.specs.declared.Tied.{Tied}
use Rattle.trace_tables.specs.Known.{stream_for}
use Rattle.trace_tables.specs.Ties.{tied_by, tied_at}
use Rattle.sharing_rules.specs.declared.entry_facts.EntryFacts.{EntryFacts}
use Rattle.sharing_rules.specs.declared.entry_facts.LocalUse.{LocalUse}
use Rattle.trace_places.specs.declared.places.Place.{Place}
use Rattle.trace_places.specs.Places.{TellsPlaces}
use Rattle.trace_places.specs.PlaceLaws.{kernel_told}
use Rattle.sharing_rules.specs.Facts.{span, span_on, use_at, local_use, local_at, facts_at, span_by, used_in, is_local_in, entry_local_in, local_in, truncates_in}

-- the stream of a descriptor, by the state
stream_kept : (c : Description) (world : World) (ps : List Process) (fd : ℕ) (o : Option Process) → stream_for world o fd ≡ option_and_then (λ (p : Process). stream_of (unix_of c world ps) p fd) o
stream_kept c world ps fd None = refl
stream_kept c world ps fd (Some p) = refl

stream_told : (c : Description) (world : World) (ps : List Process) (past : Past) (pid fd : ℕ) → past.unix ≡ Some (unix_of c world ps) → stream_for world (process_at ps pid) fd ≡ stream_in past pid fd
stream_told c world ps past pid fd unix =
    stream_kept c world ps fd (process_at ps pid)
    ∙ sym (ap (λ (u : Option Unix). option_and_then (λ (v : Unix). option_and_then (λ (p : Process). stream_of v p fd) (process_at v.processes pid)) u) unix)

-- its range
span_both : (fd : ℕ) (range : Stream → Range) (o : Option Stream) (t : Option Tie) → span_by range (option_map tied_by t) o ≡ span_on (record { fd = fd; range = range }) o t
span_both fd range None None = refl
span_both fd range None (Some tie) = refl
span_both fd range (Some s) None = refl
span_both fd range (Some s) (Some tie) = refl

used_told : (c : Description) (world : World) (ps : List Process) (past : Past) (pid fd : ℕ) (range : Stream → Range) → past.unix ≡ Some (unix_of c world ps) → span_by range (option_map tied_by (tied past pid fd)) (stream_for world (process_at ps pid) fd) ≡ span_on (record { fd = fd; range = range }) (stream_in past pid fd) (tied past pid fd)
used_told c world ps past pid fd range unix =
    ap (λ o. span_by range (option_map tied_by (tied past pid fd)) o) (stream_told c world ps past pid fd unix)
    ∙ span_both fd range (stream_in past pid fd) (tied past pid fd)

-- a write begins where it would in the whole state
bytes_alike : (c : Description) (world : World) (ps : List Process) (object : Object) → bytes_in (Some (bare world)) object ≡ bytes_in (Some (unix_of c world ps)) object
bytes_alike c world ps (OfFile name) = refl
bytes_alike c world ps (OfDevice place) = refl
bytes_alike c world ps (OfMaster place) = refl

range_alike : (c : Description) (world : World) (ps : List Process) (bytes : List ℕ) (s : Stream) → write_range (Some (bare world)) s bytes ≡ write_range (Some (unix_of c world ps)) s bytes
range_alike c world ps bytes s = ap (λ (old : List ℕ). record { from = begins_at s old; length = length bytes }) (bytes_alike c world ps s.object)

write_alike : (c : Description) (world : World) (ps : List Process) (bytes : List ℕ) (t : Option Tied) (o : Option Stream) → span_by (λ s. write_range (Some (bare world)) s bytes) t o ≡ span_by (λ s. write_range (Some (unix_of c world ps)) s bytes) t o
write_alike c world ps bytes None o = refl
write_alike c world ps bytes (Some tied) None = refl
write_alike c world ps bytes (Some tied) (Some s) = ap (λ (range : Range). Some (span tied.file range)) (range_alike c world ps bytes s)

-- the use of a call with a reply
call_told : (c : Description) (world : World) (ps : List Process) (past : Past) (pid : ℕ) (o : Option Call) (reply : Option Reply) → past.unix ≡ Some (unix_of c world ps) → used_in world ps pid (option_map tied_by (option_and_then (tied past pid) (option_and_then descriptor_of o))) (use_of (Some (bare world)) o reply) ≡ use_at past pid (use_of (Some (unix_of c world ps)) o reply)
call_told c world ps past pid None reply unix = refl
call_told c world ps past pid (Some (call.Read fd many)) None unix = refl
call_told c world ps past pid (Some (call.Read fd many)) (Some (Error e)) unix = refl
call_told c world ps past pid (Some (call.Read fd many)) (Some (Value first second bytes)) unix =
    used_told c world ps past pid fd (λ s. read_range s first) unix
call_told c world ps past pid (Some (call.Write fd content)) None unix = refl
call_told c world ps past pid (Some (call.Write fd content)) (Some (Error e)) unix = refl
call_told c world ps past pid (Some (call.Write fd content)) (Some (Value first second bytes)) unix =
    write_alike c world ps content (option_map tied_by (tied past pid fd)) (stream_for world (process_at ps pid) fd)
    ∙ used_told c world ps past pid fd (λ s. write_range (Some (unix_of c world ps)) s content) unix
call_told c world ps past pid (Some (call.Size fd)) None unix = refl
call_told c world ps past pid (Some (call.Size fd)) (Some (Error e)) unix = refl
call_told c world ps past pid (Some (call.Size fd)) (Some (Value first second bytes)) unix =
    used_told c world ps past pid fd (λ s. read_range s 0) unix
call_told c world ps past pid (Some call.Fork) reply unix = refl
call_told c world ps past pid (Some _) reply unix = refl

-- whether an entry is at its process's kernel
local_told : (places : List (ℕ × Place)) (past : Past) (kernel : ℕ) (entry : Entry) → TellsPlaces places past.processes → is_local_in places kernel entry ≡ is_local past kernel entry
local_told places past kernel entry homes = ap (λ b. is_whole entry.part && b) (sym (kernel_told places past entry.pid kernel homes))

entry_told : (c : Description) (world : World) (ps : List Process) (places : List (ℕ × Place)) (past : Past) (kernel : ℕ) (entry : Entry) → past.unix ≡ Some (unix_of c world ps) → TellsPlaces places past.processes → entry_local_in places world ps kernel entry (tied_at past (event.Enter entry)) ≡ local_use past kernel entry
entry_told c world ps places past kernel entry unix homes =
    ap (λ b. cond b (used_in world ps entry.pid (tied_at past (event.Enter entry)) (use_of (Some (bare world)) entry.call entry.reply)) None) (local_told places past kernel entry homes)
    ∙ ap (λ o. cond (is_local past kernel entry) o None) (call_told c world ps past entry.pid entry.call entry.reply unix)
    ∙ ap (λ u. cond (is_local past kernel entry) (use_at past entry.pid (use_of u entry.call entry.reply)) None) (sym unix)

used_by : (c : Description) (world : World) (ps : List Process) (places : List (ℕ × Place)) (past : Past) (kernel : ℕ) (e : Event) → past.unix ≡ Some (unix_of c world ps) → TellsPlaces places past.processes → local_in places world ps kernel e (tied_at past e) ≡ local_at past kernel e
used_by c world ps places past kernel (event.Enter entry) unix homes = entry_told c world ps places past kernel entry unix homes
used_by c world ps places past kernel (event.Burst pid count) unix homes = refl
used_by c world ps places past kernel _ unix homes = refl

-- whether an entry truncates a file
cuts_by : (c : Description) (world world_after : World) (ps ps_after : List Process) (past : Past) (e : Event) → past.unix ≡ Some (unix_of c world ps) → state_by c e past.unix ≡ Some (unix_of c world_after ps_after) → truncates_in e world_after.streams world.entries ≡ (is_truncating_event e && is_some (file_stream (made_by (entry_count past.unix) e (state_by c e past.unix))))
cuts_by c world world_after ps ps_after past (event.Enter entry) unix later =
    ap (λ u. is_truncating_event (event.Enter entry) && is_some (file_stream (stream_made world.entries u))) (sym later)
    ∙ ap (λ u. is_truncating_event (event.Enter entry) && is_some (file_stream (stream_made (entry_count u) (state_by c (event.Enter entry) past.unix)))) (sym unix)
cuts_by c world world_after ps ps_after past (event.Burst pid count) unix later = refl
cuts_by c world world_after ps ps_after past _ unix later = refl

-- all that is told of a record, with those words
abbrev pub fact_in : List (ℕ × Place) → World → List Process → World → Rec → Option Tied → EntryFacts
fact_in places world ps world_after rec tie =
    record { local = local_in places world ps rec.kernel rec.event tie; truncates = truncates_in rec.event world_after.streams world.entries }

pub facts_told : (c : Description) (world world_after : World) (ps ps_after : List Process) (places : List (ℕ × Place)) (past : Past) (rec : Rec) → past.unix ≡ Some (unix_of c world ps) → TellsPlaces places past.processes → state_by c rec.event past.unix ≡ Some (unix_of c world_after ps_after) → fact_in places world ps world_after rec (tied_at past rec.event) ≡ facts_at c past rec
facts_told c world world_after ps ps_after places past rec unix homes later =
    ap₂ (λ (l : Option LocalUse) (t : Bool). record { local = l; truncates = t }) (used_by c world ps places past rec.kernel rec.event unix homes) (cuts_by c world world_after ps ps_after past rec.event unix later)
