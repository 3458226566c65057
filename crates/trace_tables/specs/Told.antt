-- What is kept of the records before a place tells what the place looks back on.
use Rattle.std.specs.Prelude.{◌≡◌, ℕ, List, [], ◌∷◌, ◌++◌, Option, Some, None}
use Rattle.std.specs.Option.{option_map}
use Rattle.unix_calls.specs.declared.description.Description.{Description}
use Rattle.unix_calls.specs.declared.event.Event.{Event}
use Rattle.unix_calls.specs.declared.event.Event.TheVariants as event
use Rattle.unix_calls.specs.declared.event.Rec.{Rec}
use Rattle.unix_calls.specs.declared.state.Process.{Process}
use Rattle.unix_calls.specs.declared.state.Stream.{Stream}
use Rattle.unix_world.specs.declared.World.{World}
use Rattle.unix_world.specs.Among.{Ascending}
use Rattle.unix_world.specs.Worlds.{unix_of}
use Rattle.call_journal.specs.Past.{Past, tie_at, last_event}
use Rattle.call_journal.specs.Calls.{descriptor_of, issued_call}
use Rattle.trace_tables.specs.declared.known.Known.{Known}
use Rattle.trace_tables.specs.declared.call_at.CallAt.{CallAt}
use Rattle.trace_tables.specs.declared.tied.Tied.{Tied}
use Rattle.trace_tables.specs.declared.telling.Telling.{Telling}
use Rattle.trace_tables.specs.Callers.{caller_in, callers_from, callers_of}
use Rattle.trace_tables.specs.Known.{made_at, asked_at, opened_by, tied_in, Makes, Asks}
use Rattle.trace_tables.specs.Ties.{tied_by, ties_from, ties_of}

-- what the last record opened
abbrev pub opened_last : Option Event → Option Tied
opened_last None = None
opened_last (Some e) = opened_by e

pub record Tells (c : Description) (world : World) (ps : List Process) (known : Known) (past : Past) : Type 0 where
  pub unix : past.unix ≡ Some (unix_of c world ps)
  pub ascends : Ascending ps
  pub made : (place : ℕ) → made_at known.made.entries place ≡ option_map tied_by (tie_at past.ties place)
  pub asked : (at : CallAt) → asked_at known.asked.entries at ≡ option_map descriptor_of (issued_call at.pid at.number past.records)
  pub opened : known.opened ≡ opened_last (last_event past.records)

-- of no records
pub record IsFresh (telling : Telling) : Type 0 where
  pub made : telling.known.made.entries ≡ []
  pub asked : telling.known.asked.entries ≡ []
  pub opened : telling.known.opened ≡ None
  pub ties : telling.ties.items ≡ []
  pub callers : telling.callers.items ≡ []

-- a record that is no entry is kept as itself, an entry behind it
abbrev pub KnownBy : Event → Known → Known → Type 0
KnownBy (event.Enter entry) old new = new ≡ old
KnownBy e old new = Asks e old new

-- of each record it is kept what its call goes by and what its process is
pub record SeesRecord (c : Description) (world : World) (ps : List Process) (e : Event) (old new : Telling) : Type 0 where
  pub ties : new.ties.items ≡ old.ties.items ++ tied_in old.known world ps e ∷ []
  pub callers : new.callers.items ≡ old.callers.items ++ caller_in c world ps (tied_in old.known world ps e) e ∷ []
  pub last : new.last ≡ tied_in old.known world ps e
  pub known : KnownBy e old.known new.known

-- of an entry what it made, in the state behind it
pub record HeedsEntry (streams : List Stream) (place : ℕ) (old new : Telling) : Type 0 where
  pub ties : new.ties ≡ old.ties
  pub callers : new.callers ≡ old.callers
  pub known : Makes streams place old.known new.known

-- what is told at a place before the rest of a trace
pub record Going (c : Description) (trace rest : List Rec) (world : World) (ps : List Process) (past : Past) (telling : Telling) : Type 0 where
  pub tells : Tells c world ps telling.known past
  pub all : telling.ties.items ++ ties_from c past rest ≡ ties_of c trace
  pub each : telling.callers.items ++ callers_from c past rest ≡ callers_of c trace
