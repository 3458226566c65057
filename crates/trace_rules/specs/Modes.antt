-- The modes that kernels took last, and the streams that are shared.
use Rattle.std.specs.Prelude.{◌≡◌, ℕ, Bool, true, false, ◌||◌, if◌then◌else◌, List, Option, Some, None}
use Rattle.std.specs.List.{list_any}
use Rattle.std.specs.Map.{lookup}
use Rattle.sprite_ids.specs.declared.caching.CacheMode.{CacheMode}
use Rattle.sprite_ids.specs.declared.caching.CacheMode.TheVariants as cache
use Rattle.sprite_ids.specs.declared.names.StreamNo.{StreamNo}
use Rattle.unix_calls.specs.declared.event.SendKind.TheVariants as send
use Rattle.unix_calls.specs.declared.event.Event.{Event}
use Rattle.unix_calls.specs.declared.event.Event.TheVariants as event
use Rattle.unix_calls.specs.declared.event.Rec.{Rec}
use Rattle.call_journal.specs.Past.{Past, Tie}
use Rattle.call_journal.specs.Matching.{same_stream}
use Rattle.call_journal.specs.Files.{mode_of}
use Rattle.call_journal.specs.EntryPlaces.{is_shared}
use Rattle.trace_tables.specs.declared.Tied.{Tied}
use Rattle.trace_rules.specs.declared.place.FileAt.{FileAt}
use Rattle.trace_rules.specs.Places.{same_use}

-- the mode that is kept of a file at a kernel
abbrev pub mode_at : List (FileAt × CacheMode) → FileAt → Option CacheMode
mode_at modes at = lookup (same_use at) modes

-- a kernel that took none has none
abbrev pub mode_or : Option CacheMode → CacheMode
mode_or None = cache.None
mode_or (Some mode) = mode

-- whether it is off
abbrev pub is_off_or : Option CacheMode → Bool
is_off_or (Some cache.Off) = true
is_off_or _ = false

abbrev pub is_off_in : List (FileAt × CacheMode) → FileAt → Bool
is_off_in modes at = is_off_or (mode_at modes at)

-- whether a stream is among those shared
abbrev pub has_stream : List StreamNo → StreamNo → Bool
has_stream shared stream = list_any (same_stream stream) shared

abbrev pub is_shared_tied : List StreamNo → Option Tied → Bool
is_shared_tied shared None = false
is_shared_tied shared (Some tied) = has_stream shared tied.stream

-- an operation of a kernel may go out
abbrev pub may_go_out : List (FileAt × CacheMode) → List StreamNo → ℕ → Event → Option Tied → Bool
may_go_out modes shared kernel (event.Send tx to about (send.Op file)) tied =
    is_off_in modes (record { kernel = kernel; file = file }) || is_shared_tied shared tied
may_go_out modes shared kernel _ tied = true

-- the mode of a file at a kernel, and whether a stream is shared, behind an event of a kernel
abbrev pub mode_behind : ℕ → Event → FileAt → Option CacheMode → Option CacheMode
mode_behind kernel (event.Mode file stamp mode) at before =
    if same_use (record { kernel = kernel; file = file }) at then Some mode else before
mode_behind kernel _ at before = before

abbrev pub shared_behind : Event → StreamNo → Bool → Bool
shared_behind (event.Shared file s) stream before = if same_stream s stream then true else before
shared_behind _ stream before = before

-- what is kept behind a record
abbrev pub GoesOut : Rec → List (FileAt × CacheMode) → List StreamNo → List (FileAt × CacheMode) → List StreamNo → Type 0
GoesOut rec modes shared modes_after shared_after =
    ((at : FileAt) → mode_at modes_after at ≡ mode_behind rec.kernel rec.event at (mode_at modes at))
    × ((stream : StreamNo) → has_stream shared_after stream ≡ shared_behind rec.event stream (has_stream shared stream))

-- the modes and the shared streams are those of the records
pub record TellsUses (modes : List (FileAt × CacheMode)) (shared : List StreamNo) (past : Past) : Type 0 where
  pub modes_told : (at : FileAt) → mode_or (mode_at modes at) ≡ mode_of at.kernel at.file past.records
  pub shared_told : (tie : Tie) → has_stream shared tie.stream ≡ is_shared past tie
