-- Where streams are open, with modes by their numbers, and which are shared.
use Rattle.std.specs.Prelude.{ℕ, ◌==◌, Bool, true, false, ◌&&◌, if◌then◌else◌, List}
use Rattle.std.specs.List.{list_any}
use Rattle.sprite_ids.specs.declared.names.StreamNo.{StreamNo}
use Rattle.sprite_ids.specs.declared.names.Mode.{Mode}
use Rattle.sprite_ids.specs.declared.names.Mode.TheVariants as mode
use Rattle.unix_calls.specs.declared.event.Event.{Event}
use Rattle.unix_calls.specs.declared.event.Event.TheVariants as event
use Rattle.call_journal.specs.Matching.{same_file, same_stream}
use Rattle.trace_forms.specs.declared.places.OpenAt.{OpenAt}

abbrev pub mode_number : Mode → ℕ
mode_number mode.Read = 0
mode_number mode.Write = 1
mode_number mode.Both = 2

-- whether a stream is among some
abbrev pub has_stream : List StreamNo → StreamNo → Bool
has_stream streams stream = list_any (same_stream stream) streams

-- whether an open is among some
abbrev pub same_open : OpenAt → OpenAt → Bool
same_open a b = same_file a.file b.file && (same_stream a.stream b.stream && (a.kernel == b.kernel && a.mode == b.mode))

abbrev pub has_open : List OpenAt → OpenAt → Bool
has_open opens at = list_any (same_open at) opens

-- what is kept behind an event
abbrev pub shared_behind : Event → StreamNo → Bool → Bool
shared_behind (event.Shared f s) stream before = if same_stream s stream then true else before
shared_behind _ stream before = before

abbrev pub opens_behind : Event → OpenAt → Bool → Bool
opens_behind (event.Opened f s kernel m) one before =
    if same_open (record { file = f; stream = s; kernel = kernel; mode = mode_number m }) one then true else before
opens_behind (event.Closed f s kernel m) one before =
    if same_open (record { file = f; stream = s; kernel = kernel; mode = mode_number m }) one then false else before
opens_behind _ one before = before
