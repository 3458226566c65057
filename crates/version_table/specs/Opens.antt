-- Who has a file open, and what an open or a move makes of it.
use Rattle.std.specs.Prelude.{ℕ, ◌+◌, ◌-◌, ◌==◌, nat_le, Bool, false, ◌&&◌, not, if◌then◌else◌, List, Option, Some, None, option_map}
use Rattle.std.specs.List.{find, list_all, list_any}
use Rattle.sprite_ids.specs.declared.StreamNo.{StreamNo}
use Rattle.sprite_ids.specs.declared.Mode.{Mode}
use Rattle.sprite_ids.specs.declared.Mode.TheVariants.{Read}
use Rattle.version_table.specs.declared.opens.Open.{Open}
use Rattle.version_table.specs.declared.action.Action.{Action}
use Rattle.version_table.specs.declared.action.Action.TheVariants.{Opening, Moving}
use Rattle.sprite_ids.specs.Lists.{put, less}
use Rattle.version_table.specs.Modes.{writes}

-- whether the second is that stream
abbrev pub is_stream : StreamNo → StreamNo → Bool
is_stream stream other = (other.kernel == stream.kernel) && (other.number == stream.number)

-- whether it is an open of that stream
abbrev pub is_of_stream : StreamNo → Open → Bool
is_of_stream stream one = is_stream stream one.stream

-- whether it is that stream's open at that kernel
abbrev pub is_at : StreamNo → ℕ → Open → Bool
is_at stream kernel one = is_of_stream stream one && (one.kernel == kernel)

-- that stream's open at that kernel
abbrev pub open_at : List Open → StreamNo → ℕ → Option Open
open_at opens stream kernel = find (is_at stream kernel) opens

-- how many grants a looked-up open has
abbrev pub count_in : Option Open → ℕ
count_in (Some one) = one.count
count_in None = 0

-- what the stream was opened for
abbrev pub stream_mode : List Open → StreamNo → Option Mode
stream_mode opens stream = option_map (λ one. one.mode) (find (is_of_stream stream) opens)

-- the stream that is opened or moved
abbrev pub stream_of : Action → StreamNo
stream_of (Opening kernel stream mode truncate) = stream
stream_of (Moving stream source target kept grants) = stream

-- the receiving kernel: of an open the one that opens, of a move the target
abbrev pub receiver : Action → ℕ
receiver (Opening kernel stream mode truncate) = kernel
receiver (Moving stream source target kept grants) = target

-- whether the file is truncated
abbrev pub truncates : Action → Bool
truncates (Opening kernel stream mode truncate) = truncate
truncates (Moving stream source target kept grants) = false

-- whether the stream becomes shared: it is moved, and references to it stay at the source
abbrev pub shares : Action → Bool
shares (Opening kernel stream mode truncate) = false
shares (Moving stream source target kept grants) = kept

-- a looked-up mode; a stream that nobody has open counts as one for reading
abbrev pub or_reading : Option Mode → Mode
or_reading (Some mode) = mode
or_reading None = Read

-- what the receiving kernel has the stream for: a move doesn't change what the stream was opened for
abbrev pub mode_of : List Open → Action → Mode
mode_of opens (Opening kernel stream mode truncate) = mode
mode_of opens (Moving stream source target kept grants) = or_reading (stream_mode opens stream)

-- whether the receiving kernel has the stream for writing
abbrev pub is_writing : List Open → Action → Bool
is_writing opens action = writes (mode_of opens action)

-- the opens after grants were taken off a looked-up one: without grants it goes
abbrev pub taking : List Open → StreamNo → ℕ → ℕ → Option Open → List Open
taking opens stream kernel grants (Some one) = if nat_le one.count grants then less (is_at stream kernel) opens else put (is_at stream kernel) (record one { count = one.count - grants }) opens
taking opens stream kernel grants None = opens

-- the opens after that many grants of the stream were taken off the kernel, or all where it has fewer
abbrev pub taken_off : List Open → StreamNo → ℕ → ℕ → List Open
taken_off opens stream kernel grants = taking opens stream kernel grants (open_at opens stream kernel)

-- the opens after one more grant of the stream to the kernel
abbrev pub added : List Open → StreamNo → ℕ → Mode → List Open
added opens stream kernel mode = put (is_at stream kernel) (record { stream = stream; kernel = kernel; mode = mode; count = count_in (open_at opens stream kernel) + 1 }) opens

-- the opens that the receiving kernel finds: a move that leaves no references first takes its grants off the source
abbrev pub left_by : List Open → Action → List Open
left_by opens (Opening kernel stream mode truncate) = opens
left_by opens (Moving stream source target kept grants) = if kept then opens else taken_off opens stream source grants

-- the opens that the open or move leads to
abbrev pub opened : List Open → Action → List Open
opened opens action = added (left_by opens action) (stream_of action) (receiver action) (mode_of opens action)

-- the shared streams that the open or move leads to
abbrev pub sharing : List StreamNo → Action → List StreamNo
sharing shared action = if shares action then put (is_stream (stream_of action)) (stream_of action) shared else shared

-- whether the kernel has the file open
abbrev pub has_open : List Open → ℕ → Bool
has_open opens kernel = list_any (λ one. one.kernel == kernel) opens

-- whether another kernel than that has the file open
abbrev pub is_elsewhere : List Open → ℕ → Bool
is_elsewhere opens kernel = list_any (λ one. not (one.kernel == kernel)) opens

-- whether two or more kernels have the file open
abbrev pub is_spread : List Open → Bool
is_spread opens = list_any (λ one. is_elsewhere opens one.kernel) opens

-- whether any kernel has the file open for writing
abbrev pub is_written : List Open → Bool
is_written opens = list_any (λ one. writes one.mode) opens

-- write sharing: two or more kernels have the file open, one of them for writing
abbrev pub is_write_shared : List Open → Bool
is_write_shared opens = is_spread opens && is_written opens

-- whether a grant may be added to each open
abbrev pub are_roomy : List Open → Bool
are_roomy opens = list_all (λ one. nat_le one.count 2000000000) opens
