-- What a process's descriptors lead to.
use Rattle.std.specs.Prelude.{ℕ, List, Option, Some, None, option_map}
use Rattle.sprite_ids.specs.declared.Object.{Object}
use Rattle.sprite_ids.specs.declared.StreamNo.{StreamNo}
use Rattle.stream_table.specs.declared.Stream.{Stream}
use Rattle.stream_table.specs.Entries.{Entry, stream_of}
use Rattle.stream_table.specs.Owners.{descriptor}
use Rattle.client_homes.specs.declared.ClientProcs.{ClientProcs}

-- a looked-up stream
abbrev pub stream_in : List Entry → Option StreamNo → Option Stream
stream_in entries (Some number) = stream_of entries number
stream_in entries None = None

-- the stream that the process's descriptor leads to
abbrev pub stream_at : ℕ → ℕ → ClientProcs → Option Stream
stream_at pid fd s = stream_in s.files.streams.entries (descriptor s.files.streams.owners pid fd)

-- what that stream leads to
abbrev pub object_at : ℕ → ℕ → ClientProcs → Option Object
object_at pid fd s = option_map {T = Stream} (λ stream. stream.object) (stream_at pid fd s)
