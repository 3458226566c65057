-- The descriptors of a process.
use Rattle.std.specs.Prelude.{ℕ, zero, suc, if◌then◌else◌, Option, Some, None}
use Rattle.sprite_ids.specs.declared.StreamNo.{StreamNo}
use Rattle.stream_table.specs.Owners.{descriptor}
use Rattle.stream_table.specs.Streams.{closed}
use Rattle.client_file_tables.specs.declared.ClientFiles.{ClientFiles}
use Rattle.client_file_tables.specs.Rows.{same_stream}
use Rattle.client_streams.specs.declared.descriptors.Named.{Named}

-- the process's descriptor with its looked-up stream
abbrev pub described : ℕ → Option StreamNo → Option Named
described fd (Some stream) = Some (record { fd = fd; stream = stream })
described fd None = None

abbrev pub descriptor_of : ℕ → ℕ → ClientFiles → Option Named
descriptor_of pid fd s = described fd (descriptor s.streams.owners pid fd)

-- the process's descriptor is closed
abbrev pub drops : ℕ → ℕ → ClientFiles → ClientFiles
drops pid fd s = record s { streams = closed s.streams pid fd }

-- where it leads to that stream
abbrev pub drops_by : ℕ → ℕ → StreamNo → Option StreamNo → ClientFiles → ClientFiles
drops_by pid fd stream (Some other) s = if same_stream other stream then drops pid fd s else s
drops_by pid fd stream None s = s

abbrev pub drops_to : ℕ → ℕ → StreamNo → ClientFiles → ClientFiles
drops_to pid fd stream s = drops_by pid fd stream (descriptor s.streams.owners pid fd) s

-- and so each descriptor under that number
abbrev pub drops_under : ℕ → ℕ → StreamNo → ClientFiles → ClientFiles
drops_under zero pid stream s = s
drops_under (suc fd) pid stream s = drops_to pid fd stream (drops_under fd pid stream s)

-- how many descriptors a process has
unfoldable pub descriptor_count : ℕ
descriptor_count = 16

-- and so each descriptor
abbrev pub drops_each : ℕ → StreamNo → ClientFiles → ClientFiles
drops_each pid stream s = drops_under descriptor_count pid stream s
