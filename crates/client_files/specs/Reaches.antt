-- What the descriptors that calls name lead to.
use Rattle.std.specs.Prelude.{ℕ, Option, Some, None}
use Rattle.sprite_ids.specs.declared.Object.{Object}
use Rattle.sprite_ids.specs.declared.Object.TheVariants as objects
use Rattle.stream_table.specs.declared.Stream.{Stream}
use Rattle.client_file_tables.specs.declared.ClientFiles.{ClientFiles}
use Rattle.client_file_tables.specs.Streams.{stream_at}
use Rattle.client_streams.specs.declared.Named.{Named}
use Rattle.client_streams.specs.Descriptors.{descriptor_of}
use Rattle.client_files.specs.declared.lookup.Reached.{Reached}
use Rattle.client_files.specs.declared.lookup.Reached.TheVariants.{Nothing, Device, File}

-- by what its stream leads to
abbrev pub reach_by : Object → Named → Stream → Reached
reach_by (objects.File file) named stream = File (record { fd = named.fd; stream = named.stream; mode = stream.mode; file = file })
reach_by (objects.Device device) named stream = Device
reach_by (objects.Master device) named stream = Device

abbrev pub reach_object : Named → Stream → Reached
reach_object named stream = reach_by stream.object named stream

-- by its looked-up stream; each descriptor's stream is open here
abbrev pub reach_stream : Named → Option Stream → Reached
reach_stream named (Some stream) = reach_object named stream
reach_stream named None = Nothing

abbrev pub reach_at : Named → ClientFiles → Reached
reach_at named s = reach_stream named (stream_at named.stream s)

-- what the process's descriptor leads to
abbrev pub reach_named : Option Named → ClientFiles → Reached
reach_named (Some named) s = reach_at named s
reach_named None s = Nothing

abbrev pub reach : ℕ → ℕ → ClientFiles → Reached
reach pid fd s = reach_named (descriptor_of pid fd s) s
