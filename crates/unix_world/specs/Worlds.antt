-- The one-kernel Unix's state, of which code keeps the processes apart from all else.
use Rattle.std.specs.Prelude.{ℕ, List, [], Option, slice_get}
use Rattle.std.specs.Option.{option_and_then}
use Rattle.unix_calls.specs.declared.description.Description.{Description}
use Rattle.unix_calls.specs.declared.state.Process.{Process}
use Rattle.unix_calls.specs.declared.state.Stream.{Stream}
use Rattle.unix_calls.specs.Domains.{roots_of}
use Rattle.unix_calls.specs.State.{Unix, stream_at, joined_option}
use Rattle.unix_world.specs.declared.world.World.{World}

-- the state with these processes
abbrev pub unix_of : Description → World → List Process → Unix
unix_of c w processes =
    record {
      nodes = w.nodes;
      files = w.files;
      streams = w.streams;
      processes = processes;
      devices = w.devices;
      ticks = w.ticks;
      roots = roots_of c.kernels;
      limit = w.limit;
      entries = w.entries;
    }

-- the state without processes and domains, of which the tree's definitions look at the names alone
abbrev pub bare : World → Unix
bare w =
    record {
      nodes = w.nodes;
      files = w.files;
      streams = w.streams;
      processes = [];
      devices = w.devices;
      ticks = w.ticks;
      roots = [];
      limit = w.limit;
      entries = w.entries;
    }

-- the stream that a descriptor of the process leads to
abbrev pub stream_of_fd : World → Process → ℕ → Option Stream
stream_of_fd w p fd = option_and_then (stream_at w.streams) (joined_option (slice_get p.descriptors fd))
