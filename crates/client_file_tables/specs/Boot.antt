-- The kernel when the cluster begins.
use Rattle.std.specs.Prelude.{ℕ, zero, suc, ◌+◌, ◌==◌, if◌then◌else◌, List, [], ◌∷◌, ◌++◌, length, Option, Some, None, slice_get}
use Rattle.kernel_steps.specs.Outs.{started}
use Rattle.unix_calls.specs.declared.Description.{Description}
use Rattle.unix_calls.specs.declared.KernelLine.{KernelLine}
use Rattle.unix_calls.specs.Boot.{limit_of}
use Rattle.client_file_tables.specs.declared.client_files.ClientFiles.{ClientFiles}

-- the kernel of a line at that place, where it serves a domain
abbrev pub server_by : KernelLine → ℕ → Option ℕ
server_by line place = if length line.serves == 0 then None else Some (place + 1)

abbrev pub server_in : Option KernelLine → ℕ → Option ℕ
server_in (Some line) place = server_by line place
server_in None place = None

abbrev pub server_at : List KernelLine → ℕ → Option ℕ
server_at lines place = server_in (slice_get lines place) place

-- one kernel more, where there is one
abbrev pub with_server : Option ℕ → List ℕ → List ℕ
with_server (Some kernel) servers = servers ++ kernel ∷ []
with_server None servers = servers

-- those of the first so many kernels that serve a domain
abbrev pub servers_under : List KernelLine → ℕ → List ℕ
servers_under lines zero = []
servers_under lines (suc place) = with_server (server_at lines place) (servers_under lines place)

-- the kernels that serve a domain, in ascending order
abbrev pub servers_of : List KernelLine → List ℕ
servers_of lines = servers_under lines 16

-- nothing is learned, open, cached or waited for
abbrev pub boots : Description → ℕ → ClientFiles
boots c kernel = record {
  kernel = kernel;
  servers = servers_of c.kernels;
  limit = limit_of c.version;
  prefixes = [];
  cache = record { size = c.cache; files = []; blocks = []; last = 0 };
  delay = [];
  streams = record { owners = []; entries = [] };
  cwds = [];
  next_stream = 1;
  pending = [];
  txs = [];
  write_backs = [];
  lock_waits = [];
  fillers = [];
  ready = [];
  results = [];
  step = 0;
  out = started (record { 0 = 0 });
}
