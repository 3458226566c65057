-- Reads, writes, seeks, sizes and syncs at their issue, with the refusals that are entered here, in their order.
use Rattle.std.specs.Prelude.{ℕ, nat_lt, not, if◌then◌else◌, List}
use Rattle.sprite_ids.specs.declared.Errno.TheVariants as errno
use Rattle.process_machine.specs.declared.Call.{Call}
use Rattle.block_cache.specs.Ranges.{file_blocks}
use Rattle.block_cache.specs.Blocks.{dirty_under}
use Rattle.unix_calls.specs.declared.About.{About}
use Rattle.unix_calls.specs.Opening.{reads, writes}
use Rattle.client_file_tables.specs.declared.ClientFiles.{ClientFiles}
use Rattle.client_file_tables.specs.declared.DataKind.{DataKind}
use Rattle.client_file_tables.specs.declared.DataKind.TheVariants as kinds
use Rattle.client_file_tables.specs.declared.DataState.TheVariants.{WaitLock}
use Rattle.client_file_tables.specs.declared.SyncState.TheVariants.{Looking}
use Rattle.client_file_tables.specs.declared.Pending.TheVariants.{Data, Sync}
use Rattle.client_file_tables.specs.Steps.{starts}
use Rattle.client_names.specs.Issues.{refuses_here}
use Rattle.client_files.specs.declared.lookup.Reached.{Reached}
use Rattle.client_files.specs.declared.lookup.Reached.TheVariants.{Nothing, Device, File}
use Rattle.client_files.specs.declared.lookup.OpenFile.{OpenFile}
use Rattle.client_files.specs.Reaches.{reach}

-- the operation begins: it waits for the stream's lock first
abbrev pub starts_data : About → OpenFile → DataKind → ClientFiles → ClientFiles
starts_data about open_file kind s =
    starts about.pid (Data (record { number = about.number; fd = open_file.fd; kind = kind; stream = open_file.stream; file = open_file.file; state = WaitLock })) s

-- a read of a file
abbrev pub reads_file : About → Call → OpenFile → ℕ → ClientFiles → ClientFiles
reads_file about call open_file many s =
    if not (reads open_file.mode) then refuses_here about call errno.BadMode s else starts_data about open_file (kinds.Read many) s

abbrev pub reads_by : Reached → About → Call → ℕ → ClientFiles → ClientFiles
reads_by Nothing about call many s = refuses_here about call errno.BadFd s
reads_by Device about call many s = refuses_here about call errno.BadMode s
reads_by (File open_file) about call many s = reads_file about call open_file many s

abbrev pub reads_found : About → Call → ℕ → ℕ → ClientFiles → ClientFiles
reads_found about call fd many s = reads_by (reach about.pid fd s) about call many s

abbrev pub issues_read : About → Call → ℕ → ℕ → ClientFiles → ClientFiles
issues_read about call fd many s = if nat_lt 4294967295 many then refuses_here about call errno.Invalid s else reads_found about call fd many s

-- a write to a file
abbrev pub writes_file : About → Call → OpenFile → List ℕ → ClientFiles → ClientFiles
writes_file about call open_file bytes s =
    if not (writes open_file.mode) then refuses_here about call errno.BadMode s else starts_data about open_file (kinds.Write bytes) s

abbrev pub writes_found : Reached → About → Call → List ℕ → ClientFiles → ClientFiles
writes_found Nothing about call bytes s = refuses_here about call errno.BadFd s
writes_found Device about call bytes s = refuses_here about call errno.BadMode s
writes_found (File open_file) about call bytes s = writes_file about call open_file bytes s

abbrev pub issues_write : About → Call → ℕ → List ℕ → ClientFiles → ClientFiles
issues_write about call fd bytes s = writes_found (reach about.pid fd s) about call bytes s

-- a seek in a file: not past the most bytes that a file may have
abbrev pub seeks_file : About → Call → OpenFile → ℕ → ClientFiles → ClientFiles
seeks_file about call open_file offset s =
    if nat_lt s.limit offset then refuses_here about call errno.Invalid s else starts_data about open_file (kinds.Seek offset) s

abbrev pub seeks_found : Reached → About → Call → ℕ → ClientFiles → ClientFiles
seeks_found Nothing about call offset s = refuses_here about call errno.BadFd s
seeks_found Device about call offset s = refuses_here about call errno.Invalid s
seeks_found (File open_file) about call offset s = seeks_file about call open_file offset s

abbrev pub issues_seek : About → Call → ℕ → ℕ → ClientFiles → ClientFiles
issues_seek about call fd offset s = seeks_found (reach about.pid fd s) about call offset s

-- a size of a file
abbrev pub sizes_found : Reached → About → Call → ClientFiles → ClientFiles
sizes_found Nothing about call s = refuses_here about call errno.BadFd s
sizes_found Device about call s = refuses_here about call errno.Invalid s
sizes_found (File open_file) about call s = starts_data about open_file kinds.Size s

abbrev pub issues_size : About → Call → ℕ → ClientFiles → ClientFiles
issues_size about call fd s = sizes_found (reach about.pid fd s) about call s

-- a sync of the blocks that are dirty now
abbrev pub starts_sync : About → OpenFile → ClientFiles → ClientFiles
starts_sync about open_file s =
    starts about.pid (Sync (record {
      number = about.number;
      fd = open_file.fd;
      file = open_file.file;
      todo = dirty_under s.cache.blocks open_file.file file_blocks;
      state = Looking;
    })) s

abbrev pub syncs_found : Reached → About → Call → ClientFiles → ClientFiles
syncs_found Nothing about call s = refuses_here about call errno.BadFd s
syncs_found Device about call s = refuses_here about call errno.Invalid s
syncs_found (File open_file) about call s = starts_sync about open_file s

abbrev pub issues_sync : About → Call → ℕ → ClientFiles → ClientFiles
issues_sync about call fd s = syncs_found (reach about.pid fd s) about call s
