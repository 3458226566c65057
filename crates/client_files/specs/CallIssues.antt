-- Calls at their issue.
use Rattle.std.specs.Prelude.{ℕ, Option, Some, None, Result, Ok, Err}
use Rattle.sprite_ids.specs.declared.DeviceId.{DeviceId}
use Rattle.sprite_ids.specs.declared.Errno.TheVariants as errno
use Rattle.process_machine.specs.declared.Call.{Call}
use Rattle.process_machine.specs.declared.Call.TheVariants as calls
use Rattle.stream_table.specs.declared.StreamEnd.{StreamEnd}
use Rattle.stream_table.specs.declared.StreamEnd.TheVariants as ends
use Rattle.stream_table.specs.Owners.{descriptor}
use Rattle.stream_table.specs.Streams.{dup_answer, dupped, free}
use Rattle.unix_calls.specs.declared.About.{About}
use Rattle.client_file_tables.specs.declared.ClientFiles.{ClientFiles}
use Rattle.client_file_tables.specs.Says.{answers_here, plain_value}
use Rattle.client_names.specs.Issues.{issues_name, refuses_here}
use Rattle.client_streams.specs.declared.Named.{Named}
use Rattle.client_streams.specs.Descriptors.{descriptor_of}
use Rattle.client_streams.specs.Closing.{starts_close}
use Rattle.client_files.specs.DataIssues.{issues_read, issues_seek, issues_size, issues_sync, issues_write}

-- a `close`
abbrev pub closes_named : Option Named → About → Call → ClientFiles → ClientFiles
closes_named (Some named) about call s = starts_close about named.fd s
closes_named None about call s = refuses_here about call errno.BadFd s

abbrev pub issues_close : About → Call → ℕ → ClientFiles → ClientFiles
issues_close about call fd s = closes_named (descriptor_of about.pid fd s) about call s

-- a `dup`, with what the stream table answers
abbrev pub dups_by : Result ℕ StreamEnd → About → Call → ClientFiles → ClientFiles
dups_by (Ok fd) about call s = answers_here about call (plain_value fd) s
dups_by (Err ends.BadFd) about call s = refuses_here about call errno.BadFd s
dups_by (Err ends.TooMany) about call s = refuses_here about call errno.TooMany s
dups_by (Err ends.NoMemory) about call s = s

abbrev pub dups : About → Call → ℕ → ClientFiles → ClientFiles
dups about call fd s =
    dups_by (dup_answer (descriptor s.streams.owners about.pid fd) (free s.streams.owners about.pid)) about call (record s { streams = dupped s.streams about.pid fd })

-- a call of this side of the kernel
abbrev pub issues_by : Call → About → Call → Option DeviceId → ClientFiles → ClientFiles
issues_by (calls.Close fd) about call device s = issues_close about call fd s
issues_by (calls.Dup fd) about call device s = dups about call fd s
issues_by (calls.Read fd many) about call device s = issues_read about call fd many s
issues_by (calls.Write fd bytes) about call device s = issues_write about call fd bytes s
issues_by (calls.Seek fd offset) about call device s = issues_seek about call fd offset s
issues_by (calls.Size fd) about call device s = issues_size about call fd s
issues_by (calls.Sync fd) about call device s = issues_sync about call fd s
issues_by _ about call device s = issues_name about call device s

abbrev pub issues : About → Call → Option DeviceId → ClientFiles → ClientFiles
issues about call device s = issues_by call about call device s
