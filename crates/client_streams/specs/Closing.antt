-- Closes: of one descriptor for a `close`, or of all at the end of a process.
use Rattle.std.specs.Prelude.{ℕ, Bool, true, false, if◌then◌else◌, List, [], ◌∷◌, Option, Some, None, slice_get}
use Rattle.std.specs.List.{remove}
use Rattle.sprite_ids.specs.declared.FileId.{FileId}
use Rattle.sprite_ids.specs.declared.StreamNo.{StreamNo}
use Rattle.sprite_ids.specs.declared.DeviceId.{DeviceId}
use Rattle.sprite_ids.specs.declared.Object.{Object}
use Rattle.sprite_ids.specs.declared.Object.TheVariants.{File, Device, Master}
use Rattle.sprite_ids.specs.declared.Tries.TheVariants.{Always}
use Rattle.process_machine.specs.declared.Call.TheVariants as calls
use Rattle.packet_bodies.specs.declared.Request.TheVariants as requests
use Rattle.packet_bodies.specs.declared.Target.TheVariants as targets
use Rattle.stream_table.specs.declared.Stream.{Stream}
use Rattle.stream_table.specs.Owners.{descriptor}
use Rattle.stream_table.specs.Streams.{closed_stream, is_last}
use Rattle.unix_calls.specs.declared.About.{About}
use Rattle.unix_calls.specs.declared.SendKind.TheVariants.{Other}
use Rattle.kernel_steps.specs.declared.Sending.{Sending}
use Rattle.client_file_tables.specs.declared.ClientFiles.{ClientFiles}
use Rattle.client_file_tables.specs.declared.CloseState.{CloseState}
use Rattle.client_file_tables.specs.declared.CloseState.TheVariants as states
use Rattle.client_file_tables.specs.declared.CloseWork.{CloseWork}
use Rattle.client_file_tables.specs.declared.ClosingOf.{ClosingOf}
use Rattle.client_file_tables.specs.declared.ClosingOf.TheVariants.{Call, End}
use Rattle.client_file_tables.specs.declared.Pending.TheVariants.{Close}
use Rattle.client_file_tables.specs.declared.Report.TheVariants.{AllClosed, MasterClosed}
use Rattle.client_file_tables.specs.Rows.{less_of}
use Rattle.client_file_tables.specs.Says.{about_of, enters, plain_value, replies, sends_for, to_one}
use Rattle.client_file_tables.specs.Steps.{keeps, reports, starts}
use Rattle.client_file_tables.specs.Locks.{gets_lock, locks, unlocks}
use Rattle.client_file_tables.specs.Streams.{stream_at}
use Rattle.client_streams.specs.Descriptors.{drops}

-- descriptors to be closed for that
abbrev pub closing : ClosingOf → List ℕ → CloseWork
closing cause fds = record { of = cause; fds = fds; state = states.WaitLock }

-- a `close` begins
abbrev pub starts_close : About → ℕ → ClientFiles → ClientFiles
starts_close about fd s = starts about.pid (Close (closing (Call about.number fd) (fd ∷ []))) s

-- the call for whose sake requests go
abbrev pub closing_about : ℕ → ClosingOf → Option About
closing_about pid (Call number fd) = Some (about_of pid number)
closing_about pid (End about) = about

-- a `close` takes effect; the end of a process has done so already
abbrev pub enters_closed : ℕ → ClosingOf → ClientFiles → ClientFiles
enters_closed pid (Call number fd) s = enters (about_of pid number) (calls.Close fd) (plain_value 0) s
enters_closed pid (End about) s = s

-- all descriptors are closed: the call has its reply, or the process is forgotten
abbrev pub ends_closing : ℕ → ClosingOf → ClientFiles → ClientFiles
ends_closing pid (Call number fd) s = replies pid (plain_value 0) s
ends_closing pid (End about) s = reports (AllClosed pid) (record s { cwds = less_of pid s.cwds })

-- the close looks at its next descriptor, or ends
abbrev pub closes_rest : List ℕ → ℕ → ClosingOf → ClientFiles → ClientFiles
closes_rest [] pid cause s = ends_closing pid cause s
closes_rest (fd ∷ fds) pid cause s = starts pid (Close (closing cause (fd ∷ fds))) s

abbrev pub closes_on : ℕ → CloseWork → ClientFiles → ClientFiles
closes_on pid work s = closes_rest work.fds pid work.of s

-- the work without its first descriptor
abbrev pub without_first : CloseWork → CloseWork
without_first work = record work { fds = remove work.fds 0 }

-- the request that tells the server
abbrev pub close_to : ℕ → ClosingOf → StreamNo → FileId → ℕ → Sending
close_to pid cause number file many =
    to_one file.server Always (closing_about pid cause) (requests.Close (record { object = targets.File file; stream = number; grants = many }))

-- the kernel's last reference to a file's stream is closed: a Closing of the file begins, whose lock is held until the answer
abbrev pub asks_close : ℕ → CloseWork → StreamNo → FileId → ℕ → ClientFiles → ClientFiles
asks_close pid work number file many s =
    keeps pid (Close (record work { state = states.Closing s.out.next number })) (sends_for pid (close_to pid work.of number file many) Other s)

-- a descriptor of a file's stream was closed: maybe the last
abbrev pub closes_last : ℕ → CloseWork → StreamNo → FileId → Option (StreamNo × Stream) → ClientFiles → ClientFiles
closes_last pid work number file (Some last) s = asks_close pid work number file last.1.grants s
closes_last pid work number file None s = closes_on pid work (unlocks number s)

-- a descriptor of a file's stream is closed, whose lock the process has
abbrev pub closes_locked : ℕ → CloseWork → ℕ → StreamNo → FileId → ClientFiles → ClientFiles
closes_locked pid work fd number file s =
    closes_last pid (without_first work) number file (closed_stream s.streams pid fd) (enters_closed pid work.of (drops pid fd s))

-- a file's stream: its lock is needed
abbrev pub closes_file : ℕ → CloseWork → ℕ → StreamNo → FileId → ClientFiles → ClientFiles
closes_file pid work fd number file s =
    if gets_lock pid number s then closes_locked pid work fd number file (locks pid number s) else keeps pid (Close work) (locks pid number s)

-- a client's end of a pseudo-device
abbrev pub closes_device : ℕ → CloseWork → ℕ → ClientFiles → ClientFiles
closes_device pid work fd s = closes_on pid (without_first work) (enters_closed pid work.of (drops pid fd s))

-- the master's end: the last one is told
abbrev pub reports_last : Bool → DeviceId → ClientFiles → ClientFiles
reports_last true device s = reports (MasterClosed device) s
reports_last false device s = s

abbrev pub closes_master : ℕ → CloseWork → ℕ → DeviceId → ClientFiles → ClientFiles
closes_master pid work fd device s =
    closes_on pid (without_first work) (reports_last (is_last s.streams pid fd) device (enters_closed pid work.of (drops pid fd s)))

-- the first descriptor, whose stream leads there
abbrev pub closes_object : ℕ → CloseWork → ℕ → StreamNo → Object → ClientFiles → ClientFiles
closes_object pid work fd number (File file) s = closes_file pid work fd number file s
closes_object pid work fd number (Device device) s = closes_device pid work fd s
closes_object pid work fd number (Master device) s = closes_master pid work fd device s

-- whose stream is that; each descriptor's stream is open here
abbrev pub closes_stream_by : ℕ → CloseWork → ℕ → StreamNo → Option Stream → ClientFiles → ClientFiles
closes_stream_by pid work fd number (Some stream) s = closes_object pid work fd number stream.object s
closes_stream_by pid work fd number None s = closes_on pid (without_first work) s

abbrev pub closes_stream : ℕ → CloseWork → ℕ → StreamNo → ClientFiles → ClientFiles
closes_stream pid work fd number s = closes_stream_by pid work fd number (stream_at number s) s

-- the first descriptor, where it is in use
abbrev pub closes_first_by : ℕ → CloseWork → ℕ → Option StreamNo → ClientFiles → ClientFiles
closes_first_by pid work fd (Some number) s = closes_stream pid work fd number s
closes_first_by pid work fd None s = closes_on pid (without_first work) s

abbrev pub closes_first : ℕ → CloseWork → ℕ → ClientFiles → ClientFiles
closes_first pid work fd s = closes_first_by pid work fd (descriptor s.streams.owners pid fd) s

-- a looked-up first descriptor; without one the close ends
abbrev pub closes_next_by : ℕ → CloseWork → Option ℕ → ClientFiles → ClientFiles
closes_next_by pid work (Some fd) s = closes_first pid work fd s
closes_next_by pid work None s = ends_closing pid work.of s

abbrev pub closes_next : ℕ → CloseWork → ClientFiles → ClientFiles
closes_next pid work s = closes_next_by pid work (slice_get work.fds 0) s

-- a close goes on, where it waits for no answer
abbrev pub runs_close_by : CloseState → ℕ → CloseWork → ClientFiles → ClientFiles
runs_close_by states.WaitLock pid work s = closes_next pid work s
runs_close_by (states.Closing tx stream) pid work s = keeps pid (Close work) s

abbrev pub runs_close : ℕ → CloseWork → ClientFiles → ClientFiles
runs_close pid work s = runs_close_by work.state pid work s

-- the stream that is being closed at the server; None where a close waits for no answer
abbrev pub closed_at_server : CloseState → Option StreamNo
closed_at_server states.WaitLock = None
closed_at_server (states.Closing tx stream) = Some stream

-- the server answered: the end of the Closing's Delivering at this kernel
abbrev pub close_answers_by : Option StreamNo → ℕ → CloseWork → ClientFiles → ClientFiles
close_answers_by (Some stream) pid work s = closes_on pid work (unlocks stream s)
close_answers_by None pid work s = keeps pid (Close work) s

abbrev pub close_answers : ℕ → CloseWork → ClientFiles → ClientFiles
close_answers pid work s = close_answers_by (closed_at_server work.state) pid work s
