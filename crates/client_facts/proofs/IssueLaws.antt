-- Calls on files keep, at their issue, what the turns need.
use Rattle.std.proofs.Common.{ℕ, nat_lt, not, List, Option, Some, None, Result, Ok, Err, refl}
use Rattle.sprite_ids.specs.declared.DeviceId.{DeviceId}
use Rattle.sprite_ids.specs.declared.Errno.{Errno}
use Rattle.sprite_ids.specs.declared.Object.{Object}
use Rattle.sprite_ids.specs.declared.Object.TheVariants as objects
use Rattle.process_machine.specs.declared.Call.{Call}
use Rattle.process_machine.specs.declared.Call.TheVariants as calls
use Rattle.packet_bodies.specs.declared.NameOp.{NameOp}
use Rattle.packet_bodies.specs.declared.NameOp.TheVariants as ops
use Rattle.stream_table.specs.declared.Stream.{Stream}
use Rattle.stream_table.specs.declared.StreamEnd.{StreamEnd}
use Rattle.stream_table.specs.declared.StreamEnd.TheVariants as ends
use Rattle.stream_table.specs.Owners.{descriptor}
use Rattle.stream_table.specs.Streams.{dup_answer, dupped, free}
use Rattle.unix_calls.specs.declared.About.{About}
use Rattle.unix_calls.specs.Opening.{reads, writes}
use Rattle.client_file_tables.specs.declared.client_files.ClientFiles.{ClientFiles}
use Rattle.client_file_tables.specs.Streams.{stream_at}
use Rattle.client_file_tables.specs.declared.names.NameWork.{NameWork}
use Rattle.client_names.specs.Issues as names
use Rattle.client_names.specs.Lookups.{looks_up}
use Rattle.client_names.specs.Making.{counts_stream, free_descriptor}
use Rattle.client_names.specs.OpenFlags.{lawful}
use Rattle.client_names.specs.Paths.{Parts, cleaned}
use Rattle.client_streams.specs.declared.Named.{Named}
use Rattle.client_streams.specs.Descriptors.{descriptor_of}
use Rattle.client_files.specs.Reaches.{reach_by, reach_named, reach_stream}
use Rattle.client_files.specs.DataIssues as datas
use Rattle.client_files.specs.CallIssues as issuing
use Rattle.client_facts.proofs.AnswerLaws.{runs_looks_up}
use Rattle.client_facts.proofs.SteadyLaws.{Runs, Steady, runs_after, runs_if, runs_started, runs_steady, steady_same, steady_self}

refused : (about : About) (call : Call) (why : Errno) (s : ClientFiles) → Runs about.pid s (names.refuses_here about call why s)
refused about call why s = runs_steady about.pid s _ (steady_same s _ refl refl refl)

nothing : (about : About) (s : ClientFiles) → Runs about.pid s s
nothing about s = runs_steady about.pid s s (steady_self s)

-- Data: what a descriptor leads to

read_object : (object : Object) (named : Named) (stream : Stream) (about : About) (call : Call) (many : ℕ) (s : ClientFiles) → Runs about.pid s (datas.reads_by (reach_by object named stream) about call many s)
read_object (objects.File file) named stream about call many s = runs_if (not (reads stream.mode)) about.pid s _ _ (refused about call _ s) (runs_started about.pid _ s s refl (steady_self s))
read_object (objects.Device device) named stream about call many s = refused about call _ s
read_object (objects.Master device) named stream about call many s = refused about call _ s

read_stream : (o : Option Stream) (named : Named) (about : About) (call : Call) (many : ℕ) (s : ClientFiles) → Runs about.pid s (datas.reads_by (reach_stream named o) about call many s)
read_stream (Some stream) named about call many s = read_object stream.object named stream about call many s
read_stream None named about call many s = refused about call _ s

read_named : (o : Option Named) (about : About) (call : Call) (many : ℕ) (s : ClientFiles) → Runs about.pid s (datas.reads_by (reach_named o s) about call many s)
read_named (Some named) about call many s = read_stream (stream_at named.stream s) named about call many s
read_named None about call many s = refused about call _ s

write_object : (object : Object) (named : Named) (stream : Stream) (about : About) (call : Call) (bytes : List ℕ) (s : ClientFiles) → Runs about.pid s (datas.writes_found (reach_by object named stream) about call bytes s)
write_object (objects.File file) named stream about call bytes s = runs_if (not (writes stream.mode)) about.pid s _ _ (refused about call _ s) (runs_started about.pid _ s s refl (steady_self s))
write_object (objects.Device device) named stream about call bytes s = refused about call _ s
write_object (objects.Master device) named stream about call bytes s = refused about call _ s

write_stream : (o : Option Stream) (named : Named) (about : About) (call : Call) (bytes : List ℕ) (s : ClientFiles) → Runs about.pid s (datas.writes_found (reach_stream named o) about call bytes s)
write_stream (Some stream) named about call bytes s = write_object stream.object named stream about call bytes s
write_stream None named about call bytes s = refused about call _ s

write_named : (o : Option Named) (about : About) (call : Call) (bytes : List ℕ) (s : ClientFiles) → Runs about.pid s (datas.writes_found (reach_named o s) about call bytes s)
write_named (Some named) about call bytes s = write_stream (stream_at named.stream s) named about call bytes s
write_named None about call bytes s = refused about call _ s

seek_object : (object : Object) (named : Named) (stream : Stream) (about : About) (call : Call) (offset : ℕ) (s : ClientFiles) → Runs about.pid s (datas.seeks_found (reach_by object named stream) about call offset s)
seek_object (objects.File file) named stream about call offset s = runs_if (nat_lt s.limit offset) about.pid s _ _ (refused about call _ s) (runs_started about.pid _ s s refl (steady_self s))
seek_object (objects.Device device) named stream about call offset s = refused about call _ s
seek_object (objects.Master device) named stream about call offset s = refused about call _ s

seek_stream : (o : Option Stream) (named : Named) (about : About) (call : Call) (offset : ℕ) (s : ClientFiles) → Runs about.pid s (datas.seeks_found (reach_stream named o) about call offset s)
seek_stream (Some stream) named about call offset s = seek_object stream.object named stream about call offset s
seek_stream None named about call offset s = refused about call _ s

seek_named : (o : Option Named) (about : About) (call : Call) (offset : ℕ) (s : ClientFiles) → Runs about.pid s (datas.seeks_found (reach_named o s) about call offset s)
seek_named (Some named) about call offset s = seek_stream (stream_at named.stream s) named about call offset s
seek_named None about call offset s = refused about call _ s

size_object : (object : Object) (named : Named) (stream : Stream) (about : About) (call : Call) (s : ClientFiles) → Runs about.pid s (datas.sizes_found (reach_by object named stream) about call s)
size_object (objects.File file) named stream about call s = runs_started about.pid _ s s refl (steady_self s)
size_object (objects.Device device) named stream about call s = refused about call _ s
size_object (objects.Master device) named stream about call s = refused about call _ s

size_stream : (o : Option Stream) (named : Named) (about : About) (call : Call) (s : ClientFiles) → Runs about.pid s (datas.sizes_found (reach_stream named o) about call s)
size_stream (Some stream) named about call s = size_object stream.object named stream about call s
size_stream None named about call s = refused about call _ s

size_named : (o : Option Named) (about : About) (call : Call) (s : ClientFiles) → Runs about.pid s (datas.sizes_found (reach_named o s) about call s)
size_named (Some named) about call s = size_stream (stream_at named.stream s) named about call s
size_named None about call s = refused about call _ s

sync_object : (object : Object) (named : Named) (stream : Stream) (about : About) (call : Call) (s : ClientFiles) → Runs about.pid s (datas.syncs_found (reach_by object named stream) about call s)
sync_object (objects.File file) named stream about call s = runs_started about.pid _ s s refl (steady_self s)
sync_object (objects.Device device) named stream about call s = refused about call _ s
sync_object (objects.Master device) named stream about call s = refused about call _ s

sync_stream : (o : Option Stream) (named : Named) (about : About) (call : Call) (s : ClientFiles) → Runs about.pid s (datas.syncs_found (reach_stream named o) about call s)
sync_stream (Some stream) named about call s = sync_object stream.object named stream about call s
sync_stream None named about call s = refused about call _ s

sync_named : (o : Option Named) (about : About) (call : Call) (s : ClientFiles) → Runs about.pid s (datas.syncs_found (reach_named o s) about call s)
sync_named (Some named) about call s = sync_stream (stream_at named.stream s) named about call s
sync_named None about call s = refused about call _ s

issues_read : (about : About) (call : Call) (fd many : ℕ) (s : ClientFiles) → Runs about.pid s (datas.issues_read about call fd many s)
issues_read about call fd many s = runs_if (nat_lt 4294967295 many) about.pid s _ _ (refused about call _ s) (read_named (descriptor_of about.pid fd s) about call many s)

-- Closes and dups

issues_close : (o : Option Named) (about : About) (call : Call) (s : ClientFiles) → Runs about.pid s (issuing.closes_named o about call s)
issues_close (Some named) about call s = runs_started about.pid _ s s refl (steady_self s)
issues_close None about call s = refused about call _ s

dups_by : (r : Result ℕ StreamEnd) (about : About) (call : Call) (s : ClientFiles) → Steady s (issuing.dups_by r about call s)
dups_by (Ok fd) about call s = steady_same s _ refl refl refl
dups_by (Err ends.BadFd) about call s = steady_same s _ refl refl refl
dups_by (Err ends.TooMany) about call s = steady_same s _ refl refl refl
dups_by (Err ends.NoMemory) about call s = steady_self s

issues_dup : (about : About) (call : Call) (fd : ℕ) (s : ClientFiles) → Runs about.pid s (issuing.dups about call fd s)
issues_dup about call fd s =
    let made : ClientFiles = record s { streams = dupped s.streams about.pid fd } in
    runs_after about.pid s made _ (steady_same s made refl refl refl) (runs_steady about.pid made _ (dups_by (dup_answer (descriptor s.streams.owners about.pid fd) (free s.streams.owners about.pid)) about call made))

-- Names

looked_up : (about : About) (work : NameWork) (s : ClientFiles) → Runs about.pid s (looks_up about.pid work s)
looked_up about work s = runs_looks_up about.pid work s s (steady_self s)

counted : (about : About) (work : NameWork) (s : ClientFiles) → Runs about.pid s (looks_up about.pid work (counts_stream s))
counted about work s = runs_looks_up about.pid work s (counts_stream s) (steady_same s (counts_stream s) refl refl refl)

opens_cleaned : (o : Option Parts) (about : About) (call : Call) (flags fd : ℕ) (s : ClientFiles) → Runs about.pid s (names.opens_cleaned about call flags fd o s)
opens_cleaned (Some path) about call flags fd s = counted about _ s
opens_cleaned None about call flags fd s = refused about call _ s

opens_free : (o : Option ℕ) (about : About) (call : Call) (text : List ℕ) (flags : ℕ) (s : ClientFiles) → Runs about.pid s (names.opens_free about call text flags o s)
opens_free (Some fd) about call text flags s = opens_cleaned (cleaned about.pid text s) about call flags fd s
opens_free None about call text flags s = refused about call _ s

issues_open : (o : Option ℕ) (about : About) (call : Call) (text : List ℕ) (s : ClientFiles) → Runs about.pid s (names.opens_lawful about call text o s)
issues_open (Some flags) about call text s = opens_free (free_descriptor about.pid s) about call text flags s
issues_open None about call text s = refused about call _ s

makes_cleaned : (o : Option Parts) (about : About) (call : Call) (device : DeviceId) (fd : ℕ) (s : ClientFiles) → Runs about.pid s (names.makes_cleaned about call device fd o s)
makes_cleaned (Some path) about call device fd s = counted about _ s
makes_cleaned None about call device fd s = refused about call _ s

makes_free : (o : Option ℕ) (about : About) (call : Call) (text : List ℕ) (device : DeviceId) (s : ClientFiles) → Runs about.pid s (names.makes_free about call text device o s)
makes_free (Some fd) about call text device s = makes_cleaned (cleaned about.pid text s) about call device fd s
makes_free None about call text device s = refused about call _ s

issues_make : (o : Option DeviceId) (about : About) (call : Call) (text : List ℕ) (s : ClientFiles) → Runs about.pid s (names.issues_make about call text o s)
issues_make (Some device) about call text s = makes_free (free_descriptor about.pid s) about call text device s
issues_make None about call text s = nothing about s

names_cleaned : (o : Option Parts) (about : About) (call : Call) (op : NameOp) (max : ℕ) (s : ClientFiles) → Runs about.pid s (names.names_cleaned about call op max o s)
names_cleaned (Some path) about call op max s = looked_up about _ s
names_cleaned None about call op max s = refused about call _ s

issues_path : (about : About) (call : Call) (text : List ℕ) (op : NameOp) (s : ClientFiles) → Runs about.pid s (names.issues_path about call text op s)
issues_path about call text op s = names_cleaned (cleaned about.pid text s) about call op 0 s

issues_list : (about : About) (call : Call) (text : List ℕ) (max : ℕ) (s : ClientFiles) → Runs about.pid s (names.issues_list about call text max s)
issues_list about call text max s = runs_if (nat_lt 4294967295 max) about.pid s _ _ (refused about call _ s) (names_cleaned (cleaned about.pid text s) about call ops.List max s)

renames_second : (o : Option Parts) (about : About) (call : Call) (path : Parts) (s : ClientFiles) → Runs about.pid s (names.renames_second about call path o s)
renames_second (Some second) about call path s = looked_up about _ s
renames_second None about call path s = refused about call _ s

issues_rename : (o : Option Parts) (about : About) (call : Call) (new : List ℕ) (s : ClientFiles) → Runs about.pid s (names.renames_first about call o new s)
issues_rename (Some path) about call new s = renames_second (cleaned about.pid new s) about call path s
issues_rename None about call new s = refused about call _ s

issues_tree : (which : Call) (about : About) (call : Call) (s : ClientFiles) → Runs about.pid s (names.issues_tree_by which about call s)
issues_tree (calls.Stat path) about call s = issues_path about call path ops.Stat s
issues_tree (calls.Mkdir path) about call s = issues_path about call path ops.Mkdir s
issues_tree (calls.Rmdir path) about call s = issues_path about call path ops.Rmdir s
issues_tree (calls.Unlink path) about call s = issues_path about call path ops.Unlink s
issues_tree (calls.Chdir path) about call s = issues_path about call path ops.Chdir s
issues_tree which about call s = nothing about s

issues_name : (which : Call) (about : About) (call : Call) (device : Option DeviceId) (s : ClientFiles) → Runs about.pid s (names.issues_name_by which about call device s)
issues_name (calls.OpenFile path flags) about call device s = issues_open (lawful flags) about call path s
issues_name (calls.PdMake path) about call device s = issues_make device about call path s
issues_name (calls.Rename old new) about call device s = issues_rename (cleaned about.pid old s) about call new s
issues_name (calls.List path max) about call device s = issues_list about call path max s
issues_name which about call device s = issues_tree call about call s

-- a call at its issue
pub runs_issues : (which : Call) (about : About) (call : Call) (device : Option DeviceId) (s : ClientFiles) → Runs about.pid s (issuing.issues_by which about call device s)
runs_issues (calls.Close fd) about call device s = issues_close (descriptor_of about.pid fd s) about call s
runs_issues (calls.Dup fd) about call device s = issues_dup about call fd s
runs_issues (calls.Read fd many) about call device s = issues_read about call fd many s
runs_issues (calls.Write fd bytes) about call device s = write_named (descriptor_of about.pid fd s) about call bytes s
runs_issues (calls.Seek fd offset) about call device s = seek_named (descriptor_of about.pid fd s) about call offset s
runs_issues (calls.Size fd) about call device s = size_named (descriptor_of about.pid fd s) about call s
runs_issues (calls.Sync fd) about call device s = sync_named (descriptor_of about.pid fd s) about call s
runs_issues which about call device s = issues_name call about call device s
