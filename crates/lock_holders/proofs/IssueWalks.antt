-- Calls of the files' side at their issue, which add no stream, for any fact of that side: what such a fact must bear, and what it then keeps.
use Rattle.std.proofs.Common.{◌≡◌, ℕ, Bool, true, false, not, nat_lt, cond, List, [], Option, Some, None, Result, Ok, Err, refl, subst}
use Rattle.sprite_ids.specs.declared.DeviceId.{DeviceId}
use Rattle.sprite_ids.specs.declared.Errno.{Errno}
use Rattle.sprite_ids.specs.declared.Object.{Object}
use Rattle.sprite_ids.specs.declared.Object.TheVariants as objects
use Rattle.sprite_ids.specs.declared.StreamNo.{StreamNo}
use Rattle.sprite_ids.proofs.ListLaws.{some_is}
use Rattle.process_machine.specs.declared.Call.{Call}
use Rattle.process_machine.specs.declared.Call.TheVariants as calls
use Rattle.packet_bodies.specs.declared.NameOp.{NameOp}
use Rattle.packet_bodies.specs.declared.NameOp.TheVariants as ops
use Rattle.unix_calls.specs.declared.About.{About}
use Rattle.unix_calls.specs.Opening.{reads, writes}
use Rattle.stream_table.specs.declared.Stream.{Stream}
use Rattle.stream_table.specs.declared.StreamEnd.{StreamEnd}
use Rattle.stream_table.specs.declared.StreamEnd.TheVariants as ends
use Rattle.stream_table.specs.Owners.{descriptor}
use Rattle.stream_table.specs.Streams.{dup_answer, dupped, free}
use Rattle.client_file_tables.specs.declared.client_files.ClientFiles.{ClientFiles}
use Rattle.client_file_tables.specs.declared.names.NameWork.{NameWork}
use Rattle.client_file_tables.specs.Says as says
use Rattle.client_file_tables.specs.Streams.{stream_at}
use Rattle.client_names.specs.Issues as naming
use Rattle.client_names.specs.Lookups as lookups
use Rattle.client_names.specs.Making.{counts_stream, free_descriptor}
use Rattle.client_names.specs.OpenFlags.{lawful}
use Rattle.client_names.specs.Paths.{Parts, cleaned}
use Rattle.client_streams.specs.declared.Named.{Named}
use Rattle.client_streams.specs.Descriptors.{described, descriptor_of}
use Rattle.client_files.specs.CallIssues as issuing
use Rattle.client_files.specs.DataIssues as datas
use Rattle.client_files.specs.Reaches.{reach_by, reach_named, reach_stream}
use Rattle.process_machine.specs.declared.Reply.{Reply}
use Rattle.process_machine.specs.declared.Reply.TheVariants.{Error}
use Rattle.client_file_tables.specs.declared.pending.Pending.{Pending}
use Rattle.client_file_tables.specs.Steps as steps
use Rattle.file_walks.specs.Fits.{LeadsThere, begins_so}
use Rattle.file_walks.proofs.Muted.{Mute}

-- a call of a process begins: what is so before anything is done for it, and behind that
pub record RunsIssue (pid : ℕ) (Q R : ClientFiles → Type 0) : Type 0 where
  pub quiet : Mute Q
  pub dups : (s : ClientFiles) (fd : ℕ) → Q s → Q (record s { streams = dupped s.streams pid fd })
  pub begins : (s : ClientFiles) (operation : Pending) → begins_so operation ≡ true → LeadsThere s.streams.owners pid operation → Q s → R (steps.starts pid operation s)
  pub echoes : (s : ClientFiles) (work : NameWork) (server : ℕ) → Q s → R (lookups.echoes pid work server s)
  pub broadcasts : (s : ClientFiles) (work : NameWork) (prefix : Parts) → Q s → R (lookups.broadcasts pid work prefix s)
  pub ends : (s : ClientFiles) (reply : Reply) → Q s → R (says.replies pid reply s)
  pub lost : (s : ClientFiles) → Q s → R s

-- what a process's descriptor names is the stream to which it leads
leads_by : (o : Option StreamNo) (pid fd : ℕ) (named : Named) (s : ClientFiles) → descriptor s.streams.owners pid fd ≡ o → described fd o ≡ Some named → descriptor s.streams.owners pid named.fd ≡ Some named.stream
leads_by (Some stream) pid fd named s e same = subst (λ (other : Named). descriptor s.streams.owners pid other.fd ≡ Some other.stream) (some_is (record { fd = fd; stream = stream }) named same) e
leads_by None pid fd named s e same = absurd (cc)

module _ (Q : ℕ → ClientFiles → Type 0) (R : ClientFiles → Type 0) (runs : (pid : ℕ) → RunsIssue pid (Q pid) R) where
  on_if : (b : Bool) (s t : ClientFiles) → R s → R t → R (cond b s t)
  on_if true s t p q = p
  on_if false s t p q = q

  looks_up_by : (o : Option ℕ) (pid : ℕ) (work : NameWork) (s : ClientFiles) → Q pid s → R (lookups.looks_up_by pid work o s)
  looks_up_by (Some server) pid work s p = (runs pid).echoes s work server p
  looks_up_by None pid work s p = (runs pid).broadcasts s work [] p

  pub looks_up : (pid : ℕ) (work : NameWork) (s : ClientFiles) → Q pid s → R (lookups.looks_up pid work s)
  looks_up pid work s p = looks_up_by (lookups.server_for work.path s) pid work s p

  -- Name calls at their issue

  refused : (about : About) (call : Call) (why : Errno) (s : ClientFiles) → Q about.pid s → R (naming.refuses_here about call why s)
  refused about call why s p = (runs about.pid).ends (says.enters about call (Error why) s) _ ((runs about.pid).quiet.tells s _ p)

  opens_cleaned : (o : Option Parts) (about : About) (call : Call) (flags fd : ℕ) (s : ClientFiles) → Q about.pid s → R (naming.opens_cleaned about call flags fd o s)
  opens_cleaned (Some path) about call flags fd s p = looks_up about.pid _ (counts_stream s) ((runs about.pid).quiet.counts s p)
  opens_cleaned None about call flags fd s p = refused about call _ s p

  opens_free : (o : Option ℕ) (about : About) (call : Call) (text : List ℕ) (flags : ℕ) (s : ClientFiles) → Q about.pid s → R (naming.opens_free about call text flags o s)
  opens_free (Some fd) about call text flags s p = opens_cleaned (cleaned about.pid text s) about call flags fd s p
  opens_free None about call text flags s p = refused about call _ s p

  issues_open : (o : Option ℕ) (about : About) (call : Call) (text : List ℕ) (s : ClientFiles) → Q about.pid s → R (naming.opens_lawful about call text o s)
  issues_open (Some flags) about call text s p = opens_free (free_descriptor about.pid s) about call text flags s p
  issues_open None about call text s p = refused about call _ s p

  makes_cleaned : (o : Option Parts) (about : About) (call : Call) (device : DeviceId) (fd : ℕ) (s : ClientFiles) → Q about.pid s → R (naming.makes_cleaned about call device fd o s)
  makes_cleaned (Some path) about call device fd s p = looks_up about.pid _ (counts_stream s) ((runs about.pid).quiet.counts s p)
  makes_cleaned None about call device fd s p = refused about call _ s p

  makes_free : (o : Option ℕ) (about : About) (call : Call) (text : List ℕ) (device : DeviceId) (s : ClientFiles) → Q about.pid s → R (naming.makes_free about call text device o s)
  makes_free (Some fd) about call text device s p = makes_cleaned (cleaned about.pid text s) about call device fd s p
  makes_free None about call text device s p = refused about call _ s p

  issues_make : (o : Option DeviceId) (about : About) (call : Call) (text : List ℕ) (s : ClientFiles) → Q about.pid s → R (naming.issues_make about call text o s)
  issues_make (Some device) about call text s p = makes_free (free_descriptor about.pid s) about call text device s p
  issues_make None about call text s p = (runs about.pid).lost s p

  names_cleaned : (o : Option Parts) (about : About) (call : Call) (op : NameOp) (max : ℕ) (s : ClientFiles) → Q about.pid s → R (naming.names_cleaned about call op max o s)
  names_cleaned (Some path) about call op max s p = looks_up about.pid _ s p
  names_cleaned None about call op max s p = refused about call _ s p

  issues_path : (about : About) (call : Call) (text : List ℕ) (op : NameOp) (s : ClientFiles) → Q about.pid s → R (naming.issues_path about call text op s)
  issues_path about call text op s p = names_cleaned (cleaned about.pid text s) about call op 0 s p

  issues_list : (about : About) (call : Call) (text : List ℕ) (max : ℕ) (s : ClientFiles) → Q about.pid s → R (naming.issues_list about call text max s)
  issues_list about call text max s p = on_if (nat_lt 4294967295 max) _ _ (refused about call _ s p) (names_cleaned (cleaned about.pid text s) about call ops.List max s p)

  renames_second : (o : Option Parts) (about : About) (call : Call) (path : Parts) (s : ClientFiles) → Q about.pid s → R (naming.renames_second about call path o s)
  renames_second (Some second) about call path s p = looks_up about.pid _ s p
  renames_second None about call path s p = refused about call _ s p

  issues_rename : (o : Option Parts) (about : About) (call : Call) (new : List ℕ) (s : ClientFiles) → Q about.pid s → R (naming.renames_first about call o new s)
  issues_rename (Some path) about call new s p = renames_second (cleaned about.pid new s) about call path s p
  issues_rename None about call new s p = refused about call _ s p

  issues_tree : (which : Call) (about : About) (call : Call) (s : ClientFiles) → Q about.pid s → R (naming.issues_tree_by which about call s)
  issues_tree (calls.Stat path) about call s p = issues_path about call path ops.Stat s p
  issues_tree (calls.Mkdir path) about call s p = issues_path about call path ops.Mkdir s p
  issues_tree (calls.Rmdir path) about call s p = issues_path about call path ops.Rmdir s p
  issues_tree (calls.Unlink path) about call s p = issues_path about call path ops.Unlink s p
  issues_tree (calls.Chdir path) about call s p = issues_path about call path ops.Chdir s p
  issues_tree which about call s p = (runs about.pid).lost s p

  issues_name : (which : Call) (about : About) (call : Call) (device : Option DeviceId) (s : ClientFiles) → Q about.pid s → R (naming.issues_name_by which about call device s)
  issues_name (calls.OpenFile path flags) about call device s p = issues_open (lawful flags) about call path s p
  issues_name (calls.PdMake path) about call device s p = issues_make device about call path s p
  issues_name (calls.Rename old new) about call device s p = issues_rename (cleaned about.pid old s) about call new s p
  issues_name (calls.List path max) about call device s p = issues_list about call path max s p
  issues_name which about call device s p = issues_tree call about call s p

  -- Other calls at their issue

  read_object : (object : Object) (named : Named) (stream : Stream) (about : About) (call : Call) (many : ℕ) (s : ClientFiles) → descriptor s.streams.owners about.pid named.fd ≡ Some named.stream → Q about.pid s → R (datas.reads_by (reach_by object named stream) about call many s)
  read_object (objects.File file) named stream about call many s d p = on_if (not (reads stream.mode)) _ _ (refused about call _ s p) ((runs about.pid).begins s _ refl d p)
  read_object (objects.Device device) named stream about call many s d p = refused about call _ s p
  read_object (objects.Master device) named stream about call many s d p = refused about call _ s p

  read_stream : (o : Option Stream) (named : Named) (about : About) (call : Call) (many : ℕ) (s : ClientFiles) → descriptor s.streams.owners about.pid named.fd ≡ Some named.stream → Q about.pid s → R (datas.reads_by (reach_stream named o) about call many s)
  read_stream (Some stream) named about call many s d p = read_object stream.object named stream about call many s d p
  read_stream None named about call many s d p = refused about call _ s p

  read_named : (o : Option Named) (fd : ℕ) (about : About) (call : Call) (many : ℕ) (s : ClientFiles) → descriptor_of about.pid fd s ≡ o → Q about.pid s → R (datas.reads_by (reach_named o s) about call many s)
  read_named (Some named) fd about call many s e p = read_stream (stream_at named.stream s) named about call many s (leads_by (descriptor s.streams.owners about.pid fd) about.pid fd named s refl e) p
  read_named None fd about call many s e p = refused about call _ s p

  write_object : (object : Object) (named : Named) (stream : Stream) (about : About) (call : Call) (bytes : List ℕ) (s : ClientFiles) → descriptor s.streams.owners about.pid named.fd ≡ Some named.stream → Q about.pid s → R (datas.writes_found (reach_by object named stream) about call bytes s)
  write_object (objects.File file) named stream about call bytes s d p = on_if (not (writes stream.mode)) _ _ (refused about call _ s p) ((runs about.pid).begins s _ refl d p)
  write_object (objects.Device device) named stream about call bytes s d p = refused about call _ s p
  write_object (objects.Master device) named stream about call bytes s d p = refused about call _ s p

  write_stream : (o : Option Stream) (named : Named) (about : About) (call : Call) (bytes : List ℕ) (s : ClientFiles) → descriptor s.streams.owners about.pid named.fd ≡ Some named.stream → Q about.pid s → R (datas.writes_found (reach_stream named o) about call bytes s)
  write_stream (Some stream) named about call bytes s d p = write_object stream.object named stream about call bytes s d p
  write_stream None named about call bytes s d p = refused about call _ s p

  write_named : (o : Option Named) (fd : ℕ) (about : About) (call : Call) (bytes : List ℕ) (s : ClientFiles) → descriptor_of about.pid fd s ≡ o → Q about.pid s → R (datas.writes_found (reach_named o s) about call bytes s)
  write_named (Some named) fd about call bytes s e p = write_stream (stream_at named.stream s) named about call bytes s (leads_by (descriptor s.streams.owners about.pid fd) about.pid fd named s refl e) p
  write_named None fd about call bytes s e p = refused about call _ s p

  seek_object : (object : Object) (named : Named) (stream : Stream) (about : About) (call : Call) (offset : ℕ) (s : ClientFiles) → descriptor s.streams.owners about.pid named.fd ≡ Some named.stream → Q about.pid s → R (datas.seeks_found (reach_by object named stream) about call offset s)
  seek_object (objects.File file) named stream about call offset s d p = on_if (nat_lt s.limit offset) _ _ (refused about call _ s p) ((runs about.pid).begins s _ refl d p)
  seek_object (objects.Device device) named stream about call offset s d p = refused about call _ s p
  seek_object (objects.Master device) named stream about call offset s d p = refused about call _ s p

  seek_stream : (o : Option Stream) (named : Named) (about : About) (call : Call) (offset : ℕ) (s : ClientFiles) → descriptor s.streams.owners about.pid named.fd ≡ Some named.stream → Q about.pid s → R (datas.seeks_found (reach_stream named o) about call offset s)
  seek_stream (Some stream) named about call offset s d p = seek_object stream.object named stream about call offset s d p
  seek_stream None named about call offset s d p = refused about call _ s p

  seek_named : (o : Option Named) (fd : ℕ) (about : About) (call : Call) (offset : ℕ) (s : ClientFiles) → descriptor_of about.pid fd s ≡ o → Q about.pid s → R (datas.seeks_found (reach_named o s) about call offset s)
  seek_named (Some named) fd about call offset s e p = seek_stream (stream_at named.stream s) named about call offset s (leads_by (descriptor s.streams.owners about.pid fd) about.pid fd named s refl e) p
  seek_named None fd about call offset s e p = refused about call _ s p

  size_object : (object : Object) (named : Named) (stream : Stream) (about : About) (call : Call) (s : ClientFiles) → descriptor s.streams.owners about.pid named.fd ≡ Some named.stream → Q about.pid s → R (datas.sizes_found (reach_by object named stream) about call s)
  size_object (objects.File file) named stream about call s d p = (runs about.pid).begins s _ refl d p
  size_object (objects.Device device) named stream about call s d p = refused about call _ s p
  size_object (objects.Master device) named stream about call s d p = refused about call _ s p

  size_stream : (o : Option Stream) (named : Named) (about : About) (call : Call) (s : ClientFiles) → descriptor s.streams.owners about.pid named.fd ≡ Some named.stream → Q about.pid s → R (datas.sizes_found (reach_stream named o) about call s)
  size_stream (Some stream) named about call s d p = size_object stream.object named stream about call s d p
  size_stream None named about call s d p = refused about call _ s p

  size_named : (o : Option Named) (fd : ℕ) (about : About) (call : Call) (s : ClientFiles) → descriptor_of about.pid fd s ≡ o → Q about.pid s → R (datas.sizes_found (reach_named o s) about call s)
  size_named (Some named) fd about call s e p = size_stream (stream_at named.stream s) named about call s (leads_by (descriptor s.streams.owners about.pid fd) about.pid fd named s refl e) p
  size_named None fd about call s e p = refused about call _ s p

  sync_object : (object : Object) (named : Named) (stream : Stream) (about : About) (call : Call) (s : ClientFiles) → Q about.pid s → R (datas.syncs_found (reach_by object named stream) about call s)
  sync_object (objects.File file) named stream about call s p = (runs about.pid).begins s _ refl tt p
  sync_object (objects.Device device) named stream about call s p = refused about call _ s p
  sync_object (objects.Master device) named stream about call s p = refused about call _ s p

  sync_stream : (o : Option Stream) (named : Named) (about : About) (call : Call) (s : ClientFiles) → Q about.pid s → R (datas.syncs_found (reach_stream named o) about call s)
  sync_stream (Some stream) named about call s p = sync_object stream.object named stream about call s p
  sync_stream None named about call s p = refused about call _ s p

  sync_named : (o : Option Named) (about : About) (call : Call) (s : ClientFiles) → Q about.pid s → R (datas.syncs_found (reach_named o s) about call s)
  sync_named (Some named) about call s p = sync_stream (stream_at named.stream s) named about call s p
  sync_named None about call s p = refused about call _ s p

  issues_read : (about : About) (call : Call) (fd many : ℕ) (s : ClientFiles) → Q about.pid s → R (datas.issues_read about call fd many s)
  issues_read about call fd many s p = on_if (nat_lt 4294967295 many) _ _ (refused about call _ s p) (read_named (descriptor_of about.pid fd s) fd about call many s refl p)

  issues_close : (o : Option Named) (about : About) (call : Call) (s : ClientFiles) → Q about.pid s → R (issuing.closes_named o about call s)
  issues_close (Some named) about call s p = (runs about.pid).begins s _ refl tt p
  issues_close None about call s p = refused about call _ s p

  dups_by : (r : Result ℕ StreamEnd) (about : About) (call : Call) (s : ClientFiles) → Q about.pid s → R (issuing.dups_by r about call s)
  dups_by (Ok fd) about call s p = (runs about.pid).ends (says.enters about call (says.plain_value fd) s) _ ((runs about.pid).quiet.tells s _ p)
  dups_by (Err ends.BadFd) about call s p = refused about call _ s p
  dups_by (Err ends.TooMany) about call s p = refused about call _ s p
  dups_by (Err ends.NoMemory) about call s p = (runs about.pid).lost s p

  issues_by : (which : Call) (about : About) (call : Call) (device : Option DeviceId) (s : ClientFiles) → Q about.pid s → R (issuing.issues_by which about call device s)
  issues_by (calls.Close fd) about call device s p = issues_close (descriptor_of about.pid fd s) about call s p
  issues_by (calls.Dup fd) about call device s p =
      dups_by (dup_answer (descriptor s.streams.owners about.pid fd) (free s.streams.owners about.pid)) about call (record s { streams = dupped s.streams about.pid fd }) ((runs about.pid).dups s fd p)
  issues_by (calls.Read fd many) about call device s p = issues_read about call fd many s p
  issues_by (calls.Write fd bytes) about call device s p = write_named (descriptor_of about.pid fd s) fd about call bytes s refl p
  issues_by (calls.Seek fd offset) about call device s p = seek_named (descriptor_of about.pid fd s) fd about call offset s refl p
  issues_by (calls.Size fd) about call device s p = size_named (descriptor_of about.pid fd s) fd about call s refl p
  issues_by (calls.Sync fd) about call device s p = sync_named (descriptor_of about.pid fd s) about call s p
  issues_by which about call device s p = issues_name call about call device s p

  pub issues : (about : About) (call : Call) (device : Option DeviceId) (s : ClientFiles) → Q about.pid s → R (issuing.issues about call device s)
  issues about call device s p = issues_by call about call device s p
