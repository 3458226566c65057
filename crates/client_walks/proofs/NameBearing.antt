-- Name calls learn prefixes, and ask for them, where they aren't known, and wait for what went out for them; with that, all that a client's
-- kernel does on its files' side.
use Rattle.std.proofs.Common.{◌≡◌, ℕ, zero, suc, nat_lt, Bool, true, false, not, cond, List, [], ◌∷◌, Option, Some, None, Result, Ok, Err, option_map, refl, sym, ap, subst, ◌∙◌}
use Rattle.std.proofs.lemmas.Bool.{or_from}
use Rattle.std.specs.List.{AllByRecursion, list_any}
use Rattle.sprite_ids.specs.declared.BlockNo.{BlockNo}
use Rattle.sprite_ids.specs.declared.DeviceId.{DeviceId}
use Rattle.sprite_ids.specs.declared.Errno.{Errno}
use Rattle.sprite_ids.specs.declared.FileId.{FileId}
use Rattle.sprite_ids.specs.declared.Grant.{Grant}
use Rattle.sprite_ids.specs.declared.Object.{Object}
use Rattle.sprite_ids.specs.declared.Object.TheVariants as objects
use Rattle.sprite_ids.specs.declared.StreamNo.{StreamNo}
use Rattle.sprite_ids.specs.declared.TxNo.{TxNo}
use Rattle.process_machine.specs.declared.Call.{Call}
use Rattle.process_machine.specs.declared.Call.TheVariants as calls
use Rattle.process_machine.specs.declared.Reply.TheVariants.{Error}
use Rattle.packet_bodies.specs.declared.CallbackRequest.{CallbackRequest}
use Rattle.packet_bodies.specs.declared.CarriedStream.{CarriedStream}
use Rattle.packet_bodies.specs.declared.NameOp.{NameOp}
use Rattle.packet_bodies.specs.declared.NameOp.TheVariants as ops
use Rattle.packet_bodies.specs.declared.OpenedReply.{OpenedReply}
use Rattle.packet_bodies.specs.declared.ReplyBody.{ReplyBody}
use Rattle.packet_bodies.specs.declared.ReplyBody.TheVariants as bodies
use Rattle.packet_bodies.specs.declared.ValueReply.{ValueReply}
use Rattle.kernel_steps.specs.declared.Input.{Input}
use Rattle.kernel_steps.specs.declared.Input.TheVariants.{GaveUp, Replied}
use Rattle.kernel_steps.specs.Rows.{is_under}
use Rattle.unix_calls.specs.declared.About.{About}
use Rattle.unix_calls.specs.Opening.{reads, writes}
use Rattle.stream_table.specs.declared.Carried.{Carried}
use Rattle.stream_table.specs.declared.Stream.{Stream}
use Rattle.stream_table.specs.declared.StreamEnd.{StreamEnd}
use Rattle.stream_table.specs.declared.StreamEnd.TheVariants as ends
use Rattle.stream_table.specs.Owners.{descriptor}
use Rattle.stream_table.specs.Streams.{dup_answer, dupped, free}
use Rattle.sprite_paths.specs.Path.{IsPrefix}
use Rattle.prefix_table.specs.declared.prefixes.Domain.{Domain}
use Rattle.prefix_table.specs.Prefixes.{Matches, is_of, knows, longest}
use Rattle.prefix_table.proofs.PrefixLaws.{is_of_same, none_matching}
use Rattle.client_file_tables.specs.declared.client_files.ClientFiles.{ClientFiles}
use Rattle.client_file_tables.specs.declared.moves.MoveWork.{MoveWork}
use Rattle.client_file_tables.specs.declared.names.NameKind.{NameKind}
use Rattle.client_file_tables.specs.declared.names.NameKind.TheVariants as name_kinds
use Rattle.client_file_tables.specs.declared.names.NameWork.{NameWork}
use Rattle.client_file_tables.specs.declared.pending.Pending.{Pending}
use Rattle.client_file_tables.specs.declared.pending.Pending.TheVariants as operations
use Rattle.client_file_tables.specs.declared.states.NameState.{NameState}
use Rattle.client_file_tables.specs.declared.states.NameState.TheVariants as name_states
use Rattle.client_file_tables.specs.Rows.{first_call, first_of, less_call, less_of, same_call}
use Rattle.client_file_tables.specs.Streams as streams
use Rattle.client_file_tables.specs.Streams.{stream_at}
use Rattle.client_data.specs.Grants as grants
use Rattle.client_data.specs.WriteBacks as written
use Rattle.client_names.specs.Answers as name_answers
use Rattle.client_names.specs.Issues as naming
use Rattle.client_names.specs.Lookups as lookups
use Rattle.client_names.specs.Making.{counts_stream, free_descriptor}
use Rattle.client_names.specs.OpenFlags.{lawful}
use Rattle.client_names.specs.Paths.{Parts, cleaned}
use Rattle.client_streams.specs.declared.Named.{Named}
use Rattle.client_streams.specs.Closing as closing
use Rattle.client_streams.specs.Descriptors.{descriptor_of}
use Rattle.client_streams.specs.Moving as moving
use Rattle.client_files.specs.Answered as answering
use Rattle.client_files.specs.Arrivals as arrivals
use Rattle.client_files.specs.Asked as asked
use Rattle.client_files.specs.CallIssues as issuing
use Rattle.client_files.specs.DataIssues as datas
use Rattle.client_files.specs.Reaches.{reach_by, reach_named, reach_stream}
use Rattle.client_files.specs.Turns as turning
use Rattle.client_walks.proofs.Bearing.{Bears, BearsTelling, Leads, Led, MayAsk, Root, Seen, seen_of}
use Rattle.client_walks.proofs.DataBearing as data_side
use Rattle.client_walks.proofs.ReplyLaws.{GivenUp, Safe}

-- ---- the root is a prefix of every path, so where none of a path is known it isn't

not_root : (path : Parts) (d : Domain) (b : Bool) → is_of [] d ≡ b → (Matches path d → ⊥) → b ≡ false
not_root path d true e h = absurd (h (subst (λ (prefix : Parts). IsPrefix prefix path) (sym ((is_of_same [] d).0 e)) (record { rest = path; whole = refl })))
not_root path d false e h = refl

root_by : (ds : List Domain) (path : Parts) → AllByRecursion (λ (d : Domain). Matches path d → ⊥) ds → knows ds [] ≡ false
root_by [] path h = refl
root_by (d ∷ ds) path h = or_from (is_of [] d) (list_any (is_of []) ds) (not_root path d (is_of [] d) refl h.0) (root_by ds path h.1)

root_unknown : (ds : List Domain) (path : Parts) → longest ds path ≡ None → knows ds [] ≡ false
root_unknown ds path e = root_by ds path ((none_matching ds path).0 e)

none_found : (o : Option Domain) → option_map (λ (d : Domain). d.server) o ≡ None → o ≡ None
none_found None e = refl
none_found (Some d) e = absurd (cc)

module _ (came : Input) (Q : Seen → Type 0) (bears : BearsTelling came Q) where
  abbrev pub P : ClientFiles → Type 0
  P s = Q (seen_of s)

  on_test : (b : Bool) (s t : ClientFiles) → (b ≡ true → P s) → (b ≡ false → P t) → P (cond b s t)
  on_test true s t f g = f refl
  on_test false s t f g = g refl

  pub on_if : (b : Bool) (s t : ClientFiles) → P s → P t → P (cond b s t)
  on_if b s t p q = data_side.on_if came Q bears b s t p q

  -- Look-ups

  broadcasts : (pid : ℕ) (work : NameWork) (prefix : Parts) (s : ClientFiles) → MayAsk came prefix → knows s.prefixes prefix ≡ false → P s → P (lookups.broadcasts pid work prefix s)
  broadcasts pid work prefix s may e p = bears.broadcasts (seen_of s) pid work prefix may e p

  looks_up_by : (o : Option ℕ) (pid : ℕ) (work : NameWork) (s : ClientFiles) → lookups.server_for work.path s ≡ o → P s → P (lookups.looks_up_by pid work o s)
  looks_up_by (Some server) pid work s e p = bears.echoes (seen_of s) pid work server p
  looks_up_by None pid work s e p = broadcasts pid work [] s (Root refl) (root_unknown s.prefixes work.path (none_found (longest s.prefixes work.path) e)) p

  pub looks_up : (pid : ℕ) (work : NameWork) (s : ClientFiles) → P s → P (lookups.looks_up pid work s)
  looks_up pid work s p = looks_up_by (lookups.server_for work.path s) pid work s refl p

  redirects : (pid : ℕ) (work : NameWork) (prefix : Parts) (s : ClientFiles) → MayAsk came prefix → P s → P (lookups.redirects pid work prefix s)
  redirects pid work prefix s may p = on_test (knows s.prefixes prefix) _ _ (λ e. looks_up pid work s p) (λ e. broadcasts pid work prefix s may e p)

  -- Name calls at their issue

  refused : (about : About) (call : Call) (why : Errno) (s : ClientFiles) → Safe (Error why) → P s → P (naming.refuses_here about call why s)
  refused about call why s safe p = data_side.answers_here came Q bears about call _ s safe p

  opens_cleaned : (o : Option Parts) (about : About) (call : Call) (flags fd : ℕ) (s : ClientFiles) → P s → P (naming.opens_cleaned about call flags fd o s)
  opens_cleaned (Some path) about call flags fd s p = looks_up about.pid _ (counts_stream s) p
  opens_cleaned None about call flags fd s p = refused about call _ s refl p

  opens_free : (o : Option ℕ) (about : About) (call : Call) (text : List ℕ) (flags : ℕ) (s : ClientFiles) → P s → P (naming.opens_free about call text flags o s)
  opens_free (Some fd) about call text flags s p = opens_cleaned (cleaned about.pid text s) about call flags fd s p
  opens_free None about call text flags s p = refused about call _ s refl p

  issues_open : (o : Option ℕ) (about : About) (call : Call) (text : List ℕ) (s : ClientFiles) → P s → P (naming.opens_lawful about call text o s)
  issues_open (Some flags) about call text s p = opens_free (free_descriptor about.pid s) about call text flags s p
  issues_open None about call text s p = refused about call _ s refl p

  makes_cleaned : (o : Option Parts) (about : About) (call : Call) (device : DeviceId) (fd : ℕ) (s : ClientFiles) → P s → P (naming.makes_cleaned about call device fd o s)
  makes_cleaned (Some path) about call device fd s p = looks_up about.pid _ (counts_stream s) p
  makes_cleaned None about call device fd s p = refused about call _ s refl p

  makes_free : (o : Option ℕ) (about : About) (call : Call) (text : List ℕ) (device : DeviceId) (s : ClientFiles) → P s → P (naming.makes_free about call text device o s)
  makes_free (Some fd) about call text device s p = makes_cleaned (cleaned about.pid text s) about call device fd s p
  makes_free None about call text device s p = refused about call _ s refl p

  issues_make : (o : Option DeviceId) (about : About) (call : Call) (text : List ℕ) (s : ClientFiles) → P s → P (naming.issues_make about call text o s)
  issues_make (Some device) about call text s p = makes_free (free_descriptor about.pid s) about call text device s p
  issues_make None about call text s p = p

  names_cleaned : (o : Option Parts) (about : About) (call : Call) (op : NameOp) (max : ℕ) (s : ClientFiles) → P s → P (naming.names_cleaned about call op max o s)
  names_cleaned (Some path) about call op max s p = looks_up about.pid _ s p
  names_cleaned None about call op max s p = refused about call _ s refl p

  issues_path : (about : About) (call : Call) (text : List ℕ) (op : NameOp) (s : ClientFiles) → P s → P (naming.issues_path about call text op s)
  issues_path about call text op s p = names_cleaned (cleaned about.pid text s) about call op 0 s p

  issues_list : (about : About) (call : Call) (text : List ℕ) (max : ℕ) (s : ClientFiles) → P s → P (naming.issues_list about call text max s)
  issues_list about call text max s p = on_if (nat_lt 4294967295 max) _ _ (refused about call _ s refl p) (names_cleaned (cleaned about.pid text s) about call ops.List max s p)

  renames_second : (o : Option Parts) (about : About) (call : Call) (path : Parts) (s : ClientFiles) → P s → P (naming.renames_second about call path o s)
  renames_second (Some second) about call path s p = looks_up about.pid _ s p
  renames_second None about call path s p = refused about call _ s refl p

  issues_rename : (o : Option Parts) (about : About) (call : Call) (new : List ℕ) (s : ClientFiles) → P s → P (naming.renames_first about call o new s)
  issues_rename (Some path) about call new s p = renames_second (cleaned about.pid new s) about call path s p
  issues_rename None about call new s p = refused about call _ s refl p

  issues_tree : (which : Call) (about : About) (call : Call) (s : ClientFiles) → P s → P (naming.issues_tree_by which about call s)
  issues_tree (calls.Stat path) about call s p = issues_path about call path ops.Stat s p
  issues_tree (calls.Mkdir path) about call s p = issues_path about call path ops.Mkdir s p
  issues_tree (calls.Rmdir path) about call s p = issues_path about call path ops.Rmdir s p
  issues_tree (calls.Unlink path) about call s p = issues_path about call path ops.Unlink s p
  issues_tree (calls.Chdir path) about call s p = issues_path about call path ops.Chdir s p
  issues_tree which about call s p = p

  issues_name : (which : Call) (about : About) (call : Call) (device : Option DeviceId) (s : ClientFiles) → P s → P (naming.issues_name_by which about call device s)
  issues_name (calls.OpenFile path flags) about call device s p = issues_open (lawful flags) about call path s p
  issues_name (calls.PdMake path) about call device s p = issues_make device about call path s p
  issues_name (calls.Rename old new) about call device s p = issues_rename (cleaned about.pid old s) about call new s p
  issues_name (calls.List path max) about call device s p = issues_list about call path max s p
  issues_name which about call device s p = issues_tree call about call s p

  -- Other calls at their issue

  read_object : (object : Object) (named : Named) (stream : Stream) (about : About) (call : Call) (many : ℕ) (s : ClientFiles) → P s → P (datas.reads_by (reach_by object named stream) about call many s)
  read_object (objects.File file) named stream about call many s p = on_if (not (reads stream.mode)) _ _ (refused about call _ s refl p) (data_side.kept_data came Q bears about.pid _ s p)
  read_object (objects.Device device) named stream about call many s p = refused about call _ s refl p
  read_object (objects.Master device) named stream about call many s p = refused about call _ s refl p

  read_stream : (o : Option Stream) (named : Named) (about : About) (call : Call) (many : ℕ) (s : ClientFiles) → P s → P (datas.reads_by (reach_stream named o) about call many s)
  read_stream (Some stream) named about call many s p = read_object stream.object named stream about call many s p
  read_stream None named about call many s p = refused about call _ s refl p

  read_named : (o : Option Named) (about : About) (call : Call) (many : ℕ) (s : ClientFiles) → P s → P (datas.reads_by (reach_named o s) about call many s)
  read_named (Some named) about call many s p = read_stream (stream_at named.stream s) named about call many s p
  read_named None about call many s p = refused about call _ s refl p

  write_object : (object : Object) (named : Named) (stream : Stream) (about : About) (call : Call) (bytes : List ℕ) (s : ClientFiles) → P s → P (datas.writes_found (reach_by object named stream) about call bytes s)
  write_object (objects.File file) named stream about call bytes s p = on_if (not (writes stream.mode)) _ _ (refused about call _ s refl p) (data_side.kept_data came Q bears about.pid _ s p)
  write_object (objects.Device device) named stream about call bytes s p = refused about call _ s refl p
  write_object (objects.Master device) named stream about call bytes s p = refused about call _ s refl p

  write_stream : (o : Option Stream) (named : Named) (about : About) (call : Call) (bytes : List ℕ) (s : ClientFiles) → P s → P (datas.writes_found (reach_stream named o) about call bytes s)
  write_stream (Some stream) named about call bytes s p = write_object stream.object named stream about call bytes s p
  write_stream None named about call bytes s p = refused about call _ s refl p

  write_named : (o : Option Named) (about : About) (call : Call) (bytes : List ℕ) (s : ClientFiles) → P s → P (datas.writes_found (reach_named o s) about call bytes s)
  write_named (Some named) about call bytes s p = write_stream (stream_at named.stream s) named about call bytes s p
  write_named None about call bytes s p = refused about call _ s refl p

  seek_object : (object : Object) (named : Named) (stream : Stream) (about : About) (call : Call) (offset : ℕ) (s : ClientFiles) → P s → P (datas.seeks_found (reach_by object named stream) about call offset s)
  seek_object (objects.File file) named stream about call offset s p = on_if (nat_lt s.limit offset) _ _ (refused about call _ s refl p) (data_side.kept_data came Q bears about.pid _ s p)
  seek_object (objects.Device device) named stream about call offset s p = refused about call _ s refl p
  seek_object (objects.Master device) named stream about call offset s p = refused about call _ s refl p

  seek_stream : (o : Option Stream) (named : Named) (about : About) (call : Call) (offset : ℕ) (s : ClientFiles) → P s → P (datas.seeks_found (reach_stream named o) about call offset s)
  seek_stream (Some stream) named about call offset s p = seek_object stream.object named stream about call offset s p
  seek_stream None named about call offset s p = refused about call _ s refl p

  seek_named : (o : Option Named) (about : About) (call : Call) (offset : ℕ) (s : ClientFiles) → P s → P (datas.seeks_found (reach_named o s) about call offset s)
  seek_named (Some named) about call offset s p = seek_stream (stream_at named.stream s) named about call offset s p
  seek_named None about call offset s p = refused about call _ s refl p

  size_object : (object : Object) (named : Named) (stream : Stream) (about : About) (call : Call) (s : ClientFiles) → P s → P (datas.sizes_found (reach_by object named stream) about call s)
  size_object (objects.File file) named stream about call s p = data_side.kept_data came Q bears about.pid _ s p
  size_object (objects.Device device) named stream about call s p = refused about call _ s refl p
  size_object (objects.Master device) named stream about call s p = refused about call _ s refl p

  size_stream : (o : Option Stream) (named : Named) (about : About) (call : Call) (s : ClientFiles) → P s → P (datas.sizes_found (reach_stream named o) about call s)
  size_stream (Some stream) named about call s p = size_object stream.object named stream about call s p
  size_stream None named about call s p = refused about call _ s refl p

  size_named : (o : Option Named) (about : About) (call : Call) (s : ClientFiles) → P s → P (datas.sizes_found (reach_named o s) about call s)
  size_named (Some named) about call s p = size_stream (stream_at named.stream s) named about call s p
  size_named None about call s p = refused about call _ s refl p

  sync_object : (object : Object) (named : Named) (stream : Stream) (about : About) (call : Call) (s : ClientFiles) → P s → P (datas.syncs_found (reach_by object named stream) about call s)
  sync_object (objects.File file) named stream about call s p = data_side.kept_sync came Q bears about.pid _ s p
  sync_object (objects.Device device) named stream about call s p = refused about call _ s refl p
  sync_object (objects.Master device) named stream about call s p = refused about call _ s refl p

  sync_stream : (o : Option Stream) (named : Named) (about : About) (call : Call) (s : ClientFiles) → P s → P (datas.syncs_found (reach_stream named o) about call s)
  sync_stream (Some stream) named about call s p = sync_object stream.object named stream about call s p
  sync_stream None named about call s p = refused about call _ s refl p

  sync_named : (o : Option Named) (about : About) (call : Call) (s : ClientFiles) → P s → P (datas.syncs_found (reach_named o s) about call s)
  sync_named (Some named) about call s p = sync_stream (stream_at named.stream s) named about call s p
  sync_named None about call s p = refused about call _ s refl p

  issues_read : (about : About) (call : Call) (fd many : ℕ) (s : ClientFiles) → P s → P (datas.issues_read about call fd many s)
  issues_read about call fd many s p = on_if (nat_lt 4294967295 many) _ _ (refused about call _ s refl p) (read_named (descriptor_of about.pid fd s) about call many s p)

  issues_close : (o : Option Named) (about : About) (call : Call) (s : ClientFiles) → P s → P (issuing.closes_named o about call s)
  issues_close (Some named) about call s p = data_side.kept_close came Q bears about.pid _ s p
  issues_close None about call s p = refused about call _ s refl p

  dups_by : (r : Result ℕ StreamEnd) (about : About) (call : Call) (s : ClientFiles) → P s → P (issuing.dups_by r about call s)
  dups_by (Ok fd) about call s p = data_side.answers_here came Q bears about call _ s refl p
  dups_by (Err ends.BadFd) about call s p = refused about call _ s refl p
  dups_by (Err ends.TooMany) about call s p = refused about call _ s refl p
  dups_by (Err ends.NoMemory) about call s p = p

  issues_by : (which : Call) (about : About) (call : Call) (device : Option DeviceId) (s : ClientFiles) → P s → P (issuing.issues_by which about call device s)
  issues_by (calls.Close fd) about call device s p = issues_close (descriptor_of about.pid fd s) about call s p
  issues_by (calls.Dup fd) about call device s p =
      dups_by (dup_answer (descriptor s.streams.owners about.pid fd) (free s.streams.owners about.pid)) about call (record s { streams = dupped s.streams about.pid fd }) p
  issues_by (calls.Read fd many) about call device s p = issues_read about call fd many s p
  issues_by (calls.Write fd bytes) about call device s p = write_named (descriptor_of about.pid fd s) about call bytes s p
  issues_by (calls.Seek fd offset) about call device s p = seek_named (descriptor_of about.pid fd s) about call offset s p
  issues_by (calls.Size fd) about call device s p = size_named (descriptor_of about.pid fd s) about call s p
  issues_by (calls.Sync fd) about call device s p = sync_named (descriptor_of about.pid fd s) about call s p
  issues_by which about call device s p = issues_name call about call device s p

  pub issues : (about : About) (call : Call) (device : Option DeviceId) (s : ClientFiles) → P s → P (issuing.issues about call device s)
  issues about call device s p = issues_by call about call device s p

  -- Answers to name calls

  gives_descriptor : (o : Option ℕ) (pid : ℕ) (s : ClientFiles) → P s → P (name_answers.gives_descriptor pid o s)
  gives_descriptor (Some fd) pid s p = p
  gives_descriptor None pid s p = p

  installs : (pid : ℕ) (number : StreamNo) (stream : Stream) (s : ClientFiles) → P s → P (name_answers.installs pid number stream s)
  installs pid number stream s p = gives_descriptor (streams.added_fd pid stream s) pid (streams.adds_stream pid number stream s) (on_if _ _ s p p)

  installs_opened : (o : Option Stream) (pid : ℕ) (number : StreamNo) (s : ClientFiles) → P s → P (name_answers.installs_opened pid number o s)
  installs_opened (Some stream) pid number s p = installs pid number stream s p
  installs_opened None pid number s p = p

  ends_opened : (kind : NameKind) (pid : ℕ) (opened : OpenedReply) (s : ClientFiles) → P s → P (name_answers.ends_opened_by kind pid opened s)
  ends_opened (name_kinds.Open flags stream fd) pid opened s p = installs_opened (name_answers.opened_stream flags opened.object) pid stream s p
  ends_opened (name_kinds.Make device stream fd) pid opened s p = p
  ends_opened (name_kinds.Name op second max) pid opened s p = p

  takes_some : (o : Option Grant) (s : ClientFiles) → P s → P (asked.takes_some o s)
  takes_some (Some grant) s p = data_side.takes_grant came Q bears grant s p
  takes_some None s p = p

  gives_value : (op : NameOp) (pid : ℕ) (path : Parts) (value : ValueReply) (s : ClientFiles) → P s → P (name_answers.gives_value pid op path value s)
  gives_value ops.Chdir pid path value s p = data_side.sets_cwd came Q bears pid path s p
  gives_value op pid path value s p = p

  ends_value : (kind : NameKind) (pid : ℕ) (path : Parts) (value : ValueReply) (s : ClientFiles) → P s → P (name_answers.ends_value_by kind pid path value s)
  ends_value (name_kinds.Open flags stream fd) pid path value s p = p
  ends_value (name_kinds.Make device stream fd) pid path value s p = installs pid stream (name_answers.master_stream device) s p
  ends_value (name_kinds.Name op second max) pid path value s p = gives_value op pid path value s p

  pub ends_asked : (body : ReplyBody) (pid : ℕ) (work : NameWork) (s : ClientFiles) → Leads came body → P s → P (asked.ends_asked pid work body s)
  ends_asked (bodies.Refused why) pid work s leads p = p
  ends_asked (bodies.Redirect path) pid work s leads p = redirects pid work path s (leads path refl) p
  ends_asked (bodies.Opened opened) pid work s leads p = ends_opened work.kind pid opened (asked.takes_some opened.grant s) (takes_some opened.grant s p)
  ends_asked (bodies.Value value) pid work s leads p = ends_value work.kind pid work.path value s p
  ends_asked body pid work s leads p = p

  -- Answers to other remote calls of this side, and calls that are given up

  pub answers_move : (body : ReplyBody) (pid : ℕ) (work : MoveWork) (s : ClientFiles) → P s → P (answering.answers_move pid work body s)
  answers_move (bodies.Moved grant many) pid work s p = data_side.move_answers came Q bears (moving.moved_out work.state) pid work grant many s p
  answers_move body pid work s p = data_side.kept_move came Q bears pid _ s p

  gives_up_by : (o : Option Pending) (tx : TxNo) (pid : ℕ) (rows : List (ℕ × Pending)) (s : ClientFiles) → came ≡ GaveUp tx → first_of pid rows ≡ o → P (record s { pending = rows }) → P (name_answers.gives_up_by pid o (record s { pending = less_of pid rows }))
  gives_up_by (Some (operations.Name call)) tx pid rows s is e p = data_side.entered came Q bears _ (record s { pending = less_of pid rows }) (GivenUp tx is) (data_side.taken_out came Q bears pid rows s p)
  gives_up_by (Some (operations.Data call)) tx pid rows s is e p = data_side.puts_back came Q bears pid (operations.Data call) rows s e p
  gives_up_by (Some (operations.Sync call)) tx pid rows s is e p = data_side.puts_back came Q bears pid (operations.Sync call) rows s e p
  gives_up_by (Some (operations.Close work)) tx pid rows s is e p = data_side.puts_back came Q bears pid (operations.Close work) rows s e p
  gives_up_by (Some (operations.Move work)) tx pid rows s is e p = data_side.puts_back came Q bears pid (operations.Move work) rows s e p
  gives_up_by None tx pid rows s is e p = data_side.taken_out came Q bears pid rows s p

  gives_up_first : (o : Option ℕ) (tx : TxNo) (s : ClientFiles) → came ≡ GaveUp tx → P s → P (name_answers.gives_up_first o tx s)
  gives_up_first (Some pid) tx s is p = on_if (name_answers.takes_end tx (first_of pid s.pending)) _ s (gives_up_by (first_of pid s.pending) tx pid s.pending s is refl p) p
  gives_up_first None tx s is p = p

  pub gives_up : (tx : TxNo) (s : ClientFiles) → came ≡ GaveUp tx → P s → P (name_answers.gives_up tx s)
  gives_up tx s is p = gives_up_first (first_call tx s.txs) tx (record s { txs = less_call tx s.txs }) is p

  -- Turns

  runs_by : (o : Option Pending) (pid : ℕ) (rows : List (ℕ × Pending)) (s : ClientFiles) → first_of pid rows ≡ o → P (record s { pending = rows }) → P (turning.runs_by o pid (record s { pending = less_of pid rows }))
  runs_by (Some (operations.Name call)) pid rows s e p = data_side.puts_back came Q bears pid (operations.Name call) rows s e p
  runs_by (Some (operations.Data call)) pid rows s e p = data_side.looks came Q bears pid call (record s { pending = less_of pid rows }) (data_side.taken_out came Q bears pid rows s p)
  runs_by (Some (operations.Sync call)) pid rows s e p = data_side.syncs came Q bears pid call (record s { pending = less_of pid rows }) (data_side.taken_out came Q bears pid rows s p)
  runs_by (Some (operations.Close work)) pid rows s e p = data_side.runs_close came Q bears work.state pid work (record s { pending = less_of pid rows }) (data_side.taken_out came Q bears pid rows s p)
  runs_by (Some (operations.Move work)) pid rows s e p = data_side.runs_move came Q bears work.state pid work (record s { pending = less_of pid rows }) (data_side.taken_out came Q bears pid rows s p)
  runs_by None pid rows s e p = data_side.taken_out came Q bears pid rows s p

  turned_by : (list : List ℕ) (s : ClientFiles) → P s → P (turning.turned_by list s)
  turned_by [] s p = p
  turned_by (pid ∷ pids) s p = runs_by (first_of pid s.pending) pid s.pending (record s { ready = pids }) refl p

  turns : (count : ℕ) (s : ClientFiles) → P s → P (turning.turns count s)
  turns zero s p = p
  turns (suc count) s p = turned_by (turning.turns count s).ready (turning.turns count s) (turns count s p)

  pub goes_on : (s : ClientFiles) → P s → P (turning.goes_on s)
  goes_on s p = turns (turning.turns_for s) s p

  -- What else the processes' side calls

  pub called_back : (tx : TxNo) (r : CallbackRequest) (s : ClientFiles) → P s → P (grants.called_back tx r s)
  called_back tx r s p = data_side.called_back came Q bears tx r s p

  pub due_goes : (file : FileId) (block : BlockNo) (s : ClientFiles) → P s → P (written.due_goes file block s)
  due_goes file block s p = data_side.due_goes came Q bears file block s p

  pub sets_cwd : (pid : ℕ) (path : Parts) (s : ClientFiles) → P s → P (streams.sets_cwd pid path s)
  sets_cwd pid path s p = data_side.sets_cwd came Q bears pid path s p

  -- Arrivals

  takes_carried : (list : List CarriedStream) (s : ClientFiles) → P s → P (arrivals.takes_carried list s)
  takes_carried [] s p = p
  takes_carried (stream ∷ list) s p = takes_carried list (asked.takes_some stream.grant s) (takes_some stream.grant s p)

  pub arrives : (pid : ℕ) (cwd : Parts) (list : List CarriedStream) (items : List Carried) (s : ClientFiles) → P s → P (arrivals.arrives pid cwd list items s)
  arrives pid cwd list items s p =
      let taken : ClientFiles = arrivals.takes_carried list s in
      let there : ClientFiles = streams.sets_cwd pid cwd taken in
      let so = data_side.sets_cwd came Q bears pid cwd taken (takes_carried list s p) in
      on_if (arrivals.can_arrive pid items there) _ there so so

-- where prefixes are learned

module _ (came : Input) (Q : Seen → Type 0) (bears : Bears came Q) where
  abbrev PQ : ClientFiles → Type 0
  PQ s = Q (seen_of s)

  learns : (prefix : Parts) (server : ℕ) (s : ClientFiles) → PQ s → PQ (lookups.learns prefix server s)
  learns prefix server s p = on_test came Q bears.telling (knows s.prefixes prefix) s _ (λ e. p) (λ e. bears.learns (seen_of s) prefix server e p)

  answers_name : (state : NameState) (pid : ℕ) (work : NameWork) (source : ℕ) (body : ReplyBody) (s : ClientFiles) → Leads came body → PQ s → PQ (asked.answers_name_by state pid work source body s)
  answers_name (name_states.Broadcasting tx prefix) pid work source body s leads p = looks_up came Q bears.telling pid work (lookups.learns prefix source s) (learns prefix source s p)
  answers_name (name_states.Echoing tx server) pid work source body s leads p = bears.telling.asks (seen_of s) pid work server p
  answers_name (name_states.Asking tx) pid work source body s leads p = ends_asked came Q bears.telling body pid work s leads p

  answered_by : (o : Option Pending) (pid source : ℕ) (body : ReplyBody) (s : ClientFiles) → Leads came body → PQ s → PQ (answering.answered_by o pid source body s)
  answered_by (Some (operations.Name call)) pid source body s leads p = answers_name call.state pid call.work source body s leads p
  answered_by (Some (operations.Data call)) pid source body s leads p = data_side.answered_in came Q bears.telling call.state pid call body s p
  answered_by (Some (operations.Sync call)) pid source body s leads p = data_side.kept_sync came Q bears.telling pid _ s p
  answered_by (Some (operations.Close work)) pid source body s leads p = data_side.close_answers came Q bears.telling (closing.closed_at_server work.state) pid work s p
  answered_by (Some (operations.Move work)) pid source body s leads p = answers_move came Q bears.telling body pid work s p
  answered_by None pid source body s leads p = p

  answered_first : (o : Option ℕ) (tx : TxNo) (source : ℕ) (body : ReplyBody) (s : ClientFiles) → Leads came body → PQ s → PQ (answering.answered_first o tx source body s)
  answered_first (Some pid) tx source body s leads p =
      on_if came Q bears.telling (name_answers.takes_end tx (first_of pid s.pending)) _ s (answered_by (first_of pid s.pending) pid source body (record s { pending = less_of pid s.pending }) leads (data_side.taken_out came Q bears.telling pid s.pending s p)) p
  answered_first None tx source body s leads p = p

  pub answered : (tx : TxNo) (source : ℕ) (body : ReplyBody) (s : ClientFiles) → came ≡ Replied tx source body → PQ s → PQ (answering.answered tx source body s)
  answered tx source body s is p =
      let leads : Leads came body = λ path e. Led tx source (is ∙ ap (λ (reply : ReplyBody). Replied tx source reply) e) in
      on_if came Q bears.telling (list_any (is_under same_call tx) s.write_backs) _ _ (data_side.written_back came Q bears.telling tx body s p) (answered_first (first_call tx s.txs) tx source body (record s { txs = less_call tx s.txs }) leads p)
