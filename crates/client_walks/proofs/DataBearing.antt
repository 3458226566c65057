-- The files' side of a client's kernel, but for names: its operations wait in no broadcast, its requests ask for no prefix, and nothing is
-- learned or told of one.
use Rattle.std.proofs.Common.{◌≡◌, ℕ, zero, ◌+◌, Bool, true, false, cond, List, [], ◌∷◌, ◌++◌, Option, Some, None, is_some, refl}
use Rattle.std.specs.List.{list_any}
use Rattle.sprite_ids.specs.declared.BlockNo.{BlockNo}
use Rattle.sprite_ids.specs.declared.CallKind.{CallKind}
use Rattle.sprite_ids.specs.declared.CallKind.TheVariants.{Recall, Stop}
use Rattle.sprite_ids.specs.declared.DeviceId.{DeviceId}
use Rattle.sprite_ids.specs.declared.FileId.{FileId}
use Rattle.sprite_ids.specs.declared.Grant.{Grant}
use Rattle.sprite_ids.specs.declared.Object.{Object}
use Rattle.sprite_ids.specs.declared.Object.TheVariants as objects
use Rattle.sprite_ids.specs.declared.StreamNo.{StreamNo}
use Rattle.sprite_ids.specs.declared.TxNo.{TxNo}
use Rattle.process_machine.specs.declared.Call.{Call}
use Rattle.process_machine.specs.declared.Reply.{Reply}
use Rattle.packet_bodies.specs.declared.CallbackRequest.{CallbackRequest}
use Rattle.packet_bodies.specs.declared.ReplyBody.{ReplyBody}
use Rattle.packet_bodies.specs.declared.ReplyBody.TheVariants as bodies
use Rattle.packet_bodies.specs.declared.ValueReply.{ValueReply}
use Rattle.kernel_steps.specs.Rows.{is_under}
use Rattle.kernel_steps.specs.declared.Input.{Input}
use Rattle.unix_calls.specs.declared.About.{About}
use Rattle.unix_calls.specs.declared.DropCause.{DropCause}
use Rattle.unix_calls.specs.declared.DropCause.TheVariants as causes
use Rattle.unix_calls.specs.declared.Entry.{Entry}
use Rattle.unix_calls.specs.declared.Event.{Event}
use Rattle.unix_calls.specs.declared.Event.TheVariants as events
use Rattle.unix_calls.specs.declared.SendKind.{SendKind}
use Rattle.unix_calls.specs.declared.SendKind.TheVariants as sendings
use Rattle.block_cache.specs.declared.Block.{Block}
use Rattle.block_cache.specs.declared.Filled.{Filled}
use Rattle.block_cache.specs.Blocks.{dirty_at}
use Rattle.block_cache.specs.Files as cached_files
use Rattle.block_cache.specs.Held as held
use Rattle.block_cache.specs.Held.{is_newer, is_written_back, write_back_next}
use Rattle.stream_table.specs.declared.Place.{Place}
use Rattle.stream_table.specs.declared.Place.TheVariants.{Local, Shared}
use Rattle.stream_table.specs.declared.Stream.{Stream}
use Rattle.stream_table.specs.Entries.{may_be_at}
use Rattle.stream_table.specs.Owners.{descriptor}
use Rattle.stream_table.specs.Streams.{closed_stream, is_last}
use Rattle.write_delay.specs.Delays.{listed}
use Rattle.client_file_tables.specs.declared.client_files.ClientFiles.{ClientFiles}
use Rattle.client_file_tables.specs.declared.extent.Extent.{Extent}
use Rattle.client_file_tables.specs.declared.moves.CloseWork.{CloseWork}
use Rattle.client_file_tables.specs.declared.moves.ClosingOf.{ClosingOf}
use Rattle.client_file_tables.specs.declared.moves.ClosingOf.TheVariants as closings
use Rattle.client_file_tables.specs.declared.moves.MoveWork.{MoveWork}
use Rattle.client_file_tables.specs.declared.pending.Pending.{Pending}
use Rattle.client_file_tables.specs.declared.pending.Pending.TheVariants as operations
use Rattle.client_file_tables.specs.declared.states.CloseState.{CloseState}
use Rattle.client_file_tables.specs.declared.states.CloseState.TheVariants as close_states
use Rattle.client_file_tables.specs.declared.states.DataState.{DataState}
use Rattle.client_file_tables.specs.declared.states.DataState.TheVariants as data_states
use Rattle.client_file_tables.specs.declared.states.MoveState.{MoveState}
use Rattle.client_file_tables.specs.declared.states.MoveState.TheVariants as move_states
use Rattle.client_file_tables.specs.declared.works.DataCall.{DataCall}
use Rattle.client_file_tables.specs.declared.works.DataKind.{DataKind}
use Rattle.client_file_tables.specs.declared.works.DataKind.TheVariants as kinds
use Rattle.client_file_tables.specs.declared.works.SyncCall.{SyncCall}
use Rattle.client_file_tables.specs.declared.works.WriteBackOut.{WriteBackOut}
use Rattle.client_file_tables.specs.Blocks as blocks
use Rattle.client_file_tables.specs.Blocks.{state_in, with_cache}
use Rattle.client_file_tables.specs.Fillers as fillers
use Rattle.client_file_tables.specs.Fillers.{is_filling}
use Rattle.client_file_tables.specs.Locks as locking
use Rattle.client_file_tables.specs.Locks.{gets_lock}
use Rattle.client_file_tables.specs.Rows.{first_call, first_of, less_call, less_of, same_pid}
use Rattle.client_file_tables.specs.Says as says
use Rattle.client_file_tables.specs.Says.{about_of}
use Rattle.client_file_tables.specs.Steps as steps
use Rattle.client_file_tables.specs.Streams as streams
use Rattle.client_file_tables.specs.Streams.{stream_at}
use Rattle.client_file_tables.specs.WriteBacks as backs
use Rattle.client_file_tables.specs.WriteBacks.{current_write_back}
use Rattle.client_data.specs.declared.plan.Plan.{Plan}
use Rattle.client_data.specs.declared.plan.Plan.TheVariants as plans
use Rattle.client_data.specs.Cached as cached
use Rattle.client_data.specs.Filling as filling
use Rattle.client_data.specs.Finishes as finishing
use Rattle.client_data.specs.Grants as grants
use Rattle.client_data.specs.Looks as looking
use Rattle.client_data.specs.Plans.{plan_of}
use Rattle.client_data.specs.Replies as replied
use Rattle.client_data.specs.ServerOps as server_ops
use Rattle.client_data.specs.Sync as syncing
use Rattle.client_data.specs.SyncAnswers as synced
use Rattle.client_data.specs.WriteBacks as written
use Rattle.client_streams.specs.Closing as closing
use Rattle.client_streams.specs.Descriptors as descriptors
use Rattle.client_streams.specs.Moving as moving
use Rattle.kernel_steps.specs.declared.Sending.{Sending}
use Rattle.call_journal.specs.Unreachable.{is_unreachable_entry}
use Rattle.client_facts.proofs.BlockLaws as block_laws
use Rattle.client_facts.proofs.BlockLaws.{SeesNoBlocks}
use Rattle.client_facts.proofs.LockLaws as turns
use Rattle.client_facts.proofs.LockLaws.{SeesNoTurns}
use Rattle.client_walks.proofs.Bearing.{BearsTelling, Seen, asks_none, is_quiet, seen_of}
use Rattle.client_walks.proofs.ReplyLaws.{Caused, NotSo, Safe}

module _ (came : Input) (Q : Seen → Type 0) (bears : BearsTelling came Q) where
  abbrev pub P : ClientFiles → Type 0
  P s = Q (seen_of s)

  pub on_if : (b : Bool) (s t : ClientFiles) → P s → P t → P (cond b s t)
  on_if true s t p q = p
  on_if false s t p q = q

  -- What is said, what goes out, and what waits

  noted : (event : Event) (s : ClientFiles) → is_quiet event ≡ true → P s → P (says.notes event s)
  noted event s h p = bears.tells (seen_of s) event h p

  pub entered : (entry : Entry) (s : ClientFiles) → Caused came (is_unreachable_entry entry) → P s → P (says.notes (events.Enter entry) s)
  entered entry s cause p = bears.enters (seen_of s) entry cause p

  pub answers_here : (about : About) (call : Call) (reply : Reply) (s : ClientFiles) → Safe reply → P s → P (says.answers_here about call reply s)
  answers_here about call reply s safe p = entered _ s (NotSo safe) p

  -- a request more
  pub sent : (sending : Sending) (kind : SendKind) (s : ClientFiles) → asks_none kind ≡ true → P s → P (says.sends sending kind s)
  sent sending kind s h p = bears.says (seen_of s) sending kind h p

  -- an operation more, which waits in no broadcast
  pub kept_data : (pid : ℕ) (call : DataCall) (s : ClientFiles) → P s → P (steps.keeps pid (operations.Data call) s)
  kept_data pid call s p = bears.keeps (seen_of s) pid (operations.Data call) refl p

  pub kept_sync : (pid : ℕ) (call : SyncCall) (s : ClientFiles) → P s → P (steps.keeps pid (operations.Sync call) s)
  kept_sync pid call s p = bears.keeps (seen_of s) pid (operations.Sync call) refl p

  pub kept_close : (pid : ℕ) (work : CloseWork) (s : ClientFiles) → P s → P (steps.keeps pid (operations.Close work) s)
  kept_close pid work s p = bears.keeps (seen_of s) pid (operations.Close work) refl p

  pub kept_move : (pid : ℕ) (work : MoveWork) (s : ClientFiles) → P s → P (steps.keeps pid (operations.Move work) s)
  kept_move pid work s p = bears.keeps (seen_of s) pid (operations.Move work) refl p

  -- an operation less, and one that is put back as it was
  pub taken_out : (pid : ℕ) (rows : List (ℕ × Pending)) (s : ClientFiles) → P (record s { pending = rows }) → P (record s { pending = less_of pid rows })
  taken_out pid rows s p = bears.left (seen_of (record s { pending = rows })) pid p

  pub puts_back : (pid : ℕ) (operation : Pending) (rows : List (ℕ × Pending)) (s : ClientFiles) → first_of pid rows ≡ Some operation → P (record s { pending = rows }) → P (record s { pending = less_of pid rows ++ (pid, operation) ∷ [] })
  puts_back pid operation rows s e p = bears.puts_back (seen_of (record s { pending = rows })) pid operation e p

  -- Locks and turns to fill aren't seen

  no_turns : SeesNoTurns P
  no_turns = record { streams = λ s streams p. p; waits = λ s rows p. p; fillers = λ s pids p. p; woken = λ s pid p. p }

  -- Nor are blocks, of which nothing is told that a prefix or a cause needs

  no_blocks : SeesNoBlocks P
  no_blocks = record {
    caches = λ s cache p. p;
    lists = λ s file block p. p;
    filled = λ s file block p. noted (events.Filled file block) s refl p;
    dirtied = λ s file block p. noted (events.Dirtied file block) s refl p;
    dropped = λ s file block p. noted (events.Dropped file block causes.Full) s refl p;
  }

  -- Streams

  pub moves_place : (stream : StreamNo) (place : Place) (s : ClientFiles) → P s → P (streams.moves_place stream place s)
  moves_place stream place s p = on_if (may_be_at place (stream_at stream s)) _ s p p

  moves_offset : (stream : StreamNo) (offset : ℕ) (s : ClientFiles) → P s → P (streams.moves_offset stream offset s)
  moves_offset stream offset s p = moves_place stream (Local offset) s p

  pub sets_cwd : (pid : ℕ) (path : List (List ℕ)) (s : ClientFiles) → P s → P (streams.sets_cwd pid path s)
  sets_cwd pid path s p = on_if (list_any (is_under same_pid pid) s.cwds) _ _ p p

  -- Blocks

  -- Blocks that are listed

  -- Grants and callbacks

  cleans_all : (list : List BlockNo) (file : FileId) (s : ClientFiles) → P s → P (grants.cleans_all file list s)
  cleans_all [] file s p = p
  cleans_all (block ∷ list) file s p = cleans_all list file (grants.cleans_one file block s) p

  drops_all : (list : List BlockNo) (file : FileId) (cause : DropCause) (s : ClientFiles) → P s → P (grants.drops_all file list cause s)
  drops_all [] file cause s p = p
  drops_all (block ∷ list) file cause s p = drops_all list file cause (grants.drops_one file block cause s) (noted (events.Dropped file block cause) (grants.cleans_one file block s) refl p)

  drops_unless : (stay : Bool) (file : FileId) (list : List BlockNo) (cause : DropCause) (s : ClientFiles) → P s → P (grants.drops_unless stay file list cause s)
  drops_unless stay file list cause s p = on_if stay s _ p (drops_all list file cause s p)

  takes_usable : (grant : Grant) (s : ClientFiles) → P s → P (grants.takes_usable grant s)
  takes_usable grant s p =
      let newer : ClientFiles = with_cache (held.after_grant s.cache grant) s in
      let event : Event = events.Mode grant.file grant.stamp (grants.mode_of_grant grant.on) in
      on_if (is_newer s.cache grant) _ s
      (drops_unless (cached_files.keeps (state_in grant.file s) grant) grant.file (grants.held_in grant.file s) (grants.cause_of_grant grant.on) (says.notes event newer) (noted event newer refl p))
      p

  pub takes_grant : (grant : Grant) (s : ClientFiles) → P s → P (grants.takes_grant grant s)
  takes_grant grant s p = takes_usable (grants.usable s.cache grant) s p

  settles_called : (kind : CallKind) (file : FileId) (dirty list : List BlockNo) (s : ClientFiles) → P s → P (grants.settles_called kind file dirty list s)
  settles_called Recall file dirty list s p = cleans_all dirty file s p
  settles_called Stop file dirty list s p = drops_all list file causes.Stop s p

  pub called_back : (tx : TxNo) (r : CallbackRequest) (s : ClientFiles) → P s → P (grants.called_back tx r s)
  called_back tx r s p =
      let taken : ClientFiles = grants.takes_callback r s in
      let noted_so : ClientFiles = grants.notes_mode r.file r.stamp taken in
      let settled : ClientFiles = grants.settles_called r.kind r.file (grants.dirty_in r.file s) (grants.held_in r.file s) noted_so in
      bears.answers (seen_of settled) tx _ refl (settles_called r.kind r.file (grants.dirty_in r.file s) (grants.held_in r.file s) noted_so (noted (events.Mode r.file r.stamp _) taken refl p))

  -- Operations that end

  finishes : (pid : ℕ) (stream : StreamNo) (s : ClientFiles) → P s → P (finishing.finishes pid stream s)
  finishes pid stream s p = turns.unlocks P no_turns stream (fillers.leaves_filling pid s) (turns.leaves_filling P no_turns pid s p)

  ends_here : (pid : ℕ) (call : DataCall) (reply : Reply) (s : ClientFiles) → Safe reply → P s → P (finishing.ends_here pid call reply s)
  ends_here pid call reply s safe p = finishes pid call.stream (says.answers_here (about_of pid call.number) _ reply s) (answers_here (about_of pid call.number) _ reply s safe p)

  ends_there : (pid : ℕ) (call : DataCall) (reply : Reply) (s : ClientFiles) → P s → P (finishing.ends_there pid call reply s)
  ends_there pid call reply s p = finishes pid call.stream (says.replies pid reply s) p

  -- In the cache

  reads_cached : (pid : ℕ) (call : DataCall) (extent : Extent) (s : ClientFiles) → P s → P (cached.reads_cached pid call extent s)
  reads_cached pid call extent s p =
      let used : ClientFiles = blocks.reads call.file extent s in
      ends_here pid call _ (streams.moves_offset call.stream (extent.from + extent.length) used) refl (moves_offset call.stream (extent.from + extent.length) used (block_laws.reads P no_blocks call.file extent s p))

  writes_cached : (pid : ℕ) (call : DataCall) (extent : Extent) (s : ClientFiles) → P s → P (cached.writes_cached pid call extent s)
  writes_cached pid call extent s p =
      let put : ClientFiles = cached.writes_bytes call extent.from s in
      let dirty : ClientFiles = backs.dirties_all call.file extent put in
      ends_here pid call _ (streams.moves_offset call.stream (extent.from + extent.length) dirty) refl
      (moves_offset call.stream (extent.from + extent.length) dirty (block_laws.dirties_all P no_blocks call.file extent put (block_laws.writes_by P no_blocks call.kind call.file extent.from s p)))

  does_cached : (pid : ℕ) (call : DataCall) (extent : Extent) (s : ClientFiles) → P s → P (cached.does_cached pid call extent s)
  does_cached pid call extent s p = on_if (cached.is_write call.kind) _ _ (writes_cached pid call extent s p) (reads_cached pid call extent s p)

  -- Blocks that are needed

  pub sends_back : (file : FileId) (block : BlockNo) (number : ℕ) (about : Option About) (s : ClientFiles) → P s → P (written.sends_back file block number about s)
  sends_back file block number about s p = sent (written.write_back_sending file block about s) (sendings.WriteBack file block) s refl p

  fetches : (pid : ℕ) (call : DataCall) (block : BlockNo) (s : ClientFiles) → P s → P (filling.fetches pid call block s)
  fetches pid call block s p = kept_data pid _ (filling.sends_fetch pid call block s) (sent (filling.fetch_sending pid call block s) (sendings.Fetch call.file block) s refl p)

  waits_by : (o : Option TxNo) (pid : ℕ) (call : DataCall) (file : FileId) (block : BlockNo) (number : ℕ) (s : ClientFiles) → P s → P (filling.waits_by o pid call file block number s)
  waits_by (Some tx) pid call file block number s p = kept_data pid _ s p
  waits_by None pid call file block number s p = kept_data pid _ (written.sends_back file block number (Some (about_of pid call.number)) s) (sends_back file block number (Some (about_of pid call.number)) s p)

  waits_oldest : (o : Option (FileId × BlockNo × ℕ)) (pid : ℕ) (call : DataCall) (s : ClientFiles) → P s → P (filling.waits_oldest o pid call s)
  waits_oldest (Some oldest) pid call s p = waits_by (current_write_back oldest.0 oldest.1 s) pid call oldest.0 oldest.1 oldest.2 s p
  waits_oldest None pid call s p = kept_data pid _ s p

  needs_first : (o : Option BlockNo) (pid : ℕ) (call : DataCall) (extent : Extent) (s : ClientFiles) → P s → P (filling.needs_first o pid call extent s)
  needs_first (Some block) pid call extent s p =
      let roomy : ClientFiles = filling.makes_room call.file extent s in
      let so = block_laws.makes_room P no_blocks call.file extent s p in
      on_if (filling.gets_room call.file extent s) _ _ (fetches pid call block roomy so) (waits_oldest (write_back_next roomy.cache None) pid call roomy so)
  needs_first None pid call extent s p = does_cached pid call extent s p

  fills_own : (pid : ℕ) (call : DataCall) (extent : Extent) (s : ClientFiles) → P s → P (filling.fills_own pid call extent s)
  fills_own pid call extent s p =
      let filled : ClientFiles = filling.fills_zeros call.file extent s in
      needs_first (cached.missing_of call extent filled) pid call extent filled (block_laws.fills_zeros P no_blocks call.file extent s p)

  fills_first : (pid : ℕ) (call : DataCall) (extent : Extent) (s : ClientFiles) → P s → P (filling.fills_first pid call extent s)
  fills_first pid call extent s p =
      let begun : ClientFiles = fillers.begins_filling pid s in
      let so = turns.begins_filling P no_turns pid s p in
      on_if (is_filling pid begun) _ _ (fills_own pid call extent begun so) (kept_data pid _ begun so)

  -- Operations that look at everything anew

  uses_by : (o : Option BlockNo) (pid : ℕ) (call : DataCall) (extent : Extent) (s : ClientFiles) → P s → P (looking.uses_by o pid call extent s)
  uses_by (Some block) pid call extent s p = fills_first pid call extent s p
  uses_by None pid call extent s p = does_cached pid call extent s p

  does : (plan : Plan) (pid : ℕ) (call : DataCall) (append : Bool) (s : ClientFiles) → P s → P (looking.does plan pid call append s)
  does (plans.Seek to) pid call append s p = ends_here pid call _ (streams.moves_offset call.stream to s) refl (moves_offset call.stream to s p)
  does plans.Refuse pid call append s p = ends_here pid call _ s refl p
  does (plans.Ask offset) pid call append s p = let left : ClientFiles = fillers.leaves_filling pid s in kept_data pid _ (server_ops.sends_op pid call offset append left) (sent (server_ops.op_sending pid call offset append left) (sendings.Op call.file) left refl (turns.leaves_filling P no_turns pid s p))
  does (plans.Tell size) pid call append s p = ends_here pid call _ s refl p
  does (plans.Use extent) pid call append s p = uses_by (cached.missing_of call extent s) pid call extent s p

  looks_by : (o : Option Stream) (pid : ℕ) (call : DataCall) (s : ClientFiles) → P s → P (looking.looks_by o pid call s)
  looks_by (Some stream) pid call s p = does (plan_of call stream s) pid call stream.append s p
  looks_by None pid call s p = kept_data pid _ s p

  pub looks : (pid : ℕ) (call : DataCall) (s : ClientFiles) → P s → P (looking.looks pid call s)
  looks pid call s p =
      let locked : ClientFiles = locking.locks pid call.stream s in
      let so = turns.locks P no_turns pid call.stream s p in
      on_if (gets_lock pid call.stream s) _ _ (looks_by (stream_at call.stream locked) pid call locked so) (kept_data pid _ locked so)

  -- Answers to them

  moves_here : (kind : DataKind) (stream : StreamNo) (offset : ℕ) (append : Bool) (value : ValueReply) (s : ClientFiles) → P s → P (replied.moves_here kind stream offset append value s)
  moves_here (kinds.Read many) stream offset append value s p = moves_offset stream (offset + value.first) s p
  moves_here (kinds.Write bytes) stream offset append value s p = on_if append _ _ (moves_offset stream value.second s p) (moves_offset stream (offset + value.first) s p)
  moves_here (kinds.Seek to) stream offset append value s p = p
  moves_here kinds.Size stream offset append value s p = p

  moves_from : (place : Place) (call : DataCall) (append : Bool) (value : ValueReply) (s : ClientFiles) → P s → P (replied.moves_from place call append value s)
  moves_from (Local offset) call append value s p = moves_here call.kind call.stream offset append value s p
  moves_from Shared call append value s p = p

  moves_in : (o : Option Stream) (call : DataCall) (value : ValueReply) (s : ClientFiles) → P s → P (replied.moves_in o call value s)
  moves_in (Some stream) call value s p = moves_from stream.place call stream.append value s p
  moves_in None call value s p = p

  served : (body : ReplyBody) (pid : ℕ) (call : DataCall) (s : ClientFiles) → P s → P (replied.served pid call body s)
  served (bodies.Again grant) pid call s p = looks pid call (grants.takes_grant grant s) (takes_grant grant s p)
  served (bodies.Refused errno) pid call s p = ends_there pid call _ s p
  served (bodies.Value value) pid call s p = ends_there pid call _ (replied.moves_by call value s) (moves_in (stream_at call.stream s) call value s p)
  served body pid call s p = kept_data pid _ s p

  takes_block : (body : ReplyBody) (file : FileId) (block : BlockNo) (s : ClientFiles) → P s → P (replied.takes_block file block body s)
  takes_block (bodies.Block stamp bytes) file block s p = block_laws.fills P no_blocks file stamp block bytes s p
  takes_block (bodies.Again grant) file block s p = takes_grant grant s p
  takes_block body file block s p = p

  pub answered_in : (state : DataState) (pid : ℕ) (call : DataCall) (body : ReplyBody) (s : ClientFiles) → P s → P (replied.answered_in state pid call body s)
  answered_in (data_states.Fetching tx block) pid call body s p = looks pid call (replied.takes_block call.file block body s) (takes_block body call.file block s p)
  answered_in (data_states.AtServer tx) pid call body s p = served body pid call s p
  answered_in data_states.WaitLock pid call body s p = kept_data pid _ s p
  answered_in data_states.Turn pid call body s p = kept_data pid _ s p
  answered_in (data_states.Room tx) pid call body s p = kept_data pid _ s p

  -- Syncs

  syncs_dirty : (o : Option ℕ) (pid : ℕ) (call : SyncCall) (block : BlockNo) (s : ClientFiles) → P s → P (syncing.syncs_dirty pid call block o s)
  syncs_dirty (Some number) pid call block s p = kept_sync pid _ (says.expects pid s.out.next (written.sends_back call.file block number (Some (about_of pid call.number)) s)) (sends_back call.file block number (Some (about_of pid call.number)) s p)
  syncs_dirty None pid call block s p = kept_sync pid _ s p

  syncs_out : (o : Option TxNo) (pid : ℕ) (call : SyncCall) (block : BlockNo) (s : ClientFiles) → P s → P (syncing.syncs_out pid call block o s)
  syncs_out (Some tx) pid call block s p = kept_sync pid _ s p
  syncs_out None pid call block s p = syncs_dirty (dirty_at s.cache.blocks call.file block.0) pid call block s p

  syncs_first : (o : Option BlockNo) (pid : ℕ) (call : SyncCall) (s : ClientFiles) → P s → P (syncing.syncs_first pid call o s)
  syncs_first (Some block) pid call s p = syncs_out (current_write_back call.file block s) pid call block s p
  syncs_first None pid call s p = entered _ s (NotSo refl) p

  pub syncs : (pid : ℕ) (call : SyncCall) (s : ClientFiles) → P s → P (syncing.syncs pid call s)
  syncs pid call s p =
      let left : SyncCall = record call { todo = syncing.dirty_of call.file s call.todo } in
      syncs_first (syncing.first_todo left.todo) pid left s p

  -- Write-backs

  -- the operation of the process, which was taken out of those rows, goes on
  go_on_by : (operation : Pending) (pid : ℕ) (body : ReplyBody) (rows : List (ℕ × Pending)) (s : ClientFiles) → first_of pid rows ≡ Some operation → P (record s { pending = rows }) → P (synced.go_on_by pid operation body (record s { pending = less_of pid rows }))
  go_on_by (operations.Sync call) pid body rows s e p = kept_sync pid _ (record s { pending = less_of pid rows }) (taken_out pid rows s p)
  go_on_by (operations.Name call) pid body rows s e p = puts_back pid (operations.Name call) rows s e p
  go_on_by (operations.Data call) pid body rows s e p = puts_back pid (operations.Data call) rows s e p
  go_on_by (operations.Close work) pid body rows s e p = puts_back pid (operations.Close work) rows s e p
  go_on_by (operations.Move work) pid body rows s e p = puts_back pid (operations.Move work) rows s e p

  go_on_first : (o : Option Pending) (pid : ℕ) (body : ReplyBody) (rows : List (ℕ × Pending)) (s : ClientFiles) → first_of pid rows ≡ o → P (record s { pending = rows }) → P (synced.go_on_first pid o body (record s { pending = less_of pid rows }))
  go_on_first (Some operation) pid body rows s e p = go_on_by operation pid body rows s e p
  go_on_first None pid body rows s e p = taken_out pid rows s p

  answers_by : (o : Option ℕ) (body : ReplyBody) (s : ClientFiles) → P s → P (synced.answers_by o body s)
  answers_by (Some pid) body s p = go_on_first (first_of pid s.pending) pid body s.pending s refl p
  answers_by None body s p = p

  answers_sync : (tx : TxNo) (body : ReplyBody) (s : ClientFiles) → P s → P (synced.answers_sync tx body s)
  answers_sync tx body s p = answers_by (first_call tx s.txs) body (record s { txs = less_call tx s.txs }) p

  due_by : (o : Option ℕ) (file : FileId) (block : BlockNo) (s : ClientFiles) → P s → P (written.due_by o file block s)
  due_by (Some number) file block s p = sends_back file block number None s p
  due_by None file block s p = p

  pub due_goes : (file : FileId) (block : BlockNo) (s : ClientFiles) → P s → P (written.due_goes file block s)
  due_goes file block s p = due_by (dirty_at s.cache.blocks file block.0) file block s p

  cleans_back : (back : WriteBackOut) (s : ClientFiles) → P s → P (written.cleans_back back s)
  cleans_back back s p =
      let cleaned : ClientFiles = with_cache (held.after_write_back s.cache back.file back.stamp back.block.0 back.number) s in
      on_if (is_written_back s.cache back.file back.stamp back.block.0 back.number) _ cleaned (noted (events.WroteBack back.file back.block) cleaned refl p) p

  settles_back : (body : ReplyBody) (back : WriteBackOut) (s : ClientFiles) → P s → P (written.settles_back body back s)
  settles_back (bodies.Again grant) back s p = takes_grant grant s p
  settles_back body back s p = cleans_back back s p

  lists_again : (o : Option ℕ) (file : FileId) (block : BlockNo) (s : ClientFiles) → P s → P (written.lists_by o file block s)
  lists_again (Some number) file block s p = on_if (listed s.delay file block) s _ p (block_laws.lists_free P no_blocks file block s p)
  lists_again None file block s p = p

  done_first : (o : Option WriteBackOut) (tx : TxNo) (body : ReplyBody) (s : ClientFiles) → P s → P (written.done_first tx body o s)
  done_first (Some back) tx body s p =
      let settled : ClientFiles = written.settles_back body back s in
      let again : ClientFiles = written.lists_again back.file back.block settled in
      answers_sync tx body (steps.wakes_all tx again) (lists_again (dirty_at settled.cache.blocks back.file back.block.0) back.file back.block settled (settles_back body back s p))
  done_first None tx body s p = p

  pub written_back : (tx : TxNo) (body : ReplyBody) (s : ClientFiles) → P s → P (written.written_back tx body s)
  written_back tx body s p = done_first (first_call tx s.write_backs) tx body (record s { write_backs = less_call tx s.write_backs }) p

  -- Closes

  enters_closed : (cause : ClosingOf) (pid : ℕ) (s : ClientFiles) → P s → P (closing.enters_closed pid cause s)
  enters_closed (closings.Call number fd) pid s p = entered _ s (NotSo refl) p
  enters_closed (closings.End about) pid s p = p

  ends_closing : (cause : ClosingOf) (pid : ℕ) (s : ClientFiles) → P s → P (closing.ends_closing pid cause s)
  ends_closing (closings.Call number fd) pid s p = p
  ends_closing (closings.End about) pid s p = p

  closes_rest : (fds : List ℕ) (pid : ℕ) (cause : ClosingOf) (s : ClientFiles) → P s → P (closing.closes_rest fds pid cause s)
  closes_rest [] pid cause s p = ends_closing cause pid s p
  closes_rest (fd ∷ fds) pid cause s p = kept_close pid _ s p

  closes_last : (o : Option (StreamNo × Stream)) (pid : ℕ) (work : CloseWork) (number : StreamNo) (file : FileId) (s : ClientFiles) → P s → P (closing.closes_last pid work number file o s)
  closes_last (Some last) pid work number file s p = let many : ℕ = last.1.grants in kept_close pid _ (says.sends_for pid (closing.close_to pid work.of number file many) sendings.Other s) (sent (closing.close_to pid work.of number file many) sendings.Other s refl p)
  closes_last None pid work number file s p = closes_rest work.fds pid work.of (locking.unlocks number s) (turns.unlocks P no_turns number s p)

  closes_file : (pid : ℕ) (work : CloseWork) (fd : ℕ) (number : StreamNo) (file : FileId) (s : ClientFiles) → P s → P (closing.closes_file pid work fd number file s)
  closes_file pid work fd number file s p =
      let locked : ClientFiles = locking.locks pid number s in
      let so = turns.locks P no_turns pid number s p in
      on_if (gets_lock pid number s) _ _
      (closes_last (closed_stream locked.streams pid fd) pid (closing.without_first work) number file (closing.enters_closed pid work.of (descriptors.drops pid fd locked)) (enters_closed work.of pid (descriptors.drops pid fd locked) so))
      (kept_close pid _ locked so)

  reports_last : (b : Bool) (device : DeviceId) (s : ClientFiles) → P s → P (closing.reports_last b device s)
  reports_last true device s p = p
  reports_last false device s p = p

  closes_object : (object : Object) (pid : ℕ) (work : CloseWork) (fd : ℕ) (number : StreamNo) (s : ClientFiles) → P s → P (closing.closes_object pid work fd number object s)
  closes_object (objects.File file) pid work fd number s p = closes_file pid work fd number file s p
  closes_object (objects.Device device) pid work fd number s p =
      let dropped : ClientFiles = descriptors.drops pid fd s in
      closes_rest (closing.without_first work).fds pid work.of (closing.enters_closed pid work.of dropped) (enters_closed work.of pid dropped p)
  closes_object (objects.Master device) pid work fd number s p =
      let dropped : ClientFiles = descriptors.drops pid fd s in
      let closed : ClientFiles = closing.enters_closed pid work.of dropped in
      closes_rest (closing.without_first work).fds pid work.of (closing.reports_last (is_last s.streams pid fd) device closed) (reports_last (is_last s.streams pid fd) device closed (enters_closed work.of pid dropped p))

  closes_stream_by : (o : Option Stream) (pid : ℕ) (work : CloseWork) (fd : ℕ) (number : StreamNo) (s : ClientFiles) → P s → P (closing.closes_stream_by pid work fd number o s)
  closes_stream_by (Some stream) pid work fd number s p = closes_object stream.object pid work fd number s p
  closes_stream_by None pid work fd number s p = closes_rest (closing.without_first work).fds pid work.of s p

  closes_first_by : (o : Option StreamNo) (pid : ℕ) (work : CloseWork) (fd : ℕ) (s : ClientFiles) → P s → P (closing.closes_first_by pid work fd o s)
  closes_first_by (Some number) pid work fd s p = closes_stream_by (stream_at number s) pid work fd number s p
  closes_first_by None pid work fd s p = closes_rest (closing.without_first work).fds pid work.of s p

  closes_next_by : (o : Option ℕ) (pid : ℕ) (work : CloseWork) (s : ClientFiles) → P s → P (closing.closes_next_by pid work o s)
  closes_next_by (Some fd) pid work s p = closes_first_by (descriptor s.streams.owners pid fd) pid work fd s p
  closes_next_by None pid work s p = ends_closing work.of pid s p

  pub runs_close : (state : CloseState) (pid : ℕ) (work : CloseWork) (s : ClientFiles) → P s → P (closing.runs_close_by state pid work s)
  runs_close close_states.WaitLock pid work s p = closes_next_by _ pid work s p
  runs_close (close_states.Closing tx stream) pid work s p = kept_close pid _ s p

  pub close_answers : (o : Option StreamNo) (pid : ℕ) (work : CloseWork) (s : ClientFiles) → P s → P (closing.close_answers_by o pid work s)
  close_answers (Some stream) pid work s p = closes_rest work.fds pid work.of (locking.unlocks stream s) (turns.unlocks P no_turns stream s p)
  close_answers None pid work s p = kept_close pid _ s p

  -- Moves

  moves_object : (object : Object) (pid : ℕ) (work : MoveWork) (stream : Stream) (s : ClientFiles) → P s → P (moving.moves_object_by object pid work stream s)
  moves_object (objects.File file) pid work stream s p =
      let locked : ClientFiles = locking.locks pid work.stream s in
      let so = turns.locks P no_turns pid work.stream s p in
      let dropped : ClientFiles = descriptors.drops_each pid work.stream locked in
      let request : Sending = moving.move_to work stream file (is_some (stream_at work.stream dropped)) in
      on_if (gets_lock pid work.stream s) _ _ (kept_move pid _ (says.sends_for pid request sendings.Other dropped) (sent request sendings.Other dropped refl (turns.drops_each P no_turns pid work.stream locked so))) (kept_move pid _ locked so)
  moves_object (objects.Device device) pid work stream s p = turns.drops_each P no_turns pid work.stream s p
  moves_object (objects.Master device) pid work stream s p = turns.drops_each P no_turns pid work.stream s p

  moves_on_by : (o : Option Stream) (pid : ℕ) (work : MoveWork) (s : ClientFiles) → P s → P (moving.moves_on_by o pid work s)
  moves_on_by (Some stream) pid work s p = moves_object stream.object pid work stream s p
  moves_on_by None pid work s p = p

  pub runs_move : (state : MoveState) (pid : ℕ) (work : MoveWork) (s : ClientFiles) → P s → P (moving.runs_move_by state pid work s)
  runs_move move_states.WaitLock pid work s p = moves_on_by (stream_at work.stream s) pid work s p
  runs_move (move_states.MovingOut tx stays place) pid work s p = kept_move pid _ s p

  shares : (stays : Bool) (number : StreamNo) (s : ClientFiles) → P s → P (moving.shares stays number s)
  shares stays number s p = on_if stays _ s (moves_place number Shared s p) p

  pub move_answers : (o : Option (Bool × Place)) (pid : ℕ) (work : MoveWork) (grant : Option Grant) (many : ℕ) (s : ClientFiles) → P s → P (moving.move_answers_by o pid work grant many s)
  move_answers (Some out) pid work grant many s p = turns.unlocks P no_turns work.stream (moving.shares out.0 work.stream s) (shares out.0 work.stream s p)
  move_answers None pid work grant many s p = kept_move pid _ s p
