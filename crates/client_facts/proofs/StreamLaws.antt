-- Syncs, closes and moves, when they run.
use Rattle.std.proofs.Common.{arith, ◌≡◌, ℕ, zero, suc, ◌+◌, ◌≤◌, nat_le, Bool, true, false, List, [], ◌∷◌, ◌++◌, length, Option, Some, None, is_some, refl, ap, slice_get}
use Rattle.std.proofs.lemmas.Bool.{le-leb, leb-true}
use Rattle.std.specs.List.{remove}
use Rattle.sprite_ids.specs.declared.FileId.{FileId}
use Rattle.sprite_ids.specs.declared.BlockNo.{BlockNo}
use Rattle.sprite_ids.specs.declared.DeviceId.{DeviceId}
use Rattle.sprite_ids.specs.declared.Object.{Object}
use Rattle.sprite_ids.specs.declared.Object.TheVariants as objects
use Rattle.sprite_ids.specs.declared.StreamNo.{StreamNo}
use Rattle.sprite_ids.specs.declared.TxNo.{TxNo}
use Rattle.block_cache.specs.Blocks.{dirty_at}
use Rattle.stream_table.specs.declared.Place.{Place}
use Rattle.stream_table.specs.declared.Stream.{Stream}
use Rattle.stream_table.specs.Owners.{descriptor}
use Rattle.stream_table.specs.Streams.{closed_stream, is_last}
use Rattle.unix_calls.specs.declared.SendKind.TheVariants.{Other}
use Rattle.client_file_tables.specs.declared.client_files.ClientFiles.{ClientFiles}
use Rattle.client_file_tables.specs.declared.moves.ClosingOf.{ClosingOf}
use Rattle.client_file_tables.specs.declared.moves.ClosingOf.TheVariants as closings
use Rattle.client_file_tables.specs.declared.moves.CloseWork.{CloseWork}
use Rattle.client_file_tables.specs.declared.moves.MoveWork.{MoveWork}
use Rattle.client_file_tables.specs.declared.pending.Pending.{Pending}
use Rattle.client_file_tables.specs.declared.pending.Pending.TheVariants as operations
use Rattle.client_file_tables.specs.declared.states.CloseState.{CloseState}
use Rattle.client_file_tables.specs.declared.states.CloseState.TheVariants as closes
use Rattle.client_file_tables.specs.declared.states.MoveState.{MoveState}
use Rattle.client_file_tables.specs.declared.states.MoveState.TheVariants as moves
use Rattle.client_file_tables.specs.declared.works.SyncCall.{SyncCall}
use Rattle.client_file_tables.specs.Locks.{gets_lock, locks, unlocks}
use Rattle.client_file_tables.specs.Rows.{same_stream}
use Rattle.client_file_tables.specs.Says.{about_of, expects, sends_for}
use Rattle.client_file_tables.specs.Steps.{keeps}
use Rattle.client_file_tables.specs.Streams.{stream_at}
use Rattle.client_file_tables.specs.WriteBacks.{current_write_back}
use Rattle.client_data.specs.Sync as syncs
use Rattle.client_data.specs.WriteBacks.{sends_back}
use Rattle.client_streams.specs.Closing as closing
use Rattle.client_streams.specs.Descriptors.{descriptor_count, drops, drops_by, drops_each, drops_under}
use Rattle.client_streams.specs.Moving as moving
use Rattle.client_facts.proofs.CalmLaws.{Calm, calm_closed, calm_if, calm_join, calm_same, calm_self, calm_sends_back}
use Rattle.client_facts.proofs.CostLaws.{Ends, Ran, ends_calm, ends_join, length_pushed, ran_after, ran_ended, ran_if, ran_kept, worth_calm, worth_ends}
use Rattle.client_facts.proofs.DataLaws.{calm_locks, ends_unlocks}

-- Syncs

ran_synced : (pid : ℕ) (call new : SyncCall) (s u : ClientFiles) → Calm s u → Ran pid (operations.Sync call) s (keeps pid (operations.Sync new) u)
ran_synced pid call new s u h = ran_kept pid 0 (operations.Sync call) (operations.Sync new) s u (ends_calm pid s u h) (omega arith) (λ h. h)

ran_syncs_dirty : (o : Option ℕ) (pid : ℕ) (old call : SyncCall) (block : BlockNo) (s : ClientFiles) → Ran pid (operations.Sync old) s (syncs.syncs_dirty pid call block o s)
ran_syncs_dirty (Some number) pid old call block s =
    let sent : ClientFiles = sends_back call.file block number (Some (about_of pid call.number)) s in
    let expected : ClientFiles = expects pid s.out.next sent in
    ran_synced pid old _ s expected (calm_join s sent expected (calm_sends_back call.file block number _ s) (calm_same sent expected refl refl refl refl refl refl))
ran_syncs_dirty None pid old call block s = ran_synced pid old _ s s (calm_self s)

ran_syncs_out : (o : Option TxNo) (pid : ℕ) (old call : SyncCall) (block : BlockNo) (s : ClientFiles) → Ran pid (operations.Sync old) s (syncs.syncs_out pid call block o s)
ran_syncs_out (Some tx) pid old call block s = ran_synced pid old _ s s (calm_self s)
ran_syncs_out None pid old call block s = ran_syncs_dirty (dirty_at s.cache.blocks call.file block.0) pid old call block s

ran_syncs_first : (o : Option BlockNo) (pid : ℕ) (old call : SyncCall) (s : ClientFiles) → Ran pid (operations.Sync old) s (syncs.syncs_first pid call o s)
ran_syncs_first (Some block) pid old call s = ran_syncs_out (current_write_back call.file block s) pid old call block s
ran_syncs_first None pid old call s =
    let ended : ClientFiles = syncs.ends_sync pid call s in
    ran_ended pid 0 (operations.Sync old) s ended (ends_calm pid s ended (calm_same s ended refl refl refl refl refl refl)) (omega arith)

pub ran_syncs : (pid : ℕ) (call : SyncCall) (s : ClientFiles) → Ran pid (operations.Sync call) s (syncs.syncs pid call s)
ran_syncs pid call s =
    let left : SyncCall = record call { todo = syncs.dirty_of call.file s call.todo } in
    ran_syncs_first (syncs.first_todo left.todo) pid call left s

-- Closes

calm_enters_closed : (cause : ClosingOf) (pid : ℕ) (s : ClientFiles) → Calm s (closing.enters_closed pid cause s)
calm_enters_closed (closings.Call number fd) pid s = calm_same s _ refl refl refl refl refl refl
calm_enters_closed (closings.End about) pid s = calm_self s

pub calm_ends_closing : (cause : ClosingOf) (pid : ℕ) (s : ClientFiles) → Calm s (closing.ends_closing pid cause s)
calm_ends_closing (closings.Call number fd) pid s = calm_same s _ refl refl refl refl refl refl
calm_ends_closing (closings.End about) pid s = calm_same s _ refl refl refl refl refl refl

calm_reports_last : (b : Bool) (device : DeviceId) (s : ClientFiles) → Calm s (closing.reports_last b device s)
calm_reports_last true device s = calm_same s _ refl refl refl refl refl refl
calm_reports_last false device s = calm_self s

fewer_fds : (left fds : List ℕ) → suc (length left) ≡ length fds → nat_le (length fds) 16 ≡ true → nat_le (length left) 16 ≡ true
fewer_fds left fds one few = (let most = leb-true (length fds) 16 few in le-leb (length left) 16 (omega arith))

-- the close of one descriptor is done: it wakes itself for the next one, or has ended
ran_closes_rest : (fds : List ℕ) (pid many : ℕ) (work : CloseWork) (cause : ClosingOf) (s u : ClientFiles) → suc (length fds) ≡ length work.fds → many ≤ 1 → Ends pid many s u → Ran pid (operations.Close work) s (closing.closes_rest fds pid cause u)
ran_closes_rest [] pid many work cause s u e few h =
    let ended : ClientFiles = closing.ends_closing pid cause u in
    ran_ended pid (many + 0) (operations.Close work) s ended (ends_join pid many 0 s u ended h (ends_calm pid u ended (calm_ends_closing cause pid u))) (omega arith)
ran_closes_rest (fd ∷ fds) pid many work cause s u e few h = record {
  kept = Some (operations.Close (closing.closing cause (fd ∷ fds)));
  pending = ap (λ (rows : List (ℕ × Pending)). rows ++ (pid, operations.Close (closing.closing cause (fd ∷ fds))) ∷ []) h.pending;
  others = worth_ends pid many s u h;
  spent = (let one = length_pushed u.ready pid in let first = h.few in omega arith);
  queues = h.queues;
  turns = h.turns;
  few = fewer_fds (fd ∷ fds) work.fds e;
}

module _ (pid : ℕ) (work : CloseWork) (fd : ℕ) (one : suc (length (closing.without_first work).fds) ≡ length work.fds) where
  ran_closes_on : (many : ℕ) (s u : ClientFiles) → many ≤ 1 → Ends pid many s u → Ran pid (operations.Close work) s (closing.closes_on pid (closing.without_first work) u)
  ran_closes_on many s u few h = ran_closes_rest (closing.without_first work).fds pid many work work.of s u one few h

  ran_closes_calm : (s u : ClientFiles) → Calm s u → Ran pid (operations.Close work) s (closing.closes_on pid (closing.without_first work) u)
  ran_closes_calm s u h = ran_closes_on 0 s u (omega arith) (ends_calm pid s u h)

  -- the descriptor was dropped, and the close of it noted
  calm_dropped : (s : ClientFiles) → Calm s (closing.enters_closed pid work.of (drops pid fd s))
  calm_dropped s = calm_join s (drops pid fd s) _ (calm_closed s pid fd) (calm_enters_closed work.of pid (drops pid fd s))

  ran_closes_last : (o : Option (StreamNo × Stream)) (number : StreamNo) (file : FileId) (s u : ClientFiles) → Calm s u → Ran pid (operations.Close work) s (closing.closes_last pid (closing.without_first work) number file o u)
  ran_closes_last (Some last) number file s u h =
      let sent : ClientFiles = sends_for pid (closing.close_to pid work.of number file last.1.grants) Other u in
      ran_kept pid 0 (operations.Close work) _ s sent (ends_calm pid s sent (calm_join s u sent h (calm_same u sent refl refl refl refl refl refl))) (omega arith) (fewer_fds (closing.without_first work).fds work.fds one)
  ran_closes_last None number file s u h =
      ran_closes_on 1 s (unlocks number u) (omega arith) (ends_join pid 0 1 s u _ (ends_calm pid s u h) (ends_unlocks pid number u))

  ran_closes_locked : (number : StreamNo) (file : FileId) (s : ClientFiles) → Ran pid (operations.Close work) s (closing.closes_locked pid work fd number file s)
  ran_closes_locked number file s = ran_closes_last (closed_stream s.streams pid fd) number file s (closing.enters_closed pid work.of (drops pid fd s)) (calm_dropped s)

  ran_closes_file : (number : StreamNo) (file : FileId) (s : ClientFiles) → Ran pid (operations.Close work) s (closing.closes_file pid work fd number file s)
  ran_closes_file number file s =
      let locked : ClientFiles = locks pid number s in
      let so = calm_locks pid number s in
      ran_if (gets_lock pid number s) pid (operations.Close work) s _ _
      (ran_after pid (operations.Close work) s locked _ so (ran_closes_locked number file locked))
      (ran_kept pid 0 (operations.Close work) (operations.Close work) s locked (ends_calm pid s locked so) (let less = worth_calm pid (operations.Close work) s locked so in omega arith) (λ h. h))

  ran_closes_object : (object : Object) (number : StreamNo) (s : ClientFiles) → Ran pid (operations.Close work) s (closing.closes_object pid work fd number object s)
  ran_closes_object (objects.File file) number s = ran_closes_file number file s
  ran_closes_object (objects.Device device) number s = ran_closes_calm s _ (calm_dropped s)
  ran_closes_object (objects.Master device) number s =
      let dropped : ClientFiles = closing.enters_closed pid work.of (drops pid fd s) in
      ran_closes_calm s _ (calm_join s dropped _ (calm_dropped s) (calm_reports_last (is_last s.streams pid fd) device dropped))

  ran_closes_stream : (o : Option Stream) (number : StreamNo) (s : ClientFiles) → Ran pid (operations.Close work) s (closing.closes_stream_by pid work fd number o s)
  ran_closes_stream (Some stream) number s = ran_closes_object stream.object number s
  ran_closes_stream None number s = ran_closes_calm s s (calm_self s)

  ran_closes_first : (o : Option StreamNo) (s : ClientFiles) → Ran pid (operations.Close work) s (closing.closes_first_by pid work fd o s)
  ran_closes_first (Some number) s = ran_closes_stream (stream_at number s) number s
  ran_closes_first None s = ran_closes_calm s s (calm_self s)

first_gone : (fds : List ℕ) (fd : ℕ) → slice_get fds 0 ≡ Some fd → suc (length (remove fds 0)) ≡ length fds
first_gone [] fd e = absurd (cc)
first_gone (first ∷ rest) fd e = refl

ran_closes_next : (o : Option ℕ) (pid : ℕ) (work : CloseWork) (s : ClientFiles) → slice_get work.fds 0 ≡ o → Ran pid (operations.Close work) s (closing.closes_next_by pid work o s)
ran_closes_next (Some fd) pid work s e = ran_closes_first pid work fd (first_gone work.fds fd e) (descriptor s.streams.owners pid fd) s
ran_closes_next None pid work s e =
    let ended : ClientFiles = closing.ends_closing pid work.of s in
    ran_ended pid 0 (operations.Close work) s ended (ends_calm pid s ended (calm_ends_closing work.of pid s)) (omega arith)

ran_close_by : (state : CloseState) (pid : ℕ) (work : CloseWork) (s : ClientFiles) → Ran pid (operations.Close work) s (closing.runs_close_by state pid work s)
ran_close_by closes.WaitLock pid work s = ran_closes_next (slice_get work.fds 0) pid work s refl
ran_close_by (closes.Closing tx stream) pid work s = ran_kept pid 0 (operations.Close work) (operations.Close work) s s (ends_calm pid s s (calm_self s)) (omega arith) (λ h. h)

pub ran_close : (pid : ℕ) (work : CloseWork) (s : ClientFiles) → Ran pid (operations.Close work) s (closing.runs_close pid work s)
ran_close pid work s = ran_close_by work.state pid work s

-- Moves

calm_drops_by : (o : Option StreamNo) (pid fd : ℕ) (stream : StreamNo) (s : ClientFiles) → Calm s (drops_by pid fd stream o s)
calm_drops_by (Some other) pid fd stream s = calm_if (same_stream other stream) s _ _ (calm_closed s pid fd) (calm_self s)
calm_drops_by None pid fd stream s = calm_self s

calm_drops_under : (fd pid : ℕ) (stream : StreamNo) (s : ClientFiles) → Calm s (drops_under fd pid stream s)
calm_drops_under zero pid stream s = calm_self s
calm_drops_under (suc fd) pid stream s =
    let before = drops_under fd pid stream s in
    calm_join s before _ (calm_drops_under fd pid stream s) (calm_drops_by (descriptor before.streams.owners pid fd) pid fd stream before)

calm_drops_each : (pid : ℕ) (stream : StreamNo) (s : ClientFiles) → Calm s (drops_each pid stream s)
calm_drops_each pid stream s = calm_drops_under descriptor_count pid stream s

ran_moved : (pid : ℕ) (work new : MoveWork) (s u : ClientFiles) → Calm s u → Ran pid (operations.Move work) s (keeps pid (operations.Move new) u)
ran_moved pid work new s u h = ran_kept pid 0 (operations.Move work) (operations.Move new) s u (ends_calm pid s u h) (omega arith) (λ h. h)

ran_gone : (pid : ℕ) (work : MoveWork) (s u : ClientFiles) → Calm s u → Ran pid (operations.Move work) s u
ran_gone pid work s u h = ran_ended pid 0 (operations.Move work) s u (ends_calm pid s u h) (omega arith)

ran_moves_locked : (pid : ℕ) (work : MoveWork) (stream : Stream) (file : FileId) (s : ClientFiles) → Ran pid (operations.Move work) s (moving.moves_locked pid work stream file s)
ran_moves_locked pid work stream file s =
    let dropped : ClientFiles = drops_each pid work.stream s in
    let sent : ClientFiles = sends_for pid (moving.move_to work stream file (is_some (stream_at work.stream dropped))) Other dropped in
    ran_moved pid work _ s sent (calm_join s dropped sent (calm_drops_each pid work.stream s) (calm_same dropped sent refl refl refl refl refl refl))

ran_moves_device : (pid : ℕ) (work : MoveWork) (place : Place) (s : ClientFiles) → Ran pid (operations.Move work) s (moving.moves_device pid work.stream place s)
ran_moves_device pid work place s =
    let dropped : ClientFiles = drops_each pid work.stream s in
    ran_gone pid work s _ (calm_join s dropped _ (calm_drops_each pid work.stream s) (calm_same dropped _ refl refl refl refl refl refl))

ran_moves_object : (object : Object) (pid : ℕ) (work : MoveWork) (stream : Stream) (s : ClientFiles) → Ran pid (operations.Move work) s (moving.moves_object_by object pid work stream s)
ran_moves_object (objects.File file) pid work stream s =
    let locked : ClientFiles = locks pid work.stream s in
    let so = calm_locks pid work.stream s in
    ran_if (gets_lock pid work.stream s) pid (operations.Move work) s _ _
    (ran_after pid (operations.Move work) s locked _ so (ran_moves_locked pid work stream file locked))
    (ran_moved pid work work s locked so)
ran_moves_object (objects.Device device) pid work stream s = ran_moves_device pid work stream.place s
ran_moves_object (objects.Master device) pid work stream s = ran_moves_device pid work stream.place s

ran_moves_on : (o : Option Stream) (pid : ℕ) (work : MoveWork) (s : ClientFiles) → Ran pid (operations.Move work) s (moving.moves_on_by o pid work s)
ran_moves_on (Some stream) pid work s = ran_moves_object stream.object pid work stream s
ran_moves_on None pid work s = ran_gone pid work s s (calm_self s)

ran_move_by : (state : MoveState) (pid : ℕ) (work : MoveWork) (s : ClientFiles) → Ran pid (operations.Move work) s (moving.runs_move_by state pid work s)
ran_move_by moves.WaitLock pid work s = ran_moves_on (stream_at work.stream s) pid work s
ran_move_by (moves.MovingOut tx kept place) pid work s = ran_moved pid work work s s (calm_self s)

pub ran_move : (pid : ℕ) (work : MoveWork) (s : ClientFiles) → Ran pid (operations.Move work) s (moving.runs_move pid work s)
ran_move pid work s = ran_move_by work.state pid work s
