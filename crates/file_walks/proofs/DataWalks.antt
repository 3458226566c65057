-- Operations on files' data and syncs, when they run, for any fact of the files' side: what such a fact must bear, and what it then keeps.
use Rattle.std.proofs.Common.{arith, ◌≡◌, ℕ, ◌+◌, ◌-◌, ◌≤◌, min, nat_lt, Bool, true, false, cond, length, Option, Some, None, is_some, refl}
use Rattle.sprite_ids.specs.declared.BlockNo.{BlockNo}
use Rattle.sprite_ids.specs.declared.FileId.{FileId}
use Rattle.sprite_ids.specs.declared.TxNo.{TxNo}
use Rattle.process_machine.specs.declared.Reply.{Reply}
use Rattle.packet_bodies.specs.declared.ReplyBody.{ReplyBody}
use Rattle.packet_bodies.specs.declared.ReplyBody.TheVariants as bodies
use Rattle.packet_bodies.specs.declared.ValueReply.{ValueReply}
use Rattle.block_cache.specs.declared.BlockKey.{BlockKey}
use Rattle.block_cache.specs.declared.Block.{Block}
use Rattle.block_cache.specs.Held.{Held, is_full, oldest_clean, without_one, write_back_next}
use Rattle.stream_table.specs.declared.Place.{Place}
use Rattle.stream_table.specs.declared.Place.TheVariants.{Local, Shared}
use Rattle.stream_table.specs.declared.Stream.{Stream}
use Rattle.client_file_tables.specs.declared.client_files.ClientFiles.{ClientFiles}
use Rattle.client_file_tables.specs.declared.extent.Extent.{Extent}
use Rattle.client_file_tables.specs.declared.pending.Pending.TheVariants as operations
use Rattle.client_file_tables.specs.declared.states.DataState.TheVariants as states
use Rattle.client_file_tables.specs.declared.works.DataCall.{DataCall}
use Rattle.client_file_tables.specs.declared.works.DataKind.{DataKind}
use Rattle.client_file_tables.specs.declared.works.DataKind.TheVariants as kinds
use Rattle.client_file_tables.specs.Blocks as blocks
use Rattle.client_file_tables.specs.Calls.{data_call, sync_call}
use Rattle.client_file_tables.specs.Extents.{first_of, is_within, last_of}
use Rattle.client_file_tables.specs.Fillers as fillers
use Rattle.client_file_tables.specs.Fillers.{is_filling}
use Rattle.client_file_tables.specs.Locks as locking
use Rattle.client_file_tables.specs.Locks.{gets_lock}
use Rattle.client_file_tables.specs.Says as says
use Rattle.client_file_tables.specs.Says.{about_of}
use Rattle.client_file_tables.specs.Steps as steps
use Rattle.client_file_tables.specs.Streams as streams
use Rattle.client_file_tables.specs.Streams.{stream_at}
use Rattle.client_file_tables.specs.WriteBacks as backs
use Rattle.client_file_tables.specs.WriteBacks.{current_write_back}
use Rattle.client_data.specs.declared.plan.Plan.{Plan}
use Rattle.client_data.specs.declared.plan.Plan.TheVariants as plans
use Rattle.client_data.specs.Cached as cached
use Rattle.client_data.specs.Filling as filling
use Rattle.client_data.specs.Finishes as finishing
use Rattle.client_data.specs.Grants as grants
use Rattle.client_data.specs.Looks as looking
use Rattle.client_data.specs.Plans as planning
use Rattle.client_data.specs.Plans.{plan_of}
use Rattle.client_data.specs.Replies as replied
use Rattle.client_data.specs.ServerOps as server_ops
use Rattle.file_walks.proofs.BlockWalks as block_walks
use Rattle.file_walks.specs.Fits.{is_op_answer, moved_by}
use Rattle.file_walks.proofs.Muted as muted
use Rattle.file_walks.proofs.Muted.{Mute}
use Rattle.unix_calls.specs.declared.Event.TheVariants as events
use Rattle.block_cache.specs.Blocks.{dirty_at}
use Rattle.client_file_tables.specs.declared.states.SyncState.TheVariants as sync_states
use Rattle.client_file_tables.specs.declared.works.SyncCall.{SyncCall}
use Rattle.client_data.specs.Sync as syncing

-- the cache is full, without a clean block outside what the operation reads or writes, and without a dirty one
pub record NoRoom (call : DataCall) (cache : Held) : Type 0 where
  pub extent : Extent
  pub short : extent.length ≤ moved_by call.kind
  pub full : is_full cache ≡ true
  pub no_clean : oldest_clean cache call.file (first_of extent) (last_of extent) ≡ None
  pub no_dirty : write_back_next cache None ≡ None

room_by : (call : DataCall) (block : BlockNo) (extent : Extent) (s : ClientFiles) (missing : Option BlockNo) (full within : Bool) (clean : Option (BlockKey × Block)) → extent.length ≤ moved_by call.kind → is_full s.cache ≡ full → blocks.clean_outside call.file extent s ≡ clean
    → cond full (cond within (is_some clean) false) true ≡ false
    → cond within missing None ≡ Some block
    → write_back_next (cond full (cond within (blocks.notes_full clean (blocks.with_cache (record s.cache { blocks = without_one s.cache.blocks clean }) s)) s) s).cache None ≡ None
    → NoRoom call (cond full (cond within (blocks.notes_full clean (blocks.with_cache (record s.cache { blocks = without_one s.cache.blocks clean }) s)) s) s).cache
room_by call block extent s missing true true None short f c none e d = record { extent = extent; short = short; full = f; no_clean = c; no_dirty = d }
room_by call block extent s missing true true (Some entry) short f c none e d = absurd (cc)
room_by call block extent s missing true false clean short f c none e d = absurd (cc)
room_by call block extent s missing false within clean short f c none e d = absurd (cc)

-- so it is where a block is missing, there is no room for it, and no dirty block to be written back
no_room : (call : DataCall) (block : BlockNo) (extent : Extent) (s : ClientFiles) → extent.length ≤ moved_by call.kind → filling.gets_room call.file extent s ≡ false → cached.missing_of call extent s ≡ Some block → write_back_next (filling.makes_room call.file extent s).cache None ≡ None → NoRoom call (filling.makes_room call.file extent s).cache
no_room call block extent s short none e d = room_by call block extent s _ (is_full s.cache) (is_within extent) (blocks.clean_outside call.file extent s) short refl refl none e d

-- what is used of a file's bytes where that is planned: no more than the operation moves, of a file that is cached
abbrev UsesCached : DataKind → FileId → ClientFiles → Plan → Type 0
UsesCached kind file s (plans.Use extent) = (extent.length ≤ moved_by kind) × (blocks.is_cached file s ≡ true)
UsesCached kind file s plan = Unit {0}

use_if : (kind : DataKind) (file : FileId) (s : ClientFiles) (b : Bool) (plan other : Plan) → UsesCached kind file s plan → UsesCached kind file s other → UsesCached kind file s (cond b plan other)
use_if kind file s true plan other h k = h
use_if kind file s false plan other h k = k

use_cached : (kind : DataKind) (file : FileId) (s : ClientFiles) (b : Bool) (plan other : Plan) → blocks.is_cached file s ≡ b → (blocks.is_cached file s ≡ true → UsesCached kind file s plan) → UsesCached kind file s other → UsesCached kind file s (cond b plan other)
use_cached kind file s true plan other e h k = h e
use_cached kind file s false plan other e h k = k

min_below : (a b : ℕ) → min a b ≤ a
min_below a b = omega arith

same_below : (a : ℕ) → a ≤ a
same_below a = omega arith

here_uses : (kind : DataKind) (file : FileId) (offset : ℕ) (append : Bool) (s : ClientFiles) → UsesCached kind file s (planning.plan_here kind file offset append s)
here_uses (kinds.Seek to) file offset append s = tt
here_uses kinds.Size file offset append s = use_if kinds.Size file s (blocks.is_cached file s) _ _ tt tt
here_uses (kinds.Read many) file offset append s = use_cached (kinds.Read many) file s (blocks.is_cached file s) _ _ refl (λ on. (min_below many ((blocks.state_in file s).size - offset), on)) tt
here_uses (kinds.Write bytes) file offset append s =
    use_if (kinds.Write bytes) file s append _ _
    (use_cached (kinds.Write bytes) file s (blocks.is_cached file s) _ _ refl (λ on. use_if (kinds.Write bytes) file s (nat_lt s.limit ((blocks.state_in file s).size + length bytes)) _ _ tt (same_below (length bytes), on)) tt)
    (use_if (kinds.Write bytes) file s (nat_lt s.limit (offset + length bytes)) _ _ tt (use_cached (kinds.Write bytes) file s (blocks.is_cached file s) _ _ refl (λ on. (same_below (length bytes), on)) tt))

plan_uses : (place : Place) (call : DataCall) (append : Bool) (s : ClientFiles) → UsesCached call.kind call.file s (planning.plan_at place call append s)
plan_uses (Local offset) call append s = here_uses call.kind call.file offset append s
plan_uses Shared call append s = tt

-- the operation was taken out: before it looks, with its lock, with a turn, with the first turn, and behind its run
pub record RunsData (pid : ℕ) (call : DataCall) (Q L T F R : ClientFiles → Type 0) : Type 0 where
  pub quiet : Mute Q
  pub held : Mute L
  pub first : Mute F
  pub locks : (s : ClientFiles) → gets_lock pid call.stream s ≡ true → Q s → L (locking.locks pid call.stream s)
  pub waits_lock : (s : ClientFiles) → gets_lock pid call.stream s ≡ false → Q s → R (finishing.keeps_data pid call states.WaitLock (locking.locks pid call.stream s))
  pub not_open : (s : ClientFiles) → stream_at call.stream s ≡ None → L s → R (finishing.keeps_data pid call states.WaitLock s)
  pub places : (s : ClientFiles) (place : Place) → L s → L (streams.moves_place call.stream place s)
  pub begins_filling : (s : ClientFiles) → blocks.is_cached call.file s ≡ true → L s → T (fillers.begins_filling pid s)
  pub comes_first : (s : ClientFiles) → is_filling pid s ≡ true → T s → F s
  pub waits_turn : (s : ClientFiles) → is_filling pid s ≡ false → T s → R (finishing.keeps_data pid call states.Turn s)
  pub filled : (s : ClientFiles) → F s → L s
  pub fetches : (s : ClientFiles) (block : BlockNo) → F s → R (filling.fetches pid call block s)
  pub waits_back : (s : ClientFiles) (file : FileId) (block : BlockNo) (tx : TxNo) → current_write_back file block s ≡ Some tx → F s → R (finishing.keeps_data pid call (states.Room tx) s)
  pub sends_back : (s : ClientFiles) (file : FileId) (block : BlockNo) (number : ℕ) → F s → R (filling.sends_for_room pid call file block number s)
  pub none_dirty : (s : ClientFiles) → NoRoom call s.cache → F s → R (finishing.keeps_data pid call states.Turn s)
  pub asks : (s : ClientFiles) (offset : Option ℕ) (append : Bool) → L s → R (server_ops.asks_server pid call offset append s)
  pub ends : (s : ClientFiles) (reply : Reply) → L s → R (finishing.finishes pid call.stream (says.replies pid reply s))

module _ (pid : ℕ) (call : DataCall) (Q L T F R : ClientFiles → Type 0) (runs : RunsData pid call Q L T F R) where
  ends_if : (b : Bool) (s t : ClientFiles) → R s → R t → R (cond b s t)
  ends_if true s t p q = p
  ends_if false s t p q = q

  ends_here : (reply : Reply) (s : ClientFiles) → L s → R (finishing.ends_here pid call reply s)
  ends_here reply s p = runs.ends (says.enters (about_of pid call.number) (data_call call) reply s) reply (runs.held.tells s _ p)

  reads_cached : (extent : Extent) (s : ClientFiles) → L s → R (cached.reads_cached pid call extent s)
  reads_cached extent s p =
      let used : ClientFiles = blocks.reads call.file extent s in
      ends_here _ (streams.moves_offset call.stream (extent.from + extent.length) used) (runs.places used (Local (extent.from + extent.length)) (block_walks.reads L (muted.blocks L runs.held) call.file extent s p))

  writes_cached : (extent : Extent) (s : ClientFiles) → L s → R (cached.writes_cached pid call extent s)
  writes_cached extent s p =
      let put : ClientFiles = cached.writes_bytes call extent.from s in
      let dirty : ClientFiles = backs.dirties_all call.file extent put in
      ends_here _ (streams.moves_offset call.stream (extent.from + extent.length) dirty)
      (runs.places dirty (Local (extent.from + extent.length)) (block_walks.dirties_all L (muted.blocks L runs.held) call.file extent put (block_walks.writes_by L (muted.blocks L runs.held) call.kind call.file extent.from s p)))

  does_cached : (extent : Extent) (s : ClientFiles) → L s → R (cached.does_cached pid call extent s)
  does_cached extent s p = ends_if (cached.is_write call.kind) _ _ (writes_cached extent s p) (reads_cached extent s p)

  waits_by : (o : Option TxNo) (file : FileId) (block : BlockNo) (number : ℕ) (s : ClientFiles) → current_write_back file block s ≡ o → F s → R (filling.waits_by o pid call file block number s)
  waits_by (Some tx) file block number s e p = runs.waits_back s file block tx e p
  waits_by None file block number s e p = runs.sends_back s file block number p

  waits_oldest : (o : Option (FileId × BlockNo × ℕ)) (s : ClientFiles) → write_back_next s.cache None ≡ o → (write_back_next s.cache None ≡ None → NoRoom call s.cache) → F s → R (filling.waits_oldest o pid call s)
  waits_oldest (Some oldest) s e none p = waits_by (current_write_back oldest.0 oldest.1 s) oldest.0 oldest.1 oldest.2 s refl p
  waits_oldest None s e none p = runs.none_dirty s (none e) p

  needs_block : (b : Bool) (block : BlockNo) (extent : Extent) (s : ClientFiles) → filling.gets_room call.file extent s ≡ b → cached.missing_of call extent s ≡ Some block → extent.length ≤ moved_by call.kind → F (filling.makes_room call.file extent s)
      → R (cond b (filling.fetches pid call block (filling.makes_room call.file extent s)) (filling.waits_for_room pid call (filling.makes_room call.file extent s)))
  needs_block true block extent s room e short p = runs.fetches (filling.makes_room call.file extent s) block p
  needs_block false block extent s room e short p = let roomy : ClientFiles = filling.makes_room call.file extent s in waits_oldest (write_back_next roomy.cache None) roomy refl (no_room call block extent s short room e) p

  needs_first : (o : Option BlockNo) (extent : Extent) (s : ClientFiles) → cached.missing_of call extent s ≡ o → extent.length ≤ moved_by call.kind → F s → R (filling.needs_first o pid call extent s)
  needs_first (Some block) extent s e short p = needs_block (filling.gets_room call.file extent s) block extent s refl e short (block_walks.makes_room F (muted.blocks F runs.first) call.file extent s p)
  needs_first None extent s e short p = does_cached extent s (runs.filled s p)

  fills_own : (extent : Extent) (s : ClientFiles) → extent.length ≤ moved_by call.kind → F s → R (filling.fills_own pid call extent s)
  fills_own extent s short p =
      let zeroed : ClientFiles = filling.fills_zeros call.file extent s in
      needs_first (cached.missing_of call extent zeroed) extent zeroed refl short (block_walks.fills_zeros F (muted.blocks F runs.first) call.file extent s p)

  fills_turn : (b : Bool) (extent : Extent) (s : ClientFiles) → is_filling pid s ≡ b → extent.length ≤ moved_by call.kind → T s → R (cond b (filling.fills_own pid call extent s) (finishing.keeps_data pid call states.Turn s))
  fills_turn true extent s e short p = fills_own extent s short (runs.comes_first s e p)
  fills_turn false extent s e short p = runs.waits_turn s e p

  uses_by : (o : Option BlockNo) (extent : Extent) (s : ClientFiles) → extent.length ≤ moved_by call.kind → blocks.is_cached call.file s ≡ true → L s → R (looking.uses_by o pid call extent s)
  uses_by (Some block) extent s short on p = let begun : ClientFiles = fillers.begins_filling pid s in fills_turn (is_filling pid begun) extent begun refl short (runs.begins_filling s on p)
  uses_by None extent s short on p = does_cached extent s p

  does : (plan : Plan) (append : Bool) (s : ClientFiles) → UsesCached call.kind call.file s plan → L s → R (looking.does plan pid call append s)
  does (plans.Seek to) append s uses p = ends_here _ (streams.moves_offset call.stream to s) (runs.places s (Local to) p)
  does plans.Refuse append s uses p = ends_here _ s p
  does (plans.Ask offset) append s uses p = runs.asks s offset append p
  does (plans.Tell size) append s uses p = ends_here _ s p
  does (plans.Use extent) append s uses p = uses_by (cached.missing_of call extent s) extent s uses.0 uses.1 p

  looks_by : (o : Option Stream) (s : ClientFiles) → stream_at call.stream s ≡ o → L s → R (looking.looks_by o pid call s)
  looks_by (Some stream) s e p = does (plan_of call stream s) stream.append s (plan_uses stream.place call stream.append s) p
  looks_by None s e p = runs.not_open s e p

  looks_if : (b : Bool) (s : ClientFiles) → gets_lock pid call.stream s ≡ b → Q s
      → R (cond b (looking.looks_locked pid call (locking.locks pid call.stream s)) (finishing.keeps_data pid call states.WaitLock (locking.locks pid call.stream s)))
  looks_if true s e p = let locked : ClientFiles = locking.locks pid call.stream s in looks_by (stream_at call.stream locked) locked refl (runs.locks s e p)
  looks_if false s e p = runs.waits_lock s e p

  -- it looks at everything anew
  pub looks : (s : ClientFiles) → Q s → R (looking.looks pid call s)
  looks s p = looks_if (gets_lock pid call.stream s) s refl p

  -- Answers

  takes_block : (body : ReplyBody) (block : BlockNo) (s : ClientFiles) → Q s → Q (replied.takes_block call.file block body s)
  takes_block (bodies.Block stamp bytes) block s p = block_walks.fills Q (muted.blocks Q runs.quiet) call.file stamp block bytes s p
  takes_block (bodies.Again grant) block s p = muted.takes_grant Q runs.quiet grant s p
  takes_block body block s p = p

  -- to a fetch
  pub fetched : (block : BlockNo) (body : ReplyBody) (s : ClientFiles) → Q s → R (replied.fetched pid call block body s)
  fetched block body s p = looks (replied.takes_block call.file block body s) (takes_block body block s p)

  moves_here : (kind : DataKind) (offset : ℕ) (append : Bool) (value : ValueReply) (s : ClientFiles) → L s → L (replied.moves_here kind call.stream offset append value s)
  moves_here (kinds.Read many) offset append value s p = runs.places s (Local (offset + value.first)) p
  moves_here (kinds.Write bytes) offset append value s p = muted.on_if L runs.held append _ _ (runs.places s (Local value.second) p) (runs.places s (Local (offset + value.first)) p)
  moves_here (kinds.Seek to) offset append value s p = p
  moves_here kinds.Size offset append value s p = p

  moves_from : (place : Place) (append : Bool) (value : ValueReply) (s : ClientFiles) → L s → L (replied.moves_from place call append value s)
  moves_from (Local offset) append value s p = moves_here call.kind offset append value s p
  moves_from Shared append value s p = p

  moves_in : (o : Option Stream) (value : ValueReply) (s : ClientFiles) → L s → L (replied.moves_in o call value s)
  moves_in (Some stream) value s p = moves_from stream.place stream.append value s p
  moves_in None value s p = p

  -- to an operation that is done at the server, which has the lock; one of another kind leaves it waiting
  pub served : (body : ReplyBody) (s : ClientFiles) → Q s → L s → (is_op_answer body ≡ false → R (steps.keeps pid (operations.Data call) s)) → R (replied.served pid call body s)
  served (bodies.Again grant) s q p waits = looks (grants.takes_grant grant s) (muted.takes_grant Q runs.quiet grant s q)
  served (bodies.Refused errno) s q p waits = runs.ends s _ p
  served (bodies.Value value) s q p waits = runs.ends (replied.moves_by call value s) _ (moves_in (stream_at call.stream s) value s p)
  served body s q p waits = waits refl

-- a sync was taken out, and its look begins: before and behind it
pub record RunsSync (pid : ℕ) (Q R : ClientFiles → Type 0) : Type 0 where
  pub quiet : Mute Q
  pub stays : (s : ClientFiles) (call : SyncCall) → Q s → R (syncing.keeps_sync pid call sync_states.Looking s)
  pub waits_other : (s : ClientFiles) (call : SyncCall) (block : BlockNo) (tx : TxNo) → current_write_back call.file block s ≡ Some tx → Q s → R (syncing.keeps_sync pid call (sync_states.WaitOther tx) s)
  pub sends_own : (s : ClientFiles) (call : SyncCall) (block : BlockNo) (number : ℕ) → Q s → R (syncing.syncs_by pid call block number s)
  pub ends : (s : ClientFiles) (reply : Reply) → Q s → R (says.replies pid reply s)

module _ (pid : ℕ) (Q R : ClientFiles → Type 0) (runs : RunsSync pid Q R) where
  syncs_dirty : (o : Option ℕ) (call : SyncCall) (block : BlockNo) (s : ClientFiles) → Q s → R (syncing.syncs_dirty pid call block o s)
  syncs_dirty (Some number) call block s p = runs.sends_own s call block number p
  syncs_dirty None call block s p = runs.stays s call p

  syncs_out : (o : Option TxNo) (call : SyncCall) (block : BlockNo) (s : ClientFiles) → current_write_back call.file block s ≡ o → Q s → R (syncing.syncs_out pid call block o s)
  syncs_out (Some tx) call block s e p = runs.waits_other s call block tx e p
  syncs_out None call block s e p = syncs_dirty (dirty_at s.cache.blocks call.file block.0) call block s p

  syncs_first : (o : Option BlockNo) (call : SyncCall) (s : ClientFiles) → Q s → R (syncing.syncs_first pid call o s)
  syncs_first (Some block) call s p = syncs_out (current_write_back call.file block s) call block s refl p
  syncs_first None call s p = runs.ends (says.enters (about_of pid call.number) (sync_call call) (says.plain_value 0) s) _ (runs.quiet.tells s (events.Enter _) p)

  -- it looks at its blocks anew
  pub syncs : (call : SyncCall) (s : ClientFiles) → Q s → R (syncing.syncs pid call s)
  syncs call s p =
      let left : SyncCall = record call { todo = syncing.dirty_of call.file s call.todo } in
      syncs_first (syncing.first_todo left.todo) left s p
