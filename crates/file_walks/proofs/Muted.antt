-- What each fact of the files' side of a client's kernel keeps that each call of the cache keeps, and that sees nothing that is told.
use Rattle.std.proofs.Common.{ℕ, Bool, true, false, cond, List, [], ◌∷◌, Option, Some, None}
use Rattle.std.specs.List.{list_any}
use Rattle.sprite_ids.specs.declared.BlockNo.{BlockNo}
use Rattle.sprite_ids.specs.declared.CallKind.{CallKind}
use Rattle.sprite_ids.specs.declared.CallKind.TheVariants.{Recall, Stop}
use Rattle.sprite_ids.specs.declared.FileId.{FileId}
use Rattle.sprite_ids.specs.declared.Grant.{Grant}
use Rattle.sprite_ids.specs.declared.TxNo.{TxNo}
use Rattle.packet_bodies.specs.declared.CallbackRequest.{CallbackRequest}
use Rattle.packet_bodies.specs.declared.CarriedStream.{CarriedStream}
use Rattle.packet_bodies.specs.declared.ReplyBody.{ReplyBody}
use Rattle.packet_bodies.specs.declared.ReplyBody.TheVariants as bodies
use Rattle.unix_calls.specs.declared.DropCause.{DropCause}
use Rattle.unix_calls.specs.declared.DropCause.TheVariants as causes
use Rattle.unix_calls.specs.declared.Event.{Event}
use Rattle.unix_calls.specs.declared.Event.TheVariants as events
use Rattle.block_cache.specs.Files as cached_files
use Rattle.block_cache.specs.Held as held
use Rattle.block_cache.specs.Held.{is_newer, is_written_back}
use Rattle.prefix_table.specs.declared.prefixes.Domain.{Domain}
use Rattle.prefix_table.specs.Prefixes.{knows, learned}
use Rattle.stream_table.specs.declared.Carried.{Carried}
use Rattle.stream_table.specs.declared.Streams.{Streams}
use Rattle.write_delay.specs.declared.DelayedBlock.{DelayedBlock}
use Rattle.write_delay.specs.Delays.{listed}
use Rattle.kernel_steps.specs.Rows.{is_under}
use Rattle.client_file_tables.specs.declared.client_files.ClientFiles.{ClientFiles}
use Rattle.client_file_tables.specs.declared.works.WriteBackOut.{WriteBackOut}
use Rattle.client_file_tables.specs.Blocks.{state_in, with_cache}
use Rattle.client_file_tables.specs.Rows.{same_pid}
use Rattle.client_file_tables.specs.Says as says
use Rattle.client_file_tables.specs.Streams as streams
use Rattle.client_data.specs.Grants as grants
use Rattle.client_data.specs.WriteBacks as written
use Rattle.client_names.specs.Lookups as lookups
use Rattle.client_names.specs.Making.{counts_stream}
use Rattle.client_files.specs.Arrivals as arrivals
use Rattle.client_files.specs.Asked as asked
use Rattle.file_walks.proofs.BlockWalks as block_walks
use Rattle.file_walks.proofs.BlockWalks.{BearsBlocks}
use Rattle.file_walks.proofs.Caches.{CacheCall, CallsBack, Grants, Settles, after}

-- a fact of the files' side that each call of the cache keeps, and that sees no block that is listed, nothing that is told or answered, no prefix,
-- no working directory, and no number of a stream
pub record Mute (P : ClientFiles → Type 0) : Type 0 where
  pub caches : (s : ClientFiles) (call : CacheCall) → P s → P (with_cache (after call s.cache) s)
  pub delays : (s : ClientFiles) (rows : List (DelayedBlock × ℕ)) → P s → P (record s { delay = rows })
  pub tells : (s : ClientFiles) (event : Event) → P s → P (says.notes event s)
  pub answers : (s : ClientFiles) (tx : TxNo) (body : ReplyBody) → P s → P (says.answers tx body s)
  pub learns : (s : ClientFiles) (domains : List Domain) → P s → P (record s { prefixes = domains })
  pub cwds : (s : ClientFiles) (rows : List (ℕ × List (List ℕ))) → P s → P (record s { cwds = rows })
  pub counts : (s : ClientFiles) → P s → P (counts_stream s)

module _ (P : ClientFiles → Type 0) (mute : Mute P) where
  pub on_if : (b : Bool) (s t : ClientFiles) → P s → P t → P (cond b s t)
  on_if true s t p q = p
  on_if false s t p q = q

  pub blocks : BearsBlocks P
  blocks = record {
    caches = mute.caches;
    lists = λ s file block p. mute.delays s _ p;
    filled = λ s file block p. mute.tells s (events.Filled file block) p;
    dirtied = λ s file block p. mute.tells s (events.Dirtied file block) p;
    dropped = λ s file block p. mute.tells s (events.Dropped file block causes.Full) p;
  }

  -- Grants and callbacks

  cleans_all : (list : List BlockNo) (file : FileId) (s : ClientFiles) → P s → P (grants.cleans_all file list s)
  cleans_all [] file s p = p
  cleans_all (block ∷ list) file s p = cleans_all list file (grants.cleans_one file block s) (mute.delays s _ p)

  drops_all : (list : List BlockNo) (file : FileId) (cause : DropCause) (s : ClientFiles) → P s → P (grants.drops_all file list cause s)
  drops_all [] file cause s p = p
  drops_all (block ∷ list) file cause s p =
      let clean : ClientFiles = grants.cleans_one file block s in
      drops_all list file cause (grants.drops_one file block cause s) (mute.tells clean (events.Dropped file block cause) (mute.delays s _ p))

  pub takes_grant : (grant : Grant) (s : ClientFiles) → P s → P (grants.takes_grant grant s)
  takes_grant grant s p =
      let taken : Grant = grants.usable s.cache grant in
      let newer : ClientFiles = with_cache (held.after_grant s.cache taken) s in
      let event : Event = events.Mode taken.file taken.stamp (grants.mode_of_grant taken.on) in
      let told : ClientFiles = says.notes event newer in
      let so : P told = mute.tells newer event (mute.caches s (Grants grant) p) in
      on_if (is_newer s.cache taken) _ s (on_if (cached_files.keeps (state_in taken.file s) taken) told _ so (drops_all (grants.held_in taken.file s) taken.file (grants.cause_of_grant taken.on) told so)) p

  pub takes_some : (o : Option Grant) (s : ClientFiles) → P s → P (asked.takes_some o s)
  takes_some (Some grant) s p = takes_grant grant s p
  takes_some None s p = p

  settles_called : (kind : CallKind) (file : FileId) (dirty list : List BlockNo) (s : ClientFiles) → P s → P (grants.settles_called kind file dirty list s)
  settles_called Recall file dirty list s p = cleans_all dirty file s p
  settles_called Stop file dirty list s p = drops_all list file causes.Stop s p

  pub called_back : (tx : TxNo) (r : CallbackRequest) (s : ClientFiles) → P s → P (grants.called_back tx r s)
  called_back tx r s p =
      let taken : ClientFiles = grants.takes_callback r s in
      let noted : ClientFiles = grants.notes_mode r.file r.stamp taken in
      let settled : ClientFiles = grants.settles_called r.kind r.file (grants.dirty_in r.file s) (grants.held_in r.file s) noted in
      mute.answers settled tx _ (settles_called r.kind r.file (grants.dirty_in r.file s) (grants.held_in r.file s) noted (mute.tells taken (events.Mode r.file r.stamp _) (mute.caches s (CallsBack r.file r.stamp r.kind) p)))

  -- Write-backs that are answered

  notes_back : (clean : Bool) (back : WriteBackOut) (s : ClientFiles) → P s → P (written.notes_back clean back s)
  notes_back clean back s p = on_if clean _ s (mute.tells s _ p) p

  pub settles_back : (body : ReplyBody) (back : WriteBackOut) (s : ClientFiles) → P s → P (written.settles_back body back s)
  settles_back (bodies.Again grant) back s p = takes_grant grant s p
  settles_back body back s p = notes_back (is_written_back s.cache back.file back.stamp back.block.0 back.number) back (with_cache (after (Settles back.file back.stamp back.block.0 back.number) s.cache) s) (mute.caches s (Settles back.file back.stamp back.block.0 back.number) p)

  pub lists_again : (o : Option ℕ) (file : FileId) (block : BlockNo) (s : ClientFiles) → P s → P (written.lists_by o file block s)
  lists_again (Some number) file block s p = on_if (listed s.delay file block) s _ p (block_walks.lists_free P blocks file block s p)
  lists_again None file block s p = p

  -- Prefixes and working directories

  pub learns : (prefix : List (List ℕ)) (server : ℕ) (s : ClientFiles) → P s → P (lookups.learns prefix server s)
  learns prefix server s p = on_if (knows s.prefixes prefix) s _ p (mute.tells (record s { prefixes = learned s.prefixes prefix server }) (events.Learned prefix server) (mute.learns s _ p))

  pub sets_cwd : (pid : ℕ) (path : List (List ℕ)) (s : ClientFiles) → P s → P (streams.sets_cwd pid path s)
  sets_cwd pid path s p = on_if (list_any (is_under same_pid pid) s.cwds) _ _ (mute.cwds s _ p) (mute.cwds s _ p)

  -- A process that arrives with its streams

  takes_carried : (list : List CarriedStream) (s : ClientFiles) → P s → P (arrivals.takes_carried list s)
  takes_carried [] s p = p
  takes_carried (stream ∷ list) s p = takes_carried list (asked.takes_some stream.grant s) (takes_some stream.grant s p)

  pub arrives : (streams_come : (s : ClientFiles) (items : Streams) → P s → P (record s { streams = items })) (pid : ℕ) (cwd : List (List ℕ)) (list : List CarriedStream) (items : List Carried) (s : ClientFiles) → P s → P (arrivals.arrives pid cwd list items s)
  arrives streams_come pid cwd list items s p =
      let taken : ClientFiles = arrivals.takes_carried list s in
      let there : ClientFiles = streams.sets_cwd pid cwd taken in
      let so : P there = sets_cwd pid cwd taken (takes_carried list s p) in
      on_if (arrivals.can_arrive pid items there) _ there (streams_come there _ so) so
