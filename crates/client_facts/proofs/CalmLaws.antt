-- What changes no operation, wakes none, and lets none ask its server that did not before.
use Rattle.std.proofs.Common.{◌≡◌, ℕ, zero, suc, ◌+◌, Bool, true, false, ◌||◌, not, cond, List, [], ◌∷◌, Option, Some, None, refl, sym, ap, ap₂, ◌∙◌, subst}
use Rattle.sprite_ids.specs.declared.TxNo.{TxNo}
use Rattle.sprite_ids.specs.declared.FileId.{FileId}
use Rattle.sprite_ids.specs.declared.BlockNo.{BlockNo}
use Rattle.sprite_ids.specs.declared.StreamNo.{StreamNo}
use Rattle.std.specs.List.{find}
use mathlib.Core.Bool.{or-true}
use Rattle.sprite_ids.specs.Lists.{put, without, EachOnce}
use Rattle.block_cache.specs.declared.BlockKey.{BlockKey}
use Rattle.block_cache.specs.declared.Block.{Block}
use Rattle.block_cache.specs.declared.Filled.{Filled}
use Rattle.block_cache.specs.declared.Filled.TheVariants as fillings
use Rattle.block_cache.specs.Files.{Files, known}
use Rattle.block_cache.specs.Ranges.{block_count, first_block}
use Rattle.block_cache.specs.Held.{Held, after_write, is_full, missing}
use Rattle.block_cache.proofs.StateLaws.{stays_on}
use Rattle.stream_table.specs.declared.Place.{Place}
use Rattle.stream_table.specs.declared.Place.TheVariants.{Local, Shared}
use Rattle.stream_table.specs.declared.Stream.{Stream}
use Rattle.stream_table.specs.Entries.{Entry, holder_of, is_of, leaving, left, locked, locking, may_be_at, placed, placing, stream_in, stream_of, unlocked, unlocking}
use Rattle.stream_table.specs.Owners.{is_number, is_referred}
use Rattle.stream_table.specs.Streams.{Table, closed, closing, freed}
use Rattle.stream_table.proofs.EntryLaws.{one_number}
use Rattle.stream_table.proofs.FoundLaws.{entry, find_put, find_without}
use Rattle.unix_calls.specs.declared.About.{About}
use Rattle.unix_calls.specs.declared.Event.TheVariants as events
use Rattle.client_file_tables.specs.declared.client_files.ClientFiles.{ClientFiles}
use Rattle.client_file_tables.specs.declared.extent.Extent.{Extent}
use Rattle.client_file_tables.specs.declared.works.DataKind.{DataKind}
use Rattle.client_file_tables.specs.declared.works.DataKind.TheVariants as kinds
use Rattle.client_file_tables.specs.Blocks as blocks
use Rattle.client_file_tables.specs.Blocks.{is_cached, with_cache}
use Rattle.client_file_tables.specs.Extents.{is_within}
use Rattle.client_file_tables.specs.Locks.{takes_lock}
use Rattle.client_file_tables.specs.Says.{notes}
use Rattle.client_file_tables.specs.Streams.{moves_offset, stream_at}
use Rattle.client_file_tables.specs.WriteBacks as backs
use Rattle.client_data.specs.Cached.{writes_by}
use Rattle.client_data.specs.Filling as filling
use Rattle.client_data.specs.WriteBacks.{sends_back}
use Rattle.client_facts.specs.FileFacts.{QueuesAreOnce, same_wait}

-- whether an offset is kept at the server
abbrev pub is_shared : Place → Bool
is_shared (Local offset) = false
is_shared Shared = true

-- whether an operation by a looked-up stream, on a file that is cached or isn't, may ask the server
abbrev pub asks_by : Option Stream → Bool → Bool
asks_by (Some stream) cached = is_shared stream.place || not cached
asks_by None cached = false

abbrev pub asks_at : StreamNo → FileId → ClientFiles → Bool
asks_at stream file s = asks_by (stream_at stream s) (is_cached file s)

pub record Calm (s t : ClientFiles) : Type 0 where
  pub ready : t.ready ≡ s.ready
  pub pending : t.pending ≡ s.pending
  pub fillers : t.fillers ≡ s.fillers
  pub queues : QueuesAreOnce s → QueuesAreOnce t
  pub asks : (stream : StreamNo) (file : FileId) → asks_at stream file t ≡ true → asks_at stream file s ≡ true

pub calm_self : (s : ClientFiles) → Calm s s
calm_self s = record { ready = refl; pending = refl; fillers = refl; queues = λ h. h; asks = λ stream file h. h }

pub calm_join : (s t u : ClientFiles) → Calm s t → Calm t u → Calm s u
calm_join s t u h k = record {
  ready = k.ready ∙ h.ready;
  pending = k.pending ∙ h.pending;
  fillers = k.fillers ∙ h.fillers;
  queues = λ q. k.queues (h.queues q);
  asks = λ stream file e. h.asks stream file (k.asks stream file e);
}

pub calm_if : (b : Bool) (s t u : ClientFiles) → Calm s t → Calm s u → Calm s (cond b t u)
calm_if true s t u h k = h
calm_if false s t u h k = k

-- the other fields are no matter
pub calm_same : (s t : ClientFiles) → t.ready ≡ s.ready → t.pending ≡ s.pending → t.fillers ≡ s.fillers → t.lock_waits ≡ s.lock_waits → t.streams.entries ≡ s.streams.entries → t.cache.files ≡ s.cache.files → Calm s t
calm_same s t ready pending fillers waits entries files = record {
  ready = ready;
  pending = pending;
  fillers = fillers;
  queues = λ q. subst (λ (rows : List (StreamNo × ℕ)). EachOnce same_wait rows) (sym waits) q;
  asks = λ stream file e. sym (ap₂ (λ (es : List Entry) (fs : Files). asks_by (stream_of es stream) (known fs file).on) entries files) ∙ e;
}

-- Streams

-- the stream is the other one, shared only where that is, or there is none any more
abbrev pub Below : Option Stream → Option Stream → Type 0
Below None o = Unit {0}
Below (Some new) (Some old) = is_shared new.place ≡ true → is_shared old.place ≡ true
Below (Some new) None = ⊥

below_self : (o : Option Stream) → Below o o
below_self None = tt
below_self (Some stream) = λ h. h

or_false : (a : Bool) → (a || false) ≡ true → a ≡ true
or_false true h = refl
or_false false h = h

asks_below : (o p : Option Stream) (cached : Bool) → Below o p → asks_by o cached ≡ true → asks_by p cached ≡ true
asks_below None p cached h e = absurd (cc)
asks_below (Some new) None cached h e = absurd h
asks_below (Some new) (Some old) true h e = ap (λ b. b || false) (h (or_false (is_shared new.place) e))
asks_below (Some new) (Some old) false h e = or-true (is_shared old.place)

asks_cached : (o : Option Stream) (old new : Bool) → (old ≡ true → new ≡ true) → asks_by o new ≡ true → asks_by o old ≡ true
asks_cached None old new h e = absurd (cc)
asks_cached (Some stream) false new h e = or-true (is_shared stream.place)
asks_cached (Some stream) true new h e = sym (ap (λ b. is_shared stream.place || not b) (h refl)) ∙ e

-- where each stream is below what it was
pub calm_streams : (s : ClientFiles) (table : Table) → ((number : StreamNo) → Below (stream_of table.entries number) (stream_of s.streams.entries number)) → Calm s (record s { streams = table })
calm_streams s table h = record {
  ready = refl;
  pending = refl;
  fillers = refl;
  queues = λ q. q;
  asks = λ stream file e. asks_below (stream_of table.entries stream) (stream_of s.streams.entries stream) (is_cached file s) (h stream) e;
}

-- where each file that was cached is so still
pub calm_files : (s : ClientFiles) (held : Held) → ((file : FileId) → (known s.cache.files file).on ≡ true → (known held.files file).on ≡ true) → Calm s (with_cache held s)
calm_files s held h = record {
  ready = refl;
  pending = refl;
  fillers = refl;
  queues = λ q. q;
  asks = λ stream file e. asks_cached (stream_at stream s) (is_cached file s) (known held.files file).on (h file) e;
}

below_put : (es : List Entry) (n : StreamNo) (stream : Option Stream) (holder : Option ℕ) → Below stream (stream_of es n) → (m : StreamNo) → Below (stream_of (put (is_of n) (entry n stream holder) es) m) (stream_of es m)
below_put es n stream holder h m = subst (λ (o : Option Entry). Below (stream_in o) (stream_of es m)) (sym (find_put m n stream holder es)) (by_test (is_number m n) refl)
  where
    by_test : (b : Bool) → is_number m n ≡ b → Below (stream_in (cond b (Some (entry n stream holder)) (find (is_of m) es))) (stream_of es m)
    by_test true e = subst (λ (k : StreamNo). Below stream (stream_of es k)) (sym (one_number m n e)) h
    by_test false e = below_self (stream_of es m)

below_without : (es : List Entry) (n m : StreamNo) → Below (stream_of (without (is_of n) es) m) (stream_of es m)
below_without es n m = subst (λ (o : Option Entry). Below (stream_in o) (stream_of es m)) (sym (find_without m n es)) (by_test (is_number m n))
  where
    by_test : (b : Bool) → Below (stream_in (cond b None (find (is_of m) es))) (stream_of es m)
    by_test true = tt
    by_test false = below_self (stream_of es m)

below_locked : (es : List Entry) (n : StreamNo) (pid : ℕ) (m : StreamNo) → Below (stream_of (locked es n pid) m) (stream_of es m)
below_locked es n pid m = by_holder (holder_of es n)
  where
    by_holder : (o : Option ℕ) → Below (stream_of (locking es n pid o) m) (stream_of es m)
    by_holder (Some holder) = below_self (stream_of es m)
    by_holder None = below_put es n (stream_of es n) (Some pid) (below_self (stream_of es n)) m

pub below_unlocked : (es : List Entry) (n m : StreamNo) → Below (stream_of (unlocked es n) m) (stream_of es m)
below_unlocked es n m = by_stream (stream_of es n) refl
  where
    by_stream : (o : Option Stream) → stream_of es n ≡ o → Below (stream_of (unlocking es n o) m) (stream_of es m)
    by_stream (Some stream) e = below_put es n (Some stream) None (subst (λ (o : Option Stream). Below (Some stream) o) (sym e) (below_self (Some stream))) m
    by_stream None e = below_without es n m

below_left : (es : List Entry) (n m : StreamNo) → Below (stream_of (left es n) m) (stream_of es m)
below_left es n m = by_holder (holder_of es n)
  where
    by_holder : (o : Option ℕ) → Below (stream_of (leaving es n o) m) (stream_of es m)
    by_holder (Some holder) = below_put es n None (Some holder) tt m
    by_holder None = below_without es n m

below_placed : (es : List Entry) (n : StreamNo) (offset : ℕ) (m : StreamNo) → Below (stream_of (placed es n (Local offset)) m) (stream_of es m)
below_placed es n offset m = by_stream (stream_of es n) refl
  where
    by_stream : (o : Option Stream) → stream_of es n ≡ o → Below (stream_of (placing es n (Local offset) o) m) (stream_of es m)
    by_stream (Some stream) e =
        below_put es n (Some (record stream { place = Local offset })) (holder_of es n) (subst (λ (o : Option Stream). Below (Some (record stream { place = Local offset })) o) (sym e) (λ h. absurd (cc))) m
    by_stream None e = below_self (stream_of es m)

below_closing : (table : Table) (pid fd : ℕ) (o : Option StreamNo) (m : StreamNo) → Below (stream_of (closing table pid fd o).entries m) (stream_of table.entries m)
below_closing table pid fd None m = below_self (stream_of table.entries m)
below_closing table pid fd (Some n) m = by_test (is_referred (freed table.owners pid fd) n)
  where
    by_test : (b : Bool) → Below (stream_of (cond b table.entries (left table.entries n)) m) (stream_of table.entries m)
    by_test true = below_self (stream_of table.entries m)
    by_test false = below_left table.entries n m

pub calm_closed : (s : ClientFiles) (pid fd : ℕ) → Calm s (record s { streams = closed s.streams pid fd })
calm_closed s pid fd = calm_streams s (closed s.streams pid fd) (below_closing s.streams pid fd _)

-- Locks

pub calm_takes_lock : (pid : ℕ) (stream : StreamNo) (s : ClientFiles) → Calm s (takes_lock pid stream s)
calm_takes_lock pid stream s = calm_streams s (record s.streams { entries = locked s.streams.entries stream pid }) (below_locked s.streams.entries stream pid)

-- Cached data

calm_filled : (filled : Filled) (file : FileId) (block : BlockNo) (bytes : List ℕ) (s : ClientFiles) → Calm s (blocks.fills_by filled file block bytes s)
calm_filled fillings.Filled file block bytes s = calm_same s _ refl refl refl refl refl refl
calm_filled fillings.Kept file block bytes s = calm_same s _ refl refl refl refl refl refl
calm_filled fillings.Old file block bytes s = calm_same s _ refl refl refl refl refl refl
calm_filled fillings.Full file block bytes s = calm_same s _ refl refl refl refl refl refl

pub calm_fills : (file : FileId) (stamp : ℕ) (block : BlockNo) (bytes : List ℕ) (s : ClientFiles) → Calm s (blocks.fills file stamp block bytes s)
calm_fills file stamp block bytes s = calm_if _ s _ _ (calm_filled _ file block bytes s) (calm_self s)

calm_reads_found : (o : Option BlockNo) (file : FileId) (extent : Extent) (s : ClientFiles) → Calm s (blocks.reads_found o file extent s)
calm_reads_found None file extent s = calm_same s _ refl refl refl refl refl refl
calm_reads_found (Some block) file extent s = calm_self s

pub calm_reads : (file : FileId) (extent : Extent) (s : ClientFiles) → Calm s (blocks.reads file extent s)
calm_reads file extent s = calm_if _ s _ _ (calm_reads_found (missing s.cache file extent.from extent.length) file extent s) (calm_self s)

on_written : (held : Held) (file : FileId) (start : ℕ) (bytes : List ℕ) (other : FileId) → (known held.files other).on ≡ true → (known (after_write held file start bytes).files other).on ≡ true
on_written held file start [] other h = h
on_written held file start (first ∷ rest) other h = stays_on held.files file other _ (λ k. k) h

calm_writes_found : (o : Option BlockNo) (file : FileId) (start : ℕ) (bytes : List ℕ) (s : ClientFiles) → Calm s (blocks.writes_found o file start bytes s)
calm_writes_found None file start bytes s = calm_files s (after_write s.cache file start bytes) (on_written s.cache file start bytes)
calm_writes_found (Some block) file start bytes s = calm_self s

calm_writes : (file : FileId) (start : ℕ) (bytes : List ℕ) (s : ClientFiles) → Calm s (blocks.writes file start bytes s)
calm_writes file start bytes s = calm_if _ s _ _ (calm_writes_found _ file start bytes s) (calm_self s)

pub calm_writes_by : (kind : DataKind) (file : FileId) (start : ℕ) (s : ClientFiles) → Calm s (writes_by kind file start s)
calm_writes_by (kinds.Write bytes) file start s = calm_writes file start bytes s
calm_writes_by (kinds.Read many) file start s = calm_self s
calm_writes_by (kinds.Seek to) file start s = calm_self s
calm_writes_by kinds.Size file start s = calm_self s

calm_notes_full : (o : Option (BlockKey × Block)) (s : ClientFiles) → Calm s (blocks.notes_full o s)
calm_notes_full (Some entry) s = calm_same s _ refl refl refl refl refl refl
calm_notes_full None s = calm_self s

calm_drops_full : (file : FileId) (extent : Extent) (s : ClientFiles) → Calm s (blocks.drops_full file extent s)
calm_drops_full file extent s = calm_if _ s _ _ (calm_join s _ _ (calm_same s _ refl refl refl refl refl refl) (calm_notes_full (blocks.clean_outside file extent s) _)) (calm_self s)

pub calm_makes_room : (file : FileId) (extent : Extent) (s : ClientFiles) → Calm s (filling.makes_room file extent s)
calm_makes_room file extent s = calm_if (is_full s.cache) s _ _ (calm_drops_full file extent s) (calm_self s)

calm_zeros_at : (file : FileId) (extent : Extent) (block : BlockNo) (s : ClientFiles) → Calm s (filling.zeros_at file extent block s)
calm_zeros_at file extent block s =
    let room = calm_makes_room file extent s in
    calm_if _ s _ _ (calm_if _ s _ _ (calm_join s _ _ room (calm_fills file _ block [] (filling.makes_room file extent s))) room) (calm_self s)

calm_zeros_first : (o : Option BlockNo) (file : FileId) (extent : Extent) (s : ClientFiles) → Calm s (filling.zeros_first o file extent s)
calm_zeros_first (Some block) file extent s = calm_zeros_at file extent block s
calm_zeros_first None file extent s = calm_self s

calm_zero_turns : (count : ℕ) (file : FileId) (extent : Extent) (s : ClientFiles) → Calm s (filling.zero_turns count file extent s)
calm_zero_turns zero file extent s = calm_self s
calm_zero_turns (suc count) file extent s =
    let before = filling.zero_turns count file extent s in
    calm_join s before _ (calm_zero_turns count file extent s) (calm_zeros_first (blocks.missing_in file extent before) file extent before)

pub calm_fills_zeros : (file : FileId) (extent : Extent) (s : ClientFiles) → Calm s (filling.fills_zeros file extent s)
unfolding filling.fills_zeros
calm_fills_zeros file extent s = calm_zero_turns 5 file extent s

-- Delays and write-backs

calm_lists_by : (o : Option TxNo) (file : FileId) (block : BlockNo) (s : ClientFiles) → Calm s (backs.lists_by o file block s)
calm_lists_by (Some tx) file block s = calm_self s
calm_lists_by None file block s = calm_same s _ refl refl refl refl refl refl

pub calm_lists_free : (file : FileId) (block : BlockNo) (s : ClientFiles) → Calm s (backs.lists_free file block s)
calm_lists_free file block s = calm_lists_by (backs.current_write_back file block s) file block s

calm_dirties_from : (file : FileId) (first count : ℕ) (s : ClientFiles) → Calm s (backs.dirties_from file first count s)
calm_dirties_from file first zero s = calm_self s
calm_dirties_from file first (suc count) s =
    let before = backs.dirties_from file first count s in
    let block : BlockNo = record { 0 = first + count } in
    let noted : ClientFiles = notes (events.Dirtied file block) before in
    calm_join s before _ (calm_dirties_from file first count s) (calm_join before noted _ (calm_same before noted refl refl refl refl refl refl) (calm_lists_free file block noted))

pub calm_dirties_all : (file : FileId) (extent : Extent) (s : ClientFiles) → Calm s (backs.dirties_all file extent s)
calm_dirties_all file extent s = calm_if (is_within extent) s _ _ (calm_dirties_from file (first_block extent.from) (block_count extent.from extent.length) s) (calm_self s)

pub calm_sends_back : (file : FileId) (block : BlockNo) (number : ℕ) (about : Option About) (s : ClientFiles) → Calm s (sends_back file block number about s)
calm_sends_back file block number about s = calm_same s _ refl refl refl refl refl refl

-- Offsets

pub calm_moves_offset : (stream : StreamNo) (offset : ℕ) (s : ClientFiles) → Calm s (moves_offset stream offset s)
calm_moves_offset stream offset s =
    calm_if (may_be_at (Local offset) (stream_at stream s)) s _ _ (calm_streams s (record s.streams { entries = placed s.streams.entries stream (Local offset) }) (below_placed s.streams.entries stream offset)) (calm_self s)
