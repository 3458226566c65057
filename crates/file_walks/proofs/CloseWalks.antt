-- Closes and moves of streams, when they run, for any fact of the files' side: what such a fact must bear, and what it then keeps.
use Rattle.std.proofs.Common.{◌≡◌, ℕ, zero, suc, Bool, true, false, cond, List, [], ◌∷◌, Option, Some, None, refl, sym, subst, slice_get}
use Rattle.sprite_ids.specs.declared.DeviceId.{DeviceId}
use Rattle.sprite_ids.specs.declared.FileId.{FileId}
use Rattle.sprite_ids.specs.declared.Object.{Object}
use Rattle.sprite_ids.specs.declared.Object.TheVariants as objects
use Rattle.sprite_ids.specs.declared.StreamNo.{StreamNo}
use Rattle.stream_table.specs.declared.Place.{Place}
use Rattle.stream_table.specs.declared.Stream.{Stream}
use Rattle.stream_table.specs.Owners.{descriptor}
use Rattle.stream_table.specs.Streams.{closed_stream, is_last}
use Rattle.client_file_tables.specs.declared.client_files.ClientFiles.{ClientFiles}
use Rattle.client_file_tables.specs.declared.moves.ClosingOf.{ClosingOf}
use Rattle.client_file_tables.specs.declared.moves.ClosingOf.TheVariants as closings
use Rattle.client_file_tables.specs.declared.moves.CloseWork.{CloseWork}
use Rattle.client_file_tables.specs.declared.moves.MoveWork.{MoveWork}
use Rattle.client_file_tables.specs.declared.moves.Report.TheVariants as reports
use Rattle.client_file_tables.specs.declared.pending.Pending.TheVariants as operations
use Rattle.client_file_tables.specs.Locks as locking
use Rattle.client_file_tables.specs.Locks.{gets_lock}
use Rattle.client_file_tables.specs.Rows.{same_stream}
use Rattle.client_file_tables.specs.Steps as steps
use Rattle.client_file_tables.specs.Streams.{stream_at}
use Rattle.client_streams.specs.Closing as closing
use Rattle.client_streams.specs.Descriptors as descriptors
use Rattle.client_streams.specs.Moving as moving
use Rattle.file_walks.proofs.Muted.{Mute}

-- descriptors of one process that are dropped
module _ (pid : ℕ) (P : ClientFiles → Type 0) (drops : (s : ClientFiles) (fd : ℕ) → P s → P (descriptors.drops pid fd s)) where
  drops_if : (b : Bool) (s t : ClientFiles) → P s → P t → P (cond b s t)
  drops_if true s t p q = p
  drops_if false s t p q = q

  drops_by : (o : Option StreamNo) (fd : ℕ) (stream : StreamNo) (s : ClientFiles) → P s → P (descriptors.drops_by pid fd stream o s)
  drops_by (Some other) fd stream s p = drops_if (same_stream other stream) _ s (drops s fd p) p
  drops_by None fd stream s p = p

  drops_under : (fd : ℕ) (stream : StreamNo) (s : ClientFiles) → P s → P (descriptors.drops_under fd pid stream s)
  drops_under zero stream s p = p
  drops_under (suc fd) stream s p =
      let before : ClientFiles = descriptors.drops_under fd pid stream s in
      drops_by (descriptor before.streams.owners pid fd) fd stream before (drops_under fd stream s p)

  pub drops_each : (stream : StreamNo) (s : ClientFiles) → P s → P (descriptors.drops_each pid stream s)
  drops_each stream s p = drops_under descriptors.descriptor_count stream s p

-- a close was taken out that waits for no answer: what is so before it goes on, with a stream's lock, and behind its run
pub record RunsClose (pid : ℕ) (cause : ClosingOf) (Q : ClientFiles → Type 0) (L : StreamNo → ClientFiles → Type 0) (R : ClientFiles → Type 0) : Type 0 where
  pub quiet : Mute Q
  pub held : (number : StreamNo) → Mute (L number)
  pub locks : (s : ClientFiles) (number : StreamNo) → gets_lock pid number s ≡ true → Q s → L number (locking.locks pid number s)
  pub waits_lock : (s : ClientFiles) (fds : List ℕ) (fd : ℕ) (number : StreamNo) → slice_get fds 0 ≡ Some fd → descriptor s.streams.owners pid fd ≡ Some number → gets_lock pid number s ≡ false → Q s → R (steps.keeps pid (operations.Close (closing.closing cause fds)) (locking.locks pid number s))
  pub drops : (s : ClientFiles) (fd : ℕ) → Q s → Q (descriptors.drops pid fd s)
  pub drops_held : (s : ClientFiles) (fd : ℕ) (number : StreamNo) → L number s → L number (descriptors.drops pid fd s)
  pub frees : (s : ClientFiles) (number : StreamNo) → L number s → Q (locking.unlocks number s)
  pub asks : (s : ClientFiles) (work : CloseWork) (number : StreamNo) (file : FileId) (many : ℕ) → work.of ≡ cause → L number s → R (closing.asks_close pid work number file many s)
  pub goes_on : (s : ClientFiles) (fds : List ℕ) → Q s → R (steps.starts pid (operations.Close (closing.closing cause fds)) s)
  pub tells : (s : ClientFiles) (device : DeviceId) → Q s → Q (steps.reports (reports.MasterClosed device) s)
  pub ends : (s : ClientFiles) → Q s → R (closing.ends_closing pid cause s)

enters_closed : (P : ClientFiles → Type 0) → Mute P → (cause : ClosingOf) (pid : ℕ) (s : ClientFiles) → P s → P (closing.enters_closed pid cause s)
enters_closed P mute (closings.Call number fd) pid s p = mute.tells s _ p
enters_closed P mute (closings.End about) pid s p = p

module _ (pid : ℕ) (cause : ClosingOf) (Q : ClientFiles → Type 0) (L : StreamNo → ClientFiles → Type 0) (R : ClientFiles → Type 0) (runs : RunsClose pid cause Q L R) where
  closes_rest : (fds : List ℕ) (s : ClientFiles) → Q s → R (closing.closes_rest fds pid cause s)
  closes_rest [] s p = runs.ends s p
  closes_rest (fd ∷ fds) s p = runs.goes_on s (fd ∷ fds) p

  -- the next descriptor, behind one that was closed
  pub closes_on : (work : CloseWork) (s : ClientFiles) → work.of ≡ cause → Q s → R (closing.closes_on pid work s)
  closes_on work s e p = subst (λ (of : ClosingOf). R (closing.closes_rest work.fds pid of s)) (sym e) (closes_rest work.fds s p)

  reports_last : (b : Bool) (device : DeviceId) (s : ClientFiles) → Q s → Q (closing.reports_last b device s)
  reports_last true device s p = runs.tells s device p
  reports_last false device s p = p

  closes_last : (o : Option (StreamNo × Stream)) (work : CloseWork) (number : StreamNo) (file : FileId) (s : ClientFiles) → work.of ≡ cause → L number s → R (closing.closes_last pid work number file o s)
  closes_last (Some last) work number file s e p = runs.asks s work number file last.1.grants e p
  closes_last None work number file s e p = closes_on work (locking.unlocks number s) e (runs.frees s number p)

  closes_file : (b : Bool) (fds : List ℕ) (fd : ℕ) (number : StreamNo) (file : FileId) (s : ClientFiles) → slice_get fds 0 ≡ Some fd → descriptor s.streams.owners pid fd ≡ Some number → gets_lock pid number s ≡ b → Q s
      → R (cond b (closing.closes_locked pid (closing.closing cause fds) fd number file (locking.locks pid number s)) (steps.keeps pid (operations.Close (closing.closing cause fds)) (locking.locks pid number s)))
  closes_file true fds fd number file s f d e p =
      let locked : ClientFiles = locking.locks pid number s in
      closes_last (closed_stream locked.streams pid fd) (closing.without_first (closing.closing cause fds)) number file (closing.enters_closed pid cause (descriptors.drops pid fd locked)) refl
      (enters_closed (L number) (runs.held number) cause pid (descriptors.drops pid fd locked) (runs.drops_held locked fd number (runs.locks s number e p)))
  closes_file false fds fd number file s f d e p = runs.waits_lock s fds fd number f d e p

  closes_object : (object : Object) (fds : List ℕ) (fd : ℕ) (number : StreamNo) (s : ClientFiles) → slice_get fds 0 ≡ Some fd → descriptor s.streams.owners pid fd ≡ Some number → Q s → R (closing.closes_object pid (closing.closing cause fds) fd number object s)
  closes_object (objects.File file) fds fd number s f d p = closes_file (gets_lock pid number s) fds fd number file s f d refl p
  closes_object (objects.Device device) fds fd number s f d p =
      let dropped : ClientFiles = descriptors.drops pid fd s in
      closes_on (closing.without_first (closing.closing cause fds)) (closing.enters_closed pid cause dropped) refl (enters_closed Q runs.quiet cause pid dropped (runs.drops s fd p))
  closes_object (objects.Master device) fds fd number s f d p =
      let dropped : ClientFiles = descriptors.drops pid fd s in
      let closed : ClientFiles = closing.enters_closed pid cause dropped in
      closes_on (closing.without_first (closing.closing cause fds)) (closing.reports_last (is_last s.streams pid fd) device closed) refl
      (reports_last (is_last s.streams pid fd) device closed (enters_closed Q runs.quiet cause pid dropped (runs.drops s fd p)))

  closes_stream : (o : Option Stream) (fds : List ℕ) (fd : ℕ) (number : StreamNo) (s : ClientFiles) → slice_get fds 0 ≡ Some fd → descriptor s.streams.owners pid fd ≡ Some number → Q s → R (closing.closes_stream_by pid (closing.closing cause fds) fd number o s)
  closes_stream (Some stream) fds fd number s f d p = closes_object stream.object fds fd number s f d p
  closes_stream None fds fd number s f d p = closes_on (closing.without_first (closing.closing cause fds)) s refl p

  closes_first : (o : Option StreamNo) (fds : List ℕ) (fd : ℕ) (s : ClientFiles) → slice_get fds 0 ≡ Some fd → descriptor s.streams.owners pid fd ≡ o → Q s → R (closing.closes_first_by pid (closing.closing cause fds) fd o s)
  closes_first (Some number) fds fd s f d p = closes_stream (stream_at number s) fds fd number s f d p
  closes_first None fds fd s f d p = closes_on (closing.without_first (closing.closing cause fds)) s refl p

  closes_next : (o : Option ℕ) (fds : List ℕ) (s : ClientFiles) → slice_get fds 0 ≡ o → Q s → R (closing.closes_next_by pid (closing.closing cause fds) o s)
  closes_next (Some fd) fds s f p = closes_first (descriptor s.streams.owners pid fd) fds fd s f refl p
  closes_next None fds s f p = runs.ends s p

  -- it goes on, where it waits for its stream's lock
  pub runs_close : (fds : List ℕ) (s : ClientFiles) → Q s → R (closing.closes_next pid (closing.closing cause fds) s)
  runs_close fds s p = closes_next (slice_get fds 0) fds s refl p

-- a move of a stream was taken out that waits for no answer: what is so before it goes on, with the stream's lock, and behind its run
pub record RunsMove (pid : ℕ) (work : MoveWork) (Q L R : ClientFiles → Type 0) : Type 0 where
  pub locks : (s : ClientFiles) → gets_lock pid work.stream s ≡ true → Q s → L (locking.locks pid work.stream s)
  pub waits_lock : (s : ClientFiles) → gets_lock pid work.stream s ≡ false → Q s → R (steps.keeps pid (operations.Move work) (locking.locks pid work.stream s))
  pub drops : (s : ClientFiles) (fd : ℕ) → Q s → Q (descriptors.drops pid fd s)
  pub drops_held : (s : ClientFiles) (fd : ℕ) → L s → L (descriptors.drops pid fd s)
  pub asks : (s : ClientFiles) (stream : Stream) (file : FileId) (kept : Bool) → L s → R (moving.asks_move pid work stream file kept s)
  pub moved : (s : ClientFiles) (place : Place) → Q s → R (steps.reports (reports.Moved pid place None 1) s)
  pub lost : (s : ClientFiles) → Q s → R s

module _ (pid : ℕ) (work : MoveWork) (Q L R : ClientFiles → Type 0) (runs : RunsMove pid work Q L R) where
  moves_file : (b : Bool) (stream : Stream) (file : FileId) (s : ClientFiles) → gets_lock pid work.stream s ≡ b → Q s
      → R (cond b (moving.moves_locked pid work stream file (locking.locks pid work.stream s)) (steps.keeps pid (operations.Move work) (locking.locks pid work.stream s)))
  moves_file true stream file s e p =
      let locked : ClientFiles = locking.locks pid work.stream s in
      let dropped : ClientFiles = descriptors.drops_each pid work.stream locked in
      runs.asks dropped stream file _ (drops_each pid L runs.drops_held work.stream locked (runs.locks s e p))
  moves_file false stream file s e p = runs.waits_lock s e p

  moves_object : (object : Object) (stream : Stream) (s : ClientFiles) → Q s → R (moving.moves_object_by object pid work stream s)
  moves_object (objects.File file) stream s p = moves_file (gets_lock pid work.stream s) stream file s refl p
  moves_object (objects.Device device) stream s p = runs.moved (descriptors.drops_each pid work.stream s) stream.place (drops_each pid Q runs.drops work.stream s p)
  moves_object (objects.Master device) stream s p = runs.moved (descriptors.drops_each pid work.stream s) stream.place (drops_each pid Q runs.drops work.stream s p)

  moves_on : (o : Option Stream) (s : ClientFiles) → Q s → R (moving.moves_on_by o pid work s)
  moves_on (Some stream) s p = moves_object stream.object stream s p
  moves_on None s p = runs.lost s p

  -- it goes on, where it waits for the stream's lock
  pub runs_move : (s : ClientFiles) → Q s → R (moving.moves_on pid work s)
  runs_move s p = moves_on (stream_at work.stream s) s p
