-- Locks of streams, turns to fill and descriptors that are given up go round beside each fact that sees none of them.
use Rattle.std.proofs.Common.{ℕ, zero, suc, Bool, true, false, cond, List, [], ◌∷◌, Option, Some, None}
use Rattle.std.specs.List.{list_any}
use Rattle.sprite_ids.specs.declared.StreamNo.{StreamNo}
use Rattle.stream_table.specs.declared.Streams.{Streams}
use Rattle.stream_table.specs.Owners.{descriptor}
use Rattle.client_file_tables.specs.declared.client_files.ClientFiles.{ClientFiles}
use Rattle.client_file_tables.specs.Fillers as fillers
use Rattle.client_file_tables.specs.Fillers.{drops_filler, is_filling}
use Rattle.client_file_tables.specs.Locks as locking
use Rattle.client_file_tables.specs.Locks.{frees, gets_lock, takes_lock}
use Rattle.client_file_tables.specs.Rows.{first_stream, is_pid, less_stream}
use Rattle.client_file_tables.specs.Steps.{wakes}
use Rattle.client_streams.specs.Descriptors as descriptors

-- a fact of the files' side that sees no stream, no process that waits for a lock, no turn to fill, and none that is woken
pub record SeesNoTurns (P : ClientFiles → Type 0) : Type 0 where
  pub streams : (s : ClientFiles) (streams : Streams) → P s → P (record s { streams = streams })
  pub waits : (s : ClientFiles) (rows : List (StreamNo × ℕ)) → P s → P (record s { lock_waits = rows })
  pub fillers : (s : ClientFiles) (pids : List ℕ) → P s → P (record s { fillers = pids })
  pub woken : (s : ClientFiles) (pid : ℕ) → P s → P (wakes pid s)

module _ (P : ClientFiles → Type 0) (sees : SeesNoTurns P) where
  on_if : (b : Bool) (s t : ClientFiles) → P s → P t → P (cond b s t)
  on_if true s t p q = p
  on_if false s t p q = q

  waits_for_lock : (pid : ℕ) (stream : StreamNo) (s : ClientFiles) → P s → P (locking.waits_for_lock pid stream s)
  waits_for_lock pid stream s p = on_if _ s _ p (sees.waits s _ p)

  pub locks : (pid : ℕ) (stream : StreamNo) (s : ClientFiles) → P s → P (locking.locks pid stream s)
  locks pid stream s p =
      let taken : P (takes_lock pid stream s) = sees.streams s _ p in
      on_if (gets_lock pid stream s) (takes_lock pid stream s) (locking.waits_for_lock pid stream (takes_lock pid stream s)) taken (waits_for_lock pid stream (takes_lock pid stream s) taken)

  hands_first : (o : Option ℕ) (stream : StreamNo) (s : ClientFiles) → P s → P (locking.hands_first o stream s)
  hands_first (Some pid) stream s p = sees.woken (takes_lock pid stream s) pid (sees.streams s _ p)
  hands_first None stream s p = p

  pub unlocks : (stream : StreamNo) (s : ClientFiles) → P s → P (locking.unlocks stream s)
  unlocks stream s p =
      hands_first (first_stream stream s.lock_waits) stream (record (frees stream s) { lock_waits = less_stream stream s.lock_waits })
      (sees.waits (frees stream s) _ (sees.streams s _ p))

  pub begins_filling : (pid : ℕ) (s : ClientFiles) → P s → P (fillers.begins_filling pid s)
  begins_filling pid s p = on_if (list_any (is_pid pid) s.fillers) s _ p (sees.fillers s _ p)

  wakes_first : (waiting : List ℕ) (s : ClientFiles) → P s → P (fillers.wakes_first waiting s)
  wakes_first [] s p = p
  wakes_first (first ∷ rest) s p = sees.woken s first p

  pub leaves_filling : (pid : ℕ) (s : ClientFiles) → P s → P (fillers.leaves_filling pid s)
  leaves_filling pid s p =
      let dropped : P (drops_filler pid s) = sees.fillers s _ p in
      on_if (is_filling pid s) _ (drops_filler pid s) (wakes_first (drops_filler pid s).fillers (drops_filler pid s) dropped) dropped

  drops_by : (o : Option StreamNo) (pid fd : ℕ) (stream : StreamNo) (s : ClientFiles) → P s → P (descriptors.drops_by pid fd stream o s)
  drops_by (Some other) pid fd stream s p = on_if _ _ s (sees.streams s _ p) p
  drops_by None pid fd stream s p = p

  drops_under : (fd pid : ℕ) (stream : StreamNo) (s : ClientFiles) → P s → P (descriptors.drops_under fd pid stream s)
  drops_under zero pid stream s p = p
  drops_under (suc fd) pid stream s p =
      let before : ClientFiles = descriptors.drops_under fd pid stream s in
      drops_by (descriptor before.streams.owners pid fd) pid fd stream before (drops_under fd pid stream s p)

  pub drops_each : (pid : ℕ) (stream : StreamNo) (s : ClientFiles) → P s → P (descriptors.drops_each pid stream s)
  drops_each pid stream s p = drops_under descriptors.descriptor_count pid stream s p
