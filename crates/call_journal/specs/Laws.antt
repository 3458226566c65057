-- What holds of every trace.
use Rattle.std.specs.Prelude.{◌≡◌, ℕ, ◌≤◌, ◌++◌, ◌∷◌, [], Bool, if◌then◌else◌, List}
use Rattle.sprite_ids.specs.declared.names.FileId.{FileId}
use Rattle.sprite_ids.specs.declared.names.BlockNo.{BlockNo}
use Rattle.unix_calls.specs.declared.description.Description.{Description}
use Rattle.unix_calls.specs.declared.event.Rec.{Rec}
use Rattle.unix_calls.specs.After.{state_of}
use Rattle.call_journal.specs.Journal.{journal_of}
use Rattle.call_journal.specs.Past.{Past, Seen, past_of, seen_of, since_last}
use Rattle.call_journal.specs.Files.{mode_step, mode_of, held_step, held_of, opens_step, opens_of}
use Rattle.call_journal.specs.Formed.{issue_step, last_issue}
use Rattle.call_journal.specs.Once.{progress_step, progress_of}
use Rattle.call_journal.specs.Drops.{outdated_step, is_outdated, filled_step, before_filled, stamp_step, last_stamp}
use Rattle.call_journal.specs.Sharing.{watch_step, watch_of, called_step, is_called_back}
use Rattle.call_journal.specs.Units.{units_of}

-- a trace that grows costs no less
abbrev pub UnitsNeverFall : Type 0
UnitsNeverFall = (trace more : List Rec) → units_of trace ≤ units_of (trace ++ more)

-- its journal only grows, at the end
abbrev pub JournalsGrow : Type 0
JournalsGrow = (trace more : List Rec) → journal_of (trace ++ more) ≡ journal_of trace ++ journal_of more

-- what stands before a place are the records of the trace up to there, the state is that of their journal, and each record is seen
-- with what its entry makes
pub record IsToldBy (c : Description) (trace : List Rec) (past : Past) : Type 0 where
  pub records : past.records ≡ trace
  pub unix : past.unix ≡ state_of c (journal_of trace)
  pub seen : past.seen ≡ seen_of c trace

abbrev pub PastsAreTold : Type 0
PastsAreTold = (c : Description) (trace : List Rec) → IsToldBy c trace (past_of c trace)

-- what a place looks back on is told record by record: the modes of files at kernels and the stamps that they took, the blocks
-- that they hold, where files are open, a process's last issue and how far it is with its calls, whether a file is called back, the
-- records before a block came in, whether its version is old, what licenses a stop, and the records since the last of a kind
pub record LookBacksGrow : Type 0 where
  pub modes : (kernel : ℕ) (file : FileId) (rs : List Rec) (r : Rec) → mode_of kernel file (rs ++ r ∷ []) ≡ mode_step kernel file rs r (mode_of kernel file rs)
  pub stamps : (kernel : ℕ) (file : FileId) (rs : List Rec) (r : Rec) → last_stamp kernel file (rs ++ r ∷ []) ≡ stamp_step kernel file rs r (last_stamp kernel file rs)
  pub blocks : (kernel : ℕ) (rs : List Rec) (r : Rec) → held_of kernel (rs ++ r ∷ []) ≡ held_step kernel rs r (held_of kernel rs)
  pub opens : (file : FileId) (rs : List Rec) (r : Rec) → opens_of file (rs ++ r ∷ []) ≡ opens_step file rs r (opens_of file rs)
  pub issues : (pid : ℕ) (rs : List Rec) (r : Rec) → last_issue pid (rs ++ r ∷ []) ≡ issue_step pid rs r (last_issue pid rs)
  pub calls : (pid : ℕ) (rs : List Rec) (r : Rec) → progress_of pid (rs ++ r ∷ []) ≡ progress_step pid rs r (progress_of pid rs)
  pub callbacks : (file : FileId) (rs : List Rec) (r : Rec) → is_called_back file (rs ++ r ∷ []) ≡ called_step file rs r (is_called_back file rs)
  pub fills : (kernel : ℕ) (file : FileId) (block : BlockNo) (rs : List Rec) (r : Rec) → before_filled kernel file block (rs ++ r ∷ []) ≡ filled_step kernel file block rs r (before_filled kernel file block rs)
  pub versions : (kernel : ℕ) (file : FileId) (block : BlockNo) (ss : List Seen) (s : Seen) → is_outdated kernel file block (ss ++ s ∷ []) ≡ outdated_step kernel file block ss s (is_outdated kernel file block ss)
  pub licences : (file : FileId) (ss : List Seen) (s : Seen) → watch_of file (ss ++ s ∷ []) ≡ watch_step file ss s (watch_of file ss)
  pub sinces : (test : Rec → Bool) (rs : List Rec) (r : Rec) → since_last test (rs ++ r ∷ []) ≡ (if test r then [] else since_last test rs ++ r ∷ [])
