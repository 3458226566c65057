-- A sync of a file.
use Rattle.std.specs.Prelude.{ℕ, Bool, if◌then◌else◌, List, [], ◌∷◌, Option, Some, None, is_some}
use Rattle.sprite_ids.specs.declared.TxNo.{TxNo}
use Rattle.sprite_ids.specs.declared.FileId.{FileId}
use Rattle.sprite_ids.specs.declared.BlockNo.{BlockNo}
use Rattle.block_cache.specs.Blocks.{dirty_at}
use Rattle.client_file_tables.specs.declared.ClientFiles.{ClientFiles}
use Rattle.client_file_tables.specs.declared.Pending.TheVariants as operations
use Rattle.client_file_tables.specs.declared.SyncCall.{SyncCall}
use Rattle.client_file_tables.specs.declared.SyncState.{SyncState}
use Rattle.client_file_tables.specs.declared.SyncState.TheVariants.{Looking, WaitOther, WaitOwn}
use Rattle.client_file_tables.specs.Calls.{sync_call}
use Rattle.client_file_tables.specs.Says.{answers_here, about_of, plain_value, expects}
use Rattle.client_file_tables.specs.Steps.{keeps}
use Rattle.client_file_tables.specs.WriteBacks.{current_write_back}
use Rattle.client_data.specs.WriteBacks.{sends_back}

-- whether the block is dirty
abbrev pub is_dirty : FileId → ClientFiles → BlockNo → Bool
is_dirty file s block = is_some (dirty_at s.cache.blocks file block.0)

-- those of the blocks that are dirty
abbrev pub dirty_of : FileId → ClientFiles → List BlockNo → List BlockNo
dirty_of file s [] = []
dirty_of file s (block ∷ blocks) = if is_dirty file s block then block ∷ dirty_of file s blocks else dirty_of file s blocks

-- the first block
abbrev pub first_todo : List BlockNo → Option BlockNo
first_todo [] = None
first_todo (block ∷ blocks) = Some block

-- the sync waits
abbrev pub keeps_sync : ℕ → SyncCall → SyncState → ClientFiles → ClientFiles
keeps_sync pid call state s = keeps pid (operations.Sync (record call { state = state })) s

-- the call takes effect
abbrev pub ends_sync : ℕ → SyncCall → ClientFiles → ClientFiles
ends_sync pid call s = answers_here (about_of pid call.number) (sync_call call) (plain_value 0) s

-- the block goes to the server
abbrev pub syncs_by : ℕ → SyncCall → BlockNo → ℕ → ClientFiles → ClientFiles
syncs_by pid call block number s =
    keeps_sync pid call (WaitOwn s.out.next) (expects pid s.out.next (sends_back call.file block number (Some (about_of pid call.number)) s))

abbrev pub syncs_dirty : ℕ → SyncCall → BlockNo → Option ℕ → ClientFiles → ClientFiles
syncs_dirty pid call block (Some number) s = syncs_by pid call block number s
syncs_dirty pid call block None s = keeps_sync pid call Looking s

abbrev pub syncs_own : ℕ → SyncCall → BlockNo → ClientFiles → ClientFiles
syncs_own pid call block s = syncs_dirty pid call block (dirty_at s.cache.blocks call.file block.0) s

-- or the answer to a write-back of it that is out is waited for
abbrev pub syncs_out : ℕ → SyncCall → BlockNo → Option TxNo → ClientFiles → ClientFiles
syncs_out pid call block (Some tx) s = keeps_sync pid call (WaitOther tx) s
syncs_out pid call block None s = syncs_own pid call block s

abbrev pub syncs_block : ℕ → SyncCall → BlockNo → ClientFiles → ClientFiles
syncs_block pid call block s = syncs_out pid call block (current_write_back call.file block s) s

-- the first block that is still dirty; where none is, the call takes effect
abbrev pub syncs_first : ℕ → SyncCall → Option BlockNo → ClientFiles → ClientFiles
syncs_first pid call (Some block) s = syncs_block pid call block s
syncs_first pid call None s = ends_sync pid call s

abbrev pub syncs_on : ℕ → SyncCall → ClientFiles → ClientFiles
syncs_on pid call s = syncs_first pid call (first_todo call.todo) s

abbrev pub syncs : ℕ → SyncCall → ClientFiles → ClientFiles
syncs pid call s = syncs_on pid (record call { todo = dirty_of call.file s call.todo }) s
