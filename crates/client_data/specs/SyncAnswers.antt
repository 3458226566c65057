-- A sync whose own write-back was answered.
use Rattle.std.specs.Prelude.{ℕ, List, [], ◌∷◌, Option, Some, None}
use Rattle.sprite_ids.specs.declared.TxNo.{TxNo}
use Rattle.sprite_ids.specs.declared.BlockNo.{BlockNo}
use Rattle.packet_bodies.specs.declared.ReplyBody.{ReplyBody}
use Rattle.packet_bodies.specs.declared.ReplyBody.TheVariants.{Again}
use Rattle.client_file_tables.specs.declared.ClientFiles.{ClientFiles}
use Rattle.client_file_tables.specs.declared.Pending.{Pending}
use Rattle.client_file_tables.specs.declared.Pending.TheVariants as operations
use Rattle.client_file_tables.specs.declared.SyncCall.{SyncCall}
use Rattle.client_file_tables.specs.declared.SyncState.TheVariants.{Looking}
use Rattle.client_file_tables.specs.Rows.{first_call, less_call, first_of, less_of}
use Rattle.client_file_tables.specs.Steps.{keeps, starts}

-- all blocks but the first
abbrev pub rest_of : List BlockNo → List BlockNo
rest_of [] = []
rest_of (first ∷ rest) = rest

-- the server has the first block, unless it gave a grant in its place
abbrev pub after_answer : SyncCall → ReplyBody → SyncCall
after_answer call (Again grant) = record call { state = Looking }
after_answer call _ = record call { todo = rest_of call.todo; state = Looking }

-- the sync looks at its blocks anew
abbrev pub go_on_by : ℕ → Pending → ReplyBody → ClientFiles → ClientFiles
go_on_by pid (operations.Sync call) body s = starts pid (operations.Sync (after_answer call body)) s
go_on_by pid operation body s = keeps pid operation s

abbrev pub go_on_first : ℕ → Option Pending → ReplyBody → ClientFiles → ClientFiles
go_on_first pid (Some operation) body s = go_on_by pid operation body s
go_on_first pid None body s = s

abbrev pub sync_answered : ℕ → ReplyBody → ClientFiles → ClientFiles
sync_answered pid body s = go_on_first pid (first_of pid s.pending) body (record s { pending = less_of pid s.pending })

-- the process that sent the write-back, where it was a sync's own
abbrev pub answers_by : Option ℕ → ReplyBody → ClientFiles → ClientFiles
answers_by (Some pid) body s = sync_answered pid body s
answers_by None body s = s

abbrev pub answers_sync : TxNo → ReplyBody → ClientFiles → ClientFiles
answers_sync tx body s = answers_by (first_call tx s.txs) body (record s { txs = less_call tx s.txs })
