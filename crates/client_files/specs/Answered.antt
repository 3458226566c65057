-- Answers to remote calls of this side of the kernel.
use Rattle.std.specs.Prelude.{ℕ, if◌then◌else◌, Option, Some, None}
use Rattle.std.specs.List.{list_any}
use Rattle.sprite_ids.specs.declared.TxNo.{TxNo}
use Rattle.packet_bodies.specs.declared.ReplyBody.{ReplyBody}
use Rattle.packet_bodies.specs.declared.ReplyBody.TheVariants as replies
use Rattle.kernel_steps.specs.Rows.{is_under}
use Rattle.client_file_tables.specs.declared.ClientFiles.{ClientFiles}
use Rattle.client_file_tables.specs.declared.MoveWork.{MoveWork}
use Rattle.client_file_tables.specs.declared.Pending.{Pending}
use Rattle.client_file_tables.specs.declared.Pending.TheVariants.{Name, Data, Sync, Close, Move}
use Rattle.client_file_tables.specs.Rows.{same_call, first_of, less_of, first_call, less_call}
use Rattle.client_file_tables.specs.Steps.{keeps}
use Rattle.client_names.specs.Answers.{takes_end}
use Rattle.client_streams.specs.Closing.{close_answers}
use Rattle.client_streams.specs.Moving.{move_answers}
use Rattle.client_data.specs.Replies.{data_answered}
use Rattle.client_data.specs.WriteBacks.{written_back}
use Rattle.client_files.specs.Asked.{answers_name}

-- a move was answered; no other body answers it
abbrev pub answers_move : ℕ → MoveWork → ReplyBody → ClientFiles → ClientFiles
answers_move pid work (replies.Moved grant many) s = move_answers pid work grant many s
answers_move pid work _ s = keeps pid (Move work) s

-- the answer is for the process's operation, which is taken out; a sync waits for write-backs alone
abbrev pub answered_by : Option Pending → ℕ → ℕ → ReplyBody → ClientFiles → ClientFiles
answered_by (Some (Name call)) pid source body s = answers_name pid call source body s
answered_by (Some (Data call)) pid source body s = data_answered pid call body s
answered_by (Some (Sync call)) pid source body s = keeps pid (Sync call) s
answered_by (Some (Close work)) pid source body s = close_answers pid work s
answered_by (Some (Move work)) pid source body s = answers_move pid work body s
answered_by None pid source body s = s

abbrev pub answered_for : TxNo → ℕ → ℕ → ReplyBody → ClientFiles → ClientFiles
answered_for tx pid source body s =
    if takes_end tx (first_of pid s.pending) then answered_by (first_of pid s.pending) pid source body (record s { pending = less_of pid s.pending }) else s

abbrev pub answered_first : Option ℕ → TxNo → ℕ → ReplyBody → ClientFiles → ClientFiles
answered_first (Some pid) tx source body s = answered_for tx pid source body s
answered_first None tx source body s = s

-- a remote call was answered: a write-back, or one for which a process's operation waits
abbrev pub answered : TxNo → ℕ → ReplyBody → ClientFiles → ClientFiles
answered tx source body s =
    if list_any (is_under same_call tx) s.write_backs then written_back tx body s
    else answered_first (first_call tx s.txs) tx source body (record s { txs = less_call tx s.txs })
