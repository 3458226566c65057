-- Write-backs and their answers.
use Rattle.std.specs.Prelude.{ℕ, Bool, if◌then◌else◌, List, [], ◌∷◌, ◌++◌, Option, Some, None}
use Rattle.sprite_ids.specs.declared.TxNo.{TxNo}
use Rattle.sprite_ids.specs.declared.FileId.{FileId}
use Rattle.sprite_ids.specs.declared.BlockNo.{BlockNo}
use Rattle.sprite_ids.specs.declared.Tries.TheVariants.{Always}
use Rattle.packet_bodies.specs.declared.Request.{Request}
use Rattle.packet_bodies.specs.declared.Request.TheVariants as requests
use Rattle.packet_bodies.specs.declared.ReplyBody.{ReplyBody}
use Rattle.packet_bodies.specs.declared.ReplyBody.TheVariants.{Again}
use Rattle.unix_calls.specs.declared.About.{About}
use Rattle.unix_calls.specs.declared.Event.TheVariants.{WroteBack}
use Rattle.unix_calls.specs.declared.SendKind.TheVariants as kinds
use Rattle.kernel_steps.specs.declared.Sending.{Sending}
use Rattle.block_cache.specs.Ranges.{cut}
use Rattle.block_cache.specs.Blocks.{bytes_at, dirty_at}
use Rattle.block_cache.specs.Held.{is_written_back, after_write_back}
use Rattle.write_delay.specs.Delays.{listed}
use Rattle.client_file_tables.specs.declared.ClientFiles.{ClientFiles}
use Rattle.client_file_tables.specs.declared.WriteBackOut.{WriteBackOut}
use Rattle.client_file_tables.specs.Rows.{first_call, less_call}
use Rattle.client_file_tables.specs.Says.{notes, sends, to_one}
use Rattle.client_file_tables.specs.Steps.{wakes_all}
use Rattle.client_file_tables.specs.Blocks.{state_in, with_cache}
use Rattle.client_file_tables.specs.WriteBacks.{lists_free}
use Rattle.client_data.specs.Grants.{takes_grant, cleans_one}
use Rattle.client_data.specs.SyncAnswers.{answers_sync}

-- the block's bytes that lie before the file's size
abbrev pub bytes_in : FileId → BlockNo → ClientFiles → List ℕ
bytes_in file block s = cut (bytes_at s.cache.blocks file block.0) block.0 (state_in file s).size

-- the request that brings the block
abbrev pub write_back_body : FileId → BlockNo → ClientFiles → Request
write_back_body file block s =
    requests.WriteBack (record { file = file; stamp = (state_in file s).stamp; block = block; size = (state_in file s).size; bytes = bytes_in file block s })

abbrev pub write_back_sending : FileId → BlockNo → Option About → ClientFiles → Sending
write_back_sending file block about s = to_one file.server Always about (write_back_body file block s)

-- the write-back waits for its answer
abbrev pub puts_out : TxNo → FileId → BlockNo → ℕ → ClientFiles → ClientFiles
puts_out tx file block number s =
    record s { write_backs = s.write_backs ++ (tx, record { file = file; block = block; stamp = (state_in file s).stamp; number = number }) ∷ [] }

-- the block goes to the file's server: a WritingBack of a dirty block
abbrev pub sends_back : FileId → BlockNo → ℕ → Option About → ClientFiles → ClientFiles
sends_back file block number about s =
    cleans_one file block
    (puts_out s.out.next file block number (sends (write_back_sending file block about s) (kinds.WriteBack file block) s))

-- a block with that dirty number goes, for no call's sake; one that isn't dirty stays
abbrev pub due_by : Option ℕ → FileId → BlockNo → ClientFiles → ClientFiles
due_by (Some number) file block s = sends_back file block number None s
due_by None file block s = s

abbrev pub due_goes : FileId → BlockNo → ClientFiles → ClientFiles
due_goes file block s = due_by (dirty_at s.cache.blocks file block.0) file block s

-- a block that became clean is noted
abbrev pub notes_back : Bool → WriteBackOut → ClientFiles → ClientFiles
notes_back clean sent s = if clean then notes (WroteBack sent.file sent.block) s else s

-- the block is clean, where it is still dirty with the number that went, under the stamp under which it went
abbrev pub cleans_back : WriteBackOut → ClientFiles → ClientFiles
cleans_back sent s =
    notes_back (is_written_back s.cache sent.file sent.stamp sent.block.0 sent.number) sent
    (with_cache (after_write_back s.cache sent.file sent.stamp sent.block.0 sent.number) s)

-- what the answer to a write-back does to the block
abbrev pub settles_back : ReplyBody → WriteBackOut → ClientFiles → ClientFiles
settles_back (Again grant) sent s = takes_grant grant s
settles_back _ sent s = cleans_back sent s

-- a dirty block waits to be written back, unless it does already or has a current write-back
abbrev pub lists_dirty : FileId → BlockNo → ClientFiles → ClientFiles
lists_dirty file block s = if listed s.delay file block then s else lists_free file block s

abbrev pub lists_by : Option ℕ → FileId → BlockNo → ClientFiles → ClientFiles
lists_by (Some number) file block s = lists_dirty file block s
lists_by None file block s = s

abbrev pub lists_again : FileId → BlockNo → ClientFiles → ClientFiles
lists_again file block s = lists_by (dirty_at s.cache.blocks file block.0) file block s

-- the answer to a write-back that is out: the Delivering of a WriteBack
abbrev pub done_back : TxNo → ReplyBody → WriteBackOut → ClientFiles → ClientFiles
done_back tx body sent s = answers_sync tx body (wakes_all tx (lists_again sent.file sent.block (settles_back body sent s)))

abbrev pub done_first : TxNo → ReplyBody → Option WriteBackOut → ClientFiles → ClientFiles
done_first tx body (Some sent) s = done_back tx body sent s
done_first tx body None s = s

-- an answer to no write-back that is out does nothing
abbrev pub written_back : TxNo → ReplyBody → ClientFiles → ClientFiles
written_back tx body s = done_first tx body (first_call tx s.write_backs) (record s { write_backs = less_call tx s.write_backs })
