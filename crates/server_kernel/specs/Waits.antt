-- Answers to callbacks, the grant after the last of them, and what waited for it.
use Rattle.std.specs.Prelude.{ℕ, zero, suc, ◌==◌, Bool, ◌&&◌, if◌then◌else◌, List, [], ◌∷◌, length, Option, Some, None}
use Rattle.sprite_ids.specs.declared.TxNo.{TxNo}
use Rattle.sprite_ids.specs.declared.BlockNo.{BlockNo}
use Rattle.sprite_ids.specs.declared.FileId.{FileId}
use Rattle.sprite_ids.specs.declared.Flushed.{Flushed}
use Rattle.sprite_ids.specs.declared.Grant.{Grant}
use Rattle.sprite_ids.specs.Lists.{less}
use Rattle.kernel_steps.specs.Rows.{is_under, first_under}
use Rattle.version_table.specs.Files as tables
use Rattle.version_table.specs.Versions.{with_file}
use Rattle.server_kernel.specs.declared.asked.Asked.{Asked}
use Rattle.server_kernel.specs.declared.asked.CallOut.{CallOut}
use Rattle.server_kernel.specs.declared.server.Server.{Server}
use Rattle.server_kernel.specs.Files.{kept_of, is_busy, block_put_in, with_versions}
use Rattle.server_kernel.specs.Grants.{grants}
use Rattle.server_kernel.specs.Served.{serves}

-- whether a row is about that file
abbrev pub is_about : FileId → FileId → Bool
is_about other file = (other.server == file.server) && (other.number == file.number)

-- whether the two are one remote call
abbrev pub is_call : TxNo → TxNo → Bool
is_call other tx = other.0 == tx.0

-- the first request that is kept for the file, and the others
abbrev pub first_about : FileId → List (FileId × Asked) → Option Asked
first_about file rows = first_under is_about file rows

abbrev pub less_about : FileId → List (FileId × Asked) → List (FileId × Asked)
less_about file rows = less (is_under is_about file) rows

-- the first that waits for the file is served, unless the file is busy
abbrev pub serves_first : Option Asked → Server → Server
serves_first (Some asked) s = serves asked s
serves_first None s = s

abbrev pub turned : FileId → Server → Server
turned file s = if is_busy file s then s else serves_first (first_about file s.waiting) (record s { waiting = less_about file s.waiting })

-- as many turns
abbrev pub turns : ℕ → FileId → Server → Server
turns zero file s = s
turns (suc count) file s = turned file (turns count file s)

-- what waits for the file is served, in order of arrival, until it is busy again
abbrev pub serves_waiting : FileId → Server → Server
serves_waiting file s = turns (length s.waiting) file s

-- the table of opens after the open or move that waited is granted
abbrev pub with_settled : FileId → Server → Server
with_settled file s = with_versions (with_file s.versions.files file (tables.settled (kept_of file s))) s

-- what asked is granted, and what waited is served
abbrev pub settles_by : Asked → FileId → Option Grant → Server → Server
settles_by asked file (Some grant) s = serves_waiting file (grants asked file grant (with_settled file s))
settles_by asked file None s = s

abbrev pub settles_for : Asked → FileId → Server → Server
settles_for asked file s = if tables.is_ready (kept_of file s) then settles_by asked file (tables.settled_grant (kept_of file s)) s else s

abbrev pub settles_first : FileId → Option Asked → Server → Server
settles_first file (Some asked) s = settles_for asked file s
settles_first file None s = s

-- once all callbacks are answered
abbrev pub settles : FileId → Server → Server
settles file s =
    if tables.is_ready (kept_of file s) then settles_first file (first_about file s.asking) (record s { asking = less_about file s.asking }) else s

-- the table of opens after a kernel's answer
abbrev pub with_answer : CallOut → Server → Server
with_answer call s = with_versions (with_file s.versions.files call.file (tables.answered (kept_of call.file s) call.kernel)) s

-- a kernel has answered
abbrev pub hears : CallOut → Server → Server
hears call s = if is_busy call.file s then settles call.file (with_answer call s) else s

-- the blocks are stored, one after the other
abbrev pub puts_all : FileId → ℕ → List (BlockNo × List ℕ) → Server → Server
puts_all file size [] s = s
puts_all file size (block ∷ blocks) s = puts_all file size blocks (block_put_in file block.0 size block.1 s)

-- an answer to a callback: the Delivering of that Callback
abbrev pub flushes_call : CallOut → Flushed → Server → Server
flushes_call call flushed s = hears call (puts_all call.file flushed.size flushed.blocks s)

abbrev pub flushes_first : Flushed → Option CallOut → Server → Server
flushes_first flushed (Some call) s = flushes_call call flushed s
flushes_first flushed None s = s

-- an answer to no callback that is out does nothing
abbrev pub flushes : TxNo → Flushed → Server → Server
flushes tx flushed s =
    flushes_first flushed (first_under is_call tx s.callbacks) (record s { callbacks = less (is_under is_call tx) s.callbacks })
