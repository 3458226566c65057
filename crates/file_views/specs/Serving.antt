-- How the server takes up requests.
use Rattle.std.specs.Prelude.{ℕ, ◌+◌, ◌*◌, ◌==◌, nat_lt, true, ◌&&◌, if◌then◌else◌, List, [], ◌∷◌, ◌++◌, length, take, drop, filter, Option, None}
use Rattle.std.specs.List.{list_any}
use Rattle.sprite_ids.specs.declared.BlockNo.{BlockNo}
use Rattle.sprite_ids.specs.declared.StreamNo.{StreamNo}
use Rattle.sprite_ids.specs.declared.errno.Errno.TheVariants as errno
use Rattle.file_views.specs.declared.body.Access.{Access}
use Rattle.file_views.specs.declared.body.Access.TheVariants as access
use Rattle.file_views.specs.declared.body.FileBody.{FileBody}
use Rattle.file_views.specs.declared.body.FileBody.TheVariants as form
use Rattle.file_views.specs.declared.call.FileCall.{FileCall}
use Rattle.file_views.specs.declared.opens.Open.{Open}
use Rattle.file_views.specs.declared.view.View.{View}
use Rattle.file_views.specs.Setting.{Setting}
use Rattle.file_views.specs.Contents.{overlay, put_block}
use Rattle.file_views.specs.Streams.{same_stream, take_off, is_any}
use Rattle.file_views.specs.Views.{current_stamp, is_holder, busy, waiting_calls, answer, remove_call, to_the_end}
use Rattle.file_views.specs.Grants.{asks, decide, settle, current_grant}

-- the shared streams that some kernel still has open
abbrev pub still_shared : List StreamNo → List Open → List StreamNo
still_shared shared opens = filter (λ stream. list_any (λ one. same_stream stream one.stream) opens) shared

-- the view with fewer opens: without any the file may be cached again
abbrev pub with_opens : View → List Open → View
with_opens v opens = record v { opens = opens; shared = still_shared v.shared opens; uncached = v.uncached && is_any opens }

-- a close takes its grants off
abbrev pub close : View → FileCall → StreamNo → ℕ → View
close v one stream grants = answer (with_opens v (take_off v.opens stream one.from grants)) one form.Done

-- the bytes after an operation at the server; an append that would pass the limit changes nothing
abbrev pub bytes_after : Setting → List ℕ → Access → List ℕ
bytes_after z bytes (access.Read from length) = bytes
bytes_after z bytes (access.Write from new) = overlay bytes from new
bytes_after z bytes (access.Append new) = if nat_lt z.most (length bytes + length new) then bytes else bytes ++ new

-- what it answers: the number of bytes first, and of an append the place behind them second
abbrev pub op_reply : Setting → List ℕ → Access → FileBody
op_reply z bytes (access.Read from many) = form.Value (length (take many (drop from bytes))) 0 (take many (drop from bytes))
op_reply z bytes (access.Write from new) = form.Value (length new) 0 []
op_reply z bytes (access.Append new) = if nat_lt z.most (length bytes + length new) then form.Refused errno.TooBig else form.Value (length new) (length bytes + length new) []

-- an operation is done on the server's bytes
abbrev pub data_op : Setting → View → FileCall → Access → View
data_op z v one way = answer (record v { bytes = bytes_after z v.bytes way }) one (op_reply z v.bytes way)

-- the bytes of a block at the server, perhaps fewer than a block
abbrev pub block_of : Setting → List ℕ → BlockNo → List ℕ
block_of z bytes block = take z.block (drop (block.0 * z.block) bytes)

-- a block of a client is stored
abbrev pub store : Setting → View → FileCall → BlockNo → ℕ → List ℕ → View
store z v one block size piece = answer (record v { bytes = put_block z v.bytes block.0 size piece }) one form.Done

-- a request whose stamp isn't its kernel's current one changes nothing
abbrev pub refuse_old : View → FileCall → View
refuse_old v one = answer v one (form.Again (current_grant v one.from))

-- a request is taken up while the file isn't busy
abbrev pub serve_body : Setting → View → FileCall → FileBody → View
serve_body z v one (form.Opening pid number stream mode truncate) = decide z v one
serve_body z v one (form.Move stream target kept grants) = decide z v one
serve_body z v one (form.Close stream grants) = close v one stream grants
serve_body z v one (form.Fetch stamp block) = if stamp == current_stamp v one.from then answer v one (form.Block stamp (block_of z v.bytes block)) else refuse_old v one
serve_body z v one (form.WriteBack stamp block size piece) = if stamp == current_stamp v one.from then store z v one block size piece else refuse_old v one
serve_body z v one (form.Op pid number stamp stream way) = if stamp == current_stamp v one.from then data_op z v one way else refuse_old v one
serve_body z v one body = v

abbrev pub serve : Setting → View → FileCall → View
serve z v one = serve_body z v one one.body

-- what waits is taken up in order, until the file is busy
abbrev pub serve_all : Setting → List FileCall → View → View
serve_all z [] v = v
serve_all z (one ∷ rest) v = if busy v then v else serve_all z rest (serve z v one)

-- a request comes to the server: it waits while the file is busy
abbrev pub request_comes : Setting → View → FileCall → View
request_comes z v one = if busy v then to_the_end v one else serve z (to_the_end v one) (record one { taken = true })

-- the blocks of an answer to a callback are stored with its size
abbrev pub store_blocks : Setting → List ℕ → ℕ → List (BlockNo × List ℕ) → List ℕ
store_blocks z bytes size [] = bytes
store_blocks z bytes size (piece ∷ rest) = store_blocks z (put_block z bytes piece.0.0 size piece.1) size rest

-- a kernel that answers a callback is the holder no more
abbrev pub holder_answered : View → ℕ → Option ℕ
holder_answered v kernel = if is_holder v kernel then None else v.holder

abbrev pub flushed : Setting → View → FileCall → ℕ → List (BlockNo × List ℕ) → View
flushed z v one size blocks = remove_call (record v { bytes = store_blocks z v.bytes size blocks; holder = holder_answered v one.to }) one.number

-- after the last answer what asked is granted, and what waits behind it is taken up
abbrev pub resume : Setting → List FileCall → View → View
resume z [] v = v
resume z (one ∷ rest) v = if asks one.body then serve_all z rest (settle v one) else serve_all z (one ∷ rest) v

abbrev pub resumed : Setting → View → View
resumed z v = if busy v then v else resume z (waiting_calls v) v

-- an answer to a callback comes
abbrev pub callback_answered : Setting → View → FileCall → ℕ → List (BlockNo × List ℕ) → View
callback_answered z v one size blocks = resumed z (flushed z v one size blocks)
