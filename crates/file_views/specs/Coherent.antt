-- When a view is coherent with the bytes that it should stand for.
use Rattle.std.specs.Prelude.{ℕ, ◌==◌, nat_le, nat_lt, Bool, true, false, ◌&&◌, ◌||◌, not, is_some, if◌then◌else◌, List, [], ◌∷◌, length, Option, Some, None}
use Rattle.std.specs.List.{list_any, list_all}
use Rattle.std.specs.Cmp.Lexicographic.{pointwise}
use Rattle.sprite_ids.specs.declared.BlockNo.{BlockNo}
use Rattle.file_views.specs.declared.grant.FileGrant.{FileGrant}
use Rattle.file_views.specs.declared.body.FileBody.{FileBody}
use Rattle.file_views.specs.declared.body.FileBody.TheVariants as form
use Rattle.file_views.specs.declared.client.Held.{Held}
use Rattle.file_views.specs.declared.client.Client.{Client}
use Rattle.file_views.specs.declared.call.FileCall.{FileCall}
use Rattle.file_views.specs.declared.view.View.{View}
use Rattle.file_views.specs.Setting.{Setting}
use Rattle.file_views.specs.Contents.{whole, part, same_bytes}
use Rattle.file_views.specs.Streams.{is_any}
use Rattle.file_views.specs.Clients.{is_on, held, same_number, dirty_blocks, take_grant, fill}
use Rattle.file_views.specs.Views.{client, kernels, current_stamp, mode_given, find_call, things, busy, waiting_calls}
use Rattle.file_views.specs.Grants.{asks}
use Rattle.file_views.specs.Serving.{serve}
use Rattle.file_views.specs.Same.{same_mode, same_held, same_but_calls}
use Rattle.file_views.specs.Waits.{implies, defers_all}
use Rattle.file_views.specs.Settled.{due_stamp, goes_to, arrival, dues, settled, stands_for, is_trusted}

-- 1. the view stands for the bytes
abbrev pub stands : Setting → View → List ℕ → Bool
stands z v bytes = same_bytes (stands_for z v) bytes

-- whether each block is its part of the bytes
abbrev pub are_parts : Setting → List ℕ → List Held → Bool
are_parts z bytes blocks = list_all (λ one. same_bytes one.bytes (part z bytes one.block.0)) blocks

-- whether a client has a stream and uses its cache
abbrev pub works_cached : Client → Bool
works_cached c = is_on c.mode && is_any c.streams

-- 2. each block of a kernel that is trusted in the settled view, and each block of one that uses its cache and has a stream
-- installed, is its part of the bytes; such a one's size is theirs
abbrev pub blocks_are_good : Setting → View → List ℕ → ℕ → Bool
blocks_are_good z v bytes kernel =
    implies (is_trusted (settled z v) kernel) (are_parts z bytes (client (settled z v) kernel).blocks)
    && implies (works_cached (client v kernel)) (((client v kernel).size == length bytes) && are_parts z bytes (client v kernel).blocks)

-- whether the settled view's holder is that kernel, and has dirty blocks
abbrev pub counts_dirty : View → Option ℕ → Bool
counts_dirty v (Some kernel) = is_any (dirty_blocks (client v kernel).blocks)
counts_dirty v None = false

-- whether the kernel isn't the holder
abbrev pub is_other : ℕ → Option ℕ → Bool
is_other kernel (Some holder) = not (holder == kernel)
is_other kernel None = true

-- 3. while the holder has dirty blocks that count, no other kernel with a stream installed uses its cache
abbrev pub writes_alone : Setting → View → ℕ → Bool
writes_alone z v kernel = implies (counts_dirty (settled z v) (settled z v).holder && is_other kernel (settled z v).holder) (not (works_cached (client v kernel)))

-- 4. a kernel's stamp is at most its current one, and less only while a grant or callback with that one is on its way; with
-- equal stamps the modes agree
abbrev pub stamps_agree : View → ℕ → Bool
stamps_agree v kernel =
    nat_le (client v kernel).stamp (current_stamp v kernel)
    && (implies (nat_lt (client v kernel).stamp (current_stamp v kernel)) (list_any (λ one. due_stamp one == current_stamp v kernel) (dues v kernel))
    && implies ((client v kernel).stamp == current_stamp v kernel) (same_mode (client v kernel).mode (mode_given v kernel)))

-- whether the reply is that
abbrev pub is_done : Option FileBody → Bool
is_done (Some form.Done) = true
is_done reply = false

abbrev pub is_again : Option FileBody → Bool
is_again (Some (form.Again grant)) = true
is_again reply = false

-- whether a fetch with the current stamp has, or will have, its part of the bytes
abbrev pub fetches_part : Setting → View → List ℕ → ℕ → Option FileBody → Bool
fetches_part z v bytes number (Some (form.Block stamp piece)) = same_bytes (whole z piece) (part z bytes number)
fetches_part z v bytes number (Some reply) = true
fetches_part z v bytes number None = busy v || same_bytes (part z v.bytes number) (part z bytes number)

-- whether a write-back with the current stamp and the block's present number carries the block, and, once it is done, the
-- server has it
abbrev pub carries_block : Setting → View → ℕ → List ℕ → Option ℕ → Option FileBody → Option Held → Bool
carries_block z v number piece dirty reply (Some one) = implies (same_number one.dirty dirty) (same_bytes (whole z piece) one.bytes && implies (is_done reply) (same_bytes (part z v.bytes number) one.bytes))
carries_block z v number piece dirty reply None = true

-- the reply of a looked-up call
abbrev pub reply_in : Option FileCall → Option FileBody
reply_in (Some one) = one.reply
reply_in None = None

-- whether a request with an old stamp changes nothing but the calls when it is taken up
abbrev pub leaves_all : Setting → View → FileCall → Bool
leaves_all z v one = is_again (reply_in (find_call (serve z v one).calls one.number)) && same_but_calls (serve z v one) v

abbrev pub old_leaves_all : Setting → View → FileCall → Bool
old_leaves_all z v one = busy v || (is_some one.reply || leaves_all z v one)

-- whether two clients have the same blocks and the same mode
abbrev pub same_cache : Client → Client → Bool
same_cache c other = pointwise same_held c.blocks other.blocks && same_mode c.mode other.mode

-- whether a grant with an older stamp changes no block and no mode
abbrev pub old_is_nothing : Client → Option FileGrant → Bool
old_is_nothing c (Some grant) = implies (nat_lt grant.stamp c.stamp) (same_cache (take_grant c grant) c)
old_is_nothing c None = true

-- the grant of a reply Again
abbrev pub again_grant : Option FileBody → Option FileGrant
again_grant (Some (form.Again grant)) = Some grant
again_grant reply = None

-- whether a block with an older stamp changes no block and no mode
abbrev pub old_block_is_nothing : Setting → Client → BlockNo → Option FileBody → Bool
old_block_is_nothing z c block (Some (form.Block stamp piece)) = implies (nat_lt stamp c.stamp) (same_cache (fill z c stamp block piece) c)
old_block_is_nothing z c block reply = true

-- 5. what is on its way is right, or changes nothing
abbrev pub is_good_request : Setting → View → List ℕ → FileCall → FileBody → Bool
is_good_request z v bytes one (form.Fetch stamp block) = (if stamp == current_stamp v one.from then fetches_part z v bytes block.0 one.reply else old_leaves_all z v one) && old_block_is_nothing z (client v one.from) block one.reply
is_good_request z v bytes one (form.WriteBack stamp block size piece) = if stamp == current_stamp v one.from then carries_block z v block.0 piece one.dirty one.reply (held (client v one.from).blocks block.0) else old_leaves_all z v one
is_good_request z v bytes one (form.Op pid number stamp stream way) = (stamp == current_stamp v one.from) || old_leaves_all z v one
is_good_request z v bytes one body = true

abbrev pub requests_are_good : Setting → View → List ℕ → FileCall → Bool
requests_are_good z v bytes one = is_good_request z v bytes one one.body && old_is_nothing (client v one.from) (again_grant one.reply)

abbrev pub old_grants_are_nothing : View → FileCall → Bool
old_grants_are_nothing v one = old_is_nothing (client v (goes_to one)) (arrival one.reply)

-- 6. while the file is uncached and no callback is out, no kernel is trusted in the settled view
abbrev pub nobody_trusted : Setting → View → ℕ → Bool
nobody_trusted z v kernel = implies (v.uncached && not (busy v)) (not (is_trusted (settled z v) kernel))

-- whether the first of what waits asks for a grant
abbrev pub first_asks : List FileCall → Bool
first_asks [] = false
first_asks (one ∷ rest) = asks one.body

-- 7. while callbacks are out, what asked waits, first of all that wait, so it isn't granted; and whatever comes, no operation enters
-- at the server while one of them stays out, and no open is granted
abbrev pub asking_waits : View → Bool
asking_waits v = implies (busy v) (first_asks (waiting_calls v))

-- the seven parts
abbrev pub part_2 : Setting → View → List ℕ → Bool
part_2 z v bytes = list_all (blocks_are_good z v bytes) (kernels v)

abbrev pub part_3 : Setting → View → Bool
part_3 z v = list_all (writes_alone z v) (kernels v)

abbrev pub part_4 : View → Bool
part_4 v = list_all (stamps_agree v) (kernels v)

abbrev pub part_5 : Setting → View → List ℕ → Bool
part_5 z v bytes = list_all (requests_are_good z v bytes) v.calls && list_all (old_grants_are_nothing v) (things v)

abbrev pub part_6 : Setting → View → Bool
part_6 z v = list_all (nobody_trusted z v) (kernels v)

abbrev pub part_7 : Setting → View → Bool
part_7 z v = asking_waits v && defers_all z v

-- whether the view is coherent with the bytes
abbrev pub coherent : Setting → View → List ℕ → Bool
coherent z v bytes = stands z v bytes && (part_2 z v bytes && (part_3 z v && (part_4 v && (part_5 z v bytes && (part_6 z v && part_7 z v)))))
