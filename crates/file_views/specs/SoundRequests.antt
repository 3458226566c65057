-- The seventh layer of soundness: requests, blocks on their way, and sizes.
use Rattle.std.specs.Prelude.{◌≡◌, ◌≤◌, ◌<◌, ℕ, ◌+◌, ◌-◌, ◌*◌, ◌/◌, Bool, true, false, is_some, List, [], length, Option, Some, None}
use Rattle.sprite_ids.specs.declared.BlockNo.{BlockNo}
use Rattle.sprite_ids.specs.declared.StreamNo.{StreamNo}
use Rattle.file_views.specs.declared.body.Access.{Access}
use Rattle.file_views.specs.declared.body.Access.TheVariants as access
use Rattle.file_views.specs.declared.grant.FileGrant.{FileGrant}
use Rattle.file_views.specs.declared.body.FileBody.{FileBody}
use Rattle.file_views.specs.declared.body.FileBody.TheVariants as form
use Rattle.file_views.specs.declared.client.Held.{Held}
use Rattle.file_views.specs.declared.client.Client.{Client}
use Rattle.file_views.specs.declared.call.FileCall.{FileCall}
use Rattle.file_views.specs.declared.step.FileStep.{FileStep}
use Rattle.file_views.specs.declared.step.FileStep.TheVariants as act
use Rattle.file_views.specs.declared.view.View.{View}
use Rattle.file_views.specs.Setting.{Setting}
use Rattle.file_views.specs.Contents.{cut}
use Rattle.file_views.specs.Streams.{is_any}
use Rattle.file_views.specs.Clients.{is_on, held, same_number}
use Rattle.file_views.specs.Moves.{is_fetch}
use Rattle.file_views.specs.Here.{In, Pairs, IsClient, Here, at_kernel, EachNewer, Answered}
use Rattle.file_views.specs.SoundHolders.{Ready}

-- a looked-up block is held dirty
abbrev pub is_dirty_in : Option Held → Bool
is_dirty_in (Some one) = is_some one.dirty
is_dirty_in None = false

-- fetches and operations: without its cache a client has no block. It has one unfinished fetch at most, and then something waits;
-- a fetch with its own stamp is of an absent block before its end, while it uses its cache; with an operation of its own stamp it
-- doesn't use it
pub record Asking (z : Setting) (kernel : ℕ) (c : Client) (calls : List FileCall) : Type 0 where
  pub off_empty : is_on c.mode ≡ false → c.blocks ≡ []
  pub one_fetch : Pairs (λ one other. one.from ≡ kernel → other.from ≡ kernel → is_fetch one.body ≡ true → is_fetch other.body ≡ true → one.number ≡ other.number) calls
  pub fetch_waits : (one : FileCall) → In one calls → one.from ≡ kernel → is_fetch one.body ≡ true → is_any c.waiting ≡ true
  pub fetch_on : (one : FileCall) → In one calls → one.from ≡ kernel → (stamp : ℕ) (block : BlockNo) → one.body ≡ form.Fetch stamp block → stamp ≡ c.stamp → is_on c.mode ≡ true
  pub fetch_absent : (one : FileCall) → In one calls → one.from ≡ kernel → (stamp : ℕ) (block : BlockNo) → one.body ≡ form.Fetch stamp block → stamp ≡ c.stamp → held c.blocks block.0 ≡ None
  pub fetch_within : (one : FileCall) → In one calls → one.from ≡ kernel → (stamp : ℕ) (block : BlockNo) → one.body ≡ form.Fetch stamp block → stamp ≡ c.stamp → block.0 * z.block < c.size
  pub ops_off : (one : FileCall) → In one calls → one.from ≡ kernel → (pid number stamp : ℕ) (stream : StreamNo) (way : Access) → one.body ≡ form.Op pid number stamp stream way → stamp ≡ c.stamp → is_on c.mode ≡ false

-- a write-back of the kernel with that stamp
pub record WritesBack (kernel current : ℕ) (one : FileCall) (block : BlockNo) (size : ℕ) (piece : List ℕ) : Type 0 where
  pub from_kernel : one.from ≡ kernel
  pub is_write_back : one.body ≡ form.WriteBack current block size piece

-- the block is held with the call's dirty number
pub record Present (blocks : List Held) (number : ℕ) (dirty : Option ℕ) (one : Held) : Type 0 where
  pub found : held blocks number ≡ Some one
  pub same : same_number one.dirty dirty ≡ true

-- write-backs: one per block with the client's own stamp at most. A dirty block begins before the client's size. One with the current
-- stamp and the block's present number carries what of the block stood before the size that it carries; while it isn't served the block
-- is held dirty, its bytes stand before its size, and that is at most the client's. That of the last block carries the client's size
pub record WritingBacks (z : Setting) (kernel current : ℕ) (c : Client) (calls : List FileCall) : Type 0 where
  pub one_each : Pairs (λ one other. (block another : BlockNo) (size more : ℕ) (piece rest : List ℕ) → WritesBack kernel c.stamp one block size piece → WritesBack kernel c.stamp other another more rest → block.0 ≡ another.0 → one.number ≡ other.number) calls
  pub dirty_within : (one : Held) → In one c.blocks → is_some one.dirty ≡ true → one.block.0 * z.block < c.size
  pub carries : (one : FileCall) → In one calls → (block : BlockNo) (size : ℕ) (piece : List ℕ) → WritesBack kernel current one block size piece → (there : Held) → Present c.blocks block.0 one.dirty there → piece ≡ cut z there.bytes block.0 size
  pub held_dirty : (one : FileCall) → In one calls → (block : BlockNo) (size : ℕ) (piece : List ℕ) → WritesBack kernel current one block size piece → one.reply ≡ None → is_dirty_in (held c.blocks block.0) ≡ true
  pub under_size : (one : FileCall) → In one calls → (block : BlockNo) (size : ℕ) (piece : List ℕ) → WritesBack kernel current one block size piece → one.reply ≡ None → block.0 * z.block + length piece ≤ size
  pub size_under : (one : FileCall) → In one calls → (block : BlockNo) (size : ℕ) (piece : List ℕ) → WritesBack kernel current one block size piece → one.reply ≡ None → size ≤ c.size
  pub last_size : (one : FileCall) → In one calls → (block : BlockNo) (size : ℕ) (piece : List ℕ) → WritesBack kernel current one block size piece → one.reply ≡ None → (there : Held) → Present c.blocks block.0 one.dirty there → block.0 ≡ (c.size - 1) / z.block → size ≡ c.size

-- the holder's size is at least the server's; where it is more, the last block is dirty
pub record HolderSize (z : Setting) (c : Client) (bytes : List ℕ) : Type 0 where
  pub covers : length bytes ≤ c.size
  pub dirty : length bytes < c.size → is_dirty_in (held c.blocks ((c.size - 1) / z.block)) ≡ true

-- sizes: a newer grant On, and an Again On that is newer, has the size of the server's bytes. Once the write-back of the last block is
-- done, the server has the client's size. An answer to a callback that has blocks is the holder's, its bytes stand before its size, and
-- that isn't under the server's
pub record Sizes (z : Setting) (kernel version : ℕ) (c : Client) (holds : Bool) (bytes : List ℕ) (calls : List FileCall) : Type 0 where
  pub granted : EachNewer kernel c.stamp calls (λ one grant. grant.on ≡ true → grant.size ≡ length bytes)
  pub again : (one : FileCall) → In one calls → one.from ≡ kernel → (grant : FileGrant) → one.reply ≡ Some (form.Again grant) → c.stamp < grant.stamp → grant.on ≡ true → grant.size ≡ length bytes
  pub holder : Ready kernel c.stamp c.version version holds c.mode calls → (Answered kernel calls → ⊥) → HolderSize z c bytes
  pub done_size : (one : FileCall) → In one calls → (block : BlockNo) (size : ℕ) (piece : List ℕ) → WritesBack kernel c.stamp one block size piece → one.reply ≡ Some form.Done → (there : Held) → Present c.blocks block.0 one.dirty there → block.0 ≡ (c.size - 1) / z.block → length bytes ≡ c.size
  pub flushed_holder : (one : FileCall) → In one calls → one.to ≡ kernel → (size : ℕ) (blocks : List (BlockNo × List ℕ)) → one.reply ≡ Some (form.Flushed size blocks) → is_any blocks ≡ true → holds ≡ true
  pub flushed_covers : (one : FileCall) → In one calls → one.to ≡ kernel → (size : ℕ) (blocks : List (BlockNo × List ℕ)) → one.reply ≡ Some (form.Flushed size blocks) → is_any blocks ≡ true → length bytes ≤ size
  pub flushed_within : (one : FileCall) → In one calls → one.to ≡ kernel → (size : ℕ) (blocks : List (BlockNo × List ℕ)) → one.reply ≡ Some (form.Flushed size blocks) → (piece : BlockNo × List ℕ) → In piece blocks → piece.0.0 * z.block + length piece.1 ≤ size

-- where a reading, writing or append writes up to, as far as it tells
abbrev pub write_end : FileStep → ℕ
write_end (act.Writing pid number kernel stream from bytes) = from + length bytes
write_end step = 0

abbrev pub access_end : Access → ℕ
access_end (access.Write from bytes) = from + length bytes
access_end (access.Read from many) = 0
access_end (access.Append bytes) = 0

-- the size of a reply's grant
abbrev pub granted_size : Option FileBody → ℕ
granted_size (Some (form.Opened grant)) = grant.size
granted_size (Some (form.Again grant)) = grant.size
granted_size (Some (form.Moved (Some grant) grants)) = grant.size
granted_size reply = 0

-- no size, block or end of a write is past the most that a file may have
pub record Limited (z : Setting) (kernel : ℕ) (c : Client) (calls : List FileCall) : Type 0 where
  pub size : c.size ≤ z.most
  pub blocks : (one : Held) → In one c.blocks → one.block.0 * z.block < z.most
  pub waiting : (step : FileStep) → In step c.waiting → write_end step ≤ z.most
  pub operates : (one : FileCall) → In one calls → one.from ≡ kernel → (pid number stamp : ℕ) (stream : StreamNo) (way : Access) → one.body ≡ form.Op pid number stamp stream way → access_end way ≤ z.most
  pub writes_back : (one : FileCall) → In one calls → one.from ≡ kernel → (stamp size : ℕ) (block : BlockNo) (piece : List ℕ) → one.body ≡ form.WriteBack stamp block size piece → (size ≤ z.most) × (block.0 * z.block + length piece ≤ z.most)
  pub granted : (one : FileCall) → In one calls → granted_size one.reply ≤ z.most
  pub flushed : (one : FileCall) → In one calls → one.to ≡ kernel → (size : ℕ) (blocks : List (BlockNo × List ℕ)) → one.reply ≡ Some (form.Flushed size blocks) → size ≤ z.most
  pub flushed_blocks : (one : FileCall) → In one calls → one.to ≡ kernel → (size : ℕ) (blocks : List (BlockNo × List ℕ)) → one.reply ≡ Some (form.Flushed size blocks) → (piece : BlockNo × List ℕ) → In piece blocks → piece.0.0 * z.block + length piece.1 ≤ z.most

pub record LocalRequests (z : Setting) (here : Here) : Type 0 where
  pub asking : Asking z here.kernel here.client here.calls
  pub write_backs : WritingBacks z here.kernel here.current here.client here.calls
  pub sizes : Sizes z here.kernel here.version here.client here.holds here.bytes here.calls
  pub limits : Limited z here.kernel here.client here.calls

pub record Requests (z : Setting) (v : View) : Type 0 where
  pub limit : length v.bytes ≤ z.most
  pub each : (kernel : ℕ) → IsClient (length v.clients) kernel → LocalRequests z (at_kernel v kernel)
