-- The eighth layer of soundness: what blocks contain.
use Rattle.std.specs.Prelude.{◌≡◌, ◌≤◌, ◌⊎◌, ℕ, true, false, is_some, List, [], ◌∷◌, length, Option, Some, None}
use Rattle.sprite_ids.specs.declared.BlockNo.{BlockNo}
use Rattle.file_views.specs.declared.grant.FileGrant.{FileGrant}
use Rattle.file_views.specs.declared.body.FileBody.{FileBody}
use Rattle.file_views.specs.declared.body.FileBody.TheVariants as form
use Rattle.file_views.specs.declared.opens.Open.{Open}
use Rattle.file_views.specs.declared.client.Held.{Held}
use Rattle.file_views.specs.declared.client.Client.{Client}
use Rattle.file_views.specs.declared.call.FileCall.{FileCall}
use Rattle.file_views.specs.declared.view.View.{View}
use Rattle.file_views.specs.Setting.{Setting}
use Rattle.file_views.specs.Contents.{whole, part, cut, put_block}
use Rattle.file_views.specs.Streams.{is_any}
use Rattle.file_views.specs.Views.{client, things}
use Rattle.file_views.specs.Clients.{is_on}
use Rattle.file_views.specs.Serving.{store_blocks}
use Rattle.file_views.specs.Settled.{bytes_of_settled}
use Rattle.file_views.specs.Here.{In, IsClient, Here, at_kernel, Newer, EachNewer}
use Rattle.file_views.specs.SoundHolders.{Engaged}
use Rattle.file_views.specs.SoundRequests.{WritesBack, Present}

-- the bytes of an answer to a callback that has blocks, over the server's; else none
abbrev pub flushed_bytes : Setting → List ℕ → Option FileBody → Option (List ℕ)
flushed_bytes z bytes (Some (form.Flushed size (piece ∷ rest))) = Some (store_blocks z bytes size (piece ∷ rest))
flushed_bytes z bytes reply = None

abbrev pub or_else : Option (List ℕ) → Option (List ℕ) → Option (List ℕ)
or_else (Some bytes) others = Some bytes
or_else None others = others

abbrev pub first_flushed : Setting → List ℕ → List FileCall → Option (List ℕ)
first_flushed z bytes [] = None
first_flushed z bytes (one ∷ rest) = or_else (flushed_bytes z bytes one.reply) (first_flushed z bytes rest)

abbrev pub or_bytes : List ℕ → Option (List ℕ) → List ℕ
or_bytes bytes (Some others) = others
or_bytes bytes None = bytes

-- the bytes that a sound view stands for: an answer to a callback that has blocks, or else the holder's dirty blocks, over the
-- server's bytes, or else the server's bytes
abbrev pub present_bytes : Setting → View → List ℕ
present_bytes z v = or_bytes (bytes_of_settled z v) (first_flushed z v.bytes v.calls)

-- a client keeps its blocks at a newer grant On: its version is the old one of it (which holds of the next of them at most, as versions
-- rise from grant to grant)
pub record KeptByNext (kernel own seen : ℕ) (calls : List FileCall) : Type 0 where
  pub call : FileCall
  pub grant : FileGrant
  pub is_newer : Newer kernel own calls call grant
  pub on : grant.on ≡ true
  pub same : grant.old ≡ seen

-- the kernel has the file open
pub record HasOpen (opened : List Open) : Type 0 where
  pub one : Open
  pub there : In one opened

-- or no newer grant On comes, and it has the file open or is at the server's version
pub record KeptAtEnd (kernel own seen version : ℕ) (opened : List Open) (calls : List FileCall) : Type 0 where
  pub none : EachNewer kernel own calls (λ one grant. grant.on ≡ false)
  pub counts : HasOpen opened ⊎ (seen ≡ version)

-- who uses its cache and has a stream to work with has the right size and the right blocks; a block that comes with the client's
-- stamp is right; blocks that newer grants keep are right
pub record Good (z : Setting) (stood : List ℕ) (here : Here) : Type 0 where
  pub engaged_size : is_on here.client.mode ≡ true → Engaged here.kernel here.client.stamp here.client.streams here.calls → here.client.size ≡ length stood
  pub engaged : is_on here.client.mode ≡ true → Engaged here.kernel here.client.stamp here.client.streams here.calls → (one : Held) → In one here.client.blocks → one.bytes ≡ part z stood one.block.0
  pub fetched : (one : FileCall) → In one here.calls → one.from ≡ here.kernel → (stamp : ℕ) (block : BlockNo) → one.body ≡ form.Fetch stamp block → stamp ≡ here.client.stamp → (other : ℕ) (piece : List ℕ) → one.reply ≡ Some (form.Block other piece) → whole z piece ≡ part z stood block.0
  pub kept : is_on here.client.mode ≡ true → KeptByNext here.kernel here.client.stamp here.client.version here.calls ⊎ KeptAtEnd here.kernel here.client.stamp here.client.version here.version here.opened here.calls → (one : Held) → In one here.client.blocks → one.bytes ≡ part z stood one.block.0

-- what write-backs carry: one with the current stamp and the block's present number carries the whole block, and while it isn't served
-- the server would have the block once it is stored, which isn't longer than a block; once it is done, the server has the block
pub record Carried (z : Setting) (kernel current : ℕ) (c : Client) (bytes : List ℕ) (calls : List FileCall) : Type 0 where
  pub whole_block : (one : FileCall) → In one calls → (block : BlockNo) (size : ℕ) (piece : List ℕ) → WritesBack kernel current one block size piece → (there : Held) → Present c.blocks block.0 one.dirty there → whole z piece ≡ there.bytes
  pub stores : (one : FileCall) → In one calls → (block : BlockNo) (size : ℕ) (piece : List ℕ) → WritesBack kernel current one block size piece → one.reply ≡ None → (there : Held) → Present c.blocks block.0 one.dirty there → part z (put_block z bytes block.0 size piece) block.0 ≡ there.bytes
  pub done : (one : FileCall) → In one calls → (block : BlockNo) (size : ℕ) (piece : List ℕ) → WritesBack kernel c.stamp one block size piece → one.reply ≡ Some form.Done → (there : Held) → Present c.blocks block.0 one.dirty there → part z bytes block.0 ≡ there.bytes
  pub fits : (one : FileCall) → In one calls → (block : BlockNo) (size : ℕ) (piece : List ℕ) → WritesBack kernel current one block size piece → one.reply ≡ None → length piece ≤ z.block

pub record LocalContents (z : Setting) (stood : List ℕ) (here : Here) : Type 0 where
  pub good : Good z stood here
  pub carried : Carried z here.kernel here.current here.client here.bytes here.calls

abbrev pub GoodContents : Setting → View → Type 0
GoodContents z v = (kernel : ℕ) → IsClient (length v.clients) kernel → LocalContents z (present_bytes z v) (at_kernel v kernel)

-- a client holds that block dirty, or some block; and an answer to a callback has it, or has some
pub record DirtyBlock (v : View) (number : ℕ) : Type 0 where
  pub kernel : ℕ
  pub is_client : IsClient (length v.clients) kernel
  pub one : Held
  pub there : In one (client v kernel).blocks
  pub dirty : is_some one.dirty ≡ true
  pub place : one.block.0 ≡ number

pub record SomeDirty (v : View) : Type 0 where
  pub kernel : ℕ
  pub is_client : IsClient (length v.clients) kernel
  pub one : Held
  pub there : In one (client v kernel).blocks
  pub dirty : is_some one.dirty ≡ true

pub record FlushedBlock (v : View) (number : ℕ) : Type 0 where
  pub call : FileCall
  pub there : In call (things v)
  pub size : ℕ
  pub blocks : List (BlockNo × List ℕ)
  pub replied : call.reply ≡ Some (form.Flushed size blocks)
  pub piece : BlockNo × List ℕ
  pub inside : In piece blocks
  pub place : piece.0.0 ≡ number

pub record SomeFlushed (v : View) : Type 0 where
  pub call : FileCall
  pub there : In call (things v)
  pub size : ℕ
  pub blocks : List (BlockNo × List ℕ)
  pub replied : call.reply ≡ Some (form.Flushed size blocks)
  pub some : is_any blocks ≡ true

-- the view stands for those bytes: who has a dirty block has their size, and so has an answer to a callback that has blocks, which are
-- theirs before their end; each block that isn't held dirty, and isn't in such an answer, is the server's, and where there is none of
-- these the size is
pub record Stands (z : Setting) (stood : List ℕ) (v : View) : Type 0 where
  pub dirty_size : (kernel : ℕ) → IsClient (length v.clients) kernel → (one : Held) → In one (client v kernel).blocks → is_some one.dirty ≡ true → (client v kernel).size ≡ length stood
  pub flushed_size : (one : FileCall) → In one (things v) → (size : ℕ) (blocks : List (BlockNo × List ℕ)) → one.reply ≡ Some (form.Flushed size blocks) → is_any blocks ≡ true → size ≡ length stood
  pub flushed_part : (one : FileCall) → In one (things v) → (size : ℕ) (blocks : List (BlockNo × List ℕ)) → one.reply ≡ Some (form.Flushed size blocks) → (piece : BlockNo × List ℕ) → In piece blocks → piece.1 ≡ cut z (part z stood piece.0.0) piece.0.0 size
  pub rest : (number : ℕ) → DirtyBlock v number ⊎ (FlushedBlock v number ⊎ (part z v.bytes number ≡ part z stood number))
  pub size : SomeDirty v ⊎ (SomeFlushed v ⊎ (length v.bytes ≡ length stood))

-- there are bytes that the view stands for, and clients' blocks and what is on its way are theirs
pub record StandsFor (z : Setting) (v : View) : Type 0 where
  pub stood : List ℕ
  pub stands : Stands z stood v
  pub each : (kernel : ℕ) → IsClient (length v.clients) kernel → LocalContents z stood (at_kernel v kernel)
