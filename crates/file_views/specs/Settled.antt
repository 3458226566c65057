-- What a view stands for: each client takes what is on its way to it, and each answer to a callback is stored.
use Rattle.std.specs.Prelude.{ℕ, ◌*◌, ◌==◌, nat_le, Bool, true, false, ◌&&◌, ◌||◌, not, if◌then◌else◌, List, [], ◌∷◌, ◌++◌, take, map, Option, Some, None}
use Rattle.sprite_ids.specs.declared.BlockNo.{BlockNo}
use Rattle.sprite_ids.specs.declared.CallKind.{CallKind}
use Rattle.file_views.specs.declared.grant.FileGrant.{FileGrant}
use Rattle.file_views.specs.declared.body.FileBody.{FileBody}
use Rattle.file_views.specs.declared.body.FileBody.TheVariants as form
use Rattle.file_views.specs.declared.client.Held.{Held}
use Rattle.file_views.specs.declared.client.Client.{Client}
use Rattle.file_views.specs.declared.call.FileCall.{FileCall}
use Rattle.file_views.specs.declared.view.View.{View}
use Rattle.file_views.specs.Setting.{Setting}
use Rattle.file_views.specs.Contents.{grown, cut, overlay}
use Rattle.file_views.specs.Streams.{has_open}
use Rattle.file_views.specs.Clients.{is_on, dirty_blocks, pieces, take_grant, take_callback}
use Rattle.file_views.specs.Views.{client, kernels, is_kernel, things}
use Rattle.file_views.specs.Serving.{store_blocks}

-- what is on its way to a client: a grant, or a callback
pub data Due : Type 0 where
  GrantComes : FileGrant → Due
  CallComes : ℕ → CallKind → Due

abbrev pub due_stamp : Due → ℕ
due_stamp (GrantComes grant) = grant.stamp
due_stamp (CallComes stamp kind) = stamp

-- the kernel that the grant of a reply is for: of a move its target, of an open the one that opens
abbrev pub goes_of : ℕ → FileBody → ℕ
goes_of source (form.Move stream target kept grants) = target
goes_of source body = source

abbrev pub goes_to : FileCall → ℕ
goes_to one = goes_of one.from one.body

-- the grant that a reply brings with a stream
abbrev pub arrival : Option FileBody → Option FileGrant
arrival (Some (form.Opened grant)) = Some grant
arrival (Some (form.Moved grant grants)) = grant
arrival reply = None

-- the grant on its way to the kernel
abbrev pub due_grant : Bool → Option FileGrant → List Due
due_grant true (Some grant) = GrantComes grant ∷ []
due_grant true None = []
due_grant false grant = []

-- the callback that isn't taken yet
abbrev pub due_call : Bool → FileBody → List Due
due_call true (form.Callback stamp kind) = CallComes stamp kind ∷ []
due_call true body = []
due_call false body = []

abbrev pub due_of : ℕ → FileCall → List Due
due_of kernel one = due_grant (goes_to one == kernel) (arrival one.reply) ++ due_call ((one.to == kernel) && not one.taken) one.body

-- what is due, put in order of stamps
abbrev pub inserted : Due → List Due → List Due
inserted one [] = one ∷ []
inserted one (first ∷ rest) = if nat_le (due_stamp one) (due_stamp first) then one ∷ first ∷ rest else first ∷ inserted one rest

abbrev pub in_order : List Due → List Due
in_order [] = []
in_order (one ∷ rest) = inserted one (in_order rest)

abbrev pub dues_in : ℕ → List FileCall → List Due
dues_in kernel [] = []
dues_in kernel (one ∷ rest) = due_of kernel one ++ dues_in kernel rest

-- what is on its way to the kernel, in order of stamps
abbrev pub dues : View → ℕ → List Due
dues v kernel = in_order (dues_in kernel (things v))

-- the client after what is due, where it is newer
abbrev pub take_due : Client → Due → Client
take_due c (GrantComes grant) = take_grant c grant
take_due c (CallComes stamp kind) = if nat_le stamp c.stamp then c else take_callback c stamp kind

abbrev pub take_all : Client → List Due → Client
take_all c [] = c
take_all c (one ∷ rest) = take_all (take_due c one) rest

abbrev pub settled_client : View → ℕ → Client
settled_client v kernel = take_all (client v kernel) (dues v kernel)

-- the server's bytes, and the holder
pub record Kept : Type 0 where
  pub bytes : List ℕ
  pub holder : Option ℕ

-- after the kernel's answer to a callback
abbrev pub stored : Setting → Kept → ℕ → ℕ → List (BlockNo × List ℕ) → Kept
stored z kept kernel size blocks = record { bytes = store_blocks z kept.bytes size blocks; holder = (if is_kernel kernel kept.holder then None else kept.holder) }

-- an answer that is made and hasn't come
abbrev pub stored_reply : Setting → Kept → FileCall → Option FileBody → Kept
stored_reply z kept one (Some (form.Flushed size blocks)) = stored z kept one.to size blocks
stored_reply z kept one reply = kept

abbrev pub stored_answers : Setting → Kept → List FileCall → Kept
stored_answers z kept [] = kept
stored_answers z kept (one ∷ rest) = stored_answers z (stored_reply z kept one one.reply) rest

-- the answers that a client makes when it takes what is due
abbrev pub stored_due : Setting → Kept → ℕ → Client → Due → Kept
stored_due z kept kernel c (GrantComes grant) = kept
stored_due z kept kernel c (CallComes stamp kind) = if nat_le stamp c.stamp then kept else stored z kept kernel c.size (pieces z c.size c.blocks)

abbrev pub stored_dues : Setting → Kept → ℕ → Client → List Due → Kept
stored_dues z kept kernel c [] = kept
stored_dues z kept kernel c (one ∷ rest) = stored_dues z (stored_due z kept kernel c one) kernel (take_due c one) rest

abbrev pub stored_clients : Setting → View → Kept → List ℕ → Kept
stored_clients z v kept [] = kept
stored_clients z v kept (kernel ∷ rest) = stored_clients z v (stored_dues z kept kernel (client v kernel) (dues v kernel)) rest

-- the server's bytes and the holder of the settled view
abbrev pub settled_server : Setting → View → Kept
settled_server z v = stored_clients z v (stored_answers z (record { bytes = v.bytes; holder = v.holder }) v.calls) (kernels v)

-- the view in which nothing is on its way to a client or to the server any more
abbrev pub settled : Setting → View → View
settled z v = record v { bytes = (settled_server z v).bytes; holder = (settled_server z v).holder; clients = map (settled_client v) (kernels v) }

-- dirty blocks over bytes, each cut at the size
abbrev pub over_blocks : Setting → ℕ → List Held → List ℕ → List ℕ
over_blocks z size [] bytes = bytes
over_blocks z size (one ∷ rest) bytes = over_blocks z size rest (overlay bytes (one.block.0 * z.block) (cut z one.bytes one.block.0 size))

-- bytes of that size: cut, or with zeros behind
abbrev pub sized : List ℕ → ℕ → List ℕ
sized bytes size = take size (grown bytes size)

-- the holder's dirty blocks over the server's bytes, at the holder's size where it has dirty blocks
abbrev pub with_dirty : Setting → List ℕ → ℕ → List Held → List ℕ
with_dirty z bytes size [] = bytes
with_dirty z bytes size (one ∷ rest) = over_blocks z size (one ∷ rest) (sized bytes size)

abbrev pub bytes_held : Setting → View → Option ℕ → List ℕ
bytes_held z v (Some kernel) = with_dirty z v.bytes (client v kernel).size (dirty_blocks (client v kernel).blocks)
bytes_held z v None = v.bytes

-- the bytes that a settled view stands for
abbrev pub bytes_of_settled : Setting → View → List ℕ
bytes_of_settled z v = bytes_held z v v.holder

-- the bytes that a view stands for
abbrev pub stands_for : Setting → View → List ℕ
stands_for z v = bytes_of_settled z (settled z v)

-- in a settled view a kernel is trusted where it caches the file, and has it open or is at the server's version
abbrev pub is_trusted : View → ℕ → Bool
is_trusted v kernel = is_on (client v kernel).mode && (has_open v.opens kernel || ((client v kernel).version == v.version))
