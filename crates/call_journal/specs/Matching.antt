-- Which records are about what.
use Rattle.std.specs.Prelude.{ℕ, ◌==◌, Bool, true, false, ◌&&◌, ◌||◌, not, Option, Some, None}
use Rattle.sprite_ids.specs.declared.names.FileId.{FileId}
use Rattle.sprite_ids.specs.declared.names.StreamNo.{StreamNo}
use Rattle.sprite_ids.specs.declared.names.BlockNo.{BlockNo}
use Rattle.sprite_ids.specs.declared.names.Mode.{Mode}
use Rattle.sprite_ids.specs.declared.names.Mode.TheVariants as mode
use Rattle.sprite_ids.specs.declared.caching.CacheMode.{CacheMode}
use Rattle.sprite_ids.specs.declared.caching.CacheMode.TheVariants as cache
use Rattle.sprite_ids.specs.declared.caching.CallKind.{CallKind}
use Rattle.sprite_ids.specs.declared.caching.CallKind.TheVariants as kind
use Rattle.link_plan.specs.declared.plan.Fate.{Fate}
use Rattle.link_plan.specs.declared.plan.Fate.TheVariants as fate
use Rattle.unix_calls.specs.declared.event.About.{About}
use Rattle.unix_calls.specs.declared.event.SendKind.{SendKind}
use Rattle.unix_calls.specs.declared.event.SendKind.TheVariants as send
use Rattle.unix_calls.specs.declared.event.Event.{Event}
use Rattle.unix_calls.specs.declared.event.Event.TheVariants as event
use Rattle.unix_calls.specs.declared.event.Rec.{Rec}

-- the same file, stream, block, call
abbrev pub same_file : FileId → FileId → Bool
same_file a b = a.server == b.server && a.number == b.number

abbrev pub same_stream : StreamNo → StreamNo → Bool
same_stream a b = a.kernel == b.kernel && a.number == b.number

abbrev pub same_block : FileId → BlockNo → FileId → BlockNo → Bool
same_block file block other_file other_block = same_file file other_file && block.0 == other_block.0

-- the same mode of a stream
abbrev pub same_mode : Mode → Mode → Bool
same_mode mode.Read mode.Read = true
same_mode mode.Write mode.Write = true
same_mode mode.Both mode.Both = true
same_mode _ _ = false

-- the same call, or none
abbrev pub same_about : Option About → Option About → Bool
same_about None None = true
same_about (Some a) (Some b) = a.pid == b.pid && a.number == b.number
same_about _ _ = false

-- a packet goes for the sake of that call of that process
abbrev pub is_about : ℕ → ℕ → Option About → Bool
is_about pid number None = false
is_about pid number (Some about) = about.pid == pid && about.number == number

-- the same modes of a cache
abbrev pub is_on : CacheMode → Bool
is_on cache.On = true
is_on _ = false

abbrev pub is_off : CacheMode → Bool
is_off cache.Off = true
is_off _ = false

-- a stop, and a recall
abbrev pub is_stop : CallKind → Bool
is_stop kind.Stop = true
is_stop _ = false

abbrev pub is_recall : CallKind → Bool
is_recall kind.Recall = true
is_recall _ = false

abbrev pub is_once : Fate → Bool
is_once fate.Once = true
is_once _ = false

abbrev pub is_lost : Fate → Bool
is_lost fate.Lost = true
is_lost _ = false

-- the two kernels are this pair, in one order or the other
abbrev pub is_pair : ℕ → ℕ → ℕ → ℕ → Bool
is_pair a b x y = (a == x && b == y) || (a == y && b == x)

-- the issue of that call
abbrev pub is_issue : ℕ → ℕ → Event → Bool
is_issue pid number (event.Issue p n call) = p == pid && n == number
is_issue pid number _ = false

-- an issue of that process
abbrev pub is_issue_of : ℕ → Event → Bool
is_issue_of pid (event.Issue p n call) = p == pid
is_issue_of pid _ = false

-- any issue
abbrev pub is_any_issue : Event → Bool
is_any_issue (event.Issue p n call) = true
is_any_issue _ = false

-- the return of that call
abbrev pub is_return : ℕ → ℕ → Event → Bool
is_return pid number (event.Return p n reply) = p == pid && n == number
is_return pid number _ = false

-- an entry of that process
abbrev pub is_entry_of : ℕ → Event → Bool
is_entry_of pid (event.Enter entry) = entry.pid == pid
is_entry_of pid _ = false

abbrev pub is_entry : Event → Bool
is_entry (event.Enter entry) = true
is_entry _ = false

-- an entry of that call
abbrev pub is_entry_at : ℕ → ℕ → Event → Bool
is_entry_at pid number (event.Enter entry) = entry.pid == pid && entry.number == number
is_entry_at pid number _ = false

-- a freeze and a thaw of that process
abbrev pub is_freeze_of : ℕ → Event → Bool
is_freeze_of pid (event.Freeze p) = p == pid
is_freeze_of pid _ = false

abbrev pub is_thaw_of : ℕ → Event → Bool
is_thaw_of pid (event.Thaw p) = p == pid
is_thaw_of pid _ = false

-- a send of that number to that kernel, and any send of that number
abbrev pub is_send_to : ℕ → ℕ → Event → Bool
is_send_to tx to (event.Send t s about kind) = t.0 == tx && s == to
is_send_to tx to _ = false

abbrev pub is_send : ℕ → Event → Bool
is_send tx (event.Send t s about kind) = t.0 == tx
is_send tx _ = false

-- a send for the sake of a call, and one of these to that kernel
abbrev pub is_send_about : ℕ → ℕ → Event → Bool
is_send_about pid number (event.Send t s about kind) = is_about pid number about
is_send_about pid number _ = false

abbrev pub is_send_about_to : ℕ → ℕ → ℕ → Event → Bool
is_send_about_to pid number to (event.Send t s about kind) = is_about pid number about && s == to
is_send_about_to pid number to _ = false

-- what kind of send it is
abbrev pub is_other_kind : SendKind → Bool
is_other_kind send.Other = true
is_other_kind _ = false

abbrev pub is_broadcast_kind : SendKind → Bool
is_broadcast_kind (send.Broadcast prefix) = true
is_broadcast_kind _ = false

abbrev pub is_fetch_kind : SendKind → Bool
is_fetch_kind (send.Fetch file block) = true
is_fetch_kind _ = false

abbrev pub is_write_back_kind : SendKind → Bool
is_write_back_kind (send.WriteBack file block) = true
is_write_back_kind _ = false

-- a send that fetches that block, and one that writes it back
abbrev pub is_fetch : FileId → BlockNo → Event → Bool
is_fetch file block (event.Send t s about (send.Fetch f b)) = same_block f b file block
is_fetch file block _ = false

abbrev pub is_any_fetch : Event → Bool
is_any_fetch (event.Send t s about kind) = is_fetch_kind kind
is_any_fetch _ = false

abbrev pub is_write_back : FileId → BlockNo → Event → Bool
is_write_back file block (event.Send t s about (send.WriteBack f b)) = same_block f b file block
is_write_back file block _ = false

abbrev pub is_any_send : Event → Bool
is_any_send (event.Send t s about kind) = true
is_any_send _ = false

-- a resend of that number: a try that is over, and not the last one
abbrev pub is_resend : ℕ → Event → Bool
is_resend tx (event.Expire t last) = t.0 == tx && not last
is_resend tx _ = false

-- a try of that number is over, and the last one is
abbrev pub is_expire : ℕ → Event → Bool
is_expire tx (event.Expire t last) = t.0 == tx
is_expire tx _ = false

abbrev pub is_last_expire : ℕ → Event → Bool
is_last_expire tx (event.Expire t last) = t.0 == tx && last
is_last_expire tx _ = false

-- a request about a call is taken, and a reply about it
abbrev pub is_request_about : ℕ → ℕ → Event → Bool
is_request_about pid number (event.Deliver t from reply about) = not reply && is_about pid number about
is_request_about pid number _ = false

abbrev pub is_reply_about : ℕ → ℕ → Event → Bool
is_reply_about pid number (event.Deliver t from reply about) = reply && is_about pid number about
is_reply_about pid number _ = false

-- a reply of that number from that kernel is taken, and a request of that number
abbrev pub is_reply_from : ℕ → ℕ → Event → Bool
is_reply_from tx from (event.Deliver t f reply about) = reply && t.0 == tx && f == from
is_reply_from tx from _ = false

abbrev pub is_request : ℕ → Event → Bool
is_request tx (event.Deliver t from reply about) = not reply && t.0 == tx
is_request tx _ = false

-- any packet is taken
abbrev pub is_delivery : Event → Bool
is_delivery (event.Deliver t from reply about) = true
is_delivery _ = false

-- the link lost a packet between the two kernels, and any fault between them
abbrev pub is_loss : ℕ → ℕ → Event → Bool
is_loss x y (event.Fault a b f) = is_pair a b x y && is_lost f
is_loss x y _ = false

abbrev pub is_fault : ℕ → ℕ → Event → Bool
is_fault x y (event.Fault a b f) = is_pair a b x y
is_fault x y _ = false

-- the records of a kernel with an event that meets a test
abbrev pub is_at : ℕ → (Event → Bool) → Rec → Bool
is_at kernel test rec = rec.kernel == kernel && test rec.event

-- wherever it stands
abbrev pub has_event : (Event → Bool) → Rec → Bool
has_event test rec = test rec.event

-- a stream of that mode may be written
abbrev pub writes : Mode → Bool
writes mode.Read = false
writes mode.Write = true
writes mode.Both = true
