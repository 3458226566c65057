-- A step of one file.
use Rattle.std.specs.Prelude.{ℕ, ◌==◌, Bool, true, false, [], ◌∷◌, ◌++◌, Option, Some, None}
use Rattle.sprite_ids.specs.declared.BlockNo.{BlockNo}
use Rattle.sprite_ids.specs.declared.StreamNo.{StreamNo}
use Rattle.sprite_ids.specs.declared.CallKind.{CallKind}
use Rattle.file_views.specs.declared.grant.FileGrant.{FileGrant}
use Rattle.file_views.specs.declared.body.FileBody.{FileBody}
use Rattle.file_views.specs.declared.body.FileBody.TheVariants as form
use Rattle.file_views.specs.declared.client.Held.{Held}
use Rattle.file_views.specs.declared.call.FileCall.{FileCall}
use Rattle.file_views.specs.declared.call.Carry.{Carry}
use Rattle.file_views.specs.declared.step.FileStep.{FileStep}
use Rattle.file_views.specs.declared.step.FileStep.TheVariants as act
use Rattle.file_views.specs.declared.view.View.{View}
use Rattle.file_views.specs.Setting.{Setting}
use Rattle.file_views.specs.Contents.{cut}
use Rattle.file_views.specs.Streams.{copies}
use Rattle.file_views.specs.Clients.{held, without_block, take_grant, pieces, take_callback, fill, wrote_back, install, uninstall}
use Rattle.file_views.specs.Views.{server, client, set_client, find_call, find_carried, without_carried, begin, answer, remove_call}
use Rattle.file_views.specs.Data.{step_of, start_data, look}
use Rattle.file_views.specs.Serving.{request_comes, callback_answered}

-- a client takes a grant
abbrev pub grant_comes : View → ℕ → FileGrant → View
grant_comes v kernel grant = set_client v kernel (take_grant (client v kernel) grant)

-- an open's or a move's grant comes to its kernel, and the stream with it
abbrev pub arrive : View → ℕ → StreamNo → FileGrant → View
arrive v kernel stream grant = set_client v kernel (install (take_grant (client v kernel) grant) stream)

-- a callback comes to its client, which answers at once
abbrev pub called_back : Setting → View → FileCall → ℕ → CallKind → View
called_back z v one stamp kind = answer (set_client v one.to (take_callback (client v one.to) stamp kind)) one (form.Flushed (client v one.to).size (pieces z (client v one.to).size (client v one.to).blocks))

abbrev pub request_at_client : Setting → View → FileCall → FileBody → View
request_at_client z v one (form.Callback stamp kind) = called_back z v one stamp kind
request_at_client z v one body = v

-- an open's reply comes
abbrev pub opening_answered : View → ℕ → StreamNo → Option FileBody → View
opening_answered v kernel stream (Some (form.Opened grant)) = arrive v kernel stream grant
opening_answered v kernel stream reply = v

-- a move's reply comes to its source: the stream and its grant are carried to the target
abbrev pub move_answered : View → ℕ → ℕ → StreamNo → Option FileBody → View
move_answered v number target stream (Some (form.Moved grant grants)) = record v { carried = v.carried ++ record { call = number; to = target; stream = stream; grant = grant } ∷ [] }
move_answered v number target stream reply = v

-- a fetch's reply comes, and what waits looks again
abbrev pub fetch_answered : Setting → View → ℕ → BlockNo → Option FileBody → View
fetch_answered z v kernel block (Some (form.Block stamp piece)) = look z (set_client v kernel (fill z (client v kernel) stamp block piece)) kernel
fetch_answered z v kernel block (Some (form.Again grant)) = look z (grant_comes v kernel grant) kernel
fetch_answered z v kernel block reply = v

-- a write-back's reply comes
abbrev pub write_back_answered : View → ℕ → ℕ → BlockNo → Option ℕ → Option FileBody → View
write_back_answered v kernel stamp block dirty (Some form.Done) = set_client v kernel (wrote_back (client v kernel) stamp block.0 dirty)
write_back_answered v kernel stamp block dirty (Some (form.Again grant)) = grant_comes v kernel grant
write_back_answered v kernel stamp block dirty reply = v

-- an operation's reply comes; where its stamp was old, it begins again
abbrev pub op_answered : Setting → View → ℕ → FileStep → Option FileBody → View
op_answered z v kernel step (Some (form.Again grant)) = start_data z (grant_comes v kernel grant) kernel step
op_answered z v kernel step reply = v

-- the answer to a callback comes to the server
abbrev pub flush_comes : Setting → View → FileCall → Option FileBody → View
flush_comes z v one (Some (form.Flushed size blocks)) = callback_answered z v one size blocks
flush_comes z v one reply = v

-- a reply comes to whom it is for, and the call is finished
abbrev pub reply_comes : Setting → View → FileCall → FileBody → View
reply_comes z v one (form.Callback stamp kind) = flush_comes z v one one.reply
reply_comes z v one (form.Opening pid number stream mode truncate) = opening_answered (remove_call v one.number) one.from stream one.reply
reply_comes z v one (form.Move stream target kept grants) = move_answered (remove_call v one.number) one.number target stream one.reply
reply_comes z v one (form.Fetch stamp block) = fetch_answered z (remove_call v one.number) one.from block one.reply
reply_comes z v one (form.WriteBack stamp block size piece) = write_back_answered (remove_call v one.number) one.from stamp block one.dirty one.reply
reply_comes z v one (form.Op pid number stamp stream way) = op_answered z (remove_call v one.number) one.from (step_of pid number one.from stream way) one.reply
reply_comes z v one body = remove_call v one.number

-- a carried stream comes to its target
abbrev pub carried_comes_with : View → Carry → Option FileGrant → View
carried_comes_with v one (Some grant) = arrive v one.to one.stream grant
carried_comes_with v one None = v

abbrev pub carried_comes : View → Carry → View
carried_comes v one = carried_comes_with (record v { carried = without_carried one.call v.carried }) one one.grant

-- the call's request or reply comes, whichever is next
abbrev pub call_comes : Setting → View → FileCall → Bool → Bool → View
call_comes z v one true atserver = reply_comes z v one one.body
call_comes z v one false true = request_comes z v one
call_comes z v one false false = request_at_client z v one one.body

abbrev pub delivered : Setting → View → Option Carry → Option FileCall → View
delivered z v (Some one) call = carried_comes v one
delivered z v None (Some one) = call_comes z v one one.taken (one.to == server)
delivered z v None None = v

abbrev pub deliver : Setting → View → ℕ → View
deliver z v number = delivered z v (find_carried v.carried number) (find_call v.calls number)

-- a stream is closed, or moves away: it is installed no more, and its grants are told
abbrev pub closing : View → ℕ → StreamNo → View
closing v kernel stream = begin (set_client v kernel (uninstall (client v kernel) stream)) kernel server (form.Close stream (copies stream (client v kernel).streams)) None

abbrev pub moving : View → StreamNo → ℕ → ℕ → Bool → View
moving v stream source target true = begin v source server (form.Move stream target true 0) None
moving v stream source target false = begin (set_client v source (uninstall (client v source) stream)) source server (form.Move stream target false (copies stream (client v source).streams)) None

-- a clean block is dropped, and a dirty one is sent
abbrev pub writing_back_at : Setting → View → ℕ → Held → Option ℕ → View
writing_back_at z v kernel one None = set_client v kernel (record (client v kernel) { blocks = without_block one.block.0 (client v kernel).blocks })
writing_back_at z v kernel one (Some dirty) = begin v kernel server (form.WriteBack (client v kernel).stamp one.block (client v kernel).size (cut z one.bytes one.block.0 (client v kernel).size)) (Some dirty)

abbrev pub writing_back : Setting → View → ℕ → Option Held → View
writing_back z v kernel (Some one) = writing_back_at z v kernel one one.dirty
writing_back z v kernel None = v

-- the view after a step that is possible
abbrev pub after : Setting → View → FileStep → View
after z v (act.Opening pid number kernel stream mode truncate) = begin v kernel server (form.Opening pid number stream mode truncate) None
after z v (act.Closing kernel stream) = closing v kernel stream
after z v (act.Moving stream source target kept) = moving v stream source target kept
after z v (act.Reading pid number kernel stream from length) = start_data z v kernel (act.Reading pid number kernel stream from length)
after z v (act.Writing pid number kernel stream from bytes) = start_data z v kernel (act.Writing pid number kernel stream from bytes)
after z v (act.Append pid number kernel stream bytes) = start_data z v kernel (act.Append pid number kernel stream bytes)
after z v (act.WritingBack kernel block) = writing_back z v kernel (held (client v kernel).blocks block.0)
after z v (act.Delivering number) = deliver z v number
after z v (act.Expiring number) = v
