-- What enters in a step: the readings, writings, appends and opens that take effect in it.
use Rattle.std.specs.Prelude.{ℕ, ◌+◌, ◌==◌, nat_lt, Bool, true, false, ◌&&◌, not, is_some, if◌then◌else◌, List, [], ◌∷◌, ◌++◌, length, take, drop, Option, Some, None}
use Rattle.sprite_ids.specs.declared.BlockNo.{BlockNo}
use Rattle.sprite_ids.specs.declared.errno.Errno.TheVariants as errno
use Rattle.file_views.specs.declared.body.Access.{Access}
use Rattle.file_views.specs.declared.body.Access.TheVariants as access
use Rattle.file_views.specs.declared.body.FileBody.{FileBody}
use Rattle.file_views.specs.declared.body.FileBody.TheVariants as form
use Rattle.file_views.specs.declared.call.FileCall.{FileCall}
use Rattle.file_views.specs.declared.call.Carry.{Carry}
use Rattle.file_views.specs.declared.step.FileStep.{FileStep}
use Rattle.file_views.specs.declared.step.FileStep.TheVariants as act
use Rattle.file_views.specs.declared.view.View.{View}
use Rattle.file_views.specs.declared.entered.Entered.{Entered}
use Rattle.file_views.specs.Setting.{Setting}
use Rattle.file_views.specs.Contents.{overlay, same_bytes}
use Rattle.file_views.specs.Clients.{is_on, high_of, missing, fill, cached_bytes}
use Rattle.file_views.specs.Views.{server, client, set_client, current_stamp, busy, find_call, find_carried, remove_call, to_the_end, waiting_calls}
use Rattle.file_views.specs.Grants.{asks, settle, called_kernels}
use Rattle.file_views.specs.Data.{step_of, send_op, enter_cached, unqueue}
use Rattle.file_views.specs.Serving.{op_reply, serve, flushed}
use Rattle.file_views.specs.Steps.{grant_comes}
use Rattle.file_views.specs.Possible.{possible}

-- what an operation answers its process: an append only the number of its bytes
abbrev pub told_reply : Access → FileBody → FileBody
told_reply (access.Append bytes) (form.Value first second piece) = form.Value first 0 piece
told_reply way reply = reply

-- what a reading, writing or append in a cache is answered
abbrev pub cached_reply : Setting → View → ℕ → FileStep → FileBody
cached_reply z v kernel (act.Reading pid number place stream from many) =
    let piece : List ℕ = cached_bytes z (client v kernel) from (high_of (client v kernel).size (act.Reading pid number place stream from many)) in
    form.Value (length piece) 0 piece
cached_reply z v kernel (act.Writing pid number place stream from bytes) = form.Value (length bytes) 0 []
cached_reply z v kernel (act.Append pid number place stream bytes) = if nat_lt z.most ((client v kernel).size + length bytes) then form.Refused errno.TooBig else form.Value (length bytes) 0 []
cached_reply z v kernel step = form.Done

-- by whether the client uses its cache and what is missing there
abbrev pub enters_started : Setting → View → ℕ → FileStep → Bool → Option ℕ → List Entered
enters_started z v kernel step true None = record { kernel = kernel; step = step; reply = cached_reply z v kernel step } ∷ []
enters_started z v kernel step true (Some number) = []
enters_started z v kernel step false gap = []

abbrev pub enters_data : Setting → View → ℕ → FileStep → List Entered
enters_data z v kernel step = enters_started z v kernel step (is_on (client v kernel).mode) (missing z (client v kernel) step)

-- what waits looks again
abbrev pub enters_advance : Setting → List FileStep → View → ℕ → List Entered
enters_advance z [] v kernel = []
enters_advance z (step ∷ rest) v kernel =
    if is_on (client v kernel).mode
    then (if is_some (missing z (client v kernel) step)
    then []
    else enters_data z v kernel step ++ enters_advance z rest (enter_cached z (unqueue v kernel rest) kernel step) kernel)
    else enters_advance z rest (send_op (unqueue v kernel rest) kernel step) kernel

abbrev pub enters_look : Setting → View → ℕ → List Entered
enters_look z v kernel = enters_advance z (client v kernel).waiting v kernel

-- an open that is granted
abbrev pub enters_settled : FileCall → FileBody → List Entered
enters_settled one (form.Opening pid number stream mode truncate) = record { kernel = server; step = act.Opening pid number one.from stream mode truncate; reply = form.Value 0 0 [] } ∷ []
enters_settled one body = []

abbrev pub enters_deciding : FileCall → List ℕ → List Entered
enters_deciding one [] = enters_settled one one.body
enters_deciding one (kernel ∷ rest) = []

-- a request that the server takes up
abbrev pub enters_served : Setting → View → FileCall → FileBody → List Entered
enters_served z v one (form.Opening pid number stream mode truncate) = enters_deciding one (called_kernels z v one)
enters_served z v one (form.Move stream target kept grants) = enters_deciding one (called_kernels z v one)
enters_served z v one (form.Op pid number stamp stream way) =
    if stamp == current_stamp v one.from
    then record { kernel = server; step = step_of pid number one.from stream way; reply = told_reply way (op_reply z v.bytes way) } ∷ []
    else []
enters_served z v one body = []

abbrev pub enters_serve_all : Setting → List FileCall → View → List Entered
enters_serve_all z [] v = []
enters_serve_all z (one ∷ rest) v = if busy v then [] else enters_served z v one one.body ++ enters_serve_all z rest (serve z v one)

abbrev pub enters_request : Setting → View → FileCall → List Entered
enters_request z v one = if busy v then [] else enters_served z (to_the_end v one) (record one { taken = true }) one.body

abbrev pub enters_resume : Setting → List FileCall → View → List Entered
enters_resume z [] v = []
enters_resume z (one ∷ rest) v = if asks one.body then enters_settled one one.body ++ enters_serve_all z rest (settle v one) else enters_serve_all z (one ∷ rest) v

abbrev pub enters_resumed : Setting → View → List Entered
enters_resumed z v = if busy v then [] else enters_resume z (waiting_calls v) v

-- a reply that comes
abbrev pub enters_flush : Setting → View → FileCall → Option FileBody → List Entered
enters_flush z v one (Some (form.Flushed size blocks)) = enters_resumed z (flushed z v one size blocks)
enters_flush z v one reply = []

abbrev pub enters_fetched : Setting → View → ℕ → BlockNo → Option FileBody → List Entered
enters_fetched z v kernel block (Some (form.Block stamp piece)) = enters_look z (set_client v kernel (fill z (client v kernel) stamp block piece)) kernel
enters_fetched z v kernel block (Some (form.Again grant)) = enters_look z (grant_comes v kernel grant) kernel
enters_fetched z v kernel block reply = []

abbrev pub enters_op_answered : Setting → View → ℕ → FileStep → Option FileBody → List Entered
enters_op_answered z v kernel step (Some (form.Again grant)) = enters_data z (grant_comes v kernel grant) kernel step
enters_op_answered z v kernel step reply = []

abbrev pub enters_reply : Setting → View → FileCall → FileBody → List Entered
enters_reply z v one (form.Callback stamp kind) = enters_flush z v one one.reply
enters_reply z v one (form.Fetch stamp block) = enters_fetched z (remove_call v one.number) one.from block one.reply
enters_reply z v one (form.Op pid number stamp stream way) = enters_op_answered z (remove_call v one.number) one.from (step_of pid number one.from stream way) one.reply
enters_reply z v one body = []

abbrev pub enters_call : Setting → View → FileCall → Bool → Bool → List Entered
enters_call z v one true atserver = enters_reply z v one one.body
enters_call z v one false true = enters_request z v one
enters_call z v one false false = []

abbrev pub enters_delivered : Setting → View → Option Carry → Option FileCall → List Entered
enters_delivered z v (Some one) call = []
enters_delivered z v None (Some one) = enters_call z v one one.taken (one.to == server)
enters_delivered z v None None = []

-- what enters in a step that is possible
abbrev pub enters_after : Setting → View → FileStep → List Entered
enters_after z v (act.Reading pid number kernel stream from many) = enters_data z v kernel (act.Reading pid number kernel stream from many)
enters_after z v (act.Writing pid number kernel stream from bytes) = enters_data z v kernel (act.Writing pid number kernel stream from bytes)
enters_after z v (act.Append pid number kernel stream bytes) = enters_data z v kernel (act.Append pid number kernel stream bytes)
enters_after z v (act.Delivering number) = enters_delivered z v (find_carried v.carried number) (find_call v.calls number)
enters_after z v step = []

-- what enters in a step
abbrev pub entered : Setting → View → FileStep → List Entered
entered z v step = if possible z v step then enters_after z v step else []

-- the bytes after one thing entered: a truncation empties them, writings and appends change them
abbrev pub bytes_entered : Setting → List ℕ → FileStep → List ℕ
bytes_entered z bytes (act.Opening pid number kernel stream mode truncate) = if truncate then [] else bytes
bytes_entered z bytes (act.Writing pid number kernel stream from new) = overlay bytes from new
bytes_entered z bytes (act.Append pid number kernel stream new) = if nat_lt z.most (length bytes + length new) then bytes else bytes ++ new
bytes_entered z bytes step = bytes

-- the bytes after all of it entered
abbrev pub bytes_after_all : Setting → List ℕ → List Entered → List ℕ
bytes_after_all z bytes [] = bytes
bytes_after_all z bytes (one ∷ rest) = bytes_after_all z (bytes_entered z bytes one.step) rest

-- whether a reply gives these bytes, and whether it refuses
abbrev pub gives : List ℕ → FileBody → Bool
gives piece (form.Value first second bytes) = (first == length piece) && same_bytes bytes piece
gives piece reply = false

abbrev pub refuses : FileBody → Bool
refuses (form.Refused cause) = true
refuses reply = false

-- whether two tests tell the same
abbrev pub agrees : Bool → Bool → Bool
agrees true two = two
agrees false two = not two

-- whether a reading has the bytes of its moment, and an append is refused exactly where it would pass the limit
abbrev pub is_right : Setting → List ℕ → FileStep → FileBody → Bool
is_right z bytes (act.Reading pid number kernel stream from many) reply = gives (take many (drop from bytes)) reply
is_right z bytes (act.Append pid number kernel stream new) reply = agrees (nat_lt z.most (length bytes + length new)) (refuses reply)
is_right z bytes step reply = true

-- whether all that enters is right, one thing after another
abbrev pub are_right : Setting → List ℕ → List Entered → Bool
are_right z bytes [] = true
are_right z bytes (one ∷ rest) = is_right z bytes one.step one.reply && are_right z (bytes_entered z bytes one.step) rest
