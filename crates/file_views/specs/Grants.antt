-- What the server decides on an open or a move, and what it grants.
use Rattle.std.specs.Prelude.{ℕ, ◌+◌, ◌-◌, ◌==◌, Bool, true, false, ◌&&◌, ◌||◌, not, if◌then◌else◌, List, [], ◌∷◌, ◌++◌, length, filter, Option, Some, None, slice_set}
use Rattle.sprite_ids.specs.declared.StreamNo.{StreamNo}
use Rattle.sprite_ids.specs.declared.CacheMode.{CacheMode}
use Rattle.sprite_ids.specs.declared.CacheMode.TheVariants as cache
use Rattle.sprite_ids.specs.declared.CallKind.{CallKind}
use Rattle.sprite_ids.specs.declared.CallKind.TheVariants.{Recall, Stop}
use Rattle.file_views.specs.declared.grant.FileGrant.{FileGrant}
use Rattle.file_views.specs.declared.opens.Open.{Open}
use Rattle.file_views.specs.declared.body.FileBody.{FileBody}
use Rattle.file_views.specs.declared.body.FileBody.TheVariants as form
use Rattle.file_views.specs.declared.call.FileCall.{FileCall}
use Rattle.file_views.specs.declared.view.View.{View}
use Rattle.file_views.specs.Setting.{Setting}
use Rattle.file_views.specs.Streams.{writes, has_stream, add_open, take_off, mode_of_stream, has_open, is_write_shared, is_any}
use Rattle.file_views.specs.Clients.{is_on, mode_of}
use Rattle.file_views.specs.Views.{server, kernels, mode_given, grant_given, current_stamp, is_holder, last_stamp, begin, answer}

-- whether a request asks for a grant: an open or a move
abbrev pub asks : FileBody → Bool
asks (form.Opening pid number stream mode truncate) = true
asks (form.Move stream target kept grants) = true
asks body = false

-- whether it empties the file
abbrev pub truncates : FileBody → Bool
truncates (form.Opening pid number stream mode truncate) = truncate
truncates body = false

-- the receiving kernel: of an open the one that opens, of a move the target
abbrev pub receiver_of : ℕ → FileBody → ℕ
receiver_of source (form.Move stream target kept grants) = target
receiver_of source body = source

abbrev pub receiver : FileCall → ℕ
receiver one = receiver_of one.from one.body

-- whether the receiving kernel gets the stream for writing
abbrev pub asks_to_write : List Open → FileBody → Bool
asks_to_write opens (form.Opening pid number stream mode truncate) = writes mode
asks_to_write opens (form.Move stream target kept grants) = writes (mode_of_stream opens stream)
asks_to_write opens body = false

-- a move that leaves no references first takes its grants off the source
abbrev pub left_by : List Open → StreamNo → ℕ → Bool → ℕ → List Open
left_by opens stream source kept grants = if kept then opens else take_off opens stream source grants

-- the opens that an open or a move leads to
abbrev pub opens_after : List Open → ℕ → FileBody → List Open
opens_after opens source (form.Opening pid number stream mode truncate) = add_open opens stream source mode
opens_after opens source (form.Move stream target kept grants) = add_open (left_by opens stream source kept grants) stream target (mode_of_stream opens stream)
opens_after opens source body = opens

-- the shared streams that it leads to
abbrev pub shared_after : List StreamNo → FileBody → List StreamNo
shared_after shared (form.Move stream target kept grants) = if kept && not (has_stream stream shared) then shared ++ stream ∷ [] else shared
shared_after shared body = shared

-- whether it makes the file uncached: write sharing, a shared stream, or a truncation while the file is open; it stays so until
-- no kernel has the file open. Where clients have no caches, every file is uncached
abbrev pub uncached_after : Setting → View → FileCall → Bool
uncached_after z v one = v.uncached || (not z.cached || (is_any (shared_after v.shared one.body) || (is_write_shared (opens_after v.opens one.from one.body) || (truncates one.body && is_any v.opens))))

-- where it is uncached, each kernel is stopped whose given mode is On, and by a truncation each one that has the file open
abbrev pub is_stopped : View → FileCall → ℕ → Bool
is_stopped v one kernel = is_on (mode_given v kernel) || (truncates one.body && has_open v.opens kernel)

-- where it isn't, the blocks are recalled from the holder, unless that is the receiving kernel and nothing is truncated
abbrev pub is_recalled : View → FileCall → ℕ → Bool
is_recalled v one kernel = is_holder v kernel && (truncates one.body || not (receiver one == kernel))

-- whether a decision calls the kernel back, and how
abbrev pub is_called : Bool → View → FileCall → ℕ → Bool
is_called true v one kernel = is_stopped v one kernel
is_called false v one kernel = is_recalled v one kernel

abbrev pub kind_of_calls : Bool → CallKind
kind_of_calls true = Stop
kind_of_calls false = Recall

-- the kernels that a decision calls back, in ascending order
abbrev pub called_kernels : Setting → View → FileCall → List ℕ
called_kernels z v one = filter (is_called (uncached_after z v one) v one) (kernels v)

-- the mode given to a kernel after a callback
abbrev pub mode_called : CacheMode → CallKind → CacheMode
mode_called mode Recall = mode
mode_called mode Stop = cache.Off

-- a callback goes out with the next stamp, which becomes the current one of its kernel
abbrev pub stamped : View → CallKind → ℕ → View
stamped v kind kernel = record v { stamps = slice_set v.stamps (kernel - 1) (last_stamp v + 1); modes = slice_set v.modes (kernel - 1) (mode_called (mode_given v kernel) kind) }

abbrev pub call_out : View → CallKind → ℕ → View
call_out v kind kernel = begin (stamped v kind kernel) server kernel (form.Callback (last_stamp v + 1) kind) None

-- callbacks to these kernels go out in a row
abbrev pub call_back : List ℕ → CallKind → View → View
call_back [] kind v = v
call_back (kernel ∷ rest) kind v = call_back rest kind (call_out v kind kernel)

-- the version goes up by one at a truncation, and at an open for writing by a kernel that isn't the holder
abbrev pub new_version : View → FileCall → ℕ
new_version v one = if truncates one.body || (asks_to_write v.opens one.body && not (is_holder v (receiver one))) then v.version + 1 else v.version

-- the grant of an open or a move. A truncation's carries the new version as the old one too
abbrev pub grant_of : View → FileCall → FileGrant
grant_of v one = record {
  stamp = last_stamp v + 1;
  old = (if truncates one.body then new_version v one else v.version);
  new = new_version v one;
  size = (if truncates one.body then 0 else length v.bytes);
  on = not v.uncached;
  holder = is_holder v (receiver one);
}

-- what an open, and what a move is answered with its grant
abbrev pub granting : FileBody → FileGrant → FileBody
granting (form.Move stream target kept grants) grant = form.Moved (Some grant) 1
granting body grant = form.Opened grant

-- the holder after a grant: one for writing by which the kernel may cache makes it the holder
abbrev pub holder_after : Option ℕ → ℕ → Bool → Option ℕ
holder_after holder kernel true = Some kernel
holder_after holder kernel false = holder

-- the view after the grant was given to the kernel
abbrev pub given_to : View → ℕ → FileGrant → View
given_to v kernel grant = record v {
  version = grant.new;
  stamps = slice_set v.stamps (kernel - 1) grant.stamp;
  modes = slice_set v.modes (kernel - 1) (mode_of grant.on);
  given = slice_set v.given (kernel - 1) (Some (record grant { size = 0 }));
}

-- the view after an open or a move is granted, with no callback out, before it is answered
abbrev pub settling : View → FileCall → View
settling v one = record (given_to v (receiver one) (grant_of v one)) {
  bytes = (if truncates one.body then [] else v.bytes);
  holder = holder_after v.holder (receiver one) (asks_to_write v.opens one.body && not v.uncached);
  opens = opens_after v.opens one.from one.body;
  shared = shared_after v.shared one.body;
}

-- the view after it is granted and answered
abbrev pub settle : View → FileCall → View
settle v one = answer (settling v one) one (granting one.body (grant_of v one))

-- the view once it is known whether the file is uncached
abbrev pub told : View → Bool → View
told v uncached = record v { uncached = uncached }

-- with nobody to call back the open or move is granted at once; else it waits until the callbacks are answered
abbrev pub deciding : View → FileCall → CallKind → List ℕ → View
deciding v one kind [] = settle v one
deciding v one kind (kernel ∷ rest) = call_back (kernel ∷ rest) kind v

-- the view after a decision on an open or a move
abbrev pub decide : Setting → View → FileCall → View
decide z v one = deciding (told v (uncached_after z v one)) one (kind_of_calls (uncached_after z v one)) (called_kernels z v one)

-- what a kernel whose stamp isn't that of a grant is told: its current stamp and mode, without a change of version
abbrev pub plain_grant : View → ℕ → FileGrant
plain_grant v kernel = record { stamp = current_stamp v kernel; old = v.version; new = v.version; size = length v.bytes; on = is_on (mode_given v kernel); holder = false }

-- the grant given last, where its stamp is the current one
abbrev pub current_in : View → ℕ → Option FileGrant → FileGrant
current_in v kernel (Some grant) = if grant.stamp == current_stamp v kernel then record grant { size = length v.bytes } else plain_grant v kernel
current_in v kernel None = plain_grant v kernel

-- what a request with an old stamp is answered with
abbrev pub current_grant : View → ℕ → FileGrant
current_grant v kernel = current_in v kernel (grant_given v kernel)
