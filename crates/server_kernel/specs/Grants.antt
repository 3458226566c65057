-- Decisions on opens and moves, callbacks first, and what a grant does.
use Rattle.std.specs.Prelude.{ℕ, ◌==◌, nat_lt, Bool, true, if◌then◌else◌, List, [], ◌∷◌, ◌++◌, Option, Some, None, is_some, replicate}
use Rattle.sprite_ids.specs.declared.FileId.{FileId}
use Rattle.sprite_ids.specs.declared.StreamNo.{StreamNo}
use Rattle.sprite_ids.specs.declared.Grant.{Grant}
use Rattle.sprite_ids.specs.declared.Callback.{Callback}
use Rattle.sprite_ids.specs.declared.Mode.{Mode}
use Rattle.sprite_ids.specs.declared.Tries.TheVariants.{Always}
use Rattle.packet_bodies.specs.declared.Request.{Request}
use Rattle.packet_bodies.specs.declared.Request.TheVariants as requests
use Rattle.packet_bodies.specs.declared.ReplyBody.TheVariants as replies
use Rattle.packet_bodies.specs.declared.Target.TheVariants as targets
use Rattle.packet_bodies.specs.declared.OpeningRequest.{OpeningRequest}
use Rattle.packet_bodies.specs.declared.MoveRequest.{MoveRequest}
use Rattle.packet_bodies.specs.About as packets
use Rattle.unix_calls.specs.declared.About.{About}
use Rattle.unix_calls.specs.declared.Event.TheVariants as events
use Rattle.unix_calls.specs.declared.SendKind.TheVariants.{Other}
use Rattle.kernel_steps.specs.declared.Sending.{Sending}
use Rattle.kernel_steps.specs.Outs.{sent}
use Rattle.version_table.specs.declared.Action.{Action}
use Rattle.version_table.specs.declared.Decision.{Decision}
use Rattle.version_table.specs.declared.Decision.TheVariants as decisions
use Rattle.version_table.specs.Modes.{mode_of_grant}
use Rattle.version_table.specs.Files.{decided}
use Rattle.version_table.specs.Decisions.{decision_of}
use Rattle.version_table.specs.Versions.{with_file}
use Rattle.shadow_streams.specs.Shadows as shadows
use Rattle.server_kernel.specs.declared.asked.Asked.{Asked}
use Rattle.server_kernel.specs.declared.server.Server.{Server}
use Rattle.server_kernel.specs.Flags.{has_bit}
use Rattle.server_kernel.specs.Says.{answers, notes}
use Rattle.server_kernel.specs.Files.{kept_of, is_busy, count_at, mode_in, offset_or, sized, emptied, with_versions, waits}
use Rattle.server_kernel.specs.OpenCalls.{gives_open}

-- the call that a request carries
abbrev pub about_in : Option (ℕ × ℕ) → Option About
about_in (Some about) = Some (record { pid = about.0; number = about.1 })
about_in None = None

abbrev pub about_of : Request → Option About
about_of request = about_in (packets.about_of request)

-- the remote call of a callback: for the sake of the open that asks; a move has no call
abbrev pub callback_sending : Asked → Callback → Sending
callback_sending asked call = record {
  to = call.to ∷ [];
  tries = Always;
  about = about_of asked.body;
  body = requests.Callback (record { file = call.file; stamp = call.stamp; kind = call.kind });
}

abbrev pub sends_callback : Asked → Callback → Server → Server
sends_callback asked call s = record s { out = sent (callback_sending asked call) Other s.out }

-- a callback that went out under the number before
abbrev pub keeps_call : Callback → Server → Server → Server
keeps_call call before s = record s { callbacks = s.callbacks ++ (before.out.next, record { file = call.file; kernel = call.to }) ∷ [] }

-- one kernel is called back
abbrev pub calls_noted : Asked → Callback → Server → Server
calls_noted asked call s = keeps_call call s (sends_callback asked call s)

abbrev pub calls_one : Asked → Callback → Server → Server
calls_one asked call s = calls_noted asked call (notes (events.Callback call.file call.to call.stamp call.kind) s)

-- the kernels are called back, one after the other
abbrev pub calls_all : Asked → List Callback → Server → Server
calls_all asked [] s = s
calls_all asked (call ∷ calls) s = calls_all asked calls (calls_one asked call s)

-- the open or move is kept until the callbacks are answered
abbrev pub asks : Asked → FileId → Server → Server
asks asked file s = record s { asking = s.asking ++ (file, asked) ∷ [] }

abbrev pub calls_first : Asked → FileId → List Callback → Server → Server
calls_first asked file calls s = calls_all asked calls (asks asked file s)

-- the grant is noted, and that the kernel has the stream open
abbrev pub notes_opened : FileId → StreamNo → ℕ → Grant → Server → Server
notes_opened file stream kernel grant s =
    notes (events.Opened file stream kernel (mode_in file stream s)) (notes (events.Grant file kernel grant.stamp (mode_of_grant grant.on)) s)

-- it is noted that the kernel has closed the stream, where it has no grant of it left
abbrev pub notes_closed : FileId → StreamNo → ℕ → Mode → Server → Server
notes_closed file stream kernel mode s = if nat_lt 0 (count_at file stream kernel s) then s else notes (events.Closed file stream kernel mode) s

-- a truncation empties the file
abbrev pub cuts : ℕ → FileId → Server → Server
cuts flags file s = if has_bit 8 flags then emptied file s else s

-- the open is granted: it takes effect, and its request is answered
abbrev pub grants_sized : Asked → OpeningRequest → FileId → Grant → Server → Server
grants_sized asked r file grant s =
    answers asked.tx (replies.Opened (record { object = targets.File file; grant = Some grant; size = grant.size }))
    (gives_open asked.tx r (notes_opened file r.stream asked.from grant s))

-- the grant has the file's size after the truncation
abbrev pub grants_cut : Asked → OpeningRequest → FileId → Grant → Server → Server
grants_cut asked r file grant s = grants_sized asked r file (sized file grant s) s

abbrev pub grants_open : Asked → OpeningRequest → FileId → Grant → Server → Server
grants_open asked r file grant s = grants_cut asked r file grant (cuts r.flags file s)

-- the target has one grant of a shared stream more
abbrev pub counts_grant : MoveRequest → Server → Server
counts_grant r s = record s { shadows = shadows.grant s.shadows r.stream r.to }

-- the source's grants of a shared stream are taken off
abbrev pub drops_grants : ℕ → MoveRequest → Server → Server
drops_grants source r s = record s { shadows = shadows.close s.shadows r.stream source r.grants }

-- a shared stream moves
abbrev pub joins_shared : Asked → MoveRequest → Server → Server
joins_shared asked r s = if r.kept then counts_grant r s else drops_grants asked.from r (counts_grant r s)

-- a stream's offset is here from now on, with the grants that its source has
abbrev pub keeps_offset : Asked → MoveRequest → FileId → Server → Server
keeps_offset asked r file s =
    record s { shadows = shadows.share s.shadows r.stream (offset_or 0 r.offset) (replicate (count_at file r.stream asked.from s) asked.from) }

abbrev pub shares_first : Asked → MoveRequest → FileId → Server → Server
shares_first asked r file s = notes (events.Shared file r.stream) (counts_grant r (keeps_offset asked r file s))

-- a moved stream becomes shared where references stay at its source; one that is shared stays so
abbrev pub shares : Asked → MoveRequest → FileId → Server → Server
shares asked r file s =
    if is_some (shadows.offset_of s.shadows r.stream) then joins_shared asked r s
    else if r.kept then shares_first asked r file s else s

-- the source has closed the stream, where it has none of it left
abbrev pub leaves_source : Asked → MoveRequest → FileId → Server → Server
leaves_source asked r file s = notes_closed file r.stream asked.from (mode_in file r.stream s) s

-- the move is granted, and its request is answered
abbrev pub moved_sized : Asked → MoveRequest → FileId → Grant → Server → Server
moved_sized asked r file grant s =
    answers asked.tx (replies.Moved (Some grant) 1) (leaves_source asked r file (notes_opened file r.stream r.to grant s))

abbrev pub grants_shared : Asked → MoveRequest → FileId → Grant → Server → Server
grants_shared asked r file grant s = moved_sized asked r file (sized file grant s) s

abbrev pub grants_move : Asked → MoveRequest → FileId → Grant → Server → Server
grants_move asked r file grant s = grants_shared asked r file grant (shares asked r file s)

-- the open or move that asked is granted
abbrev pub grants_by : Request → Asked → FileId → Grant → Server → Server
grants_by (requests.Opening r) asked file grant s = grants_open asked r file grant s
grants_by (requests.Move r) asked file grant s = grants_move asked r file grant s
grants_by _ asked file grant s = s

abbrev pub grants : Asked → FileId → Grant → Server → Server
grants asked file grant s = grants_by asked.body asked file grant s

-- the table of opens after its decision
abbrev pub with_decided : FileId → Action → Server → Server
with_decided file action s = with_versions (with_file s.versions.files file (decided s.versions.cached (kept_of file s) action)) s

-- what was decided: a grant, or callbacks that go first
abbrev pub decided_as : Asked → FileId → Decision → Server → Server
decided_as asked file (decisions.Grant grant) s = grants asked file grant s
decided_as asked file (decisions.CallFirst calls) s = calls_first asked file calls s

-- an open or a move: on a busy file it waits; else the Delivering of its request is granted, or callbacks go first
abbrev pub decides : Asked → FileId → Action → Server → Server
decides asked file action s =
    if is_busy file s then waits asked file s
    else decided_as asked file (decision_of s.versions.cached (kept_of file s) action) (with_decided file action s)
