-- One file whose server may stop and come back, and what each step makes of it.
use Rattle.std.specs.Prelude.{◌≡◌, ◌≤◌, ℕ, zero, suc, ◌+◌, ◌-◌, ◌*◌, ◌==◌, nat_le, min, Bool, true, false, ◌&&◌, ◌||◌, not, is_some, if◌then◌else◌, List, [], ◌∷◌, ◌++◌, length, map, filter, Option, Some, None, slice_index_or, slice_set}
use Rattle.std.specs.List.{list_any}
use Rattle.sprite_ids.specs.declared.BlockNo.{BlockNo}
use Rattle.sprite_ids.specs.declared.StreamNo.{StreamNo}
use Rattle.file_views.specs.declared.Client.{Client}
use Rattle.file_views.specs.declared.FileBody.{FileBody}
use Rattle.file_views.specs.declared.FileBody.TheVariants as form
use Rattle.file_views.specs.declared.FileCall.{FileCall}
use Rattle.file_views.specs.declared.FileStep.{FileStep}
use Rattle.file_views.specs.declared.FileStep.TheVariants as act
use Rattle.file_views.specs.declared.Open.{Open}
use Rattle.file_views.specs.declared.View.{View}
use Rattle.file_views.specs.declared.Entered.{Entered}
use Rattle.file_views.specs.Setting.{Setting}
use Rattle.file_views.specs.Streams.{same_stream, has_stream, is_any}
use Rattle.file_views.specs.Clients.{new_client, pieces}
use Rattle.file_views.specs.Views.{busy}
use Rattle.file_views.specs.Serving.{store_blocks}
use Rattle.file_views.specs.Possible.{has_room, is_named, stepped}
use Rattle.file_views.specs.Entries.{entered}
use Rattle.file_views.specs.Here.{In}
use Rattle.file_views.specs.Sound.{Sound}
use Rattle.restart_views.specs.declared.kept.Kept.{Kept}
use Rattle.restart_views.specs.declared.restarted.Restarted.{Restarted}
use Rattle.restart_views.specs.declared.restart_step.RestartStep.{RestartStep}
use Rattle.restart_views.specs.declared.restart_step.RestartStep.TheVariants as does
use Rattle.restart_views.specs.declared.outcome.Outcome.{Outcome}
use Rattle.restart_views.specs.declared.outcome.Outcome.TheVariants as came
use Rattle.restart_views.specs.ServerMoves.{bare, greeted, reopened, is_quiet}
use Rattle.restart_views.specs.ColdSteps.{uncached_setting, cold_step, Cold}

-- what the kernel keeps by itself
abbrev pub kept_at : List (Option Kept) → ℕ → Option Kept
kept_at kept kernel = slice_index_or kept (kernel - 1) None

-- what a kernel can claim; numbers of kernels begin at 1
abbrev pub claims_at : List (Option Kept) → ℕ → Option Kept
claims_at kept kernel = if nat_le 1 kernel then kept_at kept kernel else None

-- whether some kernel keeps something by itself, and whether some kernel keeps dirty blocks so
abbrev pub is_unclaimed : List (Option Kept) → Bool
is_unclaimed kept = list_any is_some kept

abbrev pub keeps_blocks : Option Kept → Bool
keeps_blocks (Some one) = is_any one.blocks
keeps_blocks None = false

-- an answer to a callback that has blocks, of a kernel that gave it
abbrev pub flushes : Option FileBody → Bool
flushes (Some (form.Flushed size blocks)) = is_any blocks
flushes reply = false

abbrev pub answer_of : ℕ → List FileCall → Option FileBody
answer_of kernel [] = None
answer_of kernel (one ∷ rest) = if (one.to == kernel) && flushes one.reply then one.reply else answer_of kernel rest

-- the size and the blocks of a looked-up answer, or else others
abbrev pub answered_size : ℕ → Option FileBody → ℕ
answered_size own (Some (form.Flushed size blocks)) = size
answered_size own reply = own

abbrev pub answered_blocks : List (BlockNo × List ℕ) → Option FileBody → List (BlockNo × List ℕ)
answered_blocks own (Some (form.Flushed size blocks)) = blocks
answered_blocks own reply = own

-- what the client at that place keeps when the server stops: the streams that are installed there, and its dirty blocks
abbrev pub is_installed : ℕ → Client → Open → Bool
is_installed kernel c one = (one.kernel == kernel) && has_stream one.stream c.streams

abbrev pub client_at : View → ℕ → Client
client_at v place = slice_index_or v.clients place new_client

abbrev pub kept_of : Setting → View → ℕ → Kept
kept_of z v place = record {
  streams = filter (is_installed (place + 1) (client_at v place)) v.opens;
  blocks = answered_blocks (pieces z (client_at v place).size (client_at v place).blocks) (answer_of (place + 1) v.calls);
  size = answered_size (client_at v place).size (answer_of (place + 1) v.calls);
  version = (client_at v place).version;
}

-- each of the first so many clients keeps something; one that does already goes on
abbrev pub or_kept : Option Kept → Kept → Kept
or_kept (Some one) other = one
or_kept None other = other

abbrev pub keep_to : Setting → View → List (Option Kept) → ℕ → List (Option Kept)
keep_to z v kept zero = []
keep_to z v kept (suc place) = keep_to z v kept place ++ Some (or_kept (slice_index_or kept place None) (kept_of z v place)) ∷ []

-- the server stops and comes back
abbrev pub after_stop : Setting → Restarted → Restarted
after_stop z s = record { view = bare (length s.view.clients) s.view.bytes s.view.version s.view.next; kept = keep_to z s.view s.kept (length s.view.clients) }

-- a kernel tells what it kept: that is refused where it has dirty blocks of another version than the server's
abbrev pub is_refused : View → Kept → Bool
is_refused v one = is_any one.blocks && not (one.version == v.version)

-- the kernel is granted the file, without its cache
abbrev pub greet : View → ℕ → View
greet v kernel = if is_quiet v kernel then greeted v kernel else v

-- a stream is open at the kernel again, and then each of them
abbrev pub reopen : View → ℕ → Open → View
reopen v kernel one = if is_named v one.stream then v else reopened v (record { stream = one.stream; kernel = kernel; mode = one.mode; count = 1 })

abbrev pub reopen_all : View → ℕ → List Open → View
reopen_all v kernel [] = v
reopen_all v kernel (one ∷ rest) = reopen_all (reopen v kernel one) kernel rest

-- the server stores the blocks, and opens the streams again
abbrev pub claimed : Setting → View → ℕ → Kept → View
claimed z v kernel one = reopen_all (greet (record v { bytes = store_blocks z v.bytes one.size one.blocks }) kernel) kernel one.streams

abbrev pub tried : Setting → View → ℕ → Kept → View
tried z v kernel one = if is_refused v one then v else claimed z v kernel one

-- once all have told, the file may be cached again, where nobody has it open
abbrev pub stays_uncached : View → List (Option Kept) → Bool
stays_uncached v kept = is_unclaimed kept || (is_any v.opens || busy v)

abbrev pub cached_again : View → List (Option Kept) → Restarted
cached_again v kept = record { view = (if stays_uncached v kept then v else record v { uncached = false }); kept = kept }

-- the view after the claim of a kernel that has something to tell, before the file may be cached again
abbrev pub heard : Setting → View → ℕ → Option Kept → Option View
heard z v kernel (Some one) = Some (tried z v kernel one)
heard z v kernel None = None

abbrev pub after_claim : Setting → Restarted → ℕ → Option Kept → Restarted
after_claim z s kernel (Some one) = cached_again (tried z s.view kernel one) (slice_set s.kept (kernel - 1) None)
after_claim z s kernel None = s

abbrev pub told_claim : View → ℕ → Option Kept → List Outcome
told_claim v kernel (Some one) = (if is_refused v one then came.Refused kernel one.version v.version else came.Granted kernel v.version) ∷ []
told_claim v kernel None = []

-- the kernel that does a step, and the stream that a step opens
abbrev pub doer : FileStep → Option ℕ
doer (act.Opening pid number kernel stream mode truncate) = Some kernel
doer (act.Closing kernel stream) = Some kernel
doer (act.Reading pid number kernel stream from many) = Some kernel
doer (act.Writing pid number kernel stream from bytes) = Some kernel
doer (act.Append pid number kernel stream bytes) = Some kernel
doer (act.WritingBack kernel block) = Some kernel
doer step = None

abbrev pub opens_stream : FileStep → Option StreamNo
opens_stream (act.Opening pid number kernel stream mode truncate) = Some stream
opens_stream step = None

abbrev pub is_move : FileStep → Bool
is_move (act.Moving stream source target kept) = true
is_move step = false

-- whether a looked-up kernel keeps something by itself, and whether a looked-up stream is kept so
abbrev pub is_apart : List (Option Kept) → Option ℕ → Bool
is_apart kept (Some kernel) = is_some (kept_at kept kernel)
is_apart kept None = false

abbrev pub keeps_stream : StreamNo → Option Kept → Bool
keeps_stream stream (Some one) = list_any (λ other. same_stream stream other.stream) one.streams
keeps_stream stream None = false

abbrev pub is_taken : List (Option Kept) → Option StreamNo → Bool
is_taken kept (Some stream) = list_any (keeps_stream stream) kept
is_taken kept None = false

-- whether a step isn't possible here: a move, one of a kernel that keeps something by itself, or an open of a stream that is kept so
abbrev pub is_barred : List (Option Kept) → FileStep → Bool
is_barred kept step = is_move step || (is_apart kept (doer step) || is_taken kept (opens_stream step))

-- a step of the file, which no client may cache while some kernel keeps something by itself
abbrev pub file_stepped : Setting → Restarted → FileStep → View
file_stepped z s step = if is_unclaimed s.kept then cold_step z s.view step else stepped z s.view step

abbrev pub file_entered : Setting → Restarted → FileStep → List Entered
file_entered z s step = if is_unclaimed s.kept then entered (uncached_setting z) s.view step else entered z s.view step

abbrev pub after_file : Setting → Restarted → FileStep → Restarted
after_file z s step = if is_barred s.kept step then s else record { view = file_stepped z s step; kept = s.kept }

abbrev pub told_file : Setting → Restarted → FileStep → List Outcome
told_file z s step = if is_barred s.kept step then [] else map came.Event (file_entered z s step)

-- the least unfinished call whose request or reply can come
abbrev pub is_ready : FileCall → Bool
is_ready one = not one.taken || is_some one.reply

abbrev pub least_of : ℕ → Option ℕ → Option ℕ
least_of number (Some other) = Some (min number other)
least_of number None = Some number

abbrev pub least_ready : List FileCall → Option ℕ
least_ready [] = None
least_ready (one ∷ rest) = if is_ready one then least_of one.number (least_ready rest) else least_ready rest

abbrev pub least_due : View → Option ℕ
least_due v = if has_room v then least_ready v.calls else None

-- it comes, so many times
abbrev pub after_due : Setting → Restarted → Option ℕ → Restarted
after_due z s (Some call) = after_file z s (act.Delivering call)
after_due z s None = s

abbrev pub told_due : Setting → Restarted → Option ℕ → List Outcome
told_due z s (Some call) = told_file z s (act.Delivering call)
told_due z s None = []

unfoldable pub settled_in : Setting → ℕ → Restarted → Restarted
settled_in z zero s = s
settled_in z (suc count) s = after_due z (settled_in z count s) (least_due (settled_in z count s).view)

unfoldable pub told_in : Setting → ℕ → Restarted → List Outcome
told_in z zero s = []
told_in z (suc count) s = told_in z count s ++ told_due z (settled_in z count s) (least_due (settled_in z count s).view)

-- the most deliveries of one settling
abbrev pub most_due : ℕ
most_due = 18446744073709551615

-- a step, and steps in a row
abbrev pub restarted : Setting → Restarted → RestartStep → Restarted
restarted z s (does.File step) = after_file z s step
restarted z s does.Stop = after_stop z s
restarted z s (does.Claim kernel) = after_claim z s kernel (claims_at s.kept kernel)
restarted z s does.Settle = settled_in z most_due s

abbrev pub told : Setting → Restarted → RestartStep → List Outcome
told z s (does.File step) = told_file z s step
told z s does.Stop = []
told z s (does.Claim kernel) = told_claim s.view kernel (claims_at s.kept kernel)
told z s does.Settle = told_in z most_due s

abbrev pub all_restarted : Setting → Restarted → List RestartStep → Restarted
all_restarted z s [] = s
all_restarted z s (step ∷ rest) = all_restarted z (restarted z s step) rest

abbrev pub all_told : Setting → Restarted → List RestartStep → List Outcome
all_told z s [] = []
all_told z s (step ∷ rest) = told z s step ++ all_told z (restarted z s step) rest

-- no size and no end of a block that is kept passes the most that a file may have
pub record Fits (z : Setting) (one : Kept) : Type 0 where
  pub size : one.size ≤ z.most
  pub blocks : (piece : BlockNo × List ℕ) → In piece one.blocks → piece.0.0 * z.block + length piece.1 ≤ z.most

-- what each step keeps: the view is sound; while a kernel keeps something by itself there is a place for each client, the file is
-- uncached, and nobody uses its cache or is about to
pub record Restarts (z : Setting) (s : Restarted) : Type 0 where
  pub sound : Sound z s.view
  pub uncached : is_unclaimed s.kept ≡ true → s.view.uncached ≡ true
  pub cold : is_unclaimed s.kept ≡ true → Cold (length s.kept) s.view
  pub fits : (one : Kept) → In (Some one) s.kept → Fits z one
