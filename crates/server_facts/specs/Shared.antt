-- The grants of shared streams, while the requests that a server serves fit what it keeps of them.
use Rattle.std.specs.Prelude.{◌≡◌, ◌≤◌, ◌<◌, ℕ, zero, suc, Bool, true, false, List, [], ◌∷◌, length, Option, Some, None, is_some}
use Rattle.std.specs.List.{AllByRecursion, list_any}
use Rattle.sprite_ids.specs.declared.FileId.{FileId}
use Rattle.sprite_ids.specs.declared.Flushed.{Flushed}
use Rattle.sprite_ids.specs.declared.Grant.{Grant}
use Rattle.sprite_ids.specs.declared.StreamNo.{StreamNo}
use Rattle.sprite_ids.specs.declared.TxNo.{TxNo}
use Rattle.sprite_ids.specs.Lists.{less}
use Rattle.packet_bodies.specs.declared.MoveRequest.{MoveRequest}
use Rattle.packet_bodies.specs.declared.ReplyBody.{ReplyBody}
use Rattle.packet_bodies.specs.declared.ReplyBody.TheVariants as bodies
use Rattle.packet_bodies.specs.declared.Request.{Request}
use Rattle.packet_bodies.specs.declared.Request.TheVariants as requests
use Rattle.packet_bodies.specs.declared.Target.{Target}
use Rattle.packet_bodies.specs.declared.Target.TheVariants as targets
use Rattle.kernel_steps.specs.declared.Input.{Input}
use Rattle.kernel_steps.specs.declared.Input.TheVariants as inputs
use Rattle.kernel_steps.specs.Rows.{first_under, is_under}
use Rattle.unix_calls.specs.declared.Description.{Description}
use Rattle.shadow_streams.specs.declared.Shadow.{Shadow}
use Rattle.shadow_streams.specs.Shadows.{grants_of, offset_of}
use Rattle.version_table.specs.declared.Asking.{Asking}
use Rattle.version_table.specs.declared.Open.{Open}
use Rattle.version_table.specs.Files as tables
use Rattle.version_table.specs.Opens.{count_in, is_at, is_stream, open_at, opened, sharing}
use Rattle.version_table.specs.Versions.{Files, file_of, is_file}
use Rattle.server_kernel.specs.declared.Asked.{Asked}
use Rattle.server_kernel.specs.declared.CallOut.{CallOut}
use Rattle.server_kernel.specs.declared.Server.{Server}
use Rattle.server_kernel.specs.Boot.{boots}
use Rattle.server_kernel.specs.Files.{count_at, is_busy, kept_of}
use Rattle.server_kernel.specs.Grants.{grants}
use Rattle.server_kernel.specs.Steps.{begins, server_step}
use Rattle.server_kernel.specs.Waits.{first_about, is_call, less_about, puts_all, turns, with_answer, with_settled}
use Rattle.server_facts.specs.Asking.{AskingStands, AtMost}
use Rattle.server_facts.specs.Steps.{after}

-- the grants of a shared stream are those that the table of opens has; kernels are numbered from 1
abbrev pub SharedGrantsAreCounted : Server → Type 0
SharedGrantsAreCounted s = (file : FileId) (stream : StreamNo) (kernel : ℕ) → 0 < kernel → list_any (is_stream stream) (kept_of file s).shared ≡ true → grants_of s.shadows stream kernel ≡ count_at file stream kernel s

-- what waits for callbacks has its opens and shared streams ready
abbrev pub IsReadyFor : List Open → List StreamNo → Option Asking → Type 0
IsReadyFor opens shared (Some asking) = (asking.opens ≡ opened opens asking.action) × (asking.shared ≡ sharing shared asking.action)
IsReadyFor opens shared None = Unit {0}

-- a stream has one open at a kernel
abbrev pub AreOpensOnce : List Open → Type 0
AreOpensOnce opens = (stream : StreamNo) (kernel : ℕ) → AtMost 1 (is_at stream kernel) opens

-- the grants are counted; for this also what waits has its opens ready, each open is there once, and there is a place for each of the 16
-- kernels
pub record SharedStand (s : Server) : Type 0 where
  pub counted : SharedGrantsAreCounted s
  pub ready : (file : FileId) → IsReadyFor (kept_of file s).opens (kept_of file s).shared (kept_of file s).asking
  pub opens : (file : FileId) → AreOpensOnce (kept_of file s).opens
  pub places : AllByRecursion (λ (shadow : Shadow). length shadow.grants ≡ 16) s.shadows
  pub asking : AskingStands s

-- ---- which requests fit

-- whether the stream is shared, by the table of opens of that file
abbrev pub is_shared_in : Files → FileId → StreamNo → Bool
is_shared_in table file stream = list_any (is_stream stream) (file_of table file).shared

-- no other file has that stream shared
abbrev pub NoOther : Files → FileId → StreamNo → Type 0
NoOther table file stream = (other : FileId) → is_file file other ≡ false → is_shared_in table other stream ≡ false

-- a move goes from a kernel to another one, of a stream that is shared in its file exactly where its offset is kept here; where it becomes
-- shared, its source alone has it open
pub record MoveFits (table : Files) (shadows : List Shadow) (file : FileId) (from : ℕ) (r : MoveRequest) : Type 0 where
  pub alone : NoOther table file r.stream
  pub same : is_shared_in table file r.stream ≡ is_some (offset_of shadows r.stream)
  pub source : is_some (offset_of shadows r.stream) ≡ false → r.kept ≡ true → (kernel : ℕ) → (from ≡ kernel → ⊥) → count_in (open_at (file_of table file).opens r.stream kernel) ≡ 0
  pub apart : from ≡ r.to → ⊥
  pub from_is : (0 < from) × (from ≤ 16)
  pub to_is : (0 < r.to) × (r.to ≤ 16)

pub record CloseFits (table : Files) (file : FileId) (from : ℕ) (stream : StreamNo) : Type 0 where
  pub alone : NoOther table file stream
  pub from_is : (0 < from) × (from ≤ 16)

-- a stream that is opened is shared in no file
abbrev pub OpeningFits : Files → StreamNo → Type 0
OpeningFits table stream = (file : FileId) → is_shared_in table file stream ≡ false

-- where its file isn't busy; else it waits
abbrev pub TargetFits : Files → Target → (FileId → Type 0) → Type 0
TargetFits table (targets.File file) Fits = tables.is_busy (file_of table file) ≡ false → Fits file
TargetFits table (targets.Device device) Fits = Unit {0}

-- a request that is served
abbrev pub FitsAs : Request → ℕ → Files → List Shadow → Type 0
FitsAs (requests.Opening r) from table shadows = OpeningFits table r.stream
FitsAs (requests.Move r) from table shadows = TargetFits table r.object (λ file. MoveFits table shadows file from r)
FitsAs (requests.Close r) from table shadows = TargetFits table r.object (λ file. CloseFits table file from r.stream)
FitsAs body from table shadows = Unit {0}

abbrev pub Fits : Asked → Files → List Shadow → Type 0
Fits asked table shadows = FitsAs asked.body asked.from table shadows

-- an open or a move that is granted once its callbacks are answered
abbrev pub GrantFitsAs : Request → ℕ → FileId → Files → List Shadow → Type 0
GrantFitsAs (requests.Opening r) from file table shadows = OpeningFits table r.stream
GrantFitsAs (requests.Move r) from file table shadows = MoveFits table shadows file from r
GrantFitsAs body from file table shadows = Unit {0}

-- what waited for the file, one request after the other
abbrev pub TurnsFit : ℕ → FileId → Server → Type 0
TurnsFit zero file s = Unit {0}
TurnsFit (suc count) file s = TurnsFit count file s × ((asked : Asked) → is_busy file (turns count file s) ≡ false → first_about file (turns count file s).waiting ≡ Some asked → Fits asked (turns count file s).versions.files (turns count file s).shadows)

-- what asked, and what waited for it
pub record SettlesFit (file : FileId) (s : Server) (asked : Asked) : Type 0 where
  pub granted : GrantFitsAs asked.body asked.from file s.versions.files s.shadows
  pub waited : (grant : Grant) → tables.settled_grant (kept_of file s) ≡ Some grant → TurnsFit (length (grants asked file grant (with_settled file (record s { asking = less_about file s.asking }))).waiting) file (grants asked file grant (with_settled file (record s { asking = less_about file s.asking })))

-- the server when an answer to a callback is taken: its blocks are stored, and the kernel has answered
abbrev pub heard : CallOut → Flushed → TxNo → Server → Server
heard call flushed tx s = with_answer call (puts_all call.file flushed.size flushed.blocks (record s { callbacks = less (is_under is_call tx) s.callbacks }))

abbrev pub ReplyFits : ReplyBody → TxNo → Server → Type 0
ReplyFits (bodies.Flushed flushed) tx s = (call : CallOut) (asked : Asked) → first_under is_call tx s.callbacks ≡ Some call → tables.is_ready (kept_of call.file (heard call flushed tx s)) ≡ true → first_about call.file (heard call flushed tx s).asking ≡ Some asked → SettlesFit call.file (heard call flushed tx s) asked
ReplyFits body tx s = Unit {0}

-- all requests that a step serves fit
abbrev pub StepFits : Server → Input → Type 0
StepFits s (inputs.Request tx source body) = FitsAs body source s.versions.files s.shadows
StepFits s (inputs.Replied tx source body) = ReplyFits body tx s
StepFits s input = Unit {0}

abbrev pub StepsFit : List (Input × TxNo) → Server → Type 0
StepsFit [] s = Unit {0}
StepsFit (one ∷ rest) s = StepFits (begins one.1 s) one.0 × StepsFit rest (server_step s one.0 one.1).0

-- every such step of a server keeps the fact
abbrev pub StepKeepsWhereFit : (Server → Type 0) → Type 0
StepKeepsWhereFit Fact = (s : Server) (input : Input) (next : TxNo) → Fact s → StepFits (begins next s) input → Fact (server_step s input next).0

-- and so it has it from when the cluster begins, as long as requests fit
abbrev pub HoldsWhereFit : (Server → Type 0) → Type 0
HoldsWhereFit Fact = (c : Description) (kernel : ℕ) (first : Server) (inputs : List (Input × TxNo)) → boots c kernel ≡ Some first → StepsFit inputs first → Fact (after inputs first)
