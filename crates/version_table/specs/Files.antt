-- What the server keeps of one file, and how an open, a move, a callback's answer and a close change it.
use Rattle.std.specs.Prelude.{◌≡◌, ◌≤◌, ℕ, zero, suc, ◌+◌, ◌-◌, ◌==◌, nat_le, Bool, true, false, ◌&&◌, ◌||◌, not, if◌then◌else◌, List, [], ◌∷◌, ◌++◌, length, fold, Option, Some, None, is_some, replicate, slice_get, slice_index, slice_set}
use Rattle.std.specs.List.{list_any}
use Rattle.sprite_ids.specs.declared.FileId.{FileId}
use Rattle.sprite_ids.specs.declared.StreamNo.{StreamNo}
use Rattle.sprite_ids.specs.declared.CacheMode.{CacheMode}
use Rattle.sprite_ids.specs.declared.CacheMode.TheVariants.{Off}
use Rattle.sprite_ids.specs.declared.CallKind.{CallKind}
use Rattle.sprite_ids.specs.declared.CallKind.TheVariants.{Recall, Stop}
use Rattle.sprite_ids.specs.declared.Callback.{Callback}
use Rattle.sprite_ids.specs.declared.Grant.{Grant}
use Rattle.version_table.specs.declared.opens.Open.{Open}
use Rattle.version_table.specs.declared.action.Action.{Action}
use Rattle.version_table.specs.declared.versioned.Asking.{Asking}
use Rattle.version_table.specs.declared.versioned.Versioned.{Versioned}
use Rattle.sprite_ids.specs.Lists.{less}
use Rattle.version_table.specs.Lists.{is_any}
use Rattle.version_table.specs.Modes.{caches, mode_of_grant, no_modes}
use Rattle.version_table.specs.Opens.{is_stream, is_of_stream, receiver, truncates, is_writing, taken_off, opened, sharing, has_open, is_write_shared, are_roomy}

-- a file that nobody opened so far: its version is 1
abbrev pub fresh : FileId → Versioned
fresh file = record { file = file; version = 1; holder = None; uncached = false; opens = []; shared = []; stamp = 0; stamps = replicate 16 0; modes = no_modes; given = replicate 16 None; out = replicate 16 false; asking = None }

-- a file is busy while an open or a move waits for callbacks
abbrev pub is_busy : Versioned → Bool
is_busy file = is_some file.asking

-- whether a looked-up kernel is that one
abbrev pub is_kernel : ℕ → Option ℕ → Bool
is_kernel kernel (Some other) = other == kernel
is_kernel kernel None = false

-- whether the kernel is the possible holder of dirty blocks
abbrev pub is_holder : Versioned → ℕ → Bool
is_holder file kernel = is_kernel kernel file.holder

-- whether a looked-up mode is On
abbrev pub is_on_in : Option CacheMode → Bool
is_on_in (Some mode) = caches mode
is_on_in None = false

-- whether the mode that the kernel was given last is On
abbrev pub is_on : Versioned → ℕ → Bool
is_on file kernel = is_on_in (slice_get file.modes (kernel - 1))

-- a file becomes uncached where two or more kernels have it open and one of them for writing, where a stream of it is
-- shared, and where it is truncated while it is open; it stays uncached until no kernel has it open. Where clients have
-- no cache, every file is uncached
abbrev pub is_uncached : Bool → Versioned → Action → Bool
is_uncached cached file action = file.uncached || (not cached || (is_write_shared (opened file.opens action) || (is_any (sharing file.shared action) || (truncates action && is_any file.opens))))

-- of an uncached file each kernel is stopped whose mode is On, also one that no longer has it open; a truncation stops
-- also each kernel that has it open
abbrev pub is_stopped : Versioned → Action → ℕ → Bool
is_stopped file action kernel = is_on file kernel || (truncates action && has_open file.opens kernel)

-- of a cached file the blocks are recalled from the possible holder, unless that is the receiving kernel and nothing is
-- truncated
abbrev pub is_recalled : Versioned → Action → ℕ → Bool
is_recalled file action kernel = is_holder file kernel && (truncates action || not (receiver action == kernel))

-- the one callback that a decision sends to a kernel, where it sends one
abbrev pub call_of : Bool → Versioned → Action → ℕ → Option CallKind
call_of true file action kernel = if is_stopped file action kernel then Some Stop else None
call_of false file action kernel = if is_recalled file action kernel then Some Recall else None

-- each callback takes the next stamp of the file
abbrev pub with_call : Versioned → ℕ → Option CallKind → List Callback → List Callback
with_call file kernel (Some kind) calls = calls ++ record { file = file.file; to = kernel; stamp = file.stamp + length calls + 1; kind = kind } ∷ []
with_call file kernel None calls = calls

-- the callbacks that a decision sends to the kernels up to that one, in ascending order
abbrev pub calls_to : Bool → Versioned → Action → ℕ → List Callback
calls_to uncached file action zero = []
calls_to uncached file action (suc kernel) = with_call file (suc kernel) (call_of uncached file action (suc kernel)) (calls_to uncached file action kernel)

-- the callbacks that a decision sends
abbrev pub calls_of : Bool → Versioned → Action → List Callback
calls_of cached file action = calls_to (is_uncached cached file action) file action 16

-- the modes after a callback: a kernel that is stopped has mode Off
abbrev pub modes_after : List CacheMode → ℕ → CallKind → List CacheMode
modes_after modes kernel Stop = slice_set modes (kernel - 1) Off
modes_after modes kernel Recall = modes

-- the file after one callback went out: its stamp is the current one of its kernel
abbrev pub called : Versioned → Callback → Versioned
called file call = record file { stamp = call.stamp; stamps = slice_set file.stamps (call.to - 1) call.stamp; modes = modes_after file.modes call.to call.kind; out = slice_set file.out (call.to - 1) true }

-- the version goes up by one at a truncation, and at an open for writing by a kernel that isn't the possible holder; once
-- where it is both
abbrev pub new_version : Versioned → Action → ℕ
new_version file action = if truncates action || (is_writing file.opens action && not (is_holder file (receiver action))) then file.version + 1 else file.version

-- a grant carries the version before it as the old one; a truncation's carries the new one
abbrev pub old_version : Versioned → Action → ℕ
old_version file action = if truncates action then new_version file action else file.version

-- the grant has the next stamp, lets the receiving kernel cache where the file isn't uncached, and says whether that
-- kernel was the possible holder just before
abbrev pub grant_of : Versioned → Action → Grant
grant_of file action = record { file = file.file; stamp = file.stamp + 1; old = old_version file action; new = new_version file action; size = 0; on = not file.uncached; holder = is_holder file (receiver action) }

-- a grant for writing with mode On makes the receiving kernel the possible holder
abbrev pub holder_after : Versioned → Action → Option ℕ
holder_after file action = if is_writing file.opens action && not file.uncached then Some (receiver action) else file.holder

-- the file after the kernel was given that grant
abbrev pub given_to : Versioned → ℕ → Grant → Versioned
given_to file kernel grant = record file { version = grant.new; stamp = grant.stamp; stamps = slice_set file.stamps (kernel - 1) grant.stamp; modes = slice_set file.modes (kernel - 1) (mode_of_grant grant.on); given = slice_set file.given (kernel - 1) (Some grant) }

-- the file after the open or move was granted, which leads to these opens and shared streams
abbrev pub granted : Versioned → Action → List Open → List StreamNo → Versioned
granted file action opens shared = record (given_to file (receiver action) (grant_of file action)) { holder = holder_after file action; opens = opens; shared = shared; asking = None }

-- the file once it is known whether it is uncached
abbrev pub told : Bool → Versioned → Versioned
told uncached file = record file { uncached = uncached }

-- the file while the open or move waits
abbrev pub waiting : Versioned → Action → Versioned
waiting file action = record file { asking = Some (record { action = action; opens = opened file.opens action; shared = sharing file.shared action }) }

-- without callbacks the open or move is granted at once; else it waits until they are answered
abbrev pub deciding : Versioned → Action → List Callback → Versioned
deciding file action [] = granted file action (opened file.opens action) (sharing file.shared action)
deciding file action (call ∷ calls) = fold called (waiting file action) (call ∷ calls)

-- the file after a decision
abbrev pub decided : Bool → Versioned → Action → Versioned
decided cached file action = deciding (told (is_uncached cached file action) file) action (calls_of cached file action)

-- whether a looked-up mark is set
abbrev pub is_set : Option Bool → Bool
is_set (Some mark) = mark
is_set None = false

-- whether a callback to the kernel is out
abbrev pub is_out : Versioned → ℕ → Bool
is_out file kernel = is_set (slice_get file.out (kernel - 1))

-- whether any callback is out
abbrev pub is_any_out : Versioned → Bool
is_any_out file = list_any (λ mark. mark) file.out

-- whether what waits may be granted: the file is busy, and no callback is out
abbrev pub is_ready : Versioned → Bool
is_ready file = is_busy file && not (is_any_out file)

-- the file after a callback's answer came: a kernel that answers holds no dirty blocks
abbrev pub answered : Versioned → ℕ → Versioned
answered file kernel = record file { out = slice_set file.out (kernel - 1) false; holder = if is_holder file kernel then None else file.holder }

-- whether it was the last callback that was out
abbrev pub is_last : Versioned → ℕ → Bool
is_last file kernel = is_out file kernel && not (is_any_out (answered file kernel))

-- the file after the open or move that waits is granted
abbrev pub settling : Versioned → Option Asking → Versioned
settling file (Some asking) = granted file asking.action asking.opens asking.shared
settling file None = file

-- the file after it is settled
abbrev pub settled : Versioned → Versioned
settled file = settling file file.asking

-- the grant of the open or move that waits
abbrev pub settling_grant : Versioned → Option Asking → Option Grant
settling_grant file (Some asking) = Some (grant_of file asking.action)
settling_grant file None = None

-- the grant when the file is settled
abbrev pub settled_grant : Versioned → Option Grant
settled_grant file = settling_grant file file.asking

-- a stream stays shared until no kernel has it open
abbrev pub shared_after : List StreamNo → StreamNo → List Open → List StreamNo
shared_after shared stream opens = if list_any (is_of_stream stream) opens then shared else less (is_stream stream) shared

-- the file with fewer opens: without any it may be cached again
abbrev pub closing : Versioned → StreamNo → List Open → Versioned
closing file stream opens = record file { opens = opens; shared = shared_after file.shared stream opens; uncached = is_any opens && file.uncached }

-- the file after a close
abbrev pub closed : Versioned → ℕ → StreamNo → ℕ → Versioned
closed file kernel stream grants = closing file stream (taken_off file.opens stream kernel grants)

-- whether no kernel has the file open after a close
abbrev pub is_closed : Versioned → ℕ → StreamNo → ℕ → Bool
is_closed file kernel stream grants = not (is_any (closed file kernel stream grants).opens)

-- the grant of a kernel whose last stamp was a callback's, or that has none
abbrev pub plain : Versioned → ℕ → Grant
plain file kernel = record { file = file.file; stamp = slice_index file.stamps (kernel - 1); old = file.version; new = file.version; size = 0; on = is_on file kernel; holder = false }

-- the grant given last where its stamp is the current one, else one without a change of version
abbrev pub current_in : Versioned → ℕ → Option (Option Grant) → Grant
current_in file kernel (Some (Some grant)) = if grant.stamp == slice_index file.stamps (kernel - 1) then grant else plain file kernel
current_in file kernel (Some None) = plain file kernel
current_in file kernel None = plain file kernel

-- what a request with an old stamp is answered
abbrev pub current : Versioned → ℕ → Grant
current file kernel = current_in file kernel (slice_get file.given (kernel - 1))

-- whether stamps, version and counts may be raised
abbrev pub is_roomy : Versioned → Bool
is_roomy file = nat_le file.stamp 2000000000 && (nat_le file.version 2000000000 && are_roomy file.opens)

-- what an open or a move that waits has ready: its opens and shared streams, and room for one more stamp and version
abbrev pub IsPreparedFor : Versioned → Option Asking → Type 0
IsPreparedFor file (Some asking) = (asking.opens ≡ opened file.opens asking.action) × (asking.shared ≡ sharing file.shared asking.action) × (file.stamp ≤ 2000000016) × (file.version ≤ 2000000000)
IsPreparedFor file None = Unit {0}

abbrev pub IsPrepared : Versioned → Type 0
IsPrepared file = IsPreparedFor file file.asking
