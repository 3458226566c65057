-- What the laws of the table say.
use Rattle.std.specs.Prelude.{◌≡◌, ◌≤◌, ◌<◌, ℕ, ◌+◌, ◌==◌, nat_le, Bool, true, false, ◌&&◌, not, List, [], ◌∷◌, ◌++◌, map, Option, Some, None, is_some}
use Rattle.sprite_ids.specs.declared.FileId.{FileId}
use Rattle.sprite_ids.specs.declared.StreamNo.{StreamNo}
use Rattle.sprite_ids.specs.declared.Callback.{Callback}
use Rattle.sprite_ids.specs.declared.Grant.{Grant}
use Rattle.version_table.specs.declared.action.Action.{Action}
use Rattle.version_table.specs.declared.action.Decision.{Decision}
use Rattle.version_table.specs.declared.action.Decision.TheVariants.{Grant as Grants, CallFirst}
use Rattle.version_table.specs.declared.versioned.Versioned.{Versioned}
use Rattle.version_table.specs.Opens.{has_open}
use Rattle.version_table.specs.Files.{fresh, is_busy, is_holder, is_on, is_ready, is_any_out, is_uncached, call_of, calls_of, decided, answered, settled, settled_grant, closed}
use Rattle.version_table.specs.Coherence.{has_open_for_writing}
use Rattle.version_table.specs.Decisions.{decision_of}
use Rattle.version_table.specs.Versions.{Table, file_of, with_file, with_closed, forgotten}

-- a kernel that has the file open for writing is the only kernel that has it open
abbrev pub IsAlone : Versioned → ℕ → Type 0
IsAlone file writer = has_open_for_writing file.opens writer ≡ true → (other : ℕ) → has_open file.opens other ≡ true → other ≡ writer

-- of a file that isn't uncached, that is so of each kernel
abbrev pub CachedIsUnshared : Versioned → Type 0
CachedIsUnshared file = file.uncached ≡ false → (writer : ℕ) → IsAlone file writer

-- likewise of any file of which some kernel was given mode On last
abbrev pub CachingIsUnshared : Versioned → Type 0
CachingIsUnshared file = (caching : ℕ) → caching ≤ 16 → is_on file caching ≡ true → (writer : ℕ) → IsAlone file writer

-- a kernel that has the file open for writing and was given mode On last is the possible holder of dirty blocks, where the
-- file isn't busy
abbrev pub CachingIsHolder : Versioned → Type 0
CachingIsHolder file = is_busy file ≡ false → (writer : ℕ) → writer ≤ 16 → is_on file writer ≡ true → has_open_for_writing file.opens writer ≡ true → is_holder file writer ≡ true

-- of an uncached file no kernel was given mode On last
abbrev pub UncachedIsStopped : Versioned → Type 0
UncachedIsStopped file = file.uncached ≡ true → (kernel : ℕ) → kernel ≤ 16 → is_on file kernel ≡ false

-- whether a decision names the kernel for a callback
abbrev pub is_named : Bool → Versioned → Action → ℕ → Bool
is_named cached file action kernel = (nat_le 1 kernel && nat_le kernel 16) && is_some (call_of (is_uncached cached file action) file action kernel)

-- 1 for yes
abbrev pub once_if : Bool → ℕ
once_if true = 1
once_if false = 0

-- how many of the callbacks go to the kernel
abbrev pub times_called : ℕ → List Callback → ℕ
times_called kernel [] = 0
times_called kernel (call ∷ calls) = once_if (call.to == kernel) + times_called kernel calls

-- a decision sends one callback to each kernel that it names, and none to another
abbrev pub CallbacksGoOnce : Type 0
CallbacksGoOnce = (cached : Bool) (file : Versioned) (action : Action) (kernel : ℕ) → times_called kernel (calls_of cached file action) ≡ once_if (is_named cached file action kernel)

-- where a decision is a grant, it has mode On exactly where the file isn't uncached then
abbrev pub DecisionSays : Versioned → Decision → Type 0
DecisionSays file (Grants grant) = grant.on ≡ not file.uncached
DecisionSays file (CallFirst calls) = Unit {0}

-- likewise where a grant is given
abbrev pub GrantSays : Versioned → Option Grant → Type 0
GrantSays file (Some grant) = grant.on ≡ not file.uncached
GrantSays file None = Unit {0}

-- mode On is granted exactly where the file isn't uncached after the grant
abbrev pub GrantsSay : Type 0
GrantsSay = ((cached : Bool) (file : Versioned) (action : Action) → DecisionSays (decided cached file action) (decision_of cached file action)) × ((file : Versioned) → GrantSays (settled file) (settled_grant file))

-- a call of the table about one file
pub data Step : Type 0 where
  Deciding : Action → Step
  Answering : (kernel : ℕ) → Step
  Settling : Step
  Closing : (kernel : ℕ) (stream : StreamNo) (grants : ℕ) → Step

-- the file after the call
abbrev pub after : Bool → Versioned → Step → Versioned
after cached file (Deciding action) = decided cached file action
after cached file (Answering kernel) = answered file kernel
after cached file Settling = settled file
after cached file (Closing kernel stream grants) = closed file kernel stream grants

-- the stamps that a decision gives
abbrev pub stamps_in : Decision → List ℕ
stamps_in (Grants grant) = grant.stamp ∷ []
stamps_in (CallFirst calls) = map (λ (call : Callback). call.stamp) calls

-- the stamp of a grant that is given
abbrev pub stamps_of : Option Grant → List ℕ
stamps_of (Some grant) = grant.stamp ∷ []
stamps_of None = []

-- the stamps that the call gives
abbrev pub given_by : Bool → Versioned → Step → List ℕ
given_by cached file (Deciding action) = stamps_in (decision_of cached file action)
given_by cached file (Answering kernel) = []
given_by cached file Settling = stamps_of (settled_grant file)
given_by cached file (Closing kernel stream grants) = []

-- the stamps that calls one after the other give
abbrev pub stamps_given : Bool → Versioned → List Step → List ℕ
stamps_given cached file [] = []
stamps_given cached file (first ∷ rest) = given_by cached file first ++ stamps_given cached (after cached file first) rest

-- numbers that rise, from one that is less than the first
abbrev pub Rise : ℕ → List ℕ → Type 0
Rise least [] = Unit {0}
Rise least (first ∷ rest) = (least < first) × Rise first rest

-- the stamp of each grant and of each callback of a file is greater than all before
abbrev pub StampsRise : Type 0
StampsRise = (cached : Bool) (file : FileId) (steps : List Step) → Rise 0 (stamps_given cached (fresh file) steps)

-- a call that changes the table
pub data Call : Type 0 where
  Decides : FileId → Action → Call
  Answers : FileId → (kernel : ℕ) → Call
  Settles : FileId → Call
  Closes : FileId → (kernel : ℕ) (stream : StreamNo) (grants : ℕ) → Call
  Forgets : FileId → Call

-- whether the call may be made: an open, a move or a close where the file isn't busy, an answer where it is, and what waits
-- is granted where it is and no callback is out
abbrev pub MayBe : Table → Call → Type 0
MayBe table (Decides file action) = is_busy (file_of table.files file) ≡ false
MayBe table (Answers file kernel) = is_busy (file_of table.files file) ≡ true
MayBe table (Settles file) = is_ready (file_of table.files file) ≡ true
MayBe table (Closes file kernel stream grants) = is_busy (file_of table.files file) ≡ false
MayBe table (Forgets file) = Unit {0}

-- the files after the call
abbrev pub files_after : Table → Call → List (FileId × Versioned)
files_after table (Decides file action) = with_file table.files file (decided table.cached (file_of table.files file) action)
files_after table (Answers file kernel) = with_file table.files file (answered (file_of table.files file) kernel)
files_after table (Settles file) = with_file table.files file (settled (file_of table.files file))
files_after table (Closes file kernel stream grants) = with_closed table.files file kernel stream grants
files_after table (Forgets file) = forgotten table.files file

-- the table after the call
abbrev pub table_after : Table → Call → Table
table_after table call = record table { files = files_after table call }

-- no callback of the file is out
abbrev pub NoneOut : Table → FileId → Type 0
NoneOut table file = is_any_out (file_of table.files file) ≡ false

-- whether a decision is a grant
abbrev pub is_grant : Decision → Bool
is_grant (Grants grant) = true
is_grant (CallFirst calls) = false

-- where the call gives a grant of a file, no callback of that file is out, before the call and after it
abbrev pub GrantsAlone : Table → Call → Type 0
GrantsAlone table (Decides file action) = is_grant (decision_of table.cached (file_of table.files file) action) ≡ true → NoneOut table file × NoneOut (table_after table (Decides file action)) file
GrantsAlone table (Answers file kernel) = Unit {0}
GrantsAlone table (Settles file) = NoneOut table file × NoneOut (table_after table (Settles file)) file
GrantsAlone table (Closes file kernel stream grants) = Unit {0}
GrantsAlone table (Forgets file) = Unit {0}

-- that holds of each of the calls, one after the other, as far as they may be made
abbrev pub EachGrantsAlone : Table → List Call → Type 0
EachGrantsAlone table [] = Unit {0}
EachGrantsAlone table (call ∷ calls) = MayBe table call → GrantsAlone table call × EachGrantsAlone (table_after table call) calls

-- a grant of a file is made only with no callback of it out, whatever calls come
abbrev pub GrantsComeAlone : Type 0
GrantsComeAlone = (cached : Bool) (calls : List Call) → EachGrantsAlone (record { cached = cached; files = [] }) calls
