-- One kernel's part of a view, and the words in which its facts are said.
use Rattle.std.specs.Prelude.{◌≡◌, ◌≤◌, ◌<◌, ◌⊎◌, ℕ, ◌==◌, Bool, true, false, ◌||◌, List, [], ◌∷◌, filter, Option, Some, None}
use Rattle.sprite_ids.specs.declared.StreamNo.{StreamNo}
use Rattle.sprite_ids.specs.declared.CacheMode.{CacheMode}
use Rattle.sprite_ids.specs.declared.CallKind.{CallKind}
use Rattle.sprite_ids.specs.declared.CallKind.TheVariants.{Recall, Stop}
use Rattle.file_views.specs.declared.grant.FileGrant.{FileGrant}
use Rattle.file_views.specs.declared.opens.Open.{Open}
use Rattle.file_views.specs.declared.body.FileBody.{FileBody}
use Rattle.file_views.specs.declared.body.FileBody.TheVariants as form
use Rattle.file_views.specs.declared.client.Client.{Client}
use Rattle.file_views.specs.declared.call.FileCall.{FileCall}
use Rattle.file_views.specs.declared.view.View.{View}
use Rattle.file_views.specs.Views.{client, current_stamp, mode_given, grant_given, is_holder, things}
use Rattle.file_views.specs.Settled.{goes_to, arrival}

-- it stands in the list
abbrev pub In : {A : Type 0} → A → List A → Type 0
In x [] = ⊥
In x (y ∷ ys) = (x ≡ y) ⊎ In x ys

-- no item stands twice
abbrev pub Unique : {A : Type 0} → List A → Type 0
Unique [] = Unit {0}
Unique (x ∷ xs) = (In x xs → ⊥) × Unique xs

-- a fact of each two items
abbrev pub Pairs : {A : Type 0} → (A → A → Type 0) → List A → Type 0
Pairs {A} R xs = (x y : A) → In x xs → In y xs → R x y

-- the kernel is one of so many clients
abbrev pub IsClient : ℕ → ℕ → Type 0
IsClient count kernel = (1 ≤ kernel) × (kernel ≤ count)

-- the target of a move
abbrev pub target : FileBody → ℕ
target (form.Move stream place kept grants) = place
target body = 0

-- whether a call is of the kernel, to it, or a move to it
abbrev pub about : ℕ → FileCall → Bool
about kernel one = (one.from == kernel) || ((one.to == kernel) || (target one.body == kernel))

-- what of a view is about one kernel: what it keeps, what the server keeps of it, and the calls of it, to it and of moves to
-- it, the carried ones among them
pub record Here : Type 0 where
  pub kernel : ℕ
  pub client : Client
  pub current : ℕ
  pub mode : CacheMode
  pub given : Option FileGrant
  pub uncached : Bool
  pub opened : List Open
  pub calls : List FileCall
  pub version : ℕ
  pub holds : Bool
  pub bytes : List ℕ

abbrev pub at_kernel : View → ℕ → Here
at_kernel v kernel = record {
  kernel = kernel;
  client = client v kernel;
  current = current_stamp v kernel;
  mode = mode_given v kernel;
  given = grant_given v kernel;
  uncached = v.uncached;
  opened = filter (λ one. one.kernel == kernel) v.opens;
  calls = filter (about kernel) (things v);
  version = v.version;
  holds = is_holder v kernel;
  bytes = v.bytes;
}

-- the grant of the call is on its way to the kernel
abbrev pub Arrives : ℕ → FileCall → FileGrant → Type 0
Arrives kernel one grant = (goes_to one ≡ kernel) × (arrival one.reply ≡ Some grant)

-- it is on its way to the kernel, and newer than what the kernel took last
abbrev pub Newer : ℕ → ℕ → List FileCall → FileCall → FileGrant → Type 0
Newer kernel own calls one grant = In one calls × Arrives kernel one grant × (own < grant.stamp)

-- a fact of each newer grant
abbrev pub EachNewer : ℕ → ℕ → List FileCall → (FileCall → FileGrant → Type 0) → Type 0
EachNewer kernel own calls P = (one : FileCall) → In one calls → (grant : FileGrant) → Arrives kernel one grant → own < grant.stamp → P one grant

-- the stamp that a fetch, a write-back or an operation carries
abbrev pub request_stamp : FileBody → Option ℕ
request_stamp (form.Fetch stamp block) = Some stamp
request_stamp (form.WriteBack stamp block size piece) = Some stamp
request_stamp (form.Op pid number stamp stream way) = Some stamp
request_stamp body = None

-- the stream that a request for a grant is about
abbrev pub asked_stream : FileBody → Option StreamNo
asked_stream (form.Opening pid number stream mode truncate) = Some stream
asked_stream (form.Move stream place kept grants) = Some stream
asked_stream body = None

-- a stop is on its way to the kernel, and a recall is
pub record Stopped (kernel : ℕ) (calls : List FileCall) : Type 0 where
  pub call : FileCall
  pub there : In call calls
  pub to_kernel : call.to ≡ kernel
  pub stamp : ℕ
  pub stops : call.body ≡ form.Callback stamp Stop
  pub untaken : call.taken ≡ false

pub record Recalled (kernel : ℕ) (calls : List FileCall) : Type 0 where
  pub call : FileCall
  pub there : In call calls
  pub to_kernel : call.to ≡ kernel
  pub stamp : ℕ
  pub recalls : call.body ≡ form.Callback stamp Recall
  pub untaken : call.taken ≡ false

-- the kernel answered a callback, and the answer hasn't come
pub record Answered (kernel : ℕ) (calls : List FileCall) : Type 0 where
  pub call : FileCall
  pub there : In call calls
  pub to_kernel : call.to ≡ kernel
  pub stamp : ℕ
  pub kind : CallKind
  pub is_call : call.body ≡ form.Callback stamp kind
  pub taken : call.taken ≡ true
