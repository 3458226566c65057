-- The fourth layer of soundness: what the server decided.
use Rattle.std.specs.Prelude.{◌≡◌, ℕ, Bool, true, false, List, [], ◌∷◌, length}
use Rattle.std.specs.List.{list_any}
use Rattle.sprite_ids.specs.declared.StreamNo.{StreamNo}
use Rattle.sprite_ids.specs.declared.CacheMode.{CacheMode}
use Rattle.sprite_ids.specs.declared.CallKind.TheVariants.{Recall}
use Rattle.file_views.specs.declared.body.FileBody.TheVariants as form
use Rattle.file_views.specs.declared.opens.Open.{Open}
use Rattle.file_views.specs.declared.call.FileCall.{FileCall}
use Rattle.file_views.specs.declared.view.View.{View}
use Rattle.file_views.specs.Setting.{Setting}
use Rattle.file_views.specs.Streams.{same_stream, has_stream}
use Rattle.file_views.specs.Clients.{is_on}
use Rattle.file_views.specs.Views.{busy, waiting_calls}
use Rattle.file_views.specs.Grants.{truncates, receiver, uncached_after}
use Rattle.file_views.specs.Coherent.{first_asks}
use Rattle.file_views.specs.Here.{In, IsClient, Here, at_kernel}

-- while a callback is out the first that waits asks for a grant; else nothing waits
pub record Queued (v : View) : Type 0 where
  pub asks : busy v ≡ true → first_asks (waiting_calls v) ≡ true
  pub idle : busy v ≡ false → waiting_calls v ≡ []

-- while a callback is out, `uncached` is what the one that asks makes it; a recall isn't to its receiver, unless it truncates
pub record Decided (z : Setting) (v : View) : Type 0 where
  pub told : (one : FileCall) (rest : List FileCall) → busy v ≡ true → waiting_calls v ≡ one ∷ rest → v.uncached ≡ false → uncached_after z v one ≡ false
  pub spared : (one : FileCall) (rest : List FileCall) → waiting_calls v ≡ one ∷ rest → (other : FileCall) → In other v.calls → (stamp : ℕ) → other.body ≡ form.Callback stamp Recall → other.to ≡ receiver one → truncates one.body ≡ true

-- the file is uncached while a stream is shared, and each such stream is open
pub record SharedUncached (v : View) : Type 0 where
  pub uncached : (stream : StreamNo) → has_stream stream v.shared ≡ true → v.uncached ≡ true
  pub stays : (stream : StreamNo) → has_stream stream v.shared ≡ true → list_any (λ one. same_stream stream one.stream) v.opens ≡ true

-- while the file is uncached no mode given last is On; while it isn't, each kernel that has it open was given On last
pub record DecidedModes (mode : CacheMode) (uncached : Bool) (opened : List Open) : Type 0 where
  pub off : uncached ≡ true → is_on mode ≡ false
  pub on : uncached ≡ false → (one : Open) → In one opened → is_on mode ≡ true

abbrev pub LocalDecisions : Here → Type 0
LocalDecisions here = DecidedModes here.mode here.uncached here.opened

pub record Decisions (z : Setting) (v : View) : Type 0 where
  pub queued : Queued v
  pub decided : Decided z v
  pub shared : SharedUncached v
  pub each : (kernel : ℕ) → IsClient (length v.clients) kernel → LocalDecisions (at_kernel v kernel)
