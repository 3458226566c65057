-- The third layer of soundness: stamps.
use Rattle.std.specs.Prelude.{◌≡◌, ◌≢◌, ◌≤◌, ◌<◌, ℕ, Bool, true, false, List, length, Option, Some}
use Rattle.sprite_ids.specs.declared.CacheMode.{CacheMode}
use Rattle.sprite_ids.specs.declared.CacheMode.TheVariants as cache
use Rattle.sprite_ids.specs.declared.CallKind.{CallKind}
use Rattle.sprite_ids.specs.declared.CallKind.TheVariants.{Recall, Stop}
use Rattle.file_views.specs.declared.grant.FileGrant.{FileGrant}
use Rattle.file_views.specs.declared.body.FileBody.TheVariants as form
use Rattle.file_views.specs.declared.call.FileCall.{FileCall}
use Rattle.file_views.specs.declared.view.View.{View}
use Rattle.file_views.specs.Views.{is_callback}
use Rattle.file_views.specs.Here.{In, Pairs, IsClient, Here, at_kernel, Arrives, request_stamp}

-- no stamp at the client, given last, or on its way to it is over its current one; a request's isn't over its own; one that is
-- answered Again had an older one than the current; a callback has the current one, which is newer than its own exactly until
-- the callback is taken; a recall goes out only while the file isn't uncached, and a stop only while it is, to a client that was
-- given Off
pub record StampFacts (kernel own current : ℕ) (mode : CacheMode) (given : Option FileGrant) (uncached : Bool) (calls : List FileCall) : Type 0 where
  pub own_below : own ≤ current
  pub given_below : (grant : FileGrant) → given ≡ Some grant → grant.stamp ≤ current
  pub granted : (one : FileCall) → In one calls → (grant : FileGrant) → Arrives kernel one grant → grant.stamp ≤ current
  pub again : (one : FileCall) → In one calls → one.from ≡ kernel → (grant : FileGrant) → one.reply ≡ Some (form.Again grant) → grant.stamp ≤ current
  pub request : (one : FileCall) → In one calls → one.from ≡ kernel → (stamp : ℕ) → request_stamp one.body ≡ Some stamp → stamp ≤ own
  pub stale : (one : FileCall) → In one calls → one.from ≡ kernel → (stamp : ℕ) → request_stamp one.body ≡ Some stamp → (grant : FileGrant) → one.reply ≡ Some (form.Again grant) → stamp < current
  pub called : (one : FileCall) → In one calls → one.to ≡ kernel → (stamp : ℕ) (kind : CallKind) → one.body ≡ form.Callback stamp kind → stamp ≡ current
  pub before : (one : FileCall) → In one calls → one.to ≡ kernel → (stamp : ℕ) (kind : CallKind) → one.body ≡ form.Callback stamp kind → one.taken ≡ false → own < stamp
  pub behind : (one : FileCall) → In one calls → one.to ≡ kernel → (stamp : ℕ) (kind : CallKind) → one.body ≡ form.Callback stamp kind → one.taken ≡ true → own ≡ stamp
  pub recalled : (one : FileCall) → In one calls → one.to ≡ kernel → (stamp : ℕ) → one.body ≡ form.Callback stamp Recall → uncached ≡ false
  pub stopped : (one : FileCall) → In one calls → one.to ≡ kernel → (stamp : ℕ) → one.body ≡ form.Callback stamp Stop → (mode ≡ cache.Off) × (uncached ≡ true)

-- the stamps of grants and callbacks on their way to the kernel differ, and an Again's isn't that of a callback on its way; there
-- is one callback to the kernel at most
pub record StampPair (kernel : ℕ) (one other : FileCall) : Type 0 where
  pub grants : (grant more : FileGrant) → Arrives kernel one grant → Arrives kernel other more → grant.stamp ≡ more.stamp → one.number ≡ other.number
  pub callback : (grant : FileGrant) → Arrives kernel one grant → other.to ≡ kernel → (stamp : ℕ) (kind : CallKind) → other.body ≡ form.Callback stamp kind → other.taken ≡ false → grant.stamp ≢ stamp
  pub again : one.from ≡ kernel → (grant : FileGrant) → one.reply ≡ Some (form.Again grant) → other.to ≡ kernel → (stamp : ℕ) (kind : CallKind) → other.body ≡ form.Callback stamp kind → other.taken ≡ false → grant.stamp ≢ stamp
  pub callbacks : one.to ≡ kernel → other.to ≡ kernel → is_callback one.body ≡ true → is_callback other.body ≡ true → one.number ≡ other.number

pub record LocalStamps (here : Here) : Type 0 where
  pub facts : StampFacts here.kernel here.client.stamp here.current here.mode here.given here.uncached here.calls
  pub pairs : Pairs (StampPair here.kernel) here.calls

-- a recall is the only callback that is out
pub record Stamps (v : View) : Type 0 where
  pub alone : (one other : FileCall) → In one v.calls → In other v.calls → (stamp : ℕ) → one.body ≡ form.Callback stamp Recall → is_callback other.body ≡ true → one.number ≡ other.number
  pub each : (kernel : ℕ) → IsClient (length v.clients) kernel → LocalStamps (at_kernel v kernel)
