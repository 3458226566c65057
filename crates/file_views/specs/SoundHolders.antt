-- The sixth layer of soundness: who may write, and at which version.
use Rattle.std.specs.Prelude.{◌≡◌, ◌≢◌, ◌≤◌, ◌<◌, ◌⊎◌, ℕ, Bool, true, false, is_some, List, length, Some}
use Rattle.sprite_ids.specs.declared.StreamNo.{StreamNo}
use Rattle.sprite_ids.specs.declared.CacheMode.{CacheMode}
use Rattle.sprite_ids.specs.declared.CallKind.TheVariants.{Recall}
use Rattle.file_views.specs.declared.grant.FileGrant.{FileGrant}
use Rattle.file_views.specs.declared.body.FileBody.TheVariants as form
use Rattle.file_views.specs.declared.opens.Open.{Open}
use Rattle.file_views.specs.declared.client.Held.{Held}
use Rattle.file_views.specs.declared.call.FileCall.{FileCall}
use Rattle.file_views.specs.declared.view.View.{View}
use Rattle.file_views.specs.Streams.{has_stream, writes, is_write_shared}
use Rattle.file_views.specs.Clients.{is_on}
use Rattle.file_views.specs.Views.{client}
use Rattle.file_views.specs.Here.{In, IsClient, Here, at_kernel, Arrives, Newer, EachNewer, asked_stream, Stopped, Recalled, Answered}

-- the kernel uses its cache, or will by a newer grant that is on its way
pub record OnComes (kernel own : ℕ) (calls : List FileCall) : Type 0 where
  pub call : FileCall
  pub grant : FileGrant
  pub is_newer : Newer kernel own calls call grant
  pub on : grant.on ≡ true

abbrev pub Active : ℕ → ℕ → CacheMode → List FileCall → Type 0
Active kernel own now calls = (is_on now ≡ true) ⊎ OnComes kernel own calls

-- the kernel has a stream that is installed, or will have one by a grant that isn't newer
pub record StreamComes (kernel own : ℕ) (calls : List FileCall) : Type 0 where
  pub call : FileCall
  pub grant : FileGrant
  pub there : In call calls
  pub arrives : Arrives kernel call grant
  pub old : grant.stamp ≤ own

pub record Installed (streams : List StreamNo) : Type 0 where
  pub stream : StreamNo
  pub there : has_stream stream streams ≡ true

abbrev pub Engaged : ℕ → ℕ → List StreamNo → List FileCall → Type 0
Engaged kernel own streams calls = Installed streams ⊎ StreamComes kernel own calls

-- that stream is the one that comes by a grant that isn't newer
pub record ThatComes (kernel own : ℕ) (calls : List FileCall) (stream : StreamNo) : Type 0 where
  pub comes : StreamComes kernel own calls
  pub that : asked_stream comes.call.body ≡ Some stream

-- the kernel has a stream to write with
pub record EngagedToWrite (kernel own : ℕ) (streams : List StreamNo) (opened : List Open) (calls : List FileCall) : Type 0 where
  pub one : Open
  pub there : In one opened
  pub writing : writes one.mode ≡ true
  pub works : (has_stream one.stream streams ≡ true) ⊎ ThatComes kernel own calls one.stream

-- a grant that changes nothing for the holder
pub record Keeps (version : ℕ) (grant : FileGrant) : Type 0 where
  pub on : grant.on ≡ true
  pub holder : grant.holder ≡ true
  pub old : grant.old ≡ version
  pub new : grant.new ≡ version

-- the kernel may write: it is the holder, uses its cache, is at the server's version, and each newer grant on its way keeps that
pub record Ready (kernel own seen version : ℕ) (holds : Bool) (now : CacheMode) (calls : List FileCall) : Type 0 where
  pub holds_it : holds ≡ true
  pub on : is_on now ≡ true
  pub at_version : seen ≡ version
  pub newer : EachNewer kernel own calls (λ one grant. Keeps version grant)

-- the stream of a grant on its way is open for reading alone
abbrev pub OpenForReading : List Open → FileCall → Type 0
OpenForReading opened one = (other : Open) → In other opened → asked_stream one.body ≡ Some other.stream → writes other.mode ≡ false

-- the grant that made the kernel the holder is on its way: of the newer grants On those up to one aren't the holder's, that one alone
-- gives the server's version and alone is of a stream open for writing, and those behind it keep everything
pub record Coming (kernel own seen version : ℕ) (opened : List Open) (calls : List FileCall) : Type 0 where
  pub call : FileCall
  pub grant : FileGrant
  pub is_newer : Newer kernel own calls call grant
  pub on : grant.on ≡ true
  pub gives : grant.new ≡ version
  pub plain : grant.holder ≡ false
  pub before : EachNewer kernel own calls (λ one other. other.on ≡ true → other.stamp < grant.stamp → (other.holder ≡ false) × (other.new < version) × OpenForReading opened one)
  pub behind : EachNewer kernel own calls (λ one other. other.on ≡ true → grant.stamp < other.stamp → Keeps version other)
  pub older : seen < version
  pub writer : Open
  pub has_open : In writer opened
  pub writing : writes writer.mode ≡ true
  pub asked : asked_stream call.body ≡ Some writer.stream

-- newer grants On follow each other by version, from at least the client's own to the server's
pub record Chained (kernel own seen version : ℕ) (calls : List FileCall) : Type 0 where
  pub first : EachNewer kernel own calls (λ one grant. grant.on ≡ true → seen ≤ grant.old)
  pub rises : EachNewer kernel own calls (λ one grant. grant.old ≤ grant.new)
  pub under : EachNewer kernel own calls (λ one grant. grant.new ≤ version)
  pub linked : EachNewer kernel own calls (λ one grant. grant.on ≡ true → EachNewer kernel own calls (λ other more. more.on ≡ true → grant.stamp < more.stamp → grant.new ≤ more.old))
  pub joined : EachNewer kernel own calls (λ one grant. grant.on ≡ true → EachNewer kernel own calls (λ other more. more.on ≡ true → grant.stamp < more.stamp → EachNewer kernel own calls (λ third between. between.on ≡ true → grant.stamp < between.stamp → more.stamp ≤ between.stamp) → grant.new ≡ more.old))
  pub last : EachNewer kernel own calls (λ one grant. grant.on ≡ true → EachNewer kernel own calls (λ other more. more.on ≡ true → more.stamp ≤ grant.stamp) → grant.new ≡ version)

-- what is so of each kernel
pub record HolderFacts (kernel own current seen version : ℕ) (now mode : CacheMode) (holds : Bool) (blocks : List Held) (streams : List StreamNo) (opened : List Open) (calls : List FileCall) : Type 0 where
  pub seen_below : seen ≤ version
  pub chained : Chained kernel own seen version calls
  -- who is at the end of the chain and has the file open is at the server's version
  pub at_version : (one : Open) → In one opened → is_on now ≡ true → EachNewer kernel own calls (λ other grant. grant.on ≡ false) → seen ≡ version
  -- who has it open for writing and uses its cache, or will, is the holder
  pub writer_holds : (one : Open) → In one opened → writes one.mode ≡ true → Active kernel own now calls → holds ≡ true
  -- the holder has answered its callback, or was given On last or is being stopped, and then it may write now or after the grant that
  -- made it the holder
  pub holder_state : holds ≡ true → Answered kernel calls ⊎ (((is_on mode ≡ true) ⊎ Stopped kernel calls) × (Ready kernel own seen version holds now calls ⊎ Coming kernel own seen version opened calls))
  -- a newer grant On of a holder goes to the holder
  pub holder_grants : EachNewer kernel own calls (λ one grant. grant.on ≡ true → grant.holder ≡ true → holds ≡ true)
  -- who is being recalled may write; it is the holder and was given On last, also once it answered
  pub recall_ready : Recalled kernel calls → Ready kernel own seen version holds now calls
  pub recall_on : (one : FileCall) → In one calls → one.to ≡ kernel → (stamp : ℕ) → one.body ≡ form.Callback stamp Recall → is_on mode ≡ true
  pub recall_holds : (one : FileCall) → In one calls → one.to ≡ kernel → (stamp : ℕ) → one.body ≡ form.Callback stamp Recall → holds ≡ true
  -- who uses its cache, or will, and has a stream to write with may write
  pub writer_ready : Active kernel own now calls → EngagedToWrite kernel own streams opened calls → Ready kernel own seen version holds now calls
  -- who has a dirty block may write, and has answered no callback
  pub dirty_ready : (one : Held) → In one blocks → is_some one.dirty ≡ true → Ready kernel own seen version holds now calls
  pub dirty_unanswered : (one : Held) → In one blocks → is_some one.dirty ≡ true → Answered kernel calls → ⊥
  -- with equal stamps the modes agree
  pub modes_agree : own ≡ current → now ≡ mode

abbrev pub LocalHolders : Here → Type 0
LocalHolders here = HolderFacts here.kernel here.client.stamp here.current here.client.version here.version here.client.mode here.mode here.holds here.client.blocks here.client.streams here.opened here.calls

-- while there is a holder no other kernel has the file open, and each other one that uses its cache is at an older version; while
-- the file isn't uncached, who has it open for writing has it alone
pub record Holders (v : View) : Type 0 where
  pub is_client : (holder : ℕ) → v.holder ≡ Some holder → IsClient (length v.clients) holder
  pub opens : (holder : ℕ) → v.holder ≡ Some holder → (one : Open) → In one v.opens → one.kernel ≡ holder
  pub stale : (holder : ℕ) → v.holder ≡ Some holder → (kernel : ℕ) → IsClient (length v.clients) kernel → kernel ≢ holder → is_on (client v kernel).mode ≡ true → (client v kernel).version < v.version
  pub exclusive : v.uncached ≡ false → is_write_shared v.opens ≡ false
  pub each : (kernel : ℕ) → IsClient (length v.clients) kernel → LocalHolders (at_kernel v kernel)
