-- The first layer of soundness: what calls and blocks look like, and that their numbers differ.
use Rattle.std.specs.Prelude.{◌≡◌, ◌≢◌, ◌≤◌, ◌<◌, ℕ, Bool, true, false, is_some, List, length, map, Option, Some}
use Rattle.sprite_ids.specs.declared.StreamNo.{StreamNo}
use Rattle.sprite_ids.specs.declared.CacheMode.{CacheMode}
use Rattle.sprite_ids.specs.declared.Mode.{Mode}
use Rattle.file_views.specs.declared.grant.FileGrant.{FileGrant}
use Rattle.file_views.specs.declared.body.FileBody.{FileBody}
use Rattle.file_views.specs.declared.body.FileBody.TheVariants as form
use Rattle.file_views.specs.declared.client.Held.{Held}
use Rattle.file_views.specs.declared.call.FileCall.{FileCall}
use Rattle.file_views.specs.declared.call.Carry.{Carry}
use Rattle.file_views.specs.declared.view.View.{View}
use Rattle.file_views.specs.Streams.{writes}
use Rattle.file_views.specs.Views.{server, things, is_callback}
use Rattle.file_views.specs.declared.step.FileStep.{FileStep}
use Rattle.file_views.specs.Moves.{is_data}
use Rattle.file_views.specs.Here.{In, Unique, IsClient, Here, at_kernel}

-- there are one to fifteen clients, and the server keeps one item of each kind for each of them
pub record Items (count : ℕ) (stamps : List ℕ) (modes : List CacheMode) (given : List (Option FileGrant)) : Type 0 where
  pub some : 1 ≤ count
  pub fifteen : count ≤ 15
  pub stamp_each : length stamps ≡ count
  pub mode_each : length modes ≡ count
  pub given_each : length given ≡ count

-- a callback goes from the server to a client, every other request from a client to the server; a move's target is another
-- client
abbrev pub Ends : ℕ → ℕ → ℕ → FileBody → Type 0
Ends count source to (form.Callback stamp kind) = (source ≡ server) × IsClient count to
Ends count source to (form.Move stream place kept grants) = IsClient count source × (to ≡ server) × IsClient count place × (place ≢ source)
Ends count source to (form.Opening pid number stream mode truncate) = IsClient count source × (to ≡ server)
Ends count source to (form.Close stream grants) = IsClient count source × (to ≡ server)
Ends count source to (form.Op pid number stamp stream way) = IsClient count source × (to ≡ server)
Ends count source to (form.Fetch stamp block) = IsClient count source × (to ≡ server)
Ends count source to (form.WriteBack stamp block size piece) = IsClient count source × (to ≡ server)
Ends count source to body = ⊥

-- a reply is of its request's kind: a block has its fetch's stamp, and a move's grant is there
abbrev pub Answers : FileBody → FileBody → Type 0
Answers (form.Opening pid number stream mode truncate) (form.Opened grant) = Unit {0}
Answers (form.Close stream grants) form.Done = Unit {0}
Answers (form.Op pid number stamp stream way) (form.Value first second piece) = Unit {0}
Answers (form.Op pid number stamp stream way) (form.Again grant) = Unit {0}
Answers (form.Op pid number stamp stream way) (form.Refused cause) = Unit {0}
Answers (form.Fetch stamp block) (form.Block other piece) = other ≡ stamp
Answers (form.Fetch stamp block) (form.Again grant) = Unit {0}
Answers (form.WriteBack stamp block size piece) form.Done = Unit {0}
Answers (form.WriteBack stamp block size piece) (form.Again grant) = Unit {0}
Answers (form.Callback stamp kind) (form.Flushed size blocks) = Unit {0}
Answers (form.Move stream place kept grants) (form.Moved grant more) = is_some grant ≡ true
Answers body reply = ⊥

-- whether a request is a write-back
abbrev pub writes_back : FileBody → Bool
writes_back (form.WriteBack stamp block size piece) = true
writes_back body = false

-- a call's shape: its ends and its reply fit; what has a reply is taken; a taken callback has its reply; a dirty number is there
-- exactly for a write-back; an open that truncates writes
pub record Shaped (count : ℕ) (one : FileCall) : Type 0 where
  pub ends : Ends count one.from one.to one.body
  pub fits : (reply : FileBody) → one.reply ≡ Some reply → Answers one.body reply
  pub taken_first : (reply : FileBody) → one.reply ≡ Some reply → one.taken ≡ true
  pub answered : is_callback one.body ≡ true → one.taken ≡ true → is_some one.reply ≡ true
  pub numbered : is_some one.dirty ≡ writes_back one.body
  pub writing : (pid number : ℕ) (stream : StreamNo) (mode : Mode) → one.body ≡ form.Opening pid number stream mode true → writes mode ≡ true

-- a carried stream goes to a client, with a grant
pub record CarryShaped (count : ℕ) (one : Carry) : Type 0 where
  pub client : IsClient count one.to
  pub granted : is_some one.grant ≡ true

-- the numbers of calls and carried streams
abbrev pub numbers : List FileCall → List ℕ
numbers calls = map (λ one. one.number) calls

-- they differ, and are under the next one
pub record CallNumbers (next : ℕ) (calls : List FileCall) : Type 0 where
  pub differ : Unique (numbers calls)
  pub under : (one : FileCall) → In one calls → one.number < next

-- the block numbers of a client differ; its dirty numbers, also those of its write-backs, are at most its count
pub record Numbered (kernel count : ℕ) (blocks : List Held) (calls : List FileCall) : Type 0 where
  pub differ : Unique (map (λ one. one.block.0) blocks)
  pub held : (one : Held) → In one blocks → (number : ℕ) → one.dirty ≡ Some number → number ≤ count
  pub sent : (one : FileCall) → In one calls → one.from ≡ kernel → (number : ℕ) → one.dirty ≡ Some number → number ≤ count

-- what waits at a client are readings, writings and appends
pub record LocalShapes (here : Here) : Type 0 where
  pub numbered : Numbered here.kernel here.client.count here.client.blocks here.calls
  pub waits : (step : FileStep) → In step here.client.waiting → is_data step ≡ true

pub record Shapes (v : View) : Type 0 where
  pub items : Items (length v.clients) v.stamps v.modes v.given
  pub calls : (one : FileCall) → In one v.calls → Shaped (length v.clients) one
  pub carried : (one : Carry) → In one v.carried → CarryShaped (length v.clients) one
  pub numbers : CallNumbers v.next (things v)
  pub each : (kernel : ℕ) → IsClient (length v.clients) kernel → LocalShapes (at_kernel v kernel)
