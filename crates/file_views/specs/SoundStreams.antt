-- The second layer of soundness: streams, and where their grants are.
use Rattle.std.specs.Prelude.{◌≡◌, ◌≢◌, ◌≤◌, ℕ, ◌+◌, ◌==◌, Bool, true, false, ◌&&◌, List, map, Option, Some, None, length}
use Rattle.sprite_ids.specs.Lists.{total}
use Rattle.sprite_ids.specs.declared.StreamNo.{StreamNo}
use Rattle.sprite_ids.specs.declared.Mode.{Mode}
use Rattle.file_views.specs.declared.body.Access.{Access}
use Rattle.file_views.specs.declared.body.Access.TheVariants as access
use Rattle.file_views.specs.declared.body.FileBody.{FileBody}
use Rattle.file_views.specs.declared.body.FileBody.TheVariants as form
use Rattle.file_views.specs.declared.opens.Open.{Open}
use Rattle.file_views.specs.declared.call.FileCall.{FileCall}
use Rattle.file_views.specs.declared.call.Carry.{Carry}
use Rattle.file_views.specs.declared.step.FileStep.{FileStep}
use Rattle.file_views.specs.declared.step.FileStep.TheVariants as act
use Rattle.file_views.specs.declared.view.View.{View}
use Rattle.file_views.specs.Streams.{same_stream, has_stream, copies, counted, writes}
use Rattle.file_views.specs.Views.{client}
use Rattle.file_views.specs.Possible.{is_about, works_on}
use Rattle.file_views.specs.Here.{In, Unique, IsClient, Here, at_kernel}

-- an open that isn't granted yet names a stream that nothing else names
pub record NamedOnce (v : View) (number : ℕ) (stream : StreamNo) : Type 0 where
  pub shared : has_stream stream v.shared ≡ false
  pub opens : (one : Open) → In one v.opens → same_stream stream one.stream ≡ false
  pub calls : (one : FileCall) → In one v.calls → one.number ≢ number → is_about stream one.body ≡ false
  pub carried : (one : Carry) → In one v.carried → same_stream stream one.stream ≡ false
  pub installed : (kernel : ℕ) → IsClient (length v.clients) kernel → has_stream stream (client v kernel).streams ≡ false
  pub waiting : (kernel : ℕ) → IsClient (length v.clients) kernel → (step : FileStep) → In step (client v kernel).waiting → works_on stream step ≡ false

abbrev pub NewStreams : View → Type 0
NewStreams v = (one : FileCall) → In one v.calls → one.reply ≡ None → (pid number : ℕ) (stream : StreamNo) (mode : Mode) (truncate : Bool) → one.body ≡ form.Opening pid number stream mode truncate → NamedOnce v one.number stream

-- which stream is open where
abbrev pub open_key : Open → StreamNo × ℕ
open_key one = (one.stream, one.kernel)

-- each stream stands once for each client that has it open, with at least one grant and in one mode
pub record OpensShaped (count : ℕ) (opens : List Open) : Type 0 where
  pub differ : Unique (map open_key opens)
  pub client : (one : Open) → In one opens → IsClient count one.kernel
  pub counts : (one : Open) → In one opens → 1 ≤ one.count
  pub modes : (one other : Open) → In one opens → In other opens → one.stream ≡ other.stream → one.mode ≡ other.mode

-- so many grants, where the kernel and the stream are those
abbrev pub counted_at : ℕ → Bool → ℕ
counted_at grants true = grants
counted_at grants false = 0

-- the grants of the stream that a call takes off the kernel, or brings to it
abbrev pub on_way_of : StreamNo → ℕ → ℕ → FileBody → Option FileBody → ℕ
on_way_of stream kernel source (form.Close other grants) None = counted_at grants ((source == kernel) && same_stream stream other)
on_way_of stream kernel source (form.Close other grants) (Some reply) = 0
on_way_of stream kernel source (form.Move other place kept grants) None = counted_at grants ((source == kernel) && same_stream stream other)
on_way_of stream kernel source (form.Move other place kept grants) (Some reply) = counted_at 1 ((place == kernel) && same_stream stream other)
on_way_of stream kernel source (form.Opening pid number other mode truncate) None = 0
on_way_of stream kernel source (form.Opening pid number other mode truncate) (Some reply) = counted_at 1 ((source == kernel) && same_stream stream other)
on_way_of stream kernel source body reply = 0

abbrev pub on_way : StreamNo → ℕ → FileCall → ℕ
on_way stream kernel one = on_way_of stream kernel one.from one.body one.reply

-- the grants that the server counts for a kernel are installed there, or on their way to or from it
abbrev pub GrantCounts : ℕ → List StreamNo → List Open → List FileCall → Type 0
GrantCounts kernel streams opened calls = (stream : StreamNo) → total (counted stream kernel) opened ≡ copies stream streams + total (on_way stream kernel) calls

-- whether an operation, and whether a reading, writing or append, writes
abbrev pub writes_data : Access → Bool
writes_data (access.Read from many) = false
writes_data (access.Write from bytes) = true
writes_data (access.Append bytes) = true

abbrev pub is_writing : FileStep → Bool
is_writing (act.Writing pid number kernel stream from bytes) = true
is_writing (act.Append pid number kernel stream bytes) = true
is_writing step = false

-- what is done with a stream at a kernel: the stream of an operation, and of what waits, is installed there, and open for writing
-- where that writes; a move that leaves references takes no grants and its stream is installed; a close, and another move, takes
-- at least one
pub record Working (kernel : ℕ) (streams : List StreamNo) (waiting : List FileStep) (opened : List Open) (calls : List FileCall) : Type 0 where
  pub operates : (one : FileCall) → In one calls → one.from ≡ kernel → (pid number stamp : ℕ) (stream : StreamNo) (way : Access) → one.body ≡ form.Op pid number stamp stream way → has_stream stream streams ≡ true
  pub writes_open : (one : FileCall) → In one calls → one.from ≡ kernel → (pid number stamp : ℕ) (stream : StreamNo) (way : Access) → one.body ≡ form.Op pid number stamp stream way → writes_data way ≡ true → (other : Open) → In other opened → other.stream ≡ stream → writes other.mode ≡ true
  pub keeps_none : (one : FileCall) → In one calls → one.from ≡ kernel → one.reply ≡ None → (stream : StreamNo) (place grants : ℕ) → one.body ≡ form.Move stream place true grants → grants ≡ 0
  pub keeps_stream : (one : FileCall) → In one calls → one.from ≡ kernel → one.reply ≡ None → (stream : StreamNo) (place grants : ℕ) → one.body ≡ form.Move stream place true grants → has_stream stream streams ≡ true
  pub moves_some : (one : FileCall) → In one calls → one.from ≡ kernel → one.reply ≡ None → (stream : StreamNo) (place grants : ℕ) → one.body ≡ form.Move stream place false grants → 1 ≤ grants
  pub closes_some : (one : FileCall) → In one calls → one.from ≡ kernel → one.reply ≡ None → (stream : StreamNo) (grants : ℕ) → one.body ≡ form.Close stream grants → 1 ≤ grants
  pub waits_open : (step : FileStep) → In step waiting → (stream : StreamNo) → works_on stream step ≡ true → has_stream stream streams ≡ true
  pub waits_writing : (step : FileStep) → In step waiting → is_writing step ≡ true → (other : Open) → In other opened → works_on other.stream step ≡ true → writes other.mode ≡ true

pub record LocalStreams (here : Here) : Type 0 where
  pub counts : GrantCounts here.kernel here.client.streams here.opened here.calls
  pub working : Working here.kernel here.client.streams here.client.waiting here.opened here.calls

pub record Streams (v : View) : Type 0 where
  pub new : NewStreams v
  pub opens : OpensShaped (length v.clients) v.opens
  pub each : (kernel : ℕ) → IsClient (length v.clients) kernel → LocalStreams (at_kernel v kernel)
