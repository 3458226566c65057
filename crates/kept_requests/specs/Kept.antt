-- Which requests a server answers, be it at once or later, and that it keeps them until then.
use Rattle.std.specs.Prelude.{◌≡◌, ℕ, Bool, true, false, List, Option, Some, is_some, slice_get}
use Rattle.std.specs.List.{AllByRecursion}
use Rattle.sprite_ids.specs.declared.FileId.{FileId}
use Rattle.sprite_ids.specs.declared.TxNo.{TxNo}
use Rattle.packet_bodies.specs.declared.NameOp.{NameOp}
use Rattle.packet_bodies.specs.declared.NameOp.TheVariants as ops
use Rattle.packet_bodies.specs.declared.ReplyBody.{ReplyBody}
use Rattle.packet_bodies.specs.declared.Request.{Request}
use Rattle.packet_bodies.specs.declared.Request.TheVariants as requests
use Rattle.kernel_steps.specs.declared.Input.{Input}
use Rattle.kernel_steps.specs.declared.Input.TheVariants as inputs
use Rattle.kernel_steps.specs.declared.Out.{Out}
use Rattle.kernel_steps.specs.Outs.{started}
use Rattle.unix_calls.specs.declared.Description.{Description}
use Rattle.swap_pages.specs.Swap.{bytes_of}
use Rattle.server_kernel.specs.declared.Asked.{Asked}
use Rattle.server_kernel.specs.declared.Server.{Server}
use Rattle.server_kernel.specs.Boot.{boots}
use Rattle.server_kernel.specs.Directory.{Parts, is_root}
use Rattle.server_kernel.specs.Steps.{server_step}
use Rattle.server_answers.specs.Servers.{IsKept}
use Rattle.server_facts.specs.Steps.{after}

-- whether a server serves a name call: no walk alone, and no rename without a second path
abbrev pub is_served : NameOp → Option Parts → Bool
is_served ops.Walk second = false
is_served ops.Rename second = is_some second
is_served op second = true

-- whether each server has an answer to a request, whatever it has: it goes to servers, and asks neither for the server of a prefix nor for
-- a page
abbrev pub is_always_answered : Request → Bool
is_always_answered requests.Echo = true
is_always_answered (requests.Opening r) = true
is_always_answered (requests.Name r) = is_served r.op r.second
is_always_answered (requests.Make r) = true
is_always_answered (requests.Close r) = true
is_always_answered (requests.Op r) = true
is_always_answered (requests.Fetch r) = true
is_always_answered (requests.WriteBack r) = true
is_always_answered (requests.Move r) = true
is_always_answered (requests.PageOut r) = true
is_always_answered body = false

-- whether a server has an answer to a request, be it at once or when the file isn't busy any more: for the server of a prefix where a
-- domain of its own hangs there, for a page where that is in its swap, and for what goes to clients never
abbrev pub has_answer : Server → Request → Bool
has_answer s (requests.Prefix path) = is_root path s
has_answer s (requests.PageIn pid page) = is_some (bytes_of s.swap pid page)
has_answer s body = is_always_answered body

-- whether a request may be kept: it is about a file, or is a name call that a server serves
abbrev pub may_be_kept : Request → Bool
may_be_kept (requests.Opening r) = true
may_be_kept (requests.Name r) = is_served r.op r.second
may_be_kept (requests.Close r) = true
may_be_kept (requests.Op r) = true
may_be_kept (requests.Fetch r) = true
may_be_kept (requests.WriteBack r) = true
may_be_kept (requests.Move r) = true
may_be_kept body = false

-- whether a request may be kept until callbacks are answered: an open or a move
abbrev pub may_ask : Request → Bool
may_ask (requests.Opening r) = true
may_ask (requests.Move r) = true
may_ask body = false

-- what a server keeps may be kept: opens and moves until callbacks are answered, and such requests until their file isn't busy any more
pub record KeepsSuch (s : Server) : Type 0 where
  pub asking : AllByRecursion (λ (row : FileId × Asked). may_ask row.1.body ≡ true) s.asking
  pub waiting : AllByRecursion (λ (row : FileId × Asked). may_be_kept row.1.body ≡ true) s.waiting

-- a step answers the remote call of that number
pub record Answers (out : Out) (tx : TxNo) : Type 0 where
  pub at : ℕ
  pub reply : ReplyBody
  pub there : slice_get out.answers at ≡ Some (tx, reply)

-- a request is answered in a step, or kept behind it
pub data AnswersOrKeeps (made : Server × Out) (request : Asked) : Type 0 where
  IsAnswered : Answers made.1 request.tx → AnswersOrKeeps made request
  StaysKept : IsKept made.0 request → AnswersOrKeeps made request

-- what a server owes an answer as it takes an input: each request that it keeps, and one that comes, where it has an answer to it
pub data IsOwed (s : Server) (input : Input) (request : Asked) : Type 0 where
  WasKept : IsKept s request → IsOwed s input request
  HasCome : input ≡ inputs.Request request.tx request.from request.body → has_answer s request.body ≡ true → IsOwed s input request

-- a step of a server that keeps such requests alone answers each that it owes an answer, or keeps it
abbrev pub StepAnswersOrKeeps : Type 0
StepAnswersOrKeeps = (s : Server) (input : Input) (next : TxNo) (request : Asked) → KeepsSuch s → IsOwed s input request → AnswersOrKeeps (server_step s input next) request

-- and so does each step of a server from when the cluster begins, whatever came before
abbrev pub ServersAnswerOrKeep : Type 0
ServersAnswerOrKeep =
    (c : Description) (kernel : ℕ) (first : Server) (inputs : List (Input × TxNo)) (input : Input) (next : TxNo) (request : Asked) → boots c kernel ≡ Some first
    → IsOwed (after inputs first) input request → AnswersOrKeeps (server_step (after inputs first) input next) request

-- a step passes over what came: it says nothing, and all that is kept stays as it is
pub record PassesOver (s : Server) (next : TxNo) (made : Server × Out) : Type 0 where
  pub says_nothing : made.1 ≡ started next
  pub asking : made.0.asking ≡ s.asking
  pub waiting : made.0.waiting ≡ s.waiting
  pub callbacks : made.0.callbacks ≡ s.callbacks

-- a server passes over each request to which it has no answer
abbrev pub OthersArePassedOver : Type 0
OthersArePassedOver = (s : Server) (tx : TxNo) (source : ℕ) (body : Request) (next : TxNo) → has_answer s body ≡ false → PassesOver s next (server_step s (inputs.Request tx source body) next)
