-- Which requests a server answers, and which it keeps; and which domains it serves.
use Rattle.std.specs.Prelude.{◌≡◌, ℕ, Bool, true, false, [], ◌++◌, Some, slice_get}
use Rattle.sprite_ids.specs.declared.FileId.{FileId}
use Rattle.sprite_ids.specs.declared.TxNo.{TxNo}
use Rattle.packet_bodies.specs.declared.ReplyBody.{ReplyBody}
use Rattle.packet_bodies.specs.declared.ReplyBody.TheVariants.{Here}
use Rattle.packet_bodies.specs.declared.Request.{Request}
use Rattle.packet_bodies.specs.declared.Request.TheVariants as requests
use Rattle.kernel_steps.specs.declared.Input.{Input}
use Rattle.kernel_steps.specs.declared.Input.TheVariants as inputs
use Rattle.unix_calls.specs.declared.Description.{Description}
use Rattle.unix_calls.specs.Domains.{begins_domain}
use Rattle.server_kernel.specs.declared.Asked.{Asked}
use Rattle.server_kernel.specs.declared.Server.{Server}
use Rattle.server_kernel.specs.Boot.{boots, serves_of}
use Rattle.server_kernel.specs.Directory.{Parts, is_root}
use Rattle.server_kernel.specs.Steps.{server_step}
use Rattle.server_walks.specs.Sorts.{fits}

-- whether a request asks for the server of a prefix
abbrev pub asks_for_server : Request → Bool
asks_for_server (requests.Prefix path) = true
asks_for_server body = false

-- the server keeps the request: it asks for callbacks first, or waits for its file
pub record IsKept (s : Server) (request : Asked) : Type 0 where
  pub at : ℕ
  pub file : FileId
  pub there : slice_get (s.asking ++ s.waiting) at ≡ Some (file, request)

-- where a request is kept from: it was kept before, or came, and doesn't ask for the server of a prefix
pub data KeptFrom (s : Server) (input : Input) (request : Asked) : Type 0 where
  Before : IsKept s request → KeptFrom s input request
  Came : input ≡ inputs.Request request.tx request.from request.body → asks_for_server request.body ≡ false → KeptFrom s input request

-- what an answer is to: a request that was kept or came, and may have it; or one that came and asks for the server of a prefix that is the
-- root of a domain of this server, which it is told
pub data AnswersTo (s : Server) (input : Input) (tx : TxNo) (reply : ReplyBody) : Type 0 where
  ToARequest : (request : Asked) → KeptFrom s input request → request.tx ≡ tx → fits request.body reply ≡ true → AnswersTo s input tx reply
  ForADomain : (source : ℕ) (path : Parts) → input ≡ inputs.Request tx source (requests.Prefix path) → is_root path s ≡ true → reply ≡ Here path → AnswersTo s input tx reply

-- each answer of a step of a server is to such a request, and of a sort that it may have
abbrev pub ServersAnswerSo : Type 0
ServersAnswerSo = (s : Server) (input : Input) (next : TxNo) (at : ℕ) (tx : TxNo) (reply : ReplyBody) → slice_get (server_step s input next).1.answers at ≡ Some (tx, reply) → AnswersTo s input tx reply

-- a request is kept as it came, and none for the server of a prefix is
abbrev pub ServersKeepSo : Type 0
ServersKeepSo = (s : Server) (input : Input) (next : TxNo) (request : Asked) → IsKept (server_step s input next).0 request → KeptFrom s input request

-- the domains of a server stay where they hang, whatever comes
abbrev pub RootsStay : Type 0
RootsStay = (s : Server) (input : Input) (next : TxNo) (path : Parts) → is_root path (server_step s input next).0 ≡ is_root path s

-- and when the cluster begins they are those that the description gives to its kernel
abbrev pub RootsAreServed : Type 0
RootsAreServed = (c : Description) (kernel : ℕ) (s : Server) (path : Parts) → boots c kernel ≡ Some s → is_root path s ≡ true → begins_domain (serves_of c.kernels kernel) path ≡ true

-- and it begins with no request that it keeps
abbrev pub ServersBeginWithNone : Type 0
ServersBeginWithNone = (c : Description) (kernel : ℕ) (s : Server) → boots c kernel ≡ Some s → (s.asking ≡ []) × (s.waiting ≡ [])
