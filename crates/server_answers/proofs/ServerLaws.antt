-- What a step of a server answers and keeps.
use Rattle.std.proofs.Common.{◌≡◌, ℕ, suc, List, [], ◌∷◌, ◌++◌, slice_get, Some, refl}
use Rattle.std.specs.List.{AllByRecursion}
use Rattle.sprite_ids.specs.declared.FileId.{FileId}
use Rattle.sprite_ids.specs.declared.TxNo.{TxNo}
use Rattle.sprite_ids.proofs.ListLaws.{each_append, each_get, each_of_append}
use Rattle.packet_bodies.specs.declared.ReplyBody.{ReplyBody}
use Rattle.packet_bodies.specs.declared.Request.{Request}
use Rattle.packet_bodies.specs.declared.Request.TheVariants as requests
use Rattle.kernel_steps.specs.declared.Input.{Input}
use Rattle.kernel_steps.specs.declared.Input.TheVariants as inputs
use Rattle.server_kernel.specs.declared.Asked.{Asked}
use Rattle.server_kernel.specs.declared.Server.{Server}
use Rattle.server_kernel.specs.Steps.{begins, server_step}
use Rattle.server_walks.proofs.Bearing.{server_takes}
use Rattle.server_walks.proofs.StepWalk.{Comes}
use Rattle.server_answers.specs.Servers.{AnswersTo, Before, Came, ForADomain, KeptFrom, RootsStay, ServersAnswerSo, ServersKeepSo, ToARequest}
use Rattle.server_answers.proofs.Answering.{AllKept, AnswerSo, FreeFor, MayAnswer, MayTake, ServedSo, answering, roots_same}
use Rattle.server_answers.proofs.RootLaws.{roots_in}

-- what is so at each place is so of each
each_there : {X : Type 0} (F : X → Type 0) (xs : List X) → ((at : ℕ) (x : X) → slice_get xs at ≡ Some x → F x) → AllByRecursion F xs
each_there F [] there = tt
each_there F (x ∷ xs) there = (there 0 x refl, each_there F xs (λ at y e. there (suc at) y e))

-- behind a step that begins with requests that are so, and is given one that may be kept or answered
pub step_answers : (A : TxNo → ReplyBody → Type 0) (K : Asked → Type 0) → ((request : Asked) → K request → FreeFor A request.tx request.body) → (s : Server) (input : Input) (next : TxNo) → AllKept K s.asking → AllKept K s.waiting → MayTake A K s.domains input
    → AnswerSo A K (roots_in s) (server_step s input next).0.domains (server_step s input next).0.asking (server_step s input next).0.waiting (server_step s input next).1.answers
step_answers A K frees s input next ask wait may =
    server_takes (ServedSo A K s.domains) (λ v. AnswerSo A K (roots_in s) v.domains v.asking v.waiting v.answers) (answering A K frees s.domains) input (begins next s) (comes input may) (record { hang = refl; ask = ask; wait = wait; are = tt })
  where
    comes : (input : Input) → MayTake A K s.domains input → Comes (ServedSo A K s.domains) input
    comes (inputs.Request tx source body) may = may
    comes input may = tt

-- ---- in the words of the laws

kept_all : (s : Server) (input : Input) → AllKept (KeptFrom s input) (s.asking ++ s.waiting)
kept_all s input = each_there (λ (row : FileId × Asked). KeptFrom s input row.1) (s.asking ++ s.waiting) (λ at row e. Before (record { at = at; file = row.0; there = e }))

frees : (s : Server) (input : Input) (request : Asked) → KeptFrom s input request → FreeFor (AnswersTo s input) request.tx request.body
frees s input request kept reply fit = ToARequest request kept refl fit

may_answer : (body : Request) (s : Server) (tx : TxNo) (source : ℕ) → MayAnswer (AnswersTo s (inputs.Request tx source body)) (KeptFrom s (inputs.Request tx source body)) s.domains tx source body
may_answer (requests.Prefix path) s tx source = λ root. ForADomain source path refl root refl
may_answer body s tx source = Came refl refl

may_take : (input : Input) (s : Server) → MayTake (AnswersTo s input) (KeptFrom s input) s.domains input
may_take (inputs.Request tx source body) s = may_answer body s tx source
may_take input s = tt

so : (s : Server) (input : Input) (next : TxNo)
    → AnswerSo (AnswersTo s input) (KeptFrom s input) (roots_in s) (server_step s input next).0.domains (server_step s input next).0.asking (server_step s input next).0.waiting (server_step s input next).1.answers
so s input next =
    let kept = each_of_append (λ (row : FileId × Asked). KeptFrom s input row.1) s.asking s.waiting (kept_all s input) in
    step_answers (AnswersTo s input) (KeptFrom s input) (frees s input) s input next kept.0 kept.1 (may_take input s)

pub servers_answer : ServersAnswerSo
servers_answer s input next at tx reply e = each_get (λ (answer : TxNo × ReplyBody). AnswersTo s input answer.0 answer.1) (server_step s input next).1.answers at (tx, reply) (so s input next).are e

pub servers_keep : ServersKeepSo
servers_keep s input next request kept =
    let after : Server = (server_step s input next).0 in
    let all = each_append (λ (row : FileId × Asked). KeptFrom s input row.1) after.asking after.waiting (so s input next).ask (so s input next).wait in
    each_get (λ (row : FileId × Asked). KeptFrom s input row.1) (after.asking ++ after.waiting) kept.at (kept.file, request) all kept.there

pub roots_stay : RootsStay
roots_stay s input next path = roots_same (server_step s input next).0.domains s.domains path (so s input next).hang
