-- What each kernel of a cluster waits for and keeps, by what the wire's calls ask; and that a step of it leaves that so.
use Rattle.std.proofs.Common.{arith, ◌≡◌, ℕ, zero, suc, ◌+◌, ◌-◌, ◌≤◌, ◌<◌, Bool, true, false, nat_lt, cond, List, [], ◌∷◌, length, slice_get, Option, Some, None, option_map, inl, inr, refl, sym, ap, subst, ◌∙◌, le_trans}
use Rattle.std.proofs.lemmas.Bool.{ltb-true}
use Rattle.std.specs.List.{AllByRecursion}
use Rattle.sprite_ids.specs.declared.FileId.{FileId}
use Rattle.sprite_ids.specs.declared.TxNo.{TxNo}
use Rattle.sprite_ids.proofs.ListLaws.{each_weaken, some_is}
use Rattle.sprite_paths.specs.declared.Path.{Path}
use Rattle.process_machine.specs.Machine as processes
use Rattle.kernel_rpc.specs.Bodies.{body_of}
use Rattle.kernel_rpc.specs.Machine.{Machine}
use Rattle.kernel_steps.specs.declared.Input.{Input}
use Rattle.kernel_steps.specs.declared.Input.TheVariants as inputs
use Rattle.kernel_steps.specs.declared.Out.{Out}
use Rattle.packet_bodies.specs.declared.ReplyBody.{ReplyBody}
use Rattle.packet_bodies.specs.declared.ReplyBody.TheVariants.{Here, Redirect}
use Rattle.packet_bodies.specs.declared.Request.{Request}
use Rattle.packet_bodies.specs.declared.Request.TheVariants as requests
use Rattle.unix_calls.specs.declared.Description.{Description}
use Rattle.unix_calls.specs.declared.KernelLine.{KernelLine}
use Rattle.unix_calls.specs.Domains.{begins_domain, domain_of, roots_of, server_from}
use Rattle.server_kernel.specs.declared.Asked.{Asked}
use Rattle.server_kernel.specs.declared.Server.{Server}
use Rattle.server_kernel.specs.Boot.{serves_in}
use Rattle.server_kernel.specs.Directory.{is_root}
use Rattle.server_kernel.specs.Steps.{server_step}
use Rattle.client_homes.specs.declared.ClientProcs.{ClientProcs}
use Rattle.client_homes.specs.declared.process.Proc.{Proc}
use Rattle.client_homes.specs.Procs.{proc_at, with_proc}
use Rattle.client_procs.specs.Steps.{client_step}
use Rattle.client_walks.specs.Answers.{SendNoneOn, is_redirect}
use Rattle.client_walks.proofs.AnswerLaws.{send_none_on}
use Rattle.cluster_kernels.specs.declared.KernelState.{KernelState}
use Rattle.cluster_kernels.specs.declared.KernelState.TheVariants as kernels
use Rattle.cluster_kernels.specs.Kernels.{image_put, kernel_step}
use Rattle.broadcast_laws.specs.Broadcasts.{AsksNow, Parts}
use Rattle.broadcast_laws.proofs.Asking.{Known, RowsAsk, rows_weaken}
use Rattle.broadcast_laws.proofs.AskLaws.{step_asks}
use Rattle.server_answers.specs.Servers.{asks_for_server}
use Rattle.server_answers.proofs.Answering.{AllKept, FreeFor, MayAnswer, MayTake, roots_same}
use Rattle.server_answers.proofs.ServerLaws.{step_answers}
use Rattle.redirect_laws.specs.Links.{AnswersLead, LinksIn}
use Rattle.redirect_laws.proofs.ServerLinks.{servers_lead}
use Rattle.wire_bodies.specs.Bodies.{KeepsBodies, body_at}
use Rattle.reached_domains.specs.Domains.{asked_request, prefix_by, prefix_of, serves}
use Rattle.reached_domains.proofs.CallLaws.{AsksAt, IsTold, MayBeTold, SendsOn, asks_on}

-- ---- what is so of a kernel

-- the call of a request that is kept was begun, and where it isn't finished, that is what it asks; it isn't for the server of a prefix
pub record KeptAt (machine : Machine) (request : Asked) : Type 0 where
  pub begun : request.tx.0 ≤ machine.begun
  pub asks : (bytes : List ℕ) → body_at machine request.tx ≡ Some bytes → asked_request bytes ≡ Some request.body
  pub other : asks_for_server request.body ≡ false

-- a client serves no domain, and its operations wait in broadcasts that ask so
pub record FitsClient (c : Description) (machine : Machine) (kernel : ℕ) (s : ClientProcs) : Type 0 where
  pub line : KernelLine
  pub there : slice_get c.kernels (kernel - 1) ≡ Some line
  pub none : line.serves ≡ []
  pub asks : RowsAsk (AsksAt c machine) s.files.pending

-- a server serves its own domains, in which others hang at roots of domains alone, and keeps no request for the server of a prefix
pub record FitsServer (c : Description) (machine : Machine) (kernel : ℕ) (s : Server) : Type 0 where
  pub roots : (path : Parts) → is_root path s ≡ true → serves c kernel path ≡ true
  pub links : LinksIn (begins_domain (roots_of c.kernels)) s.domains
  pub asking : AllKept (KeptAt machine) s.asking
  pub waiting : AllKept (KeptAt machine) s.waiting

abbrev pub Fits : Description → Machine → ℕ → KernelState → Type 0
Fits c machine kernel (kernels.Client client) = FitsClient c machine kernel client
Fits c machine kernel (kernels.Server server) = FitsServer c machine kernel server

kept_on : (old new : Machine) (rows : List (FileId × Asked)) → KeepsBodies old new → AllKept (KeptAt old) rows → AllKept (KeptAt new) rows
kept_on old new rows keeps h =
    each_weaken (λ (row : FileId × Asked). KeptAt old row.1) (λ (row : FileId × Asked). KeptAt new row.1) rows
    (λ row k. record { begun = le_trans k.begun keeps.more; asks = λ bytes e. k.asks bytes (keeps.same row.1.tx bytes k.begun e); other = k.other }) h

-- it stays so on the way of the wire
pub fits_on : (c : Description) (old new : Machine) (kernel : ℕ) (state : KernelState) → KeepsBodies old new → Fits c old kernel state → Fits c new kernel state
fits_on c old new kernel (kernels.Client client) keeps h = record {
  line = h.line;
  there = h.there;
  none = h.none;
  asks = rows_weaken (AsksAt c old) (AsksAt c new) (λ tx prefix k. asks_on c old new tx prefix keeps k) client.files.pending h.asks;
}
fits_on c old new kernel (kernels.Server server) keeps h = record { roots = h.roots; links = h.links; asking = kept_on old new server.asking keeps h.asking; waiting = kept_on old new server.waiting keeps h.waiting }

-- ---- a process's instructions

image_same : (o : Option Proc) (s : ClientProcs) (pid : ℕ) (f : Proc → Proc) → (with_proc pid (option_map f o) s).files.pending ≡ s.files.pending
image_same None s pid f = refl
image_same (Some proc) s pid f = refl

pub fits_image : (c : Description) (machine : Machine) (kernel pid : ℕ) (image : processes.Machine) (state : KernelState) → Fits c machine kernel state → Fits c machine kernel (image_put pid image state)
fits_image c machine kernel pid image (kernels.Client client) h = record {
  line = h.line;
  there = h.there;
  none = h.none;
  asks = subst (RowsAsk (AsksAt c machine)) (sym (image_same (proc_at pid client) client pid (λ proc. record proc { image = image }))) h.asks;
}
fits_image c machine kernel pid image (kernels.Server server) h = h

-- ---- a kernel that serves no domain isn't the server of any path

server_least : (lines : List KernelLine) (number domain : ℕ) → number ≤ server_from number lines domain
server_least [] number domain = omega arith
server_least (line ∷ lines) number domain = by (nat_lt domain (length line.serves)) (server_least lines (number + 1) (domain - length line.serves))
  where
    by : (b : Bool) → number + 1 ≤ server_from (number + 1) lines (domain - length line.serves) → number ≤ cond b number (server_from (number + 1) lines (domain - length line.serves))
    by true later = omega arith
    by false later = omega (arith, later)

pub serves_none : (lines : List KernelLine) (number domain at : ℕ) (line : KernelLine) → server_from number lines domain ≡ number + at → slice_get lines at ≡ Some line → line.serves ≡ [] → ⊥
serves_none [] number domain at line e there none = absurd (cc)
serves_none (first ∷ lines) number domain at line e there none = by (nat_lt domain (length first.serves)) refl at e there (λ at' e' there'. serves_none lines (number + 1) (domain - length first.serves) at' line e' there' none)
  where
    least : number + 1 ≤ server_from (number + 1) lines (domain - length first.serves)
    least = server_least lines (number + 1) (domain - length first.serves)

    own : nat_lt domain (length first.serves) ≡ true → first.serves ≡ [] → ⊥
    own is empty = (let inside : domain < length first.serves = ltb-true domain (length first.serves) is in let no_length : length first.serves ≡ 0 = ap (λ (paths : List Path). length paths) empty in absurd (omega (arith, inside, no_length)))

    by : (b : Bool) → nat_lt domain (length first.serves) ≡ b → (at : ℕ) → cond b number (server_from (number + 1) lines (domain - length first.serves)) ≡ number + at → slice_get (first ∷ lines) at ≡ Some line
        → ((at : ℕ) → server_from (number + 1) lines (domain - length first.serves) ≡ number + 1 + at → slice_get lines at ≡ Some line → ⊥) → ⊥
    by true is zero e there later = own is (ap (λ (l : KernelLine). l.serves) (some_is first line there) ∙ none)
    by true is (suc at) e there later = absurd (omega (arith, e))
    by false is zero e there later = absurd (omega (arith, e, least))
    by false is (suc at) e there later = later at (omega (arith, e)) there

-- ---- what comes to a kernel

-- a request that comes is that of a call that was begun
abbrev pub ComesAs : Machine → Input → Type 0
ComesAs machine (inputs.Request tx source body) = (tx.0 ≤ machine.begun) × ((bytes : List ℕ) → body_at machine tx ≡ Some bytes → asked_request bytes ≡ Some body)
ComesAs machine input = Unit {0}

module _ (c : Description) (machine : Machine) (kernel : ℕ) where
  -- an answer of a server to a call
  abbrev Tells : TxNo → ReplyBody → Type 0
  Tells tx reply = (tx.0 ≤ machine.begun) × ((bytes : List ℕ) (request : Request) → body_at machine tx ≡ Some bytes → asked_request bytes ≡ Some request → IsTold c kernel request reply)

  none_asked : (body : Request) (prefix : Parts) → asks_for_server body ≡ false → prefix_of body ≡ Some prefix → ⊥
  none_asked (requests.Prefix path) prefix other e = absurd (cc)
  none_asked body prefix other e = absurd (cc)

  kept_free : (request : Asked) → KeptAt machine request → FreeFor Tells request.tx request.body
  kept_free request kept reply fit = (
    kept.begun,
    λ bytes asked e f. subst (λ (body : Request). IsTold c kernel body reply) (some_is request.body asked (sym (kept.asks bytes e) ∙ f)) (record {
      fit = λ path serving. fit;
      served = λ prefix g. absurd (none_asked request.body prefix kept.other g);
    }),
  )

  may_answer : (body : Request) (s : Server) (tx : TxNo) (source : ℕ) → FitsServer c machine kernel s → ComesAs machine (inputs.Request tx source body) → MayAnswer Tells (KeptAt machine) s.domains tx source body
  may_answer (requests.Prefix path) s tx source h came = λ root. (
    came.0,
    λ bytes asked e f. subst (λ (body : Request). IsTold c kernel body (Here path)) (some_is (requests.Prefix path) asked (sym (came.1 bytes e) ∙ f)) (record {
      fit = λ at serving. refl;
      served = λ prefix g. let same : path ≡ prefix = some_is path prefix g in (subst (λ (p : Parts). serves c kernel p ≡ true) same (h.roots path root), ap Here same);
    }),
  )
  may_answer body s tx source h came = record { begun = came.0; asks = came.1; other = refl }

  may_take : (input : Input) (s : Server) → FitsServer c machine kernel s → ComesAs machine input → MayTake Tells (KeptAt machine) s.domains input
  may_take (inputs.Request tx source body) s h came = may_answer body s tx source h came
  may_take input s h came = tt

  told_so : (answer : TxNo × ReplyBody) → SendsOn c answer.1 → Tells answer.0 answer.1 → MayBeTold c kernel machine answer
  told_so answer led tells = (led, λ on call request keeps e fine owner f. tells.1 call.body request (keeps.same answer.0 call.body tells.0 (ap body_of e)) f)

  all_told : (answers : List (TxNo × ReplyBody)) → AnswersLead (begins_domain (roots_of c.kernels)) answers → AllByRecursion (λ (answer : TxNo × ReplyBody). Tells answer.0 answer.1) answers → AllByRecursion (MayBeTold c kernel machine) answers
  all_told [] led tells = tt
  all_told (answer ∷ answers) led tells = (told_so answer led.0 tells.0, all_told answers led.1 tells.1)

  -- a client serves nothing, and answers no request for the server of a prefix
  none_served : (paths : List Path) (path : Parts) → paths ≡ [] → begins_domain paths path ≡ true → ⊥
  none_served [] path empty e = absurd (cc)
  none_served (first ∷ paths) path empty e = absurd (cc)

  client_serves_none : (s : ClientProcs) (path : Parts) → FitsClient c machine kernel s → serves c kernel path ≡ true → ⊥
  client_serves_none s path h e = none_served h.line.serves path h.none (subst (λ (o : Option KernelLine). begins_domain (serves_in o) path ≡ true) h.there e)

  none_sent_on : (body : ReplyBody) → is_redirect body ≡ false → SendsOn c body
  none_sent_on (Redirect path) here = absurd (cc)
  none_sent_on body here = tt

  client_told : (s : ClientProcs) (answer : TxNo × ReplyBody) → 1 ≤ kernel → FitsClient c machine kernel s → is_redirect answer.1 ≡ false → MayBeTold c kernel machine answer
  client_told s answer low h here =
      let up : kernel ≡ 1 + (kernel - 1) = omega (arith, low) in (
        none_sent_on answer.1 here,
        λ on call request keeps e fine owner f. record {
          fit = λ path serving. absurd (client_serves_none s path h serving);
          served = λ prefix g. absurd (serves_none c.kernels 1 (domain_of (roots_of c.kernels) prefix) (kernel - 1) h.line (sym (fine.owned prefix (ap prefix_by f ∙ g)) ∙ (owner ∙ up)) h.there h.none);
        },
      )

  clients_told : (s : ClientProcs) (answers : List (TxNo × ReplyBody)) → 1 ≤ kernel → FitsClient c machine kernel s → SendNoneOn answers → AllByRecursion (MayBeTold c kernel machine) answers
  clients_told s [] low h here = tt
  clients_told s (answer ∷ answers) low h here = (client_told s answer low h here.0, clients_told s answers low h here.1)

-- ---- a step of a kernel

-- what is so of a kernel behind a step: its operations wait in broadcasts that asked so before, or that the step begins
abbrev pub FitsBehind : Description → Machine → ℕ → Out → KernelState → Type 0
FitsBehind c machine kernel out (kernels.Client client) =
    (line : KernelLine) × (slice_get c.kernels (kernel - 1) ≡ Some line) × (line.serves ≡ []) × RowsAsk (Known (AsksAt c machine) (machine.begun + 1) out.sends) client.files.pending
FitsBehind c machine kernel out (kernels.Server server) = FitsServer c machine kernel server

-- all that a step leaves and says
pub record StepsSo (c : Description) (machine : Machine) (kernel : ℕ) (made : KernelState × Out) : Type 0 where
  pub fits : FitsBehind c machine kernel made.1 made.0
  pub answers : AllByRecursion (MayBeTold c kernel machine) made.1.answers

pub kernel_steps : (c : Description) (machine : Machine) (kernel : ℕ) (state : KernelState) (input : Input) (next : TxNo) (step : ℕ) → 1 ≤ kernel → next.0 ≡ machine.begun + 1 → ComesAs machine input → Fits c machine kernel state → StepsSo c machine kernel (kernel_step state input next step)
kernel_steps c machine kernel (kernels.Client client) input next step low numbered came h =
    let asked = step_asks (AsksAt c machine) client input next step h.asks in
    let after : ClientProcs = (client_step client input next step).0 in
    let out : Out = (client_step client input next step).1 in
    record {
      fits = (h.line, h.there, h.none, subst (λ (n : ℕ). RowsAsk (Known (AsksAt c machine) n out.sends) after.files.pending) numbered asked.asks);
      answers = clients_told c machine kernel client out.answers low h (send_none_on client input next step);
    }
kernel_steps c machine kernel (kernels.Server server) input next step low numbered came h =
    let led = servers_lead (begins_domain (roots_of c.kernels)) server input next h.links in
    let so = step_answers (Tells c machine kernel) (KeptAt machine) (kept_free c machine kernel) server input next h.asking h.waiting (may_take c machine kernel input server h came) in
    let after : Server = (server_step server input next).0 in
    let out : Out = (server_step server input next).1 in
    record {
      fits = record {
        roots = λ path e. h.roots path (sym (roots_same after.domains server.domains path so.hang) ∙ e);
        links = led.0;
        asking = so.ask;
        waiting = so.wait;
      };
      answers = all_told c machine kernel out.answers led.1 so.are;
    }

-- and where the requests went out that it began, it is so at the wire that it then is
pub behind_fits : (c : Description) (old new : Machine) (kernel : ℕ) (state : KernelState) (out : Out) → KeepsBodies old new → ((tx : TxNo) (prefix : Parts) → AsksNow (old.begun + 1) out.sends tx prefix → AsksAt c new tx prefix) → FitsBehind c old kernel out state → Fits c new kernel state
behind_fits c old new kernel (kernels.Client client) out keeps asks h = record {
  line = h.0;
  there = h.1;
  none = h.2;
  asks = rows_weaken (Known (AsksAt c old) (old.begun + 1) out.sends) (AsksAt c new) by client.files.pending h.3;
}
  where
    by : (tx : TxNo) (prefix : Parts) → Known (AsksAt c old) (old.begun + 1) out.sends tx prefix → AsksAt c new tx prefix
    by tx prefix (inl before) = asks_on c old new tx prefix keeps before
    by tx prefix (inr now) = asks tx prefix now
behind_fits c old new kernel (kernels.Server server) out keeps asks h = fits_on c old new kernel (kernels.Server server) keeps h
