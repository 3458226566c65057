-- What a fact of a server's domains, of the requests that it keeps, and of what its step has told, sent and answered so far, must bear.
use Rattle.std.proofs.Common.{◌≡◌, ℕ, true, List, [], ◌∷◌, ◌++◌, Some, refl}
use Rattle.sprite_ids.specs.declared.Callback.{Callback}
use Rattle.sprite_ids.specs.declared.FileId.{FileId}
use Rattle.sprite_ids.specs.declared.TxNo.{TxNo}
use Rattle.packet_bodies.specs.declared.ReplyBody.{ReplyBody}
use Rattle.packet_bodies.specs.declared.Request.{Request}
use Rattle.packet_bodies.specs.declared.Request.TheVariants as requests
use Rattle.kernel_steps.specs.declared.Input.{Input}
use Rattle.kernel_steps.specs.declared.Sending.{Sending}
use Rattle.kernel_steps.specs.Outs.{number_after}
use Rattle.kernel_steps.specs.declared.Input.TheVariants as inputs
use Rattle.unix_calls.specs.declared.Event.{Event}
use Rattle.unix_calls.specs.declared.Event.TheVariants as events
use Rattle.unix_calls.specs.declared.SendKind.TheVariants.{Other}
use Rattle.server_names.specs.declared.Node.{Node}
use Rattle.server_names.specs.declared.Node.TheVariants as nodes
use Rattle.version_table.specs.declared.Action.{Action}
use Rattle.server_kernel.specs.declared.Asked.{Asked}
use Rattle.server_kernel.specs.declared.Domain.{Domain}
use Rattle.server_kernel.specs.declared.Server.{Server}
use Rattle.server_kernel.specs.Directory as directory
use Rattle.server_kernel.specs.Directory.{Parts}
use Rattle.server_kernel.specs.Grants as grants
use Rattle.server_kernel.specs.Opens.{new_file}
use Rattle.server_kernel.specs.Steps as stepping
use Rattle.server_kernel.specs.Waits.{first_about, less_about}
use Rattle.server_walks.specs.Actions.{action_by}
use Rattle.server_walks.specs.Served.{is_served}
use Rattle.server_walks.proofs.Deeds.{Every, IsAnswer, Keeps, changed_at_path, may_wait}
use Rattle.server_walks.proofs.StepWalk.{Comes, KeepsSteps, takes}

-- what such a fact sees
pub record Seen : Type 0 where
  pub roots : List Parts
  pub domains : List Domain
  pub asking : List (FileId × Asked)
  pub waiting : List (FileId × Asked)
  pub next : TxNo
  pub sends : List Sending
  pub told : List Event
  pub answers : List (TxNo × ReplyBody)

abbrev pub seen_of : Server → Seen
seen_of s = record { roots = s.roots; domains = s.domains; asking = s.asking; waiting = s.waiting; next = s.out.next; sends = s.out.sends; told = s.out.events; answers = s.out.answers }

-- a kernel is called back
abbrev pub called_back : Asked → Callback → Seen → Seen
called_back request call v = record v {
  next = number_after v.next;
  sends = v.sends ++ grants.callback_sending request call ∷ [];
  told = (v.told ++ events.Callback call.file call.to call.stamp call.kind ∷ []) ++ events.Send v.next call.to (grants.about_of request.body) Other ∷ [];
}

pub record Bears (K : Asked → Type 0) (Q : Seen → Type 0) : Type 0 where
  pub tells : (v : Seen) (event : Event) → is_served event ≡ true → Q v → Q (record v { told = v.told ++ event ∷ [] })
  pub calls : (v : Seen) (request : Asked) (call : Callback) → Q v → Q (called_back request call v)
  pub answers : (v : Seen) (request : Asked) (reply : ReplyBody) → K request → IsAnswer v.domains request.body reply → Q v → Q (record v { answers = v.answers ++ (request.tx, reply) ∷ [] })
  pub makes : (v : Seen) (path : Parts) (node : Node) → Q v → Q (record v { domains = changed_at_path path (directory.made_domain path node) v.domains })
  pub removes : (v : Seen) (path : Parts) → Q v → Q (record v { domains = changed_at_path path (directory.removed_domain path) v.domains })
  pub renames : (v : Seen) (old new : Parts) → Q v → Q (record v { domains = changed_at_path old (directory.renamed_domain old new) v.domains })
  pub waits : (v : Seen) (request : Asked) (file : FileId) → K request → may_wait request.body ≡ true → Q v → Q (record v { waiting = v.waiting ++ (file, request) ∷ [] })
  pub asks : (v : Seen) (request : Asked) (file : FileId) → K request → may_wait request.body ≡ true → Q v → Q (record v { asking = v.asking ++ (file, request) ∷ [] })
  pub waited : (v : Seen) (file : FileId) (request : Asked) → first_about file v.waiting ≡ Some request → Q v → K request
  pub asked : (v : Seen) (file : FileId) (request : Asked) → first_about file v.asking ≡ Some request → Q v → K request
  pub less_waiting : (v : Seen) (file : FileId) → Q v → Q (record v { waiting = less_about file v.waiting })
  pub less_asking : (v : Seen) (file : FileId) → Q v → Q (record v { asking = less_about file v.asking })

-- what asks something of the table of opens may wait
asker_waits : (body : Request) (from : ℕ) (action : Action) → action_by body from ≡ Some action → may_wait body ≡ true
asker_waits (requests.Opening r) from action e = refl
asker_waits (requests.Move r) from action e = refl
asker_waits body from action e = absurd (cc)

module _ (K : Asked → Type 0) (Q : Seen → Type 0) (bears : Bears K Q) where
  abbrev P : Server → Type 0
  P s = Q (seen_of s)

  calls_all : (calls : List Callback) (request : Asked) (s : Server) → P s → P (grants.calls_all request calls s)
  calls_all [] request s p = p
  calls_all (call ∷ calls) request s p = calls_all calls request (grants.calls_one request call s) (bears.calls (seen_of s) request call p)

  deeds : Keeps K P
  deeds = record {
    notes = λ s event told p. bears.tells (seen_of s) event told p;
    answers = λ s request reply k is p. bears.answers (seen_of s) request reply k is p;
    pages = λ s swap p. p;
    shares = λ s shadows p. p;
    writes = λ s file bytes there p. p;
    makes = λ s path node done e off p. bears.makes (seen_of s) path node p;
    removes = λ s path node e off p. bears.removes (seen_of s) path p;
    renames = λ s old new done e p. bears.renames (seen_of s) old new p;
    creates = λ s path done e p. bears.makes (seen_of s) path (nodes.File (new_file s)) p;
    unlinks = λ s path file e free opens p. bears.removes (seen_of s) path p;
    forgets = λ s path file e free opens p. bears.removes (seen_of s) path p;
    waits = λ s request file k wait busy p. bears.waits (seen_of s) request file k wait p;
    granted = λ s file action free e p. p;
    asks = λ s request file action call calls k may free e p. calls_all (call ∷ calls) request (grants.asks request file (grants.with_decided file action s)) (bears.asks (seen_of s) request file k (asker_waits request.body request.from action may) p);
    closes = λ s file kernel stream many mode free there last p. p;
    closes_last = λ s file kernel stream many mode free there last p. p;
  }

  steps : KeepsSteps K P
  steps = record {
    deeds = deeds;
    waited = λ s file request e p. bears.waited (seen_of s) file request e p;
    asked = λ s file request e p. bears.asked (seen_of s) file request e p;
    less_waiting = λ s file p. bears.less_waiting (seen_of s) file p;
    less_asking = λ s file p. bears.less_asking (seen_of s) file p;
    less_callbacks = λ s tx p. p;
    hears = λ s call busy p. p;
    settles = λ s file ready p. p;
  }

  pub server_takes : (input : Input) (s : Server) → Comes K input → Q (seen_of s) → Q (seen_of (stepping.takes input s))
  server_takes input s k p = takes K P steps input s k p

-- of a fact of what is told and sent alone
pub saying : (Q : TxNo → List Sending → List Event → Type 0) → ((next : TxNo) (sends : List Sending) (told : List Event) (event : Event) → is_served event ≡ true → Q next sends told → Q next sends (told ++ event ∷ []))
    → ((v : Seen) (request : Asked) (call : Callback) → Q v.next v.sends v.told → Q (called_back request call v).next (called_back request call v).sends (called_back request call v).told) → Bears Every (λ v. Q v.next v.sends v.told)
saying Q tells calls = record {
  tells = λ v event h q. tells v.next v.sends v.told event h q;
  calls = calls;
  answers = λ v request reply k is q. q;
  makes = λ v path node q. q;
  removes = λ v path q. q;
  renames = λ v old new q. q;
  waits = λ v request file k wait q. q;
  asks = λ v request file k wait q. q;
  waited = λ v file request e q. tt;
  asked = λ v file request e q. tt;
  less_waiting = λ v file q. q;
  less_asking = λ v file q. q;
}

-- nothing is known of what comes
pub any_comes : (input : Input) → Comes Every input
any_comes (inputs.Request tx source body) = tt
any_comes input = tt
