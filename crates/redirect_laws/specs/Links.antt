-- Where other domains hang in those of a server, and to which of them its answers lead.
use Rattle.std.specs.Prelude.{◌≡◌, ℕ, Bool, true, List, Some}
use Rattle.std.specs.List.{AllByRecursion}
use Rattle.sprite_ids.specs.declared.TxNo.{TxNo}
use Rattle.packet_bodies.specs.declared.ReplyBody.{ReplyBody}
use Rattle.packet_bodies.specs.declared.ReplyBody.TheVariants.{Redirect}
use Rattle.kernel_steps.specs.declared.Input.{Input}
use Rattle.unix_calls.specs.declared.Description.{Description}
use Rattle.unix_calls.specs.Domains.{begins_domain, roots_of}
use Rattle.server_names.specs.declared.Entry.{Entry}
use Rattle.server_names.specs.declared.Entry.TheVariants.{Node, Link}
use Rattle.server_names.specs.Names.{Listed, Tree}
use Rattle.server_kernel.specs.declared.Domain.{Domain}
use Rattle.server_kernel.specs.declared.Server.{Server}
use Rattle.server_kernel.specs.Boot.{boots}
use Rattle.server_kernel.specs.Steps.{server_step}

-- a path, by its parts
abbrev pub Parts : Type 0
Parts = List (List ℕ)

-- an entry where another domain hangs is one of these; so is each in a directory, in a domain's names, and in some domains
abbrev pub IsLink : (Parts → Bool) → Entry → Type 0
IsLink leads (Node node) = Unit {0}
IsLink leads (Link path) = leads path ≡ true

abbrev pub EntriesLink : (Parts → Bool) → Listed → Type 0
EntriesLink leads listed = AllByRecursion (λ (row : List ℕ × Entry). IsLink leads row.1) listed

abbrev pub AreLinks : (Parts → Bool) → Tree → Type 0
AreLinks leads tree = AllByRecursion (λ (directory : Parts × Listed). EntriesLink leads directory.1) tree

abbrev pub LinksIn : (Parts → Bool) → List Domain → Type 0
LinksIn leads domains = AllByRecursion (λ (domain : Domain). AreLinks leads domain.names) domains

-- an answer that leads on leads to one of these, and each of some answers
abbrev pub AnswerLeads : (Parts → Bool) → ReplyBody → Type 0
AnswerLeads leads (Redirect path) = leads path ≡ true
AnswerLeads leads reply = Unit {0}

abbrev pub AnswersLead : (Parts → Bool) → List (TxNo × ReplyBody) → Type 0
AnswersLead leads answers = AllByRecursion (λ (answer : TxNo × ReplyBody). AnswerLeads leads answer.1) answers

-- where others hang at some of these paths alone in a server's domains, a step's answers lead on to these alone, and so it stays;
-- and it knows the same domains
abbrev pub ServersLeadSo : Type 0
ServersLeadSo = (leads : Parts → Bool) (s : Server) (input : Input) (next : TxNo) → LinksIn leads s.domains → LinksIn leads (server_step s input next).0.domains × AnswersLead leads (server_step s input next).1.answers × ((server_step s input next).0.roots ≡ s.roots)

-- a server begins so, with others hung at the roots of domains alone, and it knows these
abbrev pub ServersBeginLinked : Type 0
ServersBeginLinked = (c : Description) (kernel : ℕ) (s : Server) → boots c kernel ≡ Some s → LinksIn (begins_domain (roots_of c.kernels)) s.domains × (s.roots ≡ roots_of c.kernels)
