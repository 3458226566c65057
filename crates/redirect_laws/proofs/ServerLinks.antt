-- A server's kernel leads name calls on to where other domains hang: each deed of it keeps that, and so each step.
use Rattle.std.proofs.Common.{◌≡◌, Bool, List, refl}
use Rattle.sprite_ids.specs.declared.TxNo.{TxNo}
use Rattle.sprite_ids.proofs.ListLaws.{each_push}
use Rattle.packet_bodies.specs.declared.ReplyBody.{ReplyBody}
use Rattle.packet_bodies.specs.declared.ReplyBody.TheVariants.{Redirect}
use Rattle.packet_bodies.specs.declared.Request.{Request}
use Rattle.server_kernel.specs.declared.Domain.{Domain}
use Rattle.server_kernel.specs.Steps.{begins}
use Rattle.server_walks.proofs.Bearing.{Bears, Seen, any_comes, server_takes}
use Rattle.server_walks.proofs.Deeds.{Every, LeadsSo}
use Rattle.redirect_laws.specs.Links.{AnswerLeads, AnswersLead, LinksIn, Parts, ServersLeadSo}
use Rattle.redirect_laws.proofs.DomainLinks.{hangs_lead, made_in, removed_in, renamed_in}

module _ (leads : Parts → Bool) (roots : List Parts) where
  -- the links, what is answered, and which domains there are
  abbrev Q : Seen → Type 0
  Q v = LinksIn leads v.domains × (AnswersLead leads v.answers × (v.roots ≡ roots))

  answer_leads : (reply : ReplyBody) (request : Request) (domains : List Domain) → LeadsSo domains request reply → LinksIn leads domains → AnswerLeads leads reply
  answer_leads (Redirect path) request domains hangs h = hangs_lead leads path domains hangs h
  answer_leads reply request domains hangs h = tt

  linking : Bears Every Q
  linking = record {
    tells = λ v event told q. q;
    calls = λ v request call q. q;
    answers = λ v request reply k is q. (q.0, (each_push (λ (answer : TxNo × ReplyBody). AnswerLeads leads answer.1) v.answers (request.tx, reply) q.1.0 (answer_leads reply request.body v.domains is.leads q.0), q.1.1));
    makes = λ v path node q. (made_in leads path node v.domains q.0, q.1);
    removes = λ v path q. (removed_in leads path v.domains q.0, q.1);
    renames = λ v old new q. (renamed_in leads old new v.domains q.0, q.1);
    waits = λ v request file k wait q. q;
    asks = λ v request file k wait q. q;
    waited = λ v file request e q. tt;
    asked = λ v file request e q. tt;
    less_waiting = λ v file q. q;
    less_asking = λ v file q. q;
  }

pub servers_lead : ServersLeadSo
servers_lead leads s input next h = let got = server_takes Every (Q leads s.roots) (linking leads s.roots) input (begins next s) (any_comes input) (h, (tt, refl)) in (got.0, got.1.0, got.1.1)
