-- Facts of the prefixes that a kernel knows, and of what its step has told so far, that bear what a client's files' side does.
use Rattle.std.proofs.Common.{◌≡◌, ℕ, true, false, List, [], ◌∷◌, ◌++◌, map, Option, refl, ap, ◌∙◌, append-nil}
use Rattle.sprite_ids.specs.declared.TxNo.{TxNo}
use Rattle.kernel_steps.specs.declared.Input.{Input}
use Rattle.kernel_steps.specs.Outs.{send_event}
use Rattle.unix_calls.specs.declared.About.{About}
use Rattle.unix_calls.specs.declared.Event.{Event}
use Rattle.unix_calls.specs.declared.Event.TheVariants as events
use Rattle.unix_calls.specs.declared.SendKind.{SendKind}
use Rattle.unix_calls.specs.declared.SendKind.TheVariants.{Broadcast, Other}
use Rattle.prefix_table.specs.declared.prefixes.Domain.{Domain}
use Rattle.prefix_table.specs.Prefixes.{knows, learned}
use Rattle.client_walks.proofs.Bearing.{Bears, BearsTelling, Seen, asks_none, is_other, quiet_other}
use Rattle.prefix_laws.specs.Prefixes.{LearnsSo, learned_in}
use Rattle.prefix_laws.proofs.TellsLaws.{learned_append, learns_all_asked, learns_all_sent, learns_joined, learns_one, learns_told, other_none}

-- that what is known grew by what was told
abbrev pub Learns : List Domain → Seen → Type 0
Learns before seen = LearnsSo before seen.known seen.told

-- a broadcast and a request to one server
asked_more : (before : List Domain) (seen : Seen) (servers : List ℕ) (about : Option About) (prefix : List (List ℕ)) → knows seen.known prefix ≡ false → Learns before seen → LearnsSo before seen.known (seen.told ++ map (send_event seen.next about (Broadcast prefix)) servers)
asked_more before seen servers about prefix e q = learns_joined before seen.known seen.known seen.told (map (send_event seen.next about (Broadcast prefix)) servers) q (learns_all_asked servers seen.known seen.next about prefix e)

says_more : (before : List Domain) (seen : Seen) (servers : List ℕ) (about : Option About) (kind : SendKind) → asks_none kind ≡ true → Learns before seen → LearnsSo before seen.known (seen.told ++ map (send_event seen.next about kind) servers)
says_more before seen servers about kind h q = learns_joined before seen.known seen.known seen.told (map (send_event seen.next about kind) servers) q (learns_all_sent servers seen.known seen.next about kind h)

pub learning : (came : Input) (before : List Domain) → Bears came (Learns before)
learning came before = record {
  telling = record {
    tells = λ seen event h q. learns_told before seen.known seen.told event (quiet_other event h) q;
    enters = λ seen entry cause q. learns_told before seen.known seen.told (events.Enter entry) refl q;
    says = λ seen sending kind h q. says_more before seen sending.to sending.about kind h q;
    answers = λ seen tx body here q. q;
    keeps = λ seen pid operation plain q. q;
    left = λ seen pid q. q;
    puts_back = λ seen pid operation e q. q;
    broadcasts = λ seen pid work prefix may e q. asked_more before seen seen.servers _ prefix e q;
    echoes = λ seen pid work server q. says_more before seen (server ∷ []) _ Other refl q;
    asks = λ seen pid work server q. says_more before seen (server ∷ []) _ Other refl q;
  };
  learns = λ seen prefix server e q. learns_joined before seen.known (learned seen.known prefix server) seen.told (events.Learned prefix server ∷ []) q (learns_one seen.known prefix server e);
}

-- that what was told tells of these learned domains: it bears all but that another one is learned
abbrev pub HasLearned : List Domain → Seen → Type 0
HasLearned domains seen = learned_in seen.told ≡ domains

none_sent : (servers : List ℕ) (tx : TxNo) (about : Option About) (kind : SendKind) → learned_in (map (send_event tx about kind) servers) ≡ []
none_sent [] tx about kind = refl
none_sent (to ∷ servers) tx about kind = none_sent servers tx about kind

sent_same : (domains : List Domain) (told : List Event) (servers : List ℕ) (tx : TxNo) (about : Option About) (kind : SendKind) → learned_in told ≡ domains → learned_in (told ++ map (send_event tx about kind) servers) ≡ domains
sent_same domains told servers tx about kind q =
    learned_append told (map (send_event tx about kind) servers) ∙ (ap (λ (ds : List Domain). learned_in told ++ ds) (none_sent servers tx about kind) ∙ (append-nil (learned_in told) ∙ q))

told_same : (domains : List Domain) (told : List Event) (event : Event) → is_other event ≡ true → learned_in told ≡ domains → learned_in (told ++ event ∷ []) ≡ domains
told_same domains told event h q = learned_append told (event ∷ []) ∙ (ap (λ (ds : List Domain). learned_in told ++ (ds ++ [])) (other_none event h) ∙ (append-nil (learned_in told) ∙ q))

pub learned_so : (came : Input) (domains : List Domain) → BearsTelling came (HasLearned domains)
learned_so came domains = record {
  tells = λ seen event h q. told_same domains seen.told event (quiet_other event h) q;
  enters = λ seen entry cause q. told_same domains seen.told (events.Enter entry) refl q;
  says = λ seen sending kind h q. sent_same domains seen.told sending.to seen.next sending.about kind q;
  answers = λ seen tx body here q. q;
  keeps = λ seen pid operation plain q. q;
  left = λ seen pid q. q;
  puts_back = λ seen pid operation e q. q;
  broadcasts = λ seen pid work prefix may e q. sent_same domains seen.told seen.servers seen.next _ (Broadcast prefix) q;
  echoes = λ seen pid work server q. sent_same domains seen.told (server ∷ []) seen.next _ Other q;
  asks = λ seen pid work server q. sent_same domains seen.told (server ∷ []) seen.next _ Other q;
}
