-- What some events tell of prefixes, one behind the other.
use Rattle.std.proofs.Common.{◌≡◌, ℕ, true, false, not, List, [], ◌∷◌, ◌++◌, map, Option, refl, sym, ap, subst, ◌∙◌, append_assoc, append-nil}
use Rattle.sprite_ids.specs.declared.TxNo.{TxNo}
use Rattle.kernel_steps.specs.Outs.{send_event}
use Rattle.unix_calls.specs.declared.About.{About}
use Rattle.unix_calls.specs.declared.Event.{Event}
use Rattle.unix_calls.specs.declared.Event.TheVariants as events
use Rattle.unix_calls.specs.declared.SendKind.{SendKind}
use Rattle.unix_calls.specs.declared.SendKind.TheVariants.{Broadcast}
use Rattle.prefix_table.specs.declared.prefixes.Domain.{Domain}
use Rattle.prefix_table.specs.Prefixes.{knows, learned}
use Rattle.prefix_table.proofs.PrefixLaws.{learned_last}
use Rattle.client_walks.proofs.Bearing.{asks_none, is_other}
use Rattle.prefix_laws.specs.Prefixes.{AreOfUnknown, LearnsSo, domain_in, is_of_unknown, learned_in}

-- ---- events that tell nothing of prefixes

pub other_none : (event : Event) → is_other event ≡ true → domain_in event ≡ []
other_none (events.Learned prefix server) h = absurd (cc)
other_none _ h = refl

pub other_unknown : (known : List Domain) (event : Event) → is_other event ≡ true → is_of_unknown known event ≡ true
other_unknown known (events.Learned prefix server) h = absurd (cc)
other_unknown known (events.Send tx to about (Broadcast prefix)) h = absurd (cc)
other_unknown known _ h = refl

-- what is known stays behind one
pub other_same : (known : List Domain) (event : Event) → is_other event ≡ true → known ++ domain_in event ≡ known
other_same known event h = ap (λ (ds : List Domain). known ++ ds) (other_none event h) ∙ append-nil known

-- ---- two parts

pub learned_append : (es fs : List Event) → learned_in (es ++ fs) ≡ learned_in es ++ learned_in fs
learned_append [] fs = refl
learned_append (e ∷ es) fs = ap (λ (ds : List Domain). domain_in e ++ ds) (learned_append es fs) ∙ sym (append_assoc (domain_in e) (learned_in es) (learned_in fs))

pub unknown_append : (es : List Event) (known : List Domain) (fs : List Event) → AreOfUnknown known es → AreOfUnknown (known ++ learned_in es) fs → AreOfUnknown known (es ++ fs)
unknown_append [] known fs h k = subst (λ (ds : List Domain). AreOfUnknown ds fs) (append-nil known) k
unknown_append (e ∷ es) known fs h k =
    (h.0, unknown_append es (known ++ domain_in e) fs h.1 (subst (λ (ds : List Domain). AreOfUnknown ds fs) (sym (append_assoc known (domain_in e) (learned_in es))) k))

-- what is told in two parts, one behind the other
pub learns_joined : (before between after : List Domain) (es fs : List Event) → LearnsSo before between es → LearnsSo between after fs → LearnsSo before after (es ++ fs)
learns_joined before between after es fs h k = record {
  grown =
      k.grown
      ∙ (ap (λ (ds : List Domain). ds ++ learned_in fs) h.grown
      ∙ (append_assoc before (learned_in es) (learned_in fs) ∙ ap (λ (ds : List Domain). before ++ ds) (sym (learned_append es fs))));
  unknown = unknown_append es before fs h.unknown (subst (λ (ds : List Domain). AreOfUnknown ds fs) h.grown k.unknown);
}

pub learns_nothing : (known : List Domain) → LearnsSo known known []
learns_nothing known = record { grown = sym (append-nil known); unknown = tt }

-- ---- one event

pub learns_other : (known : List Domain) (event : Event) → is_other event ≡ true → LearnsSo known known (event ∷ [])
learns_other known event h = record {
  grown = sym (append-nil known) ∙ ap (λ (ds : List Domain). known ++ (ds ++ [])) (sym (other_none event h));
  unknown = (other_unknown known event h, tt);
}

-- one event more, and the packets of a request that asks for none
pub learns_told : (before known : List Domain) (told : List Event) (event : Event) → is_other event ≡ true → LearnsSo before known told → LearnsSo before known (told ++ event ∷ [])
learns_told before known told event h q = learns_joined before known known told (event ∷ []) q (learns_other known event h)

sent_other : (tx : TxNo) (to : ℕ) (about : Option About) (kind : SendKind) → asks_none kind ≡ true → is_other (events.Send tx to about kind) ≡ true
sent_other tx to about (Broadcast prefix) h = absurd (cc)
sent_other tx to about _ h = refl

pub learns_all_sent : (servers : List ℕ) (known : List Domain) (tx : TxNo) (about : Option About) (kind : SendKind) → asks_none kind ≡ true → LearnsSo known known (map (send_event tx about kind) servers)
learns_all_sent [] known tx about kind h = learns_nothing known
learns_all_sent (to ∷ servers) known tx about kind h =
    learns_joined known known known (events.Send tx to about kind ∷ []) (map (send_event tx about kind) servers) (learns_other known (events.Send tx to about kind) (sent_other tx to about kind h)) (learns_all_sent servers known tx about kind h)

pub learns_asked : (known : List Domain) (tx : TxNo) (to : ℕ) (about : Option About) (prefix : List (List ℕ)) → knows known prefix ≡ false → LearnsSo known known (events.Send tx to about (Broadcast prefix) ∷ [])
learns_asked known tx to about prefix e = record { grown = sym (append-nil known); unknown = (ap not e, tt) }

pub learns_all_asked : (servers : List ℕ) (known : List Domain) (tx : TxNo) (about : Option About) (prefix : List (List ℕ)) → knows known prefix ≡ false → LearnsSo known known (map (send_event tx about (Broadcast prefix)) servers)
learns_all_asked [] known tx about prefix e = learns_nothing known
learns_all_asked (to ∷ servers) known tx about prefix e =
    learns_joined known known known (events.Send tx to about (Broadcast prefix) ∷ []) (map (send_event tx about (Broadcast prefix)) servers) (learns_asked known tx to about prefix e) (learns_all_asked servers known tx about prefix e)

pub learns_one : (known : List Domain) (prefix : List (List ℕ)) (server : ℕ) → knows known prefix ≡ false → LearnsSo known (learned known prefix server) (events.Learned prefix server ∷ [])
learns_one known prefix server e = record { grown = learned_last prefix server known e; unknown = (ap not e, tt) }
