-- Faults tell nothing of prefixes.
use Rattle.std.proofs.Common.{◌≡◌, ℕ, Bool, true, false, not, cond, List, [], ◌∷◌, ◌++◌, refl, sym, ap, subst, ◌∙◌}
use Rattle.link_plan.specs.declared.Fate.{Fate}
use Rattle.link_plan.specs.declared.Fate.TheVariants.{Once, Lost, Twice, Late}
use Rattle.unix_calls.specs.declared.Event.{Event}
use Rattle.unix_calls.specs.declared.Event.TheVariants as events
use Rattle.prefix_table.specs.declared.prefixes.Domain.{Domain}
use Rattle.cluster_wire.specs.Noted.{faulted, faulted_all, is_fault, without_faults}
use Rattle.client_walks.proofs.Bearing.{is_other}
use Rattle.prefix_laws.specs.Prefixes.{AreOfUnknown, LearnsSo, domain_in, learned_in}
use Rattle.prefix_laws.proofs.TellsLaws.{learns_joined, learns_other, other_none, other_same, other_unknown}

fault_other : (event : Event) → is_fault event ≡ true → is_other event ≡ true
fault_other (events.Learned prefix server) h = absurd (cc)
fault_other (events.Send tx to about kind) h = absurd (cc)
fault_other _ h = refl

-- one more fault
fault_told : (before after : List Domain) (told : List Event) (from to : ℕ) (fate : Fate) → LearnsSo before after told → LearnsSo before after (told ++ events.Fault from to fate ∷ [])
fault_told before after told from to fate h = learns_joined before after after told (events.Fault from to fate ∷ []) h (learns_other after (events.Fault from to fate) refl)

pub learns_faulted : (fate : Fate) (before after : List Domain) (told : List Event) (from to : ℕ) → LearnsSo before after told → LearnsSo before after (faulted from to fate told)
learns_faulted Once before after told from to h = h
learns_faulted Lost before after told from to h = fault_told before after told from to Lost h
learns_faulted Twice before after told from to h = fault_told before after told from to Twice h
learns_faulted Late before after told from to h = fault_told before after told from to Late h

pub learns_faulted_all : (packets : List (ℕ × Fate)) (before after : List Domain) (told : List Event) (kernel : ℕ) → LearnsSo before after told → LearnsSo before after (faulted_all kernel packets told)
learns_faulted_all [] before after told kernel h = h
learns_faulted_all (packet ∷ packets) before after told kernel h =
    learns_faulted_all packets before after (faulted kernel packet.0 packet.1 told) kernel (learns_faulted packet.1 before after told kernel packet.0 h)

-- what is told without them

learned_by_fault : (b : Bool) (event : Event) (rest : List Event) → is_fault event ≡ b → learned_in (without_faults rest) ≡ learned_in rest → learned_in (cond (not b) (event ∷ without_faults rest) (without_faults rest)) ≡ domain_in event ++ learned_in rest
learned_by_fault true event rest e h = h ∙ ap (λ (ds : List Domain). ds ++ learned_in rest) (sym (other_none event (fault_other event e)))
learned_by_fault false event rest e h = ap (λ (ds : List Domain). domain_in event ++ ds) h

learned_without : (told : List Event) → learned_in (without_faults told) ≡ learned_in told
learned_without [] = refl
learned_without (event ∷ rest) = learned_by_fault (is_fault event) event rest refl (learned_without rest)

unknown_by_fault : (b : Bool) (event : Event) (rest : List Event) (known : List Domain) → is_fault event ≡ b → ((ds : List Domain) → AreOfUnknown ds rest → AreOfUnknown ds (without_faults rest)) → AreOfUnknown known (event ∷ rest) → AreOfUnknown known (cond (not b) (event ∷ without_faults rest) (without_faults rest))
unknown_by_fault true event rest known e more h = more known (subst (λ (ds : List Domain). AreOfUnknown ds rest) (other_same known event (fault_other event e)) h.1)
unknown_by_fault false event rest known e more h = (h.0, more (known ++ domain_in event) h.1)

unknown_without : (told : List Event) (known : List Domain) → AreOfUnknown known told → AreOfUnknown known (without_faults told)
unknown_without [] known h = tt
unknown_without (event ∷ rest) known h = unknown_by_fault (is_fault event) event rest known refl (λ ds k. unknown_without rest ds k) h

unknown_with_fault : (b : Bool) (event : Event) (rest : List Event) (known : List Domain) → is_fault event ≡ b → ((ds : List Domain) → AreOfUnknown ds (without_faults rest) → AreOfUnknown ds rest) → AreOfUnknown known (cond (not b) (event ∷ without_faults rest) (without_faults rest)) → AreOfUnknown known (event ∷ rest)
unknown_with_fault true event rest known e more h =
    let other = fault_other event e in
    (other_unknown known event other, more (known ++ domain_in event) (subst (λ (ds : List Domain). AreOfUnknown ds (without_faults rest)) (sym (other_same known event other)) h))
unknown_with_fault false event rest known e more h = (h.0, more (known ++ domain_in event) h.1)

unknown_with : (told : List Event) (known : List Domain) → AreOfUnknown known (without_faults told) → AreOfUnknown known told
unknown_with [] known h = tt
unknown_with (event ∷ rest) known h = unknown_with_fault (is_fault event) event rest known refl (λ ds k. unknown_with rest ds k) h

pub learns_without : (before after : List Domain) (told : List Event) → LearnsSo before after told → LearnsSo before after (without_faults told)
learns_without before after told h = record {
  grown = h.grown ∙ ap (λ (ds : List Domain). before ++ ds) (sym (learned_without told));
  unknown = unknown_without told before h.unknown;
}

pub learns_with : (before after : List Domain) (told : List Event) → LearnsSo before after (without_faults told) → LearnsSo before after told
learns_with before after told h = record {
  grown = h.grown ∙ ap (λ (ds : List Domain). before ++ ds) (learned_without told);
  unknown = unknown_with told before h.unknown;
}
