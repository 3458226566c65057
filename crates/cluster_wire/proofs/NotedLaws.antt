-- All that a kernel did is told.
use Rattle.std.proofs.Common.{◌≡◌, ℕ, Bool, true, false, cond, not, List, [], ◌∷◌, ◌++◌, Option, Some, None, refl, sym, ap, ◌∙◌, append-nil, append_assoc}
use Rattle.std.proofs.lemmas.List.Elements.{filter-append}
use Rattle.sprite_ids.proofs.ListLaws.{some_is}
use Rattle.link_plan.specs.declared.Fate.{Fate}
use Rattle.link_plan.specs.declared.Fate.TheVariants.{Once, Lost, Twice, Late}
use Rattle.unix_calls.specs.declared.Event.{Event}
use Rattle.unix_calls.specs.declared.Event.TheVariants as event
use Rattle.cluster_wire.specs.declared.telling.Sent.{Sent}
use Rattle.cluster_wire.specs.Noted.{faulted, faulted_all, is_fault, is_of, is_own, packet_of, without_faults}

-- one event more, which isn't a fault
other_told : (told : List Event) (e : Event) → is_fault e ≡ false → without_faults (told ++ e ∷ []) ≡ without_faults told ++ e ∷ []
other_told told e other = filter-append (λ (e : Event). not (is_fault e)) told (e ∷ []) ∙ ap (λ (b : Bool). without_faults told ++ cond (not b) (e ∷ []) []) other

-- a fault more
fault_told : (told : List Event) (from to : ℕ) (fate : Fate) → without_faults (told ++ event.Fault from to fate ∷ []) ≡ without_faults told
fault_told told from to fate = filter-append (λ (e : Event). not (is_fault e)) told (event.Fault from to fate ∷ []) ∙ append-nil (without_faults told)

-- the fault of a packet
packet_fault : (from to : ℕ) (fate : Fate) (told : List Event) → without_faults (faulted from to fate told) ≡ without_faults told
packet_fault from to Once told = refl
packet_fault from to Lost told = fault_told told from to Lost
packet_fault from to Twice told = fault_told told from to Twice
packet_fault from to Late told = fault_told told from to Late

-- and those of several
pub packet_faults : (kernel : ℕ) (packets : List (ℕ × Fate)) (told : List Event) → without_faults (faulted_all kernel packets told) ≡ without_faults told
packet_faults kernel [] told = refl
packet_faults kernel (packet ∷ packets) told = packet_faults kernel packets (faulted kernel packet.0 packet.1 told) ∙ packet_fault kernel packet.0 packet.1 told

-- what a kernel alone tells is no fault
own_is_none : (e : Event) → is_own e ≡ true → is_fault e ≡ false
own_is_none (event.Fault from to what) own = absurd (cc)
own_is_none e own = refl

-- nor is a sending
sent_is_none : (e : Event) (sent : List Sent) (packet : Sent) → packet_of e sent ≡ Some packet → is_fault e ≡ false
sent_is_none (event.Fault from to what) [] packet is = absurd (cc)
sent_is_none (event.Fault from to what) (first ∷ sent) packet is = absurd (cc)
sent_is_none e sent packet is = refl

-- what a kernel alone tells is told
pub own_told : (e : Event) (old new : List Event) → is_own e ≡ true → new ≡ old ++ e ∷ [] → without_faults new ≡ without_faults old ++ e ∷ []
own_told e old new own grown = ap without_faults grown ∙ other_told old e (own_is_none e own)

-- and so is a sending, with its packet's fault
pub packet_told : (kernel : ℕ) (e : Event) (sent : List Sent) (packet : Sent) (old between new : List Event) → packet_of e sent ≡ Some packet → between ≡ old ++ e ∷ [] → new ≡ faulted kernel packet.to packet.fate between → without_faults new ≡ without_faults old ++ e ∷ []
packet_told kernel e sent packet old between new is grown noted =
    ap without_faults noted ∙ packet_fault kernel packet.to packet.fate between ∙ ap without_faults grown ∙ other_told old e (sent_is_none e sent packet is)

-- one thing after another
pub told_on : (start old new : List Event) (all rest events : List Event) (e : Event) → without_faults old ++ events ≡ without_faults start ++ all → events ≡ e ∷ rest → without_faults new ≡ without_faults old ++ e ∷ [] → without_faults new ++ rest ≡ without_faults start ++ all
told_on start old new all rest events e so first grown =
    ap (λ (told : List Event). told ++ rest) grown ∙ append_assoc (without_faults old) (e ∷ []) rest ∙ ap (λ (events : List Event). without_faults old ++ events) (sym first) ∙ so
