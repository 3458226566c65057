-- No more faults are told than the link counts.
use Rattle.std.proofs.Common.{arith, ◌≡◌, ℕ, ◌+◌, ◌<◌, ◌≤◌, Bool, true, false, cond, List, [], ◌∷◌, ◌++◌, Some, None, refl, ap}
use Rattle.std.proofs.lemmas.List.Sums.{sum_by-append}
use Rattle.link_plan.specs.declared.Fate.{Fate}
use Rattle.link_plan.specs.declared.Fate.TheVariants.{Once, Lost, Twice, Late}
use Rattle.link_plan.specs.Counts.{Asks, IsAsked, same_pair}
use Rattle.unix_calls.specs.declared.Event.{Event}
use Rattle.unix_calls.specs.declared.Event.TheVariants as event
use Rattle.cluster_wire.specs.declared.telling.Sent.{Sent}
use Rattle.cluster_wire.specs.Noted.{faulted, faulted_all, is_of, is_own, noted_all, noted_one}
use Rattle.cluster_wire.specs.Faults.{FaultsTold, faults_told, is_fault_between, packets}

-- counts of faults never fall
asks_grow : {L : Type 0} (faults asked : L → ℕ → ℕ → ℕ) (kernel : ℕ) (before after : L) (sent : List (ℕ × Fate)) → Asks faults asked kernel before after sent → (a b : ℕ) → faults before a b ≤ faults after a b
asks_grow faults asked kernel before after [] asks a b = (let same = ap (λ link. faults link a b) asks in omega arith)
asks_grow faults asked kernel before after (packet ∷ sent) asks a b =
    (let here = asks.1.never_fall a b in
    let rest = asks_grow faults asked kernel asks.0 after sent asks.2 a b in omega arith)

-- one event more
more : (a b : ℕ) (told : List Event) (e : Event) → faults_told a b (told ++ e ∷ []) ≡ faults_told a b told + (0 + cond (is_fault_between a b e) 1 0)
more a b told e = sum_by-append (λ (e : Event). cond (is_fault_between a b e) 1 0) told (e ∷ [])

-- something else
pub other_more : (a b : ℕ) (told : List Event) (e : Event) → is_fault_between a b e ≡ false → faults_told a b (told ++ e ∷ []) ≡ faults_told a b told
other_more a b told e none = (let m = more a b told e in let z : cond {A = ℕ} (is_fault_between a b e) 1 0 ≡ 0 = ap (λ x. cond {A = ℕ} x 1 0) none in omega arith)

-- a fault, where the count rose
fault_told : (f g : ℕ) (a b from to : ℕ) (fate : Fate) (told : List Event) (same : Bool) → same_pair a b from to ≡ same → (same ≡ true → f < g) → f ≤ g → f + faults_told a b (told ++ event.Fault from to fate ∷ []) ≤ g + faults_told a b told
fault_told f g a b from to fate told true is rose grew =
    (let m = more a b told (event.Fault from to fate) in
    let z : cond {A = ℕ} (same_pair a b from to) 1 0 ≡ 1 = ap (λ x. cond {A = ℕ} x 1 0) is in
    let r = rose refl in omega arith)
fault_told f g a b from to fate told false is rose grew =
    (let m = more a b told (event.Fault from to fate) in
    let z : cond {A = ℕ} (same_pair a b from to) 1 0 ≡ 0 = ap (λ x. cond {A = ℕ} x 1 0) is in omega arith)

-- the fault of a packet is told where there is one
pub told_fault : {L : Type 0} (faults asked : L → ℕ → ℕ → ℕ) (from to : ℕ) (fate : Fate) (before after : L) (told : List Event) → IsAsked (faults before) (asked before) (faults after) (asked after) from to fate → FaultsTold faults before after told (faulted from to fate told)
told_fault faults asked from to Once before after told is a b = (let g = is.never_fall a b in omega arith)
told_fault faults asked from to Lost before after told is a b = fault_told (faults before a b) (faults after a b) a b from to Lost told (same_pair a b from to) refl (is.cause a b) (is.never_fall a b)
told_fault faults asked from to Twice before after told is a b = fault_told (faults before a b) (faults after a b) a b from to Twice told (same_pair a b from to) refl (is.cause a b) (is.never_fall a b)
told_fault faults asked from to Late before after told is a b = fault_told (faults before a b) (faults after a b) a b from to Late told (same_pair a b from to) refl (is.cause a b) (is.never_fall a b)

-- and those of several
pub told_faults : {L : Type 0} (faults asked : L → ℕ → ℕ → ℕ) (kernel : ℕ) (sent : List (ℕ × Fate)) (before after : L) (told : List Event) → Asks faults asked kernel before after sent → FaultsTold faults before after told (faulted_all kernel sent told)
told_faults faults asked kernel [] before after told asks a b = (let g = ap (λ link. faults link a b) asks in omega arith)
told_faults faults asked kernel (packet ∷ sent) before after told asks a b =
    (let here = told_fault faults asked kernel packet.0 packet.1 before asks.0 told asks.1 a b in
    let rest = told_faults faults asked kernel sent asks.0 after (faulted kernel packet.0 packet.1 told) asks.2 a b in omega arith)

-- what a kernel alone tells is no fault
own_is_none : (e : Event) → is_own e ≡ true → (a b : ℕ) → is_fault_between a b e ≡ false
own_is_none (event.Burst pid count) own a b = refl
own_is_none (event.Issue pid number call) own a b = refl
own_is_none (event.Enter entry) own a b = refl
own_is_none (event.Return pid number reply) own a b = refl
own_is_none (event.Send tx to about kind) own a b = refl
own_is_none (event.Fault from to what) own a b = absurd (cc)
own_is_none (event.Deliver tx from reply about) own a b = refl
own_is_none (event.Expire tx last) own a b = refl
own_is_none (event.Grant file to stamp mode) own a b = refl
own_is_none (event.Callback file to stamp kind) own a b = refl
own_is_none (event.Mode file stamp mode) own a b = refl
own_is_none (event.Filled file block) own a b = refl
own_is_none (event.Dropped file block cause) own a b = refl
own_is_none (event.Dirtied file block) own a b = refl
own_is_none (event.WroteBack file block) own a b = refl
own_is_none (event.Opened file stream kernel mode) own a b = refl
own_is_none (event.Closed file stream kernel mode) own a b = refl
own_is_none (event.Shared file stream) own a b = refl
own_is_none (event.Learned prefix server) own a b = refl
own_is_none (event.Freeze pid) own a b = refl
own_is_none (event.Thaw pid) own a b = refl

-- nor is a sending
sent_is_none : (e : Event) (packet : Sent) → is_of e packet ≡ true → (a b : ℕ) → is_fault_between a b e ≡ false
sent_is_none (event.Burst pid count) packet is a b = refl
sent_is_none (event.Issue pid number call) packet is a b = refl
sent_is_none (event.Enter entry) packet is a b = refl
sent_is_none (event.Return pid number reply) packet is a b = refl
sent_is_none (event.Send tx to about kind) packet is a b = refl
sent_is_none (event.Fault from to what) packet is a b = absurd (cc)
sent_is_none (event.Deliver tx from reply about) packet is a b = refl
sent_is_none (event.Expire tx last) packet is a b = refl
sent_is_none (event.Grant file to stamp mode) packet is a b = refl
sent_is_none (event.Callback file to stamp kind) packet is a b = refl
sent_is_none (event.Mode file stamp mode) packet is a b = refl
sent_is_none (event.Filled file block) packet is a b = refl
sent_is_none (event.Dropped file block cause) packet is a b = refl
sent_is_none (event.Dirtied file block) packet is a b = refl
sent_is_none (event.WroteBack file block) packet is a b = refl
sent_is_none (event.Opened file stream kernel mode) packet is a b = refl
sent_is_none (event.Closed file stream kernel mode) packet is a b = refl
sent_is_none (event.Shared file stream) packet is a b = refl
sent_is_none (event.Learned prefix server) packet is a b = refl
sent_is_none (event.Freeze pid) packet is a b = refl
sent_is_none (event.Thaw pid) packet is a b = refl

-- what a kernel alone tells adds none
told_own : (kernel : ℕ) (e : Event) (own : Bool) → is_own e ≡ own → (told : List Event) (a b : ℕ) → faults_told a b (cond own (told ++ e ∷ []) told) ≡ faults_told a b told
told_own kernel e true is told a b = other_more a b told e (own_is_none e is a b)
told_own kernel e false is told a b = refl

-- all that a kernel did, with the faults of its packets
pub told_all : {L : Type 0} (faults asked : L → ℕ → ℕ → ℕ) (kernel : ℕ) (events : List Event) (sent : List Sent) (before after : L) (told : List Event) → Asks faults asked kernel before after (packets sent) → FaultsTold faults before after told (noted_all kernel events sent told)
told_all faults asked kernel [] sent before after told asks a b = (let g = asks_grow faults asked kernel before after (packets sent) asks a b in omega arith)
told_all faults asked kernel (e ∷ events) [] before after told asks a b =
    (let here = told_own kernel e (is_own e) refl told a b in
    let rest = told_all faults asked kernel events [] before after (noted_one kernel e None told) asks a b in omega arith)
told_all {L} faults asked kernel (e ∷ events) (packet ∷ sent) before after told asks a b =
    by_first (is_of e packet) refl (told_all faults asked kernel events sent asks.0 after (faulted kernel packet.to packet.fate (told ++ e ∷ [])) asks.2) (told_all faults asked kernel events (packet ∷ sent) before after (noted_one kernel e None told) asks) a b
  where
    by_first : (of : Bool) → is_of e packet ≡ of → FaultsTold faults asks.0 after (faulted kernel packet.to packet.fate (told ++ e ∷ [])) (noted_all kernel events sent (faulted kernel packet.to packet.fate (told ++ e ∷ []))) → FaultsTold faults before after (noted_one kernel e None told) (noted_all kernel events (packet ∷ sent) (noted_one kernel e None told)) → FaultsTold faults before after told (noted_all kernel events (cond of sent (packet ∷ sent)) (noted_one kernel e (cond of (Some packet) None) told))
    by_first true is taken left a b =
        (let here = other_more a b told e (sent_is_none e packet is a b) in
        let fault = told_fault faults asked kernel packet.to packet.fate before asks.0 (told ++ e ∷ []) asks.1 a b in
        let rest = taken a b in omega arith)
    by_first false is taken left a b =
        (let here = told_own kernel e (is_own e) refl told a b in
        let rest = left a b in omega arith)
