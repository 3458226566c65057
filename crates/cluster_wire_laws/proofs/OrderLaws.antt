-- What a kernel tells by itself is nothing of the wire, and of the calls that begin and are answered nothing of the wire is told.
use Rattle.std.proofs.Common.{◌≡◌, ℕ, Bool, true, false, cond, List, [], ◌∷◌, ◌++◌, Option, Some, None, refl, sym, ap, ap₂, ◌∙◌, append-nil, append_assoc, filter}
use Rattle.std.proofs.lemmas.List.{map-append}
use Rattle.std.proofs.lemmas.List.Elements.{filter-append}
use Rattle.sprite_ids.specs.declared.TxNo.{TxNo}
use Rattle.link_plan.specs.declared.Fate.{Fate}
use Rattle.link_plan.specs.declared.Fate.TheVariants.{Once, Lost, Twice, Late}
use Rattle.unix_calls.specs.declared.Event.{Event}
use Rattle.unix_calls.specs.declared.Event.TheVariants as events
use Rattle.unix_calls.specs.declared.Rec.{Rec}
use Rattle.kernel_rpc.specs.Histories.{reached}
use Rattle.kernel_rpc.specs.Machine.{Machine}
use Rattle.kernel_rpc.specs.Runs.{Act, Counts, after}
use Rattle.kernel_steps.specs.declared.Input.{Input}
use Rattle.cluster_wire.specs.declared.Said.{Said}
use Rattle.cluster_wire.specs.declared.telling.Sent.{Sent}
use Rattle.cluster_wire.specs.Noted.{faulted, faulted_all, is_of, is_own, noted_all, noted_one}
use Rattle.cluster_wire.specs.Ran.{EachDone, told_of}
use Rattle.cluster_kernels.specs.declared.KernelState.{KernelState}
use Rattle.cluster_kernels.specs.declared.State.{State}
use Rattle.cluster_kernels.specs.States.{kernel_at, stepped, stepped_by}
use Rattle.cluster_steps.specs.Steps.{took}
use Rattle.call_journal.specs.Journal.{records_by}
use Rattle.cluster_wire_laws.specs.Orders.{is_of_wire, of_wire, told_by}

-- what a kernel told of the wire
abbrev pub wire_told : ℕ → List Event → List Rec
wire_told kernel told = of_wire (records_by kernel told)

pub wire_on : (xs ys : List Rec) → of_wire (xs ++ ys) ≡ of_wire xs ++ of_wire ys
wire_on xs ys = filter-append (λ (r : Rec). is_of_wire r.event) xs ys

-- one event more
one_more : (kernel : ℕ) (told : List Event) (e : Event) (b : Bool) → is_of_wire e ≡ b → wire_told kernel (told ++ e ∷ []) ≡ wire_told kernel told ++ cond {A = List Rec} b (record { kernel = kernel; event = e } ∷ []) []
one_more kernel told e b is =
    ap of_wire (map-append (λ (event : Event). record { kernel = kernel; event = event }) told (e ∷ []))
    ∙ wire_on (records_by kernel told) (record { kernel = kernel; event = e } ∷ [])
    ∙ ap (λ b. wire_told kernel told ++ cond {A = List Rec} b (record { kernel = kernel; event = e } ∷ []) []) is

pub wire_more : (kernel : ℕ) (told : List Event) (e : Event) → is_of_wire e ≡ true → wire_told kernel (told ++ e ∷ []) ≡ wire_told kernel told ++ record { kernel = kernel; event = e } ∷ []
wire_more kernel told e is = one_more kernel told e true is

pub none_more : (kernel : ℕ) (told : List Event) (e : Event) → is_of_wire e ≡ false → wire_told kernel (told ++ e ∷ []) ≡ wire_told kernel told
none_more kernel told e is = one_more kernel told e false is ∙ append-nil (wire_told kernel told)

-- faults are nothing of it
pub fault_apart : (kernel from to : ℕ) (fate : Fate) (told : List Event) → wire_told kernel (faulted from to fate told) ≡ wire_told kernel told
fault_apart kernel from to Once told = refl
fault_apart kernel from to Lost told = none_more kernel told (events.Fault from to Lost) refl
fault_apart kernel from to Twice told = none_more kernel told (events.Fault from to Twice) refl
fault_apart kernel from to Late told = none_more kernel told (events.Fault from to Late) refl

pub faults_apart : (kernel : ℕ) (sent : List (ℕ × Fate)) (told : List Event) → wire_told kernel (faulted_all kernel sent told) ≡ wire_told kernel told
faults_apart kernel [] told = refl
faults_apart kernel (packet ∷ sent) told = faults_apart kernel sent (faulted kernel packet.0 packet.1 told) ∙ fault_apart kernel kernel packet.0 packet.1 told

-- nor is what a kernel alone tells, nor a sending
own_apart : (e : Event) → is_own e ≡ true → is_of_wire e ≡ false
own_apart (events.Deliver tx from reply about) own = absurd (cc)
own_apart (events.Expire tx last) own = absurd (cc)
own_apart e own = refl

sent_apart : (e : Event) (packet : Sent) → is_of e packet ≡ true → is_of_wire e ≡ false
sent_apart (events.Deliver tx from reply about) packet is = absurd (cc)
sent_apart (events.Expire tx last) packet is = absurd (cc)
sent_apart e packet is = refl

own_none : (kernel : ℕ) (e : Event) (own : Bool) → is_own e ≡ own → (told : List Event) → wire_told kernel (cond own (told ++ e ∷ []) told) ≡ wire_told kernel told
own_none kernel e true is told = none_more kernel told e (own_apart e is)
own_none kernel e false is told = refl

-- all that a kernel did
pub noted_apart : (kernel : ℕ) (events : List Event) (sent : List Sent) (told : List Event) → wire_told kernel (noted_all kernel events sent told) ≡ wire_told kernel told
noted_apart kernel [] sent told = refl
noted_apart kernel (e ∷ events) [] told = noted_apart kernel events [] (noted_one kernel e None told) ∙ own_none kernel e (is_own e) refl told
noted_apart kernel (e ∷ events) (packet ∷ sent) told = by_first (is_of e packet) refl (λ told. noted_apart kernel events sent told) (λ told. noted_apart kernel events (packet ∷ sent) told)
  where
    by_first : (of : Bool) → is_of e packet ≡ of → ((told : List Event) → wire_told kernel (noted_all kernel events sent told) ≡ wire_told kernel told) → ((told : List Event) → wire_told kernel (noted_all kernel events (packet ∷ sent) told) ≡ wire_told kernel told) → wire_told kernel (noted_all kernel events (cond of sent (packet ∷ sent)) (noted_one kernel e (cond of (Some packet) None) told)) ≡ wire_told kernel told
    by_first true is taken left = taken (faulted kernel packet.to packet.fate (told ++ e ∷ [])) ∙ fault_apart kernel kernel packet.to packet.fate (told ++ e ∷ []) ∙ none_more kernel told e (sent_apart e packet is)
    by_first false is taken left = left (noted_one kernel e None told) ∙ own_none kernel e (is_own e) refl told

-- what a kernel takes
pub told_stays : (kernel : ℕ) (input : Input) (next : TxNo) (s : State) → (stepped kernel input next s).0.told ≡ s.told
told_stays kernel input next s = by_found (kernel_at kernel s)
  where
    by_found : (o : Option KernelState) → (stepped_by kernel o input next s).0.told ≡ s.told
    by_found None = refl
    by_found (Some found) = refl

pub taken_apart : (kernel : ℕ) (input : Input) (said : Said) (s : State) → wire_told kernel (took kernel input said s).told ≡ wire_told kernel s.told
taken_apart kernel input said s =
    faults_apart kernel said.answered (noted_all kernel (stepped kernel input said.next s).1.events said.sent (stepped kernel input said.next s).0.told)
    ∙ noted_apart kernel (stepped kernel input said.next s).1.events said.sent (stepped kernel input said.next s).0.told
    ∙ ap (wire_told kernel) (told_stays kernel input said.next s)

-- acts of one run and then of another
pub told_join : (xs ys : List (Act × Counts)) (machine : Machine) → told_of told_by machine (xs ++ ys) ≡ told_of told_by machine xs ++ told_of told_by (reached machine xs) ys
told_join [] ys machine = refl
told_join (x ∷ xs) ys machine = ap (λ rest. told_by machine x.0 ++ rest) (told_join xs ys (after machine x.0)) ∙ sym (append_assoc (told_by machine x.0) (told_of told_by (after machine x.0) xs) (told_of told_by (reached (after machine x.0) xs) ys))

-- acts for the things of a list, of none of which anything is told
pub each_none : {A P : Type 0} (plan : Machine → A → Option P) (is : Machine → P → Act → Type 0) → ((machine : Machine) (p : P) (act : Act) → is machine p act → told_by machine act ≡ []) → (xs : List A) (machine : Machine) (steps : List (Act × Counts)) → EachDone plan is xs machine steps → told_of told_by machine steps ≡ []
each_none plan is none [] machine steps done = ap (told_of told_by machine) done
each_none plan is none (x ∷ xs) machine [] done = refl
each_none plan is none (x ∷ xs) machine (step ∷ steps) done = ap₂ (λ (xs ys : List Rec). xs ++ ys) (none machine done.0.way step.0 done.0.done) (each_none plan is none xs (after machine step.0) steps done.1)
