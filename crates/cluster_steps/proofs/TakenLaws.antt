-- What a kernel takes tells of no more faults than the link counts.
use Rattle.std.proofs.Common.{arith, ◌≡◌, ℕ, true, false, List, [], ◌++◌, Option, Some, None, Result, Ok, Err, IfOk, refl, sym, ap, subst, ◌∙◌}
use Rattle.sprite_ids.specs.declared.TxNo.{TxNo}
use Rattle.link_plan.specs.declared.Fate.{Fate}
use Rattle.kernel_steps.specs.declared.Input.{Input}
use Rattle.cluster_kernels.specs.declared.KernelState.{KernelState}
use Rattle.cluster_wire.specs.declared.Said.{Said}
use Rattle.cluster_kernels.specs.declared.State.{State}
use Rattle.unix_calls.specs.declared.Event.{Event}
use Rattle.cluster_kernels.specs.States.{can_take_at, kernel_at, noted_step, stepped, stepped_by}
use Rattle.cluster_wire.specs.Noted.{faulted_all, noted_all, untold, without_faults}
use Rattle.cluster_wire.specs.Faults.{FaultsTold, faults_told, is_fault_between}
use Rattle.cluster_wire.proofs.FaultLaws.{other_more, told_all, told_faults}
use Rattle.cluster_wire.proofs.NotedLaws.{packet_faults}
use Rattle.cluster_wire.specs.Links.{AskedFor}
use Rattle.cluster_wire.specs.Goings.{AllGo, next_of}
use Rattle.cluster_wire.specs.Ran.{RanOn}
use Rattle.cluster_wire.proofs.RanLaws.{on_join}
use Rattle.kernel_rpc.specs.Sound.{Wired}
use Rattle.kernel_steps.specs.declared.Out.{Out}
use Rattle.unix_calls.specs.declared.Description.{Description}
use Rattle.sprite_ids.specs.declared.NoMemory.{NoMemory}
use Rattle.cluster_steps.specs.Receivers.{all_fit}
use Rattle.cluster_steps.specs.Steps.{GoesOut, TakesSo, took}

-- a step of a kernel tells nothing by itself
told_stays : (kernel : ℕ) (input : Input) (next : TxNo) (s : State) → (stepped kernel input next s).0.told ≡ s.told
told_stays kernel input next s = by_found (kernel_at kernel s)
  where
    by_found : (o : Option KernelState) → (stepped_by kernel o input next s).0.told ≡ s.told
    by_found None = refl
    by_found (Some found) = refl

-- and leaves the bursts that are out
out_stays : (kernel : ℕ) (input : Input) (next : TxNo) (s : State) → (stepped kernel input next s).0.out ≡ s.out
out_stays kernel input next s = by_found (kernel_at kernel s)
  where
    by_found : (o : Option KernelState) → (stepped_by kernel o input next s).0.out ≡ s.out
    by_found None = refl
    by_found (Some found) = refl

-- so does what a kernel takes
pub out_taken : (kernel : ℕ) (input : Input) (said : Said) (s : State) → (took kernel input said s).out ≡ s.out
out_taken kernel input said s = out_stays kernel input said.next s

-- what a kernel takes
pub told_taken : {L : Type 0} (faults asked : L → ℕ → ℕ → ℕ) (kernel : ℕ) (input : Input) (said : Said) (before after : L) (s : State) → AskedFor faults asked kernel before after said → FaultsTold faults before after s.told (took kernel input said s).told
told_taken faults asked kernel input said before after s asks a b =
    let made = stepped kernel input said.next s in
    let all = noted_all kernel made.1.events said.sent made.0.told in
    let same = ap (faults_told a b) (told_stays kernel input said.next s) in
    let requests = told_all faults asked kernel made.1.events said.sent before asks.between made.0.told asks.requests a b in
    let answers = told_faults faults asked kernel said.answered asks.between after all asks.answers a b in
    omega arith

-- after something else is told
pub told_behind : {L : Type 0} (faults : L → ℕ → ℕ → ℕ) (kernel : ℕ) (e : Event) (before after : L) (s t : State) → ((a b : ℕ) → is_fault_between a b e ≡ false) → FaultsTold faults before after (noted_step kernel e s).told t.told → FaultsTold faults before after s.told t.told
told_behind faults kernel e before after s t none told a b = (let here = other_more a b s.told e (none a b) in let rest = told a b in omega arith)

pub nothing_told : {L : Type 0} (faults : L → ℕ → ℕ → ℕ) (before after : L) (s t : State) → after ≡ before → t ≡ s → FaultsTold faults before after s.told t.told
nothing_told faults before after s t same is a b = (let f = ap (λ link. faults link a b) same in let g = ap (λ (s : State). faults_told a b s.told) is in omega arith)

pub told_by : {L : Type 0} (faults : L → ℕ → ℕ → ℕ) (before after : L) (old : List Event) (s t : State) → t ≡ s → FaultsTold faults before after old s.told → FaultsTold faults before after old t.told
told_by faults before after old s t is told = subst (λ (t : State). FaultsTold faults before after old t.told) (sym is) told

-- what a step said is what its kernel's machine says with that number
pub said_after : {L : Type 0} (faults asked : L → ℕ → ℕ → ℕ) (c : Description) (kernel : ℕ) (input : Input) (next : TxNo) (s between : State) (out : Out) (old new : Wired L) (r : Result Said NoMemory) → stepped kernel input next s ≡ (between, out) → IfOk r (λ said. said.next ≡ next) → IfOk r (GoesOut faults asked c kernel out old new) → IfOk r (λ said. GoesOut faults asked c kernel (stepped kernel input said.next s).1 old new said)
said_after faults asked c kernel input next s between out old new (Ok said) made number says =
    subst (λ (n : TxNo). GoesOut faults asked c kernel (stepped kernel input n s).1 old new said) (sym number) (subst (λ (out : Out). GoesOut faults asked c kernel out old new said) (sym (ap (λ (made : State × Out). made.1) made)) says)
said_after faults asked c kernel input next s between out old new (Err e) made number says = tt

-- and each packet of it is told
pub whole_after : (kernel : ℕ) (input : Input) (next : TxNo) (s between : State) (out : Out) (r : Result Said NoMemory) → stepped kernel input next s ≡ (between, out) → IfOk r (λ said. said.next ≡ next) → IfOk r (λ said. untold out.events said.sent ≡ []) → IfOk r (λ said. untold (stepped kernel input said.next s).1.events said.sent ≡ [])
whole_after kernel input next s between out (Ok said) made number whole =
    subst (λ (n : TxNo). untold (stepped kernel input n s).1.events said.sent ≡ []) (sym number) (subst (λ (out : Out). untold out.events said.sent ≡ []) (sym (ap (λ (made : State × Out). made.1) made)) whole)
whole_after kernel input next s between out (Err e) made number whole = tt

-- all its requests go to kernels that take such
pub fit_after : (c : Description) (kernel : ℕ) (input : Input) (next : TxNo) (s between : State) (out : Out) (r : Result Said NoMemory) → stepped kernel input next s ≡ (between, out) → IfOk r (λ said. said.next ≡ next) → IfOk r (λ said. all_fit c out.sends ≡ true) → IfOk r (λ said. all_fit c (stepped kernel input said.next s).1.sends ≡ true)
fit_after c kernel input next s between out (Ok said) made number fit =
    subst (λ (n : TxNo). all_fit c (stepped kernel input n s).1.sends ≡ true) (sym number) (subst (λ (out : Out). all_fit c out.sends ≡ true) (sym (ap (λ (made : State × Out). made.1) made)) fit)
fit_after c kernel input next s between out (Err e) made number fit = tt

-- all of them go out
pub go_after : (c : Description) (kernel : ℕ) (input : Input) (next : TxNo) (s between : State) (out : Out) (r : Result Said NoMemory) → stepped kernel input next s ≡ (between, out) → IfOk r (λ said. said.next ≡ next) → IfOk r (λ said. AllGo c kernel out.sends) → IfOk r (λ said. AllGo c kernel (stepped kernel input said.next s).1.sends)
go_after c kernel input next s between out (Ok said) made number go =
    subst (λ (n : TxNo). AllGo c kernel (stepped kernel input n s).1.sends) (sym number) (subst (λ (out : Out). AllGo c kernel out.sends) (sym (ap (λ (made : State × Out). made.1) made)) go)
go_after c kernel input next s between out (Err e) made number go = tt

-- with the faults of its answers all that it did is told
pub all_told : (kernel : ℕ) (answered : List (ℕ × Fate)) (events old between new : List Event) → without_faults between ≡ without_faults old ++ events → new ≡ faulted_all kernel answered between → without_faults new ≡ without_faults old ++ events
all_told kernel answered events old between new told faults = ap without_faults faults ∙ packet_faults kernel answered between ∙ told

-- so is all that its kernel's machine does with that number
pub all_after : (kernel : ℕ) (input : Input) (next : TxNo) (s between t : State) (out : Out) (r : Result Said NoMemory) → stepped kernel input next s ≡ (between, out) → IfOk r (λ said. said.next ≡ next) → IfOk r (λ said. without_faults t.told ≡ without_faults between.told ++ out.events) → IfOk r (λ said. without_faults t.told ≡ without_faults s.told ++ (stepped kernel input said.next s).1.events)
all_after kernel input next s between t out (Ok said) made number told =
    subst (λ (n : TxNo). without_faults t.told ≡ without_faults s.told ++ (stepped kernel input n s).1.events) (sym number)
    (told ∙ ap (λ (made : State × Out). without_faults made.0.told ++ made.1.events) (sym made) ∙ ap (λ (old : List Event). without_faults old ++ (stepped kernel input next s).1.events) (told_stays kernel input next s))
all_after kernel input next s between t out (Err e) made number told = tt

-- the parts of what a kernel takes
pub takes_so : {L : Type 0} (faults asked : L → ℕ → ℕ → ℕ) (c : Description) (kernel : ℕ) (input : Input) (old new : Wired L) (s t : State) (r : Result Said NoMemory) → IfOk r (λ said. can_take_at kernel input s ≡ true) → IfOk r (λ said. t ≡ took kernel input said s) → IfOk r (λ said. said.next ≡ next_of old.machine) → IfOk r (λ said. GoesOut faults asked c kernel (stepped kernel input said.next s).1 old new said) → IfOk r (λ said. all_fit c (stepped kernel input said.next s).1.sends ≡ true) → IfOk r (λ said. AllGo c kernel (stepped kernel input said.next s).1.sends) → IfOk r (λ said. untold (stepped kernel input said.next s).1.events said.sent ≡ []) → IfOk r (λ said. without_faults t.told ≡ without_faults s.told ++ (stepped kernel input said.next s).1.events) → IfOk r (AskedFor faults asked kernel old.link new.link) → IfOk r (λ said. TakesSo faults asked c kernel input said old new s t)
takes_so faults asked c kernel input old new s t (Ok said) taken state next says fit go whole all asks = record { taken = taken; next = next; state = state; goes_out = says; fit = fit; go = go; whole = whole; all = all; asks = asks }
takes_so faults asked c kernel input old new s t (Err e) taken state next says fit go whole all asks = tt

-- the wire went on by steps of its runs
pub takes_ran : {L : Type 0} (faults asked : L → ℕ → ℕ → ℕ) (c : Description) (kernel : ℕ) (input : Input) (said : Said) (old new : Wired L) (s t : State) → TakesSo faults asked c kernel input said old new s t → RanOn faults asked old new
takes_ran faults asked c kernel input said old new s t takes = on_join faults asked old takes.goes_out.between new (record { steps = takes.goes_out.requests.steps; ran = takes.goes_out.requests.ran }) (record { steps = takes.goes_out.answers.steps; ran = takes.goes_out.answers.ran })
