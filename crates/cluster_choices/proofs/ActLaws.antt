-- What happens at a choice of a kernel: what its parts come to, that it tells of no more faults than the link counts and leaves the bursts
-- that are out, and that the wire goes on by steps of its runs.
use Rattle.std.proofs.Common.{arith, ◌≡◌, ◌≤◌, ℕ, ◌+◌, Bool, true, false, ◌&&◌, List, Option, Some, None, Result, Ok, Err, OnOk, refl, ap, sym, subst, ◌∙◌}
use Rattle.sprite_ids.specs.declared.CopyNo.{CopyNo}
use Rattle.sprite_ids.specs.declared.NoMemory.{NoMemory}
use Rattle.sprite_ids.specs.declared.TxNo.{TxNo}
use Rattle.link_plan.specs.declared.Fate.{Fate}
use Rattle.kernel_rpc.specs.Machine.{may_be_silent}
use Rattle.kernel_rpc.specs.Runs.{Act, Counts, Deliver, Expire, Silence}
use Rattle.kernel_rpc.specs.Sound.{Wired}
use Rattle.kernel_rpc.specs.Steps.{sent_in}
use Rattle.kernel_rpc.specs.declared.Expired.{Expired}
use Rattle.kernel_rpc.specs.declared.Expired.TheVariants as expired
use Rattle.kernel_rpc.specs.declared.PacketCopy.{PacketCopy}
use Rattle.kernel_steps.specs.declared.Input.{Input}
use Rattle.kernel_steps.specs.declared.Input.TheVariants as inputs
use Rattle.unix_calls.specs.declared.Description.{Description}
use Rattle.unix_calls.specs.declared.Event.{Event}
use Rattle.unix_calls.specs.declared.Event.TheVariants as events
use Rattle.cluster_wire.specs.declared.Arrived.{Arrived}
use Rattle.cluster_wire.specs.declared.Arrived.TheVariants as arrived
use Rattle.cluster_wire.specs.Arriving.{Arrives, SilentIf, asks_prefix, copy_to, given_in}
use Rattle.cluster_wire.specs.Faults.{FaultsTold}
use Rattle.cluster_wire.specs.Firing.{Fires, may_fire}
use Rattle.cluster_wire.specs.Noted.{faulted}
use Rattle.cluster_wire.specs.Ran.{RanOn}
use Rattle.cluster_wire.proofs.FaultLaws.{told_fault, told_faults}
use Rattle.cluster_wire.proofs.RanLaws.{on_join, on_none, on_one}
use Rattle.cluster_kernels.specs.declared.State.{State}
use Rattle.cluster_kernels.specs.States.{noted_step}
use Rattle.cluster_steps.proofs.TakenLaws.{nothing_told, out_taken, takes_ran, told_behind, told_by, told_taken}
use Rattle.cluster_choices.specs.declared.choice.Choice.{Choice}
use Rattle.cluster_choices.specs.declared.choice.Choice.TheVariants as choices
use Rattle.cluster_choices.specs.Acts.{Comes, ComesSo, Expires, FiredAs, FiresSo, Given, Happens, Takes, TakesMessage, delivery, resent}

-- a copy comes and brings a message
pub message_comes : {L : Type 0} (faults asked : L → ℕ → ℕ → ℕ) (c : Description) (kernel : ℕ) (number : CopyNo) (copy : PacketCopy) (input : Input) (old between new : Wired L) (s t : State) (r : Result (Unit {0}) NoMemory) → Arrives faults asked number copy (arrived.Message input) old between → OnOk r (TakesMessage faults asked c kernel copy.tx input between new s t) → OnOk r (ComesSo faults asked c kernel number copy old new s t)
message_comes faults asked c kernel number copy input old between new s t (Ok x) arrives taken = record { came = arrived.Message input; between = between; arrives = arrives; given = taken }
message_comes faults asked c kernel number copy input old between new s t (Err e) arrives taken = tt

-- the reply goes out again
pub again_comes : {L : Type 0} (faults asked : L → ℕ → ℕ → ℕ) (c : Description) (kernel : ℕ) (number : CopyNo) (copy : PacketCopy) (from to : ℕ) (what : Fate) (old new : Wired L) (s t : State) (r : Result (Unit {0}) NoMemory) → Arrives faults asked number copy (arrived.Again from to what) old new → OnOk r (t ≡ record s { told = faulted from to what s.told }) → OnOk r (ComesSo faults asked c kernel number copy old new s t)
again_comes faults asked c kernel number copy from to what old new s t (Ok x) arrives is = record { came = arrived.Again from to what; between = new; arrives = arrives; given = (refl, is) }
again_comes faults asked c kernel number copy from to what old new s t (Err e) arrives is = tt

-- a copy that its call is past
pub old_comes : {L : Type 0} (faults asked : L → ℕ → ℕ → ℕ) (c : Description) (kernel : ℕ) (number : CopyNo) (copy : PacketCopy) (old new : Wired L) (s t : State) → Arrives faults asked number copy arrived.Old old new → t ≡ s → ComesSo faults asked c kernel number copy old new s t
old_comes faults asked c kernel number copy old new s t arrives same = record { came = arrived.Old; between = new; arrives = arrives; given = (refl, same) }

-- a timer fires for the last time, and another one
pub last_fires : {L : Type 0} (faults asked : L → ℕ → ℕ → ℕ) (c : Description) (kernel : ℕ) (tx : TxNo) (before now : ℕ) (old between new : Wired L) (s t : State) (r : Result (Unit {0}) NoMemory) → Fires faults asked kernel tx (expired.GivenUp before now) old between → OnOk r (Takes faults asked c kernel (inputs.GaveUp tx) between new (noted_step kernel (events.Expire tx true) s) t) → OnOk r (FiresSo faults asked c kernel tx old new s t)
last_fires faults asked c kernel tx before now old between new s t (Ok x) fires takes = record { what = expired.GivenUp before now; between = between; fires = fires; then_so = takes }
last_fires faults asked c kernel tx before now old between new s t (Err e) fires takes = tt

pub other_fires : {L : Type 0} (faults asked : L → ℕ → ℕ → ℕ) (c : Description) (kernel : ℕ) (tx : TxNo) (fates : List (ℕ × Fate)) (old new : Wired L) (s t : State) (r : Result (Unit {0}) NoMemory) → Fires faults asked kernel tx (expired.Resent fates) old new → OnOk r (t ≡ resent kernel fates (noted_step kernel (events.Expire tx false) s)) → OnOk r (FiresSo faults asked c kernel tx old new s t)
other_fires faults asked c kernel tx fates old new s t (Ok x) fires is = record { what = expired.Resent fates; between = new; fires = fires; then_so = (refl, is) }
other_fires faults asked c kernel tx fates old new s t (Err e) fires is = tt

-- a server that goes silent leaves the link's counts
silent_counts : {L : Type 0} (faults asked : L → ℕ → ℕ → ℕ) (b : Bool) (tx : TxNo) (kernel : ℕ) (old new : Wired L) → SilentIf faults asked b tx kernel old new → (x y : ℕ) → faults new.link x y ≡ faults old.link x y
silent_counts faults asked true tx kernel old new silent x y = ap (λ (counts : Counts). counts.faults x y) (sym silent.0.1)
silent_counts {L} faults asked false tx kernel old new silent x y = ap (λ (wire : Wired L). faults wire.link x y) silent

-- what a kernel takes tells of no more faults
told_takes : {L : Type 0} (faults asked : L → ℕ → ℕ → ℕ) (c : Description) (kernel : ℕ) (input : Input) (old new : Wired L) (s t : State) → Takes faults asked c kernel input old new s t → FaultsTold faults old.link new.link s.told t.told
told_takes faults asked c kernel input old new s t takes = told_by faults old.link new.link s.told _ t takes.takes.state (told_taken faults asked kernel input takes.said old.link new.link s takes.takes.asks)

told_message : {L : Type 0} (faults asked : L → ℕ → ℕ → ℕ) (c : Description) (kernel : ℕ) (tx : TxNo) (input : Input) (old new : Wired L) (s t : State) → TakesMessage faults asked c kernel tx input old new s t → FaultsTold faults old.link new.link s.told t.told
told_message faults asked c kernel tx input old new s t taken a b =
    (let told = told_by faults old.link taken.between.link s.told _ t taken.takes.state (told_taken faults asked kernel input taken.said old.link taken.between.link s taken.takes.asks) a b in
    let same = silent_counts faults asked (asks_prefix input && may_be_silent taken.between.machine tx kernel) tx kernel taken.between new taken.silent a b in omega arith)

same_link : {L : Type 0} (old new : Wired L) → new ≡ old → new.link ≡ old.link
same_link {L} old new same = ap (λ (wire : Wired L). wire.link) same

-- what a copy brings
told_given : {L : Type 0} (faults asked : L → ℕ → ℕ → ℕ) (c : Description) (kernel : ℕ) (number : CopyNo) (copy : PacketCopy) (came : Arrived) (old between new : Wired L) (s t : State) → Arrives faults asked number copy came old between → Given faults asked c kernel copy.tx came between new s t → FaultsTold faults old.link new.link s.told t.told
told_given faults asked c kernel number copy (arrived.Message input) old between new s t arrives given a b =
    (let told = told_message faults asked c kernel copy.tx input between new s t given a b in
    let same = ap (λ link. faults link a b) arrives.asks in omega arith)
told_given faults asked c kernel number copy (arrived.Again from to what) old between new s t arrives given a b =
    (let told = told_by faults old.link between.link s.told (record s { told = faulted from to what s.told }) t given.1 (told_fault faults asked from to what old.link between.link s.told arrives.asks) a b in
    let same = ap (λ link. faults link a b) (same_link between new given.0) in omega arith)
told_given faults asked c kernel number copy arrived.Old old between new s t arrives given a b = nothing_told faults old.link new.link s t (same_link between new given.0 ∙ arrives.asks) given.1 a b

told_comes : {L : Type 0} (faults asked : L → ℕ → ℕ → ℕ) (c : Description) (kernel : ℕ) (number : CopyNo) (o : Option PacketCopy) (old new : Wired L) (s t : State) → Comes faults asked c kernel number o old new s t → FaultsTold faults old.link new.link s.told t.told
told_comes faults asked c kernel number None old new s t comes = nothing_told faults old.link new.link s t (same_link old new comes.0) comes.1
told_comes faults asked c kernel number (Some copy) old new s t comes =
    told_behind faults kernel (delivery copy) old.link new.link s t (λ a b. refl)
    (told_given faults asked c kernel number copy comes.came old comes.between new (noted_step kernel (delivery copy) s) t comes.arrives comes.given)

-- a timer that fires
told_fired : {L : Type 0} (faults asked : L → ℕ → ℕ → ℕ) (c : Description) (kernel : ℕ) (tx : TxNo) (what : Expired) (old between new : Wired L) (s t : State) → Fires faults asked kernel tx what old between → FiredAs faults asked c kernel tx what between new s t → FaultsTold faults old.link new.link s.told t.told
told_fired faults asked c kernel tx (expired.Resent fates) old between new s t fires then_so a b =
    (let told = told_behind faults kernel (events.Expire tx false) old.link between.link s t (λ a b. refl)
    (told_by faults old.link between.link (noted_step kernel (events.Expire tx false) s).told _ t then_so.1 (told_faults faults asked kernel fates old.link between.link (noted_step kernel (events.Expire tx false) s).told fires.asks)) a b in
    let same = ap (λ link. faults link a b) (same_link between new then_so.0) in omega arith)
told_fired faults asked c kernel tx (expired.GivenUp before now) old between new s t fires then_so a b =
    (let told = told_behind faults kernel (events.Expire tx true) between.link new.link s t (λ a b. refl)
    (told_takes faults asked c kernel (inputs.GaveUp tx) between new (noted_step kernel (events.Expire tx true) s) t then_so) a b in
    let same = ap (λ link. faults link a b) fires.asks in omega arith)

told_expires : {L : Type 0} (faults asked : L → ℕ → ℕ → ℕ) (c : Description) (kernel : ℕ) (tx : TxNo) (may : Bool) (old new : Wired L) (s t : State) → Expires faults asked c kernel tx may old new s t → FaultsTold faults old.link new.link s.told t.told
told_expires faults asked c kernel tx false old new s t expires = nothing_told faults old.link new.link s t (same_link old new expires.0) expires.1
told_expires faults asked c kernel tx true old new s t expires = told_fired faults asked c kernel tx expires.what old expires.between new s t expires.fires expires.then_so

-- whatever happens at a kernel
pub told_happening : {L : Type 0} (faults asked : L → ℕ → ℕ → ℕ) (c : Description) (kernel : ℕ) (choice : Choice) (old new : Wired L) (s t : State) → Happens faults asked c kernel choice old new s t → FaultsTold faults old.link new.link s.told t.told
told_happening faults asked c kernel (choices.Deliver number) old new s t happens = told_comes faults asked c kernel number (copy_to kernel old.machine number) old new s t happens
told_happening faults asked c kernel (choices.Expire tx) old new s t happens = told_expires faults asked c kernel tx (may_fire kernel old.machine tx) old new s t happens
told_happening faults asked c kernel (choices.WriteBack file block) old new s t happens = told_takes faults asked c kernel (inputs.Due file block) old new s t happens

-- the bursts that are out stay so
out_takes : {L : Type 0} (faults asked : L → ℕ → ℕ → ℕ) (c : Description) (kernel : ℕ) (input : Input) (old new : Wired L) (s t : State) → Takes faults asked c kernel input old new s t → t.out ≡ s.out
out_takes faults asked c kernel input old new s t takes = ap (λ (t : State). t.out) takes.takes.state ∙ out_taken kernel input takes.said s

out_given : {L : Type 0} (faults asked : L → ℕ → ℕ → ℕ) (c : Description) (kernel : ℕ) (tx : TxNo) (came : Arrived) (old new : Wired L) (s t : State) → Given faults asked c kernel tx came old new s t → t.out ≡ s.out
out_given faults asked c kernel tx (arrived.Message input) old new s t given = ap (λ (t : State). t.out) given.takes.state ∙ out_taken kernel input given.said s
out_given faults asked c kernel tx (arrived.Again from to what) old new s t given = ap (λ (t : State). t.out) given.1
out_given faults asked c kernel tx arrived.Old old new s t given = ap (λ (t : State). t.out) given.1

out_comes : {L : Type 0} (faults asked : L → ℕ → ℕ → ℕ) (c : Description) (kernel : ℕ) (number : CopyNo) (o : Option PacketCopy) (old new : Wired L) (s t : State) → Comes faults asked c kernel number o old new s t → t.out ≡ s.out
out_comes faults asked c kernel number None old new s t comes = ap (λ (t : State). t.out) comes.1
out_comes faults asked c kernel number (Some copy) old new s t comes = out_given faults asked c kernel copy.tx comes.came comes.between new (noted_step kernel (delivery copy) s) t comes.given

out_fired : {L : Type 0} (faults asked : L → ℕ → ℕ → ℕ) (c : Description) (kernel : ℕ) (tx : TxNo) (what : Expired) (old new : Wired L) (s t : State) → FiredAs faults asked c kernel tx what old new s t → t.out ≡ s.out
out_fired faults asked c kernel tx (expired.Resent fates) old new s t fired = ap (λ (t : State). t.out) fired.1
out_fired faults asked c kernel tx (expired.GivenUp before now) old new s t fired = out_takes faults asked c kernel (inputs.GaveUp tx) old new (noted_step kernel (events.Expire tx true) s) t fired

out_expires : {L : Type 0} (faults asked : L → ℕ → ℕ → ℕ) (c : Description) (kernel : ℕ) (tx : TxNo) (may : Bool) (old new : Wired L) (s t : State) → Expires faults asked c kernel tx may old new s t → t.out ≡ s.out
out_expires faults asked c kernel tx false old new s t expires = ap (λ (t : State). t.out) expires.1
out_expires faults asked c kernel tx true old new s t expires = out_fired faults asked c kernel tx expires.what expires.between new s t expires.then_so

pub out_happening : {L : Type 0} (faults asked : L → ℕ → ℕ → ℕ) (c : Description) (kernel : ℕ) (choice : Choice) (old new : Wired L) (s t : State) → Happens faults asked c kernel choice old new s t → t.out ≡ s.out
out_happening faults asked c kernel (choices.Deliver number) old new s t happens = out_comes faults asked c kernel number (copy_to kernel old.machine number) old new s t happens
out_happening faults asked c kernel (choices.Expire tx) old new s t happens = out_expires faults asked c kernel tx (may_fire kernel old.machine tx) old new s t happens
out_happening faults asked c kernel (choices.WriteBack file block) old new s t happens = out_takes faults asked c kernel (inputs.Due file block) old new s t happens

-- the wire goes on by steps of its runs
silent_ran : {L : Type 0} (faults asked : L → ℕ → ℕ → ℕ) (b : Bool) (tx : TxNo) (kernel : ℕ) (old new : Wired L) → SilentIf faults asked b tx kernel old new → RanOn faults asked old new
silent_ran faults asked true tx kernel old new silent = on_one faults asked old new (Silence tx kernel) silent
silent_ran faults asked false tx kernel old new silent = on_none faults asked old new silent

given_ran : {L : Type 0} (faults asked : L → ℕ → ℕ → ℕ) (c : Description) (kernel : ℕ) (tx : TxNo) (came : Arrived) (old new : Wired L) (s t : State) → Given faults asked c kernel tx came old new s t → RanOn faults asked old new
given_ran faults asked c kernel tx (arrived.Message input) old new s t given = on_join faults asked old given.between new (takes_ran faults asked c kernel input given.said old given.between s t given.takes) (silent_ran faults asked (asks_prefix input && may_be_silent given.between.machine tx kernel) tx kernel given.between new given.silent)
given_ran faults asked c kernel tx (arrived.Again from to what) old new s t given = on_none faults asked old new given.0
given_ran faults asked c kernel tx arrived.Old old new s t given = on_none faults asked old new given.0

comes_ran : {L : Type 0} (faults asked : L → ℕ → ℕ → ℕ) (c : Description) (kernel : ℕ) (number : CopyNo) (o : Option PacketCopy) (old new : Wired L) (s t : State) → Comes faults asked c kernel number o old new s t → RanOn faults asked old new
comes_ran faults asked c kernel number None old new s t comes = on_none faults asked old new comes.0
comes_ran faults asked c kernel number (Some copy) old new s t comes = on_join faults asked old comes.between new (on_one faults asked old comes.between (Deliver number (given_in comes.came)) comes.arrives.step) (given_ran faults asked c kernel copy.tx comes.came comes.between new (noted_step kernel (delivery copy) s) t comes.given)

fired_ran : {L : Type 0} (faults asked : L → ℕ → ℕ → ℕ) (c : Description) (kernel : ℕ) (tx : TxNo) (what : Expired) (old new : Wired L) (s t : State) → FiredAs faults asked c kernel tx what old new s t → RanOn faults asked old new
fired_ran faults asked c kernel tx (expired.Resent fates) old new s t fired = on_none faults asked old new fired.0
fired_ran faults asked c kernel tx (expired.GivenUp before now) old new s t fired = takes_ran faults asked c kernel (inputs.GaveUp tx) fired.said old new (noted_step kernel (events.Expire tx true) s) t fired.takes

expires_ran : {L : Type 0} (faults asked : L → ℕ → ℕ → ℕ) (c : Description) (kernel : ℕ) (tx : TxNo) (may : Bool) (old new : Wired L) (s t : State) → Expires faults asked c kernel tx may old new s t → RanOn faults asked old new
expires_ran faults asked c kernel tx false old new s t expires = on_none faults asked old new expires.0
expires_ran faults asked c kernel tx true old new s t expires = on_join faults asked old expires.between new (on_one faults asked old expires.between (Expire tx (sent_in expires.what)) expires.fires.step) (fired_ran faults asked c kernel tx expires.what expires.between new s t expires.then_so)

pub happens_ran : {L : Type 0} (faults asked : L → ℕ → ℕ → ℕ) (c : Description) (kernel : ℕ) (choice : Choice) (old new : Wired L) (s t : State) → Happens faults asked c kernel choice old new s t → RanOn faults asked old new
happens_ran faults asked c kernel (choices.Deliver number) old new s t happens = comes_ran faults asked c kernel number (copy_to kernel old.machine number) old new s t happens
happens_ran faults asked c kernel (choices.Expire tx) old new s t happens = expires_ran faults asked c kernel tx (may_fire kernel old.machine tx) old new s t happens
happens_ran faults asked c kernel (choices.WriteBack file block) old new s t happens = takes_ran faults asked c kernel (inputs.Due file block) happens.said old new s t happens.takes
