-- What a kernel tells of its sendings is at most what it sends.
use Rattle.std.proofs.Common.{arith, ◌≡◌, ℕ, ◌+◌, ◌≤◌, ◌==◌, Bool, true, false, cond, List, [], ◌∷◌, ◌++◌, map, Option, Some, None, refl, sym, ap, subst, ◌∙◌, count_by}
use Rattle.std.proofs.lemmas.Bool.{and_parts, eqb-true}
use Rattle.std.proofs.lemmas.List.Sums.{sum_by-append}
use Rattle.sprite_ids.specs.declared.TxNo.{TxNo}
use Rattle.link_plan.specs.Counts.{same_pair}
use Rattle.link_plan.specs.declared.Fate.{Fate}
use Rattle.link_plan.specs.declared.Fate.TheVariants.{Once, Lost, Twice, Late}
use Rattle.kernel_rpc.specs.Machine.{Machine}
use Rattle.kernel_rpc.specs.Runs.{Act, Counts, after, once_if}
use Rattle.unix_calls.specs.declared.Event.{Event}
use Rattle.unix_calls.specs.declared.Event.TheVariants as events
use Rattle.cluster_wire.specs.declared.telling.Sent.{Sent}
use Rattle.cluster_wire.specs.Calling.{IsBegin, sent_as, sent_by}
use Rattle.cluster_wire.specs.Faults.{packets}
use Rattle.cluster_wire.specs.Goings.{Going, next_of}
use Rattle.cluster_wire.specs.Noted.{faulted, faulted_all, is_of, is_own, noted_all, noted_one}
use Rattle.cluster_wire.specs.Ran.{EachDone, told_of}
use Rattle.cluster_wire_laws.specs.Asks.{all_sent_between, packets_between, sent_between, tells_sending}

-- how many sendings between the two a kernel told
abbrev pub sendings : ℕ → ℕ → ℕ → List Event → ℕ
sendings a b kernel told = count_by (tells_sending a b kernel) told

one_told : (a b kernel : ℕ) (told : List Event) (e : Event) → sendings a b kernel (told ++ e ∷ []) ≡ sendings a b kernel told + once_if (tells_sending a b kernel e)
one_told a b kernel told e = (let more = sum_by-append (λ (e : Event). cond {A = ℕ} (tells_sending a b kernel e) 1 0) told (e ∷ []) in let one = by_test (tells_sending a b kernel e) in omega arith)
  where
    by_test : (b : Bool) → cond {A = ℕ} b 1 0 ≡ once_if b
    by_test true = refl
    by_test false = refl

pub none_told : (a b kernel : ℕ) (told : List Event) (e : Event) → tells_sending a b kernel e ≡ false → sendings a b kernel (told ++ e ∷ []) ≡ sendings a b kernel told
none_told a b kernel told e none = (let more = one_told a b kernel told e in let no = ap once_if none in omega arith)

pub fault_unsent : (a b kernel from to : ℕ) (fate : Fate) (told : List Event) → sendings a b kernel (faulted from to fate told) ≡ sendings a b kernel told
fault_unsent a b kernel from to Once told = refl
fault_unsent a b kernel from to Lost told = none_told a b kernel told (events.Fault from to Lost) refl
fault_unsent a b kernel from to Twice told = none_told a b kernel told (events.Fault from to Twice) refl
fault_unsent a b kernel from to Late told = none_told a b kernel told (events.Fault from to Late) refl

pub faults_unsent : (a b kernel from : ℕ) (sent : List (ℕ × Fate)) (told : List Event) → sendings a b kernel (faulted_all from sent told) ≡ sendings a b kernel told
faults_unsent a b kernel from [] told = refl
faults_unsent a b kernel from (packet ∷ sent) told = faults_unsent a b kernel from sent (faulted from packet.0 packet.1 told) ∙ fault_unsent a b kernel from packet.0 packet.1 told

-- what a kernel alone tells is no sending, and a sending that is told is of its packet
own_unsent : (a b kernel : ℕ) (e : Event) → is_own e ≡ true → tells_sending a b kernel e ≡ false
own_unsent a b kernel (events.Send tx to about kind) own = absurd (cc)
own_unsent a b kernel e own = refl

at_most : (x : Bool) → once_if x ≤ 1
at_most true = omega arith
at_most false = omega arith

sent_is : (a b kernel : ℕ) (e : Event) (packet : Sent) → is_of e packet ≡ true → once_if (tells_sending a b kernel e) ≤ once_if (same_pair a b kernel packet.to)
sent_is a b kernel (events.Send tx to about kind) packet is =
    (let same : packet.to ≡ to = eqb-true packet.to to (and_parts (packet.tx.0 == tx.0) (packet.to == to) is).1 in
    let pair = ap (λ (to : ℕ). once_if (same_pair a b kernel to)) same in omega arith)
sent_is a b kernel e packet is = omega arith

own_told : (a b kernel : ℕ) (e : Event) (own : Bool) → is_own e ≡ own → (told : List Event) → sendings a b kernel (cond own (told ++ e ∷ []) told) ≡ sendings a b kernel told
own_told a b kernel e true is told = none_told a b kernel told e (own_unsent a b kernel e is)
own_told a b kernel e false is told = refl

-- all that a kernel did
pub noted_sends : (a b kernel : ℕ) (events : List Event) (sent : List Sent) (told : List Event) → sendings a b kernel (noted_all kernel events sent told) ≤ sendings a b kernel told + packets_between a b kernel (packets sent)
noted_sends a b kernel [] sent told = omega arith
noted_sends a b kernel (e ∷ events) [] told = (let here = own_told a b kernel e (is_own e) refl told in let rest = noted_sends a b kernel events [] (noted_one kernel e None told) in omega arith)
noted_sends a b kernel (e ∷ events) (packet ∷ sent) told = by_first (is_of e packet) refl (λ told. noted_sends a b kernel events sent told) (λ told. noted_sends a b kernel events (packet ∷ sent) told)
  where
    by_first : (of : Bool) → is_of e packet ≡ of → ((told : List Event) → sendings a b kernel (noted_all kernel events sent told) ≤ sendings a b kernel told + packets_between a b kernel (packets sent)) → ((told : List Event) → sendings a b kernel (noted_all kernel events (packet ∷ sent) told) ≤ sendings a b kernel told + packets_between a b kernel (packets (packet ∷ sent))) → sendings a b kernel (noted_all kernel events (cond of sent (packet ∷ sent)) (noted_one kernel e (cond of (Some packet) None) told)) ≤ sendings a b kernel told + packets_between a b kernel (packets (packet ∷ sent))
    by_first true is taken left =
        (let rest = taken (faulted kernel packet.to packet.fate (told ++ e ∷ [])) in
        let fault = fault_unsent a b kernel kernel packet.to packet.fate (told ++ e ∷ []) in
        let here = one_told a b kernel told e in
        let one = sent_is a b kernel e packet is in omega arith)
    by_first false is taken left = (let here = own_told a b kernel e (is_own e) refl told in let rest = left (noted_one kernel e None told) in omega arith)

-- the packets of the calls that begin
packets_join : (a b kernel : ℕ) (xs ys : List Sent) → packets_between a b kernel (packets (xs ++ ys)) ≡ packets_between a b kernel (packets xs) + packets_between a b kernel (packets ys)
packets_join a b kernel [] ys = omega arith
packets_join a b kernel (x ∷ xs) ys = (let rest = packets_join a b kernel xs ys in omega arith)

packets_as : (a b kernel : ℕ) (tx : TxNo) (fates : List (ℕ × Fate)) → packets_between a b kernel (packets (map (sent_as tx) fates)) ≡ packets_between a b kernel fates
packets_as a b kernel tx [] = refl
packets_as a b kernel tx (fate ∷ fates) = (let rest = packets_as a b kernel tx fates in omega arith)

begin_packets : (a b kernel : ℕ) (machine : Machine) (going : Going) (act : Act) → IsBegin kernel machine going act → packets_between a b kernel (packets (sent_by machine act)) ≡ sent_between a b act
begin_packets a b kernel machine going act is = subst (λ (act : Act). packets_between a b kernel (packets (sent_by machine act)) ≡ sent_between a b act) (sym is.is) (packets_as a b kernel (next_of machine) is.fates)

pub each_packets : {A : Type 0} (a b kernel : ℕ) (plan : Machine → A → Option Going) (xs : List A) (machine : Machine) (steps : List (Act × Counts)) → EachDone plan (IsBegin kernel) xs machine steps → packets_between a b kernel (packets (told_of sent_by machine steps)) ≡ all_sent_between a b steps
each_packets a b kernel plan [] machine steps done = subst (λ (steps : List (Act × Counts)). packets_between a b kernel (packets (told_of sent_by machine steps)) ≡ all_sent_between a b steps) (sym done) refl
each_packets a b kernel plan (x ∷ xs) machine [] done = refl
each_packets a b kernel plan (x ∷ xs) machine (step ∷ steps) done =
    (let all = packets_join a b kernel (sent_by machine step.0) (told_of sent_by (after machine step.0) steps) in
    let here = begin_packets a b kernel machine done.0.way step.0 done.0.done in
    let others = each_packets a b kernel plan xs (after machine step.0) steps done.1 in omega arith)

pub all_sent_join : (a b : ℕ) (xs ys : List (Act × Counts)) → all_sent_between a b (xs ++ ys) ≡ all_sent_between a b xs + all_sent_between a b ys
all_sent_join a b [] ys = omega arith
all_sent_join a b (x ∷ xs) ys = (let rest = all_sent_join a b xs ys in omega arith)
