-- Each record that a timer fired stands behind a loss.
use Rattle.std.proofs.Common.{◌≡◌, ℕ, Bool, true, false, cond, List, [], ◌∷◌, ◌++◌, Option, Some, None, refl, sym, ap, ap₂, subst, ◌∙◌}
use Rattle.sprite_ids.specs.declared.TxNo.{TxNo}
use Rattle.link_plan.specs.declared.Fate.{Fate}
use Rattle.kernel_rpc.specs.declared.Call.{Call}
use Rattle.kernel_rpc.specs.declared.PacketCopy.{PacketCopy}
use Rattle.kernel_rpc.specs.Histories.{EachLost, IsLostWhereDue, lost_since, reached}
use Rattle.kernel_rpc.specs.Machine.{Machine, call_of, copy_of, idle, is_last, may_expire}
use Rattle.kernel_rpc.specs.Runs.{Act, Begin, Deliver, Answer, Silence, Expire, Counts, IsRun, MayAct, after}
use Rattle.kernel_rpc.specs.Steps.{counts_in}
use Rattle.kernel_rpc.proofs.LossLaws.{lost_before_expiry}
use Rattle.unix_calls.specs.declared.Event.{Event}
use Rattle.unix_calls.specs.declared.Event.TheVariants as events
use Rattle.unix_calls.specs.declared.Rec.{Rec}
use Rattle.cluster_wire.specs.Ran.{last_counts, told_of}
use Rattle.cluster_wire_laws.specs.Links.{all_told_by, faults_told, fired_told, of_link}
use Rattle.cluster_wire_laws.specs.Orders.{copy_told, firing_told, is_of_wire, of_wire, told_by}
use Rattle.cluster_wire_laws.specs.Traces.{LossBeforeEachExpiry, lost_after}
use Rattle.cluster_wire_laws.proofs.LinkLaws.{all_join, link_on}
use Rattle.cluster_wire_laws.proofs.OrderLaws.{wire_on}
use Rattle.cluster_wire_laws.proofs.PlaceLaws.{run_wire, same_front, wire_in_link}

-- where a run tells of that record, behind those
record ToldAt (machine : Machine) (steps : List (Act × Counts)) (before : List Rec) (r : Rec) : Type 0 where
  done : List (Act × Counts)
  act : Act
  counts : Counts
  rest : List (Act × Counts)
  split : steps ≡ done ++ (act, counts) ∷ rest
  told : told_of told_by machine done ≡ before
  tells : told_by (reached machine done) act ≡ r ∷ []

abbrev first_or : Rec → List Rec → Rec
first_or r [] = r
first_or r (x ∷ xs) = x

abbrev behind : List Rec → List Rec
behind [] = []
behind (x ∷ xs) = xs

-- an act tells one record at most
data AtMostOne (xs : List Rec) : Type 0 where
  Nothing : xs ≡ [] → AtMostOne xs
  One : (x : Rec) → xs ≡ x ∷ [] → AtMostOne xs

copy_once : (o : Option PacketCopy) → AtMostOne (copy_told o)
copy_once None = Nothing refl
copy_once (Some copy) = One _ refl

firing_once : (tx : TxNo) (o : Option Call) → AtMostOne (firing_told tx o)
firing_once tx None = Nothing refl
firing_once tx (Some call) = One _ refl

act_once : (machine : Machine) (act : Act) → AtMostOne (told_by machine act)
act_once machine (Begin from port servers owner body tries about before sent) = Nothing refl
act_once machine (Deliver number given) = copy_once (copy_of machine number)
act_once machine (Answer tx body given) = Nothing refl
act_once machine (Silence tx at) = Nothing refl
act_once machine (Expire tx sent) = firing_once tx (call_of machine tx)

later_step : (machine : Machine) (step : Act × Counts) (steps : List (Act × Counts)) (first before : List Rec) (r : Rec) → told_by machine step.0 ≡ first → ToldAt (after machine step.0) steps before r → ToldAt machine (step ∷ steps) (first ++ before) r
later_step machine step steps first before r is at = record {
  done = step ∷ at.done;
  act = at.act;
  counts = at.counts;
  rest = at.rest;
  split = ap (λ (xs : List (Act × Counts)). step ∷ xs) at.split;
  told = ap₂ (λ (xs ys : List Rec). xs ++ ys) is at.told;
  tells = at.tells;
}

none_there : {X : Type 0} (before later : List Rec) (r : Rec) → [] ≡ before ++ r ∷ later → X
none_there [] later r is = absurd (cc)
none_there (x ∷ before) later r is = absurd (cc)

-- the step that tells it
one_step : (machine : Machine) (step : Act × Counts) (steps : List (Act × Counts)) (before later : List Rec) (r : Rec) → AtMostOne (told_by machine step.0) → ((before : List Rec) → told_of told_by (after machine step.0) steps ≡ before ++ r ∷ later → ToldAt (after machine step.0) steps before r) → told_by machine step.0 ++ told_of told_by (after machine step.0) steps ≡ before ++ r ∷ later → ToldAt machine (step ∷ steps) before r
one_step machine step steps before later r (Nothing none) again is = later_step machine step steps [] before r none (again before (ap (λ (xs : List Rec). xs ++ told_of told_by (after machine step.0) steps) (sym none) ∙ is))
one_step machine step steps [] later r (One x one) again is =
    (let all : x ∷ told_of told_by (after machine step.0) steps ≡ r ∷ later = ap (λ (xs : List Rec). xs ++ told_of told_by (after machine step.0) steps) (sym one) ∙ is in
    record { done = []; act = step.0; counts = step.1; rest = steps; split = refl; told = refl; tells = one ∙ ap (λ (y : Rec). y ∷ []) (ap (first_or r) all) })
one_step machine step steps (y ∷ before) later r (One x one) again is =
    (let all : x ∷ told_of told_by (after machine step.0) steps ≡ y ∷ before ++ r ∷ later = ap (λ (xs : List Rec). xs ++ told_of told_by (after machine step.0) steps) (sym one) ∙ is in
    later_step machine step steps (y ∷ []) before r (one ∙ ap (λ (z : Rec). z ∷ []) (ap (first_or y) all)) (again before (ap behind all)))

told_at : (steps : List (Act × Counts)) (machine : Machine) (before later : List Rec) (r : Rec) → told_of told_by machine steps ≡ before ++ r ∷ later → ToldAt machine steps before r
told_at [] machine before later r is = none_there before later r is
told_at (step ∷ steps) machine before later r is = one_step machine step steps before later r (act_once machine step.0) (λ before. told_at steps (after machine step.0) before later r) is

-- an act that tells that a timer fired is that
abbrev firing_in : Event → List TxNo
firing_in (events.Expire tx last) = tx ∷ []
firing_in event = []

abbrev firings : List Rec → List TxNo
firings [] = []
firings (r ∷ rs) = firing_in r.event

abbrev tx_or : TxNo → List TxNo → TxNo
tx_or tx [] = tx
tx_or tx (x ∷ xs) = x

record Fired (act : Act) (tx : TxNo) : Type 0 where
  sent : List (ℕ × Fate)
  is : act ≡ Expire tx sent

no_firing : (o : Option PacketCopy) → firings (copy_told o) ≡ []
no_firing None = refl
no_firing (Some copy) = refl

same_timer : (key tx : TxNo) (o : Option Call) → firings (firing_told key o) ≡ tx ∷ [] → key ≡ tx
same_timer key tx None is = absurd (cc)
same_timer key tx (Some call) is = ap (tx_or key) is

fired_act : (machine : Machine) (act : Act) (tx : TxNo) → firings (told_by machine act) ≡ tx ∷ [] → Fired act tx
fired_act machine (Begin from port servers owner body tries about before sent) tx is = absurd (cc)
fired_act machine (Deliver number given) tx is = absurd (let none = no_firing (copy_of machine number) in cc)
fired_act machine (Answer key body given) tx is = absurd (cc)
fired_act machine (Silence key at) tx is = absurd (cc)
fired_act machine (Expire key sent) tx is = record { sent = sent; is = ap (λ (k : TxNo). Expire k sent) (same_timer key tx (call_of machine key) is) }

-- at a place of a run the laws of its places hold
lost_first : (lost : ℕ → Bool) (machine : Machine) (steps : List (Act × Counts)) → EachLost lost machine steps → IsLostWhereDue lost machine
lost_first lost machine [] each = each
lost_first lost machine (step ∷ steps) each = each.0

lost_there : (lost : ℕ → Bool) (done rest : List (Act × Counts)) (machine : Machine) → EachLost lost machine (done ++ rest) → IsLostWhereDue (lost_after lost machine done) (reached machine done)
lost_there lost [] rest machine each = lost_first lost machine rest each
lost_there lost (step ∷ done) rest machine each = lost_there (λ tx. lost_since tx machine step.0 (lost tx)) done rest (after machine step.0) each.1

acts_there : (done : List (Act × Counts)) (step : Act × Counts) (rest : List (Act × Counts)) (machine : Machine) (counts : Counts) → IsRun machine counts (done ++ step ∷ rest) → MayAct (reached machine done) (last_counts counts done) step.0 step.1
acts_there [] step rest machine counts run = run.0
acts_there (first ∷ done) step rest machine counts run = acts_there done step rest (after machine first.0) first.1 run.1

may_there : (machine : Machine) (old new : Counts) (act : Act) (tx : TxNo) (sent : List (ℕ × Fate)) → act ≡ Expire tx sent → MayAct machine old act new → may_expire machine tx ≡ true
may_there machine old new act tx sent is may = (subst (λ (act : Act). MayAct machine old act new) is may).0

-- the records before one tell all of the acts before its own
record Fronted (tx : TxNo) (sent : List (ℕ × Fate)) (o : Option Call) : Type 0 where
  first : Rec
  more : List Rec
  is : fired_told tx sent o ≡ first ∷ more
  wire : is_of_wire first.event ≡ true

fronted : (tx : TxNo) (sent : List (ℕ × Fate)) (o : Option Call) (r : Rec) → firing_told tx o ≡ r ∷ [] → Fronted tx sent o
fronted tx sent None r is = absurd (cc)
fronted tx sent (Some call) r is = record { first = record { kernel = call.from; event = events.Expire tx (is_last call) }; more = cond {A = List Rec} (is_last call) [] (faults_told call.from sent); is = refl; wire = refl }

all_before : (trace before rest : List Rec) (r : Rec) (steps done later : List (Act × Counts)) (tx : TxNo) (sent : List (ℕ × Fate)) (counts : Counts) → is_of_wire r.event ≡ true → of_link (r ∷ rest) ≡ r ∷ of_link rest → of_link trace ≡ told_of all_told_by idle steps → trace ≡ before ++ r ∷ rest → steps ≡ done ++ (Expire tx sent, counts) ∷ later → told_by (reached idle done) (Expire tx sent) ≡ r ∷ [] → of_wire before ≡ told_of told_by idle done → of_link before ≡ told_of all_told_by idle done
all_before trace before rest r steps done later tx sent counts wire linked all written split tells told =
    (let machine = reached idle done in
    let front = fronted tx sent (call_of machine tx) r tells in
    let behind = told_of all_told_by (after machine (Expire tx sent)) later in
    same_front (λ (r : Rec). is_of_wire r.event) (of_link before) (told_of all_told_by idle done) r front.first (of_link rest) (front.more ++ behind) wire front.wire
    (ap (λ (xs : List Rec). of_link before ++ xs) (sym linked)
    ∙ sym (link_on before (r ∷ rest))
    ∙ ap of_link (sym written)
    ∙ all
    ∙ ap (told_of all_told_by idle) split
    ∙ all_join done ((Expire tx sent, counts) ∷ later) idle
    ∙ ap (λ (xs : List Rec). told_of all_told_by idle done ++ (xs ++ behind)) front.is)
    (wire_in_link before ∙ told ∙ sym (run_wire done idle)))

pub loss_before : {L : Type 0} (faults asked : L → ℕ → ℕ → ℕ) → LossBeforeEachExpiry faults asked
loss_before faults asked begun wire trace before rest kernel tx last run written =
    let r : Rec = record { kernel = kernel; event = events.Expire tx last } in
    let at = told_at run.steps idle (of_wire before) (of_wire rest) r (sym run.in_order ∙ ap of_wire written ∙ wire_on before (r ∷ rest)) in
    let fired = fired_act (reached idle at.done) at.act tx (ap firings at.tells) in
    let counts = counts_in faults asked run.first.link in
    let is_run : IsRun idle counts run.steps = subst (λ (machine : Machine). IsRun machine counts run.steps) run.idles run.ran.run in
    let split_run : IsRun idle counts (at.done ++ (at.act, at.counts) ∷ at.rest) = subst (IsRun idle counts) at.split is_run in
    let may = may_there (reached idle at.done) (last_counts counts at.done) at.counts at.act tx fired.sent fired.is (acts_there at.done (at.act, at.counts) at.rest idle counts split_run) in
    record {
      done = at.done;
      sent = fired.sent;
      counts = at.counts;
      rest = at.rest;
      split = at.split ∙ ap (λ (act : Act). at.done ++ (act, at.counts) ∷ at.rest) fired.is;
      told = all_before trace before rest r run.steps at.done at.rest tx fired.sent at.counts refl refl run.linked written (at.split ∙ ap (λ (act : Act). at.done ++ (act, at.counts) ∷ at.rest) fired.is) (subst (λ (act : Act). told_by (reached idle at.done) act ≡ r ∷ []) fired.is at.tells) (sym at.told);
      lost = lost_there (λ tx. false) at.done ((at.act, at.counts) ∷ at.rest) idle (lost_before_expiry counts (at.done ++ (at.act, at.counts) ∷ at.rest) split_run) tx may;
    }
