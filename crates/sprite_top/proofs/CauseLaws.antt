-- A server is called unreachable only where the link's count of faults rose.
use Rattle.std.proofs.Common.{arith, ◌≡◌, ◌∙◌, ℕ, ◌+◌, ◌≤◌, ◌==◌, Bool, true, false, ◌&&◌, ◌||◌, cond, List, [], ◌∷◌, ◌++◌, Option, Some, None, Result, Ok, IfOk, refl, sym, ap, ap₂, subst}
use Rattle.std.specs.List.{list_any}
use Rattle.std.proofs.lemmas.Bool.{and_parts, eq-eqb, eqb-true, or_right, and_from, or_left}
use Rattle.std.proofs.lemmas.List.Sums.{sum_by-append, sum_by-le-sum_by}
use Rattle.link_plan.specs.Counts.{same_pair}
use Rattle.unix_calls.specs.declared.Entry.{Entry}
use Rattle.unix_calls.specs.declared.Event.{Event}
use Rattle.unix_calls.specs.declared.Event.TheVariants as event
use Rattle.unix_calls.specs.declared.Rec.{Rec}
use Rattle.call_journal.specs.Journal.{entered, journal_of}
use Rattle.call_journal.specs.Unreachable.{is_unreachable_entry, unreachable_for_cause}
use Rattle.call_journal.specs.Matching.{has_event, is_loss, is_lost, is_pair}
use Rattle.call_journal.specs.declared.closed.Closed.{Closed}
use Rattle.cluster_wire.specs.Faults.{is_fault_between}
use Rattle.cause_laws.specs.Losses.{losses_between}
use Rattle.cause_laws.proofs.LossLaws.{follows_losses}
use Rattle.sprite_cluster.specs.Logs.{faults_between}
use Rattle.sprite_ids.specs.declared.no_memory.NoMemory.{NoMemory}
use Rattle.sprite_top.specs.declared.top.Answer.{Answer}
use Rattle.sprite_cluster.specs.Reached.{At}
use Rattle.reached_prefixes.proofs.KnownLaws.{asked_until, learned_once}
use Rattle.reached_domains.proofs.LearnedLaws.{learned_domains}
use Rattle.sprite_top.specs.Top.{AllWereReached, IsForCauseOf, IsRun, IsRunOver, KeepsPrefixesOf, RoseForCause, RunsOver, TellsFaultsOf, TellsWireOf}

-- the same pair, whichever is told first
eq_swap : (m n : ℕ) → (m == n) ≡ true → (n == m) ≡ true
eq_swap m n is = eq-eqb n m (sym (eqb-true m n is))

pair_same : (a b x y : ℕ) → is_pair a b x y ≡ true → same_pair x y a b ≡ true
pair_same a b x y is = by_first (a == x && b == y) refl is
  where
    by_first : (first : Bool) → (a == x && b == y) ≡ first → (first || (a == y && b == x)) ≡ true → same_pair x y a b ≡ true
    by_first true one is = (let parts = and_parts (a == x) (b == y) one in
        or_left ((x == a) && (y == b)) ((x == b) && (y == a)) (and_from (x == a) (y == b) (eq_swap a x parts.0) (eq_swap b y parts.1)))
    by_first false one is = (let parts = and_parts (a == y) (b == x) is in
        or_right ((x == a) && (y == b)) ((x == b) && (y == a)) (and_from (x == b) (y == a) (eq_swap b x parts.1) (eq_swap a y parts.0)))

-- a loss that is told is a fault that is told
loss_is_fault : (x y : ℕ) (e : Event) → is_loss x y e ≡ true → is_fault_between x y e ≡ true
loss_is_fault x y (event.Fault a b what) is = pair_same a b x y (and_parts (is_pair a b x y) (is_lost what) is).0
loss_is_fault x y _ is = absurd (cc)

-- so there are no more of them
one_fewer : (x y : ℕ) (rec : Rec) → cond (has_event (is_loss x y) rec) 1 0 ≤ cond (is_fault_between x y rec.event) 1 0
one_fewer x y rec = by_loss (is_loss x y rec.event) refl
  where
    by_loss : (lost : Bool) → is_loss x y rec.event ≡ lost → cond lost 1 0 ≤ cond (is_fault_between x y rec.event) 1 0
    by_loss true is = subst (λ (b : Bool). 1 ≤ cond b 1 0) (sym (loss_is_fault x y rec.event is)) (omega arith)
    by_loss false is = omega arith

fewer : (x y : ℕ) (trace : List Rec) → losses_between x y trace ≤ faults_between x y trace
fewer x y trace = sum_by-le-sum_by (λ (r : Rec). cond (has_event (is_loss x y) r) 1 0) (λ (r : Rec). cond (is_fault_between x y r.event) 1 0) trace (one_fewer x y)

-- the faults of the first records are among those of all
first_faults : (x y : ℕ) (first more : List Rec) → faults_between x y first ≤ faults_between x y (first ++ more)
first_faults x y first more = (let sum = sum_by-append (λ (r : Rec). cond (is_fault_between x y r.event) 1 0) first more in omega arith)

rose_for_cause : {L : Type 0} (faults : L → ℕ → ℕ → ℕ) (before after : L) (closed : Option Closed) → TellsFaultsOf faults before after closed → IsForCauseOf closed → RoseForCause faults before after closed
rose_for_cause faults before after None tells for_cause = tt
rose_for_cause {L} faults before after (Some run) tells for_cause = λ first rest kernel entry is calls.
    (let found = follows_losses run.description run.trace for_cause first rest kernel entry is calls in
    let eight = found.1 in
    let few = fewer kernel found.0 first in
    let told = tells kernel found.0 in
    let among : faults_between kernel found.0 first ≤ faults_between kernel found.0 run.trace = subst (λ (t : List Rec). faults_between kernel found.0 first ≤ faults_between kernel found.0 t) (sym is) (first_faults kernel found.0 first (record { kernel = kernel; event = event.Enter entry } ∷ rest)) in
    (found.0, omega arith))

-- what a run over a link comes to, each by itself
pub run_over : {L : Type 0} (faults asked : L → ℕ → ℕ → ℕ) (before after : L) (closed : Option Closed) → RunsOver faults asked before after closed → IsRunOver faults asked before after closed
run_over faults asked before after closed over = over.run

pub counted_over : {L : Type 0} (faults asked : L → ℕ → ℕ → ℕ) (before after : L) (closed : Option Closed) → RunsOver faults asked before after closed → TellsFaultsOf faults before after closed
counted_over faults asked before after closed over = over.counted

pub wire_over : {L : Type 0} (faults asked : L → ℕ → ℕ → ℕ) (before after : L) (closed : Option Closed) → RunsOver faults asked before after closed → TellsWireOf faults asked before after closed
wire_over faults asked before after closed over = over.wire

prefixes_over : {L : Type 0} (faults asked : L → ℕ → ℕ → ℕ) (before after : L) (closed : Option Closed) → RunsOver faults asked before after closed → KeepsPrefixesOf closed
prefixes_over faults asked before after None over = tt
prefixes_over {L} faults asked before after (Some run) over =
    (let made : IsRun faults asked before after run = over.run in
    let at : At L = record { wire = made.wire; state = made.state; trace = run.trace } in
    record {
      asked = asked_until faults asked run.description before at made.reached;
      once = learned_once faults asked run.description before at made.reached;
      domains = learned_domains faults asked run.description before at made.reached;
    })

-- of an answer: before each entry that calls a server unreachable the link's count of faults rose
pub answer_rose : {L : Type 0} (faults asked : L → ℕ → ℕ → ℕ) (before after : L) (r : Result Answer NoMemory) (a : Answer) → r ≡ Ok a → IfOk r (λ (b : Answer). RunsOver faults asked before after b.closed) → RoseForCause faults before after a.closed
answer_rose faults asked before after r a is over =
    (let runs : RunsOver faults asked before after a.closed = subst (λ (x : Result Answer NoMemory). IfOk x (λ (b : Answer). RunsOver faults asked before after b.closed)) is over in
    rose_for_cause faults before after a.closed runs.counted runs.caused)

-- servers are called unreachable only for cause
pub answer_for_cause : {L : Type 0} (faults asked : L → ℕ → ℕ → ℕ) (before after : L) (r : Result Answer NoMemory) (a : Answer) → r ≡ Ok a → IfOk r (λ (b : Answer). RunsOver faults asked before after b.closed) → IsForCauseOf a.closed
answer_for_cause faults asked before after r a is over =
    (let runs : RunsOver faults asked before after a.closed = subst (λ (x : Result Answer NoMemory). IfOk x (λ (b : Answer). RunsOver faults asked before after b.closed)) is over in
    runs.caused)

-- and prefixes are asked for and learned as they should be
pub answer_prefixes : {L : Type 0} (faults asked : L → ℕ → ℕ → ℕ) (before after : L) (r : Result Answer NoMemory) (a : Answer) → r ≡ Ok a → IfOk r (λ (b : Answer). RunsOver faults asked before after b.closed) → KeepsPrefixesOf a.closed
answer_prefixes faults asked before after r a is over =
    (let runs : RunsOver faults asked before after a.closed = subst (λ (x : Result Answer NoMemory). IfOk x (λ (b : Answer). RunsOver faults asked before after b.closed)) is over in
    prefixes_over faults asked before after a.closed runs)

-- an entry that passes a test stands in a trace
abbrev StandsIn : (Entry → Bool) → List Rec → Type 0
StandsIn test trace = (first rest : List Rec) × (kernel : ℕ) × (entry : Entry) × (trace ≡ first ++ record { kernel = kernel; event = event.Enter entry } ∷ rest) × (test entry ≡ true)

stands_behind : (test : Entry → Bool) (rec : Rec) (recs : List Rec) → StandsIn test recs → StandsIn test (rec ∷ recs)
stands_behind test rec recs found = (rec ∷ found.0, found.1, found.2, found.3, ap (λ (rs : List Rec). rec ∷ rs) found.4, found.5)

stands_by : (test : Entry → Bool) (kernel : ℕ) (entry : Entry) (recs : List Rec) (here : Bool) → test entry ≡ here → (list_any test (journal_of recs) ≡ true → StandsIn test recs) → (here || list_any test (journal_of recs)) ≡ true → StandsIn test (record { kernel = kernel; event = event.Enter entry } ∷ recs)
stands_by test kernel entry recs true is later some = ([], recs, kernel, entry, refl, is)
stands_by test kernel entry recs false is later some = stands_behind test (record { kernel = kernel; event = event.Enter entry }) recs (later some)

stands_at : (test : Entry → Bool) (kernel : ℕ) (e : Event) (recs : List Rec) → (list_any test (journal_of recs) ≡ true → StandsIn test recs) → list_any test (entered e ++ journal_of recs) ≡ true → StandsIn test (record { kernel = kernel; event = e } ∷ recs)
stands_at test kernel (event.Enter entry) recs later some = stands_by test kernel entry recs (test entry) refl later some
stands_at test kernel other recs later some = stands_behind test (record { kernel = kernel; event = other }) recs (later some)

-- an entry of a journal stands in its trace
entry_place : (test : Entry → Bool) (trace : List Rec) → list_any test (journal_of trace) ≡ true → StandsIn test trace
entry_place test [] some = absurd (cc)
entry_place test (rec ∷ recs) some = stands_at test rec.kernel rec.event recs (λ more. entry_place test recs more) some

-- over a link whose counts don't rise, no reply calls a server unreachable
reached_so : {L : Type 0} (faults : L → ℕ → ℕ → ℕ) (before after : L) (closed : Option Closed) → TellsFaultsOf faults before after closed → IsForCauseOf closed → AllWereReached faults before after closed
reached_so faults before after None tells for_cause = tt
reached_so {L} faults before after (Some run) tells for_cause = λ still. by_test (list_any is_unreachable_entry (journal_of run.trace)) refl still
  where
    by_test : (some : Bool) → list_any is_unreachable_entry (journal_of run.trace) ≡ some → ((a b : ℕ) → faults after a b ≡ faults before a b) → some ≡ false
    by_test false is still = refl
    by_test true is still =
        (let found = entry_place is_unreachable_entry run.trace is in
        let rose = rose_for_cause faults before after (Some run) tells for_cause found.0 found.1 found.2 found.3 found.4 found.5 in
        let more = rose.1 in
        let same = still found.2 rose.0 in
        absurd (omega arith))

pub answer_reached : {L : Type 0} (faults asked : L → ℕ → ℕ → ℕ) (before after : L) (r : Result Answer NoMemory) (a : Answer) → r ≡ Ok a → IfOk r (λ (b : Answer). RunsOver faults asked before after b.closed) → AllWereReached faults before after a.closed
answer_reached faults asked before after r a is over =
    (let runs : RunsOver faults asked before after a.closed = subst (λ (x : Result Answer NoMemory). IfOk x (λ (b : Answer). RunsOver faults asked before after b.closed)) is over in
    reached_so faults before after a.closed runs.counted runs.caused)
