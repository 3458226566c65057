-- The calls of a cluster as steps of a value that kernels take in turns.
use Rattle.std.proofs.Common.{arith, ◌≡◌, ◌≢◌, ℕ, zero, suc, ◌+◌, ◌<◌, ◌≤◌, ◌==◌, ◌⊎◌, Bool, true, false, ◌||◌, not, cond, List, [], ◌∷◌, ◌++◌, append-nil, refl, sym, ap, ap₂, subst, Option, Some, None, Result, Ok, Err, IfOk, IfSome, OnOk, ◌∙◌, length, nat_le, inl, inr, if◌then◌else◌}
use Rattle.std.proofs.lemmas.Bool.{and_parts, leb-false, leb-true}
use Rattle.std.proofs.lemmas.List.{length-append, map-append}
use Rattle.std.proofs.lemmas.List.Sums.{sum_by-append}
use Rattle.std.specs.List.{list_all}
use Rattle.kernel_rpc.specs.Machine.{Machine}
use Rattle.sprite_ids.specs.declared.Finish.TheVariants as finish
use Rattle.unix_calls.specs.declared.Description.{Description}
use Rattle.unix_calls.specs.declared.Event.{Event}
use Rattle.unix_calls.specs.declared.Event.TheVariants as event
use Rattle.unix_calls.specs.declared.Rec.{Rec}
use Rattle.unix_calls.specs.Lawful.{Lawful}
use Rattle.call_journal.specs.Units.{units_of, units_of_event}
use Rattle.kernel_threads.specs.Steps.{MayMove}
use Rattle.turn_gate.specs.Steps.{AllBy, Grows}
use Rattle.cluster_kernels.specs.declared.State.{State}
use Rattle.cluster_kernels.specs.Kernels.{has_ended}
use Rattle.cluster_wire.specs.Faults.{FaultsTold, faults_told, is_fault_between}
use Rattle.cluster_choices.specs.Choosing.{choices_at}
use Rattle.cluster_choices.specs.declared.Choice.{Choice}
use Rattle.kernel_rpc.specs.Sound.{Wired}
use Rattle.cluster_choices.proofs.ActLaws.{out_happening, told_happening}
use Rattle.cluster_bursts.specs.Bursts.{has_job_at}
use Rattle.cluster_bursts.specs.declared.Burst.{Burst}
use Rattle.cluster_bursts.proofs.EndLaws.{out_ends, out_less, stale_ends, told_ends}
use Rattle.sprite_cluster.specs.Finishing.{are_busy, finish_of, is_busy, may_go_on, stands_so}
use Rattle.sprite_cluster.specs.Logs.{Holds, TellsFaults, faults_between, log_of}
use Rattle.call_journal.specs.Journal.{records_by}
use Rattle.cluster_wire_laws.specs.Traces.{ReachedSo}
use Rattle.cluster_wire_laws.specs.Turns.{RanSo}
use Rattle.cluster_wire_laws.proofs.TraceLaws.{turn_keeps}
use Rattle.cluster_wire_laws.proofs.TurnLaws.{happening_so}
use Rattle.cluster_wire_laws.proofs.EndingLaws.{ending_so}
use Rattle.std.specs.declared.snapshot.Snapshot.{Snapshot}
use Rattle.sprite_ids.specs.declared.NoMemory.{NoMemory}
use Rattle.kernel_threads.specs.Steps.{Adds, Stays}
use Rattle.cluster_bursts.specs.declared.Job.{Job}
use Rattle.cluster_bursts.specs.Bursts.{Did, IsDone, begun_by, counts, job_at}
use Rattle.cluster_bursts.specs.Ends.{EndsBurst}
use Rattle.cluster_bursts.proofs.BeginLaws.{counts_begun, did_begun}
use Rattle.sprite_cluster.specs.declared.cluster.Cluster.{Cluster}
use Rattle.sprite_cluster.specs.declared.origin.Origin.{Origin}
use Rattle.sprite_cluster.specs.Reached.{At, Change, Goes, Reached, Chose, Began, Took, Lost}
use Rattle.sprite_cluster.specs.Steps.{BeganBurst, LostBurst, MadeChoice, TookBurst, begun_turn}
use Rattle.sprite_cluster.proofs.ReachedLaws.{reached_on}
use Rattle.sprite_cluster.proofs.WireLaws.{finish_holds}

-- a kernel's records in the log
log_records : (kernel : ℕ) (told : List Event) → AllBy kernel (log_of (records_by kernel told))
log_records kernel [] = tt
log_records kernel (e ∷ told) = (refl, log_records kernel told)

length_records : (kernel : ℕ) (told : List Event) → length (records_by kernel told) ≡ length told
length_records kernel [] = refl
length_records kernel (e ∷ told) = ap suc (length_records kernel told)

length_log : (trace : List Rec) → length (log_of trace) ≡ length trace
length_log [] = refl
length_log (r ∷ trace) = ap suc (length_log trace)

-- the log grows by them
pub log_grows : (kernel : ℕ) (told : List Event) (old new : List Rec) → new ≡ old ++ records_by kernel told → Grows kernel (log_of old) (log_of new)
log_grows kernel told old new written = (log_of (records_by kernel told), ap log_of written ∙ map-append (λ (r : Rec). (r.kernel, r.event)) old (records_by kernel told), log_records kernel told)

pub log_longer : (kernel : ℕ) (told : List Event) (old new : List Rec) → new ≡ old ++ records_by kernel told → 0 < length told → length (log_of old) < length (log_of new)
log_longer kernel told old new written some =
    (let before = length_log old in
    let after = length_log new in
    let grown = ap length written ∙ length-append old (records_by kernel told) in
    let added = length_records kernel told in omega arith)

-- the faults that are told are those of the records
first_record : (a b kernel : ℕ) (e : Event) (trace : List Rec) → faults_between a b (record { kernel = kernel; event = e } ∷ trace) ≡ (0 + cond {A = ℕ} (is_fault_between a b e) 1 0) + faults_between a b trace
first_record a b kernel e trace = sum_by-append (λ (r : Rec). cond {A = ℕ} (is_fault_between a b r.event) 1 0) (record { kernel = kernel; event = e } ∷ []) trace

first_told : (a b : ℕ) (e : Event) (told : List Event) → faults_told a b (e ∷ told) ≡ (0 + cond {A = ℕ} (is_fault_between a b e) 1 0) + faults_told a b told
first_told a b e told = sum_by-append (λ (e : Event). cond {A = ℕ} (is_fault_between a b e) 1 0) (e ∷ []) told

faults_of_records : (a b kernel : ℕ) (told : List Event) → faults_between a b (records_by kernel told) ≡ faults_told a b told
faults_of_records a b kernel [] = refl
faults_of_records a b kernel (e ∷ told) = first_record a b kernel e (records_by kernel told) ∙ ap (λ n. (0 + cond {A = ℕ} (is_fault_between a b e) 1 0) + n) (faults_of_records a b kernel told) ∙ sym (first_told a b e told)

-- what a kernel told keeps what is always true
pub tells_more : {L : Type 0} (faults : L → ℕ → ℕ → ℕ) (begun before after : L) (kernel : ℕ) (told : List Event) (old new : List Rec) → new ≡ old ++ records_by kernel told → FaultsTold faults before after [] told → TellsFaults faults begun before old → TellsFaults faults begun after new
tells_more faults begun before after kernel told old new written more tells a b =
    (let so_far = tells a b in
    let now = more a b in
    let sum = ap (faults_between a b) written ∙ sum_by-append (λ (r : Rec). cond {A = ℕ} (is_fault_between a b r.event) 1 0) old (records_by kernel told) in
    let same = faults_of_records a b kernel told in omega arith)

-- each record costs a unit at least
unit_at_least : (e : Event) → 1 ≤ units_of_event e
unit_at_least (event.Enter entry) = omega arith
unit_at_least e = omega arith

units_long : (trace : List Rec) → length trace ≤ units_of trace
units_long [] = omega arith
units_long (r ∷ trace) = (let one = unit_at_least r.event in let rest = units_long trace in omega arith)

-- a run goes on only below its budget, and so with fewer records than any budget
below_budget : (c : Description) (trace : List Rec) (machine : Machine) (s : State) → finish_of c trace machine s ≡ finish.Running → (nat_le c.budget (units_of trace) ≡ false) × (may_go_on (length c.kernels) machine s ≡ true)
below_budget c trace machine s is = by_ended (list_all has_ended s.kernels) is
  where
    by_way : (may : Bool) → may_go_on (length c.kernels) machine s ≡ may → (if may then finish.Running else finish.Stalled) ≡ finish.Running → may_go_on (length c.kernels) machine s ≡ true
    by_way true may is = may
    by_way false may is = absurd (cc)

    by_budget : (spent : Bool) → nat_le c.budget (units_of trace) ≡ spent → (if spent then finish.Budget else if may_go_on (length c.kernels) machine s then finish.Running else finish.Stalled) ≡ finish.Running → (nat_le c.budget (units_of trace) ≡ false) × (may_go_on (length c.kernels) machine s ≡ true)
    by_budget true spent is = absurd (cc)
    by_budget false spent is = (spent, by_way (may_go_on (length c.kernels) machine s) refl is)

    by_ended : (ended : Bool) → (if ended then finish.AllEnded else if nat_le c.budget (units_of trace) then finish.Budget else if may_go_on (length c.kernels) machine s then finish.Running else finish.Stalled) ≡ finish.Running → (nat_le c.budget (units_of trace) ≡ false) × (may_go_on (length c.kernels) machine s ≡ true)
    by_ended true is = absurd (cc)
    by_ended false is = by_budget (nat_le c.budget (units_of trace)) refl is

still_runs : (closed : Bool) (c : Description) (trace : List Rec) (machine : Machine) (s : State) → stands_so closed c trace machine s ≡ finish.Running → finish_of c trace machine s ≡ finish.Running
still_runs true c trace machine s is = absurd (cc)
still_runs false c trace machine s is = is

pub running_short : (closed : Bool) (c : Description) (trace : List Rec) (machine : Machine) (s : State) → Lawful c → stands_so closed c trace machine s ≡ finish.Running → length (log_of trace) < 4000000
running_short closed c trace machine s lawful is =
    (let below = leb-false c.budget (units_of trace) (below_budget c trace machine s (still_runs closed c trace machine s is)).0 in
    let most = leb-true c.budget 4000000 (and_parts (nat_le 1 c.budget) (nat_le c.budget 4000000) lawful.budget).1 in
    let long = units_long trace in
    let same = length_log trace in omega arith)

-- while it goes on with no burst out, something can happen at one of its kernels
or_cases : (a b : Bool) → (a || b) ≡ true → (a ≡ true) ⊎ (b ≡ true)
or_cases true b is = inl refl
or_cases false b is = inr is

some_item : {A : Type 0} (xs : List A) → not (length xs == 0) ≡ true → xs ≢ []
some_item [] some is = absurd (cc)
some_item (x ∷ xs) some is = absurd (cc)

busy_moves : (n : ℕ) (machine : Machine) (s : State) (job choice : Bool) → has_job_at (suc n) s ≡ job → not (length (choices_at (suc n) s machine) == 0) ≡ choice → (job || choice) ≡ true → MayMove (λ k. choices_at k s machine) (λ k. has_job_at k s) (suc n)
busy_moves n machine s true choice has some is = (suc n, omega arith, omega arith, inr has)
busy_moves n machine s false true has some is = (suc n, omega arith, omega arith, inl (some_item (choices_at (suc n) s machine) some))
busy_moves n machine s false false has some is = absurd (cc)

busy_next : (n : ℕ) (machine : Machine) (s : State) → (are_busy n machine s ≡ true → MayMove (λ k. choices_at k s machine) (λ k. has_job_at k s) n) → (are_busy n machine s ≡ true) ⊎ (is_busy machine s (n + 1) ≡ true) → MayMove (λ k. choices_at k s machine) (λ k. has_job_at k s) (suc n)
busy_next n machine s rest (inl before) = (let found = rest before in let low = found.1 in let high = found.2 in (found.0, low, omega arith, found.3))
busy_next n machine s rest (inr here) = busy_moves n machine s (has_job_at (suc n) s) (not (length (choices_at (suc n) s machine) == 0)) refl refl (let same : n + 1 ≡ suc n = omega arith in subst (λ k. is_busy machine s k ≡ true) same here)

busy_somewhere : (n : ℕ) (machine : Machine) (s : State) → are_busy n machine s ≡ true → MayMove (λ k. choices_at k s machine) (λ k. has_job_at k s) n
busy_somewhere zero machine s is = absurd (cc)
busy_somewhere (suc n) machine s is = busy_next n machine s (busy_somewhere n machine s) (or_cases (are_busy n machine s) (is_busy machine s (n + 1)) is)

pub may_move : (closed : Bool) (c : Description) (trace : List Rec) (machine : Machine) (s : State) → stands_so closed c trace machine s ≡ finish.Running → length s.out ≡ 0 → MayMove (λ k. choices_at k s machine) (λ k. has_job_at k s) (length c.kernels)
may_move closed c trace machine s is none = busy_somewhere (length c.kernels) machine s (by_out (or_cases (not (length s.out == 0)) (are_busy (length c.kernels) machine s) (below_budget c trace machine s (still_runs closed c trace machine s is)).1))
  where
    by_out : (not (length s.out == 0) ≡ true) ⊎ (are_busy (length c.kernels) machine s ≡ true) → are_busy (length c.kernels) machine s ≡ true
    by_out (inl some) = absurd (cc)
    by_out (inr busy) = busy

-- a cluster between two calls
abbrev pub moment : {L : Type 0} → Cluster L → At L
moment v = record { wire = v.wire; state = v.state; trace = v.trace }

-- a change that it makes keeps that a run reaches it
came_on : {L : Type 0} (faults asked : L → ℕ → ℕ → ℕ) (change : Change) (old now : Cluster L) → now.closed ≡ old.closed → now.description ≡ old.description → now.begun ≡ old.begun → Goes faults asked old.description change (moment old) (moment now) → Holds faults asked old.description old.closed old.begun.value old.wire old.state old.trace → now.closed ≡ false → Reached faults asked now.description now.begun.value (moment now)
came_on {L} faults asked change old now unclosed same begun goes held is =
    subst (λ (l : Snapshot L). Reached faults asked now.description l.value (moment now)) (sym begun)
    (subst (λ (d : Description). Reached faults asked d old.begun.value (moment now)) (sym same)
    (reached_on faults asked old.description old.begun.value change (moment old) (moment now) (held.came (sym unclosed ∙ is)) goes))

-- what a call of a cluster adds to it
pub adds_of : {L : Type 0} (faults asked : L → ℕ → ℕ → ℕ) (kernel : ℕ) (old now : Cluster L) (told : List Event) → now.description ≡ old.description → now.begun ≡ old.begun → now.closed ≡ old.closed → now.trace ≡ old.trace ++ records_by kernel told → 0 < length told → FaultsTold faults old.wire.link now.wire.link [] told → RanSo faults asked kernel old.wire now.wire [] told → (change : Change) → Goes faults asked old.description change (moment old) (moment now) → Holds faults asked old.description old.closed old.begun.value old.wire old.state old.trace → Adds {O = Origin L} (λ (v : Cluster L). record { description = v.description; link = v.begun }) (λ (v : Cluster L). log_of v.trace) (λ (v : Cluster L). Holds faults asked v.description v.closed v.begun.value v.wire v.state v.trace) kernel old now
adds_of {L} faults asked kernel old now told same begun unclosed written some more ran change goes held = record {
  origin_stays = ap₂ (λ (d : Description) (l : Snapshot L). record { description = d; link = l }) same begun;
  grows = log_grows kernel told old.trace now.trace written;
  longer = log_longer kernel told old.trace now.trace written some;
  still_holds = record {
    lawful = subst Lawful (sym same) held.lawful;
    tells = λ is. subst (λ (l : Snapshot L). TellsFaults faults l.value now.wire.link now.trace) (sym begun) (tells_more faults old.begun.value old.wire.link now.wire.link kernel told old.trace now.trace written more (held.tells (sym unclosed ∙ is)));
    reached = λ is. subst (λ (l : Snapshot L). ReachedSo faults asked l.value now.wire now.trace) (sym begun) (turn_keeps faults asked old.begun.value kernel old.wire now.wire told old.trace now.trace (held.reached (sym unclosed ∙ is)) ran written);
    came = came_on faults asked change old now unclosed same begun goes held;
  };
}

-- a step
pub step_adds : {L : Type 0} (faults asked : L → ℕ → ℕ → ℕ) (kernel : ℕ) (choice : Choice) (old now : Cluster L) (r : Result (Unit {0}) NoMemory) → (1 ≤ kernel) × (kernel ≤ 16) → OnOk r (MadeChoice faults asked old.description kernel choice old.wire now.wire old.state now.state old.trace now.trace) → OnOk r (now.closed ≡ old.closed) → now.description ≡ old.description → now.begun ≡ old.begun → Holds faults asked old.description old.closed old.begun.value old.wire old.state old.trace → OnOk r (Adds {O = Origin L} (λ (v : Cluster L). record { description = v.description; link = v.begun }) (λ (v : Cluster L). log_of v.trace) (λ (v : Cluster L). Holds faults asked v.description v.closed v.begun.value v.wire v.state v.trace) kernel old now)
step_adds faults asked kernel choice old now (Ok x) range moved unclosed same begun held =
    adds_of faults asked kernel old now moved.turn.told same begun unclosed moved.written moved.some_told (told_happening faults asked old.description kernel choice old.wire now.wire (begun_turn old.state) moved.turn moved.happens) (happening_so faults asked old.description kernel choice old.wire now.wire (begun_turn old.state) moved.turn moved.happens) (Chose kernel choice) (record { low = range.0; high = range.1; changes = moved }) held
step_adds faults asked kernel choice old now (Err e) range moved unclosed same begun held = tt

pub step_keeps_out : {L : Type 0} (faults asked : L → ℕ → ℕ → ℕ) (kernel : ℕ) (choice : Choice) (old now : Cluster L) (r : Result (Unit {0}) NoMemory) → OnOk r (MadeChoice faults asked old.description kernel choice old.wire now.wire old.state now.state old.trace now.trace) → OnOk r (length now.state.out ≡ length old.state.out)
step_keeps_out faults asked kernel choice old now (Ok x) moved = ap (λ (s : State). length s.out) moved.stands ∙ ap length (out_happening faults asked old.description kernel choice old.wire now.wire (begun_turn old.state) moved.turn moved.happens)
step_keeps_out faults asked kernel choice old now (Err e) moved = tt

-- what only finds out how the run stands
pub finish_stays : {L : Type 0} (faults asked : L → ℕ → ℕ → ℕ) (old now : Cluster L) → now.description ≡ old.description → now.begun ≡ old.begun → now.trace ≡ old.trace → (now.closed ≡ false → now ≡ old) → Holds faults asked old.description old.closed old.begun.value old.wire old.state old.trace → Stays {O = Origin L} (λ (v : Cluster L). record { description = v.description; link = v.begun }) (λ (v : Cluster L). log_of v.trace) (λ (v : Cluster L). Holds faults asked v.description v.closed v.begun.value v.wire v.state v.trace) old now
finish_stays {L} faults asked old now same begun written stays held = record {
  origin_stays = ap₂ (λ (d : Description) (l : Snapshot L). record { description = d; link = l }) same begun;
  log_stays = ap log_of written;
  still_holds = finish_holds faults asked old now same stays held;
}

-- a burst that was taken
pub taken_adds : {L : Type 0} (faults asked : L → ℕ → ℕ → ℕ) (kernel : ℕ) (b : Burst) (old now : Cluster L) → (1 ≤ kernel) × (kernel ≤ 16) → TookBurst faults asked old.description kernel b old.wire now.wire old.state now.state old.trace now.trace → now.closed ≡ old.closed → now.description ≡ old.description → now.begun ≡ old.begun → Holds faults asked old.description old.closed old.begun.value old.wire old.state old.trace → Adds {O = Origin L} (λ (v : Cluster L). record { description = v.description; link = v.begun }) (λ (v : Cluster L). log_of v.trace) (λ (v : Cluster L). Holds faults asked v.description v.closed v.begun.value v.wire v.state v.trace) kernel old now
taken_adds faults asked kernel burst old now range ended unclosed same begun held =
    adds_of faults asked kernel old now ended.turn.told same begun unclosed ended.written ended.some_told (told_ends faults asked old.description kernel burst true old.wire now.wire (begun_turn old.state) ended.turn ended.ends) (ending_so faults asked old.description kernel burst true old.wire now.wire (begun_turn old.state) ended.turn ended.ends) (Took kernel burst) (record { low = range.0; high = range.1; changes = ended }) held

pub taken_out : {L : Type 0} (faults asked : L → ℕ → ℕ → ℕ) (c : Description) (kernel : ℕ) (b : Burst) (before after : Wired L) (s t : State) (old new : List Rec) → TookBurst faults asked c kernel b before after s t old new → length t.out + 1 ≡ length s.out
taken_out faults asked c kernel burst before after s t old new ended = ap (λ (s : State). length s.out + 1) ended.stands ∙ out_ends faults asked c kernel burst before after (begun_turn s) ended.turn ended.ends

-- one that was lost
pub stale_keeps : {L : Type 0} (faults asked : L → ℕ → ℕ → ℕ) (kernel : ℕ) (b : Burst) (old now : Cluster L) → (1 ≤ kernel) × (kernel ≤ 16) → LostBurst faults asked old.description kernel b old.wire now.wire old.state now.state old.trace now.trace → now.closed ≡ old.closed → now.description ≡ old.description → now.begun ≡ old.begun → Holds faults asked old.description old.closed old.begun.value old.wire old.state old.trace → Stays {O = Origin L} (λ (v : Cluster L). record { description = v.description; link = v.begun }) (λ (v : Cluster L). log_of v.trace) (λ (v : Cluster L). Holds faults asked v.description v.closed v.begun.value v.wire v.state v.trace) old now
stale_keeps {L} faults asked kernel burst old now range ended unclosed same begun held = record {
  origin_stays = ap₂ (λ (d : Description) (l : Snapshot L). record { description = d; link = l }) same begun;
  log_stays = ap log_of ended.not_written;
  still_holds = record {
    lawful = subst Lawful (sym same) held.lawful;
    tells = λ is a b. (let so_far = held.tells (sym unclosed ∙ is) a b in
        let more = told_ends faults asked old.description kernel burst false old.wire now.wire (begun_turn old.state) now.state ended.ends a b in
        let one = ap (λ (l : Snapshot L). faults l.value a b) begun in
        let two = ap (faults_between a b) ended.not_written in omega arith);
    reached = λ is. subst (λ (l : Snapshot L). ReachedSo faults asked l.value now.wire now.trace) (sym begun) (turn_keeps faults asked old.begun.value kernel old.wire now.wire [] old.trace now.trace (held.reached (sym unclosed ∙ is)) (subst (λ (told : List Event). RanSo faults asked kernel old.wire now.wire [] told) (ap (λ (s : State). s.told) (stale_ends faults asked old.description kernel burst old.wire now.wire (begun_turn old.state) now.state ended.ends).1) (ending_so faults asked old.description kernel burst false old.wire now.wire (begun_turn old.state) now.state ended.ends)) (ended.not_written ∙ sym (append-nil old.trace)));
    came = came_on faults asked (Lost kernel burst) old now unclosed same begun (record { low = range.0; high = range.1; changes = ended }) held;
  };
}

pub stale_out : {L : Type 0} (faults asked : L → ℕ → ℕ → ℕ) (c : Description) (kernel : ℕ) (b : Burst) (before after : Wired L) (s t : State) → EndsBurst faults asked c kernel b false before after (begun_turn s) t → (length t.out ≤ length s.out) × (length s.out ≤ length t.out + 1)
stale_out faults asked c kernel burst before after s t ends =
    subst (λ (t : State). (length t.out ≤ length s.out) × (length s.out ≤ length t.out + 1)) (sym (stale_ends faults asked c kernel burst before after (begun_turn s) t ends).1) (out_less kernel burst (begun_turn s))

-- one that began
pub begin_keeps : {L : Type 0} (faults asked : L → ℕ → ℕ → ℕ) (kernel : ℕ) (old now : Cluster L) → (1 ≤ kernel) × (kernel ≤ 16) → BeganBurst old.description kernel old.wire now.wire old.state now.state old.trace now.trace → now.closed ≡ old.closed → now.description ≡ old.description → now.begun ≡ old.begun → Holds faults asked old.description old.closed old.begun.value old.wire old.state old.trace → Stays {O = Origin L} (λ (v : Cluster L). record { description = v.description; link = v.begun }) (λ (v : Cluster L). log_of v.trace) (λ (v : Cluster L). Holds faults asked v.description v.closed v.begun.value v.wire v.state v.trace) old now
begin_keeps {L} faults asked kernel old now range started unclosed same begun held = record {
  origin_stays = ap₂ (λ (d : Description) (l : Snapshot L). record { description = d; link = l }) same begun;
  log_stays = ap log_of started.not_written;
  still_holds = record {
    lawful = subst Lawful (sym same) held.lawful;
    tells = λ is. subst (λ (l : Snapshot L). TellsFaults faults l.value now.wire.link now.trace) (sym begun) (subst (λ (w : Wired L). TellsFaults faults old.begun.value w.link now.trace) (sym started.same_wire) (subst (λ (trace : List Rec). TellsFaults faults old.begun.value old.wire.link trace) (sym started.not_written) (held.tells (sym unclosed ∙ is))));
    reached = λ is. subst (λ (l : Snapshot L). ReachedSo faults asked l.value now.wire now.trace) (sym begun) (subst (λ (w : Wired L). ReachedSo faults asked old.begun.value w now.trace) (sym started.same_wire) (subst (λ (trace : List Rec). ReachedSo faults asked old.begun.value old.wire trace) (sym started.not_written) (held.reached (sym unclosed ∙ is))));
    came = came_on faults asked (Began kernel) old now unclosed same begun (record { low = range.0; high = range.1; changes = started }) held;
  };
}

pub begin_stays : {L : Type 0} (faults asked : L → ℕ → ℕ → ℕ) (kernel : ℕ) (old now : Cluster L) (r : Result (Option Job) NoMemory) → (1 ≤ kernel) × (kernel ≤ 16) → IfOk r (λ job. job ≡ job_at old.description kernel old.state) → IfOk r (λ job. now.state ≡ begun_by kernel job old.state) → OnOk r (now.closed ≡ old.closed) → now.description ≡ old.description → now.begun ≡ old.begun → now.trace ≡ old.trace → now.wire ≡ old.wire → Holds faults asked old.description old.closed old.begun.value old.wire old.state old.trace → OnOk r (Stays {O = Origin L} (λ (v : Cluster L). record { description = v.description; link = v.begun }) (λ (v : Cluster L). log_of v.trace) (λ (v : Cluster L). Holds faults asked v.description v.closed v.begun.value v.wire v.state v.trace) old now)
begin_stays faults asked kernel old now (Ok job) range is stands unclosed same begun written wired held =
    begin_keeps faults asked kernel old now range (record { begun = stands ∙ ap (λ (job : Option Job). begun_by kernel job old.state) is; same_wire = wired; not_written = written }) unclosed same begun held
begin_stays faults asked kernel old now (Err e) range is stands unclosed same begun written wired held = tt

-- the job that was begun, done, may end at a cluster of that description
pub did_after : (c d : Description) (kernel : ℕ) (s : State) (r : Result (Option Job) NoMemory) → d ≡ c → IfOk r (λ job. job ≡ job_at c kernel s) → IfOk r (λ job. IfSome job (λ j. (b : Burst) → IsDone j b → Did d b))
did_after c d kernel s (Ok None) same is = tt
did_after c d kernel s (Ok (Some job)) same is = λ b done. subst (λ (d : Description). Did d b) (sym same) (did_begun c kernel job b s (sym is) done)
did_after c d kernel s (Err e) same is = tt

-- the job that was begun, done, would count
pub counts_after : (c : Description) (kernel : ℕ) (s t : State) (r : Result (Option Job) NoMemory) → IfOk r (λ job. job ≡ job_at c kernel s) → IfOk r (λ job. t ≡ begun_by kernel job s) → IfOk r (λ job. IfSome job (λ j. (b : Burst) → IsDone j b → counts kernel b t ≡ true))
counts_after c kernel s t (Ok None) is stands = tt
counts_after c kernel s t (Ok (Some job)) is stands = λ b done. subst (λ t. counts kernel b t ≡ true) (sym stands) (counts_begun c kernel job b s (sym is) done)
counts_after c kernel s t (Err e) is stands = tt
