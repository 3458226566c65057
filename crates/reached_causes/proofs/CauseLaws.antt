-- Of each reached cluster: a server is called unreachable only for cause.
use Rattle.std.proofs.Common.{arith, ◌≡◌, ℕ, zero, suc, ◌+◌, ◌-◌, ◌≤◌, ◌==◌, ◌⊎◌, inl, inr, Bool, true, false, ◌&&◌, ◌||◌, cond, List, [], ◌∷◌, ◌++◌, Option, Some, None, option_map, slice_get, refl, sym, ap, ◌∙◌, subst, append_assoc}
use Rattle.std.proofs.lemmas.Bool.{and_parts, eq-eqb, eqb-true, or_right}
use Rattle.std.specs.List.{AllByRecursion, find, list_any}
use Rattle.sprite_ids.specs.declared.TxNo.{TxNo}
use Rattle.sprite_ids.proofs.ListLaws.{some_is}
use Rattle.sprite_paths.specs.declared.Path.{Path}
use Rattle.kernel_rpc.specs.declared.Call.{Call}
use Rattle.kernel_rpc.specs.Histories.{reached as reached_by}
use Rattle.kernel_rpc.specs.Machine.{Machine, call_of, idle, is_last, may_expire}
use Rattle.kernel_rpc.specs.Runs.{IsRun}
use Rattle.kernel_rpc.specs.Sound.{Wired}
use Rattle.kernel_rpc.specs.Steps.{counts_in}
use Rattle.kernel_rpc.proofs.PartLaws.{both_true}
use Rattle.kernel_rpc.proofs.SoundLaws.{found_is}
use Rattle.kernel_steps.specs.Rows.{is_under}
use Rattle.kernel_steps.specs.declared.Input.TheVariants as inputs
use Rattle.unix_calls.specs.declared.About.{About}
use Rattle.unix_calls.specs.declared.Description.{Description}
use Rattle.unix_calls.specs.declared.Entry.{Entry}
use Rattle.unix_calls.specs.declared.Event.{Event}
use Rattle.unix_calls.specs.declared.Event.TheVariants as events
use Rattle.unix_calls.specs.declared.KernelLine.{KernelLine}
use Rattle.unix_calls.specs.declared.Rec.{Rec}
use Rattle.unix_calls.specs.declared.SendKind.{SendKind}
use Rattle.unix_calls.specs.Lawful.{Lawful}
use Rattle.call_journal.specs.Calls.{is_domain, server_of}
use Rattle.call_journal.specs.Journal.{records_by}
use Rattle.call_journal.specs.Matching.{is_about, is_at, is_send_to}
use Rattle.call_journal.specs.Past.{Past, each_from, no_past, past_with, some_then}
use Rattle.call_journal.specs.Unreachable.{gave_up, is_given_up, is_unreachable_entry, keeps_cause, may_give_up, unreachable_for_cause}
use Rattle.client_file_tables.specs.declared.NameCall.{NameCall}
use Rattle.client_file_tables.specs.declared.NameState.{NameState}
use Rattle.client_file_tables.specs.declared.NameState.TheVariants as states
use Rattle.client_file_tables.specs.declared.Pending.{Pending}
use Rattle.client_file_tables.specs.declared.Pending.TheVariants as operations
use Rattle.client_file_tables.specs.Rows.{first_call, first_of, same_pid}
use Rattle.client_file_tables.specs.Says.{about_of}
use Rattle.client_homes.specs.declared.ClientProcs.{ClientProcs}
use Rattle.client_names.specs.Answers.{is_for, takes_end}
use Rattle.cluster_wire.specs.Firing.{is_from, is_last_in, may_fire}
use Rattle.cluster_wire_laws.specs.Traces.{ReachedSo}
use Rattle.cluster_wire_laws.proofs.PlaceLaws.{head_is, tail_is}
use Rattle.cluster_kernels.specs.declared.KernelState.{KernelState}
use Rattle.cluster_kernels.specs.declared.KernelState.TheVariants as kernels
use Rattle.cluster_kernels.specs.declared.State.{State}
use Rattle.cluster_kernels.specs.Booted.{AreKernels, IsKernel}
use Rattle.cluster_kernels.specs.States.{client_at, client_in}
use Rattle.cluster_bursts.specs.declared.BurstOutcome.{BurstOutcome}
use Rattle.cluster_bursts.specs.declared.BurstOutcome.TheVariants as outcome
use Rattle.cluster_bursts.specs.declared.Burst.{Burst}
use Rattle.cluster_bursts.specs.declared.Job.{Job}
use Rattle.cluster_bursts.specs.Bursts.{EndsAs, begun_by, job_at}
use Rattle.sprite_cluster.specs.Reached.{At, Reached}
use Rattle.sprite_cluster.specs.Steps.{begun_turn}
use Rattle.sprite_cluster.proofs.ReachedLaws.{Lasts, lasts_on}
use Rattle.broadcast_laws.specs.Broadcasts.{WaitsFor}
use Rattle.reached_domains.proofs.DomainLaws.{broadcasts_ask, one_answers, redirects_lead}
use Rattle.reached_prefixes.specs.Known.{told_by}
use Rattle.reached_prefixes.proofs.TraceLaws.{told_append, told_other_more, told_own_more}
use Rattle.reached_prefixes.proofs.KnownLaws.{not_counted}
use Rattle.cause_entries.specs.Causes.{given_up, given_up_by, given_up_for, unreachable_in}
use Rattle.cause_entries.specs.Sayings.{IsFor, IsSaid, SaysSo, awaited, kind_of}
use Rattle.cause_entries.proofs.CauseLaws.{unreachable_append}
use Rattle.cause_entries.proofs.SaidLaws.{found_said}
use Rattle.reached_causes.specs.Causes.{UnreachableForCause}
use Rattle.reached_causes.proofs.GiveUpLaws.{given_up_behind_sends, sent_to_owner}
use Rattle.reached_causes.proofs.RunLaws.{reached_so}
use Rattle.reached_causes.proofs.TurnLaws.{Calls, Leads, NoServer, OneServer, SaidIn, TurnSays, burst_says, choice_says, entries_of, said_on}

-- ---- lists

-- something stands in the first part, or in the second
record InFirst {X : Type 0} (xs before : List X) (x : X) : Type 0 where
  between : List X
  split : xs ≡ before ++ x ∷ between

record InSecond {X : Type 0} (xs ys before : List X) (x : X) (rest : List X) : Type 0 where
  later : List X
  front : before ≡ xs ++ later
  split : ys ≡ later ++ x ∷ rest

placed : {X : Type 0} (xs ys before : List X) (x : X) (rest : List X) → xs ++ ys ≡ before ++ x ∷ rest → InFirst xs before x ⊎ InSecond xs ys before x rest
placed [] ys before x rest e = inr (record { later = before; front = refl; split = e })
placed (y ∷ xs) ys [] x rest e = inl (record { between = xs; split = ap (λ z. z ∷ xs) (head_is y x (xs ++ ys) rest e) })
placed {X} (y ∷ xs) ys (z ∷ before) x rest e = more (placed xs ys before x rest (tail_is y z (xs ++ ys) (before ++ x ∷ rest) e))
  where
    same : y ≡ z
    same = head_is y z (xs ++ ys) (before ++ x ∷ rest) e

    more : InFirst xs before x ⊎ InSecond xs ys before x rest → InFirst (y ∷ xs) (z ∷ before) x ⊎ InSecond (y ∷ xs) ys (z ∷ before) x rest
    more (inl first) = inl (record { between = first.between; split = ap (λ (w : X). w ∷ xs) same ∙ ap (λ (ws : List X). z ∷ ws) first.split })
    more (inr second) = inr (record { later = second.later; front = ap (λ (ws : List X). z ∷ ws) second.front ∙ ap (λ (w : X). w ∷ (xs ++ second.later)) (sym same); split = second.split })

-- what a kernel told, where one of its records stands
record Standing (kernel : ℕ) (told : List Event) (before : List Rec) (by : ℕ) (event : Event) : Type 0 where
  same : by ≡ kernel
  first : List Event
  later : List Event
  split : told ≡ first ++ event ∷ later
  front : before ≡ records_by kernel first

told_there : (told : List Event) (kernel : ℕ) (before : List Rec) (by : ℕ) (event : Event) (rest : List Rec) → records_by kernel told ≡ before ++ record { kernel = by; event = event } ∷ rest → Standing kernel told before by event
told_there [] kernel [] by event rest e = absurd (cc)
told_there [] kernel (r ∷ before) by event rest e = absurd (cc)
told_there (first ∷ told) kernel [] by event rest e =
    let same = head_is (record { kernel = kernel; event = first }) (record { kernel = by; event = event }) (records_by kernel told) rest e in
    record { same = sym (ap (λ (r : Rec). r.kernel) same); first = []; later = told; split = ap (λ (x : Event). x ∷ told) (ap (λ (r : Rec). r.event) same); front = refl }
told_there (first ∷ told) kernel (r ∷ before) by event rest e =
    let same = head_is (record { kernel = kernel; event = first }) r (records_by kernel told) (before ++ record { kernel = by; event = event } ∷ rest) e in
    let more = told_there told kernel before by event rest (tail_is (record { kernel = kernel; event = first }) r (records_by kernel told) (before ++ record { kernel = by; event = event } ∷ rest) e) in
    record {
      same = more.same;
      first = first ∷ more.first;
      later = more.later;
      split = ap (λ (es : List Event). first ∷ es) more.split;
      front = ap (λ (rs : List Rec). r ∷ rs) more.front ∙ ap (λ (x : Rec). x ∷ records_by kernel more.first) (sym same);
    }

-- ---- entries that call a server unreachable

one_there : (first later : List Event) (entry : Entry) → is_unreachable_entry entry ≡ true → unreachable_in (first ++ events.Enter entry ∷ later) ≡ unreachable_in first ++ entry ∷ unreachable_in later
one_there first later entry is = unreachable_append first (events.Enter entry ∷ later) ∙ ap (λ (b : Bool). unreachable_in first ++ (cond {A = List Entry} b (entry ∷ []) [] ++ unreachable_in later)) is

none_there : (first later : List Entry) (entry : Entry) → first ++ entry ∷ later ≡ [] → ⊥
none_there [] later entry e = absurd (cc)
none_there (x ∷ first) later entry e = absurd (cc)

one_is : (first later : List Entry) (entry only : Entry) → first ++ entry ∷ later ≡ only ∷ [] → entry ≡ only
one_is [] later entry only e = head_is entry only later [] e
one_is (x ∷ first) later entry only e = absurd (none_there first later entry (tail_is x only (first ++ entry ∷ later) [] e))

-- the name call whose entry it is, which waited for that very remote call
record IsGivenUp (tx : TxNo) (o : Option ClientProcs) (entry : Entry) : Type 0 where
  client : ClientProcs
  is : o ≡ Some client
  pid : ℕ
  call : NameCall
  found : first_of pid client.files.pending ≡ Some (operations.Name call)
  waits : is_for tx call.state ≡ true
  enters : entry ≡ given_up pid call.work.number call.work.call

up_operation : (o : Option Pending) (tx : TxNo) (client : ClientProcs) (pid : ℕ) (b : Bool) (first later : List Entry) (entry : Entry) → first_of pid client.files.pending ≡ o → takes_end tx o ≡ b → first ++ entry ∷ later ≡ cond b (given_up_by pid o) [] → IsGivenUp tx (Some client) entry
up_operation o tx client pid false first later entry found takes e = absurd (none_there first later entry e)
up_operation (Some (operations.Name call)) tx client pid true first later entry found takes e =
    record { client = client; is = refl; pid = pid; call = call; found = found; waits = takes; enters = one_is first later entry (given_up pid call.work.number call.work.call) e }
up_operation (Some (operations.Data call)) tx client pid true first later entry found takes e = absurd (none_there first later entry e)
up_operation (Some (operations.Sync call)) tx client pid true first later entry found takes e = absurd (none_there first later entry e)
up_operation (Some (operations.Close work)) tx client pid true first later entry found takes e = absurd (none_there first later entry e)
up_operation (Some (operations.Move work)) tx client pid true first later entry found takes e = absurd (none_there first later entry e)
up_operation None tx client pid true first later entry found takes e = absurd (none_there first later entry e)

up_process : (o : Option ℕ) (tx : TxNo) (client : ClientProcs) (first later : List Entry) (entry : Entry) → first ++ entry ∷ later ≡ given_up_for o tx client.files.pending → IsGivenUp tx (Some client) entry
up_process None tx client first later entry e = absurd (none_there first later entry e)
up_process (Some pid) tx client first later entry e = up_operation (first_of pid client.files.pending) tx client pid (takes_end tx (first_of pid client.files.pending)) first later entry refl refl e

up_of : (o : Option ClientProcs) (tx : TxNo) (first later : List Entry) (entry : Entry) → first ++ entry ∷ later ≡ entries_of (inputs.GaveUp tx) o → IsGivenUp tx o entry
up_of None tx first later entry e = absurd (none_there first later entry e)
up_of (Some client) tx first later entry e = up_process (first_call tx client.files.txs) tx client first later entry e

-- it waits for the call of that number
awaits : (state : NameState) (tx : TxNo) → is_for tx state ≡ true → awaited state ≡ tx.0
awaits (states.Broadcasting own prefix) tx h = eqb-true own.0 tx.0 h
awaits (states.Echoing own server) tx h = eqb-true own.0 tx.0 h
awaits (states.Asking own) tx h = eqb-true own.0 tx.0 h

-- a looked-up operation stands among the others
record Found (rows : List (ℕ × Pending)) (operation : Pending) : Type 0 where
  at : ℕ
  pid : ℕ
  there : slice_get rows at ≡ Some (pid, operation)

found_by : (b : Bool) (row : ℕ × Pending) (rows : List (ℕ × Pending)) (rest : Option (ℕ × Pending)) (operation : Pending) → (option_map (λ (row : ℕ × Pending). row.1) rest ≡ Some operation → Found rows operation) → option_map (λ (row : ℕ × Pending). row.1) (cond b (Some row) rest) ≡ Some operation → Found (row ∷ rows) operation
found_by true row rows rest operation later e = record { at = 0; pid = row.0; there = ap (λ (o : Pending). Some (row.0, o)) (some_is row.1 operation e) }
found_by false row rows rest operation later e = let more = later e in record { at = suc more.at; pid = more.pid; there = more.there }

found_there : (p : ℕ × Pending → Bool) (rows : List (ℕ × Pending)) (operation : Pending) → option_map (λ (row : ℕ × Pending). row.1) (find p rows) ≡ Some operation → Found rows operation
found_there p [] operation e = absurd (cc)
found_there p (row ∷ rows) operation e = found_by (p row) row rows (find p rows) operation (found_there p rows operation) e

-- ---- records that pass a test

record Passing (p : Rec → Bool) (rs : List Rec) : Type 0 where
  before : List Rec
  one : Rec
  between : List Rec
  split : rs ≡ before ++ one ∷ between
  passes : p one ≡ true

passing_by : (b : Bool) (p : Rec → Bool) (r : Rec) (rs : List Rec) → p r ≡ b → (list_any p rs ≡ true → Passing p rs) → (b || list_any p rs) ≡ true → Passing p (r ∷ rs)
passing_by true p r rs is later e = record { before = []; one = r; between = rs; split = refl; passes = is }
passing_by false p r rs is later e = let more = later e in record { before = r ∷ more.before; one = more.one; between = more.between; split = ap (λ (xs : List Rec). r ∷ xs) more.split; passes = more.passes }

passing : (p : Rec → Bool) (rs : List Rec) → list_any p rs ≡ true → Passing p rs
passing p [] e = absurd (cc)
passing p (r ∷ rs) e = passing_by (p r) p r rs refl (passing p rs) e

-- a record that a remote call was sent
record IsSending (tx to : ℕ) (event : Event) : Type 0 where
  number : TxNo
  about : Option About
  kind : SendKind
  is : event ≡ events.Send number to about kind
  same : number.0 ≡ tx

sending_of : (tx to : ℕ) (event : Event) → is_send_to tx to event ≡ true → IsSending tx to event
sending_of tx to (events.Send number s about kind) h =
    let parts = and_parts (number.0 == tx) (s == to) h in
    record { number = number; about = about; kind = kind; is = ap (λ (n : ℕ). events.Send number n about kind) (eqb-true s to parts.1); same = eqb-true number.0 tx parts.0 }
sending_of tx to (events.Enter entry) h = absurd (cc)
sending_of tx to event h = absurd (cc)

-- what holds of all that a kernel told holds of the event of each of its records
told_one : (P : Event → Type 0) (kernel : ℕ) (before between : List Rec) (r : Rec) → r.kernel ≡ kernel → AllByRecursion P (told_by kernel (before ++ r ∷ between)) → P r.event
told_one P kernel before between r same h = here (r.kernel == kernel) (eq_so r.kernel kernel same) (behind (told_by kernel before) (told_by kernel (r ∷ between)) (subst (AllByRecursion P) (told_append before (r ∷ between) kernel) h))
  where
    eq_so : (a b : ℕ) → a ≡ b → (a == b) ≡ true
    eq_so a b e = eq-eqb a b e

    behind : (xs ys : List Event) → AllByRecursion P (xs ++ ys) → AllByRecursion P ys
    behind [] ys k = k
    behind (x ∷ xs) ys k = behind xs ys k.1

    here : (b : Bool) → b ≡ true → AllByRecursion P (cond {A = List Event} b (r.event ∷ told_by kernel between) (told_by kernel between)) → P r.event
    here true e k = k.0
    here false e k = absurd (cc)

rec_is : (r : Rec) (kernel : ℕ) (event : Event) → r.kernel ≡ kernel → r.event ≡ event → r ≡ record { kernel = kernel; event = event }
rec_is r kernel event same is = ap (λ (n : ℕ). record { kernel = n; event = r.event }) same ∙ ap (λ (e : Event). record { kernel = kernel; event = e }) is

-- ---- causes

-- among these records one is that a send for the sake of the entry's call was given up
abbrev causes : Description → ℕ → Entry → List Rec → Bool
causes c kernel entry records = some_then (λ (r : Rec) rest. r.kernel == kernel && is_given_up c kernel entry.pid entry.number r.event rest) records

some_at : (test : Rec → List Rec → Bool) (before : List Rec) (r : Rec) (rest : List Rec) → test r rest ≡ true → some_then test (before ++ r ∷ rest) ≡ true
some_at test [] r rest h = ap (λ (b : Bool). b || some_then test rest) h
some_at test (x ∷ before) r rest h = or_right (test x (before ++ r ∷ rest)) (some_then test (before ++ r ∷ rest)) (some_at test before r rest h)

-- each entry that calls a server unreachable has one before it
abbrev Caused : Description → List Rec → Type 0
Caused c trace = (before rest : List Rec) (kernel : ℕ) (entry : Entry) → trace ≡ before ++ record { kernel = kernel; event = events.Enter entry } ∷ rest → is_unreachable_entry entry ≡ true → causes c kernel entry before ≡ true

-- and so the trace keeps the rule
if_so : (b x : Bool) → (b ≡ true → x ≡ true) → cond b x true ≡ true
if_so true x h = h refl
if_so false x h = refl

kept_so : (event : Event) (c : Description) (trace : List Rec) (past : Past) (before rest : List Rec) (kernel : ℕ) → past.records ≡ before → trace ≡ before ++ record { kernel = kernel; event = event } ∷ rest → Caused c trace → keeps_cause c past kernel event ≡ true
kept_so (events.Enter entry) c trace past before rest kernel same split caused =
    if_so (is_unreachable_entry entry) (causes c kernel entry past.records) (λ is. ap (causes c kernel entry) same ∙ caused before rest kernel entry split is)
kept_so (events.Freeze pid) c trace past before rest kernel same split caused = refl
kept_so event c trace past before rest kernel same split caused = refl

each_kept : (rest : List Rec) (c : Description) (trace : List Rec) (past : Past) (before : List Rec) → past.records ≡ before → trace ≡ before ++ rest → Caused c trace → each_from c (λ past rec rest. keeps_cause c past rec.kernel rec.event) past rest ≡ true
each_kept [] c trace past before same split caused = refl
each_kept (r ∷ rest) c trace past before same split caused =
    both_true (keeps_cause c past r.kernel r.event) _ (kept_so r.event c trace past before rest r.kernel same split caused)
    (each_kept rest c trace (past_with c r past) (before ++ r ∷ []) (ap (λ (rs : List Rec). rs ++ r ∷ []) same) (split ∙ sym (append_assoc before (r ∷ []) rest)) caused)

rule_kept : (c : Description) (trace : List Rec) → Caused c trace → unreachable_for_cause c trace ≡ true
rule_kept c trace caused = each_kept trace c trace (no_past c) [] refl refl caused

-- ---- what is true of each reached cluster

record Stands (c : Description) (machine : Machine) (s : State) (trace : List Rec) : Type 0 where
  each : (kernel : ℕ) → 1 ≤ kernel → SaidIn c (told_by kernel trace) (machine.begun + 1) (client_at kernel s)
  caused : Caused c trace

-- the boot

booted_one : (serves : List Path) (c : Description) (kernel next : ℕ) (state : KernelState) → IsKernel c kernel serves state → SaidIn c [] next (client_in (Some state))
booted_one [] c kernel next state e = subst (λ (k : KernelState). SaidIn c [] next (client_in (Some k))) (sym e) (record { told_below = tt; rows_said = tt })
booted_one (path ∷ paths) c kernel next (kernels.Server made) e = tt
booted_one (path ∷ paths) c kernel next (kernels.Client made) e = absurd e

booted : (lines : List KernelLine) (states : List KernelState) (c : Description) (kernel next i : ℕ) → AreKernels c kernel lines states → SaidIn c [] next (client_in (slice_get states i))
booted [] [] c kernel next i e = tt
booted (line ∷ lines) (state ∷ states) c kernel next zero e = booted_one line.serves c kernel next state e.0
booted (line ∷ lines) (state ∷ states) c kernel next (suc i) e = booted lines states c (kernel + 1) next i e.1
booted [] (state ∷ states) c kernel next i e = absurd e
booted (line ∷ lines) [] c kernel next i e = absurd e

none_caused : (c : Description) → Caused c []
none_caused c [] rest kernel entry split is = absurd (cc)
none_caused c (r ∷ before) rest kernel entry split is = absurd (cc)

-- the remote call whose timer fired, at the wire
record Fired (kernel : ℕ) (machine : Machine) (tx : TxNo) : Type 0 where
  call : Call
  known : call_of machine tx ≡ Some call
  own : call.from ≡ kernel
  due : may_expire machine tx ≡ true
  last : is_last call ≡ true

fired_by : (o : Option Call) (kernel : ℕ) (machine : Machine) (tx : TxNo) → call_of machine tx ≡ o → (is_from kernel o && may_expire machine tx) ≡ true → is_last_in o ≡ true → Fired kernel machine tx
fired_by None kernel machine tx known fires last = absurd (cc)
fired_by (Some call) kernel machine tx known fires last =
    let parts = and_parts (call.from == kernel) (may_expire machine tx) fires in
    record { call = call; known = known; own = eqb-true call.from kernel parts.0; due = parts.1; last = last }

module _ {L : Type 0} (faults asked : L → ℕ → ℕ → ℕ) (c : Description) (begun : L) (root : is_domain c [] ≡ true) where
  -- where a name call waits so, what goes out for it may end in that
  may_end : (state : NameState) (old : At L) (kernel : ℕ) (client : ClientProcs) (tx : TxNo) (call : Call) (name : NameCall) (told : List Event) (next : ℕ) (about : About) → 1 ≤ kernel → Reached faults asked c begun old → client_at kernel old.state ≡ Some client → Found client.files.pending (operations.Name name)
      → name.state ≡ state → awaited state ≡ tx.0 → call_of old.wire.machine tx ≡ Some call → IsSaid (is_domain c) told next about state → may_give_up c call.owner (kind_of state) ≡ true
  may_end (states.Echoing own server) old kernel client tx call name told next about low reached is found same waits known said = refl
  may_end (states.Asking own) old kernel client tx call name told next about low reached is found same waits known said = refl
  may_end (states.Broadcasting own prefix) old kernel client tx call name told next about low reached is found same waits known said =
      let there : call_of old.wire.machine own ≡ Some call = ap (λ (n : ℕ). call_of old.wire.machine (record { 0 = n })) waits ∙ known in
      let waiting : WaitsFor client.files.pending own prefix = record { at = found.at; pid = found.pid; call = name; there = found.there; waits = same } in
      let asks = broadcasts_ask faults asked c begun old kernel client own prefix call low reached is waiting there in
      let owner = one_answers faults asked c begun old own call prefix reached there asks in
      both_true (is_domain c prefix) (server_of c prefix == call.owner) said.may (eq-eqb (server_of c prefix) call.owner (sym owner))

  -- a send that was given up is such a cause
  about_so : (pid number p n : ℕ) (whose : Option About) → pid ≡ p → number ≡ n → whose ≡ Some (about_of p n) → is_about pid number whose ≡ true
  about_so pid number p n whose one two is =
      ap (is_about pid number) is ∙ both_true (p == pid) (n == number) (eq-eqb p pid (sym one)) (eq-eqb n number (sym two))

  cause_there : (kernel : ℕ) (tx : TxNo) (entry : Entry) (call : Call) (before between more : List Rec) (whose : Option About) (kind : SendKind) (trace : List Rec) → call.from ≡ kernel → trace ≡ before ++ record { kernel = call.from; event = events.Send tx call.owner whose kind } ∷ between → (p n : ℕ) → entry.pid ≡ p → entry.number ≡ n
      → whose ≡ Some (about_of p n) → may_give_up c call.owner kind ≡ true → gave_up call.from tx.0 call.owner (between ++ record { kernel = call.from; event = events.Expire tx true } ∷ more) ≡ true
      → causes c kernel entry (trace ++ record { kernel = kernel; event = events.Expire tx true } ∷ more) ≡ true
  cause_there kernel tx entry call before between more whose kind trace own split p n one two is may up =
      let send : Rec = record { kernel = call.from; event = events.Send tx call.owner whose kind } in
      let rest : List Rec = between ++ record { kernel = kernel; event = events.Expire tx true } ∷ more in
      let up_here : gave_up kernel tx.0 call.owner rest ≡ true = subst (λ (k : ℕ). gave_up k tx.0 call.owner (between ++ record { kernel = k; event = events.Expire tx true } ∷ more) ≡ true) own up in
      let about_is = about_so entry.pid entry.number p n whose one two is in
      let all : (is_about entry.pid entry.number whose && may_give_up c call.owner kind && gave_up kernel tx.0 call.owner rest) ≡ true =
      both_true (is_about entry.pid entry.number whose && may_give_up c call.owner kind) (gave_up kernel tx.0 call.owner rest) (both_true (is_about entry.pid entry.number whose) (may_give_up c call.owner kind) about_is may) up_here in
      ap (λ (rs : List Rec). causes c kernel entry (rs ++ record { kernel = kernel; event = events.Expire tx true } ∷ more)) split
      ∙ (ap (causes c kernel entry) (append_assoc before (send ∷ between) (record { kernel = kernel; event = events.Expire tx true } ∷ more))
      ∙ some_at (λ (r : Rec) rest. r.kernel == kernel && is_given_up c kernel entry.pid entry.number r.event rest) before send rest (both_true (call.from == kernel) _ (eq-eqb call.from kernel own) all))

  -- the run that reaches the wire, and the call in it whose timer fired
  run_of : (old : At L) (so : ReachedSo faults asked begun old.wire old.trace) → IsRun idle (counts_in faults asked so.first.link) so.steps
  run_of old so = subst (λ (m : Machine). IsRun m (counts_in faults asked so.first.link) so.steps) so.idles so.ran.run

  machine_of : (old : At L) (so : ReachedSo faults asked begun old.wire old.trace) → old.wire.machine ≡ reached_by idle so.steps
  machine_of old so = so.ran.reaches ∙ ap (λ (m : Machine). reached_by m so.steps) so.idles

  fired_known : (old : At L) (kernel : ℕ) (tx : TxNo) (so : ReachedSo faults asked begun old.wire old.trace) (at : Fired kernel old.wire.machine tx) → call_of (reached_by idle so.steps) tx ≡ Some at.call
  fired_known old kernel tx so at = ap (λ (m : Machine). call_of m tx) (sym (machine_of old so)) ∙ at.known

  fired_sent : (old : At L) (kernel : ℕ) (tx : TxNo) (so : ReachedSo faults asked begun old.wire old.trace) (at : Fired kernel old.wire.machine tx) → list_any (is_at at.call.from (is_send_to at.call.tx.0 at.call.owner)) old.trace ≡ true
  fired_sent old kernel tx so at = sent_to_owner (counts_in faults asked so.first.link) so.steps old.trace tx at.call (run_of old so) so.linked (fired_known old kernel tx so at)

  -- the entry of a name call that was given up has its cause among the records before it
  up_with : (old : At L) (kernel : ℕ) (tx : TxNo) (entry : Entry) (more : List Rec) (so : ReachedSo faults asked begun old.wire old.trace) (at : Fired kernel old.wire.machine tx) (sent : Passing (is_at at.call.from (is_send_to at.call.tx.0 at.call.owner)) old.trace) (sending : IsSending at.call.tx.0 at.call.owner sent.one.event) → 1 ≤ kernel → Reached faults asked c begun old → sent.one.kernel ≡ kernel → IsGivenUp tx (client_at kernel old.state) entry
      → SaidIn c (told_by kernel old.trace) (old.wire.machine.begun + 1) (client_at kernel old.state) → causes c kernel entry (old.trace ++ record { kernel = kernel; event = events.Expire tx true } ∷ more) ≡ true
  up_with old kernel tx entry more so at sent sending low reached by up said =
      let due : may_expire (reached_by idle so.steps) tx ≡ true = ap (λ (m : Machine). may_expire m tx) (sym (machine_of old so)) ∙ at.due in
      let same_tx : at.call.tx.0 ≡ tx.0 = eqb-true at.call.tx.0 tx.0 (found_is tx at.call old.wire.machine.unfinished at.known) in
      let number : sending.number ≡ tx = ap (λ (n : ℕ). record { 0 = n }) (sending.same ∙ same_tx) in
      let client_said : SaysSo (is_domain c) (told_by kernel old.trace) (old.wire.machine.begun + 1) up.client.files.pending = subst (SaidIn c (told_by kernel old.trace) (old.wire.machine.begun + 1)) up.is said in
      let row = found_said (is_domain c) up.client.files.pending (told_by kernel old.trace) (old.wire.machine.begun + 1) up.pid (operations.Name up.call) client_said.rows_said up.found in
      let awaited_is : awaited up.call.state ≡ tx.0 = awaits up.call.state tx up.waits in
      let about : About = about_of up.pid up.call.work.number in
      let own_event : IsFor (awaited up.call.state) about (kind_of up.call.state) sent.one.event =
      told_one (IsFor (awaited up.call.state) about (kind_of up.call.state)) kernel sent.before sent.between sent.one by (subst (λ (rs : List Rec). AllByRecursion (IsFor (awaited up.call.state) about (kind_of up.call.state)) (told_by kernel rs)) sent.split row.each) in
      let facts = subst (IsFor (awaited up.call.state) about (kind_of up.call.state)) sending.is own_event (sending.same ∙ (same_tx ∙ sym awaited_is)) in
      let may = may_end up.call.state old kernel up.client tx at.call up.call (told_by kernel old.trace) (old.wire.machine.begun + 1) about low reached up.is (found_there (is_under same_pid up.pid) up.client.files.pending (operations.Name up.call) up.found) refl awaited_is at.known row in
      let event_is : sent.one.event ≡ events.Send tx at.call.owner sending.about sending.kind = sending.is ∙ ap (λ (n : TxNo). events.Send n at.call.owner sending.about sending.kind) number in
      let one_is : sent.one ≡ record { kernel = at.call.from; event = events.Send tx at.call.owner sending.about sending.kind } = rec_is sent.one at.call.from (events.Send tx at.call.owner sending.about sending.kind) (by ∙ sym at.own) event_is in
      let split : old.trace ≡ sent.before ++ record { kernel = at.call.from; event = events.Send tx at.call.owner sending.about sending.kind } ∷ sent.between = sent.split ∙ ap (λ (r : Rec). sent.before ++ r ∷ sent.between) one_is in
      let up_there = given_up_behind_sends (counts_in faults asked so.first.link) so.steps old.trace sent.before sent.between more tx at.call sending.about sending.kind (run_of old so) so.linked (fired_known old kernel tx so at) due at.last split in
      cause_there kernel tx entry at.call sent.before sent.between more sending.about sending.kind old.trace at.own split up.pid up.call.work.number
      (ap (λ (e : Entry). e.pid) up.enters) (ap (λ (e : Entry). e.number) up.enters) facts.0 (ap (may_give_up c at.call.owner) facts.1 ∙ may) up_there

  up_caused : (old : At L) (kernel : ℕ) (tx : TxNo) (entry : Entry) (more : List Rec) → 1 ≤ kernel → Reached faults asked c begun old → may_fire kernel old.wire.machine tx ≡ true → is_last_in (call_of old.wire.machine tx) ≡ true → IsGivenUp tx (client_at kernel old.state) entry
      → SaidIn c (told_by kernel old.trace) (old.wire.machine.begun + 1) (client_at kernel old.state) → causes c kernel entry (old.trace ++ record { kernel = kernel; event = events.Expire tx true } ∷ more) ≡ true
  up_caused old kernel tx entry more low reached fires last up said =
      let so : ReachedSo faults asked begun old.wire old.trace = reached_so faults asked c begun old reached in
      let at = fired_by (call_of old.wire.machine tx) kernel old.wire.machine tx refl fires last in
      let sent = passing (is_at at.call.from (is_send_to at.call.tx.0 at.call.owner)) old.trace (fired_sent old kernel tx so at) in
      let parts = and_parts (sent.one.kernel == at.call.from) (is_send_to at.call.tx.0 at.call.owner sent.one.event) sent.passes in
      up_with old kernel tx entry more so at sent (sending_of at.call.tx.0 at.call.owner sent.one.event parts.1) low reached (eqb-true sent.one.kernel at.call.from parts.0 ∙ at.own) up said

  -- ---- a turn

  entry_apart : (tx : TxNo) (entry : Entry) (rest later : List Event) → events.Expire tx true ∷ rest ≡ events.Enter entry ∷ later → ⊥
  entry_apart tx entry rest later e = absurd (cc)

  turn_caused : (old : At L) (kernel : ℕ) (told : List Event) → 1 ≤ kernel → Reached faults asked c begun old → Calls kernel old.wire.machine old.state told → SaidIn c (told_by kernel old.trace) (old.wire.machine.begun + 1) (client_at kernel old.state)
      → (first later : List Event) (entry : Entry) → told ≡ first ++ events.Enter entry ∷ later → is_unreachable_entry entry ≡ true → causes c kernel entry (old.trace ++ records_by kernel first) ≡ true
  turn_caused old kernel told low reached (NoServer none) said first later entry split is =
      absurd (none_there (unreachable_in first) (unreachable_in later) entry (sym (one_there first later entry is) ∙ (ap unreachable_in (sym split) ∙ none)))
  turn_caused old kernel told low reached (OneServer tx rest told_is fires last found) said first later entry split is =
      by_first first split
    where
      up : (first : List Event) → told ≡ first ++ events.Enter entry ∷ later → IsGivenUp tx (client_at kernel old.state) entry
      up first split = up_of (client_at kernel old.state) tx (unreachable_in first) (unreachable_in later) entry (sym (one_there first later entry is) ∙ (ap unreachable_in (sym split) ∙ found))

      by_first : (first : List Event) → told ≡ first ++ events.Enter entry ∷ later → causes c kernel entry (old.trace ++ records_by kernel first) ≡ true
      by_first [] split = absurd (entry_apart tx entry rest later (sym told_is ∙ split))
      by_first (event ∷ front) split =
          let same : events.Expire tx true ≡ event = head_is (events.Expire tx true) event rest (front ++ events.Enter entry ∷ later) (sym told_is ∙ split) in
          subst (λ (e : Event). causes c kernel entry (old.trace ++ record { kernel = kernel; event = e } ∷ records_by kernel front) ≡ true) same
          (up_caused old kernel tx entry (records_by kernel front) low reached fires last (up (event ∷ front) split) said)

  more_caused : (old : At L) (kernel : ℕ) (told : List Event) → 1 ≤ kernel → Reached faults asked c begun old → Calls kernel old.wire.machine old.state told → Stands c old.wire.machine old.state old.trace → Caused c (old.trace ++ records_by kernel told)
  more_caused old kernel told low reached turn h before rest by entry split is = by_place (placed old.trace (records_by kernel told) before (record { kernel = by; event = events.Enter entry }) rest split)
    where
      by_place : InFirst old.trace before (record { kernel = by; event = events.Enter entry }) ⊎ InSecond old.trace (records_by kernel told) before (record { kernel = by; event = events.Enter entry }) rest → causes c by entry before ≡ true
      by_place (inl place) = h.caused before place.between by entry place.split is
      by_place (inr place) =
          let there = told_there told kernel place.later by (events.Enter entry) rest place.split in
          subst (λ (n : ℕ). causes c n entry before ≡ true) (sym there.same)
          (ap (causes c kernel entry) (place.front ∙ ap (λ (rs : List Rec). old.trace ++ rs) there.front)
          ∙ turn_caused old kernel told low reached turn (h.each kernel low) there.first there.later entry there.split is)

  apart_of : (a b : ℕ) → (a == b) ≡ false → b ≡ a → ⊥
  apart_of a b e same = absurd (let here : (a == b) ≡ true = eq-eqb a b (sym same) in cc)

  said_by : (b : Bool) (by kernel : ℕ) (old : At L) (machine : Machine) (turn : State) → (by == kernel) ≡ b → 1 ≤ by → 1 ≤ kernel → TurnSays c by (told_by by old.trace) old.state old.wire.machine machine turn → Stands c old.wire.machine old.state old.trace → SaidIn c (told_by kernel (old.trace ++ records_by by turn.told)) (machine.begun + 1) (client_at kernel turn)
  said_by true by kernel old machine turn e low here t h =
      subst (λ (n : ℕ). SaidIn c (told_by n (old.trace ++ records_by by turn.told)) (machine.begun + 1) (client_at n turn)) (eqb-true by kernel e)
      (subst (λ (es : List Event). SaidIn c es (machine.begun + 1) (client_at by turn)) (sym (told_own_more old.trace turn.told by)) t.turned.said)
  said_by false by kernel old machine turn e low here t h =
      subst (λ (es : List Event). SaidIn c es (machine.begun + 1) (client_at kernel turn)) (sym (told_other_more old.trace turn.told by kernel e))
      (subst (SaidIn c (told_by kernel old.trace) (machine.begun + 1)) (sym (t.turned.others kernel here (apart_of by kernel e)))
      (said_on (client_at kernel old.state) c (told_by kernel old.trace) (old.wire.machine.begun + 1) (machine.begun + 1) (let more = t.turned.more in omega arith) (h.each kernel here)))

  turn_stands : (by : ℕ) (old now : At L) (turn : State) → 1 ≤ by → Reached faults asked c begun old → TurnSays c by (told_by by old.trace) old.state old.wire.machine now.wire.machine turn → now.state ≡ begun_turn turn → now.trace ≡ old.trace ++ records_by by turn.told → Stands c old.wire.machine old.state old.trace → Stands c now.wire.machine now.state now.trace
  turn_stands by old now turn low reached t stands written h =
      subst (λ (u : State). Stands c now.wire.machine u now.trace) (sym stands) (subst (λ (trace : List Rec). Stands c now.wire.machine (begun_turn turn) trace) (sym written) (record {
        each = λ kernel here. said_by (by == kernel) by kernel old now.wire.machine turn refl low here t h;
        caused = more_caused old by turn.told low reached t.servers h;
      }))

  leads : (old : At L) → Reached faults asked c begun old → Leads c old.wire.machine
  leads old reached tx call reply packet path known answered reads is = redirects_lead faults asked c begun old tx call reply packet path reached known answered reads is

  same_stands : (old now : At L) → now.wire ≡ old.wire → ((kernel : ℕ) → client_at kernel now.state ≡ client_at kernel old.state) → now.trace ≡ old.trace → Stands c old.wire.machine old.state old.trace → Stands c now.wire.machine now.state now.trace
  same_stands old now wire same written h = subst (λ (w : Wired L). Stands c w.machine now.state now.trace) (sym wire) (subst (λ (trace : List Rec). Stands c old.wire.machine now.state trace) (sym written) (record {
    each = λ kernel here. subst (SaidIn c (told_by kernel old.trace) (old.wire.machine.begun + 1)) (sym (same kernel)) (h.each kernel here);
    caused = h.caused;
  }))

  begun_same : (o : Option Job) (kernel other : ℕ) (s : State) → client_at other (begun_by kernel o s) ≡ client_at other s
  begun_same None kernel other s = refl
  begun_same (Some job) kernel other s = refl

  lost_same : (what : BurstOutcome) (kernel other : ℕ) (b : Burst) (old new : Wired L) (s t : State) → what ≡ outcome.Stale → EndsAs faults asked c kernel b what old new s t → client_at other t ≡ client_at other s
  lost_same outcome.Stale kernel other b old new s t is g = ap (client_at other) g.2
  lost_same outcome.Done kernel other b old new s t is g = absurd (cc)
  lost_same (outcome.Took said) kernel other b old new s t is g = absurd (cc)

  lost_wire : (what : BurstOutcome) (kernel : ℕ) (b : Burst) (old new : Wired L) (s t : State) → what ≡ outcome.Stale → EndsAs faults asked c kernel b what old new s t → new ≡ old
  lost_wire outcome.Stale kernel b old new s t is g = g.1
  lost_wire outcome.Done kernel b old new s t is g = absurd (cc)
  lost_wire (outcome.Took said) kernel b old new s t is g = absurd (cc)

  stands_last : Lasts faults asked c begun (λ (at : At L). Stands c at.wire.machine at.state at.trace)
  stands_last = record {
    begins = λ first b. subst (λ (trace : List Rec). Stands c first.wire.machine first.state trace) (sym b.none) (record {
      each = λ kernel low. booted c.kernels first.state.kernels c 1 (first.wire.machine.begun + 1) (kernel - 1) b.boots.kernels_are;
      caused = none_caused c;
    });
    chose = λ kernel choice old now reached goes h. turn_stands kernel old now goes.changes.turn goes.low reached
        (choice_says c root kernel goes.low (told_by kernel old.trace) old.state faults asked old.wire (h.each kernel goes.low) choice now.wire goes.changes.turn (leads old reached) goes.changes.happens) goes.changes.stands goes.changes.written h;
    began = λ kernel old now reached goes h. same_stands old now goes.changes.same_wire (λ other. ap (client_at other) goes.changes.begun ∙ begun_same (job_at c kernel old.state) kernel other old.state) goes.changes.not_written h;
    took = λ kernel b old now reached goes h. turn_stands kernel old now goes.changes.turn goes.low reached
        (burst_says c root kernel goes.low (told_by kernel old.trace) old.state faults asked old.wire (h.each kernel goes.low) goes.changes.ends.what b now.wire goes.changes.turn goes.changes.ends.ends) goes.changes.stands goes.changes.written h;
    lost = λ kernel b old now reached goes h. let stale = not_counted goes.changes.ends.what goes.changes.ends.is_counted in
        same_stands old now (lost_wire goes.changes.ends.what kernel b old.wire now.wire (begun_turn old.state) now.state stale goes.changes.ends.ends) (λ other. lost_same goes.changes.ends.what kernel other b old.wire now.wire (begun_turn old.state) now.state stale goes.changes.ends.ends) goes.changes.not_written h;
  }

  all_stand : (now : At L) → Reached faults asked c begun now → Stands c now.wire.machine now.state now.trace
  all_stand now reached = lasts_on faults asked c begun (λ (at : At L). Stands c at.wire.machine at.state at.trace) now stands_last reached

pub unreachable_so : {L : Type 0} (faults asked : L → ℕ → ℕ → ℕ) → UnreachableForCause faults asked
unreachable_so faults asked c begun now lawful reached = rule_kept c now.trace (all_stand faults asked c begun (root_is lawful) now reached).caused
  where
    root_is : Lawful c → is_domain c [] ≡ true
    root_is lawful = lawful.the_root
