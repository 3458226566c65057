-- The homes' tables at the start, and behind the entries that aren't a home's.
use Rattle.std.proofs.Common.{◌≡◌, ◌≤◌, ◌<◌, ◌+◌, ◌-◌, ◌==◌, ℕ, zero, suc, Bool, true, false, ◌||◌, cond, List, [], ◌∷◌, ◌++◌, length, replicate, slice_get, Option, Some, None, refl, sym, ap, ap₂, subst, ◌∙◌, arith, length-append}
use Rattle.std.proofs.lemmas.Bool.{true≢false, eq-eqb, eqb-true}
use Rattle.std.proofs.lemmas.List.Sums.{count_by-le-length, length-filter}
use Rattle.sprite_ids.specs.Pid.{home_of}
use Rattle.process_machine.specs.declared.call.Call.{Call}
use Rattle.process_machine.specs.declared.program.Program.{Program}
use Rattle.process_machine.specs.Fresh.{fresh_machine}
use Rattle.home_table.specs.declared.Birth.{Birth}
use Rattle.home_table.specs.declared.Life.TheVariants.{Living}
use Rattle.home_table.specs.Home.{Table, born, pid_at}
use Rattle.unix_calls.specs.declared.Entry.{Entry}
use Rattle.unix_calls.specs.declared.ProgramLine.{ProgramLine}
use Rattle.unix_calls.specs.declared.StartLine.{StartLine}
use Rattle.unix_calls.specs.declared.state.Node.{Node}
use Rattle.unix_calls.specs.declared.state.Process.{Process}
use Rattle.unix_calls.specs.Tree.{node_at}
use Rattle.unix_calls.specs.State.{Unix, births, next_pid, process_at, put_process, with_process}
use Rattle.unix_calls.specs.Answers.{program_at, replied}
use Rattle.unix_calls.specs.NameCalls.{moved_to}
use Rattle.unix_calls.specs.Opening.{cut}
use Rattle.unix_calls.specs.Boot.{boot_of, new_process, started, started_by}
use Rattle.unix_calls.specs.After.{counted, fetched}
use Rattle.unix_calls.specs.Laws.{is_last_call}
use Rattle.unix_calls.proofs.ProcessLaws.{ascending_put, found_pid, put_there}
use Rattle.unix_frames.specs.Frames.{is_tick, is_wait_call}
use Rattle.unix_frames.specs.Order.{AreInOrder, Ascending}
use Rattle.unix_frames.proofs.ChangeLaws.{Change, Itself, Freed, Doubled, EndedSo, Ticked, Born, WaitedFor, KilledSo, MadeDirectory, RemovedDirectory, Unlinked, Renamed, OpenedFile, OpenedDevice, CreatedFile, MadeDevice, MovedTo, Wrote, Handled}
use Rattle.unix_frames.proofs.ChangeLaws as changes
use Rattle.unix_frames.proofs.StepLaws.{At, Step, Calls, Asks, Fetches, Dies, entered}
use Rattle.unix_frames.proofs.OrderLaws.{states_are_in_order, length_put}
use Rattle.home_laws.specs.Homes.{AreBorn, IsBorn, TellsTheSame, of_home}
use Rattle.home_laws.specs.Start.{StartsAsOne, TablesGoOn, first_table, is_fork, is_kill, is_of_home, is_of_homes, with_line, with_lines, with_start}
use Rattle.home_laws.proofs.BornLaws.{born_count, elsewhere_put, here_put, home_is, put_born, zero_on}
use Rattle.home_laws.proofs.LeadLaws.{Alike, put_alike, told_of}

-- ---- the start

-- what holds from line to line: the table's births are the processes so far
record Begun (table : Table) (ps : List Process) : Type 0 where
  pub ascending : Ascending ps
  pub births : AreBorn table.home 0 table.births (of_home table.home ps)
  pub ticks : table.ticks ≡ 0

births_so : (table : Table) (ps : List Process) → Begun table ps → births ps table.home ≡ length table.births
births_so table ps h = sym (length-filter (λ (p : Process). home_of p.pid == table.home) ps) ∙ born_count table.home 0 table.births (of_home table.home ps) h.births

next_of : (host : ℕ) (ps : List Process) → pid_at host (births ps host) ≡ next_pid ps host
next_of host ps = omega arith

begins_here : (table : Table) (ps : List Process) (line : StartLine) (program : Program) → length ps < 200 → line.host ≡ table.home → Begun table ps
    → Begun (born table None) (put_process (new_process (next_pid ps line.host) (fresh_machine program line.arg)) ps)
begins_here table ps line program few mine h =
    let new = new_process (next_pid ps line.host) (fresh_machine program line.arg) in
    let b : Birth = record { parent = None; place = table.home; life = Living false } in
    let many = births_so table ps h in
    let most = count_by-le-length (λ (p : Process). home_of p.pid == table.home) ps in
    let number : new.pid ≡ pid_at table.home (length table.births) = sym (next_of line.host ps) ∙ ap (λ n. pid_at n (births ps n)) mine ∙ ap (pid_at table.home) many in
    let within : length table.births < 200 = omega (arith, few, many, most) in
    let home : home_of new.pid ≡ table.home = ap home_of number ∙ home_is table.home (length table.births) within in
    let is : IsBorn table.home (length table.births) b new = record { pid = number; parent = refl; ending = refl; waited = refl; killed = λ lives. refl } in
    record {
      ascending = ascending_put new ps h.ascending;
      births = subst (AreBorn table.home 0 (table.births ++ b ∷ [])) (sym (here_put table.home new ps h.ascending (eq-eqb _ _ home)))
          (put_born table.home 0 table.births (of_home table.home ps) b new h.births (subst (λ n. IsBorn table.home n b new) (sym (zero_on (length table.births))) is));
      ticks = h.ticks;
    }

begins_elsewhere : (table : Table) (ps : List Process) (line : StartLine) (program : Program) → length ps < 200 → (line.host == table.home) ≡ false → Begun table ps
    → Begun table (put_process (new_process (next_pid ps line.host) (fresh_machine program line.arg)) ps)
begins_elsewhere table ps line program few apart h =
    let new = new_process (next_pid ps line.host) (fresh_machine program line.arg) in
    let most = count_by-le-length (λ (p : Process). home_of p.pid == line.host) ps in
    let home : home_of new.pid ≡ line.host = ap home_of (sym (next_of line.host ps)) ∙ home_is line.host (births ps line.host) (omega (arith, few, most)) in
    record {
      ascending = ascending_put new ps h.ascending;
      births = subst (AreBorn table.home 0 table.births) (sym (elsewhere_put table.home new ps (ap (λ n. n == table.home) home ∙ apart))) h.births;
      ticks = h.ticks;
    }

begins_line : (programs : List ProgramLine) (table : Table) (ps : List Process) (line : StartLine) → length ps < 200 → Begun table ps → Begun (with_line programs line table) (started_by line ps (program_at programs line.program))
begins_line programs table ps line few h = by (program_at programs line.program) (line.host == table.home) refl
  where
    by : (found : Option Program) (mine : Bool) → (line.host == table.home) ≡ mine → Begun (cond mine (with_start table found) table) (started_by line ps found)
    by None true is = h
    by None false is = h
    by (Some program) true is = begins_here table ps line program few (eqb-true line.host table.home is) h
    by (Some program) false is = begins_elsewhere table ps line program few is h

begins_all : (programs : List ProgramLine) (table : Table) (ps : List Process) (lines : List StartLine) → length ps + length lines ≤ 200 → Begun table ps → Begun (with_lines programs lines table) (started programs ps lines)
begins_all programs table ps [] few h = h
begins_all programs table ps (line ∷ lines) few h =
    begins_all programs (with_line programs line table) (started_by line ps (program_at programs line.program)) lines (by (program_at programs line.program)) (begins_line programs table ps line (omega (arith, few)) h)
  where
    by : (found : Option Program) → length (started_by line ps found) + length lines ≤ 200
    by None = omega (arith, few)
    by (Some program) = let more = length_put (new_process (next_pid ps line.host) (fresh_machine program line.arg)) ps in omega (arith, few, more)

-- the home of a table stays
pub home_stays : (programs : List ProgramLine) (table : Table) (lines : List StartLine) → (with_lines programs lines table).home ≡ table.home
home_stays programs table [] = refl
home_stays programs table (line ∷ lines) = home_stays programs (with_line programs line table) lines ∙ by (program_at programs line.program) (line.host == table.home)
  where
    by : (found : Option Program) (mine : Bool) → (cond mine (with_start table found) table).home ≡ table.home
    by None true = refl
    by None false = refl
    by (Some program) true = refl
    by (Some program) false = refl

-- and so few are born
few_born : (programs : List ProgramLine) (table : Table) (lines : List StartLine) → length (with_lines programs lines table).births ≤ length table.births + length lines
few_born programs table [] = omega arith
few_born programs table (line ∷ lines) =
    let rest = few_born programs (with_line programs line table) lines in
    let one = by (program_at programs line.program) (line.host == table.home) in
    omega (arith, rest, one)
  where
    by : (found : Option Program) (mine : Bool) → length (cond mine (with_start table found) table).births ≤ 1 + length table.births
    by None true = omega arith
    by None false = omega arith
    by (Some program) true = let more = length-append table.births (record { parent = None; place = table.home; life = Living false } ∷ []) in omega (arith, more)
    by (Some program) false = omega arith

got_replicated : (n i : ℕ) → i < n → slice_get {X = ℕ} (replicate n 0) i ≡ Some 0
got_replicated zero i h = absurd (omega (arith, h))
got_replicated (suc n) zero h = refl
got_replicated (suc n) (suc i) h = got_replicated n i (omega (arith, h))

pub starts_as_one : StartsAsOne
starts_as_one c home few from to =
    let table = first_table c home in
    let is : table.home ≡ home = home_stays c.programs (record { home = home; births = []; ticks = 0 }) c.starts in
    let begun : Begun table (boot_of c).processes = begins_all c.programs (record { home = home; births = []; ticks = 0 }) [] c.starts (omega (arith, few)) (record { ascending = tt; births = tt; ticks = refl }) in
    let born_few = few_born c.programs (record { home = home; births = []; ticks = 0 }) c.starts in
    record {
      order = states_are_in_order c [] (boot_of c) few refl;
      same = record {
        numbered = subst (λ n. 1 ≤ n) (sym is) from;
        few = omega (arith, born_few, few);
        births = begun.births;
        ticks = ap (λ n. slice_get {X = ℕ} (replicate (length c.kernels) 0) (n - 1)) is ∙ got_replicated (length c.kernels) (home - 1) (omega (arith, from, to)) ∙ ap Some (sym begun.ticks);
      };
    }

-- ---- the entries that aren't a home's

alike_of : (p r : Process) → changes.Alike p r → Alike p r
alike_of p r h = record { pid = h.pid; parent = h.parent; ending = h.ending; waited = h.waited; killed = h.killed }

-- the caller alone is put, into a state of the same processes and counts of ticks
quiet : (table : Table) (u w later : Unix) (p r : Process) → AreInOrder u.processes → process_at u.processes p.pid ≡ Some p → Alike p r → w.processes ≡ u.processes → w.ticks ≡ u.ticks → later ≡ with_process r w → TellsTheSame table u → TellsTheSame table later
quiet table u w later p r order there alike ps ticks e h =
    subst (TellsTheSame table) (sym e)
    (put_alike table w p r (subst AreInOrder (sym ps) order) (ap (λ (l : List Process). process_at l p.pid) ps ∙ there) alike (told_of table u w ps ticks h))

first_of_five : (a b c d e : Bool) → a || b || c || d || e ≡ false → a ≡ false
first_of_five true b c d e h = absurd (true≢false h)
first_of_five false b c d e h = refl

second_of_five : (a b c d e : Bool) → a || b || c || d || e ≡ false → b ≡ false
second_of_five true b c d e h = absurd (true≢false h)
second_of_five false true c d e h = absurd (true≢false h)
second_of_five false false c d e h = refl

changed_quietly : (table : Table) (u : Unix) (p : Process) (called : Call) (later : Unix) → Change u p called later → is_of_homes called ≡ false → AreInOrder u.processes → process_at u.processes p.pid ≡ Some p → TellsTheSame table u → TellsTheSame table later
changed_quietly table u p called later (Itself r still e) no_home order there h = quiet table u u later p r order there (alike_of p r still.alike) refl refl e h
changed_quietly table u p called later (Freed fd r is leads e) no_home order there h = quiet table u u later p r order there (alike_of p r leads.alike) refl refl e h
changed_quietly table u p called later (Doubled fd free stream r is found free_is leads e) no_home order there h = quiet table u u later p r order there (alike_of p r leads.alike) refl refl e h
changed_quietly table u p called later (EndedSo how is e) no_home order there h =
    absurd (true≢false (sym is ∙ first_of_five (is_last_call called) (is_tick called) (is_fork called) (is_wait_call called) (is_kill called) no_home))
changed_quietly table u p called later (Ticked count r is still e) no_home order there h =
    absurd (true≢false (sym (ap is_tick is) ∙ second_of_five (is_last_call called) (is_tick called) (is_fork called) (is_wait_call called) (is_kill called) no_home))
changed_quietly table u p called later (Born r is few still child number parent descriptors e) no_home order there h = absurd (true≢false (sym (ap is_of_homes is) ∙ no_home))
changed_quietly table u p called later (WaitedFor first r is among still e) no_home order there h = absurd (true≢false (sym (ap is_of_homes is) ∙ no_home))
changed_quietly table u p called later (KilledSo target r is among killed e) no_home order there h = absurd (true≢false (sym (ap is_of_homes is) ∙ no_home))
changed_quietly table u p called later (MadeDirectory path r is free still e) no_home order there h = quiet table u _ later p r order there (alike_of p r still.alike) refl refl e h
changed_quietly table u p called later (RemovedDirectory path r is free still e) no_home order there h = quiet table u _ later p r order there (alike_of p r still.alike) refl refl e h
changed_quietly table u p called later (Unlinked path r is free still e) no_home order there h = quiet table u _ later p r order there (alike_of p r still.alike) refl refl e h
changed_quietly table u p called later (Renamed old new r is free still e) no_home order there h =
    quiet table u (moved_to old new (node_at u.nodes old) u) later p r order there (alike_of p r still.alike) (by (node_at u.nodes old)).0 (by (node_at u.nodes old)).1 e h
  where
    by : (node : Option Node) → ((moved_to old new node u).processes ≡ u.processes) × ((moved_to old new node u).ticks ≡ u.ticks)
    by None = (refl, refl)
    by (Some node) = (refl, refl)
changed_quietly table u p called later (OpenedFile path fd name truncates appends m r is found free leads e) no_home order there h =
    quiet table u _ later p r order there (alike_of p r leads.alike) (by truncates).0 (by truncates).1 e h
  where
    by : (b : Bool) → ((cut b name u).processes ≡ u.processes) × ((cut b name u).ticks ≡ u.ticks)
    by true = (refl, refl)
    by false = (refl, refl)
changed_quietly table u p called later (OpenedDevice path fd place appends m r is found free leads e) no_home order there h = quiet table u _ later p r order there (alike_of p r leads.alike) refl refl e h
changed_quietly table u p called later (CreatedFile path fd appends m r is way found free leads e) no_home order there h = quiet table u _ later p r order there (alike_of p r leads.alike) refl refl e h
changed_quietly table u p called later (MadeDevice path fd r is fresh free leads e) no_home order there h = quiet table u _ later p r order there (alike_of p r leads.alike) refl refl e h
changed_quietly table u p called later (MovedTo fd offset stream r is found still e) no_home order there h = quiet table u _ later p r order there (alike_of p r still.alike) refl refl e h
changed_quietly table u p called later (Wrote fd offset stream name bytes r is found object still e) no_home order there h = quiet table u _ later p r order there (alike_of p r still.alike) refl refl e h
changed_quietly table u p called later (Handled place device new r is found same_place still e) no_home order there h = quiet table u _ later p r order there (alike_of p r still.alike) refl refl e h

-- the process stands at its call
put_at_call : (table : Table) (u : Unix) (e : Entry) (q : Process) → At u e.pid q → AreInOrder u.processes → TellsTheSame table u → AreInOrder (with_process q u).processes × TellsTheSame table (with_process q u)
put_at_call table u e q at order h =
    let before = at.before in
    let there : process_at u.processes before.pid ≡ Some before = subst (λ n. process_at u.processes n ≡ Some before) (sym (found_pid u.processes e.pid before at.there)) at.there in
    let alike : Alike before q = record { pid = ap (λ (x : Process). x.pid) at.whole; parent = ap (λ (x : Process). x.parent) at.whole; ending = ap (λ (x : Process). x.ending) at.whole; waited = ap (λ (x : Process). x.waited) at.whole; killed = ap (λ (x : Process). x.killed) at.whole } in
    let leads = Rattle.home_laws.proofs.LeadLaws.leads_alike table u before q order h there alike in
    (leads.order, leads.same)

told_counted : (table : Table) (later v : Unix) → v ≡ counted later → TellsTheSame table later → TellsTheSame table v
told_counted table later v e h = subst (TellsTheSame table) (sym e) (told_of table later (counted later) refl refl h)

pub tables_go_on : TablesGoOn
tables_go_on c u v e table order is no_home h =
    let entry = entered c u v e is in
    told_counted table entry.later v entry.whole (by entry.later entry.step)
  where
    still : (q r : Process) → r.pid ≡ q.pid → r.parent ≡ q.parent → r.ending ≡ q.ending → r.waited ≡ q.waited → r.killed ≡ q.killed → Alike q r
    still q r pid parent ending waited killed = record { pid = pid; parent = parent; ending = ending; waited = waited; killed = killed }

    by : (later : Unix) → Step c u e later → TellsTheSame table later
    by later (Calls q called at is whole change) =
        let two = put_at_call table u e q at order h in
        changed_quietly table (with_process q u) q called later change (sym (ap₂ is_of_home whole is) ∙ no_home) two.0 (put_there q u.processes) two.1
    by later (Asks q called place device at is ask there e_is) =
        let two = put_at_call table u e q at order h in
        quiet table (with_process q u) _ later q (record q { asking = Some device.place }) two.0 (put_there q u.processes) (still q (record q { asking = Some device.place }) refl refl refl refl refl) refl refl e_is two.1
    by later (Fetches q called device reply at is done e_is) =
        let two = put_at_call table u e q at order h in
        quiet table (with_process q u) (fetched (with_process q u) q device) later q (replied c q reply) two.0 (put_there q u.processes) (still q (replied c q reply) refl refl refl refl refl) refl refl e_is two.1
    by later (Dies p there alive none dead e_is) = absurd (true≢false (sym (ap (λ k. is_of_home k e.call) dead) ∙ no_home))
