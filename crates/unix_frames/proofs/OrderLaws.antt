-- How the processes stand in each state of a history.
use Rattle.std.proofs.Common.{◌≡◌, ◌≢◌, ◌≤◌, ◌<◌, ◌+◌, ◌*◌, ℕ, Bool, true, false, List, [], ◌∷◌, length, Option, Some, None, refl, sym, ap, subst, ◌∙◌, arith}
use Rattle.std.specs.List.{AllByRecursion}
use Rattle.std.proofs.lemmas.Nat.{div-mul-add}
use Rattle.std.proofs.lemmas.List.Sums.{count_by-le-length}
use Rattle.std.proofs.Math.Nat.{div-add-mod}
use Rattle.std.specs.Prelude.{◌==◌}
use Rattle.sprite_ids.specs.Pid.{home_of, birth_of}
use Rattle.sprite_ids.specs.declared.Ending.TheVariants as ending
use Rattle.process_machine.specs.declared.call.Call.{Call}
use Rattle.process_machine.specs.declared.program.Program.{Program}
use Rattle.process_machine.specs.Fresh.{fresh_machine}
use Rattle.unix_calls.specs.declared.Description.{Description}
use Rattle.unix_calls.specs.declared.Entry.{Entry}
use Rattle.unix_calls.specs.declared.ProgramLine.{ProgramLine}
use Rattle.unix_calls.specs.declared.StartLine.{StartLine}
use Rattle.unix_calls.specs.declared.state.Node.{Node}
use Rattle.unix_calls.specs.declared.state.Process.{Process}
use Rattle.unix_calls.specs.Tree.{node_at}
use Rattle.unix_calls.specs.State.{Unix, births, next_pid, no_descriptors, put_process, with_process}
use Rattle.unix_calls.specs.Answers.{program_at, replied}
use Rattle.unix_calls.specs.ProcessCalls.{ended, with_kill}
use Rattle.unix_calls.specs.NameCalls.{moved_to}
use Rattle.unix_calls.specs.Opening.{cut}
use Rattle.unix_calls.specs.Boot.{new_process, started, started_by}
use Rattle.unix_calls.specs.After.{after, fetched}
use Rattle.unix_calls.proofs.OutcomeLaws.{IsAmong}
use Rattle.unix_calls.proofs.ProcessLaws.{each_put, found_each}
use Rattle.unix_calls.proofs.NumberLaws.{Numbered, boot_numbered}
use Rattle.unix_calls.proofs.EndLaws.{numbered_after}
use Rattle.unix_calls.proofs.HistoryLaws.{kept}
use Rattle.unix_frames.specs.Order.{IsKin, IsNumbered, IsOfHome, StatesAreInOrder}
use Rattle.unix_frames.proofs.ChangeLaws.{Change, Itself, Freed, Doubled, EndedSo, Ticked, Born, WaitedFor, KilledSo, MadeDirectory, RemovedDirectory, Unlinked, Renamed, OpenedFile, OpenedDevice, CreatedFile, MadeDevice, MovedTo, Wrote, Handled}
use Rattle.unix_frames.proofs.StepLaws.{At, Step, Calls, Asks, Fetches, Dies, entered}

-- a process has a birth's number, and its parent's home
abbrev pub IsSound : Process → Type 0
IsSound p = IsNumbered p × IsKin p

sound_by : (p r : Process) → r.pid ≡ p.pid → r.parent ≡ p.parent → IsSound p → IsSound r
sound_by p r pid parent h =
    (subst (λ n. 1 ≤ birth_of n) (sym pid) h.0, subst (λ n. IsOfHome n r.parent) (sym pid) (subst (IsOfHome p.pid) (sym parent) h.1))

pub next_home : (home count : ℕ) → count < 200 → home_of (1000 * home + (1 + count)) ≡ home
next_home home count few =
    let parts : 1000 * home + (1 + count) ≡ home * 1000 + (1 + count) = omega arith in
    ap home_of parts ∙ div-mul-add home 1000 (1 + count) (omega (arith, few))

next_birth : (home count : ℕ) → count < 200 → 1 ≤ birth_of (1000 * home + (1 + count))
next_birth home count few =
    let h = next_home home count few in
    let whole = div-add-mod (1000 * home + (1 + count)) 1000 in
    omega (arith, h, whole)

-- each of the processes is so
abbrev pub AreSound : Unix → Type 0
AreSound u = AllByRecursion IsSound u.processes

put_sound : (w later : Unix) (r : Process) → later ≡ with_process r w → IsSound r → AreSound w → AreSound later
put_sound w later r e own h = subst AreSound (sym e) (each_put IsSound r w.processes own h)

among_sound : (ps : List Process) (q : Process) → AllByRecursion IsSound ps → IsAmong q ps → IsSound q
among_sound [] q h among = absurd among
among_sound (p ∷ ps) q h (Rattle.std.proofs.Common.inl same) = subst IsSound same h.0
among_sound (p ∷ ps) q h (Rattle.std.proofs.Common.inr among) = among_sound ps q h.1 among

changed_sound : (u : Unix) (p : Process) (called : Call) (later : Unix) → Change u p called later → IsSound p → AreSound u → AreSound later
changed_sound u p called later (Itself r still e) own h = put_sound u later r e (sound_by p r still.alike.pid still.alike.parent own) h
changed_sound u p called later (Freed fd r is leads e) own h = put_sound u later r e (sound_by p r leads.alike.pid leads.alike.parent own) h
changed_sound u p called later (Doubled fd free stream r is found free_is leads e) own h = put_sound u later r e (sound_by p r leads.alike.pid leads.alike.parent own) h
changed_sound u p called later (EndedSo how is e) own h = put_sound u later (ended p how) e (sound_by p (ended p how) refl refl own) h
changed_sound u p called later (Ticked count r is still e) own h = put_sound _ later r e (sound_by p r still.alike.pid still.alike.parent own) h
changed_sound u p called later (Born r is few still child number parent descriptors e) own h =
    let home = home_of p.pid in
    let at_home : home_of child.pid ≡ home = ap home_of number ∙ next_home home (births u.processes home) few in
    let born : IsSound child = (subst (λ n. 1 ≤ birth_of n) (sym number) (next_birth home (births u.processes home) few), subst (IsOfHome child.pid) (sym parent) (sym at_home, own.0)) in
    put_sound (with_process child u) later r e (sound_by p r still.alike.pid still.alike.parent own) (each_put IsSound child u.processes born h)
changed_sound u p called later (WaitedFor first r is among still e) own h =
    put_sound (with_process (record first { waited = true }) u) later r e (sound_by p r still.alike.pid still.alike.parent own)
    (each_put IsSound (record first { waited = true }) u.processes (sound_by first (record first { waited = true }) refl refl (among_sound u.processes first h among)) h)
changed_sound u p called later (KilledSo target r is among killed e) own h =
    put_sound (with_kill target u) later r e (sound_by p r killed.pid killed.parent own)
    (each_put IsSound (record target { killed = true }) u.processes (sound_by target (record target { killed = true }) refl refl (among_sound u.processes target h among)) h)
changed_sound u p called later (MadeDirectory path r is free still e) own h = put_sound _ later r e (sound_by p r still.alike.pid still.alike.parent own) h
changed_sound u p called later (RemovedDirectory path r is free still e) own h = put_sound _ later r e (sound_by p r still.alike.pid still.alike.parent own) h
changed_sound u p called later (Unlinked path r is free still e) own h = put_sound _ later r e (sound_by p r still.alike.pid still.alike.parent own) h
changed_sound u p called later (Renamed old new r is free still e) own h = put_sound (moved_to old new (node_at u.nodes old) u) later r e (sound_by p r still.alike.pid still.alike.parent own) (by (node_at u.nodes old))
  where
    by : (node : Option Node) → AreSound (moved_to old new node u)
    by None = h
    by (Some node) = h
changed_sound u p called later (OpenedFile path fd name truncates appends m r is found free leads e) own h = put_sound _ later r e (sound_by p r leads.alike.pid leads.alike.parent own) (by truncates)
  where
    by : (b : Bool) → AreSound (cut b name u)
    by true = h
    by false = h
changed_sound u p called later (OpenedDevice path fd place appends m r is found free leads e) own h = put_sound _ later r e (sound_by p r leads.alike.pid leads.alike.parent own) h
changed_sound u p called later (CreatedFile path fd appends m r is way found free leads e) own h = put_sound _ later r e (sound_by p r leads.alike.pid leads.alike.parent own) h
changed_sound u p called later (MadeDevice path fd r is fresh free leads e) own h = put_sound _ later r e (sound_by p r leads.alike.pid leads.alike.parent own) h
changed_sound u p called later (MovedTo fd offset stream r is found still e) own h = put_sound _ later r e (sound_by p r still.alike.pid still.alike.parent own) h
changed_sound u p called later (Wrote fd offset stream name bytes r is found object still e) own h = put_sound _ later r e (sound_by p r still.alike.pid still.alike.parent own) h
changed_sound u p called later (Handled place device new r is found same_place still e) own h = put_sound _ later r e (sound_by p r still.alike.pid still.alike.parent own) h

at_sound : (u : Unix) (pid : ℕ) (q : Process) → At u pid q → AreSound u → IsSound q
at_sound u pid q at h = sound_by at.before q (ap (λ (x : Process). x.pid) at.whole) (ap (λ (x : Process). x.parent) at.whole) (found_each IsSound u.processes pid at.before h at.there)

step_sound : (c : Description) (u later : Unix) (e : Entry) → Step c u e later → AreSound u → AreSound later
step_sound c u later e (Calls q called at is whole change) h =
    let own = at_sound u e.pid q at h in changed_sound (with_process q u) q called later change own (each_put IsSound q u.processes own h)
step_sound c u later e (Asks q called place device at is ask there e_is) h =
    let own = at_sound u e.pid q at h in put_sound _ later (record q { asking = Some device.place }) e_is own (each_put IsSound q u.processes own h)
step_sound c u later e (Fetches q called device reply at is done e_is) h =
    let own = at_sound u e.pid q at h in put_sound (fetched (with_process q u) q device) later (replied c q reply) e_is own (each_put IsSound q u.processes own h)
step_sound c u later e (Dies p there alive none dead e_is) h =
    put_sound u later (record p { descriptors = no_descriptors; ending = Some ending.Killed }) e_is (found_each IsSound u.processes e.pid p h there) h

sound_after : (c : Description) (u v : Unix) (e : Entry) → after c u e ≡ Some v → AreSound u → AreSound v
sound_after c u v e is h =
    let entry = entered c u v e is in
    subst AreSound (sym entry.whole) (step_sound c u entry.later e entry.step h)

-- ---- the start

pub length_put : (r : Process) (ps : List Process) → length (put_process r ps) ≤ 1 + length ps
length_put r [] = omega arith
length_put r (q ∷ qs) = by (r.pid == q.pid) (Rattle.std.specs.Prelude.nat_lt r.pid q.pid) (length_put r qs)
  where
    by : (same before : Bool) → length (put_process r qs) ≤ 1 + length qs → length (Rattle.std.proofs.Common.cond same (r ∷ qs) (Rattle.std.proofs.Common.cond before (r ∷ q ∷ qs) (q ∷ put_process r qs))) ≤ 1 + length (q ∷ qs)
    by true before h = omega arith
    by false true h = omega arith
    by false false h = omega (arith, h)

started_sound : (programs : List ProgramLine) (ps : List Process) (lines : List StartLine) → length ps + length lines ≤ 200 → AllByRecursion IsSound ps → AllByRecursion IsSound (started programs ps lines)
started_sound programs ps [] few h = h
started_sound programs ps (line ∷ lines) few h = by (program_at programs line.program) (λ qs. started_sound programs qs lines)
  where
    count : births ps line.host ≤ length ps
    count = count_by-le-length (λ (p : Process). home_of p.pid == line.host) ps

    by : (found : Option Program) → ((qs : List Process) → length qs + length lines ≤ 200 → AllByRecursion IsSound qs → AllByRecursion IsSound (started programs qs lines)) → AllByRecursion IsSound (started programs (started_by line ps found) lines)
    by None rest = rest ps (omega (arith, few)) h
    by (Some program) rest =
        let new = new_process (next_pid ps line.host) (fresh_machine program line.arg) in
        rest (put_process new ps) (omega (arith, few, length_put new ps)) (each_put IsSound new ps (next_birth line.host (births ps line.host) (omega (arith, few, count)), tt) h)

second : (ps : List Process) → AllByRecursion IsSound ps → AllByRecursion IsKin ps
second [] h = tt
second (p ∷ ps) h = (h.0.1, second ps h.1)

pub states_are_in_order : StatesAreInOrder
states_are_in_order c journal u few is =
    let numbered : Numbered u.processes = kept c (λ (w : Unix). Numbered w.processes) (λ w x e so h. numbered_after c w x e so h) journal u (boot_numbered c few) is in
    let sound : AreSound u = kept c AreSound (sound_after c) journal u (started_sound c.programs [] c.starts (omega (arith, few)) tt) is in
    record { ascending = numbered.ascending; kin = second u.processes sound }
