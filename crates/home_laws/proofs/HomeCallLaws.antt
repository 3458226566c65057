-- The calls that a home answers, each in the one-kernel Unix.
use Rattle.std.proofs.Common.{◌≡◌, ◌<◌, ◌+◌, ◌-◌, ◌*◌, ◌==◌, ℕ, Bool, true, false, cond, not, nat_le, nat_lt, List, ◌++◌, length, slice_get, slice_set, Option, Some, None, option_map, refl, sym, ap, subst, ◌∙◌, arith}
use Rattle.std.specs.Prelude.{slice_index}
use Rattle.std.specs.Option.{option_and_then, is_some}
use Rattle.std.proofs.lemmas.Bool.{true≢false, leb-false}
use Rattle.std.proofs.lemmas.List.Sums.{length-filter}
use Rattle.std.proofs.lemmas.Option.{get_or_from_slice_get}
use Rattle.sprite_ids.specs.Pid.{home_of}
use Rattle.sprite_ids.specs.declared.Errno.TheVariants as errno
use Rattle.sprite_ids.specs.declared.Ending.{Ending}
use Rattle.sprite_ids.proofs.ListLaws.{get_within}
use Rattle.process_machine.specs.declared.call.Call.{Call}
use Rattle.process_machine.specs.declared.call.Call.TheVariants as call
use Rattle.process_machine.specs.declared.call.Reply.{Reply}
use Rattle.process_machine.specs.declared.call.Reply.TheVariants.{Value, Error}
use Rattle.unix_calls.specs.declared.Description.{Description}
use Rattle.unix_calls.specs.declared.state.Process.{Process}
use Rattle.unix_calls.specs.State.{Unix, process_at, with_process, lives, births, next_pid}
use Rattle.unix_calls.specs.Answers.{Answered, replied, replies, refuses, gives, nothing, value}
use Rattle.unix_calls.specs.ProcessCalls.{ended, living_number, host_named, kernel_name, ticked, child_of, forked}
use Rattle.unix_calls.specs.After.{outcome, after_whole}
use Rattle.unix_calls.proofs.ProcessLaws.{put_others, found_pid}
use Rattle.home_table.specs.declared.Birth.{Birth}
use Rattle.home_table.specs.declared.Life.{Life}
use Rattle.home_table.specs.declared.Life.TheVariants.{Living, Ended, Waited}
use Rattle.home_table.specs.Home as homes
use Rattle.home_table.specs.Home.{Table, pid_at, index_of, birth_at, is_living, is_living_at, is_so, living_parent, parent_at, parent_of, place_for, born, put}
use Rattle.unix_frames.specs.Order.{AreInOrder, IsKin, IsOfHome}
use Rattle.home_laws.specs.Homes.{of_home, ending_in, was_waited, IsBorn, TellsTheSame}
use Rattle.home_laws.specs.Answers.{is_full, number_or_zero, told_name, told_child, with_child}
use Rattle.home_laws.proofs.BornLaws.{BothBorn, born_count}
use Rattle.home_laws.proofs.LeadLaws.{Leads, leads_on, leads_alike, leads_ticked, leads_life, leads_born, Alike, known, looked_born, kin_alike}
use Rattle.home_laws.proofs.EntryLaws.{answered}
use Rattle.unix_calls.proofs.ProcessLaws.{found_each}

-- a process that stands at its call in the state, which a table tells
pub record Stands (table : Table) (w : Unix) (q : Process) : Type 0 where
  pub there : process_at w.processes q.pid ≡ Some q
  pub living : lives q ≡ true
  pub idle : q.asking ≡ None
  pub order : AreInOrder w.processes
  pub same : TellsTheSame table w

-- a call of it is entered, with that reply, and leads the table on
pub record Does (c : Description) (table new : Table) (w : Unix) (q : Process) (called : Call) (reply : Reply) : Type 0 where
  pub later : Unix
  pub does : after_whole c w q called reply ≡ Some later
  pub leads : Leads table new w later

pub kin_of : (table : Table) (w : Unix) (q : Process) → Stands table w q → IsKin q
kin_of table w q s = found_each IsKin w.processes q.pid q s.order.kin s.there

-- a call that changes nothing which a home tells
pub own_does : (c : Description) (table : Table) (w : Unix) (q r : Process) (called : Call) (reply : Reply) → Stands table w q → outcome c w q called ≡ Answered reply (with_process r w) → Alike q r → Does c table table w q called reply
own_does c table w q r called reply s is alike =
    record {
      later = with_process r w;
      does = answered c w (with_process r w) q called reply s.idle is;
      leads = leads_alike table w q r s.order s.same s.there alike;
    }

-- the call is answered, and no more
pub replied_does : (c : Description) (table : Table) (w : Unix) (q : Process) (called : Call) (reply : Reply) → Stands table w q → outcome c w q called ≡ replies c w q reply → Does c table table w q called reply
replied_does c table w q called reply s is =
    own_does c table w q (replied c q reply) called reply s is (record { pid = refl; parent = refl; ending = refl; waited = refl; killed = refl })

pub print_does : (c : Description) (table : Table) (w : Unix) (q : Process) (bytes : List ℕ) → Stands table w q → Does c table table w q (call.Print bytes) nothing
print_does c table w q bytes s =
    own_does c table w q (replied c (record q { console = q.console ++ bytes }) nothing) (call.Print bytes) nothing s refl (record { pid = refl; parent = refl; ending = refl; waited = refl; killed = refl })

-- ---- ends

pub living_life : (life : Life) (end : Option Ending) → end ≡ ending_in life → not (is_some end) ≡ true → (pending : Bool) × (life ≡ Living pending)
living_life (Living pending) end is living = (pending, refl)
living_life (Ended how) end is living = absurd (true≢false (sym (sym (ap (λ o. not (is_some o)) is) ∙ living)))
living_life (Waited how) end is living = absurd (true≢false (sym (sym (ap (λ o. not (is_some o)) is) ∙ living)))

-- a life changes where its birth is looked up
pub ended_is : (table : Table) (pid : ℕ) (how : Ending) (b : Birth) (pending : Bool) → slice_get table.births (index_of pid) ≡ Some b → b.life ≡ Living pending
    → homes.ended table pid how ≡ record table { births = slice_set table.births (index_of pid) (record b { life = Ended how }) }
ended_is table pid how b pending got life =
    ap (λ o. record table { births = homes.ending table.births (index_of pid) how (option_map (λ (birth : Birth). birth.life) o) }) got
    ∙ ap (λ l. record table { births = homes.ending table.births (index_of pid) how (Some l) }) life
    ∙ ap (λ o. record table { births = put table.births (index_of pid) (option_map {T = Birth} (λ birth. record birth { life = Ended how }) o) }) got

pub end_leads : (table : Table) (w : Unix) (q r : Process) (how : Ending) → Stands table w q → home_of q.pid ≡ table.home → r.pid ≡ q.pid → r.parent ≡ q.parent → r.waited ≡ q.waited → r.ending ≡ Some how
    → Leads table (homes.ended table q.pid how) w (with_process r w)
end_leads table w q r how s home pid parent waited ending =
    let k = known table w q.pid q s.same home s.there in
    let life = living_life k.birth.life q.ending k.born.ending s.living in
    let new : Birth = record k.birth { life = Ended how } in
    let born : IsBorn table.home (index_of q.pid) new r = record {
      pid = pid ∙ k.born.pid;
      parent = parent ∙ k.born.parent;
      ending = ending;
      waited = waited ∙ k.born.waited ∙ ap was_waited life.1;
      killed = λ lives. absurd (true≢false (sym lives));
    } in
    subst (λ t. Leads table t w (with_process r w)) (sym (ended_is table q.pid how k.birth life.0 k.got life.1))
    (leads_life table w (index_of q.pid) k.birth new r s.order s.same k.few k.got born (kin_alike q r pid parent (kin_of table w q s)))

pub end_does : (c : Description) (table : Table) (w : Unix) (q : Process) (called : Call) (how : Ending) → Stands table w q → home_of q.pid ≡ table.home → outcome c w q called ≡ Answered nothing (with_process (ended q how) w)
    → Does c table (homes.ended table q.pid how) w q called nothing
end_does c table w q called how s home is =
    record {
      later = with_process (ended q how) w;
      does = answered c w (with_process (ended q how) w) q called nothing s.idle is;
      leads = end_leads table w q (ended q how) how s home refl refl refl refl;
    }

-- ---- getppid, host and tick

parent_same : (table : Table) (w : Unix) (pid : ℕ) (o : Option ℕ) → TellsTheSame table w → home_of pid ≡ table.home → IsOfHome pid o
    → living_number (option_and_then (process_at w.processes) o) ≡ number_or_zero (living_parent table o)
parent_same table w pid None same home kin = refl
parent_same table w pid (Some parent) same home kin =
    by (birth_at table.births parent) (process_at w.processes parent) refl (looked_born table w parent same (kin.0 ∙ home) kin.1)
  where
    told : (life : Life) (p : Process) → p.pid ≡ parent → p.ending ≡ ending_in life → living_number (Some p) ≡ number_or_zero (cond (is_living life) (Some parent) None)
    told (Living pending) p number end = ap (λ o. cond (not (is_some o)) p.pid 0) end ∙ number
    told (Ended how) p number end = ap (λ o. cond (not (is_some o)) p.pid 0) end
    told (Waited how) p number end = ap (λ o. cond (not (is_some o)) p.pid 0) end

    by : (b : Option Birth) (p : Option Process) → process_at w.processes parent ≡ p → BothBorn table.home (index_of parent) b p
        → living_number p ≡ number_or_zero (cond (is_so is_living (option_map (λ (birth : Birth). birth.life) b)) (Some parent) None)
    by None None there both = refl
    by None (Some p) there both = absurd both
    by (Some b) None there both = absurd both
    by (Some b) (Some p) there both = told b.life p (found_pid w.processes parent p there) both.ending

pub getppid_does : (c : Description) (table : Table) (w : Unix) (q : Process) → Stands table w q → home_of q.pid ≡ table.home → Does c table table w q call.Getppid (value (number_or_zero (parent_at table q.pid)))
getppid_does c table w q s home =
    let k = known table w q.pid q s.same home s.there in
    let same : living_number (option_and_then (process_at w.processes) q.parent) ≡ number_or_zero (parent_at table q.pid) =
    parent_same table w q.pid q.parent s.same home (kin_of table w q s)
    ∙ ap (λ o. number_or_zero (living_parent table o)) k.born.parent
    ∙ sym (ap (λ o. number_or_zero (parent_of table o)) k.got) in
    replied_does c table w q call.Getppid (value (number_or_zero (parent_at table q.pid))) s (ap (λ n. gives c w q n) same)

pub host_does : (c : Description) (table : Table) (w : Unix) (q : Process) (max : ℕ) → Stands table w q → home_of q.pid ≡ table.home → Does c table table w q (call.Host max) (told_name (kernel_name c.kernels table.home) max)
host_does c table w q max s home =
    let name = kernel_name c.kernels table.home in
    replied_does c table w q (call.Host max) (told_name name max) s
    (ap (λ n. host_named c w q max (kernel_name c.kernels n)) home
    ∙ elim (nat_lt max (length name)) as (λ b. cond b (refuses c w q errno.Invalid) (replies c w q (Value (length name) 0 name)) ≡ replies c w q (cond b (Error errno.Invalid) (Value (length name) 0 name))) [ true ↦ refl | false ↦ refl ])

pub tick_does : (c : Description) (table : Table) (w : Unix) (q : Process) → Stands table w q → home_of q.pid ≡ table.home → Does c table (record table { ticks = table.ticks + 1 }) w q call.Tick (value (table.ticks + 1))
tick_does c table w q s home =
    let new : Table = record table { ticks = table.ticks + 1 } in
    let between : Unix = record w { ticks = slice_set w.ticks (table.home - 1) (table.ticks + 1) } in
    let r = replied c q (value (table.ticks + 1)) in
    let count : slice_index w.ticks (table.home - 1) ≡ table.ticks = get_or_from_slice_get w.ticks (table.home - 1) table.ticks 0 s.same.ticks in
    let first = leads_ticked table w s.order s.same in
    record {
      later = with_process r between;
      does = answered c w (with_process r between) q call.Tick (value (table.ticks + 1)) s.idle
          (ap (λ n. ticked c w q (n - 1) (slice_index w.ticks (n - 1) + 1)) home ∙ ap (λ n. ticked c w q (table.home - 1) (n + 1)) count);
      leads = leads_on table new new w between (with_process r between) first
          (leads_alike new between q r first.order first.same s.there (record { pid = refl; parent = refl; ending = refl; waited = refl; killed = refl }));
    }

-- ---- fork

pub births_are : (table : Table) (w : Unix) → TellsTheSame table w → births w.processes table.home ≡ length table.births
births_are table w same =
    sym (length-filter (λ (p : Process). home_of p.pid == table.home) w.processes) ∙ born_count table.home 0 table.births (of_home table.home w.processes) same.births

pub child_does : (c : Description) (table : Table) (w : Unix) (q : Process) → Stands table w q → home_of q.pid ≡ table.home → length table.births < 200
    → outcome c w q call.Fork ≡ forked c w q (pid_at table.home (length table.births))
    → Does c table (born table (Some q.pid)) w q call.Fork (value (pid_at table.home (length table.births)))
child_does c table w q s home few is =
    let k = known table w q.pid q s.same home s.there in
    let number = pid_at table.home (length table.births) in
    let child = child_of c q number in
    let new : Birth = record { parent = Some q.pid; place = place_for table (Some q.pid); life = Living false } in
    let after = born table (Some q.pid) in
    let within = get_within table.births (index_of q.pid) k.birth k.got in
    let earlier = k.is in
    let between : Unix = with_process child w in
    let r = replied c q (value number) in
    let born_so : IsBorn table.home (length table.births) new child = record { pid = refl; parent = refl; ending = refl; waited = refl; killed = λ lives. refl } in
    let home_is : home_of number ≡ table.home = Rattle.home_laws.proofs.BornLaws.home_is table.home (length table.births) few in
    let first = leads_born table w new child s.order s.same few born_so (home ∙ sym home_is, k.from) in
    let there : process_at between.processes q.pid ≡ Some q = put_others child w.processes q.pid (λ (same : number ≡ q.pid). absurd (omega (arith, same, earlier, within))) ∙ s.there in
    record {
      later = with_process r between;
      does = answered c w (with_process r between) q call.Fork (value number) s.idle is;
      leads = leads_on table after after w between (with_process r between) first
          (leads_alike after between q r first.order first.same there (record { pid = refl; parent = refl; ending = refl; waited = refl; killed = refl }));
    }

pub fork_does : (c : Description) (table : Table) (w : Unix) (q : Process) → Stands table w q → home_of q.pid ≡ table.home → Does c table (with_child table q.pid) w q call.Fork (told_child table)
fork_does c table w q s home = by (is_full table) refl
  where
    many : births w.processes (home_of q.pid) ≡ length table.births
    many = ap (births w.processes) home ∙ births_are table w s.same

    next : 1000 * home_of q.pid + (1 + births w.processes (home_of q.pid)) ≡ pid_at table.home (length table.births)
    next = omega (arith, home, many)

    by : (b : Bool) → is_full table ≡ b → Does c table (cond b table (born table (Some q.pid))) w q call.Fork (cond b (Error errno.TooMany) (value (pid_at table.home (length table.births))))
    by true is = replied_does c table w q call.Fork (Error errno.TooMany) s
        (ap (λ b. cond b (refuses c w q errno.TooMany) (forked c w q (next_pid w.processes (home_of q.pid)))) (ap (nat_le 200) many ∙ is))
    by false is = child_does c table w q s home (omega (arith, leb-false 200 (length table.births) is))
        (ap (λ b. cond b (refuses c w q errno.TooMany) (forked c w q (next_pid w.processes (home_of q.pid)))) (ap (nat_le 200) many ∙ is) ∙ ap (forked c w q) next)
