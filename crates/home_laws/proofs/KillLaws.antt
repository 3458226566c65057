-- A `kill` at the home of its argument, and a death, in the one-kernel Unix.
use Rattle.std.proofs.Common.{◌≡◌, ◌≤◌, ◌==◌, ℕ, Bool, true, false, cond, not, slice_get, slice_set, Option, Some, None, option_map, refl, sym, ap, subst, ◌∙◌, arith}
use Rattle.std.specs.Option.{is_some}
use Rattle.std.proofs.lemmas.Bool.{true≢false, eqb-true, eq-eqb}
use Rattle.sprite_ids.specs.Pid.{home_of, birth_of}
use Rattle.sprite_ids.specs.declared.Errno.TheVariants as errno
use Rattle.sprite_ids.proofs.ListLaws.{get_within, some_is}
use Rattle.process_machine.specs.declared.call.Call.TheVariants as call
use Rattle.process_machine.specs.declared.call.Reply.TheVariants.{Error}
use Rattle.unix_calls.specs.declared.Description.{Description}
use Rattle.unix_calls.specs.declared.state.Process.{Process}
use Rattle.unix_calls.specs.State.{Unix, process_at, with_process, lives}
use Rattle.unix_calls.specs.Answers.{replied, refuses, is_done, nothing}
use Rattle.unix_calls.specs.ProcessCalls.{kill_of, with_kill}
use Rattle.unix_calls.specs.After.{outcome}
use Rattle.unix_calls.proofs.ProcessLaws.{put_there, put_others, found_pid, found_each}
use Rattle.home_table.specs.declared.Birth.{Birth}
use Rattle.home_table.specs.declared.Life.{Life}
use Rattle.home_table.specs.declared.Life.TheVariants.{Living, Ended, Waited}
use Rattle.home_table.specs.Home.{Table, index_of, birth_at, is_living, is_so, is_living_at, killed, killing, put}
use Rattle.unix_frames.specs.Order.{IsKin}
use Rattle.home_laws.specs.Homes.{ending_in, IsBorn}
use Rattle.home_laws.specs.Answers.{kill_answer}
use Rattle.home_laws.proofs.BornLaws.{BothBorn}
use Rattle.home_laws.proofs.LeadLaws.{Leads, leads_on, leads_alike, leads_life, looked_born}
use Rattle.home_laws.proofs.EntryLaws.{answered}
use Rattle.home_laws.proofs.HomeCallLaws.{Stands, Does, replied_does}

-- a table in which nobody is killed, by what was looked up
pub killed_by : (table : Table) (target : ℕ) (o : Option Birth) → slice_get table.births (index_of target) ≡ o → killed table target ≡ record table { births = killing table.births (index_of target) (option_map (λ (birth : Birth). birth.life) o) }
killed_by table target o got = ap (λ b. record table { births = killing table.births (index_of target) (option_map (λ (birth : Birth). birth.life) b) }) got

living_by : (table : Table) (target : ℕ) (o : Option Birth) → slice_get table.births (index_of target) ≡ o → is_living_at table target ≡ is_so is_living (option_map (λ (birth : Birth). birth.life) o)
living_by table target o got = ap (λ b. is_so is_living (option_map (λ (birth : Birth). birth.life) b)) got

-- the caller behind a kill, whether it killed itself or another one
caller_behind : (c : Description) (table after : Table) (w : Unix) (q p : Process) (target : ℕ) → Stands table w q → process_at w.processes p.pid ≡ Some p → Leads table after w (with_process (record p { killed = true }) w)
    → (itself : Bool) → (p.pid == q.pid) ≡ itself → outcome c w q (call.Kill target) ≡ is_done c (with_process (record p { killed = true }) w) (cond itself (record q { killed = true }) q)
    → Does c table after w q (call.Kill target) nothing
caller_behind c table after w q p target s here first true is out =
    let dying : Process = record p { killed = true } in
    let between : Unix = with_process dying w in
    let r = replied c (record q { killed = true }) nothing in
    let number : p.pid ≡ q.pid = eqb-true p.pid q.pid is in
    let same : p ≡ q = some_is p q (sym here ∙ ap (process_at w.processes) number ∙ s.there) in
    record {
      later = with_process r between;
      does = answered c w (with_process r between) q (call.Kill target) nothing s.idle out;
      leads = leads_on table after after w between (with_process r between) first
          (leads_alike after between dying r first.order first.same (put_there dying w.processes)
          (record { pid = sym number; parent = ap (λ (x : Process). x.parent) (sym same); ending = ap (λ (x : Process). x.ending) (sym same); waited = ap (λ (x : Process). x.waited) (sym same); killed = refl }));
    }
caller_behind c table after w q p target s here first false is out =
    let dying : Process = record p { killed = true } in
    let between : Unix = with_process dying w in
    let r = replied c q nothing in
    let there : process_at between.processes q.pid ≡ Some q = put_others dying w.processes q.pid (λ same. absurd (true≢false (sym (eq-eqb p.pid q.pid same) ∙ is))) ∙ s.there in
    record {
      later = with_process r between;
      does = answered c w (with_process r between) q (call.Kill target) nothing s.idle out;
      leads = leads_on table after after w between (with_process r between) first
          (leads_alike after between q r first.order first.same there (record { pid = refl; parent = refl; ending = refl; waited = refl; killed = refl }));
    }

-- a kill of a living process
living_kill : (c : Description) (table : Table) (w : Unix) (q p : Process) (target : ℕ) (b : Birth) (pending : Bool) → Stands table w q → home_of target ≡ table.home
    → process_at w.processes target ≡ Some p → slice_get table.births (index_of target) ≡ Some b → b.life ≡ Living pending → IsBorn table.home (index_of target) b p
    → Does c table (killed table target) w q (call.Kill target) nothing
living_kill c table w q p target b pending s home there got life is =
    let number = found_pid w.processes target p there in
    let here : process_at w.processes p.pid ≡ Some p = subst (λ n. process_at w.processes n ≡ Some p) (sym number) there in
    let new : Birth = record b { life = Living true } in
    let dying : Process = record p { killed = true } in
    let end : p.ending ≡ None = is.ending ∙ ap ending_in life in
    let born : IsBorn table.home (index_of target) new dying = record { pid = is.pid; parent = is.parent; ending = end; waited = is.waited ∙ ap Rattle.home_laws.specs.Homes.was_waited life; killed = λ lives. refl } in
    let within = get_within table.births (index_of target) b got in
    let most = s.same.few in
    let after_is : killed table target ≡ record table { births = slice_set table.births (index_of target) new } =
    killed_by table target (Some b) got
    ∙ ap (λ l. record table { births = killing table.births (index_of target) (Some l) }) life
    ∙ ap (λ o. record table { births = put table.births (index_of target) (option_map {T = Birth} (λ birth. record birth { life = Living true }) o) }) got in
    let between : Unix = with_process dying w in
    let first = leads_life table w (index_of target) b new dying s.order s.same (omega (arith, within, most)) got born (found_each IsKin w.processes p.pid p s.order.kin here) in
    let out : outcome c w q (call.Kill target) ≡ is_done c between (cond (p.pid == q.pid) (record q { killed = true }) q) =
    ap (kill_of c w q) there
    ∙ ap (λ o. cond (not (is_some o)) (is_done c (with_kill p w) (cond (p.pid == q.pid) (record q { killed = true }) q)) (refuses c w q errno.NoProcess)) end in
    subst (λ t. Does c table t w q (call.Kill target) nothing) (sym after_is)
    (caller_behind c table (record table { births = slice_set table.births (index_of target) new }) w q p target s here first (p.pid == q.pid) refl out)

pub kill_does : (c : Description) (table : Table) (w : Unix) (q : Process) (target : ℕ) → Stands table w q → home_of target ≡ table.home → 1 ≤ birth_of target → Does c table (killed table target) w q (call.Kill target) (kill_answer table target)
kill_does c table w q target s home from = by (birth_at table.births target) (process_at w.processes target) refl refl (looked_born table w target s.same home from)
  where
    goal : Type 0
    goal = Does c table (killed table target) w q (call.Kill target) (kill_answer table target)

    dead : (o : Option Birth) → slice_get table.births (index_of target) ≡ o → is_so is_living (option_map (λ (birth : Birth). birth.life) o) ≡ false
        → killing table.births (index_of target) (option_map (λ (birth : Birth). birth.life) o) ≡ table.births → outcome c w q (call.Kill target) ≡ refuses c w q errno.NoProcess → goal
    dead o got gone same out =
        subst (λ t. Does c table t w q (call.Kill target) (kill_answer table target)) (sym (killed_by table target o got ∙ ap (λ bs. record table { births = bs }) same))
        (subst (λ b. Does c table table w q (call.Kill target) (cond b nothing (Error errno.NoProcess))) (sym (living_by table target o got ∙ gone))
        (replied_does c table w q (call.Kill target) (Error errno.NoProcess) s out))

    ended_out : (p : Process) → process_at w.processes target ≡ Some p → lives p ≡ false → outcome c w q (call.Kill target) ≡ refuses c w q errno.NoProcess
    ended_out p there gone =
        ap (kill_of c w q) there ∙ ap (λ e. cond e (is_done c (with_kill p w) (cond (p.pid == q.pid) (record q { killed = true }) q)) (refuses c w q errno.NoProcess)) gone

    by_life : (b : Birth) (p : Process) (life : Life) → slice_get table.births (index_of target) ≡ Some b → process_at w.processes target ≡ Some p → b.life ≡ life → IsBorn table.home (index_of target) b p → goal
    by_life b p (Living pending) got there life is =
        subst (λ e. Does c table (killed table target) w q (call.Kill target) (cond e nothing (Error errno.NoProcess))) (sym (living_by table target (Some b) got ∙ ap is_living life))
        (living_kill c table w q p target b pending s home there got life is)
    by_life b p (Ended how) got there life is =
        dead (Some b) got (ap is_living life) (ap (λ l. killing table.births (index_of target) (Some l)) life) (ended_out p there (ap (λ o. not (is_some o)) (is.ending ∙ ap ending_in life)))
    by_life b p (Waited how) got there life is =
        dead (Some b) got (ap is_living life) (ap (λ l. killing table.births (index_of target) (Some l)) life) (ended_out p there (ap (λ o. not (is_some o)) (is.ending ∙ ap ending_in life)))

    by : (b : Option Birth) (p : Option Process) → slice_get table.births (index_of target) ≡ b → process_at w.processes target ≡ p → BothBorn table.home (index_of target) b p → goal
    by None None got there both = dead None got refl refl (ap (kill_of c w q) there)
    by None (Some p) got there both = absurd both
    by (Some b) None got there both = absurd both
    by (Some b) (Some p) got there both = by_life b p b.life got there refl both
