-- The laws: what a home does is what the one-kernel Unix does.
use Rattle.std.proofs.Common.{◌≡◌, ◌&&◌, ℕ, true, cond, not, Some, refl, sym, ap, subst, ◌∙◌}
use Rattle.std.specs.Option.{option_and_then, is_some}
use Rattle.sprite_ids.specs.Pid.{home_of}
use Rattle.sprite_ids.specs.declared.Ending.TheVariants as ending
use Rattle.sprite_ids.proofs.ListLaws.{some_is}
use Rattle.process_machine.specs.declared.call.Call.{Call}
use Rattle.process_machine.specs.declared.call.Call.TheVariants as call
use Rattle.process_machine.specs.declared.call.Reply.{Reply}
use Rattle.process_machine.specs.Runs.{call_of_next}
use Rattle.unix_calls.specs.declared.Description.{Description}
use Rattle.unix_calls.specs.declared.state.Process.{Process}
use Rattle.unix_calls.specs.State.{Unix, process_at, with_process, device_at, no_descriptors}
use Rattle.unix_calls.specs.Answers.{program_at, nothing}
use Rattle.unix_calls.specs.After.{is_wait, waits_at, waits_in, waits_on}
use Rattle.unix_calls.proofs.ProcessLaws.{put_there, found_pid}
use Rattle.home_table.specs.Home.{Table, ended, is_pending_at}
use Rattle.unix_frames.specs.Order.{AreInOrder}
use Rattle.home_laws.specs.Homes.{TellsTheSame}
use Rattle.home_laws.specs.Calls.{MayCall, Calls, call_entry, death_entry}
use Rattle.home_laws.specs.Answers.{home_answer, behind_call, kill_answer}
use Rattle.home_laws.specs.Deeds.{Goes}
use Rattle.home_laws.specs.Laws.{HomesAnswerAsOne, WaitsAreBlocked, KillsAsOne, DeathsAsOne}
use Rattle.home_laws.proofs.LeadLaws.{leads_on}
use Rattle.home_laws.proofs.EntryLaws.{called_by, called_in, opened, died, at_its_call, goes_by}
use Rattle.home_laws.proofs.HomeCallLaws.{Stands, Does, print_does, end_does, end_leads, getppid_does, host_does, tick_does, fork_does}
use Rattle.home_laws.proofs.WaitCallLaws.{pending_same, wait_does, wait_waits}
use Rattle.home_laws.proofs.KillLaws.{kill_does}

-- who calls stands at the call
stands : (c : Description) (u : Unix) (table : Table) (pid number : ℕ) (called : Call) (calls : Calls c u pid number called) → AreInOrder u.processes → TellsTheSame table u → Stands table (called_in calls) (called_by calls)
stands c u table pid number called calls order h =
    let leads = at_its_call c u table pid number called calls order h in
    record { there = put_there (called_by calls) u.processes; living = calls.may.living; idle = calls.may.idle; order = leads.order; same = leads.same }

-- what is done there goes
goes : (c : Description) (u : Unix) (table new : Table) (pid number : ℕ) (called : Call) (reply : Reply) (calls : Calls c u pid number called) → AreInOrder u.processes → TellsTheSame table u
    → Does c table new (called_in calls) (called_by calls) called reply → Goes c u (call_entry pid number called reply) new
goes c u table new pid number called reply calls order h does =
    goes_by c u does.later (call_entry pid number called reply) table new (opened c u does.later pid number called reply calls does.does)
    (leads_on table table new u (called_in calls) does.later (at_its_call c u table pid number called calls order h) does.leads)

replied_so : (c : Description) (table new : Table) (w : Unix) (q : Process) (called : Call) (due reply : Reply) → Some due ≡ Some reply → Does c table new w q called due → Does c table new w q called reply
replied_so c table new w q called due reply e h = subst (λ (r : Reply). Does c table new w q called r) (some_is due reply e) h

does : (c : Description) (table : Table) (w : Unix) (q : Process) (called : Call) (reply : Reply) → Stands table w q → home_of q.pid ≡ table.home → home_answer c table q.pid called ≡ Some reply → Does c table (behind_call table q.pid called) w q called reply
does c table w q (call.Print bytes) reply s home is = replied_so c table table w q (call.Print bytes) nothing reply is (print_does c table w q bytes s)
does c table w q (call.Exit code) reply s home is = replied_so c table _ w q (call.Exit code) nothing reply is (end_does c table w q (call.Exit code) (ending.Exit code) s home refl)
does c table w q call.BadStep reply s home is = replied_so c table _ w q call.BadStep nothing reply is (end_does c table w q call.BadStep ending.Bad s home refl)
does c table w q call.Getppid reply s home is = replied_so c table table w q call.Getppid _ reply is (getppid_does c table w q s home)
does c table w q (call.Host max) reply s home is = replied_so c table table w q (call.Host max) _ reply is (host_does c table w q max s home)
does c table w q call.Tick reply s home is = replied_so c table _ w q call.Tick _ reply is (tick_does c table w q s home)
does c table w q call.Fork reply s home is = replied_so c table _ w q call.Fork _ reply is (fork_does c table w q s home)
does c table w q call.Wait reply s home is = wait_does c table w q reply s home is
does c table w q call.Getpid reply s home is = absurd (cc)
does c table w q (call.Exec name arg) reply s home is = absurd (cc)
does c table w q (call.Kill pid) reply s home is = absurd (cc)
does c table w q (call.OpenFile path flags) reply s home is = absurd (cc)
does c table w q (call.Close fd) reply s home is = absurd (cc)
does c table w q (call.Dup fd) reply s home is = absurd (cc)
does c table w q (call.Read fd many) reply s home is = absurd (cc)
does c table w q (call.Write fd bytes) reply s home is = absurd (cc)
does c table w q (call.Seek fd offset) reply s home is = absurd (cc)
does c table w q (call.Size fd) reply s home is = absurd (cc)
does c table w q (call.Sync fd) reply s home is = absurd (cc)
does c table w q (call.Stat path) reply s home is = absurd (cc)
does c table w q (call.Mkdir path) reply s home is = absurd (cc)
does c table w q (call.Rmdir path) reply s home is = absurd (cc)
does c table w q (call.Unlink path) reply s home is = absurd (cc)
does c table w q (call.Rename old new) reply s home is = absurd (cc)
does c table w q (call.List path max) reply s home is = absurd (cc)
does c table w q (call.Chdir path) reply s home is = absurd (cc)
does c table w q (call.Migrate name) reply s home is = absurd (cc)
does c table w q (call.PdMake path) reply s home is = absurd (cc)
does c table w q (call.PdGet fd max) reply s home is = absurd (cc)
does c table w q (call.PdPut fd bytes number) reply s home is = absurd (cc)
does c table w q (call.Ioctl fd command bytes) reply s home is = absurd (cc)
does c table w q (call.Rexec name host) reply s home is = absurd (cc)
does c table w q (call.Refused e) reply s home is = absurd (cc)

pub homes_answer_as_one : HomesAnswerAsOne
homes_answer_as_one c u table pid number called reply order h home calls is =
    let number_is : calls.may.process.pid ≡ pid = found_pid u.processes pid calls.may.process calls.may.there in
    let s = stands c u table pid number called calls order h in
    subst (λ n. Goes c u (call_entry pid number called reply) (behind_call table n called)) number_is
    (goes c u table (behind_call table calls.may.process.pid called) pid number called reply calls order h
    (does c table (called_in calls) (called_by calls) called reply s (ap home_of number_is ∙ home) (ap (λ n. home_answer c table n called) number_is ∙ is)))

pub kills_as_one : KillsAsOne
kills_as_one c u table pid number target order h home from calls =
    goes c u table _ pid number (call.Kill target) (kill_answer table target) calls order h
    (kill_does c table (called_in calls) (called_by calls) target (stands c u table pid number (call.Kill target) calls order h) home from)

-- a process that hasn't come to its call stands for itself, too
at_rest : (u : Unix) (table : Table) (pid number : ℕ) (may : MayCall u pid number) → AreInOrder u.processes → TellsTheSame table u → Stands table u may.process
at_rest u table pid number may order h =
    record {
      there = subst (λ n. process_at u.processes n ≡ Some may.process) (sym (found_pid u.processes pid may.process may.there)) may.there;
      living = may.living;
      idle = may.idle;
      order = order;
      same = h;
    }

pub deaths_as_one : DeathsAsOne
deaths_as_one c u table pid number order h home may pending =
    let p = may.process in
    let number_is : p.pid ≡ pid = found_pid u.processes pid p may.there in
    let s = at_rest u table pid number may order h in
    let at_home : home_of p.pid ≡ table.home = ap home_of number_is ∙ home in
    let killed : p.killed ≡ true = pending_same table u p s at_home ∙ ap (is_pending_at table) number_is ∙ pending in
    let dead : Process = record p { descriptors = no_descriptors; ending = Some ending.Killed } in
    subst (λ n. Goes c u (death_entry pid number) (ended table n ending.Killed)) number_is
    (goes_by c u (with_process dead u) (death_entry pid number) table (ended table p.pid ending.Killed) (died c u pid number may killed)
    (end_leads table u p dead ending.Killed s at_home refl refl refl refl))

pub waits_are_blocked : WaitsAreBlocked
waits_are_blocked c u table pid number order h home calls is =
    let p = calls.may.process in
    let number_is : p.pid ≡ pid = found_pid u.processes pid p calls.may.there in
    let at_home : home_of p.pid ≡ table.home = ap home_of number_is ∙ home in
    let next = calls.next in
    let image = next.image in
    let so = wait_waits c table u p image (at_rest u table pid number calls.may order h) at_home (ap (λ n. home_answer c table n call.Wait) number_is ∙ is) in
    ap (λ o. cond (is_some o) (waits_on u p (option_and_then (device_at u.devices) o)) (not p.killed && waits_in c u p (program_at c.programs p.image.number))) calls.may.idle
    ∙ ap (λ b. not b && waits_in c u p (program_at c.programs p.image.number)) so.1
    ∙ ap (waits_in c u p) next.program_is
    ∙ ap (λ o. waits_at c u p o (call_of_next next.program o)) next.comes
    ∙ ap (waits_at c u p (Some image)) next.call_is
    ∙ ap is_wait so.0
