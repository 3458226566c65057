-- A `wait` at its home, in the one-kernel Unix.
use Rattle.std.proofs.Common.{◌≡◌, ◌≢◌, ◌<◌, ℕ, Bool, true, false, not, List, [], ◌∷◌, Some, None, option_map, refl, sym, ap, subst, ◌∙◌, arith}
use Rattle.std.specs.List.{AllByRecursion}
use Rattle.std.specs.Option.{is_some}
use Rattle.std.proofs.lemmas.Bool.{true≢false}
use Rattle.sprite_ids.specs.Pid.{home_of}
use Rattle.sprite_ids.specs.declared.Errno.TheVariants as errno
use Rattle.sprite_ids.proofs.ListLaws.{each_filter, get_within, some_is}
use Rattle.process_machine.specs.declared.call.Call.TheVariants as call
use Rattle.process_machine.specs.declared.call.Reply.{Reply}
use Rattle.process_machine.specs.declared.call.Reply.TheVariants.{Value, Error}
use Rattle.process_machine.specs.Machine.{Machine}
use Rattle.unix_calls.specs.declared.Description.{Description}
use Rattle.unix_calls.specs.declared.state.Process.{Process}
use Rattle.unix_calls.specs.State.{Unix, process_at, with_process, lives}
use Rattle.unix_calls.specs.Answers.{Waits, replied}
use Rattle.unix_calls.specs.ProcessCalls.{is_unwaited, unwaited, ended_ones, waits_for, status_of}
use Rattle.unix_calls.specs.After.{outcome}
use Rattle.unix_calls.proofs.OutcomeLaws.{IsAmong}
use Rattle.unix_calls.proofs.ProcessLaws.{put_others, found_each, among_found}
use Rattle.home_table.specs.declared.Birth.{Birth}
use Rattle.home_table.specs.declared.Life.TheVariants.{Waited}
use Rattle.home_table.specs.declared.WaitAnswer.TheVariants.{Child}
use Rattle.home_table.specs.Home as homes
use Rattle.home_table.specs.Home.{Table, pid_at, wait_answer, waited, is_pending_at, is_living, is_pending, is_so}
use Rattle.unix_frames.specs.Order.{IsKin}
use Rattle.unix_frames.proofs.ChangeLaws.{each_among}
use Rattle.home_laws.specs.Homes.{ending_in, IsBorn}
use Rattle.home_laws.specs.Answers.{told_wait, interrupted_if}
use Rattle.home_laws.proofs.BornLaws.{BothBorn}
use Rattle.home_laws.proofs.LeadLaws.{Leads, leads_on, leads_alike, leads_life, known, born_in}
use Rattle.home_laws.proofs.EntryLaws.{answered, interrupted}
use Rattle.home_laws.proofs.HomeCallLaws.{Stands, Does, replied_does, living_life}
use Rattle.home_laws.proofs.WaitLaws.{told_children, waits_as_one, IsUntold, WaitCase, Untold, Told, wait_case}

-- the children that a state has are of it
ended_among : (w : Unix) (q : Process) → AllByRecursion (λ (p : Process). IsAmong p w.processes) (ended_ones (unwaited w q))
ended_among w q =
    each_filter (λ (p : Process). IsAmong p w.processes) (λ (p : Process). is_some p.ending) (unwaited w q)
    (each_filter (λ (p : Process). IsAmong p w.processes) (is_unwaited q.pid) w.processes (each_among w.processes))

-- a kill is pending in the state exactly where the home has one
pub pending_same : (table : Table) (w : Unix) (q : Process) → Stands table w q → home_of q.pid ≡ table.home → q.killed ≡ is_pending_at table q.pid
pending_same table w q s home =
    let k = known table w q.pid q s.same home s.there in
    let life = living_life k.birth.life q.ending k.born.ending s.living in
    k.born.killed (ap is_living life.1) ∙ sym (ap (λ o. is_so is_pending (option_map (λ (birth : Birth). birth.life) o)) k.got)

-- no child was told of
pub untold_table : (table : Table) (pid : ℕ) → IsUntold (wait_answer table pid) → waited table pid ≡ table
untold_table table pid h = by (wait_case table pid)
  where
    by : WaitCase table pid → waited table pid ≡ table
    by (Untold same no_child) = same
    by (Told place b how told) = absurd (subst IsUntold told.answers h)

-- the child that a `wait` is told of is waited for
told_leads : (table : Table) (w : Unix) (q first : Process) (status : ℕ) → Stands table w q → IsAmong first w.processes → wait_answer table q.pid ≡ Child first.pid status
    → Leads table (waited table q.pid) w (with_process (record first { waited = true }) w) × (first.pid ≢ q.pid)
told_leads table w q first status s among told = by (wait_case table q.pid)
  where
    by : WaitCase table q.pid → Leads table (waited table q.pid) w (with_process (record first { waited = true }) w) × (first.pid ≢ q.pid)
    by (Untold same no_child) = absurd (subst IsUntold told no_child)
    by (Told place b how of) =
        let both : Child first.pid status ≡ Child (pid_at table.home place) (homes.status_of how) = sym told ∙ of.answers in
        let number : first.pid ≡ pid_at table.home place = cc in
        let within = get_within table.births place b of.got in
        let most = s.same.few in
        let few : place < 200 = omega (arith, within, most) in
        let there : process_at w.processes first.pid ≡ Some first = among_found first w.processes s.order.ascending among in
        let found : process_at w.processes (pid_at table.home place) ≡ Some first = subst (λ n. process_at w.processes n ≡ Some first) number there in
        let is : IsBorn table.home place b first = subst (λ o. BothBorn table.home place (Some b) o) found (subst (λ o. BothBorn table.home place o (process_at w.processes (pid_at table.home place))) of.got (born_in table w place few s.same)) in
        let new : Birth = record b { life = Waited how } in
        let end : first.ending ≡ Some how = is.ending ∙ ap ending_in of.life in
        let born : IsBorn table.home place new (record first { waited = true }) = record {
          pid = is.pid;
          parent = is.parent;
          ending = end;
          waited = refl;
          killed = λ lives. absurd (true≢false (sym lives));
        } in (
          subst (λ t. Leads table t w (with_process (record first { waited = true }) w)) (sym of.table_is)
              (leads_life table w place b new (record first { waited = true }) s.order s.same few of.got born (found_each IsKin w.processes first.pid first s.order.kin there)),
          λ same. true≢false (sym s.living ∙ sym (ap (λ (p : Process). lives p) (some_is first q (sym there ∙ ap (process_at w.processes) same ∙ s.there))) ∙ ap (λ o. not (is_some o)) end),
        )

pub wait_does : (c : Description) (table : Table) (w : Unix) (q : Process) (reply : Reply) → Stands table w q → home_of q.pid ≡ table.home
    → told_wait (wait_answer table q.pid) (is_pending_at table q.pid) ≡ Some reply → Does c table (waited table q.pid) w q call.Wait reply
wait_does c table w q reply s home is =
    by (unwaited w q) (ended_ones (unwaited w q)) refl (ended_among w q) (waits_as_one table w.processes q.pid s.same.births home s.order.kin)
  where
    pending : Bool
    pending = is_pending_at table q.pid

    broken : (b : Bool) → pending ≡ b → interrupted_if b ≡ Some reply → outcome c w q call.Wait ≡ Waits → waited table q.pid ≡ table → Does c table (waited table q.pid) w q call.Wait reply
    broken true kill e out same =
        subst (λ (r : Reply). Does c table (waited table q.pid) w q call.Wait r) (some_is (Error errno.Interrupted) reply e)
        (subst (λ t. Does c table t w q call.Wait (Error errno.Interrupted)) (sym same)
        (record {
          later = with_process (replied c q (Error errno.Interrupted)) w;
          does = interrupted c w q s.idle (pending_same table w q s home ∙ kill) out;
          leads = leads_alike table w q (replied c q (Error errno.Interrupted)) s.order s.same s.there (record { pid = refl; parent = refl; ending = refl; waited = refl; killed = refl });
        }))
    broken false kill e out same = absurd (cc)

    by : (us es : List Process) → waits_for c w q (unwaited w q) (ended_ones (unwaited w q)) ≡ waits_for c w q us es → AllByRecursion (λ (p : Process). IsAmong p w.processes) es → wait_answer table q.pid ≡ told_children us es
        → Does c table (waited table q.pid) w q call.Wait reply
    by [] es out among told =
        let told_so : Some (Error errno.NoChild) ≡ Some reply = sym (ap (λ a. told_wait a pending) told) ∙ is in
        subst (λ (r : Reply). Does c table (waited table q.pid) w q call.Wait r) (some_is (Error errno.NoChild) reply told_so)
        (subst (λ t. Does c table t w q call.Wait (Error errno.NoChild)) (sym (untold_table table q.pid (subst IsUntold (sym told) tt)))
        (replied_does c table w q call.Wait (Error errno.NoChild) s out))
    by (child ∷ children) [] out among told =
        broken pending refl (sym (ap (λ a. told_wait a pending) told) ∙ is) out (untold_table table q.pid (subst IsUntold (sym told) tt))
    by (child ∷ children) (first ∷ rest) out among told =
        let answer = Value first.pid (status_of first.ending) [] in
        let told_so : Some answer ≡ Some reply = sym (ap (λ a. told_wait a pending) told) ∙ is in
        let leads = told_leads table w q first (status_of first.ending) s among.0 told in
        let between : Unix = with_process (record first { waited = true }) w in
        let after = waited table q.pid in
        let r = replied c q answer in
        let there : process_at between.processes q.pid ≡ Some q = put_others (record first { waited = true }) w.processes q.pid leads.1 ∙ s.there in
        subst (λ (x : Reply). Does c table after w q call.Wait x) (some_is answer reply told_so)
        (record {
          later = with_process r between;
          does = answered c w (with_process r between) q call.Wait answer s.idle out;
          leads = leads_on table after after w between (with_process r between) leads.0
              (leads_alike after between q r leads.0.order leads.0.same there (record { pid = refl; parent = refl; ending = refl; waited = refl; killed = refl }));
        })

-- a `wait` that isn't answered yet waits, wherever the process's image stands
pub wait_waits : (c : Description) (table : Table) (w : Unix) (q : Process) (image : Machine) → Stands table w q → home_of q.pid ≡ table.home
    → told_wait (wait_answer table q.pid) (is_pending_at table q.pid) ≡ None → (outcome c w (record q { image = image }) call.Wait ≡ Waits) × (q.killed ≡ false)
wait_waits c table w q image s home is =
    by (unwaited w q) (ended_ones (unwaited w q)) refl (waits_as_one table w.processes q.pid s.same.births home s.order.kin)
  where
    pending : Bool
    pending = is_pending_at table q.pid

    no_kill : (b : Bool) → interrupted_if b ≡ None → b ≡ false
    no_kill true e = absurd (cc)
    no_kill false e = refl

    by : (us es : List Process) → waits_for c w (record q { image = image }) (unwaited w q) (ended_ones (unwaited w q)) ≡ waits_for c w (record q { image = image }) us es → wait_answer table q.pid ≡ told_children us es
        → (outcome c w (record q { image = image }) call.Wait ≡ Waits) × (q.killed ≡ false)
    by [] es out told = absurd (let two : Some (Error errno.NoChild) ≡ None = sym (ap (λ a. told_wait a pending) told) ∙ is in cc)
    by (child ∷ children) [] out told =
        (out, pending_same table w q s home ∙ no_kill pending (sym (ap (λ a. told_wait a pending) told) ∙ is))
    by (child ∷ children) (first ∷ rest) out told =
        absurd (let two : Some (Value first.pid (status_of first.ending) []) ≡ None = sym (ap (λ a. told_wait a pending) told) ∙ is in cc)
