-- Each call at its home is one act of the home.
use Rattle.std.proofs.Common.{arith, ◌≡◌, refl, sym, ap, subst, ◌∙◌, ℕ, zero, suc, ◌+◌, ◌-◌, ◌*◌, ◌%◌, ◌==◌, ◌≤◌, nat_le, nat_lt, Bool, true, false, ◌&&◌, cond, not, List, [], ◌∷◌, ◌++◌, length, Option, Some, None, slice_get}
use Rattle.std.specs.Option.{option_map, unwrap_or}
use Rattle.std.proofs.lemmas.Bool.{eq-eqb, leb-true, leb-false, ltb-true, ltb-false}
use Rattle.std.proofs.lemmas.Nat.{div-add-mod'}
use Rattle.sprite_ids.specs.Pid.{home_of}
use Rattle.sprite_ids.specs.declared.Ending.TheVariants as endings
use Rattle.sprite_ids.specs.declared.Errno.TheVariants as errnos
use Rattle.process_machine.specs.declared.Call.{Call}
use Rattle.process_machine.specs.declared.Call.TheVariants as call
use Rattle.process_machine.specs.declared.Reply.{Reply}
use Rattle.process_machine.specs.declared.Reply.TheVariants.{Error}
use Rattle.packet_bodies.specs.declared.HomeCall.{HomeCall}
use Rattle.packet_bodies.specs.declared.HomeCall.TheVariants as home_calls
use Rattle.packet_bodies.specs.declared.HomeRequest.{HomeRequest}
use Rattle.home_table.specs.declared.end.WaitAnswer.{WaitAnswer}
use Rattle.home_table.specs.declared.end.WaitAnswer.TheVariants.{Child, NoChild, NotYet}
use Rattle.home_table.specs.Home.{Table, born, ended, is_living_at, is_pending_at, killed, parent_at, pid_at, wait_answer, waited}
use Rattle.unix_calls.specs.declared.About.{About}
use Rattle.unix_calls.specs.declared.Description.{Description}
use Rattle.unix_calls.specs.declared.Event.TheVariants.{Enter}
use Rattle.unix_calls.specs.declared.KernelLine.{KernelLine}
use Rattle.unix_calls.specs.Answers as answers
use Rattle.unix_calls.specs.ProcessCalls.{kernel_name}
use Rattle.home_laws.specs.Answers as laws
use Rattle.home_laws.specs.Answers.{behind_call, home_answer, told_wait, told_child, told_name}
use Rattle.home_laws.specs.Calls.{call_entry}
use Rattle.home_laws.specs.Runs.{Act, Answers, Buries, Kills}
use Rattle.home_laws.proofs.WaitLaws.{IsUntold}
use Rattle.home_laws.proofs.WaitCallLaws.{untold_table}
use Rattle.client_homes.specs.declared.client.ClientProcs.{ClientProcs}
use Rattle.client_homes.specs.Calls as calling
use Rattle.client_homes.specs.Clusters.{name_in, name_of}
use Rattle.client_homes.specs.Ends as ending
use Rattle.client_homes.specs.Homes as homes
use Rattle.client_homes.specs.Issuing.{home_for}
use Rattle.client_homes.specs.Says as says
use Rattle.client_homes.specs.Says.{value}
use Rattle.client_homes.specs.Waits as waiting
use Rattle.client_homes.specs.Words as words
use Rattle.home_acts.specs.Deeds.{Deed, Does, DoesSo, IsHome, IsOfHome, Seen, acts_of, behind_act, behind_answer, entry_by, seen}
use Rattle.home_acts.specs.Laws.{IsCodeWithin}
use Rattle.home_acts.proofs.DeedLaws.{home_act, so_act, so_none}

-- what a deed or none led to, and that the kernel is the home still
pub record Leads (c : Description) (v w : Seen) (first : List Deed) : Type 0 where
  pub home : IsHome c w
  pub so : DoesSo c v w first

-- one act
leads : (c : Description) (v : Seen) (act : Act) → IsOfHome c v.home act → IsHome c v
    → Leads c v (record v { home = behind_act v.home act; events = v.events ++ Enter (entry_by v.home act) ∷ [] }) (Does act ∷ [])
leads c v act right home = record { home = home_act c v act (v.events ++ Enter (entry_by v.home act) ∷ []) home; so = so_act c v act right }

-- ---- words of the kernel and of the home

number_same : (o : Option ℕ) → laws.number_or_zero o ≡ calling.number_or_zero o
number_same (Some pid) = refl
number_same None = refl

name_by : (o : Option KernelLine) → name_in o ≡ unwrap_or (option_map (λ (line : KernelLine). line.name) o) []
name_by (Some line) = refl
name_by None = refl

name_same : (kernels : List KernelLine) (kernel : ℕ) → 1 ≤ kernel → name_of kernels kernel ≡ kernel_name kernels kernel
name_same kernels zero from = absurd (omega (arith, from))
name_same kernels (suc place) from =
    (let behind : suc place - 1 ≡ place = omega arith in ap (λ n. name_in (slice_get kernels n)) behind) ∙ name_by (slice_get kernels place)

full_same : (n : ℕ) → nat_le 200 n ≡ not (nat_lt n 200)
full_same n = by (nat_le 200 n) (nat_lt n 200) refl refl
  where
    by : (full room : Bool) → nat_le 200 n ≡ full → nat_lt n 200 ≡ room → full ≡ not room
    by true true e f = let most = leb-true 200 n e in let under = ltb-true n 200 f in absurd (omega (arith, most, under))
    by true false e f = refl
    by false true e f = refl
    by false false e f = let under = leb-false 200 n e in let most = ltb-false n 200 f in absurd (omega (arith, most, under))

born_same : (table : Table) (pid : ℕ) → laws.with_child table pid ≡ homes.with_born pid table
born_same table pid = ap (λ b. cond b table (born table (Some pid))) (full_same (length table.births)) ∙ by (nat_lt (length table.births) 200)
  where
    by : (room : Bool) → cond (not room) table (born table (Some pid)) ≡ cond room (born table (Some pid)) table
    by true = refl
    by false = refl

child_same : (table : Table) → told_child table ≡ calling.born_reply (homes.next_born table)
child_same table = ap (λ b. cond b (Error errnos.TooMany) (answers.value (pid_at table.home (length table.births)))) (full_same (length table.births)) ∙ by (nat_lt (length table.births) 200)
  where
    by : (room : Bool) → cond (not room) (Error errnos.TooMany) (answers.value (pid_at table.home (length table.births))) ≡ calling.born_reply (cond room (Some (1000 * table.home + length table.births + 1)) None)
    by true = refl
    by false = refl

pub wait_same : (answer : WaitAnswer) (pending : Bool) → told_wait answer pending ≡ words.wait_told answer pending
wait_same (Child pid status) pending = refl
wait_same NoChild pending = refl
wait_same NotYet true = refl
wait_same NotYet false = refl

-- a `wait` that isn't answered leaves the table
pub unanswered : (answer : WaitAnswer) (pending : Bool) → words.wait_told answer pending ≡ None → IsUntold answer
unanswered (Child pid status) pending e = absurd (cc)
unanswered NoChild pending e = tt
unanswered NotYet pending e = tt

-- a code that a process ends with
pub answers_are_acts : (table : Table) (pid : ℕ) (called : Call) → IsCodeWithin called → behind_answer table pid called ≡ behind_call table pid called
answers_are_acts table pid (call.Exit code) few = let parts = div-add-mod' code 256 in let same : code % 256 ≡ code = omega (arith, few, parts) in ap (λ n. ended table pid (endings.Exit n)) same
answers_are_acts table pid called few = refl

exit_same : (table : Table) (pid : ℕ) (b : Bool) (code : ℕ) → behind_answer table pid (cond b call.BadStep (call.Exit code)) ≡ ended table pid (cond b endings.Bad (endings.Exit (code % 256)))
exit_same table pid true code = refl
exit_same table pid false code = refl

exit_answered : (c : Description) (table : Table) (pid : ℕ) (b : Bool) (code : ℕ) → home_answer c table pid (cond b call.BadStep (call.Exit code)) ≡ Some answers.nothing
exit_answered c table pid true code = refl
exit_answered c table pid false code = refl

-- ---- each call at its home

module _ (c : Description) (s : ClientProcs) (home : IsHome c (seen s)) where
  native : (pid : ℕ) → home_of pid ≡ s.home.home → homes.is_native pid s ≡ true
  native pid mine = eq-eqb (home_of pid) s.home.home mine

  printed : (pid number : ℕ) (bytes : List ℕ) → home_of pid ≡ s.home.home
      → Leads c (seen s) (seen (waiting.enters_home (record { pid = pid; number = number; call = home_calls.Print bytes }) (value 0 0) s)) (Does (Answers pid number (call.Print bytes) (value 0 0)) ∷ [])
  printed pid number bytes mine = leads c (seen s) (Answers pid number (call.Print bytes) (value 0 0)) (mine, refl) home

  pub exited : (pid number code : ℕ) → home_of pid ≡ s.home.home
      → Leads c (seen s) (seen (calling.ends_by_exit (record { pid = pid; number = number; call = home_calls.Exit code }) code s)) (Does (Answers pid number (words.call_of (home_calls.Exit code)) (value 0 0)) ∷ [])
  exited pid number code mine =
      let request : HomeRequest = record { pid = pid; number = number; call = home_calls.Exit code } in
      let entered : ClientProcs = waiting.enters_home request (value 0 0) s in
      let act = Answers pid number (words.call_of (home_calls.Exit code)) (value 0 0) in
      subst (λ (b : Bool). Leads c (seen s) (seen (cond b (record entered { home = ended entered.home pid (calling.ending_of code) }) entered)) (Does act ∷ [])) (sym (native pid mine))
      (subst (λ (t : Table). Leads c (seen s) (record (seen entered) { home = t }) (Does act ∷ [])) (exit_same s.home pid (code == 256) code)
      (leads c (seen s) act (mine, exit_answered c s.home pid (code == 256) code) home))

  asked_parent : (pid number : ℕ) → home_of pid ≡ s.home.home
      → Leads c (seen s) (seen (waiting.enters_home (record { pid = pid; number = number; call = home_calls.Getppid }) (calling.parent_reply pid s) s)) (Does (Answers pid number call.Getppid (calling.parent_reply pid s)) ∷ [])
  asked_parent pid number mine =
      leads c (seen s) (Answers pid number call.Getppid (calling.parent_reply pid s))
      (mine, ap (λ n. Some (answers.value n)) (number_same (parent_at s.home pid)) ∙ ap (λ b. Some (value (calling.number_or_zero (cond b (parent_at s.home pid) None)) 0)) (sym (native pid mine))) home

  named : (pid number max : ℕ) → home_of pid ≡ s.home.home
      → Leads c (seen s) (seen (waiting.enters_home (record { pid = pid; number = number; call = home_calls.Host max }) (calling.host_reply max s) s)) (Does (Answers pid number (call.Host max) (calling.host_reply max s)) ∷ [])
  named pid number max mine =
      leads c (seen s) (Answers pid number (call.Host max) (calling.host_reply max s)) (
        mine,
        ap (λ n. Some (told_name (kernel_name c.kernels n) max)) home.own
            ∙ ap (λ (lines : List KernelLine). Some (told_name (kernel_name lines s.kernel) max)) (sym home.kernels)
            ∙ ap (λ name. Some (told_name name max)) (sym (name_same s.kernels s.kernel home.numbered)),
      ) home

  ticked : (pid number : ℕ) → home_of pid ≡ s.home.home
      → Leads c (seen s) (seen (calling.ticks_for (record { pid = pid; number = number; call = home_calls.Tick }) s)) (Does (Answers pid number call.Tick (calling.tick_reply s)) ∷ [])
  ticked pid number mine = leads c (seen s) (Answers pid number call.Tick (calling.tick_reply s)) (mine, refl) home

  forked : (pid number : ℕ) → home_of pid ≡ s.home.home
      → Leads c (seen s) (seen (calling.forks (record { pid = pid; number = number; call = home_calls.Fork }) s)) (Does (Answers pid number call.Fork (calling.born_reply (homes.born_pid pid s))) ∷ [])
  forked pid number mine =
      let request : HomeRequest = record { pid = pid; number = number; call = home_calls.Fork } in
      let reply : Reply = calling.born_reply (homes.next_born s.home) in
      subst (λ (b : Bool). Leads c (seen s) (seen (waiting.enters_home request (calling.born_reply (cond b (homes.next_born s.home) None)) (cond b (record s { home = homes.with_born pid s.home }) s))) (Does (Answers pid number call.Fork (calling.born_reply (cond b (homes.next_born s.home) None))) ∷ []))
      (sym (native pid mine))
      (subst (λ (t : Table). Leads c (seen s) (record (seen s) { home = t; events = s.files.out.events ++ Enter (call_entry pid number call.Fork reply) ∷ [] }) (Does (Answers pid number call.Fork reply) ∷ [])) (born_same s.home pid)
      (leads c (seen s) (Answers pid number call.Fork reply) (mine, ap Some (child_same s.home)) home))

  pub waited_for : (pid number : ℕ) → home_of pid ≡ s.home.home
      → Leads c (seen s) (seen (waiting.waits (record { pid = pid; number = number; call = home_calls.Wait }) s)) (acts_of (record { pid = pid; number = number; call = home_calls.Wait }) (waiting.wait_reply pid s))
  waited_for pid number mine =
      let request : HomeRequest = record { pid = pid; number = number; call = home_calls.Wait } in
      let pending : Bool = is_pending_at s.home pid in
      let asked : ClientProcs = record s { home = waited s.home pid } in
      subst (λ (b : Bool). Leads c (seen s) (seen (waiting.enters_if request (words.wait_told (cond b (wait_answer s.home pid) NoChild) (b && pending)) (cond b asked s))) (acts_of request (words.wait_told (cond b (wait_answer s.home pid) NoChild) (b && pending))))
      (sym (native pid mine)) (by (words.wait_told (wait_answer s.home pid) pending) refl)
    where
      by : (o : Option Reply) → words.wait_told (wait_answer s.home pid) (is_pending_at s.home pid) ≡ o
          → Leads c (seen s) (seen (waiting.enters_if (record { pid = pid; number = number; call = home_calls.Wait }) o (record s { home = waited s.home pid }))) (acts_of (record { pid = pid; number = number; call = home_calls.Wait }) o)
      by (Some reply) e = leads c (seen s) (Answers pid number call.Wait reply) (mine, wait_same (wait_answer s.home pid) (is_pending_at s.home pid) ∙ e) home
      by None e =
          subst (λ (t : Table). Leads c (seen s) (record (seen s) { home = t }) []) (sym (untold_table s.home pid (unanswered (wait_answer s.home pid) (is_pending_at s.home pid) e)))
          (record { home = home; so = so_none c (seen s) })

  -- a `kill`, of one that lives or of none
  pub kill_living : (pid number target : ℕ) → home_of target ≡ s.home.home → homes.lives_at target s ≡ true
      → Leads c (seen s) (seen (waiting.enters_home (record { pid = pid; number = number; call = home_calls.Kill target }) (value 0 0) (homes.kills_at target s))) (Does (Kills pid number target) ∷ [])
  kill_living pid number target mine lives =
      let request : HomeRequest = record { pid = pid; number = number; call = home_calls.Kill target } in
      let living : is_living_at s.home target ≡ true = ap (λ b. cond b (is_living_at s.home target) false) (sym (native target mine)) ∙ lives in
      subst (λ (b : Bool). Leads c (seen s) (seen (waiting.enters_home request (value 0 0) (cond b (record s { home = killed s.home target }) s))) (Does (Kills pid number target) ∷ [])) (sym (native target mine))
      (subst (λ (b : Bool). Leads c (seen s) (record (seen s) { home = killed s.home target; events = s.files.out.events ++ Enter (call_entry pid number (call.Kill target) (cond b answers.nothing (Error errnos.NoProcess))) ∷ [] }) (Does (Kills pid number target) ∷ [])) living
      (leads c (seen s) (Kills pid number target) mine home))

  pub kill_none : (pid number target : ℕ) → home_of target ≡ s.home.home → homes.lives_at target s ≡ false
      → Leads c (seen s) (seen (waiting.enters_home (record { pid = pid; number = number; call = home_calls.Kill target }) (Error errnos.NoProcess) (homes.kills_at target s))) (Does (Kills pid number target) ∷ [])
  kill_none pid number target mine none =
      let request : HomeRequest = record { pid = pid; number = number; call = home_calls.Kill target } in
      let gone : is_living_at s.home target ≡ false = ap (λ b. cond b (is_living_at s.home target) false) (sym (native target mine)) ∙ none in
      subst (λ (b : Bool). Leads c (seen s) (seen (waiting.enters_home request (Error errnos.NoProcess) (cond b (record s { home = killed s.home target }) s))) (Does (Kills pid number target) ∷ [])) (sym (native target mine))
      (subst (λ (b : Bool). Leads c (seen s) (record (seen s) { home = killed s.home target; events = s.files.out.events ++ Enter (call_entry pid number (call.Kill target) (cond b answers.nothing (Error errnos.NoProcess))) ∷ [] }) (Does (Kills pid number target) ∷ [])) gone
      (leads c (seen s) (Kills pid number target) mine home))

  pub died_at_home : (about : About) → home_of about.pid ≡ s.home.home → Leads c (seen s) (seen (ending.ends_by_death about s)) (Does (Buries about.pid about.number) ∷ [])
  died_at_home about mine =
      let entered : ClientProcs = says.enters_death about s in
      subst (λ (b : Bool). Leads c (seen s) (seen (cond b (record entered { home = ended entered.home about.pid endings.Killed }) entered)) (Does (Buries about.pid about.number) ∷ [])) (sym (native about.pid mine))
      (leads c (seen s) (Buries about.pid about.number) mine home)

  -- the call by itself, before anybody is woken
  abbrev pub first_by : HomeCall → ℕ → ℕ → ClientProcs
  first_by (home_calls.Exit code) pid number = calling.ends_by_exit (record { pid = pid; number = number; call = home_calls.Exit code }) code s
  first_by (home_calls.Kill target) pid number =
      cond (homes.lives_at target s)
      (waiting.enters_home (record { pid = pid; number = number; call = home_calls.Kill target }) (value 0 0) (homes.kills_at target s))
      (waiting.enters_home (record { pid = pid; number = number; call = home_calls.Kill target }) (Error errnos.NoProcess) (homes.kills_at target s))
  first_by called pid number = calling.does_by called (record { pid = pid; number = number; call = called }) s

  pub first_acted : (called : HomeCall) (pid number : ℕ) → home_for (record { pid = pid; number = number; call = called }) ≡ s.home.home
      → Leads c (seen s) (seen (first_by called pid number)) (acts_of (record { pid = pid; number = number; call = called }) (calling.home_reply (record { pid = pid; number = number; call = called }) s))
  first_acted (home_calls.Print bytes) pid number mine = printed pid number bytes mine
  first_acted (home_calls.Exit code) pid number mine = exited pid number code mine
  first_acted home_calls.Getppid pid number mine = asked_parent pid number mine
  first_acted (home_calls.Host max) pid number mine = named pid number max mine
  first_acted home_calls.Tick pid number mine = ticked pid number mine
  first_acted home_calls.Fork pid number mine = forked pid number mine
  first_acted home_calls.Wait pid number mine = waited_for pid number mine
  first_acted (home_calls.Kill target) pid number mine = by (homes.lives_at target s) refl
    where
      by : (b : Bool) → homes.lives_at target s ≡ b
          → Leads c (seen s) (seen (cond b (waiting.enters_home (record { pid = pid; number = number; call = home_calls.Kill target }) (value 0 0) (homes.kills_at target s)) (waiting.enters_home (record { pid = pid; number = number; call = home_calls.Kill target }) (Error errnos.NoProcess) (homes.kills_at target s)))) (Does (Kills pid number target) ∷ [])
      by true e = kill_living pid number target mine e
      by false e = kill_none pid number target mine e
