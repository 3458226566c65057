-- Whatever is done at a home, what is parked there waits rightly behind it.
use Rattle.std.proofs.Common.{◌≡◌, refl, sym, ap, subst, ◌∙◌, ◌⊎◌, inl, inr, ℕ, ◌+◌, ◌==◌, ◌≤◌, Bool, true, false, ◌&&◌, cond, not, List, [], ◌∷◌, ◌++◌, Option, Some, None, is_some, option_map, nat_lt, length}
use Rattle.std.proofs.lemmas.Bool.{true≢false, eq-eqb, eqb-true}
use Rattle.std.specs.List.{AllByRecursion, list_any}
use Rattle.sprite_ids.specs.declared.Ending.{Ending}
use Rattle.sprite_ids.specs.declared.Ending.TheVariants as endings
use Rattle.sprite_ids.specs.declared.Errno.TheVariants as errnos
use Rattle.sprite_ids.specs.declared.TxNo.{TxNo}
use Rattle.sprite_ids.specs.Lists.{EachOnce, less, without}
use Rattle.sprite_ids.specs.Pid.{birth_of, home_of}
use Rattle.sprite_ids.proofs.ListLaws.{each_push, each_weaken}
use Rattle.sprite_ids.proofs.OnceLaws.{pushed_once}
use Rattle.kernel_steps.specs.Rows.{first_under, is_row, is_under}
use Rattle.process_machine.specs.declared.Reply.{Reply}
use Rattle.process_machine.specs.declared.Reply.TheVariants.{Error}
use Rattle.process_machine.specs.Machine.{Machine}
use Rattle.packet_bodies.specs.declared.HomeCall.{HomeCall}
use Rattle.packet_bodies.specs.declared.HomeCall.TheVariants as home_calls
use Rattle.packet_bodies.specs.declared.HomeRequest.{HomeRequest}
use Rattle.packet_bodies.specs.declared.ReplyBody.TheVariants as bodies
use Rattle.packet_bodies.specs.declared.Request.TheVariants as requests
use Rattle.unix_calls.specs.declared.About.{About}
use Rattle.unix_calls.specs.declared.Description.{Description}
use Rattle.unix_calls.specs.declared.Entry.{Entry}
use Rattle.unix_calls.specs.declared.Event.TheVariants.{Enter}
use Rattle.home_table.specs.declared.birth.Birth.{Birth}
use Rattle.home_table.specs.declared.end.WaitAnswer.TheVariants.{NoChild}
use Rattle.home_table.specs.Home as tables
use Rattle.home_table.specs.Home.{Table, birth_at, is_so, is_living}
use Rattle.home_laws.specs.Answers.{told_wait}
use Rattle.home_laws.proofs.WaitCallLaws.{untold_table}
use Rattle.client_file_tables.specs.Streams as file_streams
use Rattle.client_homes.specs.declared.client.ClientProcs.{ClientProcs}
use Rattle.client_homes.specs.declared.client.KillState.{KillState}
use Rattle.client_homes.specs.declared.client.KillState.TheVariants as kill_states
use Rattle.client_homes.specs.declared.client.Parked.{Parked}
use Rattle.client_homes.specs.declared.client.Unfinished.TheVariants as unfinished
use Rattle.client_homes.specs.declared.process.Proc.{Proc}
use Rattle.client_homes.specs.declared.process.ProcState.{ProcState}
use Rattle.client_homes.specs.declared.process.ProcState.TheVariants as states
use Rattle.client_homes.specs.Births as births
use Rattle.client_homes.specs.Calls as calling
use Rattle.client_homes.specs.Clusters.{is_client}
use Rattle.client_homes.specs.Ends as ending
use Rattle.client_homes.specs.Homes as homes
use Rattle.client_homes.specs.Issuing as issuing
use Rattle.client_homes.specs.Issuing.{home_for}
use Rattle.client_homes.specs.Killing as killing
use Rattle.client_homes.specs.Kills as kills
use Rattle.client_homes.specs.Pages as pages
use Rattle.client_homes.specs.Procs as procs_of
use Rattle.client_homes.specs.Procs.{is_pid}
use Rattle.client_homes.specs.Says as says
use Rattle.client_homes.specs.Says.{next_tx, value}
use Rattle.client_homes.specs.Waits as waiting
use Rattle.client_homes.specs.Words as words
use Rattle.home_acts.specs.Deeds.{IsHome, Seen, seen}
use Rattle.home_acts.specs.Parked.{MayAsk, MayAskIf, Over, ParkedAreWoken, ParkedWait, Still, Waits, WaitsRightly, same_waiter}
use Rattle.home_acts.proofs.ActLaws.{unanswered, wait_same}
use Rattle.home_acts.proofs.DeedLaws.{each_less, found_key}
use Rattle.home_acts.proofs.FrameLaws as frames
use Rattle.home_acts.proofs.WaitingLaws.{And, Nobody, Owes, all_paid, birth_keeps, end_owes, kill_keeps, killed_again, killed_born, killed_none, nobody_more, none_less, once_less, others_keep, owes, owes_more, paid, place_keeps, wait_keeps, waiters_same}

-- a kernel's home, with what is parked there; D is who is to look again
record Stands (D : ℕ → Type 0) (v : Seen) : Type 0 where
  own : v.home.home ≡ v.kernel
  mine : AllByRecursion (λ (row : ℕ × Parked). home_of row.0 ≡ v.kernel) v.waits
  once : EachOnce same_waiter v.waits
  each : AllByRecursion (λ (row : ℕ × Parked). Owes D v.home row.0) v.waits

-- what a step has said is no matter
abbrev quiet : ClientProcs → Seen
quiet s = record (seen s) { events = [] }

-- of a process that has no `wait` parked
record MayPark (pid : ℕ) (s : ClientProcs) : Type 0 where
  from : 1 ≤ birth_of pid
  born : is_some (birth_at s.home.births pid) ≡ true
  home : home_of pid ≡ s.kernel
  none : list_any (is_under is_pid pid) s.waits ≡ false

-- a `wait` is answered or not, by what its reply is
data Asked (D : ℕ → Type 0) (pid : ℕ) (t : ClientProcs) (o : Option Reply) : Type 0 where
  Told : (reply : Reply) → o ≡ Some reply → Stands D (quiet t) → Asked D pid t o
  NotTold : o ≡ None → Stands D (quiet t) → MayPark pid t → told_wait (tables.wait_answer t.home pid) (tables.is_pending_at t.home pid) ≡ None → Asked D pid t o

module _ (D : ℕ → Type 0) where
  abbrev At : ClientProcs → Type 0
  At s = Stands D (quiet s)

  -- with one more that is to look again
  abbrev Owing : Option ℕ → ClientProcs → Type 0
  Owing o s = Stands (And D o) (quiet s)

  -- the table is another one, behind which who is parked owes that
  other_table : (E : ℕ → Type 0) (table : Table) (s : ClientProcs) → table.home ≡ s.home.home → ((pid : ℕ) → home_of pid ≡ s.kernel → Owes D s.home pid → Owes E table pid) → At s → Stands E (quiet (record s { home = table }))
  other_table E table s same f p = record { own = same ∙ p.own; mine = p.mine; once = p.once; each = both s.waits p.mine p.each }
    where
      both : (rows : List (ℕ × Parked)) → AllByRecursion (λ (row : ℕ × Parked). home_of row.0 ≡ s.kernel) rows → AllByRecursion (λ (row : ℕ × Parked). Owes D s.home row.0) rows → AllByRecursion (λ (row : ℕ × Parked). Owes E table row.0) rows
      both [] h k = tt
      both (row ∷ rows) h k = (f row.0 h.0 k.0, both rows h.1 k.1)

  any_owing : (o : Option ℕ) (s : ClientProcs) → At s → Owing o s
  any_owing o s p = record {
    own = p.own;
    mine = p.mine;
    once = p.once;
    each = each_weaken (λ (row : ℕ × Parked). Owes D s.home row.0) (λ (row : ℕ × Parked). Owes (And D o) s.home row.0) s.waits (λ row w. owes_more D o s.home row.0 w) p.each;
  }

  on_if : (b : Bool) (s t : ClientProcs) → (b ≡ true → At s) → (b ≡ false → At t) → At (cond b s t)
  on_if true s t f g = f refl
  on_if false s t f g = g refl

  -- Processes

  abbrev Q : Seen → Type 0
  Q v = Stands D (record v { events = [] })

  replied : (pid : ℕ) (reply : Reply) (s : ClientProcs) → At s → At (procs_of.replies pid reply s)
  replied pid reply s p = frames.replied Q pid reply s p

  flagged : (pid : ℕ) (s : ClientProcs) → At s → At (procs_of.killed_at pid s)
  flagged pid s p = frames.flagged Q pid s p

  state_kept : (pid : ℕ) (state : ProcState) (s : ClientProcs) → At s → At (procs_of.in_state pid state s)
  state_kept pid state s p = frames.state_kept Q pid state s p

  closed : (pid : ℕ) (about : Option About) (s : ClientProcs) → At s → At (ending.ends pid about s)
  closed pid about s p = frames.ended Q pid about s p

  answered_by : (o : Option Entry) (pid : ℕ) (reply : Reply) (s : ClientProcs) → At s → At (procs_of.answers_by pid reply o s)
  answered_by (Some entry) pid reply s p = replied pid reply (says.notes (Enter entry) s) p
  answered_by None pid reply s p = p

  answered_here : (pid : ℕ) (reply : Reply) (s : ClientProcs) → At s → At (procs_of.answers_here pid reply s)
  answered_here pid reply s p = answered_by (procs_of.entry_at pid reply s) pid reply s p

  -- Who looks again

  parked : (pid : ℕ) (row : Parked) (s : ClientProcs) → MayPark pid s → told_wait (tables.wait_answer s.home pid) (tables.is_pending_at s.home pid) ≡ None → At s → At (waiting.parks pid row s)
  parked pid row s may none p = record {
    own = p.own;
    mine = each_push (λ (r : ℕ × Parked). home_of r.0 ≡ s.kernel) s.waits (pid, row) p.mine may.home;
    once = pushed_once same_waiter waiters_same (pid, row) s.waits may.none p.once;
    each = each_push (λ (r : ℕ × Parked). Owes D s.home r.0) s.waits (pid, row) p.each (record { from = may.from; born = may.born; waits = inr (Still none) });
  }

  wait_ended : (o : Option TxNo) (pid : ℕ) (reply : Reply) (s : ClientProcs) → At s → At (waiting.ends_wait pid o reply s)
  wait_ended (Some tx) pid reply s p = p
  wait_ended None pid reply s p = replied pid reply s p

  -- the table behind a `wait`, which keeps all others
  waited_at : (pid : ℕ) (s : ClientProcs) → MayPark pid s → At s → At (record s { home = tables.waited s.home pid })
  waited_at pid s may p = record {
    own = p.own;
    mine = p.mine;
    once = p.once;
    each = others_keep pid (λ n. Owes D s.home n) (λ n. Owes D (tables.waited s.home pid) n) s.waits may.none (λ n apart w. wait_keeps D s.home pid n apart w) p.each;
  }

  native : (pid : ℕ) (s : ClientProcs) → home_of pid ≡ s.kernel → At s → homes.is_native pid s ≡ true
  native pid s mine p = eq-eqb (home_of pid) s.home.home (mine ∙ sym p.own)

  asked : (pid number : ℕ) (s : ClientProcs) → MayPark pid s → At s → Asked D pid (waiting.waits (record { pid = pid; number = number; call = home_calls.Wait }) s) (waiting.wait_reply pid s)
  asked pid number s may p =
      subst (λ (b : Bool). Asked D pid (waiting.enters_if request (words.wait_told (cond b (tables.wait_answer s.home pid) NoChild) (b && tables.is_pending_at s.home pid)) (cond b after s)) (words.wait_told (cond b (tables.wait_answer s.home pid) NoChild) (b && tables.is_pending_at s.home pid)))
      (sym (native pid s may.home p)) (by (words.wait_told (tables.wait_answer s.home pid) (tables.is_pending_at s.home pid)) refl)
    where
      request : HomeRequest
      request = record { pid = pid; number = number; call = home_calls.Wait }

      after : ClientProcs
      after = record s { home = tables.waited s.home pid }

      so : At after
      so = waited_at pid s may p

      by : (o : Option Reply) → words.wait_told (tables.wait_answer s.home pid) (tables.is_pending_at s.home pid) ≡ o → Asked D pid (waiting.enters_if request o after) o
      by (Some reply) e = Told reply refl so
      by None e =
          let same : tables.waited s.home pid ≡ s.home = untold_table s.home pid (unanswered (tables.wait_answer s.home pid) (tables.is_pending_at s.home pid) e) in
          NotTold refl so (record { from = may.from; born = ap (λ (t : Table). is_some (birth_at t.births pid)) same ∙ may.born; home = may.home; none = may.none })
          (ap (λ (t : Table). told_wait (tables.wait_answer t pid) (tables.is_pending_at t pid)) same ∙ wait_same (tables.wait_answer s.home pid) (tables.is_pending_at s.home pid) ∙ e)

  looked_again : (pid : ℕ) (row : Parked) (s : ClientProcs) → MayPark pid s → At s → At (waiting.looks_again pid row s)
  looked_again pid row s may p = by (asked pid row.number s may p)
    where
      after : ClientProcs
      after = waiting.waits (waiting.parked_call pid row) s

      by : Asked D pid after (waiting.wait_reply pid s) → At (waiting.ends_or_parks pid row (waiting.wait_reply pid s) after)
      by (Told reply e so) = subst (λ (o : Option Reply). At (waiting.ends_or_parks pid row o after)) (sym e) (wait_ended row.tx pid reply after so)
      by (NotTold e so park none) = subst (λ (o : Option Reply). At (waiting.ends_or_parks pid row o after)) (sym e) (parked pid row after park none so)

  -- the row is taken out, and with it what is owed
  taken : (pid : ℕ) (s : ClientProcs) → Owing (Some pid) s → At (record s { waits = less (is_under is_pid pid) s.waits })
  taken pid s p = record {
    own = p.own;
    mine = each_less (λ (row : ℕ × Parked). home_of row.0 ≡ s.kernel) (is_under is_pid pid) s.waits p.mine;
    once = once_less (is_under is_pid pid) s.waits p.once;
    each = all_paid D pid s.home (less (is_under is_pid pid) s.waits) (none_less pid s.waits p.once) (each_less (λ (row : ℕ × Parked). Owes (And D (Some pid)) s.home row.0) (is_under is_pid pid) s.waits p.each);
  }

  woken_by : (o : Option Parked) (pid : ℕ) (s : ClientProcs) → first_under is_pid pid s.waits ≡ o → Owing (Some pid) s → At (waiting.wakes_if pid o (record s { waits = less (is_under is_pid pid) s.waits }))
  woken_by None pid s e p = taken pid s p
  woken_by (Some row) pid s e p =
      looked_again pid row (record s { waits = less (is_under is_pid pid) s.waits })
      (record {
        from = found_key (λ (n : ℕ). 1 ≤ birth_of n) pid s.waits row (each_weaken (λ (r : ℕ × Parked). Owes (And D (Some pid)) s.home r.0) (λ (r : ℕ × Parked). 1 ≤ birth_of r.0) s.waits (λ r w. w.from) p.each) e;
        born = found_key (λ (n : ℕ). is_some (birth_at s.home.births n) ≡ true) pid s.waits row (each_weaken (λ (r : ℕ × Parked). Owes (And D (Some pid)) s.home r.0) (λ (r : ℕ × Parked). is_some (birth_at s.home.births r.0) ≡ true) s.waits (λ r w. w.born) p.each) e;
        home = found_key (λ (n : ℕ). home_of n ≡ s.kernel) pid s.waits row p.mine e;
        none = none_less pid s.waits p.once;
      }) (taken pid s p)

  woken : (pid : ℕ) (s : ClientProcs) → Owing (Some pid) s → At (waiting.wakes pid s)
  woken pid s p = woken_by (first_under is_pid pid s.waits) pid s refl p

  parent_woken : (o : Option ℕ) (s : ClientProcs) → Owing o s → At (waiting.wakes_parent o s)
  parent_woken (Some parent) s p = woken parent s p
  parent_woken None s p = record { own = p.own; mine = p.mine; once = p.once; each = nobody_more D s.home s.waits p.each }

  -- Ends

  ended_owing : (pid : ℕ) (how : Ending) (s : ClientProcs) → At s → Owing (homes.parent_in pid (homes.ends_at pid how s)) (homes.ends_at pid how s)
  ended_owing pid how s p = by (homes.is_native pid s) refl
    where
      by : (b : Bool) → homes.is_native pid s ≡ b → Owing (homes.parent_in pid (cond b (record s { home = tables.ended s.home pid how }) s)) (cond b (record s { home = tables.ended s.home pid how }) s)
      by true e =
          subst (λ (b : Bool). Owing (cond b (tables.parent_at (tables.ended s.home pid how) pid) None) (record s { home = tables.ended s.home pid how })) (sym e)
          (other_table (And D (tables.parent_at (tables.ended s.home pid how) pid)) (tables.ended s.home pid how) s refl (λ n mine w. end_owes D s.home pid how n w) p)
      by false e = any_owing (homes.parent_in pid s) s p

  woken_after : (pid : ℕ) (s : ClientProcs) → Owing (homes.parent_in pid s) s → At (waiting.wakes_after pid s)
  woken_after pid s p = by (killing.is_waiting (killing.kill_at pid s))
    where
      by : (b : Bool) → At (waiting.wakes_parent (homes.parent_in pid (cond b (killing.forgets_kill pid s) s)) (cond b (killing.forgets_kill pid s) s))
      by true = parent_woken (homes.parent_in pid s) (killing.forgets_kill pid s) p
      by false = parent_woken (homes.parent_in pid s) s p

  exited : (request : HomeRequest) (code : ℕ) (s : ClientProcs) → At s → At (calling.exits request code s)
  exited request code s p = woken_after request.pid (calling.ends_by_exit request code s) (ended_owing request.pid (calling.ending_of code) (waiting.enters_home request (value 0 0) s) p)

  died_at_home : (about : About) (s : ClientProcs) → At s → At (waiting.wakes_after about.pid (ending.ends_by_death about s))
  died_at_home about s p = woken_after about.pid (ending.ends_by_death about s) (ended_owing about.pid endings.Killed (says.enters_death about s) p)

  died_as : (about : About) (s : ClientProcs) → At s → At (ending.dies_as about s)
  died_as about s p =
      on_if (homes.is_native about.pid s) (ending.dies_here about s) (ending.dies_elsewhere about s)
      (λ e. closed about.pid None (waiting.wakes_after about.pid (ending.ends_by_death about s)) (died_at_home about s p))
      (λ e. state_kept about.pid (states.Dying (next_tx s)) (says.sends (home_of about.pid) None (requests.Home (ending.death_call about)) s) p)

  died_by : (o : Option ℕ) (pid : ℕ) (s : ClientProcs) → At s → At (ending.dies_by pid o s)
  died_by (Some number) pid s p = died_as (record { pid = pid; number = number }) s p
  died_by None pid s p = p

  died : (pid : ℕ) (s : ClientProcs) → At s → At (ending.dies pid s)
  died pid s p = died_by (ending.next_call pid s) pid s p

  -- Kills

  met_in : (state : ProcState) (pid : ℕ) (s : ClientProcs) → At s → At (kills.meets_as pid (kills.meeting_in state) s)
  met_in states.Ready pid s p = died pid s p
  met_in (states.Getting device max) pid s p = answered_here pid (Error errnos.Interrupted) (record s { getters = less (is_row is_pid is_pid device pid) s.getters }) p
  met_in state pid s p = p

  met_by : (o : Option Proc) (pid : ℕ) (s : ClientProcs) → At s → At (kills.meets_as pid (kills.meeting_of o) s)
  met_by (Some proc) pid s p = met_in proc.state pid s p
  met_by None pid s p = p

  met : (pid : ℕ) (s : ClientProcs) → At s → At (kills.meets_kill pid s)
  met pid s p = met_by (procs_of.proc_at pid s) pid s p

  kill_taken : (target : ℕ) (s : ClientProcs) → At s → At (kills.takes_kill target s)
  kill_taken target s p =
      let known : ClientProcs = procs_of.killed_at target s in
      on_if (kills.is_here target s) (kills.meets_kill target known) (killing.notes_kill target kill_states.Waits s) (λ e. met target known (flagged target s p)) (λ e. p)

-- ---- where nobody owes

abbrev Rest : ClientProcs → Type 0
Rest s = Stands Nobody (quiet s)

-- the one that is killed is to look again, and does
abbrev Target : ℕ → ℕ → Type 0
Target target pid = pid ≡ target

killed_row : (table : Table) (target pid : ℕ) → home_of pid ≡ table.home → home_of target ≡ table.home → 1 ≤ birth_of target → Owes Nobody table pid → Owes (Target target) (tables.killed table target) pid
killed_row table target pid mine its to w = by (kill_keeps table target pid mine its to (paid table pid w))
  where
    by : (pid ≡ target) ⊎ WaitsRightly (tables.killed table target) pid → Owes (Target target) (tables.killed table target) pid
    by (inl same) = record { from = w.from; born = killed_born table target pid w.born; waits = inl same }
    by (inr r) = record { from = r.from; born = r.born; waits = inr r.waits }

target_woken : (target : ℕ) (s : ClientProcs) → Stands (Target target) (quiet s) → Rest (waiting.wakes target s)
target_woken target s p = woken Nobody target s (record {
  own = p.own;
  mine = p.mine;
  once = p.once;
  each = each_weaken (λ (row : ℕ × Parked). Owes (Target target) s.home row.0) (λ (row : ℕ × Parked). Owes (And Nobody (Some target)) s.home row.0) s.waits (λ row w. record { from = w.from; born = w.born; waits = by row.0 w.waits }) p.each;
})
  where
    by : (n : ℕ) → Target target n ⊎ Waits s.home n → And Nobody (Some target) n ⊎ Waits s.home n
    by n (inl e) = inl (inr (ap Some (sym e)))
    by n (inr waits) = inr waits

kill_told : (about : About) (target : ℕ) (s : ClientProcs) → Stands (Target target) (quiet s) → Rest (kills.tells_kill about target s)
kill_told about target s p = by (homes.place_in target s == s.home.home)
  where
    by : (b : Bool) → Rest (cond b (waiting.wakes target (kills.takes_kill target s)) (waiting.wakes target (kills.goes_after (Some about) target (homes.place_in target s) s)))
    by true = target_woken target (kills.takes_kill target s) (kill_taken (Target target) target s p)
    by false = target_woken target (kills.goes_after (Some about) target (homes.place_in target s) s) p

-- a `kill`: who was killed already isn't parked but where it is over
killed : (pid number target : ℕ) (s : ClientProcs) → home_of target ≡ s.home.home → 1 ≤ birth_of target → Rest s → Rest (calling.kills (record { pid = pid; number = number; call = home_calls.Kill target }) target s)
killed pid number target s its to p = by (homes.lives_at target s) (homes.is_killed target s) refl refl
  where
    request : HomeRequest
    request = record { pid = pid; number = number; call = home_calls.Kill target }

    is_native : homes.is_native target s ≡ true
    is_native = eq-eqb (home_of target) s.home.home its

    owing : (reply : Reply) → Stands (Target target) (quiet (waiting.enters_home request reply (homes.kills_at target s)))
    owing reply =
        subst (λ (b : Bool). Stands (Target target) (quiet (waiting.enters_home request reply (cond b (record s { home = tables.killed s.home target }) s)))) (sym is_native)
        (other_table Nobody (Target target) (tables.killed s.home target) s refl (λ n mine w. killed_row s.home target n (mine ∙ sym p.own) its to w) p)

    same : (reply : Reply) → tables.killed s.home target ≡ s.home → Rest (waiting.enters_home request reply (homes.kills_at target s))
    same reply e =
        subst (λ (b : Bool). Rest (waiting.enters_home request reply (cond b (record s { home = tables.killed s.home target }) s))) (sym is_native)
        (subst (λ (t : Table). Stands Nobody (record (quiet s) { home = t })) (sym e) p)

    by : (lives again : Bool) → homes.lives_at target s ≡ lives → homes.is_killed target s ≡ again
        → Rest (cond lives (cond (not again) (kills.tells_kill (record { pid = pid; number = number }) target (waiting.enters_home request (value 0 0) (homes.kills_at target s))) (waiting.enters_home request (value 0 0) (homes.kills_at target s))) (waiting.enters_home request (Error errnos.NoProcess) (homes.kills_at target s)))
    by true false e f = kill_told (record { pid = pid; number = number }) target (waiting.enters_home request (value 0 0) (homes.kills_at target s)) (owing (value 0 0))
    by true true e f = same (value 0 0) (killed_again s.home target (ap (λ b. b && tables.is_pending_at s.home target) (sym is_native) ∙ f))
    by false again e f = same (Error errnos.NoProcess) (killed_none s.home target (ap (λ b. cond b (tables.is_living_at s.home target) false) (sym is_native) ∙ e))

kill_heard : (tx : TxNo) (pid : ℕ) (s : ClientProcs) → Rest s → Rest (kills.hears_kill tx pid s)
kill_heard tx pid s p =
    let told : ClientProcs = says.answers tx bodies.Done (procs_of.killed_at pid s) in
    on_if Nobody (kills.is_here pid s) (kills.meets_kill pid told) (says.answers tx bodies.Gone (kills.notes_early pid s)) (λ e. met Nobody pid told (flagged Nobody pid s p)) (λ e. p)

moved_kept : (pid kernel : ℕ) (s : ClientProcs) → Rest s → Rest (homes.moves_to pid kernel s)
moved_kept pid kernel s p = by (homes.is_native pid s)
  where
    by : (b : Bool) → Rest (cond b (record s { home = tables.moved s.home pid kernel }) s)
    by true = other_table Nobody Nobody (tables.moved s.home pid kernel) s refl (λ n mine w. owes Nobody (tables.moved s.home pid kernel) n (place_keeps s.home pid kernel n (paid s.home n w))) p
    by false = p

come_if : (o : Option KillState) (pid kernel : ℕ) (s : ClientProcs) → Rest s → Rest (kills.comes_if pid kernel o s)
come_if None pid kernel s p = p
come_if (Some (kill_states.Out placed)) pid kernel s p = p
come_if (Some kill_states.Waits) pid kernel s p = p

place_told : (tx : TxNo) (pid kernel : ℕ) (s : ClientProcs) → Rest s → Rest (kills.tells_place tx pid kernel s)
place_told tx pid kernel s p = come_if (killing.kill_at pid s) pid kernel (killing.forgets_kill pid (says.answers tx bodies.Done (homes.moves_to pid kernel s))) (moved_kept pid kernel s p)

-- ---- births

forked : (pid number : ℕ) (s : ClientProcs) → Rest s → Rest (calling.forks (record { pid = pid; number = number; call = home_calls.Fork }) s)
forked pid number s p = by (homes.is_native pid s) (nat_lt (length s.home.births) 200)
  where
    by : (b room : Bool) → Stands Nobody (quiet (cond b (record s { home = cond room (tables.born s.home (Some pid)) s.home }) s))
    by true true = other_table Nobody Nobody (tables.born s.home (Some pid)) s refl (λ n mine w. owes Nobody (tables.born s.home (Some pid)) n (birth_keeps s.home (Some pid) n (paid s.home n w))) p
    by true false = p
    by false room = p

early_met : (child : ℕ) (s : ClientProcs) → Rest s → Rest (births.meets_early child s)
early_met child s p =
    let known : ClientProcs = procs_of.killed_at child (record s { early = without (is_under is_pid child) s.early }) in
    on_if Nobody (not (list_any (is_under is_pid child) s.early)) s (ending.dies child known) (λ e. p) (λ e. died Nobody child known (flagged Nobody child (record s { early = without (is_under is_pid child) s.early }) p))

placed_if : (o : Option Machine) (parent child : ℕ) (s : ClientProcs) → Rest s → Rest (births.places_if parent child o s)
placed_if None parent child s p = p
placed_if (Some image) parent child s p =
    let forks : ClientProcs = births.forks_streams parent child s in
    early_met child (births.puts_proc child (births.child_of image) (births.copies_cwd parent child forks)) (frames.cwd_kept (Q Nobody) (file_streams.cwd_of parent forks.files) child forks p)

made_if : (o : Option ℕ) (pid : ℕ) (s : ClientProcs) → Rest s → Rest (issuing.makes_if pid o s)
made_if None pid s p = p
made_if (Some child) pid s p = placed_if (births.child_image pid s) pid child s p

child_brought : (pid : ℕ) (reply : Reply) (s : ClientProcs) → Rest s → Rest (issuing.brings_child pid reply s)
child_brought pid reply s p = replied Nobody pid reply (issuing.makes_if pid (issuing.child_in reply) s) (made_if (issuing.child_in reply) pid s p)

finished_by : (call : HomeCall) (pid number : ℕ) (reply : Reply) (s : ClientProcs) → Rest s → Rest (issuing.finishes reply (record { pid = pid; number = number; call = call }) s)
finished_by (home_calls.Print bytes) pid number reply s p = replied Nobody pid reply s p
finished_by (home_calls.Exit code) pid number reply s p = closed Nobody pid (Some (record { pid = pid; number = number })) s p
finished_by home_calls.Getppid pid number reply s p = replied Nobody pid reply s p
finished_by (home_calls.Host max) pid number reply s p = replied Nobody pid reply s p
finished_by home_calls.Tick pid number reply s p = replied Nobody pid reply s p
finished_by home_calls.Fork pid number reply s p = child_brought pid reply s p
finished_by home_calls.Wait pid number reply s p = replied Nobody pid reply s p
finished_by (home_calls.Kill target) pid number reply s p = replied Nobody pid reply s p

finished_if : (o : Option HomeRequest) (reply : Reply) (s : ClientProcs) → Rest s → Rest (issuing.finishes_if o reply s)
finished_if (Some request) reply s p = finished_by request.call request.pid request.number reply s p
finished_if None reply s p = p

-- ---- calls

-- who may ask may be parked
lives_born : (o : Option Birth) → is_so is_living (option_map (λ (b : Birth). b.life) o) ≡ true → is_some o ≡ true
lives_born None h = absurd (true≢false (sym h))
lives_born (Some b) h = refl

may_park : (pid : ℕ) (s : ClientProcs) → home_of pid ≡ s.home.home → MayAsk home_calls.Wait pid s → Rest s → MayPark pid s
may_park pid s mine may p = record {
  from = may.0;
  born = lives_born (birth_at s.home.births pid) (ap (λ b. cond b (tables.is_living_at s.home pid) false) (sym (eq-eqb (home_of pid) s.home.home mine)) ∙ may.1);
  home = mine ∙ p.own;
  none = may.2;
}

-- each call by itself but `wait`
done : (called : HomeCall) (pid number : ℕ) (s : ClientProcs) → home_for (record { pid = pid; number = number; call = called }) ≡ s.home.home → MayAsk called pid s → Rest s → Rest (calling.does_by called (record { pid = pid; number = number; call = called }) s)
done (home_calls.Print bytes) pid number s mine may p = p
done (home_calls.Exit code) pid number s mine may p = exited Nobody (record { pid = pid; number = number; call = home_calls.Exit code }) code s p
done home_calls.Getppid pid number s mine may p = p
done (home_calls.Host max) pid number s mine may p = p
done home_calls.Tick pid number s mine may p = other_table Nobody Nobody (record s.home { ticks = s.home.ticks + 1 }) s refl (λ n home w. record { from = w.from; born = w.born; waits = inr (on (paid s.home n w).waits) }) p
  where
    on : {n : ℕ} → Waits s.home n → Waits (record s.home { ticks = s.home.ticks + 1 }) n
    on (Over over) = Over over
    on (Still none) = Still none
done home_calls.Fork pid number s mine may p = forked pid number s p
done home_calls.Wait pid number s mine may p = by (asked Nobody pid number s (may_park pid s mine may p) p)
  where
    by : Asked Nobody pid (waiting.waits (record { pid = pid; number = number; call = home_calls.Wait }) s) (waiting.wait_reply pid s) → Rest (waiting.waits (record { pid = pid; number = number; call = home_calls.Wait }) s)
    by (Told reply e so) = so
    by (NotTold e so park none) = so
done (home_calls.Kill target) pid number s mine may p = killed pid number target s mine may p

answered_or_parked : (pid number : ℕ) (o : Option Reply) (s : ClientProcs) → Asked Nobody pid s o → Rest (issuing.finishes_or_parks o (record { pid = pid; number = number; call = home_calls.Wait }) s)
answered_or_parked pid number o s (Told reply e so) = subst (λ (r : Option Reply). Rest (issuing.finishes_or_parks r (record { pid = pid; number = number; call = home_calls.Wait }) s)) (sym e) (replied Nobody pid reply s so)
answered_or_parked pid number o s (NotTold e so park none) =
    subst (λ (r : Option Reply). Rest (issuing.finishes_or_parks r (record { pid = pid; number = number; call = home_calls.Wait }) s)) (sym e) (state_parked (option_map {T = Proc} (λ proc. record proc { state = states.Waiting }) (procs_of.proc_at pid s)))
  where
    state_parked : (o : Option Proc) → Rest (waiting.parks pid (record { number = number; tx = None }) (procs_of.with_proc pid o s))
    state_parked (Some proc) = parked Nobody pid (record { number = number; tx = None }) s park none so
    state_parked None = parked Nobody pid (record { number = number; tx = None }) s park none so

done_here : (called : HomeCall) (pid number : ℕ) (s : ClientProcs) → home_for (record { pid = pid; number = number; call = called }) ≡ s.home.home → MayAsk called pid s → Rest s → Rest (issuing.does_here (record { pid = pid; number = number; call = called }) s)
done_here (home_calls.Print bytes) pid number s mine may p = replied Nobody pid (value 0 0) (calling.does_by (home_calls.Print bytes) (record { pid = pid; number = number; call = home_calls.Print bytes }) s) p
done_here (home_calls.Exit code) pid number s mine may p =
    closed Nobody pid (Some (record { pid = pid; number = number })) (calling.does_by (home_calls.Exit code) (record { pid = pid; number = number; call = home_calls.Exit code }) s) (done (home_calls.Exit code) pid number s mine may p)
done_here home_calls.Getppid pid number s mine may p = replied Nobody pid (calling.parent_reply pid s) (calling.does_by home_calls.Getppid (record { pid = pid; number = number; call = home_calls.Getppid }) s) p
done_here (home_calls.Host max) pid number s mine may p = replied Nobody pid (calling.host_reply max s) (calling.does_by (home_calls.Host max) (record { pid = pid; number = number; call = home_calls.Host max }) s) p
done_here home_calls.Tick pid number s mine may p = replied Nobody pid (calling.tick_reply s) (calling.does_by home_calls.Tick (record { pid = pid; number = number; call = home_calls.Tick }) s) (done home_calls.Tick pid number s mine may p)
done_here home_calls.Fork pid number s mine may p = child_brought pid (calling.born_reply (homes.born_pid pid s)) (calling.does_by home_calls.Fork (record { pid = pid; number = number; call = home_calls.Fork }) s) (forked pid number s p)
done_here home_calls.Wait pid number s mine may p =
    answered_or_parked pid number (waiting.wait_reply pid s) (waiting.waits (record { pid = pid; number = number; call = home_calls.Wait }) s) (asked Nobody pid number s (may_park pid s mine may p) p)
done_here (home_calls.Kill target) pid number s mine may p = replied Nobody pid (calling.kill_reply target s) (calling.does_by (home_calls.Kill target) (record { pid = pid; number = number; call = home_calls.Kill target }) s) (killed pid number target s mine may p)

asked_home : (kernel : ℕ) (request : HomeRequest) (s : ClientProcs) → Rest s → Rest (issuing.asks_home kernel request s)
asked_home kernel request s p = by (issuing.is_fork request.call)
  where
    kept : ClientProcs
    kept = ending.keeps_tx (next_tx s) (unfinished.Home request.pid) (procs_of.in_state request.pid (states.AtHome (next_tx s)) (says.sends kernel (Some (waiting.about_of request)) (requests.Home request) s))

    so : Rest kept
    so = state_kept Nobody request.pid (states.AtHome (next_tx s)) (says.sends kernel (Some (waiting.about_of request)) (requests.Home request) s) p

    by : (b : Bool) → Rest (cond b (record kept { forks = kept.forks ++ (next_tx s, kernel) ∷ [] }) kept)
    by true = so
    by false = so

fetched_or_gone : (o : Option ℕ) (request : HomeRequest) (s : ClientProcs) → MayAsk request.call request.pid s → Rest s → Rest (issuing.fetches_or_goes o request s)
fetched_or_gone (Some page) request s may p = state_kept Nobody request.pid (states.ForkPages (next_tx s) page) (pages.fetches request.pid page s) p
fetched_or_gone None request s may p =
    on_if Nobody (home_for request == s.home.home) (issuing.does_here request s) (issuing.asks_home (home_for request) request s)
    (λ e. done_here request.call request.pid request.number s (eqb-true (home_for request) s.home.home e) may p) (λ e. asked_home (home_for request) request s p)

begun_if : (o : Option HomeRequest) (pid : ℕ) (s : ClientProcs) → MayAskIf o s → Rest s → Rest (issuing.begins_if pid o s)
begun_if None pid s may p = answered_here Nobody pid (Error errnos.NoProcess) s p
begun_if (Some request) pid s may p =
    on_if Nobody (not (is_client s.kernels (home_for request))) (procs_of.answers_here request.pid (Error errnos.NoProcess) s) (issuing.fetches_or_goes (issuing.page_for request s) request s)
    (λ e. answered_here Nobody request.pid (Error errnos.NoProcess) s p) (λ e. fetched_or_gone (issuing.page_for request s) request s may p)

served : (called : HomeCall) (tx : TxNo) (pid number : ℕ) (s : ClientProcs) → home_for (record { pid = pid; number = number; call = called }) ≡ s.home.home → MayAsk called pid s → Rest s → Rest (issuing.serves_home tx (record { pid = pid; number = number; call = called }) s)
served (home_calls.Print bytes) tx pid number s mine may p = p
served (home_calls.Exit code) tx pid number s mine may p =
    on_if Nobody (code == 257) (issuing.serves_death tx (record { pid = pid; number = number; call = home_calls.Exit code }) s) (says.answers tx (words.packet_of (value 0 0)) (calling.exits (record { pid = pid; number = number; call = home_calls.Exit code }) code s))
    (λ e. died_at_home Nobody (record { pid = pid; number = number }) s p) (λ e. exited Nobody (record { pid = pid; number = number; call = home_calls.Exit code }) code s p)
served home_calls.Getppid tx pid number s mine may p = p
served (home_calls.Host max) tx pid number s mine may p = p
served home_calls.Tick tx pid number s mine may p = done home_calls.Tick pid number s mine may p
served home_calls.Fork tx pid number s mine may p = forked pid number s p
served home_calls.Wait tx pid number s mine may p = by (asked Nobody pid number s (may_park pid s mine may p) p)
  where
    after : ClientProcs
    after = waiting.waits (record { pid = pid; number = number; call = home_calls.Wait }) s

    by : Asked Nobody pid after (waiting.wait_reply pid s) → Rest (issuing.answers_or_parks tx (waiting.wait_reply pid s) (record { pid = pid; number = number; call = home_calls.Wait }) after)
    by (Told reply e so) = subst (λ (o : Option Reply). Rest (issuing.answers_or_parks tx o (record { pid = pid; number = number; call = home_calls.Wait }) after)) (sym e) so
    by (NotTold e so park none) =
        subst (λ (o : Option Reply). Rest (issuing.answers_or_parks tx o (record { pid = pid; number = number; call = home_calls.Wait }) after)) (sym e)
        (parked Nobody pid (record { number = number; tx = Some tx }) after park none so)
served (home_calls.Kill target) tx pid number s mine may p = killed pid number target s mine may p

-- ---- the laws

rest : (c : Description) (s : ClientProcs) → IsHome c (seen s) → ParkedWait s → Rest s
rest c s home p = record {
  own = home.own;
  mine = home.waiters;
  once = p.once;
  each = each_weaken (λ (row : ℕ × Parked). WaitsRightly s.home row.0) (λ (row : ℕ × Parked). Owes Nobody s.home row.0) s.waits (λ row w. owes Nobody s.home row.0 w) p.each;
}

waits_so : (s : ClientProcs) → Rest s → ParkedWait s
waits_so s p = record { once = p.once; each = each_weaken (λ (row : ℕ × Parked). Owes Nobody s.home row.0) (λ (row : ℕ × Parked). WaitsRightly s.home row.0) s.waits (λ row w. paid s.home row.0 w) p.each }

pub parked_are_woken : ParkedAreWoken
parked_are_woken = record {
  served = λ c s tx request home mine may p. waits_so (issuing.serves_home tx request s) (served request.call tx request.pid request.number s mine may (rest c s home p));
  issued = λ c s pid home may p. waits_so (issuing.issues_home pid s) (begun_if (issuing.own_request pid s) pid s may (rest c s home p));
  heard = λ c s tx pid body home p. waits_so (issuing.hears_home tx pid body s) (finished_if (issuing.own_request pid (issuing.forgets_fork tx s)) (words.reply_of body) (issuing.forgets_fork tx s) (rest c s home p));
  died = λ c s pid home p. waits_so (ending.dies pid s) (died Nobody pid s (rest c s home p));
  kill_heard = λ c s tx pid home p. waits_so (kills.hears_kill tx pid s) (kill_heard tx pid s (rest c s home p));
  place_heard = λ c s tx pid kernel home p. waits_so (kills.tells_place tx pid kernel s) (place_told tx pid kernel s (rest c s home p));
}
