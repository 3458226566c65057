-- What the calls on processes may change.
use Rattle.std.proofs.Common.{◌≡◌, ℕ, Bool, true, false, cond, List, [], ◌∷◌, ◌++◌, length, Option, Some, None, refl, inl, inr, nat_lt, nat_le, arith}
use Rattle.std.specs.Prelude.{◌==◌}
use Rattle.std.specs.List.{AllByRecursion}
use Rattle.std.specs.Option.{is_some}
use Rattle.std.proofs.lemmas.Bool.{leb-false}
use Rattle.sprite_ids.specs.Pid.{home_of}
use Rattle.sprite_ids.specs.declared.errno.Errno.TheVariants as errno
use Rattle.sprite_ids.specs.declared.running.Ending.{Ending}
use Rattle.sprite_ids.proofs.ListLaws.{each_filter, each_weaken}
use Rattle.process_machine.specs.declared.program.Program.{Program}
use Rattle.unix_calls.specs.declared.description.Description.{Description}
use Rattle.unix_calls.specs.State.{Process, Unix, process_at, births, next_pid, lives}
use Rattle.unix_calls.specs.ProcessCalls.{print, ends, ended, getppid, host, kernel_name, tick, fork, child_of, exec, exec_of, program_named, wait, waits_for, unwaited, ended_ones, is_unwaited, kill, kill_of, with_kill, move_refusal, migrate, rexec, rexec_of}
use Rattle.unix_calls.proofs.OutcomeLaws.{IsAmong, Nobody, Child, Marked, Fine, fine_refuses, fine_replies, fine_put, fine_own, fine_waits, fine_if, fine_unless}

pub fine_print : (c : Description) (u : Unix) (p : Process) (bytes : List ℕ) → Fine c u p (print c u p bytes)
fine_print c u p bytes = fine_own c u p (record p { console = p.console ++ bytes }) 0 0 [] refl

pub fine_ends : (c : Description) (u : Unix) (p : Process) (end : Ending) → Fine c u p (ends u p end)
fine_ends c u p end = fine_put c u p (ended p end) 0 0 [] refl

pub fine_getppid : (c : Description) (u : Unix) (p : Process) → Fine c u p (getppid c u p)
fine_getppid c u p = fine_own c u p p _ 0 [] refl

pub fine_host : (c : Description) (u : Unix) (p : Process) (max : ℕ) → Fine c u p (host c u p max)
fine_host c u p max =
    fine_if c u p (nat_lt max (length (kernel_name c.kernels (home_of p.pid)))) _ _ (λ e. fine_refuses c u p errno.Invalid) (λ e. fine_own c u p p _ 0 _ refl)

pub fine_tick : (c : Description) (u : Unix) (p : Process) → Fine c u p (tick c u p)
fine_tick c u p = fine_replies c u _ p p _ 0 [] (Nobody refl) refl (λ h. record { files = h.files; streams = h.streams }) refl

pub fine_fork : (c : Description) (u : Unix) (p : Process) → Fine c u p (fork c u p)
fine_fork c u p =
    fine_if c u p (nat_le 200 (births u.processes (home_of p.pid))) _ _ (λ e. fine_refuses c u p errno.TooMany)
    (λ e. fine_replies c u _ p p _ 0 [] (Child (child_of c p (next_pid u.processes (home_of p.pid))) refl (omega (arith, leb-false 200 (births u.processes (home_of p.pid)) e)) refl) refl (λ h. record { files = h.files; streams = h.streams }) refl)

fine_exec_of : (c : Description) (u : Unix) (p : Process) (found : Option Program) (arg : ℕ) → Fine c u p (exec_of c u p found arg)
fine_exec_of c u p None arg = fine_refuses c u p errno.NoEntry
fine_exec_of c u p (Some program) arg = fine_put c u p _ 0 0 [] refl

pub fine_exec : (c : Description) (u : Unix) (p : Process) (name : List ℕ) (arg : ℕ) → Fine c u p (exec c u p name arg)
fine_exec c u p name arg = fine_exec_of c u p (program_named c.programs name) arg

each_among : (ps : List Process) → AllByRecursion (λ (q : Process). IsAmong q ps) ps
each_among [] = tt
each_among (p ∷ ps) = (inl refl, each_weaken (λ (q : Process). IsAmong q ps) (λ (q : Process). IsAmong q (p ∷ ps)) ps (λ q h. inr h) (each_among ps))

fine_waits_for : (c : Description) (u : Unix) (p : Process) (children ends : List Process) → AllByRecursion (λ (q : Process). IsAmong q u.processes) ends → Fine c u p (waits_for c u p children ends)
fine_waits_for c u p [] ends among = fine_refuses c u p errno.NoChild
fine_waits_for c u p (child ∷ children) [] among = fine_waits c u p
fine_waits_for c u p (child ∷ children) (first ∷ rest) among =
    fine_replies c u _ p p _ _ [] (Marked first (record first { waited = true }) among.0 refl refl refl refl) refl (λ h. record { files = h.files; streams = h.streams }) refl

pub fine_wait : (c : Description) (u : Unix) (p : Process) → Fine c u p (wait c u p)
fine_wait c u p =
    fine_waits_for c u p (unwaited u p) (ended_ones (unwaited u p))
    (each_filter (λ (q : Process). IsAmong q u.processes) (λ (q : Process). is_some q.ending) (unwaited u p) (each_filter (λ (q : Process). IsAmong q u.processes) (is_unwaited p.pid) u.processes (each_among u.processes)))

if_pid : (b : Bool) (p q : Process) → q.pid ≡ p.pid → (cond b q p).pid ≡ p.pid
if_pid true p q e = e
if_pid false p q e = refl

found_among_by : (p q : Process) (ps : List Process) (pid : ℕ) (b : Bool) → cond b (Some p) (process_at ps pid) ≡ Some q → (process_at ps pid ≡ Some q → IsAmong q ps) → IsAmong q (p ∷ ps)
found_among_by p q ps pid true e later = inl (cc)
found_among_by p q ps pid false e later = inr (later e)

pub found_among : (ps : List Process) (pid : ℕ) (q : Process) → process_at ps pid ≡ Some q → IsAmong q ps
found_among [] pid q e = absurd (cc)
found_among (p ∷ ps) pid q e = found_among_by p q ps pid (p.pid == pid) e (found_among ps pid q)

fine_kill_of : (c : Description) (u : Unix) (p : Process) (found : Option Process) → ((q : Process) → found ≡ Some q → IsAmong q u.processes) → Fine c u p (kill_of c u p found)
fine_kill_of c u p None among = fine_refuses c u p errno.NoProcess
fine_kill_of c u p (Some target) among =
    fine_if c u p (lives target) _ _
    (λ e. fine_replies c u (with_kill target u) p (cond (target.pid == p.pid) (record p { killed = true }) p) 0 0 [] (Marked target (record target { killed = true }) (among target refl) refl refl refl refl) refl (λ h. record { files = h.files; streams = h.streams }) (if_pid (target.pid == p.pid) p (record p { killed = true }) refl))
    (λ e. fine_refuses c u p errno.NoProcess)

pub fine_kill : (c : Description) (u : Unix) (p : Process) (pid : ℕ) → Fine c u p (kill c u p pid)
fine_kill c u p pid = fine_kill_of c u p (process_at u.processes pid) (found_among u.processes pid)

pub fine_migrate : (c : Description) (u : Unix) (p : Process) (name : List ℕ) → Fine c u p (migrate c u p name)
fine_migrate c u p name = fine_unless c u p (move_refusal c u p name) _ (fine_own c u p p 0 0 [] refl)

fine_rexec_of : (c : Description) (u : Unix) (p : Process) (found : Option Program) (name : List ℕ) → Fine c u p (rexec_of c u p found name)
fine_rexec_of c u p None name = fine_refuses c u p errno.NoEntry
fine_rexec_of c u p (Some program) name = fine_unless c u p (move_refusal c u p name) _ (fine_put c u p _ 0 0 [] refl)

pub fine_rexec : (c : Description) (u : Unix) (p : Process) (name host_name : List ℕ) → Fine c u p (rexec c u p name host_name)
fine_rexec c u p name host_name = fine_rexec_of c u p (program_named c.programs name) host_name
