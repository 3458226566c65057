-- The numbers of processes: each home's are counted, so the next one is new.
use Rattle.std.proofs.Common.{◌≡◌, ◌<◌, ◌≤◌, ℕ, ◌+◌, ◌*◌, Bool, cond, List, [], ◌∷◌, length, Option, Some, None, refl, sym, ap, subst, ◌∙◌, arith}
use Rattle.std.specs.Prelude.{◌==◌}
use Rattle.std.specs.List.{AllByRecursion}
use Rattle.std.proofs.lemmas.Bool.{eq-eqb}
use Rattle.std.proofs.lemmas.List.Sums.{sum_by-cons, count_by-le-length}
use Rattle.std.proofs.lemmas.Nat.{div-mul-add}
use Rattle.sprite_ids.specs.Pid.{home_of}
use Rattle.sprite_ids.proofs.ListLaws.{each_weaken}
use Rattle.process_machine.specs.declared.program.Program.{Program}
use Rattle.process_machine.specs.Fresh.{fresh_machine}
use Rattle.unix_calls.specs.declared.description.Description.{Description}
use Rattle.unix_calls.specs.declared.description.ProgramLine.{ProgramLine}
use Rattle.unix_calls.specs.declared.description.StartLine.{StartLine}
use Rattle.unix_calls.specs.State.{Process, process_at, put_process, births, next_pid}
use Rattle.unix_calls.specs.Answers.{program_at}
use Rattle.unix_calls.specs.Boot.{new_process, started, started_by, boot_of}
use Rattle.unix_calls.proofs.OutcomeLaws.{Others, Nobody, Child, Marked}
use Rattle.unix_calls.proofs.ProcessLaws.{Compared, Same, Less, More, compared, at_same, at_other, put_same, put_less, put_more, found_pid, found_each, each_put, Behind, Ascending, ascending_put, among_found}

-- what a process of that number counts for among the births of a home
abbrev pub Counts : ℕ → ℕ → ℕ
Counts pid home = cond (home_of pid == home) 1 0

births-cons : (p : Process) (ps : List Process) (home : ℕ) → births (p ∷ ps) home ≡ Counts p.pid home + births ps home
births-cons p ps home = sum_by-cons (λ (q : Process). cond (home_of q.pid == home) 1 0) p ps

-- one that takes another's place leaves the births as they are
births_again_by : (r q : Process) (qs : List Process) (home : ℕ) (old : Process) → Compared r.pid q.pid → AllByRecursion (Behind q.pid) qs → process_at (q ∷ qs) r.pid ≡ Some old → (process_at qs r.pid ≡ Some old → births (put_process r qs) home ≡ births qs home) → births (put_process r (q ∷ qs)) home ≡ births (q ∷ qs) home
births_again_by r q qs home old (Same e) behind there later =
    rw (put_same r q qs e, births-cons r qs home, births-cons q qs home, e) refl
births_again_by r q qs home old (Less e) behind there later =
    let further : process_at qs r.pid ≡ Some old = sym (at_other q qs r.pid (λ (same : q.pid ≡ r.pid). omega (arith, same, e))) ∙ there in
    absurd (omega (arith, e, found_pid qs r.pid old further, found_each (Behind q.pid) qs r.pid old behind further))
births_again_by r q qs home old (More e) behind there later =
    let further : process_at qs r.pid ≡ Some old = sym (at_other q qs r.pid (λ (same : q.pid ≡ r.pid). omega (arith, same, e))) ∙ there in
    rw (put_more r q qs e, births-cons q (put_process r qs) home, births-cons q qs home, later further) refl

births_again : (r : Process) (ps : List Process) (home : ℕ) (old : Process) → Ascending ps → process_at ps r.pid ≡ Some old → births (put_process r ps) home ≡ births ps home
births_again r [] home old h there = absurd (cc)
births_again r (q ∷ qs) home old h there =
    births_again_by r q qs home old (compared r.pid q.pid) h.0 there (births_again r qs home old h.1)

-- a new one counts
births_more_by : (r q : Process) (qs : List Process) (home : ℕ) → Compared r.pid q.pid → process_at (q ∷ qs) r.pid ≡ None → (process_at qs r.pid ≡ None → births (put_process r qs) home ≡ Counts r.pid home + births qs home) → births (put_process r (q ∷ qs)) home ≡ Counts r.pid home + births (q ∷ qs) home
births_more_by r q qs home (Same e) none later =
    let there : process_at (q ∷ qs) r.pid ≡ Some q = at_same q qs r.pid (sym e) in
    absurd (cc)
births_more_by r q qs home (Less e) none later = rw (put_less r q qs e) (births-cons r (q ∷ qs) home)
births_more_by r q qs home (More e) none later =
    let further : process_at qs r.pid ≡ None = sym (at_other q qs r.pid (λ (same : q.pid ≡ r.pid). omega (arith, same, e))) ∙ none in
    rw (put_more r q qs e, births-cons q (put_process r qs) home, births-cons q qs home, later further) (omega arith)

births_more : (r : Process) (ps : List Process) (home : ℕ) → process_at ps r.pid ≡ None → births (put_process r ps) home ≡ Counts r.pid home + births ps home
births_more r [] home none = births-cons r [] home
births_more r (q ∷ qs) home none = births_more_by r q qs home (compared r.pid q.pid) none (births_more r qs home)

-- each number is at most that of its home's last birth
abbrev pub IsCounted : List Process → Process → Type 0
IsCounted all p = p.pid ≤ 1000 * home_of p.pid + births all (home_of p.pid)

-- by ascending number, and counted
pub record Numbered (ps : List Process) : Type 0 where
  pub ascending : Ascending ps
  pub counted : AllByRecursion (IsCounted ps) ps

-- one that takes another's place
pub numbered_again : (r old : Process) (ps : List Process) → process_at ps r.pid ≡ Some old → Numbered ps → Numbered (put_process r ps)
numbered_again r old ps there h =
    let same : old.pid ≡ r.pid = found_pid ps r.pid old there in
    let mine : IsCounted ps r = subst (λ (n : ℕ). n ≤ 1000 * home_of n + births ps (home_of n)) same (found_each (IsCounted ps) ps r.pid old h.counted there) in
    record {
      ascending = ascending_put r ps h.ascending;
      counted = each_put (IsCounted (put_process r ps)) r ps (rw (births_again r ps (home_of r.pid) old h.ascending there) mine) (each_weaken (IsCounted ps) (IsCounted (put_process r ps)) ps (λ (p : Process) (k : IsCounted ps p). rw (births_again r ps (home_of p.pid) old h.ascending there) k) h.counted);
    }

-- the next number of a home is that home's, and new
pub next_home : (ps : List Process) (home : ℕ) → births ps home < 200 → home_of (next_pid ps home) ≡ home
next_home ps home few =
    let is : next_pid ps home ≡ home * 1000 + (1 + births ps home) = omega arith in
    rw is (div-mul-add home 1000 (1 + births ps home) (omega (arith, few)))

none_by : (ps : List Process) (pid : ℕ) (o : Option Process) → process_at ps pid ≡ o → ((q : Process) → process_at ps pid ≡ Some q → ⊥) → process_at ps pid ≡ None
none_by ps pid None e h = e
none_by ps pid (Some q) e h = absurd (h q e)

pub next_is_new : (ps : List Process) (home : ℕ) → births ps home < 200 → AllByRecursion (IsCounted ps) ps → process_at ps (next_pid ps home) ≡ None
next_is_new ps home few h =
    none_by ps (next_pid ps home) (process_at ps (next_pid ps home)) refl
    (λ (q : Process) (there : process_at ps (next_pid ps home) ≡ Some q).
    let is : q.pid ≡ next_pid ps home = found_pid ps (next_pid ps home) q there in
    let at_home : home_of q.pid ≡ home = ap home_of is ∙ next_home ps home few in
    let counted : q.pid ≤ 1000 * home + births ps home = subst (λ (n : ℕ). q.pid ≤ 1000 * n + births ps n) at_home (found_each (IsCounted ps) ps (next_pid ps home) q h there) in
    omega (arith, is, counted))

-- a new one with the next number of its home
pub numbered_more : (child : Process) (ps : List Process) (home : ℕ) → child.pid ≡ next_pid ps home → births ps home < 200 → Numbered ps → Numbered (put_process child ps)
numbered_more child ps home is few h =
    let new : process_at ps child.pid ≡ None = subst (λ (n : ℕ). process_at ps n ≡ None) (sym is) (next_is_new ps home few h.counted) in
    let at_home : home_of child.pid ≡ home = ap home_of is ∙ next_home ps home few in
    let one : Counts child.pid home ≡ 1 = ap (λ (b : Bool). cond b 1 0) (eq-eqb (home_of child.pid) home at_home) in
    let all : births (put_process child ps) home ≡ 1 + births ps home = births_more child ps home new ∙ ap (λ (n : ℕ). n + births ps home) one in
    let mine : child.pid ≤ 1000 * home + births (put_process child ps) home = omega (arith, is, all) in
    record {
      ascending = ascending_put child ps h.ascending;
      counted = each_put (IsCounted (put_process child ps)) child ps (subst (λ (n : ℕ). child.pid ≤ 1000 * n + births (put_process child ps) n) (sym at_home) mine) (each_weaken (IsCounted ps) (IsCounted (put_process child ps)) ps (λ (p : Process) (k : IsCounted ps p). omega (arith, k, births_more child ps (home_of p.pid) new)) h.counted);
    }

-- so the others that a call may change stay numbered
pub others_numbered : (ps after : List Process) (home : ℕ) → Others ps home after → Numbered ps → Numbered after
others_numbered ps after home (Nobody same) h = subst Numbered (sym same) h
others_numbered ps after home (Child child is few same) h = subst Numbered (sym same) (numbered_more child ps home is few h)
others_numbered ps after home (Marked old new among pid image end same) h =
    subst Numbered (sym same) (numbered_again new old ps (subst (λ (n : ℕ). process_at ps n ≡ Some old) (sym pid) (among_found old ps h.ascending among)) h)

-- ---- the start

length_put_by : (r q : Process) (qs : List Process) → Compared r.pid q.pid → length (put_process r qs) ≤ 1 + length qs → length (put_process r (q ∷ qs)) ≤ 1 + length (q ∷ qs)
length_put_by r q qs (Same e) h = rw (put_same r q qs e) (omega arith)
length_put_by r q qs (Less e) h = rw (put_less r q qs e) (omega arith)
length_put_by r q qs (More e) h = rw (put_more r q qs e) (omega (arith, h))

length_put : (r : Process) (ps : List Process) → length (put_process r ps) ≤ 1 + length ps
length_put r [] = omega arith
length_put r (q ∷ qs) = length_put_by r q qs (compared r.pid q.pid) (length_put r qs)

numbered_by : (line : StartLine) (ps : List Process) (found : Option Program) → length ps < 200 → Numbered ps → Numbered (started_by line ps found)
numbered_by line ps None few h = h
numbered_by line ps (Some program) few h =
    numbered_more (new_process (next_pid ps line.host) (fresh_machine program line.arg)) ps line.host refl (omega (arith, few, count_by-le-length (λ (p : Process). home_of p.pid == line.host) ps)) h

length_by : (line : StartLine) (ps : List Process) (found : Option Program) → length (started_by line ps found) ≤ 1 + length ps
length_by line ps None = omega arith
length_by line ps (Some program) = length_put (new_process (next_pid ps line.host) (fresh_machine program line.arg)) ps

started_numbered : (programs : List ProgramLine) (ps : List Process) (lines : List StartLine) → length ps + length lines ≤ 200 → Numbered ps → Numbered (started programs ps lines)
started_numbered programs ps [] few h = h
started_numbered programs ps (line ∷ lines) few h =
    started_numbered programs (started_by line ps (program_at programs line.program)) lines (omega (arith, few, length_by line ps (program_at programs line.program)))
    (numbered_by line ps (program_at programs line.program) (omega (arith, few)) h)

-- the processes at the start are numbered, where they are not more than one home can make
pub boot_numbered : (c : Description) → length c.starts ≤ 200 → Numbered (boot_of c).processes
boot_numbered c few = started_numbered c.programs [] c.starts (omega (arith, few)) (record { ascending = tt; counted = tt })
