-- What the calls on other processes come to.
use Rattle.std.proofs.Common.{◌≡◌, ◌≢◌, ℕ, Bool, true, false, cond, not, List, [], ◌∷◌, filter, nat_le, Option, Some, None, refl, sym, ap, ap₂, subst, ◌∙◌, inl, inr, slice_get, slice_set}
use Rattle.std.specs.Prelude.{◌==◌, ◌&&◌, ◌⊎◌}
use Rattle.std.specs.List.{find, list_any, position}
use Rattle.std.specs.Option.{is_some}
use Rattle.std.proofs.lemmas.Bool.{true≢false, eq-eqb, ne_eqb}
use Rattle.std.proofs.lemmas.Bool.Decides.{eqb_tells}
use Rattle.sprite_ids.specs.Pid.{home_of}
use Rattle.sprite_ids.specs.declared.errno.Errno.TheVariants as errno
use Rattle.sprite_ids.proofs.ListLaws.{some_is, get_within, get_set_same, get_set_other}
use Rattle.sprite_ids.proofs.OnceLaws.{or_false, none_found, found_there}
use Rattle.process_machine.specs.declared.call.Reply.TheVariants.{Value}
use Rattle.unix_calls.specs.declared.description.Description.{Description}
use Rattle.unix_calls.specs.declared.state.Process.{Process}
use Rattle.unix_calls.specs.State.{Unix, births, next_pid, process_at, put_process, with_process}
use Rattle.unix_calls.specs.Answers.{Answered, Waits, is_done, nothing, refuses, replied, replies, value}
use Rattle.unix_calls.specs.ProcessCalls.{child_of, ended_ones, fork, forked, is_unwaited, kill, kill_of, status_of, unwaited, wait, waits_for, with_kill}
use Rattle.unix_calls.proofs.ProcessLaws.{put_again}
use Rattle.unix_world.specs.declared.World.{World}
use Rattle.unix_run.specs.declared.came.Came.{Came}
use Rattle.unix_run.specs.declared.came.Came.TheVariants as came
use Rattle.unix_world.specs.Among.{Ascending}
use Rattle.unix_run.specs.Among.{ComesAmong}
use Rattle.unix_run.specs.Family.{is_ended_child}
use Rattle.unix_world.specs.Worlds.{unix_of}
use Rattle.unix_world.proofs.ProcessLaws.{put_ascends, put_swap, set_ascends, set_put, stands_once}
use Rattle.unix_run.proofs.AmongLaws.{answered_among, comes_among}
use Rattle.unix_world.proofs.ChangeLaws.{found_at}

-- ---- kill

abbrev pub killed : Process → Process
killed p = record p { killed = true }

pub kill_none : (c : Description) (u : Unix) (p : Process) (pid : ℕ) → process_at u.processes pid ≡ None → kill c u p pid ≡ refuses c u p errno.NoProcess
kill_none c u p pid none = ap (kill_of c u p) none

kill_found : (c : Description) (u : Unix) (p target : Process) (pid : ℕ) (b : Bool) → process_at u.processes pid ≡ Some target → is_some target.ending ≡ b → kill c u p pid ≡ cond (not b) (is_done c (with_kill target u) (cond (target.pid == p.pid) (killed p) p)) (refuses c u p errno.NoProcess)
kill_found c u p target pid b found is =
    ap (kill_of c u p) found
    ∙ ap (λ (e : Bool). cond (not e) (is_done c (with_kill target u) (cond (target.pid == p.pid) (killed p) p)) (refuses c u p errno.NoProcess)) is

pub kill_ended : (c : Description) (u : Unix) (p target : Process) (pid : ℕ) → process_at u.processes pid ≡ Some target → is_some target.ending ≡ true → kill c u p pid ≡ refuses c u p errno.NoProcess
kill_ended c u p target pid found is = kill_found c u p target pid true found is

-- the caller, behind the kill of a process that may be itself
killed_by : (ps : List Process) (at t : ℕ) (p target p' : Process) → Ascending ps → slice_get ps at ≡ Some p → slice_get ps t ≡ Some target → slice_get (slice_set ps t (killed target)) at ≡ Some p' → ((t == at) ≡ true × (t ≡ at)) ⊎ ((t == at) ≡ false × (t ≢ at)) → p' ≡ cond (target.pid == p.pid) (killed p) p
killed_by ps at t p target p' h got other there (inl e) =
    let same = some_is p target (sym got ∙ (ap (slice_get ps) (sym e.1) ∙ other)) in
    let new = some_is p' (killed target) (sym there ∙ (ap (slice_get (slice_set ps t (killed target))) (sym e.1) ∙ get_set_same ps t (killed target) (get_within ps t target other))) in
    new ∙ (ap killed (sym same) ∙ sym (ap (λ (b : Bool). cond b (killed p) p) (eq-eqb target.pid p.pid (ap (λ (x : Process). x.pid) (sym same)))))
killed_by ps at t p target p' h got other there (inr e) =
    let new = some_is p' p (sym there ∙ (get_set_other ps t at (killed target) e.1 ∙ got)) in
    new ∙ sym (ap (λ (b : Bool). cond b (killed p) p) (ne_eqb target.pid p.pid (λ (same : target.pid ≡ p.pid). e.1 (stands_once ps t at target p h other got same))))

pub killed_at : (ps : List Process) (at t : ℕ) (p target p' : Process) → Ascending ps → slice_get ps at ≡ Some p → slice_get ps t ≡ Some target → slice_get (slice_set ps t (killed target)) at ≡ Some p' → p' ≡ cond (target.pid == p.pid) (killed p) p
killed_at ps at t p target p' h got other there = killed_by ps at t p target p' h got other there (eqb_tells t at)

calls_by : (p : Process) (b : Bool) → (cond b (killed p) p).calls ≡ p.calls
calls_by p true = refl
calls_by p false = refl

pub killed_calls : (ps : List Process) (at t : ℕ) (p target p' : Process) → Ascending ps → slice_get ps at ≡ Some p → slice_get ps t ≡ Some target → slice_get (slice_set ps t (killed target)) at ≡ Some p' → p'.calls ≡ p.calls
killed_calls ps at t p target p' h got other there =
    ap (λ (x : Process). x.calls) (killed_at ps at t p target p' h got other there) ∙ calls_by p (target.pid == p.pid)

pub kills : (c : Description) (w : World) (ps : List Process) (at t pid : ℕ) (p target p' q : Process) (is : Came) → Ascending ps → slice_get ps at ≡ Some p → process_at ps pid ≡ Some target → slice_get ps t ≡ Some target → is_some target.ending ≡ false → slice_get (slice_set ps t (killed target)) at ≡ Some p' → is ≡ came.Answered nothing → q ≡ replied c p' nothing → ComesAmong c (λ u x. kill c u x pid) w ps at is w (slice_set (slice_set ps t (killed target)) at q)
kills c w ps at t pid p target p' q is h got found other living there answered reply =
    let same = killed_at ps at t p target p' h got other there in
    answered_among c (λ u x. kill c u x pid) w ps at p nothing is (slice_set ps t (killed target)) at p' q got answered
    (kill_found c (unix_of c w ps) p target pid false found living
    ∙ ap₂ (λ (x : Process) (l : List Process). replies c (unix_of c w l) x nothing) (sym same) (sym (set_put ps t target (killed target) h other refl)))
    (set_ascends ps t target (killed target) h other refl) there reply

-- ---- wait

-- a list begins with that item
pub record Begins {X : Type 0} (x : X) (xs : List X) : Type 0 where
  pub rest : List X
  pub is : xs ≡ x ∷ rest

filter_none : {X : Type 0} (p : X → Bool) (xs : List X) → list_any p xs ≡ false → filter p xs ≡ []
filter_none p [] h = refl
filter_none p (x ∷ xs) h =
    let parts = or_false (p x) (list_any p xs) h in
    ap (λ (b : Bool). cond b (x ∷ filter p xs) (filter p xs)) parts.0 ∙ filter_none p xs parts.1

begins_by : {X : Type 0} (p : X → Bool) (x y : X) (xs : List X) (b : Bool) → cond b (Some x) (find p xs) ≡ Some y → (find p xs ≡ Some y → Begins y (filter p xs)) → Begins y (cond b (x ∷ filter p xs) (filter p xs))
begins_by p x y xs true h later = record { rest = filter p xs; is = ap (λ z. z ∷ filter p xs) (some_is x y h) }
begins_by p x y xs false h later = later h

begins : {X : Type 0} (p : X → Bool) (y : X) (xs : List X) → find p xs ≡ Some y → Begins y (filter p xs)
begins p y [] h = absurd (cc)
begins p y (x ∷ xs) h = begins_by p x y xs (p x) h (begins p y xs)

filtered_by : {X : Type 0} (q : X → Bool) (x : X) (fs gs : List X) (b : Bool) → filter q fs ≡ gs → filter q (cond b (x ∷ fs) fs) ≡ cond (b && q x) (x ∷ gs) gs
filtered_by q x fs gs true h = ap (λ l. cond (q x) (x ∷ l) l) h
filtered_by q x fs gs false h = h

ended_children : (pid : ℕ) (ps : List Process) → ended_ones (filter (is_unwaited pid) ps) ≡ filter (is_ended_child pid) ps
ended_children pid [] = refl
ended_children pid (p ∷ ps) =
    filtered_by (λ (q : Process). is_some q.ending) p (filter (is_unwaited pid) ps) (filter (is_ended_child pid) ps) (is_unwaited pid p) (ended_children pid ps)

none_by : (o : Option ℕ) → is_some o ≡ false → o ≡ None
none_by None h = refl
none_by (Some i) h = absurd (true≢false h)

pub wait_none : (c : Description) (u : Unix) (p : Process) → is_some (position (is_unwaited p.pid) u.processes) ≡ false → wait c u p ≡ refuses c u p errno.NoChild
wait_none c u p none =
    ap (λ l. waits_for c u p l (ended_ones l)) (filter_none (is_unwaited p.pid) u.processes (none_found (is_unwaited p.pid) u.processes (none_by (position (is_unwaited p.pid) u.processes) none)))

some_by : (pid : ℕ) (ps : List Process) (o : Option ℕ) → position (is_unwaited pid) ps ≡ o → is_some o ≡ true → (child : Process) × Begins child (filter (is_unwaited pid) ps)
some_by pid ps None found h = absurd (true≢false (sym h))
some_by pid [] (Some i) found h = absurd (cc)
some_by pid (p ∷ ps) (Some i) found h = (_, begins (is_unwaited pid) _ (p ∷ ps) (found_there (is_unwaited pid) (p ∷ ps) i p found))

pub wait_waits : (c : Description) (u : Unix) (p : Process) → is_some (position (is_unwaited p.pid) u.processes) ≡ true → position (is_ended_child p.pid) u.processes ≡ None → wait c u p ≡ Waits
wait_waits c u p some none =
    let first = some_by p.pid u.processes (position (is_unwaited p.pid) u.processes) refl some in
    ap (waits_for c u p (unwaited u p)) (ended_children p.pid u.processes ∙ filter_none (is_ended_child p.pid) u.processes (none_found (is_ended_child p.pid) u.processes none))
    ∙ ap (λ l. waits_for c u p l []) first.1.is

-- an ended child is told
pub wait_tells : (c : Description) (u : Unix) (p first : Process) (i : ℕ) → is_some (position (is_unwaited p.pid) u.processes) ≡ true → position (is_ended_child p.pid) u.processes ≡ Some i → slice_get u.processes i ≡ Some first → wait c u p ≡ replies c (with_process (record first { waited = true }) u) p (Value first.pid (status_of first.ending) [])
wait_tells c u p first i some found got =
    let children = some_by p.pid u.processes (position (is_unwaited p.pid) u.processes) refl some in
    let ended = begins (is_ended_child p.pid) first u.processes (found_at (is_ended_child p.pid) u.processes i first found got) in
    ap (waits_for c u p (unwaited u p)) (ended_children p.pid u.processes ∙ ended.is)
    ∙ ap (λ l. waits_for c u p l (first ∷ ended.rest)) children.1.is

-- the caller, behind the mark
abbrev pub waited : Process → Process
waited p = record p { waited = true }

-- what the mark leaves: the caller as it was, and with it back in its place all as if the child had been put
pub record Marks (ps : List Process) (at : ℕ) (p first : Process) (qs : List Process) : Type 0 where
  pub there : slice_get qs at ≡ Some p
  pub ascends : Ascending qs
  pub puts : (q : Process) → q.pid ≡ p.pid → put_process q qs ≡ put_process q (put_process (waited first) ps)

marks_by : (ps : List Process) (at child : ℕ) (p first : Process) (qs : List Process) → Ascending ps → slice_get ps at ≡ Some p → slice_get ps child ≡ Some first → qs ≡ cond (child == at) ps (slice_set ps child (waited first)) → ((child == at) ≡ true × (child ≡ at)) ⊎ ((child == at) ≡ false × (child ≢ at)) → Marks ps at p first qs
marks_by ps at child p first qs h got other is (inl e) =
    let all : qs ≡ ps = is ∙ ap (λ (b : Bool). cond b ps (slice_set ps child (waited first))) e.0 in
    let same = some_is first p (sym other ∙ (ap (slice_get ps) e.1 ∙ got)) in
    record {
      there = ap (λ l. slice_get l at) all ∙ got;
      ascends = subst Ascending (sym all) h;
      puts = λ q pid. ap (put_process q) all ∙ sym (put_again q (waited first) ps (pid ∙ ap (λ (x : Process). x.pid) (sym same)));
    }
marks_by ps at child p first qs h got other is (inr e) =
    let all : qs ≡ slice_set ps child (waited first) = is ∙ ap (λ (b : Bool). cond b ps (slice_set ps child (waited first))) e.0 in
    record {
      there = ap (λ l. slice_get l at) all ∙ (get_set_other ps child at (waited first) e.1 ∙ got);
      ascends = subst Ascending (sym all) (set_ascends ps child first (waited first) h other refl);
      puts = λ q pid. ap (put_process q) (all ∙ set_put ps child first (waited first) h other refl);
    }

pub marks : (ps : List Process) (at child : ℕ) (p first : Process) (qs : List Process) → Ascending ps → slice_get ps at ≡ Some p → slice_get ps child ≡ Some first → qs ≡ cond (child == at) ps (slice_set ps child (waited first)) → Marks ps at p first qs
marks ps at child p first qs h got other is = marks_by ps at child p first qs h got other is (eqb_tells child at)

pub waits : (c : Description) (w : World) (ps : List Process) (at i : ℕ) (p first q : Process) (is : Came) (qs : List Process) (number status : ℕ) → slice_get ps at ≡ Some p → is_some (position (is_unwaited p.pid) ps) ≡ true → position (is_ended_child p.pid) ps ≡ Some i → slice_get ps i ≡ Some first → Marks ps at p first qs → number ≡ first.pid → status ≡ status_of first.ending → is ≡ came.Answered (Value number status []) → q ≡ replied c p (Value number status []) → ComesAmong c (λ u x. wait c u x) w ps at is w (slice_set qs at q)
waits c w ps at i p first q is qs number status got some found other marked one two answered reply =
    let R = Value first.pid (status_of first.ending) [] in
    answered_among c (λ u x. wait c u x) w ps at p (Value number status []) is qs at p q got answered
    (wait_tells c (unix_of c w ps) p first i some found other
    ∙ (ap (λ l. Answered R (unix_of c w l)) (sym (marked.puts (replied c p R) refl))
    ∙ ap₂ (λ (m n : ℕ). replies c (unix_of c w qs) p (Value m n [])) (sym one) (sym two)))
    marked.ascends marked.there reply

-- ---- fork

pub fork_full : (c : Description) (u : Unix) (p : Process) → nat_le 200 (births u.processes (home_of p.pid)) ≡ true → fork c u p ≡ refuses c u p errno.TooMany
fork_full c u p full = ap (λ (b : Bool). cond b (refuses c u p errno.TooMany) (forked c u p (next_pid u.processes (home_of p.pid)))) full

fork_makes : (c : Description) (u : Unix) (p : Process) (pid : ℕ) → nat_le 200 (births u.processes (home_of p.pid)) ≡ false → pid ≡ next_pid u.processes (home_of p.pid) → fork c u p ≡ forked c u p pid
fork_makes c u p pid room is =
    ap (λ (b : Bool). cond b (refuses c u p errno.TooMany) (forked c u p (next_pid u.processes (home_of p.pid)))) room ∙ ap (forked c u p) (sym is)

-- the child among the others, of which the parent has its answer; the parent stays where both have one number
abbrev pub with_child : Process → ℕ → List Process → List Process
with_child child parent qs = cond (child.pid == parent) qs (put_process child qs)

with_child_by : (child q : Process) (ps : List Process) (parent : ℕ) → q.pid ≡ parent → ((child.pid == parent) ≡ true × (child.pid ≡ parent)) ⊎ ((child.pid == parent) ≡ false × (child.pid ≢ parent)) → put_process q (put_process child ps) ≡ with_child child parent (put_process q ps)
with_child_by child q ps parent is (inl e) =
    put_again q child ps (is ∙ sym e.1) ∙ sym (ap (λ (b : Bool). cond b (put_process q ps) (put_process child (put_process q ps))) e.0)
with_child_by child q ps parent is (inr e) =
    put_swap q child ps (λ (same : q.pid ≡ child.pid). e.1 (sym same ∙ is))
    ∙ sym (ap (λ (b : Bool). cond b (put_process q ps) (put_process child (put_process q ps))) e.0)

child_ascends : (child : Process) (parent : ℕ) (qs : List Process) (b : Bool) → Ascending qs → Ascending (cond b qs (put_process child qs))
child_ascends child parent qs true h = h
child_ascends child parent qs false h = put_ascends child qs h

pub forks : (c : Description) (w : World) (ps : List Process) (at : ℕ) (p child q : Process) (pid : ℕ) (is : Came) (qs : List Process) → Ascending ps → slice_get ps at ≡ Some p → nat_le 200 (births ps (home_of p.pid)) ≡ false → pid ≡ next_pid ps (home_of p.pid) → child ≡ child_of c p pid → is ≡ came.Answered (value pid) → q ≡ replied c p (value pid) → qs ≡ with_child child p.pid (slice_set ps at q) → ComesAmong c (λ u x. fork c u x) w ps at is w qs
forks c w ps at p child q pid is qs h got room next made answered reply all =
    let same : q.pid ≡ p.pid = ap (λ (x : Process). x.pid) reply in
    let put : slice_set ps at q ≡ put_process q ps = set_put ps at p q h got same in
    let list : put_process q (put_process child ps) ≡ qs =
    with_child_by child q ps p.pid same (eqb_tells child.pid p.pid) ∙ (ap (with_child child p.pid) (sym put) ∙ sym all) in
    comes_among c (λ u x. fork c u x) w ps at p (value pid) is qs got answered
    (fork_makes c (unix_of c w ps) p pid room next
    ∙ (ap₂ (λ (x y : Process). Answered (value pid) (unix_of c w (put_process x (put_process y ps)))) (sym reply) (sym made)
    ∙ ap (λ l. Answered (value pid) (unix_of c w l)) list))
    (subst Ascending (sym all) (child_ascends child p.pid (slice_set ps at q) (child.pid == p.pid) (set_ascends ps at p q h got same)))
