-- The start: directories for the parts of a path, domains kernel by kernel, and processes put in their places.
use Rattle.std.proofs.Common.{◌≡◌, ◌<◌, ◌≤◌, ◌+◌, ℕ, zero, suc, Bool, true, false, cond, not, nat_le, List, [], ◌∷◌, ◌++◌, length, take, drop, slice_get, slice_set, Option, Some, None, refl, rules, sym, ap, subst, ◌∙◌, arith, add-one, drop-cons, get_or}
use Rattle.std.specs.Prelude.{◌==◌}
use Rattle.std.specs.List.{insert, position_or_len}
use Rattle.std.proofs.lemmas.Bool.{true≢false, eq-eqb, ne_eqb, le-leb, lt-leb}
use Rattle.std.proofs.lemmas.List.Sums.{prefix_len-le-length}
use Rattle.process_machine.specs.declared.program.Program.{Program}
use Rattle.process_machine.specs.Fresh.{fresh_machine}
use Rattle.unix_calls.specs.declared.description.Description.{Description}
use Rattle.unix_calls.specs.declared.description.KernelLine.{KernelLine}
use Rattle.unix_calls.specs.declared.description.ProgramLine.{ProgramLine}
use Rattle.unix_calls.specs.declared.description.StartLine.{StartLine}
use Rattle.unix_calls.specs.declared.state.Named.{Named}
use Rattle.unix_calls.specs.declared.state.Process.{Process}
use Rattle.unix_calls.specs.Answers.{program_at}
use Rattle.unix_calls.specs.Boot.{new_process, started, started_by, with_directories, with_directory, with_parts, with_roots}
use Rattle.unix_calls.specs.Domains.{roots_of}
use Rattle.unix_calls.specs.Lawful.{Lawful, holds}
use Rattle.unix_calls.specs.State.{next_pid, put_process}
use Rattle.unix_calls.proofs.LawfulLaws.{lawful_begins_within}
use Rattle.unix_calls.proofs.ProcessLaws.{Compared, Same, Less, More, compared, put_same, put_less, put_more}

-- ---- names

-- a list from a place on that has an item more
pub record HasOne {X : Type 0} (xs : List X) (n : ℕ) : Type 0 where
  pub item : X
  pub here : drop n xs ≡ item ∷ drop (suc n) xs
  pub before : take n xs ++ item ∷ [] ≡ take (suc n) xs

pub has_one : {X : Type 0} (xs : List X) (n : ℕ) → n < length xs → HasOne xs n
has_one [] n h = absurd (omega arith)
has_one (x ∷ xs) zero h = record { item = x; here = refl; before = refl }
has_one (x ∷ xs) (suc n) h =
    let one = has_one xs n (omega (arith, h)) in
    record { item = one.item; here = one.here; before = ap (λ ys. x ∷ ys) one.before }

-- one part of a path
parts_next : (path : List (List ℕ)) (nodes : List Named) (n : ℕ) → n < length path → with_parts (take (suc n) path) (drop (suc n) path) (with_directory (take (suc n) path) nodes) ≡ with_parts (take n path) (drop n path) nodes
parts_next path nodes n h =
    let one = has_one path n h in
    sym (ap (λ d. with_parts (take n path) d nodes) one.here
    ∙ ap (λ t. with_parts t (drop (suc n) path) (with_directory t nodes)) one.before)

pub parts_step : (path : List (List ℕ)) (nodes : List Named) (n : ℕ) → n < length path → with_parts (take (n + 1) path) (drop (n + 1) path) (with_directory (take (n + 1) path) nodes) ≡ with_parts (take n path) (drop n path) nodes
parts_step path nodes n h = rw add-one (parts_next path nodes n h)

-- the domains of one kernel, and then those of the others
pub roots_append : (one two : List (List (List ℕ))) (nodes : List Named) → with_roots (one ++ two) nodes ≡ with_roots two (with_roots one nodes)
roots_append [] two nodes = refl
roots_append (root ∷ roots) two nodes = roots_append roots two (with_directories root nodes)

pub roots_step : (lines : List KernelLine) (i : ℕ) (line : KernelLine) (nodes : List Named) → i < length lines → line ≡ get_or lines i line → with_roots (roots_of (drop (i + 1) lines)) (with_roots line.serves nodes) ≡ with_roots (roots_of (drop i lines)) nodes
roots_step lines i line nodes inside is =
    let cut : drop i lines ≡ line ∷ drop (i + 1) lines = rw add-one (drop-cons lines i line inside ∙ ap (λ (l : KernelLine). l ∷ drop (suc i) lines) (sym is)) in
    sym (ap (λ (rest : List KernelLine). with_roots (roots_of rest) nodes) cut ∙ roots_append line.serves (roots_of (drop (i + 1) lines)) nodes)

-- ---- processes

-- the place of a number
abbrev pub place : ℕ → List Process → ℕ
place pid ps = position_or_len (λ (p : Process). nat_le pid p.pid) ps

place_first : (pid : ℕ) (q : Process) (qs : List Process) → pid ≤ q.pid → place pid (q ∷ qs) ≡ 0
place_first pid q qs h = ap (λ (b : Bool). cond (not b) (1 + place pid qs) 0) (le-leb pid q.pid h)

place_later : (pid : ℕ) (q : Process) (qs : List Process) → q.pid < pid → place pid (q ∷ qs) ≡ suc (place pid qs)
place_later pid q qs h =
    let e : 1 + place pid qs ≡ suc (place pid qs) = omega arith in
    ap (λ (b : Bool). cond (not b) (1 + place pid qs) 0) (lt-leb pid q.pid h) ∙ e

abbrev pub has_pid : ℕ → Process → Bool
has_pid pid p = p.pid == pid

-- what stands at its place after a process was put
abbrev pub put_by : Process → List Process → ℕ → Bool → List Process
put_by r ps at true = slice_set ps at r
put_by r ps at false = insert ps at r

put_first : (r q : Process) (qs : List Process) (b : Bool) → r.pid ≡ q.pid → holds (has_pid r.pid) (slice_get (q ∷ qs) 0) ≡ b → r ∷ qs ≡ put_by r (q ∷ qs) 0 b
put_first r q qs true e h = refl
put_first r q qs false e h = absurd (true≢false (sym (eq-eqb q.pid r.pid (sym e)) ∙ h))

put_before : (r q : Process) (qs : List Process) (b : Bool) → r.pid < q.pid → holds (has_pid r.pid) (slice_get (q ∷ qs) 0) ≡ b → r ∷ q ∷ qs ≡ put_by r (q ∷ qs) 0 b
put_before r q qs true less h = absurd (true≢false (sym h ∙ ne_eqb q.pid r.pid (λ (e : q.pid ≡ r.pid). omega (arith, e, less))))
put_before r q qs false less h = refl

put_behind : (r q : Process) (qs : List Process) (at : ℕ) (b : Bool) → put_process r qs ≡ put_by r qs at b → q ∷ put_process r qs ≡ put_by r (q ∷ qs) (suc at) b
put_behind r q qs at true h = ap (λ l. q ∷ l) h
put_behind r q qs at false h = ap (λ l. q ∷ l) h

abbrev pub IsPut : Process → List Process → Bool → ℕ → Type 0
IsPut r ps b at = holds (has_pid r.pid) (slice_get ps at) ≡ b → put_process r ps ≡ put_by r ps at b

put_there_by : (r q : Process) (qs : List Process) (b : Bool) → Compared r.pid q.pid → IsPut r qs b (place r.pid qs) → IsPut r (q ∷ qs) b (place r.pid (q ∷ qs))
put_there_by r q qs b (Same e) later =
    subst (IsPut r (q ∷ qs) b) (sym (place_first r.pid q qs (omega (arith, e)))) (λ h. put_same r q qs e ∙ put_first r q qs b e h)
put_there_by r q qs b (Less l) later =
    subst (IsPut r (q ∷ qs) b) (sym (place_first r.pid q qs (omega (arith, l)))) (λ h. put_less r q qs l ∙ put_before r q qs b l h)
put_there_by r q qs b (More m) later =
    subst (IsPut r (q ∷ qs) b) (sym (place_later r.pid q qs m)) (λ h. put_more r q qs m ∙ put_behind r q qs (place r.pid qs) b (later h))

put_there : (r : Process) (ps : List Process) (b : Bool) → IsPut r ps b (place r.pid ps)
put_there r [] true h = absurd (true≢false (sym h))
put_there r [] false h = refl
put_there r (q ∷ qs) b h = put_there_by r q qs b (compared r.pid q.pid) (put_there r qs b) h

pub put_at : (r : Process) (ps : List Process) (at : ℕ) (b : Bool) → at ≡ place r.pid ps → IsPut r ps b at
put_at r ps at b is = subst (IsPut r ps b) (sym is) (put_there r ps b)

pub place_inside : (pid : ℕ) (ps : List Process) → place pid ps ≤ length ps
place_inside pid ps = prefix_len-le-length (λ (p : Process). not (nat_le pid p.pid)) ps

-- how many there are
length_put_by : (r q : Process) (qs : List Process) → Compared r.pid q.pid → length (put_process r qs) ≤ length qs + 1 → length (put_process r (q ∷ qs)) ≤ length (q ∷ qs) + 1
length_put_by r q qs (Same e) h = rw (put_same r q qs e) (omega arith)
length_put_by r q qs (Less e) h = rw (put_less r q qs e) (omega arith)
length_put_by r q qs (More e) h = rw (put_more r q qs e) (omega (arith, h))

length_put : (r : Process) (ps : List Process) → length (put_process r ps) ≤ length ps + 1
length_put r [] = omega arith
length_put r (q ∷ qs) = length_put_by r q qs (compared r.pid q.pid) (length_put r qs)

pub length_started : (line : StartLine) (ps : List Process) (found : Option Program) → length (started_by line ps found) ≤ length ps + 1
length_started line ps None = omega arith
length_started line ps (Some program) = length_put (new_process (next_pid ps line.host) (fresh_machine program line.arg)) ps

-- one start line
pub started_step : (programs : List ProgramLine) (lines : List StartLine) (i : ℕ) (line : StartLine) (ps : List Process) → i < length lines → line ≡ get_or lines i line → started programs (started_by line ps (program_at programs line.program)) (drop (i + 1) lines) ≡ started programs ps (drop i lines)
started_step programs lines i line ps inside is =
    let cut : drop i lines ≡ line ∷ drop (i + 1) lines = rw add-one (drop-cons lines i line inside ∙ ap (λ (l : StartLine). l ∷ drop (suc i) lines) (sym is)) in
    sym (ap (started programs ps) cut)

-- a lawful description is small enough to boot
pub lawful_boots : (c : Description) → Lawful c → (length c.starts ≤ 200) × (length c.files ≤ 200)
lawful_boots c h = ((lawful_begins_within c h).starts, search rules)
