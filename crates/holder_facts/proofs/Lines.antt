-- Who stands in the queue of a lock waits for it: where operations come and go, somebody is woken or looks, and a lock is freed or handed over.
use Rattle.std.proofs.Common.{arith, ◌≡◌, ◌⊎◌, inl, inr, ℕ, suc, ◌≤◌, ◌==◌, Bool, true, false, ◌&&◌, cond, List, [], ◌∷◌, ◌++◌, Option, Some, None, option_map, refl, sym, ap, ◌∙◌, subst, slice_get}
use Rattle.std.proofs.lemmas.Bool.{and_parts, eq-eqb, eqb-true}
use Rattle.std.specs.List.{AllByRecursion, find, list_any}
use Rattle.sprite_ids.specs.declared.StreamNo.{StreamNo}
use Rattle.sprite_ids.proofs.ListLaws.{some_is}
use Rattle.sprite_ids.proofs.OnceLaws.{or_false}
use Rattle.kernel_steps.specs.Rows.{is_row, is_under}
use Rattle.stream_table.specs.Entries.{Entry, has_lock, holder_of}
use Rattle.stream_table.specs.Owners.{Owner, descriptor}
use Rattle.stream_table.proofs.EntryLaws.{one_number}
use Rattle.stream_table.proofs.OwnerLaws.{eq_turned}
use Rattle.client_file_tables.specs.declared.pending.Pending.{Pending}
use Rattle.client_file_tables.specs.declared.pending.Pending.TheVariants as operations
use Rattle.client_file_tables.specs.declared.states.CloseState.{CloseState}
use Rattle.client_file_tables.specs.declared.states.CloseState.TheVariants as closes
use Rattle.client_file_tables.specs.Rows.{first_of, first_stream, less_of, less_stream, same_pid, same_stream}
use Rattle.client_facts.proofs.CostLaws.{any_less, times, times_pushed}
use Rattle.file_facts.proofs.BookLaws.{or_cases, or_left, or_right}
use Rattle.lock_facts.proofs.Boards.{IsKeptOut}
use Rattle.lock_facts.proofs.Desks.{close_wants_in, named_by, stands_by, wanted_in}
use Rattle.lock_facts.proofs.Ranks.{first_less, first_own}

-- whether an operation is a close or a move of a stream, which may look at another stream when it runs
abbrev pub closes_or_moves : Pending → Bool
closes_or_moves (operations.Close work) = true
closes_or_moves (operations.Move work) = true
closes_or_moves operation = false

-- the process's operation waits for that lock
pub record InLine (rows : List (ℕ × Pending)) (owners : List Owner) (stream : StreamNo) (pid : ℕ) : Type 0 where
  pub operation : Pending
  pub found : first_of pid rows ≡ Some operation
  pub wants : wanted_in owners pid operation ≡ Some stream

-- the process is woken once at most, and not while it stands in a queue
pub record Single (waits : List (StreamNo × ℕ)) (ready : List ℕ) (pid : ℕ) : Type 0 where
  pub once : times pid ready ≤ 1
  pub apart : (stream : StreamNo) → stands_by pid stream waits ≡ true → times pid ready ≡ 0

-- who stands in a queue waits for that lock, and who closes or moves a stream is woken so
pub record Lined (rows : List (ℕ × Pending)) (owners : List Owner) (waits : List (StreamNo × ℕ)) (ready : List ℕ) : Type 0 where
  pub waiting : (stream : StreamNo) (pid : ℕ) → stands_by pid stream waits ≡ true → InLine rows owners stream pid
  pub single : (pid : ℕ) (operation : Pending) → first_of pid rows ≡ Some operation → closes_or_moves operation ≡ true → Single waits ready pid

-- the same but for a process whose operation was taken out
pub record Out (out : ℕ) (rows : List (ℕ × Pending)) (owners : List Owner) (waits : List (StreamNo × ℕ)) (ready : List ℕ) : Type 0 where
  pub others : (stream : StreamNo) (pid : ℕ) → (pid == out) ≡ false → stands_by pid stream waits ≡ true → InLine rows owners stream pid
  pub single : (pid : ℕ) (operation : Pending) → first_of pid rows ≡ Some operation → closes_or_moves operation ≡ true → Single waits ready pid

-- Rows that are found

abbrev values : Option (ℕ × Pending) → Option Pending
values o = option_map (λ (row : ℕ × Pending). row.1) o

found_by : (row : ℕ × Pending) (o p : Option (ℕ × Pending)) (operation : Pending) (b : Bool) → (values o ≡ Some operation → values p ≡ Some operation) → values (cond b (Some row) o) ≡ Some operation → values (cond b (Some row) p) ≡ Some operation
found_by row o p operation true later e = e
found_by row o p operation false later e = later e

pub found_push : (pid : ℕ) (rows : List (ℕ × Pending)) (x : ℕ × Pending) (operation : Pending) → first_of pid rows ≡ Some operation → first_of pid (rows ++ x ∷ []) ≡ Some operation
found_push pid [] x operation e = absurd (cc)
found_push pid (row ∷ rest) x operation e = found_by row (find (is_under same_pid pid) rest) (find (is_under same_pid pid) (rest ++ x ∷ [])) operation (row.0 == pid) (found_push pid rest x operation) e

same_by : (row : ℕ × Pending) (o p : Option (ℕ × Pending)) (b : Bool) → values o ≡ values p → values (cond b (Some row) o) ≡ values (cond b (Some row) p)
same_by row o p true e = refl
same_by row o p false e = e

pub first_other : (pid other : ℕ) (rows : List (ℕ × Pending)) (operation : Pending) → (pid == other) ≡ false → first_of pid (rows ++ (other, operation) ∷ []) ≡ first_of pid rows
first_other pid other [] operation apart = ap (λ (b : Bool). values (cond b (Some (other, operation)) None)) (eq_turned other pid ∙ apart)
first_other pid other (row ∷ rest) operation apart = same_by row (find (is_under same_pid pid) (rest ++ (other, operation) ∷ [])) (find (is_under same_pid pid) rest) (row.0 == pid) (first_other pid other rest operation apart)

pub first_none : (pid : ℕ) (rows : List (ℕ × Pending)) → list_any (is_under same_pid pid) rows ≡ false → first_of pid rows ≡ None
first_none pid [] none = refl
first_none pid (row ∷ rest) none =
    let parts = or_false (row.0 == pid) (list_any (is_under same_pid pid) rest) none in
    ap (λ (b : Bool). values (cond b (Some row) (find (is_under same_pid pid) rest))) parts.0 ∙ first_none pid rest parts.1

-- what is found is found again where it is put back
pub back_by : (pid other : ℕ) (rows : List (ℕ × Pending)) (operation : Pending) (b : Bool) → (pid == other) ≡ b → list_any (is_under same_pid other) (less_of other rows) ≡ false → first_of other rows ≡ Some operation → first_of pid (less_of other rows ++ (other, operation) ∷ []) ≡ first_of pid rows
back_by pid other rows operation true e none found =
    subst (λ (n : ℕ). first_of n (less_of other rows ++ (other, operation) ∷ []) ≡ first_of n rows) (sym (eqb-true pid other e)) (first_own other (less_of other rows) operation none ∙ sym found)
back_by pid other rows operation false e none found = first_other pid other (less_of other rows) operation e ∙ first_less pid other rows e

-- Queues

pub less_stands : (pid : ℕ) (stream other : StreamNo) (waits : List (StreamNo × ℕ)) → stands_by pid stream (less_stream other waits) ≡ true → stands_by pid stream waits ≡ true
less_stands pid stream other waits e = by_test (stands_by pid stream waits) refl
  where
    by_test : (b : Bool) → stands_by pid stream waits ≡ b → b ≡ true
    by_test true f = refl
    by_test false f = absurd (let never = any_less (is_row same_stream same_pid stream pid) (is_under same_stream other) waits f in let both = sym e ∙ never in cc)

stands_first : (row : StreamNo × ℕ) (stream : StreamNo) (first : ℕ) (rest : List (StreamNo × ℕ)) (o : Option (StreamNo × ℕ)) (b : Bool) → same_stream row.0 stream ≡ b → (option_map (λ (r : StreamNo × ℕ). r.1) o ≡ Some first → stands_by first stream rest ≡ true) → option_map (λ (r : StreamNo × ℕ). r.1) (cond b (Some row) o) ≡ Some first → stands_by first stream (row ∷ rest) ≡ true
stands_first row stream first rest o true e later found =
    or_left (is_row same_stream same_pid stream first row) (stands_by first stream rest) (ap (λ (b : Bool). b && (row.1 == first)) e ∙ eq-eqb row.1 first (some_is row.1 first found))
stands_first row stream first rest o false e later found = or_right (is_row same_stream same_pid stream first row) (stands_by first stream rest) (later found)

pub first_stands : (stream : StreamNo) (waits : List (StreamNo × ℕ)) (first : ℕ) → first_stream stream waits ≡ Some first → stands_by first stream waits ≡ true
first_stands stream [] first e = absurd (cc)
first_stands stream (row ∷ rest) first e = stands_first row stream first rest (find (is_under same_stream stream) rest) (same_stream row.0 stream) refl (first_stands stream rest first) e

-- who stands in a queue hasn't the lock
pub out_at : (es : List Entry) (waits : List (StreamNo × ℕ)) (stream : StreamNo) (pid : ℕ) → AllByRecursion (IsKeptOut es) waits → stands_by pid stream waits ≡ true → has_lock pid (holder_of es stream) ≡ false
out_at es [] stream pid out e = absurd (cc)
out_at es (row ∷ rest) stream pid out e = by_case (out_at es rest stream pid out.1) (or_cases (is_row same_stream same_pid stream pid row) (stands_by pid stream rest) e)
  where
    by_case : (stands_by pid stream rest ≡ true → has_lock pid (holder_of es stream) ≡ false) → (is_row same_stream same_pid stream pid row ≡ true) ⊎ (stands_by pid stream rest ≡ true) → has_lock pid (holder_of es stream) ≡ false
    by_case later (inl here) =
        let parts = and_parts (same_stream row.0 stream) (row.1 == pid) here in
        subst (λ (n : ℕ). has_lock n (holder_of es stream) ≡ false) (eqb-true row.1 pid parts.1) (subst (λ (m : StreamNo). has_lock row.1 (holder_of es m) ≡ false) (sym (one_number stream row.0 parts.0)) out.0)
    by_case later (inr there) = later there

-- How often somebody is woken

pub times_own : (pid : ℕ) (ready : List ℕ) → times pid (ready ++ pid ∷ []) ≡ suc (times pid ready)
times_own pid [] = ap (λ (b : Bool). cond {A = ℕ} b 1 0) (eq-eqb pid pid refl)
times_own pid (x ∷ xs) = ap (λ (n : ℕ). cond {A = ℕ} (x == pid) (suc n) n) (times_own pid xs) ∙ by_test (x == pid) (times pid xs)
  where
    by_test : (b : Bool) (n : ℕ) → cond {A = ℕ} b (suc (suc n)) (suc n) ≡ suc (cond {A = ℕ} b (suc n) n)
    by_test true n = refl
    by_test false n = refl

pub times_first : (pid : ℕ) (pids : List ℕ) → times pid (pid ∷ pids) ≡ suc (times pid pids)
times_first pid pids = ap (λ (b : Bool). cond {A = ℕ} b (suc (times pid pids)) (times pid pids)) (eq-eqb pid pid refl)

fewer_by : (b : Bool) (n : ℕ) → n ≤ cond {A = ℕ} b (suc n) n
fewer_by true n = omega arith
fewer_by false n = omega arith

fewer_single : (waits : List (StreamNo × ℕ)) (first : ℕ) (pids : List ℕ) (pid : ℕ) → Single waits (first ∷ pids) pid → Single waits pids pid
fewer_single waits first pids pid single =
    let less : times pid pids ≤ times pid (first ∷ pids) = fewer_by (first == pid) (times pid pids) in
    record {
      once = let most : times pid (first ∷ pids) ≤ 1 = single.once in omega arith;
      apart = λ stream e. let none : times pid (first ∷ pids) ≡ 0 = single.apart stream e in omega arith;
    }

-- What keeps it

pub same_lined : (rows more : List (ℕ × Pending)) (owners : List Owner) (waits : List (StreamNo × ℕ)) (ready : List ℕ) → ((pid : ℕ) → first_of pid more ≡ first_of pid rows) → Lined rows owners waits ready → Lined more owners waits ready
same_lined rows more owners waits ready same p = record {
  waiting = λ stream pid e. let line : InLine rows owners stream pid = p.waiting stream pid e in record { operation = line.operation; found = same pid ∙ line.found; wants = line.wants };
  single = λ pid operation found moves. p.single pid operation (sym (same pid) ∙ found) moves;
}

-- an operation is put back
pub back_lined : (rows : List (ℕ × Pending)) (owners : List Owner) (waits : List (StreamNo × ℕ)) (ready : List ℕ) (pid : ℕ) (operation : Pending) → list_any (is_under same_pid pid) (less_of pid rows) ≡ false → first_of pid rows ≡ Some operation → Lined rows owners waits ready → Lined (less_of pid rows ++ (pid, operation) ∷ []) owners waits ready
back_lined rows owners waits ready pid operation none found p = same_lined rows (less_of pid rows ++ (pid, operation) ∷ []) owners waits ready (λ other. back_by other pid rows operation (other == pid) refl none found) p

-- who has no operation stands in no queue
pub none_stands : (rows : List (ℕ × Pending)) (owners : List Owner) (waits : List (StreamNo × ℕ)) (ready : List ℕ) (pid : ℕ) → list_any (is_under same_pid pid) rows ≡ false → Lined rows owners waits ready → (stream : StreamNo) → stands_by pid stream waits ≡ true → true ≡ false
none_stands rows owners waits ready pid none p stream e = absurd (let found = (p.waiting stream pid e).found in let nothing = first_none pid rows none in let both = sym found ∙ nothing in cc)

-- one is taken out
pub taken_out : (rows : List (ℕ × Pending)) (owners : List Owner) (waits : List (StreamNo × ℕ)) (ready : List ℕ) (out : ℕ) → list_any (is_under same_pid out) (less_of out rows) ≡ false → Lined rows owners waits ready → Out out (less_of out rows) owners waits ready
taken_out rows owners waits ready out none p = record {
  others = λ stream pid apart e. let line : InLine rows owners stream pid = p.waiting stream pid e in record { operation = line.operation; found = first_less pid out rows apart ∙ line.found; wants = line.wants };
  single = λ pid operation found moves. by_test pid operation (pid == out) refl found moves;
}
  where
    by_test : (pid : ℕ) (operation : Pending) (b : Bool) → (pid == out) ≡ b → first_of pid (less_of out rows) ≡ Some operation → closes_or_moves operation ≡ true → Single waits ready pid
    by_test pid operation true e found moves = absurd (let mine = ap (λ (n : ℕ). first_of n (less_of out rows)) (eqb-true pid out e) in let nothing = first_none out (less_of out rows) none in let both = sym found ∙ mine ∙ nothing in cc)
    by_test pid operation false e found moves = p.single pid operation (sym (first_less pid out rows e) ∙ found) moves

-- which stands in no queue
pub still_lined : (rows : List (ℕ × Pending)) (owners : List Owner) (waits : List (StreamNo × ℕ)) (ready : List ℕ) (out : ℕ) → ((stream : StreamNo) → stands_by out stream waits ≡ true → true ≡ false) → Out out rows owners waits ready → Lined rows owners waits ready
still_lined rows owners waits ready out never p = record { waiting = λ stream pid e. by_test stream pid (pid == out) refl e; single = p.single }
  where
    by_test : (stream : StreamNo) (pid : ℕ) (b : Bool) → (pid == out) ≡ b → stands_by pid stream waits ≡ true → InLine rows owners stream pid
    by_test stream pid true e stands = absurd (let no = never stream (subst (λ (n : ℕ). stands_by n stream waits ≡ true) (eqb-true pid out e) stands) in cc)
    by_test stream pid false e stands = p.others stream pid e stands

-- who wants no lock stands in no queue
pub idle_stands : (rows : List (ℕ × Pending)) (owners : List Owner) (waits : List (StreamNo × ℕ)) (ready : List ℕ) (pid : ℕ) (operation : Pending) → first_of pid rows ≡ Some operation → wanted_in owners pid operation ≡ None → Lined rows owners waits ready → (stream : StreamNo) → stands_by pid stream waits ≡ true → true ≡ false
idle_stands rows owners waits ready pid operation found idle p stream e =
    absurd (let line : InLine rows owners stream pid = p.waiting stream pid e in
    let same : operation ≡ line.operation = some_is operation line.operation (sym found ∙ line.found) in
    let both : None ≡ Some stream = sym idle ∙ ap (wanted_in owners pid) same ∙ line.wants in
    cc)

-- and is taken out
pub idle_out : (rows : List (ℕ × Pending)) (owners : List Owner) (waits : List (StreamNo × ℕ)) (ready : List ℕ) (pid : ℕ) (operation : Pending) → list_any (is_under same_pid pid) (less_of pid rows) ≡ false → first_of pid rows ≡ Some operation → wanted_in owners pid operation ≡ None → Lined rows owners waits ready → Lined (less_of pid rows) owners waits ready
idle_out rows owners waits ready pid operation none found idle p =
    still_lined (less_of pid rows) owners waits ready pid (idle_stands rows owners waits ready pid operation found idle p) (taken_out rows owners waits ready pid none p)

-- one is kept, which stands in those queues alone whose locks it wants
pub kept_lined : (rows : List (ℕ × Pending)) (owners : List Owner) (waits more : List (StreamNo × ℕ)) (ready : List ℕ) (out : ℕ) (operation : Pending) → list_any (is_under same_pid out) rows ≡ false → (closes_or_moves operation ≡ true → times out ready ≡ 0) → ((stream : StreamNo) → stands_by out stream more ≡ true → wanted_in owners out operation ≡ Some stream)
    → ((stream : StreamNo) (pid : ℕ) → (pid == out) ≡ false → stands_by pid stream more ≡ true → stands_by pid stream waits ≡ true) → Out out rows owners waits ready → Lined (rows ++ (out, operation) ∷ []) owners more ready
kept_lined rows owners waits more ready out operation none sleeps wants fewer p = record { waiting = λ stream pid e. line_by stream pid (pid == out) refl e; single = λ pid other found moves. single_by pid other (pid == out) refl found moves }
  where
    line_by : (stream : StreamNo) (pid : ℕ) (b : Bool) → (pid == out) ≡ b → stands_by pid stream more ≡ true → InLine (rows ++ (out, operation) ∷ []) owners stream pid
    line_by stream pid true e stands =
        let is : pid ≡ out = eqb-true pid out e in
        subst (λ (n : ℕ). InLine (rows ++ (out, operation) ∷ []) owners stream n) (sym is)
        (record { operation = operation; found = first_own out rows operation none; wants = wants stream (subst (λ (n : ℕ). stands_by n stream more ≡ true) is stands) })
    line_by stream pid false e stands =
        let line : InLine rows owners stream pid = p.others stream pid e (fewer stream pid e stands) in
        record { operation = line.operation; found = found_push pid rows (out, operation) line.operation line.found; wants = line.wants }

    single_by : (pid : ℕ) (other : Pending) (b : Bool) → (pid == out) ≡ b → first_of pid (rows ++ (out, operation) ∷ []) ≡ Some other → closes_or_moves other ≡ true → Single more ready pid
    single_by pid other true e found moves =
        let is : pid ≡ out = eqb-true pid out e in
        let mine : operation ≡ other = some_is operation other (sym (first_own out rows operation none) ∙ subst (λ (n : ℕ). first_of n (rows ++ (out, operation) ∷ []) ≡ Some other) is found) in
        let none_woken : times out ready ≡ 0 = sleeps (ap closes_or_moves mine ∙ moves) in
        subst (λ (n : ℕ). Single more ready n) (sym is) (record { once = omega arith; apart = λ stream stands. none_woken })
    single_by pid other false e found moves =
        let single : Single waits ready pid = p.single pid other (sym (first_other pid out rows operation e) ∙ found) moves in
        record { once = single.once; apart = λ stream stands. single.apart stream (fewer stream pid e stands) }

-- which stands in none
pub pushed_lined : (rows : List (ℕ × Pending)) (owners : List Owner) (waits : List (StreamNo × ℕ)) (ready : List ℕ) (pid : ℕ) (operation : Pending) → list_any (is_under same_pid pid) rows ≡ false → (closes_or_moves operation ≡ true → times pid ready ≡ 0) → Lined rows owners waits ready → Lined (rows ++ (pid, operation) ∷ []) owners waits ready
pushed_lined rows owners waits ready pid operation none sleeps p =
    kept_lined rows owners waits waits ready pid operation none sleeps (λ stream e. absurd (let no = none_stands rows owners waits ready pid none p stream e in cc)) (λ stream other apart e. e)
    (record { others = λ stream other apart e. p.waiting stream other e; single = p.single })

-- Who is woken, and who looks

pub looks_lined : (rows : List (ℕ × Pending)) (owners : List Owner) (waits : List (StreamNo × ℕ)) (first : ℕ) (pids : List ℕ) → Lined rows owners waits (first ∷ pids) → Lined rows owners waits pids
looks_lined rows owners waits first pids p = record { waiting = p.waiting; single = λ pid operation found moves. fewer_single waits first pids pid (p.single pid operation found moves) }

-- one that neither closes nor moves
pub woken_lined : (rows : List (ℕ × Pending)) (owners : List Owner) (waits : List (StreamNo × ℕ)) (ready : List ℕ) (first : ℕ) → ((operation : Pending) → first_of first rows ≡ Some operation → closes_or_moves operation ≡ false) → Lined rows owners waits ready → Lined rows owners waits (ready ++ first ∷ [])
woken_lined rows owners waits ready first calm p = record { waiting = p.waiting; single = λ pid operation found moves. by_test pid operation (pid == first) refl found moves }
  where
    by_test : (pid : ℕ) (operation : Pending) (b : Bool) → (pid == first) ≡ b → first_of pid rows ≡ Some operation → closes_or_moves operation ≡ true → Single waits (ready ++ first ∷ []) pid
    by_test pid operation true e found moves = absurd (let no = calm operation (subst (λ (n : ℕ). first_of n rows ≡ Some operation) (eqb-true pid first e) found) in let both = sym moves ∙ no in cc)
    by_test pid operation false e found moves =
        let single : Single waits ready pid = p.single pid operation found moves in
        let same : times pid (ready ++ first ∷ []) ≡ times pid ready = times_pushed pid first ready e in
        record { once = subst (λ (n : ℕ). n ≤ 1) (sym same) single.once; apart = λ stream stands. same ∙ single.apart stream stands }

-- one that begins
pub started_lined : (rows : List (ℕ × Pending)) (owners : List Owner) (waits : List (StreamNo × ℕ)) (ready : List ℕ) (first : ℕ) (operation : Pending) → list_any (is_under same_pid first) rows ≡ false → (closes_or_moves operation ≡ true → times first ready ≡ 0) → Lined rows owners waits ready → Lined (rows ++ (first, operation) ∷ []) owners waits (ready ++ first ∷ [])
started_lined rows owners waits ready first operation none sleeps p = record { waiting = (pushed_lined rows owners waits ready first operation none sleeps p).waiting; single = λ pid other found moves. by_test pid other (pid == first) refl found moves }
  where
    by_test : (pid : ℕ) (other : Pending) (b : Bool) → (pid == first) ≡ b → first_of pid (rows ++ (first, operation) ∷ []) ≡ Some other → closes_or_moves other ≡ true → Single waits (ready ++ first ∷ []) pid
    by_test pid other true e found moves =
        let is : pid ≡ first = eqb-true pid first e in
        let mine : operation ≡ other = some_is operation other (sym (first_own first rows operation none) ∙ subst (λ (n : ℕ). first_of n (rows ++ (first, operation) ∷ []) ≡ Some other) is found) in
        let none_woken : times first ready ≡ 0 = sleeps (ap closes_or_moves mine ∙ moves) in
        let own : times first (ready ++ first ∷ []) ≡ 1 = times_own first ready ∙ ap suc none_woken in
        subst (λ (n : ℕ). Single waits (ready ++ first ∷ []) n) (sym is) (record { once = omega arith; apart = λ stream stands. absurd (let no = none_stands rows owners waits ready first none p stream stands in cc) })
    by_test pid other false e found moves =
        let single : Single waits ready pid = p.single pid other (sym (first_other pid first rows operation e) ∙ found) moves in
        let same : times pid (ready ++ first ∷ []) ≡ times pid ready = times_pushed pid first ready e in
        record { once = subst (λ (n : ℕ). n ≤ 1) (sym same) single.once; apart = λ stream stands. same ∙ single.apart stream stands }

-- Locks that are freed

pub freed_lined : (rows : List (ℕ × Pending)) (owners : List Owner) (waits : List (StreamNo × ℕ)) (ready : List ℕ) (stream : StreamNo) → Lined rows owners waits ready → Lined rows owners (less_stream stream waits) ready
freed_lined rows owners waits ready stream p = record {
  waiting = λ other pid e. p.waiting other pid (less_stands pid other stream waits e);
  single = λ pid operation found moves. let single : Single waits ready pid = p.single pid operation found moves in record { once = single.once; apart = λ other e. single.apart other (less_stands pid other stream waits e) };
}

-- or handed over, to one that stood in no other queue
pub handed_lined : (rows : List (ℕ × Pending)) (owners : List Owner) (es : List Entry) (waits : List (StreamNo × ℕ)) (ready : List ℕ) (stream : StreamNo) (first : ℕ) → first_stream stream waits ≡ Some first → AllByRecursion (IsKeptOut es) (less_stream stream waits) → holder_of es stream ≡ Some first → Lined rows owners waits ready → Lined rows owners (less_stream stream waits) (ready ++ first ∷ [])
handed_lined rows owners es waits ready stream first there out holds p = record { waiting = (freed_lined rows owners waits ready stream p).waiting; single = λ pid operation found moves. by_test pid operation (pid == first) refl found moves }
  where
    mine : InLine rows owners stream first
    mine = p.waiting stream first (first_stands stream waits first there)

    none_left : (other : StreamNo) → stands_by first other (less_stream stream waits) ≡ true → true ≡ false
    none_left other stands =
        absurd (let line : InLine rows owners other first = p.waiting other first (less_stands first other stream waits stands) in
        let same : mine.operation ≡ line.operation = some_is mine.operation line.operation (sym mine.found ∙ line.found) in
        let is : stream ≡ other = some_is stream other (sym mine.wants ∙ ap (wanted_in owners first) same ∙ line.wants) in
        let never : has_lock first (holder_of es stream) ≡ false = out_at es (less_stream stream waits) stream first out (subst (λ (m : StreamNo). stands_by first m (less_stream stream waits) ≡ true) (sym is) stands) in
        let yes : has_lock first (holder_of es stream) ≡ true = ap (has_lock first) holds ∙ eq-eqb first first refl in
        let both = sym yes ∙ never in
        cc)

    by_test : (pid : ℕ) (operation : Pending) (b : Bool) → (pid == first) ≡ b → first_of pid rows ≡ Some operation → closes_or_moves operation ≡ true → Single (less_stream stream waits) (ready ++ first ∷ []) pid
    by_test pid operation true e found moves =
        let is : pid ≡ first = eqb-true pid first e in
        let single : Single waits ready first = p.single first operation (subst (λ (n : ℕ). first_of n rows ≡ Some operation) is found) moves in
        let none_woken : times first ready ≡ 0 = single.apart stream (first_stands stream waits first there) in
        let own : times first (ready ++ first ∷ []) ≡ 1 = times_own first ready ∙ ap suc none_woken in
        subst (λ (n : ℕ). Single (less_stream stream waits) (ready ++ first ∷ []) n) (sym is) (record { once = omega arith; apart = λ other stands. absurd (let no = none_left other stands in cc) })
    by_test pid operation false e found moves =
        let single : Single waits ready pid = p.single pid operation found moves in
        let same : times pid (ready ++ first ∷ []) ≡ times pid ready = times_pushed pid first ready e in
        record { once = subst (λ (n : ℕ). n ≤ 1) (sym same) single.once; apart = λ other stands. same ∙ single.apart other (less_stands pid other stream waits stands) }

-- and somebody else isn't woken by that
pub times_handed : (rows : List (ℕ × Pending)) (owners : List Owner) (waits : List (StreamNo × ℕ)) (ready : List ℕ) (stream : StreamNo) (first pid : ℕ) → first_stream stream waits ≡ Some first → list_any (is_under same_pid pid) rows ≡ false → Lined rows owners waits ready → times pid (ready ++ first ∷ []) ≡ times pid ready
times_handed rows owners waits ready stream first pid there none p = by_test (pid == first) refl
  where
    by_test : (b : Bool) → (pid == first) ≡ b → times pid (ready ++ first ∷ []) ≡ times pid ready
    by_test true e = absurd (let no = none_stands rows owners waits ready pid none p stream (subst (λ (n : ℕ). stands_by n stream waits ≡ true) (sym (eqb-true pid first e)) (first_stands stream waits first there)) in cc)
    by_test false e = times_pushed pid first ready e

-- Where descriptors stay

abbrev pub KeepsThose : ℕ → List Owner → List Owner → Type 0
KeepsThose pid owners more = (fd : ℕ) (stream : StreamNo) → descriptor owners pid fd ≡ Some stream → descriptor more pid fd ≡ Some stream

named_still : (o : Option ℕ) (owners more : List Owner) (pid : ℕ) (stream : StreamNo) → KeepsThose pid owners more → named_by owners pid o ≡ Some stream → named_by more pid o ≡ Some stream
named_still (Some fd) owners more pid stream keeps e = keeps fd stream e
named_still None owners more pid stream keeps e = absurd (cc)

close_still : (state : CloseState) (fds : List ℕ) (owners more : List Owner) (pid : ℕ) (stream : StreamNo) → KeepsThose pid owners more → close_wants_in owners pid state fds ≡ Some stream → close_wants_in more pid state fds ≡ Some stream
close_still closes.WaitLock fds owners more pid stream keeps e = named_still (slice_get fds 0) owners more pid stream keeps e
close_still (closes.Closing tx number) fds owners more pid stream keeps e = absurd (cc)

pub wants_still : (owners more : List Owner) (pid : ℕ) (operation : Pending) (stream : StreamNo) → KeepsThose pid owners more → wanted_in owners pid operation ≡ Some stream → wanted_in more pid operation ≡ Some stream
wants_still owners more pid (operations.Name call) stream keeps e = e
wants_still owners more pid (operations.Data call) stream keeps e = e
wants_still owners more pid (operations.Sync call) stream keeps e = e
wants_still owners more pid (operations.Close work) stream keeps e = close_still work.state work.fds owners more pid stream keeps e
wants_still owners more pid (operations.Move work) stream keeps e = e

-- of each process that has an operation
pub owners_lined : (rows : List (ℕ × Pending)) (owners more : List Owner) (waits : List (StreamNo × ℕ)) (ready : List ℕ) → ((pid : ℕ) (operation : Pending) → first_of pid rows ≡ Some operation → KeepsThose pid owners more) → Lined rows owners waits ready → Lined rows more waits ready
owners_lined rows owners more waits ready keeps p = record {
  waiting = λ stream pid e.
      let line : InLine rows owners stream pid = p.waiting stream pid e in
      record { operation = line.operation; found = line.found; wants = wants_still owners more pid line.operation stream (keeps pid line.operation line.found) line.wants };
  single = p.single;
}
