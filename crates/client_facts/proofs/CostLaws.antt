-- How much a step may still run: a bound that each turn lowers.
use Rattle.std.proofs.Common.{arith, ◌≡◌, ℕ, suc, ◌+◌, ◌*◌, ◌≤◌, ◌==◌, Bool, true, false, cond, List, [], ◌∷◌, ◌++◌, length, Option, Some, None, refl, sym, ap, ◌∙◌, ap₂, ◌&&◌, ◌||◌, option_map, subst, append-nil}
use Rattle.std.proofs.lemmas.Bool.{and_parts, eqb-true}
use Rattle.std.specs.List.{find, list_any}
use Rattle.sprite_ids.specs.declared.StreamNo.{StreamNo}
use Rattle.sprite_ids.specs.declared.FileId.{FileId}
use Rattle.sprite_ids.specs.Lists.{EachOnce, less}
use Rattle.sprite_ids.proofs.ListLaws.{some_is}
use Rattle.sprite_ids.proofs.OnceLaws.{IsSameness, or_false, pushed_once}
use Rattle.kernel_steps.specs.Rows.{is_under}
use Rattle.block_cache.specs.Files.{Files, known}
use Rattle.stream_table.specs.Entries.{Entry, stream_of}
use Rattle.stream_table.proofs.EntryLaws.{number_turned, one_number}
use Rattle.stream_table.proofs.OwnerLaws.{eq_turned}
use Rattle.client_file_tables.specs.declared.client_files.ClientFiles.{ClientFiles}
use Rattle.client_file_tables.specs.declared.pending.Pending.{Pending}
use Rattle.client_file_tables.specs.declared.pending.Pending.TheVariants as operations
use Rattle.client_file_tables.specs.Rows.{is_pid, same_pid, same_stream, first_of, less_of}
use Rattle.client_file_tables.specs.Fillers.{is_first}
use Rattle.client_file_tables.specs.Steps.{keeps, wakes}
use Rattle.client_facts.specs.FileFacts.{OneOperationEach, QueuesAreOnce, TurnsAreOnce, same_process, same_wait}
use Rattle.client_facts.specs.GoingOn.{few_fds}
use Rattle.client_facts.proofs.CalmLaws.{Calm, asks_at, asks_by}

-- Processes

-- rows of one process, as a sameness
pub processes_same : {V : Type 0} → IsSameness (same_process {V = V})
processes_same {V} = record {
  joined = λ x y e z. ap (λ (pid : ℕ). z.0 == pid) (sym (eqb-true y.0 x.0 e));
  turned = λ x y. eq_turned y.0 x.0;
}

pub pids_same : IsSameness is_pid
pids_same = record { joined = λ x y e z. ap (λ (pid : ℕ). z == pid) (sym (eqb-true y x e)); turned = λ x y. eq_turned y x }

pub waits_same : IsSameness same_wait
waits_same = record {
  joined = λ x y e z. let parts = and_parts (same_stream y.0 x.0) (same_pid y.1 x.1) e in ap₂ (λ (n : StreamNo) (pid : ℕ). same_wait (n, pid) z) (one_number x.0 y.0 parts.0) (sym (eqb-true y.1 x.1 parts.1));
  turned = λ x y. ap₂ (λ a b. a && b) (number_turned x.0 y.0) (eq_turned y.1 x.1);
}

-- Lists without one

any_by : {X : Type 0} (q : X → Bool) (x : X) (xs ys : List X) (b : Bool) → list_any q (x ∷ xs) ≡ false → list_any q ys ≡ false → list_any q (cond b xs (x ∷ ys)) ≡ false
any_by q x xs ys true h k = (or_false (q x) (list_any q xs) h).1
any_by q x xs ys false h k = ap (λ b. b || list_any q ys) (or_false (q x) (list_any q xs) h).0 ∙ k

pub any_less : {X : Type 0} (q p : X → Bool) (xs : List X) → list_any q xs ≡ false → list_any q (less p xs) ≡ false
any_less q p [] h = refl
any_less q p (x ∷ xs) h = any_by q x xs (less p xs) (p x) h (any_less q p xs (or_false (q x) (list_any q xs) h).1)

once_by : {X : Type 0} (same : X → X → Bool) (x : X) (xs ys : List X) (b : Bool) → EachOnce same (x ∷ xs) → list_any (same x) ys ≡ false → EachOnce same ys → EachOnce same (cond b xs (x ∷ ys))
once_by same x xs ys true h k once = h.1
once_by same x xs ys false h k once = (k, once)

-- each stands once among fewer
pub less_once : {X : Type 0} (same : X → X → Bool) (p : X → Bool) (xs : List X) → EachOnce same xs → EachOnce same (less p xs)
less_once same p [] h = tt
less_once same p (x ∷ xs) h = once_by same x xs (less p xs) (p x) h (any_less (same x) p xs h.0) (less_once same p xs h.1)

pub length_pushed : {X : Type 0} (xs : List X) (x : X) → length (xs ++ x ∷ []) ≡ suc (length xs)
length_pushed [] x = refl
length_pushed (y ∷ ys) x = ap suc (length_pushed ys x)

-- Turns to fill blocks

-- how often the process stands among these
abbrev pub times : ℕ → List ℕ → ℕ
times pid [] = 0
times pid (other ∷ rest) = cond {A = ℕ} (other == pid) (suc (times pid rest)) (times pid rest)

more_times : (b : Bool) (m n : ℕ) → m ≤ n → cond {A = ℕ} b (suc m) m ≤ cond {A = ℕ} b (suc n) n
more_times true m n h = omega arith
more_times false m n h = h

rest_times : (b : Bool) (n : ℕ) → n ≤ cond {A = ℕ} b (suc n) n
rest_times true n = omega arith
rest_times false n = omega arith

less_times : (other x : ℕ) (xs ys : List ℕ) (b : Bool) → times other ys ≤ times other xs → times other (cond b xs (x ∷ ys)) ≤ times other (x ∷ xs)
less_times other x xs ys true h = rest_times (x == other) (times other xs)
less_times other x xs ys false h = more_times (x == other) (times other ys) (times other xs) h

-- nobody stands there more often where one is taken out
pub times_less : (other pid : ℕ) (xs : List ℕ) → times other (less (is_pid pid) xs) ≤ times other xs
times_less other pid [] = omega arith
times_less other pid (x ∷ xs) = less_times other x xs (less (is_pid pid) xs) (x == pid) (times_less other pid xs)

first_times : (pid x : ℕ) (xs ys : List ℕ) (b : Bool) → b ≡ true → suc (times pid (cond b xs ys)) ≡ cond {A = ℕ} b (suc (times pid xs)) (times pid xs)
first_times pid x xs ys true h = refl
first_times pid x xs ys false h = absurd (cc)

-- the one that stands first stands there once less often where it is taken out
pub times_first : (pid : ℕ) (xs : List ℕ) → is_first pid xs ≡ true → suc (times pid (less (is_pid pid) xs)) ≡ times pid xs
times_first pid [] h = absurd (cc)
times_first pid (x ∷ xs) h = first_times pid x xs (x ∷ less (is_pid pid) xs) (x == pid) h

pushed_times : (b : Bool) (n : ℕ) → b ≡ false → cond {A = ℕ} b (suc n) n ≡ n
pushed_times true n h = absurd (cc)
pushed_times false n h = refl

same_times : (b : Bool) (m n : ℕ) → m ≡ n → cond {A = ℕ} b (suc m) m ≡ cond {A = ℕ} b (suc n) n
same_times b m n h = ap (λ (k : ℕ). cond {A = ℕ} b (suc k) k) h

-- any other as often as before where one comes
pub times_pushed : (other pid : ℕ) (xs : List ℕ) → (other == pid) ≡ false → times other (xs ++ pid ∷ []) ≡ times other xs
times_pushed other pid [] h = pushed_times (pid == other) 0 (eq_turned pid other ∙ h)
times_pushed other pid (x ∷ xs) h = same_times (x == other) (times other (xs ++ pid ∷ [])) (times other xs) (times_pushed other pid xs h)

-- who is none of them stands there never, and who stands there once at most once
none_times : (pid : ℕ) (xs : List ℕ) → list_any (is_pid pid) xs ≡ false → times pid xs ≡ 0
none_times pid [] h = refl
none_times pid (x ∷ xs) h = let parts = or_false (x == pid) (list_any (is_pid pid) xs) h in pushed_times (x == pid) (times pid xs) parts.0 ∙ none_times pid xs parts.1

one_by : (pid x : ℕ) (xs : List ℕ) (b : Bool) → (x == pid) ≡ b → list_any (is_pid x) xs ≡ false → times pid xs ≤ 1 → cond {A = ℕ} b (suc (times pid xs)) (times pid xs) ≤ 1
one_by pid x xs true e h k = (let none = none_times pid xs (subst (λ (y : ℕ). list_any (is_pid y) xs ≡ false) (eqb-true x pid e) h) in omega arith)
one_by pid x xs false e h k = k

pub once_times : (pid : ℕ) (xs : List ℕ) → EachOnce is_pid xs → times pid xs ≤ 1
once_times pid [] h = omega arith
once_times pid (x ∷ xs) h = one_by pid x xs (x == pid) refl h.0 (once_times pid xs h.1)

-- What an operation may wake

-- of data its end wakes two, and of a close each descriptor two
abbrev pub weight : Pending → ℕ
weight (operations.Name call) = 0
weight (operations.Data call) = 2
weight (operations.Sync call) = 0
weight (operations.Close work) = 2 * length work.fds
weight (operations.Move work) = 0

-- one that may ask the server wakes another for each of its turns
abbrev pub asked : Pending → ℕ → List Entry → Files → ℕ
asked (operations.Name call) many es files = 0
asked (operations.Data call) many es files = cond {A = ℕ} (asks_by (stream_of es call.stream) (known files call.file).on) many 0
asked (operations.Sync call) many es files = 0
asked (operations.Close work) many es files = 0
asked (operations.Move work) many es files = 0

abbrev pub worth : ℕ → Pending → ClientFiles → ℕ
worth pid operation s = weight operation + asked operation (times pid s.fillers) s.streams.entries s.cache.files

abbrev pub due : List (ℕ × Pending) → ClientFiles → ℕ
due [] s = 0
due (row ∷ rows) s = worth row.0 row.1 s + due rows s

-- what is woken, and what the operations may wake
abbrev pub cost : ClientFiles → ℕ
cost s = length s.ready + due s.pending s

-- Parts of a run: at most so many are woken, and no other operation is worth more
pub record Ends (pid many : ℕ) (s t : ClientFiles) : Type 0 where
  pub few : length t.ready ≤ length s.ready + many
  pub pending : t.pending ≡ s.pending
  pub fewer : (other : ℕ) → (other == pid) ≡ false → times other t.fillers ≤ times other s.fillers
  pub queues : QueuesAreOnce s → QueuesAreOnce t
  pub turns : TurnsAreOnce s → TurnsAreOnce t
  pub asks : (stream : StreamNo) (file : FileId) → asks_at stream file t ≡ true → asks_at stream file s ≡ true

pub ends_calm : (pid : ℕ) (s t : ClientFiles) → Calm s t → Ends pid 0 s t
ends_calm pid s t h = record {
  few = (let same = ap (λ (xs : List ℕ). length xs) h.ready in omega arith);
  pending = h.pending;
  fewer = λ other apart. (let same = ap (times other) h.fillers in omega arith);
  queues = h.queues;
  turns = λ q. subst (EachOnce is_pid) (sym h.fillers) q;
  asks = h.asks;
}

pub ends_join : (pid m n : ℕ) (s t u : ClientFiles) → Ends pid m s t → Ends pid n t u → Ends pid (m + n) s u
ends_join pid m n s t u h k = record {
  few = (let first = h.few in let second = k.few in omega arith);
  pending = k.pending ∙ h.pending;
  fewer = λ other apart. (let first = h.fewer other apart in let second = k.fewer other apart in omega arith);
  queues = λ q. k.queues (h.queues q);
  turns = λ q. k.turns (h.turns q);
  asks = λ stream file e. h.asks stream file (k.asks stream file e);
}

pub ends_more : (pid m n : ℕ) (s t : ClientFiles) → m ≤ n → Ends pid m s t → Ends pid n s t
ends_more pid m n s t less h = record {
  few = (let first = h.few in omega arith);
  pending = h.pending;
  fewer = h.fewer;
  queues = h.queues;
  turns = h.turns;
  asks = h.asks;
}

pub ends_wakes : (pid woken : ℕ) (s : ClientFiles) → Ends pid 1 s (wakes woken s)
ends_wakes pid woken s = record {
  few = (let one = length_pushed s.ready woken in omega arith);
  pending = refl;
  fewer = λ other apart. omega arith;
  queues = λ q. q;
  turns = λ q. q;
  asks = λ stream file e. e;
}

asked_less : (b c : Bool) (m n : ℕ) → (b ≡ true → c ≡ true) → m ≤ n → cond {A = ℕ} b m 0 ≤ cond {A = ℕ} c n 0
asked_less false c m n h k = omega arith
asked_less true c m n h k = (let all : cond {A = ℕ} c n 0 ≡ n = ap (λ (b : Bool). cond {A = ℕ} b n 0) (h refl) in omega arith)

-- whether an operation is worth no more, by how often its process stands among those that fill
pub worth_by : (operation : Pending) (m n : ℕ) (s t : ClientFiles) → ((stream : StreamNo) (file : FileId) → asks_at stream file t ≡ true → asks_at stream file s ≡ true) → m ≤ n → weight operation + asked operation m t.streams.entries t.cache.files ≤ weight operation + asked operation n s.streams.entries s.cache.files
worth_by (operations.Name call) m n s t h k = omega arith
worth_by (operations.Data call) m n s t h k = (let part = asked_less (asks_at call.stream call.file t) (asks_at call.stream call.file s) m n (h call.stream call.file) k in omega arith)
worth_by (operations.Sync call) m n s t h k = omega arith
worth_by (operations.Close work) m n s t h k = omega arith
worth_by (operations.Move work) m n s t h k = omega arith

pub worth_calm : (pid : ℕ) (operation : Pending) (s t : ClientFiles) → Calm s t → worth pid operation t ≤ worth pid operation s
worth_calm pid operation s t h = worth_by operation (times pid t.fillers) (times pid s.fillers) s t h.asks (let same = ap (times pid) h.fillers in omega arith)

pub worth_ends : (pid many : ℕ) (s t : ClientFiles) → Ends pid many s t → (other : ℕ) (operation : Pending) → (other == pid) ≡ false → worth other operation t ≤ worth other operation s
worth_ends pid many s t h other operation apart = worth_by operation (times other t.fillers) (times other s.fillers) s t h.asks (h.fewer other apart)

-- A run of an operation, which was taken out: it is kept or has ended, and costs no more than it was worth

abbrev pub row_of : ℕ → Option Pending → List (ℕ × Pending)
row_of pid (Some operation) = (pid, operation) ∷ []
row_of pid None = []

abbrev pub few_of : Option Pending → Bool
few_of (Some operation) = few_fds operation
few_of None = true

abbrev pub worth_of : ℕ → Option Pending → ClientFiles → ℕ
worth_of pid (Some operation) s = worth pid operation s
worth_of pid None s = 0

pub record Ran (pid : ℕ) (operation : Pending) (s t : ClientFiles) : Type 0 where
  pub kept : Option Pending
  pub pending : t.pending ≡ s.pending ++ row_of pid kept
  pub others : (other : ℕ) (op : Pending) → (other == pid) ≡ false → worth other op t ≤ worth other op s
  pub spent : length t.ready + worth_of pid kept t ≤ length s.ready + worth pid operation s
  pub queues : QueuesAreOnce s → QueuesAreOnce t
  pub turns : TurnsAreOnce s → TurnsAreOnce t
  pub few : few_fds operation ≡ true → few_of kept ≡ true

pub ran_ended : (pid many : ℕ) (operation : Pending) (s t : ClientFiles) → Ends pid many s t → many ≤ worth pid operation s → Ran pid operation s t
ran_ended pid many operation s t h enough = record {
  kept = None;
  pending = h.pending ∙ sym (append-nil s.pending);
  others = worth_ends pid many s t h;
  spent = (let few = h.few in omega arith);
  queues = h.queues;
  turns = h.turns;
  few = λ _. refl;
}

pub ran_kept : (pid many : ℕ) (operation new : Pending) (s u : ClientFiles) → Ends pid many s u → many + worth pid new u ≤ worth pid operation s → (few_fds operation ≡ true → few_fds new ≡ true) → Ran pid operation s (keeps pid new u)
ran_kept pid many operation new s u h enough few = record {
  kept = Some new;
  pending = ap (λ (rows : List (ℕ × Pending)). rows ++ (pid, new) ∷ []) h.pending;
  others = worth_ends pid many s u h;
  spent = (let most = h.few in omega arith);
  queues = h.queues;
  turns = h.turns;
  few = few;
}

pub ran_after : (pid : ℕ) (operation : Pending) (s t u : ClientFiles) → Calm s t → Ran pid operation t u → Ran pid operation s u
ran_after pid operation s t u h r = record {
  kept = r.kept;
  pending = r.pending ∙ ap (λ (rows : List (ℕ × Pending)). rows ++ row_of pid r.kept) h.pending;
  others = λ other op apart. (let first = worth_calm other op s t h in let second = r.others other op apart in omega arith);
  spent = (let same = ap (λ (xs : List ℕ). length xs) h.ready in let first = worth_calm pid operation s t h in let second = r.spent in omega arith);
  queues = λ q. r.queues (h.queues q);
  turns = λ q. r.turns (subst (EachOnce is_pid) (sym h.fillers) q);
  few = r.few;
}

pub ran_if : (b : Bool) (pid : ℕ) (operation : Pending) (s t u : ClientFiles) → Ran pid operation s t → Ran pid operation s u → Ran pid operation s (cond b t u)
ran_if true pid operation s t u h k = h
ran_if false pid operation s t u h k = k

-- What all operations cost after a run

due_append : (rows more : List (ℕ × Pending)) (s : ClientFiles) → due (rows ++ more) s ≡ due rows s + due more s
due_append [] more s = omega arith
due_append (row ∷ rows) more s = (let rest = due_append rows more s in omega arith)

due_row : (pid : ℕ) (o : Option Pending) (s : ClientFiles) → due (row_of pid o) s ≡ worth_of pid o s
due_row pid None s = refl
due_row pid (Some operation) s = omega arith

due_others : (pid : ℕ) (rows : List (ℕ × Pending)) (s t : ClientFiles) → ((other : ℕ) (op : Pending) → (other == pid) ≡ false → worth other op t ≤ worth other op s) → list_any (is_under same_pid pid) rows ≡ false → due rows t ≤ due rows s
due_others pid [] s t h none = omega arith
due_others pid (row ∷ rows) s t h none =
    let parts = or_false (row.0 == pid) (list_any (is_under same_pid pid) rows) none in
    let here = h row.0 row.1 parts.0 in
    let rest = due_others pid rows s t h parts.1 in
    omega arith

pub cost_ran : (pid : ℕ) (operation : Pending) (s t : ClientFiles) → Ran pid operation s t → list_any (is_under same_pid pid) s.pending ≡ false → cost t ≤ cost s + worth pid operation s
cost_ran pid operation s t r none =
    let all = ap (λ (rows : List (ℕ × Pending)). due rows t) r.pending in
    let parts = due_append s.pending (row_of pid r.kept) t in
    let row = due_row pid r.kept t in
    let others = due_others pid s.pending s t r.others none in
    let spent = r.spent in
    omega arith

-- and a process has at most one operation still

pub once_kept : (pid : ℕ) (o : Option Pending) (rows : List (ℕ × Pending)) → list_any (is_under same_pid pid) rows ≡ false → EachOnce same_process rows → EachOnce same_process (rows ++ row_of pid o)
once_kept pid None rows none once = subst (EachOnce same_process) (sym (append-nil rows)) once
once_kept pid (Some operation) rows none once = pushed_once same_process processes_same (pid, operation) rows none once

pub once_ran : (pid : ℕ) (operation : Pending) (s t : ClientFiles) → Ran pid operation s t → list_any (is_under same_pid pid) s.pending ≡ false → OneOperationEach s → OneOperationEach t
once_ran pid operation s t r none once = subst (EachOnce same_process) (sym r.pending) (once_kept pid r.kept s.pending none once)

-- Taking an operation out

left_by : {V : Type 0} (pid : ℕ) (row : ℕ × V) (rows left : List (ℕ × V)) (b : Bool) → (row.0 == pid) ≡ b → list_any (same_process row) rows ≡ false → list_any (is_under same_pid pid) left ≡ false → list_any (is_under same_pid pid) (cond b rows (row ∷ left)) ≡ false
left_by pid row rows left true e h k = subst (λ (key : ℕ). list_any (λ other. other.0 == key) rows ≡ false) (eqb-true row.0 pid e) h
left_by pid row rows left false e h k = ap (λ b. b || list_any (is_under same_pid pid) left) e ∙ k

-- none of that process is left
pub none_left : {V : Type 0} (pid : ℕ) (rows : List (ℕ × V)) → EachOnce same_process rows → list_any (is_under same_pid pid) (less_of pid rows) ≡ false
none_left pid [] h = refl
none_left pid (row ∷ rows) h = left_by pid row rows (less_of pid rows) (row.0 == pid) refl h.0 (none_left pid rows h.1)

-- what is left costs less by what the operation was worth
took_by : (pid : ℕ) (row : ℕ × Pending) (rows left : List (ℕ × Pending)) (o : Option (ℕ × Pending)) (operation : Pending) (s : ClientFiles) (b : Bool) → (row.0 == pid) ≡ b → (option_map (λ (r : ℕ × Pending). r.1) o ≡ Some operation → due rows s ≡ due left s + worth pid operation s) → option_map (λ (r : ℕ × Pending). r.1) (cond b (Some row) o) ≡ Some operation → due (row ∷ rows) s ≡ due (cond b rows (row ∷ left)) s + worth pid operation s
took_by pid row rows left o operation s true e h found =
    let here : worth row.0 row.1 s ≡ worth pid operation s = ap₂ (λ (key : ℕ) (op : Pending). worth key op s) (eqb-true row.0 pid e) (some_is row.1 operation found) in
    omega arith
took_by pid row rows left o operation s false e h found = (let rest = h found in omega arith)

pub took : (pid : ℕ) (rows : List (ℕ × Pending)) (operation : Pending) (s : ClientFiles) → first_of pid rows ≡ Some operation → due rows s ≡ due (less_of pid rows) s + worth pid operation s
took pid [] operation s found = absurd (cc)
took pid (row ∷ rows) operation s found =
    took_by pid row rows (less_of pid rows) (find (is_under same_pid pid) rows) operation s (row.0 == pid) refl (took pid rows operation s) found

due_less_by : (pid : ℕ) (row : ℕ × Pending) (rows left : List (ℕ × Pending)) (s : ClientFiles) (b : Bool) → due left s ≤ due rows s → due (cond b rows (row ∷ left)) s ≤ due (row ∷ rows) s
due_less_by pid row rows left s true h = omega arith
due_less_by pid row rows left s false h = omega arith

pub due_less : (pid : ℕ) (rows : List (ℕ × Pending)) (s : ClientFiles) → due (less_of pid rows) s ≤ due rows s
due_less pid [] s = omega arith
due_less pid (row ∷ rows) s = due_less_by pid row rows (less_of pid rows) s (row.0 == pid) (due_less pid rows s)
