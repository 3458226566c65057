-- The order in which operations fill blocks: the first of those with a turn needs blocks, and the others wait for their turn.
use Rattle.std.proofs.Common.{◌≡◌, ℕ, ◌==◌, Bool, true, false, ◌||◌, cond, List, [], ◌∷◌, ◌++◌, Option, Some, None, option_map, refl, sym, ap, ◌∙◌, subst}
use Rattle.std.proofs.lemmas.Bool.{eq-eqb, eqb-true}
use Rattle.std.specs.List.{AllByRecursion, find, list_any}
use Rattle.sprite_ids.specs.Lists.{EachOnce, less}
use Rattle.sprite_ids.proofs.ListLaws.{each_push, each_weaken}
use Rattle.sprite_ids.proofs.OnceLaws.{or_false, pushed_once}
use Rattle.kernel_steps.specs.Rows.{is_under}
use Rattle.stream_table.proofs.OwnerLaws.{eq_turned}
use Rattle.client_file_tables.specs.declared.pending.Pending.{Pending}
use Rattle.client_file_tables.specs.declared.pending.Pending.TheVariants as operations
use Rattle.client_file_tables.specs.declared.states.DataState.{DataState}
use Rattle.client_file_tables.specs.declared.states.DataState.TheVariants as states
use Rattle.client_file_tables.specs.Fillers.{is_first}
use Rattle.client_file_tables.specs.Rows.{first_of, is_pid, less_of, same_pid}
use Rattle.client_facts.specs.FileFacts.{does, is_filler, is_turn, needs_blocks, waits_for_turn}
use Rattle.client_facts.proofs.CostLaws.{less_once, pids_same}
use Rattle.file_facts.proofs.BookLaws.{each_less, or_left}
use Rattle.lock_facts.proofs.Boards.{has_turn}

-- whether the process's operation needs blocks, and whether it waits for its turn
abbrev pub needs_in : List (ℕ × Pending) → ℕ → Bool
needs_in rows pid = does is_filler (first_of pid rows)

abbrev pub waits_in : List (ℕ × Pending) → ℕ → Bool
waits_in rows pid = does waits_for_turn (first_of pid rows)

-- the first passes one test, and all others another
abbrev pub InOrder : (ℕ → Bool) → (ℕ → Bool) → List ℕ → Type 0
InOrder first other [] = Unit {0}
InOrder first other (pid ∷ rest) = (first pid ≡ true) × AllByRecursion (λ (p : ℕ). other p ≡ true) rest

abbrev pub Ranked : List (ℕ × Pending) → List ℕ → Type 0
Ranked rows fillers = InOrder (needs_in rows) (waits_in rows) fillers × EachOnce is_pid fillers

-- but for the process whose operation was taken out
abbrev pub but : ℕ → (ℕ → Bool) → ℕ → Bool
but pid test other = (other == pid) || test other

abbrev pub RankedBut : ℕ → List (ℕ × Pending) → List ℕ → Type 0
RankedBut pid rows fillers = InOrder (but pid (needs_in rows)) (but pid (waits_in rows)) fillers × EachOnce is_pid fillers

order_more : (first more other rest : ℕ → Bool) (fillers : List ℕ) → ((p : ℕ) → first p ≡ true → more p ≡ true) → ((p : ℕ) → other p ≡ true → rest p ≡ true) → InOrder first other fillers → InOrder more rest fillers
order_more first more other rest [] f g h = tt
order_more first more other rest (pid ∷ pids) f g h = (f pid h.0, each_weaken (λ (p : ℕ). other p ≡ true) (λ (p : ℕ). rest p ≡ true) pids g h.1)

-- Rows that are found

less_by : (p pid : ℕ) (row : ℕ × Pending) (rest : List (ℕ × Pending)) (b : Bool) → (row.0 == pid) ≡ b → (p == pid) ≡ false → find (is_under same_pid p) (less_of pid rest) ≡ find (is_under same_pid p) rest
    → find (is_under same_pid p) (cond b rest (row ∷ less_of pid rest)) ≡ cond (row.0 == p) (Some row) (find (is_under same_pid p) rest)
less_by p pid row rest true e apart later = sym (ap (λ (b : Bool). cond b (Some row) (find (is_under same_pid p) rest)) (ap (λ (n : ℕ). n == p) (eqb-true row.0 pid e) ∙ eq_turned pid p ∙ apart))
less_by p pid row rest false e apart later = ap (λ (o : Option (ℕ × Pending)). cond (row.0 == p) (Some row) o) later

find_less : (p pid : ℕ) (rows : List (ℕ × Pending)) → (p == pid) ≡ false → find (is_under same_pid p) (less_of pid rows) ≡ find (is_under same_pid p) rows
find_less p pid [] apart = refl
find_less p pid (row ∷ rest) apart = less_by p pid row rest (row.0 == pid) refl apart (find_less p pid rest apart)

pub first_less : (p pid : ℕ) (rows : List (ℕ × Pending)) → (p == pid) ≡ false → first_of p (less_of pid rows) ≡ first_of p rows
first_less p pid rows apart = ap (λ (o : Option (ℕ × Pending)). option_map (λ (row : ℕ × Pending). row.1) o) (find_less p pid rows apart)

-- what is behind is found where there is nothing before it
abbrev or_else : Option (ℕ × Pending) → Option (ℕ × Pending) → Option (ℕ × Pending)
or_else (Some row) more = Some row
or_else None more = more

push_by : (row : ℕ × Pending) (o more : Option (ℕ × Pending)) (b : Bool) → cond b (Some row) (or_else o more) ≡ or_else (cond b (Some row) o) more
push_by row o more true = refl
push_by row o more false = refl

find_push : (p : ℕ) (rows : List (ℕ × Pending)) (x : ℕ × Pending) → find (is_under same_pid p) (rows ++ x ∷ []) ≡ or_else (find (is_under same_pid p) rows) (cond (x.0 == p) (Some x) None)
find_push p [] x = refl
find_push p (row ∷ rest) x = ap (λ (o : Option (ℕ × Pending)). cond (row.0 == p) (Some row) o) (find_push p rest x) ∙ push_by row (find (is_under same_pid p) rest) (cond (x.0 == p) (Some x) None) (row.0 == p)

first_push : (p : ℕ) (rows : List (ℕ × Pending)) (x : ℕ × Pending) → first_of p (rows ++ x ∷ []) ≡ option_map (λ (row : ℕ × Pending). row.1) (or_else (find (is_under same_pid p) rows) (cond (x.0 == p) (Some x) None))
first_push p rows x = ap (λ (o : Option (ℕ × Pending)). option_map (λ (row : ℕ × Pending). row.1) o) (find_push p rows x)

-- one that passes stays so where a row comes behind
does_by : (test : Pending → Bool) (o more : Option (ℕ × Pending)) → does test (option_map (λ (row : ℕ × Pending). row.1) o) ≡ true → does test (option_map (λ (row : ℕ × Pending). row.1) (or_else o more)) ≡ true
does_by test (Some row) more e = e
does_by test None more e = absurd (cc)

pub does_push : (test : Pending → Bool) (p : ℕ) (rows : List (ℕ × Pending)) (x : ℕ × Pending) → does test (first_of p rows) ≡ true → does test (first_of p (rows ++ x ∷ [])) ≡ true
does_push test p rows x e = ap (does test) (first_push p rows x) ∙ does_by test (find (is_under same_pid p) rows) (cond (x.0 == p) (Some x) None) e

none_found : (pid : ℕ) (rows : List (ℕ × Pending)) → list_any (is_under same_pid pid) rows ≡ false → find (is_under same_pid pid) rows ≡ None
none_found pid [] none = refl
none_found pid (row ∷ rest) none =
    let parts = or_false (row.0 == pid) (list_any (is_under same_pid pid) rest) none in
    ap (λ (b : Bool). cond b (Some row) (find (is_under same_pid pid) rest)) parts.0 ∙ none_found pid rest parts.1

-- and a process's only one is found
pub first_own : (pid : ℕ) (rows : List (ℕ × Pending)) (operation : Pending) → list_any (is_under same_pid pid) rows ≡ false → first_of pid (rows ++ (pid, operation) ∷ []) ≡ Some operation
first_own pid rows operation none =
    first_push pid rows (pid, operation)
    ∙ ap (λ (o : Option (ℕ × Pending)). option_map (λ (row : ℕ × Pending). row.1) (or_else o (cond (pid == pid) (Some (pid, operation)) None))) (none_found pid rows none)
    ∙ ap (λ (b : Bool). option_map (λ (row : ℕ × Pending). row.1) (cond b (Some (pid, operation)) None)) (eq-eqb pid pid refl)

-- What keeps the order

-- an operation comes behind all others
pub rank_push : (rows : List (ℕ × Pending)) (fillers : List ℕ) (x : ℕ × Pending) → Ranked rows fillers → Ranked (rows ++ x ∷ []) fillers
rank_push rows fillers x r = (order_more (needs_in rows) (needs_in (rows ++ x ∷ [])) (waits_in rows) (waits_in (rows ++ x ∷ [])) fillers (λ p. does_push is_filler p rows x) (λ p. does_push waits_for_turn p rows x) r.0, r.1)

less_test : (test : Pending → Bool) (pid : ℕ) (rows : List (ℕ × Pending)) (p : ℕ) (b : Bool) → (p == pid) ≡ b → does test (first_of p rows) ≡ true → (b || does test (first_of p (less_of pid rows))) ≡ true
less_test test pid rows p true e h = refl
less_test test pid rows p false e h = ap (does test) (first_less p pid rows e) ∙ h

-- one is taken out
pub rank_out : (pid : ℕ) (rows : List (ℕ × Pending)) (fillers : List ℕ) → Ranked rows fillers → RankedBut pid (less_of pid rows) fillers
rank_out pid rows fillers r =
    (order_more (needs_in rows) (but pid (needs_in (less_of pid rows))) (waits_in rows) (but pid (waits_in (less_of pid rows))) fillers (λ p. less_test is_filler pid rows p (p == pid) refl) (λ p. less_test waits_for_turn pid rows p (p == pid) refl) r.0, r.1)

-- one that needs no blocks
fails_by : (test : Pending → Bool) (pid : ℕ) (rows : List (ℕ × Pending)) (p : ℕ) (b : Bool) → (p == pid) ≡ b → does test (first_of pid rows) ≡ false → does test (first_of p rows) ≡ true → does test (first_of p (less_of pid rows)) ≡ true
fails_by test pid rows p true e fails h = absurd (let same = ap (λ (n : ℕ). does test (first_of n rows)) (eqb-true p pid e) in let both = sym h ∙ same ∙ fails in cc)
fails_by test pid rows p false e fails h = ap (does test) (first_less p pid rows e) ∙ h

no_turn : (o : Option Pending) → does is_filler o ≡ false → does waits_for_turn o ≡ false
no_turn None e = refl
no_turn (Some (operations.Name call)) e = refl
no_turn (Some (operations.Data call)) e = in_state call.state e
  where
    in_state : (state : DataState) → needs_blocks state ≡ false → is_turn state ≡ false
    in_state states.Turn e = absurd (cc)
    in_state states.WaitLock e = refl
    in_state (states.Room tx) e = refl
    in_state (states.Fetching tx block) e = refl
    in_state (states.AtServer tx) e = refl
no_turn (Some (operations.Sync call)) e = refl
no_turn (Some (operations.Close work)) e = refl
no_turn (Some (operations.Move work)) e = refl

pub rank_idle_out : (pid : ℕ) (rows : List (ℕ × Pending)) (fillers : List ℕ) → needs_in rows pid ≡ false → Ranked rows fillers → Ranked (less_of pid rows) fillers
rank_idle_out pid rows fillers idle r =
    (order_more (needs_in rows) (needs_in (less_of pid rows)) (waits_in rows) (waits_in (less_of pid rows)) fillers (λ p. fails_by is_filler pid rows p (p == pid) refl idle) (λ p. fails_by waits_for_turn pid rows p (p == pid) refl (no_turn (first_of pid rows) idle)) r.0, r.1)

-- and put back
back_by : (test : Pending → Bool) (pid : ℕ) (rows : List (ℕ × Pending)) (operation : Pending) (p : ℕ) (b : Bool) → (p == pid) ≡ b → list_any (is_under same_pid pid) (less_of pid rows) ≡ false → first_of pid rows ≡ Some operation → does test (first_of p rows) ≡ true → does test (first_of p (less_of pid rows ++ (pid, operation) ∷ [])) ≡ true
back_by test pid rows operation p true e none found h =
    let is : p ≡ pid = eqb-true p pid e in
    let mine : does test (first_of pid rows) ≡ true = subst (λ (n : ℕ). does test (first_of n rows) ≡ true) is h in
    subst (λ (n : ℕ). does test (first_of n (less_of pid rows ++ (pid, operation) ∷ [])) ≡ true) (sym is) (ap (does test) (first_own pid (less_of pid rows) operation none ∙ sym found) ∙ mine)
back_by test pid rows operation p false e none found h = does_push test p (less_of pid rows) (pid, operation) (ap (does test) (first_less p pid rows e) ∙ h)

pub rank_back : (pid : ℕ) (rows : List (ℕ × Pending)) (fillers : List ℕ) (operation : Pending) → list_any (is_under same_pid pid) (less_of pid rows) ≡ false → first_of pid rows ≡ Some operation → Ranked rows fillers → Ranked (less_of pid rows ++ (pid, operation) ∷ []) fillers
rank_back pid rows fillers operation none found r = (
  order_more (needs_in rows) (needs_in (less_of pid rows ++ (pid, operation) ∷ [])) (waits_in rows) (waits_in (less_of pid rows ++ (pid, operation) ∷ [])) fillers
      (λ p. back_by is_filler pid rows operation p (p == pid) refl none found) (λ p. back_by waits_for_turn pid rows operation p (p == pid) refl none found) r.0,
  r.1,
)

-- The operation in hand is kept

kept_by : (test : Pending → Bool) (pid : ℕ) (rows : List (ℕ × Pending)) (operation : Pending) (p : ℕ) (b : Bool) → (p == pid) ≡ b → list_any (is_under same_pid pid) rows ≡ false → test operation ≡ true → (b || does test (first_of p rows)) ≡ true → does test (first_of p (rows ++ (pid, operation) ∷ [])) ≡ true
kept_by test pid rows operation p true e none passes h = subst (λ (n : ℕ). does test (first_of n (rows ++ (pid, operation) ∷ [])) ≡ true) (sym (eqb-true p pid e)) (ap (does test) (first_own pid rows operation none) ∙ passes)
kept_by test pid rows operation p false e none passes h = does_push test p rows (pid, operation) h

-- where it waits for its turn
pub rank_turn : (pid : ℕ) (rows : List (ℕ × Pending)) (fillers : List ℕ) (operation : Pending) → list_any (is_under same_pid pid) rows ≡ false → is_filler operation ≡ true → waits_for_turn operation ≡ true → RankedBut pid rows fillers → Ranked (rows ++ (pid, operation) ∷ []) fillers
rank_turn pid rows fillers operation none needs waits r = (
  order_more (but pid (needs_in rows)) (needs_in (rows ++ (pid, operation) ∷ [])) (but pid (waits_in rows)) (waits_in (rows ++ (pid, operation) ∷ [])) fillers
      (λ p. kept_by is_filler pid rows operation p (p == pid) refl none needs) (λ p. kept_by waits_for_turn pid rows operation p (p == pid) refl none waits) r.0,
  r.1,
)

others_by : (test : Pending → Bool) (pid : ℕ) (rows : List (ℕ × Pending)) (operation : Pending) (p : ℕ) (b : Bool) → (p == pid) ≡ b → b ≡ false → (b || does test (first_of p rows)) ≡ true → does test (first_of p (rows ++ (pid, operation) ∷ [])) ≡ true
others_by test pid rows operation p true e apart h = absurd (cc)
others_by test pid rows operation p false e apart h = does_push test p rows (pid, operation) h

all_others : (pid : ℕ) (rows : List (ℕ × Pending)) (operation : Pending) (rest : List ℕ) → list_any (is_pid pid) rest ≡ false → AllByRecursion (λ (p : ℕ). but pid (waits_in rows) p ≡ true) rest → AllByRecursion (λ (p : ℕ). waits_in (rows ++ (pid, operation) ∷ []) p ≡ true) rest
all_others pid rows operation [] none all = tt
all_others pid rows operation (p ∷ rest) none all =
    let parts = or_false (p == pid) (list_any (is_pid pid) rest) none in
    (others_by waits_for_turn pid rows operation p (p == pid) refl parts.0 all.0, all_others pid rows operation rest parts.1 all.1)

-- where it has no turn
order_apart : (pid : ℕ) (rows : List (ℕ × Pending)) (operation : Pending) (fillers : List ℕ) → has_turn pid fillers ≡ false → InOrder (but pid (needs_in rows)) (but pid (waits_in rows)) fillers → InOrder (needs_in (rows ++ (pid, operation) ∷ [])) (waits_in (rows ++ (pid, operation) ∷ [])) fillers
order_apart pid rows operation [] none h = tt
order_apart pid rows operation (p ∷ rest) none h =
    let parts = or_false (p == pid) (list_any (is_pid pid) rest) none in
    (others_by is_filler pid rows operation p (p == pid) refl parts.0 h.0, all_others pid rows operation rest parts.1 h.1)

pub rank_apart : (pid : ℕ) (rows : List (ℕ × Pending)) (fillers : List ℕ) (operation : Pending) → has_turn pid fillers ≡ false → RankedBut pid rows fillers → Ranked (rows ++ (pid, operation) ∷ []) fillers
rank_apart pid rows fillers operation none r = (order_apart pid rows operation fillers none r.0, r.1)

-- where it is the first
order_first : (pid : ℕ) (rows : List (ℕ × Pending)) (operation : Pending) (fillers : List ℕ) → list_any (is_under same_pid pid) rows ≡ false → is_filler operation ≡ true → is_first pid fillers ≡ true → EachOnce is_pid fillers → InOrder (but pid (needs_in rows)) (but pid (waits_in rows)) fillers
    → InOrder (needs_in (rows ++ (pid, operation) ∷ [])) (waits_in (rows ++ (pid, operation) ∷ [])) fillers
order_first pid rows operation [] none needs first once h = tt
order_first pid rows operation (p ∷ rest) none needs first once h =
    let is : p ≡ pid = eqb-true p pid first in
    (kept_by is_filler pid rows operation p (p == pid) refl none needs h.0, all_others pid rows operation rest (subst (λ (n : ℕ). list_any (is_pid n) rest ≡ false) is once.0) h.1)

pub rank_first : (pid : ℕ) (rows : List (ℕ × Pending)) (fillers : List ℕ) (operation : Pending) → list_any (is_under same_pid pid) rows ≡ false → is_filler operation ≡ true → is_first pid fillers ≡ true → RankedBut pid rows fillers → Ranked (rows ++ (pid, operation) ∷ []) fillers
rank_first pid rows fillers operation none needs first r = (order_first pid rows operation fillers none needs first r.1 r.0, r.1)

-- and one that has no turn goes without a trace
all_gone : (pid : ℕ) (rows : List (ℕ × Pending)) (rest : List ℕ) → list_any (is_pid pid) rest ≡ false → AllByRecursion (λ (p : ℕ). but pid (waits_in rows) p ≡ true) rest → AllByRecursion (λ (p : ℕ). waits_in rows p ≡ true) rest
all_gone pid rows [] none all = tt
all_gone pid rows (p ∷ rest) none all =
    let parts = or_false (p == pid) (list_any (is_pid pid) rest) none in
    (sym (ap (λ (b : Bool). b || waits_in rows p) parts.0) ∙ all.0, all_gone pid rows rest parts.1 all.1)

order_gone : (pid : ℕ) (rows : List (ℕ × Pending)) (fillers : List ℕ) → has_turn pid fillers ≡ false → InOrder (but pid (needs_in rows)) (but pid (waits_in rows)) fillers → InOrder (needs_in rows) (waits_in rows) fillers
order_gone pid rows [] none h = tt
order_gone pid rows (p ∷ rest) none h =
    let parts = or_false (p == pid) (list_any (is_pid pid) rest) none in
    (sym (ap (λ (b : Bool). b || needs_in rows p) parts.0) ∙ h.0, all_gone pid rows rest parts.1 h.1)

pub rank_gone : (pid : ℕ) (rows : List (ℕ × Pending)) (fillers : List ℕ) → has_turn pid fillers ≡ false → RankedBut pid rows fillers → Ranked rows fillers
rank_gone pid rows fillers none r = (order_gone pid rows fillers none r.0, r.1)

-- Turns that are begun and left

order_begun : (pid : ℕ) (first other : ℕ → Bool) (fillers : List ℕ) → InOrder (but pid first) (but pid other) fillers → InOrder (but pid first) (but pid other) (fillers ++ pid ∷ [])
order_begun pid first other [] h = (or_left (pid == pid) (first pid) (eq-eqb pid pid refl), tt)
order_begun pid first other (p ∷ rest) h = (h.0, each_push (λ (q : ℕ). but pid other q ≡ true) rest pid h.1 (or_left (pid == pid) (other pid) (eq-eqb pid pid refl)))

pub rank_begun : (pid : ℕ) (rows : List (ℕ × Pending)) (fillers : List ℕ) → has_turn pid fillers ≡ false → RankedBut pid rows fillers → RankedBut pid rows (fillers ++ pid ∷ [])
rank_begun pid rows fillers none r = (order_begun pid (needs_in rows) (waits_in rows) fillers r.0, pushed_once is_pid pids_same pid fillers none r.1)

pub needs_turn : (o : Option Pending) → does waits_for_turn o ≡ true → does is_filler o ≡ true
needs_turn o e = by_test (does is_filler o) refl
  where
    by_test : (b : Bool) → does is_filler o ≡ b → b ≡ true
    by_test true f = refl
    by_test false f = absurd (let never = no_turn o f in let both = sym e ∙ never in cc)

or_needs : (b : Bool) (o : Option Pending) → (b || does waits_for_turn o) ≡ true → (b || does is_filler o) ≡ true
or_needs true o e = refl
or_needs false o e = needs_turn o e

next_order : (pid : ℕ) (rows : List (ℕ × Pending)) (rest : List ℕ) → AllByRecursion (λ (p : ℕ). but pid (waits_in rows) p ≡ true) rest → InOrder (but pid (needs_in rows)) (but pid (waits_in rows)) rest
next_order pid rows [] all = tt
next_order pid rows (p ∷ rest) all = (or_needs (p == pid) (first_of p rows) all.0, all.1)

left_by : (pid : ℕ) (rows : List (ℕ × Pending)) (p : ℕ) (rest : List ℕ) (b : Bool) → InOrder (but pid (needs_in rows)) (but pid (waits_in rows)) (p ∷ rest) → InOrder (but pid (needs_in rows)) (but pid (waits_in rows)) (cond b rest (p ∷ less (is_pid pid) rest))
left_by pid rows p rest true h = next_order pid rows rest h.1
left_by pid rows p rest false h = (h.0, each_less (λ (q : ℕ). but pid (waits_in rows) q ≡ true) (is_pid pid) rest h.1)

order_left : (pid : ℕ) (rows : List (ℕ × Pending)) (fillers : List ℕ) → InOrder (but pid (needs_in rows)) (but pid (waits_in rows)) fillers → InOrder (but pid (needs_in rows)) (but pid (waits_in rows)) (less (is_pid pid) fillers)
order_left pid rows [] h = tt
order_left pid rows (p ∷ rest) h = left_by pid rows p rest (p == pid) h

pub rank_left : (pid : ℕ) (rows : List (ℕ × Pending)) (fillers : List ℕ) → RankedBut pid rows fillers → RankedBut pid rows (less (is_pid pid) fillers)
rank_left pid rows fillers r = (order_left pid rows fillers r.0, less_once is_pid (is_pid pid) fillers r.1)

gone_by : (pid p : ℕ) (rest : List ℕ) (b : Bool) → (p == pid) ≡ b → list_any (is_pid p) rest ≡ false → list_any (is_pid pid) (less (is_pid pid) rest) ≡ false → list_any (is_pid pid) (cond b rest (p ∷ less (is_pid pid) rest)) ≡ false
gone_by pid p rest true e once later = subst (λ (n : ℕ). list_any (is_pid n) rest ≡ false) (eqb-true p pid e) once
gone_by pid p rest false e once later = ap (λ (b : Bool). b || list_any (is_pid pid) (less (is_pid pid) rest)) e ∙ later

-- a turn that is left is gone
pub turn_gone : (pid : ℕ) (fillers : List ℕ) → EachOnce is_pid fillers → has_turn pid (less (is_pid pid) fillers) ≡ false
turn_gone pid [] once = refl
turn_gone pid (p ∷ rest) once = gone_by pid p rest (p == pid) refl once.0 (turn_gone pid rest once.1)
