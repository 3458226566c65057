-- What one pass over a trace finds of the turns of its processes.
use Rattle.std.proofs.Common.{◌≡◌, ◌∙◌, ℕ, ◌==◌, Bool, true, false, cond, List, [], ◌∷◌, ◌++◌, Option, Some, None, refl, sym, ap, subst, append_assoc, rules}
use Rattle.std.specs.Map.{lookup}
use Rattle.std.proofs.lemmas.Bool.{eqb-true}
use Rattle.std.proofs.lemmas.List.{append-nil}
use Rattle.indexmap.specs.IndexMap.{insert_entry}
use Rattle.unix_calls.specs.declared.event.Event.{Event}
use Rattle.unix_calls.specs.declared.event.Event.TheVariants as event
use Rattle.unix_calls.specs.declared.event.Rec.{Rec}
use Rattle.call_journal.specs.Past.{folded_from}
use Rattle.call_journal.specs.Once.{Progress, Between, Once, is_in_turn, is_call_event, progress_after, progress_step, progress_of}
use Rattle.call_journal.proofs.GrowthLaws.{look_backs_grow}
use Rattle.calls_once.specs.declared.progress.CallProgress.{CallProgress}
use Rattle.calls_once.specs.Turns.{progress_by}
use Rattle.calls_once.specs.Passes.{is_pid, caller_of, progress_or, turn_in, Moved, goes_by, Goes, Tells}

-- whether that is the process
abbrev pub is_of : ℕ → Option ℕ → Bool
is_of q (Some pid) = pid == q
is_of q None = false

call_event : (e : Event) (q : ℕ) → is_call_event q e ≡ is_of q (caller_of e)
call_event (event.Issue pid number call) q = refl
call_event (event.Enter entry) q = refl
call_event (event.Return pid number reply) q = refl
call_event _ q = refl

-- a number is itself
own : (n : ℕ) → (n == n) ≡ true
own n = search rules

-- what is found where a turn was put
found_at : (row : ℕ × CallProgress) (rows : List (ℕ × CallProgress)) (pid : ℕ) (turn : CallProgress) (b : Bool) → (pid == row.0) ≡ b → lookup (is_pid pid) (insert_entry is_pid rows pid turn) ≡ Some turn → lookup (is_pid pid) (cond b ((row.0, turn) ∷ rows) (row ∷ insert_entry is_pid rows pid turn)) ≡ Some turn
found_at row rows pid turn true here rest = ap (λ (t : Bool). cond t (Some turn) (lookup (is_pid pid) rows)) here
found_at row rows pid turn false here rest = ap (λ (t : Bool). cond t (Some row.1) (lookup (is_pid pid) (insert_entry is_pid rows pid turn))) here ∙ rest

found_here : (rows : List (ℕ × CallProgress)) (pid : ℕ) (turn : CallProgress) → lookup (is_pid pid) (insert_entry is_pid rows pid turn) ≡ Some turn
found_here [] pid turn = ap (λ (t : Bool). cond t (Some turn) None) (own pid)
found_here (row ∷ rows) pid turn = found_at row rows pid turn (pid == row.0) refl (found_here rows pid turn)

-- and elsewhere
turned : (a b : ℕ) → (a == b) ≡ false → (b == a) ≡ false
turned a b apart = by (b == a) refl
  where
    by : (t : Bool) → (b == a) ≡ t → (b == a) ≡ false
    by true e = let same = eqb-true b a e in let itself : (a == b) ≡ true = subst (λ (n : ℕ). (a == n) ≡ true) (sym same) (own a) in absurd (cc (itself, apart))
    by false e = e

found_past : (row : ℕ × CallProgress) (rows : List (ℕ × CallProgress)) (pid q : ℕ) (turn : CallProgress) (b t : Bool) → (pid == row.0) ≡ b → (q == row.0) ≡ t → (pid == q) ≡ false → lookup (is_pid q) (insert_entry is_pid rows pid turn) ≡ lookup (is_pid q) rows → lookup (is_pid q) (cond b ((row.0, turn) ∷ rows) (row ∷ insert_entry is_pid rows pid turn)) ≡ cond t (Some row.1) (lookup (is_pid q) rows)
found_past row rows pid q turn true true here there apart rest =
    let one = eqb-true pid row.0 here in
    let two = eqb-true q row.0 there in
    let same : pid ≡ q = one ∙ sym two in
    let itself : (pid == q) ≡ true = subst (λ (n : ℕ). (pid == n) ≡ true) same (own pid) in
    absurd (cc (itself, apart))
found_past row rows pid q turn true false here there apart rest = ap (λ (t : Bool). cond t (Some turn) (lookup (is_pid q) rows)) there
found_past row rows pid q turn false t here there apart rest =
    ap (λ (s : Bool). cond s (Some row.1) (lookup (is_pid q) (insert_entry is_pid rows pid turn))) there ∙ ap (λ o. cond t (Some row.1) o) rest

found_there : (rows : List (ℕ × CallProgress)) (pid q : ℕ) (turn : CallProgress) → (pid == q) ≡ false → lookup (is_pid q) (insert_entry is_pid rows pid turn) ≡ lookup (is_pid q) rows
found_there [] pid q turn apart = ap (λ (t : Bool). cond t (Some turn) None) (turned pid q apart)
found_there (row ∷ rows) pid q turn apart =
    found_past row rows pid q turn (pid == row.0) (q == row.0) refl refl apart (found_there rows pid q turn apart)

-- a turn that was put is its process's, and the others stay
turn_here : (rows : List (ℕ × CallProgress)) (pid : ℕ) (turn : CallProgress) → turn_in (insert_entry is_pid rows pid turn) pid ≡ progress_by turn
turn_here rows pid turn = ap progress_or (found_here rows pid turn)

turn_there : (rows : List (ℕ × CallProgress)) (pid q : ℕ) (turn : CallProgress) → (pid == q) ≡ false → turn_in (insert_entry is_pid rows pid turn) q ≡ turn_in rows q
turn_there rows pid q turn apart = ap progress_or (found_there rows pid q turn apart)

-- one record more of a process's calls
moved_at : (rows after : List (ℕ × CallProgress)) (pid q : ℕ) (e : Event) (b : Bool) → (pid == q) ≡ b → Moved rows pid e after → cond b (progress_after (turn_in rows q) e) (Some (turn_in rows q)) ≡ Some (turn_in after q)
moved_at rows after pid q e true here moved =
    let same = eqb-true pid q here in
    let put : turn_in after pid ≡ progress_by moved.turn = ap (λ (rs : List (ℕ × CallProgress)). turn_in rs pid) moved.put ∙ turn_here rows pid moved.turn in
    subst (λ (n : ℕ). progress_after (turn_in rows n) e ≡ Some (turn_in after n)) same (moved.told ∙ ap (λ (p : Progress). Some p) (sym put))
moved_at rows after pid q e false apart moved =
    ap (λ (p : Progress). Some p) (sym (ap (λ (rs : List (ℕ × CallProgress)). turn_in rs q) moved.put ∙ turn_there rows pid q moved.turn apart))

on_caller : (rows after : List (ℕ × CallProgress)) (caller : Option ℕ) (q : ℕ) (e : Event) → goes_by caller rows e true after → cond (is_of q caller) (progress_after (turn_in rows q) e) (Some (turn_in rows q)) ≡ Some (turn_in after q)
on_caller rows after (Some pid) q e goes = moved_at rows after pid q e (pid == q) refl goes
on_caller rows after None q e goes = ap (λ (rs : List (ℕ × CallProgress)). Some (turn_in rs q)) (sym goes.1)

-- what the step of a process's progress is, where it has been told
step_is : (rows : List (ℕ × CallProgress)) (records : List Rec) (r : Rec) (q : ℕ) → Tells rows records → progress_of q (records ++ r ∷ []) ≡ cond (is_of q (caller_of r.event)) (progress_after (turn_in rows q) r.event) (Some (turn_in rows q))
step_is rows records r q tells =
    look_backs_grow.calls q records r
    ∙ ap (λ (p : Option Progress). progress_step q records r p) (tells q)
    ∙ ap (λ (b : Bool). cond b (progress_after (turn_in rows q) r.event) (Some (turn_in rows q))) (call_event r.event q)

pub tells_on : (rows after : List (ℕ × CallProgress)) (records : List Rec) (r : Rec) → Tells rows records → Goes rows r.event true after → Tells after (records ++ r ∷ [])
tells_on rows after records r tells goes q = step_is rows records r q tells ∙ on_caller rows after (caller_of r.event) q r.event goes

-- nothing comes in turn again
none_both : (b : Bool) → cond {A = Option Progress} b None None ≡ None
none_both true = refl
none_both false = refl

stays_out : (pid : ℕ) (before rest : List Rec) → folded_from (progress_step pid) before None rest ≡ None
stays_out pid before [] = refl
stays_out pid before (r ∷ rest) =
    ap (λ (p : Option Progress). folded_from (progress_step pid) (before ++ r ∷ []) p rest) (none_both (is_call_event pid r.event))
    ∙ stays_out pid (before ++ r ∷ []) rest

folded_on : (pid : ℕ) (before xs ys : List Rec) (p : Option Progress) → folded_from (progress_step pid) before p (xs ++ ys) ≡ folded_from (progress_step pid) (before ++ xs) (folded_from (progress_step pid) before p xs) ys
folded_on pid before [] ys p = ap (λ (b : List Rec). folded_from (progress_step pid) b p ys) (sym (append-nil before))
folded_on pid before (x ∷ xs) ys p =
    folded_on pid (before ++ x ∷ []) xs ys (progress_step pid before x p)
    ∙ ap (λ (b : List Rec). folded_from (progress_step pid) b (folded_from (progress_step pid) (before ++ x ∷ []) (progress_step pid before x p) xs) ys) (append_assoc before (x ∷ []) xs)

-- so an event that isn't in its turn is never made good
out_for_ever : (pid : ℕ) (records rest : List Rec) → progress_of pid records ≡ None → progress_of pid (records ++ rest) ≡ None
out_for_ever pid records rest out =
    folded_on pid [] records rest (Some (Between 0)) ∙ ap (λ (p : Option Progress). folded_from (progress_step pid) records p rest) out ∙ stays_out pid records rest

out_by : (rows after : List (ℕ × CallProgress)) (records rest : List Rec) (r : Rec) (caller : Option ℕ) → caller_of r.event ≡ caller → Tells rows records → goes_by caller rows r.event false after → Once ((records ++ r ∷ []) ++ rest) → ⊥
out_by rows after records rest r None is tells goes once = let told = goes.0 in absurd (cc (told))
out_by rows after records rest r (Some pid) is tells goes once =
    let here : progress_of pid (records ++ r ∷ []) ≡ None =
    step_is rows records r pid tells
    ∙ ap (λ (c : Option ℕ). cond (is_of pid c) (progress_after (turn_in rows pid) r.event) (Some (turn_in rows pid))) is
    ∙ ap (λ (b : Bool). cond b (progress_after (turn_in rows pid) r.event) (Some (turn_in rows pid))) (own pid)
    ∙ goes in
    let out : is_in_turn (progress_of pid ((records ++ r ∷ []) ++ rest)) ≡ false = ap is_in_turn (out_for_ever pid (records ++ r ∷ []) rest here) in
    let in_turn : is_in_turn (progress_of pid ((records ++ r ∷ []) ++ rest)) ≡ true = once pid in
    absurd (cc (out, in_turn))

pub not_once : (rows after : List (ℕ × CallProgress)) (records rest trace : List Rec) (r : Rec) → records ++ r ∷ rest ≡ trace → Tells rows records → Goes rows r.event false after → Once trace → ⊥
not_once rows after records rest trace r parts tells goes once =
    let whole : trace ≡ (records ++ r ∷ []) ++ rest = sym parts ∙ sym (append_assoc records (r ∷ []) rest) in
    out_by rows after records rest r (caller_of r.event) refl tells goes (subst Once whole once)

-- where all records are told, each call is once
pub once_told : (rows : List (ℕ × CallProgress)) (trace : List Rec) → Tells rows trace → Once trace
once_told rows trace tells pid = ap is_in_turn (tells pid)
