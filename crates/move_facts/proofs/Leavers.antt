-- Who leaves a client's kernel, and what is told of it, where a process is taken out and kept again.
use Rattle.std.proofs.Common.{arith, ◌≡◌, ℕ, ◌≤◌, ◌==◌, Bool, true, false, ◌||◌, cond, List, [], ◌∷◌, ◌++◌, Option, Some, None, option_map, refl, sym, ap, ◌∙◌, find, is_some}
use Rattle.std.proofs.lemmas.Bool.{eq-eqb, eqb-true}
use Rattle.std.specs.List.{list_any}
use Rattle.sprite_ids.specs.declared.StreamNo.{StreamNo}
use Rattle.sprite_ids.specs.Lists.{less}
use Rattle.sprite_ids.proofs.ListLaws.{some_is}
use Rattle.sprite_ids.proofs.OnceLaws.{or_false}
use Rattle.kernel_steps.specs.Rows.{first_under, is_under}
use Rattle.stream_table.specs.declared.Carried.{Carried}
use Rattle.migrate_freeze.specs.declared.moves.MovedStream.{MovedStream}
use Rattle.migrate_freeze.specs.Moves.{better, is_before, is_free, is_moved, is_stream, lower, next_from, noted}
use Rattle.client_file_tables.specs.declared.moves.MoveWork.{MoveWork}
use Rattle.client_file_tables.specs.declared.moves.Report.{Report}
use Rattle.client_file_tables.specs.declared.moves.Report.TheVariants as reports
use Rattle.client_file_tables.specs.declared.pending.Pending.{Pending}
use Rattle.client_homes.specs.declared.client.Leaving.{Leaving}
use Rattle.client_homes.specs.Procs.{is_pid}
use Rattle.client_rounds.specs.Rounds.{room_in}
use Rattle.move_facts.specs.MoveFacts.{has_moved, move_of}

-- Rows of those that leave

abbrev step_at : Option (ℕ × Leaving) → Option Leaving
step_at o = option_map (λ (row : ℕ × Leaving). row.1) o

less_by : (row : ℕ × Leaving) (o p : Option (ℕ × Leaving)) (c b : Bool) → (c ≡ true → b ≡ false) → step_at p ≡ step_at o → step_at (cond c o (cond b (Some row) p)) ≡ step_at (cond b (Some row) o)
less_by row o p true true apart e = absurd (let no = apart refl in cc)
less_by row o p true false apart e = refl
less_by row o p false true apart e = refl
less_by row o p false false apart e = e

find_if : (q pid : ℕ) (row : ℕ × Leaving) (rest : List (ℕ × Leaving)) (c : Bool) → find (is_under is_pid q) (cond c rest (row ∷ less (is_under is_pid pid) rest)) ≡ cond c (find (is_under is_pid q) rest) (cond (row.0 == q) (Some row) (find (is_under is_pid q) (less (is_under is_pid pid) rest)))
find_if q pid row rest true = refl
find_if q pid row rest false = refl

apart_by : (key q pid : ℕ) (b : Bool) → (key == q) ≡ b → (q == pid) ≡ false → (key == pid) ≡ true → b ≡ false
apart_by key q pid true e apart here = absurd (let same = ap (λ (n : ℕ). n == pid) (eqb-true key q e) in let both = sym here ∙ same ∙ apart in cc)
apart_by key q pid false e apart here = refl

pub less_other : (q pid : ℕ) (rows : List (ℕ × Leaving)) → (q == pid) ≡ false → first_under is_pid q (less (is_under is_pid pid) rows) ≡ first_under is_pid q rows
less_other q pid [] apart = refl
less_other q pid (row ∷ rest) apart =
    ap step_at (find_if q pid row rest (row.0 == pid))
    ∙ less_by row (find (is_under is_pid q) rest) (find (is_under is_pid q) (less (is_under is_pid pid) rest)) (row.0 == pid) (row.0 == q) (apart_by row.0 q pid (row.0 == q) refl apart) (less_other q pid rest apart)

push_by : (row : ℕ × Leaving) (o p : Option (ℕ × Leaving)) (b : Bool) → step_at p ≡ step_at o → step_at (cond b (Some row) p) ≡ step_at (cond b (Some row) o)
push_by row o p true e = refl
push_by row o p false e = e

pub push_other : (q pid : ℕ) (rows : List (ℕ × Leaving)) (row : Leaving) → (q == pid) ≡ false → first_under is_pid q (rows ++ (pid, row) ∷ []) ≡ first_under is_pid q rows
push_other q pid [] row apart = ap (λ (b : Bool). step_at (cond b (Some (pid, row)) None)) (turned (pid == q) refl)
  where
    turned : (b : Bool) → (pid == q) ≡ b → b ≡ false
    turned true e = absurd (let yes = eq-eqb q pid (sym (eqb-true pid q e)) in let both = sym yes ∙ apart in cc)
    turned false e = refl
push_other q pid (first ∷ rest) row apart = push_by first (find (is_under is_pid q) rest) (find (is_under is_pid q) (rest ++ (pid, row) ∷ [])) (first.0 == q) (push_other q pid rest row apart)

pub push_own : (pid : ℕ) (rows : List (ℕ × Leaving)) (row : Leaving) → list_any (is_under is_pid pid) rows ≡ false → first_under is_pid pid (rows ++ (pid, row) ∷ []) ≡ Some row
push_own pid [] row none = ap (λ (b : Bool). step_at (cond b (Some (pid, row)) None)) (eq-eqb pid pid refl)
push_own pid (first ∷ rest) row none =
    let parts = or_false (first.0 == pid) (list_any (is_under is_pid pid) rest) none in
    ap (λ (b : Bool). step_at (cond b (Some first) (find (is_under is_pid pid) (rest ++ (pid, row) ∷ [])))) parts.0 ∙ push_own pid rest row parts.1

pub none_found : (pid : ℕ) (rows : List (ℕ × Leaving)) → list_any (is_under is_pid pid) rows ≡ false → first_under is_pid pid rows ≡ None
none_found pid [] none = refl
none_found pid (first ∷ rest) none =
    let parts = or_false (first.0 == pid) (list_any (is_under is_pid pid) rest) none in
    ap (λ (b : Bool). step_at (cond b (Some first) (find (is_under is_pid pid) rest))) parts.0 ∙ none_found pid rest parts.1

found_none_by : (first : ℕ × Leaving) (o : Option (ℕ × Leaving)) (b c : Bool) → step_at (cond b (Some first) o) ≡ None → (step_at o ≡ None → c ≡ false) → (b || c) ≡ false
found_none_by first o true c e later = absurd (cc)
found_none_by first o false c e later = later e

pub found_none : (pid : ℕ) (rows : List (ℕ × Leaving)) → first_under is_pid pid rows ≡ None → list_any (is_under is_pid pid) rows ≡ false
found_none pid [] e = refl
found_none pid (first ∷ rest) e = found_none_by first (find (is_under is_pid pid) rest) (first.0 == pid) (list_any (is_under is_pid pid) rest) e (found_none pid rest)

-- Reports

-- no two tell of one process
abbrev pub ToldOnce : List Report → Type 0
ToldOnce [] = Unit {0}
ToldOnce (reports.Moved pid place grant many ∷ rest) = (has_moved pid rest ≡ false) × (ToldOnce rest)
ToldOnce (reports.MasterClosed device ∷ rest) = ToldOnce rest
ToldOnce (reports.AllClosed pid ∷ rest) = ToldOnce rest

-- who is reported leaves, and has no move
pub record Told (leaving : List (ℕ × Leaving)) (rows : List (ℕ × Pending)) (told : List Report) : Type 0 where
  pub once : ToldOnce told
  pub free : (q : ℕ) (work : MoveWork) → move_of q rows ≡ Some work → has_moved q told ≡ false
  pub leads : (q : ℕ) → has_moved q told ≡ true → is_some (first_under is_pid q leaving) ≡ true

-- Streams that have moved

noted_by : (n : StreamNo) (new : MovedStream) (first : Option MovedStream) (rest more : List (Option MovedStream)) (b : Bool) → is_free first ≡ b → (is_moved n more ≡ false → (b ≡ false → (is_moved n rest ≡ false) × (is_stream n new.number ≡ false))) → is_moved n (cond b (Some new ∷ rest) (first ∷ more)) ≡ false → (is_moved n (first ∷ rest) ≡ false) × (is_stream n new.number ≡ false)
noted_by n new None rest more true e later h = let parts = or_false (is_stream n new.number) (is_moved n rest) h in (parts.1, parts.0)
noted_by n new (Some moved) rest more true e later h = absurd (cc)
noted_by n new None rest more false e later h = absurd (cc)
noted_by n new (Some moved) rest more false e later h =
    let parts = or_false (is_stream n moved.number) (is_moved n more) h in
    let after = later parts.1 refl in
    (ap (λ (b : Bool). b || is_moved n rest) parts.0 ∙ after.0, after.1)

room_by : (first : Option MovedStream) (rest : List (Option MovedStream)) → is_free first ≡ false → 1 ≤ room_in (first ∷ rest) → 1 ≤ room_in rest
room_by None rest e h = absurd (cc)
room_by (Some moved) rest e h = omega (arith, h)

-- what hasn't moved where one more has moved had not before, and is another
pub not_noted : (n : StreamNo) (new : MovedStream) (moved : List (Option MovedStream)) → 1 ≤ room_in moved → is_moved n (noted new moved) ≡ false → (is_moved n moved ≡ false) × (is_stream n new.number ≡ false)
not_noted n new [] room h = absurd (omega (arith, room))
not_noted n new (first ∷ rest) room h = noted_by n new first rest (noted new rest) (is_free first) refl (λ later taken. not_noted n new rest (room_by first rest taken room) later) h

lower_known : (moved : List (Option MovedStream)) (least : Option Carried) (first item : Carried) (b : Bool) → is_moved first.number moved ≡ b → (least ≡ Some item → is_moved item.number moved ≡ false) → lower b least first ≡ Some item → is_moved item.number moved ≡ false
lower_known moved least first item true e known h = known h
lower_known moved None first item false e known h = ap (λ (x : Carried). is_moved x.number moved) (sym (some_is first item h)) ∙ e
lower_known moved (Some other) first item false e known h = by_before (is_before first.number other.number) h
  where
    by_before : (b : Bool) → cond b (Some first) (Some other) ≡ Some item → is_moved item.number moved ≡ false
    by_before true f = ap (λ (x : Carried). is_moved x.number moved) (sym (some_is first item f)) ∙ e
    by_before false f = known f

-- the next one hasn't moved
pub next_unmoved : (moved : List (Option MovedStream)) (least : Option Carried) (streams : List Carried) (item : Carried) → (least ≡ Some item → is_moved item.number moved ≡ false) → next_from moved least streams ≡ Some item → is_moved item.number moved ≡ false
next_unmoved moved least [] item known h = known h
next_unmoved moved least (first ∷ rest) item known h = next_unmoved moved (better moved least first) rest item (lower_known moved least first item (is_moved first.number moved) refl known) h
