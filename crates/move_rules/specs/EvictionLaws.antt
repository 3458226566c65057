-- Evictions are told record by record.
use Rattle.std.proofs.Common.{◌≡◌, ◌∙◌, ℕ, ◌+◌, ◌==◌, Bool, true, false, cond, ◌&&◌, ◌||◌, not, List, [], ◌∷◌, ◌++◌, Option, Some, None, fold, refl, sym, ap, ap₂, subst, arith}
use Rattle.std.specs.Prelude.{count_by, nat_lt}
use Rattle.std.specs.List.{list_any}
use Rattle.std.specs.Option.{is_some, option_map}
use Rattle.std.proofs.lemmas.Bool.{eq-eqb, eqb-true, ne_eqb}
use Rattle.std.proofs.lemmas.List.Sums.{fold-append}
use Rattle.sprite_ids.specs.Pid.{home_of}
use Rattle.unix_calls.specs.declared.description.Description.{Description}
use Rattle.unix_calls.specs.declared.description.EvictLine.{EvictLine}
use Rattle.unix_calls.specs.declared.event.Event.{Event}
use Rattle.unix_calls.specs.declared.event.Event.TheVariants as event
use Rattle.unix_calls.specs.declared.event.Rec.{Rec}
use Rattle.call_journal.specs.Past.{Past, holds, child_of_entry, count_from, count_records, past_from, past_with, past_of, no_past, some_record, whereabouts_of}
use Rattle.call_journal.specs.Calls.{or_else}
use Rattle.call_journal.specs.Matching.{has_event, is_any_issue, is_at, is_freeze_of, is_issue_of, is_return}
use Rattle.call_journal.specs.Moves as moves
use Rattle.call_journal.specs.Moves.{Birth}
use Rattle.trace_rules.specs.Lists.{any_more, or_turned}
use Rattle.trace_tables.specs.declared.CallAt.{CallAt}
use Rattle.move_rules.specs.declared.evictions.DueAt.{DueAt}
use Rattle.move_rules.specs.declared.evictions.Evictions.{Evictions}
use Rattle.move_rules.specs.declared.evictions.UsedAt.{UsedAt}
use Rattle.move_rules.specs.declared.movers.Mover.{Mover}
use Rattle.move_rules.specs.declared.movers.Movers.{Movers}
use Rattle.trace_places.specs.declared.places.Place.{Place}
use Rattle.trace_tables.specs.Calls.{has_call}
use Rattle.move_rules.specs.Evictions.{EvictionsOn, LeftAs, TellsEvictions, as_birth, birth_at, birth_in, due_at, due_in, has_line, is_born_by, is_left_by, is_left_in, is_reached, is_use, issues_of, leaves, stops_behind, stops_of, uses_of}
use Rattle.move_rules.specs.Movers.{MoversOn, TellsMovers, frozen_by_itself, mover_behind, mover_of, moves_itself}
use Rattle.move_rules.specs.MoverLaws.{own_told}
use Rattle.place_rules.specs.PastLaws.{some_more}
use Rattle.trace_laws.specs.SomeLaws.{some_if, some_same}
use Rattle.place_rules.specs.Pasts.{IsWhole}
use Rattle.trace_places.specs.Places.{TellsPlaces}
use Rattle.move_rules.specs.Whereabouts.{is_placed_at}
use Rattle.move_rules.specs.WhereLaws.{placed_told}

-- ---- counts

one_more : (n : ℕ) (b : Bool) → n + cond b 1 0 ≡ cond b (n + 1) n
one_more n true = refl
one_more n false = omega arith

count_more : {A : Type 0} (p : A → Bool) (xs : List A) (x : A) → count_by p (xs ++ x ∷ []) ≡ cond (p x) (count_by p xs + 1) (count_by p xs)
count_more p xs x = fold-append (λ a y. a + cond (p y) 1 0) 0 xs (x ∷ []) ∙ one_more (count_by p xs) (p x)

issues_on : (kernel : ℕ) (rec : Rec) (before after : ℕ) (rs : List Rec) → before ≡ moves.issues_at kernel rs → after ≡ cond (is_at kernel is_any_issue rec) (before + 1) before → after ≡ moves.issues_at kernel (rs ++ rec ∷ [])
issues_on kernel rec before after rs told more =
    more
    ∙ ap (λ n. cond (is_at kernel is_any_issue rec) (n + 1) n) told
    ∙ sym (count_more (is_at kernel is_any_issue) rs rec)

plus_assoc : (a b d : ℕ) → a + (b + d) ≡ (a + b) + d
plus_assoc a b d = omega arith

count_on : (c : Description) (test : Past → Rec → Bool) (past : Past) (rs : List Rec) (r : Rec) → count_from c (λ p x rest. test p x) past (rs ++ r ∷ []) ≡ count_from c (λ p x rest. test p x) past rs + (cond (test (past_from c past rs) r) 1 0 + 0)
count_on c test past [] r = omega arith
count_on c test past (x ∷ xs) r =
    ap (λ n. cond (test past x) 1 0 + n) (count_on c test (past_with c x past) xs r)
    ∙ plus_assoc (cond (test past x) 1 0) (count_from c (λ p y rest. test p y) (past_with c x past) xs) (cond (test (past_from c past (x ∷ xs)) r) 1 0 + 0)

last_count : (n : ℕ) (b : Bool) → n + (cond b 1 0 + 0) ≡ cond b (n + 1) n
last_count n true = refl
last_count n false = omega arith

counted_more : (c : Description) (test : Past → Rec → Bool) (past : Past) (rec : Rec) → IsWhole c past → count_records c (λ p x rest. test p x) (past.records ++ rec ∷ []) ≡ cond (test past rec) (count_records c (λ p x rest. test p x) past.records + 1) (count_records c (λ p x rest. test p x) past.records)
counted_more c test past rec whole =
    count_on c test (no_past c) past.records rec
    ∙ last_count (count_records c (λ p x rest. test p x) past.records) (test (past_of c past.records) rec)
    ∙ ap (λ p. cond (test p rec) (count_records c (λ q x rest. test q x) past.records + 1) (count_records c (λ q x rest. test q x) past.records)) (sym whole)

-- ---- evictions that were used

use_if : (p pid kernel at : ℕ) (movers : Movers) (past : Past) (b : Bool) → (p == pid) ≡ b → ((q : ℕ) → moves_itself movers q ≡ moves.is_own_move past q) → (b && kernel == at && not (moves_itself movers p)) ≡ ((kernel == at && b) && not (moves.is_own_move past pid))
use_if p pid kernel at movers past false is told = sym (none (kernel == at) (not (moves.is_own_move past pid)))
  where
    none : (b d : Bool) → ((b && false) && d) ≡ false
    none true d = refl
    none false d = refl
use_if p pid kernel at movers past true is told =
    ap (λ q. kernel == at && not (moves_itself movers q)) (eqb-true p pid is)
    ∙ ap (λ b. kernel == at && not b) (told pid)
    ∙ ap (λ b. b && not (moves.is_own_move past pid)) (sym (both (kernel == at)))
  where
    both : (b : Bool) → (b && true) ≡ b
    both true = refl
    both false = refl

no_use : (b d : Bool) → false ≡ ((b && false) && d)
no_use true d = refl
no_use false d = refl

use_told : (movers : Movers) (past : Past) (kernel : ℕ) (e : Event) (at : UsedAt) → ((q : ℕ) → moves_itself movers q ≡ moves.is_own_move past q) → is_use movers kernel e at ≡ moves.is_eviction past at.pid at.kernel (record { kernel = kernel; event = e })
use_told movers past kernel (event.Freeze p) at told = use_if p at.pid kernel at.kernel movers past (p == at.pid) refl told
use_told movers past kernel e at told = no_use (kernel == at.kernel) (not (moves.is_own_move past at.pid))

-- ---- births

or_assoc : (a b d : Option Birth) → or_else a (or_else b d) ≡ or_else (or_else a b) d
or_assoc (Some x) b d = refl
or_assoc None b d = refl

or_none : (a : Option Birth) → or_else a None ≡ a
or_none (Some x) = refl
or_none None = refl

birth_more : (pid : ℕ) (rs : List Rec) (r : Rec) → moves.birth_of pid (rs ++ r ∷ []) ≡ or_else (moves.birth_of pid rs) (moves.birth_by pid r.event)
birth_more pid [] r = or_none (moves.birth_by pid r.event)
birth_more pid (x ∷ xs) r =
    ap (or_else (moves.birth_by pid x.event)) (birth_more pid xs r)
    ∙ or_assoc (moves.birth_by pid x.event) (moves.birth_of pid xs) (moves.birth_by pid r.event)

birth_map : (a b : Option CallAt) → option_map as_birth (or_else a b) ≡ or_else (option_map as_birth a) (option_map as_birth b)
birth_map (Some x) b = refl
birth_map None b = refl

birth_if : (b : Bool) (at : CallAt) → option_map as_birth (cond b (Some at) None) ≡ cond b (Some (as_birth at)) None
birth_if true at = refl
birth_if false at = refl

birth_told : (e : Event) (pid : ℕ) → option_map as_birth (birth_in e pid) ≡ moves.birth_by pid e
birth_told (event.Enter entry) pid = birth_if (holds (λ child. child == pid) (child_of_entry entry)) (record { pid = entry.pid; number = entry.number })
birth_told _ pid = refl

born_by : (returned : List CallAt) (rs : List Rec) (o : Option CallAt) → ((at : CallAt) → has_call returned at ≡ list_any (has_event (is_return at.pid at.number)) rs) → is_born_by returned o ≡ moves.is_born (option_map as_birth o) rs
born_by returned rs None told = refl
born_by returned rs (Some at) told = told at

-- ---- a process that leaves

leaves_told : (c : Description) (movers : Movers) (evictions : Evictions) (places : List (ℕ × Place)) (past : Past) (host pid : ℕ) → TellsPlaces places past.processes → TellsMovers c movers past → TellsEvictions c movers evictions past → leaves places evictions.births.entries movers.returned.keys host pid ≡ (moves.is_placed past pid host && not (home_of pid == host) && moves.is_born (moves.birth_of pid past.records) past.records)
leaves_told c movers evictions places past host pid where_is tells evicts =
    ap₂ (λ a b. a && not (home_of pid == host) && b)
    (ap (λ o. is_placed_at o host) (where_is pid) ∙ placed_told (whereabouts_of past.processes pid) host)
    (born_by movers.returned.keys past.records (birth_at evictions.births.entries pid) tells.returned ∙ ap (λ o. moves.is_born o past.records) (evicts.births pid))

and_four : (r p h b : Bool) → (r && ((p && h) && b)) ≡ (((r && p) && h) && b)
and_four true p h b = refl
and_four false p h b = refl

line_if : (lines : List EvictLine) (host n after : ℕ) (d : Bool) → (n == after) ≡ d → has_line lines host after ≡ true → (d && has_line lines host n) ≡ d
line_if lines host n after true is there = ap (has_line lines host) (eqb-true n after is) ∙ there
line_if lines host n after false is there = refl

true_too : (b d : Bool) → (b && d) ≡ ((b && true) && d)
true_too true d = refl
true_too false d = refl

reached_if : (lines : List EvictLine) (issues : List (ℕ × ℕ)) (kernel host after : ℕ) (rs : List Rec) (b : Bool) → (kernel == host) ≡ b → ((k : ℕ) → issues_of issues k ≡ moves.issues_at k rs) → has_line lines host after ≡ true → ((b && issues_of issues kernel + 1 == after) && has_line lines kernel (issues_of issues kernel + 1)) ≡ ((b && true) && moves.issues_at host rs + 1 == after)
reached_if lines issues kernel host after rs false is told there = refl
reached_if lines issues kernel host after rs true is told there =
    ap (λ k. (issues_of issues k + 1 == after) && has_line lines k (issues_of issues k + 1)) (eqb-true kernel host is)
    ∙ line_if lines host (issues_of issues host + 1) after (issues_of issues host + 1 == after) refl there
    ∙ ap (λ n. n + 1 == after) (told host)

none_due : (a b d e f : Bool) → false ≡ (((((a && false) && b) && d) && e) && f)
none_due true b d e f = refl
none_due false b d e f = refl

due_told : (c : Description) (movers : Movers) (evictions : Evictions) (places : List (ℕ × Place)) (past : Past) (kernel : ℕ) (e : Event) (line : EvictLine) (pid : ℕ) → TellsPlaces places past.processes → TellsMovers c movers past → TellsEvictions c movers evictions past → has_line c.evicts line.host line.after ≡ true → (is_reached c.evicts evictions.issues.entries kernel e (record { host = line.host; after = line.after; pid = pid }) && leaves places evictions.births.entries movers.returned.keys line.host pid) ≡ moves.is_due_at line past pid (record { kernel = kernel; event = e })
due_told c movers evictions places past kernel (event.Issue p n call) line pid where_is tells evicts there =
    ap₂ (λ a b. a && b)
    (reached_if c.evicts evictions.issues.entries kernel line.host line.after past.records (kernel == line.host) refl evicts.issues there)
    (leaves_told c movers evictions places past line.host pid where_is tells evicts)
    ∙ and_four ((kernel == line.host && true) && moves.issues_at line.host past.records + 1 == line.after) (moves.is_placed past pid line.host) (not (home_of pid == line.host)) (moves.is_born (moves.birth_of pid past.records) past.records)
due_told c movers evictions places past kernel e line pid where_is tells evicts there =
    none_due (kernel == line.host) (moves.issues_at line.host past.records + 1 == line.after) (moves.is_placed past pid line.host) (not (home_of pid == line.host)) (moves.is_born (moves.birth_of pid past.records) past.records)

-- ---- stops

stops_if : (b : Bool) (m other : Mover) → other.stops ≡ m.stops + 1 → (cond b other m).stops ≡ cond b (m.stops + 1) m.stops
stops_if true m other is = is
stops_if false m other is = refl

or_false : (b : Bool) → (b || false) ≡ b
or_false true = refl
or_false false = refl

stops_by : (own : Bool) (e : Event) (pid : ℕ) (m : Mover) → (mover_behind own e pid m).stops ≡ stops_behind e pid m.stops
stops_by own (event.Issue p n call) pid m =
    stops_if (p == pid) m (record { number = n; is_frozen = false; is_evicted = m.is_evicted; stops = m.stops + 1 }) refl
    ∙ ap (λ b. cond b (m.stops + 1) m.stops) (sym (or_false (p == pid)))
stops_by own (event.Freeze p) pid m = stops_if (p == pid) m (record { number = m.number; is_frozen = true; is_evicted = not own; stops = m.stops + 1 }) refl
stops_by own _ pid m = refl

-- ---- an eviction that is left

left_bools : (d a i f g : Bool) → ((d && not (a || i)) && not (f || g)) ≡ (((d && not a) && not f) && not (i || g))
left_bools true true i f g = refl
left_bools true false true true g = refl
left_bools true false true false g = refl
left_bools true false false true g = refl
left_bools true false false false g = refl
left_bools false a i f g = refl

any_on : (p : Event → Bool) (rs : List Rec) (r : Rec) → list_any (has_event p) (rs ++ r ∷ []) ≡ (list_any (has_event p) rs || p r.event)
any_on p rs r = any_more (has_event p) rs r ∙ sym (or_turned (list_any (has_event p) rs) (p r.event))

left_more : (line : EvictLine) (past : Past) (pid : ℕ) (r x : Rec) (rest : List Rec) → moves.is_left line past pid x (rest ++ r ∷ []) ≡ (moves.is_left line past pid x rest && not (is_issue_of pid r.event || is_freeze_of pid r.event))
left_more line past pid r x rest =
    ap₂ (λ a f. (moves.is_due_at line past pid x && not a) && not f) (any_on (is_issue_of pid) rest r) (any_on (is_freeze_of pid) rest r)
    ∙ left_bools (moves.is_due_at line past pid x) (list_any (has_event (is_issue_of pid)) rest) (is_issue_of pid r.event) (list_any (has_event (is_freeze_of pid)) rest) (is_freeze_of pid r.event)

left_record : (c : Description) (line : EvictLine) (past : Past) (pid : ℕ) (rec : Rec) → IsWhole c past → some_record c (λ earlier r rest. moves.is_left line earlier pid r rest) (past.records ++ rec ∷ []) ≡ ((some_record c (λ earlier r rest. moves.is_left line earlier pid r rest) past.records && not (is_issue_of pid rec.event || is_freeze_of pid rec.event)) || ((moves.is_due_at line past pid rec && true) && true))
left_record c line past pid rec whole =
    some_more c (λ earlier r rest. moves.is_left line earlier pid r rest) past rec whole
    ∙ ap (λ b. b || ((moves.is_due_at line past pid rec && true) && true))
    (some_same c (λ earlier r rest. moves.is_left line earlier pid r (rest ++ rec ∷ [])) (λ earlier r rest. moves.is_left line earlier pid r rest && not (is_issue_of pid rec.event || is_freeze_of pid rec.event)) _ past.records (λ p x rest. left_more line p pid rec x rest)
    ∙ some_if c (λ earlier r rest. moves.is_left line earlier pid r rest) (not (is_issue_of pid rec.event || is_freeze_of pid rec.event)) _ past.records)

abbrev value_or : Option ℕ → ℕ
value_or None = 0
value_or (Some n) = n

left_step : (left due stop : Bool) (kept : Option ℕ) (stops : ℕ) → LeftAs left kept stops → LeftAs ((left && not stop) || ((due && true) && true)) (cond due (Some (cond stop (stops + 1) stops)) kept) (cond stop (stops + 1) stops)
left_step true true true kept stops told = refl
left_step true true false kept stops told = refl
left_step false true stop kept stops told = refl
left_step true false true kept stops told = λ at is. let same : at ≡ stops = ap value_or (sym is ∙ told) in omega (arith, same)
left_step true false false kept stops told = told
left_step false false true kept stops told = λ at is. let short = told at is in omega (arith, short)
left_step false false false kept stops told = told

-- ---- one record more

some_cond : (b : Bool) (n : ℕ) (o : Option ℕ) → is_some (cond b (Some n) o) ≡ cond b true (is_some o)
some_cond true n o = refl
some_cond false n o = refl

pub evictions_on : (c : Description) (movers later : Movers) (old new : Evictions) (places : List (ℕ × Place)) (past : Past) (rec : Rec) → IsWhole c past → TellsPlaces places past.processes → TellsMovers c movers past → TellsEvictions c movers old past → MoversOn rec.event movers later → EvictionsOn c places movers rec old new → TellsEvictions c later new (past_with c rec past)
evictions_on c movers later old new places past rec whole where_is tells evicts moved more = record {
  issues = λ kernel. issues_on kernel rec (issues_of old.issues.entries kernel) (issues_of new.issues.entries kernel) past.records (evicts.issues kernel) (more.issues kernel);
  uses = λ at.
      more.uses at
      ∙ ap₂ (λ b n. cond b (n + 1) n) (use_told movers past rec.kernel rec.event at (λ q. own_told c movers past q tells)) (evicts.uses at)
      ∙ sym (counted_more c (λ p x. moves.is_eviction p at.pid at.kernel x) past rec whole);
  births = λ pid.
      ap (option_map as_birth) (more.births pid)
      ∙ birth_map (birth_at old.births.entries pid) (birth_in rec.event pid)
      ∙ ap₂ or_else (evicts.births pid) (birth_told rec.event pid)
      ∙ sym (birth_more pid past.records rec);
  due = λ line pid there.
      ap is_some (more.due (record { host = line.host; after = line.after; pid = pid }))
      ∙ some_cond (is_reached c.evicts old.issues.entries rec.kernel rec.event (record { host = line.host; after = line.after; pid = pid }) && leaves places old.births.entries movers.returned.keys line.host pid) (stops_behind rec.event pid (stops_of movers pid)) (due_at old.due.entries (record { host = line.host; after = line.after; pid = pid }))
      ∙ ap₂ (λ a b. cond a true b) (due_told c movers old places past rec.kernel rec.event line pid where_is tells evicts there) (evicts.due line pid there)
      ∙ sym (or_turned (some_record c (λ earlier r rest. moves.is_due_at line earlier pid r) past.records) (moves.is_due_at line past pid rec))
      ∙ sym (some_more c (λ earlier r rest. moves.is_due_at line earlier pid r) past rec whole);
  left = λ line pid there.
      let at : DueAt = record { host = line.host; after = line.after; pid = pid } in
      let stop = is_issue_of pid rec.event || is_freeze_of pid rec.event in
      let kept : due_at new.due.entries at ≡ cond (moves.is_due_at line past pid rec) (Some (cond stop (stops_of movers pid + 1) (stops_of movers pid))) (due_at old.due.entries at) =
      more.due at ∙ ap (λ b. cond b (Some (stops_behind rec.event pid (stops_of movers pid))) (due_at old.due.entries at)) (due_told c movers old places past rec.kernel rec.event line pid where_is tells evicts there) in
      let stopped : stops_of later pid ≡ cond stop (stops_of movers pid + 1) (stops_of movers pid) =
      ap (λ (m : Mover). m.stops) (moved.movers pid) ∙ stops_by (frozen_by_itself movers rec.event) rec.event pid (mover_of movers.movers.entries pid) in
      let step = left_step (some_record c (λ earlier r rest. moves.is_left line earlier pid r rest) past.records) (moves.is_due_at line past pid rec) stop (due_at old.due.entries at) (stops_of movers pid) (evicts.left line pid there) in
      subst (λ b. LeftAs b (due_at new.due.entries at) (stops_of later pid)) (sym (left_record c line past pid rec whole))
      (subst (λ o. LeftAs ((some_record c (λ earlier r rest. moves.is_left line earlier pid r rest) past.records && not stop) || ((moves.is_due_at line past pid rec && true) && true)) o (stops_of later pid)) (sym kept)
      (subst (λ n. LeftAs ((some_record c (λ earlier r rest. moves.is_left line earlier pid r rest) past.records && not stop) || ((moves.is_due_at line past pid rec && true) && true)) (cond (moves.is_due_at line past pid rec) (Some (cond stop (stops_of movers pid + 1) (stops_of movers pid))) (due_at old.due.entries at)) n) (sym stopped) step));
}

-- ---- judging

abbrev pub Among : List EvictLine → List EvictLine → Type 0
Among all [] = Unit {0}
Among all (x ∷ xs) = (has_line all x.host x.after ≡ true) × Among all xs

or_true : (b d : Bool) → d ≡ true → (b || d) ≡ true
or_true true d is = refl
or_true false d is = is

among_more : (all : List EvictLine) (y : EvictLine) (xs : List EvictLine) → Among all xs → Among (y ∷ all) xs
among_more all y [] there = tt
among_more all y (x ∷ xs) there =
    (or_true (y.host == x.host && y.after == x.after) (has_line all x.host x.after) there.0, among_more all y xs there.1)

itself : (host after : ℕ) (rest : Bool) → ((host == host && after == after) || rest) ≡ true
itself host after rest =
    ap₂ (λ a b. (a && b) || rest) (eq-eqb host host refl) (eq-eqb after after refl)

among_all : (xs : List EvictLine) → Among xs xs
among_all [] = tt
among_all (x ∷ xs) = (itself x.host x.after (has_line xs x.host x.after), among_more xs x xs (among_all xs))

any_among : (all xs : List EvictLine) (f g : EvictLine → Bool) → Among all xs → ((line : EvictLine) → has_line all line.host line.after ≡ true → f line ≡ g line) → list_any f xs ≡ list_any g xs
any_among all [] f g there same = refl
any_among all (x ∷ xs) f g there same = ap₂ (λ a b. a || b) (same x there.0) (any_among all xs f g there.1 same)

count_among : (all xs : List EvictLine) (f g : EvictLine → Bool) (n : ℕ) → Among all xs → ((line : EvictLine) → has_line all line.host line.after ≡ true → f line ≡ g line) → fold (λ a x. a + cond (f x) 1 0) n xs ≡ fold (λ a x. a + cond (g x) 1 0) n xs
count_among all [] f g n there same = refl
count_among all (x ∷ xs) f g n there same =
    ap (λ b. fold (λ a y. a + cond (f y) 1 0) (n + cond b 1 0) xs) (same x there.0)
    ∙ count_among all xs f g (n + cond (g x) 1 0) there.1 same

left_bool : (b : Bool) (kept : Option ℕ) (stops : ℕ) → LeftAs b kept stops → is_left_by kept stops ≡ b
left_bool true kept stops told = ap (λ o. is_left_by o stops) told ∙ eq-eqb stops stops refl
left_bool false None stops told = refl
left_bool false (Some at) stops told = let short = told at refl in ne_eqb at stops (λ same. omega (arith, same, short))

pub overdue_told : (c : Description) (movers : Movers) (evictions : Evictions) (past : Past) (pid kernel : ℕ) → TellsEvictions c movers evictions past → list_any (is_left_in evictions.due.entries (stops_of movers pid) pid kernel) c.evicts ≡ list_any (moves.is_overdue c past pid kernel) c.evicts
overdue_told c movers evictions past pid kernel evicts =
    any_among c.evicts c.evicts (is_left_in evictions.due.entries (stops_of movers pid) pid kernel) (moves.is_overdue c past pid kernel) (among_all c.evicts)
    (λ line there. ap (λ b. line.host == kernel && b) (left_bool (some_record c (λ earlier r rest. moves.is_left line earlier pid r rest) past.records) (due_at evictions.due.entries (record { host = line.host; after = line.after; pid = pid })) (stops_of movers pid) (evicts.left line pid there)))

pub unused_told : (c : Description) (movers : Movers) (evictions : Evictions) (past : Past) (pid kernel : ℕ) → TellsEvictions c movers evictions past → nat_lt (uses_of evictions.used.entries (record { pid = pid; kernel = kernel })) (count_by (due_in evictions.due.entries pid kernel) c.evicts) ≡ nat_lt (moves.used_evictions c past.records pid kernel) (moves.due_evictions c past.records pid kernel)
unused_told c movers evictions past pid kernel evicts =
    ap₂ nat_lt (evicts.uses (record { pid = pid; kernel = kernel }))
    (count_among c.evicts c.evicts (due_in evictions.due.entries pid kernel) (moves.is_line_due c past.records pid kernel) 0 (among_all c.evicts)
    (λ line there. ap (λ b. line.host == kernel && b) (evicts.due line pid there)))
