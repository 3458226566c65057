-- All processes that leave a kernel by an eviction are marked.
use Rattle.std.proofs.Common.{◌≡◌, ◌∙◌, ℕ, ◌+◌, ◌==◌, Bool, true, false, cond, ◌&&◌, ◌||◌, not, List, [], ◌∷◌, Option, Some, None, refl, sym, ap, ap₂}
use Rattle.std.specs.List.{list_any}
use Rattle.std.specs.Map.{keys_of}
use Rattle.std.proofs.lemmas.Bool.{eq-eqb, eqb-true}
use Rattle.sprite_ids.specs.Pid.{home_of}
use Rattle.process_machine.specs.declared.call.Call.{Call}
use Rattle.unix_calls.specs.declared.description.Description.{Description}
use Rattle.unix_calls.specs.declared.description.EvictLine.{EvictLine}
use Rattle.unix_calls.specs.declared.event.Event.TheVariants as event
use Rattle.unix_calls.specs.declared.event.Rec.{Rec}
use Rattle.trace_tables.specs.declared.CallAt.{CallAt}
use Rattle.move_rules.specs.declared.evictions.DueAt.{DueAt}
use Rattle.move_rules.specs.declared.evictions.Evictions.{Evictions}
use Rattle.move_rules.specs.declared.evictions.Marking.{Marking}
use Rattle.move_rules.specs.declared.movers.Movers.{Movers}
use Rattle.trace_places.specs.declared.places.Place.{Place}
use Rattle.move_rules.specs.Evictions.{DueOn, MarksOn, MarksOne, PutsDue, birth_at, due_at, has_line, is_born_by, is_reached, issues_of, leaves, mark_all, marked_stops, same_due, stops_behind, stops_of}
use Rattle.trace_places.specs.Places.{place_kept}
use Rattle.move_rules.specs.Whereabouts.{is_placed_at}

-- ---- each one is among those that were gone through

turned : (a b : ℕ) (x y : Bool) → (a == b) ≡ x → (b == a) ≡ y → x ≡ y
turned a b true true one other = refl
turned a b false false one other = refl
turned a b true false one other = let same : a ≡ b = eqb-true a b one in let there : (b == a) ≡ true = eq-eqb b a (sym same) in absurd (cc (there, other))
turned a b false true one other = let same : b ≡ a = eqb-true b a other in let there : (a == b) ≡ true = eq-eqb a b (sym same) in absurd (cc (there, one))

-- marked with those before, or by this one
mark_bools : (hit any leaving : Bool) (here : ℕ) (before : Option ℕ) → cond (hit && any && leaving) (Some here) (cond ((hit && true) && leaving) (Some here) before) ≡ cond (hit && (true || any) && leaving) (Some here) before
mark_bools true true true here before = refl
mark_bools true true false here before = refl
mark_bools true false true here before = refl
mark_bools true false false here before = refl
mark_bools false any leaving here before = refl

skip_bools : (hit any leaving other : Bool) (here there : ℕ) (before : Option ℕ) → cond (hit && any && leaving) (Some here) (cond ((hit && false) && other) (Some there) before) ≡ cond (hit && any && leaving) (Some here) before
skip_bools true any leaving other here there before = refl
skip_bools false any leaving other here there before = refl

mark_if : (leaving : ℕ → Bool) (stops : ℕ → ℕ) (hit any b : Bool) (k pid : ℕ) (before : Option ℕ) → (k == pid) ≡ b → cond (hit && any && leaving pid) (Some (stops pid)) (cond ((hit && b) && leaving k) (Some (stops k)) before) ≡ cond (hit && (b || any) && leaving pid) (Some (stops pid)) before
mark_if leaving stops hit any true k pid before is =
    ap (λ p. cond (hit && any && leaving pid) (Some (stops pid)) (cond ((hit && true) && leaving p) (Some (stops p)) before)) (eqb-true k pid is)
    ∙ mark_bools hit any (leaving pid) (stops pid) before
mark_if leaving stops hit any false k pid before is = skip_bools hit any (leaving pid) (leaving k) (stops pid) (stops k) before

none_marked : (hit leaving : Bool) (here : ℕ) (before : Option ℕ) → before ≡ cond (hit && false && leaving) (Some here) before
none_marked true leaving here before = refl
none_marked false leaving here before = refl

nested : (a b d : Bool) → (a && (b && d)) ≡ ((a && b) && d)
nested true b d = refl
nested false b d = refl

marked_by : (leaving : ℕ → Bool) (stops : ℕ → ℕ) (host after : ℕ) (pids : List ℕ) (at : DueAt) (before : Option ℕ) → mark_all leaving stops host after pids at before ≡ cond ((host == at.host && after == at.after) && list_any (λ k. k == at.pid) pids && leaving at.pid) (Some (stops at.pid)) before
marked_by leaving stops host after [] at before = none_marked (host == at.host && after == at.after) (leaving at.pid) (stops at.pid) before
marked_by leaving stops host after (k ∷ ks) at before =
    marked_by leaving stops host after ks at (cond ((host == at.host && (after == at.after && k == at.pid)) && leaving k) (Some (stops k)) before)
    ∙ ap (λ b. cond ((host == at.host && after == at.after) && list_any (λ j. j == at.pid) ks && leaving at.pid) (Some (stops at.pid)) (cond (b && leaving k) (Some (stops k)) before)) (nested (host == at.host) (after == at.after) (k == at.pid))
    ∙ mark_if leaving stops (host == at.host && after == at.after) (list_any (λ j. j == at.pid) ks) (k == at.pid) k at.pid before refl

-- ---- those that leave are kept

kept_if : (b : Bool) (at : Place) (any : Bool) (rest : Option Place) (looks : Option Place → Bool) → (any && looks rest) ≡ looks rest → ((b || any) && looks (cond b (Some at) rest)) ≡ looks (cond b (Some at) rest)
kept_if true at any rest looks more = refl
kept_if false at any rest looks more = more

kept_by : (pid : ℕ) (places : List (ℕ × Place)) (looks : Option Place → Bool) → looks None ≡ false → (list_any (λ k. k == pid) (keys_of places) && looks (place_kept places pid)) ≡ looks (place_kept places pid)
kept_by pid [] looks none = sym none
kept_by pid (e ∷ es) looks none =
    ap (λ b. (b || list_any (λ k. k == pid) (keys_of es)) && looks (cond (pid == e.0) (Some e.1) (place_kept es pid))) (turned e.0 pid (e.0 == pid) (pid == e.0) refl refl)
    ∙ kept_if (pid == e.0) e.1 (list_any (λ k. k == pid) (keys_of es)) (place_kept es pid) looks (kept_by pid es looks none)

-- ---- what becomes due

due_if : (lines : List EvictLine) (n host kernel after : ℕ) (places : List (ℕ × Place)) (births : List (ℕ × CallAt)) (returned : List CallAt) (pid here there : ℕ) (before : Option ℕ) (b d : Bool) → (kernel == host) ≡ b → has_line lines kernel n ≡ true → here ≡ there → cond ((b && d) && leaves places births returned kernel pid) (Some here) before ≡ cond (((b && d) && has_line lines kernel n) && leaves places births returned host pid) (Some there) before
due_if lines n host kernel after places births returned pid here there before false d is has same = refl
due_if lines n host kernel after places births returned pid here there before true false is has same = refl
due_if lines n host kernel after places births returned pid here there before true true is has same =
    ap₂ (λ k t. cond (leaves places births returned k pid) (Some t) before) (eqb-true kernel host is) same
    ∙ ap (λ h. cond (h && leaves places births returned host pid) (Some there) before) (sym has)

or_false : (b : Bool) → b ≡ (b || false)
or_false true = refl
or_false false = refl

pub due_marked : (c : Description) (issues : List (ℕ × ℕ)) (kernel p number : ℕ) (call : Call) (places : List (ℕ × Place)) (births : List (ℕ × CallAt)) (movers : Movers) (at : DueAt) (before : Option ℕ) → has_line c.evicts kernel (issues_of issues kernel + 1) ≡ true → mark_all (leaves places births movers.returned.keys kernel) (marked_stops (record { host = kernel; after = issues_of issues kernel + 1; issuer = p }) movers) kernel (issues_of issues kernel + 1) (keys_of places) at before ≡ cond (is_reached c.evicts issues kernel (event.Issue p number call) at && leaves places births movers.returned.keys at.host at.pid) (Some (stops_behind (event.Issue p number call) at.pid (stops_of movers at.pid))) before
due_marked c issues kernel p number call places births movers at before has =
    marked_by (leaves places births movers.returned.keys kernel) (marked_stops (record { host = kernel; after = issues_of issues kernel + 1; issuer = p }) movers) kernel (issues_of issues kernel + 1) (keys_of places) at before
    ∙ ap (λ b. cond b (Some (marked_stops (record { host = kernel; after = issues_of issues kernel + 1; issuer = p }) movers at.pid)) before)
    (and_three (kernel == at.host && issues_of issues kernel + 1 == at.after) (list_any (λ k. k == at.pid) (keys_of places)) (leaves places births movers.returned.keys kernel at.pid)
    (kept_by at.pid places (λ o. is_placed_at o kernel && not (home_of at.pid == kernel) && is_born_by movers.returned.keys (birth_at births at.pid)) refl))
    ∙ due_if c.evicts (issues_of issues kernel + 1) at.host kernel at.after places births movers.returned.keys at.pid (marked_stops (record { host = kernel; after = issues_of issues kernel + 1; issuer = p }) movers at.pid) (stops_behind (event.Issue p number call) at.pid (stops_of movers at.pid)) before (kernel == at.host) (issues_of issues kernel + 1 == at.after) refl has
    (ap (λ b. cond b (stops_of movers at.pid + 1) (stops_of movers at.pid)) (or_false (p == at.pid)))
  where
    and_three : (hit any leaving : Bool) → (any && leaving) ≡ leaving → (hit && any && leaving) ≡ (hit && leaving)
    and_three true any leaving same = same
    and_three false any leaving same = refl

none_due : (b d e : Bool) → (((b && d) && false) && e) ≡ false
none_due true true e = refl
none_due true false e = refl
none_due false d e = refl

pub none_marked_due : (c : Description) (issues : List (ℕ × ℕ)) (kernel p number : ℕ) (call : Call) (places : List (ℕ × Place)) (births : List (ℕ × CallAt)) (movers : Movers) (at : DueAt) (before : Option ℕ) → has_line c.evicts kernel (issues_of issues kernel + 1) ≡ false → before ≡ cond (is_reached c.evicts issues kernel (event.Issue p number call) at && leaves places births movers.returned.keys at.host at.pid) (Some (stops_behind (event.Issue p number call) at.pid (stops_of movers at.pid))) before
none_marked_due c issues kernel p number call places births movers at before has =
    sym (ap (λ b. cond b (Some (stops_behind (event.Issue p number call) at.pid (stops_of movers at.pid))) before)
    (ap (λ h. ((kernel == at.host && issues_of issues kernel + 1 == at.after) && h) && leaves places births movers.returned.keys at.host at.pid) has
    ∙ none_due (kernel == at.host) (issues_of issues kernel + 1 == at.after) (leaves places births movers.returned.keys at.host at.pid)))

-- ---- what is kept

one_marked : (hit leaving : Bool) (here there : ℕ) (before : Option ℕ) → leaving ≡ true → there ≡ here → cond hit (Some there) before ≡ cond (hit && leaving) (Some here) before
one_marked true true here there before is same = ap (λ (n : ℕ). Some n) same
one_marked true false here there before is same = absurd (cc is)
one_marked false leaving here there before is same = refl

pub marks_one : (marking : Marking) (places : List (ℕ × Place)) (births : List (ℕ × CallAt)) (movers : Movers) (pid stops : ℕ) (before after : List (DueAt × ℕ)) → leaves places births movers.returned.keys marking.host pid ≡ true → stops ≡ marked_stops marking movers pid → PutsDue (record { host = marking.host; after = marking.after; pid = pid }) stops before after → MarksOne marking places births movers pid before after
marks_one marking places births movers pid stops before after leaving is puts at =
    puts at
    ∙ one_marked (same_due (record { host = marking.host; after = marking.after; pid = pid }) at) (leaves places births movers.returned.keys marking.host pid) (marked_stops marking movers pid) stops (due_at before at) leaving is

pub marks_due : (c : Description) (old : Evictions) (places : List (ℕ × Place)) (movers : Movers) (rec : Rec) (p number next : ℕ) (call : Call) (before after : List (DueAt × ℕ)) → rec.event ≡ event.Issue p number call → next ≡ issues_of old.issues.entries rec.kernel + 1 → has_line c.evicts rec.kernel next ≡ true → MarksOn (record { host = rec.kernel; after = next; issuer = p }) places old.births.entries movers before after → DueOn c old places movers rec before after
marks_due c old places movers rec p number next call before after is count has marks at =
    marks at
    ∙ ap (λ n. mark_all (leaves places old.births.entries movers.returned.keys rec.kernel) (marked_stops (record { host = rec.kernel; after = n; issuer = p }) movers) rec.kernel n (keys_of places) at (due_at before at)) count
    ∙ due_marked c old.issues.entries rec.kernel p number call places old.births.entries movers at (due_at before at) (ap (has_line c.evicts rec.kernel) (sym count) ∙ has)
    ∙ ap (λ e. cond (is_reached c.evicts old.issues.entries rec.kernel e at && leaves places old.births.entries movers.returned.keys at.host at.pid) (Some (stops_behind e at.pid (stops_of movers at.pid))) (due_at before at)) (sym is)
