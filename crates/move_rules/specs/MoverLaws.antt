-- What is kept of the calls and the freezes of processes is told record by record.
use Rattle.std.proofs.Common.{◌≡◌, ◌∙◌, ℕ, ◌+◌, ◌==◌, Bool, true, false, cond, ◌&&◌, ◌||◌, not, List, [], ◌∷◌, ◌++◌, Option, Some, None, refl, sym, ap, ap₂}
use Rattle.std.specs.List.{list_any}
use Rattle.std.specs.Option.{option_map}
use Rattle.std.proofs.lemmas.Bool.{eqb-true}
use Rattle.process_machine.specs.declared.call.Call.{Call}
use Rattle.unix_calls.specs.declared.description.Description.{Description}
use Rattle.unix_calls.specs.declared.event.Event.{Event}
use Rattle.unix_calls.specs.declared.event.Event.TheVariants as event
use Rattle.unix_calls.specs.declared.event.Rec.{Rec}
use Rattle.call_journal.specs.Past.{Past, holds, past_with, since_last, some_record}
use Rattle.call_journal.specs.Calls.{is_move, issued_by, issued_call, or_else}
use Rattle.call_journal.specs.Formed.{issue_number, last_issue}
use Rattle.call_journal.specs.Matching.{has_event, is_entry_at, is_freeze_of, is_issue_of, is_return}
use Rattle.call_journal.specs.Moves as moves
use Rattle.call_journal.proofs.GrowthLaws.{look_backs_grow}
use Rattle.trace_rules.specs.Lists.{any_more, or_turned}
use Rattle.trace_tables.specs.declared.CallAt.{CallAt}
use Rattle.move_rules.specs.declared.movers.Mover.{Mover}
use Rattle.move_rules.specs.declared.movers.Movers.{Movers}
use Rattle.trace_tables.specs.Calls.{has_call}
use Rattle.move_rules.specs.Movers.{MoversOn, TellsMovers, asked_at, asked_behind, frozen_by_itself, is_move_asked, mover_behind, mover_of, moves_itself}
use Rattle.place_rules.specs.PastLaws.{some_more}
use Rattle.trace_laws.specs.SomeLaws.{some_if, some_same}
use Rattle.place_rules.specs.Pasts.{IsWhole}

-- ---- a process's own move

moves_by : (entered frozen : Bool) (o : Option Call) → (not entered && is_move_asked (option_map is_move o) && not frozen) ≡ (holds is_move (cond entered None o) && not frozen)
moves_by true frozen o = refl
moves_by false frozen None = refl
moves_by false frozen (Some call) = refl

pub own_told : (c : Description) (movers : Movers) (past : Past) (pid : ℕ) → TellsMovers c movers past → moves_itself movers pid ≡ moves.is_own_move past pid
own_told c movers past pid tells =
    let number = last_issue pid past.records in
    let kept = (mover_of movers.movers.entries pid).number in
    ap₂ (λ n f. not (has_call movers.entered.keys (record { pid = pid; number = n })) && is_move_asked (asked_at movers.asked.entries (record { pid = pid; number = n })) && not f) (tells.numbers pid) (tells.frozen pid)
    ∙ ap₂ (λ a o. not a && is_move_asked o && not (list_any (has_event (is_freeze_of pid)) (since_last (has_event (is_issue_of pid)) past.records))) (tells.entered (record { pid = pid; number = number })) (tells.asked (record { pid = pid; number = number }))
    ∙ moves_by (list_any (has_event (is_entry_at pid number)) past.records) (list_any (has_event (is_freeze_of pid)) (since_last (has_event (is_issue_of pid)) past.records)) (issued_call pid number past.records)

-- ---- numbers

number_if : (b own : Bool) (n : ℕ) (m : Mover) → (cond b (record { number = n; is_frozen = false; is_evicted = m.is_evicted; stops = m.stops + 1 }) m).number ≡ cond b n m.number
number_if true own n m = refl
number_if false own n m = refl

same_if : (b own : Bool) (m : Mover) → (cond b (record { number = m.number; is_frozen = true; is_evicted = not own; stops = m.stops + 1 }) m).number ≡ m.number
same_if true own m = refl
same_if false own m = refl

number_by : (own : Bool) (e : Event) (pid : ℕ) (m : Mover) → (mover_behind own e pid m).number ≡ issue_number pid e m.number
number_by own (event.Issue p n call) pid m = number_if (p == pid) own n m
number_by own (event.Freeze p) pid m = same_if (p == pid) own m
number_by own _ pid m = refl

-- ---- freezes since the last issue

frozen_issue : (b own : Bool) (n : ℕ) (m : Mover) (xs : List Rec) (r : Rec) (pid : ℕ) → is_freeze_of pid r.event ≡ false → m.is_frozen ≡ list_any (has_event (is_freeze_of pid)) xs → (cond b (record { number = n; is_frozen = false; is_evicted = m.is_evicted; stops = m.stops + 1 }) m).is_frozen ≡ list_any (has_event (is_freeze_of pid)) (cond b [] (xs ++ r ∷ []))
frozen_issue true own n m xs r pid none told = refl
frozen_issue false own n m xs r pid none told =
    told
    ∙ sym (any_more (has_event (is_freeze_of pid)) xs r ∙ ap (λ t. cond t true (list_any (has_event (is_freeze_of pid)) xs)) none)

frozen_freeze : (b own : Bool) (m : Mover) (before : Bool) → m.is_frozen ≡ before → (cond b (record { number = m.number; is_frozen = true; is_evicted = not own; stops = m.stops + 1 }) m).is_frozen ≡ cond b true before
frozen_freeze true own m before told = refl
frozen_freeze false own m before told = told

frozen_by : (own : Bool) (kernel : ℕ) (e : Event) (pid : ℕ) (m : Mover) (xs : List Rec) → m.is_frozen ≡ list_any (has_event (is_freeze_of pid)) xs → (mover_behind own e pid m).is_frozen ≡ list_any (has_event (is_freeze_of pid)) (cond (is_issue_of pid e) [] (xs ++ record { kernel = kernel; event = e } ∷ []))
frozen_by own kernel (event.Issue p n call) pid m xs told = frozen_issue (p == pid) own n m xs (record { kernel = kernel; event = event.Issue p n call }) pid refl told
frozen_by own kernel (event.Freeze p) pid m xs told =
    frozen_freeze (p == pid) own m (list_any (has_event (is_freeze_of pid)) xs) told
    ∙ sym (any_more (has_event (is_freeze_of pid)) xs (record { kernel = kernel; event = event.Freeze p }))
frozen_by own kernel e pid m xs told = told ∙ sym (any_more (has_event (is_freeze_of pid)) xs (record { kernel = kernel; event = e }))

-- ---- evictions

evicted_issue : (b own : Bool) (n : ℕ) (m : Mover) → (cond b (record { number = n; is_frozen = false; is_evicted = m.is_evicted; stops = m.stops + 1 }) m).is_evicted ≡ m.is_evicted
evicted_issue true own n m = refl
evicted_issue false own n m = refl

evicted_freeze : (b own : Bool) (m : Mover) → (cond b (record { number = m.number; is_frozen = true; is_evicted = not own; stops = m.stops + 1 }) m).is_evicted ≡ cond b (not own) m.is_evicted
evicted_freeze true own m = refl
evicted_freeze false own m = refl

-- whether the last freeze was an eviction, one event later
abbrev pub evicted_behind : Bool → ℕ → Event → Bool → Bool
evicted_behind own pid (event.Freeze p) before = cond (p == pid) (not own) before
evicted_behind own pid _ before = before

evicted_by : (own : Bool) (e : Event) (pid : ℕ) (m : Mover) → (mover_behind own e pid m).is_evicted ≡ evicted_behind own pid e m.is_evicted
evicted_by own (event.Issue p n call) pid m = evicted_issue (p == pid) own n m
evicted_by own (event.Freeze p) pid m = evicted_freeze (p == pid) own m
evicted_by own _ pid m = refl

-- no freeze behind, nor there
not_or : (a b d e : Bool) → (a && b && not (d || e)) ≡ ((a && b && not d) && not e)
not_or true true true e = refl
not_or true true false e = refl
not_or true false d e = refl
not_or false b d e = refl

and_true : (b : Bool) → (b && true) ≡ b
and_true true = refl
and_true false = refl

and_false : (b : Bool) → (b && false) ≡ false
and_false true = refl
and_false false = refl

last_on : (past : Past) (pid : ℕ) (r x : Rec) (rest : List Rec) → moves.is_last_eviction past pid x (rest ++ r ∷ []) ≡ (moves.is_last_eviction past pid x rest && not (is_freeze_of pid r.event))
last_on past pid r x rest =
    ap (λ b. has_event (is_freeze_of pid) x && not (moves.is_own_move past pid) && not b) (any_more (has_event (is_freeze_of pid)) rest r ∙ sym (or_turned (list_any (has_event (is_freeze_of pid)) rest) (is_freeze_of pid r.event)))
    ∙ not_or (has_event (is_freeze_of pid) x) (not (moves.is_own_move past pid)) (list_any (has_event (is_freeze_of pid)) rest) (is_freeze_of pid r.event)

last_more : (c : Description) (past : Past) (pid : ℕ) (rec : Rec) → IsWhole c past → some_record c (λ earlier r rest. moves.is_last_eviction earlier pid r rest) (past.records ++ rec ∷ []) ≡ ((some_record c (λ earlier r rest. moves.is_last_eviction earlier pid r rest) past.records && not (is_freeze_of pid rec.event)) || (is_freeze_of pid rec.event && not (moves.is_own_move past pid) && true))
last_more c past pid rec whole =
    some_more c (λ earlier r rest. moves.is_last_eviction earlier pid r rest) past rec whole
    ∙ ap (λ b. b || (is_freeze_of pid rec.event && not (moves.is_own_move past pid) && true))
    (some_same c (λ earlier r rest. moves.is_last_eviction earlier pid r (rest ++ rec ∷ [])) (λ earlier r rest. moves.is_last_eviction earlier pid r rest && not (is_freeze_of pid rec.event)) _ past.records (λ p x rest. last_on p pid rec x rest)
    ∙ some_if c (λ earlier r rest. moves.is_last_eviction earlier pid r rest) (not (is_freeze_of pid rec.event)) _ past.records)

evicted_bools : (b own before : Bool) → cond b (not own) before ≡ ((before && not b) || (b && not own && true))
evicted_bools true true true = refl
evicted_bools true true false = refl
evicted_bools true false true = refl
evicted_bools true false false = refl
evicted_bools false own true = refl
evicted_bools false own false = refl

no_freeze : (own before : Bool) → before ≡ ((before && true) || (false && not own && true))
no_freeze own true = refl
no_freeze own false = refl

-- by what was the own move of the one that is frozen
frozen_own : (movers : Movers) (past : Past) (p pid : ℕ) (b : Bool) → (p == pid) ≡ b → ((q : ℕ) → moves_itself movers q ≡ moves.is_own_move past q) → ((x : Bool) → cond b (not (moves_itself movers p)) x ≡ cond b (not (moves.is_own_move past pid)) x)
frozen_own movers past p pid true is told x =
    let same : p ≡ pid = eqb-true p pid is in
    ap (λ q. not (moves_itself movers q)) same ∙ ap not (told pid)
frozen_own movers past p pid false is told x = refl

evicted_told : (movers : Movers) (past : Past) (e : Event) (pid : ℕ) (before : Bool) → ((q : ℕ) → moves_itself movers q ≡ moves.is_own_move past q) → evicted_behind (frozen_by_itself movers e) pid e before ≡ ((before && not (is_freeze_of pid e)) || (is_freeze_of pid e && not (moves.is_own_move past pid) && true))
evicted_told movers past (event.Freeze p) pid before told =
    frozen_own movers past p pid (p == pid) refl told before
    ∙ evicted_bools (p == pid) (moves.is_own_move past pid) before
evicted_told movers past _ pid before told = no_freeze (moves.is_own_move past pid) before

-- ---- calls

or_assoc : {A : Type 0} (a b d : Option A) → or_else a (or_else b d) ≡ or_else (or_else a b) d
or_assoc (Some x) b d = refl
or_assoc None b d = refl

or_none : {A : Type 0} (a : Option A) → or_else a None ≡ a
or_none (Some x) = refl
or_none None = refl

or_map : (a b : Option Call) → option_map is_move (or_else a b) ≡ or_else (option_map is_move a) (option_map is_move b)
or_map (Some x) b = refl
or_map None b = refl

issued_more : (pid number : ℕ) (rs : List Rec) (r : Rec) → issued_call pid number (rs ++ r ∷ []) ≡ or_else (issued_call pid number rs) (issued_by pid number r.event)
issued_more pid number [] r = or_none (issued_by pid number r.event)
issued_more pid number (x ∷ xs) r =
    ap (or_else (issued_by pid number x.event)) (issued_more pid number xs r)
    ∙ or_assoc (issued_by pid number x.event) (issued_call pid number xs) (issued_by pid number r.event)

asked_if : (b : Bool) (call : Call) (before : Option Bool) → cond b (or_else before (Some (is_move call))) before ≡ or_else before (option_map is_move (cond b (Some call) None))
asked_if true call before = refl
asked_if false call before = sym (or_none before)

asked_on : (e : Event) (at : CallAt) (before : Option Bool) → asked_behind e at before ≡ or_else before (option_map is_move (issued_by at.pid at.number e))
asked_on (event.Issue p n call) at before = asked_if (p == at.pid && n == at.number) call before
asked_on _ at before = sym (or_none before)

-- ---- one record more

pub movers_on : (c : Description) (old new : Movers) (past : Past) (rec : Rec) → IsWhole c past → TellsMovers c old past → MoversOn rec.event old new → TellsMovers c new (past_with c rec past)
movers_on c old new past rec whole tells more = record {
  numbers = λ pid.
      ap (λ (m : Mover). m.number) (more.movers pid)
      ∙ number_by (frozen_by_itself old rec.event) rec.event pid (mover_of old.movers.entries pid)
      ∙ ap (issue_number pid rec.event) (tells.numbers pid)
      ∙ sym (look_backs_grow.issues pid past.records rec);
  frozen = λ pid.
      ap (λ (m : Mover). m.is_frozen) (more.movers pid)
      ∙ frozen_by (frozen_by_itself old rec.event) rec.kernel rec.event pid (mover_of old.movers.entries pid) (since_last (has_event (is_issue_of pid)) past.records) (tells.frozen pid)
      ∙ sym (ap (list_any (has_event (is_freeze_of pid))) (look_backs_grow.sinces (has_event (is_issue_of pid)) past.records rec));
  evicted = λ pid.
      ap (λ (m : Mover). m.is_evicted) (more.movers pid)
      ∙ evicted_by (frozen_by_itself old rec.event) rec.event pid (mover_of old.movers.entries pid)
      ∙ ap (evicted_behind (frozen_by_itself old rec.event) pid rec.event) (tells.evicted pid)
      ∙ evicted_told old past rec.event pid (some_record c (λ earlier r rest. moves.is_last_eviction earlier pid r rest) past.records) (λ q. own_told c old past q tells)
      ∙ sym (last_more c past pid rec whole);
  asked = λ at.
      more.asked at
      ∙ ap (asked_behind rec.event at) (tells.asked at)
      ∙ asked_on rec.event at (option_map is_move (issued_call at.pid at.number past.records))
      ∙ sym (or_map (issued_call at.pid at.number past.records) (issued_by at.pid at.number rec.event))
      ∙ sym (ap (option_map is_move) (issued_more at.pid at.number past.records rec));
  entered = λ at.
      more.entered at
      ∙ ap (λ b. cond (is_entry_at at.pid at.number rec.event) true b) (tells.entered at)
      ∙ sym (any_more (has_event (is_entry_at at.pid at.number)) past.records rec);
  returned = λ at.
      more.returned at
      ∙ ap (λ b. cond (is_return at.pid at.number rec.event) true b) (tells.returned at)
      ∙ sym (any_more (has_event (is_return at.pid at.number)) past.records rec);
}
