-- Where calls are to return whose moves were entered on the way is told record by record.
use Rattle.std.proofs.Common.{◌≡◌, ◌∙◌, ℕ, ◌+◌, ◌≤◌, ◌==◌, Bool, true, false, cond, ◌&&◌, ◌||◌, not, List, [], ◌∷◌, ◌++◌, Option, Some, None, refl, sym, ap, ap₂, subst, arith}
use Rattle.std.specs.List.{list_any}
use Rattle.std.specs.Option.{option_map}
use Rattle.std.proofs.lemmas.Bool.{and_parts, eq-eqb, eqb-true, ne_eqb}
use Rattle.unix_calls.specs.declared.description.Description.{Description}
use Rattle.unix_calls.specs.declared.entry.Entry.{Entry}
use Rattle.unix_calls.specs.declared.event.Event.{Event}
use Rattle.unix_calls.specs.declared.event.Event.TheVariants as event
use Rattle.unix_calls.specs.declared.event.Rec.{Rec}
use Rattle.call_journal.specs.Past.{Past, is_moving, past_with, some_record, whereabouts_of}
use Rattle.call_journal.specs.Calls.{move_target}
use Rattle.call_journal.specs.Matching.{is_at, is_thaw_of}
use Rattle.call_journal.specs.Moves.{arrives_at, kernel_named, target_on_way}
use Rattle.trace_rules.specs.Lists.{any_more, or_turned}
use Rattle.move_rules.specs.declared.arrivals.Arrival.{Arrival}
use Rattle.move_rules.specs.declared.arrivals.Arrivals.{Arrivals}
use Rattle.move_rules.specs.declared.arrivals.ThawAt.{ThawAt}
use Rattle.trace_tables.specs.declared.CallAt.{CallAt}
use Rattle.trace_places.specs.declared.places.Place.{Place}
use Rattle.move_rules.specs.Arrivals.{ArrivalsOn, Counted, DuesOn, TellsArrivals, arrival_at, arrival_behind, arrival_on, due_behind, is_astray, is_elsewhere, is_thaw, strays, thaws_of, was_split, way_target}
use Rattle.place_rules.specs.PastLaws.{some_more}
use Rattle.trace_laws.specs.SomeLaws.{some_same}
use Rattle.place_rules.specs.Pasts.{IsWhole}
use Rattle.trace_places.specs.Places.{TellsPlaces, place_kept, is_on_its_way}
use Rattle.move_rules.specs.WhereLaws.{moving_told}

-- ---- what an event does to a call

and_false : (b : Bool) → (b && false) ≡ false
and_false true = refl
and_false false = refl

-- nothing, or a move to the kernel of a name is entered on the way, which is no thaw
data WayStep (c : Description) (at : CallAt) (rec : Rec) (thaws : ℕ → ℕ) (before after : Option Arrival) (target : Option (List ℕ)) : Type 0 where
  Stays : after ≡ before → target ≡ None → WayStep c at rec thaws before after target
  Goes : (name : List ℕ) → after ≡ Some (arrival_behind (kernel_named c name) (thaws (kernel_named c name)) before) → target ≡ Some name → ((kernel : ℕ) → is_at kernel (is_thaw_of at.pid) rec ≡ false) → WayStep c at rec thaws before after target

no_due : (way : Option ℕ) (thaws : ℕ → ℕ) (before : Option Arrival) → due_behind way false thaws before ≡ before
no_due None thaws before = refl
no_due (Some target) thaws before = refl

way_by : (c : Description) (at : CallAt) (rec : Rec) (named own : ℕ → ℕ) (before : Option Arrival) (t : Option (List ℕ)) (same m moving : Bool) → (same ≡ true → m ≡ moving) → (same ≡ true → (k : ℕ) → named k ≡ own k) → ((kernel : ℕ) → is_at kernel (is_thaw_of at.pid) rec ≡ false) → WayStep c at rec own before (due_behind (cond m (option_map (kernel_named c) t) None) same named before) (cond (same && moving) t None)
way_by c at rec named own before t false m moving is counts none = Stays (no_due (cond m (option_map (kernel_named c) t) None) named before) refl
way_by c at rec named own before None true m false is counts none = Stays (ap (λ b. due_behind (cond b None None) true named before) (is refl)) refl
way_by c at rec named own before (Some name) true m false is counts none = Stays (ap (λ b. due_behind (cond b (Some (kernel_named c name)) None) true named before) (is refl)) refl
way_by c at rec named own before None true m true is counts none = Stays (ap (λ b. due_behind (cond b None None) true named before) (is refl)) refl
way_by c at rec named own before (Some name) true m true is counts none =
    Goes name
    (ap (λ b. due_behind (cond b (Some (kernel_named c name)) None) true named before) (is refl)
    ∙ ap (λ n. Some (arrival_behind (kernel_named c name) n before)) (counts refl (kernel_named c name)))
    refl none

-- by where the process is
way_step : (c : Description) (places : List (ℕ × Place)) (past : Past) (kernel : ℕ) (e : Event) (thaws : List (ThawAt × ℕ)) (at : CallAt) (before : Option Arrival) → TellsPlaces places past.processes → WayStep c at (record { kernel = kernel; event = e }) (λ k. thaws_of thaws (record { pid = at.pid; kernel = k })) before (arrival_on c places e thaws at before) (target_on_way past at.pid at.number e)
way_step c places past kernel (event.Enter entry) thaws at before where_is =
    way_by c at (record { kernel = kernel; event = event.Enter entry }) (λ k. thaws_of thaws (record { pid = entry.pid; kernel = k })) (λ k. thaws_of thaws (record { pid = at.pid; kernel = k })) before (move_target entry.call entry.reply) (entry.pid == at.pid && entry.number == at.number) (is_on_its_way (place_kept places entry.pid)) (is_moving past at.pid)
    (λ same. ap (λ p. is_on_its_way (place_kept places p)) (eqb-true entry.pid at.pid (and_parts (entry.pid == at.pid) (entry.number == at.number) same).0) ∙ ap is_on_its_way (where_is at.pid) ∙ moving_told (whereabouts_of past.processes at.pid))
    (λ same k. ap (λ p. thaws_of thaws (record { pid = p; kernel = k })) (eqb-true entry.pid at.pid (and_parts (entry.pid == at.pid) (entry.number == at.number) same).0))
    (λ k. and_false (kernel == k))
way_step c places past kernel (event.Burst pid count) thaws at before where_is = Stays refl refl
way_step c places past kernel _ thaws at before where_is = Stays refl refl

-- ---- moves that lead elsewhere

turned : (a b : ℕ) (x y : Bool) → (a == b) ≡ x → (b == a) ≡ y → x ≡ y
turned a b true true one other = refl
turned a b false false one other = refl
turned a b true false one other = let same : a ≡ b = eqb-true a b one in let there : (b == a) ≡ true = eq-eqb b a (sym same) in absurd (cc (there, other))
turned a b false true one other = let same : b ≡ a = eqb-true b a other in let there : (a == b) ≡ true = eq-eqb a b (sym same) in absurd (cc (there, one))

or_yes : (a b : Bool) → (a || true) ≡ (b || true)
or_yes true true = refl
or_yes true false = refl
or_yes false true = refl
or_yes false false = refl

split_by : (due : Arrival) (target kernel : ℕ) (b : Bool) → (kernel == target) ≡ b → ((due.is_split || not (due.target == target)) || not b) ≡ ((due.is_split || not (kernel == due.target)) || not b)
split_by due target kernel false is = or_yes (due.is_split || not (due.target == target)) (due.is_split || not (kernel == due.target))
split_by due target kernel true is =
    let same : kernel ≡ target = eqb-true kernel target is in
    ap (λ b. (due.is_split || not b) || false) (turned due.target target (due.target == target) (target == due.target) refl refl ∙ ap (λ k. k == due.target) (sym same))

goes_stray : (before : Option Arrival) (target thaws kernel : ℕ) → strays (Some (arrival_behind target thaws before)) kernel ≡ (strays before kernel || not (kernel == target))
goes_stray None target thaws kernel = refl
goes_stray (Some due) target thaws kernel = split_by due target kernel (kernel == target) refl

or_false : (b : Bool) → b ≡ (b || false)
or_false true = refl
or_false false = refl

stray_step : (c : Description) (at : CallAt) (rec : Rec) (thaws : ℕ → ℕ) (before after : Option Arrival) (target : Option (List ℕ)) (kernel : ℕ) → WayStep c at rec thaws before after target → strays after kernel ≡ (strays before kernel || is_elsewhere c kernel target)
stray_step c at rec thaws before after target kernel (Stays same none) =
    ap (λ o. strays o kernel) same
    ∙ or_false (strays before kernel)
    ∙ ap (λ t. strays before kernel || is_elsewhere c kernel t) (sym none)
stray_step c at rec thaws before after target kernel (Goes name is leads no_thaw) =
    ap (λ o. strays o kernel) is
    ∙ goes_stray before (kernel_named c name) (thaws (kernel_named c name)) kernel
    ∙ ap (λ t. strays before kernel || is_elsewhere c kernel t) (sym leads)

-- ---- thaws there since

-- with a thaw there only moves that lead elsewhere are astray; without one all stay as they were
thawed_if : (e a : Bool) (th : Bool) → not (e && (a || th)) ≡ cond th (not e) (not (e && a))
thawed_if true true true = refl
thawed_if true false true = refl
thawed_if false a true = refl
thawed_if true true false = refl
thawed_if true false false = refl
thawed_if false a false = refl

none_thawed : (th : Bool) → false ≡ cond th false false
none_thawed true = refl
none_thawed false = refl

arrives_on : (c : Description) (pid kernel : ℕ) (t : Option (List ℕ)) (rest : List Rec) (rec : Rec) → not (arrives_at c pid kernel t (rest ++ rec ∷ [])) ≡ cond (is_at kernel (is_thaw_of pid) rec) (is_elsewhere c kernel t) (not (arrives_at c pid kernel t rest))
arrives_on c pid kernel None rest rec = none_thawed (is_at kernel (is_thaw_of pid) rec)
arrives_on c pid kernel (Some name) rest rec =
    ap (λ b. not (kernel == kernel_named c name && b)) (any_more (is_at kernel (is_thaw_of pid)) rest rec ∙ sym (or_turned (list_any (is_at kernel (is_thaw_of pid)) rest) (is_at kernel (is_thaw_of pid) rec)))
    ∙ thawed_if (kernel == kernel_named c name) (list_any (is_at kernel (is_thaw_of pid)) rest) (is_at kernel (is_thaw_of pid) rec)

-- of all records so far
all_on : (c : Description) (at : CallAt) (kernel : ℕ) (past : Past) (rec : Rec) (b : Bool) → is_at kernel (is_thaw_of at.pid) rec ≡ b → some_record c (λ earlier r rest. not (arrives_at c at.pid kernel (target_on_way earlier at.pid at.number r.event) (rest ++ rec ∷ []))) past.records ≡ cond b (some_record c (λ earlier r rest. is_elsewhere c kernel (target_on_way earlier at.pid at.number r.event)) past.records) (some_record c (λ earlier r rest. not (arrives_at c at.pid kernel (target_on_way earlier at.pid at.number r.event) rest)) past.records)
all_on c at kernel past rec true is =
    some_same c (λ earlier r rest. not (arrives_at c at.pid kernel (target_on_way earlier at.pid at.number r.event) (rest ++ rec ∷ []))) (λ earlier r rest. is_elsewhere c kernel (target_on_way earlier at.pid at.number r.event)) _ past.records
    (λ p x rest. arrives_on c at.pid kernel (target_on_way p at.pid at.number x.event) rest rec ∙ ap (λ b. cond b (is_elsewhere c kernel (target_on_way p at.pid at.number x.event)) (not (arrives_at c at.pid kernel (target_on_way p at.pid at.number x.event) rest))) is)
all_on c at kernel past rec false is =
    some_same c (λ earlier r rest. not (arrives_at c at.pid kernel (target_on_way earlier at.pid at.number r.event) (rest ++ rec ∷ []))) (λ earlier r rest. not (arrives_at c at.pid kernel (target_on_way earlier at.pid at.number r.event) rest)) _ past.records
    (λ p x rest. arrives_on c at.pid kernel (target_on_way p at.pid at.number x.event) rest rec ∙ ap (λ b. cond b (is_elsewhere c kernel (target_on_way p at.pid at.number x.event)) (not (arrives_at c at.pid kernel (target_on_way p at.pid at.number x.event) rest))) is)

-- one more thaw there than when the move was entered
later_thaw : (due : Arrival) (kernel : ℕ) (thaws : ℕ → ℕ) (split b : Bool) → due.thaws ≤ thaws due.target → (kernel == due.target) ≡ b → ((split || not b) || (thaws kernel + 1 == due.thaws)) ≡ (split || not b)
later_thaw due kernel thaws true b few is = refl
later_thaw due kernel thaws false false few is = refl
later_thaw due kernel thaws false true few is =
    let same : thaws kernel ≡ thaws due.target = ap thaws (eqb-true kernel due.target is) in
    ne_eqb (thaws kernel + 1) due.thaws (λ e. omega (arith, e, same, few))

thawed : (o : Option Arrival) (kernel : ℕ) (thaws : ℕ → ℕ) → Counted o thaws → is_astray o kernel (thaws kernel + 1) ≡ strays o kernel
thawed None kernel thaws few = refl
thawed (Some due) kernel thaws few = later_thaw due kernel thaws due.is_split (kernel == due.target) few refl

same_thaws : (due kernel : ℕ) (thaws : ℕ → ℕ) (split b : Bool) → (kernel == due) ≡ b → ((split || not b) || (thaws kernel == thaws due)) ≡ true
same_thaws due kernel thaws true b is = refl
same_thaws due kernel thaws false false is = refl
same_thaws due kernel thaws false true is = eq-eqb (thaws kernel) (thaws due) (ap thaws (eqb-true kernel due is))

entered_astray : (e : Bool) → not (e && false) ≡ true
entered_astray true = refl
entered_astray false = refl

or_is_true : (a : Bool) → (a || true) ≡ true
or_is_true true = refl
or_is_true false = refl

astray_step : (c : Description) (at : CallAt) (rec : Rec) (thaws : ℕ → ℕ) (before after : Option Arrival) (target : Option (List ℕ)) (kernel : ℕ) (b : Bool) → is_at kernel (is_thaw_of at.pid) rec ≡ b → Counted before thaws → WayStep c at rec thaws before after target → is_astray after kernel (cond b (thaws kernel + 1) (thaws kernel)) ≡ (cond b (strays before kernel) (is_astray before kernel (thaws kernel)) || not (arrives_at c at.pid kernel target []))
astray_step c at rec thaws before after target kernel true is few (Stays same none) =
    ap (λ o. is_astray o kernel (thaws kernel + 1)) same
    ∙ thawed before kernel thaws few
    ∙ or_false (strays before kernel)
    ∙ ap (λ t. strays before kernel || not (arrives_at c at.pid kernel t [])) (sym none)
astray_step c at rec thaws before after target kernel false is few (Stays same none) =
    ap (λ o. is_astray o kernel (thaws kernel)) same
    ∙ or_false (is_astray before kernel (thaws kernel))
    ∙ ap (λ t. is_astray before kernel (thaws kernel) || not (arrives_at c at.pid kernel t [])) (sym none)
astray_step c at rec thaws before after target kernel true is few (Goes name goes leads no_thaw) = let none = no_thaw kernel in absurd (cc (is, none))
astray_step c at rec thaws before after target kernel false is few (Goes name goes leads no_thaw) =
    ap (λ o. is_astray o kernel (thaws kernel)) goes
    ∙ same_thaws (kernel_named c name) kernel thaws (was_split (kernel_named c name) before) (kernel == kernel_named c name) refl
    ∙ sym (or_is_true (is_astray before kernel (thaws kernel)))
    ∙ ap (λ b. is_astray before kernel (thaws kernel) || b) (sym (entered_astray (kernel == kernel_named c name)))
    ∙ ap (λ t. is_astray before kernel (thaws kernel) || not (arrives_at c at.pid kernel t [])) (sym leads)

-- ---- counts

and_swap : (a b : Bool) → (a && b) ≡ (b && a)
and_swap true true = refl
and_swap true false = refl
and_swap false true = refl
and_swap false false = refl

thaw_told : (kernel : ℕ) (e : Event) (at : ThawAt) → is_thaw kernel e at ≡ is_at at.kernel (is_thaw_of at.pid) (record { kernel = kernel; event = e })
thaw_told kernel (event.Thaw p) at = and_swap (p == at.pid) (kernel == at.kernel)
thaw_told kernel e at = sym (and_false (kernel == at.kernel))

more_thaws : (b : Bool) (n : ℕ) → n ≤ cond b (n + 1) n
more_thaws true n = omega arith
more_thaws false n = omega arith

counted_by : (o : Option Arrival) (thaws later : ℕ → ℕ) → ((k : ℕ) → thaws k ≤ later k) → Counted o thaws → Counted o later
counted_by None thaws later more few = tt
counted_by (Some due) thaws later more few = let up = more due.target in omega (arith, up, few)

counted_step : (c : Description) (at : CallAt) (rec : Rec) (thaws later : ℕ → ℕ) (before after : Option Arrival) (target : Option (List ℕ)) → ((k : ℕ) → thaws k ≤ later k) → Counted before thaws → WayStep c at rec thaws before after target → Counted after later
counted_step c at rec thaws later before after target more few (Stays same none) = subst (λ (o : Option Arrival). Counted o later) (sym same) (counted_by before thaws later more few)
counted_step c at rec thaws later before after target more few (Goes name goes leads no_thaw) = subst (λ (o : Option Arrival). Counted o later) (sym goes) (more (kernel_named c name))

-- ---- one record more

pub arrivals_on : (c : Description) (old new : Arrivals) (places : List (ℕ × Place)) (past : Past) (rec : Rec) → IsWhole c past → TellsPlaces places past.processes → TellsArrivals c old past → ArrivalsOn c places rec old new → TellsArrivals c new (past_with c rec past)
arrivals_on c old new places past rec whole where_is tells more = record {
  stray = λ at kernel.
      ap (λ o. strays o kernel) (more.dues at)
      ∙ stray_step c at rec (λ k. thaws_of old.thaws.entries (record { pid = at.pid; kernel = k })) (arrival_at old.dues.entries at) (arrival_on c places rec.event old.thaws.entries at (arrival_at old.dues.entries at)) (target_on_way past at.pid at.number rec.event) kernel (way_step c places past rec.kernel rec.event old.thaws.entries at (arrival_at old.dues.entries at) where_is)
      ∙ ap (λ b. b || is_elsewhere c kernel (target_on_way past at.pid at.number rec.event)) (tells.stray at kernel)
      ∙ sym (some_more c (λ earlier r rest. is_elsewhere c kernel (target_on_way earlier at.pid at.number r.event)) past rec whole);
  astray = λ at kernel.
      let thaw = is_at kernel (is_thaw_of at.pid) rec in
      let count = thaws_of old.thaws.entries (record { pid = at.pid; kernel = kernel }) in
      ap₂ (λ o n. is_astray o kernel n) (more.dues at) (more.thaws (record { pid = at.pid; kernel = kernel }) ∙ ap (λ b. cond b (count + 1) count) (thaw_told rec.kernel rec.event (record { pid = at.pid; kernel = kernel })))
      ∙ astray_step c at rec (λ k. thaws_of old.thaws.entries (record { pid = at.pid; kernel = k })) (arrival_at old.dues.entries at) (arrival_on c places rec.event old.thaws.entries at (arrival_at old.dues.entries at)) (target_on_way past at.pid at.number rec.event) kernel thaw refl (tells.counted at) (way_step c places past rec.kernel rec.event old.thaws.entries at (arrival_at old.dues.entries at) where_is)
      ∙ ap₂ (λ w b. cond thaw w b || not (arrives_at c at.pid kernel (target_on_way past at.pid at.number rec.event) [])) (tells.stray at kernel) (tells.astray at kernel)
      ∙ ap (λ b. b || not (arrives_at c at.pid kernel (target_on_way past at.pid at.number rec.event) [])) (sym (all_on c at kernel past rec thaw refl))
      ∙ sym (some_more c (λ earlier r rest. not (arrives_at c at.pid kernel (target_on_way earlier at.pid at.number r.event) rest)) past rec whole);
  counted = λ at.
      subst (λ (o : Option Arrival). Counted o (λ k. thaws_of new.thaws.entries (record { pid = at.pid; kernel = k }))) (sym (more.dues at))
      (counted_step c at rec (λ k. thaws_of old.thaws.entries (record { pid = at.pid; kernel = k })) (λ k. thaws_of new.thaws.entries (record { pid = at.pid; kernel = k })) (arrival_at old.dues.entries at) (arrival_on c places rec.event old.thaws.entries at (arrival_at old.dues.entries at)) (target_on_way past at.pid at.number rec.event)
      (λ k. subst (λ n. thaws_of old.thaws.entries (record { pid = at.pid; kernel = k }) ≤ n) (sym (more.thaws (record { pid = at.pid; kernel = k }))) (more_thaws (is_thaw rec.kernel rec.event (record { pid = at.pid; kernel = k })) (thaws_of old.thaws.entries (record { pid = at.pid; kernel = k }))))
      (tells.counted at) (way_step c places past rec.kernel rec.event old.thaws.entries at (arrival_at old.dues.entries at) where_is));
}

-- ---- what is kept of an entry

due_if : (dues : List (CallAt × Arrival)) (pid number target thaws : ℕ) (due : Arrival) (at : CallAt) (b : Bool) → (pid == at.pid && number == at.number) ≡ b → due ≡ arrival_behind target thaws (arrival_at dues (record { pid = pid; number = number })) → cond b (Some due) (arrival_at dues at) ≡ cond b (Some (arrival_behind target thaws (arrival_at dues at))) (arrival_at dues at)
due_if dues pid number target thaws due at true is made =
    let same = and_parts (pid == at.pid) (number == at.number) is in
    ap (λ (a : Arrival). Some a)
    (made
    ∙ ap₂ (λ p n. arrival_behind target thaws (arrival_at dues (record { pid = p; number = n }))) (eqb-true pid at.pid same.0) (eqb-true number at.number same.1))
due_if dues pid number target thaws due at false is made = refl

pub dues_on : (c : Description) (places : List (ℕ × Place)) (e : Event) (entry : Entry) (thaws : List (ThawAt × ℕ)) (before after : List (CallAt × Arrival)) (target count : ℕ) (due : Arrival) → e ≡ event.Enter entry → way_target c places entry ≡ Some target → count ≡ thaws_of thaws (record { pid = entry.pid; kernel = target }) → due ≡ arrival_behind target count (arrival_at before (record { pid = entry.pid; number = entry.number })) → ((at : CallAt) → arrival_at after at ≡ cond (entry.pid == at.pid && entry.number == at.number) (Some due) (arrival_at before at)) → DuesOn c places e thaws before after
dues_on c places e entry thaws before after target count due is way counted made put at =
    put at
    ∙ due_if before entry.pid entry.number target count due at (entry.pid == at.pid && entry.number == at.number) refl made
    ∙ ap (λ n. cond (entry.pid == at.pid && entry.number == at.number) (Some (arrival_behind target n (arrival_at before at))) (arrival_at before at)) counted
    ∙ sym (ap (λ o. due_behind o (entry.pid == at.pid && entry.number == at.number) (λ kernel. thaws_of thaws (record { pid = entry.pid; kernel = kernel })) (arrival_at before at)) way)
    ∙ sym (ap (λ (other : Event). arrival_on c places other thaws at (arrival_at before at)) is)
