-- A run's answers are those that its events tell, and hosts are lent well behind each of them.
use Rattle.std.proofs.Common.{◌≡◌, ◌≢◌, ◌≤◌, ◌<◌, ◌⊎◌, inl, inr, ℕ, zero, suc, ◌+◌, ◌==◌, Bool, true, false, ◌&&◌, not, cond, if◌then◌else◌, nat_le, List, [], ◌∷◌, ◌++◌, length, drop, map, Option, Some, None, max, refl, sym, ap, ap₂, ◌∙◌, subst, arith, eqb-true, eq-eqb, true≢false, count_by, leb-true, leb-false}
use Rattle.std.proofs.lemmas.Bool.{and_parts, or_cases, eqb-false, ne_eqb, lt-leb, cases_lt}
use Rattle.std.proofs.lemmas.List.{append-nil, drop_all}
use Rattle.std.proofs.lemmas.List.Sums.{sum_by-cons}
use Rattle.std.specs.List.{find, AllByRecursion}
use Rattle.sprite_ids.proofs.OnceLaws.{found_passes}
use Rattle.host_lending.specs.declared.event.LendEvent.{LendEvent}
use Rattle.host_lending.specs.declared.event.LendEvent.TheVariants.{Idle, Owner, Borrow, Return, Leave}
use Rattle.host_lending.specs.declared.answer.LendAnswer.{LendAnswer}
use Rattle.host_lending.specs.declared.answer.LendAnswer.TheVariants.{NoHost}
use Rattle.host_lending.specs.declared.host.Host.{Host}
use Rattle.host_lending.specs.Lending.{Told, kernels, kernels_from, is_idle, is_loan, gives, begins, ends, is_free_for, held, most_from, most_held, is_richest, last_from, other_host, moved_host, moved_from, moved, lent, answer_to, answers_from, answers_to, IsWithin, AreLentWell, IsWithout, IsAnswered, AllLentWell}
use Rattle.host_lending.specs.Tables.{busy, busy_hosts, is_holder, noted, noted_all, reply_to, replies_to, Seen, Stands}
use Rattle.host_lending.proofs.HostLaws.{Gifts, seen_noted, number_noted}
use Rattle.host_lending.proofs.AnswerLaws.{reply_same, gifts_of, held_idle}

-- ---- the table behind an event

numbers_noted : (e : LendEvent) (a : LendAnswer) (xs : List Host) → map (λ (x : Host). x.number) (noted_all xs e a) ≡ map (λ (x : Host). x.number) xs
numbers_noted e a [] = refl
numbers_noted e a (x ∷ xs) = ap₂ (λ (n : ℕ) (ns : List ℕ). n ∷ ns) (number_noted e a x) (numbers_noted e a xs)

each_noted : (hosts : ℕ) (before : List Told) (e : LendEvent) (a : LendAnswer) (xs : List Host) → IsWithin hosts e → Gifts hosts before e a → AllByRecursion (Seen hosts before) xs → AllByRecursion (Seen hosts ((e, a) ∷ before)) (noted_all xs e a)
each_noted hosts before e a [] w g h = tt
each_noted hosts before e a (x ∷ xs) w g h = (seen_noted hosts before e a x w g h.0, each_noted hosts before e a xs w g h.1)

-- the host of a loan that begins
begun : (hosts : ℕ) (before : List Told) (h b : ℕ) (e : LendEvent) (a : LendAnswer) → Gifts hosts before e a → begins h b e a ≡ true → (x : Host) × Seen hosts before x × (x.number ≡ h)
begun hosts before h b (Borrow c) a g is =
    let gift = g h (and_parts (c == b) (gives h a) is).1 in
    (gift.host, gift.seen, gift.number_is)
begun hosts before h b (Idle host) a g is = absurd (true≢false (sym is))
begun hosts before h b (Owner host) a g is = absurd (true≢false (sym is))
begun hosts before h b (Return c host) a g is = absurd (true≢false (sym is))
begun hosts before h b (Leave c) a g is = absurd (true≢false (sym is))

there_after : (hosts : ℕ) (before : List Told) (table : List Host) (h b : ℕ) (e : LendEvent) (a : LendAnswer) → Stands hosts before table → Gifts hosts before e a → ((begins h b e a ≡ true) ⊎ ((not (ends h b e a) && is_loan h b before) ≡ true)) → (x : Host) × Seen hosts before x × (x.number ≡ h)
there_after hosts before table h b e a s g (inl is) = begun hosts before h b e a g is
there_after hosts before table h b e a s g (inr is) = s.lent_there h b (and_parts (not (ends h b e a)) (is_loan h b before) is).1

pub stands_noted : (hosts : ℕ) (before : List Told) (table : List Host) (e : LendEvent) (a : LendAnswer) → Stands hosts before table → IsWithin hosts e → Gifts hosts before e a → Stands hosts ((e, a) ∷ before) (noted_all table e a)
stands_noted hosts before table e a s w g = record {
  numbers = numbers_noted e a table ∙ s.numbers;
  each = each_noted hosts before e a table w g s.each;
  lent_there = λ h b is.
      let was = there_after hosts before table h b e a s g (or_cases (begins h b e a) (not (ends h b e a) && is_loan h b before) is) in
      (noted e a was.0, seen_noted hosts before e a was.0 w g was.1, number_noted e a was.0 ∙ was.2);
}

numbers_busy : (ns : List ℕ) → map (λ (x : Host). x.number) (map busy ns) ≡ ns
numbers_busy [] = refl
numbers_busy (n ∷ ns) = ap (λ (ms : List ℕ). n ∷ ms) (numbers_busy ns)

each_busy : (hosts : ℕ) (ns : List ℕ) → AllByRecursion (Seen hosts []) (map busy ns)
each_busy hosts [] = tt
each_busy hosts (n ∷ ns) = (record { idle_is = refl; held_is = λ b. refl; kept = tt }, each_busy hosts ns)

pub stands_busy : (hosts : ℕ) → Stands hosts [] (busy_hosts hosts)
stands_busy hosts = record {
  numbers = numbers_busy (kernels hosts);
  each = each_busy hosts (kernels hosts);
  lent_there = λ h b is. absurd (true≢false (sym is));
}

-- ---- the answers

replies_same : (hosts : ℕ) (before : List Told) (table : List Host) (events : List LendEvent) → Stands hosts before table → AllByRecursion (IsWithin hosts) events → replies_to table events ≡ answers_from hosts before events
replies_same hosts before table [] s w = refl
replies_same hosts before table (e ∷ es) s w =
    let a = reply_to table e in
    ap (λ (rest : List LendAnswer). a ∷ rest) (replies_same hosts ((e, a) ∷ before) (noted_all table e a) es (stands_noted hosts before table e a s w.0 (gifts_of hosts before table e s)) w.1)
    ∙ ap (λ (r : LendAnswer). r ∷ answers_from hosts ((e, r) ∷ before) es) (reply_same hosts before table e s w.0)

-- a run's answers are those that its events tell
pub run_answers : (hosts : ℕ) (events : List LendEvent) → AllByRecursion (IsWithin hosts) events → replies_to (busy_hosts hosts) events ≡ answers_to hosts events
run_answers hosts events w = replies_same hosts [] (busy_hosts hosts) events (stands_busy hosts) w

-- ---- hosts are lent well

one_holder : (o : Option ℕ) (b c : ℕ) → is_holder b o ≡ true → is_holder c o ≡ true → b ≡ c
one_holder None b c e f = absurd (true≢false (sym e))
one_holder (Some d) b c e f = sym (eqb-true d b e) ∙ eqb-true d c f

held_by : (hosts : ℕ) (before : List Told) (h b : ℕ) (x : Host) → Seen hosts before x → x.number ≡ h → is_loan h b before ≡ true → is_holder b x.borrower ≡ true
held_by hosts before h b x s is e = s.held_is b ∙ ap (λ n. is_loan n b before) is ∙ e

lent_well : (hosts : ℕ) (before : List Told) (table : List Host) → Stands hosts before table → AreLentWell hosts before
lent_well hosts before table s = record {
  once = λ h b c e f.
      let x = s.lent_there h b e in
      one_holder x.0.borrower b c (held_by hosts before h b x.0 x.1 x.2 e) (held_by hosts before h c x.0 x.1 x.2 f);
  idle = λ h b e.
      let x = s.lent_there h b e in
      sym (ap (λ n. is_idle n before) x.2) ∙ sym x.1.idle_is ∙ (held_idle hosts x.0.number x.0.idle x.0.borrower b x.1.kept (held_by hosts before h b x.0 x.1 x.2 e)).0;
  other = λ h b e.
      let x = s.lent_there h b e in
      subst (λ (n : ℕ). n ≢ b) x.2 (held_idle hosts x.0.number x.0.idle x.0.borrower b x.1.kept (held_by hosts before h b x.0 x.1 x.2 e)).1;
}

-- ---- who gets nothing

-- nothing passes where nothing is found
passes_not : (p : ℕ → Bool) (first count h : ℕ) → find p (kernels_from first count) ≡ None → first ≤ h → h < first + count → p h ≡ false
passes_not p first zero h e least most = absurd (omega arith)
passes_not p first (suc count) h e least most = at_first p first count h (p first) refl e least most (passes_not p (first + 1) count h)
  where
    further : (p : ℕ → Bool) (first count h : ℕ) (t : Bool) → (first == h) ≡ t → p first ≡ false → first ≤ h → h < first + suc count → (first + 1 ≤ h → h < first + 1 + count → p h ≡ false) → p h ≡ false
    further p first count h true is e least most later = ap p (sym (eqb-true first h is)) ∙ e
    further p first count h false is e least most later = let other : first ≢ h = eqb-false first h is in later (omega arith) (omega arith)

    at_first : (p : ℕ → Bool) (first count h : ℕ) (t : Bool) → p first ≡ t → cond t (Some first) (find p (kernels_from (first + 1) count)) ≡ None → first ≤ h → h < first + suc count → (find p (kernels_from (first + 1) count) ≡ None → first + 1 ≤ h → h < first + 1 + count → p h ≡ false) → p h ≡ false
    at_first p first count h true is e least most later = absurd (cc)
    at_first p first count h false is e least most later = further p first count h (first == h) refl is least most (later e)

-- nothing is found where nothing passes
nothing : (p : ℕ → Bool) (first count : ℕ) → ((h : ℕ) → first ≤ h → h < first + count → p h ≡ false) → find p (kernels_from first count) ≡ None
nothing p first zero e = refl
nothing p first (suc count) e =
    ap (λ t. cond t (Some first) (find p (kernels_from (first + 1) count))) (e first (omega arith) (omega arith)) ∙ nothing p (first + 1) count (λ h least most. e h (omega arith) (omega arith))

-- the most never falls below what it began with
most_grows : (count : ℕ → ℕ) (b most : ℕ) (cs : List ℕ) → most ≤ most_from count b most cs
most_grows count b most [] = omega arith
most_grows count b most (c ∷ cs) = grows_by count b most c cs (c == b) (most_grows count b (max most (count c)) cs) (most_grows count b most cs)
  where
    grows_by : (count : ℕ → ℕ) (b most c : ℕ) (cs : List ℕ) (t : Bool) → max most (count c) ≤ most_from count b (max most (count c)) cs → most ≤ most_from count b most cs → most ≤ most_from count b (if t then most else max most (count c)) cs
    grows_by count b most c cs true h k = k
    grows_by count b most c cs false h k = omega (arith, h)

-- none of the others holds more
none_more : (count : ℕ → ℕ) (b most first number c : ℕ) → first ≤ c → c < first + number → c ≢ b → count c ≤ most_from count b most (kernels_from first number)
none_more count b most first zero c least under other = absurd (omega arith)
none_more count b most first (suc number) c least under other =
    by_first count b most first number c (first == c) refl least under other (λ m least' under'. none_more count b m (first + 1) number c least' under' other)
  where
    its_own : (count : ℕ → ℕ) (b most c : ℕ) (cs : List ℕ) (t : Bool) → (c == b) ≡ t → c ≢ b → count c ≤ most_from count b (if t then most else max most (count c)) cs
    its_own count b most c cs true e other = absurd (other (eqb-true c b e))
    its_own count b most c cs false e other = let grown = most_grows count b (max most (count c)) cs in omega (arith, grown)

    by_first : (count : ℕ → ℕ) (b most first number c : ℕ) (t : Bool) → (first == c) ≡ t → first ≤ c → c < first + suc number → c ≢ b → ((m : ℕ) → first + 1 ≤ c → c < first + 1 + number → count c ≤ most_from count b m (kernels_from (first + 1) number)) → count c ≤ most_from count b (if first == b then most else max most (count first)) (kernels_from (first + 1) number)
    by_first count b most first number c true e least under other later =
        let same : first ≡ c = eqb-true first c e in
        subst (λ (n : ℕ). count n ≤ most_from count b (if first == b then most else max most (count first)) (kernels_from (first + 1) number)) same
        (its_own count b most first (kernels_from (first + 1) number) (first == b) refl (subst (λ (n : ℕ). n ≢ b) (sym same) other))
    by_first count b most first number c false e least under other later =
        let apart : first ≢ c = eqb-false first c e in
        later (if first == b then most else max most (count first)) (omega arith) (omega arith)

-- the most is held by one of them, or is what it began with
abbrev pub IsHeld : (ℕ → ℕ) → ℕ → ℕ → ℕ → ℕ → ℕ → Type 0
IsHeld count b first number most result = (result ≡ most) ⊎ ((c : ℕ) × (first ≤ c) × (c < first + number) × (c ≢ b) × (count c ≡ result))

held_one : (count : ℕ → ℕ) (b most first number : ℕ) → IsHeld count b first number most (most_from count b most (kernels_from first number))
held_one count b most first zero = inl refl
held_one count b most first (suc number) = by_first count b most first number (first == b) refl (held_one count b most (first + 1) number) (held_one count b (max most (count first)) (first + 1) number)
  where
    wider : (count : ℕ → ℕ) (b first number most result : ℕ) → IsHeld count b (first + 1) number most result → IsHeld count b first (suc number) most result
    wider count b first number most result (inl e) = inl e
    wider count b first number most result (inr h) = let low = h.1 in let high = h.2 in inr (h.0, omega (arith, low), omega (arith, high), h.3, h.4)

    chosen : (m n : ℕ) → (max m n ≡ m) ⊎ (max m n ≡ n)
    chosen m n = elim (cases_lt m n) [ inl less ↦ inr (omega (arith, less)) | inr least ↦ inl (omega (arith, least)) ]

    raised : (count : ℕ → ℕ) (b first number most result : ℕ) → first ≢ b → ((max most (count first) ≡ most) ⊎ (max most (count first) ≡ count first)) → IsHeld count b (first + 1) number (max most (count first)) result → IsHeld count b first (suc number) most result
    raised count b first number most result other which (inr h) = wider count b first number most result (inr h)
    raised count b first number most result other (inl same) (inl e) = inl (e ∙ same)
    raised count b first number most result other (inr same) (inl e) = inr (first, omega arith, omega arith, other, sym (e ∙ same))

    by_first : (count : ℕ → ℕ) (b most first number : ℕ) (t : Bool) → (first == b) ≡ t → IsHeld count b (first + 1) number most (most_from count b most (kernels_from (first + 1) number)) → IsHeld count b (first + 1) number (max most (count first)) (most_from count b (max most (count first)) (kernels_from (first + 1) number)) → IsHeld count b first (suc number) most (most_from count b (if t then most else max most (count first)) (kernels_from (first + 1) number))
    by_first count b most first number true e h k = wider count b first number most (most_from count b most (kernels_from (first + 1) number)) h
    by_first count b most first number false e h k = raised count b first number most (most_from count b (max most (count first)) (kernels_from (first + 1) number)) (eqb-false first b e) (chosen most (count first)) k

-- where the last that passes is none, none passes
last_none : (p : ℕ → Bool) (found : Option ℕ) (xs : List ℕ) → last_from p found xs ≡ None → (found ≡ None) × (count_by p xs ≡ 0)
last_none p found [] e = (e, refl)
last_none p found (x ∷ xs) e =
    let rest = last_none p (if p x then Some x else found) xs e in
    by_test p found x xs (p x) refl rest.0 rest.1
  where
    by_test : (p : ℕ → Bool) (found : Option ℕ) (x : ℕ) (xs : List ℕ) (t : Bool) → p x ≡ t → (if t then Some x else found) ≡ None → count_by p xs ≡ 0 → (found ≡ None) × (count_by p (x ∷ xs) ≡ 0)
    by_test p found x xs true is e none = absurd (cc)
    by_test p found x xs false is e none = (e, sum_by-cons (λ (y : ℕ). cond (p y) 1 0) x xs ∙ ap₂ (λ t n. cond t 1 0 + n) is none)

-- a kernel is among them once at most
counted_past : (b first number : ℕ) → b < first → count_by (λ h. h == b) (kernels_from first number) ≡ 0
counted_past b first zero under = refl
counted_past b first (suc number) under =
    sum_by-cons (λ (h : ℕ). cond (h == b) 1 0) first (kernels_from (first + 1) number)
    ∙ ap₂ (λ t n. cond t 1 0 + n) (ne_eqb first b (λ same. (omega arith))) (counted_past b (first + 1) number (omega arith))

one_and_none : (n : ℕ) → n ≡ 0 → 1 + n ≤ 1
one_and_none n e = omega (arith, e)

none_and_one : (n : ℕ) → n ≤ 1 → 0 + n ≤ 1
none_and_one n e = omega (arith, e)

counted_first : (b first number : ℕ) (t : Bool) → (first == b) ≡ t → count_by (λ h. h == b) (kernels_from (first + 1) number) ≤ 1 → cond t 1 0 + count_by (λ h. h == b) (kernels_from (first + 1) number) ≤ 1
counted_first b first number true e h =
    let same : first ≡ b = eqb-true first b e in
    one_and_none (count_by (λ h. h == b) (kernels_from (first + 1) number)) (counted_past b (first + 1) number (omega arith))
counted_first b first number false e h = none_and_one (count_by (λ h. h == b) (kernels_from (first + 1) number)) h

counted_once : (b first number : ℕ) → count_by (λ h. h == b) (kernels_from first number) ≤ 1
counted_once b first zero = omega arith
counted_once b first (suc number) =
    subst (λ (n : ℕ). n ≤ 1) (sym (sum_by-cons (λ (h : ℕ). cond (h == b) 1 0) first (kernels_from (first + 1) number)))
    (counted_first b first number (first == b) refl (counted_once b (first + 1) number))

parts_at : (s t : Bool) → cond {A = ℕ} s 1 0 ≤ cond {A = ℕ} (s && not t) 1 0 + cond {A = ℕ} t 1 0
parts_at true true = omega arith
parts_at true false = omega arith
parts_at false true = omega arith
parts_at false false = omega arith

add_parts : (a b c s t u x y z : ℕ) → a ≡ s + x → b ≡ t + y → c ≡ u + z → s ≤ t + u → x ≤ y + z → a ≤ b + c
add_parts a b c s t u x y z one two three here rest = omega (arith, one, two, three, here, rest)

-- those that pass are those that pass and aren't b, and b at most
counted_parts : (p : ℕ → Bool) (b : ℕ) (xs : List ℕ) → count_by p xs ≤ count_by (λ h. p h && not (h == b)) xs + count_by (λ h. h == b) xs
counted_parts p b [] = omega arith
counted_parts p b (x ∷ xs) =
    add_parts _ _ _ (cond (p x) 1 0) (cond (p x && not (x == b)) 1 0) (cond (x == b) 1 0) (count_by p xs) (count_by (λ h. p h && not (h == b)) xs) (count_by (λ h. h == b) xs)
    (sum_by-cons (λ (h : ℕ). cond (p h) 1 0) x xs) (sum_by-cons (λ (h : ℕ). cond (p h && not (h == b)) 1 0) x xs) (sum_by-cons (λ (h : ℕ). cond (h == b) 1 0) x xs)
    (parts_at (p x) (x == b)) (counted_parts p b xs)

too_few : (a b c : ℕ) → 2 ≤ a → b ≡ 0 → a ≤ b + c → c ≤ 1 → ⊥
too_few a b c two none parts once = omega (arith, two, none, parts, once)

-- who holds two hosts holds one that isn't b
other_there : (hosts : ℕ) (before : List Told) (from b : ℕ) → 2 ≤ held hosts before from → other_host hosts before from b ≢ None
other_there hosts before from b two e =
    too_few (held hosts before from) (count_by (λ h. is_loan h from before && not (h == b)) (kernels hosts)) (count_by (λ h. h == b) (kernels hosts)) two
    (last_none (λ h. is_loan h from before && not (h == b)) None (kernels hosts) e).1 (counted_parts (λ h. is_loan h from before) b (kernels hosts)) (counted_once b 1 hosts)

-- where the most is at least two more, a host is moved
moved_there : (hosts : ℕ) (before : List Told) (b : ℕ) (o : Option ℕ) → ((from : ℕ) → o ≡ Some from → 2 ≤ held hosts before from) → (o ≡ None → ⊥) → moved_from hosts before b o ≢ NoHost
moved_there hosts before b None two some e = some refl
moved_there hosts before b (Some from) two some e = host_there from (other_host hosts before from b) (other_there hosts before from b (two from refl)) e
  where
    host_there : (from : ℕ) (o : Option ℕ) → o ≢ None → moved_host from o ≢ NoHost
    host_there from None some e = some refl
    host_there from (Some h) some e = cc

rich_there : (hosts : ℕ) (before : List Told) (b : ℕ) → held hosts before b + 2 ≤ most_held hosts before b → moved_from hosts before b (find (is_richest hosts before b) (kernels hosts)) ≢ NoHost
rich_there hosts before b enough =
    moved_there hosts before b (find (is_richest hosts before b) (kernels hosts))
    (λ from is.
    let passes = found_passes (is_richest hosts before b) from (kernels hosts) is in
    let same = eqb-true (held hosts before from) (most_held hosts before b) (and_parts (not (from == b)) (held hosts before from == most_held hosts before b) passes).1 in
    omega (arith, same, enough))
    (λ none. by_most hosts before b enough none (held_one (held hosts before) b 0 1 hosts))
  where
    by_most : (hosts : ℕ) (before : List Told) (b : ℕ) → held hosts before b + 2 ≤ most_held hosts before b → find (is_richest hosts before b) (kernels hosts) ≡ None → IsHeld (held hosts before) b 1 hosts 0 (most_held hosts before b) → ⊥
    by_most hosts before b enough none (inl zero_is) = omega (arith, enough, zero_is)
    by_most hosts before b enough none (inr h) =
        let fails = passes_not (is_richest hosts before b) 1 hosts h.0 none h.1 h.2 in
        let apart : (h.0 == b) ≡ false = ne_eqb h.0 b h.3 in
        let most : (held hosts before h.0 == most_held hosts before b) ≡ true = eq-eqb (held hosts before h.0) (most_held hosts before b) h.4 in
        true≢false (sym (ap₂ (λ s t. not s && t) apart most) ∙ fails)

none_by : (hosts : ℕ) (before : List Told) (b : ℕ) (t : Bool) → nat_le (held hosts before b + 2) (most_held hosts before b) ≡ t → (if t then moved_from hosts before b (find (is_richest hosts before b) (kernels hosts)) else NoHost) ≡ NoHost → most_held hosts before b < held hosts before b + 2
none_by hosts before b true e is = absurd (rich_there hosts before b (leb-true (held hosts before b + 2) (most_held hosts before b) e) is)
none_by hosts before b false e is = leb-false (held hosts before b + 2) (most_held hosts before b) e

lent_none : (o : Option ℕ) (other : LendAnswer) → lent o other ≡ NoHost → (o ≡ None) × (other ≡ NoHost)
lent_none None other e = (refl, e)
lent_none (Some h) other e = absurd (cc)

without_of : (hosts : ℕ) (before : List Told) (b : ℕ) → answer_to hosts before (Borrow b) ≡ NoHost → IsWithout hosts before b
without_of hosts before b e =
    let parts = lent_none (find (is_free_for hosts before b) (kernels hosts)) (moved hosts before b) e in
    let under = none_by hosts before b (nat_le (held hosts before b + 2) (most_held hosts before b)) refl parts.1 in
    record {
      none_free = λ h within. passes_not (is_free_for hosts before b) 1 hosts h parts.0 within.0 (let high = within.1 in omega (arith, high));
      none_rich = λ c within other.
          let high = within.1 in
          let bound : held hosts before c ≤ most_held hosts before b = none_more (held hosts before) b 0 1 hosts c within.0 (omega (arith, high)) other in
          omega (arith, under, bound);
    }

under_all : (hosts : ℕ) (before : List Told) (b : ℕ) → IsWithout hosts before b → IsHeld (held hosts before) b 1 hosts 0 (most_held hosts before b) → most_held hosts before b < held hosts before b + 2
under_all hosts before b w (inl e) = omega (arith, e)
under_all hosts before b w (inr h) =
    let high = h.2 in
    let under = w.none_rich h.0 (h.1, omega (arith, high)) h.3 in
    let same : held hosts before h.0 ≡ most_held hosts before b = h.4 in
    omega (arith, under, same)

of_without : (hosts : ℕ) (before : List Told) (b : ℕ) → IsWithout hosts before b → answer_to hosts before (Borrow b) ≡ NoHost
of_without hosts before b w =
    let none = nothing (is_free_for hosts before b) 1 hosts (λ h least most. w.none_free h (least, omega (arith, most))) in
    let under = under_all hosts before b w (held_one (held hosts before) b 0 1 hosts) in
    let few = lt-leb (held hosts before b + 2) (most_held hosts before b) under in
    ap (λ o. lent o (moved hosts before b)) none ∙ ap (λ t. cond t (moved_from hosts before b (find (is_richest hosts before b) (kernels hosts))) NoHost) few

answered : (hosts : ℕ) (before : List Told) (e : LendEvent) → IsAnswered hosts before e (answer_to hosts before e)
answered hosts before (Idle g) = tt
answered hosts before (Owner g) = tt
answered hosts before (Borrow b) = (without_of hosts before b, of_without hosts before b)
answered hosts before (Return b g) = tt
answered hosts before (Leave b) = tt

all_well : (hosts : ℕ) (before : List Told) (table : List Host) (events : List LendEvent) → Stands hosts before table → AllByRecursion (IsWithin hosts) events → AllLentWell hosts before events (replies_to table events)
all_well hosts before table [] s w = lent_well hosts before table s
all_well hosts before table (e ∷ es) s w =
    let a = reply_to table e in (
      lent_well hosts before table s,
      subst (IsAnswered hosts before e) (sym (reply_same hosts before table e s w.0)) (answered hosts before e),
      all_well hosts ((e, a) ∷ before) (noted_all table e a) es (stands_noted hosts before table e a s w.0 (gifts_of hosts before table e s)) w.1,
    )

-- behind each of a run's events hosts are lent well, and each asker who gets nothing has its cause
pub run_well : (hosts : ℕ) (events : List LendEvent) → AllByRecursion (IsWithin hosts) events → AllLentWell hosts [] events (replies_to (busy_hosts hosts) events)
run_well hosts events w = all_well hosts [] (busy_hosts hosts) events (stands_busy hosts) w

-- ---- where no event is left

-- the answers so far are all
pub none_left : (answers all : List LendAnswer) (table : List Host) (events : List LendEvent) (i : ℕ) → length events ≤ i → answers ++ replies_to table (drop i events) ≡ all → answers ≡ all
none_left answers all table events i past e =
    sym (append-nil answers) ∙ sym (ap (λ (es : List LendEvent). answers ++ replies_to table es) (drop_all i events past)) ∙ e
