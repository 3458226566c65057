-- What the table answers is what the events so far tell.
use Rattle.std.proofs.Common.{◌≡◌, ◌≢◌, ◌≤◌, ◌<◌, ℕ, zero, suc, ◌+◌, ◌==◌, Bool, true, false, ◌&&◌, ◌||◌, not, cond, if◌then◌else◌, nat_le, List, [], ◌∷◌, map, Option, Some, None, is_none, max, refl, sym, ap, ap₂, ◌∙◌, subst, arith, eqb-true, eq-eqb, true≢false, count_by}
use Rattle.std.proofs.lemmas.Bool.{and_parts, not-true, eqb-false, ne_eqb}
use Rattle.std.proofs.lemmas.List.Sums.{sum_by-cons}
use Rattle.std.specs.List.{find, list_any, AllByRecursion}
use Rattle.sprite_ids.proofs.ListLaws.{some_is}
use Rattle.host_lending.specs.declared.event.LendEvent.{LendEvent}
use Rattle.host_lending.specs.declared.event.LendEvent.TheVariants.{Idle, Owner, Borrow, Return, Leave}
use Rattle.host_lending.specs.declared.answer.LendAnswer.{LendAnswer}
use Rattle.host_lending.specs.declared.answer.LendAnswer.TheVariants.{Lent, Moved, NoHost, Returned, NotHeld, Left}
use Rattle.host_lending.specs.declared.host.Host.{Host}
use Rattle.host_lending.specs.Lending.{Told, kernels, kernels_from, is_idle, is_loan, gives, is_free_for, held, most_from, most_held, is_richest, last_from, other_host, moved_host, moved_from, moved, lent, revoked, answer_to, IsWithin}
use Rattle.host_lending.specs.Tables.{is_holder, is_held, is_free, is_other_host, count_held, most_among, is_rich, number_of, move_from, move_of, borrower_at, is_held_at, is_numbered, reply_to, IsKept, Seen, Stands}
use Rattle.host_lending.proofs.HostLaws.{not_both, Gift, Gifts}

-- ---- one test on hosts and one on their numbers, which say the same of each host

-- the two tests say the same of each host of the list
abbrev pub Alike : (Host → Bool) → (ℕ → Bool) → List Host → Type 0
Alike p q xs = AllByRecursion (λ (x : Host). p x ≡ q x.number) xs

abbrev pub numbers_of : List Host → List ℕ
numbers_of xs = map (λ (x : Host). x.number) xs

alike_by : (P : Host → Type 0) (p : Host → Bool) (q : ℕ → Bool) (xs : List Host) → ((x : Host) → P x → p x ≡ q x.number) → AllByRecursion P xs → Alike p q xs
alike_by P p q [] f h = tt
alike_by P p q (x ∷ xs) f h = (f x h.0, alike_by P p q xs f h.1)

find_first : (x : Host) (rest : Option Host) (others : Option ℕ) (b c : Bool) → b ≡ c → number_of rest ≡ others → number_of (cond b (Some x) rest) ≡ cond c (Some x.number) others
find_first x rest others true c e h = ap (λ t. cond t (Some x.number) others) e
find_first x rest others false c e h = h ∙ ap (λ t. cond t (Some x.number) others) e

pub find_alike : (p : Host → Bool) (q : ℕ → Bool) (xs : List Host) → Alike p q xs → number_of (find p xs) ≡ find q (numbers_of xs)
find_alike p q [] h = refl
find_alike p q (x ∷ xs) h = find_first x (find p xs) (find q (numbers_of xs)) (p x) (q x.number) h.0 (find_alike p q xs h.1)

count_alike : (p : Host → Bool) (q : ℕ → Bool) (xs : List Host) → Alike p q xs → count_by p xs ≡ count_by q (numbers_of xs)
count_alike p q [] h = refl
count_alike p q (x ∷ xs) h =
    sum_by-cons (λ (y : Host). cond (p y) 1 0) x xs ∙ ap₂ (λ b n. cond b 1 0 + n) h.0 (count_alike p q xs h.1) ∙ sym (sum_by-cons (λ (n : ℕ). cond (q n) 1 0) x.number (numbers_of xs))

last_first : (x : Host) (found : Option Host) (b c : Bool) → b ≡ c → number_of (if b then Some x else found) ≡ (if c then Some x.number else number_of found)
last_first x found true c e = ap (λ t. cond t (Some x.number) (number_of found)) e
last_first x found false c e = ap (λ t. cond t (Some x.number) (number_of found)) e

last_alike : (p : Host → Bool) (q : ℕ → Bool) (found : Option Host) (xs : List Host) → Alike p q xs → number_of (last_from p found xs) ≡ last_from q (number_of found) (numbers_of xs)
last_alike p q found [] h = refl
last_alike p q found (x ∷ xs) h =
    last_alike p q (if p x then Some x else found) xs h.1 ∙ ap (λ o. last_from q o (numbers_of xs)) (last_first x found (p x) (q x.number) h.0)

most_alike : (table : List Host) (count : ℕ → ℕ) (b most : ℕ) (xs : List Host) → ((c : ℕ) → count_held table c ≡ count c) → most_among table b most xs ≡ most_from count b most (numbers_of xs)
most_alike table count b most [] h = refl
most_alike table count b most (x ∷ xs) h =
    most_alike table count b (if x.number == b then most else max most (count_held table x.number)) xs h
    ∙ ap (λ n. most_from count b (if x.number == b then most else max most n) (numbers_of xs)) (h x.number)

-- ---- the host that a test finds

found_by : (P : Host → Type 0) (p : Host → Bool) (x first : Host) (rest : Option Host) (b : Bool) → P first → p first ≡ b → (rest ≡ Some x → P x × (p x ≡ true)) → cond b (Some first) rest ≡ Some x → P x × (p x ≡ true)
found_by P p x first rest true h is later e =
    let same = some_is first x e in
    (subst P same h, ap p (sym same) ∙ is)
found_by P p x first rest false h is later e = later e

pub found_is : (P : Host → Type 0) (p : Host → Bool) (xs : List Host) (x : Host) → AllByRecursion P xs → find p xs ≡ Some x → P x × (p x ≡ true)
found_is P p [] x h e = absurd (cc)
found_is P p (y ∷ ys) x h e = found_by P p x y (find p ys) (p y) h.0 refl (found_is P p ys x h.1) e

-- an Option whose item meets P and passes
abbrev pub Passes : (Host → Type 0) → (Host → Bool) → Option Host → Type 0
Passes P p (Some x) = P x × (p x ≡ true)
Passes P p None = Unit {0}

passes_if : (P : Host → Type 0) (p : Host → Bool) (x : Host) (found : Option Host) (b : Bool) → p x ≡ b → P x → Passes P p found → Passes P p (if b then Some x else found)
passes_if P p x found true e h k = (h, e)
passes_if P p x found false e h k = k

pub last_passes : (P : Host → Type 0) (p : Host → Bool) (found : Option Host) (xs : List Host) → Passes P p found → AllByRecursion P xs → Passes P p (last_from p found xs)
last_passes P p found [] k h = k
last_passes P p found (x ∷ xs) k h =
    last_passes P p (if p x then Some x else found) xs (passes_if P p x found (p x) refl h.0 k) h.1

-- ---- kernels

-- what is at least m and isn't m is more
past : (m n : ℕ) → m ≤ n → (m == n) ≡ false → m + 1 ≤ n
past m n least e = let other : m ≢ n = eqb-false m n e in omega arith

or_true : (t : Bool) → (t || true) ≡ true
or_true true = refl
or_true false = refl

any_first : (p : ℕ → Bool) (first count b : ℕ) (t : Bool) → (first == b) ≡ t → p b ≡ true → (((first == b) ≡ false) → list_any p (kernels_from (first + 1) count) ≡ true) → (p first || list_any p (kernels_from (first + 1) count)) ≡ true
any_first p first count b true is e later = ap (λ t. t || list_any p (kernels_from (first + 1) count)) (ap p (eqb-true first b is) ∙ e)
any_first p first count b false is e later = ap (λ t. p first || t) (later is) ∙ or_true (p first)

-- some kernel passes where one that is among them does
any_from : (p : ℕ → Bool) (first count b : ℕ) → p b ≡ true → first ≤ b → b < first + count → list_any p (kernels_from first count) ≡ true
any_from p first zero b e least most = absurd (omega arith)
any_from p first (suc count) b e least most =
    any_first p first count b (first == b) refl e (λ other. any_from p (first + 1) count b e (past first b least other) (omega arith))

any_kernel : (p : ℕ → Bool) (hosts b : ℕ) → p b ≡ true → 1 ≤ b → b ≤ hosts → list_any p (kernels hosts) ≡ true
any_kernel p hosts b e least most = any_from p 1 hosts b e least (omega arith)

-- one kernel is found by its number
same_first : (first count d : ℕ) (t : Bool) → (d == first) ≡ t → (((d == first) ≡ false) → find (λ b. d == b) (kernels_from (first + 1) count) ≡ Some d) → cond t (Some first) (find (λ b. d == b) (kernels_from (first + 1) count)) ≡ Some d
same_first first count d true is later = ap Some (sym (eqb-true d first is))
same_first first count d false is later = later is

past_back : (m n : ℕ) → m ≤ n → (n == m) ≡ false → m + 1 ≤ n
past_back m n least e = let other : n ≢ m = eqb-false n m e in omega arith

same_from : (first count d : ℕ) → first ≤ d → d < first + count → find (λ b. d == b) (kernels_from first count) ≡ Some d
same_from first zero d least most = absurd (omega arith)
same_from first (suc count) d least most =
    same_first first count d (d == first) refl (λ other. same_from (first + 1) count d (past_back first d least other) (omega arith))

none_found : (xs : List ℕ) → find (λ b. is_holder b None) xs ≡ None
none_found [] = refl
none_found (x ∷ xs) = none_found xs

holder_found : (hosts number : ℕ) (idle : Bool) (o : Option ℕ) → IsKept hosts number idle o → find (λ b. is_holder b o) (kernels hosts) ≡ o
holder_found hosts number idle None k = none_found (kernels hosts)
holder_found hosts number idle (Some d) k = same_from 1 hosts d k.0 (omega (arith, k.1))

none_any : (xs : List ℕ) → list_any (λ b. is_holder b None) xs ≡ false
none_any [] = refl
none_any (x ∷ xs) = none_any xs

lent_any : (hosts number : ℕ) (idle : Bool) (o : Option ℕ) → IsKept hosts number idle o → is_none o ≡ not (list_any (λ b. is_holder b o) (kernels hosts))
lent_any hosts number idle None k = sym (ap not (none_any (kernels hosts)))
lent_any hosts number idle (Some d) k = sym (ap not (any_kernel (λ b. d == b) hosts d (eq-eqb d d refl) k.0 k.1))

-- tests that say the same find the same
find_same : (p q : ℕ → Bool) (xs : List ℕ) → ((n : ℕ) → p n ≡ q n) → find p xs ≡ find q xs
find_same p q [] h = refl
find_same p q (x ∷ xs) h = ap₂ (λ t o. cond t (Some x) o) (h x) (find_same p q xs h)

any_same : (p q : ℕ → Bool) (xs : List ℕ) → ((n : ℕ) → p n ≡ q n) → list_any p xs ≡ list_any q xs
any_same p q [] h = refl
any_same p q (x ∷ xs) h = ap₂ (λ t u. t || u) (h x) (any_same p q xs h)

-- ---- the parts of an answer

holder_is : (hosts : ℕ) (before : List Told) (x : Host) → Seen hosts before x → find (λ b. is_loan x.number b before) (kernels hosts) ≡ x.borrower
holder_is hosts before x s =
    sym (find_same (λ b. is_holder b x.borrower) (λ b. is_loan x.number b before) (kernels hosts) s.held_is) ∙ holder_found hosts x.number x.idle x.borrower s.kept

free_is : (hosts : ℕ) (before : List Told) (b : ℕ) (x : Host) → Seen hosts before x → is_free b x ≡ is_free_for hosts before b x.number
free_is hosts before b x s =
    let none = lent_any hosts x.number x.idle x.borrower s.kept ∙ ap not (any_same (λ c. is_holder c x.borrower) (λ c. is_loan x.number c before) (kernels hosts) s.held_is) in
    ap₂ (λ i n. i && n && not (x.number == b)) s.idle_is none

pub held_same : (hosts : ℕ) (before : List Told) (table : List Host) → Stands hosts before table → (b : ℕ) → count_held table b ≡ held hosts before b
held_same hosts before table s b =
    count_alike (is_held b) (λ h. is_loan h b before) table (alike_by (Seen hosts before) (is_held b) (λ h. is_loan h b before) table (λ x k. k.held_is b) s.each)
    ∙ ap (count_by (λ h. is_loan h b before)) s.numbers

first_free_same : (hosts : ℕ) (before : List Told) (table : List Host) → Stands hosts before table → (b : ℕ) → number_of (find (is_free b) table) ≡ find (is_free_for hosts before b) (kernels hosts)
first_free_same hosts before table s b =
    find_alike (is_free b) (is_free_for hosts before b) table (alike_by (Seen hosts before) (is_free b) (is_free_for hosts before b) table (free_is hosts before b) s.each)
    ∙ ap (find (is_free_for hosts before b)) s.numbers

most_same : (hosts : ℕ) (before : List Told) (table : List Host) → Stands hosts before table → (b : ℕ) → most_among table b 0 table ≡ most_held hosts before b
most_same hosts before table s b =
    most_alike table (held hosts before) b 0 table (held_same hosts before table s) ∙ ap (most_from (held hosts before) b 0) s.numbers

rich_same : (hosts : ℕ) (before : List Told) (table : List Host) → Stands hosts before table → (b most : ℕ) → most ≡ most_held hosts before b → number_of (find (is_rich table b most) table) ≡ find (is_richest hosts before b) (kernels hosts)
rich_same hosts before table s b most e =
    find_alike (is_rich table b most) (is_richest hosts before b) table (alike_by (Seen hosts before) (is_rich table b most) (is_richest hosts before b) table (λ x k. ap₂ (λ n m. not (x.number == b) && (n == m)) (held_same hosts before table s x.number) e) s.each)
    ∙ ap (find (is_richest hosts before b)) s.numbers

other_same : (hosts : ℕ) (before : List Told) (table : List Host) → Stands hosts before table → (b from : ℕ) → number_of (last_from (is_other_host from b) None table) ≡ other_host hosts before from b
other_same hosts before table s b from =
    last_alike (is_other_host from b) (λ h. is_loan h from before && not (h == b)) None table (alike_by (Seen hosts before) (is_other_host from b) (λ h. is_loan h from before && not (h == b)) table (λ x k. ap (λ t. t && not (x.number == b)) (k.held_is from)) s.each)
    ∙ ap (last_from (λ h. is_loan h from before && not (h == b)) None) s.numbers

move_from_same : (hosts : ℕ) (before : List Told) (table : List Host) → Stands hosts before table → (b : ℕ) (o : Option ℕ) → move_from table b o ≡ moved_from hosts before b o
move_from_same hosts before table s b None = refl
move_from_same hosts before table s b (Some from) = ap (moved_host from) (other_same hosts before table s b from)

move_same : (hosts : ℕ) (before : List Told) (table : List Host) → Stands hosts before table → (b most : ℕ) → most ≡ most_held hosts before b → move_of table b most ≡ moved hosts before b
move_same hosts before table s b most e =
    let enough = ap₂ (λ n m. nat_le (n + 2) m) (held_same hosts before table s b) e in
    let what = ap (move_from table b) (rich_same hosts before table s b most e) ∙ move_from_same hosts before table s b (find (is_richest hosts before b) (kernels hosts)) in
    ap₂ (λ t a. cond t a NoHost) enough what

-- a host that an event names is in the table
there : (hosts : ℕ) (before : List Told) (table : List Host) → Stands hosts before table → (g : ℕ) → 1 ≤ g → g ≤ hosts → number_of (find (is_numbered g) table) ≡ Some g
there hosts before table s g least most =
    find_alike (is_numbered g) (λ n. n == g) table (alike_by (Seen hosts before) (is_numbered g) (λ n. n == g) table (λ x k. refl) s.each)
    ∙ ap (find (λ n. n == g)) s.numbers ∙ find_same (λ n. n == g) (λ n. g == n) (kernels hosts) (λ n. turned n g (n == g) refl) ∙ same_from 1 hosts g least (omega (arith, most))
  where
    turned : (m n : ℕ) (t : Bool) → (m == n) ≡ t → (m == n) ≡ (n == m)
    turned m n true e = e ∙ sym (eq-eqb n m (sym (eqb-true m n e)))
    turned m n false e = e ∙ sym (ne_eqb n m (λ same. eqb-false m n e (sym same)))

owner_same : (hosts : ℕ) (before : List Told) (table : List Host) → Stands hosts before table → (g : ℕ) (f : Option Host) → find (is_numbered g) table ≡ f → number_of f ≡ Some g → borrower_at f ≡ find (λ b. is_loan g b before) (kernels hosts)
owner_same hosts before table s g None e h = absurd (cc)
owner_same hosts before table s g (Some x) e h =
    let known = (found_is (Seen hosts before) (is_numbered g) table x s.each e).0 in
    subst (λ (n : ℕ). x.borrower ≡ find (λ b. is_loan n b before) (kernels hosts)) (some_is x.number g h) (sym (holder_is hosts before x known))

held_at_same : (hosts : ℕ) (before : List Told) (table : List Host) → Stands hosts before table → (g b : ℕ) (f : Option Host) → find (is_numbered g) table ≡ f → number_of f ≡ Some g → is_held_at b f ≡ is_loan g b before
held_at_same hosts before table s g b None e h = absurd (cc)
held_at_same hosts before table s g b (Some x) e h =
    let known = (found_is (Seen hosts before) (is_numbered g) table x s.each e).0 in
    known.held_is b ∙ ap (λ n. is_loan n b before) (some_is x.number g h)

-- each answer
pub reply_same : (hosts : ℕ) (before : List Told) (table : List Host) (e : LendEvent) → Stands hosts before table → IsWithin hosts e → reply_to table e ≡ answer_to hosts before e
reply_same hosts before table (Idle g) s w = refl
reply_same hosts before table (Owner g) s w =
    ap revoked (owner_same hosts before table s g (find (is_numbered g) table) refl (there hosts before table s g w.0 w.1))
reply_same hosts before table (Borrow b) s w =
    ap₂ lent (first_free_same hosts before table s b) (move_same hosts before table s b (most_among table b 0 table) (most_same hosts before table s b))
reply_same hosts before table (Return b g) s w =
    ap (λ t. cond t Returned NotHeld) (held_at_same hosts before table s g b (find (is_numbered g) table) refl (there hosts before table s g w.2 w.3))
reply_same hosts before table (Leave b) s w = ap Left (held_same hosts before table s b)

-- ---- what an answer gives

none_is : (o : Option ℕ) → is_none o ≡ true → o ≡ None
none_is None e = refl
none_is (Some b) e = absurd (true≢false (sym e))

other_number : (m n : ℕ) → not (m == n) ≡ true → m ≢ n
other_number m n e = eqb-false m n (not-true (m == n) e)

gift_free : (hosts : ℕ) (before : List Told) (c n : ℕ) (x : Host) → Seen hosts before x → is_free c x ≡ true → (x.number == n) ≡ true → Gift hosts before c (Lent x.number) n
gift_free hosts before c n x s e same =
    let is : x.number ≡ n = eqb-true x.number n same in
    let outer = and_parts (x.idle && is_none x.borrower) (not (x.number == c)) e in
    let inner = and_parts x.idle (is_none x.borrower) outer.0 in
    record {
      host = x;
      seen = s;
      number_is = is;
      is_idle_now = sym (ap (λ m. is_idle m before) is) ∙ sym s.idle_is ∙ inner.0;
      other = subst (λ (m : ℕ). m ≢ c) is (other_number x.number c outer.1);
      lost = λ b. sym (ap (λ m. is_loan m b before) is) ∙ sym (s.held_is b) ∙ ap (is_holder b) (none_is x.borrower inner.1);
    }

pub held_idle : (hosts number : ℕ) (idle : Bool) (o : Option ℕ) (b : ℕ) → IsKept hosts number idle o → is_holder b o ≡ true → (idle ≡ true) × (number ≢ b)
held_idle hosts number idle None b k e = absurd (true≢false (sym e))
held_idle hosts number idle (Some d) b k e = (k.2, subst (λ (n : ℕ). number ≢ n) (eqb-true d b e) k.3)

taken_held : (o : Option ℕ) (from b : ℕ) (t : Bool) → t ≡ true → is_holder from o ≡ true → (not (t && (from == b)) && is_holder b o) ≡ false
taken_held None from b t h e = absurd (true≢false (sym e))
taken_held (Some d) from b t h e =
    ap (λ u. not (u && (from == b)) && (d == b)) h ∙ subst (λ (n : ℕ). (not (from == b) && (n == b)) ≡ false) (sym (eqb-true d from e)) (not_both (from == b))

gift_moved : (hosts : ℕ) (before : List Told) (c from n : ℕ) (x : Host) → Seen hosts before x → is_other_host from c x ≡ true → (x.number == n) ≡ true → Gift hosts before c (Moved x.number from) n
gift_moved hosts before c from n x s e same =
    let is : x.number ≡ n = eqb-true x.number n same in
    let parts = and_parts (is_held from x) (not (x.number == c)) e in
    record {
      host = x;
      seen = s;
      number_is = is;
      is_idle_now = sym (ap (λ m. is_idle m before) is) ∙ sym s.idle_is ∙ (held_idle hosts x.number x.idle x.borrower from s.kept parts.0).0;
      other = subst (λ (m : ℕ). m ≢ c) is (other_number x.number c parts.1);
      lost = λ b. ap (λ l. not ((x.number == n) && (from == b)) && l) (sym (ap (λ m. is_loan m b before) is) ∙ sym (s.held_is b)) ∙ taken_held x.borrower from b (x.number == n) same parts.0;
    }

no_gift : (hosts : ℕ) (before : List Told) (c n : ℕ) → gives n NoHost ≡ true → Gift hosts before c NoHost n
no_gift hosts before c n e = absurd (true≢false (sym e))

gift_of_host : (hosts : ℕ) (before : List Told) (c from n : ℕ) (o : Option Host) → Passes (Seen hosts before) (is_other_host from c) o → gives n (moved_host from (number_of o)) ≡ true → Gift hosts before c (moved_host from (number_of o)) n
gift_of_host hosts before c from n None k e = no_gift hosts before c n e
gift_of_host hosts before c from n (Some x) k e = gift_moved hosts before c from n x k.0 k.1 e

gift_of_other : (hosts : ℕ) (before : List Told) (table : List Host) (c n : ℕ) (o : Option ℕ) → Stands hosts before table → gives n (move_from table c o) ≡ true → Gift hosts before c (move_from table c o) n
gift_of_other hosts before table c n None s e = no_gift hosts before c n e
gift_of_other hosts before table c n (Some from) s e =
    gift_of_host hosts before c from n (last_from (is_other_host from c) None table) (last_passes (Seen hosts before) (is_other_host from c) None table tt s.each) e

gift_if : (hosts : ℕ) (before : List Told) (c n : ℕ) (t : Bool) (a : LendAnswer) → (gives n a ≡ true → Gift hosts before c a n) → gives n (if t then a else NoHost) ≡ true → Gift hosts before c (if t then a else NoHost) n
gift_if hosts before c n true a h e = h e
gift_if hosts before c n false a h e = no_gift hosts before c n e

gift_lent : (hosts : ℕ) (before : List Told) (table : List Host) (c n : ℕ) (o : Option Host) (other : LendAnswer) → Stands hosts before table → find (is_free c) table ≡ o → (gives n other ≡ true → Gift hosts before c other n) → gives n (lent (number_of o) other) ≡ true → Gift hosts before c (lent (number_of o) other) n
gift_lent hosts before table c n None other s is h e = h e
gift_lent hosts before table c n (Some x) other s is h e =
    let found = found_is (Seen hosts before) (is_free c) table x s.each is in
    gift_free hosts before c n x found.0 found.1 e

pub gifts_of : (hosts : ℕ) (before : List Told) (table : List Host) (e : LendEvent) → Stands hosts before table → Gifts hosts before e (reply_to table e)
gifts_of hosts before table (Idle g) s = tt
gifts_of hosts before table (Owner g) s = tt
gifts_of hosts before table (Borrow c) s = λ n gave.
    let most = most_among table c 0 table in
    gift_lent hosts before table c n (find (is_free c) table) (move_of table c most) s refl
    (gift_if hosts before c n (nat_le (count_held table c + 2) most) (move_from table c (number_of (find (is_rich table c most) table))) (gift_of_other hosts before table c n (number_of (find (is_rich table c most) table)) s)) gave
gifts_of hosts before table (Return c g) s = tt
gifts_of hosts before table (Leave c) s = tt
