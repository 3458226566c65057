-- What is known of a host after an event is what the events with that one tell of it.
use Rattle.std.proofs.Common.{◌≡◌, ◌≢◌, ◌≤◌, ◌<◌, ℕ, zero, suc, ◌+◌, ◌-◌, ◌==◌, Bool, true, false, ◌&&◌, ◌||◌, not, if◌then◌else◌, List, [], ◌∷◌, ◌++◌, map, length, take, drop, set, get_or, Option, Some, None, max, refl, sym, ap, ap₂, ◌∙◌, subst, arith, eqb-true, true≢false, append_assoc}
use Rattle.std.proofs.lemmas.List.{drop_more}
use Rattle.std.proofs.lemmas.Bool.{and_parts}
use Rattle.host_lending.specs.declared.event.LendEvent.{LendEvent}
use Rattle.host_lending.specs.declared.event.LendEvent.TheVariants.{Idle, Owner, Borrow, Return, Leave}
use Rattle.host_lending.specs.declared.answer.LendAnswer.{LendAnswer}
use Rattle.host_lending.specs.declared.answer.LendAnswer.TheVariants.{Noted, Revoked, Lent, Moved, NoHost, Returned, NotHeld, Left}
use Rattle.host_lending.specs.declared.host.Host.{Host}
use Rattle.host_lending.specs.Lending.{Told, kernels_from, is_idle, is_loan, gives, takes, IsWithin}
use Rattle.host_lending.specs.Tables.{is_holder, is_held, noted, IsKept, Seen, busy, busy_hosts, most_among, count_held}

-- ---- Bools

pub not_both : (b : Bool) → (not b && b) ≡ false
not_both true = refl
not_both false = refl

and_true : (b : Bool) → b ≡ ((b && true) || false)
and_true true = refl
and_true false = refl

and_none : (b rest : Bool) → rest ≡ ((b && false) || rest)
and_none true rest = refl
and_none false rest = refl

none_and : (b : Bool) → false ≡ (not b && false)
none_and true = refl
none_and false = refl

-- ---- a borrower who gives a host back holds it no more, and no other loses it

gone : (o : Option ℕ) (c b : ℕ) → is_holder c o ≡ true → (not (c == b) && is_holder b o) ≡ false
gone None c b e = absurd (true≢false (sym e))
gone (Some d) c b e = subst (λ (n : ℕ). (not (c == b) && (n == b)) ≡ false) (sym (eqb-true d c e)) (not_both (c == b))

stays_at : (d c b : ℕ) (t : Bool) → (c == b) ≡ t → (d == c) ≡ false → (d == b) ≡ (not t && (d == b))
stays_at d c b true e f = subst (λ (n : ℕ). (d == n) ≡ false) (eqb-true c b e) f
stays_at d c b false e f = refl

stays_held : (o : Option ℕ) (c b : ℕ) → is_holder c o ≡ false → is_holder b o ≡ (not (c == b) && is_holder b o)
stays_held None c b e = none_and (c == b)
stays_held (Some d) c b e = stays_at d c b (c == b) refl e

-- ---- a host after each kind of event

idle_kept : (hosts number : ℕ) (idle : Bool) (o : Option ℕ) → IsKept hosts number idle o → IsKept hosts number true o
idle_kept hosts number idle None k = tt
idle_kept hosts number idle (Some b) k = (k.0, k.1, refl, k.3)

seen_idle : (hosts : ℕ) (before : List Told) (g : ℕ) (a : LendAnswer) (x : Host) (t : Bool) → Seen hosts before x → (g == x.number) ≡ t → Seen hosts ((Idle g, a) ∷ before) (if t then record x { idle = true } else x)
seen_idle hosts before g a x true s e = record {
  idle_is = sym (ap (λ b. b || is_idle x.number before) e);
  held_is = s.held_is;
  kept = idle_kept hosts x.number x.idle x.borrower s.kept;
}
seen_idle hosts before g a x false s e = record {
  idle_is = s.idle_is ∙ sym (ap (λ b. b || is_idle x.number before) e);
  held_is = s.held_is;
  kept = s.kept;
}

seen_owner : (hosts : ℕ) (before : List Told) (g : ℕ) (a : LendAnswer) (x : Host) (t : Bool) → Seen hosts before x → (g == x.number) ≡ t → Seen hosts ((Owner g, a) ∷ before) (if t then record x { idle = false; borrower = None } else x)
seen_owner hosts before g a x true s e = record {
  idle_is = sym (ap (λ b. not b && is_idle x.number before) e);
  held_is = λ b. sym (ap (λ t. not t && is_loan x.number b before) e);
  kept = tt;
}
seen_owner hosts before g a x false s e = record {
  idle_is = s.idle_is ∙ sym (ap (λ b. not b && is_idle x.number before) e);
  held_is = λ b. s.held_is b ∙ sym (ap (λ t. not t && is_loan x.number b before) e);
  kept = s.kept;
}

-- what an answer gives to c: a host of the table that is idle, another than c, and nobody's from now on
pub record Gift (hosts : ℕ) (before : List Told) (c : ℕ) (a : LendAnswer) (n : ℕ) : Type 0 where
  pub host : Host
  pub seen : Seen hosts before host
  pub number_is : host.number ≡ n
  pub is_idle_now : is_idle n before ≡ true
  pub other : n ≢ c
  pub lost : (b : ℕ) → (not (takes n b a) && is_loan n b before) ≡ false

takes_none : (n b : ℕ) (a : LendAnswer) → gives n a ≡ false → takes n b a ≡ false
takes_none n b (Moved host from) e = ap (λ t. t && (from == b)) e
takes_none n b (Lent host) e = refl
takes_none n b Noted e = refl
takes_none n b (Revoked borrower) e = refl
takes_none n b NoHost e = refl
takes_none n b Returned e = refl
takes_none n b NotHeld e = refl
takes_none n b (Left count) e = refl

seen_borrow : (hosts : ℕ) (before : List Told) (c : ℕ) (a : LendAnswer) (x : Host) (t : Bool) → (1 ≤ c) × (c ≤ hosts) → (gives x.number a ≡ true → Gift hosts before c a x.number) → Seen hosts before x → gives x.number a ≡ t → Seen hosts ((Borrow c, a) ∷ before) (if t then record x { borrower = Some c } else x)
seen_borrow hosts before c a x true within gift s e =
    let gave = gift e in
    record {
      idle_is = s.idle_is;
      held_is = λ b. and_true (c == b) ∙ sym (ap₂ (λ t u. ((c == b) && t) || u) e (gave.lost b));
      kept = (within.0, within.1, s.idle_is ∙ gave.is_idle_now, gave.other);
    }
seen_borrow hosts before c a x false within gift s e = record {
  idle_is = s.idle_is;
  held_is = λ b. s.held_is b ∙ and_none (c == b) (is_loan x.number b before) ∙ sym (ap₂ (λ t u. ((c == b) && t) || (not u && is_loan x.number b before)) e (takes_none x.number b a e));
  kept = s.kept;
}

returned_else : (b c : ℕ) (o : Option ℕ) (loan g : Bool) → is_holder b o ≡ loan → (g && is_holder c o) ≡ false → is_holder b o ≡ (not (g && (c == b)) && loan)
returned_else b c o loan true e f = stays_held o c b f ∙ ap (λ l. not (c == b) && l) e
returned_else b c o loan false e f = e

seen_return : (hosts : ℕ) (before : List Told) (c g : ℕ) (a : LendAnswer) (x : Host) (t : Bool) → Seen hosts before x → ((g == x.number) && is_held c x) ≡ t → Seen hosts ((Return c g, a) ∷ before) (if t then record x { borrower = None } else x)
seen_return hosts before c g a x true s e =
    let parts = and_parts (g == x.number) (is_held c x) e in
    record {
      idle_is = s.idle_is;
      held_is = λ b. sym (ap₂ (λ t l. not (t && (c == b)) && l) parts.0 (sym (s.held_is b)) ∙ gone x.borrower c b parts.1);
      kept = tt;
    }
seen_return hosts before c g a x false s e = record {
  idle_is = s.idle_is;
  held_is = λ b. returned_else b c x.borrower (is_loan x.number b before) (g == x.number) (s.held_is b) e;
  kept = s.kept;
}

seen_leave : (hosts : ℕ) (before : List Told) (c : ℕ) (a : LendAnswer) (x : Host) (t : Bool) → Seen hosts before x → is_held c x ≡ t → Seen hosts ((Leave c, a) ∷ before) (if t then record x { borrower = None } else x)
seen_leave hosts before c a x true s e = record {
  idle_is = s.idle_is;
  held_is = λ b. sym (ap (λ l. not (c == b) && l) (sym (s.held_is b)) ∙ gone x.borrower c b e);
  kept = tt;
}
seen_leave hosts before c a x false s e = record {
  idle_is = s.idle_is;
  held_is = λ b. stays_held x.borrower c b e ∙ ap (λ l. not (c == b) && l) (s.held_is b);
  kept = s.kept;
}

-- what an event's answer gives
abbrev pub Gifts : ℕ → List Told → LendEvent → LendAnswer → Type 0
Gifts hosts before (Borrow c) a = (n : ℕ) → gives n a ≡ true → Gift hosts before c a n
Gifts hosts before (Idle g) a = Unit {0}
Gifts hosts before (Owner g) a = Unit {0}
Gifts hosts before (Return c g) a = Unit {0}
Gifts hosts before (Leave c) a = Unit {0}

-- every host
pub seen_noted : (hosts : ℕ) (before : List Told) (e : LendEvent) (a : LendAnswer) (x : Host) → IsWithin hosts e → Gifts hosts before e a → Seen hosts before x → Seen hosts ((e, a) ∷ before) (noted e a x)
seen_noted hosts before (Idle g) a x w gifts s = seen_idle hosts before g a x (g == x.number) s refl
seen_noted hosts before (Owner g) a x w gifts s = seen_owner hosts before g a x (g == x.number) s refl
seen_noted hosts before (Borrow c) a x w gifts s = seen_borrow hosts before c a x (gives x.number a) w (gifts x.number) s refl
seen_noted hosts before (Return c g) a x w gifts s = seen_return hosts before c g a x ((g == x.number) && is_held c x) s refl
seen_noted hosts before (Leave c) a x w gifts s = seen_leave hosts before c a x (is_held c x) s refl

number_if : (t : Bool) (x y : Host) → x.number ≡ y.number → (if t then x else y).number ≡ y.number
number_if true x y e = e
number_if false x y e = refl

-- a host keeps its number
pub number_noted : (e : LendEvent) (a : LendAnswer) (x : Host) → (noted e a x).number ≡ x.number
number_noted (Idle g) a x = number_if (g == x.number) (record x { idle = true }) x refl
number_noted (Owner g) a x = number_if (g == x.number) (record x { idle = false; borrower = None }) x refl
number_noted (Borrow c) a x = number_if (gives x.number a) (record x { borrower = Some c }) x refl
number_noted (Return c g) a x = number_if ((g == x.number) && is_held c x) (record x { borrower = None }) x refl
number_noted (Leave c) a x = number_if (is_held c x) (record x { borrower = None }) x refl

-- one more host of a list that each note
pub noted_more : (f : Host → Host) (xs : List Host) (i : ℕ) (d : Host) → i < length xs → set (map f (take i xs) ++ drop i xs) i (f (get_or (map f (take i xs) ++ drop i xs) i d)) ≡ map f (take (suc i) xs) ++ drop (suc i) xs
noted_more f [] i d l = absurd (omega (arith, l))
noted_more f (x ∷ xs) zero d l = refl
noted_more f (x ∷ xs) (suc i) d l = let less : i < length xs = omega (arith, l) in ap (λ ys. f x ∷ ys) (noted_more f xs i d less)

-- the kernels from one on, where it is among them
kernels_more : (hosts number : ℕ) → number ≤ hosts → kernels_from number (hosts + 1 - number) ≡ number ∷ kernels_from (number + 1) (hosts + 1 - (number + 1))
kernels_more hosts number within =
    let more : hosts + 1 - number ≡ suc (hosts + 1 - (number + 1)) = omega arith in
    ap (kernels_from number) more

-- one host more of a table that holds the hosts so far
pub filled : (hosts number : ℕ) (table after : List Host) (kernel : ℕ) → number ≤ hosts → table ++ map busy (kernels_from number (hosts + 1 - number)) ≡ busy_hosts hosts → kernel ≡ number → after ≡ table ++ busy kernel ∷ [] → after ++ map busy (kernels_from (number + 1) (hosts + 1 - (number + 1))) ≡ busy_hosts hosts
filled hosts number table after kernel within all same pushed =
    let rest : List Host = map busy (kernels_from (number + 1) (hosts + 1 - (number + 1))) in
    ap (λ (xs : List Host). xs ++ rest) (pushed ∙ ap (λ (n : ℕ). table ++ busy n ∷ []) same)
    ∙ append_assoc table (busy number ∷ []) rest
    ∙ sym (ap (λ (ns : List ℕ). table ++ map busy ns) (kernels_more hosts number within))
    ∙ all

-- one host less to look at, whose kernel isn't b
pub most_more : (table hosts : List Host) (b most i : ℕ) (host : Host) → hosts ≡ table → i < length hosts → host ≡ get_or hosts i host → (host.number == b) ≡ false → most_among table b most (drop i table) ≡ most_among table b (max most (count_held table host.number)) (drop (i + 1) table)
most_more table hosts b most i host same less is other =
    let here = drop_more hosts i host less ∙ ap (λ (x : Host). x ∷ drop (i + 1) hosts) (sym is) in
    ap (most_among table b most) (subst (λ (xs : List Host). drop i xs ≡ host ∷ drop (i + 1) xs) same here)
    ∙ ap (λ (t : Bool). most_among table b (if t then most else max most (count_held table host.number)) (drop (i + 1) table)) other
