-- Which of some devices a stream is the master's of, and devices that change.
use Rattle.std.proofs.Common.{◌≡◌, ◌+◌, ◌<◌, ◌≤◌, ◌||◌, ℕ, Bool, true, false, cond, not, zero, suc, arith, List, [], ◌∷◌, ◌++◌, length, take, drop, get_or, remove, Option, Some, None, is_some, refl, sym, ap, ◌∙◌, add-one, drop-cons}
use Rattle.std.specs.Prelude.{◌==◌}
use Rattle.std.specs.List.{list_any}
use Rattle.std.specs.Option.{option_and_then}
use Rattle.std.proofs.lemmas.Bool.{eq-eqb, ne_eqb}
use Rattle.sprite_ids.proofs.ListLaws.{some_is}
use Rattle.unix_calls.specs.declared.state.Answer.{Answer}
use Rattle.unix_calls.specs.declared.state.Ask.{Ask}
use Rattle.unix_calls.specs.declared.state.Device.{Device}
use Rattle.unix_calls.specs.declared.state.Stream.{Stream}
use Rattle.unix_calls.specs.DeviceCalls.{without_answer}
use Rattle.unix_calls.specs.State.{is_master_of, leads_to_master, stream_at}
use Rattle.unix_calls.proofs.ProcessLaws.{Compared, Same, Less, More, compared}
use Rattle.unix_world.specs.Devices.{IsFor, has_place, taken_by}

pub none_any : {X : Type 0} (xs : List X) → list_any (λ (x : X). false) xs ≡ false
none_any [] = refl
none_any (x ∷ xs) = none_any xs

any_same : {X : Type 0} (p q : X → Bool) (xs : List X) → ((x : X) → p x ≡ q x) → list_any p xs ≡ list_any q xs
any_same p q [] same = refl
any_same p q (x ∷ xs) same = ap (λ (b : Bool). b || list_any p xs) (same x) ∙ ap (λ (b : Bool). q x || b) (any_same p q xs same)

or_moved : (a b c d : Bool) → ((a || b) || (c || d)) ≡ ((a || c) || (b || d))
or_moved true b c d = refl
or_moved false true true d = refl
or_moved false true false d = refl
or_moved false false c d = refl

any_or : {X : Type 0} (p q : X → Bool) (xs : List X) → list_any (λ (x : X). p x || q x) xs ≡ (list_any p xs || list_any q xs)
any_or p q [] = refl
any_or p q (x ∷ xs) = ap (λ (b : Bool). (p x || q x) || b) (any_or p q xs) ∙ or_moved (p x) (q x) (list_any p xs) (list_any q xs)

past : {X : Type 0} (xs : List X) (i : ℕ) → length xs ≤ i → drop i xs ≡ []
past [] zero h = refl
past [] (suc i) h = refl
past (x ∷ xs) zero h = absurd (omega (arith, h))
past (x ∷ xs) (suc i) h = past xs i (omega (arith, h))

-- a descriptor more
pub leads_more : (streams : List Stream) (devices : List Device) (o : Option ℕ) (os : List (Option ℕ)) → list_any (λ (d : Device). list_any (leads_to_master streams d.place) (o ∷ os)) devices ≡ (list_any (λ (d : Device). leads_to_master streams d.place o) devices || list_any (λ (d : Device). list_any (leads_to_master streams d.place) os) devices)
leads_more streams devices o os = any_or (λ (d : Device). leads_to_master streams d.place o) (λ (d : Device). list_any (leads_to_master streams d.place) os) devices

pub leads_at : (streams : List Stream) (devices : List Device) (os : List (Option ℕ)) (i : ℕ) (o : Option ℕ) → i < length os → list_any (λ (d : Device). list_any (leads_to_master streams d.place) (drop i os)) devices ≡ (list_any (λ (d : Device). leads_to_master streams d.place (get_or os i o)) devices || list_any (λ (d : Device). list_any (leads_to_master streams d.place) (drop (i + 1) os)) devices)
leads_at streams devices os i o inside =
    let cut : drop i os ≡ get_or os i o ∷ drop (i + 1) os = rw add-one (drop-cons os i o inside) in
    ap (λ (l : List (Option ℕ)). list_any (λ (d : Device). list_any (leads_to_master streams d.place) l) devices) cut ∙ leads_more streams devices (get_or os i o) (drop (i + 1) os)

pub leads_none : (streams : List Stream) (devices : List Device) (os : List (Option ℕ)) (i : ℕ) → length os ≤ i → list_any (λ (d : Device). list_any (leads_to_master streams d.place) (drop i os)) devices ≡ false
leads_none streams devices os i h =
    ap (λ (l : List (Option ℕ)). list_any (λ (d : Device). list_any (leads_to_master streams d.place) l) devices) (past os i h) ∙ none_any devices

pub leads_free : (streams : List Stream) (devices : List Device) → list_any (λ (d : Device). leads_to_master streams d.place None) devices ≡ false
leads_free streams devices = none_any devices

stands_by : (s : Stream) (b : Bool) → is_some (cond b (Some s) None) ≡ b
stands_by s true = refl
stands_by s false = refl

pub leads_there : (streams : List Stream) (devices : List Device) (place : ℕ) (s : Stream) → stream_at streams place ≡ Some s → list_any (λ (d : Device). leads_to_master streams d.place (Some place)) devices ≡ list_any (λ (d : Device). is_master_of d.place s.object) devices
leads_there streams devices place s found =
    any_same (λ (d : Device). leads_to_master streams d.place (Some place)) (λ (d : Device). is_master_of d.place s.object) devices
    (λ d. ap (λ (o : Option Stream). is_some (option_and_then (λ (t : Stream). cond (is_master_of d.place t.object) (Some t) None) o)) found ∙ stands_by s (is_master_of d.place s.object))

pub leads_nowhere : (streams : List Stream) (devices : List Device) (place : ℕ) → stream_at streams place ≡ None → list_any (λ (d : Device). leads_to_master streams d.place (Some place)) devices ≡ false
leads_nowhere streams devices place none =
    any_same (λ (d : Device). leads_to_master streams d.place (Some place)) (λ (d : Device). false) devices
    (λ d. ap (λ (o : Option Stream). is_some (option_and_then (λ (t : Stream). cond (is_master_of d.place t.object) (Some t) None) o)) none)
    ∙ none_any devices

-- ---- answers that go

-- the answer at a place goes, or stays
gone_by : (a : Answer) (rest : List Answer) (pid : ℕ) (b : Bool) → (a.pid == pid) ≡ b → without_answer pid (a ∷ rest) ≡ cond (not b) (a ∷ without_answer pid rest) (without_answer pid rest)
gone_by a rest pid b e = ap (λ (x : Bool). cond (not x) (a ∷ without_answer pid rest) (without_answer pid rest)) e

pub drop_one : (answers : List Answer) (at pid : ℕ) → at < length answers → IsFor answers at pid true → take at (remove answers at) ++ without_answer pid (drop at (remove answers at)) ≡ take at answers ++ without_answer pid (drop at answers)
drop_one [] at pid h is = absurd (omega arith)
drop_one (a ∷ rest) zero pid h is =
    let one = some_is a is.answer is.there in
    sym (gone_by a rest pid true (ap (λ (x : Answer). x.pid == pid) one ∙ is.test))
drop_one (a ∷ rest) (suc at) pid h is =
    ap (λ l. a ∷ l) (drop_one rest at pid (omega (arith, h)) (record { answer = is.answer; there = is.there; test = is.test }))

pub keep_one : (answers : List Answer) (at pid : ℕ) → at < length answers → IsFor answers at pid false → take (suc at) answers ++ without_answer pid (drop (suc at) answers) ≡ take at answers ++ without_answer pid (drop at answers)
keep_one [] at pid h is = absurd (omega arith)
keep_one (a ∷ rest) zero pid h is =
    let one = some_is a is.answer is.there in
    sym (gone_by a rest pid false (ap (λ (x : Answer). x.pid == pid) one ∙ is.test))
keep_one (a ∷ rest) (suc at) pid h is =
    ap (λ l. a ∷ l) (keep_one rest at pid (omega (arith, h)) (record { answer = is.answer; there = is.there; test = is.test }))

-- ---- a device that changes

pub taken_place : (d : Device) (asks : List Ask) → (taken_by d asks).place ≡ d.place
taken_place d [] = refl
taken_place d (ask ∷ asks) = refl

turned_by : (m n : ℕ) → Compared m n → (m == n) ≡ (n == m)
turned_by m n (Same e) = eq-eqb m n e ∙ sym (eq-eqb n m (sym e))
turned_by m n (Less l) = ne_eqb m n (λ (e : m ≡ n). omega (arith, e, l)) ∙ sym (ne_eqb n m (λ (e : n ≡ m). omega (arith, e, l)))
turned_by m n (More l) = ne_eqb m n (λ (e : m ≡ n). omega (arith, e, l)) ∙ sym (ne_eqb n m (λ (e : n ≡ m). omega (arith, e, l)))

pub any_turned : (place : ℕ) (devices : List Device) → list_any (has_place place) devices ≡ list_any (λ (d : Device). place == d.place) devices
any_turned place devices =
    any_same (has_place place) (λ (d : Device). place == d.place) devices (λ d. turned_by d.place place (compared d.place place))
