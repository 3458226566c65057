-- Who has a file open after an open, a move or a close, and when that is write sharing.
use Rattle.std.proofs.Common.{rules, tests, ◌≡◌, ℕ, ◌+◌, ◌-◌, ◌==◌, nat_le, Bool, true, false, ◌&&◌, ◌||◌, not, cond, List, [], ◌∷◌, Option, Some, None, refl, sym, ap, ◌∙◌, true≢false}
use Rattle.std.specs.List.{find, list_any}
use Rattle.std.proofs.lemmas.Bool.{and_parts, eqb-true}
use Rattle.sprite_ids.specs.declared.StreamNo.{StreamNo}
use Rattle.sprite_ids.specs.declared.Mode.{Mode}
use Rattle.sprite_ids.specs.Lists.{put, less}
use Rattle.sprite_ids.proofs.ListLaws.{some_is}
use Rattle.version_table.specs.declared.opens.Open.{Open}
use Rattle.version_table.specs.declared.action.Action.{Action}
use Rattle.version_table.specs.declared.action.Action.TheVariants.{Opening, Moving}
use Rattle.version_table.specs.Lists.{is_any}
use Rattle.version_table.specs.Modes.{writes}
use Rattle.version_table.specs.Opens.{is_at, open_at, count_in, taking, taken_off, left_by, opened, stream_of, receiver, mode_of, is_writing, has_open, is_elsewhere, is_spread, is_written, is_write_shared}
use Rattle.version_table.specs.Coherence.{has_open_for_writing}

or_more : (a b c d : Bool) → (a ≡ true → b ≡ true) → (c ≡ true → d ≡ true) → (a || c) ≡ true → (b || d) ≡ true
or_more true b c d h k e = ap (λ b. b || d) (h refl)
or_more false true c d h k e = refl
or_more false false c d h k e = k e

-- a test that passes more
any_more : {X : Type 0} (p q : X → Bool) (xs : List X) → ((x : X) → p x ≡ true → q x ≡ true) → list_any p xs ≡ true → list_any q xs ≡ true
any_more p q [] h e = e
any_more p q (x ∷ xs) h e = or_more (p x) (q x) (list_any p xs) (list_any q xs) (h x) (any_more p q xs h) e

-- where an item passes there is one
pub any_there : {X : Type 0} (p : X → Bool) (xs : List X) → list_any p xs ≡ true → is_any xs ≡ true
any_there p [] e = e
any_there p (x ∷ xs) e = refl

turned_in : (a b c : Bool) → (a || (b || c)) ≡ true → (b || (a || c)) ≡ true
turned_in true true c e = refl
turned_in true false c e = refl
turned_in false true c e = refl
turned_in false false c e = e

or_last : (a b : Bool) → b ≡ true → (a || b) ≡ true
or_last true b e = refl
or_last false b e = e

-- an item that passes after one was put is that one, or one of those before
any_of_put : {X : Type 0} (q p : X → Bool) (new : X) (xs : List X) → list_any q (put p new xs) ≡ true → (q new || list_any q xs) ≡ true
any_of_put q p new [] e = e
any_of_put q p new (x ∷ xs) e = by_place (any_of_put q p new xs) (p x) e
  where
    by_place : (list_any q (put p new xs) ≡ true → (q new || list_any q xs) ≡ true) → (b : Bool) → list_any q (cond b (new ∷ xs) (x ∷ put p new xs)) ≡ true → (q new || (q x || list_any q xs)) ≡ true
    by_place later true e = or_more (q new) (q new) (list_any q xs) (q x || list_any q xs) (λ h. h) (or_last (q x) (list_any q xs)) e
    by_place later false e = turned_in (q x) (q new) (list_any q xs) (or_more (q x) (q x) (list_any q (put p new xs)) (q new || list_any q xs) (λ h. h) later e)

-- and the one that was put is there
put_passes : {X : Type 0} (q p : X → Bool) (new : X) (xs : List X) → q new ≡ true → list_any q (put p new xs) ≡ true
put_passes q p new [] e = ap (λ b. b || false) e
put_passes q p new (x ∷ xs) e = by_place (put_passes q p new xs e) (p x)
  where
    by_place : list_any q (put p new xs) ≡ true → (b : Bool) → list_any q (cond b (new ∷ xs) (x ∷ put p new xs)) ≡ true
    by_place later true = ap (λ b. b || list_any q xs) e
    by_place later false = or_last (q x) (list_any q (put p new xs)) later

any_of_less : {X : Type 0} (q p : X → Bool) (xs : List X) → list_any q (less p xs) ≡ true → list_any q xs ≡ true
any_of_less q p [] e = e
any_of_less q p (x ∷ xs) e = by_place (any_of_less q p xs) (p x) e
  where
    by_place : (list_any q (less p xs) ≡ true → list_any q xs ≡ true) → (b : Bool) → list_any q (cond b xs (x ∷ less p xs)) ≡ true → (q x || list_any q xs) ≡ true
    by_place later true e = or_last (q x) (list_any q xs) e
    by_place later false e = or_more (q x) (q x) (list_any q (less p xs)) (list_any q xs) (λ h. h) later e

found_in : {X : Type 0} (q p : X → Bool) (one : X) (xs : List X) → find p xs ≡ Some one → q one ≡ true → list_any q xs ≡ true
found_in q p one [] is e = absurd (cc)
found_in q p one (x ∷ xs) is e = by_place (λ is. found_in q p one xs is e) (p x) is
  where
    by_place : (find p xs ≡ Some one → list_any q xs ≡ true) → (b : Bool) → cond b (Some x) (find p xs) ≡ Some one → (q x || list_any q xs) ≡ true
    by_place later true is = ap (λ b. b || list_any q xs) (ap q (some_is x one is) ∙ e)
    by_place later false is = or_last (q x) (list_any q xs) (later is)

-- a test of an open by its kernel and its mode
abbrev pub test_of : (ℕ → Mode → Bool) → Open → Bool
test_of f one = f one.kernel one.mode

either : (a b : Bool) → (a ≡ true → b ≡ true) → (a || b) ≡ true → b ≡ true
either true b h e = h refl
either false b h e = e

taking_within : (f : ℕ → Mode → Bool) (opens : List Open) (stream : StreamNo) (kernel grants : ℕ) (o : Option Open) → open_at opens stream kernel ≡ o → list_any (test_of f) (taking opens stream kernel grants o) ≡ true → list_any (test_of f) opens ≡ true
taking_within f opens stream kernel grants None is e = e
taking_within f opens stream kernel grants (Some one) is e = by_count (nat_le one.count grants) e
  where
    by_count : (b : Bool) → list_any (test_of f) (cond b (less (is_at stream kernel) opens) (put (is_at stream kernel) (record one { count = one.count - grants }) opens)) ≡ true → list_any (test_of f) opens ≡ true
    by_count true e = any_of_less (test_of f) (is_at stream kernel) opens e
    by_count false e = either (f one.kernel one.mode) (list_any (test_of f) opens) (found_in (test_of f) (is_at stream kernel) one opens is) (any_of_put (test_of f) (is_at stream kernel) (record one { count = one.count - grants }) opens e)

-- what kernels have open after grants were taken off, they had open before
pub taken_within : (f : ℕ → Mode → Bool) (opens : List Open) (stream : StreamNo) (kernel grants : ℕ) → list_any (test_of f) (taken_off opens stream kernel grants) ≡ true → list_any (test_of f) opens ≡ true
taken_within f opens stream kernel grants e = taking_within f opens stream kernel grants (open_at opens stream kernel) refl e

left_within : (f : ℕ → Mode → Bool) (opens : List Open) (action : Action) → list_any (test_of f) (left_by opens action) ≡ true → list_any (test_of f) opens ≡ true
left_within f opens (Opening kernel stream mode truncate) e = e
left_within f opens (Moving stream source target true grants) e = e
left_within f opens (Moving stream source target false grants) e = taken_within f opens stream source grants e

-- after an open or a move, the receiving kernel has the stream open, and other kernels have nothing new
pub opened_within : (f : ℕ → Mode → Bool) (opens : List Open) (action : Action) → list_any (test_of f) (opened opens action) ≡ true → (f (receiver action) (mode_of opens action) || list_any (test_of f) opens) ≡ true
opened_within f opens action e =
    let here = f (receiver action) (mode_of opens action) in
    let all = left_by opens action in
    let one : Open = record { stream = stream_of action; kernel = receiver action; mode = mode_of opens action; count = count_in (open_at all (stream_of action) (receiver action)) + 1 } in
    or_more here here (list_any (test_of f) all) (list_any (test_of f) opens) (λ h. h) (left_within f opens action) (any_of_put (test_of f) (is_at (stream_of action) (receiver action)) one all e)

itself : (n : ℕ) → (n == n) ≡ true
itself n = search (rules, tests)

pub receiver_has_open : (opens : List Open) (action : Action) → has_open (opened opens action) (receiver action) ≡ true
receiver_has_open opens action =
    let all = left_by opens action in
    let one : Open = record { stream = stream_of action; kernel = receiver action; mode = mode_of opens action; count = count_in (open_at all (stream_of action) (receiver action)) + 1 } in
    put_passes (λ one. one.kernel == receiver action) (is_at (stream_of action) (receiver action)) one all (itself (receiver action))

and_false_last : (a b : Bool) → b ≡ false → (a && b) ≡ false
and_false_last true b e = e
and_false_last false b e = refl

-- an open or a move that isn't for writing leaves no kernel writing that wasn't
pub no_new_writer : (opens : List Open) (action : Action) (kernel : ℕ) → is_writing opens action ≡ false → has_open_for_writing (opened opens action) kernel ≡ true → has_open_for_writing opens kernel ≡ true
no_new_writer opens action kernel e h =
    let either_one = opened_within (λ at mode. (at == kernel) && writes mode) opens action h in
    either ((receiver action == kernel) && is_writing opens action) (has_open_for_writing opens kernel) (λ new. absurd (true≢false (sym new ∙ and_false_last (receiver action == kernel) (is_writing opens action) e))) either_one

second : (a b : Bool) → (a && b) ≡ true → b ≡ true
second a b e = (and_parts a b e).1

-- a file that a kernel has open for writing is one that any has open for writing
pub writer_writes : (opens : List Open) (kernel : ℕ) → has_open_for_writing opens kernel ≡ true → is_written opens ≡ true
writer_writes opens kernel h = any_more (λ (one : Open). (one.kernel == kernel) && writes one.mode) (λ (one : Open). writes one.mode) opens (λ one e. second (one.kernel == kernel) (writes one.mode) e) h

-- and one that is open
pub writer_opens : (opens : List Open) (kernel : ℕ) → has_open_for_writing opens kernel ≡ true → is_any opens ≡ true
writer_opens opens kernel h = any_there (λ (one : Open). (one.kernel == kernel) && writes one.mode) opens h

-- a file that any kernel has open for writing is one that a certain kernel has
pub some_writer : (opens : List Open) → is_written opens ≡ true → (kernel : ℕ) × (has_open_for_writing opens kernel ≡ true)
some_writer [] h = absurd (cc)
some_writer (one ∷ opens) h = by_first (some_writer opens) (writes one.mode) refl h
  where
    by_first : (is_written opens ≡ true → (kernel : ℕ) × (has_open_for_writing opens kernel ≡ true)) → (b : Bool) → writes one.mode ≡ b → (b || is_written opens) ≡ true → (kernel : ℕ) × (has_open_for_writing (one ∷ opens) kernel ≡ true)
    by_first later true e h = (one.kernel, ap (λ b. (b && writes one.mode) || has_open_for_writing opens one.kernel) (itself one.kernel) ∙ ap (λ b. b || has_open_for_writing opens one.kernel) e)
    by_first later false e h = let other = later h in (other.0, or_last ((one.kernel == other.0) && writes one.mode) (has_open_for_writing opens other.0) other.1)

differs : (at other kernel : ℕ) → (other == kernel) ≡ false → (at == other) ≡ true → not (at == kernel) ≡ true
differs at other kernel e is = ap (λ n. not (n == kernel)) (eqb-true at other is) ∙ ap not e

spread_by : (opens : List Open) (writer other : ℕ) → (other == writer) ≡ false → has_open_for_writing opens writer ≡ true → has_open opens other ≡ true → is_write_shared opens ≡ true
spread_by opens writer other e writing there =
    let elsewhere : is_elsewhere opens writer ≡ true = any_more (λ (one : Open). one.kernel == other) (λ (one : Open). not (one.kernel == writer)) opens (λ one is. differs one.kernel other writer e is) there in
    let spread : is_spread opens ≡ true = any_more (λ (one : Open). (one.kernel == writer) && writes one.mode) (λ (one : Open). is_elsewhere opens one.kernel) opens (λ one is. ap (is_elsewhere opens) (eqb-true one.kernel writer (and_parts (one.kernel == writer) (writes one.mode) is).0) ∙ elsewhere) writing in
    ap (λ b. b && is_written opens) spread ∙ writer_writes opens writer writing

-- where a file isn't write shared, a kernel that has it open for writing is the only one that has it open
pub writer_is_alone : (opens : List Open) (writer other : ℕ) → is_write_shared opens ≡ false → has_open_for_writing opens writer ≡ true → has_open opens other ≡ true → (other == writer) ≡ true
writer_is_alone opens writer other apart writing there = by_kernel (other == writer) refl
  where
    by_kernel : (b : Bool) → (other == writer) ≡ b → (other == writer) ≡ true
    by_kernel true e = e
    by_kernel false e = absurd (true≢false (sym (spread_by opens writer other e writing there) ∙ apart))

-- fewer opens aren't write shared where the others weren't
pub apart_within : (opens fewer : List Open) → ((f : ℕ → Mode → Bool) → list_any (test_of f) fewer ≡ true → list_any (test_of f) opens ≡ true) → is_write_shared opens ≡ false → is_write_shared fewer ≡ false
apart_within opens fewer within apart = by_shared (is_write_shared fewer) refl
  where
    by_shared : (b : Bool) → is_write_shared fewer ≡ b → is_write_shared fewer ≡ false
    by_shared false e = e
    by_shared true e =
        let parts = and_parts (is_spread fewer) (is_written fewer) e in
        let spread : is_spread opens ≡ true = within (λ kernel mode. is_elsewhere opens kernel) (any_more (λ (one : Open). is_elsewhere fewer one.kernel) (λ (one : Open). is_elsewhere opens one.kernel) fewer (λ one h. within (λ kernel mode. not (kernel == one.kernel)) h) parts.0) in
        let written : is_written opens ≡ true = within (λ kernel mode. writes mode) parts.1 in
        absurd (true≢false (sym (ap (λ b. b && is_written opens) spread ∙ written) ∙ apart))
