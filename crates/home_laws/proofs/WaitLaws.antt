-- What a home tells a `wait` against the one-kernel Unix.
use Rattle.std.proofs.Common.{◌≡◌, ◌+◌, ◌==◌, ℕ, suc, Bool, true, false, ◌&&◌, ◌||◌, cond, not, nat_lt, List, [], ◌∷◌, length, filter, slice_get, slice_set, Option, Some, None, option_map, refl, sym, ap, subst, ◌∙◌, arith}
use Rattle.std.specs.Prelude.{unwrap_or}
use Rattle.std.proofs.Math.Dec.{leb-suc-suc}
use Rattle.std.proofs.lemmas.Bool.{le-leb, eqb-true, eq-eqb, true≢false}
use Rattle.std.specs.List.{AllByRecursion, list_any, position, position_or_len}
use Rattle.std.specs.Option.{is_some}
use Rattle.sprite_ids.specs.Pid.{home_of}
use Rattle.sprite_ids.specs.declared.Ending.{Ending}
use Rattle.sprite_ids.specs.declared.Ending.TheVariants as ending
use Rattle.unix_calls.specs.declared.state.Process.{Process}
use Rattle.unix_calls.specs.ProcessCalls.{is_unwaited, ended_ones, status_of}
use Rattle.home_table.specs.declared.Birth.{Birth}
use Rattle.home_table.specs.declared.Life.{Life}
use Rattle.home_table.specs.declared.Life.TheVariants.{Living, Ended, Waited}
use Rattle.home_table.specs.declared.WaitAnswer.{WaitAnswer}
use Rattle.home_table.specs.declared.WaitAnswer.TheVariants.{Child, NoChild, NotYet}
use Rattle.home_table.specs.Home as homes
use Rattle.home_table.specs.Home.{Table, pid_at, is_parent, is_child, is_ended, is_ended_child, is_unwaited_child, told, answer, wait_answer, waiting, waited, telling, put}
use Rattle.unix_frames.specs.Order.{IsKin, IsOfHome}
use Rattle.home_laws.specs.Homes.{of_home, ending_in, was_waited, AreBorn}

-- ---- the first place at which a test passes

first_place : {X : Type 0} (p : X → Bool) (x : X) (xs : List X) → position p (x ∷ xs) ≡ cond (p x) (Some 0) (option_map suc (position p xs))
first_place p x xs =
    let k = position_or_len p xs in
    let n = length xs in
    let on : 1 + k ≡ suc k = omega arith in
    elim (p x) as (λ b. cond (nat_lt (cond (not b) (1 + k) 0) (suc n)) (Some (cond (not b) (1 + k) 0)) None ≡ cond b (Some 0) (option_map suc (cond (nat_lt k n) (Some k) None))) [
      | true ↦ ap (λ b. cond b (Some 0) None) (leb-suc-suc 0 n ∙ le-leb 0 n (omega arith))
      | false ↦
          ap (λ m. cond (nat_lt m (suc n)) (Some m) None) on
          ∙ ap (λ b. cond b (Some (suc k)) None) (leb-suc-suc (suc k) n)
          ∙ elim (nat_lt k n) as (λ b. cond b (Some (suc k)) None ≡ option_map suc (cond b (Some k) None)) [ true ↦ refl | false ↦ refl ]
    ]

pub record Passing {X : Type 0} (p : X → Bool) (xs : List X) (place : ℕ) : Type 0 where
  pub item : X
  pub got : slice_get xs place ≡ Some item
  pub passes : p item ≡ true

passing : {X : Type 0} (p : X → Bool) (xs : List X) (place : ℕ) → position p xs ≡ Some place → Passing p xs place
passing p [] place e = absurd (cc)
passing p (x ∷ xs) place e = by (p x) refl (position p xs) refl (sym (first_place p x xs) ∙ e) (passing p xs)
  where
    by : (b : Bool) → p x ≡ b → (o : Option ℕ) → position p xs ≡ o → cond b (Some 0) (option_map suc o) ≡ Some place → ((k : ℕ) → position p xs ≡ Some k → Passing p xs k) → Passing p (x ∷ xs) place
    by true is o found e on =
        let here : 0 ≡ place = cc in
        subst (λ k. Passing p (x ∷ xs) k) here (record { item = x; got = refl; passes = is })
    by false is None found e on = absurd (cc)
    by false is (Some k) found e on =
        let here : suc k ≡ place = cc in
        let further = on k found in
        subst (λ k. Passing p (x ∷ xs) k) here (record { item = further.item; got = further.got; passes = further.passes })

-- ---- the answer

-- what a `wait` is told of the unwaited children, and of those of them that have ended
abbrev pub told_children : List Process → List Process → WaitAnswer
told_children [] ends = NoChild
told_children (child ∷ children) [] = NotYet
told_children (child ∷ children) (first ∷ rest) = Child first.pid (status_of first.ending)

status_same : (how : Ending) → homes.status_of how ≡ status_of (Some how)
status_same (ending.Exit code) = refl
status_same ending.Bad = refl
status_same ending.Killed = refl

-- what a home tells of its births from a place on
abbrev answer_at : ℕ → ℕ → List Birth → Option ℕ → Bool → WaitAnswer
answer_at home at bs (Some place) left = told (pid_at home (at + place)) (option_map (λ (b : Birth). b.life) (slice_get bs place))
answer_at home at bs None true = NotYet
answer_at home at bs None false = NoChild

-- one child more that waits
abbrev some_child : WaitAnswer → WaitAnswer
some_child NoChild = NotYet
some_child NotYet = NotYet
some_child (Child pid status) = Child pid status

told_child : (pid : ℕ) (o : Option Life) → some_child (told pid o) ≡ told pid o
told_child pid None = refl
told_child pid (Some (Living pending)) = refl
told_child pid (Some (Ended how)) = refl
told_child pid (Some (Waited how)) = refl

numbered_on : (home at place : ℕ) → pid_at home (at + suc place) ≡ pid_at home (at + 1 + place)
numbered_on home at place = ap (pid_at home) (omega arith)

answer_on : (home at : ℕ) (b : Birth) (bs : List Birth) (o : Option ℕ) (left : Bool) → answer_at home at (b ∷ bs) (option_map suc o) left ≡ answer_at home (at + 1) bs o left
answer_on home at b bs (Some place) left = ap (λ n. told n (option_map (λ (b : Birth). b.life) (slice_get bs place))) (numbered_on home at place)
answer_on home at b bs None true = refl
answer_on home at b bs None false = refl

answer_child : (home at : ℕ) (b : Birth) (bs : List Birth) (o : Option ℕ) (left : Bool) → answer_at home at (b ∷ bs) (option_map suc o) true ≡ some_child (answer_at home (at + 1) bs o left)
answer_child home at b bs (Some place) left = answer_on home at b bs (Some place) true ∙ sym (told_child (pid_at home (at + 1 + place)) (option_map (λ (b : Birth). b.life) (slice_get bs place)))
answer_child home at b bs None true = refl
answer_child home at b bs None false = refl

told_more : (q : Process) (us : List Process) → some_child (told_children us (ended_ones us)) ≡ told_children (q ∷ us) (ended_ones us)
told_more q [] = refl
told_more q (u ∷ us) = by (ended_ones (u ∷ us))
  where
    by : (es : List Process) → some_child (told_children (u ∷ us) es) ≡ told_children (q ∷ u ∷ us) es
    by [] = refl
    by (e ∷ es) = refl

-- whether it is a child, on both sides
parent_is : (pid : ℕ) (o : Option ℕ) → unwrap_or (option_map (λ parent. parent == pid) o) false ≡ is_parent pid o
parent_is pid None = refl
parent_is pid (Some known) = refl

waits_from : (home at pid : ℕ) (bs : List Birth) (ps : List Process) → AreBorn home at bs ps
    → answer_at home at bs (position (is_ended_child pid) bs) (list_any (is_unwaited_child pid) bs) ≡ told_children (filter (is_unwaited pid) ps) (ended_ones (filter (is_unwaited pid) ps))
waits_from home at pid [] [] are = refl
waits_from home at pid [] (p ∷ ps) are = absurd are
waits_from home at pid (b ∷ bs) [] are = absurd are
waits_from home at pid (b ∷ bs) (p ∷ ps) are =
    ap (λ o. answer_at home at (b ∷ bs) o (list_any (is_unwaited_child pid) (b ∷ bs))) (first_place (is_ended_child pid) b bs)
    ∙ subst (λ w. cases (is_child pid b) b.life w) (sym are.0.waited) (by b.life (is_child pid b) refl are.0.ending (waits_from home (at + 1) pid bs ps are.1))
    ∙ sym (ap (λ us. told_children us (ended_ones us)) (ap (λ c. cond (c && not p.waited) (p ∷ filter (is_unwaited pid) ps) (filter (is_unwaited pid) ps)) (ap (λ o. unwrap_or (option_map (λ parent. parent == pid) o) false) are.0.parent ∙ parent_is pid b.parent)))
  where
    us : List Process
    us = filter (is_unwaited pid) ps

    place : Option ℕ
    place = position (is_ended_child pid) bs

    left : Bool
    left = list_any (is_unwaited_child pid) bs

    cases : Bool → Life → Bool → Type 0
    cases child life waited =
        answer_at home at (b ∷ bs) (cond (child && is_ended life) (Some 0) (option_map suc place)) ((child && homes.is_unwaited life) || left)
        ≡ told_children (cond (child && not waited) (p ∷ us) us) (ended_ones (cond (child && not waited) (p ∷ us) us))

    by : (life : Life) (child : Bool) → b.life ≡ life → p.ending ≡ ending_in b.life → answer_at home (at + 1) bs place left ≡ told_children us (ended_ones us) → cases child life (was_waited life)
    by life false l e h = answer_on home at b bs place left ∙ h
    by (Living pending) true l e h =
        answer_child home at b bs place left ∙ ap some_child h ∙ told_more p us
        ∙ sym (ap (λ o. told_children (p ∷ us) (cond (is_some o) (p ∷ ended_ones us) (ended_ones us))) (e ∙ ap ending_in l))
    by (Waited how) true l e h = answer_on home at b bs place left ∙ h
    by (Ended how) true l e h =
        (let here : at + 0 ≡ at = omega arith in ap (λ n. told (pid_at home n) (Some b.life)) here)
        ∙ ap (λ (x : Life). told (pid_at home at) (Some x)) l ∙ ap (λ (n : ℕ). Child n (homes.status_of how)) (sym are.0.pid) ∙ ap (Child p.pid) (status_same how)
        ∙ sym (ap (λ o. told_children (p ∷ us) (cond (is_some o) (p ∷ ended_ones us) (ended_ones us))) (e ∙ ap ending_in l) ∙ ap (λ o. Child p.pid (status_of o)) (e ∙ ap ending_in l))

-- the children of a process are of its home
not_child : (home pid : ℕ) (p : Process) → home_of pid ≡ home → (home_of p.pid == home) ≡ false → IsKin p → is_unwaited pid p ≡ false
not_child home pid p mine apart kin = by p.parent kin
  where
    by : (o : Option ℕ) → IsOfHome p.pid o → unwrap_or (option_map (λ parent. parent == pid) o) false && not p.waited ≡ false
    by None k = refl
    by (Some parent) k = cases (parent == pid) refl
      where
        cases : (b : Bool) → (parent == pid) ≡ b → b && not p.waited ≡ false
        cases true is = absurd (true≢false (sym (eq-eqb (home_of p.pid) home (sym k.0 ∙ ap home_of (eqb-true parent pid is) ∙ mine)) ∙ apart))
        cases false is = refl

unwaited_here : (home pid : ℕ) (ps : List Process) → home_of pid ≡ home → AllByRecursion IsKin ps → filter (is_unwaited pid) ps ≡ filter (is_unwaited pid) (of_home home ps)
unwaited_here home pid [] mine kin = refl
unwaited_here home pid (p ∷ ps) mine kin = by (home_of p.pid == home) refl (unwaited_here home pid ps mine kin.1)
  where
    by : (b : Bool) → (home_of p.pid == home) ≡ b → filter (is_unwaited pid) ps ≡ filter (is_unwaited pid) (of_home home ps) → filter (is_unwaited pid) (p ∷ ps) ≡ filter (is_unwaited pid) (cond b (p ∷ of_home home ps) (of_home home ps))
    by true is on = ap (λ l. cond (is_unwaited pid p) (p ∷ l) l) on
    by false is on = ap (λ b. cond b (p ∷ filter (is_unwaited pid) ps) (filter (is_unwaited pid) ps)) (not_child home pid p mine is kin.0) ∙ on

pub waits_as_one : (table : Table) (ps : List Process) (pid : ℕ) → AreBorn table.home 0 table.births (of_home table.home ps) → home_of pid ≡ table.home → AllByRecursion IsKin ps
    → wait_answer table pid ≡ told_children (filter (is_unwaited pid) ps) (ended_ones (filter (is_unwaited pid) ps))
waits_as_one table ps pid are mine kin =
    by (position (is_ended_child pid) table.births) (list_any (is_unwaited_child pid) table.births)
    ∙ waits_from table.home 0 pid table.births (of_home table.home ps) are
    ∙ ap (λ us. told_children us (ended_ones us)) (sym (unwaited_here table.home pid ps mine kin))
  where
    by : (o : Option ℕ) (left : Bool) → answer table o left ≡ answer_at table.home 0 table.births o left
    by (Some place) left = ap (λ n. told (pid_at table.home n) (option_map (λ (b : Birth). b.life) (slice_get table.births place))) (omega arith)
    by None true = refl
    by None false = refl

-- ---- the table behind a `wait`

-- a child was told of
abbrev pub IsUntold : WaitAnswer → Type 0
IsUntold (Child pid status) = ⊥
IsUntold NoChild = Unit {0}
IsUntold NotYet = Unit {0}

-- the child that was told of, where its birth stands
pub record ToldOf (table : Table) (pid place : ℕ) (b : Birth) (how : Ending) : Type 0 where
  pub got : slice_get table.births place ≡ Some b
  pub life : b.life ≡ Ended how
  pub answers : wait_answer table pid ≡ Child (pid_at table.home place) (homes.status_of how)
  pub table_is : waited table pid ≡ record table { births = slice_set table.births place (record b { life = Waited how }) }

pub data WaitCase (table : Table) (pid : ℕ) : Type 0 where
  Untold : waited table pid ≡ table → IsUntold (wait_answer table pid) → WaitCase table pid
  Told : (place : ℕ) (b : Birth) (how : Ending) → ToldOf table pid place b how → WaitCase table pid

untold : (table : Table) (left : Bool) → IsUntold (answer table None left)
untold table true = tt
untold table false = tt

ended_life : (life : Life) → is_ended life ≡ true → (how : Ending) × (life ≡ Ended how)
ended_life (Living pending) h = absurd (true≢false (sym h))
ended_life (Ended how) h = (how, refl)
ended_life (Waited how) h = absurd (true≢false (sym h))

second_of : (a b : Bool) → a && b ≡ true → b ≡ true
second_of true b h = h
second_of false b h = absurd (true≢false (sym h))

pub wait_case : (table : Table) (pid : ℕ) → WaitCase table pid
wait_case table pid = by (position (is_ended_child pid) table.births) refl
  where
    left : Bool
    left = list_any (is_unwaited_child pid) table.births

    by : (o : Option ℕ) → position (is_ended_child pid) table.births ≡ o → WaitCase table pid
    by None e = Untold (ap (λ o. record table { births = waiting table.births o }) e) (subst IsUntold (sym (ap (λ o. answer table o left) e)) (untold table left))
    by (Some place) e =
        let at = passing (is_ended_child pid) table.births place e in
        let b = at.item in
        let life = ended_life b.life (second_of (is_child pid b) (is_ended b.life) at.passes) in
        Told place b life.0 (record {
          got = at.got;
          life = life.1;
          answers =
              ap (λ o. answer table o left) e
              ∙ ap (λ o. told (pid_at table.home place) (option_map (λ (b : Birth). b.life) o)) at.got
              ∙ ap (λ l. told (pid_at table.home place) (Some l)) life.1;
          table_is =
              ap (λ o. record table { births = waiting table.births o }) e
              ∙ ap (λ o. record table { births = telling table.births place (option_map (λ (b : Birth). b.life) o) }) at.got
              ∙ ap (λ l. record table { births = telling table.births place (Some l) }) life.1
              ∙ ap (λ o. record table { births = put table.births place (option_map {T = Birth} (λ birth. record birth { life = Waited life.0 }) o) }) at.got;
        })
