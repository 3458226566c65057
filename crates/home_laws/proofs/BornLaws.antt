-- Some processes that are the births of a home: looked up, and after one of them changed or one more was born.
use Rattle.std.proofs.Common.{◌≡◌, ◌<◌, ◌≤◌, ◌+◌, ◌*◌, ◌==◌, ℕ, zero, suc, Bool, true, false, cond, List, [], ◌∷◌, ◌++◌, length, slice_get, slice_set, Option, Some, None, refl, sym, ap, subst, ◌∙◌, arith}
use Rattle.std.specs.List.{AllByRecursion}
use Rattle.std.proofs.lemmas.Bool.{true≢false, eqb-true}
use Rattle.std.proofs.lemmas.Nat.{div-mul-add}
use Rattle.std.proofs.Math.Nat.{div-add-mod}
use Rattle.sprite_ids.specs.Pid.{home_of, birth_of}
use Rattle.sprite_ids.proofs.ListLaws.{each_filter, each_weaken}
use Rattle.unix_calls.specs.declared.state.Process.{Process}
use Rattle.unix_calls.specs.State.{process_at, put_process}
use Rattle.unix_calls.proofs.ProcessLaws.{Compared, Same, Less, More, compared, at_same, at_other, put_same, put_less, put_more}
use Rattle.home_table.specs.declared.Birth.{Birth}
use Rattle.home_table.specs.Home.{pid_at, index_of}
use Rattle.unix_frames.specs.Order.{Ascending, Behind}
use Rattle.home_laws.specs.Homes.{of_home, IsBorn, AreBorn}

-- ---- numbers

pub pid_is : (pid : ℕ) → 1 ≤ birth_of pid → pid ≡ pid_at (home_of pid) (index_of pid)
pid_is pid from = let whole = div-add-mod pid 1000 in omega (arith, whole, from)

pub home_is : (home at : ℕ) → at < 200 → home_of (pid_at home at) ≡ home
home_is home at few =
    let parts : pid_at home at ≡ home * 1000 + (at + 1) = omega arith in
    ap home_of parts ∙ div-mul-add home 1000 (at + 1) (omega (arith, few))

pub birth_is : (home at : ℕ) → at < 200 → birth_of (pid_at home at) ≡ at + 1
birth_is home at few =
    let h = home_is home at few in
    let whole = div-add-mod (pid_at home at) 1000 in
    omega (arith, h, whole)

pub index_is : (home at : ℕ) → at < 200 → index_of (pid_at home at) ≡ at
index_is home at few = let b = birth_is home at few in omega (arith, b)

-- ---- the processes of a home after one was put

pub elsewhere_put : (home : ℕ) (r : Process) (ps : List Process) → (home_of r.pid == home) ≡ false → of_home home (put_process r ps) ≡ of_home home ps
elsewhere_put home r [] h = ap (λ b. cond b (r ∷ []) []) h
elsewhere_put home r (q ∷ qs) h = by (compared r.pid q.pid) (elsewhere_put home r qs h)
  where
    by : Compared r.pid q.pid → of_home home (put_process r qs) ≡ of_home home qs → of_home home (put_process r (q ∷ qs)) ≡ of_home home (q ∷ qs)
    by (Same e) on =
        ap (of_home home) (put_same r q qs e)
        ∙ ap (λ b. cond b (r ∷ of_home home qs) (of_home home qs)) h
        ∙ sym (ap (λ b. cond b (q ∷ of_home home qs) (of_home home qs)) (ap (λ n. home_of n == home) (sym e) ∙ h))
    by (Less e) on = ap (of_home home) (put_less r q qs e) ∙ ap (λ b. cond b (r ∷ of_home home (q ∷ qs)) (of_home home (q ∷ qs))) h
    by (More e) on = ap (of_home home) (put_more r q qs e) ∙ ap (λ l. cond (home_of q.pid == home) (q ∷ l) l) on

put_front : (r : Process) (qs : List Process) → AllByRecursion (Behind r.pid) qs → put_process r qs ≡ r ∷ qs
put_front r [] h = refl
put_front r (q ∷ qs) h = put_less r q qs h.0

pub here_put : (home : ℕ) (r : Process) (ps : List Process) → Ascending ps → (home_of r.pid == home) ≡ true → of_home home (put_process r ps) ≡ put_process r (of_home home ps)
here_put home r [] order h = ap (λ b. cond b (r ∷ []) []) h
here_put home r (q ∷ qs) order h = by (compared r.pid q.pid) (home_of q.pid == home) refl (here_put home r qs order.1 h)
  where
    fs : List Process
    fs = of_home home qs

    by : Compared r.pid q.pid → (b : Bool) → (home_of q.pid == home) ≡ b → of_home home (put_process r qs) ≡ put_process r fs → of_home home (put_process r (q ∷ qs)) ≡ put_process r (cond b (q ∷ fs) fs)
    by (Same e) true is on = ap (of_home home) (put_same r q qs e) ∙ ap (λ b. cond b (r ∷ fs) fs) h ∙ sym (put_same r q fs e)
    by (Same e) false is on = absurd (true≢false (sym h ∙ ap (λ n. home_of n == home) e ∙ is))
    by (Less e) true is on =
        ap (of_home home) (put_less r q qs e) ∙ ap (λ b. cond b (r ∷ of_home home (q ∷ qs)) (of_home home (q ∷ qs))) h
        ∙ ap (λ b. r ∷ cond b (q ∷ fs) fs) is ∙ sym (put_less r q fs e)
    by (Less e) false is on =
        ap (of_home home) (put_less r q qs e) ∙ ap (λ b. cond b (r ∷ of_home home (q ∷ qs)) (of_home home (q ∷ qs))) h
        ∙ ap (λ b. r ∷ cond b (q ∷ fs) fs) is
        ∙ sym (put_front r fs (each_filter (Behind r.pid) (λ (p : Process). home_of p.pid == home) qs (each_weaken (Behind q.pid) (Behind r.pid) qs (λ (p : Process) (b : q.pid < p.pid). omega (arith, b, e)) order.0)))
    by (More e) true is on = ap (of_home home) (put_more r q qs e) ∙ ap (λ b. cond b (q ∷ of_home home (put_process r qs)) (of_home home (put_process r qs))) is ∙ ap (λ l. q ∷ l) on ∙ sym (put_more r q fs e)
    by (More e) false is on = ap (of_home home) (put_more r q qs e) ∙ ap (λ b. cond b (q ∷ of_home home (put_process r qs)) (of_home home (put_process r qs))) is ∙ on

-- a process is looked up among those of its home
pub looked_in : (home pid : ℕ) (ps : List Process) → (home_of pid == home) ≡ true → process_at (of_home home ps) pid ≡ process_at ps pid
looked_in home pid [] h = refl
looked_in home pid (q ∷ qs) h = by (home_of q.pid == home) refl (looked_in home pid qs h)
  where
    by : (b : Bool) → (home_of q.pid == home) ≡ b → process_at (of_home home qs) pid ≡ process_at qs pid → process_at (cond b (q ∷ of_home home qs) (of_home home qs)) pid ≡ process_at (q ∷ qs) pid
    by true is on = ap (λ o. cond (q.pid == pid) (Some q) o) on
    by false is on = on ∙ sym (at_other q qs pid (λ same. absurd (true≢false (sym h ∙ ap (λ n. home_of n == home) (sym same) ∙ is))))

-- ---- births and processes

-- what is looked up at a place is a birth and its process, or nothing
abbrev pub BothBorn : ℕ → ℕ → Option Birth → Option Process → Type 0
BothBorn home at None None = Unit {0}
BothBorn home at (Some b) (Some p) = IsBorn home at b p
BothBorn home at None (Some p) = ⊥
BothBorn home at (Some b) None = ⊥

pub born_at : (home at k : ℕ) (bs : List Birth) (ps : List Process) → AreBorn home at bs ps → BothBorn home (at + k) (slice_get bs k) (process_at ps (pid_at home (at + k)))
born_at home at k [] [] are = tt
born_at home at k [] (p ∷ ps) are = absurd are
born_at home at k (b ∷ bs) [] are = absurd are
born_at home at zero (b ∷ bs) (p ∷ ps) are =
    let here : at + 0 ≡ at = omega arith in
    subst (λ n. BothBorn home n (Some b) (process_at (p ∷ ps) (pid_at home n))) (sym here)
    (subst (λ o. BothBorn home at (Some b) o) (sym (at_same p ps (pid_at home at) are.0.pid)) are.0)
born_at home at (suc k) (b ∷ bs) (p ∷ ps) are =
    let on : at + 1 + k ≡ at + suc k = omega arith in
    subst (λ o. BothBorn home (at + suc k) (slice_get bs k) o) (sym (at_other p ps (pid_at home (at + suc k)) (λ same. absurd (omega (arith, same, are.0.pid)))))
    (subst (λ n. BothBorn home n (slice_get bs k) (process_at ps (pid_at home n))) on (born_at home (at + 1) k bs ps are.1))

pub zero_on : (k : ℕ) → 0 + k ≡ k
zero_on k = omega arith

pub born_first : (home k : ℕ) (bs : List Birth) (ps : List Process) → AreBorn home 0 bs ps → BothBorn home k (slice_get bs k) (process_at ps (pid_at home k))
born_first home k bs ps are = subst (λ n. BothBorn home n (slice_get bs k) (process_at ps (pid_at home n))) (zero_on k) (born_at home 0 k bs ps are)

-- a process that is found stands at a place
pub record StandsAt (home at many pid : ℕ) : Type 0 where
  pub place : ℕ
  pub within : place < many
  pub is : pid ≡ pid_at home (at + place)

pub stands_at : (home at : ℕ) (bs : List Birth) (ps : List Process) (pid : ℕ) (p : Process) → AreBorn home at bs ps → process_at ps pid ≡ Some p → StandsAt home at (length bs) pid
stands_at home at [] [] pid p are found = absurd (cc)
stands_at home at [] (q ∷ qs) pid p are found = absurd are
stands_at home at (b ∷ bs) [] pid p are found = absurd are
stands_at home at (b ∷ bs) (q ∷ qs) pid p are found = by (q.pid == pid) refl found (stands_at home (at + 1) bs qs pid p are.1)
  where
    by : (e : Bool) → (q.pid == pid) ≡ e → cond e (Some q) (process_at qs pid) ≡ Some p → (process_at qs pid ≡ Some p → StandsAt home (at + 1) (length bs) pid) → StandsAt home at (length (b ∷ bs)) pid
    by true e found on =
        let here : at + 0 ≡ at = omega arith in
        record { place = 0; within = omega arith; is = sym (eqb-true q.pid pid e) ∙ are.0.pid ∙ ap (pid_at home) (sym here) }
    by false e found on =
        let further = on found in
        let within = further.within in
        let next : at + 1 + further.place ≡ at + suc further.place = omega arith in
        record { place = suc further.place; within = omega (arith, within); is = further.is ∙ ap (pid_at home) next }

pub born_count : (home at : ℕ) (bs : List Birth) (ps : List Process) → AreBorn home at bs ps → length ps ≡ length bs
born_count home at [] [] are = refl
born_count home at [] (p ∷ ps) are = absurd are
born_count home at (b ∷ bs) [] are = absurd are
born_count home at (b ∷ bs) (p ∷ ps) are = let rest = born_count home (at + 1) bs ps are.1 in omega (arith, rest)

-- one of them changes
pub put_life : (home at k : ℕ) (bs : List Birth) (ps : List Process) (b new : Birth) (r : Process) → AreBorn home at bs ps → slice_get bs k ≡ Some b → IsBorn home (at + k) new r → AreBorn home at (slice_set bs k new) (put_process r ps)
put_life home at k [] ps b new r are got is = absurd (cc)
put_life home at k (x ∷ bs) [] b new r are got is = absurd are
put_life home at zero (x ∷ bs) (p ∷ ps) b new r are got is =
    let here : at + 0 ≡ at = omega arith in
    let mine : IsBorn home at new r = subst (λ n. IsBorn home n new r) here is in
    subst (AreBorn home at (new ∷ bs)) (sym (put_same r p ps (mine.pid ∙ sym are.0.pid))) (mine, are.1)
put_life home at (suc k) (x ∷ bs) (p ∷ ps) b new r are got is =
    let on : at + suc k ≡ at + 1 + k = omega arith in
    let mine : IsBorn home (at + 1 + k) new r = subst (λ n. IsBorn home n new r) on is in
    subst (AreBorn home at (x ∷ slice_set bs k new)) (sym (put_more r p ps (omega (arith, are.0.pid, mine.pid)))) (are.0, put_life home (at + 1) k bs ps b new r are.1 got mine)

-- one more is born
pub put_born : (home at : ℕ) (bs : List Birth) (ps : List Process) (new : Birth) (r : Process) → AreBorn home at bs ps → IsBorn home (at + length bs) new r → AreBorn home at (bs ++ new ∷ []) (put_process r ps)
put_born home at [] [] new r are is = let here : at + 0 ≡ at = omega arith in (subst (λ n. IsBorn home n new r) here is, tt)
put_born home at [] (p ∷ ps) new r are is = absurd are
put_born home at (x ∷ bs) [] new r are is = absurd are
put_born home at (x ∷ bs) (p ∷ ps) new r are is =
    let on : at + length (x ∷ bs) ≡ at + 1 + length bs = omega arith in
    let mine : IsBorn home (at + 1 + length bs) new r = subst (λ n. IsBorn home n new r) on is in
    subst (AreBorn home at (x ∷ (bs ++ new ∷ []))) (sym (put_more r p ps (omega (arith, are.0.pid, mine.pid)))) (are.0, put_born home (at + 1) bs ps new r are.1 mine)
