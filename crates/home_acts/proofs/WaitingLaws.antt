-- What each change of a table leaves of the `wait`s that are parked at its home.
use Rattle.std.proofs.Common.{arith, ◌≡◌, refl, sym, ap, subst, ◌∙◌, ◌⊎◌, inl, inr, ℕ, zero, suc, ◌==◌, ◌≤◌, Bool, true, false, ◌&&◌, ◌||◌, cond, not, List, [], ◌∷◌, ◌++◌, Option, Some, None, is_some, option_map, slice_get, slice_set, position}
use Rattle.std.specs.List.{AllByRecursion, list_any}
use Rattle.std.proofs.lemmas.Bool.{true≢false, and_parts, eq-eqb, eqb-false, eqb-true}
use Rattle.std.proofs.lemmas.Nat.{div-add-mod'}
use Rattle.std.proofs.lemmas.List.Quantifiers.{position-Some}
use Rattle.sprite_ids.specs.Lists.{EachOnce, less}
use Rattle.sprite_ids.specs.Pid.{birth_of, home_of}
use Rattle.sprite_ids.specs.declared.Ending.{Ending}
use Rattle.sprite_ids.proofs.ListLaws.{each_weaken, get_found, get_set_other, get_set_same, get_within, set_same, some_is}
use Rattle.sprite_ids.proofs.OnceLaws.{IsSameness, found_is_any, get_is, none_found, or_false}
use Rattle.kernel_steps.specs.Rows.{is_under}
use Rattle.home_table.specs.declared.birth.Birth.{Birth}
use Rattle.home_table.specs.declared.birth.Life.{Life}
use Rattle.home_table.specs.declared.birth.Life.TheVariants.{Living, Ended, Waited}
use Rattle.home_table.specs.Home.{Table, answer, birth_at, born, ended, ending, index_of, is_child, is_ended, is_ended_child, is_living, is_living_at, is_parent, is_pending, is_pending_at, is_so, is_unwaited, is_unwaited_child, killed, killing, living_parent, moved, parent_at, parent_of, pid_at, place_for, put, telling, told, wait_answer, waited, waiting}
use Rattle.home_laws.specs.Answers.{told_wait}
use Rattle.home_laws.proofs.KillLaws.{killed_by}
use Rattle.client_homes.specs.declared.client.Parked.{Parked}
use Rattle.client_homes.specs.Procs.{is_pid}
use Rattle.home_acts.specs.Parked.{Over, Still, Waits, WaitsRightly, same_waiter}
use Rattle.stream_table.proofs.OwnerLaws.{eq_turned}
use Rattle.unix_frames.proofs.EntryLaws.{none_there}

-- ---- lists

any_kept : {X : Type 0} (q : X → Bool) (xs : List X) (i : ℕ) (x new : X) → slice_get xs i ≡ Some x → q new ≡ q x → list_any q (slice_set xs i new) ≡ list_any q xs
any_kept q [] i x new e k = cc
any_kept q (y ∷ ys) zero x new e k = ap (λ b. b || list_any q ys) (k ∙ ap q (sym (some_is y x e)))
any_kept q (y ∷ ys) (suc i) x new e k = ap (λ b. q y || b) (any_kept q ys i x new e k)

or_none : (a : Bool) → (a || false) ≡ a
or_none true = refl
or_none false = refl

or_joined : (a b c : Bool) → (a || (b || c)) ≡ ((a || b) || c)
or_joined true b c = refl
or_joined false b c = refl

any_more : {X : Type 0} (q : X → Bool) (xs : List X) (y : X) → list_any q (xs ++ y ∷ []) ≡ (list_any q xs || q y)
any_more q [] y = or_none (q y)
any_more q (x ∷ xs) y = ap (λ b. q x || b) (any_more q xs y) ∙ or_joined (q x) (list_any q xs) (q y)

get_more : {X : Type 0} (xs : List X) (y : X) (i : ℕ) → is_some (slice_get xs i) ≡ true → slice_get (xs ++ y ∷ []) i ≡ slice_get xs i
get_more [] y i h = absurd (true≢false (sym h))
get_more (x ∷ xs) y zero h = refl
get_more (x ∷ xs) y (suc i) h = get_more xs y i h

-- the first item that passes
record Found {X : Type 0} (p : X → Bool) (xs : List X) (place : ℕ) : Type 0 where
  item : X
  got : slice_get xs place ≡ Some item
  passes : p item ≡ true

found : {X : Type 0} (sample : X) (p : X → Bool) (xs : List X) (place : ℕ) → position p xs ≡ Some place → Found p xs place
found sample p xs place e =
    let at = get_found xs place (position-Some p xs place sample e).0 in
    record { item = at.0; got = at.1; passes = ap p (get_is xs place at.0 at.1) ∙ (position-Some p xs place at.0 e).1 }

nobody : Birth
nobody = record { parent = None; place = 0; life = Living false }

-- ---- a `wait` that the table doesn't answer, in its parts

record Untold (table : Table) (pid : ℕ) : Type 0 where
  none : list_any (is_ended_child pid) table.births ≡ false
  left : list_any (is_unwaited_child pid) table.births ≡ true
  free : is_pending_at table pid ≡ false

told_ended : (pid : ℕ) (life : Life) (pending : Bool) → is_ended life ≡ true → told_wait (told pid (Some life)) pending ≡ None → ⊥
told_ended pid (Living alive) pending h e = true≢false (sym h)
told_ended pid (Ended how) pending h e = absurd (cc)
told_ended pid (Waited how) pending h e = true≢false (sym h)

untold : (table : Table) (pid : ℕ) → told_wait (wait_answer table pid) (is_pending_at table pid) ≡ None → Untold table pid
untold table pid e = by (position (is_ended_child pid) table.births) refl (list_any (is_unwaited_child pid) table.births) refl (is_pending_at table pid) refl
  where
    by : (o : Option ℕ) → position (is_ended_child pid) table.births ≡ o → (left : Bool) → list_any (is_unwaited_child pid) table.births ≡ left → (pending : Bool) → is_pending_at table pid ≡ pending → Untold table pid
    by (Some place) f left g pending h =
        let at = found nobody (is_ended_child pid) table.births place f in
        let ends = (and_parts (is_child pid at.item) (is_ended at.item.life) at.passes).1 in
        absurd (told_ended (pid_at table.home place) at.item.life (is_pending_at table pid) ends
        (sym (ap (λ (o : Option ℕ). told_wait (answer table o (list_any (is_unwaited_child pid) table.births)) (is_pending_at table pid)) f
        ∙ ap (λ (o : Option Birth). told_wait (told (pid_at table.home place) (option_map (λ (b : Birth). b.life) o)) (is_pending_at table pid)) at.got) ∙ e))
    by None f true g false h = record { none = none_found (is_ended_child pid) table.births f; left = g; free = h }
    by None f true g true h =
        absurd (some_none (sym (ap (λ (o : Option ℕ). told_wait (answer table o (list_any (is_unwaited_child pid) table.births)) (is_pending_at table pid)) f
        ∙ ap (λ (l : Bool). told_wait (answer table None l) (is_pending_at table pid)) g ∙ ap (λ (p : Bool). told_wait (answer table None true) p) h) ∙ e))
      where
        some_none : told_wait (answer table None true) true ≡ None → ⊥
        some_none k = absurd (cc)
    by None f false g pending h =
        absurd (some_none (is_pending_at table pid) (sym (ap (λ (o : Option ℕ). told_wait (answer table o (list_any (is_unwaited_child pid) table.births)) (is_pending_at table pid)) f
        ∙ ap (λ (l : Bool). told_wait (answer table None l) (is_pending_at table pid)) g) ∙ e))
      where
        some_none : (p : Bool) → told_wait (answer table None false) p ≡ None → ⊥
        some_none p k = absurd (cc)

still : (table : Table) (pid : ℕ) → Untold table pid → told_wait (wait_answer table pid) (is_pending_at table pid) ≡ None
still table pid u =
    ap (λ (o : Option ℕ). told_wait (answer table o (list_any (is_unwaited_child pid) table.births)) (is_pending_at table pid)) (none_there (position (is_ended_child pid) table.births) (found_is_any (is_ended_child pid) table.births ∙ u.none))
    ∙ ap (λ (l : Bool). told_wait (answer table None l) (is_pending_at table pid)) u.left
    ∙ ap (λ (p : Bool). told_wait (answer table None true) p) u.free

-- ---- one birth is changed

-- what a test of a looked-up birth says, where that stays
so_same : (test : Life → Bool) (o r : Option Birth) → o ≡ r → is_so test (option_map (λ (b : Birth). b.life) o) ≡ is_so test (option_map (λ (b : Birth). b.life) r)
so_same test o r e = ap (λ (x : Option Birth). is_so test (option_map (λ (b : Birth). b.life) x)) e

rightly_set : (table : Table) (i : ℕ) (b new : Birth) (pid : ℕ) → slice_get table.births i ≡ Some b → is_ended_child pid new ≡ is_ended_child pid b → is_unwaited_child pid new ≡ is_unwaited_child pid b
    → (index_of pid ≡ i → Waits table pid → Waits (record table { births = slice_set table.births i new }) pid) → WaitsRightly table pid → WaitsRightly (record table { births = slice_set table.births i new }) pid
rightly_set table i b new pid got ends unwaited here r = by (index_of pid == i) refl
  where
    after : Table
    after = record table { births = slice_set table.births i new }

    by : (same : Bool) → (index_of pid == i) ≡ same → WaitsRightly after pid
    by true e =
        let at : index_of pid ≡ i = eqb-true (index_of pid) i e in
        record {
          from = r.from;
          born = ap (λ n. is_some (slice_get (slice_set table.births i new) n)) at ∙ ap is_some (get_set_same table.births i new (get_within table.births i b got));
          waits = here at r.waits;
        }
    by false e =
        let apart : slice_get (slice_set table.births i new) (index_of pid) ≡ slice_get table.births (index_of pid) = get_set_other table.births i (index_of pid) new (λ same. eqb-false (index_of pid) i e (sym same)) in
        record { from = r.from; born = ap is_some apart ∙ r.born; waits = on r.waits apart }
      where
        on : Waits table pid → slice_get (slice_set table.births i new) (index_of pid) ≡ slice_get table.births (index_of pid) → Waits after pid
        on (Over over) apart = Over (so_same (λ life. not (is_living life)) (slice_get (slice_set table.births i new) (index_of pid)) (slice_get table.births (index_of pid)) apart ∙ over)
        on (Still none) apart =
            let u = untold table pid none in
            Still (still after pid (record {
              none = any_kept (is_ended_child pid) table.births i b new got ends ∙ u.none;
              left = any_kept (is_unwaited_child pid) table.births i b new got unwaited ∙ u.left;
              free = so_same is_pending (slice_get (slice_set table.births i new) (index_of pid)) (slice_get table.births (index_of pid)) apart ∙ u.free;
            }))

-- the birth is over
over_at : (table : Table) (i : ℕ) (b new : Birth) (pid : ℕ) → slice_get table.births i ≡ Some b → is_living new.life ≡ false → index_of pid ≡ i → Waits (record table { births = slice_set table.births i new }) pid
over_at table i b new pid got dead at =
    Over (so_same (λ life. not (is_living life)) (slice_get (slice_set table.births i new) (index_of pid)) (Some new)
    (ap (λ n. slice_get (slice_set table.births i new) n) at ∙ get_set_same table.births i new (get_within table.births i b got)) ∙ ap not dead)

-- a life is changed that isn't a child's
apart_child : (pid : ℕ) (b : Birth) (life : Life) (test : Life → Bool) → is_child pid b ≡ false → (is_child pid b && test life) ≡ (is_child pid b && test b.life)
apart_child pid b life test h = ap (λ c. c && test life) h ∙ sym (ap (λ c. c && test b.life) h)

rightly_life : (table : Table) (i : ℕ) (b : Birth) (life : Life) (pid : ℕ) → slice_get table.births i ≡ Some b → is_child pid b ≡ false → is_living life ≡ false
    → WaitsRightly table pid → WaitsRightly (record table { births = slice_set table.births i (record b { life = life }) }) pid
rightly_life table i b life pid got apart dead r =
    rightly_set table i b (record b { life = life }) pid got (apart_child pid b life is_ended apart) (apart_child pid b life is_unwaited apart) (λ at waits. over_at table i b (record b { life = life }) pid got dead at) r

-- ---- an end

data EndCase (table : Table) (pid : ℕ) (how : Ending) : Type 0 where
  Left : ended table pid how ≡ table → EndCase table pid how
  Ends : (b : Birth) → slice_get table.births (index_of pid) ≡ Some b → ended table pid how ≡ record table { births = slice_set table.births (index_of pid) (record b { life = Ended how }) } → EndCase table pid how

end_case : (table : Table) (pid : ℕ) (how : Ending) → EndCase table pid how
end_case table pid how = by (slice_get table.births (index_of pid)) refl
  where
    looked : (o : Option Birth) → slice_get table.births (index_of pid) ≡ o → ended table pid how ≡ record table { births = ending table.births (index_of pid) how (option_map (λ (b : Birth). b.life) o) }
    looked o e = ap (λ (x : Option Birth). record table { births = ending table.births (index_of pid) how (option_map (λ (b : Birth). b.life) x) }) e

    by : (o : Option Birth) → slice_get table.births (index_of pid) ≡ o → EndCase table pid how
    by None e = Left (looked None e)
    by (Some b) e = lives b.life refl
      where
        lives : (life : Life) → b.life ≡ life → EndCase table pid how
        lives (Living pending) l =
            Ends b e (looked (Some b) e ∙ ap (λ (x : Life). record table { births = ending table.births (index_of pid) how (Some x) }) l
            ∙ ap (λ (x : Option Birth). record table { births = put table.births (index_of pid) (option_map {T = Birth} (λ birth. record birth { life = Ended how }) x) }) e)
        lives (Ended before) l = Left (looked (Some b) e ∙ ap (λ (x : Life). record table { births = ending table.births (index_of pid) how (Some x) }) l)
        lives (Waited before) l = Left (looked (Some b) e ∙ ap (λ (x : Life). record table { births = ending table.births (index_of pid) how (Some x) }) l)

-- who waits rightly, but for some, which are to look again
pub record Owes (D : ℕ → Type 0) (table : Table) (pid : ℕ) : Type 0 where
  pub from : 1 ≤ birth_of pid
  pub born : is_some (birth_at table.births pid) ≡ true
  pub waits : D pid ⊎ Waits table pid

pub owes : (D : ℕ → Type 0) (table : Table) (pid : ℕ) → WaitsRightly table pid → Owes D table pid
owes D table pid r = record { from = r.from; born = r.born; waits = inr r.waits }

-- these, and one more where there is one
abbrev pub And : (ℕ → Type 0) → Option ℕ → ℕ → Type 0
And D o pid = D pid ⊎ (o ≡ Some pid)

pub owes_more : (D : ℕ → Type 0) (o : Option ℕ) (table : Table) (pid : ℕ) → Owes D table pid → Owes (And D o) table pid
owes_more D o table pid r = record { from = r.from; born = r.born; waits = by r.waits }
  where
    by : D pid ⊎ Waits table pid → And D o pid ⊎ Waits table pid
    by (inl d) = inl (inl d)
    by (inr waits) = inr waits

born_set : (births : List Birth) (i : ℕ) (b new : Birth) (n : ℕ) → slice_get births i ≡ Some b → is_some (slice_get births n) ≡ true → is_some (slice_get (slice_set births i new) n) ≡ true
born_set births i b new n got h = by (n == i) refl
  where
    by : (same : Bool) → (n == i) ≡ same → is_some (slice_get (slice_set births i new) n) ≡ true
    by true e = ap (λ m. is_some (slice_get (slice_set births i new) m)) (eqb-true n i e) ∙ ap is_some (get_set_same births i new (get_within births i b got))
    by false e = ap is_some (get_set_other births i n new (λ same. eqb-false n i e (sym same))) ∙ h

over_or_living : (o : Option Birth) → is_some o ≡ true → is_so is_living (option_map (λ (b : Birth). b.life) o) ≡ false → is_so (λ life. not (is_living life)) (option_map (λ (b : Birth). b.life) o) ≡ true
over_or_living None h k = absurd (true≢false (sym h))
over_or_living (Some b) h k = ap not k

-- behind an end the parent is to look again, if it lives
pub end_owes : (D : ℕ → Type 0) (table : Table) (ends : ℕ) (how : Ending) (pid : ℕ) → Owes D table pid → Owes (And D (parent_at (ended table ends how) ends)) (ended table ends how) pid
end_owes D table ends how pid r = by (end_case table ends how)
  where
    by : EndCase table ends how → Owes (And D (parent_at (ended table ends how) ends)) (ended table ends how) pid
    by (Left same) = subst (λ (t : Table). Owes (And D (parent_at t ends)) t pid) (sym same) (owes_more D (parent_at table ends) table pid r)
    by (Ends b got is) = subst (λ (t : Table). Owes (And D (parent_at t ends)) t pid) (sym is) (record { from = r.from; born = is_born; waits = due r.waits })
      where
        new : Birth
        new = record b { life = Ended how }

        after : Table
        after = record table { births = slice_set table.births (index_of ends) new }

        there : slice_get after.births (index_of ends) ≡ Some new
        there = get_set_same table.births (index_of ends) new (get_within table.births (index_of ends) b got)

        is_born : is_some (slice_get after.births (index_of pid)) ≡ true
        is_born = born_set table.births (index_of ends) b new (index_of pid) got r.born

        parent_is : (o : Option ℕ) → b.parent ≡ o → is_parent pid o ≡ true → And D (parent_at after ends) pid ⊎ Waits after pid
        parent_is None p h = absurd (true≢false (sym h))
        parent_is (Some parent) p h = alive (is_living_at after pid) refl
          where
            mine : parent ≡ pid
            mine = eqb-true parent pid h

            looked : parent_at after ends ≡ cond (is_living_at after pid) (Some pid) None
            looked = ap (parent_of after) there ∙ ap (living_parent after) (p ∙ ap Some mine)

            alive : (b : Bool) → is_living_at after pid ≡ b → And D (parent_at after ends) pid ⊎ Waits after pid
            alive true e = inl (inr (looked ∙ ap (λ b. cond b (Some pid) None) e))
            alive false e = inr (Over (over_or_living (slice_get after.births (index_of pid)) is_born e))

        child : (c : Bool) → is_child pid b ≡ c → Waits table pid → And D (parent_at after ends) pid ⊎ Waits after pid
        child true e waits = parent_is b.parent refl e
        child false e waits = inr (rightly_life table (index_of ends) b (Ended how) pid got e refl (record { from = r.from; born = r.born; waits = waits })).waits

        due : D pid ⊎ Waits table pid → And D (parent_at after ends) pid ⊎ Waits after pid
        due (inl d) = inl (inl d)
        due (inr waits) = child (is_child pid b) refl waits

-- ---- a `wait` of another process

data WaitCase (table : Table) (waiter : ℕ) : Type 0 where
  Same : waited table waiter ≡ table → WaitCase table waiter
  Told : (place : ℕ) (b : Birth) (how : Ending) → slice_get table.births place ≡ Some b → is_child waiter b ≡ true → waited table waiter ≡ record table { births = slice_set table.births place (record b { life = Waited how }) } → WaitCase table waiter

wait_case : (table : Table) (waiter : ℕ) → WaitCase table waiter
wait_case table waiter = by (position (is_ended_child waiter) table.births) refl
  where
    by : (o : Option ℕ) → position (is_ended_child waiter) table.births ≡ o → WaitCase table waiter
    by None e = Same (ap (λ (o : Option ℕ). record table { births = waiting table.births o }) e)
    by (Some place) e =
        let at = found nobody (is_ended_child waiter) table.births place e in
        let both = and_parts (is_child waiter at.item) (is_ended at.item.life) at.passes in
        lives at.item at.got both.0 at.item.life refl both.1
      where
        lives : (b : Birth) → slice_get table.births place ≡ Some b → is_child waiter b ≡ true → (life : Life) → b.life ≡ life → is_ended life ≡ true → WaitCase table waiter
        lives b got child (Living pending) l h = absurd (true≢false (sym h))
        lives b got child (Waited how) l h = absurd (true≢false (sym h))
        lives b got child (Ended how) l h =
            Told place b how got child
            (ap (λ (o : Option ℕ). record table { births = waiting table.births o }) e
            ∙ ap (λ (o : Option Birth). record table { births = telling table.births place (option_map (λ (b : Birth). b.life) o) }) got
            ∙ ap (λ (x : Life). record table { births = telling table.births place (Some x) }) l
            ∙ ap (λ (o : Option Birth). record table { births = put table.births place (option_map {T = Birth} (λ birth. record birth { life = Waited how }) o) }) got)

one_parent : (waiter pid : ℕ) (o : Option ℕ) → is_parent waiter o ≡ true → (pid == waiter) ≡ false → is_parent pid o ≡ false
one_parent waiter pid None h apart = refl
one_parent waiter pid (Some parent) h apart = by (parent == pid) refl
  where
    by : (b : Bool) → (parent == pid) ≡ b → b ≡ false
    by true e = absurd (true≢false (sym (eq-eqb pid waiter (sym (eqb-true parent pid e) ∙ eqb-true parent waiter h)) ∙ apart))
    by false e = refl

pub wait_keeps : (D : ℕ → Type 0) (table : Table) (waiter pid : ℕ) → (pid == waiter) ≡ false → Owes D table pid → Owes D (waited table waiter) pid
wait_keeps D table waiter pid apart r = by (wait_case table waiter)
  where
    by : WaitCase table waiter → Owes D (waited table waiter) pid
    by (Same same) = subst (λ (t : Table). Owes D t pid) (sym same) r
    by (Told place b how got child is) =
        subst (λ (t : Table). Owes D t pid) (sym is)
        (record { from = r.from; born = born_set table.births place b (record b { life = Waited how }) (index_of pid) got r.born; waits = due r.waits })
      where
        due : D pid ⊎ Waits table pid → D pid ⊎ Waits (record table { births = slice_set table.births place (record b { life = Waited how }) }) pid
        due (inl d) = inl d
        due (inr waits) = inr (rightly_life table place b (Waited how) pid got (one_parent waiter pid b.parent child apart) refl (record { from = r.from; born = r.born; waits = waits })).waits

-- ---- a birth, a kill, a place

pub birth_keeps : (table : Table) (parent : Option ℕ) (pid : ℕ) → WaitsRightly table pid → WaitsRightly (born table parent) pid
birth_keeps table parent pid r =
    let new : Birth = record { parent = parent; place = place_for table parent; life = Living false } in
    let same : slice_get (table.births ++ new ∷ []) (index_of pid) ≡ slice_get table.births (index_of pid) = get_more table.births new (index_of pid) r.born in
    record { from = r.from; born = ap is_some same ∙ r.born; waits = on r.waits same }
  where
    child : Birth
    child = record { parent = parent; place = place_for table parent; life = Living false }

    no_ended : is_ended_child pid child ≡ false
    no_ended = by (is_child pid child)
      where
        by : (b : Bool) → (b && false) ≡ false
        by true = refl
        by false = refl

    on : Waits table pid → slice_get (table.births ++ child ∷ []) (index_of pid) ≡ slice_get table.births (index_of pid) → Waits (born table parent) pid
    on (Over over) same = Over (so_same (λ life. not (is_living life)) (slice_get (table.births ++ child ∷ []) (index_of pid)) (slice_get table.births (index_of pid)) same ∙ over)
    on (Still none) same =
        let u = untold table pid none in
        Still (still (born table parent) pid (record {
          none = any_more (is_ended_child pid) table.births child ∙ ap (λ b. b || is_ended_child pid child) u.none ∙ no_ended;
          left = any_more (is_unwaited_child pid) table.births child ∙ ap (λ b. b || is_unwaited_child pid child) u.left;
          free = so_same is_pending (slice_get (table.births ++ child ∷ []) (index_of pid)) (slice_get table.births (index_of pid)) same ∙ u.free;
        }))

-- two processes of one home have two births
births_apart : (table : Table) (pid other : ℕ) → home_of pid ≡ table.home → home_of other ≡ table.home → 1 ≤ birth_of pid → 1 ≤ birth_of other → index_of pid ≡ index_of other → pid ≡ other
births_apart table pid other mine its from to same =
    let parts = div-add-mod' pid 1000 in
    let others = div-add-mod' other 1000 in
    omega (arith, parts, others, mine, its, from, to, same)

pub kill_keeps : (table : Table) (target pid : ℕ) → home_of pid ≡ table.home → home_of target ≡ table.home → 1 ≤ birth_of target → WaitsRightly table pid → (pid ≡ target) ⊎ WaitsRightly (killed table target) pid
kill_keeps table target pid mine its to r = by (slice_get table.births (index_of target)) refl
  where
    looked : (o : Option Birth) → slice_get table.births (index_of target) ≡ o → killed table target ≡ record table { births = killing table.births (index_of target) (option_map (λ (b : Birth). b.life) o) }
    looked o e = ap (λ (x : Option Birth). record table { births = killing table.births (index_of target) (option_map (λ (b : Birth). b.life) x) }) e

    kept : killed table target ≡ table → (pid ≡ target) ⊎ WaitsRightly (killed table target) pid
    kept same = inr (subst (λ (t : Table). WaitsRightly t pid) (sym same) r)

    by : (o : Option Birth) → slice_get table.births (index_of target) ≡ o → (pid ≡ target) ⊎ WaitsRightly (killed table target) pid
    by None e = kept (looked None e)
    by (Some b) e = lives b.life refl
      where
        lives : (life : Life) → b.life ≡ life → (pid ≡ target) ⊎ WaitsRightly (killed table target) pid
        lives (Ended how) l = kept (looked (Some b) e ∙ ap (λ (x : Life). record table { births = killing table.births (index_of target) (Some x) }) l)
        lives (Waited how) l = kept (looked (Some b) e ∙ ap (λ (x : Life). record table { births = killing table.births (index_of target) (Some x) }) l)
        lives (Living pending) l = indices (index_of pid == index_of target) refl
          where
            new : Birth
            new = record b { life = Living true }

            is : killed table target ≡ record table { births = slice_set table.births (index_of target) new }
            is =
                looked (Some b) e ∙ ap (λ (x : Life). record table { births = killing table.births (index_of target) (Some x) }) l
                ∙ ap (λ (x : Option Birth). record table { births = put table.births (index_of target) (option_map {T = Birth} (λ birth. record birth { life = Living true }) x) }) e

            indices : (same : Bool) → (index_of pid == index_of target) ≡ same → (pid ≡ target) ⊎ WaitsRightly (killed table target) pid
            indices true f = inl (births_apart table pid target mine its r.from to (eqb-true (index_of pid) (index_of target) f))
            indices false f =
                inr (subst (λ (t : Table). WaitsRightly t pid) (sym is)
                (rightly_set table (index_of target) b new pid e (ap (λ (x : Life). is_child pid b && is_ended x) (sym l)) (ap (λ (x : Life). is_child pid b && is_unwaited x) (sym l))
                (λ at waits. absurd (eqb-false (index_of pid) (index_of target) f at)) r))

-- a kill of who is killed already, or doesn't live, changes nothing; and nobody's birth goes
killed_life : (table : Table) (target : ℕ) (b : Birth) (life : Life) → slice_get table.births (index_of target) ≡ Some b → b.life ≡ life → killed table target ≡ record table { births = killing table.births (index_of target) (Some life) }
killed_life table target b life e l = killed_by table target (Some b) e ∙ ap (λ (x : Life). record table { births = killing table.births (index_of target) (Some x) }) l

killed_living : (table : Table) (target : ℕ) (b : Birth) (pending : Bool) → slice_get table.births (index_of target) ≡ Some b → b.life ≡ Living pending → killed table target ≡ record table { births = slice_set table.births (index_of target) (record b { life = Living true }) }
killed_living table target b pending e l =
    killed_life table target b (Living pending) e l ∙ ap (λ (x : Option Birth). record table { births = put table.births (index_of target) (option_map {T = Birth} (λ birth. record birth { life = Living true }) x) }) e

pub killed_none : (table : Table) (target : ℕ) → is_living_at table target ≡ false → killed table target ≡ table
killed_none table target h = by (slice_get table.births (index_of target)) refl
  where
    by : (o : Option Birth) → slice_get table.births (index_of target) ≡ o → killed table target ≡ table
    by None e = killed_by table target None e
    by (Some b) e = lives b.life refl
      where
        lives : (life : Life) → b.life ≡ life → killed table target ≡ table
        lives (Ended how) l = killed_life table target b (Ended how) e l
        lives (Waited how) l = killed_life table target b (Waited how) e l
        lives (Living pending) l = absurd (true≢false (sym (so_same is_living (slice_get table.births (index_of target)) (Some b) e ∙ ap is_living l) ∙ h))

pub killed_again : (table : Table) (target : ℕ) → is_pending_at table target ≡ true → killed table target ≡ table
killed_again table target h = by (slice_get table.births (index_of target)) refl
  where
    by : (o : Option Birth) → slice_get table.births (index_of target) ≡ o → killed table target ≡ table
    by None e = killed_by table target None e
    by (Some b) e = lives b.life refl
      where
        lives : (life : Life) → b.life ≡ life → killed table target ≡ table
        lives (Ended how) l = killed_life table target b (Ended how) e l
        lives (Waited how) l = killed_life table target b (Waited how) e l
        lives (Living pending) l =
            let is : pending ≡ true = sym (so_same is_pending (slice_get table.births (index_of target)) (Some b) e ∙ ap is_pending l) ∙ h in
            let same : record b { life = Living true } ≡ b = ap (λ (x : Life). record b { life = x }) (ap Living (sym is) ∙ sym l) in
            killed_living table target b pending e l
            ∙ ap (λ (x : Birth). record table { births = slice_set table.births (index_of target) x }) same
            ∙ ap (λ (bs : List Birth). record table { births = bs }) (set_same table.births (index_of target) b e)

pub killed_born : (table : Table) (target pid : ℕ) → is_some (birth_at table.births pid) ≡ true → is_some (birth_at (killed table target).births pid) ≡ true
killed_born table target pid h = by (slice_get table.births (index_of target)) refl
  where
    kept : killed table target ≡ table → is_some (birth_at (killed table target).births pid) ≡ true
    kept same = ap (λ (t : Table). is_some (birth_at t.births pid)) same ∙ h

    by : (o : Option Birth) → slice_get table.births (index_of target) ≡ o → is_some (birth_at (killed table target).births pid) ≡ true
    by None e = kept (killed_by table target None e)
    by (Some b) e = lives b.life refl
      where
        lives : (life : Life) → b.life ≡ life → is_some (birth_at (killed table target).births pid) ≡ true
        lives (Ended how) l = kept (killed_life table target b (Ended how) e l)
        lives (Waited how) l = kept (killed_life table target b (Waited how) e l)
        lives (Living pending) l =
            ap (λ (t : Table). is_some (birth_at t.births pid)) (killed_living table target b pending e l) ∙ born_set table.births (index_of target) b (record b { life = Living true }) (index_of pid) e h

pub place_keeps : (table : Table) (moves kernel pid : ℕ) → WaitsRightly table pid → WaitsRightly (moved table moves kernel) pid
place_keeps table moves kernel pid r = by (slice_get table.births (index_of moves)) refl
  where
    by : (o : Option Birth) → slice_get table.births (index_of moves) ≡ o → WaitsRightly (moved table moves kernel) pid
    by None e = subst (λ (x : Option Birth). WaitsRightly (record table { births = put table.births (index_of moves) (option_map {T = Birth} (λ birth. record birth { place = kernel }) x) }) pid) (sym e) r
    by (Some b) e =
        subst (λ (x : Option Birth). WaitsRightly (record table { births = put table.births (index_of moves) (option_map {T = Birth} (λ birth. record birth { place = kernel }) x) }) pid) (sym e)
        (rightly_set table (index_of moves) b (record b { place = kernel }) pid e refl refl here r)
      where
        here : index_of pid ≡ index_of moves → Waits table pid → Waits (record table { births = slice_set table.births (index_of moves) (record b { place = kernel }) }) pid
        here at waits = on waits (at_new at) (at_old at)
          where
            at_new : index_of pid ≡ index_of moves → slice_get (slice_set table.births (index_of moves) (record b { place = kernel })) (index_of pid) ≡ Some (record b { place = kernel })
            at_new at = ap (λ n. slice_get (slice_set table.births (index_of moves) (record b { place = kernel })) n) at ∙ get_set_same table.births (index_of moves) (record b { place = kernel }) (get_within table.births (index_of moves) b e)

            at_old : index_of pid ≡ index_of moves → slice_get table.births (index_of pid) ≡ Some b
            at_old at = ap (λ n. slice_get table.births n) at ∙ e

            on : Waits table pid → slice_get (slice_set table.births (index_of moves) (record b { place = kernel })) (index_of pid) ≡ Some (record b { place = kernel }) → slice_get table.births (index_of pid) ≡ Some b
                → Waits (record table { births = slice_set table.births (index_of moves) (record b { place = kernel }) }) pid
            on (Over over) n o =
                Over (so_same (λ life. not (is_living life)) (slice_get (slice_set table.births (index_of moves) (record b { place = kernel })) (index_of pid)) (Some (record b { place = kernel })) n
                ∙ sym (so_same (λ life. not (is_living life)) (slice_get table.births (index_of pid)) (Some b) o) ∙ over)
            on (Still none) n o =
                let u = untold table pid none in
                Still (still (record table { births = slice_set table.births (index_of moves) (record b { place = kernel }) }) pid (record {
                  none = any_kept (is_ended_child pid) table.births (index_of moves) b (record b { place = kernel }) e refl ∙ u.none;
                  left = any_kept (is_unwaited_child pid) table.births (index_of moves) b (record b { place = kernel }) e refl ∙ u.left;
                  free =
                      so_same is_pending (slice_get (slice_set table.births (index_of moves) (record b { place = kernel })) (index_of pid)) (Some (record b { place = kernel })) n
                      ∙ sym (so_same is_pending (slice_get table.births (index_of pid)) (Some b) o) ∙ u.free;
                }))

-- ---- rows

pub waiters_same : IsSameness same_waiter
waiters_same = record {
  joined = λ x y e z. ap (λ (pid : ℕ). z.0 == pid) (sym (eqb-true y.0 x.0 e));
  turned = λ x y. eq_turned y.0 x.0;
}

any_less_by : (q : ℕ × Parked → Bool) (row : ℕ × Parked) (rows rest : List (ℕ × Parked)) (b : Bool) → list_any q (row ∷ rows) ≡ false → list_any q rest ≡ false → list_any q (cond b rows (row ∷ rest)) ≡ false
any_less_by q row rows rest true h k = (or_false (q row) (list_any q rows) h).1
any_less_by q row rows rest false h k = ap (λ b. b || list_any q rest) (or_false (q row) (list_any q rows) h).0 ∙ k

any_less : (q p : ℕ × Parked → Bool) (rows : List (ℕ × Parked)) → list_any q rows ≡ false → list_any q (less p rows) ≡ false
any_less q p [] h = refl
any_less q p (row ∷ rows) h = any_less_by q row rows (less p rows) (p row) h (any_less q p rows (or_false (q row) (list_any q rows) h).1)

once_by : (row : ℕ × Parked) (rows rest : List (ℕ × Parked)) (b : Bool) → EachOnce same_waiter (row ∷ rows) → list_any (same_waiter row) rest ≡ false → EachOnce same_waiter rest → EachOnce same_waiter (cond b rows (row ∷ rest))
once_by row rows rest true h k l = h.1
once_by row rows rest false h k l = (k, l)

pub once_less : (p : ℕ × Parked → Bool) (rows : List (ℕ × Parked)) → EachOnce same_waiter rows → EachOnce same_waiter (less p rows)
once_less p [] h = tt
once_less p (row ∷ rows) h = once_by row rows (less p rows) (p row) h (any_less (same_waiter row) p rows h.0) (once_less p rows h.1)

-- none is left of the one that was taken out
none_by : (pid : ℕ) (row : ℕ × Parked) (rows rest : List (ℕ × Parked)) (b : Bool) → (row.0 == pid) ≡ b → list_any (same_waiter row) rows ≡ false → list_any (is_under is_pid pid) rest ≡ false → list_any (is_under is_pid pid) (cond b rows (row ∷ rest)) ≡ false
none_by pid row rows rest true e once later = subst (λ (n : ℕ). list_any (is_under is_pid n) rows ≡ false) (eqb-true row.0 pid e) once
none_by pid row rows rest false e once later = ap (λ b. b || list_any (is_under is_pid pid) rest) e ∙ later

pub none_less : (pid : ℕ) (rows : List (ℕ × Parked)) → EachOnce same_waiter rows → list_any (is_under is_pid pid) (less (is_under is_pid pid) rows) ≡ false
none_less pid [] h = refl
none_less pid (row ∷ rows) h = none_by pid row rows (less (is_under is_pid pid) rows) (row.0 == pid) refl h.0 (none_less pid rows h.1)

-- who isn't the one more owes what it owed before
row_paid : (D : ℕ → Type 0) (pid : ℕ) (table : Table) (n : ℕ) → (n == pid) ≡ false → Owes (And D (Some pid)) table n → Owes D table n
row_paid D pid table n apart w = record { from = w.from; born = w.born; waits = by w.waits }
  where
    by : And D (Some pid) n ⊎ Waits table n → D n ⊎ Waits table n
    by (inl (inl d)) = inl d
    by (inl (inr e)) = absurd (true≢false (sym (eq-eqb n pid (sym (some_is pid n e))) ∙ apart))
    by (inr waits) = inr waits

pub all_paid : (D : ℕ → Type 0) (pid : ℕ) (table : Table) (rows : List (ℕ × Parked)) → list_any (is_under is_pid pid) rows ≡ false → AllByRecursion (λ (row : ℕ × Parked). Owes (And D (Some pid)) table row.0) rows → AllByRecursion (λ (row : ℕ × Parked). Owes D table row.0) rows
all_paid D pid table [] h each = tt
all_paid D pid table (row ∷ rows) h each =
    let parts = or_false (row.0 == pid) (list_any (is_under is_pid pid) rows) h in
    (row_paid D pid table row.0 parts.0 each.0, all_paid D pid table rows parts.1 each.1)

none_more : (D : ℕ → Type 0) (table : Table) (n : ℕ) → Owes (And D None) table n → Owes D table n
none_more D table n w = record { from = w.from; born = w.born; waits = by w.waits }
  where
    by : And D None n ⊎ Waits table n → D n ⊎ Waits table n
    by (inl (inl d)) = inl d
    by (inl (inr e)) = absurd (cc)
    by (inr waits) = inr waits

pub nobody_more : (D : ℕ → Type 0) (table : Table) (rows : List (ℕ × Parked)) → AllByRecursion (λ (row : ℕ × Parked). Owes (And D None) table row.0) rows → AllByRecursion (λ (row : ℕ × Parked). Owes D table row.0) rows
nobody_more D table rows each = each_weaken (λ (row : ℕ × Parked). Owes (And D None) table row.0) (λ (row : ℕ × Parked). Owes D table row.0) rows (λ row w. none_more D table row.0 w) each

-- nobody
abbrev pub Nobody : ℕ → Type 0
Nobody pid = ⊥

pub paid : (table : Table) (n : ℕ) → Owes Nobody table n → WaitsRightly table n
paid table n w = record { from = w.from; born = w.born; waits = by w.waits }
  where
    by : ⊥ ⊎ Waits table n → Waits table n
    by (inl e) = absurd e
    by (inr waits) = waits

-- others than one
pub others_keep : (pid : ℕ) (P Q : ℕ → Type 0) (rows : List (ℕ × Parked)) → list_any (is_under is_pid pid) rows ≡ false → ((n : ℕ) → (n == pid) ≡ false → P n → Q n) → AllByRecursion (λ (row : ℕ × Parked). P row.0) rows → AllByRecursion (λ (row : ℕ × Parked). Q row.0) rows
others_keep pid P Q [] h f each = tt
others_keep pid P Q (row ∷ rows) h f each =
    let parts = or_false (row.0 == pid) (list_any (is_under is_pid pid) rows) h in
    (f row.0 parts.0 each.0, others_keep pid P Q rows parts.1 f each.1)
