-- The processes with which a client's kernel begins.
use Rattle.std.proofs.Common.{arith, ◌≡◌, ℕ, zero, suc, ◌+◌, ◌-◌, ◌*◌, ◌<◌, ◌≤◌, ◌==◌, nat_lt, Bool, true, false, ◌&&◌, ◌||◌, not, cond, List, [], ◌∷◌, ◌++◌, length, Option, Some, None, option_map, slice_get, refl, sym, ap, ◌∙◌, subst}
use Rattle.std.proofs.lemmas.Bool.{eqb-true, ltb-true, and_from, cond_both}
use Rattle.std.specs.List.{AllByRecursion, list_all, list_any}
use Rattle.std.specs.BTreeMap.{insert_entry}
use Rattle.std.specs.Ordering.{match_ordering, nat_cmp}
use Rattle.std.specs.declared.cmp.Ordering.{Ordering}
use Rattle.std.specs.declared.cmp.Ordering.TheVariants.{Less, Equal, Greater}
use Rattle.sprite_ids.specs.Lists.{EachOnce}
use Rattle.sprite_ids.specs.Pid.{birth_of}
use Rattle.sprite_ids.proofs.ListLaws.{each_push, each_weaken}
use Rattle.sprite_ids.proofs.OnceLaws.{or_false}
use Rattle.process_machine.specs.Machine.{Machine}
use Rattle.home_table.specs.declared.birth.Birth.{Birth}
use Rattle.home_table.specs.declared.birth.Life.{Life}
use Rattle.home_table.specs.declared.birth.Life.TheVariants.{Living}
use Rattle.home_table.specs.Home.{Table, born, is_living, is_living_at, is_pending, is_pending_at, is_so, pid_at}
use Rattle.unix_calls.specs.declared.Description.{Description}
use Rattle.client_homes.specs.declared.client.ClientProcs.{ClientProcs}
use Rattle.client_homes.specs.declared.process.Proc.{Proc}
use Rattle.client_homes.specs.Births.{child_of}
use Rattle.client_homes.specs.Homes.{is_native}
use Rattle.client_procs.specs.Boot.{bears_if, begins_with, boots, nothing_begun, puts_first, starts_all, starts_line}
use Rattle.client_procs.specs.Launching.{fresh_image}
use Rattle.client_facts.specs.FileFacts.{same_process}
use Rattle.client_facts.specs.ProcFacts as facts
use Rattle.client_facts.specs.HomeFacts as homes
use Rattle.stream_table.proofs.OwnerLaws.{eq_turned}

-- Cases

by_option : {A B : Type 0} (f : Option A → B) (P : B → Type 0) (o : Option A) → P (f None) → ((a : A) → P (f (Some a))) → P (f o)
by_option f P None h k = h
by_option f P (Some a) h k = k a

by_list : {A B : Type 0} (f : List A → B → B) (P : B → Type 0) → ((b : B) → P b → P (f [] b)) → ((a : A) (rest : List A) (b : B) → ((c : B) → P c → P (f rest c)) → P b → P (f (a ∷ rest) b)) → (xs : List A) (b : B) → P b → P (f xs b)
by_list f P n c [] b h = n b h
by_list f P n c (a ∷ rest) b h = c a rest b (λ d k. by_list f P n c rest d k) h

-- What is so of the processes and their births

record IsBorn (table : Table) (row : ℕ × Proc) : Type 0 where
  at : ℕ
  under : at < length table.births
  pid : row.0 ≡ 1000 * table.home + at + 1
  image : Machine
  is : row.1 ≡ child_of image

abbrev IsNew : Birth → Type 0
IsNew birth = birth.life ≡ Living false

record Rightly (s : ClientProcs) : Type 0 where
  home : s.home.home ≡ s.kernel
  few : length s.home.births ≤ 200
  born_here : AllByRecursion (IsBorn s.home) s.procs
  once : EachOnce same_process s.procs
  new : AllByRecursion IsNew s.home.births

-- One process more

length_more : {X : Type 0} (xs : List X) (x : X) → length (xs ++ x ∷ []) ≡ suc (length xs)
length_more [] x = refl
length_more (y ∷ ys) x = ap suc (length_more ys x)

born_more : (table : Table) (row : ℕ × Proc) → IsBorn table row → IsBorn (born table None) row
born_more table row h = record {
  at = h.at;
  under = (let more = length_more table.births (record { parent = None; place = table.home; life = Living false }) in let under = h.under in omega arith);
  pid = h.pid;
  image = h.image;
  is = h.is;
}

put_each_by : (P : ℕ × Proc → Type 0) (k : ℕ) (v : Proc) (e : ℕ × Proc) (es more : List (ℕ × Proc)) (o : Ordering) → P (k, v) → (P e → P (e.0, v)) → AllByRecursion P (e ∷ es) → AllByRecursion P more → AllByRecursion P (match_ordering o ((k, v) ∷ e ∷ es) ((e.0, v) ∷ es) (e ∷ more))
put_each_by P k v e es more Less new same h rest = (new, h)
put_each_by P k v e es more Equal new same h rest = (same h.0, h.1)
put_each_by P k v e es more Greater new same h rest = (h.0, rest)

put_each : (P : ℕ × Proc → Type 0) (k : ℕ) (v : Proc) (rows : List (ℕ × Proc)) → P (k, v) → ((e : ℕ × Proc) → P e → P (e.0, v)) → AllByRecursion P rows → AllByRecursion P (insert_entry nat_cmp rows k v)
put_each P k v [] new same h = (new, tt)
put_each P k v (e ∷ es) new same h = put_each_by P k v e es (insert_entry nat_cmp es k v) (nat_cmp k e.0) new (same e) h (put_each P k v es new same h.1)

none_by : (key k : ℕ) (v : Proc) (e : ℕ × Proc) (es more : List (ℕ × Proc)) (o : Ordering) → (k == key) ≡ false → list_any (λ (row : ℕ × Proc). row.0 == key) (e ∷ es) ≡ false → list_any (λ (row : ℕ × Proc). row.0 == key) more ≡ false → list_any (λ (row : ℕ × Proc). row.0 == key) (match_ordering o ((k, v) ∷ e ∷ es) ((e.0, v) ∷ es) (e ∷ more)) ≡ false
none_by key k v e es more Less apart h rest = ap (λ b. b || list_any (λ (row : ℕ × Proc). row.0 == key) (e ∷ es)) apart ∙ h
none_by key k v e es more Equal apart h rest = h
none_by key k v e es more Greater apart h rest = ap (λ b. b || list_any (λ (row : ℕ × Proc). row.0 == key) more) (or_false (e.0 == key) (list_any (λ (row : ℕ × Proc). row.0 == key) es) h).0 ∙ rest

pub put_none : (key k : ℕ) (v : Proc) (rows : List (ℕ × Proc)) → (k == key) ≡ false → list_any (λ (row : ℕ × Proc). row.0 == key) rows ≡ false → list_any (λ (row : ℕ × Proc). row.0 == key) (insert_entry nat_cmp rows k v) ≡ false
put_none key k v [] apart h = ap (λ b. b || false) apart
put_none key k v (e ∷ es) apart h =
    none_by key k v e es (insert_entry nat_cmp es k v) (nat_cmp k e.0) apart h (put_none key k v es apart (or_false (e.0 == key) (list_any (λ (row : ℕ × Proc). row.0 == key) es) h).1)

once_by : (k : ℕ) (v : Proc) (e : ℕ × Proc) (es more : List (ℕ × Proc)) (o : Ordering) → list_any (λ (row : ℕ × Proc). row.0 == k) (e ∷ es) ≡ false → EachOnce same_process (e ∷ es) → list_any (same_process e) more ≡ false → EachOnce same_process more → EachOnce same_process (match_ordering o ((k, v) ∷ e ∷ es) ((e.0, v) ∷ es) (e ∷ more))
once_by k v e es more Less none h apart rest = (none, h)
once_by k v e es more Equal none h apart rest = h
once_by k v e es more Greater none h apart rest = (apart, rest)

pub put_once : (k : ℕ) (v : Proc) (rows : List (ℕ × Proc)) → list_any (λ (row : ℕ × Proc). row.0 == k) rows ≡ false → EachOnce same_process rows → EachOnce same_process (insert_entry nat_cmp rows k v)
put_once k v [] none h = (refl, tt)
put_once k v (e ∷ es) none h =
    let parts = or_false (e.0 == k) (list_any (λ (row : ℕ × Proc). row.0 == k) es) none in
    once_by k v e es (insert_entry nat_cmp es k v) (nat_cmp k e.0) none h (put_none e.0 k v es (eq_turned k e.0 ∙ parts.0) h.0) (put_once k v es parts.1 h.1)

pub apart_by : (a b : ℕ) (t : Bool) → (a == b) ≡ t → (a ≡ b → ⊥) → t ≡ false
apart_by a b true e h = absurd (h (eqb-true a b e))
apart_by a b false e h = refl

-- the next pid is none of those that were born
none_next : (table : Table) (rows : List (ℕ × Proc)) → AllByRecursion (IsBorn table) rows → list_any (λ (row : ℕ × Proc). row.0 == 1000 * table.home + length table.births + 1) rows ≡ false
none_next table [] h = refl
none_next table (row ∷ rows) h =
    let key = 1000 * table.home + length table.births + 1 in
    let apart : (row.0 == key) ≡ false = apart_by row.0 key (row.0 == key) refl (λ e. (let pid = h.0.pid in let under = h.0.under in absurd (omega arith))) in
    ap (λ b. b || list_any (λ (row : ℕ × Proc). row.0 == key) rows) apart ∙ none_next table rows h.1

rightly_put : (s t : ClientProcs) (image : Machine) → Rightly s → nat_lt (length s.home.births) 200 ≡ true → t.kernel ≡ s.kernel → t.home ≡ born s.home None → t.procs ≡ insert_entry nat_cmp s.procs (1000 * s.home.home + length s.home.births + 1) (child_of image) → Rightly t
rightly_put s t image r room kernel home procs =
    let next = 1000 * s.home.home + length s.home.births + 1 in
    let table : Table = born s.home None in
    let baby : Birth = record { parent = None; place = s.home.home; life = Living false } in
    let more = length_more s.home.births baby in
    let new : IsBorn table (next, child_of image) = record { at = length s.home.births; under = omega arith; pid = refl; image = image; is = refl } in
    let olds : AllByRecursion (IsBorn table) s.procs = each_weaken (IsBorn s.home) (IsBorn table) s.procs (born_more s.home) r.born_here in
    let all : AllByRecursion (IsBorn table) (insert_entry nat_cmp s.procs next (child_of image)) = put_each (IsBorn table) next (child_of image) s.procs new (λ e h. record { at = h.at; under = h.under; pid = h.pid; image = image; is = refl }) olds in
    let once = put_once next (child_of image) s.procs (none_next s.home s.procs r.born_here) r.once in
    let under = ltb-true (length s.home.births) 200 room in
    record {
      home = ap (λ (h : Table). h.home) home ∙ r.home ∙ sym kernel;
      few = (let same = ap (λ (h : Table). length h.births) home in omega arith);
      born_here = subst (λ (h : Table). AllByRecursion (IsBorn h) t.procs) (sym home) (subst (AllByRecursion (IsBorn table)) (sym procs) all);
      once = subst (EachOnce same_process) (sym procs) once;
      new = subst (λ (h : Table). AllByRecursion IsNew h.births) (sym home) (each_push IsNew s.home.births baby r.new refl);
    }

-- so at the boot
module _ (d : Description) (kernel : ℕ) where
  rightly_boots : Rightly (boots d kernel)
  rightly_boots =
      by_list (starts_all d.programs) (λ b. Rightly (begins_with b d kernel)) (λ b h. h)
      (λ line rest b go h. go (starts_line d.programs line b)
      (cond_both (not (line.host == b.home.home)) b (bears_if (fresh_image d.programs line.program line.arg) b) (λ c. Rightly (begins_with c d kernel))
      (λ _. h)
      (λ _. by_option (λ o. bears_if o b) (λ c. Rightly (begins_with c d kernel)) (fresh_image d.programs line.program line.arg) h
      (λ image. cond_both (nat_lt (length b.home.births) 200) (puts_first (1000 * b.home.home + length b.home.births + 1) image (record b { home = born b.home None })) b (λ c. Rightly (begins_with c d kernel))
      (λ room. rightly_put (begins_with b d kernel) (begins_with (puts_first (1000 * b.home.home + length b.home.births + 1) image (record b { home = born b.home None })) d kernel) image h room refl refl refl)
      (λ _. h)))))
      d.starts (nothing_begun kernel)
      (record { home = refl; few = omega arith; born_here = tt; once = tt; new = tt })

-- The facts

all_rows : (table : Table) (p : ℕ × Proc → Bool) (rows : List (ℕ × Proc)) → ((row : ℕ × Proc) → IsBorn table row → p row ≡ true) → AllByRecursion (IsBorn table) rows → list_all p rows ≡ true
all_rows table p [] each h = refl
all_rows table p (row ∷ rows) each h = and_from (p row) (list_all p rows) (each row h.0) (all_rows table p rows each h.1)

all_children : (table : Table) (p : ℕ × Proc → Bool) (rows : List (ℕ × Proc)) → ((pid : ℕ) (image : Machine) → p (pid, child_of image) ≡ true) → AllByRecursion (IsBorn table) rows → list_all p rows ≡ true
all_children table p rows each h = all_rows table p rows (λ row born. ap (λ (proc : Proc). p (row.0, proc)) born.is ∙ each row.0 born.image) h

pub procs_begin_with_facts : (d : Description) (kernel : ℕ) → facts.KeepsProcFacts (boots d kernel)
procs_begin_with_facts d kernel =
    let s : ClientProcs = boots d kernel in
    let r = rightly_boots d kernel in
    record {
      once = r.once;
      leaving_once = tt;
      apart = refl;
      inside = refl;
      operations = record { here = all_children s.home (facts.waits_there s) s.procs (λ pid image. refl) r.born_here; leaving = refl };
      owners = refl;
      unmoved = refl;
      free = all_children s.home facts.is_free_if_ready s.procs (λ pid image. refl) r.born_here;
      settled = all_children s.home facts.is_settled s.procs (λ pid image. refl) r.born_here;
      calls = all_children s.home (facts.has_its_call s) s.procs (λ pid image. refl) r.born_here;
      wanted = refl;
      calls_once = tt;
      pages = refl;
      getting = refl;
      getters = all_children s.home (facts.is_getter s) s.procs (λ pid image. refl) r.born_here;
      asked = refl;
      askers = refl;
      asked_once = tt;
      made = refl;
    }

living_by : (b lives : Bool) → lives ≡ true → (not b || cond b lives false) ≡ true
living_by true lives h = h
living_by false lives h = refl

killed_by : (native pending : Bool) → pending ≡ false → (not (native && pending) || false) ≡ true
killed_by true pending h = ap (λ b. not b || false) h
killed_by false pending h = refl

found_life : (births : List Birth) (at : ℕ) → at < length births → AllByRecursion IsNew births → is_so is_living (option_map {T = Birth} (λ birth. birth.life) (slice_get births at)) ≡ true
found_life [] at under h = absurd (omega arith)
found_life (birth ∷ births) zero under h = ap is_living h.0
found_life (birth ∷ births) (suc at) under h = found_life births at (omega arith) h.1

none_pending : (births : List Birth) (at : ℕ) → AllByRecursion IsNew births → is_so is_pending (option_map {T = Birth} (λ birth. birth.life) (slice_get births at)) ≡ false
none_pending [] at h = refl
none_pending (birth ∷ births) zero h = ap is_pending h.0
none_pending (birth ∷ births) (suc at) h = none_pending births at h.1

all_found : (at : ℕ) (births : List Birth) (s : ClientProcs) → AllByRecursion IsNew births → homes.are_found_from at births s ≡ true
all_found at [] s h = refl
all_found at (birth ∷ births) s h =
    and_from (homes.is_found_at (pid_at s.home.home at) birth s) (homes.are_found_from (at + 1) births s)
    (ap (λ (life : Life). homes.is_found_at (pid_at s.home.home at) (record birth { life = life }) s) h.0)
    (all_found (at + 1) births s h.1)

pub homes_begin_with_facts : (d : Description) (kernel : ℕ) → homes.KeepsHomeFacts (boots d kernel)
homes_begin_with_facts d kernel =
    let s : ClientProcs = boots d kernel in
    let r = rightly_boots d kernel in
    record {
      own = r.home;
      live = all_rows s.home (homes.is_alive_here s) s.procs (λ row born. lives s r row born) r.born_here;
      parked = refl;
      parked_once = tt;
      waits = all_children s.home (homes.is_parked_in s) s.procs (λ pid image. refl) r.born_here;
      kills = refl;
      kills_once = tt;
      killed = all_children s.home (homes.knows_its_kill s) s.procs (λ pid image. killed_by (is_native pid s) (is_pending_at s.home pid) (none_pending s.home.births (birth_of pid - 1) r.new)) r.born_here;
      found = all_found 0 s.home.births s r.new;
      forks = refl;
      forks_once = tt;
      early = refl;
    }
  where
    lives : (s : ClientProcs) → Rightly s → (row : ℕ × Proc) → IsBorn s.home row → homes.is_alive_here s row ≡ true
    lives s r row born =
        let place : birth_of row.0 - 1 ≡ born.at = (let pid = born.pid in let under = born.under in let few = r.few in omega arith) in
        let living : is_living_at s.home row.0 ≡ true = ap (λ (at : ℕ). is_so is_living (option_map {T = Birth} (λ birth. birth.life) (slice_get s.home.births at))) place ∙ found_life s.home.births born.at born.under r.new in
        ap (λ (proc : Proc). homes.is_alive_here s (row.0, proc)) born.is ∙ living_by (is_native row.0 s) (is_living_at s.home row.0) living
