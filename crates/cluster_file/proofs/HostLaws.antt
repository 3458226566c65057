-- Names that name a kernel, a client or a program, and what stands at their numbers.
use Rattle.std.proofs.Common.{◌≡◌, ◌<◌, ℕ, zero, suc, ◌+◌, ◌^◌, ◌==◌, List, [], ◌∷◌, length, map, codes, Bool, true, false, cond, ◌&&◌, Option, Some, None, Ok, refl, sym, ap, subst, ◌∙◌, arith, nat_le, nat_lt, slice_get}
use Rattle.std.specs.List.{AllByRecursion}
use Rattle.std.specs.Option.{option_map}
use Rattle.std.proofs.lemmas.Bool.{and_parts, and_from, le-leb, lt-ltb}
use Rattle.sprite_ids.proofs.ListLaws.{get_found}
use Rattle.link_plan.specs.declared.plan.PlanEntry.{PlanEntry}
use Rattle.unix_calls.specs.declared.description.Description.{Description}
use Rattle.unix_calls.specs.declared.description.KernelLine.{KernelLine}
use Rattle.unix_calls.specs.declared.description.ProgramLine.{ProgramLine}
use Rattle.unix_calls.specs.declared.description.StartLine.{StartLine}
use Rattle.unix_calls.specs.declared.description.EvictLine.{EvictLine}
use Rattle.unix_calls.specs.Lawful.{is_within, numbered, holds, is_client_at, is_start, is_evict, is_end, is_fault, is_planned, has_starts, has_evicts, has_plan}
use Rattle.unix_calls.specs.Same.{same_text}
use Rattle.cluster_file.specs.declared.rows.KernelRow.{KernelRow}
use Rattle.cluster_file.specs.declared.rows.ProgramRow.{ProgramRow}
use Rattle.cluster_file.specs.declared.rows.StartRow.{StartRow}
use Rattle.cluster_file.specs.declared.rows.LinkRow.{LinkRow}
use Rattle.cluster_file.specs.declared.rows.EvictRow.{EvictRow}
use Rattle.cluster_file.specs.declared.hosts.Started.{Started}
use Rattle.cluster_file.specs.Refusals.{read_all}
use Rattle.cluster_file.specs.Names
use Rattle.cluster_file.proofs.RowLaws.{AreNumbered, IsLinkRow}
use Rattle.cluster_file.proofs.StageLaws.{reads_each, all_passed}

-- ---- look-ups by name

-- a choice of a number
chosen_by : (P : ℕ → Type 0) (b : Bool) (here n : ℕ) (rest : Option ℕ) → cond b (Some here) rest ≡ Some n → (b ≡ true → P here) → (rest ≡ Some n → P n) → P n
chosen_by P true here n rest e h k = let same : here ≡ n = cc in subst P same (h refl)
chosen_by P false here n rest e h k = k e

-- the number is that of a place in the list
pub record IsPlaced (first most n : ℕ) : Type 0 where
  pub place : ℕ
  pub number : n ≡ first + place
  pub within : place < most

-- a place in the rest of a list
placed_later : (first most n : ℕ) → IsPlaced (suc first) most n → IsPlaced first (suc most) n
placed_later first most n p =
    let number = p.number in
    let within = p.within in
    record { place = suc p.place; number = omega (arith, number); within = omega (arith, within) }

-- the number of a kernel that is found by its name
pub kernel_placed : (text : List ℕ) (first : ℕ) (rows : List KernelRow) (n : ℕ) → AreNumbered (λ (r : KernelRow). r.kernel) first rows → Names.kernel_named text rows ≡ Some n → IsPlaced first (length rows) n
kernel_placed text first [] n h e = absurd (cc)
kernel_placed text first (row ∷ rows) n h e =
    let number = h.0 in
    chosen_by (IsPlaced first (suc (length rows))) (same_text row.name text) row.kernel n (Names.kernel_named text rows) e
    (λ b. record { place = 0; number = omega (arith, number); within = omega arith })
    (λ later. placed_later first (length rows) n (kernel_placed text (suc first) rows n h.1 later))

-- and of a program
pub program_placed : (text : List ℕ) (first : ℕ) (rows : List ProgramRow) (n : ℕ) → AreNumbered (λ (r : ProgramRow). r.number) first rows → Names.program_named text rows ≡ Some n → IsPlaced first (length rows) n
program_placed text first [] n h e = absurd (cc)
program_placed text first (row ∷ rows) n h e =
    let number = h.0 in
    chosen_by (IsPlaced first (suc (length rows))) (same_text row.name text) row.number n (Names.program_named text rows) e
    (λ b. record { place = 0; number = omega (arith, number); within = omega arith })
    (λ later. placed_later first (length rows) n (program_placed text (suc first) rows n h.1 later))

-- how many domains a kernel serves, as a row and as a line
abbrev pub row_size : KernelRow → ℕ
row_size row = length row.serves

-- and as a line
abbrev pub line_size : KernelLine → ℕ
line_size line = length line.serves

-- whether there are none
abbrev is_zero : ℕ → Bool
is_zero n = n == 0

-- the number is that of a kernel that serves nothing
record IsClient (first : ℕ) (sizes : List ℕ) (n : ℕ) : Type 0 where
  place : ℕ
  number : n ≡ first + place
  serves : holds is_zero (slice_get sizes place) ≡ true

-- a client in the rest of a list
client_later : (first size n : ℕ) (sizes : List ℕ) → IsClient (suc first) sizes n → IsClient first (size ∷ sizes) n
client_later first size n sizes p =
    let number = p.number in
    record { place = suc p.place; number = omega (arith, number); serves = p.serves }

-- the number of a client that is found by its name
client_placed : (text : List ℕ) (first : ℕ) (rows : List KernelRow) (n : ℕ) → AreNumbered (λ (r : KernelRow). r.kernel) first rows → Names.client_named text rows ≡ Some n → IsClient first (map row_size rows) n
client_placed text first [] n h e = absurd (cc)
client_placed text first (row ∷ rows) n h e =
    let number = h.0 in
    chosen_by (IsClient first (row_size row ∷ map row_size rows)) (length row.serves == 0 && same_text row.name text) row.kernel n (Names.client_named text rows) e
    (λ b. record { place = 0; number = omega (arith, number); serves = (and_parts (length row.serves == 0) (same_text row.name text) b).0 })
    (λ later. client_later first (row_size row) n (map row_size rows) (client_placed text (suc first) rows n h.1 later))

-- ---- what stands at a number

-- a test of what stands at a place of a mapped list
holds_mapped : {A B : Type 0} (p : B → Bool) (f : A → B) (xs : List A) (i : ℕ) → holds (λ (x : A). p (f x)) (slice_get xs i) ≡ holds p (slice_get (map f xs) i)
holds_mapped p f [] i = refl
holds_mapped p f (x ∷ xs) zero = refl
holds_mapped p f (x ∷ xs) (suc i) = holds_mapped p f xs i

-- at a client's number stands a client of the description
client_at : (kernels : List KernelLine) (rows : List KernelRow) (n : ℕ) → map line_size kernels ≡ map row_size rows → IsClient 1 (map row_size rows) n → is_client_at kernels n ≡ true
client_at kernels rows n same p =
    let number = p.number in
    let at : n ≡ suc p.place = omega (arith, number) in
    ap (is_client_at kernels) at
    ∙ holds_mapped is_zero line_size kernels p.place
    ∙ ap (λ sizes. holds is_zero (slice_get sizes p.place)) same
    ∙ p.serves

-- so it is where the client is found by its name
pub is_client : (kernels : List KernelLine) (rows : List KernelRow) (text : List ℕ) (n : ℕ) → AreNumbered (λ (r : KernelRow). r.kernel) 1 rows → map line_size kernels ≡ map row_size rows → Names.client_named text rows ≡ Some n → is_client_at kernels n ≡ true
is_client kernels rows text n h same e = client_at kernels rows n same (client_placed text 1 rows n h e)

-- at a place's number stands something
there_at : {A : Type 0} (xs : List A) (n : ℕ) → IsPlaced 1 (length xs) n → holds (λ (x : A). true) (numbered xs n) ≡ true
there_at {A} xs n p =
    let number = p.number in
    let at : n ≡ suc p.place = omega (arith, number) in
    ap (λ m. holds (λ (x : A). true) (numbered xs m)) at ∙ ap (holds (λ (x : A). true)) (get_found xs p.place p.within).1

-- ---- starts

-- a start on a client, with a small argument
abbrev IsHosted : List KernelLine → Started → Type 0
IsHosted kernels started = (is_client_at kernels started.host ≡ true) × (started.arg < 2 ^ 63)

-- a start whose host is found or not
hosted_by : (kernels : List KernelLine) (rows : List KernelRow) (earlier : List Started) (row : StartRow) (started : Started) (o : Option ℕ) → ((n : ℕ) → o ≡ Some n → is_client_at kernels n ≡ true) → row.arg < 2 ^ 63 → Names.started_on earlier row o ≡ Ok started → IsHosted kernels started
hosted_by kernels rows earlier row started None h k e = absurd (cc)
hosted_by kernels rows earlier row started (Some host) h k e =
    let same : record { host = host; program = row.program; arg = row.arg } ≡ started = cc in
    subst (IsHosted kernels) same (h host refl, k)

-- all starts with their hosts
all_hosted : (kernels : List KernelLine) (rows : List KernelRow) (starts : List StartRow) (hosts : List Started) → AreNumbered (λ (r : KernelRow). r.kernel) 1 rows → map line_size kernels ≡ map row_size rows → AllByRecursion (λ (r : StartRow). r.arg < 2 ^ 63) starts → read_all (Names.hosted_start rows) starts ≡ Ok hosts → AllByRecursion (IsHosted kernels) hosts
all_hosted kernels rows starts hosts h same small e =
    reads_each (λ (r : StartRow). r.arg < 2 ^ 63) (IsHosted kernels) (Names.hosted_start rows)
    (λ earlier row started k is. hosted_by kernels rows earlier row started (Names.client_named row.host rows) (λ (n : ℕ) f. is_client kernels rows row.host n h same f) k is)
    starts hosts small e

-- a start whose program is found or not
started_by : (c : Description) (earlier : List StartLine) (started : Started) (line : StartLine) (o : Option ℕ) → ((n : ℕ) → o ≡ Some n → holds (λ (l : ProgramLine). true) (numbered c.programs n) ≡ true) → IsHosted c.kernels started → Names.starts_program earlier started o ≡ Ok line → is_start c line ≡ true
started_by c earlier started line None h k e = absurd (cc)
started_by c earlier started line (Some program) h k e =
    let same : record { host = started.host; program = program; arg = started.arg } ≡ line = cc in
    let there : Bool = holds (λ (l : ProgramLine). true) (numbered c.programs program) in
    subst (λ (l : StartLine). is_start c l ≡ true) same
    (and_from (is_client_at c.kernels started.host && there) (nat_lt started.arg (2 ^ 63))
    (and_from (is_client_at c.kernels started.host) there k.0 (h program refl)) (lt-ltb started.arg (2 ^ 63) k.1))

-- all starts are lawful
pub all_start : (c : Description) (kernels : List KernelRow) (programs : List ProgramRow) (starts : List StartRow) (hosts : List Started) → AreNumbered (λ (r : KernelRow). r.kernel) 1 kernels → AreNumbered (λ (r : ProgramRow). r.number) 1 programs → map line_size c.kernels ≡ map row_size kernels → length c.programs ≡ length programs → AllByRecursion (λ (r : StartRow). r.arg < 2 ^ 63) starts → read_all (Names.hosted_start kernels) starts ≡ Ok hosts → Names.start_lines programs hosts ≡ Ok c.starts → has_starts c ≡ true
all_start c kernels programs starts hosts numbers places same many small e f =
    all_passed (is_start c) c.starts (
    reads_each (IsHosted c.kernels) (λ (l : StartLine). is_start c l ≡ true) (Names.start_line programs)
    (λ earlier started line k is. started_by c earlier started line (Names.program_named started.program programs)
    (λ (n : ℕ) g. there_at c.programs n (subst (λ (m : ℕ). IsPlaced 1 m n) (sym many) (program_placed started.program 1 programs n places g))) k is)
    hosts c.starts (all_hosted c.kernels kernels starts hosts numbers same small e) f)

-- ---- evictions

-- an eviction whose host is found or not
evicted_by : (c : Description) (earlier : List EvictLine) (row : EvictRow) (line : EvictLine) (o : Option ℕ) → ((n : ℕ) → o ≡ Some n → is_client_at c.kernels n ≡ true) → is_within 1 1000000 row.after ≡ true → Names.evicted earlier row o ≡ Ok line → is_evict c line ≡ true
evicted_by c earlier row line None h k e = absurd (cc)
evicted_by c earlier row line (Some host) h k e =
    let same : record { host = host; after = row.after } ≡ line = cc in
    subst (λ (l : EvictLine). is_evict c l ≡ true) same (and_from (is_client_at c.kernels host) (is_within 1 1000000 row.after) (h host refl) k)

-- all evictions are lawful
pub all_evict : (c : Description) (kernels : List KernelRow) (evicts : List EvictRow) → AreNumbered (λ (r : KernelRow). r.kernel) 1 kernels → map line_size c.kernels ≡ map row_size kernels → AllByRecursion (λ (r : EvictRow). is_within 1 1000000 r.after ≡ true) evicts → read_all (Names.evict_line kernels) evicts ≡ Ok c.evicts → has_evicts c ≡ true
all_evict c kernels evicts numbers same small e =
    all_passed (is_evict c) c.evicts (
    reads_each (λ (r : EvictRow). is_within 1 1000000 r.after ≡ true) (λ (l : EvictLine). is_evict c l ≡ true) (Names.evict_line kernels)
    (λ earlier row line k is. evicted_by c earlier row line (Names.client_named row.host kernels) (λ (n : ℕ) f. is_client c.kernels kernels row.host n numbers same f) k is)
    evicts c.evicts small e)

-- ---- faults

-- an end that is any kernel, or one that is found
end_by : (c : Description) (b : Bool) (o : Option ℕ) (end : Option ℕ) → ((n : ℕ) → o ≡ Some n → is_within 1 (length c.kernels) n ≡ true) → cond b (Some None) (option_map Some o) ≡ Some end → is_end c end ≡ true
end_by c true o end h e = let same : None ≡ end = cc in ap (is_end c) (sym same)
end_by c false None end h e = absurd (cc)
end_by c false (Some n) end h e = let same : Some n ≡ end = cc in ap (is_end c) (sym same) ∙ h n refl

-- a place's number lies within the list
placed_within : (most n : ℕ) → IsPlaced 1 most n → is_within 1 most n ≡ true
placed_within most n p =
    let number = p.number in
    let within = p.within in
    and_from (nat_le 1 n) (nat_le n most) (le-leb 1 n (omega (arith, number))) (le-leb n most (omega (arith, number, within)))

-- an end that is named is one
end_is : (c : Description) (kernels : List KernelRow) (text : List ℕ) (end : Option ℕ) → AreNumbered (λ (r : KernelRow). r.kernel) 1 kernels → length c.kernels ≡ length kernels → Names.end_named text kernels ≡ Some end → is_end c end ≡ true
end_is c kernels text end numbers many e =
    end_by c (same_text text (codes "*")) (Names.kernel_named text kernels) end
    (λ (n : ℕ) f. placed_within (length c.kernels) n (subst (λ (m : ℕ). IsPlaced 1 m n) (sym many) (kernel_placed text 1 kernels n numbers f))) e

-- a fault, once one end is known
planned_to : (c : Description) (earlier : List PlanEntry) (row : LinkRow) (entry : PlanEntry) (from : Option ℕ) (o : Option (Option ℕ)) → is_end c from ≡ true → ((to : Option ℕ) → o ≡ Some to → is_end c to ≡ true) → IsLinkRow row → Names.fault_to earlier row from o ≡ Ok entry → is_planned c entry ≡ true
planned_to c earlier row entry from None a h k e = absurd (cc)
planned_to c earlier row entry from (Some to) a h k e =
    let same : record { from = from; to = to; first = row.first; every = row.every; count = row.count; fate = row.fate } ≡ entry = cc in
    subst (λ (x : PlanEntry). is_planned c x ≡ true) same
    (and_from (is_end c from && is_end c to && is_within 1 (2 ^ 31) row.first && is_within 1 (2 ^ 31) row.every && is_within 1 (2 ^ 31) row.count) (is_fault row.fate)
    (and_from (is_end c from && is_end c to && is_within 1 (2 ^ 31) row.first && is_within 1 (2 ^ 31) row.every) (is_within 1 (2 ^ 31) row.count)
    (and_from (is_end c from && is_end c to && is_within 1 (2 ^ 31) row.first) (is_within 1 (2 ^ 31) row.every)
    (and_from (is_end c from && is_end c to) (is_within 1 (2 ^ 31) row.first)
    (and_from (is_end c from) (is_end c to) a (h to refl)) k.first) k.every) k.count) k.fate)

-- the same before both
planned_from : (c : Description) (kernels : List KernelRow) (earlier : List PlanEntry) (row : LinkRow) (entry : PlanEntry) (o : Option (Option ℕ)) → ((end : Option ℕ) → o ≡ Some end → is_end c end ≡ true) → ((to : Option ℕ) → Names.end_named row.to kernels ≡ Some to → is_end c to ≡ true) → IsLinkRow row → Names.fault_from kernels earlier row o ≡ Ok entry → is_planned c entry ≡ true
planned_from c kernels earlier row entry None a h k e = absurd (cc)
planned_from c kernels earlier row entry (Some from) a h k e = planned_to c earlier row entry from (Names.end_named row.to kernels) (a from refl) h k e

-- all faults are lawful
pub all_planned : (c : Description) (kernels : List KernelRow) (links : List LinkRow) → AreNumbered (λ (r : KernelRow). r.kernel) 1 kernels → length c.kernels ≡ length kernels → AllByRecursion IsLinkRow links → read_all (Names.plan_entry kernels) links ≡ Ok c.plan.entries → has_plan c ≡ true
all_planned c kernels links numbers many are e =
    all_passed (is_planned c) c.plan.entries (
    reads_each IsLinkRow (λ (x : PlanEntry). is_planned c x ≡ true) (Names.plan_entry kernels)
    (λ earlier row entry k is. planned_from c kernels earlier row entry (Names.end_named row.from kernels) (λ (end : Option ℕ) f. end_is c kernels row.from end numbers many f) (λ (to : Option ℕ) f. end_is c kernels row.to to numbers many f) k is)
    links c.plan.entries are e)
