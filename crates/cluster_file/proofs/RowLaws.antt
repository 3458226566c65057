-- What the rows of a document keep.
use Rattle.std.proofs.Common.{◌≡◌, ◌≤◌, ◌<◌, ℕ, suc, ◌+◌, ◌-◌, ◌^◌, ℤ, pos, negsuc, List, [], ◌∷◌, ◌++◌, length, codes, Bool, true, false, cond, ◌&&◌, ◌||◌, not, ◌==◌, Option, Some, None, Result, Ok, Err, inl, inr, refl, sym, ap, subst, arith, nat_le, nat_lt, length-append}
use Rattle.std.specs.Prelude.{◌⊎◌}
use Rattle.std.specs.List.{AllByRecursion}
use Rattle.std.specs.Option.{is_some}
use Rattle.std.proofs.lemmas.Bool.{and_parts, and_from, not-false, ltb-true, leb-true}
use Rattle.toml.specs.Data.{Data, Members}
use Rattle.link_plan.specs.declared.plan.Fate.{Fate}
use Rattle.link_plan.specs.declared.plan.Fate.TheVariants.{Lost, Twice, Late}
use Rattle.unix_calls.specs.Lawful.{is_within, is_name, is_fault}
use Rattle.unix_calls.specs.Same.{same_text}
use Rattle.cluster_file.specs.declared.refusal.Refusal.{Refusal}
use Rattle.cluster_file.specs.declared.rows.KernelRow.{KernelRow}
use Rattle.cluster_file.specs.declared.rows.ProgramRow.{ProgramRow}
use Rattle.cluster_file.specs.declared.rows.StartRow.{StartRow}
use Rattle.cluster_file.specs.declared.rows.LinkRow.{LinkRow}
use Rattle.cluster_file.specs.declared.rows.EvictRow.{EvictRow}
use Rattle.cluster_file.specs.declared.rows.Rows.{Rows}
use Rattle.cluster_file.specs.declared.keys.KeyName.TheVariants as name
use Rattle.cluster_file.specs.declared.keys.Section.{Section}
use Rattle.cluster_file.specs.declared.keys.Section.TheVariants.{Kernel, Program, Start, File, Link, Evict}
use Rattle.cluster_file.specs.Keys.{section_key}
use Rattle.cluster_file.specs.Tables.{value_at, elements_at, elements_in, tables_in, texts_in, text_at, whole_at, within}
use Rattle.cluster_file.specs.Rows
use Rattle.cluster_file.proofs.StageLaws.{then_ok, unless_ok, reads_keeps, reads_each, reads_all}

-- a number that lies within
within_by : (least most n m : ℕ) (b : Bool) → is_within least most n ≡ b → cond b (Some n) None ≡ Some m → is_within least most m ≡ true
within_by least most n m true is e = let same : n ≡ m = cc in subst (λ (k : ℕ). is_within least most k ≡ true) same is
within_by least most n m false is e = absurd (cc)

-- what `within` gives lies within
pub within_is : (least most : ℕ) (z : ℤ) (m : ℕ) → within least most z ≡ Some m → is_within least most m ≡ true
within_is least most (pos n) m e = within_by least most n m (is_within least most n) refl e
within_is least most (negsuc n) m e = absurd (cc)

-- a choice that gave an answer
pub if_ok : {A : Type 0} (b : Bool) (bad answer : Result A Refusal) (x : A) (r : Refusal) → bad ≡ Err r → cond b bad answer ≡ Ok x → (b ≡ false) × (answer ≡ Ok x)
if_ok true bad answer x r is e = absurd (cc)
if_ok false bad answer x r is e = (refl, e)

-- and one whose first arm did
pub if_given : {A : Type 0} (b : Bool) (answer bad : Result A Refusal) (x : A) (r : Refusal) → bad ≡ Err r → cond b answer bad ≡ Ok x → (b ≡ true) × (answer ≡ Ok x)
if_given true answer bad x r is e = (refl, e)
if_given false answer bad x r is e = absurd (cc)

-- ---- counts

-- there are not more than may be
room_left : {A B : Type 0} (section : Section) (earlier : List A) (row : Result B Refusal) (y : B) → Rows.where_room section earlier row ≡ Ok y → (length earlier < Rows.most_of section) × (row ≡ Ok y)
room_left section earlier row y e =
    let given = if_given (nat_lt (length earlier) (Rows.most_of section)) row _ y _ refl e in
    (ltb-true (length earlier) (Rows.most_of section) given.0, given.1)

-- a section has no more rows than it may have
pub not_too_many : {B : Type 0} (section : Section) (row : List B → Members → Result B Refusal) (document : Members) (ys : List B) → Rows.rows_of section row document ≡ Ok ys → length ys ≤ Rows.most_of section
not_too_many {B} section row document ys e =
    reads_keeps (λ (zs : List B). length zs ≤ Rows.most_of section) _
    (λ (zs : List B) table (y : B) is h. let room = room_left section zs (row zs table) y is in rw (length-append) (omega (arith, room.0)))
    _ ys (omega arith) e

-- a fact of each row, and one of all
pub each_row : {B : Type 0} (section : Section) (P : B → Type 0) (row : List B → Members → Result B Refusal) → ((zs : List B) (table : Members) (y : B) → row zs table ≡ Ok y → P y) → (document : Members) (ys : List B) → Rows.rows_of section row document ≡ Ok ys → AllByRecursion P ys
each_row {B} section P row each document ys e =
    reads_all P _ (λ (zs : List B) (table : Members) (y : B) is. each zs table y (room_left section zs (row zs table) y is).1) _ ys e

-- the same from a fact of each table
pub each_row_of : {B : Type 0} (section : Section) (Q : Members → Type 0) (P : B → Type 0) (row : List B → Members → Result B Refusal) → ((zs : List B) (table : Members) (y : B) → Q table → row zs table ≡ Ok y → P y) → (document : Members) (ys : List B) → AllByRecursion Q (tables_in (elements_at (section_key section) document)) → Rows.rows_of section row document ≡ Ok ys → AllByRecursion P ys
each_row_of {B} section Q P row each document ys h e =
    reads_each Q P _ (λ (zs : List B) (table : Members) (y : B) q is. each zs table y q (room_left section zs (row zs table) y is).1) _ ys h e

-- a fact of all rows so far, which one more row keeps
pub rows_keep : {B : Type 0} (section : Section) (I : List B → Type 0) (row : List B → Members → Result B Refusal) → ((zs : List B) (table : Members) (y : B) → row zs table ≡ Ok y → I zs → I (zs ++ y ∷ [])) → (document : Members) (ys : List B) → I [] → Rows.rows_of section row document ≡ Ok ys → I ys
rows_keep {B} section I row step document ys h e =
    reads_keeps I _ (λ (zs : List B) (table : Members) (y : B) is k. step zs table y (room_left section zs (row zs table) y is).1 k) _ ys h e

-- ---- the numbers at the top

-- what the rows of a document are, and that the numbers at the top lie within their limits
pub record IsRead (document : Members) (rows : Rows) : Type 0 where
  pub version : within 1 2 (whole_at name.Version 0 document) ≡ Some rows.version
  pub budget : is_within 1 4000000 rows.budget ≡ true
  pub cache : (rows.cache == 0 || is_within 8 4096 rows.cache) ≡ true
  pub kernels : Rows.rows_of Kernel Rows.kernel_row document ≡ Ok rows.kernels
  pub programs : Rows.rows_of Program Rows.program_row document ≡ Ok rows.programs
  pub starts : Rows.rows_of Start Rows.start_row document ≡ Ok rows.starts
  pub files : Rows.rows_of File (Rows.file_row rows.version) document ≡ Ok rows.files
  pub links : Rows.rows_of Link Rows.link_row document ≡ Ok rows.links
  pub evicts : Rows.rows_of Evict Rows.evict_row document ≡ Ok rows.evicts

-- a third test behind the second one
or_both : (a b c : Bool) → c ≡ true → (a || b) ≡ true → (a || (b && c)) ≡ true
or_both true b c h e = refl
or_both false b c h e = and_from b c e h

-- a number of cached blocks that was kept
cache_by : (n m : ℕ) (b : Bool) → (n == 0 || nat_le 8 n) ≡ b → nat_le n 4096 ≡ true → cond b (Some n) None ≡ Some m → (m == 0 || is_within 8 4096 m) ≡ true
cache_by n m true is few e =
    let same : n ≡ m = cc in
    subst (λ (k : ℕ). (k == 0 || is_within 8 4096 k) ≡ true) same (or_both (n == 0) (nat_le 8 n) (nat_le n 4096) few is)
cache_by n m false is few e = absurd (cc)

-- and the one that was read
cache_is : (o : Option ℕ) (z : ℤ) (m : ℕ) → within 0 4096 z ≡ o → Rows.cache_of o ≡ Some m → (m == 0 || is_within 8 4096 m) ≡ true
cache_is None z m is e = absurd (cc)
cache_is (Some n) z m is e =
    cache_by n m (n == 0 || nat_le 8 n) refl (and_parts (nat_le 0 n) (nat_le n 4096) (within_is 0 4096 z n is)).1 e

-- all rows, once the numbers at the top are known
rows_read : (document : Members) (version budget cache : ℕ) (rows : Rows) → within 1 2 (whole_at name.Version 0 document) ≡ Some version → is_within 1 4000000 budget ≡ true → (cache == 0 || is_within 8 4096 cache) ≡ true → Rows.all_rows document version budget cache ≡ Ok rows → IsRead document rows
rows_read document version budget cache rows v b c e =
    let k = then_ok _ _ rows e in
    let p = then_ok _ _ rows k.2 in
    let s = then_ok _ _ rows p.2 in
    let f = then_ok _ _ rows s.2 in
    let l = then_ok _ _ rows f.2 in
    let x = then_ok _ _ rows l.2 in
    let same : record { version = version; budget = budget; cache = cache; kernels = k.0; programs = p.0; starts = s.0; files = f.0; links = l.0; evicts = x.0 } ≡ rows = cc in
    subst (λ (r : Rows). IsRead document r) same (record {
      version = v;
      budget = b;
      cache = c;
      kernels = k.1;
      programs = p.1;
      starts = s.1;
      files = f.1;
      links = l.1;
      evicts = x.1;
    })

-- the rows, once the number of cached blocks is known or not
cached_read : (document : Members) (version budget : ℕ) (o : Option ℕ) (rows : Rows) → within 1 2 (whole_at name.Version 0 document) ≡ Some version → is_within 1 4000000 budget ≡ true → ((m : ℕ) → o ≡ Some m → (m == 0 || is_within 8 4096 m) ≡ true) → Rows.cached document version budget o ≡ Ok rows → IsRead document rows
cached_read document version budget None rows v b c e = absurd (cc)
cached_read document version budget (Some cache) rows v b c e =
    rows_read document version budget cache rows v b (c cache refl) (unless_ok _ _ rows e).1

-- the same of the budget
budget_read : (document : Members) (version : ℕ) (o : Option ℕ) (rows : Rows) → within 1 2 (whole_at name.Version 0 document) ≡ Some version → within 1 4000000 (whole_at name.Budget 1000000 document) ≡ o → Rows.budgeted document version o ≡ Ok rows → IsRead document rows
budget_read document version None rows v is e = absurd (cc)
budget_read document version (Some budget) rows v is e =
    cached_read document version budget (Rows.cache_of (within 0 4096 (whole_at name.Cache 64 document))) rows v (within_is 1 4000000 (whole_at name.Budget 1000000 document) budget is)
    (λ (m : ℕ) c. cache_is _ (whole_at name.Cache 64 document) m refl c) e

-- the same of the version
version_read : (document : Members) (o : Option ℕ) (rows : Rows) → within 1 2 (whole_at name.Version 0 document) ≡ o → Rows.versioned document o ≡ Ok rows → IsRead document rows
version_read document None rows is e = absurd (cc)
version_read document (Some version) rows is e =
    budget_read document version (within 1 4000000 (whole_at name.Budget 1000000 document)) rows is refl e

-- what the rows of a document say
pub read_says : (document : Members) (rows : Rows) → Rows.read_rows document ≡ Ok rows → IsRead document rows
read_says document rows e = version_read document (within 1 2 (whole_at name.Version 0 document)) rows refl e

-- ---- each section

-- the numbers of some rows, from one on
abbrev pub AreNumbered : {A : Type 0} → (A → ℕ) → ℕ → List A → Type 0
AreNumbered number first [] = Unit {0}
AreNumbered number first (x ∷ xs) = (number x ≡ first) × AreNumbered number (suc first) xs

-- one more row behind numbered ones
pub numbered_push : {A : Type 0} (number : A → ℕ) (first : ℕ) (xs : List A) (x : A) → AreNumbered number first xs → number x ≡ first + length xs → AreNumbered number first (xs ++ x ∷ [])
numbered_push number first [] x h e = (omega (arith, e), tt)
numbered_push number first (y ∷ ys) x h e = (h.0, numbered_push number (suc first) ys x h.1 (omega (arith, e)))

-- a kernel has a name, and its number is its place; all serve at most 16 domains
record IsKernelRow (earlier : List KernelRow) (row : KernelRow) : Type 0 where
  named : is_name row.name ≡ true
  number : row.kernel ≡ length earlier + 1
  few : Rows.served_by earlier + length row.serves ≤ 16 ⊎ (length row.serves ≡ 0)

-- where the key is there the domains are counted, and else there are none
served_few : (earlier : List KernelRow) (o : Option Data) → (not (is_some o) || Rows.are_served earlier (texts_in (elements_in o))) ≡ true → (Rows.served_by earlier + length (texts_in (elements_in o)) ≤ 16) ⊎ (length (texts_in (elements_in o)) ≡ 0)
served_few earlier None e = inr refl
served_few earlier (Some d) e =
    let paths = texts_in (elements_in (Some d)) in
    inl (leb-true (Rows.served_by earlier + length paths) 16 (and_parts (nat_le 1 (length paths)) (nat_le (Rows.served_by earlier + length paths) 16) e).1)

-- what a row of a kernel keeps
kernel_row_is : (earlier : List KernelRow) (table : Members) (row : KernelRow) → Rows.kernel_row earlier table ≡ Ok row → IsKernelRow earlier row
kernel_row_is earlier table row e =
    let one = if_ok (not (is_name (text_at name.Name table))) _ _ row _ refl e in
    let two = if_ok (not (Rows.has_served earlier table)) _ _ row _ refl one.1 in
    let same : record { kernel = length earlier + 1; name = text_at name.Name table; serves = texts_in (elements_at name.Serves table) } ≡ row = cc in
    subst (λ (r : KernelRow). IsKernelRow earlier r) same (record {
      named = not-false (is_name (text_at name.Name table)) one.0;
      number = refl;
      few = served_few earlier (value_at name.Serves table) (not-false (Rows.has_served earlier table) two.0);
    })

-- the numbers of all kernels are their places
pub kernels_numbered : (document : Members) (rows : List KernelRow) → Rows.rows_of Kernel Rows.kernel_row document ≡ Ok rows → AreNumbered (λ (r : KernelRow). r.kernel) 1 rows
kernels_numbered document rows e =
    rows_keep Kernel (AreNumbered (λ (r : KernelRow). r.kernel) 1) Rows.kernel_row
    (λ earlier table row is h. numbered_push (λ (r : KernelRow). r.kernel) 1 earlier row h (let number = (kernel_row_is earlier table row is).number in omega (arith, number)))
    document rows tt e

-- and all have names
pub kernels_named : (document : Members) (rows : List KernelRow) → Rows.rows_of Kernel Rows.kernel_row document ≡ Ok rows → AllByRecursion (λ (r : KernelRow). is_name r.name ≡ true) rows
kernels_named document rows e = each_row Kernel _ Rows.kernel_row (λ earlier table row is. (kernel_row_is earlier table row is).named) document rows e

-- all serve at most 16 domains
served_push : (earlier : List KernelRow) (row : KernelRow) → Rows.served_by (earlier ++ row ∷ []) ≡ Rows.served_by earlier + length row.serves
served_push [] row = omega arith
served_push (r ∷ rs) row = let rest = served_push rs row in omega (arith, rest)

-- a sum that is small, or nothing more
still_few : (a b n : ℕ) → n ≡ a + b → (a + b ≤ 16) ⊎ (b ≡ 0) → a ≤ 16 → n ≤ 16
still_few a b n is (inl few) h = omega (arith, is, few)
still_few a b n is (inr none) h = omega (arith, is, none, h)

-- the domains of all kernels are 16 at most
pub kernels_serve : (document : Members) (rows : List KernelRow) → Rows.rows_of Kernel Rows.kernel_row document ≡ Ok rows → Rows.served_by rows ≤ 16
kernels_serve document rows e =
    rows_keep Kernel (λ (rs : List KernelRow). Rows.served_by rs ≤ 16) Rows.kernel_row
    (λ earlier table row is h. still_few (Rows.served_by earlier) (length row.serves) _ (served_push earlier row) (kernel_row_is earlier table row is).few h)
    document rows (omega arith) e

-- a program has a name, and its number is its place
record IsProgramRow (earlier : List ProgramRow) (row : ProgramRow) : Type 0 where
  named : is_name row.name ≡ true
  number : row.number ≡ length earlier + 1

-- what a row of a program keeps
program_row_is : (earlier : List ProgramRow) (table : Members) (row : ProgramRow) → Rows.program_row earlier table ≡ Ok row → IsProgramRow earlier row
program_row_is earlier table row e =
    let one = if_ok (not (is_name (text_at name.Name table))) _ _ row _ refl e in
    let same : record { number = length earlier + 1; name = text_at name.Name table; text = text_at name.Text table } ≡ row = cc in
    subst (λ (r : ProgramRow). IsProgramRow earlier r) same (record { named = not-false (is_name (text_at name.Name table)) one.0; number = refl })

-- the numbers of all programs are their places
pub programs_numbered : (document : Members) (rows : List ProgramRow) → Rows.rows_of Program Rows.program_row document ≡ Ok rows → AreNumbered (λ (r : ProgramRow). r.number) 1 rows
programs_numbered document rows e =
    rows_keep Program (AreNumbered (λ (r : ProgramRow). r.number) 1) Rows.program_row
    (λ earlier table row is h. numbered_push (λ (r : ProgramRow). r.number) 1 earlier row h (let number = (program_row_is earlier table row is).number in omega (arith, number)))
    document rows tt e

-- and all have names
pub programs_named : (document : Members) (rows : List ProgramRow) → Rows.rows_of Program Rows.program_row document ≡ Ok rows → AllByRecursion (λ (r : ProgramRow). is_name r.name ≡ true) rows
programs_named document rows e = each_row Program _ Rows.program_row (λ earlier table row is. (program_row_is earlier table row is).named) document rows e

-- a start's argument is below 2^63

-- the argument of one start
start_by : (earlier : List StartRow) (table : Members) (row : StartRow) (z : ℤ) (o : Option ℕ) → within 0 (2 ^ 63 - 1) z ≡ o → Rows.started_with earlier table o ≡ Ok row → row.arg < 2 ^ 63
start_by earlier table row z None is e = absurd (cc)
start_by earlier table row z (Some arg) is e =
    let same : record { host = text_at name.Host table; program = text_at name.Program table; arg = arg } ≡ row = cc in
    let most = leb-true arg (2 ^ 63 - 1) (and_parts (nat_le 0 arg) (nat_le arg (2 ^ 63 - 1)) (within_is 0 (2 ^ 63 - 1) z arg is)).1 in
    subst (λ (r : StartRow). r.arg < 2 ^ 63) same (omega (arith, most))

-- and of all
pub starts_small : (document : Members) (rows : List StartRow) → Rows.rows_of Start Rows.start_row document ≡ Ok rows → AllByRecursion (λ (r : StartRow). r.arg < 2 ^ 63) rows
starts_small document rows e = each_row Start _ Rows.start_row (λ earlier table row is. start_by earlier table row (whole_at name.Arg 0 table) _ refl is) document rows e

-- an eviction's call is numbered within its limits
evict_by : (earlier : List EvictRow) (table : Members) (row : EvictRow) (z : ℤ) (o : Option ℕ) → within 1 1000000 z ≡ o → Rows.evicted_after earlier table o ≡ Ok row → is_within 1 1000000 row.after ≡ true
evict_by earlier table row z None is e = absurd (cc)
evict_by earlier table row z (Some after) is e =
    let same : record { host = text_at name.Host table; after = after } ≡ row = cc in
    subst (λ (r : EvictRow). is_within 1 1000000 r.after ≡ true) same (within_is 1 1000000 z after is)

-- and of all evictions
pub evicts_within : (document : Members) (rows : List EvictRow) → Rows.rows_of Evict Rows.evict_row document ≡ Ok rows → AllByRecursion (λ (r : EvictRow). is_within 1 1000000 r.after ≡ true) rows
evicts_within document rows e = each_row Evict _ Rows.evict_row (λ earlier table row is. evict_by earlier table row (whole_at name.After 0 table) _ refl is) document rows e

-- a fault's numbers are within their limits, and its fate is a fault
pub record IsLinkRow (row : LinkRow) : Type 0 where
  pub first : is_within 1 (2 ^ 31) row.first ≡ true
  pub every : is_within 1 (2 ^ 31) row.every ≡ true
  pub count : is_within 1 (2 ^ 31) row.count ≡ true
  pub fate : is_fault row.fate ≡ true

-- a fate that a name gives is a fault
fate_is : (a b c : Bool) (f : Fate) → cond a (Some Lost) (cond b (Some Twice) (cond c (Some Late) None)) ≡ Some f → is_fault f ≡ true
fate_is true b c f e = let same : Lost ≡ f = cc in ap is_fault (sym same)
fate_is false true c f e = let same : Twice ≡ f = cc in ap is_fault (sym same)
fate_is false false true f e = let same : Late ≡ f = cc in ap is_fault (sym same)
fate_is false false false f e = absurd (cc)

-- and so is the one without a name
fated : (b : Bool) (text : List ℕ) (f : Fate) → cond b (Rows.fate_of text) (Some Lost) ≡ Some f → is_fault f ≡ true
fated true text f e = fate_is (same_text text (codes "lost")) (same_text text (codes "twice")) (same_text text (codes "late")) f e
fated false text f e = let same : Lost ≡ f = cc in ap is_fault (sym same)

-- a fault of the link, once its numbers are known
link_fated : (earlier : List LinkRow) (table : Members) (row : LinkRow) (first every count : ℕ) (o : Option Fate) → is_within 1 (2 ^ 31) first ≡ true → is_within 1 (2 ^ 31) every ≡ true → is_within 1 (2 ^ 31) count ≡ true → ((f : Fate) → o ≡ Some f → is_fault f ≡ true) → Rows.link_fated earlier table first every count o ≡ Ok row → IsLinkRow row
link_fated earlier table row first every count None a b c h e = absurd (cc)
link_fated earlier table row first every count (Some fate) a b c h e =
    let same : record { from = text_at name.From table; to = text_at name.To table; first = first; every = every; count = count; fate = fate } ≡ row = cc in
    subst IsLinkRow same (record { first = a; every = b; count = c; fate = h fate refl })

-- the same, once two of them are
link_counted : (earlier : List LinkRow) (table : Members) (row : LinkRow) (first every : ℕ) (z : ℤ) (o : Option ℕ) → within 1 (2 ^ 31) z ≡ o → is_within 1 (2 ^ 31) first ≡ true → is_within 1 (2 ^ 31) every ≡ true → Rows.link_counted earlier table first every o ≡ Ok row → IsLinkRow row
link_counted earlier table row first every z None is a b e = absurd (cc)
link_counted earlier table row first every z (Some count) is a b e =
    link_fated earlier table row first every count (Rows.fate_at table) a b (within_is 1 (2 ^ 31) z count is)
    (λ (f : Fate) k. fated (is_some (value_at name.Fate table)) (text_at name.Fate table) f k) e

-- the same, once the first of them is
link_spaced : (earlier : List LinkRow) (table : Members) (row : LinkRow) (first : ℕ) (z : ℤ) (o : Option ℕ) → within 1 (2 ^ 31) z ≡ o → is_within 1 (2 ^ 31) first ≡ true → Rows.link_spaced earlier table first o ≡ Ok row → IsLinkRow row
link_spaced earlier table row first z None is a e = absurd (cc)
link_spaced earlier table row first z (Some every) is a e =
    link_counted earlier table row first every (whole_at name.Count (2 ^ 31) table) _ refl a (within_is 1 (2 ^ 31) z every is) e

-- the same before all
link_begun : (earlier : List LinkRow) (table : Members) (row : LinkRow) (z : ℤ) (o : Option ℕ) → within 1 (2 ^ 31) z ≡ o → Rows.link_begun earlier table o ≡ Ok row → IsLinkRow row
link_begun earlier table row z None is e = absurd (cc)
link_begun earlier table row z (Some first) is e =
    link_spaced earlier table row first (whole_at name.Every 1 table) _ refl (within_is 1 (2 ^ 31) z first is) e

-- what all faults keep
pub links_are : (document : Members) (rows : List LinkRow) → Rows.rows_of Link Rows.link_row document ≡ Ok rows → AllByRecursion IsLinkRow rows
links_are document rows e = each_row Link IsLinkRow Rows.link_row (λ earlier table row is. link_begun earlier table row (whole_at name.First 1 table) _ refl is) document rows e
