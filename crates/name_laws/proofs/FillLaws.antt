-- As a server begins, line by line: each domain gets the files that lie in it.
use Rattle.std.proofs.Common.{◌≡◌, ◌+◌, ◌<◌, ◌≤◌, ◌==◌, ℕ, zero, suc, Bool, true, false, ◌&&◌, ◌||◌, not, cond, nat_le, nat_lt, List, [], ◌∷◌, length, slice_get, slice_set, get_or, Option, Some, None, Result, Ok, Err, inl, inr, refl, sym, ap, ap₂, subst, ◌∙◌, arith}
use Rattle.std.specs.List.{position, position_or_len}
use Rattle.std.specs.Option.{is_some}
use Rattle.std.proofs.lemmas.Bool.{cases_Bool, eq-eqb, eqb-true, lt-ltb, ltb-false, ltb-true, true≢false, and_parts}
use Rattle.std.proofs.lemmas.List.Quantifiers.{position-Some}
use Rattle.std.proofs.lemmas.List.Sums.{fails_before_first}
use Rattle.sprite_ids.specs.declared.FileId.{FileId}
use Rattle.sprite_ids.proofs.ListLaws.{get_found, get_set_other, get_set_same, get_within, some_is}
use Rattle.sprite_paths.specs.Path.{IsPrefix, is_prefix}
use Rattle.file_store.specs.Content.{written}
use Rattle.file_store.specs.Files.{held, is_there, with_new}
use Rattle.unix_calls.specs.declared.FileLine.{FileLine}
use Rattle.unix_calls.specs.declared.state.FileName.TheVariants.{Boot}
use Rattle.unix_calls.specs.Domains.{begins_domain}
use Rattle.server_names.specs.declared.NameEnd.{NameEnd}
use Rattle.server_names.specs.declared.Node.{Node}
use Rattle.server_names.specs.declared.Node.TheVariants.{Dir, File, Device}
use Rattle.server_names.specs.declared.Entry.TheVariants.{Node as Named}
use Rattle.server_names.specs.Names.{Tree, booted}
use Rattle.server_names.specs.Names as names
use Rattle.server_kernel.specs.declared.Domain.{Domain}
use Rattle.server_kernel.specs.declared.Server.{Server}
use Rattle.server_kernel.specs.Files.{made_file, size_in, with_content, written_to}
use Rattle.server_kernel.specs.Directory.{at_place, found_in, has_path}
use Rattle.server_kernel.specs.Opens.{counts_file, new_file}
use Rattle.server_kernel.specs.Boot.{and_then, appends_found, appends_line, boot_by, boots_at, filled, fills, fills_line, is_longest, makes_line, named_domain, put_at, with_domains}
use Rattle.server_kernel.specs.Boot as server
use Rattle.tree_laws.specs.Trees.{Parts, Ties}
use Rattle.flat_tree.specs.Opening.{lies_in, with_file, with_files}
use Rattle.flat_tree.proofs.ApartLaws.{prefix_is}
use Rattle.flat_tree.proofs.StartLaws.{one_of}

-- ---- what leaves the domains as they were

pub record Same (s next : Server) : Type 0 where
  pub domains : next.domains ≡ s.domains
  pub roots : next.roots ≡ s.roots
  pub kernel : next.kernel ≡ s.kernel
  pub number : next.next_file ≡ s.next_file

same_itself : (s : Server) → Same s s
same_itself s = record { domains = refl; roots = refl; kernel = refl; number = refl }

same_through : (s t u : Server) → Same s t → Same t u → Same s u
same_through s t u a b = record { domains = b.domains ∙ a.domains; roots = b.roots ∙ a.roots; kernel = b.kernel ∙ a.kernel; number = b.number ∙ a.number }

same_on : (b : Bool) (s one two : Server) → Same s one → Same s two → Same s (cond b one two)
same_on true s one two a b = a
same_on false s one two a b = b

written_same : (file : FileId) (from : ℕ) (bytes : List ℕ) (s : Server) → Same s (written_to file from bytes s)
written_same file from bytes s =
    same_on (is_there s.store.files file && nat_le (from + length bytes) s.store.limit) s (with_content file (written (held s.store.files file) from bytes) s) s
    (record { domains = refl; roots = refl; kernel = refl; number = refl }) (same_itself s)

made_same : (file : FileId) (s : Server) → Same s (made_file file s)
made_same file s =
    same_on (is_there s.store.files file) s s (record s { store = record s.store { files = with_new s.store.files file } }) (same_itself s)
    (record { domains = refl; roots = refl; kernel = refl; number = refl })

pub filled_same : (file : FileId) (bytes : List ℕ) (s : Server) → Same s (filled file bytes s)
filled_same file bytes s = same_through s (made_file file s) (filled file bytes s) (made_same file s) (written_same file 0 bytes (made_file file s))

pub appended_same : (bytes : List ℕ) (r : Result Node NameEnd) (s : Server) → Same s (appends_found bytes r s)
appended_same bytes (Ok (File file)) s = written_same file (size_in file s) bytes s
appended_same bytes (Ok Dir) s = same_itself s
appended_same bytes (Ok (Device device)) s = same_itself s
appended_same bytes (Err end) s = same_itself s

-- ---- the first domain that has a path

pub none_some : {X : Type 0} (o : Option X) (x : X) → o ≡ None → o ≡ Some x → ⊥
none_some o x none some = true≢false (ap is_some (sym some) ∙ ap is_some none)

got_or : (ds : List Domain) (i : ℕ) (d other : Domain) → slice_get ds i ≡ Some d → get_or ds i other ≡ d
got_or [] i d other h = absurd (cc)
got_or (e ∷ ds) zero d other h = some_is e d h
got_or (e ∷ ds) (suc i) d other h = got_or ds i d other h

nowhere : (path : Parts) (ds : List Domain) (i : ℕ) (d : Domain) → position (has_path path) ds ≡ None → slice_get ds i ≡ Some d → has_path path d ≡ false
nowhere path ds i d none got =
    elim (cases_Bool (nat_lt i (position_or_len (has_path path) ds))) [
      | inl less ↦ ap (has_path path) (sym (got_or ds i d d got)) ∙ fails_before_first (has_path path) ds i d (ltb-true i (position_or_len (has_path path) ds) less)
      | inr least ↦
          let inside = get_within ds i d got in
          let up = ltb-false i (position_or_len (has_path path) ds) least in
          absurd (
          none_some (position (has_path path) ds) (position_or_len (has_path path) ds) none
          (ap (λ b. cond b (Some (position_or_len (has_path path) ds)) None) (lt-ltb (position_or_len (has_path path) ds) (length ds) (omega (arith, inside, up))))
          )
    ]

record First (path : Parts) (ds : List Domain) (at : ℕ) (first : Domain) : Type 0 where
  has : has_path path first ≡ true
  before : (i : ℕ) (d : Domain) → i < at → slice_get ds i ≡ Some d → has_path path d ≡ false

first_at : (path : Parts) (ds : List Domain) (at : ℕ) (first : Domain) → position (has_path path) ds ≡ Some at → slice_get ds at ≡ Some first → First path ds at first
first_at path ds at first place got =
    let is = position-Some (has_path path) ds at first place in
    record {
      has = ap (has_path path) (sym (got_or ds at first first got)) ∙ is.1;
      before = λ i d less there. ap (has_path path) (sym (got_or ds i d first there)) ∙ is.2 i less;
    }

-- no earlier domain has a later one's root
abbrev pub AreOrdered : List Domain → Type 0
AreOrdered ds = (i j : ℕ) (d e : Domain) → i < j → slice_get ds i ≡ Some d → slice_get ds j ≡ Some e → IsPrefix d.root e.root → ⊥

pub either_right : (a b : Bool) → a ≡ true → (not a || b) ≡ true → b ≡ true
either_right true b h e = e
either_right false b h e = absurd (true≢false (sym h))

-- any other domain isn't the longest of the path
not_own : (roots : List Parts) (path : Parts) (ds : List Domain) (at i : ℕ) (first d : Domain) → AreOrdered ds → begins_domain roots first.root ≡ true → slice_get ds at ≡ Some first → First path ds at first
    → slice_get ds i ≡ Some d → (i ≡ at → ⊥) → lies_in roots d.root path ≡ false
not_own roots path ds at i first d ordered begins got is there other =
    elim (cases_Bool (lies_in roots d.root path)) [
      | inr out ↦ out
      | inl lies ↦
          let both = and_parts (is_prefix d.root path) (is_longest roots d.root path) lies in
          elim (cases_Bool (nat_lt i at)) [
            | inl less ↦ absurd (true≢false (sym both.0 ∙ is.before i d (ltb-true i at less) there))
            | inr most ↦
                let up = ltb-false i at most in
                let down : at < i = later at i other up in
                let front = either_right (is_prefix first.root path) (is_prefix first.root d.root) is.has (one_of (λ root. not (is_prefix root path) || is_prefix root d.root) roots first.root both.1 begins) in
                absurd (ordered at i first d down got there (prefix_is first.root d.root front))
          ]
    ]
  where
    later : (a b : ℕ) → (b ≡ a → ⊥) → a ≤ b → a < b
    later a b apart up = omega (arith, apart, up)

-- ---- one line

neither : {X : Type 0} (a b : Bool) (x y : X) → b ≡ false → cond a x (cond b y x) ≡ x
neither true b x y h = refl
neither false b x y h = ap (λ c. cond c y x) h

chosen : {X : Type 0} (a b : Bool) (x y : X) → a ≡ false → b ≡ true → cond a x (cond b y x) ≡ y
chosen a b x y e h = ap (λ c. cond c x (cond b y x)) e ∙ ap (λ c. cond c y x) h

-- where a domain came from, and what it got
record Came (ties : Ties) (roots : List Parts) (place : ℕ) (line : FileLine) (ds : List Domain) (i : ℕ) (new : Domain) : Type 0 where
  domain : Domain
  got : slice_get ds i ≡ Some domain
  root : new.root ≡ domain.root
  tree : with_file ties roots domain.root place line domain.names ≡ Ok new.names

record Filled (ties : Ties) (place : ℕ) (line : FileLine) (s next : Server) : Type 0 where
  roots : next.roots ≡ s.roots
  kernel : next.kernel ≡ s.kernel
  number : next.next_file ≡ s.next_file
  came : (i : ℕ) (new : Domain) → slice_get next.domains i ≡ Some new → Came ties s.roots place line s.domains i new

stays_filled : (ties : Ties) (place : ℕ) (line : FileLine) (s next : Server) → Same s next → ((i : ℕ) (d : Domain) → slice_get s.domains i ≡ Some d → with_file ties s.roots d.root place line d.names ≡ Ok d.names) → Filled ties place line s next
stays_filled ties place line s next same each =
    record {
      roots = same.roots;
      kernel = same.kernel;
      number = same.number;
      came = λ i new got.
          let there = ap (λ (ds : List Domain). slice_get ds i) (sym same.domains) ∙ got in
          record { domain = new; got = there; root = refl; tree = each i new there };
    }

-- what the server's domains keep as they begin
pub record Stands (serves : List Parts) (s : Server) : Type 0 where
  pub ordered : AreOrdered s.domains
  pub mine : (i : ℕ) (d : Domain) → slice_get s.domains i ≡ Some d → begins_domain serves d.root ≡ true
  pub within : (root : Parts) → begins_domain serves root ≡ true → begins_domain s.roots root ≡ true

-- the file that a line makes is the server's next one
abbrev pub IsNext : Ties → List Parts → ℕ → FileLine → Server → Type 0
IsNext ties serves place line s = (root : Parts) → line.append ≡ false → begins_domain serves root ≡ true → lies_in s.roots root line.path ≡ true → ties.file (Boot place) ≡ new_file s

module _ (ties : Ties) (serves : List Parts) (place : ℕ) (line : FileLine) (s next : Server) (stands : Stands serves s) (tied : IsNext ties serves place line s) where
  left_out : server.lies_here line.path s ≡ false → fills_line line s ≡ Some next → ((i : ℕ) (d : Domain) → slice_get s.domains i ≡ Some d → lies_in s.roots d.root line.path ≡ false) → Filled ties place line s next
  left_out out fills_is each =
      stays_filled ties place line s next
      (subst (Same s) (some_is s next (sym (ap (λ b. cond b (cond line.append (Some (appends_line line s)) (makes_line line s)) (Some s)) out) ∙ fills_is)) (same_itself s))
      (λ i d got. neither line.append (lies_in s.roots d.root line.path) (Ok d.names) (booted d.names line.path (Named (File (ties.file (Boot place))))) (each i d got))

  -- the file goes to the first domain that has its path
  put_first : (at : ℕ) (first : Domain) → position (has_path line.path) s.domains ≡ Some at → slice_get s.domains at ≡ Some first → is_longest s.roots first.root line.path ≡ true → line.append ≡ false
      → (r : Result Tree NameEnd) → booted first.names line.path (Named (File (new_file s))) ≡ r
      → and_then (with_domains s (put_at at s.domains (named_domain first r))) (λ later. Some (filled (new_file s) line.bytes later)) ≡ Some next → Filled ties place line s next
  put_first at first place_is got longest makes (Err end) r_is h = absurd (none_some None next refl h)
  put_first at first place_is got longest makes (Ok tree) r_is h =
      let is = first_at line.path s.domains at first place_is got in
      let root_is = stands.mine at first got in
      let between : Server = record s { domains = slice_set s.domains at (record first { names = tree }) } in
      let same : Same between next = subst (Same between) (some_is (filled (new_file s) line.bytes between) next h) (filled_same (new_file s) line.bytes between) in
      let lies : lies_in s.roots first.root line.path ≡ true = ap₂ (λ a b. a && b) is.has longest in
      record {
        roots = same.roots;
        kernel = same.kernel;
        number = same.number;
        came = λ i new there.
            let at_new : slice_get (slice_set s.domains at (record first { names = tree })) i ≡ Some new = ap (λ (ds : List Domain). slice_get ds i) (sym same.domains) ∙ there in
            elim (cases_Bool (i == at)) [
              | inl here ↦
                  let new_is : record first { names = tree } ≡ new =
                  some_is (record first { names = tree }) new
                  (
                  sym (get_set_same s.domains at (record first { names = tree }) (get_within s.domains at first got))
                  ∙ ap (slice_get (slice_set s.domains at (record first { names = tree }))) (sym (eqb-true i at here))
                  ∙ at_new
                  ) in
                  record {
                    domain = first;
                    got = ap (slice_get s.domains) (eqb-true i at here) ∙ got;
                    root = ap (λ (d : Domain). d.root) (sym new_is);
                    tree = chosen line.append (lies_in s.roots first.root line.path) (Ok first.names) (booted first.names line.path (Named (File (ties.file (Boot place))))) makes lies
                        ∙ ap (λ f. booted first.names line.path (Named (File f))) (tied first.root makes root_is lies)
                        ∙ r_is
                        ∙ ap (λ (d : Domain). Ok d.names) new_is;
                  }
              | inr apart ↦
                  let other : (i ≡ at → ⊥) = λ e. true≢false (sym (eq-eqb i at e) ∙ apart) in
                  let old : slice_get s.domains i ≡ Some new = sym (get_set_other s.domains at i (record first { names = tree }) (λ e. other (sym e))) ∙ at_new in
                  record {
                    domain = new;
                    got = old;
                    root = refl;
                    tree = neither line.append (lies_in s.roots new.root line.path) (Ok new.names) (booted new.names line.path (Named (File (ties.file (Boot place)))))
                        (not_own s.roots line.path s.domains at i first new stands.ordered (stands.within first.root root_is) got is old other);
                  }
            ];
      }

  by_append : (at : ℕ) (first : Domain) → position (has_path line.path) s.domains ≡ Some at → slice_get s.domains at ≡ Some first → is_longest s.roots first.root line.path ≡ true
      → (a : Bool) → line.append ≡ a → cond a (Some (appends_line line s)) (makes_line line s) ≡ Some next → Filled ties place line s next
  by_append at first place_is got longest true joins h =
      stays_filled ties place line s next (subst (Same s) (some_is (appends_line line s) next h) (appended_same line.bytes (found_in line.path s) s))
      (λ i d there. ap (λ b. cond b (Ok d.names) (cond (lies_in s.roots d.root line.path) (booted d.names line.path (Named (File (ties.file (Boot place))))) (Ok d.names))) joins)
  by_append at first place_is got longest false makes h =
      put_first at first place_is got longest makes (booted first.names line.path (Named (File (new_file s)))) refl
      (
      sym (
      ap (λ o. and_then (boots_at line.path (new_file s) o s) (λ later. Some (filled (new_file s) line.bytes later))) place_is
      ∙ ap (λ o. and_then (with_domains s (boot_by at line.path (new_file s) o s.domains)) (λ later. Some (filled (new_file s) line.bytes later))) got
      )
      ∙ h
      )

  by_longest : (at : ℕ) (first : Domain) → position (has_path line.path) s.domains ≡ Some at → slice_get s.domains at ≡ Some first → (b : Bool) → is_longest s.roots first.root line.path ≡ b
      → server.lies_here line.path s ≡ b → fills_line line s ≡ Some next → Filled ties place line s next
  by_longest at first place_is got true longest here h =
      by_append at first place_is got longest line.append refl (sym (ap (λ b. cond b (cond line.append (Some (appends_line line s)) (makes_line line s)) (Some s)) here) ∙ h)
  by_longest at first place_is got false short here h =
      left_out here h
      (λ i d there.
      elim (cases_Bool (i == at)) [
        | inl same ↦
            let is : first ≡ d = some_is first d (sym got ∙ ap (slice_get s.domains) (sym (eqb-true i at same)) ∙ there) in
            ap (λ b. is_prefix d.root line.path && b) (ap (λ (x : Domain). is_longest s.roots x.root line.path) (sym is) ∙ short) ∙ and_false (is_prefix d.root line.path)
        | inr apart ↦
            not_own s.roots line.path s.domains at i first d stands.ordered (stands.within first.root (stands.mine at first got)) got (first_at line.path s.domains at first place_is got) there
            (λ e. true≢false (sym (eq-eqb i at e) ∙ apart))
      ])
    where
      and_false : (a : Bool) → (a && false) ≡ false
      and_false true = refl
      and_false false = refl

  by_domain : (at : ℕ) → position (has_path line.path) s.domains ≡ Some at → (o : Option Domain) → slice_get s.domains at ≡ o → server.lies_here line.path s ≡ server.lies_in s.roots line.path o → fills_line line s ≡ Some next → Filled ties place line s next
  by_domain at place_is (Some first) got here h = by_longest at first place_is got (is_longest s.roots first.root line.path) refl here h
  by_domain at place_is None got here h =
      left_out here h
      (λ i d there.
      let inside = position-Some (has_path line.path) s.domains at d place_is in
      let found = get_found s.domains at inside.0 in
      absurd (none_some (slice_get s.domains at) found.0 got found.1))

  by_place : (o : Option ℕ) → position (has_path line.path) s.domains ≡ o → fills_line line s ≡ Some next → Filled ties place line s next
  by_place None place_is h =
      left_out (ap (λ o. server.lies_in s.roots line.path (at_place s.domains o)) place_is) h
      (λ i d there. ap (λ b. b && is_longest s.roots d.root line.path) (nowhere line.path s.domains i d place_is there))
  by_place (Some at) place_is h =
      by_domain at place_is (slice_get s.domains at) refl (ap (λ o. server.lies_in s.roots line.path (at_place s.domains o)) place_is) h

  fills_one : fills_line line s ≡ Some next → Filled ties place line s next
  fills_one h = by_place (position (has_path line.path) s.domains) refl h

-- ---- all lines

pub record CameAll (ties : Ties) (roots : List Parts) (place : ℕ) (lines : List FileLine) (ds : List Domain) (i : ℕ) (new : Domain) : Type 0 where
  pub domain : Domain
  pub got : slice_get ds i ≡ Some domain
  pub root : new.root ≡ domain.root
  pub tree : with_files ties roots domain.root place lines domain.names ≡ Ok new.names

pub record AllFilled (ties : Ties) (place : ℕ) (lines : List FileLine) (s next : Server) : Type 0 where
  pub roots : next.roots ≡ s.roots
  pub came : (i : ℕ) (new : Domain) → slice_get next.domains i ≡ Some new → CameAll ties s.roots place lines s.domains i new

-- a file of a kernel
abbrev pub file_of : ℕ → ℕ → FileId
file_of kernel number = record { server = kernel; number = number }

abbrev pub AreNext : Ties → List Parts → List Parts → ℕ → ℕ → List FileLine → Type 0
AreNext ties serves roots kernel place lines = (i : ℕ) (line : FileLine) (root : Parts) → slice_get lines i ≡ Some line → line.append ≡ false → begins_domain serves root ≡ true → lies_in roots root line.path ≡ true
    → ties.file (Boot (place + i)) ≡ file_of kernel (place + i + 1)

stands_on : (ties : Ties) (serves : List Parts) (place : ℕ) (line : FileLine) (s next : Server) → Filled ties place line s next → Stands serves s → Stands serves (counts_file next)
stands_on ties serves place line s next filled stands =
    record {
      ordered = λ i j d e less first second front.
          let a = filled.came i d first in
          let b = filled.came j e second in
          stands.ordered i j a.domain b.domain less a.got b.got (subst (λ (k : Parts). IsPrefix k b.domain.root) a.root (subst (λ (k : Parts). IsPrefix d.root k) b.root front));
      mine = λ i d got. let a = filled.came i d got in subst (λ (k : Parts). begins_domain serves k ≡ true) (sym a.root) (stands.mine i a.domain a.got);
      within = λ root is. ap (λ (rs : List Parts). begins_domain rs root) filled.roots ∙ stands.within root is;
    }

pub fills_all : (ties : Ties) (serves : List Parts) (kernel place : ℕ) (lines : List FileLine) (s next : Server) → Stands serves s → s.kernel ≡ kernel → s.next_file ≡ place + 1 → AreNext ties serves s.roots kernel place lines
    → fills lines s ≡ Some next → AllFilled ties place lines s next
fills_all ties serves kernel place [] s next stands own number tied h =
    subst (AllFilled ties place [] s) (some_is s next h) (record { roots = refl; came = λ i new got. record { domain = new; got = got; root = refl; tree = refl } })
fills_all ties serves kernel place (line ∷ lines) s next stands own number tied h =
    by (fills_line line s) refl h (λ mid stands own number tied rest. fills_all ties serves kernel (place + 1) lines (counts_file mid) next stands own number tied rest)
  where
    by : (o : Option Server) → fills_line line s ≡ o → and_then o (λ mid. fills lines (counts_file mid)) ≡ Some next
        → ((mid : Server) → Stands serves (counts_file mid) → mid.kernel ≡ kernel → mid.next_file + 1 ≡ place + 1 + 1 → AreNext ties serves mid.roots kernel (place + 1) lines → fills lines (counts_file mid) ≡ Some next → AllFilled ties (place + 1) lines (counts_file mid) next)
        → AllFilled ties place (line ∷ lines) s next
    by None is h go = absurd (none_some None next refl h)
    by (Some mid) is h go =
        let first = fills_one ties serves place line s mid stands (λ root makes begins lies.
        let here : place + 0 ≡ place = omega arith in
        subst (λ n. ties.file (Boot n) ≡ file_of kernel (n + 1)) here (tied 0 line root refl makes begins lies) ∙ ap₂ file_of (sym own) (sym number)) is in
        let rest = go mid (stands_on ties serves place line s mid first stands) (first.kernel ∙ own) (ap (λ n. n + 1) (first.number ∙ number))
        (λ i one root got makes begins lies.
        let same : place + suc i ≡ place + 1 + i = omega arith in
        subst (λ n. ties.file (Boot n) ≡ file_of kernel (n + 1)) same (tied (suc i) one root got makes begins (ap (λ (rs : List Parts). lies_in rs root one.path) (sym first.roots) ∙ lies)))
        h in
        record {
          roots = rest.roots ∙ first.roots;
          came = λ i new got.
              let a = rest.came i new got in
              let b = first.came i a.domain a.got in
              record {
                domain = b.domain;
                got = b.got;
                root = a.root ∙ b.root;
                tree = ap (λ r. names.and_then r (λ later. with_files ties s.roots b.domain.root (place + 1) lines later)) b.tree
                    ∙ ap₂ (λ (rs : List Parts) (k : Parts). with_files ties rs k (place + 1) lines a.domain.names) (sym first.roots) (sym b.root)
                    ∙ a.tree;
              };
        }
