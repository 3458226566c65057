-- As a cluster begins, but for its files: a directory at each domain's root and above it, and remote links where domains hang.
use Rattle.std.proofs.Common.{◌≡◌, ◌+◌, ◌<◌, ◌≤◌, ◌==◌, ℕ, suc, Bool, true, false, ◌&&◌, ◌||◌, not, cond, nat_lt, List, [], ◌∷◌, ◌++◌, length, Option, Some, None, Result, Ok, inl, inr, refl, sym, ap, ap₂, subst, ◌∙◌, arith, length-append, append-nil, append_assoc}
use Rattle.std.specs.List.{filter, list_all, list_any}
use Rattle.std.specs.Map.{keys_of}
use Rattle.std.proofs.lemmas.Bool.{cases_Bool, cond-true, eqb-true, lt-ltb, ltb-false, ltb-true, true≢false}
use Rattle.sprite_paths.specs.Path.{IsPrefix, is_prefix}
use Rattle.unix_calls.specs.declared.state.Node.{Node as UnixNode}
use Rattle.unix_calls.specs.declared.state.Node.TheVariants.{Directory}
use Rattle.unix_calls.specs.declared.state.Named.{Named as NamedNode}
use Rattle.unix_calls.specs.Boot.{with_roots}
use Rattle.unix_calls.specs.Domains.{begins_domain}
use Rattle.unix_calls.specs.Tree.{names_in as unix_names_in, node_at, same_path}
use Rattle.server_names.specs.declared.NameEnd.{NameEnd}
use Rattle.server_names.specs.declared.Node.TheVariants.{Dir}
use Rattle.server_names.specs.declared.Entry.{Entry}
use Rattle.server_names.specs.declared.Entry.TheVariants.{Node as Named, Link}
use Rattle.server_names.specs.Names.{IsSound, Listed, Tree, booted, count, entries_in, entry_in, hung_all, names_in, is_part}
use Rattle.server_names.proofs.FoundLaws.{directory_in, path_is, path_itself, part_itself, part_is}
use Rattle.server_names.proofs.SoundLaws.{sound_none}
use Rattle.tree_laws.specs.Trees.{AreNames, IsOwn, Parts, Ties, told}
use Rattle.tree_laws.proofs.WalkLaws.{prefix_on}
use Rattle.server_kernel.specs.Boot.{are_above, hangs_in, is_below, links_of}
use Rattle.flat_tree.specs.Opening.{linked, rooted}
use Rattle.flat_tree.proofs.ApartLaws.{prefix_is, prefix_tests, prefix_through, shorter}
use Rattle.flat_tree.proofs.ListingLaws.{keys_times, nodes_times, once_if, times}
use Rattle.flat_tree.proofs.LookLaws.{InOrder, hung_look, hung_sound, root_look, root_sound, roots_look, roots_order}
use Rattle.std.proofs.lemmas.List.{length-map}
use Rattle.std.specs.Option.{is_some}
use Rattle.tree_laws.proofs.MakeLaws.{node_is}
use Rattle.tree_laws.proofs.WellLaws.{ends}

-- ---- roots by tests

-- what holds of each root holds of all, as a test
pub all_of : (f : Parts → Bool) (roots : List Parts) → ((k : Parts) → begins_domain roots k ≡ true → f k ≡ true) → list_all f roots ≡ true
all_of f [] h = refl
all_of f (root ∷ roots) h =
    ap₂ (λ a b. a && b) (h root (ap (λ b. b || begins_domain roots root) (path_itself root)))
    (all_of f roots (λ k is. h k (ap (λ b. same_path k root || b) is ∙ either (same_path k root))))
  where
    either : (a : Bool) → (a || true) ≡ true
    either true = refl
    either false = refl

-- and of one, where it holds of all
pub one_of : (f : Parts → Bool) (roots : List Parts) (k : Parts) → list_all f roots ≡ true → begins_domain roots k ≡ true → f k ≡ true
one_of f [] k all begins = absurd (true≢false (sym begins))
one_of f (root ∷ roots) k all begins = by (same_path k root) refl begins (f root) refl all (λ rest later. one_of f roots k rest later)
  where
    by : (b : Bool) → same_path k root ≡ b → (b || begins_domain roots k) ≡ true → (a : Bool) → f root ≡ a → (a && list_all f roots) ≡ true → (list_all f roots ≡ true → begins_domain roots k ≡ true → f k ≡ true) → f k ≡ true
    by b same begins false is all rest = absurd (true≢false (sym all))
    by true same begins true is all rest = ap f (path_is k root same) ∙ is
    by false same begins true is all rest = rest all begins

-- a root that passes
pub some_of : (f : Parts → Bool) (roots : List Parts) (k : Parts) → begins_domain roots k ≡ true → f k ≡ true → list_any f roots ≡ true
some_of f [] k begins is = absurd (true≢false (sym begins))
some_of f (root ∷ roots) k begins is = by (same_path k root) refl begins (λ later. some_of f roots k later is)
  where
    either : (a b : Bool) → b ≡ true → (a || b) ≡ true
    either true b h = refl
    either false b h = h

    by : (b : Bool) → same_path k root ≡ b → (b || begins_domain roots k) ≡ true → (begins_domain roots k ≡ true → list_any f roots ≡ true) → (f root || list_any f roots) ≡ true
    by true same begins rest = ap (λ b. b || list_any f roots) (ap f (sym (path_is k root same)) ∙ is)
    by false same begins rest = either (f root) (list_any f roots) (rest begins)

-- of those with a prefix, the shortest
pub record Shortest (q : Parts) (roots : List Parts) : Type 0 where
  pub root : Parts
  pub begins : begins_domain roots root ≡ true
  pub prefix : IsPrefix q root
  pub least : (other : Parts) → begins_domain roots other ≡ true → IsPrefix q other → length root ≤ length other

pub begins_later : (root : Parts) (roots : List Parts) (k : Parts) → begins_domain roots k ≡ true → begins_domain (root ∷ roots) k ≡ true
begins_later root roots k h = ap (λ b. same_path k root || b) h ∙ either (same_path k root)
  where
    either : (a : Bool) → (a || true) ≡ true
    either true = refl
    either false = refl

begins_first : (root : Parts) (roots : List Parts) → begins_domain (root ∷ roots) root ≡ true
begins_first root roots = ap (λ b. b || begins_domain roots root) (path_itself root)

begins_either : (root : Parts) (roots : List Parts) (k : Parts) (P : Type 0) → begins_domain (root ∷ roots) k ≡ true → (k ≡ root → P) → (begins_domain roots k ≡ true → P) → P
begins_either root roots k P h first later = by (same_path k root) refl h
  where
    by : (b : Bool) → same_path k root ≡ b → (b || begins_domain roots k) ≡ true → P
    by true same h = first (path_is k root same)
    by false same h = later h

pub shortest : (q : Parts) (roots : List Parts) → list_any (is_prefix q) roots ≡ true → Shortest q roots
shortest q [] h = absurd (true≢false (sym h))
shortest q (root ∷ roots) h = by (is_prefix q root) refl (list_any (is_prefix q) roots) refl h (λ later. shortest q roots later)
  where
    alone : IsPrefix q root → list_any (is_prefix q) roots ≡ false → Shortest q (root ∷ roots)
    alone pre none =
        record {
          root = root;
          begins = begins_first root roots;
          prefix = pre;
          least = λ other is front. begins_either root roots other (length root ≤ length other) is (λ e. subst (λ (k : Parts). length root ≤ length k) (sym e) (omega arith))
              (λ later. absurd (true≢false (sym (some_of (is_prefix q) roots other later (prefix_tests q other front)) ∙ none)));
        }

    old : Shortest q roots → (is_prefix q root ≡ false) → Shortest q (root ∷ roots)
    old s none =
        record {
          root = s.root;
          begins = begins_later root roots s.root s.begins;
          prefix = s.prefix;
          least = λ other is front. begins_either root roots other (length s.root ≤ length other) is
              (λ e. absurd (true≢false (sym (prefix_tests q root (subst (IsPrefix q) e front)) ∙ none))) (λ later. s.least other later front);
        }

    both : IsPrefix q root → Shortest q roots → Shortest q (root ∷ roots)
    both pre s =
        elim (cases_Bool (nat_lt (length s.root) (length root))) [
          | inl less ↦
              record {
                root = s.root;
                begins = begins_later root roots s.root s.begins;
                prefix = s.prefix;
                least = λ other is front. begins_either root roots other (length s.root ≤ length other) is
                    (λ e. let m = ltb-true (length s.root) (length root) less in let n : length other ≡ length root = ap length e in omega (arith, m, n)) (λ later. s.least other later front);
              }
          | inr more ↦
              record {
                root = root;
                begins = begins_first root roots;
                prefix = pre;
                least = λ other is front. begins_either root roots other (length root ≤ length other) is (λ e. subst (λ (k : Parts). length root ≤ length k) (sym e) (omega arith))
                    (λ later. let m = ltb-false (length s.root) (length root) more in let n = s.least other later front in omega (arith, m, n));
              }
        ]

    by : (a : Bool) → is_prefix q root ≡ a → (b : Bool) → list_any (is_prefix q) roots ≡ b → (a || b) ≡ true → (list_any (is_prefix q) roots ≡ true → Shortest q roots) → Shortest q (root ∷ roots)
    by true is true more h rest = both (prefix_is q root is) (rest more)
    by true is false more h rest = alone (prefix_is q root is) more
    by false is b more h rest = old (rest (more ∙ h)) is

-- ---- where domains hang

begins_filter : (h : Parts → Bool) (roots : List Parts) (q : Parts) → begins_domain (filter h roots) q ≡ (begins_domain roots q && h q)
begins_filter h [] q = refl
begins_filter h (root ∷ roots) q = by (h root) refl (same_path q root) refl (begins_filter h roots q)
  where
    none : (a : Bool) → (a && false) ≡ false
    none true = refl
    none false = refl

    by : (a : Bool) → h root ≡ a → (b : Bool) → same_path q root ≡ b → begins_domain (filter h roots) q ≡ (begins_domain roots q && h q) → begins_domain (cond a (root ∷ filter h roots) (filter h roots)) q ≡ ((b || begins_domain roots q) && h q)
    by true is true same rest = ap (λ b. b || begins_domain (filter h roots) q) same ∙ sym (ap h (path_is q root same) ∙ is)
    by false is true same rest =
        let off : h q ≡ false = ap h (path_is q root same) ∙ is in
        rest ∙ ap (λ b. begins_domain roots q && b) off ∙ none (begins_domain roots q) ∙ sym off
    by true is false same rest = ap (λ b. b || begins_domain (filter h roots) q) same ∙ rest
    by false is false same rest = rest

any_filter : (f h : Parts → Bool) (roots : List Parts) → list_any f (filter h roots) ≡ true → list_any f roots ≡ true
any_filter f h [] e = absurd (true≢false (sym e))
any_filter f h (root ∷ roots) e = by (h root) (f root) refl e (λ later. any_filter f h roots later)
  where
    either : (a b : Bool) → b ≡ true → (a || b) ≡ true
    either true b h = refl
    either false b h = h

    by : (a b : Bool) → f root ≡ b → list_any f (cond a (root ∷ filter h roots) (filter h roots)) ≡ true → (list_any f (filter h roots) ≡ true → list_any f roots ≡ true) → (b || list_any f roots) ≡ true
    by true true is e rest = refl
    by true false is e rest = rest (sym (ap (λ b. b || list_any f (filter h roots)) is) ∙ e)
    by false b is e rest = either b (list_any f roots) (rest e)

below_tests : (root path : Parts) → is_below root path ≡ true → IsPrefix root path × (length root < length path)
below_tests root path h = by (is_prefix root path) refl (nat_lt (length root) (length path)) refl h
  where
    by : (a : Bool) → is_prefix root path ≡ a → (b : Bool) → nat_lt (length root) (length path) ≡ b → (a && b) ≡ true → IsPrefix root path × (length root < length path)
    by true is true less h = (prefix_is root path is, ltb-true (length root) (length path) less)
    by true is false less h = absurd (true≢false (sym h))
    by false is b less h = absurd (true≢false (sym h))

below_is_true : (root path : Parts) → IsPrefix root path → length root < length path → is_below root path ≡ true
below_is_true root path pre less = ap₂ (λ a b. a && b) (prefix_tests root path pre) (lt-ltb (length root) (length path) less)

-- each domain between has the root
hangs_by : (roots : List Parts) (root link : Parts) → IsPrefix root link → length root < length link → ((other : Parts) → begins_domain roots other ≡ true → IsPrefix other link → length other < length link → IsPrefix other root) → hangs_in roots root link ≡ true
hangs_by roots root link pre less clear =
    cond-true (is_below root link) _ _ (below_is_true root link pre less)
    ∙ all_of (λ other. not (is_below other link) || is_prefix other root) roots (λ other is. by other (is_below other link) refl (clear other is))
  where
    by : (other : Parts) (b : Bool) → is_below other link ≡ b → (IsPrefix other link → length other < length link → IsPrefix other root) → (not b || is_prefix other root) ≡ true
    by other true is h = let two = below_tests other link is in prefix_tests other root (h two.0 two.1)
    by other false is h = refl

hangs_below : (roots : List Parts) (root link : Parts) → hangs_in roots root link ≡ true → IsPrefix root link × (length root < length link)
hangs_below roots root link h = by (is_below root link) refl h
  where
    by : (b : Bool) → is_below root link ≡ b → cond b (are_above roots root link) false ≡ true → IsPrefix root link × (length root < length link)
    by true is h = below_tests root link is
    by false is h = absurd (true≢false (sym h))

-- ---- what the names of a domain have at first

-- at a path: a remote link, a directory on the way to the root or to a link, or nothing
abbrev pub first_at : Parts → List Parts → Parts → Option Entry
first_at root links q = cond (begins_domain links q) (Some (Link q)) (cond (is_prefix q root || list_any (is_prefix q) links) (Some (Named Dir)) None)

prefix_root : (roots : List Parts) (root q : Parts) (links : List Parts) → ((l : Parts) → begins_domain links l ≡ true → IsPrefix root l) → (length links == 0) ≡ false → list_any (is_prefix q) links ≡ (is_prefix q root || list_any (is_prefix q) links)
prefix_root roots root q [] all some = absurd (true≢false some)
prefix_root roots root q (link ∷ links) all some = by (is_prefix q root) refl
  where
    by : (b : Bool) → is_prefix q root ≡ b → list_any (is_prefix q) (link ∷ links) ≡ (b || list_any (is_prefix q) (link ∷ links))
    by true is = ap (λ b. b || list_any (is_prefix q) links) (prefix_tests q link (prefix_through q root link (prefix_is q root is) (all link (begins_first link links))))
    by false is = refl

first_look : (roots : List Parts) (root : Parts) (links : List Parts) (tree : Tree) → ((l : Parts) → begins_domain links l ≡ true → IsPrefix root l) → linked root links ≡ Ok tree → (d : Parts) (p : List ℕ) → entry_in tree d p ≡ first_at root links (d ++ p ∷ [])
first_look roots root links tree all ok d p = by (length links == 0) refl ok
  where
    no_links : (ls : List Parts) → (length ls == 0) ≡ true → ls ≡ []
    no_links [] h = refl
    no_links (l ∷ ls) h = absurd (let n : length (l ∷ ls) ≡ 0 = eqb-true (length (l ∷ ls)) 0 h in omega (arith, n))

    no_root : (k : Parts) → (length k == 0) ≡ true → k ≡ []
    no_root [] h = refl
    no_root (x ∷ k) h = absurd (let n : length (x ∷ k) ≡ 0 = eqb-true (length (x ∷ k)) 0 h in omega (arith, n))

    same_ok : (a b : Tree) → (◌≡◌ {A = Result Tree NameEnd} (Ok a) (Ok b)) → a ≡ b
    same_ok a b h = cc

    or_none : (b : Bool) → (b || false) ≡ b
    or_none true = refl
    or_none false = refl

    not_prefix : (q : Parts) → 0 < length q → is_prefix q [] ≡ false
    not_prefix q some =
        elim (cases_Bool (is_prefix q [])) [
          | inl is ↦ absurd (let pre = prefix_is q [] is in let n : 0 ≡ length (q ++ pre.rest) = ap length pre.whole in let m = length-append q pre.rest in omega (arith, n, m, some))
          | inr off ↦ off
        ]

    alone : (b : Bool) → (length root == 0) ≡ b → cond b (Ok []) (booted [] root (Named Dir)) ≡ Ok tree → entry_in tree d p ≡ cond (is_prefix (d ++ p ∷ []) root || false) (Some (Named Dir)) None
    alone true is h =
        ap (λ (t : Tree). entry_in t d p) (sym (same_ok [] tree h))
        ∙ sym (ap (λ b. cond b (Some (Named Dir)) None) (or_none (is_prefix (d ++ p ∷ []) root) ∙ ap (is_prefix (d ++ p ∷ [])) (no_root root is) ∙ not_prefix (d ++ p ∷ []) (let m = length-append d (p ∷ []) in omega (arith, m))))
    alone false is h = root_look root tree h d p ∙ sym (ap (λ b. cond b (Some (Named Dir)) None) (or_none (is_prefix (d ++ p ∷ []) root)))

    by : (b : Bool) → (length links == 0) ≡ b → cond b (rooted root) (hung_all [] links) ≡ Ok tree → entry_in tree d p ≡ first_at root links (d ++ p ∷ [])
    by true none h =
        alone (length root == 0) refl h ∙ ap (λ (ls : List Parts). first_at root ls (d ++ p ∷ [])) (sym (no_links links none))
    by false some h =
        hung_look links tree h d p ∙ ap (λ b. cond (begins_domain links (d ++ p ∷ [])) (Some (Link (d ++ p ∷ []))) (cond b (Some (Named Dir)) None)) (prefix_root roots root (d ++ p ∷ []) links all some)

first_sound : (root : Parts) (links : List Parts) (tree : Tree) → linked root links ≡ Ok tree → IsSound tree
first_sound root links tree ok = by (length links == 0) ok
  where
    alone : (b : Bool) → cond b (Ok []) (booted [] root (Named Dir)) ≡ Ok tree → IsSound tree
    alone true h = subst IsSound (let e : [] ≡ tree = cc in e) sound_none
    alone false h = root_sound root tree h

    by : (b : Bool) → cond b (rooted root) (hung_all [] links) ≡ Ok tree → IsSound tree
    by true h = alone (length root == 0) h
    by false h = hung_sound links [] tree h sound_none

-- ---- the links of a domain

links_hang : (roots : List Parts) (root q : Parts) → begins_domain (links_of roots root) q ≡ true → hangs_in roots root q ≡ true
links_hang roots root q h = by (begins_domain roots q) (hangs_in roots root q) (sym (begins_filter (hangs_in roots root) roots q) ∙ h)
  where
    by : (a b : Bool) → (a && b) ≡ true → b ≡ true
    by true b h = h
    by false b h = absurd (true≢false (sym h))

-- right in a directory of the domain, a link is any other domain's root
link_here : (roots : List Parts) (root d : Parts) (p : List ℕ) → IsPrefix root d → IsOwn roots root d → begins_domain (links_of roots root) (d ++ p ∷ []) ≡ begins_domain roots (d ++ p ∷ [])
link_here roots root d p below own =
    begins_filter (hangs_in roots root) roots (d ++ p ∷ [])
    ∙ ap (λ b. begins_domain roots (d ++ p ∷ []) && b) hangs ∙ by (begins_domain roots (d ++ p ∷ []))
  where
    by : (a : Bool) → (a && true) ≡ a
    by true = refl
    by false = refl

    longer : length root < length (d ++ p ∷ [])
    longer = let a = length-append d (p ∷ []) in let b = length-append root below.rest in let c : length d ≡ length (root ++ below.rest) = ap length below.whole in omega (arith, a, b, c)

    hangs : hangs_in roots root (d ++ p ∷ []) ≡ true
    hangs = hangs_by roots root (d ++ p ∷ []) (record { rest = below.rest ++ p ∷ []; whole = ap (λ (l : Parts). l ++ p ∷ []) below.whole ∙ append_assoc root below.rest (p ∷ []) }) longer
        (λ other is pre less. elim (prefix_on other d p pre) [
          | inl short ↦ own other is short
          | inr all ↦ absurd (let n : length other ≡ length (d ++ p ∷ []) = ap length all in omega (arith, n, less))
        ])

-- and a directory is on the way to a link where it is on the way to a domain
way_here : (roots : List Parts) (root d : Parts) (p : List ℕ) → IsPrefix root d → IsOwn roots root d → begins_domain roots (d ++ p ∷ []) ≡ false → list_any (is_prefix (d ++ p ∷ [])) (links_of roots root) ≡ list_any (is_prefix (d ++ p ∷ [])) roots
way_here roots root d p below own none = by (list_any (is_prefix q) (links_of roots root)) refl (list_any (is_prefix q) roots) refl
  where
    q : Parts
    q = d ++ p ∷ []

    longer : length root < length (d ++ p ∷ [])
    longer = let a = length-append d (p ∷ []) in let b = length-append root below.rest in let c : length d ≡ length (root ++ below.rest) = ap length below.whole in omega (arith, a, b, c)

    from_root : IsPrefix root (d ++ p ∷ [])
    from_root = record { rest = below.rest ++ p ∷ []; whole = ap (λ (l : Parts). l ++ p ∷ []) below.whole ∙ append_assoc root below.rest (p ∷ []) }

    between : (s : Shortest (d ++ p ∷ []) roots) (other : Parts) → begins_domain roots other ≡ true → IsPrefix other s.root → length other < length s.root → IsPrefix other root
    between s other is pre less =
        elim (cases_Bool (nat_lt (length (d ++ p ∷ [])) (length other))) [
          | inl more ↦ absurd (
              let front = shorter (d ++ p ∷ []) other s.root s.prefix pre (let m = ltb-true (length (d ++ p ∷ [])) (length other) more in omega (arith, m)) in
              let least = s.least other is front in
              omega (arith, least, less))
          | inr few ↦
              let front = shorter other (d ++ p ∷ []) s.root pre s.prefix (ltb-false (length (d ++ p ∷ [])) (length other) few) in
              elim (prefix_on other d p front) [
                | inl short ↦ own other is short
                | inr all ↦ absurd (true≢false (sym is ∙ ap (begins_domain roots) all ∙ none))
              ]
        ]

    link : list_any (is_prefix (d ++ p ∷ [])) roots ≡ true → list_any (is_prefix (d ++ p ∷ [])) (links_of roots root) ≡ true
    link some =
        let s = shortest (d ++ p ∷ []) roots some in
        let n : length (d ++ p ∷ []) ≤ length s.root = let m : length s.root ≡ length ((d ++ p ∷ []) ++ s.prefix.rest) = ap length s.prefix.whole in let k = length-append (d ++ p ∷ []) s.prefix.rest in omega (arith, m, k) in
        let hangs = hangs_by roots root s.root (prefix_through root (d ++ p ∷ []) s.root from_root s.prefix) (omega (arith, longer, n)) (λ other is pre less. between s other is pre less) in
        some_of (is_prefix (d ++ p ∷ [])) (links_of roots root) s.root (begins_filter (hangs_in roots root) roots s.root ∙ ap₂ (λ a b. a && b) s.begins hangs) (prefix_tests (d ++ p ∷ []) s.root s.prefix)

    by : (a : Bool) → list_any (is_prefix (d ++ p ∷ [])) (links_of roots root) ≡ a → (b : Bool) → list_any (is_prefix (d ++ p ∷ [])) roots ≡ b → list_any (is_prefix (d ++ p ∷ [])) (links_of roots root) ≡ list_any (is_prefix (d ++ p ∷ [])) roots
    by true one true two = one ∙ sym two
    by false one false two = one ∙ sym two
    by true one false two = absurd (true≢false (sym (any_filter (is_prefix (d ++ p ∷ [])) (hangs_in roots root) roots one) ∙ two))
    by false one true two = absurd (true≢false (sym (link two) ∙ one))

-- ---- as many names on both sides

less_names : (x : List ℕ) (ys : List (List ℕ)) → 1 ≤ times x ys → (rest : List (List ℕ)) × ((length ys ≡ suc (length rest)) × ((z : List ℕ) → times z ys ≡ times z (x ∷ rest)))
less_names x [] h = absurd (omega (arith, h))
less_names x (y ∷ ys) h = by (is_part x y) refl h (λ later. less_names x ys later)
  where
    swap : (a b : Bool) (n m k : ℕ) → m ≡ cond a (1 + k) k → cond b (1 + m) m ≡ cond a (1 + cond b (1 + k) k) (cond b (1 + k) k)
    swap true true n m k h = omega (arith, h)
    swap true false n m k h = h
    swap false true n m k h = ap (λ i. 1 + i) h
    swap false false n m k h = h

    by : (b : Bool) → is_part x y ≡ b → 1 ≤ cond b (1 + times x ys) (times x ys) → (1 ≤ times x ys → (rest : List (List ℕ)) × ((length ys ≡ suc (length rest)) × ((z : List ℕ) → times z ys ≡ times z (x ∷ rest))))
        → (rest : List (List ℕ)) × ((length (y ∷ ys) ≡ suc (length rest)) × ((z : List ℕ) → times z (y ∷ ys) ≡ times z (x ∷ rest)))
    by true same h rest = (ys, (refl, λ z. ap (λ (k : List ℕ). times z (k ∷ ys)) (sym (part_is x y same))))
    by false apart h rest =
        let r = rest h in
        (y ∷ r.0, (ap suc r.1.0, λ z. swap (is_part z x) (is_part z y) 0 (times z ys) (times z r.0) (r.1.1 z)))

same_many : (xs ys : List (List ℕ)) → ((z : List ℕ) → times z xs ≡ times z ys) → length xs ≡ length ys
same_many [] [] h = refl
same_many [] (y ∷ ys) h = absurd (let e = h y in let one : times y (y ∷ ys) ≡ 1 + times y ys = ap (λ b. cond b (1 + times y ys) (times y ys)) (part_itself y) in omega (arith, e, one))
same_many (x ∷ xs) ys h =
    let one : times x (x ∷ xs) ≡ 1 + times x xs = ap (λ b. cond b (1 + times x xs) (times x xs)) (part_itself x) in
    let e = h x in
    let r = less_names x ys (omega (arith, one, e)) in
    ap suc (same_many xs r.0 (λ z. drop_one (is_part z x) (times z xs) (times z r.0) (h z ∙ r.1.1 z))) ∙ sym r.1.0
  where
    drop_one : (b : Bool) (m n : ℕ) → cond b (1 + m) m ≡ cond b (1 + n) n → m ≡ n
    drop_one true m n h = omega (arith, h)
    drop_one false m n h = h

keys_length : (es : Listed) → length (keys_of es) ≡ length es
keys_length es = length-map es _

told_is_some : (ties : Ties) (roots : List Parts) (path : Parts) (o : Option UnixNode) → is_some (told ties roots path o) ≡ is_some o
told_is_some ties roots path None = refl
told_is_some ties roots path (Some node) = refl

-- a directory has as many names as the other, where it has the same
counts_from : (ties : Ties) (roots : List Parts) (nodes : List NamedNode) (tree : Tree) (d : Parts) → IsSound tree → InOrder nodes → ((p : List ℕ) → entry_in tree d p ≡ told ties roots (d ++ p ∷ []) (node_at nodes (d ++ p ∷ []))) → count tree d ≡ length (unix_names_in nodes d)
counts_from ties roots nodes tree d sound order names =
    sym (keys_length (entries_in tree d))
    ∙ same_many (names_in tree d) (unix_names_in nodes d)
    (λ x. keys_times x (entries_in tree d) (directory_in tree d sound.directories).once
    ∙ ap (λ o. once_if (is_some o)) (names x) ∙ ap once_if (told_is_some ties roots (d ++ x ∷ []) (node_at nodes (d ++ x ∷ [])))
    ∙ ap (λ o. once_if (is_some o)) (node_is nodes d x) ∙ sym (nodes_times x d nodes order.once))

-- ---- each domain

pub starts : (ties : Ties) (roots : List Parts) (root : Parts) (tree : Tree) → begins_domain roots root ≡ true → linked root (links_of roots root) ≡ Ok tree → AreNames ties roots root (with_roots roots []) tree
starts ties roots root tree begins ok =
    record {
      way = λ before p pre. (look before p ∙ on_way before p pre, roots_look roots before p ∙ ap (λ b. cond b (Some Directory) None) (some_of (is_prefix (before ++ p ∷ [])) roots root begins (prefix_tests (before ++ p ∷ []) root pre)));
      names = names;
      counts = λ d below own. counts_from ties roots (with_roots roots []) tree d (first_sound root (links_of roots root) tree ok) order (λ p. names d p below own);
      begins = λ q is. at_root q is;
      once = order.once;
    }
  where
    look : (d : Parts) (p : List ℕ) → entry_in tree d p ≡ first_at root (links_of roots root) (d ++ p ∷ [])
    look d p = first_look roots root (links_of roots root) tree (λ l is. (hangs_below roots root l (links_hang roots root l is)).0) ok d p

    order : InOrder (with_roots roots [])
    order = roots_order roots [] (record { once = tt; up = tt })

    no_link : (q : Parts) → IsPrefix q root → begins_domain (links_of roots root) q ≡ false
    no_link q pre =
        elim (cases_Bool (begins_domain (links_of roots root) q)) [
          | inl is ↦ absurd (
              let two = hangs_below roots root q (links_hang roots root q is) in
              let a : length root ≡ length (q ++ pre.rest) = ap length pre.whole in
              let b = length-append q pre.rest in
              omega (arith, two.1, a, b))
          | inr off ↦ off
        ]

    on_way : (before : Parts) (p : List ℕ) → IsPrefix (before ++ p ∷ []) root → first_at root (links_of roots root) (before ++ p ∷ []) ≡ Some (Named Dir)
    on_way before p pre =
        ap₂ (λ a b. cond a (Some (Link (before ++ p ∷ []))) (cond (b || list_any (is_prefix (before ++ p ∷ [])) (links_of roots root)) (Some (Named Dir)) None)) (no_link (before ++ p ∷ []) pre) (prefix_tests (before ++ p ∷ []) root pre)

    not_above : (d : Parts) (p : List ℕ) → IsPrefix root d → is_prefix (d ++ p ∷ []) root ≡ false
    not_above d p below =
        elim (cases_Bool (is_prefix (d ++ p ∷ []) root)) [
          | inl is ↦ absurd (
              let pre = prefix_is (d ++ p ∷ []) root is in
              let a : length root ≡ length ((d ++ p ∷ []) ++ pre.rest) = ap length pre.whole in
              let b = length-append (d ++ p ∷ []) pre.rest in
              let e = length-append d (p ∷ []) in
              let f : length d ≡ length (root ++ below.rest) = ap length below.whole in
              let g = length-append root below.rest in
              omega (arith, a, b, e, f, g))
          | inr off ↦ off
        ]

    -- the same at a path right in a directory of the domain
    tells : (q : Parts) (b : Bool) → begins_domain roots q ≡ b → (x : Bool) → list_any (is_prefix q) roots ≡ x → (b ≡ true → x ≡ true)
        → cond b (Some (Link q)) (cond x (Some (Named Dir)) None) ≡ told ties roots q (cond x (Some Directory) None)
    tells q true is true some h = sym (ap (λ c. Some (cond c (Link q) (Named Dir))) is)
    tells q false is true some h = sym (ap (λ c. Some (cond c (Link q) (Named Dir))) is)
    tells q true is false some h = absurd (true≢false (sym (h refl)))
    tells q false is false some h = refl

    entries : (d : Parts) (p : List ℕ) → IsPrefix root d → IsOwn roots root d → (b : Bool) → begins_domain roots (d ++ p ∷ []) ≡ b → first_at root (links_of roots root) (d ++ p ∷ []) ≡ cond b (Some (Link (d ++ p ∷ []))) (cond (list_any (is_prefix (d ++ p ∷ [])) roots) (Some (Named Dir)) None)
    entries d p below own true is = ap (λ a. cond a (Some (Link (d ++ p ∷ []))) (cond (is_prefix (d ++ p ∷ []) root || list_any (is_prefix (d ++ p ∷ [])) (links_of roots root)) (Some (Named Dir)) None)) (link_here roots root d p below own ∙ is)
    entries d p below own false is =
        ap₂ (λ a b. cond a (Some (Link (d ++ p ∷ []))) (cond (b || list_any (is_prefix (d ++ p ∷ [])) (links_of roots root)) (Some (Named Dir)) None)) (link_here roots root d p below own ∙ is) (not_above d p below)
        ∙ ap (λ b. cond b (Some (Named Dir)) None) (way_here roots root d p below own is)

    names : (d : Parts) (p : List ℕ) → IsPrefix root d → IsOwn roots root d → entry_in tree d p ≡ told ties roots (d ++ p ∷ []) (node_at (with_roots roots []) (d ++ p ∷ []))
    names d p below own =
        let q = d ++ p ∷ [] in
        look d p ∙ entries d p below own (begins_domain roots q) refl
        ∙ tells q (begins_domain roots q) refl (list_any (is_prefix q) roots) refl (λ is. some_of (is_prefix q) roots q is (prefix_tests q q (record { rest = []; whole = sym (append-nil q) })))
        ∙ ap (told ties roots q) (sym (roots_look roots d p))

    at_root : (q : Parts) → begins_domain roots q ≡ true → node_at (with_roots roots []) q ≡ Some Directory
    at_root [] is = refl
    at_root (x ∷ q) is =
        let end = ends x q in
        subst (λ (k : Parts). node_at (with_roots roots []) k ≡ Some Directory) (sym end.whole)
        (roots_look roots end.front end.last ∙ ap (λ b. cond b (Some Directory) None)
        (some_of (is_prefix (end.front ++ end.last ∷ [])) roots (end.front ++ end.last ∷ []) (ap (begins_domain roots) (sym end.whole) ∙ is)
        (prefix_tests (end.front ++ end.last ∷ []) (end.front ++ end.last ∷ []) (record { rest = []; whole = sym (append-nil (end.front ++ end.last ∷ [])) }))))

pub starts_sound : (roots : List Parts) (root : Parts) (tree : Tree) → linked root (links_of roots root) ≡ Ok tree → IsSound tree
starts_sound roots root tree ok = first_sound root (links_of roots root) tree ok
