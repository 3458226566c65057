-- As a server begins, before its files: each domain of its kernel, longer ones first.
use Rattle.std.proofs.Common.{◌≡◌, ◌+◌, ◌-◌, ◌<◌, ◌≤◌, ◌==◌, ◌⊎◌, ℕ, zero, suc, Bool, true, false, ◌||◌, not, cond, List, [], ◌∷◌, ◌++◌, length, slice_get, Option, Some, None, inl, inr, refl, sym, ap, subst, ◌∙◌, arith, append-nil, length-append}
use Rattle.std.proofs.lemmas.Bool.{eqb-true, true≢false, not-true, and_parts}
use Rattle.sprite_ids.proofs.ListLaws.{get_within, some_is}
use Rattle.sprite_paths.specs.Path.{IsPrefix}
use Rattle.unix_calls.specs.Domains.{begins_domain}
use Rattle.unix_calls.specs.Lawful.{each_once}
use Rattle.unix_calls.specs.Tree.{same_path}
use Rattle.server_names.specs.Names.{Tree}
use Rattle.server_names.proofs.FoundLaws.{path_itself}
use Rattle.server_kernel.specs.declared.Domain.{Domain}
use Rattle.server_kernel.specs.declared.Server.{Server}
use Rattle.server_kernel.specs.Boot.{all_hung, and_then, hangs_all, hangs_one, names_of, with_domain_of}
use Rattle.tree_laws.specs.Trees.{Parts}
use Rattle.name_laws.proofs.FillLaws.{AreOrdered, none_some}
use Rattle.flat_tree.proofs.StartLaws.{begins_later}

-- ---- one domain more

pub get_push : (ds : List Domain) (new : Domain) (i : ℕ) (d : Domain) → slice_get (ds ++ new ∷ []) i ≡ Some d → (slice_get ds i ≡ Some d) ⊎ ((i ≡ length ds) × (new ≡ d))
get_push [] new zero d h = inr (refl, some_is new d h)
get_push [] new (suc i) d h = absurd (none_some None d refl h)
get_push (e ∷ ds) new zero d h = inl h
get_push (e ∷ ds) new (suc i) d h = by (get_push ds new i d h)
  where
    by : (slice_get ds i ≡ Some d) ⊎ ((i ≡ length ds) × (new ≡ d)) → (slice_get ds i ≡ Some d) ⊎ ((suc i ≡ length (e ∷ ds)) × (new ≡ d))
    by (inl old) = inl old
    by (inr is) = let same : i ≡ length ds = is.0 in inr (omega (arith, same), is.1)

empty_by : (xs : Parts) → length xs ≤ 0 → xs ≡ []
empty_by [] h = refl
empty_by (x ∷ xs) h = absurd (omega (arith, h))

-- a prefix as long as the path is the path
pub whole_prefix : (a b : Parts) → IsPrefix a b → length b ≤ length a → b ≡ a
whole_prefix a b pre h =
    let many : length b ≡ length a + length pre.rest = ap (λ (l : Parts). length l) pre.whole ∙ length-append a pre.rest in
    let none : pre.rest ≡ [] = empty_by pre.rest (omega (arith, h, many)) in
    pre.whole ∙ ap (λ (l : Parts). a ++ l) none ∙ append-nil a

pub prefix_shorter : (a b : Parts) → IsPrefix a b → length a ≤ length b
prefix_shorter a b pre =
    let many : length b ≡ length a + length pre.rest = ap (λ (l : Parts). length l) pre.whole ∙ length-append a pre.rest in omega (arith, many)

-- the domains so far: of these, with their names, and longer ones first; where one is still to come at that length, it is no
-- longer here
pub record Hung (serves rest : List Parts) (parts : ℕ) (s : Server) : Type 0 where
  pub mine : (i : ℕ) (d : Domain) → slice_get s.domains i ≡ Some d → begins_domain serves d.root ≡ true
  pub names : (i : ℕ) (d : Domain) → slice_get s.domains i ≡ Some d → names_of s.roots d.root ≡ Some d.names
  pub ordered : AreOrdered s.domains
  pub long : (i : ℕ) (d : Domain) → slice_get s.domains i ≡ Some d → parts ≤ length d.root
  pub later : (i : ℕ) (d : Domain) → slice_get s.domains i ≡ Some d → begins_domain rest d.root ≡ true → parts < length d.root

-- what else the server has stays
pub record Beside (s next : Server) : Type 0 where
  pub roots : next.roots ≡ s.roots
  pub kernel : next.kernel ≡ s.kernel
  pub number : next.next_file ≡ s.next_file

beside_itself : (s : Server) → Beside s s
beside_itself s = record { roots = refl; kernel = refl; number = refl }

beside_through : (s t u : Server) → Beside s t → Beside t u → Beside s u
beside_through s t u a b = record { roots = b.roots ∙ a.roots; kernel = b.kernel ∙ a.kernel; number = b.number ∙ a.number }

pub record HungBeside (serves rest : List Parts) (parts : ℕ) (s next : Server) : Type 0 where
  pub hung : Hung serves rest parts next
  pub beside : Beside s next

begins_itself : (root : Parts) (rest : List Parts) (k : Parts) → k ≡ root → begins_domain (root ∷ rest) k ≡ true
begins_itself root rest k e = ap (λ b. b || begins_domain rest k) (ap (λ (p : Parts). same_path p root) e ∙ path_itself root)

module _ (serves rest : List Parts) (parts : ℕ) (root : Parts) (s next : Server) (h : Hung serves (root ∷ rest) parts s) (here : begins_domain serves root ≡ true) (once : begins_domain rest root ≡ false) where
  hangs_new : length root ≡ parts → (o : Option Tree) → names_of s.roots root ≡ o → with_domain_of root s o ≡ Some next → HungBeside serves rest parts s next
  hangs_new many None names_is is = absurd (none_some None next refl is)
  hangs_new many (Some tree) names_is is = subst (HungBeside serves rest parts s) (some_is between next is) (record { hung = hung; beside = record { roots = refl; kernel = refl; number = refl } })
    where
      new : Domain
      new = record { root = root; names = tree }

      between : Server
      between = record s { domains = s.domains ++ new ∷ [] }

      each : (P : Domain → Type 0) → ((i : ℕ) (d : Domain) → slice_get s.domains i ≡ Some d → P d) → P new → (i : ℕ) (d : Domain) → slice_get between.domains i ≡ Some d → P d
      each P old is i d got = by (get_push s.domains new i d got)
        where
          by : (slice_get s.domains i ≡ Some d) ⊎ ((i ≡ length s.domains) × (new ≡ d)) → P d
          by (inl there) = old i d there
          by (inr end) = subst P end.1 is

      apart : (i : ℕ) (d : Domain) → slice_get s.domains i ≡ Some d → IsPrefix d.root root → ⊥
      apart i d got pre =
          let long : parts ≤ length d.root = h.long i d got in
          let same : root ≡ d.root = whole_prefix d.root root pre (omega (arith, long, many)) in
          let longer : parts < length d.root = h.later i d got (begins_itself root rest d.root (sym same)) in
          let up : length d.root ≤ length root = prefix_shorter d.root root pre in
          omega (arith, longer, up, many)

      ordered : AreOrdered between.domains
      ordered i j d e less first second pre = by (get_push s.domains new i d first) (get_push s.domains new j e second)
        where
          by : (slice_get s.domains i ≡ Some d) ⊎ ((i ≡ length s.domains) × (new ≡ d)) → (slice_get s.domains j ≡ Some e) ⊎ ((j ≡ length s.domains) × (new ≡ e)) → ⊥
          by (inl a) (inl b) = h.ordered i j d e less a b pre
          by (inl a) (inr b) = apart i d a (subst (λ (x : Domain). IsPrefix d.root x.root) (sym b.1) pre)
          by (inr a) (inl b) = let at : i ≡ length s.domains = a.0 in let inside : j < length s.domains = get_within s.domains j e b in omega (arith, less, at, inside)
          by (inr a) (inr b) = let at : i ≡ length s.domains = a.0 in let end : j ≡ length s.domains = b.0 in omega (arith, less, at, end)

      hung : Hung serves rest parts between
      hung = record {
        mine = each (λ d. begins_domain serves d.root ≡ true) h.mine here;
        names = each (λ d. names_of s.roots d.root ≡ Some d.names) h.names names_is;
        ordered = ordered;
        long = each (λ d. parts ≤ length d.root) h.long (omega (arith, many));
        later = each (λ d. begins_domain rest d.root ≡ true → parts < length d.root) (λ i d got is. h.later i d got (begins_later root rest d.root is)) (λ is. absurd (true≢false (sym is ∙ once)));
      }

  hangs_by : (b : Bool) → (length root == parts) ≡ b → cond b (with_domain_of root s (names_of s.roots root)) (Some s) ≡ Some next → HungBeside serves rest parts s next
  hangs_by true many is = hangs_new (eqb-true (length root) parts many) (names_of s.roots root) refl is
  hangs_by false other is =
      subst (HungBeside serves rest parts s) (some_is s next is)
      (
      record {
        hung = record {
          mine = h.mine;
          names = h.names;
          ordered = h.ordered;
          long = h.long;
          later = λ i d got is. h.later i d got (begins_later root rest d.root is);
        };
        beside = beside_itself s;
      }
      )

  hangs_step : hangs_one parts root s ≡ Some next → HungBeside serves rest parts s next
  hangs_step is = hangs_by (length root == parts) refl is

-- ---- the domains of one length

pub hangs_length : (serves rest : List Parts) (parts : ℕ) (s next : Server) → Hung serves rest parts s → ((root : Parts) → begins_domain rest root ≡ true → begins_domain serves root ≡ true) → each_once same_path rest ≡ true → hangs_all parts rest s ≡ Some next → HungBeside serves [] parts s next
hangs_length serves [] parts s next h inside once is = subst (HungBeside serves [] parts s) (some_is s next is) (record { hung = h; beside = beside_itself s })
hangs_length serves (root ∷ rest) parts s next h inside once is =
    by (hangs_one parts root s) refl is (λ mid hung later. hangs_length serves rest parts mid next hung (λ k begins. inside k (begins_later root rest k begins)) (and_parts (not (begins_domain rest root)) (each_once same_path rest) once).1 later)
  where
    by : (o : Option Server) → hangs_one parts root s ≡ o → and_then o (λ mid. hangs_all parts rest mid) ≡ Some next
        → ((mid : Server) → Hung serves rest parts mid → hangs_all parts rest mid ≡ Some next → HungBeside serves [] parts mid next) → HungBeside serves [] parts s next
    by None one is go = absurd (none_some None next refl is)
    by (Some mid) one is go =
        let first = hangs_step serves rest parts root s mid h (inside root (begins_itself root rest root refl)) (not-true (begins_domain rest root) (and_parts (not (begins_domain rest root)) (each_once same_path rest) once).0) one in
        let more = go mid first.hung is in
        record { hung = more.hung; beside = beside_through s mid next first.beside more.beside }

-- ---- all lengths

-- the domains of that many lengths, from 16 parts down
pub record AllHung (serves : List Parts) (done : ℕ) (s next : Server) : Type 0 where
  pub mine : (i : ℕ) (d : Domain) → slice_get next.domains i ≡ Some d → begins_domain serves d.root ≡ true
  pub names : (i : ℕ) (d : Domain) → slice_get next.domains i ≡ Some d → names_of next.roots d.root ≡ Some d.names
  pub ordered : AreOrdered next.domains
  pub long : (i : ℕ) (d : Domain) → slice_get next.domains i ≡ Some d → 17 ≤ length d.root + done
  pub beside : Beside s next

pub hangs_lengths : (serves : List Parts) (done : ℕ) (s next : Server) → s.domains ≡ [] → each_once same_path serves ≡ true → done ≤ 17 → all_hung serves done s ≡ Some next → AllHung serves done s next
hangs_lengths serves zero s next empty once few is =
    let none : (X : Type 0) (i : ℕ) (d : Domain) → slice_get s.domains i ≡ Some d → X = λ X i d got. absurd (none_some (slice_get s.domains i) d (ap (λ (ds : List Domain). slice_get ds i) empty) got) in
    subst (AllHung serves zero s) (some_is s next is)
    (
    record {
      mine = λ i d got. none (begins_domain serves d.root ≡ true) i d got;
      names = λ i d got. none (names_of s.roots d.root ≡ Some d.names) i d got;
      ordered = λ i j d e less got. none (slice_get s.domains j ≡ Some e → IsPrefix d.root e.root → ⊥) i d got;
      long = λ i d got. none (17 ≤ length d.root + 0) i d got;
      beside = beside_itself s;
    }
    )
hangs_lengths serves (suc done) s next empty once few is = by (all_hung serves done s) refl is (λ mid before. hangs_lengths serves done s mid empty once (omega (arith, few)) before)
  where
    by : (o : Option Server) → all_hung serves done s ≡ o → and_then o (λ mid. hangs_all (16 - done) serves mid) ≡ Some next → ((mid : Server) → all_hung serves done s ≡ Some mid → AllHung serves done s mid) → AllHung serves (suc done) s next
    by None before is go = absurd (none_some None next refl is)
    by (Some mid) before is go =
        let h = go mid before in
        let up : (i : ℕ) (d : Domain) → slice_get mid.domains i ≡ Some d → 16 - done < length d.root = λ i d got. longer (length d.root) (h.long i d got) in
        let more = hangs_length serves serves (16 - done) mid next
        (record { mine = h.mine; names = h.names; ordered = h.ordered; long = λ i d got. less_most (16 - done) (length d.root) (up i d got); later = λ i d got begins. up i d got })
        (λ root begins. begins) once is in
        record {
          mine = more.hung.mine;
          names = more.hung.names;
          ordered = more.hung.ordered;
          long = λ i d got. most (length d.root) (more.hung.long i d got);
          beside = beside_through s mid next h.beside more.beside;
        }
      where
        longer : (n : ℕ) → 17 ≤ n + done → 16 - done < n
        longer n h = omega (arith, few, h)

        less_most : (a b : ℕ) → a < b → a ≤ b
        less_most a b h = omega (arith, h)

        most : (n : ℕ) → 16 - done ≤ n → 17 ≤ n + suc done
        most n h = omega (arith, few, h)
