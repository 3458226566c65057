-- The domains that a server serves hang there, as the cluster begins and from then on.
use Rattle.std.proofs.Common.{arith, ◌≡◌, ℕ, zero, suc, ◌+◌, ◌-◌, ◌≤◌, ◌==◌, Bool, true, false, ◌||◌, cond, List, [], ◌∷◌, ◌++◌, length, slice_get, Option, Some, None, refl, sym, ap, subst, ◌∙◌}
use Rattle.std.specs.List.{list_all}
use Rattle.std.proofs.lemmas.Bool.{and_parts, eqb-false, eqb-true}
use mathlib.Core.Bool.{or-true}
use Rattle.sprite_ids.proofs.ListLaws.{some_is}
use Rattle.sprite_paths.specs.Path.{IsPath, clean_path, text_of}
use Rattle.sprite_paths.proofs.PathLaws.{cleaned_path, parts_decide}
use Rattle.kernel_rpc.proofs.PartLaws.{eq_same}
use Rattle.unix_calls.specs.declared.Description.{Description}
use Rattle.unix_calls.specs.declared.KernelLine.{KernelLine}
use Rattle.unix_calls.specs.Domains.{begins_domain, roots_of}
use Rattle.unix_calls.specs.Lawful.{Lawful, is_clean, is_cleaned}
use Rattle.unix_calls.specs.Tree.{same_path}
use Rattle.server_names.specs.Names.{Tree}
use Rattle.server_kernel.specs.declared.Domain.{Domain}
use Rattle.server_kernel.specs.declared.Server.{Server}
use Rattle.server_kernel.specs.Boot.{all_hung, bare, boots, fills, hangs_all, hangs_one, names_of, serves_in, serves_of, with_domain_of}
use Rattle.server_kernel.specs.Directory.{Parts, is_root}
use Rattle.server_walks.proofs.BootWalk.{KeepsBoot, filled, hung_each, then_some}
use Rattle.server_walks.proofs.Deeds.{has_root}
use Rattle.server_answers.proofs.Answering.{roots_same, roots_set}

-- ---- how long the path of a domain is

empty_path : IsPath []
empty_path = record { names = tt; short_parts = tt; few_parts = omega arith; short_text = omega arith }

clean_short : (path : Parts) → is_clean path ≡ true → length path ≤ 16
clean_short path e = by (clean_path [] (text_of path)) refl e
  where
    by : (o : Option Parts) → clean_path [] (text_of path) ≡ o → is_cleaned o path ≡ true → length path ≤ 16
    by None is e = absurd (cc)
    by (Some cleaned) is e = subst (λ (p : Parts). length p ≤ 16) ((parts_decide cleaned path).0 e) (cleaned_path [] (text_of path) cleaned empty_path is).few_parts

roots_short : (paths : List Parts) (path : Parts) → list_all is_clean paths ≡ true → begins_domain paths path ≡ true → length path ≤ 16
roots_short [] path clean e = absurd (cc)
roots_short (root ∷ paths) path clean e =
    let parts = and_parts (is_clean root) (list_all is_clean paths) clean in
    by (roots_short paths path parts.1) parts.0 (same_path path root) refl e
  where
    by : (begins_domain paths path ≡ true → length path ≤ 16) → is_clean root ≡ true → (b : Bool) → same_path path root ≡ b → (b || begins_domain paths path) ≡ true → length path ≤ 16
    by rest clean true same e = subst (λ (p : Parts). length p ≤ 16) (sym ((parts_decide path root).0 same)) (clean_short root clean)
    by rest clean false off e = rest e

any_left : (path : Parts) (xs ys : List Parts) → begins_domain xs path ≡ true → begins_domain (xs ++ ys) path ≡ true
any_left path [] ys e = absurd (cc)
any_left path (x ∷ xs) ys e = by (any_left path xs ys) (same_path path x) e
  where
    by : (begins_domain xs path ≡ true → begins_domain (xs ++ ys) path ≡ true) → (b : Bool) → (b || begins_domain xs path) ≡ true → (b || begins_domain (xs ++ ys) path) ≡ true
    by rest true e = refl
    by rest false e = rest e

any_right : (path : Parts) (xs ys : List Parts) → begins_domain ys path ≡ true → begins_domain (xs ++ ys) path ≡ true
any_right path [] ys e = e
any_right path (x ∷ xs) ys e = ap (λ b. same_path path x || b) (any_right path xs ys e) ∙ or-true (same_path path x)

within_roots : (lines : List KernelLine) (at : ℕ) (path : Parts) → begins_domain (serves_in (slice_get lines at)) path ≡ true → begins_domain (roots_of lines) path ≡ true
within_roots [] at path e = absurd (cc)
within_roots (line ∷ lines) zero path e = any_left path line.serves (roots_of lines) e
within_roots (line ∷ lines) (suc at) path e = any_right path line.serves (roots_of lines) (within_roots lines at path e)

-- ---- a domain that is hung

module _ (path : Parts) where
  abbrev HasRoot : Server → Type 0
  HasRoot s = is_root path s ≡ true

  push_old : (domains : List Domain) (new : Domain) → has_root path domains ≡ true → has_root path (domains ++ new ∷ []) ≡ true
  push_old [] new e = absurd (cc)
  push_old (domain ∷ domains) new e = by (push_old domains new) (same_path path domain.root) e
    where
      by : (has_root path domains ≡ true → has_root path (domains ++ new ∷ []) ≡ true) → (b : Bool) → (b || has_root path domains) ≡ true → (b || has_root path (domains ++ new ∷ [])) ≡ true
      by rest true e = refl
      by rest false e = rest e

  push_new : (domains : List Domain) (new : Domain) → same_path path new.root ≡ true → has_root path (domains ++ new ∷ []) ≡ true
  push_new [] new e = ap (λ b. b || false) e
  push_new (domain ∷ domains) new e = ap (λ b. same_path path domain.root || b) (push_new domains new e) ∙ or-true (same_path path domain.root)

  keeps_root : (serves : List Parts) → KeepsBoot serves HasRoot
  keeps_root serves = record {
    hangs = λ s root tree is e h. push_old s.domains (record { root = root; names = tree }) h;
    makes = λ s at domain other tree there e h. roots_same _ s.domains path (roots_set s.domains at domain (record domain { names = tree }) there refl) ∙ h;
    writes = λ s file bytes there h. h;
    passes = λ s h. h;
  }

  hung_new : (o : Option Tree) (root : Parts) (s next : Server) → same_path path root ≡ true → with_domain_of root s o ≡ Some next → HasRoot next
  hung_new None root s next same e = absurd (cc)
  hung_new (Some tree) root s next same e =
      let new : Domain = record { root = root; names = tree } in
      subst HasRoot (some_is (record s { domains = s.domains ++ new ∷ [] }) next e) (push_new s.domains new same)

  one_hung : (b : Bool) (root : Parts) (s next : Server) → b ≡ true → same_path path root ≡ true → cond b (with_domain_of root s (names_of s.roots root)) (Some s) ≡ Some next → HasRoot next
  one_hung true root s next is same e = hung_new (names_of s.roots root) root s next same e
  one_hung false root s next is same e = absurd (cc)

  module _ (serves : List Parts) where
    each_hung : (rest : List Parts) (s next : Server) → ((other : Parts) → begins_domain rest other ≡ true → begins_domain serves other ≡ true) → begins_domain rest path ≡ true → hangs_all (length path) rest s ≡ Some next → HasRoot next
    each_hung [] s next inside there e = absurd (cc)
    each_hung (root ∷ rest) s next inside there e =
        let got = then_some (hangs_one (length path) root s) (λ (mid : Server). hangs_all (length path) rest mid) next e in
        let later = λ (other : Parts) (k : begins_domain rest other ≡ true). inside other (ap (λ b. same_path other root || b) k ∙ or-true (same_path other root)) in
        by got.0 got.1 got.2 (λ k. each_hung rest got.0 next later k got.2) (λ h. hung_each serves HasRoot (keeps_root serves) rest (length path) got.0 next later got.2 h) (same_path path root) refl there
      where
        by : (mid : Server) → hangs_one (length path) root s ≡ Some mid → hangs_all (length path) rest mid ≡ Some next → (begins_domain rest path ≡ true → HasRoot next) → (HasRoot mid → HasRoot next) → (b : Bool) → same_path path root ≡ b → (b || begins_domain rest path) ≡ true → HasRoot next
        by mid one all later keep true same e =
            keep (one_hung (length root == length path) root s mid (ap (λ (p : Parts). length p == length path) (sym ((parts_decide path root).0 same)) ∙ eq_same (length path)) same one)
        by mid one all later keep false off e = later e

    all_hung_so : (done : ℕ) (s next : Server) → done ≤ 17 → begins_domain serves path ≡ true → length path ≤ 16 → 17 ≤ length path + done → all_hung serves done s ≡ Some next → HasRoot next
    all_hung_so zero s next few there short long e = absurd (omega (arith, short, long))
    all_hung_so (suc done) s next few there short long e =
        let got = then_some (all_hung serves done s) (λ (mid : Server). hangs_all (16 - done) serves mid) next e in
        by got.0 got.2 (λ k. all_hung_so done s got.0 (omega (arith, few)) there short k got.1) (length path == 16 - done) refl
      where
        by : (mid : Server) → hangs_all (16 - done) serves mid ≡ Some next → (17 ≤ length path + done → HasRoot mid) → (b : Bool) → (length path == 16 - done) ≡ b → HasRoot next
        by mid all earlier true same = each_hung serves mid next (λ other k. k) there (subst (λ n. hangs_all n serves mid ≡ Some next) (sym (eqb-true (length path) (16 - done) same)) all)
        by mid all earlier false off = hung_each serves HasRoot (keeps_root serves) serves (16 - done) mid next (λ other k. k) all (earlier (longer off))
          where
            longer : (length path == 16 - done) ≡ false → 17 ≤ length path + done
            longer off = (let apart = eqb-false (length path) (16 - done) off in omega (arith, few, short, long, apart))

-- ---- as the cluster begins

pub served_begin : (c : Description) (kernel : ℕ) (s : Server) (path : Parts) → Lawful c → boots c kernel ≡ Some s → begins_domain (serves_of c.kernels kernel) path ≡ true → is_root path s ≡ true
served_begin c kernel s path lawful e there =
    let serves : List Parts = serves_of c.kernels kernel in
    let got = then_some (all_hung serves 17 (bare c kernel)) (λ (mid : Server). fills c.files mid) s e in
    let clean = and_parts (list_all is_clean (roots_of c.kernels)) _ lawful.domains in
    let short : length path ≤ 16 = roots_short (roots_of c.kernels) path clean.0 (within_roots c.kernels (kernel - 1) path there) in
    filled serves (HasRoot path) (keeps_root path serves) c.files got.0 s got.2 (all_hung_so path serves 17 (bare c kernel) got.0 (omega arith) there short (omega (arith, short)) got.1)
