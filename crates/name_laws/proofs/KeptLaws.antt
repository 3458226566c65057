-- The domains of a server, one by one.
use Rattle.std.proofs.Common.{◌≡◌, ℕ, zero, suc, Bool, true, false, ◌||◌, cond, List, [], ◌∷◌, slice_get, slice_set, get_or, Option, Some, None, inl, inr, refl, sym, ap, subst, ◌∙◌}
use Rattle.std.specs.List.{list_any, position}
use Rattle.std.specs.Option.{is_some}
use Rattle.std.proofs.lemmas.Bool.{cases_Bool, true≢false}
use Rattle.std.proofs.lemmas.List.Quantifiers.{position-Some}
use Rattle.sprite_ids.proofs.ListLaws.{some_is}
use Rattle.sprite_paths.specs.Path.{IsPrefix}
use Rattle.unix_calls.specs.Domains.{begins_domain}
use Rattle.unix_calls.specs.Tree.{same_path}
use Rattle.server_names.specs.Names.{Tree}
use Rattle.server_names.proofs.FoundLaws.{path_is, path_itself}
use Rattle.server_kernel.specs.declared.Domain.{Domain}
use Rattle.server_kernel.specs.declared.Server.{Server}
use Rattle.server_kernel.specs.Directory.{at_place, change_at, domain_at, has_path, with_change, with_domain}
use Rattle.tree_laws.specs.Trees.{Parts}
use Rattle.flat_tree.specs.Requests.{Trees, with_tree}
use Rattle.flat_tree.proofs.ApartLaws.{prefix_is}
use Rattle.name_laws.specs.Served.{AreKept}

-- the server's domain of a path
pub record Here (roots : List Parts) (trees : Trees) (path : Parts) (s : Server) : Type 0 where
  pub at : ℕ
  pub domain : Domain
  pub place : position (has_path path) s.domains ≡ Some at
  pub got : slice_get s.domains at ≡ Some domain
  pub begins : begins_domain roots domain.root ≡ true
  pub names : domain.names ≡ trees domain.root
  pub prefix : IsPrefix domain.root path

got_is : (xs : List Domain) (i : ℕ) (x : Domain) → slice_get xs i ≡ Some x → get_or xs i x ≡ x
got_is [] i x h = absurd (cc)
got_is (y ∷ ys) zero x h = some_is y x h
got_is (y ∷ ys) (suc i) x h = got_is ys i x h

pub record KeptOne (roots : List Parts) (trees : Trees) (domain : Domain) : Type 0 where
  pub begins : begins_domain roots domain.root ≡ true
  pub names : domain.names ≡ trees domain.root

kept_at : (roots : List Parts) (trees : Trees) (domains : List Domain) (i : ℕ) (domain : Domain) → AreKept roots trees domains → slice_get domains i ≡ Some domain → KeptOne roots trees domain
kept_at roots trees [] i domain kept h = absurd (cc)
kept_at roots trees (d ∷ ds) zero domain kept h = subst (KeptOne roots trees) (some_is d domain h) (record { begins = kept.0; names = kept.1.0 })
kept_at roots trees (d ∷ ds) (suc i) domain kept h = kept_at roots trees ds i domain kept.1.1.1 h

here_by : (roots : List Parts) (trees : Trees) (path : Parts) (s : Server) (o : Option ℕ) → position (has_path path) s.domains ≡ o → AreKept roots trees s.domains → is_some (at_place s.domains o) ≡ true → Here roots trees path s
here_by roots trees path s None e kept some = absurd (true≢false (sym some))
here_by roots trees path s (Some at) e kept some = by (slice_get s.domains at) refl some
  where
    by : (o : Option Domain) → slice_get s.domains at ≡ o → is_some o ≡ true → Here roots trees path s
    by None got some = absurd (true≢false (sym some))
    by (Some domain) got some =
        let one = kept_at roots trees s.domains at domain kept got in
        let is = (position-Some (has_path path) s.domains at domain e).1 in
        record {
          at = at;
          domain = domain;
          place = e;
          got = got;
          begins = one.begins;
          names = one.names;
          prefix = prefix_is domain.root path (ap (has_path path) (sym (got_is s.domains at domain got)) ∙ is);
        }

pub here : (roots : List Parts) (trees : Trees) (path : Parts) (s : Server) → AreKept roots trees s.domains → is_some (domain_at path s) ≡ true → Here roots trees path s
here roots trees path s kept some = here_by roots trees path s (position (has_path path) s.domains) refl kept some

pub domain_is : (roots : List Parts) (trees : Trees) (path : Parts) (s : Server) (h : Here roots trees path s) → domain_at path s ≡ Some h.domain
domain_is roots trees path s h = ap (at_place s.domains) h.place ∙ h.got

-- ---- other names in one of them

kept_others : (roots : List Parts) (root : Parts) (tree : Tree) (trees : Trees) (domains : List Domain) → list_any (λ (other : Domain). same_path root other.root) domains ≡ false → AreKept roots trees domains → AreKept roots (with_tree root tree trees) domains
kept_others roots root tree trees [] off kept = tt
kept_others roots root tree trees (d ∷ ds) off kept = by (same_path root d.root) refl off (λ later. kept_others roots root tree trees ds later kept.1.1.1)
  where
    turned : same_path root d.root ≡ false → same_path d.root root ≡ false
    turned h =
        elim (cases_Bool (same_path d.root root)) [
          | inl same ↦ absurd (true≢false (sym (subst (λ (k : Parts). same_path root k ≡ true) (sym (path_is d.root root same)) (path_itself root)) ∙ h))
          | inr off ↦ off
        ]

    by : (b : Bool) → same_path root d.root ≡ b → (b || list_any (λ (other : Domain). same_path root other.root) ds) ≡ false → (list_any (λ (other : Domain). same_path root other.root) ds ≡ false → AreKept roots (with_tree root tree trees) ds) → AreKept roots (with_tree root tree trees) (d ∷ ds)
    by true same h rest = absurd (true≢false h)
    by false apart h rest = (kept.0, (kept.1.0 ∙ sym (ap (λ b. cond b tree (trees d.root)) (turned apart)), (kept.1.1.0, rest h)))

-- a later domain isn't an earlier one
pub later_apart : (root : Parts) (domains : List Domain) (i : ℕ) (domain : Domain) → list_any (λ (other : Domain). same_path root other.root) domains ≡ false → slice_get domains i ≡ Some domain → same_path root domain.root ≡ false
later_apart root [] i domain off got = absurd (cc)
later_apart root (d ∷ ds) zero domain off got = by (same_path root d.root) refl off
  where
    by : (b : Bool) → same_path root d.root ≡ b → (b || list_any (λ (other : Domain). same_path root other.root) ds) ≡ false → same_path root domain.root ≡ false
    by true e h = absurd (true≢false h)
    by false e h = ap (λ (x : Domain). same_path root x.root) (sym (some_is d domain got)) ∙ e
later_apart root (d ∷ ds) (suc i) domain off got = by (same_path root d.root) off (λ rest. later_apart root ds i domain rest got)
  where
    by : (b : Bool) → (b || list_any (λ (other : Domain). same_path root other.root) ds) ≡ false → (list_any (λ (other : Domain). same_path root other.root) ds ≡ false → same_path root domain.root ≡ false) → same_path root domain.root ≡ false
    by true h rest = absurd (true≢false h)
    by false h rest = rest h

-- the roots are as they were
same_roots : (root : Parts) (domains : List Domain) (i : ℕ) (domain new : Domain) → slice_get domains i ≡ Some domain → new.root ≡ domain.root → list_any (λ (other : Domain). same_path root other.root) (slice_set domains i new) ≡ list_any (λ (other : Domain). same_path root other.root) domains
same_roots root [] i domain new got e = absurd (cc)
same_roots root (d ∷ ds) zero domain new got e = ap (λ (k : Parts). same_path root k || list_any (λ (other : Domain). same_path root other.root) ds) (e ∙ ap (λ (x : Domain). x.root) (sym (some_is d domain got)))
same_roots root (d ∷ ds) (suc i) domain new got e = ap (λ b. same_path root d.root || b) (same_roots root ds i domain new got e)

pub kept_set : (roots : List Parts) (trees : Trees) (tree : Tree) (domains : List Domain) (i : ℕ) (domain new : Domain) → slice_get domains i ≡ Some domain → new.root ≡ domain.root → new.names ≡ tree → AreKept roots trees domains
    → AreKept roots (with_tree domain.root tree trees) (slice_set domains i new)
kept_set roots trees tree [] i domain new got e is kept = absurd (cc)
kept_set roots trees tree (d ∷ ds) zero domain new got e is kept =
    let same : d ≡ domain = some_is d domain got in
    let root : d.root ≡ new.root = ap (λ (x : Domain). x.root) same ∙ sym e in
    let off : list_any (λ (other : Domain). same_path new.root other.root) ds ≡ false = subst (λ (k : Parts). list_any (λ (other : Domain). same_path k other.root) ds ≡ false) root kept.1.1.0 in (
      subst (λ (k : Parts). begins_domain roots k ≡ true) root kept.0,
      (
        is ∙ sym (ap (λ (k : Parts). cond (same_path k domain.root) tree (trees k)) e ∙ ap (λ b. cond b tree (trees domain.root)) (path_itself domain.root)),
        (off, kept_others roots domain.root tree trees ds (subst (λ (k : Parts). list_any (λ (other : Domain). same_path k other.root) ds ≡ false) (ap (λ (x : Domain). x.root) same) kept.1.1.0) kept.1.1.1),
      ),
    )
kept_set roots trees tree (d ∷ ds) (suc i) domain new got e is kept =
    let apart = later_apart d.root ds i domain kept.1.1.0 got in (
      kept.0,
      (
        kept.1.0 ∙ sym (ap (λ b. cond b tree (trees d.root)) apart),
        (same_roots d.root ds i domain new got e ∙ kept.1.1.0, kept_set roots trees tree ds i domain new got e is kept.1.1.1),
      ),
    )

-- the domains behind a change of that of a path
pub domains_changed : (roots : List Parts) (trees : Trees) (path : Parts) (s : Server) (h : Here roots trees path s) (change : Domain → Domain) → (with_domain path change s).domains ≡ slice_set s.domains h.at (change h.domain)
domains_changed roots trees path s h change =
    ap (λ o. (with_change change o s).domains) h.place ∙ ap (λ o. change_at h.at change o s.domains) h.got

-- all else of the server is as it was
pub record Beside (s next : Server) : Type 0 where
  pub roots : next.roots ≡ s.roots
  pub out : next.out ≡ s.out

pub beside_changed : (path : Parts) (s : Server) (change : Domain → Domain) → Beside s (with_domain path change s)
beside_changed path s change = by (position (has_path path) s.domains)
  where
    by : (o : Option ℕ) → Beside s (with_change change o s)
    by None = record { roots = refl; out = refl }
    by (Some at) = record { roots = refl; out = refl }

-- a domain that is kept as it is
pub kept_same : (roots : List Parts) (trees : Trees) (path : Parts) (s : Server) (h : Here roots trees path s) → AreKept roots trees s.domains → AreKept roots (with_tree h.domain.root (trees h.domain.root) trees) s.domains
kept_same roots trees path s h kept = all s.domains kept
  where
    same : (k : Parts) → trees k ≡ with_tree h.domain.root (trees h.domain.root) trees k
    same k = at (same_path k h.domain.root) refl
      where
        at : (b : Bool) → same_path k h.domain.root ≡ b → trees k ≡ cond b (trees h.domain.root) (trees k)
        at true e = ap trees (path_is k h.domain.root e)
        at false e = refl

    all : (ds : List Domain) → AreKept roots trees ds → AreKept roots (with_tree h.domain.root (trees h.domain.root) trees) ds
    all [] kept = tt
    all (d ∷ ds) kept = (kept.0, (kept.1.0 ∙ same d.root, (kept.1.1.0, all ds kept.1.1.1)))
