-- As a server begins: each of its domains has the names of its opening.
use Rattle.std.proofs.Common.{◌≡◌, ◌+◌, ◌-◌, ◌<◌, ◌≤◌, ◌==◌, ◌⊎◌, ℕ, zero, suc, Bool, true, false, ◌&&◌, ◌||◌, not, cond, List, [], ◌∷◌, ◌++◌, length, slice_get, Option, Some, None, Result, Ok, Err, inl, inr, refl, sym, ap, ap₂, subst, ◌∙◌, arith, append-nil}
use Rattle.std.specs.List.{AllByRecursion, list_all, list_any}
use Rattle.std.proofs.lemmas.Bool.{true≢false, and_parts}
use mathlib.Core.Bool.{or-true}
use Rattle.sprite_ids.proofs.ListLaws.{each_get, some_is}
use Rattle.sprite_paths.specs.Path.{IsPrefix}
use Rattle.unix_calls.specs.declared.Description.{Description}
use Rattle.unix_calls.specs.declared.KernelLine.{KernelLine}
use Rattle.unix_calls.specs.declared.state.FileName.TheVariants.{Boot}
use Rattle.unix_calls.specs.Domains.{begins_domain, roots_of}
use Rattle.unix_calls.specs.Lawful.{Lawful, each_once, is_clean}
use Rattle.unix_calls.specs.Tree.{same_path}
use Rattle.server_names.specs.declared.NameEnd.{NameEnd}
use Rattle.server_names.specs.declared.Node.TheVariants.{Dir}
use Rattle.server_names.specs.declared.Entry.TheVariants.{Node as Named}
use Rattle.server_names.specs.Names.{Tree, booted, hung_all}
use Rattle.server_names.specs.Names as names
use Rattle.server_names.proofs.FoundLaws.{path_is}
use Rattle.server_kernel.specs.declared.Domain.{Domain}
use Rattle.server_kernel.specs.declared.Server.{Server}
use Rattle.server_kernel.specs.Boot.{all_hung, and_then, bare, fills, linked_names, links_of, names_from, serves_in, serves_of}
use Rattle.tree_laws.specs.Trees.{Parts, Ties}
use Rattle.flat_tree.specs.Opening.{lies_in, linked, opening, rooted, with_files}
use Rattle.flat_tree.specs.Requests.{Trees}
use Rattle.flat_tree.proofs.FileLaws.{opened_as_one}
use Rattle.flat_tree.proofs.StartLaws.{one_of}
use Rattle.flat_tree.proofs.LookLaws.{same_ok}
use Rattle.name_laws.specs.Boots.{AreTied, BeginsSo, ClusterBegins, ClusterOpens, ServersBegin, ServersOpen}
use Rattle.name_laws.specs.Served.{AreKept}
use Rattle.name_laws.proofs.FillLaws.{AreOrdered, file_of, fills_all, none_some}
use Rattle.name_laws.proofs.HangLaws.{hangs_lengths}
use Rattle.name_laws.proofs.HeldLaws.{Has, few_parts_of, has_all, has_lengths}

-- ---- a kernel's own domains are the cluster's

pub any_front : (k : Parts) (xs ys : List Parts) → begins_domain xs k ≡ true → begins_domain (xs ++ ys) k ≡ true
any_front k [] ys h = absurd (true≢false (sym h))
any_front k (x ∷ xs) ys h = by (same_path k x) h (λ later. any_front k xs ys later)
  where
    by : (b : Bool) → (b || begins_domain xs k) ≡ true → (begins_domain xs k ≡ true → begins_domain (xs ++ ys) k ≡ true) → (b || begins_domain (xs ++ ys) k) ≡ true
    by true h go = refl
    by false h go = go h

pub any_back : (k : Parts) (xs ys : List Parts) → begins_domain ys k ≡ true → begins_domain (xs ++ ys) k ≡ true
any_back k [] ys h = h
any_back k (x ∷ xs) ys h = ap (λ b. same_path k x || b) (any_back k xs ys h) ∙ or-true (same_path k x)

once_front : (xs ys : List Parts) → each_once same_path (xs ++ ys) ≡ true → each_once same_path xs ≡ true
once_front [] ys h = refl
once_front (x ∷ xs) ys h =
    let both = and_parts (not (begins_domain (xs ++ ys) x)) (each_once same_path (xs ++ ys)) h in
    ap₂ (λ a b. a && b) (by (begins_domain xs x) refl both.0) (once_front xs ys both.1)
  where
    by : (b : Bool) → begins_domain xs x ≡ b → not (begins_domain (xs ++ ys) x) ≡ true → not b ≡ true
    by true is off = absurd (true≢false (sym off ∙ ap (λ c. not c) (any_front x xs ys is)))
    by false is off = refl

pub once_back : (xs ys : List Parts) → each_once same_path (xs ++ ys) ≡ true → each_once same_path ys ≡ true
once_back [] ys h = h
once_back (x ∷ xs) ys h = once_back xs ys (and_parts (not (begins_domain (xs ++ ys) x)) (each_once same_path (xs ++ ys)) h).1

pub within_all : (lines : List KernelLine) (i : ℕ) (root : Parts) → begins_domain (serves_in (slice_get lines i)) root ≡ true → begins_domain (roots_of lines) root ≡ true
within_all [] i root h = absurd (true≢false (sym h))
within_all (line ∷ lines) zero root h = any_front root line.serves (roots_of lines) h
within_all (line ∷ lines) (suc i) root h = any_back root line.serves (roots_of lines) (within_all lines i root h)

once_of : (lines : List KernelLine) (i : ℕ) → each_once same_path (roots_of lines) ≡ true → each_once same_path (serves_in (slice_get lines i)) ≡ true
once_of [] i h = refl
once_of (line ∷ lines) zero h = once_front line.serves (roots_of lines) h
once_of (line ∷ lines) (suc i) h = once_of lines i (once_back line.serves (roots_of lines) h)

-- ---- the names that a domain begins with

from_cond : (b : Bool) (x y : Result Tree NameEnd) → names_from (cond b x y) ≡ cond b (names_from x) (names_from y)
from_cond true x y = refl
from_cond false x y = refl

linked_from : (root : Parts) (links : List Parts) → linked_names root links ≡ names_from (linked root links)
linked_from root links =
    sym (
    from_cond (length links == 0) (rooted root) (hung_all [] links)
    ∙ ap (λ o. cond (length links == 0) o (names_from (hung_all [] links))) (from_cond (length root == 0) (Ok []) (booted [] root (Named Dir)))
    )

from_ok : (r : Result Tree NameEnd) (tree : Tree) → names_from r ≡ Some tree → r ≡ Ok tree
from_ok (Ok found) tree h = ap (λ t. Ok t) (some_is found tree h)
from_ok (Err end) tree h = absurd (none_some None tree refl h)

-- ---- as the server begins

record Begun (ties : Ties) (c : Description) (kernel : ℕ) (s : Server) : Type 0 where
  roots : s.roots ≡ roots_of c.kernels
  ordered : AreOrdered s.domains
  each : (i : ℕ) (d : Domain) → slice_get s.domains i ≡ Some d → BeginsSo ties c kernel d

begun : (ties : Ties) (c : Description) (kernel : ℕ) (s : Server) → Lawful c → AreTied ties c kernel → and_then (all_hung (serves_of c.kernels kernel) 17 (bare c kernel)) (λ hung. fills c.files hung) ≡ Some s → Begun ties c kernel s
begun ties c kernel s lawful tied h = by (all_hung (serves_of c.kernels kernel) 17 (bare c kernel)) refl h
  where
    serves : List Parts
    serves = serves_of c.kernels kernel

    once : each_once same_path (roots_of c.kernels) ≡ true
    once = (and_parts (list_all is_clean (roots_of c.kernels)) (each_once same_path (roots_of c.kernels)) lawful.domains).1

    by : (o : Option Server) → all_hung serves 17 (bare c kernel) ≡ o → and_then o (λ hung. fills c.files hung) ≡ Some s → Begun ties c kernel s
    by None is h = absurd (none_some None s refl h)
    by (Some mid) is h =
        let hung = hangs_lengths serves 17 (bare c kernel) mid refl (once_of c.kernels (kernel - 1) once) (omega arith) is in
        let roots : mid.roots ≡ roots_of c.kernels = hung.beside.roots in
        let all = fills_all ties serves kernel 0 c.files mid s
        (
        record {
          ordered = hung.ordered;
          mine = hung.mine;
          within = λ root is. ap (λ (rs : List Parts). begins_domain rs root) roots ∙ within_all c.kernels (kernel - 1) root is;
        }
        )
        hung.beside.kernel hung.beside.number
        (λ i line root got makes begins lies.
        let same : i ≡ 0 + i = omega arith in
        subst (λ n. ties.file (Boot n) ≡ file_of kernel (n + 1)) same (tied i line root got makes begins (ap (λ (rs : List Parts). lies_in rs root line.path) (sym roots) ∙ lies)))
        h in
        record {
          roots = all.roots ∙ roots;
          ordered = λ i j d e less first second pre.
              let a = all.came i d first in
              let b = all.came j e second in
              hung.ordered i j a.domain b.domain less a.got b.got (subst (λ (k : Parts). IsPrefix k b.domain.root) a.root (subst (λ (k : Parts). IsPrefix d.root k) b.root pre));
          each = λ i d got.
              let a = all.came i d got in
              let begins : linked a.domain.root (links_of mid.roots a.domain.root) ≡ Ok a.domain.names =
              from_ok (linked a.domain.root (links_of mid.roots a.domain.root)) a.domain.names (sym (linked_from a.domain.root (links_of mid.roots a.domain.root)) ∙ hung.names i a.domain a.got) in (
                subst (λ (k : Parts). begins_domain serves k ≡ true) (sym a.root) (hung.mine i a.domain a.got),
                ap₂ (λ (rs : List Parts) (k : Parts). names.and_then (linked k (links_of rs k)) (λ tree. with_files ties rs k 0 c.files tree)) (sym roots) a.root
                    ∙ ap (λ r. names.and_then r (λ tree. with_files ties mid.roots a.domain.root 0 c.files tree)) begins
                    ∙ a.tree,
              );
        }

each_of : (P : Domain → Type 0) (ds : List Domain) → ((i : ℕ) (d : Domain) → slice_get ds i ≡ Some d → P d) → AllByRecursion P ds
each_of P [] h = tt
each_of P (d ∷ ds) h = (h 0 d refl, each_of P ds (λ i e got. h (suc i) e got))

pub servers_open : ServersOpen
servers_open ties c kernel s lawful tied is = each_of (BeginsSo ties c kernel) s.domains (begun ties c kernel s lawful tied is).each

-- ---- the server has the names of the one-kernel Unix

-- where no earlier domain has a later one's root, each root is there once
first_once : (d : Domain) (ds : List Domain) → ((i : ℕ) (e : Domain) → slice_get ds i ≡ Some e → IsPrefix d.root e.root → ⊥) → list_any (λ (other : Domain). same_path d.root other.root) ds ≡ false
first_once d [] h = refl
first_once d (e ∷ ds) h = by (same_path d.root e.root) refl (first_once d ds (λ i x got. h (suc i) x got))
  where
    by : (b : Bool) → same_path d.root e.root ≡ b → list_any (λ (other : Domain). same_path d.root other.root) ds ≡ false → (b || list_any (λ (other : Domain). same_path d.root other.root) ds) ≡ false
    by true same rest = absurd (h 0 e refl (subst (λ (k : Parts). IsPrefix d.root k) (path_is d.root e.root same) (record { rest = []; whole = sym (append-nil d.root) })))
    by false off rest = rest

kept_of : (roots : List Parts) (trees : Trees) (ds : List Domain) → AreOrdered ds → ((i : ℕ) (d : Domain) → slice_get ds i ≡ Some d → (begins_domain roots d.root ≡ true) × (d.names ≡ trees d.root)) → AreKept roots trees ds
kept_of roots trees [] ordered each = tt
kept_of roots trees (d ∷ ds) ordered each = (
  (each 0 d refl).0,
  (
    (each 0 d refl).1,
    (
      first_once d ds (λ i e got. ordered 0 (suc i) d e (omega arith) refl got),
      kept_of roots trees ds (λ i j a b less first second. ordered (suc i) (suc j) a b (up i j less) first second) (λ i e got. each (suc i) e got),
    ),
  ),
)
  where
    up : (i j : ℕ) → i < j → suc i < suc j
    up i j less = omega (arith, less)

pub servers_begin : ServersBegin
servers_begin ties c trees kernel s lawful tied opened is =
    let b = begun ties c kernel s lawful tied is in
    record {
      one = opened_as_one ties c trees lawful.the_root opened;
      roots = b.roots;
      kept = kept_of (roots_of c.kernels) trees s.domains b.ordered
          (λ i d got.
          let one = b.each i d got in
          let begins = within_all c.kernels (kernel - 1) d.root one.0 in
          (begins, same_ok d.names (trees d.root) (sym one.1 ∙ opened d.root begins)));
    }

-- ---- all servers

any_either : (k : Parts) (xs ys : List Parts) → begins_domain (xs ++ ys) k ≡ true → (begins_domain xs k ≡ true) ⊎ (begins_domain ys k ≡ true)
any_either k [] ys h = inr h
any_either k (x ∷ xs) ys h = by (same_path k x) h (λ later. any_either k xs ys later)
  where
    by : (b : Bool) → (b || begins_domain (xs ++ ys) k) ≡ true → (begins_domain (xs ++ ys) k ≡ true → (begins_domain xs k ≡ true) ⊎ (begins_domain ys k ≡ true)) → ((b || begins_domain xs k) ≡ true) ⊎ (begins_domain ys k ≡ true)
    by true h go = inl refl
    by false h go = go h

record IsServed (lines : List KernelLine) (root : Parts) : Type 0 where
  place : ℕ
  serves : begins_domain (serves_in (slice_get lines place)) root ≡ true

is_served : (lines : List KernelLine) (root : Parts) → begins_domain (roots_of lines) root ≡ true → IsServed lines root
is_served [] root h = absurd (true≢false (sym h))
is_served (line ∷ lines) root h = by (any_either root line.serves (roots_of lines) h) (λ later. is_served lines root later)
  where
    by : (begins_domain line.serves root ≡ true) ⊎ (begins_domain (roots_of lines) root ≡ true) → (begins_domain (roots_of lines) root ≡ true → IsServed lines root) → IsServed (line ∷ lines) root
    by (inl here) go = record { place = 0; serves = here }
    by (inr later) go = let rest = go later in record { place = suc rest.place; serves = rest.serves }

-- the server has each domain of its kernel
has_domain : (c : Description) (kernel : ℕ) (s : Server) (root : Parts) → Lawful c → begins_domain (serves_of c.kernels kernel) root ≡ true → and_then (all_hung (serves_of c.kernels kernel) 17 (bare c kernel)) (λ hung. fills c.files hung) ≡ Some s → Has root s.domains
has_domain c kernel s root lawful begins h = by (all_hung (serves_of c.kernels kernel) 17 (bare c kernel)) refl h
  where
    few : length root ≤ 16
    few =
        few_parts_of root
        (one_of is_clean (roots_of c.kernels) root (and_parts (list_all is_clean (roots_of c.kernels)) (each_once same_path (roots_of c.kernels)) lawful.domains).0 (within_all c.kernels (kernel - 1) root begins))

    many : 17 ≤ length root + 17
    many = omega arith

    by : (o : Option Server) → all_hung (serves_of c.kernels kernel) 17 (bare c kernel) ≡ o → and_then o (λ hung. fills c.files hung) ≡ Some s → Has root s.domains
    by None is h = absurd (none_some None s refl h)
    by (Some mid) is h = has_all root c.files mid s (has_lengths root (serves_of c.kernels kernel) 17 (bare c kernel) mid begins few many is) h

pub cluster_opens : ClusterOpens
cluster_opens ties c trees lawful begun_so root begins = at (is_served c.kernels root begins)
  where
    of_kernel : (kernel : ℕ) → 1 ≤ kernel → begins_domain (serves_of c.kernels kernel) root ≡ true → opening ties c root ≡ Ok (trees root)
    of_kernel kernel first mine =
        let b = begun_so.servers kernel root first mine in
        let h = has_domain c kernel b.server root lawful mine b.begins in
        let one = (begun ties c kernel b.server lawful (begun_so.tied kernel first) b.begins).each h.at h.domain h.got in
        let names_is : h.domain.names ≡ trees h.domain.root = each_get (λ (d : Domain). d.names ≡ trees d.root) b.server.domains h.at h.domain b.names_are h.got in
        subst (λ (k : Parts). opening ties c k ≡ Ok (trees k)) h.root_is (one.1 ∙ ap (λ t. Ok t) names_is)

    at : IsServed c.kernels root → opening ties c root ≡ Ok (trees root)
    at served =
        let same : served.place ≡ served.place + 1 - 1 = omega arith in
        of_kernel (served.place + 1) (omega arith) (subst (λ n. begins_domain (serves_in (slice_get c.kernels n)) root ≡ true) same served.serves)

pub cluster_begins : ClusterBegins
cluster_begins ties c trees kernel s lawful begun_so first is = servers_begin ties c trees kernel s lawful (begun_so.tied kernel first) (cluster_opens ties c trees lawful begun_so) is
