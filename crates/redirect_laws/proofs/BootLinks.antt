-- Where other domains hang in those of a server as it begins.
use Rattle.std.proofs.Common.{◌≡◌, ℕ, ◌==◌, Bool, true, false, ◌||◌, cond, List, [], ◌∷◌, ◌++◌, length, Option, Some, Result, Ok, Err, refl, ap, subst, ◌∙◌}
use Rattle.std.specs.List.{AllByRecursion, filter}
use mathlib.Core.Bool.{or-true}
use Rattle.sprite_ids.specs.declared.Errno.TheVariants as errnos
use Rattle.sprite_ids.proofs.ListLaws.{each_push}
use Rattle.unix_calls.specs.declared.Description.{Description}
use Rattle.unix_calls.specs.Domains.{begins_domain, roots_of}
use Rattle.unix_calls.specs.Tree.{same_path}
use Rattle.server_names.specs.declared.Entry.{Entry}
use Rattle.server_names.specs.declared.Entry.TheVariants as entries
use Rattle.server_names.specs.declared.NameEnd.{NameEnd}
use Rattle.server_names.specs.declared.NameEnd.TheVariants as name_ends
use Rattle.server_names.specs.declared.Node.{Node}
use Rattle.server_names.specs.declared.Node.TheVariants as nodes
use Rattle.server_names.specs.Names as names
use Rattle.server_names.specs.Names.{Tree}
use Rattle.server_names.proofs.FoundLaws.{path_itself}
use Rattle.server_kernel.specs.declared.Domain.{Domain}
use Rattle.server_kernel.specs.declared.Server.{Server}
use Rattle.server_kernel.specs.Boot as booting
use Rattle.server_kernel.specs.Opens.{new_file}
use Rattle.server_walks.proofs.BootWalk.{KeepsBoot, server_begins}
use Rattle.redirect_laws.specs.Links.{AreLinks, IsLink, LinksIn, Parts, ServersBeginLinked}
use Rattle.redirect_laws.proofs.TreeLinks.{IfThere, put_links}
use Rattle.redirect_laws.proofs.DomainLinks.{got_links, set_links}

kept_filtered : {X : Type 0} (test : X → Bool) (P : X → Type 0) (xs : List X) → AllByRecursion P xs → AllByRecursion P (filter test xs)
kept_filtered test P [] h = tt
kept_filtered test P (x ∷ xs) h = elim (test x) as (λ b. AllByRecursion P (cond b (x ∷ filter test xs) (filter test xs))) [ true ↦ (h.0, kept_filtered test P xs h.1) | false ↦ kept_filtered test P xs h.1 ]

module _ (leads : Parts → Bool) (all : List Parts) where
  -- ---- names that were made, where they could be

  abbrev TreeLinks : Result Tree NameEnd → Type 0
  TreeLinks (Ok tree) = AreLinks leads tree
  TreeLinks (Err end) = Unit {0}

  goes_links : (r : Result (Unit {0}) NameEnd) (next : Result Tree NameEnd) → TreeLinks next → TreeLinks (names.goes_on r next)
  goes_links (Ok done) next h = h
  goes_links (Err end) next h = tt

  entry_links : (tree : Tree) (path : Parts) (entry : Entry) → IsLink leads entry → AreLinks leads tree → TreeLinks (names.entry_made tree path entry)
  entry_links tree path entry is h = goes_links (names.make_answer tree path) (Ok (names.put tree path entry)) (put_links leads tree path entry is h)

  way_links : (r : Result Tree NameEnd) (tree : Tree) → AreLinks leads tree → TreeLinks r → TreeLinks (names.on_way tree r)
  way_links (Ok next) tree h k = k
  way_links (Err name_ends.NoMemory) tree h k = tt
  way_links (Err (name_ends.Redirect path)) tree h k = tt
  way_links (Err (name_ends.Errno errnos.NoEntry)) tree h k = tt
  way_links (Err (name_ends.Errno errnos.Exists)) tree h k = h
  way_links (Err (name_ends.Errno errnos.NotDir)) tree h k = tt
  way_links (Err (name_ends.Errno errnos.IsDir)) tree h k = tt
  way_links (Err (name_ends.Errno errnos.NotEmpty)) tree h k = tt
  way_links (Err (name_ends.Errno errnos.BadFd)) tree h k = tt
  way_links (Err (name_ends.Errno errnos.BadMode)) tree h k = tt
  way_links (Err (name_ends.Errno errnos.TooBig)) tree h k = tt
  way_links (Err (name_ends.Errno errnos.TooMany)) tree h k = tt
  way_links (Err (name_ends.Errno errnos.Invalid)) tree h k = tt
  way_links (Err (name_ends.Errno errnos.XDev)) tree h k = tt
  way_links (Err (name_ends.Errno errnos.Busy)) tree h k = tt
  way_links (Err (name_ends.Errno errnos.NoChild)) tree h k = tt
  way_links (Err (name_ends.Errno errnos.NoProcess)) tree h k = tt
  way_links (Err (name_ends.Errno errnos.Interrupted)) tree h k = tt
  way_links (Err (name_ends.Errno errnos.NoServer)) tree h k = tt
  way_links (Err (name_ends.Errno errnos.Unreachable)) tree h k = tt
  way_links (Err (name_ends.Errno errnos.BadHost)) tree h k = tt
  way_links (Err (name_ends.Errno errnos.BadName)) tree h k = tt
  way_links (Err (name_ends.Errno errnos.BadAddress)) tree h k = tt

  next_links : (r : Result Tree NameEnd) (next : Tree → Result Tree NameEnd) → TreeLinks r → ((tree : Tree) → AreLinks leads tree → TreeLinks (next tree)) → TreeLinks (names.and_then r next)
  next_links (Ok tree) next h k = k tree h
  next_links (Err end) next h k = tt

  ways_links : (rest : Parts) (tree : Tree) (here : Parts) → AreLinks leads tree → TreeLinks (names.with_way tree here rest)
  ways_links [] tree here h = h
  ways_links (part ∷ rest) tree here h =
      next_links (names.on_way tree (names.entry_made tree (here ++ part ∷ []) (entries.Node nodes.Dir))) (λ next. names.with_way next (here ++ part ∷ []) rest)
      (way_links (names.entry_made tree (here ++ part ∷ []) (entries.Node nodes.Dir)) tree h (entry_links tree (here ++ part ∷ []) (entries.Node nodes.Dir) tt h))
      (λ next k. ways_links rest next (here ++ part ∷ []) k)

  booted_links : (tree : Tree) (path : Parts) (entry : Entry) → IsLink leads entry → AreLinks leads tree → TreeLinks (names.booted tree path entry)
  booted_links tree path entry is h = next_links (names.with_way tree [] (names.parent path)) (λ next. names.entry_made next path entry) (ways_links (names.parent path) tree [] h) (λ next k. entry_links next path entry is k)

  -- are these all where other domains hang
  abbrev Lead : List Parts → Type 0
  Lead paths = AllByRecursion (λ (path : Parts). leads path ≡ true) paths

  hung_links : (links : List Parts) (tree : Tree) → Lead links → AreLinks leads tree → TreeLinks (names.hung_all tree links)
  hung_links [] tree are h = h
  hung_links (link ∷ links) tree are h = next_links (names.booted tree link (entries.Link link)) (λ next. names.hung_all next links) (booted_links tree link (entries.Link link) are.0 h) (λ next k. hung_links links next are.1 k)

  from_links : (r : Result Tree NameEnd) → TreeLinks r → IfThere (AreLinks leads) (booting.names_from r)
  from_links (Ok tree) h = h
  from_links (Err end) h = tt

  either_links : (b : Bool) (one other : Option Tree) → IfThere (AreLinks leads) one → IfThere (AreLinks leads) other → IfThere (AreLinks leads) (cond b one other)
  either_links true one other h k = h
  either_links false one other h k = k

  names_links : (roots : List Parts) (root : Parts) → Lead roots → IfThere (AreLinks leads) (booting.names_of roots root)
  names_links roots root are =
      let links : List Parts = booting.links_of roots root in
      either_links (length links == 0) (booting.bare_names root) (booting.names_from (names.hung_all [] links))
      (either_links (length root == 0) (Some []) (booting.names_from (names.booted [] root (entries.Node nodes.Dir))) tt (from_links (names.booted [] root (entries.Node nodes.Dir)) (booted_links [] root (entries.Node nodes.Dir) tt tt)))
      (from_links (names.hung_all [] links) (hung_links links [] (kept_filtered (booting.hangs_in roots root) (λ (path : Parts). leads path ≡ true) roots are) tt))

  -- ---- as the cluster begins

  abbrev Hung : Server → Type 0
  Hung s = (Lead s.roots × (s.roots ≡ all)) × LinksIn leads s.domains

  hanging : (serves : List Parts) → KeepsBoot serves Hung
  hanging serves = record {
    hangs = λ s root tree is e h. (h.0, each_push (λ (domain : Domain). AreLinks leads domain.names) s.domains (record { root = root; names = tree }) h.1 (subst (IfThere (AreLinks leads)) e (names_links s.roots root h.0.0)));
    makes = λ s at domain path tree there e h.
        let file : Entry = entries.Node (nodes.File (new_file s)) in
        let are : AreLinks leads domain.names = subst (IfThere (λ (domain : Domain). AreLinks leads domain.names)) there (got_links leads s.domains at h.1) in
        (h.0, set_links leads s.domains at (record domain { names = tree }) (subst TreeLinks e (booted_links domain.names path file tt are)) h.1);
    writes = λ s file bytes there h. h;
    passes = λ s h. h;
  }

  pub begun_hung : (c : Description) (kernel : ℕ) (s : Server) → Lead (booting.bare c kernel).roots → (booting.bare c kernel).roots ≡ all → booting.boots c kernel ≡ Some s → LinksIn leads s.domains × (s.roots ≡ all)
  begun_hung c kernel s are same e = let hung : Hung s = server_begins c kernel Hung (hanging (booting.serves_of c.kernels kernel)) s e ((are, same), tt) in (hung.1, hung.0.1)

-- ---- each of the paths begins a domain

lead_all : (rest roots : List Parts) → ((path : Parts) → begins_domain rest path ≡ true → begins_domain roots path ≡ true) → Lead (begins_domain roots) roots rest
lead_all [] roots inside = tt
lead_all (root ∷ rest) roots inside =
    (inside root (ap (λ b. b || begins_domain rest root) (path_itself root)), lead_all rest roots (λ path k. inside path (ap (λ b. same_path path root || b) k ∙ or-true (same_path path root))))

pub servers_begin_linked : ServersBeginLinked
servers_begin_linked c kernel s e = begun_hung (begins_domain (roots_of c.kernels)) (roots_of c.kernels) c kernel s (lead_all (roots_of c.kernels) (roots_of c.kernels) (λ path k. k)) refl e
