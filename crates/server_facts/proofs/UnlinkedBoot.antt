-- As the cluster begins each file has one name, and none is without.
use Rattle.std.proofs.Common.{◌≡◌, ◌≤◌, ℕ, ◌+◌, ◌==◌, Bool, true, false, cond, List, [], ◌∷◌, ◌++◌, length, Some, Result, Ok, Err, refl, sym, ap, subst, arith, ◌∙◌}
use Rattle.sprite_ids.specs.Lists.{one_if}
use Rattle.sprite_ids.specs.declared.FileId.{FileId}
use Rattle.sprite_ids.proofs.ListLaws.{some_is}
use Rattle.server_names.specs.declared.Entry.TheVariants as entries
use Rattle.server_names.specs.declared.NameEnd.{NameEnd}
use Rattle.server_names.specs.declared.Node.{Node}
use Rattle.server_names.specs.declared.Node.TheVariants as nodes
use Rattle.server_names.specs.Names as names
use Rattle.server_names.specs.Names.{Tree}
use Rattle.file_store.specs.Files.{Kept}
use Rattle.version_table.specs.Versions.{Files}
use Rattle.server_kernel.specs.declared.Domain.{Domain}
use Rattle.server_kernel.specs.declared.Server.{Server}
use Rattle.server_kernel.specs.Boot as booting
use Rattle.server_kernel.specs.Boot.{links_of, serves_of}
use Rattle.server_kernel.specs.Directory.{Parts}
use Rattle.server_kernel.specs.Opens.{new_file}
use Rattle.server_walks.proofs.BootWalk.{KeepsBoot, server_begins}
use Rattle.server_facts.specs.Steps.{BootHas}
use Rattle.server_facts.specs.Unlinked.{UnlinkedStand, in_domains, in_tree, is_name_of}
use Rattle.server_facts.proofs.BootLaws.{Seen, begun, nothing, seen}
use Rattle.server_facts.proofs.NameCounts.{booted_count, hung_count, put_domains}
use Rattle.server_facts.proofs.UnlinkedLaws.{Names, fewer_names, more_names, names_so, raised_names, written_names}

-- ---- domains begin without files

zero_sum : (a b : ℕ) → a ≡ 0 → b ≡ 0 → a + b ≡ 0
zero_sum a b e f = omega arith

from_ok : (r : Result Tree NameEnd) (tree : Tree) → booting.names_from r ≡ Some tree → r ≡ Ok tree
from_ok (Ok made) tree e = ap Ok (some_is made tree e)
from_ok (Err end) tree e = absurd (cc)

rooted_none : (b : Bool) (file : FileId) (root : Parts) (tree : Tree) → cond b (Some []) (booting.names_from (names.booted [] root (entries.Node nodes.Dir))) ≡ Some tree → in_tree file tree ≡ 0
rooted_none true file root tree e = ap (in_tree file) (sym (some_is [] tree e))
rooted_none false file root tree e = booted_count file [] tree root (entries.Node nodes.Dir) (from_ok (names.booted [] root (entries.Node nodes.Dir)) tree e) ∙ zero_sum 0 0 refl refl

linked_none : (b : Bool) (file : FileId) (root : Parts) (links : List Parts) (tree : Tree) → cond b (booting.bare_names root) (booting.names_from (names.hung_all [] links)) ≡ Some tree → in_tree file tree ≡ 0
linked_none true file root links tree e = rooted_none (length root == 0) file root tree e
linked_none false file root links tree e = hung_count links file [] tree (from_ok (names.hung_all [] links) tree e)

-- a domain without files
push_names : (file : FileId) (domains : List Domain) (domain : Domain) → in_tree file domain.names ≡ 0 → in_domains file (domains ++ domain ∷ []) ≤ in_domains file domains + 0
push_names file [] domain none = last_none (in_tree file domain.names) none
  where
    last_none : (a : ℕ) → a ≡ 0 → a + 0 ≤ 0 + 0
    last_none a e = omega arith
push_names file (first ∷ rest) domain none = one_more (in_tree file first.names) (in_domains file (rest ++ domain ∷ [])) (in_domains file rest) (push_names file rest domain none)
  where
    one_more : (a b c : ℕ) → b ≤ c + 0 → a + b ≤ a + c + 0
    one_more a b c h = omega arith

-- ---- each line makes one file at most

-- nobody has a file open, and none is without its name
abbrev P : Server → Type 0
P s = Names s.domains s.next_file [] s.store.files []

equals : (a b : ℕ) → a ≡ b → a ≤ b
equals a b e = omega arith

names_kept : (serves : List Parts) → KeepsBoot serves P
names_kept serves = record {
  hangs = λ s root tree is e h.
      fewer_names s.domains _ s.next_file [] s.store.files []
      (λ file. push_names file s.domains (record { root = root; names = tree }) (linked_none (length (links_of s.roots root) == 0) file root (links_of s.roots root) tree e)) h;
  makes = λ s at domain path tree there made h.
      let file : FileId = new_file s in
      more_names s.domains _ s.next_file [] s.store.files [] file refl
      (λ other. put_domains other s.domains at (one_if (is_name_of other (entries.Node (nodes.File file)))) domain (record domain { names = tree }) there (equals _ _ (booted_count other domain.names tree path (entries.Node (nodes.File file)) made))) h;
  writes = λ s file bytes there h. written_names s.domains s.next_file [] s.store.files [] file bytes h;
  passes = λ s h. raised_names s.domains s.next_file [] s.store.files [] h;
}

-- ---- as the cluster begins

bare_stands : (kept : Kept) → Names [] 1 [] kept []
bare_stands kept = record {
  few = λ file. none_few;
  new = λ file high. refl;
  there = λ file some. absurd (nothing_there some);
  opens = λ file some. absurd (nothing_there some);
  waits = λ file. tt;
  once = tt;
}
  where
    none_few : 0 ≤ 1
    none_few = omega arith

    nothing_there : 1 ≤ 0 → ⊥
    nothing_there h = omega arith

pub boot_has_unlinked : BootHas UnlinkedStand
boot_has_unlinked c kernel s e =
    let names : P s = server_begins c kernel P (names_kept (serves_of c.kernels kernel)) s e (bare_stands []) in
    let b : seen s ≡ nothing = begun c kernel s e in
    names_so s
    (subst (λ (gone : List FileId). Names s.domains s.next_file gone s.store.files s.versions.files) (sym (ap (λ (v : Seen). v.unlinked) b))
    (subst (λ (table : Files). Names s.domains s.next_file [] s.store.files table) (sym (ap (λ (v : Seen). v.table) b)) names))
