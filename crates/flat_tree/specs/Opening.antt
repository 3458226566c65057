-- How the names of the domains begin.
use Rattle.std.specs.Prelude.{◌≡◌, ℕ, ◌+◌, ◌==◌, Bool, true, ◌&&◌, if◌then◌else◌, List, [], ◌∷◌, length, Result, Ok}
use Rattle.sprite_paths.specs.Path.{is_prefix}
use Rattle.server_names.specs.declared.NameEnd.{NameEnd}
use Rattle.server_names.specs.declared.Entry.TheVariants.{Node as Named}
use Rattle.server_names.specs.declared.Node.TheVariants.{Dir, File}
use Rattle.server_names.specs.Names.{Tree, and_then, booted, hung_all}
use Rattle.unix_calls.specs.declared.Description.{Description}
use Rattle.unix_calls.specs.declared.FileLine.{FileLine}
use Rattle.unix_calls.specs.declared.state.FileName.TheVariants.{Boot}
use Rattle.unix_calls.specs.Domains.{begins_domain, roots_of}
use Rattle.server_kernel.specs.Boot.{is_longest, links_of}
use Rattle.tree_laws.specs.Trees.{Parts, Ties}
use Rattle.flat_tree.specs.Requests.{Trees}

-- whether the domain is the longest of the path
abbrev pub lies_in : List Parts → Parts → Parts → Bool
lies_in roots root path = is_prefix root path && is_longest roots root path

-- the root with the directories above it
abbrev pub rooted : Parts → Result Tree NameEnd
rooted root = if length root == 0 then Ok [] else booted [] root (Named Dir)

-- or the remote links, with the directories above them
abbrev pub linked : Parts → List Parts → Result Tree NameEnd
linked root links = if length links == 0 then rooted root else hung_all [] links

-- the names of a domain with a line's file, where it makes one and lies there: the file is the one that it is tied to
abbrev pub with_file : Ties → List Parts → Parts → ℕ → FileLine → Tree → Result Tree NameEnd
with_file ties roots root place line tree =
    if line.append then Ok tree
    else if lies_in roots root line.path then booted tree line.path (Named (File (ties.file (Boot place)))) else Ok tree

-- and with those of the lines from a place on
abbrev pub with_files : Ties → List Parts → Parts → ℕ → List FileLine → Tree → Result Tree NameEnd
with_files ties roots root place [] tree = Ok tree
with_files ties roots root place (line ∷ lines) tree = and_then (with_file ties roots root place line tree) (λ next. with_files ties roots root (place + 1) lines next)

-- the names of a domain as its server begins, of domains that hang there and of these lines
abbrev pub opened_from : Ties → List Parts → List FileLine → Parts → Result Tree NameEnd
opened_from ties roots lines root = and_then (linked root (links_of roots root)) (λ tree. with_files ties roots root 0 lines tree)

abbrev pub opening : Ties → Description → Parts → Result Tree NameEnd
opening ties c root = opened_from ties (roots_of c.kernels) c.files root

-- each domain has those
abbrev pub AreOpened : Ties → Description → Trees → Type 0
AreOpened ties c trees = (root : Parts) → begins_domain (roots_of c.kernels) root ≡ true → opening ties c root ≡ Ok (trees root)
