-- What a path names at its domain's server against the one-kernel Unix.
use Rattle.std.proofs.Common.{◌≡◌, ◌==◌, ℕ, Bool, true, false, cond, List, [], ◌∷◌, ◌++◌, length, Option, Some, None, Result, Ok, Err, refl, sym, ap, ap₂, subst, ◌∙◌, arith, length-append, append_assoc}
use Rattle.std.specs.Option.{option_map}
use Rattle.std.proofs.lemmas.Bool.{cond-false, ne_eqb}
use Rattle.sprite_ids.specs.declared.Errno.{Errno}
use Rattle.sprite_paths.specs.Path.{IsPrefix}
use Rattle.unix_calls.specs.declared.state.Node.{Node as UnixNode}
use Rattle.unix_calls.specs.declared.state.Node.TheVariants.{Directory, FileNode, DeviceNode}
use Rattle.unix_calls.specs.declared.state.Named.{Named as NamedNode}
use Rattle.unix_calls.specs.Domains.{begins_domain}
use Rattle.unix_calls.specs.Tree.{first_of, names_in as unix_names_in, node_at, walk}
use Rattle.unix_calls.specs.NameCalls.{missing, no_directory}
use Rattle.server_names.specs.declared.NameEnd.{NameEnd}
use Rattle.server_names.specs.declared.NameEnd.TheVariants.{Errno as Refused, Redirect, NoMemory}
use Rattle.server_names.specs.declared.Node.{Node}
use Rattle.server_names.specs.declared.Entry.TheVariants.{Node as Named, Link}
use Rattle.server_names.specs.Names.{Tree, count, count_answer, count_found, entry_in, found, goes_on, named, walked}
use Rattle.tree_laws.specs.Trees.{AreNames, IsOwn, Parts, Ties, plain, told}
use Rattle.tree_laws.specs.Laws.{AnswersAs, CountsAsOne, FindsAsOne, GivesAs}
use Rattle.tree_laws.proofs.WalkLaws.{WalksAs, above_is, last_is, own_on, walks_as}

-- ---- what is found

-- an answer and what it gives, in one
abbrev Tells : {A : Type 0} → Option A → Result A NameEnd → Option Errno → Type 0
Tells wanted (Ok given) refusal = (refusal ≡ None) × (wanted ≡ Some given)
Tells wanted (Err (Refused errno)) refusal = refusal ≡ Some errno
Tells wanted (Err (Redirect path)) refusal = Unit {0}
Tells wanted (Err NoMemory) refusal = Unit {0}

tells_answers : {A : Type 0} (wanted : Option A) (r : Result A NameEnd) (refusal : Option Errno) → Tells wanted r refusal → AnswersAs r refusal
tells_answers wanted (Ok given) refusal h = h.0
tells_answers wanted (Err (Refused errno)) refusal h = h
tells_answers wanted (Err (Redirect path)) refusal h = tt
tells_answers wanted (Err NoMemory) refusal h = tt

tells_gives : {A : Type 0} (wanted : Option A) (r : Result A NameEnd) (refusal : Option Errno) → Tells wanted r refusal → GivesAs r wanted
tells_gives wanted (Ok given) refusal h = h.1
tells_gives wanted (Err end) refusal h = tt

tells_then : {A : Type 0} (wanted : Option A) (roots : List Parts) (root d : Parts) (r : Result (Unit {0}) NameEnd) (w : Option Errno) (next : Result A NameEnd) (other : Option Errno) → WalksAs roots root d r w → (IsOwn roots root d → Tells wanted next other) → Tells wanted (goes_on r next) (first_of w other)
tells_then wanted roots root d (Ok tt) w next other h more = subst (λ w. Tells wanted next (first_of w other)) (sym h.0) (more h.1)
tells_then wanted roots root d (Err (Refused e)) w next other h more = ap (λ w. first_of w other) h
tells_then wanted roots root d (Err (Redirect path)) w next other h more = tt
tells_then wanted roots root d (Err NoMemory) w next other h more = tt

-- what a path with one part more is found as, by its parts
pub found_by : (tree : Tree) (directory : Parts) (part : List ℕ) → found tree (directory ++ part ∷ []) ≡ goes_on (walked tree [] directory) (named (entry_in tree directory part))
found_by tree directory part =
    let path = directory ++ part ∷ [] in
    let some : (length path == 0) ≡ false = ne_eqb (length path) 0 (λ e. let more = length-append directory (part ∷ []) in omega arith) in
    cond-false (length path == 0) _ _ some
    ∙ ap₂ (λ (d : Parts) (p : List ℕ). goes_on (walked tree [] d) (named (entry_in tree d p))) (above_is directory part) (last_is directory part)

named_by : (ties : Ties) (roots : List Parts) (path : Parts) (node : Option UnixNode) → Tells (option_map (plain ties) node) (named (told ties roots path node)) (missing node)
named_by ties roots path None = refl
named_by ties roots path (Some node) =
    elim (begins_domain roots path) as (λ b. Tells (Some (plain ties node)) (named (Some (cond b (Link path) (Named (plain ties node))))) None) [ true ↦ tt | false ↦ (refl, refl) ]

finds_below : (ties : Ties) (roots : List Parts) (root : Parts) (nodes : List NamedNode) (tree : Tree) (directory : Parts) (part : List ℕ) → AreNames ties roots root nodes tree → IsPrefix root directory
    → Tells (option_map (plain ties) (node_at nodes (directory ++ part ∷ []))) (found tree (directory ++ part ∷ [])) (first_of (walk nodes (directory ++ part ∷ [])) (missing (node_at nodes (directory ++ part ∷ []))))
finds_below ties roots root nodes tree directory part are below =
    let path = directory ++ part ∷ [] in
    let there = node_at nodes path in
    subst (λ r. Tells (option_map (plain ties) there) r (first_of (walk nodes path) (missing there))) (sym (found_by tree directory part))
    (tells_then (option_map (plain ties) there) roots root directory (walked tree [] directory) (walk nodes path) (named (entry_in tree directory part)) (missing there) (walks_as ties roots root nodes tree are directory part below)
    (λ own. subst (λ e. Tells (option_map (plain ties) there) (named e) (missing there)) (sym (are.names directory part below own)) (named_by ties roots path there)))

pub finds_as_one : FindsAsOne
finds_as_one ties u root tree directory part are below =
    let h = finds_below ties u.roots root u.nodes tree directory part are below in
    let path = directory ++ part ∷ [] in
    record {
      answers = tells_answers (option_map (plain ties) (node_at u.nodes path)) (found tree path) (first_of (walk u.nodes path) (missing (node_at u.nodes path))) h;
      gives = tells_gives (option_map (plain ties) (node_at u.nodes path)) (found tree path) (first_of (walk u.nodes path) (missing (node_at u.nodes path))) h;
    }

-- ---- how many names a directory has

count_on : (tree : Tree) (path : Parts) (r : Result (Unit {0}) NameEnd) (next : Result Node NameEnd) → count_found tree path (goes_on r next) ≡ goes_on r (count_found tree path next)
count_on tree path (Ok tt) next = refl
count_on tree path (Err end) next = refl

counted_by : (ties : Ties) (roots : List Parts) (tree : Tree) (path : Parts) (many : ℕ) (node : Option UnixNode) (begins : Bool) → begins_domain roots path ≡ begins → (begins ≡ false → count tree path ≡ many)
    → Tells (Some many) (count_found tree path (named (told ties roots path node))) (first_of (missing node) (no_directory node))
counted_by ties roots tree path many None begins is h = refl
counted_by ties roots tree path many (Some node) true is h =
    subst (λ b. Tells (Some many) (count_found tree path (named (Some (cond b (Link path) (Named (plain ties node)))))) (no_directory (Some node))) (sym is) tt
counted_by ties roots tree path many (Some node) false is h =
    subst (λ b. Tells (Some many) (count_found tree path (named (Some (cond b (Link path) (Named (plain ties node)))))) (no_directory (Some node))) (sym is) (kind node)
  where
    kind : (n : UnixNode) → Tells (Some many) (count_found tree path (Ok (plain ties n))) (no_directory (Some n))
    kind Directory = (refl, ap Some (sym (h refl)))
    kind (FileNode name) = refl
    kind (DeviceNode place) = refl

-- a directory of the domain below its root is one of the domain too
pub further : (root directory : Parts) (part : List ℕ) → IsPrefix root directory → IsPrefix root (directory ++ part ∷ [])
further root directory part below = record { rest = below.rest ++ part ∷ []; whole = ap (λ l. l ++ part ∷ []) below.whole ∙ append_assoc root below.rest (part ∷ []) }

counts_below : (ties : Ties) (roots : List Parts) (root : Parts) (nodes : List NamedNode) (tree : Tree) (directory : Parts) (part : List ℕ) → AreNames ties roots root nodes tree → IsPrefix root directory
    → Tells (Some (length (unix_names_in nodes (directory ++ part ∷ [])))) (count_answer tree (directory ++ part ∷ [])) (first_of (walk nodes (directory ++ part ∷ [])) (first_of (missing (node_at nodes (directory ++ part ∷ []))) (no_directory (node_at nodes (directory ++ part ∷ [])))))
counts_below ties roots root nodes tree directory part are below =
    let path = directory ++ part ∷ [] in
    let there = node_at nodes path in
    let many = length (unix_names_in nodes path) in
    let rest = first_of (missing there) (no_directory there) in
    subst (λ r. Tells (Some many) r (first_of (walk nodes path) rest)) (sym (ap (count_found tree path) (found_by tree directory part) ∙ count_on tree path (walked tree [] directory) (named (entry_in tree directory part))))
    (tells_then (Some many) roots root directory (walked tree [] directory) (walk nodes path) (count_found tree path (named (entry_in tree directory part))) rest (walks_as ties roots root nodes tree are directory part below)
    (λ own. subst (λ e. Tells (Some many) (count_found tree path (named e)) rest) (sym (are.names directory part below own))
    (counted_by ties roots tree path many there (begins_domain roots path) refl (λ none. are.counts path (further root directory part below) (own_on roots root directory part own none)))))

pub counts_as_one : CountsAsOne
counts_as_one ties u root tree directory part are below =
    let h = counts_below ties u.roots root u.nodes tree directory part are below in
    let path = directory ++ part ∷ [] in
    let refusal = first_of (walk u.nodes path) (first_of (missing (node_at u.nodes path)) (no_directory (node_at u.nodes path))) in
    record {
      answers = tells_answers (Some (length (unix_names_in u.nodes path))) (count_answer tree path) refusal h;
      gives = tells_gives (Some (length (unix_names_in u.nodes path))) (count_answer tree path) refusal h;
    }
