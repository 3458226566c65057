-- Taking a name away at its domain's server against the one-kernel Unix.
use Rattle.std.proofs.Common.{◌≡◌, ◌==◌, ℕ, Bool, true, false, cond, nat_lt, List, [], ◌∷◌, ◌++◌, length, Option, Some, None, Result, Ok, Err, inl, inr, refl, sym, ap, subst, ◌∙◌, arith, length-append}
use Rattle.std.proofs.lemmas.Bool.{cases_Bool, cond-false, lt-ltb, le-ltb, eqb-true, ne_eqb}
use Rattle.sprite_ids.specs.declared.Errno.TheVariants as errno
use Rattle.sprite_paths.specs.Path.{IsPrefix}
use Rattle.unix_calls.specs.declared.state.Node.{Node as UnixNode}
use Rattle.unix_calls.specs.declared.state.Node.TheVariants.{Directory, FileNode, DeviceNode}
use Rattle.unix_calls.specs.declared.state.Named.{Named as NamedNode}
use Rattle.unix_calls.specs.Domains.{begins_domain}
use Rattle.unix_calls.specs.Tree.{first_of, names_in as unix_names_in, node_at, walk}
use Rattle.unix_calls.specs.NameCalls.{a_directory, missing, no_directory, refusal_if}
use Rattle.server_names.specs.declared.NameEnd.{NameEnd}
use Rattle.server_names.specs.declared.NameEnd.TheVariants.{Errno as Refused}
use Rattle.server_names.specs.declared.Node.{Node}
use Rattle.server_names.specs.declared.Node.TheVariants.{Dir}
use Rattle.server_names.specs.declared.Entry.TheVariants.{Node as Named, Link}
use Rattle.server_names.specs.Names.{Tree, count, entry_in, goes_on, named, removable_found, remove_answer, walked}
use Rattle.server_names.proofs.FoundLaws.{positive}
use Rattle.tree_laws.specs.Trees.{AreNames, Parts, Ties, plain, told}
use Rattle.tree_laws.specs.Laws.{AnswersAs, RemovesAsOne}
use Rattle.tree_laws.proofs.FindLaws.{found_by, further}
use Rattle.tree_laws.proofs.WalkLaws.{own_on, then_by, walks_as}

-- ---- the answers

removes_on : (tree : Tree) (path : Parts) (directory : Bool) (r : Result (Unit {0}) NameEnd) (next : Result Node NameEnd) → removable_found tree path directory (goes_on r next) ≡ goes_on r (removable_found tree path directory next)
removes_on tree path directory (Ok tt) next = refl
removes_on tree path directory (Err end) next = refl

pub removes_by : (tree : Tree) (at : Parts) (part : List ℕ) (directory : Bool) → remove_answer tree (at ++ part ∷ []) directory ≡ goes_on (walked tree [] at) (removable_found tree (at ++ part ∷ []) directory (named (entry_in tree at part)))
removes_by tree at part directory =
    let path = at ++ part ∷ [] in
    let some : (length path == 0) ≡ false = ne_eqb (length path) 0 (λ e. let more = length-append at (part ∷ []) in omega arith) in
    cond-false (length path == 0) _ _ some ∙ ap (removable_found tree path directory) (found_by tree at part) ∙ removes_on tree path directory (walked tree [] at) (named (entry_in tree at part))

-- of a name that isn't a domain's root
other_by : (ties : Ties) (roots : List Parts) (tree : Tree) (path : Parts) (node : Option UnixNode) → AnswersAs (removable_found tree path false (named (told ties roots path node))) (first_of (missing node) (a_directory node))
other_by ties roots tree path None = refl
other_by ties roots tree path (Some node) =
    elim (begins_domain roots path) as (λ b. AnswersAs (removable_found tree path false (named (Some (cond b (Link path) (Named (plain ties node)))))) (a_directory (Some node))) [ true ↦ tt | false ↦ kind node ]
  where
    kind : (n : UnixNode) → AnswersAs (removable_found tree path false (Ok (plain ties n))) (a_directory (Some n))
    kind Directory = refl
    kind (FileNode name) = refl
    kind (DeviceNode place) = refl

-- an empty directory, on both sides
empty_by : (m n : ℕ) → m ≡ n → AnswersAs {A = Node} (cond (m == 0) (Ok Dir) (Err (Refused errno.NotEmpty))) (refusal_if (nat_lt 0 n) errno.NotEmpty)
empty_by m n e =
    subst (λ k. AnswersAs {A = Node} (cond (m == 0) (Ok Dir) (Err (Refused errno.NotEmpty))) (refusal_if (nat_lt 0 k) errno.NotEmpty)) e
    (elim (cases_Bool (m == 0)) [
      | inl none ↦
          let few : nat_lt 0 m ≡ false = le-ltb 0 m (let z = eqb-true m 0 none in omega (arith, z)) in
          subst (λ b. AnswersAs {A = Node} (cond b (Ok Dir) (Err (Refused errno.NotEmpty))) (refusal_if (nat_lt 0 m) errno.NotEmpty)) (sym none)
          (ap (λ b. cond b (Some errno.NotEmpty) None) few)
      | inr some ↦
          let more : nat_lt 0 m ≡ true = lt-ltb 0 m (positive m some) in
          subst (λ b. AnswersAs {A = Node} (cond b (Ok Dir) (Err (Refused errno.NotEmpty))) (refusal_if (nat_lt 0 m) errno.NotEmpty)) (sym some)
          (ap (λ b. cond b (Some errno.NotEmpty) None) more)
    ])

directory_by : (ties : Ties) (roots : List Parts) (tree : Tree) (path : Parts) (many : ℕ) (node : Option UnixNode) → begins_domain roots path ≡ false → count tree path ≡ many
    → AnswersAs (removable_found tree path true (named (told ties roots path node))) (first_of (missing node) (first_of (no_directory node) (refusal_if (nat_lt 0 many) errno.NotEmpty)))
directory_by ties roots tree path many None none h = refl
directory_by ties roots tree path many (Some node) none h =
    subst (λ b. AnswersAs (removable_found tree path true (named (Some (cond b (Link path) (Named (plain ties node)))))) (first_of (no_directory (Some node)) (refusal_if (nat_lt 0 many) errno.NotEmpty))) (sym none) (kind node)
  where
    kind : (n : UnixNode) → AnswersAs (removable_found tree path true (Ok (plain ties n))) (first_of (no_directory (Some n)) (refusal_if (nat_lt 0 many) errno.NotEmpty))
    kind Directory = empty_by (count tree path) many h
    kind (FileNode name) = refl
    kind (DeviceNode place) = refl

other_among : (ties : Ties) (roots : List Parts) (root : Parts) (nodes : List NamedNode) (tree : Tree) (at : Parts) (part : List ℕ) → AreNames ties roots root nodes tree → IsPrefix root at
    → AnswersAs (remove_answer tree (at ++ part ∷ []) false) (first_of (walk nodes (at ++ part ∷ [])) (first_of (missing (node_at nodes (at ++ part ∷ []))) (a_directory (node_at nodes (at ++ part ∷ [])))))
other_among ties roots root nodes tree at part are below =
    let path = at ++ part ∷ [] in
    let there = node_at nodes path in
    let rest = first_of (missing there) (a_directory there) in
    subst (λ r. AnswersAs r (first_of (walk nodes path) rest)) (sym (removes_by tree at part false))
    (then_by roots root at (walked tree [] at) (walk nodes path) (removable_found tree path false (named (entry_in tree at part))) rest (walks_as ties roots root nodes tree are at part below)
    (λ own. subst (λ e. AnswersAs (removable_found tree path false (named e)) rest) (sym (are.names at part below own)) (other_by ties roots tree path there)))

directory_among : (ties : Ties) (roots : List Parts) (root : Parts) (nodes : List NamedNode) (tree : Tree) (at : Parts) (part : List ℕ) → AreNames ties roots root nodes tree → IsPrefix root at → begins_domain roots (at ++ part ∷ []) ≡ false
    → AnswersAs (remove_answer tree (at ++ part ∷ []) true)
    (first_of (walk nodes (at ++ part ∷ [])) (first_of (missing (node_at nodes (at ++ part ∷ []))) (first_of (no_directory (node_at nodes (at ++ part ∷ []))) (refusal_if (nat_lt 0 (length (unix_names_in nodes (at ++ part ∷ [])))) errno.NotEmpty))))
directory_among ties roots root nodes tree at part are below none =
    let path = at ++ part ∷ [] in
    let there = node_at nodes path in
    let many = length (unix_names_in nodes path) in
    let rest = first_of (missing there) (first_of (no_directory there) (refusal_if (nat_lt 0 many) errno.NotEmpty)) in
    subst (λ r. AnswersAs r (first_of (walk nodes path) rest)) (sym (removes_by tree at part true))
    (then_by roots root at (walked tree [] at) (walk nodes path) (removable_found tree path true (named (entry_in tree at part))) rest (walks_as ties roots root nodes tree are at part below)
    (λ own. subst (λ e. AnswersAs (removable_found tree path true (named e)) rest) (sym (are.names at part below own))
    (directory_by ties roots tree path many there none (are.counts path (further root at part below) (own_on roots root at part own none)))))

pub removes_as_one : RemovesAsOne
removes_as_one ties u root tree at part are below =
    let path = at ++ part ∷ [] in
    let there = node_at u.nodes path in
    record {
      directory = λ none.
          subst (λ b. AnswersAs (remove_answer tree path true) (first_of (refusal_if b errno.Busy) (first_of (walk u.nodes path) (first_of (missing there) (first_of (no_directory there) (refusal_if (nat_lt 0 (length (unix_names_in u.nodes path))) errno.NotEmpty)))))) (sym none)
          (directory_among ties u.roots root u.nodes tree at part are below none);
      other = other_among ties u.roots root u.nodes tree at part are below;
    }
