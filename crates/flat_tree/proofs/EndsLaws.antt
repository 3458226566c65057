-- Where a request isn't answered: it is refused, or its walk is sent on to a longer domain of its path.
use Rattle.std.proofs.Common.{◌≡◌, ◌==◌, ℕ, Bool, true, false, cond, List, [], ◌∷◌, ◌++◌, length, Option, Some, None, Result, Ok, Err, refl, sym, ap, subst, ◌∙◌, arith, nat_lt, length-append, append_assoc, append-nil}
use Rattle.sprite_ids.specs.declared.Errno.TheVariants as errno
use Rattle.sprite_paths.specs.Path.{IsPrefix}
use Rattle.unix_calls.specs.declared.state.Node.{Node as UnixNode}
use Rattle.unix_calls.specs.declared.state.Node.TheVariants.{Directory, FileNode, DeviceNode}
use Rattle.unix_calls.specs.declared.state.Named.{Named as NamedNode}
use Rattle.unix_calls.specs.Domains.{begins_domain}
use Rattle.unix_calls.specs.Tree.{node_at}
use Rattle.server_names.specs.declared.NameEnd.{NameEnd}
use Rattle.server_names.specs.declared.NameEnd.TheVariants.{Errno as Refused, Redirect, NoMemory}
use Rattle.server_names.specs.declared.Node.TheVariants.{Dir, File, Device}
use Rattle.server_names.specs.declared.Entry.{Entry}
use Rattle.server_names.specs.declared.Entry.TheVariants.{Node as Named, Link}
use Rattle.server_names.specs.Names.{Tree, count, count_found, entry_in, freed, goes_on, named, passed, removable_found, roomy, walked}
use Rattle.tree_laws.specs.Trees.{AreNames, IsOwn, Parts, Ties, plain, told}
use Rattle.tree_laws.proofs.FindLaws.{further}
use Rattle.tree_laws.proofs.WalkLaws.{own_on}
use Rattle.flat_tree.specs.Requests.{IsLonger}
use Rattle.sprite_ids.specs.declared.Errno.{Errno}

abbrev pub Ends : {A : Type 0} → List Parts → Parts → Parts → Result A NameEnd → Type 0
Ends roots root path (Ok given) = Unit {0}
Ends roots root path (Err (Refused why)) = Unit {0}
Ends roots root path (Err (Redirect to)) = IsLonger roots root path to
Ends roots root path (Err NoMemory) = ⊥

pub ends_on : {A : Type 0} (roots : List Parts) (root path : Parts) (r : Result (Unit {0}) NameEnd) (next : Result A NameEnd) → Ends roots root path r → (r ≡ Ok tt → Ends roots root path next) → Ends roots root path (goes_on r next)
ends_on roots root path (Ok tt) next h more = more refl
ends_on roots root path (Err (Refused why)) next h more = tt
ends_on roots root path (Err (Redirect to)) next h more = h
ends_on roots root path (Err NoMemory) next h more = h

-- a domain that hangs below another one, on the way of a path
pub is_longer : (roots : List Parts) (root here : Parts) (part : List ℕ) (path rest : Parts) → IsPrefix root here → begins_domain roots (here ++ part ∷ []) ≡ true → path ≡ (here ++ part ∷ []) ++ rest → IsLonger roots root path (here ++ part ∷ [])
is_longer roots root here part path rest below begins e =
    let a = length-append here (part ∷ []) in
    let b = length-append root below.rest in
    let c : length here ≡ length (root ++ below.rest) = ap length below.whole in
    record { begins = begins; below = further root here part below; longer = omega (arith, a, b, c); on_way = record { rest = rest; whole = e } }

-- ---- walks

ends_in : (ties : Ties) (roots : List Parts) (root : Parts) (nodes : List NamedNode) (tree : Tree) → AreNames ties roots root nodes tree
    → (here rest : Parts) (last : List ℕ) (path : Parts) → IsPrefix root here → IsOwn roots root here → path ≡ here ++ (rest ++ last ∷ []) → Ends roots root path (walked tree here rest)
ends_in ties roots root nodes tree are here [] last path below own e = tt
ends_in ties roots root nodes tree are here (part ∷ rest) last path below own e =
    let next = here ++ part ∷ [] in
    let on : path ≡ next ++ (rest ++ last ∷ []) = e ∙ sym (append_assoc here (part ∷ []) (rest ++ last ∷ [])) in
    subst (λ o. Ends roots root path (goes_on (passed o) (walked tree next rest))) (sym (are.names here part below own))
    (by (node_at nodes next) (begins_domain roots next) refl on (λ none. ends_in ties roots root nodes tree are next rest last path (further root here part below) (own_on roots root here part own none) on))
  where
    by : (node : Option UnixNode) (b : Bool) → begins_domain roots (here ++ part ∷ []) ≡ b → path ≡ (here ++ part ∷ []) ++ (rest ++ last ∷ []) → (begins_domain roots (here ++ part ∷ []) ≡ false → Ends roots root path (walked tree (here ++ part ∷ []) rest))
        → Ends roots root path (goes_on (passed (told ties roots (here ++ part ∷ []) node)) (walked tree (here ++ part ∷ []) rest))
    by None b is on more = tt
    by (Some node) true is on more =
        subst (λ b. Ends roots root path (goes_on (passed (Some (cond b (Link (here ++ part ∷ [])) (Named (plain ties node))))) (walked tree (here ++ part ∷ []) rest))) (sym is)
        (is_longer roots root here part path (rest ++ last ∷ []) below is on)
    by (Some node) false is on more =
        subst (λ b. Ends roots root path (goes_on (passed (Some (cond b (Link (here ++ part ∷ [])) (Named (plain ties node))))) (walked tree (here ++ part ∷ []) rest))) (sym is) (kind node (more is))
      where
        kind : (n : UnixNode) → Ends roots root path (walked tree (here ++ part ∷ []) rest) → Ends roots root path (goes_on (passed (Some (Named (plain ties n)))) (walked tree (here ++ part ∷ []) rest))
        kind Directory h = h
        kind (FileNode name) h = tt
        kind (DeviceNode place) h = tt

ends_way : (ties : Ties) (roots : List Parts) (root : Parts) (nodes : List NamedNode) (tree : Tree) → AreNames ties roots root nodes tree
    → (here way below path : Parts) → here ++ way ≡ root → Ends roots root path (walked tree root below) → Ends roots root path (walked tree here (way ++ below))
ends_way ties roots root nodes tree are here [] below path e h =
    subst (λ d. Ends roots root path (walked tree d below)) (sym e ∙ append-nil here) h
ends_way ties roots root nodes tree are here (part ∷ way) below path e h =
    let next = here ++ part ∷ [] in
    let on : next ++ way ≡ root = append_assoc here (part ∷ []) way ∙ e in
    subst (λ o. Ends roots root path (goes_on (passed o) (walked tree next (way ++ below)))) (sym (are.way here part (record { rest = way; whole = sym on })).0)
    (ends_way ties roots root nodes tree are next way below path on h)

pub walk_ends : (ties : Ties) (roots : List Parts) (root : Parts) (nodes : List NamedNode) (tree : Tree) → AreNames ties roots root nodes tree
    → (d : Parts) (last : List ℕ) → IsPrefix root d → Ends roots root (d ++ last ∷ []) (walked tree [] d)
walk_ends ties roots root nodes tree are d last below =
    subst (λ (k : Parts). Ends roots root (d ++ last ∷ []) (walked tree [] k)) (sym below.whole)
    (ends_way ties roots root nodes tree are [] root below.rest (d ++ last ∷ []) refl
    (ends_in ties roots root nodes tree are root below.rest last (d ++ last ∷ []) (record { rest = []; whole = sym (append-nil root) }) (λ other is prefix. prefix)
    (ap (λ (k : Parts). k ++ last ∷ []) below.whole ∙ append_assoc root below.rest (last ∷ []))))

-- ---- the last part

-- a remote link at a path leads on
abbrev pub LeadsOn : List Parts → Parts → Parts → Option Entry → Type 0
LeadsOn roots root path entry = (to : Parts) → entry ≡ Some (Link to) → IsLonger roots root path to

told_leads : (ties : Ties) (roots : List Parts) (root d : Parts) (part : List ℕ) (node : Option UnixNode) → IsPrefix root d → LeadsOn roots root (d ++ part ∷ []) (told ties roots (d ++ part ∷ []) node)
told_leads ties roots root d part None below to e = absurd (cc)
told_leads ties roots root d part (Some node) below to e = by (begins_domain roots (d ++ part ∷ [])) refl e
  where
    by : (b : Bool) → begins_domain roots (d ++ part ∷ []) ≡ b → ◌≡◌ {A = Option Entry} (Some (cond b (Link (d ++ part ∷ [])) (Named (plain ties node)))) (Some (Link to)) → IsLonger roots root (d ++ part ∷ []) to
    by true is e =
        let same : d ++ part ∷ [] ≡ to = cc in
        subst (IsLonger roots root (d ++ part ∷ [])) same (is_longer roots root d part (d ++ part ∷ []) [] below is (sym (append-nil (d ++ part ∷ []))))
    by false is e = absurd (cc)

pub entry_leads : (ties : Ties) (roots : List Parts) (root : Parts) (nodes : List NamedNode) (tree : Tree) (d : Parts) (part : List ℕ) → AreNames ties roots root nodes tree → IsPrefix root d → IsOwn roots root d → LeadsOn roots root (d ++ part ∷ []) (entry_in tree d part)
entry_leads ties roots root nodes tree d part are below own =
    subst (LeadsOn roots root (d ++ part ∷ [])) (sym (are.names d part below own)) (told_leads ties roots root d part (node_at nodes (d ++ part ∷ [])) below)

pub named_ends : (roots : List Parts) (root path : Parts) (e : Option Entry) → LeadsOn roots root path e → Ends roots root path (named e)
named_ends roots root path None h = tt
named_ends roots root path (Some (Named node)) h = tt
named_ends roots root path (Some (Link to)) h = h to refl

pub count_ends : (roots : List Parts) (root path : Parts) (tree : Tree) (e : Option Entry) → LeadsOn roots root path e → Ends roots root path (count_found tree path (named e))
count_ends roots root path tree None h = tt
count_ends roots root path tree (Some (Named Dir)) h = tt
count_ends roots root path tree (Some (Named (File file))) h = tt
count_ends roots root path tree (Some (Named (Device device))) h = tt
count_ends roots root path tree (Some (Link to)) h = h to refl

pub either_ends : {A : Type 0} (roots : List Parts) (root path : Parts) (b : Bool) (given : A) (why : Errno) → Ends roots root path (cond b (Ok given) (Err (Refused why)))
either_ends roots root path true given why = tt
either_ends roots root path false given why = tt

pub removable_ends : (roots : List Parts) (root path : Parts) (tree : Tree) (directory : Bool) (e : Option Entry) → LeadsOn roots root path e → Ends roots root path (removable_found tree path directory (named e))
removable_ends roots root path tree directory None h = tt
removable_ends roots root path tree true (Some (Named Dir)) h = either_ends roots root path (count tree path == 0) Dir errno.NotEmpty
removable_ends roots root path tree false (Some (Named Dir)) h = tt
removable_ends roots root path tree true (Some (Named (File file))) h = tt
removable_ends roots root path tree false (Some (Named (File file))) h = tt
removable_ends roots root path tree true (Some (Named (Device device))) h = tt
removable_ends roots root path tree false (Some (Named (Device device))) h = tt
removable_ends roots root path tree directory (Some (Link to)) h = h to refl

pub room_ends : (roots : List Parts) (root path : Parts) (tree : Tree) (d : Parts) → Ends roots root path (roomy tree d)
room_ends roots root path tree d = either_ends roots root path (nat_lt (count tree d) 256) tt errno.TooMany

pub freed_ends : (roots : List Parts) (root path : Parts) (e : Option Entry) (next : Result (Unit {0}) NameEnd) → LeadsOn roots root path e → Ends roots root path next → Ends roots root path (goes_on (freed e) next)
freed_ends roots root path None next h more = more
freed_ends roots root path (Some (Named node)) next h more = tt
freed_ends roots root path (Some (Link to)) next h more = h to refl
