-- Walks along paths, and names put into the tree.
use Rattle.std.proofs.Common.{◌≡◌, ◌<◌, ◌≤◌, ◌+◌, ℕ, zero, suc, Bool, true, false, cond, not, List, [], ◌∷◌, ◌++◌, length, take, drop, get_or, slice_get, Option, Some, None, refl, sym, ap, ap₂, subst, ◌∙◌, arith, remove}
use Rattle.std.specs.List.{AllByRecursion, find, insert, position, position_or_len, prefix_len}
use Rattle.std.specs.Option.{is_some, option_map}
use Rattle.std.proofs.lemmas.Bool.{true≢false}
use Rattle.std.proofs.lemmas.List.Quantifiers.{position-Some}
use Rattle.std.proofs.lemmas.List.Sums.{prefix_len-le-length}
use Rattle.sprite_ids.specs.declared.errno.Errno.{Errno}
use Rattle.sprite_ids.proofs.ListLaws.{each_weaken}
use Rattle.sprite_ids.proofs.OnceLaws.{none_found, nothing_found}
use Rattle.unix_calls.specs.declared.state.Named.{Named}
use Rattle.unix_calls.specs.declared.state.Node.{Node}
use Rattle.unix_calls.specs.Lawful.{holds}
use Rattle.unix_calls.specs.Tree.{and_name, first_of, looked_up, name_below, names_in, node_at, path_before, same_path, walk_from, walk_stop, with_name, without_name}
use Rattle.unix_world.specs.Paths.{MayPrecede, is_up_to}
use Rattle.unix_world.specs.Places.{Ordered}
use Rattle.unix_world.proofs.ChangeLaws.{found_at}
use Rattle.unix_world.proofs.OrderLaws.{apart, apart_back, before_below, behind, behind_below, over, past, path_order, under, up_under}
use Rattle.unix_world.proofs.PlaceLaws.{here}
use Rattle.unix_world.proofs.SeekLaws.{Seeks, cut, fails_behind, joined, ordered_drop, ordered_filter}

-- a list from a place on that has two items more
pub record HasTwo {X : Type 0} (xs : List X) (n : ℕ) : Type 0 where
  pub item : X
  pub second : X
  pub rest : List X
  pub here : drop n xs ≡ item ∷ second ∷ rest
  pub behind : drop (suc n) xs ≡ second ∷ rest
  pub before : take n xs ++ item ∷ [] ≡ take (suc n) xs

pub has_two : {X : Type 0} (xs : List X) (n : ℕ) → n + 1 < length xs → HasTwo xs n
has_two [] n h = absurd (omega arith)
has_two (x ∷ []) zero h = absurd (omega arith)
has_two (x ∷ y ∷ zs) zero h = record { item = x; second = y; rest = zs; here = refl; behind = refl; before = refl }
has_two (x ∷ xs) (suc n) h =
    let two = has_two xs n (omega (arith, h)) in
    record { item = two.item; second = two.second; rest = two.rest; here = two.here; behind = two.behind; before = ap (λ ys. x ∷ ys) two.before }

-- one part of a walk
walk_step : (nodes : List Named) (path : List (List ℕ)) (n : ℕ) → n + 1 < length path → walk_from nodes (take n path) (drop n path) ≡ first_of (walk_stop (node_at nodes (take (n + 1) path))) (walk_from nodes (take (n + 1) path) (drop (n + 1) path))
walk_step nodes path n h =
    let two = has_two path n h in
    let e : suc n ≡ n + 1 = omega arith in
    ap (walk_from nodes (take n path)) two.here
    ∙ ap (λ t. first_of (walk_stop (node_at nodes t)) (walk_from nodes t (two.second ∷ two.rest))) two.before
    ∙ ap (λ d. first_of (walk_stop (node_at nodes (take (suc n) path))) (walk_from nodes (take (suc n) path) d)) (sym two.behind)
    ∙ ap (λ m. first_of (walk_stop (node_at nodes (take m path))) (walk_from nodes (take m path) (drop m path))) e

first_some : (one other : Option Errno) → is_some one ≡ true → one ≡ first_of one other
first_some None other h = absurd (true≢false (sym h))
first_some (Some e) other h = refl

first_none : (one other : Option Errno) → is_some one ≡ false → other ≡ first_of one other
first_none None other h = refl
first_none (Some e) other h = absurd (true≢false h)

-- a walk stops at the part
pub walk_stops : (nodes : List Named) (path : List (List ℕ)) (n : ℕ) (stop : Option Errno) → n + 1 < length path → stop ≡ walk_stop (node_at nodes (take (n + 1) path)) → is_some stop ≡ true → stop ≡ walk_from nodes (take n path) (drop n path)
walk_stops nodes path n stop h is some =
    first_some stop (walk_from nodes (take (n + 1) path) (drop (n + 1) path)) some
    ∙ ap (λ s. first_of s (walk_from nodes (take (n + 1) path) (drop (n + 1) path))) is
    ∙ sym (walk_step nodes path n h)

-- or goes on behind it
pub walk_goes : (nodes : List Named) (path : List (List ℕ)) (n : ℕ) (stop : Option Errno) → n + 1 < length path → stop ≡ walk_stop (node_at nodes (take (n + 1) path)) → is_some stop ≡ false → walk_from nodes (take (n + 1) path) (drop (n + 1) path) ≡ walk_from nodes (take n path) (drop n path)
walk_goes nodes path n stop h is none =
    first_none stop (walk_from nodes (take (n + 1) path) (drop (n + 1) path)) none
    ∙ ap (λ s. first_of s (walk_from nodes (take (n + 1) path) (drop (n + 1) path))) is
    ∙ sym (walk_step nodes path n h)

-- the last part isn't walked to
pub walk_last : (nodes : List Named) (done path : List (List ℕ)) (n : ℕ) → length path ≤ n + 1 → walk_from nodes done (drop n path) ≡ None
walk_last nodes done [] zero h = refl
walk_last nodes done [] (suc n) h = refl
walk_last nodes done (part ∷ []) zero h = refl
walk_last nodes done (part ∷ more ∷ rest) zero h = absurd (omega arith)
walk_last nodes done (part ∷ parts) (suc n) h = walk_last nodes done parts n (omega (arith, h))

-- a name stands before the first path behind its own
with_name_by : (n m : Named) (ms : List Named) (b : Bool) → with_name n ms ≡ insert ms (position_or_len (λ (x : Named). path_before n.path x.path) ms) n → cond b (n ∷ m ∷ ms) (m ∷ with_name n ms) ≡ insert (m ∷ ms) (cond (not b) (1 + position_or_len (λ (x : Named). path_before n.path x.path) ms) 0) n
with_name_by n m ms true h = refl
with_name_by n m ms false h =
    let k = position_or_len (λ (x : Named). path_before n.path x.path) ms in
    let e : suc k ≡ 1 + k = omega arith in
    ap (λ l. m ∷ l) h ∙ ap (λ i. insert (m ∷ ms) i n) e

pub with_name_is : (n : Named) (nodes : List Named) → with_name n nodes ≡ insert nodes (position_or_len (λ (x : Named). path_before n.path x.path) nodes) n
with_name_is n [] = refl
with_name_is n (m ∷ ms) = with_name_by n m ms (path_before n.path m.path) (with_name_is n ms)

pub place_within : (path : List (List ℕ)) (nodes : List Named) → position_or_len (λ (x : Named). path_before path x.path) nodes ≤ length nodes
place_within path nodes = prefix_len-le-length (λ (x : Named). not (path_before path x.path)) nodes

-- ---- the order of names

-- the names before a path
abbrev pub precedes : List (List ℕ) → Named → Bool
precedes path n = path_before n.path path

-- those of the path
abbrev pub has_path : List (List ℕ) → Named → Bool
has_path path n = same_path n.path path

pub names_seek : (path : List (List ℕ)) → Seeks MayPrecede (precedes path) (has_path path)
names_seek path =
    record {
      under = λ x y r is. under path_before same_path path_order x.path y.path path r is;
      apart = λ x is. apart path_before same_path path_order x.path path is;
      past = λ x y r above other. apart_back path_before same_path path_order y.path path (over path_before same_path path_order path x.path y.path (past path_before same_path path_order x.path path above other) r);
    }

-- those that aren't behind a directory's
abbrev pub up_to : List (List ℕ) → Named → Bool
up_to directory n = is_up_to directory n.path

pub names_up : (directory : List (List ℕ)) (x y : Named) → MayPrecede x y → up_to directory y ≡ true → up_to directory x ≡ true
names_up directory x y r is = up_under directory x.path y.path r is

-- those that a new one of the path stands behind
abbrev pub stays : List (List ℕ) → Named → Bool
stays path n = not (path_before path n.path)

stays_by : (path : List (List ℕ)) (x y : Named) (b : Bool) → path_before path x.path ≡ b → MayPrecede x y → stays path y ≡ true → not b ≡ true
stays_by path x y true e r is = absurd (true≢false (sym is ∙ ap not (over path_before same_path path_order path x.path y.path e r)))
stays_by path x y false e r is = refl

pub names_stay : (path : List (List ℕ)) (x y : Named) → MayPrecede x y → stays path y ≡ true → stays path x ≡ true
names_stay path x y r is = stays_by path x y (path_before path x.path) refl r is

-- ---- what stands at a path

node_by : (n : Named) (o : Option Named) (rest : Option Node) (b : Bool) → rest ≡ option_map (λ (m : Named). m.node) o → cond b (Some n.node) rest ≡ option_map (λ (m : Named). m.node) (cond b (Some n) o)
node_by n o rest true h = refl
node_by n o rest false h = h

node_found : (path : List (List ℕ)) (nodes : List Named) → looked_up nodes path ≡ option_map (λ (m : Named). m.node) (find (has_path path) nodes)
node_found path [] = refl
node_found path (n ∷ ns) = node_by n (find (has_path path) ns) (looked_up ns path) (same_path n.path path) (node_found path ns)

pub node_there : (path : List (List ℕ)) (nodes : List Named) (i : ℕ) (d : Named) → position (has_path path) nodes ≡ Some i → looked_up nodes path ≡ Some (get_or nodes i d).node
node_there path nodes i d place =
    let within = (position-Some (has_path path) nodes i d place).0 in
    node_found path nodes ∙ ap (option_map (λ (m : Named). m.node)) (found_at (has_path path) nodes i (get_or nodes i d) place (here nodes i d within))

pub no_node : (path : List (List ℕ)) (nodes : List Named) → position (has_path path) nodes ≡ None → looked_up nodes path ≡ None
no_node path nodes none =
    node_found path nodes ∙ ap (option_map (λ (m : Named). m.node)) (nothing_found (has_path path) nodes (none_found (has_path path) nodes none))

-- ---- a directory's names

-- names in front that aren't right below it
skipped : (directory : List (List ℕ)) (p : Named → Bool) (nodes : List Named) → ((n : Named) → p n ≡ true → name_below directory n.path ≡ None) → names_in (drop (prefix_len p nodes) nodes) directory ≡ names_in nodes directory
skipped directory p [] none = refl
skipped directory p (n ∷ ns) none = by (p n) refl (skipped directory p ns none)
  where
    by : (b : Bool) → p n ≡ b → names_in (drop (prefix_len p ns) ns) directory ≡ names_in ns directory → names_in (drop (cond b (1 + prefix_len p ns) 0) (n ∷ ns)) directory ≡ names_in (n ∷ ns) directory
    by true e rest =
        let on : 1 + prefix_len p ns ≡ suc (prefix_len p ns) = omega arith in
        ap (λ (k : ℕ). names_in (drop k (n ∷ ns)) directory) on ∙ rest ∙ sym (ap (λ o. and_name o (names_in ns directory)) (none n e))
    by false e rest = refl

none_in : (directory : List (List ℕ)) (nodes : List Named) → AllByRecursion (λ (n : Named). name_below directory n.path ≡ None) nodes → names_in nodes directory ≡ []
none_in directory [] h = refl
none_in directory (n ∷ ns) h = ap (λ o. and_name o (names_in ns directory)) h.0 ∙ none_in directory ns h.1

names_append : (directory : List (List ℕ)) (xs ys : List Named) → names_in ys directory ≡ [] → names_in xs directory ≡ names_in (xs ++ ys) directory
names_append directory [] ys none = sym none
names_append directory (x ∷ xs) ys none = ap (and_name (name_below directory x.path)) (names_append directory xs ys none)

-- and all behind a place
cut_off : (directory : List (List ℕ)) (nodes : List Named) (k : ℕ) → AllByRecursion (λ (n : Named). name_below directory n.path ≡ None) (drop k nodes) → names_in (take k nodes) directory ≡ names_in nodes directory
cut_off directory nodes k none =
    names_append directory (take k nodes) (drop k nodes) (none_in directory (drop k nodes) none) ∙ ap (λ l. names_in l directory) (joined k nodes)

-- the names at or below it tell all
pub names_within : (directory : List (List ℕ)) (nodes : List Named) (from to : ℕ) → Ordered MayPrecede nodes → from ≡ prefix_len (precedes directory) nodes → to ≡ prefix_len (up_to directory) (drop from nodes) → names_in (take to (drop from nodes)) directory ≡ names_in nodes directory
names_within directory nodes from to h begins ends =
    let rest = drop from nodes in
    let ordered = ordered_drop MayPrecede from nodes h in
    let fails = subst (λ (k : ℕ). AllByRecursion (λ (n : Named). up_to directory n ≡ false) (drop k rest)) (sym ends) (fails_behind MayPrecede (up_to directory) rest (names_up directory) ordered) in
    cut_off directory rest to (each_weaken (λ (n : Named). up_to directory n ≡ false) (λ (n : Named). name_below directory n.path ≡ None) (drop to rest) (λ n is. behind_below directory n.path is) fails)
    ∙ ap (λ (k : ℕ). names_in (drop k nodes) directory) begins
    ∙ skipped directory (precedes directory) nodes (λ n is. before_below directory n.path is)

-- ---- names that come and go

each_with : (P : Named → Type 0) (n : Named) (nodes : List Named) → P n → AllByRecursion P nodes → AllByRecursion P (with_name n nodes)
each_with P n [] one h = (one, tt)
each_with P n (m ∷ ms) one h =
    elim (path_before n.path m.path) as (λ b. AllByRecursion P (cond b (n ∷ m ∷ ms) (m ∷ with_name n ms))) [ true ↦ (one, h) | false ↦ (h.0, each_with P n ms one h.1) ]

with_by : (n m : Named) (ms : List Named) (b : Bool) → path_before n.path m.path ≡ b → Ordered MayPrecede (m ∷ ms) → Ordered MayPrecede (with_name n ms) → Ordered MayPrecede (cond b (n ∷ m ∷ ms) (m ∷ with_name n ms))
with_by n m ms true e h rest =
    let further = each_weaken (MayPrecede m) (MayPrecede n) ms (λ x r. behind path_before same_path path_order n.path x.path (over path_before same_path path_order n.path m.path x.path e r)) h.0 in
    ((behind path_before same_path path_order n.path m.path e, further), h)
with_by n m ms false e h rest = (each_with (MayPrecede m) n ms e h.0, rest)

pub with_ordered : (n : Named) (nodes : List Named) → Ordered MayPrecede nodes → Ordered MayPrecede (with_name n nodes)
with_ordered n [] h = (tt, tt)
with_ordered n (m ∷ ms) h = with_by n m ms (path_before n.path m.path) refl h (with_ordered n ms h.1)

pub without_ordered : (path : List (List ℕ)) (nodes : List Named) → Ordered MayPrecede nodes → Ordered MayPrecede (without_name path nodes)
without_ordered path nodes h = ordered_filter MayPrecede (λ (n : Named). not (same_path n.path path)) nodes h

-- the names of a path go one after another, from the place of the first on
pub record Goes (path : List (List ℕ)) (at : ℕ) (start nodes : List Named) : Type 0 where
  pub all : take at nodes ++ without_name path (drop at nodes) ≡ without_name path start
  pub ordered : Ordered MayPrecede (drop at nodes)
  pub above : AllByRecursion (λ (n : Named). precedes path n ≡ false) (drop at nodes)

kept_front : (path : List (List ℕ)) (nodes : List Named) → take (prefix_len (precedes path) nodes) nodes ++ without_name path (drop (prefix_len (precedes path) nodes) nodes) ≡ without_name path nodes
kept_front path [] = refl
kept_front path (n ∷ ns) = by (precedes path n) refl (kept_front path ns)
  where
    by : (b : Bool) → precedes path n ≡ b → take (prefix_len (precedes path) ns) ns ++ without_name path (drop (prefix_len (precedes path) ns) ns) ≡ without_name path ns → take (cond b (1 + prefix_len (precedes path) ns) 0) (n ∷ ns) ++ without_name path (drop (cond b (1 + prefix_len (precedes path) ns) 0) (n ∷ ns)) ≡ without_name path (n ∷ ns)
    by true e rest =
        let on : 1 + prefix_len (precedes path) ns ≡ suc (prefix_len (precedes path) ns) = omega arith in
        ap (λ (k : ℕ). take k (n ∷ ns) ++ without_name path (drop k (n ∷ ns))) on
        ∙ ap (λ l. n ∷ l) rest
        ∙ sym (ap (λ (b : Bool). cond (not b) (n ∷ without_name path ns) (without_name path ns)) ((names_seek path).apart n e))
    by false e rest = refl

pub goes_first : (path : List (List ℕ)) (at : ℕ) (nodes : List Named) → Ordered MayPrecede nodes → at ≡ prefix_len (precedes path) nodes → Goes path at nodes nodes
goes_first path at nodes h is =
    subst (λ (k : ℕ). Goes path k nodes nodes) (sym is)
    (record {
      all = kept_front path nodes;
      ordered = ordered_drop MayPrecede (prefix_len (precedes path) nodes) nodes h;
      above = fails_behind MayPrecede (precedes path) nodes (names_seek path).under h;
    })

goes_by : (path : List (List ℕ)) (at : ℕ) (start nodes : List Named) (o : Option Named) → slice_get nodes at ≡ o → holds (has_path path) o ≡ true → Goes path at start nodes → Goes path at start (remove nodes at)
goes_by path at start nodes None got is g = absurd (true≢false (sym is))
goes_by path at start nodes (Some n) got is g =
    let parts = cut nodes at n got in
    let one : without_name path (n ∷ parts.rest) ≡ without_name path parts.rest = ap (λ (b : Bool). cond (not b) (n ∷ without_name path parts.rest) (without_name path parts.rest)) is in
    record {
      all = ap₂ (λ t d. t ++ without_name path d) parts.before parts.behind
          ∙ ap (λ l. take at nodes ++ l) (sym one ∙ ap (without_name path) (sym parts.here))
          ∙ g.all;
      ordered = subst (Ordered MayPrecede) (sym parts.behind) (subst (Ordered MayPrecede) parts.here g.ordered).1;
      above = subst (AllByRecursion (λ (m : Named). precedes path m ≡ false)) (sym parts.behind) (subst (AllByRecursion (λ (m : Named). precedes path m ≡ false)) parts.here g.above).1;
    }

pub goes_on : (path : List (List ℕ)) (at : ℕ) (start nodes : List Named) → holds (has_path path) (slice_get nodes at) ≡ true → Goes path at start nodes → Goes path at start (remove nodes at)
goes_on path at start nodes is g = goes_by path at start nodes (slice_get nodes at) refl is g

-- until the next has another path
kept : (path : List (List ℕ)) (nodes : List Named) → AllByRecursion (λ (n : Named). has_path path n ≡ false) nodes → without_name path nodes ≡ nodes
kept path [] h = refl
kept path (n ∷ ns) h =
    ap (λ (b : Bool). cond (not b) (n ∷ without_name path ns) (without_name path ns)) h.0 ∙ ap (λ l. n ∷ l) (kept path ns h.1)

head_of : (at : ℕ) (nodes : List Named) → slice_get (drop at nodes) 0 ≡ slice_get nodes at
head_of zero nodes = refl
head_of (suc at) [] = refl
head_of (suc at) (n ∷ ns) = head_of at ns

others : (path : List (List ℕ)) (nodes : List Named) → holds (has_path path) (slice_get nodes 0) ≡ false → Ordered MayPrecede nodes → AllByRecursion (λ (n : Named). precedes path n ≡ false) nodes → AllByRecursion (λ (n : Named). has_path path n ≡ false) nodes
others path [] other h above = tt
others path (n ∷ ns) other h above =
    (other, each_weaken (MayPrecede n) (λ (m : Named). has_path path m ≡ false) ns (λ m r. (names_seek path).past n m r above.0 other) h.0)

pub gone : (path : List (List ℕ)) (at : ℕ) (start nodes : List Named) → holds (has_path path) (slice_get nodes at) ≡ false → Goes path at start nodes → nodes ≡ without_name path start
gone path at start nodes is g =
    let apart = others path (drop at nodes) (ap (holds (has_path path)) (head_of at nodes) ∙ is) g.ordered g.above in
    sym (joined at nodes) ∙ ap (λ l. take at nodes ++ l) (sym (kept path (drop at nodes) apart)) ∙ g.all
