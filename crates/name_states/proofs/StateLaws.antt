-- From the start on each path stands once, and above each name is a directory.
use Rattle.std.proofs.Common.{◌≡◌, ◌+◌, ℕ, Bool, true, false, ◌&&◌, ◌||◌, not, cond, List, [], ◌∷◌, ◌++◌, length, Option, Some, None, refl, sym, ap, ap₂, subst, ◌∙◌, arith, append_assoc, append-nil, length-append}
use Rattle.std.specs.List.{AllByRecursion, list_all, list_any}
use Rattle.std.specs.Option.{is_some}
use Rattle.std.proofs.lemmas.Bool.{true≢false, not-true, and_parts}
use mathlib.Core.Bool.{or-true}
use Rattle.sprite_ids.proofs.ListLaws.{each_weaken}
use Rattle.sprite_paths.specs.Path.{is_prefix}
use Rattle.sprite_paths.proofs.PathLaws.{prefix_decides}
use Rattle.unix_calls.specs.declared.Description.{Description}
use Rattle.unix_calls.specs.declared.FileLine.{FileLine}
use Rattle.unix_calls.specs.declared.state.FileName.TheVariants.{Boot}
use Rattle.unix_calls.specs.declared.state.Named.{Named as NamedNode}
use Rattle.unix_calls.specs.declared.state.Node.{Node as UnixNode}
use Rattle.unix_calls.specs.declared.state.Node.TheVariants.{Directory, FileNode, DeviceNode}
use Rattle.unix_calls.specs.Tree.{above, looked_up, node_at, path_before, same_path, with_name}
use Rattle.unix_calls.specs.State.{Unix}
use Rattle.unix_calls.specs.Domains.{roots_of}
use Rattle.unix_calls.specs.Boot.{Filed, boot_of, bytes_at, filed, with_directories, with_directory, with_file_line, with_parts, with_roots}
use Rattle.unix_calls.specs.Lawful.{Lawful, are_joined, is_above, is_clean, is_file_path, same_fact}
use Rattle.unix_calls.proofs.HistoryLaws.{kept}
use Rattle.server_names.proofs.FoundLaws.{path_is, path_itself}
use Rattle.tree_laws.specs.Trees.{Parts}
use Rattle.tree_laws.specs.Wellnamed.{AreNamedWell}
use Rattle.tree_laws.proofs.MakeLaws.{node_is, unix_look}
use Rattle.tree_laws.proofs.WalkLaws.{above_is}
use Rattle.tree_laws.proofs.WellLaws.{Ending, ends, entries_name_well, named_well}
use Rattle.name_states.specs.States.{StatesNameWell}

any_in : {A : Type 0} (test : A → Bool) (before : List A) (x : A) (rest : List A) → test x ≡ true → list_any test (before ++ x ∷ rest) ≡ true
any_in test [] x rest h = ap (λ b. b || list_any test rest) h
any_in test (y ∷ before) x rest h = ap (λ b. test y || b) (any_in test before x rest h) ∙ or-true (test y)

-- ---- what stands at the start

-- a directory stands above a domain's root or above a file, or is a domain's root
abbrev is_way : Description → Parts → Bool
is_way c q = list_any (is_prefix q) (roots_of c.kernels) || list_any (λ (other : FileLine). is_above q other.path) c.files

abbrev IsKnown : Description → List Parts → Parts → UnixNode → Type 0
IsKnown c earlier q Directory = is_way c q ≡ true
IsKnown c earlier q (FileNode name) = list_any (same_path q) earlier ≡ true
IsKnown c earlier q (DeviceNode place) = ⊥

abbrev AreKnown : Description → List Parts → List NamedNode → Type 0
AreKnown c earlier nodes = AllByRecursion (λ (n : NamedNode). IsKnown c earlier n.path n.node) nodes

found_known : (c : Description) (earlier : List Parts) (nodes : List NamedNode) (q : Parts) (node : UnixNode) → AreKnown c earlier nodes → looked_up nodes q ≡ Some node → IsKnown c earlier q node
found_known c earlier [] q node h there = absurd (cc)
found_known c earlier (n ∷ ns) q node h there = by (same_path n.path q) refl there (found_known c earlier ns q node h.1)
  where
    by : (b : Bool) → same_path n.path q ≡ b → cond b (Some n.node) (looked_up ns q) ≡ Some node → (looked_up ns q ≡ Some node → IsKnown c earlier q node) → IsKnown c earlier q node
    by true same there rest =
        let is : n.node ≡ node = cc in
        subst (λ (p : Parts). IsKnown c earlier p node) (path_is n.path q same) (subst (IsKnown c earlier n.path) is h.0)
    by false off there rest = rest there

known_at : (c : Description) (earlier : List Parts) (nodes : List NamedNode) (front : Parts) (last : List ℕ) (node : UnixNode) → AreKnown c earlier nodes → node_at nodes (front ++ last ∷ []) ≡ Some node → IsKnown c earlier (front ++ last ∷ []) node
known_at c earlier nodes front last node h there = found_known c earlier nodes (front ++ last ∷ []) node h (sym (node_is nodes front last) ∙ there)

each_named : (P : NamedNode → Type 0) (n : NamedNode) (nodes : List NamedNode) → P n → AllByRecursion P nodes → AllByRecursion P (with_name n nodes)
each_named P n [] own h = (own, tt)
each_named P n (m ∷ ms) own h = by (path_before n.path m.path) (each_named P n ms own h.1)
  where
    by : (b : Bool) → AllByRecursion P (with_name n ms) → AllByRecursion P (cond b (n ∷ m ∷ ms) (m ∷ with_name n ms))
    by true rest = (own, h)
    by false rest = (h.0, rest)

-- ---- directories along a path

-- the way is one of directories, on which no file of an earlier line stands
abbrev IsWay : Description → List Parts → Parts → Parts → Type 0
IsWay c earlier done [] = Unit {0}
IsWay c earlier done (part ∷ rest) = ((is_way c (done ++ part ∷ []) ≡ true) × (list_any (same_path (done ++ part ∷ [])) earlier ≡ false)) × IsWay c earlier (done ++ part ∷ []) rest

record Led (c : Description) (earlier : List Parts) (nodes : List NamedNode) (to : Parts) : Type 0 where
  well : AreNamedWell nodes
  known : AreKnown c earlier nodes
  there : node_at nodes to ≡ Some Directory

one_more : (c : Description) (earlier : List Parts) (nodes : List NamedNode) (done : Parts) (part : List ℕ) → is_way c (done ++ part ∷ []) ≡ true → list_any (same_path (done ++ part ∷ [])) earlier ≡ false → Led c earlier nodes done
    → Led c earlier (with_directory (done ++ part ∷ []) nodes) (done ++ part ∷ [])
one_more c earlier nodes done part way no_file l = by (node_at nodes path) refl
  where
    path : Parts
    path = done ++ part ∷ []

    new : NamedNode
    new = record { path = path; node = Directory }

    by : (o : Option UnixNode) → node_at nodes path ≡ o → Led c earlier (cond (is_some o) nodes (with_name new nodes)) path
    by (Some Directory) e = record { well = l.well; known = l.known; there = e }
    by (Some (FileNode name)) e = absurd (true≢false (sym (known_at c earlier nodes done part (FileNode name) l.known e) ∙ no_file))
    by (Some (DeviceNode place)) e = absurd (known_at c earlier nodes done part (DeviceNode place) l.known e)
    by None e =
        let absent : looked_up nodes path ≡ None = sym (node_is nodes done part) ∙ e in
        record {
          well = named_well nodes done part Directory e l.there l.well;
          known = each_named (λ (n : NamedNode). IsKnown c earlier n.path n.node) new nodes way l.known;
          there = node_is (with_name new nodes) done part ∙ unix_look new nodes path absent ∙ ap (λ b. cond b (Some Directory) (looked_up nodes path)) (path_itself path);
        }

all_more : (c : Description) (earlier : List Parts) (nodes : List NamedNode) (done rest : Parts) → IsWay c earlier done rest → Led c earlier nodes done → Led c earlier (with_parts done rest nodes) (done ++ rest)
all_more c earlier nodes done [] way l = record { well = l.well; known = l.known; there = ap (node_at nodes) (append-nil done) ∙ l.there }
all_more c earlier nodes done (part ∷ rest) way l =
    let next = all_more c earlier (with_directory (done ++ part ∷ []) nodes) (done ++ part ∷ []) rest way.1 (one_more c earlier nodes done part way.0.0 way.0.1 l) in
    record { well = next.well; known = next.known; there = ap (node_at (with_parts (done ++ part ∷ []) rest (with_directory (done ++ part ∷ []) nodes))) (sym (append_assoc done (part ∷ []) rest)) ∙ next.there }

-- a part of a path is a prefix of it
begins : (path done : Parts) (part : List ℕ) (rest : Parts) → done ++ part ∷ rest ≡ path → is_prefix (done ++ part ∷ []) path ≡ true
begins path done part rest e = (prefix_decides (done ++ part ∷ []) path).1 (record { rest = rest; whole = sym e ∙ sym (append_assoc done (part ∷ []) rest) })

-- the way to a domain's root
root_way : (c : Description) (before : List Parts) (root : Parts) (others : List Parts) (done rest : Parts) → roots_of c.kernels ≡ before ++ root ∷ others → done ++ rest ≡ root → IsWay c [] done rest
root_way c before root others done [] all e = tt
root_way c before root others done (part ∷ rest) all e =
    let q = done ++ part ∷ [] in
    let is_in : list_any (is_prefix q) (roots_of c.kernels) ≡ true = ap (list_any (is_prefix q)) all ∙ any_in (is_prefix q) before root others (begins root done part rest e) in
    ((ap (λ b. b || list_any (λ (other : FileLine). is_above q other.path) c.files) is_in, refl), root_way c before root others q rest all (append_assoc done (part ∷ []) rest ∙ e))

record Rooted (c : Description) (nodes : List NamedNode) : Type 0 where
  well : AreNamedWell nodes
  known : AreKnown c [] nodes

roots_well : (c : Description) (before roots : List Parts) (nodes : List NamedNode) → roots_of c.kernels ≡ before ++ roots → Rooted c nodes → Rooted c (with_roots roots nodes)
roots_well c before [] nodes all h = h
roots_well c before (root ∷ roots) nodes all h =
    let led = all_more c [] nodes [] root (root_way c before root roots [] root all refl) (record { well = h.well; known = h.known; there = refl }) in
    roots_well c (before ++ root ∷ []) roots (with_directories root nodes) (all ∙ sym (append_assoc before (root ∷ []) roots)) (record { well = led.well; known = led.known })

-- ---- files

-- no earlier file stands above another
abbrev AreFiles : Description → List Parts → Type 0
AreFiles c earlier = AllByRecursion (λ (p : Parts). list_any (λ (other : FileLine). is_above p other.path) c.files ≡ false) earlier

earlier_above : (c : Description) (earlier : List Parts) (q : Parts) → AreFiles c earlier → list_any (same_path q) earlier ≡ true → list_any (λ (other : FileLine). is_above q other.path) c.files ≡ false
earlier_above c [] q h is = absurd (true≢false (sym is))
earlier_above c (p ∷ earlier) q h is = by (same_path q p) refl is (earlier_above c earlier q h.1)
  where
    by : (b : Bool) → same_path q p ≡ b → (b || list_any (same_path q) earlier) ≡ true → (list_any (same_path q) earlier ≡ true → list_any (λ (other : FileLine). is_above q other.path) c.files ≡ false) → list_any (λ (other : FileLine). is_above q other.path) c.files ≡ false
    by true same is rest = ap (λ (k : Parts). list_any (λ (other : FileLine). is_above k other.path) c.files) (path_is q p same) ∙ h.0
    by false off is rest = rest is

-- what stands before the last part is above the path
stands_above : (path done : Parts) (part : List ℕ) (rest : Parts) (last : List ℕ) → (done ++ part ∷ rest) ++ last ∷ [] ≡ path → is_above (done ++ part ∷ []) path ≡ true
stands_above path done part rest last e =
    ap₂ (λ a b. a && not b) (begins path done part (rest ++ last ∷ []) (sym (append_assoc done (part ∷ rest) (last ∷ [])) ∙ e)) (by (same_path (done ++ part ∷ []) path) refl)
  where
    by : (b : Bool) → same_path (done ++ part ∷ []) path ≡ b → b ≡ false
    by false h = refl
    by true h =
        let same = ap (λ l. length l) (path_is (done ++ part ∷ []) path h ∙ sym e) in
        let one = length-append done (part ∷ []) in
        let two = length-append (done ++ part ∷ rest) (last ∷ []) in
        let three = length-append done (part ∷ rest) in
        absurd (omega (arith, same, one, two, three))

file_way : (c : Description) (earlier : List Parts) (before : List FileLine) (line : FileLine) (others : List FileLine) (last : List ℕ) (done rest : Parts) → AreFiles c earlier → c.files ≡ before ++ line ∷ others → (done ++ rest) ++ last ∷ [] ≡ line.path → IsWay c earlier done rest
file_way c earlier before line others last done [] files all e = tt
file_way c earlier before line others last done (part ∷ rest) files all e =
    let q = done ++ part ∷ [] in
    let up : is_above q line.path ≡ true = stands_above line.path done part rest last e in
    let is_in : list_any (λ (other : FileLine). is_above q other.path) c.files ≡ true =
    ap (list_any (λ (other : FileLine). is_above q other.path)) all ∙ any_in (λ (other : FileLine). is_above q other.path) before line others up in (
      (ap (λ b. list_any (is_prefix q) (roots_of c.kernels) || b) is_in ∙ or-true (list_any (is_prefix q) (roots_of c.kernels)), none q is_in (list_any (same_path q) earlier) refl),
      file_way c earlier before line others last q rest files all (ap (λ (l : Parts). l ++ last ∷ []) (append_assoc done (part ∷ []) rest) ∙ e),
    )
  where
    none : (q : Parts) → list_any (λ (other : FileLine). is_above q other.path) c.files ≡ true → (b : Bool) → list_any (same_path q) earlier ≡ b → b ≡ false
    none q is_in false h = refl
    none q is_in true h = absurd (true≢false (sym is_in ∙ earlier_above c earlier q files h))

-- with one line more
known_more : (c : Description) (p : Parts) (earlier : List Parts) (nodes : List NamedNode) → AreKnown c earlier nodes → AreKnown c (p ∷ earlier) nodes
known_more c p earlier nodes h = each_weaken (λ (n : NamedNode). IsKnown c earlier n.path n.node) (λ (n : NamedNode). IsKnown c (p ∷ earlier) n.path n.node) nodes (λ n. by n.path n.node) h
  where
    by : (q : Parts) (node : UnixNode) → IsKnown c earlier q node → IsKnown c (p ∷ earlier) q node
    by q Directory h = h
    by q (FileNode name) h = ap (λ b. same_path q p || b) h ∙ or-true (same_path q p)
    by q (DeviceNode place) h = h

-- what a line's path keeps
record IsFile (c : Description) (line : FileLine) : Type 0 where
  no_root : same_path line.path [] ≡ false
  no_way : is_way c line.path ≡ false
  alone : list_any (λ (other : FileLine). is_above line.path other.path) c.files ≡ false

file_is : (c : Description) (line : FileLine) → is_file_path c line ≡ true → IsFile c line
file_is c line h =
    let a = is_clean line.path in
    let b = not (same_path line.path []) in
    let d = not (list_any (is_prefix line.path) (roots_of c.kernels)) in
    let f = not (list_any (λ (other : FileLine). is_above line.path other.path) c.files) in
    let alone = not-true (list_any (λ (other : FileLine). is_above line.path other.path) c.files) (and_parts (a && b && d) f h).1 in
    let free = not-true (list_any (is_prefix line.path) (roots_of c.kernels)) (and_parts (a && b) d (and_parts (a && b && d) f h).0).1 in
    record {
      no_root = not-true (same_path line.path []) (and_parts a b (and_parts (a && b) d (and_parts (a && b && d) f h).0).0).1;
      no_way = ap₂ (λ x y. x || y) free alone;
      alone = alone;
    }

record Filing (c : Description) (earlier : List Parts) (nodes : List NamedNode) : Type 0 where
  well : AreNamedWell nodes
  known : AreKnown c earlier nodes
  files : AreFiles c earlier

-- one file more
file_more : (c : Description) (earlier : List Parts) (before : List FileLine) (line : FileLine) (others : List FileLine) (place : ℕ) (nodes : List NamedNode) → c.files ≡ before ++ line ∷ others → IsFile c line → list_any (same_path line.path) earlier ≡ false → Filing c earlier nodes
    → Filing c (line.path ∷ earlier) (with_name (record { path = line.path; node = FileNode (Boot place) }) (with_directories (above line.path) nodes))
file_more c earlier before line others place nodes all file fresh h = by line.path refl
  where
    by : (path : Parts) → line.path ≡ path → Filing c (line.path ∷ earlier) (with_name (record { path = line.path; node = FileNode (Boot place) }) (with_directories (above line.path) nodes))
    by [] e = absurd (true≢false (sym (ap (λ (p : Parts). same_path p []) e) ∙ file.no_root))
    by (part ∷ path) e = ended (ends part path)
      where
        ended : Ending (part ∷ path) → Filing c (line.path ∷ earlier) (with_name (record { path = line.path; node = FileNode (Boot place) }) (with_directories (above line.path) nodes))
        ended n =
            let is : line.path ≡ n.front ++ n.last ∷ [] = e ∙ n.whole in
            let up : above line.path ≡ n.front = ap above is ∙ above_is n.front n.last in
            let led = all_more c earlier nodes [] n.front (file_way c earlier before line others n.last [] n.front h.files all (sym is)) (record { well = h.well; known = h.known; there = refl }) in
            subst (λ (k : Parts). Filing c (line.path ∷ earlier) (with_name (record { path = line.path; node = FileNode (Boot place) }) (with_directories k nodes))) (sym up)
            (record {
              well = subst (λ (k : Parts). AreNamedWell (with_name (record { path = k; node = FileNode (Boot place) }) (with_directories n.front nodes))) (sym is)
                  (named_well (with_directories n.front nodes) n.front n.last (FileNode (Boot place)) (nothing (with_directories n.front nodes) n.front n.last is led.known (node_at (with_directories n.front nodes) (n.front ++ n.last ∷ [])) refl) led.there led.well);
              known = each_named (λ (m : NamedNode). IsKnown c (line.path ∷ earlier) m.path m.node) (record { path = line.path; node = FileNode (Boot place) }) (with_directories n.front nodes)
                  (ap (λ b. b || list_any (same_path line.path) earlier) (path_itself line.path)) (known_more c line.path earlier (with_directories n.front nodes) led.known);
              files = (file.alone, h.files);
            })
          where
            nothing : (nodes : List NamedNode) (front : Parts) (last : List ℕ) → line.path ≡ front ++ last ∷ [] → AreKnown c earlier nodes → (o : Option UnixNode) → node_at nodes (front ++ last ∷ []) ≡ o → o ≡ None
            nothing nodes front last is known None there = refl
            nothing nodes front last is known (Some Directory) there = absurd (true≢false (sym (known_at c earlier nodes front last Directory known there) ∙ ap (is_way c) (sym is) ∙ file.no_way))
            nothing nodes front last is known (Some (FileNode name)) there = absurd (true≢false (sym (known_at c earlier nodes front last (FileNode name) known there) ∙ ap (λ (k : Parts). list_any (same_path k) earlier) (sym is) ∙ fresh))
            nothing nodes front last is known (Some (DeviceNode place)) there = absurd (known_at c earlier nodes front last (DeviceNode place) known there)

filed_well : (c : Description) (earlier : List Parts) (before : List FileLine) (lines : List FileLine) (place : ℕ) (f : Filed) → c.files ≡ before ++ lines → list_all (is_file_path c) lines ≡ true → are_joined earlier lines ≡ true → Filing c earlier f.nodes → AreNamedWell (filed c.files place lines f).nodes
filed_well c earlier before [] place f all fit joined h = h.well
filed_well c earlier before (line ∷ lines) place f all fit joined h =
    filed_well c (line.path ∷ earlier) (before ++ line ∷ []) lines (place + 1) (cond line.append f (with_file_line place line.path (bytes_at c.files line.path) f)) (all ∙ sym (append_assoc before (line ∷ []) lines))
    (and_parts (is_file_path c line) (list_all (is_file_path c) lines) fit).1 (and_parts (same_fact line.append (list_any (same_path line.path) earlier)) (are_joined (line.path ∷ earlier) lines) joined).1
    (by line.append (and_parts (same_fact line.append (list_any (same_path line.path) earlier)) (are_joined (line.path ∷ earlier) lines) joined).0)
  where
    file : IsFile c line
    file = file_is c line (and_parts (is_file_path c line) (list_all (is_file_path c) lines) fit).0

    by : (b : Bool) → same_fact b (list_any (same_path line.path) earlier) ≡ true → Filing c (line.path ∷ earlier) (cond b f (with_file_line place line.path (bytes_at c.files line.path) f)).nodes
    by true joins = record { well = h.well; known = known_more c line.path earlier f.nodes h.known; files = (file.alone, h.files) }
    by false fresh = file_more c earlier before line lines place f.nodes all file (not-true (list_any (same_path line.path) earlier) fresh) h

-- ---- the law

boot_well : (c : Description) → Lawful c → AreNamedWell (boot_of c).nodes
boot_well c lawful =
    let rooted = roots_well c [] (roots_of c.kernels) [] refl (record { well = record { once = tt; hang = none }; known = tt }) in
    filed_well c [] [] c.files 0 (record { nodes = with_roots (roots_of c.kernels) []; files = [] }) refl lawful.file_paths (and_parts (are_joined [] c.files) _ lawful.joins).0
    (record { well = rooted.well; known = rooted.known; files = tt })
  where
    none : (directory : Parts) (part : List ℕ) → is_some (node_at [] (directory ++ part ∷ [])) ≡ true → node_at [] directory ≡ Some Directory
    none directory part some = absurd (true≢false (sym some ∙ ap (λ o. is_some o) (node_is [] directory part)))

pub states_name_well : StatesNameWell
states_name_well c journal u lawful is = kept c (λ (w : Unix). AreNamedWell w.nodes) (λ w v e so h. entries_name_well c w v e so h) journal u (boot_well c lawful) is
