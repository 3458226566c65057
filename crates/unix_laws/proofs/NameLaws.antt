-- A file and a device has one name at most.
use Rattle.std.proofs.Common.{◌≡◌, ◌<◌, ◌+◌, ℕ, Bool, true, false, not, cond, List, [], ◌∷◌, ◌++◌, filter, Some, refl, sym, ap, subst, ◌∙◌, arith, rules, tests}
use Rattle.std.specs.List.{AllByRecursion}
use Rattle.std.specs.Option.{is_some}
use Rattle.std.proofs.lemmas.Bool.{true≢false, ne_eqb}
use Rattle.std.specs.Cmp.Lexicographic.{pointwise_decides, bytes_decides}
use Rattle.std.proofs.lemmas.Bool.Decides.{eqb_tells}
use Rattle.sprite_ids.proofs.ListLaws.{each_filter, each_weaken}
use Rattle.unix_calls.specs.declared.Description.{Description}
use Rattle.unix_calls.specs.declared.Entry.{Entry}
use Rattle.unix_calls.specs.declared.FileLine.{FileLine}
use Rattle.unix_calls.specs.declared.state.FileName.{FileName}
use Rattle.unix_calls.specs.declared.state.FileName.TheVariants.{Boot, Made}
use Rattle.unix_calls.specs.declared.state.Named.{Named}
use Rattle.unix_calls.specs.declared.state.Node.{Node}
use Rattle.unix_calls.specs.declared.state.Node.TheVariants.{Directory, FileNode, DeviceNode}
use Rattle.unix_calls.specs.Tree.{above, looked_up, node_at, path_before, same_path, with_name, without_name}
use Rattle.unix_calls.specs.State.{Unix, same_file}
use Rattle.unix_calls.specs.Domains.{roots_of}
use Rattle.unix_calls.specs.Boot.{Filed, boot_of, bytes_at, filed, with_directories, with_directory, with_file_line, with_parts, with_roots}
use Rattle.unix_calls.specs.After.{after}
use Rattle.unix_calls.proofs.HistoryLaws.{kept}
use Rattle.unix_laws.specs.Names.{ThingsHaveOneName, same_thing}
use Rattle.unix_frames.proofs.EntryLaws.{opened}
use Rattle.unix_laws.proofs.SpreadLaws.{More, Less, Moved, NameChange, None_new, each_named, enters_names, found_node}
use Rattle.unix_laws.proofs.BootLaws.{boot_each}

-- ---- sameness

sym_file : (a b : FileName) → same_file a b ≡ same_file b a
sym_file (Boot i) (Boot j) = search (rules, tests, eqb_tells i j, eqb_tells j i)
sym_file (Made i) (Made j) = search (rules, tests, eqb_tells i j, eqb_tells j i)
sym_file (Boot i) (Made j) = refl
sym_file (Made i) (Boot j) = refl

sym_thing : (a b : Node) → same_thing a b ≡ same_thing b a
sym_thing Directory Directory = refl
sym_thing Directory (FileNode name) = refl
sym_thing Directory (DeviceNode place) = refl
sym_thing (FileNode name) Directory = refl
sym_thing (FileNode name) (FileNode other) = sym_file name other
sym_thing (FileNode name) (DeviceNode place) = refl
sym_thing (DeviceNode place) Directory = refl
sym_thing (DeviceNode place) (FileNode name) = refl
sym_thing (DeviceNode place) (DeviceNode other) = search (rules, tests, eqb_tells place other, eqb_tells other place)

abbrev Differs : Node → Named → Type 0
Differs node n = same_thing node n.node ≡ false

-- no two of the names are of one file or device
abbrev AreApart : List Named → Type 0
AreApart [] = Unit {0}
AreApart (n ∷ ns) = AllByRecursion (Differs n.node) ns × AreApart ns

apart_named : (n : Named) (nodes : List Named) → AllByRecursion (Differs n.node) nodes → AreApart nodes → AreApart (with_name n nodes)
apart_named n [] own h = (tt, tt)
apart_named n (m ∷ ms) own h = by (path_before n.path m.path) (apart_named n ms own.1 h.1)
  where
    by : (b : Bool) → AreApart (with_name n ms) → AreApart (cond b (n ∷ m ∷ ms) (m ∷ with_name n ms))
    by true rest = (own, h)
    by false rest = (each_named (Differs m.node) n ms (sym_thing m.node n.node ∙ own.0) h.0, rest)

apart_filter : (test : Named → Bool) (nodes : List Named) → AreApart nodes → AreApart (filter test nodes)
apart_filter test [] h = tt
apart_filter test (n ∷ ns) h = by (test n) (apart_filter test ns h.1)
  where
    by : (b : Bool) → AreApart (filter test ns) → AreApart (cond b (n ∷ filter test ns) (filter test ns))
    by true rest = (each_filter (Differs n.node) test ns h.0, rest)
    by false rest = rest

-- what stood at a path differs from all that stands elsewhere
differs_left : (nodes : List Named) (path : List (List ℕ)) (node : Node) → looked_up nodes path ≡ Some node → AreApart nodes → AllByRecursion (Differs node) (without_name path nodes)
differs_left [] path node there h = tt
differs_left (n ∷ ns) path node there h = by (same_path n.path path) there (differs_left ns path node)
  where
    by : (b : Bool) → cond b (Some n.node) (looked_up ns path) ≡ Some node → (looked_up ns path ≡ Some node → AreApart ns → AllByRecursion (Differs node) (without_name path ns))
        → AllByRecursion (Differs node) (cond (not b) (n ∷ without_name path ns) (without_name path ns))
    by true there rest = let same : n.node ≡ node = cc in each_filter (Differs node) _ ns (subst (λ (k : Node). AllByRecursion (Differs k) ns) same h.0)
    by false there rest = (sym_thing node n.node ∙ found_node (λ (k : Node). same_thing n.node k ≡ false) ns path node h.0 there, rest there h.1)

differs_from_directory : (nodes : List Named) → AllByRecursion (Differs Directory) nodes
differs_from_directory [] = tt
differs_from_directory (n ∷ ns) = (refl, differs_from_directory ns)

left_at : (nodes : List Named) (path : List (List ℕ)) (node : Node) → node_at nodes path ≡ Some node → AreApart nodes → AllByRecursion (Differs node) (without_name path nodes)
left_at nodes [] node there h = let root : Directory ≡ node = cc in subst (λ (k : Node). AllByRecursion (Differs k) (without_name [] nodes)) root (differs_from_directory (without_name [] nodes))
left_at nodes (part ∷ path) node there h = differs_left nodes (part ∷ path) node there h

-- ---- what entries made stands at earlier places

abbrev IsOld : ℕ → Node → Type 0
IsOld entries Directory = Unit {0}
IsOld entries (FileNode (Boot i)) = Unit {0}
IsOld entries (FileNode (Made k)) = k < entries
IsOld entries (DeviceNode k) = k < entries

older : (entries : ℕ) (n : Named) → IsOld entries n.node → IsOld (entries + 1) n.node
older entries n h = by n.node h
  where
    by : (node : Node) → IsOld entries node → IsOld (entries + 1) node
    by Directory h = tt
    by (FileNode (Boot i)) h = tt
    by (FileNode (Made k)) h = omega (arith, h)
    by (DeviceNode k) h = omega (arith, h)

-- what is new differs from them
new_file_differs : (entries : ℕ) (nodes : List Named) → AllByRecursion (λ (n : Named). IsOld entries n.node) nodes → AllByRecursion (Differs (FileNode (Made entries))) nodes
new_file_differs entries nodes h = each_weaken (λ (n : Named). IsOld entries n.node) (Differs (FileNode (Made entries))) nodes (λ n old. by n.node old) h
  where
    by : (node : Node) → IsOld entries node → same_thing (FileNode (Made entries)) node ≡ false
    by Directory h = refl
    by (FileNode (Boot i)) h = refl
    by (FileNode (Made k)) h = ne_eqb entries k (λ same. let e : entries ≡ k = same in omega (arith, h, e))
    by (DeviceNode k) h = refl

new_device_differs : (entries : ℕ) (nodes : List Named) → AllByRecursion (λ (n : Named). IsOld entries n.node) nodes → AllByRecursion (Differs (DeviceNode entries)) nodes
new_device_differs entries nodes h = each_weaken (λ (n : Named). IsOld entries n.node) (Differs (DeviceNode entries)) nodes (λ n old. by n.node old) h
  where
    by : (node : Node) → IsOld entries node → same_thing (DeviceNode entries) node ≡ false
    by Directory h = refl
    by (FileNode (Boot i)) h = refl
    by (FileNode (Made k)) h = refl
    by (DeviceNode k) h = ne_eqb entries k (λ same. let e : entries ≡ k = same in omega (arith, h, e))

record Sound (nodes : List Named) (entries : ℕ) : Type 0 where
  apart : AreApart nodes
  old : AllByRecursion (λ (n : Named). IsOld entries n.node) nodes

sound_more : (nodes : List Named) (entries : ℕ) (path : List (List ℕ)) (node : Node) → IsOld (entries + 1) node → AllByRecursion (Differs node) nodes → Sound nodes entries → Sound (with_name (record { path = path; node = node }) nodes) (entries + 1)
sound_more nodes entries path node old differs h =
    record {
      apart = apart_named (record { path = path; node = node }) nodes differs h.apart;
      old = each_named (λ (n : Named). IsOld (entries + 1) n.node) (record { path = path; node = node }) nodes old (each_weaken (λ (n : Named). IsOld entries n.node) (λ (n : Named). IsOld (entries + 1) n.node) nodes (older entries) h.old);
    }

sound_less : (nodes : List Named) (entries : ℕ) (path : List (List ℕ)) → Sound nodes entries → Sound (without_name path nodes) entries
sound_less nodes entries path h = record { apart = apart_filter _ nodes h.apart; old = each_filter (λ (n : Named). IsOld entries n.node) _ nodes h.old }

sound_names : (nodes : List Named) (entries : ℕ) (later : Unix) → NameChange nodes entries later → Sound nodes entries → Sound later.nodes (entries + 1)
sound_names nodes entries later (None_new same) h =
    subst (λ (l : List Named). Sound l (entries + 1)) (sym same)
    (record { apart = h.apart; old = each_weaken (λ (n : Named). IsOld entries n.node) (λ (n : Named). IsOld (entries + 1) n.node) nodes (older entries) h.old })
sound_names nodes entries later (More path Directory made is) h = subst (λ (l : List Named). Sound l (entries + 1)) (sym is) (sound_more nodes entries path Directory tt (differs_from_directory nodes) h)
sound_names nodes entries later (More path (FileNode name) made is) h =
    subst (λ (l : List Named). Sound l (entries + 1)) (sym (is ∙ ap (λ k. with_name (record { path = path; node = FileNode k }) nodes) made))
    (sound_more nodes entries path (FileNode (Made entries)) (omega arith) (new_file_differs entries nodes h.old) h)
sound_names nodes entries later (More path (DeviceNode place) made is) h =
    subst (λ (l : List Named). Sound l (entries + 1)) (sym (is ∙ ap (λ k. with_name (record { path = path; node = DeviceNode k }) nodes) made.0))
    (sound_more nodes entries path (DeviceNode entries) (omega arith) (new_device_differs entries nodes h.old) h)
sound_names nodes entries later (Less path is) h = sound_names_less
  where
    sound_names_less : Sound later.nodes (entries + 1)
    sound_names_less =
        let less = sound_less nodes entries path h in
        subst (λ (l : List Named). Sound l (entries + 1)) (sym is)
        (record { apart = less.apart; old = each_weaken (λ (n : Named). IsOld entries n.node) (λ (n : Named). IsOld (entries + 1) n.node) (without_name path nodes) (older entries) less.old })
sound_names nodes entries later (Moved old new node there is) h =
    subst (λ (l : List Named). Sound l (entries + 1)) (sym is)
    (sound_more (without_name old nodes) entries new node (by old there) (left_at nodes old node there h.apart) (sound_less nodes entries old h))
  where
    by : (path : List (List ℕ)) → node_at nodes path ≡ Some node → IsOld (entries + 1) node
    by [] there = let root : Directory ≡ node = cc in subst (IsOld (entries + 1)) root tt
    by (part ∷ path) there = older entries (record { path = part ∷ path; node = node }) (found_node (IsOld entries) nodes (part ∷ path) node h.old there)

abbrev IsSound : Unix → Type 0
IsSound u = Sound u.nodes u.entries

sound_after : (c : Description) (u v : Unix) (e : Entry) → after c u e ≡ Some v → IsSound u → IsSound v
sound_after c u v e is h =
    let o = opened c u v e is in
    let n = enters_names c u o.later e o.enters in
    subst IsSound (sym o.whole) (subst (λ k. Sound o.later.nodes (k + 1)) (sym n.same) (sound_names u.nodes u.entries o.later n.names h))

-- ---- the start

-- each file of the lines so far stands at an earlier place
abbrev IsBefore : ℕ → Node → Type 0
IsBefore place Directory = Unit {0}
IsBefore place (FileNode (Boot i)) = i < place
IsBefore place (FileNode (Made k)) = ⊥
IsBefore place (DeviceNode k) = ⊥

record Filing (place : ℕ) (nodes : List Named) : Type 0 where
  apart : AreApart nodes
  before : AllByRecursion (λ (n : Named). IsBefore place n.node) nodes

with_one : (place : ℕ) (path : List (List ℕ)) (nodes : List Named) → Filing place nodes → Filing place (with_directory path nodes)
with_one place path nodes h = by (is_some (node_at nodes path))
  where
    by : (b : Bool) → Filing place (cond b nodes (with_name (record { path = path; node = Directory }) nodes))
    by true = h
    by false =
        record {
          apart = apart_named (record { path = path; node = Directory }) nodes (differs_from_directory nodes) h.apart;
          before = each_named (λ (n : Named). IsBefore place n.node) (record { path = path; node = Directory }) nodes tt h.before;
        }

with_all : (place : ℕ) (done rest : List (List ℕ)) (nodes : List Named) → Filing place nodes → Filing place (with_parts done rest nodes)
with_all place done [] nodes h = h
with_all place done (part ∷ rest) nodes h = with_all place (done ++ part ∷ []) rest (with_directory (done ++ part ∷ []) nodes) (with_one place (done ++ part ∷ []) nodes h)

with_each_root : (place : ℕ) (roots : List (List (List ℕ))) (nodes : List Named) → Filing place nodes → Filing place (with_roots roots nodes)
with_each_root place [] nodes h = h
with_each_root place (root ∷ roots) nodes h = with_each_root place roots (with_directories root nodes) (with_all place [] root nodes h)

later_place : (place : ℕ) (nodes : List Named) → Filing place nodes → Filing (place + 1) nodes
later_place place nodes h = record { apart = h.apart; before = each_weaken (λ (n : Named). IsBefore place n.node) (λ (n : Named). IsBefore (place + 1) n.node) nodes (λ n. by n.node) h.before }
  where
    by : (node : Node) → IsBefore place node → IsBefore (place + 1) node
    by Directory h = tt
    by (FileNode (Boot i)) h = omega (arith, h)
    by (FileNode (Made k)) h = h
    by (DeviceNode k) h = h

with_file : (place : ℕ) (path : List (List ℕ)) (nodes : List Named) → Filing place nodes → Filing (place + 1) (with_name (record { path = path; node = FileNode (Boot place) }) nodes)
with_file place path nodes h =
    record {
      apart = apart_named (record { path = path; node = FileNode (Boot place) }) nodes (each_weaken (λ (n : Named). IsBefore place n.node) (Differs (FileNode (Boot place))) nodes (λ n. by n.node) h.before) h.apart;
      before = each_named (λ (n : Named). IsBefore (place + 1) n.node) (record { path = path; node = FileNode (Boot place) }) nodes (omega arith) (later_place place nodes h).before;
    }
  where
    by : (node : Node) → IsBefore place node → same_thing (FileNode (Boot place)) node ≡ false
    by Directory h = refl
    by (FileNode (Boot i)) h = ne_eqb place i (λ same. let e : place ≡ i = same in omega (arith, h, e))
    by (FileNode (Made k)) h = absurd h
    by (DeviceNode k) h = absurd h

filed_so : (all : List FileLine) (place : ℕ) (lines : List FileLine) (f : Filed) → Filing place f.nodes → AreApart (filed all place lines f).nodes
filed_so all place [] f h = h.apart
filed_so all place (line ∷ lines) f h = filed_so all (place + 1) lines (cond line.append f (with_file_line place line.path (bytes_at all line.path) f)) (by line.append)
  where
    by : (b : Bool) → Filing (place + 1) (cond b f (with_file_line place line.path (bytes_at all line.path) f)).nodes
    by true = later_place place f.nodes h
    by false = with_file place line.path (with_directories (above line.path) f.nodes) (with_all place [] (above line.path) f.nodes h)

sound_boot : (c : Description) → IsSound (boot_of c)
sound_boot c =
    record {
      apart = filed_so c.files 0 c.files (record { nodes = with_roots (roots_of c.kernels) []; files = [] }) (with_each_root 0 (roots_of c.kernels) [] (record { apart = tt; before = tt }));
      old = boot_each (λ (n : Named). IsOld 0 n.node) (λ path. tt) (λ path i. tt) c;
    }

-- ---- the law

path_is : (one two : List (List ℕ)) → same_path one two ≡ true → one ≡ two
path_is one two = (pointwise_decides bytes_decides one two).0

one_path : (nodes : List Named) (one two : List (List ℕ)) (node other : Node) → AreApart nodes → looked_up nodes one ≡ Some node → looked_up nodes two ≡ Some other → same_thing node other ≡ true → one ≡ two
one_path [] one two node other h first second same = absurd (cc)
one_path (n ∷ ns) one two node other h first second same = by (same_path n.path one) (same_path n.path two) refl refl first second (λ a b. one_path ns one two node other h.1 a b same)
  where
    differs : (found : Node) (path : List (List ℕ)) → looked_up ns path ≡ Some found → same_thing n.node found ≡ false
    differs found path there = found_node (λ (k : Node). same_thing n.node k ≡ false) ns path found h.0 there

    by : (a b : Bool) → same_path n.path one ≡ a → same_path n.path two ≡ b → cond a (Some n.node) (looked_up ns one) ≡ Some node → cond b (Some n.node) (looked_up ns two) ≡ Some other → (looked_up ns one ≡ Some node → looked_up ns two ≡ Some other → one ≡ two) → one ≡ two
    by true true is_one is_two first second rest = sym (path_is n.path one is_one) ∙ path_is n.path two is_two
    by true false is_one is_two first second rest =
        let mine : n.node ≡ node = cc in
        absurd (true≢false (sym same ∙ ap (λ (k : Node). same_thing k other) (sym mine) ∙ differs other two second))
    by false true is_one is_two first second rest =
        let mine : n.node ≡ other = cc in
        absurd (true≢false (sym same ∙ sym_thing node other ∙ ap (λ (k : Node). same_thing k node) (sym mine) ∙ differs node one first))
    by false false is_one is_two first second rest = rest first second

pub things_have_one_name : ThingsHaveOneName
things_have_one_name c journal u one two node other is first second same = by one two first second
  where
    sound : IsSound u
    sound = kept c IsSound (sound_after c) journal u (sound_boot c) is

    root : (found : Node) → node_at u.nodes [] ≡ Some found → found ≡ Directory
    root found there = cc

    by : (one two : List (List ℕ)) → node_at u.nodes one ≡ Some node → node_at u.nodes two ≡ Some other → one ≡ two
    by [] two first second = absurd (true≢false (sym same ∙ ap (λ (k : Node). same_thing k other) (root node first)))
    by (part ∷ one) [] first second = absurd (true≢false (sym same ∙ sym_thing node other ∙ ap (λ (k : Node). same_thing k node) (root other second)))
    by (part ∷ one) (next ∷ two) first second = one_path u.nodes (part ∷ one) (next ∷ two) node other sound.apart first second same
