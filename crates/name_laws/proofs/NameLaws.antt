-- Each name request goes.
use Rattle.std.proofs.Common.{◌≡◌, ℕ, Bool, true, false, ◌||◌, cond, List, [], ◌∷◌, length, nat_lt, Option, Some, None, Result, Ok, Err, refl, sym, ap, ap₂, subst, ◌∙◌}
use Rattle.std.specs.List.{list_any}
use Rattle.std.proofs.lemmas.Bool.{true≢false}
use Rattle.sprite_ids.specs.declared.Errno.{Errno}
use Rattle.sprite_ids.specs.declared.Errno.TheVariants as errno
use Rattle.sprite_ids.specs.declared.FileId.{FileId}
use Rattle.sprite_ids.specs.declared.TxNo.{TxNo}
use Rattle.sprite_ids.proofs.ListLaws.{some_is}
use Rattle.sprite_paths.specs.Path.{clean_path}
use Rattle.process_machine.specs.declared.Reply.TheVariants.{Value}
use Rattle.packet_bodies.specs.declared.ReplyBody.TheVariants as replies
use Rattle.packet_bodies.specs.declared.NameRequest.{NameRequest}
use Rattle.packet_bodies.specs.declared.NameOp.{NameOp}
use Rattle.packet_bodies.specs.declared.NameOp.TheVariants as ops
use Rattle.version_table.specs.Lists.{is_any}
use Rattle.file_store.specs.Files.{is_there, without}
use Rattle.version_table.specs.Versions.{forgotten as forgotten_opens}
use Rattle.sprite_ids.specs.Lists.{less}
use Rattle.unix_calls.specs.declared.state.Named.{Named as NamedNode}
use Rattle.unix_calls.specs.declared.Description.{Description}
use Rattle.unix_calls.specs.declared.state.Process.{Process}
use Rattle.unix_calls.specs.declared.state.Node.{Node as UnixNode}
use Rattle.unix_calls.specs.declared.state.Node.TheVariants.{Directory, FileNode, DeviceNode}
use Rattle.unix_calls.specs.State.{Unix, with_process}
use Rattle.unix_calls.specs.Domains.{begins_domain}
use Rattle.unix_calls.specs.Tree.{first_of, names_in as unix_names_in, node_at, same_path, walk, with_name, without_name}
use Rattle.unix_calls.specs.NameCalls.{a_directory, list, list_refusal, listing as unix_listing, chdir, chdir_refusal, missing, mkdir, moved_to, named as unix_named, new_refusal, no_directory, refusal_if, rename, rename_refusal, rmdir, rmdir_refusal, stat, stat_of, unlink, unlink_refusal, unnamed as unix_unnamed, with_path}
use Rattle.unix_calls.specs.Answers.{Outcome, Answered, is_done as unix_done_so, nothing, refuses as unix_refuses, replies as unix_replies, replied, unless_refused}
use Rattle.unix_calls.specs.After.{counted, outcome}
use Rattle.server_names.specs.declared.NameEnd.{NameEnd}
use Rattle.server_names.specs.declared.NameEnd.TheVariants.{Errno as Refused, Redirect, NoMemory}
use Rattle.server_names.specs.declared.Node.{Node}
use Rattle.server_names.specs.declared.Node.TheVariants.{Dir, File, Device}
use Rattle.server_names.specs.Names.{Tree, count, count_answer, count_found, found, made, make_answer, remove_answer, removed, rename_answer, rename_target, done, names_in, renamed_found as renamed_found_at}
use Rattle.server_names.proofs.FoundLaws.{path_is}
use Rattle.server_kernel.specs.declared.Domain.{Domain}
use Rattle.server_kernel.specs.declared.Server.{Server}
use Rattle.server_kernel.specs.declared.Asked.{Asked}
use Rattle.server_kernel.specs.Files.{is_busy, is_that, kept_of, forgotten, marked, waits, with_versions}
use Rattle.server_kernel.specs.Directory.{count_by, found_by, found_in, is_root, make_by, made_domain, remove_by, remove_in, removed_domain, rename_by as rename_by_at, renamed_domain, renamed_found, with_removed}
use Rattle.server_kernel.specs.Names.{apart_by, lists, lists_by, lists_text, call_by, changes_directory, changes_found, forgets_closed, forgets_unnamed, gives_name, makes_directory, makes_directory_by, name_call, names_by, refuses_apart, refuses_name, removes_directory, removes_empty, renames, renames_by, renames_found, renames_here, renames_now, renames_with, stats, stats_directory, stats_found, stats_node, takes_away, takes_name_by, text_or_none, unlinks, unlinks_found, unnamed_by}
use Rattle.server_kernel.specs.Says.{value}
use Rattle.home_laws.proofs.EntryLaws.{called_by, called_in}
use Rattle.tree_laws.specs.Trees.{AreNames, Parts, Ties, plain}
use Rattle.flat_tree.specs.Requests.{AsOne, Counts, Done, Finds, Is, Makes, Many, Removes, Renames, Trees, apart_found, are_apart, given_by, is_done, renamed_as, row, stands, with_tree}
use Rattle.flat_tree.proofs.AnswerLaws.{counts, finds, makes, removes}
use Rattle.flat_tree.proofs.DoneLaws.{made_one, removed_one, renamed_one}
use Rattle.flat_tree.proofs.RenameAnswerLaws.{renames as renames_as_one, first_kept}
use Rattle.name_laws.specs.Deeds.{Goes, SentOn, Waits}
use Rattle.name_laws.specs.Laws.{NamesGo, caller_of, is_done_here}
use Rattle.name_laws.specs.Served.{AreKept, Fits, NewFits, Serves}
use Rattle.name_laws.proofs.GoLaws.{changes_go, entry_made, gives_go, none_of, one_as, refusal_of, refuses_go}
use Rattle.name_laws.proofs.SortLaws.{lists_same}
use Rattle.server_kernel.specs.Listing.{list_by, listed as listed_at, listing}
use Rattle.name_laws.proofs.KeptLaws.{Here, domain_is, here, later_apart}

-- ---- refusals

stat_refused : (c : Description) (w : Unix) (q : Process) (path : Parts) (walked : Option Errno) (there : Option UnixNode) (why : Errno) → first_of walked (missing there) ≡ Some why → unless_refused c w q walked (stat_of c w q path there) ≡ unix_refuses c w q why
stat_refused c w q path (Some e) there why h = ap (unix_refuses c w q) (some_is e why h)
stat_refused c w q path None None why h = ap (unix_refuses c w q) (some_is errno.NoEntry why h)
stat_refused c w q path None (Some node) why h = absurd (cc)

pub both_none : (walked : Option Errno) (there : Option UnixNode) → first_of walked (missing there) ≡ None → (walked ≡ None) × ((x : UnixNode) × (there ≡ Some x))
both_none None (Some x) h = (refl, (x, refl))
both_none None None h = absurd (cc)
both_none (Some e) there h = absurd (cc)

pub is_same : (a b : Node) → Is a ≡ Is b → a ≡ b
is_same a b h = cc

many_same : (a b : ℕ) → Many a ≡ Many b → a ≡ b
many_same a b h = cc

pub refused_so : (c : Description) (w : Unix) (q : Process) (refusal : Option Errno) (rest : Outcome) (why : Errno) → refusal ≡ Some why → unless_refused c w q refusal rest ≡ unix_refuses c w q why
refused_so c w q refusal rest why h = ap (λ o. unless_refused c w q o rest) h

-- a domain's root begins one
root_begins : (roots : List Parts) (trees : Trees) (path : Parts) (domains : List Domain) → AreKept roots trees domains → list_any (λ (domain : Domain). same_path path domain.root) domains ≡ true → begins_domain roots path ≡ true
root_begins roots trees path [] kept h = absurd (true≢false (sym h))
root_begins roots trees path (d ∷ ds) kept h = by (same_path path d.root) refl h (λ later. root_begins roots trees path ds kept.1.1.1 later)
  where
    by : (b : Bool) → same_path path d.root ≡ b → (b || list_any (λ (domain : Domain). same_path path domain.root) ds) ≡ true → (list_any (λ (domain : Domain). same_path path domain.root) ds ≡ true → begins_domain roots path ≡ true) → begins_domain roots path ≡ true
    by true same h rest = ap (begins_domain roots) (path_is path d.root same) ∙ kept.0
    by false apart h rest = rest h

past_three : (w m n x : Option Errno) → first_of w (first_of m n) ≡ None → first_of w (first_of m (first_of n x)) ≡ x
past_three None None None x h = refl
past_three None None (Some e) x h = absurd (cc)
past_three None (Some e) n x h = absurd (cc)
past_three (Some e) m n x h = absurd (cc)

kept_three : (w m n x : Option Errno) (why : Errno) → first_of w (first_of m n) ≡ Some why → first_of w (first_of m (first_of n x)) ≡ Some why
kept_three (Some e) m n x why h = h
kept_three None (Some e) n x why h = h
kept_three None None (Some e) x why h = h
kept_three None None None x why h = absurd (cc)

-- what a file that lost its name leaves
record BesideNames (s next : Server) : Type 0 where
  domains : next.domains ≡ s.domains
  roots : next.roots ≡ s.roots
  out : next.out ≡ s.out

forgotten_beside : (file : FileId) (s : Server) → BesideNames s (forgotten file s)
forgotten_beside file s = by (is_there s.store.files file)
  where
    by : (b : Bool) → BesideNames s (with_versions (forgotten_opens s.versions.files file) (cond b (record (record s { unlinked = less (is_that file) s.unlinked }) { store = record s.store { files = without s.store.files file } }) (record s { unlinked = less (is_that file) s.unlinked })))
    by true = record { domains = refl; roots = refl; out = refl }
    by false = record { domains = refl; roots = refl; out = refl }

forgets_beside : (file : FileId) (s : Server) → BesideNames s (forgets_closed file s)
forgets_beside file s = by (is_any (kept_of file s).opens)
  where
    by : (b : Bool) → BesideNames s (cond b s (forgotten file s))
    by true = record { domains = refl; roots = refl; out = refl }
    by false = forgotten_beside file s

-- a rename's names and roots
moved_roots : (old new : Parts) (o : Option UnixNode) (v : Unix) → (moved_to old new o v).roots ≡ v.roots
moved_roots old new None v = refl
moved_roots old new (Some node) v = refl

moved_nodes : (old new : Parts) (o : Option UnixNode) (v u : Unix) → v.nodes ≡ u.nodes → (moved_to old new o v).nodes ≡ (moved_to old new o u).nodes
moved_nodes old new None v u e = e
moved_nodes old new (Some node) v u e = ap (λ (ns : List NamedNode). with_name (record { path = new; node = node }) (without_name old ns)) e

renamed_root : (old new : Parts) (x : Result Node NameEnd) (domain : Domain) → (renamed_found old new x domain).root ≡ domain.root
renamed_root old new (Ok node) domain = refl
renamed_root old new (Err end) domain = refl

renamed_names : (old new : Parts) (x : Result Node NameEnd) (domain : Domain) → (renamed_found old new x domain).names ≡ renamed_as domain.names old new x
renamed_names old new (Ok node) domain = refl
renamed_names old new (Err end) domain = refl

module _ (ties : Ties) (c : Description) (u : Unix) (trees : Trees) (s : Server) (asked : Asked) (r : NameRequest) (serves : Serves ties u trees s) (fits : Fits c u s r) (h : Here u.roots trees r.path s) where
  abbrev tx : TxNo
  tx = asked.tx

  abbrev root : Parts
  root = h.domain.root

  abbrev tree : Tree
  tree = trees h.domain.root

  abbrev w : Unix
  w = called_in fits.calls

  abbrev q : Process
  q = called_by fits.calls

  abbrev Led : Server → Type 0
  Led next = Goes ties c u trees h.domain.root r.path (caller_of asked r) s next

  are : AreNames ties u.roots h.domain.root u.nodes (trees h.domain.root)
  are = serves.one.names h.domain.root h.begins

  -- the call, by its kind
  call_is : (op : NameOp) → r.op ≡ op → outcome c (called_in fits.calls) (called_by fits.calls) (name_call r) ≡ outcome c (called_in fits.calls) (called_by fits.calls) (call_by op r)
  call_is op e = ap (λ o. outcome c (called_in fits.calls) (called_by fits.calls) (call_by o r)) e

  at_path_is : (rest : Parts → Outcome) → with_path c (called_in fits.calls) (called_by fits.calls) (clean_path fits.calls.may.process.cwd r.text) rest ≡ rest r.path
  at_path_is rest = ap (λ o. with_path c (called_in fits.calls) (called_by fits.calls) o rest) fits.path

  found_is : found_in r.path s ≡ found (trees h.domain.root) r.path
  found_is = ap (found_by r.path) (domain_is u.roots trees r.path s h) ∙ ap (λ (t : Tree). found t r.path) h.names

  finds_is : AsOne u.roots h.domain.root r.path (given_by Is (found (trees h.domain.root) r.path)) (row ties u (Finds r.path))
  finds_is = finds ties u h.domain.root (trees h.domain.root) r.path are h.prefix

  refused_here : (why : Errno) → outcome c (called_in fits.calls) (called_by fits.calls) (name_call r) ≡ unix_refuses c (called_in fits.calls) (called_by fits.calls) why → Led (refuses_name asked.tx r why s)
  refused_here why is = refuses_go ties c u trees s asked.tx r why h serves fits.calls is

  -- ---- stat

  stat_is : r.op ≡ ops.Stat → outcome c (called_in fits.calls) (called_by fits.calls) (name_call r) ≡ unless_refused c (called_in fits.calls) (called_by fits.calls) (walk u.nodes r.path) (stat_of c (called_in fits.calls) (called_by fits.calls) r.path (node_at u.nodes r.path))
  stat_is e = call_is ops.Stat e ∙ at_path_is (stat c (called_in fits.calls) (called_by fits.calls))

  stat_node : r.op ≡ ops.Stat → (x : UnixNode) (node : Node) → found (trees h.domain.root) r.path ≡ Ok node → walk u.nodes r.path ≡ None → node_at u.nodes r.path ≡ Some x → plain ties x ≡ node → Led (stats_node asked.tx r node s)
  stat_node e Directory node is way there same =
      subst (λ n. Led (stats_node asked.tx r n s)) same
      (let counted_is : count_answer (trees h.domain.root) r.path ≡ Ok (count (trees h.domain.root) r.path) = ap (count_found (trees h.domain.root) r.path) (is ∙ ap Ok (sym same)) in
      let many = many_same (length (unix_names_in u.nodes r.path)) (count (trees h.domain.root) r.path)
      (none_of (chdir_refusal u r.path) (Many (length (unix_names_in u.nodes r.path))) (Many (count (trees h.domain.root) r.path))
      (subst (λ a. AsOne u.roots h.domain.root r.path (given_by Many a) (row ties u (Counts r.path))) counted_is (counts ties u h.domain.root (trees h.domain.root) r.path are h.prefix))).1 in
      subst (λ a. Led (stats_directory asked.tx r a s)) (sym (ap (count_by r.path) (domain_is u.roots trees r.path s h) ∙ ap (λ (t : Tree). count_answer t r.path) h.names ∙ counted_is))
      (gives_go ties c u trees s asked.tx r (value 2 (count (trees h.domain.root) r.path)) h serves fits.calls (replied c (called_by fits.calls) (Value 2 (count (trees h.domain.root) r.path) []))
      (stat_is e ∙ ap₂ (λ a o. unless_refused c (called_in fits.calls) (called_by fits.calls) a (stat_of c (called_in fits.calls) (called_by fits.calls) r.path o)) way there
      ∙ ap (λ n. Answered (Value 2 n []) (with_process (replied c (called_by fits.calls) (Value 2 n [])) (called_in fits.calls))) many)))
  stat_node e (FileNode name) node is way there same =
      subst (λ n. Led (stats_node asked.tx r n s)) same
      (gives_go ties c u trees s asked.tx r (value 1 0) h serves fits.calls (replied c (called_by fits.calls) (Value 1 0 []))
      (stat_is e ∙ ap₂ (λ a o. unless_refused c (called_in fits.calls) (called_by fits.calls) a (stat_of c (called_in fits.calls) (called_by fits.calls) r.path o)) way there))
  stat_node e (DeviceNode place) node is way there same =
      subst (λ n. Led (stats_node asked.tx r n s)) same
      (gives_go ties c u trees s asked.tx r (value 3 0) h serves fits.calls (replied c (called_by fits.calls) (Value 3 0 []))
      (stat_is e ∙ ap₂ (λ a o. unless_refused c (called_in fits.calls) (called_by fits.calls) a (stat_of c (called_in fits.calls) (called_by fits.calls) r.path o)) way there))

  stat_by : r.op ≡ ops.Stat → (x : Result Node NameEnd) → found (trees h.domain.root) r.path ≡ x → AsOne u.roots h.domain.root r.path (given_by Is x) (row ties u (Finds r.path)) → Led (stats_found asked.tx r x s)
  stat_by e (Ok node) is a =
      let n = none_of (first_of (walk u.nodes r.path) (missing (node_at u.nodes r.path))) (Is (plain ties (stands (node_at u.nodes r.path)))) (Is node) a in
      let two = both_none (walk u.nodes r.path) (node_at u.nodes r.path) n.0 in
      stat_node e two.1.0 node is two.0 two.1.1 (ap (λ o. plain ties (stands o)) (sym two.1.1) ∙ is_same (plain ties (stands (node_at u.nodes r.path))) node n.1)
  stat_by e (Err (Refused why)) is a =
      refused_here why (stat_is e ∙ stat_refused c (called_in fits.calls) (called_by fits.calls) r.path (walk u.nodes r.path) (node_at u.nodes r.path) why
      (refusal_of (first_of (walk u.nodes r.path) (missing (node_at u.nodes r.path))) (Is (plain ties (stands (node_at u.nodes r.path)))) why a))
  stat_by e (Err (Redirect to)) is a = SentOn to a refl
  stat_by e (Err NoMemory) is a = absurd a

  stat_goes : r.op ≡ ops.Stat → Led (stats asked.tx r s)
  stat_goes e = subst (λ x. Led (stats_found asked.tx r x s)) (sym found_is) (stat_by e (found (trees h.domain.root) r.path) refl finds_is)

  -- ---- mkdir

  mkdir_is : r.op ≡ ops.Mkdir → outcome c (called_in fits.calls) (called_by fits.calls) (name_call r) ≡ unless_refused c (called_in fits.calls) (called_by fits.calls) (new_refusal u r.path) (unix_done_so c (unix_named r.path Directory (called_in fits.calls)) (called_by fits.calls))
  mkdir_is e = call_is ops.Mkdir e ∙ at_path_is (mkdir c (called_in fits.calls) (called_by fits.calls))

  mkdir_by : r.op ≡ ops.Mkdir → (x : Result (Unit {0}) NameEnd) → make_answer (trees h.domain.root) r.path ≡ x → AsOne u.roots h.domain.root r.path (is_done x) (row ties u (Makes r.path Directory)) → Led (makes_directory_by asked.tx r x s)
  mkdir_by e (Ok tt) is a =
      let later = counted (with_process (replied c (called_by fits.calls) nothing) (unix_named r.path Directory (called_in fits.calls))) in
      let none = (none_of (new_refusal u r.path) Done Done a).0 in
      changes_go ties c u trees r.path (caller_of asked r) s (makes_directory_by asked.tx r (Ok tt) s) h (made_domain r.path Dir) (made (trees h.domain.root) r.path Dir) nothing (replies.Value (value 0 0)) later serves
      (entry_made c u r.pid r.number (name_call r) nothing (with_process (replied c (called_by fits.calls) nothing) (unix_named r.path Directory (called_in fits.calls))) fits.calls
      (mkdir_is e ∙ ap (λ o. unless_refused c (called_in fits.calls) (called_by fits.calls) o (unix_done_so c (unix_named r.path Directory (called_in fits.calls)) (called_by fits.calls))) none))
      (one_as ties (unix_named r.path Directory u) later (with_tree h.domain.root (made (trees h.domain.root) r.path Dir) trees) refl refl
      (made_one ties u h.domain.root trees r.path Directory serves.one h.begins h.prefix is))
      refl refl (ap (λ (t : Tree). made t r.path Dir) h.names) refl refl refl
  mkdir_by e (Err (Refused why)) is a = refused_here why (mkdir_is e ∙ refused_so c (called_in fits.calls) (called_by fits.calls) (new_refusal u r.path) (unix_done_so c (unix_named r.path Directory (called_in fits.calls)) (called_by fits.calls)) why (refusal_of (new_refusal u r.path) Done why a))
  mkdir_by e (Err (Redirect to)) is a = SentOn to a refl
  mkdir_by e (Err NoMemory) is a = absurd a

  mkdir_goes : r.op ≡ ops.Mkdir → Led (makes_directory asked.tx r s)
  mkdir_goes e =
      subst (λ x. Led (makes_directory_by asked.tx r x s)) (sym (ap (make_by r.path) (domain_is u.roots trees r.path s h) ∙ ap (λ (t : Tree). make_answer t r.path) h.names))
      (mkdir_by e (make_answer (trees h.domain.root) r.path) refl (makes ties u h.domain.root (trees h.domain.root) r.path Directory are h.prefix))

  -- ---- rmdir

  rmdir_is : r.op ≡ ops.Rmdir → outcome c (called_in fits.calls) (called_by fits.calls) (name_call r) ≡ unless_refused c (called_in fits.calls) (called_by fits.calls) (rmdir_refusal u r.path) (unix_done_so c (unix_unnamed r.path (called_in fits.calls)) (called_by fits.calls))
  rmdir_is e = call_is ops.Rmdir e ∙ at_path_is (rmdir c (called_in fits.calls) (called_by fits.calls))

  removed_is : (directory : Bool) → remove_in r.path directory s ≡ remove_answer (trees h.domain.root) r.path directory
  removed_is directory = ap (remove_by r.path directory) (domain_is u.roots trees r.path s h) ∙ ap (λ (t : Tree). remove_answer t r.path directory) h.names

  rmdir_by : r.op ≡ ops.Rmdir → same_path r.path h.domain.root ≡ false → (x : Result Node NameEnd) → remove_answer (trees h.domain.root) r.path true ≡ x → AsOne u.roots h.domain.root r.path (is_done x) (row ties u (Removes r.path true)) → Led (removes_empty asked.tx r x s)
  rmdir_by e off (Ok node) is a =
      let later = counted (with_process (replied c (called_by fits.calls) nothing) (unix_unnamed r.path (called_in fits.calls))) in
      let none = (none_of (rmdir_refusal u r.path) Done Done a).0 in
      changes_go ties c u trees r.path (caller_of asked r) s (removes_empty asked.tx r (Ok node) s) h (removed_domain r.path) (removed (trees h.domain.root) r.path) nothing (replies.Value (value 0 0)) later serves
      (entry_made c u r.pid r.number (name_call r) nothing (with_process (replied c (called_by fits.calls) nothing) (unix_unnamed r.path (called_in fits.calls))) fits.calls
      (rmdir_is e ∙ ap (λ o. unless_refused c (called_in fits.calls) (called_by fits.calls) o (unix_done_so c (unix_unnamed r.path (called_in fits.calls)) (called_by fits.calls))) none))
      (one_as ties (unix_unnamed r.path u) later (with_tree h.domain.root (removed (trees h.domain.root) r.path) trees) refl refl
      (removed_one ties u h.domain.root trees r.path true node serves.one h.begins h.prefix (ap (λ b. cond b (Err (Refused errno.Busy)) (remove_answer (trees h.domain.root) r.path true)) off ∙ is)))
      refl refl (ap (λ (t : Tree). removed t r.path) h.names) refl refl refl
  rmdir_by e off (Err (Refused why)) is a = refused_here why (rmdir_is e ∙ refused_so c (called_in fits.calls) (called_by fits.calls) (rmdir_refusal u r.path) (unix_done_so c (unix_unnamed r.path (called_in fits.calls)) (called_by fits.calls)) why (refusal_of (rmdir_refusal u r.path) Done why a))
  rmdir_by e off (Err (Redirect to)) is a = SentOn to a refl
  rmdir_by e off (Err NoMemory) is a = absurd a

  rmdir_if : r.op ≡ ops.Rmdir → (b : Bool) → is_root r.path s ≡ b → Led (cond b (refuses_name asked.tx r errno.Busy s) (removes_empty asked.tx r (remove_in r.path true s) s))
  rmdir_if e true is =
      refused_here errno.Busy (rmdir_is e ∙ refused_so c (called_in fits.calls) (called_by fits.calls) (rmdir_refusal u r.path) (unix_done_so c (unix_unnamed r.path (called_in fits.calls)) (called_by fits.calls)) errno.Busy
      (ap (λ b. first_of (refusal_if b errno.Busy) (first_of (walk u.nodes r.path) (first_of (missing (node_at u.nodes r.path)) (first_of (no_directory (node_at u.nodes r.path)) (refusal_if (nat_lt 0 (length (unix_names_in u.nodes r.path))) errno.NotEmpty))))) (root_begins u.roots trees r.path s.domains serves.kept is)))
  rmdir_if e false is =
      let off = later_apart r.path s.domains h.at h.domain is h.got in
      subst (λ x. Led (removes_empty asked.tx r x s)) (sym (removed_is true))
      (rmdir_by e off (remove_answer (trees h.domain.root) r.path true) refl
      (subst (λ b. AsOne u.roots h.domain.root r.path (is_done (cond b (Err (Refused errno.Busy)) (remove_answer (trees h.domain.root) r.path true))) (row ties u (Removes r.path true))) off
      (removes ties u h.domain.root trees r.path true serves.one h.begins h.prefix)))

  rmdir_goes : r.op ≡ ops.Rmdir → Led (removes_directory asked.tx r s)
  rmdir_goes e = rmdir_if e (is_root r.path s) refl

  -- ---- chdir

  chdir_is : r.op ≡ ops.Chdir → outcome c (called_in fits.calls) (called_by fits.calls) (name_call r) ≡ unless_refused c (called_in fits.calls) (called_by fits.calls) (chdir_refusal u r.path) (unix_done_so c (called_in fits.calls) (record (called_by fits.calls) { cwd = r.path }))
  chdir_is e = call_is ops.Chdir e ∙ at_path_is (chdir c (called_in fits.calls) (called_by fits.calls))

  chdir_node : r.op ≡ ops.Chdir → (x : UnixNode) (node : Node) → walk u.nodes r.path ≡ None → node_at u.nodes r.path ≡ Some x → plain ties x ≡ node → Led (changes_found asked.tx r (Ok node) s)
  chdir_node e Directory node way there same =
      subst (λ n. Led (changes_found asked.tx r (Ok n) s)) same
      (gives_go ties c u trees s asked.tx r (value 0 0) h serves fits.calls (replied c (record (called_by fits.calls) { cwd = r.path }) nothing)
      (chdir_is e ∙ ap₂ (λ a o. unless_refused c (called_in fits.calls) (called_by fits.calls) (first_of a (first_of (missing o) (no_directory o))) (unix_done_so c (called_in fits.calls) (record (called_by fits.calls) { cwd = r.path }))) way there))
  chdir_node e (FileNode name) node way there same =
      subst (λ n. Led (changes_found asked.tx r (Ok n) s)) same
      (refused_here errno.NotDir (chdir_is e ∙ ap₂ (λ a o. unless_refused c (called_in fits.calls) (called_by fits.calls) (first_of a (first_of (missing o) (no_directory o))) (unix_done_so c (called_in fits.calls) (record (called_by fits.calls) { cwd = r.path }))) way there))
  chdir_node e (DeviceNode place) node way there same =
      subst (λ n. Led (changes_found asked.tx r (Ok n) s)) same
      (refused_here errno.NotDir (chdir_is e ∙ ap₂ (λ a o. unless_refused c (called_in fits.calls) (called_by fits.calls) (first_of a (first_of (missing o) (no_directory o))) (unix_done_so c (called_in fits.calls) (record (called_by fits.calls) { cwd = r.path }))) way there))

  chdir_by : r.op ≡ ops.Chdir → (x : Result Node NameEnd) → AsOne u.roots h.domain.root r.path (given_by Is x) (row ties u (Finds r.path)) → Led (changes_found asked.tx r x s)
  chdir_by e (Ok node) a =
      let n = none_of (first_of (walk u.nodes r.path) (missing (node_at u.nodes r.path))) (Is (plain ties (stands (node_at u.nodes r.path)))) (Is node) a in
      let two = both_none (walk u.nodes r.path) (node_at u.nodes r.path) n.0 in
      chdir_node e two.1.0 node two.0 two.1.1 (ap (λ o. plain ties (stands o)) (sym two.1.1) ∙ is_same (plain ties (stands (node_at u.nodes r.path))) node n.1)
  chdir_by e (Err (Refused why)) a =
      refused_here why (chdir_is e ∙ refused_so c (called_in fits.calls) (called_by fits.calls) (chdir_refusal u r.path) (unix_done_so c (called_in fits.calls) (record (called_by fits.calls) { cwd = r.path })) why
      (first_kept (walk u.nodes r.path) (missing (node_at u.nodes r.path)) (no_directory (node_at u.nodes r.path)) why (refusal_of (first_of (walk u.nodes r.path) (missing (node_at u.nodes r.path))) (Is (plain ties (stands (node_at u.nodes r.path)))) why a)))
  chdir_by e (Err (Redirect to)) a = SentOn to a refl
  chdir_by e (Err NoMemory) a = absurd a

  chdir_goes : r.op ≡ ops.Chdir → Led (changes_directory asked.tx r s)
  chdir_goes e = subst (λ x. Led (changes_found asked.tx r x s)) (sym found_is) (chdir_by e (found (trees h.domain.root) r.path) finds_is)

  -- ---- unlink

  unlink_is : r.op ≡ ops.Unlink → outcome c (called_in fits.calls) (called_by fits.calls) (name_call r) ≡ unless_refused c (called_in fits.calls) (called_by fits.calls) (unlink_refusal u r.path) (unix_done_so c (unix_unnamed r.path (called_in fits.calls)) (called_by fits.calls))
  unlink_is e = call_is ops.Unlink e ∙ at_path_is (unlink c (called_in fits.calls) (called_by fits.calls))

  -- what a server does to a file that lost its name touches no names
  taken_by : r.op ≡ ops.Unlink → (node : Node) → remove_answer (trees h.domain.root) r.path false ≡ Ok node → AsOne u.roots h.domain.root r.path (is_done {A = Node} (Ok node)) (row ties u (Removes r.path false))
      → (next : Server) → next.domains ≡ (with_removed r.path s).domains → next.roots ≡ (with_removed r.path s).roots → next.out ≡ (gives_name asked.tx r (value 0 0) (with_removed r.path s)).out → Led next
  taken_by e node is a next domains roots out =
      let later = counted (with_process (replied c (called_by fits.calls) nothing) (unix_unnamed r.path (called_in fits.calls))) in
      let none = (none_of (unlink_refusal u r.path) Done Done a).0 in
      changes_go ties c u trees r.path (caller_of asked r) s next h (removed_domain r.path) (removed (trees h.domain.root) r.path) nothing (replies.Value (value 0 0)) later serves
      (entry_made c u r.pid r.number (name_call r) nothing (with_process (replied c (called_by fits.calls) nothing) (unix_unnamed r.path (called_in fits.calls))) fits.calls
      (unlink_is e ∙ ap (λ o. unless_refused c (called_in fits.calls) (called_by fits.calls) o (unix_done_so c (unix_unnamed r.path (called_in fits.calls)) (called_by fits.calls))) none))
      (one_as ties (unix_unnamed r.path u) later (with_tree h.domain.root (removed (trees h.domain.root) r.path) trees) refl refl
      (removed_one ties u h.domain.root trees r.path false node serves.one h.begins h.prefix is))
      refl refl (ap (λ (t : Tree). removed t r.path) h.names) domains roots out

  takes_by : r.op ≡ ops.Unlink → (x : Result Node NameEnd) → remove_answer (trees h.domain.root) r.path false ≡ x → AsOne u.roots h.domain.root r.path (is_done x) (row ties u (Removes r.path false)) → Led (forgets_unnamed (unnamed_by x) (takes_name_by asked.tx r x s))
  takes_by e (Ok Dir) is a = taken_by e Dir is a (gives_name asked.tx r (value 0 0) (with_removed r.path s)) refl refl refl
  takes_by e (Ok (Device device)) is a = taken_by e (Device device) is a (gives_name asked.tx r (value 0 0) (with_removed r.path s)) refl refl refl
  takes_by e (Ok (File file)) is a =
      let gone = marked file (gives_name asked.tx r (value 0 0) (with_removed r.path s)) in
      let beside = forgets_beside file gone in
      taken_by e (File file) is a (forgets_closed file gone) beside.domains beside.roots beside.out
  takes_by e (Err (Refused why)) is a = refused_here why (unlink_is e ∙ refused_so c (called_in fits.calls) (called_by fits.calls) (unlink_refusal u r.path) (unix_done_so c (unix_unnamed r.path (called_in fits.calls)) (called_by fits.calls)) why (refusal_of (unlink_refusal u r.path) Done why a))
  takes_by e (Err (Redirect to)) is a = SentOn to a refl
  takes_by e (Err NoMemory) is a = absurd a

  takes_goes : r.op ≡ ops.Unlink → Led (takes_away asked.tx r s)
  takes_goes e =
      subst (λ x. Led (forgets_unnamed (unnamed_by x) (takes_name_by asked.tx r x s))) (sym (removed_is false))
      (takes_by e (remove_answer (trees h.domain.root) r.path false) refl (removes ties u h.domain.root trees r.path false serves.one h.begins h.prefix))

  busy_or : (file : FileId) (b : Bool) → is_busy file s ≡ b → (next : Server) → Led next → Led (cond b (waits asked file s) next)
  busy_or file true is next go = Waits asked file is refl
  busy_or file false is next go = go

  unlink_by : r.op ≡ ops.Unlink → (x : Result Node NameEnd) → AsOne u.roots h.domain.root r.path (given_by Is x) (row ties u (Finds r.path)) → Led (unlinks_found asked r x s)
  unlink_by e (Ok (File file)) a = busy_or file (is_busy file s) refl (takes_away asked.tx r s) (takes_goes e)
  unlink_by e (Ok Dir) a = takes_goes e
  unlink_by e (Ok (Device device)) a = takes_goes e
  unlink_by e (Err (Refused why)) a =
      refused_here why (unlink_is e ∙ refused_so c (called_in fits.calls) (called_by fits.calls) (unlink_refusal u r.path) (unix_done_so c (unix_unnamed r.path (called_in fits.calls)) (called_by fits.calls)) why
      (first_kept (walk u.nodes r.path) (missing (node_at u.nodes r.path)) (a_directory (node_at u.nodes r.path)) why (refusal_of (first_of (walk u.nodes r.path) (missing (node_at u.nodes r.path))) (Is (plain ties (stands (node_at u.nodes r.path)))) why a)))
  unlink_by e (Err (Redirect to)) a = SentOn to a refl
  unlink_by e (Err NoMemory) a = absurd a

  unlink_goes : r.op ≡ ops.Unlink → Led (unlinks asked r s)
  unlink_goes e = subst (λ x. Led (unlinks_found asked r x s)) (sym found_is) (unlink_by e (found (trees h.domain.root) r.path) finds_is)

  -- ---- rename

  rename_is : r.op ≡ ops.Rename → (new : Parts) → clean_path fits.calls.may.process.cwd (text_or_none r.second_text) ≡ Some new
      → outcome c (called_in fits.calls) (called_by fits.calls) (name_call r) ≡ unless_refused c (called_in fits.calls) (called_by fits.calls) (rename_refusal u r.path new) (unix_done_so c (moved_to r.path new (node_at u.nodes r.path) (called_in fits.calls)) (called_by fits.calls))
  rename_is e new leads =
      call_is ops.Rename e ∙ at_path_is (λ from. with_path c (called_in fits.calls) (called_by fits.calls) (clean_path fits.calls.may.process.cwd (text_or_none r.second_text)) (rename c (called_in fits.calls) (called_by fits.calls) from))
      ∙ ap (λ o. with_path c (called_in fits.calls) (called_by fits.calls) o (rename c (called_in fits.calls) (called_by fits.calls) r.path)) leads

  rename_refused : r.op ≡ ops.Rename → (new : Parts) → clean_path fits.calls.may.process.cwd (text_or_none r.second_text) ≡ Some new → (why : Errno) → row ties u (Renames r.path new) ≡ Err why → Led (refuses_name asked.tx r why s)
  rename_refused e new leads why a =
      refused_here why (rename_is e new leads ∙ refused_so c (called_in fits.calls) (called_by fits.calls) (rename_refusal u r.path new) (unix_done_so c (moved_to r.path new (node_at u.nodes r.path) (called_in fits.calls)) (called_by fits.calls)) why (refusal_of (rename_refusal u r.path new) Done why a))

  rename_by : r.op ≡ ops.Rename → (new : Parts) → clean_path fits.calls.may.process.cwd (text_or_none r.second_text) ≡ Some new → are_apart u.roots r.path new ≡ false
      → (x : Result (Unit {0}) NameEnd) → rename_answer (trees h.domain.root) r.path new ≡ x → AsOne u.roots h.domain.root r.path (is_done x) (row ties u (Renames r.path new)) → Led (renames_by asked.tx r new x s)
  rename_by e new leads apart (Ok tt) is a =
      let later = counted (with_process (replied c (called_by fits.calls) nothing) (moved_to r.path new (node_at u.nodes r.path) (called_in fits.calls))) in
      let none = (none_of (rename_refusal u r.path new) Done Done a).0 in
      let tree_then = renamed_as (trees h.domain.root) r.path new (found (trees h.domain.root) r.path) in
      changes_go ties c u trees r.path (caller_of asked r) s (renames_by asked.tx r new (Ok tt) s) h (renamed_domain r.path new) tree_then nothing (replies.Value (value 0 0)) later serves
      (entry_made c u r.pid r.number (name_call r) nothing (with_process (replied c (called_by fits.calls) nothing) (moved_to r.path new (node_at u.nodes r.path) (called_in fits.calls))) fits.calls
      (rename_is e new leads ∙ ap (λ o. unless_refused c (called_in fits.calls) (called_by fits.calls) o (unix_done_so c (moved_to r.path new (node_at u.nodes r.path) (called_in fits.calls)) (called_by fits.calls))) none))
      (one_as ties (moved_to r.path new (node_at u.nodes r.path) u) later (with_tree h.domain.root tree_then trees) (moved_nodes r.path new (node_at u.nodes r.path) (called_in fits.calls) u refl) (moved_roots r.path new (node_at u.nodes r.path) (called_in fits.calls) ∙ sym (moved_roots r.path new (node_at u.nodes r.path) u))
      (renamed_one ties u h.domain.root trees r.path new serves.one h.begins h.prefix (ap (λ b. cond b (apart_found (found (trees h.domain.root) r.path)) (rename_answer (trees h.domain.root) r.path new)) apart ∙ is)))
      (moved_roots r.path new (node_at u.nodes r.path) (called_in fits.calls)) (renamed_root r.path new (found h.domain.names r.path) h.domain)
      (renamed_names r.path new (found h.domain.names r.path) h.domain ∙ ap (λ (t : Tree). renamed_as t r.path new (found t r.path)) h.names) refl refl refl
  rename_by e new leads apart (Err (Refused why)) is a = rename_refused e new leads why a
  rename_by e new leads apart (Err (Redirect to)) is a = SentOn to a refl
  rename_by e new leads apart (Err NoMemory) is a = absurd a

  rename_now : r.op ≡ ops.Rename → (new : Parts) → clean_path fits.calls.may.process.cwd (text_or_none r.second_text) ≡ Some new → are_apart u.roots r.path new ≡ false → Led (renames_now asked.tx r new s)
  rename_now e new leads apart =
      subst (λ x. Led (renames_by asked.tx r new x s)) (sym (ap (rename_by_at r.path new) (domain_is u.roots trees r.path s h) ∙ ap (λ (t : Tree). rename_answer t r.path new) h.names))
      (rename_by e new leads apart (rename_answer (trees h.domain.root) r.path new) refl
      (subst (λ b. AsOne u.roots h.domain.root r.path (is_done (cond b (apart_found (found (trees h.domain.root) r.path)) (rename_answer (trees h.domain.root) r.path new))) (row ties u (Renames r.path new))) apart
      (renames_as_one ties u h.domain.root (trees h.domain.root) r.path new are serves.one.whole h.begins h.prefix)))

  rename_found : r.op ≡ ops.Rename → (new : Parts) → clean_path fits.calls.may.process.cwd (text_or_none r.second_text) ≡ Some new → are_apart u.roots r.path new ≡ false
      → (x : Result Node NameEnd) → found (trees h.domain.root) r.path ≡ x → AsOne u.roots h.domain.root r.path (given_by Is x) (row ties u (Finds r.path)) → Led (renames_found asked r new x s)
  rename_found e new leads apart (Ok (File file)) is a = busy_or file (is_busy file s) refl (renames_now asked.tx r new s) (rename_now e new leads apart)
  rename_found e new leads apart (Ok Dir) is a = rename_now e new leads apart
  rename_found e new leads apart (Ok (Device device)) is a = rename_now e new leads apart
  rename_found e new leads apart (Err (Refused why)) is a =
      rename_refused e new leads why
      (subst (λ x. AsOne u.roots h.domain.root r.path (is_done (cond x (apart_found (found (trees h.domain.root) r.path)) (rename_answer (trees h.domain.root) r.path new))) (row ties u (Renames r.path new)) → row ties u (Renames r.path new) ≡ Err why) (sym apart)
      (λ one. subst (λ y. AsOne u.roots h.domain.root r.path (is_done (done (renamed_found_at y (rename_target (trees h.domain.root) r.path new)))) (row ties u (Renames r.path new))) is one)
      (renames_as_one ties u h.domain.root (trees h.domain.root) r.path new are serves.one.whole h.begins h.prefix))
  rename_found e new leads apart (Err (Redirect to)) is a = SentOn to a refl
  rename_found e new leads apart (Err NoMemory) is a = absurd a

  -- names in two domains
  rename_apart : r.op ≡ ops.Rename → (new : Parts) → clean_path fits.calls.may.process.cwd (text_or_none r.second_text) ≡ Some new
      → (x : Result Node NameEnd) → AsOne u.roots h.domain.root r.path (is_done (apart_found x)) (row ties u (Renames r.path new)) → Led (apart_by asked.tx r x s)
  rename_apart e new leads (Ok node) a = rename_refused e new leads errno.XDev a
  rename_apart e new leads (Err (Refused why)) a = rename_refused e new leads errno.XDev a
  rename_apart e new leads (Err (Redirect to)) a = SentOn to a refl
  rename_apart e new leads (Err NoMemory) a = absurd a

  rename_if : r.op ≡ ops.Rename → (new : Parts) → clean_path fits.calls.may.process.cwd (text_or_none r.second_text) ≡ Some new → (b : Bool) → are_apart u.roots r.path new ≡ b → Led (cond b (refuses_apart asked.tx r s) (renames_here asked r new s))
  rename_if e new leads true apart =
      subst (λ x. Led (apart_by asked.tx r x s)) (sym found_is)
      (rename_apart e new leads (found (trees h.domain.root) r.path)
      (subst (λ b. AsOne u.roots h.domain.root r.path (is_done (cond b (apart_found (found (trees h.domain.root) r.path)) (rename_answer (trees h.domain.root) r.path new))) (row ties u (Renames r.path new))) apart
      (renames_as_one ties u h.domain.root (trees h.domain.root) r.path new are serves.one.whole h.begins h.prefix)))
  rename_if e new leads false apart =
      subst (λ x. Led (renames_found asked r new x s)) (sym found_is) (rename_found e new leads apart (found (trees h.domain.root) r.path) refl finds_is)

  rename_goes : r.op ≡ ops.Rename → (new : Parts) → r.second ≡ Some new → clean_path fits.calls.may.process.cwd (text_or_none r.second_text) ≡ Some new → Led (renames asked r s)
  rename_goes e new second leads =
      subst (λ o. Led (renames_with asked r o s)) (sym second)
      (subst (λ b. Led (cond b (refuses_apart asked.tx r s) (renames_here asked r new s))) (sym (ap (λ (rs : List Parts). are_apart rs r.path new) serves.roots))
      (rename_if e new leads (are_apart u.roots r.path new) refl))

  -- ---- list

  list_is : r.op ≡ ops.List → outcome c (called_in fits.calls) (called_by fits.calls) (name_call r) ≡ unless_refused c (called_in fits.calls) (called_by fits.calls) (list_refusal u r.path r.max) (unix_replies c (called_in fits.calls) (called_by fits.calls) (Value (length (unix_listing u r.path)) 0 (unix_listing u r.path)))
  list_is e = call_is ops.List e ∙ at_path_is (λ directory. list c (called_in fits.calls) (called_by fits.calls) directory r.max)

  list_text : r.op ≡ ops.List → (text : List ℕ) → text ≡ unix_listing u r.path → chdir_refusal u r.path ≡ None → Led (lists_text asked.tx r text s)
  list_text e text same none = by (nat_lt r.max (length text)) refl
    where
      none_so : list_refusal u r.path r.max ≡ refusal_if (nat_lt r.max (length (unix_listing u r.path))) errno.Invalid
      none_so = past_three (walk u.nodes r.path) (missing (node_at u.nodes r.path)) (no_directory (node_at u.nodes r.path)) (refusal_if (nat_lt r.max (length (unix_listing u r.path))) errno.Invalid) none

      by : (b : Bool) → nat_lt r.max (length text) ≡ b → Led (cond b (refuses_name asked.tx r errno.Invalid s) (gives_name asked.tx r (record { first = length text; second = 0; bytes = text }) s))
      by true more =
          refused_here errno.Invalid (list_is e ∙ refused_so c (called_in fits.calls) (called_by fits.calls) (list_refusal u r.path r.max) (unix_replies c (called_in fits.calls) (called_by fits.calls) (Value (length (unix_listing u r.path)) 0 (unix_listing u r.path))) errno.Invalid
          (none_so ∙ ap (λ b. refusal_if b errno.Invalid) (ap (λ (t : List ℕ). nat_lt r.max (length t)) (sym same) ∙ more)))
      by false few =
          gives_go ties c u trees s asked.tx r (record { first = length text; second = 0; bytes = text }) h serves fits.calls (replied c (called_by fits.calls) (Value (length text) 0 text))
          (list_is e ∙ ap (λ o. unless_refused c (called_in fits.calls) (called_by fits.calls) o (unix_replies c (called_in fits.calls) (called_by fits.calls) (Value (length (unix_listing u r.path)) 0 (unix_listing u r.path))))
          (none_so ∙ ap (λ b. refusal_if b errno.Invalid) (ap (λ (t : List ℕ). nat_lt r.max (length t)) (sym same) ∙ few))
          ∙ ap (λ (t : List ℕ). unix_replies c (called_in fits.calls) (called_by fits.calls) (Value (length t) 0 t)) (sym same))

  list_by_count : r.op ≡ ops.List → (x : Result ℕ NameEnd) → count_answer (trees h.domain.root) r.path ≡ x → AsOne u.roots h.domain.root r.path (given_by Many x) (row ties u (Counts r.path)) → Led (lists_by asked.tx r (listed_at (trees h.domain.root) r.path (done x)) s)
  list_by_count e (Ok many) is a =
      list_text e (listing (names_in (trees h.domain.root) r.path)) (lists_same ties u h.domain.root (trees h.domain.root) r.path many are (serves.one.sound h.domain.root h.begins) serves.one.ascending h.prefix is)
      (none_of (chdir_refusal u r.path) (Many (length (unix_names_in u.nodes r.path))) (Many many) a).0
  list_by_count e (Err (Refused why)) is a =
      refused_here why (list_is e ∙ refused_so c (called_in fits.calls) (called_by fits.calls) (list_refusal u r.path r.max) (unix_replies c (called_in fits.calls) (called_by fits.calls) (Value (length (unix_listing u r.path)) 0 (unix_listing u r.path))) why
      (kept_three (walk u.nodes r.path) (missing (node_at u.nodes r.path)) (no_directory (node_at u.nodes r.path)) (refusal_if (nat_lt r.max (length (unix_listing u r.path))) errno.Invalid) why (refusal_of (chdir_refusal u r.path) (Many (length (unix_names_in u.nodes r.path))) why a)))
  list_by_count e (Err (Redirect to)) is a = SentOn to a refl
  list_by_count e (Err NoMemory) is a = absurd a

  list_goes : r.op ≡ ops.List → Led (lists asked.tx r s)
  list_goes e =
      subst (λ x. Led (lists_by asked.tx r x s)) (sym (ap (list_by r.path) (domain_is u.roots trees r.path s h) ∙ ap (λ (t : Tree). listed_at t r.path (done (count_answer t r.path))) h.names))
      (list_by_count e (count_answer (trees h.domain.root) r.path) refl (counts ties u h.domain.root (trees h.domain.root) r.path are h.prefix))

  -- ---- all of them

  names_by_op : (op : NameOp) → r.op ≡ op → is_done_here op ≡ true → NewFits op fits.calls.may.process.cwd r → Led (names_by op asked r s)
  names_by_op ops.Walk e may new = absurd (true≢false (sym may))
  names_by_op ops.Stat e may new = stat_goes e
  names_by_op ops.Mkdir e may new = mkdir_goes e
  names_by_op ops.Rmdir e may new = rmdir_goes e
  names_by_op ops.Unlink e may new = unlink_goes e
  names_by_op ops.Rename e may new = rename_goes e new.0 new.1.0 new.1.1
  names_by_op ops.List e may new = list_goes e
  names_by_op ops.Chdir e may new = chdir_goes e

pub names_go : NamesGo
names_go ties c u trees s asked r may serves fits =
    let h = here u.roots trees r.path s serves.kept fits.here in
    record { root = h.domain.root; prefix = h.prefix; goes = names_by_op ties c u trees s asked r serves fits h r.op refl may fits.new }
