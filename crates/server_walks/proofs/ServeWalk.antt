-- What each deed of a server keeps, serving a request keeps.
use Rattle.std.proofs.Common.{◌≡◌, ℕ, ◌+◌, ◌*◌, nat_le, nat_lt, ◌==◌, Bool, true, false, ◌&&◌, cond, List, [], ◌∷◌, length, Option, Some, None, is_some, option_map, Result, Ok, Err, refl, sym, ap, subst, ◌∙◌}
use Rattle.std.specs.List.{list_any}
use Rattle.std.proofs.lemmas.Bool.{and_parts}
use Rattle.sprite_ids.specs.declared.BlockNo.{BlockNo}
use Rattle.sprite_ids.specs.declared.Callback.{Callback}
use Rattle.sprite_ids.specs.declared.Errno.{Errno}
use Rattle.sprite_ids.specs.declared.Errno.TheVariants as errnos
use Rattle.sprite_ids.specs.declared.FileId.{FileId}
use Rattle.sprite_ids.specs.declared.Grant.{Grant}
use Rattle.sprite_ids.specs.declared.Mode.{Mode}
use Rattle.sprite_ids.specs.declared.StreamNo.{StreamNo}
use Rattle.process_machine.specs.declared.Call.{Call}
use Rattle.process_machine.specs.declared.Reply.TheVariants.{Value, Error}
use Rattle.packet_bodies.specs.declared.CloseRequest.{CloseRequest}
use Rattle.packet_bodies.specs.declared.FileOp.{FileOp}
use Rattle.packet_bodies.specs.declared.FileOp.TheVariants as file_ops
use Rattle.packet_bodies.specs.declared.MakeRequest.{MakeRequest}
use Rattle.packet_bodies.specs.declared.MoveRequest.{MoveRequest}
use Rattle.packet_bodies.specs.declared.NameOp.{NameOp}
use Rattle.packet_bodies.specs.declared.NameOp.TheVariants as name_ops
use Rattle.packet_bodies.specs.declared.NameRequest.{NameRequest}
use Rattle.packet_bodies.specs.declared.OpRequest.{OpRequest}
use Rattle.packet_bodies.specs.declared.OpeningRequest.{OpeningRequest}
use Rattle.packet_bodies.specs.declared.ReplyBody.{ReplyBody}
use Rattle.packet_bodies.specs.declared.ReplyBody.TheVariants as bodies
use Rattle.packet_bodies.specs.declared.Request.{Request}
use Rattle.packet_bodies.specs.declared.Request.TheVariants as requests
use Rattle.packet_bodies.specs.declared.Target.{Target}
use Rattle.packet_bodies.specs.declared.Target.TheVariants as targets
use Rattle.packet_bodies.specs.declared.ValueReply.{ValueReply}
use Rattle.packet_bodies.specs.declared.WriteBackRequest.{WriteBackRequest}
use Rattle.unix_calls.specs.declared.Event.{Event}
use Rattle.unix_calls.specs.declared.Event.TheVariants as events
use Rattle.unix_calls.specs.declared.Part.TheVariants.{Whole}
use Rattle.file_store.specs.Content.{written, block_put}
use Rattle.file_store.specs.Files.{is_there, held}
use Rattle.server_names.specs.Names as names
use Rattle.server_names.specs.declared.NameEnd.{NameEnd}
use Rattle.server_names.specs.declared.NameEnd.TheVariants as name_ends
use Rattle.server_names.specs.declared.Node.{Node}
use Rattle.server_names.specs.declared.Node.TheVariants as nodes
use Rattle.shadow_streams.specs.declared.Shadow.{Shadow}
use Rattle.shadow_streams.specs.Shadows as shadows
use Rattle.swap_pages.specs.Swap as swaps
use Rattle.version_table.specs.declared.Action.{Action}
use Rattle.version_table.specs.Decisions.{answering}
use Rattle.version_table.specs.Files as tables
use Rattle.version_table.specs.Files.{calls_of, is_closed}
use Rattle.version_table.specs.Lists.{is_any}
use Rattle.version_table.specs.Modes.{mode_of_grant}
use Rattle.version_table.specs.Opens.{stream_mode}
use Rattle.version_table.specs.Versions as versions
use Rattle.server_kernel.specs.declared.Asked.{Asked}
use Rattle.server_kernel.specs.declared.Domain.{Domain}
use Rattle.server_kernel.specs.declared.Server.{Server}
use Rattle.server_kernel.specs.Directory as directory
use Rattle.server_kernel.specs.Directory.{Parts}
use Rattle.server_kernel.specs.Files as files
use Rattle.server_kernel.specs.Flags.{has_bit, opening_mode}
use Rattle.server_kernel.specs.Grants as grants
use Rattle.server_kernel.specs.Listing as listing
use Rattle.server_kernel.specs.Names as naming
use Rattle.server_kernel.specs.OpenCalls.{gives_open, open_call}
use Rattle.server_kernel.specs.Opens as opening
use Rattle.server_kernel.specs.Ops as operating
use Rattle.server_kernel.specs.Requests as requesting
use Rattle.server_kernel.specs.Says as says
use Rattle.server_kernel.specs.Served as serving
use Rattle.server_kernel.specs.Waits as waiting
use Rattle.server_walks.specs.Actions.{action_by, action_of}
use Rattle.server_walks.specs.Served.{is_refusal, is_served}
use Rattle.server_walks.specs.Sorts.{fits}
use Rattle.server_walks.proofs.Deeds.{Any, IsAbout, IsAnswer, Keeps, KeepsFit, LeadsSo, closed, closed_shared, created_is, gone, gone_is, is_a_file, may_wait, names_are, shares_of, unnamed}
use Rattle.server_walks.proofs.NameEnds.{EndsSo, ResultSo, count_so, found_so, list_so, make_so, remove_so, rename_so}

-- ---- what can be removed was found

ok_by : (b : Bool) (node out : Node) (end : NameEnd) → cond b (Ok node) (Err end) ≡ Ok out → node ≡ out
ok_by true node out end e = cc
ok_by false node out end e = absurd (cc)

removable_is : (node : Node) (empty : Bool) (tree : names.Tree) (path : Parts) (out : Node) → names.removable tree path empty node ≡ Ok out → node ≡ out
removable_is nodes.Dir true tree path out e = ok_by (names.count tree path == 0) nodes.Dir out _ e
removable_is (nodes.File file) true tree path out e = absurd (cc)
removable_is (nodes.Device device) true tree path out e = absurd (cc)
removable_is nodes.Dir false tree path out e = absurd (cc)
removable_is (nodes.File file) false tree path out e = cc
removable_is (nodes.Device device) false tree path out e = cc

-- a directory is no file
empty_is : (node : Node) (tree : names.Tree) (path : Parts) (out : Node) → names.removable tree path true node ≡ Ok out → is_a_file out ≡ false
empty_is nodes.Dir tree path out e = ap is_a_file (sym (ok_by (names.count tree path == 0) nodes.Dir out _ e))
empty_is (nodes.File file) tree path out e = absurd (cc)
empty_is (nodes.Device device) tree path out e = absurd (cc)

found_by : (b : Bool) (r : Result Node NameEnd) (tree : names.Tree) (path : Parts) (empty : Bool) (end : NameEnd) (node : Node) → cond b (Err end) (names.removable_found tree path empty r) ≡ Ok node → r ≡ Ok node
found_by true r tree path empty end node e = absurd (cc)
found_by false (Ok here) tree path empty end node e = ap Ok (removable_is here empty tree path node e)
found_by false (Err why) tree path empty end node e = absurd (cc)

emptied_by : (b : Bool) (r : Result Node NameEnd) (tree : names.Tree) (path : Parts) (end : NameEnd) (node : Node) → cond b (Err end) (names.removable_found tree path true r) ≡ Ok node → is_a_file node ≡ false
emptied_by true r tree path end node e = absurd (cc)
emptied_by false (Ok here) tree path end node e = empty_is here tree path node e
emptied_by false (Err why) tree path end node e = absurd (cc)

removed_found : (o : Option Domain) (path : Parts) (empty : Bool) (node : Node) → directory.remove_by path empty o ≡ Ok node → directory.found_by path o ≡ Ok node
removed_found (Some domain) path empty node e = found_by (length path == 0) (names.found domain.names path) domain.names path empty _ node e
removed_found None path empty node e = absurd (cc)

removed_empty : (o : Option Domain) (path : Parts) (node : Node) → directory.remove_by path true o ≡ Ok node → is_a_file node ≡ false
removed_empty (Some domain) path node e = emptied_by (length path == 0) (names.found domain.names path) domain.names path _ node e
removed_empty None path node e = absurd (cc)

-- ---- the walk

module _ (K : Asked → Type 0) (F : Asked → versions.Files → List Shadow → Type 0) (P : Server → Type 0) (keeps : KeepsFit K F P) where
  on_if : (b : Bool) (s t : Server) → (b ≡ true → P s) → (b ≡ false → P t) → P (cond b s t)
  on_if true s t p q = p refl
  on_if false s t p q = q refl

  -- ---- what is said

  told : (asked : Asked) (body : Request) (reply : ReplyBody) (s : Server) → asked.body ≡ body → K asked → fits body reply ≡ true → LeadsSo s.domains body reply → P s → P (says.answers asked.tx reply s)
  told asked body reply s e k fit leads p =
      let is : IsAnswer s.domains body reply = record { sort = fit; leads = leads } in
      keeps.answers s asked reply k (subst (λ (request : Request). IsAnswer s.domains request reply) (sym e) is) p

  gave : (asked : Asked) (body : Request) (pid number : ℕ) (call : Call) (given : ValueReply) (s : Server) → asked.body ≡ body → K asked → fits body (bodies.Value given) ≡ true → P s → P (says.gives (record { tx = asked.tx; pid = pid; number = number }) call given s)
  gave asked body pid number call given s e k fit p =
      let event : Event = events.Enter (record { pid = pid; number = number; part = Whole; call = Some call; reply = Some (Value given.first given.second given.bytes) }) in
      told asked body (bodies.Value given) (says.notes event s) e k fit tt (keeps.notes s event refl p)

  refused : (asked : Asked) (body : Request) (pid number : ℕ) (call : Call) (why : Errno) (s : Server) → asked.body ≡ body → K asked → fits body (bodies.Refused why) ≡ true → is_refusal why ≡ true → P s → P (says.refuses (record { tx = asked.tx; pid = pid; number = number }) call why s)
  refused asked body pid number call why s e k fit h p =
      let event : Event = events.Enter (record { pid = pid; number = number; part = Whole; call = Some call; reply = Some (Error why) }) in
      told asked body (bodies.Refused why) (says.notes event s) e k fit tt (keeps.notes s event h p)

  named : (asked : Asked) (r : NameRequest) (given : ValueReply) (s : Server) → asked.body ≡ requests.Name r → K asked → P s → P (naming.gives_name asked.tx r given s)
  named asked r given s e k p = gave asked (requests.Name r) r.pid r.number (naming.name_call r) given s e k refl p

  name_refused : (asked : Asked) (r : NameRequest) (why : Errno) (s : Server) → asked.body ≡ requests.Name r → K asked → is_refusal why ≡ true → P s → P (naming.refuses_name asked.tx r why s)
  name_refused asked r why s e k h p = refused asked (requests.Name r) r.pid r.number (naming.name_call r) why s e k refl h p

  open_refused : (asked : Asked) (r : OpeningRequest) (why : Errno) (s : Server) → asked.body ≡ requests.Opening r → K asked → is_refusal why ≡ true → P s → P (opening.refuses_open asked.tx r why s)
  open_refused asked r why s e k h p = refused asked (requests.Opening r) r.pid r.number (open_call r) why s e k refl h p

  -- ---- what a request carries is what is asked of the table of opens

  opening_is : (asked : Asked) (r : OpeningRequest) (mode : Mode) → asked.body ≡ requests.Opening r → opening_mode r.flags ≡ Some mode → action_of asked ≡ Some (opening.opening_of asked.from r mode)
  opening_is asked r mode e m = ap (λ (body : Request). action_by body asked.from) e ∙ ap (option_map (opening.opening_of asked.from r)) m

  opening_about : (asked : Asked) (r : OpeningRequest) → asked.body ≡ requests.Opening r → (file : FileId) → IsAbout asked file
  opening_about asked r e file other f = absurd (let no : requests.Opening r ≡ requests.Move other = sym e ∙ f in cc)

  moving_about : (asked : Asked) (r : MoveRequest) (file : FileId) → asked.body ≡ requests.Move r → r.object ≡ targets.File file → IsAbout asked file
  moving_about asked r file e o other f = ap (λ (one : MoveRequest). one.object) (let same : requests.Move other ≡ requests.Move r = sym f ∙ e in moves_same other r same) ∙ o
    where
      moves_same : (one other : MoveRequest) → requests.Move one ≡ requests.Move other → one ≡ other
      moves_same one other e = cc

  moving_is : (asked : Asked) (r : MoveRequest) → asked.body ≡ requests.Move r → action_of asked ≡ Some (requesting.moving_of asked.from r)
  moving_is asked r e = ap (λ (body : Request). action_by body asked.from) e

  -- ---- names and bytes

  made : (path : Parts) (node : Node) (done : Unit {0}) (s : Server) → directory.make_in path s ≡ Ok done → is_a_file node ≡ false → P s → P (directory.with_made path node s)
  made path node done s e off p = subst P (sym (names_are path (directory.made_domain path node) s)) (keeps.makes s path node done e off p)

  removed : (path : Parts) (node : Node) (s : Server) → directory.found_in path s ≡ Ok node → is_a_file node ≡ false → P s → P (directory.with_removed path s)
  removed path node s e off p = subst P (sym (names_are path (directory.removed_domain path) s)) (keeps.removes s path node e off p)

  renamed : (old new : Parts) (done : Unit {0}) (s : Server) → directory.rename_in old new s ≡ Ok done → P s → P (directory.with_renamed old new s)
  renamed old new done s e p = subst P (sym (names_are old (directory.renamed_domain old new) s)) (keeps.renames s old new done e p)

  emptied : (file : FileId) (s : Server) → P s → P (files.emptied file s)
  emptied file s p = on_if (is_there s.store.files file) (files.with_content file [] s) s (λ there. keeps.writes s file [] there p) (λ off. p)

  written_to : (file : FileId) (start : ℕ) (bytes : List ℕ) (s : Server) → P s → P (files.written_to file start bytes s)
  written_to file start bytes s p =
      let there : Bool = is_there s.store.files file in
      let fit : Bool = nat_le (start + length bytes) s.store.limit in
      let new : List ℕ = written (held s.store.files file) start bytes in
      on_if (there && fit) (files.with_content file new s) s (λ e. keeps.writes s file new (and_parts there fit e).0 p) (λ off. p)

  block_put_in : (file : FileId) (block : BlockNo) (size : ℕ) (bytes : List ℕ) (s : Server) → P s → P (files.block_put_in file block size bytes s)
  block_put_in file block size bytes s p =
      let there : Bool = is_there s.store.files file in
      let fit : Bool = nat_le (4096 * block.0 + length bytes) s.store.limit in
      let sized : Bool = nat_le size s.store.limit in
      let new : List ℕ = block_put (held s.store.files file) block.0 size bytes in
      on_if ((there && fit) && sized) (files.with_content file new s) s (λ e. keeps.writes s file new (and_parts there fit (and_parts (there && fit) sized e).0).0 p) (λ off. p)

  -- ---- name calls

  module _ (asked : Asked) (r : NameRequest) (e : asked.body ≡ requests.Name r) (k : K asked) where
    ends_name : (end : NameEnd) (s : Server) → EndsSo s.domains end → P s → P (naming.ends_name asked.tx r end s)
    ends_name (name_ends.Errno why) s h p = name_refused asked r why s e k h p
    ends_name (name_ends.Redirect path) s h p = told asked (requests.Name r) (bodies.Redirect path) s e k refl h p
    ends_name name_ends.NoMemory s h p = p

    stats_directory : (found : Result ℕ NameEnd) (s : Server) → ResultSo s.domains found → P s → P (naming.stats_directory asked.tx r found s)
    stats_directory (Ok count) s h p = named asked r (says.value 2 count) s e k p
    stats_directory (Err end) s h p = ends_name end s h p

    stats_node : (node : Node) (s : Server) → P s → P (naming.stats_node asked.tx r node s)
    stats_node (nodes.File file) s p = named asked r (says.value 1 0) s e k p
    stats_node (nodes.Device device) s p = named asked r (says.value 3 0) s e k p
    stats_node nodes.Dir s p = stats_directory (directory.count_in r.path s) s (count_so r.path s) p

    stats : (found : Result Node NameEnd) (s : Server) → ResultSo s.domains found → P s → P (naming.stats_found asked.tx r found s)
    stats (Ok node) s h p = stats_node node s p
    stats (Err end) s h p = ends_name end s h p

    makes_directory : (found : Result (Unit {0}) NameEnd) (s : Server) → ResultSo s.domains found → directory.make_in r.path s ≡ found → P s → P (naming.makes_directory_by asked.tx r found s)
    makes_directory (Ok done) s h found p = named asked r (says.value 0 0) (directory.with_made r.path nodes.Dir s) e k (made r.path nodes.Dir done s found refl p)
    makes_directory (Err end) s h found p = ends_name end s h p

    removes_empty : (found : Result Node NameEnd) (s : Server) → ResultSo s.domains found → directory.remove_in r.path true s ≡ found → P s → P (naming.removes_empty asked.tx r found s)
    removes_empty (Ok node) s h found p =
        let domain : Option Domain = directory.domain_at r.path s in
        named asked r (says.value 0 0) (directory.with_removed r.path s) e k (removed r.path node s (removed_found domain r.path true node found) (removed_empty domain r.path node found) p)
    removes_empty (Err end) s h found p = ends_name end s h p

    removes_directory : (s : Server) → P s → P (naming.removes_directory asked.tx r s)
    removes_directory s p = on_if (directory.is_root r.path s) _ _ (λ t. name_refused asked r errnos.Busy s e k refl p) (λ t. removes_empty (directory.remove_in r.path true s) s (remove_so r.path s true) refl p)

    lists : (found : Result (List ℕ) NameEnd) (s : Server) → ResultSo s.domains found → P s → P (naming.lists_by asked.tx r found s)
    lists (Ok text) s h p = on_if (nat_lt r.max (length text)) _ _ (λ t. name_refused asked r errnos.Invalid s e k refl p) (λ t. named asked r (record { first = length text; second = 0; bytes = text }) s e k p)
    lists (Err end) s h p = ends_name end s h p

    changes_to : (node : Node) (s : Server) → P s → P (naming.changes_to asked.tx r node s)
    changes_to nodes.Dir s p = named asked r (says.value 0 0) s e k p
    changes_to (nodes.File file) s p = name_refused asked r errnos.NotDir s e k refl p
    changes_to (nodes.Device device) s p = name_refused asked r errnos.NotDir s e k refl p

    changes_directory : (found : Result Node NameEnd) (s : Server) → ResultSo s.domains found → P s → P (naming.changes_found asked.tx r found s)
    changes_directory (Ok node) s h p = changes_to node s p
    changes_directory (Err end) s h p = ends_name end s h p

    -- the name of a file goes, and the file where nobody has it open
    taken_by : (b : Bool) (file : FileId) (s : Server) → is_any (files.kept_of file s).opens ≡ b → directory.found_in r.path s ≡ Ok (nodes.File file) → files.is_busy file s ≡ false → P s
        → P (cond b (naming.gives_name asked.tx r (says.value 0 0) (unnamed file r.path s)) (files.forgotten file (naming.gives_name asked.tx r (says.value 0 0) (unnamed file r.path s))))
    taken_by true file s opens found free p = named asked r (says.value 0 0) (unnamed file r.path s) e k (keeps.unlinks s r.path file found free opens p)
    taken_by false file s opens found free p =
        subst P (sym (gone_is file (naming.gives_name asked.tx r (says.value 0 0) (unnamed file r.path s)))) (named asked r (says.value 0 0) (gone file (unnamed file r.path s)) e k (keeps.forgets s r.path file found free opens p))

    takes_away : (found : Result Node NameEnd) (s : Server) → ResultSo s.domains found → directory.remove_in r.path false s ≡ found → ((file : FileId) → directory.found_in r.path s ≡ Ok (nodes.File file) → files.is_busy file s ≡ false) → P s → P (naming.forgets_unnamed (naming.unnamed_by found) (naming.takes_name_by asked.tx r found s))
    takes_away (Ok (nodes.File file)) s h away free p =
        let found : directory.found_in r.path s ≡ Ok (nodes.File file) = removed_found (directory.domain_at r.path s) r.path false (nodes.File file) away in
        subst (λ (t : Server). P (naming.forgets_closed file (files.marked file (naming.gives_name asked.tx r (says.value 0 0) t)))) (sym (names_are r.path (directory.removed_domain r.path) s))
        (taken_by (is_any (files.kept_of file s).opens) file s refl found (free file found) p)
    takes_away (Ok nodes.Dir) s h away free p = named asked r (says.value 0 0) (directory.with_removed r.path s) e k (removed r.path nodes.Dir s (removed_found (directory.domain_at r.path s) r.path false nodes.Dir away) refl p)
    takes_away (Ok (nodes.Device device)) s h away free p = named asked r (says.value 0 0) (directory.with_removed r.path s) e k (removed r.path (nodes.Device device) s (removed_found (directory.domain_at r.path s) r.path false (nodes.Device device) away) refl p)
    takes_away (Err end) s h away free p = ends_name end s h p

    unlinks_found : (found : Result Node NameEnd) (s : Server) → ResultSo s.domains found → directory.found_in r.path s ≡ found → P s → P (naming.unlinks_found asked r found s)
    unlinks_found (Ok (nodes.File file)) s h there p =
        on_if (files.is_busy file s) _ _ (λ busy. keeps.waits s asked file k (ap may_wait e) busy p)
        (λ free. takes_away (directory.remove_in r.path false s) s (remove_so r.path s false) refl (λ other f. subst (λ (o : Result Node NameEnd). files.is_busy (file_of file o) s ≡ false) (sym there ∙ f) free) p)
      where
        file_of : FileId → Result Node NameEnd → FileId
        file_of other (Ok (nodes.File file)) = file
        file_of other (Ok nodes.Dir) = other
        file_of other (Ok (nodes.Device device)) = other
        file_of other (Err end) = other
    unlinks_found (Ok nodes.Dir) s h there p = takes_away (directory.remove_in r.path false s) s (remove_so r.path s false) refl (λ other f. absurd (let off : Ok nodes.Dir ≡ Ok (nodes.File other) = sym there ∙ f in cc)) p
    unlinks_found (Ok (nodes.Device device)) s h there p =
        takes_away (directory.remove_in r.path false s) s (remove_so r.path s false) refl (λ other f. absurd (let off : Ok (nodes.Device device) ≡ Ok (nodes.File other) = sym there ∙ f in cc)) p
    unlinks_found (Err end) s h there p = ends_name end s h p

    renames_by : (found : Result (Unit {0}) NameEnd) (new : Parts) (s : Server) → ResultSo s.domains found → directory.rename_in r.path new s ≡ found → P s → P (naming.renames_by asked.tx r new found s)
    renames_by (Ok done) new s h found p = named asked r (says.value 0 0) (directory.with_renamed r.path new s) e k (renamed r.path new done s found p)
    renames_by (Err end) new s h found p = ends_name end s h p

    renames_now : (new : Parts) (s : Server) → P s → P (naming.renames_now asked.tx r new s)
    renames_now new s p = renames_by (directory.rename_in r.path new s) new s (rename_so r.path s new) refl p

    renames_found : (found : Result Node NameEnd) (new : Parts) (s : Server) → ResultSo s.domains found → P s → P (naming.renames_found asked r new found s)
    renames_found (Ok (nodes.File file)) new s h p = on_if (files.is_busy file s) _ _ (λ busy. keeps.waits s asked file k (ap may_wait e) busy p) (λ free. renames_now new s p)
    renames_found (Ok nodes.Dir) new s h p = renames_now new s p
    renames_found (Ok (nodes.Device device)) new s h p = renames_now new s p
    renames_found (Err end) new s h p = ends_name end s h p

    apart : (found : Result Node NameEnd) (s : Server) → ResultSo s.domains found → P s → P (naming.apart_by asked.tx r found s)
    apart (Ok node) s h p = name_refused asked r errnos.XDev s e k refl p
    apart (Err (name_ends.Errno why)) s h p = name_refused asked r errnos.XDev s e k refl p
    apart (Err (name_ends.Redirect path)) s h p = told asked (requests.Name r) (bodies.Redirect path) s e k refl h p
    apart (Err name_ends.NoMemory) s h p = p

    renames_with : (o : Option Parts) (s : Server) → P s → P (naming.renames_with asked r o s)
    renames_with (Some new) s p = on_if (directory.are_apart r.path new s) _ _ (λ t. apart (directory.found_in r.path s) s (found_so r.path s) p) (λ t. renames_found (directory.found_in r.path s) new s (found_so r.path s) p)
    renames_with None s p = p

    names_call : (op : NameOp) (s : Server) → P s → P (naming.names_by op asked r s)
    names_call name_ops.Walk s p = p
    names_call name_ops.Stat s p = stats (directory.found_in r.path s) s (found_so r.path s) p
    names_call name_ops.Mkdir s p = makes_directory (directory.make_in r.path s) s (make_so r.path s) refl p
    names_call name_ops.Rmdir s p = removes_directory s p
    names_call name_ops.Unlink s p = unlinks_found (directory.found_in r.path s) s (found_so r.path s) refl p
    names_call name_ops.Rename s p = renames_with r.second s p
    names_call name_ops.List s p = lists (listing.list_in r.path s) s (list_so r.path s) p
    names_call name_ops.Chdir s p = changes_directory (directory.found_in r.path s) s (found_so r.path s) p

  makes_device : (found : Result (Unit {0}) NameEnd) (asked : Asked) (r : MakeRequest) (s : Server) → asked.body ≡ requests.Make r → K asked → ResultSo s.domains found → directory.make_in r.path s ≡ found → P s → P (naming.makes_device_by asked.tx r found s)
  makes_device (Ok done) asked r s e k h found p = gave asked (requests.Make r) r.pid r.number _ (says.value r.fd 0) (directory.with_made r.path (nodes.Device r.device) s) e k refl (made r.path (nodes.Device r.device) done s found refl p)
  makes_device (Err (name_ends.Errno why)) asked r s e k h found p = refused asked (requests.Make r) r.pid r.number _ why s e k refl h p
  makes_device (Err (name_ends.Redirect path)) asked r s e k h found p = told asked (requests.Make r) (bodies.Redirect path) s e k refl h p
  makes_device (Err name_ends.NoMemory) asked r s e k h found p = p

  -- ---- decisions and grants

  -- a grant is noted, and that the kernel has the stream open
  opened_noted : (file : FileId) (stream : StreamNo) (kernel : ℕ) (grant : Grant) (s : Server) → P s → P (grants.notes_opened file stream kernel grant s)
  opened_noted file stream kernel grant s p =
      let event : Event = events.Grant file kernel grant.stamp (mode_of_grant grant.on) in
      keeps.notes (says.notes event s) (events.Opened file stream kernel (files.mode_in file stream s)) refl (keeps.notes s event refl p)

  opened_cut : (asked : Asked) (r : OpeningRequest) (file : FileId) (grant : Grant) (s : Server) → asked.body ≡ requests.Opening r → K asked → P s → P (grants.grants_sized asked r file grant s)
  opened_cut asked r file grant s e k p =
      let opened : Server = grants.notes_opened file r.stream asked.from grant s in
      told asked (requests.Opening r) (bodies.Opened (record { object = targets.File file; grant = Some grant; size = grant.size })) (gives_open asked.tx r opened) e k refl tt (keeps.notes opened _ refl (opened_noted file r.stream asked.from grant s p))

  opened_by : (b : Bool) (asked : Asked) (r : OpeningRequest) (file : FileId) (grant : Grant) (s : Server) → asked.body ≡ requests.Opening r → K asked → P s → P (grants.grants_cut asked r file grant (cond b (files.emptied file s) s))
  opened_by true asked r file grant s e k p = opened_cut asked r file (files.sized file grant (files.emptied file s)) (files.emptied file s) e k (emptied file s p)
  opened_by false asked r file grant s e k p = opened_cut asked r file (files.sized file grant s) s e k p

  closed_noted : (b : Bool) (file : FileId) (stream : StreamNo) (kernel : ℕ) (mode : Mode) (s : Server) → P s → P (cond b s (says.notes (events.Closed file stream kernel mode) s))
  closed_noted true file stream kernel mode s p = p
  closed_noted false file stream kernel mode s p = keeps.notes s (events.Closed file stream kernel mode) refl p

  moved : (asked : Asked) (r : MoveRequest) (file : FileId) (grant : Grant) (s : Server) → asked.body ≡ requests.Move r → K asked → P s → P (grants.moved_sized asked r file grant s)
  moved asked r file grant s e k p =
      let opened : Server = grants.notes_opened file r.stream r.to grant s in
      told asked (requests.Move r) (bodies.Moved (Some grant) 1) (grants.leaves_source asked r file opened) e k refl tt
      (closed_noted (nat_lt 0 (files.count_at file r.stream asked.from opened)) file r.stream asked.from (files.mode_in file r.stream opened) opened (opened_noted file r.stream r.to grant s p))

  -- what is left of a grant, once the shadows are as it wants
  pub fit_grants : (body : Request) (asked : Asked) (file : FileId) (grant : Grant) (s : Server) → asked.body ≡ body → K asked → P (shares_of body asked file s) → P (grants.grants_by body asked file grant s)
  fit_grants (requests.Opening r) asked file grant s e k p = opened_by (has_bit 8 r.flags) asked r file grant s e k p
  fit_grants (requests.Move r) asked file grant s e k p = let after : Server = grants.shares asked r file s in moved asked r file (files.sized file grant after) after e k p
  fit_grants body asked file grant s e k p = p

  decided_by : (calls : List Callback) (asked : Asked) (file : FileId) (action : Action) (s : Server) → K asked → action_of asked ≡ Some action → IsAbout asked file → F asked s.versions.files s.shadows → files.is_busy file s ≡ false → calls_of s.versions.cached (files.kept_of file s) action ≡ calls → P s
      → P (grants.decided_as asked file (answering (tables.told (tables.is_uncached s.versions.cached (files.kept_of file s) action) (files.kept_of file s)) action calls) (grants.with_decided file action s))
  decided_by [] asked file action s k may about f free e p = fit_grants asked.body asked file _ (grants.with_decided file action s) refl k (keeps.gives s asked file action may about f free e p)
  decided_by (call ∷ calls) asked file action s k may about f free e p = keeps.asks s asked file action call calls k may free e p

  decides : (asked : Asked) (file : FileId) (action : Action) (s : Server) → K asked → may_wait asked.body ≡ true → action_of asked ≡ Some action → IsAbout asked file → F asked s.versions.files s.shadows → P s → P (grants.decides asked file action s)
  decides asked file action s k wait may about f p = on_if (files.is_busy file s) _ _ (λ busy. keeps.waits s asked file k wait busy p) (λ free. decided_by (calls_of s.versions.cached (files.kept_of file s) action) asked file action s k may about f free refl p)

  -- ---- opens

  module _ (asked : Asked) (r : OpeningRequest) (e : asked.body ≡ requests.Opening r) (k : K asked) where
    ends_open : (end : NameEnd) (s : Server) → EndsSo s.domains end → P s → P (opening.ends_open asked.tx r end s)
    ends_open (name_ends.Errno why) s h p = open_refused asked r why s e k h p
    ends_open (name_ends.Redirect path) s h p = told asked (requests.Opening r) (bodies.Redirect path) s e k refl h p
    ends_open name_ends.NoMemory s h p = p

    opens_node : (node : Node) (mode : Mode) (s : Server) → action_of asked ≡ Some (opening.opening_of asked.from r mode) → F asked s.versions.files s.shadows → P s → P (opening.opens_node asked r mode node s)
    opens_node nodes.Dir mode s may f p = open_refused asked r errnos.IsDir s e k refl p
    opens_node (nodes.Device device) mode s may f p = told asked (requests.Opening r) (bodies.Opened (record { object = targets.Device device; grant = None; size = 0 })) (gives_open asked.tx r s) e k refl tt (keeps.notes s _ refl p)
    opens_node (nodes.File file) mode s may f p = decides asked file (opening.opening_of asked.from r mode) s k (ap may_wait e) may (opening_about asked r e file) f p

    creates_by : (found : Result (Unit {0}) NameEnd) (mode : Mode) (s : Server) → ResultSo s.domains found → action_of asked ≡ Some (opening.opening_of asked.from r mode) → F asked s.versions.files s.shadows → directory.make_in r.path s ≡ found → P s → P (opening.creates_by asked r mode found s)
    creates_by (Ok done) mode s h may f found p =
        let named : Server = directory.with_made r.path (nodes.File (opening.new_file s)) s in
        let file : FileId = opening.new_file named in
        decides asked file (opening.opening_of asked.from r mode) (opening.counts_file (files.made_file file named)) k (ap may_wait e) may (opening_about asked r e file)
        (subst (λ (t : Server). F asked t.versions.files t.shadows) (sym (created_is r.path s)) f) (subst P (sym (created_is r.path s)) (keeps.creates s r.path done found p))
    creates_by (Err end) mode s h may f found p = ends_open end s h p

    opens_found : (found : Result Node NameEnd) (mode : Mode) (s : Server) → ResultSo s.domains found → action_of asked ≡ Some (opening.opening_of asked.from r mode) → F asked s.versions.files s.shadows → P s → P (opening.opens_found asked r mode found s)
    opens_found (Ok node) mode s h may f p = opens_node node mode s may f p
    opens_found (Err (name_ends.Errno why)) mode s h may f p = on_if (opening.is_no_entry why && has_bit 4 r.flags) _ _ (λ t. creates_by (directory.make_in r.path s) mode s (make_so r.path s) may f refl p) (λ t. open_refused asked r why s e k h p)
    opens_found (Err (name_ends.Redirect path)) mode s h may f p = told asked (requests.Opening r) (bodies.Redirect path) s e k refl h p
    opens_found (Err name_ends.NoMemory) mode s h may f p = p

    opens_with : (o : Option Mode) (s : Server) → opening_mode r.flags ≡ o → F asked s.versions.files s.shadows → P s → P (opening.opens_with asked r o s)
    opens_with (Some mode) s m f p = opens_found (directory.found_in r.path s) mode s (found_so r.path s) (opening_is asked r mode e m) f p
    opens_with None s m f p = open_refused asked r errnos.Invalid s e k refl p

  -- ---- operations

  operates_by : (op : FileOp) (asked : Asked) (r : OpRequest) (file : FileId) (s : Server) → asked.body ≡ requests.Op r → K asked → P s → P (operating.operates_by op asked.tx r file s)
  operates_by file_ops.Read asked r file s e k p =
      let start : ℕ = files.start_in r.stream r.offset s in
      let bytes : List ℕ = files.bytes_in file start r.length s in
      gave asked (requests.Op r) r.pid r.number _ (record { first = length bytes; second = 0; bytes = bytes }) (operating.moves_offset r.stream (start + length bytes) s) e k refl (keeps.offsets s r.stream (start + length bytes) p)
  operates_by file_ops.Write asked r file s e k p =
      let start : ℕ = files.start_in r.stream r.offset s in
      let after : Server = files.written_to file start r.bytes s in
      on_if (nat_lt s.store.limit (start + length r.bytes)) _ _ (λ t. refused asked (requests.Op r) r.pid r.number (operating.write_call r) errnos.TooBig s e k refl refl p)
      (λ t. gave asked (requests.Op r) r.pid r.number (operating.write_call r) (says.value (length r.bytes) 0) (operating.moves_offset r.stream (start + length r.bytes) after) e k refl (keeps.offsets after r.stream (start + length r.bytes) (written_to file start r.bytes s p)))
  operates_by file_ops.Append asked r file s e k p =
      let start : ℕ = files.size_in file s in
      let end : ℕ = start + length r.bytes in
      let after : Server = files.written_to file start r.bytes s in
      let moved : Server = operating.moves_offset r.stream end after in
      on_if (nat_lt s.store.limit end) _ _ (λ t. refused asked (requests.Op r) r.pid r.number (operating.write_call r) errnos.TooBig s e k refl refl p)
      (λ t. told asked (requests.Op r) (bodies.Value (says.value (length r.bytes) end)) (says.enters (operating.op_caller asked.tx r) (operating.write_call r) (Value (length r.bytes) 0 []) moved) e k refl tt
      (keeps.notes moved _ refl (keeps.offsets after r.stream end (written_to file start r.bytes s p))))
  operates_by file_ops.Size asked r file s e k p = gave asked (requests.Op r) r.pid r.number _ (says.value (files.size_in file s) 0) s e k refl p
  operates_by file_ops.Seek asked r file s e k p =
      let start : ℕ = files.start_in r.stream r.offset s in
      gave asked (requests.Op r) r.pid r.number _ (says.value start 0) (operating.moves_offset r.stream start s) e k refl (keeps.offsets s r.stream start p)

  -- ---- moves, closes and requests for bytes

  moves_to : (target : Target) (asked : Asked) (r : MoveRequest) (s : Server) → asked.body ≡ requests.Move r → r.object ≡ target → K asked → F asked s.versions.files s.shadows → P s → P (requesting.moves_to target asked r s)
  moves_to (targets.File file) asked r s e o k f p = decides asked file (requesting.moving_of asked.from r) s k (ap may_wait e) (moving_is asked r e) (moving_about asked r file e o) f p
  moves_to (targets.Device device) asked r s e o k f p = told asked (requests.Move r) (bodies.Moved None 1) s e k refl tt p

  module _ (asked : Asked) (r : CloseRequest) (e : asked.body ≡ requests.Close r) where
    -- with what is noted of the close, where nothing of the stream is left at the kernel
    last_by : (b left : Bool) (file : FileId) (mode : Mode) (event : Event) (s : Server) → is_served event ≡ true → (is_closed (files.kept_of file s) asked.from r.stream r.grants && list_any (files.is_that file) s.unlinked) ≡ b → r.object ≡ targets.File file
        → F asked s.versions.files s.shadows → files.is_busy file s ≡ false → stream_mode (files.kept_of file s).opens r.stream ≡ Some mode → P s
        → P (cond b (files.forgotten file (cond left (closed_shared asked r file s) (says.notes event (closed_shared asked r file s)))) (cond left (closed_shared asked r file s) (says.notes event (closed_shared asked r file s))))
    last_by true true file mode event s t last o f free there p = subst P (sym (gone_is file (closed_shared asked r file s))) (keeps.closes_last s asked r file mode e o f free there last p)
    last_by true false file mode event s t last o f free there p =
        let over : Server = closed_shared asked r file s in
        subst P (sym (gone_is file (says.notes event over))) (keeps.notes (gone file over) event t (keeps.closes_last s asked r file mode e o f free there last p))
    last_by false true file mode event s t last o f free there p = keeps.closes s asked r file mode e o f free there last p
    last_by false false file mode event s t last o f free there p = keeps.notes (closed_shared asked r file s) event t (keeps.closes s asked r file mode e o f free there last p)

    noted_by : (left : Bool) (file : FileId) (mode : Mode) (event : Event) (s : Server) → is_served event ≡ true → r.object ≡ targets.File file → F asked s.versions.files s.shadows → files.is_busy file s ≡ false → stream_mode (files.kept_of file s).opens r.stream ≡ Some mode → P s
        → P (requesting.forgets_last (is_closed (files.kept_of file s) asked.from r.stream r.grants) file (requesting.drops_shared asked.from r (cond left (closed file asked.from r.stream r.grants s) (says.notes event (closed file asked.from r.stream r.grants s)))))
    noted_by true file mode event s t o f free there p = last_by (is_closed (files.kept_of file s) asked.from r.stream r.grants && list_any (files.is_that file) s.unlinked) true file mode event s t refl o f free there p
    noted_by false file mode event s t o f free there p = last_by (is_closed (files.kept_of file s) asked.from r.stream r.grants && list_any (files.is_that file) s.unlinked) false file mode event s t refl o f free there p

    dropped_by_test : (b : Bool) (file : FileId) (mode : Mode) (s : Server) → b ≡ false → r.object ≡ targets.File file → F asked s.versions.files s.shadows → files.is_busy file s ≡ false → stream_mode (files.kept_of file s).opens r.stream ≡ Some mode → P s
        → P (requesting.forgets_last (cond b false (is_closed (files.kept_of file s) asked.from r.stream r.grants)) file (requesting.drops_shared asked.from r (grants.notes_closed file r.stream asked.from mode (cond b s (closed file asked.from r.stream r.grants s)))))
    dropped_by_test true file mode s t o f free there p = absurd (cc)
    dropped_by_test false file mode s t o f free there p =
        let over : Server = closed file asked.from r.stream r.grants s in
        noted_by (nat_lt 0 (files.count_at file r.stream asked.from over)) file mode (events.Closed file r.stream asked.from mode) s refl o f free there p

    closes_by : (found : Option Mode) (file : FileId) (s : Server) → r.object ≡ targets.File file → F asked s.versions.files s.shadows → files.is_busy file s ≡ false → stream_mode (files.kept_of file s).opens r.stream ≡ found → P s → P (requesting.closes_by asked r file found s)
    closes_by (Some mode) file s o f free there p = dropped_by_test (files.is_busy file s) file mode s free o f free there p
    closes_by None file s o f free there p = p

    closes_of : (target : Target) (s : Server) → r.object ≡ target → K asked → F asked s.versions.files s.shadows → P s → P (requesting.closes_of target asked r s)
    closes_of (targets.File file) s o k f p =
        on_if (files.is_busy file s) _ _ (λ busy. keeps.waits s asked file k (ap may_wait e) busy p)
        (λ free. told asked (requests.Close r) bodies.Done (requesting.closes_stream asked r file s) e k refl tt (closes_by (stream_mode (files.kept_of file s).opens r.stream) file s o f free refl p))
    closes_of (targets.Device device) s o k f p = told asked (requests.Close r) bodies.Done s e k refl tt p

  uses_by : (body : Request) (asked : Asked) (file : FileId) (s : Server) → asked.body ≡ body → K asked → P s → P (requesting.uses_by body asked file s)
  uses_by (requests.Fetch r) asked file s e k p = told asked (requests.Fetch r) (bodies.Block r.stamp (files.bytes_in file (4096 * r.block.0) 4096 s)) s e k refl tt p
  uses_by (requests.WriteBack r) asked file s e k p = told asked (requests.WriteBack r) bodies.Done (files.block_put_in file r.block r.size r.bytes s) e k refl tt (block_put_in file r.block r.size r.bytes s p)
  uses_by (requests.Op r) asked file s e k p = operates_by r.op asked r file s e k p
  uses_by body asked file s e k p = p

  -- a request that goes by the stamp of its file
  uses : (body : Request) (asked : Asked) (file : FileId) (stamp : ℕ) (s : Server) → asked.body ≡ body → ((grant : Grant) → fits body (bodies.Again grant) ≡ true) → may_wait body ≡ true → K asked → P s → P (requesting.uses asked file stamp s)
  uses body asked file stamp s e again wait k p =
      on_if (files.is_busy file s) _ _ (λ busy. keeps.waits s asked file k (ap may_wait e ∙ wait) busy p)
      (λ free. on_if _ _ _ (λ t. uses_by asked.body asked file s refl k p) (λ t. told asked body (bodies.Again _) s e k (again _) tt p))

  brings_back : (asked : Asked) (r : WriteBackRequest) (s : Server) → asked.body ≡ requests.WriteBack r → K asked → P s → P (requesting.brings_back asked r s)
  brings_back asked r s e k p = on_if (is_there s.store.files r.file) _ _ (λ t. uses (requests.WriteBack r) asked r.file r.stamp s e (λ grant. refl) refl k p) (λ t. told asked (requests.WriteBack r) bodies.Done s e k refl tt p)

  -- ---- requests

  gives_taken : (o : Option (List ℕ)) (asked : Asked) (pid page : ℕ) (s : Server) → asked.body ≡ requests.PageIn pid page → K asked → P s → P (serving.gives_taken asked.tx o s)
  gives_taken (Some bytes) asked pid page s e k p = told asked (requests.PageIn pid page) (bodies.Page bytes) s e k refl tt p
  gives_taken None asked pid page s e k p = p

  serves_file : (body : Request) (asked : Asked) (s : Server) → asked.body ≡ body → K asked → F asked s.versions.files s.shadows → P s → P (serving.serves_file_by body asked s)
  serves_file (requests.Close r) asked s e k f p = closes_of asked r e r.object s refl k f p
  serves_file (requests.Move r) asked s e k f p = moves_to r.object asked r s e refl k f p
  serves_file (requests.Op r) asked s e k f p = uses (requests.Op r) asked r.file r.stamp s e (λ grant. refl) refl k p
  serves_file (requests.Fetch r) asked s e k f p = uses (requests.Fetch r) asked r.file r.stamp s e (λ grant. refl) refl k p
  serves_file (requests.WriteBack r) asked s e k f p = brings_back asked r s e k p
  serves_file body asked s e k f p = p

  serves_by : (body : Request) (asked : Asked) (s : Server) → asked.body ≡ body → K asked → F asked s.versions.files s.shadows → P s → P (serving.serves_by body asked s)
  serves_by requests.Echo asked s e k f p = told asked requests.Echo bodies.Done s e k refl tt p
  serves_by (requests.Prefix path) asked s e k f p = on_if (directory.is_root path s) _ s (λ root. told asked (requests.Prefix path) (bodies.Here path) s e k refl (refl, root) p) (λ t. p)
  serves_by (requests.Opening r) asked s e k f p = opens_with asked r e k (opening_mode r.flags) s refl f p
  serves_by (requests.Name r) asked s e k f p = names_call asked r e k r.op s p
  serves_by (requests.Make r) asked s e k f p = makes_device (directory.make_in r.path s) asked r s e k (make_so r.path s) refl p
  serves_by (requests.PageOut r) asked s e k f p = let swap : swaps.Pages = swaps.put s.swap r.pid r.page r.bytes in told asked (requests.PageOut r) bodies.Done (record s { swap = swap }) e k refl tt (keeps.pages s swap p)
  serves_by (requests.PageIn pid page) asked s e k f p = let swap : swaps.Pages = swaps.without s.swap pid page in gives_taken (swaps.bytes_of s.swap pid page) asked pid page (record s { swap = swap }) e k (keeps.pages s swap p)
  serves_by body asked s e k f p = serves_file asked.body asked s refl k f p

  pub fit_serves : (asked : Asked) (s : Server) → K asked → F asked s.versions.files s.shadows → P s → P (serving.serves asked s)
  fit_serves asked s k f p = serves_by asked.body asked s refl k f p

  pub fit_puts : (list : List (BlockNo × List ℕ)) (file : FileId) (size : ℕ) (s : Server) → P s → P (waiting.puts_all file size list s)
  fit_puts [] file size s p = p
  fit_puts (block ∷ list) file size s p = fit_puts list file size (files.block_put_in file block.0 size block.1 s) (block_put_in file block.0 size block.1 s p)

-- ---- of facts that don't see shadows together with the table of opens

module _ (K : Asked → Type 0) (P : Server → Type 0) (keeps : Keeps K P) where
  shared_by : (found kept : Bool) (asked : Asked) (r : MoveRequest) (file : FileId) (s : Server) → P s → P (cond found (cond kept (grants.counts_grant r s) (grants.drops_grants asked.from r (grants.counts_grant r s))) (cond kept (grants.shares_first asked r file s) s))
  shared_by true true asked r file s p = keeps.shares s _ p
  shared_by true false asked r file s p = keeps.shares s _ p
  shared_by false true asked r file s p = keeps.notes (grants.counts_grant r (grants.keeps_offset asked r file s)) (events.Shared file r.stream) refl (keeps.shares s _ p)
  shared_by false false asked r file s p = p

  shared_plain : (body : Request) (asked : Asked) (file : FileId) (s : Server) → P s → P (shares_of body asked file s)
  shared_plain (requests.Move r) asked file s p = shared_by (is_some (shadows.offset_of s.shadows r.stream)) r.kept asked r file s p
  shared_plain body asked file s p = p

  fine : KeepsFit K Any P
  fine = record {
    notes = keeps.notes;
    answers = keeps.answers;
    pages = keeps.pages;
    offsets = λ s stream offset p. keeps.shares s _ p;
    writes = keeps.writes;
    makes = keeps.makes;
    removes = keeps.removes;
    renames = keeps.renames;
    creates = keeps.creates;
    unlinks = keeps.unlinks;
    forgets = keeps.forgets;
    waits = keeps.waits;
    gives = λ s asked file action may about f free e p. shared_plain asked.body asked file (grants.with_decided file action s) (keeps.granted s file action free e p);
    asks = keeps.asks;
    closes = λ s asked r file mode e o f free there last p. keeps.shares (closed file asked.from r.stream r.grants s) _ (keeps.closes s file asked.from r.stream r.grants mode free there last p);
    closes_last = λ s asked r file mode e o f free there last p. keeps.shares (gone file (closed file asked.from r.stream r.grants s)) _ (keeps.closes_last s file asked.from r.stream r.grants mode free there last p);
  }

  pub grants_asked : (asked : Asked) (file : FileId) (grant : Grant) (s : Server) → K asked → P s → P (grants.grants asked file grant s)
  grants_asked asked file grant s k p = fit_grants K Any P fine asked.body asked file grant s refl k (shared_plain asked.body asked file s p)

  pub serves : (asked : Asked) (s : Server) → K asked → P s → P (serving.serves asked s)
  serves asked s k p = fit_serves K Any P fine asked s k tt p

  pub puts_all : (list : List (BlockNo × List ℕ)) (file : FileId) (size : ℕ) (s : Server) → P s → P (waiting.puts_all file size list s)
  puts_all list file size s p = fit_puts K Any P fine list file size s p
