-- A server that has an answer to a request answers it, or keeps it.
use Rattle.std.proofs.Common.{◌≡◌, ℕ, ◌+◌, ◌⊎◌, inl, inr, nat_lt, ◌==◌, Bool, true, false, ◌&&◌, cond, List, [], ◌∷◌, ◌++◌, length, Option, Some, None, is_some, option_map, Result, Ok, Err, refl, sym, ap, subst, ◌∙◌}
use Rattle.std.specs.List.{find}
use Rattle.sprite_ids.specs.declared.Callback.{Callback}
use Rattle.sprite_ids.specs.declared.FileId.{FileId}
use Rattle.sprite_ids.specs.declared.Grant.{Grant}
use Rattle.sprite_ids.specs.declared.Mode.{Mode}
use Rattle.sprite_ids.specs.declared.TxNo.{TxNo}
use Rattle.sprite_ids.proofs.ListLaws.{some_is}
use Rattle.packet_bodies.specs.declared.CloseRequest.{CloseRequest}
use Rattle.packet_bodies.specs.declared.FileOp.{FileOp}
use Rattle.packet_bodies.specs.declared.FileOp.TheVariants as file_ops
use Rattle.packet_bodies.specs.declared.MakeRequest.{MakeRequest}
use Rattle.packet_bodies.specs.declared.MoveRequest.{MoveRequest}
use Rattle.packet_bodies.specs.declared.NameOp.{NameOp}
use Rattle.packet_bodies.specs.declared.NameOp.TheVariants as name_ops
use Rattle.packet_bodies.specs.declared.NameRequest.{NameRequest}
use Rattle.packet_bodies.specs.declared.OpRequest.{OpRequest}
use Rattle.packet_bodies.specs.declared.OpeningRequest.{OpeningRequest}
use Rattle.packet_bodies.specs.declared.ReplyBody.{ReplyBody}
use Rattle.packet_bodies.specs.declared.ReplyBody.TheVariants as bodies
use Rattle.packet_bodies.specs.declared.Request.{Request}
use Rattle.packet_bodies.specs.declared.Request.TheVariants as requests
use Rattle.packet_bodies.specs.declared.Target.{Target}
use Rattle.packet_bodies.specs.declared.Target.TheVariants as targets
use Rattle.packet_bodies.specs.declared.WriteBackRequest.{WriteBackRequest}
use Rattle.kernel_steps.specs.Rows.{is_under}
use Rattle.file_store.specs.Files.{is_there}
use Rattle.server_names.specs.declared.NameEnd.{NameEnd}
use Rattle.server_names.specs.declared.NameEnd.TheVariants as name_ends
use Rattle.server_names.specs.declared.Node.{Node}
use Rattle.server_names.specs.declared.Node.TheVariants as nodes
use Rattle.swap_pages.specs.Swap as swaps
use Rattle.version_table.specs.declared.Action.{Action}
use Rattle.version_table.specs.declared.Versioned.{Versioned}
use Rattle.version_table.specs.Decisions.{answering}
use Rattle.version_table.specs.Files as tables
use Rattle.version_table.specs.Files.{calls_of}
use Rattle.version_table.specs.Lists.{is_any}
use Rattle.server_kernel.specs.declared.Asked.{Asked}
use Rattle.server_kernel.specs.declared.Server.{Server}
use Rattle.server_kernel.specs.Directory as directory
use Rattle.server_kernel.specs.Directory.{Parts}
use Rattle.server_kernel.specs.Files as files
use Rattle.server_kernel.specs.Flags.{has_bit, opening_mode}
use Rattle.server_kernel.specs.Grants as grants
use Rattle.server_kernel.specs.Listing as listing
use Rattle.server_kernel.specs.Names as naming
use Rattle.server_kernel.specs.Opens as opening
use Rattle.server_kernel.specs.Ops as operating
use Rattle.server_kernel.specs.Requests as requesting
use Rattle.server_kernel.specs.Says as says
use Rattle.server_kernel.specs.Served as serving
use Rattle.server_kernel.specs.Waits.{first_about, is_about, less_about}
use Rattle.server_walks.proofs.Deeds.{gone_is}
use Rattle.kept_requests.specs.Kept.{has_answer, is_served, may_ask}
use Rattle.kept_requests.proofs.EndLaws.{Ends, count_ends, found_ends, is_answer, list_ends, make_ends, remove_ends, rename_ends}

-- ---- where a request stands

abbrev pub Rows : Type 0
Rows = List (FileId × Asked)

-- the request is one of the kept ones
abbrev pub StandsIn : Asked → Rows → Type 0
StandsIn request [] = ⊥
StandsIn request (row ∷ rows) = (row.1 ≡ request) ⊎ StandsIn request rows

-- one of these answers is to that call
abbrev pub AnswersIn : TxNo → List (TxNo × ReplyBody) → Type 0
AnswersIn tx [] = ⊥
AnswersIn tx (answer ∷ answers) = (answer.0 ≡ tx) ⊎ AnswersIn tx answers

pub data Held (request : Asked) (asking waiting : Rows) (answers : List (TxNo × ReplyBody)) : Type 0 where
  InAnswers : AnswersIn request.tx answers → Held request asking waiting answers
  InAsking : StandsIn request asking → Held request asking waiting answers
  InWaiting : StandsIn request waiting → Held request asking waiting answers

-- the request is answered by now, or kept
abbrev pub HeldAt : Asked → Server → Type 0
HeldAt request s = Held request s.asking s.waiting s.out.answers

pub answers_last : (answers : List (TxNo × ReplyBody)) (tx : TxNo) (reply : ReplyBody) → AnswersIn tx (answers ++ (tx, reply) ∷ [])
answers_last [] tx reply = inl refl
answers_last (answer ∷ answers) tx reply = inr (answers_last answers tx reply)

pub answers_more : (answers : List (TxNo × ReplyBody)) (tx : TxNo) (more : TxNo × ReplyBody) → AnswersIn tx answers → AnswersIn tx (answers ++ more ∷ [])
answers_more [] tx more h = absurd h
answers_more (answer ∷ answers) tx more (inl here) = inl here
answers_more (answer ∷ answers) tx more (inr later) = inr (answers_more answers tx more later)

pub stands_last : (rows : Rows) (file : FileId) (request : Asked) → StandsIn request (rows ++ (file, request) ∷ [])
stands_last [] file request = inl refl
stands_last (row ∷ rows) file request = inr (stands_last rows file request)

pub stands_more : (rows : Rows) (request : Asked) (more : FileId × Asked) → StandsIn request rows → StandsIn request (rows ++ more ∷ [])
stands_more [] request more h = absurd h
stands_more (row ∷ rows) request more (inl here) = inl here
stands_more (row ∷ rows) request more (inr later) = inr (stands_more rows request more later)

abbrev pub first_by : Option (FileId × Asked) → Option Asked
first_by o = option_map (λ (row : FileId × Asked). row.1) o

-- the first that is about a file is taken out: it is this one, or this one is left
pub stands_less : (rows : Rows) (file : FileId) (served request : Asked) → first_about file rows ≡ Some served → StandsIn request rows → (served ≡ request) ⊎ StandsIn request (less_about file rows)
stands_less [] file served request e h = absurd h
stands_less (row ∷ rows) file served request e h = by (is_under is_about file row) e h (stands_less rows file served request)
  where
    past : (served ≡ request) ⊎ StandsIn request (less_about file rows) → (served ≡ request) ⊎ StandsIn request (row ∷ less_about file rows)
    past (inl same) = inl same
    past (inr left) = inr (inr left)

    by : (b : Bool) → first_by (cond b (Some row) (find (is_under is_about file) rows)) ≡ Some served → StandsIn request (row ∷ rows) → (first_about file rows ≡ Some served → StandsIn request rows → (served ≡ request) ⊎ StandsIn request (less_about file rows)) → (served ≡ request) ⊎ StandsIn request (cond b rows (row ∷ less_about file rows))
    by true e (inl here) later = inl (sym (some_is row.1 served e) ∙ here)
    by true e (inr left) later = inr left
    by false e (inl here) later = inr (inl here)
    by false e (inr left) later = past (later e left)

-- ---- serving

module _ (asked : Asked) where
  on_if : (b : Bool) (s t : Server) → (b ≡ true → HeldAt asked s) → (b ≡ false → HeldAt asked t) → HeldAt asked (cond b s t)
  on_if true s t p q = p refl
  on_if false s t p q = q refl

  said : (reply : ReplyBody) (asking waiting : Rows) (answers : List (TxNo × ReplyBody)) → Held asked asking waiting (answers ++ (asked.tx, reply) ∷ [])
  said reply asking waiting answers = InAnswers (answers_last answers asked.tx reply)

  waits : (file : FileId) (s : Server) → HeldAt asked (files.waits asked file s)
  waits file s = InWaiting (stands_last s.waiting file asked)

  -- ---- name calls

  module _ (r : NameRequest) where
    ends_name : (end : NameEnd) (s : Server) → is_answer end ≡ true → HeldAt asked (naming.ends_name asked.tx r end s)
    ends_name (name_ends.Errno why) s h = said _ _ _ _
    ends_name (name_ends.Redirect path) s h = said _ _ _ _
    ends_name name_ends.NoMemory s h = absurd (cc)

    stats_directory : (found : Result ℕ NameEnd) (s : Server) → Ends found → HeldAt asked (naming.stats_directory asked.tx r found s)
    stats_directory (Ok count) s h = said _ _ _ _
    stats_directory (Err end) s h = ends_name end s h

    stats_node : (node : Node) (s : Server) → HeldAt asked (naming.stats_node asked.tx r node s)
    stats_node (nodes.File file) s = said _ _ _ _
    stats_node (nodes.Device device) s = said _ _ _ _
    stats_node nodes.Dir s = stats_directory (directory.count_in r.path s) s (count_ends r.path s)

    stats : (found : Result Node NameEnd) (s : Server) → Ends found → HeldAt asked (naming.stats_found asked.tx r found s)
    stats (Ok node) s h = stats_node node s
    stats (Err end) s h = ends_name end s h

    makes_directory : (found : Result (Unit {0}) NameEnd) (s : Server) → Ends found → HeldAt asked (naming.makes_directory_by asked.tx r found s)
    makes_directory (Ok made) s h = said _ _ _ _
    makes_directory (Err end) s h = ends_name end s h

    removes_empty : (found : Result Node NameEnd) (s : Server) → Ends found → HeldAt asked (naming.removes_empty asked.tx r found s)
    removes_empty (Ok node) s h = said _ _ _ _
    removes_empty (Err end) s h = ends_name end s h

    removes_directory : (s : Server) → HeldAt asked (naming.removes_directory asked.tx r s)
    removes_directory s = on_if (directory.is_root r.path s) _ _ (λ t. said _ _ _ _) (λ t. removes_empty (directory.remove_in r.path true s) s (remove_ends r.path s true))

    lists : (found : Result (List ℕ) NameEnd) (s : Server) → Ends found → HeldAt asked (naming.lists_by asked.tx r found s)
    lists (Ok text) s h = on_if (nat_lt r.max (length text)) _ _ (λ t. said _ _ _ _) (λ t. said _ _ _ _)
    lists (Err end) s h = ends_name end s h

    changes_to : (node : Node) (s : Server) → HeldAt asked (naming.changes_to asked.tx r node s)
    changes_to nodes.Dir s = said _ _ _ _
    changes_to (nodes.File file) s = said _ _ _ _
    changes_to (nodes.Device device) s = said _ _ _ _

    changes_directory : (found : Result Node NameEnd) (s : Server) → Ends found → HeldAt asked (naming.changes_found asked.tx r found s)
    changes_directory (Ok node) s h = changes_to node s
    changes_directory (Err end) s h = ends_name end s h

    -- the file that has its name no more may be forgotten
    forgotten : (file : FileId) (s : Server) → HeldAt asked s → HeldAt asked (naming.forgets_closed file s)
    forgotten file s d = on_if (is_any (files.kept_of file s).opens) s (files.forgotten file s) (λ t. d) (λ t. subst (HeldAt asked) (sym (gone_is file s)) d)

    takes_away : (found : Result Node NameEnd) (s : Server) → Ends found → HeldAt asked (naming.forgets_unnamed (naming.unnamed_by found) (naming.takes_name_by asked.tx r found s))
    takes_away (Ok (nodes.File file)) s h = forgotten file (naming.takes_name_by asked.tx r (Ok (nodes.File file)) s) (said _ _ _ _)
    takes_away (Ok nodes.Dir) s h = said _ _ _ _
    takes_away (Ok (nodes.Device device)) s h = said _ _ _ _
    takes_away (Err end) s h = ends_name end s h

    takes_now : (s : Server) → HeldAt asked (naming.takes_away asked.tx r s)
    takes_now s = takes_away (directory.remove_in r.path false s) s (remove_ends r.path s false)

    unlinks_found : (found : Result Node NameEnd) (s : Server) → Ends found → HeldAt asked (naming.unlinks_found asked r found s)
    unlinks_found (Ok (nodes.File file)) s h = on_if (files.is_busy file s) _ _ (λ busy. waits file s) (λ free. takes_now s)
    unlinks_found (Ok nodes.Dir) s h = takes_now s
    unlinks_found (Ok (nodes.Device device)) s h = takes_now s
    unlinks_found (Err end) s h = ends_name end s h

    renames_by : (found : Result (Unit {0}) NameEnd) (new : Parts) (s : Server) → Ends found → HeldAt asked (naming.renames_by asked.tx r new found s)
    renames_by (Ok made) new s h = said _ _ _ _
    renames_by (Err end) new s h = ends_name end s h

    renames_now : (new : Parts) (s : Server) → HeldAt asked (naming.renames_now asked.tx r new s)
    renames_now new s = renames_by (directory.rename_in r.path new s) new s (rename_ends r.path s new)

    renames_found : (found : Result Node NameEnd) (new : Parts) (s : Server) → Ends found → HeldAt asked (naming.renames_found asked r new found s)
    renames_found (Ok (nodes.File file)) new s h = on_if (files.is_busy file s) _ _ (λ busy. waits file s) (λ free. renames_now new s)
    renames_found (Ok nodes.Dir) new s h = renames_now new s
    renames_found (Ok (nodes.Device device)) new s h = renames_now new s
    renames_found (Err end) new s h = ends_name end s h

    apart : (found : Result Node NameEnd) (s : Server) → Ends found → HeldAt asked (naming.apart_by asked.tx r found s)
    apart (Ok node) s h = said _ _ _ _
    apart (Err (name_ends.Errno why)) s h = said _ _ _ _
    apart (Err (name_ends.Redirect path)) s h = said _ _ _ _
    apart (Err name_ends.NoMemory) s h = absurd (cc)

    renames_with : (o : Option Parts) (s : Server) → is_some o ≡ true → HeldAt asked (naming.renames_with asked r o s)
    renames_with (Some new) s h = on_if (directory.are_apart r.path new s) _ _ (λ t. apart (directory.found_in r.path s) s (found_ends r.path s)) (λ t. renames_found (directory.found_in r.path s) new s (found_ends r.path s))
    renames_with None s h = absurd (cc)

    names_call : (op : NameOp) (s : Server) → is_served op r.second ≡ true → HeldAt asked (naming.names_by op asked r s)
    names_call name_ops.Walk s h = absurd (cc)
    names_call name_ops.Stat s h = stats (directory.found_in r.path s) s (found_ends r.path s)
    names_call name_ops.Mkdir s h = makes_directory (directory.make_in r.path s) s (make_ends r.path s)
    names_call name_ops.Rmdir s h = removes_directory s
    names_call name_ops.Unlink s h = unlinks_found (directory.found_in r.path s) s (found_ends r.path s)
    names_call name_ops.Rename s h = renames_with r.second s h
    names_call name_ops.List s h = lists (listing.list_in r.path s) s (list_ends r.path s)
    names_call name_ops.Chdir s h = changes_directory (directory.found_in r.path s) s (found_ends r.path s)

  makes_device : (found : Result (Unit {0}) NameEnd) (r : MakeRequest) (s : Server) → Ends found → HeldAt asked (naming.makes_device_by asked.tx r found s)
  makes_device (Ok made) r s h = said _ _ _ _
  makes_device (Err (name_ends.Errno why)) r s h = said _ _ _ _
  makes_device (Err (name_ends.Redirect path)) r s h = said _ _ _ _
  makes_device (Err name_ends.NoMemory) r s h = absurd (cc)

  -- ---- decisions and grants

  called : (calls : List Callback) (s : Server) → HeldAt asked s → HeldAt asked (grants.calls_all asked calls s)
  called [] s d = d
  called (call ∷ calls) s d = called calls (grants.calls_one asked call s) d

  pub granted : (body : Request) (file : FileId) (grant : Grant) (s : Server) → may_ask body ≡ true → HeldAt asked (grants.grants_by body asked file grant s)
  granted (requests.Opening r) file grant s may = said _ _ _ _
  granted (requests.Move r) file grant s may = said _ _ _ _
  granted body file grant s may = absurd (cc)

  decided_by : (calls : List Callback) (told : Versioned) (file : FileId) (action : Action) (s : Server) → may_ask asked.body ≡ true → HeldAt asked (grants.decided_as asked file (answering told action calls) s)
  decided_by [] told file action s may = granted asked.body file _ s may
  decided_by (call ∷ calls) told file action s may = called (call ∷ calls) (grants.asks asked file s) (InAsking (stands_last s.asking file asked))

  decides : (file : FileId) (action : Action) (s : Server) → may_ask asked.body ≡ true → HeldAt asked (grants.decides asked file action s)
  decides file action s may =
      on_if (files.is_busy file s) _ _ (λ busy. waits file s)
      (λ free. decided_by (calls_of s.versions.cached (files.kept_of file s) action) (tables.told (tables.is_uncached s.versions.cached (files.kept_of file s) action) (files.kept_of file s)) file action (grants.with_decided file action s) may)

  -- ---- opens

  module _ (r : OpeningRequest) (may : may_ask asked.body ≡ true) where
    ends_open : (end : NameEnd) (s : Server) → is_answer end ≡ true → HeldAt asked (opening.ends_open asked.tx r end s)
    ends_open (name_ends.Errno why) s h = said _ _ _ _
    ends_open (name_ends.Redirect path) s h = said _ _ _ _
    ends_open name_ends.NoMemory s h = absurd (cc)

    opens_node : (node : Node) (mode : Mode) (s : Server) → HeldAt asked (opening.opens_node asked r mode node s)
    opens_node nodes.Dir mode s = said _ _ _ _
    opens_node (nodes.Device device) mode s = said _ _ _ _
    opens_node (nodes.File file) mode s = decides file (opening.opening_of asked.from r mode) s may

    creates_by : (found : Result (Unit {0}) NameEnd) (mode : Mode) (s : Server) → Ends found → HeldAt asked (opening.creates_by asked r mode found s)
    creates_by (Ok made) mode s h =
        let named : Server = directory.with_made r.path (nodes.File (opening.new_file s)) s in
        decides (opening.new_file named) (opening.opening_of asked.from r mode) (opening.counts_file (files.made_file (opening.new_file named) named)) may
    creates_by (Err end) mode s h = ends_open end s h

    opens_found : (found : Result Node NameEnd) (mode : Mode) (s : Server) → Ends found → HeldAt asked (opening.opens_found asked r mode found s)
    opens_found (Ok node) mode s h = opens_node node mode s
    opens_found (Err (name_ends.Errno why)) mode s h = on_if (opening.is_no_entry why && has_bit 4 r.flags) _ _ (λ t. creates_by (directory.make_in r.path s) mode s (make_ends r.path s)) (λ t. said _ _ _ _)
    opens_found (Err (name_ends.Redirect path)) mode s h = said _ _ _ _
    opens_found (Err name_ends.NoMemory) mode s h = absurd (cc)

    opens_with : (o : Option Mode) (s : Server) → HeldAt asked (opening.opens_with asked r o s)
    opens_with (Some mode) s = opens_found (directory.found_in r.path s) mode s (found_ends r.path s)
    opens_with None s = said _ _ _ _

  -- ---- requests about files

  operates_by : (op : FileOp) (r : OpRequest) (file : FileId) (s : Server) → HeldAt asked (operating.operates_by op asked.tx r file s)
  operates_by file_ops.Read r file s = said _ _ _ _
  operates_by file_ops.Write r file s = on_if (nat_lt s.store.limit (files.start_in r.stream r.offset s + length r.bytes)) _ _ (λ t. said _ _ _ _) (λ t. said _ _ _ _)
  operates_by file_ops.Append r file s = on_if (nat_lt s.store.limit (files.size_in file s + length r.bytes)) _ _ (λ t. said _ _ _ _) (λ t. said _ _ _ _)
  operates_by file_ops.Size r file s = said _ _ _ _
  operates_by file_ops.Seek r file s = said _ _ _ _

  moves_to : (target : Target) (r : MoveRequest) (s : Server) → may_ask asked.body ≡ true → HeldAt asked (requesting.moves_to target asked r s)
  moves_to (targets.File file) r s may = decides file (requesting.moving_of asked.from r) s may
  moves_to (targets.Device device) r s may = said _ _ _ _

  closes_of : (target : Target) (r : CloseRequest) (s : Server) → HeldAt asked (requesting.closes_of target asked r s)
  closes_of (targets.File file) r s = on_if (files.is_busy file s) _ _ (λ busy. waits file s) (λ free. said _ _ _ _)
  closes_of (targets.Device device) r s = said _ _ _ _

  -- whether a request goes by the stamp of its file
  abbrev goes_by_stamp : Request → Bool
  goes_by_stamp (requests.Op r) = true
  goes_by_stamp (requests.Fetch r) = true
  goes_by_stamp (requests.WriteBack r) = true
  goes_by_stamp body = false

  uses_by : (body : Request) (file : FileId) (s : Server) → goes_by_stamp body ≡ true → HeldAt asked (requesting.uses_by body asked file s)
  uses_by (requests.Fetch r) file s h = said _ _ _ _
  uses_by (requests.WriteBack r) file s h = said _ _ _ _
  uses_by (requests.Op r) file s h = operates_by r.op r file s
  uses_by body file s h = absurd (cc)

  uses : (file : FileId) (stamp : ℕ) (s : Server) → goes_by_stamp asked.body ≡ true → HeldAt asked (requesting.uses asked file stamp s)
  uses file stamp s h =
      let current : Grant = tables.current (files.kept_of file s) asked.from in
      let again : ReplyBody = bodies.Again (files.sized file current s) in
      on_if (files.is_busy file s) (files.waits asked file s) (requesting.uses_free asked file stamp s) (λ busy. waits file s)
      (λ free. on_if (current.stamp == stamp) (requesting.uses_current asked file s) (says.answers asked.tx again s) (λ t. uses_by asked.body file s h) (λ t. said again s.asking s.waiting s.out.answers))

  brings_back : (r : WriteBackRequest) (s : Server) → goes_by_stamp asked.body ≡ true → HeldAt asked (requesting.brings_back asked r s)
  brings_back r s h = on_if (is_there s.store.files r.file) _ _ (λ t. uses r.file r.stamp s h) (λ t. said _ _ _ _)

  -- ---- requests

  gives_taken : (o : Option (List ℕ)) (s : Server) → is_some o ≡ true → HeldAt asked (serving.gives_taken asked.tx o s)
  gives_taken (Some bytes) s h = said _ _ _ _
  gives_taken None s h = absurd (cc)

  abbrev has_file : Request → Bool
  has_file (requests.Close r) = true
  has_file (requests.Move r) = true
  has_file (requests.Op r) = true
  has_file (requests.Fetch r) = true
  has_file (requests.WriteBack r) = true
  has_file body = false

  serves_file : (body : Request) (s : Server) → asked.body ≡ body → has_file body ≡ true → HeldAt asked (serving.serves_file_by body asked s)
  serves_file (requests.Close r) s e h = closes_of r.object r s
  serves_file (requests.Move r) s e h = moves_to r.object r s (ap may_ask e)
  serves_file (requests.Op r) s e h = uses r.file r.stamp s (ap goes_by_stamp e)
  serves_file (requests.Fetch r) s e h = uses r.file r.stamp s (ap goes_by_stamp e)
  serves_file (requests.WriteBack r) s e h = brings_back r s (ap goes_by_stamp e)
  serves_file body s e h = absurd (cc)

  serves_by : (body : Request) (s : Server) → asked.body ≡ body → has_answer s body ≡ true → HeldAt asked (serving.serves_by body asked s)
  serves_by requests.Echo s e h = said _ _ _ _
  serves_by (requests.Prefix path) s e h = on_if (directory.is_root path s) _ s (λ root. said _ _ _ _) (λ off. absurd (cc))
  serves_by (requests.Opening r) s e h = opens_with r (ap may_ask e) (opening_mode r.flags) s
  serves_by (requests.Name r) s e h = names_call r r.op s h
  serves_by (requests.Make r) s e h = makes_device (directory.make_in r.path s) r s (make_ends r.path s)
  serves_by (requests.PageOut r) s e h = said _ _ _ _
  serves_by (requests.PageIn pid page) s e h = gives_taken (swaps.bytes_of s.swap pid page) (record s { swap = swaps.without s.swap pid page }) h
  serves_by (requests.Close r) s e h = serves_file asked.body s refl (ap has_file e)
  serves_by (requests.Move r) s e h = serves_file asked.body s refl (ap has_file e)
  serves_by (requests.Op r) s e h = serves_file asked.body s refl (ap has_file e)
  serves_by (requests.Fetch r) s e h = serves_file asked.body s refl (ap has_file e)
  serves_by (requests.WriteBack r) s e h = serves_file asked.body s refl (ap has_file e)
  serves_by body s e h = absurd (cc)

  pub serves_done : (s : Server) → has_answer s asked.body ≡ true → HeldAt asked (serving.serves asked s)
  serves_done s h = serves_by asked.body s refl h

-- ---- what a server passes over

pub record Quiet (s t : Server) : Type 0 where
  pub out : t.out ≡ s.out
  pub asking : t.asking ≡ s.asking
  pub waiting : t.waiting ≡ s.waiting
  pub callbacks : t.callbacks ≡ s.callbacks

quiet : (s : Server) → Quiet s s
quiet s = record { out = refl; asking = refl; waiting = refl; callbacks = refl }

told_none : (b : Bool) (s t : Server) → b ≡ false → Quiet s (cond b t s)
told_none true s t e = absurd (cc)
told_none false s t e = quiet s

renames_none : (o : Option Parts) (asked : Asked) (r : NameRequest) (s : Server) → is_some o ≡ false → Quiet s (naming.renames_with asked r o s)
renames_none (Some new) asked r s e = absurd (cc)
renames_none None asked r s e = quiet s

names_none : (op : NameOp) (asked : Asked) (r : NameRequest) (s : Server) → is_served op r.second ≡ false → Quiet s (naming.names_by op asked r s)
names_none name_ops.Walk asked r s e = quiet s
names_none name_ops.Rename asked r s e = renames_none r.second asked r s e
names_none op asked r s e = absurd (cc)

page_none : (o : Option (List ℕ)) (tx : TxNo) (swap : swaps.Pages) (s : Server) → is_some o ≡ false → Quiet s (serving.gives_taken tx o (record s { swap = swap }))
page_none (Some bytes) tx swap s e = absurd (cc)
page_none None tx swap s e = record { out = refl; asking = refl; waiting = refl; callbacks = refl }

pub passed : (body : Request) (tx : TxNo) (source : ℕ) (s : Server) → has_answer s body ≡ false → Quiet s (serving.serves_by body (record { tx = tx; from = source; body = body }) s)
passed (requests.Prefix path) tx source s e = told_none (directory.is_root path s) s _ e
passed (requests.Name r) tx source s e = names_none r.op (record { tx = tx; from = source; body = requests.Name r }) r s e
passed (requests.PageIn pid page) tx source s e = page_none (swaps.bytes_of s.swap pid page) tx (swaps.without s.swap pid page) s e
passed (requests.Callback r) tx source s e = quiet s
passed (requests.Transfer r) tx source s e = quiet s
passed (requests.Home r) tx source s e = quiet s
passed (requests.Place pid kernel) tx source s e = quiet s
passed (requests.Killed pid) tx source s e = quiet s
passed (requests.Ask r) tx source s e = quiet s
passed (requests.Launch r) tx source s e = quiet s
passed body tx source s e = absurd (cc)
