-- A server serves a request by a few deeds: what each of them makes of it, and what a fact of it must bear.
use Rattle.std.proofs.Common.{◌≡◌, ℕ, ◌+◌, Bool, true, false, ◌&&◌, cond, List, [], ◌∷◌, ◌++◌, Option, Some, None, position, Ok, nat_eq, refl, ap, ◌∙◌}
use Rattle.std.specs.List.{list_any}
use Rattle.std.specs.Cmp.Lexicographic.{pointwise}
use Rattle.sprite_ids.specs.declared.Callback.{Callback}
use Rattle.sprite_ids.specs.declared.FileId.{FileId}
use Rattle.sprite_ids.specs.declared.Mode.{Mode}
use Rattle.sprite_ids.specs.declared.StreamNo.{StreamNo}
use Rattle.sprite_ids.specs.Lists.{less}
use Rattle.packet_bodies.specs.declared.CloseRequest.{CloseRequest}
use Rattle.packet_bodies.specs.declared.MoveRequest.{MoveRequest}
use Rattle.packet_bodies.specs.declared.ReplyBody.{ReplyBody}
use Rattle.packet_bodies.specs.declared.ReplyBody.TheVariants as bodies
use Rattle.packet_bodies.specs.declared.Request.{Request}
use Rattle.packet_bodies.specs.declared.Request.TheVariants as requests
use Rattle.packet_bodies.specs.declared.Target.TheVariants as targets
use Rattle.unix_calls.specs.declared.Event.{Event}
use Rattle.file_store.specs.Files.{Kept, is_there, with_new, without}
use Rattle.server_names.specs.declared.Node.{Node}
use Rattle.server_names.specs.declared.Node.TheVariants as nodes
use Rattle.shadow_streams.specs.declared.Shadow.{Shadow}
use Rattle.shadow_streams.specs.Shadows as shadows
use Rattle.swap_pages.specs.Swap as swaps
use Rattle.version_table.specs.declared.Action.{Action}
use Rattle.version_table.specs.Files.{calls_of, is_closed}
use Rattle.version_table.specs.Lists.{is_any}
use Rattle.version_table.specs.Opens.{stream_mode}
use Rattle.version_table.specs.Versions as versions
use Rattle.server_kernel.specs.declared.Asked.{Asked}
use Rattle.server_kernel.specs.declared.Domain.{Domain}
use Rattle.server_kernel.specs.declared.Server.{Server}
use Rattle.server_kernel.specs.Directory as directory
use Rattle.server_kernel.specs.Directory.{Parts}
use Rattle.server_kernel.specs.Files as files
use Rattle.server_kernel.specs.Grants as grants
use Rattle.server_kernel.specs.Opens as opening
use Rattle.server_kernel.specs.Says as says
use Rattle.server_walks.specs.Actions.{action_of}
use Rattle.server_walks.specs.Served.{is_served}
use Rattle.server_walks.specs.Sorts.{fits}
use Rattle.server_walks.proofs.NameEnds.{HangsIn}

-- ---- what the deeds make of a server's fields

-- the domains after a change of the one at a looked-up place
abbrev pub changed_in : (Domain → Domain) → Option ℕ → List Domain → List Domain
changed_in change (Some at) domains = directory.changed_at at change domains
changed_in change None domains = domains

-- and of the one in which the path lies
abbrev pub changed_at_path : Parts → (Domain → Domain) → List Domain → List Domain
changed_at_path path change domains = changed_in change (position (directory.has_path path) domains) domains

-- the server with its domains after a change of the one in which the path lies
abbrev pub with_names : Parts → (Domain → Domain) → Server → Server
with_names path change s = record s { domains = changed_at_path path change s.domains }

abbrev pub made_files : Kept → FileId → Kept
made_files kept file = cond (is_there kept file) kept (with_new kept file)

abbrev pub dropped_files : Kept → FileId → Kept
dropped_files kept file = cond (is_there kept file) (without kept file) kept

-- a new file has a name, and is there
abbrev pub created : Parts → Server → Server
created path s = record (with_names path (directory.made_domain path (nodes.File (opening.new_file s))) s) { store = record s.store { files = made_files s.store.files (opening.new_file s) }; next_file = s.next_file + 1 }

-- the file has its name no more
abbrev pub unnamed : FileId → Parts → Server → Server
unnamed file path s = record (with_names path (directory.removed_domain path) s) { unlinked = s.unlinked ++ file ∷ [] }

-- the file is forgotten
abbrev pub gone : FileId → Server → Server
gone file s = record s { versions = record s.versions { files = versions.forgotten s.versions.files file }; store = record s.store { files = dropped_files s.store.files file }; unlinked = less (files.is_that file) s.unlinked }

-- the grants of the stream are taken off the kernel
abbrev pub closed : FileId → ℕ → StreamNo → ℕ → Server → Server
closed file kernel stream many s = files.with_versions (versions.with_closed s.versions.files file kernel stream many) s

-- and off its shadow
abbrev pub closed_shared : Asked → CloseRequest → FileId → Server → Server
closed_shared asked r file s = record (closed file asked.from r.stream r.grants s) { shadows = shadows.close s.shadows r.stream asked.from r.grants }

-- whether a node is a file
abbrev pub is_a_file : Node → Bool
is_a_file (nodes.File file) = true
is_a_file nodes.Dir = false
is_a_file (nodes.Device device) = false

-- what the move of a shared stream, or of one that becomes shared, makes of the shadows
abbrev pub shares_of : Request → Asked → FileId → Server → Server
shares_of (requests.Move r) asked file s = grants.shares asked r file s
shares_of body asked file s = s

-- ---- what is known where a deed is done

-- nothing is known of requests
abbrev pub Every : Asked → Type 0
Every asked = Unit {0}

-- every request fits the table of opens and the shadows
abbrev pub Any : Asked → versions.Files → List Shadow → Type 0
Any asked table shadows = Unit {0}

-- a move that is decided on is of that file
abbrev pub IsAbout : Asked → FileId → Type 0
IsAbout asked file = (r : MoveRequest) → asked.body ≡ requests.Move r → r.object ≡ targets.File file

-- whether a request may be kept: it is about a file, or names one
abbrev pub may_wait : Request → Bool
may_wait (requests.Opening r) = true
may_wait (requests.Name r) = true
may_wait (requests.Close r) = true
may_wait (requests.Move r) = true
may_wait (requests.Op r) = true
may_wait (requests.Fetch r) = true
may_wait (requests.WriteBack r) = true
may_wait body = false

-- whether one of these domains hangs there
abbrev pub has_root : Parts → List Domain → Bool
has_root path domains = list_any (λ (domain : Domain). pointwise (pointwise nat_eq) path domain.root) domains

-- an answer that leads on leads to where another domain hangs in one of these; one that a server is one for a prefix is to who asks for
-- that prefix, and has the root of one of these
abbrev pub LeadsSo : List Domain → Request → ReplyBody → Type 0
LeadsSo domains request (bodies.Redirect path) = HangsIn domains path
LeadsSo domains request (bodies.Here path) = (request ≡ requests.Prefix path) × (has_root path domains ≡ true)
LeadsSo domains request reply = Unit {0}

-- a server with these domains answers a request so
pub record IsAnswer (domains : List Domain) (request : Request) (reply : ReplyBody) : Type 0 where
  pub sort : fits request reply ≡ true
  pub leads : LeadsSo domains request reply

-- ---- the deeds

-- of one request of which K is known, and that fits the table of opens and the shadows as they are when it is served
pub record KeepsFit (K : Asked → Type 0) (F : Asked → versions.Files → List Shadow → Type 0) (P : Server → Type 0) : Type 0 where
  pub notes : (s : Server) (event : Event) → is_served event ≡ true → P s → P (says.notes event s)
  pub answers : (s : Server) (asked : Asked) (reply : ReplyBody) → K asked → IsAnswer s.domains asked.body reply → P s → P (says.answers asked.tx reply s)
  pub pages : (s : Server) (swap : swaps.Pages) → P s → P (record s { swap = swap })
  pub offsets : (s : Server) (stream : StreamNo) (offset : ℕ) → P s → P (record s { shadows = shadows.set_offset s.shadows stream offset })
  pub writes : (s : Server) (file : FileId) (bytes : List ℕ) → is_there s.store.files file ≡ true → P s → P (files.with_content file bytes s)
  pub makes : (s : Server) (path : Parts) (node : Node) (done : Unit {0}) → directory.make_in path s ≡ Ok done → is_a_file node ≡ false → P s → P (with_names path (directory.made_domain path node) s)
  pub removes : (s : Server) (path : Parts) (node : Node) → directory.found_in path s ≡ Ok node → is_a_file node ≡ false → P s → P (with_names path (directory.removed_domain path) s)
  pub renames : (s : Server) (old new : Parts) (done : Unit {0}) → directory.rename_in old new s ≡ Ok done → P s → P (with_names old (directory.renamed_domain old new) s)
  pub creates : (s : Server) (path : Parts) (done : Unit {0}) → directory.make_in path s ≡ Ok done → P s → P (created path s)
  pub unlinks : (s : Server) (path : Parts) (file : FileId) → directory.found_in path s ≡ Ok (nodes.File file) → files.is_busy file s ≡ false → is_any (files.kept_of file s).opens ≡ true → P s → P (unnamed file path s)
  pub forgets : (s : Server) (path : Parts) (file : FileId) → directory.found_in path s ≡ Ok (nodes.File file) → files.is_busy file s ≡ false → is_any (files.kept_of file s).opens ≡ false → P s → P (gone file (unnamed file path s))
  pub waits : (s : Server) (asked : Asked) (file : FileId) → K asked → may_wait asked.body ≡ true → files.is_busy file s ≡ true → P s → P (files.waits asked file s)
  pub gives : (s : Server) (asked : Asked) (file : FileId) (action : Action) → action_of asked ≡ Some action → IsAbout asked file → F asked s.versions.files s.shadows → files.is_busy file s ≡ false → calls_of s.versions.cached (files.kept_of file s) action ≡ [] → P s → P (shares_of asked.body asked file (grants.with_decided file action s))
  pub asks : (s : Server) (asked : Asked) (file : FileId) (action : Action) (call : Callback) (calls : List Callback) → K asked → action_of asked ≡ Some action → files.is_busy file s ≡ false → calls_of s.versions.cached (files.kept_of file s) action ≡ call ∷ calls → P s → P (grants.calls_first asked file (call ∷ calls) (grants.with_decided file action s))
  pub closes : (s : Server) (asked : Asked) (r : CloseRequest) (file : FileId) (mode : Mode) → asked.body ≡ requests.Close r → r.object ≡ targets.File file → F asked s.versions.files s.shadows → files.is_busy file s ≡ false → stream_mode (files.kept_of file s).opens r.stream ≡ Some mode → (is_closed (files.kept_of file s) asked.from r.stream r.grants && list_any (files.is_that file) s.unlinked) ≡ false → P s → P (closed_shared asked r file s)
  pub closes_last : (s : Server) (asked : Asked) (r : CloseRequest) (file : FileId) (mode : Mode) → asked.body ≡ requests.Close r → r.object ≡ targets.File file → F asked s.versions.files s.shadows → files.is_busy file s ≡ false → stream_mode (files.kept_of file s).opens r.stream ≡ Some mode → (is_closed (files.kept_of file s) asked.from r.stream r.grants && list_any (files.is_that file) s.unlinked) ≡ true → P s → P (gone file (closed_shared asked r file s))

-- of a fact that doesn't see shadows together with the table of opens
pub record Keeps (K : Asked → Type 0) (P : Server → Type 0) : Type 0 where
  pub notes : (s : Server) (event : Event) → is_served event ≡ true → P s → P (says.notes event s)
  pub answers : (s : Server) (asked : Asked) (reply : ReplyBody) → K asked → IsAnswer s.domains asked.body reply → P s → P (says.answers asked.tx reply s)
  pub pages : (s : Server) (swap : swaps.Pages) → P s → P (record s { swap = swap })
  pub shares : (s : Server) (shadows : List Shadow) → P s → P (record s { shadows = shadows })
  pub writes : (s : Server) (file : FileId) (bytes : List ℕ) → is_there s.store.files file ≡ true → P s → P (files.with_content file bytes s)
  pub makes : (s : Server) (path : Parts) (node : Node) (done : Unit {0}) → directory.make_in path s ≡ Ok done → is_a_file node ≡ false → P s → P (with_names path (directory.made_domain path node) s)
  pub removes : (s : Server) (path : Parts) (node : Node) → directory.found_in path s ≡ Ok node → is_a_file node ≡ false → P s → P (with_names path (directory.removed_domain path) s)
  pub renames : (s : Server) (old new : Parts) (done : Unit {0}) → directory.rename_in old new s ≡ Ok done → P s → P (with_names old (directory.renamed_domain old new) s)
  pub creates : (s : Server) (path : Parts) (done : Unit {0}) → directory.make_in path s ≡ Ok done → P s → P (created path s)
  pub unlinks : (s : Server) (path : Parts) (file : FileId) → directory.found_in path s ≡ Ok (nodes.File file) → files.is_busy file s ≡ false → is_any (files.kept_of file s).opens ≡ true → P s → P (unnamed file path s)
  pub forgets : (s : Server) (path : Parts) (file : FileId) → directory.found_in path s ≡ Ok (nodes.File file) → files.is_busy file s ≡ false → is_any (files.kept_of file s).opens ≡ false → P s → P (gone file (unnamed file path s))
  pub waits : (s : Server) (asked : Asked) (file : FileId) → K asked → may_wait asked.body ≡ true → files.is_busy file s ≡ true → P s → P (files.waits asked file s)
  pub granted : (s : Server) (file : FileId) (action : Action) → files.is_busy file s ≡ false → calls_of s.versions.cached (files.kept_of file s) action ≡ [] → P s → P (grants.with_decided file action s)
  pub asks : (s : Server) (asked : Asked) (file : FileId) (action : Action) (call : Callback) (calls : List Callback) → K asked → action_of asked ≡ Some action → files.is_busy file s ≡ false → calls_of s.versions.cached (files.kept_of file s) action ≡ call ∷ calls → P s → P (grants.calls_first asked file (call ∷ calls) (grants.with_decided file action s))
  pub closes : (s : Server) (file : FileId) (kernel : ℕ) (stream : StreamNo) (many : ℕ) (mode : Mode) → files.is_busy file s ≡ false → stream_mode (files.kept_of file s).opens stream ≡ Some mode → (is_closed (files.kept_of file s) kernel stream many && list_any (files.is_that file) s.unlinked) ≡ false → P s → P (closed file kernel stream many s)
  pub closes_last : (s : Server) (file : FileId) (kernel : ℕ) (stream : StreamNo) (many : ℕ) (mode : Mode) → files.is_busy file s ≡ false → stream_mode (files.kept_of file s).opens stream ≡ Some mode → (is_closed (files.kept_of file s) kernel stream many && list_any (files.is_that file) s.unlinked) ≡ true → P s → P (gone file (closed file kernel stream many s))

-- ---- the words of the kernel for them

names_by : (o : Option ℕ) (change : Domain → Domain) (s : Server) → directory.with_change change o s ≡ record s { domains = changed_in change o s.domains }
names_by (Some at) change s = refl
names_by None change s = refl

pub names_are : (path : Parts) (change : Domain → Domain) (s : Server) → directory.with_domain path change s ≡ with_names path change s
names_are path change s = names_by (position (directory.has_path path) s.domains) change s

made_by : (b : Bool) (file : FileId) (s : Server) → cond b s (record s { store = record s.store { files = with_new s.store.files file } }) ≡ record s { store = record s.store { files = cond b s.store.files (with_new s.store.files file) } }
made_by true file s = refl
made_by false file s = refl

dropped_by : (b : Bool) (file : FileId) (s : Server) → cond b (record s { store = record s.store { files = without s.store.files file } }) s ≡ record s { store = record s.store { files = cond b (without s.store.files file) s.store.files } }
dropped_by true file s = refl
dropped_by false file s = refl

pub made_is : (file : FileId) (s : Server) → files.made_file file s ≡ record s { store = record s.store { files = made_files s.store.files file } }
made_is file s = made_by (is_there s.store.files file) file s

pub gone_is : (file : FileId) (s : Server) → files.forgotten file s ≡ gone file s
gone_is file s = ap (files.with_versions (versions.forgotten s.versions.files file)) (dropped_by (is_there s.store.files file) file (record s { unlinked = less (files.is_that file) s.unlinked }))

pub created_is : (path : Parts) (s : Server) → opening.counts_file (files.made_file (opening.new_file (directory.with_made path (nodes.File (opening.new_file s)) s)) (directory.with_made path (nodes.File (opening.new_file s)) s)) ≡ created path s
created_is path s =
    let named : Server = with_names path (directory.made_domain path (nodes.File (opening.new_file s))) s in
    ap (λ (t : Server). opening.counts_file (files.made_file (opening.new_file t) t)) (names_are path (directory.made_domain path (nodes.File (opening.new_file s))) s)
    ∙ ap opening.counts_file (made_by (is_there s.store.files (opening.new_file s)) (opening.new_file s) named)
