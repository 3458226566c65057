-- Requests that make a stream: of a device's master, and of a file up to its grant.
use Rattle.std.specs.Prelude.{◌≡◌, true, false, Some, None}
use Rattle.std.specs.Option.{is_some}
use Rattle.sprite_ids.specs.declared.FileId.{FileId}
use Rattle.sprite_ids.specs.declared.Mode.{Mode}
use Rattle.sprite_paths.specs.Path.{IsPrefix, clean_path}
use Rattle.process_machine.specs.declared.Call.TheVariants as call
use Rattle.packet_bodies.specs.declared.MakeRequest.{MakeRequest}
use Rattle.packet_bodies.specs.declared.OpeningRequest.{OpeningRequest}
use Rattle.packet_bodies.specs.declared.NameRequest.{NameRequest}
use Rattle.packet_bodies.specs.declared.Request.TheVariants as requests
use Rattle.unix_calls.specs.declared.Description.{Description}
use Rattle.unix_calls.specs.declared.state.FileName.{FileName}
use Rattle.unix_calls.specs.declared.state.FileName.TheVariants.{Made}
use Rattle.unix_calls.specs.declared.state.Node.TheVariants.{FileNode}
use Rattle.unix_calls.specs.declared.state.Flags.{Flags}
use Rattle.unix_calls.specs.State.{Unix, free_descriptor}
use Rattle.unix_calls.specs.Tree.{above, is_full, node_at, walk}
use Rattle.unix_calls.specs.NameCalls.{named}
use Rattle.unix_calls.specs.Opening.{flags_of}
use Rattle.server_names.specs.declared.Node.TheVariants.{File}
use Rattle.server_names.specs.Names.{Tree}
use Rattle.server_kernel.specs.declared.Asked.{Asked}
use Rattle.server_kernel.specs.declared.Server.{Server}
use Rattle.server_kernel.specs.Directory.{domain_at, with_made}
use Rattle.server_kernel.specs.Files.{is_busy, made_file}
use Rattle.server_kernel.specs.Grants.{decides}
use Rattle.server_kernel.specs.Names.{makes_device}
use Rattle.server_kernel.specs.Opens.{counts_file, new_file, opening_of, opens}
use Rattle.server_kernel.specs.Waits.{first_about, less_about, turned}
use Rattle.home_laws.specs.Calls.{Calls}
use Rattle.tree_laws.specs.Trees.{Parts, Ties}
use Rattle.flat_tree.specs.Requests.{Trees, with_tree}
use Rattle.flat_tree.specs.Runs.{AreOneTree}
use Rattle.name_laws.specs.Deeds.{Caller, Goes}
use Rattle.name_laws.specs.Laws.{GoesSomewhere, caller_of, is_done_here}
use Rattle.name_laws.specs.Served.{AreKept, Fits, Serves}

-- ---- a device

-- the process is at that call, with that lowest free descriptor; the entry's device is the request's
pub record MakeFits (ties : Ties) (c : Description) (u : Unix) (s : Server) (r : MakeRequest) : Type 0 where
  pub calls : Calls c u r.pid r.number (call.PdMake r.text)
  pub path : clean_path calls.may.process.cwd r.text ≡ Some r.path
  pub free : free_descriptor calls.may.process ≡ Some r.fd
  pub tie : ties.device u.entries ≡ r.device
  pub here : is_some (domain_at r.path s) ≡ true

abbrev pub MakesGo : Type 0
MakesGo = (ties : Ties) (c : Description) (u : Unix) (trees : Trees) (s : Server) (asked : Asked) (r : MakeRequest)
    → Serves ties u trees s → MakeFits ties c u s r → GoesSomewhere ties c u trees r.path (record { tx = asked.tx; pid = r.pid; number = r.number; called = call.PdMake r.text }) s (makes_device asked.tx r s)

-- ---- a file

-- the same of an open, whose flags are lawful; a file that it makes is the server's next one
pub record OpenFits (ties : Ties) (c : Description) (u : Unix) (s : Server) (r : OpeningRequest) : Type 0 where
  pub calls : Calls c u r.pid r.number (call.OpenFile r.text r.flags)
  pub path : clean_path calls.may.process.cwd r.text ≡ Some r.path
  pub free : free_descriptor calls.may.process ≡ Some r.fd
  pub flags : Flags
  pub lawful : flags_of r.flags ≡ Some flags
  pub tie : ties.file (Made u.entries) ≡ new_file s
  pub here : is_some (domain_at r.path s) ≡ true

-- the file that the path names is asked for, to be granted
pub record AsksFor (ties : Ties) (u : Unix) (asked : Asked) (r : OpeningRequest) (mode : Mode) (s next : Server) : Type 0 where
  pub name : FileName
  pub there : node_at u.nodes r.path ≡ Some (FileNode name)
  pub next_is : next ≡ decides asked (ties.file name) (opening_of asked.from r mode) s

-- nothing has the path: a file is made there, and asked for; the names are those of the one-kernel Unix with that file
pub record MakesFile (ties : Ties) (u : Unix) (trees : Trees) (root : Parts) (asked : Asked) (r : OpeningRequest) (flags : Flags) (s next : Server) : Type 0 where
  pub way : walk u.nodes r.path ≡ None
  pub free : node_at u.nodes r.path ≡ None
  pub asked_for : flags.creates ≡ true
  pub room : is_full u.nodes (above r.path) ≡ false
  pub tree : Tree
  pub between : Server
  pub one : AreOneTree ties (named r.path (FileNode (Made u.entries)) u) (with_tree root tree trees)
  pub kept : AreKept u.roots (with_tree root tree trees) between.domains
  pub between_is : between ≡ counts_file (made_file (new_file s) (with_made r.path (File (new_file s)) s))
  pub next_is : next ≡ decides asked (new_file s) (opening_of asked.from r flags.mode) between

pub data OpenGoes (ties : Ties) (c : Description) (u : Unix) (trees : Trees) (root : Parts) (caller : Caller) (asked : Asked) (r : OpeningRequest) (flags : Flags) (s next : Server) : Type 0 where
  Ends : Goes ties c u trees root r.path caller s next → OpenGoes ties c u trees root caller asked r flags s next
  Asks : AsksFor ties u asked r flags.mode s next → OpenGoes ties c u trees root caller asked r flags s next
  Makes : MakesFile ties u trees root asked r flags s next → OpenGoes ties c u trees root caller asked r flags s next

pub record OpensSomewhere (ties : Ties) (c : Description) (u : Unix) (trees : Trees) (caller : Caller) (asked : Asked) (r : OpeningRequest) (flags : Flags) (s next : Server) : Type 0 where
  pub root : Parts
  pub prefix : IsPrefix root r.path
  pub goes : OpenGoes ties c u trees root caller asked r flags s next

abbrev pub OpensGo : Type 0
OpensGo = (ties : Ties) (c : Description) (u : Unix) (trees : Trees) (s : Server) (asked : Asked) (r : OpeningRequest) → Serves ties u trees s → (fits : OpenFits ties c u s r)
    → OpensSomewhere ties c u trees (record { tx = asked.tx; pid = r.pid; number = r.number; called = call.OpenFile r.text r.flags }) asked r fits.flags s (opens asked r s)

-- ---- a queue

-- the server without the first request that waits for a file
abbrev pub without_first : FileId → Server → Server
without_first file s = record s { waiting = less_about file s.waiting }

-- what waited for a file goes when its turn comes
abbrev pub WaitersGo : Type 0
WaitersGo = (ties : Ties) (c : Description) (u : Unix) (trees : Trees) (s : Server) (file : FileId) (asked : Asked) (r : NameRequest) → is_busy file s ≡ false → first_about file s.waiting ≡ Some asked → asked.body ≡ requests.Name r
    → is_done_here r.op ≡ true → Serves ties u trees s → Fits c u s r → GoesSomewhere ties c u trees r.path (caller_of asked r) (without_first file s) (turned file s)
