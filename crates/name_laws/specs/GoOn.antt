-- What a server keeps, and what a request needs, behind the entries of others.
use Rattle.std.specs.Prelude.{◌≡◌, ◌≢◌, ◌≤◌, false, List, length, Some}
use Rattle.packet_bodies.specs.declared.NameRequest.{NameRequest}
use Rattle.unix_calls.specs.declared.Description.{Description}
use Rattle.unix_calls.specs.declared.Entry.{Entry}
use Rattle.unix_calls.specs.State.{Unix}
use Rattle.unix_calls.specs.After.{after, state_of}
use Rattle.unix_frames.specs.Frames.{changes_names, may}
use Rattle.server_kernel.specs.declared.Server.{Server}
use Rattle.tree_laws.specs.Trees.{Ties}
use Rattle.flat_tree.specs.Requests.{Trees}
use Rattle.name_laws.specs.Served.{Fits, Serves}

-- an entry of a history, where at most 200 processes start
pub record IsEntry (c : Description) (u v : Unix) (e : Entry) : Type 0 where
  pub journal : List Entry
  pub few : length c.starts ≤ 200
  pub was : state_of c journal ≡ Some u
  pub is : after c u e ≡ Some v

-- one whose call changes no names leaves a server's names those of the one-kernel Unix
abbrev pub ServersGoOn : Type 0
ServersGoOn = (ties : Ties) (c : Description) (u v : Unix) (e : Entry) (trees : Trees) (s : Server) → IsEntry c u v e → may changes_names e.call ≡ false → Serves ties u trees s → Serves ties v trees s

-- one of another process leaves a request that waits as fitting as it was
abbrev pub FitsGoOn : Type 0
FitsGoOn = (c : Description) (u v : Unix) (e : Entry) (s : Server) (r : NameRequest) → IsEntry c u v e → r.pid ≢ e.pid → Fits c u s r → Fits c v s r
