-- Each request on names that fits goes.
use Rattle.std.specs.Prelude.{◌≡◌, Bool, true, false}
use Rattle.packet_bodies.specs.declared.NameOp.{NameOp}
use Rattle.packet_bodies.specs.declared.NameOp.TheVariants as ops
use Rattle.packet_bodies.specs.declared.NameRequest.{NameRequest}
use Rattle.sprite_paths.specs.Path.{IsPrefix}
use Rattle.unix_calls.specs.declared.Description.{Description}
use Rattle.unix_calls.specs.State.{Unix}
use Rattle.server_kernel.specs.declared.Asked.{Asked}
use Rattle.server_kernel.specs.declared.Server.{Server}
use Rattle.server_kernel.specs.Names.{name_call, names}
use Rattle.tree_laws.specs.Trees.{Parts, Ties}
use Rattle.flat_tree.specs.Requests.{Trees}
use Rattle.name_laws.specs.Deeds.{Caller, Goes}
use Rattle.name_laws.specs.Served.{Fits, Serves}

-- at a domain of its path
pub record GoesSomewhere (ties : Ties) (c : Description) (u : Unix) (trees : Trees) (path : Parts) (caller : Caller) (s next : Server) : Type 0 where
  pub root : Parts
  pub prefix : IsPrefix root path
  pub goes : Goes ties c u trees root path caller s next

abbrev pub caller_of : Asked → NameRequest → Caller
caller_of asked r = record { tx = asked.tx; pid = r.pid; number = r.number; called = name_call r }

-- nobody asks for a walk alone
abbrev pub is_done_here : NameOp → Bool
is_done_here ops.Walk = false
is_done_here _ = true

abbrev pub NamesGo : Type 0
NamesGo = (ties : Ties) (c : Description) (u : Unix) (trees : Trees) (s : Server) (asked : Asked) (r : NameRequest) → is_done_here r.op ≡ true
    → Serves ties u trees s → Fits c u s r → GoesSomewhere ties c u trees r.path (caller_of asked r) s (names asked r s)
