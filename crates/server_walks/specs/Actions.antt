-- What requests ask of the table of opens.
use Rattle.std.specs.Prelude.{ℕ, Option, Some, None, option_map}
use Rattle.packet_bodies.specs.declared.Request.{Request}
use Rattle.packet_bodies.specs.declared.Request.TheVariants as requests
use Rattle.version_table.specs.declared.Action.{Action}
use Rattle.server_kernel.specs.declared.Asked.{Asked}
use Rattle.server_kernel.specs.Flags.{opening_mode}
use Rattle.server_kernel.specs.Opens.{opening_of}
use Rattle.server_kernel.specs.Requests.{moving_of}

-- what a request asks of the table of opens
abbrev pub action_by : Request → ℕ → Option Action
action_by (requests.Opening r) from = option_map (opening_of from r) (opening_mode r.flags)
action_by (requests.Move r) from = Some (moving_of from r)
action_by body from = None

abbrev pub action_of : Asked → Option Action
action_of asked = action_by asked.body asked.from
