-- A server's steps, one after the other, from when the cluster begins.
use Rattle.std.specs.Prelude.{◌≡◌, ℕ, List, [], ◌∷◌, Some}
use Rattle.sprite_ids.specs.declared.TxNo.{TxNo}
use Rattle.unix_calls.specs.declared.Description.{Description}
use Rattle.kernel_steps.specs.declared.Input.{Input}
use Rattle.server_kernel.specs.declared.Server.{Server}
use Rattle.server_kernel.specs.Boot.{boots}
use Rattle.server_kernel.specs.Steps.{server_step}

-- the server after these inputs, each with the number of the first remote call of its step
abbrev pub after : List (Input × TxNo) → Server → Server
after [] s = s
after (one ∷ rest) s = after rest (server_step s one.0 one.1).0

-- every step of a server keeps the fact, whatever comes
abbrev pub StepKeeps : (Server → Type 0) → Type 0
StepKeeps Fact = (s : Server) (input : Input) (next : TxNo) → Fact s → Fact (server_step s input next).0

-- a server has it when the cluster begins
abbrev pub BootHas : (Server → Type 0) → Type 0
BootHas Fact = (c : Description) (kernel : ℕ) (s : Server) → boots c kernel ≡ Some s → Fact s

-- and so it has it from then on, whatever comes
abbrev pub AlwaysHolds : (Server → Type 0) → Type 0
AlwaysHolds Fact = (c : Description) (kernel : ℕ) (first : Server) (inputs : List (Input × TxNo)) → boots c kernel ≡ Some first → Fact (after inputs first)
