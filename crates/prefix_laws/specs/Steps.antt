-- What a step of a kernel tells of prefixes.
use Rattle.std.specs.Prelude.{◌≡◌, ℕ, []}
use Rattle.sprite_ids.specs.declared.TxNo.{TxNo}
use Rattle.process_machine.specs.Machine.{Machine}
use Rattle.kernel_steps.specs.declared.Input.{Input}
use Rattle.unix_calls.specs.declared.Description.{Description}
use Rattle.server_kernel.specs.declared.server.Server.{Server}
use Rattle.server_kernel.specs.Steps.{server_step}
use Rattle.client_homes.specs.declared.client.ClientProcs.{ClientProcs}
use Rattle.client_procs.specs.Boot.{boots}
use Rattle.client_procs.specs.Readers.{with_image}
use Rattle.client_procs.specs.Steps.{client_step}
use Rattle.prefix_laws.specs.Prefixes.{LearnsSo, learned_from, learned_in}

-- a client's step, whatever comes: what it knows grows by exactly what the step tells was learned; and the step asks for no prefix, and
-- learns none, that is known then
abbrev pub ClientsLearnSo : Type 0
ClientsLearnSo = (s : ClientProcs) (input : Input) (next : TxNo) (step : ℕ) → LearnsSo s.files.prefixes (client_step s input next step).0.files.prefixes (client_step s input next step).1.events

-- and it learns exactly what the answer to a broadcast of its own teaches, from the server that answered
abbrev pub ClientsLearnByAnswers : Type 0
ClientsLearnByAnswers = (s : ClientProcs) (input : Input) (next : TxNo) (step : ℕ) → learned_in (client_step s input next step).1.events ≡ learned_from input s.files

-- a client knows no prefix when the cluster begins
abbrev pub ClientsBeginWithNone : Type 0
ClientsBeginWithNone = (c : Description) (kernel : ℕ) → (boots c kernel).files.prefixes ≡ []

-- and what a process does between two calls changes nothing of what it knows
abbrev pub ImagesLeavePrefixes : Type 0
ImagesLeavePrefixes = (s : ClientProcs) (pid : ℕ) (image : Machine) → (with_image pid image s).files.prefixes ≡ s.files.prefixes

-- a server's step neither asks for a prefix nor learns one
abbrev pub ServersLearnNone : Type 0
ServersLearnNone = (s : Server) (input : Input) (next : TxNo) → LearnsSo [] [] (server_step s input next).1.events
