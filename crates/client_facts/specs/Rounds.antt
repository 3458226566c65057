-- The rounds in which the processes' side of a client's kernel works off what a step set free.
use Rattle.std.specs.Prelude.{◌≡◌, ℕ, true}
use Rattle.client_homes.specs.declared.client.ClientProcs.{ClientProcs}
use Rattle.client_procs.specs.Turning.{is_quiet, turns}

-- where nothing is left, further rounds change nothing
abbrev pub QuietStays : Type 0
QuietStays = (s : ClientProcs) (count : ℕ) → is_quiet s ≡ true → turns count s ≡ s
