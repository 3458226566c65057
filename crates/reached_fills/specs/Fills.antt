-- The order in which operations of the clients of a reached cluster fill blocks.
use Rattle.std.specs.Prelude.{ℕ}
use Rattle.unix_calls.specs.declared.Description.{Description}
use Rattle.unix_calls.specs.Lawful.{Lawful}
use Rattle.client_facts.specs.FileFacts.{TurnsAreInOrder}
use Rattle.fill_facts.specs.FillFacts.{AreShort}
use Rattle.sprite_cluster.specs.Reached.{At, Reached}
use Rattle.reached_clients.specs.Clients.{OfClients}

-- no operation on files of a client of a reached cluster moves more bytes than a program's call may
abbrev pub OperationsStayShort : {L : Type 0} → (L → ℕ → ℕ → ℕ) → (L → ℕ → ℕ → ℕ) → Type 0
OperationsStayShort {L} faults asked = (c : Description) (begun : L) (now : At L) → Reached faults asked c begun now → OfClients (λ kernel client. AreShort client.files) 1 now.state.kernels

-- the first of those operations of each client that need blocks fills, and all others wait for their turn: a lawful description gives no cache,
-- so that none fills, or one of eight blocks or more
abbrev pub FillsStayInOrder : {L : Type 0} → (L → ℕ → ℕ → ℕ) → (L → ℕ → ℕ → ℕ) → Type 0
FillsStayInOrder {L} faults asked =
    (c : Description) (begun : L) (now : At L) → Lawful c → Reached faults asked c begun now → OfClients (λ kernel client. TurnsAreInOrder client.files) 1 now.state.kernels
