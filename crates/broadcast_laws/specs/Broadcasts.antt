-- In which broadcasts a client's operations wait, and which requests of a step ask for a prefix.
use Rattle.std.specs.Prelude.{◌≡◌, ℕ, ◌+◌, List, Some, slice_get}
use Rattle.sprite_ids.specs.declared.TxNo.{TxNo}
use Rattle.packet_bodies.specs.declared.Request.TheVariants.{Prefix}
use Rattle.kernel_steps.specs.declared.Input.{Input}
use Rattle.kernel_steps.specs.declared.Sending.{Sending}
use Rattle.client_file_tables.specs.declared.NameCall.{NameCall}
use Rattle.client_file_tables.specs.declared.NameState.TheVariants.{Broadcasting}
use Rattle.client_file_tables.specs.declared.Pending.{Pending}
use Rattle.client_file_tables.specs.declared.Pending.TheVariants.{Name}
use Rattle.client_homes.specs.declared.client.ClientProcs.{ClientProcs}
use Rattle.client_procs.specs.Steps.{client_step}

-- a path, by its parts
abbrev pub Parts : Type 0
Parts = List (List ℕ)

-- one of these operations waits in the broadcast of that number, for the server of that prefix
pub record WaitsFor (rows : List (ℕ × Pending)) (tx : TxNo) (prefix : Parts) : Type 0 where
  pub at : ℕ
  pub pid : ℕ
  pub call : NameCall
  pub there : slice_get rows at ≡ Some (pid, Name call)
  pub waits : call.state ≡ Broadcasting tx prefix

-- of remote calls that begin one after the other, the first with that number, the one with that number asks for the server of the prefix
pub record AsksNow (first : ℕ) (sends : List Sending) (tx : TxNo) (prefix : Parts) : Type 0 where
  pub at : ℕ
  pub sending : Sending
  pub there : slice_get sends at ≡ Some sending
  pub number : tx.0 ≡ first + at
  pub asks : sending.body ≡ Prefix prefix

-- an operation waited so before, or that call begins now and asks so
pub data IsAsked (rows : List (ℕ × Pending)) (first : ℕ) (sends : List Sending) (tx : TxNo) (prefix : Parts) : Type 0 where
  Before : WaitsFor rows tx prefix → IsAsked rows first sends tx prefix
  Now : AsksNow first sends tx prefix → IsAsked rows first sends tx prefix

-- behind each step of a client, whatever comes: where an operation waits in a broadcast for the server of a prefix, one waited in that
-- broadcast for it before, or the step begins that remote call, with that number, and asks for the prefix
abbrev pub ClientsAskSo : Type 0
ClientsAskSo =
    (s : ClientProcs) (input : Input) (next : TxNo) (step : ℕ) (tx : TxNo) (prefix : Parts) → WaitsFor (client_step s input next step).0.files.pending tx prefix
    → IsAsked s.files.pending next.0 (client_step s input next step).1.sends tx prefix
