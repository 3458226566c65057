-- The calls of operations that wait.
use Rattle.std.specs.Prelude.{ℕ}
use Rattle.process_machine.specs.declared.Call.{Call}
use Rattle.process_machine.specs.declared.Call.TheVariants as calls
use Rattle.client_file_tables.specs.declared.works.DataKind.{DataKind}
use Rattle.client_file_tables.specs.declared.works.DataKind.TheVariants as kinds
use Rattle.client_file_tables.specs.declared.works.DataCall.{DataCall}
use Rattle.client_file_tables.specs.declared.works.SyncCall.{SyncCall}

-- the call that does that by the descriptor
abbrev pub call_by : DataKind → ℕ → Call
call_by (kinds.Read many) fd = calls.Read fd many
call_by (kinds.Write bytes) fd = calls.Write fd bytes
call_by (kinds.Seek offset) fd = calls.Seek fd offset
call_by kinds.Size fd = calls.Size fd

-- the call, as the process made it
abbrev pub data_call : DataCall → Call
data_call call = call_by call.kind call.fd

abbrev pub sync_call : SyncCall → Call
sync_call call = calls.Sync call.fd
