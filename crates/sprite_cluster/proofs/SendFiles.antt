-- What crosses threads with a cluster: the files' side of a client's kernel.
use denote.Param.Send.{IsSend}
use denote.Param.SendFields.{declared_send, variants_send}
use Rattle.sprite_cluster.proofs.SendRecords.{whole, bytes_sends, call_sends, path_sends}
use Rattle.sprite_cluster.proofs.SendTables.{cache_sends, delays_sends, prefixes_sends, streams_sends}
use Rattle.sprite_cluster.proofs.SendPackets.{out_sends}
use Rattle.client_file_tables.specs.contracts.states.NameState as name_state
use Rattle.client_file_tables.specs.contracts.states.DataState as data_state
use Rattle.client_file_tables.specs.contracts.names.NameKind as name_kind
use Rattle.client_file_tables.specs.contracts.names.NameWork as name_work
use Rattle.client_file_tables.specs.contracts.names.NameCall as name_call
use Rattle.client_file_tables.specs.contracts.works.DataKind as data_kind
use Rattle.client_file_tables.specs.contracts.works.DataCall as data_call
use Rattle.client_file_tables.specs.contracts.works.SyncCall as sync_call
use Rattle.client_file_tables.specs.contracts.moves.CloseWork as close_work
use Rattle.client_file_tables.specs.contracts.moves.MoveWork as move_work
use Rattle.client_file_tables.specs.contracts.moves.Report as report
use Rattle.client_file_tables.specs.contracts.works.WriteBackOut as write_back_out
use Rattle.client_file_tables.specs.contracts.pending.Pending as pending
use Rattle.client_file_tables.specs.contracts.client_files.ClientFiles as client_files

pub name_state_sends : IsSend name_state.the_row
name_state_sends = search whole depth 100 fits 400000

pub data_state_sends : IsSend data_state.the_row
data_state_sends = search whole depth 100 fits 400000

pub name_kind_sends : IsSend name_kind.the_row
name_kind_sends = search (whole, path_sends) depth 100 fits 400000

pub name_work_sends : IsSend name_work.the_row
name_work_sends = declared_send name_work.the_type (search (whole, call_sends, path_sends, name_kind_sends) depth 100 fits 400000)

pub name_call_sends : IsSend name_call.the_row
name_call_sends = declared_send name_call.the_type (search (whole, name_work_sends, name_state_sends) depth 100 fits 400000)

pub data_kind_sends : IsSend data_kind.the_row
data_kind_sends = search (whole, bytes_sends) depth 100 fits 400000

pub data_call_sends : IsSend data_call.the_row
data_call_sends = declared_send data_call.the_type (search (whole, data_kind_sends, data_state_sends) depth 100 fits 400000)

pub sync_call_sends : IsSend sync_call.the_row
sync_call_sends = search whole depth 100 fits 400000

pub close_work_sends : IsSend close_work.the_row
close_work_sends = search whole depth 100 fits 400000

pub move_work_sends : IsSend move_work.the_row
move_work_sends = search whole depth 100 fits 400000

pub report_sends : IsSend report.the_row
report_sends = search whole depth 100 fits 400000

pub write_back_out_sends : IsSend write_back_out.the_row
write_back_out_sends = search whole depth 100 fits 400000

pub pending_sends : IsSend pending.the_row
pending_sends = variants_send pending.enum (search (whole, name_call_sends, data_call_sends, sync_call_sends, close_work_sends, move_work_sends) depth 100 fits 400000)

pub client_files_sends : IsSend client_files.the_row
client_files_sends = declared_send client_files.the_type (search (whole, prefixes_sends, cache_sends, delays_sends, streams_sends, path_sends, pending_sends, write_back_out_sends, report_sends, out_sends) depth 100 fits 400000)
