-- What crosses threads with a cluster: requests, replies, and what a step says.
use denote.Param.Send.{IsSend}
use denote.Param.SendFields.{declared_send, variants_send}
use Rattle.sprite_cluster.proofs.SendRecords.{whole, bytes_sends, event_sends, path_sends, reply_sends}
use Rattle.packet_bodies.specs.contracts.opening_request.OpeningRequest as opening_request
use Rattle.packet_bodies.specs.contracts.name_request.NameRequest as name_request
use Rattle.packet_bodies.specs.contracts.make_request.MakeRequest as make_request
use Rattle.packet_bodies.specs.contracts.close_request.CloseRequest as close_request
use Rattle.packet_bodies.specs.contracts.op_request.OpRequest as op_request
use Rattle.packet_bodies.specs.contracts.write_back_request.WriteBackRequest as write_back_request
use Rattle.packet_bodies.specs.contracts.carried_stream.CarriedStream as carried_stream
use Rattle.packet_bodies.specs.contracts.transfer_request.TransferRequest as transfer_request
use Rattle.packet_bodies.specs.contracts.home_request.HomeRequest as home_request
use Rattle.packet_bodies.specs.contracts.ask_request.AskRequest as ask_request
use Rattle.packet_bodies.specs.contracts.launch_request.LaunchRequest as launch_request
use Rattle.packet_bodies.specs.contracts.request.Request as request
use Rattle.packet_bodies.specs.contracts.reply_body.ReplyBody as reply_body
use Rattle.kernel_steps.specs.contracts.sending.Sending as sending
use Rattle.kernel_steps.specs.contracts.writer.Out as out

pub opening_request_sends : IsSend opening_request.the_row
opening_request_sends = search (whole, path_sends, bytes_sends) depth 100 fits 400000

pub name_request_sends : IsSend name_request.the_row
name_request_sends = search (whole, path_sends) depth 100 fits 400000

pub make_request_sends : IsSend make_request.the_row
make_request_sends = search (whole, path_sends) depth 100 fits 400000

pub close_request_sends : IsSend close_request.the_row
close_request_sends = search whole depth 100 fits 400000

pub op_request_sends : IsSend op_request.the_row
op_request_sends = search (whole, bytes_sends) depth 100 fits 400000

pub write_back_request_sends : IsSend write_back_request.the_row
write_back_request_sends = search (whole, bytes_sends) depth 100 fits 400000

pub carried_stream_sends : IsSend carried_stream.the_row
carried_stream_sends = search whole depth 100 fits 400000

pub transfer_request_sends : IsSend transfer_request.the_row
transfer_request_sends = declared_send transfer_request.the_type (search (whole, carried_stream_sends, bytes_sends, path_sends) depth 100 fits 400000)

pub home_request_sends : IsSend home_request.the_row
home_request_sends = search (whole, bytes_sends) depth 100 fits 400000

pub ask_request_sends : IsSend ask_request.the_row
ask_request_sends = search (whole, bytes_sends) depth 100 fits 400000

pub launch_request_sends : IsSend launch_request.the_row
launch_request_sends = search (whole, path_sends) depth 100 fits 400000

pub request_sends : IsSend request.the_row
request_sends = variants_send request.enum (search (whole, path_sends, opening_request_sends, name_request_sends, make_request_sends, close_request_sends, op_request_sends, write_back_request_sends, transfer_request_sends, home_request_sends, ask_request_sends, launch_request_sends, bytes_sends) depth 100 fits 400000)

pub reply_body_sends : IsSend reply_body.the_row
reply_body_sends = variants_send reply_body.enum (search (whole, path_sends, bytes_sends) depth 100 fits 400000)

pub sending_sends : IsSend sending.the_row
sending_sends = declared_send sending.the_type (search (whole, request_sends) depth 100 fits 400000)

pub out_sends : IsSend out.the_row
out_sends = declared_send out.the_type (search (whole, sending_sends, event_sends, reply_body_sends, reply_sends) depth 100 fits 400000)
