-- How requests are spelled.
use Rattle.std.specs.Prelude.{List, [], ◌∷◌}
use Rattle.packet_bodies.specs.declared.OpeningRequest.{OpeningRequest}
use Rattle.packet_bodies.specs.declared.NameRequest.{NameRequest}
use Rattle.packet_bodies.specs.declared.MakeRequest.{MakeRequest}
use Rattle.packet_bodies.specs.declared.CloseRequest.{CloseRequest}
use Rattle.packet_bodies.specs.declared.OpRequest.{OpRequest}
use Rattle.packet_bodies.specs.declared.FetchRequest.{FetchRequest}
use Rattle.packet_bodies.specs.declared.WriteBackRequest.{WriteBackRequest}
use Rattle.packet_bodies.specs.declared.CallbackRequest.{CallbackRequest}
use Rattle.packet_bodies.specs.declared.MoveRequest.{MoveRequest}
use Rattle.packet_bodies.specs.declared.TransferRequest.{TransferRequest}
use Rattle.packet_bodies.specs.declared.HomeRequest.{HomeRequest}
use Rattle.packet_bodies.specs.declared.AskRequest.{AskRequest}
use Rattle.packet_bodies.specs.declared.PageOutRequest.{PageOutRequest}
use Rattle.packet_bodies.specs.declared.LaunchRequest.{LaunchRequest}
use Rattle.packet_bodies.specs.declared.Request.{Request}
use Rattle.packet_bodies.specs.declared.Request.TheVariants as requests
use Rattle.wire_format.specs.Codec.{Codec, byte, number32, text, optional, listed, nothing, Shape, form, Row, row, tagged, ◌before◌, made_of}
use Rattle.wire_format.specs.Names.{kernel, pid, descriptor, file, device, stream, truth}
use Rattle.wire_format.specs.Choices.{name_op, file_op, call_kind, ask_kind}
use Rattle.wire_format.specs.Objects.{block, path, image, target, carried_stream, home_call}

abbrev pub opening_request : Codec OpeningRequest
opening_request = made_of (pid before number32 before stream before path before byte before descriptor before text)
    (λ p. record { pid = p.0; number = p.1.0; stream = p.1.1.0; path = p.1.1.1.0; flags = p.1.1.1.1.0; fd = p.1.1.1.1.1.0; text = p.1.1.1.1.1.1 })
    (λ r. (r.pid, (r.number, (r.stream, (r.path, (r.flags, (r.fd, r.text)))))))

abbrev pub name_request : Codec NameRequest
name_request = made_of (pid before number32 before name_op before path before optional path before number32 before text before optional text)
    (λ p. record { pid = p.0; number = p.1.0; op = p.1.1.0; path = p.1.1.1.0; second = p.1.1.1.1.0; max = p.1.1.1.1.1.0; text = p.1.1.1.1.1.1.0; second_text = p.1.1.1.1.1.1.1 })
    (λ r. (r.pid, (r.number, (r.op, (r.path, (r.second, (r.max, (r.text, r.second_text))))))))

abbrev pub make_request : Codec MakeRequest
make_request = made_of (pid before number32 before stream before path before device before descriptor before text)
    (λ p. record { pid = p.0; number = p.1.0; stream = p.1.1.0; path = p.1.1.1.0; device = p.1.1.1.1.0; fd = p.1.1.1.1.1.0; text = p.1.1.1.1.1.1 })
    (λ r. (r.pid, (r.number, (r.stream, (r.path, (r.device, (r.fd, r.text)))))))

abbrev pub close_request : Codec CloseRequest
close_request = made_of (target before stream before number32)
    (λ p. record { object = p.0; stream = p.1.0; grants = p.1.1 })
    (λ r. (r.object, (r.stream, r.grants)))

abbrev pub op_request : Codec OpRequest
op_request = made_of (pid before number32 before file before number32 before stream before file_op before optional number32 before number32 before text before descriptor)
    (λ p. record { pid = p.0; number = p.1.0; file = p.1.1.0; stamp = p.1.1.1.0; stream = p.1.1.1.1.0; op = p.1.1.1.1.1.0; offset = p.1.1.1.1.1.1.0; length = p.1.1.1.1.1.1.1.0; bytes = p.1.1.1.1.1.1.1.1.0; fd = p.1.1.1.1.1.1.1.1.1 })
    (λ r. (r.pid, (r.number, (r.file, (r.stamp, (r.stream, (r.op, (r.offset, (r.length, (r.bytes, r.fd))))))))))

abbrev pub fetch_request : Codec FetchRequest
fetch_request = made_of (file before number32 before block)
    (λ p. record { file = p.0; stamp = p.1.0; block = p.1.1 })
    (λ r. (r.file, (r.stamp, r.block)))

abbrev pub write_back_request : Codec WriteBackRequest
write_back_request = made_of (file before number32 before block before number32 before text)
    (λ p. record { file = p.0; stamp = p.1.0; block = p.1.1.0; size = p.1.1.1.0; bytes = p.1.1.1.1 })
    (λ r. (r.file, (r.stamp, (r.block, (r.size, r.bytes)))))

abbrev pub callback_request : Codec CallbackRequest
callback_request = made_of (file before number32 before call_kind)
    (λ p. record { file = p.0; stamp = p.1.0; kind = p.1.1 })
    (λ r. (r.file, (r.stamp, r.kind)))

abbrev pub move_request : Codec MoveRequest
move_request = made_of (stream before target before kernel before truth before optional number32 before number32)
    (λ p. record { stream = p.0; object = p.1.0; to = p.1.1.0; kept = p.1.1.1.0; offset = p.1.1.1.1.0; grants = p.1.1.1.1.1 })
    (λ r. (r.stream, (r.object, (r.to, (r.kept, (r.offset, r.grants))))))

abbrev pub transfer_request : Codec TransferRequest
transfer_request = made_of (pid before number32 before image before path before listed (descriptor before stream) before listed carried_stream before truth before truth)
    (λ p. record { pid = p.0; number = p.1.0; image = p.1.1.0; cwd = p.1.1.1.0; fds = p.1.1.1.1.0; streams = p.1.1.1.1.1.0; killed = p.1.1.1.1.1.1.0; moving = p.1.1.1.1.1.1.1 })
    (λ r. (r.pid, (r.number, (r.image, (r.cwd, (r.fds, (r.streams, (r.killed, r.moving))))))))

abbrev pub home_request : Codec HomeRequest
home_request = made_of (pid before number32 before home_call)
    (λ p. record { pid = p.0; number = p.1.0; call = p.1.1 })
    (λ r. (r.pid, (r.number, r.call)))

abbrev pub ask_request : Codec AskRequest
ask_request = made_of (pid before number32 before device before ask_kind before number32 before text before descriptor)
    (λ p. record { pid = p.0; number = p.1.0; device = p.1.1.0; kind = p.1.1.1.0; length = p.1.1.1.1.0; bytes = p.1.1.1.1.1.0; fd = p.1.1.1.1.1.1 })
    (λ r. (r.pid, (r.number, (r.device, (r.kind, (r.length, (r.bytes, r.fd)))))))

abbrev pub page_out_request : Codec PageOutRequest
page_out_request = made_of (pid before byte before text)
    (λ p. record { pid = p.0; page = p.1.0; bytes = p.1.1 })
    (λ r. (r.pid, (r.page, r.bytes)))

abbrev pub launch_request : Codec LaunchRequest
launch_request = made_of (pid before number32 before byte before path before listed (descriptor before stream) before listed carried_stream before truth)
    (λ p. record { pid = p.0; number = p.1.0; program = p.1.1.0; cwd = p.1.1.1.0; fds = p.1.1.1.1.0; streams = p.1.1.1.1.1.0; killed = p.1.1.1.1.1.1 })
    (λ r. (r.pid, (r.number, (r.program, (r.cwd, (r.fds, (r.streams, r.killed)))))))

-- 19 forms, each with its number before its fields
abbrev pub request_shape : Request → Shape
request_shape requests.Echo = form 1 nothing tt
request_shape (requests.Prefix x) = form 2 path x
request_shape (requests.Opening x) = form 3 opening_request x
request_shape (requests.Name x) = form 4 name_request x
request_shape (requests.Make x) = form 5 make_request x
request_shape (requests.Close x) = form 6 close_request x
request_shape (requests.Op x) = form 7 op_request x
request_shape (requests.Fetch x) = form 8 fetch_request x
request_shape (requests.WriteBack x) = form 9 write_back_request x
request_shape (requests.Callback x) = form 10 callback_request x
request_shape (requests.Move x) = form 11 move_request x
request_shape (requests.Transfer x) = form 12 transfer_request x
request_shape (requests.Home x) = form 13 home_request x
request_shape (requests.Place x y) = form 14 (pid before kernel) (x, y)
request_shape (requests.Killed x) = form 15 pid x
request_shape (requests.Ask x) = form 16 ask_request x
request_shape (requests.PageOut x) = form 17 page_out_request x
request_shape (requests.PageIn x y) = form 18 (pid before byte) (x, y)
request_shape (requests.Launch x) = form 19 launch_request x

-- what is read behind the numbers from 14 on
abbrev pub last_rows : List (Row Request)
last_rows =
    row 14 (pid before kernel) (λ p. requests.Place p.0 p.1) ∷
    row 15 pid requests.Killed ∷
    row 16 ask_request requests.Ask ∷
    row 17 page_out_request requests.PageOut ∷
    row 18 (pid before byte) (λ p. requests.PageIn p.0 p.1) ∷
    row 19 launch_request requests.Launch ∷
    []

-- what is read behind the numbers from 8 on
abbrev pub later_rows : List (Row Request)
later_rows =
    row 8 fetch_request requests.Fetch ∷
    row 9 write_back_request requests.WriteBack ∷
    row 10 callback_request requests.Callback ∷
    row 11 move_request requests.Move ∷
    row 12 transfer_request requests.Transfer ∷
    row 13 home_request requests.Home ∷
    last_rows

abbrev pub request_rows : List (Row Request)
request_rows =
    row 1 nothing (λ x. requests.Echo) ∷
    row 2 path requests.Prefix ∷
    row 3 opening_request requests.Opening ∷
    row 4 name_request requests.Name ∷
    row 5 make_request requests.Make ∷
    row 6 close_request requests.Close ∷
    row 7 op_request requests.Op ∷
    later_rows

abbrev pub request : Codec Request
request = tagged request_shape request_rows
