-- Requests are read as they were spelled.
use Rattle.std.proofs.Common.{◌≡◌, ℕ, List, ◌++◌, refl, ap}
use Rattle.std.specs.List.{AllByRecursion}
use Rattle.packet_bodies.specs.declared.Request.{Request}
use Rattle.packet_bodies.specs.declared.Request.TheVariants as requests
use Rattle.field_reader.specs.Reads.{found, made}
use Rattle.wire_format.specs.Codec.{IsCodec}
use Rattle.wire_format.specs.CodecLaws.{before_is, made_of_is, nothing_is, IsRow, row_is, tagged_is, optional_is}
use Rattle.wire_format.specs.NumberLaws.{byte_is, number32_is}
use Rattle.wire_format.specs.ListLaws.{listed_is, text_is}
use Rattle.wire_format.specs.NameLaws.{kernel_is, pid_is, descriptor_is, file_is, device_is, stream_is, truth_is}
use Rattle.wire_format.specs.ChoiceLaws.{name_op_is, file_op_is, call_kind_is, ask_kind_is}
use Rattle.wire_format.specs.ObjectLaws.{block_is, path_is, image_is, target_is, carried_stream_is, home_call_is}
use Rattle.wire_format.specs.Requests.{opening_request, name_request, make_request, close_request, op_request, fetch_request, write_back_request, callback_request, move_request, transfer_request, home_request, ask_request, page_out_request, launch_request, request_shape, request_rows, request}

pub opening_request_is : IsCodec opening_request
opening_request_is = made_of_is (before_is pid_is (before_is number32_is (before_is stream_is (before_is path_is (before_is byte_is (before_is descriptor_is text_is))))))
    (λ p. record { pid = p.0; number = p.1.0; stream = p.1.1.0; path = p.1.1.1.0; flags = p.1.1.1.1.0; fd = p.1.1.1.1.1.0; text = p.1.1.1.1.1.1 })
    (λ r. (r.pid, (r.number, (r.stream, (r.path, (r.flags, (r.fd, r.text)))))))
    (λ r. refl) (λ p. refl)

pub name_request_is : IsCodec name_request
name_request_is = made_of_is (before_is pid_is (before_is number32_is (before_is name_op_is (before_is path_is (before_is (optional_is path_is) (before_is number32_is (before_is text_is (optional_is text_is))))))))
    (λ p. record { pid = p.0; number = p.1.0; op = p.1.1.0; path = p.1.1.1.0; second = p.1.1.1.1.0; max = p.1.1.1.1.1.0; text = p.1.1.1.1.1.1.0; second_text = p.1.1.1.1.1.1.1 })
    (λ r. (r.pid, (r.number, (r.op, (r.path, (r.second, (r.max, (r.text, r.second_text))))))))
    (λ r. refl) (λ p. refl)

pub make_request_is : IsCodec make_request
make_request_is = made_of_is (before_is pid_is (before_is number32_is (before_is stream_is (before_is path_is (before_is device_is (before_is descriptor_is text_is))))))
    (λ p. record { pid = p.0; number = p.1.0; stream = p.1.1.0; path = p.1.1.1.0; device = p.1.1.1.1.0; fd = p.1.1.1.1.1.0; text = p.1.1.1.1.1.1 })
    (λ r. (r.pid, (r.number, (r.stream, (r.path, (r.device, (r.fd, r.text)))))))
    (λ r. refl) (λ p. refl)

pub close_request_is : IsCodec close_request
close_request_is = made_of_is (before_is target_is (before_is stream_is number32_is))
    (λ p. record { object = p.0; stream = p.1.0; grants = p.1.1 })
    (λ r. (r.object, (r.stream, r.grants)))
    (λ r. refl) (λ p. refl)

pub op_request_is : IsCodec op_request
op_request_is = made_of_is (before_is pid_is (before_is number32_is (before_is file_is (before_is number32_is (before_is stream_is (before_is file_op_is (before_is (optional_is number32_is) (before_is number32_is (before_is text_is descriptor_is)))))))))
    (λ p. record { pid = p.0; number = p.1.0; file = p.1.1.0; stamp = p.1.1.1.0; stream = p.1.1.1.1.0; op = p.1.1.1.1.1.0; offset = p.1.1.1.1.1.1.0; length = p.1.1.1.1.1.1.1.0; bytes = p.1.1.1.1.1.1.1.1.0; fd = p.1.1.1.1.1.1.1.1.1 })
    (λ r. (r.pid, (r.number, (r.file, (r.stamp, (r.stream, (r.op, (r.offset, (r.length, (r.bytes, r.fd))))))))))
    (λ r. refl) (λ p. refl)

pub fetch_request_is : IsCodec fetch_request
fetch_request_is = made_of_is (before_is file_is (before_is number32_is block_is))
    (λ p. record { file = p.0; stamp = p.1.0; block = p.1.1 })
    (λ r. (r.file, (r.stamp, r.block)))
    (λ r. refl) (λ p. refl)

pub write_back_request_is : IsCodec write_back_request
write_back_request_is = made_of_is (before_is file_is (before_is number32_is (before_is block_is (before_is number32_is text_is))))
    (λ p. record { file = p.0; stamp = p.1.0; block = p.1.1.0; size = p.1.1.1.0; bytes = p.1.1.1.1 })
    (λ r. (r.file, (r.stamp, (r.block, (r.size, r.bytes)))))
    (λ r. refl) (λ p. refl)

pub callback_request_is : IsCodec callback_request
callback_request_is = made_of_is (before_is file_is (before_is number32_is call_kind_is))
    (λ p. record { file = p.0; stamp = p.1.0; kind = p.1.1 })
    (λ r. (r.file, (r.stamp, r.kind)))
    (λ r. refl) (λ p. refl)

pub move_request_is : IsCodec move_request
move_request_is = made_of_is (before_is stream_is (before_is target_is (before_is kernel_is (before_is truth_is (before_is (optional_is number32_is) number32_is)))))
    (λ p. record { stream = p.0; object = p.1.0; to = p.1.1.0; kept = p.1.1.1.0; offset = p.1.1.1.1.0; grants = p.1.1.1.1.1 })
    (λ r. (r.stream, (r.object, (r.to, (r.kept, (r.offset, r.grants))))))
    (λ r. refl) (λ p. refl)

pub transfer_request_is : IsCodec transfer_request
transfer_request_is = made_of_is (before_is pid_is (before_is number32_is (before_is image_is (before_is path_is (before_is (listed_is (before_is descriptor_is stream_is)) (before_is (listed_is carried_stream_is) (before_is truth_is truth_is)))))))
    (λ p. record { pid = p.0; number = p.1.0; image = p.1.1.0; cwd = p.1.1.1.0; fds = p.1.1.1.1.0; streams = p.1.1.1.1.1.0; killed = p.1.1.1.1.1.1.0; moving = p.1.1.1.1.1.1.1 })
    (λ r. (r.pid, (r.number, (r.image, (r.cwd, (r.fds, (r.streams, (r.killed, r.moving))))))))
    (λ r. refl) (λ p. refl)

pub home_request_is : IsCodec home_request
home_request_is = made_of_is (before_is pid_is (before_is number32_is home_call_is))
    (λ p. record { pid = p.0; number = p.1.0; call = p.1.1 })
    (λ r. (r.pid, (r.number, r.call)))
    (λ r. refl) (λ p. refl)

pub ask_request_is : IsCodec ask_request
ask_request_is = made_of_is (before_is pid_is (before_is number32_is (before_is device_is (before_is ask_kind_is (before_is number32_is (before_is text_is descriptor_is))))))
    (λ p. record { pid = p.0; number = p.1.0; device = p.1.1.0; kind = p.1.1.1.0; length = p.1.1.1.1.0; bytes = p.1.1.1.1.1.0; fd = p.1.1.1.1.1.1 })
    (λ r. (r.pid, (r.number, (r.device, (r.kind, (r.length, (r.bytes, r.fd)))))))
    (λ r. refl) (λ p. refl)

pub page_out_request_is : IsCodec page_out_request
page_out_request_is = made_of_is (before_is pid_is (before_is byte_is text_is))
    (λ p. record { pid = p.0; page = p.1.0; bytes = p.1.1 })
    (λ r. (r.pid, (r.page, r.bytes)))
    (λ r. refl) (λ p. refl)

pub launch_request_is : IsCodec launch_request
launch_request_is = made_of_is (before_is pid_is (before_is number32_is (before_is byte_is (before_is path_is (before_is (listed_is (before_is descriptor_is stream_is)) (before_is (listed_is carried_stream_is) truth_is))))))
    (λ p. record { pid = p.0; number = p.1.0; program = p.1.1.0; cwd = p.1.1.1.0; fds = p.1.1.1.1.0; streams = p.1.1.1.1.1.0; killed = p.1.1.1.1.1.1 })
    (λ r. (r.pid, (r.number, (r.program, (r.cwd, (r.fds, (r.streams, r.killed)))))))
    (λ r. refl) (λ p. refl)

request_again : (value : Request) (rest : List ℕ) → (request_shape value).Fits → request.read ((request_shape value).spelled ++ rest) ≡ found value rest
request_again requests.Echo rest fits = refl
request_again (requests.Prefix x) rest fits = ap (made {B = Request} requests.Prefix) (path_is.again x rest fits)
request_again (requests.Opening x) rest fits = ap (made {B = Request} requests.Opening) (opening_request_is.again x rest fits)
request_again (requests.Name x) rest fits = ap (made {B = Request} requests.Name) (name_request_is.again x rest fits)
request_again (requests.Make x) rest fits = ap (made {B = Request} requests.Make) (make_request_is.again x rest fits)
request_again (requests.Close x) rest fits = ap (made {B = Request} requests.Close) (close_request_is.again x rest fits)
request_again (requests.Op x) rest fits = ap (made {B = Request} requests.Op) (op_request_is.again x rest fits)
request_again (requests.Fetch x) rest fits = ap (made {B = Request} requests.Fetch) (fetch_request_is.again x rest fits)
request_again (requests.WriteBack x) rest fits = ap (made {B = Request} requests.WriteBack) (write_back_request_is.again x rest fits)
request_again (requests.Callback x) rest fits = ap (made {B = Request} requests.Callback) (callback_request_is.again x rest fits)
request_again (requests.Move x) rest fits = ap (made {B = Request} requests.Move) (move_request_is.again x rest fits)
request_again (requests.Transfer x) rest fits = ap (made {B = Request} requests.Transfer) (transfer_request_is.again x rest fits)
request_again (requests.Home x) rest fits = ap (made {B = Request} requests.Home) (home_request_is.again x rest fits)
request_again (requests.Place x y) rest fits = ap (made {B = Request} (λ p. requests.Place p.0 p.1)) ((before_is pid_is kernel_is).again (x, y) rest fits)
request_again (requests.Killed x) rest fits = ap (made {B = Request} requests.Killed) (pid_is.again x rest fits)
request_again (requests.Ask x) rest fits = ap (made {B = Request} requests.Ask) (ask_request_is.again x rest fits)
request_again (requests.PageOut x) rest fits = ap (made {B = Request} requests.PageOut) (page_out_request_is.again x rest fits)
request_again (requests.PageIn x y) rest fits = ap (made {B = Request} (λ p. requests.PageIn p.0 p.1)) ((before_is pid_is byte_is).again (x, y) rest fits)
request_again (requests.Launch x) rest fits = ap (made {B = Request} requests.Launch) (launch_request_is.again x rest fits)

request_rows_are : AllByRecursion (IsRow request_shape) request_rows
request_rows_are = (
  row_is request_shape 1 nothing_is (λ x. requests.Echo) (λ x. refl) (λ x h. h),
  (
    row_is request_shape 2 path_is requests.Prefix (λ x. refl) (λ x h. h),
    (
      row_is request_shape 3 opening_request_is requests.Opening (λ x. refl) (λ x h. h),
      (
        row_is request_shape 4 name_request_is requests.Name (λ x. refl) (λ x h. h),
        (
          row_is request_shape 5 make_request_is requests.Make (λ x. refl) (λ x h. h),
          (
            row_is request_shape 6 close_request_is requests.Close (λ x. refl) (λ x h. h),
            (
              row_is request_shape 7 op_request_is requests.Op (λ x. refl) (λ x h. h),
              (
                row_is request_shape 8 fetch_request_is requests.Fetch (λ x. refl) (λ x h. h),
                (
                  row_is request_shape 9 write_back_request_is requests.WriteBack (λ x. refl) (λ x h. h),
                  (
                    row_is request_shape 10 callback_request_is requests.Callback (λ x. refl) (λ x h. h),
                    (
                      row_is request_shape 11 move_request_is requests.Move (λ x. refl) (λ x h. h),
                      (
                        row_is request_shape 12 transfer_request_is requests.Transfer (λ x. refl) (λ x h. h),
                        (
                          row_is request_shape 13 home_request_is requests.Home (λ x. refl) (λ x h. h),
                          (
                            row_is request_shape 14 (before_is pid_is kernel_is) (λ p. requests.Place p.0 p.1) (λ x. refl) (λ x h. h),
                            (
                              row_is request_shape 15 pid_is requests.Killed (λ x. refl) (λ x h. h),
                              (
                                row_is request_shape 16 ask_request_is requests.Ask (λ x. refl) (λ x h. h),
                                (
                                  row_is request_shape 17 page_out_request_is requests.PageOut (λ x. refl) (λ x h. h),
                                  (
                                    row_is request_shape 18 (before_is pid_is byte_is) (λ p. requests.PageIn p.0 p.1) (λ x. refl) (λ x h. h),
                                    (
                                      row_is request_shape 19 launch_request_is requests.Launch (λ x. refl) (λ x h. h),
                                      tt,
                                    ),
                                  ),
                                ),
                              ),
                            ),
                          ),
                        ),
                      ),
                    ),
                  ),
                ),
              ),
            ),
          ),
        ),
      ),
    ),
  ),
)

pub request_is : IsCodec request
request_is = tagged_is request_shape request_rows request_again request_rows_are
