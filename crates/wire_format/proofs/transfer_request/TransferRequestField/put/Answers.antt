use Rattle.wire_format.specs.Codec.{◌before◌, number32, listed}
use Rattle.wire_format.specs.Names.{pid, descriptor, stream, truth}
use Rattle.wire_format.specs.Objects.{path, image, carried_stream}
use Rattle.wire_format.proofs.PuttingLaws.{put_then, on_last}
use Rattle.wire_format.proofs.transfer_request.TransferRequestField.put.Goals as goal

pub returns-clause-bytes : goal.returns-clause-bytes
returns-clause-bytes c =
    let s = c.args.self.now in
    let d7 = truth before truth in
    let d6 = listed carried_stream before d7 in
    let d5 = listed (descriptor before stream) before d6 in
    let d4 = path before d5 in
    let d3 = image before d4 in
    let d2 = number32 before d3 in
    on_last c.put-8.result (λ e8.
    let e7 = put_then truth truth s.killed s.moving c.put-6.new.out.items c.put-7.new.out.items c.put-8.new.out.items c.in_ok-put-7.ensures.bytes e8 in
    let e6 = put_then (listed carried_stream) d7 s.streams (s.killed, s.moving) c.put-5.new.out.items c.put-6.new.out.items c.put-8.new.out.items c.in_ok-put-6.ensures.bytes e7 in
    let e5 = put_then (listed (descriptor before stream)) d6 s.fds (s.streams, (s.killed, s.moving)) c.put-4.new.out.items c.put-5.new.out.items c.put-8.new.out.items c.in_ok-put-5.ensures.bytes e6 in
    let e4 = put_then path d5 s.cwd (s.fds, (s.streams, (s.killed, s.moving))) c.put-3.new.out.items c.put-4.new.out.items c.put-8.new.out.items c.in_ok-put-4.ensures.bytes e5 in
    let e3 = put_then image d4 s.image (s.cwd, (s.fds, (s.streams, (s.killed, s.moving)))) c.put-2.new.out.items c.put-3.new.out.items c.put-8.new.out.items c.in_ok-put-3.ensures.bytes e4 in
    let e2 = put_then number32 d3 s.number (s.image, (s.cwd, (s.fds, (s.streams, (s.killed, s.moving))))) c.put.new.out.items c.put-2.new.out.items c.put-8.new.out.items c.in_ok-put-2.ensures.bytes e3 in
    let e1 = put_then pid d2 s.pid (s.number, (s.image, (s.cwd, (s.fds, (s.streams, (s.killed, s.moving)))))) c.args.out.now.items c.put.new.out.items c.put-8.new.out.items c.in_ok-put.ensures.bytes e2 in
    e1) c.put-8.ensures.bytes
