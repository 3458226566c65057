use Rattle.wire_format.specs.Codec.{◌before◌, number32, text, optional}
use Rattle.wire_format.specs.Names.{pid, descriptor, file, stream}
use Rattle.wire_format.specs.Choices.{file_op}
use Rattle.wire_format.proofs.PuttingLaws.{put_then, on_last}
use Rattle.wire_format.proofs.op_request.OpRequestField.put.Goals as goal

pub returns-clause-bytes : goal.returns-clause-bytes
returns-clause-bytes c =
    let s = c.args.self.now in
    let d9 = text before descriptor in
    let d8 = number32 before d9 in
    let d7 = optional number32 before d8 in
    let d6 = file_op before d7 in
    let d5 = stream before d6 in
    let d4 = number32 before d5 in
    let d3 = file before d4 in
    let d2 = number32 before d3 in
    on_last c.put-10.result (λ e10.
    let e9 = put_then text descriptor s.bytes s.fd c.put-8.new.out.items c.put-9.new.out.items c.put-10.new.out.items c.in_ok-put-9.ensures.bytes e10 in
    let e8 = put_then number32 d9 s.length (s.bytes, s.fd) c.put-7.new.out.items c.put-8.new.out.items c.put-10.new.out.items c.in_ok-put-8.ensures.bytes e9 in
    let e7 = put_then (optional number32) d8 s.offset (s.length, (s.bytes, s.fd)) c.put-6.new.out.items c.put-7.new.out.items c.put-10.new.out.items c.in_ok-put-7.ensures.bytes e8 in
    let e6 = put_then file_op d7 s.op (s.offset, (s.length, (s.bytes, s.fd))) c.put-5.new.out.items c.put-6.new.out.items c.put-10.new.out.items c.in_ok-put-6.ensures.bytes e7 in
    let e5 = put_then stream d6 s.stream (s.op, (s.offset, (s.length, (s.bytes, s.fd)))) c.put-4.new.out.items c.put-5.new.out.items c.put-10.new.out.items c.in_ok-put-5.ensures.bytes e6 in
    let e4 = put_then number32 d5 s.stamp (s.stream, (s.op, (s.offset, (s.length, (s.bytes, s.fd))))) c.put-3.new.out.items c.put-4.new.out.items c.put-10.new.out.items c.in_ok-put-4.ensures.bytes e5 in
    let e3 = put_then file d4 s.file (s.stamp, (s.stream, (s.op, (s.offset, (s.length, (s.bytes, s.fd)))))) c.put-2.new.out.items c.put-3.new.out.items c.put-10.new.out.items c.in_ok-put-3.ensures.bytes e4 in
    let e2 = put_then number32 d3 s.number (s.file, (s.stamp, (s.stream, (s.op, (s.offset, (s.length, (s.bytes, s.fd))))))) c.put.new.out.items c.put-2.new.out.items c.put-10.new.out.items c.in_ok-put-2.ensures.bytes e3 in
    let e1 = put_then pid d2 s.pid (s.number, (s.file, (s.stamp, (s.stream, (s.op, (s.offset, (s.length, (s.bytes, s.fd)))))))) c.args.out.now.items c.put.new.out.items c.put-10.new.out.items c.in_ok-put.ensures.bytes e2 in
    e1) c.put-10.ensures.bytes
