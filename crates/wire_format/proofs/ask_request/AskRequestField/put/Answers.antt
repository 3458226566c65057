use Rattle.wire_format.specs.Codec.{◌before◌, number32, text}
use Rattle.wire_format.specs.Names.{pid, descriptor, device}
use Rattle.wire_format.specs.Choices.{ask_kind}
use Rattle.wire_format.proofs.PuttingLaws.{put_then, on_last}
use Rattle.wire_format.proofs.ask_request.AskRequestField.put.Goals as goal

pub returns-clause-bytes : goal.returns-clause-bytes
returns-clause-bytes c =
    let s = c.args.self.now in
    let d6 = text before descriptor in
    let d5 = number32 before d6 in
    let d4 = ask_kind before d5 in
    let d3 = device before d4 in
    let d2 = number32 before d3 in
    on_last c.put-7.result (λ e7.
    let e6 = put_then text descriptor s.bytes s.fd c.put-5.new.out.items c.put-6.new.out.items c.put-7.new.out.items c.in_ok-put-6.ensures.bytes e7 in
    let e5 = put_then number32 d6 s.length (s.bytes, s.fd) c.put-4.new.out.items c.put-5.new.out.items c.put-7.new.out.items c.in_ok-put-5.ensures.bytes e6 in
    let e4 = put_then ask_kind d5 s.kind (s.length, (s.bytes, s.fd)) c.put-3.new.out.items c.put-4.new.out.items c.put-7.new.out.items c.in_ok-put-4.ensures.bytes e5 in
    let e3 = put_then device d4 s.device (s.kind, (s.length, (s.bytes, s.fd))) c.put-2.new.out.items c.put-3.new.out.items c.put-7.new.out.items c.in_ok-put-3.ensures.bytes e4 in
    let e2 = put_then number32 d3 s.number (s.device, (s.kind, (s.length, (s.bytes, s.fd)))) c.put.new.out.items c.put-2.new.out.items c.put-7.new.out.items c.in_ok-put-2.ensures.bytes e3 in
    let e1 = put_then pid d2 s.pid (s.number, (s.device, (s.kind, (s.length, (s.bytes, s.fd))))) c.args.out.now.items c.put.new.out.items c.put-7.new.out.items c.in_ok-put.ensures.bytes e2 in
    e1) c.put-7.ensures.bytes
