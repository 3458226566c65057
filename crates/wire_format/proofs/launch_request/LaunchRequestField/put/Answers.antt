use Rattle.wire_format.specs.Codec.{◌before◌, byte, number32, listed}
use Rattle.wire_format.specs.Names.{pid, descriptor, stream, truth}
use Rattle.wire_format.specs.Objects.{path, carried_stream}
use Rattle.wire_format.proofs.PuttingLaws.{put_then, on_last}
use Rattle.wire_format.proofs.launch_request.LaunchRequestField.put.Goals as goal

pub returns-clause-bytes : goal.returns-clause-bytes
returns-clause-bytes c =
    let s = c.args.self.now in
    let d6 = listed carried_stream before truth in
    let d5 = listed (descriptor before stream) before d6 in
    let d4 = path before d5 in
    let d3 = byte before d4 in
    let d2 = number32 before d3 in
    on_last c.put-7.result (λ e7.
    let e6 = put_then (listed carried_stream) truth s.streams s.killed c.put-5.new.out.items c.put-6.new.out.items c.put-7.new.out.items c.in_ok-put-6.ensures.bytes e7 in
    let e5 = put_then (listed (descriptor before stream)) d6 s.fds (s.streams, s.killed) c.put-4.new.out.items c.put-5.new.out.items c.put-7.new.out.items c.in_ok-put-5.ensures.bytes e6 in
    let e4 = put_then path d5 s.cwd (s.fds, (s.streams, s.killed)) c.put-3.new.out.items c.put-4.new.out.items c.put-7.new.out.items c.in_ok-put-4.ensures.bytes e5 in
    let e3 = put_then byte d4 s.program (s.cwd, (s.fds, (s.streams, s.killed))) c.put-2.new.out.items c.put-3.new.out.items c.put-7.new.out.items c.in_ok-put-3.ensures.bytes e4 in
    let e2 = put_then number32 d3 s.number (s.program, (s.cwd, (s.fds, (s.streams, s.killed)))) c.put.new.out.items c.put-2.new.out.items c.put-7.new.out.items c.in_ok-put-2.ensures.bytes e3 in
    let e1 = put_then pid d2 s.pid (s.number, (s.program, (s.cwd, (s.fds, (s.streams, s.killed))))) c.args.out.now.items c.put.new.out.items c.put-7.new.out.items c.in_ok-put.ensures.bytes e2 in
    e1) c.put-7.ensures.bytes
