use Rattle.wire_format.specs.Codec.{◌before◌, number32, text, optional}
use Rattle.wire_format.specs.Names.{pid}
use Rattle.wire_format.specs.Choices.{name_op}
use Rattle.wire_format.specs.Objects.{path}
use Rattle.wire_format.proofs.PuttingLaws.{put_then, on_last}
use Rattle.wire_format.proofs.name_request.NameRequestField.put.Goals as goal

pub returns-clause-bytes : goal.returns-clause-bytes
returns-clause-bytes c =
    let s = c.args.self.now in
    let d7 = text before optional text in
    let d6 = number32 before d7 in
    let d5 = optional path before d6 in
    let d4 = path before d5 in
    let d3 = name_op before d4 in
    let d2 = number32 before d3 in
    on_last c.put-8.result (λ e8.
    let e7 = put_then text (optional text) s.text s.second_text c.put-6.new.out.items c.put-7.new.out.items c.put-8.new.out.items c.in_ok-put-7.ensures.bytes e8 in
    let e6 = put_then number32 d7 s.max (s.text, s.second_text) c.put-5.new.out.items c.put-6.new.out.items c.put-8.new.out.items c.in_ok-put-6.ensures.bytes e7 in
    let e5 = put_then (optional path) d6 s.second (s.max, (s.text, s.second_text)) c.put-4.new.out.items c.put-5.new.out.items c.put-8.new.out.items c.in_ok-put-5.ensures.bytes e6 in
    let e4 = put_then path d5 s.path (s.second, (s.max, (s.text, s.second_text))) c.put-3.new.out.items c.put-4.new.out.items c.put-8.new.out.items c.in_ok-put-4.ensures.bytes e5 in
    let e3 = put_then name_op d4 s.op (s.path, (s.second, (s.max, (s.text, s.second_text)))) c.put-2.new.out.items c.put-3.new.out.items c.put-8.new.out.items c.in_ok-put-3.ensures.bytes e4 in
    let e2 = put_then number32 d3 s.number (s.op, (s.path, (s.second, (s.max, (s.text, s.second_text))))) c.put.new.out.items c.put-2.new.out.items c.put-8.new.out.items c.in_ok-put-2.ensures.bytes e3 in
    let e1 = put_then pid d2 s.pid (s.number, (s.op, (s.path, (s.second, (s.max, (s.text, s.second_text)))))) c.args.out.now.items c.put.new.out.items c.put-8.new.out.items c.in_ok-put.ensures.bytes e2 in
    e1) c.put-8.ensures.bytes
