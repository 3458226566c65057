use Rattle.wire_format.specs.Codec.{◌before◌, number32}
use Rattle.wire_format.specs.Names.{file, truth}
use Rattle.wire_format.specs.Choices.{caching}
use Rattle.wire_format.proofs.PuttingLaws.{put_then, on_last}
use Rattle.wire_format.proofs.grant.GrantField.put.Goals as goal

pub returns-clause-bytes : goal.returns-clause-bytes
returns-clause-bytes c =
    let s = c.args.self.now in
    let d6 = caching before truth in
    let d5 = number32 before d6 in
    let d4 = number32 before d5 in
    let d3 = number32 before d4 in
    let d2 = number32 before d3 in
    on_last c.put-6.result (λ e7.
    let e6 = put_then caching truth s.on s.holder c.put-5.new.out.items c.put_caching.new.out.items c.put-6.new.out.items c.in_ok-put_caching.ensures e7 in
    let e5 = put_then number32 d6 s.size (s.on, s.holder) c.put-4.new.out.items c.put-5.new.out.items c.put-6.new.out.items c.in_ok-put-5.ensures.bytes e6 in
    let e4 = put_then number32 d5 s.new (s.size, (s.on, s.holder)) c.put-3.new.out.items c.put-4.new.out.items c.put-6.new.out.items c.in_ok-put-4.ensures.bytes e5 in
    let e3 = put_then number32 d4 s.old (s.new, (s.size, (s.on, s.holder))) c.put-2.new.out.items c.put-3.new.out.items c.put-6.new.out.items c.in_ok-put-3.ensures.bytes e4 in
    let e2 = put_then number32 d3 s.stamp (s.old, (s.new, (s.size, (s.on, s.holder)))) c.put.new.out.items c.put-2.new.out.items c.put-6.new.out.items c.in_ok-put-2.ensures.bytes e3 in
    let e1 = put_then file d2 s.file (s.stamp, (s.old, (s.new, (s.size, (s.on, s.holder))))) c.args.out.now.items c.put.new.out.items c.put-6.new.out.items c.in_ok-put.ensures.bytes e2 in
    e1) c.put-6.ensures.bytes
