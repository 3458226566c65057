use Rattle.std.proofs.Common.{◌++◌, take, arith, rules, length-append, length-take}
use Rattle.std.proofs.KnownBytes.{Consumes-trans}
use Rattle.sprite_bytes.specs.Ends.{CameWithin}
use Rattle.sprite_bytes.proofs.reading.read_all.Goals as goal

-- the bytes of all reads, the last one's too
pub returns-then-room-count-clause-long : goal.returns-then-room-count-clause-long
returns-then-room-count-clause-long g c = record {
  came = c.reads.all.items ++ take c.in-Ok.count c.read.new.buf;
  read = Consumes-trans _ _ _ _ _ c.reads.invariant.took c.in-Ok.ensures.takes.0;
  over = simp (length-append, length-take) (omega (arith, c.in-Ok.ensures, c.read.auto.buf, length-take c.min-wanted.result c.reads.buffer));
}

pub returns-in_err-extend_from_slice-clause-long :
    goal.returns-in_err-extend_from_slice-clause-long
returns-in_err-extend_from_slice-clause-long g c =
    let within : CameWithin (g.S.Source.left c.args.source.now) (g.S.Source.left c.read.new.self) c.args.limit = record {
      came = c.reads.all.items ++ take c.in-Ok.count c.read.new.buf;
      read = Consumes-trans _ _ _ _ _ c.reads.invariant.took c.in-Ok.ensures.takes.0;
      within = simp (length-append, length-take) (omega (arith, c.in-Ok.ensures, c.read.auto.buf, length-take c.min-wanted.result c.reads.buffer));
    } in search (rules, within)
