use Rattle.std.proofs.Common.{subst, take, arith}
use Rattle.std.proofs.lemmas.List.{take_rest}
use Rattle.std.proofs.Math.Seq.{take-add}
use Rattle.std.proofs.KnownBytes.{Appends-trans}
use Rattle.std.specs.Io.KnownBytes.{Appends}
use Rattle.sprite_bytes.proofs.writing.write_all.Goals as goal

-- the bytes of the writes before, and then those of this one
pub writes-preserved : goal.writes-preserved
writes-preserved g c = record {
  put = rw (take-add c.writes.written c.in-Ok.count c.args.bytes.now) (Appends-trans _ _ _ _ _ c.writes.invariant.put (subst (λ xs. Appends (g.K.Sink.held c.writes.sink) (g.K.Sink.held c.write.new.self) (take c.in-Ok.count xs)) (take_rest c.args.bytes.now c.writes.written) c.in-Ok.ensures.appends));
  within = omega (arith, c.in-Ok.ensures);
  later = omega (arith, c.in-Ok.ensures, c.writes.invariant.later);
  begun = c.writes.invariant.begun;
}
