use Rattle.std.proofs.Common.{◌≡◌, ◌≤◌, ◌-◌, vec_len}
use Rattle.std.specs.Io.KnownBytes.{Consumes}
use Rattle.sprite_bytes.proofs.reading.read_all.Given as goal

abbrev pub invariant-reads : goal.invariant-reads
invariant-reads g l = record {
  took : Consumes (g.S.Source.left l.fn.source) (g.S.Source.left l.source) l.all.items;
  short : vec_len l.all ≤ l.limit;
  later : g.S.Source.faults l.fn.source ≤ g.S.Source.faults l.source;
  begun : l.before ≡ g.S.Source.faults l.fn.source;
}

-- each read but the last gives at least one byte
abbrev pub decreases-reads : goal.decreases-reads
decreases-reads g l = l.limit - vec_len l.all
