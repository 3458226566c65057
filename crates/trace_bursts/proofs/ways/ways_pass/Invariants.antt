use Rattle.std.proofs.Common.{◌≡◌, drop}
use Rattle.trace_bursts.specs.Behind.{is_in}
use Rattle.trace_bursts.specs.Costs.{ways_pass}
use Rattle.trace_bursts.proofs.ways.ways_pass.Given as goal

-- the rest passes the bound exactly where all do
abbrev pub invariant-loop-p : goal.invariant-loop-p
invariant-loop-p l = ways_pass l.c (is_in l.issued.keys) l.most l.sum (drop l.p-index l.ps) ≡ ways_pass l.c (is_in l.issued.keys) l.most l.from l.ps
