use Rattle.std.proofs.Common.{◌≡◌, ◌≤◌, ◌-◌, ◌++◌}
use Rattle.wire_fragments.specs.Frames.{cut, frames_from}
use Rattle.wire_fragments.proofs.cutting.cut.Given as goal

-- the frames so far, and then those from the next index on, are all
abbrev pub invariant-pieces : goal.invariant-pieces
invariant-pieces l = record {
  all : l.frames.items ++ frames_from l.name l.message l.index (l.count - l.index) ≡ cut l.name l.message;
  within : l.index ≤ l.count;
}

abbrev pub decreases-pieces : goal.decreases-pieces
decreases-pieces l = l.count - l.index
