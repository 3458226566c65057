use Rattle.std.proofs.Common.{◌≡◌, Ok, drop}
use Rattle.cluster_file.specs.Refusals.{read_on}
use Rattle.cluster_file.specs.Names.{start_line, start_lines}
use Rattle.cluster_file.proofs.hosts.start_lines.Given as goal

-- the rest, read behind what was read so far, gives what all give
abbrev pub invariant-loop-start : goal.invariant-loop-start
invariant-loop-start l = read_on (start_line l.programs) (Ok l.lines) (drop l.start-index l.starts) ≡ start_lines l.programs l.starts
