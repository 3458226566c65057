use Rattle.std.proofs.Common.{◌≡◌, ◌<◌, ◌+◌, length, drop}
use Rattle.unix_calls.specs.Domains.{roots_of, server_from, server_of}
use Rattle.unix_calls.proofs.domains.line_of.Given as goal

abbrev pub invariant-loop-index : goal.invariant-loop-index
invariant-loop-index l =
    record {
      there : l.left < length (roots_of (drop l.index l.lines));
      same : server_from (l.index + 1) (drop l.index l.lines) l.left ≡ server_of l.fn.lines l.fn.domain;
    }
