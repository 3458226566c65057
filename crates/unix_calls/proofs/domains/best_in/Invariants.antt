use Rattle.std.proofs.Common.{◌≡◌, ◌<◌, ◌+◌, ◌^◌, length, drop}
use Rattle.unix_calls.specs.Domains.{best_from}
use Rattle.unix_calls.proofs.domains.best_in.Given as goal

abbrev pub invariant-loop-index : goal.invariant-loop-index
invariant-loop-index l =
    l.place + length l.roots < 2 ^ 64 → best_from l.path l.best (l.place + l.index) (drop l.index l.roots) ≡ best_from l.fn.path l.fn.best l.fn.place l.fn.roots
