use Rattle.std.proofs.Common.{◌≡◌, ◌++◌, take}
use Rattle.server_kernel.proofs.boot.add_roots.Given as goal

abbrev pub invariant-loop-root : goal.invariant-loop-root
invariant-loop-root l = l.roots ≡ l.fn.roots ++ take l.root-index l.more
