use Rattle.std.proofs.Common.{◌≡◌, take}
use Rattle.std.specs.List.{filter}
use Rattle.server_kernel.specs.Boot.{hangs_in}
use Rattle.server_kernel.proofs.boot.links_of.Given as goal

abbrev pub invariant-loop-link : goal.invariant-loop-link
invariant-loop-link l = l.links ≡ filter (hangs_in l.roots l.root) (take l.link-index l.roots)
