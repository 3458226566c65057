use Rattle.std.proofs.Common.{◌≡◌, drop}
use Rattle.server_kernel.specs.Boot.{hangs_all}
use Rattle.server_kernel.proofs.server.Server.hang_all.Given as goal

abbrev pub invariant-loop-root : goal.invariant-loop-root
invariant-loop-root l = hangs_all l.parts (drop l.root-index l.serves) l.self ≡ hangs_all l.parts l.serves l.fn.self
