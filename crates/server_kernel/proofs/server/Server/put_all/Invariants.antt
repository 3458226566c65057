use Rattle.std.proofs.Common.{◌≡◌, drop}
use Rattle.server_kernel.specs.Waits.{puts_all}
use Rattle.server_kernel.proofs.server.Server.put_all.Given as goal

abbrev pub invariant-loop-block : goal.invariant-loop-block
invariant-loop-block l = puts_all l.file l.size (drop l.block-index l.blocks) l.self ≡ puts_all l.file l.size l.blocks l.fn.self
