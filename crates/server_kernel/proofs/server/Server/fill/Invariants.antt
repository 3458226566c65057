use Rattle.std.proofs.Common.{◌≡◌, drop}
use Rattle.server_kernel.specs.Boot.{fills}
use Rattle.server_kernel.proofs.server.Server.fill.Given as goal

abbrev pub invariant-loop-line : goal.invariant-loop-line
invariant-loop-line l = fills (drop l.line-index l.lines) l.self ≡ fills l.lines l.fn.self
