use Rattle.std.proofs.Common.{◌≡◌, ◌<◌, ℕ, not, true, false, drop, get_or}
use Rattle.std.specs.List.{list_any}
use Rattle.kernel_rpc.proofs.ports.first_free.Given as goal

-- the places so far are marked
abbrev pub invariant-loop-port : goal.invariant-loop-port
invariant-loop-port l = record {
  before : (lower : ℕ) → lower < l.port → get_or l.used lower false ≡ true;
  some : list_any not (drop l.port l.used) ≡ true;
}
