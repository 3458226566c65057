use Rattle.std.proofs.Common.{◌≡◌, drop}
use Rattle.unix_calls.specs.Boot.{filed}
use Rattle.unix_world.proofs.booting.add_files.Given as goal

abbrev pub invariant-loop-place : goal.invariant-loop-place
invariant-loop-place l =
    filed l.lines l.place (drop l.place l.lines) (record { nodes = l.nodes; files = l.files })
    ≡ filed l.lines 0 l.lines (record { nodes = l.fn.nodes; files = l.fn.files })
