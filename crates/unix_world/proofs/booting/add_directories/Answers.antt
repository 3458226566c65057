use Rattle.std.proofs.Common.{List, ◌∙◌, ap, drop, take, ℕ, ◌+◌}
use Rattle.unix_calls.specs.declared.state.Named.{Named}
use Rattle.unix_calls.specs.Boot.{with_directory, with_parts}
use Rattle.unix_world.proofs.BootLaws.{parts_step}
use Rattle.unix_world.proofs.booting.add_directories.Goals as goal

pub loop-count-preserved : goal.loop-count-preserved
loop-count-preserved c =
    let n = c.loop-count.count in
    let path = c.args.path.now in
    let nodes = c.loop-count.nodes in
    ap (λ (ns : List Named). with_parts (take (n + 1) path) (drop (n + 1) path) ns) (c.in_ok-add_directory.ensures ∙ ap (λ (p : List (List ℕ)). with_directory p nodes) c.split_at.ensures.front)
    ∙ parts_step path nodes n c.loop-count-test.true
    ∙ c.loop-count.invariant
