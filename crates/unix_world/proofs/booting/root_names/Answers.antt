use Rattle.std.proofs.Common.{List, ℕ, ◌+◌, ◌∙◌, ap, drop}
use Rattle.unix_calls.specs.declared.state.Named.{Named}
use Rattle.unix_calls.specs.Boot.{with_roots}
use Rattle.unix_calls.specs.Domains.{roots_of}
use Rattle.unix_world.proofs.BootLaws.{roots_step}
use Rattle.unix_world.proofs.booting.root_names.Goals as goal

pub loop-line-preserved : goal.loop-line-preserved
loop-line-preserved c =
    let lines = c.args.lines.now in
    let i = c.loop-line.line-index in
    let nodes = c.loop-line.nodes in
    ap (λ (ns : List Named). with_roots (roots_of (drop (i + 1) lines)) ns) (c.in_ok-add_roots.ensures ∙ ap (λ (rs : List (List (List ℕ))). with_roots rs nodes) c.as_slice.ensures)
    ∙ roots_step lines i c.line-item.result nodes c.loop-line-test.true c.line-item.is
    ∙ c.loop-line.invariant
