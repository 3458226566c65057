use Rattle.std.proofs.Common.{ap, ◌∙◌}
use native.Mathlib.Numerals.{unary_clauses}
use Rattle.client_streams.specs.Descriptors.{drops_to}
use Rattle.client_streams.proofs.descriptors.drop_each.Goals as goal

pub loop-fd-preserved : goal.loop-fd-preserved
loop-fd-preserved c =
    simp unary_clauses (c.drop_one.ensures ∙ ap (drops_to c.args.pid c.loop-fd.fd c.args.stream.now) c.loop-fd.invariant)
