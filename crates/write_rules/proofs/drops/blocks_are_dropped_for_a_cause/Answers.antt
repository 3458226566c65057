use Rattle.write_rules.specs.HeldLaws.{none_held}
use Rattle.write_rules.specs.VersionLaws.{versions_start}
use Rattle.write_rules.proofs.drops.blocks_are_dropped_for_a_cause.Goals as goal

pub each_keeps_told-requires-clause-tells : goal.each_keeps_told-requires-clause-tells
each_keeps_told-requires-clause-tells c = record {
  held = none_held c.new-held.result c.new-held.ensures.blocks c.new-held.ensures.files c.new-held.ensures.kernels c.new-held.ensures.recalled;
  versions = versions_start c.args.c.now c.args.trace.now c.in_ok-versions.versions c.in_ok-versions.ensures;
}
