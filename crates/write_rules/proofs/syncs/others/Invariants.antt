use Rattle.std.proofs.Common.{◌≡◌, filter, take}
use Rattle.write_rules.specs.Syncs.{is_other}
use Rattle.write_rules.proofs.syncs.others.Given as goal

abbrev pub invariant-loop-call : goal.invariant-loop-call
invariant-loop-call l = l.kept.items ≡ filter (is_other l.pid l.number) (take l.call-index l.pending)
