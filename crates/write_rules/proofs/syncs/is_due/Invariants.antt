use Rattle.std.proofs.Common.{◌≡◌, drop}
use Rattle.std.specs.List.{list_any}
use Rattle.write_rules.specs.Syncs.{is_due_by}
use Rattle.write_rules.proofs.syncs.is_due.Given as goal

abbrev pub invariant-loop-call : goal.invariant-loop-call
invariant-loop-call l = list_any (is_due_by l.syncs l.world l.ps l.kernel l.file) (drop l.call-index l.syncs.pending.items) ≡ list_any (is_due_by l.syncs l.world l.ps l.kernel l.file) l.syncs.pending.items
