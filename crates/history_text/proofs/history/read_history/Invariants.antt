use Rattle.std.proofs.Common.{◌≡◌, ◌++◌, length}
use Rattle.std.specs.List.{AllByRecursion}
use Rattle.history_text.specs.Histories.{HasLine, history_of}
use Rattle.history_text.proofs.history.read_history.Given as goal

abbrev pub invariant-loop-from : goal.invariant-loop-from
invariant-loop-from l = record {
  parts : l.fn.text ≡ history_of l.entries.items ++ l.from;
  have_lines : AllByRecursion HasLine l.entries.items;
}

abbrev pub decreases-loop-from : goal.decreases-loop-from
decreases-loop-from l = length l.from
