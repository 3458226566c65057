use Rattle.std.proofs.Common.{◌≡◌, take}
use Rattle.std.specs.List.{AllByRecursion}
use Rattle.history_text.specs.Histories.{HasLine, history_of}
use Rattle.history_text.proofs.history.print_history.Given as goal

abbrev pub invariant-loop-place : goal.invariant-loop-place
invariant-loop-place l = record {
  put : l.out.items ≡ history_of (take l.place l.entries);
  have_lines : AllByRecursion HasLine (take l.place l.entries);
}
