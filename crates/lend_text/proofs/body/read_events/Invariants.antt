use Rattle.std.proofs.Common.{◌≡◌, ◌≤◌, ◌+◌, length}
use Rattle.std.specs.List.{AllByRecursion}
use Rattle.host_lending.specs.Lending.{IsWithin}
use Rattle.text_lines.specs.Lines.{lines_of}
use Rattle.text_rows.specs.Rows.{behind_rows}
use Rattle.lend_text.specs.Bodies.{events_read}
use Rattle.lend_text.proofs.body.read_events.Given as goal

-- what was read so far, and then the events of the rest, are all
abbrev pub invariant-loop-rest : goal.invariant-loop-rest
invariant-loop-rest l = record {
  all : behind_rows l.events.items (events_read l.hosts l.number (lines_of l.rest)) ≡ events_read l.hosts 2 (lines_of l.text);
  within : AllByRecursion (IsWithin l.hosts) l.events.items;
  counted : l.number + length l.rest ≤ length l.text + 2;
}

abbrev pub decreases-loop-rest : goal.decreases-loop-rest
decreases-loop-rest l = length l.rest
