use Rattle.std.proofs.Common.{◌≡◌, ◌≤◌, ◌+◌, length}
use Rattle.std.specs.List.{AllByRecursion}
use Rattle.text_lines.specs.Lines.{lines_of}
use Rattle.text_rows.specs.Rows.{behind_rows}
use Rattle.frames_text.specs.Parcels.{IsParcel, parcels_read}
use Rattle.frames_text.proofs.reading.read_parcels.Given as goal

-- what was read so far, and then the packets of the rest, are all
abbrev pub invariant-loop-rest : goal.invariant-loop-rest
invariant-loop-rest l = record {
  all : behind_rows l.parcels.items (parcels_read l.kernels l.number (lines_of l.rest)) ≡ parcels_read l.kernels 1 (lines_of l.text);
  parcels : AllByRecursion IsParcel l.parcels.items;
  numbered : l.number ≡ length l.parcels.items + 1;
  few : length l.parcels.items ≤ 65535;
  short : length l.rest ≤ length l.text;
}

abbrev pub decreases-loop-rest : goal.decreases-loop-rest
decreases-loop-rest l = length l.rest
