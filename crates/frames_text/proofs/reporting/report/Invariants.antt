use Rattle.std.proofs.Common.{◌≡◌, ◌+◌, ◌++◌, drop}
use Rattle.frames_text.specs.Parcels.{cuts_from}
use Rattle.frames_text.specs.Reports.{has, report}
use Rattle.frames_text.proofs.reporting.report.Given as goal

-- the lines so far, and then those of the packets that are left, are all
abbrev pub invariant-loop-parcel : goal.invariant-loop-parcel
invariant-loop-parcel l = record {
  lines : l.lines.items ++ report (has l.given.keys) (cuts_from l.id (drop l.parcel-index l.parcels)) ≡ report (has l.given.keys) (cuts_from 1 l.parcels);
  numbered : l.id ≡ l.parcel-index + 1;
}
