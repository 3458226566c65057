use Rattle.std.proofs.Common.{◌≡◌, ◌+◌, ◌++◌, map, drop}
use Rattle.frames_text.specs.Parcels.{cuts_from}
use Rattle.frames_text.specs.Sending.{AreAsked, all_framed, frame_of}
use Rattle.frames_text.proofs.sending.send_all.Given as goal

-- the frames so far, and then those of the packets that are left, are all; and about each the link was asked
abbrev pub invariant-loop-parcel : goal.invariant-loop-parcel
invariant-loop-parcel g l = record {
  frames : map frame_of l.sent.items ++ all_framed (cuts_from l.id (drop l.parcel-index l.parcels)) ≡ all_framed (cuts_from 1 l.parcels);
  over : AreAsked g.L.Link.faults g.L.Link.asked l.fn.link l.link l.sent.items;
  numbered : l.id ≡ l.parcel-index + 1;
}
