use Rattle.std.proofs.Common.{◌≡◌, ◌++◌, List, ℕ, map}
use Rattle.frames_text.specs.Sending.{AreAsked, frame_of}
use Rattle.frames_text.proofs.sending.send_parcel.Given as goal

-- the frames so far stand behind those of others, and about each the link was asked
abbrev pub invariant-loop-piece : goal.invariant-loop-piece
invariant-loop-piece g l = record {
  frames : map frame_of l.sent.items ≡ map frame_of l.fn.sent.items ++ map (λ (bytes : List ℕ). record { from = l.parcel.from; to = l.parcel.to; bytes = bytes }) l.yielded;
  over : (before : g.row.L.Denot) → AreAsked g.L.Link.faults g.L.Link.asked before l.fn.link l.fn.sent.items → AreAsked g.L.Link.faults g.L.Link.asked before l.link l.sent.items;
}
