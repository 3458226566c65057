use Rattle.std.proofs.Common.{◌≡◌, drop}
use Rattle.file_views.specs.Streams.{stream_mode}
use Rattle.file_coherence.proofs.streams.stream_mode.Given as goal

abbrev pub invariant-loop-one : goal.invariant-loop-one
invariant-loop-one l = stream_mode (drop l.one-index l.opens) l.stream ≡ stream_mode l.opens l.stream
