use Rattle.std.proofs.Common.{◌≡◌, drop}
use Rattle.client_files.specs.Arrivals.{takes_carried}
use Rattle.client_files.proofs.arrival.take_carried.Given as goal

abbrev pub invariant-loop-stream : goal.invariant-loop-stream
invariant-loop-stream l = takes_carried (drop l.stream-index l.streams) l.files ≡ takes_carried l.streams l.fn.files
