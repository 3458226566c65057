use Rattle.std.proofs.Common.{◌≡◌, map, take, length}
use Rattle.program_text.specs.Programs.{aimed}
use Rattle.program_text.proofs.assembly.code_of.Given as goal

-- the code so far has the instructions of the steps so far
abbrev pub invariant-loop-step : goal.invariant-loop-step
invariant-loop-step l = record {
  code : l.code ≡ map (aimed l.labels) (take l.step-index l.steps);
  count : length l.code ≡ l.step-index;
}
