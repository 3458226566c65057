use Rattle.std.proofs.Common.{◌≡◌, ◌++◌, ◌-◌, drop, take, length}
use Rattle.unix_calls.specs.DeviceCalls.{without_answer}
use Rattle.unix_world.proofs.devices.drop_answers.Given as goal

abbrev pub invariant-loop-at : goal.invariant-loop-at
invariant-loop-at l = take l.at l.answers ++ without_answer l.pid (drop l.at l.answers) ≡ without_answer l.pid l.fn.answers

abbrev pub decreases-loop-at : goal.decreases-loop-at
decreases-loop-at l = length l.answers - l.at
