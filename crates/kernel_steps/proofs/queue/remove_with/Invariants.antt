use Rattle.std.proofs.Common.{◌≡◌, ◌++◌, ◌≤◌, ◌-◌, length, take, drop}
use Rattle.sprite_ids.specs.Lists.{without}
use Rattle.kernel_steps.specs.Rows.{has_value}
use Rattle.kernel_steps.proofs.queue.remove_with.Given as goal

-- the rows that stay, and those that aren't looked at yet
abbrev pub invariant-rows : goal.invariant-rows
invariant-rows g l = record {
  rest : take l.at l.rows.items ++ without (has_value g.V.PartialEq.eq l.value) (drop l.at l.rows.items) ≡ without (has_value g.V.PartialEq.eq l.value) l.fn.rows.items;
  short : l.at ≤ length l.rows.items;
}

abbrev pub decreases-rows : goal.decreases-rows
decreases-rows g l = length l.rows.items - l.at
