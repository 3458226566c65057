-- Blocks that come in and leave, by those that kernels hold.
use Rattle.std.specs.Prelude.{ℕ, Bool, true, not, List}
use Rattle.unix_calls.specs.declared.event.Event.{Event}
use Rattle.unix_calls.specs.declared.event.Event.TheVariants as event
use Rattle.trace_rules.specs.declared.place.BlockAt.{BlockAt}
use Rattle.trace_rules.specs.Places.{has_block}

-- a block may come in, or leave
abbrev pub may_come_or_go : List BlockAt → ℕ → Event → Bool
may_come_or_go held kernel (event.Filled file block) = not (has_block held (record { kernel = kernel; file = file; block = block }))
may_come_or_go held kernel (event.Dropped file block cause) = has_block held (record { kernel = kernel; file = file; block = block })
may_come_or_go held kernel _ = true
