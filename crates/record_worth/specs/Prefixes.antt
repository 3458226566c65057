-- Prefixes that are learned, by those that kernels have learned.
use Rattle.std.specs.Prelude.{ℕ, Bool, true, List}
use Rattle.unix_calls.specs.declared.event.Event.{Event}
use Rattle.unix_calls.specs.declared.event.Event.TheVariants as event
use Rattle.trace_rules.specs.declared.learned.Learned.{Learned}
use Rattle.trace_rules.specs.Learned.{is_new}

-- a prefix that is learned is one that the kernel hasn't learned
abbrev pub is_new_learned : List Learned → ℕ → Event → Bool
is_new_learned learned kernel (event.Learned prefix server) = is_new learned kernel prefix
is_new_learned learned kernel _ = true
