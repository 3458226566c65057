-- Of how many calls a trace tells that a reply came.
use Rattle.std.specs.Prelude.{ℕ, ◌+◌, ◌==◌, ◌&&◌, not, if◌then◌else◌, List, [], ◌∷◌, ◌++◌}
use Rattle.std.specs.List.{list_any}
use Rattle.link_plan.specs.Counts.{same_pair}
use Rattle.kernel_rpc.specs.Runs.{once_if}
use Rattle.unix_calls.specs.declared.Event.{Event}
use Rattle.unix_calls.specs.declared.Event.TheVariants as events
use Rattle.unix_calls.specs.declared.Rec.{Rec}

-- the number of the call of which a kernel tells that a reply came between the two, where it tells that
abbrev pub reply_told : ℕ → ℕ → ℕ → Event → List ℕ
reply_told a b kernel (events.Deliver tx from reply about) = if reply && same_pair a b from kernel then tx.0 ∷ [] else []
reply_told a b kernel event = []

-- the numbers of the calls of which a trace tells that, one for each record
abbrev pub replies_told : ℕ → ℕ → List Rec → List ℕ
replies_told a b [] = []
replies_told a b (r ∷ trace) = reply_told a b r.kernel r.event ++ replies_told a b trace

-- how many different numbers stand in a list: each counts where it stands last
abbrev pub how_many_differ : List ℕ → ℕ
how_many_differ [] = 0
how_many_differ (n ∷ ns) = once_if (not (list_any (λ m. m == n) ns)) + how_many_differ ns

-- of how many calls a trace tells that a reply came between the two, each counted once
abbrev pub calls_replied : ℕ → ℕ → List Rec → ℕ
calls_replied a b trace = how_many_differ (replies_told a b trace)
