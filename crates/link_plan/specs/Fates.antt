-- The rule of fates: what a plan makes of the packets from one kernel to another.
use Rattle.std.specs.Prelude.{ℕ, ◌-◌, ◌/◌, ◌%◌, ◌==◌, nat_le, nat_lt, Bool, true, ◌&&◌, if◌then◌else◌, List, [], ◌∷◌, Option, Some, None}
use Rattle.link_plan.specs.declared.plan.Fate.{Fate}
use Rattle.link_plan.specs.declared.plan.Fate.TheVariants.{Once}
use Rattle.link_plan.specs.declared.plan.PlanEntry.{PlanEntry}

-- whether the end of an entry is that kernel; None is any kernel
abbrev pub is_end : Option ℕ → ℕ → Bool
is_end None kernel = true
is_end (Some end) kernel = end == kernel

-- whether the number is one of `first`, `first + every`, and so on, `count` of them
abbrev pub is_turn : PlanEntry → ℕ → Bool
is_turn entry number = nat_le 1 entry.every && nat_le entry.first number && ((number - entry.first) % entry.every == 0) && nat_lt ((number - entry.first) / entry.every) entry.count

-- whether a packet meets the entry: the packets from one kernel to another are counted from 1
abbrev pub meets : ℕ → ℕ → ℕ → PlanEntry → Bool
meets from to number entry = is_end entry.from from && is_end entry.to to && is_turn entry number

-- the fate of a packet: the first entry that it meets gives it; a packet that meets none arrives once
abbrev pub fate_in : List PlanEntry → ℕ → ℕ → ℕ → Fate
fate_in [] from to number = Once
fate_in (entry ∷ rest) from to number = if meets from to number entry then entry.fate else fate_in rest from to number
