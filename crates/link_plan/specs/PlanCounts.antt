-- What a link by a plan stands at.
use Rattle.std.specs.Prelude.{ℕ, ◌+◌, ◌-◌, ◌*◌, ◌^◌, nat_lt, if◌then◌else◌, List, slice_index, slice_set, min, max}
use Rattle.link_plan.specs.declared.plan.Fate.{Fate}
use Rattle.link_plan.specs.declared.plan.Fate.TheVariants.{Once}
use Rattle.link_plan.specs.declared.plan.PlanEntry.{PlanEntry}
use Rattle.link_plan.specs.Counts.{raised, is_fault}
use Rattle.link_plan.specs.Fates.{fate_in}

-- the plan; how many packets went from each kernel to each other one; and for each pair its faults, and how often the link
-- was asked about it
pub record PlanCounts : Type 0 where
  pub entries : List PlanEntry
  pub packets : List ℕ
  pub faults : List ℕ
  pub asked : List ℕ

-- where the count of the packets from one kernel to another stands
abbrev pub way : ℕ → ℕ → ℕ
way from to = (from - 1) * 16 + (to - 1)

-- where the count of a pair stands, in either order of the two
abbrev pub pair : ℕ → ℕ → ℕ
pair a b = way (min a b) (max a b)

-- a count after one more, at that place
abbrev pub raised_at : List ℕ → ℕ → List ℕ
raised_at counts place = slice_set counts place (raised (slice_index counts place))

-- the number of the next packet from one kernel to another
abbrev pub next_number : PlanCounts → ℕ → ℕ → ℕ
next_number link from to = raised (slice_index link.packets (way from to))

-- the fault count of the pair
abbrev pub faults_of : PlanCounts → ℕ → ℕ → ℕ
faults_of link a b = slice_index link.faults (pair a b)

-- how often the link was asked about the pair
abbrev pub asked_of : PlanCounts → ℕ → ℕ → ℕ
asked_of link a b = slice_index link.asked (pair a b)

-- the fate of the next packet: that of the plan, but Once where no further fault of the pair can be counted
abbrev pub next_fate : PlanCounts → ℕ → ℕ → Fate
next_fate link from to = if nat_lt (faults_of link from to) (2 ^ 64 - 1) then fate_in link.entries from to (next_number link from to) else Once

-- the fault counts after a packet of that fate
abbrev pub faults_after : List ℕ → ℕ → Fate → List ℕ
faults_after faults place fate = if is_fault fate then raised_at faults place else faults

-- the counts after the next packet from one kernel to another
abbrev pub after_packet : PlanCounts → ℕ → ℕ → PlanCounts
after_packet link from to = record link {
  packets = raised_at link.packets (way from to);
  faults = faults_after link.faults (pair from to) (next_fate link from to);
  asked = raised_at link.asked (pair from to);
}
