-- What a history comes to, with the state that it leads to.
use Rattle.std.specs.Prelude.{◌≡◌, ℕ, List, Some}
use Rattle.unix_calls.specs.declared.description.Description.{Description}
use Rattle.unix_calls.specs.declared.entry.Entry.{Entry}
use Rattle.unix_calls.specs.After.{state_of}
use Rattle.unix_world.specs.Among.{Ascending}
use Rattle.unix_world.specs.Worlds.{unix_of}
use Rattle.one_kernel.specs.declared.verdict.Verdict.TheVariants as verdict
use Rattle.one_kernel.specs.declared.replaying.Replayed.{Replayed}
use Rattle.one_kernel.specs.declared.replaying.Replayed.TheVariants as replay
use Rattle.one_kernel.specs.Verdicts.{verdict_of}

-- the verdict on a history; where it is legal, the state after it is that one, with its processes by ascending number
abbrev pub ReplaysTo : Description → ℕ → List Entry → Replayed → Type 0
ReplaysTo c most journal (replay.Legal w ps) =
    (verdict_of c most journal ≡ verdict.Legal) × (state_of c journal ≡ Some (unix_of c w ps)) × Ascending ps
ReplaysTo c most journal (replay.NotLegal n) = verdict_of c most journal ≡ verdict.NotLegal n
ReplaysTo c most journal (replay.Steps n) = verdict_of c most journal ≡ verdict.Steps n
