-- An image goes on, towards a call.
use Rattle.std.specs.Prelude.{◌≡◌, ◌≤◌, ◌<◌, ℕ, ◌+◌, Some, None}
use Rattle.process_machine.specs.declared.program.Program.{Program}
use Rattle.process_machine.specs.Machine.{Machine}
use Rattle.process_machine.specs.Runs.{ahead}
use Rattle.call_journal.specs.WorthBursts.{distance_within}
use Rattle.trace_bursts.specs.declared.going.Went.{Went}
use Rattle.trace_bursts.specs.declared.going.Went.TheVariants as went

-- what became of an image that was to do so many instructions, where a call may come within that many
abbrev pub Goes : Program → Machine → ℕ → ℕ → Went → Machine → Type 0
Goes p old left count (went.On rest) new = (ahead p old count ≡ Some new) × (rest + count ≡ left)
Goes p old left count (went.Called n) new = (distance_within p left old ≡ Some n) × (n < count) × (ahead p old n ≡ Some new)
Goes p old left count went.Never new = distance_within p left old ≡ None

-- how many instructions may be done at once, where so many are left and due
pub record IsLimit (rest due limit : ℕ) : Type 0 where
  pub some : 1 ≤ limit
  pub few : limit ≤ 10000
  pub asked : limit ≤ due
  pub left : limit ≤ rest + 1
  pub within : 1 ≤ rest → limit ≤ rest
