-- What an entry leads to in the one-kernel Unix and at the homes.
use Rattle.std.specs.Prelude.{◌≡◌, ◌≢◌, Some}
use Rattle.home_table.specs.Home.{Table}
use Rattle.unix_calls.specs.declared.Description.{Description}
use Rattle.unix_calls.specs.declared.Entry.{Entry}
use Rattle.unix_calls.specs.State.{Unix}
use Rattle.unix_calls.specs.After.{after}
use Rattle.unix_frames.specs.Order.{AreInOrder}
use Rattle.home_laws.specs.Homes.{TellsTheSame}

-- the one-kernel Unix makes the entry, and behind it the home's table tells the same as it, and so does each other home's, as it was
pub record Goes (c : Description) (u : Unix) (e : Entry) (table : Table) : Type 0 where
  pub later : Unix
  pub entered : after c u e ≡ Some later
  pub order : AreInOrder later.processes
  pub same : TellsTheSame table later
  pub others : (other : Table) → other.home ≢ table.home → TellsTheSame other u → TellsTheSame other later
